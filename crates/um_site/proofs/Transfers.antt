-- The cells of a board stay as they are when views change, except for turns and filled cells, and when another site's word changes.
use Rattle.std.proofs.Common.{◌≡◌, ℕ, ◌+◌, ◌%◌, ◌<◌, ◌≤◌, true, List, [], ◌∷◌, ◌++◌, ◌⊎◌, inl, inr, ⊎_elim, Option, Some, None, get_or, set, sym, refl, ap, ◌∙◌, subst, arith, length-set, get_or-set_other}
use mathlib.Core.Logic.{dite}
use mathlib.Core.Option.{some, some-injective}
use mathlib.Core.Option as found
use native.Mathlib.Decide.{ℕ_discrete}
use lib.ListN.{get_elem?}
use Rattle.atomic_table.proofs.Lists.{at_set, at_longer, set_here, set_else}
use Rattle.um_words.specs.declared.fine.FineAct.{FineAct}
use Rattle.um_words.specs.declared.made.Made.{Made}
use Rattle.um_words.specs.Exchanges.{Exchange}
use Rattle.um_base.specs.declared.image.Image.{Image}
use Rattle.um_site.specs.declared.turn.Turn.{Turn}
use Rattle.um_site.specs.declared.view.View.{View}
use Rattle.um_words.specs.History.{Entry, by_site}
use Rattle.um_site.specs.History.{splitter, newborn, joiner, spent, shadow_of}
use Rattle.um_site.specs.Cells.{AmongCells, ContentsAre, CellsAre}
use Rattle.um_site.proofs.Keeps.{in_range, by_site_else}
use Rattle.um_site.proofs.Joining.{at_end}

abbrev pub InSome : List View → ℕ → Type 0
InSome views i = (id : ℕ) × (w : View) × (get_elem? views id ≡ some w) × (w.live ≡ true) × AmongCells w.filled i

-- each turn stays with its seat, and each cell that a seat knows as filled was so
pub record IsAlike (views views' : List View) : Type 0 where
  pub back : (j : ℕ) (x : View) → get_elem? views' j ≡ some x → x.live ≡ true → (t : Turn) → x.turn ≡ Some t → (w : View) × (get_elem? views j ≡ some w) × (w.live ≡ true) × (w.turn ≡ Some t)
  pub forth : (j : ℕ) (w : View) → get_elem? views j ≡ some w → w.live ≡ true → (t : Turn) → w.turn ≡ Some t → (x : View) × (get_elem? views' j ≡ some x) × (x.live ≡ true) × (x.turn ≡ Some t)
  pub filled : (j : ℕ) (x : View) → get_elem? views' j ≡ some x → x.live ≡ true → (i : ℕ) → AmongCells x.filled i → InSome views i

pub alike_then : (a b c : List View) → IsAlike a b → IsAlike b c → IsAlike a c
alike_then a b c s t = record {
  back = λ j x jx lx u has. let w = t.back j x jx lx u has in s.back j w.0 w.1 w.2 u w.3;
  forth = λ j w jw lw u has. let x = s.forth j w jw lw u has in t.forth j x.0 x.1 x.2 u x.3;
  filled = λ j x jx lx i a. let w = t.filled j x jx lx i a in s.filled w.0 w.1 w.2 w.3 i w.4;
}

pub alike_set : (views : List View) (id : ℕ) (v v' : View) → get_elem? views id ≡ some v → v.live ≡ true
    → (v'.live ≡ true → (t : Turn) → v'.turn ≡ Some t → v.turn ≡ Some t) → ((t : Turn) → v.turn ≡ Some t → (v'.live ≡ true) × (v'.turn ≡ Some t)) → (v'.live ≡ true → (i : ℕ) → AmongCells v'.filled i → InSome views i) → IsAlike views (set views id v')
alike_set views id v v' at lives back forth filled = record {
  back = λ j x jx lx t has. ⊎_elim
      (λ p. (v, ap (get_elem? views) p.0 ∙ at, lives, back (ap (λ (z : View). z.live) p.1 ∙ lx) t (ap (λ (z : View). z.turn) p.1 ∙ has)))
      (λ p. (x, p.1, lx, has))
      (at_set views id j v' x jx);
  forth = λ j w jw lw t has. dite (ℕ_discrete j id)
      (λ q. let e : w ≡ v = some-injective w v (sym jw ∙ (ap (get_elem? views) q ∙ at)) in let f = forth t (ap (λ (z : View). z.turn) (sym e) ∙ has) in
      (v', ap (get_elem? (set views id v')) q ∙ set_here views id v' (in_range views id v at), f.0, f.1))
      (λ ne. (w, set_else views id j v' ne ∙ jw, lw, has));
  filled = λ j x jx lx i a. ⊎_elim
      (λ p. filled (ap (λ (z : View). z.live) p.1 ∙ lx) i (subst (λ (z : View). AmongCells z.filled i) (sym p.1) a))
      (λ p. (j, x, p.1, lx, a))
      (at_set views id j v' x jx);
}

-- the view of a seat that keeps its turn and its cells
pub alike_same : (views : List View) (id : ℕ) (v v' : View) → get_elem? views id ≡ some v → v.live ≡ true → v'.live ≡ true → v'.turn ≡ v.turn → v'.filled ≡ v.filled → IsAlike views (set views id v')
alike_same views id v v' at lives lives' turn filled = alike_set views id v v' at lives (λ l t has. sym turn ∙ has) (λ t has. (lives', turn ∙ has))
    (λ l i a. (id, v, at, lives, subst (λ (c : List ℕ). AmongCells c i) filled a))

pub alike_longer : (views : List View) (n : View) → (n.live ≡ true → (t : Turn) → n.turn ≡ Some t → ⊥) → (n.live ≡ true → (i : ℕ) → AmongCells n.filled i → InSome views i) → IsAlike views (views ++ n ∷ [])
alike_longer views n none filled = record {
  back = λ j x jx lx t has. ⊎_elim
      (λ old. (x, old, lx, has))
      (λ p. absurd (none (ap (λ (z : View). z.live) p.1 ∙ lx) t (ap (λ (z : View). z.turn) p.1 ∙ has)))
      (at_end views n x j jx);
  forth = λ j w jw lw t has. (w, at_longer views (n ∷ []) j w jw, lw, has);
  filled = λ j x jx lx i a. ⊎_elim
      (λ old. (j, x, old, lx, a))
      (λ p. filled (ap (λ (z : View). z.live) p.1 ∙ lx) i (subst (λ (z : View). AmongCells z.filled i) (sym p.1) a))
      (at_end views n x j jx);
}

pub no_turn : (t : Turn) → None ≡ Some t → ⊥
no_turn t e = cc

pub alike_split : (views : List View) (id : ℕ) (v : View) → get_elem? views id ≡ some v → v.live ≡ true → IsAlike views (set views id (splitter v) ++ newborn v ∷ [])
alike_split views id v at lives = alike_then views (set views id (splitter v)) (set views id (splitter v) ++ newborn v ∷ []) (alike_same views id v (splitter v) at lives lives refl refl)
    (alike_longer (set views id (splitter v)) (newborn v) (λ l t has. no_turn t has) (λ l i a. (id, splitter v, set_here views id (splitter v) (in_range views id v at), lives, a)))

pub alike_shadow : (views : List View) (v : View) → IsAlike views (views ++ shadow_of v ∷ [])
alike_shadow views v = alike_longer views (shadow_of v) (λ l t has. cc) (λ l i a. absurd (cc))

among_both : (cs ds : List ℕ) (i : ℕ) → AmongCells (cs ++ ds) i → AmongCells cs i ⊎ AmongCells ds i
among_both [] ds i a = inr a
among_both (c ∷ cs) ds i a = ⊎_elim (λ e. inl (inl e)) (λ b. ⊎_elim (λ d. inl (inr d)) inr (among_both cs ds i b)) a

pub alike_join : (views : List View) (id : ℕ) (v : View) (other : ℕ) (w : View) → get_elem? views id ≡ some v → v.live ≡ true → get_elem? views other ≡ some w → w.live ≡ true → w.turn ≡ None → ¬ (other ≡ id)
    → IsAlike views (set (set views id (joiner v w)) other spent)
alike_join views id v other w at lives bt lives' none ne = let mid : List View = set views id (joiner v w) in alike_then views mid (set mid other spent)
    (alike_set views id v (joiner v w) at lives (λ l t has. has) (λ t has. (lives, has)) (λ l i a. ⊎_elim (λ b. (id, v, at, lives, b)) (λ b. (other, w, bt, lives', b)) (among_both v.filled w.filled i a)))
    (alike_set mid other w spent (set_else views id other (joiner v w) ne ∙ bt) lives' (λ l t has. absurd (cc)) (λ t has. absurd (no_turn t (sym none ∙ has))) (λ l i a. absurd (cc)))

module _ {T : Type 0} (opens : Image → ℕ → T → Type 0) (follows : T → FineAct → Exchange → T → Type 0) (image : Image) where
  pub cells_alike : (words : List ℕ) (homes : List (found.Option (Option T))) (h : List Entry) (views views' : List View) → IsAlike views views' → CellsAre opens follows image words homes h views → CellsAre opens follows image words homes h views'
  cells_alike words homes h views views' s c = record {
    home = λ k here inside even. let y = c.home k here inside even in (y.0, y.1, λ j x jx lx a. let f = s.filled j x jx lx (168 + k) a in y.2 f.0 f.1 f.2 f.3 f.4);
    held = λ i cell inside odd. let w = c.held i cell inside odd in let f = s.forth w.0 w.1 w.3 w.4 w.2 w.5 in (w.0, f.0, w.2, f.1, f.2, f.3, w.6);
    turns = λ j x jx lx t has. let b = s.back j x jx lx t has in c.turns j b.0 b.1 b.2 t b.3;
    one = λ i j x y ix jy lx ly t u ht hu same. let b = s.back i x ix lx t ht in let d = s.back j y jy ly u hu in c.one i j b.0 d.0 b.1 d.1 b.2 d.2 t u b.3 d.3 same;
    known = λ i j x y ix jy lx ly t has a. let b = s.back i x ix lx t has in let f = s.filled j y jy ly t.site a in c.known i f.0 b.0 f.1 b.1 f.2 b.2 f.3 t b.3 f.4;
    filled = λ j x jx lx i a. let f = s.filled j x jx lx i a in c.filled f.0 f.1 f.2 f.3 i f.4;
  }

  -- a step of a site that is no cell
  pub cells_elsewhere : (words : List ℕ) (homes : List (found.Option (Option T))) (h : List Entry) (views : List View) (n : List ℕ) (m : Made) → m.site < 168 → CellsAre opens follows image words homes h views → CellsAre opens follows image (set words m.site m.word) homes (h ++ (n, m) ∷ []) views
  cells_elsewhere words homes h views n m low c = let long = length-set words m.site m.word in
      let word : (i : ℕ) → 168 ≤ i → get_or (set words m.site m.word) i 0 ≡ get_or words i 0 = λ i far. get_or-set_other words m.site i m.word 0 (λ q. omega arith) in
      let steps : (i : ℕ) → 168 ≤ i → by_site i (h ++ (n, m) ∷ []) ≡ by_site i h = λ i far. by_site_else h n m i (λ q. omega arith) in
      record {
        home = λ k here inside even. let y = c.home k here (omega arith) (ap (λ w. w % 2) (sym (word (168 + k) (omega arith))) ∙ even) in
            (y.0, y.1, λ id v at lives a. subst (λ (l : List Made). ContentsAre opens follows image (168 + k) l y.0) (sym (steps (168 + k) (omega arith))) (y.2 id v at lives a));
        held = λ i cell inside odd. c.held i cell (omega arith) (ap (λ w. w % 2) (sym (word i cell)) ∙ odd);
        turns = λ id v at lives t has. let u = c.turns id v at lives t has in
            record { cell = u.cell; inside = let a = u.inside in omega arith; slot = u.slot; free = u.free; taken = word t.site u.cell ∙ u.taken; past = steps t.site u.cell ∙ u.past };
        one = c.one;
        known = c.known;
        filled = λ id v at lives i a. let f = c.filled id v at lives i a in (f.0, let g = f.1 in omega arith, f.2);
      }
