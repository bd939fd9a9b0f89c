-- The cells of a board when a turn is taken, and when it is given back.
use Rattle.std.proofs.Common.{◌≡◌, ◌≢◌, ℕ, ◌+◌, ◌-◌, ◌%◌, ◌<◌, ◌≤◌, true, List, ◌⊎◌, ⊎_elim, Option, Some, None, length, get_or, set, sym, refl, ap, ◌∙◌, subst, arith, length-set, get_or-set_same, get_or-set_other}
use mathlib.Core.Logic.{dite}
use mathlib.Core.Option.{some, none, some-injective}
use mathlib.Core.Option as found
use native.Mathlib.Decide.{ℕ_discrete}
use lib.ListN.{get_elem?}
use Rattle.atomic_table.proofs.Lists.{at_set, set_here, set_else}
use Rattle.um_words.specs.declared.fine.FineAct.{FineAct}
use Rattle.um_words.specs.declared.made.Made.{Made}
use Rattle.um_words.specs.Exchanges.{Exchange}
use Rattle.um_base.specs.declared.image.Image.{Image}
use Rattle.um_site.specs.declared.turn.Turn.{Turn}
use Rattle.um_site.specs.declared.view.View.{View}
use Rattle.um_words.specs.History.{Entry, by_site}
use Rattle.um_site.specs.Tells.{taking}
use Rattle.um_site.specs.Cells.{AmongCells, IsTurn, ContentsAre, CellsAre}
use Rattle.um_site.proofs.Keeps.{in_range}

odd_next : (w : ℕ) → w % 2 ≡ 0 → (w + 1) % 2 ≡ 1
odd_next w e = omega arith

pub same_turn : (v : View) (t u : Turn) → v.turn ≡ Some t → v.turn ≡ Some u → t ≡ u
same_turn v t u a b = let e : Some t ≡ Some u = sym a ∙ b in cc

no_turn : (v : View) (t : Turn) → v.turn ≡ None → v.turn ≡ Some t → ⊥
no_turn v t a b = let e : None ≡ Some t = sym a ∙ b in cc

slot_of : (k : ℕ) → 168 + k - 168 ≡ k
slot_of k = omega arith

module _ {T : Type 0} (opens : Image → ℕ → T → Type 0) (follows : T → FineAct → Exchange → T → Type 0) (image : Image) (words : List ℕ) (homes : List (found.Option (Option T))) (views : List View) where
  -- the word of a turn that is out is odd
  is_odd : (h : List Entry) (t : Turn) → IsTurn words (length homes) h t → get_or words t.site 0 % 2 ≡ 1
  is_odd h t u = ap (λ w. w % 2) u.taken ∙ odd_next t.word u.free

  not_out : (h : List Entry) (t : Turn) (i : ℕ) → IsTurn words (length homes) h t → get_or words i 0 % 2 ≡ 0 → t.site ≢ i
  not_out h t i u even e = let o = is_odd h t u in let q : get_or words t.site 0 % 2 ≡ 0 = ap (λ j. get_or words j 0 % 2) e ∙ even in omega arith

  module _ (id : ℕ) (v : View) (at : get_elem? views id ≡ some v) (lives : v.live ≡ true) where
    pub take_cells : (h : List Entry) (i : ℕ) → 168 ≤ i → i < length words → i < 168 + length homes → get_or words i 0 % 2 ≡ 0 → v.turn ≡ None → CellsAre opens follows image words homes h views
        → CellsAre opens follows image (set words i (get_or words i 0 + 1)) (set homes (i - 168) none) h (set views id (taking v i (get_or words i 0) (by_site i h)))
    take_cells h i cell in' slot even idle c =
        let w : ℕ = get_or words i 0 in
        let v' = taking v i w (by_site i h) in
        let long = length-set words i (w + 1) in
        let wide : length (set homes (i - 168) none) ≡ length homes = length-set homes (i - 168) none in
        let mine : Turn = record { site = i; word = w; past = by_site i h } in
        let new : IsTurn (set words i (w + 1)) (length (set homes (i - 168) none)) h mine =
        record { cell = cell; inside = omega arith; slot = omega arith; free = even; taken = get_or-set_same words i (w + 1) 0 in'; past = refl } in
        let other : (t : Turn) → IsTurn words (length homes) h t → IsTurn (set words i (w + 1)) (length (set homes (i - 168) none)) h t = λ t u.
        record { cell = u.cell; inside = let a = u.inside in omega arith; slot = let a = u.slot in omega arith; free = u.free; taken = get_or-set_other words i t.site (w + 1) 0 (not_out h t i u even) ∙ u.taken; past = u.past } in
        record {
          home = λ k here inside e. dite (ℕ_discrete (168 + k) i)
              (λ q. absurd (let o = odd_next w even in let z : get_or (set words i (w + 1)) (168 + k) 0 ≡ w + 1 = ap (λ j. get_or (set words i (w + 1)) j 0) q ∙ get_or-set_same words i (w + 1) 0 in' in
              let y = ap (λ n. n % 2) z in omega arith))
              (λ ne. let y = c.home k (omega arith) (omega arith) (ap (λ n. n % 2) (sym (get_or-set_other words i (168 + k) (w + 1) 0 ne)) ∙ e) in (
                y.0,
                set_else homes (i - 168) k none (λ q. ne (omega arith)) ∙ y.1,
                λ j x jx lx a. ⊎_elim (λ p. y.2 id v at lives (subst (λ (z : View). AmongCells z.filled (168 + k)) (sym p.1) a)) (λ p. y.2 j x p.1 lx a) (at_set views id j v' x jx),
              ));
          held = λ j far inside odd. dite (ℕ_discrete j i)
              (λ q. (id, v', mine, set_here views id v' (in_range views id v at), lives, refl, sym q))
              (λ ne. let b = c.held j far (omega arith) (ap (λ n. n % 2) (sym (get_or-set_other words i j (w + 1) 0 ne)) ∙ odd) in
              dite (ℕ_discrete b.0 id)
              (λ q. absurd (no_turn v b.2 idle (subst (λ (z : View). z.turn ≡ Some b.2) (some-injective b.1 v (sym b.3 ∙ (ap (get_elem? views) q ∙ at))) b.5)))
              (λ away. (b.0, b.1, b.2, set_else views id b.0 v' away ∙ b.3, b.4, b.5, b.6)));
          turns = λ j x jx lx t has. ⊎_elim
              (λ p. subst (IsTurn (set words i (w + 1)) (length (set homes (i - 168) none)) h) (same_turn v' mine t refl (subst (λ (z : View). z.turn ≡ Some t) (sym p.1) has)) new)
              (λ p. other t (c.turns j x p.1 lx t has))
              (at_set views id j v' x jx);
          one = λ j k x y jx ky lx ly t u ht hu same. ⊎_elim
              (λ p. ⊎_elim
              (λ q. p.0 ∙ sym q.0)
              (λ q. absurd (not_out h u i (c.turns k y q.1 ly u hu) even (sym same ∙ ap (λ (z : Turn). z.site) (sym (same_turn v' mine t refl (subst (λ (z : View). z.turn ≡ Some t) (sym p.1) ht))))))
              (at_set views id k v' y ky))
              (λ p. ⊎_elim
              (λ q. absurd (not_out h t i (c.turns j x p.1 lx t ht) even (same ∙ ap (λ (z : Turn). z.site) (sym (same_turn v' mine u refl (subst (λ (z : View). z.turn ≡ Some u) (sym q.1) hu))))))
              (λ q. c.one j k x y p.1 q.1 lx ly t u ht hu same)
              (at_set views id k v' y ky))
              (at_set views id j v' x jx);
          known = λ j k x y jx ky lx ly t has a. ⊎_elim
              (λ p.
              let is : mine ≡ t = same_turn v' mine t refl (subst (λ (z : View). z.turn ≡ Some t) (sym p.1) has) in
              let here : 168 + (i - 168) ≡ i = omega arith in
              let b = c.home (i - 168) (omega arith) (omega arith) (subst (λ n. get_or words n 0 % 2 ≡ 0) (sym here) even) in
              let a' : AmongCells y.filled (168 + (i - 168)) = subst (AmongCells y.filled) (ap (λ (z : Turn). z.site) (sym is) ∙ sym here) a in
              let now = ⊎_elim (λ q. b.2 id v at lives (subst (λ (z : View). AmongCells z.filled (168 + (i - 168))) (sym q.1) a')) (λ q. b.2 k y q.1 ly a') (at_set views id k v' y ky) in
              subst (λ (r : Turn). (z : Option T) × ContentsAre opens follows image r.site r.past z) is (b.0, subst (λ n. ContentsAre opens follows image n (by_site n h) b.0) here now))
              (λ p. ⊎_elim
              (λ q. c.known j id x v p.1 at lx lives t has (subst (λ (z : View). AmongCells z.filled t.site) (sym q.1) a))
              (λ q. c.known j k x y p.1 q.1 lx ly t has a)
              (at_set views id k v' y ky))
              (at_set views id j v' x jx);
          filled = λ j x jx lx k a. let f : (168 ≤ k) × (k < length words) × (k < 168 + length homes) = ⊎_elim (λ p. c.filled id v at lives k (subst (λ (z : View). AmongCells z.filled k) (sym p.1) a)) (λ p. c.filled j x p.1 lx k a) (at_set views id j v' x jx) in
              (f.0, let g = f.1 in omega arith, let g = f.2 in omega arith);
        }

    -- the turn goes back with an even word and with contents, where no other cell makes a step
    pub give_cells : (h h' : List Entry) (t : Turn) (z : ℕ) (y : Option T) (v' : View) → v.turn ≡ Some t → z % 2 ≡ 0 → ((i : ℕ) → i ≢ t.site → by_site i h' ≡ by_site i h) → ContentsAre opens follows image t.site (by_site t.site h') y
        → v'.turn ≡ None → ((i : ℕ) → AmongCells v'.filled i → (i ≡ t.site) ⊎ AmongCells v.filled i) → CellsAre opens follows image words homes h views
        → CellsAre opens follows image (set words t.site z) (set homes (t.site - 168) (some y)) h' (set views id v')
    give_cells h h' t z y v' has even steps now idle more c =
        let u = c.turns id v at lives t has in
        let i : ℕ = t.site in
        let cell : 168 ≤ i = u.cell in let in' : i < length words = u.inside in let slot : i < 168 + length homes = u.slot in
        let long = length-set words i z in
        let wide : length (set homes (i - 168) (some y)) ≡ length homes = length-set homes (i - 168) (some y) in
        record {
          home = λ k here inside e. dite (ℕ_discrete (168 + k) i)
              (λ q. (
                y,
                ap (get_elem? (set homes (i - 168) (some y))) (let o : k ≡ i - 168 = omega arith in o) ∙ set_here homes (i - 168) (some y) (omega arith),
                λ j x jx lx a. subst (λ (n : ℕ). ContentsAre opens follows image n (by_site n h') y) (sym q) now,
              ))
              (λ ne. let b = c.home k (omega arith) (omega arith) (ap (λ n. n % 2) (sym (get_or-set_other words i (168 + k) z 0 ne)) ∙ e) in (
                b.0,
                set_else homes (i - 168) k (some y) (λ q. ne (omega arith)) ∙ b.1,
                λ j x jx lx a. subst (λ (l : List Made). ContentsAre opens follows image (168 + k) l b.0) (sym (steps (168 + k) ne))
                    (⊎_elim
                    (λ p. ⊎_elim (λ q. absurd (ne q)) (λ d. b.2 id v at lives d) (more (168 + k) (subst (λ (x : View). AmongCells x.filled (168 + k)) (sym p.1) a)))
                    (λ p. b.2 j x p.1 lx a)
                    (at_set views id j v' x jx)),
              ));
          held = λ j far inside odd. dite (ℕ_discrete j i)
              (λ q. absurd (let o : get_or (set words i z) j 0 ≡ z = ap (λ n. get_or (set words i z) n 0) q ∙ get_or-set_same words i z 0 in' in let e = ap (λ n. n % 2) o in omega arith))
              (λ ne. let b = c.held j far (omega arith) (ap (λ n. n % 2) (sym (get_or-set_other words i j z 0 ne)) ∙ odd) in
              dite (ℕ_discrete b.0 id)
              (λ q. absurd (ne (sym b.6 ∙ ap (λ (r : Turn). r.site) (sym (same_turn v t b.2 has (subst (λ (x : View). x.turn ≡ Some b.2) (some-injective b.1 v (sym b.3 ∙ (ap (get_elem? views) q ∙ at))) b.5))))))
              (λ away. (b.0, b.1, b.2, set_else views id b.0 v' away ∙ b.3, b.4, b.5, b.6)));
          turns = λ j x jx lx r hr. ⊎_elim
              (λ p. absurd (no_turn v' r idle (subst (λ (s : View). s.turn ≡ Some r) (sym p.1) hr)))
              (λ p. let b = c.turns j x p.1 lx r hr in let ne : r.site ≢ i = λ q. p.0 (c.one j id x v p.1 at lx lives r t hr has q) in
              record { cell = b.cell; inside = let a = b.inside in omega arith; slot = let a = b.slot in omega arith; free = b.free; taken = get_or-set_other words i r.site z 0 ne ∙ b.taken; past = steps r.site ne ∙ b.past })
              (at_set views id j v' x jx);
          one = λ j k x w jx kw lx lw r s hr hs same. ⊎_elim
              (λ p. absurd (no_turn v' r idle (subst (λ (e : View). e.turn ≡ Some r) (sym p.1) hr)))
              (λ p. ⊎_elim
              (λ q. absurd (no_turn v' s idle (subst (λ (e : View). e.turn ≡ Some s) (sym q.1) hs)))
              (λ q. c.one j k x w p.1 q.1 lx lw r s hr hs same)
              (at_set views id k v' w kw))
              (at_set views id j v' x jx);
          known = λ j k x w jx kw lx lw r hr a. ⊎_elim
              (λ p. absurd (no_turn v' r idle (subst (λ (e : View). e.turn ≡ Some r) (sym p.1) hr)))
              (λ p. let ne : r.site ≢ i = λ q. p.0 (c.one j id x v p.1 at lx lives r t hr has q) in ⊎_elim
              (λ q. ⊎_elim (λ same. absurd (ne same)) (λ d. c.known j id x v p.1 at lx lives r hr d) (more r.site (subst (λ (e : View). AmongCells e.filled r.site) (sym q.1) a)))
              (λ q. c.known j k x w p.1 q.1 lx lw r hr a)
              (at_set views id k v' w kw))
              (at_set views id j v' x jx);
          filled = λ j x jx lx k a.
              let old : (168 ≤ k) × (k < length words) × (k < 168 + length homes) = ⊎_elim
              (λ p. ⊎_elim (λ q. (omega arith, omega arith, omega arith)) (λ d. c.filled id v at lives k d) (more k (subst (λ (e : View). AmongCells e.filled k) (sym p.1) a)))
              (λ p. c.filled j x p.1 lx k a)
              (at_set views id j v' x jx) in
              (old.0, let g = old.1 in omega arith, let g = old.2 in omega arith);
        }
