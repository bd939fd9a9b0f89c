-- A step keeps the board's rule.
use Rattle.std.proofs.Common.{◌≡◌, ℕ, zero, suc, ◌+◌, ◌%◌, ◌<◌, ◌≤◌, Option, true, false, List, [], ◌∷◌, ◌++◌, inl, inr, ⊎_elim, map, length, get_or, set, sym, refl, ap, ◌∙◌, subst, arith, eq-eqb, ne_eqb, length-set, get_or-set_same, get_or-set_other}
use Rattle.std.proofs.lemmas.List.{map-append}
use mathlib.Core.Logic.{dite}
use mathlib.Core.Option.{some, some-injective, some-ne-none}
use native.Mathlib.Decide.{ℕ_discrete}
use lib.ListN.{get_elem?}
use Rattle.atomic_table.proofs.Lists.{at_set, set_here, set_else}
use Rattle.um_words.specs.Sublists.{RunsBy, sub, same_name}
use Rattle.um_words.specs.WordFacts.{counts}
use Rattle.um_words.specs.Steps.{WordMay, number}
use Rattle.um_site.proofs.Bare.{bare-number, bare-even, may-bare}
use Rattle.um_site.proofs.Sublists.{same_itself, same_sound, name_cases, sub_yes, sub_no, RunsBy-push}
use Rattle.um_words.specs.declared.made.Made.{Made}
use Rattle.um_base.specs.declared.image.Image.{Image}
use Rattle.um_site.specs.declared.turn.Turn.{Turn}
use Rattle.um_site.specs.declared.view.View.{View}
use Rattle.um_words.specs.History.{Entry, made_of, is_by, is_at, by_seat, by_site, Words, IsHistory, Numbers, bare}
use Rattle.um_site.specs.History.{Among, Has, Owns, Told, IsNoNewer, Fresh, Knows, Tidy, AllTidy, AllApart, Somewhere, AllOwned, AmongNames, Kept, opening_view, with_cells}
use Rattle.um_site.specs.Tells.{with_got, with_made, NoOlder, GoesOn, Looked}

-- the sublists of a history with one more step

pub name_differs : (n m : List ℕ) → ¬ (n ≡ m) → same_name n m ≡ false
name_differs n m ne = ⊎_elim (λ e. absurd (ne (same_sound n m e))) (λ e. e) (name_cases n m)

pub by_seat_own : (h : List Entry) (n : List ℕ) (m : Made) → by_seat n (h ++ (n, m) ∷ []) ≡ by_seat n h ++ m ∷ []
by_seat_own h n m = ap (map made_of) (sub_yes (is_by n) h (n, m) (same_itself n)) ∙ map-append made_of (sub (is_by n) h) ((n, m) ∷ [])

pub by_seat_else : (h : List Entry) (n k : List ℕ) (m : Made) → ¬ (n ≡ k) → by_seat k (h ++ (n, m) ∷ []) ≡ by_seat k h
by_seat_else h n k m ne = ap (map made_of) (sub_no (is_by k) h (n, m) (name_differs n k ne))

pub by_site_here : (h : List Entry) (n : List ℕ) (m : Made) → by_site m.site (h ++ (n, m) ∷ []) ≡ by_site m.site h ++ m ∷ []
by_site_here h n m = ap (map made_of) (sub_yes (is_at m.site) h (n, m) (eq-eqb m.site m.site refl)) ∙ map-append made_of (sub (is_at m.site) h) ((n, m) ∷ [])

pub by_site_else : (h : List Entry) (n : List ℕ) (m : Made) (i : ℕ) → ¬ (m.site ≡ i) → by_site i (h ++ (n, m) ∷ []) ≡ by_site i h
by_site_else h n m i ne = ap (map made_of) (sub_no (is_at i) h (n, m) (ne_eqb m.site i ne))

pub Words-push : (i w : ℕ) (ms : List Made) (z : ℕ) (m : Made) → Words i w ms z → WordMay i z m.act m.word → Words i w (ms ++ m ∷ []) m.word
Words-push i w [] z m r e = (subst (λ (x : ℕ). WordMay i x m.act m.word) (sym r) e, refl)
Words-push i w (x ∷ xs) z m r e = (r.0, Words-push i x.word xs z m r.1 e)

-- the steps of a site are numbered without a gap
pub words_numbers : (i w : ℕ) (ms : List Made) (z : ℕ) → Words i w ms z → Numbers i (number i w) ms × (number i z ≡ number i w + length ms)
words_numbers i w [] z r = (tt, let e = ap (number i) r in omega arith)
words_numbers i w (m ∷ ms) z r = let c = counts i w m.act m.word r.0 in let t = words_numbers i m.word ms z r.1 in ((c, subst (λ (n : ℕ). Numbers i n ms) c t.0), let l = t.1 in omega arith)

-- the words of each site go on
sites_grow : (opening words : List ℕ) (h : List Entry) (n : List ℕ) (m : Made) → ((i : ℕ) → i < length words → Words i (get_or opening i 0) (by_site i h) (bare i (get_or words i 0))) → m.site < length words
    → WordMay m.site (bare m.site (get_or words m.site 0)) m.act m.word → (i : ℕ) → i < length (set words m.site m.word) → Words i (get_or opening i 0) (by_site i (h ++ (n, m) ∷ [])) (bare i (get_or (set words m.site m.word) i 0))
sites_grow opening words h n m sites in' e i here = dite (ℕ_discrete m.site i)
    (λ q. subst (λ (j : ℕ). Words j (get_or opening j 0) (by_site j (h ++ (n, m) ∷ [])) (bare j (get_or (set words m.site m.word) j 0))) q
    (rw (by_site_here h n m, get_or-set_same words m.site m.word 0 in', may-bare m.site (bare m.site (get_or words m.site 0)) m.act m.word e)
    (Words-push m.site (get_or opening m.site 0) (by_site m.site h) (bare m.site (get_or words m.site 0)) m (sites m.site in') e)))
    (λ ne. rw (by_site_else h n m i ne, get_or-set_other words m.site i m.word 0 (λ q. ne (sym q))) (sites i (let l = length-set words m.site m.word in omega arith)))

-- a lawful step of a seat after its own list
pub history_grows : (goes : List ℕ → List Made → Made → Type 0) (opening words : List ℕ) (h : List Entry) (n : List ℕ) (m : Made) → IsHistory goes opening words h → m.site < length words
    → WordMay m.site (bare m.site (get_or words m.site 0)) m.act m.word → goes n (by_seat n h) m → IsHistory goes opening (set words m.site m.word) (h ++ (n, m) ∷ [])
history_grows goes opening words h n m is in' e may = let sites' = sites_grow opening words h n m is.sites in' e in record {
  wide = length-set words m.site m.word ∙ is.wide;
  opened = is.opened;
  numbers = λ i here. subst (λ (k : ℕ). Numbers i k (by_site i (h ++ (n, m) ∷ []))) (is.opened i (let l = length-set words m.site m.word in let w = is.wide in omega arith))
      (words_numbers i (get_or opening i 0) (by_site i (h ++ (n, m) ∷ [])) (bare i (get_or (set words m.site m.word) i 0)) (sites' i here)).0;
  inside = λ i past. by_site_else h n m i (λ q. let l = length-set words m.site m.word in omega arith) ∙ is.inside i (let l = length-set words m.site m.word in omega arith);
  sites = sites';
  seats = λ k. ⊎_elim
      (λ q. subst (λ (j : List ℕ). RunsBy (goes j) [] (by_seat j (h ++ (n, m) ∷ []))) (same_sound n k q) (rw (by_seat_own h n m) (RunsBy-push (goes n) [] (by_seat n h) m (is.seats n) may)))
      (λ q. rw (by_seat_else h n k m (λ p. absurd (cc (same_itself n)))) (is.seats k))
      (name_cases n k);
}

-- a word with another turn is in the same history
pub history_stays : (goes : List ℕ → List Made → Made → Type 0) (opening words : List ℕ) (h : List Entry) (i z : ℕ) → IsHistory goes opening words h → i < length words
    → bare i z ≡ bare i (get_or words i 0) → IsHistory goes opening (set words i z) h
history_stays goes opening words h i z is in' same = let long = length-set words i z in record {
  wide = long ∙ is.wide;
  opened = is.opened;
  numbers = λ j here. is.numbers j (omega arith);
  inside = λ j past. is.inside j (omega arith);
  sites = λ j here. dite (ℕ_discrete i j)
      (λ q. subst (λ (k : ℕ). Words k (get_or opening k 0) (by_site k h) (bare k (get_or (set words i z) k 0))) q (rw (get_or-set_same words i z 0 in', same) (is.sites i in')))
      (λ ne. rw (get_or-set_other words i j z 0 (λ q. ne (sym q))) (is.sites j (omega arith)));
  seats = is.seats;
}

pub in_range : {A : Type 0} (l : List A) (i : ℕ) (a : A) → get_elem? l i ≡ some a → i < length l
in_range [] i a e = absurd (some-ne-none a (sym e))
in_range (x ∷ xs) zero a e = omega arith
in_range (x ∷ xs) (suc i) a e = let r = in_range xs i a e in omega arith

-- what the views have to do with it

-- the word w of the site i is replaced by the word z: its number is higher, or it is the same word, a cell's turn aside
pub record Rises (i w z : ℕ) : Type 0 where
  pub up : number i w ≤ number i z
  pub same : number i w ≡ number i z → bare i w ≡ bare i z

pub rises_by_step : (i w z : ℕ) → number i w < number i z → Rises i w z
rises_by_step i w z up = record { up = omega arith; same = λ e. absurd (omega arith) }

same_number : (i w z : ℕ) → bare i w ≡ bare i z → number i w ≡ number i z
same_number i w z same = sym (bare-number i w) ∙ ap (number i) same ∙ bare-number i z

pub rises_by_turn : (i w z : ℕ) → bare i z ≡ bare i w → Rises i w z
rises_by_turn i w z same = record { up = let e = same_number i w z (sym same) in omega arith; same = λ e. sym same }

-- what was got is as old once the word gives way
older_rises : (i g w z : ℕ) → number i g ≤ number i w → (number i g ≡ number i w → bare i g ≡ bare i w) → Rises i w z → (number i g ≤ number i z) × (number i g ≡ number i z → bare i g ≡ bare i z)
older_rises i g w z old same r = let u = r.up in (omega arith, λ e. same (omega arith) ∙ r.same (omega arith))

-- the word that stands there now is no newer than itself, also with another turn
pub no_newer_here : (words : List ℕ) (i w g : ℕ) → i < length words → bare i g ≡ bare i w → IsNoNewer (set words i w) i g
no_newer_here words i w g in' same = let here = get_or-set_same words i w 0 in' in let n = same_number i g w same in
    record { older = rw here (omega arith); same = λ e. rw here same }

pub fresh_rises : (words : List ℕ) (i w : ℕ) (got : List (ℕ × ℕ)) → i < length words → Rises i (get_or words i 0) w → Fresh words got → Fresh (set words i w) got
fresh_rises words i w [] in' r f = tt
fresh_rises words i w (e ∷ es) in' r f = (
  dite (ℕ_discrete e.0 i)
      (λ q. let here = get_or-set_same words i w 0 in' in let was : IsNoNewer words i e.1 = subst (λ (j : ℕ). IsNoNewer words j e.1) q f.0 in
      let k = older_rises i e.1 (get_or words i 0) w was.older was.same r in
      subst (λ (j : ℕ). IsNoNewer (set words i w) j e.1) (sym q) (record { older = rw here k.0; same = rw here k.1 }))
      (λ ne. let off = get_or-set_other words i e.0 w 0 ne in record { older = rw off f.0.older; same = rw off f.0.same }),
  fresh_rises words i w es in' r f.1,
)

pub told_else : (h : List Entry) (n : List ℕ) (m : Made) (es : List (List ℕ × List Made)) → (Among es n → ⊥) → Told h es → Told (h ++ (n, m) ∷ []) es
told_else h n m [] not t = tt
told_else h n m (e ∷ es) not t = (by_seat_else h n e.0 m (λ q. not (inl (sym q))) ∙ t.0, told_else h n m es (λ a. not (inr a)) t.1)

module _ (image : Image) (opening : List ℕ) where
  pub knows_own : (words : List ℕ) (h : List Entry) (v : View) (m : Made) → Knows image opening words h v → Tidy v → m.site < length words → number m.site (get_or words m.site 0) < number m.site m.word
      → Knows image opening (set words m.site m.word) (h ++ (v.name, m) ∷ []) (with_made v m)
  knows_own words h v m k t in' up = record {
    image_is = k.image_is;
    opening_is = k.opening_is;
    mine = by_seat_own h v.name m ∙ ap (λ l. l ++ m ∷ []) k.mine;
    theirs = told_else h v.name m v.joined t.own k.theirs;
    fresh = (no_newer_here words m.site m.word m.word in' refl, fresh_rises words m.site m.word v.got in' (rises_by_step m.site (get_or words m.site 0) m.word up) k.fresh);
  }

  pub knows_else : (words : List ℕ) (h : List Entry) (n : List ℕ) (v : View) (m : Made) → Knows image opening words h v → (Has v n → ⊥) → m.site < length words → number m.site (get_or words m.site 0) < number m.site m.word
      → Knows image opening (set words m.site m.word) (h ++ (n, m) ∷ []) v
  knows_else words h n v m k not in' up = record {
    image_is = k.image_is;
    opening_is = k.opening_is;
    mine = by_seat_else h n v.name m (λ q. not (inl (sym q))) ∙ k.mine;
    theirs = told_else h n m v.joined (λ a. not (inr a)) k.theirs;
    fresh = fresh_rises words m.site m.word v.got in' (rises_by_step m.site (get_or words m.site 0) m.word up) k.fresh;
  }

pub no_older : (words : List ℕ) (i : ℕ) (got : List (ℕ × ℕ)) → Fresh words got → NoOlder got i (get_or words i 0)
no_older words i [] f = tt
no_older words i (e ∷ es) f = ((λ q. subst (λ (j : ℕ). number j e.1 ≤ number j (get_or words j 0)) q f.0.older), no_older words i es f.1)

-- one seat's view changes, and keeps its names
module _ (views : List View) (id : ℕ) (v v' : View) (at : get_elem? views id ≡ some v) (lives : v.live ≡ true) where
  pub apart_set : ((n : List ℕ) → Owns v' n → Owns v n) → AllApart views → AllApart (set views id v')
  apart_set less apart i j x y ix jy lx ly ne n ox oy = ⊎_elim
      (λ p. ⊎_elim
      (λ q. absurd (ne (p.0 ∙ sym q.0)))
      (λ q. apart i j v y (ap (get_elem? views) p.0 ∙ at) q.1 lives ly ne n (less n (subst (λ (z : View). Owns z n) (sym p.1) ox)) oy)
      (at_set views id j v' y jy))
      (λ p. ⊎_elim
      (λ q. apart i j x v p.1 (ap (get_elem? views) q.0 ∙ at) lx lives ne n ox (less n (subst (λ (z : View). Owns z n) (sym q.1) oy)))
      (λ q. apart i j x y p.1 q.1 lx ly ne n ox oy)
      (at_set views id j v' y jy))
      (at_set views id i v' x ix)

  pub tidy_set : Tidy v' → AllTidy views → AllTidy (set views id v')
  tidy_set t all i x ix lx = ⊎_elim (λ p. subst Tidy p.1 t) (λ p. all i x p.1 lx) (at_set views id i v' x ix)

pub somewhere_set : (views : List View) (id : ℕ) (v v' : View) → get_elem? views id ≡ some v → v.live ≡ true → v'.live ≡ true → ((n : List ℕ) → Has v n → Has v' n) → (n : List ℕ) → Somewhere views n → Somewhere (set views id v') n
somewhere_set views id v v' at lives lives' more n (j, x, jx, lx, has) = dite (ℕ_discrete j id)
    (λ q. (id, v', set_here views id v' (in_range views id v at), lives', more n (subst (λ (z : View). Has z n) (some-injective x v (sym jx ∙ (ap (get_elem? views) q ∙ at))) has)))
    (λ ne. (j, x, set_else views id j v' ne ∙ jx, lx, has))

pub owned_set : (views : List View) (id : ℕ) (v v' : View) → get_elem? views id ≡ some v → v.live ≡ true → v'.live ≡ true → v'.name ≡ v.name → ((n : List ℕ) → AmongNames v.children n → AmongNames v'.children n) → AllOwned views → AllOwned (set views id v')
owned_set views id v v' at lives lives' same more all i x ix lx =
    let still : (n : List ℕ) → ((j : ℕ) × (w : View) × (get_elem? views j ≡ some w) × (w.live ≡ true) × AmongNames w.children n) → ((j : ℕ) × (w : View) × (get_elem? (set views id v') j ≡ some w) × (w.live ≡ true) × AmongNames w.children n) =
    λ n (j, w, jw, lw, a). dite (ℕ_discrete j id)
    (λ q. (id, v', set_here views id v' (in_range views id v at), lives', more n (subst (λ (z : View). AmongNames z.children n) (some-injective w v (sym jw ∙ (ap (get_elem? views) q ∙ at))) a)))
    (λ ne. (j, w, set_else views id j v' ne ∙ jw, lw, a)) in
    ⊎_elim
    (λ p. let e : x.name ≡ v.name = ap (λ (z : View). z.name) (sym p.1) ∙ same in ⊎_elim (λ z. inl (e ∙ z)) (λ o. inr (still x.name (subst (λ (n : List ℕ). (j : ℕ) × (w : View) × (get_elem? views j ≡ some w) × (w.live ≡ true) × AmongNames w.children n) (sym e) o))) (all id v at lives))
    (λ p. ⊎_elim inl (λ o. inr (still x.name o)) (all i x p.1 lx))
    (at_set views id i v' x ix)

-- the rule after a look, and after a step
module _ (goes : Image → List ℕ → List Made → Made → Type 0) (image : Image) (opening : List ℕ) where
  -- what one seat knows of the history, with its own image and opening
  pub own_words : (words : List ℕ) (h : List Entry) (v : View) → Knows image opening words h v → IsHistory (goes image) opening words h → IsHistory (goes v.image) v.opening words h × Knows v.image v.opening words h v
  own_words words h v k is = subst (λ (z : Image × List ℕ). IsHistory (goes z.0) z.1 words h × Knows z.0 z.1 words h v) (λ i. (sym k.image_is i, sym k.opening_is i)) (is, k)

  -- what a look at a word tells
  pub look_tells : (words : List ℕ) (views : List View) (id : ℕ) (v : View) (i : ℕ) (h : List Entry) → Kept (goes image) image opening words h views → get_elem? views id ≡ some v → v.live ≡ true → i < length words
      → Looked goes v i (get_or words i 0) (with_got v i (get_or words i 0))
  look_tells words views id v i h r at lives in' = let k = r.know id v at lives in let o = own_words words h v k r.stands in (no_older words i v.got k.fresh, (words, h, o.0, o.1, in', refl), refl)

  -- a seat gets a word, and its turn and its cells may change, and that word's turn
  pub turn_keeps : (words : List ℕ) (views : List View) (id : ℕ) (v : View) (i z g : ℕ) (t : Option Turn) (f : List ℕ) (h : List Entry) → Kept (goes image) image opening words h views → get_elem? views id ≡ some v → v.live ≡ true → i < length words
      → bare i z ≡ bare i (get_or words i 0) → bare i g ≡ bare i (get_or words i 0) → Kept (goes image) image opening (set words i z) h (set views id (with_cells (with_got v i g) t f))
  turn_keeps words views id v i z g t f h r at lives in' same old = let k = r.know id v at lives in let v' : View = with_cells (with_got v i g) t f in
      let up = rises_by_turn i (get_or words i 0) z same in
      let still : (x : View) → Knows image opening words h x → Knows image opening (set words i z) h x = λ x kx. record { image_is = kx.image_is; opening_is = kx.opening_is; mine = kx.mine; theirs = kx.theirs; fresh = fresh_rises words i z x.got in' up kx.fresh } in
      record {
        stands = history_stays (goes image) opening words h i z r.stands in' same;
        know = λ j x jx lx. ⊎_elim
            (λ p. subst (Knows image opening (set words i z) h) p.1
            (record { image_is = k.image_is; opening_is = k.opening_is; mine = k.mine; theirs = k.theirs; fresh = (no_newer_here words i z g in' (old ∙ sym same), fresh_rises words i z v.got in' up k.fresh) }))
            (λ p. still x (r.know j x p.1 lx))
            (at_set views id j v' x jx);
        tidy = tidy_set views id v v' at lives (let y = r.tidy id v at lives in record { own = y.own; distinct = y.distinct; later = y.later; below = y.below }) r.tidy;
        apart = apart_set views id v v' at lives (λ n o. o) r.apart;
        told = λ n. ⊎_elim inl (λ s. inr (somewhere_set views id v v' at lives lives (λ n o. o) n s)) (r.told n);
        owned = owned_set views id v v' at lives lives refl (λ n a. a) r.owned;
      }

  -- the words and the history that a lawful step of the seat leaves
  pub step_keeps : (words : List ℕ) (views : List View) (id : ℕ) (v : View) (m : Made) (t : Option Turn) (f : List ℕ) (h : List Entry) → Kept (goes image) image opening words h views → get_elem? views id ≡ some v → v.live ≡ true → m.site < length words
      → WordMay m.site (bare m.site (get_or words m.site 0)) m.act m.word → number m.site (get_or words m.site 0) < number m.site m.word → goes v.image v.name v.made m
      → Kept (goes image) image opening (set words m.site m.word) (h ++ (v.name, m) ∷ []) (set views id (with_cells (with_made v m) t f)) × GoesOn goes v m (get_or words m.site 0)
  step_keeps words views id v m t f h r at lives in' e up may = let k = r.know id v at lives in let y = r.tidy id v at lives in let v' : View = with_cells (with_made v m) t f in let words' : List ℕ = set words m.site m.word in let h' : List Entry = h ++ (v.name, m) ∷ [] in
      let may' : goes image v.name (by_seat v.name h) m = subst (λ (z : Image × List Made). goes z.0 v.name z.1 m) (λ i. (k.image_is i, sym k.mine i)) may in
      let is' = history_grows (goes image) opening words h v.name m r.stands in' e may' in let k' = knows_own image opening words h v m k y in' up in let o = own_words words h v k r.stands in let o' = own_words words' h' (with_made v m) k' is' in (
        record {
          stands = is';
          know = λ j x jx lx. ⊎_elim
              (λ p. subst (Knows image opening words' h') p.1 (record { image_is = k'.image_is; opening_is = k'.opening_is; mine = k'.mine; theirs = k'.theirs; fresh = k'.fresh }))
              (λ p. knows_else image opening words h v.name x m (r.know j x p.1 lx) (λ has. r.apart id j v x at p.1 lives lx (λ q. p.0 (sym q)) v.name (inl (inl refl)) (inl has)) in' up)
              (at_set views id j v' x jx);
          tidy = tidy_set views id v v' at lives (record { own = y.own; distinct = y.distinct; later = y.later; below = y.below }) r.tidy;
          apart = apart_set views id v v' at lives (λ n o. o) r.apart;
          told = λ n. ⊎_elim
              (λ q. inr (id, v', set_here views id v' (in_range views id v at), lives, inl (same_sound v.name n q)))
              (λ q. ⊎_elim (λ z. inl (by_seat_else h v.name n m (λ p. absurd (cc (same_itself n))) ∙ z)) (λ s. inr (somewhere_set views id v v' at lives lives (λ n o. o) n s)) (r.told n))
              (name_cases v.name n);
          owned = owned_set views id v v' at lives lives refl (λ n a. a) r.owned;
        },
        (words, h, o.0, o.1, in', refl, o'.0, o'.1),
      )

-- the rule at the start
module _ (goes : List ℕ → List Made → Made → Type 0) (image : Image) (opening : List ℕ) where
  pub only_first : (i : ℕ) (v w : View) → get_elem? (v ∷ []) i ≡ some w → (i ≡ 0) × (v ≡ w)
  only_first zero v w e = (refl, some-injective v w e)
  only_first (suc i) v w e = absurd (some-ne-none w (sym e))

  too_long : (j : ℕ) (r : List ℕ) → [] ≡ j ∷ r → ⊥
  too_long j r e = cc

  tidy_first : Tidy (opening_view image opening)
  tidy_first = record { own = λ a. a; distinct = tt; later = λ n h l. ⊎_elim (λ q. too_long l.0 l.1 (q ∙ l.3)) (λ a. a) h; below = λ n a. absurd a }

  pub opens : ((i : ℕ) → i < length opening → number i (get_or opening i 0) ≡ 0) → ((i : ℕ) → 168 ≤ i → i < length opening → get_or opening i 0 % 2 ≡ 0) → Kept goes image opening opening [] (opening_view image opening ∷ [])
  opens fresh free = record {
    stands = record { wide = refl; opened = fresh; inside = λ i p. refl; sites = λ i p. sym (bare-even i (get_or opening i 0) (λ far. free i far p)); numbers = λ i p. tt; seats = λ n. tt };
    know = λ i v e l. subst (Knows image opening opening []) (only_first i (opening_view image opening) v e).1 (record { image_is = refl; opening_is = refl; mine = refl; theirs = tt; fresh = tt });
    tidy = λ i v e l. subst Tidy (only_first i (opening_view image opening) v e).1 tidy_first;
    apart = λ i j v w ex ey lx ly ne. absurd (ne ((only_first i (opening_view image opening) v ex).0 ∙ sym (only_first j (opening_view image opening) w ey).0));
    told = λ n. inl refl;
    owned = λ i v e l. inl (ap (λ (z : View). z.name) (sym (only_first i (opening_view image opening) v e).1));
  }
