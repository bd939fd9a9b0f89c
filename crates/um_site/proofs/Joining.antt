-- A split and a join keep the board's rule.
use Rattle.std.proofs.Common.{◌≡◌, ℕ, zero, suc, ◌+◌, ◌<◌, ◌≢◌, true, false, cond, List, [], ◌∷◌, ◌++◌, ◌⊎◌, inl, inr, ⊎_elim, length, set, sym, refl, ap, ◌∙◌, subst, arith, append_assoc, length-append}
use mathlib.Core.Logic.{dite}
use mathlib.Core.Option.{some, some-injective, some-ne-none}
use native.Mathlib.Decide.{ℕ_discrete}
use lib.ListN.{get_elem?}
use Rattle.atomic_table.proofs.Lists.{at_set, at_longer, set_here, set_else}
use Rattle.um_words.specs.Sublists.{same_name}
use Rattle.um_site.proofs.Sublists.{same_sound, same_itself}
use Rattle.um_words.specs.declared.made.Made.{Made}
use Rattle.um_base.specs.declared.image.Image.{Image}
use Rattle.um_site.specs.declared.view.View.{View}
use Rattle.um_words.specs.History.{Entry, by_seat}
use Rattle.um_site.specs.History.{Among, Distinct, Has, Later, Owns, Apart, Told, Fresh, Knows, Tidy, AllApart, Somewhere, AmongNames, without, Kept, child, splitter, newborn, joiner, spent, shadow_of}
use Rattle.um_site.proofs.Keeps.{in_range, apart_set, tidy_set, somewhere_set, owned_set}

-- a list with one more element, read at a place
pub at_end : {A : Type 0} (l : List A) (a b : A) (j : ℕ) → get_elem? (l ++ a ∷ []) j ≡ some b → (get_elem? l j ≡ some b) ⊎ ((j ≡ length l) × (a ≡ b))
at_end [] a b zero e = inr (refl, some-injective a b e)
at_end [] a b (suc j) e = absurd (some-ne-none b (sym e))
at_end (x ∷ xs) a b zero e = inl e
at_end (x ∷ xs) a b (suc j) e = ⊎_elim inl (λ t. inr (ap suc t.0, t.1)) (at_end xs a b j e)

pub append_cancel : (p xs ys : List ℕ) → p ++ xs ≡ p ++ ys → xs ≡ ys
append_cancel [] xs ys e = e
append_cancel (x ∷ p) xs ys e = append_cancel p xs ys (cc)

pub no_loop : (p : List ℕ) (j : ℕ) (r : List ℕ) → p ≡ p ++ j ∷ r → ⊥
no_loop p j r e = let l = ap length e in let m = length-append p (j ∷ r) in omega arith

-- names that a split gives on
later_more : (p : List ℕ) (k : ℕ) (n : List ℕ) → Later p (k + 1) n → Later p k n
later_more p k n (j, r, le, e) = (j, r, omega arith, e)

splitter_owns : (v : View) (n : List ℕ) → Owns (splitter v) n → Owns v n
splitter_owns v n o = ⊎_elim inl (λ l. inr (later_more v.name v.splits n l)) o

-- what the new seat owns begins with the name that was split off
newborn_owns : (v : View) (n : List ℕ) → Owns (newborn v) n → (r : List ℕ) × (n ≡ v.name ++ v.splits ∷ r)
newborn_owns v n o = ⊎_elim
    (λ h. ⊎_elim (λ e. ([], sym e)) (λ a. absurd a) h)
    (λ (j, r, le, e). (j ∷ r, e ∙ append_assoc v.name (v.splits ∷ []) (j ∷ r)))
    o

begins_later : (v : View) (n : List ℕ) → ((r : List ℕ) × (n ≡ v.name ++ v.splits ∷ r)) → Later v.name v.splits n
begins_later v n (r, e) = (v.splits, r, omega arith, e)

split_apart : (v : View) → Tidy v → Apart (splitter v) (newborn v)
split_apart v t n o p = let b = newborn_owns v n p in ⊎_elim
    (λ h. t.later n h (begins_later v n b))
    (λ (j, r, le, e). let q : j ∷ r ≡ v.splits ∷ b.0 = append_cancel v.name (j ∷ r) (v.splits ∷ b.0) (sym e ∙ b.1) in let same : j ≡ v.splits = cc in omega arith)
    o

longer_child : (v : View) (n : List ℕ) → child v ≡ n → length v.name < length n
longer_child v n e = let l = ap length e in let m = length-append v.name (v.splits ∷ []) in omega arith

-- each other seat is apart from the new one
new_apart : (views : List View) (id : ℕ) (v : View) → get_elem? views id ≡ some v → v.live ≡ true → Tidy v → AllApart views
    → (i : ℕ) (x y : View) → get_elem? (set views id (splitter v)) i ≡ some x → x.live ≡ true → newborn v ≡ y → Apart x y
new_apart views id v at lives t apart i x y ix lx is n o p = let p' : Owns (newborn v) n = subst (λ (z : View). Owns z n) (sym is) p in ⊎_elim
    (λ q. split_apart v t n (subst (λ (z : View). Owns z n) (sym q.1) o) p')
    (λ q. apart i id x v q.1 at lx lives q.0 n o (inr (begins_later v n (newborn_owns v n p'))))
    (at_set views id i (splitter v) x ix)

longer : (views : List View) (n : List ℕ) (w : View) → Somewhere views n → Somewhere (views ++ w ∷ []) n
longer views n w (j, x, jx, lx, has) = (j, x, at_longer views (w ∷ []) j x jx, lx, has)

module _ (goes : List ℕ → List Made → Made → Type 0) (image : Image) (opening : List ℕ) where
  -- nobody has a name that a seat may still give
  unused : (words : List ℕ) (views : List View) (id : ℕ) (v : View) (h : List Entry) (r : Kept goes image opening words h views) → get_elem? views id ≡ some v → v.live ≡ true → (n : List ℕ) → Later v.name v.splits n → by_seat n h ≡ []
  unused words views id v h r at lives n l = ⊎_elim (λ e. e)
      (λ (j, x, jx, lx, has). absurd (dite (ℕ_discrete j id)
      (λ q. (r.tidy id v at lives).later n (subst (λ (z : View). Has z n) (some-injective x v (sym jx ∙ (ap (get_elem? views) q ∙ at))) has) l)
      (λ ne. r.apart j id x v jx at lx lives ne n (inl has) (inr l))))
      (r.told n)

  pub split_keeps : (words : List ℕ) (views : List View) (id : ℕ) (v : View) → (h : List Entry) → Kept goes image opening words h views → get_elem? views id ≡ some v → v.live ≡ true → Kept goes image opening words h (set views id (splitter v) ++ newborn v ∷ [])
  split_keeps words views id v h r at lives = let k = r.know id v at lives in let t = r.tidy id v at lives in let views' : List View = set views id (splitter v) in record {
    stands = r.stands;
    know = λ j x jx lx. ⊎_elim
        (λ old. ⊎_elim
        (λ p. subst (Knows image opening words h) p.1 (record { image_is = k.image_is; opening_is = k.opening_is; mine = k.mine; theirs = k.theirs; fresh = k.fresh }))
        (λ p. r.know j x p.1 lx)
        (at_set views id j (splitter v) x old))
        (λ p. subst (Knows image opening words h) p.1 (record { image_is = k.image_is; opening_is = k.opening_is; mine = unused words views id v h r at lives (child v) (v.splits, [], omega arith, refl); theirs = tt; fresh = tt }))
        (at_end views' (newborn v) x j jx);
    tidy = λ j x jx lx. ⊎_elim
        (λ old. tidy_set views id v (splitter v) at lives (record { own = t.own; distinct = t.distinct; later = λ n h l. t.later n h (later_more v.name v.splits n l); below = λ n a. ⊎_elim (λ e. longer_child v n e) (λ b. t.below n b) a }) r.tidy j x old lx)
        (λ p. subst Tidy p.1 (record { own = λ a. a; distinct = tt; later = λ n h l. ⊎_elim (λ e. no_loop (child v) l.0 l.1 (e ∙ l.3)) (λ a. a) h; below = λ n a. absurd a }))
        (at_end views' (newborn v) x j jx);
    apart = λ i j x y ix jy lx ly ne. ⊎_elim
        (λ a. ⊎_elim
        (λ b. apart_set views id v (splitter v) at lives (splitter_owns v) r.apart i j x y a b lx ly ne)
        (λ b. new_apart views id v at lives t r.apart i x y a lx b.1)
        (at_end views' (newborn v) y j jy))
        (λ a. ⊎_elim
        (λ b. λ n o p. new_apart views id v at lives t r.apart j y x b ly a.1 n p o)
        (λ b. absurd (ne (a.0 ∙ sym b.0)))
        (at_end views' (newborn v) y j jy))
        (at_end views' (newborn v) x i ix);
    owned = λ j x jx lx. ⊎_elim
        (λ old. ⊎_elim inl (λ (i, y, iy, ly, a). inr (i, y, at_longer views' (newborn v ∷ []) i y iy, ly, a)) (owned_set views id v (splitter v) at lives lives refl (λ n a. inr a) r.owned j x old lx))
        (λ p. inr (id, splitter v, at_longer views' (newborn v ∷ []) id (splitter v) (set_here views id (splitter v) (in_range views id v at)), lives, inl (ap (λ (z : View). z.name) p.1)))
        (at_end views' (newborn v) x j jx);
    told = λ n. ⊎_elim inl (λ s. inr (longer (set views id (splitter v)) n (newborn v) (somewhere_set views id v (splitter v) at lives lives (λ m h. h) n s))) (r.told n);
  }

-- lists of one seat after those of another
pub among_append : (xs ys : List (List ℕ × List Made)) (n : List ℕ) → Among (xs ++ ys) n → Among xs n ⊎ Among ys n
among_append [] ys n a = inr a
among_append (x ∷ xs) ys n a = ⊎_elim (λ e. inl (inl e)) (λ b. ⊎_elim (λ c. inl (inr c)) inr (among_append xs ys n b)) a

pub among_left : (xs ys : List (List ℕ × List Made)) (n : List ℕ) → Among xs n → Among (xs ++ ys) n
among_left [] ys n a = absurd a
among_left (x ∷ xs) ys n a = ⊎_elim inl (λ b. inr (among_left xs ys n b)) a

pub among_right : (xs ys : List (List ℕ × List Made)) (n : List ℕ) → Among ys n → Among (xs ++ ys) n
among_right [] ys n a = a
among_right (x ∷ xs) ys n a = inr (among_right xs ys n a)

pub distinct_append : (xs ys : List (List ℕ × List Made)) → Distinct xs → Distinct ys → ((n : List ℕ) → Among xs n → Among ys n → ⊥) → Distinct (xs ++ ys)
distinct_append [] ys d e far = e
distinct_append (x ∷ xs) ys d e far = ((λ a. ⊎_elim d.0 (λ b. far x.0 (inl refl) b) (among_append xs ys x.0 a)), distinct_append xs ys d.1 e (λ n a b. far n (inr a) b))

pub told_append : (h : List Entry) (xs ys : List (List ℕ × List Made)) → Told h xs → Told h ys → Told h (xs ++ ys)
told_append h [] ys t u = u
told_append h (x ∷ xs) ys t u = (t.0, told_append h xs ys t.1 u)

pub fresh_append : (words : List ℕ) (xs ys : List (ℕ × ℕ)) → Fresh words xs → Fresh words ys → Fresh words (xs ++ ys)
fresh_append words [] ys t u = u
fresh_append words (x ∷ xs) ys t u = (t.0, fresh_append words xs ys t.1 u)

joiner_has : (v w : View) (n : List ℕ) → Has (joiner v w) n → Has v n ⊎ Has w n
joiner_has v w n h = ⊎_elim (λ e. inl (inl e)) (λ a. ⊎_elim (λ b. inl (inr b)) (λ b. inr b) (among_append v.joined ((w.name, w.made) ∷ w.joined) n a)) h

has_joiner : (v w : View) (n : List ℕ) → Has v n ⊎ Has w n → Has (joiner v w) n
has_joiner v w n o = ⊎_elim (λ h. ⊎_elim inl (λ a. inr (among_left v.joined ((w.name, w.made) ∷ w.joined) n a)) h) (λ h. inr (among_right v.joined ((w.name, w.made) ∷ w.joined) n h)) o

joiner_owns : (v w : View) (n : List ℕ) → Owns (joiner v w) n → Owns v n ⊎ Owns w n
joiner_owns v w n o = ⊎_elim (λ h. ⊎_elim (λ a. inl (inl a)) (λ b. inr (inl b)) (joiner_has v w n h)) (λ l. inl (inr l)) o

among_without : (k : List ℕ) (ks : List (List ℕ)) (n : List ℕ) → AmongNames (without k ks) n → AmongNames ks n
among_without k [] n a = a
among_without k (x ∷ xs) n a = elim (same_name x k) as (λ b. AmongNames (cond b xs (x ∷ without k xs)) n → AmongNames (x ∷ xs) n) [
  | true ↦ λ c. inr c
  | false ↦ λ c. ⊎_elim inl (λ d. inr (among_without k xs n d)) c
] a

pub still_among : (k : List ℕ) (ks : List (List ℕ)) (n : List ℕ) → ¬ (k ≡ n) → AmongNames ks n → AmongNames (without k ks) n
still_among k [] n ne a = a
still_among k (x ∷ xs) n ne a = elim (same_name x k) as (λ b. (same_name x k ≡ b) → AmongNames (cond b xs (x ∷ without k xs)) n) [
  | true ↦ λ e. ⊎_elim (λ p. absurd (ne (sym (same_sound x k e) ∙ p))) (λ c. c) a
  | false ↦ λ e. ⊎_elim inl (λ c. inr (still_among k xs n ne c)) a
] refl

names_append : (xs ys : List (List ℕ)) (n : List ℕ) → AmongNames (xs ++ ys) n → AmongNames xs n ⊎ AmongNames ys n
names_append [] ys n a = inr a
names_append (x ∷ xs) ys n a = ⊎_elim (λ e. inl (inl e)) (λ b. ⊎_elim (λ c. inl (inr c)) inr (names_append xs ys n b)) a

pub names_left : (xs ys : List (List ℕ)) (n : List ℕ) → AmongNames xs n → AmongNames (xs ++ ys) n
names_left [] ys n a = absurd a
names_left (x ∷ xs) ys n a = ⊎_elim inl (λ b. inr (names_left xs ys n b)) a

names_right : (xs ys : List (List ℕ)) (n : List ℕ) → AmongNames ys n → AmongNames (xs ++ ys) n
names_right [] ys n a = a
names_right (x ∷ xs) ys n a = inr (names_right xs ys n a)

joiner_tidy : (v w : View) → Tidy v → Tidy w → Apart v w → AmongNames v.children w.name → Tidy (joiner v w)
joiner_tidy v w t u far kid = record {
  below = λ n a. ⊎_elim (λ b. t.below n (among_without w.name v.children n b)) (λ b. let p = t.below w.name kid in let q = u.below n b in omega arith) (names_append (without w.name v.children) w.children n a);
  own = λ a. ⊎_elim t.own (λ b. far v.name (inl (inl refl)) (inl b)) (among_append v.joined ((w.name, w.made) ∷ w.joined) v.name a);
  distinct = distinct_append v.joined ((w.name, w.made) ∷ w.joined) t.distinct (u.own, u.distinct) (λ n a b. far n (inl (inr a)) (inl b));
  later = λ n h l. ⊎_elim (λ a. t.later n a l) (λ b. far n (inr l) (inl b)) (joiner_has v w n h);
}

module _ (goes : List ℕ → List Made → Made → Type 0) (image : Image) (opening : List ℕ) (views : List View) (id : ℕ) (v : View) (other : ℕ) (w : View)
    (at : get_elem? views id ≡ some v) (other_at : get_elem? views other ≡ some w) (ne : ¬ (other ≡ id)) (kid : AmongNames v.children w.name) (v_lives : v.live ≡ true) (w_lives : w.live ≡ true) where
  views' : List View
  views' = set (set views id (joiner v w)) other spent

  -- a seat that still lives is the joiner or another
  which : (j : ℕ) (x : View) → get_elem? (set (set views id (joiner v w)) other spent) j ≡ some x → x.live ≡ true → ((j ≡ id) × (joiner v w ≡ x)) ⊎ ((j ≢ other) × (j ≢ id) × (get_elem? views j ≡ some x))
  which j x e l = ⊎_elim
      (λ p. let z : false ≡ x.live = ap (λ (y : View). y.live) p.1 in absurd (cc))
      (λ p. ⊎_elim (λ q. inl q) (λ q. inr (p.0, q.0, q.1)) (at_set views id j (joiner v w) x p.1))
      (at_set (set views id (joiner v w)) other j spent x e)

  there : (j : ℕ) (x : View) → j ≢ other → j ≢ id → get_elem? views j ≡ some x → get_elem? (set (set views id (joiner v w)) other spent) j ≡ some x
  there j x a b e = set_else (set views id (joiner v w)) other j spent a ∙ (set_else views id j (joiner v w) b ∙ e)

  here : get_elem? (set (set views id (joiner v w)) other spent) id ≡ some (joiner v w)
  here = set_else (set views id (joiner v w)) other id spent (λ e. ne (sym e)) ∙ set_here views id (joiner v w) (in_range views id v at)

  -- who owned a seat still does, or the joiner does
  keeper : {words : List ℕ} {h : List Entry} → Kept goes image opening words h views → (n : List ℕ) → ¬ (w.name ≡ n) → (i : ℕ) (y : View) → get_elem? views i ≡ some y → y.live ≡ true → AmongNames y.children n
      → (i : ℕ) × (y : View) × (get_elem? (set (set views id (joiner v w)) other spent) i ≡ some y) × (y.live ≡ true) × AmongNames y.children n
  keeper r n nw i y iy ly a = dite (ℕ_discrete i id)
      (λ q. (id, joiner v w, here, v_lives, names_left (without w.name v.children) w.children n (still_among w.name v.children n nw (subst (λ (z : View). AmongNames z.children n) (some-injective y v (sym iy ∙ (ap (get_elem? views) q ∙ at))) a))))
      (λ nid. dite (ℕ_discrete i other)
      (λ q. (id, joiner v w, here, v_lives, names_right (without w.name v.children) w.children n (subst (λ (z : View). AmongNames z.children n) (some-injective y w (sym iy ∙ (ap (get_elem? views) q ∙ other_at))) a)))
      (λ nother. (i, y, there i y nother nid iy, ly, a)))

  away : {words : List ℕ} {h : List Entry} (j : ℕ) (y : View) → j ≢ other → j ≢ id → get_elem? views j ≡ some y → y.live ≡ true → Kept goes image opening words h views → (n : List ℕ) → Owns (joiner v w) n → Owns y n → ⊥
  away j y a b jy ly r n ox oy = ⊎_elim (λ o. r.apart id j v y at jy v_lives ly (λ e. b (sym e)) n o oy) (λ o. r.apart other j w y other_at jy w_lives ly (λ e. a (sym e)) n o oy) (joiner_owns v w n ox)

  pub join_keeps : (words : List ℕ) (h : List Entry) → Kept goes image opening words h views → Kept goes image opening words h (set (set views id (joiner v w)) other spent)
  join_keeps words h r = let k = r.know id v at v_lives in let l = r.know other w other_at w_lives in let both : Apart v w = r.apart id other v w at other_at v_lives w_lives (λ e. ne (sym e)) in record {
    stands = r.stands;
    know = λ j x jx lx. ⊎_elim
        (λ p. subst (Knows image opening words h) p.1 (record { image_is = k.image_is; opening_is = k.opening_is; mine = k.mine; theirs = told_append h v.joined ((w.name, w.made) ∷ w.joined) k.theirs (l.mine, l.theirs); fresh = fresh_append words v.got w.got k.fresh l.fresh }))
        (λ p. r.know j x p.2 lx)
        (which j x jx lx);
    tidy = λ j x jx lx. ⊎_elim
        (λ p. subst Tidy p.1 (joiner_tidy v w (r.tidy id v at v_lives) (r.tidy other w other_at w_lives) both kid))
        (λ p. r.tidy j x p.2 lx)
        (which j x jx lx);
    apart = λ i j x y ix jy lx ly far n ox oy. ⊎_elim
        (λ p. ⊎_elim
        (λ q. far (p.0 ∙ sym q.0))
        (λ q. away j y q.0 q.1 q.2 ly r n (subst (λ (z : View). Owns z n) (sym p.1) ox) oy)
        (which j y jy ly))
        (λ p. ⊎_elim
        (λ q. away i x p.0 p.1 p.2 lx r n (subst (λ (z : View). Owns z n) (sym q.1) oy) ox)
        (λ q. r.apart i j x y p.2 q.2 lx ly far n ox oy)
        (which j y jy ly))
        (which i x ix lx);
    owned = λ j x jx lx. ⊎_elim
        (λ p. let e : x.name ≡ v.name = ap (λ (z : View). z.name) (sym p.1) in ⊎_elim (λ z. inl (e ∙ z))
        (λ (i, y, iy, ly, a). inr (subst (λ (n : List ℕ). (i : ℕ) × (y : View) × (get_elem? (set (set views id (joiner v w)) other spent) i ≡ some y) × (y.live ≡ true) × AmongNames y.children n) (sym e) (keeper r v.name (λ q. both w.name (inl (inl (sym q))) (inl (inl refl))) i y iy ly a)))
        (r.owned id v at v_lives))
        (λ p. ⊎_elim inl (λ (i, y, iy, ly, a). inr (keeper r x.name (λ q. r.apart other j w x other_at p.2 w_lives lx (λ z. p.0 (sym z)) w.name (inl (inl refl)) (inl (inl (sym q)))) i y iy ly a)) (r.owned j x p.2 lx))
        (which j x jx lx);
    told = λ n. ⊎_elim inl
        (λ (j, x, jx, lx, has). inr (dite (ℕ_discrete j id)
        (λ q. (id, joiner v w, here, v_lives, has_joiner v w n (inl (subst (λ (z : View). Has z n) (some-injective x v (sym jx ∙ (ap (get_elem? views) q ∙ at))) has))))
        (λ nid. dite (ℕ_discrete j other)
        (λ q. (id, joiner v w, here, v_lives, has_joiner v w n (inr (subst (λ (z : View). Has z n) (some-injective x w (sym jx ∙ (ap (get_elem? views) q ∙ other_at))) has))))
        (λ nother. (j, x, there j x nother nid jx, lx, has)))))
        (r.told n);
  }

-- where the first seat has no seat that is still out, all steps stand in its lists
module _ (goes : List ℕ → List Made → Made → Type 0) (image : Image) (opening words : List ℕ) (views : List View) (h : List Entry) (r : Kept goes image opening words h views) (id : ℕ) (v : View)
    (at : get_elem? views id ≡ some v) (lives : v.live ≡ true) (first : v.name ≡ []) (none_out : v.children ≡ []) where
  is_first : (i : ℕ) (x : View) → get_elem? views i ≡ some x → x.live ≡ true → x.name ≡ [] → x ≡ v
  is_first i x ix lx e = dite (ℕ_discrete i id)
      (λ q. some-injective x v (sym ix ∙ (ap (get_elem? views) q ∙ at)))
      (λ ne. absurd (r.apart i id x v ix at lx lives ne [] (inl (inl e)) (inl (inl first))))

  rooted : (fuel i : ℕ) (x : View) → get_elem? views i ≡ some x → x.live ≡ true → length x.name < fuel → x.name ≡ []
  rooted zero i x ix lx f = absurd (omega arith)
  rooted (suc fuel) i x ix lx f = ⊎_elim (λ e. e)
      (λ (j, y, jy, ly, a). let b = (r.tidy j y jy ly).below x.name a in let e = rooted fuel j y jy ly (omega arith) in absurd (subst (λ (l : List (List ℕ)). AmongNames l x.name) (ap (λ (z : View). z.children) (is_first j y jy ly e) ∙ none_out) a))
      (r.owned i x ix lx)

  -- no other seat lives
  pub alone : (i : ℕ) (x : View) → get_elem? views i ≡ some x → x.live ≡ true → x ≡ v
  alone i x ix lx = is_first i x ix lx (rooted (suc (length x.name)) i x ix lx (omega arith))

  pub all_told : (n : List ℕ) → (by_seat n h ≡ []) ⊎ Has v n
  all_told n = ⊎_elim inl (λ (j, x, jx, lx, has). inr (subst (λ (z : View). Has z n) (alone j x jx lx) has)) (r.told n)

pub length_without : (n : List ℕ) (ks : List (List ℕ)) → AmongNames ks n → length (without n ks) + 1 ≡ length ks
length_without n [] a = absurd a
length_without n (x ∷ xs) a = elim (same_name x n) as (λ b. (same_name x n ≡ b) → length (cond b xs (x ∷ without n xs)) + 1 ≡ length (x ∷ xs)) [
  | true ↦ λ e. omega arith
  | false ↦ λ e. ⊎_elim (λ p. absurd (cc (same_itself x))) (λ c. let r = length_without n xs c in omega arith) a
] refl

pub joiner_children : (v w : View) → AmongNames v.children w.name → length (joiner v w).children + 1 ≡ length v.children + length w.children
joiner_children v w a = let l = length_without w.name v.children a in let m = length-append (without w.name v.children) w.children in omega arith

pub no_items : {A : Type 0} (l : List A) → length l ≡ 0 → l ≡ []
no_items [] e = refl
no_items (x ∷ xs) e = absurd (omega arith)

-- a seat that doesn't count comes
module _ (goes : List ℕ → List Made → Made → Type 0) (image : Image) (opening : List ℕ) where
  was : (views : List View) (v : View) (j : ℕ) (x : View) → get_elem? (views ++ shadow_of v ∷ []) j ≡ some x → x.live ≡ true → get_elem? views j ≡ some x
  was views v j x e l = ⊎_elim (λ a. a) (λ p. let z : false ≡ x.live = ap (λ (y : View). y.live) p.1 in absurd (cc)) (at_end views (shadow_of v) x j e)

  pub shadow_keeps : (words : List ℕ) (views : List View) (v : View) (h : List Entry) → Kept goes image opening words h views → Kept goes image opening words h (views ++ shadow_of v ∷ [])
  shadow_keeps words views v h r = record {
    stands = r.stands;
    know = λ j x e l. r.know j x (was views v j x e l) l;
    tidy = λ j x e l. r.tidy j x (was views v j x e l) l;
    apart = λ i j x y e f l m ne. r.apart i j x y (was views v i x e l) (was views v j y f m) l m ne;
    told = λ n. ⊎_elim inl (λ s. inr (longer views n (shadow_of v) s)) (r.told n);
    owned = λ j x e l. ⊎_elim inl (λ (i, y, iy, ly, a). inr (i, y, at_longer views (shadow_of v ∷ []) i y iy, ly, a)) (r.owned j x (was views v j x e l) l);
  }
