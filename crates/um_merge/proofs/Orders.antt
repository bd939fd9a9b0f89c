-- A step that is first of its processor and of its site may come first.
use Rattle.std.proofs.Common.{◌≡◌, ◌≢◌, ℕ, zero, suc, ◌+◌, ◌<◌, ◌≤◌, true, false, cond, eqb, List, [], ◌∷◌, ◌++◌, sym, refl, ap, ◌∙◌, subst, append_assoc, append-nil, eq-eqb, ne_eqb, arith, length}
use Rattle.std.proofs.lemmas.Bool.{eqb-true}
use mathlib.Core.Logic.{dite}
use native.Mathlib.Decide.{ℕ_discrete, dec_lt}
use Rattle.um_fine.specs.Runs.{has_key, sublist, SameAt}
use Rattle.um_fine.proofs.Subs.{sub-append}
use Rattle.um_merge.specs.declared.logged.Logged.{Logged}
use Rattle.std.proofs.Common.{get_or, drop, take, set, length-append, length-set, get_or-set_same, get_or-set_other, drop-cons, add-one, replicate}
use Rattle.std.proofs.lemmas.List.{length-replicate}
use Rattle.std.proofs.Math.ListN.{drop_of_length-le}
use Rattle.um_merge.specs.Logs.{Log, blank, events_of}
use Rattle.um_merge.specs.Merged.{cpu_of, site_of, SameOrder, AreNumbered, AreShown, log_at, IsOrder, IsNext, IsMerging, AreAtSites}

-- a step before others with its key
module _ {E : Type 0} (key : E → ℕ) where
  pub first_of : (k : ℕ) (h : List E) (x : E) (xs : List E) → sublist eqb key k h ≡ x ∷ xs → (pre : List E) × (post : List E) × (h ≡ pre ++ x ∷ post) × (sublist eqb key k pre ≡ []) × (key x ≡ k)
  first_of k [] x xs e = absurd (cc)
  first_of k (y ∷ ys) x xs e = elim (eqb (key y) k) as (λ b. (eqb (key y) k ≡ b) → (cond b (y ∷ sublist eqb key k ys) (sublist eqb key k ys) ≡ x ∷ xs) → (pre : List E) × (post : List E) × (y ∷ ys ≡ pre ++ x ∷ post) × (sublist eqb key k pre ≡ []) × (key x ≡ k)) [
    | true ↦ λ q f. let same : y ≡ x = cc in ([], ys, ap (λ z. z ∷ ys) same, refl, ap key (sym same) ∙ eqb-true (key y) k q)
    | false ↦ λ q f. let r = first_of k ys x xs f in (y ∷ r.0, r.1, ap (λ l. y ∷ l) r.2, ap (λ b. cond b (y ∷ sublist eqb key k r.0) (sublist eqb key k r.0)) q ∙ r.3, r.4)
  ] refl e

  pub sublist_moves : (pre post : List E) (x : E) → sublist eqb key (key x) pre ≡ [] → SameAt eqb key (pre ++ x ∷ post) (x ∷ (pre ++ post))
  sublist_moves pre post x none k = dite (ℕ_discrete (key x) k)
      (λ q. let none' : sublist eqb key k pre ≡ [] = subst (λ (j : ℕ). sublist eqb key j pre ≡ []) q none in
      sub-append (has_key eqb key k) pre (x ∷ post) ∙ (ap (λ l. l ++ sublist eqb key k (x ∷ post)) none' ∙ ap (λ l. cond (eqb (key x) k) (x ∷ l) l) (sym (sub-append (has_key eqb key k) pre post ∙ ap (λ l. l ++ sublist eqb key k post) none'))))
      (λ ne. let off = ne_eqb (key x) k ne in sub-append (has_key eqb key k) pre (x ∷ post) ∙ (ap (λ b. sublist eqb key k pre ++ cond b (x ∷ sublist eqb key k post) (sublist eqb key k post)) off ∙ (sym (sub-append (has_key eqb key k) pre post) ∙ ap (λ b. cond b (x ∷ sublist eqb key k (pre ++ post)) (sublist eqb key k (pre ++ post))) (sym off))))

  pub same_behind : (w g h : List E) → SameAt eqb key g h → SameAt eqb key (w ++ g) (w ++ h)
  same_behind w g h s k = sub-append (has_key eqb key k) w g ∙ (ap (λ l. sublist eqb key k w ++ l) (s k) ∙ sym (sub-append (has_key eqb key k) w h))

  pub sublist_on : (w : List E) (y : E) (k : ℕ) → key y ≡ k → sublist eqb key k (w ++ y ∷ []) ≡ sublist eqb key k w ++ y ∷ []
  sublist_on w y k e = sub-append (has_key eqb key k) w (y ∷ []) ∙ ap (λ b. sublist eqb key k w ++ cond b (y ∷ []) []) (eq-eqb (key y) k e)

  pub sublist_off : (w : List E) (y : E) (k : ℕ) → key y ≢ k → sublist eqb key k (w ++ y ∷ []) ≡ sublist eqb key k w
  sublist_off w y k ne = sub-append (has_key eqb key k) w (y ∷ []) ∙ (ap (λ b. sublist eqb key k w ++ cond b (y ∷ []) []) (ne_eqb (key y) k ne) ∙ append-nil (sublist eqb key k w))

  pub sublist_head : (y : E) (ys : List E) → sublist eqb key (key y) (y ∷ ys) ≡ y ∷ sublist eqb key (key y) ys
  sublist_head y ys = ap (λ b. cond b (y ∷ sublist eqb key (key y) ys) (sublist eqb key (key y) ys)) (eq-eqb (key y) (key y) refl)

-- numbers that ascend
pub numbered_split : (n : ℕ) (xs ys : List Logged) → AreNumbered n (xs ++ ys) → AreNumbered (n + length xs) ys
numbered_split n [] ys r = subst (λ (m : ℕ). AreNumbered m ys) (omega arith) r
numbered_split n (x ∷ xs) ys r = subst (λ (m : ℕ). AreNumbered m ys) (omega arith) (numbered_split (n + 1) xs ys r.1)

pub numbered_first : (n : ℕ) (xs ys : List Logged) (x : Logged) → AreNumbered n (xs ++ x ∷ ys) → x.number ≡ n + 1 → xs ≡ []
numbered_first n [] ys x r e = refl
numbered_first n (y ∷ xs) ys x r e = let q = (numbered_split n (y ∷ xs) (x ∷ ys) r).0 in absurd (omega arith)

same_length : (w pre post : List Logged) (x : Logged) (rest : List Logged) → rest ≡ pre ++ x ∷ post → length ((w ++ x ∷ []) ++ (pre ++ post)) ≡ length (w ++ rest)
same_length w pre post x rest e = omega (arith, length-append (w ++ x ∷ []) (pre ++ post), length-append w (x ∷ []), length-append pre post, length-append w rest, ap length e, length-append pre (x ∷ post))

-- the step that is first of its processor among those that are left, and has the next number of its site, may be written next
pub may_be_next : (w rest : List Logged) (c n : ℕ) (x : Logged) (xs : List Logged) → sublist eqb cpu_of c rest ≡ x ∷ xs → AreNumbered n (sublist eqb site_of x.site rest) → x.number ≡ n + 1
    → (rest' : List Logged) × SameOrder ((w ++ x ∷ []) ++ rest') (w ++ rest) × (length ((w ++ x ∷ []) ++ rest') ≡ length (w ++ rest)) × (cpu_of x ≡ c)
may_be_next w rest c n x xs first num is =
    let f = first_of cpu_of c rest x xs first in let pre = f.0 in let post = f.1 in
    let split = ap (sublist eqb site_of x.site) f.2 ∙ sub-append (has_key eqb site_of x.site) pre (x ∷ post) in
    let here : sublist eqb site_of x.site (x ∷ post) ≡ x ∷ sublist eqb site_of x.site post = ap (λ b. cond b (x ∷ sublist eqb site_of x.site post) (sublist eqb site_of x.site post)) (eq-eqb x.site x.site refl) in
    let none = numbered_first n (sublist eqb site_of x.site pre) (sublist eqb site_of x.site post) x (subst (AreNumbered n) (split ∙ ap (λ l. sublist eqb site_of x.site pre ++ l) here) num) is in
    let back : (key : Logged → ℕ) → SameAt eqb key (pre ++ x ∷ post) (x ∷ (pre ++ post)) → SameAt eqb key ((w ++ x ∷ []) ++ (pre ++ post)) (w ++ rest) =
    λ key m k. ap (sublist eqb key k) (append_assoc w (x ∷ []) (pre ++ post)) ∙ (sym (same_behind key w (pre ++ x ∷ post) (x ∷ (pre ++ post)) m k) ∙ ap (λ l. sublist eqb key k (w ++ l)) (sym f.2)) in
    (pre ++ post, (back cpu_of (sublist_moves cpu_of pre post x (ap (λ j. sublist eqb cpu_of j pre) f.4 ∙ f.3)), back site_of (sublist_moves site_of pre post x none)), same_length w pre post x rest f.2, f.4)

get-log : (logs : List Log) (c : ℕ) (d : Log) → c < length logs → (get_or logs c d).items ≡ log_at logs c
get-log [] c d h = absurd (omega arith)
get-log (l ∷ ls) zero d h = refl
get-log (l ∷ ls) (suc c) d h = get-log ls c d (omega arith)

-- a log that was read from its place
pub log-read : (logs : List Log) (c : ℕ) (d log : Log) → log ≡ get_or logs c d → c < length logs → log.items ≡ log_at logs c
log-read logs c d log is h = ap (λ (l : Log). l.items) is ∙ get-log logs c d h

no_log : (logs : List Log) (c : ℕ) → length logs ≤ c → log_at logs c ≡ []
no_log [] c h = refl
no_log (l ∷ ls) zero h = absurd (omega arith)
no_log (l ∷ ls) (suc c) h = no_log ls c (omega arith)

not_nil : (xs ys : List Logged) (y : Logged) → xs ++ y ∷ ys ≡ [] → ⊥
not_nil [] ys y e = cc
not_nil (x ∷ xs) ys y e = cc

cancel_left : {A : Type 0} (p xs ys : List A) → p ++ xs ≡ p ++ ys → xs ≡ ys
cancel_left [] xs ys e = e
cancel_left (x ∷ p) xs ys e = cancel_left p xs ys (cc)

module _ (logs : List Log) (few : length logs ≤ 8) (below : AreAtSites logs) (w : List Logged) (at done : List ℕ) (m : IsMerging logs w at done) where
  -- what is left of a log
  rest_of : (h rest : List Logged) → IsOrder logs h → SameOrder (w ++ rest) h → (c : ℕ) → c < length logs → sublist eqb cpu_of c rest ≡ drop (get_or at c 0) (log_at logs c)
  rest_of h rest fit same c in' = cancel_left (sublist eqb cpu_of c w) (sublist eqb cpu_of c rest) (drop (get_or at c 0) (log_at logs c))
      (sym (sub-append (has_key eqb cpu_of c) w rest) ∙ (same.0 c ∙ (fit.logged c ∙ sym (m.placed c in'))))

  rest_numbers : (h rest : List Logged) → IsOrder logs h → SameOrder (w ++ rest) h → (i : ℕ) → i < 309 → AreNumbered (get_or done i 0) (sublist eqb site_of i rest)
  rest_numbers h rest fit same i in' = let all : AreNumbered 0 (sublist eqb site_of i (w ++ rest)) = subst (AreNumbered 0) (sym (same.1 i)) (fit.numbered i) in
      let parts : AreNumbered 0 (sublist eqb site_of i w ++ sublist eqb site_of i rest) = subst (AreNumbered 0) (sub-append (has_key eqb site_of i) w rest) all in
      subst (λ (n : ℕ). AreNumbered n (sublist eqb site_of i rest)) (m.counted i in') (subst (λ (n : ℕ). AreNumbered n (sublist eqb site_of i rest)) (omega arith) (numbered_split 0 (sublist eqb site_of i w) (sublist eqb site_of i rest) parts))

  module _ (c : ℕ) (in' : c < length logs) (next : IsNext logs at done c) where
    x : Logged
    x = get_or (log_at logs c) (get_or at c 0) blank

    heads : drop (get_or at c 0) (log_at logs c) ≡ get_or (log_at logs c) (get_or at c 0) blank ∷ drop (suc (get_or at c 0)) (log_at logs c)
    heads = drop-cons (log_at logs c) (get_or at c 0) blank next.0

    site_below : (get_or (log_at logs c) (get_or at c 0) blank).site < 309
    site_below = below c in' (get_or at c 0) next.0

    placed_here : (y : Logged) → y ≡ get_or (log_at logs c) (get_or at c 0) blank → cpu_of y ≡ c → sublist eqb cpu_of c (w ++ y ∷ []) ++ drop (get_or (set at c (get_or at c 0 + 1)) c 0) (log_at logs c) ≡ log_at logs c
    placed_here y is e = let wide : c < length at = omega (arith, m.eight) in
        ap (λ l. l ++ drop (get_or (set at c (get_or at c 0 + 1)) c 0) (log_at logs c)) (sublist_on cpu_of w y c e)
        ∙ (ap (λ n. (sublist eqb cpu_of c w ++ y ∷ []) ++ drop n (log_at logs c)) (get_or-set_same at c (get_or at c 0 + 1) 0 wide)
        ∙ (append_assoc (sublist eqb cpu_of c w) (y ∷ []) (drop (get_or at c 0 + 1) (log_at logs c))
        ∙ (ap (λ l. sublist eqb cpu_of c w ++ l) (ap (λ z. z ∷ drop (get_or at c 0 + 1) (log_at logs c)) is ∙ (ap (λ n. get_or (log_at logs c) (get_or at c 0) blank ∷ drop n (log_at logs c)) (add-one (get_or at c 0)) ∙ sym heads)) ∙ m.placed c in')))

    counted_here : (y : Logged) → y ≡ get_or (log_at logs c) (get_or at c 0) blank → length (sublist eqb site_of y.site (w ++ y ∷ [])) ≡ get_or (set done y.site y.number) y.site 0
    counted_here y is = let small : y.site < 309 = subst (λ (z : Logged). z.site < 309) (sym is) site_below in let wide : y.site < length done = omega (arith, m.all_sites) in
        let n : y.number ≡ get_or done y.site 0 + 1 = subst (λ (z : Logged). z.number ≡ get_or done z.site 0 + 1) (sym is) next.1 in
        rw (get_or-set_same done y.site y.number 0 wide, sublist_on site_of w y y.site refl) (omega (arith, length-append (sublist eqb site_of y.site w) (y ∷ []), m.counted y.site small))

    taken : (h : List Logged) → IsOrder logs h → let y = get_or (log_at logs c) (get_or at c 0) blank in (rest : List Logged) × SameOrder ((w ++ y ∷ []) ++ rest) h × (length ((w ++ y ∷ []) ++ rest) ≡ length h) × (cpu_of y ≡ c)
    taken h fit = let l = m.left h fit in let rest = l.0 in let y = get_or (log_at logs c) (get_or at c 0) blank in
        let r = may_be_next w rest c (get_or done y.site 0) y (drop (suc (get_or at c 0)) (log_at logs c)) (rest_of h rest fit l.1 c in' ∙ heads) (rest_numbers h rest fit l.1 y.site site_below) next.1 in
        (r.0, ((λ k. r.1.0 k ∙ l.1.0 k), λ k. r.1.1 k ∙ l.1.1 k), r.2 ∙ l.2, r.3)

    pub merging_room : (h : List Logged) → IsOrder logs h → length w < length h
    merging_room h fit = let t = taken h fit in let y = get_or (log_at logs c) (get_or at c 0) blank in omega (arith, t.2, length-append (w ++ y ∷ []) t.0, length-append w (y ∷ []))

    pub merging_step : (h : List Logged) → IsOrder logs h → let y = get_or (log_at logs c) (get_or at c 0) blank in IsMerging logs (w ++ y ∷ []) (set at c (get_or at c 0 + 1)) (set done y.site y.number)
    merging_step h fit = let y = get_or (log_at logs c) (get_or at c 0) blank in let t = taken h fit in record {
      left = λ g fits. let s = taken g fits in (s.0, s.1, s.2);
      placed = λ k here. dite (ℕ_discrete c k)
          (λ q. subst (λ (j : ℕ). sublist eqb cpu_of j (w ++ y ∷ []) ++ drop (get_or (set at c (get_or at c 0 + 1)) j 0) (log_at logs j) ≡ log_at logs j) q
          (placed_here y refl t.3))
          (λ ne. rw (get_or-set_other at c k (get_or at c 0 + 1) 0 (λ e. ne (sym e))) (ap (λ l. l ++ drop (get_or at k 0) (log_at logs k)) (sublist_off cpu_of w y k (λ e. ne (sym t.3 ∙ e))) ∙ m.placed k here));
      counted = λ i here. dite (ℕ_discrete y.site i)
          (λ q. subst (λ (j : ℕ). length (sublist eqb site_of j (w ++ y ∷ [])) ≡ get_or (set done y.site y.number) j 0) q (counted_here y refl))
          (λ ne. rw (get_or-set_other done y.site i y.number 0 (λ e. ne (sym e))) (ap length (sublist_off site_of w y i ne) ∙ m.counted i here));
      eight = length-set at c (get_or at c 0 + 1) ∙ m.eight;
      all_sites = length-set done y.site y.number ∙ m.all_sites;
    }

  -- the first of what is left is the next step of its processor and of its site
  first_is_next : (h : List Logged) (e : Logged) (es : List Logged) → IsOrder logs h → SameOrder (w ++ e ∷ es) h → ((c : ℕ) → c < length logs → IsNext logs at done c → ⊥) → ⊥
  first_is_next h e es fit same stuck = let c : ℕ = cpu_of e in dite (dec_lt c (length logs))
      (λ in'. let d : e ∷ sublist eqb cpu_of c es ≡ drop (get_or at c 0) (log_at logs c) = sym (sublist_head cpu_of e es) ∙ rest_of h (e ∷ es) fit same c in' in
      let n : get_or at c 0 < length (log_at logs c) = dite (dec_lt (get_or at c 0) (length (log_at logs c))) (λ a. a) (λ a. let z : drop (get_or at c 0) (log_at logs c) ≡ [] = drop_of_length-le (log_at logs c) (omega arith) in absurd (cc)) in
      let f = drop-cons (log_at logs c) (get_or at c 0) blank n in
      let is : e ≡ get_or (log_at logs c) (get_or at c 0) blank = cc in
      let small : e.site < 309 = subst (λ (z : Logged). z.site < 309) (sym is) (below c in' (get_or at c 0) n) in
      let num : AreNumbered (get_or done e.site 0) (e ∷ sublist eqb site_of e.site es) = subst (AreNumbered (get_or done e.site 0)) (sublist_head site_of e es) (rest_numbers h (e ∷ es) fit same e.site small) in
      stuck c in' (n, subst (λ (z : Logged). z.number ≡ get_or done z.site 0 + 1) is num.0))
      (λ out. let none : sublist eqb cpu_of c (w ++ e ∷ es) ≡ [] = same.0 c ∙ (fit.logged c ∙ no_log logs c (omega arith)) in
      not_nil (sublist eqb cpu_of c w) (sublist eqb cpu_of c es) e (sym (sub-append (has_key eqb cpu_of c) w (e ∷ es) ∙ ap (λ l. sublist eqb cpu_of c w ++ l) (sublist_head cpu_of e es)) ∙ none))

  ended : (rest h : List Logged) → SameOrder (w ++ rest) h → IsOrder logs h → ((c : ℕ) → c < length logs → IsNext logs at done c → ⊥) → SameOrder w h
  ended [] h same fit stuck = subst (λ (l : List Logged). SameOrder l h) (append-nil w) same
  ended (e ∷ es) h same fit stuck = absurd (first_is_next h e es fit same stuck)

  -- where no processor's next step has the next number of its site, all is written
  pub merging_ends : ((c : ℕ) → c < length logs → IsNext logs at done c → ⊥) → (h : List Logged) → IsOrder logs h → SameOrder w h
  merging_ends stuck h fit = let l = m.left h fit in ended l.0 h l.1 fit stuck

read_same : (n i z : ℕ) → get_or (replicate n z) i z ≡ z
read_same zero i z = refl
read_same (suc n) zero z = refl
read_same (suc n) (suc i) z = read_same n i z

pub merging_begins : (logs : List Log) → IsMerging logs [] (replicate 8 0) (replicate 309 0)
merging_begins logs = record {
  left = λ h fit. (h, ((λ k. refl), λ k. refl), refl);
  placed = λ c in'. ap (λ n. drop n (log_at logs c)) (read_same 8 c 0);
  counted = λ i in'. sym (read_same 309 i 0);
  eight = let z : ℕ = 0 in length-replicate 8 z;
  all_sites = let z : ℕ = 0 in length-replicate 309 z;
}

-- at first none is shown
pub shown_begins : (logs : List Log) → AreShown logs (replicate 8 0) (replicate 8 0)
shown_begins logs c in' = read_same 8 c 0 ∙ sym (ap (λ (n : ℕ). length (events_of (take n (log_at logs c)))) (read_same 8 c 0))

-- then those with the step of one processor more
pub shown_step : (logs : List Log) (at shown : List ℕ) (c n : ℕ) → AreShown logs at shown → c < length at → c < length shown
    → n ≡ length (events_of (take (get_or at c 0 + 1) (log_at logs c))) → AreShown logs (set at c (get_or at c 0 + 1)) (set shown c n)
shown_step logs at shown c n before wide room more k here = dite (ℕ_discrete c k)
    (λ q. subst (λ (j : ℕ). get_or (set shown c n) j 0 ≡ length (events_of (take (get_or (set at c (get_or at c 0 + 1)) j 0) (log_at logs j)))) q
    (get_or-set_same shown c n 0 room ∙ (more ∙ sym (ap (λ (m : ℕ). length (events_of (take m (log_at logs c)))) (get_or-set_same at c (get_or at c 0 + 1) 0 wide)))))
    (λ ne. get_or-set_other shown c k n 0 (λ e. ne (sym e)) ∙ (before k here ∙ sym (ap (λ (m : ℕ). length (events_of (take m (log_at logs k)))) (get_or-set_other at c k (get_or at c 0 + 1) 0 (λ e. ne (sym e))))))

-- where no step is of a later processor, all are of the first
of-first : (x : Logged) (xs : List Logged) (n : ℕ) → cpu_of x ≡ n → ((k : ℕ) → sublist eqb cpu_of (suc k) (x ∷ xs) ≡ []) → cpu_of x ≡ 0
of-first x xs zero is none = is
of-first x xs (suc n) is none = absurd (not_nil [] (sublist eqb cpu_of (cpu_of x) xs) x (sym (sublist_head cpu_of x xs) ∙ ap (λ (k : ℕ). sublist eqb cpu_of k (x ∷ xs)) is ∙ none n))

all-of-first : (order items : List Logged) → sublist eqb cpu_of 0 order ≡ items → ((k : ℕ) → sublist eqb cpu_of (suc k) order ≡ []) → order ≡ items
all-of-first [] items same none = same
all-of-first (x ∷ xs) items same none =
    let here = of-first x xs (cpu_of x) refl none in
    let first : sublist eqb cpu_of 0 (x ∷ xs) ≡ x ∷ sublist eqb cpu_of 0 xs = ap (λ b. cond b (x ∷ sublist eqb cpu_of 0 xs) (sublist eqb cpu_of 0 xs)) (eq-eqb (cpu_of x) 0 here) in
    let others : (k : ℕ) → sublist eqb cpu_of (suc k) xs ≡ [] =
    λ k. ap (λ b. cond b (x ∷ sublist eqb cpu_of (suc k) xs) (sublist eqb cpu_of (suc k) xs)) (sym (ne_eqb (cpu_of x) (suc k) (λ e. absurd (omega (arith, here, e))))) ∙ none k in
    ap (λ l. x ∷ l) (all-of-first xs (sublist eqb cpu_of 0 xs) refl others) ∙ (sym first ∙ same)

-- what was taken off a list of one log
pub one-popped : (logs rest : List Log) (log : Log) → logs ≡ rest ++ log ∷ [] → length logs ≡ 1 → logs ≡ log ∷ []
one-popped logs [] log is long = is
one-popped logs (x ∷ rest) log is long = absurd (omega (arith, ap length is, long, length-append rest (log ∷ [])))

-- the log of a single processor is in the order of every list of its steps
pub alone : (logs : List Log) (log : Log) (order : List Logged) → logs ≡ log ∷ [] → IsOrder logs order → SameOrder log.items order
alone logs log order one is =
    let fit = subst (λ (ls : List Log). IsOrder ls order) one is in
    let same = all-of-first order log.items (fit.logged 0) (λ k. fit.logged (suc k)) in
    subst (λ (l : List Logged). SameOrder l order) same (λ k. refl, λ k. refl)
