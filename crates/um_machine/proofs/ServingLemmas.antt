-- Who is served first.
use Rattle.std.proofs.Common.{◌≡◌, ℕ, suc, ◌≤◌, zero, ◌+◌, ◌<◌, Bool, true, false, not, cond, List, [], ◌∷◌, length, filter, drop, get_or, refl, sym, ap, subst, ◌∙◌, arith, Option, Some, None, slice_get}
use Rattle.std.specs.Prelude.{◌==◌, int_lt}
use Rattle.std.proofs.lemmas.Bool.Decides.{nat_tests}
use Rattle.std.proofs.lemmas.List.{drop_more}
use Rattle.std.proofs.lemmas.Option.{slice_get_read}
use Rattle.um_base.specs.declared.ask.Waiter.{Waiter}
use Rattle.um_machine.specs.declared.served.Served.{Served}
use Rattle.um_machine.specs.Services.{with_waiter, in_order, without}
use Rattle.um_machine.specs.Serving.{serves, served, unserved, IsFirstAt, FirstLeaves}
use Rattle.um_machine.specs.Waiting.{IsApart, AreWaiters}
use Rattle.um_machine.proofs.WaiterLemmas.{AreWaiters-filter, apart-same}

-- a list by its first element
front_some : {A : Type 0} (xs : List A) (x : A) → slice_get xs 0 ≡ Some x → xs ≡ x ∷ drop 1 xs
front_some [] x h = cc
front_some (y ∷ ys) x h = cc

-- the waiter at a place, and those behind it
from_place : (p : Waiter → Bool) (all : List Waiter) (i : ℕ) (w : Waiter) → i < length all → w ≡ get_or all i w → filter p (drop i all) ≡ cond (p w) (w ∷ filter p (drop (i + 1) all)) (filter p (drop (i + 1) all))
from_place p all i w inside at = rw (drop_more all i w inside, ← at) refl

-- one that isn't served
pub first_past : (p : Waiter → Bool) (all : List Waiter) (i : ℕ) (w : Waiter) (behind : Option ℕ) → i < length all → w ≡ get_or all i w → p w ≡ false → IsFirstAt all (filter p (drop (i + 1) all)) behind → IsFirstAt all (filter p (drop i all)) behind
first_past p all i w behind inside at fails h = rw (from_place p all i w inside at, fails) h

-- one with nobody behind it
pub first_alone : (p : Waiter → Bool) (all : List Waiter) (i : ℕ) (w : Waiter) → i < length all → w ≡ get_or all i w → p w ≡ true → IsFirstAt all (filter p (drop (i + 1) all)) None → IsFirstAt all (filter p (drop i all)) (Some i)
first_alone p all i w inside at passes none =
    (inside, rw (from_place p all i w inside at, passes, none, slice_get_read all (length all) i w refl inside at) refl)

-- one with a lesser priority number behind it
pub first_behind : (p : Waiter → Bool) (all : List Waiter) (i j : ℕ) (w v : Waiter) → i < length all → w ≡ get_or all i w → p w ≡ true → v ≡ get_or all j v → int_lt v.priority w.priority ≡ true → IsFirstAt all (filter p (drop (i + 1) all)) (Some j) → IsFirstAt all (filter p (drop i all)) (Some j)
first_behind p all i j w v inside at passes there lesser h =
    let read = slice_get_read all (length all) j v refl h.0 there in
    let ws = filter p (drop (i + 1) all) in
    let split = front_some (in_order ws) v (h.1 ∙ read) in
    (h.0, rw (from_place p all i w inside at, passes, split, lesser, read) refl)

-- one with none of a lesser priority number behind it
pub first_before : (p : Waiter → Bool) (all : List Waiter) (i j : ℕ) (w v : Waiter) → i < length all → w ≡ get_or all i w → p w ≡ true → v ≡ get_or all j v → int_lt v.priority w.priority ≡ false → IsFirstAt all (filter p (drop (i + 1) all)) (Some j) → IsFirstAt all (filter p (drop i all)) (Some i)
first_before p all i j w v inside at passes there lesser h =
    let read = slice_get_read all (length all) j v refl h.0 there in
    let ws = filter p (drop (i + 1) all) in
    let split = front_some (in_order ws) v (h.1 ∙ read) in
    (inside, rw (from_place p all i w inside at, passes, split, lesser, slice_get_read all (length all) i w refl inside at) refl)

-- those whom an act serves are those that pass its test
pub served-filter : (which : Served) (ws : List Waiter) → served which ws ≡ filter (serves which) ws
served-filter Served.All [] = refl
served-filter Served.All (w ∷ ws) = ap (λ vs. w ∷ vs) (served-filter Served.All ws)
served-filter Served.Getters ws = refl
served-filter Served.Putters ws = refl
served-filter Served.Readers ws = refl
served-filter Served.Writers ws = refl

-- two filters in either order
filter-filter : (p q : Waiter → Bool) (ws : List Waiter) → filter p (filter q ws) ≡ filter q (filter p ws)
filter-filter p q [] = refl
filter-filter p q (w ∷ ws) =
    let rest = filter-filter p q ws in
    elim (p w) as (λ b. p w ≡ b → filter p (cond (q w) (w ∷ filter q ws) (filter q ws)) ≡ filter q (cond b (w ∷ filter p ws) (filter p ws))) [
      | true ↦ λ e. elim (q w) as (λ b. filter p (cond b (w ∷ filter q ws) (filter q ws)) ≡ cond b (w ∷ filter q (filter p ws)) (filter q (filter p ws))) [ true ↦ rw (e, rest) refl | false ↦ rest ]
      | false ↦ λ e. elim (q w) as (λ b. filter p (cond b (w ∷ filter q ws) (filter q ws)) ≡ filter q (filter p ws)) [ true ↦ rw (e, rest) refl | false ↦ rest ]
    ] refl

-- a thread that doesn't wait isn't in the order of service
IsApart-with_waiter : (t : ℕ) (w : Waiter) (vs : List Waiter) → IsApart t vs → (w.thread.0 == t) ≡ false → IsApart t (with_waiter w vs)
IsApart-with_waiter t w [] h e = (e, tt)
IsApart-with_waiter t w (v ∷ vs) h e =
    elim (int_lt v.priority w.priority) as (λ b. IsApart t (cond b (v ∷ with_waiter w vs) (w ∷ v ∷ vs))) [
      | true ↦ (h.0, IsApart-with_waiter t w vs h.1 e)
      | false ↦ (e, h)
    ]

IsApart-in_order : (t : ℕ) (ws : List Waiter) → IsApart t ws → IsApart t (in_order ws)
IsApart-in_order t [] h = tt
IsApart-in_order t (w ∷ ws) h = IsApart-with_waiter t w (in_order ws) (IsApart-in_order t ws h.1) h.0

-- a waiter, the order of those behind it, and the first of all: the order without the first is the rest
first-leaves : (w : Waiter) (vs order : List Waiter) (f : Waiter) (rest : List Waiter) → IsApart w.thread.0 vs → in_order vs ≡ order
    → ((g : Waiter) (r : List Waiter) → order ≡ g ∷ r → in_order (without g.thread.0 vs) ≡ r)
    → with_waiter w order ≡ f ∷ rest → in_order (without f.thread.0 (w ∷ vs)) ≡ rest
first-leaves w vs [] f rest apart is behind h =
    let same : f ≡ w = cc in
    let none : rest ≡ [] = cc in
    let self : (w.thread.0 == w.thread.0) ≡ true = grind (arith, nat_tests) in
    subst (λ (x : Waiter). in_order (without x.thread.0 (w ∷ vs)) ≡ rest) (sym same) (rw (self, apart-same w.thread.0 vs apart, none) is)
first-leaves w vs (g ∷ r) f rest apart is behind h =
    let self : (w.thread.0 == w.thread.0) ≡ true = grind (arith, nat_tests) in
    let not_w : (g.thread.0 == w.thread.0) ≡ false = (rw is at (IsApart-in_order w.thread.0 vs apart)).0 in
    let w_not : (w.thread.0 == g.thread.0) ≡ false = grind (arith, nat_tests) in
    elim (int_lt g.priority w.priority) as (λ b. cond b (g ∷ with_waiter w r) (w ∷ g ∷ r) ≡ f ∷ rest → in_order (without f.thread.0 (w ∷ vs)) ≡ rest) [
      | true ↦ λ e. (let same : f ≡ g = cc in let left : with_waiter w r ≡ rest = cc in subst (λ (x : Waiter). in_order (without x.thread.0 (w ∷ vs)) ≡ rest) (sym same) (rw (w_not, behind g r refl) left))
      | false ↦ λ e. (let same : f ≡ w = cc in let left : g ∷ r ≡ rest = cc in subst (λ (x : Waiter). in_order (without x.thread.0 (w ∷ vs)) ≡ rest) (sym same) (rw (self, apart-same w.thread.0 vs apart, is) left))
    ] h

-- without the one that is served first, the others stay in their order
pub order-rest : (n : ℕ) (ws : List Waiter) (f : Waiter) (rest : List Waiter) → AreWaiters n ws → in_order ws ≡ f ∷ rest → in_order (without f.thread.0 ws) ≡ rest
order-rest n [] f rest h e = cc
order-rest n (w ∷ vs) f rest h e = first-leaves w vs (in_order vs) f rest h.1 refl (λ g r eq. order-rest n vs g r h.2 eq) e

-- each of these waiters passes a test
abbrev AllPass : (Waiter → Bool) → List Waiter → Type 0
AllPass p [] = Unit {0}
AllPass p (w ∷ ws) = (p w ≡ true) × AllPass p ws

AllPass-filter : (p : Waiter → Bool) (ws : List Waiter) → AllPass p (filter p ws)
AllPass-filter p [] = tt
AllPass-filter p (w ∷ ws) =
    elim (p w) as (λ b. p w ≡ b → AllPass p (cond b (w ∷ filter p ws) (filter p ws))) [ true ↦ λ e. (e, AllPass-filter p ws) | false ↦ λ e. AllPass-filter p ws ] refl

AllPass-with_waiter : (p : Waiter → Bool) (w : Waiter) (vs : List Waiter) → p w ≡ true → AllPass p vs → AllPass p (with_waiter w vs)
AllPass-with_waiter p w [] e h = (e, tt)
AllPass-with_waiter p w (v ∷ vs) e h =
    elim (int_lt v.priority w.priority) as (λ b. AllPass p (cond b (v ∷ with_waiter w vs) (w ∷ v ∷ vs))) [
      | true ↦ (h.0, AllPass-with_waiter p w vs e h.1)
      | false ↦ (e, h)
    ]

AllPass-in_order : (p : Waiter → Bool) (ws : List Waiter) → AllPass p ws → AllPass p (in_order ws)
AllPass-in_order p [] h = tt
AllPass-in_order p (w ∷ ws) h = AllPass-with_waiter p w (in_order ws) h.0 (AllPass-in_order p ws h.1)

-- a waiter among others isn't the thread that is apart from them
apart-at : (t : ℕ) (ws : List Waiter) (i : ℕ) (f : Waiter) → IsApart t ws → slice_get ws i ≡ Some f → (f.thread.0 == t) ≡ false
apart-at t [] i f h at = cc
apart-at t (w ∷ ws) zero f h at = let same : f ≡ w = cc in subst (λ (x : Waiter). (x.thread.0 == t) ≡ false) (sym same) h.0
apart-at t (w ∷ ws) (suc i) f h at = apart-at t ws i f h.1 at

-- those that fail a test stay where one that passes it leaves
fails-kept : (q : Waiter → Bool) (n : ℕ) (ws : List Waiter) (i : ℕ) (f : Waiter) → AreWaiters n ws → slice_get ws i ≡ Some f → q f ≡ false → filter q (without f.thread.0 ws) ≡ filter q ws
fails-kept q n [] i f h at e = cc
fails-kept q n (w ∷ ws) zero f h at e =
    let same : f ≡ w = cc in
    let self : (w.thread.0 == w.thread.0) ≡ true = grind (arith, nat_tests) in
    let fails : q w ≡ false = rw same at e in
    subst (λ (x : Waiter). filter q (without x.thread.0 (w ∷ ws)) ≡ filter q (w ∷ ws)) (sym same) (rw (self, apart-same w.thread.0 ws h.1, fails) refl)
fails-kept q n (w ∷ ws) (suc i) f h at e =
    let other : (f.thread.0 == w.thread.0) ≡ false = apart-at w.thread.0 ws i f h.1 at in
    let w_other : (w.thread.0 == f.thread.0) ≡ false = grind (arith, nat_tests) in
    let rest = fails-kept q n ws i f h.2 at e in
    rw w_other (ap (λ (vs : List Waiter). cond (q w) (w ∷ vs) vs) rest)

-- the same among those whom an act serves
pub first_served : (which : Served) (n : ℕ) (all : List Waiter) (i : ℕ) (f : Waiter) → AreWaiters n all → f ≡ get_or all i f → IsFirstAt all (filter (serves which) all) (Some i) → FirstLeaves which all (without f.thread.0 all) (Some f)
first_served which n all i f h at first =
    let ws = filter (serves which) all in
    let read = slice_get_read all (length all) i f refl first.0 at in
    let split = front_some (in_order ws) f (first.1 ∙ read) in
    let rest = order-rest n ws f (drop 1 (in_order ws)) (AreWaiters-filter (serves which) n all h) split in
    let leaves : in_order (filter (serves which) (without f.thread.0 all)) ≡ drop 1 (in_order ws) =
    ap in_order (filter-filter (serves which) (λ (w : Waiter). not (w.thread.0 == f.thread.0)) all) ∙ rest in
    let passes : serves which f ≡ true = (rw split at (AllPass-in_order (serves which) ws (AllPass-filter (serves which) all))).0 in (
      rw (served-filter which all, served-filter which (without f.thread.0 all), leaves) split,
      fails-kept (λ (w : Waiter). not (serves which w)) n all i f h read (rw passes refl),
      refl,
    )

pub none_served : (which : Served) (all : List Waiter) → IsFirstAt all (filter (serves which) all) None → FirstLeaves which all all None
none_served which all none = (rw (served-filter which all) none, refl)

-- as many in the order of service as wait
length-with_waiter : (w : Waiter) (vs : List Waiter) → length (with_waiter w vs) ≡ length vs + 1
length-with_waiter w [] = refl
length-with_waiter w (v ∷ vs) =
    elim (int_lt v.priority w.priority) as (λ b. length (cond b (v ∷ with_waiter w vs) (w ∷ v ∷ vs)) ≡ length (v ∷ vs) + 1) [
      | true ↦ omega (arith, length-with_waiter w vs)
      | false ↦ omega arith
    ]

pub length-in_order : (ws : List Waiter) → length (in_order ws) ≡ length ws
length-in_order [] = refl
length-in_order (w ∷ ws) = omega (arith, length-with_waiter w (in_order ws), length-in_order ws)

length-filter-le : (p : Waiter → Bool) (ws : List Waiter) → length (filter p ws) ≤ length ws
length-filter-le p [] = omega arith
length-filter-le p (w ∷ ws) =
    let rest = length-filter-le p ws in
    elim (p w) as (λ b. length (cond b (w ∷ filter p ws) (filter p ws)) ≤ length (w ∷ ws)) [ true ↦ omega arith | false ↦ omega arith ]

-- at most all are served
pub served-few : (which : Served) (ws : List Waiter) (n : ℕ) → length ws ≤ n → length (in_order (served which ws)) ≤ n
served-few which ws n h = rw (served-filter which ws) (omega (arith, length-in_order (filter (serves which) ws), length-filter-le (serves which) ws))

-- where nobody is served, nobody waits for it
pub none-waits : (ws : List Waiter) → in_order ws ≡ [] → ws ≡ []
none-waits [] h = refl
none-waits (w ∷ ws) h = absurd (omega (arith, length-in_order (w ∷ ws), ap length h))

all-fail : (p : Waiter → Bool) (ws : List Waiter) → filter p ws ≡ [] → filter (λ w. not (p w)) ws ≡ ws
all-fail p [] h = refl
all-fail p (w ∷ ws) h =
    elim (p w) as (λ b. cond b (w ∷ filter p ws) (filter p ws) ≡ [] → cond (not b) (w ∷ filter (λ v. not (p v)) ws) (filter (λ v. not (p v)) ws) ≡ w ∷ ws) [
      | true ↦ λ e. cc
      | false ↦ λ e. ap (λ (vs : List Waiter). w ∷ vs) (all-fail p ws e)
    ] h

-- those whom an act doesn't serve are all, where it serves none
pub unserved-all : (which : Served) (ws : List Waiter) → in_order (served which ws) ≡ [] → unserved which ws ≡ ws
unserved-all which ws h = all-fail (serves which) ws (rw (served-filter which ws) at (none-waits (served which ws) h))

-- all of them are served where every waiter is
pub unserved-none : (ws : List Waiter) → unserved Served.All ws ≡ []
unserved-none [] = refl
unserved-none (w ∷ ws) = unserved-none ws
