-- Small facts that many proofs share: of numbers and tests, of statuses, kinds and lists.
use Rattle.std.proofs.Common.{◌≡◌, ◌≢◌, ℕ, zero, suc, ◌<◌, ◌≤◌, Bool, true, false, not, ◌==◌, ◌&&◌, ◌||◌, nat_lt, nat_le, IsTrue, List, [], ◌∷◌, length, replicate, refl, sym, ap, ◌∙◌, None, slice_get, slice_index_or, slice_set, if◌then◌else◌, arith}
use Rattle.std.specs.List.{list_all}
use Rattle.std.proofs.lemmas.Bool.Decides.{nat_tests}
use Rattle.um_base.specs.declared.image.ObjectDef.{ObjectDef}
use Rattle.um_base.specs.declared.names.Kind.{Kind}
use Rattle.um_machine.specs.declared.object.Status.{Status}
use Rattle.um_machine.specs.Objects.{is_live, is_free, kind_number}
use Rattle.um_machine.specs.Writes.{Effect, Effects}
use Rattle.um_machine.proofs.EffectLemmas.{OfEach}

-- whether what stands at a row was born
abbrev pub is_standing : Status → Bool
is_standing Status.Live = true
is_standing Status.Gone = true
is_standing _ = false

pub both_of : (p q : Bool) → (p && q) ≡ true → (p ≡ true) × (q ≡ true)
both_of true q h = (refl, h)
both_of false q h = cc

pub both : (p q : Bool) → p ≡ true → q ≡ true → (p && q) ≡ true
both true true h k = refl
both true false h k = cc
both false q h k = cc

pub either_left : (p q : Bool) → p ≡ true → (p || q) ≡ true
either_left true q h = refl
either_left false q h = cc

pub either_right : (p q : Bool) → q ≡ true → (p || q) ≡ true
either_right true q h = refl
either_right false q h = h

pub or_else_right : (p q : Bool) → p ≡ false → (p || q) ≡ true → q ≡ true
or_else_right true q e h = cc
or_else_right false q e h = h

pub is_not : (b : Bool) → (b ≡ true → ⊥) → b ≡ false
is_not true h = absurd (h refl)
is_not false h = refl

pub itself : (n : ℕ) → (n == n) ≡ true
itself n = grind (arith, nat_tests)

pub is_le : (n m : ℕ) → nat_le n m ≡ true → n ≤ m
is_le n m h = grind (arith, nat_tests)

pub le_is : (n m : ℕ) → n ≤ m → nat_le n m ≡ true
le_is n m h = grind (arith, nat_tests)

pub less_is : (n m : ℕ) → n < m → nat_lt n m ≡ true
less_is n m h = grind (arith, nat_tests)

pub not_less : (n m : ℕ) → m ≤ n → nat_lt n m ≡ false
not_less n m h = grind (arith, nat_tests)

pub is_equal : (n m : ℕ) → (n == m) ≡ true → n ≡ m
is_equal n m h = grind (arith, nat_tests)

pub differs : (n m : ℕ) → n ≢ m → (n == m) ≡ false
differs n m h = grind (arith, nat_tests)

pub equals : (n m : ℕ) → n ≡ m → (n == m) ≡ true
equals n m h = grind (arith, nat_tests)

pub and_not : (k b : Bool) → k ≡ true → b ≡ false → (k && not b) ≡ true
and_not true false h g = refl
and_not true true h g = cc
and_not false b h g = cc

pub and_is : (k b : Bool) → b ≡ true → (k && not b) ≡ false
and_is true true h = refl
and_is false true h = refl
and_is k false h = cc

-- nobody who holds nothing of a row has checked it
pub left_of : (a b : Bool) → (a || b) ≡ false → a ≡ false
left_of false b h = refl
left_of true b h = cc

pub right_of : (a b : Bool) → (a || b) ≡ false → b ≡ false
right_of false b h = h
right_of true b h = cc

pub none_checked : (x : ℕ) (n : ℕ) → slice_index_or (replicate n false) x false ≡ false
none_checked x zero = refl
none_checked zero (suc n) = refl
none_checked (suc x) (suc n) = none_checked x n

pub is_false : (b : Bool) → IsTrue (not b) → b ≡ false
is_false false h = refl
is_false true h = cc

pub unfree : (status : Status) → is_free status ≡ true → status ≡ Status.Free
unfree Status.Free h = refl
unfree Status.Live h = cc
unfree Status.Gone h = cc
unfree Status.Reserved h = cc

-- an object that a thread has a pair with has a row
pub not_free : (status : Status) → is_live status ≡ true → is_free status ≡ false
not_free Status.Live h = refl
not_free Status.Gone h = refl
not_free Status.Reserved h = refl
not_free Status.Free h = cc

abbrev pub number_kind : ℕ → Kind
number_kind n =
    if n == 0 then Kind.Thread else if n == 1 then Kind.ThreadStack else if n == 2 then Kind.Sem else if n == 3 then Kind.Mutex else if n == 4 then Kind.Msgq
    else if n == 5 then Kind.Stack else if n == 6 then Kind.Pipe else Kind.Timer

pub kind_again : (k : Kind) → number_kind (kind_number k) ≡ k
kind_again Kind.Thread = refl
kind_again Kind.ThreadStack = refl
kind_again Kind.Sem = refl
kind_again Kind.Mutex = refl
kind_again Kind.Msgq = refl
kind_again Kind.Stack = refl
kind_again Kind.Pipe = refl
kind_again Kind.Timer = refl

pub same_kind : (k l : Kind) → (kind_number k == kind_number l) ≡ true → k ≡ l
same_kind k l h = sym (kind_again k) ∙ ap number_kind (is_equal (kind_number k) (kind_number l) h) ∙ kind_again l

pub no_slice : (os : List ObjectDef) (x : ℕ) → length os ≤ x → slice_get os x ≡ None
no_slice [] zero h = refl
no_slice [] (suc x) h = refl
no_slice (o ∷ os) zero h = absurd (omega (arith, h))
no_slice (o ∷ os) (suc x) h = no_slice os x (omega (arith, h))

pub lively : (status : Status) → is_live status ≡ true → is_standing status ≡ true
lively Status.Live h = refl
lively Status.Gone h = cc
lively Status.Free h = cc
lively Status.Reserved h = cc

-- a flag that is set, once one of them stays set on a condition, was set before
pub set-less : (flags : List Bool) (x r : ℕ) (stays : Bool) → slice_index_or (slice_set flags x (slice_index_or flags x false && stays)) r false ≡ true → slice_index_or flags r false ≡ true
set-less [] x r stays h = h
set-less (flag ∷ flags) zero zero stays h = (both_of flag stays h).0
set-less (flag ∷ flags) zero (suc r) stays h = h
set-less (flag ∷ flags) (suc x) zero stays h = h
set-less (flag ∷ flags) (suc x) (suc r) stays h = set-less flags x r stays h

-- a fact of each write that a test lets through is one of all writes that it does
pub each-of : (is : Effect → Bool) (F : Effect → Type 0) → ((e : Effect) → is e ≡ true → F e) → (ws : Effects) → list_all (λ (w : Bool × Effect). is w.1) ws ≡ true → OfEach F ws
each-of is F f [] h = tt
each-of is F f ((b, e) ∷ ws) h = let parts = both_of (is e) (list_all (λ (w : Bool × Effect). is w.1) ws) h in (f e parts.0, each-of is F f ws parts.1)
