-- Strings that are read byte by byte.
use Rattle.std.proofs.Common.{◌≡◌, ℕ, zero, suc, ◌+◌, ◌-◌, ◌<◌, ◌≤◌, ◌^◌, Bool, true, false, refl, ◌∙◌, arith, if◌then◌else◌, ◌==◌, List, [], ◌∷◌, drop, length, ap}
use Rattle.std.specs.Prelude.{slice_index}
use Rattle.std.proofs.lemmas.Bool.{lt-leb, le-ltb}
use Rattle.um_base.specs.declared.names.Access.TheVariants as Access
use Rattle.um_base.specs.declared.act.Found.TheVariants as Found
use Rattle.um_base.specs.declared.limits.TheConstants.{AREA_SIZE, STACK_AREA, PARTITION_AREA}
use Rattle.um_machine.specs.State.{State}
use Rattle.um_machine.specs.Memory.{allowed, bytes_at, string_from, string_bytes}

-- nothing is allowed past the last address
pub not_allowed : (s : State) (t a before : ℕ) → 2 ^ 32 ≤ a + before → allowed s t Access.Read (a + before) 1 ≡ false
not_allowed s t a before h = rw (lt-leb (a + before + 1) (2 ^ 32) (omega arith)) refl

drop-past : (xs : List ℕ) (n : ℕ) → length xs ≤ n → drop n xs ≡ []
drop-past [] zero h = refl
drop-past [] (suc n) h = refl
drop-past (x ∷ xs) zero h = absurd (omega arith)
drop-past (x ∷ xs) (suc n) h = drop-past xs n (omega arith)

-- no byte stands there
pub no_byte : (s : State) (a before : ℕ) → length s.stacks ≡ AREA_SIZE → 2 ^ 32 ≤ a + before → slice_index (bytes_at s (a + before) 1) 0 ≡ 0
no_byte s a before whole h =
    rw (le-ltb (a + before) PARTITION_AREA (omega arith), le-ltb (a + before) STACK_AREA (omega arith), drop-past s.stacks (a + before - STACK_AREA) (omega arith)) refl

-- a string read goes on with its next byte, which isn't the zero
pub string_more : (s : State) (t a before : ℕ) → before < 32
    → string_from s t (a + before) (32 - before) before
    ≡ (if allowed s t Access.Read (a + before) 1
    then (if slice_index (bytes_at s (a + before) 1) 0 == 0 then Found.Length before else string_from s t (a + (before + 1)) (32 - (before + 1)) (before + 1)) else Found.Unreadable)
string_more s t a before h =
    let e : 32 - before ≡ suc (32 - (before + 1)) = omega arith in
    let next : a + before + 1 ≡ a + (before + 1) = omega arith in
    rw e (ap (λ (i : ℕ). if allowed s t Access.Read (a + before) 1 then (if slice_index (bytes_at s (a + before) 1) 0 == 0 then Found.Length before else string_from s t i (32 - (before + 1)) (before + 1)) else Found.Unreadable) next)

pub string_next : (s : State) (t a before : ℕ) → before < 32 → allowed s t Access.Read (a + before) 1 ≡ true → (slice_index (bytes_at s (a + before) 1) 0 == 0) ≡ false
    → string_from s t (a + before) (32 - before) before ≡ string_from s t (a + (before + 1)) (32 - (before + 1)) (before + 1)
string_next s t a before h may more =
    string_more s t a before h
    ∙ ap (λ (b : Bool). if b then (if slice_index (bytes_at s (a + before) 1) 0 == 0 then Found.Length before else string_from s t (a + (before + 1)) (32 - (before + 1)) (before + 1)) else Found.Unreadable) may
    ∙ ap (λ (b : Bool). if b then Found.Length before else string_from s t (a + (before + 1)) (32 - (before + 1)) (before + 1)) more

-- the bytes of a string go on with the next one
pub string_bytes_more : (s : State) (a before n : ℕ) → before < n
    → string_bytes s (a + before) (n - before) ≡ slice_index (bytes_at s (a + before) 1) 0 ∷ string_bytes s (a + (before + 1)) (n - (before + 1))
string_bytes_more s a before n h =
    let e : n - before ≡ suc (n - (before + 1)) = omega arith in
    let next : a + before + 1 ≡ a + (before + 1) = omega arith in
    rw e (ap (λ (i : ℕ). slice_index (bytes_at s (a + before) 1) 0 ∷ string_bytes s i (n - (before + 1))) next)

pub string_bytes_end : (s : State) (a before n : ℕ) → n ≤ before → string_bytes s (a + before) (n - before) ≡ []
string_bytes_end s a before n h = let e : n - before ≡ 0 = omega arith in rw e refl

-- a string read ends after this many
pub string_end : (s : State) (t a before : ℕ) → 32 ≤ before → string_from s t (a + before) (32 - before) before ≡ Found.TooLong
string_end s t a before h = let e : 32 - before ≡ 0 = omega arith in ap (λ (n : ℕ). string_from s t (a + before) n before) e
