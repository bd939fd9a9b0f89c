-- The threads and the objects that addresses name.
use Rattle.std.proofs.Common.{◌≡◌, ℕ, zero, suc, ◌+◌, ◌-◌, ◌*◌, ◌/◌, ◌%◌, ◌<◌, ◌≤◌, Bool, true, false, ◌&&◌, List, [], ◌∷◌, length, get_or, refl, arith, Option, Some, None, slice_get, unwrap_or, inl, inr}
use Rattle.std.specs.Prelude.{◌==◌, nat_lt, nat_le, map, position, is_some, if◌then◌else◌, slice_index_or}
use Rattle.std.specs.List.{position_or_len}
use Rattle.std.specs.Option.{option_and_then}
use Rattle.std.proofs.lemmas.Bool.{and_parts, cases_lt, or_left, or_right}
use Rattle.std.proofs.lemmas.Bool.Decides.{nat_tests}
use Rattle.std.proofs.lemmas.List.Quantifiers.{position-Some}
use Rattle.std.proofs.lemmas.List.Sums.{fails_before_first}
use Rattle.std.proofs.lemmas.Option.{get_or_from_slice_get, slice_get_within}
use Rattle.um_base.specs.declared.image.Image.{Image}
use Rattle.um_base.specs.declared.image.ObjectDef.{ObjectDef}
use Rattle.um_base.specs.declared.image.Setup.{Setup}
use Rattle.um_base.specs.declared.limits.TheConstants.{STATIC_ROWS, ROWS, STATIC_THREADS, THREADS, DYNAMIC_OBJECTS, OBJECT_STEP}
use Rattle.um_base.specs.declared.names.Kind.{Kind}
use Rattle.um_base.specs.Lawful.{has_index, index_after, has_indices, IsLawful}
use Rattle.um_base.specs.Places.{dynamic_row, or_else, row_at, setup_at, setup_thread, is_thread_index, thread_of_row, thread_of_addr}
use Rattle.um_texts.proofs.IdentityLemmas.{is_real, has_own, has_static}

-- What is known of an image in which a thread can run.
pub record IsSound (image : Image) : Type 0 where
  pub lawful : IsLawful image
  pub few : length image.objects ≤ STATIC_ROWS
  pub first : has_own image 0 ≡ true

pub has_position : {A : Type 0} (p : A → Bool) (xs : List A) (j : ℕ) (a : A) → slice_get xs j ≡ Some a → p a ≡ true → is_some (position p xs) ≡ true
has_position p xs j a at h =
    let inside = slice_get_within xs j a at in
    elim (cases_lt (position_or_len p xs) (length xs)) [
      | inl less ↦ let test : nat_lt (position_or_len p xs) (length xs) ≡ true = grind (arith, nat_tests) in rw test refl
      | inr past ↦
          let no : p (get_or xs j a) ≡ false = fails_before_first p xs j a (omega arith) in
          let same : get_or xs j a ≡ a = get_or_from_slice_get xs j a a at in
          let yes : p (get_or xs j a) ≡ true = rw same h in cc
    ]

-- Indices of static threads.

after_some : (setup : Setup) (t : ℕ) → t ≤ index_after setup t
after_some (Setup.Thread index) t = omega arith
after_some Setup.Bare t = omega arith
after_some (Setup.ThreadStack range declared) t = omega arith
after_some (Setup.Sem count limit) t = omega arith
after_some Setup.Mutex t = omega arith
after_some (Setup.Msgq size most) t = omega arith
after_some (Setup.Stack entries) t = omega arith
after_some (Setup.Pipe size) t = omega arith
after_some Setup.Timer t = omega arith

indices_few : (os : List ObjectDef) (t : ℕ) → has_indices os t ≡ true → t ≤ STATIC_THREADS
indices_few [] t h = grind (arith, nat_tests)
indices_few (o ∷ os) t h =
    let rest = indices_few os (index_after o.setup t) (and_parts (has_index o.setup t) (has_indices os (index_after o.setup t)) h).1 in
    let more = after_some o.setup t in omega arith

pub index_is : (setup : Setup) (t i : ℕ) → has_index setup t ≡ true → setup_thread setup ≡ Some i → (i ≡ t) × (index_after setup t ≡ t + 1)
index_is (Setup.Thread index) t i h e = (let same : index.0 ≡ i = cc in grind (arith, nat_tests), refl)
index_is Setup.Bare t i h e = cc
index_is (Setup.ThreadStack range declared) t i h e = cc
index_is (Setup.Sem count limit) t i h e = cc
index_is Setup.Mutex t i h e = cc
index_is (Setup.Msgq size most) t i h e = cc
index_is (Setup.Stack entries) t i h e = cc
index_is (Setup.Pipe size) t i h e = cc
index_is Setup.Timer t i h e = cc

index_few : (os : List ObjectDef) (t j i : ℕ) (o : ObjectDef) → has_indices os t ≡ true → slice_get os j ≡ Some o → setup_thread o.setup ≡ Some i → i < STATIC_THREADS
index_few [] t j i o h at e = cc
index_few (p ∷ os) t zero i o h at e =
    let same : p ≡ o = cc in
    let is = index_is p.setup t i (and_parts (has_index p.setup t) (has_indices os (index_after p.setup t)) h).0 (rw same e) in
    let few = indices_few os (index_after p.setup t) (and_parts (has_index p.setup t) (has_indices os (index_after p.setup t)) h).1 in
    let a = is.0 in let b = is.1 in omega arith
index_few (p ∷ os) t (suc j) i o h at e =
    index_few os (index_after p.setup t) j i o (and_parts (has_index p.setup t) (has_indices os (index_after p.setup t)) h).1 at e

index_itself : (t : ℕ) (o : ObjectDef) → setup_thread o.setup ≡ Some t → is_thread_index t o ≡ true
index_itself t o e = let same : (t == t) ≡ true = grind (arith, nat_tests) in rw (e, same) refl

-- the thread of a static object has it as its own
pub own_index : (image : Image) → IsLawful image → (j t : ℕ) (o : ObjectDef) → slice_get image.objects j ≡ Some o → setup_thread o.setup ≡ Some t → has_own image t ≡ true
own_index image lawful j t o at e =
    let low : nat_lt t STATIC_THREADS ≡ true = (let few = index_few image.objects 0 j t o lawful.indices at e in grind (arith, nat_tests)) in
    let some = has_position (is_thread_index t) image.objects j o at (index_itself t o e) in rw (low, some) refl

dynamic_thread : (image : Image) (x : ℕ) → x < 100 → STATIC_ROWS ≤ x → has_own image (STATIC_THREADS + (x - STATIC_ROWS)) ≡ true
dynamic_thread image x h k =
    let low : nat_le STATIC_THREADS (STATIC_THREADS + (x - STATIC_ROWS)) ≡ true = grind (arith, nat_tests) in
    let high : nat_lt (STATIC_THREADS + (x - STATIC_ROWS)) (STATIC_THREADS + (ROWS - STATIC_ROWS)) ≡ true = grind (arith, nat_tests) in
    or_right (nat_lt (STATIC_THREADS + (x - STATIC_ROWS)) STATIC_THREADS && is_some (position (is_thread_index (STATIC_THREADS + (x - STATIC_ROWS))) image.objects)) _ (rw (low, high) refl)

-- the setup at a row is that of its object
setup_object : (os : List ObjectDef) (x t : ℕ) → setup_thread (slice_index_or (map (λ (o : ObjectDef). o.setup) os) x Setup.Bare) ≡ Some t → (o : ObjectDef) × (slice_get os x ≡ Some o) × (setup_thread o.setup ≡ Some t)
setup_object [] x t e = cc
setup_object (o ∷ os) zero t e = (o, refl, e)
setup_object (o ∷ os) (suc x) t e = setup_object os x t e

row_thread : (image : Image) → IsLawful image → (x t : ℕ) (static dynamic : Bool) → nat_lt x STATIC_ROWS ≡ static → nat_lt (STATIC_THREADS + (x - STATIC_ROWS)) THREADS ≡ dynamic
    → (if static then setup_thread (setup_at image x) else if dynamic then Some (STATIC_THREADS + (x - STATIC_ROWS)) else None) ≡ Some t → has_own image t ≡ true
row_thread image lawful x t true dynamic s d e = let o = setup_object image.objects x t e in own_index image lawful x t o.0 o.1 o.2
row_thread image lawful x t false true s d e =
    let same : STATIC_THREADS + (x - STATIC_ROWS) ≡ t = cc in
    rw (← same) (dynamic_thread image x (grind (arith, nat_tests)) (grind (arith, nat_tests)))
row_thread image lawful x t false false s d e = cc

pub own_of_row : (image : Image) → IsLawful image → (x t : ℕ) → thread_of_row image x ≡ Some t → has_own image t ≡ true
own_of_row image lawful x t e = row_thread image lawful x t (nat_lt x STATIC_ROWS) (nat_lt (STATIC_THREADS + (x - STATIC_ROWS)) THREADS) refl refl e

own_or_first : (image : Image) → IsSound image → (o : Option ℕ) → ((t : ℕ) → o ≡ Some t → has_own image t ≡ true) → has_own image (unwrap_or o 0) ≡ true
own_or_first image sound None h = sound.first
own_or_first image sound (Some t) h = h t refl

own_at_row : (image : Image) → IsSound image → (o : Option ℕ) (t : ℕ) → option_and_then (thread_of_row image) o ≡ Some t → has_own image t ≡ true
own_at_row image sound None t e = cc
own_at_row image sound (Some x) t e = own_of_row image sound.lawful x t e

-- the thread that an address names has an object of its own
pub own_of_addr : (image : Image) → IsSound image → (a : ℕ) → has_own image (thread_of_addr image a) ≡ true
own_of_addr image sound a = own_or_first image sound (option_and_then (thread_of_row image) (row_at image a)) (own_at_row image sound (row_at image a))

-- Rows.

pub first_row : (image : Image) → IsSound image → 0 < length image.objects
first_row image sound = let s = has_static image 0 (omega arith) sound.first in let w = s.within in omega arith

real_static : (image : Image) (x : ℕ) → x < length image.objects → is_real image x ≡ true
real_static image x h = or_left (nat_lt x (length image.objects)) (nat_le STATIC_ROWS x && nat_lt x ROWS) (grind (arith, nat_tests))

pub real_dynamic : (image : Image) (x : ℕ) → STATIC_ROWS ≤ x → x < ROWS → is_real image x ≡ true
real_dynamic image x h k =
    let low : nat_le STATIC_ROWS x ≡ true = grind (arith, nat_tests) in
    let high : nat_lt x ROWS ≡ true = grind (arith, nat_tests) in or_right (nat_lt x (length image.objects)) (nat_le STATIC_ROWS x && nat_lt x ROWS) (rw (low, high) refl)

dynamic_by : (image : Image) (a x : ℕ) (low high even : Bool) → nat_lt a (DYNAMIC_OBJECTS + OBJECT_STEP * (ROWS - STATIC_ROWS)) ≡ high
    → (if low && high && even then Some (STATIC_ROWS + (a - DYNAMIC_OBJECTS) / OBJECT_STEP) else None) ≡ Some x → is_real image x ≡ true
dynamic_by image a x true true true h e =
    let same : STATIC_ROWS + (a - DYNAMIC_OBJECTS) / OBJECT_STEP ≡ x = cc in
    let less : a < DYNAMIC_OBJECTS + OBJECT_STEP * (ROWS - STATIC_ROWS) = grind (arith, nat_tests) in real_dynamic image x (omega arith) (omega arith)
dynamic_by image a x true true false h e = cc
dynamic_by image a x true false even h e = cc
dynamic_by image a x false high even h e = cc

real_at_by : (image : Image) (a : ℕ) (o : Option ℕ) → position (λ (p : ObjectDef). p.addr.0 == a) image.objects ≡ o → (x : ℕ) → or_else o (dynamic_row a) ≡ Some x → is_real image x ≡ true
real_at_by image a (Some y) at x e =
    let same : y ≡ x = cc in
    let blank : ObjectDef = record { name = []; kind = Kind.Mutex; addr = record { 0 = 0 }; public = false; setup = Setup.Bare } in
    let is = position-Some (λ (p : ObjectDef). p.addr.0 == a) image.objects y blank at in rw (← same) (real_static image y is.0)
real_at_by image a None at x e =
    dynamic_by image a x (nat_le DYNAMIC_OBJECTS a) (nat_lt a (DYNAMIC_OBJECTS + OBJECT_STEP * (ROWS - STATIC_ROWS))) ((a - DYNAMIC_OBJECTS) % OBJECT_STEP == 0) refl e

real_or_first : (image : Image) → IsSound image → (o : Option ℕ) → ((x : ℕ) → o ≡ Some x → is_real image x ≡ true) → is_real image (unwrap_or o 0) ≡ true
real_or_first image sound None h = real_static image 0 (first_row image sound)
real_or_first image sound (Some x) h = h x refl

-- an object can stand at the row that an address names
pub real_of_addr : (image : Image) → IsSound image → (a : ℕ) → is_real image (unwrap_or (row_at image a) 0) ≡ true
real_of_addr image sound a = real_or_first image sound (row_at image a) (λ x e. real_at_by image a (position (λ (p : ObjectDef). p.addr.0 == a) image.objects) refl x e)

pub real_at : (image : Image) (a x : ℕ) → row_at image a ≡ Some x → is_real image x ≡ true
real_at image a x e = real_at_by image a (position (λ (p : ObjectDef). p.addr.0 == a) image.objects) refl x e
