-- The opening state of a lawful image is one that a run reaches, and its measure is at most the weight of the image.
use Rattle.std.proofs.Common.{◌≡◌, ◌<◌, ◌≤◌, ℕ, zero, suc, ◌+◌, ◌-◌, ◌*◌, Bool, true, false, List, [], ◌∷◌, length, replicate, refl, ap, ◌∙◌, arith, slice_get, slice_index, slice_index_or, slice_set, if◌then◌else◌}
use Rattle.std.specs.Prelude.{◌⊎◌, ◌==◌, nat_lt}
use Rattle.std.specs.List.{list_all}
use Rattle.std.proofs.lemmas.Bool.{and_parts, and_from, false≢true, ltb-true, lt-ltb}
use Rattle.std.proofs.lemmas.List.{set-set, length-replicate}
use mathlib.Core.Logic.{inl, inr, ⊎_elim}
use Rattle.um_base.specs.Lawful.{IsLawful, object_passes, is_thread, is_lawful_boot}
use Rattle.um_base.specs.Places.{thread_of_row}
use Rattle.um_base.specs.Weight.{weights_from, boots_weight, weight}
use Rattle.um_base.specs.declared.image.Boot.{Boot}
use Rattle.um_base.specs.declared.image.Image.{Image}
use Rattle.um_base.specs.declared.image.ObjectDef.{ObjectDef}
use Rattle.um_base.specs.declared.image.Partition.{Partition}
use Rattle.um_base.specs.declared.image.Setup.{Setup}
use Rattle.um_base.specs.declared.limits.TheConstants.{ROWS, THREADS, STATIC_ROWS, STACK_AREA}
use Rattle.um_base.specs.declared.names.Row.{Row}
use Rattle.um_machine.specs.declared.object.Object.{Object}
use Rattle.um_machine.specs.Memory.{with_bytes}
use Rattle.um_machine.specs.Run.{blank, booted, booted_one, boot_thread, granted, index_or, loaded, objects_from, setup_contents, opening}
use Rattle.um_machine.specs.State.{State, nobody, vacant, thread_at, with_thread, with_pair, first_place}
use Rattle.um_measure.specs.Measure.{total, one_if, is_running, time_of, flags_set, lines_left, thread_cost, object_cost, store_cost, measure, armings}
use Rattle.um_measure.specs.Reached.{AreSized, IsSound, IsReached}
use Rattle.um_measure.proofs.TotalLemmas.{total-set}
use Rattle.um_measure.proofs.EasedLemmas.{cost-nobody, sound-set}
use Rattle.um_measure.proofs.LifeLemmas.{cost-rests}
use Rattle.um_measure.proofs.NextLemmas.{first-stands}
use Rattle.um_measure.proofs.ScriptLemmas.{weight-script}
use Rattle.um_measure.proofs.StoreLemmas.{store_of, sized-pair}

-- Pairs that come with one thread, in the first rows.

abbrev Adds : ℕ → ℕ → List (List Bool) → List (List Bool) → Type 0
Adds n t [] [] = Unit {0}
Adds zero t (row ∷ rows) (new ∷ news) = (new ≡ row) × Adds zero t rows news
Adds (suc n) t (row ∷ rows) (new ∷ news) = ((new ≡ row) ⊎ (new ≡ slice_set row t true)) × Adds n t rows news
Adds n t _ _ = ⊥

adds-none : (n t : ℕ) (rows : List (List Bool)) → Adds n t rows rows
adds-none zero t [] = tt
adds-none (suc n) t [] = tt
adds-none zero t (row ∷ rows) = (refl, adds-none zero t rows)
adds-none (suc n) t (row ∷ rows) = (inl refl, adds-none n t rows)

adds-more : (n t x : ℕ) (rows news : List (List Bool)) → Adds n t rows news → x < n → Adds n t rows (slice_set news x (slice_set (slice_index_or news x []) t true))
adds-more zero t x rows news h below = absurd (omega (arith, below))
adds-more (suc n) t x [] [] h below = tt
adds-more (suc n) t x [] (new ∷ news) h below = absurd h
adds-more (suc n) t x (row ∷ rows) [] h below = absurd h
adds-more (suc n) t zero (row ∷ rows) (new ∷ news) h below =
    (⊎_elim (λ e. inr (rw e refl)) (λ e. inr (rw e (set-set row t true true))) h.0, h.1)
adds-more (suc n) t (suc x) (row ∷ rows) (new ∷ news) h below = (h.0, adds-more n t x rows news h.1 (omega (arith, below)))

one-more : (row : List Bool) (t : ℕ) → flags_set (slice_set row t true) ≤ flags_set row + 1
one-more row t = let set = total-set one_if false refl row t true in omega (arith, set)

adds-cost : (n t : ℕ) (rows news : List (List Bool)) → Adds n t rows news → total flags_set news ≤ total flags_set rows + n
adds-cost zero t [] [] h = omega arith
adds-cost (suc n) t [] [] h = omega arith
adds-cost zero t [] (new ∷ news) h = absurd h
adds-cost (suc n) t [] (new ∷ news) h = absurd h
adds-cost zero t (row ∷ rows) [] h = absurd h
adds-cost (suc n) t (row ∷ rows) [] h = absurd h
adds-cost zero t (row ∷ rows) (new ∷ news) h = let same = ap flags_set h.0 in let rest = adds-cost zero t rows news h.1 in omega (arith, same, rest)
adds-cost (suc n) t (row ∷ rows) (new ∷ news) h =
    let rest = adds-cost n t rows news h.1 in
    let more = one-more row t in
    ⊎_elim (λ e. let same = ap flags_set e in omega (arith, same, rest)) (λ e. let same = ap flags_set e in omega (arith, same, rest, more)) h.0

-- what grants leave as it was, and what they add
record IsGranted (n t : ℕ) (pairs : List (List Bool)) (s s2 : State) : Type 0 where
  image_is : s2.image ≡ s.image
  threads_are : s2.threads ≡ s.threads
  objects_are : s2.objects ≡ s.objects
  time_is : time_of s2 ≡ time_of s
  sized : AreSized s2.pairs
  adds : Adds n t pairs s2.pairs

grants : (n t : ℕ) (pairs : List (List Bool)) (rows : List Row) (s : State) → list_all (λ (x : Row). nat_lt x.0 n) rows ≡ true → AreSized s.pairs → Adds n t pairs s.pairs → IsGranted n t pairs s (granted t rows s)
grants n t pairs [] s below sized adds = record { image_is = refl; threads_are = refl; objects_are = refl; time_is = refl; sized = sized; adds = adds }
grants n t pairs (x ∷ rows) s below sized adds =
    let parts = and_parts (nat_lt x.0 n) _ below in
    let rest = grants n t pairs rows (with_pair s t x.0 true) parts.1 (sized-pair s t x.0 true sized) (adds-more n t x.0 pairs s.pairs adds (ltb-true x.0 n parts.0)) in
    record { image_is = rest.image_is; threads_are = rest.threads_are; objects_are = rest.objects_are; time_is = rest.time_is; sized = rest.sized; adds = rest.adds }

store-adds : (n t : ℕ) (rows news : List (List Bool)) (objects : List Object) → Adds n t rows news → store_cost news objects ≤ store_cost rows objects + 2 * n
unfolding store_cost
store-adds n t rows news objects h = let more = adds-cost n t rows news h in omega (arith, more)

-- Boot entries.

-- a state on the way to the opening one, with a measure of at most so much
record IsOpening (image : Image) (most : ℕ) (s : State) : Type 0 where
  image_is : s.image ≡ image
  sized : AreSized s.pairs
  sound : (t : ℕ) → IsSound image (thread_at s t)
  cost : total (thread_cost image) s.threads + store_of s ≤ most

passes-inside : (p : ObjectDef → Bool) (os : List ObjectDef) (x : ℕ) → object_passes p (slice_get os x) ≡ true → x < length os
passes-inside p [] x h = absurd (false≢true h)
passes-inside p (o ∷ os) zero h = omega arith
passes-inside p (o ∷ os) (suc x) h = let rest = passes-inside p os x h in omega (arith, rest)

record IsBoot (image : Image) (boot : Boot) : Type 0 where
  script : boot.script < length image.scripts
  rows : list_all (λ (x : Row). nat_lt x.0 (length image.objects)) (boot.thread ∷ boot.grants) ≡ true

lawful-boot : (image : Image) (boot : Boot) → is_lawful_boot image boot ≡ true → IsBoot image boot
lawful-boot image boot h =
    let grants = and_parts _ _ h in
    let pool = and_parts _ _ grants.0 in
    let domain = and_parts _ _ pool.0 in
    let priority = and_parts _ _ domain.0 in
    let script = and_parts _ _ priority.0 in
    let stack = and_parts _ _ script.0 in
    record {
      script = ltb-true boot.script (length image.scripts) script.1;
      rows = and_from _ _ (lt-ltb boot.thread.0 (length image.objects) (passes-inside (λ o. is_thread o.kind) image.objects boot.thread.0 stack.0)) grants.1;
    }

boots-one : (image : Image) → IsLawful image → length image.objects ≤ STATIC_ROWS → (boot : Boot) → is_lawful_boot image boot ≡ true → (most : ℕ) (s : State) → IsOpening image most s
    → IsOpening image (slice_index (weights_from 0 image.scripts) boot.script + most) (booted_one boot s)
boots-one image lawful few boot h most s o =
    let facts = lawful-boot image boot h in
    let t = index_or (thread_of_row s.image boot.thread.0) in
    let me = boot_thread s.image boot in
    let s1 = with_thread s t me in
    let g = grants (length image.objects) t s.pairs (boot.thread ∷ boot.grants) s1 facts.rows o.sized (adds-none (length image.objects) t s.pairs) in
    let first = first-stands image lawful boot.script in
    let place : me.place ≡ first_place image boot.script = rw o.image_is refl in
    let me-cost = cost-rests image me refl refl in
    let lines : lines_left image me.place ≡ lines_left image (first_place image boot.script) = ap (lines_left image) place in
    let weighs = weight-script image boot.script facts.script in
    let set = total-set (thread_cost image) nobody (cost-nobody image) s.threads t me in
    let threads : total (thread_cost image) (booted_one boot s).threads ≡ total (thread_cost image) s1.threads = ap (total (thread_cost image)) g.threads_are in
    let store = store-adds (length image.objects) t s.pairs (booted_one boot s).pairs s.objects g.adds in
    let objects : store_cost (booted_one boot s).pairs (booted_one boot s).objects ≡ store_cost (booted_one boot s).pairs s.objects = ap (store_cost (booted_one boot s).pairs) g.objects_are in
    let time = g.time_is in
    let cost = o.cost in
    let dear = first.cost in
    record {
      image_is = g.image_is ∙ o.image_is;
      sized = g.sized;
      sound = λ u. rw g.threads_are (sound-set image s.threads t me (record { place = λ l. rw place first.stands; waits = refl; passes = refl }) o.sound u);
      cost = omega (arith, me-cost, lines, dear, weighs, set, threads, store, objects, time, cost, few);
    }

boots-all : (image : Image) → IsLawful image → length image.objects ≤ STATIC_ROWS → (boots : List Boot) → list_all (is_lawful_boot image) boots ≡ true → (most : ℕ) (s : State) → IsOpening image most s
    → IsOpening image (boots_weight (weights_from 0 image.scripts) boots + most) (booted boots s)
boots-all image lawful few [] h most s o = record { image_is = o.image_is; sized = o.sized; sound = o.sound; cost = let cost = o.cost in omega (arith, cost) }
boots-all image lawful few (boot ∷ boots) h most s o =
    let parts = and_parts _ _ h in
    let next = boots-one image lawful few boot parts.0 most s o in
    let rest = boots-all image lawful few boots parts.1 (slice_index (weights_from 0 image.scripts) boot.script + most) (booted_one boot s) next in
    record { image_is = rest.image_is; sized = rest.sized; sound = rest.sound; cost = let cost = rest.cost in omega (arith, cost) }

-- The bytes of partitions.

bytes-if : (image : Image) (most : ℕ) (s : State) (memory stacks : List ℕ) (b : Bool) → IsOpening image most s → IsOpening image most (if b then record s { memory = memory } else record s { stacks = stacks })
bytes-if image most s memory stacks true o = record { image_is = o.image_is; sized = o.sized; sound = o.sound; cost = o.cost }
bytes-if image most s memory stacks false o = record { image_is = o.image_is; sized = o.sized; sound = o.sound; cost = o.cost }

loads-all : (image : Image) (most : ℕ) (ps : List Partition) (s : State) → IsOpening image most s → IsOpening image most (loaded ps s)
loads-all image most [] s o = o
loads-all image most (p ∷ ps) s o = loads-all image most ps (with_bytes s p.range.start.0 p.bytes) (bytes-if image most s _ _ (nat_lt p.range.start.0 STACK_AREA) o)

-- The blank state.

total-replicate : {A : Type 0} (f : A → ℕ) (x : A) → f x ≡ 0 → (n : ℕ) → total f (replicate n x) ≡ 0
total-replicate f x h zero = refl
total-replicate f x h (suc n) = let rest = total-replicate f x h n in omega (arith, h, rest)

at-replicate : {A : Type 0} (x : A) (n i : ℕ) → slice_index_or (replicate n x) i x ≡ x
at-replicate x zero i = refl
at-replicate x (suc n) zero = refl
at-replicate x (suc n) (suc i) = at-replicate x n i

all-replicate : {A : Type 0} (p : A → Bool) (x : A) → p x ≡ true → (n : ℕ) → list_all p (replicate n x) ≡ true
all-replicate p x h zero = refl
all-replicate p x h (suc n) = and_from _ _ h (all-replicate p x h n)

none-running : (setup : Setup) → one_if (is_running (setup_contents setup)) ≡ 0
none-running (Setup.Sem count limit) = refl
none-running Setup.Mutex = refl
none-running (Setup.Msgq size most) = refl
none-running (Setup.Stack most) = refl
none-running (Setup.Pipe size) = refl
none-running Setup.Timer = refl
none-running _ = refl

none-gone : (boots : List Boot) (x : ℕ) (os : List ObjectDef) → total object_cost (objects_from boots x os) ≡ 0
none-gone boots x [] = total-replicate object_cost vacant refl (ROWS - x)
none-gone boots x (o ∷ os) = let rest = none-gone boots (x + 1) os in let still = none-running o.setup in omega (arith, rest, still)

store-none : (pairs : List (List Bool)) (objects : List Object) → total flags_set pairs ≡ 0 → total object_cost objects ≡ 0 → store_cost pairs objects ≡ 0
unfolding store_cost
store-none pairs objects h g = omega (arith, h, g)

nobody-sound : (image : Image) → IsSound image nobody
nobody-sound image = record { place = λ l. absurd (false≢true l); waits = refl; passes = refl }

blank-opens : (image : Image) → IsOpening image 0 (blank image)
unfolding blank
blank-opens image =
    let threads = total-replicate (thread_cost image) nobody (cost-nobody image) THREADS in
    let pairs = total-replicate flags_set (replicate THREADS false) (total-replicate one_if false refl THREADS) ROWS in
    let store = store-none (replicate ROWS (replicate THREADS false)) (objects_from image.boots 0 image.objects) pairs (none-gone image.boots 0 image.objects) in
    let rows = length-replicate ROWS (replicate THREADS false) in
    record {
      image_is = refl;
      sized = record { rows = omega (arith, rows); flags = all-replicate (λ (row : List Bool). length row == THREADS) (replicate THREADS false) refl ROWS };
      sound = λ t. rw (at-replicate nobody THREADS t) (nobody-sound image);
      cost = omega (arith, threads, store);
    }

-- the opening state
pub opens : (image : Image) → IsLawful image → length image.objects ≤ STATIC_ROWS → IsReached (opening image) × (measure (opening image) ≤ weight image)
unfolding measure
opens image lawful few =
    let o = boots-all image lawful few image.boots lawful.boots 0 (loaded image.partitions (blank image)) (loads-all image 0 image.partitions (blank image) (blank-opens image)) in
    let cost = o.cost in
    (record { lawful = rw o.image_is lawful; sized = o.sized; sound = rw o.image_is o.sound }, rw o.image_is (omega (arith, cost)))

-- Deadlines: none is armed at the opening.

armed-granted : (t : ℕ) (rows : List Row) (s : State) → (granted t rows s).armed ≡ s.armed
armed-granted t [] s = refl
armed-granted t (x ∷ rows) s = armed-granted t rows (with_pair s t x.0 true)

armed-booted : (boots : List Boot) (s : State) → (booted boots s).armed ≡ s.armed
armed-booted [] s = refl
armed-booted (boot ∷ boots) s =
    let t = index_or (thread_of_row s.image boot.thread.0) in
    armed-booted boots (booted_one boot s) ∙ armed-granted t (boot.thread ∷ boot.grants) (with_thread s t (boot_thread s.image boot))

armed-if : (s : State) (memory stacks : List ℕ) (b : Bool) → (if b then record s { memory = memory } else record s { stacks = stacks }).armed ≡ s.armed
armed-if s memory stacks true = refl
armed-if s memory stacks false = refl

armed-loaded : (ps : List Partition) (s : State) → (loaded ps s).armed ≡ s.armed
armed-loaded [] s = refl
armed-loaded (p ∷ ps) s = armed-loaded ps (with_bytes s p.range.start.0 p.bytes) ∙ armed-if s _ _ (nat_lt p.range.start.0 STACK_AREA)

armed-blank : (image : Image) → (blank image).armed ≡ []
unfolding blank
armed-blank image = refl

armed-none : (image : Image) → (opening image).armed ≡ []
armed-none image = armed-booted image.boots (loaded image.partitions (blank image)) ∙ armed-loaded image.partitions (blank image) ∙ armed-blank image

pub opens-armings : (image : Image) → IsLawful image → length image.objects ≤ STATIC_ROWS → armings (opening image) ≤ weight image
unfolding measure armings
opens-armings image lawful few = let most = (opens image lawful few).1 in rw (armed-none image) (omega (arith, most))
