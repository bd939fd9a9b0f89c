-- The opening state of an image, and that an image in which a thread makes a step has a thread of index 0.
use Rattle.std.proofs.Common.{◌≡◌, ℕ, zero, suc, ◌+◌, ◌≤◌, Bool, true, false, ◌&&◌, ◌||◌, List, [], ◌∷◌, length, refl, sym, ap, ◌∙◌, arith, Option, Some, None, slice_index_or, slice_get, if◌then◌else◌}
use Rattle.std.specs.Prelude.{nat_lt, replicate}
use Rattle.std.proofs.lemmas.Bool.{and_parts}
use Rattle.std.specs.List.{list_all}
use Rattle.std.proofs.lemmas.Bool.Decides.{nat_tests}
use Rattle.um_base.specs.declared.image.Boot.{Boot}
use Rattle.um_base.specs.declared.image.Image.{Image}
use Rattle.um_base.specs.declared.image.ObjectDef.{ObjectDef}
use Rattle.um_base.specs.declared.image.Partition.{Partition}
use Rattle.um_base.specs.declared.image.Setup.{Setup}
use Rattle.um_base.specs.declared.limits.TheConstants.{STATIC_ROWS, ROWS, THREADS, STACK_AREA}
use Rattle.um_base.specs.declared.names.Kind.{Kind}
use Rattle.um_base.specs.declared.names.Mpu.{Mpu}
use Rattle.um_base.specs.declared.names.Row.{Row}
use Rattle.um_base.specs.Lawful.{IsLawful, is_lawful_boot, object_passes, is_thread, is_setup_of, has_index, index_after, has_indices}
use Rattle.um_base.specs.Places.{setup_thread, thread_of_row}
use Rattle.um_machine.specs.declared.pending.Pending.{Pending}
use Rattle.um_machine.specs.declared.thread.Life.{Life}
use Rattle.um_machine.specs.declared.thread.Thread.{Thread}
use Rattle.um_machine.specs.State.{State, nobody, vacant, thread_at, object_at, pair_at, with_pair, is_started, is_living}
use Rattle.um_machine.specs.Joins.{has_ended, is_ending}
use Rattle.um_machine.specs.Objects.{is_gone}
use Rattle.um_machine.specs.Order.{Steps}
use Rattle.um_machine.specs.Run.{setup_contents, Offers, goes, skips_inherit, skips_drops, begins, exits, stops, leaves, tends, objects_from, boot_thread, index_or, granted, booted_one, booted, loaded, blank, opening}
use Rattle.um_texts.proofs.PlainLemmas.{all_get}
use Rattle.um_texts.proofs.IdentityLemmas.{is_real, has_own}
use Rattle.um_texts.proofs.StateLemmas.{runs, IsKept, is_acting, has_steps, are_fit, kept_thread, kept_pair, kept_bytes}
use Rattle.um_texts.proofs.OwnLemmas.{IsSound, own_of_row, own_index, index_is}

-- Blank states.

same_all : {A : Type 0} (n i : ℕ) (d : A) → slice_index_or (replicate n d) i d ≡ d
same_all zero i d = refl
same_all (suc n) zero d = refl
same_all (suc n) (suc i) d = same_all n i d

no_pair : (n x t : ℕ) (row : List Bool) → slice_index_or row t false ≡ false → slice_index_or (slice_index_or (replicate n row) x []) t false ≡ false
no_pair zero x t row h = refl
no_pair (suc n) zero t row h = h
no_pair (suc n) (suc x) t row h = no_pair n x t row h

not_gone : (boots : List Boot) (from : ℕ) (os : List ObjectDef) (x : ℕ) → is_gone (slice_index_or (objects_from boots from os) x vacant).status ≡ false
not_gone boots from [] x = rw same_all refl
not_gone boots from (o ∷ os) zero = refl
not_gone boots from (o ∷ os) (suc x) = not_gone boots (from + 1) os x

still : (setup : Setup) → runs (setup_contents setup) ≡ false
still (Setup.Sem count limit) = refl
still Setup.Mutex = refl
still (Setup.Msgq size most) = refl
still (Setup.Stack entries) = refl
still (Setup.Pipe size) = refl
still Setup.Timer = refl
still setup = refl

not_running : (boots : List Boot) (from : ℕ) (os : List ObjectDef) (x : ℕ) → runs (slice_index_or (objects_from boots from os) x vacant).contents ≡ false
not_running boots from [] x = rw same_all refl
not_running boots from (o ∷ os) zero = still o.setup
not_running boots from (o ∷ os) (suc x) = not_running boots (from + 1) os x

kept_blank : (image : Image) → length image.objects ≤ STATIC_ROWS → IsKept image (blank image)
unfolding blank
kept_blank image few = record {
  few = few;
  image_is = refl;
  own = λ t h. absurd (idle (slice_index_or (replicate THREADS nobody) t nobody) (same_all THREADS t nobody) h);
  fit = λ t. fit_of (slice_index_or (replicate THREADS nobody) t nobody) (same_all THREADS t nobody);
  real = λ t x h. let none : pair_at (blank image) t x ≡ false = no_pair ROWS x t (replicate THREADS false) (same_all THREADS t false) in absurd (never (sym none ∙ h));
  gone = λ x h. let none : is_gone (object_at (blank image) x).status ≡ false = not_gone image.boots 0 image.objects x in absurd (never (sym none ∙ h));
  timers = λ x h. let none : runs (object_at (blank image) x).contents ≡ false = not_running image.boots 0 image.objects x in absurd (never (sym none ∙ h));
}
  where
    never : false ≡ true → ⊥
    never h = cc

    fit_of : (me : Thread) → me ≡ nobody → are_fit image me.pending ≡ true
    fit_of me e = rw e refl

    idle : (me : Thread) → me ≡ nobody → is_acting me ≡ true → ⊥
    idle me e h = never (rw e at h)

kept_loaded : (image : Image) (ps : List Partition) (s : State) → IsKept image s → IsKept image (loaded ps s)
kept_loaded image [] s kept = kept
kept_loaded image (p ∷ ps) s kept = kept_loaded image ps _ (kept_bytes image s p.range.start.0 p.bytes kept)

-- Boot entries.

own_or : (image : Image) → IsSound image → (o : Option ℕ) → ((t : ℕ) → o ≡ Some t → has_own image t ≡ true) → has_own image (index_or o) ≡ true
own_or image sound None h = sound.first
own_or image sound (Some t) h = h t refl

real_below : (image : Image) (x : ℕ) → nat_lt x (length image.objects) ≡ true → is_real image x ≡ true
real_below image x h = rw h refl

kept_granted : (image : Image) (t : ℕ) (xs : List Row) (s : State) → IsKept image s → list_all (λ (x : Row). nat_lt x.0 (length image.objects)) xs ≡ true → IsKept image (granted t xs s)
kept_granted image t [] s kept h = kept
kept_granted image t (x ∷ xs) s kept h =
    kept_granted image t xs (with_pair s t x.0 true)
    (kept_pair image s t x.0 true kept (λ e. real_below image x.0 (and_parts (nat_lt x.0 (length image.objects)) (list_all (λ (y : Row). nat_lt y.0 (length image.objects)) xs) h).0))
    (and_parts (nat_lt x.0 (length image.objects)) (list_all (λ (y : Row). nat_lt y.0 (length image.objects)) xs) h).1

passes_within : (p : ObjectDef → Bool) (os : List ObjectDef) (x : ℕ) → object_passes p (slice_get os x) ≡ true → nat_lt x (length os) ≡ true
passes_within p [] x h = cc
passes_within p (o ∷ os) zero h = grind (arith, nat_tests)
passes_within p (o ∷ os) (suc x) h = let rest = passes_within p os x h in grind (arith, nat_tests)

-- what is used of a lawful boot entry
pub record IsUsable (image : Image) (boot : Boot) : Type 0 where
  pub thread : object_passes (λ o. is_thread o.kind) (slice_get image.objects boot.thread.0) ≡ true
  pub grants : list_all (λ (x : Row). nat_lt x.0 (length image.objects)) boot.grants ≡ true

usable : (image : Image) (boot : Boot) → is_lawful_boot image boot ≡ true → IsUsable image boot
usable image boot h = record {
  thread = by _ _ _ _ _ _ _ h;
  grants = (and_parts _ _ h).1;
}
  where
    by : (a b c d e f g : Bool) → (a && b && c && d && e && f && g) ≡ true → a ≡ true
    by true b c d e f g k = refl
    by false b c d e f g k = cc

kept_booted_one : (image : Image) → IsSound image → (boot : Boot) (s : State) → IsUsable image boot → IsKept image s → IsKept image (booted_one boot s)
kept_booted_one image sound boot s lawful kept =
    let t = index_or (thread_of_row s.image boot.thread.0) in
    let own : has_own image t ≡ true = rw kept.image_is (own_or image sound (thread_of_row image boot.thread.0) (own_of_row image sound.lawful boot.thread.0)) in
    let first : nat_lt boot.thread.0 (length image.objects) ≡ true = passes_within (λ o. is_thread o.kind) image.objects boot.thread.0 lawful.thread in
    kept_granted image t (boot.thread ∷ boot.grants) _ (kept_thread image s t (boot_thread s.image boot) kept (λ h. own) refl) (rw (first, lawful.grants) refl)

kept_booted : (image : Image) → IsSound image → (boots : List Boot) (s : State) → list_all (is_lawful_boot image) boots ≡ true → IsKept image s → IsKept image (booted boots s)
kept_booted image sound [] s h kept = kept
kept_booted image sound (boot ∷ boots) s h kept =
    kept_booted image sound boots (booted_one boot s) (and_parts (is_lawful_boot image boot) (list_all (is_lawful_boot image) boots) h).1
    (kept_booted_one image sound boot s (usable image boot (and_parts (is_lawful_boot image boot) (list_all (is_lawful_boot image) boots) h).0) kept)

pub kept_opening : (image : Image) → IsSound image → IsKept image (opening image)
kept_opening image sound =
    kept_booted image sound image.boots (loaded image.partitions (blank image)) sound.lawful.boots (kept_loaded image image.partitions (blank image) (kept_blank image sound.few))

-- Who makes a step.

life_acting : (me : Thread) → is_started me.life ≡ true → is_acting me ≡ true
life_acting me h = rw h refl

living_started : (me : Thread) → is_living me.life ≡ true → is_acting me ≡ true
living_started me h = life_acting me (by me.life h)
  where
    by : (life : Life) → is_living life ≡ true → is_started life ≡ true
    by Life.Unborn k = k
    by Life.Living k = refl
    by Life.Ended k = refl

steps_acting : (me : Thread) → has_steps me.pending ≡ true → is_acting me ≡ true
steps_acting me h = rw h (or_true (is_started me.life))
  where
    or_true : (b : Bool) → (b || true) ≡ true
    or_true true = refl
    or_true false = refl

ended_acting : (me : Thread) → is_ending me ≡ true → is_acting me ≡ true
ended_acting me h = life_acting me (by me.life (and_parts _ _ h).0)
  where
    by : (life : Life) → has_ended life ≡ true → is_started life ≡ true
    by Life.Ended k = refl
    by Life.Living k = refl
    by Life.Unborn k = k

pub offered_acting : (s : State) (t : ℕ) (p : Pending) (rest : Steps) → Offers s t p rest → is_acting (thread_at s t) ≡ true
offered_acting s t p rest (goes e) = steps_acting (thread_at s t) (rw e refl)
offered_acting s t p rest (skips_inherit e h) = steps_acting (thread_at s t) (rw e refl)
offered_acting s t p rest (skips_drops e h) = steps_acting (thread_at s t) (rw e refl)
offered_acting s t p rest (begins e h k l) = living_started (thread_at s t) h
offered_acting s t p rest (exits e h k l) = living_started (thread_at s t) h
offered_acting s t p rest (stops e h m) = living_started (thread_at s t) h
offered_acting s t p rest (leaves ending) = ended_acting (thread_at s t) ending
offered_acting s t p rest (tends is h) = life_acting (thread_at s t) h

-- The first thread.

no_index : (setup : Setup) (t : ℕ) → setup_thread setup ≡ None → index_after setup t ≡ t
no_index (Setup.Thread index) t e = cc
no_index Setup.Bare t e = refl
no_index (Setup.ThreadStack range declared) t e = refl
no_index (Setup.Sem count limit) t e = refl
no_index Setup.Mutex t e = refl
no_index (Setup.Msgq size most) t e = refl
no_index (Setup.Stack entries) t e = refl
no_index (Setup.Pipe size) t e = refl
no_index Setup.Timer t e = refl

abbrev pub HasIndex : List ObjectDef → ℕ → Type 0
HasIndex os t = (k : ℕ) × (o : ObjectDef) × (slice_get os k ≡ Some o) × (setup_thread o.setup ≡ Some t)

first_index : (os : List ObjectDef) (t j i : ℕ) (o : ObjectDef) → has_indices os t ≡ true → slice_get os j ≡ Some o → setup_thread o.setup ≡ Some i → HasIndex os t
first_index [] t j i o h at e = cc
first_index (p ∷ os) t j i o h at e = by (λ k g a. first_index os t k i o g a e) (setup_thread p.setup) refl j at
  where
    none : None ≡ Some i → ⊥
    none k = cc

    by : ((k : ℕ) → has_indices os t ≡ true → slice_get os k ≡ Some o → HasIndex os t) → (index : Option ℕ) → setup_thread p.setup ≡ index → (j : ℕ) → slice_get (p ∷ os) j ≡ Some o → HasIndex (p ∷ os) t
    by deeper (Some x) is j at =
        let here = (and_parts (has_index p.setup t) (has_indices os (index_after p.setup t)) h).0 in
        (zero, p, refl, is ∙ ap (λ (n : ℕ). Some n) (index_is p.setup t x here is).0)
    by deeper None is zero at = let same : p ≡ o = cc in absurd (none (sym is ∙ rw same e))
    by deeper None is (suc j) at =
        let rest = (and_parts (has_index p.setup t) (has_indices os (index_after p.setup t)) h).1 in
        let found = deeper j (rw (no_index p.setup t is) at rest) at in (suc found.0, found.1, found.2, found.3)

thread_setup : (mpu : Mpu) (kind : Kind) (setup : Setup) → is_thread kind ≡ true → is_setup_of mpu kind setup ≡ true → (i : ℕ) × (setup_thread setup ≡ Some i)
thread_setup mpu Kind.Thread (Setup.Thread index) h k = (index.0, refl)
thread_setup mpu kind setup h k = cc

passing : (p : ObjectDef → Bool) (o : Option ObjectDef) → object_passes p o ≡ true → (d : ObjectDef) × (o ≡ Some d) × (p d ≡ true)
passing p None h = cc
passing p (Some d) h = (d, refl, h)

-- an image with a boot entry has a thread of index 0
pub sound_booted : (image : Image) → IsLawful image → length image.objects ≤ STATIC_ROWS → (boot : Boot) → is_lawful_boot image boot ≡ true → IsSound image
sound_booted image lawful few boot h =
    let thread = passing (λ o. is_thread o.kind) (slice_get image.objects boot.thread.0) (usable image boot h).thread in
    let fits : is_setup_of image.mpu thread.0.kind thread.0.setup ≡ true =
    rw thread.1 at (all_get (λ (o : ObjectDef). is_setup_of image.mpu o.kind o.setup) image.objects boot.thread.0 lawful.objects) in
    let index = thread_setup image.mpu thread.0.kind thread.0.setup thread.2 fits in
    let found = first_index image.objects 0 boot.thread.0 index.0 thread.0 lawful.indices thread.1 index.1 in
    record { lawful = lawful; few = few; first = own_index image lawful found.0 0 found.1 found.2 found.3 }

-- no thread makes a step where none is booted
idle_loaded : (ps : List Partition) (s : State) (t : ℕ) → thread_at (loaded ps s) t ≡ thread_at s t
idle_loaded [] s t = refl
idle_loaded (p ∷ ps) s t = idle_loaded ps _ t ∙ same_threads (nat_lt p.range.start.0 STACK_AREA) _ _
  where
    same_threads : (low : Bool) (memory stacks : List ℕ) → thread_at (if low then record s { memory = memory } else record s { stacks = stacks }) t ≡ thread_at s t
    same_threads true memory stacks = refl
    same_threads false memory stacks = refl

idle_blank : (image : Image) (t : ℕ) → thread_at (blank image) t ≡ nobody
unfolding blank
idle_blank image t = same_all THREADS t nobody

idle : false ≡ true → ⊥
idle k = cc

some_boots : (boot : Boot) (boots : List Boot) → boot ∷ boots ≡ [] → ⊥
some_boots boot boots e = cc

idle_with : (image : Image) (t : ℕ) (boots : List Boot) → boots ≡ [] → is_acting (thread_at (booted boots (loaded image.partitions (blank image))) t) ≡ true → ⊥
idle_with image t [] none h =
    let same : thread_at (booted [] (loaded image.partitions (blank image))) t ≡ nobody = idle_loaded image.partitions (blank image) t ∙ idle_blank image t in
    idle (rw same at h)
idle_with image t (boot ∷ boots) none h = some_boots boot boots none

pub idle_opening : (image : Image) (t : ℕ) → image.boots ≡ [] → is_acting (thread_at (opening image) t) ≡ true → ⊥
idle_opening image t none h = idle_with image t image.boots none h
