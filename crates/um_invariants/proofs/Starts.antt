-- A run of an image that a description gives: without an object it has no event, and else its opening state is reached.
use Rattle.std.proofs.lemmas.Bool.{cases_lt}
use Rattle.um_invariants.proofs.Cores.{core_of, call_of}
use Rattle.std.proofs.lemmas.List.{length-map}
use Rattle.std.proofs.Common.{◌≡◌, ◌⊎◌, inl, inr, ℕ, zero, suc, ◌<◌, Bool, true, false, ◌&&◌, nat_lt, List, [], ◌∷◌, length, refl, ap, subst, ◌∙◌, arith, IsTrue, slice_index_or, if◌then◌else◌, ◌-◌, ◌≤◌}
use Rattle.std.specs.List.{list_all}
use Rattle.um_base.specs.declared.act.Event.{Event}
use Rattle.um_base.specs.declared.image.Boot.{Boot}
use Rattle.um_base.specs.declared.image.Image.{Image}
use Rattle.um_base.specs.declared.image.Partition.{Partition}
use Rattle.um_base.specs.declared.limits.TheConstants.{STACK_AREA, PARTITION_AREA, THREADS}
use Rattle.um_base.specs.Lawful.{is_lawful_boot}
use Rattle.um_machine.specs.declared.pending.Pending.{Pending}
use Rattle.um_machine.specs.declared.thread.Thread.{Thread}
use Rattle.um_machine.specs.Memory.{with_bytes, put_bytes}
use Rattle.um_machine.specs.Joins.{is_ending}
use Rattle.um_machine.specs.Order.{Steps}
use Rattle.um_machine.specs.Run.{Offers, goes, skips_inherit, skips_drops, begins, exits, stops, leaves, tends, Step, IsRun, opening, booted, loaded, blank}
use Rattle.um_machine.specs.State.{State, nobody, thread_at, is_living, is_started}
use Rattle.um_invariants.specs.Described.{IsDescribed}
use Rattle.um_invariants.proofs.Opening.{IsOpening, is_opening, boot_parts, passes_within}
use Rattle.um_invariants.proofs.BootClaims.{replicate_at}
use Rattle.um_invariants.proofs.SitedImages.{is_sited}
use Rattle.um_invariants.proofs.Turns.{IsKnown}

no_boot : (image : Image) (bs : List Boot) → length image.objects ≡ 0 → IsTrue (list_all (is_lawful_boot image) bs) → bs ≡ []
no_boot image [] none lawful = refl
no_boot image (boot ∷ bs) none lawful =
    let parts = boot_parts _ _ _ _ _ _ _ (first_of (is_lawful_boot image boot) _ lawful) in
    let inside = passes_within _ image.objects boot.thread.0 parts.0 in absurd (omega (arith, inside, none))
  where
    first_of : (p q : Bool) → IsTrue (p && q) → IsTrue p
    first_of true q h = refl
    first_of false q h = cc

threads-bytes : (s : State) (a : ℕ) (bytes : List ℕ) → (with_bytes s a bytes).threads ≡ s.threads
threads-bytes s a bytes =
    elim (nat_lt a STACK_AREA) as (λ b. (if b then record s { memory = put_bytes s.memory (a - PARTITION_AREA) bytes } else record s { stacks = put_bytes s.stacks (a - STACK_AREA) bytes }).threads ≡ s.threads) [
      | true ↦ refl
      | false ↦ refl
    ]

threads-loaded : (ps : List Partition) (s : State) → (loaded ps s).threads ≡ s.threads
threads-loaded [] s = refl
threads-loaded (p ∷ ps) s = threads-loaded ps (with_bytes s p.range.start.0 p.bytes) ∙ threads-bytes s p.range.start.0 p.bytes

nobody_there : (image : Image) → image.boots ≡ [] → (t : ℕ) → thread_at (opening image) t ≡ nobody
unfolding blank
nobody_there image e t =
    ap (λ (bs : List Boot). thread_at (booted bs (loaded image.partitions (blank image))) t) e ∙ ap (λ (ts : List Thread). slice_index_or ts t nobody) (threads-loaded image.partitions (blank image))
    ∙ replicate_at THREADS t nobody

no_offer : (s : State) (t : ℕ) (p : Pending) (rest : Steps) → thread_at s t ≡ nobody → Offers s t p rest → ⊥
no_offer s t p rest e (goes h) = let none : (thread_at s t).pending ≡ [] = ap (λ (me : Thread). me.pending) e in cc
no_offer s t p rest e (skips_inherit h due) = let none : (thread_at s t).pending ≡ [] = ap (λ (me : Thread). me.pending) e in cc
no_offer s t p rest e (skips_drops h due) = let none : (thread_at s t).pending ≡ [] = ap (λ (me : Thread). me.pending) e in cc
no_offer s t _ _ e (begins h living well line) = let none : is_living (thread_at s t).life ≡ false = ap (λ (me : Thread). is_living me.life) e in cc
no_offer s t _ _ e (exits h living well line) = let none : is_living (thread_at s t).life ≡ false = ap (λ (me : Thread). is_living me.life) e in cc
no_offer s t _ _ e (stops h living stop) = let none : is_living (thread_at s t).life ≡ false = ap (λ (me : Thread). is_living me.life) e in cc
no_offer s t _ _ e (leaves ending) = let none : is_ending (thread_at s t) ≡ false = ap is_ending e in cc
no_offer s t p _ e (tends is started) = let none : is_started (thread_at s t).life ≡ false = ap (λ (me : Thread). is_started me.life) e in cc

no_step : (image : Image) (event : Event) (s2 : State) → image.boots ≡ [] → Step (opening image) event s2 → ⊥
no_step image event s2 e step = no_offer (opening image) event.thread.0 step.step step.rest (nobody_there image e event.thread.0) step.offered

-- an opening state with an event behind it is reached
begun : (image : Image) (event : Event) (s2 : State) → IsDescribed image → Step (opening image) event s2 → (length image.objects ≡ 0) ⊎ (0 < length image.objects) → IsOpening image
begun image event s2 given step (inl none) = absurd (no_step image event s2 (no_boot image image.boots none given.lawful.boots) step)
begun image event s2 given step (inr some) = is_opening image (is_sited image given.lawful given.few some) given.lawful

none_or_some : (n : ℕ) → (n ≡ 0) ⊎ (0 < n)
none_or_some zero = inl refl
none_or_some (suc n) = inr (omega arith)

-- the opening state is known, or it has no event
pub known_or_none : (image : Image) → IsDescribed image → IsKnown (core_of (opening image)) ⊎ ((event : Event) (s2 : State) → Step (opening image) event s2 → ⊥)
known_or_none image given =
    elim (none_or_some (length image.objects)) as (λ _. IsKnown (core_of (opening image)) ⊎ ((event : Event) (s2 : State) → Step (opening image) event s2 → ⊥)) [
      | inl none ↦ inr (λ event s2 step. no_step image event s2 (no_boot image image.boots none given.lawful.boots) step)
      | inr some ↦ inl ((is_opening image (is_sited image given.lawful given.few some) given.lawful).known)
    ]

-- where a run goes on with an event, its opening state is reached
pub starts : (image : Image) (before : List Event) (event : Event) (s s2 : State) → IsDescribed image → IsRun image before s → Step s event s2 → IsOpening image
starts image [] event s s2 given run step =
    begun image event s2 given (subst (λ (now : State). Step now event s2) run step) (none_or_some (length image.objects))
starts image (first ∷ before) event s s2 given (mid, opens, rest) step = begun image first mid given opens (none_or_some (length image.objects))

pub starts_run : (image : Image) (event : Event) (events : List Event) (s : State) → IsDescribed image → IsRun image (event ∷ events) s → IsOpening image
starts_run image event events s given (mid, opens, rest) = begun image event mid given opens (none_or_some (length image.objects))

-- the thread of an event is one of the machine's
beyond : {A : Type 0} (xs : List A) (u : ℕ) (d : A) → length xs ≤ u → slice_index_or xs u d ≡ d
beyond [] u d h = refl
beyond (x ∷ xs) zero d h = absurd (omega (arith, h))
beyond (x ∷ xs) (suc u) d h = beyond xs u d (omega (arith, h))

pub steps_inside : (s s2 : State) (event : Event) → Step s event s2 → event.thread.0 < length (core_of s).calls
steps_inside s s2 event step =
    let t = event.thread.0 in
    elim (cases_lt t (length s.threads)) as (λ _. t < length (core_of s).calls) [
      | inl less ↦ omega (arith, less, length-map s.threads call_of)
      | inr more ↦ absurd (no_offer s t step.step step.rest (beyond s.threads t nobody more) step.offered)
    ]
