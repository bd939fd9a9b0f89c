-- States to which a run of an image leads: the opening is one, and a step leads to another. There is room for a deadline that it arms.
use Rattle.std.proofs.Common.{◌≡◌, ◌<◌, ◌≤◌, ℕ, true, List, [], ◌∷◌, ◌++◌, ◌∙◌, length, length-append, refl, subst, sym, arith}
use Rattle.um_base.specs.declared.act.Act.{Act}
use Rattle.um_base.specs.declared.act.Event.{Event}
use Rattle.um_base.specs.declared.image.Boot.{Boot}
use Rattle.um_base.specs.declared.image.Image.{Image}
use Rattle.um_base.specs.declared.image.Partition.{Partition}
use Rattle.um_base.specs.declared.limits.TheConstants.{MOST_WEIGHT, STATIC_ROWS}
use Rattle.um_base.specs.declared.names.Row.{Row}
use Rattle.um_base.specs.Lawful.{IsLawful}
use Rattle.um_base.specs.Places.{thread_of_row}
use Rattle.um_machine.specs.declared.pending.Pending.{Pending}
use Rattle.um_machine.specs.Memory.{with_bytes}
use Rattle.um_machine.specs.Order.{Steps}
use Rattle.um_machine.specs.Run.{Runs, Step, blank, boot_thread, booted, booted_one, granted, index_or, loaded, opening}
use Rattle.um_machine.specs.State.{State, with_pair, with_thread}
use Rattle.um_machine.specs.Table.{after}
use Rattle.um_machine.specs.Writes.{wrote}
use Rattle.um_machine.proofs.AfterLemmas.{after-is, bytes-leave}
use Rattle.um_machine.proofs.EffectLemmas.{effects_of, image-wrote, next_of, shared-went}
use Rattle.um_machine.proofs.RunLemmas.{runs-push}
use Rattle.um_measure.proofs.RunLemmas.{armed_within}
use Rattle.um_matrix.specs.declared.tables.choice.Choice.{Choice}
use Rattle.um_matrix.specs.Offered.{IsChoice, after_choice, event_of}
use Rattle.um_matrix.specs.OfRun.{IsOfRun}

-- The image stays.

image-granted : (t : ℕ) (rows : List Row) (s : State) → (granted t rows s).image ≡ s.image
image-granted t [] s = refl
image-granted t (x ∷ rows) s = image-granted t rows (with_pair s t x.0 true)

image-booted : (boots : List Boot) (s : State) → (booted boots s).image ≡ s.image
image-booted [] s = refl
image-booted (boot ∷ boots) s =
    let t = index_or (thread_of_row s.image boot.thread.0) in
    image-booted boots (booted_one boot s) ∙ image-granted t (boot.thread ∷ boot.grants) (with_thread s t (boot_thread s.image boot))

image-loaded : (ps : List Partition) (s : State) → (loaded ps s).image ≡ s.image
image-loaded [] s = refl
image-loaded (p ∷ ps) s =
    image-loaded ps (with_bytes s p.range.start.0 p.bytes) ∙ bytes-leave (λ (z : State). z.image) (λ z bytes. refl) (λ z bytes. refl) s p.range.start.0 p.bytes

pub image-opening : (image : Image) → (opening image).image ≡ image
unfolding blank
image-opening image = image-booted image.boots (loaded image.partitions (blank image)) ∙ image-loaded image.partitions (blank image)

image-after : (s : State) (t x : ℕ) (step : Pending) (rest : Steps) → (after s t x step rest).image ≡ s.image
image-after s t x step rest =
    subst (λ (to : State). to.image ≡ s.image) (sym (after-is s t x step rest)) (shared-went (λ (z : State). z.image) (λ z threads. refl) rest (wrote (effects_of s t x step) s) t (next_of s t x step) ∙ image-wrote (effects_of s t x step) s)

pub image-step : (s s2 : State) (event : Event) → Step s event s2 → s2.image ≡ s.image
image-step s s2 event step = subst (λ (to : State). to.image ≡ s.image) (sym step.leaves) (image-after s event.thread.0 step.row step.step step.rest)

-- Runs.

pub of-opening : (image : Image) → IsLawful image → length image.objects ≤ STATIC_ROWS → IsOfRun (opening image)
of-opening image lawful few =
    let same = image-opening image in record { lawful = rw same lawful; few = rw same few; events = []; run = rw same refl }

pub of-step : (s s2 : State) (event : Event) → IsOfRun s → Step s event s2 → IsOfRun s2
of-step s s2 event of step =
    let same = image-step s s2 event step in
    record { lawful = rw same of.lawful; few = rw same of.few; events = of.events ++ event ∷ []; run = subst (λ (i : Image). Runs (opening i) (of.events ++ event ∷ []) s2) (sym same) (runs-push (opening s.image) of.events s event s2 of.run step) }

pub of-room : (s : State) → IsOfRun s → length s.armed ≤ MOST_WEIGHT
of-room s of =
    let few = armed_within s.image of.events s of.lawful of.few of.run in
    let light = of.lawful.light in omega (arith, few, light)

-- what is chosen of an act is a step
pub choice-step : (s : State) (t : ℕ) (act : Act) (choice : Choice) → IsChoice s t act choice → Step s (event_of t act) (after_choice s t choice)
choice-step s t act Choice.Begins h = h
choice-step s t act Choice.Exits h = h
choice-step s t act Choice.Stops h = h
choice-step s t act Choice.Leaves h = h
choice-step s t act (Choice.Makes step row taken) h = h.3
choice-step s t act (Choice.Tends step row) h = h.2

pub of-choice : (s : State) (t : ℕ) (act : Act) (choice : Choice) → IsOfRun s → IsChoice s t act choice → IsOfRun (after_choice s t choice)
of-choice s t act choice of h = of-step s (after_choice s t choice) (event_of t act) of (choice-step s t act choice h)

-- where one more deadline has room, there is room for it
pub one-more : (armed : List ℕ) (deadline : ℕ) → length (armed ++ deadline ∷ []) ≤ MOST_WEIGHT → length armed < MOST_WEIGHT
one-more armed deadline h = let last = length-append armed (deadline ∷ []) in omega (arith, last, h)
