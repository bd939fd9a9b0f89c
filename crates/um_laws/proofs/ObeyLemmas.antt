-- Each run of an image that a description gives obeys the laws.
use Rattle.std.proofs.Common.{◌≡◌, List, ◌∷◌, ◌++◌, append_assoc, subst, sym, ◌∙◌}
use Rattle.um_base.specs.declared.act.Event.{Event}
use Rattle.um_base.specs.declared.image.Image.{Image}
use Rattle.um_machine.proofs.RunLemmas.{runs-parts}
use Rattle.um_machine.specs.Run.{IsRun, Step, opening}
use Rattle.um_machine.specs.State.{State}
use Rattle.um_invariants.specs.Described.{IsDescribed}
use Rattle.um_laws.specs.Obeys.{ObeysLaws}
use Rattle.um_laws.proofs.AccessLemmas.{was_allowed, is_verdict}
use Rattle.um_laws.proofs.RecycleLemmas.{is_unheld, is_of_its_creator}
use Rattle.um_laws.proofs.ServiceLemmas.{is_in_order_of_service}
use Rattle.um_laws.proofs.TimeLemmas.{begins_none, ticks_between, watches}
use Rattle.um_laws.proofs.Theorems.{owned_event, marks_turn, lives_between, was_alive, holds_until}

-- a run up to one of its events, and the step that it is
stops_at : (image : Image) (events before after : List Event) (event : Event) (s : State) → IsRun image events s → events ≡ before ++ event ∷ after → (mid mid2 : State) × IsRun image before mid × Step mid event mid2
stops_at image events before after event s run parts =
    let (mid, first, later) = runs-parts (opening image) before (event ∷ after) s (subst (λ (all : List Event). IsRun image all s) parts run) in
    let (mid2, step, rest) = later in (mid, mid2, first, step)

-- two events of a run, with events between them
two_parts : (events before middle after : List Event) (event event2 : Event) → events ≡ before ++ event ∷ (middle ++ event2 ∷ after) → events ≡ (before ++ event ∷ middle) ++ event2 ∷ after
two_parts events before middle after event event2 parts = parts ∙ sym (append_assoc before (event ∷ middle) (event2 ∷ after))

pub obeys : (image : Image) (events : List Event) (s : State) → IsDescribed image → IsRun image events s → ObeysLaws image events
obeys image events s given run = record {
  accesses = λ before event from to stands. was_allowed from to event stands.step;
  verdicts = λ before event from to stands. is_verdict from to event stands.step;
  origins = λ before event from to stands. owned_event image before event from to given stands.run stands.step;
  inheritances = λ before event from to stands. is_of_its_creator from to event stands.step;
  service = λ before event from to stands. is_in_order_of_service from to event stands.step;
  recycles = λ before event from to stands. is_unheld from to event stands.step;
  turns = λ a. marks_turn image events s given run a;
  lives = λ before middle after birth rebirth a parts e f none.
      let (from, to, first, step) = stops_at image events (before ++ birth ∷ middle) after rebirth s run (two_parts events before middle after birth rebirth parts) in
      lives_between image before middle birth rebirth a from to given first step e f none;
  ends = λ before after event a parts e.
      let (from, to, first, step) = stops_at image events before after event s run parts in
      was_alive image before event a from to given first step e;
  holds = λ before middle after check recycle a kind want parts e calls.
      let (from, to, first, step) = stops_at image events (before ++ check ∷ middle) after recycle s run (two_parts events before middle after check recycle parts) in
      holds_until image before middle check recycle a kind want from to given first step e calls;
  deadlines = λ before middle after arm late d who parts e f here same.
      let (from, to, first, step) = stops_at image events (before ++ arm ∷ middle) after late s run (two_parts events before middle after arm late parts) in
      ticks_between image before middle arm late d who from to given first step e f here same;
  aborts = λ before middle after abort begin who script line parts e here free.
      let (from, to, first, step) = stops_at image events (before ++ abort ∷ middle) after begin s run (two_parts events before middle after abort begin parts) in
      begins_none image before middle abort begin who script line from to given first step e here free;
  watches = λ before event from to stands. watches from to event stands.step;
}
