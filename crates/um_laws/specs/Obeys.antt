-- The laws of one run.
use Rattle.std.specs.Prelude.{◌≡◌, ℕ, true, List, [], ◌∷◌, ◌++◌, Option, None}
use Rattle.um_base.specs.declared.act.Act.{Act}
use Rattle.um_base.specs.declared.act.Event.{Event}
use Rattle.um_base.specs.declared.image.Image.{Image}
use Rattle.um_base.specs.declared.names.Addr.{Addr}
use Rattle.um_base.specs.declared.names.Kind.{Kind}
use Rattle.um_base.specs.declared.names.ThreadIx.{ThreadIx}
use Rattle.um_base.specs.declared.names.Want.{Want}
use Rattle.um_machine.specs.Run.{IsRun, Step}
use Rattle.um_machine.specs.State.{State}
use Rattle.um_laws.specs.Deadlines.{is_in_time, HasTickTo, is_without_start, Watches}
use Rattle.um_laws.specs.Holds.{IsInCall}
use Rattle.um_laws.specs.Laws.{WasAllowed, IsVerdict, IsUnheld, IsOfItsCreator}
use Rattle.um_laws.specs.Lives.{born, gone, recycled, marks, InTurns, IsWithoutBirth, WasBornAndGone}
use Rattle.um_laws.specs.Origins.{IsOwned}
use Rattle.um_laws.specs.Service.{IsInOrderOfService}

-- In a run an event comes after these events, in this state, and leads to that one.
pub record Stands (image : Image) (events before : List Event) (s : State) (event : Event) (s2 : State) : Type 0 where
  pub after : List Event
  pub parts : events ≡ before ++ event ∷ after
  pub run : IsRun image before s
  pub step : Step s event s2

-- A run obeys the laws.
pub record ObeysLaws (image : Image) (events : List Event) : Type 0 where
  -- an access that succeeds was allowed in the state in which it stands
  pub accesses : (before : List Event) (event : Event) (s s2 : State) → Stands image events before s event s2 → WasAllowed s event
  -- what a check says is the verdict there
  pub verdicts : (before : List Event) (event : Event) (s s2 : State) → Stands image events before s event s2 → IsVerdict s event
  -- where a user's check of an object that isn't public is passed, its pair has its origin in the events before
  pub origins : (before : List Event) (event : Event) (s s2 : State) → Stands image events before s event s2 → IsOwned image before s event
  -- what a new thread inherits its creator has, and it isn't the creator's own object
  pub inheritances : (before : List Event) (event : Event) (s s2 : State) → Stands image events before s event s2 → IsOfItsCreator s event
  -- whom an act on an object wakes is first by priority, and then by time, among those that the act serves
  pub service : (before : List Event) (event : Event) (s s2 : State) → Stands image events before s event s2 → IsInOrderOfService s event
  -- an object that is recycled is gone, and no thread holds it
  pub recycles : (before : List Event) (event : Event) (s s2 : State) → Stands image events before s event s2 → IsUnheld s event
  -- of each address births, losses of the last pair and recyclings come in turns
  pub turns : (a : ℕ) → InTurns born (marks a events)
  -- between two successive births of an address it is lost once and then recycled once
  pub lives : (before middle after : List Event) (birth rebirth : Event) (a : Addr) → events ≡ before ++ birth ∷ (middle ++ rebirth ∷ after)
      → birth.act ≡ Act.Born a → rebirth.act ≡ Act.Born a → IsWithoutBirth a middle → marks a.0 middle ≡ gone ∷ recycled ∷ []
  -- before a recycling come its birth and the loss of its last pair
  pub ends : (before after : List Event) (event : Event) (a : Addr) → events ≡ before ++ event ∷ after → event.act ≡ Act.Recycle a
      → WasBornAndGone (marks a.0 before)
  -- between a check that is passed and the end of its thread's call the object isn't recycled
  pub holds : (before middle after : List Event) (check recycle : Event) (a : Addr) (kind : Option Kind) (want : Want) → events ≡ before ++ check ∷ (middle ++ recycle ∷ after)
      → check.act ≡ Act.Check a kind want None → IsInCall check.thread.0 middle → ¬ (recycle.act ≡ Act.Recycle a)
  -- between the arming of a deadline and the timeout of the same call time comes to that deadline
  pub deadlines : (before middle after : List Event) (arm late : Event) (d : ℕ) (who : ThreadIx) → events ≡ before ++ arm ∷ (middle ++ late ∷ after)
      → arm.act ≡ Act.Arm d → late.act ≡ Act.TimedOut who → arm.thread ≡ who → is_in_time who.0 middle ≡ true → HasTickTo d middle
  -- behind an abort that says ok its thread begins no line before its next start
  pub aborts : (before middle after : List Event) (abort begin : Event) (who : ThreadIx) (script line : ℕ) → events ≡ before ++ abort ∷ (middle ++ begin ∷ after)
      → abort.act ≡ Act.Abort who true → begin.thread ≡ who → is_without_start who.0 middle ≡ true → ¬ (begin.act ≡ Act.Begin script line)
  -- who waits on a futex found the number there that it expected, and waits from that event on
  pub watches : (before : List Event) (event : Event) (s s2 : State) → Stands image events before s event s2 → Watches s event.thread.0 event.act s2
