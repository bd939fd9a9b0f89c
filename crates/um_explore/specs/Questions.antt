-- What is asked of all runs of an image, and what answers it. Nothing here knows of a search.
use Rattle.std.specs.Prelude.{◌≡◌, ◌≢◌, ℕ, ◌+◌, ◌≤◌, Bool, IsTrue, List, [], ◌++◌, length, Option, None}
use Rattle.std.specs.List.{flat_map, last_or}
use Rattle.um_base.specs.declared.act.Event.{Event}
use Rattle.um_base.specs.declared.image.Image.{Image}
use Rattle.um_machine.specs.Run.{IsComplete, IsRun, Step}
use Rattle.um_machine.specs.State.{State}
use Rattle.um_trace.specs.Acts.{event_line}
use Rattle.um_trace.specs.Text.{text}
use Rattle.um_explore.specs.Steps.{AreSteps}
use Rattle.um_explore.specs.declared.finding.Finding.{Finding}
use Rattle.um_explore.specs.declared.next.Next.{Next}

-- the lines of events, one after another
abbrev pub lines : Image → List Event → List ℕ
lines image events = flat_map (event_line image) events

-- the lines of a run that leads to s
abbrev pub AreLines : Image → List ℕ → State → Type 0
AreLines image bytes s = (events : List Event) × IsRun image events s × (bytes ≡ lines image events)

-- no step's line comes first in the rest of a text
abbrev pub IsNoLine : Image → List ℕ → State → Type 0
IsNoLine image rest s = (event : Event) (s2 : State) (more : List ℕ) → Step s event s2 → rest ≡ event_line image event ++ more → ⊥

-- The first lines of a text, this many, are those of a run that leads to s, and this rest follows.
pub record IsFollowed (image : Image) (bytes rest : List ℕ) (count : ℕ) (s : State) : Type 0 where
  pub events : List Event
  pub run : IsRun image events s
  pub whole : bytes ≡ lines image events ++ rest
  pub many : length events ≡ count

-- What can come next.

-- These are the lines of all steps of a state, and of no other event.
pub record AreNext (image : Image) (s : State) (bytes : List ℕ) : Type 0 where
  pub events : List Event
  pub steps : AreSteps s events
  pub is : bytes ≡ lines image events

-- what is answered of the lines of a run: those that can come next; or which line, counted from 1, isn't that of a step
abbrev pub IsNextOf : Image → List ℕ → Next → Type 0
IsNextOf image bytes (Next.Lines next) = (s : State) × AreLines image bytes s × AreNext image s next.items
IsNextOf image bytes (Next.NoStep line) =
    (s : State) × (rest : List ℕ) × (count : ℕ) × IsFollowed image bytes rest count s × (line ≡ count + 1) × (rest ≢ []) × IsNoLine image rest s

-- Whether any run comes to what is asked. That is a test of a run's last event, of which the opening has none, and of the state to which it leads.

abbrev pub Test : Type 0
Test = Option Event → State → Bool

-- the last event of a list
abbrev pub latest : List Event → Option Event
latest events = last_or None events

-- a run that leads to s by these events has come to what is asked
abbrev pub Meets : Test → List Event → State → Type 0
Meets asked events s = IsTrue (asked (latest events) s)

-- no run comes to what is asked
abbrev pub IsNever : Image → Test → Type 0
IsNever image asked = (events : List Event) (s : State) → IsRun image events s → Meets asked events s → ⊥

-- A text is that of a complete run that comes to what is asked by its first events. No run comes to it by fewer.
pub record IsFound (image : Image) (asked : Test) (bytes : List ℕ) : Type 0 where
  pub front : List Event
  pub more : List Event
  pub here : State
  pub last : State
  pub comes : IsRun image front here
  pub meets : Meets asked front here
  pub run : IsRun image (front ++ more) last
  pub complete : IsComplete last
  pub is : bytes ≡ text image (front ++ more) last
  pub first : (others : List Event) (s : State) → IsRun image others s → Meets asked others s → length front ≤ length others

-- what is answered: never, or a run that comes to what is asked; that it isn't known says nothing
abbrev pub IsFinding : Image → Test → Finding → Type 0
IsFinding image asked (Finding.Found bytes) = IsFound image asked bytes.items
IsFinding image asked (Finding.Never states) = IsNever image asked
IsFinding image asked (Finding.Unknown states unseen) = Unit {0}
