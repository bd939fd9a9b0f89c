-- How runs can end.
use Rattle.std.specs.Prelude.{◌≡◌, ℕ, ◌+◌, ◌≤◌, List, [], ◌∷◌, ◌++◌, ◌<◌, Bool, false, ◌==◌, ◌||◌, if◌then◌else◌, codes, decimal, length, Option, Some, None, slice_get}
use Rattle.std.specs.List.{flat_map, starts_with}
use Rattle.um_base.specs.declared.act.Act.{Act}
use Rattle.um_base.specs.declared.act.Event.{Event}
use Rattle.um_base.specs.declared.image.Image.{Image}
use Rattle.um_machine.specs.Order.{to_thread}
use Rattle.um_machine.specs.Run.{IsComplete, IsRun}
use Rattle.um_machine.specs.State.{State}
use Rattle.um_trace.specs.Acts.{event_line}
use Rattle.um_trace.specs.Dump.{threads_text}
use Rattle.um_explore.specs.declared.failures.Failure.{Failure}
use Rattle.um_explore.specs.Failures.{Failures, failures}
use Rattle.um_explore.specs.Met.{AreDone, AreLayered, IsLed, PathTo}
use Rattle.um_explore.specs.declared.endings.Endings.{Endings}
use Rattle.um_explore.specs.declared.met.Link.{Link}
use Rattle.um_explore.specs.declared.ways.Way.{Way}

-- Ways to end: what a dump shows of each thread, and how the threads failed that did.

abbrev pub failure_line : Image → ℕ → Option Failure → List ℕ
failure_line image t None = []
failure_line image t (Some failure) = event_line image (record { thread = to_thread t; act = Act.Fatal failure.reason failure.cause })

abbrev pub failure_lines : Image → ℕ → Failures → List ℕ
failure_lines image t [] = []
failure_lines image t (note ∷ notes) = failure_line image t note ++ failure_lines image (t + 1) notes

abbrev pub way : Image → List Event → State → List ℕ
way image events last = threads_text image last ++ failure_lines image 0 (failures events)

-- One way in which runs end: in how many states, and a run that ends so.
pub record Ending : Type 0 where
  pub way : List ℕ
  pub states : ℕ
  pub events : List Event

-- A complete run ends so, and none with fewer events does.
pub record IsEnding (image : Image) (ending : Ending) : Type 0 where
  pub last : State
  pub run : IsRun image ending.events last
  pub complete : IsComplete last
  pub is : ending.way ≡ way image ending.events last
  pub first : (events : List Event) (s : State) → IsRun image events s → IsComplete s → ending.way ≡ way image events s → length ending.events ≤ length events

-- These are the ways in which the complete runs of an image end, and no others.
pub record AreEnds (image : Image) (endings : List Ending) : Type 0 where
  pub each : (k : ℕ) (ending : Ending) → slice_get endings k ≡ Some ending → IsEnding image ending
  pub all : (events : List Event) (last : State) → IsRun image events last → IsComplete last → (k : ℕ) × (ending : Ending) × (slice_get endings k ≡ Some ending) × (ending.way ≡ way image events last)

-- The text of the ways to end.

-- whether a text has a part
abbrev pub has_part : List ℕ → List ℕ → Bool
has_part part [] = false
has_part part (b ∷ bytes) = starts_with (λ (x y : ℕ). x == y) (b ∷ bytes) part || has_part part bytes

-- whether a thread waits for good: a dump says so of it
unfoldable pub somebody_waits : List ℕ → Bool
somebody_waits text = has_part (codes "waits:") text

abbrev pub waiting_text : Bool → List ℕ
waiting_text waits = if waits then codes ", a thread waits for good" else []

-- what is said of an end: which one it is, whether somebody waits, in how many states, and behind how many events at least
unfoldable pub heading : ℕ → ℕ → ℕ → Bool → List ℕ
heading number states count waits = codes "end " ++ decimal number ++ codes ": " ++ decimal states ++ codes " states, " ++ decimal count ++ codes " events" ++ waiting_text waits ++ codes "\n"

abbrev pub run_line : Image → Event → List ℕ
run_line image event = codes "  " ++ event_line image event

abbrev pub ending_text : Image → ℕ → Ending → List ℕ
ending_text image k ending =
    heading (k + 1) ending.states (length ending.events) (somebody_waits ending.way) ++ ending.way ++ flat_map (run_line image) ending.events

-- the ends from number k on
abbrev pub endings_text : Image → ℕ → List Ending → List ℕ
endings_text image k [] = []
endings_text image k (ending ∷ endings) = ending_text image k ending ++ endings_text image (k + 1) endings

-- what is answered: all ways to end, each with a run that leads there; that they aren't known says nothing
abbrev pub IsEndings : Image → Endings → Type 0
IsEndings image (Endings.Ends bytes) = (endings : List Ending) × AreEnds image endings × (bytes.items ≡ endings_text image 0 endings)
IsEndings image (Endings.Unknown states unseen) = Unit {0}

-- What a search knows of the ways to end, from the states before a number.

-- A state with this way to end, before which no other has it.
pub record IsWayOf (image : Image) (links : List Link) (n : ℕ) (w : Way) : Type 0 where
  pub events : List Event
  pub last : State
  pub within : w.number ≤ length links
  pub before : w.number < n
  pub led : IsLed image links w.number events last
  pub complete : IsComplete last
  pub is : w.text.items ≡ way image events last
  pub first : (j : ℕ) (others : List Event) (s : State) → j < n → IsLed image links j others s → IsComplete s → w.text.items ≡ way image others s → w.number ≤ j

abbrev pub HasWay : List Way → List ℕ → Type 0
HasWay ways text = (i : ℕ) × (w : Way) × (slice_get ways i ≡ Some w) × (w.text.items ≡ text)

pub record AreWays (image : Image) (links : List Link) (n : ℕ) (ways : List Way) : Type 0 where
  pub each : (i : ℕ) (w : Way) → slice_get ways i ≡ Some w → IsWayOf image links n w
  pub all : (j : ℕ) (events : List Event) (s : State) → j < n → IsLed image links j events s → IsComplete s → HasWay ways (way image events s)

-- where a text stands among the ways, if it does
abbrev pub IsPlaceOf : List Way → List ℕ → Option ℕ → Type 0
IsPlaceOf ways text (Some i) = (w : Way) × (slice_get ways i ≡ Some w) × (w.text.items ≡ text)
IsPlaceOf ways text None = HasWay ways text → ⊥

-- An end that is told of a way.
pub record IsToldOf (links : List Link) (w : Way) (ending : Ending) : Type 0 where
  pub way : ending.way ≡ w.text.items
  pub path : PathTo links w.number ending.events

-- the first ways are told
abbrev pub AreTold : List Link → List Way → List Ending → Type 0
AreTold links ways endings = (i : ℕ) (ending : Ending) → slice_get endings i ≡ Some ending → (w : Way) × (slice_get ways i ≡ Some w) × IsToldOf links w ending

-- all states were looked at, and these are the ways in which runs end
pub record HaveAllWays (image : Image) (links : List Link) (ways : List Way) : Type 0 where
  pub n : ℕ
  pub past : length links < n
  pub done : AreDone image (λ latest s. false) links n
  pub known : AreWays image links n ways
  pub layered : AreLayered links
