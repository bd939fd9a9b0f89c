-- The states that a search met, as a tree: each but the opening with the one before it, and the event that leads from there.
use Rattle.std.specs.Prelude.{◌≡◌, ℕ, ◌+◌, ◌<◌, ◌≤◌, IsTrue, List, [], ◌∷◌, ◌++◌, length, Some, slice_get}
use Rattle.um_base.specs.declared.act.Event.{Event}
use Rattle.um_base.specs.declared.image.Image.{Image}
use Rattle.um_invariants.specs.Described.{IsDescribed}
use Rattle.um_machine.specs.Run.{IsComplete, IsRun, Step, opening}
use Rattle.um_machine.specs.State.{State}
use Rattle.um_trace.specs.Text.{text}
use Rattle.um_explore.specs.Failures.{Failures, failures, noted}
use Rattle.um_explore.specs.Questions.{IsNever, Test}
use Rattle.um_explore.specs.declared.search.Expanded.{Expanded}
use Rattle.um_explore.specs.declared.search.Outcome.{Outcome}
use Rattle.um_explore.specs.declared.finding.Finding.{Finding}
use Rattle.um_explore.specs.declared.met.Link.{Link}
use Rattle.um_explore.specs.declared.rooms.Rooms.{Rooms}

-- The events that lead to the state of a number: none to the opening, which has number 0.
pub data PathTo (links : List Link) : ℕ → List Event → Type 0 where
  opens : {k : ℕ} {events : List Event} → k ≡ 0 → events ≡ [] → PathTo links k events
  goes : {k n : ℕ} {link : Link} {before events : List Event} → k ≡ n + 1 → slice_get links n ≡ Some link → link.parent ≤ n → PathTo links link.parent before → events ≡ before ++ link.event ∷ [] → PathTo links k events

-- these events lead to the state of that number, which is this one
pub record IsLed (image : Image) (links : List Link) (k : ℕ) (events : List Event) (s : State) : Type 0 where
  pub path : PathTo links k events
  pub run : IsRun image events s

-- this is the state of that number
abbrev pub Leads : Image → List Link → ℕ → State → Type 0
Leads image links k s = (events : List Event) × PathTo links k events × IsRun image events s

-- each state comes behind the one that it comes from
abbrev pub IsTree : List Link → Type 0
IsTree links = (n : ℕ) (link : Link) → slice_get links n ≡ Some link → link.parent ≤ n

-- A tree of states that runs of an image reach. The image is one that a description gives.
pub record AreMet (image : Image) (links : List Link) : Type 0 where
  pub described : IsDescribed image
  pub tree : IsTree links
  pub reached : (k : ℕ) → k ≤ length links → (s : State) × Leads image links k s

-- All rooms have states of the image, and one has its opening.
pub record AreRooms (image : Image) (rooms : Rooms) : Type 0 where
  pub opens : rooms.opens ≡ opening image
  pub here : rooms.here.image ≡ image
  pub there : rooms.there.image ≡ image
  pub other : rooms.other.image ≡ image

-- a state is among those that were met, with these failures
abbrev pub IsKnown : Image → List Link → Failures → State → Type 0
IsKnown image links notes s = (k : ℕ) × (k ≤ length links) × (events : List Event) × IsLed image links k events s × (failures events ≡ notes)

-- and no more than so many events lead to it
abbrev pub IsMet : Image → List Link → ℕ → Failures → State → Type 0
IsMet image links n notes s = (k : ℕ) × (k ≤ length links) × (events : List Event) × IsLed image links k events s × (failures events ≡ notes) × (length events ≤ n)

-- no step from the state to which these events lead comes to what is asked, and each leads to a state that was met, by one event more
abbrev pub IsDone : Image → Test → List Link → List Event → State → Type 0
IsDone image asked links events s =
    (event : Event) (s2 : State) → Step s event s2 → (IsTrue (asked (Some event) s2) → ⊥) × IsMet image links (length events + 1) (noted event (failures events)) s2

-- A tree of states grew: to each number lead the events that did.
pub record Grows (image : Image) (before links : List Link) : Type 0 where
  pub more : length before ≤ length links
  pub paths : (k : ℕ) (events : List Event) → PathTo before k events → PathTo links k events

-- to later numbers lead as many events, or more
abbrev pub AreLayered : List Link → Type 0
AreLayered links = (i j : ℕ) (events others : List Event) → i ≤ j → PathTo links i events → PathTo links j others → length events ≤ length others

-- to no number leads more than one event more than to this one
abbrev pub IsNear : List Link → ℕ → Type 0
IsNear links k = (j : ℕ) (events others : List Event) → PathTo links k events → PathTo links j others → length others ≤ length events + 1

-- each step with this event from the state of a number leads to a state that was met, by one event more
abbrev pub LeadsOn : Image → List Link → ℕ → Event → Type 0
LeadsOn image links k event =
    (events : List Event) (s s2 : State) → IsLed image links k events s → Step s event s2 → IsMet image links (length events + 1) (noted event (failures events)) s2

-- the state of each number below this one is done
abbrev pub AreDone : Image → Test → List Link → ℕ → Type 0
AreDone image asked links n = (k : ℕ) (events : List Event) (s : State) → k < n → IsLed image links k events s → IsDone image asked links events s

-- a step with this event, from the state of a number, comes to what is asked
abbrev pub IsHit : Image → Test → List Link → ℕ → Event → Type 0
IsHit image asked links k event = (s : State) × (s2 : State) × Leads image links k s × Step s event s2 × IsTrue (asked (Some event) s2)

-- one state more, to which an event leads from another one
abbrev pub Adds : List Link → ℕ → Event → List Link → Type 0
Adds before parent event links = (link : Link) × (link.parent ≡ parent) × (link.event ≡ event) × (links ≡ before ++ link ∷ [])

-- a state has a step
abbrev pub IsUnfinished : State → Type 0
IsUnfinished s = (event : Event) × (s2 : State) × Step s event s2

-- how a search went on from the state of a number, which stands in a room: all its steps are done, or it has none, or one comes to what is
-- asked, or there is no more room
abbrev pub Expands : Image → Test → List Link → ℕ → State → Expanded → Type 0
Expands image asked links k here Expanded.Done = IsUnfinished here × Leads image links k here × ((events : List Event) (s : State) → IsLed image links k events s → IsDone image asked links events s)
Expands image asked links k here Expanded.Last = IsComplete here × Leads image links k here
Expands image asked links k here (Expanded.Hit event) = IsHit image asked links k event
Expands image asked links k here Expanded.Full = Unit {0}

-- how a search ended: all states are done, or a step from the state of a number does, and all states before are done
abbrev pub Ends : Image → Test → List Link → Outcome → Type 0
Ends image asked links Outcome.Never = (n : ℕ) × (length links < n) × AreDone image asked links n
Ends image asked links (Outcome.Hit k event) = (k ≤ length links) × IsHit image asked links k event × AreDone image asked links k
Ends image asked links (Outcome.Full from) = Unit {0}

-- what is shown of an event that is a step from the state of a number: the text of a complete run that begins with the events that lead
-- there, and this one; or nothing
abbrev pub Shows : Image → List Link → ℕ → Event → Finding → Type 0
Shows image links k event (Finding.Found bytes) =
    (front : List Event) × (more : List Event) × (last : State) × PathTo links k front × IsRun image (front ++ event ∷ more) last × IsComplete last × (bytes.items ≡ text image (front ++ event ∷ more) last)
Shows image links k event (Finding.Never states) = ⊥
Shows image links k event (Finding.Unknown states unseen) = Unit {0}

abbrev pub IsUnknown : Finding → Type 0
IsUnknown (Finding.Unknown states unseen) = Unit {0}
IsUnknown _ = ⊥

-- what is shown where the opening comes to what is asked already
abbrev pub ShowsOpening : Image → Finding → Type 0
ShowsOpening image (Finding.Found bytes) = (events : List Event) × (last : State) × IsRun image events last × IsComplete last × (bytes.items ≡ text image events last)
ShowsOpening image (Finding.Never states) = ⊥
ShowsOpening image (Finding.Unknown states unseen) = Unit {0}
