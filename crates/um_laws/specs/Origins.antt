-- Where a thread's pair with an object comes from (Zephyr: User Mode, Kernel Objects).
use Rattle.um_invariants.specs.Acts.{ActGives, ActDrops, boots}
use Rattle.std.specs.Prelude.{◌≡◌, Some, None, false, ℕ, IsTrue, List, [], ◌∷◌, ◌++◌}
use Rattle.std.specs.List.{list_any}
use Rattle.um_base.specs.Places.{row_at, addr_of}
use Rattle.um_machine.specs.State.{State, thread_at, object_at, is_user}
use Rattle.um_base.specs.declared.act.Act.{Act}
use Rattle.um_base.specs.declared.act.Event.{Event}
use Rattle.um_base.specs.declared.image.Image.{Image}

-- an event gives a thread a pair with the object at an address
abbrev pub Gives : Image → ℕ → ℕ → Event → Type 0
Gives image t a event = ActGives image t a event.thread.0 event.act

-- an event takes that pair away
abbrev pub Drops : ℕ → ℕ → Event → Type 0
Drops t a event = ActDrops t a event.act

-- none of these events takes that pair away
abbrev pub IsKept : ℕ → ℕ → List Event → Type 0
IsKept t a [] = Unit {0}
IsKept t a (event ∷ events) = ¬ (Drops t a event) × IsKept t a events

-- The pair of a thread with the object of a row came from a boot entry or from an event, and no event since then takes it away;
-- so none does since the last event that gave it.
pub data HasOrigin (image : Image) (t x : ℕ) (events : List Event) : Type 0 where
  booted : IsTrue (list_any (boots image t x) image.boots) → IsKept t (addr_of image x) events → HasOrigin image t x events
  given : (before : List Event) (event : Event) (since : List Event) → events ≡ before ++ event ∷ since → Gives image t (addr_of image x) event → IsKept t (addr_of image x) since → HasOrigin image t x events

-- where a user's check of an object that isn't public is passed, the pair had an origin among the events before
abbrev pub ChecksOwned : Image → List Event → State → ℕ → Act → Type 0
ChecksOwned image before s t (Act.Check a kind want None) =
    (x : ℕ) → row_at image a.0 ≡ Some x → IsTrue (is_user (thread_at s t).mode) → (object_at s x).public ≡ false → HasOrigin image t x before
ChecksOwned image before s t act = Unit {0}

abbrev pub IsOwned : Image → List Event → State → Event → Type 0
IsOwned image before s event = ChecksOwned image before s event.thread.0 event.act
