-- Virtual time as its cell keeps it, with room for so many marks.
use Rattle.std.specs.Prelude.{◌≡◌, ◌≤◌, ◌+◌, ◌*◌, ℕ, Bool, true, not, if◌then◌else◌, List, [], ◌∷◌, length, Option, Some, None}
use Rattle.um_words.specs.declared.fine.Mark.{Mark}
use Rattle.um_fine.specs.Clock.{Clock, Marked, later}

pub record Timed : Type 0 where
  pub clock : Clock
  pub most : ℕ

-- no time has passed, and nothing is armed
abbrev pub at_rest : ℕ → Timed
at_rest most = record { clock = record { now = 0; marks = [] }; most = most }

-- each arming adds less than 2^32 to the time, which goes on to armed deadlines alone
abbrev pub AllNear : ℕ → List Marked → Type 0
AllNear n [] = Unit {0}
AllNear n (m ∷ ms) = (m.deadline ≤ n * 4294967296) × AllNear n ms

abbrev pub AreNear : Clock → Type 0
AreNear c = (c.now ≤ length c.marks * 4294967296) × AllNear (length c.marks) c.marks

-- the places of the marks of a sort, of which the first one stands at a place k
abbrev pub places : (Marked → Bool) → ℕ → List Marked → List ℕ
places p k [] = []
places p k (m ∷ ms) = if p m then k ∷ places p (k + 1) ms else places p (k + 1) ms

-- the marks of two sorts: those that aren't given yet, and those that aren't settled yet
abbrev pub not_given : Marked → Bool
not_given m = not m.given

abbrev pub not_settled : Marked → Bool
not_settled m = not m.settled

-- the deadline of each mark that is given has come
abbrev pub HaveCome : ℕ → List Marked → Type 0
HaveCome now [] = Unit {0}
HaveCome now (m ∷ ms) = (m.given ≡ true → m.deadline ≤ now) × HaveCome now ms

-- A clock with the places of its marks that aren't given, and of those that aren't settled. Each of the two lists has at least as much room as
-- the marks have.
pub record IsListed (c : Clock) (ungiven unsettled : List ℕ) (most ungiven_most unsettled_most : ℕ) : Type 0 where
  pub near : AreNear c
  pub come : HaveCome c.now c.marks
  pub lists_ungiven : ungiven ≡ places not_given 0 c.marks
  pub lists_unsettled : unsettled ≡ places not_settled 0 c.marks
  pub ungiven_room : most ≤ ungiven_most
  pub unsettled_room : most ≤ unsettled_most

-- the next deadline to which time goes on
abbrev pub later_of : Timed → Option ℕ
later_of t = later t.clock

abbrev pub time_of : Timed → ℕ
time_of t = t.clock.now

-- the clock after an arming, a settling, and a mark that is given
abbrev pub with_marks : Timed → List Marked → Timed
with_marks t marks = record t { clock = record t.clock { marks = marks } }

abbrev pub with_time : Timed → ℕ → Timed
with_time t now = record t { clock = record t.clock { now = now } }

-- a mark that is given: its deadline, and what it is for
abbrev pub given_of : Option Marked → Option (ℕ × Mark)
given_of None = None
given_of (Some m) = Some (m.deadline, m.mark)
