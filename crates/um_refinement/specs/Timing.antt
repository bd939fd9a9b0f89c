-- Virtual time: the clock, marks that are owed, and that who waits with a deadline has a mark.
use Rattle.std.specs.Prelude.{length, ◌≡◌, ℕ, ◌+◌, ◌<◌, ◌≤◌, Bool, true, false, ◌==◌, ◌&&◌, ◌||◌, not, nat_le, nat_lt, if◌then◌else◌, List, [], ◌∷◌, Option, Some, None, IsTrue}
use Rattle.std.specs.List.{list_any, list_all}
use Rattle.um_base.specs.declared.image.Image.{Image}
use Rattle.um_base.specs.declared.limits.TheConstants.{ROWS}
use Rattle.um_machine.specs.declared.contents.Contents.TheVariants as Contents
use Rattle.um_machine.specs.declared.pending.Pending.{Pending}
use Rattle.um_machine.specs.Order.{Steps, to_row}
use Rattle.um_machine.specs.State.{State, thread_at, object_at, is_started, waiters_in}
use Rattle.um_words.specs.declared.fine.Mark.{Mark}
use Rattle.um_fine.specs.Clock.{Marked, deadlines, same_mark}
use Rattle.um_fine.specs.Context.{Context}
use Rattle.um_fine.specs.Places.{Todo, Todos, armed_for, is_paid}
use Rattle.um_fine.specs.Processor.{actor_or}
use Rattle.um_fine.specs.Seeking.{deadline_of}
use Rattle.um_refinement.specs.Fine.{Fine, clock, one_if, over_processors, scheduler}
use Rattle.um_refinement.specs.Lists.{counted, is_arm, times}
use Rattle.um_refinement.specs.Objects.{recyclers, wipers}
use Rattle.um_refinement.specs.Stops.{cell_site, is_waiting_site, waits_at}

-- The clock has the machine's time and deadlines.
pub record ClockIs (f : Fine) (m : State) : Type 0 where
  pub now : (clock f).now ≡ m.now
  pub armed : deadlines (clock f).marks ≡ m.armed

-- how many marks weren't given
abbrev pub left_marks : List Marked → ℕ
left_marks [] = 0
left_marks (x ∷ xs) = if x.given then left_marks xs else left_marks xs + 1

-- a mark is owed by now that a processor arms next
abbrev pub arms : Todos → Bool
arms [] = false
arms (Todo.owe ∷ todo) = false
arms (Todo.show q rest ∷ todo) = is_arm q
arms (q ∷ todo) = arms todo

-- Owed are the marks that are about to be armed, those in the clock that weren't given, and those in hands.
pub record OwedIs (f : Fine) : Type 0 where
  pub owed : (scheduler f).owed ≡ over_processors f (λ p. one_if (arms p.todo) + counted is_paid p.todo) + left_marks (clock f).marks

-- such a mark, that isn't settled; how many there are, and how many are to be settled
abbrev pub is_open : ℕ → Mark → Marked → Bool
is_open deadline mark x = not x.settled && x.deadline == deadline && same_mark x.mark mark

abbrev pub open_marks : ℕ → Mark → List Marked → ℕ
open_marks deadline mark [] = 0
open_marks deadline mark (x ∷ xs) = if is_open deadline mark x then open_marks deadline mark xs + 1 else open_marks deadline mark xs

abbrev pub settles : ℕ → Mark → Todo → Bool
settles deadline mark (Todo.settle d m) = d == deadline && same_mark m mark
settles deadline mark _ = false

abbrev pub is_sound : ℕ → Marked → Bool
is_sound now x = not x.given || (x.settled && nat_le x.deadline now)

-- a thread's mark is for a cell in which threads wait, and a timer's for a row
abbrev pub is_placed : Mark → Bool
is_placed (Mark.Thread who site) = is_waiting_site site
is_placed (Mark.Timer x) = nat_lt x.0 ROWS

-- Each mark that isn't settled is one that a processor is to settle. One that was given is settled, and its deadline has come; so it has of
-- one in a hand.
pub record MarksAre (f : Fine) : Type 0 where
  pub unsettled : (deadline : ℕ) (mark : Mark) → open_marks deadline mark (clock f).marks ≡ over_processors f (λ p. counted (settles deadline mark) p.todo)
  pub given : IsTrue (list_all (is_sound (clock f).now) (clock f).marks)
  pub hands : (k deadline : ℕ) (mark : Mark) (todo : Todos) → k < f.cpus → (f.processors k).todo ≡ Todo.handle deadline mark ∷ todo
      → (deadline ≤ (clock f).now) × (is_placed mark ≡ true)
  pub placed : list_all (λ (x : Marked). is_placed x.mark) (clock f).marks ≡ true

-- a mark that is still to be handled: the clock has it and hasn't given it, or it is in a hand
abbrev pub is_left : ℕ → Mark → Marked → Bool
is_left deadline mark x = not x.given && x.deadline == deadline && same_mark x.mark mark

abbrev pub handles : ℕ → Mark → Todo → Bool
handles deadline mark (Todo.handle d m) = d == deadline && same_mark m mark
handles deadline mark _ = false

pub data IsToCome (f : Fine) (deadline : ℕ) (mark : Mark) : Type 0 where
  waits : list_any (is_left deadline mark) (clock f).marks ≡ true → IsToCome f deadline mark
  held : (k : ℕ) → k < f.cpus → list_any (handles deadline mark) (f.processors k).todo ≡ true → IsToCome f deadline mark

-- A thread that waits with a deadline has a mark of that deadline and of its cell. The deadline of who waits is that of its call.
pub record TimeoutComes (f : Fine) (m : State) (t : ℕ) : Type 0 where
  pub comes : (c d : ℕ) → c < ROWS + 2 → waits_at m t c ≡ true → (thread_at m t).until ≡ Some d → IsToCome f d (Mark.Thread (record { 0 = t }) (cell_site c))
  pub until : (c : ℕ) → c < ROWS + 2 → waits_at m t c ≡ true → deadline_of t (waiters_in m c) ≡ (thread_at m t).until

-- A timer that runs has a mark of its deadline, unless its cell was cleared.
pub record ExpiryComes (f : Fine) (m : State) (x : ℕ) : Type 0 where
  pub comes : (d : ℕ) → wipers f x ≡ recyclers f x → (object_at m x).contents ≡ Contents.Running d → IsToCome f d (Mark.Timer (to_row x))

-- what is left of a mark that was handled: wakes, and that it is paid
abbrev pub IsPaying : Todos → Type 0
IsPaying [] = ⊥
IsPaying (Todo.wake who told ∷ todo) = IsPaying todo
IsPaying (Todo.paid ∷ todo) = todo ≡ []
IsPaying (q ∷ todo) = ⊥

-- the list of a processor with a mark in its hand: it handles the mark, wakes, and pays
abbrev pub IsHand : Todos → Type 0
IsHand [] = ⊥
IsHand (Todo.handle deadline mark ∷ todo) = todo ≡ Todo.paid ∷ []
IsHand (q ∷ todo) = IsPaying (q ∷ todo)

-- The thread by which a processor makes the events of time was started, where the image has a boot entry. The list of one with a mark in its hand is
-- that of the mark.
pub record TimerIs (f : Fine) (m : State) (k : ℕ) : Type 0 where
  pub actor : 0 < length f.image.boots → IsTrue (is_started (thread_at m (actor_or f.image (f.processors k).actor)).life)
  pub hand : times (f.processors k).todo ≡ true → IsHand (f.processors k).todo

-- an act, for which a deadline may be armed
abbrev pub is_act : Pending → Bool
is_act (Pending.Work a ask) = true
is_act (Pending.Join who timeout) = true
is_act (Pending.FutexWait a value timeout) = true
is_act q = false

abbrev pub shows_act : Todo → Bool
shows_act (Todo.show q rest) = is_act q
shows_act q = false

-- the deadline that is armed for the step that a call makes next
abbrev pub armed_step : Image → Context → Pending → Option ℕ
armed_step image c q = if is_act q then armed_for image c q else None

abbrev pub armed_next : Image → Context → Steps → Option ℕ
armed_next image c [] = None
armed_next image c (Pending.Inherit who ∷ q ∷ rest) = armed_step image c q
armed_next image c (Pending.Drops from ∷ q ∷ rest) = armed_step image c q
armed_next image c (q ∷ rest) = armed_step image c q

-- Where no act is on its processor's list, no deadline is armed for a thread's next step.
abbrev pub IsUnarmed : Fine → ℕ → Type 0
IsUnarmed f k =
    let p = f.processors k in list_any shows_act p.todo ≡ false → armed_next f.image p.context p.context.pending ≡ None
