-- The word of a cell: which steps it takes, and the word that each leaves. Only the scheduler's cell counts threads.
use Rattle.std.specs.Prelude.{◌≡◌, ◌+◌, ◌-◌, ◌<◌, Bool, true, false, ◌&&◌, nat_lt, IsTrue}
use Rattle.um_base.specs.declared.limits.TheConstants.{THREADS}
use Rattle.um_words.specs.declared.fine.FineAct.{FineAct}
use Rattle.um_words.specs.declared.fine.Unseen.{Unseen}
use Rattle.um_words.specs.declared.cell_word.CellWord.{CellWord}
use Rattle.um_words.specs.declared.kind.CellKind.{CellKind}
use Rattle.um_words.specs.CellActs.{object_takes, parts_takes, memory_takes, heap_takes, clock_takes, join_takes, is_resume}

-- Which steps it takes. The bounds on the ready list and on running threads are those of the word.

abbrev pub has_ready : CellWord → Bool
has_ready w = nat_lt 0 w.ready && nat_lt w.running 255

abbrev pub has_place : CellWord → Bool
has_place w = nat_lt w.ready THREADS

-- by whether the first ready thread can be taken, the ready list has a place, and a processor runs a thread
abbrev pub takes_scheduling : (ready place running : Bool) → Unseen → Bool
takes_scheduling ready place running (Unseen.Next who) = ready
takes_scheduling ready place running (Unseen.Wake who there) = place
takes_scheduling ready place running (Unseen.Park who there) = running && place
takes_scheduling ready place running (Unseen.Add who) = place
takes_scheduling ready place running (Unseen.Cut who there) = place
takes_scheduling ready place running Unseen.Done = running
takes_scheduling ready place running unseen = false

abbrev pub scheduler_takes_unseen : CellWord → Unseen → Bool
scheduler_takes_unseen w Unseen.Owe = nat_lt w.owed 524287
scheduler_takes_unseen w Unseen.Paid = nat_lt 0 w.owed
scheduler_takes_unseen w unseen = takes_scheduling (has_ready w) (has_place w) (nat_lt 0 w.running) unseen

abbrev pub scheduler_takes : CellWord → FineAct → Bool
scheduler_takes w (FineAct.Shown event more) = is_resume event.act && has_ready w
scheduler_takes w (FineAct.Unseen unseen) = scheduler_takes_unseen w unseen

abbrev pub word_takes : CellKind → CellWord → FineAct → Bool
word_takes CellKind.Object w act = object_takes act
word_takes CellKind.Domain w act = parts_takes act
word_takes CellKind.Memory w act = memory_takes act
word_takes CellKind.Heap w act = heap_takes act
word_takes CellKind.Scheduler w act = scheduler_takes w act
word_takes CellKind.Clock w act = clock_takes act
word_takes CellKind.Join w act = join_takes act
word_takes CellKind.Unused w act = false

-- The word that is left, but for its step number.

abbrev pub with_ready : CellWord → Bool → CellWord
with_ready w true = record w { ready = w.ready + 1 }
with_ready w false = w

abbrev pub first_taken : CellWord → CellWord
first_taken w = record w { ready = w.ready - 1; running = w.running + 1 }

abbrev pub one_less : CellWord → CellWord
one_less w = record w { running = w.running - 1 }

abbrev pub scheduler_after_unseen : CellWord → Unseen → CellWord
scheduler_after_unseen w (Unseen.Next who) = first_taken w
scheduler_after_unseen w (Unseen.Wake who ready) = with_ready w ready
scheduler_after_unseen w (Unseen.Park who ready) = one_less (with_ready w ready)
scheduler_after_unseen w (Unseen.Add who) = with_ready w true
scheduler_after_unseen w (Unseen.Cut who ready) = with_ready w ready
scheduler_after_unseen w Unseen.Owe = record w { owed = w.owed + 1 }
scheduler_after_unseen w Unseen.Paid = record w { owed = w.owed - 1 }
scheduler_after_unseen w Unseen.Done = one_less w
scheduler_after_unseen w unseen = w

abbrev pub scheduler_after : CellWord → FineAct → CellWord
scheduler_after w (FineAct.Shown event more) = first_taken w
scheduler_after w (FineAct.Unseen unseen) = scheduler_after_unseen w unseen

abbrev pub word_after : CellKind → CellWord → FineAct → CellWord
word_after CellKind.Scheduler w act = scheduler_after w act
word_after kind w act = w

abbrev pub counted_cell : CellWord → CellWord
counted_cell w = record w { number = w.number + 1 }

-- the step is lawful at a cell with this word, made by the seat with the turn, and leaves that word
pub record CellMay (kind : CellKind) (w : CellWord) (act : FineAct) (z : CellWord) : Type 0 where
  pub free : w.turn ≡ false
  pub room : w.number < 268435455
  pub takes : IsTrue (word_takes kind w act)
  pub leaves : z ≡ counted_cell (word_after kind w act)
