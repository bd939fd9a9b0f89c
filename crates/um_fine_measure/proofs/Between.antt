-- What goes between a processor and a site by a step, of what they have left.
use Rattle.std.specs.Prelude.{ℕ, ◌+◌, ◌*◌, Bool, false, ◌==◌, if◌then◌else◌, length, Some}
use Rattle.um_base.specs.declared.act.Act.{Act}
use Rattle.um_base.specs.declared.act.Answer.{Answer}
use Rattle.um_base.specs.declared.image.Image.{Image}
use Rattle.um_base.specs.declared.names.ThreadIx.{ThreadIx}
use Rattle.um_words.specs.declared.fine.FineAct.{FineAct}
use Rattle.um_words.specs.declared.fine.Mark.{Mark}
use Rattle.um_words.specs.declared.fine.Unseen.{Unseen}
use Rattle.um_fine.specs.Answers.{context_in, outcome_in}
use Rattle.um_fine.specs.Asks.{begins_cleaning}
use Rattle.um_fine.specs.Steps.{Exchange, FineStep}
use Rattle.um_measure.specs.Measure.{one_if}
use Rattle.um_fine_measure.specs.Measure.{armed_cost, cleaning_cost, mark_cost, parked_cost, put_back_cost, told_cost, waiting_cost}

-- how many join those who wait in a cell
abbrev pub joins : Answer → ℕ
joins Answer.Wait = 1
joins answer = 0

-- whether a thread is the one that is looked for, and the one whose mark this is
abbrev pub is_sought : ThreadIx → Exchange → Bool
is_sought who (Exchange.sought thread (Some before)) = thread.0 == who.0
is_sought who moved = false

abbrev pub is_marked : ThreadIx → Exchange → Bool
is_marked who (Exchange.mark deadline (Mark.Thread thread site)) = thread.0 == who.0
is_marked who moved = false

abbrev pub taken_cost : Image → Exchange → ℕ
taken_cost image (Exchange.thread c told) = parked_cost image c + told_cost told
taken_cost image moved = 0

-- what a step gives its site: the cleaning of a new object, what one that waits needs, a mark, or a thread
abbrev pub given_by_act : Act → Exchange → ℕ
given_by_act (Act.Born a) moved = cleaning_cost
given_by_act (Act.Work a answer woken) moved = waiting_cost * joins answer
given_by_act (Act.Join who answer) moved = waiting_cost * joins answer
given_by_act (Act.FutexWait a value answer) moved = waiting_cost * joins answer
given_by_act (Act.Arm deadline) moved = armed_cost
given_by_act act moved = 0

abbrev pub given_by_unseen : Image → Unseen → Exchange → ℕ
given_by_unseen image (Unseen.Wake who ready) moved = put_back_cost
given_by_unseen image (Unseen.Park who ready) moved = parked_cost image (context_in moved)
given_by_unseen image (Unseen.Add who) moved = parked_cost image (context_in moved)
given_by_unseen image Unseen.Sleep moved = parked_cost image (context_in moved)
given_by_unseen image unseen moved = 0

abbrev pub given_by : Image → FineAct → Exchange → ℕ
given_by image (FineAct.Shown event more) moved = given_by_act event.act moved
given_by image (FineAct.Unseen unseen) moved = given_by_unseen image unseen moved

-- what it takes from there: what the woken and the one who is taken out need, a deadline that has come, a mark, or a thread
abbrev pub taken_by_act : Image → Act → Exchange → ℕ
taken_by_act image Act.Resume moved = taken_cost image moved
taken_by_act image (Act.Work a answer woken) moved = waiting_cost * length (outcome_in moved).woken
taken_by_act image (Act.FutexWake a answer woken) moved = waiting_cost * length woken
taken_by_act image (Act.Left who woken) moved = waiting_cost * length woken
taken_by_act image (Act.Expire a woken) moved = waiting_cost * length woken
taken_by_act image (Act.TimedOut who) moved = waiting_cost * one_if (is_marked who moved)
taken_by_act image (Act.Cut who) moved = waiting_cost * one_if (is_sought who moved)
taken_by_act image (Act.Tick now) moved = 1
taken_by_act image act moved = 0

abbrev pub taken_by_unseen : Image → Unseen → Exchange → ℕ
taken_by_unseen image (Unseen.Next who) moved = taken_cost image moved
taken_by_unseen image (Unseen.Rouse who) moved = parked_cost image (context_in moved)
taken_by_unseen image Unseen.Due moved = mark_cost
taken_by_unseen image unseen moved = 0

abbrev pub taken_by : Image → FineAct → Exchange → ℕ
taken_by image (FineAct.Shown event more) moved = taken_by_act image event.act moved
taken_by image (FineAct.Unseen unseen) moved = taken_by_unseen image unseen moved

-- the cleaning that a step begins
abbrev pub begun_cost : FineStep → ℕ
begun_cost e = if begins_cleaning e then cleaning_cost else 0
