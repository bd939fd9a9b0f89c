-- What a processor asks of the memory's cell for a call on a futex: the steps as they are made at a cell with these contents and this step
-- number.
use Rattle.std.specs.Prelude.{ℕ, []}
use Rattle.um_base.specs.declared.act.Act.{Act}
use Rattle.um_base.specs.declared.act.Answer.{Answer}
use Rattle.um_base.specs.declared.ask.Ask.{Ask}
use Rattle.um_base.specs.declared.image.Image.{Image}
use Rattle.um_words.specs.declared.fine.FineAct.{FineAct}
use Rattle.um_words.specs.declared.fine.More.{More}
use Rattle.um_fine.specs.Cells.{Cell}
use Rattle.um_fine.specs.Memory.{Bytes}
use Rattle.um_fine.specs.Steps.{Exchange, FineStep, Site}
use Rattle.um_tables.specs.Asked.{cell_made, shown}
use Rattle.um_tables.specs.Seekers.{seeking}
use Rattle.um_tables.specs.declared.futex_act.FutexWait.{FutexWait}
use Rattle.um_tables.specs.declared.futex_act.FutexWake.{FutexWake}

abbrev pub wait_more : FutexWait → More
wait_more w = More.Waits w.allowed w.timeout

abbrev pub wait_act : FutexWait → FineAct
wait_act w = shown w.seeker.thread (Act.FutexWait w.addr w.value Answer.Wait) (wait_more w)

abbrev pub wait_sent : FutexWait → Exchange
wait_sent w = seeking w.seeker (Ask.FutexWait w.addr)

abbrev pub waited_made : Image → ℕ → ℕ → Bytes → FutexWait → FineStep
waited_made image cpu n m w = cell_made image cpu Site.memory n (Cell.memory m) (wait_act w) (wait_sent w)

abbrev pub wake_more : FutexWake → More
wake_more w = More.Wakes w.allowed w.all

abbrev pub wake_act : FutexWake → FineAct
wake_act w = shown w.thread (Act.FutexWake w.addr Answer.Wait []) (wake_more w)

abbrev pub futex_made : Image → ℕ → ℕ → Bytes → FutexWake → FineStep
futex_made image cpu n m w = cell_made image cpu Site.memory n (Cell.memory m) (wake_act w) Exchange.nothing
