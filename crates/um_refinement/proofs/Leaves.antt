-- What a lawful step leaves of the machine's state: all, where no trace shows it, or what the machine makes by the step of its event. That is
-- one of a thread's instruction, a resumed call, a visit that finds a permission, the end of a cleaning, or
-- a step beside the instructions.
use Rattle.um_refinement.proofs.Words.{◌≡◌, ℕ, ◌<◌, [], ◌∷◌, Some, Act, Told, ROWS, Pending, Steps, to_thread, MayChoose, State, FineAct, More, Unseen, address_of, act_in, leftover_in, by_me, Context, ByOneOf, Todo, Todos, Processor, SiteMay, Exchange, FineStep, Fine, Rel}
use Rattle.std.specs.Prelude.{◌+◌, IsTrue}
use Rattle.um_base.specs.declared.names.Row.{Row}
use Rattle.um_base.specs.declared.names.ThreadIx.{ThreadIx}
use Rattle.um_machine.specs.State.{is_started, thread_at}
use Rattle.um_machine.specs.Table as T
use Rattle.um_words.specs.declared.fine.Mark.{Mark}
use Rattle.um_fine.specs.Answers.{now_in, woken_in}
use Rattle.um_fine.specs.Asks.{by_actor}
use Rattle.um_fine.specs.Processor.{actor_or}
use Rattle.um_refinement.specs.Stops.{cell_site}
use Rattle.um_refinement.proofs.Offered.{IsStep, Shows}
use Rattle.um_refinement.proofs.Reachable.{IsSound}
use Rattle.um_refinement.proofs.VisitSteps.{Visits}
use Rattle.um_refinement.proofs.WordsKept.{IsShown}

-- a lawful step of one of the processors, where the relation holds with a state of which this much is known
pub record Lawful (f : Fine) (m : State) (e : FineStep) : Type 0 where
  pub rel : Rel f m
  pub sound : IsSound m
  pub by : ByOneOf f.image f.cpus (f.processors e.cpu) e
  pub taken : SiteMay f.image (f.sites e.site) e

module _ (f : Fine) (m : State) (e : FineStep) where
  abbrev pub maker : Processor
  maker = f.processors e.cpu

  -- the index of its thread
  abbrev pub mine : ℕ
  mine = maker.context.thread

  -- the thread by which it makes events of time
  abbrev pub acting : ℕ
  acting = actor_or f.image maker.actor

  -- A step beside the instructions, by a thread and with the row or the cell that it chooses: a look that finds an aborted thread; a mark in the
  -- hand whose thread waits, or whose timer runs; time that goes on; and an end that is told to those who wait for it.
  pub data Beside : ℕ → ℕ → Pending → Type 0 where
    cuts : (who site before x : ℕ) (todo : Todos) → maker.todo ≡ Todo.look who site before ∷ todo → site ≡ cell_site x → x < ROWS + 2
        → e.act ≡ by_me f.image maker (Act.Cut (to_thread who)) → Beside mine x (Pending.Cut (to_thread who))
    times_out : (deadline site x : ℕ) (who : ThreadIx) (todo : Todos) → maker.todo ≡ Todo.handle deadline (Mark.Thread who site) ∷ todo → site ≡ cell_site x → x < ROWS + 2
        → e.act ≡ by_actor f.image maker (Act.TimedOut who) → Beside acting x (Pending.TimeOut who)
    expires : (deadline : ℕ) (x : Row) (todo : Todos) → maker.todo ≡ Todo.handle deadline (Mark.Timer x) ∷ todo → x.0 < ROWS
        → e.act ≡ by_actor f.image maker (Act.Expire (address_of f.image x.0) (woken_in (act_in e.act))) → Beside acting x.0 Pending.Expire
    ticks : maker.todo ≡ [] → e.act ≡ by_actor f.image maker (Act.Tick (now_in (act_in e.act))) → Beside acting 0 Pending.Tick
    leaves : (todo : Todos) → maker.todo ≡ Todo.leave ∷ todo
        → e.act ≡ by_me f.image maker (Act.Left (to_thread mine) (woken_in (act_in e.act))) → Beside mine 0 Pending.Left

  pub data Leaves : State → Type 0 where
    nothing : (u : Unseen) → e.act ≡ FineAct.Unseen u → Leaves m
    event : (q : Pending) (rest : Steps) (todo : Todos) (x : ℕ) → Shows f m e.cpu e q rest todo → IsShown q → IsStep f m e.cpu e x q → Leaves (T.after m mine x q rest)
    resumes : (c : Context) (told : Told) (rest : Steps) → maker.todo ≡ [] → e.moved ≡ Exchange.thread c (Some told)
        → e.act ≡ FineAct.Shown (record { thread = to_thread c.thread; act = Act.Resume }) More.Nothing → Leaves (T.after m c.thread 0 Pending.Resume rest)
    passes : (who x : ℕ) (rest : Steps) (todo : Todos) → Visits f m e.cpu e x (Todo.pass who x) todo
        → e.act ≡ by_me f.image maker (Act.Inherit (to_thread who) (address_of f.image x)) → Leaves (T.after m mine x (Pending.Inherit (to_thread who)) rest)
    drops : (from x : ℕ) (rest : Steps) (todo : Todos) → Visits f m e.cpu e x (Todo.drop x) todo
        → e.act ≡ by_me f.image maker (Act.DropPair (to_thread mine) (address_of f.image x) (leftover_in (act_in e.act))) → Leaves (T.after m mine x (Pending.Drops from) rest)
    cleans : (who x : ℕ) (rest : Steps) (todo : Todos) → Visits f m e.cpu e x (Todo.clean_pair who x) todo
        → e.act ≡ by_me f.image maker (Act.DropPair (to_thread who) (address_of f.image x) (leftover_in (act_in e.act))) → Leaves (T.after m mine x (Pending.CleanPair (to_thread who)) rest)
    recycles : (x : ℕ) (rest : Steps) (todo : Todos) → maker.todo ≡ Todo.recycle x ∷ todo → x < ROWS
        → e.act ≡ by_me f.image maker (Act.Recycle (address_of f.image x)) → MayChoose m mine x Pending.Recycle → Leaves (T.after m mine x Pending.Recycle rest)
    beside : (t x : ℕ) (q : Pending) → Beside t x q → MayChoose m t x q → IsTrue (is_started (thread_at m t).life)
        → Leaves (T.after m t x q (thread_at m t).pending)

  -- where a thread's own part has the step that is made
  abbrev pub HasStep : (s : State) → Leaves s → Type 0
  HasStep _ (nothing u said) = Unit {0}
  HasStep _ (event q rest todo x h shown is) = Unit {0}
  HasStep _ (resumes c told rest idle moved said) = c.pending ≡ Pending.Resume ∷ rest
  HasStep _ (passes who x rest todo h said) = maker.context.pending ≡ Pending.Inherit (to_thread who) ∷ rest
  HasStep _ (drops from x rest todo h said) = maker.context.pending ≡ Pending.Drops from ∷ rest
  HasStep _ (cleans who x rest todo h said) = Unit {0}
  HasStep _ (recycles x rest todo at l said chosen) = Unit {0}
  HasStep _ (beside t x q how chosen started) = Unit {0}
