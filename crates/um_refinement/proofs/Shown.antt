-- A processor's begin of a line, its end of a script and its answer of a call are those steps of the machine, where the relation holds.
use Rattle.um_refinement.proofs.Words.{◌≡◌, ℕ, ◌+◌, Option, Some, None, refl, ap, Act, Reply, Pending, Thread, Steps, State, thread_at, FineStep, Todos, Fine, reply_of}
use Rattle.um_machine.specs.Table as T
use Rattle.um_refinement.proofs.Offered.{IsStep, Shows, act-is, machine-step, own-same}

module _ {f : Fine} {m : State} {k : ℕ} {e : FineStep} {rest : Steps} {todo : Todos} where
  pub begin-step : Shows f m k e Pending.Begin rest todo → IsStep f m k e 0 Pending.Begin
  begin-step h =
      let own = own-same h in
      machine-step h 0 (act-is h) tt (λ i. Act.Begin (own i).place.script ((own i).place.line + 1))

  pub exit-step : Shows f m k e Pending.Exit rest todo → IsStep f m k e 0 Pending.Exit
  exit-step h = machine-step h 0 (act-is h) tt refl

  pub answer-step : (reply : Option Reply) (to : Option ℕ) → Shows f m k e (Pending.Answer reply to) rest todo → IsStep f m k e 0 (Pending.Answer reply to)
  answer-step reply to h = machine-step h 0 (act-is h) tt (ap Act.Answered (replied reply))
    where
      replied : (reply : Option Reply) → reply_of f.image (f.processors k).context reply ≡ T.reply_of (thread_at m (f.processors k).context.thread) reply
      replied None = ap (λ (z : Thread). z.reply) (own-same h)
      replied (Some reply) = refl
