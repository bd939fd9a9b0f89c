-- A thread's word notes the cell in which its call may wait.
use Rattle.std.proofs.Common.{◌≡◌, ℕ, true, refl, sym, subst, ap, ◌∙◌}
use Rattle.std.specs.Prelude.{Some}
use Rattle.std.specs.Box.{with_value}
use Rattle.um_base.specs.declared.image.Image.{Image}
use Rattle.um_machine.specs.declared.pending.Pending.{Pending}
use Rattle.um_machine.specs.Order.{Steps}
use Rattle.um_words.specs.declared.thread_act.ThreadAct.{ThreadAct}
use Rattle.um_words.specs.declared.thread_word.ThreadWord.{ThreadWord}
use Rattle.um_fine.specs.Answers.{thread_in}
use Rattle.um_fine.specs.Context.{Context}
use Rattle.um_fine.specs.Places.{Todos}
use Rattle.um_fine.specs.Processor.{Processor}
use Rattle.um_fine.specs.Steps.{FineStep}
use Rattle.um_tables.specs.Contexts.{steps_behind}
use Rattle.um_tables.specs.ThreadActs.{thread_made}
use Rattle.um_processor.specs.declared.phase.Phase.{Phase}
use Rattle.um_processor.specs.declared.running.Running.{Running}
use Rattle.um_processor.specs.Phases.{first_of, is_own, noted_phase}
use Rattle.um_processor.specs.Processors.{Goes, Ready, acting_by, in_phase, processor_of, ready_of, todo_in, with_todo}
use Rattle.um_processor.proofs.Phased.{own-is}

-- behind the note stands the act
acting-is : (p : Pending) (steps : Steps) (k : Ready) → todo_in (noted_phase p) steps k ≡ acting_by p steps k
acting-is (Pending.Arm ticks) steps k = refl
acting-is (Pending.FutexWait a value timeout) steps k = refl
acting-is p steps k = refl

noted-own : (p : Pending) → is_own (noted_phase p) ≡ true
noted-own (Pending.Arm ticks) = refl
noted-own (Pending.FutexWait a value timeout) = refl
noted-own p = refl

module _ (image : Image) (cpu : ℕ) (r : Running) (w : ThreadWord) where
  abbrev own : Context
  own = r.context.value

  abbrev notes : ℕ → FineStep
  notes t = thread_made image cpu t w (ThreadAct.Note r.cell)

  -- with this own part
  abbrev pub noting : Context → Running
  noting c = record r { context = with_value r.context c; phase = noted_phase (first_of (steps_behind r.visited c.pending)) }

  abbrev numbered : ℕ → Context
  numbered n = record own { noted = Some n }

  -- what comes behind the note
  left-noted : (n : ℕ) → let steps = steps_behind r.visited own.pending in
      processor_of (noting (numbered n)) ≡ record (in_phase Phase.Note r) { context = numbered n; todo = acting_by (first_of steps) steps (ready_of r) }
  left-noted n =
      let steps = steps_behind r.visited own.pending in
      let z = noting (numbered n) in
      own-is (noted_phase (first_of steps)) z (noted-own (first_of steps))
      ∙ ap (λ (todo : Todos). with_todo z todo) (acting-is (first_of steps) steps (ready_of r))

  pub note-goes : (t : ℕ) (word : ThreadWord) (c : Context) → t ≡ own.thread → word ≡ thread_in (notes t).word → c ≡ numbered word.number
      → Goes cpu image (in_phase Phase.Note r) (notes t) (processor_of (noting c))
  note-goes t word c thread said left =
      let n = (thread_in (notes own.thread).word).number in
      let number : word.number ≡ n = ap (λ (v : ThreadWord). v.number) (said ∙ ap (λ (k : ℕ). thread_in (notes k).word) thread) in
      let behind = ap (λ (x : Context). processor_of (noting x)) (left ∙ ap numbered number) ∙ left-noted n in
      subst (λ (q : FineStep × Processor). Goes cpu image (in_phase Phase.Note r) q.0 q.1)
      (λ i. (notes (sym thread i), sym behind i))
      (record { asks = record { maker = refl; makes = refl; fit = refl }; next = refl })
