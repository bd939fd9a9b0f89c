-- The events by which threads are aborted and resumed, behind which a thread may be looked for.
use Rattle.std.proofs.Common.{◌≡◌, ℕ, Bool, true, false, [], ◌∷◌, not, refl, sym, subst, ap, ◌∙◌}
use Rattle.std.specs.Prelude.{◌==◌, ◌&&◌, if◌then◌else◌}
use Rattle.um_base.specs.declared.image.Image.{Image}
use Rattle.um_base.specs.declared.names.ThreadIx.{ThreadIx}
use Rattle.um_machine.specs.Goes.{Change, Next, Way}
use Rattle.um_machine.specs.Order.{to_thread}
use Rattle.um_machine.specs.State.{is_living}
use Rattle.um_machine.specs.declared.pending.Pending.{Pending}
use Rattle.um_words.specs.declared.thread_act.ThreadAct.{ThreadAct}
use Rattle.um_words.specs.declared.thread_word.ThreadWord.{ThreadWord}
use Rattle.um_words.specs.Threads.{flagged}
use Rattle.um_fine.specs.Answers.{thread_in}
use Rattle.um_fine.specs.Continues.{gone_part}
use Rattle.um_fine.specs.Follows.{looks_for}
use Rattle.um_fine.specs.Places.{Todo, Todos}
use Rattle.um_fine.specs.Processor.{Processor}
use Rattle.um_fine.specs.Steps.{FineStep}
use Rattle.um_tables.specs.ThreadActs.{thread_made}
use Rattle.um_processor.specs.declared.phase.Phase.{Phase}
use Rattle.um_processor.specs.declared.running.Running.{Running}
use Rattle.um_processor.specs.Events.{about_to, left_behind, rest_of, todo_after}
use Rattle.um_processor.specs.Processors.{Goes, ready_of}

-- a flag leaves the life as it is
pub flagged-living : (w z : ThreadWord) → z.life ≡ w.life → is_living (flagged w z).life ≡ is_living w.life
flagged-living w z h = by (is_living w.life)
  where
    by : (b : Bool) → is_living (if b then z else w).life ≡ is_living w.life
    by true = ap is_living h
    by false = refl

module _ (image : Image) (cpu : ℕ) (r : Running) (phase : Phase) (w : ThreadWord) (who : ThreadIx) where
  -- the processor that goes on behind the event
  abbrev pub gone : Processor
  gone = left_behind image (todo_after phase [] (ready_of r)) (gone_part image (rest_of r) (Next.on Change.nothing Way.rest) r.context.value) r.context.value.thread r

  abbrev aborts : ℕ → FineStep
  aborts t = thread_made image cpu who.0 w (ThreadAct.Abort (to_thread t) who)

  abbrev resumes : ℕ → FineStep
  resumes t = thread_made image cpu who.0 w (ThreadAct.Continue (to_thread t) who)

  abbrev pub after_abort : ℕ → Bool → ThreadWord → Todos
  after_abort t living word = if living && not (who.0 == t) then looks_for image who.0 word gone.todo else gone.todo

  abbrev pub after_resume : Bool → Todos
  after_resume living = if living then Todo.rouse who.0 ∷ gone.todo else gone.todo

  pub abort-goes : (t : ℕ) (word : ThreadWord) (z : Processor) → t ≡ r.context.value.thread → word ≡ thread_in (aborts t).word
      → z ≡ record gone { todo = after_abort t (is_living word.life) word }
      → Goes cpu image (about_to phase (Pending.Abort who) r) (aborts t) z
  abort-goes t word z thread said left =
      let own = r.context.value.thread in
      let same : word ≡ thread_in (aborts own).word = said ∙ ap (λ (k : ℕ). thread_in (aborts k).word) thread in
      let living : is_living word.life ≡ is_living w.life =
      ap (λ (v : ThreadWord). is_living v.life) same ∙ flagged-living w (record w { aborted = true }) refl in
      let there : z ≡ record gone { todo = after_abort own (is_living w.life) (thread_in (aborts own).word) } =
      left ∙ (λ i. record gone { todo = after_abort (thread i) (living i) (same i) }) in
      subst (λ (q : ℕ × Processor). Goes cpu image (about_to phase (Pending.Abort who) r) (aborts q.0) q.1)
      (λ i. (sym thread i, sym there i))
      (record { asks = record { maker = refl; makes = refl; fit = refl }; next = refl })

  pub resume-goes : (t : ℕ) (word : ThreadWord) (z : Processor) → t ≡ r.context.value.thread → word ≡ thread_in (resumes t).word
      → z ≡ record gone { todo = after_resume (is_living word.life) }
      → Goes cpu image (about_to phase (Pending.Continue who) r) (resumes t) z
  resume-goes t word z thread said left =
      let own = r.context.value.thread in
      let same : word ≡ thread_in (resumes own).word = said ∙ ap (λ (k : ℕ). thread_in (resumes k).word) thread in
      let living : is_living word.life ≡ is_living w.life =
      ap (λ (v : ThreadWord). is_living v.life) same ∙ flagged-living w (record w { suspended = false }) refl in
      let there : z ≡ record gone { todo = after_resume (is_living w.life) } =
      left ∙ ap (λ (b : Bool). record gone { todo = after_resume b }) living in
      subst (λ (q : ℕ × Processor). Goes cpu image (about_to phase (Pending.Continue who) r) (resumes q.0) q.1)
      (λ i. (sym thread i, sym there i))
      (record { asks = record { maker = refl; makes = refl; fit = refl }; next = refl })
