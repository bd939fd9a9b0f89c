-- Events by which the claims of a call come to their end.
use Rattle.std.proofs.Common.{◌≡◌, ℕ, List, refl, sym, subst}
use Rattle.std.specs.Prelude.{Option}
use Rattle.um_base.specs.declared.act.Cause.{Cause}
use Rattle.um_base.specs.declared.image.Image.{Image}
use Rattle.um_base.specs.declared.names.Reply.{Reply}
use Rattle.um_machine.specs.declared.pending.Pending.{Pending}
use Rattle.um_machine.specs.Goes.{Next}
use Rattle.um_machine.specs.Order.{fatal_steps, to_thread}
use Rattle.um_words.specs.declared.thread_word.ThreadWord.{ThreadWord}
use Rattle.um_fine.specs.Context.{Context, as_thread}
use Rattle.um_fine.specs.Continues.{ends_with, gone_part, reply_of}
use Rattle.um_fine.specs.Processor.{Processor}
use Rattle.um_processor.specs.declared.phase.Phase.{Phase}
use Rattle.um_processor.specs.declared.running.Running.{Running}
use Rattle.um_words.specs.declared.thread_act.ThreadAct.{ThreadAct}
use Rattle.um_processor.specs.Events.{about_to, behind_event, rest_of, with_ends}
use Rattle.um_processor.specs.Processors.{Goes}
use Rattle.um_tables.specs.ThreadActs.{thread_made}

module _ (image : Image) (cpu : ℕ) (r : Running) (phase : Phase) (w : ThreadWord) where
  abbrev own : Context
  own = r.context.value

  pub failed-goes : (reason : ℕ) (cause : Cause) (t : ℕ) (ends : List ℕ) (z : Processor) → t ≡ own.thread → ends ≡ own.claims
      → z ≡ behind_event image phase (ends_with image own (fatal_steps image own.thread (as_thread own) reason image.policy)) r
      → Goes cpu image (about_to phase (Pending.Fatal reason cause) r) (thread_made image cpu t w (ThreadAct.Fatal (to_thread t) reason cause)) (with_ends ends z)
  failed-goes reason cause t ends z et ec ez =
      subst (λ (q : ℕ × List ℕ × Processor). Goes cpu image (about_to phase (Pending.Fatal reason cause) r) (thread_made image cpu q.0 w (ThreadAct.Fatal (to_thread q.0) reason cause)) (with_ends q.1 q.2))
      (λ i. (sym et i, sym ec i, sym ez i))
      (record { asks = record { maker = refl; makes = refl; fit = refl }; next = refl })

  -- a thread after its answer
  abbrev pub answered : Option Reply → Option ℕ → Context
  answered reply to =
      gone_part image (rest_of r) (Next.answers to (reply_of image own reply)) own

  pub answered-goes : (reply : Option Reply) (to : Option ℕ) (t : ℕ) (said : Reply) (ends : List ℕ) (z : Processor)
      → t ≡ own.thread → said ≡ reply_of image own reply → ends ≡ own.claims → z ≡ behind_event image phase (answered reply to) r
      → Goes cpu image (about_to phase (Pending.Answer reply to) r) (thread_made image cpu t w (ThreadAct.Answered (to_thread t) said)) (with_ends ends z)
  answered-goes reply to t said ends z et es ec ez =
      subst (λ (q : ℕ × Reply × List ℕ × Processor). Goes cpu image (about_to phase (Pending.Answer reply to) r) (thread_made image cpu q.0 w (ThreadAct.Answered (to_thread q.0) q.1)) (with_ends q.2 q.3))
      (λ i. (sym et i, sym es i, sym ec i, sym ez i))
      (record { asks = record { maker = refl; makes = refl; fit = refl }; next = refl })
