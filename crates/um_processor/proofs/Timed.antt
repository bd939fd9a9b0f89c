-- A processor without a thread tends to time: it takes a mark that is due, or lets time go on.
use Rattle.std.proofs.Common.{◌≡◌, ℕ, true, refl, sym, subst, ap}
use Rattle.std.specs.Prelude.{Some}
use Rattle.std.proofs.lemmas.Bool.{false≢true}
use Rattle.um_base.specs.declared.image.Image.{Image}
use Rattle.um_machine.specs.Order.{to_thread}
use Rattle.um_words.specs.declared.fine.Mark.{Mark}
use Rattle.um_fine.specs.Clock.{Clock}
use Rattle.um_fine.specs.Follows.{after_take}
use Rattle.um_fine.specs.Processor.{actor_or}
use Rattle.um_fine.specs.Steps.{Exchange}
use Rattle.um_tables.specs.ClockActs.{given_made, ticked_made}
use Rattle.um_processor.specs.declared.phase.Phase.{Phase}
use Rattle.um_processor.specs.declared.running.Running.{Running}
use Rattle.um_processor.specs.Phases.{is_idle}
use Rattle.um_processor.specs.Processors.{Goes, in_phase, processor_of}

module _ (image : Image) (cpu : ℕ) (r : Running) (n : ℕ) (c : Clock) where
  pub give-goes : (deadline : ℕ) (mark : Mark) → (given_made image cpu n c).moved ≡ Exchange.mark deadline mark
      → Goes cpu image (in_phase Phase.Idle r) (given_made image cpu n c) (in_phase Phase.Handle (record r { deadline = deadline; mark = mark }))
  give-goes deadline mark h =
      record {
        asks = record { maker = refl; makes = refl; fit = refl };
        next = ap (λ (moved : Exchange). after_take image (in_phase Phase.Idle r) moved) (sym h);
      }

  ticked-in : (phase : Phase) → is_idle phase ≡ true
      → let t = actor_or image r.actor in Goes cpu image (in_phase Phase.Idle r) (ticked_made image cpu n c (to_thread t)) (in_phase phase (record r { actor = Some t }))
  ticked-in Phase.Idle h = record { asks = record { maker = refl; makes = refl; fit = refl }; next = refl }
  ticked-in phase h = absurd (false≢true h)

  pub tick-goes : (t : ℕ) → t ≡ actor_or image r.actor → is_idle r.phase ≡ true
      → Goes cpu image (in_phase Phase.Idle r) (ticked_made image cpu n c (to_thread t)) (processor_of (record r { actor = Some t }))
  tick-goes t thread idle =
      subst (λ (k : ℕ). Goes cpu image (in_phase Phase.Idle r) (ticked_made image cpu n c (to_thread k)) (processor_of (record r { actor = Some k })))
      (sym thread)
      (ticked-in r.phase idle)
