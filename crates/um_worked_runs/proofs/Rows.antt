-- What a worked run says of the machine: there is a complete run of its image with its events, and the state at its end shows its dump.
use Rattle.std.specs.Prelude.{◌≡◌, true, List}
use Rattle.std.proofs.Common.{ap, subst}
use Rattle.um_base.specs.declared.act.Event.{Event}
use Rattle.um_base.specs.declared.image.Image.{Image}
use Rattle.um_machine.specs.State.{State}
use Rattle.um_machine.specs.Run.{IsRun, IsComplete}
use Rattle.um_worked_runs.specs.Evaluate.{Choice, run_of}
use Rattle.um_worked_runs.specs.Dump.{Dump, dump_of}
use Rattle.um_worked_runs.specs.Whole.{Whole, whole_run}
use Rattle.um_worked_runs.proofs.Sound.{run-of}
use Rattle.um_worked_runs.proofs.Complete.{complete}

pub complete-run : (image : Image) (choices : List Choice) (events : List Event) (dump : Dump) → whole_run image choices ≡ record { events = events; is_lawful = true; is_complete = true; dump = dump } → (s : State) × IsRun image events s × IsComplete s × (dump_of s ≡ dump)
complete-run image choices events dump e =
    let last = (run_of image choices).last in (
      last,
      subst (λ these. IsRun image these last) (ap (λ (w : Whole). w.events) e) (run-of image choices (ap (λ (w : Whole). w.is_lawful) e)),
      complete last (ap (λ (w : Whole). w.is_complete) e),
      ap (λ (w : Whole). w.dump) e,
    )
