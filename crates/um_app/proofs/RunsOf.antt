-- The run that tables have is that of an image with its options, and its text names it.
use Rattle.std.proofs.Common.{◌≡◌, ◌≤◌, ℕ, List, Option, arith, subst, sym}
use Rattle.um_base.specs.declared.act.Event.{Event}
use Rattle.um_base.specs.declared.image.Image.{Image}
use Rattle.um_command.specs.declared.command.Options.{Options}
use Rattle.um_core.specs.Ended.{HasEnded}
use Rattle.um_core.specs.PickedRun.{IsOver, IsPickedRun}
use Rattle.um_core.proofs.OneRun.{picked-chosen, picked-fine}
use Rattle.um_fine.specs.Erasure.{shown}
use Rattle.um_fine.specs.FineRun.{IsFineRun}
use Rattle.um_fine.specs.Steps.{FineStep}
use Rattle.um_laws.proofs.ObeyLemmas.{obeys}
use Rattle.um_machine.specs.Run.{IsRun}
use Rattle.um_machine.specs.State.{State}
use Rattle.um_invariants.specs.Described.{IsDescribed}
use Rattle.um_invariants.specs.InOrder.{IsInOrder}
use Rattle.um_refinement.specs.Choice.{AreChosen}
use Rattle.um_tables.specs.Sited.{Sited}
use Rattle.um_texts.proofs.RunLemmas.{texts_differ}
use Rattle.um_trace.specs.Text.{text}
use Rattle.um_app.specs.Ended.{IsEnded}
use Rattle.um_app.specs.Top.{NamesRun}
use Rattle.um_app.proofs.OneProcessor.{in_order, picked}

-- the text of a run names it
pub names_run : (image : Image) → IsDescribed image → (run : List Event) (last : State) → IsRun image run last → NamesRun image (text image run last) run
names_run image given run last is_run = λ other last2 is same. sym (texts_differ image given.lawful given.few run other last last2 is_run is same)

-- The laws of one processor.
module _ (image : Image) (options : Options) (some : 1 ≤ options.cpus) (given : IsDescribed image)
    (order : (steps : List FineStep) → IsFineRun image 1 steps → AreChosen image 1 steps → IsInOrder image (shown steps))
    (any : (pick : Option ℕ) (steps : List FineStep) → IsFineRun image 1 steps → AreChosen image 1 steps → IsOver image 1 steps → IsPickedRun image 1 pick steps) where
  pub ended : (sites : Sited) → HasEnded image options.cpus options.pick sites → IsEnded image options sites
  ended sites end =
      let fine = picked-fine image options.cpus options.pick end.steps end.picked in
      let one : options.cpus ≤ 1 → 1 ≡ options.cpus = λ few. omega (arith, few, some) in
      let chosen : options.cpus ≤ 1 → AreChosen image 1 end.steps =
      λ few. subst (λ (n : ℕ). AreChosen image n end.steps) (sym (one few)) (picked-chosen image options.cpus options.pick end.steps end.picked) in
      record {
        last = end.last;
        is_run_of = record {
          described = given;
          is_run = end.is_run;
          complete = end.complete;
          ordered = record {
            steps = end.steps;
            picked = end.picked;
            shows = end.shows;
            in_order = λ few. in_order image options.cpus end.steps sites.log (one few) fine (chosen few) end.shows (order end.steps);
            any = λ few pick. picked image options.cpus end.steps pick (one few) fine (chosen few) end.picked.over (any pick end.steps);
          };
          few = end.few;
          laws = obeys image sites.log end.last given end.is_run;
        };
        agrees = end.agrees;
        names = names_run image given sites.log end.last end.is_run;
      }
