use Rattle.std.proofs.Common.{List, ap, arith, length, subst, sym}
use Rattle.std.proofs.lemmas.Result.{IfOk-weaker}
use Rattle.um_base.specs.declared.act.Event.{Event}
use Rattle.um_invariants.specs.Described.{IsDescribed}
use Rattle.um_machine.specs.Run.{IsRun}
use Rattle.um_machine.specs.State.{State}
use Rattle.um_refinement.specs.After.{left_by}
use Rattle.um_refinement.specs.Room.{CanRun}
use Rattle.um_tables.specs.Sited.{state_at}
use Rattle.um_closing.specs.Agreement.{AgreeInDump}
use Rattle.um_core.specs.Ended.{HasEnded, HasStopped}
use Rattle.um_core.proofs.Counts.{can-count}
use Rattle.um_core.proofs.LogRoom.{shown-few}
use Rattle.um_core.proofs.running.run.Goals as goal

pub returns : goal.returns
returns c =
    let image = c.args.image.now in
    let given : IsDescribed image = record { lawful = c.requires.lawful; few = omega (arith, c.len-objects.ensures.value, c.len-objects.ensures.few) } in
    let can : CanRun image c.args.cpus =
    record { domains = omega (arith, c.len-domains.ensures.value, c.len-domains.ensures.few); some = omega (arith, c.requires.some); few = c.requires.few } in
    IfOk-weaker c.picked.result (λ sites. HasStopped image c.args.cpus c.args.pick sites) (λ sites. HasEnded image c.args.cpus c.args.pick sites)
    (λ sites stopped.
    let steps = stopped.steps in
    let fine = c.every_order.ensures.fine image c.args.cpus c.args.pick steps stopped.picked in
    let most = c.longest_fine_run.ensures image c.args.cpus steps given can.few fine in
    let light = given.lawful.light in
    let counts = can-count image steps (omega (arith, most, light)) c.args.cpus in
    let end = c.every_closing.ensures.complete image c.args.cpus steps given can fine (λ e by takes. stopped.picked.over e (record { makes = by; takes = takes })) counts in
    let read = c.every_closing.ensures.same image (state_at sites) (left_by image c.args.cpus steps).sites can.domains stopped.at in
    record {
      steps = steps;
      picked = stopped.picked;
      shows = stopped.shows;
      last = end.0;
      is_run = subst (λ (events : List Event). IsRun image events end.0) (sym stopped.shows) end.1;
      complete = end.2;
      agrees = subst (λ (s : State). AgreeInDump image s end.0) (sym read) end.3;
      few = (let few = shown-few steps in let same = ap length stopped.shows in omega (arith, few, most, same));
    }) c.picked.ensures
