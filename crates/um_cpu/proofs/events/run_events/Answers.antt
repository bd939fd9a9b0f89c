use Rattle.std.proofs.Common.{List, length, arith, sym, ap, ◌∙◌, subst}
use Rattle.std.specs.Prelude.{IsTrue}
use Rattle.um_base.specs.declared.act.Event.{Event}
use Rattle.um_machine.specs.Run.{IsComplete, IsRun}
use Rattle.um_machine.specs.State.{State}
use Rattle.um_merge.specs.Logs.{events_of}
use Rattle.um_refinement.specs.After.{left_by}
use Rattle.um_fine.specs.Sites.{SiteState, is_sort}
use Rattle.um_closing.specs.Agreement.{AgreeInDump}
use Rattle.um_core.proofs.Counts.{can-count}
use Rattle.um_core.proofs.LogRoom.{shown-few}
use Rattle.um_core.proofs.Sorts.{sorts-after}
use Rattle.um_history.proofs.Ordered.{shown-noted}
use Rattle.um_cpu.proofs.Shows.{at-sites, left-on, runs-on}
use Rattle.um_cpu.proofs.events.run_events.Goals as goal

pub merged-steps-requires-clause-sites : goal.merged-steps-requires-clause-sites
merged-steps-requires-clause-sites g c =
    let image = c.args.image.now in
    let is = runs-on image c.args.cpus c.requires.lawful c.len-objects.ensures.value c.len-objects.ensures.few c.len-domains.ensures.value c.len-domains.ensures.few c.requires.some c.requires.few in
    let ended = c.in_ok-logs.ensures in
    let fine = c.every_played_board.ensures.fine image c.args.cpus ended.view _ _ _ ended.steps is.0 is.1 ended.played in
    at-sites image c.args.cpus ended.view _ _ _ ended.steps ended.played fine.0 fine.1

pub merged-steps-requires-clause-fits : goal.merged-steps-requires-clause-fits
merged-steps-requires-clause-fits g c =
    let image = c.args.image.now in
    let is = runs-on image c.args.cpus c.requires.lawful c.len-objects.ensures.value c.len-objects.ensures.few c.len-domains.ensures.value c.len-domains.ensures.few c.requires.some c.requires.few in
    let ended = c.in_ok-logs.ensures in
    let order = c.every_played_board.ensures.order image c.args.cpus ended.view _ _ _ ended.steps is.0 is.1 ended.played in
    let long = order.2 in
    let room = c.in_ok-room.ensures.room in
    let most = c.requires.room in
    (order.0, order.1, omega (arith, long, room, most))

pub returns-clause-run : goal.returns-clause-run
returns-clause-run g c =
    let image = c.args.image.now in
    let is = runs-on image c.args.cpus c.requires.lawful c.len-objects.ensures.value c.len-objects.ensures.few c.len-domains.ensures.value c.len-domains.ensures.few c.requires.some c.requires.few in
    let ended = c.in_ok-logs.ensures in
    let last = c.every_played_board.ensures.complete image c.args.cpus ended.view _ _ _ ended.steps is.0 is.1 ended.played ended.saw c.merged-steps.result.items c.merged-steps.ensures in
    subst (λ (l : List Event). (last : State) × IsRun image l last × IsComplete last) (sym c.into_events.ensures) last

pub returns-clause-board : goal.returns-clause-board
returns-clause-board g c =
    let image = c.args.image.now in
    let is = runs-on image c.args.cpus c.requires.lawful c.len-objects.ensures.value c.len-objects.ensures.few c.len-domains.ensures.value c.len-domains.ensures.few c.requires.some c.requires.few in
    let ended = c.in_ok-logs.ensures in
    let run = c.every_played_board.ensures.run image c.args.cpus ended.view _ _ _ ended.steps is.0 is.1 ended.played c.merged-steps.result.items c.merged-steps.ensures in
    let over = c.every_played_board.ensures.over image c.args.cpus ended.view _ _ _ ended.steps is.0 is.1 ended.played ended.saw run.0 run.2 in
    (run.0, left-on image c.args.cpus _ ended.view _ ended.steps ended.seen ended.played ended.alone run.0 run.2 over run.4, c.into_events.ensures ∙ ap events_of (sym run.1) ∙ shown-noted run.0)

pub returns-clause-closes : goal.returns-clause-closes
returns-clause-closes g c =
    let image = c.args.image.now in
    let is = runs-on image c.args.cpus c.requires.lawful c.len-objects.ensures.value c.len-objects.ensures.few c.len-domains.ensures.value c.len-domains.ensures.few c.requires.some c.requires.few in
    let ended = c.in_ok-logs.ensures in
    let (steps, has, shows) = returns-clause-board g c in
    let most = c.longest_fine_run.ensures image c.args.cpus steps is.0 is.1.few has.run in
    let light = is.0.lawful.light in
    let end = c.every_closing.ensures.complete image c.args.cpus steps is.0 is.1 has.run
    (λ e by takes. has.over e (record { makes = by; takes = takes })) (can-count image steps (omega (arith, most, light)) c.args.cpus) in
    let read = c.every_closing.ensures.same image _ (left_by image c.args.cpus steps).sites is.1.domains has.left in
    record {
      readable = record {
        words = ended.words;
        slots = ended.slots;
        sorted = λ i there. subst (λ (s : SiteState). IsTrue (is_sort i s)) (sym (has.left i there)) (sorts-after image steps i);
      };
      last = end.0;
      is_run = subst (λ (events : List Event). IsRun image events end.0) (sym shows) end.1;
      complete = end.2;
      agrees = subst (λ (s : State). AgreeInDump image s end.0) (sym read) end.3;
    }

pub returns-clause-few : goal.returns-clause-few
returns-clause-few g c =
    let image = c.args.image.now in
    let is = runs-on image c.args.cpus c.requires.lawful c.len-objects.ensures.value c.len-objects.ensures.few c.len-domains.ensures.value c.len-domains.ensures.few c.requires.some c.requires.few in
    let board = returns-clause-board g c in
    let few = shown-few board.0 in
    let most = c.longest_fine_run.ensures image c.args.cpus board.0 is.0 is.1.few board.1.run in
    let same = ap length board.2 in
    omega (arith, few, most, same)

pub returns-clause-laws : goal.returns-clause-laws
returns-clause-laws g c =
    let image = c.args.image.now in
    let is = runs-on image c.args.cpus c.requires.lawful c.len-objects.ensures.value c.len-objects.ensures.few c.len-domains.ensures.value c.len-domains.ensures.few c.requires.some c.requires.few in
    let last = returns-clause-run g c in
    c.every_run.ensures.obeys image _ last.0 is.0 last.1
