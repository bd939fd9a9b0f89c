use Rattle.std.proofs.Common.{◌≡◌, ◌≤◌, ℕ, arith, subst, sym}
use Rattle.um_base.specs.declared.limits.TheConstants.{STATIC_ROWS}
use Rattle.um_laws.proofs.ObeyLemmas.{obeys}
use Rattle.um_invariants.specs.Described.{IsDescribed}
use Rattle.um_app.proofs.OneProcessor.{in_order, picked}
use Rattle.um_app.proofs.RunsOf.{names_run}
use Rattle.um_app.proofs.threads.thread_run.Goals as goal

pub returns : goal.returns
returns g c =
    let image = c.args.image.now in
    let given : IsDescribed image = record { lawful = c.requires.may.lawful; few = subst (λ (n : ℕ). n ≤ STATIC_ROWS) c.len-objects.ensures.value c.len-objects.ensures.few } in
    let end = c.in_ok-ran.ensures.closes in
    let (steps, board, shows) = c.in_ok-ran.ensures.board in
    let one : (few : c.args.cpus ≤ 1) → 1 ≡ c.args.cpus = λ few. let some = c.requires.may.some in omega (arith, few, some) in
    record {
      last = end.last;
      is_thread_run = record {
        described = given;
        is_run = end.is_run;
        complete = end.complete;
        steps = steps;
        board = board;
        shows = shows;
        in_order = λ few. in_order image c.args.cpus steps _ (one few) board.run (board.alone (sym (one few))) shows (c.one_order.ensures image steps given);
        picked = λ few pick. picked image c.args.cpus steps pick (one few) board.run (board.alone (sym (one few))) board.over (c.one_whole.ensures.picked image pick steps);
        few = c.in_ok-ran.ensures.few;
        laws = obeys image _ end.last given end.is_run;
      };
      readable = end.readable;
      agrees = end.agrees;
      names = names_run image given _ end.last end.is_run;
    }
