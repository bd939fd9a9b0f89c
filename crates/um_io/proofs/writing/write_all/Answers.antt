use Rattle.std.proofs.Common.{◌≤◌, ◌<◌, length, ap, ◌∙◌, arith, length-drop}
use Rattle.std.proofs.lemmas.List.{take_rest}
use Rattle.std.proofs.lemmas.Result.{err_from_is_err_and}
use Rattle.um_io.proofs.Fronts.{appends_next, front_next}
use Rattle.um_io.proofs.writing.write_all.Goals as goal

pub returns-in_err-count-clause-front : goal.returns-in_err-count-clause-front
returns-in_err-count-clause-front g c =
    let p = err_from_is_err_and c.from_residual.result c.from_residual.ensures.1 in
    let before = c.loop-done.invariant in
    rw p.1 (front_next _ _ _ c.args.bytes.now c.loop-done.done before.within before.taken c.in_err-count.ensures.bytes)

pub loop-done-preserved : goal.loop-done-preserved
loop-done-preserved g c =
    let before = c.loop-done.invariant in
    let write = c.in_ok-count.ensures in
    let left : length c.args.bytes.now ≤ g.O.Sink.room c.args.sink.now → 0 < g.O.Sink.room c.loop-done.sink =
    λ few. let used = before.room few in omega arith in
    record {
      taken = appends_next _ _ _ c.args.bytes.now c.loop-done.done c.in_ok-count.count before.taken write.bytes;
      later = omega (arith, write.cause.later);
      within =
          let rest = ap length (take_rest c.args.bytes.now c.loop-done.done) in
          omega (arith, write.bound, rest, length-drop c.loop-done.done c.args.bytes.now);
      quiet = λ few. write.room.quiet (left few) ∙ before.quiet few;
      room = λ few. let used = before.room few in let now = write.room.left (left few) in omega arith;
    }
