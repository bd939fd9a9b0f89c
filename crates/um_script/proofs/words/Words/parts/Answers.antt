use Rattle.std.proofs.Common.{◌∷◌, [], length, refl, sym, ap, ◌∙◌, arith}
use Rattle.std.proofs.lemmas.List.{length-append}
use Rattle.std.proofs.lemmas.Result.{err_from_is_err_and}
use Rattle.um_script.specs.Cursor.{words_left}
use Rattle.um_script.proofs.PartLoop.{placed_ok, placed_err, next_part, bad_part, last_part, all_parts}
use Rattle.um_script.proofs.words.Words.parts.Goals as goal

pub returns-in_err-placed-in-Some : goal.returns-in_err-placed-in-Some
returns-in_err-placed-in-Some c =
    let p = err_from_is_err_and c.from_residual.result c.from_residual.ensures.1 in
    let f = placed_err c.part.result c.in_err-placed-in-Some.field-0.0 c.in-Some.word.column c.in_err-placed-in-Some.ensures in
    let bad = bad_part c.loop.parts c.loop.counter (words_left c.loop.self) c.in-Some.word.bytes.now c.in-Some.word.column (words_left c.next.new.self) f.0 _ c.loop-test.true c.in-Some.ensures (sym c.part.ensures ∙ f.1) c.loop.invariant.read in
    rw (p.1, p.2, f.2) bad

pub returns-in-None : goal.returns-in-None
returns-in-None c =
    last_part c.loop.parts c.loop.counter (words_left c.loop.self) _ _ c.loop-test.true c.in-None.ensures.0 c.loop.invariant.read ∙ rw c.in-None.ensures.1 refl

pub loop-preserved : goal.loop-preserved
loop-preserved c =
    let is = placed_ok c.part.result c.in_ok-placed-in-Some.field-0 c.in-Some.word.column c.in_ok-placed-in-Some.ensures in
    let next = next_part c.loop.parts c.loop.counter (words_left c.loop.self) c.in-Some.word.bytes.now c.in-Some.word.column (words_left c.next.new.self) c.in_ok-placed-in-Some.field-0 _ c.loop-test.true c.in-Some.ensures (sym c.part.ensures ∙ is) c.loop.invariant.read in
    record {
      read = rw c.push.ensures next;
      count = omega (arith, ap length c.push.ensures, length-append c.loop.parts (c.in_ok-placed-in-Some.field-0 ∷ []), c.loop.invariant.count);
    }

pub returns : goal.returns
returns c = all_parts c.loop.parts c.loop.counter (words_left c.loop.self) _ c.loop-test.false c.loop.invariant.read
