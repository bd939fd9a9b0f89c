use Rattle.std.proofs.Common.{◌*◌, take, take_all, get_or, refl, sym, ◌∙◌, arith}
use Rattle.std.proofs.lemmas.List.{take_more}
use Rattle.um_machine.specs.Domains.{no_part}
use Rattle.um_trace.specs.Dump.{part_of}
use Rattle.um_trace.proofs.ListLemmas.{puts_next, is_none_more, puts_listed, puts_dash}
use Rattle.um_trace.proofs.dump.domains.put_parts.Goals as goal

pub loop-part-preserved : goal.loop-part-preserved
loop-part-preserved c =
    let parts = c.args.parts.now in
    let i = c.loop-part.part-index in
    let more = take_more parts i no_part c.loop-part-test.true in
    let before = c.loop-part.invariant in
    record {
      text = rw more (puts_next part_of (take i parts) (get_or parts i no_part) c.loop-part.first (34 * i) 34 _ _ _ _ before.text before.first c.put_next.ensures (omega arith));
      first = rw (more, is_none_more (take i parts) (get_or parts i no_part)) refl;
    }

pub returns-else-first : goal.returns-else-first
returns-else-first c =
    let all = take_all c.loop-part.part-index c.args.parts.now c.loop-part-test.false in
    let before = c.loop-part.invariant in
    puts_listed part_of c.args.parts.now (34 * c.loop-part.part-index) 600 _ _ (rw all at before.text) (sym (rw all at before.first) ∙ c.if-first.false) (omega arith)

pub returns-then-first : goal.returns-then-first
returns-then-first c =
    let all = take_all c.loop-part.part-index c.args.parts.now c.loop-part-test.false in
    let before = c.loop-part.invariant in
    puts_dash part_of c.args.parts.now (34 * c.loop-part.part-index) 1 600 _ _ _ (rw all at before.text) (sym (rw all at before.first) ∙ c.if-first.true) c.put_text.ensures (omega arith)
