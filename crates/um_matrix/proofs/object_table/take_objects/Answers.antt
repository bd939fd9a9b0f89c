use Rattle.std.proofs.Common.{arith, ◌≡◌, ◌≤◌, ◌+◌, ◌-◌, ◌∙◌, ap, length, length-append, replicate}
use Rattle.std.proofs.lemmas.List.{length-replicate}
use Rattle.um_machine.specs.State.{vacant}
use Rattle.um_matrix.proofs.TableLemmas.{same_padded, same_read}
use Rattle.um_matrix.proofs.object_table.take_objects.Goals as goal

pub returns : goal.returns
returns c =
    let own = c.loop-x.own.items in
    let other = c.args.other.now in
    let before = c.args.own.now.items in
    let missing = length other - length before in
    let long = c.loop-x.invariant.long in
    let filled : length c.fill.new.rows.items ≡ length before + missing =
    ap length c.fill.ensures.items ∙ (length-append before (replicate missing vacant) ∙ ap (λ n. length before + n) (length-replicate missing vacant)) in
    let end : length own ≤ c.loop-x.x = omega (arith, c.loop-x-test.false, c.len-x-end.ensures, filled, long) in
    record {
      items = λ n few fewer.
          let all : length own ≤ n = omega (arith, long, few, fewer) in
          (all, same_padded n own other all fewer (same_read c.loop-x.x own other end (omega (arith, end, long)) c.loop-x.invariant.same));
      room = c.loop-x.invariant.room;
    }
