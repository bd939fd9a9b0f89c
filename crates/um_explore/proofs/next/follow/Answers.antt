use Rattle.std.proofs.Common.{◌≡◌, ◌∙◌, ℕ, List, ap, arith, length, true}
use Rattle.std.specs.Prelude.{◌==◌}
use Rattle.um_audit.proofs.AlikeLemmas.{tells-none}
use Rattle.um_explore.proofs.NextLemmas.{followed-all, followed-less, followed-more, none-left}
use Rattle.um_explore.proofs.next.follow.Goals as goal

pub returns-in-None-clause-follows : goal.returns-in-None-clause-follows
returns-in-None-clause-follows c =
    followed-less c.args.image.now c.args.text.now c.loop-rest.rest.now c.loop-rest.count c.loop-rest.matrix c.follow_line.new.matrix c.loop-rest.invariant.so_far
    (rw c.in-None.is at c.in_ok-follow_line.ensures.follows)
    (λ none. let full : c.is_empty.result ≡ true = c.is_empty.ensures ∙ ap (λ (l : List ℕ). length l == 0) none in let no = c.loop-rest-test.true in cc)

pub loop-rest-preserved : goal.loop-rest-preserved
loop-rest-preserved c =
    let follows = rw c.in-Some.is at c.in_ok-follow_line.ensures.follows in
    let room = c.loop-rest.invariant.room in
    let so_far = c.loop-rest.invariant.more in
    let few = c.loop-rest.invariant.few in
    let grows = c.in_ok-follow_line.ensures.capacity in
    let some = follows.3 in
    let within = follows.4 in
    record {
      room = omega (arith, room, grows);
      more = omega (arith, so_far, grows);
      few = omega (arith, few, some, within, c.split_at.ensures.back_len);
      so_far = followed-more c.args.image.now c.args.text.now c.loop-rest.rest.now c.split_at.result.1.now c.loop-rest.count c.in-Some.n c.loop-rest.matrix c.follow_line.new.matrix c.loop-rest.invariant.so_far follows c.split_at.ensures.back;
    }

pub returns-clause-follows : goal.returns-clause-follows
returns-clause-follows c =
    followed-all c.args.image.now c.args.text.now c.loop-rest.rest.now c.loop-rest.count c.loop-rest.matrix c.loop-rest.invariant.so_far
    (none-left c.loop-rest.rest.now (tells-none (length c.loop-rest.rest.now) c.is_empty.result c.is_empty.ensures c.loop-rest-test.false))
