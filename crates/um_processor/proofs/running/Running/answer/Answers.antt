use Rattle.std.proofs.Common.{rules, ◌≡◌, [], drop, ap, ◌∙◌}
use Rattle.um_machine.specs.Goes.{Next}
use Rattle.um_machine.specs.Order.{Steps}
use Rattle.um_fine.specs.Context.{Context}
use Rattle.um_fine.specs.Continues.{gone_part, reply_of}
use Rattle.um_processor.specs.Events.{left_behind, todo_after}
use Rattle.um_processor.specs.Processors.{processor_of, ready_of}
use Rattle.um_processor.proofs.Runs.{runs-left}
use Rattle.um_processor.proofs.Released.{answered-goes}
use Rattle.um_processor.proofs.running.Running.answer.Goals as goal

pub returns : goal.returns
returns g c =
    let h = c.in-Made.ensures.said in
    let image = c.args.here.now.image.now in
    let r = c.args.self.now in
    let thread = c.thread-thread.ensures.value in
    let free : c.deref_mut-2.result.now ≡ record r.context.value { claims = [] } = search rules in
    let left : Context → Steps → Context = λ own rest.
    gone_part image rest (Next.answers c.args.to (reply_of image own c.args.reply)) own in
    let after =
    c.answers.ensures
    ∙ (ap (λ (own : Context). left own (drop c.taken-taken.result own.pending)) free ∙ ap (left r.context.value) c.taken-taken.ensures.rest) in
    let goes =
    answered-goes image c.args.here.now.cpu r c.args.self.now.phase h.0 c.args.reply c.args.to _ c.reply_of-said.result c.gives_claims.new.claims.items (processor_of c.leaves.new.self) thread
    (search rules)
    (search rules)
    (c.leaves.ensures ∙ (λ i. left_behind image (todo_after c.args.self.now.phase [] (ready_of r)) (after i) (c.thread-thread.ensures.value i) r)) in
    let runs = runs-left image _ _ _ r _ c.leaves.ensures in
    record { ends = record { image = c.in-Made.ensures.image; ends = tt; same = tt; runs = runs; turn = (_, h.1, goes) } }
