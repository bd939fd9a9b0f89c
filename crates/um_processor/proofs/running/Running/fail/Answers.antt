use Rattle.std.proofs.Common.{rules, ◌≡◌, [], ap, ◌∙◌}
use Rattle.um_machine.specs.Order.{fatal_steps}
use Rattle.um_fine.specs.Context.{Context, as_thread}
use Rattle.um_fine.specs.Continues.{ends_with}
use Rattle.um_processor.specs.Events.{left_behind, todo_after}
use Rattle.um_processor.specs.Processors.{processor_of, ready_of}
use Rattle.um_processor.proofs.Runs.{runs-left}
use Rattle.um_processor.proofs.Released.{failed-goes}
use Rattle.um_processor.proofs.running.Running.fail.Goals as goal

pub returns : goal.returns
returns g c =
    let h = c.in-Made.ensures.said in
    let image = c.args.here.now.image.now in
    let r = c.args.self.now in
    let free : c.deref_mut-2.result.now ≡ record r.context.value { claims = [] } = search rules in
    let after = c.fails.ensures ∙ ap (λ (own : Context). ends_with image own (fatal_steps image own.thread (as_thread own) c.args.reason image.policy)) free in
    let goes =
    failed-goes image c.args.here.now.cpu r c.args.self.now.phase h.0 c.args.reason c.args.cause _ c.gives_claims.new.claims.items (processor_of c.leaves.new.self) c.thread-thread.ensures.value
    (search rules)
    (c.leaves.ensures ∙ (λ i. left_behind image (todo_after c.args.self.now.phase [] (ready_of r)) (after i) (c.thread-thread.ensures.value i) r)) in
    let runs = runs-left image _ _ _ r _ c.leaves.ensures in
    record { ends = record { image = c.in-Made.ensures.image; ends = tt; same = tt; runs = runs; turn = (_, h.1, goes) } }
