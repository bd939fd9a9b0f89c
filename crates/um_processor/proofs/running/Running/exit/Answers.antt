use Rattle.std.proofs.Common.{rules, ◌≡◌, [], ap, sym, ◌∙◌}
use Rattle.um_machine.specs.Order.{end_steps}
use Rattle.um_fine.specs.Context.{Context, as_thread}
use Rattle.um_fine.specs.Continues.{ends_with}
use Rattle.um_fine.specs.Processor.{Processor}
use Rattle.um_processor.specs.declared.running.Running.{Running}
use Rattle.um_processor.specs.Events.{left_behind}
use Rattle.um_processor.specs.Processors.{processor_of}
use Rattle.um_processor.proofs.Begun.{exit-ended, stays}
use Rattle.um_processor.proofs.Runs.{runs-next}
use Rattle.um_processor.proofs.running.Running.exit.Goals as goal

pub returns-clause-runs : goal.returns-clause-runs
returns-clause-runs g c = runs-next c.args.here.now.image.now c.exits.new.self _ (ap (λ (p : Processor). p.todo) c.expands.ensures)

pub returns-clause-turn : goal.returns-clause-turn
returns-clause-turn g c =
    let h = c.in-Made.ensures.said in
    let image = c.args.here.now.image.now in
    let r = c.args.self.now in
    let q = c.rests.new.self in
    let t = c.thread-thread.result.0 in
    let ended : Context → Context = λ own. ends_with image own (end_steps image own.thread (as_thread own)) in
    let still = sym c.rests.ensures.rests ∙ c.if-rests.false in
    let same : q ≡ r = c.rests.ensures.left ∙ stays c.in-Made.said r still in
    let free : c.deref_mut-2.result.now ≡ record q.context.value { claims = [] } = search rules in
    let claims : c.gives_claims.new.claims.items ≡ q.context.value.claims = search rules in
    let after : c.exits.new.self ≡ ended q.context.value = c.exits.ensures ∙ ap ended free in
    let left =
    c.expands.ensures
    ∙ (λ i. left_behind image [] (after i) t q)
    ∙ ap (λ (k : Running). left_behind image [] (ended k.context.value) t k) same in
    let goes =
    exit-ended image c.args.here.now.cpu r h.0 t c.in-Made.said c.thread-thread.ensures.value h.2 c.gives_claims.new.claims.items (processor_of c.expands.new.self) still
    (claims ∙ ap (λ (k : Running). k.context.value.claims) same)
    left in
    (_, h.1, goes)
