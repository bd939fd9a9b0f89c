use Rattle.std.proofs.Common.{◌<◌, ℕ, length, slice_set, subst, sym}
use Rattle.std.proofs.lemmas.List.{length-map}
use Rattle.um_processor.specs.Idles.{is_turn}
use Rattle.um_processor.specs.Standing.{whole}
use Rattle.um_core.specs.CoreSteps.{HasTurned}
use Rattle.um_core.specs.Cores.{Core}
use Rattle.um_core.proofs.CoreTurns.{core_of, has-turned}
use Rattle.um_core.proofs.processors.Core.turn.Goals as goal

pub returns-clause-turn : goal.returns-clause-turn
returns-clause-turn c =
    let kept = c.self.inside.processors.items in
    let few : c.args.cpu < length kept =
    subst (λ (n : ℕ). c.args.cpu < n) (length-map kept whole) (subst (λ (core : Core). c.args.cpu < length core.processors) (sym c.self.view_is) c.requires.cpu) in
    subst (λ (core : Core). HasTurned is_turn c.step.result c.args.image.now c.args.cpu core (core_of c.step.new.sites (slice_set kept c.args.cpu c.step.new.self))) c.self.view_is
    (has-turned c.args.image.now c.args.cpu kept c.self.inside.sites c.step.new.sites c.index_mut-processor.result.now c.step.new.self few c.index_mut-processor.ensures.value
    c.step.result c.step.ensures.turn c.step.ensures.takes c.step.ensures.same)
