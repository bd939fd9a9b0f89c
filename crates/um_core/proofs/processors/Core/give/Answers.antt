use Rattle.std.proofs.Common.{◌<◌, ℕ, length, slice_set, subst, sym}
use Rattle.std.proofs.lemmas.List.{length-map}
use Rattle.um_fine.specs.Answers.{is_due_act}
use Rattle.um_fine.specs.Steps.{Site}
use Rattle.um_processor.specs.Standing.{whole}
use Rattle.um_core.specs.CoreSteps.{HasTurned}
use Rattle.um_core.specs.Cores.{Core}
use Rattle.um_core.proofs.CoreTurns.{core_of, idle-turned}
use Rattle.um_core.proofs.processors.Core.give.Goals as goal

pub returns-clause-turn : goal.returns-clause-turn
returns-clause-turn c =
    let kept = c.self.inside.processors.items in
    let few : c.args.cpu < length kept =
    subst (λ (n : ℕ). c.args.cpu < n) (length-map kept whole) (subst (λ (core : Core). c.args.cpu < length core.processors) (sym c.self.view_is) c.requires.cpu) in
    subst (λ (core : Core). HasTurned is_due_act c.give.result c.args.image.now c.args.cpu core (core_of c.give.new.sites (slice_set kept c.args.cpu c.give.new.self))) c.self.view_is
    (idle-turned c.args.image.now c.args.cpu kept c.self.inside.sites c.give.new.sites c.index_mut-processor.result.now c.give.new.self few c.index_mut-processor.ensures.value
    Site.clock is_due_act c.give.result c.give.ensures.turn c.give.ensures.same)
