use Rattle.std.proofs.Common.{ap, drop, ◌∙◌}
use Rattle.um_fine.specs.Processor.{Processor}
use Rattle.um_fine.specs.Steps.{Site}
use Rattle.um_processor.specs.declared.phase.Turn.TheVariants as Turn
use Rattle.um_processor.specs.Idles.{is_turn}
use Rattle.um_processor.specs.Processors.{processor_of}
use Rattle.um_processor.specs.Standing.{standing}
use Rattle.um_processor.proofs.Lifted.{bare}
use Rattle.um_processor.proofs.Idled.{idled, tends-may}
use Rattle.um_processor.proofs.processor.Processor.take.Goals as goal

pub take-requires : goal.take-requires
take-requires g c =
    let may = c.requires.goes in
    record { goes = (may.0, tends-may g.S.Sites c.args.here.now.cpu c.args.here.now.image.now c.args.sites.now c.args.self.now c.requires.idle may.1) }

pub returns : goal.returns
returns g c =
    let clear = c.clears.ensures.clear in
    let new = bare _ _ _ _ clear.cleans clear.ends clear.woken ∙ ap processor_of c.clears.ensures.running in
    let h = c.in-Made.ensures.turn in
    record { turn = (h.0, tt, idled g.S.Sites Site.scheduler is_turn Turn.Made c.args.here.now c.args.sites.now c.take.new.sites c.args.self.now c.take.new.self _ c.requires.idle h new) }

pub returns-in-Busy : goal.returns-in-Busy
returns-in-Busy g c =
    let k = c.args.self.now in
    let left : Processor → Processor = standing k.cleans k.ends.items (drop k.told k.outcome.woken) in
    let h = c.in-Busy.ensures.turn in
    record { turn = (h.0, ap left h.1, idled g.S.Sites Site.scheduler is_turn Turn.Busy c.args.here.now c.args.sites.now c.take.new.sites k c.take.new.self (left (processor_of c.take.new.self)) c.requires.idle h tt) }

pub returns-in-Changed : goal.returns-in-Changed
returns-in-Changed g c =
    let k = c.args.self.now in
    let left : Processor → Processor = standing k.cleans k.ends.items (drop k.told k.outcome.woken) in
    let h = c.in-Changed.ensures.turn in
    record { turn = (h.0, ap left h.1, idled g.S.Sites Site.scheduler is_turn Turn.Changed c.args.here.now c.args.sites.now c.take.new.sites k c.take.new.self (left (processor_of c.take.new.self)) c.requires.idle h tt) }

pub returns-in-Stuck : goal.returns-in-Stuck
returns-in-Stuck g c =
    let k = c.args.self.now in
    let left : Processor → Processor = standing k.cleans k.ends.items (drop k.told k.outcome.woken) in
    let h = c.in-Stuck.ensures.turn in
    record { turn = (h.0, ap left h.1, idled g.S.Sites Site.scheduler is_turn Turn.Stuck c.args.here.now c.args.sites.now c.take.new.sites k c.take.new.self (left (processor_of c.take.new.self)) c.requires.idle h tt) }
