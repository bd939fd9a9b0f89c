use Rattle.std.proofs.Common.{ap, drop, ◌∙◌}
use Rattle.um_fine.specs.Answers.{is_tick}
use Rattle.um_fine.specs.Processor.{Processor}
use Rattle.um_fine.specs.Steps.{Site}
use Rattle.um_tables.specs.declared.here.Here.{Here}
use Rattle.um_processor.specs.declared.phase.Turn.TheVariants as Turn
use Rattle.um_processor.specs.Processors.{processor_of}
use Rattle.um_processor.specs.Standing.{standing}
use Rattle.um_processor.proofs.Lifted.{bare}
use Rattle.um_processor.proofs.Idled.{idle-known, idled, tends-may}
use Rattle.um_processor.proofs.processor.Processor.tick.Goals as goal

pub tick-requires-clause-idle : goal.tick-requires-clause-idle
tick-requires-clause-idle g c = idle-known c.args.self.now c.requires.idle

pub tick-requires-clause-goes : goal.tick-requires-clause-goes
tick-requires-clause-goes g c = (c.requires.sites, tends-may g.S.Sites c.args.cpu c.args.image.now c.args.sites.now c.args.self.now c.requires.idle c.requires.goes)

pub returns : goal.returns
returns g c =
    let clear = c.clears.ensures.clear in
    let new = bare _ _ _ _ clear.cleans clear.ends clear.woken ∙ ap processor_of c.clears.ensures.running in
    let h = c.in-Made.ensures.turn in
    let here : Here = record { image = c.args.image; cpu = c.args.cpu } in
    record { image = h.0; same = tt; turn = idled g.S.Sites Site.clock is_tick Turn.Made here c.args.sites.now c.tick.new.sites c.args.self.now c.tick.new.self _ c.requires.idle h new }

pub returns-in-Busy : goal.returns-in-Busy
returns-in-Busy g c =
    let k = c.args.self.now in
    let here : Here = record { image = c.args.image; cpu = c.args.cpu } in
    let left : Processor → Processor = standing k.cleans k.ends.items (drop k.told k.outcome.woken) in
    let h = c.in-Busy.ensures.turn in
    let same = ap left h.1 in
    record { image = h.0; same = same; turn = idled g.S.Sites Site.clock is_tick Turn.Busy here c.args.sites.now c.tick.new.sites k c.tick.new.self (left (processor_of c.tick.new.self)) c.requires.idle h tt }

pub returns-in-Changed : goal.returns-in-Changed
returns-in-Changed g c =
    let k = c.args.self.now in
    let here : Here = record { image = c.args.image; cpu = c.args.cpu } in
    let left : Processor → Processor = standing k.cleans k.ends.items (drop k.told k.outcome.woken) in
    let h = c.in-Changed.ensures.turn in
    let same = ap left h.1 in
    record { image = h.0; same = same; turn = idled g.S.Sites Site.clock is_tick Turn.Changed here c.args.sites.now c.tick.new.sites k c.tick.new.self (left (processor_of c.tick.new.self)) c.requires.idle h tt }

pub returns-in-Stuck : goal.returns-in-Stuck
returns-in-Stuck g c =
    let k = c.args.self.now in
    let here : Here = record { image = c.args.image; cpu = c.args.cpu } in
    let left : Processor → Processor = standing k.cleans k.ends.items (drop k.told k.outcome.woken) in
    let h = c.in-Stuck.ensures.turn in
    let same = ap left h.1 in
    record { image = h.0; same = same; turn = idled g.S.Sites Site.clock is_tick Turn.Stuck here c.args.sites.now c.tick.new.sites k c.tick.new.self (left (processor_of c.tick.new.self)) c.requires.idle h tt }
