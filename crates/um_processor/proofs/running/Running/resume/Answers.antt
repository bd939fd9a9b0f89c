use Rattle.um_processor.specs.Processors.{ready_of}
use Rattle.um_processor.proofs.Errands.{goes-left}
use Rattle.um_processor.proofs.running.Running.resume.Goals as goal

pub looks_for_sleeper-requires : goal.looks_for_sleeper-requires
looks_for_sleeper-requires g c =
    let r = c.args.self.now in
    record { goes = goes-left c.args.here.now.image.now r.phase (ready_of r) _ _ r c.goes_on.new.self c.goes_on.ensures }
