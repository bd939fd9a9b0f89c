use Rattle.um_processor.proofs.Lifted.{stepped-bare}
use Rattle.um_processor.proofs.processor.Processor.check.Goals as goal

pub returns : goal.returns
returns g c = record { turn = stepped-bare g.S.Sites c.check.result c.args.here.now c.args.sites.now c.check.new.sites _ c.args.self.now c.check.new.self c.requires.clear c.check.ensures.turn }
