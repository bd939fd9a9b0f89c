use Rattle.um_processor.proofs.Lifted.{stepped-bare}
use Rattle.um_processor.proofs.processor.Processor.load.Goals as goal

pub returns : goal.returns
returns g c = record { turn = stepped-bare g.S.Sites c.load.result c.args.here.now c.args.sites.now c.load.new.sites _ c.args.self.now c.load.new.self c.requires.clear c.load.ensures.turn }
