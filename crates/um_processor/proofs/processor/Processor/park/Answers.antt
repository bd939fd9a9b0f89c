use Rattle.um_processor.proofs.Lifted.{stepped-bare}
use Rattle.um_processor.proofs.processor.Processor.park.Goals as goal

pub returns : goal.returns
returns g c = record { turn = stepped-bare g.S.Sites c.park.result c.args.here.now c.args.sites.now c.park.new.sites _ c.args.self.now c.park.new.self c.requires.clear c.park.ensures.turn }
