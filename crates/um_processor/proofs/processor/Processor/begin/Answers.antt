use Rattle.um_processor.proofs.Lifted.{stepped-ends}
use Rattle.um_processor.proofs.processor.Processor.begin.Goals as goal

pub returns : goal.returns
returns g c =
    record { turn = stepped-ends g.S.Sites c.begin.result c.args.here.now c.args.sites.now c.begin.new.sites _ c.args.self.now c.begin.new.self _ c.requires.clear c.begin.ensures.ends }
