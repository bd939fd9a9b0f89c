use Rattle.um_processor.proofs.Lifted.{stepped-cleans}
use Rattle.um_processor.proofs.processor.Processor.drop_permission.Goals as goal

pub returns : goal.returns
returns g c = record { turn = stepped-cleans g.S.Sites c.drop_permission-turn.result c.args.here.now c.args.sites.now c.drop_permission-turn.new.sites _ c.args.self.now _ _ _ _ _ c.requires.clear c.row-row.ensures c.take_in_if.ensures c.drop_permission-turn.ensures.cleans }
