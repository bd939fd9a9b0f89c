use Rattle.um_processor.proofs.Lifted.{stepped-cleans}
use Rattle.um_processor.proofs.processor.Processor.take_away.Goals as goal

pub returns : goal.returns
returns g c = record { turn = stepped-cleans g.S.Sites c.take_away-turn.result c.args.here.now c.args.sites.now c.take_away-turn.new.sites _ c.args.self.now _ _ _ _ _ c.requires.clear c.row_named-row.ensures.value c.take_in_if.ensures c.take_away-turn.ensures.cleans }
