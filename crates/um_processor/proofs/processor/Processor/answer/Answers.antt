use Rattle.std.proofs.Common.{refl}
use Rattle.um_processor.proofs.Lifted.{at-step-with}
use Rattle.um_processor.proofs.processor.Processor.answer.Goals as goal

pub returns : goal.returns
returns g c = record { turn = at-step-with g.S.Sites c.answer.result c.args.here.now c.args.sites.now c.answer.new.sites _ _ c.args.self.now _ _ refl c.requires.clear c.answer.ensures.ends }
