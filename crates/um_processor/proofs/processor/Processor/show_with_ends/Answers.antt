use Rattle.um_processor.proofs.Lifted.{at-step-with}
use Rattle.um_processor.proofs.processor.Processor.show_with_ends.Goals as goal

pub returns-in-Answer : goal.returns-in-Answer
returns-in-Answer g c = record { turn = at-step-with g.S.Sites c.answer.result c.args.here.now c.args.sites.now c.answer.new.sites _ _ c.args.self.now _ _ c.in-Answer.is c.requires.clear c.answer.ensures.ends }

pub returns-in-Fatal : goal.returns-in-Fatal
returns-in-Fatal g c = record { turn = at-step-with g.S.Sites c.fail.result c.args.here.now c.args.sites.now c.fail.new.sites _ _ c.args.self.now _ _ c.in-Fatal.is c.requires.clear c.fail.ensures.ends }

pub returns-in-ClearInit : goal.returns-in-ClearInit
returns-in-ClearInit g c = record { turn = at-step-with g.S.Sites c.clear_init.result c.args.here.now c.args.sites.now c.clear_init.new.sites _ _ c.args.self.now _ _ c.in-ClearInit.is c.requires.clear c.clear_init.ensures.ends }
