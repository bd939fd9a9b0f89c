use Rattle.um_processor.proofs.Lifted.{at-none, at-step, stepped-from}
use Rattle.um_processor.proofs.processor.Processor.show_any.Goals as goal

pub returns-in-None : goal.returns-in-None
returns-in-None g c =
    record { turn = stepped-from g.S.Sites c.park.result c.args.here.now c.args.sites.now c.park.new.sites _ _ _ _ (at-none c.args.self.now.running.phase c.args.self.now.running c.in-None.ensures.step) c.park.ensures.turn }

pub returns-in-Some : goal.returns-in-Some
returns-in-Some g c =
    record { turn = stepped-from g.S.Sites c.show_step.result c.args.here.now c.args.sites.now c.show_step.new.sites _ _ _ _ (at-step c.args.self.now.running.phase c.args.self.now.running _ c.in-Some.ensures.step) c.show_step.ensures.turn }
