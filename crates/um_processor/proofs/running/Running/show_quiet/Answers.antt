use Rattle.std.proofs.Common.{◌∙◌}
use Rattle.um_processor.specs.declared.phase.Turn.TheVariants as Turn
use Rattle.um_processor.specs.Processors.{processor_of}
use Rattle.um_processor.proofs.Requests.{led, may-each}
use Rattle.um_processor.proofs.Spared.{gone-unseen, spare-unseen}
use Rattle.um_processor.proofs.running.Running.show_quiet.Goals as goal

pub make-requires-clause-few : goal.make-requires-clause-few
make-requires-clause-few g c = c.in-Some.ensures.few

pub make-requires-clause-goes : goal.make-requires-clause-goes
make-requires-clause-goes g c = may-each c.args.here.now.cpu c.args.here.now.image.now _ _ _ _ c.in-Some.ensures c.requires.goes.1

pub returns : goal.returns
returns g c = record { turn = (c.in-Made.ensures.image, tt, led g.S.Sites Turn.Made c.args.here.now c.args.sites.now c.make.new.sites _ _ _ _ c.in-Some.ensures c.in-Made.ensures.said (c.goes.ensures ∙ gone-unseen c.args.here.now.image.now c.in-Some.asked.1 c.args.self.now c.make.new.spare)) }

pub returns-in-Busy : goal.returns-in-Busy
returns-in-Busy g c = record { turn = (c.in-Busy.ensures.image, spare-unseen c.args.self.now.phase c.args.self.now c.make.new.spare, led g.S.Sites Turn.Busy c.args.here.now c.args.sites.now c.make.new.sites _ _ (processor_of c.args.self.now) _ c.in-Some.ensures c.in-Busy.ensures.said tt) }

pub returns-in-Changed : goal.returns-in-Changed
returns-in-Changed g c = record { turn = (c.in-Changed.ensures.image, spare-unseen c.args.self.now.phase c.args.self.now c.make.new.spare, led g.S.Sites Turn.Changed c.args.here.now c.args.sites.now c.make.new.sites _ _ (processor_of c.args.self.now) _ c.in-Some.ensures c.in-Changed.ensures.said tt) }

pub returns-in-Stuck : goal.returns-in-Stuck
returns-in-Stuck g c = record { turn = (c.in-Stuck.ensures.image, spare-unseen c.args.self.now.phase c.args.self.now c.make.new.spare, led g.S.Sites Turn.Stuck c.args.here.now c.args.sites.now c.make.new.sites _ _ (processor_of c.args.self.now) _ c.in-Some.ensures c.in-Stuck.ensures.said tt) }
