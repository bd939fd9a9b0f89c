use Rattle.std.proofs.Common.{refl, ap, ◌∙◌}
use Rattle.um_processor.specs.Cleanings.{behind_first}
use Rattle.um_processor.specs.declared.phase.Turn.TheVariants as Turn
use Rattle.um_processor.specs.Standing.{whole}
use Rattle.um_processor.proofs.Requests.{led, may-each}
use Rattle.um_processor.proofs.Wholes.{vacate-leads}
use Rattle.um_processor.proofs.processor.Processor.vacate.Goals as goal

pub make-requires-clause-goes : goal.make-requires-clause-goes
make-requires-clause-goes g c = may-each c.args.here.now.cpu c.args.here.now.image.now _ _ _ _ (vacate-leads c.args.here.now.image.now c.args.here.now.cpu c.args.self.now c.args.row _ c.requires.next refl) c.requires.goes.1

pub returns : goal.returns
returns g c =
    let leads = vacate-leads c.args.here.now.image.now c.args.here.now.cpu c.args.self.now c.args.row _ c.requires.next (c.advance.ensures.rest ∙ ap behind_first c.requires.next.first) in
    record { turn = (c.in-Made.ensures.image, tt, led g.S.Sites Turn.Made c.args.here.now c.args.sites.now c.make.new.sites _ _ _ _ leads c.in-Made.ensures.said refl) }

pub returns-in-Busy : goal.returns-in-Busy
returns-in-Busy g c = record { turn = (c.in-Busy.ensures.image, refl, led g.S.Sites Turn.Busy c.args.here.now c.args.sites.now c.make.new.sites _ _ (whole c.args.self.now) _ (vacate-leads c.args.here.now.image.now c.args.here.now.cpu c.args.self.now c.args.row _ c.requires.next refl) c.in-Busy.ensures.said tt) }

pub returns-in-Changed : goal.returns-in-Changed
returns-in-Changed g c = record { turn = (c.in-Changed.ensures.image, refl, led g.S.Sites Turn.Changed c.args.here.now c.args.sites.now c.make.new.sites _ _ (whole c.args.self.now) _ (vacate-leads c.args.here.now.image.now c.args.here.now.cpu c.args.self.now c.args.row _ c.requires.next refl) c.in-Changed.ensures.said tt) }

pub returns-in-Stuck : goal.returns-in-Stuck
returns-in-Stuck g c = record { turn = (c.in-Stuck.ensures.image, refl, led g.S.Sites Turn.Stuck c.args.here.now c.args.sites.now c.make.new.sites _ _ (whole c.args.self.now) _ (vacate-leads c.args.here.now.image.now c.args.here.now.cpu c.args.self.now c.args.row _ c.requires.next refl) c.in-Stuck.ensures.said tt) }
