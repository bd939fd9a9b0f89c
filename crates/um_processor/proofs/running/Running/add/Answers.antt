use Rattle.std.proofs.Common.{refl, sym, subst}
use Rattle.um_fine.specs.Context.{Context}
use Rattle.um_processor.specs.Wants.{Wants}
use Rattle.um_tables.specs.Contexts.{born}
use Rattle.um_tables.specs.SchedulerActs.{added_made}
use Rattle.um_processor.specs.declared.phase.Phase.TheVariants as Phase
use Rattle.um_processor.specs.Processors.{in_phase}
use Rattle.um_processor.proofs.Spared.{room-unseen}
use Rattle.um_processor.proofs.running.Running.add.Goals as goal

pub returns-in-Busy : goal.returns-in-Busy
returns-in-Busy g c =
    let h = c.in-Busy.ensures.said in
    let r = c.args.self.now in
    let image = c.args.here.now.image.now in
    let asks : Wants c.args.here.now.cpu image (in_phase Phase.Add r) (added_made image c.args.here.now.cpu h.0 h.1 (born r.newborn)) =
    record { maker = refl; makes = refl; fit = refl } in
    let asked =
    subst (λ (own : Context). Wants c.args.here.now.cpu image (in_phase Phase.Add r) (added_made image c.args.here.now.cpu h.0 h.1 own)) (sym c.becomes.ensures)
    asks in
    record { turn = (c.in-Busy.ensures.image, room-unseen (record r { room = c.add.new.context }) r refl c.requires.at, (_, (h.2, h.3), asked)) }

pub returns-in-Changed : goal.returns-in-Changed
returns-in-Changed g c =
    let h = c.in-Changed.ensures.said in
    let r = c.args.self.now in
    record { turn = (c.in-Changed.ensures.image, room-unseen (record r { room = c.add.new.context }) r refl c.requires.at, (h.0, h.1)) }
