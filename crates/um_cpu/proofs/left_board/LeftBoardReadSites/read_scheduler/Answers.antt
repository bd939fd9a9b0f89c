use Rattle.std.proofs.Common.{◌≡◌, ◌∙◌, ap, refl, sym}
use Rattle.std.specs.Mem.Slots.{slots_items}
use Rattle.um_words.specs.declared.kind.CellKind.{CellKind}
use Rattle.um_fine.specs.Cells.{Cell}
use Rattle.um_fine.specs.Sites.{SiteState}
use Rattle.um_fine.specs.Steps.{Site}
use Rattle.um_board.specs.Turned.{kind_of}
use Rattle.um_history.specs.Left.{steps_there}
use Rattle.um_refinement.specs.Fine.{scheduler_state}
use Rattle.um_cpu.proofs.Slots.{scheduler-kind}
use Rattle.um_cpu.proofs.left_board.LeftBoardReadSites.read_scheduler.Goals as goal

pub scheduler_in-requires : goal.scheduler_in-requires
scheduler_in-requires c = ap kind_of (sym c.in-Some.ensures) ∙ scheduler-kind (steps_there (slots_items c.args.self.now.closed.now.table.words) 306) _ (c.args.self.now.readable.sorted Site.scheduler refl)

pub unreachable-requires : goal.unreachable-requires
unreachable-requires c =
    let other : CellKind.Domain ≡ CellKind.Scheduler = ap kind_of (sym c.in-None.ensures) ∙ scheduler-kind (steps_there (slots_items c.args.self.now.closed.now.table.words) 306) _ (c.args.self.now.readable.sorted Site.scheduler refl) in
    absurd (cc)

pub returns : goal.returns
returns c =
    let n = steps_there (slots_items c.args.self.now.closed.now.table.words) 306 in
    sym (ap (λ (d : Cell). scheduler_state (SiteState.cell n d)) (c.in-Some.ensures ∙ c.scheduler_in.ensures))
