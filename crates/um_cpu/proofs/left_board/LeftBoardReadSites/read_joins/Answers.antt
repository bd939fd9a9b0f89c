use Rattle.std.proofs.Common.{◌≡◌, ◌∙◌, ap, refl, sym}
use Rattle.std.specs.Mem.Slots.{slots_items}
use Rattle.um_words.specs.declared.kind.CellKind.{CellKind}
use Rattle.um_fine.specs.Cells.{Cell}
use Rattle.um_fine.specs.Sites.{SiteState}
use Rattle.um_fine.specs.Steps.{Site}
use Rattle.um_board.specs.Turned.{kind_of}
use Rattle.um_history.specs.Left.{steps_there}
use Rattle.um_refinement.specs.Fine.{joins_state}
use Rattle.um_cpu.proofs.Slots.{joins-kind}
use Rattle.um_cpu.proofs.left_board.LeftBoardReadSites.read_joins.Goals as goal

pub joins_in-requires : goal.joins_in-requires
joins_in-requires c = ap kind_of (sym c.in-Some.ensures) ∙ joins-kind (steps_there (slots_items c.args.self.now.closed.now.table.words) 308) _ (c.args.self.now.readable.sorted Site.joins refl)

pub unreachable-requires : goal.unreachable-requires
unreachable-requires c =
    let other : CellKind.Domain ≡ CellKind.Join = ap kind_of (sym c.in-None.ensures) ∙ joins-kind (steps_there (slots_items c.args.self.now.closed.now.table.words) 308) _ (c.args.self.now.readable.sorted Site.joins refl) in
    absurd (cc)

pub returns : goal.returns
returns c =
    let n = steps_there (slots_items c.args.self.now.closed.now.table.words) 308 in
    sym (ap (λ (d : Cell). joins_state (SiteState.cell n d)) (c.in-Some.ensures ∙ c.joins_in.ensures))
