use Rattle.std.proofs.Common.{◌≡◌, ◌∙◌, ◌+◌, ap, sym}
use Rattle.std.specs.Mem.Slots.{slots_items}
use Rattle.std.proofs.lemmas.Bool.{lt-ltb}
use Rattle.um_base.specs.declared.limits.TheConstants.{ROWS}
use Rattle.um_words.specs.declared.kind.CellKind.{CellKind}
use Rattle.um_fine.specs.Steps.{Site}
use Rattle.um_board.specs.Turned.{kind_of}
use Rattle.um_history.specs.Left.{steps_there}
use Rattle.um_cpu.proofs.Slots.{object-kind}
use Rattle.um_cpu.proofs.left_board.LeftBoardReadSites.read_object.Goals as goal

pub object_in-requires : goal.object_in-requires
object_in-requires c =
    ap kind_of (sym c.in-Some.ensures)
    ∙ object-kind c.args.row (steps_there (slots_items c.args.self.now.closed.now.table.words) (168 + c.args.row)) _ (c.args.self.now.readable.sorted (Site.object c.args.row) (lt-ltb c.args.row ROWS c.requires))

pub unreachable-requires : goal.unreachable-requires
unreachable-requires c =
    let other : CellKind.Domain ≡ CellKind.Object =
    ap kind_of (sym c.in-None.ensures)
    ∙ object-kind c.args.row (steps_there (slots_items c.args.self.now.closed.now.table.words) (168 + c.args.row)) _ (c.args.self.now.readable.sorted (Site.object c.args.row) (lt-ltb c.args.row ROWS c.requires)) in
    absurd (cc)
