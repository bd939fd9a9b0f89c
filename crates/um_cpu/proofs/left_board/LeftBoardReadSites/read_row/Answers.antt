use Rattle.std.proofs.Common.{◌∙◌, ap, sym}
use Rattle.std.specs.Mem.Slots.{slots_items}
use Rattle.um_words.specs.Packed.{row_of}
use Rattle.um_cpu.proofs.Slots.{found-there}
use Rattle.um_cpu.proofs.left_board.LeftBoardReadSites.read_row.Goals as goal

pub returns : goal.returns
returns c = c.read.ensures.value ∙ ap row_of (sym (found-there (slots_items c.args.self.now.closed.now.table.words) c.args.row c.word.result c.word.ensures))
