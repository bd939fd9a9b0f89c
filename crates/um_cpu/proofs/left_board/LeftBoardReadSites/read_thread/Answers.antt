use Rattle.std.proofs.Common.{◌∙◌, ◌+◌, ap, sym}
use Rattle.std.specs.Mem.Slots.{slots_items}
use Rattle.um_words.specs.Packed.{thread_of}
use Rattle.um_history.specs.Left.{thread_read}
use Rattle.um_cpu.proofs.Slots.{found-there}
use Rattle.um_cpu.proofs.left_board.LeftBoardReadSites.read_thread.Goals as goal

pub returns-in-Some : goal.returns-in-Some
returns-in-Some c = ap thread_read (c.in-Some.ensures.value ∙ ap thread_of (sym (found-there (slots_items c.args.self.now.closed.now.table.words) (128 + c.args.thread) c.word.result c.word.ensures)))

pub returns-in-None : goal.returns-in-None
returns-in-None c = ap thread_read (c.in-None.ensures.value ∙ ap thread_of (sym (found-there (slots_items c.args.self.now.closed.now.table.words) (128 + c.args.thread) c.word.result c.word.ensures)))
