-- A processor with its place may be moved to another thread, and threads may share the board with its cells and their contents.
use denote.Ref.{NamedLft}
use denote.Param.Send.{IsSend, IsSync, sendable, shr_send}
use denote.Param.SendFields.{declared_send, declared_sync, as_row_send}
use Rattle.std.proofs.Crossing.{crosses}
use Rattle.um_board.specs.contracts.contents.Contents as Contents
use Rattle.um_board.specs.contracts.contents.Contents.TheInside as Inside
use Rattle.um_board.specs.contracts.seated.Seated as Seated
use Rattle.um_cpu.specs.contracts.cpu.Cpu as Cpu
use Rattle.um_board.specs.contracts.contents.ContentsContent.TheImpl as Content
use Rattle.um_board.specs.contracts.next_step.NextStepLocal.TheImpl as Local
use Rattle.um_board.specs.contracts.next_step.NextStep as NextStep
use Rattle.um_site.specs.contracts.board.Board as BoardRow
use Rattle.um_cell.specs.contracts.cells.Cells as CellsRow
use Rattle.um_board.proofs.contents.Kept.TheSendSync as Kept
use Rattle.um_processor.proofs.processor.Processor.TheSendSync as Processor
use Rattle.um_site.proofs.seat.Seat.TheSendSync as Seat
use Rattle.um_site.proofs.board.Board.TheSendSync as Board
use Rattle.um_cell.proofs.cells.Cells.TheSendSync as Cells
use Rattle.um_merge.specs.contracts.log.Log as Log
use Rattle.um_merge.specs.contracts.log.Log.TheInside as LogInside
use Rattle.um_merge.proofs.logged.Short.TheSendSync as Short
use Rattle.um_base.proofs.act.Event.TheSendSync as Event

inside_send : IsSend Inside.the_row
inside_send = declared_send Inside.the_type (search crosses, (Kept.the_send, tt))

inside_sync : IsSync Inside.the_row
inside_sync = declared_sync Inside.the_type (search crosses, (Kept.the_sync, tt))

pub contents_send : IsSend Contents.the_row
contents_send = record { owned = λ d vs x. (inside_send.owned x.0 vs, tt); leaving = λ k d w. tt }

pub contents_sync : IsSync Contents.the_row
contents_sync = record { shared = λ d b o κ x. (inside_sync.shared x.0 b o κ, tt) }

pub board_sync : IsSync (BoardRow.the_row Contents.the_row NextStep.the_row Content.ghosts Local.ghosts)
board_sync = Board.the_sync Contents.the_row NextStep.the_row Content.ghosts Local.ghosts contents_send

pub cells_sync : IsSync (CellsRow.the_row Contents.the_row)
cells_sync = Cells.the_sync Contents.the_row

log_inside_send : IsSend LogInside.the_row
log_inside_send = declared_send LogInside.the_type (search (crosses, Short.the_send), (search (crosses, Event.the_send), tt))

pub log_send : IsSend Log.the_row
log_send = record { owned = λ d vs x. (log_inside_send.owned x.0 vs, tt); leaving = λ k d w. tt }

pub seated_send : (κ : NamedLft) → IsSend (Seated.the_row κ)
seated_send κ =
    declared_send (Seated.the_type κ) (
      search (as_row_send, shr_send, board_sync),
      (search (as_row_send, shr_send, cells_sync), (search (as_row_send, sendable), (Seat.the_send Contents.the_row contents_send, (log_send, tt)))),
    )

pub cpu_send : (κ : NamedLft) → IsSend (Cpu.the_row κ)
cpu_send κ = declared_send (Cpu.the_type κ) (search sendable, (Processor.the_send, (seated_send κ, tt)))
