use Rattle.std.proofs.Common.{◌≡◌}
use Rattle.um_seated.specs.Seats.{Remains}
use Rattle.um_seated.proofs.work.reads.Given as goal

abbrev pub invariant-tries : goal.invariant-tries
invariant-tries l = record { here : l.at.seat.token.table_id ≡ l.at.board.now.table.shared.table_id; stays : Remains l.initial.at l.at }
