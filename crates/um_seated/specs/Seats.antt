-- Seats at their board, and seats that come back from a thread.
use Rattle.std.specs.Prelude.{◌≡◌, ℕ, ◌+◌, ◌<◌}
use Rattle.um_site.specs.Calls.{thread_site, domain_site, Stays}
use Rattle.um_site.specs.declared.seat.Seat.{Seat}
use Rattle.um_seated.specs.declared.seated.Seated.{Seated}

-- the seat comes back with this many seats split off and taken in again, and with its turn
abbrev pub ComesBack : {S : Type 0} → ℕ → Seat S → Seat S → Type 0
ComesBack count s t =
    (t.token.table_id ≡ s.token.table_id) × (t.split ≡ s.split + count) × (t.joined ≡ s.joined + count) × (t.first ≡ s.first) × (t.token.me.1 ≡ s.token.me.1) × (t.token.me.0.turn ≡ s.token.me.0.turn)

-- it has its name, and the seats out that were so before
abbrev pub IsSameKin : {S : Type 0} → Seat S → Seat S → Type 0
IsSameKin s t = (t.token.me.0.name ≡ s.token.me.0.name) × (t.token.me.0.children ≡ s.token.me.0.children)

-- The seat is at its board, which has the word of the row, of the thread or of the domain.

abbrev pub OnRow : Seated → ℕ → Type 0
OnRow s row = (s.seat.token.table_id ≡ s.board.now.table.shared.table_id) × (row < 128) × (row < s.board.now.table.shared.table_id.words)

abbrev pub OnThread : Seated → ℕ → Type 0
OnThread s who = (s.seat.token.table_id ≡ s.board.now.table.shared.table_id) × (who < 32) × (thread_site who < s.board.now.table.shared.table_id.words)

abbrev pub OnDomain : Seated → ℕ → Type 0
OnDomain s domain = (s.seat.token.table_id ≡ s.board.now.table.shared.table_id) × (domain < 8) × (domain_site domain < s.board.now.table.shared.table_id.words)

-- the seat stays at its board, with all that it keeps when it looks and steps
abbrev pub Remains : Seated → Seated → Type 0
Remains s t = (t.board.now ≡ s.board.now) × Stays s.seat t.seat
