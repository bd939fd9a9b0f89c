-- What a call on a board asks of its seat, and what it tells.
use Rattle.std.specs.Prelude.{◌≡◌, ◌≢◌, ℕ, ◌+◌, ◌<◌, true, List, Some, Result, MatchResult}
use Rattle.atomic_table.specs.Seated.{TableId}
use Rattle.um_base.specs.declared.act.Act.{Act}
use Rattle.um_base.specs.declared.image.Image.{Image}
use Rattle.um_base.specs.declared.names.ThreadIx.{ThreadIx}
use Rattle.um_words.specs.Packed.{row_of, is_thread, thread_in, is_domain, domain_in}
use Rattle.um_words.specs.Steps.{DomainStep, RowStep, ThreadStep, WordMay}
use Rattle.um_words.specs.declared.fine.FineAct.{FineAct}
use Rattle.um_words.specs.declared.fine.More.{More}
use Rattle.um_words.specs.declared.made.Made.{Made}
use Rattle.um_site.specs.declared.board.Changed.{Changed}
use Rattle.um_site.specs.declared.place.Place.{Place}
use Rattle.um_site.specs.declared.seat.Seat.{Seat}
use Rattle.um_site.specs.declared.view.View.{View}
use Rattle.um_site.specs.Tells.{made, Looked, Steps, last_got}

-- the step that shows this act of a thread
abbrev pub shown : ThreadIx → Act → FineAct
shown by act = FineAct.Shown (record { thread = by; act = act }) More.Nothing

-- the sites of threads and of domains
abbrev pub thread_site : ℕ → ℕ
thread_site who = 128 + who

abbrev pub domain_site : ℕ → ℕ
domain_site domain = 160 + domain

abbrev pub site_of : Place → ℕ
site_of (Place.Row row) = row.0
site_of (Place.Thread who) = thread_site who.0
site_of (Place.Domain domain) = domain_site domain

-- the row, thread or domain exists
abbrev pub IsPlace : Place → Type 0
IsPlace (Place.Row row) = row.0 < 128
IsPlace (Place.Thread who) = who.0 < 32
IsPlace (Place.Domain domain) = domain < 8

-- the seat is the same one of its board, with the same counts
abbrev pub SameSeat : {T : Type 0} → Seat T → Seat T → Type 0
SameSeat s t = (t.token.table_id ≡ s.token.table_id) × (t.token.id ≡ s.token.id) × (t.split ≡ s.split) × (t.joined ≡ s.joined) × (t.first ≡ s.first)

-- what stays of a seat when it looks and steps: its board and its place there, its counts, slots and name, the seats that it has split off,
-- its turn, and the cells that it knows as filled
abbrev pub Stays : {T : Type 0} → Seat T → Seat T → Type 0
Stays s t =
    (t.token.table_id ≡ s.token.table_id) × (t.token.id ≡ s.token.id) × (t.split ≡ s.split) × (t.joined ≡ s.joined) × (t.first ≡ s.first)
    × (t.token.me.1 ≡ s.token.me.1) × (t.token.me.0.name ≡ s.token.me.0.name) × (t.token.me.0.children ≡ s.token.me.0.children)
    × (t.token.me.0.turn ≡ s.token.me.0.turn) × (t.token.me.0.filled ≡ s.token.me.0.filled)

-- the seat is at this board, which has the site, and got or left this word last there
abbrev pub HasSeen : {T : Type 0} → TableId → Seat T → ℕ → ℕ → Type 0
HasSeen board s site seen = (s.token.table_id ≡ board) × (site < board.words) × (last_got s.token.me.0.got site ≡ Some seen)

-- What a call on a row, a thread or a domain asks of its seat and of the word that it is handed: the seat has seen that word last, the word
-- can be read, and it has room for a step.

abbrev pub AtRow : {T : Type 0} → TableId → Seat T → ℕ → ℕ → Type 0
AtRow board s row seen = HasSeen board s row seen × (row < 128) × ((row_of seen).number < 1048575)

abbrev pub AtThread : {T : Type 0} → TableId → Seat T → ℕ → ℕ → Type 0
AtThread board s who seen = HasSeen board s (thread_site who) seen × (who < 32) × (is_thread seen ≡ true) × ((thread_in seen).number < 268435455)

abbrev pub AtDomain : {T : Type 0} → TableId → Seat T → ℕ → ℕ → Type 0
AtDomain board s domain seen = HasSeen board s (domain_site domain) seen × (domain < 8) × (is_domain seen ≡ true) × ((domain_in seen).number < 268435455)

abbrev pub AtPlace : {T : Type 0} → TableId → Seat T → Place → ℕ → Type 0
AtPlace board s (Place.Row row) seen = AtRow board s row.0 seen
AtPlace board s (Place.Thread who) seen = AtThread board s who.0 seen
AtPlace board s (Place.Domain domain) seen = AtDomain board s domain seen

-- the step by this act is lawful at the word, and leaves that one
abbrev pub LeavesAt : Place → ℕ → FineAct → ℕ → Type 0
LeavesAt (Place.Row row) seen act next = RowStep seen act next
LeavesAt (Place.Thread who) seen act next = ThreadStep seen act next
LeavesAt (Place.Domain domain) seen act next = DomainStep seen act next

module _ (goes : Image → List ℕ → List Made → Made → Type 0) where
  -- the seat may make this act next, where it is lawful
  abbrev pub MayNext : {T : Type 0} → Seat T → ℕ → ℕ → FineAct → Type 0
  MayNext s site seen act = let v = s.token.me.0 in (next : ℕ) → WordMay site seen act next → goes v.image v.name v.made (made site act next)

  -- the act was recorded, on the word that was handed in
  abbrev pub Recorded : View → ℕ → ℕ → FineAct → View → Type 0
  Recorded v site seen act w = (n : ℕ) × Steps goes v site act seen n w

  -- another word stood there, and nothing was recorded
  abbrev pub Missed : View → ℕ → ℕ → ℕ → View → Type 0
  Missed v site seen found w = (found ≢ seen) × Looked goes v site found w × (last_got w.got site ≡ Some found)

  -- the word that was handed in still stood there, and nothing was recorded
  abbrev pub Stood : View → ℕ → ℕ → View → Type 0
  Stood v site seen w = Looked goes v site seen w × (last_got w.got site ≡ Some seen)

  -- the act was recorded on the word that was handed in, or another word stood there
  abbrev pub Records : {T A : Type 0} → Seat T → ℕ → ℕ → FineAct → Result A Changed → Seat T → Type 0
  Records s site seen act r t =
      MatchResult r (λ a. Recorded s.token.me.0 site seen act t.token.me.0) (λ e. Missed s.token.me.0 site seen e.seen t.token.me.0)
