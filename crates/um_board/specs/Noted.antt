-- Fine steps as a board has them, and as their processors note them.
use Rattle.std.specs.Prelude.{ℕ}
use Rattle.um_words.specs.declared.made.Made.{Made}
use Rattle.um_words.specs.Packed.{packed_cell, packed_domain, packed_row, packed_thread}
use Rattle.um_fine.specs.Sites.{site_number}
use Rattle.um_fine.specs.Steps.{FineStep, Word}
use Rattle.um_merge.specs.declared.logged.Logged.{Logged}
use Rattle.um_tables.specs.Asked.{event_of}

-- the bits of a word, and its step number
abbrev pub packed : Word → ℕ
packed (Word.row w) = packed_row w
packed (Word.thread w) = packed_thread w
packed (Word.domain w) = packed_domain w
packed (Word.cell w) = packed_cell w

abbrev pub number_of : Word → ℕ
number_of (Word.row w) = w.number
number_of (Word.thread w) = w.number
number_of (Word.domain w) = w.number
number_of (Word.cell w) = w.number

-- the step as the list of its seat has it
abbrev pub made_of : FineStep → Made
made_of e = record { site = site_number e.site; act = e.act; word = packed e.word; moved = e.moved }

-- the step as its processor notes it
abbrev pub logged_of : FineStep → Logged
logged_of e = record { cpu = e.cpu; site = site_number e.site; number = number_of e.word; event = event_of e.act }
