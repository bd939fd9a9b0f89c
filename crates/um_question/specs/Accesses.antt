-- The bytes of memory that an act touches.
use Rattle.std.specs.Prelude.{ℕ, ◌+◌, max, min, Bool, nat_lt, if◌then◌else◌}
use Rattle.um_base.specs.declared.act.Act.{Act}
use Rattle.um_base.specs.declared.act.Found.{Found}
use Rattle.um_base.specs.declared.names.Access.{Access}
use Rattle.um_base.specs.declared.names.Addr.{Addr}
use Rattle.um_base.specs.declared.names.Range.{Range}
use Rattle.um_question.specs.declared.accesses.Span.{Span}

-- so many bytes from an address on
abbrev pub bytes_from : Addr → ℕ → Span
bytes_from start size = record { start = start.0; end = start.0 + size }

abbrev pub no_bytes : Span
no_bytes = bytes_from (record { 0 = 0 }) 0

-- a copy touches its bytes only where the thread may
abbrev pub copied : Bool → ℕ → ℕ
copied fits size = if fits then size else 0

-- the bytes that a read of a text hands on: with the zero, or as many as are read at most, or none where one of them can't be read
abbrev pub text_size : Found → ℕ
text_size (Found.Length n) = n + 1
text_size Found.TooLong = 32
text_size Found.Unreadable = 0

-- the bytes that an act reads
abbrev pub bytes_read : Act → Span
bytes_read (Act.Load addr size value) = bytes_from addr size
bytes_read (Act.CopyIn addr size fits) = bytes_from addr (copied fits size)
bytes_read (Act.CopyStr addr found) = bytes_from addr (text_size found)
bytes_read _ = no_bytes

-- the bytes that an act writes
abbrev pub bytes_written : Act → Span
bytes_written (Act.Store addr size value) = bytes_from addr size
bytes_written (Act.CopyOut addr size fits) = bytes_from addr (copied fits size)
bytes_written _ = no_bytes

-- the bytes that an act executes
abbrev pub bytes_executed : Act → Span
bytes_executed (Act.Fetch addr) = bytes_from addr 4
bytes_executed _ = no_bytes

-- the bytes that an act touches in one of these ways
abbrev pub bytes_touched : Access → Act → Span
bytes_touched Access.Read act = bytes_read act
bytes_touched Access.Write act = bytes_written act
bytes_touched Access.Exec act = bytes_executed act

-- whether a byte lies both in these and in a range: the later beginning lies before the earlier end
abbrev pub meets_range : Span → Range → Bool
meets_range bytes range = nat_lt (max bytes.start range.start.0) (min bytes.end (range.start.0 + range.size))

-- whether an act touches at least one byte of a range in this way
abbrev pub touches : Access → Range → Act → Bool
touches access range act = meets_range (bytes_touched access act) range
