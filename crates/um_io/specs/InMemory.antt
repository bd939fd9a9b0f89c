-- What a source and a sink over memory hold.
use Rattle.std.specs.Prelude.{ℕ, ◌==◌, Bool, ◌&&◌, ◌||◌, nat_lt, List, length, drop}
use Rattle.um_io.specs.Calls.{is_next_listed}
use Rattle.um_io.specs.Room.{reserved_room, room_over, most_faults}
use Rattle.um_io.specs.declared.calls.Calls.{Calls}
use Rattle.um_io.specs.declared.mem_source.MemSource.{MemSource}
use Rattle.um_io.specs.declared.mem_sink.MemSink.{MemSink}

-- The bytes that are left.
abbrev pub source_left : MemSource → List ℕ
source_left s = drop s.at s.bytes.items

-- How often it has failed.
abbrev pub source_faults : MemSource → ℕ
source_faults s = s.faults

-- The reads that it has made, and which of them fail.
abbrev pub source_calls : MemSource → Calls
source_calls s = s.calls

-- What its count of failures stays at or below for good.
abbrev pub source_most : MemSource → ℕ
source_most s = most_faults (source_calls s).fails.items

-- The bytes that it has taken.
abbrev pub sink_taken : MemSink → List ℕ
sink_taken s = s.bytes.items

-- How often it has failed.
abbrev pub sink_faults : MemSink → ℕ
sink_faults s = s.faults

-- The writes that it has made, and which of them fail.
abbrev pub sink_calls : MemSink → Calls
sink_calls s = s.calls

-- How many more bytes it surely takes.
abbrev pub sink_room : MemSink → ℕ
sink_room s = room_over (sink_calls s).fails.items (length (sink_taken s))

-- It fails the next write of this piece: the call is listed to fail, or no room is left for a byte.
abbrev pub is_refused : MemSink → List ℕ → Bool
is_refused s piece =
    is_next_listed (sink_calls s) || (nat_lt 0 (length piece) && (length (sink_taken s) == reserved_room))
