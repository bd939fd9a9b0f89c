-- Those who wait on a pipe, by side: readers want a byte, and writers room.
use Rattle.std.specs.Prelude.{ℕ, ◌-◌, Bool, ◌==◌, nat_le, List, [], ◌++◌, length, take, drop}
use Rattle.um_base.specs.declared.ask.Told.{Told}
use Rattle.um_base.specs.declared.ask.Waiter.{Waiter}
use Rattle.um_base.specs.declared.names.Reply.TheVariants as Reply
use Rattle.um_base.specs.declared.names.ThreadIx.{ThreadIx}
use Rattle.um_machine.specs.declared.served.Served.{Served}
use Rattle.um_machine.specs.Services.{told, read_length, readers_served, writers_served}
use Rattle.um_service.specs.declared.pipe.Side.{Side}

abbrev pub served_on : Side → Served
served_on Side.Readers = Served.Readers
served_on Side.Writers = Served.Writers

-- what comes of those who wait on a side, in the order of service: the bytes that are left, and what the woken are told
abbrev pub side_served : Side → ℕ → List Waiter → List ℕ → List ℕ × List (ThreadIx × Told)
side_served Side.Readers size ws bytes = readers_served ws bytes
side_served Side.Writers size ws bytes = writers_served size ws bytes

-- nobody of a side is served
abbrev pub is_idle : Side → ℕ → List ℕ → Bool
is_idle Side.Readers size bytes = length bytes == 0
is_idle Side.Writers size bytes = nat_le size (length bytes)

-- the bytes once the first one is served
abbrev pub bytes_after : Side → ℕ → Waiter → List ℕ → List ℕ
bytes_after Side.Readers size w bytes = drop (read_length w.ask) bytes
bytes_after Side.Writers size w bytes = bytes ++ take (size - length bytes) w.bytes

-- the bytes that the first one takes or puts
abbrev pub moved : Side → ℕ → Waiter → List ℕ → List ℕ
moved Side.Readers size w bytes = take (read_length w.ask) bytes
moved Side.Writers size w bytes = take (size - length bytes) w.bytes

-- and those that he gets of them
abbrev pub got : Side → List ℕ → List ℕ
got Side.Readers bytes = bytes
got Side.Writers bytes = []

abbrev pub told_first : Side → ℕ → Waiter → List ℕ → ThreadIx × Told
told_first side size w bytes = let m = moved side size w bytes in told w (Reply.Num (length m)) (got side m)
