-- How often a source fails at most, and how many bytes a sink surely takes.
use Rattle.std.specs.Prelude.{◌≡◌, ℕ, ◌+◌, ◌-◌, ◌^◌, ◌<◌, List, [], ◌∷◌, Result, IsOk, IfOk}

-- While room is left, a write succeeds, the count of failures stays, and the bytes that it took are
-- off the room.
pub record UsesRoom {E : Type 0} (room_before room_now faults_before faults_now : ℕ)
    (result : Result ℕ E) : Type 0 where
  pub succeeds : 0 < room_before → IsOk result
  pub quiet : 0 < room_before → faults_now ≡ faults_before
  pub left : 0 < room_before → IfOk result (λ n. room_now + n ≡ room_before)

-- The bytes that a sink in memory reserves, 64 MiB.
abbrev pub reserved_room : ℕ
reserved_room = 0x400_0000

-- What is left of the reserved bytes once so many are taken; none where a call is listed to fail.
abbrev pub room_over : List ℕ → ℕ → ℕ
room_over [] taken = reserved_room - taken
room_over (_ ∷ _) taken = 0

-- How often a source fails at most: never where no call is listed to, else as often as it can count.
abbrev pub most_faults : List ℕ → ℕ
most_faults [] = 0
most_faults (_ ∷ _) = 2 ^ 64 - 1
