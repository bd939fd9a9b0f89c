-- Text that is appended into reserved room.
use Rattle.std.specs.Prelude.{◌≡◌, ℕ, ◌+◌, ◌≤◌, List, ◌++◌, vec_len, vec_capacity}
use Rattle.std.specs.Global.{Vec}

-- A piece of at most this many bytes is appended, and the room stays reserved.
pub record Puts (old new : Vec ℕ) (piece : List ℕ) (most : ℕ) : Type 0 where
  pub items : new.items ≡ old.items ++ piece
  pub len : vec_len new ≤ vec_len old + most
  pub capacity : vec_capacity old ≤ vec_capacity new
