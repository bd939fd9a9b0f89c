-- What queues, stacks and pipes keep.
use Rattle.std.specs.Prelude.{◌≡◌, ℕ, ◌-◌, ◌^◌, min, Bool, List, [], ◌∷◌, ◌++◌, Option, Some, None}

-- a message queue: the bytes of a message, how many messages it holds at most, and those in it, the oldest first
pub record Queue : Type 0 where
  pub size : ℕ
  pub most : ℕ
  pub messages : List (List ℕ)

-- a stack: how many values it holds at most, and those in it, the newest last
pub record Stack : Type 0 where
  pub most : ℕ
  pub values : List ℕ

-- a pipe: how many bytes it holds at most, those in it, the oldest first, and whether it is closed
pub record Pipe : Type 0 where
  pub size : ℕ
  pub bytes : List ℕ
  pub closed : Bool

-- a count that stands still at the end of its type
abbrev pub saturated : ℕ → ℕ
saturated n = min n (2 ^ 32 - 1)

-- the value on top of a stack leaves the others, or there is none
abbrev pub TakesLast : Stack → Stack → Option ℕ → Type 0
TakesLast old new None = (old.values ≡ []) × (new ≡ old)
TakesLast old new (Some value) = old ≡ record new { values = new.values ++ value ∷ [] }

-- the oldest message of a queue leaves the others, or there is none
abbrev pub TakesOldest : Queue → Queue → Option (List ℕ) → Type 0
TakesOldest old new None = (old.messages ≡ []) × (new ≡ old)
TakesOldest old new (Some message) = old ≡ record new { messages = message ∷ new.messages }
