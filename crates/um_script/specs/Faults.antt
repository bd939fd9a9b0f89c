-- Steps that may fail, one after the other.
use Rattle.std.specs.Prelude.{◌≡◌, Result, Ok, Err}

infixl 10 ◌>>=◌
abbrev pub ◌>>=◌ : {A B E : Type 0} → Result A E → (A → Result B E) → Result B E
(Ok x) >>= f = f x
(Err e) >>= f = Err e

-- what a function returned is what reading gives, with this left to be read
abbrev pub Gives : {A W E : Type 0} → Result A E → Result (A × W) E → W → Type 0
Gives (Ok x) read rest = read ≡ Ok (x, rest)
Gives (Err e) read rest = read ≡ Err e
