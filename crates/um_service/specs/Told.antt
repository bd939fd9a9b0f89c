-- What woken threads are told: errors, and numbers up to 256.
use Rattle.std.specs.Prelude.{List, [], ◌∷◌}
use Rattle.um_base.specs.declared.ask.Told.{Told}
use Rattle.um_base.specs.declared.names.ThreadIx.{ThreadIx}
use Rattle.um_base.specs.Short.{IsShort}

abbrev pub AreShort : List (ThreadIx × Told) → Type 0
AreShort [] = Unit {0}
AreShort (w ∷ ws) = IsShort w.1.reply × AreShort ws
