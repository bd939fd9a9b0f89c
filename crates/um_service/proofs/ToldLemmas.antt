-- Short replies at the end of a list, and at a place of it.
use Rattle.std.proofs.Common.{ℕ, zero, suc, ◌<◌, List, [], ◌∷◌, ◌++◌, length, get_or, arith}
use Rattle.um_base.specs.declared.ask.Told.{Told}
use Rattle.um_base.specs.declared.names.ThreadIx.{ThreadIx}
use Rattle.um_base.specs.Short.{IsShort}
use Rattle.um_service.specs.Told.{AreShort}

pub one-more-short : (ws : List (ThreadIx × Told)) (w : ThreadIx × Told) → AreShort ws → IsShort w.1.reply → AreShort (ws ++ w ∷ [])
one-more-short [] w all short = (short, tt)
one-more-short (v ∷ ws) w all short = (all.0, one-more-short ws w all.1 short)

pub short-at : (ws : List (ThreadIx × Told)) (i : ℕ) (d : ThreadIx × Told) → AreShort ws → i < length ws → IsShort (get_or ws i d).1.reply
short-at [] i d all inside = absurd (omega arith)
short-at (w ∷ ws) zero d all inside = all.0
short-at (w ∷ ws) (suc i) d all inside = short-at ws i d all.1 (omega arith)
