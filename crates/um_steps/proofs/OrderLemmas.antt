-- Steps of an instruction are sound where all of them are.
use Rattle.std.proofs.Common.{ℕ, zero, suc, ◌<◌, Bool, true, false, List, [], ◌∷◌, length, get_or, arith, refl, IsTrue}
use Rattle.std.specs.Prelude.{◌&&◌}
use Rattle.std.specs.List.{list_all}
use Rattle.um_machine.specs.declared.pending.Pending.{Pending}
use Rattle.um_machine.specs.Limits.{IsSound, is_sound}

both : (a b : Bool) → IsTrue (a && b) → IsTrue a × IsTrue b
both true b h = (refl, h)
both false b h = cc

pub sound_step : (steps : List Pending) (i : ℕ) (d : Pending) → i < length steps → IsTrue (list_all is_sound steps) → IsSound (get_or steps i d)
sound_step [] i d h all = absurd (omega arith)
sound_step (p ∷ ps) zero d h all = (both (is_sound p) (list_all is_sound ps) all).0
sound_step (p ∷ ps) (suc i) d h all = let inside : i < length ps = omega arith in sound_step ps i d inside (both (is_sound p) (list_all is_sound ps) all).1
