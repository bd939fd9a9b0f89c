-- Steps that clean, and a tick, write no thread.
use Rattle.std.proofs.Common.{ℕ, refl}
use Rattle.um_base.specs.declared.names.ThreadIx.{ThreadIx}
use Rattle.um_machine.specs.declared.pending.Pending.{Pending}
use Rattle.um_machine.specs.Order.{Steps}
use Rattle.um_machine.specs.State.{State}
use Rattle.um_machine.specs.Table.{after}
use Rattle.um_machine.proofs.EffectLemmas.{effects_of}
use Rattle.um_invariants.proofs.ThreadWords.{AreKept, IsBase}
use Rattle.um_invariants.proofs.ThreadPairs.{base-wrote}

pub pair-base : (s : State) (t x : ℕ) (who : ThreadIx) (rest : Steps) → AreKept s → IsBase s (after s t x (Pending.CleanPair who) rest)
pair-base s t x who rest kept = base-wrote s kept (effects_of s t x (Pending.CleanPair who)) refl

pub tick-base : (s : State) (t x : ℕ) (rest : Steps) → AreKept s → IsBase s (after s t x Pending.Tick rest)
tick-base s t x rest kept = base-wrote s kept (effects_of s t x Pending.Tick) refl

pub recycle-base : (s : State) (t x : ℕ) (rest : Steps) → AreKept s → IsBase s (after s t x Pending.Recycle rest)
recycle-base s t x rest kept = base-wrote s kept (effects_of s t x Pending.Recycle) refl
