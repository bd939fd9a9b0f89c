-- Objects that are gone are cleaned.
use Rattle.std.proofs.Common.{◌≡◌, ◌≤◌, ℕ, true, refl, arith, Some}
use Rattle.std.specs.Prelude.{IsTrue}
use Rattle.um_base.specs.Places.{own_row}
use Rattle.um_base.specs.declared.names.ThreadIx.{ThreadIx}
use Rattle.um_machine.specs.declared.pending.Pending.{Pending}
use Rattle.um_machine.specs.Objects.{is_gone}
use Rattle.um_machine.specs.Order.{Steps, to_thread}
use Rattle.um_machine.specs.State.{State, vacant, object_at, pair_at, with_object}
use Rattle.um_machine.specs.Table.{after, dropped}
use Rattle.um_machine.proofs.EffectLemmas.{effects_of}
use Rattle.um_measure.specs.Measure.{object_cost}
use Rattle.um_measure.specs.Reached.{IsReached}
use Rattle.um_measure.proofs.MadeLemmas.{IsMade, lowers}
use Rattle.um_measure.proofs.StoreLemmas.{store-set, store-object, store-dropped}
use Rattle.um_measure.proofs.WriteLemmas.{base-wrote, drops-armed}

pub clean_pair : (s : State) → IsReached s → (t x : ℕ) (rest : Steps) (who : ThreadIx) → pair_at s who.0 x ≡ true → IsMade s (after s t x (Pending.CleanPair who) rest) (Unit {0})
clean_pair s reached t x rest who held =
    let y = own_row s.image who.0 in
    let o = record (object_at s y) { cleaner = Some (to_thread t) } in
    let less = store-dropped (with_object s y o) who.0 x held in
    let object = store-object s y o (omega arith) in
    let armed : (after s t x (Pending.CleanPair who) rest).armed ≡ s.armed = drops-armed (with_object s y o) who.0 x (dropped s who.0 x) in
    lowers s reached (after s t x (Pending.CleanPair who) rest) 1 (base-wrote s reached.sized (effects_of s t x (Pending.CleanPair who)) refl) (omega (arith, less, object)) (rw armed (omega arith))

pub recycle : (s : State) → IsReached s → (t x : ℕ) (rest : Steps) → IsTrue (is_gone (object_at s x).status) → IsMade s (after s t x Pending.Recycle rest) (Unit {0})
recycle s reached t x rest gone =
    let set = store-set s.pairs s.objects x vacant in
    let was : 1 ≤ object_cost (object_at s x) = rw gone (omega arith) in
    lowers s reached (after s t x Pending.Recycle rest) 0 (base-wrote s reached.sized (effects_of s t x Pending.Recycle) refl) (omega (arith, set, was)) (omega arith)
