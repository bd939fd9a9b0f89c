-- Steps that choose no row, and what is left of an instruction after others.
use Rattle.std.proofs.Common.{◌≡◌, ℕ, Bool, true, false, ◌∷◌, refl}
use Rattle.um_machine.specs.declared.pending.Pending.{Pending}
use Rattle.um_machine.specs.Order.{Steps}
use Rattle.um_machine.specs.State.{State}
use Rattle.um_machine.specs.Table.{act_of, after}
use Rattle.um_texts.proofs.CoreLemmas.{settled}
use Rattle.um_texts.proofs.MarkLemmas.{drops, mark_step}

-- whether a step chooses a row, a cell or an answer
abbrev pub chooses : Pending → Bool
chooses (Pending.Inherit who) = true
chooses (Pending.Drops from) = true
chooses (Pending.CleanPair who) = true
chooses Pending.Recycle = true
chooses (Pending.Reserve kind) = true
chooses Pending.Expire = true
chooses (Pending.TimeOut who) = true
chooses (Pending.Cut who) = true
chooses (Pending.Join who timeout) = true
chooses p = false

pub act_free : (s : State) (t x y : ℕ) (p : Pending) → chooses p ≡ false → act_of s t x p ≡ act_of s t y p
act_free s t x y (Pending.Inherit who) h = cc
act_free s t x y (Pending.Reserve kind) h = cc
act_free s t x y (Pending.Drops from) h = cc
act_free s t x y (Pending.CleanPair who) h = cc
act_free s t x y Pending.Recycle h = cc
act_free s t x y Pending.Expire h = cc
act_free s t x y (Pending.TimeOut who) h = cc
act_free s t x y (Pending.Cut who) h = cc
act_free s t x y (Pending.Join who timeout) h = cc
act_free s t x y p h = refl

pub after_free : (s : State) (t x y : ℕ) (p : Pending) (rest : Steps) → chooses p ≡ false → after s t x p rest ≡ after s t y p rest
after_free s t x y (Pending.Inherit who) rest h = cc
after_free s t x y (Pending.Reserve kind) rest h = cc
after_free s t x y (Pending.Drops from) rest h = cc
after_free s t x y (Pending.CleanPair who) rest h = cc
after_free s t x y Pending.Recycle rest h = cc
after_free s t x y Pending.Expire rest h = cc
after_free s t x y (Pending.TimeOut who) rest h = cc
after_free s t x y (Pending.Cut who) rest h = cc
after_free s t x y (Pending.Join who timeout) rest h = cc
after_free s t x y p rest h = refl

-- what isn't a drop is left as it is
pub settled_other : (p : Pending) (rest : Steps) → (mark_step p ≡ drops → ⊥) → settled (p ∷ rest) ≡ p ∷ rest
settled_other (Pending.DropPair who a) rest h = absurd (h refl)
settled_other (Pending.Drops from) rest h = absurd (h refl)
settled_other (Pending.CleanPair who) rest h = absurd (h refl)
settled_other p rest h = refl
