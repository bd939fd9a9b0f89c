-- Facts about places in scripts.
use Rattle.std.proofs.Common.{◌≡◌, ℕ, zero, suc, ◌-◌, ◌<◌, List, arith, refl, slice_get, if◌then◌else◌}
use Rattle.um_base.specs.declared.instr.Instr.{Instr}
use Rattle.um_machine.specs.State.{is_repeat, repeat_before}

-- the last repeat before a line is the line before it, or the last one before that
pub repeat_before_pred : (lines : List Instr) (n : ℕ) → 0 < n → repeat_before lines n ≡ (if is_repeat (slice_get lines (n - 1)) then n - 1 else repeat_before lines (n - 1))
repeat_before_pred lines zero h = absurd (omega arith)
repeat_before_pred lines (suc n) h = let e : suc n - 1 ≡ n = omega arith in rw e refl
