-- Bounds on numbers of few bytes, and zero bytes that are written.
use Rattle.std.proofs.Common.{◌≡◌, ℕ, zero, suc, ◌+◌, ◌-◌, ◌<◌, ◌≤◌, ◌^◌, List, replicate, slice_set, arith, ap}
use Rattle.um_machine.specs.Memory.{put_bytes}

pub few_bytes : (v k : ℕ) → v < 256 ^ k → k ≤ 3 → v < 16777216
few_bytes v zero h b = omega arith
few_bytes v (suc zero) h b = omega arith
few_bytes v (suc (suc zero)) h b = omega arith
few_bytes v (suc (suc (suc zero))) h b = omega arith
few_bytes v (suc (suc (suc (suc k)))) h b = absurd (omega arith)

-- a zero is written, and then the rest of them
pub zeros_more : (memory : List ℕ) (a k n : ℕ) → k < n
    → put_bytes memory (a + k) (replicate {A = ℕ} (n - k) 0) ≡ put_bytes (slice_set memory (a + k) 0) (a + (k + 1)) (replicate {A = ℕ} (n - (k + 1)) 0)
zeros_more memory a k n h =
    let e : n - k ≡ suc (n - (k + 1)) = omega arith in
    let next : a + k + 1 ≡ a + (k + 1) = omega arith in
    rw e (ap (λ (i : ℕ). put_bytes (slice_set memory (a + k) 0) i (replicate {A = ℕ} (n - (k + 1)) 0)) next)
