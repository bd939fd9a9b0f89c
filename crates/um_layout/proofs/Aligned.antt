-- Where entries of guarded sizes stand: each at a multiple of what its size asks for.
use Rattle.std.proofs.Common.{◌≡◌, inl, inr, ℕ, zero, suc, ◌+◌, ◌-◌, ◌*◌, ◌%◌, ◌^◌, ◌<◌, ◌≤◌, true, List, length, take, get_or, refl, sym, ap, ◌∙◌, subst, arith}
use Rattle.std.specs.List.{All}
use Rattle.std.specs.Int.{◌∣◌}
use Rattle.std.proofs.Math.Nat.{dvd-add, dvd-mul_right}
use Rattle.std.proofs.Math.Pow.{pow_mono}
use Rattle.std.proofs.lemmas.Nat.{pow-add}
use Rattle.std.proofs.lemmas.Nat.Gcd.{dvd_refl, dvd_trans, dvd_of_mod-eq-zero, mod-eq-zero_of_dvd}
use Rattle.std.proofs.lemmas.Bool.{cases_lt}
use Rattle.std.proofs.lemmas.Bool.Decides.{nat_tests}
use Rattle.um_base.specs.declared.names.Mpu.{Mpu}
use Rattle.um_layout.specs.Sizes.{IsGuarded}
use Rattle.um_layout.specs.Standing.{alignment}
use Rattle.um_layout.specs.Entries.{AreOrdered, before, bytes_of}
use Rattle.um_layout.specs.declared.entries.Entry.{Entry}
use Rattle.um_layout.proofs.Stand.{bytes_more}

power-dvd : (i j : ℕ) → i ≤ j → 2 ^ i ∣ 2 ^ j
power-dvd i j h = let e : 2 ^ i * 2 ^ (j - i) ≡ 2 ^ j = sym (pow-add 2 i (j - i)) ∙ ap (λ k. 2 ^ k) (omega arith) in subst (λ (n : ℕ). 2 ^ i ∣ n) e (dvd-mul_right (2 ^ i) (2 ^ (j - i)))

-- of two powers of two the one that isn't greater divides the other
powers-dvd : (m n i j : ℕ) → m ≡ 2 ^ i → n ≡ 2 ^ j → m ≤ n → m ∣ n
powers-dvd m n i j e f h =
    rw (e, f) (elim (cases_lt j i) [
      | inl less ↦ let same : 2 ^ i ≡ 2 ^ j = omega (arith, pow_mono {i = j} {j = i} (omega arith)) in rw same (dvd_refl (2 ^ j))
      | inr more ↦ power-dvd i j more
    ])

alignment-dvd-size : (mpu : Mpu) (n : ℕ) → IsGuarded mpu n → alignment mpu n ∣ n
alignment-dvd-size Mpu.V7 n h = dvd_refl n
alignment-dvd-size Mpu.V8 n h = dvd_of_mod-eq-zero 32 h.1

alignment-dvd-area : (mpu : Mpu) (n a : ℕ) → IsGuarded mpu n → n ≤ 65536 → a % 65536 ≡ 0 → alignment mpu n ∣ a
alignment-dvd-area Mpu.V7 n a h small area = dvd_trans n (powers-dvd n 65536 h.1.0 16 h.1.1 refl small) (dvd_of_mod-eq-zero 65536 area)
alignment-dvd-area Mpu.V8 n a h small area = dvd_of_mod-eq-zero 32 (omega arith)

not_larger : (x y : Entry) → before Mpu.V7 x y ≡ true → y.size ≤ x.size
not_larger x y h = grind (arith, nat_tests)

alignment-dvd-next : (mpu : Mpu) (x y : Entry) → IsGuarded mpu x.size → IsGuarded mpu y.size → before mpu x y ≡ true → alignment mpu y.size ∣ alignment mpu x.size
alignment-dvd-next Mpu.V7 x y h k order = powers-dvd y.size x.size k.1.0 h.1.0 k.1.1 h.1.1 (not_larger x y order)
alignment-dvd-next Mpu.V8 x y h k order = dvd_refl 32

aligned_from : (mpu : Mpu) (a : ℕ) (ys : List Entry) (d : Entry)
    → All (λ (e : Entry). IsGuarded mpu e.size × (e.size ≤ 65536)) ys → AreOrdered mpu ys → a % 65536 ≡ 0
    → (k : ℕ) → k < length ys → alignment mpu (get_or ys k d).size ∣ a + bytes_of (take k ys)
aligned_from mpu a ys d guarded ordered area zero h =
    let e : a ≡ a + bytes_of (take 0 ys) = omega arith in
    subst (λ (n : ℕ). alignment mpu (get_or ys 0 d).size ∣ n) e (alignment-dvd-area mpu (get_or ys 0 d).size a (guarded 0 d h).0 (guarded 0 d h).1 area)
aligned_from mpu a ys d guarded ordered area (suc k) h =
    let before_it : k < length ys = omega arith in
    let y = get_or ys (suc k) d in
    let x = get_or ys k d in
    let same : suc k ≡ k + 1 = omega arith in
    let more : bytes_of (take (suc k) ys) ≡ bytes_of (take k ys) + x.size = rw same (bytes_more ys k d before_it) in
    let e : (a + bytes_of (take k ys)) + x.size ≡ a + bytes_of (take (suc k) ys) = omega arith in
    let divides = alignment-dvd-next mpu x y (guarded k d before_it).0 (guarded (suc k) d h).0 (ordered k (suc k) d (omega arith) h) in
    subst (λ (n : ℕ). alignment mpu y.size ∣ n) e
    (dvd-add (alignment mpu y.size)
    (dvd_trans (alignment mpu y.size) divides (aligned_from mpu a ys d guarded ordered area k before_it))
    (dvd_trans (alignment mpu y.size) divides (alignment-dvd-size mpu x.size (guarded k d before_it).0)))

pub aligned : (mpu : Mpu) (a : ℕ) (ys : List Entry) (d : Entry)
    → All (λ (e : Entry). IsGuarded mpu e.size × (e.size ≤ 65536)) ys → AreOrdered mpu ys → a % 65536 ≡ 0
    → (k : ℕ) → k < length ys → (a + bytes_of (take k ys)) % alignment mpu (get_or ys k d).size ≡ 0
aligned mpu a ys d guarded ordered area k h = mod-eq-zero_of_dvd (alignment mpu (get_or ys k d).size) (aligned_from mpu a ys d guarded ordered area k h)
