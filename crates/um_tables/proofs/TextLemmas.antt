-- Texts that are read byte by byte, and that no byte stands past the last address.
use Rattle.std.proofs.Common.{◌≡◌, ℕ, zero, suc, ◌+◌, ◌-◌, ◌<◌, ◌≤◌, ◌^◌, Bool, true, false, refl, ◌∙◌, arith, if◌then◌else◌, ◌==◌, List, [], ◌∷◌, drop, length, ap}
use Rattle.std.proofs.lemmas.Bool.{le-ltb}
use Rattle.um_base.specs.declared.act.Found.{Found}
use Rattle.um_base.specs.declared.image.Image.{Image}
use Rattle.um_base.specs.declared.limits.TheConstants.{AREA_SIZE, STACK_AREA, PARTITION_AREA}
use Rattle.um_fine.specs.Memory.{Bytes, byte_at, text_bytes, text_found}

drop-past : (xs : List ℕ) (n : ℕ) → length xs ≤ n → drop n xs ≡ []
drop-past [] zero h = refl
drop-past [] (suc n) h = refl
drop-past (x ∷ xs) zero h = absurd (omega arith)
drop-past (x ∷ xs) (suc n) h = drop-past xs n (omega arith)

-- no byte stands there
pub no_byte : (image : Image) (m : Bytes) (a before : ℕ) → length m.stacks ≤ AREA_SIZE → 2 ^ 32 ≤ a + before → byte_at image m (a + before) ≡ 0
no_byte image m a before few h =
    rw (le-ltb (a + before) PARTITION_AREA (omega arith), le-ltb (a + before) STACK_AREA (omega arith), drop-past m.stacks (a + before - STACK_AREA) (omega arith)) refl

module _ (image : Image) (m : Bytes) (a before n : ℕ) where
  found-more : before < n
      → text_found image m (a + before) (n - before) before
      ≡ (if byte_at image m (a + before) == 0 then Found.Length before else text_found image m (a + (before + 1)) (n - (before + 1)) (before + 1))
  found-more h =
      let e : n - before ≡ suc (n - (before + 1)) = omega arith in
      let next : a + before + 1 ≡ a + (before + 1) = omega arith in
      rw e (ap (λ (i : ℕ). if byte_at image m (a + before) == 0 then Found.Length before else text_found image m i (n - (before + 1)) (before + 1)) next)

  bytes-more : before < n
      → text_bytes image m (a + before) (n - before)
      ≡ (if byte_at image m (a + before) == 0 then [] else byte_at image m (a + before) ∷ text_bytes image m (a + (before + 1)) (n - (before + 1)))
  bytes-more h =
      let e : n - before ≡ suc (n - (before + 1)) = omega arith in
      let next : a + before + 1 ≡ a + (before + 1) = omega arith in
      rw e (ap (λ (i : ℕ). if byte_at image m (a + before) == 0 then [] else byte_at image m (a + before) ∷ text_bytes image m i (n - (before + 1))) next)

  -- a text goes on with a byte that isn't zero
  pub found-next : before < n → (byte_at image m (a + before) == 0) ≡ false
      → text_found image m (a + before) (n - before) before ≡ text_found image m (a + (before + 1)) (n - (before + 1)) (before + 1)
  found-next h more =
      found-more h ∙ ap (λ (b : Bool). if b then Found.Length before else text_found image m (a + (before + 1)) (n - (before + 1)) (before + 1)) more

  pub bytes-next : before < n → (byte_at image m (a + before) == 0) ≡ false
      → text_bytes image m (a + before) (n - before) ≡ byte_at image m (a + before) ∷ text_bytes image m (a + (before + 1)) (n - (before + 1))
  bytes-next h more =
      bytes-more h ∙ ap (λ (b : Bool). if b then [] else byte_at image m (a + before) ∷ text_bytes image m (a + (before + 1)) (n - (before + 1))) more

  -- it ends at a zero
  pub found-zero : before < n → (byte_at image m (a + before) == 0) ≡ true → text_found image m (a + before) (n - before) before ≡ Found.Length before
  found-zero h zero-is =
      found-more h ∙ ap (λ (b : Bool). if b then Found.Length before else text_found image m (a + (before + 1)) (n - (before + 1)) (before + 1)) zero-is

  pub bytes-zero : before < n → (byte_at image m (a + before) == 0) ≡ true → text_bytes image m (a + before) (n - before) ≡ []
  bytes-zero h zero-is =
      bytes-more h ∙ ap (λ (b : Bool). if b then [] else byte_at image m (a + before) ∷ text_bytes image m (a + (before + 1)) (n - (before + 1))) zero-is

  -- or after this many bytes
  pub found-end : n ≤ before → text_found image m (a + before) (n - before) before ≡ (if before == 32 then Found.TooLong else Found.Unreadable)
  found-end h = let e : n - before ≡ 0 = omega arith in rw e refl
