-- How many bytes may be read one by one at the end of the addresses.
use Rattle.std.proofs.Common.{◌≡◌, ℕ, zero, suc, ◌+◌, ◌^◌, ◌≤◌, Bool, true, false, refl, sym, ap, ◌∙◌, arith}
use Rattle.std.proofs.lemmas.Bool.{lt-leb}
use Rattle.std.specs.Prelude.{◌&&◌, nat_le, if◌then◌else◌}
use Rattle.std.specs.List.{list_any}
use Rattle.um_base.specs.declared.image.Image.{Image}
use Rattle.um_base.specs.declared.names.Access.{Access}
use Rattle.um_base.specs.Regions.{region_allows}
use Rattle.um_fine.specs.Asks.{allows, readable}
use Rattle.um_fine.specs.Processor.{Processor, loaded}

module _ (image : Image) (p : Processor) where
  -- none may be read past the last address
  past : (a n : ℕ) → nat_le (a + 1) (2 ^ 32) ≡ false → readable image p a n ≡ 0
  past a zero h = refl
  past a (suc n) h =
      ap (λ (b : Bool). if b && list_any (region_allows Access.Read a 1) (loaded image p.table) then readable image p (a + 1) n + 1 else 0) h

  pub last-readable : (a n : ℕ) → (n ≡ 0 → ⊥) → allows image p Access.Read a 1 ≡ true → 2 ^ 32 ≤ a + 1 → 1 ≡ readable image p a n
  last-readable a zero h may top = absurd (h refl)
  last-readable a (suc n) h may top =
      let end = past (a + 1) n (lt-leb (a + 1 + 1) (2 ^ 32) (omega arith)) in
      sym (ap (λ (b : Bool). if b then readable image p (a + 1) n + 1 else 0) may ∙ ap (λ (k : ℕ). k + 1) end)
