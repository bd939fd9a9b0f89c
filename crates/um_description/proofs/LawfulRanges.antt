-- Numbers that are in their limits: regions, pools and read-only data.
use Rattle.std.proofs.Common.{◌≡◌, ℕ, ◌+◌, ◌*◌, ◌/◌, ◌-◌, ◌^◌, ◌≤◌, min, Bool, true, false, ◌||◌, ◌==◌, nat_le, List, [], ◌∷◌, length, map, IsTrue, if◌then◌else◌, Some, None, ℤ, pos, negsuc, int_lt, refl, arith}
use Rattle.std.specs.List.{list_any, list_all}
use Rattle.std.proofs.lemmas.Bool.{false≢true, true≢false}
use Rattle.std.proofs.lemmas.Bool.Decides.{nat_tests}
use Rattle.um_base.specs.declared.image.Pool.{Pool}
use Rattle.um_base.specs.declared.limits.TheConstants.{AREA_ENTRY, POOLS, RODATA}
use Rattle.um_base.specs.declared.names.Mpu.{Mpu}
use Rattle.um_base.specs.Lawful.{is_within, is_rounded, RodataStands}
use Rattle.um_base.specs.Layout.{first_from, powers, rounded}
use Rattle.um_document.specs.declared.description.Description.{Description}
use Rattle.um_document.specs.declared.description.PoolEntry.{PoolEntry}
use Rattle.um_document.specs.declared.place.Place.{Place}
use Rattle.um_document.specs.declared.shape.Key.{Key}
use Rattle.um_document.specs.declared.shape.Section.{Section}
use Rattle.um_description.specs.declared.flaw.Counted.TheVariants as counted
use Rattle.um_description.specs.declared.flaw.Flaw.{Flaw}
use Rattle.um_description.specs.Limits.{outside, longer, one_too_many, pool_limits, top_limits}
use Rattle.um_description.specs.Names.{each}
use Rattle.um_description.specs.Numbers.{natural, clamped}
use Rattle.um_description.specs.Resolve.{pool_of, rodata_range, range_at}
use Rattle.um_description.proofs.LawfulLists.{no_front, no_back, and_true, both_true, none_if, all_each, any_last}

none_outside : (a b : Bool) (x y : Flaw) → (if a then x ∷ [] else if b then y ∷ [] else []) ≡ [] → (a ≡ false) × (b ≡ false)
none_outside true b x y h = absurd cc
none_outside false true x y h = absurd cc
none_outside false false x y h = (refl, refl)

-- a number that isn't outside its range
pub inside : (key : Key) (low high : ℤ) (place : Place) (n : ℤ) → outside key low high place n ≡ [] → (int_lt n low ≡ false) × (int_lt high n ≡ false)
inside key low high place n h =
    none_outside (int_lt n low) (int_lt high n) (Flaw.Limit (counted.Key key) low place) (Flaw.Limit (counted.Key key) high place) h

pub record IsIn (low high n : ℕ) : Type 0 where
  pub least : low ≤ n
  pub most : n ≤ high

within_by : (low high : ℕ) (z : ℤ) → int_lt z (pos low) ≡ false → int_lt (pos high) z ≡ false → IsIn low high (natural z)
within_by low high (pos n) h k = record { least = grind (arith, nat_tests); most = grind (arith, nat_tests) }
within_by low high (negsuc n) h k = absurd (true≢false h)

pub natural_in : (key : Key) (low high : ℕ) (place : Place) (n : ℤ) → outside key (pos low) (pos high) place n ≡ [] → IsIn low high (natural n)
natural_in key low high place n h = let both = inside key (pos low) (pos high) place n h in within_by low high n both.0 both.1

small_in : (low high n : ℕ) → high ≤ 2 ^ 32 - 1 → IsIn low high n → IsIn low high (min n (2 ^ 32 - 1))
small_in low high n small h = record { least = omega (arith, h.least, h.most); most = omega (arith, h.least, h.most) }

pub clamped_in : (key : Key) (low high : ℕ) (place : Place) (n : ℤ) → high ≤ 2 ^ 32 - 1 → outside key (pos low) (pos high) place n ≡ [] → IsIn low high (clamped n)
clamped_in key low high place n small h = small_in low high (natural n) small (natural_in key low high place n h)

pub is_within-IsIn : (low high n : ℕ) → IsIn low high n → IsTrue (is_within low high n)
is_within-IsIn low high n h = let least = h.least in let most = h.most in grind (arith, nat_tests)

-- ---- regions and pools

pub regions_in : (d : Description) → top_limits d ≡ [] → IsIn 4 32 (natural d.regions)
unfolding top_limits
regions_in d h =
    natural_in Key.Regions 4 32 (Place.Top Key.Regions) d.regions
    (no_front (outside Key.Regions (pos 4) (pos 32) (Place.Top Key.Regions) d.regions) (longer Key.Rodata (pos AREA_ENTRY) (Place.Top Key.Rodata) (length d.rodata)) h)

pub regions_lawful : (d : Description) → top_limits d ≡ [] → IsTrue (is_within 4 32 (min (natural d.regions) 255))
regions_lawful d h =
    let regions = regions_in d h in
    is_within-IsIn 4 32 (min (natural d.regions) 255) (record { least = omega (arith, regions.least, regions.most); most = omega (arith, regions.least, regions.most) })

pool_lawful : (i : ℕ) (p : PoolEntry) → pool_limits i p ≡ [] → IsTrue (nat_le (clamped p.size) AREA_ENTRY)
unfolding pool_limits
pool_lawful i p h =
    let size = clamped_in Key.Size 0 65536 (Place.Field Section.Pool i Key.Size) p.size (omega arith)
    (no_back (one_too_many Section.Pool POOLS i) (outside Key.Size (pos 0) (pos AREA_ENTRY) (Place.Field Section.Pool i Key.Size) p.size) h) in
    let most = size.most in grind (arith, nat_tests)

pub pools_lawful : (pools : List PoolEntry) → each pool_limits 0 pools ≡ [] → IsTrue (list_all (λ (p : Pool). nat_le p.size AREA_ENTRY) (map pool_of pools))
pools_lawful pools h = all_each pool_limits pool_of (λ (p : Pool). nat_le p.size AREA_ENTRY) pool_lawful 0 pools h

-- ---- rounded sizes

by_first : (T : ℕ → Bool) (n p r : ℕ) (b : Bool) → nat_le n p ≡ b → IsTrue (T p) → (b ≡ false → IsTrue (T r) × (n ≤ r)) → IsTrue (T (if b then p else r)) × (n ≤ (if b then p else r))
by_first T n p r true is here rest = (here, grind (arith, nat_tests))
by_first T n p r false is here rest = rest refl

or_false : (a b : Bool) → IsTrue (a || b) → a ≡ false → IsTrue b
or_false true b h k = absurd (true≢false k)
or_false false b h k = h

first_passes : (T : ℕ → Bool) (ps : List ℕ) (n : ℕ) → IsTrue (list_all T ps) → IsTrue (list_any (λ p. nat_le n p) ps) → IsTrue (T (first_from ps n)) × (n ≤ first_from ps n)
first_passes T [] n all any = absurd (false≢true any)
first_passes T (p ∷ ps) n all any =
    let both = and_true (T p) (list_all T ps) all in
    by_first T n p (first_from ps n) (nat_le n p) refl both.0 (λ no. first_passes T ps n both.1 (or_false (nat_le n p) (list_any (λ q. nat_le n q) ps) any no))

pub record IsRounded (mpu : Mpu) (n : ℕ) : Type 0 where
  pub guarded : IsTrue (is_rounded mpu (rounded mpu n))
  pub room : n ≤ rounded mpu n

pub rounded_size : (mpu : Mpu) (n : ℕ) → IsIn 1 65536 n → IsRounded mpu n
rounded_size Mpu.V7 n h =
    let most = h.most in
    let last : IsTrue (nat_le n 65536) = grind (arith, nat_tests) in
    let some : IsTrue (list_any (λ p. nat_le n p) powers) =
    any_last (λ p. nat_le n p) (32 ∷ 64 ∷ 128 ∷ 256 ∷ 512 ∷ 1024 ∷ 2048 ∷ 4096 ∷ 8192 ∷ 16384 ∷ 32768 ∷ []) 65536 last in
    let found = first_passes (is_rounded Mpu.V7) powers n refl some in
    record { guarded = found.0; room = found.1 }
rounded_size Mpu.V8 n h =
    let least = h.least in
    let most = h.most in
    let low : 1 ≤ (n + 31) / 32 * 32 = omega arith in
    let high : (n + 31) / 32 * 32 ≤ 65536 = omega arith in
    let again : ((n + 31) / 32 * 32 + 31) / 32 * 32 ≡ (n + 31) / 32 * 32 = omega arith in
    record {
      guarded = both_true (is_within 1 65536 ((n + 31) / 32 * 32)) (((n + 31) / 32 * 32 + 31) / 32 * 32 == (n + 31) / 32 * 32)
          (is_within-IsIn 1 65536 ((n + 31) / 32 * 32) (record { least = low; most = high })) (grind (arith, nat_tests, again));
      room = omega arith;
    }

-- ---- the read-only data

no_bytes : (xs : List ℕ) → (length xs == 0) ≡ true → xs ≡ []
no_bytes [] h = refl
no_bytes (x ∷ xs) h = grind (arith, nat_tests)

rodata_by : (mpu : Mpu) (xs : List ℕ) (b : Bool) → (length xs == 0) ≡ b → length xs ≤ 65536
    → RodataStands mpu xs (if b then None else Some (range_at RODATA (rounded mpu (length xs))))
rodata_by mpu xs true is h = no_bytes xs is
rodata_by mpu xs false is h = (is_within-IsIn 1 65536 (length xs) (record { least = grind (arith, nat_tests); most = h }), refl)

pub rodata_lawful : (d : Description) → top_limits d ≡ [] → RodataStands d.mpu d.rodata (rodata_range d)
unfolding top_limits
rodata_lawful d h =
    let no = none_if (int_lt (pos AREA_ENTRY) (pos (length d.rodata))) (Flaw.Limit (counted.Key Key.Rodata) (pos AREA_ENTRY) (Place.Top Key.Rodata))
    (no_back (outside Key.Regions (pos 4) (pos 32) (Place.Top Key.Regions) d.regions) (longer Key.Rodata (pos AREA_ENTRY) (Place.Top Key.Rodata) (length d.rodata)) h) in
    let most : length d.rodata ≤ 65536 = grind (arith, nat_tests) in
    rodata_by d.mpu d.rodata (length d.rodata == 0) refl most
