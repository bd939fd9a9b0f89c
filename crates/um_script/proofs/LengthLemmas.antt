-- A word is looked for among those of its length alone.
use Rattle.std.proofs.Common.{◌≡◌, ◌==◌, ℕ, Bool, true, false, List, [], ◌∷◌, length, bytes_eq, refl, ap, arith}
use Rattle.std.specs.Prelude.{find, filter}
use Rattle.std.proofs.lemmas.Bool.Decides.{nat_tests}
use Rattle.std.proofs.lemmas.Slice.Eq.{bytes_eq-Decides}
use Rattle.um_script.specs.declared.mnemonic.Mnemonic.{Mnemonic}
use Rattle.um_script.specs.Instructions.{spelling}

eq_refl : (n : ℕ) → (n == n) ≡ true
eq_refl n = grind (arith, nat_tests)

-- words of different lengths differ
differs : (word other : List ℕ) (b : Bool) → (length other == length word) ≡ false → bytes_eq word other ≡ b → b ≡ false
differs word other false apart is = refl
differs word other true apart is =
    let same = (bytes_eq-Decides word other).0 is in
    absurd (cc (apart, eq_refl (length word), ap length same))

-- those of another length aren't found
pub found_by_length : (word : List ℕ) (n : ℕ) (some : List Mnemonic) → length word ≡ n
    → find (λ m. bytes_eq word (spelling m)) (filter (λ m. length (spelling m) == n) some) ≡ find (λ m. bytes_eq word (spelling m)) some
found_by_length word n [] is = refl
found_by_length word n (m ∷ some) is =
    let rest = found_by_length word n some is in
    elim (length (spelling m) == n) as (λ t. (length (spelling m) == n) ≡ t → find (λ m. bytes_eq word (spelling m)) (filter (λ m. length (spelling m) == n) (m ∷ some)) ≡ find (λ m. bytes_eq word (spelling m)) (m ∷ some)) [
      | true ↦ λ same. rw (same, rest) refl
      | false ↦ λ apart. rw (apart, rest, differs word (spelling m) (bytes_eq word (spelling m)) (rw is apart) refl) refl
    ] refl
