-- Reading the word of a value gives that value: what proofs above cite of it. That this holds of every type is on the contracts of the words.
use Rattle.std.proofs.Common.{◌≡◌, ℕ, IsTrue, Some, refl, sym, subst, arith, inl, inr, ◌⊎◌}
use Rattle.std.proofs.lemmas.Bool.Decides.{nat_tests}
use Rattle.um_base.specs.Lawful.{is_given_attr, is_named_attr}
use Rattle.um_base.specs.declared.attr.Attr.{Attr}
use Rattle.um_base.specs.declared.names.Mpu.{Mpu}
use Rattle.um_base.specs.declared.names.Policy.{Policy}
use Rattle.um_vocabulary.specs.Words.{mpu_word, mpu_named, policy_word, policy_named, attr_word, attr_named, given_attr_named}

pub mpu_again : (m : Mpu) → mpu_named (mpu_word m) ≡ Some m
mpu_again Mpu.V7 = refl
mpu_again Mpu.V8 = refl

pub policy_again : (p : Policy) → policy_named (policy_word p) ≡ Some p
policy_again Policy.Abort = refl
policy_again Policy.Halt = refl

-- what holds of each of the six attributes that a description may give holds of any such
pub by_given_attr : (P : ℕ → Type 0) → P 27 → P 11 → P 3 → P 9 → P 1 → P 45 → (n : ℕ) → IsTrue (is_given_attr (record { 0 = n })) → P n
by_given_attr P a b c d e f n h =
    let one : (n ≡ 27) ⊎ ((n ≡ 11) ⊎ ((n ≡ 3) ⊎ ((n ≡ 9) ⊎ ((n ≡ 1) ⊎ (n ≡ 45))))) = grind (arith, nat_tests) in
    elim one [
      | inl is ↦ subst P (sym is) a
      | inr o ↦ elim o [
        | inl is ↦ subst P (sym is) b
        | inr o ↦ elim o [
          | inl is ↦ subst P (sym is) c
          | inr o ↦ elim o [
            | inl is ↦ subst P (sym is) d
            | inr o ↦ elim o [
              | inl is ↦ subst P (sym is) e
              | inr is ↦ subst P (sym is) f
            ]
          ]
        ]
      ]
    ]

-- and of each of the seven that a line may give
pub by_attr : (P : ℕ → Type 0) → P 27 → P 11 → P 3 → P 9 → P 1 → P 45 → P 63 → (n : ℕ) → IsTrue (is_named_attr (record { 0 = n })) → P n
by_attr P a b c d e f g n h =
    let one : IsTrue (is_given_attr (record { 0 = n })) ⊎ (n ≡ 63) = grind (arith, nat_tests) in
    elim one [
      | inl given ↦ by_given_attr P a b c d e f n given
      | inr is ↦ subst P (sym is) g
    ]

abbrev IsGiven : ℕ → Type 0
IsGiven n = given_attr_named (attr_word (record { 0 = n })) ≡ Some (record { 0 = n })

pub given_attr_again : (a : Attr) → IsTrue (is_given_attr a) → given_attr_named (attr_word a) ≡ Some a
given_attr_again a h = by_given_attr IsGiven refl refl refl refl refl refl a.0 h

abbrev IsNamed : ℕ → Type 0
IsNamed n = attr_named (attr_word (record { 0 = n })) ≡ Some (record { 0 = n })

pub attr_again : (a : Attr) → IsTrue (is_named_attr a) → attr_named (attr_word a) ≡ Some a
attr_again a h = by_attr IsNamed refl refl refl refl refl refl refl a.0 h
