-- Exact tests of equality: they hold of a value and itself alone, as a derived `==` does.
use Rattle.std.specs.Prelude.{◌≡◌, ◌==◌, ◌&&◌, ℕ, Bool, true, false, List, [], ◌∷◌, Option, Some, None, Decides}
use Rattle.std.proofs.Common.{refl, ap, subst}
use Rattle.std.proofs.lemmas.Bool.{false≢true}
use Rattle.std.specs.Cmp.{unsigned_Decides, booleans_Decides}
use Rattle.std.specs.Option.{option_eq}
use mathlib.Core.Logic.{inl, inr}
use mathlib.Core.Bool.{beq}
use denote.Struct.Field.{Field}
use denote.Struct.Values.{Values}
use denote.Enum.Bare.{Bare, sameb, same_true, true_same}
use denote.Enum.Compared.{Each, by}
use denote.Enum.Declared.{Choice, Declared, Record, values_one}

infixr 60 ◌&◌
infixr 50 ◌⊕◌
pub record IsExact {A : Type 0} (E : A → A → Bool) : Type 0 where
  pub same : (x y : A) → E x y ≡ true → x ≡ y
  pub itself : (x : A) → E x x ≡ true

pub exact-decides : {A : Type 0} {E : A → A → Bool} → IsExact E → (x y : A) → Decides (E x y) (x ≡ y)
exact-decides {E = E} e x y = (e.same x y, λ p. subst (λ z. E x z ≡ true) p (e.itself x))

pub exact : {A : Type 0} {E : A → A → Bool} → ((x y : A) → Decides (E x y) (x ≡ y)) → IsExact E
exact d = record { same = λ x y. (d x y).0; itself = λ x. (d x x).1 refl }

pub exact-number : IsExact (λ (x y : ℕ). x == y)
exact-number = exact unsigned_Decides

pub exact-flag : IsExact beq
exact-flag = exact booleans_Decides

first : (s t : Bool) → (s && t) ≡ true → s ≡ true
first true t h = refl
first false t h = h

second : (s t : Bool) → (s && t) ≡ true → t ≡ true
second true t h = h
second false t h = absurd (false≢true h)

-- the fields of a variant, one after another

pub exact-end : IsExact (λ (x y : Unit {0}). true)
exact-end = record { same = λ x y h. refl; itself = λ x. refl }

pub exact-last : {A : Type 0} {E : A → A → Bool} → IsExact E → IsExact (λ (x y : A × Unit {0}). E x.0 y.0)
exact-last e = record { same = λ x y h i. (e.same x.0 y.0 h i, tt); itself = λ x. e.itself x.0 }

pub ◌&◌ : {A B : Type 0} {E : A → A → Bool} {F : B → B → Bool} → IsExact E → IsExact F → IsExact (λ (x y : A × B). E x.0 y.0 && F x.1 y.1)
◌&◌ {E = E} {F = F} e f = record {
  same = λ x y h i. (e.same x.0 y.0 (first (E x.0 y.0) (F x.1 y.1) h) i, f.same x.1 y.1 (second (E x.0 y.0) (F x.1 y.1) h) i);
  itself = λ x i. e.itself x.0 i && f.itself x.1 i;
}

-- enumerations

pub exact-bare : (D : Declared) → Bare D.parts → IsExact (sameb D)
exact-bare D bare = record { same = same_true D bare; itself = λ x. true_same D x x refl }

-- the variants one after another, each with the test of its fields
pub record AreExact (Fss : List (List Field)) (es : Each Bool Fss) : Type 0 where
  pub same : (c d : Choice Fss) → by false false Fss es c d ≡ true → c ≡ d
  pub itself : (c : Choice Fss) → by false false Fss es c c ≡ true

pub exact-done : AreExact [] tt
exact-done = record { same = λ c d h. absurd c; itself = λ c. absurd c }

module _ (Fs : List Field) (Fss : List (List Field)) {E : Values Fs → Values Fs → Bool} {es : Each Bool Fss} (e : IsExact E) (later : AreExact Fss es) where
  choice_same : (c d : Choice (Fs ∷ Fss)) → by false false (Fs ∷ Fss) (E, es) c d ≡ true → c ≡ d
  choice_same (inl x) (inl y) h = ap inl (e.same x y h)
  choice_same (inl x) (inr d) h = absurd (false≢true h)
  choice_same (inr c) (inl y) h = absurd (false≢true h)
  choice_same (inr c) (inr d) h = ap inr (later.same c d h)

  choice_itself : (c : Choice (Fs ∷ Fss)) → by false false (Fs ∷ Fss) (E, es) c c ≡ true
  choice_itself (inl x) = e.itself x
  choice_itself (inr c) = later.itself c

pub ◌⊕◌ : {Fs : List Field} {Fss : List (List Field)} {E : Values Fs → Values Fs → Bool} {es : Each Bool Fss} → IsExact E → AreExact Fss es → AreExact (Fs ∷ Fss) (E, es)
e ⊕ later = record { same = choice_same _ _ e later; itself = choice_itself _ _ e later }

pub exact-enum : (N : Record) {es : Each Bool N.parts} → AreExact N.parts es → IsExact (λ (x y : N.D). by false false N.parts es (N.as_values x) (N.as_values y))
exact-enum N all = record {
  same = λ x y h. values_one N x y (all.same (N.as_values x) (N.as_values y) h);
  itself = λ x. all.itself (N.as_values x);
}

-- options

option_same : {A : Type 0} {E : A → A → Bool} → IsExact E → (x y : Option A) → option_eq E x y ≡ true → x ≡ y
option_same e None None h = refl
option_same e None (Some y) h = absurd (false≢true h)
option_same e (Some x) None h = absurd (false≢true h)
option_same e (Some x) (Some y) h = ap (λ z. Some z) (e.same x y h)

option_itself : {A : Type 0} {E : A → A → Bool} → IsExact E → (x : Option A) → option_eq E x x ≡ true
option_itself e None = refl
option_itself e (Some x) = e.itself x

pub exact-option : {A : Type 0} {E : A → A → Bool} → IsExact E → IsExact (option_eq E)
exact-option e = record { same = option_same e; itself = option_itself e }
