-- Facts of each element, of sublists and of images.
use Rattle.std.proofs.Common.{◌≡◌, ◌≤◌, arith, length, Bool, true, false, cond, List, [], ◌∷◌, refl, ap, ◌∙◌, subst, map}
use Rattle.um_words.specs.Sublists.{sub}
use Rattle.um_fine.specs.Runs as Runs
use Rattle.um_history.specs.Played.{Each}

module _ {X : Type 0} where
  pub each-map : (P Q : X → Type 0) → ((x : X) → P x → Q x) → (xs : List X) → Each P xs → Each Q xs
  each-map P Q f [] e = tt
  each-map P Q f (x ∷ xs) e = (f x e.0, each-map P Q f xs e.1)

  pub each-both : (P Q : X → Type 0) → (xs : List X) → Each P xs → Each Q xs → Each (λ x. P x × Q x) xs
  each-both P Q [] e d = tt
  each-both P Q (x ∷ xs) e d = ((e.0, d.0), each-both P Q xs e.1 d.1)

  pub each-sub : (p : X → Bool) (P : X → Type 0) (xs : List X) → Each P xs → Each P (sub p xs)
  each-sub p P [] e = tt
  each-sub p P (x ∷ xs) e = elim (p x) as (λ b. Each P (cond b (x ∷ sub p xs) (sub p xs))) [ true ↦ (e.0, each-sub p P xs e.1) | false ↦ each-sub p P xs e.1 ]

  -- each element of a sublist passes the test
  pub each-tested : (p : X → Bool) (xs : List X) → Each (λ x. p x ≡ true) (sub p xs)
  each-tested p [] = tt
  each-tested p (x ∷ xs) = elim (p x) as (λ b. (p x ≡ b) → Each (λ y. p y ≡ true) (cond b (x ∷ sub p xs) (sub p xs))) [
    | true ↦ λ e. (e, each-tested p xs)
    | false ↦ λ e. each-tested p xs
  ] refl

  -- tests that agree give one sublist
  pub sub-same : (p q : X → Bool) (xs : List X) → Each (λ x. p x ≡ q x) xs → sub p xs ≡ sub q xs
  sub-same p q [] e = refl
  sub-same p q (x ∷ xs) e = λ i. cond (e.0 i) (x ∷ sub-same p q xs e.1 i) (sub-same p q xs e.1 i)

  pub sub-none : (p : X → Bool) (xs : List X) → Each (λ x. p x ≡ false) xs → sub p xs ≡ []
  sub-none p [] e = refl
  sub-none p (x ∷ xs) e = ap (λ b. cond b (x ∷ sub p xs) (sub p xs)) e.0 ∙ sub-none p xs e.1

  -- what holds of each element under each key holds of all
  module _ {K : Type 0} (t : K → X → Bool) (key : X → K) (own : (x : X) → t (key x) x ≡ true) (P : X → Type 0) where
    less : (x : X) (xs : List X) (b : Bool) (n : K) → Each P (cond b (x ∷ sub (t n) xs) (sub (t n) xs)) → Each P (sub (t n) xs)
    less x xs true n e = e.1
    less x xs false n e = e

    pub each-keyed : (xs : List X) → ((n : K) → Each P (sub (t n) xs)) → Each P xs
    each-keyed [] f = tt
    each-keyed (x ∷ xs) f =
        let top : Each P (x ∷ sub (t (key x)) xs) = subst (λ b. Each P (cond b (x ∷ sub (t (key x)) xs) (sub (t (key x)) xs))) (own x) (f (key x)) in
        (top.0, each-keyed xs (λ n. less x xs (t n x) n (f n)))

module _ {X Y : Type 0} (f : X → Y) where
  pub sub-map : (p : Y → Bool) (xs : List X) → sub p (map f xs) ≡ map f (sub (λ x. p (f x)) xs)
  sub-map p [] = refl
  sub-map p (x ∷ xs) = elim (p (f x)) as (λ b. cond b (f x ∷ sub p (map f xs)) (sub p (map f xs)) ≡ map f (cond b (x ∷ sub (λ z. p (f z)) xs) (sub (λ z. p (f z)) xs))) [
    | true ↦ ap (λ l. f x ∷ l) (sub-map p xs)
    | false ↦ sub-map p xs
  ]

  pub none-mapped : (xs : List X) → map f xs ≡ [] → xs ≡ []
  none-mapped [] e = refl
  none-mapped (x ∷ xs) e = absurd (cc)

  pub each-mapped : (P : Y → Type 0) (xs : List X) → Each (λ x. P (f x)) xs → Each P (map f xs)
  each-mapped P [] e = tt
  each-mapped P (x ∷ xs) e = (e.0, each-mapped P xs e.1)

module _ {X Y Z : Type 0} where
  pub map-map : (f : X → Y) (g : Y → Z) (xs : List X) → map g (map f xs) ≡ map (λ x. g (f x)) xs
  map-map f g [] = refl
  map-map f g (x ∷ xs) = ap (λ l. g (f x) ∷ l) (map-map f g xs)

-- a sublist is no longer than its list
pub short-sub : {X : Type 0} (p : X → Bool) (xs : List X) → length (Runs.sub p xs) ≤ length xs
short-sub p [] = omega arith
short-sub p (x ∷ xs) = elim (p x) as (λ b. length (cond b (x ∷ Runs.sub p xs) (Runs.sub p xs)) ≤ length (x ∷ xs)) [
  | true ↦ let more = short-sub p xs in omega (arith, more)
  | false ↦ let more = short-sub p xs in omega (arith, more)
]
