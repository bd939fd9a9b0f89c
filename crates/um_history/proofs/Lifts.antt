-- A list of records in the same order as the records of some steps is the records of those steps, taken in that order.
use Rattle.std.proofs.Common.{◌≡◌, ℕ, true, false, cond, eqb, List, [], ◌∷◌, ◌++◌, sym, refl, ap, ◌∙◌, subst, map}
use Rattle.um_fine.specs.Runs.{has_key, sublist, SameAt}
use Rattle.um_fine.proofs.Subs.{sub-append}
use Rattle.um_merge.proofs.Orders.{first_of, sublist_moves, sublist_head}

module _ {E F : Type 0} (f : E → F) (key : F → ℕ) where
  pub sublist_map : (k : ℕ) (h : List E) → sublist eqb key k (map f h) ≡ map f (sublist eqb (λ e. key (f e)) k h)
  sublist_map k [] = refl
  sublist_map k (x ∷ xs) = elim (eqb (key (f x)) k) as (λ b. cond b (f x ∷ sublist eqb key k (map f xs)) (sublist eqb key k (map f xs)) ≡ map f (cond b (x ∷ sublist eqb (λ e. key (f e)) k xs) (sublist eqb (λ e. key (f e)) k xs))) [
    | true ↦ ap (λ l. f x ∷ l) (sublist_map k xs)
    | false ↦ sublist_map k xs
  ]

no_end : {F : Type 0} (xs ys : List F) (a : F) → xs ++ a ∷ ys ≡ [] → ⊥
no_end [] ys a e = cc
no_end (x ∷ xs) ys a e = cc

module _ {F : Type 0} (key : F → ℕ) where
  -- what stands after the same first step
  pub same_behind_head : (x : F) (a b : List F) → SameAt eqb key (x ∷ a) (x ∷ b) → SameAt eqb key a b
  same_behind_head x a b s k = (elim (eqb (key x) k) as (λ v. cond v (x ∷ sublist eqb key k a) (sublist eqb key k a) ≡ cond v (x ∷ sublist eqb key k b) (sublist eqb key k b) → sublist eqb key k a ≡ sublist eqb key k b) [
    | true ↦ λ e. cc
    | false ↦ λ e. e
  ]) (s k)

  pub same_with_head : (x : F) (a b : List F) → SameAt eqb key a b → SameAt eqb key (x ∷ a) (x ∷ b)
  same_with_head x a b s k = ap (λ l. cond (eqb (key x) k) (x ∷ l) l) (s k)

  -- a step that is there has its place in the sublist of its key
  there_not_nil : (p q : List F) (a : F) → sublist eqb key (key a) (p ++ a ∷ q) ≡ [] → ⊥
  there_not_nil p q a e = no_end (sublist eqb key (key a) p) (sublist eqb key (key a) q) a (sym (sub-append (has_key eqb key (key a)) p (a ∷ q) ∙ ap (λ l. sublist eqb key (key a) p ++ l) (sublist_head key a q)) ∙ e)

module _ {E F : Type 0} (f : E → F) (cpu site : F → ℕ) where
  other_key : (pre rest : List E) (i : ℕ) (a : E) (k : ℕ) → sublist eqb (λ e. site (f e)) i pre ≡ a ∷ rest → cpu (f a) ≡ k → sublist eqb (λ e. cpu (f e)) k pre ≡ [] → ⊥
  other_key pre rest i a k s c none = let t = first_of (λ e. site (f e)) i pre a rest s in
      there_not_nil (λ e. cpu (f e)) t.0 t.1 a (ap (sublist eqb (λ e. cpu (f e)) (cpu (f a))) (sym t.2) ∙ (ap (λ j. sublist eqb (λ e. cpu (f e)) j pre) c ∙ none))

  lift_head : (x : F) (xs : List F) (ys : List E) → map f ys ≡ x ∷ xs → (e : E) × (es : List E) × (ys ≡ e ∷ es) × (f e ≡ x)
  lift_head x xs [] e = absurd (cc)
  lift_head x xs (y ∷ ys) e = let p : f y ≡ x = cc in (y, ys, refl, p)

  -- nothing before it is at its site
  no_site : (pre post h : List E) (e : E) (x : F) → h ≡ pre ++ e ∷ post → sublist eqb (λ z. cpu (f z)) (cpu x) pre ≡ []
      → ((a : E) × (rest : List E) × (sublist eqb (λ z. site (f z)) (site x) h ≡ a ∷ rest) × (f a ≡ x)) → sublist eqb (λ z. site (f z)) (site x) pre ≡ []
  no_site pre post h e x split none (a, rest, first, is) = elim (sublist eqb (λ z. site (f z)) (site x) pre) as (λ l. (sublist eqb (λ z. site (f z)) (site x) pre ≡ l) → l ≡ []) [
    | [] ↦ λ q. refl
    | b ∷ bs ↦ λ q. let all : (b ∷ bs) ++ sublist eqb (λ z. site (f z)) (site x) (e ∷ post) ≡ a ∷ rest = ap (λ l. l ++ sublist eqb (λ z. site (f z)) (site x) (e ∷ post)) (sym q) ∙ (sym (ap (sublist eqb (λ z. site (f z)) (site x)) split ∙ sub-append (has_key eqb (λ z. site (f z)) (site x)) pre (e ∷ post)) ∙ first) in
        let same : b ≡ a = cc in absurd (other_key pre bs (site x) b (cpu x) q (ap (λ z. cpu (f z)) same ∙ ap cpu is) none)
  ] refl

  -- the places of a first step and of those after it
  joined : (key : E → ℕ) (h mid end : List E) (e : E) → SameAt eqb key h (e ∷ mid) → SameAt eqb key mid end → SameAt eqb key h (e ∷ end)
  joined key h mid end e s t k = s k ∙ same_with_head key e mid end t k

  moved-out : (key : E → ℕ) (h pre post : List E) (e : E) → h ≡ pre ++ e ∷ post → sublist eqb key (key e) pre ≡ [] → SameAt eqb key h (e ∷ (pre ++ post))
  moved-out key h pre post e split none k = ap (sublist eqb key k) split ∙ sublist_moves key pre post e none k

  -- what stands after the first step in the images
  behind : (key : F → ℕ) (h mid : List E) (e : E) (x : F) (xs : List F) → f e ≡ x → SameAt eqb (λ z. key (f z)) h (e ∷ mid) → SameAt eqb key (map f h) (x ∷ xs) → SameAt eqb key (map f mid) xs
  behind key h mid e x xs is moved same = same_behind_head key x (map f mid) xs front
    where
      front : SameAt eqb key (x ∷ map f mid) (x ∷ xs)
      front k =
          let turned : sublist eqb key k (x ∷ map f mid) ≡ sublist eqb key k (map f (e ∷ mid)) = ap (λ z. sublist eqb key k (z ∷ map f mid)) (sym is) in
          let images : sublist eqb key k (map f (e ∷ mid)) ≡ map f (sublist eqb (λ z. key (f z)) k (e ∷ mid)) = sublist_map f key k (e ∷ mid) in
          let back : map f (sublist eqb (λ z. key (f z)) k (e ∷ mid)) ≡ map f (sublist eqb (λ z. key (f z)) k h) = ap (map f) (sym (moved k)) in
          turned ∙ images ∙ back ∙ sym (sublist_map f key k h) ∙ same k

  pub lift : (r : List F) (h : List E) → SameAt eqb cpu (map f h) r → SameAt eqb site (map f h) r
      → (g : List E) × (map f g ≡ r) × SameAt eqb (λ e. cpu (f e)) h g × SameAt eqb (λ e. site (f e)) h g
  lift [] [] c s = ([], refl, (λ k. refl), λ k. refl)
  lift [] (e ∷ es) c s = absurd (there_not_nil cpu [] (map f es) (f e) (c (cpu (f e))))
  lift (x ∷ xs) h c s =
      let top = lift_head x (sublist eqb cpu (cpu x) xs) (sublist eqb (λ e. cpu (f e)) (cpu x) h) (sym (sublist_map f cpu (cpu x) h) ∙ (c (cpu x) ∙ sublist_head cpu x xs)) in
      let site_top = lift_head x (sublist eqb site (site x) xs) (sublist eqb (λ e. site (f e)) (site x) h) (sym (sublist_map f site (site x) h) ∙ (s (site x) ∙ sublist_head site x xs)) in
      take-out x xs h top.0 top.1 site_top top.2 top.3 c s (λ mid a b. lift xs mid a b)
    where
      take-out : (x : F) (xs : List F) (h : List E) (e : E) (es : List E) → ((a : E) × (rest : List E) × (sublist eqb (λ z. site (f z)) (site x) h ≡ a ∷ rest) × (f a ≡ x))
          → sublist eqb (λ z. cpu (f z)) (cpu x) h ≡ e ∷ es → f e ≡ x → SameAt eqb cpu (map f h) (x ∷ xs) → SameAt eqb site (map f h) (x ∷ xs)
          → ((mid : List E) → SameAt eqb cpu (map f mid) xs → SameAt eqb site (map f mid) xs
          → (g : List E) × (map f g ≡ xs) × SameAt eqb (λ e. cpu (f e)) mid g × SameAt eqb (λ e. site (f e)) mid g)
          → (g : List E) × (map f g ≡ x ∷ xs) × SameAt eqb (λ e. cpu (f e)) h g × SameAt eqb (λ e. site (f e)) h g
      take-out x xs h e es site_top first is c s more =
          let (pre, post, split, none, at) = first_of (λ z. cpu (f z)) (cpu x) h e es first in
          let mid = pre ++ post in
          let none-there : sublist eqb (λ z. site (f z)) (site x) pre ≡ [] = no_site pre post h e x split none site_top in
          let by-cpu : SameAt eqb (λ z. cpu (f z)) h (e ∷ mid) = moved-out (λ z. cpu (f z)) h pre post e split (subst (λ (j : ℕ). sublist eqb (λ z. cpu (f z)) j pre ≡ []) (ap cpu (sym is)) none) in
          let by-site : SameAt eqb (λ z. site (f z)) h (e ∷ mid) = moved-out (λ z. site (f z)) h pre post e split (subst (λ (j : ℕ). sublist eqb (λ z. site (f z)) j pre ≡ []) (ap site (sym is)) none-there) in
          let (g, images, cpus, sites) = more mid (behind cpu h mid e x xs is by-cpu c) (behind site h mid e x xs is by-site s) in
          (e ∷ g, (λ i. is i ∷ images i), joined (λ z. cpu (f z)) h mid g e by-cpu cpus, joined (λ z. site (f z)) h mid g e by-site sites)
