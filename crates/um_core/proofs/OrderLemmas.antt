-- What an order of processors prefers, turn by turn.
use Rattle.std.proofs.Common.{◌≡◌, ℕ, zero, suc, ◌+◌, ◌%◌, List, [], ◌∷◌, ◌++◌, Option, Some, None, append_assoc, arith, refl, sym, ap, ◌∙◌}
use Rattle.std.proofs.Math.Nat.{mod-add-mod, mod-mod}
use Rattle.um_core.specs.declared.order.Order.{Order}
use Rattle.um_core.specs.Order.{coming, preferred, round_from}

round-same : (cpus i j n : ℕ) → i % cpus ≡ j % cpus → round_from cpus i n ≡ round_from cpus j n
round-same cpus i j zero same = refl
round-same cpus i j (suc n) same =
    let next : (i + 1) % cpus ≡ (j + 1) % cpus = sym (mod-add-mod i cpus 1) ∙ ap (λ r. (r + 1) % cpus) same ∙ mod-add-mod j cpus 1 in
    rw (same, round-same cpus (i + 1) (j + 1) n next) refl

-- where the next processor is kept as a remainder
pub round-on : (cpus i n : ℕ) → round_from cpus ((i % cpus + 1) % cpus) n ≡ round_from cpus (i + 1) n
round-on cpus i n = round-same cpus ((i % cpus + 1) % cpus) (i + 1) n (mod-mod (i % cpus + 1) cpus ∙ mod-add-mod i cpus 1)

-- an order prefers what is left, behind the first so many turns
abbrev pub Left : ℕ → Option ℕ → ℕ → Order → Type 0
Left cpus pick i order = (n : ℕ) → preferred cpus pick (i + n) ≡ preferred cpus pick i ++ coming cpus order n

none-coming : (cpus : ℕ) (order : Order) → coming cpus order 0 ≡ []
none-coming cpus (Order.Round next) = refl
none-coming cpus (Order.Drawn words) = refl

pub none-preferred : (cpus : ℕ) (pick : Option ℕ) → preferred cpus pick 0 ≡ []
none-preferred cpus None = refl
none-preferred cpus (Some seed) = refl

pub all-left : (cpus : ℕ) (pick : Option ℕ) (order : Order) → ((n : ℕ) → coming cpus order n ≡ preferred cpus pick n) → Left cpus pick 0 order
all-left cpus pick order coming-all n =
    let none : 0 + n ≡ n = omega arith in
    ap (λ (k : ℕ). preferred cpus pick k) none ∙ sym (coming-all n) ∙ ap (λ (firsts : List ℕ). firsts ++ coming cpus order n) (sym (none-preferred cpus pick))

pub order-first : (cpus : ℕ) (pick : Option ℕ) (i first : ℕ) (order order2 : Order) → Left cpus pick i order → ((n : ℕ) → coming cpus order (suc n) ≡ first ∷ coming cpus order2 n)
    → preferred cpus pick (i + 1) ≡ preferred cpus pick i ++ first ∷ []
order-first cpus pick i first order order2 left on =
    left 1 ∙ ap (λ (firsts : List ℕ). preferred cpus pick i ++ firsts) (on 0 ∙ ap (λ (rest : List ℕ). first ∷ rest) (none-coming cpus order2))

pub order-left : (cpus : ℕ) (pick : Option ℕ) (i first : ℕ) (order order2 : Order) → Left cpus pick i order → ((n : ℕ) → coming cpus order (suc n) ≡ first ∷ coming cpus order2 n)
    → Left cpus pick (i + 1) order2
order-left cpus pick i first order order2 left on n =
    let count : i + 1 + n ≡ i + suc n = omega arith in
    ap (λ (m : ℕ). preferred cpus pick m) count ∙ left (suc n) ∙ ap (λ (firsts : List ℕ). preferred cpus pick i ++ firsts) (on n)
    ∙ sym (append_assoc (preferred cpus pick i) (first ∷ []) (coming cpus order2 n))
    ∙ ap (λ (firsts : List ℕ). firsts ++ coming cpus order2 n) (sym (order-first cpus pick i first order order2 left on))
