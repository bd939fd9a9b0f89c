-- Sums over processors when one of them makes a step.
use Rattle.um_refinement.proofs.Words.{◌≡◌, ℕ, zero, suc, ◌+◌, ◌<◌, Bool, true, false, cond, refl, sym, ap, ◌∙◌, arith, eq-eqb, ◌==◌, eqb-false, eqb-true, p_next, Processor, FineStep, Fine, over_processors, total, one_if}
use Rattle.um_refinement.proofs.Erased.{stepped}

-- what is counted of a Bool
pub one-true : (b : Bool) → 0 < one_if b → b ≡ true
one-true true h = refl
one-true false h = absurd (omega (arith, h))

pub one-none : (b : Bool) → one_if b ≡ 0 → b ≡ false
one-none true h = absurd (omega (arith, h))
one-none false h = refl

pub total-same : (a b : ℕ → ℕ) (n : ℕ) → ((k : ℕ) → k < n → a k ≡ b k) → total a n ≡ total b n
total-same a b zero h = refl
total-same a b (suc n) h =
    let before = total-same a b n (λ k l. h k (omega (arith, l))) in
    let last = h n (omega arith) in
    omega (arith, before, last)

-- two sums differ in one number
pub total-one : (a b : ℕ → ℕ) (n c : ℕ) → c < n → ((k : ℕ) → (k ≡ c → ⊥) → a k ≡ b k) → total a n + b c ≡ total b n + a c
total-one a b zero c l h = absurd (omega (arith, l))
total-one a b (suc n) c l h = by (n == c) refl (total-one a b n c)
  where
    by : (d : Bool) → (n == c) ≡ d → (c < n → ((k : ℕ) → (k ≡ c → ⊥) → a k ≡ b k) → total a n + b c ≡ total b n + a c)
        → total a (suc n) + b c ≡ total b (suc n) + a c
    by true q more =
        let at = eqb-true n c q in
        let before = total-same a b n (λ k less. h k (λ same. omega (arith, same, at, less))) in
        let first : a n ≡ a c = ap a at in
        let second : b n ≡ b c = ap b at in
        omega (arith, before, first, second)
    by false q more =
        let ne = eqb-false n c q in
        let here = h n ne in
        let rest = more (below ne) h in
        omega (arith, rest, here)
      where
        below : (n ≡ c → ⊥) → c < n
        below ne = omega (arith, l, ne)

-- a sum over all processors changes by what it changes of the one that makes the step
pub over-changed : (f : Fine) (e : FineStep) (count : Processor → ℕ) → e.cpu < f.cpus
    → over_processors (stepped f.image f.cpus f.processors f.sites e) count + count (f.processors e.cpu)
    ≡ over_processors f count + count (p_next f.image (f.processors e.cpu) e)
over-changed f e count l =
    let made : count (cond (e.cpu == e.cpu) (p_next f.image (f.processors e.cpu) e) (f.processors e.cpu)) ≡ count (p_next f.image (f.processors e.cpu) e) =
    ap (λ b. count (cond b (p_next f.image (f.processors e.cpu) e) (f.processors e.cpu))) (eq-eqb e.cpu e.cpu refl) in
    total-one (λ k. count (cond (e.cpu == k) (p_next f.image (f.processors k) e) (f.processors k))) (λ k. count (f.processors k)) f.cpus e.cpu l
    (λ k ne. ap (λ b. count (cond b (p_next f.image (f.processors k) e) (f.processors k))) (differs k ne))
    ∙ ap (λ n. over_processors f count + n) made
  where
    differs : (k : ℕ) → (k ≡ e.cpu → ⊥) → (e.cpu == k) ≡ false
    differs k ne = by (e.cpu == k) refl
      where
        by : (b : Bool) → (e.cpu == k) ≡ b → b ≡ false
        by true q = absurd (ne (sym (eqb-true e.cpu k q)))
        by false q = refl

-- where it leaves the number of that one, it leaves the sum
pub over-same : (f : Fine) (e : FineStep) (count : Processor → ℕ) → e.cpu < f.cpus → count (p_next f.image (f.processors e.cpu) e) ≡ count (f.processors e.cpu)
    → over_processors (stepped f.image f.cpus f.processors f.sites e) count ≡ over_processors f count
over-same f e count l same = let all = over-changed f e count l in omega (arith, all, same)
