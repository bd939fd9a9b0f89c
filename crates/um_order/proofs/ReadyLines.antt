-- Lists of threads: joining at the back, and passing over those that stand still.
use Rattle.std.proofs.Common.{◌≡◌, ℕ, ◌+◌, ◌<◌, ◌≤◌, Bool, true, false, List, [], ◌∷◌, ◌++◌, Some, refl, sym, ap, ◌∙◌, subst, arith, append-nil, append_assoc, eq-eqb}
use Rattle.std.specs.Prelude.{◌==◌, ◌||◌, if◌then◌else◌}
use Rattle.um_machine.specs.Order.{to_thread}
use Rattle.um_machine.specs.State.{State}
use Rattle.um_invariants.specs.Lines.{all_join, joins, stands}
use Rattle.um_invariants.specs.Ready.{behind_next, is_still, next_ready}
use Rattle.um_refinement.specs.Threads.{occurs}
use Rattle.um_order.proofs.Standing.{AllStill}

pub occurs-append : (t : ℕ) (xs ys : List ℕ) → occurs t (xs ++ ys) ≡ occurs t xs + occurs t ys
occurs-append t [] ys = omega arith
occurs-append t (x ∷ xs) ys =
    let more = occurs-append t xs ys in
    elim (t == x) as (λ b. (if b then occurs t (xs ++ ys) + 1 else occurs t (xs ++ ys)) ≡ (if b then occurs t xs + 1 else occurs t xs) + occurs t ys) [
      | true ↦ omega (arith, more)
      | false ↦ more
    ]

pub occurs-first : (t : ℕ) (xs : List ℕ) → occurs t (t ∷ xs) ≡ occurs t xs + 1
occurs-first t xs = ap (λ b. if b then occurs t xs + 1 else occurs t xs) (eq-eqb t t refl)

occurs-more : (t x : ℕ) (xs : List ℕ) → occurs t xs ≤ occurs t (x ∷ xs)
occurs-more t x xs = elim (t == x) as (λ b. occurs t xs ≤ (if b then occurs t xs + 1 else occurs t xs)) [ true ↦ omega arith | false ↦ omega arith ]

unstood : (t : ℕ) (xs : List ℕ) → occurs t xs ≡ 0 → stands xs t ≡ false
unstood t [] h = refl
unstood t (x ∷ xs) h = by (t == x) h (unstood t xs)
  where
    by : (b : Bool) → (if b then occurs t xs + 1 else occurs t xs) ≡ 0 → (occurs t xs ≡ 0 → stands xs t ≡ false) → (b || stands xs t) ≡ false
    by true h more = absurd (omega (arith, h))
    by false h more = more h

pub joins-new : (line : List ℕ) (x : ℕ) → occurs x line ≡ 0 → joins line x ≡ line ++ x ∷ []
joins-new line x h = ap (λ b. if b then line else line ++ x ∷ []) (unstood x line h)

pub all-join-new : (line xs : List ℕ) → ((u : ℕ) → 0 < occurs u xs → occurs u (line ++ xs) ≤ 1) → all_join line xs ≡ line ++ xs
all-join-new line [] h = sym (append-nil line)
all-join-new line (x ∷ xs) h =
    let first = occurs-first x xs in
    let whole = occurs-append x line (x ∷ xs) in
    let most = h x (omega (arith, first)) in
    let new = joins-new line x (omega (arith, first, whole, most)) in
    ap (λ l. all_join l xs) new
    ∙ (all-join-new (line ++ x ∷ []) xs
    (λ u some. let more = occurs-more u x xs in subst (λ l. occurs u l ≤ 1) (sym (append_assoc line (x ∷ []) xs)) (h u (omega (arith, some, more))))
    ∙ append_assoc line (x ∷ []) xs)

-- Threads that stand still are passed over.

pub next-skips : (s : State) (skipped ready : List ℕ) → AllStill s skipped → next_ready s (skipped ++ ready) ≡ next_ready s ready
next-skips s [] ready h = refl
next-skips s (t ∷ ts) ready h = ap (λ b. if b then next_ready s (ts ++ ready) else Some (to_thread t)) h.0 ∙ next-skips s ts ready h.1

pub behind-skips : (s : State) (skipped ready : List ℕ) → AllStill s skipped → behind_next s (skipped ++ ready) ≡ behind_next s ready
behind-skips s [] ready h = refl
behind-skips s (t ∷ ts) ready h = ap (λ b. if b then behind_next s (ts ++ ready) else ts ++ ready) h.0 ∙ behind-skips s ts ready h.1

pub still-push : (s : State) (skipped : List ℕ) (t : ℕ) → AllStill s skipped → is_still s t ≡ true → AllStill s (skipped ++ t ∷ [])
still-push s [] t h e = (e, tt)
still-push s (u ∷ us) t h e = (h.0, still-push s us t h.1 e)
