-- A thread that has a step of its own left isn't over: one that is offered, that visits rows, or that starts another one next.
use Rattle.um_refinement.proofs.Words.{false≢true, waits, ◌≡◌, ℕ, Bool, true, false, ◌∷◌, refl, ap, ◌∙◌, ◌&&◌, nat_lt, list_all, Image, ROWS, Pending, Steps, is_empty, State, Context, Fine, Todos, Drops, IsOffered, Passes, is_over, IsRun, and-false, subst, ThreadIx, Thread, Policy, [], ◌==◌, if◌then◌else◌, end_steps, fatal_steps}
use Rattle.um_refinement.specs.Offers as O

-- it has a step
pub steps-on : (c : Context) (q : Pending) (rest : Steps) → c.pending ≡ q ∷ rest → is_over c ≡ false
steps-on c q rest e = ap (λ (steps : Steps). c.ended && is_empty steps) e ∙ and-false c.ended

-- it hasn't ended
pub rests-on : (c : Context) → c.ended ≡ false → is_over c ≡ false
rests-on c e = ap (λ b. b && is_empty c.pending) e

pub offered-on : (image : Image) (c : Context) (q : Pending) (rest : Steps) → IsOffered image c q rest → is_over c ≡ false
offered-on image c q rest (O.goes e) = steps-on c q rest e
offered-on image c q rest (O.passed {who} e) = steps-on c (Pending.Inherit who) (q ∷ rest) e
offered-on image c q rest (O.dropped {from} e) = steps-on c (Pending.Drops from) (q ∷ rest) e
offered-on image c _ _ (O.begins e on i) = rests-on c on
offered-on image c _ _ (O.exits e on i) = rests-on c on

-- the steps that a thread makes at rest
abbrev pub is_first : Pending → Bool
is_first Pending.Begin = true
is_first Pending.Exit = true
is_first q = false

-- no step that a thread makes at rest is among those that it makes next
abbrev pub BeginsNothing : Steps → Type 0
BeginsNothing [] = Unit {0}
BeginsNothing (Pending.Begin ∷ rest) = ⊥
BeginsNothing (Pending.Exit ∷ rest) = ⊥
BeginsNothing (Pending.Inherit who ∷ rest) = BeginsNothing rest
BeginsNothing (Pending.Drops from ∷ rest) = BeginsNothing rest
BeginsNothing (q ∷ rest) = Unit {0}

first-not : (q : Pending) (rest : Steps) → is_first q ≡ true → BeginsNothing (q ∷ rest) → ⊥
first-not Pending.Begin rest h n = n
first-not Pending.Exit rest h n = n
first-not q rest h n = false≢true h

-- so one that is offered such a step is at rest
pub first-rests : (image : Image) (c : Context) (q : Pending) (rest : Steps) → IsOffered image c q rest → is_first q ≡ true → BeginsNothing c.pending → (c.pending ≡ []) × (c.ended ≡ false)
first-rests image c q rest (O.goes e) first none = absurd (first-not q rest first (subst BeginsNothing e none))
first-rests image c q rest (O.passed {who} e) first none = absurd (first-not q rest first (subst BeginsNothing e none))
first-rests image c q rest (O.dropped {from} e) first none = absurd (first-not q rest first (subst BeginsNothing e none))
first-rests image c _ _ (O.begins e on i) first none = (e, on)
first-rests image c _ _ (O.exits e on i) first none = (e, on)

-- and one that is offered any other step than to go on after a wait doesn't wait
pub offered-awake : (image : Image) (c : Context) (q : Pending) (rest : Steps) → IsOffered image c q rest → waits (q ∷ rest) ≡ false → waits c.pending ≡ false
offered-awake image c q rest (O.goes e) awake = ap waits e ∙ awake
offered-awake image c q rest (O.passed e) awake = ap waits e
offered-awake image c q rest (O.dropped e) awake = ap waits e
offered-awake image c _ _ (O.begins e on i) awake = ap waits e
offered-awake image c _ _ (O.exits e on i) awake = ap waits e

-- what holds of all pending steps, and passes over visits, holds from the one that is offered on
pub offered-left : (image : Image) (c : Context) (P : Steps → Type 0) → ((who : ThreadIx) (rest : Steps) → P (Pending.Inherit who ∷ rest) → P rest)
    → ((from : ℕ) (rest : Steps) → P (Pending.Drops from ∷ rest) → P rest) → P c.pending
    → (q : Pending) (rest : Steps) → (c.ended ≡ false → is_first q ≡ true → P (q ∷ rest)) → IsOffered image c q rest → P (q ∷ rest)
offered-left image c P passed dropped all q rest first (O.goes e) = subst P e all
offered-left image c P passed dropped all q rest first (O.passed {who} e) = passed who (q ∷ rest) (subst P e all)
offered-left image c P passed dropped all q rest first (O.dropped {from} e) = dropped from (q ∷ rest) (subst P e all)
offered-left image c P passed dropped all _ _ first (O.begins e on i) = first on refl
offered-left image c P passed dropped all _ _ first (O.exits e on i) = first on refl

pub passes-on : (image : Image) (c : Context) (who : ℕ) (todo : Todos) → Passes image c who todo → is_over c ≡ false
passes-on image c who todo h = steps-on c (Pending.Inherit h.child) (h.step ∷ h.rest) h.pending

pub drops-on : (image : Image) (c : Context) (todo : Todos) → Drops image c todo → is_over c ≡ false
drops-on image c todo h = steps-on c (Pending.Drops h.from) (h.step ∷ h.rest) h.pending

-- the rows that a thread's call holds are rows, also of one that is over, which holds none
pub run-below : (f : Fine) (m : State) (c : Context) → IsRun f m c → list_all (λ x. nat_lt x ROWS) c.claims ≡ true
run-below f m c is = by (is_over c) refl
  where
    by : (b : Bool) → is_over c ≡ b → list_all (λ x. nat_lt x ROWS) c.claims ≡ true
    by true e = ap (list_all (λ x. nat_lt x ROWS)) (is.over e)
    by false e = (is.of e).below

-- what holds of a doom of all, and of the steps of an end, holds of the steps of a fatal error
pub fatal-left : (P : Steps → Type 0) (image : Image) (t : ℕ) (me : Thread) → P (Pending.Dooms 0 ∷ []) → P (end_steps image t me) → (reason : ℕ) (policy : Policy)
    → P (fatal_steps image t me reason policy)
fatal-left P image t me dooms ends reason Policy.Halt = dooms
fatal-left P image t me dooms ends reason Policy.Abort =
    elim (reason == 4) as (λ b. P (if b then Pending.Dooms 0 ∷ [] else end_steps image t me)) [ true ↦ dooms | false ↦ ends ]
