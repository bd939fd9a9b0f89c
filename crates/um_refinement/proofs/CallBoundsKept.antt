-- A call keeps within its bounds by each step of it.
use Rattle.um_refinement.proofs.Words.{◌≡◌, inl, ℕ, ◌+◌, ◌<◌, ◌≤◌, Bool, true, false, List, [], ◌∷◌, length, Option, Some, None, refl, sym, ap, subst, arith, ℤ, if◌then◌else◌, nat_lt, unwrap_or, Act, Told, Image, Instr, THREADS, Addr, Errno, Kind, Mode, Row, ThreadIx, IsLawful, addr_of, row_at, Pending, Refusal, has_kind, Change, Next, Way, checked_way, steps_by, told_way, Steps, end_steps, steps_of, to_addr, instruction_at, HoldsOfWays, way-left, IsSited, row_kind, row_named, verdict_in, Context, as_thread, came_in, changed_part, continues, gone_part, newborn, resumed, resumed_at, dropped_at, Todos, Exchange, Drops, IsOffered, length-append, goes_on}
use Rattle.um_machine.specs.Table as T
use Rattle.um_refinement.specs.Offers as O
use Rattle.um_refinement.proofs.CallBounds.{Bounded, bounded-few, bounded-steps}
use Rattle.um_refinement.proofs.CallSteps.{line-lawful}
use Rattle.um_refinement.proofs.StepsLeft.{fatal-left}

-- A thread's own part that keeps within the bounds.
pub record IsBounded (image : Image) (c : Context) : Type 0 where
  pub stack : c.stack.0 < length image.objects
  pub steps : Bounded image (length c.claims) c.pending

module _ (image : Image) where
  -- what is known of a step that is made next: one that begins holds nothing
  abbrev pub Makes : Context → Pending → Steps → Type 0
  Makes c Pending.Begin rest = c.claims ≡ []
  Makes c Pending.Exit rest = Unit {0}
  Makes c q rest = Bounded image (length c.claims) (q ∷ rest)

  makes-next : (c : Context) (q : Pending) (rest : Steps) → Bounded image (length c.claims) (q ∷ rest) → Makes c q rest
  makes-next c Pending.Begin rest h = absurd h
  makes-next c Pending.Exit rest h = tt
  makes-next c q rest h = h

  pub offered-makes : (c : Context) (q : Pending) (rest : Steps) → Bounded image (length c.claims) c.pending → (c.ended ≡ false → c.pending ≡ [] → c.claims ≡ [])
      → IsOffered image c q rest → Makes c q rest
  offered-makes c q rest h none (O.goes e) = makes-next c q rest (subst (Bounded image (length c.claims)) e h)
  offered-makes c q rest h none (O.passed {who} e) = makes-next c q rest (subst (Bounded image (length c.claims)) e h)
  offered-makes c q rest h none (O.dropped {from} e) = makes-next c q rest (subst (Bounded image (length c.claims)) e h)
  offered-makes c _ _ h none (O.begins e on i) = none on e
  offered-makes c _ _ h none (O.exits e on i) = tt

  -- a check that is passed found an object of its kind
  abbrev pub Passes : Pending → Act → Type 0
  Passes (Pending.Check a kind want refusal) act = verdict_in act ≡ None → (x : ℕ) × (row_at image a.0 ≡ Some x) × (has_kind kind (Some (row_kind image x)) ≡ true)
  Passes q act = Unit {0}

  -- the steps that are left keep within the bounds, whichever way it goes on
  ways : (n : ℕ) → n ≤ 2 → HoldsOfWays (Bounded image n)
  ways n few = record { call = (λ a left h. h, λ left h. h, λ a left h. h); replies = λ reply. (few, refl); fails = λ reason cause. (few, λ size. few, λ a. (tt, few)); runs_to = λ a before deadline left h. h }

  left : (n : ℕ) (steps : Steps) (way : Way) → Bounded image n steps → Bounded image n (steps_by steps way)
  left n steps way h = way-left (Bounded image n) (ways n (bounded-few image n steps h)) steps way h

  changed : (c : Context) (change : Change) (steps : Steps) → c.stack.0 < length image.objects → Bounded image (length c.claims) steps → IsBounded image (goes_on image (changed_part change c) steps)
  changed c Change.nothing steps s h = record { stack = s; steps = h }
  changed c change steps s h = record { stack = s; steps = h }

  refused : (n : ℕ) (mode : Mode) (rest : Steps) (refusal : Refusal) (e : Errno) → n ≤ 2 → Bounded image n (steps_by rest (checked_way mode refusal (Some e)))
  refused n mode rest Refusal.Fails e l = l
  refused n Mode.User rest Refusal.FailsUser e l = l
  refused n Mode.Supervisor rest Refusal.FailsUser e l = (l, refl)
  refused n mode rest (Refusal.Answers reply) e l = (l, refl)
  refused n mode rest (Refusal.AnswersUninit reply) Errno.EINVAL l = (l, refl)
  refused n mode rest (Refusal.AnswersUninit reply) e l = l

  checks : (c : Context) (a : Addr) (kind : Option Kind) (rest : Steps) (refusal : Refusal) (v : Option Errno) → c.stack.0 < length image.objects
      → (v ≡ None → (x : ℕ) × (row_at image a.0 ≡ Some x) × (has_kind kind (Some (row_kind image x)) ≡ true)) → length c.claims < 2
      → ((x : ℕ) → row_at image a.0 ≡ Some x → has_kind kind (Some (row_kind image x)) ≡ true → Bounded image (length c.claims + 1) rest)
      → IsBounded image (gone_part image rest (Next.checks (row_named image a) v (checked_way c.mode refusal v)) c)
  checks c a kind rest refusal None s found l h =
      let x = found refl in
      record { stack = s; steps = subst (λ n. Bounded image n rest) (sym (length-append c.claims (row_named image a ∷ []))) (h x.0 x.1 x.2) }
  checks c a kind rest refusal (Some e) s found l h = record { stack = s; steps = refused (length c.claims) c.mode rest refusal e (omega (arith, l)) }

  dooms : (n from : ℕ) → n ≤ 2 → Bounded image n (T.next_doom from)
  dooms n from l = elim (nat_lt (from + 1) THREADS) as (λ b. Bounded image n (if b then Pending.Dooms (from + 1) ∷ [] else [])) [ true ↦ l | false ↦ l ]

  pub resumes-bounded : (c : Context) (told : Told) → IsBounded image c → IsBounded image (resumed image c told)
  resumes-bounded c word h = by c.pending h.steps
    where
      by : (steps : Steps) → Bounded image (length c.claims) steps → IsBounded image (resumed_at image c word steps)
      by (Pending.Resume ∷ rest) k = record { stack = h.stack; steps = left (length c.claims) rest (told_way word.reply) k }
      by steps k = h

  pub drops-bounded : (c : Context) (x : ℕ) (visit : Bool) (todo : Todos) → Drops image c todo → IsBounded image c → IsBounded image (dropped_at image c x visit)
  drops-bounded c x true todo d h = h
  drops-bounded c x false todo d h = record { stack = h.stack; steps = by c.pending d.pending h.steps }
    where
      by : (steps : Steps) → steps ≡ Pending.Drops d.from ∷ d.step ∷ d.rest → Bounded image (length c.claims) steps → Bounded image (length c.claims) (dropped_at image (record c { pending = steps }) x false).pending
      by steps e k =
          subst (λ (z : Steps). Bounded image (length c.claims) (dropped_at image (record c { pending = z }) x false).pending) (sym e)
          (subst (Bounded image (length c.claims)) e k)

  -- a new thread
  pub newborn-bounded : (c : Context) (who : ThreadIx) (script : ℕ) (stack : Row) (priority : ℤ) (mode : Mode) (rest : Steps)
      → Makes c (Pending.Start who script stack priority mode) rest → IsBounded image (newborn image c (Pending.Start who script stack priority mode))
  newborn-bounded c who script stack priority mode rest h = record { stack = h.0; steps = omega arith }

  module _ (sited : IsSited image) (lawful : IsLawful image) where
    ends : (c : Context) → c.stack.0 < length image.objects → Bounded image 0 (end_steps image c.thread (as_thread c))
    ends c s =
        let row : row_named image (to_addr (addr_of image c.stack.0)) ≡ c.stack.0 = ap (λ (o : Option ℕ). unwrap_or o 0) (sited.rows c.stack.0 (inl s)) in
        (subst (λ x. x < length image.objects) (sym row) s, (tt, omega arith))

    begins : (c : Context) (rest : Steps) (instr : Option Instr) → instruction_at image c.place ≡ instr → IsBounded image c → c.claims ≡ [] → IsBounded image (gone_part image rest (Next.begins instr) c)
    begins c rest None e h none = h
    begins c rest (Some instr) e h none =
        record {
          stack = h.stack;
          steps = subst (λ (xs : List ℕ). Bounded image (length xs) (steps_of image c.thread (as_thread c) instr)) (sym none)
              (bounded-steps image c.thread (as_thread c) c.place.script instr (line-lawful image lawful c.place instr e));
        }

    -- what is known of the steps behind one, by how its thread goes on
    abbrev Behind : Context → Steps → Next → Type 0
    Behind c rest (Next.checks x v way) = ⊥
    Behind c rest (Next.begins instr) = ⊥
    Behind c rest (Next.answers to reply) = rest ≡ []
    Behind c rest (Next.resumes None) = Unit {0}
    Behind c rest (Next.resumes (Some word)) = ⊥
    Behind c rest Next.stays = Unit {0}
    Behind c rest Next.exits = Unit {0}
    Behind c rest (Next.fatal reason) = Unit {0}
    Behind c rest next = Bounded image (length c.claims) rest

    gone-bounded : (c : Context) (rest : Steps) (next : Next) → IsBounded image c → Behind c rest next → IsBounded image (gone_part image rest next c)
    gone-bounded c rest (Next.on change way) b h = changed c change (steps_by rest way) b.stack (left (length c.claims) rest way h)
    gone-bounded c rest (Next.checks x v way) b h = absurd h
    gone-bounded c rest (Next.begins instr) b h = absurd h
    gone-bounded c rest (Next.answers to reply) b h = record { stack = b.stack; steps = subst (Bounded image 0) (sym h) (omega arith) }
    gone-bounded c rest (Next.resumes None) b h = b
    gone-bounded c rest (Next.resumes (Some word)) b h = absurd h
    gone-bounded c rest Next.stays b h = b
    gone-bounded c rest Next.exits b h = record { stack = b.stack; steps = ends c b.stack }
    gone-bounded c rest (Next.fatal reason) b h = record { stack = b.stack; steps = fatal-left (Bounded image 0) image c.thread (as_thread c) (omega arith) (ends c b.stack) reason image.policy }
    gone-bounded c rest (Next.dooms from) b h = record { stack = b.stack; steps = dooms (length c.claims) from (bounded-few image (length c.claims) rest h) }
    gone-bounded c rest (Next.enters script) b h = record { stack = b.stack; steps = bounded-few image (length c.claims) rest h }
    gone-bounded c rest next b h = record { stack = b.stack; steps = h }

    module _ (c : Context) (x : ℕ) (rest : Steps) (act : Act) (moved : Exchange) (b : IsBounded image c) where
      abbrev next : Pending → Next
      next q = T.continues image c.thread (as_thread c) x q act (came_in q moved)

      by-next : (q : Pending) → Makes c q rest → Passes q act → IsBounded image (gone_part image rest (next q) c)
      by-next Pending.Begin h found = begins c rest (instruction_at image c.place) refl b h
      by-next (Pending.Check a kind want refusal) h found = checks c a kind rest refusal (verdict_in act) b.stack found h.0 h.1
      by-next (Pending.Load to a n) h found = gone-bounded c rest (next (Pending.Load to a n)) b h.1
      by-next (Pending.Answer reply to) h found = gone-bounded c rest (next (Pending.Answer reply to)) b h.1
      by-next (Pending.Start who script stack priority mode) h found = gone-bounded c rest (next (Pending.Start who script stack priority mode)) b h.1
      by-next (Pending.ClearInit a) h found = gone-bounded c rest (next (Pending.ClearInit a)) b h.1
      by-next Pending.Exit h found = gone-bounded c rest (next Pending.Exit) b tt
      by-next (Pending.Fatal reason cause) h found = gone-bounded c rest (next (Pending.Fatal reason cause)) b tt
      by-next Pending.Resume h found = gone-bounded c rest (next Pending.Resume) b tt
      by-next (Pending.CleanPair who) h found = gone-bounded c rest (next (Pending.CleanPair who)) b tt
      by-next Pending.Recycle h found = gone-bounded c rest (next Pending.Recycle) b tt
      by-next Pending.Killed h found = gone-bounded c rest (next Pending.Killed) b tt
      by-next Pending.Left h found = gone-bounded c rest (next Pending.Left) b tt
      by-next Pending.Tick h found = gone-bounded c rest (next Pending.Tick) b tt
      by-next (Pending.TimeOut who) h found = gone-bounded c rest (next (Pending.TimeOut who)) b tt
      by-next Pending.Expire h found = gone-bounded c rest (next Pending.Expire) b tt
      by-next (Pending.Cut who) h found = gone-bounded c rest (next (Pending.Cut who)) b tt
      by-next q h found = gone-bounded c rest (next q) b h

    -- whatever step is made, the own part then keeps within the bounds
    pub continues-bounded : (c : Context) (x : ℕ) (q : Pending) (rest : Steps) (act : Act) (moved : Exchange) → IsBounded image c → Makes c q rest → Passes q act
        → IsBounded image (continues image c x q rest act moved)
    continues-bounded c x q rest act moved b h found = by-next c x rest act moved b q h found
