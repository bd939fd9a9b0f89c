-- What a thread does after its end: only the steps of that are left, none of which holds it.
use Rattle.um_refinement.proofs.Words.{◌≡◌, ℕ, ◌+◌, Bool, true, false, [], ◌∷◌, Some, None, refl, sym, ap, ◌∙◌, subst, if◌then◌else◌, nat_lt, list_all, and_parts, false≢true, true≢false, Act, Image, Policy, THREADS, Pending, Steps, fatal_steps, act_in, is_visit, is_word_read, verdict_in, row_named, Context, as_thread, continues, after_show, dropped_at, goes_on_by, p_next, Todo, Todos, Processor, Exchange, FineStep, Fits, IsOffered, behind_shown, next_doom, is_ending, FineAct, thread_in, is_empty, turn, refilled_by, after_take}
use Rattle.um_fine.specs.Answers.{is_killed}
use Rattle.um_fine.specs.Follows.{shown_step}
use Rattle.um_fine.specs.Places.{put_away}
use Rattle.um_refinement.proofs.Continued.{Held, continues-held, claim-held, resumed-held}
use Rattle.um_refinement.proofs.ListGrips.{next-context}
use Rattle.um_refinement.proofs.ListGrowth.{claim-context}
use Rattle.um_refinement.proofs.StepsLeft.{fatal-left, offered-left}

-- the steps by which a thread ends, or dooms all
abbrev pub is_last : Pending → Bool
is_last Pending.Exit = true
is_last Pending.Killed = true
is_last (Pending.Fatal reason cause) = true
is_last q = false

-- where it has ended, the steps of that are left
abbrev pub Ends : Context → Type 0
Ends c = c.ended ≡ true → list_all is_ending c.pending ≡ true

module _ (image : Image) where
  -- no other step ends it
  pub continues-ended : (c : Context) (x : ℕ) (q : Pending) (rest : Steps) (act : Act) (moved : Exchange) → is_last q ≡ false → (continues image c x q rest act moved).ended ≡ c.ended
  continues-ended c x Pending.Exit rest act moved h = absurd (true≢false h)
  continues-ended c x Pending.Killed rest act moved h = absurd (true≢false h)
  continues-ended c x (Pending.Fatal reason cause) rest act moved h = absurd (true≢false h)
  continues-ended c x (Pending.Check a kind want refusal) rest act moved h = (claim-held (row_named image a) (verdict_in act) c).1
  continues-ended c x (Pending.Answer reply to) rest act moved h = refl
  continues-ended c x q rest act moved h = ap (λ (h : Held). h.2) (continues-held image c x q rest act moved tt)

  -- the end itself
  fatal-ending : (c : Context) (reason : ℕ) (policy : Policy) → list_all is_ending (fatal_steps image c.thread (as_thread c) reason policy) ≡ true
  fatal-ending c reason policy = fatal-left (λ steps. list_all is_ending steps ≡ true) image c.thread (as_thread c) refl refl reason policy

  doom-ending : (from : ℕ) → list_all is_ending (next_doom from) ≡ true
  doom-ending from = elim (nat_lt (from + 1) THREADS) as (λ b. list_all is_ending (if b then Pending.Dooms (from + 1) ∷ [] else []) ≡ true) [ true ↦ refl | false ↦ refl ]

  -- a step of an end leaves others of it
  ending-kept : (c : Context) (x : ℕ) (q : Pending) (rest : Steps) (act : Act) (moved : Exchange) → is_ending q ≡ true → list_all is_ending rest ≡ true
      → list_all is_ending (continues image c x q rest act moved).pending ≡ true
  ending-kept c x (Pending.Drops from) rest act moved h k = k
  ending-kept c x (Pending.ClearInit a) rest act moved h k = k
  ending-kept c x (Pending.Dooms from) rest act moved h k = doom-ending from
  ending-kept c x q rest act moved h k = absurd (false≢true h)

  -- and those from one that is offered on are of the end
  ending-from : (c : Context) → c.ended ≡ true → list_all is_ending c.pending ≡ true → (q : Pending) (rest : Steps) → IsOffered image c q rest
      → (is_ending q ≡ true) × (list_all is_ending rest ≡ true)
  ending-from c over all q rest offered =
      and_parts (is_ending q) (list_all is_ending rest)
      (offered-left image c (λ steps. list_all is_ending steps ≡ true) (λ who rest h. absurd (false≢true h)) (λ from rest h. h) all q rest (λ on is. absurd (true≢false (sym over ∙ on))) offered)

  pub shown-ends : (c : Context) (q : Pending) (rest : Steps) (act : Act) (moved : Exchange) → Ends c → IsOffered image c q rest
      → Ends (continues image c 0 q rest act moved)
  shown-ends c Pending.Exit rest act moved was offered h = refl
  shown-ends c Pending.Killed rest act moved was offered h = refl
  shown-ends c (Pending.Fatal reason cause) rest act moved was offered h = fatal-ending c reason image.policy
  shown-ends c q rest act moved was offered h = by-last (is_last q) refl
    where
      last-ends : (q : Pending) → is_last q ≡ true → list_all is_ending (continues image c 0 q rest act moved).pending ≡ true
      last-ends Pending.Exit k = refl
      last-ends Pending.Killed k = refl
      last-ends (Pending.Fatal reason cause) k = fatal-ending c reason image.policy
      last-ends q k = absurd (false≢true k)

      by-last : (b : Bool) → is_last q ≡ b → list_all is_ending (continues image c 0 q rest act moved).pending ≡ true
      by-last true k = last-ends q k
      by-last false k =
          let over = sym (continues-ended c 0 q rest act moved k) ∙ h in
          let parts = ending-from c over (was over) q rest offered in ending-kept c 0 q rest act moved parts.0 parts.1

  -- nothing stands behind a step of an end, or the first of a turn
  pub ending-alone : (c : Context) (q : Pending) (rest : Steps) → IsOffered image c q rest → Ends c → c.ended ≡ true → behind_shown image c q ≡ []
  ending-alone c q rest offered was over = alone q (ending-from c over (was over) q rest offered).0
    where
      alone : (q : Pending) → is_ending q ≡ true → behind_shown image c q ≡ []
      alone (Pending.Drops from) h = refl
      alone (Pending.ClearInit a) h = refl
      alone (Pending.Dooms from) h = refl
      alone q h = absurd (false≢true h)

  -- nor behind that end
  pub last-alone : (c : Context) (q : Pending) → is_last q ≡ true → behind_shown image c q ≡ []
  last-alone c Pending.Exit h = refl
  last-alone c Pending.Killed h = refl
  last-alone c (Pending.Fatal reason cause) h = refl
  last-alone c q h = absurd (false≢true h)

  -- A processor.

  dropped-ends : (c : Context) (x : ℕ) (b : Bool) → Ends c → Ends (dropped_at image c x b)
  dropped-ends c x true was h = was h
  dropped-ends c x false was h = by c.pending refl
    where
      by : (steps : Steps) → c.pending ≡ steps → list_all is_ending (dropped_at image c x false).pending ≡ true
      by [] e = subst (λ (s : Steps). list_all is_ending (dropped_at image (record c { pending = s }) x false).pending ≡ true) (sym e) refl
      by (q ∷ steps) e =
          subst (λ (s : Steps). list_all is_ending (dropped_at image (record c { pending = s }) x false).pending ≡ true) (sym e)
          (and_parts (is_ending q) (list_all is_ending steps) (ap (list_all is_ending) (sym e) ∙ was h)).1

  -- a thread that is taken hasn't ended
  abbrev pub TakesLiving : Exchange → Type 0
  TakesLiving (Exchange.thread c told) = c.ended ≡ false
  TakesLiving moved = Unit {0}

  -- also one that is killed in the place of the begin of its turn
  made-ends : (c : Context) (q : Pending) (rest : Steps) (act : FineAct) (moved : Exchange) → Ends c → IsOffered image c q rest
      → Ends (continues image c 0 (shown_step image q act) rest (act_in act) moved)
  made-ends c q rest act moved was offered = by (is_killed act)
    where
      by : (b : Bool) → Ends (continues image c 0 (if b then Pending.Killed else q) rest (act_in act) moved)
      by true h = refl
      by false h = shown-ends c q rest (act_in act) moved was offered h

  goes-ends : (p : Processor) (e : FineStep) (todo : Todos) → Fits image p.context todo → Ends p.context → (todo ≡ [] → TakesLiving e.moved) → Ends (goes_on_by image p e todo).context
  goes-ends p e [] fits was living = by e.moved (living refl)
    where
      by : (moved : Exchange) → TakesLiving moved → Ends (after_take image p moved).context
      by (Exchange.thread c None) k h = which (is_empty c.pending) h
        where
          which : (b : Bool) → Ends (if b then record p { context = c; todo = turn image c } else refilled_by image (record p { context = c }) []).context
          which true h = absurd (false≢true (sym k ∙ h))
          which false h = absurd (false≢true (sym k ∙ h))
      by (Exchange.thread c (Some told)) k h = absurd (false≢true (sym k ∙ (sym (ap (λ (h : Held). h.2) (resumed-held image c told)) ∙ h)))
      by moved k h = was h
  goes-ends p e (Todo.show q rest ∷ todo) fits was living = by (is_word_read e.act)
    where
      by : (b : Bool) → Ends (if b then record p { todo = put_away (thread_in e.word).doomed } else after_show image p e (shown_step image q e.act) rest todo).context
      by true h = was h
      by false h = made-ends p.context q rest e.act e.moved was fits.0 h
  goes-ends p e (Todo.read_claim d ∷ todo) fits was living = subst Ends (sym (claim-context image p e d todo)) was
  goes-ends p e (Todo.drop x ∷ todo) fits was living = dropped-ends p.context x (is_visit e.act) was
  goes-ends p e (Todo.park ∷ todo) fits was living = λ h. absurd (false≢true h)
  goes-ends p e (Todo.done ∷ todo) fits was living = λ h. absurd (false≢true h)
  goes-ends p e (Todo.sleep ∷ todo) fits was living = λ h. refl
  goes-ends p e (q ∷ todo) fits was living = was

  pub next-ends : (p : Processor) (e : FineStep) → Fits image p.context p.todo → Ends p.context → (p.todo ≡ [] → TakesLiving e.moved) → Ends (p_next image p e).context
  next-ends p e fits was living = subst Ends (sym (next-context image p e)) (goes-ends p e p.todo fits was living)
