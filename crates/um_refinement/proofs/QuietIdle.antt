-- One look at the scheduler's word that shows nothing ready, running or owed shows the end of the run: no processor has a list, no mark is due, and no deadline is still to come.
use Rattle.um_refinement.proofs.Words.{◌≡◌, ℕ, ◌+◌, ◌<◌, Bool, true, false, List, [], ◌∷◌, Some, None, refl, sym, ap, ◌∙◌, arith, ◌&&◌, ◌||◌, not, IsTrue, if◌then◌else◌, nat_lt, nat_le, list_all, list_any, and_parts, false≢true, true≢false, State, Todo, Todos, Fine, one_if, scheduler, counted, has_steps, runs, Rel, IsStuck, has_ready}
use Rattle.std.proofs.lemmas.Bool.Decides.{nat_tests}
use Rattle.um_machine.specs.Time.{next_deadline}
use Rattle.um_fine.specs.Clock.{Marked, deadlines, first_due, is_due}
use Rattle.um_fine.specs.Places.{is_paid}
use Rattle.um_refinement.specs.Choice.{IsQuiet}
use Rattle.um_refinement.specs.Fine.{clock}
use Rattle.um_refinement.specs.Lists.{times}
use Rattle.um_refinement.specs.Timing.{arms, is_sound, left_marks}
use Rattle.um_refinement.proofs.IdleComplete.{IsIdle}
use Rattle.um_refinement.proofs.Kept.{IdleStep, gives, idle-step, ticks, turns}
use Rattle.um_refinement.proofs.MemorySteps.{part-total}

none-passes : (test : Todo → Bool) (todo : Todos) → counted test todo ≡ 0 → list_any test todo ≡ false
none-passes test [] h = refl
none-passes test (q ∷ todo) h = by (test q) h (none-passes test todo)
  where
    by : (b : Bool) → (if b then counted test todo + 1 else counted test todo) ≡ 0 → (counted test todo ≡ 0 → list_any test todo ≡ false) → (b || list_any test todo) ≡ false
    by true h rest = absurd (omega (arith, h))
    by false h rest = rest h

empty-list : (todo : Todos) → has_steps todo ≡ false → todo ≡ []
empty-list [] h = refl
empty-list (q ∷ todo) h = absurd (true≢false h)

-- Marks that were all given.

none-left : (x : Marked) (xs : List Marked) → left_marks (x ∷ xs) ≡ 0 → (x.given ≡ true) × (left_marks xs ≡ 0)
none-left x xs h = by x.given h
  where
    by : (b : Bool) → (if b then left_marks xs else left_marks xs + 1) ≡ 0 → (b ≡ true) × (left_marks xs ≡ 0)
    by true h = (refl, h)
    by false h = absurd (omega (arith, h))

no-due : (now : ℕ) (xs : List Marked) → left_marks xs ≡ 0 → first_due now xs ≡ None
no-due now [] h = refl
no-due now (x ∷ xs) h =
    let parts = none-left x xs h in
    ap (λ b. if is_due now (record x { given = b }) then Some x else first_due now xs) parts.0 ∙ (by (nat_le x.deadline now) x.settled ∙ no-due now xs parts.1)
  where
    by : (a b : Bool) → (if a && b && false then Some x else first_due now xs) ≡ first_due now xs
    by true true = refl
    by true false = refl
    by false b = refl

no-next : (now : ℕ) (xs : List Marked) → left_marks xs ≡ 0 → IsTrue (list_all (is_sound now) xs) → next_deadline now (deadlines xs) ≡ None
no-next now [] h sound = refl
no-next now (x ∷ xs) h sound =
    let parts = none-left x xs h in
    let all = and_parts (is_sound now x) (list_all (is_sound now) xs) sound in
    let come : nat_le x.deadline now ≡ true = came x.given parts.0 all.0 in
    let past : nat_lt now x.deadline ≡ false = grind (arith, nat_tests) in
    ap (λ b. if b then Rattle.um_machine.specs.Time.least x.deadline (next_deadline now (deadlines xs)) else next_deadline now (deadlines xs)) past ∙ no-next now xs parts.1 all.1
  where
    came : (b : Bool) → b ≡ true → (not b || (x.settled && nat_le x.deadline now)) ≡ true → nat_le x.deadline now ≡ true
    came true given h = (and_parts x.settled (nat_le x.deadline now) h).1
    came false given h = absurd (false≢true given)

module _ (f : Fine) (m : State) (rel : Rel f m) (quiet : IsQuiet f) where
  -- what a processor has of the marks that are owed
  abbrev of-owed : ℕ → ℕ
  of-owed k = one_if (arms (f.processors k).todo) + counted is_paid (f.processors k).todo

  none-in-hand : (k : ℕ) → k < f.cpus → times (f.processors k).todo ≡ false
  none-in-hand k l =
      let all = rel.owed.owed in
      let none = quiet.owed in
      let part = part-total of-owed f.cpus k l in
      none-passes is_paid (f.processors k).todo (omega (arith, all, none, part))

  none-left-there : left_marks (clock f).marks ≡ 0
  none-left-there = let all = rel.owed.owed in let none = quiet.owed in omega (arith, all, none)

  none-runs : (k : ℕ) → k < f.cpus → runs (f.processors k) ≡ false
  none-runs k l = by (runs (f.processors k)) refl
    where
      by : (b : Bool) → runs (f.processors k) ≡ b → b ≡ false
      by false h = refl
      by true h =
          let all = rel.running.running in
          let none = quiet.running in
          let part = part-total (λ j. one_if (runs (f.processors j))) f.cpus k l in
          let one : one_if (runs (f.processors k)) ≡ 1 = ap one_if h in
          absurd (omega (arith, all, none, part, one))

  lists : (k : ℕ) → k < f.cpus → (f.processors k).todo ≡ []
  lists k l = empty-list (f.processors k).todo (by (has_steps (f.processors k).todo) (ap (λ b. has_steps (f.processors k).todo && not b) (sym (none-in-hand k l)) ∙ none-runs k l))
    where
      by : (b : Bool) → (b && true) ≡ false → b ≡ false
      by true h = absurd (true≢false h)
      by false h = refl

  pub quiet-idle : IsIdle f
  quiet-idle =
      record {
        lists = lists;
        ready = λ t l. ap (Rattle.um_refinement.specs.Threads.occurs t) quiet.ready;
        due = no-due (clock f).now (clock f).marks none-left-there;
        next = no-next (clock f).now (clock f).marks none-left-there rel.marks.given;
      }

  -- so none can step
  pub quiet-stuck : IsStuck f
  quiet-stuck e may taken = by (idle-step f m rel (f.processors e.cpu) e may.may taken (lists e.cpu may.named))
    where
      by : IdleStep f (f.processors e.cpu) e → ⊥
      by (turns site said ready moved) = false≢true (ap (has_ready (scheduler f)) (sym quiet.ready) ∙ ready)
      by (gives x site said due moved) = none-is x (sym quiet-idle.due ∙ due)
        where
          none-is : (x : Marked) → None ≡ Some x → ⊥
          none-is x h = cc
      by (ticks now site said next moved) = none-is now (sym quiet-idle.next ∙ next)
        where
          none-is : (n : ℕ) → None ≡ Some n → ⊥
          none-is n h = cc
