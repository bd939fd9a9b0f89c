-- What stands on the list behind the event of a pending step, and who makes one.
use Rattle.std.proofs.Common.{◌≡◌, ◌⊎◌, inl, inr, ℕ, suc, ◌+◌, Bool, true, false, List, [], ◌∷◌, ◌++◌, map, length, Option, Some, None, refl, sym, ap, ◌∙◌, subst, arith}
use Rattle.std.specs.Prelude.{◌==◌, ◌&&◌, ◌||◌, not, IsTrue, if◌then◌else◌}
use Rattle.std.specs.List.{list_all, list_any}
use Rattle.std.proofs.lemmas.Bool.{and_from, and_parts, false≢true, true≢false}
use Rattle.std.proofs.lemmas.Bool.Decides.{nat_tests}
use Rattle.um_base.specs.declared.act.Act.{Act}
use Rattle.um_base.specs.declared.ask.Told.{Told}
use Rattle.um_base.specs.declared.image.Image.{Image}
use Rattle.um_base.specs.declared.names.Reply.{Reply}
use Rattle.um_base.specs.declared.names.ThreadIx.{ThreadIx}
use Rattle.um_base.specs.Places.{own_row}
use Rattle.um_machine.specs.declared.pending.Pending.{Pending}
use Rattle.um_machine.specs.Order.{Steps, to_thread}
use Rattle.um_machine.specs.Run as R
use Rattle.um_machine.specs.Run.{Offers, may_go, must_stop}
use Rattle.um_machine.specs.Services.{is_empty}
use Rattle.um_machine.specs.State.{State, thread_at}
use Rattle.um_machine.specs.Table as T
use Rattle.um_invariants.specs.Lines.{stands}
use Rattle.um_invariants.specs.Ready.{is_still}
use Rattle.um_invariants.proofs.ThreadWords.{is_beside, is_resume}
use Rattle.um_invariants.proofs.ThreadWaits.{numbers}
use Rattle.um_fine.specs.Addresses.{row_named}
use Rattle.um_fine.specs.Answers.{act_in, is_done_in, outcome_in, thread_in, woken_in}
use Rattle.um_fine.specs.Context.{Context}
use Rattle.um_fine.specs.Follows.{behind_step, end_calls, looks_behind, looks_for, told_all, wakes}
use Rattle.um_fine.specs.Places.{Todo, Todos, armed_for, settling}
use Rattle.um_fine.specs.Steps.{Exchange, FineStep}
use Rattle.um_refinement.specs.Lists.{adders}
use Rattle.um_refinement.specs.Offers as O
use Rattle.um_refinement.specs.Offers.{Fits, IsOffered, behind_shown, is_over}
use Rattle.um_refinement.specs.Threads.{occurs}
use Rattle.um_refinement.proofs.ListDone.{says_done}
use Rattle.um_refinement.proofs.ListWakes.{named, wakers, woken_by}
use Rattle.um_refinement.proofs.WordsKept.{IsShown}
use Rattle.um_order.proofs.Standing.{cutters, goes, inside_of, is_calm, is_show, woken_of}

-- where a step is offered and shown, its thread is at rest, or goes on with its instruction
first-goes : (q : Pending) (rest : Steps) → IsShown q → goes (q ∷ rest) ≡ true
first-goes Pending.Resume rest h = absurd h
first-goes q rest h = refl

pub goes-offered : (image : Image) (c : Context) {q : Pending} {rest : Steps} → IsShown q → IsOffered image c q rest → (c.pending ≡ []) ⊎ (goes c.pending ≡ true)
goes-offered image c shown (O.goes {q} {rest} e) = inr (ap goes e ∙ first-goes q rest shown)
goes-offered image c shown (O.passed e) = inr (ap goes e)
goes-offered image c shown (O.dropped e) = inr (ap goes e)
goes-offered image c shown (O.begins e on i) = inl e
goes-offered image c shown (O.exits e on i) = inl e

pub goes-some : (c : Context) → goes c.pending ≡ true → (is_empty c.pending ≡ false) × (inside_of c ≡ Some (to_thread c.thread))
goes-some c h = (by c.pending h, ap (λ b. if b then Some (to_thread c.thread) else None) h)
  where
    by : (steps : Steps) → goes steps ≡ true → is_empty steps ≡ false
    by [] h = absurd (false≢true h)
    by (q ∷ rest) h = refl

-- no step beside the instructions is shown so
never-tends : (q : Pending) → IsShown q → IsTrue (R.is_tending q) → ⊥
never-tends (Pending.CleanPair who) shown is = shown
never-tends Pending.Recycle shown is = shown
never-tends Pending.Tick shown is = shown
never-tends (Pending.TimeOut who) shown is = shown
never-tends Pending.Expire shown is = shown
never-tends (Pending.Cut who) shown is = shown
never-tends q shown is = false≢true is

pub in-turn : (q : Pending) → IsShown q → is_beside q ≡ false
in-turn q shown = by (is_beside q) refl q shown
  where
    by : (b : Bool) → is_beside q ≡ b → (r : Pending) → IsShown r → is_beside r ≡ false
    by b e Pending.Left shown = absurd shown
    by b e (Pending.CleanPair who) shown = absurd shown
    by b e Pending.Recycle shown = absurd shown
    by b e Pending.Tick shown = absurd shown
    by b e (Pending.TimeOut who) shown = absurd shown
    by b e Pending.Expire shown = absurd shown
    by b e (Pending.Cut who) shown = absurd shown
    by b e r shown = refl

-- a thread that makes such a step doesn't stand still
may-free : (d a s : Bool) → not (d || a || s) ≡ true → (d || s && not a) ≡ false
may-free true a s h = absurd (false≢true h)
may-free false true s h = absurd (false≢true h)
may-free false false true h = absurd (false≢true h)
may-free false false false h = refl

stop-free : (d a s : Bool) → (not d && a) ≡ true → (d || s && not a) ≡ false
stop-free true a s h = absurd (false≢true h)
stop-free false true true h = refl
stop-free false true false h = refl
stop-free false false s h = absurd (false≢true h)

some-left : (m : State) (t : ℕ) {q : Pending} {rest : Steps} → (thread_at m t).pending ≡ q ∷ rest → is_still m t ≡ false
some-left m t {q} {rest} e =
    ap (λ (steps : Steps). ((thread_at m t).doomed || (thread_at m t).suspended && not (thread_at m t).aborted) && length steps == 0) e
    ∙ none ((thread_at m t).doomed || (thread_at m t).suspended && not (thread_at m t).aborted) (length rest)
  where
    none : (b : Bool) (n : ℕ) → (b && suc n == 0) ≡ false
    none false n = refl
    none true n = grind (arith, nat_tests)

pub offers-unstill : (m : State) (t : ℕ) {q : Pending} {rest : Steps} → IsShown q → Offers m t q rest → is_still m t ≡ false
offers-unstill m t shown (R.goes e) = some-left m t e
offers-unstill m t shown (R.skips_inherit e due) = some-left m t e
offers-unstill m t shown (R.skips_drops e due) = some-left m t e
offers-unstill m t shown (R.begins e lives free i) = let me = thread_at m t in ap (λ b. b && length me.pending == 0) (may-free me.doomed me.aborted me.suspended free)
offers-unstill m t shown (R.exits e lives free i) = let me = thread_at m t in ap (λ b. b && length me.pending == 0) (may-free me.doomed me.aborted me.suspended free)
offers-unstill m t shown (R.stops e lives must) = let me = thread_at m t in ap (λ b. b && length me.pending == 0) (stop-free me.doomed me.aborted me.suspended must)
offers-unstill m t shown (R.leaves ending) = absurd shown
offers-unstill m t shown (R.tends {p} is started) = absurd (never-tends p shown is)

-- a thread that makes such a step has no `resume` next
pub resumes-none : (m : State) (t : ℕ) {q : Pending} {rest : Steps} → IsShown q → Offers m t q rest → is_resume (thread_at m t).pending ≡ false
resumes-none m t shown (R.goes {p} {rest} e) = ap is_resume e ∙ by p shown
  where
    by : (q : Pending) → IsShown q → is_resume (q ∷ rest) ≡ false
    by Pending.Resume h = absurd h
    by q h = refl
resumes-none m t shown (R.skips_inherit e due) = ap is_resume e
resumes-none m t shown (R.skips_drops e due) = ap is_resume e
resumes-none m t shown (R.begins e lives free i) = ap is_resume e
resumes-none m t shown (R.exits e lives free i) = ap is_resume e
resumes-none m t shown (R.stops e lives must) = ap is_resume e
resumes-none m t shown (R.leaves ending) = absurd shown
resumes-none m t shown (R.tends {p} is started) = absurd (never-tends p shown is)

-- Lists.

pub settling-plain : (image : Image) (c : Context) (o : Option ℕ) (q : Pending) → let todo = settling image c o q in
    (wakers todo ≡ []) × (cutters todo ≡ []) × (list_any is_show todo ≡ false) × (says_done todo ≡ false) × (list_all is_calm todo ≡ true) × (adders todo ≡ [])
settling-plain image c None q = (refl, refl, refl, refl, refl, refl)
settling-plain image c (Some deadline) q = (refl, refl, refl, refl, refl, refl)

-- what stands behind an event on the list wakes no thread, makes none ready that was cut, shows no event, and isn't `done`
pub shown-plain : (image : Image) (c : Context) (q : Pending) → let todo = behind_shown image c q in
    (wakers todo ≡ []) × (cutters todo ≡ []) × (list_any is_show todo ≡ false) × (says_done todo ≡ false) × (list_all is_calm todo ≡ true)
shown-plain image c (Pending.Work a ask) = let all = settling-plain image c (armed_for image c (Pending.Work a ask)) (Pending.Work a ask) in (all.0, all.1, all.2, all.3, all.4)
shown-plain image c (Pending.Join who timeout) = let all = settling-plain image c (armed_for image c (Pending.Join who timeout)) (Pending.Join who timeout) in (all.0, all.1, all.2, all.3, all.4)
shown-plain image c (Pending.FutexWait a value timeout) =
    let all = settling-plain image c (armed_for image c (Pending.FutexWait a value timeout)) (Pending.FutexWait a value timeout) in (all.0, all.1, all.2, all.3, all.4)
shown-plain image c q = (refl, refl, refl, refl, refl)

-- an event adds a thread only if it starts it, and then it wakes none
pub starts-alone : (image : Image) (c : Context) (e : FineStep) (q : Pending) (rest : Steps) → is_empty (adders (behind_shown image c q)) ≡ false → woken_by e (Todo.show q rest) ≡ []
starts-alone image c e (Pending.Work a ask) rest h = absurd (true≢false (ap is_empty (sym (settling-plain image c (armed_for image c (Pending.Work a ask)) (Pending.Work a ask)).5) ∙ h))
starts-alone image c e (Pending.FutexWake a all) rest h = absurd (true≢false h)
starts-alone image c e q rest h = refl

pub named-numbers : (ws : List (ThreadIx × Told)) → woken_of (named ws) ≡ numbers ws
named-numbers [] = refl
named-numbers (w ∷ ws) = ap (λ l. w.0.0 ∷ l) (named-numbers ws)

pub replies-numbers : (ws : List (ThreadIx × Told)) → map (λ (w : ThreadIx × Reply). w.0.0) (T.replies_of ws) ≡ numbers ws
replies-numbers [] = refl
replies-numbers (w ∷ ws) = ap (λ l. w.0.0 ∷ l) (replies-numbers ws)

pub told-numbers : (ws : List (ThreadIx × Reply)) → map (λ (w : ThreadIx × Reply). w.0.0) ws ≡ woken_of (named (told_all ws))
told-numbers [] = refl
told-numbers (w ∷ ws) = ap (λ l. w.0.0 ∷ l) (told-numbers ws)

pub stands-occurs : (u : ℕ) (xs : List ℕ) → stands xs u ≡ false → occurs u xs ≡ 0
stands-occurs u [] h = refl
stands-occurs u (x ∷ xs) h = by (u == x) refl h (stands-occurs u xs)
  where
    by : (b : Bool) → (u == x) ≡ b → (b || stands xs u) ≡ false → (stands xs u ≡ false → occurs u xs ≡ 0) → (if b then occurs u xs + 1 else occurs u xs) ≡ 0
    by true e h more = absurd (true≢false h)
    by false e h more = more h

-- whether a step stops another thread, or goes on with one
abbrev pub stirs : Pending → Act → Bool
stirs (Pending.Abort who) act = is_done_in act
stirs (Pending.Continue who) act = is_done_in act
stirs q act = false

module _ (image : Image) (P : Todos → Type 0) (woke : (who : ℕ) (told : Told) (todo : Todos) → P todo → P (Todo.wake who told ∷ todo)) (over : (x : ℕ) (todo : Todos) → P todo → P (Todo.end_call x ∷ todo)) where
  pub wakes-so : (ws : List (ThreadIx × Told)) (todo : Todos) → P todo → P (wakes ws todo)
  wakes-so [] todo h = h
  wakes-so (w ∷ ws) todo h = woke w.0.0 w.1 (wakes ws todo) (wakes-so ws todo h)

  ends-so : (xs : List ℕ) (todo : Todos) → P todo → P (end_calls xs todo)
  ends-so [] todo h = h
  ends-so (x ∷ xs) todo h = over x (end_calls xs todo) (ends-so xs todo h)

  pub behind-so : (c : Context) (q : Pending) (moved : Exchange) (todo : Todos) → P todo → P (behind_step image c q moved todo)
  behind-so c (Pending.Work a ask) moved todo h = wakes-so (outcome_in moved).woken todo h
  behind-so c Pending.Exit moved todo h = ends-so c.claims todo h
  behind-so c Pending.Killed moved todo h = ends-so c.claims todo h
  behind-so c (Pending.Answer reply to) moved todo h = ends-so c.claims todo h
  behind-so c (Pending.Fatal reason cause) moved todo h = ends-so c.claims todo h
  behind-so c (Pending.ClearInit a) moved todo h = by (row_named image a == own_row image c.thread)
    where
      by : (b : Bool) → P (if b then Todo.end_call (own_row image c.thread) ∷ todo else todo)
      by true = over (own_row image c.thread) todo h
      by false = h
  behind-so c q moved todo h = h

  pub looks-so : (c : Context) (q : Pending) (e : FineStep) (todo : Todos) → stirs q (act_in e.act) ≡ false → P todo → P (looks_behind image c q e todo)
  looks-so c (Pending.Abort who) e todo calm h = subst (λ b. P (if b && not (who.0 == c.thread) then looks_for image who.0 (thread_in e.word) todo else todo)) (sym calm) h
  looks-so c (Pending.Continue who) e todo calm h = subst (λ b. P (if b then Todo.rouse who.0 ∷ todo else todo)) (sym calm) h
  looks-so c (Pending.FutexWake a all) e todo calm h = wakes-so (told_all (woken_in (act_in e.act))) todo h
  looks-so c q e todo calm h = h

pub calm-reread : (site : ℕ) (todo : Todos) → list_all is_calm todo ≡ true → list_all is_calm (todo ++ Todo.reread site ∷ []) ≡ true
calm-reread site [] h = refl
calm-reread site (q ∷ todo) h = let parts = and_parts (is_calm q) (list_all is_calm todo) h in and_from (is_calm q) (list_all is_calm (todo ++ Todo.reread site ∷ [])) parts.0 (calm-reread site todo parts.1)

pub cuts-reread : (site : ℕ) (todo : Todos) → cutters todo ≡ [] → cutters (todo ++ Todo.reread site ∷ []) ≡ []
cuts-reread site [] h = refl
cuts-reread site (Todo.tell_cut who ∷ todo) h = absurd (false≢true (ap is_empty h))
cuts-reread site (q ∷ todo) h = cuts-reread site todo h
