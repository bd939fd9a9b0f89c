-- The ready list after an event: at its back come the threads that the processor's list wakes or adds, and then its own thread if it is at rest.
use Rattle.std.proofs.Common.{◌≡◌, ℕ, zero, suc, ◌+◌, ◌<◌, ◌≤◌, Bool, true, false, List, [], ◌∷◌, ◌++◌, map, length, Option, Some, None, refl, sym, ap, ◌∙◌, subst, arith, append-nil, append_assoc, eq-eqb}
use Rattle.std.specs.Prelude.{◌==◌, ◌&&◌, ◌||◌, not, IsTrue, if◌then◌else◌, is_some, nat_lt, slice_get}
use Rattle.std.proofs.lemmas.Bool.{and_parts, eqb-false, eqb-true, false≢true, ltb-true, true≢false}
use Rattle.std.proofs.lemmas.Bool.Decides.{nat_tests}
use Rattle.um_base.specs.declared.act.Act.{Act}
use Rattle.um_base.specs.declared.ask.Told.{Told}
use Rattle.um_base.specs.declared.limits.TheConstants.{THREADS}
use Rattle.um_machine.specs.declared.pending.Pending.{Pending}
use Rattle.um_machine.specs.declared.thread.Life.{Life}
use Rattle.um_machine.specs.declared.thread.Thread.{Thread}
use Rattle.um_machine.specs.Order.{Steps, to_thread}
use Rattle.um_machine.specs.Services.{is_empty}
use Rattle.um_machine.specs.State.{State, is_living, is_started, thread_at}
use Rattle.um_fine.specs.Context.{Context, as_thread}
use Rattle.um_invariants.specs.Lines.{all_join, joins}
use Rattle.um_invariants.specs.Ready.{is_at_rest, is_ready_step, ready_after, readied, roused, goes_on}
use Rattle.um_fine.specs.Places.{Todo, Todos}
use Rattle.um_fine.specs.Scheduler.{is_cut, parked_at, told_at, waits}
use Rattle.um_refinement.specs.Fine.{Fine, one_if, scheduler}
use Rattle.um_refinement.specs.Lists.{adders, counted, is_cut_told, is_wake, of_thread, runs, wake_of}
use Rattle.um_refinement.specs.Offers.{IsPutBack, is_over}
use Rattle.um_refinement.specs.Relation.{Rel}
use Rattle.um_refinement.specs.Threads.{IsOf, as_cut, cutters as cuts, is_ended, is_ready_there, occurs, own_part, runs_on, told_by}
use Rattle.um_refinement.proofs.Bounds.{AreBounded, AreThreads}
use Rattle.um_refinement.proofs.CleanSteps.{adds-one}
use Rattle.um_refinement.proofs.ListWakes.{Wakes, told_times, wake-first, wake-times, wakers}
use Rattle.um_refinement.proofs.MemorySteps.{part-total}
use Rattle.um_refinement.proofs.PlacesFacts.{added-unparked, lies-here, running-unparked, wake-told, wake-untold}
use Rattle.um_refinement.proofs.Offered.{own-unless}
use Rattle.um_refinement.proofs.ResumeSteps.{TellsWaiters, some-is, told-some}
use Rattle.um_refinement.proofs.Sums.{one-none}
use Rattle.um_refinement.proofs.ToldFacts.{some-first}
use Rattle.um_order.proofs.ReadyLines.{all-join-new, joins-new, occurs-append}
use Rattle.um_order.proofs.Standing.{back, comers, cutters, goes, inside_of, woken_of}
use Rattle.um_refinement.proofs.AwayPart.{none-left}

flip : (x y : ℕ) → (x == y) ≡ (y == x)
flip x y = by (x == y) refl
  where
    by : (b : Bool) → (x == y) ≡ b → (x == y) ≡ (y == x)
    by true e = e ∙ sym (eq-eqb y x (sym (eqb-true x y e)))
    by false e = e ∙ sym (apart (y == x) refl)
      where
        apart : (b : Bool) → (y == x) ≡ b → b ≡ false
        apart false h = refl
        apart true h = absurd (eqb-false x y e (sym (eqb-true y x h)))

pub occurs-woken : (u : ℕ) (ws : Wakes) → occurs u (woken_of ws) ≡ told_times u ws
occurs-woken u [] = refl
occurs-woken u (w ∷ ws) = λ i. if flip u w.0 i then occurs-woken u ws i + 1 else occurs-woken u ws i

occurs-added : (u : ℕ) (cs : List Context) → occurs u (map (λ (c : Context). c.thread) cs) ≡ of_thread u cs
occurs-added u [] = refl
occurs-added u (c ∷ cs) = λ i. if flip u c.thread i then occurs-added u cs i + 1 else occurs-added u cs i

none-ready : (o : Option Context) (told : Option Told) (cut : Bool) → is_some o ≡ false → is_ready_there o told cut ≡ false
none-ready None told cut h = refl
none-ready (Some c) told cut h = absurd (false≢true (sym h))

occurs-cut : (u : ℕ) (todo : Todos) → occurs u (cutters todo) ≡ counted (is_cut_told u) todo
occurs-cut u [] = refl
occurs-cut u (Todo.tell_cut who ∷ todo) = λ i. if flip u who i then occurs-cut u todo i + 1 else occurs-cut u todo i
occurs-cut u (q ∷ todo) = occurs-cut u todo

-- the own part of a thread that wasn't cut
pub own-is : (g : Fine) (s : State) (c : Context) → IsOf g s c → cuts g c.thread ≡ 0 → as_thread c ≡ own_part (thread_at s c.thread)
own-is g s c of uncut = ap (λ n. as_thread (as_cut n c)) (sym uncut) ∙ of.own

-- the number of a woken thread is a thread index
pub below-woken : (u : ℕ) (ws : Wakes) → AreThreads ws → 0 < told_times u ws → u < THREADS
below-woken u [] h some = absurd (omega (arith, some))
below-woken u (w ∷ ws) h some = by (w.0 == u) refl some (below-woken u ws (and_parts _ _ h).1)
  where
    by : (b : Bool) → (w.0 == u) ≡ b → 0 < (if b then told_times u ws + 1 else told_times u ws) → (0 < told_times u ws → u < THREADS) → u < THREADS
    by true e some more = subst (λ n. n < THREADS) (eqb-true w.0 u e) (ltb-true w.0 THREADS (and_parts _ _ h).0)
    by false e some more = more some

-- by its own part the thread goes on just where it does in the machine
pub inside-is : (g : Fine) (s : State) (c : Context) → IsOf g s c → cuts g c.thread ≡ 0 → (waits c.pending ≡ true → (thread_at s c.thread).told ≡ None) → (if goes_on s c.thread then Some (to_thread c.thread) else None) ≡ inside_of c
inside-is g s c of uncut none = ap (λ b. if b then Some (to_thread c.thread) else None) (ap (λ steps. is_ready_step (is_some (thread_at s c.thread).told) (slice_get steps 0)) (sym (ap (λ (z : Thread). z.pending) (own-is g s c of uncut))) ∙ by c.pending none)
  where
    by : (steps : Steps) → (waits steps ≡ true → (thread_at s c.thread).told ≡ None) → is_ready_step (is_some (thread_at s c.thread).told) (slice_get steps 0) ≡ goes steps
    by [] none = refl
    by (Pending.Resume ∷ rest) none = ap is_some (none refl)
    by (q ∷ rest) none = refl

-- and it is at rest just where it is in the machine
pub rest-is : (g : Fine) (s : State) (c : Context) → IsOf g s c → cuts g c.thread ≡ 0 → is_at_rest s c.thread ≡ (is_empty c.pending && not c.ended)
rest-is g s c of uncut =
    ap (λ steps. is_living (thread_at s c.thread).life && length steps == 0) (sym (ap (λ (z : Thread). z.pending) (own-is g s c of uncut)))
    ∙ (by (thread_at s c.thread).life c.pending of.started ∙ ap (λ b. is_empty c.pending && not b) (sym of.ended))
  where
    by : (life : Life) (steps : Steps) → IsTrue (is_started life) → (is_living life && length steps == 0) ≡ (is_empty steps && not (is_ended life))
    by Life.Unborn steps h = absurd (false≢true h)
    by Life.Living [] h = refl
    by Life.Living (q ∷ steps) h = none (length steps)
      where
        none : (n : ℕ) → (suc n == 0) ≡ false
        none n = grind (arith, nat_tests)
    by Life.Ended [] h = refl
    by Life.Ended (q ∷ steps) h = refl

module _ (g : Fine) (s : State) (rel : Rel g s) (tells : TellsWaiters s) (k : ℕ) (l : k < g.cpus) (bounds : AreBounded g)
    (on : runs (g.processors k) ≡ true) (of : IsOf g s (g.processors k).context) (uncut : cuts g (g.processors k).context.thread ≡ 0) where
  abbrev todo : Todos
  todo = (g.processors k).todo

  abbrev c : Context
  c = (g.processors k).context

  -- a thread that isn't parked isn't in the ready list
  unready : (u : ℕ) → u < THREADS → is_some (parked_at (scheduler g) u) ≡ false → occurs u (scheduler g).ready ≡ 0
  unready u few none = (rel.threads u few).ready.ready ∙ ap one_if (none-ready (parked_at (scheduler g) u) (told_at (scheduler g) u) (is_cut (scheduler g) u) none)

  -- nor is one that waits, where the scheduler tells it nothing
  waiting-unready : (u : ℕ) → u < THREADS → ((d : Context) → parked_at (scheduler g) u ≡ Some d → waits d.pending ≡ true) → is_some (told_at (scheduler g) u) ≡ false → is_cut (scheduler g) u ≡ false
      → occurs u (scheduler g).ready ≡ 0
  waiting-unready u few waiting untold whole = by (parked_at (scheduler g) u) refl
    where
      by : (o : Option Context) → parked_at (scheduler g) u ≡ o → occurs u (scheduler g).ready ≡ 0
      by None e = unready u few (ap is_some e)
      by (Some d) e =
          let waits-there = waiting d e in
          (rel.threads u few).ready.ready
          ∙ (ap (λ o. one_if (is_ready_there o (told_at (scheduler g) u) (is_cut (scheduler g) u))) e ∙ λ i. one_if (not (waits-there i) || untold i || whole i))

  cut-part : (u : ℕ) → counted (is_cut_told u) todo + one_if (is_cut (scheduler g) u) ≤ cuts g u
  cut-part u = let sum = part-total (λ j. counted (is_cut_told u) (g.processors j).todo) g.cpus k l in omega (arith, sum)

  below-cut : (u : ℕ) → 0 < counted (is_cut_told u) todo → u < THREADS
  below-cut u some = by (nat_lt u THREADS) refl
    where
      by : (b : Bool) → nat_lt u THREADS ≡ b → u < THREADS
      by true e = ltb-true u THREADS e
      by false e = let none = bounds.uncut u e in let part = cut-part u in absurd (omega (arith, some, none, part))

  -- a parked thread whose machine's thread waits does so
  parked-waits : (u : ℕ) (d : Context) → parked_at (scheduler g) u ≡ Some d → waits (thread_at s u).pending ≡ true → waits d.pending ≡ true
  parked-waits u d e waiting = by (cuts g d.thread) refl
    where
      is : IsOf g s d × (d.thread ≡ u) × (d.ended ≡ false) × IsPutBack d
      is = rel.contexts.parked u d e

      by : (n : ℕ) → cuts g d.thread ≡ n → waits d.pending ≡ true
      by zero none = ap waits (ap (λ (th : Thread). th.pending) (own-is g s d is.0 none) ∙ ap (λ n. (thread_at s n).pending) is.1) ∙ waiting
      by (suc n) some = is.0.waiting (omega (arith, some))

  -- one that was cut is to be killed
  cut-kills : (u : ℕ) → u < THREADS → 0 < cuts g u → (thread_at s u).pending ≡ Pending.Killed ∷ []
  cut-kills u few some = (rel.threads u few).cut.left some

  -- a thread that the list wakes waits
  woken-waits : (u : ℕ) → u < THREADS → 0 < counted (is_wake u) todo → IsTrue (waits (thread_at s u).pending)
  woken-waits u few some =
      let first : is_some (wake_of u todo) ≡ true = ap is_some (wake-first u todo) ∙ some-first u (wakers todo) (subst (λ n. 0 < n) (wake-times u todo) some) in
      let w = some-is (thread_at s u).told (wake-told g s rel u few k l first) in
      tells u w.0 w.1

  -- so it wasn't cut
  woken-uncut : (u : ℕ) → u < THREADS → 0 < counted (is_wake u) todo → cuts g u ≡ 0
  woken-uncut u few some = by (cuts g u) refl
    where
      by : (n : ℕ) → cuts g u ≡ n → n ≡ 0
      by zero e = refl
      by (suc n) e = absurd (false≢true (sym (ap waits (cut-kills u few (omega (arith, e)))) ∙ woken-waits u few some))

  woken-unready : (u : ℕ) → u < THREADS → 0 < counted (is_wake u) todo → occurs u (scheduler g).ready ≡ 0
  woken-unready u few some =
      let none = woken-uncut u few some in
      let part = cut-part u in
      waiting-unready u few (λ d e. parked-waits u d e (woken-waits u few some)) (wake-untold g s rel u few k l some) (one-none (is_cut (scheduler g) u) (omega (arith, none, part)))

  one-wake : (u : ℕ) → u < THREADS → counted (is_wake u) todo ≤ 1
  one-wake u few =
      let sum = part-total (λ j. counted (is_wake u) (g.processors j).todo) g.cpus k l in
      let once = (rel.threads u few).told.once in omega (arith, sum, once)

  -- nor does a thread stand there that was cut and that the list makes ready
  cut-unready : (u : ℕ) → u < THREADS → 0 < counted (is_cut_told u) todo → occurs u (scheduler g).ready ≡ 0
  cut-unready u few some =
      let part = cut-part u in
      let once = (rel.threads u few).cut.once in
      let there : 0 < cuts g u = omega (arith, part, some) in
      waiting-unready u few
      (λ d e. (rel.contexts.parked u d e).0.waiting (subst (λ n. 0 < cuts g n) (sym (rel.contexts.parked u d e).1) there))
      (none-told u ((rel.threads u few).cut.told there)) (one-none (is_cut (scheduler g) u) (omega (arith, part, once, some)))
    where
      none-told : (u : ℕ) → told_by g u g.cpus ≡ None → is_some (told_at (scheduler g) u) ≡ false
      none-told u none = by (is_some (told_at (scheduler g) u)) refl
        where
          by : (b : Bool) → is_some (told_at (scheduler g) u) ≡ b → b ≡ false
          by false e = refl
          by true e = absurd (false≢true (sym (ap is_some none) ∙ told-some g s rel u g.cpus e))

  -- a thread that the list adds is at rest
  added-rests : (u : ℕ) → 0 < of_thread u (adders todo) → (u < THREADS) × ((thread_at s u).pending ≡ [])
  added-rests u some =
      let d = adds-one u todo some in
      let added = rel.contexts.added k d.0 l d.1 in (
        subst (λ n. n < THREADS) d.2 added.0.index,
        ap (λ n. (thread_at s n).pending) (sym d.2) ∙ (sym (ap (λ (th : Thread). th.pending) (own-unless added.0 (ap waits added.2))) ∙ added.2),
      )

  not-both : (u : ℕ) → u < THREADS → 0 < counted (is_wake u) todo → (thread_at s u).pending ≡ [] → ⊥
  not-both u few some rests = false≢true (ap waits (sym rests) ∙ woken-waits u few some)

  cut-not-both : (u : ℕ) → u < THREADS → 0 < counted (is_cut_told u) todo → (thread_at s u).pending ≡ [] → ⊥
  cut-not-both u few some rests =
      let part = cut-part u in
      let kills = cut-kills u few (omega (arith, part, some)) in true≢false (ap is_empty (sym rests ∙ kills))

  coming : (u : ℕ) → occurs u (comers todo) ≡ counted (is_wake u) todo + (counted (is_cut_told u) todo + of_thread u (adders todo))
  coming u =
      let both = occurs-append u (woken_of (wakers todo)) (cutters todo ++ map (λ (d : Context). d.thread) (adders todo)) in
      let behind = occurs-append u (cutters todo) (map (λ (d : Context). d.thread) (adders todo)) in
      let first = occurs-woken u (wakers todo) ∙ sym (wake-times u todo) in
      let second = occurs-cut u todo in
      let third = occurs-added u (adders todo) in
      omega (arith, both, behind, first, second, third)

  comes-once : (u : ℕ) → 0 < occurs u (comers todo) → occurs u ((scheduler g).ready ++ comers todo) ≤ 1
  comes-once u some = by (counted (is_wake u) todo) refl (counted (is_cut_told u) todo) refl (of_thread u (adders todo)) refl
    where
      whole : occurs u ((scheduler g).ready ++ comers todo) ≡ occurs u (scheduler g).ready + occurs u (comers todo)
      whole = occurs-append u (scheduler g).ready (comers todo)

      by : (a : ℕ) → counted (is_wake u) todo ≡ a → (c : ℕ) → counted (is_cut_told u) todo ≡ c → (b : ℕ) → of_thread u (adders todo) ≡ b → occurs u ((scheduler g).ready ++ comers todo) ≤ 1
      by zero ea zero ec zero eb = let all = coming u in absurd (omega (arith, some, all, ea, eb, ec))
      by zero ea zero ec (suc b) eb =
          let few = (added-rests u (omega (arith, eb))).0 in
          let none = unready u few (added-unparked g s rel u few k l (omega (arith, eb))) in
          let most = lies-here g s rel u few k l in
          let all = coming u in
          let sum = whole in
          omega (arith, none, most, all, sum, ea, ec)
      by zero ea (suc c) ec zero eb =
          let few = below-cut u (omega (arith, ec)) in
          let none = cut-unready u few (omega (arith, ec)) in
          let part = cut-part u in
          let once = (rel.threads u few).cut.once in
          let all = coming u in
          let sum = whole in
          omega (arith, none, part, once, all, sum, ea, eb)
      by zero ea (suc c) ec (suc b) eb = let rests = added-rests u (omega (arith, eb)) in absurd (cut-not-both u rests.0 (omega (arith, ec)) rests.1)
      by (suc a) ea zero ec zero eb =
          let few = below-woken u (wakers todo) (bounds.wakes k l) (let times = wake-times u todo in omega (arith, times, ea)) in
          let none = woken-unready u few (omega (arith, ea)) in
          let most = one-wake u few in
          let all = coming u in
          let sum = whole in
          omega (arith, none, most, all, sum, eb, ec)
      by (suc a) ea zero ec (suc b) eb = let rests = added-rests u (omega (arith, eb)) in absurd (not-both u rests.0 (omega (arith, ea)) rests.1)
      by (suc a) ea (suc c) ec b eb =
          let few = below-cut u (omega (arith, ec)) in
          let none = woken-uncut u few (omega (arith, ea)) in
          let part = cut-part u in absurd (omega (arith, none, part, ec))

  -- its own thread, if at rest, is neither in the ready list nor woken, made ready or added by its list
  own-new : is_empty c.pending ≡ true → c.ended ≡ false → occurs c.thread ((scheduler g).ready ++ comers todo) ≡ 0
  own-new rests lives =
      let few = of.index in
      let over : is_over c ≡ false = ap (λ b. b && is_empty c.pending) lives in
      let mine : runs_on c.thread (g.processors k) ≡ true = λ i. (on i && eq-eqb c.thread c.thread refl i) && not (over i) in
      let one = ap one_if mine in
      let most = lies-here g s rel c.thread few k l in
      let none = unready c.thread few (running-unparked g s rel c.thread few k l mine) in
      let untold = by (counted (is_wake c.thread) todo) refl in
      let part = cut-part c.thread in
      let all = coming c.thread in
      let sum = occurs-append c.thread (scheduler g).ready (comers todo) in
      omega (arith, one, most, none, untold, part, uncut, all, sum)
    where
      by : (n : ℕ) → counted (is_wake c.thread) todo ≡ n → n ≡ 0
      by zero h = refl
      by (suc n) h = absurd (not-both c.thread of.index (omega (arith, h)) (sym (ap (λ (th : Thread). th.pending) (own-is g s c of uncut)) ∙ none-left c.pending rests))

  -- the ready list after the event that leads here
  pub line-is : (act : Act) → readied act ≡ comers todo → roused s act ≡ [] → ready_after (scheduler g).ready c.thread act s ≡ (scheduler g).ready ++ (comers todo ++ back c)
  line-is act comes calm =
      (λ i. let others = all_join (all_join (scheduler g).ready (comes i)) (calm i) in if is_at_rest s c.thread then joins others c.thread else others)
      ∙ (ap (λ others. if is_at_rest s c.thread then joins others c.thread else others) (all-join-new (scheduler g).ready (comers todo) comes-once)
      ∙ (ap (λ b. if b then joins ((scheduler g).ready ++ comers todo) c.thread else (scheduler g).ready ++ comers todo) (rest-is g s c of uncut) ∙ by (is_empty c.pending) refl c.ended refl))
    where
      by : (a : Bool) → is_empty c.pending ≡ a → (b : Bool) → c.ended ≡ b
          → (if a && not b then joins ((scheduler g).ready ++ comers todo) c.thread else (scheduler g).ready ++ comers todo) ≡ (scheduler g).ready ++ (comers todo ++ (if a && not b then c.thread ∷ [] else []))
      by true ea false eb = joins-new ((scheduler g).ready ++ comers todo) c.thread (own-new ea eb) ∙ append_assoc (scheduler g).ready (comers todo) (c.thread ∷ [])
      by true ea true eb = ap (λ xs. (scheduler g).ready ++ xs) (sym (append-nil (comers todo)))
      by false ea false eb = ap (λ xs. (scheduler g).ready ++ xs) (sym (append-nil (comers todo)))
      by false ea true eb = ap (λ xs. (scheduler g).ready ++ xs) (sym (append-nil (comers todo)))
