-- A thread that waits stands in some cell: each step of the machine that takes one out of a cell wakes it, or cuts it.
use Rattle.std.specs.List.{list_all}
use Rattle.std.specs.Prelude.{◌==◌, ◌&&◌, ◌||◌, not, if◌then◌else◌, is_some, slice_index_or, slice_set}
use Rattle.std.proofs.Common.{◌≡◌, ◌≢◌, ◌⊎◌, inl, inr, ℕ, zero, suc, ◌<◌, arith, length, Bool, true, false, List, [], ◌∷◌, Some, None, refl, sym, ap, ◌∙◌, subst}
use Rattle.std.proofs.lemmas.Bool.{and_parts, eqb-true, eqb-false, false≢true, true≢false, not-true}
use Rattle.std.proofs.lemmas.List.{get_or-set_same, get_or-set_other, length-set}
use Rattle.um_base.specs.Places.{addr_of}
use Rattle.um_base.specs.declared.act.Act.{Act}
use Rattle.um_base.specs.declared.act.Answer.{Answer}
use Rattle.um_base.specs.declared.ask.Ask.{Ask}
use Rattle.um_base.specs.declared.ask.Told.{Told}
use Rattle.um_base.specs.declared.ask.Waiter.{Waiter}
use Rattle.um_base.specs.declared.limits.TheConstants.{ROWS, FUTEX_CELL, JOIN_CELL}
use Rattle.um_base.specs.declared.names.Addr.{Addr}
use Rattle.um_base.specs.declared.names.Errno.{Errno}
use Rattle.um_base.specs.declared.names.Mode.{Mode}
use Rattle.um_base.specs.declared.names.Reply.{Reply}
use Rattle.um_base.specs.declared.names.ThreadIx.{ThreadIx}
use Rattle.um_machine.specs.Futexes.{futex_answer, futex_woken}
use Rattle.um_machine.specs.Goes.{Next, went, Change, Way, work_change, gone, asked_way, error_way, work_way}
use Rattle.um_machine.specs.Joins.{all_joined, join_answer, joins, without_joins}
use Rattle.um_machine.specs.Objects as Plain
use Rattle.um_machine.specs.Order.{Steps, to_thread, to_addr}
use Rattle.um_machine.specs.Run.{MayChoose, Offers, is_free_for, stands_in}
use Rattle.um_machine.specs.Services.{in_order, runs_out, still_waiting, without}
use Rattle.um_machine.specs.State.{State, nobody, vacant, object_at, thread_at, with_thread, with_object, with_waiters, waiters_in, is_waiting, is_to_resume}
use Rattle.um_machine.specs.Table as T
use Rattle.um_machine.specs.Time.{late_reply, told_late}
use Rattle.um_machine.specs.Writes.{Effect, wrote, Edit, Effects, cut, edited, effect, only, says_wait}
use Rattle.um_machine.specs.declared.object.Object.{Object}
use Rattle.um_machine.specs.declared.pending.Pending.{Pending}
use Rattle.um_machine.specs.declared.thread.Thread.{Thread}
use Rattle.um_machine.proofs.AfterLemmas.{after-is, bytes-leave}
use Rattle.um_machine.proofs.EffectLemmas.{effects_of, next_of, OfEach, all-wrote, woken-by, shared-went}
use Rattle.um_invariants.proofs.Cores.{at_set}
use Rattle.um_invariants.proofs.ThreadCells.{set-either, both-cells, cell, cell-is, place_of}
use Rattle.um_invariants.proofs.ThreadWords.{is_beside}
use Rattle.um_fine.specs.Answers.{reserved_in}
use Rattle.um_refinement.proofs.CallsProper.{AreProper}
use Rattle.um_refinement.proofs.WaitersFound.{WaitersWait}
use Rattle.um_order.proofs.CallsKept.{AreCalls}
use Rattle.um_order.proofs.CallsMoved.{IsOffered, asks, beside, inner, is_act, offered-is, resumes, rises}
use Rattle.um_order.proofs.CutNow.{waited}
use Rattle.um_refinement.proofs.WaitersKnown.{own-apart}
use Rattle.um_order.proofs.OneAct.{IsGone, Quiet, gone-left, is_awake, is_inner, quiet-closed}
use Rattle.um_order.proofs.ServedAll.{acted-joins, acted-stays, behind-stays, in-last, in-still, in-without, is_told, split-stay, taken-out}
use Rattle.um_order.proofs.ThreadsMoved.{IsMoved, own-after}

abbrev pub AllStand : State → Type 0
AllStand m = (t : ℕ) → is_waiting (thread_at m t) ≡ true → (y : ℕ) × (stands_in t (cell m y) ≡ true)

abbrev Stands : State → ℕ → ℕ → Type 0
Stands z u y = stands_in u (cell z y) ≡ true

in-row : (xs : List Object) (z u : ℕ) → stands_in u (slice_index_or xs z vacant).waiters ≡ true → z < length xs
in-row [] z u h = absurd (false≢true h)
in-row (o ∷ os) zero u h = omega arith
in-row (o ∷ os) (suc z) u h = let l = in-row os z u h in omega (arith, l)

-- those who wait on one object are written
object-in : (B : Type 0) (s : State) (u y r : ℕ) (o : Object) → Stands s u y → (y ≡ suc (suc r) → (stands_in u o.waiters ≡ true) ⊎ B) → Stands (with_object s r o) u y ⊎ B
object-in B s u zero r o there new = inl there
object-in B s u (suc zero) r o there new = inl there
object-in B s u (suc (suc z)) r o there new = by (z == r) refl
  where
    by : (b : Bool) → (z == r) ≡ b → Stands (with_object s r o) u (suc (suc z)) ⊎ B
    by true e = written (new (ap (λ n. suc (suc n)) same))
      where
        same : z ≡ r
        same = eqb-true z r e

        here : slice_index_or (slice_set s.objects r o) z vacant ≡ o
        here = ap (λ n. slice_index_or (slice_set s.objects n o) z vacant) (sym same) ∙ get_or-set_same s.objects z o vacant (in-row s.objects z u there)

        written : (stands_in u o.waiters ≡ true) ⊎ B → Stands (with_object s r o) u (suc (suc z)) ⊎ B
        written (inl h) = inl (subst (λ (w : Object). stands_in u w.waiters ≡ true) (sym here) h)
        written (inr b) = inr b
    by false e = inl (subst (λ (w : Object). stands_in u w.waiters ≡ true) (sym (get_or-set_other s.objects r z o vacant (eqb-false z r e))) there)

-- those who wait in one cell are
waiters-in : (B : Type 0) (s : State) (u y c : ℕ) (ws : List Waiter) → Stands s u y → (y ≡ place_of c → (stands_in u ws ≡ true) ⊎ B) → Stands (with_waiters s c ws) u y ⊎ B
waiters-in B s u y c ws there new = by (c == JOIN_CELL) (c == FUTEX_CELL) (both-cells c) y there new
  where
    o : Object
    o = record (object_at s c) { waiters = ws }

    put : Bool → Bool → State
    put a b = record s { objects = if a || b then s.objects else slice_set s.objects c o; joins = if a then ws else s.joins; futexes = if b then ws else s.futexes }

    by : (a b : Bool) → (a && b) ≡ false → (y : ℕ) → Stands s u y → (y ≡ (if a then 0 else if b then 1 else suc (suc c)) → (stands_in u ws ≡ true) ⊎ B) → Stands (put a b) u y ⊎ B
    by true true h y k new = absurd (true≢false h)
    by true false h zero k new = new refl
    by true false h (suc zero) k new = inl k
    by true false h (suc (suc z)) k new = inl k
    by false true h zero k new = inl k
    by false true h (suc zero) k new = new refl
    by false true h (suc (suc z)) k new = inl k
    by false false h zero k new = inl k
    by false false h (suc zero) k new = inl k
    by false false h (suc (suc z)) k new = object-in B s u (suc (suc z)) c o k new

-- Who is woken.

woken-cells : (woken : List (ThreadIx × Told)) (z : State) (y : ℕ) → cell (T.all_woken woken z) y ≡ cell z y
woken-cells woken z y = woken-by (λ (w : State). cell w y ≡ cell z y) (λ w u told same. same) woken z refl

is-told : (woken : List (ThreadIx × Told)) (z : State) (u : ℕ) → u < length z.threads → is_told u woken ≡ true → is_some (thread_at (T.all_woken woken z) u).told ≡ true
is-told [] z u inside h = absurd (false≢true h)
is-told (w ∷ woken) z u inside h = by (w.0.0 == u) refl h (is-told woken z2 u)
  where
    me : Thread
    me = record (thread_at z w.0.0) { told = Some w.1 }

    z2 : State
    z2 = with_thread z w.0.0 me

    by : (b : Bool) → (w.0.0 == u) ≡ b → (b || is_told u woken) ≡ true → (u < length z2.threads → is_told u woken ≡ true → is_some (thread_at (T.all_woken woken z2) u).told ≡ true)
        → is_some (thread_at (T.all_woken woken z2) u).told ≡ true
    by true e k more =
        woken-by (λ (v : State). is_some (thread_at v u).told ≡ true)
        (λ v n told so. at_set (λ i (th : Thread). is_some th.told ≡ true) v.threads n u (record (thread_at v n) { told = Some told }) nobody refl so) woken z2
        (let same = eqb-true w.0.0 u e in
        subst (λ n. is_some (thread_at z2 n).told ≡ true) same
        (ap (λ (th : Thread). is_some th.told) (get_or-set_same z.threads w.0.0 me nobody (subst (λ n. n < length z.threads) (sym same) inside))))
    by false e k more = let long = length-set z.threads w.0.0 me in more (omega (arith, inside, long)) k

waiting-in : (xs : List Thread) (u : ℕ) → is_waiting (slice_index_or xs u nobody) ≡ true → u < length xs
waiting-in [] u h = absurd (false≢true h)
waiting-in (x ∷ xs) zero h = omega arith
waiting-in (x ∷ xs) (suc u) h = let l = waiting-in xs u h in omega (arith, l)

long-woken : (woken : List (ThreadIx × Told)) (z : State) → length (T.all_woken woken z).threads ≡ length z.threads
long-woken woken z = woken-by (λ (v : State). length v.threads ≡ length z.threads) (λ v u told same. length-set v.threads u (record (thread_at v u) { told = Some told }) ∙ same) woken z refl

-- whoever waits then wasn't woken
woken-stays : (woken : List (ThreadIx × Told)) (z : State) (u y : ℕ) → Stands z u y ⊎ (is_told u woken ≡ true) → is_waiting (thread_at (T.all_woken woken z) u) ≡ true → Stands (T.all_woken woken z) u y
woken-stays woken z u y (inl there) waiting = subst (λ ws. stands_in u ws ≡ true) (sym (woken-cells woken z y)) there
woken-stays woken z u y (inr told) waiting =
    let inside = waiting-in (T.all_woken woken z).threads u waiting in
    let long = long-woken woken z in
    let some = is-told woken z u (omega (arith, inside, long)) told in
    absurd (true≢false (sym (and_parts (is_to_resume (thread_at (T.all_woken woken z) u).pending) _ waiting).1 ∙ ap not some))

-- What is known of the cells of objects: nobody waits on one that is free, or that nobody holds.
abbrev pub NoneWait : State → Type 0
NoneWait s = (x u : ℕ) → x < ROWS → stands_in u (object_at s x).waiters ≡ true → (Plain.is_free (object_at s x).status ≡ false) × (Plain.is_held s x ≡ true)

module _ (s : State) (t x u y : ℕ) (none : NoneWait s) (many : length s.objects ≡ ROWS) (there : Stands s u y) where
  abbrev Reads : State → Type 0
  Reads z = Stands z u y

  -- what has to be known of a write
  abbrev Leaves : Effect → Type 0
  Leaves (Effect.object r (Edit.works contents ws buffer)) = ⊥
  Leaves (Effect.object r (Edit.runs_out contents ws)) = ⊥
  Leaves (Effect.object r (Edit.reserved kind cost)) = y ≡ suc (suc r) → ⊥
  Leaves (Effect.object r Edit.vacates) = y ≡ suc (suc r) → ⊥
  Leaves (Effect.waiters c ws) = ⊥
  Leaves e = Unit {0}

  same-waiters : (z : State) (r : ℕ) (o : Object) → o.waiters ≡ (object_at z r).waiters → Reads z → Reads (with_object z r o)
  same-waiters z r o same k = by (object-in ⊥ z u y r o k (λ h. inl (subst (λ ws. stands_in u ws ≡ true) (sym same) (subst (λ n. stands_in u (cell z n) ≡ true) h k))))
    where
      by : Reads (with_object z r o) ⊎ ⊥ → Reads (with_object z r o)
      by (inl h) = h
      by (inr h) = absurd h

  edits : (z : State) (r : ℕ) (edit : Edit) → Leaves (Effect.object r edit) → Reads z → Reads (effect (Effect.object r edit) z)
  edits z r (Edit.works contents ws buffer) f k = absurd f
  edits z r (Edit.runs_out contents ws) f k = absurd f
  edits z r (Edit.reserved kind cost) f k = only-other (object-in ⊥ z u y r (edited (Edit.reserved kind cost) (object_at z r)) k (λ h. absurd (f h)))
    where
      only-other : Reads (with_object z r (edited (Edit.reserved kind cost) (object_at z r))) ⊎ ⊥ → Reads (with_object z r (edited (Edit.reserved kind cost) (object_at z r)))
      only-other (inl h) = h
      only-other (inr h) = absurd h
  edits z r Edit.vacates f k = only-other (object-in ⊥ z u y r (edited Edit.vacates (object_at z r)) k (λ h. absurd (f h)))
    where
      only-other : Reads (with_object z r (edited Edit.vacates (object_at z r))) ⊎ ⊥ → Reads (with_object z r (edited Edit.vacates (object_at z r)))
      only-other (inl h) = h
      only-other (inr h) = absurd h
  edits z r edit f k = same-waiters z r (edited edit (object_at z r)) refl k

  keeps : (e : Effect) (z : State) → Leaves e → Reads z → Reads (effect e z)
  keeps (Effect.wakes woken) z f k = subst (λ ws. stands_in u ws ≡ true) (sym (woken-cells woken z y)) k
  keeps (Effect.object r edit) z f k = edits z r edit f k
  keeps (Effect.waiters c ws) z f k = absurd f
  keeps (Effect.bytes a bs) z f k = subst (λ ws. stands_in u ws ≡ true) (sym (bytes-leave (λ (w : State). cell w y) (λ w b. refl) (λ w b. refl) z a bs)) k
  keeps e z f k = k

  abbrev is_apart : Effect → Bool
  is_apart (Effect.object r (Edit.works contents ws buffer)) = false
  is_apart (Effect.object r (Edit.runs_out contents ws)) = false
  is_apart (Effect.object r (Edit.reserved kind cost)) = false
  is_apart (Effect.object r Edit.vacates) = false
  is_apart (Effect.waiters c ws) = false
  is_apart e = true

  apart-leaves : (e : Effect) → is_apart e ≡ true → Leaves e
  apart-leaves (Effect.object r (Edit.works contents ws buffer)) h = absurd (false≢true h)
  apart-leaves (Effect.object r (Edit.runs_out contents ws)) h = absurd (false≢true h)
  apart-leaves (Effect.object r (Edit.reserved kind cost)) h = absurd (false≢true h)
  apart-leaves (Effect.object r Edit.vacates) h = absurd (false≢true h)
  apart-leaves (Effect.object r edit) h = tt
  apart-leaves (Effect.waiters c ws) h = absurd (false≢true h)
  apart-leaves e h = tt

  all-apart : (ws : Effects) → list_all (λ (w : Bool × Effect). is_apart w.1) ws ≡ true → OfEach Leaves ws
  all-apart [] h = tt
  all-apart ((b, e) ∷ ws) h = let parts = and_parts (is_apart e) (list_all (λ (w : Bool × Effect). is_apart w.1) ws) h in (apart-leaves e parts.0, all-apart ws parts.1)

  here : (c : ℕ) → y ≡ place_of c → stands_in u (waiters_in s c) ≡ true
  here c h = subst (λ ws. stands_in u ws ≡ true) (sym (cell-is s c)) (subst (λ n. stands_in u (cell s n) ≡ true) h there)

  -- the caller waits, or is answered
  asks-in : (c : ℕ) (ask : Ask) (answer : Answer) → Reads (wrote (only (says_wait answer) (Effect.waiters c (T.queued s t c ask)) ∷ []) s)
  asks-in c ask (Answer.Now reply) = there
  asks-in c ask Answer.Wait = by (waiters-in ⊥ s u y c (T.queued s t c ask) there (λ h. inl (behind-stays u _ (waiters_in s c) (here c h))))
    where
      by : Reads (with_waiters s c (T.queued s t c ask)) ⊎ ⊥ → Reads (with_waiters s c (T.queued s t c ask))
      by (inl h) = h
      by (inr h) = absurd h

  wrote-in : (q : Pending) → MayChoose s t x q → is_waiting (thread_at (wrote (effects_of s t x q) s) u) ≡ true → Reads (wrote (effects_of s t x q) s)
  wrote-in (Pending.Work a ask) chosen waiting =
      let r = T.row_of s a in
      let o = object_at s r in
      let w = T.work_of s t a ask in
      let o2 = edited (Edit.works w.contents w.waiters (T.buffer_cost ask w.answer o.buffer)) o in
      woken-stays w.woken (with_object s r o2) u y
      (object-in (is_told u w.woken ≡ true) s u y r o2 there (λ h. acted-stays u o.contents o.waiters _ ask (subst (λ n. stands_in u (cell s n) ≡ true) h there))) waiting
  wrote-in (Pending.Join who timeout) chosen waiting = asks-in JOIN_CELL (Ask.Join who) (join_answer s t x who.0 timeout)
  wrote-in (Pending.FutexWait a value timeout) chosen waiting = asks-in FUTEX_CELL (Ask.FutexWait a) (futex_answer s t a.0 value timeout)
  wrote-in Pending.Left chosen waiting =
      woken-stays (all_joined s t) (with_waiters s JOIN_CELL (without_joins s t)) u y
      (waiters-in (is_told u (all_joined s t) ≡ true) s u y JOIN_CELL (without_joins s t) there (λ h. split-stay u (Reply.Num 0) (joins t) s.joins (here JOIN_CELL h))) waiting
  wrote-in (Pending.FutexWake a all) chosen waiting =
      let woken = futex_woken s t a.0 all in
      woken-stays woken (with_waiters s FUTEX_CELL (still_waiting woken s.futexes)) u y
      (waiters-in (is_told u woken ≡ true) s u y FUTEX_CELL (still_waiting woken s.futexes) there (λ h. in-still u woken s.futexes (here FUTEX_CELL h))) waiting
  wrote-in (Pending.TimeOut who) chosen waiting =
      woken-stays (told_late who x) (with_waiters s x (without who.0 (waiters_in s x))) u y
      (waiters-in (is_told u (told_late who x) ≡ true) s u y x (without who.0 (waiters_in s x)) there (λ h. taken-out u who (record { reply = Reply.Fail (late_reply x); taken = [] }) (waiters_in s x) (here x h))) waiting
  wrote-in Pending.Expire chosen waiting =
      let o = object_at s x in
      let out = runs_out o.waiters (in_order o.waiters) in
      woken-stays out.2 (with_object s x (record o { contents = out.0; waiters = out.1 })) u y
      (object-in (is_told u out.2 ≡ true) s u y x (record o { contents = out.0; waiters = out.1 }) there (λ h. ran (in_order o.waiters) (subst (λ n. stands_in u (cell s n) ≡ true) h there))) waiting
    where
      ran : (order : List Waiter) → stands_in u (object_at s x).waiters ≡ true
          → (let out = runs_out (object_at s x).waiters order in (stands_in u out.1 ≡ true) ⊎ (is_told u out.2 ≡ true))
      ran [] h = inl h
      ran (first ∷ order) h = taken-out u first.thread (record { reply = Reply.Num 1; taken = [] }) (object_at s x).waiters h
  wrote-in (Pending.Cut who) chosen waiting = by (waiters-in (who.0 ≡ u) s u y x (without who.0 (waiters_in s x)) there (λ h. in-without u who.0 (waiters_in s x) (here x h)))
    where
      z : State
      z = with_waiters s x (without who.0 (waiters_in s x))

      gone : who.0 ≡ u → ⊥
      gone same = which (set-either z.threads who.0 (cut (thread_at z who.0)) nobody)
        where
          now : is_waiting (thread_at (with_thread z who.0 (cut (thread_at z who.0))) who.0) ≡ true
          now = subst (λ n. is_waiting (thread_at (with_thread z who.0 (cut (thread_at z who.0))) n) ≡ true) (sym same) waiting

          which : (thread_at (with_thread z who.0 (cut (thread_at z who.0))) who.0 ≡ cut (thread_at z who.0)) ⊎ (thread_at (with_thread z who.0 (cut (thread_at z who.0))) who.0 ≡ nobody) → ⊥
          which (inl h) = false≢true (sym (ap is_waiting h) ∙ now)
          which (inr h) = false≢true (sym (ap is_waiting h) ∙ now)

      by : Stands (with_waiters s x (without who.0 (waiters_in s x))) u y ⊎ (who.0 ≡ u) → Reads (wrote (effects_of s t x (Pending.Cut who)) s)
      by (inl h) = h
      by (inr same) = absurd (gone same)
  wrote-in Pending.Recycle chosen waiting =
      all-wrote Reads Leaves keeps (effects_of s t x Pending.Recycle) s ((λ h. unheld h), (tt, (tt, tt))) there
    where
      unheld : y ≡ suc (suc x) → ⊥
      unheld h = true≢false (sym (none x u (let l = in-row s.objects x u waits in omega (arith, l, many)) waits).1 ∙ not-true (Plain.is_held s x) chosen.0.1)
        where
          waits : stands_in u (object_at s x).waiters ≡ true
          waits = subst (λ n. stands_in u (cell s n) ≡ true) h there
  wrote-in (Pending.Reserve kind) chosen waiting = by (x == 0) refl chosen
    where
      place : Bool → Bool × Effect
      place b = only b (Effect.object x (Edit.reserved kind (T.cost_of (thread_at s t).pool 64)))

      Wrote : Bool → Type 0
      Wrote b = let found = is_some (reserved_in (Act.Reserve kind (if b then None else Some (to_addr (addr_of s.image x))))) in Reads (wrote (only found (Effect.takes (thread_at s t).pool 64) ∷ place found ∷ []) s)

      free : is_free_for s kind x ≡ true → y ≡ suc (suc x) → ⊥
      free f h =
          let parts = and_parts _ (Plain.is_free (object_at s x).status) f in
          true≢false (sym parts.1 ∙ (none x u (let l = in-row s.objects x u waits in omega (arith, l, many)) waits).0)
        where
          waits : stands_in u (object_at s x).waiters ≡ true
          waits = subst (λ n. stands_in u (cell s n) ≡ true) h there

      by : (b : Bool) → (x == 0) ≡ b → MayChoose s t x (Pending.Reserve kind) → Reads (wrote (effects_of s t x (Pending.Reserve kind)) s)
      by true e may = subst Wrote (sym e) there
      by false e (inl may) = subst Wrote (sym e) (all-wrote Reads Leaves keeps (only true (Effect.takes (thread_at s t).pool 64) ∷ place true ∷ []) s (tt, (free may.1, tt)) there)
      by false e (inr may) = absurd (true≢false (sym (ap (λ n. n == 0) may.0) ∙ e))
  wrote-in q chosen waiting = all-wrote Reads Leaves keeps (effects_of s t x q) s (all-apart (effects_of s t x q) refl) there

-- Who begins to wait stands in the cell of its act.

row-below : (xs : List Bool) (r : ℕ) → slice_index_or xs r false ≡ true → r < length xs
row-below [] r h = absurd (false≢true h)
row-below (b ∷ bs) zero h = omega arith
row-below (b ∷ bs) (suc r) h = let l = row-below bs r h in omega (arith, l)

went-cell : (left : Steps) (z : State) (t : ℕ) (next : Next) (y : ℕ) → cell (went left z t next) y ≡ cell z y
went-cell left z t next y = shared-went (λ (w : State). cell w y) (λ w threads. refl) left z t next

went-other : (left : Steps) (z : State) (t : ℕ) (next : Next) (u : ℕ) → u ≢ t → thread_at (went left z t next) u ≡ thread_at z u
went-other left z t Next.stays u other = refl
went-other left z t (Next.begins None) u other = refl
went-other left z t (Next.resumes None) u other = refl
went-other left z t next u other = get_or-set_other z.threads t u (gone left z t next (thread_at z t)) nobody other

cell-of : (c : ℕ) (s : State) → waiters_in s c ≡ cell s (place_of c)
cell-of c s = cell-is s c

error-awake : (mode : Mode) (ask : Ask) (e : Errno) → is_awake (error_way mode ask e) ≡ true
error-awake mode (Ask.SemInit count limit) e = refl
error-awake mode Ask.MutexInit e = refl
error-awake mode (Ask.MsgqInit size most pool) e = refl
error-awake mode (Ask.StackInit most pool) e = refl
error-awake mode (Ask.PipeInit size pool) e = refl
error-awake mode ask e = refl

now-awake : (mode : Mode) (ask : Ask) (reply : Reply) → is_awake (work_way mode ask (Answer.Now reply)) ≡ true
now-awake mode ask (Reply.Fail e) = error-awake mode ask e
now-awake mode ask reply = refl

quiet-awake : (steps : Steps) → Quiet steps → is_to_resume steps ≡ false
quiet-awake [] h = refl
quiet-awake (Pending.Resume ∷ rest) h = absurd h
quiet-awake (q ∷ rest) h = refl

module _ (s : State) (t x : ℕ) (rest : Steps) (quiet : Quiet rest) where
  abbrev Waits : Pending → Type 0
  Waits q = is_waiting (thread_at (T.after s t x q rest) t) ≡ true

  resumes-then : (q : Pending) → Waits q → is_to_resume (thread_at (T.after s t x q rest) t).pending ≡ true
  resumes-then q w = (and_parts (is_to_resume (thread_at (T.after s t x q rest) t).pending) _ w).0

  -- an answer at once leaves it awake
  answered : (q : Pending) (change : Change) (way : Way) → is_awake way ≡ true → next_of s t x q ≡ Next.on change way → Waits q → ⊥
  answered q change way awake same w = true≢false (sym (resumes-then q w) ∙ off)
    where
      z : State
      z = wrote (effects_of s t x q) s

      settled : is_to_resume (gone rest z t (next_of s t x q) (thread_at z t)).pending ≡ false
      settled =
          subst (λ (n : Next). is_to_resume (gone rest z t n (thread_at z t)).pending ≡ false) (sym same)
          (by (gone-left Quiet quiet-closed rest z t (Next.on change way) (thread_at z t) (quiet, awake)))
        where
          by : IsGone Quiet (Next.on change way) (gone rest z t (Next.on change way) (thread_at z t)).pending → is_to_resume (gone rest z t (Next.on change way) (thread_at z t)).pending ≡ false
          by (inl k) = quiet-awake (gone rest z t (Next.on change way) (thread_at z t)).pending k
          by (inr (from, e, k)) = absurd k

      off : is_to_resume (thread_at (T.after s t x q rest) t).pending ≡ false
      off = own-after (λ steps. is_to_resume steps ≡ false) refl t s x q rest (subst IsMoved (sym same) tt) settled

  pub begins-in : (q : Pending) → is_act q ≡ true → ((a : Addr) (ask : Ask) → q ≡ Pending.Work a ask → T.row_of s a < length s.objects) → Waits q
      → (y : ℕ) × (stands_in t (cell (T.after s t x q rest) y) ≡ true)
  begins-in (Pending.Work a ask) act rows w = by (T.work_of s t a ask).answer refl
    where
      r : ℕ
      r = T.row_of s a

      o : Object
      o = object_at s r

      me : Thread
      me = thread_at s t

      who : Waiter
      who = record { thread = to_thread t; priority = me.priority; ask = ask; bytes = T.bytes_given me.buffer ask; until = me.until }

      o2 : Object
      o2 = edited (Edit.works (T.work_of s t a ask).contents (T.work_of s t a ask).waiters (T.buffer_cost ask (T.work_of s t a ask).answer o.buffer)) o

      there : (T.work_of s t a ask).answer ≡ Answer.Wait → stands_in t (cell (with_object s r o2) (suc (suc r))) ≡ true
      there wait =
          subst (λ (z : Object). stands_in t z.waiters ≡ true) (sym (get_or-set_same s.objects r o2 vacant (rows a ask refl))) (acted-joins o.waiters who o.contents ask wait)

      by : (answer : Answer) → (T.work_of s t a ask).answer ≡ answer → (y : ℕ) × (stands_in t (cell (T.after s t x (Pending.Work a ask) rest) y) ≡ true)
      by (Answer.Now reply) e =
          absurd (answered (Pending.Work a ask) (work_change (T.work_of s t a ask).answer (T.work_of s t a ask).taken) (work_way me.mode ask (T.work_of s t a ask).answer)
          (ap (λ n. is_awake (work_way me.mode ask n)) e ∙ now-awake me.mode ask reply) refl w)
      by Answer.Wait e = (
        suc (suc r),
        subst (λ ws. stands_in t ws ≡ true)
            (sym (ap (λ (z : State). cell z (suc (suc r))) (after-is s t x (Pending.Work a ask) rest)
            ∙ (went-cell rest (wrote (effects_of s t x (Pending.Work a ask)) s) t (next_of s t x (Pending.Work a ask)) (suc (suc r))
            ∙ woken-cells (T.work_of s t a ask).woken (with_object s r o2) (suc (suc r))))) (there e),
      )
  begins-in (Pending.Join who timeout) act rows w = by (join_answer s t x who.0 timeout) refl
    where
      by : (answer : Answer) → join_answer s t x who.0 timeout ≡ answer → (y : ℕ) × (stands_in t (cell (T.after s t x (Pending.Join who timeout) rest) y) ≡ true)
      by (Answer.Now reply) e =
          absurd (answered (Pending.Join who timeout) (work_change (join_answer s t x who.0 timeout) []) (asked_way (join_answer s t x who.0 timeout)) (ap (λ n. is_awake (asked_way n)) e) refl w)
      by Answer.Wait e = (
        0,
        subst (λ ws. stands_in t ws ≡ true)
            (sym (ap (λ (z : State). cell z 0) (after-is s t x (Pending.Join who timeout) rest)
            ∙ (went-cell rest (wrote (effects_of s t x (Pending.Join who timeout)) s) t (next_of s t x (Pending.Join who timeout)) 0
            ∙ ap (λ answer. cell (wrote (only (says_wait answer) (Effect.waiters JOIN_CELL (T.queued s t JOIN_CELL (Ask.Join who))) ∷ []) s) 0) e)))
            (in-last (record { thread = to_thread t; priority = (thread_at s t).priority; ask = Ask.Join who; bytes = []; until = (thread_at s t).until }) (without t s.joins)),
      )
  begins-in (Pending.FutexWait a value timeout) act rows w = by (futex_answer s t a.0 value timeout) refl
    where
      by : (answer : Answer) → futex_answer s t a.0 value timeout ≡ answer → (y : ℕ) × (stands_in t (cell (T.after s t x (Pending.FutexWait a value timeout) rest) y) ≡ true)
      by (Answer.Now reply) e =
          absurd (answered (Pending.FutexWait a value timeout) (work_change (futex_answer s t a.0 value timeout) []) (asked_way (futex_answer s t a.0 value timeout)) (ap (λ n. is_awake (asked_way n)) e) refl w)
      by Answer.Wait e = (
        1,
        subst (λ ws. stands_in t ws ≡ true)
            (sym (ap (λ (z : State). cell z 1) (after-is s t x (Pending.FutexWait a value timeout) rest)
            ∙ (went-cell rest (wrote (effects_of s t x (Pending.FutexWait a value timeout)) s) t (next_of s t x (Pending.FutexWait a value timeout)) 1
            ∙ ap (λ answer. cell (wrote (only (says_wait answer) (Effect.waiters FUTEX_CELL (T.queued s t FUTEX_CELL (Ask.FutexWait a))) ∷ []) s) 1) e)))
            (in-last (record { thread = to_thread t; priority = (thread_at s t).priority; ask = Ask.FutexWait a; bytes = []; until = (thread_at s t).until }) (without t s.futexes)),
      )
  begins-in q act rows w = absurd (false≢true act)

-- After a step.
module _ (s : State) (t x : ℕ) (q : Pending) (rest : Steps) (offers : Offers s t q rest) (chosen : MayChoose s t x q) (proper : AreProper s.image s) (calls : AreCalls s) (waits : WaitersWait s)
    (none : NoneWait s) (many : length s.objects ≡ ROWS) (rows : (a : Addr) (ask : Ask) → q ≡ Pending.Work a ask → T.row_of s a < ROWS) (was : AllStand s) where
  quiet-left : is_act q ≡ true → Quiet rest
  quiet-left act = by (offered-is s t x proper (calls.calls t) q rest offers)
    where
      inner-not : (p : Pending) → is_inner p ≡ true → is_act p ≡ true → ⊥
      inner-not (Pending.Work a ask) h k = false≢true h
      inner-not (Pending.Join who timeout) h k = false≢true h
      inner-not (Pending.FutexWait a value timeout) h k = false≢true h
      inner-not p h k = false≢true k

      beside-not : (p : Pending) → is_beside p ≡ true → is_act p ≡ true → ⊥
      beside-not (Pending.Work a ask) h k = false≢true h
      beside-not (Pending.Join who timeout) h k = false≢true h
      beside-not (Pending.FutexWait a value timeout) h k = false≢true h
      beside-not p h k = false≢true k

      by : IsOffered s t x proper (calls.calls t) q rest → Quiet rest
      by (inner is h g) = absurd (inner-not q is act)
      by (asks is h more g) = h
      by (resumes e h) = h
      by (rises e may there) = absurd (false≢true (sym (ap is_act e) ∙ act))
      by (beside is) = absurd (beside-not q is act)

  pub stands-after : AllStand (T.after s t x q rest)
  stands-after u waiting = by (waited s t x q rest offers chosen proper calls u waiting)
    where
      z : State
      z = wrote (effects_of s t x q) s

      after_cell : (y : ℕ) → stands_in u (cell z y) ≡ true → stands_in u (cell (T.after s t x q rest) y) ≡ true
      after_cell y h = subst (λ ws. stands_in u ws ≡ true) (sym (ap (λ (w : State). cell w y) (after-is s t x q rest) ∙ went-cell rest z t (next_of s t x q) y)) h

      beside-same : (p : Pending) → is_beside p ≡ true → thread_at (went rest z t (next_of s t x p)) t ≡ thread_at z t
      beside-same Pending.Left h = refl
      beside-same (Pending.CleanPair who) h = refl
      beside-same Pending.Recycle h = refl
      beside-same Pending.Tick h = refl
      beside-same (Pending.TimeOut who) h = refl
      beside-same Pending.Expire h = refl
      beside-same (Pending.Cut who) h = refl
      beside-same p h = absurd (false≢true h)

      now-waits : is_waiting (thread_at s u) ≡ true → is_waiting (thread_at z u) ≡ true
      now-waits before = which (u == t) refl (is_beside q) refl
        where
          which : (b : Bool) → (u == t) ≡ b → (c : Bool) → is_beside q ≡ c → is_waiting (thread_at z u) ≡ true
          which false e c f =
              ap is_waiting (sym (ap (λ (w : State). thread_at w u) (after-is s t x q rest) ∙ went-other rest z t (next_of s t x q) u (eqb-false u t e))) ∙ waiting
          which true e true f =
              let own = eqb-true u t e in
              subst (λ n. is_waiting (thread_at z n) ≡ true) (sym own)
              (ap is_waiting (sym (ap (λ (w : State). thread_at w t) (after-is s t x q rest) ∙ beside-same q f)) ∙ subst (λ n. is_waiting (thread_at (T.after s t x q rest) n) ≡ true) own waiting)
          which true e false f = absurd (own-apart s t x waits q rest offers f chosen (subst (λ n. is_waiting (thread_at s n) ≡ true) (eqb-true u t e) before))

      by : (is_waiting (thread_at s u) ≡ true) ⊎ ((u ≡ t) × (is_act q ≡ true)) → (y : ℕ) × (stands_in u (cell (T.after s t x q rest) y) ≡ true)
      by (inl before) =
          let there = was u before in (there.0, after_cell there.0 (wrote-in s t x u there.0 none many there.1 q chosen (now-waits before)))
      by (inr own) =
          subst (λ n. (y : ℕ) × (stands_in n (cell (T.after s t x q rest) y) ≡ true)) (sym own.0)
          (begins-in s t x rest (quiet-left own.1) q own.1 (λ a ask same. let few = rows a ask same in omega (arith, few, many)) (subst (λ n. is_waiting (thread_at (T.after s t x q rest) n) ≡ true) own.0 waiting))
