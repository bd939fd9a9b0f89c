-- The work of a call: its caller may wait then, and others may be woken.
use Rattle.std.proofs.Common.{◌≡◌, ◌≢◌, ◌⊎◌, inl, inr, ◌≤◌, ◌<◌, ℕ, zero, suc, Bool, true, false, ◌==◌, ◌&&◌, ◌||◌, not, pos, List, [], ◌∷◌, length, filter, map, refl, sym, ap, subst, ◌∙◌, arith, Option, Some, None, slice_index_or}
use Rattle.std.proofs.lemmas.Bool.{cases_Bool}
use Rattle.std.proofs.lemmas.List.{length-set, get_or-set_other, get_or-set_same}
use Rattle.um_base.specs.declared.act.Answer.{Answer}
use Rattle.um_base.specs.declared.ask.Ask.{Ask}
use Rattle.um_base.specs.declared.ask.Told.{Told}
use Rattle.um_base.specs.declared.ask.Waiter.{Waiter}
use Rattle.um_base.specs.declared.image.Image.{Image}
use Rattle.um_base.specs.declared.limits.TheConstants.{FUTEX_CELL, JOIN_CELL}
use Rattle.um_base.specs.declared.names.Addr.{Addr}
use Rattle.um_base.specs.declared.names.Errno.{Errno}
use Rattle.um_base.specs.declared.names.Reply.{Reply}
use Rattle.um_base.specs.declared.names.ThreadIx.{ThreadIx}
use Rattle.um_base.specs.declared.names.Timeout.{Timeout}
use Rattle.um_machine.specs.declared.pending.Pending.{Pending}
use Rattle.um_machine.specs.declared.thread.Thread.{Thread}
use Rattle.um_machine.specs.Order.{Steps, to_thread}
use Rattle.um_machine.specs.State.{State, nobody, is_waiting, thread_at, object_at, waiters_in, with_thread, with_object, with_waiters}
use Rattle.um_machine.specs.declared.contents.Contents.{Contents}
use Rattle.um_machine.specs.Futexes.{futex_answer, futex_refusal, futex_woken, is_on as is_on_futex, roused, some_of, wake_answer}
use Rattle.um_machine.specs.Goes.{Change, Next, Way, asked_way, at_steps, steps_by, went, work_change, work_way}
use Rattle.um_machine.specs.Joins.{all_joined, join_answer, joins as joins_one, without_joins}
use Rattle.um_machine.specs.Run.{MayChoose, stands_in}
use Rattle.um_machine.specs.Services.{Acted, in_order, runs_out, still_waiting, without}
use Rattle.um_machine.specs.Time.{has_come, told_late}
use Rattle.um_machine.specs.Writes.{Effect, cut, only, says_wait, write}
use Rattle.um_machine.specs.Table.{after, row_of, bytes_given, work_of, queued, replies_of, all_woken, buffer_cost}
use Rattle.um_invariants.specs.Lines.{stands}
use Rattle.um_invariants.proofs.Cores.{at_set}
use Rattle.um_invariants.proofs.Facts.{is_equal, is_not, left_of, right_of}
use Rattle.um_invariants.proofs.ThreadCounts.{count-any, count-filter, equal_or_not, unequal}
use Rattle.um_invariants.proofs.ThreadCells.{cell, cell-is, place_of, IsPut, object-put, waiters-put}
use Rattle.um_invariants.proofs.ThreadWaits.{times, times-first, times-without, is_of, numbers, waited, AreApart, Among, IsServed, all-order, some-order, served-none, served-one, served-some, served-still, served-waits, told-times, told-wakings}
use Rattle.um_invariants.proofs.ThreadServes.{served}
use Rattle.um_invariants.proofs.ThreadWords.{is_on, may_stand, IsFramed, are_plain, is_resume, IsOrderly, AreDue, AreKept, IsMade, IsOffered}
use Rattle.um_invariants.proofs.ThreadFrames.{alike-self, alike-framed, base-kept, base-same, plain-orderly, plain-from, written-kept}
use Rattle.um_invariants.proofs.ThreadSteps.{plain-way}

-- an index with a thread that isn't nobody
pub inside-of : (p : Thread → Bool) → p nobody ≡ false → (xs : List Thread) (u : ℕ) → p (slice_index_or xs u nobody) ≡ true → u < length xs
inside-of p none [] u h = absurd (let bad : true ≡ false = sym h ∙ none in cc)
inside-of p none (x ∷ xs) zero h = omega arith
inside-of p none (x ∷ xs) (suc u) h = let rest = inside-of p none xs u h in omega (arith, rest)

-- Who is told.

abbrev with_told : State → ThreadIx × Told → State
with_told s w = with_thread s w.0.0 (record (thread_at s w.0.0) { told = Some w.1 })

woken-rest : (ws : List (ThreadIx × Told)) (s : State) → all_woken ws s ≡ record s { threads = (all_woken ws s).threads }
woken-rest [] s = refl
woken-rest (w ∷ ws) s = woken-rest ws (with_told s w)

woken-many : (ws : List (ThreadIx × Told)) (s : State) → length (all_woken ws s).threads ≡ length s.threads
woken-many [] s = refl
woken-many (w ∷ ws) s = woken-many ws (with_told s w) ∙ length-set s.threads w.0.0 (record (thread_at s w.0.0) { told = Some w.1 })

woken-other : (ws : List (ThreadIx × Told)) (s : State) (u : ℕ) → stands (numbers ws) u ≡ false → thread_at (all_woken ws s) u ≡ thread_at s u
woken-other [] s u h = refl
woken-other (w ∷ ws) s u h =
    woken-other ws (with_told s w) u (right_of (u == w.0.0) (stands (numbers ws) u) h)
    ∙ get_or-set_other s.threads w.0.0 u (record (thread_at s w.0.0) { told = Some w.1 }) nobody (unequal u w.0.0 (left_of (u == w.0.0) (stands (numbers ws) u) h))

told-same : (s : State) (w : ThreadIx × Told) (told : Told) (u : ℕ) → record (thread_at (with_told s w) u) { told = Some told } ≡ record (thread_at s u) { told = Some told }
told-same s w told u =
    at_set (λ n (other : Thread). record other { told = Some told } ≡ record (thread_at s n) { told = Some told }) s.threads w.0.0 u (record (thread_at s w.0.0) { told = Some w.1 }) nobody refl refl

woken-told : (ws : List (ThreadIx × Told)) (s : State) (u : ℕ) → u < length s.threads → stands (numbers ws) u ≡ true → (told : Told) × (thread_at (all_woken ws s) u ≡ record (thread_at s u) { told = Some told })
woken-told [] s u inside h = cc
woken-told (w ∷ ws) s u inside h =
    let s2 = with_told s w in
    let me = record (thread_at s w.0.0) { told = Some w.1 } in
    elim (cases_Bool (stands (numbers ws) u)) [
      | inl found ↦ (let many = length-set s.threads w.0.0 me in let (told, here) = woken-told ws s2 u (omega (arith, inside, many)) found in (told, here ∙ told-same s w told u))
      | inr missing ↦ (
          let same : u ≡ w.0.0 = is_equal u w.0.0 (first_stands (u == w.0.0) (stands (numbers ws) u) h missing) in
          let within : w.0.0 < length s.threads = subst (λ (n : ℕ). n < length s.threads) same inside in
          let told_one : thread_at s2 w.0.0 ≡ me = get_or-set_same s.threads w.0.0 me nobody within in
          (w.1, woken-other ws s2 u missing ∙ subst (λ (n : ℕ). thread_at s2 n ≡ record (thread_at s n) { told = Some w.1 }) (sym same) told_one))
    ]
  where
    first_stands : (a b : Bool) → (a || b) ≡ true → b ≡ false → a ≡ true
    first_stands true b h e = refl
    first_stands false b h e = absurd (let bad : true ≡ false = sym h ∙ e in cc)

-- Where the work is done in a cell: these were woken, and this was answered.
pub record IsWorked (s s3 : State) (t x : ℕ) (woken : List ℕ) (answer : Answer) : Type 0 where
  image : s3.image ≡ s.image
  pairs : s3.pairs ≡ s.pairs
  many : length s3.threads ≡ length s.threads
  same : (u : ℕ) → stands woken u ≡ false → thread_at s3 u ≡ thread_at s u
  told : (u : ℕ) → stands woken u ≡ true → (told : Told) × (thread_at s3 u ≡ record (thread_at s u) { told = Some told })
  waited : (u : ℕ) → stands woken u ≡ true → 1 ≤ times u (cell s x)
  left : (y u : ℕ) → 1 ≤ times u (cell s3 y) → ((1 ≤ times u (cell s y)) × (stands woken u ≡ false)) ⊎ ((u ≡ t) × (answer ≡ Answer.Wait) × (y ≡ x))
  once : (y u : ℕ) → times u (cell s3 y) ≤ 1

resume-on : (me : Thread) (steps : Steps) → me.pending ≡ steps → is_resume steps ≡ true → (told : Told) → (me.told ≡ Some told → is_on me ≡ true) × (me.told ≡ None → is_on me ≡ false)
resume-on me [] e h told = cc
resume-on me (Pending.Resume ∷ rest) e h told = (λ f. rw (e, f) refl, λ f. rw (e, f) refl)
resume-on me (p ∷ rest) e h told = cc

on-stands : (me : Thread) → is_on me ≡ true → may_stand me ≡ true
on-stands me h = rw h refl

-- one that waits is told
told-framed : (x : Thread) (told : Told) → is_resume x.pending ≡ true → x.told ≡ None → IsFramed x true (record x { told = Some told })
told-framed x told resume none =
    let y : Thread = record x { told = Some told } in
    let on : is_on y ≡ true = (resume-on y x.pending refl resume told).0 refl in
    let off : is_on x ≡ false = (resume-on x x.pending refl resume told).1 none in
    record {
      runs = λ h. absurd (let bad : true ≡ false = sym h ∙ off in cc);
      goes = λ h. inr refl;
      stays = λ h. on-stands y on;
      comes = λ h. on-stands y on;
    }

module _ (s s3 : State) (t x : ℕ) (woken : List ℕ) (answer : Answer) (kept : AreKept s) (w : IsWorked s s3 t x woken answer) where
  others-orderly : (u : ℕ) → IsOrderly (thread_at s3 u)
  others-orderly u =
      elim (cases_Bool (stands woken u)) [
        | inr missing ↦ subst (λ (th : Thread). IsOrderly th) (sym (w.same u missing)) (kept.orderly u)
        | inl found ↦ (let (told, here) = w.told u found in let waits = kept.waits x u (w.waited u found) in let was = kept.orderly u in
            subst (λ (th : Thread). IsOrderly th) (sym here) (record { steps = was.steps; from = was.from; told = λ none. absurd (let bad : true ≡ false = sym waits.0 ∙ none in cc) }))
      ]

  others-due : (u : ℕ) → AreDue s.image s.pairs u (thread_at s3 u)
  others-due u =
      elim (cases_Bool (stands woken u)) [
        | inr missing ↦ subst (λ (th : Thread). AreDue s.image s.pairs u th) (sym (w.same u missing)) (kept.due u)
        | inl found ↦ (let (told, here) = w.told u found in subst (λ (th : Thread). AreDue s.image s.pairs u th) (sym here) (kept.due u))
      ]

  others-framed : (u : ℕ) → IsFramed (thread_at s u) (stands woken u) (thread_at s3 u)
  others-framed u =
      elim (stands woken u) as (λ b. stands woken u ≡ b → IsFramed (thread_at s u) b (thread_at s3 u)) [
        | false ↦ λ missing. subst (λ (th : Thread). IsFramed (thread_at s u) false th) (sym (w.same u missing)) (alike-framed (thread_at s u) (thread_at s u) (alike-self (thread_at s u)))
        | true ↦ λ found. (let (told, here) = w.told u found in let waits = kept.waits x u (w.waited u found) in
            subst (λ (th : Thread). IsFramed (thread_at s u) true th) (sym here) (told-framed (thread_at s u) told waits.0 waits.1))
      ] refl

  -- nobody but those who are woken is told anything, and nobody begins to wait
  pub woken-kept : ((u : ℕ) → u ≡ t → answer ≡ Answer.Wait → ⊥) → AreKept s3
  woken-kept none = record {
    many = w.many ∙ kept.many;
    orderly = others-orderly;
    due = λ u. (let now = thread_at s3 u in
        subst (λ (image : Image). AreDue image s3.pairs u now) (sym w.image) (subst (λ (pairs : List (List Bool)). AreDue s.image pairs u now) (sym w.pairs) (others-due u)));
    waits = λ y u h. (let was = before y u h in let here = w.same u was.1 in let waits = kept.waits y u was.0 in
        (ap (λ (th : Thread). is_resume th.pending) here ∙ waits.0, ap (λ (th : Thread). th.told) here ∙ waits.1));
    once = w.once;
    sole = λ y z u h g. kept.sole y z u (before y u h).0 (before z u g).0;
  }
    where
      before : (y u : ℕ) → 1 ≤ times u (cell s3 y) → (1 ≤ times u (cell s y)) × (stands woken u ≡ false)
      before y u h = elim (w.left y u h) [ inl was ↦ was | inr own ↦ absurd (none u own.0 own.1) ]

module _ (s s3 : State) (t x : ℕ) (woken : List ℕ) (answer : Answer) (kept : AreKept s) (apart : (y : ℕ) → times t (cell s y) ≡ 0) (inside : t < length s.threads) (w : IsWorked s s3 t x woken answer) where
  asleep : stands woken t ≡ false
  asleep = is_not (stands woken t) (λ found. (let some = w.waited t found in let none = apart x in omega (arith, some, none)))

  apart-from : (y u : ℕ) → 1 ≤ times u (cell s y) → u ≢ t
  apart-from y u some same = let none = apart y in let here : 1 ≤ times t (cell s y) = subst (λ (n : ℕ). 1 ≤ times n (cell s y)) same some in omega (arith, none, here)

  goes-made : (me : Thread) (steps : Steps) → me.told ≡ None → me.child ≡ (thread_at s t).child → me.due ≡ (thread_at s t).due → are_plain steps ≡ true → (answer ≡ Answer.Wait → is_resume steps ≡ true)
      → IsMade s t woken (with_thread s3 t (at_steps s3.image me steps))
  goes-made me steps told child due plain waits =
      let mine = at_steps s3.image me steps in
      let orderly : IsOrderly mine = record { steps = plain-orderly steps plain; from = plain-from steps me.due plain; told = λ e. told } in
      let may : AreDue s.image s.pairs t mine = λ r h. rw child (kept.due t r (rw due at h)) in
      record {
        kept = record {
          many = length-set s3.threads t mine ∙ w.many ∙ kept.many;
          orderly = λ u. at_set (λ n (other : Thread). IsOrderly other) s3.threads t u mine nobody orderly (others-orderly s s3 t x woken answer kept w u);
          due = λ u. (let now = thread_at (with_thread s3 t mine) u in
              subst (λ (image : Image). AreDue image s3.pairs u now) (sym w.image) (subst (λ (pairs : List (List Bool)). AreDue s.image pairs u now) (sym w.pairs)
              (at_set (λ n (other : Thread). AreDue s.image s.pairs n other) s3.threads t u mine nobody may (others-due s s3 t x woken answer kept w u))));
          waits = λ y u h. elim (w.left y u h) [
            | inl was ↦ (
                let here : thread_at (with_thread s3 t mine) u ≡ thread_at s u = get_or-set_other s3.threads t u mine nobody (apart-from y u was.0) ∙ w.same u was.1 in
                let before = kept.waits y u was.0 in
                (ap (λ (th : Thread). is_resume th.pending) here ∙ before.0, ap (λ (th : Thread). th.told) here ∙ before.1))
            | inr own ↦ (
                let within : t < length s3.threads = let same = w.many in omega (arith, same, inside) in
                let here : thread_at (with_thread s3 t mine) t ≡ mine = get_or-set_same s3.threads t mine nobody within in
                let there : thread_at (with_thread s3 t mine) u ≡ mine = subst (λ (n : ℕ). thread_at (with_thread s3 t mine) n ≡ mine) (sym own.0) here in
                (ap (λ (th : Thread). is_resume th.pending) there ∙ waits own.1, ap (λ (th : Thread). th.told) there ∙ told))
          ];
          once = w.once;
          sole = λ y z u h g. elim (w.left y u h) [
            | inl a ↦ elim (w.left z u g) [ inl b ↦ kept.sole y z u a.0 b.0 | inr b ↦ absurd (apart-from y u a.0 b.0) ]
            | inr a ↦ elim (w.left z u g) [ inl b ↦ absurd (apart-from z u b.0 a.0) | inr b ↦ a.2 ∙ sym b.2 ]
          ];
        };
        others = λ u other. subst (λ (th : Thread). IsFramed (thread_at s u) (stands woken u) th) (sym (get_or-set_other s3.threads t u mine nobody other)) (others-framed s s3 t x woken answer kept w u);
        apart = asleep;
      }

-- the thread that acted goes on with what was answered, or waits
answer-made : (s s3 : State) (t x : ℕ) (woken : List ℕ) (way_of : Answer → Way) (taken : List ℕ) (rest : Steps) (answer : Answer) → AreKept s → ((y : ℕ) → times t (cell s y) ≡ 0) → t < length s.threads → (thread_at s t).told ≡ None → are_plain rest ≡ true
    → way_of Answer.Wait ≡ Way.waits → IsWorked s s3 t x woken answer → IsMade s t woken (went rest s3 t (Next.on (work_change answer taken) (way_of answer)))
answer-made s s3 t x woken way_of taken rest answer kept apart inside none plain waits w = by answer w
  where
    same : (answer : Answer) → IsWorked s s3 t x woken answer → thread_at s3 t ≡ thread_at s t
    same answer w = w.same t (asleep s s3 t x woken answer kept apart inside w)

    by : (answer : Answer) → IsWorked s s3 t x woken answer → IsMade s t woken (went rest s3 t (Next.on (work_change answer taken) (way_of answer)))
    by Answer.Wait w =
        subst (λ (way : Way). IsMade s t woken (went rest s3 t (Next.on Change.nothing way))) (sym waits)
        (goes-made s s3 t x woken Answer.Wait kept apart inside w (thread_at s3 t) (Pending.Resume ∷ rest) (ap (λ (th : Thread). th.told) (same Answer.Wait w) ∙ none)
        (ap (λ (th : Thread). th.child) (same Answer.Wait w)) (ap (λ (th : Thread). th.due) (same Answer.Wait w)) plain (λ e. refl))
    by (Answer.Now reply) w =
        let way = way_of (Answer.Now reply) in
        goes-made s s3 t x woken (Answer.Now reply) kept apart inside w (record (thread_at s3 t) { reply = reply; buffer = taken }) (steps_by rest way)
        (ap (λ (th : Thread). th.told) (same (Answer.Now reply) w) ∙ none) (ap (λ (th : Thread). th.child) (same (Answer.Now reply) w)) (ap (λ (th : Thread). th.due) (same (Answer.Now reply) w))
        (plain-way rest way plain) (λ f. cc)

line-is : (woken : List (ThreadIx × Told)) → map (λ (w : ThreadIx × Reply). w.0.0) (replies_of woken) ≡ numbers woken
line-is [] = refl
line-is (w ∷ woken) = ap (λ (l : List ℕ). w.0.0 ∷ l) (line-is woken)

-- those who wait in a cell are written by an act on them, and those whom it woke are told
pub worked : (s s2 : State) (t x : ℕ) (w : Acted) → AreKept s → IsServed (cell s x) t w → s2.image ≡ s.image → s2.pairs ≡ s.pairs → s2.threads ≡ s.threads → ((y : ℕ) → IsPut s x w.waiters s2 y)
    → IsWorked s (all_woken w.woken s2) t x (numbers w.woken) w.answer
worked s s2 t x w kept done image pairs threads put =
    let s3 = all_woken w.woken s2 in
    let rest_is = woken-rest w.woken s2 in
    let cells : (y : ℕ) → cell s3 y ≡ cell s2 y = λ y. ap (λ (st : State). cell st y) rest_is in
    let same_thread : (u : ℕ) → thread_at s2 u ≡ thread_at s u = λ u. ap (λ (ts : List Thread). slice_index_or ts u nobody) threads in
    record {
      image = ap (λ (st : State). st.image) rest_is ∙ image;
      pairs = ap (λ (st : State). st.pairs) rest_is ∙ pairs;
      many = woken-many w.woken s2 ∙ ap (λ (ts : List Thread). length ts) threads;
      same = λ u missing. woken-other w.woken s2 u missing ∙ same_thread u;
      told = λ u found. (let waits = kept.waits x u (done.woken u found) in
          let inside : u < length s2.threads = subst (λ (ts : List Thread). u < length ts) (sym threads) (inside-of (λ (th : Thread). is_resume th.pending) refl s.threads u waits.0) in
          let (told, here) = woken-told w.woken s2 u inside found in (told, here ∙ ap (λ (th : Thread). record th { told = Some told }) (same_thread u)));
      waited = done.woken;
      left = λ y u h. (
          let there : 1 ≤ times u (cell s2 y) = subst (λ (ws : List Waiter). 1 ≤ times u ws) (cells y) h in
          elim (put y) [
            | inl other ↦ (
                let was : 1 ≤ times u (cell s y) = subst (λ (ws : List Waiter). 1 ≤ times u ws) other.1 there in
                inl (was, is_not (stands (numbers w.woken) u) (λ found. other.0 (kept.sole y x u was (done.woken u found)))))
            | inr here ↦ elim here.1 [
              | inl written ↦ elim (done.left u (subst (λ (ws : List Waiter). 1 ≤ times u ws) written there)) [
                | inl was ↦ inl (subst (λ (n : ℕ). 1 ≤ times u (cell s n)) (sym here.0) was.0, was.1)
                | inr own ↦ inr (own.0, own.1, here.0)
              ]
              | inr none ↦ absurd (let bad : 1 ≤ times u [] = subst (λ (ws : List Waiter). 1 ≤ times u ws) none there in omega (arith, bad))
            ]
          ]);
      once = λ y u. subst (λ (ws : List Waiter). times u ws ≤ 1) (sym (cells y)) (elim (put y) [
        | inl other ↦ subst (λ (ws : List Waiter). times u ws ≤ 1) (sym other.1) (kept.once y u)
        | inr here ↦ elim here.1 [
          | inl written ↦ subst (λ (ws : List Waiter). times u ws ≤ 1) (sym written) (done.apart u)
          | inr none ↦ subst (λ (ws : List Waiter). times u ws ≤ 1) (sym none) (omega arith)
        ]
      ]);
    }

pub work-made : (s : State) (t x : ℕ) (a : Addr) (ask : Ask) (rest : Steps) → AreKept s → IsOffered s t (Pending.Work a ask) rest
    → IsMade s t (map (λ (w : ThreadIx × Reply). w.0.0) (replies_of (work_of s t a ask).woken)) (after s t x (Pending.Work a ask) rest)
work-made s t row a ask rest kept offered =
    let x = row_of s a in
    let o = object_at s x in
    let w = work_of s t a ask in
    let o2 = record o { contents = w.contents; waiters = w.waiters; buffer = buffer_cost ask w.answer o.buffer } in
    let s2 = with_object s x o2 in
    let me = thread_at s t in
    let done : IsServed o.waiters t w = served o.waiters (record { thread = to_thread t; priority = me.priority; ask = ask; bytes = bytes_given me.buffer ask; until = me.until }) (kept.once (suc (suc x))) o.contents ask in
    subst (λ (line : List ℕ). IsMade s t line (after s t row (Pending.Work a ask) rest)) (sym (line-is w.woken))
    (answer-made s (all_woken w.woken s2) t (suc (suc x)) (numbers w.woken) (work_way me.mode ask) w.taken rest w.answer kept offered.apart offered.inside (offered.told refl) offered.behind refl
    (worked s s2 t (suc (suc x)) w kept done refl refl refl (object-put s x o2)))

-- Joins and futexes: the caller waits in a cell, or is answered.

-- what a call does with those who wait in a cell
abbrev asked : List Waiter → Answer → List (ThreadIx × Told) → Acted
asked waiters answer woken = record { contents = Contents.Nothing; waiters = waiters; answer = answer; taken = []; woken = woken }

abbrev asks_in : State → ℕ → ℕ → Ask → Answer → State
asks_in s t c ask answer = write (only (says_wait answer) (Effect.waiters c (queued s t c ask))) s

ask-worked : (s : State) (t c : ℕ) (ask : Ask) (answer : Answer) → AreKept s → IsWorked s (asks_in s t c ask answer) t (place_of c) [] answer
ask-worked s t c ask (Answer.Now reply) kept =
    let x = place_of c in
    let w = asked (cell s x) (Answer.Now reply) [] in
    worked s s t x w kept (served-none (cell s x) t w (kept.once x) refl refl) refl refl refl (λ y. elim (equal_or_not y x) [
      | inl same ↦ inr (same, inl (ap (cell s) same))
      | inr other ↦ inl (other, refl)
    ])
ask-worked s t c ask Answer.Wait kept =
    let x = place_of c in
    let me = thread_at s t in
    let who : Waiter = record { thread = to_thread t; priority = me.priority; ask = ask; bytes = []; until = me.until } in
    let w = waited Contents.Nothing (waiters_in s c) who in
    let once : AreApart (waiters_in s c) = λ u. subst (λ (ws : List Waiter). times u ws ≤ 1) (sym (cell-is s c)) (kept.once x u) in
    worked s (with_waiters s c w.waiters) t x w kept (subst (λ (ws : List Waiter). IsServed ws t w) (cell-is s c) (served-waits (waiters_in s c) who Contents.Nothing once)) refl refl refl
    (waiters-put s c w.waiters)

pub join-made : (s : State) (t x : ℕ) (who : ThreadIx) (timeout : Timeout) (rest : Steps) → AreKept s → IsOffered s t (Pending.Join who timeout) rest → IsMade s t [] (after s t x (Pending.Join who timeout) rest)
join-made s t x who timeout rest kept offered =
    let answer = join_answer s t x who.0 timeout in
    answer-made s (asks_in s t JOIN_CELL (Ask.Join who) answer) t (place_of JOIN_CELL) [] asked_way [] rest answer kept offered.apart offered.inside (offered.told refl) offered.behind refl
    (ask-worked s t JOIN_CELL (Ask.Join who) answer kept)

pub futex-wait-made : (s : State) (t x : ℕ) (a : Addr) (value : ℕ) (timeout : Timeout) (rest : Steps) → AreKept s → IsOffered s t (Pending.FutexWait a value timeout) rest → IsMade s t [] (after s t x (Pending.FutexWait a value timeout) rest)
futex-wait-made s t x a value timeout rest kept offered =
    let answer = futex_answer s t a.0 value timeout in
    answer-made s (asks_in s t FUTEX_CELL (Ask.FutexWait a) answer) t (place_of FUTEX_CELL) [] asked_way [] rest answer kept offered.apart offered.inside (offered.told refl) offered.behind refl
    (ask-worked s t FUTEX_CELL (Ask.FutexWait a) answer kept)

-- those who are roused wait on the futex
few-of : (all : Bool) (ws : List Waiter) (u : ℕ) → times u (some_of all ws) ≤ times u ws
few-of true ws u = omega arith
few-of false [] u = omega arith
few-of false (w ∷ ws) u = omega arith

roused-among : (s : State) (a : ℕ) (all : Bool) (refusal : Option Errno) → Among (roused s a all refusal) s.futexes
roused-among s a all (Some e) u = omega arith
roused-among s a all None u = let some = few-of all (in_order (filter (is_on_futex a) s.futexes)) u in let among = some-order (is_on_futex a) s.futexes u in omega (arith, some, among)

pub futex-wake-made : (s : State) (t x : ℕ) (a : Addr) (all : Bool) (rest : Steps) → AreKept s → IsOffered s t (Pending.FutexWake a all) rest
    → IsMade s t (map (λ (w : ThreadIx × Reply). w.0.0) (replies_of (futex_woken s t a.0 all))) (after s t x (Pending.FutexWake a all) rest)
futex-wake-made s t x a all rest kept offered =
    let refusal = futex_refusal s t a.0 in
    let vs = roused s a.0 all refusal in
    let woken = futex_woken s t a.0 all in
    let answer = wake_answer refusal (length woken) in
    let ws = still_waiting woken s.futexes in
    let w = asked ws answer woken in
    let among = roused-among s a.0 all refusal in
    let done : IsServed s.futexes t w = served-still s.futexes t w (kept.once 1)
    (λ u h. (let some = told-times (Reply.Num 0) vs u h in let more = among u in omega (arith, some, more)))
    (λ u. (let same = told-wakings (Reply.Num 0) vs u in let more = among u in omega (arith, same, more))) refl in
    subst (λ (line : List ℕ). IsMade s t line (after s t x (Pending.FutexWake a all) rest)) (sym (line-is woken))
    (answer-made s (all_woken woken (with_waiters s FUTEX_CELL ws)) t 1 (numbers woken) asked_way [] rest answer kept offered.apart offered.inside (offered.told refl) offered.behind refl
    (worked s (with_waiters s FUTEX_CELL ws) t 1 w kept done refl refl refl (waiters-put s FUTEX_CELL ws)))

-- Steps beside a thread's own: others are told, or cut.

pub left-kept : (s : State) (t x : ℕ) (rest : Steps) → AreKept s → AreKept (after s t x Pending.Left rest)
left-kept s t x rest kept =
    let w = asked (without_joins s t) (Answer.Now Reply.Void) (all_joined s t) in
    let done : IsServed s.joins t w = served-some s.joins t (Reply.Num 0) (joins_one t) w (kept.once 0) refl refl in
    woken-kept s (all_woken w.woken (with_waiters s JOIN_CELL w.waiters)) t 0 (numbers w.woken) (Answer.Now Reply.Void) kept
    (worked s (with_waiters s JOIN_CELL w.waiters) t 0 w kept done refl refl refl (waiters-put s JOIN_CELL w.waiters)) (λ u same h. cc)

pub expire-kept : (s : State) (t x : ℕ) (rest : Steps) → AreKept s → AreKept (after s t x Pending.Expire rest)
expire-kept s t x rest kept =
    let o = object_at s x in
    let out = runs_out o.waiters (in_order o.waiters) in
    let o2 = record o { contents = out.0; waiters = out.1 } in
    let w = asked out.1 (Answer.Now Reply.Void) out.2 in
    woken-kept s (all_woken out.2 (with_object s x o2)) t (suc (suc x)) (numbers out.2) (Answer.Now Reply.Void) kept
    (worked s (with_object s x o2) t (suc (suc x)) w kept (run-out (in_order o.waiters) (all-order o.waiters)) refl refl refl (object-put s x o2)) (λ u same h. cc)
  where
    run-out : (vs : List Waiter) → Among vs (object_at s x).waiters → (let out = runs_out (object_at s x).waiters vs in IsServed (object_at s x).waiters t (asked out.1 (Answer.Now Reply.Void) out.2))
    run-out [] among = served-none (object_at s x).waiters t _ (kept.once (suc (suc x))) refl refl
    run-out (v ∷ vs) among = served-one (object_at s x).waiters t v _ (kept.once (suc (suc x))) (let here = times-first v vs in let more = among v.thread.0 in omega (arith, here, more)) refl refl

-- one that stands among those who wait does
stands-times : (t : ℕ) (ws : List Waiter) → stands_in t ws ≡ true → 1 ≤ times t ws
stands-times t ws h = count-any (is_of t) ws h

waits-parts : (a b c : Bool) → (a && (b && c)) ≡ true → (b ≡ true) × (c ≡ true)
waits-parts true true true h = (refl, refl)
waits-parts true true false h = cc
waits-parts true false c h = cc
waits-parts false b c h = cc

there-at : (s : State) (who c : ℕ) → stands_in who (waiters_in s c) ≡ true → 1 ≤ times who (cell s (place_of c))
there-at s who c h = subst (λ (ws : List Waiter). 1 ≤ times who ws) (cell-is s c) (stands-times who (waiters_in s c) h)

-- a thread leaves its cell, and is told, or not
taken-out : (s : State) (who : ThreadIx) (c t : ℕ) (woken : List (ThreadIx × Told)) → AreKept s → 1 ≤ times who.0 (cell s (place_of c)) → numbers woken ≡ who.0 ∷ []
    → IsServed (cell s (place_of c)) t (asked (without who.0 (waiters_in s c)) (Answer.Now Reply.Void) woken)
taken-out s who c t woken kept there told =
    let first : Waiter = record { thread = who; priority = pos 0; ask = Ask.SemGive; bytes = []; until = None } in
    served-one (cell s (place_of c)) t first (asked (without who.0 (waiters_in s c)) (Answer.Now Reply.Void) woken) (kept.once (place_of c)) there told (ap (without who.0) (cell-is s c))

pub timeout-kept : (s : State) (t x : ℕ) (who : ThreadIx) (rest : Steps) → AreKept s → MayChoose s t x (Pending.TimeOut who) → AreKept (after s t x (Pending.TimeOut who) rest)
timeout-kept s t x who rest kept chosen =
    let stands = (waits-parts (has_come s.now (thread_at s who.0).until) (is_waiting (thread_at s who.0)) (stands_in who.0 (waiters_in s x)) chosen).1 in
    let w = asked (without who.0 (waiters_in s x)) (Answer.Now Reply.Void) (told_late who x) in
    woken-kept s (all_woken w.woken (with_waiters s x w.waiters)) t (place_of x) (numbers w.woken) (Answer.Now Reply.Void) kept
    (worked s (with_waiters s x w.waiters) t (place_of x) w kept (taken-out s who x t (told_late who x) kept (there-at s who.0 x stands) refl) refl refl refl (waiters-put s x w.waiters)) (λ u same h. cc)

-- one that is cut waits no longer, and has only its end left
pub cut-kept : (s : State) (t x : ℕ) (who : ThreadIx) (rest : Steps) → AreKept s → MayChoose s t x (Pending.Cut who) → AreKept (after s t x (Pending.Cut who) rest)
cut-kept s t x who rest kept chosen =
    let stands = (waits-parts (thread_at s who.0).aborted (is_waiting (thread_at s who.0)) (stands_in who.0 (waiters_in s x)) chosen).1 in
    let ws = without who.0 (waiters_in s x) in
    let s2 = with_waiters s x ws in
    let there = there-at s who.0 x stands in
    let untold = (kept.waits (place_of x) who.0 there).1 in
    let none : times who.0 ws ≡ 0 = times-without who.0 (waiters_in s x) in
    let fewer : (y u : ℕ) → times u (cell s2 y) ≤ times u (cell s y) = λ y u. elim (waiters-put s x ws y) [
      | inl other ↦ subst (λ (l : List Waiter). times u l ≤ times u (cell s y)) (sym other.1) (omega arith)
      | inr here ↦ elim here.1 [
        | inl written ↦ subst (λ (l : List Waiter). times u l ≤ times u (cell s y)) (sym written) (
            subst (λ (n : ℕ). times u ws ≤ times u (cell s n)) (sym here.0) (subst (λ (l : List Waiter). times u ws ≤ times u l) (cell-is s x) (fewer-without who.0 u (waiters_in s x))))
        | inr empty ↦ subst (λ (l : List Waiter). times u l ≤ times u (cell s y)) (sym empty) (omega arith)
      ]
    ] in
    let apart : (y : ℕ) → times who.0 (cell s2 y) ≡ 0 = λ y. elim (waiters-put s x ws y) [
      | inl other ↦ elim (equal_or_not (times who.0 (cell s y)) 0) [
        | inl zeroth ↦ ap (times who.0) other.1 ∙ zeroth
        | inr some ↦ absurd (other.0 (kept.sole y (place_of x) who.0 (omega (arith, some)) there))
      ]
      | inr here ↦ elim here.1 [
        | inl written ↦ ap (times who.0) written ∙ none
        | inr empty ↦ ap (times who.0) empty
      ]
    ] in
    let kept2 = base-kept s s2 kept (base-same s s2 kept refl refl refl fewer) in
    written-kept s2 who.0 (cut (thread_at s2 who.0)) kept2 apart (record { steps = refl; from = tt; told = λ e. untold }) (kept2.due who.0)
  where
    fewer-without : (t u : ℕ) (ws : List Waiter) → times u (without t ws) ≤ times u ws
    fewer-without t u ws = count-filter (is_of u) (λ (v : Waiter). not (v.thread.0 == t)) ws
