-- The laws of time, of aborts and of futexes, over runs from any state.
use Rattle.std.proofs.Common.{◌≡◌, ◌⊎◌, inl, inr, ℕ, zero, suc, ◌+◌, ◌<◌, ◌≤◌, arith, Bool, true, false, ◌==◌, ◌&&◌, ◌||◌, not, nat_le, List, [], ◌∷◌, ◌++◌, refl, sym, ap, subst, ◌∙◌, Option, Some, None, is_some, slice_index_or, slice_set, unwrap_or, if◌then◌else◌}
use Rattle.std.proofs.lemmas.Bool.{ltb-true, true≢false, false≢true, and_parts, and_from, not-true, eqb-true, eq-eqb, leb-true, le-leb}
use Rattle.std.proofs.lemmas.List.{get_or-set_other}
use Rattle.std.proofs.Math.Nat.{lt_of_not-le}
use Rattle.um_base.specs.declared.act.Act.{Act}
use Rattle.um_base.specs.declared.names.Access.TheVariants as Access
use Rattle.um_base.specs.declared.names.Addr.{Addr}
use Rattle.um_machine.specs.Memory.{allowed, bytes_at, le_value}
use Rattle.um_base.specs.declared.act.Answer.{Answer}
use Rattle.um_base.specs.declared.act.Event.{Event}
use Rattle.um_base.specs.declared.names.ThreadIx.{ThreadIx}
use Rattle.um_machine.specs.declared.pending.Pending.{Pending}
use Rattle.um_machine.specs.declared.thread.Life.{Life}
use Rattle.um_machine.specs.declared.thread.Thread.{Thread}
use Rattle.std.specs.List.{list_all}
use Rattle.um_invariants.specs.Described.{IsDescribed}
use Rattle.um_machine.proofs.RunLemmas.{runs-parts}
use Rattle.um_base.specs.declared.image.Image.{Image}
use Rattle.um_measure.specs.Reached.{may_wait, IsReached}
use Rattle.um_measure.proofs.OpenLemmas.{opens}
use Rattle.um_measure.proofs.StepLemmas.{keeps}
use Rattle.um_machine.specs.Order.{Steps, to_thread}
use Rattle.um_machine.specs.Run.{MayChoose, Offers, Step, Runs, IsRun, opening, may_go, is_tending, stands_in}
use Rattle.um_machine.specs.State.{State, nobody, thread_at, is_living}
use Rattle.um_machine.specs.Goes.{Next, asked_way, went, work_change}
use Rattle.um_machine.specs.Table.{act_of, after, queued}
use Rattle.um_machine.specs.Writes.{Effect, Flag, flagged, only, says_wait, write}
use Rattle.um_machine.specs.Futexes.{is_futex, may_wait as wait_or_not, futex_wait, futex_answer}
use Rattle.um_machine.specs.Services.{without}
use Rattle.um_base.specs.declared.limits.TheConstants.{FUTEX_CELL}
use Rattle.um_base.specs.declared.ask.Ask.{Ask}
use Rattle.um_base.specs.declared.ask.Waiter.{Waiter}
use Rattle.um_base.specs.declared.names.Errno.{Errno}
use Rattle.um_base.specs.declared.names.Reply.{Reply}
use Rattle.um_base.specs.declared.names.Timeout.{Timeout}
use Rattle.um_machine.specs.Time.{has_come}
use Rattle.um_laws.specs.Deadlines.{IsTickTo, HasTickTo, rearms, is_in_time, starts, is_without_start, Watches}
use Rattle.um_laws.proofs.Faces.{Note, Face, note_of, face, marked, note_at, with_note, without_deadline, face_after, faces, note_is}

-- A written element, and the others.

at_set : {A : Type 0} (P : ℕ → A → Type 0) (xs : List A) (t u : ℕ) (x d : A) → P t x → P u (slice_index_or xs u d) → P u (slice_index_or (slice_set xs t x) u d)
at_set P [] t u x d new old = old
at_set P (y ∷ ys) zero zero x d new old = new
at_set P (y ∷ ys) zero (suc u) x d new old = old
at_set P (y ∷ ys) (suc t) zero x d new old = old
at_set P (y ∷ ys) (suc t) (suc u) x d new old = at_set (λ n. P (suc n)) ys t u x d new old

other : (f : Face) (t u : ℕ) (n : Note) → (t == u) ≡ false → note_at (with_note f t n) u ≡ note_at f u
other f t u n e = get_or-set_other f.notes t u n (note_of nobody) (λ same. true≢false (sym (eq-eqb t u (sym same)) ∙ e))

-- Aborted threads stay so.

abbrev pub Keeps : Face → ℕ → Note → Type 0
Keeps f u n = (note_at f u).aborted ≡ true → n.aborted ≡ true

-- a thread's note is written, which keeps its mark
keeps_set : (s : State) (t u : ℕ) (n : Note) → n.aborted ≡ (thread_at s t).aborted → Keeps (face s) u (note_at (with_note (face s) t n) u)
keeps_set s t u n e =
    at_set (λ (k : ℕ) (m : Note). Keeps (face s) k m) (face s).notes t u n (note_of nobody)
    (λ h. e ∙ ap (λ (m : Note). m.aborted) (sym (note_is s t)) ∙ h) (λ h. h)

keeps_abort : (s : State) (who u : ℕ) → Keeps (face s) u (note_at (face (marked s who)) u)
keeps_abort s who u = by-life (is_living (thread_at s who).life) where
  by-life : (b : Bool) → Keeps (face s) u (note_at (face (if b then record s { threads = slice_set s.threads who (flagged Flag.aborted (thread_at s who)) } else s)) u)
  by-life false h = h
  by-life true h =
      ap (λ (m : Note). m.aborted) (note_is (record s { threads = slice_set s.threads who (flagged Flag.aborted (thread_at s who)) }) u)
      ∙ at_set (λ (k : ℕ) (th : Thread). (thread_at s k).aborted ≡ true → th.aborted ≡ true) s.threads who u (flagged Flag.aborted (thread_at s who)) nobody
      (λ g. refl) (λ g. g) (ap (λ (m : Note). m.aborted) (sym (note_is s u)) ∙ h)

stays_aborted : (s : State) (t x u : ℕ) (p : Pending) → starts u (act_of s t x p) ≡ false → Keeps (face s) u (note_at (face_after s t p) u)
stays_aborted s t x u (Pending.Answer reply to) e = keeps_set s t u (without_deadline (note_of (thread_at s t))) refl
stays_aborted s t x u Pending.Exit e = keeps_set s t u (without_deadline (note_of (thread_at s t))) refl
stays_aborted s t x u (Pending.Fatal reason cause) e = keeps_set s t u (without_deadline (note_of (thread_at s t))) refl
stays_aborted s t x u Pending.Killed e = keeps_set s t u (without_deadline (note_of (thread_at s t))) refl
stays_aborted s t x u (Pending.Arm ticks) e = keeps_set s t u (record { aborted = (thread_at s t).aborted; until = Some (s.now + ticks) }) refl
stays_aborted s t x u (Pending.ArmTimer ticks) e = keeps_set s t u (without_deadline (note_of (thread_at s t))) refl
stays_aborted s t x u (Pending.Abort who) e = keeps_abort s who.0 u
stays_aborted s t x u (Pending.Start who script stack priority mode) e = λ h. ap (λ (m : Note). m.aborted) (other (face s) who.0 u (note_of nobody) e) ∙ h
stays_aborted s t x u Pending.Tick e = λ h. h
stays_aborted s t x u p e = λ h. h

is_aborted : State → ℕ → Bool
is_aborted s u = (thread_at s u).aborted

aborted_step : (s s2 : State) (event : Event) → Step s event s2 → (u : ℕ) → starts u event.act ≡ false → (thread_at s u).aborted ≡ true → (thread_at s2 u).aborted ≡ true
aborted_step s s2 event step u e h =
    let t = event.thread.0 in
    let quiet : starts u (act_of s t step.row step.step) ≡ false = ap (starts u) (sym step.says) ∙ e in
    let made : face s2 ≡ face_after s t step.step = ap face step.leaves ∙ faces s t step.row step.step step.rest in
    ap (λ (m : Note). m.aborted) (sym (note_is s2 u)) ∙ ap (λ (f : Face). (note_at f u).aborted) made
    ∙ stays_aborted s t step.row u step.step quiet (ap (λ (m : Note). m.aborted) (note_is s u) ∙ h)

pub aborted_run : (s : State) (events : List Event) (s2 : State) → Runs s events s2 → (u : ℕ) → is_without_start u events ≡ true → (thread_at s u).aborted ≡ true → (thread_at s2 u).aborted ≡ true
aborted_run s [] s2 run u none h = ap (λ (now : State). (thread_at now u).aborted) run ∙ h
aborted_run s (event ∷ events) s2 (mid, step, rest) u none h =
    let both = and_parts _ _ none in
    aborted_run mid events s2 rest u both.1 (aborted_step s mid event step u (not-true _ both.0) h)

-- What an abort marks.

set_living : (ts : List Thread) (u : ℕ) (x : Thread) → is_living (slice_index_or ts u nobody).life ≡ true → slice_index_or (slice_set ts u x) u nobody ≡ x
set_living [] u x h = absurd (false≢true h)
set_living (y ∷ ys) zero x h = refl
set_living (y ∷ ys) (suc u) x h = set_living ys u x h

-- whether an act aborts a thread that lives
abbrev is_abort_of : ℕ → Act → Bool
is_abort_of u (Act.Abort who done) = who.0 == u && done
is_abort_of u act = false

-- of two acts neither is one
neither : (p : Act → Bool) (b : Bool) (x y : Act) → p x ≡ false → p y ≡ false → p (if b then x else y) ≡ false
neither p true x y e f = e
neither p false x y e f = f

load_is : (p : Act → Bool) (s : State) (t x to : ℕ) (a : Addr) (n : ℕ) → p (Act.Load a n (le_value (bytes_at s a.0 n))) ≡ false → p (Act.Fault Access.Read a n) ≡ false → p (act_of s t x (Pending.Load to a n)) ≡ false
load_is p s t x to a n e f = neither p (allowed s t Access.Read a.0 n) (Act.Load a n (le_value (bytes_at s a.0 n))) (Act.Fault Access.Read a n) e f

store_is : (p : Act → Bool) (s : State) (t x : ℕ) (a : Addr) (n value : ℕ) → p (Act.Store a n value) ≡ false → p (Act.Fault Access.Write a n) ≡ false → p (act_of s t x (Pending.Store a n value)) ≡ false
store_is p s t x a n value e f = neither p (allowed s t Access.Write a.0 n) (Act.Store a n value) (Act.Fault Access.Write a n) e f

fetch_is : (p : Act → Bool) (s : State) (t x : ℕ) (a : Addr) → p (Act.Fetch a) ≡ false → p (Act.Fault Access.Exec a 4) ≡ false → p (act_of s t x (Pending.Fetch a)) ≡ false
fetch_is p s t x a e f = neither p (allowed s t Access.Exec a.0 4) (Act.Fetch a) (Act.Fault Access.Exec a 4) e f

abort_marks : (s : State) (t x u : ℕ) (p : Pending) → is_abort_of u (act_of s t x p) ≡ true → (note_at (face_after s t p) u).aborted ≡ true
abort_marks s t x u (Pending.Abort who) h = by-life (is_living (thread_at s who.0).life) refl (and_parts _ _ h) where
  by-life : (b : Bool) → is_living (thread_at s who.0).life ≡ b → ((who.0 == u) ≡ true) × (is_living (thread_at s who.0).life ≡ true)
      → (note_at (face (if b then record s { threads = slice_set s.threads who.0 (flagged Flag.aborted (thread_at s who.0)) } else s)) u).aborted ≡ true
  by-life false e both = absurd (true≢false (sym both.1 ∙ e))
  by-life true e both =
      let s2 = record s { threads = slice_set s.threads who.0 (flagged Flag.aborted (thread_at s who.0)) } in
      let here : who.0 ≡ u = eqb-true who.0 u both.0 in
      ap (λ (n : ℕ). (note_at (face s2) n).aborted) (sym here) ∙ ap (λ (m : Note). m.aborted) (note_is s2 who.0)
      ∙ ap (λ (th : Thread). th.aborted) (set_living s.threads who.0 (flagged Flag.aborted (thread_at s who.0)) both.1)
abort_marks s t x u (Pending.Load to a n) h = absurd (true≢false (sym h ∙ load_is (is_abort_of u) s t x to a n refl refl))
abort_marks s t x u (Pending.Store a n value) h = absurd (true≢false (sym h ∙ store_is (is_abort_of u) s t x a n value refl refl))
abort_marks s t x u (Pending.Fetch a) h = absurd (true≢false (sym h ∙ fetch_is (is_abort_of u) s t x a refl refl))
abort_marks s t x u p h = absurd (false≢true h)

-- after an abort that says ok the thread is aborted
pub abort_step : (s s2 : State) (event : Event) (who : ThreadIx) → Step s event s2 → event.act ≡ Act.Abort who true → (thread_at s2 who.0).aborted ≡ true
abort_step s s2 event who step e =
    let t = event.thread.0 in
    let same = eq-eqb who.0 who.0 refl in
    let said : is_abort_of who.0 (act_of s t step.row step.step) ≡ true = ap (is_abort_of who.0) (sym step.says ∙ e) ∙ and_from _ _ same refl in
    let made : face s2 ≡ face_after s t step.step = ap face step.leaves ∙ faces s t step.row step.step step.rest in
    ap (λ (m : Note). m.aborted) (sym (note_is s2 who.0)) ∙ ap (λ (f : Face). (note_at f who.0).aborted) made
    ∙ abort_marks s t step.row who.0 step.step said

-- Begins.

abbrev is_begin : Act → Bool
is_begin (Act.Begin script line) = true
is_begin act = false

abbrev pub begins : Pending → Bool
begins Pending.Begin = true
begins p = false

begin_only : (s : State) (t x : ℕ) (p : Pending) → is_begin (act_of s t x p) ≡ true → begins p ≡ true
begin_only s t x Pending.Begin h = refl
begin_only s t x (Pending.Load to a n) h = absurd (true≢false (sym h ∙ load_is is_begin s t x to a n refl refl))
begin_only s t x (Pending.Store a n value) h = absurd (true≢false (sym h ∙ store_is is_begin s t x a n value refl refl))
begin_only s t x (Pending.Fetch a) h = absurd (true≢false (sym h ∙ fetch_is is_begin s t x a refl refl))
begin_only s t x p h = absurd (false≢true h)

-- no begin stands among the steps that are left of an instruction: an invariant of all runs, which is known already
abbrev pub pends_none : Steps → Bool
pends_none [] = true
pends_none (p ∷ rest) = not (begins p) && pends_none rest

tends_none : (p : Pending) → is_tending p ≡ true → begins p ≡ true → ⊥
tends_none Pending.Begin h g = false≢true h
tends_none p h g = false≢true g

none_first : (p : Pending) (rest : Steps) (steps : Steps) → pends_none steps ≡ true → steps ≡ p ∷ rest → begins p ≡ true → ⊥
none_first p rest steps none e g = true≢false (sym g ∙ not-true _ (and_parts _ _ (ap pends_none (sym e) ∙ none)).0)

none_second : (q p : Pending) (rest : Steps) (steps : Steps) → pends_none steps ≡ true → steps ≡ q ∷ p ∷ rest → begins p ≡ true → ⊥
none_second q p rest steps none e g = none_first p rest (p ∷ rest) (and_parts _ _ (ap pends_none (sym e) ∙ none)).1 refl g

no_go : (me : Thread) → me.aborted ≡ true → may_go me ≡ true → ⊥
no_go me h g = true≢false (sym g ∙ ap (λ b. not (me.doomed || b || me.suspended)) h ∙ by-doom me.doomed) where
  by-doom : (b : Bool) → not (b || true || me.suspended) ≡ false
  by-doom true = refl
  by-doom false = refl

not_offered : (s : State) (t : ℕ) (p : Pending) (rest : Steps) → (thread_at s t).aborted ≡ true → pends_none (thread_at s t).pending ≡ true → begins p ≡ true → Offers s t p rest → ⊥
not_offered s t p rest h none g (Offers.goes e) = none_first p rest (thread_at s t).pending none e g
not_offered s t p rest h none g (Offers.skips_inherit {who = who} e due) = none_second (Pending.Inherit who) p rest (thread_at s t).pending none e g
not_offered s t p rest h none g (Offers.skips_drops {from = from} e due) = none_second (Pending.Drops from) p rest (thread_at s t).pending none e g
not_offered s t _ _ h none g (Offers.begins e l m i) = no_go (thread_at s t) h m
not_offered s t _ _ h none g (Offers.exits e l m i) = false≢true g
not_offered s t _ _ h none g (Offers.stops e l m) = false≢true g
not_offered s t _ _ h none g (Offers.leaves l) = false≢true g
not_offered s t p _ h none g (Offers.tends kind l) = tends_none p kind g

-- The law of aborts: behind an abort that says ok no line of that thread begins before its next start.
pub no_begin_behind : (s s1 s2 s3 : State) (abort begin : Event) (middle : List Event) (who : ThreadIx) (script line : ℕ) → Step s abort s1 → abort.act ≡ Act.Abort who true → Runs s1 middle s2 → is_without_start who.0 middle ≡ true
    → Step s2 begin s3 → begin.thread ≡ who → pends_none (thread_at s2 who.0).pending ≡ true → ¬ (begin.act ≡ Act.Begin script line)
no_begin_behind s s1 s2 s3 abort begin middle who script line made said run free step same none e =
    let still = aborted_run s1 middle s2 run who.0 free (abort_step s s1 abort who made said) in
    let t = begin.thread.0 in
    let is : begins step.step ≡ true = begin_only s2 t step.row step.step (ap is_begin (sym step.says ∙ e)) in
    let here : t ≡ who.0 = ap (λ (w : ThreadIx). w.0) same in
    not_offered s2 t step.step step.rest (ap (λ n. (thread_at s2 n).aborted) here ∙ still) (ap (λ n. pends_none (thread_at s2 n).pending) here ∙ none) is step.offered

-- Deadlines.

until_set : (f : Face) (t u : ℕ) (n : Note) → n.until ≡ (note_at f t).until → (note_at (with_note f t n) u).until ≡ (note_at f u).until
until_set f t u n e = at_set (λ (k : ℕ) (m : Note). m.until ≡ (note_at f k).until) f.notes t u n (note_of nobody) e refl

until_abort : (s : State) (who u : ℕ) → (note_at (face (marked s who)) u).until ≡ (note_at (face s) u).until
until_abort s who u = by-life (is_living (thread_at s who).life) where
  by-life : (b : Bool) → (note_at (face (if b then record s { threads = slice_set s.threads who (flagged Flag.aborted (thread_at s who)) } else s)) u).until ≡ (note_at (face s) u).until
  by-life false = refl
  by-life true =
      ap (λ (m : Note). m.until) (note_is (record s { threads = slice_set s.threads who (flagged Flag.aborted (thread_at s who)) }) u)
      ∙ at_set (λ (k : ℕ) (th : Thread). th.until ≡ (thread_at s k).until) s.threads who u (flagged Flag.aborted (thread_at s who)) nobody refl refl
      ∙ ap (λ (m : Note). m.until) (sym (note_is s u))

until_other : (f : Face) (t u : ℕ) (n : Note) → (t == u) ≡ false → (note_at (with_note f t n) u).until ≡ (note_at f u).until
until_other f t u n e = ap (λ (m : Note). m.until) (other f t u n e)

until_stays : (s : State) (t x u : ℕ) (p : Pending) → rearms u t (act_of s t x p) ≡ false → (note_at (face_after s t p) u).until ≡ (note_at (face s) u).until
until_stays s t x u (Pending.Answer reply to) e = until_other (face s) t u (without_deadline (note_of (thread_at s t))) e
until_stays s t x u Pending.Exit e = until_other (face s) t u (without_deadline (note_of (thread_at s t))) e
until_stays s t x u (Pending.Fatal reason cause) e = until_other (face s) t u (without_deadline (note_of (thread_at s t))) e
until_stays s t x u Pending.Killed e = until_other (face s) t u (without_deadline (note_of (thread_at s t))) e
until_stays s t x u (Pending.Arm ticks) e = until_other (face s) t u (record { aborted = (thread_at s t).aborted; until = Some (s.now + ticks) }) e
until_stays s t x u (Pending.ArmTimer ticks) e = until_other (face s) t u (without_deadline (note_of (thread_at s t))) e
until_stays s t x u (Pending.Abort who) e = until_abort s who.0 u
until_stays s t x u (Pending.Start who script stack priority mode) e = until_other (face s) who.0 u (note_of nobody) e
until_stays s t x u Pending.Tick e = refl
until_stays s t x u p e = refl

until_step : (s s2 : State) (event : Event) → Step s event s2 → (u : ℕ) → rearms u event.thread.0 event.act ≡ false → (thread_at s2 u).until ≡ (thread_at s u).until
until_step s s2 event step u e =
    let t = event.thread.0 in
    let made : face s2 ≡ face_after s t step.step = ap face step.leaves ∙ faces s t step.row step.step step.rest in
    ap (λ (m : Note). m.until) (sym (note_is s2 u)) ∙ ap (λ (f : Face). (note_at f u).until) made
    ∙ until_stays s t step.row u step.step (ap (rearms u t) (sym step.says) ∙ e) ∙ ap (λ (m : Note). m.until) (note_is s u)

until_run : (s : State) (events : List Event) (s2 : State) → Runs s events s2 → (u : ℕ) → is_in_time u events ≡ true → (thread_at s2 u).until ≡ (thread_at s u).until
until_run s [] s2 run u none = ap (λ (now : State). (thread_at now u).until) run
until_run s (event ∷ events) s2 (mid, step, rest) u none =
    let both = and_parts _ _ none in until_run mid events s2 rest u both.1 ∙ until_step s mid event step u (not-true _ both.0)

-- Time.

now_after : (s : State) (t x : ℕ) (p : Pending) → ((face_after s t p).now ≡ s.now) ⊎ IsTickTo (face_after s t p).now (act_of s t x p)
now_after s t x Pending.Tick = inr (omega arith)
now_after s t x (Pending.Abort who) = inl (by-life (is_living (thread_at s who.0).life)) where
  by-life : (b : Bool) → (face (if b then record s { threads = slice_set s.threads who.0 (flagged Flag.aborted (thread_at s who.0)) } else s)).now ≡ s.now
  by-life true = refl
  by-life false = refl
now_after s t x p = inl refl

now_step : (s s2 : State) (event : Event) → Step s event s2 → (s2.now ≡ s.now) ⊎ IsTickTo s2.now event.act
now_step s s2 event step =
    let t = event.thread.0 in
    let made : face s2 ≡ face_after s t step.step = ap face step.leaves ∙ faces s t step.row step.step step.rest in
    told s s2 event (ap (λ (f : Face). f.now) made) (now_after s t step.row step.step) step.says where
      told : (s s2 : State) (event : Event) {n : ℕ} {act : Act} → s2.now ≡ n → (n ≡ s.now) ⊎ IsTickTo n act → event.act ≡ act → (s2.now ≡ s.now) ⊎ IsTickTo s2.now event.act
      told s s2 event e (inl same) says = inl (e ∙ same)
      told s s2 event {n} {act} e (inr tick) says = inr (subst (λ (a : Act). IsTickTo s2.now a) (sym says) (subst (λ (m : ℕ). IsTickTo m act) (sym e) tick))

tick_less : (d n : ℕ) (act : Act) → d ≤ n → IsTickTo n act → IsTickTo d act
tick_less d n (Act.Tick now) l h = omega (arith, l, h)
tick_less d n act l h = absurd h

le_or_lt : (a b : ℕ) → (a ≤ b) ⊎ (b < a)
le_or_lt a b = by-test (nat_le a b) refl where
  by-test : (c : Bool) → nat_le a b ≡ c → (a ≤ b) ⊎ (b < a)
  by-test true e = inl (leb-true a b e)
  by-test false e = inr (lt_of_not-le (λ l. true≢false (sym (le-leb a b l) ∙ e)))

tick_here : (d m : ℕ) (event : Event) (events : List Event) → IsTickTo m event.act → (d ≤ m) ⊎ (m < d) → (m < d → HasTickTo d events) → HasTickTo d (event ∷ events)
tick_here d m event events tick (inl here) later = inl (tick_less d m event.act here tick)
tick_here d m event events tick (inr behind) later = inr (later behind)

tick_first : (n d m : ℕ) (event : Event) (events : List Event) → n < d → (m ≡ n) ⊎ IsTickTo m event.act → (m < d → HasTickTo d events) → HasTickTo d (event ∷ events)
tick_first n d m event events l (inl same) later = inr (later (omega (arith, l, same)))
tick_first n d m event events l (inr tick) later = tick_here d m event events tick (le_or_lt d m) later

-- where time comes to a moment in a run, a tick comes there
tick_between : (s : State) (events : List Event) (s2 : State) → Runs s events s2 → (d : ℕ) → s.now < d → d ≤ s2.now → HasTickTo d events
tick_between s [] s2 run d l h = absurd (let same : s2.now ≡ s.now = ap (λ (now : State). now.now) run in omega (arith, l, h, same))
tick_between s (event ∷ events) s2 (mid, step, rest) d l h =
    tick_first s.now d mid.now event events l (now_step s mid event step) (λ behind. tick_between mid events s2 rest d behind h)

-- The law of deadlines.

-- a written element is there, or none is
set_mine : {A : Type 0} (xs : List A) (t : ℕ) (x d : A) → (slice_index_or (slice_set xs t x) t d ≡ x) ⊎ (slice_index_or (slice_set xs t x) t d ≡ d)
set_mine [] t x d = inr refl
set_mine (y ∷ ys) zero x d = inl refl
set_mine (y ∷ ys) (suc t) x d = set_mine ys t x d

-- the deadline that an act arms
abbrev arm_of : Act → Option ℕ
arm_of (Act.Arm deadline) = Some deadline
arm_of act = None

abbrev arms_any : Act → Bool
arms_any act = is_some (arm_of act)

-- what is there then: the deadline, which lies ahead, or none
abbrev HasArmed : ℕ → ℕ → Option ℕ → Type 0
HasArmed now d until = ((until ≡ Some d) × (now < d)) ⊎ (until ≡ None)

-- a thread that is to arm a deadline for its call does so with a tick at least
abbrev ArmsAhead : Pending → Type 0
ArmsAhead (Pending.Arm ticks) = 0 < ticks
ArmsAhead p = Unit {0}

arm_notes : (s : State) (t x d : ℕ) (p : Pending) → ArmsAhead p → arm_of (act_of s t x p) ≡ Some d → ((face_after s t p).now ≡ s.now) × HasArmed s.now d (note_at (face_after s t p) t).until
arm_notes s t x d (Pending.Arm ticks) ahead h = (refl, by-place (set_mine (face s).notes t (record { aborted = (thread_at s t).aborted; until = Some (s.now + ticks) }) (note_of nobody))) where
  note : Note
  note = record { aborted = (thread_at s t).aborted; until = Some (s.now + ticks) }

  same : s.now + ticks ≡ d
  same = ap (λ o. unwrap_or o 0) h

  by-place : (note_at (with_note (face s) t note) t ≡ note) ⊎ (note_at (with_note (face s) t note) t ≡ note_of nobody) → HasArmed s.now d (note_at (with_note (face s) t note) t).until
  by-place (inl e) = inl (ap (λ (m : Note). m.until) e ∙ h, omega (arith, same, ahead))
  by-place (inr e) = inr (ap (λ (m : Note). m.until) e)
arm_notes s t x d (Pending.ArmTimer ticks) ahead h = (refl, inr (by-place (set_mine (face s).notes t note (note_of nobody)))) where
  note : Note
  note = without_deadline (note_of (thread_at s t))

  by-place : (note_at (with_note (face s) t note) t ≡ note) ⊎ (note_at (with_note (face s) t note) t ≡ note_of nobody) → (note_at (with_note (face s) t note) t).until ≡ None
  by-place (inl e) = ap (λ (m : Note). m.until) e
  by-place (inr e) = ap (λ (m : Note). m.until) e
arm_notes s t x d (Pending.Load to a n) ahead h = absurd (true≢false (sym (ap is_some h) ∙ load_is arms_any s t x to a n refl refl))
arm_notes s t x d (Pending.Store a n value) ahead h = absurd (true≢false (sym (ap is_some h) ∙ store_is arms_any s t x a n value refl refl))
arm_notes s t x d (Pending.Fetch a) ahead h = absurd (true≢false (sym (ap is_some h) ∙ fetch_is arms_any s t x a refl refl))
arm_notes s t x d p ahead h = absurd (true≢false (ap is_some (sym h)))

-- whether an act wakes a thread late
abbrev is_late : ℕ → Act → Bool
is_late u (Act.TimedOut who) = who.0 == u
is_late u act = false

late_chosen : (s : State) (t x u : ℕ) (p : Pending) → is_late u (act_of s t x p) ≡ true → MayChoose s t x p → has_come s.now (thread_at s u).until ≡ true
late_chosen s t x u (Pending.TimeOut who) h may = ap (λ n. has_come s.now (thread_at s n).until) (sym (eqb-true who.0 u h)) ∙ (and_parts _ _ may).0
late_chosen s t x u (Pending.Load to a n) h may = absurd (true≢false (sym h ∙ load_is (is_late u) s t x to a n refl refl))
late_chosen s t x u (Pending.Store a n value) h may = absurd (true≢false (sym h ∙ store_is (is_late u) s t x a n value refl refl))
late_chosen s t x u (Pending.Fetch a) h may = absurd (true≢false (sym h ∙ fetch_is (is_late u) s t x a refl refl))
late_chosen s t x u p h may = absurd (false≢true h)

came : (before now d : ℕ) (until : Option ℕ) → HasArmed before d until → has_come now until ≡ true → (before < d) × (d ≤ now)
came before now d until (inl (e, ahead)) h = (ahead, leb-true d now (ap (has_come now) (sym e) ∙ h))
came before now d until (inr e) h = absurd (true≢false (sym h ∙ ap (has_come now) e))

-- The steps that a reached state offers: a call arms with a tick at least, and no begin stands among the steps that are left.

abbrev Waits : State → ℕ → Steps → Type 0
Waits s t steps = list_all (may_wait (thread_at s t).life) steps ≡ true

arms_ahead : (life : Life) (p : Pending) → may_wait life p ≡ true → ArmsAhead p
arms_ahead Life.Living (Pending.Arm ticks) h = ltb-true 0 ticks h
arms_ahead Life.Unborn (Pending.Arm ticks) h = absurd (false≢true h)
arms_ahead Life.Ended (Pending.Arm ticks) h = absurd (false≢true h)
arms_ahead life p h = tt

offers_ahead : (s : State) (t : ℕ) (p : Pending) (rest : Steps) → Waits s t (thread_at s t).pending → Offers s t p rest → ArmsAhead p
offers_ahead s t p rest w (Offers.goes e) = arms_ahead (thread_at s t).life p (and_parts _ _ (subst (Waits s t) e w)).0
offers_ahead s t p rest w (Offers.skips_inherit {who = who} e due) =
    arms_ahead (thread_at s t).life p (and_parts _ _ (and_parts (may_wait (thread_at s t).life (Pending.Inherit who)) _ (subst (Waits s t) e w)).1).0
offers_ahead s t p rest w (Offers.skips_drops {from = from} e due) =
    arms_ahead (thread_at s t).life p (and_parts _ _ (and_parts (may_wait (thread_at s t).life (Pending.Drops from)) _ (subst (Waits s t) e w)).1).0
offers_ahead s t _ _ w (Offers.begins e l m i) = tt
offers_ahead s t _ _ w (Offers.exits e l m i) = tt
offers_ahead s t _ _ w (Offers.stops e l m) = tt
offers_ahead s t _ _ w (Offers.leaves l) = tt
offers_ahead s t p _ w (Offers.tends kind l) = tends_ahead p kind where
  tends_ahead : (p : Pending) → is_tending p ≡ true → ArmsAhead p
  tends_ahead (Pending.Arm ticks) h = absurd (false≢true h)
  tends_ahead p h = tt

no_begins : (life : Life) (p : Pending) → may_wait life p ≡ true → not (begins p) ≡ true
no_begins Life.Unborn Pending.Begin h = h
no_begins Life.Living Pending.Begin h = h
no_begins Life.Ended Pending.Begin h = h
no_begins life p h = refl

pub pends_no_begin : (life : Life) (steps : Steps) → list_all (may_wait life) steps ≡ true → pends_none steps ≡ true
pends_no_begin life [] h = refl
pends_no_begin life (p ∷ steps) h = let both = and_parts (may_wait life p) (list_all (may_wait life) steps) h in and_from _ _ (no_begins life p both.0) (pends_no_begin life steps both.1)

-- Between an arming of a deadline and the timeout of the same call time comes to that deadline.
pub tick_before_timeout : (s s1 s2 s3 : State) (arm late : Event) (middle : List Event) (d : ℕ) (who : ThreadIx) → IsReached s → Step s arm s1 → arm.act ≡ Act.Arm d → Runs s1 middle s2 → is_in_time who.0 middle ≡ true
    → Step s2 late s3 → late.act ≡ Act.TimedOut who → arm.thread ≡ who → HasTickTo d middle
tick_before_timeout s s1 s2 s3 arm late middle d who reached armed said run same step timed here =
    let t = arm.thread.0 in
    let at : t ≡ who.0 = ap (λ (w : ThreadIx). w.0) here in
    let made : face s1 ≡ face_after s t armed.step = ap face armed.leaves ∙ faces s t armed.row armed.step armed.rest in
    let ahead = offers_ahead s t armed.step armed.rest (reached.sound t).waits armed.offered in
    let notes = arm_notes s t armed.row d armed.step ahead (ap arm_of (sym armed.says ∙ said)) in
    let now : s1.now ≡ s.now = ap (λ (f : Face). f.now) made ∙ notes.0 in
    let first : HasArmed s.now d (thread_at s1 t).until = subst (HasArmed s.now d) (ap (λ (f : Face). (note_at f t).until) (sym made) ∙ ap (λ (m : Note). m.until) (note_is s1 t)) notes.1 in
    let still : HasArmed s.now d (thread_at s2 who.0).until = subst (HasArmed s.now d) (sym (until_run s1 middle s2 run who.0 same)) (subst (λ n. HasArmed s.now d (thread_at s1 n).until) at first) in
    let late_is : is_late who.0 (act_of s2 late.thread.0 step.row step.step) ≡ true = ap (is_late who.0) (sym step.says ∙ timed) ∙ eq-eqb who.0 who.0 refl in
    let come = came s.now s2.now d (thread_at s2 who.0).until still (late_chosen s2 late.thread.0 step.row who.0 step.step late_is step.chosen) in
    let before = come.0 in tick_between s1 middle s2 run d (omega (arith, now, before)) come.1

-- Runs of lawful images.

pub reached_run : (s : State) (events : List Event) (s2 : State) → IsReached s → Runs s events s2 → IsReached s2
reached_run s [] s2 r run = subst IsReached (sym run) r
reached_run s (event ∷ events) s2 r (mid, step, rest) = reached_run mid events s2 (keeps s mid event r step) rest

-- In a run of a described image between an `arm D` and a timeout of the same call stands a tick to D or behind it.
pub ticks_between : (image : Image) (before middle : List Event) (arm late : Event) (d : ℕ) (who : ThreadIx) (s s2 : State) → IsDescribed image → IsRun image (before ++ arm ∷ middle) s → Step s late s2
    → arm.act ≡ Act.Arm d → late.act ≡ Act.TimedOut who → arm.thread ≡ who → is_in_time who.0 middle ≡ true → HasTickTo d middle
ticks_between image before middle arm late d who s s2 given run step said timed here same =
    let (from, one, two) = runs-parts (opening image) before (arm ∷ middle) s run in
    let (mid, armed, rest) = two in
    tick_before_timeout from mid s s2 arm late middle d who (reached_run (opening image) before from (opens image given.lawful given.few).0 one) armed said rest same step timed here

-- In a run of a described image behind an `abort T ok` no line of T begins before its next start.
pub begins_none : (image : Image) (before middle : List Event) (abort begin : Event) (who : ThreadIx) (script line : ℕ) (s s2 : State) → IsDescribed image → IsRun image (before ++ abort ∷ middle) s → Step s begin s2
    → abort.act ≡ Act.Abort who true → begin.thread ≡ who → is_without_start who.0 middle ≡ true → ¬ (begin.act ≡ Act.Begin script line)
begins_none image before middle abort begin who script line s s2 given run step said here free =
    let (from, one, two) = runs-parts (opening image) before (abort ∷ middle) s run in
    let (mid, made, rest) = two in
    let reached = reached_run mid middle s (keeps from mid abort (reached_run (opening image) before from (opens image given.lawful given.few).0 one) made) rest in
    no_begin_behind from mid s s2 abort begin middle who script line made said rest free step here (pends_no_begin (thread_at s who.0).life (thread_at s who.0).pending (reached.sound who.0).waits)

-- The law of futexes.

or-right : (a b : Bool) → b ≡ true → (a || b) ≡ true
or-right true b h = refl
or-right false b h = h

any_last : (t : ℕ) (ws : List Waiter) (w : Waiter) → (w.thread.0 == t) ≡ true → stands_in t (ws ++ w ∷ []) ≡ true
any_last t [] w h = ap (λ b. b || false) h
any_last t (v ∷ ws) w h = or-right (v.thread.0 == t) (stands_in t (ws ++ w ∷ [])) (any_last t ws w h)

-- what a wait says that waits
record Waited (s : State) (t : ℕ) (a : Addr) (value : ℕ) : Type 0 where
  allowed_there : allowed s t Access.Read a.0 4 ≡ true
  is_there : is_futex s.image a.0 ≡ true
  number : le_value (bytes_at s a.0 4) ≡ value

abbrev refusal : Bool → Bool → Option Errno
refusal may there = if not may then Some Errno.EACCES else if not there then Some Errno.EINVAL else None

waits_for : (value found : ℕ) (timeout : Timeout) (b : Bool) → (found == value) ≡ b → (if b then wait_or_not timeout else Answer.Now (Reply.Fail Errno.EAGAIN)) ≡ Answer.Wait → found ≡ value
waits_for value found timeout true e h = eqb-true found value e
waits_for value found timeout false e h = cc

unrefused : (may there : Bool) (value found : ℕ) (timeout : Timeout) → futex_wait value found timeout (refusal may there) ≡ Answer.Wait → (may ≡ true) × (there ≡ true) × (found ≡ value)
unrefused false there value found timeout h = cc
unrefused true false value found timeout h = cc
unrefused true true value found timeout h = (refl, refl, waits_for value found timeout (found == value) refl h)

waited : (s : State) (t : ℕ) (a : Addr) (value : ℕ) (timeout : Timeout) → futex_answer s t a.0 value timeout ≡ Answer.Wait → Waited s t a value
waited s t a value timeout h =
    let (may, there, number) = unrefused (allowed s t Access.Read a.0 4) (is_futex s.image a.0) value (le_value (bytes_at s a.0 4)) timeout h in
    record { allowed_there = may; is_there = there; number = number }

watches_by : (s : State) (t : ℕ) (a : Addr) (value : ℕ) (rest : Steps) (answer : Answer) → (answer ≡ Answer.Wait → Waited s t a value)
    → Watches s t (Act.FutexWait a value answer)
    (went rest (write (only (says_wait answer) (Effect.waiters FUTEX_CELL (queued s t FUTEX_CELL (Ask.FutexWait a)))) s) t (Next.on (work_change answer []) (asked_way answer)))
watches_by s t a value rest (Answer.Now reply) w = tt
watches_by s t a value rest Answer.Wait w =
    let is = w refl in
    let me = thread_at s t in
    let last : Waiter = record { thread = to_thread t; priority = me.priority; ask = Ask.FutexWait a; bytes = []; until = me.until } in
    (is.allowed_there, is.is_there, is.number, any_last t (without t s.futexes) last (eq-eqb t t refl))

watches_if : (s s2 : State) (t : ℕ) (b : Bool) (x y : Act) → Watches s t x s2 → Watches s t y s2 → Watches s t (if b then x else y) s2
watches_if s s2 t true x y v w = v
watches_if s s2 t false x y v w = w

watches_after : (s : State) (t x : ℕ) (p : Pending) (rest : Steps) → Watches s t (act_of s t x p) (after s t x p rest)
watches_after s t x (Pending.FutexWait a value timeout) rest =
    watches_by s t a value rest (futex_answer s t a.0 value timeout) (waited s t a value timeout)
watches_after s t x (Pending.Load to a n) rest =
    watches_if s (after s t x (Pending.Load to a n) rest) t (allowed s t Access.Read a.0 n) (Act.Load a n (le_value (bytes_at s a.0 n))) (Act.Fault Access.Read a n) tt tt
watches_after s t x (Pending.Store a n value) rest =
    watches_if s (after s t x (Pending.Store a n value) rest) t (allowed s t Access.Write a.0 n) (Act.Store a n value) (Act.Fault Access.Write a n) tt tt
watches_after s t x (Pending.Fetch a) rest =
    watches_if s (after s t x (Pending.Fetch a) rest) t (allowed s t Access.Exec a.0 4) (Act.Fetch a) (Act.Fault Access.Exec a 4) tt tt
watches_after s t x p rest = tt

-- Each event keeps it.
pub watches : (s s2 : State) (event : Event) → Step s event s2 → Watches s event.thread.0 event.act s2
watches s s2 event step =
    let t = event.thread.0 in
    subst (λ (act : Act). Watches s t act s2) (sym step.says)
    (subst (λ (now : State). Watches s t (act_of s t step.row step.step) now) (sym step.leaves) (watches_after s t step.row step.step step.rest))
