-- The own part of a thread that makes an event is that of the machine's thread then, with what its call holds and whether it has ended.
use Rattle.um_refinement.proofs.Words.{as_thread, ◌≡◌, ℕ, zero, suc, ◌<◌, Bool, true, List, [], ◌∷◌, ◌++◌, length, Option, Some, None, refl, sym, ap, ◌∙◌, subst, arith, IsTrue, nat_lt, slice_set, list_all, and_from, and_parts, Ask, ROWS, THREADS, Addr, Errno, Pending, Life, Thread, verdict, Steps, State, is_started, thread_at, with_thread, row_named, act_in, verdict_in, Context, continues, Todos, FineStep, Fine, IsOf, flags_of, is_ended, own_part, Ignores, held, next_of, key-same, held_part, all_other, keys-after, work_change, changed-same}
use Rattle.um_machine.specs.Table as T
use Rattle.um_fine.specs.Answers.{answer_in}
use Rattle.um_refinement.specs.Threads.{as_cut, cutters}
use Rattle.um_refinement.proofs.Erased.{around}
use Rattle.um_refinement.proofs.LawfulSteps.{Suits}
use Rattle.um_refinement.proofs.Leaves.{Lawful}
use Rattle.um_refinement.proofs.Continued.{Held, KeepsHeld, continues-held, continues-thread, held_of}
use Rattle.um_refinement.proofs.MemoryPart.{InDomains}
use Rattle.um_refinement.proofs.Offered.{IsStep, Shows, own-part}
use Rattle.um_refinement.proofs.Own.{went-here}
use Rattle.um_refinement.proofs.OwnKept.{acts, own-kept, starts-another}
use Rattle.um_refinement.proofs.RestKept.{KeepsBeside, beside-kept, beside-same}
use Rattle.um_refinement.proofs.RowSteps.{named-row}
use Rattle.um_refinement.proofs.RowsPart.{named-below}
use Rattle.um_refinement.proofs.ThreadLists.{at-here, set-else, set-long}
use Rattle.um_refinement.proofs.WordsKept.{IsShown}

-- Rows as flags, with one more.

set-swap : (bs : List Bool) (i j : ℕ) → slice_set (slice_set bs i true) j true ≡ slice_set (slice_set bs j true) i true
set-swap [] i j = refl
set-swap (b ∷ bs) zero zero = refl
set-swap (b ∷ bs) zero (suc j) = refl
set-swap (b ∷ bs) (suc i) zero = refl
set-swap (b ∷ bs) (suc i) (suc j) = ap (λ cs. b ∷ cs) (set-swap bs i j)

flags-more : (xs : List ℕ) (y : ℕ) → flags_of (xs ++ y ∷ []) ≡ slice_set (flags_of xs) y true
flags-more [] y = refl
flags-more (x ∷ xs) y = ap (λ flags. slice_set flags x true) (flags-more xs y) ∙ set-swap (flags_of xs) y x

abbrev Below : List ℕ → Type 0
Below xs = list_all (λ x. nat_lt x ROWS) xs ≡ true

below-more : (xs : List ℕ) (y : ℕ) → Below xs → nat_lt y ROWS ≡ true → Below (xs ++ y ∷ [])
below-more [] y h few = and_from (nat_lt y ROWS) true few refl
below-more (x ∷ xs) y h few =
    let parts = and_parts (nat_lt x ROWS) (list_all (λ z. nat_lt z ROWS) xs) h in and_from (nat_lt x ROWS) _ parts.0 (below-more xs y parts.1 few)

-- Work changes neither whether a thread lives nor what its call holds.

abbrev Call : Type 0
Call = Life × List Bool

abbrev call_of : Thread → Call
call_of me = (me.life, me.checked)

work-calls : (m : State) (t x : ℕ) (a : Addr) (ask : Ask) (rest : Steps) (u : ℕ) → call_of (thread_at (T.after m t x (Pending.Work a ask) rest) u) ≡ call_of (thread_at m u)
work-calls m t x a ask rest u =
    let q = Pending.Work a ask in
    let w = T.work_of m t a ask in
    let ignores : Ignores call_of all_other = record { due = λ h me due. refl; told = λ h me told. refl; domain = λ h me domain. refl; doomed = λ h me. refl; flagged = λ h me flag suspended. refl } in
    key-same call_of m (T.after m t x q rest) (keys-after call_of all_other ignores m t x q rest refl (λ s me. changed-same call_of (λ me registers reply buffer until. refl) (work_change w.answer w.taken) me)) u

-- nor does a wake on a futex
wake-calls : (m : State) (t x : ℕ) (a : Addr) (every : Bool) (rest : Steps) (u : ℕ) → call_of (thread_at (T.after m t x (Pending.FutexWake a every) rest) u) ≡ call_of (thread_at m u)
wake-calls m t x a every rest u =
    let q = Pending.FutexWake a every in
    let ignores : Ignores call_of all_other = record { due = λ h me due. refl; told = λ h me told. refl; domain = λ h me domain. refl; doomed = λ h me. refl; flagged = λ h me flag suspended. refl } in
    key-same call_of m (T.after m t x q rest) (keys-after call_of all_other ignores m t x q rest refl (λ s me. changed-same call_of (λ me registers reply buffer until. refl) (work_change (answer_in (T.act_of m t x q)) []) me)) u

module _ (f : Fine) (m : State) (e : FineStep) (law : Lawful f m e) (suits : Suits f m) (all : InDomains f m) (rest : Steps) (todo : Todos) (x : ℕ) where
  open around f e use {later, processor as p}

  abbrev t : ℕ
  t = p.context.thread

  abbrev next : Pending → Context
  next q = continues f.image p.context 0 q rest (act_in e.act) e.moved

  abbrev after : Pending → State
  after q = T.after m t x q rest

  module _ (q : Pending) (h : Shows f m e.cpu e q rest todo) (shown : IsShown q) (is : IsStep f m e.cpu e x q) (uncut : cutters later t ≡ 0) where
    of : IsOf f m p.context
    of = own-part h

    room : t < length m.threads
    room = let index = of.index in let many = law.sound.wide.threads in omega (arith, index, many)

    build : (thread_at (after q) t).checked ≡ flags_of (next q).claims → (next q).ended ≡ is_ended (thread_at (after q) t).life → IsTrue (is_started (thread_at (after q) t).life)
        → Below (next q).claims → IsOf later (after q) (next q)
    build claims ended started below =
        let same = continues-thread f.image p.context 0 q rest (act_in e.act) e.moved in
        record {
          index = subst (λ n. n < THREADS) (sym same) of.index;
          own = ap (λ n. as_thread (as_cut n (next q))) (ap (cutters later) same ∙ uncut) ∙ own-kept f m e law suits all rest todo x q h shown is ∙ ap (λ n. own_part (thread_at (after q) n)) (sym same);
          waiting = λ some. let none = ap (cutters later) same ∙ uncut in absurd (omega (arith, some, none));
          claims = ap (λ n. (thread_at (after q) n).checked) same ∙ claims;
          ended = ended ∙ ap (λ n. is_ended (thread_at (after q) n).life) (sym same);
          started = subst (λ n. IsTrue (is_started (thread_at (after q) n).life)) (sym same) started;
          below = below;
        }

    -- it lives and holds as before
    kept : call_of (thread_at (after q) t) ≡ call_of (thread_at m t) → held_of (next q) ≡ held_of p.context → IsOf later (after q) (next q)
    kept call held =
        build (ap (λ (z : Call). z.1) call ∙ (of.claims ∙ ap (λ (z : Held). flags_of z.1) (sym held)))
        (ap (λ (z : Held). z.2) held ∙ (of.ended ∙ ap (λ (z : Call). is_ended z.0) (sym call)))
        (subst (λ (z : Call). IsTrue (is_started z.0)) (sym call) of.started) (subst (λ (z : Held). Below z.1) (sym held) of.below)

    beside : KeepsBeside q → KeepsHeld q → IsOf later (after q) (next q)
    beside h k =
        kept (ap (λ z. (z.life, z.checked)) (beside-same m t (after q) (beside-kept m t x q rest h) t)) (continues-held f.image p.context 0 q rest (act_in e.act) e.moved k)

  -- the own part is that of the machine's thread after the event
  pub of-kept : (q : Pending) → Shows f m e.cpu e q rest todo → IsShown q → IsStep f m e.cpu e x q → cutters later t ≡ 0 → IsOf later (after q) (next q)
  of-kept Pending.Exit h shown is uncut =
      let now = at-here m.threads t _ (room Pending.Exit h shown is uncut) in
      build Pending.Exit h shown is uncut (ap (λ (z : Thread). z.checked) now) (ap (λ (z : Thread). is_ended z.life) (sym now)) (subst (λ (z : Thread). IsTrue (is_started z.life)) (sym now) refl) refl
  of-kept Pending.Killed h shown is uncut =
      let now = at-here m.threads t _ (room Pending.Killed h shown is uncut) in
      build Pending.Killed h shown is uncut (ap (λ (z : Thread). z.checked) now) (ap (λ (z : Thread). is_ended z.life) (sym now)) (subst (λ (z : Thread). IsTrue (is_started z.life)) (sym now) refl) refl
  of-kept (Pending.Fatal reason cause) h shown is uncut =
      let q = Pending.Fatal reason cause in
      let now = at-here m.threads t _ (room q h shown is uncut) in
      build q h shown is uncut (ap (λ (z : Thread). z.checked) now) (ap (λ (z : Thread). is_ended z.life) (sym now)) (subst (λ (z : Thread). IsTrue (is_started z.life)) (sym now) refl) refl
  of-kept (Pending.Answer reply to) h shown is uncut =
      let q = Pending.Answer reply to in
      let now = went-here rest m t (next_of m t x q) (room q h shown is uncut) in
      let was = own-part h in
      build q h shown is uncut (ap (λ (z : Thread). z.checked) now) (was.ended ∙ ap (λ (z : Thread). is_ended z.life) (sym now)) (subst (λ (z : Thread). IsTrue (is_started z.life)) (sym now) was.started) refl
  of-kept (Pending.Check a kind want refusal) h shown is uncut =
      let q = Pending.Check a kind want refusal in
      let now = went-here rest m t (next_of m t x q) (room q h shown is uncut) in
      let same : held_of (next q) ≡ held_of (claimed said) = ap (λ v. held_of (claimed v)) (ap verdict_in (acts is)) in
      let is-so = so said in
      build q h shown is uncut (ap (λ (z : Thread). z.checked) now ∙ (is-so.0 ∙ ap (λ (z : Held). flags_of z.1) (sym same)))
      (ap (λ (z : Held). z.2) same ∙ (is-so.1 ∙ ap (λ (z : Thread). is_ended z.life) (sym now))) (subst (λ (z : Thread). IsTrue (is_started z.life)) (sym now) is-so.2)
      (subst (λ (z : Held). Below z.1) (sym same) is-so.3)
    where
      said : Option Errno
      said = verdict m t a.0 kind want

      claimed : Option Errno → Context
      claimed v = held_part (row_named f.image a) v p.context

      so : (v : Option Errno) → let me = held (T.row_of m a) v (thread_at m t) in
          (me.checked ≡ flags_of (claimed v).claims) × ((claimed v).ended ≡ is_ended me.life) × IsTrue (is_started me.life) × Below (claimed v).claims
      so None =
          let was = own-part h in (
            ap (λ n. slice_set (thread_at m t).checked n true) (named-row f m law.rel a)
                ∙ (ap (λ (bs : List Bool). slice_set bs (row_named f.image a) true) was.claims ∙ sym (flags-more p.context.claims (row_named f.image a))),
            was.ended,
            was.started,
            below-more p.context.claims (row_named f.image a) was.below (named-below f m e law a),
          )
      so (Some e) = let was = own-part h in (was.claims, was.ended, was.started, was.below)
  of-kept (Pending.Work a ask) h shown is uncut =
      let q = Pending.Work a ask in kept q h shown is uncut (work-calls m t x a ask rest t) (continues-held f.image p.context 0 q rest (act_in e.act) e.moved tt)
  of-kept (Pending.FutexWake a every) h shown is uncut =
      let q = Pending.FutexWake a every in kept q h shown is uncut (wake-calls m t x a every rest t) (continues-held f.image p.context 0 q rest (act_in e.act) e.moved tt)
  of-kept (Pending.Start who script stack priority mode) h shown is uncut =
      let q = Pending.Start who script stack priority mode in
      let child = T.newborn m (thread_at m t) who.0 script q in
      let s = with_thread m who.0 child in
      let here = room q h shown is uncut in
      let long = set-long m.threads who.0 child in
      let now = at-here s.threads t (T.at_steps s.image (record (thread_at s t) { child = None }) rest) (omega (arith, here, long)) in
      let other = set-else m.threads who.0 t child (starts-another f m e law suits all rest todo who script stack priority mode h) in
      kept q h shown is uncut (ap call_of now ∙ ap call_of other) (continues-held f.image p.context 0 q rest (act_in e.act) e.moved tt)
  of-kept Pending.Resume h shown is uncut = absurd shown
  of-kept (Pending.Cut who) h shown is uncut = absurd shown
  of-kept (Pending.TimeOut who) h shown is uncut = absurd shown
  of-kept Pending.Expire h shown is uncut = absurd shown
  of-kept Pending.Tick h shown is uncut = absurd shown
  of-kept Pending.Left h shown is uncut = absurd shown
  of-kept q h shown is uncut = beside q h shown is uncut tt tt
