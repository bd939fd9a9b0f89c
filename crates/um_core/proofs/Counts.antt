-- No word comes to the end of its step numbers, nor that of a domain to the end of its versions, nor that of the scheduler to the end of its marks:
-- each counts no more than all steps of the run, of which there are no more than the image's weight.
use Rattle.std.proofs.Common.{◌≡◌, ℕ, suc, ◌+◌, ◌<◌, ◌≤◌, Bool, true, false, cond, List, [], ◌∷◌, length, Option, Some, None, refl, sym, ap, subst, arith}
use Rattle.std.specs.Prelude.{◌&&◌, if◌then◌else◌}
use Rattle.std.proofs.lemmas.Bool.{lt-ltb}
use Rattle.um_base.specs.declared.act.Act.{Act}
use Rattle.um_base.specs.declared.image.Image.{Image}
use Rattle.um_base.specs.declared.names.Errno.{Errno}
use Rattle.um_machine.specs.State.{is_living}
use Rattle.um_words.specs.declared.fine.FineAct.{FineAct}
use Rattle.um_words.specs.declared.fine.Unseen.{Unseen}
use Rattle.um_words.specs.declared.row_word.RowWord.{RowWord}
use Rattle.um_words.specs.declared.thread_word.ThreadWord.{ThreadWord}
use Rattle.um_words.specs.declared.dom_word.DomWord.{DomWord}
use Rattle.um_words.specs.Domains.{domain_after, domain_after_act}
use Rattle.um_words.specs.Rows.{after_verdict, gone_stage, has, is_last, is_live, permitted, row_after, row_after_act}
use Rattle.um_words.specs.Threads.{thread_after, thread_after_act}
use Rattle.um_fine.specs.Cells.{Cell}
use Rattle.um_fine.specs.FineRun.{site_of}
use Rattle.um_fine.specs.Opening.{s_start}
use Rattle.um_fine.specs.Runs.{ends, has_key, sub}
use Rattle.um_fine.specs.Scheduler.{Scheduler, first_taken, sched_after}
use Rattle.um_fine.specs.Sites.{SiteState, s_next, same_site}
use Rattle.um_fine.specs.Steps.{Exchange, FineStep, Site}
use Rattle.um_refinement.specs.Fine.{domain_state, scheduler_state}
use Rattle.um_refinement.specs.After.{left_by}
use Rattle.um_refinement.specs.Room.{CanCount, has_number}
use Rattle.um_core.specs.PickedRun.{site_after}

abbrev pub number_of : SiteState → ℕ
number_of (SiteState.row w) = w.number
number_of (SiteState.thread w) = w.number
number_of (SiteState.domain w) = w.number
number_of (SiteState.cell n c) = n

-- What a step leaves of a word, but for its own number.

either-row : (n : ℕ) (b : Bool) (x y : RowWord) → x.number ≡ n → y.number ≡ n → (if b then x else y).number ≡ n
either-row n true x y h k = h
either-row n false x y h k = k

verdict-kept : (w : RowWord) (verdict : Option Errno) → (after_verdict w verdict).number ≡ w.number
verdict-kept w None = refl
verdict-kept w (Some e) = refl

row-kept : (w : RowWord) (act : FineAct) → (row_after w act).number ≡ w.number
row-kept w (FineAct.Shown event more) = by event.thread.0 event.act
  where
    by : (t : ℕ) (act : Act) → (row_after_act w t act).number ≡ w.number
    by t (Act.Check a kind want verdict) = verdict-kept w verdict
    by t (Act.Grant who a given) = either-row w.number (is_live w.stage) (permitted w who.0 true) w refl refl
    by t (Act.Own who given) = either-row w.number (is_live w.stage) (permitted w who.0 true) w refl refl
    by t (Act.DropPair who a left) =
        either-row w.number (is_last w who.0 && has w who.0) (record (permitted w who.0 false) { stage = gone_stage w }) (permitted w who.0 false) refl refl
    by t act = refl
row-kept w (FineAct.Unseen Unseen.EndCall) = refl
row-kept w (FineAct.Unseen Unseen.Vacate) = refl
row-kept w (FineAct.Unseen unseen) = refl

either-thread : (n : ℕ) (b : Bool) (x y : ThreadWord) → x.number ≡ n → y.number ≡ n → (if b then x else y).number ≡ n
either-thread n true x y h k = h
either-thread n false x y h k = k

thread-kept : (w : ThreadWord) (act : FineAct) → (thread_after w act).number ≡ w.number
thread-kept w (FineAct.Shown event more) = by event.act
  where
    by : (act : Act) → (thread_after_act w more act).number ≡ w.number
    by Act.Exit = refl
    by (Act.Fatal reason cause) = refl
    by (Act.Doom who) = refl
    by (Act.DomMove d who reply) = refl
    by (Act.Start who) = refl
    by Act.EnterUser = refl
    by Act.Killed = refl
    by (Act.Answered reply) = refl
    by (Act.Abort who done) = either-thread w.number (is_living w.life) (record w { aborted = true }) w refl refl
    by (Act.Suspend who done) = either-thread w.number (is_living w.life) (record w { suspended = true }) w refl refl
    by (Act.Continue who done) = either-thread w.number (is_living w.life) (record w { suspended = false }) w refl refl
    by act = refl
thread-kept w (FineAct.Unseen Unseen.Hold) = refl
thread-kept w (FineAct.Unseen Unseen.LetGo) = refl
thread-kept w (FineAct.Unseen (Unseen.Note site)) = refl
thread-kept w (FineAct.Unseen unseen) = refl

domain-kept : (w : DomWord) (act : FineAct) → ((domain_after w act).number ≡ w.number) × ((domain_after w act).version ≤ w.version + 1)
domain-kept w (FineAct.Shown event more) = by event.act
  where
    by : (act : Act) → ((domain_after_act w act).number ≡ w.number) × ((domain_after_act w act).version ≤ w.version + 1)
    by (Act.DomInit d reply) = (refl, omega arith)
    by (Act.DomAdd d range attr reply) = (refl, omega arith)
    by (Act.DomRemove d range attr reply) = (refl, omega arith)
    by (Act.DomMove d who reply) = (refl, omega arith)
    by act = (refl, omega arith)
domain-kept w (FineAct.Unseen Unseen.ReadClaim) = (refl, omega arith)
domain-kept w (FineAct.Unseen Unseen.ReadDone) = (refl, omega arith)
domain-kept w (FineAct.Unseen Unseen.WriteClaim) = (refl, omega arith)
domain-kept w (FineAct.Unseen unseen) = (refl, omega arith)

-- A step adds one mark at most to those that are owed.

taken-kept : (s : Scheduler) (ts : List ℕ) → (first_taken s ts).owed ≡ s.owed
taken-kept s [] = refl
taken-kept s (t ∷ ts) = refl

one-more : (n : ℕ) → n ≤ n + 1
one-more n = omega arith

owed-kept : (s : Scheduler) (act : FineAct) (moved : Exchange) → (sched_after s act moved).owed ≤ s.owed + 1
owed-kept s (FineAct.Shown event more) moved = subst (λ (n : ℕ). n ≤ s.owed + 1) (sym (taken-kept s s.ready)) (one-more s.owed)
owed-kept s (FineAct.Unseen (Unseen.Next who)) moved = subst (λ (n : ℕ). n ≤ s.owed + 1) (sym (taken-kept s s.ready)) (one-more s.owed)
owed-kept s (FineAct.Unseen (Unseen.Wake who ready)) moved = one-more s.owed
owed-kept s (FineAct.Unseen (Unseen.Park who ready)) moved = one-more s.owed
owed-kept s (FineAct.Unseen (Unseen.Cut who ready)) moved = one-more s.owed
owed-kept s (FineAct.Unseen Unseen.Owe) moved = omega arith
owed-kept s (FineAct.Unseen Unseen.Paid) moved = omega arith
owed-kept s (FineAct.Unseen (Unseen.Add who)) moved = one-more s.owed
owed-kept s (FineAct.Unseen Unseen.Done) moved = one-more s.owed
owed-kept s (FineAct.Unseen unseen) moved = one-more s.owed

-- Along the steps of a site.

module _ (image : Image) where
  number-next : (s : SiteState) (e : FineStep) → number_of (s_next image s e) ≡ number_of s + 1
  number-next (SiteState.row w) e = ap (λ n. n + 1) (row-kept w e.act)
  number-next (SiteState.thread w) e = ap (λ n. n + 1) (thread-kept w e.act)
  number-next (SiteState.domain w) e = ap (λ n. n + 1) (domain-kept w e.act).0
  number-next (SiteState.cell n c) e = refl

  version-next : (s : SiteState) (e : FineStep) → (domain_state (s_next image s e)).version ≤ (domain_state s).version + 1
  version-next (SiteState.domain w) e = (domain-kept w e.act).1
  version-next (SiteState.row w) e = omega arith
  version-next (SiteState.thread w) e = omega arith
  version-next (SiteState.cell n c) e = omega arith

  owed-next : (s : SiteState) (e : FineStep) → (scheduler_state (s_next image s e)).owed ≤ (scheduler_state s).owed + 1
  owed-next (SiteState.cell n (Cell.scheduler s)) e = owed-kept s e.act e.moved
  owed-next (SiteState.cell n (Cell.object o)) e = omega arith
  owed-next (SiteState.cell n (Cell.parts p)) e = omega arith
  owed-next (SiteState.cell n (Cell.memory m)) e = omega arith
  owed-next (SiteState.cell n (Cell.heap h)) e = omega arith
  owed-next (SiteState.cell n (Cell.clock c)) e = omega arith
  owed-next (SiteState.cell n (Cell.joins j)) e = omega arith
  owed-next (SiteState.row w) e = omega arith
  owed-next (SiteState.thread w) e = omega arith
  owed-next (SiteState.domain w) e = omega arith

  number-ends : (s : SiteState) (steps : List FineStep) → number_of (ends (s_next image) s steps) ≡ number_of s + length steps
  number-ends s [] = omega arith
  number-ends s (e ∷ steps) = let here = number-next s e in let on = number-ends (s_next image s e) steps in omega (arith, here, on)

  version-ends : (s : SiteState) (steps : List FineStep) → (domain_state (ends (s_next image) s steps)).version ≤ (domain_state s).version + length steps
  version-ends s [] = omega arith
  version-ends s (e ∷ steps) = let here = version-next s e in let on = version-ends (s_next image s e) steps in omega (arith, here, on)

  owed-ends : (s : SiteState) (steps : List FineStep) → (scheduler_state (ends (s_next image) s steps)).owed ≤ (scheduler_state s).owed + length steps
  owed-ends s [] = omega arith
  owed-ends s (e ∷ steps) = let here = owed-next s e in let on = owed-ends (s_next image s e) steps in omega (arith, here, on)

  number-first : (i : Site) → number_of (s_start image i) ≡ 0
  number-first (Site.row x) = refl
  number-first i = refl

  shorter : (p : FineStep → Bool) (steps : List FineStep) → length (sub p steps) ≤ length steps
  shorter p [] = omega arith
  shorter p (e ∷ steps) = by (p e) (shorter p steps)
    where
      by : (b : Bool) → length (sub p steps) ≤ length steps → length (cond b (e ∷ sub p steps) (sub p steps)) ≤ suc (length steps)
      by true on = omega (arith, on)
      by false on = omega (arith, on)

  has-number : (s : SiteState) → number_of s ≤ 400000 → has_number s ≡ true
  has-number (SiteState.row w) h = lt-ltb w.number 1048575 (omega (arith, h))
  has-number (SiteState.thread w) h = lt-ltb w.number 268435455 (omega (arith, h))
  has-number (SiteState.domain w) h = lt-ltb w.number 268435455 (omega (arith, h))
  has-number (SiteState.cell n c) h = lt-ltb n 268435455 (omega (arith, h))

  module _ (steps : List FineStep) (few : length steps ≤ 400000) where
    abbrev there : Site → List FineStep
    there i = sub (has_key same_site site_of i) steps

    numbers-known : (i : Site) → has_number (site_after image steps i) ≡ true
    numbers-known i =
        let count = number-ends (s_start image i) (there i) in
        let first = number-first i in
        let short = shorter (has_key same_site site_of i) steps in
        has-number (site_after image steps i) (omega (arith, count, first, short, few))

    versions-known : (d : ℕ) → (domain_state (site_after image steps (Site.domain d))).version < 1048575
    versions-known d =
        let most = version-ends (s_start image (Site.domain d)) (there (Site.domain d)) in
        let short = shorter (has_key same_site site_of (Site.domain d)) steps in
        omega (arith, most, short, few)

    owed-known : (scheduler_state (site_after image steps Site.scheduler)).owed < 524287
    owed-known =
        let most = owed-ends (s_start image Site.scheduler) (there Site.scheduler) in
        let short = shorter (has_key same_site site_of Site.scheduler) steps in
        omega (arith, most, short, few)

    pub can-count : (cpus : ℕ) → CanCount (left_by image cpus steps)
    can-count cpus = record { numbers = numbers-known; versions = λ d named. versions-known d; owed = owed-known }
