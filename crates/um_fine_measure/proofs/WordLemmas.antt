-- What a step does to the words of threads, as far as what all have left reads them: only a step that wakes a thread makes it awake, and only a
-- suspension makes it suspended. And to who sleeps: only a rouse takes one from there.
use Rattle.std.proofs.Common.{◌≡◌, ◌<◌, arith, length, ℕ, zero, suc, Bool, true, false, cond, List, [], ◌∷◌, Option, Some, None, refl, sym, ap, ◌∙◌, subst}
use Rattle.std.specs.Prelude.{◌==◌, ◌||◌, not, is_some, if◌then◌else◌, slice_index_or, slice_set}
use Rattle.std.proofs.lemmas.List.{get_or-set_same}
use Rattle.um_base.specs.declared.limits.TheConstants.{THREADS}
use Rattle.std.proofs.lemmas.Bool.{eqb-false, false≢true, true≢false}
use Rattle.um_base.specs.declared.act.Act.{Act}
use Rattle.um_machine.specs.State.{State, is_living}
use Rattle.um_words.specs.Threads.{counted_thread, is_awake, thread_after, thread_after_act}
use Rattle.um_words.specs.declared.fine.FineAct.{FineAct}
use Rattle.um_words.specs.declared.fine.Unseen.{Unseen}
use Rattle.um_words.specs.declared.thread_word.ThreadWord.{ThreadWord}
use Rattle.um_fine.specs.Answers.{context_in}
use Rattle.um_fine.specs.Cells.{Cell}
use Rattle.um_fine.specs.Joins.{Joins, asleep_at, join_after}
use Rattle.um_fine.specs.Sites.{SiteMay, SiteState, is_sort, s_next, same_site, site_after, site_answers, site_moves, word_of}
use Rattle.um_fine.specs.Steps.{Exchange, FineStep, Site}
use Rattle.um_base.specs.declared.act.Answer.{Answer}
use Rattle.um_refinement.specs.Fine.{Fine, joins, joins_state, thread_state, word}
use Rattle.um_refinement.specs.Relation.{Rel}
use Rattle.um_refinement.proofs.Erased.{later}

-- the steps that may wake a thread
abbrev pub wakes_by_act : Act → Bool
wakes_by_act (Act.Abort who done) = true
wakes_by_act (Act.Continue who done) = true
wakes_by_act (Act.Start who) = true
wakes_by_act act = false

abbrev pub is_waking : FineAct → Bool
is_waking (FineAct.Shown event more) = wakes_by_act event.act
is_waking (FineAct.Unseen unseen) = false

abbrev pub suspends_by_act : Act → Bool
suspends_by_act (Act.Suspend who done) = true
suspends_by_act act = false

abbrev pub is_suspending : FineAct → Bool
is_suspending (FineAct.Shown event more) = suspends_by_act event.act
is_suspending (FineAct.Unseen unseen) = false

abbrev pub suspended : ThreadWord → Bool
suspended w = w.suspended

-- One word.

module _ (w : ThreadWord) where
  abbrev Less : (ThreadWord → Bool) → FineAct → Type 0
  Less test act = test (counted_thread (thread_after w act)) ≡ true → test w ≡ true

  either-less : (test : ThreadWord → Bool) (b : Bool) (z : ThreadWord) → (test z ≡ true → test w ≡ true) → test (counted_thread (if b then z else w)) ≡ true → test (counted_thread z) ≡ test z → test (counted_thread w) ≡ test w → test w ≡ true
  either-less test true z h on same here = h (sym same ∙ on)
  either-less test false z h on same here = sym here ∙ on

  or-false : (a b : Bool) → (a || false) ≡ true → (a || b) ≡ true
  or-false true b h = refl
  or-false false b h = absurd (false≢true h)

  pub awake-less : (act : FineAct) → is_waking act ≡ false → Less is_awake act
  awake-less (FineAct.Shown event more) h = by event.act h
    where
      by : (act : Act) → wakes_by_act act ≡ false → is_awake (counted_thread (thread_after_act w more act)) ≡ true → is_awake w ≡ true
      by (Act.Abort who done) h on = absurd (true≢false h)
      by (Act.Continue who done) h on = absurd (true≢false h)
      by (Act.Start who) h on = absurd (true≢false h)
      by (Act.Suspend who done) h on = either-less is_awake (is_living w.life) (record w { suspended = true }) (or-false w.aborted (not w.suspended)) on refl refl
      by act h on = on
  awake-less (FineAct.Unseen Unseen.Hold) h = λ on. on
  awake-less (FineAct.Unseen Unseen.LetGo) h = λ on. on
  awake-less (FineAct.Unseen (Unseen.Note site)) h = λ on. on
  awake-less (FineAct.Unseen unseen) h = λ on. on

  pub suspended-less : (act : FineAct) → is_suspending act ≡ false → Less suspended act
  suspended-less (FineAct.Shown event more) h = by event.act h
    where
      by : (act : Act) → suspends_by_act act ≡ false → suspended (counted_thread (thread_after_act w more act)) ≡ true → suspended w ≡ true
      by (Act.Suspend who done) h on = absurd (true≢false h)
      by (Act.Abort who done) h on = either-less suspended (is_living w.life) (record w { aborted = true }) (λ k. k) on refl refl
      by (Act.Continue who done) h on = either-less suspended (is_living w.life) (record w { suspended = false }) (λ k. absurd (false≢true k)) on refl refl
      by (Act.Start who) h on = absurd (false≢true on)
      by act h on = on
  suspended-less (FineAct.Unseen Unseen.Hold) h = λ on. on
  suspended-less (FineAct.Unseen Unseen.LetGo) h = λ on. on
  suspended-less (FineAct.Unseen (Unseen.Note site)) h = λ on. on
  suspended-less (FineAct.Unseen unseen) h = λ on. on

-- All words, and who sleeps.

abbrev pub rouses_one : ℕ → FineAct → Bool
rouses_one t (FineAct.Unseen (Unseen.Rouse who)) = who.0 == t
rouses_one t act = false

-- what is written leaves no place empty that wasn't
set-some : {A : Type 0} (xs : List (Option A)) (i t : ℕ) (y : A) → is_some (slice_index_or (slice_set xs i (Some y)) t None) ≡ false → is_some (slice_index_or xs t None) ≡ false
set-some [] i t y h = h
set-some (x ∷ xs) zero zero y h = absurd (true≢false h)
set-some (x ∷ xs) zero (suc t) y h = h
set-some (x ∷ xs) (suc i) zero y h = h
set-some (x ∷ xs) (suc i) (suc t) y h = set-some xs i t y h

set-other : {A : Type 0} (xs : List (Option A)) (i t : ℕ) (o : Option A) → (i ≡ t → ⊥) → is_some (slice_index_or (slice_set xs i o) t None) ≡ false → is_some (slice_index_or xs t None) ≡ false
set-other [] i t o other h = h
set-other (x ∷ xs) zero zero o other h = absurd (other refl)
set-other (x ∷ xs) zero (suc t) o other h = h
set-other (x ∷ xs) (suc i) zero o other h = h
set-other (x ∷ xs) (suc i) (suc t) o other h = set-other xs i t o (λ same. other (ap suc same)) h

module _ (j : Joins) (t : ℕ) where
  abbrev NotThere : Joins → Type 0
  NotThere z = is_some (asleep_at z t) ≡ false

  pub asleep-less : (act : FineAct) (moved : Exchange) → rouses_one t act ≡ false → NotThere (join_after j act moved) → NotThere j
  asleep-less (FineAct.Shown event more) moved off h = by event.act h
    where
      by : (act : Act) → NotThere (join_after j (FineAct.Shown (record event { act = act }) more) moved) → NotThere j
      by (Act.Join who Answer.Wait) h = h
      by (Act.Join who (Answer.Now reply)) h = h
      by act h = h
  asleep-less (FineAct.Unseen Unseen.Sleep) moved off h = set-some j.asleep (context_in moved).thread t (context_in moved) h
  asleep-less (FineAct.Unseen (Unseen.Rouse who)) moved off h = set-other j.asleep who.0 t None (eqb-false who.0 t off) h
  asleep-less (FineAct.Unseen unseen) moved off h = h

module _ (f : Fine) (m : State) (rel : Rel f m) (e : FineStep) where
  -- a test of the words of threads
  pub flag-less : (test : ThreadWord → Bool) → ((w : ThreadWord) → test (counted_thread (thread_after w e.act)) ≡ true → test w ≡ true) → (t : ℕ) → test (word (later f e) t) ≡ true → test (word f t) ≡ true
  flag-less test less t = by (same_site e.site (Site.thread t)) (f.sites (Site.thread t)) (rel.sorts (Site.thread t))
    where
      by : (b : Bool) (s : SiteState) → is_sort (Site.thread t) s ≡ true → test (thread_state (cond b (s_next f.image s e) s)) ≡ true → test (thread_state s) ≡ true
      by false s sort on = on
      by true (SiteState.thread w) sort on = less w on
      by true (SiteState.row w) sort on = absurd (false≢true sort)
      by true (SiteState.domain w) sort on = absurd (false≢true sort)
      by true (SiteState.cell n c) sort on = absurd (false≢true sort)

  -- the word of another thread stays
  pub word-other : (t : ℕ) → same_site e.site (Site.thread t) ≡ false → word (later f e) t ≡ word f t
  word-other t off = ap (λ b. thread_state (cond b (s_next f.image (f.sites (Site.thread t)) e) (f.sites (Site.thread t)))) off

  -- who doesn't sleep didn't before, but where it is roused
  pub sleeper-less : (t : ℕ) → rouses_one t e.act ≡ false → is_some (asleep_at (joins (later f e)) t) ≡ false → is_some (asleep_at (joins f) t) ≡ false
  sleeper-less t off = by (same_site e.site Site.joins) (f.sites Site.joins) (rel.sorts Site.joins)
    where
      by : (b : Bool) (s : SiteState) → is_sort Site.joins s ≡ true → is_some (asleep_at (joins_state (cond b (s_next f.image s e) s)) t) ≡ false → is_some (asleep_at (joins_state s) t) ≡ false
      by false s sort h = h
      by true (SiteState.cell n (Cell.joins j)) sort h = asleep-less j t e.act e.moved off h
      by true s sort h = refl

  -- one who is put to sleep sleeps
  slept : (s : SiteState) (moved : Exchange) → is_sort Site.joins s ≡ true → (context_in moved).thread < length (joins_state s).asleep
      → is_some (asleep_at (joins_state (site_after f.image s (FineAct.Unseen Unseen.Sleep) moved)) (context_in moved).thread) ≡ true
  slept (SiteState.cell n (Cell.joins j)) moved sort few = ap is_some (get_or-set_same j.asleep (context_in moved).thread (Some (context_in moved)) None few)
  slept s moved sort few = absurd (false≢true sort)

  pub sleeper-put : e.site ≡ Site.joins → e.act ≡ FineAct.Unseen Unseen.Sleep → (t : ℕ) → (context_in e.moved).thread ≡ t → t < THREADS → is_some (asleep_at (joins (later f e)) t) ≡ true
  sleeper-put at said t same few =
      let long = rel.joins.asleep in
      let put = slept (f.sites Site.joins) e.moved (rel.sorts Site.joins) (omega (arith, few, same, long)) in
      ap (λ i. is_some (asleep_at (joins_state (cond (same_site i Site.joins) (s_next f.image (f.sites Site.joins) e) (f.sites Site.joins))) t)) at
      ∙ (ap (λ a. is_some (asleep_at (joins_state (site_after f.image (f.sites Site.joins) a e.moved)) t)) said
      ∙ (ap (λ n. is_some (asleep_at (joins_state (site_after f.image (f.sites Site.joins) (FineAct.Unseen Unseen.Sleep) e.moved)) n)) (sym same) ∙ put))

  -- the word that a step leaves
  pub word-left : SiteMay f.image (f.sites e.site) e → e.word ≡ word_of (s_next f.image (f.sites e.site) e)
  word-left taken =
      let s = f.sites e.site in
      let says : site_answers f.image s e.moved e.act ≡ e.act = ap (λ (g : FineStep). g.act) taken.filled_in in
      let moves : site_moves f.image s e.act e.moved ≡ e.moved = ap (λ (g : FineStep). g.moved) taken.filled_in in
      let left : word_of (site_after f.image s (site_answers f.image s e.moved e.act) (site_moves f.image s e.act e.moved)) ≡ e.word = ap (λ (g : FineStep). g.word) taken.filled_in in
      sym (subst (λ (z : FineAct × Exchange). word_of (site_after f.image s z.0 z.1) ≡ e.word) (λ i. (says i, moves i)) left)
