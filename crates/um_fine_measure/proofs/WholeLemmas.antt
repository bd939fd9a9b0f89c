-- What all sites and processors have left together falls by what a lawful step takes of it, but for what the step adds.
use Rattle.std.proofs.Common.{◌≡◌, ◌<◌, ◌≤◌, ℕ, ◌+◌, Bool, true, false, cond, [], ◌∷◌, refl, sym, ap, ◌∙◌, subst, arith, eq-eqb, ne_eqb, if◌then◌else◌}
use Rattle.std.specs.Prelude.{◌==◌, ◌&&◌, ◌||◌, not, is_some}
use Rattle.std.specs.List.{list_any}
use Rattle.std.proofs.Math.Bool.{and-false, or-true}
use Rattle.std.proofs.lemmas.Bool.{and_from, and_parts, eqb-false, eqb-true, false≢true, true≢false}
use Rattle.um_base.specs.declared.act.Event.{Event}
use Rattle.um_base.specs.declared.limits.TheConstants.{THREADS}
use Rattle.um_machine.specs.declared.pending.Pending.{Pending}
use Rattle.um_machine.specs.Order.{Steps}
use Rattle.um_machine.specs.Services.{is_empty}
use Rattle.um_machine.specs.State.{State}
use Rattle.um_words.specs.Threads.{counted_thread, is_awake, thread_after}
use Rattle.um_words.specs.declared.fine.FineAct.{FineAct}
use Rattle.um_words.specs.declared.fine.More.{More}
use Rattle.um_words.specs.declared.fine.Unseen.{Unseen}
use Rattle.um_words.specs.declared.thread_word.ThreadWord.{ThreadWord}
use Rattle.um_fine.specs.Answers.{context_in, is_killed, is_word_read, thread_in}
use Rattle.um_fine.specs.Asks.{fits, fits_show, has_room, moves, says, says_show, site_by, site_of_step, stops_rightly}
use Rattle.um_fine.specs.FineRun.{ByOneOf}
use Rattle.um_fine.specs.Follows.{after_show, p_next, shown_step}
use Rattle.um_fine.specs.Joins.{asleep_at}
use Rattle.um_fine.specs.Places.{Todo, Todos, put_away}
use Rattle.um_fine.specs.Processor.{Processor}
use Rattle.um_fine.specs.Sites.{SiteMay, s_next, same_site, word_of}
use Rattle.um_fine.proofs.Keys.{same-itself}
use Rattle.um_fine.specs.Steps.{Exchange, FineStep, Site}
use Rattle.um_refinement.specs.Fine.{Fine, joins, one_if, over_processors, thread_state, word}
use Rattle.um_refinement.specs.Frames.{AreFramed, Behind}
use Rattle.um_refinement.specs.Lists.{adders, has_steps, is_sleep, of_thread, runs, times}
use Rattle.um_refinement.specs.Offers.{Fits, IsOffered, is_over}
use Rattle.um_refinement.specs.Relation.{Rel}
use Rattle.um_refinement.specs.Stops.{is_reread_asleep}
use Rattle.um_refinement.specs.Threads.{runs_on}
use Rattle.um_refinement.proofs.Erased.{later}
use Rattle.um_refinement.proofs.ListGrips.{next-thread, read-rests}
use Rattle.um_refinement.proofs.ListGrowth.{EndsWell, ReadsLast, is_end, is_shown}
use Rattle.um_refinement.proofs.PlacesFacts.{lies-once, lies-unslept}
use Rattle.um_refinement.proofs.Sums.{one-none}
use Rattle.um_refinement.proofs.TailsKept.{made-there, next-there}
use Rattle.um_fine_measure.specs.Measure.{MOST_CPUS}
use Rattle.um_fine_measure.specs.Whole.{got_by, may_rouse, may_sleep, paid_by, puts_to_sleep, rouses_left, sleeps_left, whole_cost}
use Rattle.um_fine_measure.proofs.PartLemmas.{got-parts, got_rouses, got_sleeps, index_of, one-most, other-site, paid-parts, paid_rouses, paid_sleeps, read-act}
use Rattle.um_fine_measure.proofs.SleepLists.{IsNone, idle-none, next-none, sleep-lives, sleep-runs}
use Rattle.um_fine_measure.proofs.SumLemmas.{one-less, total-but, total-less, total-more, total-most, total-none, total-part}
use Rattle.um_fine_measure.proofs.WordLemmas.{awake-less, flag-less, is_suspending, is_waking, rouses_one, sleeper-less, sleeper-put, suspended, suspends_by_act, suspended-less, word-left, word-other}

module _ (f : Fine) (m : State) (rel : Rel f m) (e : FineStep) (may : ByOneOf f.image f.cpus (f.processors e.cpu) e) (taken : SiteMay f.image (f.sites e.site) e) where
  abbrev p : Processor
  p = f.processors e.cpu

  abbrev now : Processor
  now = p_next f.image p e

  site : e.site ≡ site_by f.image p p.todo e.act
  site = sym (ap (λ (g : FineStep). g.site) may.may.makes)

  said : e.act ≡ says f.image p p.todo e.act e.moved
  said = sym (ap (λ (g : FineStep). g.act) may.may.makes)

  said-at : (todo : Todos) → p.todo ≡ todo → e.act ≡ says f.image p todo e.act e.moved
  said-at todo at = said ∙ ap (λ z. says f.image p z e.act e.moved) at

  site-at : (todo : Todos) → p.todo ≡ todo → e.site ≡ site_by f.image p todo e.act
  site-at todo at = site ∙ ap (λ z. site_by f.image p z e.act) at

  moved-at : (todo : Todos) → p.todo ≡ todo → e.moved ≡ moves f.image p todo e.act e.moved
  moved-at todo at = sym (ap (λ (g : FineStep). g.moved) may.may.makes) ∙ ap (λ z. moves f.image p z e.act e.moved) at

  frame : (q : Todo) (todo : Todos) → p.todo ≡ q ∷ todo → Behind f.image q todo
  frame q todo at = (subst (AreFramed f.image) at (rel.processors e.cpu may.named).frames).0

  fitted : (q : Todo) (todo : Todos) → p.todo ≡ q ∷ todo → Fits f.image p.context (q ∷ todo)
  fitted q todo at = subst (Fits f.image p.context) at (rel.processors e.cpu may.named).list.fits

  -- nothing stands behind a read of a word at the begin of a turn
  rests : (q : Todo) (todo : Todos) → p.todo ≡ q ∷ todo → ReadsLast e q todo
  rests (Todo.show q rest) todo at = λ read. (fitted (Todo.show q rest) todo at).1 ∙ read-rests f.image p p.context q e.act (said-at (Todo.show q rest ∷ todo) at) read
  rests q todo at = tt

  -- this processor makes its step, and the others stay
  this-now : (k : ℕ) → (e.cpu == k) ≡ true → (later f e).processors k ≡ now
  this-now k on =
      ap (λ b. cond b (p_next f.image (f.processors k) e) (f.processors k)) on ∙ ap (λ j. p_next f.image (f.processors j) e) (sym (eqb-true e.cpu k on))

  other-stays : (k : ℕ) → (e.cpu == k) ≡ false → (later f e).processors k ≡ f.processors k
  other-stays k off = ap (λ b. cond b (p_next f.image (f.processors k) e) (f.processors k)) off

  ended-last : (test : Todo → Bool) (q : Todo) (todo : Todos) → Behind f.image q todo → list_any test todo ≡ true → is_end q ≡ false
  ended-last test Todo.park todo behind h = absurd (false≢true (sym (ap (list_any test) behind) ∙ h))
  ended-last test Todo.done todo behind h = absurd (false≢true (sym (ap (list_any test) behind) ∙ h))
  ended-last test Todo.paid todo behind h = absurd (false≢true (sym (ap (list_any test) behind) ∙ h))
  ended-last test q todo behind h = refl

  -- Rouses.

  abbrev Rouses : Bool → Todos → ℕ → Type 0
  Rouses before todo got = one_if (may_rouse (later f e) now) + got ≤ one_if (before && is_awake (word f p.context.thread))

  none-now : (before : Bool) → IsNone now.todo → one_if (may_rouse (later f e) now) ≡ 0
  none-now before none = ap (λ b. one_if (b && is_awake (word (later f e) now.context.thread))) none

  still-awake : is_waking e.act ≡ false → now.context.thread ≡ p.context.thread → may_rouse (later f e) now ≡ true → is_awake (word f p.context.thread) ≡ true
  still-awake calm same on =
      let awake = (and_parts (list_any is_reread_asleep now.todo) (is_awake (word (later f e) now.context.thread)) on).1 in
      flag-less f m rel e is_awake (λ w. awake-less w e.act calm) p.context.thread (subst (λ t. is_awake (word (later f e) t) ≡ true) same awake)

  got-none : (q : Todo) (todo : Todos) → Behind f.image q todo → list_any is_reread_asleep todo ≡ true → got_rouses (q ∷ todo) e ≡ 0
  got-none Todo.reread_asleep todo behind there = absurd (false≢true (sym (ap (list_any is_reread_asleep) behind) ∙ there))
  got-none q todo behind there = refl

  -- it was on the list, behind the first step
  rouse-behind : (q : Todo) (todo : Todos) → p.todo ≡ q ∷ todo → is_waking e.act ≡ false → list_any is_reread_asleep todo ≡ true → Rouses (list_any is_reread_asleep (q ∷ todo)) todo (got_rouses (q ∷ todo) e)
  rouse-behind q todo at calm there =
      let goes = ended-last is_reread_asleep q todo (frame q todo at) there in
      let less = one-less (may_rouse (later f e) now) (is_awake (word f p.context.thread)) (still-awake calm (next-thread f.image p e q todo at goes)) in
      let none = got-none q todo (frame q todo at) there in
      let before : one_if (list_any is_reread_asleep (q ∷ todo) && is_awake (word f p.context.thread)) ≡ one_if (is_awake (word f p.context.thread))
      = ap (λ b. one_if ((is_reread_asleep q || b) && is_awake (word f p.context.thread))) there ∙ ap (λ b. one_if (b && is_awake (word f p.context.thread))) (or-true (is_reread_asleep q)) in
      omega (arith, less, none, before)

  -- The word of the thread is read.

  word-now : (t : ℕ) → e.site ≡ Site.thread t → word (later f e) t ≡ thread_in e.word
  word-now t at =
      ap (λ i. thread_state (cond (same_site i (Site.thread t)) (s_next f.image (f.sites (Site.thread t)) e) (f.sites (Site.thread t)))) at
      ∙ (ap (λ b. thread_state (cond b (s_next f.image (f.sites (Site.thread t)) e) (f.sites (Site.thread t)))) (same-itself (Site.thread t))
      ∙ (ap (λ i. thread_in (word_of (s_next f.image (f.sites i) e))) (sym at) ∙ sym (ap thread_in (word-left f m rel e taken))))

  read-site : (r : Pending) → e.act ≡ says_show f.image p r e.act → is_word_read e.act ≡ true → site_of_step f.image p r ≡ Site.thread p.context.thread
  read-site Pending.Begin saying read = refl
  read-site Pending.Exit saying read = refl
  read-site r saying read = absurd (true≢false (sym read ∙ ap is_word_read saying))

  read-fits : (r : Pending) → e.act ≡ says_show f.image p r e.act → is_word_read e.act ≡ true → fits_show f.image p r e ≡ true → stops_rightly f.image p e ≡ true
  read-fits Pending.Begin saying read h = h
  read-fits Pending.Exit saying read h = h
  read-fits r saying read h = absurd (true≢false (sym read ∙ ap is_word_read saying))

  -- it shows the thread suspended and not aborted, where it isn't doomed
  record IsRead : Type 0 where
    here : e.site ≡ Site.thread p.context.thread
    sleepy : (thread_in e.word).suspended ≡ true
    still : is_awake (thread_in e.word) ≡ false

  not-false : (b : Bool) → not b ≡ true → b ≡ false
  not-false true h = sym h
  not-false false h = refl

  was-read : (r : Pending) (rest : Steps) (todo : Todos) → p.todo ≡ Todo.show r rest ∷ todo → is_word_read e.act ≡ true → (thread_in e.word).doomed ≡ false → IsRead
  was-read r rest todo at read lives =
      let w = thread_in e.word in
      let saying = said-at (Todo.show r rest ∷ todo) at in
      let fit : fits f.image p (Todo.show r rest ∷ todo) e ≡ true = subst (λ z. fits f.image p z e ≡ true) at may.may.fit in
      let first = and_parts (fits_show f.image p r e && has_room f.image p r) _ fit in
      let shows = (and_parts (fits_show f.image p r e) (has_room f.image p r) first.0).0 in
      let rightly : (if true then w.doomed || (w.suspended && not w.aborted) else (not (is_killed e.act) || not w.doomed)) ≡ true
      = subst (λ b. (if b then w.doomed || (w.suspended && not w.aborted) else (not (is_killed e.act) || not w.doomed)) ≡ true) read (read-fits r saying read shows) in
      let stops : (w.suspended && not w.aborted) ≡ true = subst (λ b. (b || (w.suspended && not w.aborted)) ≡ true) lives rightly in
      let parts = and_parts w.suspended (not w.aborted) stops in
      record {
        here = site-at (Todo.show r rest ∷ todo) at ∙ read-site r saying read;
        sleepy = parts.0;
        still = λ i. not-false w.aborted parts.1 i || not (parts.0 i);
      }

  -- Rouses, where the word of nobody who was put to sleep stood behind the first step.

  ends-other : (q : Todo) → is_shown q ≡ false → EndsWell IsNone e q
  ends-other (Todo.show r rest) h = absurd (true≢false h)
  ends-other Todo.park h = refl
  ends-other Todo.done h = refl
  ends-other Todo.paid h = refl
  ends-other (Todo.rouse who) h = λ found todo none. none
  ends-other q h = tt

  -- a read of the own word, which leaves it
  read-less : (test : ThreadWord → Bool) → ((w : ThreadWord) → test (counted_thread (thread_after w e.act)) ≡ true → test w ≡ true) → (t : ℕ) → e.site ≡ Site.thread t → test (thread_in e.word) ≡ true → test (word f t) ≡ true
  read-less test less t at on = flag-less f m rel e test less t (ap test (word-now t at) ∙ on)

  rouse-shown : (r : Pending) (rest : Steps) (todo : Todos) → p.todo ≡ Todo.show r rest ∷ todo → IsNone todo → one_if (may_rouse (later f e) now) ≡ 0
  rouse-shown r rest todo at none = by (is_word_read e.act) refl (thread_in e.word).doomed refl
    where
      now-none : (is_word_read e.act ≡ true → IsNone (put_away (thread_in e.word).doomed)) → one_if (may_rouse (later f e) now) ≡ 0
      now-none last = none-now false (next-none f.image p e (Todo.show r rest) todo at (frame (Todo.show r rest) todo at) last none)

      by : (read : Bool) → is_word_read e.act ≡ read → (doomed : Bool) → (thread_in e.word).doomed ≡ doomed → one_if (may_rouse (later f e) now) ≡ 0
      by false k doomed d = now-none (λ read. absurd (true≢false (sym read ∙ k)))
      by true k true d = now-none (λ read. ap (λ b. list_any is_reread_asleep (put_away b)) d)
      by true k false d =
          let is = was-read r rest todo at k d in
          let same = next-thread f.image p e (Todo.show r rest) todo at refl in
          let asleep : is_awake (word (later f e) now.context.thread) ≡ false = ap (λ t. is_awake (word (later f e) t)) same ∙ (ap is_awake (word-now p.context.thread is.here) ∙ is.still) in
          ap (λ b. one_if (list_any is_reread_asleep now.todo && b)) asleep ∙ ap one_if (and-false (list_any is_reread_asleep now.todo))

  rouse-new : (q : Todo) (todo : Todos) → p.todo ≡ q ∷ todo → is_waking e.act ≡ false → IsNone todo → Rouses (list_any is_reread_asleep (q ∷ todo)) todo (got_rouses (q ∷ todo) e)
  rouse-new (Todo.show r rest) todo at calm none = let no = rouse-shown r rest todo at none in omega (arith, no)
  rouse-new Todo.reread_asleep todo at calm none =
      let no = none-now true (next-none f.image p e Todo.reread_asleep todo at (frame Todo.reread_asleep todo at) tt none) in
      let less = one-less (is_awake (thread_in e.word)) (is_awake (word f p.context.thread)) (read-less is_awake (λ w. awake-less w e.act calm) p.context.thread (site-at (Todo.reread_asleep ∷ todo) at)) in
      omega (arith, no, less)
  rouse-new q todo at calm none = let no = none-now false (next-none f.image p e q todo at (frame q todo at) (ends-other q refl) none) in omega (arith, no)

  -- of this processor
  rouse-here : (todo : Todos) → p.todo ≡ todo → is_waking e.act ≡ false → Rouses (list_any is_reread_asleep todo) todo (got_rouses todo e)
  rouse-here [] at calm = let no = none-now false (idle-none f.image p e at) in omega (arith, no)
  rouse-here (q ∷ todo) at calm = by (list_any is_reread_asleep todo) refl
    where
      by : (b : Bool) → list_any is_reread_asleep todo ≡ b → Rouses (list_any is_reread_asleep (q ∷ todo)) todo (got_rouses (q ∷ todo) e)
      by true there = rouse-behind q todo at calm there
      by false none = rouse-new q todo at calm none

  got-waking : (todo : Todos) → p.todo ≡ todo → is_waking e.act ≡ true → got_rouses todo e ≡ 0
  got-waking (Todo.reread_asleep ∷ todo) at wakes = absurd (false≢true (sym (ap is_waking (said-at (Todo.reread_asleep ∷ todo) at)) ∙ wakes))
  got-waking [] at wakes = refl
  got-waking (q ∷ todo) at wakes = refl

  rouse-else : is_waking e.act ≡ false → (k : ℕ) → (k ≡ e.cpu → ⊥) → one_if (may_rouse (later f e) ((later f e).processors k)) ≤ one_if (may_rouse f (f.processors k))
  rouse-else calm k apart =
      let other = other-stays k (ne_eqb e.cpu k (λ same. apart (sym same))) in
      let q = f.processors k in
      let less = one-less (may_rouse (later f e) q) (may_rouse f q)
      (λ on.
      let parts = and_parts (list_any is_reread_asleep q.todo) (is_awake (word (later f e) q.context.thread)) on in
      and_from (list_any is_reread_asleep q.todo) (is_awake (word f q.context.thread)) parts.0 (flag-less f m rel e is_awake (λ w. awake-less w e.act calm) q.context.thread parts.1)) in
      let same : one_if (may_rouse (later f e) ((later f e).processors k)) ≡ one_if (may_rouse (later f e) q) = ap (λ (z : Processor). one_if (may_rouse (later f e) z)) other in
      omega (arith, less, same)

  rouses-fall : f.cpus ≤ MOST_CPUS → rouses_left (later f e) + got_rouses p.todo e ≤ rouses_left f + paid_rouses e.act
  unfolding rouses_left
  rouses-fall few = by (is_waking e.act) refl
    where
      by : (b : Bool) → is_waking e.act ≡ b → rouses_left (later f e) + got_rouses p.todo e ≤ rouses_left f + (if b then MOST_CPUS else 0)
      by true wakes =
          let most = total-most (λ k. may_rouse (later f e) ((later f e).processors k)) f.cpus in
          let none = got-waking p.todo refl wakes in omega (arith, most, none, few)
      by false calm =
          let now-here : one_if (may_rouse (later f e) ((later f e).processors e.cpu)) ≡ one_if (may_rouse (later f e) now)
          = ap (λ (z : Processor). one_if (may_rouse (later f e) z)) (this-now e.cpu (eq-eqb e.cpu e.cpu refl)) in
          let here = rouse-here p.todo refl calm in
          let all = total-but (λ k. one_if (may_rouse (later f e) ((later f e).processors k))) (λ k. one_if (may_rouse f (f.processors k))) e.cpu (got_rouses p.todo e) 0 (omega (arith, now-here, here)) f.cpus may.named
          (λ k l apart. rouse-else calm k apart) in omega (arith, all)

  -- Sleeps.

  -- a processor that was about to put this thread to sleep still is, or has done so
  sleep-stays : (t : ℕ) → t < THREADS → puts_to_sleep t p ≡ true → puts_to_sleep t now ≡ false → is_some (asleep_at (joins (later f e)) t) ≡ true
  sleep-stays t few puts off = by p.todo refl
    where
      parts : (list_any is_sleep p.todo ≡ true) × ((p.context.thread == t) ≡ true)
      parts = and_parts (list_any is_sleep p.todo) (p.context.thread == t) puts

      behind : (q : Todo) (todo : Todos) → p.todo ≡ q ∷ todo → list_any is_sleep todo ≡ true → is_some (asleep_at (joins (later f e)) t) ≡ true
      behind q todo at there =
          let goes = ended-last is_sleep q todo (frame q todo at) there in
          let still = next-there f.image is_sleep refl p e q todo at (frame q todo at) (rests q todo at) there in
          let same = next-thread f.image p e q todo at goes in
          absurd (true≢false (sym (and_from (list_any is_sleep now.todo) (now.context.thread == t) still (ap (λ n. n == t) same ∙ parts.1)) ∙ off))

      by : (todo : Todos) → p.todo ≡ todo → is_some (asleep_at (joins (later f e)) t) ≡ true
      by [] at = absurd (false≢true (sym (ap (list_any is_sleep) at) ∙ parts.0))
      by (Todo.sleep ∷ todo) at =
          let moved = moved-at (Todo.sleep ∷ todo) at in
          sleeper-put f m rel e (site-at (Todo.sleep ∷ todo) at) (said-at (Todo.sleep ∷ todo) at) t (ap (λ (x : Exchange). (context_in x).thread) moved ∙ eqb-true p.context.thread t parts.1) few
      by (q ∷ todo) at = behind q todo at (sym (ap (list_any is_sleep) at) ∙ parts.0)

  -- nobody was about to put it to sleep, where nobody is now and it doesn't sleep
  puts-none : (t : ℕ) → t < THREADS → over_processors (later f e) (λ q. one_if (puts_to_sleep t q)) ≡ 0 → is_some (asleep_at (joins (later f e)) t) ≡ false
      → over_processors f (λ q. one_if (puts_to_sleep t q)) ≡ 0
  puts-none t few none awake = total-none (λ k. one_if (puts_to_sleep t (f.processors k))) f.cpus (λ k l. by k l (e.cpu == k) refl (puts_to_sleep t (f.processors k)) refl)
    where
      there : (k : ℕ) → k < f.cpus → puts_to_sleep t ((later f e).processors k) ≡ false
      there k l = one-none (puts_to_sleep t ((later f e).processors k)) (let part = total-part (λ k. one_if (puts_to_sleep t ((later f e).processors k))) f.cpus k l in omega (arith, part, none))

      by : (k : ℕ) → k < f.cpus → (b : Bool) → (e.cpu == k) ≡ b → (c : Bool) → puts_to_sleep t (f.processors k) ≡ c → one_if (puts_to_sleep t (f.processors k)) ≡ 0
      by k l b on false off = ap one_if off
      by k l false on true puts = absurd (true≢false (sym puts ∙ (sym (ap (puts_to_sleep t) (other-stays k on)) ∙ there k l)))
      by k l true on true puts =
          let same = eqb-true e.cpu k on in
          let mine : puts_to_sleep t p ≡ true = ap (λ j. puts_to_sleep t (f.processors j)) same ∙ puts in
          let gone : puts_to_sleep t now ≡ false = sym (ap (puts_to_sleep t) (this-now k on)) ∙ there k l in
          absurd (true≢false (sym (sleep-stays t few mine gone) ∙ awake))

  -- a thread that may sleep after the step might before, but where it is suspended, or is roused
  sleep-less : (t : ℕ) → t < THREADS → ((word (later f e) t).suspended ≡ true → (word f t).suspended ≡ true) → rouses_one t e.act ≡ false → one_if (may_sleep (later f e) t) ≤ one_if (may_sleep f t)
  sleep-less t few flag calm = one-less (may_sleep (later f e) t) (may_sleep f t) (λ on. still on)
    where
      still : may_sleep (later f e) t ≡ true → may_sleep f t ≡ true
      still on =
          let first = and_parts (word (later f e) t).suspended _ on in
          let rest = and_parts (not (is_some (asleep_at (joins (later f e)) t))) (over_processors (later f e) (λ q. one_if (puts_to_sleep t q)) == 0) first.1 in
          let awake = not-false (is_some (asleep_at (joins (later f e)) t)) rest.0 in
          let none = puts-none t few (eqb-true (over_processors (later f e) (λ q. one_if (puts_to_sleep t q))) 0 rest.1) awake in
          let before = sleeper-less f m rel e t calm awake in
          and_from (word f t).suspended (not (is_some (asleep_at (joins f) t)) && (over_processors f (λ q. one_if (puts_to_sleep t q)) == 0)) (flag first.0)
          (and_from (not (is_some (asleep_at (joins f) t))) (over_processors f (λ q. one_if (puts_to_sleep t q)) == 0) (ap not before) (eq-eqb (over_processors f (λ q. one_if (puts_to_sleep t q))) 0 none))

  -- One that is about to be put to sleep.

  not-over : (q : Pending) (rest : Steps) → IsOffered f.image p.context q rest → is_over p.context ≡ false
  not-over q rest (IsOffered.goes h) = ap (λ (z : Steps). p.context.ended && is_empty z) h ∙ and-false p.context.ended
  not-over q rest (IsOffered.passed h) = ap (λ (z : Steps). p.context.ended && is_empty z) h ∙ and-false p.context.ended
  not-over q rest (IsOffered.dropped h) = ap (λ (z : Steps). p.context.ended && is_empty z) h ∙ and-false p.context.ended
  not-over _ _ (IsOffered.begins none lives line) = ap (λ b. b && is_empty p.context.pending) lives
  not-over _ _ (IsOffered.exits none lives line) = ap (λ b. b && is_empty p.context.pending) lives

  runs-it : (r : Pending) (rest : Steps) (todo : Todos) → p.todo ≡ Todo.show r rest ∷ todo → todo ≡ [] → runs_on p.context.thread p ≡ true
  runs-it r rest todo at last =
      let list : p.todo ≡ Todo.show r rest ∷ [] = at ∙ ap (λ (z : Todos). Todo.show r rest ∷ z) last in
      λ i. (has_steps (list i) && not (times (list i)) && eq-eqb p.context.thread p.context.thread refl i) && not (not-over r rest (fitted (Todo.show r rest) todo at).0 i)

  -- who is about to put one to sleep runs it
  puts-runs : (t k : ℕ) → k < f.cpus → puts_to_sleep t (f.processors k) ≡ true → runs_on t (f.processors k) ≡ true
  puts-runs t k l puts =
      let q = f.processors k in
      let parts = and_parts (list_any is_sleep q.todo) (q.context.thread == t) puts in
      let lives = sleep-lives f.image q.context q.todo (rel.processors k l).list.fits parts.0 in
      let hand = sleep-runs f.image q.todo (rel.processors k l).frames parts.0 in
      let some = some-steps q.todo parts.0 in
      let over : is_over q.context ≡ false = ap (λ b. b && is_empty q.context.pending) lives in
      λ i. (some i && not (hand i) && parts.1 i) && not (over i)
    where
      some-steps : (todo : Todos) → list_any is_sleep todo ≡ true → has_steps todo ≡ true
      some-steps [] h = absurd (false≢true h)
      some-steps (q ∷ todo) h = refl

  module _ (r : Pending) (rest : Steps) (todo : Todos) (at : p.todo ≡ Todo.show r rest ∷ todo) (read : is_word_read e.act ≡ true) (lives : (thread_in e.word).doomed ≡ false) where
    abbrev mine : ℕ
    mine = p.context.thread

    last : todo ≡ []
    last = rests (Todo.show r rest) todo at read

    running : runs_on mine p ≡ true
    running = runs-it r rest todo at last

    is-one : 0 < one_if (runs_on mine p) + of_thread mine (adders p.todo)
    is-one = let one = ap one_if running in omega (arith, one)

    below : mine < THREADS
    below = (rel.contexts.running e.cpu may.named (and_parts (runs p) (mine == mine) (and_parts (runs p && (mine == mine)) (not (is_over p.context)) running).0).0).index

    puts-now : puts_to_sleep mine now ≡ true
    puts-now =
        let made = made-there f.image is_sleep refl p e (Todo.show r rest) todo at
        (ap (λ b. list_any is_sleep (if b then record p { todo = put_away (thread_in e.word).doomed } else after_show f.image p e (shown_step f.image r e.act) rest todo).todo) read
        ∙ ap (λ d. list_any is_sleep (put_away d)) lives) in
        and_from (list_any is_sleep now.todo) (now.context.thread == mine) made (eq-eqb now.context.thread mine (next-thread f.image p e (Todo.show r rest) todo at refl))

    -- it isn't one that may still be put to sleep
    after-none : one_if (may_sleep (later f e) mine) ≡ 0
    after-none = by (may_sleep (later f e) mine) refl
      where
        by : (b : Bool) → may_sleep (later f e) mine ≡ b → one_if b ≡ 0
        by false off = refl
        by true on =
            let none = eqb-true (over_processors (later f e) (λ q. one_if (puts_to_sleep mine q))) 0 (and_parts (not (is_some (asleep_at (joins (later f e)) mine))) (over_processors (later f e) (λ q. one_if (puts_to_sleep mine q)) == 0) (and_parts (word (later f e) mine).suspended _ on).1).1 in
            let part = total-part (λ k. one_if (puts_to_sleep mine ((later f e).processors k))) f.cpus e.cpu may.named in
            let here : one_if (puts_to_sleep mine ((later f e).processors e.cpu)) ≡ 1
            = ap (λ (q : Processor). one_if (puts_to_sleep mine q)) (this-now e.cpu (eq-eqb e.cpu e.cpu refl)) ∙ ap one_if puts-now in
            absurd (omega (arith, none, part, here))

    -- and was one
    none-puts : (k : ℕ) → k < f.cpus → one_if (puts_to_sleep mine (f.processors k)) ≡ 0
    none-puts k l = by (puts_to_sleep mine (f.processors k)) refl (k == e.cpu) refl
      where
        by : (b : Bool) → puts_to_sleep mine (f.processors k) ≡ b → (c : Bool) → (k == e.cpu) ≡ c → one_if b ≡ 0
        by false off c own = refl
        by true on true own =
            let there : list_any is_sleep p.todo ≡ true = subst (λ j. list_any is_sleep (f.processors j).todo ≡ true) (eqb-true k e.cpu own) (and_parts (list_any is_sleep (f.processors k).todo) _ on).0 in
            absurd (false≢true (sym (ap (list_any is_sleep) (at ∙ ap (λ (z : Todos). Todo.show r rest ∷ z) last)) ∙ there))
        by true on false own =
            let other = ap one_if (puts-runs mine k l on) in
            absurd (lies-once f m rel mine below e.cpu k may.named l (λ same. eqb-false k e.cpu own (sym same)) is-one (omega (arith, other)))

    before-one : may_sleep f mine ≡ true
    before-one =
        let is = was-read r rest todo at read lives in
        let act = read-act e.act read in
        let sleepy = read-less suspended (λ w. suspended-less w e.act (ap is_suspending act)) mine is.here is.sleepy in
        let awake = lies-unslept f m rel mine below e.cpu may.named is-one in
        let none = total-none (λ k. one_if (puts_to_sleep mine (f.processors k))) f.cpus none-puts in
        and_from (word f mine).suspended (not (is_some (asleep_at (joins f) mine)) && (over_processors f (λ q. one_if (puts_to_sleep mine q)) == 0)) sleepy
        (and_from (not (is_some (asleep_at (joins f) mine))) (over_processors f (λ q. one_if (puts_to_sleep mine q)) == 0) (ap not awake) (eq-eqb (over_processors f (λ q. one_if (puts_to_sleep mine q))) 0 none))

    read-falls : sleeps_left (later f e) + 1 ≤ sleeps_left f
    unfolding sleeps_left
    read-falls =
        let act = read-act e.act read in
        let before = ap one_if before-one in
        let after = after-none in
        let all = total-but (λ t. one_if (may_sleep (later f e) t)) (λ t. one_if (may_sleep f t)) mine 1 0 (omega (arith, before, after)) THREADS below
        (λ t few apart. sleep-less t few (flag-less f m rel e suspended (λ w. suspended-less w e.act (ap is_suspending act)) t) (ap (rouses_one t) act)) in omega (arith, all)

  -- where nobody is suspended and nobody is roused
  sleeps-quiet : is_suspending e.act ≡ false → ((t : ℕ) → rouses_one t e.act ≡ false) → sleeps_left (later f e) ≤ sleeps_left f
  unfolding sleeps_left
  sleeps-quiet calm still =
      total-less (λ t. one_if (may_sleep (later f e) t)) (λ t. one_if (may_sleep f t)) THREADS
      (λ t few. sleep-less t few (flag-less f m rel e suspended (λ w. suspended-less w e.act calm) t) (still t))

  sleeps-got : is_suspending e.act ≡ false → ((t : ℕ) → rouses_one t e.act ≡ false) → (todo : Todos) → p.todo ≡ todo → sleeps_left (later f e) + got_sleeps todo e ≤ sleeps_left f
  sleeps-got calm still (Todo.show r rest ∷ todo) at = by (is_word_read e.act) refl (thread_in e.word).doomed refl
    where
      by : (read : Bool) → is_word_read e.act ≡ read → (doomed : Bool) → (thread_in e.word).doomed ≡ doomed → sleeps_left (later f e) + one_if (read && not doomed) ≤ sleeps_left f
      by true k false d = read-falls r rest todo at k d
      by true k true d = let less = sleeps-quiet calm still in omega (arith, less)
      by false k doomed d = let less = sleeps-quiet calm still in omega (arith, less)
  sleeps-got calm still [] at = let less = sleeps-quiet calm still in omega (arith, less)
  sleeps-got calm still (q ∷ todo) at = let less = sleeps-quiet calm still in omega (arith, less)

  -- one may be suspended, or roused
  sleeps-more : (c : ℕ) → ((t : ℕ) → (t ≡ c → ⊥) → (word (later f e) t).suspended ≡ true → (word f t).suspended ≡ true) → ((t : ℕ) → (t ≡ c → ⊥) → rouses_one t e.act ≡ false)
      → sleeps_left (later f e) ≤ sleeps_left f + 1
  unfolding sleeps_left
  sleeps-more c flag still =
      let most = one-most (may_sleep (later f e) c) in
      total-more (λ t. one_if (may_sleep (later f e) t)) (λ t. one_if (may_sleep f t)) c (omega (arith, most)) THREADS (λ t few apart. sleep-less t few (flag t apart) (still t apart))

  none-read : (todo : Todos) → is_word_read e.act ≡ false → got_sleeps todo e ≡ 0
  none-read (Todo.show r rest ∷ todo) off = ap (λ b. one_if (b && not (thread_in e.word).doomed)) off
  none-read [] off = refl
  none-read (q ∷ todo) off = refl

  shown-falls : (event : Event) (more : More) → e.act ≡ FineAct.Shown event more → (b : Bool) → suspends_by_act event.act ≡ b → sleeps_left (later f e) + got_sleeps p.todo e ≤ sleeps_left f + one_if b
  shown-falls event more said true k =
      let grows = sleeps-more (index_of e.site) (λ t apart on. sym (ap suspended (word-other f m rel e t (other-site e.site t apart))) ∙ on) (λ t apart. ap (rouses_one t) said) in
      let none = none-read p.todo (ap is_word_read said) in omega (arith, grows, none)
  shown-falls event more said false k = let less = sleeps-got (ap is_suspending said ∙ k) (λ t. ap (rouses_one t) said) p.todo refl in omega (arith, less)

  sleeps-fall : sleeps_left (later f e) + got_sleeps p.todo e ≤ sleeps_left f + paid_sleeps e.act
  sleeps-fall = by e.act refl
    where
      by : (act : FineAct) → e.act ≡ act → sleeps_left (later f e) + got_sleeps p.todo e ≤ sleeps_left f + paid_sleeps act
      by (FineAct.Unseen (Unseen.Rouse who)) said =
          let more = sleeps-more who.0 (λ t apart. flag-less f m rel e suspended (λ w. suspended-less w e.act (ap is_suspending said)) t)
          (λ t apart. ap (rouses_one t) said ∙ ne_eqb who.0 t (λ same. apart (sym same))) in
          let none = none-read p.todo (ap is_word_read said) in omega (arith, more, none)
      by (FineAct.Unseen unseen) said = let less = sleeps-got (ap is_suspending said) (λ t. ap (rouses_one t) said) p.todo refl in omega (arith, less)
      by (FineAct.Shown event more) said = shown-falls event more said (suspends_by_act event.act) refl

  pub whole-falls : f.cpus ≤ MOST_CPUS → whole_cost (later f e) + got_by p.todo e ≤ whole_cost f + paid_by e.act
  whole-falls few =
      let sleeps = sleeps-fall in
      let rouses = rouses-fall few in
      let paid = paid-parts e.act in
      let got = got-parts p.todo e in omega (arith, sleeps, rouses, paid, got)
