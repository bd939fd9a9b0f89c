-- Threads at the opening: each is none or that of a boot entry. So what they are told, their own parts, those that lie nowhere and what
-- is due are as the relation says.
use Rattle.um_refinement.proofs.Words.{MemoryIs, WordIs, as_thread, ◌≡◌, ◌≢◌, inl, ℕ, zero, suc, ◌+◌, ◌<◌, ◌≤◌, Bool, true, false, List, [], ◌∷◌, length, replicate, Option, Some, None, refl, sym, ap, ◌∙◌, subst, arith, is_some, slice_index_or, slice_set, unwrap_or, false≢true, true≢false, Told, Boot, Image, ROWS, THREADS, Row, thread_of_row, Life, Thread, with_bytes, blank, boot_thread, booted, booted_one, index_or, loaded, opening, State, is_living, is_started, no_rows, nobody, thread_at, with_pair, with_thread, Context, parked_at, told_at, one_if, scheduler, total, adders, counted, is_wake, of_thread, IsOf, is_ended, runs_on, told_by, bytes-leave, Partition, granted, context_of, indexed, parked_if, AwayIs, ContextsAre, SchedulerIs, ToldIs, DuesAre}
use Rattle.um_fine.specs.Joins.{asleep_at}
use Rattle.um_fine.specs.Scheduler.{is_cut}
use Rattle.um_refinement.specs.Fine.{joins}
use Rattle.um_refinement.specs.Lists.{is_cut_told}
use Rattle.um_refinement.specs.Threads.{as_cut, cutters}
use Rattle.um_refinement.proofs.First.{first, none-some}
use Rattle.um_refinement.proofs.HeldRows.{none-flagged}

-- What each thread of a list is.

set-is : (P : Thread → Type 0) (xs : List Thread) (v u : ℕ) (th : Thread) → P th → P (slice_index_or xs u nobody) → P (slice_index_or (slice_set xs v th) u nobody)
set-is P [] v u th p q = q
set-is P (y ∷ ys) zero zero th p q = p
set-is P (y ∷ ys) zero (suc u) th p q = q
set-is P (y ∷ ys) (suc v) zero th p q = q
set-is P (y ∷ ys) (suc v) (suc u) th p q = set-is P ys v u th p q

pub nobodies : (P : Thread → Type 0) (n u : ℕ) → P nobody → P (slice_index_or (replicate n nobody) u nobody)
nobodies P zero u p = p
nobodies P (suc n) zero p = p
nobodies P (suc n) (suc u) p = nobodies P n u p

-- What is read of a state that no permission and no memory has a part in.

module _ {A : Type 0} (read : State → A) (paired : (s : State) (rows : List (List Bool)) → read (record s { pairs = rows }) ≡ read s) where
  pub granted-read : (t : ℕ) (rows : List Row) (s : State) → read (granted t rows s) ≡ read s
  granted-read t [] s = refl
  granted-read t (x ∷ rows) s = granted-read t rows (with_pair s t x.0 true) ∙ paired s _

  -- nor a thread
  pub booted-read : ((s : State) (threads : List Thread) → read (record s { threads = threads }) ≡ read s) → (boots : List Boot) (s : State) → read (booted boots s) ≡ read s
  booted-read threads [] s = refl
  booted-read threads (boot ∷ boots) s =
      let t = index_or (thread_of_row s.image boot.thread.0) in
      booted-read threads boots (booted_one boot s)
      ∙ (granted-read t (boot.thread ∷ boot.grants) (with_thread s t (boot_thread s.image boot)) ∙ threads s (slice_set s.threads t (boot_thread s.image boot)))

pub loaded-read : {A : Type 0} (read : State → A) → ((s : State) (bytes : List ℕ) → (read (record s { memory = bytes }) ≡ read s) × (read (record s { stacks = bytes }) ≡ read s))
    → (ps : List Partition) (s : State) → read (loaded ps s) ≡ read s
loaded-read read kept [] s = refl
loaded-read read kept (p ∷ ps) s =
    loaded-read read kept ps (with_bytes s p.range.start.0 p.bytes)
    ∙ bytes-leave read (λ z bytes. (kept z bytes).0) (λ z bytes. (kept z bytes).1) s p.range.start.0 p.bytes

pub granted-threads : (t : ℕ) (rows : List Row) (s : State) → (granted t rows s).threads ≡ s.threads
granted-threads t rows s = granted-read (λ z. z.threads) (λ z pairs. refl) t rows s

pub granted-image : (t : ℕ) (rows : List Row) (s : State) → (granted t rows s).image ≡ s.image
granted-image t rows s = granted-read (λ z. z.image) (λ z pairs. refl) t rows s

pub loaded-threads : (ps : List Partition) (s : State) → (loaded ps s).threads ≡ s.threads
loaded-threads ps s = loaded-read (λ z. z.threads) (λ z bytes. (refl, refl)) ps s

module _ (P : Thread → Type 0) (none : P nobody) (boots-are : (image : Image) (boot : Boot) → P (boot_thread image boot)) where
  booted-is : (boots : List Boot) (s : State) (u : ℕ) → P (thread_at s u) → P (thread_at (booted boots s) u)
  booted-is [] s u p = p
  booted-is (boot ∷ boots) s u p =
      let t = index_or (thread_of_row s.image boot.thread.0) in
      let th = boot_thread s.image boot in
      booted-is boots (booted_one boot s) u
      (subst (λ (xs : List Thread). P (slice_index_or xs u nobody)) (sym (granted-threads t (boot.thread ∷ boot.grants) (with_thread s t th)))
      (set-is P s.threads t u th (boots-are s.image boot) p))

  -- each thread at the opening is none, or that of a boot entry
  pub opening-is : (image : Image) (u : ℕ) → P (thread_at (opening image) u)
  unfolding blank
  opening-is image u =
      booted-is image.boots (loaded image.partitions (blank image)) u
      (subst (λ (xs : List Thread). P (slice_index_or xs u nobody)) (sym (loaded-threads image.partitions (blank image))) (nobodies P THREADS u none))

-- there are as many as thread indices
pub set-long : (xs : List Thread) (v : ℕ) (th : Thread) → length (slice_set xs v th) ≡ length xs
set-long [] v th = refl
set-long (y ∷ ys) zero th = refl
set-long (y ∷ ys) (suc v) th = ap suc (set-long ys v th)

booted-long : (boots : List Boot) (s : State) → length (booted boots s).threads ≡ length s.threads
booted-long [] s = refl
booted-long (boot ∷ boots) s =
    let t = index_or (thread_of_row s.image boot.thread.0) in
    let th = boot_thread s.image boot in
    booted-long boots (booted_one boot s) ∙ (ap length (granted-threads t (boot.thread ∷ boot.grants) (with_thread s t th)) ∙ set-long s.threads t th)

pub copies-long : {A : Type 0} (n : ℕ) (x : A) → length (replicate n x) ≡ n
copies-long zero x = refl
copies-long (suc n) x = ap suc (copies-long n x)

pub threads-long : (image : Image) → length (opening image).threads ≡ THREADS
unfolding blank
threads-long image =
    booted-long image.boots (loaded image.partitions (blank image))
    ∙ (ap length (loaded-threads image.partitions (blank image)) ∙ copies-long THREADS nobody)

abbrev untold : Option Told
untold = None

pub no-told : (n t : ℕ) → slice_index_or (replicate n untold) t None ≡ None
no-told zero t = refl
no-told (suc n) zero = refl
no-told (suc n) (suc t) = no-told n t

abbrev pub unslept : Option Context
unslept = None

pub no-sleeper : (n t : ℕ) → slice_index_or (replicate n unslept) t None ≡ None
no-sleeper zero t = refl
no-sleeper (suc n) zero = refl
no-sleeper (suc n) (suc t) = no-sleeper n t

-- what an indexed list has
indexed-parked : (i : ℕ) (xs : List Thread) (t : ℕ) (c : Context) → slice_index_or (indexed (λ n (me : Thread). parked_if (is_living me.life) (context_of n me)) i xs) t None ≡ Some c
    → (is_living (slice_index_or xs t nobody).life ≡ true) × (c ≡ context_of (i + t) (slice_index_or xs t nobody)) × (t < length xs)
indexed-parked i [] t c h = absurd (false≢true (ap is_some h))
indexed-parked i (x ∷ xs) zero c h = by (is_living x.life) refl h
  where
    by : (b : Bool) → is_living x.life ≡ b → parked_if b (context_of i x) ≡ Some c → (is_living x.life ≡ true) × (c ≡ context_of (i + 0) x) × (0 < suc (length xs))
    by true e q =
        let at : i ≡ i + 0 = omega arith in
        (e, sym (ap (λ o. unwrap_or o c) q) ∙ ap (λ n. context_of n x) at, omega arith)
    by false e q = absurd (false≢true (ap is_some q))
indexed-parked i (x ∷ xs) (suc t) c h =
    let r = indexed-parked (i + 1) xs t c h in
    let at : i + 1 + t ≡ i + suc t = omega arith in
    let l = r.2 in
    (r.0, r.1 ∙ ap (λ n. context_of n (slice_index_or xs t nobody)) at, omega (arith, l))

pub living-parked : (i : ℕ) (xs : List Thread) (t : ℕ) → is_some (slice_index_or (indexed (λ n (me : Thread). parked_if (is_living me.life) (context_of n me)) i xs) t None) ≡ false
    → is_living (slice_index_or xs t nobody).life ≡ false
living-parked i [] t h = refl
living-parked i (x ∷ xs) zero h = by (is_living x.life) refl h
  where
    by : (b : Bool) → is_living x.life ≡ b → is_some (parked_if b (context_of i x)) ≡ false → is_living x.life ≡ false
    by true e q = absurd (true≢false q)
    by false e q = e
living-parked i (x ∷ xs) (suc t) h = living-parked (i + 1) xs t h

-- What is so of each thread at the opening.
pub record IsNew (me : Thread) : Type 0 where
  pub told : me.told ≡ None
  pub due : length me.due ≡ ROWS
  pub checked : me.checked ≡ no_rows
  pub child : me.child ≡ None
  pub rests : me.pending ≡ []
  pub aborted : me.aborted ≡ false
  pub suspended : me.suspended ≡ false

pub new-thread : (image : Image) (u : ℕ) → IsNew (thread_at (opening image) u)
new-thread image u =
    opening-is IsNew (record { told = refl; due = copies-long ROWS false; checked = refl; child = refl; rests = refl; aborted = refl; suspended = refl })
    (λ i boot. record { told = refl; due = copies-long ROWS false; checked = refl; child = refl; rests = refl; aborted = refl; suspended = refl }) image u

pub one-most : (b : Bool) → one_if b ≤ 1
one-most true = omega arith
one-most false = omega arith

module _ (image : Image) (cpus : ℕ) where
  told-nobody : (t n : ℕ) → told_by (first image cpus) t n ≡ None
  told-nobody t zero = no-told THREADS t
  told-nobody t (suc n) = told-nobody t n

  no-wakes : (t n : ℕ) → total (λ k. counted (is_wake t) ((first image cpus).processors k).todo) n ≡ 0
  no-wakes t zero = refl
  no-wakes t (suc n) = let h = no-wakes t n in omega (arith, h)

  pub told-first : (t : ℕ) → ToldIs (first image cpus) (opening image) t
  told-first t =
      record {
        told = (new-thread image t).told ∙ sym (told-nobody t cpus);
        once =
            let none = no-wakes t cpus in
            let most = one-most (is_some (told_at (scheduler (first image cpus)) t)) in
            omega (arith, none, most);
      }

  pub few-first : (k : ℕ) → length (thread_at (opening image) ((first image cpus).processors k).context.thread).due ≤ ROWS
  few-first k = let n = (new-thread image 0).due in omega (arith, n)

  pub dues-first : (k : ℕ) → DuesAre (first image cpus) (opening image) k
  dues-first k = record { passes = λ h. absurd (false≢true h); drops = λ from rest h. absurd (false≢true h); few = few-first k }

  pub words-first : (t : ℕ) → WordIs (first image cpus) (opening image) t
  words-first t =
      let new = new-thread image t in
      record { life = refl; doomed = refl; mode = refl; domain = refl; aborted = sym new.aborted; suspended = sym new.suspended }

  -- nobody was cut
  no-cuts : (t n : ℕ) → total (λ k. counted (is_cut_told t) ((first image cpus).processors k).todo) n ≡ 0
  no-cuts t zero = refl
  no-cuts t (suc n) = let h = no-cuts t n in omega (arith, h)

  pub uncut-first : (t : ℕ) → cutters (first image cpus) t ≡ 0
  uncut-first t =
      let none = no-cuts t cpus in
      let not-there : one_if (is_cut (scheduler (first image cpus)) t) ≡ 0 = ap one_if (none-flagged THREADS t) in
      omega (arith, none, not-there)

  -- the own part of a boot thread
  part-first : (t : ℕ) (c : Context) → is_living (thread_at (opening image) t).life ≡ true → t < THREADS → c ≡ context_of t (thread_at (opening image) t)
      → IsOf (first image cpus) (opening image) c
  part-first t c living l e =
      subst (IsOf (first image cpus) (opening image)) (sym e)
      (record { index = l; own = ap (λ n. as_thread (as_cut n (context_of t (thread_at (opening image) t)))) (uncut-first t); waiting = λ some. let none = uncut-first t in absurd (omega (arith, some, none)); claims = (new-thread image t).checked; ended = ended (thread_at (opening image) t).life living; started = started (thread_at (opening image) t).life living; below = refl })
    where
      ended : (life : Life) → is_living life ≡ true → false ≡ is_ended life
      ended Life.Unborn h = refl
      ended Life.Living h = refl
      ended Life.Ended h = absurd (false≢true h)

      started : (life : Life) → is_living life ≡ true → is_started life ≡ true
      started Life.Unborn h = absurd (false≢true h)
      started Life.Living h = refl
      started Life.Ended h = refl

  pub parked-first : (t : ℕ) (c : Context) → parked_at (scheduler (first image cpus)) t ≡ Some c
      → (is_living (thread_at (opening image) t).life ≡ true) × (c ≡ context_of t (thread_at (opening image) t)) × (t < THREADS)
  parked-first t c h =
      let r = indexed-parked 0 (opening image).threads t c h in
      let at : 0 + t ≡ t = omega arith in
      let long = threads-long image in
      let l = r.2 in
      (r.0, r.1 ∙ ap (λ n. context_of n (thread_at (opening image) t)) at, omega (arith, l, long))

  nowhere-else : (t n : ℕ) → total (λ k. one_if (runs_on t ((first image cpus).processors k)) + of_thread t (adders ((first image cpus).processors k).todo)) n ≡ 0
  nowhere-else t zero = refl
  nowhere-else t (suc n) = let h = nowhere-else t n in omega (arith, h)

  pub contexts-first : ContextsAre (first image cpus) (opening image)
  contexts-first =
      record {
        running = λ k l h. absurd (false≢true h);
        parked = λ t c h.
            let r = parked-first t c h in
            (part-first t c r.0 r.2 r.1, ap (λ (z : Context). z.thread) r.1, ap (λ (z : Context). z.ended) r.1, inl (ap (λ (z : Context). z.pending) r.1 ∙ (new-thread image t).rests));
        added = λ k c l h. absurd h;
        asleep = λ t c h. absurd (none-some (sym (no-sleeper THREADS t) ∙ h));
        done = λ k l h awake. absurd (false≢true h);
        once = λ t l.
            let none = nowhere-else t cpus in
            let most = one-most (is_some (parked_at (scheduler (first image cpus)) t)) in
            let awake : one_if (is_some (asleep_at (joins (first image cpus)) t)) ≡ 0 = ap (λ o. one_if (is_some o)) (no-sleeper THREADS t) in
            omega (arith, none, most, awake);
      }

  pub away-first : (t : ℕ) → AwayIs (first image cpus) (opening image) t
  away-first t =
      record {
        away = λ none.
            (inl (not-living (thread_at (opening image) t).life (living-parked 0 (opening image).threads t (no-one (is_some (parked_at (scheduler (first image cpus)) t)) none))), (new-thread image t).rests);
      }
    where
      no-one : (b : Bool) → total (λ k. one_if (runs_on t ((first image cpus).processors k)) + of_thread t (adders ((first image cpus).processors k).todo)) cpus + one_if b + one_if (is_some (asleep_at (joins (first image cpus)) t)) ≡ 0 → b ≡ false
      no-one true h = absurd (omega (arith, h))
      no-one false h = refl

      not-living : (life : Life) → is_living life ≡ false → life ≢ Life.Living
      not-living life h e = true≢false (sym (ap is_living e) ∙ h)

pub indexed-long : {A B : Type 0} (g : ℕ → A → B) (i : ℕ) (xs : List A) → length (indexed g i xs) ≡ length xs
indexed-long g i [] = refl
indexed-long g i (x ∷ xs) = ap suc (indexed-long g (i + 1) xs)

pub scheduler-first : (image : Image) (cpus : ℕ) → SchedulerIs (first image cpus)
scheduler-first image cpus =
    record {
      parked = indexed-long (λ t (me : Thread). parked_if (is_living me.life) (context_of t me)) 0 (opening image).threads ∙ threads-long image;
      told = copies-long THREADS untold;
      cuts = copies-long THREADS false;
    }

-- nobody waits on a futex
pub memory-first : (image : Image) (cpus : ℕ) → MemoryIs (first image cpus) (opening image)
unfolding blank
memory-first image cpus =
    record {
      memory = refl;
      stacks = refl;
      futexes =
          sym (booted-read (λ z. z.futexes) (λ z pairs. refl) (λ z threads. refl) image.boots (loaded image.partitions (blank image))
          ∙ loaded-read (λ z. z.futexes) (λ z bytes. (refl, refl)) image.partitions (blank image));
    }
