-- The ready list at the opening: each thread of a boot entry stands in it once, where no two entries have one thread.
use Rattle.um_refinement.proofs.Words.{◌≡◌, ℕ, zero, suc, ◌+◌, ◌<◌, ◌≤◌, Bool, true, false, List, [], ◌∷◌, length, Option, Some, None, refl, sym, ap, ◌∙◌, subst, arith, ◌==◌, ◌||◌, not, if◌then◌else◌, is_some, slice_index_or, slice_set, eqb-false, eqb-true, Boot, Image, THREADS, thread_of_row, Thread, blank, boot_thread, booted, booted_one, index_or, loaded, opening, State, is_living, nobody, thread_at, with_thread, Context, parked_at, told_at, waits, one_if, scheduler, is_ready_there, occurs, or-false, ReadyIs, map}
use Rattle.um_fine.specs.Scheduler.{is_cut}
use Rattle.um_refinement.proofs.First.{first}
use Rattle.um_refinement.proofs.FirstObjects.{loaded-image, opening-image}
use Rattle.um_refinement.proofs.FirstThreads.{copies-long, granted-image, granted-threads, living-parked, loaded-threads, new-thread, nobodies, parked-first, set-long}
use Rattle.um_refinement.proofs.ThreadLists.{at-here, set-else}

abbrev pub positive : ℕ → Bool
positive zero = false
positive (suc n) = true

pub one-more : (n : ℕ) → positive (n + 1) ≡ true
one-more n = let e : n + 1 ≡ suc n = omega arith in ap positive e

or-true : (b : Bool) → (b || true) ≡ true
or-true true = refl
or-true false = refl

-- the thread of a boot entry
abbrev pub entry : Image → Boot → ℕ
entry image boot = index_or (thread_of_row image boot.thread.0)

pub threads-are : (image : Image) (boot : Boot) (s : State) → (booted_one boot s).threads ≡ slice_set s.threads (entry s.image boot) (boot_thread s.image boot)
threads-are image boot s = granted-threads (entry s.image boot) (boot.thread ∷ boot.grants) (with_thread s (entry s.image boot) (boot_thread s.image boot))

-- after these entries a thread lives that is of one of them, or lived before
booted-lives : (image : Image) (boots : List Boot) (s : State) (t : ℕ) → s.image ≡ image → t < length s.threads
    → is_living (thread_at (booted boots s) t).life ≡ (positive (occurs t (map (entry image) boots)) || is_living (thread_at s t).life)
booted-lives image [] s t at l = refl
booted-lives image (boot ∷ boots) s t at l =
    booted-lives image boots (booted_one boot s) t
    (granted-image (entry s.image boot) (boot.thread ∷ boot.grants) (with_thread s (entry s.image boot) (boot_thread s.image boot)) ∙ at)
    (subst (λ n. t < n) (sym (ap length (threads-are image boot s) ∙ set-long s.threads (entry s.image boot) (boot_thread s.image boot))) l)
    ∙ by (t == entry image boot) refl
  where
    here : (t ≡ entry s.image boot) → is_living (thread_at (booted_one boot s) t).life ≡ true
    here e =
        ap (λ (xs : List Thread). is_living (slice_index_or xs t nobody).life) (threads-are image boot s)
        ∙ (ap (λ n. is_living (slice_index_or (slice_set s.threads n (boot_thread s.image boot)) t nobody).life) (sym e)
        ∙ ap (λ (z : Thread). is_living z.life) (at-here s.threads t (boot_thread s.image boot) l))

    apart : (entry s.image boot ≡ t → ⊥) → is_living (thread_at (booted_one boot s) t).life ≡ is_living (thread_at s t).life
    apart ne =
        ap (λ (xs : List Thread). is_living (slice_index_or xs t nobody).life) (threads-are image boot s)
        ∙ ap (λ (z : Thread). is_living z.life) (set-else s.threads (entry s.image boot) t (boot_thread s.image boot) ne)

    by : (b : Bool) → (t == entry image boot) ≡ b
        → (positive (occurs t (map (entry image) boots)) || is_living (thread_at (booted_one boot s) t).life)
        ≡ (positive (if t == entry image boot then occurs t (map (entry image) boots) + 1 else occurs t (map (entry image) boots)) || is_living (thread_at s t).life)
    by true q =
        ap (λ b. positive (occurs t (map (entry image) boots)) || b) (here (eqb-true t (entry image boot) q ∙ ap (λ (i : Image). entry i boot) (sym at)))
        ∙ (or-true (positive (occurs t (map (entry image) boots)))
        ∙ sym (ap (λ c. positive (if c then occurs t (map (entry image) boots) + 1 else occurs t (map (entry image) boots)) || is_living (thread_at s t).life) q
        ∙ ap (λ b. b || is_living (thread_at s t).life) (one-more (occurs t (map (entry image) boots)))))
    by false q =
        ap (λ b. positive (occurs t (map (entry image) boots)) || b) (apart (λ e. eqb-false t (entry image boot) q (sym e ∙ ap (λ (i : Image). entry i boot) at)))
        ∙ sym (ap (λ c. positive (if c then occurs t (map (entry image) boots) + 1 else occurs t (map (entry image) boots)) || is_living (thread_at s t).life) q)

-- before any entry nobody lives
blank-dead : (image : Image) (t : ℕ) → is_living (thread_at (loaded image.partitions (blank image)) t).life ≡ false
unfolding blank
blank-dead image t =
    subst (λ (xs : List Thread). is_living (slice_index_or xs t nobody).life ≡ false) (sym (loaded-threads image.partitions (blank image)))
    (nobodies (λ me. is_living me.life ≡ false) THREADS t refl)

blank-long : (image : Image) → length (loaded image.partitions (blank image)).threads ≡ THREADS
unfolding blank
blank-long image = ap length (loaded-threads image.partitions (blank image)) ∙ copies-long THREADS nobody

pub blank-image : (image : Image) → (loaded image.partitions (blank image)).image ≡ image
unfolding blank
blank-image image = loaded-image image.partitions (blank image)

module _ (image : Image) (cpus : ℕ) where
  -- no two boot entries have one thread
  abbrev pub OneEach : Type 0
  OneEach = (t : ℕ) → occurs t (map (entry image) image.boots) ≤ 1

  pub living-first : (t : ℕ) → t < THREADS → is_living (thread_at (opening image) t).life ≡ positive (occurs t (map (entry image) image.boots))
  living-first t l =
      booted-lives image image.boots (loaded image.partitions (blank image)) t (blank-image image) (subst (λ n. t < n) (sym (blank-long image)) l)
      ∙ (ap (λ b. positive (occurs t (map (entry image) image.boots)) || b) (blank-dead image t) ∙ or-false (positive (occurs t (map (entry image) image.boots))))

  entries : map (entry (opening image).image) (opening image).image.boots ≡ map (entry image) image.boots
  entries = ap (λ (i : Image). map (entry i) i.boots) (opening-image image)

  at-most-one : (n : ℕ) → n ≤ 1 → n ≡ one_if (positive n)
  at-most-one zero l = refl
  at-most-one (suc zero) l = refl
  at-most-one (suc (suc n)) l = absurd (omega (arith, l))

  ready-there : (t : ℕ) → t < THREADS → is_living (thread_at (opening image) t).life
      ≡ is_ready_there (parked_at (scheduler (first image cpus)) t) (told_at (scheduler (first image cpus)) t) (is_cut (scheduler (first image cpus)) t)
  ready-there t l = by (parked_at (scheduler (first image cpus)) t) refl
    where
      by : (o : Option Context) → parked_at (scheduler (first image cpus)) t ≡ o
          → is_living (thread_at (opening image) t).life ≡ is_ready_there o (told_at (scheduler (first image cpus)) t) (is_cut (scheduler (first image cpus)) t)
      by None e = living-parked 0 (opening image).threads t (ap is_some e)
      by (Some c) e =
          let r = parked-first image cpus t c e in
          r.0
          ∙ sym (ap (λ w. not w || is_some (told_at (scheduler (first image cpus)) t) || is_cut (scheduler (first image cpus)) t) (ap (λ (z : Context). waits z.pending) r.1 ∙ ap waits (new-thread image t).rests))

  pub ready-first : OneEach → (t : ℕ) → t < THREADS → ReadyIs (first image cpus) t
  ready-first one t l =
      record {
        ready = ap (occurs t) entries
            ∙ (at-most-one (occurs t (map (entry image) image.boots)) (one t)
            ∙ (ap one_if (sym (living-first t l))
            ∙ (ap one_if (ready-there t l))));
      }
