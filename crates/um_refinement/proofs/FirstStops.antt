-- At the opening nobody is noted, cut, looked for or asleep, and no mark is there; who lives may be joined.
use Rattle.um_refinement.proofs.Words.{◌≡◌, ◌⊎◌, inl, inr, ℕ, zero, suc, ◌+◌, ◌<◌, ◌≤◌, Bool, true, false, List, [], ◌∷◌, length, None, refl, sym, ap, ◌∙◌, arith, IsTrue, ◌==◌, if◌then◌else◌, is_some, not, slice_index_or, false≢true, true≢false, THREADS, Image, Thread, Pending, Steps, State, object_at, thread_at, own_row, opening, Context, Todo, Todos, Fine}
use Rattle.um_machine.specs.State.{is_living, is_started}
use Rattle.um_fine.specs.Joins.{is_shut}
use Rattle.um_fine.specs.Opening.{indexed}
use Rattle.um_fine.specs.Processor.{first_boot}
use Rattle.um_fine.specs.Seeking.{stands_in}
use Rattle.um_base.specs.declared.limits.TheConstants.{FUTEX_CELL, JOIN_CELL}
use Rattle.um_refinement.specs.Fine.{bytes, joins, object}
use Rattle.um_refinement.specs.Stops.{HasOwn, keeps, CutComes, CutIs, JoinsAre, LiesAt, LookThere, LooksFit, NoteIs, NotesAre, ShutIs, SleepIs, asleep, parked, runs_it, waits_at}
use Rattle.um_refinement.specs.Threads.{cutters}
use Rattle.um_refinement.specs.Timing.{ClockIs, ExpiryComes, IsUnarmed, MarksAre, OwedIs, TimeoutComes, TimerIs}
use Rattle.um_refinement.proofs.First.{first, none-some, total-none}
use Rattle.um_refinement.proofs.FirstObjects.{opening-image}
use Rattle.um_refinement.proofs.FirstThreads.{copies-long, indexed-long, new-thread, no-sleeper, parked-first, threads-long, uncut-first, unslept}
use Rattle.um_refinement.proofs.FirstWaits.{is_running, opening-armed, opening-calm, opening-joins, opening-now, opening-waits}

no-kill : (steps : Steps) → steps ≡ [] → steps ≡ Pending.Killed ∷ [] → ⊥
no-kill steps h k = let n = ap length (sym h ∙ k) in absurd (omega (arith, n))

-- what an indexed list has at a place, or else beyond it
indexed-flag : (g : ℕ → Bool) (i : ℕ) (xs : List Thread) (t : ℕ)
    → (slice_index_or (indexed (λ n (me : Thread). g n) i xs) t true ≡ g (i + t)) ⊎ ((slice_index_or (indexed (λ n (me : Thread). g n) i xs) t true ≡ true) × (length xs ≤ t))
indexed-flag g i [] t = inr (refl, omega arith)
indexed-flag g i (x ∷ xs) zero = let at : i ≡ i + 0 = omega arith in inl (ap g at)
indexed-flag g i (x ∷ xs) (suc t) = by (indexed-flag g (i + 1) xs t)
  where
    by : (slice_index_or (indexed (λ n (me : Thread). g n) (i + 1) xs) t true ≡ g (i + 1 + t)) ⊎ ((slice_index_or (indexed (λ n (me : Thread). g n) (i + 1) xs) t true ≡ true) × (length xs ≤ t))
        → (slice_index_or (indexed (λ n (me : Thread). g n) (i + 1) xs) t true ≡ g (i + suc t)) ⊎ ((slice_index_or (indexed (λ n (me : Thread). g n) (i + 1) xs) t true ≡ true) × (suc (length xs) ≤ suc t))
    by (inl e) = let at : i + 1 + t ≡ i + suc t = omega arith in inl (e ∙ ap g at)
    by (inr r) = let l = r.1 in inr (r.0, omega (arith, l))

-- the object of each thread that lives is marked
abbrev pub OwnMarked : Image → Type 0
OwnMarked image = (t : ℕ) → t < THREADS → is_living (thread_at (opening image) t).life ≡ true → (object_at (opening image) (own_row image t)).init ≡ true

-- a thread whose own object is marked keeps it
abbrev pub OwnKept : Image → Type 0
OwnKept image = (t : ℕ) → t < THREADS → HasOwn image t → (object_at (opening image) (own_row image t)).init ≡ true → (thread_at (opening image) t).keeps_own ≡ true

-- the thread of the first boot entry was started
abbrev pub HasActor : Image → Type 0
HasActor image = 0 < length image.boots → IsTrue (is_started (thread_at (opening image) (first_boot image image.boots)).life)

module _ (image : Image) (cpus : ℕ) where
  abbrev f : Fine
  f = first image cpus

  abbrev m : State
  m = opening image

  none-waits : (t c : ℕ) → waits_at m t c ≡ true → ⊥
  none-waits t c h = false≢true (sym (ap (stands_in t) (opening-waits image c)) ∙ h)

  none-cut : (t : ℕ) → 0 < cutters f t → ⊥
  none-cut t some = let none = uncut-first image cpus t in omega (arith, some, none)

  unnoted : (t : ℕ) (c : Context) → LiesAt f t c → c.noted ≡ None
  unnoted t _ (runs_it k l runs on) = absurd (false≢true runs)
  unnoted t _ (parked c there) = ap (λ (z : Context). z.noted) (parked-first image cpus t c there).1
  unnoted t _ (asleep c there) = absurd (none-some (sym (no-sleeper THREADS t) ∙ there))

  pub note-first : (t : ℕ) → NoteIs f m t
  note-first t =
      record {
        there = λ c lies. sym (ap is_some (unnoted t c lies));
        number = λ c n lies h. absurd (none-some (sym (unnoted t c lies) ∙ h));
        cell = λ site h. absurd (none-some h);
        waits = λ c few h. absurd (none-waits t c h);
        kept = λ x c few h lies. absurd (none-waits t x h);
        call = λ site h. absurd (none-some h);
      }

  pub cut-first : (t : ℕ) → CutIs f m t
  cut-first t =
      record {
        once = let none = uncut-first image cpus t in omega (arith, none);
        left = λ some. absurd (none-cut t some);
        told = λ some. absurd (none-cut t some);
        aborted = λ h. absurd (no-kill (thread_at m t).pending (new-thread image t).rests h);
      }

  pub cut-comes-first : (t : ℕ) → CutComes f m t
  cut-comes-first t = record { comes = λ c few aborted h. absurd (none-waits t c h) }

  pub looks-fit-first : (t : ℕ) → LooksFit f t
  looks-fit-first t = record { made = λ k site before l h. absurd h; aborted = λ k site before n c l h lies noted less. absurd h }

  pub sleep-first : (t : ℕ) → SleepIs f t
  sleep-first t = record { comes = λ c h. absurd (none-some (sym (no-sleeper THREADS t) ∙ h)) }

  pub timeout-first : (t : ℕ) → TimeoutComes f m t
  timeout-first t = record { comes = λ c d few h until. absurd (none-waits t c h); until = λ c few h. absurd (none-waits t c h) }

  pub expiry-first : (x : ℕ) → ExpiryComes f m x
  expiry-first x = record { comes = λ d even h. absurd (false≢true (sym (opening-calm image x).stopped ∙ ap is_running h)) }

  -- an index is shut where its object isn't marked
  shut-is : (t : ℕ) → t < THREADS → is_shut (joins f) t ≡ not (object_at m (own_row image t)).init
  shut-is t few = by (indexed-flag (λ n. not (object_at m (own_row m.image n)).init) 0 m.threads t)
    where
      by : (is_shut (joins f) t ≡ not (object_at m (own_row m.image (0 + t))).init) ⊎ ((is_shut (joins f) t ≡ true) × (length m.threads ≤ t)) → is_shut (joins f) t ≡ not (object_at m (own_row image t)).init
      by (inl e) =
          let at : 0 + t ≡ t = omega arith in
          e ∙ (ap (λ n. not (object_at m (own_row m.image n)).init) at ∙ ap (λ (i : Image). not (object_at m (own_row i t)).init) (opening-image image))
      by (inr r) = let long = threads-long image in let l = r.1 in absurd (omega (arith, few, long, l))

  pub shut-first : OwnMarked image → OwnKept image → (t : ℕ) → t < THREADS → ShutIs f m t
  shut-first marked kept t few =
      record {
        dead = λ shut living.
            let init = marked t few (ap is_living living) in
            true≢false (sym shut ∙ (shut-is t few ∙ ap not init));
        alone = λ shut. refl;
        owned = λ own unshut. keeps (kept t few own (unnot (object_at m (own_row image t)).init (sym (shut-is t few) ∙ unshut)));
        clears = λ k l runs h. absurd (false≢true runs);
        begins = λ k l h. absurd (none-some h);
      }
    where
      unnot : (b : Bool) → not b ≡ false → b ≡ true
      unnot true h = refl
      unnot false h = absurd (true≢false h)

  pub timer-first : HasActor image → (k : ℕ) → TimerIs f m k
  timer-first acts k = record { actor = acts; hand = λ h. absurd (false≢true h) }

  pub unarmed-first : (k : ℕ) → IsUnarmed f k
  unarmed-first k = λ h. refl

  pub look-there-first : (k : ℕ) → LookThere f k
  look-there-first k = refl

  pub joins-first : JoinsAre f m
  joins-first =
      record { waiters = sym (opening-joins image); shut = indexed-long (λ n (me : Thread). not (object_at m (own_row m.image n)).init) 0 m.threads ∙ threads-long image; asleep = copies-long THREADS unslept }

  pub notes-first : NotesAre f
  notes-first = record { places = λ c few. by c (c == JOIN_CELL) (c == FUTEX_CELL) }
    where
      by : (c : ℕ) (a b : Bool) → length (if a then (joins f).noted else if b then (bytes f).noted else (object f c).noted) ≡ THREADS
      by c true b = refl
      by c false true = refl
      by c false false = refl

  pub clock-first : ClockIs f m
  clock-first = record { now = sym (opening-now image); armed = sym (opening-armed image) }

  pub owed-first : OwedIs f
  owed-first = record { owed = let none = total-none cpus in omega (arith, none) }

  pub marks-first : MarksAre f
  marks-first = record { unsettled = λ deadline mark. sym (total-none cpus); given = refl; hands = λ k deadline mark todo l h. absurd (no-hand h); placed = refl }
    where
      no-hand : {q : Todo} {todo : Todos} → [] ≡ q ∷ todo → ⊥
      no-hand h = let n = ap length h in absurd (omega (arith, n))
