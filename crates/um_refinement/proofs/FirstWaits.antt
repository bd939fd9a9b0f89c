-- At the opening nobody waits, no deadline is armed, and no timer runs. Where an image has no boot entry its runs have no event: no thread is ever
-- started.
use Rattle.um_refinement.proofs.Words.{◌≡◌, ◌⊎◌, inl, inr, ℕ, zero, suc, ◌<◌, ◌≤◌, Bool, true, false, List, [], ◌∷◌, length, refl, sym, ap, ◌∙◌, subst, arith, ◌==◌, IsTrue, if◌then◌else◌, slice_index_or, false≢true, true≢false, THREADS, Image, Boot, Event, Object, Thread, Pending, Steps, Offers, begins, exits, goes, skips_drops, skips_inherit, Runs, State, nobody, object_at, thread_at, vacant, blank, booted, loaded, objects_from, opening, setup_contents, effects_of, next_of, shared-went, wrote, image-wrote}
use Rattle.um_base.specs.declared.limits.TheConstants.{FUTEX_CELL, JOIN_CELL}
use Rattle.um_base.specs.declared.image.Setup.{Setup}
use Rattle.um_machine.specs.declared.contents.Contents.{Contents}
use Rattle.um_machine.specs.State.{is_living, is_started, waiters_in}
use Rattle.um_machine.specs.Table as T
use Rattle.um_machine.specs.Joins.{is_ending}
use Rattle.um_machine.specs.Run.{leaves, stops, tends}
use Rattle.um_machine.specs.Time.{has_run_out}
use Rattle.um_refinement.proofs.FirstObjects.{Stood, opening-image, opening-objects, stood-or-none}
use Rattle.um_refinement.proofs.FirstThreads.{booted-read, loaded-read, loaded-threads, nobodies}

-- What stands apart of threads and objects.

module _ {A : Type 0} (read : State → A) (pairs : (s : State) (rows : List (List Bool)) → read (record s { pairs = rows }) ≡ read s) (threads : (s : State) (ts : List Thread) → read (record s { threads = ts }) ≡ read s)
    (bytes : (s : State) (bs : List ℕ) → (read (record s { memory = bs }) ≡ read s) × (read (record s { stacks = bs }) ≡ read s)) where
  opening-read : (image : Image) → read (opening image) ≡ read (blank image)
  opening-read image = booted-read read pairs threads image.boots (loaded image.partitions (blank image)) ∙ loaded-read read bytes image.partitions (blank image)

pub opening-joins : (image : Image) → (opening image).joins ≡ []
unfolding blank
opening-joins image = opening-read (λ z. z.joins) (λ z rows. refl) (λ z ts. refl) (λ z bs. (refl, refl)) image

pub opening-futexes : (image : Image) → (opening image).futexes ≡ []
unfolding blank
opening-futexes image = opening-read (λ z. z.futexes) (λ z rows. refl) (λ z ts. refl) (λ z bs. (refl, refl)) image

pub opening-armed : (image : Image) → (opening image).armed ≡ []
unfolding blank
opening-armed image = opening-read (λ z. z.armed) (λ z rows. refl) (λ z ts. refl) (λ z bs. (refl, refl)) image

pub opening-now : (image : Image) → (opening image).now ≡ 0
unfolding blank
opening-now image = opening-read (λ z. z.now) (λ z rows. refl) (λ z ts. refl) (λ z bs. (refl, refl)) image

-- Objects.

abbrev pub is_running : Contents → Bool
is_running (Contents.Running deadline) = true
is_running contents = false

-- nobody waits for an object, and it is no timer that runs
pub record IsCalm (o : Object) : Type 0 where
  pub waiters : o.waiters ≡ []
  pub stopped : is_running o.contents ≡ false

set-stopped : (s : Setup) → is_running (setup_contents s) ≡ false
set-stopped (Setup.Sem count limit) = refl
set-stopped Setup.Mutex = refl
set-stopped (Setup.Msgq size most) = refl
set-stopped (Setup.Stack most) = refl
set-stopped (Setup.Pipe size) = refl
set-stopped Setup.Timer = refl
set-stopped setup = refl

pub opening-calm : (image : Image) (x : ℕ) → IsCalm (object_at (opening image) x)
opening-calm image x = subst (λ (os : List Object). IsCalm (slice_index_or os x vacant)) (sym (opening-objects image)) (by (stood-or-none image.boots 0 image.objects x))
  where
    by : Stood image.boots 0 image.objects x ⊎ ((slice_index_or (objects_from image.boots 0 image.objects) x vacant ≡ vacant) × (length image.objects ≤ x))
        → IsCalm (slice_index_or (objects_from image.boots 0 image.objects) x vacant)
    by (inl r) = subst IsCalm (sym r.2) (record { waiters = refl; stopped = set-stopped r.0.setup })
    by (inr r) = subst IsCalm (sym r.0) (record { waiters = refl; stopped = refl })

pub opening-waits : (image : Image) (c : ℕ) → waiters_in (opening image) c ≡ []
opening-waits image c = by (c == JOIN_CELL) (c == FUTEX_CELL)
  where
    by : (a b : Bool) → (if a then (opening image).joins else if b then (opening image).futexes else (object_at (opening image) c).waiters) ≡ []
    by true b = opening-joins image
    by false true = opening-futexes image
    by false false = (opening-calm image c).waiters

pub stopped-stays : (now : ℕ) (c : Contents) → is_running c ≡ false → has_run_out now c ≡ false
stopped-stays now (Contents.Running deadline) h = absurd (true≢false h)
stopped-stays now c h = refl

-- Without a boot entry.

no-entries : (boots : List Boot) → length boots ≡ 0 → boots ≡ []
no-entries [] h = refl
no-entries (boot ∷ boots) h = absurd (omega (arith, h))

unbooted : (image : Image) → length image.boots ≡ 0 → (t : ℕ) → thread_at (opening image) t ≡ nobody
unfolding blank
unbooted image none t =
    ap (λ (boots : List Boot). thread_at (booted boots (loaded image.partitions (blank image))) t) (no-entries image.boots none)
    ∙ (ap (λ (ts : List Thread). slice_index_or ts t nobody) (loaded-threads image.partitions (blank image)) ∙ nobodies (λ me. me ≡ nobody) THREADS t refl)

some-steps : {q : Pending} {rest : Steps} → [] ≡ q ∷ rest → ⊥
some-steps h = let n = ap length h in absurd (omega (arith, n))

none-offered : (image : Image) → length image.boots ≡ 0 → (t : ℕ) (q : Pending) (rest : Steps) → Offers (opening image) t q rest → ⊥
none-offered image none t q rest offers = by offers
  where
    me : thread_at (opening image) t ≡ nobody
    me = unbooted image none t

    by : {p : Pending} {steps : Steps} → Offers (opening image) t p steps → ⊥
    by (goes h) = some-steps (sym (ap (λ (z : Thread). z.pending) me) ∙ h)
    by (skips_inherit h due) = some-steps (sym (ap (λ (z : Thread). z.pending) me) ∙ h)
    by (skips_drops h due) = some-steps (sym (ap (λ (z : Thread). z.pending) me) ∙ h)
    by (begins h living go i) = false≢true (sym (ap (λ (z : Thread). is_living z.life) me) ∙ living)
    by (exits h living go i) = false≢true (sym (ap (λ (z : Thread). is_living z.life) me) ∙ living)
    by (stops h living stop) = false≢true (sym (ap (λ (z : Thread). is_living z.life) me) ∙ living)
    by (leaves ends) = subst (λ (z : Thread). IsTrue (is_ending z) → ⊥) (sym me) (λ h. false≢true h) ends
    by (tends tending started) = false≢true (sym (ap (λ (z : Thread). is_started z.life) me) ∙ started)

-- no step changes the image
pub image-stays : (m : State) (t x : ℕ) (q : Pending) (rest : Steps) → (T.after m t x q rest).image ≡ m.image
image-stays m t x q rest =
    let ws = effects_of m t x q in
    shared-went (λ (s : State). s.image) (λ s threads. refl) rest (wrote ws m) t (next_of m t x q) ∙ image-wrote ws m

-- a state that was reached has boot entries, or is the opening
abbrev pub IsBooted : State → Type 0
IsBooted m = (0 < length m.image.boots) ⊎ (m ≡ opening m.image)

booted-run : (s : State) (events : List Event) (m : State) → 0 < length s.image.boots → Runs s events m → 0 < length m.image.boots
booted-run s [] m some run = subst (λ (z : State). 0 < length z.image.boots) (sym run) some
booted-run s (event ∷ events) m some (mid, step, rest) =
    booted-run mid events m
    (subst (λ (i : Image). 0 < length i.boots) (sym (ap (λ (z : State). z.image) step.leaves ∙ image-stays s event.thread.0 step.row step.step step.rest)) some) rest

pub booted-known : (image : Image) (events : List Event) (m : State) → Runs (opening image) events m → IsBooted m
booted-known image [] m run = inr (run ∙ ap opening (sym (ap (λ (z : State). z.image) run ∙ opening-image image)))
booted-known image (event ∷ events) m run = by (length image.boots) refl
  where
    by : (n : ℕ) → length image.boots ≡ n → IsBooted m
    by zero k = let step = run.1 in absurd (none-offered image k event.thread.0 step.step step.rest step.offered)
    by (suc n) k = inl (booted-run (opening image) (event ∷ events) m (subst (λ (i : Image). 0 < length i.boots) (sym (opening-image image)) (omega (arith, k))) run)
