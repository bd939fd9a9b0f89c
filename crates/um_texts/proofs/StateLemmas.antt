-- What holds in each state of a run of an image: who has steps to make has an object of its own, pairs are with rows at which objects
-- stand, only dynamic objects are gone, timers that run stand in the image, and steps that follow others are of their kinds.
use Rattle.std.proofs.Common.{◌≡◌, ℕ, zero, suc, ◌+◌, ◌<◌, ◌≤◌, Bool, true, false, ◌&&◌, ◌||◌, List, [], ◌∷◌, length, refl, ap, Option, Some, None, if◌then◌else◌, slice_index_or, slice_set}
use Rattle.um_base.specs.declared.ask.Waiter.{Waiter}
use Rattle.um_base.specs.declared.image.Image.{Image}
use Rattle.um_base.specs.declared.limits.TheConstants.{STATIC_ROWS, ROWS}
use Rattle.um_base.specs.declared.names.Reply.{Reply}
use Rattle.um_machine.specs.declared.contents.Contents.{Contents}
use Rattle.um_machine.specs.declared.object.Object.{Object}
use Rattle.um_machine.specs.declared.pending.Pending.{Pending}
use Rattle.um_machine.specs.declared.thread.Thread.{Thread}
use Rattle.um_machine.specs.State.{State, nobody, vacant, thread_at, object_at, with_thread, with_object, with_waiters, pair_at, with_pair, is_started}
use Rattle.um_base.specs.Regions.{Partitions}
use Rattle.um_machine.specs.Memory.{with_bytes}
use Rattle.um_machine.specs.Objects.{is_gone}
use Rattle.um_machine.specs.Order.{Steps}
use Rattle.um_machine.specs.Writes.{with_dues, with_due, paired}
use Rattle.um_texts.proofs.IdentityLemmas.{is_real, has_own}

abbrev pub has_steps : Steps → Bool
has_steps [] = false
has_steps (p ∷ rest) = true

-- whether a thread may make a step
abbrev pub is_acting : Thread → Bool
is_acting me = is_started me.life || has_steps me.pending

-- The steps that stand behind some others.
abbrev pub is_answer_void : Steps → Bool
is_answer_void (Pending.Answer (Some Reply.Void) None ∷ []) = true
is_answer_void _ = false

abbrev pub begins_with_start : Steps → Bool
begins_with_start (Pending.Start who script stack priority mode ∷ rest) = true
begins_with_start _ = false

abbrev pub begins_with_clear : Steps → Bool
begins_with_clear (Pending.ClearInit a ∷ rest) = true
begins_with_clear _ = false

abbrev pub fits : Image → Pending → Steps → Bool
fits image (Pending.Start who script stack priority mode) rest = has_own image who.0
fits image (Pending.Own who) rest = has_own image who.0
fits image (Pending.DropPair who a) rest = has_own image who.0 && is_answer_void rest
fits image (Pending.Inherit who) rest = begins_with_start rest
fits image (Pending.Drops from) rest = begins_with_clear rest
fits image _ rest = true

abbrev pub are_fit : Image → Steps → Bool
are_fit image [] = true
are_fit image (p ∷ rest) = fits image p rest && are_fit image rest

-- whether a timer runs
abbrev pub runs : Contents → Bool
runs (Contents.Running deadline) = true
runs contents = false

pub record IsKept (image : Image) (s : State) : Type 0 where
  pub few : length image.objects ≤ STATIC_ROWS
  pub image_is : s.image ≡ image
  pub own : (t : ℕ) → is_acting (thread_at s t) ≡ true → has_own image t ≡ true
  pub fit : (t : ℕ) → are_fit image (thread_at s t).pending ≡ true
  pub real : (t x : ℕ) → pair_at s t x ≡ true → is_real image x ≡ true
  pub gone : (x : ℕ) → is_gone (object_at s x).status ≡ true → (STATIC_ROWS ≤ x) × (x < ROWS)
  pub timers : (x : ℕ) → runs (object_at s x).contents ≡ true → is_real image x ≡ true

-- what holds of a list's elements after one is set
pub set_cases : {A : Type 0} (P : A → Type 0) (xs : List A) (i j : ℕ) (v d : A) → (j ≡ i → P v) → P (slice_index_or xs j d) → P (slice_index_or (slice_set xs i v) j d)
set_cases P [] i j v d here other = other
set_cases P (x ∷ xs) zero zero v d here other = here refl
set_cases P (x ∷ xs) zero (suc j) v d here other = other
set_cases P (x ∷ xs) (suc i) zero v d here other = other
set_cases P (x ∷ xs) (suc i) (suc j) v d here other = set_cases P xs i j v d (λ e. here (ap suc e)) other

pub kept_thread : (image : Image) (s : State) (t : ℕ) (me : Thread) → IsKept image s → (is_acting me ≡ true → has_own image t ≡ true) → are_fit image me.pending ≡ true → IsKept image (with_thread s t me)
kept_thread image s t me kept own fit = record {
  few = kept.few;
  image_is = kept.image_is;
  own = λ u. set_cases (λ (x : Thread). is_acting x ≡ true → has_own image u ≡ true) s.threads t u me nobody (λ e h. rw e (own h)) (kept.own u);
  fit = λ u. set_cases (λ (x : Thread). are_fit image x.pending ≡ true) s.threads t u me nobody (λ e. fit) (kept.fit u);
  real = kept.real;
  gone = kept.gone;
  timers = kept.timers;
}

-- a thread that goes on being who it was
pub kept_same : (image : Image) (s : State) (t : ℕ) (me : Thread) → IsKept image s → me.life ≡ (thread_at s t).life → me.pending ≡ (thread_at s t).pending → IsKept image (with_thread s t me)
kept_same image s t me kept life pending =
    kept_thread image s t me kept (λ h. kept.own t (rw (life, pending) at h)) (rw pending (kept.fit t))

pub kept_object : (image : Image) (s : State) (x : ℕ) (o : Object) → IsKept image s → (is_gone o.status ≡ true → (STATIC_ROWS ≤ x) × (x < ROWS)) → (runs o.contents ≡ true → is_real image x ≡ true)
    → IsKept image (with_object s x o)
kept_object image s x o kept gone real = record {
  few = kept.few;
  image_is = kept.image_is;
  own = kept.own;
  fit = kept.fit;
  real = kept.real;
  gone = λ y. set_cases (λ (p : Object). is_gone p.status ≡ true → (STATIC_ROWS ≤ y) × (y < ROWS)) s.objects x y o vacant (λ e h. rw e (gone h)) (kept.gone y);
  timers = λ y. set_cases (λ (p : Object). runs p.contents ≡ true → is_real image y ≡ true) s.objects x y o vacant (λ e h. rw e (real h)) (kept.timers y);
}

pub kept_pair : (image : Image) (s : State) (t x : ℕ) (there : Bool) → IsKept image s → (there ≡ true → is_real image x ≡ true) → IsKept image (with_pair s t x there)
kept_pair image s t x there kept real = record {
  few = kept.few;
  image_is = kept.image_is;
  own = kept.own;
  fit = kept.fit;
  real = λ u y.
      set_cases (λ (row : List Bool). slice_index_or row u false ≡ true → is_real image y ≡ true) s.pairs x y (slice_set (slice_index_or s.pairs x []) t there) []
      (λ e. set_cases (λ (b : Bool). b ≡ true → is_real image y ≡ true) (slice_index_or s.pairs x []) t u there false (λ f h. rw e (real h)) (λ h. rw e (kept.real u x h)))
      (kept.real u y);
  gone = kept.gone;
  timers = kept.timers;
}

-- what doesn't read what is due holds as before
dues_cases : (P : Thread → Type 0) → ((x t : ℕ) (holders : List Bool) (me : Thread) → P me → P (with_due x t holders me)) → (x i : ℕ) (holders : List Bool) (ts : List Thread) (u : ℕ)
    → P (slice_index_or ts u nobody) → P (slice_index_or (with_dues x i holders ts) u nobody)
dues_cases P keeps x i holders [] u h = h
dues_cases P keeps x i holders (me ∷ ts) zero h = keeps x i holders me h
dues_cases P keeps x i holders (me ∷ ts) (suc u) h = dues_cases P keeps x (i + 1) holders ts u h

kept_dues : (image : Image) (s : State) (x : ℕ) (holders : List Bool) → IsKept image s → IsKept image (record s { threads = with_dues x 0 holders s.threads })
kept_dues image s x holders kept = record {
  few = kept.few;
  image_is = kept.image_is;
  own = λ u. dues_cases (λ (me : Thread). is_acting me ≡ true → has_own image u ≡ true) (λ x t holders me h. h) x 0 holders s.threads u (kept.own u);
  fit = λ u. dues_cases (λ (me : Thread). are_fit image me.pending ≡ true) (λ x t holders me h. h) x 0 holders s.threads u (kept.fit u);
  real = kept.real;
  gone = kept.gone;
  timers = kept.timers;
}

pub kept_paired : (image : Image) (s : State) (t x : ℕ) (there : Bool) → IsKept image s → (there ≡ true → is_real image x ≡ true) → IsKept image (paired s t x there)
kept_paired image s t x there kept real =
    let s2 = with_pair s t x there in kept_dues image s2 x (slice_index_or s2.pairs x []) (kept_pair image s t x there kept real)

-- what isn't read holds as before
pub kept_beside : (image : Image) (s : State) (memory stacks pools : List ℕ) (domains : List (Option Partitions)) → IsKept image s
    → IsKept image (record s { memory = memory; stacks = stacks; pools = pools; domains = domains })
kept_beside image s memory stacks pools domains kept =
    record { few = kept.few; image_is = kept.image_is; own = kept.own; fit = kept.fit; real = kept.real; gone = kept.gone; timers = kept.timers }

kept_bytes_by : (image : Image) (s : State) (low : Bool) (memory stacks : List ℕ) → IsKept image s → IsKept image (if low then record s { memory = memory } else record s { stacks = stacks })
kept_bytes_by image s true memory stacks kept = kept_beside image s memory s.stacks s.pools s.domains kept
kept_bytes_by image s false memory stacks kept = kept_beside image s s.memory stacks s.pools s.domains kept

pub kept_bytes : (image : Image) (s : State) (a : ℕ) (bytes : List ℕ) → IsKept image s → IsKept image (with_bytes s a bytes)
kept_bytes image s a bytes kept = kept_bytes_by image s _ _ _ kept

-- virtual time isn't read
pub kept_time : (image : Image) (s : State) (now : ℕ) (armed : List ℕ) → IsKept image s → IsKept image (record s { now = now; armed = armed })
kept_time image s now armed kept = record { few = kept.few; image_is = kept.image_is; own = kept.own; fit = kept.fit; real = kept.real; gone = kept.gone; timers = kept.timers }

-- who waits isn't read
kept_lists : (image : Image) (s : State) (joins futexes : List Waiter) → IsKept image s → IsKept image (record s { joins = joins; futexes = futexes })
kept_lists image s joins futexes kept = record { few = kept.few; image_is = kept.image_is; own = kept.own; fit = kept.fit; real = kept.real; gone = kept.gone; timers = kept.timers }

kept_waiters_by : (image : Image) (s : State) (c : ℕ) (ws joins futexes : List Waiter) (apart : Bool) → IsKept image s
    → IsKept image (record s { objects = if apart then s.objects else slice_set s.objects c (record (object_at s c) { waiters = ws }); joins = joins; futexes = futexes })
kept_waiters_by image s c ws joins futexes true kept = kept_lists image s joins futexes kept
kept_waiters_by image s c ws joins futexes false kept =
    let o = record (object_at s c) { waiters = ws } in kept_lists image (with_object s c o) joins futexes (kept_object image s c o kept (kept.gone c) (kept.timers c))

pub kept_waiters : (image : Image) (s : State) (c : ℕ) (ws : List Waiter) → IsKept image s → IsKept image (with_waiters s c ws)
kept_waiters image s c ws kept = kept_waiters_by image s c ws _ _ _ kept
