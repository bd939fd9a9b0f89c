-- What the writes of a step leave: facts of the shared state, and facts of each thread, each proved once for each kind of write.
use Rattle.std.proofs.Common.{◌≡◌, ℕ, zero, suc, ◌+◌, Bool, true, false, List, [], ◌∷◌, map, Option, Some, None, refl, sym, ap, ◌∙◌, subst}
use Rattle.std.specs.Prelude.{slice_index_or, slice_set, ℤ}
use Rattle.std.specs.List.{list_all}
use Rattle.std.proofs.lemmas.Bool.{and_parts}
use Rattle.um_base.specs.declared.ask.Told.{Told}
use Rattle.um_base.specs.declared.names.ThreadIx.{ThreadIx}
use Rattle.um_base.specs.declared.image.Image.{Image}
use Rattle.um_machine.specs.declared.thread.Thread.{Thread}
use Rattle.um_machine.specs.Writes.{Effect, Effects, Flag, cut, effect, flagged, write, wrote}
use Rattle.um_machine.specs.Table.{effects, came_with, continues}
use Rattle.um_machine.specs.declared.pending.Pending.{Pending}
use Rattle.um_base.specs.declared.names.Mode.{Mode}
use Rattle.um_base.specs.declared.names.Row.{Row}
use Rattle.um_machine.specs.Goes.{Next, gone, went}
use Rattle.um_machine.specs.Order.{Steps}
use Rattle.um_machine.specs.State.{State, nobody, thread_at, with_pair, with_thread}
use Rattle.um_machine.specs.Table as T
use Rattle.um_machine.proofs.AfterLemmas.{after-is, bytes-leave}

-- a fact of each write that is made
abbrev pub OfEach : (Effect → Type 0) → Effects → Type 0
OfEach F [] = Unit {0}
OfEach F ((b, e) ∷ ws) = F e × OfEach F ws

-- What a relation between states that every write keeps, is kept by all of them.
module _ (R : State → Type 0) (F : Effect → Type 0) (keeps : (e : Effect) (s : State) → F e → R s → R (effect e s)) where
  keeps-write : (b : Bool) (e : Effect) (s : State) → F e → R s → R (write (b, e) s)
  keeps-write true e s f r = keeps e s f r
  keeps-write false e s f r = r

  pub all-wrote : (ws : Effects) (s : State) → OfEach F ws → R s → R (wrote ws s)
  all-wrote [] s f r = r
  all-wrote ((b, e) ∷ ws) s f r = all-wrote ws (write (b, e) s) f.1 (keeps-write b e s f.0 r)

-- threads are woken one after another
pub woken-by : (R : State → Type 0) → ((s : State) (u : ℕ) (told : Told) → R s → R (with_thread s u (record (thread_at s u) { told = Some told })))
    → (ws : List (ThreadIx × Told)) (s : State) → R s → R (T.all_woken ws s)
woken-by R tells [] s r = r
woken-by R tells (w ∷ ws) s r = woken-by R tells ws (with_thread s w.0.0 (record (thread_at s w.0.0) { told = Some w.1 })) (tells s w.0.0 w.1 r)

-- A fact of each thread.
pub set-each : (K : Thread → Type 0) (xs : List Thread) (v : ℕ) (th : Thread) → K th → (u : ℕ) → K (slice_index_or xs u nobody) → K (slice_index_or (slice_set xs v th) u nobody)
set-each K [] v th new u was = was
set-each K (y ∷ ys) zero th new zero was = new
set-each K (y ∷ ys) zero th new (suc u) was = was
set-each K (y ∷ ys) (suc v) th new zero was = was
set-each K (y ∷ ys) (suc v) th new (suc u) was = set-each K ys v th new u was

module _ (K : Thread → Type 0) where
  abbrev pub Each : State → Type 0
  Each s = (u : ℕ) → K (thread_at s u)

  -- it is kept by the writes of another's word, of what is due, and of what one is told
  pub record Passes : Type 0 where
    pub due : (me : Thread) (due : List Bool) → K me → K (record me { due = due })
    pub told : (me : Thread) (told : Option Told) → K me → K (record me { told = told })
    pub domain : (me : Thread) (domain : ℕ) → K me → K (record me { domain = domain })
    pub doomed : (me : Thread) → K me → K (record me { doomed = true })
    pub flagged : (me : Thread) (aborted suspended : Bool) → K me → K (record me { aborted = aborted; suspended = suspended })

  -- it holds of a thread that is started, and is kept where one is cut
  abbrev pub Starts : Effect → Type 0
  Starts (Effect.starts who thread) = K thread
  Starts (Effect.cuts who) = (me : Thread) → K me → K (cut me)
  Starts e = Unit {0}

  module _ (passes : Passes) where
    dues-each : (x i : ℕ) (holders : List Bool) (xs : List Thread) (u : ℕ) → K (slice_index_or xs u nobody) → K (slice_index_or (T.with_dues x i holders xs) u nobody)
    dues-each x i holders [] u h = h
    dues-each x i holders (y ∷ ys) zero h = passes.due y _ h
    dues-each x i holders (y ∷ ys) (suc u) h = dues-each x (i + 1) holders ys u h

    flag-passes : (flag : Flag) (me : Thread) → K me → K (flagged flag me)
    flag-passes Flag.aborted me h = passes.flagged me true me.suspended h
    flag-passes (Flag.suspended on) me h = passes.flagged me me.aborted on h

    pub each-effect : (e : Effect) (s : State) → Starts e → Each s → Each (effect e s)
    each-effect (Effect.wakes woken) s f all = woken-by Each (λ s v told all. λ u. set-each K s.threads v _ (passes.told (thread_at s v) (Some told) (all v)) u (all u)) woken s all
    each-effect (Effect.moves who d) s f all = λ u. set-each K s.threads who _ (passes.domain (thread_at s who) d (all who)) u (all u)
    each-effect (Effect.dooms who) s f all = λ u. set-each K s.threads who _ (passes.doomed (thread_at s who) (all who)) u (all u)
    each-effect (Effect.flags who flag) s f all = λ u. set-each K s.threads who _ (flag-passes flag (thread_at s who) (all who)) u (all u)
    each-effect (Effect.cuts who) s f all = λ u. set-each K s.threads who _ (f (thread_at s who) (all who)) u (all u)
    each-effect (Effect.starts who thread) s f all = λ u. set-each K s.threads who thread f u (all u)
    each-effect (Effect.pair who x there) s f all = λ u. dues-each x 0 (slice_index_or (with_pair s who x there).pairs x []) s.threads u (all u)
    each-effect (Effect.bytes a bs) s f all = λ u. subst K (sym (bytes-leave (λ (s : State). thread_at s u) (λ s b. refl) (λ s b. refl) s a bs)) (all u)
    each-effect e s f all = all

    pub each-wrote : (ws : Effects) (s : State) → OfEach Starts ws → Each s → Each (wrote ws s)
    each-wrote = all-wrote Each Starts each-effect

  -- a thread goes on
  pub each-went : (left : Steps) (s : State) (t : ℕ) (next : Next) → K (gone left s t next (thread_at s t)) → Each s → Each (went left s t next)
  each-went left s t Next.stays h all = all
  each-went left s t (Next.begins None) h all = all
  each-went left s t (Next.resumes None) h all = all
  each-went left s t next h all = λ u. set-each K s.threads t (gone left s t next (thread_at s t)) h u (all u)

-- what a step writes
abbrev pub effects_of : State → ℕ → ℕ → Pending → Effects
effects_of s t x q = effects s t x q (T.act_of s t x q)

-- how the thread of a step goes on
abbrev pub next_of : State → ℕ → ℕ → Pending → Next
next_of s t x q = continues s.image t (thread_at s t) x q (T.act_of s t x q) (came_with s t q)

abbrev is_so : Bool → Type 0
is_so true = Unit {0}
is_so false = ⊥

-- Which writes of another thread what is read of a thread may leave as it is.
pub record Other : Type 0 where
  pub due : Bool
  pub told : Bool
  pub domain : Bool
  pub doomed : Bool
  pub flagged : Bool

abbrev pub all_other : Other
all_other = record { due = true; told = true; domain = true; doomed = true; flagged = true }

abbrev pub is_spared : Other → Effect → Bool
is_spared other (Effect.wakes woken) = other.told
is_spared other (Effect.moves who d) = other.domain
is_spared other (Effect.dooms who) = other.doomed
is_spared other (Effect.flags who flag) = other.flagged
is_spared other (Effect.cuts who) = false
is_spared other (Effect.starts who thread) = false
is_spared other (Effect.pair who x there) = other.due
is_spared other e = true

-- What is read of each thread.
module _ {K : Type 0} (of : Thread → K) where
  abbrev pub keys : State → List K
  keys s = map of s.threads

  pub record Ignores (other : Other) : Type 0 where
    pub due : other.due ≡ true → (me : Thread) (due : List Bool) → of (record me { due = due }) ≡ of me
    pub told : other.told ≡ true → (me : Thread) (told : Option Told) → of (record me { told = told }) ≡ of me
    pub domain : other.domain ≡ true → (me : Thread) (domain : ℕ) → of (record me { domain = domain }) ≡ of me
    pub doomed : other.doomed ≡ true → (me : Thread) → of (record me { doomed = true }) ≡ of me
    pub flagged : other.flagged ≡ true → (me : Thread) (aborted suspended : Bool) → of (record me { aborted = aborted; suspended = suspended }) ≡ of me

  at-keys : (xs : List Thread) (u : ℕ) → of (slice_index_or xs u nobody) ≡ slice_index_or (map of xs) u (of nobody)
  at-keys [] u = refl
  at-keys (y ∷ ys) zero = refl
  at-keys (y ∷ ys) (suc u) = at-keys ys u

  -- the same of all threads, and so of each
  pub key-same : (m s : State) → keys s ≡ keys m → (u : ℕ) → of (thread_at s u) ≡ of (thread_at m u)
  key-same m s e u = at-keys s.threads u ∙ (ap (λ (ks : List K). slice_index_or ks u (of nobody)) e ∙ sym (at-keys m.threads u))

  pub set-keys : (xs : List Thread) (v : ℕ) (th : Thread) → of th ≡ of (slice_index_or xs v nobody) → map of (slice_set xs v th) ≡ map of xs
  set-keys [] v th e = refl
  set-keys (y ∷ ys) zero th e = ap (λ k. k ∷ map of ys) e
  set-keys (y ∷ ys) (suc v) th e = ap (λ ks. of y ∷ ks) (set-keys ys v th e)

  module _ (other : Other) (ignores : Ignores other) where
    dues-keys : other.due ≡ true → (x i : ℕ) (holders : List Bool) (xs : List Thread) → map of (T.with_dues x i holders xs) ≡ map of xs
    dues-keys h x i holders [] = refl
    dues-keys h x i holders (y ∷ ys) = λ j. ignores.due h y (T.with_due x i holders y).due j ∷ dues-keys h x (i + 1) holders ys j

    flag-ignored : other.flagged ≡ true → (flag : Flag) (me : Thread) → of (flagged flag me) ≡ of me
    flag-ignored h Flag.aborted me = ignores.flagged h me true me.suspended
    flag-ignored h (Flag.suspended on) me = ignores.flagged h me me.aborted on

    keys-effect : (ks : List K) (e : Effect) (s : State) → is_spared other e ≡ true → keys s ≡ ks → keys (effect e s) ≡ ks
    keys-effect ks (Effect.wakes woken) s h e =
        woken-by (λ (s : State). keys s ≡ ks) (λ s u told e. set-keys s.threads u _ (ignores.told h (thread_at s u) (Some told)) ∙ e) woken s e
    keys-effect ks (Effect.moves who d) s h e = set-keys s.threads who _ (ignores.domain h (thread_at s who) d) ∙ e
    keys-effect ks (Effect.dooms who) s h e = set-keys s.threads who _ (ignores.doomed h (thread_at s who)) ∙ e
    keys-effect ks (Effect.flags who flag) s h e = set-keys s.threads who _ (flag-ignored h flag (thread_at s who)) ∙ e
    keys-effect ks (Effect.cuts who) s h e = absurd (subst is_so (sym h) tt)
    keys-effect ks (Effect.starts who thread) s h e = absurd (subst is_so (sym h) tt)
    keys-effect ks (Effect.pair who x there) s h e = dues-keys h x 0 (slice_index_or (with_pair s who x there).pairs x []) s.threads ∙ e
    keys-effect ks (Effect.bytes a bs) s h e = bytes-leave keys (λ s b. refl) (λ s b. refl) s a bs ∙ e
    keys-effect ks other-effect s h e = e

    abbrev pub Spared : Effects → Type 0
    Spared ws = list_all (λ (w : Bool × Effect). is_spared other w.1) ws ≡ true

    spared-each : (ws : Effects) → Spared ws → OfEach (λ e. is_spared other e ≡ true) ws
    spared-each [] h = tt
    spared-each ((b, e) ∷ ws) h =
        let parts = and_parts (is_spared other e) (list_all (λ (w : Bool × Effect). is_spared other w.1) ws) h in (parts.0, spared-each ws parts.1)

    pub keys-wrote : (ws : Effects) (s : State) → Spared ws → keys (wrote ws s) ≡ keys s
    keys-wrote ws s h = all-wrote (λ (u : State). keys u ≡ keys s) (λ e. is_spared other e ≡ true) (keys-effect (keys s)) ws s (spared-each ws h) refl

  pub keys-went : (left : Steps) (s : State) (t : ℕ) (next : Next) → of (gone left s t next (thread_at s t)) ≡ of (thread_at s t) → keys (went left s t next) ≡ keys s
  keys-went left s t Next.stays e = refl
  keys-went left s t (Next.begins None) e = refl
  keys-went left s t (Next.resumes None) e = refl
  keys-went left s t next e = set-keys s.threads t (gone left s t next (thread_at s t)) e

  -- a step that spares it of all threads, and that its own thread goes on from with the same
  pub keys-after : (other : Other) → Ignores other → (s : State) (t x : ℕ) (q : Pending) (left : Steps) → list_all (λ (w : Bool × Effect). is_spared other w.1) (effects_of s t x q) ≡ true
      → ((u : State) (me : Thread) → of (gone left u t (next_of s t x q) me) ≡ of me) → keys (T.after s t x q left) ≡ keys s
  keys-after other ignores s t x q left spared goes =
      let u = wrote (effects_of s t x q) s in
      ap keys (after-is s t x q left) ∙ (keys-went left u t (next_of s t x q) (goes u (thread_at u t)) ∙ keys-wrote other ignores (effects_of s t x q) s spared)

-- What is read of the shared state: only so many kinds of write change it.
pub shared-went : {A : Type 0} (f : State → A) → ((s : State) (threads : List Thread) → f (record s { threads = threads }) ≡ f s)
    → (left : Steps) (s : State) (t : ℕ) (next : Next) → f (went left s t next) ≡ f s
shared-went f same left s t Next.stays = refl
shared-went f same left s t (Next.begins None) = refl
shared-went f same left s t (Next.resumes None) = refl
shared-went f same left s t next = same s _

-- the image stays
image-effect : (image : Image) (e : Effect) (s : State) → Unit {0} → s.image ≡ image → (effect e s).image ≡ image
image-effect image (Effect.wakes woken) s f h = woken-by (λ (s : State). s.image ≡ image) (λ s u told h. h) woken s h
image-effect image (Effect.bytes a bs) s f h = bytes-leave (λ (s : State). s.image) (λ s b. refl) (λ s b. refl) s a bs ∙ h
image-effect image e s f h = h

each-unit : (ws : Effects) → OfEach (λ e. Unit {0}) ws
each-unit [] = tt
each-unit ((b, e) ∷ ws) = (tt, each-unit ws)

pub image-wrote : (ws : Effects) (s : State) → (wrote ws s).image ≡ s.image
image-wrote ws s = all-wrote (λ (u : State). u.image ≡ s.image) (λ e. Unit {0}) (image-effect s.image) ws s (each-unit ws) refl

-- A fact of what is read of each thread is kept by a step, where it holds of a thread that is started, of one that is cut, and of the one
-- that goes on; of that one the same is read before and behind the writes, unless it starts another or cuts one.
module _ {K : Type 0} (of : Thread → K) (F : K → Type 0) (ignores : Ignores of all_other) where
  abbrev pub IsSo : Thread → Type 0
  IsSo me = F (of me)

  abbrev pub Newborns : State → ℕ → Type 0
  Newborns s t = (who : ThreadIx) (script : ℕ) (stack : Row) (priority : ℤ) (mode : Mode) → F (of (T.newborn s (thread_at s t) who.0 script (Pending.Start who script stack priority mode)))

  abbrev pub KeptByCuts : Type 0
  KeptByCuts = (me : Thread) → IsSo me → IsSo (cut me)

  passes : Passes IsSo
  passes =
      record {
        due = λ me due h. subst F (sym (ignores.due refl me due)) h;
        told = λ me told h. subst F (sym (ignores.told refl me told)) h;
        domain = λ me domain h. subst F (sym (ignores.domain refl me domain)) h;
        doomed = λ me h. subst F (sym (ignores.doomed refl me)) h;
        flagged = λ me aborted suspended h. subst F (sym (ignores.flagged refl me aborted suspended)) h;
      }

  no-start : (e : Effect) → is_spared all_other e ≡ true → Starts IsSo e
  no-start (Effect.starts who thread) h = absurd (subst is_so (sym h) tt)
  no-start (Effect.cuts who) h = absurd (subst is_so (sym h) tt)
  no-start e h = tt

  no-starts : (ws : Effects) → list_all (λ (w : Bool × Effect). is_spared all_other w.1) ws ≡ true → OfEach (Starts IsSo) ws
  no-starts [] h = tt
  no-starts ((b, e) ∷ ws) h =
      let parts = and_parts (is_spared all_other e) (list_all (λ (w : Bool × Effect). is_spared all_other w.1) ws) h in (no-start e parts.0, no-starts ws parts.1)

  starts-of : (s : State) (t x : ℕ) (q : Pending) → Newborns s t → KeptByCuts → OfEach (Starts IsSo) (effects_of s t x q)
  starts-of s t x (Pending.Start who script stack priority mode) new cuts = (new who script stack priority mode, tt)
  starts-of s t x (Pending.Cut who) new cuts = (tt, (cuts, tt))
  starts-of s t x q new cuts = no-starts (effects_of s t x q) refl

  abbrev pub IsAsBefore : State → ℕ → Pending → Thread → Type 0
  IsAsBefore s t (Pending.Start who script stack priority mode) me = Unit {0}
  IsAsBefore s t (Pending.Cut who) me = Unit {0}
  IsAsBefore s t q me = of me ≡ of (thread_at s t)

  as-before : (s : State) (t x : ℕ) (q : Pending) → IsAsBefore s t q (thread_at (wrote (effects_of s t x q) s) t)
  as-before s t x (Pending.Start who script stack priority mode) = tt
  as-before s t x (Pending.Cut who) = tt
  as-before s t x q = let ws = effects_of s t x q in key-same of s (wrote ws s) (keys-wrote of all_other ignores ws s refl) t

  pub each-after : (s : State) (t x : ℕ) (q : Pending) (left : Steps) → Newborns s t → KeptByCuts → Each IsSo s
      → ((u : State) (me : Thread) → u.image ≡ s.image → IsAsBefore s t q me → IsSo me → IsSo (gone left u t (next_of s t x q) me))
      → Each IsSo (T.after s t x q left)
  each-after s t x q left new cuts all on =
      let ws = effects_of s t x q in
      let u = wrote ws s in
      let now = each-wrote IsSo passes ws s (starts-of s t x q new cuts) all in
      subst (Each IsSo) (sym (after-is s t x q left)) (each-went IsSo left u t (next_of s t x q) (on u (thread_at u t) (image-wrote ws s) (as-before s t x q) (now t)) now)
