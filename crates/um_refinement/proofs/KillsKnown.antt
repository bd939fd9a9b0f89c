-- Who is to be killed, and makes no other step before, is aborted, in every state that a run of a described image reaches: a call has a kill right behind
-- an abort of its own thread alone, and a cut leaves one who was aborted only that.
use Rattle.um_base.specs.declared.names.Timeout.{Timeout}
use Rattle.um_refinement.proofs.Words.{◌≡◌, ◌⊎◌, inl, inr, ℕ, zero, suc, ◌+◌, ◌<◌, arith, length, Bool, true, false, List, [], ◌∷◌, ◌++◌, Option, Some, None, refl, sym, ap, ◌∙◌, subst, ◌==◌, ℤ, if◌then◌else◌, nat_lt, list_all, eqb-true, and_parts, false≢true, true≢false, slice_index_or, Cause, Ask, Image, Instr, Options, Errno, Kind, Mode, ThreadIx, Event, FineAct, More, Pending, Thread, Steps, Next, Effect, MayChoose, Offers, Runs, begins, exits, goes, opening, skips_drops, skips_inherit, tends, State, is_living, nobody, thread_at, with_thread, at_set, core_of, IsKnown, IsDescribed, effects_of, next_of, gone, wrote, after-is, answer_error, answer_zero, buffered, creates, privileged, steps_of, to_addr, to_thread, work, HoldsOfWays, way-left, told_way, THREADS}
use Rattle.um_machine.proofs.AfterLemmas.{bytes-leave}
use Rattle.um_machine.proofs.EffectLemmas.{OfEach, all-wrote, woken-by}
use Rattle.um_machine.specs.Goes.{went}
use Rattle.um_machine.specs.Order.{aborts, answer_void, arms}
use Rattle.um_machine.specs.Run.{is_tending, leaves, stops, waits_at}
use Rattle.um_machine.specs.State.{with_pair}
use Rattle.um_machine.specs.Table as T
use Rattle.um_machine.specs.Writes.{Effects, Flag, cut, effect, flagged}
use Rattle.um_refinement.proofs.CallsProper.{AreProper, Closing}
use Rattle.um_refinement.proofs.CutPart.{AreAborted}
use Rattle.um_refinement.proofs.Erased.{IsReachable, reach-on}
use Rattle.um_refinement.proofs.FirstThreads.{new-thread}
use Rattle.um_refinement.proofs.StepsLeft.{fatal-left}
use Rattle.um_refinement.proofs.ThreadLists.{at-here}
use Rattle.um_refinement.proofs.SuitsKnown.{proper-known}

-- in these steps of a thread a kill stands right behind an abort of that thread alone, and comes last
abbrev pub Self : ℕ → Steps → Type 0
Self t [] = Unit {0}
Self t (Pending.Abort who ∷ Pending.Killed ∷ rest) = (who.0 ≡ t) × (rest ≡ [])
Self t (Pending.Killed ∷ rest) = ⊥
Self t (q ∷ rest) = Self t rest

-- or it is aborted, and has nothing left but to be killed
abbrev pub Kills : ℕ → Thread → Type 0
Kills t me = Self t me.pending ⊎ ((me.aborted ≡ true) × (me.pending ≡ Pending.Killed ∷ []))

abbrev pub AllKill : State → Type 0
AllKill s = (u : ℕ) → Kills u (thread_at s u)

-- The steps of a line.

self-arms : (t : ℕ) (timeout : Timeout) (steps : Steps) → Self t steps → Self t (arms timeout steps)
self-arms t Timeout.NoWait steps h = h
self-arms t (Timeout.Ticks ticks) steps h = h
self-arms t Timeout.Forever steps h = h

self-privileged : (t : ℕ) (mode : Mode) (steps : Steps) → Self t steps → Self t (privileged mode steps)
self-privileged t Mode.User steps h = tt
self-privileged t Mode.Supervisor steps h = h

self-init : (t a : ℕ) (ask : Ask) (refused : Bool) → Self t (if refused then answer_error Errno.EINVAL else work a ask ∷ Pending.SetInit (to_addr a) false None ∷ answer_zero)
self-init t a ask true = tt
self-init t a ask false = tt

self-aborts : (t who : ℕ) → Self t (aborts t who)
self-aborts t who = by (who == t) refl
  where
    by : (b : Bool) → (who == t) ≡ b → Self t (Pending.Abort (to_thread who) ∷ (if b then Pending.Killed ∷ [] else answer_void))
    by true e = (eqb-true who t e, refl)
    by false e = tt

self-inherit : (t : ℕ) (inherits : Bool) (who : ThreadIx) (rest : Steps) → Self t rest → Self t ((if inherits then Pending.Inherit who ∷ [] else []) ++ rest)
self-inherit t true who rest h = h
self-inherit t false who rest h = h

self-creates : (t : ℕ) (mode : Mode) (who stack a b script : ℕ) (priority : ℤ) (options : Options) (cause : Option Cause) → Self t (creates mode who stack a b script priority options cause)
self-creates t mode who stack a b script priority options (Some cause) = tt
self-creates t mode who stack a b script priority options None = self-inherit t options.inherit _ _ tt

self-buffered : (t a : ℕ) (kind : Kind) (lawful : Bool) (size : ℕ) (ask : Ask) → Self t (buffered a kind lawful size ask)
self-buffered t a kind true size ask = tt
self-buffered t a kind false size ask = tt

self-steps : (image : Image) (t : ℕ) (me : Thread) (instr : Instr) → Self t (steps_of image t me instr)
self-steps image t me (Instr.DomainInit domain parts) = self-privileged t me.mode _ tt
self-steps image t me (Instr.DomainAdd domain part) = self-privileged t me.mode _ tt
self-steps image t me (Instr.DomainRemove domain part) = self-privileged t me.mode _ tt
self-steps image t me (Instr.DomainMove domain thread) = self-privileged t me.mode _ tt
self-steps image t me (Instr.UserMode script) = self-privileged t me.mode _ tt
self-steps image t me (Instr.AllGrant object) = self-privileged t me.mode _ tt
self-steps image t me (Instr.Revoke object thread) = self-privileged t me.mode _ tt
self-steps image t me Instr.Panic = self-panic me.mode
  where
    self-panic : (mode : Mode) → Self t (steps_of image t (record me { mode = mode }) Instr.Panic)
    self-panic Mode.User = tt
    self-panic Mode.Supervisor = tt
self-steps image t me (Instr.Create thread stack size script priority options) = self-creates t me.mode _ _ _ _ _ _ options _
self-steps image t me (Instr.SemInit object count limit) = self-init t _ (Ask.SemInit _ _) _
self-steps image t me (Instr.MsgqInit object msg_size max_msgs) = self-buffered t _ Kind.Msgq _ _ _
self-steps image t me (Instr.StackInit object entries) = self-buffered t _ Kind.Stack _ _ _
self-steps image t me (Instr.PipeInit object size) = self-buffered t _ Kind.Pipe _ _ _
self-steps image t me (Instr.SemTake object timeout) = self-arms t timeout _ tt
self-steps image t me (Instr.MutexLock object timeout) = self-arms t timeout _ tt
self-steps image t me (Instr.MsgqPut object addr timeout) = self-arms t timeout _ tt
self-steps image t me (Instr.MsgqGet object addr timeout) = self-arms t timeout _ tt
self-steps image t me (Instr.StackPop object addr timeout) = self-arms t timeout _ tt
self-steps image t me (Instr.PipeWrite object addr length timeout) = self-arms t timeout _ tt
self-steps image t me (Instr.PipeRead object addr length timeout) = self-arms t timeout _ tt
self-steps image t me (Instr.Abort thread) = self-aborts t _
self-steps image t me (Instr.Join thread timeout) = self-arms t timeout _ tt
self-steps image t me (Instr.FutexWait addr value timeout) = self-arms t timeout _ tt
self-steps image t me _ = tt

self-ways : (t : ℕ) → HoldsOfWays (Self t)
self-ways t = record { call = (λ a left h. h, λ left h. h, λ a left h. h); runs_to = λ a before deadline left h. h; replies = λ reply. tt; fails = λ reason cause. (tt, λ size. tt, λ a. tt) }

self-dooms : (t : ℕ) (b : Bool) (from : ℕ) → Self t (if b then Pending.Dooms (from + 1) ∷ [] else [])
self-dooms t true from = tt
self-dooms t false from = tt

-- A thread that goes on, with these steps behind the one that it made.

abbrev Goes_on : ℕ → Steps → Next → Type 0
Goes_on t left (Next.begins instr) = Unit {0}
Goes_on t left (Next.dooms from) = Unit {0}
Goes_on t left (Next.enters script) = Unit {0}
Goes_on t left Next.exits = Unit {0}
Goes_on t left (Next.fatal reason) = Unit {0}
Goes_on t left Next.stays = Unit {0}
Goes_on t left next = Self t left

gone-kills : (t : ℕ) (left : Steps) (u : State) (next : Next) (me : Thread) → Goes_on t left next → Kills t me → Kills t (gone left u t next me)
gone-kills t left u (Next.on change way) me h was = inl (way-left (Self t) (self-ways t) left way h)
gone-kills t left u (Next.checks x v way) me h was = inl (way-left (Self t) (self-ways t) left way h)
gone-kills t left u (Next.answers to reply) me h was = inl h
gone-kills t left u (Next.owns kept) me h was = inl h
gone-kills t left u (Next.begins None) me h was = was
gone-kills t left u (Next.begins (Some instr)) me h was = inl (self-steps u.image t me instr)
gone-kills t left u (Next.resumes None) me h was = was
gone-kills t left u (Next.resumes (Some told)) me h was = inl (way-left (Self t) (self-ways t) left (told_way told.reply) h)
gone-kills t left u (Next.creates who) me h was = inl h
gone-kills t left u Next.starts me h was = inl h
gone-kills t left u (Next.inherits who) me h was = inl h
gone-kills t left u (Next.drops from) me h was = inl h
gone-kills t left u (Next.dooms from) me h was = inl (self-dooms t (nat_lt (from + 1) THREADS) from)
gone-kills t left u (Next.enters script) me h was = inl tt
gone-kills t left u Next.exits me h was = inl tt
gone-kills t left u (Next.fatal reason) me h was = inl (fatal-left (Self t) u.image t me tt tt reason u.image.policy)
gone-kills t left u Next.stays me h was = was

abbrev is_abort : Pending → Bool
is_abort (Pending.Abort who) = true
is_abort q = false

abbrev is_cutting : Pending → Bool
is_cutting (Pending.Cut who) = true
is_cutting q = false

abbrev NotCut : Pending → Type 0
NotCut (Pending.Cut who) = ⊥
NotCut q = Unit {0}

-- What is written.

module _ (s : State) (t x u : ℕ) (was : Kills u (thread_at s u)) where
  abbrev Reads : State → Type 0
  Reads z = Kills u (thread_at z u)

  -- a thread that starts is at rest, and none is cut
  abbrev Starts : Effect → Type 0
  Starts (Effect.starts who thread) = thread.pending ≡ []
  Starts (Effect.cuts who) = ⊥
  Starts e = Unit {0}

  set : (z : State) (v : ℕ) (th : Thread) → (v ≡ u → Kills u th) → Reads z → Reads (with_thread z v th)
  set z v th new r = at_set (λ n (me : Thread). n ≡ u → Kills u me) z.threads v u th nobody new (λ same. r) refl

  -- of one whose kill and abort are the same
  alike : (z : State) (v : ℕ) (th : Thread) → th.pending ≡ (thread_at z v).pending → th.aborted ≡ (thread_at z v).aborted → Reads z → v ≡ u → Kills u th
  alike z v th pending aborted r same = by (subst (λ n. Kills u (thread_at z n)) (sym same) r)
    where
      by : Kills u (thread_at z v) → Kills u th
      by (inl h) = inl (subst (Self u) (sym pending) h)
      by (inr h) = inr (aborted ∙ h.0, pending ∙ h.1)

  flags : (flag : Flag) (z : State) (v : ℕ) → Reads z → Reads (with_thread z v (flagged flag (thread_at z v)))
  flags Flag.aborted z v r = set z v (flagged Flag.aborted (thread_at z v)) (λ same. by (subst (λ n. Kills u (thread_at z n)) (sym same) r)) r
    where
      by : Kills u (thread_at z v) → Kills u (flagged Flag.aborted (thread_at z v))
      by (inl h) = inl h
      by (inr h) = inr (refl, h.1)
  flags (Flag.suspended on) z v r = set z v (flagged (Flag.suspended on) (thread_at z v)) (λ same. alike z v (flagged (Flag.suspended on) (thread_at z v)) refl refl r same) r

  dues : (y i : ℕ) (holders : List Bool) (xs : List Thread) (v : ℕ) → Kills u (slice_index_or xs v nobody) → Kills u (slice_index_or (T.with_dues y i holders xs) v nobody)
  dues y i holders [] v h = h
  dues y i holders (me ∷ xs) zero h = h
  dues y i holders (me ∷ xs) (suc v) h = dues y (i + 1) holders xs v h

  keeps : (e : Effect) (z : State) → Starts e → Reads z → Reads (effect e z)
  keeps (Effect.wakes woken) z f r = woken-by Reads (λ z v told r. let th = record (thread_at z v) { told = Some told } in set z v th (λ same. alike z v th refl refl r same) r) woken z r
  keeps (Effect.moves who d) z f r = let th = record (thread_at z who) { domain = d } in set z who th (λ same. alike z who th refl refl r same) r
  keeps (Effect.dooms who) z f r = let th = record (thread_at z who) { doomed = true } in set z who th (λ same. alike z who th refl refl r same) r
  keeps (Effect.flags who flag) z f r = flags flag z who r
  keeps (Effect.cuts who) z f r = absurd f
  keeps (Effect.starts who thread) z f r = set z who thread (λ same. inl (subst (Self u) (sym f) tt)) r
  keeps (Effect.pair who y there) z f r = dues y 0 (slice_index_or (with_pair z who y there).pairs y []) z.threads u r
  keeps (Effect.bytes a bs) z f r = subst (Kills u) (sym (bytes-leave (λ (z : State). thread_at z u) (λ z b. refl) (λ z b. refl) z a bs)) r
  keeps e z f r = r

  abbrev is_plain : Effect → Bool
  is_plain (Effect.starts who thread) = false
  is_plain (Effect.cuts who) = false
  is_plain e = true

  plain : (e : Effect) → is_plain e ≡ true → Starts e
  plain (Effect.starts who thread) h = absurd (false≢true h)
  plain (Effect.cuts who) h = absurd (false≢true h)
  plain e h = tt

  all-plain : (ws : Effects) → list_all (λ (w : Bool × Effect). is_plain w.1) ws ≡ true → OfEach Starts ws
  all-plain [] h = tt
  all-plain ((b, e) ∷ ws) h = let parts = and_parts (is_plain e) (list_all (λ (w : Bool × Effect). is_plain w.1) ws) h in (plain e parts.0, all-plain ws parts.1)

  wrote-kills : (q : Pending) → NotCut q → Reads (wrote (effects_of s t x q) s)
  wrote-kills (Pending.Cut who) other = absurd other
  wrote-kills (Pending.Start who script stack priority mode) other =
      all-wrote Reads Starts keeps (effects_of s t x (Pending.Start who script stack priority mode)) s (refl, tt) was
  wrote-kills q other = all-wrote Reads Starts keeps (effects_of s t x q) s (all-plain (effects_of s t x q) refl) was

  went-kills : (left : Steps) (z : State) (next : Next) → (u ≡ t → Kills t (gone left z t next (thread_at z t))) → Reads z → Reads (went left z t next)
  went-kills left z Next.stays own r = r
  went-kills left z (Next.begins None) own r = r
  went-kills left z (Next.resumes None) own r = r
  went-kills left z next own r = set z t (gone left z t next (thread_at z t)) (λ same. subst (λ n. Kills n (gone left z t next (thread_at z t))) same (own (sym same))) r

-- A step.

living-in : (xs : List Thread) (v : ℕ) → is_living (slice_index_or xs v nobody).life ≡ true → v < length xs
living-in [] v h = absurd (false≢true h)
living-in (me ∷ xs) zero h = omega arith
living-in (me ∷ xs) (suc v) h = let l = living-in xs v h in omega (arith, l)

module _ (s : State) (t x : ℕ) (all : AllKill s) where
  -- what is known of a step that is offered
  abbrev Stands : Pending → Steps → Type 0
  Stands Pending.Killed rest = Unit {0}
  Stands (Pending.CleanPair who) rest = Unit {0}
  Stands Pending.Recycle rest = Unit {0}
  Stands Pending.Left rest = Unit {0}
  Stands Pending.Tick rest = Unit {0}
  Stands (Pending.TimeOut who) rest = Unit {0}
  Stands Pending.Expire rest = Unit {0}
  Stands (Pending.Cut who) rest = Unit {0}
  Stands q rest = Self t (q ∷ rest)

  abbrev First : Steps → Type 0
  First [] = Unit {0}
  First (q ∷ rest) = Stands q rest

  self-stands : (q : Pending) (rest : Steps) → Self t (q ∷ rest) → Stands q rest
  self-stands Pending.Killed rest h = tt
  self-stands (Pending.CleanPair who) rest h = tt
  self-stands Pending.Recycle rest h = tt
  self-stands Pending.Left rest h = tt
  self-stands Pending.Tick rest h = tt
  self-stands (Pending.TimeOut who) rest h = tt
  self-stands Pending.Expire rest h = tt
  self-stands (Pending.Cut who) rest h = tt
  self-stands q rest h = h

  stands : (q : Pending) (rest : Steps) → Kills t (thread_at s t) → (thread_at s t).pending ≡ q ∷ rest → Stands q rest
  stands q rest (inl h) e = self-stands q rest (subst (Self t) e h)
  stands q rest (inr h) e = subst First (sym h.1 ∙ e) tt

  abbrev is_kill : Steps → Bool
  is_kill (Pending.Killed ∷ rest) = true
  is_kill steps = false

  skipped : (p q : Pending) (rest : Steps) → (Self t (p ∷ q ∷ rest) → Self t (q ∷ rest)) → is_kill (p ∷ q ∷ rest) ≡ false → Kills t (thread_at s t) → (thread_at s t).pending ≡ p ∷ q ∷ rest → Stands q rest
  skipped p q rest skip other (inl h) e = self-stands q rest (skip (subst (Self t) e h))
  skipped p q rest skip other (inr h) e = absurd (true≢false (ap is_kill (sym h.1 ∙ e) ∙ other))

  offered-stands : (q : Pending) (rest : Steps) → Offers s t q rest → Stands q rest
  offered-stands q rest offers = by offers
    where
      by : {q : Pending} {rest : Steps} → Offers s t q rest → Stands q rest
      by (goes {p} {rest} e) = stands p rest (all t) e
      by (skips_inherit {who} {p} {rest} e due) = skipped (Pending.Inherit who) p rest (λ h. h) refl (all t) e
      by (skips_drops {from} {p} {rest} e due) = skipped (Pending.Drops from) p rest (λ h. h) refl (all t) e
      by (begins e lives may there) = tt
      by (exits e lives may there) = tt
      by (stops e lives must) = tt
      by (leaves ends) = tt
      by (tends {p = Pending.CleanPair who} is started) = tt
      by (tends {p = Pending.Recycle} is started) = tt
      by (tends {p = Pending.Tick} is started) = tt
      by (tends {p = Pending.TimeOut who} is started) = tt
      by (tends {p = Pending.Expire} is started) = tt
      by (tends {p = Pending.Cut who} is started) = tt
      by (tends {p = q} is started) = absurd (false≢true is)

  -- who makes an abort lives
  aborts-living : (who : ThreadIx) (rest : Steps) → AreProper s.image s → Offers s t (Pending.Abort who) rest → is_living (thread_at s t).life ≡ true
  aborts-living who rest proper offers = by (is_living (thread_at s t).life) refl offers refl
    where
      closing : (steps : Steps) → (thread_at s t).pending ≡ steps → is_living (thread_at s t).life ≡ false → Closing steps
      closing steps e dead = subst Closing e ((proper t).1 dead).1

      none : (q : Pending) (rest : Steps) → q ≡ Pending.Abort who → Closing (q ∷ rest) → ⊥
      none q rest same h = subst (λ q. Closing (q ∷ rest)) same h

      by : (b : Bool) → is_living (thread_at s t).life ≡ b → {q : Pending} {rest : Steps} → Offers s t q rest → q ≡ Pending.Abort who → b ≡ true
      by true e offers same = refl
      by false e (goes {p} {rest} h) same = absurd (none p rest same (closing (p ∷ rest) h e))
      by false e (skips_inherit {who = w} {p} {rest} h due) same = absurd (closing (Pending.Inherit w ∷ p ∷ rest) h e)
      by false e (skips_drops {from} {p} {rest} h due) same = absurd (none p rest same (closing (Pending.Drops from ∷ p ∷ rest) h e))
      by false e (begins h lives may there) same = absurd (false≢true (sym e ∙ lives))
      by false e (exits h lives may there) same = absurd (false≢true (sym e ∙ lives))
      by false e (stops h lives must) same = absurd (false≢true (sym e ∙ lives))
      by false e (leaves ends) same = absurd (true≢false (sym (ap is_abort same)))
      by false e (tends {p} is started) same = absurd (true≢false (sym is ∙ ap is_tending same))

  fits : (q : Pending) (rest : Steps) → is_abort q ≡ false → Stands q rest → Goes_on t rest (next_of s t x q)
  fits (Pending.Abort who) rest other h = absurd (true≢false other)
  fits Pending.Begin rest other h = tt
  fits Pending.Exit rest other h = tt
  fits Pending.Killed rest other h = tt
  fits (Pending.Fatal reason cause) rest other h = tt
  fits (Pending.Dooms from) rest other h = tt
  fits (Pending.EnterUser script) rest other h = tt
  fits (Pending.CleanPair who) rest other h = tt
  fits Pending.Recycle rest other h = tt
  fits Pending.Left rest other h = tt
  fits Pending.Tick rest other h = tt
  fits (Pending.TimeOut who) rest other h = tt
  fits Pending.Expire rest other h = tt
  fits (Pending.Cut who) rest other h = tt
  fits q rest other h = h

  not-cut : (q : Pending) → is_cutting q ≡ false → NotCut q
  not-cut (Pending.Cut who) h = absurd (true≢false h)
  not-cut q h = tt

  -- any step but an abort and a cut
  after-other : (q : Pending) (rest : Steps) → is_abort q ≡ false → is_cutting q ≡ false → Stands q rest → AllKill (T.after s t x q rest)
  after-other q rest one two h u =
      let z = wrote (effects_of s t x q) s in
      let now = wrote-kills s t x u (all u) q (not-cut q two) in
      subst (λ (w : State). Kills u (thread_at w u)) (sym (after-is s t x q rest))
      (went-kills s t x u (all u) rest z (next_of s t x q) (λ same. gone-kills t rest z (next_of s t x q) (thread_at z t) (fits q rest one h) (subst (λ n. Kills n (thread_at z n)) same now)) now)

  -- an abort: of another thread, or of its own, behind which it is killed
  after-abort : (who : ThreadIx) (rest : Steps) → is_living (thread_at s t).life ≡ true → Self t (Pending.Abort who ∷ rest) → AllKill (T.after s t x (Pending.Abort who) rest)
  after-abort who rest lives h u =
      let q = Pending.Abort who in
      let z = wrote (effects_of s t x q) s in
      let now = wrote-kills s t x u (all u) q tt in
      subst (λ (w : State). Kills u (thread_at w u)) (sym (after-is s t x q rest)) (went-kills s t x u (all u) rest z (next_of s t x q) (λ same. own rest h) now)
    where
      flagged-own : who.0 ≡ t → (thread_at (wrote (effects_of s t x (Pending.Abort who)) s) t).aborted ≡ true
      flagged-own same =
          let done : is_living (thread_at s who.0).life ≡ true = ap (λ n. is_living (thread_at s n).life) same ∙ lives in
          ap (λ b. (thread_at (if b then with_thread s who.0 (flagged Flag.aborted (thread_at s who.0)) else s) t).aborted) done
          ∙ (ap (λ n. (thread_at (with_thread s who.0 (flagged Flag.aborted (thread_at s who.0))) n).aborted) (sym same)
          ∙ ap (λ (me : Thread). me.aborted) (at-here s.threads who.0 (flagged Flag.aborted (thread_at s who.0)) (living-in s.threads who.0 done)))

      own : (rest : Steps) → Self t (Pending.Abort who ∷ rest) → Kills t (gone rest (wrote (effects_of s t x (Pending.Abort who)) s) t (next_of s t x (Pending.Abort who)) (thread_at (wrote (effects_of s t x (Pending.Abort who)) s) t))
      own [] h = inl tt
      own (Pending.Killed ∷ rest) h = inr (flagged-own h.0, ap (λ z. Pending.Killed ∷ z) h.1)
      own (q ∷ rest) h = inl h

  after-cut : (who : ThreadIx) (rest : Steps) → (thread_at s who.0).aborted ≡ true → AllKill (T.after s t x (Pending.Cut who) rest)
  after-cut who rest aborted u = at_set (λ n (me : Thread). Kills n me) s.threads who.0 u (cut (thread_at s who.0)) nobody (inr (aborted, refl)) (all u)

  kills-after : (q : Pending) (rest : Steps) → AreProper s.image s → Offers s t q rest → MayChoose s t x q → AllKill (T.after s t x q rest)
  kills-after q rest proper offers chosen = by q offers chosen
    where
      by : (q : Pending) → Offers s t q rest → MayChoose s t x q → AllKill (T.after s t x q rest)
      by (Pending.Abort who) offers chosen = after-abort who rest (aborts-living who rest proper offers) (offered-stands (Pending.Abort who) rest offers)
      by (Pending.Cut who) offers chosen = after-cut who rest (and_parts (thread_at s who.0).aborted (waits_at s who.0 x) chosen).0
      by q offers chosen = after-other q rest refl refl (offered-stands q rest offers)

-- Along a run.

module _ (image : Image) (cpus : ℕ) (described : IsDescribed image) (known : IsKnown (core_of (opening image))) where
  kills-run : (s : State) (events : List Event) (last : State) → IsReachable image cpus s → AllKill s → Runs s events last → AllKill last
  kills-run s [] last reach all run = subst AllKill (sym run) all
  kills-run s (event ∷ events) last reach all (mid, step, rest) =
      let onwards = reach-on image cpus s mid (FineAct.Shown event More.Nothing) reach step in
      let proper = proper-known image cpus described known s reach in
      let next = kills-after s event.thread.0 step.row all step.step step.rest proper step.offered step.chosen in
      kills-run mid events last onwards (subst AllKill (sym step.leaves) next) rest

  opening-kills : AllKill (opening image)
  opening-kills u = inl (subst (Self u) (sym (new-thread image u).rests) tt)

  -- who has nothing left but to be killed is aborted
  pub aborted-known : (m : State) → IsReachable image cpus m → AreAborted m
  aborted-known m reach t is = by (kills-run (opening image) reach.0 m ([], refl) opening-kills reach.1 t)
    where
      by : Kills t (thread_at m t) → (thread_at m t).aborted ≡ true
      by (inl h) = absurd (subst (Self t) is h)
      by (inr h) = h.0
