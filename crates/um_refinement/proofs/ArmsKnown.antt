-- In every state that a run reaches, the steps that are left of each thread's call stand to its deadline as those of its line do: each step of the machine
-- keeps that.
use Rattle.um_base.specs.declared.names.Timeout.{Timeout}
use Rattle.um_refinement.proofs.Words.{Act, Reply, ThreadIx, ◌≡◌, ◌⊎◌, inl, inr, ℕ, ◌+◌, Bool, true, false, List, [], ◌∷◌, Option, Some, None, refl, sym, ◌∙◌, subst, if◌then◌else◌, nat_lt, false≢true, true≢false, Ask, THREADS, Policy, Answer, Found, Addr, Image, Event, Pending, Thread, Steps, Change, Next, Way, told_way, fatal_steps, steps_by, way-left, nobody, opening, Offers, goes, skips_drops, skips_inherit, begins, exits, tends, Runs, State, thread_at, with_thread, Ignores, all_other, each-after, next_of, gone, at_set, text_change, work_change}
use Rattle.um_machine.specs.Goes as G
use Rattle.um_machine.specs.Goes.{reserve_change}
use Rattle.um_machine.specs.Order.{to_deadline}
use Rattle.um_machine.specs.Run.{stops, leaves}
use Rattle.um_machine.specs.Table as T
use Rattle.um_refinement.specs.Stops.{Ends}
use Rattle.um_refinement.proofs.ArmSteps.{Acts, Calm, StartsTimer, Timed, Unarmed, Waiting, calm-steps, waiting-acts, rests-unarmed, unarmed-ways}
use Rattle.um_refinement.proofs.Erased.{IsReachable}
use Rattle.um_refinement.proofs.FirstThreads.{opening-is}
use Rattle.um_refinement.proofs.StepsLeft.{fatal-left}

-- what is read of a thread
abbrev pub timing_of : Thread → Option ℕ × Steps
timing_of me = (me.until, me.pending)

abbrev pub IsTimed : Option ℕ × Steps → Type 0
IsTimed c = Timed c.0 c.1

abbrev pub AreTimed : State → Type 0
AreTimed s = (u : ℕ) → IsTimed (timing_of (thread_at s u))

-- What has to be known of a call that goes on so.

abbrev pub sets_until : Change → Bool
sets_until (Change.until deadline) = true
sets_until change = false

pub data GoesOn (until : Option ℕ) (left : Steps) : Change → Way → Type 0 where
  keeps : {change : Change} {way : Way} → sets_until change ≡ false → Unarmed until left → GoesOn until left change way
  arms : {deadline : Option ℕ} {way : Way} → Acts (steps_by left way) → GoesOn until left (Change.until deadline) way

abbrev pub Fits : Option ℕ → Steps → Next → Type 0
Fits until left (Next.on change way) = GoesOn until left change way
Fits until left (Next.answers to reply) = Calm left
Fits until left (Next.begins instr) = until ≡ None
Fits until left (Next.dooms from) = until ≡ None
Fits until left (Next.enters script) = until ≡ None
Fits until left Next.exits = Unit {0}
Fits until left (Next.fatal reason) = Unit {0}
Fits until left Next.stays = Unit {0}
Fits until left next = Unarmed until left

until-same : (change : Change) (me : Thread) → sets_until change ≡ false → (G.changed change me).until ≡ me.until
until-same Change.nothing me off = refl
until-same (Change.until deadline) me off = absurd (true≢false off)
until-same change me off = refl

pub ends-calm : (image : Image) (t : ℕ) (me : Thread) (reason : ℕ) (policy : Policy) → Calm (fatal_steps image t me reason policy)
ends-calm image t me = fatal-left Calm image t me tt tt

pub dooms-calm : (b : Bool) (from : ℕ) → Calm (if b then Pending.Dooms (from + 1) ∷ [] else [])
dooms-calm true from = tt
dooms-calm false from = tt

gone-on : (image : Image) (left : Steps) (change : Change) (way : Way) (me : Thread) → GoesOn me.until left change way
    → Timed (T.at_steps image (G.changed change me) (steps_by left way)).until (T.at_steps image (G.changed change me) (steps_by left way)).pending
gone-on image left change way me (keeps off h) =
    subst (λ (until : Option ℕ). Timed until (steps_by left way)) (sym (until-same change me off)) (inl (way-left (Unarmed me.until) (unarmed-ways me.until) left way h))
gone-on image left _ way me (arms acts) = inr acts

gone-timed : (left : Steps) (u : State) (t : ℕ) (next : Next) (me : Thread) → Fits me.until left next → IsTimed (timing_of me) → IsTimed (timing_of (gone left u t next me))
gone-timed left u t (Next.on change way) me h was = gone-on u.image left change way me h
gone-timed left u t (Next.checks x None way) me h was = inl (way-left (Unarmed me.until) (unarmed-ways me.until) left way h)
gone-timed left u t (Next.checks x (Some e) way) me h was = inl (way-left (Unarmed me.until) (unarmed-ways me.until) left way h)
gone-timed left u t (Next.answers to reply) me h was = inl (inl (refl, h))
gone-timed left u t (Next.owns kept) me h was = inl h
gone-timed left u t (Next.begins None) me h was = was
gone-timed left u t (Next.begins (Some instr)) me h was = inl (inl (h, calm-steps u.image t me instr))
gone-timed left u t (Next.resumes None) me h was = was
gone-timed left u t (Next.resumes (Some told)) me h was = inl (way-left (Unarmed me.until) (unarmed-ways me.until) left (told_way told.reply) h)
gone-timed left u t (Next.creates who) me h was = inl h
gone-timed left u t Next.starts me h was = inl h
gone-timed left u t (Next.inherits who) me h was = inl h
gone-timed left u t (Next.drops from) me h was = inl h
gone-timed left u t (Next.dooms from) me h was = inl (inl (h, dooms-calm (nat_lt (from + 1) THREADS) from))
gone-timed left u t (Next.enters script) me h was = inl (inl (h, tt))
gone-timed left u t Next.exits me h was = inl (inl (refl, tt))
gone-timed left u t (Next.fatal reason) me h was = inl (inl (refl, ends-calm u.image t me reason u.image.policy))
gone-timed left u t Next.stays me h was = was

ignores : Ignores timing_of all_other
ignores = record { due = λ h me due. refl; told = λ h me told. refl; domain = λ h me domain. refl; doomed = λ h me. refl; flagged = λ h me aborted suspended. refl }

pub keeps-if : (b : Bool) (one other : Change) → sets_until one ≡ false → sets_until other ≡ false → sets_until (if b then one else other) ≡ false
keeps-if true one other h g = h
keeps-if false one other h g = g

pub keeps-text : (came : List ℕ) (found : Found) → sets_until (text_change came found) ≡ false
keeps-text came (Found.Length n) = refl
keeps-text came Found.Unreadable = refl
keeps-text came Found.TooLong = refl

pub keeps-work : (answer : Answer) (came : List ℕ) → sets_until (work_change answer came) ≡ false
keeps-work Answer.Wait came = refl
keeps-work (Answer.Now reply) came = refl

pub keeps-reserve : (a : Option Addr) → sets_until (reserve_change a) ≡ false
keeps-reserve None = refl
keeps-reserve (Some a) = refl

-- What is known of a step that a call with this deadline is offered.
abbrev pub Stands : Option ℕ → Pending → Steps → Type 0
Stands until Pending.Begin rest = until ≡ None
Stands until Pending.Exit rest = Unit {0}
Stands until Pending.Killed rest = Unit {0}
Stands until (Pending.CleanPair who) rest = Unit {0}
Stands until Pending.Recycle rest = Unit {0}
Stands until Pending.Left rest = Unit {0}
Stands until Pending.Tick rest = Unit {0}
Stands until (Pending.TimeOut who) rest = Unit {0}
Stands until Pending.Expire rest = Unit {0}
Stands until (Pending.Cut who) rest = Unit {0}
Stands until q rest = Timed until (q ∷ rest)

module _ (until : Option ℕ) where
  none-by : (q : Pending) (rest : Steps) → (Ends (q ∷ rest) → ⊥) → (Acts (q ∷ rest) → ⊥) → Timed until (q ∷ rest) → until ≡ None
  none-by q rest no_end no_act (inl (inl h)) = h.0
  none-by q rest no_end no_act (inl (inr h)) = absurd (no_end h)
  none-by q rest no_end no_act (inr h) = absurd (no_act h)

  pub stands : (q : Pending) (rest : Steps) → Timed until (q ∷ rest) → Stands until q rest
  stands Pending.Begin rest h = none-by Pending.Begin rest (λ z. z) (λ z. z) h
  stands Pending.Exit rest h = tt
  stands Pending.Killed rest h = tt
  stands (Pending.CleanPair who) rest h = tt
  stands Pending.Recycle rest h = tt
  stands Pending.Left rest h = tt
  stands Pending.Tick rest h = tt
  stands (Pending.TimeOut who) rest h = tt
  stands Pending.Expire rest h = tt
  stands (Pending.Cut who) rest h = tt
  stands q rest h = h

  pub at-rest : Timed until [] → until ≡ None
  at-rest (inl h) = rests-unarmed until h
  at-rest (inr h) = absurd h

  pub passed-inherit : (who : ThreadIx) (rest : Steps) → Timed until (Pending.Inherit who ∷ rest) → Timed until rest
  passed-inherit who rest (inl h) = inl h
  passed-inherit who rest (inr h) = absurd h

  pub passed-drops : (from : ℕ) (rest : Steps) → Timed until (Pending.Drops from ∷ rest) → Timed until rest
  passed-drops from rest (inl h) = inl h
  passed-drops from rest (inr h) = absurd h

  answered : (rest : Steps) (reply : Option Reply) (to : Option ℕ) → Timed until (Pending.Answer reply to ∷ rest) → Calm rest
  answered rest reply to (inl (inl h)) = h.1
  answered rest reply to (inl (inr h)) = subst Calm (sym h) tt
  answered rest reply to (inr h) = absurd h

  pub armed : (ticks : ℕ) (rest : Steps) → Timed until (Pending.Arm ticks ∷ rest) → Waiting rest
  armed ticks rest (inl (inl h)) = h.1
  armed ticks rest (inl (inr h)) = absurd h
  armed ticks rest (inr h) = absurd h

  pub timer-armed : (ticks : ℕ) (rest : Steps) → Timed until (Pending.ArmTimer ticks ∷ rest) → StartsTimer rest
  timer-armed ticks rest (inl (inl h)) = h.1
  timer-armed ticks rest (inl (inr h)) = absurd h
  timer-armed ticks rest (inr h) = absurd h

  pub timer-acts : (deadline : ℕ) (rest : Steps) → StartsTimer rest → Acts (to_deadline deadline rest)
  timer-acts deadline (Pending.Work a (Ask.TimerStart before) ∷ rest) h = h
  timer-acts deadline rest h = absurd h

  -- behind an act none is armed for the next step
  acted : (rest : Steps) (ask : Ask) (a : Addr) → Timed until (Pending.Work a ask ∷ rest) → Unarmed until rest
  acted rest ask a (inl (inl h)) = inr h.1.1
  acted rest ask a (inl (inr h)) = absurd h
  acted rest ask a (inr h) = inr h

  joined : (rest : Steps) (who : ThreadIx) (timeout : Timeout) → Timed until (Pending.Join who timeout ∷ rest) → Unarmed until rest
  joined rest who timeout (inl (inl h)) = inr h.1
  joined rest who timeout (inl (inr h)) = absurd h
  joined rest who timeout (inr h) = inr h

  watched : (rest : Steps) (a : Addr) (value : ℕ) (timeout : Timeout) → Timed until (Pending.FutexWait a value timeout ∷ rest) → Unarmed until rest
  watched rest a value timeout (inl (inl h)) = inr h.1
  watched rest a value timeout (inl (inr h)) = absurd h
  watched rest a value timeout (inr h) = inr h

  -- so of each step that a thread goes on from
  module _ (image : Image) (t : ℕ) (me : Thread) (x : ℕ) (act : Act) (came : List ℕ) where
    pub fits : (q : Pending) (rest : Steps) → Stands until q rest → Fits until rest (T.continues image t me x q act came)
    fits Pending.Begin rest h = h
    fits Pending.Exit rest h = tt
    fits Pending.Killed rest h = tt
    fits (Pending.Fatal reason cause) rest h = tt
    fits (Pending.CleanPair who) rest h = tt
    fits Pending.Recycle rest h = tt
    fits Pending.Left rest h = tt
    fits Pending.Tick rest h = tt
    fits (Pending.TimeOut who) rest h = tt
    fits Pending.Expire rest h = tt
    fits (Pending.Cut who) rest h = tt
    fits (Pending.Answer reply to) rest h = answered rest reply to h
    fits (Pending.Dooms from) rest h = none-by (Pending.Dooms from) rest (λ z. z) (λ z. z) h
    fits (Pending.EnterUser script) rest h = none-by (Pending.EnterUser script) rest (λ z. z) (λ z. z) h
    fits (Pending.Arm ticks) rest h = arms (waiting-acts rest (armed ticks rest h))
    fits (Pending.ArmTimer ticks) rest h = arms (timer-acts _ rest (timer-armed ticks rest h))
    fits (Pending.Work a ask) rest h = keeps (keeps-work _ _) (acted rest ask a h)
    fits (Pending.Join who timeout) rest h = keeps (keeps-work _ _) (joined rest who timeout h)
    fits (Pending.FutexWait a value timeout) rest h = keeps (keeps-work _ _) (watched rest a value timeout h)
    fits (Pending.FutexWake a all) rest (inl h) = keeps (keeps-work _ _) h
    fits (Pending.FutexWake a all) rest (inr h) = absurd h
    fits (Pending.Load to a n) rest (inl h) = keeps (keeps-if _ Change.nothing (Change.register to _) refl refl) h
    fits (Pending.Load to a n) rest (inr h) = absurd h
    fits (Pending.CopyIn a amount) rest (inl h) = keeps (keeps-if _ (Change.copies _) Change.nothing refl refl) h
    fits (Pending.CopyIn a amount) rest (inr h) = absurd h
    fits (Pending.CopyStr a) rest (inl h) = keeps (keeps-text _ _) h
    fits (Pending.CopyStr a) rest (inr h) = absurd h
    fits (Pending.Reserve kind) rest (inl h) = keeps (keeps-reserve _) h
    fits (Pending.Reserve kind) rest (inr h) = absurd h
    fits (Pending.Check a kind want refusal) rest (inl h) = h
    fits (Pending.Check a kind want refusal) rest (inr h) = absurd h
    fits (Pending.ClearInit a) rest (inl h) = h
    fits (Pending.ClearInit a) rest (inr h) = absurd h
    fits Pending.Resume rest (inl h) = h
    fits Pending.Resume rest (inr h) = absurd h
    fits (Pending.Own who) rest (inl h) = h
    fits (Pending.Own who) rest (inr h) = absurd h
    fits (Pending.Start who script stack priority mode) rest (inl h) = h
    fits (Pending.Start who script stack priority mode) rest (inr h) = absurd h
    fits (Pending.Inherit who) rest (inl h) = h
    fits (Pending.Inherit who) rest (inr h) = absurd h
    fits (Pending.Drops from) rest (inl h) = h
    fits (Pending.Drops from) rest (inr h) = absurd h
    fits q rest (inl h) = keeps refl h
    fits q rest (inr h) = absurd h

module _ (m : State) (t x : ℕ) where
  abbrev me : Thread
  me = thread_at m t

  pub offered-timed : Timed me.until me.pending → (q : Pending) (rest : Steps) → Offers m t q rest → Stands (thread_at m t).until q rest
  offered-timed h q rest offers = by offers
    where
      at : (steps : Steps) → (thread_at m t).pending ≡ steps → Timed me.until steps
      at steps e = subst (Timed me.until) e h

      by : {q : Pending} {rest : Steps} → Offers m t q rest → Stands (thread_at m t).until q rest
      by (goes {p} {rest} e) = stands me.until p rest (at (p ∷ rest) e)
      by (skips_inherit {who} {p} {rest} e due) = stands me.until p rest (passed-inherit me.until who (p ∷ rest) (at (Pending.Inherit who ∷ p ∷ rest) e))
      by (skips_drops {from} {p} {rest} e due) = stands me.until p rest (passed-drops me.until from (p ∷ rest) (at (Pending.Drops from ∷ p ∷ rest) e))
      by (begins e lives may there) = at-rest me.until (at [] e)
      by (exits e lives may there) = tt
      by (stops e lives must) = tt
      by (leaves ends) = tt
      by (tends {p = Pending.CleanPair who} is started) = tt
      by (tends {p = Pending.Recycle} is started) = tt
      by (tends {p = Pending.Tick} is started) = tt
      by (tends {p = Pending.TimeOut who} is started) = tt
      by (tends {p = Pending.Expire} is started) = tt
      by (tends {p = Pending.Cut who} is started) = tt
      by (tends {p = q} is started) = absurd (false≢true is)

  made : (q : Pending) (rest : Steps) → Stands me.until q rest → Fits me.until rest (next_of m t x q)
  made q rest h = fits me.until m.image t me x (T.act_of m t x q) (T.came_with m t q) q rest h

  module _ (all : AreTimed m) where
    set : (s : State) → AreTimed s → (v : ℕ) (th : Thread) → IsTimed (timing_of th) → AreTimed (with_thread s v th)
    set s was v th new u = at_set (λ n (z : Thread). IsTimed (timing_of z)) s.threads v u th nobody new (was u)

    started : (until was : Option ℕ) (rest : Steps) → (until ≡ was) ⊎ (until ≡ None) → Unarmed was rest → Unarmed until rest
    started until was rest (inl same) (inl h) = inl (same ∙ h.0, h.1)
    started until was rest (inr none) (inl h) = inl (none, h.1)
    started until was rest same (inr h) = inr h

    timed-after : (q : Pending) (rest : Steps) → Stands me.until q rest → AreTimed (T.after m t x q rest)
    timed-after (Pending.Start who script stack priority mode) rest h =
        let child = T.newborn m me who.0 script (Pending.Start who script stack priority mode) in
        let s = with_thread m who.0 child in
        let until : ((thread_at s t).until ≡ me.until) ⊎ ((thread_at s t).until ≡ None) =
        at_set (λ n (z : Thread). (z.until ≡ (thread_at m n).until) ⊎ (z.until ≡ None)) m.threads who.0 t child nobody (inr refl) (inl refl) in
        set s (set m all who.0 child (inl (inl (refl, tt)))) t (T.at_steps s.image (record (thread_at s t) { child = None }) rest)
        (inl (started (thread_at s t).until me.until rest until (made (Pending.Start who script stack priority mode) rest h)))
    timed-after (Pending.Cut who) rest h =
        each-after timing_of IsTimed ignores m t x (Pending.Cut who) rest (λ who script stack priority mode. inl (inl (refl, tt)))
        (λ th was. inl (inr tt)) all (λ u th image same was. was)
    timed-after q rest h =
        each-after timing_of IsTimed ignores m t x q rest (λ who script stack priority mode. inl (inl (refl, tt)))
        (λ th was. inl (inr tt)) all
        (λ u th image same was. gone-timed rest u t (next_of m t x q) th (subst (λ (c : Option ℕ × Steps). Fits c.0 rest (next_of m t x q)) (sym same) (made q rest h)) was)

-- Along a run.

pub timed-run : (s : State) (events : List Event) (s2 : State) → AreTimed s → Runs s events s2 → AreTimed s2
timed-run s [] s2 all run = subst AreTimed (sym run) all
timed-run s (event ∷ events) s2 all (mid, step, rest) =
    let t = event.thread.0 in
    let here = offered-timed s t step.row (all t) step.step step.rest step.offered in
    let next = timed-after s t step.row all step.step step.rest here in
    timed-run mid events s2 (subst AreTimed (sym step.leaves) next) rest

-- and so it is of each state that a run reaches
opening-timed : (image : Image) → AreTimed (opening image)
opening-timed image u = opening-is (λ (me : Thread). IsTimed (timing_of me)) (inl (inl (refl, tt))) (λ i boot. inl (inl (refl, tt))) image u

pub timed-known : (image : Image) (cpus : ℕ) (m : State) → IsReachable image cpus m → AreTimed m
timed-known image cpus m reach = timed-run (opening image) reach.0 m (opening-timed image) reach.1
