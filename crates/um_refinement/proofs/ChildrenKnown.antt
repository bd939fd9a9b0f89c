-- In every state that a run reaches a thread that inherits next, or starts another, has that one as its child, and no other thread has one.
use Rattle.um_refinement.proofs.Words.{◌≡◌, ℕ, ◌+◌, true, false, List, [], ◌∷◌, Option, Some, None, is_some, not, and_parts, false≢true, refl, sym, ap, ◌∙◌, subst, if◌then◌else◌, nat_lt, Event, Image, THREADS, Policy, ThreadIx, Pending, Thread, Next, gone, steps_by, told_way, Steps, fatal_steps, MayChoose, Offers, Runs, begins, exits, goes, opening, skips_drops, skips_inherit, State, nobody, thread_at, with_thread, Ignores, all_other, next_of, HoldsOfWays, way-left, tends, changed-same, held-same, at_set}
use Rattle.um_machine.specs.Run.{leaves, stands_in, stops, waits_at}
use Rattle.um_machine.specs.State.{is_to_resume, is_waiting, waiters_in}
use Rattle.um_machine.specs.Writes.{cut}
use Rattle.um_refinement.proofs.EachUncut.{AsBefore, each-uncut}
use Rattle.um_machine.specs.Table as T
use Rattle.um_refinement.proofs.ChildSteps.{Creates, InOrder, goes-in-order, order-steps}
use Rattle.um_refinement.proofs.Erased.{IsReachable}
use Rattle.um_refinement.proofs.FirstThreads.{new-thread}
use Rattle.um_refinement.proofs.StepsLeft.{fatal-left}

-- what is followed of a thread
record Key : Type 0 where
  child : Option ThreadIx
  pending : Steps

abbrev key_of : Thread → Key
key_of me = record { child = me.child; pending = me.pending }

ignores : Ignores key_of all_other
ignores = record { due = λ h me due. refl; told = λ h me told. refl; domain = λ h me domain. refl; doomed = λ h me. refl; flagged = λ h me aborted suspended. refl }

abbrev CreatesSo : Key → Type 0
CreatesSo k = Creates k.child k.pending

abbrev pub AllCreate : State → Type 0
AllCreate s = (u : ℕ) → Creates (thread_at s u).child (thread_at s u).pending

-- behind the permission on its own object it is the child
own-next : (who : ThreadIx) (rest : Steps) → InOrder (Pending.Own who ∷ rest) → Creates (Some who) rest
own-next who (Pending.Inherit w ∷ Pending.Start u script stack priority mode ∷ rest) h = (ap Some (sym h.0), h.1 ∙ sym h.0, h.2)
own-next who (Pending.Start u script stack priority mode ∷ rest) h = (ap Some (sym h.0), h.1)
own-next who rest h = absurd h

inherit-next : (child : Option ThreadIx) (w : ThreadIx) (p : Pending) (rest : Steps) → Creates child (Pending.Inherit w ∷ p ∷ rest) → Creates child (p ∷ rest)
inherit-next child w (Pending.Start u script stack priority mode) rest h = (h.0 ∙ ap Some (sym h.1), h.2)
inherit-next child w p rest h = absurd h

pub order-ways : HoldsOfWays InOrder
order-ways = record { call = (λ a left h. h, λ left h. h, λ a left h. h); runs_to = λ a before deadline left h. h; replies = λ reply. tt; fails = λ reason cause. (tt, λ size. tt, λ a. tt) }

fatal-order : (image : Image) (t : ℕ) (me : Thread) (reason : ℕ) (policy : Policy) → InOrder (fatal_steps image t me reason policy)
fatal-order image t me reason policy = fatal-left InOrder image t me tt tt reason policy

doom-order : (from : ℕ) → InOrder (T.next_doom from)
doom-order from = elim (nat_lt (from + 1) THREADS) as (λ b. InOrder (if b then Pending.Dooms (from + 1) ∷ [] else [])) [ true ↦ tt | false ↦ tt ]

-- what has to be known of a thread that goes on so
abbrev Fits : Option ThreadIx → Steps → Next → Type 0
Fits child left (Next.creates who) = InOrder (Pending.Own who ∷ left)
Fits child left (Next.inherits who) = Creates child (Pending.Inherit who ∷ left)
Fits child left Next.starts = InOrder left
Fits child left Next.stays = Unit {0}
Fits child left Next.exits = Unit {0}
Fits child left (Next.fatal reason) = Unit {0}
Fits child left next = (child ≡ None) × InOrder left

gone-creates : (left : Steps) (u : State) (t : ℕ) (next : Next) (me : Thread) → Fits me.child left next → CreatesSo (key_of me) → CreatesSo (key_of (gone left u t next me))
gone-creates left u t (Next.on change way) me h was = goes-in-order _ (steps_by left way) (changed-same (λ me. me.child) (λ me registers reply buffer until. refl) change me ∙ h.0) (way-left InOrder order-ways left way h.1)
gone-creates left u t (Next.checks x v way) me h was = goes-in-order _ (steps_by left way) (held-same (λ me. me.child) (λ me checked. refl) x v me ∙ h.0) (way-left InOrder order-ways left way h.1)
gone-creates left u t (Next.begins None) me h was = was
gone-creates left u t (Next.begins (Some instr)) me h was = goes-in-order me.child _ h.0 (order-steps u.image t me instr)
gone-creates left u t (Next.resumes None) me h was = was
gone-creates left u t (Next.resumes (Some told)) me h was = goes-in-order me.child _ h.0 (way-left InOrder order-ways left (told_way told.reply) h.1)
gone-creates left u t (Next.creates who) me h was = own-next who left h
gone-creates left u t Next.starts me h was = goes-in-order None left refl h
gone-creates left u t (Next.inherits who) me h was = h
gone-creates left u t (Next.dooms from) me h was = goes-in-order me.child (T.next_doom from) h.0 (doom-order from)
gone-creates left u t (Next.enters script) me h was = (h.0, tt)
gone-creates left u t Next.exits me h was = (refl, tt)
gone-creates left u t (Next.fatal reason) me h was = goes-in-order None _ refl (fatal-order u.image t me reason u.image.policy)
gone-creates left u t Next.stays me h was = was
gone-creates left u t (Next.drops from) me h was = (h.0, h.1)
gone-creates left u t next me h was = goes-in-order me.child left h.0 h.1

module _ (m : State) (t x : ℕ) (all : AllCreate m) where
  abbrev me : Thread
  me = thread_at m t

  -- what is known of a step that the thread is offered
  abbrev pub Stands : Pending → Steps → Type 0
  Stands (Pending.CleanPair who) rest = Unit {0}
  Stands Pending.Recycle rest = Unit {0}
  Stands Pending.Left rest = Unit {0}
  Stands Pending.Tick rest = Unit {0}
  Stands (Pending.TimeOut who) rest = Unit {0}
  Stands Pending.Expire rest = Unit {0}
  -- who is cut waits, and so creates no thread
  Stands (Pending.Cut who) rest = (thread_at m who.0).child ≡ None
  Stands q rest = Creates me.child (q ∷ rest)

  waits-alone : (child : Option ThreadIx) (steps : Steps) → is_to_resume steps ≡ true → Creates child steps → child ≡ None
  waits-alone child (Pending.Resume ∷ rest) h k = k.0
  waits-alone child steps h k = absurd (false≢true h)

  cut-alone : (who : ThreadIx) → MayChoose m t x (Pending.Cut who) → (thread_at m who.0).child ≡ None
  cut-alone who chosen =
      let th = thread_at m who.0 in
      let waits = (and_parts (is_waiting th) (stands_in who.0 (waiters_in m x)) (and_parts th.aborted (waits_at m who.0 x) chosen).1).0 in
      waits-alone th.child th.pending (and_parts (is_to_resume th.pending) (not (is_some th.told)) waits).0 (all who.0)

  stands : (q : Pending) (rest : Steps) → MayChoose m t x q → Creates me.child (q ∷ rest) → Stands q rest
  stands (Pending.CleanPair who) rest chosen h = tt
  stands Pending.Recycle rest chosen h = tt
  stands Pending.Left rest chosen h = tt
  stands Pending.Tick rest chosen h = tt
  stands (Pending.TimeOut who) rest chosen h = tt
  stands Pending.Expire rest chosen h = tt
  stands (Pending.Cut who) rest chosen h = cut-alone who chosen
  stands q rest chosen h = h

  at : (steps : Steps) → me.pending ≡ steps → Creates me.child steps
  at steps e = subst (Creates me.child) e (all t)

  pub offered-stands : (q : Pending) (rest : Steps) → MayChoose m t x q → Offers m t q rest → Stands q rest
  offered-stands q rest chosen (goes e) = stands q rest chosen (at (q ∷ rest) e)
  offered-stands q rest chosen (skips_inherit {who = who} e due) = stands q rest chosen (inherit-next me.child who q rest (at (Pending.Inherit who ∷ q ∷ rest) e))
  offered-stands q rest chosen (skips_drops {from = from} e due) =
      let was = at (Pending.Drops from ∷ q ∷ rest) e in stands q rest chosen (goes-in-order me.child (q ∷ rest) was.0 was.1)
  offered-stands _ _ chosen (begins e lives free there) = at [] e
  offered-stands _ _ chosen (exits e lives free there) = at [] e
  offered-stands _ _ chosen (stops e lives must) = at [] e
  offered-stands _ _ chosen (leaves ending) = tt
  offered-stands (Pending.CleanPair who) _ chosen (tends is started) = tt
  offered-stands Pending.Recycle _ chosen (tends is started) = tt
  offered-stands Pending.Tick _ chosen (tends is started) = tt
  offered-stands (Pending.TimeOut who) _ chosen (tends is started) = tt
  offered-stands Pending.Expire _ chosen (tends is started) = tt
  offered-stands (Pending.Cut who) _ chosen (tends is started) = cut-alone who chosen
  offered-stands q _ chosen (tends is started) = cc

  fits : (q : Pending) (rest : Steps) (th : Thread) → AsBefore key_of CreatesSo ignores m t q th → Stands q rest → Fits th.child rest (next_of m t x q)
  fits (Pending.Own who) rest th same h = h.1
  fits (Pending.Start who script stack priority mode) rest th same h = h.1
  fits (Pending.Inherit who) rest th same h = subst (λ (k : Key). Creates k.child (Pending.Inherit who ∷ rest)) (sym same) h
  fits Pending.Exit rest th same h = tt
  fits (Pending.Fatal reason cause) rest th same h = tt
  fits (Pending.CleanPair who) rest th same h = tt
  fits Pending.Recycle rest th same h = tt
  fits Pending.Killed rest th same h = tt
  fits Pending.Left rest th same h = tt
  fits Pending.Tick rest th same h = tt
  fits (Pending.TimeOut who) rest th same h = tt
  fits Pending.Expire rest th same h = tt
  fits (Pending.Cut who) rest th same h = tt
  fits q rest th same h = (ap (λ (k : Key). k.child) same ∙ h.0, h.1)

  -- a cut leaves one who waited nothing but that it is killed
  set-creates : (v : ℕ) (th : Thread) → CreatesSo (key_of th) → (u : ℕ) → CreatesSo (key_of (thread_at (with_thread m v th) u))
  set-creates v th new u = at_set (λ n (z : Thread). CreatesSo (key_of z)) m.threads v u th nobody new (all u)

  pub creates-after : (q : Pending) (rest : Steps) → Stands q rest → AllCreate (T.after m t x q rest)
  creates-after (Pending.Cut who) rest h = set-creates who.0 (cut (thread_at m who.0)) (h, tt)
  creates-after q rest h =
      each-uncut key_of CreatesSo ignores m t x q rest tt (λ who script stack priority mode. (refl, tt)) all
      (λ u th image same was. gone-creates rest u t (next_of m t x q) th (fits q rest th same h) was)

creates-run : (s : State) (events : List Event) (s2 : State) → AllCreate s → Runs s events s2 → AllCreate s2
creates-run s [] s2 all run = subst AllCreate (sym run) all
creates-run s (event ∷ events) s2 all (mid, step, rest) =
    creates-run mid events s2
    (subst AllCreate (sym step.leaves) (creates-after s event.thread.0 step.row all step.step step.rest (offered-stands s event.thread.0 step.row all step.step step.rest step.chosen step.offered))) rest

-- at the opening no thread is in a call
opening-creates : (image : Image) → AllCreate (opening image)
opening-creates image u =
    let new = new-thread image u in
    subst (λ (z : Option ThreadIx × Steps). Creates z.0 z.1) (λ i. (sym new.child i, sym new.rests i)) (refl, tt)

pub children-known : (image : Image) (cpus : ℕ) (m : State) → IsReachable image cpus m → AllCreate m
children-known image cpus m reach = creates-run (opening image) reach.0 m (opening-creates image) reach.1
