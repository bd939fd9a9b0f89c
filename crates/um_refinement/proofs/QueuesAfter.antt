-- What the calls of threads know to be message queues, they know after each step of the access-matrix machine, if what was one still is and
-- what the step fills or finds initialised is one.
use Rattle.um_refinement.proofs.Words.{◌≡◌, ◌⊎◌, inl, inr, ℕ, ◌+◌, Bool, true, false, List, [], ◌∷◌, Option, Some, None, refl, sym, ap, ◌∙◌, subst, ◌&&◌, not, if◌then◌else◌, nat_lt, slice_index_or, slice_set, Answer, Ask, Waiter, Image, THREADS, Addr, Errno, Kind, Policy, Reply, Want, row_at, Contents, Amount, Pending, Refusal, Thread, has_kind, verdict, Steps, steps_of, fatal_steps, Offers, begins, exits, goes, skips_drops, skips_inherit, queue, State, is_user, object_at, pair_at, thread_at, Call, core_of, IsSited, row_kind, IsKnown, passed, row_is, Change, Next, Way, gone, steps_by, checked_way, told_way, Ignores, all_other, each-after, next_of, HoldsOfWays, way-left, Mode, fills, call_of, kind_is, row_has, work_change, work_way, IsAsBefore, tends, changed-same}
use Rattle.um_machine.specs.Objects.{is_live, verdict_at}
use Rattle.um_machine.specs.Table as T
use Rattle.um_machine.specs.Run.{leaves, stops}
use Rattle.um_refinement.proofs.CallsProper.{passed-held}
use Rattle.um_refinement.proofs.QueueSteps.{Queued, queue-kind, queue_checked, queued-steps}
use Rattle.um_refinement.proofs.StepsLeft.{fatal-left}

module _ (image : Image) (IsOne : ℕ → Type 0) where
  -- the row that a call knows to be a queue is one of queues, the call holds its object, and that is a queue
  abbrev pub Holds : List Bool → Option ℕ → Type 0
  Holds checked None = Unit {0}
  Holds checked (Some x) = (slice_index_or checked x false ≡ true) × (row_kind image x ≡ Kind.Msgq) × IsOne x

  pub record IsQueued (call : Call) : Type 0 where
    pub known : Option ℕ
    pub holds : Holds call.checked known
    pub steps : Queued image known call.pending

  abbrev pub AreQueued : State → Type 0
  AreQueued s = (u : ℕ) → IsQueued (call_of (thread_at s u))

-- a check that is passed of what is to be initialised has found it so
marked-first : (a b init : Bool) (e f g : Errno) → (if a then Some e else if b then Some f else if init then None else Some g) ≡ None → init ≡ true
marked-first true b init e f g h = absurd (subst (λ (o : Option Errno). elim o as (λ _. Type 0) [ None ↦ ⊥ | Some e ↦ Unit {0} ]) h tt)
marked-first false true init e f g h = absurd (subst (λ (o : Option Errno). elim o as (λ _. Type 0) [ None ↦ ⊥ | Some e ↦ Unit {0} ]) h tt)
marked-first false false true e f g h = refl
marked-first false false false e f g h = absurd (subst (λ (o : Option Errno). elim o as (λ _. Type 0) [ None ↦ ⊥ | Some e ↦ Unit {0} ]) h tt)

-- filling contents answers zero, or an error
pub filled-answer : (new old : Contents) (ws : List Waiter) → ((fills new old ws).answer ≡ Answer.Now (Reply.Num 0)) ⊎ ((fills new old ws).answer ≡ Answer.Now (Reply.Fail Errno.EADDRINUSE))
filled-answer new Contents.Nothing ws = inl refl
filled-answer new old ws = inr refl

-- the step fills the queue of a row
abbrev pub Fills : State → ℕ → ℕ → Pending → Type 0
Fills m t y (Pending.Work a (Ask.MsgqInit size most pool)) = (T.row_of m a ≡ y) × ((T.work_of m t a (Ask.MsgqInit size most pool)).answer ≡ Answer.Now (Reply.Num 0))
Fills m t y q = ⊥

ignores : Ignores call_of all_other
ignores = record { due = λ h me due. refl; told = λ h me told. refl; domain = λ h me domain. refl; doomed = λ h me. refl; flagged = λ h me aborted suspended. refl }

-- What has to be known of a call that goes on so.

module _ (image : Image) (IsOne : ℕ → Type 0) where
  abbrev Behind : Call → Steps → Type 0
  Behind c steps = IsQueued image IsOne (record c { pending = steps })

  abbrev Fits : Call → Steps → Next → Type 0
  Fits c left (Next.checks x None way) = IsQueued image IsOne (record c { checked = slice_set c.checked x true; pending = steps_by left way })
  Fits c left (Next.checks x (Some e) way) = Behind c (steps_by left way)
  Fits c left (Next.answers to reply) = Queued image None left
  Fits c left Next.starts = Queued image None left
  Fits c left (Next.begins instr) = Unit {0}
  Fits c left (Next.dooms from) = Unit {0}
  Fits c left (Next.enters script) = Unit {0}
  Fits c left Next.exits = Unit {0}
  Fits c left (Next.fatal reason) = Unit {0}
  Fits c left Next.stays = Unit {0}
  Fits c left next = Behind c left

  ways : (known : Option ℕ) → HoldsOfWays (Queued image known)
  ways known = record { call = (λ a left h. h, λ left h. h, λ a left h. h); runs_to = λ a before deadline left h. h; replies = λ reply. tt; fails = λ reason cause. (tt, λ size. tt, λ a. tt) }

  by-way : (c : Call) (left : Steps) (way : Way) → Behind c left → Behind c (steps_by left way)
  by-way c left way h = record { known = h.known; holds = h.holds; steps = way-left (Queued image h.known) (ways h.known) left way h.steps }

  refused-queued : (mode : Mode) (refusal : Refusal) (e : Errno) (left : Steps) → Queued image None (steps_by left (checked_way mode refusal (Some e)))
  refused-queued mode Refusal.Fails e left = tt
  refused-queued Mode.User Refusal.FailsUser e left = tt
  refused-queued Mode.Supervisor Refusal.FailsUser e left = tt
  refused-queued mode (Refusal.Answers reply) e left = tt
  refused-queued mode (Refusal.AnswersUninit reply) Errno.EINVAL left = tt
  refused-queued mode (Refusal.AnswersUninit reply) e left = tt

  fatal-queued : (i : Image) (t : ℕ) (me : Thread) (reason : ℕ) (policy : Policy) → Queued image None (fatal_steps i t me reason policy)
  fatal-queued i t me reason policy = fatal-left (Queued image None) i t me tt tt reason policy

  doom-queued : (from : ℕ) → Queued image None (T.next_doom from)
  doom-queued from = elim (nat_lt (from + 1) THREADS) as (λ b. Queued image None (if b then Pending.Dooms (from + 1) ∷ [] else [])) [ true ↦ tt | false ↦ tt ]

  -- it goes on with these steps, and with what it held
  goes-so : (left : Steps) (u : State) (t : ℕ) (change : Change) (way : Way) (me : Thread) → Behind (call_of me) (steps_by left way)
      → IsQueued image IsOne (call_of (gone left u t (Next.on change way) me))
  goes-so left u t change way me h =
      record { known = h.known; holds = subst (λ (held : List Bool). Holds image IsOne held h.known) (sym (changed-same (λ me. me.checked) (λ me registers reply buffer until. refl) change me)) h.holds; steps = h.steps }

  gone-queued : IsSited image → (left : Steps) (u : State) (t : ℕ) (next : Next) (me : Thread) → u.image ≡ image → Fits (call_of me) left next → IsQueued image IsOne (call_of me)
      → IsQueued image IsOne (call_of (gone left u t next me))
  gone-queued sited left u t (Next.on change way) me same h was = goes-so left u t change way me (by-way (call_of me) left way h)
  gone-queued sited left u t (Next.checks x None way) me same h was = record { known = h.known; holds = h.holds; steps = h.steps }
  gone-queued sited left u t (Next.checks x (Some e) way) me same h was = record { known = h.known; holds = h.holds; steps = h.steps }
  gone-queued sited left u t (Next.answers to reply) me same h was = record { known = None; holds = tt; steps = h }
  gone-queued sited left u t Next.starts me same h was = record { known = None; holds = tt; steps = h }
  gone-queued sited left u t (Next.begins None) me same h was = was
  gone-queued sited left u t (Next.begins (Some instr)) me same h was =
      record { known = None; holds = tt; steps = subst (λ (i : Image). Queued image None (steps_of i t me instr)) (sym same) (queued-steps image None sited t me instr) }
  gone-queued sited left u t (Next.resumes None) me same h was = was
  gone-queued sited left u t (Next.resumes (Some told)) me same h was =
      let next = by-way (call_of me) left (told_way told.reply) h in record { known = next.known; holds = next.holds; steps = next.steps }
  gone-queued sited left u t (Next.dooms from) me same h was = record { known = None; holds = tt; steps = doom-queued from }
  gone-queued sited left u t (Next.enters script) me same h was = record { known = None; holds = tt; steps = tt }
  gone-queued sited left u t Next.exits me same h was = record { known = None; holds = tt; steps = tt }
  gone-queued sited left u t (Next.fatal reason) me same h was = record { known = None; holds = tt; steps = fatal-queued u.image t me reason u.image.policy }
  gone-queued sited left u t Next.stays me same h was = was
  gone-queued sited left u t next me same h was = record { known = h.known; holds = h.holds; steps = h.steps }

module _ (m : State) (t x : ℕ) (IsOne : ℕ → Type 0) (all : AreQueued m.image IsOne m) where
  abbrev me : Thread
  me = thread_at m t

  -- what is known of a step that the thread is offered
  abbrev pub Stands : Pending → Steps → Type 0
  Stands Pending.Begin rest = Unit {0}
  Stands Pending.Exit rest = Unit {0}
  Stands Pending.Killed rest = Unit {0}
  Stands Pending.Left rest = Unit {0}
  Stands Pending.Tick rest = Unit {0}
  Stands (Pending.TimeOut who) rest = Unit {0}
  Stands Pending.Expire rest = Unit {0}
  Stands (Pending.Cut who) rest = Unit {0}
  Stands (Pending.CleanPair who) rest = Unit {0}
  Stands Pending.Recycle rest = Unit {0}
  Stands q rest = IsQueued m.image IsOne (record (call_of (thread_at m t)) { pending = q ∷ rest })

  stands : (q : Pending) (rest : Steps) → IsQueued m.image IsOne (record (call_of me) { pending = q ∷ rest }) → Stands q rest
  stands Pending.Begin rest h = tt
  stands Pending.Exit rest h = tt
  stands Pending.Killed rest h = tt
  stands Pending.Left rest h = tt
  stands Pending.Tick rest h = tt
  stands (Pending.TimeOut who) rest h = tt
  stands Pending.Expire rest h = tt
  stands (Pending.Cut who) rest h = tt
  stands (Pending.CleanPair who) rest h = tt
  stands Pending.Recycle rest h = tt
  stands q rest h = h

  at : (steps : Steps) → me.pending ≡ steps → IsQueued m.image IsOne (record (call_of me) { pending = steps })
  at steps e = subst (λ (left : Steps). IsQueued m.image IsOne (record (call_of me) { pending = left })) e (all t)

  pub offered-queued : (q : Pending) (rest : Steps) → Offers m t q rest → Stands q rest
  offered-queued q rest (goes e) = stands q rest (at (q ∷ rest) e)
  offered-queued q rest (skips_inherit {who = who} e due) =
      let was = at (Pending.Inherit who ∷ q ∷ rest) e in stands q rest (record { known = was.known; holds = was.holds; steps = was.steps })
  offered-queued q rest (skips_drops {from = from} e due) =
      let was = at (Pending.Drops from ∷ q ∷ rest) e in stands q rest (record { known = was.known; holds = was.holds; steps = was.steps })
  offered-queued _ _ (begins e lives doomed there) = tt
  offered-queued _ _ (exits e lives doomed there) = tt
  offered-queued _ _ (stops e lives must) = tt
  offered-queued _ _ (leaves ending) = tt
  offered-queued Pending.Tick _ (tends is started) = tt
  offered-queued (Pending.TimeOut who) _ (tends is started) = tt
  offered-queued Pending.Expire _ (tends is started) = tt
  offered-queued (Pending.Cut who) _ (tends is started) = tt
  offered-queued (Pending.CleanPair who) _ (tends is started) = tt
  offered-queued Pending.Recycle _ (tends is started) = tt
  offered-queued q _ (tends is started) = cc

  module _ (known : IsKnown (core_of m)) (opened : (y : ℕ) → row_kind m.image y ≡ Kind.Msgq → is_live (object_at m y).status ≡ true → (object_at m y).init ≡ true → IsOne y) where
    -- a check that is passed
    opens : (checked : List Bool) (kind : Option Kind) (want : Want) (y : ℕ) → has_kind kind (Some (row_kind m.image y)) ≡ true → is_live (object_at m y).status ≡ true
        → verdict_at m t kind want (Some y) ≡ None → slice_index_or checked y false ≡ true → Holds m.image IsOne checked (queue_checked kind want y)
    opens checked (Some Kind.Msgq) Want.Init y k lives said held =
        let at = queue-kind (row_kind m.image y) k in (held, at, opened y at lives (marked-first (not (is_live (object_at m y).status && has_kind (Some Kind.Msgq) (object_at m y).kind)) (is_user me.mode && not (pair_at m t y) && not (object_at m y).public) (object_at m y).init Errno.EBADF Errno.EPERM Errno.EINVAL said))
    opens checked kind want y k lives said held = tt

    checks : (a : Addr) (kind : Option Kind) (want : Want) (refusal : Refusal) (rest : Steps) → (before : Option ℕ) → Queued m.image before (Pending.Check a kind want refusal ∷ rest)
        → (v : Option Errno) → verdict m t a.0 kind want ≡ v → Fits m.image IsOne (call_of me) rest (Next.checks (T.row_of m a) v (checked_way me.mode refusal v))
    checks a kind want refusal rest before h (Some e) said = record { known = None; holds = tt; steps = refused-queued m.image IsOne me.mode refusal e rest }
    checks a kind want refusal rest before h None said =
        let p = passed m t kind want (row_at m.image a.0) said in
        let y = p.0 in
        let held = passed-held m known t a.0 y p.1 in
        let kinds : has_kind kind (Some (row_kind m.image y)) ≡ true = row_has kind (object_at m y).kind (row_kind m.image y) p.3 (λ h f. known.claimed.kinds y h (kind_is m y ∙ f)) in
        let said-y : verdict_at m t kind want (Some y) ≡ None = ap (verdict_at m t kind want) (sym p.1) ∙ said in
        record {
          known = queue_checked kind want y;
          holds = subst (λ n. Holds m.image IsOne (slice_set me.checked n true) (queue_checked kind want y)) (sym (row_is m a y p.1)) (opens (slice_set me.checked y true) kind want y kinds p.2 said-y held);
          steps = h y p.1 kinds;
        }

    -- a queue is filled, or that fails
    fills-left : (size most pool row : ℕ) (rest : Steps) (answer : Answer) → (answer ≡ Answer.Now (Reply.Num 0) → Holds m.image IsOne me.checked (Some row)) → Queued m.image (Some row) rest
        → (answer ≡ Answer.Now (Reply.Num 0)) ⊎ (answer ≡ Answer.Now (Reply.Fail Errno.EADDRINUSE)) → Behind m.image IsOne (call_of me) (steps_by rest (work_way me.mode (Ask.MsgqInit size most pool) answer))
    fills-left size most pool row rest answer filled h (inl e) =
        subst (λ (z : Answer). Behind m.image IsOne (call_of me) (steps_by rest (work_way me.mode (Ask.MsgqInit size most pool) z))) (sym e) (record { known = Some row; holds = filled e; steps = h })
    fills-left size most pool row rest answer filled h (inr e) =
        subst (λ (z : Answer). Behind m.image IsOne (call_of me) (steps_by rest (work_way me.mode (Ask.MsgqInit size most pool) z))) (sym e) (record { known = None; holds = tt; steps = tt })

    again : (n : Option ℕ) (steps : Steps) → Holds m.image IsOne me.checked n → Queued m.image n steps → Behind m.image IsOne (call_of me) steps
    again n steps holds h = record { known = n; holds = holds; steps = h }

    abbrev Made : Pending → Type 0
    Made q = (y : ℕ) → row_kind m.image y ≡ Kind.Msgq → Fills m t y q → Holds m.image IsOne me.checked (Some y)

    abbrev IsFit : Call → Steps → Pending → Type 0
    IsFit c rest (Pending.Work a (Ask.MsgqInit size most pool)) = Behind m.image IsOne c (steps_by rest (work_way me.mode (Ask.MsgqInit size most pool) (T.work_of m t a (Ask.MsgqInit size most pool)).answer))
    IsFit c rest q = Fits m.image IsOne c rest (next_of m t x q)

    fits : (q : Pending) (rest : Steps) → Stands q rest → Made q → IsFit (call_of me) rest q
    fits Pending.Begin rest h filled = tt
    fits Pending.Exit rest h filled = tt
    fits Pending.Killed rest h filled = tt
    fits Pending.Left rest h filled = tt
    fits Pending.Tick rest h filled = tt
    fits (Pending.TimeOut who) rest h filled = tt
    fits Pending.Expire rest h filled = tt
    fits (Pending.Cut who) rest h filled = tt
    fits (Pending.EnterUser script) rest h filled = tt
    fits (Pending.Fatal reason cause) rest h filled = tt
    fits (Pending.Dooms from) rest h filled = tt
    fits (Pending.CleanPair who) rest h filled = tt
    fits Pending.Recycle rest h filled = tt
    fits (Pending.Check a kind want refusal) rest h filled = checks a kind want refusal rest h.known h.steps (verdict m t a.0 kind want) refl
    fits (Pending.Probe a (Amount.MessageOf b)) rest h filled = again h.known rest h.holds h.steps.1
    fits (Pending.CopyIn a (Amount.MessageOf b)) rest h filled = again h.known rest h.holds h.steps.1
    fits (Pending.Work a (Ask.MsgqInit size most pool)) rest h filled =
        let w = T.work_of m t a (Ask.MsgqInit size most pool) in
        fills-left size most pool h.steps.0 rest w.answer (λ e. filled h.steps.0 h.steps.2 (row_is m a h.steps.0 h.steps.1, e)) h.steps.3
        (filled-answer (queue size most []) (object_at m (T.row_of m a)).contents (object_at m (T.row_of m a)).waiters)
    fits (Pending.Work a ask) rest h filled = again h.known rest h.holds h.steps.3
    fits (Pending.SetInit a strict undo) rest h filled = again h.known rest h.holds h.steps.3
    fits (Pending.Named who) rest h filled = again h.known rest h.holds h.steps.1
    fits (Pending.Answer reply to) rest h filled = h.steps
    fits (Pending.Start who script stack priority mode) rest h filled = h.steps
    fits q rest h filled = again h.known rest h.holds h.steps

    on : (q : Pending) (rest : Steps) (u : State) (th : Thread) → u.image ≡ m.image → IsAsBefore call_of (IsQueued m.image IsOne) ignores m t q th → IsFit (call_of me) rest q
        → IsQueued m.image IsOne (call_of th) → IsQueued m.image IsOne (call_of (gone rest u t (next_of m t x q) th))
    on (Pending.Start who script stack priority mode) rest u th image same h was = gone-queued m.image IsOne known.reached.sited rest u t Next.starts th image h was
    on (Pending.Work a (Ask.MsgqInit size most pool)) rest u th image same h was =
        let answer = (T.work_of m t a (Ask.MsgqInit size most pool)).answer in
        let way = work_way me.mode (Ask.MsgqInit size most pool) answer in
        goes-so m.image IsOne rest u t (work_change answer (T.work_of m t a (Ask.MsgqInit size most pool)).taken) way th
        (subst (λ (c : Call). Behind m.image IsOne c (steps_by rest way)) (sym same) h)
    on (Pending.Cut who) rest u th image same h was = was
    on q rest u th image same h was =
        let next = next_of m t x q in
        gone-queued m.image IsOne known.reached.sited rest u t next th image (subst (λ (c : Call). Fits m.image IsOne c rest next) (sym same) h) was

    pub queued-after : (q : Pending) (rest : Steps) → Stands q rest → ((y : ℕ) → row_kind m.image y ≡ Kind.Msgq → Fills m t y q → Holds m.image IsOne me.checked (Some y)) → AreQueued m.image IsOne (T.after m t x q rest)
    queued-after q rest h filled =
        each-after call_of (IsQueued m.image IsOne) ignores m t x q rest (λ who script stack priority mode. record { known = None; holds = tt; steps = tt })
        (λ th was. record { known = None; holds = tt; steps = tt }) all
        (λ u th image same was. on q rest u th image same (fits q rest h filled) was)
