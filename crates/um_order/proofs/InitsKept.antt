-- Each step of the machine keeps what calls mark.
use Rattle.std.specs.Prelude.{nat_lt, if◌then◌else◌}
use Rattle.std.proofs.Common.{◌≡◌, ℕ, ◌+◌, Bool, true, false, [], ◌∷◌, Option, Some, None, refl, sym, ap, ◌∙◌, subst}
use Rattle.std.proofs.lemmas.Bool.{false≢true}
use Rattle.um_base.specs.Places.{row_at}
use Rattle.um_base.specs.declared.image.Image.{Image}
use Rattle.um_base.specs.declared.limits.TheConstants.{THREADS}
use Rattle.um_base.specs.declared.names.Addr.{Addr}
use Rattle.um_base.specs.declared.names.Errno.{Errno}
use Rattle.um_base.specs.declared.names.Kind.{Kind}
use Rattle.um_base.specs.declared.names.Mode.{Mode}
use Rattle.um_base.specs.declared.names.Want.{Want}
use Rattle.um_machine.specs.Goes.{Next, Change, told_way, steps_by, checked_way, gone, changed, at_steps}
use Rattle.um_machine.specs.Objects.{has_kind, verdict}
use Rattle.um_machine.specs.Order.{Steps, steps_of}
use Rattle.um_machine.specs.Run.{Offers, goes, skips_inherit, skips_drops, begins, exits, leaves, stops, tends}
use Rattle.um_machine.specs.State.{State, thread_at, object_at}
use Rattle.um_machine.specs.Table as T
use Rattle.um_machine.specs.declared.pending.Pending.{Pending}
use Rattle.um_machine.specs.declared.pending.Refusal.{Refusal}
use Rattle.um_machine.specs.declared.thread.Thread.{Thread}
use Rattle.um_machine.proofs.EffectLemmas.{next_of, each-after, Ignores, all_other}
use Rattle.um_machine.proofs.WayLemmas.{HoldsOfWays, way-left}
use Rattle.um_invariants.proofs.Cores.{core_of, kind_is}
use Rattle.um_invariants.proofs.Guards.{row_kind, IsSited}
use Rattle.um_invariants.proofs.Turns.{IsKnown, row_has, passed}
use Rattle.um_refinement.proofs.StepsLeft.{fatal-left}
use Rattle.um_order.proofs.InitShapes.{Inits, inits-steps}

abbrev pub AllInits : Image → State → Type 0
AllInits image m = (u : ℕ) → Inits image (thread_at m u).pending

module _ (image : Image) (sited : IsSited image) where
  ways : HoldsOfWays (Inits image)
  ways = record { call = (λ a left h. h, λ left h. h, λ a left h. h); runs_to = λ a before deadline left h. h; replies = λ reply. tt; fails = λ reason cause. (tt, λ size. tt, λ a. tt) }

  refused-inits : (mode : Mode) (refusal : Refusal) (e : Errno) (left : Steps) → Inits image (steps_by left (checked_way mode refusal (Some e)))
  refused-inits mode Refusal.Fails e left = tt
  refused-inits Mode.User Refusal.FailsUser e left = tt
  refused-inits Mode.Supervisor Refusal.FailsUser e left = tt
  refused-inits mode (Refusal.Answers reply) e left = tt
  refused-inits mode (Refusal.AnswersUninit reply) Errno.EINVAL left = tt
  refused-inits mode (Refusal.AnswersUninit reply) e left = tt

  abbrev Fits : Steps → Next → Type 0
  Fits left (Next.checks x v way) = Inits image (steps_by left way)
  Fits left (Next.begins instr) = Unit {0}
  Fits left (Next.dooms from) = Unit {0}
  Fits left (Next.enters script) = Unit {0}
  Fits left Next.exits = Unit {0}
  Fits left (Next.fatal reason) = Unit {0}
  Fits left Next.stays = Unit {0}
  Fits left next = Inits image left

  changed-left : (i : Image) (change : Change) (me : Thread) (steps : Steps) → (at_steps i (changed change me) steps).pending ≡ steps
  changed-left i Change.nothing me steps = refl
  changed-left i change me steps = refl

  dooms-inits : (b : Bool) (from : ℕ) → Inits image (if b then Pending.Dooms (from + 1) ∷ [] else [])
  dooms-inits true from = tt
  dooms-inits false from = tt

  gone-inits : (left : Steps) (u : State) (t : ℕ) (next : Next) (me : Thread) → u.image ≡ image → Fits left next → Inits image me.pending → Inits image (gone left u t next me).pending
  gone-inits left u t (Next.on change way) me same h was = subst (Inits image) (sym (changed-left u.image change me (steps_by left way))) (way-left (Inits image) ways left way h)
  gone-inits left u t (Next.checks x None way) me same h was = h
  gone-inits left u t (Next.checks x (Some e) way) me same h was = h
  gone-inits left u t (Next.answers to reply) me same h was = h
  gone-inits left u t (Next.owns keeps) me same h was = h
  gone-inits left u t (Next.begins None) me same h was = was
  gone-inits left u t (Next.begins (Some instr)) me same h was = subst (λ (i : Image). Inits image (steps_of i t me instr)) (sym same) (inits-steps image sited t me instr)
  gone-inits left u t (Next.resumes None) me same h was = was
  gone-inits left u t (Next.resumes (Some told)) me same h was = way-left (Inits image) ways left (told_way told.reply) h
  gone-inits left u t (Next.creates who) me same h was = h
  gone-inits left u t Next.starts me same h was = h
  gone-inits left u t (Next.inherits who) me same h was = h
  gone-inits left u t (Next.drops from) me same h was = h
  gone-inits left u t (Next.dooms from) me same h was = dooms-inits (nat_lt (from + 1) THREADS) from
  gone-inits left u t (Next.enters script) me same h was = tt
  gone-inits left u t Next.exits me same h was = tt
  gone-inits left u t (Next.fatal reason) me same h was = fatal-left (Inits image) u.image t me tt tt reason u.image.policy
  gone-inits left u t Next.stays me same h was = was

  module _ (m : State) (same : m.image ≡ image) (known : IsKnown (core_of m)) (all : AllInits image m) (t x : ℕ) where
    -- what is known of a step that is offered
    abbrev Stands : Pending → Steps → Type 0
    Stands Pending.Begin rest = Unit {0}
    Stands Pending.Exit rest = Unit {0}
    Stands Pending.Killed rest = Unit {0}
    Stands (Pending.CleanPair who) rest = Unit {0}
    Stands Pending.Recycle rest = Unit {0}
    Stands Pending.Left rest = Unit {0}
    Stands Pending.Tick rest = Unit {0}
    Stands (Pending.TimeOut who) rest = Unit {0}
    Stands Pending.Expire rest = Unit {0}
    Stands (Pending.Cut who) rest = Unit {0}
    Stands q rest = Inits image (q ∷ rest)

    stands : (q : Pending) (rest : Steps) → Inits image (q ∷ rest) → Stands q rest
    stands Pending.Begin rest h = tt
    stands Pending.Exit rest h = tt
    stands Pending.Killed rest h = tt
    stands (Pending.CleanPair who) rest h = tt
    stands Pending.Recycle rest h = tt
    stands Pending.Left rest h = tt
    stands Pending.Tick rest h = tt
    stands (Pending.TimeOut who) rest h = tt
    stands Pending.Expire rest h = tt
    stands (Pending.Cut who) rest h = tt
    stands q rest h = h

    pub offered-inits : (q : Pending) (rest : Steps) → Offers m t q rest → Stands q rest
    offered-inits q rest offers = by offers
      where
        by : {q : Pending} {rest : Steps} → Offers m t q rest → Stands q rest
        by (goes {p} {rest} e) = stands p rest (subst (Inits image) e (all t))
        by (skips_inherit {who} {p} {rest} e due) = stands p rest (subst (Inits image) e (all t))
        by (skips_drops {from} {p} {rest} e due) = stands p rest (subst (Inits image) e (all t))
        by (begins e lives may there) = tt
        by (exits e lives may there) = tt
        by (stops e lives must) = tt
        by (leaves ends) = tt
        by (tends {p = Pending.CleanPair who} is started) = tt
        by (tends {p = Pending.Recycle} is started) = tt
        by (tends {p = Pending.Tick} is started) = tt
        by (tends {p = Pending.TimeOut who} is started) = tt
        by (tends {p = Pending.Expire} is started) = tt
        by (tends {p = Pending.Cut who} is started) = tt
        by (tends {p = q} is started) = absurd (false≢true is)

    checks : (a : Addr) (kind : Option Kind) (want : Want) (refusal : Refusal) (rest : Steps) → Inits image (Pending.Check a kind want refusal ∷ rest)
        → (v : Option Errno) → verdict m t a.0 kind want ≡ v → Inits image (steps_by rest (checked_way (thread_at m t).mode refusal v))
    checks a kind want refusal rest h (Some e) said = refused-inits (thread_at m t).mode refusal e rest
    checks a kind want refusal rest h None said =
        let p = passed m t kind want (row_at m.image a.0) said in
        let y = p.0 in
        let has = row_has kind (object_at m y).kind (row_kind m.image y) p.3 (λ k e. known.claimed.kinds y k (kind_is m y ∙ e)) in
        h y (ap (λ (i : Image). row_at i a.0) (sym same) ∙ p.1) (subst (λ (i : Image). has_kind kind (Some (row_kind i y)) ≡ true) same has)

    fits : (q : Pending) (rest : Steps) → Stands q rest → Fits rest (next_of m t x q)
    fits (Pending.Check a kind want refusal) rest h = checks a kind want refusal rest h (verdict m t a.0 kind want) refl
    fits (Pending.SetInit a strict undo) rest h = h.1
    fits (Pending.Join who timeout) rest h = h.1
    fits Pending.Begin rest h = tt
    fits Pending.Exit rest h = tt
    fits Pending.Killed rest h = tt
    fits (Pending.Fatal reason cause) rest h = tt
    fits (Pending.Dooms from) rest h = tt
    fits (Pending.EnterUser script) rest h = tt
    fits (Pending.CleanPair who) rest h = tt
    fits Pending.Recycle rest h = tt
    fits Pending.Left rest h = tt
    fits Pending.Tick rest h = tt
    fits (Pending.TimeOut who) rest h = tt
    fits Pending.Expire rest h = tt
    fits (Pending.Cut who) rest h = tt
    fits q rest h = h

    pending_of : Thread → Steps
    pending_of me = me.pending

    ignores : Ignores (λ (me : Thread). me.pending) all_other
    ignores = record { due = λ h me due. refl; told = λ h me told. refl; domain = λ h me domain. refl; doomed = λ h me. refl; flagged = λ h me aborted suspended. refl }

    pub inits-after : (q : Pending) (rest : Steps) → Offers m t q rest → AllInits image (T.after m t x q rest)
    inits-after q rest offers =
        each-after (λ (me : Thread). me.pending) (Inits image) ignores m t x q rest (λ who script stack priority mode. tt) (λ me was. tt) all
        (λ u me image_same before was. gone-inits rest u t (next_of m t x q) me (image_same ∙ same) (fits q rest (offered-inits q rest offers)) was)
