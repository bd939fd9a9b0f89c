-- The steps that are left of each thread's call are proper in every state that a run of a described image reaches: each step of the
-- access-matrix machine keeps that.
use Rattle.um_machine.specs.Run.{leaves, stops}
use Rattle.um_refinement.proofs.Words.{thread_of_addr, ◌<◌, ◌≡◌, ℕ, ◌+◌, Bool, true, false, List, [], ◌∷◌, length, Option, Some, None, refl, sym, ap, ◌∙◌, subst, arith, if◌then◌else◌, nat_lt, slice_index_or, slice_set, true≢false, get_or-set_same, Event, Image, Instr, ROWS, THREADS, Addr, Errno, Kind, Mode, Policy, Want, IsLawful, is_lawful_line, row_at, Pending, Refusal, Thread, Change, Next, changed, checked_way, gone, steps_by, told_way, verdict, Steps, fatal_steps, steps_of, Offers, Runs, begins, exits, goes, skips_drops, skips_inherit, State, instruction_at, is_living, no_rows, nobody, thread_at, with_thread, Ignores, all_other, each-after, next_of, HoldsOfWays, way-left, Call, at_set, call_is, core_of, IsKnown, below_rows, passed, row_is, IsSited, call_of, none_checked, image_move, known_step, step_move, tends, false≢true, kind_is, object_at, row_has, row_kind}
use Rattle.um_machine.specs.Table as T
use Rattle.um_refinement.proofs.CallSteps.{Bare, Proper, line-lawful, proper-steps, thread-below}
use Rattle.um_refinement.proofs.StepsLeft.{fatal-left}

-- the steps of a thread that has ended
abbrev pub Closing : Steps → Type 0
Closing [] = Unit {0}
Closing (Pending.Drops from ∷ rest) = Closing rest
Closing (Pending.ClearInit a ∷ rest) = Closing rest
Closing (Pending.Dooms from ∷ rest) = Closing rest
Closing (Pending.Killed ∷ rest) = Closing rest
Closing (p ∷ rest) = ⊥

-- the steps of a call are proper, and a thread that doesn't live holds nothing
abbrev pub IsProper : Image → Call → Type 0
IsProper image call = Proper image call.checked call.pending × (call.living ≡ false → Bare call.checked × Closing call.pending)

abbrev pub AreProper : Image → State → Type 0
AreProper image s = (u : ℕ) → IsProper image (call_of (thread_at s u))

pub none-held : Bare no_rows
none-held x = none_checked x ROWS

lives-on : (b : Bool) {A : Type 0} → (b ≡ false → A × ⊥) → b ≡ true
lives-on true h = refl
lives-on false h = absurd (h refl).1

-- a check that is passed found a row, whose object the call holds from then on
pub passed-held : (m : State) → IsKnown (core_of m) → (t a y : ℕ) → row_at m.image a ≡ Some y → slice_index_or (slice_set (thread_at m t).checked y true) y false ≡ true
passed-held m known t a y e =
    let few = below_rows m.image y known.reached.sited (known.reached.sited.found a y e).0 in
    let wide : length (thread_at m t).checked ≡ ROWS = ap (λ (c : Call). length c.checked) (sym (call_is m t)) ∙ known.reached.wide t in
    get_or-set_same (thread_at m t).checked y true false (omega (arith, few, wide))

-- What has to be known of a call that goes on so.

module _ (image : Image) where
  abbrev Going : Call → List Bool → Steps → Type 0
  Going c checked steps = (c.living ≡ true) × Proper image checked steps

  abbrev with_held : ℕ → Option Errno → List Bool → List Bool
  with_held x None checked = slice_set checked x true
  with_held x (Some e) checked = checked

  abbrev IsLine : Option Instr → Type 0
  IsLine None = Unit {0}
  IsLine (Some instr) = (script : ℕ) × (is_lawful_line image script instr ≡ true)

  abbrev Fits : Call → Steps → Next → Type 0
  Fits c left (Next.on change way) = Going c c.checked left
  Fits c left (Next.checks x v way) = Going c (with_held x v c.checked) (steps_by left way)
  Fits c left (Next.answers to reply) = (c.living ≡ true) × (left ≡ [])
  Fits c left (Next.owns keeps) = IsProper image (record c { pending = left })
  Fits c left (Next.begins instr) = (c.living ≡ true) × Bare c.checked × IsLine instr
  Fits c left (Next.resumes told) = Going c c.checked left
  Fits c left (Next.creates who) = Going c c.checked left
  Fits c left Next.starts = (c.living ≡ true) × ((held : List Bool) → Proper image held left)
  Fits c left (Next.inherits who) = Going c c.checked (Pending.Inherit who ∷ left)
  Fits c left (Next.drops from) = IsProper image (record c { pending = Pending.Drops from ∷ left })
  Fits c left (Next.dooms from) = Bare c.checked
  Fits c left (Next.enters script) = (c.living ≡ true) × Bare c.checked
  Fits c left next = Unit {0}

  ways : (held : List Bool) → HoldsOfWays (Proper image held)
  ways held = record { call = (λ a left h. h, λ left h. h, λ a left h. h); runs_to = λ a before deadline left h. h; replies = λ reply. refl; fails = λ reason cause. (tt, λ size. tt, λ a. tt) }

  going : (c : Call) (checked : List Bool) (steps : Steps) → Going c checked steps → IsProper image (record c { checked = checked; pending = steps })
  going c checked steps h = (h.1, λ dead. absurd (true≢false (sym h.0 ∙ dead)))

  call-changed : (i : Image) (change : Change) (me : Thread) (steps : Steps) → call_of (T.at_steps i (changed change me) steps) ≡ record (call_of me) { pending = steps }
  call-changed i Change.nothing me steps = refl
  call-changed i change me steps = refl

  refused-proper : (held : List Bool) (mode : Mode) (refusal : Refusal) (e : Errno) (left : Steps) → Proper image held (steps_by left (checked_way mode refusal (Some e)))
  refused-proper held mode Refusal.Fails e left = tt
  refused-proper held Mode.User Refusal.FailsUser e left = tt
  refused-proper held Mode.Supervisor Refusal.FailsUser e left = refl
  refused-proper held mode (Refusal.Answers reply) e left = refl
  refused-proper held mode (Refusal.AnswersUninit reply) Errno.EINVAL left = refl
  refused-proper held mode (Refusal.AnswersUninit reply) e left = tt

  fatal-closes : (i : Image) (t : ℕ) (me : Thread) (reason : ℕ) (policy : Policy) → Proper image no_rows (fatal_steps i t me reason policy) × (Bare no_rows × Closing (fatal_steps i t me reason policy))
  fatal-closes i t me reason policy =
      fatal-left (λ steps. Proper image no_rows steps × (Bare no_rows × Closing steps)) i t me (none-held, (none-held, tt)) (none-held, (none-held, tt)) reason policy

  dooms-next : (held : List Bool) (b : Bool) (from : ℕ) → Bare held → Proper image held (if b then Pending.Dooms (from + 1) ∷ [] else []) × Closing (if b then Pending.Dooms (from + 1) ∷ [] else [])
  dooms-next held true from none = (none, tt)
  dooms-next held false from none = (none, tt)

  gone-proper : IsSited image → ((a : ℕ) → thread_of_addr image a < THREADS) → (left : Steps) (u : State) (t : ℕ) (next : Next) (me : Thread) → u.image ≡ image → Fits (call_of me) left next → IsProper image (call_of me)
      → IsProper image (call_of (gone left u t next me))
  gone-proper sited below left u t (Next.on change way) me same h was =
      subst (IsProper image) (sym (call-changed u.image change me (steps_by left way))) (going (call_of me) me.checked (steps_by left way) (h.0, way-left (Proper image me.checked) (ways me.checked) left way h.1))
  gone-proper sited below left u t (Next.checks x None way) me same h was = going (call_of me) (slice_set me.checked x true) (steps_by left way) h
  gone-proper sited below left u t (Next.checks x (Some e) way) me same h was = going (call_of me) me.checked (steps_by left way) h
  gone-proper sited below left u t (Next.answers to reply) me same h was = going (call_of me) no_rows left (h.0, subst (Proper image no_rows) (sym h.1) none-held)
  gone-proper sited below left u t (Next.owns keeps) me same h was = (h.0, h.1)
  gone-proper sited below left u t (Next.begins None) me same h was = was
  gone-proper sited below left u t (Next.begins (Some instr)) me same h was =
      going (call_of me) me.checked (steps_of u.image t me instr)
      (h.0, subst (λ (i : Image). Proper image me.checked (steps_of i t me instr)) (sym same) (proper-steps image sited below t me h.1 h.2.0 instr h.2.1))
  gone-proper sited below left u t (Next.resumes None) me same h was = was
  gone-proper sited below left u t (Next.resumes (Some told)) me same h was =
      going (call_of me) me.checked (steps_by left (told_way told.reply)) (h.0, way-left (Proper image me.checked) (ways me.checked) left (told_way told.reply) h.1)
  gone-proper sited below left u t (Next.creates who) me same h was = going (call_of me) me.checked left h
  gone-proper sited below left u t Next.starts me same h was = going (call_of me) me.checked left (h.0, h.1 me.checked)
  gone-proper sited below left u t (Next.inherits who) me same h was = going (call_of me) me.checked (Pending.Inherit who ∷ left) h
  gone-proper sited below left u t (Next.drops from) me same h was = h
  gone-proper sited below left u t (Next.dooms from) me same h was = let next = dooms-next me.checked (nat_lt (from + 1) THREADS) from h in (next.0, λ dead. (h, next.1))
  gone-proper sited below left u t (Next.enters script) me same h was = going (call_of me) me.checked [] (h.0, h.1)
  gone-proper sited below left u t Next.exits me same h was = (none-held, λ dead. (none-held, tt))
  gone-proper sited below left u t (Next.fatal reason) me same h was = let closes = fatal-closes u.image t me reason u.image.policy in (closes.0, λ dead. closes.1)
  gone-proper sited below left u t Next.stays me same h was = was

ignores : Ignores call_of all_other
ignores = record { due = λ h me due. refl; told = λ h me told. refl; domain = λ h me domain. refl; doomed = λ h me. refl; flagged = λ h me aborted suspended. refl }

module _ (m : State) (t x : ℕ) where
  abbrev me : Thread
  me = thread_at m t

  -- what is known of a step that the thread is offered
  abbrev pub Stands : Pending → Steps → Type 0
  Stands Pending.Begin rest = Bare (thread_at m t).checked × (is_living (thread_at m t).life ≡ true)
  Stands Pending.Exit rest = Bare (thread_at m t).checked × (is_living (thread_at m t).life ≡ true)
  Stands (Pending.CleanPair who) rest = Unit {0}
  Stands Pending.Recycle rest = Unit {0}
  Stands Pending.Left rest = Unit {0}
  Stands Pending.Tick rest = Unit {0}
  Stands (Pending.TimeOut who) rest = Unit {0}
  Stands Pending.Expire rest = Unit {0}
  Stands (Pending.Cut who) rest = Unit {0}
  Stands q rest = IsProper m.image (record (call_of (thread_at m t)) { pending = q ∷ rest })

  stands : (q : Pending) (rest : Steps) → IsProper m.image (record (call_of (thread_at m t)) { pending = q ∷ rest }) → Stands q rest
  stands Pending.Begin rest h = absurd h.0
  stands Pending.Exit rest h = absurd h.0
  stands (Pending.CleanPair who) rest h = absurd h.0
  stands Pending.Recycle rest h = absurd h.0
  stands Pending.Left rest h = absurd h.0
  stands Pending.Tick rest h = absurd h.0
  stands (Pending.TimeOut who) rest h = absurd h.0
  stands Pending.Expire rest h = absurd h.0
  stands (Pending.Cut who) rest h = absurd h.0
  stands q rest h = h

  pub offered-proper : IsProper m.image (call_of (thread_at m t)) → (q : Pending) (rest : Steps) → Offers m t q rest → Stands q rest
  offered-proper h q rest offers = by offers
    where
      at : (steps : Steps) → (thread_at m t).pending ≡ steps → IsProper m.image (record (call_of (thread_at m t)) { pending = steps })
      at steps e = subst (λ (left : Steps). IsProper m.image (record (call_of (thread_at m t)) { pending = left })) e h

      by : {q : Pending} {rest : Steps} → Offers m t q rest → Stands q rest
      by (goes {p} {rest} e) = stands p rest (at (p ∷ rest) e)
      by (skips_inherit {who} {p} {rest} e due) =
          let was = at (Pending.Inherit who ∷ p ∷ rest) e in stands p rest (was.0.1, λ dead. absurd (was.1 dead).1)
      by (skips_drops {from} {p} {rest} e due) = stands p rest (at (Pending.Drops from ∷ p ∷ rest) e)
      by (begins e lives doomed there) = ((at [] e).0, lives)
      by (exits e lives doomed there) = ((at [] e).0, lives)
      by (tends {p = Pending.CleanPair who} is started) = tt
      by (stops e lives must) = (refl, λ dead. absurd (true≢false (sym lives ∙ dead)))
      by (leaves ends) = tt
      by (tends {p = Pending.Recycle} is started) = tt
      by (tends {p = Pending.Tick} is started) = tt
      by (tends {p = Pending.TimeOut who} is started) = tt
      by (tends {p = Pending.Expire} is started) = tt
      by (tends {p = Pending.Cut who} is started) = tt
      by (tends {p = q} is started) = absurd (false≢true is)

  module _ (all : AreProper m.image m) (known : IsKnown (core_of m)) (lawful : IsLawful m.image) where
    -- a check
    checks : (a : Addr) (kind : Option Kind) (want : Want) (refusal : Refusal) (rest : Steps) → is_living me.life ≡ true
        → Proper m.image me.checked (Pending.Check a kind want refusal ∷ rest) → (v : Option Errno) → verdict m t a.0 kind want ≡ v
        → Fits m.image (call_of me) rest (Next.checks (T.row_of m a) v (checked_way me.mode refusal v))
    checks a kind want refusal rest lives h (Some e) said = (lives, refused-proper m.image me.checked me.mode refusal e rest)
    checks a kind want refusal rest lives h None said =
        let p = passed m t kind want (row_at m.image a.0) said in
        let y = p.0 in
        let has = row_has kind (object_at m y).kind (row_kind m.image y) p.3 (λ k e. known.claimed.kinds y k (kind_is m y ∙ e)) in
        (lives, subst (λ n. Proper m.image (slice_set me.checked n true) rest) (sym (row_is m a y p.1)) (h y p.1 (passed-held m known t a.0 y p.1) has))

    line : (instr : Option Instr) → instruction_at m.image me.place ≡ instr → IsLine m.image instr
    line None e = tt
    line (Some instr) e = (me.place.script, line-lawful m.image lawful me.place instr e)

    abbrev alive : {A : Type 0} → (is_living me.life ≡ false → A × ⊥) → is_living me.life ≡ true
    alive h = lives-on (is_living me.life) h

    fits : (q : Pending) (rest : Steps) → Stands q rest → Fits m.image (call_of me) rest (next_of m t x q)
    fits Pending.Begin rest h = (h.1, h.0, line (instruction_at m.image me.place) refl)
    fits Pending.Exit rest h = tt
    fits (Pending.Fatal reason cause) rest h = tt
    fits (Pending.CleanPair who) rest h = tt
    fits Pending.Recycle rest h = tt
    fits Pending.Killed rest h = tt
    fits Pending.Left rest h = tt
    fits Pending.Tick rest h = tt
    fits (Pending.TimeOut who) rest h = tt
    fits Pending.Expire rest h = tt
    fits (Pending.Cut who) rest h = tt
    fits (Pending.Check a kind want refusal) rest h = checks a kind want refusal rest (alive h.1) h.0 (verdict m t a.0 kind want) refl
    fits (Pending.ClearInit a) rest h = h
    fits (Pending.Drops from) rest h = h
    fits (Pending.Dooms from) rest h = h.0
    fits (Pending.Work a ask) rest h = (alive h.1, h.0.1)
    fits (Pending.Grant who a) rest h = (alive h.1, h.0.1)
    fits (Pending.Publish a) rest h = (alive h.1, h.0.1)
    fits (Pending.SetInit a strict undo) rest h = (alive h.1, h.0.1)
    fits (Pending.Named who) rest h = (alive h.1, h.0.1)
    fits (Pending.Abort who) rest h = (alive h.1, h.0.1)
    fits (Pending.Suspend who) rest h = (alive h.1, h.0.1)
    fits (Pending.Continue who) rest h = (alive h.1, h.0.1)
    fits (Pending.Join who timeout) rest h = (alive h.1, h.0.1)
    fits (Pending.DomInit d parts) rest h = (alive h.1, h.0.1)
    fits (Pending.DomAdd d range attr) rest h = (alive h.1, h.0.1)
    fits (Pending.DomRemove d range attr) rest h = (alive h.1, h.0.1)
    fits (Pending.DomMove d who) rest h = (alive h.1, h.0.1)
    fits q rest h = (alive h.1, h.0)

    set : (s : State) → AreProper m.image s → (v : ℕ) (th : Thread) → IsProper m.image (call_of th) → AreProper m.image (with_thread s v th)
    set s was v th new u = at_set (λ n (z : Thread). IsProper m.image (call_of z)) s.threads v u th nobody new (was u)

    pub proper-after : (q : Pending) (rest : Steps) → Stands q rest → AreProper m.image (T.after m t x q rest)
    proper-after (Pending.Start who script stack priority mode) rest h =
        let child = T.newborn m me who.0 script (Pending.Start who script stack priority mode) in
        let s = with_thread m who.0 child in
        let lives : is_living (thread_at s t).life ≡ true = at_set (λ n (z : Thread). is_living z.life ≡ true) m.threads who.0 t child nobody refl (alive h.1) in
        set s (set m all who.0 child (none-held, λ dead. absurd (true≢false dead))) t (T.at_steps s.image (record (thread_at s t) { child = None }) rest)
        (h.0 (thread_at s t).checked, λ dead. absurd (true≢false (sym lives ∙ dead)))
    proper-after (Pending.Cut who) rest h =
        each-after call_of (IsProper m.image) ignores m t x (Pending.Cut who) rest (λ who script stack priority mode. (none-held, λ dead. absurd (true≢false dead)))
        (λ th was. (refl, λ dead. ((was.1 dead).0, tt))) all (λ u th image same was. was)
    proper-after q rest h =
        each-after call_of (IsProper m.image) ignores m t x q rest (λ who script stack priority mode. (none-held, λ dead. absurd (true≢false dead)))
        (λ th was. (refl, λ dead. ((was.1 dead).0, tt))) all
        (λ u th image same was. gone-proper m.image known.reached.sited (thread-below m.image lawful) rest u t (next_of m t x q) th image (subst (λ (c : Call). Fits m.image c rest (next_of m t x q)) (sym same) (fits q rest h)) was)

-- Along a run.

pub proper-run : (s : State) (events : List Event) (s2 : State) → IsLawful s.image → IsKnown (core_of s) → AreProper s.image s → Runs s events s2 → AreProper s2.image s2
proper-run s [] s2 lawful known all run = subst (λ (z : State). AreProper z.image z) (sym run) all
proper-run s (event ∷ events) s2 lawful known all (mid, step, rest) =
    let t = event.thread.0 in
    let same : mid.image ≡ s.image = image_move (core_of s) t event.act (core_of mid) (step_move s mid event known step) in
    let here = offered-proper s t step.row (all t) step.step step.rest step.offered in
    let next = proper-after s t step.row all known lawful step.step step.rest here in
    proper-run mid events s2 (subst IsLawful (sym same) lawful) (known_step s mid event known step)
    (subst (λ (i : Image). AreProper i mid) (sym same) (subst (AreProper s.image) (sym step.leaves) next)) rest
