-- A thread goes on with other steps, and checks.
use Rattle.um_invariants.proofs.Claims.{claims, Shaped, Follows, Fits}
use Rattle.um_invariants.specs.Acts.{EndsCall}
use Rattle.um_base.specs.declared.names.Mode.{Mode}
use Rattle.std.proofs.Common.{◌≡◌, inl, inr, ℕ, ◌+◌, ◌<◌, Bool, true, false, not, ◌&&◌, ◌||◌, ◌==◌, List, [], ◌∷◌, length, refl, sym, ap, subst, ◌∙◌, Option, Some, None, unwrap_or, slice_index_or, slice_set, if◌then◌else◌, arith, nat_lt}
use Rattle.std.specs.List.{list_all}
use Rattle.std.proofs.lemmas.Bool.{true≢false}
use Rattle.std.proofs.lemmas.List.{get_or-set_same}
use Rattle.um_base.specs.declared.act.Act.{Act}
use Rattle.um_base.specs.declared.act.Answer.{Answer}
use Rattle.um_base.specs.declared.act.Found.{Found}
use Rattle.um_base.specs.declared.ask.Ask.{Ask}
use Rattle.um_base.specs.declared.ask.Waiter.{Waiter}
use Rattle.um_base.specs.declared.image.Image.{Image}
use Rattle.um_base.specs.declared.instr.Instr.{Instr}
use Rattle.um_base.specs.declared.limits.TheConstants.{FUTEX_CELL, JOIN_CELL, ROWS, THREADS}
use Rattle.um_base.specs.declared.names.Addr.{Addr}
use Rattle.um_base.specs.declared.names.Errno.{Errno}
use Rattle.um_base.specs.declared.names.Kind.{Kind}
use Rattle.um_base.specs.declared.names.Reply.{Reply}
use Rattle.um_base.specs.declared.names.Want.{Want}
use Rattle.um_base.specs.Places.{row_at}
use Rattle.um_machine.specs.declared.pending.Pending.{Pending}
use Rattle.um_machine.specs.declared.pending.Refusal.{Refusal}
use Rattle.um_machine.specs.declared.thread.Thread.{Thread}
use Rattle.um_machine.specs.Objects.{verdict, verdict_at, has_kind, is_live}
use Rattle.um_machine.specs.Memory.{with_bytes}
use Rattle.um_machine.specs.Order.{Steps, steps_of, to_deadline}
use Rattle.um_machine.specs.State.{State, no_rows, thread_at, object_at, with_thread, with_waiters}
use Rattle.um_machine.specs.Goes.{Change, Next, Way, asked_way, at_steps, changed, checked_way, copied, error_way, gone, held, next_doom, steps_by, text_way, told_way, went, without_copy, work_way}
use Rattle.um_machine.specs.Writes.{Edit, Effect, Effects, Flag, edited, effect, flagged, wrote}
use Rattle.um_machine.specs.Table.{row_of}
use Rattle.um_machine.proofs.AfterLemmas.{bytes-leave}
use Rattle.um_machine.proofs.EffectLemmas.{all-wrote}
use Rattle.um_invariants.proofs.Facts.{each-of}
use Rattle.um_invariants.proofs.Cores.{Call, Core, call_of, core_of, idle, call_at, with_call, call_is, status_is, core-thread, core-same, core-kept, core-woken, rest_of, kind_is}
use Rattle.um_invariants.proofs.Guards.{IsRow, IsSited, Guarded, row_kind}
use Rattle.um_invariants.proofs.Orders.{guarded_steps, shaped_steps, claimless_steps}
use Rattle.um_invariants.proofs.Moves.{IsReached, Turn, same, turns, Move, goes, checks, ends, IsClaimed}

-- What holds of the states that a run reaches, with who claims which thread object.
pub record IsKnown (c : Core) : Type 0 where
  pub reached : IsReached c
  pub claimed : IsClaimed c

-- what a step may rely on: it is the next one of guarded ones, or a birth, or one that isn't of its thread's instruction
abbrev pub IsReady : Core → ℕ → Pending → Steps → Type 0
IsReady c t (Pending.Born a) rest = ((call_at c t).pending ≡ Pending.Born a ∷ rest) × Follows c t rest
IsReady c t (Pending.CleanPair who) rest = Unit {0}
IsReady c t Pending.Recycle rest = Unit {0}
IsReady c t Pending.Left rest = Unit {0}
IsReady c t Pending.Tick rest = Unit {0}
IsReady c t (Pending.TimeOut who) rest = Unit {0}
IsReady c t Pending.Expire rest = Unit {0}
IsReady c t (Pending.Cut who) rest = Unit {0}
IsReady c t p rest = Fits c t (p ∷ rest)

pub mine : (s : State) (t : ℕ) → rest_of (call_of (thread_at s t)) ≡ rest_of (call_at (core_of s) t)
mine s t = ap rest_of (sym (call_is s t))

-- a thread goes on with other steps, and nothing else changes
pub turn : (s : State) (t : ℕ) (me : Thread) (steps : Steps) → rest_of (call_of me) ≡ rest_of (call_of (thread_at s t)) → me.pending ≡ steps
    → Fits (core_of s) t steps → Turn (core_of s) t (core_of (with_thread s t me))
turn s t me steps f g h =
    let here : call_of me ≡ record (call_at (core_of s) t) { pending = steps } = λ i. record ((f ∙ mine s t) i) { pending = g i } in
    subst (λ (c : Core). Turn (core_of s) t c) (sym (core-thread s (core_of s) t me (record (call_at (core_of s) t) { pending = steps }) refl here)) (turns steps h.0 h.1)

-- the same, where the state is already another one
pub turned : (s s1 : State) (c : Core) (t : ℕ) (me : Thread) (steps : Steps) → core_of s1 ≡ c → c.calls ≡ (core_of s).calls → rest_of (call_of me) ≡ rest_of (call_of (thread_at s1 t)) → me.pending ≡ steps
    → core_of (with_thread s1 t me) ≡ with_call c t (record (call_at (core_of s) t) { pending = steps })
turned s s1 c t me steps e f g h =
    let kept : rest_of (call_of me) ≡ rest_of (call_at (core_of s) t) =
    g ∙ ap rest_of (sym (call_is s1 t) ∙ ap (λ (d : Core). call_at d t) e ∙ ap (λ (calls : List Call). slice_index_or calls t idle) f) in
    core-thread s1 c t me (record (call_at (core_of s) t) { pending = steps }) e (λ i. record (kept i) { pending = h i })

-- a call that ends
pub end_moves : (s : State) (t : ℕ) (act : Act) (me : Thread) (steps : Steps) (living : Bool) → EndsCall act
    → call_of me ≡ record (call_of (thread_at s t)) { checked = no_rows; pending = steps; living = living } → Guarded s.image no_rows steps
    → (Shaped s.image t living no_rows steps × ((w : ℕ) → claims s.image w steps ≡ false) × ((call_at (core_of s) t).keeps ≡ true)) → Move (core_of s) t act (core_of (with_thread s t me))
end_moves s t act me steps living ending f h l =
    let here : call_of me ≡ record (call_at (core_of s) t) { checked = no_rows; pending = steps; living = living } =
    f ∙ ap (λ (call : Call). record call { checked = no_rows; pending = steps; living = living }) (sym (call_is s t)) in
    subst (λ (c : Core). Move (core_of s) t act c) (sym (core-thread s (core_of s) t me (record (call_at (core_of s) t) { checked = no_rows; pending = steps; living = living }) refl here))
    (ends steps living ending h l)

-- a check that is passed found a living object
pub is_lively : (b c : Bool) (e : Errno) (rest : Option Errno) → (if not (b && c) then Some e else rest) ≡ None → b ≡ true
is_lively true c e rest h = refl
is_lively false c e rest h = cc

pub is_kind : (b c : Bool) (e : Errno) (rest : Option Errno) → (if not (b && c) then Some e else rest) ≡ None → c ≡ true
is_kind true true e rest h = refl
is_kind true false e rest h = cc
is_kind false c e rest h = cc

pub passed : (s : State) (t : ℕ) (kind : Option Kind) (want : Want) (o : Option ℕ) → verdict_at s t kind want o ≡ None
    → (x : ℕ) × (o ≡ Some x) × (is_live (object_at s x).status ≡ true) × (has_kind kind (object_at s x).kind ≡ true)
passed s t kind want None h = cc
passed s t kind want (Some x) h =
    (x, refl, is_lively (is_live (object_at s x).status) (has_kind kind (object_at s x).kind) Errno.EBADF _ h, is_kind (is_live (object_at s x).status) (has_kind kind (object_at s x).kind) Errno.EBADF _ h)

-- the kind that a check found is that of the row
pub row_has : (kind have : Option Kind) (k : Kind) → has_kind kind have ≡ true → ((h : Kind) → have ≡ Some h → h ≡ k) → has_kind kind (Some k) ≡ true
row_has None have k h equal = refl
row_has (Some want) None k h equal = cc
row_has (Some want) (Some other) k h equal = subst (λ (n : Kind). has_kind (Some want) (Some n) ≡ true) (equal other refl) h

pub below_rows : (image : Image) (x : ℕ) → IsSited image → IsRow image x → x < ROWS
below_rows image x sited (inl h) = omega (arith, h, sited.few)
below_rows image x sited (inr h) = h.1

pub row_is : (s : State) (a : Addr) (x : ℕ) → row_at s.image a.0 ≡ Some x → row_of s a ≡ x
row_is s a x e = ap (λ (o : Option ℕ). unwrap_or o 0) e

-- Which way a thread goes on: a birth, or a clearing, isn't added.
abbrev pub is_even : Way → Bool
is_even (Way.bears a) = false
is_even (Way.clears a reason cause) = false
is_even way = true

pub even-if : (b : Bool) (one other : Way) → is_even one ≡ true → is_even other ≡ true → is_even (if b then one else other) ≡ true
even-if true one other q r = q
even-if false one other q r = r

pub even-copied : (mode : Mode) (b : Bool) → is_even (copied mode b) ≡ true
even-copied mode true = refl
even-copied Mode.User false = refl
even-copied Mode.Supervisor false = refl

pub even-text : (found : Found) → is_even (text_way found) ≡ true
even-text (Found.Length n) = refl
even-text Found.Unreadable = refl
even-text Found.TooLong = refl

even-error : (mode : Mode) (ask : Ask) (e : Errno) → is_even (error_way mode ask e) ≡ true
even-error mode (Ask.SemInit count limit) e = refl
even-error mode Ask.MutexInit e = refl
even-error mode (Ask.MsgqInit size most pool) e = refl
even-error mode (Ask.StackInit most pool) e = refl
even-error mode (Ask.PipeInit size pool) e = refl
even-error mode ask e = refl

pub even-asked : (answer : Answer) → is_even (asked_way answer) ≡ true
even-asked Answer.Wait = refl
even-asked (Answer.Now reply) = refl

pub even-work : (mode : Mode) (ask : Ask) (answer : Answer) → is_even (work_way mode ask answer) ≡ true
even-work mode ask Answer.Wait = refl
even-work mode ask (Answer.Now (Reply.Fail e)) = even-error mode ask e
even-work mode ask (Answer.Now reply) = refl

fits_way : (c : Core) (t : ℕ) (left : Steps) (way : Way) → is_even way ≡ true → Fits c t left → Fits c t (steps_by left way)
fits_way c t left Way.rest h f = f
fits_way c t left Way.skips_copy h f = behind left f
  where
    behind : (left : Steps) → Fits c t left → Fits c t (without_copy left)
    behind [] f = f
    behind (Pending.CopyOut a ∷ left) f = f
    behind (p ∷ left) f = f
fits_way c t left Way.waits h f = f
fits_way c t left (Way.bears a) h f = cc
fits_way c t left (Way.runs_to deadline) h f = ahead left f
  where
    ahead : (left : Steps) → Fits c t left → Fits c t (to_deadline deadline left)
    ahead [] f = f
    ahead (Pending.Work a (Ask.TimerStart before) ∷ left) f = f
    ahead (p ∷ left) f = f
fits_way c t left (Way.replies reply) h f = (tt, (refl, (λ w g. cc), f.1.2))
fits_way c t left (Way.fails reason cause) h f = (tt, (tt, (λ w g. cc), f.1.2))
fits_way c t left (Way.gives_back size reason cause) h f = (tt, (tt, (λ w g. cc), f.1.2))
fits_way c t left (Way.clears a reason cause) h f = cc

fits_doom : (c : Core) (t : ℕ) (more : Bool) (from : ℕ) → (call_at c t).keeps ≡ true → Fits c t (if more then Pending.Dooms (from + 1) ∷ [] else [])
fits_doom c t true from keeps = (tt, (tt, (λ w h. cc), keeps))
fits_doom c t false from keeps = (tt, (tt, (λ w h. cc), keeps))

-- a thread that goes on so is in the same call, with steps that fit
abbrev pub is_turn : Next → Bool
is_turn (Next.on change way) = is_even way
is_turn (Next.checks x verdict way) = false
is_turn (Next.answers to reply) = false
is_turn (Next.owns keeps) = false
is_turn Next.exits = false
is_turn (Next.fatal reason) = false
is_turn next = true

turn-begun : (s : State) (t : ℕ) (left : Steps) (instr : Instr) → IsSited s.image → (call_at (core_of s) t).keeps ≡ true → Turn (core_of s) t (core_of (went left s t (Next.begins (Some instr))))
turn-begun s t left instr sited keeps =
    let me = thread_at s t in
    let steps = steps_of s.image t me instr in
    let checked : me.checked ≡ (call_at (core_of s) t).checked = ap (λ (call : Call). call.checked) (mine s t) in
    turn s t (gone left s t (Next.begins (Some instr)) me) steps refl refl (
      subst (λ (checked : List Bool). Guarded s.image checked steps) checked (guarded_steps s.image sited t me instr),
      (
        subst (λ (checked : List Bool). Shaped s.image t (call_at (core_of s) t).living checked steps) checked (shaped_steps s.image sited t (call_at (core_of s) t).living me instr),
        (λ w h. let none = claimless_steps s.image w t me instr in cc),
        keeps,
      ),
    )

turn-changed : (s : State) (t : ℕ) (change : Change) (steps : Steps) → Fits (core_of s) t steps → Turn (core_of s) t (core_of (with_thread s t (at_steps s.image (changed change (thread_at s t)) steps)))
turn-changed s t Change.nothing steps f = turn s t (at_steps s.image (thread_at s t) steps) steps refl refl f
turn-changed s t change steps f = turn s t (at_steps s.image (changed change (thread_at s t)) steps) steps refl refl f

turn-went : (s : State) (t : ℕ) (left : Steps) (next : Next) → is_turn next ≡ true → IsSited s.image → Fits (core_of s) t left → Turn (core_of s) t (core_of (went left s t next))
turn-went s t left Next.stays h sited f = same
turn-went s t left (Next.begins None) h sited f = same
turn-went s t left (Next.begins (Some instr)) h sited f = turn-begun s t left instr sited f.1.2
turn-went s t left (Next.resumes None) h sited f = same
turn-went s t left (Next.resumes (Some told)) h sited f = turn s t (gone left s t (Next.resumes (Some told)) (thread_at s t)) (steps_by left (told_way told.reply)) refl refl (fits_way (core_of s) t left (told_way told.reply) (even-told told.reply) f)
  where
    even-told : (reply : Reply) → is_even (told_way reply) ≡ true
    even-told (Reply.Fail e) = refl
    even-told reply = refl
turn-went s t left (Next.on change way) h sited f = turn-changed s t change (steps_by left way) (fits_way (core_of s) t left way h f)
turn-went s t left (Next.checks x verdict way) h sited f = absurd (true≢false (sym h))
turn-went s t left (Next.answers to reply) h sited f = absurd (true≢false (sym h))
turn-went s t left (Next.owns keeps) h sited f = absurd (true≢false (sym h))
turn-went s t left (Next.dooms from) h sited f = turn s t (gone left s t (Next.dooms from) (thread_at s t)) (next_doom from) refl refl (fits_doom (core_of s) t (nat_lt (from + 1) THREADS) from f.1.2)
turn-went s t left (Next.enters script) h sited f = turn s t (gone left s t (Next.enters script) (thread_at s t)) [] refl refl (tt, (tt, (λ w g. cc), f.1.2))
turn-went s t left Next.exits h sited f = absurd (true≢false (sym h))
turn-went s t left (Next.fatal reason) h sited f = absurd (true≢false (sym h))
turn-went s t left next h sited f = turn s t (gone left s t next (thread_at s t)) (gone left s t next (thread_at s t)).pending refl refl f

-- a write that changes no call, status, mark, kind and pair
abbrev pub is_aside : Effect → Bool
is_aside (Effect.starts who thread) = false
is_aside (Effect.cuts who) = false
is_aside (Effect.pair who x there) = false
is_aside (Effect.object x (Edit.inits init)) = false
is_aside (Effect.object x (Edit.becomes status)) = false
is_aside (Effect.object x (Edit.reserved kind cost)) = false
is_aside (Effect.object x Edit.vacates) = false
is_aside e = true

core-edited : (s : State) (x : ℕ) (edit : Edit) → is_aside (Effect.object x edit) ≡ true → core_of (effect (Effect.object x edit) s) ≡ core_of s
core-edited s x (Edit.inits init) h = absurd (true≢false (sym h))
core-edited s x (Edit.becomes status) h = absurd (true≢false (sym h))
core-edited s x (Edit.reserved kind cost) h = absurd (true≢false (sym h))
core-edited s x Edit.vacates h = absurd (true≢false (sym h))
core-edited s x edit h = core-kept s x (edited edit (object_at s x)) refl

pub core-bytes : (s : State) (a : ℕ) (bytes : List ℕ) → core_of (with_bytes s a bytes) ≡ core_of s
core-bytes = bytes-leave core_of (λ s b. refl) (λ s b. refl)

pub core-waiters : (s : State) (x : ℕ) (ws : List Waiter) → core_of (with_waiters s x ws) ≡ core_of s
core-waiters s x ws =
    let o = record (object_at s x) { waiters = ws } in
    elim (x == JOIN_CELL || x == FUTEX_CELL) as (λ b. core_of (record s { objects = if b then s.objects else slice_set s.objects x o }) ≡ core_of s) [
      | true ↦ refl
      | false ↦ core-kept s x o refl
    ]

core-flagged : (s : State) (who : ℕ) (flag : Flag) → core_of (with_thread s who (flagged flag (thread_at s who))) ≡ core_of s
core-flagged s who Flag.aborted = core-same s who (flagged Flag.aborted (thread_at s who)) refl
core-flagged s who (Flag.suspended on) = core-same s who (flagged (Flag.suspended on) (thread_at s who)) refl

core-effect : (c : Core) (e : Effect) (s : State) → is_aside e ≡ true → core_of s ≡ c → core_of (effect e s) ≡ c
core-effect c (Effect.wakes woken) s h was = core-woken woken s ∙ was
core-effect c (Effect.moves who d) s h was = core-same s who (record (thread_at s who) { domain = d }) refl ∙ was
core-effect c (Effect.dooms who) s h was = core-same s who (record (thread_at s who) { doomed = true }) refl ∙ was
core-effect c (Effect.flags who flag) s h was = core-flagged s who flag ∙ was
core-effect c (Effect.cuts who) s h was = absurd (true≢false (sym h))
core-effect c (Effect.waiters x ws) s h was = core-waiters s x ws ∙ was
core-effect c (Effect.starts who thread) s h was = absurd (true≢false (sym h))
core-effect c (Effect.pair who x there) s h was = absurd (true≢false (sym h))
core-effect c (Effect.object x edit) s h was = core-edited s x edit h ∙ was
core-effect c (Effect.bytes a bs) s h was = core-bytes s a bs ∙ was
core-effect c e s h was = was

abbrev pub AreAside : Effects → Type 0
AreAside ws = list_all (λ (w : Bool × Effect). is_aside w.1) ws ≡ true

pub core-wrote : (s : State) (ws : Effects) → AreAside ws → core_of (wrote ws s) ≡ core_of s
core-wrote s ws h = all-wrote (λ (u : State). core_of u ≡ core_of s) (λ e. is_aside e ≡ true) (core-effect (core_of s)) ws s (each-of is_aside (λ e. is_aside e ≡ true) (λ e aside. aside) ws h) refl

-- a step that writes nothing else, and goes on so, is a turn
pub turn-made : (s : State) (t : ℕ) (ws : Effects) (left : Steps) (next : Next) → AreAside ws → is_turn next ≡ true → IsSited s.image → Fits (core_of s) t left → Turn (core_of s) t (core_of (went left (wrote ws s) t next))
turn-made s t ws left next aside h sited f =
    let u = wrote ws s in
    let e : core_of s ≡ core_of u = sym (core-wrote s ws aside) in
    subst (λ (c : Core). Turn c t (core_of (went left u t next))) (sym e)
    (turn-went u t left next h (subst (λ (c : Core). IsSited c.image) e sited) (subst (λ (c : Core). Fits c t left) e f))

fits_refusal : (c : Core) (t : ℕ) (mode : Mode) (left : Steps) (refusal : Refusal) (e : Errno) → (call_at c t).keeps ≡ true → Fits c t (steps_by left (checked_way mode refusal (Some e)))
fits_refusal c t mode left Refusal.Fails e keeps = (tt, (tt, (λ w h. cc), keeps))
fits_refusal c t Mode.User left Refusal.FailsUser e keeps = (tt, (tt, (λ w h. cc), keeps))
fits_refusal c t Mode.Supervisor left Refusal.FailsUser e keeps = (tt, (refl, (λ w h. cc), keeps))
fits_refusal c t mode left (Refusal.Answers reply) e keeps = (tt, (refl, (λ w h. cc), keeps))
fits_refusal c t mode left (Refusal.AnswersUninit reply) Errno.EINVAL keeps = (tt, (refl, (λ w h. cc), keeps))
fits_refusal c t mode left (Refusal.AnswersUninit reply) e keeps = (tt, (tt, (λ w h. cc), keeps))

pub check_moves : (s : State) (t : ℕ) (a : Addr) (kind : Option Kind) (want : Want) (refusal : Refusal) (rest : Steps) → IsKnown (core_of s)
    → IsReady (core_of s) t (Pending.Check a kind want refusal) rest → (v : Option Errno) → verdict s t a.0 kind want ≡ v
    → Move (core_of s) t (Act.Check a kind want v) (core_of (went rest s t (Next.checks (row_of s a) v (checked_way (thread_at s t).mode refusal v))))
check_moves s t a kind want refusal rest inv ready (Some e) said =
    let way = checked_way (thread_at s t).mode refusal (Some e) in
    goes refl (turn s t (at_steps s.image (thread_at s t) (steps_by rest way)) (steps_by rest way) refl refl
    (fits_refusal (core_of s) t (thread_at s t).mode rest refusal e ready.1.2))
check_moves s t a kind want refusal rest inv ready None said =
    let (x, e, lives, has) = passed s t kind want (row_at s.image a.0) said in
    let row = (inv.reached.sited.found a.0 x e).0 in
    let inside : x < length (call_at (core_of s) t).checked = omega (arith, below_rows s.image x inv.reached.sited row, inv.reached.wide t) in
    let call : Call = record (call_at (core_of s) t) { checked = slice_set (call_at (core_of s) t).checked x true; pending = rest } in
    let here : call_of (at_steps s.image (held (row_of s a) None (thread_at s t)) rest) ≡ call =
    λ i. record (mine s t i) { checked = slice_set (mine s t i).checked (row_is s a x e i) true; pending = rest } in
    let known : has_kind kind (Some (row_kind s.image x)) ≡ true = row_has kind (object_at s x).kind (row_kind s.image x) has (λ h f. inv.claimed.kinds x h (kind_is s x ∙ f)) in
    let stays = get_or-set_same (call_at (core_of s) t).checked x true false inside in
    subst (λ (c : Core). Move (core_of s) t (Act.Check a kind want None) c) (sym (core-thread s (core_of s) t (at_steps s.image (held (row_of s a) None (thread_at s t)) rest) call refl here))
    (checks x rest e row (ap is_live (status_is s x) ∙ lives) (ready.0 x e stays) (ready.1.0 x e known stays, ready.1.1, ready.1.2))
