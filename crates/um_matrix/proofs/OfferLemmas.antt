-- What a thread is offered, and what its event says then.
use Rattle.std.proofs.Common.{◌≡◌, ◌⊎◌, inl, inr, ℕ, zero, suc, ◌+◌, ◌<◌, ◌≤◌, Bool, true, false, ◌&&◌, not, ap, sym, subst, ◌∙◌, refl, arith, [], ◌∷◌, drop, length, Option, Some, None, slice_get, slice_index_or, if◌then◌else◌}
use Rattle.std.specs.Prelude.{◌==◌, ◌||◌, IsTrue, IfSome, IfNone, nat_lt, is_some}
use Rattle.std.proofs.Math.ListN.{get_or-eq_default}
use Rattle.std.proofs.lemmas.Bool.{and_parts, le-ltb}
use Rattle.std.proofs.lemmas.Bool.Decides.{leb_tells, nat_tests}
use Rattle.um_base.specs.declared.limits.TheConstants.{THREADS, ROWS, JOIN_CELL, FUTEX_CELL}
use Rattle.um_base.specs.declared.names.Kind.{Kind}
use Rattle.um_base.specs.declared.names.ThreadIx.{ThreadIx}
use Rattle.um_base.specs.declared.act.Act.{Act}
use Rattle.um_base.specs.declared.act.Event.{Event}
use Rattle.um_base.specs.declared.instr.Instr.{Instr}
use Rattle.um_machine.specs.declared.pending.Pending.{Pending}
use Rattle.um_machine.specs.declared.thread.Place.{Place}
use Rattle.um_machine.specs.State.{State, nobody, vacant, thread_at, object_at, pair_at, is_living, is_started, is_waiting, waiters_in, instruction_at}
use Rattle.um_machine.specs.Objects.{is_gone}
use Rattle.um_machine.specs.Order.{Steps, to_thread}
use Rattle.um_machine.specs.Joins.{is_ending}
use Rattle.um_machine.specs.Time.{has_come, has_run_out}
use Rattle.um_machine.specs.Table.{act_of, after}
use Rattle.um_machine.specs.Run.{Offers, goes, skips_inherit, skips_drops, begins, exits, stops, leaves, tends, may_go, must_stop, waits_at, stands_in, MayChoose, Step, IsComplete, none_due}
use Rattle.um_matrix.specs.Offered.{line_act, line_step, rest_act, rest_choice, rest_step, first_step, second_step, is_skipped, row_count, Says, SaysNot, ChoosesNone, is_tending, tending_of, IsChoice, IsStep, IsNoStep, IsIdle, event_of}

-- Rows.

-- no row past the tables may be chosen
no-pair-past : (s : State) (t x : ℕ) → length s.pairs ≡ ROWS → ROWS ≤ x → IsTrue (pair_at s t x) → ⊥
no-pair-past s t x whole past h = let none : pair_at s t x ≡ false = rw (get_or-eq_default s.pairs [] {n = x} (omega arith)) refl in cc

pub not-gone-past : (s : State) (x : ℕ) → length s.objects ≡ ROWS → ROWS ≤ x → IsTrue (is_gone (object_at s x).status) → ⊥
not-gone-past s x whole past h =
    let none : is_gone (object_at s x).status ≡ false = rw (get_or-eq_default s.objects vacant {n = x} (omega arith)) refl in cc

inside-of : (a b c d : Bool) → IsTrue (a && b && c && d) → IsTrue b
inside-of a b c d h = (and_parts a b (and_parts (a && b) c (and_parts (a && b && c) d h).0).0).1

reserve-past : (s : State) (t x : ℕ) (kind : Kind) → ROWS ≤ x → MayChoose s t x (Pending.Reserve kind) → ⊥
reserve-past s t x kind past (inl m) = let within : IsTrue (nat_lt x ROWS) = inside-of _ _ _ _ m.1 in let outside : nat_lt x ROWS ≡ false = le-ltb x ROWS past in cc
reserve-past s t x kind past (inr m) = omega arith

expire-past : (s : State) (x : ℕ) → length s.objects ≡ ROWS → ROWS ≤ x → IsTrue (has_run_out s.now (object_at s x).contents) → ⊥
expire-past s x whole past h =
    let none : has_run_out s.now (object_at s x).contents ≡ false = rw (get_or-eq_default s.objects vacant {n = x} (omega arith)) refl in cc

and-none : (b : Bool) → (b && false) ≡ false
and-none true = refl
and-none false = refl

-- nobody waits past the cells
none-waits : (s : State) (t x : ℕ) → length s.objects ≡ ROWS → FUTEX_CELL < x → waits_at s t x ≡ false
none-waits s t x whole past =
    let joins : (x == JOIN_CELL) ≡ false = grind (arith, nat_tests) in
    let futexes : (x == FUTEX_CELL) ≡ false = grind (arith, nat_tests) in
    rw (joins, futexes, get_or-eq_default s.objects vacant {n = x} (omega arith)) (and-none (is_waiting (thread_at s t)))

wait-past : (s : State) (t x : ℕ) (b : Bool) → length s.objects ≡ ROWS → FUTEX_CELL < x → IsTrue (b && waits_at s t x) → ⊥
wait-past s t x b whole past h =
    let waits : IsTrue (waits_at s t x) = (and_parts b (waits_at s t x) h).1 in let none = none-waits s t x whole past in cc

pub le-or-lt : (a b : ℕ) → (a < b) ⊎ (b ≤ a)
le-or-lt a b = elim (leb_tells b a) [ inl past ↦ inr past.1 | inr within ↦ inl within.1 ]

-- a row that is tried for a step, and with which it says the same as with this one
record Tried (s : State) (t x : ℕ) (p : Pending) : Type 0 where
  pub row : ℕ
  pub tried : row < row_count p
  pub chosen : MayChoose s t row p
  pub says : act_of s t x p ≡ act_of s t row p

itself : (s : State) (t x : ℕ) (p : Pending) (n : ℕ) → n ≡ row_count p → (n ≤ x → ⊥) → MayChoose s t x p → Tried s t x p
itself s t x p n is past m = record { row = x; tried = (elim (le-or-lt x n) [ inl within ↦ rw is at within | inr more ↦ absurd (past more) ]); chosen = m; says = refl }

tried-of : (s : State) (t x : ℕ) (p : Pending) → length s.objects ≡ ROWS → length s.pairs ≡ ROWS → MayChoose s t x p → Tried s t x p
tried-of s t x (Pending.Inherit who) o w m = itself s t x (Pending.Inherit who) ROWS refl (λ past. no-pair-past s t x w past m.0) m
tried-of s t x (Pending.Drops from) o w m = itself s t x (Pending.Drops from) ROWS refl (λ past. no-pair-past s t x w past m.1) m
tried-of s t x (Pending.Reserve kind) o w m = itself s t x (Pending.Reserve kind) ROWS refl (λ past. reserve-past s t x kind past m) m
tried-of s t x (Pending.CleanPair who) o w m = itself s t x (Pending.CleanPair who) ROWS refl (λ past. no-pair-past s who.0 x w past m.1) m
tried-of s t x Pending.Recycle o w m = itself s t x Pending.Recycle ROWS refl (λ past. not-gone-past s x o past m.0.0) m
tried-of s t x Pending.Expire o w m = itself s t x Pending.Expire ROWS refl (λ past. expire-past s x o past m) m
tried-of s t x (Pending.TimeOut who) o w m =
    itself s t x (Pending.TimeOut who) (FUTEX_CELL + 1) refl (λ past. wait-past s who.0 x (has_come s.now (thread_at s who.0).until) o (omega arith) m) m
tried-of s t x (Pending.Cut who) o w m = itself s t x (Pending.Cut who) (FUTEX_CELL + 1) refl (λ past. wait-past s who.0 x (thread_at s who.0).aborted o (omega arith) m) m
tried-of s t zero (Pending.Join who timeout) o w m = record { row = 0; tried = omega arith; chosen = m; says = refl }
tried-of s t (suc n) (Pending.Join who timeout) o w m = record { row = 1; tried = omega arith; chosen = m; says = refl }
tried-of s t x _ o w m = record { row = 0; tried = omega arith; chosen = m; says = refl }

-- where the rows were tried, no other row does
pub rows-say : (s : State) (t : ℕ) (act : Act) (p : Pending) → length s.objects ≡ ROWS → length s.pairs ≡ ROWS
    → ((x : ℕ) → x < row_count p → MayChoose s t x p → act ≡ act_of s t x p → ⊥) → SaysNot s t act p
rows-say s t act p o w none x m says = let one = tried-of s t x p o w m in none one.row one.tried one.chosen (says ∙ one.says)

pub rows-choose : (s : State) (t : ℕ) (p : Pending) → length s.objects ≡ ROWS → length s.pairs ≡ ROWS
    → ((x : ℕ) → x < row_count p → MayChoose s t x p → ⊥) → ChoosesNone s t p
rows-choose s t p o w none x m = let one = tried-of s t x p o w m in none one.row one.tried one.chosen

-- what holds below a number and at it holds below the next one
pub below-next : (P : ℕ → Type 0) (n : ℕ) → ((x : ℕ) → x < n → P x) → P n → (x : ℕ) → x < n + 1 → P x
below-next P n below here x h = elim (le-or-lt x n) [ inl less ↦ below x less | inr more ↦ let same : n ≡ x = omega arith in subst P same here ]

-- Offers.

-- a list with a first element
pub cons : (steps : Steps) (p : Pending) → slice_get steps 0 ≡ Some p → steps ≡ p ∷ drop 1 steps
cons [] p h = cc
cons (q ∷ rest) p h = cc

pub empty : (steps : Steps) → slice_get steps 0 ≡ None → steps ≡ []
empty [] h = refl
empty (q ∷ rest) h = cc

-- the next step, with a row that it may choose
pub step-first : (s : State) (t x : ℕ) (act : Act) (p : Pending) → slice_get (thread_at s t).pending 0 ≡ Some p → MayChoose s t x p → act ≡ act_of s t x p
    → Step s (event_of t act) (after s t x p (drop 1 (thread_at s t).pending))
step-first s t x act p head chosen says =
    record { step = p; rest = drop 1 (thread_at s t).pending; row = x; offered = goes (cons (thread_at s t).pending p head); chosen = chosen; says = says; leaves = refl }

-- the step after one that is left out
pub data Skips (steps : Steps) (p : Pending) : Type 0 where
  past_inherit : {who : ThreadIx} → steps ≡ Pending.Inherit who ∷ p ∷ drop 2 steps → Skips steps p
  past_drops : {from : ℕ} → steps ≡ Pending.Drops from ∷ p ∷ drop 2 steps → Skips steps p

pub skips-of : (steps : Steps) (due : Bool) (p : Pending) → (if is_skipped (slice_get steps 0) && due then slice_get steps 1 else None) ≡ Some p → Skips steps p × IsTrue due
skips-of [] due p h = cc
skips-of (Pending.Inherit who ∷ []) true p h = cc
skips-of (Pending.Inherit who ∷ []) false p h = cc
skips-of (Pending.Inherit who ∷ q ∷ rest) true p h = (past_inherit {who = who} cc, refl)
skips-of (Pending.Inherit who ∷ q ∷ rest) false p h = cc
skips-of (Pending.Drops from ∷ []) true p h = cc
skips-of (Pending.Drops from ∷ []) false p h = cc
skips-of (Pending.Drops from ∷ q ∷ rest) true p h = (past_drops {from = from} cc, refl)
skips-of (Pending.Drops from ∷ q ∷ rest) false p h = cc
skips-of (_ ∷ rest) due p h = cc

pub skips-offer : (s : State) (t : ℕ) (p : Pending) → Skips (thread_at s t).pending p → IsTrue (none_due (thread_at s t)) → Offers s t p (drop 2 (thread_at s t).pending)
skips-offer s t p (past_inherit e) due = skips_inherit e due
skips-offer s t p (past_drops e) due = skips_drops e due

pub step-second : (s : State) (t x : ℕ) (act : Act) (p : Pending) → second_step s t ≡ Some p → MayChoose s t x p → act ≡ act_of s t x p
    → Step s (event_of t act) (after s t x p (drop 2 (thread_at s t).pending))
step-second s t x act p next chosen says =
    let both = skips-of (thread_at s t).pending (none_due (thread_at s t)) p next in
    record { step = p; rest = drop 2 (thread_at s t).pending; row = x; offered = skips-offer s t p both.0 both.1; chosen = chosen; says = says; leaves = refl }

-- what a thread says by a step that it is offered is a step
pub says-first : (s : State) (t : ℕ) (p : Pending) (o : Option Act) → slice_get (thread_at s t).pending 0 ≡ Some p → IfSome o (λ act. Says s t act p) → IfSome o (λ act. IsStep s (event_of t act))
says-first s t p None head says = tt
says-first s t p (Some act) head says = (_, step-first s t says.0 act p head says.1 says.2)

pub says-second : (s : State) (t : ℕ) (p : Pending) (o : Option Act) → second_step s t ≡ Some p → IfSome o (λ act. Says s t act p) → IfSome o (λ act. IsStep s (event_of t act))
says-second s t p None next says = tt
says-second s t p (Some act) next says = (_, step-second s t says.0 act p next says.1 says.2)

-- the steps that tend: what is left of an instruction stays
tended : (s : State) (t x : ℕ) (p : Pending) (rest : Steps) → IsTrue (is_tending p) → after s t x p [] ≡ after s t x p rest
tended s t x (Pending.CleanPair who) rest h = refl
tended s t x Pending.Recycle rest h = refl
tended s t x Pending.Tick rest h = refl
tended s t x (Pending.TimeOut who) rest h = refl
tended s t x Pending.Expire rest h = refl
tended s t x (Pending.Cut who) rest h = refl
tended s t x _ rest h = cc

pub step-tends : (s : State) (t x : ℕ) (act : Act) (p : Pending) → IsTrue (is_tending p) → IsTrue (is_started (thread_at s t).life) → MayChoose s t x p → act ≡ act_of s t x p
    → Step s (event_of t act) (after s t x p [])
step-tends s t x act p is started chosen says =
    record { step = p; rest = (thread_at s t).pending; row = x; offered = tends is started; chosen = chosen; says = says; leaves = tended s t x p (thread_at s t).pending is }

-- and the one that tells those who wait for an end
pub step-leaves : (s : State) (t x : ℕ) (act : Act) → IsTrue (is_ending (thread_at s t)) → MayChoose s t x Pending.Left → act ≡ act_of s t x Pending.Left
    → Step s (event_of t act) (after s t 0 Pending.Left [])
step-leaves s t x act ending chosen says =
    record { step = Pending.Left; rest = (thread_at s t).pending; row = x; offered = leaves ending; chosen = chosen; says = says; leaves = refl }

-- the only step that tends and says an act
tends-alone : (s : State) (t x : ℕ) (p : Pending) → IsTrue (is_tending p) → tending_of (act_of s t x p) ≡ Some p
tends-alone s t x (Pending.CleanPair who) h = refl
tends-alone s t x Pending.Recycle h = refl
tends-alone s t x Pending.Tick h = refl
tends-alone s t x (Pending.TimeOut who) h = refl
tends-alone s t x Pending.Expire h = refl
tends-alone s t x (Pending.Cut who) h = refl
tends-alone s t x _ h = cc

pub no-other-tends : (s : State) (t : ℕ) (act : Act) → tending_of act ≡ None → (p : Pending) → IsTrue (is_tending p) → SaysNot s t act p
no-other-tends s t act e p h x m says = let bad : None ≡ Some p = sym e ∙ ap tending_of says ∙ tends-alone s t x p h in cc

pub one-tends : (s : State) (t : ℕ) (act : Act) (q : Pending) → tending_of act ≡ Some q → SaysNot s t act q → (p : Pending) → IsTrue (is_tending p) → SaysNot s t act p
one-tends s t act q e none p h x m says =
    let same : q ≡ p = (let both : Some q ≡ Some p = sym e ∙ ap tending_of says ∙ tends-alone s t x p h in cc) in
    subst (λ (r : Pending). SaysNot s t act r) same none x m says

-- At rest.

-- what a thread says at rest, and its step then, by what may be
abbrev said_by : Bool → Bool → Bool → Place → Option Instr → Option Act
said_by lives may must place o = if not lives then None else if may then Some (line_act place o) else if must then Some Act.Killed else None

abbrev step_by : Bool → Bool → Bool → Option Instr → Option Pending
step_by lives may must o = if not lives then None else if may then Some (line_step o) else if must then Some Pending.Killed else None

pub step-begins : (s : State) (t : ℕ) → slice_get (thread_at s t).pending 0 ≡ None → IsTrue (is_living (thread_at s t).life) → IsTrue (may_go (thread_at s t))
    → IsTrue (is_some (instruction_at s.image (thread_at s t).place))
    → Step s (event_of t (Act.Begin (thread_at s t).place.script ((thread_at s t).place.line + 1))) (after s t 0 Pending.Begin [])
step-begins s t none lives may some =
    record { step = Pending.Begin; rest = []; row = 0; offered = begins (empty (thread_at s t).pending none) lives may some; chosen = tt; says = refl; leaves = refl }

pub step-exits : (s : State) (t : ℕ) → slice_get (thread_at s t).pending 0 ≡ None → IsTrue (is_living (thread_at s t).life) → IsTrue (may_go (thread_at s t))
    → instruction_at s.image (thread_at s t).place ≡ None → Step s (event_of t Act.Exit) (after s t 0 Pending.Exit [])
step-exits s t none lives may here =
    record { step = Pending.Exit; rest = []; row = 0; offered = exits (empty (thread_at s t).pending none) lives may here; chosen = tt; says = refl; leaves = refl }

pub step-stops : (s : State) (t : ℕ) → slice_get (thread_at s t).pending 0 ≡ None → IsTrue (is_living (thread_at s t).life) → IsTrue (must_stop (thread_at s t))
    → Step s (event_of t Act.Killed) (after s t 0 Pending.Killed [])
step-stops s t none lives must =
    record { step = Pending.Killed; rest = []; row = 0; offered = stops (empty (thread_at s t).pending none) lives must; chosen = tt; says = refl; leaves = refl }

chosen-at : (s : State) (t : ℕ) (said : Act) (lives may must : Bool) (o : Option Instr) → slice_get (thread_at s t).pending 0 ≡ None
    → is_living (thread_at s t).life ≡ lives → may_go (thread_at s t) ≡ may → must_stop (thread_at s t) ≡ must → instruction_at s.image (thread_at s t).place ≡ o
    → said_by lives may must (thread_at s t).place o ≡ Some said → IsChoice s t said (rest_choice said)
chosen-at s t said false may must o none l g m i h = cc
chosen-at s t said true true must None none l g m i h =
    let is : Act.Exit ≡ said = cc in subst (λ (a : Act). IsChoice s t a (rest_choice a)) is (step-exits s t none l g i)
chosen-at s t said true true must (Some instr) none l g m i h =
    let is : line_act (thread_at s t).place (Some instr) ≡ said = cc in subst (λ (a : Act). IsChoice s t a (rest_choice a)) is (step-begins s t none l g (rw i refl))
chosen-at s t said true false true o none l g m i h =
    let is : Act.Killed ≡ said = cc in subst (λ (a : Act). IsChoice s t a (rest_choice a)) is (step-stops s t none l m)
chosen-at s t said true false false o none l g m i h = cc

-- what a thread says at rest is a step
pub rest-chosen : (s : State) (t : ℕ) (said : Act) → slice_get (thread_at s t).pending 0 ≡ None → rest_act s t ≡ Some said → IsChoice s t said (rest_choice said)
rest-chosen s t said none h = let me = thread_at s t in chosen-at s t said (is_living me.life) (may_go me) (must_stop me) (instruction_at s.image me.place) none refl refl refl refl h

step-of : (s : State) (t : ℕ) (act : Act) (lives may must : Bool) (o : Option Instr) → slice_get (thread_at s t).pending 0 ≡ None
    → is_living (thread_at s t).life ≡ lives → may_go (thread_at s t) ≡ may → must_stop (thread_at s t) ≡ must → instruction_at s.image (thread_at s t).place ≡ o
    → said_by lives may must (thread_at s t).place o ≡ Some act → IsStep s (event_of t act)
step-of s t act false may must o none l g m i h = cc
step-of s t act true true must None none l g m i h = let is : Act.Exit ≡ act = cc in (_, subst (λ (a : Act). Step s (event_of t a) (after s t 0 Pending.Exit [])) is (step-exits s t none l g i))
step-of s t act true true must (Some instr) none l g m i h =
    let is : line_act (thread_at s t).place (Some instr) ≡ act = cc in
    (_, subst (λ (a : Act). Step s (event_of t a) (after s t 0 Pending.Begin [])) is (step-begins s t none l g (rw i refl)))
step-of s t act true false true o none l g m i h = let is : Act.Killed ≡ act = cc in (_, subst (λ (a : Act). Step s (event_of t a) (after s t 0 Pending.Killed [])) is (step-stops s t none l m))
step-of s t act true false false o none l g m i h = cc

pub rest-is-step : (s : State) (t : ℕ) (act : Act) → slice_get (thread_at s t).pending 0 ≡ None → rest_act s t ≡ Some act → IsStep s (event_of t act)
rest-is-step s t act none h = let me = thread_at s t in step-of s t act (is_living me.life) (may_go me) (must_stop me) (instruction_at s.image me.place) none refl refl refl refl h

-- what a thread at rest says is what its step says
line-says : (s : State) (t x : ℕ) (lives may must : Bool) (o : Option Instr) (p : Pending) → step_by lives may must o ≡ Some p → said_by lives may must (thread_at s t).place o ≡ Some (act_of s t x p)
line-says s t x false may must o p h = cc
line-says s t x true true must None p h = let is : Pending.Exit ≡ p = cc in subst (λ (q : Pending). Some Act.Exit ≡ Some (act_of s t x q)) is refl
line-says s t x true true must (Some instr) p h =
    let is : Pending.Begin ≡ p = cc in subst (λ (q : Pending). Some (line_act (thread_at s t).place (Some instr)) ≡ Some (act_of s t x q)) is refl
line-says s t x true false true o p h = let is : Pending.Killed ≡ p = cc in subst (λ (q : Pending). Some Act.Killed ≡ Some (act_of s t x q)) is refl
line-says s t x true false false o p h = cc

pub rest-says : (s : State) (t x : ℕ) (p : Pending) → rest_step s t ≡ Some p → rest_act s t ≡ Some (act_of s t x p)
rest-says s t x p h = let me = thread_at s t in line-says s t x (is_living me.life) (may_go me) (must_stop me) (instruction_at s.image me.place) p h

-- where a thread at rest says something else, or nothing, an act is no step at rest
pub rest-not : (s : State) (t : ℕ) (act : Act) → (rest_act s t ≡ Some act → ⊥) → (p : Pending) → rest_step s t ≡ Some p → SaysNot s t act p
rest-not s t act none p e x chosen says = none (rest-says s t x p e ∙ ap Some (sym says))

line-none : (lives may must : Bool) (place : Place) (o : Option Instr) → said_by lives may must place o ≡ None → step_by lives may must o ≡ None
line-none false may must place o h = refl
line-none true true must place o h = cc
line-none true false true place o h = cc
line-none true false false place o h = refl

pub rest-none : (s : State) (t : ℕ) → rest_act s t ≡ None → rest_step s t ≡ None
rest-none s t h = let me = thread_at s t in line-none (is_living me.life) (may_go me) (must_stop me) me.place (instruction_at s.image me.place) h

-- No step.
line-is-begin : (o : Option Instr) → IsTrue (is_some o) → line_step o ≡ Pending.Begin
line-is-begin None h = cc
line-is-begin (Some instr) h = refl

first-goes : (s : State) (t : ℕ) {p : Pending} {rest : Steps} → (thread_at s t).pending ≡ p ∷ rest → first_step s t ≡ Some p
first-goes s t e = rw e refl

first-begins : (s : State) (t : ℕ) → (thread_at s t).pending ≡ [] → is_living (thread_at s t).life ≡ true → may_go (thread_at s t) ≡ true → IsTrue (is_some (instruction_at s.image (thread_at s t).place))
    → first_step s t ≡ Some Pending.Begin
first-begins s t e l d some = rw (e, l, d, line-is-begin (instruction_at s.image (thread_at s t).place) some) refl

first-exits : (s : State) (t : ℕ) → (thread_at s t).pending ≡ [] → is_living (thread_at s t).life ≡ true → may_go (thread_at s t) ≡ true → instruction_at s.image (thread_at s t).place ≡ None → first_step s t ≡ Some Pending.Exit
first-exits s t e l d i = rw (e, l, d, i) refl

-- one that must stop may not go
stopped-by : (doomed aborted suspended : Bool) → IsTrue (not doomed && aborted) → not (doomed || aborted || suspended) ≡ false
stopped-by true aborted suspended h = cc
stopped-by false true suspended h = refl
stopped-by false false suspended h = cc

first-stops : (s : State) (t : ℕ) → (thread_at s t).pending ≡ [] → is_living (thread_at s t).life ≡ true → must_stop (thread_at s t) ≡ true → first_step s t ≡ Some Pending.Killed
first-stops s t e l m =
    let me = thread_at s t in let stays : may_go me ≡ false = stopped-by me.doomed me.aborted me.suspended m in rw (e, l, stays, m) refl

second-inherit : (s : State) (t : ℕ) {who : ThreadIx} {p : Pending} {rest : Steps} → (thread_at s t).pending ≡ Pending.Inherit who ∷ p ∷ rest → none_due (thread_at s t) ≡ true → second_step s t ≡ Some p
second-inherit s t e due = rw (e, due) refl

second-drops : (s : State) (t : ℕ) {from : ℕ} {p : Pending} {rest : Steps} → (thread_at s t).pending ≡ Pending.Drops from ∷ p ∷ rest → none_due (thread_at s t) ≡ true → second_step s t ≡ Some p
second-drops s t e due = rw (e, due) refl

-- what a thread says at rest is a step, or it chooses nothing
pub rest-if-some : (s : State) (t : ℕ) (o : Option Act) → slice_get (thread_at s t).pending 0 ≡ None → o ≡ rest_act s t → IfSome o (λ act. IsStep s (event_of t act))
rest-if-some s t None none e = tt
rest-if-some s t (Some act) none e = rest-is-step s t act none (sym e)

pub rest-if-none : (s : State) (t : ℕ) (o : Option Act) → slice_get (thread_at s t).pending 0 ≡ None → o ≡ rest_act s t → IfNone o ((p : Pending) → first_step s t ≡ Some p → ChoosesNone s t p)
rest-if-none s t (Some act) none e = tt
rest-if-none s t None none e = λ p f.
    let nothing : rest_step s t ≡ None = rest-none s t (sym e) in
    let same : first_step s t ≡ rest_step s t = rw none refl in absurd (let bad : None ≡ Some p = sym nothing ∙ sym same ∙ f in cc)

-- a step that tends, as an event
pub clean-step : (s : State) (t x : ℕ) (step : Pending) (act : Act) → IsTrue (is_started (thread_at s t).life) → IsTrue (is_tending step) → MayChoose s t x step → act ≡ act_of s t x step → IsStep s (event_of t act)
clean-step s t x step act started h m says = (_, step-tends s t x act step h started m says)

pub tends-said : (s : State) (t : ℕ) (p : Pending) (act : Act) → IsTrue (is_tending p) → IsTrue (is_started (thread_at s t).life) → Says s t act p → IsStep s (event_of t act)
tends-said s t p act h started says = (_, step-tends s t says.0 act p h started says.1 says.2)

pub leaves-said : (s : State) (t : ℕ) (act : Act) → IsTrue (is_ending (thread_at s t)) → Says s t act Pending.Left → IsStep s (event_of t act)
leaves-said s t act ending says = (_, step-leaves s t says.0 act ending says.1 says.2)

-- nobody past the thread indices waits
pub late-past : (s : State) (t x : ℕ) (who : ThreadIx) → length s.threads ≡ THREADS → THREADS ≤ who.0 → MayChoose s t x (Pending.TimeOut who) → ⊥
late-past s t x who whole past m =
    let none : has_come s.now (thread_at s who.0).until ≡ false = rw (get_or-eq_default s.threads nobody {n = who.0} (omega arith)) refl in
    let yes = (and_parts (has_come s.now (thread_at s who.0).until) (waits_at s who.0 x) m).0 in cc

pub cut-past : (s : State) (t x : ℕ) (who : ThreadIx) → length s.threads ≡ THREADS → THREADS ≤ who.0 → MayChoose s t x (Pending.Cut who) → ⊥
cut-past s t x who whole past m =
    let none : (thread_at s who.0).aborted ≡ false = rw (get_or-eq_default s.threads nobody {n = who.0} (omega arith)) refl in
    let yes = (and_parts (thread_at s who.0).aborted (waits_at s who.0 x) m).0 in cc

-- a wait ends only of one who waits
pub still-late : (s : State) (t : ℕ) (who : ThreadIx) → is_waiting (thread_at s who.0) ≡ false → ChoosesNone s t (Pending.TimeOut who)
still-late s t who still x m =
    let waits = (and_parts (has_come s.now (thread_at s who.0).until) (waits_at s who.0 x) m).1 in
    let yes = (and_parts (is_waiting (thread_at s who.0)) (stands_in who.0 (waiters_in s x)) waits).0 in cc

pub still-cut : (s : State) (t : ℕ) (who : ThreadIx) → is_waiting (thread_at s who.0) ≡ false → ChoosesNone s t (Pending.Cut who)
still-cut s t who still x m =
    let waits = (and_parts (thread_at s who.0).aborted (waits_at s who.0 x) m).1 in
    let yes = (and_parts (is_waiting (thread_at s who.0)) (stands_in who.0 (waiters_in s x)) waits).0 in cc

pub all-late : (s : State) (t : ℕ) → length s.threads ≡ THREADS → ((w : ℕ) → w < THREADS → ChoosesNone s t (Pending.TimeOut (to_thread w))) → (who : ThreadIx) → ChoosesNone s t (Pending.TimeOut who)
all-late s t whole none who x m = elim (le-or-lt who.0 THREADS) [ inl within ↦ none who.0 within x m | inr past ↦ late-past s t x who whole past m ]

pub all-cut : (s : State) (t : ℕ) → length s.threads ≡ THREADS → ((w : ℕ) → w < THREADS → ChoosesNone s t (Pending.Cut (to_thread w))) → (who : ThreadIx) → ChoosesNone s t (Pending.Cut who)
all-cut s t whole none who x m = elim (le-or-lt who.0 THREADS) [ inl within ↦ none who.0 within x m | inr past ↦ cut-past s t x who whole past m ]

-- no step tends where none of each kind does
pub none-tends : (s : State) (t : ℕ) → ((who : ThreadIx) → ChoosesNone s t (Pending.CleanPair who)) → ChoosesNone s t Pending.Recycle → ((who : ThreadIx) → ChoosesNone s t (Pending.TimeOut who))
    → ((who : ThreadIx) → ChoosesNone s t (Pending.Cut who)) → ChoosesNone s t Pending.Tick → ChoosesNone s t Pending.Expire → (p : Pending) → IsTrue (is_tending p) → ChoosesNone s t p
none-tends s t pairs objects times cuts ticks timers (Pending.CleanPair who) h = pairs who
none-tends s t pairs objects times cuts ticks timers Pending.Recycle h = objects
none-tends s t pairs objects times cuts ticks timers (Pending.TimeOut who) h = times who
none-tends s t pairs objects times cuts ticks timers (Pending.Cut who) h = cuts who
none-tends s t pairs objects times cuts ticks timers Pending.Tick h = ticks
none-tends s t pairs objects times cuts ticks timers Pending.Expire h = timers
none-tends s t pairs objects times cuts ticks timers _ h = cc

-- nobody past those whom a row knows has a pair with it
pub nobody-more : (s : State) (t x : ℕ) (who : ThreadIx) → length (slice_index_or s.pairs x []) ≤ who.0 → MayChoose s t x (Pending.CleanPair who) → ⊥
nobody-more s t x who past m =
    let none : pair_at s who.0 x ≡ false = get_or-eq_default (slice_index_or s.pairs x []) false {n = who.0} past in let yes : pair_at s who.0 x ≡ true = m.1 in cc

-- what holds of the only step holds of each
pub only-some : {o : Option Pending} (P : Pending → Type 0) (q : Pending) → o ≡ Some q → P q → (p : Pending) → o ≡ Some p → P p
only-some P q e h p f = let same : q ≡ p = cc in subst P same h

pub only-none : {o : Option Pending} (P : Pending → Type 0) → o ≡ None → (p : Pending) → o ≡ Some p → P p
only-none P e p f = absurd (let bad : None ≡ Some p = sym e ∙ f in cc)

pub only-first : (s : State) (t : ℕ) (P : Pending → Type 0) (q : Pending) → slice_get (thread_at s t).pending 0 ≡ Some q → P q → (p : Pending) → first_step s t ≡ Some p → P p
only-first s t P q e h = only-some P q (rw e refl) h

-- where nothing is said by the step that a thread is offered, no step is one that it is offered
pub none-first : (s : State) (t : ℕ) (q : Pending) (o : Option Act) → slice_get (thread_at s t).pending 0 ≡ Some q → IfNone o (ChoosesNone s t q)
    → IfNone o ((p : Pending) → first_step s t ≡ Some p → ChoosesNone s t p)
none-first s t q None e none = only-first s t (λ p. ChoosesNone s t p) q e none
none-first s t q (Some act) e none = tt

pub none-second : (s : State) (t : ℕ) (q : Pending) (o : Option Act) → second_step s t ≡ Some q → IfNone o (ChoosesNone s t q) → IfNone o ((p : Pending) → second_step s t ≡ Some p → ChoosesNone s t p)
none-second s t q None e none = only-some (λ p. ChoosesNone s t p) q e none
none-second s t q (Some act) e none = tt

pub only-rest : (s : State) (t : ℕ) (P : Pending → Type 0) → slice_get (thread_at s t).pending 0 ≡ None → ((p : Pending) → rest_step s t ≡ Some p → P p) → (p : Pending) → first_step s t ≡ Some p → P p
only-rest s t P e h p f = h p (let same : first_step s t ≡ rest_step s t = rw e refl in sym same ∙ f)

-- What is refused of a thread's act: as its first step, as its second, as one of its end, and as one that tends.
pub record IsRefused (s : State) (t : ℕ) (act : Act) : Type 0 where
  pub first : (p : Pending) → first_step s t ≡ Some p → SaysNot s t act p
  pub second : (p : Pending) → second_step s t ≡ Some p → SaysNot s t act p
  pub left : IsTrue (is_ending (thread_at s t)) → SaysNot s t act Pending.Left
  pub tending : IsTrue (is_started (thread_at s t).life) → (p : Pending) → IsTrue (is_tending p) → SaysNot s t act p

no-offer : (s : State) (t x : ℕ) (act : Act) {p : Pending} {rest : Steps} → IsRefused s t act → Offers s t p rest → MayChoose s t x p → act ≡ act_of s t x p → ⊥
no-offer s t x act {p} r (goes e) m says = r.first p (first-goes s t e) x m says
no-offer s t x act {p} r (skips_inherit e due) m says = r.second p (second-inherit s t e due) x m says
no-offer s t x act {p} r (skips_drops e due) m says = r.second p (second-drops s t e due) x m says
no-offer s t x act r (begins e l d some) m says = r.first Pending.Begin (first-begins s t e l d some) x m says
no-offer s t x act r (exits e l d i) m says = r.first Pending.Exit (first-exits s t e l d i) x m says
no-offer s t x act r (stops e l must) m says = r.first Pending.Killed (first-stops s t e l must) x m says
no-offer s t x act r (leaves ending) m says = r.left ending x m says
no-offer s t x act {p} r (tends is l) m says = r.tending l p is x m says

pub no-step : (s : State) (event : Event) → IsRefused s event.thread.0 event.act → IsNoStep s event
no-step s event r s2 step = no-offer s event.thread.0 step.row event.act r step.offered step.chosen step.says

-- What a thread can't do at all.
pub record IsStill (s : State) (t : ℕ) : Type 0 where
  pub first : (p : Pending) → first_step s t ≡ Some p → ChoosesNone s t p
  pub second : (p : Pending) → second_step s t ≡ Some p → ChoosesNone s t p
  pub left : IsTrue (is_ending (thread_at s t)) → ChoosesNone s t Pending.Left
  pub tending : IsTrue (is_started (thread_at s t).life) → (p : Pending) → IsTrue (is_tending p) → ChoosesNone s t p

still-refuses : (s : State) (t : ℕ) (act : Act) → IsStill s t → IsRefused s t act
still-refuses s t act still = record {
  first = λ p e x m says. still.first p e x m;
  second = λ p e x m says. still.second p e x m;
  left = λ ending x m says. still.left ending x m;
  tending = λ l p is x m says. still.tending l p is x m;
}

pub still-idle : (s : State) (t : ℕ) → IsStill s t → IsIdle s t
still-idle s t still event s2 e step = no-step s event (still-refuses s event.thread.0 event.act (subst (λ (u : ℕ). IsStill s u) (sym e) still)) s2 step

-- an event is no step where each of these is refused, and a thread is idle where each can't be made
pub refused-step : (s : State) (event : Event) → ((p : Pending) → first_step s event.thread.0 ≡ Some p → SaysNot s event.thread.0 event.act p) → ((p : Pending) → second_step s event.thread.0 ≡ Some p → SaysNot s event.thread.0 event.act p)
    → (IsTrue (is_ending (thread_at s event.thread.0)) → SaysNot s event.thread.0 event.act Pending.Left)
    → (IsTrue (is_started (thread_at s event.thread.0).life) → (p : Pending) → IsTrue (is_tending p) → SaysNot s event.thread.0 event.act p) → IsNoStep s event
refused-step s event first second left tending = no-step s event (record { first = first; second = second; left = left; tending = tending })

pub idle-thread : (s : State) (t : ℕ) → ((p : Pending) → first_step s t ≡ Some p → ChoosesNone s t p) → ((p : Pending) → second_step s t ≡ Some p → ChoosesNone s t p)
    → (IsTrue (is_ending (thread_at s t)) → ChoosesNone s t Pending.Left) → (IsTrue (is_started (thread_at s t).life) → (p : Pending) → IsTrue (is_tending p) → ChoosesNone s t p) → IsIdle s t
idle-thread s t first second left tending = still-idle s t (record { first = first; second = second; left = left; tending = tending })

-- no thread stands past the tables
pub nobody-past : (s : State) (t : ℕ) → length s.threads ≡ THREADS → THREADS ≤ t → thread_at s t ≡ nobody
nobody-past s t whole past = get_or-eq_default s.threads nobody {n = t} (omega arith)

pub first-past : (s : State) (t : ℕ) → thread_at s t ≡ nobody → first_step s t ≡ None
first-past s t e = rw e refl

pub second-past : (s : State) (t : ℕ) → thread_at s t ≡ nobody → second_step s t ≡ None
second-past s t e = rw e refl

pub started-past : (s : State) (t : ℕ) → thread_at s t ≡ nobody → is_started (thread_at s t).life ≡ false
started-past s t e = rw e refl

ending-past : (s : State) (t : ℕ) → thread_at s t ≡ nobody → is_ending (thread_at s t) ≡ false
ending-past s t e = rw e refl

still-past : (s : State) (t : ℕ) → length s.threads ≡ THREADS → THREADS ≤ t → IsStill s t
still-past s t whole past =
    let e = nobody-past s t whole past in
    record {
      first = λ p h. let none = first-past s t e in absurd (let bad : None ≡ Some p = sym none ∙ h in cc);
      second = λ p h. let none = second-past s t e in absurd (let bad : None ≡ Some p = sym none ∙ h in cc);
      left = λ h. absurd (let none = ending-past s t e in let bad : false ≡ true = sym none ∙ h in cc);
      tending = λ l p is. absurd (let none = started-past s t e in let bad : false ≡ true = sym none ∙ l in cc);
    }

pub past-no-step : (s : State) (event : Event) → length s.threads ≡ THREADS → THREADS ≤ event.thread.0 → IsNoStep s event
past-no-step s event whole past = no-step s event (still-refuses s event.thread.0 event.act (still-past s event.thread.0 whole past))

pub ruleset no_steps = (refused-step, past-no-step, idle-thread)

-- where each thread is idle, no event is a step
pub all-idle : (s : State) → length s.threads ≡ THREADS → ((t : ℕ) → t < THREADS → IsIdle s t) → IsComplete s
all-idle s whole idle event s2 step =
    elim (le-or-lt event.thread.0 THREADS) [ inl within ↦ idle event.thread.0 within event s2 refl step | inr past ↦ past-no-step s event whole past s2 step ]
