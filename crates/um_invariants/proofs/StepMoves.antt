-- Each step is a move of the calls, the statuses, the marks and the pairs.
use Rattle.um_invariants.proofs.Claims.{IsStackRow, claims, Shaped, Fits}
use Rattle.um_base.specs.declared.names.Policy.{Policy}
use Rattle.um_base.specs.declared.image.ObjectDef.{ObjectDef}
use Rattle.std.proofs.Common.{◌≡◌, inl, inr, ℕ, zero, suc, ◌+◌, ◌<◌, ◌≤◌, Bool, true, false, ◌==◌, ◌&&◌, List, [], ◌∷◌, length, map, refl, sym, ap, subst, ◌∙◌, Option, Some, None, slice_index_or, if◌then◌else◌, not, is_some, arith, IsTrue, nat_le, nat_lt, ◌≢◌}
use Rattle.std.proofs.lemmas.Bool.Decides.{nat_tests}
use Rattle.um_base.specs.declared.act.Act.{Act}
use Rattle.um_base.specs.declared.image.Image.{Image}
use Rattle.um_base.specs.declared.limits.TheConstants.{STATIC_ROWS, ROWS}
use Rattle.um_base.specs.declared.names.Access.TheVariants as Access
use Rattle.um_base.specs.declared.names.Addr.{Addr}
use Rattle.um_base.specs.declared.names.Errno.{Errno}
use Rattle.um_base.specs.declared.names.Kind.{Kind}
use Rattle.um_base.specs.declared.names.Reply.{Reply}
use Rattle.um_base.specs.declared.names.ThreadIx.{ThreadIx}
use Rattle.um_base.specs.Places.{row_at, addr_of, own_row, dynamic_kind}
use Rattle.um_machine.specs.declared.object.Status.{Status}
use Rattle.um_machine.specs.declared.pending.Pending.{Pending}
use Rattle.um_machine.specs.declared.thread.Thread.{Thread}
use Rattle.um_machine.specs.Memory.{allowed, string_read, le_value, bytes_at}
use Rattle.um_machine.specs.Objects.{verdict, is_gone, is_free, any_holds, thread_holds, is_held, kind_number}
use Rattle.um_machine.specs.Order.{Steps, to_addr, end_steps, fatal_steps, to_thread}
use Rattle.um_machine.specs.Futexes.{futex_answer, futex_refusal, futex_woken, wake_answer}
use Rattle.um_machine.specs.Joins.{join_answer}
use Rattle.um_machine.specs.Services.{without}
use Rattle.um_machine.specs.Run.{MayChoose, is_free_for, stands_in}
use Rattle.um_machine.specs.State.{State, no_rows, vacant, thread_at, object_at, with_thread, with_object, pair_at, is_living, is_to_resume, waiters_in, with_waiters}
use Rattle.um_machine.specs.Goes.{Change, Next, Way, at_end, at_steps, no_access, went, with_answer}
use Rattle.um_machine.specs.Outcomes.{is_fault}
use Rattle.um_machine.specs.Writes.{cost_of, cut, newborn, paid_from, paired, wrote}
use Rattle.um_machine.specs.Table.{after, act_of, amount_of, came_with, continues, dropped, effects, pays, reply_of, row_of, set_said, work_of}
use Rattle.um_machine.proofs.AfterLemmas.{after-is}
use Rattle.um_machine.proofs.EffectLemmas.{effects_of, next_of}
use Rattle.um_invariants.proofs.Cores.{Call, Core, call_of, core_of, idle, call_at, status_at, with_call, with_status, with_seat, call_is, status_is, core-thread, core-object, core-kept, rest_of, with_init, with_kind, core-status}
use Rattle.um_invariants.proofs.Guards.{IsRow, IsSited, IsStatic, Guarded, bearing, behind_birth, guarded_fatal, row_kind, kind_in}
use Rattle.um_invariants.proofs.Moves.{IsClaimed, IsReached, is_quiet, Turn, same, turns, Move, goes, cuts, starts, gives, bears, reserves, recycles}
use Rattle.um_invariants.proofs.Facts.{equals, left_of, right_of, none_checked, is_false, unfree, same_kind, no_slice, lively, is_standing}
use Rattle.um_invariants.proofs.Turns.{IsKnown, IsReady, AreAside, is_turn, turn, turned, turn-made, core-waiters, core-wrote, end_moves, row_is, check_moves, even-asked, even-copied, even-if, even-text, even-work}
use Rattle.um_invariants.proofs.MarkMoves.{set_moves, clear_moves}
use Rattle.um_invariants.proofs.PairMoves.{core-paired, give_moves, core_dropped, core-drop, was_last, drop_move, drop_moves, paired_row}

pub unchecked : (image : Image) (x t : ℕ) (threads : List Thread) → any_holds image x t threads ≡ false → (u : ℕ) → slice_index_or (slice_index_or (map call_of threads) u idle).checked x false ≡ false
unchecked image x t [] h u = none_checked x ROWS
unchecked image x t (me ∷ threads) h zero =
    left_of (slice_index_or me.checked x false) _ (left_of (thread_holds image x t me) (any_holds image x (t + 1) threads) h)
unchecked image x t (me ∷ threads) h (suc u) = unchecked image x (t + 1) threads (right_of (thread_holds image x t me) (any_holds image x (t + 1) threads) h) u

pub unkept : (image : Image) (x t : ℕ) (threads : List Thread) → any_holds image x t threads ≡ false → (u : ℕ) → (slice_index_or (map call_of threads) u idle).keeps ≡ true → own_row image (t + u) ≢ x
unkept image x t [] h u k e = cc
unkept image x t (me ∷ threads) h zero k e =
    let none = right_of (slice_index_or me.checked x false) (me.keeps_own && (own_row image t == x)) (left_of (thread_holds image x t me) (any_holds image x (t + 1) threads) h) in
    let zeroth : t + 0 ≡ t = omega arith in
    let here : own_row image t ≡ x = subst (λ (n : ℕ). own_row image n ≡ x) zeroth e in
    let same_row : (own_row image t == x) ≡ true = equals (own_row image t) x here in keeps_it me.keeps_own (own_row image t == x) k same_row none
  where
    keeps_it : (p q : Bool) → p ≡ true → q ≡ true → (p && q) ≡ false → ⊥
    keeps_it true true h g n = cc
    keeps_it true false h g n = cc
    keeps_it false q h g n = cc
unkept image x t (me ∷ threads) h (suc u) k e =
    let next : t + suc u ≡ t + 1 + u = omega arith in
    unkept image x (t + 1) threads (right_of (thread_holds image x t me) (any_holds image x (t + 1) threads) h) u k (subst (λ (n : ℕ). own_row image n ≡ x) next e)

all_of : (p q r f : Bool) → IsTrue (p && q && r && f) → (p ≡ true) × (q ≡ true) × (r ≡ true) × (f ≡ true)
all_of true true true true h = (refl, refl, refl, refl)
all_of true true true false h = cc
all_of true true false f h = cc
all_of true false r f h = cc
all_of false q r f h = cc

free_row : (s : State) (kind : Kind) (x : ℕ) → IsTrue (is_free_for s kind x) → (STATIC_ROWS ≤ x) × (x < ROWS) × (dynamic_kind x ≡ kind) × ((object_at s x).status ≡ Status.Free)
free_row s kind x h =
    let (low, high, same_number, free) = all_of (nat_le STATIC_ROWS x) (nat_lt x ROWS) (kind_number (dynamic_kind x) == kind_number kind) (is_free (object_at s x).status) h in
    (grind (arith, nat_tests), grind (arith, nat_tests), same_kind (dynamic_kind x) kind same_number, unfree (object_at s x).status free)

dynamic_row_kind : (image : Image) (x : ℕ) → IsSited image → STATIC_ROWS ≤ x → row_kind image x ≡ dynamic_kind x
dynamic_row_kind image x sited h = let few = sited.few in ap (λ (o : Option ObjectDef). kind_in o x) (no_slice image.objects x (omega (arith, few, h)))

static_row : (s : State) (t y : ℕ) → IsStatic s.image (call_at (core_of s) t).checked y → IsRow s.image y
static_row s t y (inl h) = inl h
static_row s t y (inr h) = h.0

static_stands : (s : State) (t y : ℕ) → IsReached (core_of s) → IsStatic s.image (call_at (core_of s) t).checked y → is_standing (status_at (core_of s) y) ≡ true
static_stands s t y inv (inl h) = lively (status_at (core_of s) y) (inv.static y h)
static_stands s t y inv (inr h) = inv.standing t y h.1

-- a step whose act is this
abbrev made : State → ℕ → ℕ → Pending → Steps → Act → State
made s t x p rest act = went rest (wrote (effects s t x p act) s) t (continues s.image t (thread_at s t) x p act (came_with s t p))

reserve_moves : (s : State) (t x : ℕ) (kind : Kind) (rest : Steps) (b : Bool) → (x == 0) ≡ b → IsSited s.image → MayChoose s t x (Pending.Reserve kind) → Fits (core_of s) t rest
    → (let act = Act.Reserve kind (if b then None else Some (to_addr (addr_of s.image x))) in Move (core_of s) t act (core_of (made s t x (Pending.Reserve kind) rest act)))
reserve_moves s t x kind rest true zeroth sited chosen g = goes refl (turn s t (at_steps s.image (record (thread_at s t) { reply = Reply.Null }) rest) rest refl refl g)
reserve_moves s t x kind rest false some sited (inr none) g = absurd (let bad : true ≡ false = sym (equals x 0 none.0) ∙ some in cc)
reserve_moves s t x kind rest false some sited (inl free) g =
    let me = thread_at s t in
    let (dynamic, inside, same_one, here) = free_row s kind x free.1 in
    let o = record vacant { kind = Some kind; status = Status.Reserved; cost = cost_of me.pool 64 } in
    let s2 = with_object (record s { pools = paid_from me.pool 64 s.pools }) x o in
    let steps = Pending.Born (to_addr (addr_of s.image x)) ∷ rest in
    subst (λ (c : Core). Move (core_of s) t (Act.Reserve kind (Some (to_addr (addr_of s.image x)))) c)
    (sym (turned s s2 (with_kind (with_init (with_status (core_of s) x Status.Reserved) x false) x (Some kind)) t (at_steps s2.image (record me { reply = Reply.At (to_addr (addr_of s.image x)) }) steps) steps
    (core-object (record s { pools = paid_from me.pool 64 s.pools }) x o) refl refl refl))
    (reserves x kind rest refl dynamic inside (status_is s x ∙ here) (sym same_one ∙ sym (dynamic_row_kind s.image x sited dynamic)) g.0 g.1)

bear_moves : (s : State) (t row : ℕ) (a : Addr) (rest : Steps) → IsReached (core_of s) → IsReady (core_of s) t (Pending.Born a) rest
    → Move (core_of s) t (Act.Born a)
    (core_of (after s t row (Pending.Born a) rest))
bear_moves s t row a rest inv ready =
    let y = row_of s a in
    let s1 = with_object s y (record (object_at s y) { status = Status.Live }) in
    let s2 = paired s1 t y true in
    let (x, e, reserved) = inv.reserved t a.0 (ap bearing ready.0) in
    let there : row_at s.image a.0 ≡ Some y = e ∙ ap (λ (n : ℕ). Some n) (sym (row_is s a x e)) in
    subst (λ (c : Core). Move (core_of s) t (Act.Born a) c)
    (sym (turned s s2 (with_seat (with_status (core_of s) y Status.Live) t y true) t (at_steps s2.image (thread_at s2 t) rest) rest
    (core-paired s1 t y true ∙ ap (λ (c : Core). with_seat c t y true) (core-status s y (record (object_at s y) { status = Status.Live }) refl refl)) refl refl refl))
    (bears a y rest ready.0 (subst (λ (steps : Steps). Guarded s.image (call_at (core_of s) t).checked (behind_birth steps)) ready.0 (inv.guarded t)) ready.1 there)

start_moves : (s : State) (t : ℕ) (who : ThreadIx) (stack : ℕ) (child me : Thread) (rest : Steps) → call_of child ≡ record idle { keeps = true; living = true; stack = stack }
    → rest_of (call_of me) ≡ rest_of (call_of (thread_at (with_thread s who.0 child) t)) → me.pending ≡ rest → ((other : List Bool) → Guarded s.image other rest)
    → (claims s.image who.0 (call_at (core_of s) t).pending ≡ true) × IsStackRow s.image stack × ((w : ℕ) → claims s.image w rest ≡ false)
    × ((other : List Bool) → Shaped s.image t (call_at (core_of s) t).living other rest) × ((call_at (core_of s) t).keeps ≡ true)
    → Move (core_of s) t (Act.Start who) (core_of (with_thread (with_thread s who.0 child) t me))
start_moves s t who stack child me rest new f h g l =
    let s2 = with_thread s who.0 child in
    let first : Call = record idle { keeps = true; living = true; stack = stack } in
    let c2 = with_call (core_of s) who.0 first in
    let e : core_of s2 ≡ c2 = core-thread s (core_of s) who.0 child first refl new in
    let kept : rest_of (call_of me) ≡ rest_of (call_at c2 t) = f ∙ ap rest_of (sym (call_is s2 t) ∙ ap (λ (c : Core). call_at c t) e) in
    subst (λ (c : Core). Move (core_of s) t (Act.Start who) c)
    (sym (core-thread s2 c2 t me (record (call_at c2 t) { pending = rest }) e (λ i. record (kept i) { pending = h i })))
    (starts who stack rest g l)

clean_moves : (s : State) (t x : ℕ) (who : ThreadIx) (rest : Steps) → IsReached (core_of s) → pair_at s who.0 x ≡ true
    → Move (core_of s) t (act_of s t x (Pending.CleanPair who)) (core_of (after s t x (Pending.CleanPair who) rest))
clean_moves s t x who rest inv there =
    let y = own_row s.image who.0 in
    let o = record (object_at s y) { cleaner = Some (to_thread t) } in
    let l = dropped s who.0 x in
    subst (λ (c : Core). Move (core_of s) t (Act.DropPair who (to_addr (addr_of s.image x)) l) c)
    (sym (core-drop (with_object s y o) who.0 x l ∙ ap (λ (c : Core). core_dropped c who.0 x l) (core-kept s y o refl)))
    (drop_move (core_of s) t None tt who (to_addr (addr_of s.image x)) x l (was_last s who.0 x) (paired_row (core_of s) inv who.0 x there) refl)

-- the steps at a thread's end
shaped_end : (s : State) (t : ℕ) → IsKnown (core_of s) → (call_at (core_of s) t).keeps ≡ true → Shaped s.image t false no_rows (end_steps s.image t (thread_at s t))
shaped_end s t inv keeps =
    let stack = (thread_at s t).stack.0 in
    let same_stack : (call_at (core_of s) t).stack ≡ stack = ap (λ (call : Call). call.stack) (call_is s t) in
    let (row, none) = subst (λ (y : ℕ). IsStackRow s.image y) same_stack (inv.claimed.stacked t keeps) in
    let real = inv.claimed.real t keeps in
    ((refl, λ x. none_checked x ROWS), (stack, inv.reached.sited.rows stack row, none), inv.reached.sited.rows (own_row s.image t) real.0)

shaped_fatal : (s : State) (t : ℕ) → IsKnown (core_of s) → (call_at (core_of s) t).keeps ≡ true → (reason : ℕ) (policy : Policy) → Shaped s.image t false no_rows (fatal_steps s.image t (thread_at s t) reason policy)
shaped_fatal s t inv keeps reason Policy.Halt = tt
shaped_fatal s t inv keeps reason Policy.Abort = panics (reason == 4)
  where
    panics : (b : Bool) → Shaped s.image t false no_rows (if b then Pending.Dooms 0 ∷ [] else end_steps s.image t (thread_at s t))
    panics true = tt
    panics false = shaped_end s t inv keeps

claimless_fatal : (s : State) (t reason : ℕ) (policy : Policy) (w : ℕ) → claims s.image w (fatal_steps s.image t (thread_at s t) reason policy) ≡ false
claimless_fatal s t reason Policy.Halt w = refl
claimless_fatal s t reason Policy.Abort w = panics (reason == 4)
  where
    panics : (b : Bool) → claims s.image w (if b then Pending.Dooms 0 ∷ [] else end_steps s.image t (thread_at s t)) ≡ false
    panics true = refl
    panics false = refl

-- an access that is made, or is a fault
access_moves : (s : State) (t x : ℕ) (p : Pending) (rest : Steps) (one other : Act) (b : Bool) → is_quiet one ≡ true → is_quiet other ≡ true
    → ((act : Act) → AreAside (effects s t x p act)) → ((act : Act) → is_turn (continues s.image t (thread_at s t) x p act (came_with s t p)) ≡ true) → IsSited s.image → Fits (core_of s) t rest
    → (let act = if b then one else other in Move (core_of s) t act (core_of (made s t x p rest act)))
access_moves s t x p rest one other true q r aside goes_so sited g = goes q (turn-made s t (effects s t x p one) rest (continues s.image t (thread_at s t) x p one (came_with s t p)) (aside one) (goes_so one) sited g)
access_moves s t x p rest one other false q r aside goes_so sited g = goes r (turn-made s t (effects s t x p other) rest (continues s.image t (thread_at s t) x p other (came_with s t p)) (aside other) (goes_so other) sited g)

-- a step that writes aside alone, and goes on so
turn-after : (s : State) (t x : ℕ) (p : Pending) (rest : Steps) → IsKnown (core_of s) → AreAside (effects_of s t x p) → is_turn (next_of s t x p) ≡ true → Fits (core_of s) t rest → Turn (core_of s) t (core_of (after s t x p rest))
turn-after s t x p rest inv aside goes_so g =
    subst (λ (u : State). Turn (core_of s) t (core_of u)) (sym (after-is s t x p rest)) (turn-made s t (effects_of s t x p) rest (next_of s t x p) aside goes_so inv.reached.sited g)

-- a step that writes aside alone, and leaves its thread as it is
stays-after : (s : State) (t x : ℕ) (p : Pending) (rest : Steps) → AreAside (effects_of s t x p) → next_of s t x p ≡ Next.stays → Turn (core_of s) t (core_of (after s t x p rest))
stays-after s t x p rest aside stays =
    let u = wrote (effects_of s t x p) s in
    subst (λ (now : State). Turn (core_of s) t (core_of now)) (sym (after-is s t x p rest))
    (subst (λ (next : Next). Turn (core_of s) t (core_of (went rest u t next))) (sym stays) (subst (λ (c : Core). Turn (core_of s) t c) (sym (core-wrote s (effects_of s t x p) aside)) same))

-- a thread that waits keeps its object
waits_keeps : (c : Core) (u : ℕ) → IsClaimed c → (b : Bool) → (call_at c u).keeps ≡ b → is_to_resume (call_at c u).pending ≡ true → (call_at c u).keeps ≡ true
waits_keeps c u inv true k h = k
waits_keeps c u inv false k h = let none : is_to_resume (call_at c u).pending ≡ false = ap is_to_resume (inv.idle u k) in cc

waiting_parts : (a b c d : Bool) → (a && ((b && c) && d)) ≡ true → b ≡ true
waiting_parts true true c d h = refl
waiting_parts true false c d h = cc
waiting_parts false b c d h = cc

cut_moves : (s : State) (t x : ℕ) (who : ThreadIx) (rest : Steps) → IsKnown (core_of s) → MayChoose s t x (Pending.Cut who) → Move (core_of s) t (Act.Cut who) (core_of (after s t x (Pending.Cut who) rest))
cut_moves s t x who rest inv chosen =
    let target = thread_at s who.0 in
    let ws = without who.0 (waiters_in s x) in
    let s2 = with_waiters s x ws in
    let e = core-waiters s x ws in
    let resumes : is_to_resume target.pending ≡ true = waiting_parts target.aborted (is_to_resume target.pending) (not (is_some target.told)) (stands_in who.0 (waiters_in s x)) chosen in
    let keeps = waits_keeps (core_of s) who.0 inv.claimed (call_at (core_of s) who.0).keeps refl (ap (λ (call : Call). is_to_resume call.pending) (call_is s who.0) ∙ resumes) in
    cuts who (subst (λ (c : Core). Turn c who.0 (core_of (after s t x (Pending.Cut who) rest))) e
    (turn s2 who.0 (cut (thread_at s2 who.0)) (Pending.Killed ∷ []) refl refl (tt, (tt, (λ w h. cc), keeps))))

-- each step is a move
pub moves : (s : State) (t x : ℕ) (p : Pending) (rest : Steps) → IsKnown (core_of s) → IsReady (core_of s) t p rest → MayChoose s t x p → Move (core_of s) t (act_of s t x p) (core_of (after s t x p rest))
moves s t x Pending.Exit rest inv ready chosen =
    let me = thread_at s t in
    let steps = end_steps s.image t me in end_moves s t Act.Exit (at_end s t me steps) steps false tt refl tt (shaped_end s t inv ready.1.2, (λ w. refl), ready.1.2)
moves s t x Pending.Killed rest inv ready chosen =
    let me = thread_at s t in
    let steps = end_steps s.image t me in end_moves s t Act.Killed (at_end s t me steps) steps false tt refl tt (shaped_end s t inv ready.1.2, (λ w. refl), ready.1.2)
moves s t x (Pending.Fatal reason cause) rest inv ready chosen =
    let me = thread_at s t in
    let steps = fatal_steps s.image t me reason s.image.policy in
    end_moves s t (Act.Fatal reason cause) (at_end s t me steps) steps false tt refl
    (guarded_fatal s.image t me reason s.image.policy) (shaped_fatal s t inv ready.1.2 reason s.image.policy, claimless_fatal s t reason s.image.policy, ready.1.2)
moves s t x (Pending.Answer reply to) rest inv ready chosen =
    let me = thread_at s t in
    let living = is_living me.life in
    end_moves s t (Act.Answered (reply_of me reply)) (at_steps s.image (record me { checked = no_rows; until = None; registers = with_answer me.registers to (reply_of me reply) }) rest) rest living tt refl ready.0
    (subst (λ (steps : Steps). Shaped s.image t living no_rows steps) (sym ready.1.0) tt, (λ w. ap (λ (steps : Steps). claims s.image w steps) ready.1.0), ready.1.2)
moves s t x (Pending.Check a kind want refusal) rest inv ready chosen = check_moves s t a kind want refusal rest inv ready (verdict s t a.0 kind want) refl
moves s t x (Pending.Load to a n) rest inv ready chosen =
    access_moves s t x (Pending.Load to a n) rest (Act.Load a n (le_value (bytes_at s a.0 n))) (Act.Fault Access.Read a n) (allowed s t Access.Read a.0 n) refl refl (λ act. refl) (λ act. even-if (is_fault act) no_access Way.rest refl refl)
    inv.reached.sited ready
moves s t x (Pending.Store a n value) rest inv ready chosen =
    access_moves s t x (Pending.Store a n value) rest (Act.Store a n value) (Act.Fault Access.Write a n) (allowed s t Access.Write a.0 n) refl refl (λ act. refl) (λ act. even-if (is_fault act) no_access Way.rest refl refl)
    inv.reached.sited ready
moves s t x (Pending.Fetch a) rest inv ready chosen =
    access_moves s t x (Pending.Fetch a) rest (Act.Fetch a) (Act.Fault Access.Exec a 4) (allowed s t Access.Exec a.0 4) refl refl (λ act. refl) (λ act. even-if (is_fault act) no_access Way.rest refl refl) inv.reached.sited ready
moves s t x (Pending.Probe a amount) rest inv ready chosen =
    goes refl (turn-after s t x (Pending.Probe a amount) rest inv refl (even-copied (thread_at s t).mode (allowed s t Access.Write a.0 (amount_of s amount))) ready)
moves s t x (Pending.CopyIn a amount) rest inv ready chosen =
    goes refl (turn-after s t x (Pending.CopyIn a amount) rest inv refl (even-copied (thread_at s t).mode (allowed s t Access.Read a.0 (amount_of s amount))) ready)
moves s t x (Pending.CopyOut a) rest inv ready chosen =
    goes refl (turn-after s t x (Pending.CopyOut a) rest inv refl (even-copied (thread_at s t).mode (allowed s t Access.Write a.0 (length (thread_at s t).buffer))) ready)
moves s t x (Pending.CopyStr a) rest inv ready chosen = goes refl (turn-after s t x (Pending.CopyStr a) rest inv refl (even-text (string_read s t a.0 32)) ready)
moves s t x (Pending.Work a ask) rest inv ready chosen = goes refl (turn-after s t x (Pending.Work a ask) rest inv refl (even-work (thread_at s t).mode ask (work_of s t a ask).answer) ready)
moves s t x (Pending.Buffer size) rest inv ready chosen = goes refl (turn-after s t x (Pending.Buffer size) rest inv refl (even-if (pays s (thread_at s t).pool size) Way.rest (Way.replies (Reply.Fail Errno.ENOMEM)) refl refl) ready)
moves s t x (Pending.Grant who a) rest inv ready chosen =
    let (y, e, held) = ready.0.0 in
    let same_row = row_is s a y e in
    let found = inv.reached.sited.found a.0 y e in
    give_moves s t who.0 (row_of s a) (λ g. Act.Grant who a g) (Next.on Change.nothing Way.rest) rest (is_gone (object_at s (row_of s a)).status) refl
    (subst (λ (n : ℕ). IsRow s.image n) (sym same_row) found.0) (subst (λ (n : ℕ). is_standing (status_at (core_of s) n) ≡ true) (sym same_row) (inv.reached.standing t y held)) refl refl
    (refl, sym found.1 ∙ ap (addr_of s.image) (sym same_row)) (λ u me. refl) (ready.0.1, ready.1)
moves s t x (Pending.Own who) rest inv ready chosen =
    let y = own_row s.image who.0 in
    give_moves s t who.0 y (λ g. Act.Own who g) (Next.creates who) rest (is_gone (object_at s y).status) refl (static_row s t y ready.0.0) (static_stands s t y inv.reached ready.0.0) refl refl (refl, refl)
    (λ u me. refl) (ready.0.1, ready.1)
moves s t x (Pending.Inherit who) rest inv ready chosen =
    let row = paired_row (core_of s) inv.reached t x chosen.0 in
    let s2 = paired s who.0 x true in
    subst (λ (c : Core). Move (core_of s) t (Act.Inherit who (to_addr (addr_of s.image x))) c)
    (sym (turned s s2 (with_seat (core_of s) who.0 x true) t (record (thread_at s2 t) { pending = Pending.Inherit who ∷ rest }) (Pending.Inherit who ∷ rest) (core-paired s who.0 x true) refl refl refl))
    (gives who.0 x refl (refl, refl) row (inv.reached.living t x chosen.0) (turns (Pending.Inherit who ∷ rest) ready.0 ready.1))
moves s t x (Pending.DropPair who a) rest inv ready chosen =
    let (y, e, held) = ready.0.0 in
    let same_row = row_is s a y e in
    let found = inv.reached.sited.found a.0 y e in
    drop_moves s t who a (row_of s a) (Next.on Change.nothing Way.rest) rest rest (subst (λ (n : ℕ). IsRow s.image n) (sym same_row) found.0)
    (sym found.1 ∙ ap (addr_of s.image) (sym same_row)) (λ u me. refl) (ready.0.1, (ready.1.0.1, ready.1.1, ready.1.2))
moves s t x (Pending.SetInit a strict undo) rest inv ready chosen = set_moves s t a strict undo rest (set_said (object_at s (row_of s a)) strict) refl ready
moves s t x (Pending.ClearInit a) rest inv ready chosen = clear_moves s t a rest inv ready
moves s t x (Pending.Reserve kind) rest inv ready chosen = reserve_moves s t x kind rest (x == 0) refl inv.reached.sited chosen ready
moves s t x (Pending.Born a) rest inv ready chosen = bear_moves s t x a rest inv.reached ready
moves s t x (Pending.Start who script stack priority mode) rest inv ready chosen =
    let child = newborn s (thread_at s t) who.0 script (Pending.Start who script stack priority mode) in
    let s2 = with_thread s who.0 child in
    start_moves s t who stack.0 child (at_steps s2.image (record (thread_at s2 t) { child = None }) rest) rest refl refl refl ready.0
    (ready.1.1 who.0 (equals who.0 who.0 refl), ready.1.0.0, ready.1.0.1, ready.1.0.2, ready.1.2)
moves s t x (Pending.Drops from) rest inv ready chosen =
    drop_moves s t (to_thread t) (to_addr (addr_of s.image x)) x (Next.drops (x + 1)) rest (Pending.Drops (x + 1) ∷ rest) (paired_row (core_of s) inv.reached t x chosen.1) refl (λ u me. refl) ready
moves s t x (Pending.CleanPair who) rest inv ready chosen = clean_moves s t x who rest inv.reached chosen.1
moves s t x Pending.Recycle rest inv ready chosen =
    subst (λ (c : Core). Move (core_of s) t (Act.Recycle (to_addr (addr_of s.image x))) c) (sym (core-object s x vacant))
    (recycles x (ap is_gone (status_is s x) ∙ chosen.0.0) (unchecked s.image x 0 s.threads (is_false (is_held s x) chosen.0.1))
    (λ u k. let zeroth : 0 + u ≡ u = omega arith in subst (λ (n : ℕ). own_row s.image n ≢ x) zeroth (unkept s.image x 0 s.threads (is_false (is_held s x) chosen.0.1) u k)))
moves s t x (Pending.Join who timeout) rest inv ready chosen = goes refl (turn-after s t x (Pending.Join who timeout) rest inv refl (even-asked (join_answer s t x who.0 timeout)) ready)
moves s t x (Pending.FutexWait a value timeout) rest inv ready chosen =
    goes refl (turn-after s t x (Pending.FutexWait a value timeout) rest inv refl (even-asked (futex_answer s t a.0 value timeout)) ready)
moves s t x (Pending.FutexWake a all) rest inv ready chosen =
    goes refl (turn-after s t x (Pending.FutexWake a all) rest inv refl (even-asked (wake_answer (futex_refusal s t a.0) (length (futex_woken s t a.0 all)))) ready)
moves s t x Pending.Left rest inv ready chosen = goes refl (stays-after s t x Pending.Left rest refl refl)
moves s t x Pending.Tick rest inv ready chosen = goes refl (stays-after s t x Pending.Tick rest refl refl)
moves s t x (Pending.TimeOut who) rest inv ready chosen = goes refl (stays-after s t x (Pending.TimeOut who) rest refl refl)
moves s t x Pending.Expire rest inv ready chosen = goes refl (stays-after s t x Pending.Expire rest refl refl)
moves s t x (Pending.Cut who) rest inv ready chosen = cut_moves s t x who rest inv chosen
moves s t x p rest inv ready chosen = goes refl (turn-after s t x p rest inv refl refl ready)
