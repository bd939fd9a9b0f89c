-- Pairs that come and go.
use Rattle.um_invariants.proofs.Claims.{Fits}
use Rattle.um_invariants.specs.Acts.{ActGives}
use Rattle.std.proofs.Common.{◌≡◌, ℕ, zero, suc, ◌≤◌, Bool, true, false, not, ◌&&◌, List, [], ◌∷◌, refl, sym, ap, subst, ◌∙◌, Option, Some, None, slice_index_or, if◌then◌else◌, arith, nat_le}
use Rattle.std.specs.List.{list_all}
use Rattle.std.proofs.lemmas.Bool.Decides.{nat_tests}
use Rattle.um_base.specs.declared.act.Act.{Act}
use Rattle.um_base.specs.declared.act.Given.{Given}
use Rattle.um_base.specs.declared.act.Leftover.{Leftover}
use Rattle.um_base.specs.declared.limits.TheConstants.{STATIC_ROWS}
use Rattle.um_base.specs.declared.names.Addr.{Addr}
use Rattle.um_base.specs.declared.names.ThreadIx.{ThreadIx}
use Rattle.um_base.specs.Places.{addr_of}
use Rattle.um_machine.specs.declared.object.Status.{Status}
use Rattle.um_machine.specs.declared.thread.Thread.{Thread}
use Rattle.um_machine.specs.Objects.{is_live, is_gone}
use Rattle.um_machine.specs.Order.{Steps}
use Rattle.um_machine.specs.State.{State, thread_at, object_at, with_thread, with_pair, pair_at}
use Rattle.um_machine.specs.Goes.{Next, gone}
use Rattle.um_machine.specs.Writes.{Effect, only, was_given, wrote}
use Rattle.um_machine.specs.Writes as W
use Rattle.um_machine.specs.Table.{dropped, paired}
use Rattle.um_invariants.proofs.Cores.{Call, Core, call_of, core_of, call_at, status_at, has_pair, with_call, with_status, with_seat, status_is, core-dues, rest_of, core-status}
use Rattle.um_invariants.proofs.Guards.{IsRow}
use Rattle.um_invariants.proofs.Moves.{IsReached, is_quiet, same, turns, Move, goes, gives, drops, kills}
use Rattle.um_invariants.proofs.Facts.{not_free, is_standing}
use Rattle.um_invariants.proofs.Turns.{turn, turned}

-- a pair comes or goes
pub core-paired : (s : State) (u x : ℕ) (there : Bool) → core_of (paired s u x there) ≡ with_seat (core_of s) u x there
core-paired s u x there = core-dues (with_pair s u x there) x _

pub is_lasting : (status : Status) → is_standing status ≡ true → is_gone status ≡ false → is_live status ≡ true
is_lasting Status.Live h g = refl
is_lasting Status.Gone h g = cc
is_lasting Status.Free h g = cc
is_lasting Status.Reserved h g = cc

-- a pair is given, unless the object is gone, and its thread goes on
pub give_moves : (s : State) (t who y : ℕ) (make : Given → Act) (next : Next) (rest : Steps) → (b : Bool) → is_gone (object_at s y).status ≡ b → IsRow s.image y
    → is_standing (status_at (core_of s) y) ≡ true → is_quiet (make Given.Done) ≡ true → is_quiet (make Given.Gone) ≡ true → ActGives s.image who (addr_of s.image y) t (make Given.Done)
    → ((u : State) (me : Thread) → call_of (gone rest u t next me) ≡ record (call_of me) { pending = rest }) → Fits (core_of s) t rest
    → (let given = if b then Given.Gone else Given.Done in let u = wrote (only (was_given given) (Effect.pair who y true) ∷ []) s in Move (core_of s) t (make given) (core_of (with_thread u t (gone rest u t next (thread_at u t)))))
give_moves s t who y make next rest true e row stands q r act f g =
    let me = gone rest s t next (thread_at s t) in goes r (turn s t me rest (ap rest_of (f s (thread_at s t))) (ap (λ (call : Call). call.pending) (f s (thread_at s t))) g)
give_moves s t who y make next rest false e row stands q r act f g =
    let u = paired s who y true in
    let now = f u (thread_at u t) in
    let lives : is_live (status_at (core_of s) y) ≡ true = is_lasting (status_at (core_of s) y) stands (ap is_gone (status_is s y) ∙ e) in
    subst (λ (c : Core). Move (core_of s) t (make Given.Done) c)
    (sym (turned s u (with_seat (core_of s) who y true) t (gone rest u t next (thread_at u t)) rest (core-paired s who y true) refl (ap rest_of now) (ap (λ (call : Call). call.pending) now)))
    (gives who y q act row lives (turns rest g.0 g.1))

-- what a dropped pair leaves
abbrev pub core_dropped : Core → ℕ → ℕ → Leftover → Core
core_dropped c who x Leftover.NoPair = c
core_dropped c who x Leftover.Kept = with_seat c who x false
core_dropped c who x Leftover.Gone = with_status (with_seat c who x false) x Status.Gone

pub calls_dropped : (c : Core) (who x : ℕ) (l : Leftover) → (core_dropped c who x l).calls ≡ c.calls
calls_dropped c who x Leftover.NoPair = refl
calls_dropped c who x Leftover.Kept = refl
calls_dropped c who x Leftover.Gone = refl

pub core-drop : (s : State) (who x : ℕ) (l : Leftover) → core_of (wrote (W.drops who x l) s) ≡ core_dropped (core_of s) who x l
core-drop s who x Leftover.NoPair = refl
core-drop s who x Leftover.Kept = core-paired s who x false
core-drop s who x Leftover.Gone =
    core-status (paired s who x false) x (record (object_at s x) { status = Status.Gone }) refl refl ∙ ap (λ (c : Core). with_status c x Status.Gone) (core-paired s who x false)

-- the last pair of a dynamic object was there, and none is left
pub record WasLast (c : Core) (who x : ℕ) : Type 0 where
  pub dynamic : STATIC_ROWS ≤ x
  pub there : has_pair c who x ≡ true
  pub alone : (u : ℕ) → has_pair (with_seat c who x false) u x ≡ false

pub is_gone_by : (p q r : Bool) → (if not p then Leftover.NoPair else if q && r then Leftover.Gone else Leftover.Kept) ≡ Leftover.Gone → (p ≡ true) × (q ≡ true) × (r ≡ true)
is_gone_by true true true h = (refl, refl, refl)
is_gone_by true true false h = cc
is_gone_by true false r h = cc
is_gone_by false q r h = cc

pub none_at : (flags : List Bool) → list_all not flags ≡ true → (u : ℕ) → slice_index_or flags u false ≡ false
none_at [] h u = refl
none_at (true ∷ flags) h u = cc
none_at (false ∷ flags) h zero = refl
none_at (false ∷ flags) h (suc u) = none_at flags h u

pub was_last : (s : State) (who x : ℕ) → dropped s who x ≡ Leftover.Gone → WasLast (core_of s) who x
was_last s who x h =
    let (there, dynamic, alone) = is_gone_by (pair_at s who x) (nat_le STATIC_ROWS x) _ h in
    record { dynamic = grind (arith, nat_tests); there = there; alone = λ u. none_at _ alone u }

-- a thread goes on, or it cleans and stays where it is
abbrev pub after_turn : Core → Core → ℕ → Option Steps → Core
after_turn c d t None = d
after_turn c d t (Some steps) = with_call d t (record (call_at c t) { pending = steps })

abbrev pub MayTurn : Core → ℕ → Option Steps → Type 0
MayTurn c t None = Unit {0}
MayTurn c t (Some steps) = Fits c t steps

pub drop_move : (c : Core) (t : ℕ) (o : Option Steps) → MayTurn c t o → (who : ThreadIx) (b : Addr) (x : ℕ) (l : Leftover) → (l ≡ Leftover.Gone → WasLast c who.0 x) → IsRow c.image x → b.0 ≡ addr_of c.image x
    → Move c t (Act.DropPair who b l) (after_turn c (core_dropped c who.0 x l) t o)
drop_move c t None g who b x Leftover.NoPair last row e = goes refl same
drop_move c t (Some steps) g who b x Leftover.NoPair last row e = goes refl (turns steps g.0 g.1)
drop_move c t None g who b x Leftover.Kept last row e = drops who b x row e same
drop_move c t (Some steps) g who b x Leftover.Kept last row e = drops who b x row e (turns steps g.0 g.1)
drop_move c t None g who b x Leftover.Gone last row e = let w = last refl in kills who b x w.dynamic row e w.there w.alone same
drop_move c t (Some steps) g who b x Leftover.Gone last row e = let w = last refl in kills who b x w.dynamic row e w.there w.alone (turns steps g.0 g.1)

pub drop_moves : (s : State) (t : ℕ) (who : ThreadIx) (b : Addr) (x : ℕ) (next : Next) (rest left : Steps) → IsRow s.image x → b.0 ≡ addr_of s.image x
    → ((u : State) (me : Thread) → call_of (gone rest u t next me) ≡ record (call_of me) { pending = left }) → Fits (core_of s) t left
    → (let u = wrote (W.drops who.0 x (dropped s who.0 x)) s in Move (core_of s) t (Act.DropPair who b (dropped s who.0 x)) (core_of (with_thread u t (gone rest u t next (thread_at u t)))))
drop_moves s t who b x next rest left row e f g =
    let l = dropped s who.0 x in
    let u = wrote (W.drops who.0 x l) s in
    let now = f u (thread_at u t) in
    subst (λ (c : Core). Move (core_of s) t (Act.DropPair who b l) c)
    (sym (turned s u (core_dropped (core_of s) who.0 x l) t (gone rest u t next (thread_at u t)) left (core-drop s who.0 x l) (calls_dropped (core_of s) who.0 x l) (ap rest_of now) (ap (λ (call : Call). call.pending) now)))
    (drop_move (core_of s) t (Some left) g who b x l (was_last s who.0 x) row e)

pub paired_row : (c : Core) → IsReached c → (u x : ℕ) → has_pair c u x ≡ true → IsRow c.image x
paired_row c inv u x h = inv.used x (not_free (status_at c x) (inv.living u x h))
