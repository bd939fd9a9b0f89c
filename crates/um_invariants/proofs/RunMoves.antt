-- Each event of a run is a move, and what is reached from a state that is reached is reached.
use Rattle.um_invariants.proofs.Claimed.{known_move}
use Rattle.um_invariants.proofs.Claims.{Shaped, claims}
use Rattle.std.proofs.Common.{◌≡◌, ℕ, List, [], ◌∷◌, ◌++◌, append_assoc, append-nil, refl, sym, ap, subst, ◌∙◌, IsTrue, Bool, true, false}
use Rattle.um_base.specs.declared.act.Act.{Act}
use Rattle.um_base.specs.declared.act.Event.{Event}
use Rattle.um_machine.specs.declared.pending.Pending.{Pending}
use Rattle.um_machine.specs.Order.{Steps}
use Rattle.um_machine.specs.Run.{Offers, goes, skips_inherit, skips_drops, begins, exits, stops, leaves, tends, is_tending, Step, Runs}
use Rattle.um_machine.specs.State.{State, thread_at, is_living}
use Rattle.um_machine.specs.Table.{act_of}
use Rattle.um_invariants.proofs.Cores.{Call, Core, core_of, call_at, call_is}
use Rattle.um_invariants.proofs.Guards.{Guarded, behind_birth, all_behind}
use Rattle.um_invariants.proofs.Moves.{Move, IsClaimed}
use Rattle.um_invariants.proofs.StepMoves.{moves}
use Rattle.um_invariants.proofs.Turns.{IsReady, IsKnown}

pending_is : (s : State) (t : ℕ) (steps : Steps) → (thread_at s t).pending ≡ steps → (call_at (core_of s) t).pending ≡ steps
pending_is s t steps e = ap (λ (call : Call). call.pending) (call_is s t) ∙ e

-- a thread with a step left, or a living one, keeps its object
keeps_or : (c : Core) (t : ℕ) → IsClaimed c → (b : Bool) → (call_at c t).keeps ≡ b → (p : Pending) (rest : Steps) → (call_at c t).pending ≡ p ∷ rest → (call_at c t).keeps ≡ true
keeps_or c t inv true k p rest e = k
keeps_or c t inv false k p rest e = let none = inv.idle t k in cc

-- what is known of a step that is the next, or the one behind steps that claim nothing
record IsNext (c : Core) (t : ℕ) (p : Pending) (rest : Steps) : Type 0 where
  guarded : Guarded c.image (call_at c t).checked (behind_birth (p ∷ rest))
  shaped : Shaped c.image t (call_at c t).living (call_at c t).checked (p ∷ rest)
  no_more : (w : ℕ) → claims c.image w (p ∷ rest) ≡ true → claims c.image w (call_at c t).pending ≡ true
  keeps : (call_at c t).keeps ≡ true

ready_next : (c : Core) (t : ℕ) (p : Pending) (rest : Steps) → (call_at c t).pending ≡ p ∷ rest → IsNext c t p rest → IsReady c t p rest
ready_next c t (Pending.Born a) rest e n = (e, (n.shaped, n.no_more, n.keeps))
ready_next c t (Pending.CleanPair who) rest e n = tt
ready_next c t Pending.Recycle rest e n = tt
ready_next c t Pending.Left rest e n = tt
ready_next c t Pending.Tick rest e n = tt
ready_next c t (Pending.TimeOut who) rest e n = tt
ready_next c t Pending.Expire rest e n = tt
ready_next c t (Pending.Cut who) rest e n = tt
ready_next c t p rest e n = (n.guarded, (n.shaped, n.no_more, n.keeps))

ready_later : (c : Core) (t : ℕ) (p : Pending) (rest : Steps) → Guarded c.image (call_at c t).checked (p ∷ rest) → IsNext c t p rest → IsReady c t p rest
ready_later c t (Pending.Born a) rest g n = absurd g
ready_later c t (Pending.CleanPair who) rest g n = tt
ready_later c t Pending.Recycle rest g n = tt
ready_later c t Pending.Left rest g n = tt
ready_later c t Pending.Tick rest g n = tt
ready_later c t (Pending.TimeOut who) rest g n = tt
ready_later c t Pending.Expire rest g n = tt
ready_later c t (Pending.Cut who) rest g n = tt
ready_later c t p rest g n = (n.guarded, (n.shaped, n.no_more, n.keeps))

guarded_now : (s : State) (t : ℕ) (steps : Steps) → IsKnown (core_of s) → (thread_at s t).pending ≡ steps → Guarded s.image (call_at (core_of s) t).checked (behind_birth steps)
guarded_now s t steps inv e = subst (λ (left : Steps). Guarded s.image (call_at (core_of s) t).checked (behind_birth left)) (pending_is s t steps e) (inv.reached.guarded t)

pub shaped_now : (s : State) (t : ℕ) (steps : Steps) → IsKnown (core_of s) → (thread_at s t).pending ≡ steps → Shaped s.image t (call_at (core_of s) t).living (call_at (core_of s) t).checked steps
shaped_now s t steps inv e = subst (λ (left : Steps). Shaped s.image t (call_at (core_of s) t).living (call_at (core_of s) t).checked left) (pending_is s t steps e) (inv.claimed.shaped t)

claims_now : (s : State) (t : ℕ) (steps : Steps) → (thread_at s t).pending ≡ steps → (w : ℕ) → claims s.image w steps ≡ true → claims s.image w (call_at (core_of s) t).pending ≡ true
claims_now s t steps e w h = subst (λ (left : Steps). claims s.image w left ≡ true) (sym (pending_is s t steps e)) h

pub keeps_now : (s : State) (t : ℕ) (p : Pending) (rest : Steps) → IsKnown (core_of s) → (thread_at s t).pending ≡ p ∷ rest → (call_at (core_of s) t).keeps ≡ true
keeps_now s t p rest inv e = keeps_or (core_of s) t inv.claimed (call_at (core_of s) t).keeps refl p rest (pending_is s t (p ∷ rest) e)

lives_now : (s : State) (t : ℕ) → IsKnown (core_of s) → IsTrue (is_living (thread_at s t).life) → (call_at (core_of s) t).keeps ≡ true
lives_now s t inv h = inv.claimed.living t (ap (λ (call : Call). call.living) (call_is s t) ∙ h)

-- the step behind one that is skipped, and that claims nothing
ready_behind : (s : State) (t : ℕ) (skipped p : Pending) (rest : Steps) → IsKnown (core_of s) → (thread_at s t).pending ≡ skipped ∷ p ∷ rest
    → Guarded s.image (call_at (core_of s) t).checked (p ∷ rest) → Shaped s.image t (call_at (core_of s) t).living (call_at (core_of s) t).checked (p ∷ rest)
    → ((w : ℕ) → claims s.image w (p ∷ rest) ≡ true → claims s.image w (call_at (core_of s) t).pending ≡ true) → IsReady (core_of s) t p rest
ready_behind s t skipped p rest inv e g shaped no_more =
    ready_later (core_of s) t p rest g
    (record { guarded = all_behind s.image (call_at (core_of s) t).checked (p ∷ rest) g; shaped = shaped; no_more = no_more; keeps = keeps_now s t skipped (p ∷ rest) inv e })

ready_tending : (c : Core) (t : ℕ) (p : Pending) (rest : Steps) → is_tending p ≡ true → IsReady c t p rest
ready_tending c t (Pending.CleanPair who) rest h = tt
ready_tending c t Pending.Recycle rest h = tt
ready_tending c t Pending.Tick rest h = tt
ready_tending c t (Pending.TimeOut who) rest h = tt
ready_tending c t Pending.Expire rest h = tt
ready_tending c t (Pending.Cut who) rest h = tt
ready_tending c t p rest h = cc

ready_offer : (s : State) (t : ℕ) (p : Pending) (rest : Steps) → IsKnown (core_of s) → Offers s t p rest → IsReady (core_of s) t p rest
ready_offer s t p rest inv (goes e) =
    ready_next (core_of s) t p rest (pending_is s t (p ∷ rest) e)
    (record { guarded = guarded_now s t (p ∷ rest) inv e; shaped = shaped_now s t (p ∷ rest) inv e; no_more = claims_now s t (p ∷ rest) e; keeps = keeps_now s t p rest inv e })
ready_offer s t p rest inv (skips_inherit {who = who} e due) =
    let steps = Pending.Inherit who ∷ p ∷ rest in ready_behind s t (Pending.Inherit who) p rest inv e (guarded_now s t steps inv e) (shaped_now s t steps inv e) (claims_now s t steps e)
ready_offer s t p rest inv (skips_drops {from = from} e due) =
    let steps = Pending.Drops from ∷ p ∷ rest in ready_behind s t (Pending.Drops from) p rest inv e (guarded_now s t steps inv e) (shaped_now s t steps inv e) (claims_now s t steps e)
ready_offer s t _ _ inv (begins e living well line) = (tt, (tt, (λ w h. cc), lives_now s t inv living))
ready_offer s t _ _ inv (exits e living well line) = (tt, (tt, (λ w h. cc), lives_now s t inv living))
ready_offer s t _ _ inv (stops e living stop) = (tt, (tt, (λ w h. cc), lives_now s t inv living))
ready_offer s t _ _ inv (leaves ending) = tt
ready_offer s t p _ inv (tends is started) = ready_tending (core_of s) t p (thread_at s t).pending is

pub step_move : (s s2 : State) (event : Event) → IsKnown (core_of s) → Step s event s2 → Move (core_of s) event.thread.0 event.act (core_of s2)
step_move s s2 event inv step =
    let t = event.thread.0 in
    subst (λ (act : Act). Move (core_of s) t act (core_of s2)) (sym step.says)
    (subst (λ (now : State). Move (core_of s) t (act_of s t step.row step.step) (core_of now)) (sym step.leaves)
    (moves s t step.row step.step step.rest inv (ready_offer s t step.step step.rest inv step.offered) step.chosen))

pub known_step : (s s2 : State) (event : Event) → IsKnown (core_of s) → Step s event s2 → IsKnown (core_of s2)
known_step s s2 event inv step = known_move (core_of s) event.thread.0 event.act (core_of s2) inv (step_move s s2 event inv step)

pub known_run : (s : State) (events : List Event) (s2 : State) → IsKnown (core_of s) → Runs s events s2 → IsKnown (core_of s2)
known_run s [] s2 inv run = subst (λ (now : State). IsKnown (core_of now)) (sym run) inv
known_run s (event ∷ events) s2 inv (mid, step, rest) = known_run mid events s2 (known_step s mid event inv step) rest

-- what each event keeps, of the events so far and the state behind them, a run keeps
pub kept_run : (P : List Event → Core → Type 0)
    → ((s s2 : State) (before : List Event) (event : Event) → IsKnown (core_of s) → Step s event s2 → P before (core_of s) → P (before ++ event ∷ []) (core_of s2))
    → (s : State) (before events : List Event) (s2 : State) → IsKnown (core_of s) → P before (core_of s) → Runs s events s2 → P (before ++ events) (core_of s2)
kept_run P keep s before [] s2 inv h run = subst (λ (all : List Event). P all (core_of s2)) (sym (append-nil before)) (subst (λ (now : State). P before (core_of now)) (sym run) h)
kept_run P keep s before (event ∷ events) s2 inv h (mid, step, rest) =
    subst (λ (all : List Event). P all (core_of s2)) (append_assoc before (event ∷ []) events)
    (kept_run P keep mid (before ++ event ∷ []) events s2 (known_step s mid event inv step) (keep s mid before event inv step h) rest)
