-- Pairs come and go, threads move and are told, and the steps that they have left stay.
use Rattle.std.proofs.Common.{◌≡◌, ℕ, Bool, true, List, [], ◌∷◌, refl}
use Rattle.std.specs.List.{list_all}
use Rattle.um_base.specs.declared.act.Leftover.{Leftover}
use Rattle.um_base.specs.declared.ask.Told.{Told}
use Rattle.um_base.specs.declared.names.ThreadIx.{ThreadIx}
use Rattle.um_machine.specs.declared.thread.Thread.{Thread}
use Rattle.um_machine.specs.State.{State, thread_at}
use Rattle.um_machine.specs.Writes.{Effect, Effects, Flag, all_woken, does, drops, only, paired, write, wrote}
use Rattle.um_machine.proofs.EffectLemmas.{Ignores, all_other, is_spared, key-same, keys-wrote}

-- what no write of another thread changes stays, unless a thread is started
pub stays : {K : Type 0} (of : Thread → K) → Ignores of all_other → (ws : Effects) (s : State) (t : ℕ) → list_all (λ (w : Bool × Effect). is_spared all_other w.1) ws ≡ true
    → of (thread_at (wrote ws s) t) ≡ of (thread_at s t)
stays of ignores ws s t spared = key-same of s (wrote ws s) (keys-wrote of all_other ignores ws s spared) t

pending-wrote : (ws : Effects) (s : State) (t : ℕ) → list_all (λ (w : Bool × Effect). is_spared all_other w.1) ws ≡ true → (thread_at (wrote ws s) t).pending ≡ (thread_at s t).pending
pending-wrote = stays (λ (me : Thread). me.pending) (record { due = λ h me due. refl; told = λ h me told. refl; domain = λ h me domain. refl; doomed = λ h me. refl; flagged = λ h me aborted suspended. refl })

pub pending-paired : (s : State) (u x : ℕ) (there : Bool) (t : ℕ) → (thread_at (paired s u x there) t).pending ≡ (thread_at s t).pending
pending-paired s u x there t = pending-wrote (does (Effect.pair u x there) ∷ []) s t refl

pub pending-given : (s : State) (u x : ℕ) (is_given : Bool) (t : ℕ) → (thread_at (write (only is_given (Effect.pair u x true)) s) t).pending ≡ (thread_at s t).pending
pending-given s u x is_given t = pending-wrote (only is_given (Effect.pair u x true) ∷ []) s t refl

pub pending-dropped : (s : State) (u x : ℕ) (left : Leftover) (t : ℕ) → (thread_at (wrote (drops u x left) s) t).pending ≡ (thread_at s t).pending
pending-dropped s u x left t = pending-wrote (drops u x left) s t refl

pub pending-moved : (s : State) (who d : ℕ) (may : Bool) (t : ℕ) → (thread_at (write (only may (Effect.moves who d)) s) t).pending ≡ (thread_at s t).pending
pending-moved s who d may t = pending-wrote (only may (Effect.moves who d) ∷ []) s t refl

pub pending-flagged : (s : State) (who : ℕ) (flag : Flag) (lives : Bool) (t : ℕ) → (thread_at (write (only lives (Effect.flags who flag)) s) t).pending ≡ (thread_at s t).pending
pending-flagged s who flag lives t = pending-wrote (only lives (Effect.flags who flag) ∷ []) s t refl

pub pending-all_woken : (ws : List (ThreadIx × Told)) (s : State) (t : ℕ) → (thread_at (all_woken ws s) t).pending ≡ (thread_at s t).pending
pending-all_woken ws s t = pending-wrote (does (Effect.wakes ws) ∷ []) s t refl

pub ruleset pendings_kept = (pending-paired, pending-given, pending-dropped, pending-moved, pending-flagged)
