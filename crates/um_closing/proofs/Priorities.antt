-- No step of the access-matrix machine but a start changes the priority of a thread, and a start changes only that of the thread started.
use Rattle.std.specs.Prelude.{ℤ}
use Rattle.std.proofs.Common.{◌∙◌, ◌∷◌, ◌≡◌, None, Some, [], ap, refl, true, ℕ}
use Rattle.um_machine.specs.Goes.{Next, gone, went}
use Rattle.um_machine.specs.Order.{Steps}
use Rattle.um_machine.specs.Services.{without}
use Rattle.um_machine.specs.State.{State, thread_at, waiters_in}
use Rattle.um_machine.specs.Writes.{Effect, Effects, cut, wrote}
use Rattle.um_machine.specs.declared.pending.Pending.{Pending}
use Rattle.um_machine.specs.declared.thread.Thread.{Thread}
use Rattle.um_machine.proofs.EffectLemmas.{Ignores, all_other, effects_of, key-same, keys-wrote, next_of, keys-went, set-keys}
use Rattle.um_machine.proofs.WayLemmas.{changed-same, held-same}
use Rattle.um_refinement.proofs.ThreadLists.{set-else}
use Rattle.um_machine.specs.Table as T

-- a step that starts no thread, or another one
abbrev pub StartsOther : ℕ → Pending → Type 0
StartsOther u (Pending.Start who script stack priority mode) = ¬ (who.0 ≡ u)
StartsOther u q = Unit {0}

abbrev pub priority_of : Thread → ℤ
priority_of me = me.priority

ignores : Ignores priority_of all_other
ignores = record { due = λ h me due. refl; told = λ h me told. refl; domain = λ h me domain. refl; doomed = λ h me. refl; flagged = λ h me aborted suspended. refl }

-- however a thread goes on, its priority stays
gone-same : (left : Steps) (s : State) (t : ℕ) (next : Next) (me : Thread) → (gone left s t next me).priority ≡ me.priority
gone-same left s t (Next.on change way) me = changed-same priority_of (λ me registers reply buffer until. refl) change me
gone-same left s t (Next.checks x verdict way) me = held-same priority_of (λ me checked. refl) x verdict me
gone-same left s t (Next.begins None) me = refl
gone-same left s t (Next.begins (Some instr)) me = refl
gone-same left s t (Next.resumes None) me = refl
gone-same left s t (Next.resumes (Some told)) me = refl
gone-same left s t next me = refl

module _ (m : State) (t u : ℕ) where
  wrote-same : (x : ℕ) (q : Pending) → StartsOther u q → (thread_at (wrote (effects_of m t x q) m) u).priority ≡ (thread_at m u).priority
  wrote-same x (Pending.Start who script stack priority mode) other =
      ap priority_of (set-else m.threads who.0 u (T.newborn m (thread_at m t) who.0 script (Pending.Start who script stack priority mode)) other)
  wrote-same x (Pending.Cut who) other =
      let waiters : Effects = (true, Effect.waiters x (without who.0 (waiters_in m x))) ∷ [] in
      key-same priority_of m (wrote (effects_of m t x (Pending.Cut who)) m)
      (set-keys priority_of (wrote waiters m).threads who.0 (cut (thread_at (wrote waiters m) who.0)) refl ∙ keys-wrote priority_of all_other ignores waiters m refl) u
  wrote-same x q other =
      let ws = effects_of m t x q in key-same priority_of m (wrote ws m) (keys-wrote priority_of all_other ignores ws m refl) u

  pub priority-stays : (x : ℕ) (q : Pending) (rest : Steps) → StartsOther u q → (thread_at (T.after m t x q rest) u).priority ≡ (thread_at m u).priority
  priority-stays x q rest other =
      let s = wrote (effects_of m t x q) m in
      key-same priority_of s (went rest s t (next_of m t x q)) (keys-went priority_of rest s t (next_of m t x q) (gone-same rest s t (next_of m t x q) (thread_at s t))) u
      ∙ wrote-same x q other
