-- A step of one thread leaves what another thread does: its own part, its life, and what it has checked.
use Rattle.um_refinement.proofs.Words.{◌≡◌, ℕ, None, refl, ap, ◌∙◌, Pending, Thread, wrote, Next, gone, went, Steps, State, thread_at, Ignores, all_other, effects_of, key-same, keys-wrote, next_of, own_part}
use Rattle.um_machine.specs.Table as T
use Rattle.um_machine.specs.Writes.{cut}
use Rattle.um_refinement.proofs.ThreadLists.{set-else}

-- what a thread does
abbrev pub doing : Thread → Thread
doing me = record (own_part me) { checked = me.checked; life = me.life }

-- a step doesn't start this thread, nor cut it
abbrev pub starts_other : ℕ → Pending → Type 0
starts_other u (Pending.Start who script stack priority mode) = (who.0 ≡ u) → ⊥
starts_other u (Pending.Cut who) = (who.0 ≡ u) → ⊥
starts_other u p = Unit {0}

ignores : Ignores doing all_other
ignores = record { due = λ h me due. refl; told = λ h me told. refl; domain = λ h me domain. refl; doomed = λ h me. refl; flagged = λ h me aborted suspended. refl }

-- how one thread goes on leaves another
went-else : (left : Steps) (s : State) (t u : ℕ) (next : Next) → (t ≡ u → ⊥) → thread_at (went left s t next) u ≡ thread_at s u
went-else left s t u Next.stays other = refl
went-else left s t u (Next.begins None) other = refl
went-else left s t u (Next.resumes None) other = refl
went-else left s t u next other = set-else s.threads t u (gone left s t next (thread_at s t)) other

module _ (m : State) (t u : ℕ) where
  writes-leave : (x : ℕ) (q : Pending) → starts_other u q → doing (thread_at (wrote (effects_of m t x q) m) u) ≡ doing (thread_at m u)
  writes-leave x (Pending.Start who script stack priority mode) h =
      ap doing (set-else m.threads who.0 u (T.newborn m (thread_at m t) who.0 script (Pending.Start who script stack priority mode)) h)
  writes-leave x (Pending.Cut who) h = ap doing (set-else m.threads who.0 u (cut (thread_at m who.0)) h)
  writes-leave x q h = let ws = effects_of m t x q in key-same doing m (wrote ws m) (keys-wrote doing all_other ignores ws m refl) u

  pub others : (t ≡ u → ⊥) → (x : ℕ) (p : Pending) (rest : Steps) → starts_other u p → doing (thread_at (T.after m t x p rest) u) ≡ doing (thread_at m u)
  others other x p rest h =
      ap doing (went-else rest (wrote (effects_of m t x p) m) t u (next_of m t x p) other) ∙ writes-leave x p h

  -- the steps by which no thread goes on
  abbrev pub NoTurn : Pending → Type 0
  NoTurn (Pending.TimeOut who) = Unit {0}
  NoTurn Pending.Expire = Unit {0}
  NoTurn Pending.Tick = Unit {0}
  NoTurn Pending.Left = Unit {0}
  NoTurn (Pending.Cut who) = Unit {0}
  NoTurn q = ⊥

  pub all-others : (x : ℕ) (q : Pending) (rest : Steps) → NoTurn q → starts_other u q → doing (thread_at (T.after m t x q rest) u) ≡ doing (thread_at m u)
  all-others x (Pending.TimeOut who) rest is h = writes-leave x (Pending.TimeOut who) h
  all-others x Pending.Expire rest is h = writes-leave x Pending.Expire h
  all-others x Pending.Tick rest is h = writes-leave x Pending.Tick h
  all-others x Pending.Left rest is h = writes-leave x Pending.Left h
  all-others x (Pending.Cut who) rest is h = writes-leave x (Pending.Cut who) h
  all-others x q rest is h = absurd is
