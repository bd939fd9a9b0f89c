-- What the machine keeps of each thread beside its own part, whether it lives, what its call holds, and what it is told, stays as it is at most
-- steps; a check, a reply, an end, a start, a resumed call, a cut, and what wakes are the others.
use Rattle.um_refinement.proofs.Words.{◌≡◌, ℕ, Bool, true, false, List, map, Option, Some, None, refl, sym, true≢false, Told, Pending, Life, Thread, Next, gone, Steps, State, thread_at, Ignores, key-same, next_of, Other, keys-after, changed-same}
use Rattle.um_machine.specs.Table as T

-- what there is of a thread beside its own part
pub record Beside : Type 0 where
  pub life : Life
  pub checked : List Bool
  pub told : Option Told

abbrev pub beside_of : Thread → Beside
beside_of me = record { life = me.life; checked = me.checked; told = me.told }

-- the steps that change nothing of that
abbrev pub KeepsBeside : Pending → Type 0
KeepsBeside Pending.Exit = ⊥
KeepsBeside (Pending.Check a kind want refusal) = ⊥
KeepsBeside (Pending.Work a ask) = ⊥
KeepsBeside Pending.Resume = ⊥
KeepsBeside (Pending.Answer reply to) = ⊥
KeepsBeside (Pending.Start who script stack priority mode) = ⊥
KeepsBeside (Pending.Fatal reason cause) = ⊥
KeepsBeside Pending.Killed = ⊥
KeepsBeside Pending.Left = ⊥
KeepsBeside (Pending.FutexWake a all) = ⊥
KeepsBeside (Pending.TimeOut who) = ⊥
KeepsBeside Pending.Expire = ⊥
KeepsBeside (Pending.Cut who) = ⊥
KeepsBeside q = Unit {0}

-- what one is told is of it
abbrev others : Other
others = record { due = true; told = false; domain = true; doomed = true; flagged = true }

ignores : Ignores beside_of others
ignores = record { due = λ h me due. refl; told = λ h. absurd (true≢false (sym h)); domain = λ h me domain. refl; doomed = λ h me. refl; flagged = λ h me aborted suspended. refl }

-- a thread that goes on so keeps it
abbrev KeepsSo : Next → Type 0
KeepsSo (Next.checks x v way) = ⊥
KeepsSo (Next.answers to reply) = ⊥
KeepsSo (Next.resumes told) = ⊥
KeepsSo Next.exits = ⊥
KeepsSo (Next.fatal reason) = ⊥
KeepsSo next = Unit {0}

gone-beside : (left : Steps) (u : State) (t : ℕ) (next : Next) (me : Thread) → KeepsSo next → beside_of (gone left u t next me) ≡ beside_of me
gone-beside left u t (Next.on change way) me h = changed-same beside_of (λ me registers reply buffer until. refl) change me
gone-beside left u t (Next.begins None) me h = refl
gone-beside left u t (Next.begins (Some instr)) me h = refl
gone-beside left u t (Next.checks x v way) me h = absurd h
gone-beside left u t (Next.answers to reply) me h = absurd h
gone-beside left u t (Next.resumes told) me h = absurd h
gone-beside left u t Next.exits me h = absurd h
gone-beside left u t (Next.fatal reason) me h = absurd h
gone-beside left u t next me h = refl

module _ (m : State) (t : ℕ) where
  abbrev pub Alike : State → Type 0
  Alike s = map beside_of s.threads ≡ map beside_of m.threads

  pub beside-same : (s : State) → Alike s → (u : ℕ) → beside_of (thread_at s u) ≡ beside_of (thread_at m u)
  beside-same s e u = key-same beside_of m s e u

  pub beside-kept : (x : ℕ) (q : Pending) (rest : Steps) → KeepsBeside q → Alike (T.after m t x q rest)
  beside-kept x Pending.Exit rest h = absurd h
  beside-kept x (Pending.Check a kind want refusal) rest h = absurd h
  beside-kept x (Pending.Work a ask) rest h = absurd h
  beside-kept x Pending.Resume rest h = absurd h
  beside-kept x (Pending.Answer reply to) rest h = absurd h
  beside-kept x (Pending.Start who script stack priority mode) rest h = absurd h
  beside-kept x (Pending.Fatal reason cause) rest h = absurd h
  beside-kept x Pending.Killed rest h = absurd h
  beside-kept x Pending.Left rest h = absurd h
  beside-kept x (Pending.FutexWake a all) rest h = absurd h
  beside-kept x (Pending.TimeOut who) rest h = absurd h
  beside-kept x Pending.Expire rest h = absurd h
  beside-kept x (Pending.Cut who) rest h = absurd h
  beside-kept x q rest h = keys-after beside_of others ignores m t x q rest refl (λ u th. gone-beside rest u t (next_of m t x q) th tt)
