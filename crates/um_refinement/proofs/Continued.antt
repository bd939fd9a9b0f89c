-- What an event leaves of the own part of its thread: which thread it is, the objects that its call holds, and whether it has ended.
use Rattle.um_refinement.proofs.Words.{◌≡◌, ℕ, Bool, List, Option, Some, None, refl, ap, Act, Image, Errno, Pending, Steps, Change, Next, verdict_in, Context, as_thread, came_in, changed_part, continues, gone_part, held_part, row_named, Exchange, Told, resumed, resumed_at, ◌∷◌}
use Rattle.um_machine.specs.Table as T

abbrev pub Held : Type 0
Held = ℕ × List ℕ × Bool

abbrev pub held_of : Context → Held
held_of c = (c.thread, c.claims, c.ended)

-- the steps that change nothing of that
abbrev pub KeepsHeld : Pending → Type 0
KeepsHeld Pending.Exit = ⊥
KeepsHeld Pending.Killed = ⊥
KeepsHeld (Pending.Check a kind want refusal) = ⊥
KeepsHeld (Pending.Answer reply to) = ⊥
KeepsHeld (Pending.Fatal reason cause) = ⊥
KeepsHeld q = Unit {0}

-- a check may take a claim
pub claim-held : (x : ℕ) (v : Option Errno) (c : Context) → ((held_part x v c).thread ≡ c.thread) × ((held_part x v c).ended ≡ c.ended)
claim-held x None c = (refl, refl)
claim-held x (Some e) c = (refl, refl)

-- the ways to go on that change nothing of that
abbrev KeepsSo : Next → Type 0
KeepsSo (Next.checks x v way) = ⊥
KeepsSo (Next.answers to reply) = ⊥
KeepsSo Next.exits = ⊥
KeepsSo (Next.fatal reason) = ⊥
KeepsSo next = Unit {0}

changed-held : (change : Change) (c : Context) → held_of (changed_part change c) ≡ held_of c
changed-held Change.nothing c = refl
changed-held change c = refl

module _ (image : Image) where
  gone-held : (left : Steps) (next : Next) (c : Context) → KeepsSo next → held_of (gone_part image left next c) ≡ held_of c
  gone-held left (Next.on change way) c h = changed-held change c
  gone-held left (Next.begins None) c h = refl
  gone-held left (Next.begins (Some instr)) c h = refl
  gone-held left (Next.resumes None) c h = refl
  gone-held left (Next.resumes (Some told)) c h = refl
  gone-held left (Next.checks x v way) c h = absurd h
  gone-held left (Next.answers to reply) c h = absurd h
  gone-held left Next.exits c h = absurd h
  gone-held left (Next.fatal reason) c h = absurd h
  gone-held left next c h = refl

  pub continues-held : (c : Context) (x : ℕ) (q : Pending) (rest : Steps) (act : Act) (moved : Exchange) → KeepsHeld q → held_of (continues image c x q rest act moved) ≡ held_of c
  continues-held c x Pending.Exit rest act moved h = absurd h
  continues-held c x Pending.Killed rest act moved h = absurd h
  continues-held c x (Pending.Check a kind want refusal) rest act moved h = absurd h
  continues-held c x (Pending.Answer reply to) rest act moved h = absurd h
  continues-held c x (Pending.Fatal reason cause) rest act moved h = absurd h
  continues-held c x q rest act moved h =
      gone-held rest (T.continues image c.thread (as_thread c) x q act (came_in q moved)) c tt

  -- it stays the same thread
  pub continues-thread : (c : Context) (x : ℕ) (q : Pending) (rest : Steps) (act : Act) (moved : Exchange) → (continues image c x q rest act moved).thread ≡ c.thread
  continues-thread c x Pending.Exit rest act moved = refl
  continues-thread c x Pending.Killed rest act moved = refl
  continues-thread c x (Pending.Check a kind want refusal) rest act moved = (claim-held (row_named image a) (verdict_in act) c).0
  continues-thread c x (Pending.Answer reply to) rest act moved = refl
  continues-thread c x (Pending.Fatal reason cause) rest act moved = refl
  continues-thread c x q rest act moved = ap (λ (h : Held). h.0) (continues-held c x q rest act moved tt)

  -- nor does it change as it is resumed
  pub resumed-held : (c : Context) (told : Told) → held_of (resumed image c told) ≡ held_of c
  resumed-held c told = by c.pending
    where
      by : (steps : Steps) → held_of (resumed_at image c told steps) ≡ held_of c
      by (Pending.Resume ∷ rest) = refl
      by steps = refl
