-- When two states agree in all that a dump reads of them.
use Rattle.std.specs.Prelude.{◌≡◌, ℕ, ◌<◌, Bool, ◌||◌, not, nat_lt, IsTrue, List, length, map}
use Rattle.um_base.specs.declared.ask.Waiter.{Waiter}
use Rattle.um_base.specs.declared.image.Image.{Image}
use Rattle.um_base.specs.declared.limits.TheConstants.{ROWS}
use Rattle.um_machine.specs.declared.object.Object.{Object}
use Rattle.um_machine.specs.declared.object.Status.{Status}
use Rattle.um_machine.specs.declared.thread.Thread.{Thread}
use Rattle.um_machine.specs.Objects.{is_free}
use Rattle.um_machine.specs.State.{State, is_started, object_at, pair_at, thread_at}
use Rattle.um_machine.specs.Table.{domain_at}

-- A dump reads how a thread is, and where it was started also its mode, priority and domain.
pub record ThreadsAgree (a b : Thread) : Type 0 where
  pub life : a.life ≡ b.life
  pub doomed : a.doomed ≡ b.doomed
  pub mode : IsTrue (is_started a.life) → a.mode ≡ b.mode
  pub priority : IsTrue (is_started a.life) → a.priority ≡ b.priority
  pub domain : IsTrue (is_started a.life) → a.domain ≡ b.domain

-- whether a dump shows a row: that of a static object, or of any that isn't free
abbrev pub has_line : Image → ℕ → Status → Bool
has_line image x status = nat_lt x (length image.objects) || not (is_free status)

-- It reads the status of a row, and where it shows the row also its object's kind, marks and contents.
pub record ObjectsAgree (image : Image) (x : ℕ) (a b : Object) : Type 0 where
  pub status : a.status ≡ b.status
  pub kind : IsTrue (has_line image x a.status) → a.kind ≡ b.kind
  pub init : IsTrue (has_line image x a.status) → a.init ≡ b.init
  pub public : IsTrue (has_line image x a.status) → a.public ≡ b.public
  pub contents : IsTrue (has_line image x a.status) → a.contents ≡ b.contents

-- who waits, by row
abbrev pub waiters_in : State → List (List Waiter)
waiters_in s = map (λ (o : Object). o.waiters) s.objects

-- Two states of which a dump reads the same: threads, objects, pairs, who waits on an object, for an end and on a futex, domains, pools and memory.
pub record AgreeInDump (image : Image) (s s2 : State) : Type 0 where
  pub threads : (t : ℕ) → ThreadsAgree (thread_at s t) (thread_at s2 t)
  pub objects : (x : ℕ) → x < ROWS → ObjectsAgree image x (object_at s x) (object_at s2 x)
  pub pairs : (t x : ℕ) → x < ROWS → pair_at s t x ≡ pair_at s2 t x
  pub waiters : waiters_in s ≡ waiters_in s2
  pub joins : s.joins ≡ s2.joins
  pub futexes : s.futexes ≡ s2.futexes
  pub domains : (d : ℕ) → d < length image.domains → domain_at s d ≡ domain_at s2 d
  pub pools : s.pools ≡ s2.pools
  pub memory : s.memory ≡ s2.memory
  pub stacks : s.stacks ≡ s2.stacks
