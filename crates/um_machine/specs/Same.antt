-- What two threads have in common.
use Rattle.std.specs.Prelude.{◌≡◌}
use Rattle.um_machine.specs.declared.thread.Thread.{Thread}

-- They stand alike.
pub record HaveSameStanding (a b : Thread) : Type 0 where
  pub life : a.life ≡ b.life
  pub doomed : a.doomed ≡ b.doomed
  pub aborted : a.aborted ≡ b.aborted
  pub suspended : a.suspended ≡ b.suspended
  pub mode : a.mode ≡ b.mode
  pub domain : a.domain ≡ b.domain
  pub stack : a.stack ≡ b.stack
  pub priority : a.priority ≡ b.priority
  pub pool : a.pool ≡ b.pool
  pub keeps_own : a.keeps_own ≡ b.keeps_own

-- They have come equally far in their calls, but for the steps that are left.
pub record HaveSameCall (a b : Thread) : Type 0 where
  pub registers : a.registers ≡ b.registers
  pub place : a.place ≡ b.place
  pub reply : a.reply ≡ b.reply
  pub buffer : a.buffer ≡ b.buffer
  pub until : a.until ≡ b.until
  pub told : a.told ≡ b.told
  pub checked : a.checked ≡ b.checked
  pub due : a.due ≡ b.due
  pub child : a.child ≡ b.child
