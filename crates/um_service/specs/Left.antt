-- An outcome, with the contents and the waiters that it leaves.
use Rattle.std.specs.Prelude.{List}
use Rattle.um_base.specs.declared.ask.Waiter.{Waiter}
use Rattle.um_machine.specs.declared.contents.Contents.{Contents}
use Rattle.um_machine.specs.Services.{Acted}
use Rattle.um_service.specs.declared.outcome.Outcome.{Outcome}

abbrev pub left : Contents → List Waiter → Outcome → Acted
left contents waiters outcome =
    record { contents = contents; waiters = waiters; answer = outcome.answer; taken = outcome.taken; woken = outcome.woken }
