-- A thread that asks no object, and may begin to wait.
use Rattle.std.specs.Prelude.{[], unwrap_or}
use Rattle.um_base.specs.declared.ask.Ask.{Ask}
use Rattle.um_base.specs.declared.ask.Waiter.{Waiter}
use Rattle.um_machine.specs.Order.{to_thread}
use Rattle.um_fine.specs.Answers.{no_outcome}
use Rattle.um_fine.specs.Context.{Context}
use Rattle.um_fine.specs.Steps.{Exchange}
use Rattle.um_tables.specs.declared.seeker.Seeker.{Seeker}

-- as one who waits for this
abbrev pub seeks : Seeker → Ask → Waiter
seeks s ask = record { thread = s.thread; priority = s.priority; ask = ask; bytes = []; until = s.until }

-- what goes with what it asks
abbrev pub seeking : Seeker → Ask → Exchange
seeking s ask = Exchange.asked (seeks s ask) s.noted no_outcome

-- the thread with this own part
abbrev pub seeker_of : Context → Seeker
seeker_of c = record { thread = to_thread c.thread; priority = c.priority; until = c.until; noted = unwrap_or c.noted 0 }
