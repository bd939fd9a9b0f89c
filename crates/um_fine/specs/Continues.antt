-- How a thread goes on after a step: its own part of what the one table of steps says.
use Rattle.std.specs.Prelude.{ℕ, true, if◌then◌else◌, List, [], ◌∷◌, ◌++◌, Option, Some, None, slice_set}
use Rattle.um_base.specs.declared.names.Errno.{Errno}
use Rattle.um_base.specs.declared.names.Mode.{Mode}
use Rattle.um_base.specs.declared.names.Reply.{Reply}
use Rattle.um_base.specs.declared.act.Act.{Act}
use Rattle.um_base.specs.declared.ask.Told.{Told}
use Rattle.um_base.specs.declared.image.Image.{Image}
use Rattle.um_base.specs.declared.instr.Instr.{Instr}
use Rattle.um_machine.specs.declared.pending.Pending.{Pending}
use Rattle.um_machine.specs.State.{next_place, first_place}
use Rattle.um_machine.specs.Order.{Steps, steps_of, end_steps, fatal_steps}
use Rattle.um_machine.specs.Services.{is_empty}
use Rattle.um_machine.specs.Goes.{Change, Next, next_doom, steps_by, told_way, with_answer, with_begin}
use Rattle.um_machine.specs.Table as T
use Rattle.um_fine.specs.Context.{Context, as_thread, no_context}
use Rattle.um_fine.specs.Steps.{Exchange}
use Rattle.um_fine.specs.Answers.{bytes_in, outcome_in}

-- with what its call has worked out
abbrev pub changed_part : Change → Context → Context
changed_part Change.nothing c = c
changed_part (Change.register to value) c = record c { registers = slice_set c.registers to value }
changed_part (Change.copies bs) c = record c { buffer = bs }
changed_part (Change.says reply) c = record c { reply = reply }
changed_part (Change.outcome reply taken) c = record c { reply = reply; buffer = taken }
changed_part (Change.until deadline) c = record c { until = deadline }

-- with one more row that its call holds, where the check is ok
abbrev pub held_part : ℕ → Option Errno → Context → Context
held_part x None c = record c { claims = c.claims ++ x ∷ [] }
held_part x (Some e) c = c

-- the bytes that came with a step
abbrev pub came_in : Pending → Exchange → List ℕ
came_in (Pending.Work a ask) moved = (outcome_in moved).taken
came_in step moved = bytes_in moved

module _ (image : Image) where
  -- it goes on with these steps; where none is left it is at rest at its next place
  abbrev pub goes_on : Context → Steps → Context
  goes_on c rest = record c { pending = rest; place = if is_empty rest then next_place image c.place else c.place }

  abbrev pub begun : Context → Option Instr → Context
  begun c None = c
  begun c (Some instr) = goes_on (record c { registers = with_begin c.registers instr }) (steps_of image c.thread (as_thread c) instr)

  -- it ends, or dooms all
  abbrev pub ends_with : Context → Steps → Context
  ends_with c steps = record c { ended = true; claims = []; until = None; noted = None; pending = steps }

  -- The own part of a thread that goes on so, with these steps behind the one that it made. A thread's child, its pairs that are due and the
  -- mark of its own object are no own part.
  abbrev pub gone_part : Steps → Next → Context → Context
  gone_part left Next.stays c = c
  gone_part left (Next.on change way) c = goes_on (changed_part change c) (steps_by left way)
  gone_part left (Next.checks x verdict way) c = goes_on (held_part x verdict c) (steps_by left way)
  gone_part left (Next.answers to reply) c = goes_on (record c { claims = []; until = None; noted = None; registers = with_answer c.registers to reply }) left
  gone_part left (Next.owns keeps) c = goes_on c left
  gone_part left (Next.begins instr) c = begun c instr
  gone_part left (Next.resumes None) c = c
  gone_part left (Next.resumes (Some told)) c = goes_on (record c { reply = told.reply; buffer = told.taken }) (steps_by left (told_way told.reply))
  gone_part left (Next.creates who) c = goes_on c left
  gone_part left Next.starts c = goes_on c left
  gone_part left (Next.inherits who) c = record c { pending = Pending.Inherit who ∷ left }
  gone_part left (Next.drops from) c = record c { pending = Pending.Drops from ∷ left }
  gone_part left (Next.dooms from) c = record c { pending = next_doom from }
  gone_part left (Next.enters script) c = record c { mode = Mode.User; place = first_place image script; pending = [] }
  gone_part left Next.exits c = ends_with c (end_steps image c.thread (as_thread c))
  gone_part left (Next.fatal reason) c = ends_with c (fatal_steps image c.thread (as_thread c) reason image.policy)

  -- after a step, by the row that it chose, what it said and what came with it
  abbrev pub continues : Context → ℕ → Pending → Steps → Act → Exchange → Context
  continues c x step rest act moved = gone_part rest (T.continues image c.thread (as_thread c) x step act (came_in step moved)) c

  -- after it was woken
  abbrev pub resumed_at : Context → Told → Steps → Context
  resumed_at c told (Pending.Resume ∷ rest) = gone_part rest (Next.resumes (Some told)) c
  resumed_at c told steps = c

  abbrev pub resumed : Context → Told → Context
  resumed c told = resumed_at c told c.pending

  -- the reply that a step names, or the one that its call has worked out
  abbrev pub reply_of : Context → Option Reply → Reply
  reply_of c None = c.reply
  reply_of c (Some reply) = reply

  -- a new thread, with its creator's pool
  abbrev pub newborn : Context → Pending → Context
  newborn c (Pending.Start who script stack priority mode) =
      record no_context {
        thread = who.0;
        mode = mode;
        stack = stack;
        priority = priority;
        pool = c.pool;
        place = first_place image script;
      }
  newborn c p = no_context
