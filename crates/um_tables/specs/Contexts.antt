-- The own part of a thread, kept in the fields of a thread of the access-matrix machine. The machine's other fields aren't used.
use Rattle.std.specs.Prelude.{◌≡◌, ℕ, Bool, true, false, List, [], drop, Option, None}
use Rattle.um_machine.specs.declared.thread.Thread.{Thread}
use Rattle.um_machine.specs.Order.{Steps}
use Rattle.um_fine.specs.Context.{Context, as_thread, context_of, no_context}
use Rattle.um_tables.specs.declared.newborn.Newborn.{Newborn}

-- the thread of this index with what the machine's thread has of it, the rows that its call holds, and the number of its note
abbrev pub own_part : ℕ → Bool → Thread → List ℕ → Option ℕ → Context
own_part t ended me claims noted = record (context_of t me) { ended = ended; claims = claims; noted = noted }

-- nothing but the own part is in use
abbrev pub IsOwn : Thread → Type 0
IsOwn me = me ≡ as_thread (own_part 0 false me [] None)

-- it has no step left to make
abbrev pub rests : Thread → Type 0
rests me = me.pending ≡ []

-- the steps after a visit
abbrev pub steps_behind : Bool → Steps → Steps
steps_behind true steps = drop 1 steps
steps_behind false steps = steps

-- what is left of the own part of a thread that went to sleep
abbrev pub over : ℕ → Context
over t = record no_context { thread = t; ended = true }

-- the own part of a new thread
abbrev pub born : Newborn → Context
born n =
    record no_context {
      thread = n.thread.0;
      mode = n.mode;
      stack = n.stack;
      priority = n.priority;
      pool = n.pool;
      place = n.place;
    }
