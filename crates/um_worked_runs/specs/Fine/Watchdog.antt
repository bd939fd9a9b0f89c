-- A watchdog starts its timer again and again, until a worker fails to feed it.
use Rattle.std.specs.Prelude.{◌≡◌, ℕ, true, false, List, [], ◌∷◌, Some, None, pos, codes, refl}
use Rattle.um_base.specs.declared.names.Errno.TheVariants as Errno
use Rattle.um_base.specs.declared.names.Kind.TheVariants as Kind
use Rattle.um_base.specs.declared.names.Mode.TheVariants as Mode
use Rattle.um_base.specs.declared.names.Mpu.TheVariants as Mpu
use Rattle.um_base.specs.declared.names.Policy.TheVariants as Policy
use Rattle.um_base.specs.declared.names.Reply.TheVariants as Reply
use Rattle.um_base.specs.declared.names.Term.TheVariants as Term
use Rattle.um_base.specs.declared.names.Timeout.TheVariants as Timeout
use Rattle.um_base.specs.declared.names.Want.TheVariants as Want
use Rattle.um_base.specs.declared.act.Act.TheVariants as Act
use Rattle.um_base.specs.declared.act.Answer.TheVariants as Answer
use Rattle.um_base.specs.declared.act.Leftover.TheVariants as Leftover
use Rattle.um_base.specs.declared.image.Setup.TheVariants as Setup
use Rattle.um_base.specs.declared.instr.Instr.TheVariants as Instr
use Rattle.um_base.specs.declared.act.Event.{Event}
use Rattle.um_base.specs.declared.image.Image.{Image}
use Rattle.um_base.specs.declared.image.Script.{Script}
use Rattle.um_worked_runs.specs.Fine.Left.{without_priorities}
use Rattle.um_worked_runs.specs.Fine.Brief.{Brief}
use Rattle.um_worked_runs.specs.Fine.Whole.{whole_fine_run}
use Rattle.um_worked_runs.specs.Fine.Related.{related_steps}
use Rattle.um_machine.specs.Run.{blank}
use Rattle.um_worked_runs.specs.Evaluate.{Choice, skips, begins, exits, ticks, times_out, expires, goes}
use Rattle.um_worked_runs.specs.Dump.{Dump, started, ended, initialised, uninitialised, nothing, filled, timer}
use Rattle.um_worked_runs.specs.Words.{at, thread, row, range, rights, by, on, choose}
use Rattle.um_worked_runs.specs.Whole.{whole_run}

abbrev pub script_0 : Script
script_0 =
    record {
      name = codes "cwork";
      lines = Instr.TimerStart (Term.Num 0x40000100) (Term.Num 10)
          ∷ Instr.Repeat 3
          ∷ Instr.SemTake (Term.Num 0x40000140) (Timeout.Ticks 4)
          ∷ Instr.TimerStart (Term.Num 0x40000100) (Term.Num 10)
          ∷ Instr.End ∷ [];
    }

abbrev pub script_1 : Script
script_1 =
    record {
      name = codes "cguard";
      lines = Instr.TimerSync (Term.Num 0x40000100) 0
          ∷ Instr.TimerSync (Term.Num 0x40000100) 0
          ∷ Instr.Store (Term.Num 0x20000000) 4 (Term.Reg 0) ∷ [];
    }

abbrev pub image : Image
image =
    record {
      mpu = Mpu.V7;
      regions = 8;
      policy = Policy.Abort;
      rodata = None;
      rodata_bytes = [];
      pools = [];
      partitions = record { name = codes "p"; range = range 0x20000000 32; attr = rights 27; bytes = [] } ∷ [];
      domains = record { name = codes "d"; parts = Some (0 ∷ []) } ∷ [];
      objects = record { name = codes "work"; kind = Kind.Thread; addr = at 0x40000000; public = true; setup = Setup.Thread (thread 0) }
          ∷ record { name = codes "swork"; kind = Kind.ThreadStack; addr = at 0x20080000; public = false; setup = Setup.ThreadStack (range 0x20080000 64) 64 }
          ∷ record { name = codes "guard"; kind = Kind.Thread; addr = at 0x40000080; public = true; setup = Setup.Thread (thread 1) }
          ∷ record { name = codes "sguard"; kind = Kind.ThreadStack; addr = at 0x20080040; public = false; setup = Setup.ThreadStack (range 0x20080040 64) 64 }
          ∷ record { name = codes "dog"; kind = Kind.Timer; addr = at 0x40000100; public = true; setup = Setup.Timer }
          ∷ record { name = codes "none"; kind = Kind.Sem; addr = at 0x40000140; public = true; setup = Setup.Sem 0 1 } ∷ [];
      boots = record { thread = row 0; stack = row 1; script = 0; mode = Mode.User; priority = pos 0; domain = 0; pool = None; grants = [] }
          ∷ record { thread = row 2; stack = row 3; script = 1; mode = Mode.User; priority = pos 0; domain = 0; pool = None; grants = [] } ∷ [];
      scripts = script_0
          ∷ script_1 ∷ [];
      futexes = [];
    }

-- which thread makes each step, and which one
abbrev pub choices : List Choice
choices =
    choose 0 0 begins ∷ choose 1 0 begins ∷ on 0 ∷ on 1 ∷ on 0 ∷ on 1 ∷ on 0 ∷ on 1 ∷ on 0
    ∷ choose 1 0 begins ∷ on 1 ∷ choose 0 0 begins ∷ on 0 ∷ on 1 ∷ on 0 ∷ on 0 ∷ choose 1 0 ticks
    ∷ choose 1 0 ticks ∷ choose 0 5 (times_out 0) ∷ choose 1 4 expires ∷ on 0 ∷ on 0 ∷ on 1 ∷ on 1
    ∷ choose 0 0 begins ∷ on 0 ∷ choose 1 0 begins ∷ on 0 ∷ on 0 ∷ on 1 ∷ on 0 ∷ choose 0 0 begins
    ∷ choose 1 0 exits ∷ on 0 ∷ choose 1 2 goes ∷ on 0 ∷ on 0 ∷ choose 1 0 skips ∷ on 1 ∷ choose 1 0 ticks
    ∷ choose 1 0 ticks ∷ choose 0 5 (times_out 0) ∷ choose 1 4 expires ∷ on 0 ∷ on 0 ∷ choose 0 0 begins
    ∷ on 0 ∷ on 0 ∷ on 0 ∷ on 0 ∷ choose 0 0 begins ∷ on 0 ∷ on 0 ∷ on 0 ∷ choose 0 0 ticks ∷ choose 0 0 ticks
    ∷ choose 1 5 (times_out 0) ∷ choose 0 4 expires ∷ on 0 ∷ on 0 ∷ choose 0 0 begins ∷ on 0 ∷ on 0 ∷ on 0
    ∷ on 0 ∷ choose 0 0 exits ∷ on 0 ∷ choose 0 0 skips ∷ on 0 ∷ choose 0 0 ticks ∷ choose 0 4 expires ∷ []

-- what the trace shows
abbrev pub events : List Event
events =
    by 0 (Act.Begin 0 1)
    ∷ by 1 (Act.Begin 1 1)
    ∷ by 0 (Act.Check (at 0x40000100) (Some Kind.Timer) Want.Init None)
    ∷ by 1 (Act.Check (at 0x40000100) (Some Kind.Timer) Want.Init None)
    ∷ by 0 (Act.Arm 10)
    ∷ by 1 (Act.Work (at 0x40000100) (Answer.Now (Reply.Num 0)) [])
    ∷ by 0 (Act.Work (at 0x40000100) (Answer.Now Reply.Void) [])
    ∷ by 1 (Act.Answered (Reply.Num 0))
    ∷ by 0 (Act.Answered Reply.Void)
    ∷ by 1 (Act.Begin 1 2)
    ∷ by 1 (Act.Check (at 0x40000100) (Some Kind.Timer) Want.Init None)
    ∷ by 0 (Act.Begin 0 3)
    ∷ by 0 (Act.Check (at 0x40000140) (Some Kind.Sem) Want.Init None)
    ∷ by 1 (Act.Work (at 0x40000100) Answer.Wait [])
    ∷ by 0 (Act.Arm 4)
    ∷ by 0 (Act.Work (at 0x40000140) Answer.Wait [])
    ∷ by 1 (Act.Tick 4)
    ∷ by 1 (Act.Tick 10)
    ∷ by 0 (Act.TimedOut (thread 0))
    ∷ by 1 (Act.Expire (at 0x40000100) ((thread 1, Reply.Num 1) ∷ []))
    ∷ by 0 Act.Resume
    ∷ by 0 (Act.Answered (Reply.Fail Errno.EAGAIN))
    ∷ by 1 Act.Resume
    ∷ by 1 (Act.Answered (Reply.Num 1))
    ∷ by 0 (Act.Begin 0 4)
    ∷ by 0 (Act.Check (at 0x40000100) (Some Kind.Timer) Want.Init None)
    ∷ by 1 (Act.Begin 1 3)
    ∷ by 0 (Act.Arm 20)
    ∷ by 0 (Act.Work (at 0x40000100) (Answer.Now Reply.Void) [])
    ∷ by 1 (Act.Store (at 0x20000000) 4 0x1)
    ∷ by 0 (Act.Answered Reply.Void)
    ∷ by 0 (Act.Begin 0 3)
    ∷ by 1 Act.Exit
    ∷ by 0 (Act.Check (at 0x40000140) (Some Kind.Sem) Want.Init None)
    ∷ by 1 (Act.DropPair (thread 1) (at 0x40000080) Leftover.Kept)
    ∷ by 0 (Act.Arm 14)
    ∷ by 0 (Act.Work (at 0x40000140) Answer.Wait [])
    ∷ by 1 (Act.ClearInit (at 0x20080040))
    ∷ by 1 (Act.ClearInit (at 0x40000080))
    ∷ by 1 (Act.Tick 14)
    ∷ by 1 (Act.Tick 20)
    ∷ by 0 (Act.TimedOut (thread 0))
    ∷ by 1 (Act.Expire (at 0x40000100) [])
    ∷ by 0 Act.Resume
    ∷ by 0 (Act.Answered (Reply.Fail Errno.EAGAIN))
    ∷ by 0 (Act.Begin 0 4)
    ∷ by 0 (Act.Check (at 0x40000100) (Some Kind.Timer) Want.Init None)
    ∷ by 0 (Act.Arm 30)
    ∷ by 0 (Act.Work (at 0x40000100) (Answer.Now Reply.Void) [])
    ∷ by 0 (Act.Answered Reply.Void)
    ∷ by 0 (Act.Begin 0 3)
    ∷ by 0 (Act.Check (at 0x40000140) (Some Kind.Sem) Want.Init None)
    ∷ by 0 (Act.Arm 24)
    ∷ by 0 (Act.Work (at 0x40000140) Answer.Wait [])
    ∷ by 0 (Act.Tick 24)
    ∷ by 0 (Act.Tick 30)
    ∷ by 1 (Act.TimedOut (thread 0))
    ∷ by 0 (Act.Expire (at 0x40000100) [])
    ∷ by 0 Act.Resume
    ∷ by 0 (Act.Answered (Reply.Fail Errno.EAGAIN))
    ∷ by 0 (Act.Begin 0 4)
    ∷ by 0 (Act.Check (at 0x40000100) (Some Kind.Timer) Want.Init None)
    ∷ by 0 (Act.Arm 40)
    ∷ by 0 (Act.Work (at 0x40000100) (Answer.Now Reply.Void) [])
    ∷ by 0 (Act.Answered Reply.Void)
    ∷ by 0 Act.Exit
    ∷ by 0 (Act.DropPair (thread 0) (at 0x40000000) Leftover.Kept)
    ∷ by 0 (Act.ClearInit (at 0x20080000))
    ∷ by 0 (Act.ClearInit (at 0x40000000))
    ∷ by 0 (Act.Tick 40)
    ∷ by 0 (Act.Expire (at 0x40000100) []) ∷ []

abbrev pub dump : Dump
dump =
    record {
      threads = started 0 ended Mode.User (pos 0) 0
          ∷ started 1 ended Mode.User (pos 0) 0 ∷ [];
      objects = record { row = 0; kind = Some Kind.Thread; stage = uninitialised; public = true; holders = []; content = nothing }
          ∷ record { row = 1; kind = Some Kind.ThreadStack; stage = uninitialised; public = false; holders = []; content = nothing }
          ∷ record { row = 2; kind = Some Kind.Thread; stage = uninitialised; public = true; holders = []; content = nothing }
          ∷ record { row = 3; kind = Some Kind.ThreadStack; stage = uninitialised; public = false; holders = []; content = nothing }
          ∷ record { row = 4; kind = Some Kind.Timer; stage = initialised; public = true; holders = []; content = timer 1 false }
          ∷ record { row = 5; kind = Some Kind.Sem; stage = initialised; public = true; holders = []; content = filled 0 1 } ∷ [];
      domains = Some ((range 0x20000000 32, rights 27) ∷ []) ∷ [];
      pools = [];
      memory = (0x20000000, 1 ∷ 0 ∷ 0 ∷ 0 ∷ 0 ∷ 0 ∷ 0 ∷ 0 ∷ 0 ∷ 0 ∷ 0 ∷ 0 ∷ 0 ∷ 0 ∷ 0 ∷ 0 ∷ 0 ∷ 0 ∷ 0 ∷ 0 ∷ 0 ∷ 0 ∷ 0 ∷ 0 ∷ 0 ∷ 0 ∷ 0 ∷ 0 ∷ 0 ∷ 0 ∷ 0 ∷ 0 ∷ []) ∷ [];
    }

pub runs : whole_run image choices ≡ record { events = events; is_lawful = true; is_complete = true; dump = dump }
unfolding blank
runs = refl

-- which processor makes each step
abbrev pub processors : List ℕ
processors =
    0 ∷ 1 ∷ 0 ∷ 1 ∷ 0 ∷ 1 ∷ 0 ∷ 1 ∷ 0 ∷ 1 ∷ 0 ∷ 1 ∷ 0 ∷ 1 ∷ 0 ∷ 1 ∷ 0 ∷ 1 ∷ 0 ∷ 1 ∷ 0 ∷ 1 ∷ 0 ∷ 1 ∷ 0 ∷ 1
    ∷ 0 ∷ 1 ∷ 0 ∷ 1 ∷ 0 ∷ 0 ∷ 0 ∷ 0 ∷ 0 ∷ 1 ∷ 0 ∷ 1 ∷ 0 ∷ 1 ∷ 0 ∷ 1 ∷ 0 ∷ 1 ∷ 0 ∷ 1 ∷ 0 ∷ 1 ∷ 0 ∷ 1 ∷ 0 ∷ 1
    ∷ 0 ∷ 1 ∷ 0 ∷ 1 ∷ 0 ∷ 1 ∷ 0 ∷ 1 ∷ 0 ∷ 1 ∷ 0 ∷ 1 ∷ 0 ∷ 1 ∷ 0 ∷ 1 ∷ 0 ∷ 1 ∷ 0 ∷ 1 ∷ 0 ∷ 1 ∷ 0 ∷ 1 ∷ 0 ∷ 1
    ∷ 0 ∷ 1 ∷ 0 ∷ 1 ∷ 0 ∷ 1 ∷ 0 ∷ 1 ∷ 0 ∷ 1 ∷ 0 ∷ 1 ∷ 0 ∷ 1 ∷ 1 ∷ 1 ∷ 1 ∷ 1 ∷ 1 ∷ 1 ∷ 1 ∷ 1 ∷ 1 ∷ 1 ∷ 1 ∷ 1
    ∷ 1 ∷ 1 ∷ 1 ∷ 1 ∷ 1 ∷ 1 ∷ 1 ∷ 1 ∷ 1 ∷ 1 ∷ 1 ∷ 1 ∷ 1 ∷ 1 ∷ 1 ∷ 1 ∷ 1 ∷ 1 ∷ 1 ∷ 1 ∷ 1 ∷ 1 ∷ 1 ∷ 1 ∷ 1 ∷ 1
    ∷ 1 ∷ 1 ∷ 1 ∷ 1 ∷ 1 ∷ 1 ∷ 1 ∷ 1 ∷ 1 ∷ 1 ∷ 1 ∷ 1 ∷ 1 ∷ 1 ∷ 1 ∷ 1 ∷ 1 ∷ 1 ∷ 1 ∷ 1 ∷ 1 ∷ 1 ∷ 1 ∷ 1 ∷ 1 ∷ 1
    ∷ 1 ∷ 1 ∷ 1 ∷ 1 ∷ 1 ∷ 1 ∷ 1 ∷ 1 ∷ 1 ∷ 1 ∷ 1 ∷ 1 ∷ 1 ∷ 1 ∷ 1 ∷ 1 ∷ 1 ∷ 1 ∷ 1 ∷ 1 ∷ 1 ∷ 1 ∷ 1 ∷ 1 ∷ 1 ∷ 1
    ∷ 1 ∷ 1 ∷ 1 ∷ 1 ∷ 1 ∷ 1 ∷ 1 ∷ 1 ∷ 1 ∷ 1 ∷ 1 ∷ 1 ∷ 1 ∷ 1 ∷ 1 ∷ 1 ∷ 1 ∷ 1 ∷ 1 ∷ 1 ∷ 1 ∷ 1 ∷ 1 ∷ 1 ∷ 1 ∷ 1
    ∷ 1 ∷ 1 ∷ 1 ∷ 1 ∷ 1 ∷ 1 ∷ 1 ∷ 1 ∷ 1 ∷ 1 ∷ 0 ∷ 1 ∷ 0 ∷ 1 ∷ 0 ∷ 1 ∷ 0 ∷ 1 ∷ 0 ∷ 0 ∷ 0 ∷ 0 ∷ 0 ∷ 0 ∷ 0 ∷ 0
    ∷ 0 ∷ 0 ∷ 0 ∷ 0 ∷ 0 ∷ 0 ∷ 0 ∷ 0 ∷ 0 ∷ 0 ∷ 0 ∷ 0 ∷ 0 ∷ 0 ∷ 0 ∷ 0 ∷ 0 ∷ 1 ∷ 0 ∷ 1 ∷ 0 ∷ 1 ∷ 0 ∷ 1 ∷ 0 ∷ 1
    ∷ 1 ∷ 1 ∷ 1 ∷ 1 ∷ 1 ∷ 1 ∷ 1 ∷ 1 ∷ 1 ∷ 1 ∷ 1 ∷ 1 ∷ 1 ∷ 1 ∷ 1 ∷ 1 ∷ 1 ∷ 1 ∷ 1 ∷ 1 ∷ 1 ∷ 1 ∷ 1 ∷ 1 ∷ 1 ∷ 1
    ∷ 1 ∷ 1 ∷ 1 ∷ 1 ∷ 1 ∷ 1 ∷ 1 ∷ 1 ∷ 1 ∷ 1 ∷ 1 ∷ 1 ∷ 1 ∷ 1 ∷ 1 ∷ 1 ∷ 1 ∷ 1 ∷ 1 ∷ 1 ∷ 1 ∷ 1 ∷ 1 ∷ 1 ∷ 1 ∷ 1
    ∷ 1 ∷ 1 ∷ 1 ∷ 1 ∷ 1 ∷ 1 ∷ 1 ∷ 1 ∷ 1 ∷ 1 ∷ 1 ∷ 1 ∷ 1 ∷ 1 ∷ 1 ∷ 1 ∷ 1 ∷ 1 ∷ 1 ∷ 1 ∷ 1 ∷ 1 ∷ 1 ∷ 1 ∷ 1 ∷ 1
    ∷ 1 ∷ 1 ∷ 1 ∷ 1 ∷ 1 ∷ 1 ∷ 1 ∷ 1 ∷ 1 ∷ 1 ∷ 1 ∷ 1 ∷ 1 ∷ 1 ∷ 1 ∷ 1 ∷ 1 ∷ 1 ∷ 1 ∷ 1 ∷ 1 ∷ 1 ∷ 1 ∷ 1 ∷ 1 ∷ 1
    ∷ 1 ∷ 1 ∷ 1 ∷ 1 ∷ 1 ∷ 1 ∷ 1 ∷ 1 ∷ 1 ∷ 1 ∷ 1 ∷ 1 ∷ 1 ∷ 1 ∷ 1 ∷ 1 ∷ 1 ∷ 1 ∷ 1 ∷ 1 ∷ 1 ∷ 1 ∷ 1 ∷ 1 ∷ 1 ∷ 1
    ∷ 1 ∷ 1 ∷ 1 ∷ 1 ∷ 1 ∷ 1 ∷ 1 ∷ 1 ∷ 1 ∷ 1 ∷ 1 ∷ 1 ∷ 1 ∷ 1 ∷ 1 ∷ 1 ∷ 1 ∷ 1 ∷ 0 ∷ 1 ∷ 1 ∷ 1 ∷ []

-- the steps: processor, site, the step's number there, and which unseen step it is
abbrev pub steps : List Brief
steps =
    (0, 306, 1, 15) ∷ (1, 306, 2, 15) ∷ (0, 128, 1, 0) ∷ (1, 129, 1, 0) ∷ (0, 4, 1, 0) ∷ (1, 4, 2, 0)
    ∷ (0, 306, 3, 19) ∷ (1, 129, 2, 24) ∷ (0, 307, 1, 0) ∷ (1, 172, 1, 0) ∷ (0, 172, 2, 0) ∷ (1, 129, 3, 0)
    ∷ (0, 307, 2, 21) ∷ (1, 4, 3, 1) ∷ (0, 128, 2, 0) ∷ (1, 306, 4, 16) ∷ (0, 4, 4, 1) ∷ (1, 306, 5, 15)
    ∷ (0, 306, 6, 16) ∷ (1, 129, 4, 0) ∷ (0, 306, 7, 15) ∷ (1, 4, 5, 0) ∷ (0, 128, 3, 0) ∷ (1, 129, 5, 24)
    ∷ (0, 5, 1, 0) ∷ (1, 172, 3, 0) ∷ (0, 128, 4, 24) ∷ (1, 129, 6, 18) ∷ (0, 306, 8, 19) ∷ (1, 306, 9, 16)
    ∷ (0, 307, 3, 0) ∷ (0, 173, 1, 0) ∷ (0, 307, 4, 21) ∷ (0, 128, 5, 18) ∷ (0, 306, 10, 16) ∷ (1, 307, 5, 0)
    ∷ (0, 307, 6, 22) ∷ (1, 307, 7, 0) ∷ (0, 173, 2, 0) ∷ (1, 307, 8, 22) ∷ (0, 306, 11, 14) ∷ (1, 172, 4, 0)
    ∷ (0, 306, 12, 20) ∷ (1, 306, 13, 14) ∷ (0, 306, 14, 0) ∷ (1, 306, 15, 20) ∷ (0, 128, 6, 0)
    ∷ (1, 306, 16, 0) ∷ (0, 5, 2, 1) ∷ (1, 129, 7, 0) ∷ (0, 306, 17, 16) ∷ (1, 4, 6, 1) ∷ (0, 306, 18, 15)
    ∷ (1, 306, 19, 16) ∷ (0, 128, 7, 0) ∷ (1, 306, 20, 15) ∷ (0, 4, 7, 0) ∷ (1, 129, 8, 0) ∷ (0, 306, 21, 19)
    ∷ (1, 129, 9, 4) ∷ (0, 307, 9, 0) ∷ (1, 160, 1, 6) ∷ (0, 172, 5, 0) ∷ (1, 296, 1, 9) ∷ (0, 307, 10, 21)
    ∷ (1, 304, 1, 0) ∷ (0, 128, 8, 0) ∷ (1, 160, 2, 7) ∷ (0, 4, 8, 1) ∷ (1, 129, 10, 5) ∷ (0, 306, 22, 16)
    ∷ (1, 306, 23, 16) ∷ (0, 306, 24, 15) ∷ (1, 306, 25, 15) ∷ (0, 128, 9, 0) ∷ (1, 129, 11, 0) ∷ (0, 5, 3, 0)
    ∷ (1, 0, 1, 2) ∷ (0, 128, 10, 24) ∷ (1, 1, 1, 2) ∷ (0, 306, 26, 19) ∷ (1, 2, 1, 0) ∷ (0, 307, 11, 0)
    ∷ (1, 3, 1, 2) ∷ (0, 173, 3, 0) ∷ (1, 4, 9, 2) ∷ (0, 307, 12, 21) ∷ (1, 5, 4, 2) ∷ (0, 128, 11, 18)
    ∷ (1, 6, 1, 2) ∷ (0, 306, 27, 16) ∷ (1, 7, 1, 2) ∷ (1, 8, 1, 2) ∷ (1, 9, 1, 2) ∷ (1, 10, 1, 2)
    ∷ (1, 11, 1, 2) ∷ (1, 12, 1, 2) ∷ (1, 13, 1, 2) ∷ (1, 14, 1, 2) ∷ (1, 15, 1, 2) ∷ (1, 16, 1, 2)
    ∷ (1, 17, 1, 2) ∷ (1, 18, 1, 2) ∷ (1, 19, 1, 2) ∷ (1, 20, 1, 2) ∷ (1, 21, 1, 2) ∷ (1, 22, 1, 2)
    ∷ (1, 23, 1, 2) ∷ (1, 24, 1, 2) ∷ (1, 25, 1, 2) ∷ (1, 26, 1, 2) ∷ (1, 27, 1, 2) ∷ (1, 28, 1, 2)
    ∷ (1, 29, 1, 2) ∷ (1, 30, 1, 2) ∷ (1, 31, 1, 2) ∷ (1, 32, 1, 2) ∷ (1, 33, 1, 2) ∷ (1, 34, 1, 2)
    ∷ (1, 35, 1, 2) ∷ (1, 36, 1, 2) ∷ (1, 37, 1, 2) ∷ (1, 38, 1, 2) ∷ (1, 39, 1, 2) ∷ (1, 40, 1, 2)
    ∷ (1, 41, 1, 2) ∷ (1, 42, 1, 2) ∷ (1, 43, 1, 2) ∷ (1, 44, 1, 2) ∷ (1, 45, 1, 2) ∷ (1, 46, 1, 2)
    ∷ (1, 47, 1, 2) ∷ (1, 48, 1, 2) ∷ (1, 49, 1, 2) ∷ (1, 50, 1, 2) ∷ (1, 51, 1, 2) ∷ (1, 52, 1, 2)
    ∷ (1, 53, 1, 2) ∷ (1, 54, 1, 2) ∷ (1, 55, 1, 2) ∷ (1, 56, 1, 2) ∷ (1, 57, 1, 2) ∷ (1, 58, 1, 2)
    ∷ (1, 59, 1, 2) ∷ (1, 60, 1, 2) ∷ (1, 61, 1, 2) ∷ (1, 62, 1, 2) ∷ (1, 63, 1, 2) ∷ (1, 64, 1, 2)
    ∷ (1, 65, 1, 2) ∷ (1, 66, 1, 2) ∷ (1, 67, 1, 2) ∷ (1, 68, 1, 2) ∷ (1, 69, 1, 2) ∷ (1, 70, 1, 2)
    ∷ (1, 71, 1, 2) ∷ (1, 72, 1, 2) ∷ (1, 73, 1, 2) ∷ (1, 74, 1, 2) ∷ (1, 75, 1, 2) ∷ (1, 76, 1, 2)
    ∷ (1, 77, 1, 2) ∷ (1, 78, 1, 2) ∷ (1, 79, 1, 2) ∷ (1, 80, 1, 2) ∷ (1, 81, 1, 2) ∷ (1, 82, 1, 2)
    ∷ (1, 83, 1, 2) ∷ (1, 84, 1, 2) ∷ (1, 85, 1, 2) ∷ (1, 86, 1, 2) ∷ (1, 87, 1, 2) ∷ (1, 88, 1, 2)
    ∷ (1, 89, 1, 2) ∷ (1, 90, 1, 2) ∷ (1, 91, 1, 2) ∷ (1, 92, 1, 2) ∷ (1, 93, 1, 2) ∷ (1, 94, 1, 2)
    ∷ (1, 95, 1, 2) ∷ (1, 96, 1, 2) ∷ (1, 97, 1, 2) ∷ (1, 98, 1, 2) ∷ (1, 99, 1, 2) ∷ (1, 100, 1, 2)
    ∷ (1, 101, 1, 2) ∷ (1, 102, 1, 2) ∷ (1, 103, 1, 2) ∷ (1, 104, 1, 2) ∷ (1, 105, 1, 2) ∷ (1, 106, 1, 2)
    ∷ (1, 107, 1, 2) ∷ (1, 108, 1, 2) ∷ (1, 109, 1, 2) ∷ (1, 110, 1, 2) ∷ (1, 111, 1, 2) ∷ (1, 112, 1, 2)
    ∷ (1, 113, 1, 2) ∷ (1, 114, 1, 2) ∷ (1, 115, 1, 2) ∷ (1, 116, 1, 2) ∷ (1, 117, 1, 2) ∷ (1, 118, 1, 2)
    ∷ (1, 119, 1, 2) ∷ (1, 120, 1, 2) ∷ (1, 121, 1, 2) ∷ (1, 122, 1, 2) ∷ (1, 123, 1, 2) ∷ (1, 124, 1, 2)
    ∷ (1, 125, 1, 2) ∷ (1, 126, 1, 2) ∷ (1, 127, 1, 2) ∷ (1, 3, 2, 0) ∷ (1, 308, 1, 27) ∷ (1, 2, 2, 0)
    ∷ (1, 2, 3, 1) ∷ (1, 306, 28, 17) ∷ (1, 307, 13, 0) ∷ (0, 307, 14, 22) ∷ (1, 307, 15, 0) ∷ (0, 173, 4, 0)
    ∷ (1, 307, 16, 22) ∷ (0, 306, 29, 14) ∷ (1, 172, 6, 0) ∷ (0, 306, 30, 20) ∷ (1, 306, 31, 20)
    ∷ (0, 306, 32, 0) ∷ (0, 128, 12, 0) ∷ (0, 5, 5, 1) ∷ (0, 306, 33, 16) ∷ (0, 306, 34, 15) ∷ (0, 128, 13, 0)
    ∷ (0, 4, 10, 0) ∷ (0, 306, 35, 19) ∷ (0, 307, 17, 0) ∷ (0, 172, 7, 0) ∷ (0, 307, 18, 21) ∷ (0, 128, 14, 0)
    ∷ (0, 4, 11, 1) ∷ (0, 306, 36, 16) ∷ (0, 306, 37, 15) ∷ (0, 128, 15, 0) ∷ (0, 5, 6, 0) ∷ (0, 128, 16, 24)
    ∷ (0, 306, 38, 19) ∷ (0, 307, 19, 0) ∷ (0, 173, 5, 0) ∷ (0, 307, 20, 21) ∷ (0, 128, 17, 18)
    ∷ (0, 306, 39, 16) ∷ (0, 307, 21, 0) ∷ (1, 307, 22, 22) ∷ (0, 307, 23, 0) ∷ (1, 173, 6, 0)
    ∷ (0, 307, 24, 22) ∷ (1, 306, 40, 14) ∷ (0, 172, 8, 0) ∷ (1, 306, 41, 20) ∷ (0, 306, 42, 20)
    ∷ (1, 306, 43, 0) ∷ (1, 128, 18, 0) ∷ (1, 5, 7, 1) ∷ (1, 306, 44, 16) ∷ (1, 306, 45, 15) ∷ (1, 128, 19, 0)
    ∷ (1, 4, 12, 0) ∷ (1, 306, 46, 19) ∷ (1, 307, 25, 0) ∷ (1, 172, 9, 0) ∷ (1, 307, 26, 21) ∷ (1, 128, 20, 0)
    ∷ (1, 4, 13, 1) ∷ (1, 306, 47, 16) ∷ (1, 306, 48, 15) ∷ (1, 128, 21, 0) ∷ (1, 0, 2, 0) ∷ (1, 1, 2, 2)
    ∷ (1, 2, 4, 2) ∷ (1, 3, 3, 2) ∷ (1, 4, 14, 2) ∷ (1, 5, 8, 2) ∷ (1, 6, 2, 2) ∷ (1, 7, 2, 2) ∷ (1, 8, 2, 2)
    ∷ (1, 9, 2, 2) ∷ (1, 10, 2, 2) ∷ (1, 11, 2, 2) ∷ (1, 12, 2, 2) ∷ (1, 13, 2, 2) ∷ (1, 14, 2, 2)
    ∷ (1, 15, 2, 2) ∷ (1, 16, 2, 2) ∷ (1, 17, 2, 2) ∷ (1, 18, 2, 2) ∷ (1, 19, 2, 2) ∷ (1, 20, 2, 2)
    ∷ (1, 21, 2, 2) ∷ (1, 22, 2, 2) ∷ (1, 23, 2, 2) ∷ (1, 24, 2, 2) ∷ (1, 25, 2, 2) ∷ (1, 26, 2, 2)
    ∷ (1, 27, 2, 2) ∷ (1, 28, 2, 2) ∷ (1, 29, 2, 2) ∷ (1, 30, 2, 2) ∷ (1, 31, 2, 2) ∷ (1, 32, 2, 2)
    ∷ (1, 33, 2, 2) ∷ (1, 34, 2, 2) ∷ (1, 35, 2, 2) ∷ (1, 36, 2, 2) ∷ (1, 37, 2, 2) ∷ (1, 38, 2, 2)
    ∷ (1, 39, 2, 2) ∷ (1, 40, 2, 2) ∷ (1, 41, 2, 2) ∷ (1, 42, 2, 2) ∷ (1, 43, 2, 2) ∷ (1, 44, 2, 2)
    ∷ (1, 45, 2, 2) ∷ (1, 46, 2, 2) ∷ (1, 47, 2, 2) ∷ (1, 48, 2, 2) ∷ (1, 49, 2, 2) ∷ (1, 50, 2, 2)
    ∷ (1, 51, 2, 2) ∷ (1, 52, 2, 2) ∷ (1, 53, 2, 2) ∷ (1, 54, 2, 2) ∷ (1, 55, 2, 2) ∷ (1, 56, 2, 2)
    ∷ (1, 57, 2, 2) ∷ (1, 58, 2, 2) ∷ (1, 59, 2, 2) ∷ (1, 60, 2, 2) ∷ (1, 61, 2, 2) ∷ (1, 62, 2, 2)
    ∷ (1, 63, 2, 2) ∷ (1, 64, 2, 2) ∷ (1, 65, 2, 2) ∷ (1, 66, 2, 2) ∷ (1, 67, 2, 2) ∷ (1, 68, 2, 2)
    ∷ (1, 69, 2, 2) ∷ (1, 70, 2, 2) ∷ (1, 71, 2, 2) ∷ (1, 72, 2, 2) ∷ (1, 73, 2, 2) ∷ (1, 74, 2, 2)
    ∷ (1, 75, 2, 2) ∷ (1, 76, 2, 2) ∷ (1, 77, 2, 2) ∷ (1, 78, 2, 2) ∷ (1, 79, 2, 2) ∷ (1, 80, 2, 2)
    ∷ (1, 81, 2, 2) ∷ (1, 82, 2, 2) ∷ (1, 83, 2, 2) ∷ (1, 84, 2, 2) ∷ (1, 85, 2, 2) ∷ (1, 86, 2, 2)
    ∷ (1, 87, 2, 2) ∷ (1, 88, 2, 2) ∷ (1, 89, 2, 2) ∷ (1, 90, 2, 2) ∷ (1, 91, 2, 2) ∷ (1, 92, 2, 2)
    ∷ (1, 93, 2, 2) ∷ (1, 94, 2, 2) ∷ (1, 95, 2, 2) ∷ (1, 96, 2, 2) ∷ (1, 97, 2, 2) ∷ (1, 98, 2, 2)
    ∷ (1, 99, 2, 2) ∷ (1, 100, 2, 2) ∷ (1, 101, 2, 2) ∷ (1, 102, 2, 2) ∷ (1, 103, 2, 2) ∷ (1, 104, 2, 2)
    ∷ (1, 105, 2, 2) ∷ (1, 106, 2, 2) ∷ (1, 107, 2, 2) ∷ (1, 108, 2, 2) ∷ (1, 109, 2, 2) ∷ (1, 110, 2, 2)
    ∷ (1, 111, 2, 2) ∷ (1, 112, 2, 2) ∷ (1, 113, 2, 2) ∷ (1, 114, 2, 2) ∷ (1, 115, 2, 2) ∷ (1, 116, 2, 2)
    ∷ (1, 117, 2, 2) ∷ (1, 118, 2, 2) ∷ (1, 119, 2, 2) ∷ (1, 120, 2, 2) ∷ (1, 121, 2, 2) ∷ (1, 122, 2, 2)
    ∷ (1, 123, 2, 2) ∷ (1, 124, 2, 2) ∷ (1, 125, 2, 2) ∷ (1, 126, 2, 2) ∷ (1, 127, 2, 2) ∷ (1, 1, 3, 0)
    ∷ (1, 308, 2, 27) ∷ (1, 0, 3, 0) ∷ (1, 0, 4, 1) ∷ (1, 306, 49, 17) ∷ (0, 307, 27, 0) ∷ (1, 307, 28, 22)
    ∷ (1, 172, 10, 0) ∷ (1, 306, 50, 20) ∷ []

pub makes : whole_fine_run image 2 processors ≡ record { steps = steps; events = events; is_lawful = true; is_complete = true; dump = without_priorities dump }
unfolding blank
makes = refl

-- before each step and after the last one the relation holds
pub is_related : related_steps image (record { cpus = 2; threads = 0 ∷ 1 ∷ []; rows = 0 ∷ 1 ∷ 2 ∷ 3 ∷ 4 ∷ 5 ∷ []; domains = 0 ∷ [] }) processors choices ≡ 413
unfolding blank
is_related = refl
