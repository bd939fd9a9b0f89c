-- Every call that may wait is served at once, and each of its deadlines comes later.
use Rattle.std.specs.Prelude.{◌≡◌, ℕ, true, false, List, [], ◌∷◌, Some, None, pos, codes, refl}
use Rattle.um_base.specs.declared.names.Kind.TheVariants as Kind
use Rattle.um_base.specs.declared.names.Mode.TheVariants as Mode
use Rattle.um_base.specs.declared.names.Mpu.TheVariants as Mpu
use Rattle.um_base.specs.declared.names.Policy.TheVariants as Policy
use Rattle.um_base.specs.declared.names.Reply.TheVariants as Reply
use Rattle.um_base.specs.declared.names.Term.TheVariants as Term
use Rattle.um_base.specs.declared.names.Timeout.TheVariants as Timeout
use Rattle.um_base.specs.declared.names.Want.TheVariants as Want
use Rattle.um_base.specs.declared.act.Act.TheVariants as Act
use Rattle.um_base.specs.declared.act.Answer.TheVariants as Answer
use Rattle.um_base.specs.declared.act.Leftover.TheVariants as Leftover
use Rattle.um_base.specs.declared.image.Setup.TheVariants as Setup
use Rattle.um_base.specs.declared.instr.Instr.TheVariants as Instr
use Rattle.um_base.specs.declared.act.Event.{Event}
use Rattle.um_base.specs.declared.image.Image.{Image}
use Rattle.um_base.specs.declared.image.Script.{Script}
use Rattle.um_worked_runs.specs.Fine.Left.{without_priorities}
use Rattle.um_worked_runs.specs.Fine.Brief.{Brief}
use Rattle.um_worked_runs.specs.Fine.Whole.{whole_fine_run}
use Rattle.um_worked_runs.specs.Fine.Related.{related_steps}
use Rattle.um_machine.specs.Run.{blank}
use Rattle.um_worked_runs.specs.Evaluate.{Choice, skips, begins, exits, ticks}
use Rattle.um_worked_runs.specs.Dump.{Dump, started, ended, initialised, uninitialised, nothing, filled, locked}
use Rattle.um_worked_runs.specs.Words.{at, thread, row, range, by, on, choose}
use Rattle.um_worked_runs.specs.Whole.{whole_run}

abbrev pub script_0 : Script
script_0 =
    record {
      name = codes "ca";
      lines = Instr.SemTake (Term.Num 0x40000080) (Timeout.Ticks 1)
          ∷ Instr.MutexLock (Term.Num 0x400000c0) (Timeout.Ticks 2)
          ∷ Instr.MsgqPut (Term.Num 0x40000100) (Term.Num 0x20080000) (Timeout.Ticks 3)
          ∷ Instr.MsgqGet (Term.Num 0x40000100) (Term.Num 0x20080000) (Timeout.Ticks 4)
          ∷ Instr.StackPush (Term.Num 0x40000140) (Term.Num 5)
          ∷ Instr.StackPop (Term.Num 0x40000140) (Term.Num 0x20080000) (Timeout.Ticks 5)
          ∷ Instr.PipeWrite (Term.Num 0x40000180) (Term.Num 0x20080000) (Term.Num 2) (Timeout.Ticks 6)
          ∷ Instr.PipeRead (Term.Num 0x40000180) (Term.Num 0x20080000) (Term.Num 2) (Timeout.Ticks 7) ∷ [];
    }

abbrev pub image : Image
image =
    record {
      mpu = Mpu.V7;
      regions = 8;
      policy = Policy.Abort;
      rodata = None;
      rodata_bytes = [];
      pools = [];
      partitions = [];
      domains = record { name = codes "d"; parts = Some [] } ∷ [];
      objects = record { name = codes "a"; kind = Kind.Thread; addr = at 0x40000000; public = true; setup = Setup.Thread (thread 0) }
          ∷ record { name = codes "sa"; kind = Kind.ThreadStack; addr = at 0x20080000; public = false; setup = Setup.ThreadStack (range 0x20080000 64) 64 }
          ∷ record { name = codes "s"; kind = Kind.Sem; addr = at 0x40000080; public = true; setup = Setup.Sem 1 1 }
          ∷ record { name = codes "m"; kind = Kind.Mutex; addr = at 0x400000c0; public = true; setup = Setup.Mutex }
          ∷ record { name = codes "q"; kind = Kind.Msgq; addr = at 0x40000100; public = true; setup = Setup.Msgq 4 1 }
          ∷ record { name = codes "z"; kind = Kind.Stack; addr = at 0x40000140; public = true; setup = Setup.Stack 1 }
          ∷ record { name = codes "w"; kind = Kind.Pipe; addr = at 0x40000180; public = true; setup = Setup.Pipe 2 } ∷ [];
      boots = record { thread = row 0; stack = row 1; script = 0; mode = Mode.User; priority = pos 0; domain = 0; pool = None; grants = [] } ∷ [];
      scripts = script_0 ∷ [];
      futexes = [];
    }

-- which thread makes each step, and which one
abbrev pub choices : List Choice
choices =
    choose 0 0 begins ∷ on 0 ∷ on 0 ∷ on 0 ∷ on 0 ∷ choose 0 0 begins ∷ on 0 ∷ on 0 ∷ on 0 ∷ on 0
    ∷ choose 0 0 begins ∷ on 0 ∷ on 0 ∷ on 0 ∷ on 0 ∷ on 0 ∷ choose 0 0 begins ∷ on 0 ∷ on 0 ∷ on 0 ∷ on 0
    ∷ on 0 ∷ on 0 ∷ choose 0 0 begins ∷ on 0 ∷ on 0 ∷ on 0 ∷ choose 0 0 begins ∷ on 0 ∷ on 0 ∷ on 0 ∷ on 0
    ∷ on 0 ∷ on 0 ∷ choose 0 0 begins ∷ on 0 ∷ on 0 ∷ on 0 ∷ on 0 ∷ on 0 ∷ choose 0 0 begins ∷ on 0 ∷ on 0
    ∷ on 0 ∷ on 0 ∷ on 0 ∷ on 0 ∷ choose 0 0 exits ∷ on 0 ∷ choose 0 0 skips ∷ on 0 ∷ choose 0 0 ticks
    ∷ choose 0 0 ticks ∷ choose 0 0 ticks ∷ choose 0 0 ticks ∷ choose 0 0 ticks ∷ choose 0 0 ticks
    ∷ choose 0 0 ticks ∷ []

-- what the trace shows
abbrev pub events : List Event
events =
    by 0 (Act.Begin 0 1)
    ∷ by 0 (Act.Check (at 0x40000080) (Some Kind.Sem) Want.Init None)
    ∷ by 0 (Act.Arm 1)
    ∷ by 0 (Act.Work (at 0x40000080) (Answer.Now (Reply.Num 0)) [])
    ∷ by 0 (Act.Answered (Reply.Num 0))
    ∷ by 0 (Act.Begin 0 2)
    ∷ by 0 (Act.Check (at 0x400000c0) (Some Kind.Mutex) Want.Init None)
    ∷ by 0 (Act.Arm 2)
    ∷ by 0 (Act.Work (at 0x400000c0) (Answer.Now (Reply.Num 0)) [])
    ∷ by 0 (Act.Answered (Reply.Num 0))
    ∷ by 0 (Act.Begin 0 3)
    ∷ by 0 (Act.Check (at 0x40000100) (Some Kind.Msgq) Want.Init None)
    ∷ by 0 (Act.CopyIn (at 0x20080000) 4 true)
    ∷ by 0 (Act.Arm 3)
    ∷ by 0 (Act.Work (at 0x40000100) (Answer.Now (Reply.Num 0)) [])
    ∷ by 0 (Act.Answered (Reply.Num 0))
    ∷ by 0 (Act.Begin 0 4)
    ∷ by 0 (Act.Check (at 0x40000100) (Some Kind.Msgq) Want.Init None)
    ∷ by 0 (Act.Probe (at 0x20080000) 4 true)
    ∷ by 0 (Act.Arm 4)
    ∷ by 0 (Act.Work (at 0x40000100) (Answer.Now (Reply.Num 0)) [])
    ∷ by 0 (Act.CopyOut (at 0x20080000) 4 true)
    ∷ by 0 (Act.Answered (Reply.Num 0))
    ∷ by 0 (Act.Begin 0 5)
    ∷ by 0 (Act.Check (at 0x40000140) (Some Kind.Stack) Want.Init None)
    ∷ by 0 (Act.Work (at 0x40000140) (Answer.Now (Reply.Num 0)) [])
    ∷ by 0 (Act.Answered (Reply.Num 0))
    ∷ by 0 (Act.Begin 0 6)
    ∷ by 0 (Act.Check (at 0x40000140) (Some Kind.Stack) Want.Init None)
    ∷ by 0 (Act.Probe (at 0x20080000) 4 true)
    ∷ by 0 (Act.Arm 5)
    ∷ by 0 (Act.Work (at 0x40000140) (Answer.Now (Reply.Num 0)) [])
    ∷ by 0 (Act.CopyOut (at 0x20080000) 4 true)
    ∷ by 0 (Act.Answered (Reply.Num 0))
    ∷ by 0 (Act.Begin 0 7)
    ∷ by 0 (Act.Check (at 0x40000180) (Some Kind.Pipe) Want.Init None)
    ∷ by 0 (Act.CopyIn (at 0x20080000) 2 true)
    ∷ by 0 (Act.Arm 6)
    ∷ by 0 (Act.Work (at 0x40000180) (Answer.Now (Reply.Num 2)) [])
    ∷ by 0 (Act.Answered (Reply.Num 2))
    ∷ by 0 (Act.Begin 0 8)
    ∷ by 0 (Act.Check (at 0x40000180) (Some Kind.Pipe) Want.Init None)
    ∷ by 0 (Act.Probe (at 0x20080000) 2 true)
    ∷ by 0 (Act.Arm 7)
    ∷ by 0 (Act.Work (at 0x40000180) (Answer.Now (Reply.Num 2)) [])
    ∷ by 0 (Act.CopyOut (at 0x20080000) 2 true)
    ∷ by 0 (Act.Answered (Reply.Num 2))
    ∷ by 0 Act.Exit
    ∷ by 0 (Act.DropPair (thread 0) (at 0x40000000) Leftover.Kept)
    ∷ by 0 (Act.ClearInit (at 0x20080000))
    ∷ by 0 (Act.ClearInit (at 0x40000000))
    ∷ by 0 (Act.Tick 1)
    ∷ by 0 (Act.Tick 2)
    ∷ by 0 (Act.Tick 3)
    ∷ by 0 (Act.Tick 4)
    ∷ by 0 (Act.Tick 5)
    ∷ by 0 (Act.Tick 6)
    ∷ by 0 (Act.Tick 7) ∷ []

abbrev pub dump : Dump
dump =
    record {
      threads = started 0 ended Mode.User (pos 0) 0 ∷ [];
      objects = record { row = 0; kind = Some Kind.Thread; stage = uninitialised; public = true; holders = []; content = nothing }
          ∷ record { row = 1; kind = Some Kind.ThreadStack; stage = uninitialised; public = false; holders = []; content = nothing }
          ∷ record { row = 2; kind = Some Kind.Sem; stage = initialised; public = true; holders = []; content = filled 0 1 }
          ∷ record { row = 3; kind = Some Kind.Mutex; stage = initialised; public = true; holders = []; content = locked 0 1 }
          ∷ record { row = 4; kind = Some Kind.Msgq; stage = initialised; public = true; holders = []; content = filled 0 1 }
          ∷ record { row = 5; kind = Some Kind.Stack; stage = initialised; public = true; holders = []; content = filled 0 1 }
          ∷ record { row = 6; kind = Some Kind.Pipe; stage = initialised; public = true; holders = []; content = filled 0 2 } ∷ [];
      domains = Some [] ∷ [];
      pools = [];
      memory = (0x20080000, 5 ∷ 0 ∷ 0 ∷ 0 ∷ 0 ∷ 0 ∷ 0 ∷ 0 ∷ 0 ∷ 0 ∷ 0 ∷ 0 ∷ 0 ∷ 0 ∷ 0 ∷ 0 ∷ 0 ∷ 0 ∷ 0 ∷ 0 ∷ 0 ∷ 0 ∷ 0 ∷ 0 ∷ 0 ∷ 0 ∷ 0 ∷ 0 ∷ 0 ∷ 0 ∷ 0 ∷ 0 ∷ []) ∷ [];
    }

pub runs : whole_run image choices ≡ record { events = events; is_lawful = true; is_complete = true; dump = dump }
unfolding blank
runs = refl

-- which processor makes each step
abbrev pub processors : List ℕ
processors =
    0 ∷ 0 ∷ 0 ∷ 0 ∷ 0 ∷ 0 ∷ 0 ∷ 0 ∷ 0 ∷ 0 ∷ 0 ∷ 1 ∷ 1 ∷ 1 ∷ 1 ∷ 1 ∷ 1 ∷ 1 ∷ 1 ∷ 1 ∷ 1 ∷ 1 ∷ 0 ∷ 0 ∷ 0 ∷ 0
    ∷ 0 ∷ 0 ∷ 0 ∷ 0 ∷ 0 ∷ 0 ∷ 0 ∷ 0 ∷ 0 ∷ 0 ∷ 0 ∷ 0 ∷ 0 ∷ 0 ∷ 0 ∷ 0 ∷ 0 ∷ 0 ∷ 0 ∷ 0 ∷ 0 ∷ 0 ∷ 0 ∷ 0 ∷ 0 ∷ 0
    ∷ 0 ∷ 0 ∷ 0 ∷ 0 ∷ 0 ∷ 0 ∷ 0 ∷ 0 ∷ 0 ∷ 0 ∷ 0 ∷ 0 ∷ 0 ∷ 0 ∷ 0 ∷ 0 ∷ 0 ∷ 1 ∷ 1 ∷ 1 ∷ 1 ∷ 1 ∷ 1 ∷ 1 ∷ 1 ∷ 1
    ∷ 1 ∷ 1 ∷ 1 ∷ 1 ∷ 1 ∷ 1 ∷ 1 ∷ 1 ∷ 1 ∷ 1 ∷ 1 ∷ 1 ∷ 1 ∷ 1 ∷ 1 ∷ 1 ∷ 1 ∷ 1 ∷ 1 ∷ 1 ∷ 1 ∷ 1 ∷ 1 ∷ 1 ∷ 1 ∷ 1
    ∷ 1 ∷ 1 ∷ 1 ∷ 1 ∷ 1 ∷ 1 ∷ 1 ∷ 1 ∷ 1 ∷ 1 ∷ 1 ∷ 1 ∷ 1 ∷ 1 ∷ 1 ∷ 1 ∷ 1 ∷ 1 ∷ 1 ∷ 1 ∷ 1 ∷ 1 ∷ 1 ∷ 1 ∷ 0 ∷ 0
    ∷ 0 ∷ 0 ∷ 0 ∷ 0 ∷ 0 ∷ 0 ∷ 0 ∷ 0 ∷ 0 ∷ 0 ∷ 0 ∷ 0 ∷ 0 ∷ 0 ∷ 0 ∷ 0 ∷ 0 ∷ 0 ∷ 0 ∷ 0 ∷ 0 ∷ 0 ∷ 0 ∷ 0 ∷ 0 ∷ 0
    ∷ 0 ∷ 0 ∷ 0 ∷ 0 ∷ 0 ∷ 0 ∷ 0 ∷ 0 ∷ 0 ∷ 0 ∷ 0 ∷ 0 ∷ 0 ∷ 0 ∷ 0 ∷ 0 ∷ 0 ∷ 0 ∷ 0 ∷ 0 ∷ 0 ∷ 0 ∷ 0 ∷ 0 ∷ 0 ∷ 0
    ∷ 0 ∷ 0 ∷ 0 ∷ 0 ∷ 0 ∷ 0 ∷ 0 ∷ 0 ∷ 0 ∷ 0 ∷ 0 ∷ 0 ∷ 0 ∷ 0 ∷ 0 ∷ 0 ∷ 0 ∷ 0 ∷ 0 ∷ 0 ∷ 0 ∷ 0 ∷ 0 ∷ 0 ∷ 0 ∷ 0
    ∷ 0 ∷ 0 ∷ 0 ∷ 0 ∷ 0 ∷ 0 ∷ 0 ∷ 0 ∷ 0 ∷ 0 ∷ 0 ∷ 0 ∷ 0 ∷ 0 ∷ 0 ∷ 0 ∷ 0 ∷ 0 ∷ 0 ∷ 0 ∷ 0 ∷ 0 ∷ 0 ∷ 0 ∷ 0 ∷ 0
    ∷ 0 ∷ 0 ∷ 0 ∷ 0 ∷ 0 ∷ 0 ∷ 0 ∷ 0 ∷ 0 ∷ 0 ∷ 0 ∷ 0 ∷ 0 ∷ 0 ∷ 0 ∷ 0 ∷ 0 ∷ 0 ∷ 0 ∷ 0 ∷ 0 ∷ 0 ∷ 0 ∷ 0 ∷ 0 ∷ 0
    ∷ 0 ∷ 0 ∷ 0 ∷ 1 ∷ 0 ∷ 1 ∷ 0 ∷ 1 ∷ 0 ∷ 1 ∷ 0 ∷ 1 ∷ 0 ∷ 1 ∷ 0 ∷ 1 ∷ 0 ∷ 1 ∷ 0 ∷ 1 ∷ 0 ∷ 1 ∷ 0 ∷ 1 ∷ 0 ∷ 1
    ∷ 0 ∷ 1 ∷ 0 ∷ 0 ∷ 0 ∷ []

-- the steps: processor, site, the step's number there, and which unseen step it is
abbrev pub steps : List Brief
steps =
    (0, 306, 1, 15) ∷ (0, 128, 1, 0) ∷ (0, 2, 1, 0) ∷ (0, 128, 2, 24) ∷ (0, 306, 2, 19) ∷ (0, 307, 1, 0)
    ∷ (0, 170, 1, 0) ∷ (0, 307, 2, 21) ∷ (0, 128, 3, 0) ∷ (0, 2, 2, 1) ∷ (0, 306, 3, 16) ∷ (1, 306, 4, 15)
    ∷ (1, 128, 4, 0) ∷ (1, 3, 1, 0) ∷ (1, 128, 5, 24) ∷ (1, 306, 5, 19) ∷ (1, 307, 3, 0) ∷ (1, 171, 1, 0)
    ∷ (1, 307, 4, 21) ∷ (1, 128, 6, 0) ∷ (1, 3, 2, 1) ∷ (1, 306, 6, 16) ∷ (0, 306, 7, 15) ∷ (0, 128, 7, 0)
    ∷ (0, 4, 1, 0) ∷ (0, 172, 1, 11) ∷ (0, 128, 8, 4) ∷ (0, 160, 1, 6) ∷ (0, 296, 1, 9) ∷ (0, 304, 1, 0)
    ∷ (0, 160, 2, 7) ∷ (0, 128, 9, 5) ∷ (0, 128, 10, 24) ∷ (0, 306, 8, 19) ∷ (0, 307, 5, 0) ∷ (0, 172, 2, 0)
    ∷ (0, 307, 6, 21) ∷ (0, 128, 11, 0) ∷ (0, 4, 2, 1) ∷ (0, 306, 9, 16) ∷ (0, 306, 10, 15) ∷ (0, 128, 12, 0)
    ∷ (0, 4, 3, 0) ∷ (0, 172, 3, 11) ∷ (0, 128, 13, 4) ∷ (0, 160, 3, 6) ∷ (0, 304, 2, 0) ∷ (0, 160, 4, 7)
    ∷ (0, 128, 14, 5) ∷ (0, 128, 15, 24) ∷ (0, 306, 11, 19) ∷ (0, 307, 7, 0) ∷ (0, 172, 4, 0)
    ∷ (0, 307, 8, 21) ∷ (0, 128, 16, 4) ∷ (0, 160, 5, 6) ∷ (0, 304, 3, 0) ∷ (0, 160, 6, 7) ∷ (0, 128, 17, 5)
    ∷ (0, 128, 18, 0) ∷ (0, 4, 4, 1) ∷ (0, 306, 12, 16) ∷ (0, 306, 13, 15) ∷ (0, 128, 19, 0) ∷ (0, 5, 1, 0)
    ∷ (0, 173, 1, 0) ∷ (0, 128, 20, 0) ∷ (0, 5, 2, 1) ∷ (0, 306, 14, 16) ∷ (1, 306, 15, 15) ∷ (1, 128, 21, 0)
    ∷ (1, 5, 3, 0) ∷ (1, 128, 22, 4) ∷ (1, 160, 7, 6) ∷ (1, 296, 2, 9) ∷ (1, 304, 4, 0) ∷ (1, 160, 8, 7)
    ∷ (1, 128, 23, 5) ∷ (1, 128, 24, 24) ∷ (1, 306, 16, 19) ∷ (1, 307, 9, 0) ∷ (1, 173, 2, 0)
    ∷ (1, 307, 10, 21) ∷ (1, 128, 25, 4) ∷ (1, 160, 9, 6) ∷ (1, 304, 5, 0) ∷ (1, 160, 10, 7) ∷ (1, 128, 26, 5)
    ∷ (1, 128, 27, 0) ∷ (1, 5, 4, 1) ∷ (1, 306, 17, 16) ∷ (1, 306, 18, 15) ∷ (1, 128, 28, 0) ∷ (1, 6, 1, 0)
    ∷ (1, 128, 29, 4) ∷ (1, 160, 11, 6) ∷ (1, 304, 6, 0) ∷ (1, 160, 12, 7) ∷ (1, 128, 30, 5)
    ∷ (1, 128, 31, 24) ∷ (1, 306, 19, 19) ∷ (1, 307, 11, 0) ∷ (1, 174, 1, 0) ∷ (1, 307, 12, 21)
    ∷ (1, 128, 32, 0) ∷ (1, 6, 2, 1) ∷ (1, 306, 20, 16) ∷ (1, 306, 21, 15) ∷ (1, 128, 33, 0) ∷ (1, 6, 3, 0)
    ∷ (1, 128, 34, 4) ∷ (1, 160, 13, 6) ∷ (1, 304, 7, 0) ∷ (1, 160, 14, 7) ∷ (1, 128, 35, 5)
    ∷ (1, 128, 36, 24) ∷ (1, 306, 22, 19) ∷ (1, 307, 13, 0) ∷ (1, 174, 2, 0) ∷ (1, 307, 14, 21)
    ∷ (1, 128, 37, 4) ∷ (1, 160, 15, 6) ∷ (1, 304, 8, 0) ∷ (1, 160, 16, 7) ∷ (1, 128, 38, 5) ∷ (1, 128, 39, 0)
    ∷ (1, 6, 4, 1) ∷ (1, 306, 23, 16) ∷ (0, 306, 24, 15) ∷ (0, 128, 40, 0) ∷ (0, 0, 1, 0) ∷ (0, 1, 1, 2)
    ∷ (0, 2, 3, 2) ∷ (0, 3, 3, 2) ∷ (0, 4, 5, 2) ∷ (0, 5, 5, 2) ∷ (0, 6, 5, 2) ∷ (0, 7, 1, 2) ∷ (0, 8, 1, 2)
    ∷ (0, 9, 1, 2) ∷ (0, 10, 1, 2) ∷ (0, 11, 1, 2) ∷ (0, 12, 1, 2) ∷ (0, 13, 1, 2) ∷ (0, 14, 1, 2)
    ∷ (0, 15, 1, 2) ∷ (0, 16, 1, 2) ∷ (0, 17, 1, 2) ∷ (0, 18, 1, 2) ∷ (0, 19, 1, 2) ∷ (0, 20, 1, 2)
    ∷ (0, 21, 1, 2) ∷ (0, 22, 1, 2) ∷ (0, 23, 1, 2) ∷ (0, 24, 1, 2) ∷ (0, 25, 1, 2) ∷ (0, 26, 1, 2)
    ∷ (0, 27, 1, 2) ∷ (0, 28, 1, 2) ∷ (0, 29, 1, 2) ∷ (0, 30, 1, 2) ∷ (0, 31, 1, 2) ∷ (0, 32, 1, 2)
    ∷ (0, 33, 1, 2) ∷ (0, 34, 1, 2) ∷ (0, 35, 1, 2) ∷ (0, 36, 1, 2) ∷ (0, 37, 1, 2) ∷ (0, 38, 1, 2)
    ∷ (0, 39, 1, 2) ∷ (0, 40, 1, 2) ∷ (0, 41, 1, 2) ∷ (0, 42, 1, 2) ∷ (0, 43, 1, 2) ∷ (0, 44, 1, 2)
    ∷ (0, 45, 1, 2) ∷ (0, 46, 1, 2) ∷ (0, 47, 1, 2) ∷ (0, 48, 1, 2) ∷ (0, 49, 1, 2) ∷ (0, 50, 1, 2)
    ∷ (0, 51, 1, 2) ∷ (0, 52, 1, 2) ∷ (0, 53, 1, 2) ∷ (0, 54, 1, 2) ∷ (0, 55, 1, 2) ∷ (0, 56, 1, 2)
    ∷ (0, 57, 1, 2) ∷ (0, 58, 1, 2) ∷ (0, 59, 1, 2) ∷ (0, 60, 1, 2) ∷ (0, 61, 1, 2) ∷ (0, 62, 1, 2)
    ∷ (0, 63, 1, 2) ∷ (0, 64, 1, 2) ∷ (0, 65, 1, 2) ∷ (0, 66, 1, 2) ∷ (0, 67, 1, 2) ∷ (0, 68, 1, 2)
    ∷ (0, 69, 1, 2) ∷ (0, 70, 1, 2) ∷ (0, 71, 1, 2) ∷ (0, 72, 1, 2) ∷ (0, 73, 1, 2) ∷ (0, 74, 1, 2)
    ∷ (0, 75, 1, 2) ∷ (0, 76, 1, 2) ∷ (0, 77, 1, 2) ∷ (0, 78, 1, 2) ∷ (0, 79, 1, 2) ∷ (0, 80, 1, 2)
    ∷ (0, 81, 1, 2) ∷ (0, 82, 1, 2) ∷ (0, 83, 1, 2) ∷ (0, 84, 1, 2) ∷ (0, 85, 1, 2) ∷ (0, 86, 1, 2)
    ∷ (0, 87, 1, 2) ∷ (0, 88, 1, 2) ∷ (0, 89, 1, 2) ∷ (0, 90, 1, 2) ∷ (0, 91, 1, 2) ∷ (0, 92, 1, 2)
    ∷ (0, 93, 1, 2) ∷ (0, 94, 1, 2) ∷ (0, 95, 1, 2) ∷ (0, 96, 1, 2) ∷ (0, 97, 1, 2) ∷ (0, 98, 1, 2)
    ∷ (0, 99, 1, 2) ∷ (0, 100, 1, 2) ∷ (0, 101, 1, 2) ∷ (0, 102, 1, 2) ∷ (0, 103, 1, 2) ∷ (0, 104, 1, 2)
    ∷ (0, 105, 1, 2) ∷ (0, 106, 1, 2) ∷ (0, 107, 1, 2) ∷ (0, 108, 1, 2) ∷ (0, 109, 1, 2) ∷ (0, 110, 1, 2)
    ∷ (0, 111, 1, 2) ∷ (0, 112, 1, 2) ∷ (0, 113, 1, 2) ∷ (0, 114, 1, 2) ∷ (0, 115, 1, 2) ∷ (0, 116, 1, 2)
    ∷ (0, 117, 1, 2) ∷ (0, 118, 1, 2) ∷ (0, 119, 1, 2) ∷ (0, 120, 1, 2) ∷ (0, 121, 1, 2) ∷ (0, 122, 1, 2)
    ∷ (0, 123, 1, 2) ∷ (0, 124, 1, 2) ∷ (0, 125, 1, 2) ∷ (0, 126, 1, 2) ∷ (0, 127, 1, 2) ∷ (0, 1, 2, 0)
    ∷ (0, 308, 1, 27) ∷ (0, 0, 2, 0) ∷ (0, 0, 3, 1) ∷ (0, 306, 25, 17) ∷ (1, 307, 15, 0) ∷ (0, 307, 16, 22)
    ∷ (1, 307, 17, 0) ∷ (0, 170, 2, 23) ∷ (1, 307, 18, 22) ∷ (0, 306, 26, 20) ∷ (1, 171, 2, 23)
    ∷ (0, 307, 19, 0) ∷ (1, 306, 27, 20) ∷ (0, 307, 20, 22) ∷ (1, 307, 21, 0) ∷ (0, 172, 5, 23)
    ∷ (1, 307, 22, 22) ∷ (0, 306, 28, 20) ∷ (1, 172, 6, 23) ∷ (0, 307, 23, 0) ∷ (1, 306, 29, 20)
    ∷ (0, 307, 24, 22) ∷ (1, 307, 25, 0) ∷ (0, 173, 3, 23) ∷ (1, 307, 26, 22) ∷ (0, 306, 30, 20)
    ∷ (1, 174, 3, 23) ∷ (0, 307, 27, 0) ∷ (1, 306, 31, 20) ∷ (0, 307, 28, 22) ∷ (0, 174, 4, 23)
    ∷ (0, 306, 32, 20) ∷ []

pub makes : whole_fine_run image 2 processors ≡ record { steps = steps; events = events; is_lawful = true; is_complete = true; dump = without_priorities dump }
unfolding blank
makes = refl

-- before each step and after the last one the relation holds
pub is_related : related_steps image (record { cpus = 2; threads = 0 ∷ []; rows = 0 ∷ 1 ∷ 2 ∷ 3 ∷ 4 ∷ 5 ∷ 6 ∷ []; domains = 0 ∷ [] }) processors choices ≡ 292
unfolding blank
is_related = refl
