-- Three threads with services of all kinds, whose allocations are paid for until a pool has no more.
use Rattle.std.specs.Prelude.{◌≡◌, true, false, List, [], ◌∷◌, Some, None, pos, negsuc, codes, refl}
use Rattle.um_base.specs.declared.names.Errno.TheVariants as Errno
use Rattle.um_base.specs.declared.names.Kind.TheVariants as Kind
use Rattle.um_base.specs.declared.names.Mode.TheVariants as Mode
use Rattle.um_base.specs.declared.names.Mpu.TheVariants as Mpu
use Rattle.um_base.specs.declared.names.Policy.TheVariants as Policy
use Rattle.um_base.specs.declared.names.Ref.TheVariants as Ref
use Rattle.um_base.specs.declared.names.Reply.TheVariants as Reply
use Rattle.um_base.specs.declared.names.Term.TheVariants as Term
use Rattle.um_base.specs.declared.names.Timeout.TheVariants as Timeout
use Rattle.um_base.specs.declared.names.Want.TheVariants as Want
use Rattle.um_base.specs.declared.act.Act.TheVariants as Act
use Rattle.um_base.specs.declared.act.Answer.TheVariants as Answer
use Rattle.um_base.specs.declared.act.Cause.TheVariants as Cause
use Rattle.um_base.specs.declared.act.Found.TheVariants as Found
use Rattle.um_base.specs.declared.act.Leftover.TheVariants as Leftover
use Rattle.um_base.specs.declared.image.Setup.TheVariants as Setup
use Rattle.um_base.specs.declared.instr.Instr.TheVariants as Instr
use Rattle.um_base.specs.declared.act.Event.{Event}
use Rattle.um_base.specs.declared.image.Image.{Image}
use Rattle.um_base.specs.declared.image.Script.{Script}
use Rattle.um_worked_runs.specs.Fine.Left.{without_priorities}
use Rattle.um_worked_runs.specs.Fine.Whole.{seen, whole_run_alone}
use Rattle.um_machine.specs.Run.{blank}
use Rattle.um_worked_runs.specs.Evaluate.{Choice, skips, begins, exits, recycles, goes}
use Rattle.um_worked_runs.specs.Dump.{Dump, unborn, started, ended, waits, initialised, uninitialised, nothing, filled}
use Rattle.um_worked_runs.specs.Words.{at, thread, row, range, rights, by, on, choose}
use Rattle.um_worked_runs.specs.Whole.{whole_run}

abbrev pub script_0 : Script
script_0 =
    record { name = codes "c0"; lines = Instr.NameSet (Term.Num 0x40000180) (Term.Num 0x200800f8) ∷ [] }

abbrev pub script_1 : Script
script_1 =
    record {
      name = codes "c1";
      lines = Instr.Load 3 (Term.Num 0x20080004) 2
          ∷ Instr.Add 1 (Term.Num 1)
          ∷ Instr.UserMode (Ref.At 2) ∷ [];
    }

abbrev pub script_2 : Script
script_2 =
    record {
      name = codes "c2";
      lines = Instr.Repeat 2
          ∷ Instr.PipeWrite (Term.Num 0x40000280) (Term.Num 0x200800c0) (Term.Num 0) Timeout.Forever
          ∷ Instr.SemInit (Term.Num 0x40000200) (Term.Num 2) (Term.Num 1)
          ∷ Instr.End
          ∷ Instr.Repeat 1
          ∷ Instr.ObjectAlloc Kind.Msgq 3
          ∷ Instr.SemGive (Term.Num 0x40000200)
          ∷ Instr.ObjectAlloc Kind.Msgq 0
          ∷ Instr.End
          ∷ Instr.SemTake (Term.Num 0x40000200) Timeout.Forever
          ∷ Instr.StackPop (Term.Num 0x40000240) (Term.Num 0x200800dc) Timeout.Forever
          ∷ Instr.StackPop (Term.Num 0x40000240) (Term.Num 0x200800c4) Timeout.NoWait
          ∷ Instr.SemGive (Term.Num 0x40000200)
          ∷ Instr.MsgqInit (Term.Reg 0) (Term.Num 257) (Term.Num 1)
          ∷ Instr.StackPush (Term.Num 0x40000240) (Term.Num 0x000000ab)
          ∷ Instr.NameSet (Term.Num 0x40000180) (Term.Num 0x200800c4)
          ∷ Instr.Grant (Term.Num 0x40000280) (Term.Num 0x40000180)
          ∷ Instr.Store (Term.Num 0x200800d8) 4 (Term.Num 2)
          ∷ Instr.MsgqPut (Term.Reg 0) (Term.Num 0x200800c8) Timeout.NoWait
          ∷ Instr.SemTake (Term.Num 0x40000200) Timeout.Forever ∷ [];
    }

abbrev pub image : Image
image =
    record {
      mpu = Mpu.V8;
      regions = 4;
      policy = Policy.Abort;
      rodata = Some (range 0x08000000 32);
      rodata_bytes = 0 ∷ 98 ∷ 100 ∷ 0 ∷ 100 ∷ 99 ∷ 99 ∷ 98 ∷ 97 ∷ 100 ∷ 100 ∷ 0 ∷ 98 ∷ 99 ∷ 100 ∷ 97 ∷ 97 ∷ 99 ∷ 100 ∷ 99 ∷ 99 ∷ 99 ∷ 97 ∷ 99 ∷ 98 ∷ 99 ∷ 99 ∷ [];
      pools = record { name = codes "h0"; size = 64 } ∷ record { name = codes "h1"; size = 200 } ∷ [];
      partitions = record { name = codes "p0"; range = range 0x20000000 32; attr = rights 9; bytes = [] } ∷ [];
      domains = record { name = codes "d0"; parts = Some [] }
          ∷ record { name = codes "d1"; parts = Some [] } ∷ [];
      objects = record { name = codes "t0"; kind = Kind.Thread; addr = at 0x40000000; public = false; setup = Setup.Thread (thread 0) }
          ∷ record { name = codes "k0"; kind = Kind.ThreadStack; addr = at 0x20080000; public = false; setup = Setup.ThreadStack (range 0x20080000 64) 64 }
          ∷ record { name = codes "t1"; kind = Kind.Thread; addr = at 0x40000080; public = false; setup = Setup.Thread (thread 1) }
          ∷ record { name = codes "k1"; kind = Kind.ThreadStack; addr = at 0x20080040; public = false; setup = Setup.ThreadStack (range 0x20080040 128) 100 }
          ∷ record { name = codes "t2"; kind = Kind.Thread; addr = at 0x40000100; public = false; setup = Setup.Thread (thread 2) }
          ∷ record { name = codes "k2"; kind = Kind.ThreadStack; addr = at 0x200800c0; public = false; setup = Setup.ThreadStack (range 0x200800c0 32) 8 }
          ∷ record { name = codes "t3"; kind = Kind.Thread; addr = at 0x40000180; public = false; setup = Setup.Thread (thread 3) }
          ∷ record { name = codes "k3"; kind = Kind.ThreadStack; addr = at 0x200800e0; public = false; setup = Setup.ThreadStack (range 0x200800e0 128) 100 }
          ∷ record { name = codes "s0"; kind = Kind.Sem; addr = at 0x40000200; public = true; setup = Setup.Sem 0 3 }
          ∷ record { name = codes "z1"; kind = Kind.Stack; addr = at 0x40000240; public = false; setup = Setup.Stack 2 }
          ∷ record { name = codes "w2"; kind = Kind.Pipe; addr = at 0x40000280; public = false; setup = Setup.Pipe 256 } ∷ [];
      boots = record { thread = row 6; stack = row 7; script = 0; mode = Mode.Supervisor; priority = pos 1; domain = 0; pool = Some 0; grants = row 0 ∷ row 1 ∷ row 2 ∷ row 3 ∷ row 4 ∷ row 5 ∷ row 6 ∷ row 7 ∷ row 8 ∷ row 9 ∷ row 10 ∷ [] }
          ∷ record { thread = row 0; stack = row 1; script = 1; mode = Mode.Supervisor; priority = negsuc 3; domain = 1; pool = Some 0; grants = row 0 ∷ row 1 ∷ row 2 ∷ row 3 ∷ row 4 ∷ row 5 ∷ row 6 ∷ row 7 ∷ row 8 ∷ row 9 ∷ row 10 ∷ [] }
          ∷ record { thread = row 4; stack = row 5; script = 2; mode = Mode.User; priority = pos 2; domain = 1; pool = Some 1; grants = row 0 ∷ row 1 ∷ row 2 ∷ row 3 ∷ row 4 ∷ row 5 ∷ row 6 ∷ row 7 ∷ row 8 ∷ row 9 ∷ row 10 ∷ [] } ∷ [];
      scripts = script_0
          ∷ script_1
          ∷ script_2 ∷ [];
      futexes = [];
    }

-- which thread makes each step, and which one
abbrev pub choices : List Choice
choices =
    choose 3 0 begins ∷ on 3 ∷ on 3 ∷ on 3 ∷ on 3 ∷ choose 0 0 begins ∷ on 0 ∷ choose 2 0 begins ∷ on 2
    ∷ on 2 ∷ on 2 ∷ on 2 ∷ choose 3 0 exits ∷ on 3 ∷ choose 3 1 goes ∷ choose 3 2 goes ∷ choose 3 3 goes
    ∷ choose 3 4 goes ∷ choose 3 5 goes ∷ choose 3 6 goes ∷ choose 3 7 goes ∷ choose 3 8 goes
    ∷ choose 3 9 goes ∷ choose 3 10 goes ∷ choose 3 0 skips ∷ on 3 ∷ choose 0 0 begins ∷ choose 2 0 begins
    ∷ on 2 ∷ on 2 ∷ choose 0 0 begins ∷ on 0 ∷ on 0 ∷ choose 2 0 begins ∷ on 2 ∷ on 2 ∷ on 2 ∷ on 2
    ∷ choose 0 0 begins ∷ on 0 ∷ on 0 ∷ on 0 ∷ on 0 ∷ choose 2 0 begins ∷ on 2 ∷ on 2 ∷ choose 0 0 begins
    ∷ on 0 ∷ on 0 ∷ choose 2 0 begins ∷ choose 2 112 goes ∷ on 2 ∷ on 2 ∷ choose 0 0 begins ∷ on 0 ∷ on 0
    ∷ on 0 ∷ on 0 ∷ choose 2 0 begins ∷ on 2 ∷ on 2 ∷ on 2 ∷ choose 0 0 begins ∷ on 0 ∷ on 0
    ∷ choose 2 0 begins ∷ choose 2 113 goes ∷ on 2 ∷ on 2 ∷ choose 0 0 begins ∷ choose 0 114 goes ∷ on 0
    ∷ on 0 ∷ choose 2 0 begins ∷ on 2 ∷ on 2 ∷ on 2 ∷ choose 0 0 begins ∷ on 0 ∷ on 0 ∷ on 0
    ∷ choose 2 0 begins ∷ on 2 ∷ on 2 ∷ on 2 ∷ choose 0 0 begins ∷ on 0 ∷ on 0 ∷ choose 0 0 begins ∷ on 0
    ∷ on 0 ∷ on 0 ∷ choose 0 0 begins ∷ on 0 ∷ on 0 ∷ on 0 ∷ on 0 ∷ choose 0 1 goes ∷ choose 0 2 goes
    ∷ choose 0 3 goes ∷ choose 0 4 goes ∷ choose 0 5 goes ∷ choose 0 6 goes ∷ choose 0 7 goes
    ∷ choose 0 8 goes ∷ choose 0 9 goes ∷ choose 0 10 goes ∷ choose 0 114 goes ∷ choose 0 114 recycles
    ∷ choose 0 0 skips ∷ on 0 ∷ []

-- what the trace shows
abbrev pub events : List Event
events =
    by 3 (Act.Begin 0 1)
    ∷ by 3 (Act.Check (at 0x40000180) (Some Kind.Thread) Want.Init None)
    ∷ by 3 (Act.CopyStr (at 0x200800f8) (Found.Length 0))
    ∷ by 3 (Act.Named (thread 3))
    ∷ by 3 (Act.Answered (Reply.Num 0))
    ∷ by 0 (Act.Begin 1 1)
    ∷ by 0 (Act.Load (at 0x20080004) 2 0x0)
    ∷ by 2 (Act.Begin 2 2)
    ∷ by 2 (Act.Check (at 0x40000280) (Some Kind.Pipe) Want.Init None)
    ∷ by 2 (Act.CopyIn (at 0x200800c0) 0 true)
    ∷ by 2 (Act.Work (at 0x40000280) (Answer.Now (Reply.Num 0)) [])
    ∷ by 2 (Act.Answered (Reply.Num 0))
    ∷ by 3 Act.Exit
    ∷ by 3 (Act.DropPair (thread 3) (at 0x40000000) Leftover.Kept)
    ∷ by 3 (Act.DropPair (thread 3) (at 0x20080000) Leftover.Kept)
    ∷ by 3 (Act.DropPair (thread 3) (at 0x40000080) Leftover.Kept)
    ∷ by 3 (Act.DropPair (thread 3) (at 0x20080040) Leftover.Kept)
    ∷ by 3 (Act.DropPair (thread 3) (at 0x40000100) Leftover.Kept)
    ∷ by 3 (Act.DropPair (thread 3) (at 0x200800c0) Leftover.Kept)
    ∷ by 3 (Act.DropPair (thread 3) (at 0x40000180) Leftover.Kept)
    ∷ by 3 (Act.DropPair (thread 3) (at 0x200800e0) Leftover.Kept)
    ∷ by 3 (Act.DropPair (thread 3) (at 0x40000200) Leftover.Kept)
    ∷ by 3 (Act.DropPair (thread 3) (at 0x40000240) Leftover.Kept)
    ∷ by 3 (Act.DropPair (thread 3) (at 0x40000280) Leftover.Kept)
    ∷ by 3 (Act.ClearInit (at 0x200800e0))
    ∷ by 3 (Act.ClearInit (at 0x40000180))
    ∷ by 0 (Act.Begin 1 2)
    ∷ by 2 (Act.Begin 2 3)
    ∷ by 2 (Act.Check (at 0x40000200) (Some Kind.Sem) Want.Any None)
    ∷ by 2 (Act.Answered (Reply.Fail Errno.EINVAL))
    ∷ by 0 (Act.Begin 1 3)
    ∷ by 0 (Act.Erase (row 1))
    ∷ by 0 Act.EnterUser
    ∷ by 2 (Act.Begin 2 2)
    ∷ by 2 (Act.Check (at 0x40000280) (Some Kind.Pipe) Want.Init None)
    ∷ by 2 (Act.CopyIn (at 0x200800c0) 0 true)
    ∷ by 2 (Act.Work (at 0x40000280) (Answer.Now (Reply.Num 0)) [])
    ∷ by 2 (Act.Answered (Reply.Num 0))
    ∷ by 0 (Act.Begin 2 2)
    ∷ by 0 (Act.Check (at 0x40000280) (Some Kind.Pipe) Want.Init None)
    ∷ by 0 (Act.CopyIn (at 0x200800c0) 0 true)
    ∷ by 0 (Act.Work (at 0x40000280) (Answer.Now (Reply.Num 0)) [])
    ∷ by 0 (Act.Answered (Reply.Num 0))
    ∷ by 2 (Act.Begin 2 3)
    ∷ by 2 (Act.Check (at 0x40000200) (Some Kind.Sem) Want.Any None)
    ∷ by 2 (Act.Answered (Reply.Fail Errno.EINVAL))
    ∷ by 0 (Act.Begin 2 3)
    ∷ by 0 (Act.Check (at 0x40000200) (Some Kind.Sem) Want.Any None)
    ∷ by 0 (Act.Answered (Reply.Fail Errno.EINVAL))
    ∷ by 2 (Act.Begin 2 6)
    ∷ by 2 (Act.Reserve Kind.Msgq (Some (at 0x48000400)))
    ∷ by 2 (Act.Born (at 0x48000400))
    ∷ by 2 (Act.Answered (Reply.At (at 0x48000400)))
    ∷ by 0 (Act.Begin 2 2)
    ∷ by 0 (Act.Check (at 0x40000280) (Some Kind.Pipe) Want.Init None)
    ∷ by 0 (Act.CopyIn (at 0x200800c0) 0 true)
    ∷ by 0 (Act.Work (at 0x40000280) (Answer.Now (Reply.Num 0)) [])
    ∷ by 0 (Act.Answered (Reply.Num 0))
    ∷ by 2 (Act.Begin 2 7)
    ∷ by 2 (Act.Check (at 0x40000200) (Some Kind.Sem) Want.Init None)
    ∷ by 2 (Act.Work (at 0x40000200) (Answer.Now Reply.Void) [])
    ∷ by 2 (Act.Answered Reply.Void)
    ∷ by 0 (Act.Begin 2 3)
    ∷ by 0 (Act.Check (at 0x40000200) (Some Kind.Sem) Want.Any None)
    ∷ by 0 (Act.Answered (Reply.Fail Errno.EINVAL))
    ∷ by 2 (Act.Begin 2 8)
    ∷ by 2 (Act.Reserve Kind.Msgq (Some (at 0x48000440)))
    ∷ by 2 (Act.Born (at 0x48000440))
    ∷ by 2 (Act.Answered (Reply.At (at 0x48000440)))
    ∷ by 0 (Act.Begin 2 6)
    ∷ by 0 (Act.Reserve Kind.Msgq (Some (at 0x48000480)))
    ∷ by 0 (Act.Born (at 0x48000480))
    ∷ by 0 (Act.Answered (Reply.At (at 0x48000480)))
    ∷ by 2 (Act.Begin 2 10)
    ∷ by 2 (Act.Check (at 0x40000200) (Some Kind.Sem) Want.Init None)
    ∷ by 2 (Act.Work (at 0x40000200) (Answer.Now (Reply.Num 0)) [])
    ∷ by 2 (Act.Answered (Reply.Num 0))
    ∷ by 0 (Act.Begin 2 7)
    ∷ by 0 (Act.Check (at 0x40000200) (Some Kind.Sem) Want.Init None)
    ∷ by 0 (Act.Work (at 0x40000200) (Answer.Now Reply.Void) [])
    ∷ by 0 (Act.Answered Reply.Void)
    ∷ by 2 (Act.Begin 2 11)
    ∷ by 2 (Act.Check (at 0x40000240) (Some Kind.Stack) Want.Init None)
    ∷ by 2 (Act.Probe (at 0x200800dc) 4 true)
    ∷ by 2 (Act.Work (at 0x40000240) Answer.Wait [])
    ∷ by 0 (Act.Begin 2 8)
    ∷ by 0 (Act.Reserve Kind.Msgq None)
    ∷ by 0 (Act.Answered Reply.Null)
    ∷ by 0 (Act.Begin 2 10)
    ∷ by 0 (Act.Check (at 0x40000200) (Some Kind.Sem) Want.Init None)
    ∷ by 0 (Act.Work (at 0x40000200) (Answer.Now (Reply.Num 0)) [])
    ∷ by 0 (Act.Answered (Reply.Num 0))
    ∷ by 0 (Act.Begin 2 11)
    ∷ by 0 (Act.Check (at 0x40000240) (Some Kind.Stack) Want.Init None)
    ∷ by 0 (Act.Probe (at 0x200800dc) 4 false)
    ∷ by 0 (Act.Fatal 3 (Cause.Refused Errno.EFAULT))
    ∷ by 0 (Act.DropPair (thread 0) (at 0x40000000) Leftover.Kept)
    ∷ by 0 (Act.DropPair (thread 0) (at 0x20080000) Leftover.Kept)
    ∷ by 0 (Act.DropPair (thread 0) (at 0x40000080) Leftover.Kept)
    ∷ by 0 (Act.DropPair (thread 0) (at 0x20080040) Leftover.Kept)
    ∷ by 0 (Act.DropPair (thread 0) (at 0x40000100) Leftover.Kept)
    ∷ by 0 (Act.DropPair (thread 0) (at 0x200800c0) Leftover.Kept)
    ∷ by 0 (Act.DropPair (thread 0) (at 0x40000180) Leftover.Kept)
    ∷ by 0 (Act.DropPair (thread 0) (at 0x200800e0) Leftover.Kept)
    ∷ by 0 (Act.DropPair (thread 0) (at 0x40000200) Leftover.Kept)
    ∷ by 0 (Act.DropPair (thread 0) (at 0x40000240) Leftover.Kept)
    ∷ by 0 (Act.DropPair (thread 0) (at 0x40000280) Leftover.Kept)
    ∷ by 0 (Act.DropPair (thread 0) (at 0x48000480) Leftover.Gone)
    ∷ by 0 (Act.Recycle (at 0x48000480))
    ∷ by 0 (Act.ClearInit (at 0x20080000))
    ∷ by 0 (Act.ClearInit (at 0x40000000)) ∷ []

abbrev pub dump : Dump
dump =
    record {
      threads = started 0 ended Mode.User (negsuc 3) 1
          ∷ unborn 1
          ∷ started 2 (waits 9) Mode.User (pos 2) 1
          ∷ started 3 ended Mode.Supervisor (pos 1) 0 ∷ [];
      objects = record { row = 0; kind = Some Kind.Thread; stage = uninitialised; public = false; holders = 2 ∷ []; content = nothing }
          ∷ record { row = 1; kind = Some Kind.ThreadStack; stage = uninitialised; public = false; holders = 2 ∷ []; content = nothing }
          ∷ record { row = 2; kind = Some Kind.Thread; stage = uninitialised; public = false; holders = 2 ∷ []; content = nothing }
          ∷ record { row = 3; kind = Some Kind.ThreadStack; stage = uninitialised; public = false; holders = 2 ∷ []; content = nothing }
          ∷ record { row = 4; kind = Some Kind.Thread; stage = initialised; public = false; holders = 2 ∷ []; content = nothing }
          ∷ record { row = 5; kind = Some Kind.ThreadStack; stage = initialised; public = false; holders = 2 ∷ []; content = nothing }
          ∷ record { row = 6; kind = Some Kind.Thread; stage = uninitialised; public = false; holders = 2 ∷ []; content = nothing }
          ∷ record { row = 7; kind = Some Kind.ThreadStack; stage = uninitialised; public = false; holders = 2 ∷ []; content = nothing }
          ∷ record { row = 8; kind = Some Kind.Sem; stage = initialised; public = true; holders = 2 ∷ []; content = filled 0 3 }
          ∷ record { row = 9; kind = Some Kind.Stack; stage = initialised; public = false; holders = 2 ∷ []; content = filled 0 2 }
          ∷ record { row = 10; kind = Some Kind.Pipe; stage = initialised; public = false; holders = 2 ∷ []; content = filled 0 256 }
          ∷ record { row = 112; kind = Some Kind.Msgq; stage = uninitialised; public = false; holders = 2 ∷ []; content = nothing }
          ∷ record { row = 113; kind = Some Kind.Msgq; stage = uninitialised; public = false; holders = 2 ∷ []; content = nothing } ∷ [];
      domains = Some []
          ∷ Some [] ∷ [];
      pools = 64 ∷ 72 ∷ [];
      memory = [];
    }

pub runs : whole_run image choices ≡ record { events = events; is_lawful = true; is_complete = true; dump = dump }
unfolding blank
runs = refl

pub makes : seen (whole_run_alone image 2000) ≡ record { events = events; is_lawful = true; is_complete = true; dump = without_priorities dump }
unfolding blank
makes = refl
