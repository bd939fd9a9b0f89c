-- A creation fails since the thread object has gone meanwhile: a supervisor panics, all threads are doomed, and one is put away after a look at its word.
use Rattle.std.specs.Prelude.{◌≡◌, ℕ, true, false, List, [], ◌∷◌, Some, None, pos, codes, refl}
use Rattle.um_base.specs.declared.names.Errno.TheVariants as Errno
use Rattle.um_base.specs.declared.names.Kind.TheVariants as Kind
use Rattle.um_base.specs.declared.names.Mode.TheVariants as Mode
use Rattle.um_base.specs.declared.names.Mpu.TheVariants as Mpu
use Rattle.um_base.specs.declared.names.Policy.TheVariants as Policy
use Rattle.um_base.specs.declared.names.Ref.TheVariants as Ref
use Rattle.um_base.specs.declared.names.Reply.TheVariants as Reply
use Rattle.um_base.specs.declared.names.Term.TheVariants as Term
use Rattle.um_base.specs.declared.names.Want.TheVariants as Want
use Rattle.um_base.specs.declared.act.Act.TheVariants as Act
use Rattle.um_base.specs.declared.act.Cause.TheVariants as Cause
use Rattle.um_base.specs.declared.act.Leftover.TheVariants as Leftover
use Rattle.um_base.specs.declared.act.SetSaid.TheVariants as SetSaid
use Rattle.um_base.specs.declared.image.Setup.TheVariants as Setup
use Rattle.um_base.specs.declared.instr.Instr.TheVariants as Instr
use Rattle.um_base.specs.declared.act.Event.{Event}
use Rattle.um_base.specs.declared.image.Image.{Image}
use Rattle.um_base.specs.declared.image.Script.{Script}
use Rattle.um_worked_runs.specs.Fine.Left.{without_priorities}
use Rattle.um_worked_runs.specs.Fine.Brief.{Brief}
use Rattle.um_worked_runs.specs.Fine.Whole.{whole_fine_run}
use Rattle.um_worked_runs.specs.Fine.Related.{related_steps}
use Rattle.um_machine.specs.Run.{blank}
use Rattle.um_worked_runs.specs.Evaluate.{Choice, begins, recycles, goes}
use Rattle.um_worked_runs.specs.Dump.{Dump, unborn, started, doomed, initialised, uninitialised, nothing}
use Rattle.um_worked_runs.specs.Words.{at, thread, row, range, by, on, choose}
use Rattle.um_worked_runs.specs.Whole.{whole_run}

abbrev pub script_0 : Script
script_0 =
    record {
      name = codes "m";
      lines = Instr.ObjectAlloc Kind.Thread 0
          ∷ Instr.Create (Term.Reg 0) (Term.Num 0x20080040) (Term.Num 64) (Ref.At 2) (pos 3) (record { user = true; inherit = true; essential = false }) ∷ [];
    }

abbrev pub script_1 : Script
script_1 =
    record {
      name = codes "v";
      lines = Instr.Repeat 8
          ∷ Instr.Revoke (Term.Num 0x48000000) (Term.Num 0x40000000)
          ∷ Instr.End ∷ [];
    }

abbrev pub script_2 : Script
script_2 =
    record { name = codes "w"; lines = Instr.Set 0 (Term.Num 1) ∷ [] }

abbrev pub image : Image
image =
    record {
      mpu = Mpu.V7;
      regions = 8;
      policy = Policy.Abort;
      rodata = None;
      rodata_bytes = [];
      pools = record { name = codes "h"; size = 256 } ∷ [];
      partitions = [];
      domains = record { name = codes "d"; parts = Some [] } ∷ [];
      objects = record { name = codes "a"; kind = Kind.Thread; addr = at 0x40000000; public = false; setup = Setup.Thread (thread 0) }
          ∷ record { name = codes "sa"; kind = Kind.ThreadStack; addr = at 0x20080000; public = false; setup = Setup.ThreadStack (range 0x20080000 64) 64 }
          ∷ record { name = codes "b"; kind = Kind.Thread; addr = at 0x40000080; public = false; setup = Setup.Thread (thread 1) }
          ∷ record { name = codes "sb"; kind = Kind.ThreadStack; addr = at 0x20080040; public = false; setup = Setup.ThreadStack (range 0x20080040 64) 64 }
          ∷ record { name = codes "c"; kind = Kind.Thread; addr = at 0x40000100; public = false; setup = Setup.Thread (thread 2) }
          ∷ record { name = codes "sc"; kind = Kind.ThreadStack; addr = at 0x20080080; public = false; setup = Setup.ThreadStack (range 0x20080080 64) 64 } ∷ [];
      boots = record { thread = row 0; stack = row 1; script = 0; mode = Mode.Supervisor; priority = pos 0; domain = 0; pool = Some 0; grants = row 2 ∷ row 3 ∷ [] }
          ∷ record { thread = row 4; stack = row 5; script = 1; mode = Mode.Supervisor; priority = pos 0; domain = 0; pool = Some 0; grants = [] } ∷ [];
      scripts = script_0
          ∷ script_1
          ∷ script_2 ∷ [];
      futexes = [];
    }

-- which thread makes each step, and which one
abbrev pub choices : List Choice
choices =
    choose 2 0 begins ∷ on 2 ∷ on 2 ∷ on 2 ∷ choose 0 0 begins ∷ choose 2 0 begins ∷ choose 0 96 goes ∷ on 2
    ∷ on 2 ∷ on 0 ∷ on 2 ∷ on 0 ∷ choose 0 0 begins ∷ on 0 ∷ choose 2 0 begins ∷ on 2 ∷ on 2 ∷ on 2 ∷ on 0
    ∷ on 2 ∷ on 0 ∷ on 0 ∷ on 0 ∷ on 0 ∷ on 0 ∷ on 0 ∷ on 0 ∷ on 0 ∷ on 0 ∷ on 0 ∷ on 0 ∷ on 0 ∷ on 0 ∷ on 0
    ∷ on 0 ∷ on 0 ∷ on 0 ∷ on 0 ∷ on 0 ∷ on 0 ∷ on 0 ∷ on 0 ∷ on 0 ∷ on 0 ∷ on 0 ∷ on 0 ∷ on 0 ∷ on 0 ∷ on 0
    ∷ on 0 ∷ on 0 ∷ on 0 ∷ on 0 ∷ on 0 ∷ choose 2 96 recycles ∷ []

-- what the trace shows
abbrev pub events : List Event
events =
    by 2 (Act.Begin 1 2)
    ∷ by 2 (Act.Check (at 0x40000000) (Some Kind.Thread) Want.Any None)
    ∷ by 2 (Act.Check (at 0x48000000) None Want.Any (Some Errno.EBADF))
    ∷ by 2 (Act.Answered Reply.Void)
    ∷ by 0 (Act.Begin 0 1)
    ∷ by 2 (Act.Begin 1 2)
    ∷ by 0 (Act.Reserve Kind.Thread (Some (at 0x48000000)))
    ∷ by 2 (Act.Check (at 0x40000000) (Some Kind.Thread) Want.Any None)
    ∷ by 2 (Act.Check (at 0x48000000) None Want.Any (Some Errno.EBADF))
    ∷ by 0 (Act.Born (at 0x48000000))
    ∷ by 2 (Act.Answered Reply.Void)
    ∷ by 0 (Act.Answered (Reply.At (at 0x48000000)))
    ∷ by 0 (Act.Begin 0 2)
    ∷ by 0 (Act.Check (at 0x48000000) (Some Kind.Thread) Want.Uninit None)
    ∷ by 2 (Act.Begin 1 2)
    ∷ by 2 (Act.Check (at 0x40000000) (Some Kind.Thread) Want.Any None)
    ∷ by 2 (Act.Check (at 0x48000000) None Want.Any None)
    ∷ by 2 (Act.DropPair (thread 0) (at 0x48000000) Leftover.Gone)
    ∷ by 0 (Act.Check (at 0x20080040) (Some Kind.ThreadStack) Want.Uninit None)
    ∷ by 2 (Act.Answered Reply.Void)
    ∷ by 0 (Act.SetInit (at 0x48000000) (SetSaid.Fail Errno.EBADF))
    ∷ by 0 (Act.Fatal 4 (Cause.Refused Errno.EBADF))
    ∷ by 0 (Act.Doom (thread 0))
    ∷ by 0 (Act.Doom (thread 1))
    ∷ by 0 (Act.Doom (thread 2))
    ∷ by 0 (Act.Doom (thread 3))
    ∷ by 0 (Act.Doom (thread 4))
    ∷ by 0 (Act.Doom (thread 5))
    ∷ by 0 (Act.Doom (thread 6))
    ∷ by 0 (Act.Doom (thread 7))
    ∷ by 0 (Act.Doom (thread 8))
    ∷ by 0 (Act.Doom (thread 9))
    ∷ by 0 (Act.Doom (thread 10))
    ∷ by 0 (Act.Doom (thread 11))
    ∷ by 0 (Act.Doom (thread 12))
    ∷ by 0 (Act.Doom (thread 13))
    ∷ by 0 (Act.Doom (thread 14))
    ∷ by 0 (Act.Doom (thread 15))
    ∷ by 0 (Act.Doom (thread 16))
    ∷ by 0 (Act.Doom (thread 17))
    ∷ by 0 (Act.Doom (thread 18))
    ∷ by 0 (Act.Doom (thread 19))
    ∷ by 0 (Act.Doom (thread 20))
    ∷ by 0 (Act.Doom (thread 21))
    ∷ by 0 (Act.Doom (thread 22))
    ∷ by 0 (Act.Doom (thread 23))
    ∷ by 0 (Act.Doom (thread 24))
    ∷ by 0 (Act.Doom (thread 25))
    ∷ by 0 (Act.Doom (thread 26))
    ∷ by 0 (Act.Doom (thread 27))
    ∷ by 0 (Act.Doom (thread 28))
    ∷ by 0 (Act.Doom (thread 29))
    ∷ by 0 (Act.Doom (thread 30))
    ∷ by 0 (Act.Doom (thread 31))
    ∷ by 2 (Act.Recycle (at 0x48000000)) ∷ []

abbrev pub dump : Dump
dump =
    record {
      threads = started 0 doomed Mode.Supervisor (pos 0) 0
          ∷ unborn 1
          ∷ started 2 doomed Mode.Supervisor (pos 0) 0 ∷ [];
      objects = record { row = 0; kind = Some Kind.Thread; stage = initialised; public = false; holders = 0 ∷ []; content = nothing }
          ∷ record { row = 1; kind = Some Kind.ThreadStack; stage = initialised; public = false; holders = []; content = nothing }
          ∷ record { row = 2; kind = Some Kind.Thread; stage = uninitialised; public = false; holders = 0 ∷ []; content = nothing }
          ∷ record { row = 3; kind = Some Kind.ThreadStack; stage = uninitialised; public = false; holders = 0 ∷ []; content = nothing }
          ∷ record { row = 4; kind = Some Kind.Thread; stage = initialised; public = false; holders = 2 ∷ []; content = nothing }
          ∷ record { row = 5; kind = Some Kind.ThreadStack; stage = initialised; public = false; holders = []; content = nothing } ∷ [];
      domains = Some [] ∷ [];
      pools = 256 ∷ [];
      memory = [];
    }

pub runs : whole_run image choices ≡ record { events = events; is_lawful = true; is_complete = true; dump = dump }
unfolding blank
runs = refl

-- which processor makes each step
abbrev pub processors : List ℕ
processors =
    0 ∷ 2 ∷ 2 ∷ 2 ∷ 2 ∷ 2 ∷ 0 ∷ 2 ∷ 2 ∷ 1 ∷ 1 ∷ 0 ∷ 1 ∷ 1 ∷ 0 ∷ 1 ∷ 0 ∷ 1 ∷ 0 ∷ 1 ∷ 0 ∷ 2 ∷ 0 ∷ 0 ∷ 2 ∷ 2
    ∷ 2 ∷ 2 ∷ 0 ∷ 2 ∷ 0 ∷ 0 ∷ 2 ∷ 0 ∷ 2 ∷ 0 ∷ 2 ∷ 2 ∷ 0 ∷ 2 ∷ 0 ∷ 2 ∷ 2 ∷ 2 ∷ 2 ∷ 0 ∷ 2 ∷ 2 ∷ 2 ∷ 2 ∷ 2 ∷ 2
    ∷ 0 ∷ 2 ∷ 2 ∷ 2 ∷ 0 ∷ 2 ∷ 0 ∷ 2 ∷ 2 ∷ 0 ∷ 2 ∷ 2 ∷ 2 ∷ 2 ∷ 2 ∷ 2 ∷ 2 ∷ 2 ∷ 2 ∷ 2 ∷ 2 ∷ 2 ∷ 2 ∷ 2 ∷ 0 ∷ 2
    ∷ 2 ∷ 2 ∷ 2 ∷ 2 ∷ 0 ∷ 2 ∷ 2 ∷ 0 ∷ 0 ∷ 0 ∷ 2 ∷ 0 ∷ 2 ∷ 2 ∷ 0 ∷ 2 ∷ 2 ∷ 2 ∷ 2 ∷ 2 ∷ 0 ∷ 2 ∷ 2 ∷ 2 ∷ 2 ∷ 0
    ∷ 2 ∷ 2 ∷ 0 ∷ 2 ∷ 2 ∷ 0 ∷ 2 ∷ 2 ∷ 2 ∷ 2 ∷ 2 ∷ 2 ∷ 2 ∷ 0 ∷ 0 ∷ 2 ∷ 2 ∷ 2 ∷ 2 ∷ 2 ∷ 0 ∷ 2 ∷ 2 ∷ 0 ∷ 0 ∷ 0
    ∷ 2 ∷ 0 ∷ 2 ∷ 2 ∷ 0 ∷ 2 ∷ 2 ∷ 0 ∷ 2 ∷ 2 ∷ 0 ∷ 2 ∷ 2 ∷ 0 ∷ 2 ∷ 2 ∷ 0 ∷ 2 ∷ 0 ∷ 2 ∷ 2 ∷ 2 ∷ 2 ∷ 2 ∷ 2 ∷ 2
    ∷ 2 ∷ 2 ∷ 2 ∷ 2 ∷ 2 ∷ 2 ∷ 0 ∷ 2 ∷ 0 ∷ 2 ∷ 2 ∷ 2 ∷ 2 ∷ 2 ∷ 2 ∷ 2 ∷ 2 ∷ 2 ∷ 2 ∷ 2 ∷ 2 ∷ 2 ∷ 2 ∷ 2 ∷ 2 ∷ 2
    ∷ 2 ∷ 2 ∷ 2 ∷ 2 ∷ 2 ∷ 2 ∷ 2 ∷ 2 ∷ 2 ∷ 2 ∷ 2 ∷ 2 ∷ 2 ∷ 2 ∷ 2 ∷ 2 ∷ 2 ∷ 2 ∷ 2 ∷ 0 ∷ 0 ∷ 0 ∷ []

-- the steps: processor, site, the step's number there, and which unseen step it is
abbrev pub steps : List Brief
steps =
    (0, 306, 1, 15) ∷ (2, 306, 2, 15) ∷ (2, 130, 1, 0) ∷ (2, 0, 1, 0) ∷ (2, 96, 1, 0) ∷ (2, 130, 2, 0)
    ∷ (0, 128, 1, 0) ∷ (2, 0, 2, 1) ∷ (2, 306, 3, 16) ∷ (1, 306, 4, 15) ∷ (1, 130, 3, 0) ∷ (0, 305, 1, 0)
    ∷ (1, 0, 3, 0) ∷ (1, 96, 2, 0) ∷ (0, 96, 3, 0) ∷ (1, 130, 4, 0) ∷ (0, 128, 2, 0) ∷ (1, 0, 4, 1)
    ∷ (0, 306, 5, 16) ∷ (1, 306, 6, 16) ∷ (0, 306, 7, 15) ∷ (2, 306, 8, 15) ∷ (0, 128, 3, 0) ∷ (0, 96, 4, 0)
    ∷ (2, 130, 5, 0) ∷ (2, 0, 5, 0) ∷ (2, 96, 5, 0) ∷ (2, 96, 6, 0) ∷ (0, 3, 1, 0) ∷ (2, 130, 6, 0)
    ∷ (0, 96, 7, 0) ∷ (0, 128, 4, 0) ∷ (2, 0, 6, 1) ∷ (0, 96, 8, 1) ∷ (2, 96, 9, 1) ∷ (0, 3, 2, 1)
    ∷ (2, 0, 7, 2) ∷ (2, 1, 1, 2) ∷ (0, 128, 5, 0) ∷ (2, 2, 1, 2) ∷ (0, 129, 1, 0) ∷ (2, 3, 3, 2)
    ∷ (2, 4, 1, 2) ∷ (2, 5, 1, 2) ∷ (2, 6, 1, 2) ∷ (0, 130, 7, 0) ∷ (2, 7, 1, 2) ∷ (2, 8, 1, 2) ∷ (2, 9, 1, 2)
    ∷ (2, 10, 1, 2) ∷ (2, 11, 1, 2) ∷ (2, 12, 1, 2) ∷ (0, 131, 1, 0) ∷ (2, 13, 1, 2) ∷ (2, 14, 1, 2)
    ∷ (2, 15, 1, 2) ∷ (0, 132, 1, 0) ∷ (2, 16, 1, 2) ∷ (0, 133, 1, 0) ∷ (2, 17, 1, 2) ∷ (2, 18, 1, 2)
    ∷ (0, 134, 1, 0) ∷ (2, 19, 1, 2) ∷ (2, 20, 1, 2) ∷ (2, 21, 1, 2) ∷ (2, 22, 1, 2) ∷ (2, 23, 1, 2)
    ∷ (2, 24, 1, 2) ∷ (2, 25, 1, 2) ∷ (2, 26, 1, 2) ∷ (2, 27, 1, 2) ∷ (2, 28, 1, 2) ∷ (2, 29, 1, 2)
    ∷ (2, 30, 1, 2) ∷ (2, 31, 1, 2) ∷ (2, 32, 1, 2) ∷ (0, 135, 1, 0) ∷ (2, 33, 1, 2) ∷ (2, 34, 1, 2)
    ∷ (2, 35, 1, 2) ∷ (2, 36, 1, 2) ∷ (2, 37, 1, 2) ∷ (0, 136, 1, 0) ∷ (2, 38, 1, 2) ∷ (2, 39, 1, 2)
    ∷ (0, 137, 1, 0) ∷ (0, 138, 1, 0) ∷ (0, 139, 1, 0) ∷ (2, 40, 1, 2) ∷ (0, 140, 1, 0) ∷ (2, 41, 1, 2)
    ∷ (2, 42, 1, 2) ∷ (0, 141, 1, 0) ∷ (2, 43, 1, 2) ∷ (2, 44, 1, 2) ∷ (2, 45, 1, 2) ∷ (2, 46, 1, 2)
    ∷ (2, 47, 1, 2) ∷ (0, 142, 1, 0) ∷ (2, 48, 1, 2) ∷ (2, 49, 1, 2) ∷ (2, 50, 1, 2) ∷ (2, 51, 1, 2)
    ∷ (0, 143, 1, 0) ∷ (2, 52, 1, 2) ∷ (2, 53, 1, 2) ∷ (0, 144, 1, 0) ∷ (2, 54, 1, 2) ∷ (2, 55, 1, 2)
    ∷ (0, 145, 1, 0) ∷ (2, 56, 1, 2) ∷ (2, 57, 1, 2) ∷ (2, 58, 1, 2) ∷ (2, 59, 1, 2) ∷ (2, 60, 1, 2)
    ∷ (2, 61, 1, 2) ∷ (2, 62, 1, 2) ∷ (0, 146, 1, 0) ∷ (0, 147, 1, 0) ∷ (2, 63, 1, 2) ∷ (2, 64, 1, 2)
    ∷ (2, 65, 1, 2) ∷ (2, 66, 1, 2) ∷ (2, 67, 1, 2) ∷ (0, 148, 1, 0) ∷ (2, 68, 1, 2) ∷ (2, 69, 1, 2)
    ∷ (0, 149, 1, 0) ∷ (0, 150, 1, 0) ∷ (0, 151, 1, 0) ∷ (2, 70, 1, 2) ∷ (0, 152, 1, 0) ∷ (2, 71, 1, 2)
    ∷ (2, 72, 1, 2) ∷ (0, 153, 1, 0) ∷ (2, 73, 1, 2) ∷ (2, 74, 1, 2) ∷ (0, 154, 1, 0) ∷ (2, 75, 1, 2)
    ∷ (2, 76, 1, 2) ∷ (0, 155, 1, 0) ∷ (2, 77, 1, 2) ∷ (2, 78, 1, 2) ∷ (0, 156, 1, 0) ∷ (2, 79, 1, 2)
    ∷ (2, 80, 1, 2) ∷ (0, 157, 1, 0) ∷ (2, 81, 1, 2) ∷ (0, 158, 1, 0) ∷ (2, 82, 1, 2) ∷ (2, 83, 1, 2)
    ∷ (2, 84, 1, 2) ∷ (2, 85, 1, 2) ∷ (2, 86, 1, 2) ∷ (2, 87, 1, 2) ∷ (2, 88, 1, 2) ∷ (2, 89, 1, 2)
    ∷ (2, 90, 1, 2) ∷ (2, 91, 1, 2) ∷ (2, 92, 1, 2) ∷ (2, 93, 1, 2) ∷ (2, 94, 1, 2) ∷ (0, 159, 1, 0)
    ∷ (2, 95, 1, 2) ∷ (0, 306, 9, 17) ∷ (2, 96, 10, 2) ∷ (2, 97, 1, 2) ∷ (2, 98, 1, 2) ∷ (2, 99, 1, 2)
    ∷ (2, 100, 1, 2) ∷ (2, 101, 1, 2) ∷ (2, 102, 1, 2) ∷ (2, 103, 1, 2) ∷ (2, 104, 1, 2) ∷ (2, 105, 1, 2)
    ∷ (2, 106, 1, 2) ∷ (2, 107, 1, 2) ∷ (2, 108, 1, 2) ∷ (2, 109, 1, 2) ∷ (2, 110, 1, 2) ∷ (2, 111, 1, 2)
    ∷ (2, 112, 1, 2) ∷ (2, 113, 1, 2) ∷ (2, 114, 1, 2) ∷ (2, 115, 1, 2) ∷ (2, 116, 1, 2) ∷ (2, 117, 1, 2)
    ∷ (2, 118, 1, 2) ∷ (2, 119, 1, 2) ∷ (2, 120, 1, 2) ∷ (2, 121, 1, 2) ∷ (2, 122, 1, 2) ∷ (2, 123, 1, 2)
    ∷ (2, 124, 1, 2) ∷ (2, 125, 1, 2) ∷ (2, 126, 1, 2) ∷ (2, 127, 1, 2) ∷ (2, 264, 1, 12) ∷ (2, 96, 11, 3)
    ∷ (2, 305, 2, 0) ∷ (2, 306, 10, 16) ∷ (0, 306, 11, 15) ∷ (0, 130, 8, 18) ∷ (0, 306, 12, 17) ∷ []

pub makes : whole_fine_run image 3 processors ≡ record { steps = steps; events = events; is_lawful = true; is_complete = true; dump = without_priorities dump }
unfolding blank
makes = refl

-- before each step and after the last one the relation holds
pub is_related : related_steps image (record { cpus = 3; threads = 0 ∷ 1 ∷ 2 ∷ 28 ∷ []; rows = 0 ∷ 1 ∷ 2 ∷ 3 ∷ 4 ∷ 5 ∷ 96 ∷ []; domains = 0 ∷ [] }) processors choices ≡ 205
unfolding blank
is_related = refl
