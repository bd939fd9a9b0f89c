-- A doomed thread that waits is aborted: it is cut, and killed.
use Rattle.std.specs.Prelude.{◌≡◌, ℕ, true, false, List, [], ◌∷◌, Some, None, pos, codes, refl}
use Rattle.um_base.specs.declared.names.Kind.TheVariants as Kind
use Rattle.um_base.specs.declared.names.Mode.TheVariants as Mode
use Rattle.um_base.specs.declared.names.Mpu.TheVariants as Mpu
use Rattle.um_base.specs.declared.names.Policy.TheVariants as Policy
use Rattle.um_base.specs.declared.names.Reply.TheVariants as Reply
use Rattle.um_base.specs.declared.names.Term.TheVariants as Term
use Rattle.um_base.specs.declared.names.Timeout.TheVariants as Timeout
use Rattle.um_base.specs.declared.names.Want.TheVariants as Want
use Rattle.um_base.specs.declared.act.Act.TheVariants as Act
use Rattle.um_base.specs.declared.act.Answer.TheVariants as Answer
use Rattle.um_base.specs.declared.act.Cause.TheVariants as Cause
use Rattle.um_base.specs.declared.act.Leftover.TheVariants as Leftover
use Rattle.um_base.specs.declared.image.Setup.TheVariants as Setup
use Rattle.um_base.specs.declared.instr.Instr.TheVariants as Instr
use Rattle.um_base.specs.declared.act.Event.{Event}
use Rattle.um_base.specs.declared.image.Image.{Image}
use Rattle.um_base.specs.declared.image.Script.{Script}
use Rattle.um_worked_runs.specs.Fine.Left.{without_priorities}
use Rattle.um_worked_runs.specs.Fine.Brief.{Brief}
use Rattle.um_worked_runs.specs.Fine.Whole.{whole_fine_run}
use Rattle.um_worked_runs.specs.Fine.Related.{related_steps}
use Rattle.um_machine.specs.Run.{blank}
use Rattle.um_worked_runs.specs.Evaluate.{Choice, skips, begins, cuts, goes}
use Rattle.um_worked_runs.specs.Dump.{Dump, started, doomed, initialised, uninitialised, nothing, filled}
use Rattle.um_worked_runs.specs.Words.{at, thread, row, range, by, on, choose}
use Rattle.um_worked_runs.specs.Whole.{whole_run}

abbrev pub script_0 : Script
script_0 =
    record { name = codes "ca"; lines = Instr.Abort (Term.Num 0x40000080) ∷ [] }

abbrev pub script_1 : Script
script_1 =
    record { name = codes "cb"; lines = Instr.SemTake (Term.Num 0x40000180) Timeout.Forever ∷ [] }

abbrev pub script_2 : Script
script_2 =
    record { name = codes "cc"; lines = Instr.Oops ∷ [] }

abbrev pub image : Image
image =
    record {
      mpu = Mpu.V7;
      regions = 8;
      policy = Policy.Halt;
      rodata = None;
      rodata_bytes = [];
      pools = [];
      partitions = [];
      domains = record { name = codes "d"; parts = Some [] } ∷ [];
      objects = record { name = codes "a"; kind = Kind.Thread; addr = at 0x40000000; public = true; setup = Setup.Thread (thread 0) }
          ∷ record { name = codes "sa"; kind = Kind.ThreadStack; addr = at 0x20080000; public = false; setup = Setup.ThreadStack (range 0x20080000 64) 64 }
          ∷ record { name = codes "b"; kind = Kind.Thread; addr = at 0x40000080; public = true; setup = Setup.Thread (thread 1) }
          ∷ record { name = codes "sb"; kind = Kind.ThreadStack; addr = at 0x20080040; public = false; setup = Setup.ThreadStack (range 0x20080040 64) 64 }
          ∷ record { name = codes "c"; kind = Kind.Thread; addr = at 0x40000100; public = true; setup = Setup.Thread (thread 2) }
          ∷ record { name = codes "sc"; kind = Kind.ThreadStack; addr = at 0x20080080; public = false; setup = Setup.ThreadStack (range 0x20080080 64) 64 }
          ∷ record { name = codes "s"; kind = Kind.Sem; addr = at 0x40000180; public = true; setup = Setup.Sem 0 1 } ∷ [];
      boots = record { thread = row 0; stack = row 1; script = 0; mode = Mode.User; priority = pos 0; domain = 0; pool = None; grants = [] }
          ∷ record { thread = row 2; stack = row 3; script = 1; mode = Mode.User; priority = pos 0; domain = 0; pool = None; grants = [] }
          ∷ record { thread = row 4; stack = row 5; script = 2; mode = Mode.User; priority = pos 0; domain = 0; pool = None; grants = [] } ∷ [];
      scripts = script_0
          ∷ script_1
          ∷ script_2 ∷ [];
      futexes = [];
    }

-- which thread makes each step, and which one
abbrev pub choices : List Choice
choices =
    choose 1 0 begins ∷ on 1 ∷ choose 0 0 begins ∷ on 0 ∷ choose 2 0 begins ∷ on 1 ∷ on 2 ∷ on 2 ∷ on 2
    ∷ on 2 ∷ on 0 ∷ choose 0 6 (cuts 1) ∷ on 2 ∷ on 2 ∷ on 2 ∷ on 2 ∷ on 0 ∷ on 2 ∷ on 2 ∷ on 1 ∷ on 2 ∷ on 2
    ∷ on 2 ∷ choose 1 2 goes ∷ on 2 ∷ on 2 ∷ on 2 ∷ on 2 ∷ on 2 ∷ on 2 ∷ on 2 ∷ on 2 ∷ on 2 ∷ on 2 ∷ on 2
    ∷ on 2 ∷ on 2 ∷ on 2 ∷ on 2 ∷ on 2 ∷ on 2 ∷ on 2 ∷ on 2 ∷ on 2 ∷ choose 1 0 skips ∷ on 1 ∷ []

-- what the trace shows
abbrev pub events : List Event
events =
    by 1 (Act.Begin 1 1)
    ∷ by 1 (Act.Check (at 0x40000180) (Some Kind.Sem) Want.Init None)
    ∷ by 0 (Act.Begin 0 1)
    ∷ by 0 (Act.Check (at 0x40000080) (Some Kind.Thread) Want.Init None)
    ∷ by 2 (Act.Begin 2 1)
    ∷ by 1 (Act.Work (at 0x40000180) Answer.Wait [])
    ∷ by 2 (Act.Fatal 3 Cause.KOops)
    ∷ by 2 (Act.Doom (thread 0))
    ∷ by 2 (Act.Doom (thread 1))
    ∷ by 2 (Act.Doom (thread 2))
    ∷ by 0 (Act.Abort (thread 1) true)
    ∷ by 0 (Act.Cut (thread 1))
    ∷ by 2 (Act.Doom (thread 3))
    ∷ by 2 (Act.Doom (thread 4))
    ∷ by 2 (Act.Doom (thread 5))
    ∷ by 2 (Act.Doom (thread 6))
    ∷ by 0 (Act.Answered Reply.Void)
    ∷ by 2 (Act.Doom (thread 7))
    ∷ by 2 (Act.Doom (thread 8))
    ∷ by 1 Act.Killed
    ∷ by 2 (Act.Doom (thread 9))
    ∷ by 2 (Act.Doom (thread 10))
    ∷ by 2 (Act.Doom (thread 11))
    ∷ by 1 (Act.DropPair (thread 1) (at 0x40000080) Leftover.Kept)
    ∷ by 2 (Act.Doom (thread 12))
    ∷ by 2 (Act.Doom (thread 13))
    ∷ by 2 (Act.Doom (thread 14))
    ∷ by 2 (Act.Doom (thread 15))
    ∷ by 2 (Act.Doom (thread 16))
    ∷ by 2 (Act.Doom (thread 17))
    ∷ by 2 (Act.Doom (thread 18))
    ∷ by 2 (Act.Doom (thread 19))
    ∷ by 2 (Act.Doom (thread 20))
    ∷ by 2 (Act.Doom (thread 21))
    ∷ by 2 (Act.Doom (thread 22))
    ∷ by 2 (Act.Doom (thread 23))
    ∷ by 2 (Act.Doom (thread 24))
    ∷ by 2 (Act.Doom (thread 25))
    ∷ by 2 (Act.Doom (thread 26))
    ∷ by 2 (Act.Doom (thread 27))
    ∷ by 2 (Act.Doom (thread 28))
    ∷ by 2 (Act.Doom (thread 29))
    ∷ by 2 (Act.Doom (thread 30))
    ∷ by 2 (Act.Doom (thread 31))
    ∷ by 1 (Act.ClearInit (at 0x20080040))
    ∷ by 1 (Act.ClearInit (at 0x40000080)) ∷ []

abbrev pub dump : Dump
dump =
    record {
      threads = started 0 doomed Mode.User (pos 0) 0
          ∷ started 1 doomed Mode.User (pos 0) 0
          ∷ started 2 doomed Mode.User (pos 0) 0 ∷ [];
      objects = record { row = 0; kind = Some Kind.Thread; stage = initialised; public = true; holders = 0 ∷ []; content = nothing }
          ∷ record { row = 1; kind = Some Kind.ThreadStack; stage = initialised; public = false; holders = []; content = nothing }
          ∷ record { row = 2; kind = Some Kind.Thread; stage = uninitialised; public = true; holders = []; content = nothing }
          ∷ record { row = 3; kind = Some Kind.ThreadStack; stage = uninitialised; public = false; holders = []; content = nothing }
          ∷ record { row = 4; kind = Some Kind.Thread; stage = initialised; public = true; holders = 2 ∷ []; content = nothing }
          ∷ record { row = 5; kind = Some Kind.ThreadStack; stage = initialised; public = false; holders = []; content = nothing }
          ∷ record { row = 6; kind = Some Kind.Sem; stage = initialised; public = true; holders = []; content = filled 0 1 } ∷ [];
      domains = Some [] ∷ [];
      pools = [];
      memory = [];
    }

pub runs : whole_run image choices ≡ record { events = events; is_lawful = true; is_complete = true; dump = dump }
unfolding blank
runs = refl

-- which processor makes each step
abbrev pub processors : List ℕ
processors =
    1 ∷ 2 ∷ 0 ∷ 2 ∷ 2 ∷ 1 ∷ 1 ∷ 0 ∷ 2 ∷ 2 ∷ 0 ∷ 0 ∷ 0 ∷ 2 ∷ 2 ∷ 0 ∷ 1 ∷ 1 ∷ 0 ∷ 0 ∷ 0 ∷ 0 ∷ 1 ∷ 1 ∷ 2 ∷ 0
    ∷ 1 ∷ 0 ∷ 2 ∷ 1 ∷ 2 ∷ 1 ∷ 1 ∷ 0 ∷ 1 ∷ 0 ∷ 0 ∷ 2 ∷ 2 ∷ 2 ∷ 0 ∷ 0 ∷ 2 ∷ 0 ∷ 0 ∷ 0 ∷ 2 ∷ 2 ∷ 2 ∷ 2 ∷ 0 ∷ 0
    ∷ 0 ∷ 2 ∷ 0 ∷ 2 ∷ 2 ∷ 2 ∷ 0 ∷ 2 ∷ 0 ∷ 2 ∷ 0 ∷ 0 ∷ 0 ∷ 2 ∷ 2 ∷ 2 ∷ 2 ∷ 2 ∷ 0 ∷ 2 ∷ 2 ∷ 2 ∷ 0 ∷ 2 ∷ 0 ∷ 2
    ∷ 2 ∷ 0 ∷ 2 ∷ 2 ∷ 0 ∷ 0 ∷ 2 ∷ 0 ∷ 2 ∷ 2 ∷ 2 ∷ 2 ∷ 2 ∷ 2 ∷ 2 ∷ 2 ∷ 2 ∷ 2 ∷ 2 ∷ 2 ∷ 2 ∷ 2 ∷ 2 ∷ 2 ∷ 2 ∷ 2
    ∷ 2 ∷ 2 ∷ 2 ∷ 2 ∷ 2 ∷ 2 ∷ 2 ∷ 2 ∷ 2 ∷ 2 ∷ 2 ∷ 2 ∷ 2 ∷ 2 ∷ 2 ∷ 2 ∷ 2 ∷ 2 ∷ 2 ∷ 2 ∷ 2 ∷ 2 ∷ 2 ∷ 2 ∷ 2 ∷ 2
    ∷ 2 ∷ 2 ∷ 2 ∷ 2 ∷ 2 ∷ 2 ∷ 2 ∷ 2 ∷ 2 ∷ 2 ∷ 2 ∷ 2 ∷ 2 ∷ 2 ∷ 2 ∷ 2 ∷ 2 ∷ 2 ∷ 2 ∷ 2 ∷ 2 ∷ 2 ∷ 2 ∷ 2 ∷ 2 ∷ 2
    ∷ 2 ∷ 2 ∷ 2 ∷ 2 ∷ 2 ∷ 2 ∷ 2 ∷ 2 ∷ 2 ∷ 2 ∷ 2 ∷ 2 ∷ 2 ∷ 2 ∷ 2 ∷ 2 ∷ 2 ∷ 2 ∷ 2 ∷ 2 ∷ 2 ∷ 2 ∷ 2 ∷ 2 ∷ 2 ∷ 2
    ∷ 2 ∷ 2 ∷ 2 ∷ 2 ∷ 2 ∷ 2 ∷ 2 ∷ 2 ∷ 2 ∷ []

-- the steps: processor, site, the step's number there, and which unseen step it is
abbrev pub steps : List Brief
steps =
    (1, 306, 1, 15) ∷ (2, 306, 2, 15) ∷ (0, 306, 3, 15) ∷ (2, 129, 1, 0) ∷ (2, 6, 1, 0) ∷ (1, 128, 1, 0)
    ∷ (1, 2, 1, 0) ∷ (0, 130, 1, 0) ∷ (2, 129, 2, 24) ∷ (2, 174, 1, 0) ∷ (0, 130, 2, 0) ∷ (0, 128, 2, 0)
    ∷ (0, 129, 3, 0) ∷ (2, 129, 4, 18) ∷ (2, 306, 4, 16) ∷ (0, 130, 3, 0) ∷ (1, 129, 5, 0) ∷ (1, 174, 2, 0)
    ∷ (0, 131, 1, 0) ∷ (0, 132, 1, 0) ∷ (0, 133, 1, 0) ∷ (0, 134, 1, 0) ∷ (1, 306, 5, 29) ∷ (1, 128, 3, 0)
    ∷ (2, 306, 6, 15) ∷ (0, 135, 1, 0) ∷ (1, 2, 2, 1) ∷ (0, 136, 1, 0) ∷ (2, 129, 6, 0) ∷ (1, 306, 7, 16)
    ∷ (2, 6, 2, 1) ∷ (1, 306, 8, 15) ∷ (1, 128, 4, 18) ∷ (0, 137, 1, 0) ∷ (1, 306, 9, 17) ∷ (0, 138, 1, 0)
    ∷ (0, 139, 1, 0) ∷ (2, 0, 1, 2) ∷ (2, 1, 1, 2) ∷ (2, 2, 3, 0) ∷ (0, 140, 1, 0) ∷ (0, 141, 1, 0)
    ∷ (2, 3, 1, 2) ∷ (0, 142, 1, 0) ∷ (0, 143, 1, 0) ∷ (0, 144, 1, 0) ∷ (2, 4, 1, 2) ∷ (2, 5, 1, 2)
    ∷ (2, 6, 3, 2) ∷ (2, 7, 1, 2) ∷ (0, 145, 1, 0) ∷ (0, 146, 1, 0) ∷ (0, 147, 1, 0) ∷ (2, 8, 1, 2)
    ∷ (0, 148, 1, 0) ∷ (2, 9, 1, 2) ∷ (2, 10, 1, 2) ∷ (2, 11, 1, 2) ∷ (0, 149, 1, 0) ∷ (2, 12, 1, 2)
    ∷ (0, 150, 1, 0) ∷ (2, 13, 1, 2) ∷ (0, 151, 1, 0) ∷ (0, 152, 1, 0) ∷ (0, 153, 1, 0) ∷ (2, 14, 1, 2)
    ∷ (2, 15, 1, 2) ∷ (2, 16, 1, 2) ∷ (2, 17, 1, 2) ∷ (2, 18, 1, 2) ∷ (0, 154, 1, 0) ∷ (2, 19, 1, 2)
    ∷ (2, 20, 1, 2) ∷ (2, 21, 1, 2) ∷ (0, 155, 1, 0) ∷ (2, 22, 1, 2) ∷ (0, 156, 1, 0) ∷ (2, 23, 1, 2)
    ∷ (2, 24, 1, 2) ∷ (0, 157, 1, 0) ∷ (2, 25, 1, 2) ∷ (2, 26, 1, 2) ∷ (0, 158, 1, 0) ∷ (0, 159, 1, 0)
    ∷ (2, 27, 1, 2) ∷ (0, 306, 10, 17) ∷ (2, 28, 1, 2) ∷ (2, 29, 1, 2) ∷ (2, 30, 1, 2) ∷ (2, 31, 1, 2)
    ∷ (2, 32, 1, 2) ∷ (2, 33, 1, 2) ∷ (2, 34, 1, 2) ∷ (2, 35, 1, 2) ∷ (2, 36, 1, 2) ∷ (2, 37, 1, 2)
    ∷ (2, 38, 1, 2) ∷ (2, 39, 1, 2) ∷ (2, 40, 1, 2) ∷ (2, 41, 1, 2) ∷ (2, 42, 1, 2) ∷ (2, 43, 1, 2)
    ∷ (2, 44, 1, 2) ∷ (2, 45, 1, 2) ∷ (2, 46, 1, 2) ∷ (2, 47, 1, 2) ∷ (2, 48, 1, 2) ∷ (2, 49, 1, 2)
    ∷ (2, 50, 1, 2) ∷ (2, 51, 1, 2) ∷ (2, 52, 1, 2) ∷ (2, 53, 1, 2) ∷ (2, 54, 1, 2) ∷ (2, 55, 1, 2)
    ∷ (2, 56, 1, 2) ∷ (2, 57, 1, 2) ∷ (2, 58, 1, 2) ∷ (2, 59, 1, 2) ∷ (2, 60, 1, 2) ∷ (2, 61, 1, 2)
    ∷ (2, 62, 1, 2) ∷ (2, 63, 1, 2) ∷ (2, 64, 1, 2) ∷ (2, 65, 1, 2) ∷ (2, 66, 1, 2) ∷ (2, 67, 1, 2)
    ∷ (2, 68, 1, 2) ∷ (2, 69, 1, 2) ∷ (2, 70, 1, 2) ∷ (2, 71, 1, 2) ∷ (2, 72, 1, 2) ∷ (2, 73, 1, 2)
    ∷ (2, 74, 1, 2) ∷ (2, 75, 1, 2) ∷ (2, 76, 1, 2) ∷ (2, 77, 1, 2) ∷ (2, 78, 1, 2) ∷ (2, 79, 1, 2)
    ∷ (2, 80, 1, 2) ∷ (2, 81, 1, 2) ∷ (2, 82, 1, 2) ∷ (2, 83, 1, 2) ∷ (2, 84, 1, 2) ∷ (2, 85, 1, 2)
    ∷ (2, 86, 1, 2) ∷ (2, 87, 1, 2) ∷ (2, 88, 1, 2) ∷ (2, 89, 1, 2) ∷ (2, 90, 1, 2) ∷ (2, 91, 1, 2)
    ∷ (2, 92, 1, 2) ∷ (2, 93, 1, 2) ∷ (2, 94, 1, 2) ∷ (2, 95, 1, 2) ∷ (2, 96, 1, 2) ∷ (2, 97, 1, 2)
    ∷ (2, 98, 1, 2) ∷ (2, 99, 1, 2) ∷ (2, 100, 1, 2) ∷ (2, 101, 1, 2) ∷ (2, 102, 1, 2) ∷ (2, 103, 1, 2)
    ∷ (2, 104, 1, 2) ∷ (2, 105, 1, 2) ∷ (2, 106, 1, 2) ∷ (2, 107, 1, 2) ∷ (2, 108, 1, 2) ∷ (2, 109, 1, 2)
    ∷ (2, 110, 1, 2) ∷ (2, 111, 1, 2) ∷ (2, 112, 1, 2) ∷ (2, 113, 1, 2) ∷ (2, 114, 1, 2) ∷ (2, 115, 1, 2)
    ∷ (2, 116, 1, 2) ∷ (2, 117, 1, 2) ∷ (2, 118, 1, 2) ∷ (2, 119, 1, 2) ∷ (2, 120, 1, 2) ∷ (2, 121, 1, 2)
    ∷ (2, 122, 1, 2) ∷ (2, 123, 1, 2) ∷ (2, 124, 1, 2) ∷ (2, 125, 1, 2) ∷ (2, 126, 1, 2) ∷ (2, 127, 1, 2)
    ∷ (2, 3, 2, 0) ∷ (2, 308, 1, 27) ∷ (2, 2, 4, 0) ∷ (2, 2, 5, 1) ∷ (2, 306, 11, 17) ∷ []

pub makes : whole_fine_run image 3 processors ≡ record { steps = steps; events = events; is_lawful = true; is_complete = true; dump = without_priorities dump }
unfolding blank
makes = refl

-- before each step and after the last one the relation holds
pub is_related : related_steps image (record { cpus = 3; threads = 0 ∷ 1 ∷ 2 ∷ []; rows = 0 ∷ 1 ∷ 2 ∷ 3 ∷ 4 ∷ 5 ∷ 6 ∷ []; domains = 0 ∷ [] }) processors choices ≡ 192
unfolding blank
is_related = refl
