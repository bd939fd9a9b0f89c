-- A suspended thread is woken where it waits on a futex; it sleeps at its next line until it is resumed.
use Rattle.std.specs.Prelude.{◌≡◌, ℕ, true, false, List, [], ◌∷◌, Some, None, pos, codes, refl}
use Rattle.um_base.specs.declared.names.Kind.TheVariants as Kind
use Rattle.um_base.specs.declared.names.Mode.TheVariants as Mode
use Rattle.um_base.specs.declared.names.Mpu.TheVariants as Mpu
use Rattle.um_base.specs.declared.names.Policy.TheVariants as Policy
use Rattle.um_base.specs.declared.names.Reply.TheVariants as Reply
use Rattle.um_base.specs.declared.names.Term.TheVariants as Term
use Rattle.um_base.specs.declared.names.Timeout.TheVariants as Timeout
use Rattle.um_base.specs.declared.names.Want.TheVariants as Want
use Rattle.um_base.specs.declared.act.Act.TheVariants as Act
use Rattle.um_base.specs.declared.act.Answer.TheVariants as Answer
use Rattle.um_base.specs.declared.act.Leftover.TheVariants as Leftover
use Rattle.um_base.specs.declared.image.Setup.TheVariants as Setup
use Rattle.um_base.specs.declared.instr.Instr.TheVariants as Instr
use Rattle.um_base.specs.declared.act.Event.{Event}
use Rattle.um_base.specs.declared.image.Image.{Image}
use Rattle.um_base.specs.declared.image.Script.{Script}
use Rattle.um_worked_runs.specs.Fine.Left.{without_priorities}
use Rattle.um_worked_runs.specs.Fine.Brief.{Brief}
use Rattle.um_worked_runs.specs.Fine.Whole.{whole_fine_run}
use Rattle.um_worked_runs.specs.Fine.Related.{related_steps}
use Rattle.um_machine.specs.Run.{blank}
use Rattle.um_worked_runs.specs.Evaluate.{Choice, skips, begins, exits, goes}
use Rattle.um_worked_runs.specs.Dump.{Dump, started, ended, uninitialised, nothing}
use Rattle.um_worked_runs.specs.Words.{at, thread, row, range, rights, by, on, choose}
use Rattle.um_worked_runs.specs.Whole.{whole_run}

abbrev pub script_0 : Script
script_0 =
    record {
      name = codes "cb";
      lines = Instr.FutexWait (Term.Num 0x20000000) (Term.Num 0) Timeout.Forever
          ∷ Instr.Set 0 (Term.Num 1) ∷ [];
    }

abbrev pub script_1 : Script
script_1 =
    record {
      name = codes "ca";
      lines = Instr.Suspend (Term.Num 0x40000000)
          ∷ Instr.FutexWake (Term.Num 0x20000000) false
          ∷ Instr.Set 0 (Term.Num 1)
          ∷ Instr.Continue (Term.Num 0x40000000) ∷ [];
    }

abbrev pub image : Image
image =
    record {
      mpu = Mpu.V7;
      regions = 8;
      policy = Policy.Abort;
      rodata = None;
      rodata_bytes = [];
      pools = [];
      partitions = record { name = codes "p"; range = range 0x20000000 32; attr = rights 27; bytes = [] } ∷ [];
      domains = record { name = codes "d"; parts = Some (0 ∷ []) } ∷ [];
      objects = record { name = codes "b"; kind = Kind.Thread; addr = at 0x40000000; public = true; setup = Setup.Thread (thread 0) }
          ∷ record { name = codes "sb"; kind = Kind.ThreadStack; addr = at 0x20080000; public = false; setup = Setup.ThreadStack (range 0x20080000 64) 64 }
          ∷ record { name = codes "a"; kind = Kind.Thread; addr = at 0x40000080; public = true; setup = Setup.Thread (thread 1) }
          ∷ record { name = codes "sa"; kind = Kind.ThreadStack; addr = at 0x20080040; public = false; setup = Setup.ThreadStack (range 0x20080040 64) 64 } ∷ [];
      boots = record { thread = row 0; stack = row 1; script = 0; mode = Mode.User; priority = pos 0; domain = 0; pool = None; grants = [] }
          ∷ record { thread = row 2; stack = row 3; script = 1; mode = Mode.User; priority = pos 0; domain = 0; pool = None; grants = [] } ∷ [];
      scripts = script_0
          ∷ script_1 ∷ [];
      futexes = record { name = codes "f"; partition = 0; offset = 0 } ∷ [];
    }

-- which thread makes each step, and which one
abbrev pub choices : List Choice
choices =
    choose 0 0 begins ∷ choose 1 0 begins ∷ on 1 ∷ on 1 ∷ on 1 ∷ on 0 ∷ choose 1 0 begins ∷ on 1 ∷ on 0
    ∷ on 0 ∷ on 1 ∷ choose 1 0 begins ∷ choose 1 0 begins ∷ on 1 ∷ on 1 ∷ on 1 ∷ choose 0 0 begins
    ∷ choose 0 0 exits ∷ on 0 ∷ choose 1 0 exits ∷ choose 1 2 goes ∷ choose 0 0 skips ∷ choose 1 0 skips
    ∷ on 1 ∷ on 0 ∷ []

-- what the trace shows
abbrev pub events : List Event
events =
    by 0 (Act.Begin 0 1)
    ∷ by 1 (Act.Begin 1 1)
    ∷ by 1 (Act.Check (at 0x40000000) (Some Kind.Thread) Want.Init None)
    ∷ by 1 (Act.Suspend (thread 0) true)
    ∷ by 1 (Act.Answered Reply.Void)
    ∷ by 0 (Act.FutexWait (at 0x20000000) 0x0 Answer.Wait)
    ∷ by 1 (Act.Begin 1 2)
    ∷ by 1 (Act.FutexWake (at 0x20000000) (Answer.Now (Reply.Num 1)) ((thread 0, Reply.Num 0) ∷ []))
    ∷ by 0 Act.Resume
    ∷ by 0 (Act.Answered (Reply.Num 0))
    ∷ by 1 (Act.Answered (Reply.Num 1))
    ∷ by 1 (Act.Begin 1 3)
    ∷ by 1 (Act.Begin 1 4)
    ∷ by 1 (Act.Check (at 0x40000000) (Some Kind.Thread) Want.Init None)
    ∷ by 1 (Act.Continue (thread 0) true)
    ∷ by 1 (Act.Answered Reply.Void)
    ∷ by 0 (Act.Begin 0 2)
    ∷ by 0 Act.Exit
    ∷ by 0 (Act.DropPair (thread 0) (at 0x40000000) Leftover.Kept)
    ∷ by 1 Act.Exit
    ∷ by 1 (Act.DropPair (thread 1) (at 0x40000080) Leftover.Kept)
    ∷ by 0 (Act.ClearInit (at 0x20080000))
    ∷ by 1 (Act.ClearInit (at 0x20080040))
    ∷ by 1 (Act.ClearInit (at 0x40000080))
    ∷ by 0 (Act.ClearInit (at 0x40000000)) ∷ []

abbrev pub dump : Dump
dump =
    record {
      threads = started 0 ended Mode.User (pos 0) 0
          ∷ started 1 ended Mode.User (pos 0) 0 ∷ [];
      objects = record { row = 0; kind = Some Kind.Thread; stage = uninitialised; public = true; holders = []; content = nothing }
          ∷ record { row = 1; kind = Some Kind.ThreadStack; stage = uninitialised; public = false; holders = []; content = nothing }
          ∷ record { row = 2; kind = Some Kind.Thread; stage = uninitialised; public = true; holders = []; content = nothing }
          ∷ record { row = 3; kind = Some Kind.ThreadStack; stage = uninitialised; public = false; holders = []; content = nothing } ∷ [];
      domains = Some ((range 0x20000000 32, rights 27) ∷ []) ∷ [];
      pools = [];
      memory = [];
    }

pub runs : whole_run image choices ≡ record { events = events; is_lawful = true; is_complete = true; dump = dump }
unfolding blank
runs = refl

-- which processor makes each step
abbrev pub processors : List ℕ
processors =
    1 ∷ 1 ∷ 0 ∷ 0 ∷ 0 ∷ 1 ∷ 0 ∷ 1 ∷ 1 ∷ 1 ∷ 0 ∷ 1 ∷ 0 ∷ 1 ∷ 0 ∷ 1 ∷ 1 ∷ 1 ∷ 0 ∷ 0 ∷ 0 ∷ 0 ∷ 0 ∷ 0 ∷ 0 ∷ 0
    ∷ 1 ∷ 1 ∷ 0 ∷ 1 ∷ 1 ∷ 0 ∷ 0 ∷ 1 ∷ 1 ∷ 0 ∷ 1 ∷ 0 ∷ 0 ∷ 0 ∷ 0 ∷ 1 ∷ 0 ∷ 0 ∷ 0 ∷ 0 ∷ 1 ∷ 0 ∷ 1 ∷ 0 ∷ 1 ∷ 1
    ∷ 1 ∷ 0 ∷ 0 ∷ 1 ∷ 1 ∷ 0 ∷ 0 ∷ 1 ∷ 1 ∷ 1 ∷ 1 ∷ 1 ∷ 0 ∷ 1 ∷ 1 ∷ 1 ∷ 1 ∷ 1 ∷ 1 ∷ 1 ∷ 0 ∷ 0 ∷ 0 ∷ 1 ∷ 0 ∷ 1
    ∷ 1 ∷ 1 ∷ 0 ∷ 0 ∷ 0 ∷ 0 ∷ 1 ∷ 0 ∷ 1 ∷ 1 ∷ 1 ∷ 0 ∷ 1 ∷ 1 ∷ 1 ∷ 1 ∷ 1 ∷ 0 ∷ 1 ∷ 1 ∷ 1 ∷ 0 ∷ 0 ∷ 1 ∷ 1 ∷ 0
    ∷ 0 ∷ 1 ∷ 1 ∷ 1 ∷ 1 ∷ 0 ∷ 1 ∷ 0 ∷ 1 ∷ 1 ∷ 1 ∷ 1 ∷ 1 ∷ 0 ∷ 1 ∷ 1 ∷ 0 ∷ 0 ∷ 1 ∷ 1 ∷ 0 ∷ 1 ∷ 0 ∷ 0 ∷ 0 ∷ 0
    ∷ 0 ∷ 0 ∷ 1 ∷ 0 ∷ 1 ∷ 0 ∷ 1 ∷ 1 ∷ 0 ∷ 1 ∷ 0 ∷ 0 ∷ 1 ∷ 1 ∷ 0 ∷ 1 ∷ 1 ∷ 1 ∷ 0 ∷ 0 ∷ 1 ∷ 0 ∷ 0 ∷ 0 ∷ 1 ∷ 0
    ∷ 0 ∷ 0 ∷ 0 ∷ 1 ∷ 1 ∷ 1 ∷ 0 ∷ 0 ∷ 1 ∷ 1 ∷ 0 ∷ 1 ∷ 0 ∷ 1 ∷ 0 ∷ 1 ∷ 0 ∷ 0 ∷ 0 ∷ 0 ∷ 1 ∷ 1 ∷ 0 ∷ 1 ∷ 1 ∷ 1
    ∷ 1 ∷ 0 ∷ 0 ∷ 0 ∷ 1 ∷ 0 ∷ 0 ∷ 0 ∷ 0 ∷ 0 ∷ 1 ∷ 0 ∷ 1 ∷ 0 ∷ 1 ∷ 1 ∷ 0 ∷ 1 ∷ 1 ∷ 1 ∷ 0 ∷ 0 ∷ 0 ∷ 0 ∷ 0 ∷ 1
    ∷ 0 ∷ 1 ∷ 1 ∷ 1 ∷ 0 ∷ 0 ∷ 1 ∷ 1 ∷ 0 ∷ 0 ∷ 1 ∷ 1 ∷ 1 ∷ 1 ∷ 1 ∷ 0 ∷ 0 ∷ 0 ∷ 1 ∷ 0 ∷ 0 ∷ 0 ∷ 0 ∷ 0 ∷ 0 ∷ 0
    ∷ 1 ∷ 1 ∷ 0 ∷ 1 ∷ 1 ∷ 1 ∷ 1 ∷ 0 ∷ 1 ∷ 0 ∷ 0 ∷ 0 ∷ 1 ∷ 0 ∷ 0 ∷ 0 ∷ 1 ∷ 1 ∷ 1 ∷ 0 ∷ 0 ∷ 0 ∷ 0 ∷ 0 ∷ 1 ∷ 0
    ∷ 1 ∷ 1 ∷ 0 ∷ 0 ∷ 0 ∷ 1 ∷ 1 ∷ 0 ∷ 1 ∷ 1 ∷ 1 ∷ 0 ∷ 0 ∷ 0 ∷ 0 ∷ 1 ∷ 0 ∷ 1 ∷ 1 ∷ 0 ∷ 1 ∷ 0 ∷ 0 ∷ 1 ∷ 0 ∷ 0
    ∷ 1 ∷ 0 ∷ 1 ∷ 0 ∷ 1 ∷ 0 ∷ 0 ∷ 0 ∷ 1 ∷ 0 ∷ 0 ∷ 0 ∷ 1 ∷ 1 ∷ 0 ∷ 1 ∷ 1 ∷ 0 ∷ 1 ∷ 0 ∷ 1 ∷ 0 ∷ 1 ∷ 0 ∷ 0 ∷ 1
    ∷ 0 ∷ 1 ∷ 0 ∷ 0 ∷ 0 ∷ 1 ∷ 0 ∷ 1 ∷ 0 ∷ 1 ∷ []

-- the steps: processor, site, the step's number there, and which unseen step it is
abbrev pub steps : List Brief
steps =
    (1, 306, 1, 15) ∷ (1, 128, 1, 0) ∷ (0, 306, 2, 15) ∷ (0, 129, 1, 0) ∷ (0, 0, 1, 0) ∷ (1, 128, 2, 24)
    ∷ (0, 128, 3, 0) ∷ (1, 128, 4, 4) ∷ (1, 160, 1, 6) ∷ (1, 296, 1, 9) ∷ (0, 129, 2, 0) ∷ (1, 304, 1, 0)
    ∷ (0, 0, 2, 1) ∷ (1, 160, 2, 7) ∷ (0, 306, 3, 16) ∷ (1, 128, 5, 5) ∷ (1, 128, 6, 18) ∷ (1, 306, 4, 16)
    ∷ (0, 306, 5, 15) ∷ (0, 129, 3, 0) ∷ (0, 129, 4, 4) ∷ (0, 160, 3, 6) ∷ (0, 296, 2, 9) ∷ (0, 304, 2, 0)
    ∷ (0, 306, 6, 14) ∷ (0, 160, 4, 7) ∷ (1, 306, 7, 0) ∷ (1, 128, 7, 0) ∷ (0, 129, 5, 5) ∷ (1, 306, 8, 16)
    ∷ (1, 306, 9, 15) ∷ (0, 129, 6, 0) ∷ (0, 306, 10, 16) ∷ (1, 128, 8, 18) ∷ (1, 308, 1, 25)
    ∷ (0, 306, 11, 15) ∷ (1, 128, 9, 18) ∷ (0, 129, 7, 0) ∷ (0, 306, 12, 16) ∷ (0, 306, 13, 15)
    ∷ (0, 129, 8, 0) ∷ (1, 306, 14, 17) ∷ (0, 0, 3, 0) ∷ (0, 128, 10, 0) ∷ (0, 308, 2, 26) ∷ (0, 306, 15, 13)
    ∷ (1, 306, 16, 15) ∷ (0, 129, 9, 0) ∷ (1, 128, 11, 0) ∷ (0, 0, 4, 1) ∷ (1, 306, 17, 16) ∷ (1, 306, 18, 15)
    ∷ (1, 128, 12, 0) ∷ (0, 306, 19, 16) ∷ (0, 306, 20, 15) ∷ (1, 0, 5, 0) ∷ (1, 1, 1, 2) ∷ (0, 129, 10, 0)
    ∷ (0, 0, 6, 2) ∷ (1, 2, 1, 2) ∷ (1, 3, 1, 2) ∷ (1, 4, 1, 2) ∷ (1, 5, 1, 2) ∷ (1, 6, 1, 2) ∷ (0, 1, 2, 2)
    ∷ (1, 7, 1, 2) ∷ (1, 8, 1, 2) ∷ (1, 9, 1, 2) ∷ (1, 10, 1, 2) ∷ (1, 11, 1, 2) ∷ (1, 12, 1, 2)
    ∷ (1, 13, 1, 2) ∷ (0, 2, 2, 0) ∷ (0, 3, 2, 2) ∷ (0, 4, 2, 2) ∷ (1, 14, 1, 2) ∷ (0, 5, 2, 2)
    ∷ (1, 15, 1, 2) ∷ (1, 16, 1, 2) ∷ (1, 17, 1, 2) ∷ (0, 6, 2, 2) ∷ (0, 7, 2, 2) ∷ (0, 8, 2, 2)
    ∷ (0, 9, 2, 2) ∷ (1, 18, 1, 2) ∷ (0, 10, 2, 2) ∷ (1, 19, 1, 2) ∷ (1, 20, 1, 2) ∷ (1, 21, 1, 2)
    ∷ (0, 11, 2, 2) ∷ (1, 22, 1, 2) ∷ (1, 23, 1, 2) ∷ (1, 24, 1, 2) ∷ (1, 25, 1, 2) ∷ (1, 26, 1, 2)
    ∷ (0, 12, 2, 2) ∷ (1, 27, 1, 2) ∷ (1, 28, 1, 2) ∷ (1, 29, 1, 2) ∷ (0, 13, 2, 2) ∷ (0, 14, 2, 2)
    ∷ (1, 30, 1, 2) ∷ (1, 31, 1, 2) ∷ (0, 15, 2, 2) ∷ (0, 16, 2, 2) ∷ (1, 32, 1, 2) ∷ (1, 33, 1, 2)
    ∷ (1, 34, 1, 2) ∷ (1, 35, 1, 2) ∷ (0, 17, 2, 2) ∷ (1, 36, 1, 2) ∷ (0, 18, 2, 2) ∷ (1, 37, 1, 2)
    ∷ (1, 38, 1, 2) ∷ (1, 39, 1, 2) ∷ (1, 40, 1, 2) ∷ (1, 41, 1, 2) ∷ (0, 19, 2, 2) ∷ (1, 42, 1, 2)
    ∷ (1, 43, 1, 2) ∷ (0, 20, 2, 2) ∷ (0, 21, 2, 2) ∷ (1, 44, 1, 2) ∷ (1, 45, 1, 2) ∷ (0, 22, 2, 2)
    ∷ (1, 46, 1, 2) ∷ (0, 23, 2, 2) ∷ (0, 24, 2, 2) ∷ (0, 25, 2, 2) ∷ (0, 26, 2, 2) ∷ (0, 27, 2, 2)
    ∷ (0, 28, 2, 2) ∷ (1, 47, 1, 2) ∷ (0, 29, 2, 2) ∷ (1, 48, 1, 2) ∷ (0, 30, 2, 2) ∷ (1, 49, 1, 2)
    ∷ (1, 50, 1, 2) ∷ (0, 31, 2, 2) ∷ (1, 51, 1, 2) ∷ (0, 32, 2, 2) ∷ (0, 33, 2, 2) ∷ (1, 52, 1, 2)
    ∷ (1, 53, 1, 2) ∷ (0, 34, 2, 2) ∷ (1, 54, 1, 2) ∷ (1, 55, 1, 2) ∷ (1, 56, 1, 2) ∷ (0, 35, 2, 2)
    ∷ (0, 36, 2, 2) ∷ (1, 57, 1, 2) ∷ (0, 37, 2, 2) ∷ (0, 38, 2, 2) ∷ (0, 39, 2, 2) ∷ (1, 58, 1, 2)
    ∷ (0, 40, 2, 2) ∷ (0, 41, 2, 2) ∷ (0, 42, 2, 2) ∷ (0, 43, 2, 2) ∷ (1, 59, 1, 2) ∷ (1, 60, 1, 2)
    ∷ (1, 61, 1, 2) ∷ (0, 44, 2, 2) ∷ (0, 45, 2, 2) ∷ (1, 62, 1, 2) ∷ (1, 63, 1, 2) ∷ (0, 46, 2, 2)
    ∷ (1, 64, 1, 2) ∷ (0, 47, 2, 2) ∷ (1, 65, 1, 2) ∷ (0, 48, 2, 2) ∷ (1, 66, 1, 2) ∷ (0, 49, 2, 2)
    ∷ (0, 50, 2, 2) ∷ (0, 51, 2, 2) ∷ (0, 52, 2, 2) ∷ (1, 67, 1, 2) ∷ (1, 68, 1, 2) ∷ (0, 53, 2, 2)
    ∷ (1, 69, 1, 2) ∷ (1, 70, 1, 2) ∷ (1, 71, 1, 2) ∷ (1, 72, 1, 2) ∷ (0, 54, 2, 2) ∷ (0, 55, 2, 2)
    ∷ (0, 56, 2, 2) ∷ (1, 73, 1, 2) ∷ (0, 57, 2, 2) ∷ (0, 58, 2, 2) ∷ (0, 59, 2, 2) ∷ (0, 60, 2, 2)
    ∷ (0, 61, 2, 2) ∷ (1, 74, 1, 2) ∷ (0, 62, 2, 2) ∷ (1, 75, 1, 2) ∷ (0, 63, 2, 2) ∷ (1, 76, 1, 2)
    ∷ (1, 77, 1, 2) ∷ (0, 64, 2, 2) ∷ (1, 78, 1, 2) ∷ (1, 79, 1, 2) ∷ (1, 80, 1, 2) ∷ (0, 65, 2, 2)
    ∷ (0, 66, 2, 2) ∷ (0, 67, 2, 2) ∷ (0, 68, 2, 2) ∷ (0, 69, 2, 2) ∷ (1, 81, 1, 2) ∷ (0, 70, 2, 2)
    ∷ (1, 82, 1, 2) ∷ (1, 83, 1, 2) ∷ (1, 84, 1, 2) ∷ (0, 71, 2, 2) ∷ (0, 72, 2, 2) ∷ (1, 85, 1, 2)
    ∷ (1, 86, 1, 2) ∷ (0, 73, 2, 2) ∷ (0, 74, 2, 2) ∷ (1, 87, 1, 2) ∷ (1, 88, 1, 2) ∷ (1, 89, 1, 2)
    ∷ (1, 90, 1, 2) ∷ (1, 91, 1, 2) ∷ (0, 75, 2, 2) ∷ (0, 76, 2, 2) ∷ (0, 77, 2, 2) ∷ (1, 92, 1, 2)
    ∷ (0, 78, 2, 2) ∷ (0, 79, 2, 2) ∷ (0, 80, 2, 2) ∷ (0, 81, 2, 2) ∷ (0, 82, 2, 2) ∷ (0, 83, 2, 2)
    ∷ (0, 84, 2, 2) ∷ (1, 93, 1, 2) ∷ (1, 94, 1, 2) ∷ (0, 85, 2, 2) ∷ (1, 95, 1, 2) ∷ (1, 96, 1, 2)
    ∷ (1, 97, 1, 2) ∷ (1, 98, 1, 2) ∷ (0, 86, 2, 2) ∷ (1, 99, 1, 2) ∷ (0, 87, 2, 2) ∷ (0, 88, 2, 2)
    ∷ (0, 89, 2, 2) ∷ (1, 100, 1, 2) ∷ (0, 90, 2, 2) ∷ (0, 91, 2, 2) ∷ (0, 92, 2, 2) ∷ (1, 101, 1, 2)
    ∷ (1, 102, 1, 2) ∷ (1, 103, 1, 2) ∷ (0, 93, 2, 2) ∷ (0, 94, 2, 2) ∷ (0, 95, 2, 2) ∷ (0, 96, 2, 2)
    ∷ (0, 97, 2, 2) ∷ (1, 104, 1, 2) ∷ (0, 98, 2, 2) ∷ (1, 105, 1, 2) ∷ (1, 106, 1, 2) ∷ (0, 99, 2, 2)
    ∷ (0, 100, 2, 2) ∷ (0, 101, 2, 2) ∷ (1, 107, 1, 2) ∷ (1, 108, 1, 2) ∷ (0, 102, 2, 2) ∷ (1, 109, 1, 2)
    ∷ (1, 110, 1, 2) ∷ (1, 111, 1, 2) ∷ (0, 103, 2, 2) ∷ (0, 104, 2, 2) ∷ (0, 105, 2, 2) ∷ (0, 106, 2, 2)
    ∷ (1, 112, 1, 2) ∷ (0, 107, 2, 2) ∷ (1, 113, 1, 2) ∷ (1, 114, 1, 2) ∷ (0, 108, 2, 2) ∷ (1, 115, 1, 2)
    ∷ (0, 109, 2, 2) ∷ (0, 110, 2, 2) ∷ (1, 116, 1, 2) ∷ (0, 111, 2, 2) ∷ (0, 112, 2, 2) ∷ (1, 117, 1, 2)
    ∷ (0, 113, 2, 2) ∷ (1, 118, 1, 2) ∷ (0, 114, 2, 2) ∷ (1, 119, 1, 2) ∷ (0, 115, 2, 2) ∷ (0, 116, 2, 2)
    ∷ (0, 117, 2, 2) ∷ (1, 120, 1, 2) ∷ (0, 118, 2, 2) ∷ (0, 119, 2, 2) ∷ (0, 120, 2, 2) ∷ (1, 121, 1, 2)
    ∷ (1, 122, 1, 2) ∷ (0, 121, 2, 2) ∷ (1, 123, 1, 2) ∷ (1, 124, 1, 2) ∷ (0, 122, 2, 2) ∷ (1, 125, 1, 2)
    ∷ (0, 123, 2, 2) ∷ (1, 126, 1, 2) ∷ (0, 124, 2, 2) ∷ (1, 127, 1, 2) ∷ (0, 125, 2, 2) ∷ (0, 126, 2, 2)
    ∷ (1, 1, 3, 0) ∷ (0, 127, 2, 2) ∷ (1, 308, 3, 27) ∷ (0, 3, 3, 0) ∷ (0, 308, 4, 27) ∷ (0, 2, 3, 0)
    ∷ (1, 0, 7, 0) ∷ (0, 2, 4, 1) ∷ (1, 0, 8, 1) ∷ (0, 306, 21, 17) ∷ (1, 306, 22, 17) ∷ []

pub makes : whole_fine_run image 2 processors ≡ record { steps = steps; events = events; is_lawful = true; is_complete = true; dump = without_priorities dump }
unfolding blank
makes = refl

-- before each step and after the last one the relation holds
pub is_related : related_steps image (record { cpus = 2; threads = 0 ∷ 1 ∷ []; rows = 0 ∷ 1 ∷ 2 ∷ 3 ∷ []; domains = 0 ∷ [] }) processors choices ≡ 323
unfolding blank
is_related = refl
