-- A join comes while its thread ends: it waits, and is told by that end.
use Rattle.std.specs.Prelude.{◌≡◌, ℕ, true, false, List, [], ◌∷◌, Some, None, pos, codes, refl}
use Rattle.um_base.specs.declared.names.Kind.TheVariants as Kind
use Rattle.um_base.specs.declared.names.Mode.TheVariants as Mode
use Rattle.um_base.specs.declared.names.Mpu.TheVariants as Mpu
use Rattle.um_base.specs.declared.names.Policy.TheVariants as Policy
use Rattle.um_base.specs.declared.names.Reply.TheVariants as Reply
use Rattle.um_base.specs.declared.names.Term.TheVariants as Term
use Rattle.um_base.specs.declared.names.Timeout.TheVariants as Timeout
use Rattle.um_base.specs.declared.names.Want.TheVariants as Want
use Rattle.um_base.specs.declared.act.Act.TheVariants as Act
use Rattle.um_base.specs.declared.act.Answer.TheVariants as Answer
use Rattle.um_base.specs.declared.act.Leftover.TheVariants as Leftover
use Rattle.um_base.specs.declared.image.Setup.TheVariants as Setup
use Rattle.um_base.specs.declared.instr.Instr.TheVariants as Instr
use Rattle.um_base.specs.declared.act.Event.{Event}
use Rattle.um_base.specs.declared.image.Image.{Image}
use Rattle.um_base.specs.declared.image.Script.{Script}
use Rattle.um_worked_runs.specs.Fine.Left.{without_priorities}
use Rattle.um_worked_runs.specs.Fine.Brief.{Brief}
use Rattle.um_worked_runs.specs.Fine.Whole.{whole_fine_run}
use Rattle.um_worked_runs.specs.Fine.Related.{related_steps}
use Rattle.um_machine.specs.Run.{blank}
use Rattle.um_worked_runs.specs.Evaluate.{Choice, skips, begins, exits, leaves, goes}
use Rattle.um_worked_runs.specs.Dump.{Dump, started, ended, uninitialised, nothing}
use Rattle.um_worked_runs.specs.Words.{at, thread, row, range, by, on, choose}
use Rattle.um_worked_runs.specs.Whole.{whole_run}

abbrev pub script_0 : Script
script_0 =
    record {
      name = codes "ca";
      lines = Instr.Repeat 60
          ∷ Instr.Set 0 (Term.Num 1)
          ∷ Instr.End
          ∷ Instr.Join (Term.Num 0x40000080) Timeout.Forever ∷ [];
    }

abbrev pub script_1 : Script
script_1 =
    record { name = codes "cb"; lines = Instr.Set 0 (Term.Num 1) ∷ [] }

abbrev pub image : Image
image =
    record {
      mpu = Mpu.V7;
      regions = 8;
      policy = Policy.Abort;
      rodata = None;
      rodata_bytes = [];
      pools = [];
      partitions = [];
      domains = record { name = codes "d"; parts = Some [] } ∷ [];
      objects = record { name = codes "a"; kind = Kind.Thread; addr = at 0x40000000; public = true; setup = Setup.Thread (thread 0) }
          ∷ record { name = codes "sa"; kind = Kind.ThreadStack; addr = at 0x20080000; public = false; setup = Setup.ThreadStack (range 0x20080000 64) 64 }
          ∷ record { name = codes "b"; kind = Kind.Thread; addr = at 0x40000080; public = true; setup = Setup.Thread (thread 1) }
          ∷ record { name = codes "sb"; kind = Kind.ThreadStack; addr = at 0x20080040; public = false; setup = Setup.ThreadStack (range 0x20080040 64) 64 } ∷ [];
      boots = record { thread = row 0; stack = row 1; script = 0; mode = Mode.User; priority = pos 0; domain = 0; pool = None; grants = [] }
          ∷ record { thread = row 2; stack = row 3; script = 1; mode = Mode.User; priority = pos 0; domain = 0; pool = None; grants = [] } ∷ [];
      scripts = script_0
          ∷ script_1 ∷ [];
      futexes = [];
    }

-- which thread makes each step, and which one
abbrev pub choices : List Choice
choices =
    choose 0 0 begins ∷ choose 1 0 begins ∷ choose 1 0 exits ∷ choose 0 0 begins ∷ choose 0 0 begins
    ∷ choose 0 0 begins ∷ choose 1 2 goes ∷ choose 0 0 begins ∷ choose 0 0 begins ∷ choose 0 0 begins
    ∷ choose 0 0 begins ∷ choose 0 0 begins ∷ choose 0 0 begins ∷ choose 0 0 begins ∷ choose 0 0 begins
    ∷ choose 0 0 begins ∷ choose 0 0 begins ∷ choose 0 0 begins ∷ choose 0 0 begins ∷ choose 0 0 begins
    ∷ choose 0 0 begins ∷ choose 0 0 begins ∷ choose 0 0 begins ∷ choose 0 0 begins ∷ choose 0 0 begins
    ∷ choose 0 0 begins ∷ choose 0 0 begins ∷ choose 0 0 begins ∷ choose 0 0 begins ∷ choose 0 0 begins
    ∷ choose 0 0 begins ∷ choose 0 0 begins ∷ choose 0 0 begins ∷ choose 0 0 begins ∷ choose 0 0 begins
    ∷ choose 0 0 begins ∷ choose 0 0 begins ∷ choose 0 0 begins ∷ choose 0 0 begins ∷ choose 0 0 begins
    ∷ choose 0 0 begins ∷ choose 0 0 begins ∷ choose 0 0 begins ∷ choose 0 0 begins ∷ choose 0 0 begins
    ∷ choose 0 0 begins ∷ choose 0 0 begins ∷ choose 0 0 begins ∷ choose 0 0 begins ∷ choose 0 0 begins
    ∷ choose 0 0 begins ∷ choose 0 0 begins ∷ choose 0 0 begins ∷ choose 0 0 begins ∷ choose 0 0 begins
    ∷ choose 0 0 begins ∷ choose 0 0 begins ∷ choose 0 0 begins ∷ choose 0 0 begins ∷ choose 0 0 begins
    ∷ choose 0 0 begins ∷ choose 0 0 begins ∷ choose 0 0 begins ∷ choose 0 0 begins ∷ on 0 ∷ on 0
    ∷ choose 1 0 skips ∷ choose 1 0 leaves ∷ on 1 ∷ on 0 ∷ on 0 ∷ choose 0 0 exits ∷ on 0 ∷ choose 0 0 skips
    ∷ on 0 ∷ []

-- what the trace shows
abbrev pub events : List Event
events =
    by 0 (Act.Begin 0 2)
    ∷ by 1 (Act.Begin 1 1)
    ∷ by 1 Act.Exit
    ∷ by 0 (Act.Begin 0 2)
    ∷ by 0 (Act.Begin 0 2)
    ∷ by 0 (Act.Begin 0 2)
    ∷ by 1 (Act.DropPair (thread 1) (at 0x40000080) Leftover.Kept)
    ∷ by 0 (Act.Begin 0 2)
    ∷ by 0 (Act.Begin 0 2)
    ∷ by 0 (Act.Begin 0 2)
    ∷ by 0 (Act.Begin 0 2)
    ∷ by 0 (Act.Begin 0 2)
    ∷ by 0 (Act.Begin 0 2)
    ∷ by 0 (Act.Begin 0 2)
    ∷ by 0 (Act.Begin 0 2)
    ∷ by 0 (Act.Begin 0 2)
    ∷ by 0 (Act.Begin 0 2)
    ∷ by 0 (Act.Begin 0 2)
    ∷ by 0 (Act.Begin 0 2)
    ∷ by 0 (Act.Begin 0 2)
    ∷ by 0 (Act.Begin 0 2)
    ∷ by 0 (Act.Begin 0 2)
    ∷ by 0 (Act.Begin 0 2)
    ∷ by 0 (Act.Begin 0 2)
    ∷ by 0 (Act.Begin 0 2)
    ∷ by 0 (Act.Begin 0 2)
    ∷ by 0 (Act.Begin 0 2)
    ∷ by 0 (Act.Begin 0 2)
    ∷ by 0 (Act.Begin 0 2)
    ∷ by 0 (Act.Begin 0 2)
    ∷ by 0 (Act.Begin 0 2)
    ∷ by 0 (Act.Begin 0 2)
    ∷ by 0 (Act.Begin 0 2)
    ∷ by 0 (Act.Begin 0 2)
    ∷ by 0 (Act.Begin 0 2)
    ∷ by 0 (Act.Begin 0 2)
    ∷ by 0 (Act.Begin 0 2)
    ∷ by 0 (Act.Begin 0 2)
    ∷ by 0 (Act.Begin 0 2)
    ∷ by 0 (Act.Begin 0 2)
    ∷ by 0 (Act.Begin 0 2)
    ∷ by 0 (Act.Begin 0 2)
    ∷ by 0 (Act.Begin 0 2)
    ∷ by 0 (Act.Begin 0 2)
    ∷ by 0 (Act.Begin 0 2)
    ∷ by 0 (Act.Begin 0 2)
    ∷ by 0 (Act.Begin 0 2)
    ∷ by 0 (Act.Begin 0 2)
    ∷ by 0 (Act.Begin 0 2)
    ∷ by 0 (Act.Begin 0 2)
    ∷ by 0 (Act.Begin 0 2)
    ∷ by 0 (Act.Begin 0 2)
    ∷ by 0 (Act.Begin 0 2)
    ∷ by 0 (Act.Begin 0 2)
    ∷ by 0 (Act.Begin 0 2)
    ∷ by 0 (Act.Begin 0 2)
    ∷ by 0 (Act.Begin 0 2)
    ∷ by 0 (Act.Begin 0 2)
    ∷ by 0 (Act.Begin 0 2)
    ∷ by 0 (Act.Begin 0 2)
    ∷ by 0 (Act.Begin 0 2)
    ∷ by 0 (Act.Begin 0 2)
    ∷ by 0 (Act.Begin 0 2)
    ∷ by 0 (Act.Begin 0 4)
    ∷ by 0 (Act.Check (at 0x40000080) (Some Kind.Thread) Want.Init None)
    ∷ by 0 (Act.Join (thread 1) Answer.Wait)
    ∷ by 1 (Act.ClearInit (at 0x20080040))
    ∷ by 1 (Act.Left (thread 1) ((thread 0, Reply.Num 0) ∷ []))
    ∷ by 1 (Act.ClearInit (at 0x40000080))
    ∷ by 0 Act.Resume
    ∷ by 0 (Act.Answered (Reply.Num 0))
    ∷ by 0 Act.Exit
    ∷ by 0 (Act.DropPair (thread 0) (at 0x40000000) Leftover.Kept)
    ∷ by 0 (Act.ClearInit (at 0x20080000))
    ∷ by 0 (Act.ClearInit (at 0x40000000)) ∷ []

abbrev pub dump : Dump
dump =
    record {
      threads = started 0 ended Mode.User (pos 0) 0
          ∷ started 1 ended Mode.User (pos 0) 0 ∷ [];
      objects = record { row = 0; kind = Some Kind.Thread; stage = uninitialised; public = true; holders = []; content = nothing }
          ∷ record { row = 1; kind = Some Kind.ThreadStack; stage = uninitialised; public = false; holders = []; content = nothing }
          ∷ record { row = 2; kind = Some Kind.Thread; stage = uninitialised; public = true; holders = []; content = nothing }
          ∷ record { row = 3; kind = Some Kind.ThreadStack; stage = uninitialised; public = false; holders = []; content = nothing } ∷ [];
      domains = Some [] ∷ [];
      pools = [];
      memory = [];
    }

pub runs : whole_run image choices ≡ record { events = events; is_lawful = true; is_complete = true; dump = dump }
unfolding blank
runs = refl

-- which processor makes each step
abbrev pub processors : List ℕ
processors =
    2 ∷ 0 ∷ 2 ∷ 2 ∷ 2 ∷ 0 ∷ 0 ∷ 1 ∷ 1 ∷ 2 ∷ 1 ∷ 2 ∷ 2 ∷ 2 ∷ 1 ∷ 2 ∷ 2 ∷ 2 ∷ 2 ∷ 0 ∷ 1 ∷ 0 ∷ 1 ∷ 0 ∷ 0 ∷ 0
    ∷ 0 ∷ 0 ∷ 0 ∷ 0 ∷ 1 ∷ 2 ∷ 2 ∷ 1 ∷ 2 ∷ 0 ∷ 1 ∷ 0 ∷ 0 ∷ 1 ∷ 0 ∷ 0 ∷ 1 ∷ 1 ∷ 0 ∷ 0 ∷ 0 ∷ 0 ∷ 1 ∷ 1 ∷ 1 ∷ 0
    ∷ 0 ∷ 0 ∷ 2 ∷ 1 ∷ 2 ∷ 2 ∷ 0 ∷ 0 ∷ 0 ∷ 1 ∷ 2 ∷ 2 ∷ 2 ∷ 0 ∷ 0 ∷ 0 ∷ 0 ∷ 0 ∷ 0 ∷ 2 ∷ 1 ∷ 1 ∷ 1 ∷ 1 ∷ 1 ∷ 1
    ∷ 1 ∷ 1 ∷ 2 ∷ 1 ∷ 1 ∷ 2 ∷ 1 ∷ 0 ∷ 1 ∷ 0 ∷ 0 ∷ 2 ∷ 1 ∷ 1 ∷ 1 ∷ 1 ∷ 1 ∷ 2 ∷ 1 ∷ 1 ∷ 1 ∷ 1 ∷ 1 ∷ 2 ∷ 1 ∷ 0
    ∷ 1 ∷ 1 ∷ 0 ∷ 0 ∷ 1 ∷ 0 ∷ 0 ∷ 0 ∷ 2 ∷ 2 ∷ 1 ∷ 1 ∷ 1 ∷ 1 ∷ 1 ∷ 2 ∷ 1 ∷ 2 ∷ 2 ∷ 1 ∷ 1 ∷ 1 ∷ 2 ∷ 1 ∷ 2 ∷ 1
    ∷ 2 ∷ 1 ∷ 2 ∷ 0 ∷ 1 ∷ 0 ∷ 0 ∷ 1 ∷ 2 ∷ 2 ∷ 2 ∷ 0 ∷ 0 ∷ 1 ∷ 1 ∷ 0 ∷ 1 ∷ 1 ∷ 0 ∷ 0 ∷ 1 ∷ 0 ∷ 0 ∷ 0 ∷ 1 ∷ 0
    ∷ 1 ∷ 2 ∷ 2 ∷ 2 ∷ 1 ∷ 0 ∷ 0 ∷ 1 ∷ 0 ∷ 0 ∷ 0 ∷ 0 ∷ 0 ∷ 1 ∷ 0 ∷ 0 ∷ 0 ∷ 0 ∷ 0 ∷ 2 ∷ 2 ∷ 2 ∷ 1 ∷ 0 ∷ 0 ∷ 0
    ∷ 2 ∷ 1 ∷ 1 ∷ 1 ∷ 2 ∷ 1 ∷ 1 ∷ 1 ∷ 1 ∷ 1 ∷ 1 ∷ 2 ∷ 0 ∷ 1 ∷ 1 ∷ 0 ∷ 0 ∷ 1 ∷ 1 ∷ 1 ∷ 2 ∷ 2 ∷ 1 ∷ 1 ∷ 1 ∷ 2
    ∷ 1 ∷ 0 ∷ 1 ∷ 0 ∷ 1 ∷ 0 ∷ 1 ∷ 0 ∷ 0 ∷ 0 ∷ 2 ∷ 1 ∷ 1 ∷ 1 ∷ 2 ∷ 1 ∷ 1 ∷ 2 ∷ 0 ∷ 1 ∷ 0 ∷ 0 ∷ 1 ∷ 1 ∷ 1 ∷ 0
    ∷ 0 ∷ 0 ∷ 2 ∷ 2 ∷ 1 ∷ 1 ∷ 1 ∷ 1 ∷ 2 ∷ 0 ∷ 1 ∷ 0 ∷ 0 ∷ 1 ∷ 0 ∷ 0 ∷ 1 ∷ 1 ∷ 1 ∷ 0 ∷ 2 ∷ 1 ∷ 2 ∷ 2 ∷ 1 ∷ 1
    ∷ 1 ∷ 1 ∷ 0 ∷ 0 ∷ 1 ∷ 0 ∷ 0 ∷ 0 ∷ 0 ∷ 0 ∷ 0 ∷ 1 ∷ 0 ∷ 2 ∷ 1 ∷ 2 ∷ 1 ∷ 1 ∷ 1 ∷ 1 ∷ 2 ∷ 1 ∷ 1 ∷ 0 ∷ 0 ∷ 0
    ∷ 0 ∷ 1 ∷ 0 ∷ 0 ∷ 0 ∷ 1 ∷ 1 ∷ 1 ∷ 0 ∷ 0 ∷ 0 ∷ 0 ∷ 0 ∷ 2 ∷ 1 ∷ 1 ∷ 1 ∷ 2 ∷ 2 ∷ 1 ∷ 2 ∷ 2 ∷ 2 ∷ 0 ∷ 0 ∷ 0
    ∷ 0 ∷ 0 ∷ 0 ∷ 1 ∷ 0 ∷ 0 ∷ 1 ∷ 1 ∷ 0 ∷ 1 ∷ 1 ∷ 0 ∷ 2 ∷ 1 ∷ 2 ∷ 2 ∷ 1 ∷ 2 ∷ 1 ∷ 1 ∷ 1 ∷ 1 ∷ 1 ∷ 1 ∷ 1 ∷ 1
    ∷ 1 ∷ 1 ∷ 1 ∷ 1 ∷ 1 ∷ 1 ∷ 1 ∷ 1 ∷ 1 ∷ 1 ∷ 1 ∷ 1 ∷ 1 ∷ 1 ∷ 1 ∷ 1 ∷ 1 ∷ 1 ∷ 1 ∷ 1 ∷ 1 ∷ 1 ∷ 1 ∷ 1 ∷ 1 ∷ 1
    ∷ 1 ∷ 1 ∷ 1 ∷ 1 ∷ 1 ∷ 1 ∷ 1 ∷ 1 ∷ 1 ∷ 1 ∷ 1 ∷ 1 ∷ 1 ∷ 1 ∷ 1 ∷ 1 ∷ 1 ∷ 1 ∷ 1 ∷ 1 ∷ 1 ∷ 1 ∷ 1 ∷ 1 ∷ 1 ∷ 1
    ∷ 1 ∷ 1 ∷ 1 ∷ 1 ∷ 1 ∷ 1 ∷ 1 ∷ 1 ∷ 1 ∷ 1 ∷ 1 ∷ 1 ∷ 1 ∷ 1 ∷ 1 ∷ 1 ∷ 1 ∷ 1 ∷ 1 ∷ 1 ∷ 1 ∷ 1 ∷ 1 ∷ 1 ∷ 1 ∷ 1
    ∷ 1 ∷ 1 ∷ 1 ∷ 1 ∷ 1 ∷ 1 ∷ 1 ∷ 1 ∷ 1 ∷ 1 ∷ 1 ∷ 1 ∷ 1 ∷ 1 ∷ 1 ∷ 1 ∷ 1 ∷ 1 ∷ 1 ∷ 1 ∷ 1 ∷ 1 ∷ 1 ∷ 1 ∷ 1 ∷ 1
    ∷ 1 ∷ 1 ∷ 1 ∷ 1 ∷ 1 ∷ 1 ∷ 1 ∷ 1 ∷ 1 ∷ 1 ∷ 1 ∷ 1 ∷ 1 ∷ 1 ∷ 1 ∷ 1 ∷ 1 ∷ 1 ∷ 1 ∷ 1 ∷ 1 ∷ 1 ∷ 1 ∷ []

-- the steps: processor, site, the step's number there, and which unseen step it is
abbrev pub steps : List Brief
steps =
    (2, 306, 1, 15) ∷ (0, 306, 2, 15) ∷ (2, 128, 1, 0) ∷ (2, 306, 3, 16) ∷ (2, 306, 4, 15) ∷ (0, 129, 1, 0)
    ∷ (0, 306, 5, 16) ∷ (1, 306, 6, 15) ∷ (1, 129, 2, 0) ∷ (2, 128, 2, 0) ∷ (1, 0, 1, 2) ∷ (2, 306, 7, 16)
    ∷ (2, 306, 8, 15) ∷ (2, 128, 3, 0) ∷ (1, 1, 1, 2) ∷ (2, 306, 9, 16) ∷ (2, 306, 10, 15) ∷ (2, 128, 4, 0)
    ∷ (2, 306, 11, 16) ∷ (0, 306, 12, 15) ∷ (1, 2, 1, 0) ∷ (0, 128, 5, 0) ∷ (1, 3, 1, 2) ∷ (0, 306, 13, 16)
    ∷ (0, 306, 14, 15) ∷ (0, 128, 6, 0) ∷ (0, 306, 15, 16) ∷ (0, 306, 16, 15) ∷ (0, 128, 7, 0)
    ∷ (0, 306, 17, 16) ∷ (1, 4, 1, 2) ∷ (2, 306, 18, 15) ∷ (2, 128, 8, 0) ∷ (1, 5, 1, 2) ∷ (2, 306, 19, 16)
    ∷ (0, 306, 20, 15) ∷ (1, 6, 1, 2) ∷ (0, 128, 9, 0) ∷ (0, 306, 21, 16) ∷ (1, 7, 1, 2) ∷ (0, 306, 22, 15)
    ∷ (0, 128, 10, 0) ∷ (1, 8, 1, 2) ∷ (1, 9, 1, 2) ∷ (0, 306, 23, 16) ∷ (0, 306, 24, 15) ∷ (0, 128, 11, 0)
    ∷ (0, 306, 25, 16) ∷ (1, 10, 1, 2) ∷ (1, 11, 1, 2) ∷ (1, 12, 1, 2) ∷ (0, 306, 26, 15) ∷ (0, 128, 12, 0)
    ∷ (0, 306, 27, 16) ∷ (2, 306, 28, 15) ∷ (1, 13, 1, 2) ∷ (2, 128, 13, 0) ∷ (2, 306, 29, 16)
    ∷ (0, 306, 30, 15) ∷ (0, 128, 14, 0) ∷ (0, 306, 31, 16) ∷ (1, 14, 1, 2) ∷ (2, 306, 32, 15)
    ∷ (2, 128, 15, 0) ∷ (2, 306, 33, 16) ∷ (0, 306, 34, 15) ∷ (0, 128, 16, 0) ∷ (0, 306, 35, 16)
    ∷ (0, 306, 36, 15) ∷ (0, 128, 17, 0) ∷ (0, 306, 37, 16) ∷ (2, 306, 38, 15) ∷ (1, 15, 1, 2) ∷ (1, 16, 1, 2)
    ∷ (1, 17, 1, 2) ∷ (1, 18, 1, 2) ∷ (1, 19, 1, 2) ∷ (1, 20, 1, 2) ∷ (1, 21, 1, 2) ∷ (1, 22, 1, 2)
    ∷ (2, 128, 18, 0) ∷ (1, 23, 1, 2) ∷ (1, 24, 1, 2) ∷ (2, 306, 39, 16) ∷ (1, 25, 1, 2) ∷ (0, 306, 40, 15)
    ∷ (1, 26, 1, 2) ∷ (0, 128, 19, 0) ∷ (0, 306, 41, 16) ∷ (2, 306, 42, 15) ∷ (1, 27, 1, 2) ∷ (1, 28, 1, 2)
    ∷ (1, 29, 1, 2) ∷ (1, 30, 1, 2) ∷ (1, 31, 1, 2) ∷ (2, 128, 20, 0) ∷ (1, 32, 1, 2) ∷ (1, 33, 1, 2)
    ∷ (1, 34, 1, 2) ∷ (1, 35, 1, 2) ∷ (1, 36, 1, 2) ∷ (2, 306, 43, 16) ∷ (1, 37, 1, 2) ∷ (0, 306, 44, 15)
    ∷ (1, 38, 1, 2) ∷ (1, 39, 1, 2) ∷ (0, 128, 21, 0) ∷ (0, 306, 45, 16) ∷ (1, 40, 1, 2) ∷ (0, 306, 46, 15)
    ∷ (0, 128, 22, 0) ∷ (0, 306, 47, 16) ∷ (2, 306, 48, 15) ∷ (2, 128, 23, 0) ∷ (1, 41, 1, 2) ∷ (1, 42, 1, 2)
    ∷ (1, 43, 1, 2) ∷ (1, 44, 1, 2) ∷ (1, 45, 1, 2) ∷ (2, 306, 49, 16) ∷ (1, 46, 1, 2) ∷ (2, 306, 50, 15)
    ∷ (2, 128, 24, 0) ∷ (1, 47, 1, 2) ∷ (1, 48, 1, 2) ∷ (1, 49, 1, 2) ∷ (2, 306, 51, 16) ∷ (1, 50, 1, 2)
    ∷ (2, 306, 52, 15) ∷ (1, 51, 1, 2) ∷ (2, 128, 25, 0) ∷ (1, 52, 1, 2) ∷ (2, 306, 53, 16) ∷ (0, 306, 54, 15)
    ∷ (1, 53, 1, 2) ∷ (0, 128, 26, 0) ∷ (0, 306, 55, 16) ∷ (1, 54, 1, 2) ∷ (2, 306, 56, 15) ∷ (2, 128, 27, 0)
    ∷ (2, 306, 57, 16) ∷ (0, 306, 58, 15) ∷ (0, 128, 28, 0) ∷ (1, 55, 1, 2) ∷ (1, 56, 1, 2) ∷ (0, 306, 59, 16)
    ∷ (1, 57, 1, 2) ∷ (1, 58, 1, 2) ∷ (0, 306, 60, 15) ∷ (0, 128, 29, 0) ∷ (1, 59, 1, 2) ∷ (0, 306, 61, 16)
    ∷ (0, 306, 62, 15) ∷ (0, 128, 30, 0) ∷ (1, 60, 1, 2) ∷ (0, 306, 63, 16) ∷ (1, 61, 1, 2) ∷ (2, 306, 64, 15)
    ∷ (2, 128, 31, 0) ∷ (2, 306, 65, 16) ∷ (1, 62, 1, 2) ∷ (0, 306, 66, 15) ∷ (0, 128, 32, 0) ∷ (1, 63, 1, 2)
    ∷ (0, 306, 67, 16) ∷ (0, 306, 68, 15) ∷ (0, 128, 33, 0) ∷ (0, 306, 69, 16) ∷ (0, 306, 70, 15)
    ∷ (1, 64, 1, 2) ∷ (0, 128, 34, 0) ∷ (0, 306, 71, 16) ∷ (0, 306, 72, 15) ∷ (0, 128, 35, 0)
    ∷ (0, 306, 73, 16) ∷ (2, 306, 74, 15) ∷ (2, 128, 36, 0) ∷ (2, 306, 75, 16) ∷ (1, 65, 1, 2)
    ∷ (0, 306, 76, 15) ∷ (0, 128, 37, 0) ∷ (0, 306, 77, 16) ∷ (2, 306, 78, 15) ∷ (1, 66, 1, 2) ∷ (1, 67, 1, 2)
    ∷ (1, 68, 1, 2) ∷ (2, 128, 38, 0) ∷ (1, 69, 1, 2) ∷ (1, 70, 1, 2) ∷ (1, 71, 1, 2) ∷ (1, 72, 1, 2)
    ∷ (1, 73, 1, 2) ∷ (1, 74, 1, 2) ∷ (2, 306, 79, 16) ∷ (0, 306, 80, 15) ∷ (1, 75, 1, 2) ∷ (1, 76, 1, 2)
    ∷ (0, 128, 39, 0) ∷ (0, 306, 81, 16) ∷ (1, 77, 1, 2) ∷ (1, 78, 1, 2) ∷ (1, 79, 1, 2) ∷ (2, 306, 82, 15)
    ∷ (2, 128, 40, 0) ∷ (1, 80, 1, 2) ∷ (1, 81, 1, 2) ∷ (1, 82, 1, 2) ∷ (2, 306, 83, 16) ∷ (1, 83, 1, 2)
    ∷ (0, 306, 84, 15) ∷ (1, 84, 1, 2) ∷ (0, 128, 41, 0) ∷ (1, 85, 1, 2) ∷ (0, 306, 85, 16) ∷ (1, 86, 1, 2)
    ∷ (0, 306, 86, 15) ∷ (0, 128, 42, 0) ∷ (0, 306, 87, 16) ∷ (2, 306, 88, 15) ∷ (1, 87, 1, 2) ∷ (1, 88, 1, 2)
    ∷ (1, 89, 1, 2) ∷ (2, 128, 43, 0) ∷ (1, 90, 1, 2) ∷ (1, 91, 1, 2) ∷ (2, 306, 89, 16) ∷ (0, 306, 90, 15)
    ∷ (1, 92, 1, 2) ∷ (0, 128, 44, 0) ∷ (0, 306, 91, 16) ∷ (1, 93, 1, 2) ∷ (1, 94, 1, 2) ∷ (1, 95, 1, 2)
    ∷ (0, 306, 92, 15) ∷ (0, 128, 45, 0) ∷ (0, 306, 93, 16) ∷ (2, 306, 94, 15) ∷ (2, 128, 46, 0)
    ∷ (1, 96, 1, 2) ∷ (1, 97, 1, 2) ∷ (1, 98, 1, 2) ∷ (1, 99, 1, 2) ∷ (2, 306, 95, 16) ∷ (0, 306, 96, 15)
    ∷ (1, 100, 1, 2) ∷ (0, 128, 47, 0) ∷ (0, 306, 97, 16) ∷ (1, 101, 1, 2) ∷ (0, 306, 98, 15)
    ∷ (0, 128, 48, 0) ∷ (1, 102, 1, 2) ∷ (1, 103, 1, 2) ∷ (1, 104, 1, 2) ∷ (0, 306, 99, 16)
    ∷ (2, 306, 100, 15) ∷ (1, 105, 1, 2) ∷ (2, 128, 49, 0) ∷ (2, 306, 101, 16) ∷ (1, 106, 1, 2)
    ∷ (1, 107, 1, 2) ∷ (1, 108, 1, 2) ∷ (1, 109, 1, 2) ∷ (0, 306, 102, 15) ∷ (0, 128, 50, 0) ∷ (1, 110, 1, 2)
    ∷ (0, 306, 103, 16) ∷ (0, 306, 104, 15) ∷ (0, 128, 51, 0) ∷ (0, 306, 105, 16) ∷ (0, 306, 106, 15)
    ∷ (0, 128, 52, 0) ∷ (1, 111, 1, 2) ∷ (0, 306, 107, 16) ∷ (2, 306, 108, 15) ∷ (1, 112, 1, 2)
    ∷ (2, 128, 53, 0) ∷ (1, 113, 1, 2) ∷ (1, 114, 1, 2) ∷ (1, 115, 1, 2) ∷ (1, 116, 1, 2) ∷ (2, 306, 109, 16)
    ∷ (1, 117, 1, 2) ∷ (1, 118, 1, 2) ∷ (0, 306, 110, 15) ∷ (0, 128, 54, 0) ∷ (0, 306, 111, 16)
    ∷ (0, 306, 112, 15) ∷ (1, 119, 1, 2) ∷ (0, 128, 55, 0) ∷ (0, 306, 113, 16) ∷ (0, 306, 114, 15)
    ∷ (1, 120, 1, 2) ∷ (1, 121, 1, 2) ∷ (1, 122, 1, 2) ∷ (0, 128, 56, 0) ∷ (0, 306, 115, 16)
    ∷ (0, 306, 116, 15) ∷ (0, 128, 57, 0) ∷ (0, 306, 117, 16) ∷ (2, 306, 118, 15) ∷ (1, 123, 1, 2)
    ∷ (1, 124, 1, 2) ∷ (1, 125, 1, 2) ∷ (2, 128, 58, 0) ∷ (2, 306, 119, 16) ∷ (1, 126, 1, 2)
    ∷ (2, 306, 120, 15) ∷ (2, 128, 59, 0) ∷ (2, 306, 121, 16) ∷ (0, 306, 122, 15) ∷ (0, 128, 60, 0)
    ∷ (0, 306, 123, 16) ∷ (0, 306, 124, 15) ∷ (0, 128, 61, 0) ∷ (0, 2, 2, 0) ∷ (1, 127, 1, 2)
    ∷ (0, 128, 62, 24) ∷ (0, 308, 1, 0) ∷ (1, 3, 2, 0) ∷ (1, 308, 2, 0) ∷ (0, 128, 63, 18) ∷ (1, 306, 125, 14)
    ∷ (1, 2, 3, 0) ∷ (0, 306, 126, 16) ∷ (2, 306, 127, 0) ∷ (1, 2, 4, 1) ∷ (2, 128, 64, 0) ∷ (2, 2, 5, 1)
    ∷ (1, 306, 128, 17) ∷ (2, 306, 129, 16) ∷ (1, 306, 130, 15) ∷ (1, 128, 65, 0) ∷ (1, 0, 2, 0)
    ∷ (1, 1, 2, 2) ∷ (1, 2, 6, 2) ∷ (1, 3, 3, 2) ∷ (1, 4, 2, 2) ∷ (1, 5, 2, 2) ∷ (1, 6, 2, 2) ∷ (1, 7, 2, 2)
    ∷ (1, 8, 2, 2) ∷ (1, 9, 2, 2) ∷ (1, 10, 2, 2) ∷ (1, 11, 2, 2) ∷ (1, 12, 2, 2) ∷ (1, 13, 2, 2)
    ∷ (1, 14, 2, 2) ∷ (1, 15, 2, 2) ∷ (1, 16, 2, 2) ∷ (1, 17, 2, 2) ∷ (1, 18, 2, 2) ∷ (1, 19, 2, 2)
    ∷ (1, 20, 2, 2) ∷ (1, 21, 2, 2) ∷ (1, 22, 2, 2) ∷ (1, 23, 2, 2) ∷ (1, 24, 2, 2) ∷ (1, 25, 2, 2)
    ∷ (1, 26, 2, 2) ∷ (1, 27, 2, 2) ∷ (1, 28, 2, 2) ∷ (1, 29, 2, 2) ∷ (1, 30, 2, 2) ∷ (1, 31, 2, 2)
    ∷ (1, 32, 2, 2) ∷ (1, 33, 2, 2) ∷ (1, 34, 2, 2) ∷ (1, 35, 2, 2) ∷ (1, 36, 2, 2) ∷ (1, 37, 2, 2)
    ∷ (1, 38, 2, 2) ∷ (1, 39, 2, 2) ∷ (1, 40, 2, 2) ∷ (1, 41, 2, 2) ∷ (1, 42, 2, 2) ∷ (1, 43, 2, 2)
    ∷ (1, 44, 2, 2) ∷ (1, 45, 2, 2) ∷ (1, 46, 2, 2) ∷ (1, 47, 2, 2) ∷ (1, 48, 2, 2) ∷ (1, 49, 2, 2)
    ∷ (1, 50, 2, 2) ∷ (1, 51, 2, 2) ∷ (1, 52, 2, 2) ∷ (1, 53, 2, 2) ∷ (1, 54, 2, 2) ∷ (1, 55, 2, 2)
    ∷ (1, 56, 2, 2) ∷ (1, 57, 2, 2) ∷ (1, 58, 2, 2) ∷ (1, 59, 2, 2) ∷ (1, 60, 2, 2) ∷ (1, 61, 2, 2)
    ∷ (1, 62, 2, 2) ∷ (1, 63, 2, 2) ∷ (1, 64, 2, 2) ∷ (1, 65, 2, 2) ∷ (1, 66, 2, 2) ∷ (1, 67, 2, 2)
    ∷ (1, 68, 2, 2) ∷ (1, 69, 2, 2) ∷ (1, 70, 2, 2) ∷ (1, 71, 2, 2) ∷ (1, 72, 2, 2) ∷ (1, 73, 2, 2)
    ∷ (1, 74, 2, 2) ∷ (1, 75, 2, 2) ∷ (1, 76, 2, 2) ∷ (1, 77, 2, 2) ∷ (1, 78, 2, 2) ∷ (1, 79, 2, 2)
    ∷ (1, 80, 2, 2) ∷ (1, 81, 2, 2) ∷ (1, 82, 2, 2) ∷ (1, 83, 2, 2) ∷ (1, 84, 2, 2) ∷ (1, 85, 2, 2)
    ∷ (1, 86, 2, 2) ∷ (1, 87, 2, 2) ∷ (1, 88, 2, 2) ∷ (1, 89, 2, 2) ∷ (1, 90, 2, 2) ∷ (1, 91, 2, 2)
    ∷ (1, 92, 2, 2) ∷ (1, 93, 2, 2) ∷ (1, 94, 2, 2) ∷ (1, 95, 2, 2) ∷ (1, 96, 2, 2) ∷ (1, 97, 2, 2)
    ∷ (1, 98, 2, 2) ∷ (1, 99, 2, 2) ∷ (1, 100, 2, 2) ∷ (1, 101, 2, 2) ∷ (1, 102, 2, 2) ∷ (1, 103, 2, 2)
    ∷ (1, 104, 2, 2) ∷ (1, 105, 2, 2) ∷ (1, 106, 2, 2) ∷ (1, 107, 2, 2) ∷ (1, 108, 2, 2) ∷ (1, 109, 2, 2)
    ∷ (1, 110, 2, 2) ∷ (1, 111, 2, 2) ∷ (1, 112, 2, 2) ∷ (1, 113, 2, 2) ∷ (1, 114, 2, 2) ∷ (1, 115, 2, 2)
    ∷ (1, 116, 2, 2) ∷ (1, 117, 2, 2) ∷ (1, 118, 2, 2) ∷ (1, 119, 2, 2) ∷ (1, 120, 2, 2) ∷ (1, 121, 2, 2)
    ∷ (1, 122, 2, 2) ∷ (1, 123, 2, 2) ∷ (1, 124, 2, 2) ∷ (1, 125, 2, 2) ∷ (1, 126, 2, 2) ∷ (1, 127, 2, 2)
    ∷ (1, 1, 3, 0) ∷ (1, 308, 3, 27) ∷ (1, 0, 3, 0) ∷ (1, 0, 4, 1) ∷ (1, 306, 131, 17) ∷ []

pub makes : whole_fine_run image 3 processors ≡ record { steps = steps; events = events; is_lawful = true; is_complete = true; dump = without_priorities dump }
unfolding blank
makes = refl

-- before each step and after the last one the relation holds
pub is_related : related_steps image (record { cpus = 3; threads = 0 ∷ 1 ∷ []; rows = 0 ∷ 1 ∷ 2 ∷ 3 ∷ []; domains = 0 ∷ [] }) processors choices ≡ 466
unfolding blank
is_related = refl
