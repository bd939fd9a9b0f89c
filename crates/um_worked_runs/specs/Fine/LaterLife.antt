-- One who aborts a thread stands still before its look, and finds it in a later life, in the same cell: nobody is cut.
use Rattle.std.specs.Prelude.{◌≡◌, ℕ, true, false, List, [], ◌∷◌, Some, None, pos, codes, refl}
use Rattle.um_base.specs.declared.names.Kind.TheVariants as Kind
use Rattle.um_base.specs.declared.names.Mode.TheVariants as Mode
use Rattle.um_base.specs.declared.names.Mpu.TheVariants as Mpu
use Rattle.um_base.specs.declared.names.Policy.TheVariants as Policy
use Rattle.um_base.specs.declared.names.Ref.TheVariants as Ref
use Rattle.um_base.specs.declared.names.Reply.TheVariants as Reply
use Rattle.um_base.specs.declared.names.Term.TheVariants as Term
use Rattle.um_base.specs.declared.names.Timeout.TheVariants as Timeout
use Rattle.um_base.specs.declared.names.Want.TheVariants as Want
use Rattle.um_base.specs.declared.act.Act.TheVariants as Act
use Rattle.um_base.specs.declared.act.Answer.TheVariants as Answer
use Rattle.um_base.specs.declared.act.Given.TheVariants as Given
use Rattle.um_base.specs.declared.act.Leftover.TheVariants as Leftover
use Rattle.um_base.specs.declared.act.SetSaid.TheVariants as SetSaid
use Rattle.um_base.specs.declared.image.Setup.TheVariants as Setup
use Rattle.um_base.specs.declared.instr.Instr.TheVariants as Instr
use Rattle.um_base.specs.declared.act.Event.{Event}
use Rattle.um_base.specs.declared.image.Image.{Image}
use Rattle.um_base.specs.declared.image.Script.{Script}
use Rattle.um_worked_runs.specs.Fine.Left.{without_priorities}
use Rattle.um_worked_runs.specs.Fine.Brief.{Brief}
use Rattle.um_worked_runs.specs.Fine.Whole.{whole_fine_run}
use Rattle.um_worked_runs.specs.Fine.Related.{related_steps}
use Rattle.um_machine.specs.Run.{blank}
use Rattle.um_worked_runs.specs.Evaluate.{Choice, skips, begins, exits, stops, leaves, goes}
use Rattle.um_worked_runs.specs.Dump.{Dump, started, ended, waits, initialised, uninitialised, nothing, filled}
use Rattle.um_worked_runs.specs.Words.{at, thread, row, range, rights, by, on, choose}
use Rattle.um_worked_runs.specs.Whole.{whole_run}

abbrev pub script_0 : Script
script_0 =
    record { name = codes "m"; lines = Instr.Abort (Term.Num 0x40000080) ∷ [] }

abbrev pub script_1 : Script
script_1 =
    record {
      name = codes "g";
      lines = Instr.SemGive (Term.Num 0x40000180)
          ∷ Instr.Join (Term.Num 0x40000080) Timeout.Forever
          ∷ Instr.Create (Term.Num 0x40000080) (Term.Num 0x20080020) (Term.Num 32) (Ref.At 2) (pos 0) (record { user = false; inherit = false; essential = false }) ∷ [];
    }

abbrev pub script_2 : Script
script_2 =
    record { name = codes "w"; lines = Instr.SemTake (Term.Num 0x40000180) Timeout.Forever ∷ [] }

abbrev pub image : Image
image =
    record {
      mpu = Mpu.V8;
      regions = 8;
      policy = Policy.Abort;
      rodata = None;
      rodata_bytes = [];
      pools = [];
      partitions = record { name = codes "p"; range = range 0x20000000 32; attr = rights 27; bytes = [] } ∷ [];
      domains = record { name = codes "d"; parts = Some (0 ∷ []) } ∷ [];
      objects = record { name = codes "a"; kind = Kind.Thread; addr = at 0x40000000; public = false; setup = Setup.Thread (thread 0) }
          ∷ record { name = codes "sa"; kind = Kind.ThreadStack; addr = at 0x20080000; public = false; setup = Setup.ThreadStack (range 0x20080000 32) 32 }
          ∷ record { name = codes "b"; kind = Kind.Thread; addr = at 0x40000080; public = false; setup = Setup.Thread (thread 1) }
          ∷ record { name = codes "sb"; kind = Kind.ThreadStack; addr = at 0x20080020; public = false; setup = Setup.ThreadStack (range 0x20080020 32) 32 }
          ∷ record { name = codes "c"; kind = Kind.Thread; addr = at 0x40000100; public = false; setup = Setup.Thread (thread 2) }
          ∷ record { name = codes "sc"; kind = Kind.ThreadStack; addr = at 0x20080040; public = false; setup = Setup.ThreadStack (range 0x20080040 32) 32 }
          ∷ record { name = codes "s"; kind = Kind.Sem; addr = at 0x40000180; public = false; setup = Setup.Sem 0 1 } ∷ [];
      boots = record { thread = row 2; stack = row 3; script = 2; mode = Mode.Supervisor; priority = pos 0; domain = 0; pool = None; grants = row 6 ∷ [] }
          ∷ record { thread = row 0; stack = row 1; script = 0; mode = Mode.Supervisor; priority = pos 0; domain = 0; pool = None; grants = [] }
          ∷ record { thread = row 4; stack = row 5; script = 1; mode = Mode.Supervisor; priority = pos 0; domain = 0; pool = None; grants = [] } ∷ [];
      scripts = script_0
          ∷ script_1
          ∷ script_2 ∷ [];
      futexes = [];
    }

-- which thread makes each step, and which one
abbrev pub choices : List Choice
choices =
    choose 1 0 begins ∷ on 1 ∷ on 1 ∷ choose 0 0 begins ∷ on 0 ∷ on 0 ∷ choose 2 0 begins ∷ on 2 ∷ on 2
    ∷ on 2 ∷ on 1 ∷ on 1 ∷ choose 2 0 begins ∷ on 2 ∷ on 2 ∷ choose 1 0 stops ∷ choose 1 2 goes
    ∷ choose 1 6 goes ∷ choose 1 0 skips ∷ choose 1 0 leaves ∷ on 1 ∷ on 2 ∷ on 2 ∷ choose 2 0 begins ∷ on 2
    ∷ on 2 ∷ on 2 ∷ on 2 ∷ on 2 ∷ on 2 ∷ on 2 ∷ on 2 ∷ choose 1 0 begins ∷ on 1 ∷ on 1 ∷ choose 2 0 exits
    ∷ choose 2 4 goes ∷ choose 2 0 skips ∷ on 2 ∷ on 0 ∷ choose 0 0 exits ∷ on 0 ∷ choose 0 0 skips ∷ on 0
    ∷ []

-- what the trace shows
abbrev pub events : List Event
events =
    by 1 (Act.Begin 2 1)
    ∷ by 1 (Act.Check (at 0x40000180) (Some Kind.Sem) Want.Init None)
    ∷ by 1 (Act.Work (at 0x40000180) Answer.Wait [])
    ∷ by 0 (Act.Begin 0 1)
    ∷ by 0 (Act.Check (at 0x40000080) (Some Kind.Thread) Want.Init None)
    ∷ by 0 (Act.Abort (thread 1) true)
    ∷ by 2 (Act.Begin 1 1)
    ∷ by 2 (Act.Check (at 0x40000180) (Some Kind.Sem) Want.Init None)
    ∷ by 2 (Act.Work (at 0x40000180) (Answer.Now Reply.Void) ((thread 1, Reply.Num 0) ∷ []))
    ∷ by 2 (Act.Answered Reply.Void)
    ∷ by 1 Act.Resume
    ∷ by 1 (Act.Answered (Reply.Num 0))
    ∷ by 2 (Act.Begin 1 2)
    ∷ by 2 (Act.Check (at 0x40000080) (Some Kind.Thread) Want.Init None)
    ∷ by 2 (Act.Join (thread 1) Answer.Wait)
    ∷ by 1 Act.Killed
    ∷ by 1 (Act.DropPair (thread 1) (at 0x40000080) Leftover.Kept)
    ∷ by 1 (Act.DropPair (thread 1) (at 0x40000180) Leftover.Kept)
    ∷ by 1 (Act.ClearInit (at 0x20080020))
    ∷ by 1 (Act.Left (thread 1) ((thread 2, Reply.Num 0) ∷ []))
    ∷ by 1 (Act.ClearInit (at 0x40000080))
    ∷ by 2 Act.Resume
    ∷ by 2 (Act.Answered (Reply.Num 0))
    ∷ by 2 (Act.Begin 1 3)
    ∷ by 2 (Act.Check (at 0x40000080) (Some Kind.Thread) Want.Uninit None)
    ∷ by 2 (Act.Check (at 0x20080020) (Some Kind.ThreadStack) Want.Uninit None)
    ∷ by 2 (Act.SetInit (at 0x40000080) SetSaid.Done)
    ∷ by 2 (Act.SetInit (at 0x20080020) SetSaid.Done)
    ∷ by 2 (Act.Erase (row 3))
    ∷ by 2 (Act.Own (thread 1) Given.Done)
    ∷ by 2 (Act.Start (thread 1))
    ∷ by 2 (Act.Answered (Reply.At (at 0x40000080)))
    ∷ by 1 (Act.Begin 2 1)
    ∷ by 1 (Act.Check (at 0x40000180) (Some Kind.Sem) Want.Init None)
    ∷ by 1 (Act.Work (at 0x40000180) Answer.Wait [])
    ∷ by 2 Act.Exit
    ∷ by 2 (Act.DropPair (thread 2) (at 0x40000100) Leftover.Kept)
    ∷ by 2 (Act.ClearInit (at 0x20080040))
    ∷ by 2 (Act.ClearInit (at 0x40000100))
    ∷ by 0 (Act.Answered Reply.Void)
    ∷ by 0 Act.Exit
    ∷ by 0 (Act.DropPair (thread 0) (at 0x40000000) Leftover.Kept)
    ∷ by 0 (Act.ClearInit (at 0x20080000))
    ∷ by 0 (Act.ClearInit (at 0x40000000)) ∷ []

abbrev pub dump : Dump
dump =
    record {
      threads = started 0 ended Mode.Supervisor (pos 0) 0
          ∷ started 1 (waits 6) Mode.Supervisor (pos 0) 0
          ∷ started 2 ended Mode.Supervisor (pos 0) 0 ∷ [];
      objects = record { row = 0; kind = Some Kind.Thread; stage = uninitialised; public = false; holders = []; content = nothing }
          ∷ record { row = 1; kind = Some Kind.ThreadStack; stage = uninitialised; public = false; holders = []; content = nothing }
          ∷ record { row = 2; kind = Some Kind.Thread; stage = initialised; public = false; holders = 1 ∷ []; content = nothing }
          ∷ record { row = 3; kind = Some Kind.ThreadStack; stage = initialised; public = false; holders = []; content = nothing }
          ∷ record { row = 4; kind = Some Kind.Thread; stage = uninitialised; public = false; holders = []; content = nothing }
          ∷ record { row = 5; kind = Some Kind.ThreadStack; stage = uninitialised; public = false; holders = []; content = nothing }
          ∷ record { row = 6; kind = Some Kind.Sem; stage = initialised; public = false; holders = []; content = filled 0 1 } ∷ [];
      domains = Some ((range 0x20000000 32, rights 27) ∷ []) ∷ [];
      pools = [];
      memory = [];
    }

pub runs : whole_run image choices ≡ record { events = events; is_lawful = true; is_complete = true; dump = dump }
unfolding blank
runs = refl

-- which processor makes each step
abbrev pub processors : List ℕ
processors =
    0 ∷ 0 ∷ 0 ∷ 0 ∷ 0 ∷ 0 ∷ 0 ∷ 1 ∷ 1 ∷ 1 ∷ 1 ∷ 2 ∷ 2 ∷ 2 ∷ 2 ∷ 2 ∷ 2 ∷ 2 ∷ 2 ∷ 2 ∷ 2 ∷ 2 ∷ 2 ∷ 2 ∷ 2 ∷ 2
    ∷ 2 ∷ 2 ∷ 2 ∷ 2 ∷ 2 ∷ 2 ∷ 2 ∷ 2 ∷ 2 ∷ 2 ∷ 2 ∷ 2 ∷ 2 ∷ 2 ∷ 2 ∷ 2 ∷ 2 ∷ 2 ∷ 2 ∷ 2 ∷ 2 ∷ 2 ∷ 2 ∷ 2 ∷ 2 ∷ 2
    ∷ 2 ∷ 2 ∷ 2 ∷ 2 ∷ 2 ∷ 2 ∷ 2 ∷ 2 ∷ 2 ∷ 2 ∷ 2 ∷ 2 ∷ 2 ∷ 2 ∷ 2 ∷ 2 ∷ 2 ∷ 2 ∷ 2 ∷ 2 ∷ 2 ∷ 2 ∷ 2 ∷ 2 ∷ 2 ∷ 2
    ∷ 2 ∷ 2 ∷ 2 ∷ 2 ∷ 2 ∷ 2 ∷ 2 ∷ 2 ∷ 2 ∷ 2 ∷ 2 ∷ 2 ∷ 2 ∷ 2 ∷ 2 ∷ 2 ∷ 2 ∷ 2 ∷ 2 ∷ 2 ∷ 2 ∷ 2 ∷ 2 ∷ 2 ∷ 2 ∷ 2
    ∷ 2 ∷ 2 ∷ 2 ∷ 2 ∷ 2 ∷ 2 ∷ 2 ∷ 2 ∷ 2 ∷ 2 ∷ 2 ∷ 2 ∷ 2 ∷ 2 ∷ 2 ∷ 2 ∷ 2 ∷ 2 ∷ 2 ∷ 2 ∷ 2 ∷ 2 ∷ 2 ∷ 2 ∷ 2 ∷ 2
    ∷ 2 ∷ 2 ∷ 2 ∷ 2 ∷ 2 ∷ 2 ∷ 2 ∷ 2 ∷ 2 ∷ 2 ∷ 2 ∷ 2 ∷ 2 ∷ 2 ∷ 2 ∷ 2 ∷ 2 ∷ 2 ∷ 2 ∷ 2 ∷ 2 ∷ 2 ∷ 2 ∷ 2 ∷ 2 ∷ 2
    ∷ 2 ∷ 2 ∷ 2 ∷ 2 ∷ 2 ∷ 2 ∷ 2 ∷ 2 ∷ 2 ∷ 2 ∷ 2 ∷ 2 ∷ 2 ∷ 2 ∷ 2 ∷ 2 ∷ 2 ∷ 2 ∷ 2 ∷ 2 ∷ 2 ∷ 2 ∷ 2 ∷ 2 ∷ 2 ∷ 2
    ∷ 2 ∷ 2 ∷ 2 ∷ 2 ∷ 2 ∷ 2 ∷ 2 ∷ 2 ∷ 2 ∷ 2 ∷ 2 ∷ 2 ∷ 2 ∷ 2 ∷ 2 ∷ 2 ∷ 2 ∷ 2 ∷ 2 ∷ 2 ∷ 2 ∷ 2 ∷ 2 ∷ 2 ∷ 2 ∷ 2
    ∷ 2 ∷ 2 ∷ 2 ∷ 2 ∷ 2 ∷ 2 ∷ 2 ∷ 2 ∷ 2 ∷ 2 ∷ 2 ∷ 2 ∷ 2 ∷ 2 ∷ 2 ∷ 2 ∷ 2 ∷ 2 ∷ 2 ∷ 2 ∷ 2 ∷ 2 ∷ 2 ∷ 2 ∷ 2 ∷ 2
    ∷ 2 ∷ 2 ∷ 2 ∷ 2 ∷ 2 ∷ 2 ∷ 2 ∷ 2 ∷ 2 ∷ 2 ∷ 2 ∷ 2 ∷ 2 ∷ 2 ∷ 2 ∷ 2 ∷ 2 ∷ 2 ∷ 2 ∷ 2 ∷ 2 ∷ 2 ∷ 2 ∷ 2 ∷ 2 ∷ 2
    ∷ 2 ∷ 2 ∷ 2 ∷ 2 ∷ 2 ∷ 2 ∷ 2 ∷ 2 ∷ 2 ∷ 2 ∷ 2 ∷ 2 ∷ 2 ∷ 2 ∷ 2 ∷ 2 ∷ 2 ∷ 2 ∷ 2 ∷ 2 ∷ 2 ∷ 2 ∷ 2 ∷ 2 ∷ 2 ∷ 2
    ∷ 2 ∷ 2 ∷ 2 ∷ 2 ∷ 2 ∷ 2 ∷ 2 ∷ 2 ∷ 2 ∷ 2 ∷ 2 ∷ 2 ∷ 2 ∷ 2 ∷ 2 ∷ 2 ∷ 2 ∷ 2 ∷ 2 ∷ 2 ∷ 2 ∷ 2 ∷ 2 ∷ 2 ∷ 2 ∷ 2
    ∷ 2 ∷ 2 ∷ 2 ∷ 2 ∷ 2 ∷ 2 ∷ 2 ∷ 2 ∷ 2 ∷ 2 ∷ 2 ∷ 2 ∷ 2 ∷ 2 ∷ 2 ∷ 2 ∷ 2 ∷ 1 ∷ 1 ∷ 1 ∷ 1 ∷ 1 ∷ 1 ∷ 1 ∷ 1 ∷ 1
    ∷ 1 ∷ 1 ∷ 1 ∷ 1 ∷ 1 ∷ 1 ∷ 1 ∷ 1 ∷ 1 ∷ 1 ∷ 1 ∷ 1 ∷ 1 ∷ 1 ∷ 1 ∷ 1 ∷ 1 ∷ 1 ∷ 1 ∷ 1 ∷ 1 ∷ 1 ∷ 1 ∷ 1 ∷ 1 ∷ 1
    ∷ 1 ∷ 1 ∷ 1 ∷ 1 ∷ 1 ∷ 1 ∷ 1 ∷ 1 ∷ 1 ∷ 1 ∷ 1 ∷ 1 ∷ 1 ∷ 1 ∷ 1 ∷ 1 ∷ 1 ∷ 1 ∷ 1 ∷ 1 ∷ 1 ∷ 1 ∷ 1 ∷ 1 ∷ 1 ∷ 1
    ∷ 1 ∷ 1 ∷ 1 ∷ 1 ∷ 1 ∷ 1 ∷ 1 ∷ 1 ∷ 1 ∷ 1 ∷ 1 ∷ 1 ∷ 1 ∷ 1 ∷ 1 ∷ 1 ∷ 1 ∷ 1 ∷ 1 ∷ 1 ∷ 1 ∷ 1 ∷ 1 ∷ 1 ∷ 1 ∷ 1
    ∷ 1 ∷ 1 ∷ 1 ∷ 1 ∷ 1 ∷ 1 ∷ 1 ∷ 1 ∷ 1 ∷ 1 ∷ 1 ∷ 1 ∷ 1 ∷ 1 ∷ 1 ∷ 1 ∷ 1 ∷ 1 ∷ 1 ∷ 1 ∷ 1 ∷ 1 ∷ 1 ∷ 1 ∷ 1 ∷ 1
    ∷ 1 ∷ 1 ∷ 1 ∷ 1 ∷ 1 ∷ 1 ∷ 1 ∷ 1 ∷ 1 ∷ 1 ∷ 1 ∷ 1 ∷ 1 ∷ 1 ∷ 1 ∷ 1 ∷ 1 ∷ 1 ∷ 1 ∷ 1 ∷ 1 ∷ 1 ∷ 1 ∷ 1 ∷ 1 ∷ 1
    ∷ []

-- the steps: processor, site, the step's number there, and which unseen step it is
abbrev pub steps : List Brief
steps =
    (0, 306, 1, 15) ∷ (0, 129, 1, 0) ∷ (0, 6, 1, 0) ∷ (0, 129, 2, 24) ∷ (0, 174, 1, 0) ∷ (0, 129, 3, 18)
    ∷ (0, 306, 2, 16) ∷ (1, 306, 3, 15) ∷ (1, 128, 1, 0) ∷ (1, 2, 1, 0) ∷ (1, 129, 4, 0) ∷ (2, 306, 4, 15)
    ∷ (2, 130, 1, 0) ∷ (2, 6, 2, 0) ∷ (2, 174, 2, 0) ∷ (2, 306, 5, 14) ∷ (2, 130, 2, 0) ∷ (2, 6, 3, 1)
    ∷ (2, 306, 6, 16) ∷ (2, 306, 7, 0) ∷ (2, 129, 5, 0) ∷ (2, 6, 4, 1) ∷ (2, 306, 8, 16) ∷ (2, 306, 9, 15)
    ∷ (2, 130, 3, 0) ∷ (2, 2, 2, 0) ∷ (2, 130, 4, 24) ∷ (2, 308, 1, 0) ∷ (2, 130, 5, 18) ∷ (2, 306, 10, 16)
    ∷ (2, 306, 11, 15) ∷ (2, 129, 6, 0) ∷ (2, 0, 1, 2) ∷ (2, 1, 1, 2) ∷ (2, 2, 3, 0) ∷ (2, 3, 1, 2)
    ∷ (2, 4, 1, 2) ∷ (2, 5, 1, 2) ∷ (2, 6, 5, 0) ∷ (2, 7, 1, 2) ∷ (2, 8, 1, 2) ∷ (2, 9, 1, 2) ∷ (2, 10, 1, 2)
    ∷ (2, 11, 1, 2) ∷ (2, 12, 1, 2) ∷ (2, 13, 1, 2) ∷ (2, 14, 1, 2) ∷ (2, 15, 1, 2) ∷ (2, 16, 1, 2)
    ∷ (2, 17, 1, 2) ∷ (2, 18, 1, 2) ∷ (2, 19, 1, 2) ∷ (2, 20, 1, 2) ∷ (2, 21, 1, 2) ∷ (2, 22, 1, 2)
    ∷ (2, 23, 1, 2) ∷ (2, 24, 1, 2) ∷ (2, 25, 1, 2) ∷ (2, 26, 1, 2) ∷ (2, 27, 1, 2) ∷ (2, 28, 1, 2)
    ∷ (2, 29, 1, 2) ∷ (2, 30, 1, 2) ∷ (2, 31, 1, 2) ∷ (2, 32, 1, 2) ∷ (2, 33, 1, 2) ∷ (2, 34, 1, 2)
    ∷ (2, 35, 1, 2) ∷ (2, 36, 1, 2) ∷ (2, 37, 1, 2) ∷ (2, 38, 1, 2) ∷ (2, 39, 1, 2) ∷ (2, 40, 1, 2)
    ∷ (2, 41, 1, 2) ∷ (2, 42, 1, 2) ∷ (2, 43, 1, 2) ∷ (2, 44, 1, 2) ∷ (2, 45, 1, 2) ∷ (2, 46, 1, 2)
    ∷ (2, 47, 1, 2) ∷ (2, 48, 1, 2) ∷ (2, 49, 1, 2) ∷ (2, 50, 1, 2) ∷ (2, 51, 1, 2) ∷ (2, 52, 1, 2)
    ∷ (2, 53, 1, 2) ∷ (2, 54, 1, 2) ∷ (2, 55, 1, 2) ∷ (2, 56, 1, 2) ∷ (2, 57, 1, 2) ∷ (2, 58, 1, 2)
    ∷ (2, 59, 1, 2) ∷ (2, 60, 1, 2) ∷ (2, 61, 1, 2) ∷ (2, 62, 1, 2) ∷ (2, 63, 1, 2) ∷ (2, 64, 1, 2)
    ∷ (2, 65, 1, 2) ∷ (2, 66, 1, 2) ∷ (2, 67, 1, 2) ∷ (2, 68, 1, 2) ∷ (2, 69, 1, 2) ∷ (2, 70, 1, 2)
    ∷ (2, 71, 1, 2) ∷ (2, 72, 1, 2) ∷ (2, 73, 1, 2) ∷ (2, 74, 1, 2) ∷ (2, 75, 1, 2) ∷ (2, 76, 1, 2)
    ∷ (2, 77, 1, 2) ∷ (2, 78, 1, 2) ∷ (2, 79, 1, 2) ∷ (2, 80, 1, 2) ∷ (2, 81, 1, 2) ∷ (2, 82, 1, 2)
    ∷ (2, 83, 1, 2) ∷ (2, 84, 1, 2) ∷ (2, 85, 1, 2) ∷ (2, 86, 1, 2) ∷ (2, 87, 1, 2) ∷ (2, 88, 1, 2)
    ∷ (2, 89, 1, 2) ∷ (2, 90, 1, 2) ∷ (2, 91, 1, 2) ∷ (2, 92, 1, 2) ∷ (2, 93, 1, 2) ∷ (2, 94, 1, 2)
    ∷ (2, 95, 1, 2) ∷ (2, 96, 1, 2) ∷ (2, 97, 1, 2) ∷ (2, 98, 1, 2) ∷ (2, 99, 1, 2) ∷ (2, 100, 1, 2)
    ∷ (2, 101, 1, 2) ∷ (2, 102, 1, 2) ∷ (2, 103, 1, 2) ∷ (2, 104, 1, 2) ∷ (2, 105, 1, 2) ∷ (2, 106, 1, 2)
    ∷ (2, 107, 1, 2) ∷ (2, 108, 1, 2) ∷ (2, 109, 1, 2) ∷ (2, 110, 1, 2) ∷ (2, 111, 1, 2) ∷ (2, 112, 1, 2)
    ∷ (2, 113, 1, 2) ∷ (2, 114, 1, 2) ∷ (2, 115, 1, 2) ∷ (2, 116, 1, 2) ∷ (2, 117, 1, 2) ∷ (2, 118, 1, 2)
    ∷ (2, 119, 1, 2) ∷ (2, 120, 1, 2) ∷ (2, 121, 1, 2) ∷ (2, 122, 1, 2) ∷ (2, 123, 1, 2) ∷ (2, 124, 1, 2)
    ∷ (2, 125, 1, 2) ∷ (2, 126, 1, 2) ∷ (2, 127, 1, 2) ∷ (2, 3, 2, 0) ∷ (2, 308, 2, 0) ∷ (2, 306, 12, 14)
    ∷ (2, 2, 4, 0) ∷ (2, 2, 5, 1) ∷ (2, 306, 13, 17) ∷ (2, 306, 14, 0) ∷ (2, 130, 6, 0) ∷ (2, 2, 6, 1)
    ∷ (2, 306, 15, 16) ∷ (2, 306, 16, 15) ∷ (2, 130, 7, 0) ∷ (2, 2, 7, 0) ∷ (2, 3, 3, 0) ∷ (2, 2, 8, 0)
    ∷ (2, 3, 4, 0) ∷ (2, 304, 1, 0) ∷ (2, 2, 9, 0) ∷ (2, 130, 8, 4) ∷ (2, 308, 3, 28) ∷ (2, 129, 7, 0)
    ∷ (2, 130, 9, 5) ∷ (2, 306, 17, 13) ∷ (2, 130, 10, 0) ∷ (2, 2, 10, 1) ∷ (2, 3, 5, 1) ∷ (2, 306, 18, 16)
    ∷ (2, 306, 19, 15) ∷ (2, 129, 8, 0) ∷ (2, 6, 6, 0) ∷ (2, 129, 9, 24) ∷ (2, 174, 3, 0) ∷ (2, 129, 10, 18)
    ∷ (2, 306, 20, 16) ∷ (2, 306, 21, 15) ∷ (2, 130, 11, 0) ∷ (2, 0, 2, 2) ∷ (2, 1, 2, 2) ∷ (2, 2, 11, 2)
    ∷ (2, 3, 6, 2) ∷ (2, 4, 2, 0) ∷ (2, 5, 2, 2) ∷ (2, 6, 7, 2) ∷ (2, 7, 2, 2) ∷ (2, 8, 2, 2) ∷ (2, 9, 2, 2)
    ∷ (2, 10, 2, 2) ∷ (2, 11, 2, 2) ∷ (2, 12, 2, 2) ∷ (2, 13, 2, 2) ∷ (2, 14, 2, 2) ∷ (2, 15, 2, 2)
    ∷ (2, 16, 2, 2) ∷ (2, 17, 2, 2) ∷ (2, 18, 2, 2) ∷ (2, 19, 2, 2) ∷ (2, 20, 2, 2) ∷ (2, 21, 2, 2)
    ∷ (2, 22, 2, 2) ∷ (2, 23, 2, 2) ∷ (2, 24, 2, 2) ∷ (2, 25, 2, 2) ∷ (2, 26, 2, 2) ∷ (2, 27, 2, 2)
    ∷ (2, 28, 2, 2) ∷ (2, 29, 2, 2) ∷ (2, 30, 2, 2) ∷ (2, 31, 2, 2) ∷ (2, 32, 2, 2) ∷ (2, 33, 2, 2)
    ∷ (2, 34, 2, 2) ∷ (2, 35, 2, 2) ∷ (2, 36, 2, 2) ∷ (2, 37, 2, 2) ∷ (2, 38, 2, 2) ∷ (2, 39, 2, 2)
    ∷ (2, 40, 2, 2) ∷ (2, 41, 2, 2) ∷ (2, 42, 2, 2) ∷ (2, 43, 2, 2) ∷ (2, 44, 2, 2) ∷ (2, 45, 2, 2)
    ∷ (2, 46, 2, 2) ∷ (2, 47, 2, 2) ∷ (2, 48, 2, 2) ∷ (2, 49, 2, 2) ∷ (2, 50, 2, 2) ∷ (2, 51, 2, 2)
    ∷ (2, 52, 2, 2) ∷ (2, 53, 2, 2) ∷ (2, 54, 2, 2) ∷ (2, 55, 2, 2) ∷ (2, 56, 2, 2) ∷ (2, 57, 2, 2)
    ∷ (2, 58, 2, 2) ∷ (2, 59, 2, 2) ∷ (2, 60, 2, 2) ∷ (2, 61, 2, 2) ∷ (2, 62, 2, 2) ∷ (2, 63, 2, 2)
    ∷ (2, 64, 2, 2) ∷ (2, 65, 2, 2) ∷ (2, 66, 2, 2) ∷ (2, 67, 2, 2) ∷ (2, 68, 2, 2) ∷ (2, 69, 2, 2)
    ∷ (2, 70, 2, 2) ∷ (2, 71, 2, 2) ∷ (2, 72, 2, 2) ∷ (2, 73, 2, 2) ∷ (2, 74, 2, 2) ∷ (2, 75, 2, 2)
    ∷ (2, 76, 2, 2) ∷ (2, 77, 2, 2) ∷ (2, 78, 2, 2) ∷ (2, 79, 2, 2) ∷ (2, 80, 2, 2) ∷ (2, 81, 2, 2)
    ∷ (2, 82, 2, 2) ∷ (2, 83, 2, 2) ∷ (2, 84, 2, 2) ∷ (2, 85, 2, 2) ∷ (2, 86, 2, 2) ∷ (2, 87, 2, 2)
    ∷ (2, 88, 2, 2) ∷ (2, 89, 2, 2) ∷ (2, 90, 2, 2) ∷ (2, 91, 2, 2) ∷ (2, 92, 2, 2) ∷ (2, 93, 2, 2)
    ∷ (2, 94, 2, 2) ∷ (2, 95, 2, 2) ∷ (2, 96, 2, 2) ∷ (2, 97, 2, 2) ∷ (2, 98, 2, 2) ∷ (2, 99, 2, 2)
    ∷ (2, 100, 2, 2) ∷ (2, 101, 2, 2) ∷ (2, 102, 2, 2) ∷ (2, 103, 2, 2) ∷ (2, 104, 2, 2) ∷ (2, 105, 2, 2)
    ∷ (2, 106, 2, 2) ∷ (2, 107, 2, 2) ∷ (2, 108, 2, 2) ∷ (2, 109, 2, 2) ∷ (2, 110, 2, 2) ∷ (2, 111, 2, 2)
    ∷ (2, 112, 2, 2) ∷ (2, 113, 2, 2) ∷ (2, 114, 2, 2) ∷ (2, 115, 2, 2) ∷ (2, 116, 2, 2) ∷ (2, 117, 2, 2)
    ∷ (2, 118, 2, 2) ∷ (2, 119, 2, 2) ∷ (2, 120, 2, 2) ∷ (2, 121, 2, 2) ∷ (2, 122, 2, 2) ∷ (2, 123, 2, 2)
    ∷ (2, 124, 2, 2) ∷ (2, 125, 2, 2) ∷ (2, 126, 2, 2) ∷ (2, 127, 2, 2) ∷ (2, 5, 3, 0) ∷ (2, 308, 4, 27)
    ∷ (2, 4, 3, 0) ∷ (2, 4, 4, 1) ∷ (2, 306, 22, 17) ∷ (1, 174, 4, 23) ∷ (1, 128, 2, 0) ∷ (1, 2, 12, 1)
    ∷ (1, 306, 23, 16) ∷ (1, 306, 24, 15) ∷ (1, 128, 3, 0) ∷ (1, 0, 3, 0) ∷ (1, 1, 3, 2) ∷ (1, 2, 13, 2)
    ∷ (1, 3, 7, 2) ∷ (1, 4, 5, 2) ∷ (1, 5, 4, 2) ∷ (1, 6, 8, 2) ∷ (1, 7, 3, 2) ∷ (1, 8, 3, 2) ∷ (1, 9, 3, 2)
    ∷ (1, 10, 3, 2) ∷ (1, 11, 3, 2) ∷ (1, 12, 3, 2) ∷ (1, 13, 3, 2) ∷ (1, 14, 3, 2) ∷ (1, 15, 3, 2)
    ∷ (1, 16, 3, 2) ∷ (1, 17, 3, 2) ∷ (1, 18, 3, 2) ∷ (1, 19, 3, 2) ∷ (1, 20, 3, 2) ∷ (1, 21, 3, 2)
    ∷ (1, 22, 3, 2) ∷ (1, 23, 3, 2) ∷ (1, 24, 3, 2) ∷ (1, 25, 3, 2) ∷ (1, 26, 3, 2) ∷ (1, 27, 3, 2)
    ∷ (1, 28, 3, 2) ∷ (1, 29, 3, 2) ∷ (1, 30, 3, 2) ∷ (1, 31, 3, 2) ∷ (1, 32, 3, 2) ∷ (1, 33, 3, 2)
    ∷ (1, 34, 3, 2) ∷ (1, 35, 3, 2) ∷ (1, 36, 3, 2) ∷ (1, 37, 3, 2) ∷ (1, 38, 3, 2) ∷ (1, 39, 3, 2)
    ∷ (1, 40, 3, 2) ∷ (1, 41, 3, 2) ∷ (1, 42, 3, 2) ∷ (1, 43, 3, 2) ∷ (1, 44, 3, 2) ∷ (1, 45, 3, 2)
    ∷ (1, 46, 3, 2) ∷ (1, 47, 3, 2) ∷ (1, 48, 3, 2) ∷ (1, 49, 3, 2) ∷ (1, 50, 3, 2) ∷ (1, 51, 3, 2)
    ∷ (1, 52, 3, 2) ∷ (1, 53, 3, 2) ∷ (1, 54, 3, 2) ∷ (1, 55, 3, 2) ∷ (1, 56, 3, 2) ∷ (1, 57, 3, 2)
    ∷ (1, 58, 3, 2) ∷ (1, 59, 3, 2) ∷ (1, 60, 3, 2) ∷ (1, 61, 3, 2) ∷ (1, 62, 3, 2) ∷ (1, 63, 3, 2)
    ∷ (1, 64, 3, 2) ∷ (1, 65, 3, 2) ∷ (1, 66, 3, 2) ∷ (1, 67, 3, 2) ∷ (1, 68, 3, 2) ∷ (1, 69, 3, 2)
    ∷ (1, 70, 3, 2) ∷ (1, 71, 3, 2) ∷ (1, 72, 3, 2) ∷ (1, 73, 3, 2) ∷ (1, 74, 3, 2) ∷ (1, 75, 3, 2)
    ∷ (1, 76, 3, 2) ∷ (1, 77, 3, 2) ∷ (1, 78, 3, 2) ∷ (1, 79, 3, 2) ∷ (1, 80, 3, 2) ∷ (1, 81, 3, 2)
    ∷ (1, 82, 3, 2) ∷ (1, 83, 3, 2) ∷ (1, 84, 3, 2) ∷ (1, 85, 3, 2) ∷ (1, 86, 3, 2) ∷ (1, 87, 3, 2)
    ∷ (1, 88, 3, 2) ∷ (1, 89, 3, 2) ∷ (1, 90, 3, 2) ∷ (1, 91, 3, 2) ∷ (1, 92, 3, 2) ∷ (1, 93, 3, 2)
    ∷ (1, 94, 3, 2) ∷ (1, 95, 3, 2) ∷ (1, 96, 3, 2) ∷ (1, 97, 3, 2) ∷ (1, 98, 3, 2) ∷ (1, 99, 3, 2)
    ∷ (1, 100, 3, 2) ∷ (1, 101, 3, 2) ∷ (1, 102, 3, 2) ∷ (1, 103, 3, 2) ∷ (1, 104, 3, 2) ∷ (1, 105, 3, 2)
    ∷ (1, 106, 3, 2) ∷ (1, 107, 3, 2) ∷ (1, 108, 3, 2) ∷ (1, 109, 3, 2) ∷ (1, 110, 3, 2) ∷ (1, 111, 3, 2)
    ∷ (1, 112, 3, 2) ∷ (1, 113, 3, 2) ∷ (1, 114, 3, 2) ∷ (1, 115, 3, 2) ∷ (1, 116, 3, 2) ∷ (1, 117, 3, 2)
    ∷ (1, 118, 3, 2) ∷ (1, 119, 3, 2) ∷ (1, 120, 3, 2) ∷ (1, 121, 3, 2) ∷ (1, 122, 3, 2) ∷ (1, 123, 3, 2)
    ∷ (1, 124, 3, 2) ∷ (1, 125, 3, 2) ∷ (1, 126, 3, 2) ∷ (1, 127, 3, 2) ∷ (1, 1, 4, 0) ∷ (1, 308, 5, 27)
    ∷ (1, 0, 4, 0) ∷ (1, 0, 5, 1) ∷ (1, 306, 25, 17) ∷ []

pub makes : whole_fine_run image 3 processors ≡ record { steps = steps; events = events; is_lawful = true; is_complete = true; dump = without_priorities dump }
unfolding blank
makes = refl

-- before each step and after the last one the relation holds
pub is_related : related_steps image (record { cpus = 3; threads = 0 ∷ 1 ∷ 2 ∷ []; rows = 0 ∷ 1 ∷ 2 ∷ 3 ∷ 4 ∷ 5 ∷ 6 ∷ []; domains = 0 ∷ [] }) processors choices ≡ 469
unfolding blank
is_related = refl
