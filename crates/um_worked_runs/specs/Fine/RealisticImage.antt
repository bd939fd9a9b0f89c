-- A small application on three processors: a domain is set up and entered, threads are created, and one sends a message to the other, which waits for it.
use Rattle.std.specs.Prelude.{◌≡◌, ℕ, true, false, List, [], ◌∷◌, Some, None, pos, codes, refl}
use Rattle.um_base.specs.declared.names.Kind.TheVariants as Kind
use Rattle.um_base.specs.declared.names.Mode.TheVariants as Mode
use Rattle.um_base.specs.declared.names.Mpu.TheVariants as Mpu
use Rattle.um_base.specs.declared.names.PartRef.TheVariants as PartRef
use Rattle.um_base.specs.declared.names.Policy.TheVariants as Policy
use Rattle.um_base.specs.declared.names.Ref.TheVariants as Ref
use Rattle.um_base.specs.declared.names.Reply.TheVariants as Reply
use Rattle.um_base.specs.declared.names.Term.TheVariants as Term
use Rattle.um_base.specs.declared.names.Timeout.TheVariants as Timeout
use Rattle.um_base.specs.declared.names.Want.TheVariants as Want
use Rattle.um_base.specs.declared.act.Act.TheVariants as Act
use Rattle.um_base.specs.declared.act.Answer.TheVariants as Answer
use Rattle.um_base.specs.declared.act.Found.TheVariants as Found
use Rattle.um_base.specs.declared.act.Given.TheVariants as Given
use Rattle.um_base.specs.declared.act.Leftover.TheVariants as Leftover
use Rattle.um_base.specs.declared.act.SetSaid.TheVariants as SetSaid
use Rattle.um_base.specs.declared.image.Setup.TheVariants as Setup
use Rattle.um_base.specs.declared.instr.Instr.TheVariants as Instr
use Rattle.um_base.specs.declared.act.Event.{Event}
use Rattle.um_base.specs.declared.image.Image.{Image}
use Rattle.um_base.specs.declared.image.Script.{Script}
use Rattle.um_worked_runs.specs.Fine.Left.{without_priorities}
use Rattle.um_worked_runs.specs.Fine.Brief.{Brief}
use Rattle.um_worked_runs.specs.Fine.Whole.{whole_fine_run}
use Rattle.um_worked_runs.specs.Fine.Related.{related_steps}
use Rattle.um_machine.specs.Run.{blank}
use Rattle.um_worked_runs.specs.Evaluate.{Choice, skips, begins, exits, goes}
use Rattle.um_worked_runs.specs.Dump.{Dump, started, ended, initialised, uninitialised, nothing, named, filled}
use Rattle.um_worked_runs.specs.Words.{at, thread, row, range, rights, by, on, choose}
use Rattle.um_worked_runs.specs.Whole.{whole_run}

abbrev pub script_0 : Script
script_0 =
    record {
      name = codes "go";
      lines = Instr.DomainInit (Ref.At 1) (PartRef.At 0 ∷ [])
          ∷ Instr.DomainMove (Ref.At 1) (Term.Num 0x40000000)
          ∷ Instr.Grant (Term.Num 0x40000180) (Term.Num 0x40000080)
          ∷ Instr.Grant (Term.Num 0x40000180) (Term.Num 0x40000100)
          ∷ Instr.Create (Term.Num 0x40000100) (Term.Num 0x20080600) (Term.Num 512) (Ref.At 1) (pos 5) (record { user = true; inherit = false; essential = false })
          ∷ Instr.Create (Term.Num 0x40000080) (Term.Num 0x20080400) (Term.Num 512) (Ref.At 2) (pos 5) (record { user = true; inherit = false; essential = false })
          ∷ Instr.UserMode (Ref.At 3) ∷ [];
    }

abbrev pub script_1 : Script
script_1 =
    record { name = codes "log"; lines = Instr.MsgqGet (Term.Num 0x40000180) (Term.Num 0x20000000) Timeout.Forever ∷ [] }

abbrev pub script_2 : Script
script_2 =
    record {
      name = codes "sense";
      lines = Instr.NameSet (Term.Num 0x40000080) (Term.Num 0x08000000)
          ∷ Instr.Store (Term.Num 0x20000010) 4 (Term.Num 0x0000002a)
          ∷ Instr.MsgqPut (Term.Num 0x40000180) (Term.Num 0x20000010) Timeout.Forever ∷ [];
    }

abbrev pub script_3 : Script
script_3 =
    record { name = codes "idle"; lines = Instr.Set 0 (Term.Num 1) ∷ [] }

abbrev pub image : Image
image =
    record {
      mpu = Mpu.V7;
      regions = 8;
      policy = Policy.Abort;
      rodata = Some (range 0x08000000 32);
      rodata_bytes = 115 ∷ 101 ∷ 110 ∷ 115 ∷ 111 ∷ 114 ∷ 0 ∷ [];
      pools = [];
      partitions = record { name = codes "p_app"; range = range 0x20000000 256; attr = rights 27; bytes = [] } ∷ [];
      domains = record { name = codes "boot_d"; parts = Some [] }
          ∷ record { name = codes "app"; parts = None } ∷ [];
      objects = record { name = codes "main"; kind = Kind.Thread; addr = at 0x40000000; public = false; setup = Setup.Thread (thread 0) }
          ∷ record { name = codes "main_s"; kind = Kind.ThreadStack; addr = at 0x20080000; public = false; setup = Setup.ThreadStack (range 0x20080000 1024) 1024 }
          ∷ record { name = codes "sensor"; kind = Kind.Thread; addr = at 0x40000080; public = false; setup = Setup.Thread (thread 1) }
          ∷ record { name = codes "sensor_s"; kind = Kind.ThreadStack; addr = at 0x20080400; public = false; setup = Setup.ThreadStack (range 0x20080400 512) 512 }
          ∷ record { name = codes "logger"; kind = Kind.Thread; addr = at 0x40000100; public = false; setup = Setup.Thread (thread 2) }
          ∷ record { name = codes "logger_s"; kind = Kind.ThreadStack; addr = at 0x20080600; public = false; setup = Setup.ThreadStack (range 0x20080600 512) 512 }
          ∷ record { name = codes "q"; kind = Kind.Msgq; addr = at 0x40000180; public = false; setup = Setup.Msgq 4 8 } ∷ [];
      boots = record { thread = row 0; stack = row 1; script = 0; mode = Mode.Supervisor; priority = pos 0; domain = 0; pool = None; grants = [] } ∷ [];
      scripts = script_0
          ∷ script_1
          ∷ script_2
          ∷ script_3 ∷ [];
      futexes = [];
    }

-- which thread makes each step, and which one
abbrev pub choices : List Choice
choices =
    choose 0 0 begins ∷ on 0 ∷ on 0 ∷ choose 0 0 begins ∷ on 0 ∷ on 0 ∷ on 0 ∷ choose 0 0 begins ∷ on 0
    ∷ on 0 ∷ on 0 ∷ on 0 ∷ choose 0 0 begins ∷ on 0 ∷ on 0 ∷ on 0 ∷ on 0 ∷ choose 0 0 begins ∷ on 0 ∷ on 0
    ∷ on 0 ∷ on 0 ∷ on 0 ∷ on 0 ∷ on 0 ∷ on 0 ∷ choose 2 0 begins ∷ on 2 ∷ choose 0 0 begins ∷ on 0 ∷ on 2
    ∷ on 0 ∷ on 0 ∷ on 2 ∷ on 0 ∷ on 0 ∷ on 0 ∷ on 0 ∷ on 0 ∷ choose 1 0 begins ∷ on 1 ∷ choose 0 0 begins
    ∷ on 0 ∷ on 0 ∷ on 1 ∷ choose 0 0 begins ∷ on 1 ∷ choose 0 0 exits ∷ on 0 ∷ on 1 ∷ choose 1 0 begins
    ∷ on 1 ∷ choose 1 0 begins ∷ on 1 ∷ on 1 ∷ on 1 ∷ on 2 ∷ on 1 ∷ on 2 ∷ choose 1 0 exits ∷ on 2
    ∷ choose 1 2 goes ∷ choose 2 0 exits ∷ choose 1 6 goes ∷ choose 2 4 goes ∷ choose 2 6 goes
    ∷ choose 0 0 skips ∷ on 0 ∷ choose 1 0 skips ∷ on 1 ∷ choose 2 0 skips ∷ on 2 ∷ []

-- what the trace shows
abbrev pub events : List Event
events =
    by 0 (Act.Begin 0 1)
    ∷ by 0 (Act.DomInit 1 (Reply.Num 0))
    ∷ by 0 (Act.Answered (Reply.Num 0))
    ∷ by 0 (Act.Begin 0 2)
    ∷ by 0 (Act.Check (at 0x40000000) (Some Kind.Thread) Want.Init None)
    ∷ by 0 (Act.DomMove 1 (thread 0) (Reply.Num 0))
    ∷ by 0 (Act.Answered (Reply.Num 0))
    ∷ by 0 (Act.Begin 0 3)
    ∷ by 0 (Act.Check (at 0x40000080) (Some Kind.Thread) Want.Any None)
    ∷ by 0 (Act.Check (at 0x40000180) None Want.Any None)
    ∷ by 0 (Act.Grant (thread 1) (at 0x40000180) Given.Done)
    ∷ by 0 (Act.Answered Reply.Void)
    ∷ by 0 (Act.Begin 0 4)
    ∷ by 0 (Act.Check (at 0x40000100) (Some Kind.Thread) Want.Any None)
    ∷ by 0 (Act.Check (at 0x40000180) None Want.Any None)
    ∷ by 0 (Act.Grant (thread 2) (at 0x40000180) Given.Done)
    ∷ by 0 (Act.Answered Reply.Void)
    ∷ by 0 (Act.Begin 0 5)
    ∷ by 0 (Act.Check (at 0x40000100) (Some Kind.Thread) Want.Uninit None)
    ∷ by 0 (Act.Check (at 0x20080600) (Some Kind.ThreadStack) Want.Uninit None)
    ∷ by 0 (Act.SetInit (at 0x40000100) SetSaid.Done)
    ∷ by 0 (Act.SetInit (at 0x20080600) SetSaid.Done)
    ∷ by 0 (Act.Erase (row 5))
    ∷ by 0 (Act.Own (thread 2) Given.Done)
    ∷ by 0 (Act.Start (thread 2))
    ∷ by 0 (Act.Answered (Reply.At (at 0x40000100)))
    ∷ by 2 (Act.Begin 1 1)
    ∷ by 2 (Act.Check (at 0x40000180) (Some Kind.Msgq) Want.Init None)
    ∷ by 0 (Act.Begin 0 6)
    ∷ by 0 (Act.Check (at 0x40000080) (Some Kind.Thread) Want.Uninit None)
    ∷ by 2 (Act.Probe (at 0x20000000) 4 true)
    ∷ by 0 (Act.Check (at 0x20080400) (Some Kind.ThreadStack) Want.Uninit None)
    ∷ by 0 (Act.SetInit (at 0x40000080) SetSaid.Done)
    ∷ by 2 (Act.Work (at 0x40000180) Answer.Wait [])
    ∷ by 0 (Act.SetInit (at 0x20080400) SetSaid.Done)
    ∷ by 0 (Act.Erase (row 3))
    ∷ by 0 (Act.Own (thread 1) Given.Done)
    ∷ by 0 (Act.Start (thread 1))
    ∷ by 0 (Act.Answered (Reply.At (at 0x40000080)))
    ∷ by 1 (Act.Begin 2 1)
    ∷ by 1 (Act.Check (at 0x40000080) (Some Kind.Thread) Want.Init None)
    ∷ by 0 (Act.Begin 0 7)
    ∷ by 0 (Act.Erase (row 1))
    ∷ by 0 Act.EnterUser
    ∷ by 1 (Act.CopyStr (at 0x08000000) (Found.Length 6))
    ∷ by 0 (Act.Begin 3 1)
    ∷ by 1 (Act.Named (thread 1))
    ∷ by 0 Act.Exit
    ∷ by 0 (Act.DropPair (thread 0) (at 0x40000000) Leftover.Kept)
    ∷ by 1 (Act.Answered (Reply.Num 0))
    ∷ by 1 (Act.Begin 2 2)
    ∷ by 1 (Act.Store (at 0x20000010) 4 0x2a)
    ∷ by 1 (Act.Begin 2 3)
    ∷ by 1 (Act.Check (at 0x40000180) (Some Kind.Msgq) Want.Init None)
    ∷ by 1 (Act.CopyIn (at 0x20000010) 4 true)
    ∷ by 1 (Act.Work (at 0x40000180) (Answer.Now (Reply.Num 0)) ((thread 2, Reply.Num 0) ∷ []))
    ∷ by 2 Act.Resume
    ∷ by 1 (Act.Answered (Reply.Num 0))
    ∷ by 2 (Act.CopyOut (at 0x20000000) 4 true)
    ∷ by 1 Act.Exit
    ∷ by 2 (Act.Answered (Reply.Num 0))
    ∷ by 1 (Act.DropPair (thread 1) (at 0x40000080) Leftover.Kept)
    ∷ by 2 Act.Exit
    ∷ by 1 (Act.DropPair (thread 1) (at 0x40000180) Leftover.Kept)
    ∷ by 2 (Act.DropPair (thread 2) (at 0x40000100) Leftover.Kept)
    ∷ by 2 (Act.DropPair (thread 2) (at 0x40000180) Leftover.Kept)
    ∷ by 0 (Act.ClearInit (at 0x20080000))
    ∷ by 0 (Act.ClearInit (at 0x40000000))
    ∷ by 1 (Act.ClearInit (at 0x20080400))
    ∷ by 1 (Act.ClearInit (at 0x40000080))
    ∷ by 2 (Act.ClearInit (at 0x20080600))
    ∷ by 2 (Act.ClearInit (at 0x40000100)) ∷ []

abbrev pub dump : Dump
dump =
    record {
      threads = started 0 ended Mode.User (pos 0) 1
          ∷ started 1 ended Mode.User (pos 5) 1
          ∷ started 2 ended Mode.User (pos 5) 1 ∷ [];
      objects = record { row = 0; kind = Some Kind.Thread; stage = uninitialised; public = false; holders = []; content = nothing }
          ∷ record { row = 1; kind = Some Kind.ThreadStack; stage = uninitialised; public = false; holders = []; content = nothing }
          ∷ record { row = 2; kind = Some Kind.Thread; stage = uninitialised; public = false; holders = []; content = named (115 ∷ 101 ∷ 110 ∷ 115 ∷ 111 ∷ 114 ∷ []) }
          ∷ record { row = 3; kind = Some Kind.ThreadStack; stage = uninitialised; public = false; holders = []; content = nothing }
          ∷ record { row = 4; kind = Some Kind.Thread; stage = uninitialised; public = false; holders = []; content = nothing }
          ∷ record { row = 5; kind = Some Kind.ThreadStack; stage = uninitialised; public = false; holders = []; content = nothing }
          ∷ record { row = 6; kind = Some Kind.Msgq; stage = initialised; public = false; holders = []; content = filled 0 8 } ∷ [];
      domains = Some []
          ∷ Some ((range 0x20000000 256, rights 27) ∷ []) ∷ [];
      pools = [];
      memory = (0x20000000, 42 ∷ 0 ∷ 0 ∷ 0 ∷ 0 ∷ 0 ∷ 0 ∷ 0 ∷ 0 ∷ 0 ∷ 0 ∷ 0 ∷ 0 ∷ 0 ∷ 0 ∷ 0 ∷ 42 ∷ 0 ∷ 0 ∷ 0 ∷ 0 ∷ 0 ∷ 0 ∷ 0 ∷ 0 ∷ 0 ∷ 0 ∷ 0 ∷ 0 ∷ 0 ∷ 0 ∷ 0 ∷ []) ∷ [];
    }

pub runs : whole_run image choices ≡ record { events = events; is_lawful = true; is_complete = true; dump = dump }
unfolding blank
runs = refl

-- which processor makes each step
abbrev pub processors : List ℕ
processors =
    0 ∷ 0 ∷ 0 ∷ 0 ∷ 0 ∷ 0 ∷ 0 ∷ 1 ∷ 1 ∷ 1 ∷ 1 ∷ 1 ∷ 1 ∷ 1 ∷ 1 ∷ 1 ∷ 1 ∷ 1 ∷ 1 ∷ 1 ∷ 1 ∷ 1 ∷ 1 ∷ 1 ∷ 1 ∷ 1
    ∷ 1 ∷ 1 ∷ 1 ∷ 1 ∷ 1 ∷ 1 ∷ 1 ∷ 1 ∷ 1 ∷ 1 ∷ 1 ∷ 1 ∷ 1 ∷ 1 ∷ 1 ∷ 1 ∷ 1 ∷ 1 ∷ 1 ∷ 1 ∷ 1 ∷ 2 ∷ 1 ∷ 1 ∷ 2 ∷ 1
    ∷ 1 ∷ 2 ∷ 0 ∷ 2 ∷ 2 ∷ 0 ∷ 2 ∷ 2 ∷ 0 ∷ 2 ∷ 2 ∷ 0 ∷ 2 ∷ 2 ∷ 0 ∷ 2 ∷ 2 ∷ 0 ∷ 2 ∷ 0 ∷ 0 ∷ 0 ∷ 0 ∷ 0 ∷ 0 ∷ 0
    ∷ 0 ∷ 1 ∷ 0 ∷ 0 ∷ 1 ∷ 0 ∷ 0 ∷ 1 ∷ 0 ∷ 0 ∷ 1 ∷ 0 ∷ 0 ∷ 1 ∷ 2 ∷ 1 ∷ 1 ∷ 2 ∷ 1 ∷ 1 ∷ 2 ∷ 0 ∷ 1 ∷ 0 ∷ 0 ∷ 1
    ∷ 0 ∷ 0 ∷ 1 ∷ 0 ∷ 0 ∷ 1 ∷ 2 ∷ 0 ∷ 2 ∷ 2 ∷ 0 ∷ 2 ∷ 2 ∷ 0 ∷ 2 ∷ 2 ∷ 0 ∷ 2 ∷ 2 ∷ 0 ∷ 1 ∷ 0 ∷ 0 ∷ 1 ∷ 0 ∷ 0
    ∷ 1 ∷ 0 ∷ 0 ∷ 1 ∷ 0 ∷ 0 ∷ 1 ∷ 0 ∷ 0 ∷ 1 ∷ 0 ∷ 0 ∷ 1 ∷ 0 ∷ 0 ∷ 1 ∷ 0 ∷ 0 ∷ 1 ∷ 0 ∷ 0 ∷ 1 ∷ 0 ∷ 0 ∷ 1 ∷ 0
    ∷ 0 ∷ 1 ∷ 2 ∷ 0 ∷ 1 ∷ 2 ∷ 0 ∷ 1 ∷ 2 ∷ 0 ∷ 1 ∷ 2 ∷ 0 ∷ 1 ∷ 2 ∷ 0 ∷ 1 ∷ 2 ∷ 0 ∷ 1 ∷ 2 ∷ 0 ∷ 1 ∷ 2 ∷ 0 ∷ 1
    ∷ 2 ∷ 0 ∷ 1 ∷ 2 ∷ 0 ∷ 1 ∷ 2 ∷ 0 ∷ 1 ∷ 2 ∷ 0 ∷ 1 ∷ 2 ∷ 0 ∷ 1 ∷ 2 ∷ 0 ∷ 1 ∷ 2 ∷ 0 ∷ 1 ∷ 2 ∷ 0 ∷ 1 ∷ 2 ∷ 0
    ∷ 1 ∷ 2 ∷ 0 ∷ 1 ∷ 2 ∷ 0 ∷ 1 ∷ 2 ∷ 0 ∷ 1 ∷ 2 ∷ 0 ∷ 1 ∷ 2 ∷ 0 ∷ 1 ∷ 2 ∷ 0 ∷ 1 ∷ 2 ∷ 0 ∷ 1 ∷ 2 ∷ 0 ∷ 1 ∷ 2
    ∷ 0 ∷ 1 ∷ 2 ∷ 0 ∷ 1 ∷ 2 ∷ 0 ∷ 1 ∷ 2 ∷ 0 ∷ 1 ∷ 2 ∷ 0 ∷ 1 ∷ 2 ∷ 0 ∷ 1 ∷ 2 ∷ 0 ∷ 1 ∷ 2 ∷ 0 ∷ 1 ∷ 2 ∷ 0 ∷ 1
    ∷ 2 ∷ 0 ∷ 1 ∷ 2 ∷ 0 ∷ 1 ∷ 2 ∷ 0 ∷ 1 ∷ 2 ∷ 0 ∷ 1 ∷ 2 ∷ 0 ∷ 1 ∷ 2 ∷ 0 ∷ 1 ∷ 2 ∷ 0 ∷ 1 ∷ 2 ∷ 0 ∷ 1 ∷ 2 ∷ 0
    ∷ 1 ∷ 2 ∷ 0 ∷ 1 ∷ 2 ∷ 0 ∷ 1 ∷ 2 ∷ 0 ∷ 1 ∷ 2 ∷ 0 ∷ 1 ∷ 2 ∷ 0 ∷ 1 ∷ 2 ∷ 0 ∷ 1 ∷ 2 ∷ 0 ∷ 1 ∷ 2 ∷ 0 ∷ 1 ∷ 2
    ∷ 0 ∷ 1 ∷ 2 ∷ 0 ∷ 1 ∷ 2 ∷ 0 ∷ 1 ∷ 2 ∷ 0 ∷ 1 ∷ 2 ∷ 0 ∷ 1 ∷ 2 ∷ 0 ∷ 1 ∷ 2 ∷ 0 ∷ 1 ∷ 2 ∷ 0 ∷ 1 ∷ 2 ∷ 0 ∷ 1
    ∷ 2 ∷ 0 ∷ 1 ∷ 2 ∷ 0 ∷ 1 ∷ 2 ∷ 0 ∷ 1 ∷ 2 ∷ 0 ∷ 1 ∷ 2 ∷ 0 ∷ 1 ∷ 2 ∷ 0 ∷ 1 ∷ 2 ∷ 0 ∷ 1 ∷ 2 ∷ 0 ∷ 1 ∷ 2 ∷ 0
    ∷ 1 ∷ 2 ∷ 0 ∷ 1 ∷ 2 ∷ 0 ∷ 1 ∷ 2 ∷ 0 ∷ 1 ∷ 2 ∷ 0 ∷ 1 ∷ 2 ∷ 0 ∷ 1 ∷ 2 ∷ 0 ∷ 1 ∷ 2 ∷ 0 ∷ 1 ∷ 2 ∷ 0 ∷ 1 ∷ 2
    ∷ 0 ∷ 1 ∷ 2 ∷ 0 ∷ 1 ∷ 2 ∷ 0 ∷ 1 ∷ 2 ∷ 0 ∷ 1 ∷ 2 ∷ 0 ∷ 1 ∷ 2 ∷ 0 ∷ 1 ∷ 2 ∷ 0 ∷ 1 ∷ 2 ∷ 0 ∷ 1 ∷ 2 ∷ 0 ∷ 1
    ∷ 2 ∷ 0 ∷ 1 ∷ 2 ∷ 0 ∷ 1 ∷ 2 ∷ 0 ∷ 1 ∷ 2 ∷ 0 ∷ 1 ∷ 2 ∷ 0 ∷ 1 ∷ 2 ∷ 0 ∷ 1 ∷ 2 ∷ 0 ∷ 1 ∷ 2 ∷ 0 ∷ 1 ∷ 2 ∷ 0
    ∷ 1 ∷ 2 ∷ 0 ∷ 1 ∷ 2 ∷ 0 ∷ 1 ∷ 2 ∷ 0 ∷ 1 ∷ 2 ∷ 0 ∷ 1 ∷ 2 ∷ 0 ∷ 1 ∷ 2 ∷ 0 ∷ 1 ∷ 2 ∷ 1 ∷ 1 ∷ 2 ∷ 1 ∷ 1 ∷ 2
    ∷ 1 ∷ 1 ∷ 2 ∷ 1 ∷ 1 ∷ 2 ∷ 1 ∷ 1 ∷ 2 ∷ 1 ∷ 1 ∷ 2 ∷ 1 ∷ 1 ∷ 2 ∷ 1 ∷ 1 ∷ 2 ∷ 1 ∷ 1 ∷ 2 ∷ 1 ∷ 1 ∷ 2 ∷ 1 ∷ 1
    ∷ 2 ∷ 1 ∷ 1 ∷ 2 ∷ 1 ∷ 1 ∷ 2 ∷ 1 ∷ 1 ∷ 2 ∷ 1 ∷ 1 ∷ 2 ∷ 1 ∷ 1 ∷ 2 ∷ 1 ∷ 1 ∷ 2 ∷ 1 ∷ 1 ∷ 2 ∷ 1 ∷ 2 ∷ 2 ∷ 2
    ∷ 2 ∷ 2 ∷ 2 ∷ 2 ∷ 2 ∷ 2 ∷ 2 ∷ 2 ∷ 2 ∷ 2 ∷ 2 ∷ 2 ∷ 2 ∷ 2 ∷ 2 ∷ 2 ∷ 2 ∷ 2 ∷ 2 ∷ 2 ∷ 2 ∷ 2 ∷ []

-- the steps: processor, site, the step's number there, and which unseen step it is
abbrev pub steps : List Brief
steps =
    (0, 306, 1, 15) ∷ (0, 128, 1, 0) ∷ (0, 161, 1, 8) ∷ (0, 297, 1, 10) ∷ (0, 161, 2, 0) ∷ (0, 128, 2, 0)
    ∷ (0, 306, 2, 16) ∷ (1, 306, 3, 15) ∷ (1, 128, 3, 0) ∷ (1, 0, 1, 0) ∷ (1, 161, 3, 6) ∷ (1, 161, 4, 7)
    ∷ (1, 128, 4, 0) ∷ (1, 128, 5, 0) ∷ (1, 0, 2, 1) ∷ (1, 306, 4, 16) ∷ (1, 306, 5, 15) ∷ (1, 128, 6, 0)
    ∷ (1, 2, 1, 0) ∷ (1, 6, 1, 0) ∷ (1, 6, 2, 0) ∷ (1, 128, 7, 0) ∷ (1, 2, 2, 1) ∷ (1, 6, 3, 1)
    ∷ (1, 306, 6, 16) ∷ (1, 306, 7, 15) ∷ (1, 128, 8, 0) ∷ (1, 4, 1, 0) ∷ (1, 6, 4, 0) ∷ (1, 6, 5, 0)
    ∷ (1, 128, 9, 0) ∷ (1, 4, 2, 1) ∷ (1, 6, 6, 1) ∷ (1, 306, 8, 16) ∷ (1, 306, 9, 15) ∷ (1, 128, 10, 0)
    ∷ (1, 4, 3, 0) ∷ (1, 5, 1, 0) ∷ (1, 4, 4, 0) ∷ (1, 5, 2, 0) ∷ (1, 304, 1, 0) ∷ (1, 4, 5, 0)
    ∷ (1, 128, 11, 4) ∷ (1, 308, 1, 28) ∷ (1, 130, 1, 0) ∷ (1, 128, 12, 5) ∷ (1, 306, 10, 13)
    ∷ (2, 306, 11, 15) ∷ (1, 128, 13, 0) ∷ (1, 4, 6, 1) ∷ (2, 130, 2, 0) ∷ (1, 5, 3, 1) ∷ (1, 306, 12, 16)
    ∷ (2, 6, 7, 0) ∷ (0, 306, 13, 15) ∷ (2, 174, 1, 11) ∷ (2, 130, 3, 4) ∷ (0, 128, 14, 0) ∷ (2, 161, 5, 6)
    ∷ (2, 297, 2, 9) ∷ (0, 2, 3, 0) ∷ (2, 304, 2, 0) ∷ (2, 161, 6, 7) ∷ (0, 3, 1, 0) ∷ (2, 130, 4, 5)
    ∷ (2, 130, 5, 24) ∷ (0, 2, 4, 0) ∷ (2, 174, 2, 0) ∷ (2, 130, 6, 18) ∷ (0, 3, 2, 0) ∷ (2, 306, 14, 16)
    ∷ (0, 304, 3, 0) ∷ (0, 2, 5, 0) ∷ (0, 128, 15, 4) ∷ (0, 308, 2, 28) ∷ (0, 129, 1, 0) ∷ (0, 128, 16, 5)
    ∷ (0, 306, 15, 13) ∷ (0, 128, 17, 0) ∷ (1, 306, 16, 15) ∷ (0, 2, 6, 1) ∷ (0, 3, 3, 1) ∷ (1, 129, 2, 0)
    ∷ (0, 306, 17, 16) ∷ (0, 306, 18, 15) ∷ (1, 2, 7, 0) ∷ (0, 128, 18, 0) ∷ (0, 304, 4, 0) ∷ (1, 129, 3, 4)
    ∷ (0, 128, 19, 0) ∷ (0, 306, 19, 16) ∷ (1, 161, 7, 6) ∷ (2, 306, 20, 15) ∷ (1, 297, 3, 9) ∷ (1, 304, 5, 0)
    ∷ (2, 128, 20, 0) ∷ (1, 161, 8, 7) ∷ (1, 129, 4, 5) ∷ (2, 306, 21, 16) ∷ (0, 306, 22, 15) ∷ (1, 170, 1, 0)
    ∷ (0, 128, 21, 0) ∷ (0, 0, 3, 0) ∷ (1, 129, 5, 0) ∷ (0, 1, 1, 2) ∷ (0, 2, 8, 2) ∷ (1, 2, 9, 1)
    ∷ (0, 3, 4, 2) ∷ (0, 4, 7, 2) ∷ (1, 306, 23, 16) ∷ (2, 306, 24, 15) ∷ (0, 5, 4, 2) ∷ (2, 129, 6, 0)
    ∷ (2, 129, 7, 4) ∷ (0, 6, 8, 2) ∷ (2, 161, 9, 6) ∷ (2, 297, 4, 9) ∷ (0, 7, 1, 2) ∷ (2, 304, 6, 0)
    ∷ (2, 161, 10, 7) ∷ (0, 8, 1, 2) ∷ (2, 129, 8, 5) ∷ (2, 306, 25, 16) ∷ (0, 9, 1, 2) ∷ (1, 306, 26, 15)
    ∷ (0, 10, 1, 2) ∷ (0, 11, 1, 2) ∷ (1, 129, 9, 0) ∷ (0, 12, 1, 2) ∷ (0, 13, 1, 2) ∷ (1, 6, 9, 0)
    ∷ (0, 14, 1, 2) ∷ (0, 15, 1, 2) ∷ (1, 174, 3, 11) ∷ (0, 16, 1, 2) ∷ (0, 17, 1, 2) ∷ (1, 129, 10, 4)
    ∷ (0, 18, 1, 2) ∷ (0, 19, 1, 2) ∷ (1, 161, 11, 6) ∷ (0, 20, 1, 2) ∷ (0, 21, 1, 2) ∷ (1, 304, 7, 0)
    ∷ (0, 22, 1, 2) ∷ (0, 23, 1, 2) ∷ (1, 161, 12, 7) ∷ (0, 24, 1, 2) ∷ (0, 25, 1, 2) ∷ (1, 129, 11, 5)
    ∷ (0, 26, 1, 2) ∷ (0, 27, 1, 2) ∷ (1, 129, 12, 24) ∷ (0, 28, 1, 2) ∷ (0, 29, 1, 2) ∷ (1, 174, 4, 0)
    ∷ (0, 30, 1, 2) ∷ (0, 31, 1, 2) ∷ (1, 306, 27, 14) ∷ (2, 306, 28, 0) ∷ (0, 32, 1, 2) ∷ (1, 129, 13, 0)
    ∷ (2, 130, 7, 4) ∷ (0, 33, 1, 2) ∷ (1, 6, 10, 1) ∷ (2, 161, 13, 6) ∷ (0, 34, 1, 2) ∷ (1, 306, 29, 16)
    ∷ (2, 297, 5, 9) ∷ (0, 35, 1, 2) ∷ (1, 306, 30, 15) ∷ (2, 304, 8, 0) ∷ (0, 36, 1, 2) ∷ (1, 129, 14, 0)
    ∷ (2, 161, 14, 7) ∷ (0, 37, 1, 2) ∷ (1, 0, 4, 2) ∷ (2, 130, 8, 5) ∷ (0, 38, 1, 2) ∷ (1, 1, 2, 2)
    ∷ (2, 130, 9, 0) ∷ (0, 39, 1, 2) ∷ (1, 2, 10, 0) ∷ (2, 6, 11, 1) ∷ (0, 40, 1, 2) ∷ (1, 3, 5, 2)
    ∷ (2, 306, 31, 16) ∷ (0, 41, 1, 2) ∷ (1, 4, 8, 2) ∷ (2, 306, 32, 15) ∷ (0, 42, 1, 2) ∷ (1, 5, 5, 2)
    ∷ (2, 130, 10, 0) ∷ (0, 43, 1, 2) ∷ (1, 6, 12, 0) ∷ (2, 0, 5, 2) ∷ (0, 44, 1, 2) ∷ (1, 7, 2, 2)
    ∷ (2, 1, 3, 2) ∷ (0, 45, 1, 2) ∷ (1, 8, 2, 2) ∷ (2, 2, 11, 2) ∷ (0, 46, 1, 2) ∷ (1, 9, 2, 2)
    ∷ (2, 3, 6, 2) ∷ (0, 47, 1, 2) ∷ (1, 10, 2, 2) ∷ (2, 4, 9, 0) ∷ (0, 48, 1, 2) ∷ (1, 11, 2, 2)
    ∷ (2, 5, 6, 2) ∷ (0, 49, 1, 2) ∷ (1, 12, 2, 2) ∷ (2, 6, 13, 0) ∷ (0, 50, 1, 2) ∷ (1, 13, 2, 2)
    ∷ (2, 7, 3, 2) ∷ (0, 51, 1, 2) ∷ (1, 14, 2, 2) ∷ (2, 8, 3, 2) ∷ (0, 52, 1, 2) ∷ (1, 15, 2, 2)
    ∷ (2, 9, 3, 2) ∷ (0, 53, 1, 2) ∷ (1, 16, 2, 2) ∷ (2, 10, 3, 2) ∷ (0, 54, 1, 2) ∷ (1, 17, 2, 2)
    ∷ (2, 11, 3, 2) ∷ (0, 55, 1, 2) ∷ (1, 18, 2, 2) ∷ (2, 12, 3, 2) ∷ (0, 56, 1, 2) ∷ (1, 19, 2, 2)
    ∷ (2, 13, 3, 2) ∷ (0, 57, 1, 2) ∷ (1, 20, 2, 2) ∷ (2, 14, 3, 2) ∷ (0, 58, 1, 2) ∷ (1, 21, 2, 2)
    ∷ (2, 15, 3, 2) ∷ (0, 59, 1, 2) ∷ (1, 22, 2, 2) ∷ (2, 16, 3, 2) ∷ (0, 60, 1, 2) ∷ (1, 23, 2, 2)
    ∷ (2, 17, 3, 2) ∷ (0, 61, 1, 2) ∷ (1, 24, 2, 2) ∷ (2, 18, 3, 2) ∷ (0, 62, 1, 2) ∷ (1, 25, 2, 2)
    ∷ (2, 19, 3, 2) ∷ (0, 63, 1, 2) ∷ (1, 26, 2, 2) ∷ (2, 20, 3, 2) ∷ (0, 64, 1, 2) ∷ (1, 27, 2, 2)
    ∷ (2, 21, 3, 2) ∷ (0, 65, 1, 2) ∷ (1, 28, 2, 2) ∷ (2, 22, 3, 2) ∷ (0, 66, 1, 2) ∷ (1, 29, 2, 2)
    ∷ (2, 23, 3, 2) ∷ (0, 67, 1, 2) ∷ (1, 30, 2, 2) ∷ (2, 24, 3, 2) ∷ (0, 68, 1, 2) ∷ (1, 31, 2, 2)
    ∷ (2, 25, 3, 2) ∷ (0, 69, 1, 2) ∷ (1, 32, 2, 2) ∷ (2, 26, 3, 2) ∷ (0, 70, 1, 2) ∷ (1, 33, 2, 2)
    ∷ (2, 27, 3, 2) ∷ (0, 71, 1, 2) ∷ (1, 34, 2, 2) ∷ (2, 28, 3, 2) ∷ (0, 72, 1, 2) ∷ (1, 35, 2, 2)
    ∷ (2, 29, 3, 2) ∷ (0, 73, 1, 2) ∷ (1, 36, 2, 2) ∷ (2, 30, 3, 2) ∷ (0, 74, 1, 2) ∷ (1, 37, 2, 2)
    ∷ (2, 31, 3, 2) ∷ (0, 75, 1, 2) ∷ (1, 38, 2, 2) ∷ (2, 32, 3, 2) ∷ (0, 76, 1, 2) ∷ (1, 39, 2, 2)
    ∷ (2, 33, 3, 2) ∷ (0, 77, 1, 2) ∷ (1, 40, 2, 2) ∷ (2, 34, 3, 2) ∷ (0, 78, 1, 2) ∷ (1, 41, 2, 2)
    ∷ (2, 35, 3, 2) ∷ (0, 79, 1, 2) ∷ (1, 42, 2, 2) ∷ (2, 36, 3, 2) ∷ (0, 80, 1, 2) ∷ (1, 43, 2, 2)
    ∷ (2, 37, 3, 2) ∷ (0, 81, 1, 2) ∷ (1, 44, 2, 2) ∷ (2, 38, 3, 2) ∷ (0, 82, 1, 2) ∷ (1, 45, 2, 2)
    ∷ (2, 39, 3, 2) ∷ (0, 83, 1, 2) ∷ (1, 46, 2, 2) ∷ (2, 40, 3, 2) ∷ (0, 84, 1, 2) ∷ (1, 47, 2, 2)
    ∷ (2, 41, 3, 2) ∷ (0, 85, 1, 2) ∷ (1, 48, 2, 2) ∷ (2, 42, 3, 2) ∷ (0, 86, 1, 2) ∷ (1, 49, 2, 2)
    ∷ (2, 43, 3, 2) ∷ (0, 87, 1, 2) ∷ (1, 50, 2, 2) ∷ (2, 44, 3, 2) ∷ (0, 88, 1, 2) ∷ (1, 51, 2, 2)
    ∷ (2, 45, 3, 2) ∷ (0, 89, 1, 2) ∷ (1, 52, 2, 2) ∷ (2, 46, 3, 2) ∷ (0, 90, 1, 2) ∷ (1, 53, 2, 2)
    ∷ (2, 47, 3, 2) ∷ (0, 91, 1, 2) ∷ (1, 54, 2, 2) ∷ (2, 48, 3, 2) ∷ (0, 92, 1, 2) ∷ (1, 55, 2, 2)
    ∷ (2, 49, 3, 2) ∷ (0, 93, 1, 2) ∷ (1, 56, 2, 2) ∷ (2, 50, 3, 2) ∷ (0, 94, 1, 2) ∷ (1, 57, 2, 2)
    ∷ (2, 51, 3, 2) ∷ (0, 95, 1, 2) ∷ (1, 58, 2, 2) ∷ (2, 52, 3, 2) ∷ (0, 96, 1, 2) ∷ (1, 59, 2, 2)
    ∷ (2, 53, 3, 2) ∷ (0, 97, 1, 2) ∷ (1, 60, 2, 2) ∷ (2, 54, 3, 2) ∷ (0, 98, 1, 2) ∷ (1, 61, 2, 2)
    ∷ (2, 55, 3, 2) ∷ (0, 99, 1, 2) ∷ (1, 62, 2, 2) ∷ (2, 56, 3, 2) ∷ (0, 100, 1, 2) ∷ (1, 63, 2, 2)
    ∷ (2, 57, 3, 2) ∷ (0, 101, 1, 2) ∷ (1, 64, 2, 2) ∷ (2, 58, 3, 2) ∷ (0, 102, 1, 2) ∷ (1, 65, 2, 2)
    ∷ (2, 59, 3, 2) ∷ (0, 103, 1, 2) ∷ (1, 66, 2, 2) ∷ (2, 60, 3, 2) ∷ (0, 104, 1, 2) ∷ (1, 67, 2, 2)
    ∷ (2, 61, 3, 2) ∷ (0, 105, 1, 2) ∷ (1, 68, 2, 2) ∷ (2, 62, 3, 2) ∷ (0, 106, 1, 2) ∷ (1, 69, 2, 2)
    ∷ (2, 63, 3, 2) ∷ (0, 107, 1, 2) ∷ (1, 70, 2, 2) ∷ (2, 64, 3, 2) ∷ (0, 108, 1, 2) ∷ (1, 71, 2, 2)
    ∷ (2, 65, 3, 2) ∷ (0, 109, 1, 2) ∷ (1, 72, 2, 2) ∷ (2, 66, 3, 2) ∷ (0, 110, 1, 2) ∷ (1, 73, 2, 2)
    ∷ (2, 67, 3, 2) ∷ (0, 111, 1, 2) ∷ (1, 74, 2, 2) ∷ (2, 68, 3, 2) ∷ (0, 112, 1, 2) ∷ (1, 75, 2, 2)
    ∷ (2, 69, 3, 2) ∷ (0, 113, 1, 2) ∷ (1, 76, 2, 2) ∷ (2, 70, 3, 2) ∷ (0, 114, 1, 2) ∷ (1, 77, 2, 2)
    ∷ (2, 71, 3, 2) ∷ (0, 115, 1, 2) ∷ (1, 78, 2, 2) ∷ (2, 72, 3, 2) ∷ (0, 116, 1, 2) ∷ (1, 79, 2, 2)
    ∷ (2, 73, 3, 2) ∷ (0, 117, 1, 2) ∷ (1, 80, 2, 2) ∷ (2, 74, 3, 2) ∷ (0, 118, 1, 2) ∷ (1, 81, 2, 2)
    ∷ (2, 75, 3, 2) ∷ (0, 119, 1, 2) ∷ (1, 82, 2, 2) ∷ (2, 76, 3, 2) ∷ (0, 120, 1, 2) ∷ (1, 83, 2, 2)
    ∷ (2, 77, 3, 2) ∷ (0, 121, 1, 2) ∷ (1, 84, 2, 2) ∷ (2, 78, 3, 2) ∷ (0, 122, 1, 2) ∷ (1, 85, 2, 2)
    ∷ (2, 79, 3, 2) ∷ (0, 123, 1, 2) ∷ (1, 86, 2, 2) ∷ (2, 80, 3, 2) ∷ (0, 124, 1, 2) ∷ (1, 87, 2, 2)
    ∷ (2, 81, 3, 2) ∷ (0, 125, 1, 2) ∷ (1, 88, 2, 2) ∷ (2, 82, 3, 2) ∷ (0, 126, 1, 2) ∷ (1, 89, 2, 2)
    ∷ (2, 83, 3, 2) ∷ (0, 127, 1, 2) ∷ (1, 90, 2, 2) ∷ (2, 84, 3, 2) ∷ (0, 1, 4, 0) ∷ (1, 91, 2, 2)
    ∷ (2, 85, 3, 2) ∷ (0, 308, 3, 27) ∷ (1, 92, 2, 2) ∷ (2, 86, 3, 2) ∷ (0, 0, 6, 0) ∷ (1, 93, 2, 2)
    ∷ (2, 87, 3, 2) ∷ (0, 0, 7, 1) ∷ (1, 94, 2, 2) ∷ (2, 88, 3, 2) ∷ (0, 306, 33, 17) ∷ (1, 95, 2, 2)
    ∷ (2, 89, 3, 2) ∷ (1, 96, 2, 2) ∷ (1, 97, 2, 2) ∷ (2, 90, 3, 2) ∷ (1, 98, 2, 2) ∷ (1, 99, 2, 2)
    ∷ (2, 91, 3, 2) ∷ (1, 100, 2, 2) ∷ (1, 101, 2, 2) ∷ (2, 92, 3, 2) ∷ (1, 102, 2, 2) ∷ (1, 103, 2, 2)
    ∷ (2, 93, 3, 2) ∷ (1, 104, 2, 2) ∷ (1, 105, 2, 2) ∷ (2, 94, 3, 2) ∷ (1, 106, 2, 2) ∷ (1, 107, 2, 2)
    ∷ (2, 95, 3, 2) ∷ (1, 108, 2, 2) ∷ (1, 109, 2, 2) ∷ (2, 96, 3, 2) ∷ (1, 110, 2, 2) ∷ (1, 111, 2, 2)
    ∷ (2, 97, 3, 2) ∷ (1, 112, 2, 2) ∷ (1, 113, 2, 2) ∷ (2, 98, 3, 2) ∷ (1, 114, 2, 2) ∷ (1, 115, 2, 2)
    ∷ (2, 99, 3, 2) ∷ (1, 116, 2, 2) ∷ (1, 117, 2, 2) ∷ (2, 100, 3, 2) ∷ (1, 118, 2, 2) ∷ (1, 119, 2, 2)
    ∷ (2, 101, 3, 2) ∷ (1, 120, 2, 2) ∷ (1, 121, 2, 2) ∷ (2, 102, 3, 2) ∷ (1, 122, 2, 2) ∷ (1, 123, 2, 2)
    ∷ (2, 103, 3, 2) ∷ (1, 124, 2, 2) ∷ (1, 125, 2, 2) ∷ (2, 104, 3, 2) ∷ (1, 126, 2, 2) ∷ (1, 127, 2, 2)
    ∷ (2, 105, 3, 2) ∷ (1, 3, 7, 0) ∷ (1, 308, 4, 27) ∷ (2, 106, 3, 2) ∷ (1, 2, 12, 0) ∷ (1, 2, 13, 1)
    ∷ (2, 107, 3, 2) ∷ (1, 306, 34, 17) ∷ (2, 108, 3, 2) ∷ (2, 109, 3, 2) ∷ (2, 110, 3, 2) ∷ (2, 111, 3, 2)
    ∷ (2, 112, 3, 2) ∷ (2, 113, 3, 2) ∷ (2, 114, 3, 2) ∷ (2, 115, 3, 2) ∷ (2, 116, 3, 2) ∷ (2, 117, 3, 2)
    ∷ (2, 118, 3, 2) ∷ (2, 119, 3, 2) ∷ (2, 120, 3, 2) ∷ (2, 121, 3, 2) ∷ (2, 122, 3, 2) ∷ (2, 123, 3, 2)
    ∷ (2, 124, 3, 2) ∷ (2, 125, 3, 2) ∷ (2, 126, 3, 2) ∷ (2, 127, 3, 2) ∷ (2, 5, 7, 0) ∷ (2, 308, 5, 27)
    ∷ (2, 4, 10, 0) ∷ (2, 4, 11, 1) ∷ (2, 306, 35, 17) ∷ []

pub makes : whole_fine_run image 3 processors ≡ record { steps = steps; events = events; is_lawful = true; is_complete = true; dump = without_priorities dump }
unfolding blank
makes = refl

-- before each step and after the last one the relation holds
pub is_related : related_steps image (record { cpus = 3; threads = 0 ∷ 1 ∷ 2 ∷ []; rows = 0 ∷ 1 ∷ 2 ∷ 3 ∷ 4 ∷ 5 ∷ 6 ∷ []; domains = 0 ∷ 1 ∷ [] }) processors choices ≡ 543
unfolding blank
is_related = refl
