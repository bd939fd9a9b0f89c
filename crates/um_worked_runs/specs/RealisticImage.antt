-- A supervisor sets up a domain and two user threads, which pass a message, and becomes a user itself.
use Rattle.std.specs.Prelude.{◌≡◌, true, false, List, [], ◌∷◌, Some, None, pos, codes, refl}
use Rattle.um_base.specs.declared.names.Kind.TheVariants as Kind
use Rattle.um_base.specs.declared.names.Mode.TheVariants as Mode
use Rattle.um_base.specs.declared.names.Mpu.TheVariants as Mpu
use Rattle.um_base.specs.declared.names.PartRef.TheVariants as PartRef
use Rattle.um_base.specs.declared.names.Policy.TheVariants as Policy
use Rattle.um_base.specs.declared.names.Ref.TheVariants as Ref
use Rattle.um_base.specs.declared.names.Reply.TheVariants as Reply
use Rattle.um_base.specs.declared.names.Term.TheVariants as Term
use Rattle.um_base.specs.declared.names.Timeout.TheVariants as Timeout
use Rattle.um_base.specs.declared.names.Want.TheVariants as Want
use Rattle.um_base.specs.declared.act.Act.TheVariants as Act
use Rattle.um_base.specs.declared.act.Answer.TheVariants as Answer
use Rattle.um_base.specs.declared.act.Found.TheVariants as Found
use Rattle.um_base.specs.declared.act.Given.TheVariants as Given
use Rattle.um_base.specs.declared.act.Leftover.TheVariants as Leftover
use Rattle.um_base.specs.declared.act.SetSaid.TheVariants as SetSaid
use Rattle.um_base.specs.declared.image.Setup.TheVariants as Setup
use Rattle.um_base.specs.declared.instr.Instr.TheVariants as Instr
use Rattle.um_base.specs.declared.act.Event.{Event}
use Rattle.um_base.specs.declared.image.Image.{Image}
use Rattle.um_base.specs.declared.image.Script.{Script}
use Rattle.um_base.specs.Lawful.{IsLawful}
use Rattle.um_base.specs.Weight.{weight}
use Rattle.std.proofs.Math.Bridge.{le_by_compare, IsLe}
use Rattle.um_machine.specs.Run.{blank}
use Rattle.um_worked_runs.specs.Evaluate.{Choice, skips, begins, exits, goes}
use Rattle.um_worked_runs.specs.Dump.{Dump, started, ended, initialised, uninitialised, nothing, named, filled}
use Rattle.um_worked_runs.specs.Words.{at, thread, row, range, rights, by, on, choose}
use Rattle.um_worked_runs.specs.Whole.{whole_run}

abbrev pub script_0 : Script
script_0 =
    record {
      name = codes "go";
      lines = Instr.DomainInit (Ref.At 1) (PartRef.At 0 ∷ [])
          ∷ Instr.DomainMove (Ref.At 1) (Term.Num 0x40000000)
          ∷ Instr.Grant (Term.Num 0x40000180) (Term.Num 0x40000080)
          ∷ Instr.Grant (Term.Num 0x40000180) (Term.Num 0x40000100)
          ∷ Instr.Create (Term.Num 0x40000100) (Term.Num 0x20080600) (Term.Num 512) (Ref.At 1) (pos 5) (record { user = true; inherit = false; essential = false })
          ∷ Instr.Create (Term.Num 0x40000080) (Term.Num 0x20080400) (Term.Num 512) (Ref.At 2) (pos 5) (record { user = true; inherit = false; essential = false })
          ∷ Instr.UserMode (Ref.At 3) ∷ [];
    }

abbrev pub script_1 : Script
script_1 =
    record { name = codes "log"; lines = Instr.MsgqGet (Term.Num 0x40000180) (Term.Num 0x20000000) Timeout.Forever ∷ [] }

abbrev pub script_2 : Script
script_2 =
    record {
      name = codes "sense";
      lines = Instr.NameSet (Term.Num 0x40000080) (Term.Num 0x08000000)
          ∷ Instr.Store (Term.Num 0x20000010) 4 (Term.Num 0x0000002a)
          ∷ Instr.MsgqPut (Term.Num 0x40000180) (Term.Num 0x20000010) Timeout.Forever ∷ [];
    }

abbrev pub script_3 : Script
script_3 =
    record { name = codes "idle"; lines = Instr.Set 0 (Term.Num 1) ∷ [] }

abbrev pub image : Image
image =
    record {
      mpu = Mpu.V7;
      regions = 8;
      policy = Policy.Abort;
      rodata = Some (range 0x08000000 32);
      rodata_bytes = 115 ∷ 101 ∷ 110 ∷ 115 ∷ 111 ∷ 114 ∷ 0 ∷ [];
      pools = [];
      partitions = record { name = codes "p_app"; range = range 0x20000000 256; attr = rights 27; bytes = [] } ∷ [];
      domains = record { name = codes "boot_d"; parts = Some [] }
          ∷ record { name = codes "app"; parts = None } ∷ [];
      objects = record { name = codes "main"; kind = Kind.Thread; addr = at 0x40000000; public = false; setup = Setup.Thread (thread 0) }
          ∷ record { name = codes "main_s"; kind = Kind.ThreadStack; addr = at 0x20080000; public = false; setup = Setup.ThreadStack (range 0x20080000 1024) 1024 }
          ∷ record { name = codes "sensor"; kind = Kind.Thread; addr = at 0x40000080; public = false; setup = Setup.Thread (thread 1) }
          ∷ record { name = codes "sensor_s"; kind = Kind.ThreadStack; addr = at 0x20080400; public = false; setup = Setup.ThreadStack (range 0x20080400 512) 512 }
          ∷ record { name = codes "logger"; kind = Kind.Thread; addr = at 0x40000100; public = false; setup = Setup.Thread (thread 2) }
          ∷ record { name = codes "logger_s"; kind = Kind.ThreadStack; addr = at 0x20080600; public = false; setup = Setup.ThreadStack (range 0x20080600 512) 512 }
          ∷ record { name = codes "q"; kind = Kind.Msgq; addr = at 0x40000180; public = false; setup = Setup.Msgq 4 8 } ∷ [];
      boots = record { thread = row 0; stack = row 1; script = 0; mode = Mode.Supervisor; priority = pos 0; domain = 0; pool = None; grants = [] } ∷ [];
      scripts = script_0
          ∷ script_1
          ∷ script_2
          ∷ script_3 ∷ [];
      futexes = [];
    }

-- which thread makes each step, and which one
abbrev pub choices : List Choice
choices =
    choose 0 0 begins ∷ on 0 ∷ on 0 ∷ choose 0 0 begins ∷ on 0 ∷ on 0 ∷ on 0 ∷ choose 0 0 begins ∷ on 0
    ∷ on 0 ∷ on 0 ∷ on 0 ∷ choose 0 0 begins ∷ on 0 ∷ on 0 ∷ on 0 ∷ on 0 ∷ choose 0 0 begins ∷ on 0 ∷ on 0
    ∷ on 0 ∷ on 0 ∷ on 0 ∷ on 0 ∷ on 0 ∷ on 0 ∷ choose 2 0 begins ∷ on 2 ∷ on 2 ∷ on 2 ∷ choose 0 0 begins
    ∷ on 0 ∷ on 0 ∷ on 0 ∷ on 0 ∷ on 0 ∷ on 0 ∷ on 0 ∷ on 0 ∷ choose 1 0 begins ∷ on 1 ∷ on 1 ∷ on 1 ∷ on 1
    ∷ choose 0 0 begins ∷ on 0 ∷ on 0 ∷ choose 1 0 begins ∷ on 1 ∷ choose 0 0 begins ∷ choose 1 0 begins
    ∷ on 1 ∷ on 1 ∷ on 1 ∷ on 1 ∷ choose 0 0 exits ∷ on 0 ∷ choose 0 0 skips ∷ on 0 ∷ on 2 ∷ on 2 ∷ on 2
    ∷ choose 1 0 exits ∷ choose 1 2 goes ∷ choose 1 6 goes ∷ choose 1 0 skips ∷ on 1 ∷ choose 2 0 exits
    ∷ choose 2 4 goes ∷ choose 2 6 goes ∷ choose 2 0 skips ∷ on 2 ∷ []

-- what the trace shows
abbrev pub events : List Event
events =
    by 0 (Act.Begin 0 1)
    ∷ by 0 (Act.DomInit 1 (Reply.Num 0))
    ∷ by 0 (Act.Answered (Reply.Num 0))
    ∷ by 0 (Act.Begin 0 2)
    ∷ by 0 (Act.Check (at 0x40000000) (Some Kind.Thread) Want.Init None)
    ∷ by 0 (Act.DomMove 1 (thread 0) (Reply.Num 0))
    ∷ by 0 (Act.Answered (Reply.Num 0))
    ∷ by 0 (Act.Begin 0 3)
    ∷ by 0 (Act.Check (at 0x40000080) (Some Kind.Thread) Want.Any None)
    ∷ by 0 (Act.Check (at 0x40000180) None Want.Any None)
    ∷ by 0 (Act.Grant (thread 1) (at 0x40000180) Given.Done)
    ∷ by 0 (Act.Answered Reply.Void)
    ∷ by 0 (Act.Begin 0 4)
    ∷ by 0 (Act.Check (at 0x40000100) (Some Kind.Thread) Want.Any None)
    ∷ by 0 (Act.Check (at 0x40000180) None Want.Any None)
    ∷ by 0 (Act.Grant (thread 2) (at 0x40000180) Given.Done)
    ∷ by 0 (Act.Answered Reply.Void)
    ∷ by 0 (Act.Begin 0 5)
    ∷ by 0 (Act.Check (at 0x40000100) (Some Kind.Thread) Want.Uninit None)
    ∷ by 0 (Act.Check (at 0x20080600) (Some Kind.ThreadStack) Want.Uninit None)
    ∷ by 0 (Act.SetInit (at 0x40000100) SetSaid.Done)
    ∷ by 0 (Act.SetInit (at 0x20080600) SetSaid.Done)
    ∷ by 0 (Act.Erase (row 5))
    ∷ by 0 (Act.Own (thread 2) Given.Done)
    ∷ by 0 (Act.Start (thread 2))
    ∷ by 0 (Act.Answered (Reply.At (at 0x40000100)))
    ∷ by 2 (Act.Begin 1 1)
    ∷ by 2 (Act.Check (at 0x40000180) (Some Kind.Msgq) Want.Init None)
    ∷ by 2 (Act.Probe (at 0x20000000) 4 true)
    ∷ by 2 (Act.Work (at 0x40000180) Answer.Wait [])
    ∷ by 0 (Act.Begin 0 6)
    ∷ by 0 (Act.Check (at 0x40000080) (Some Kind.Thread) Want.Uninit None)
    ∷ by 0 (Act.Check (at 0x20080400) (Some Kind.ThreadStack) Want.Uninit None)
    ∷ by 0 (Act.SetInit (at 0x40000080) SetSaid.Done)
    ∷ by 0 (Act.SetInit (at 0x20080400) SetSaid.Done)
    ∷ by 0 (Act.Erase (row 3))
    ∷ by 0 (Act.Own (thread 1) Given.Done)
    ∷ by 0 (Act.Start (thread 1))
    ∷ by 0 (Act.Answered (Reply.At (at 0x40000080)))
    ∷ by 1 (Act.Begin 2 1)
    ∷ by 1 (Act.Check (at 0x40000080) (Some Kind.Thread) Want.Init None)
    ∷ by 1 (Act.CopyStr (at 0x08000000) (Found.Length 6))
    ∷ by 1 (Act.Named (thread 1))
    ∷ by 1 (Act.Answered (Reply.Num 0))
    ∷ by 0 (Act.Begin 0 7)
    ∷ by 0 (Act.Erase (row 1))
    ∷ by 0 Act.EnterUser
    ∷ by 1 (Act.Begin 2 2)
    ∷ by 1 (Act.Store (at 0x20000010) 4 0x2a)
    ∷ by 0 (Act.Begin 3 1)
    ∷ by 1 (Act.Begin 2 3)
    ∷ by 1 (Act.Check (at 0x40000180) (Some Kind.Msgq) Want.Init None)
    ∷ by 1 (Act.CopyIn (at 0x20000010) 4 true)
    ∷ by 1 (Act.Work (at 0x40000180) (Answer.Now (Reply.Num 0)) ((thread 2, Reply.Num 0) ∷ []))
    ∷ by 1 (Act.Answered (Reply.Num 0))
    ∷ by 0 Act.Exit
    ∷ by 0 (Act.DropPair (thread 0) (at 0x40000000) Leftover.Kept)
    ∷ by 0 (Act.ClearInit (at 0x20080000))
    ∷ by 0 (Act.ClearInit (at 0x40000000))
    ∷ by 2 Act.Resume
    ∷ by 2 (Act.CopyOut (at 0x20000000) 4 true)
    ∷ by 2 (Act.Answered (Reply.Num 0))
    ∷ by 1 Act.Exit
    ∷ by 1 (Act.DropPair (thread 1) (at 0x40000080) Leftover.Kept)
    ∷ by 1 (Act.DropPair (thread 1) (at 0x40000180) Leftover.Kept)
    ∷ by 1 (Act.ClearInit (at 0x20080400))
    ∷ by 1 (Act.ClearInit (at 0x40000080))
    ∷ by 2 Act.Exit
    ∷ by 2 (Act.DropPair (thread 2) (at 0x40000100) Leftover.Kept)
    ∷ by 2 (Act.DropPair (thread 2) (at 0x40000180) Leftover.Kept)
    ∷ by 2 (Act.ClearInit (at 0x20080600))
    ∷ by 2 (Act.ClearInit (at 0x40000100)) ∷ []

abbrev pub dump : Dump
dump =
    record {
      threads = started 0 ended Mode.User (pos 0) 1
          ∷ started 1 ended Mode.User (pos 5) 1
          ∷ started 2 ended Mode.User (pos 5) 1 ∷ [];
      objects = record { row = 0; kind = Some Kind.Thread; stage = uninitialised; public = false; holders = []; content = nothing }
          ∷ record { row = 1; kind = Some Kind.ThreadStack; stage = uninitialised; public = false; holders = []; content = nothing }
          ∷ record { row = 2; kind = Some Kind.Thread; stage = uninitialised; public = false; holders = []; content = named (115 ∷ 101 ∷ 110 ∷ 115 ∷ 111 ∷ 114 ∷ []) }
          ∷ record { row = 3; kind = Some Kind.ThreadStack; stage = uninitialised; public = false; holders = []; content = nothing }
          ∷ record { row = 4; kind = Some Kind.Thread; stage = uninitialised; public = false; holders = []; content = nothing }
          ∷ record { row = 5; kind = Some Kind.ThreadStack; stage = uninitialised; public = false; holders = []; content = nothing }
          ∷ record { row = 6; kind = Some Kind.Msgq; stage = initialised; public = false; holders = []; content = filled 0 8 } ∷ [];
      domains = Some []
          ∷ Some ((range 0x20000000 256, rights 27) ∷ []) ∷ [];
      pools = [];
      memory = (0x20000000, 42 ∷ 0 ∷ 0 ∷ 0 ∷ 0 ∷ 0 ∷ 0 ∷ 0 ∷ 0 ∷ 0 ∷ 0 ∷ 0 ∷ 0 ∷ 0 ∷ 0 ∷ 0 ∷ 42 ∷ 0 ∷ 0 ∷ 0 ∷ 0 ∷ 0 ∷ 0 ∷ 0 ∷ 0 ∷ 0 ∷ 0 ∷ 0 ∷ 0 ∷ 0 ∷ 0 ∷ 0 ∷ []) ∷ [];
    }

pub is_lawful : IsLawful image
unfolding IsLe
is_lawful = record {
  regions = refl;
  names = refl;
  distinct = refl;
  rodata = (refl, refl);
  pools = refl;
  partitions = refl;
  partitions_placed = record { starts_are = refl; fit = le_by_compare 256 524288 tt };
  domains = refl;
  objects = refl;
  indices = refl;
  rows = refl;
  stacks_placed = record { starts_are = refl; fit = le_by_compare 2048 524288 tt };
  boots = refl;
  boot_threads = refl;
  boot_stacks = refl;
  scripts = refl;
  futexes = refl;
  futexes_apart = refl;
  light = le_by_compare (weight image) 400000 tt;
}

pub runs : whole_run image choices ≡ record { events = events; is_lawful = true; is_complete = true; dump = dump }
unfolding blank
runs = refl
