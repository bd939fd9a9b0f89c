-- A supervisor waits for a message, and the partition that it is to be copied to leaves the domain.
use Rattle.std.specs.Prelude.{◌≡◌, true, false, List, [], ◌∷◌, Some, None, pos, codes, refl}
use Rattle.um_base.specs.declared.names.Kind.TheVariants as Kind
use Rattle.um_base.specs.declared.names.Mode.TheVariants as Mode
use Rattle.um_base.specs.declared.names.Mpu.TheVariants as Mpu
use Rattle.um_base.specs.declared.names.PartRef.TheVariants as PartRef
use Rattle.um_base.specs.declared.names.Policy.TheVariants as Policy
use Rattle.um_base.specs.declared.names.Ref.TheVariants as Ref
use Rattle.um_base.specs.declared.names.Reply.TheVariants as Reply
use Rattle.um_base.specs.declared.names.Term.TheVariants as Term
use Rattle.um_base.specs.declared.names.Timeout.TheVariants as Timeout
use Rattle.um_base.specs.declared.names.Want.TheVariants as Want
use Rattle.um_base.specs.declared.act.Act.TheVariants as Act
use Rattle.um_base.specs.declared.act.Answer.TheVariants as Answer
use Rattle.um_base.specs.declared.act.Cause.TheVariants as Cause
use Rattle.um_base.specs.declared.act.Leftover.TheVariants as Leftover
use Rattle.um_base.specs.declared.image.Setup.TheVariants as Setup
use Rattle.um_base.specs.declared.instr.Instr.TheVariants as Instr
use Rattle.um_base.specs.declared.act.Event.{Event}
use Rattle.um_base.specs.declared.image.Image.{Image}
use Rattle.um_base.specs.declared.image.Script.{Script}
use Rattle.um_worked_runs.specs.Fine.Left.{without_priorities}
use Rattle.um_worked_runs.specs.Fine.Whole.{seen, whole_run_alone}
use Rattle.um_machine.specs.Run.{blank}
use Rattle.um_worked_runs.specs.Evaluate.{Choice, skips, begins, exits, goes}
use Rattle.um_worked_runs.specs.Dump.{Dump, started, ended, initialised, uninitialised, nothing, filled}
use Rattle.um_worked_runs.specs.Words.{at, thread, row, range, rights, by, on, choose}
use Rattle.um_worked_runs.specs.Whole.{whole_run}

abbrev pub script_0 : Script
script_0 =
    record {
      name = codes "m";
      lines = Instr.DomainRemove (Ref.At 0) (PartRef.At 0)
          ∷ Instr.MsgqPut (Term.Num 0x40000100) (Term.Num 0x20080000) Timeout.NoWait ∷ [];
    }

abbrev pub script_1 : Script
script_1 =
    record { name = codes "c"; lines = Instr.MsgqGet (Term.Num 0x40000100) (Term.Num 0x20000000) Timeout.Forever ∷ [] }

abbrev pub image : Image
image =
    record {
      mpu = Mpu.V7;
      regions = 8;
      policy = Policy.Abort;
      rodata = None;
      rodata_bytes = [];
      pools = [];
      partitions = record { name = codes "p"; range = range 0x20000000 32; attr = rights 27; bytes = [] } ∷ [];
      domains = record { name = codes "d"; parts = Some (0 ∷ []) } ∷ [];
      objects = record { name = codes "a"; kind = Kind.Thread; addr = at 0x40000000; public = false; setup = Setup.Thread (thread 0) }
          ∷ record { name = codes "sa"; kind = Kind.ThreadStack; addr = at 0x20080000; public = false; setup = Setup.ThreadStack (range 0x20080000 64) 64 }
          ∷ record { name = codes "b"; kind = Kind.Thread; addr = at 0x40000080; public = false; setup = Setup.Thread (thread 1) }
          ∷ record { name = codes "sb"; kind = Kind.ThreadStack; addr = at 0x20080040; public = false; setup = Setup.ThreadStack (range 0x20080040 64) 64 }
          ∷ record { name = codes "q"; kind = Kind.Msgq; addr = at 0x40000100; public = false; setup = Setup.Msgq 4 2 } ∷ [];
      boots = record { thread = row 2; stack = row 3; script = 1; mode = Mode.Supervisor; priority = pos 0; domain = 0; pool = None; grants = row 4 ∷ [] }
          ∷ record { thread = row 0; stack = row 1; script = 0; mode = Mode.Supervisor; priority = pos 0; domain = 0; pool = None; grants = [] } ∷ [];
      scripts = script_0
          ∷ script_1 ∷ [];
      futexes = [];
    }

-- which thread makes each step, and which one
abbrev pub choices : List Choice
choices =
    choose 1 0 begins ∷ on 1 ∷ on 1 ∷ on 1 ∷ choose 0 0 begins ∷ on 0 ∷ on 0 ∷ choose 0 0 begins ∷ on 0
    ∷ on 0 ∷ on 0 ∷ on 0 ∷ on 1 ∷ on 1 ∷ on 1 ∷ choose 1 2 goes ∷ choose 1 4 goes ∷ choose 1 0 skips ∷ on 1
    ∷ choose 0 0 exits ∷ on 0 ∷ choose 0 0 skips ∷ on 0 ∷ []

-- what the trace shows
abbrev pub events : List Event
events =
    by 1 (Act.Begin 1 1)
    ∷ by 1 (Act.Check (at 0x40000100) (Some Kind.Msgq) Want.Init None)
    ∷ by 1 (Act.Probe (at 0x20000000) 4 true)
    ∷ by 1 (Act.Work (at 0x40000100) Answer.Wait [])
    ∷ by 0 (Act.Begin 0 1)
    ∷ by 0 (Act.DomRemove 0 (range 0x20000000 32) (rights 27) (Reply.Num 0))
    ∷ by 0 (Act.Answered (Reply.Num 0))
    ∷ by 0 (Act.Begin 0 2)
    ∷ by 0 (Act.Check (at 0x40000100) (Some Kind.Msgq) Want.Init None)
    ∷ by 0 (Act.CopyIn (at 0x20080000) 4 true)
    ∷ by 0 (Act.Work (at 0x40000100) (Answer.Now (Reply.Num 0)) ((thread 1, Reply.Num 0) ∷ []))
    ∷ by 0 (Act.Answered (Reply.Num 0))
    ∷ by 1 Act.Resume
    ∷ by 1 (Act.CopyOut (at 0x20000000) 4 false)
    ∷ by 1 (Act.Fatal 0 Cause.Access)
    ∷ by 1 (Act.DropPair (thread 1) (at 0x40000080) Leftover.Kept)
    ∷ by 1 (Act.DropPair (thread 1) (at 0x40000100) Leftover.Kept)
    ∷ by 1 (Act.ClearInit (at 0x20080040))
    ∷ by 1 (Act.ClearInit (at 0x40000080))
    ∷ by 0 Act.Exit
    ∷ by 0 (Act.DropPair (thread 0) (at 0x40000000) Leftover.Kept)
    ∷ by 0 (Act.ClearInit (at 0x20080000))
    ∷ by 0 (Act.ClearInit (at 0x40000000)) ∷ []

abbrev pub dump : Dump
dump =
    record {
      threads = started 0 ended Mode.Supervisor (pos 0) 0
          ∷ started 1 ended Mode.Supervisor (pos 0) 0 ∷ [];
      objects = record { row = 0; kind = Some Kind.Thread; stage = uninitialised; public = false; holders = []; content = nothing }
          ∷ record { row = 1; kind = Some Kind.ThreadStack; stage = uninitialised; public = false; holders = []; content = nothing }
          ∷ record { row = 2; kind = Some Kind.Thread; stage = uninitialised; public = false; holders = []; content = nothing }
          ∷ record { row = 3; kind = Some Kind.ThreadStack; stage = uninitialised; public = false; holders = []; content = nothing }
          ∷ record { row = 4; kind = Some Kind.Msgq; stage = initialised; public = false; holders = []; content = filled 0 2 } ∷ [];
      domains = Some [] ∷ [];
      pools = [];
      memory = [];
    }

pub runs : whole_run image choices ≡ record { events = events; is_lawful = true; is_complete = true; dump = dump }
unfolding blank
runs = refl

pub makes : seen (whole_run_alone image 2000) ≡ record { events = events; is_lawful = true; is_complete = true; dump = without_priorities dump }
unfolding blank
makes = refl
