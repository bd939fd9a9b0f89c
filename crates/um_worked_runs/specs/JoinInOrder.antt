-- All who join a thread are woken in the order of service.
use Rattle.std.specs.Prelude.{◌≡◌, true, false, List, [], ◌∷◌, Some, None, pos, codes, refl}
use Rattle.um_base.specs.declared.names.Kind.TheVariants as Kind
use Rattle.um_base.specs.declared.names.Mode.TheVariants as Mode
use Rattle.um_base.specs.declared.names.Mpu.TheVariants as Mpu
use Rattle.um_base.specs.declared.names.Policy.TheVariants as Policy
use Rattle.um_base.specs.declared.names.Reply.TheVariants as Reply
use Rattle.um_base.specs.declared.names.Term.TheVariants as Term
use Rattle.um_base.specs.declared.names.Timeout.TheVariants as Timeout
use Rattle.um_base.specs.declared.names.Want.TheVariants as Want
use Rattle.um_base.specs.declared.act.Act.TheVariants as Act
use Rattle.um_base.specs.declared.act.Answer.TheVariants as Answer
use Rattle.um_base.specs.declared.act.Leftover.TheVariants as Leftover
use Rattle.um_base.specs.declared.image.Setup.TheVariants as Setup
use Rattle.um_base.specs.declared.instr.Instr.TheVariants as Instr
use Rattle.um_base.specs.declared.act.Event.{Event}
use Rattle.um_base.specs.declared.image.Image.{Image}
use Rattle.um_base.specs.declared.image.Script.{Script}
use Rattle.um_base.specs.Lawful.{IsLawful}
use Rattle.um_base.specs.Weight.{weight}
use Rattle.std.proofs.Math.Bridge.{le_by_compare, IsLe}
use Rattle.um_machine.specs.Run.{blank}
use Rattle.um_worked_runs.specs.Evaluate.{Choice, skips, begins, exits, leaves, ticks, goes}
use Rattle.um_worked_runs.specs.Dump.{Dump, started, ended, initialised, uninitialised, nothing, filled}
use Rattle.um_worked_runs.specs.Words.{at, thread, row, range, by, on, choose}
use Rattle.um_worked_runs.specs.Whole.{whole_run}

abbrev pub script_0 : Script
script_0 =
    record { name = codes "cb"; lines = Instr.SemTake (Term.Num 0x40000200) Timeout.Forever ∷ [] }

abbrev pub script_1 : Script
script_1 =
    record { name = codes "ca"; lines = Instr.Join (Term.Num 0x40000000) Timeout.Forever ∷ [] }

abbrev pub script_2 : Script
script_2 =
    record { name = codes "cc"; lines = Instr.Join (Term.Num 0x40000000) (Timeout.Ticks 9) ∷ [] }

abbrev pub script_3 : Script
script_3 =
    record {
      name = codes "ce";
      lines = Instr.Set 0 (Term.Num 1)
          ∷ Instr.SemGive (Term.Num 0x40000200) ∷ [];
    }

abbrev pub image : Image
image =
    record {
      mpu = Mpu.V7;
      regions = 8;
      policy = Policy.Abort;
      rodata = None;
      rodata_bytes = [];
      pools = [];
      partitions = [];
      domains = record { name = codes "d"; parts = Some [] } ∷ [];
      objects = record { name = codes "b"; kind = Kind.Thread; addr = at 0x40000000; public = false; setup = Setup.Thread (thread 0) }
          ∷ record { name = codes "sb"; kind = Kind.ThreadStack; addr = at 0x20080000; public = false; setup = Setup.ThreadStack (range 0x20080000 32) 32 }
          ∷ record { name = codes "a"; kind = Kind.Thread; addr = at 0x40000080; public = false; setup = Setup.Thread (thread 1) }
          ∷ record { name = codes "sa"; kind = Kind.ThreadStack; addr = at 0x20080020; public = false; setup = Setup.ThreadStack (range 0x20080020 32) 32 }
          ∷ record { name = codes "c"; kind = Kind.Thread; addr = at 0x40000100; public = false; setup = Setup.Thread (thread 2) }
          ∷ record { name = codes "sc"; kind = Kind.ThreadStack; addr = at 0x20080040; public = false; setup = Setup.ThreadStack (range 0x20080040 32) 32 }
          ∷ record { name = codes "e"; kind = Kind.Thread; addr = at 0x40000180; public = false; setup = Setup.Thread (thread 3) }
          ∷ record { name = codes "se"; kind = Kind.ThreadStack; addr = at 0x20080060; public = false; setup = Setup.ThreadStack (range 0x20080060 32) 32 }
          ∷ record { name = codes "s"; kind = Kind.Sem; addr = at 0x40000200; public = false; setup = Setup.Sem 0 1 } ∷ [];
      boots = record { thread = row 0; stack = row 1; script = 0; mode = Mode.User; priority = pos 0; domain = 0; pool = None; grants = row 8 ∷ [] }
          ∷ record { thread = row 2; stack = row 3; script = 1; mode = Mode.User; priority = pos 5; domain = 0; pool = None; grants = row 0 ∷ [] }
          ∷ record { thread = row 4; stack = row 5; script = 2; mode = Mode.User; priority = pos 3; domain = 0; pool = None; grants = row 0 ∷ [] }
          ∷ record { thread = row 6; stack = row 7; script = 3; mode = Mode.User; priority = pos 0; domain = 0; pool = None; grants = row 8 ∷ [] } ∷ [];
      scripts = script_0
          ∷ script_1
          ∷ script_2
          ∷ script_3 ∷ [];
      futexes = [];
    }

-- which thread makes each step, and which one
abbrev pub choices : List Choice
choices =
    choose 0 0 begins ∷ on 0 ∷ on 0 ∷ choose 1 0 begins ∷ on 1 ∷ on 1 ∷ choose 2 0 begins ∷ on 2 ∷ on 2
    ∷ on 2 ∷ choose 3 0 begins ∷ choose 3 0 begins ∷ on 3 ∷ on 3 ∷ on 3 ∷ on 0 ∷ on 0 ∷ choose 3 0 exits
    ∷ choose 3 6 goes ∷ choose 3 8 goes ∷ choose 3 0 skips ∷ on 3 ∷ choose 0 0 exits ∷ on 0 ∷ choose 0 8 goes
    ∷ choose 0 0 skips ∷ choose 0 0 leaves ∷ on 0 ∷ on 2 ∷ on 2 ∷ on 1 ∷ on 1 ∷ choose 2 0 exits ∷ on 2
    ∷ choose 2 4 goes ∷ choose 2 0 skips ∷ on 2 ∷ choose 1 0 exits ∷ on 1 ∷ choose 1 2 goes ∷ choose 1 0 skips
    ∷ on 1 ∷ choose 1 0 ticks ∷ []

-- what the trace shows
abbrev pub events : List Event
events =
    by 0 (Act.Begin 0 1)
    ∷ by 0 (Act.Check (at 0x40000200) (Some Kind.Sem) Want.Init None)
    ∷ by 0 (Act.Work (at 0x40000200) Answer.Wait [])
    ∷ by 1 (Act.Begin 1 1)
    ∷ by 1 (Act.Check (at 0x40000000) (Some Kind.Thread) Want.Init None)
    ∷ by 1 (Act.Join (thread 0) Answer.Wait)
    ∷ by 2 (Act.Begin 2 1)
    ∷ by 2 (Act.Check (at 0x40000000) (Some Kind.Thread) Want.Init None)
    ∷ by 2 (Act.Arm 9)
    ∷ by 2 (Act.Join (thread 0) Answer.Wait)
    ∷ by 3 (Act.Begin 3 1)
    ∷ by 3 (Act.Begin 3 2)
    ∷ by 3 (Act.Check (at 0x40000200) (Some Kind.Sem) Want.Init None)
    ∷ by 3 (Act.Work (at 0x40000200) (Answer.Now Reply.Void) ((thread 0, Reply.Num 0) ∷ []))
    ∷ by 3 (Act.Answered Reply.Void)
    ∷ by 0 Act.Resume
    ∷ by 0 (Act.Answered (Reply.Num 0))
    ∷ by 3 Act.Exit
    ∷ by 3 (Act.DropPair (thread 3) (at 0x40000180) Leftover.Kept)
    ∷ by 3 (Act.DropPair (thread 3) (at 0x40000200) Leftover.Kept)
    ∷ by 3 (Act.ClearInit (at 0x20080060))
    ∷ by 3 (Act.ClearInit (at 0x40000180))
    ∷ by 0 Act.Exit
    ∷ by 0 (Act.DropPair (thread 0) (at 0x40000000) Leftover.Kept)
    ∷ by 0 (Act.DropPair (thread 0) (at 0x40000200) Leftover.Kept)
    ∷ by 0 (Act.ClearInit (at 0x20080000))
    ∷ by 0 (Act.Left (thread 0) ((thread 2, Reply.Num 0) ∷ (thread 1, Reply.Num 0) ∷ []))
    ∷ by 0 (Act.ClearInit (at 0x40000000))
    ∷ by 2 Act.Resume
    ∷ by 2 (Act.Answered (Reply.Num 0))
    ∷ by 1 Act.Resume
    ∷ by 1 (Act.Answered (Reply.Num 0))
    ∷ by 2 Act.Exit
    ∷ by 2 (Act.DropPair (thread 2) (at 0x40000000) Leftover.Kept)
    ∷ by 2 (Act.DropPair (thread 2) (at 0x40000100) Leftover.Kept)
    ∷ by 2 (Act.ClearInit (at 0x20080040))
    ∷ by 2 (Act.ClearInit (at 0x40000100))
    ∷ by 1 Act.Exit
    ∷ by 1 (Act.DropPair (thread 1) (at 0x40000000) Leftover.Kept)
    ∷ by 1 (Act.DropPair (thread 1) (at 0x40000080) Leftover.Kept)
    ∷ by 1 (Act.ClearInit (at 0x20080020))
    ∷ by 1 (Act.ClearInit (at 0x40000080))
    ∷ by 1 (Act.Tick 9) ∷ []

abbrev pub dump : Dump
dump =
    record {
      threads = started 0 ended Mode.User (pos 0) 0
          ∷ started 1 ended Mode.User (pos 5) 0
          ∷ started 2 ended Mode.User (pos 3) 0
          ∷ started 3 ended Mode.User (pos 0) 0 ∷ [];
      objects = record { row = 0; kind = Some Kind.Thread; stage = uninitialised; public = false; holders = []; content = nothing }
          ∷ record { row = 1; kind = Some Kind.ThreadStack; stage = uninitialised; public = false; holders = []; content = nothing }
          ∷ record { row = 2; kind = Some Kind.Thread; stage = uninitialised; public = false; holders = []; content = nothing }
          ∷ record { row = 3; kind = Some Kind.ThreadStack; stage = uninitialised; public = false; holders = []; content = nothing }
          ∷ record { row = 4; kind = Some Kind.Thread; stage = uninitialised; public = false; holders = []; content = nothing }
          ∷ record { row = 5; kind = Some Kind.ThreadStack; stage = uninitialised; public = false; holders = []; content = nothing }
          ∷ record { row = 6; kind = Some Kind.Thread; stage = uninitialised; public = false; holders = []; content = nothing }
          ∷ record { row = 7; kind = Some Kind.ThreadStack; stage = uninitialised; public = false; holders = []; content = nothing }
          ∷ record { row = 8; kind = Some Kind.Sem; stage = initialised; public = false; holders = []; content = filled 0 1 } ∷ [];
      domains = Some [] ∷ [];
      pools = [];
      memory = [];
    }

pub is_lawful : IsLawful image
unfolding IsLe
is_lawful = record {
  regions = refl;
  names = refl;
  distinct = refl;
  rodata = refl;
  pools = refl;
  partitions = refl;
  partitions_placed = record { starts_are = refl; fit = le_by_compare 0 524288 tt };
  domains = refl;
  objects = refl;
  indices = refl;
  rows = refl;
  stacks_placed = record { starts_are = refl; fit = le_by_compare 128 524288 tt };
  boots = refl;
  boot_threads = refl;
  boot_stacks = refl;
  scripts = refl;
  futexes = refl;
  futexes_apart = refl;
  light = le_by_compare (weight image) 400000 tt;
}

pub runs : whole_run image choices ≡ record { events = events; is_lawful = true; is_complete = true; dump = dump }
unfolding blank
runs = refl
