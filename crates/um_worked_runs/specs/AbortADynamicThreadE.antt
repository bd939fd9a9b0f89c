-- In another order: A thread on a dynamic object is aborted and joined, and its object is recycled.
use Rattle.std.specs.Prelude.{◌≡◌, true, false, List, [], ◌∷◌, Some, None, pos, codes, refl}
use Rattle.um_base.specs.declared.names.Kind.TheVariants as Kind
use Rattle.um_base.specs.declared.names.Mode.TheVariants as Mode
use Rattle.um_base.specs.declared.names.Mpu.TheVariants as Mpu
use Rattle.um_base.specs.declared.names.Policy.TheVariants as Policy
use Rattle.um_base.specs.declared.names.Ref.TheVariants as Ref
use Rattle.um_base.specs.declared.names.Reply.TheVariants as Reply
use Rattle.um_base.specs.declared.names.Term.TheVariants as Term
use Rattle.um_base.specs.declared.names.Timeout.TheVariants as Timeout
use Rattle.um_base.specs.declared.names.Want.TheVariants as Want
use Rattle.um_base.specs.declared.act.Act.TheVariants as Act
use Rattle.um_base.specs.declared.act.Answer.TheVariants as Answer
use Rattle.um_base.specs.declared.act.Given.TheVariants as Given
use Rattle.um_base.specs.declared.act.Leftover.TheVariants as Leftover
use Rattle.um_base.specs.declared.act.SetSaid.TheVariants as SetSaid
use Rattle.um_base.specs.declared.image.Setup.TheVariants as Setup
use Rattle.um_base.specs.declared.instr.Instr.TheVariants as Instr
use Rattle.um_base.specs.declared.act.Event.{Event}
use Rattle.um_base.specs.declared.image.Image.{Image}
use Rattle.um_base.specs.declared.image.Script.{Script}
use Rattle.um_base.specs.Lawful.{IsLawful}
use Rattle.um_base.specs.Weight.{weight}
use Rattle.std.proofs.Math.Bridge.{le_by_compare, IsLe}
use Rattle.um_machine.specs.Run.{blank}
use Rattle.um_worked_runs.specs.Evaluate.{Choice, skips, begins, exits, recycles, cuts, goes}
use Rattle.um_worked_runs.specs.Dump.{Dump, unborn, started, ended, initialised, uninitialised, nothing, filled}
use Rattle.um_worked_runs.specs.Words.{at, thread, row, range, by, on, choose}
use Rattle.um_worked_runs.specs.Whole.{whole_run}

abbrev pub script_0 : Script
script_0 =
    record {
      name = codes "ca";
      lines = Instr.ObjectAlloc Kind.Thread 0
          ∷ Instr.Create (Term.Reg 0) (Term.Num 0x20080020) (Term.Num 32) (Ref.At 2) (pos 0) (record { user = true; inherit = false; essential = false })
          ∷ Instr.Abort (Term.Reg 0)
          ∷ Instr.Join (Term.Reg 0) Timeout.Forever
          ∷ Instr.Release (Term.Reg 0) ∷ [];
    }

abbrev pub script_1 : Script
script_1 =
    record { name = codes "cb"; lines = Instr.Set 0 (Term.Num 1) ∷ [] }

abbrev pub script_2 : Script
script_2 =
    record {
      name = codes "cc";
      lines = Instr.Set 0 (Term.Num 1)
          ∷ Instr.SemTake (Term.Num 0x40000100) Timeout.Forever ∷ [];
    }

abbrev pub image : Image
image =
    record {
      mpu = Mpu.V7;
      regions = 8;
      policy = Policy.Abort;
      rodata = None;
      rodata_bytes = [];
      pools = record { name = codes "h"; size = 64 } ∷ [];
      partitions = [];
      domains = record { name = codes "d"; parts = Some [] } ∷ [];
      objects = record { name = codes "a"; kind = Kind.Thread; addr = at 0x40000000; public = false; setup = Setup.Thread (thread 0) }
          ∷ record { name = codes "sa"; kind = Kind.ThreadStack; addr = at 0x20080000; public = false; setup = Setup.ThreadStack (range 0x20080000 32) 32 }
          ∷ record { name = codes "b"; kind = Kind.Thread; addr = at 0x40000080; public = false; setup = Setup.Thread (thread 1) }
          ∷ record { name = codes "sb"; kind = Kind.ThreadStack; addr = at 0x20080020; public = false; setup = Setup.ThreadStack (range 0x20080020 32) 32 }
          ∷ record { name = codes "s"; kind = Kind.Sem; addr = at 0x40000100; public = true; setup = Setup.Sem 0 1 } ∷ [];
      boots = record { thread = row 0; stack = row 1; script = 0; mode = Mode.User; priority = pos 0; domain = 0; pool = Some 0; grants = row 3 ∷ [] } ∷ [];
      scripts = script_0
          ∷ script_1
          ∷ script_2 ∷ [];
      futexes = [];
    }

-- which thread makes each step, and which one
abbrev pub choices : List Choice
choices =
    choose 0 0 begins ∷ choose 0 97 goes ∷ on 0 ∷ on 0 ∷ choose 0 0 begins ∷ on 0 ∷ on 0 ∷ on 0 ∷ on 0
    ∷ on 0 ∷ on 0 ∷ on 0 ∷ choose 29 0 begins ∷ on 0 ∷ choose 0 0 begins ∷ choose 29 0 begins ∷ on 29 ∷ on 29
    ∷ on 0 ∷ on 0 ∷ on 0 ∷ choose 0 0 begins ∷ choose 0 4 (cuts 29) ∷ on 29 ∷ on 0 ∷ choose 29 97 goes
    ∷ choose 29 0 skips ∷ choose 0 1 goes ∷ on 0 ∷ on 29 ∷ choose 0 0 begins ∷ on 0 ∷ on 0 ∷ on 0
    ∷ choose 29 97 recycles ∷ choose 0 0 exits ∷ on 0 ∷ choose 0 3 goes ∷ choose 0 0 skips ∷ on 0 ∷ []

-- what the trace shows
abbrev pub events : List Event
events =
    by 0 (Act.Begin 0 1)
    ∷ by 0 (Act.Reserve Kind.Thread (Some (at 0x48000040)))
    ∷ by 0 (Act.Born (at 0x48000040))
    ∷ by 0 (Act.Answered (Reply.At (at 0x48000040)))
    ∷ by 0 (Act.Begin 0 2)
    ∷ by 0 (Act.Check (at 0x48000040) (Some Kind.Thread) Want.Uninit None)
    ∷ by 0 (Act.Check (at 0x20080020) (Some Kind.ThreadStack) Want.Uninit None)
    ∷ by 0 (Act.SetInit (at 0x48000040) SetSaid.Done)
    ∷ by 0 (Act.SetInit (at 0x20080020) SetSaid.Done)
    ∷ by 0 (Act.Erase (row 3))
    ∷ by 0 (Act.Own (thread 29) Given.Done)
    ∷ by 0 (Act.Start (thread 29))
    ∷ by 29 (Act.Begin 2 1)
    ∷ by 0 (Act.Answered (Reply.At (at 0x48000040)))
    ∷ by 0 (Act.Begin 0 3)
    ∷ by 29 (Act.Begin 2 2)
    ∷ by 29 (Act.Check (at 0x40000100) (Some Kind.Sem) Want.Init None)
    ∷ by 29 (Act.Work (at 0x40000100) Answer.Wait [])
    ∷ by 0 (Act.Check (at 0x48000040) (Some Kind.Thread) Want.Init None)
    ∷ by 0 (Act.Abort (thread 29) true)
    ∷ by 0 (Act.Answered Reply.Void)
    ∷ by 0 (Act.Begin 0 4)
    ∷ by 0 (Act.Cut (thread 29))
    ∷ by 29 Act.Killed
    ∷ by 0 (Act.Check (at 0x48000040) (Some Kind.Thread) Want.Init None)
    ∷ by 29 (Act.DropPair (thread 29) (at 0x48000040) Leftover.Kept)
    ∷ by 29 (Act.ClearInit (at 0x20080020))
    ∷ by 0 (Act.Join (thread 29) (Answer.Now (Reply.Num 0)))
    ∷ by 0 (Act.Answered (Reply.Num 0))
    ∷ by 29 (Act.ClearInit (at 0x48000040))
    ∷ by 0 (Act.Begin 0 5)
    ∷ by 0 (Act.Check (at 0x48000040) None Want.Any None)
    ∷ by 0 (Act.DropPair (thread 0) (at 0x48000040) Leftover.Gone)
    ∷ by 0 (Act.Answered Reply.Void)
    ∷ by 29 (Act.Recycle (at 0x48000040))
    ∷ by 0 Act.Exit
    ∷ by 0 (Act.DropPair (thread 0) (at 0x40000000) Leftover.Kept)
    ∷ by 0 (Act.DropPair (thread 0) (at 0x20080020) Leftover.Kept)
    ∷ by 0 (Act.ClearInit (at 0x20080000))
    ∷ by 0 (Act.ClearInit (at 0x40000000)) ∷ []

abbrev pub dump : Dump
dump =
    record {
      threads = started 0 ended Mode.User (pos 0) 0
          ∷ unborn 1 ∷ [];
      objects = record { row = 0; kind = Some Kind.Thread; stage = uninitialised; public = false; holders = []; content = nothing }
          ∷ record { row = 1; kind = Some Kind.ThreadStack; stage = uninitialised; public = false; holders = []; content = nothing }
          ∷ record { row = 2; kind = Some Kind.Thread; stage = uninitialised; public = false; holders = []; content = nothing }
          ∷ record { row = 3; kind = Some Kind.ThreadStack; stage = uninitialised; public = false; holders = []; content = nothing }
          ∷ record { row = 4; kind = Some Kind.Sem; stage = initialised; public = true; holders = []; content = filled 0 1 } ∷ [];
      domains = Some [] ∷ [];
      pools = 64 ∷ [];
      memory = [];
    }

pub is_lawful : IsLawful image
unfolding IsLe
is_lawful = record {
  regions = refl;
  names = refl;
  distinct = refl;
  rodata = refl;
  pools = refl;
  partitions = refl;
  partitions_placed = record { starts_are = refl; fit = le_by_compare 0 524288 tt };
  domains = refl;
  objects = refl;
  indices = refl;
  rows = refl;
  stacks_placed = record { starts_are = refl; fit = le_by_compare 64 524288 tt };
  boots = refl;
  boot_threads = refl;
  boot_stacks = refl;
  scripts = refl;
  futexes = refl;
  futexes_apart = refl;
  light = le_by_compare (weight image) 400000 tt;
}

pub runs : whole_run image choices ≡ record { events = events; is_lawful = true; is_complete = true; dump = dump }
unfolding blank
runs = refl
