-- An address isn't handed out again while a waiting call holds the object.
use Rattle.std.specs.Prelude.{◌≡◌, true, false, List, [], ◌∷◌, Some, None, pos, codes, refl}
use Rattle.um_base.specs.declared.names.Kind.TheVariants as Kind
use Rattle.um_base.specs.declared.names.Mode.TheVariants as Mode
use Rattle.um_base.specs.declared.names.Mpu.TheVariants as Mpu
use Rattle.um_base.specs.declared.names.Policy.TheVariants as Policy
use Rattle.um_base.specs.declared.names.Reply.TheVariants as Reply
use Rattle.um_base.specs.declared.names.Term.TheVariants as Term
use Rattle.um_base.specs.declared.names.Timeout.TheVariants as Timeout
use Rattle.um_base.specs.declared.names.Want.TheVariants as Want
use Rattle.um_base.specs.declared.act.Act.TheVariants as Act
use Rattle.um_base.specs.declared.act.Answer.TheVariants as Answer
use Rattle.um_base.specs.declared.act.Given.TheVariants as Given
use Rattle.um_base.specs.declared.act.Leftover.TheVariants as Leftover
use Rattle.um_base.specs.declared.act.SetSaid.TheVariants as SetSaid
use Rattle.um_base.specs.declared.image.Setup.TheVariants as Setup
use Rattle.um_base.specs.declared.instr.Instr.TheVariants as Instr
use Rattle.um_base.specs.declared.act.Event.{Event}
use Rattle.um_base.specs.declared.image.Image.{Image}
use Rattle.um_base.specs.declared.image.Script.{Script}
use Rattle.um_base.specs.Lawful.{IsLawful}
use Rattle.um_base.specs.Weight.{weight}
use Rattle.std.proofs.Math.Bridge.{le_by_compare, IsLe}
use Rattle.um_machine.specs.Run.{blank}
use Rattle.um_worked_runs.specs.Evaluate.{Choice, skips, begins, exits, recycles, goes}
use Rattle.um_worked_runs.specs.Dump.{Dump, started, ended, waits, initialised, uninitialised, gone, nothing}
use Rattle.um_worked_runs.specs.Words.{at, thread, row, range, by, on, choose}
use Rattle.um_worked_runs.specs.Whole.{whole_run}

abbrev pub script_0 : Script
script_0 =
    record {
      name = codes "m";
      lines = Instr.ObjectAlloc Kind.Sem 0
          ∷ Instr.SemInit (Term.Reg 0) (Term.Num 0) (Term.Num 1)
          ∷ Instr.Grant (Term.Reg 0) (Term.Num 0x40000080)
          ∷ Instr.Set 2 (Term.Num 0)
          ∷ Instr.Revoke (Term.Reg 0) (Term.Num 0x40000080)
          ∷ Instr.Release (Term.Reg 0)
          ∷ Instr.ObjectAlloc Kind.Sem 1 ∷ [];
    }

abbrev pub script_1 : Script
script_1 =
    record {
      name = codes "c";
      lines = Instr.Set 0 (Term.Num 0)
          ∷ Instr.Set 0 (Term.Num 0)
          ∷ Instr.Set 0 (Term.Num 0)
          ∷ Instr.SemTake (Term.Num 0x48000100) Timeout.Forever ∷ [];
    }

abbrev pub image : Image
image =
    record {
      mpu = Mpu.V7;
      regions = 8;
      policy = Policy.Abort;
      rodata = None;
      rodata_bytes = [];
      pools = record { name = codes "h"; size = 128 } ∷ [];
      partitions = [];
      domains = record { name = codes "d"; parts = Some [] } ∷ [];
      objects = record { name = codes "a"; kind = Kind.Thread; addr = at 0x40000000; public = false; setup = Setup.Thread (thread 0) }
          ∷ record { name = codes "sa"; kind = Kind.ThreadStack; addr = at 0x20080000; public = false; setup = Setup.ThreadStack (range 0x20080000 64) 64 }
          ∷ record { name = codes "b"; kind = Kind.Thread; addr = at 0x40000080; public = false; setup = Setup.Thread (thread 1) }
          ∷ record { name = codes "sb"; kind = Kind.ThreadStack; addr = at 0x20080040; public = false; setup = Setup.ThreadStack (range 0x20080040 64) 64 } ∷ [];
      boots = record { thread = row 0; stack = row 1; script = 0; mode = Mode.Supervisor; priority = pos 0; domain = 0; pool = Some 0; grants = row 2 ∷ [] }
          ∷ record { thread = row 2; stack = row 3; script = 1; mode = Mode.User; priority = pos 0; domain = 0; pool = None; grants = [] } ∷ [];
      scripts = script_0
          ∷ script_1 ∷ [];
      futexes = [];
    }

-- which thread makes each step, and which one
abbrev pub choices : List Choice
choices =
    choose 0 0 begins ∷ choose 0 100 goes ∷ on 0 ∷ on 0 ∷ choose 1 0 begins ∷ choose 0 0 begins ∷ on 0
    ∷ on 0 ∷ on 0 ∷ on 0 ∷ choose 1 0 begins ∷ choose 0 0 begins ∷ on 0 ∷ on 0 ∷ on 0 ∷ on 0
    ∷ choose 1 0 begins ∷ choose 0 0 begins ∷ choose 1 0 begins ∷ on 1 ∷ on 1 ∷ choose 0 0 begins ∷ on 0
    ∷ on 0 ∷ on 0 ∷ on 0 ∷ choose 0 0 begins ∷ on 0 ∷ on 0 ∷ on 0 ∷ choose 0 0 begins ∷ choose 0 101 goes
    ∷ on 0 ∷ on 0 ∷ choose 0 0 exits ∷ on 0 ∷ choose 0 2 goes ∷ choose 0 101 goes ∷ choose 0 101 recycles
    ∷ choose 0 0 skips ∷ on 0 ∷ []

-- what the trace shows
abbrev pub events : List Event
events =
    by 0 (Act.Begin 0 1)
    ∷ by 0 (Act.Reserve Kind.Sem (Some (at 0x48000100)))
    ∷ by 0 (Act.Born (at 0x48000100))
    ∷ by 0 (Act.Answered (Reply.At (at 0x48000100)))
    ∷ by 1 (Act.Begin 1 1)
    ∷ by 0 (Act.Begin 0 2)
    ∷ by 0 (Act.Check (at 0x48000100) (Some Kind.Sem) Want.Any None)
    ∷ by 0 (Act.Work (at 0x48000100) (Answer.Now (Reply.Num 0)) [])
    ∷ by 0 (Act.SetInit (at 0x48000100) SetSaid.Done)
    ∷ by 0 (Act.Answered (Reply.Num 0))
    ∷ by 1 (Act.Begin 1 2)
    ∷ by 0 (Act.Begin 0 3)
    ∷ by 0 (Act.Check (at 0x40000080) (Some Kind.Thread) Want.Any None)
    ∷ by 0 (Act.Check (at 0x48000100) None Want.Any None)
    ∷ by 0 (Act.Grant (thread 1) (at 0x48000100) Given.Done)
    ∷ by 0 (Act.Answered Reply.Void)
    ∷ by 1 (Act.Begin 1 3)
    ∷ by 0 (Act.Begin 0 4)
    ∷ by 1 (Act.Begin 1 4)
    ∷ by 1 (Act.Check (at 0x48000100) (Some Kind.Sem) Want.Init None)
    ∷ by 1 (Act.Work (at 0x48000100) Answer.Wait [])
    ∷ by 0 (Act.Begin 0 5)
    ∷ by 0 (Act.Check (at 0x40000080) (Some Kind.Thread) Want.Any None)
    ∷ by 0 (Act.Check (at 0x48000100) None Want.Any None)
    ∷ by 0 (Act.DropPair (thread 1) (at 0x48000100) Leftover.Kept)
    ∷ by 0 (Act.Answered Reply.Void)
    ∷ by 0 (Act.Begin 0 6)
    ∷ by 0 (Act.Check (at 0x48000100) None Want.Any None)
    ∷ by 0 (Act.DropPair (thread 0) (at 0x48000100) Leftover.Gone)
    ∷ by 0 (Act.Answered Reply.Void)
    ∷ by 0 (Act.Begin 0 7)
    ∷ by 0 (Act.Reserve Kind.Sem (Some (at 0x48000140)))
    ∷ by 0 (Act.Born (at 0x48000140))
    ∷ by 0 (Act.Answered (Reply.At (at 0x48000140)))
    ∷ by 0 Act.Exit
    ∷ by 0 (Act.DropPair (thread 0) (at 0x40000000) Leftover.Kept)
    ∷ by 0 (Act.DropPair (thread 0) (at 0x40000080) Leftover.Kept)
    ∷ by 0 (Act.DropPair (thread 0) (at 0x48000140) Leftover.Gone)
    ∷ by 0 (Act.Recycle (at 0x48000140))
    ∷ by 0 (Act.ClearInit (at 0x20080000))
    ∷ by 0 (Act.ClearInit (at 0x40000000)) ∷ []

abbrev pub dump : Dump
dump =
    record {
      threads = started 0 ended Mode.Supervisor (pos 0) 0
          ∷ started 1 (waits 100) Mode.User (pos 0) 0 ∷ [];
      objects = record { row = 0; kind = Some Kind.Thread; stage = uninitialised; public = false; holders = []; content = nothing }
          ∷ record { row = 1; kind = Some Kind.ThreadStack; stage = uninitialised; public = false; holders = []; content = nothing }
          ∷ record { row = 2; kind = Some Kind.Thread; stage = initialised; public = false; holders = 1 ∷ []; content = nothing }
          ∷ record { row = 3; kind = Some Kind.ThreadStack; stage = initialised; public = false; holders = []; content = nothing }
          ∷ record { row = 100; kind = Some Kind.Sem; stage = gone; public = false; holders = []; content = nothing } ∷ [];
      domains = Some [] ∷ [];
      pools = 64 ∷ [];
      memory = [];
    }

pub is_lawful : IsLawful image
unfolding IsLe
is_lawful = record {
  regions = refl;
  names = refl;
  distinct = refl;
  rodata = refl;
  pools = refl;
  partitions = refl;
  partitions_placed = record { starts_are = refl; fit = le_by_compare 0 524288 tt };
  domains = refl;
  objects = refl;
  indices = refl;
  rows = refl;
  stacks_placed = record { starts_are = refl; fit = le_by_compare 128 524288 tt };
  boots = refl;
  boot_threads = refl;
  boot_stacks = refl;
  scripts = refl;
  futexes = refl;
  futexes_apart = refl;
  light = le_by_compare (weight image) 400000 tt;
}

pub runs : whole_run image choices ≡ record { events = events; is_lawful = true; is_complete = true; dump = dump }
unfolding blank
runs = refl
