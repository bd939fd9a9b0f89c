-- A semaphore that wasn't granted.
use Rattle.std.specs.Prelude.{◌≡◌, true, false, List, [], ◌∷◌, Some, None, pos, codes, refl}
use Rattle.um_base.specs.declared.names.Errno.TheVariants as Errno
use Rattle.um_base.specs.declared.names.Kind.TheVariants as Kind
use Rattle.um_base.specs.declared.names.Mode.TheVariants as Mode
use Rattle.um_base.specs.declared.names.Mpu.TheVariants as Mpu
use Rattle.um_base.specs.declared.names.Policy.TheVariants as Policy
use Rattle.um_base.specs.declared.names.Term.TheVariants as Term
use Rattle.um_base.specs.declared.names.Timeout.TheVariants as Timeout
use Rattle.um_base.specs.declared.names.Want.TheVariants as Want
use Rattle.um_base.specs.declared.act.Act.TheVariants as Act
use Rattle.um_base.specs.declared.act.Cause.TheVariants as Cause
use Rattle.um_base.specs.declared.act.Leftover.TheVariants as Leftover
use Rattle.um_base.specs.declared.image.Setup.TheVariants as Setup
use Rattle.um_base.specs.declared.instr.Instr.TheVariants as Instr
use Rattle.um_base.specs.declared.act.Event.{Event}
use Rattle.um_base.specs.declared.image.Image.{Image}
use Rattle.um_base.specs.declared.image.Script.{Script}
use Rattle.um_base.specs.Lawful.{IsLawful}
use Rattle.um_base.specs.Weight.{weight}
use Rattle.std.proofs.Math.Bridge.{le_by_compare, IsLe}
use Rattle.um_machine.specs.Run.{blank}
use Rattle.um_worked_runs.specs.Evaluate.{Choice, skips, begins}
use Rattle.um_worked_runs.specs.Dump.{Dump, started, ended, uninitialised, nothing}
use Rattle.um_worked_runs.specs.Words.{at, thread, row, range, rights, by, on, choose}
use Rattle.um_worked_runs.specs.Whole.{whole_run}

abbrev pub script_0 : Script
script_0 =
    record { name = codes "m"; lines = Instr.SemTake (Term.Num 0x40000080) Timeout.NoWait ∷ [] }

abbrev pub image : Image
image =
    record {
      mpu = Mpu.V7;
      regions = 8;
      policy = Policy.Abort;
      rodata = None;
      rodata_bytes = [];
      pools = [];
      partitions = record { name = codes "p"; range = range 0x20000000 32; attr = rights 27; bytes = [] } ∷ [];
      domains = record { name = codes "d"; parts = Some (0 ∷ []) } ∷ [];
      objects = record { name = codes "a"; kind = Kind.Thread; addr = at 0x40000000; public = false; setup = Setup.Thread (thread 0) }
          ∷ record { name = codes "sa"; kind = Kind.ThreadStack; addr = at 0x20080000; public = false; setup = Setup.ThreadStack (range 0x20080000 64) 64 }
          ∷ record { name = codes "s"; kind = Kind.Sem; addr = at 0x40000080; public = false; setup = Setup.Bare } ∷ [];
      boots = record { thread = row 0; stack = row 1; script = 0; mode = Mode.User; priority = pos 0; domain = 0; pool = None; grants = [] } ∷ [];
      scripts = script_0 ∷ [];
      futexes = [];
    }

-- which thread makes each step, and which one
abbrev pub choices : List Choice
choices =
    choose 0 0 begins ∷ on 0 ∷ on 0 ∷ on 0 ∷ choose 0 0 skips ∷ on 0 ∷ []

-- what the trace shows
abbrev pub events : List Event
events =
    by 0 (Act.Begin 0 1)
    ∷ by 0 (Act.Check (at 0x40000080) (Some Kind.Sem) Want.Init (Some Errno.EPERM))
    ∷ by 0 (Act.Fatal 3 (Cause.Refused Errno.EPERM))
    ∷ by 0 (Act.DropPair (thread 0) (at 0x40000000) Leftover.Kept)
    ∷ by 0 (Act.ClearInit (at 0x20080000))
    ∷ by 0 (Act.ClearInit (at 0x40000000)) ∷ []

abbrev pub dump : Dump
dump =
    record {
      threads = started 0 ended Mode.User (pos 0) 0 ∷ [];
      objects = record { row = 0; kind = Some Kind.Thread; stage = uninitialised; public = false; holders = []; content = nothing }
          ∷ record { row = 1; kind = Some Kind.ThreadStack; stage = uninitialised; public = false; holders = []; content = nothing }
          ∷ record { row = 2; kind = Some Kind.Sem; stage = uninitialised; public = false; holders = []; content = nothing } ∷ [];
      domains = Some ((range 0x20000000 32, rights 27) ∷ []) ∷ [];
      pools = [];
      memory = [];
    }

pub is_lawful : IsLawful image
unfolding IsLe
is_lawful = record {
  regions = refl;
  names = refl;
  distinct = refl;
  rodata = refl;
  pools = refl;
  partitions = refl;
  partitions_placed = record { starts_are = refl; fit = le_by_compare 32 524288 tt };
  domains = refl;
  objects = refl;
  indices = refl;
  rows = refl;
  stacks_placed = record { starts_are = refl; fit = le_by_compare 64 524288 tt };
  boots = refl;
  boot_threads = refl;
  boot_stacks = refl;
  scripts = refl;
  futexes = refl;
  futexes_apart = refl;
  light = le_by_compare (weight image) 400000 tt;
}

pub runs : whole_run image choices ≡ record { events = events; is_lawful = true; is_complete = true; dump = dump }
unfolding blank
runs = refl
