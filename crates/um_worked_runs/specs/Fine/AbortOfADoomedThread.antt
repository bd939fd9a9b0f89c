-- A thread at rest is doomed and aborted: it is put away, and not killed.
use Rattle.std.specs.Prelude.{◌≡◌, ℕ, true, false, List, [], ◌∷◌, Some, None, pos, codes, refl}
use Rattle.um_base.specs.declared.names.Kind.TheVariants as Kind
use Rattle.um_base.specs.declared.names.Mode.TheVariants as Mode
use Rattle.um_base.specs.declared.names.Mpu.TheVariants as Mpu
use Rattle.um_base.specs.declared.names.Policy.TheVariants as Policy
use Rattle.um_base.specs.declared.names.Reply.TheVariants as Reply
use Rattle.um_base.specs.declared.names.Term.TheVariants as Term
use Rattle.um_base.specs.declared.names.Want.TheVariants as Want
use Rattle.um_base.specs.declared.act.Act.TheVariants as Act
use Rattle.um_base.specs.declared.act.Cause.TheVariants as Cause
use Rattle.um_base.specs.declared.image.Setup.TheVariants as Setup
use Rattle.um_base.specs.declared.instr.Instr.TheVariants as Instr
use Rattle.um_base.specs.declared.act.Event.{Event}
use Rattle.um_base.specs.declared.image.Image.{Image}
use Rattle.um_base.specs.declared.image.Script.{Script}
use Rattle.um_worked_runs.specs.Fine.Left.{without_priorities}
use Rattle.um_worked_runs.specs.Fine.Brief.{Brief}
use Rattle.um_worked_runs.specs.Fine.Whole.{whole_fine_run}
use Rattle.um_worked_runs.specs.Fine.Related.{related_steps}
use Rattle.um_machine.specs.Run.{blank}
use Rattle.um_worked_runs.specs.Evaluate.{Choice, begins}
use Rattle.um_worked_runs.specs.Dump.{Dump, started, doomed, initialised, nothing}
use Rattle.um_worked_runs.specs.Words.{at, thread, row, range, by, on, choose}
use Rattle.um_worked_runs.specs.Whole.{whole_run}

abbrev pub script_0 : Script
script_0 =
    record { name = codes "ca"; lines = Instr.Abort (Term.Num 0x40000080) ∷ [] }

abbrev pub script_1 : Script
script_1 =
    record {
      name = codes "cb";
      lines = Instr.Set 0 (Term.Num 1)
          ∷ Instr.Set 0 (Term.Num 1) ∷ [];
    }

abbrev pub script_2 : Script
script_2 =
    record { name = codes "cc"; lines = Instr.Oops ∷ [] }

abbrev pub image : Image
image =
    record {
      mpu = Mpu.V7;
      regions = 8;
      policy = Policy.Halt;
      rodata = None;
      rodata_bytes = [];
      pools = [];
      partitions = [];
      domains = record { name = codes "d"; parts = Some [] } ∷ [];
      objects = record { name = codes "a"; kind = Kind.Thread; addr = at 0x40000000; public = true; setup = Setup.Thread (thread 0) }
          ∷ record { name = codes "sa"; kind = Kind.ThreadStack; addr = at 0x20080000; public = false; setup = Setup.ThreadStack (range 0x20080000 64) 64 }
          ∷ record { name = codes "b"; kind = Kind.Thread; addr = at 0x40000080; public = true; setup = Setup.Thread (thread 1) }
          ∷ record { name = codes "sb"; kind = Kind.ThreadStack; addr = at 0x20080040; public = false; setup = Setup.ThreadStack (range 0x20080040 64) 64 }
          ∷ record { name = codes "c"; kind = Kind.Thread; addr = at 0x40000100; public = true; setup = Setup.Thread (thread 2) }
          ∷ record { name = codes "sc"; kind = Kind.ThreadStack; addr = at 0x20080080; public = false; setup = Setup.ThreadStack (range 0x20080080 64) 64 } ∷ [];
      boots = record { thread = row 0; stack = row 1; script = 0; mode = Mode.User; priority = pos 0; domain = 0; pool = None; grants = [] }
          ∷ record { thread = row 2; stack = row 3; script = 1; mode = Mode.User; priority = pos 0; domain = 0; pool = None; grants = [] }
          ∷ record { thread = row 4; stack = row 5; script = 2; mode = Mode.User; priority = pos 0; domain = 0; pool = None; grants = [] } ∷ [];
      scripts = script_0
          ∷ script_1
          ∷ script_2 ∷ [];
      futexes = [];
    }

-- which thread makes each step, and which one
abbrev pub choices : List Choice
choices =
    choose 0 0 begins ∷ choose 2 0 begins ∷ choose 1 0 begins ∷ on 2 ∷ on 2 ∷ on 0 ∷ on 2 ∷ on 2 ∷ on 0
    ∷ on 0 ∷ on 2 ∷ on 2 ∷ on 2 ∷ on 2 ∷ on 2 ∷ on 2 ∷ on 2 ∷ on 2 ∷ on 2 ∷ on 2 ∷ on 2 ∷ on 2 ∷ on 2 ∷ on 2
    ∷ on 2 ∷ on 2 ∷ on 2 ∷ on 2 ∷ on 2 ∷ on 2 ∷ on 2 ∷ on 2 ∷ on 2 ∷ on 2 ∷ on 2 ∷ on 2 ∷ on 2 ∷ on 2 ∷ on 2
    ∷ []

-- what the trace shows
abbrev pub events : List Event
events =
    by 0 (Act.Begin 0 1)
    ∷ by 2 (Act.Begin 2 1)
    ∷ by 1 (Act.Begin 1 1)
    ∷ by 2 (Act.Fatal 3 Cause.KOops)
    ∷ by 2 (Act.Doom (thread 0))
    ∷ by 0 (Act.Check (at 0x40000080) (Some Kind.Thread) Want.Init None)
    ∷ by 2 (Act.Doom (thread 1))
    ∷ by 2 (Act.Doom (thread 2))
    ∷ by 0 (Act.Abort (thread 1) true)
    ∷ by 0 (Act.Answered Reply.Void)
    ∷ by 2 (Act.Doom (thread 3))
    ∷ by 2 (Act.Doom (thread 4))
    ∷ by 2 (Act.Doom (thread 5))
    ∷ by 2 (Act.Doom (thread 6))
    ∷ by 2 (Act.Doom (thread 7))
    ∷ by 2 (Act.Doom (thread 8))
    ∷ by 2 (Act.Doom (thread 9))
    ∷ by 2 (Act.Doom (thread 10))
    ∷ by 2 (Act.Doom (thread 11))
    ∷ by 2 (Act.Doom (thread 12))
    ∷ by 2 (Act.Doom (thread 13))
    ∷ by 2 (Act.Doom (thread 14))
    ∷ by 2 (Act.Doom (thread 15))
    ∷ by 2 (Act.Doom (thread 16))
    ∷ by 2 (Act.Doom (thread 17))
    ∷ by 2 (Act.Doom (thread 18))
    ∷ by 2 (Act.Doom (thread 19))
    ∷ by 2 (Act.Doom (thread 20))
    ∷ by 2 (Act.Doom (thread 21))
    ∷ by 2 (Act.Doom (thread 22))
    ∷ by 2 (Act.Doom (thread 23))
    ∷ by 2 (Act.Doom (thread 24))
    ∷ by 2 (Act.Doom (thread 25))
    ∷ by 2 (Act.Doom (thread 26))
    ∷ by 2 (Act.Doom (thread 27))
    ∷ by 2 (Act.Doom (thread 28))
    ∷ by 2 (Act.Doom (thread 29))
    ∷ by 2 (Act.Doom (thread 30))
    ∷ by 2 (Act.Doom (thread 31)) ∷ []

abbrev pub dump : Dump
dump =
    record {
      threads = started 0 doomed Mode.User (pos 0) 0
          ∷ started 1 doomed Mode.User (pos 0) 0
          ∷ started 2 doomed Mode.User (pos 0) 0 ∷ [];
      objects = record { row = 0; kind = Some Kind.Thread; stage = initialised; public = true; holders = 0 ∷ []; content = nothing }
          ∷ record { row = 1; kind = Some Kind.ThreadStack; stage = initialised; public = false; holders = []; content = nothing }
          ∷ record { row = 2; kind = Some Kind.Thread; stage = initialised; public = true; holders = 1 ∷ []; content = nothing }
          ∷ record { row = 3; kind = Some Kind.ThreadStack; stage = initialised; public = false; holders = []; content = nothing }
          ∷ record { row = 4; kind = Some Kind.Thread; stage = initialised; public = true; holders = 2 ∷ []; content = nothing }
          ∷ record { row = 5; kind = Some Kind.ThreadStack; stage = initialised; public = false; holders = []; content = nothing } ∷ [];
      domains = Some [] ∷ [];
      pools = [];
      memory = [];
    }

pub runs : whole_run image choices ≡ record { events = events; is_lawful = true; is_complete = true; dump = dump }
unfolding blank
runs = refl

-- which processor makes each step
abbrev pub processors : List ℕ
processors =
    1 ∷ 2 ∷ 1 ∷ 0 ∷ 0 ∷ 2 ∷ 0 ∷ 0 ∷ 1 ∷ 2 ∷ 2 ∷ 0 ∷ 2 ∷ 0 ∷ 1 ∷ 1 ∷ 1 ∷ 2 ∷ 0 ∷ 0 ∷ 1 ∷ 0 ∷ 1 ∷ 1 ∷ 0 ∷ 0
    ∷ 1 ∷ 0 ∷ 1 ∷ 0 ∷ 0 ∷ 0 ∷ 0 ∷ 0 ∷ 0 ∷ 0 ∷ 0 ∷ 0 ∷ 0 ∷ 0 ∷ 0 ∷ 0 ∷ 0 ∷ 0 ∷ 0 ∷ 0 ∷ 0 ∷ 0 ∷ 0 ∷ 0 ∷ 0 ∷ 0
    ∷ 0 ∷ []

-- the steps: processor, site, the step's number there, and which unseen step it is
abbrev pub steps : List Brief
steps =
    (1, 306, 1, 15) ∷ (2, 306, 2, 15) ∷ (1, 128, 1, 0) ∷ (0, 306, 3, 15) ∷ (0, 130, 1, 0) ∷ (2, 129, 1, 0)
    ∷ (0, 130, 2, 0) ∷ (0, 128, 2, 0) ∷ (1, 2, 1, 0) ∷ (2, 306, 4, 16) ∷ (2, 306, 5, 15) ∷ (0, 129, 2, 0)
    ∷ (2, 129, 3, 18) ∷ (0, 130, 3, 0) ∷ (1, 129, 4, 0) ∷ (1, 308, 1, 23) ∷ (1, 128, 3, 0) ∷ (2, 306, 6, 17)
    ∷ (0, 131, 1, 0) ∷ (0, 132, 1, 0) ∷ (1, 2, 2, 1) ∷ (0, 133, 1, 0) ∷ (1, 306, 7, 16) ∷ (1, 306, 8, 15)
    ∷ (0, 134, 1, 0) ∷ (0, 135, 1, 0) ∷ (1, 128, 4, 18) ∷ (0, 136, 1, 0) ∷ (1, 306, 9, 17) ∷ (0, 137, 1, 0)
    ∷ (0, 138, 1, 0) ∷ (0, 139, 1, 0) ∷ (0, 140, 1, 0) ∷ (0, 141, 1, 0) ∷ (0, 142, 1, 0) ∷ (0, 143, 1, 0)
    ∷ (0, 144, 1, 0) ∷ (0, 145, 1, 0) ∷ (0, 146, 1, 0) ∷ (0, 147, 1, 0) ∷ (0, 148, 1, 0) ∷ (0, 149, 1, 0)
    ∷ (0, 150, 1, 0) ∷ (0, 151, 1, 0) ∷ (0, 152, 1, 0) ∷ (0, 153, 1, 0) ∷ (0, 154, 1, 0) ∷ (0, 155, 1, 0)
    ∷ (0, 156, 1, 0) ∷ (0, 157, 1, 0) ∷ (0, 158, 1, 0) ∷ (0, 159, 1, 0) ∷ (0, 306, 10, 17) ∷ []

pub makes : whole_fine_run image 3 processors ≡ record { steps = steps; events = events; is_lawful = true; is_complete = true; dump = without_priorities dump }
unfolding blank
makes = refl

-- before each step and after the last one the relation holds
pub is_related : related_steps image (record { cpus = 3; threads = 0 ∷ 1 ∷ 2 ∷ []; rows = 0 ∷ 1 ∷ 2 ∷ 3 ∷ 4 ∷ 5 ∷ []; domains = 0 ∷ [] }) processors choices ≡ 54
unfolding blank
is_related = refl
