-- Three threads join one another: the one that would close the ring is told so.
use Rattle.std.specs.Prelude.{◌≡◌, ℕ, true, false, List, [], ◌∷◌, Some, None, pos, codes, refl}
use Rattle.um_base.specs.declared.names.Kind.TheVariants as Kind
use Rattle.um_base.specs.declared.names.Mode.TheVariants as Mode
use Rattle.um_base.specs.declared.names.Mpu.TheVariants as Mpu
use Rattle.um_base.specs.declared.names.Policy.TheVariants as Policy
use Rattle.um_base.specs.declared.names.Term.TheVariants as Term
use Rattle.um_base.specs.declared.names.Timeout.TheVariants as Timeout
use Rattle.um_base.specs.declared.names.Want.TheVariants as Want
use Rattle.um_base.specs.declared.act.Act.TheVariants as Act
use Rattle.um_base.specs.declared.act.Answer.TheVariants as Answer
use Rattle.um_base.specs.declared.image.Setup.TheVariants as Setup
use Rattle.um_base.specs.declared.instr.Instr.TheVariants as Instr
use Rattle.um_base.specs.declared.act.Event.{Event}
use Rattle.um_base.specs.declared.image.Image.{Image}
use Rattle.um_base.specs.declared.image.Script.{Script}
use Rattle.um_worked_runs.specs.Fine.Left.{without_priorities}
use Rattle.um_worked_runs.specs.Fine.Brief.{Brief}
use Rattle.um_worked_runs.specs.Fine.Whole.{whole_fine_run}
use Rattle.um_worked_runs.specs.Fine.Related.{related_steps}
use Rattle.um_machine.specs.Run.{blank}
use Rattle.um_worked_runs.specs.Evaluate.{Choice, begins}
use Rattle.um_worked_runs.specs.Dump.{Dump, started, initialised, nothing, joining}
use Rattle.um_worked_runs.specs.Words.{at, thread, row, range, by, on, choose}
use Rattle.um_worked_runs.specs.Whole.{whole_run}

abbrev pub script_0 : Script
script_0 =
    record { name = codes "ca"; lines = Instr.Join (Term.Num 0x40000080) Timeout.Forever ∷ [] }

abbrev pub script_1 : Script
script_1 =
    record { name = codes "cb"; lines = Instr.Join (Term.Num 0x40000100) Timeout.Forever ∷ [] }

abbrev pub script_2 : Script
script_2 =
    record { name = codes "cc"; lines = Instr.Join (Term.Num 0x40000000) Timeout.Forever ∷ [] }

abbrev pub image : Image
image =
    record {
      mpu = Mpu.V7;
      regions = 8;
      policy = Policy.Abort;
      rodata = None;
      rodata_bytes = [];
      pools = [];
      partitions = [];
      domains = record { name = codes "d"; parts = Some [] } ∷ [];
      objects = record { name = codes "a"; kind = Kind.Thread; addr = at 0x40000000; public = true; setup = Setup.Thread (thread 0) }
          ∷ record { name = codes "sa"; kind = Kind.ThreadStack; addr = at 0x20080000; public = false; setup = Setup.ThreadStack (range 0x20080000 64) 64 }
          ∷ record { name = codes "b"; kind = Kind.Thread; addr = at 0x40000080; public = true; setup = Setup.Thread (thread 1) }
          ∷ record { name = codes "sb"; kind = Kind.ThreadStack; addr = at 0x20080040; public = false; setup = Setup.ThreadStack (range 0x20080040 64) 64 }
          ∷ record { name = codes "c"; kind = Kind.Thread; addr = at 0x40000100; public = true; setup = Setup.Thread (thread 2) }
          ∷ record { name = codes "sc"; kind = Kind.ThreadStack; addr = at 0x20080080; public = false; setup = Setup.ThreadStack (range 0x20080080 64) 64 } ∷ [];
      boots = record { thread = row 0; stack = row 1; script = 0; mode = Mode.User; priority = pos 0; domain = 0; pool = None; grants = [] }
          ∷ record { thread = row 2; stack = row 3; script = 1; mode = Mode.User; priority = pos 0; domain = 0; pool = None; grants = [] }
          ∷ record { thread = row 4; stack = row 5; script = 2; mode = Mode.User; priority = pos 0; domain = 0; pool = None; grants = [] } ∷ [];
      scripts = script_0
          ∷ script_1
          ∷ script_2 ∷ [];
      futexes = [];
    }

-- which thread makes each step, and which one
abbrev pub choices : List Choice
choices =
    choose 1 0 begins ∷ on 1 ∷ choose 0 0 begins ∷ choose 2 0 begins ∷ on 1 ∷ on 2 ∷ on 2 ∷ on 0 ∷ on 0 ∷ []

-- what the trace shows
abbrev pub events : List Event
events =
    by 1 (Act.Begin 1 1)
    ∷ by 1 (Act.Check (at 0x40000100) (Some Kind.Thread) Want.Init None)
    ∷ by 0 (Act.Begin 0 1)
    ∷ by 2 (Act.Begin 2 1)
    ∷ by 1 (Act.Join (thread 2) Answer.Wait)
    ∷ by 2 (Act.Check (at 0x40000000) (Some Kind.Thread) Want.Init None)
    ∷ by 2 (Act.Join (thread 0) Answer.Wait)
    ∷ by 0 (Act.Check (at 0x40000080) (Some Kind.Thread) Want.Init None)
    ∷ by 0 (Act.Join (thread 1) Answer.Wait) ∷ []

abbrev pub dump : Dump
dump =
    record {
      threads = started 0 (joining 1) Mode.User (pos 0) 0
          ∷ started 1 (joining 2) Mode.User (pos 0) 0
          ∷ started 2 (joining 0) Mode.User (pos 0) 0 ∷ [];
      objects = record { row = 0; kind = Some Kind.Thread; stage = initialised; public = true; holders = 0 ∷ []; content = nothing }
          ∷ record { row = 1; kind = Some Kind.ThreadStack; stage = initialised; public = false; holders = []; content = nothing }
          ∷ record { row = 2; kind = Some Kind.Thread; stage = initialised; public = true; holders = 1 ∷ []; content = nothing }
          ∷ record { row = 3; kind = Some Kind.ThreadStack; stage = initialised; public = false; holders = []; content = nothing }
          ∷ record { row = 4; kind = Some Kind.Thread; stage = initialised; public = true; holders = 2 ∷ []; content = nothing }
          ∷ record { row = 5; kind = Some Kind.ThreadStack; stage = initialised; public = false; holders = []; content = nothing } ∷ [];
      domains = Some [] ∷ [];
      pools = [];
      memory = [];
    }

pub runs : whole_run image choices ≡ record { events = events; is_lawful = true; is_complete = true; dump = dump }
unfolding blank
runs = refl

-- which processor makes each step
abbrev pub processors : List ℕ
processors =
    0 ∷ 2 ∷ 1 ∷ 2 ∷ 2 ∷ 2 ∷ 0 ∷ 1 ∷ 2 ∷ 1 ∷ 1 ∷ 2 ∷ 1 ∷ 1 ∷ 0 ∷ 1 ∷ 0 ∷ 2 ∷ 0 ∷ 0 ∷ 0 ∷ []

-- the steps: processor, site, the step's number there, and which unseen step it is
abbrev pub steps : List Brief
steps =
    (0, 306, 1, 15) ∷ (2, 306, 2, 15) ∷ (1, 306, 3, 15) ∷ (2, 129, 1, 0) ∷ (2, 4, 1, 0) ∷ (2, 129, 2, 24)
    ∷ (0, 128, 1, 0) ∷ (1, 130, 1, 0) ∷ (2, 308, 1, 0) ∷ (1, 0, 1, 0) ∷ (1, 130, 2, 24) ∷ (2, 129, 3, 18)
    ∷ (1, 308, 2, 0) ∷ (1, 130, 3, 18) ∷ (0, 2, 1, 0) ∷ (1, 306, 4, 16) ∷ (0, 128, 2, 24) ∷ (2, 306, 5, 16)
    ∷ (0, 308, 3, 0) ∷ (0, 128, 3, 18) ∷ (0, 306, 6, 16) ∷ []

pub makes : whole_fine_run image 3 processors ≡ record { steps = steps; events = events; is_lawful = true; is_complete = true; dump = without_priorities dump }
unfolding blank
makes = refl

-- before each step and after the last one the relation holds
pub is_related : related_steps image (record { cpus = 3; threads = 0 ∷ 1 ∷ 2 ∷ []; rows = 0 ∷ 1 ∷ 2 ∷ 3 ∷ 4 ∷ 5 ∷ []; domains = 0 ∷ [] }) processors choices ≡ 22
unfolding blank
is_related = refl
