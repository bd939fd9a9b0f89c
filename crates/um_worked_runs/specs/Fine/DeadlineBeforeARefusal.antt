-- A wait on a futex arms its deadline before it is refused; the marks are void when they come.
use Rattle.std.specs.Prelude.{◌≡◌, ℕ, true, false, List, [], ◌∷◌, Some, None, pos, codes, refl}
use Rattle.um_base.specs.declared.names.Errno.TheVariants as Errno
use Rattle.um_base.specs.declared.names.Kind.TheVariants as Kind
use Rattle.um_base.specs.declared.names.Mode.TheVariants as Mode
use Rattle.um_base.specs.declared.names.Mpu.TheVariants as Mpu
use Rattle.um_base.specs.declared.names.Policy.TheVariants as Policy
use Rattle.um_base.specs.declared.names.Reply.TheVariants as Reply
use Rattle.um_base.specs.declared.names.Term.TheVariants as Term
use Rattle.um_base.specs.declared.names.Timeout.TheVariants as Timeout
use Rattle.um_base.specs.declared.act.Act.TheVariants as Act
use Rattle.um_base.specs.declared.act.Answer.TheVariants as Answer
use Rattle.um_base.specs.declared.act.Leftover.TheVariants as Leftover
use Rattle.um_base.specs.declared.image.Setup.TheVariants as Setup
use Rattle.um_base.specs.declared.instr.Instr.TheVariants as Instr
use Rattle.um_base.specs.declared.act.Event.{Event}
use Rattle.um_base.specs.declared.image.Image.{Image}
use Rattle.um_base.specs.declared.image.Script.{Script}
use Rattle.um_worked_runs.specs.Fine.Left.{without_priorities}
use Rattle.um_worked_runs.specs.Fine.Brief.{Brief}
use Rattle.um_worked_runs.specs.Fine.Whole.{whole_fine_run}
use Rattle.um_worked_runs.specs.Fine.Related.{related_steps}
use Rattle.um_machine.specs.Run.{blank}
use Rattle.um_worked_runs.specs.Evaluate.{Choice, skips, begins, exits, ticks}
use Rattle.um_worked_runs.specs.Dump.{Dump, started, ended, uninitialised, nothing}
use Rattle.um_worked_runs.specs.Words.{at, thread, row, range, rights, by, on, choose}
use Rattle.um_worked_runs.specs.Whole.{whole_run}

abbrev pub script_0 : Script
script_0 =
    record {
      name = codes "ca";
      lines = Instr.FutexWait (Term.Num 0x20000000) (Term.Num 1) (Timeout.Ticks 2)
          ∷ Instr.FutexWait (Term.Num 0x20000004) (Term.Num 0) (Timeout.Ticks 3)
          ∷ Instr.FutexWait (Term.Num 0) (Term.Num 0) (Timeout.Ticks 4) ∷ [];
    }

abbrev pub image : Image
image =
    record {
      mpu = Mpu.V7;
      regions = 8;
      policy = Policy.Abort;
      rodata = None;
      rodata_bytes = [];
      pools = [];
      partitions = record { name = codes "p"; range = range 0x20000000 32; attr = rights 27; bytes = [] } ∷ [];
      domains = record { name = codes "d"; parts = Some (0 ∷ []) } ∷ [];
      objects = record { name = codes "a"; kind = Kind.Thread; addr = at 0x40000000; public = true; setup = Setup.Thread (thread 0) }
          ∷ record { name = codes "sa"; kind = Kind.ThreadStack; addr = at 0x20080000; public = false; setup = Setup.ThreadStack (range 0x20080000 64) 64 } ∷ [];
      boots = record { thread = row 0; stack = row 1; script = 0; mode = Mode.User; priority = pos 0; domain = 0; pool = None; grants = [] } ∷ [];
      scripts = script_0 ∷ [];
      futexes = record { name = codes "f"; partition = 0; offset = 0 } ∷ [];
    }

-- which thread makes each step, and which one
abbrev pub choices : List Choice
choices =
    choose 0 0 begins ∷ on 0 ∷ on 0 ∷ on 0 ∷ choose 0 0 begins ∷ on 0 ∷ on 0 ∷ on 0 ∷ choose 0 0 begins
    ∷ on 0 ∷ on 0 ∷ on 0 ∷ choose 0 0 exits ∷ on 0 ∷ choose 0 0 skips ∷ on 0 ∷ choose 0 0 ticks
    ∷ choose 0 0 ticks ∷ choose 0 0 ticks ∷ []

-- what the trace shows
abbrev pub events : List Event
events =
    by 0 (Act.Begin 0 1)
    ∷ by 0 (Act.Arm 2)
    ∷ by 0 (Act.FutexWait (at 0x20000000) 0x1 (Answer.Now (Reply.Fail Errno.EAGAIN)))
    ∷ by 0 (Act.Answered (Reply.Fail Errno.EAGAIN))
    ∷ by 0 (Act.Begin 0 2)
    ∷ by 0 (Act.Arm 3)
    ∷ by 0 (Act.FutexWait (at 0x20000004) 0x0 (Answer.Now (Reply.Fail Errno.EINVAL)))
    ∷ by 0 (Act.Answered (Reply.Fail Errno.EINVAL))
    ∷ by 0 (Act.Begin 0 3)
    ∷ by 0 (Act.Arm 4)
    ∷ by 0 (Act.FutexWait (at 0x00000000) 0x0 (Answer.Now (Reply.Fail Errno.EACCES)))
    ∷ by 0 (Act.Answered (Reply.Fail Errno.EACCES))
    ∷ by 0 Act.Exit
    ∷ by 0 (Act.DropPair (thread 0) (at 0x40000000) Leftover.Kept)
    ∷ by 0 (Act.ClearInit (at 0x20080000))
    ∷ by 0 (Act.ClearInit (at 0x40000000))
    ∷ by 0 (Act.Tick 2)
    ∷ by 0 (Act.Tick 3)
    ∷ by 0 (Act.Tick 4) ∷ []

abbrev pub dump : Dump
dump =
    record {
      threads = started 0 ended Mode.User (pos 0) 0 ∷ [];
      objects = record { row = 0; kind = Some Kind.Thread; stage = uninitialised; public = true; holders = []; content = nothing }
          ∷ record { row = 1; kind = Some Kind.ThreadStack; stage = uninitialised; public = false; holders = []; content = nothing } ∷ [];
      domains = Some ((range 0x20000000 32, rights 27) ∷ []) ∷ [];
      pools = [];
      memory = [];
    }

pub runs : whole_run image choices ≡ record { events = events; is_lawful = true; is_complete = true; dump = dump }
unfolding blank
runs = refl

-- which processor makes each step
abbrev pub processors : List ℕ
processors =
    0 ∷ 0 ∷ 0 ∷ 0 ∷ 0 ∷ 0 ∷ 0 ∷ 0 ∷ 0 ∷ 0 ∷ 0 ∷ 0 ∷ 0 ∷ 0 ∷ 0 ∷ 0 ∷ 0 ∷ 0 ∷ 0 ∷ 0 ∷ 0 ∷ 0 ∷ 0 ∷ 0 ∷ 0 ∷ 0
    ∷ 0 ∷ 0 ∷ 0 ∷ 0 ∷ 0 ∷ 0 ∷ 0 ∷ 0 ∷ 0 ∷ 0 ∷ 0 ∷ 0 ∷ 0 ∷ 0 ∷ 0 ∷ 0 ∷ 0 ∷ 0 ∷ 0 ∷ 0 ∷ 0 ∷ 0 ∷ 0 ∷ 0 ∷ 0 ∷ 0
    ∷ 0 ∷ 0 ∷ 0 ∷ 0 ∷ 0 ∷ 0 ∷ 0 ∷ 0 ∷ 0 ∷ 0 ∷ 0 ∷ 0 ∷ 0 ∷ 0 ∷ 0 ∷ 0 ∷ 0 ∷ 0 ∷ 0 ∷ 0 ∷ 0 ∷ 0 ∷ 0 ∷ 0 ∷ 0 ∷ 0
    ∷ 0 ∷ 0 ∷ 0 ∷ 0 ∷ 0 ∷ 0 ∷ 0 ∷ 0 ∷ 0 ∷ 0 ∷ 0 ∷ 0 ∷ 0 ∷ 0 ∷ 0 ∷ 0 ∷ 0 ∷ 0 ∷ 0 ∷ 0 ∷ 0 ∷ 0 ∷ 0 ∷ 0 ∷ 0 ∷ 0
    ∷ 0 ∷ 0 ∷ 0 ∷ 0 ∷ 0 ∷ 0 ∷ 0 ∷ 0 ∷ 0 ∷ 0 ∷ 0 ∷ 0 ∷ 0 ∷ 0 ∷ 0 ∷ 0 ∷ 0 ∷ 0 ∷ 0 ∷ 0 ∷ 0 ∷ 0 ∷ 0 ∷ 0 ∷ 0 ∷ 0
    ∷ 0 ∷ 0 ∷ 0 ∷ 0 ∷ 0 ∷ 0 ∷ 0 ∷ 0 ∷ 0 ∷ 0 ∷ 0 ∷ 0 ∷ 0 ∷ 0 ∷ 0 ∷ 0 ∷ 0 ∷ 0 ∷ 0 ∷ 0 ∷ 0 ∷ 0 ∷ 0 ∷ 0 ∷ 0 ∷ 0
    ∷ 0 ∷ 0 ∷ 0 ∷ 0 ∷ 0 ∷ 0 ∷ 0 ∷ 0 ∷ 0 ∷ 0 ∷ 0 ∷ 0 ∷ 0 ∷ 0 ∷ 0 ∷ 0 ∷ 0 ∷ 0 ∷ 0 ∷ 0 ∷ 0 ∷ 1 ∷ 1 ∷ 1 ∷ 0 ∷ 0
    ∷ 0 ∷ 1 ∷ 0 ∷ 0 ∷ 0 ∷ []

-- the steps: processor, site, the step's number there, and which unseen step it is
abbrev pub steps : List Brief
steps =
    (0, 306, 1, 15) ∷ (0, 128, 1, 0) ∷ (0, 128, 2, 24) ∷ (0, 306, 2, 19) ∷ (0, 307, 1, 0) ∷ (0, 128, 3, 4)
    ∷ (0, 160, 1, 6) ∷ (0, 296, 1, 9) ∷ (0, 304, 1, 0) ∷ (0, 160, 2, 7) ∷ (0, 128, 4, 5) ∷ (0, 307, 2, 21)
    ∷ (0, 128, 5, 0) ∷ (0, 306, 3, 16) ∷ (0, 306, 4, 15) ∷ (0, 128, 6, 0) ∷ (0, 128, 7, 24) ∷ (0, 306, 5, 19)
    ∷ (0, 307, 3, 0) ∷ (0, 128, 8, 4) ∷ (0, 160, 3, 6) ∷ (0, 304, 2, 0) ∷ (0, 160, 4, 7) ∷ (0, 128, 9, 5)
    ∷ (0, 307, 4, 21) ∷ (0, 128, 10, 0) ∷ (0, 306, 6, 16) ∷ (0, 306, 7, 15) ∷ (0, 128, 11, 0)
    ∷ (0, 128, 12, 24) ∷ (0, 306, 8, 19) ∷ (0, 307, 5, 0) ∷ (0, 128, 13, 4) ∷ (0, 160, 5, 6) ∷ (0, 304, 3, 0)
    ∷ (0, 160, 6, 7) ∷ (0, 128, 14, 5) ∷ (0, 307, 6, 21) ∷ (0, 128, 15, 0) ∷ (0, 306, 9, 16)
    ∷ (0, 306, 10, 15) ∷ (0, 128, 16, 0) ∷ (0, 0, 1, 0) ∷ (0, 1, 1, 2) ∷ (0, 2, 1, 2) ∷ (0, 3, 1, 2)
    ∷ (0, 4, 1, 2) ∷ (0, 5, 1, 2) ∷ (0, 6, 1, 2) ∷ (0, 7, 1, 2) ∷ (0, 8, 1, 2) ∷ (0, 9, 1, 2) ∷ (0, 10, 1, 2)
    ∷ (0, 11, 1, 2) ∷ (0, 12, 1, 2) ∷ (0, 13, 1, 2) ∷ (0, 14, 1, 2) ∷ (0, 15, 1, 2) ∷ (0, 16, 1, 2)
    ∷ (0, 17, 1, 2) ∷ (0, 18, 1, 2) ∷ (0, 19, 1, 2) ∷ (0, 20, 1, 2) ∷ (0, 21, 1, 2) ∷ (0, 22, 1, 2)
    ∷ (0, 23, 1, 2) ∷ (0, 24, 1, 2) ∷ (0, 25, 1, 2) ∷ (0, 26, 1, 2) ∷ (0, 27, 1, 2) ∷ (0, 28, 1, 2)
    ∷ (0, 29, 1, 2) ∷ (0, 30, 1, 2) ∷ (0, 31, 1, 2) ∷ (0, 32, 1, 2) ∷ (0, 33, 1, 2) ∷ (0, 34, 1, 2)
    ∷ (0, 35, 1, 2) ∷ (0, 36, 1, 2) ∷ (0, 37, 1, 2) ∷ (0, 38, 1, 2) ∷ (0, 39, 1, 2) ∷ (0, 40, 1, 2)
    ∷ (0, 41, 1, 2) ∷ (0, 42, 1, 2) ∷ (0, 43, 1, 2) ∷ (0, 44, 1, 2) ∷ (0, 45, 1, 2) ∷ (0, 46, 1, 2)
    ∷ (0, 47, 1, 2) ∷ (0, 48, 1, 2) ∷ (0, 49, 1, 2) ∷ (0, 50, 1, 2) ∷ (0, 51, 1, 2) ∷ (0, 52, 1, 2)
    ∷ (0, 53, 1, 2) ∷ (0, 54, 1, 2) ∷ (0, 55, 1, 2) ∷ (0, 56, 1, 2) ∷ (0, 57, 1, 2) ∷ (0, 58, 1, 2)
    ∷ (0, 59, 1, 2) ∷ (0, 60, 1, 2) ∷ (0, 61, 1, 2) ∷ (0, 62, 1, 2) ∷ (0, 63, 1, 2) ∷ (0, 64, 1, 2)
    ∷ (0, 65, 1, 2) ∷ (0, 66, 1, 2) ∷ (0, 67, 1, 2) ∷ (0, 68, 1, 2) ∷ (0, 69, 1, 2) ∷ (0, 70, 1, 2)
    ∷ (0, 71, 1, 2) ∷ (0, 72, 1, 2) ∷ (0, 73, 1, 2) ∷ (0, 74, 1, 2) ∷ (0, 75, 1, 2) ∷ (0, 76, 1, 2)
    ∷ (0, 77, 1, 2) ∷ (0, 78, 1, 2) ∷ (0, 79, 1, 2) ∷ (0, 80, 1, 2) ∷ (0, 81, 1, 2) ∷ (0, 82, 1, 2)
    ∷ (0, 83, 1, 2) ∷ (0, 84, 1, 2) ∷ (0, 85, 1, 2) ∷ (0, 86, 1, 2) ∷ (0, 87, 1, 2) ∷ (0, 88, 1, 2)
    ∷ (0, 89, 1, 2) ∷ (0, 90, 1, 2) ∷ (0, 91, 1, 2) ∷ (0, 92, 1, 2) ∷ (0, 93, 1, 2) ∷ (0, 94, 1, 2)
    ∷ (0, 95, 1, 2) ∷ (0, 96, 1, 2) ∷ (0, 97, 1, 2) ∷ (0, 98, 1, 2) ∷ (0, 99, 1, 2) ∷ (0, 100, 1, 2)
    ∷ (0, 101, 1, 2) ∷ (0, 102, 1, 2) ∷ (0, 103, 1, 2) ∷ (0, 104, 1, 2) ∷ (0, 105, 1, 2) ∷ (0, 106, 1, 2)
    ∷ (0, 107, 1, 2) ∷ (0, 108, 1, 2) ∷ (0, 109, 1, 2) ∷ (0, 110, 1, 2) ∷ (0, 111, 1, 2) ∷ (0, 112, 1, 2)
    ∷ (0, 113, 1, 2) ∷ (0, 114, 1, 2) ∷ (0, 115, 1, 2) ∷ (0, 116, 1, 2) ∷ (0, 117, 1, 2) ∷ (0, 118, 1, 2)
    ∷ (0, 119, 1, 2) ∷ (0, 120, 1, 2) ∷ (0, 121, 1, 2) ∷ (0, 122, 1, 2) ∷ (0, 123, 1, 2) ∷ (0, 124, 1, 2)
    ∷ (0, 125, 1, 2) ∷ (0, 126, 1, 2) ∷ (0, 127, 1, 2) ∷ (0, 1, 2, 0) ∷ (0, 308, 1, 27) ∷ (0, 0, 2, 0)
    ∷ (0, 0, 3, 1) ∷ (0, 306, 11, 17) ∷ (0, 307, 7, 0) ∷ (0, 307, 8, 22) ∷ (1, 307, 9, 0) ∷ (1, 307, 10, 22)
    ∷ (1, 304, 4, 23) ∷ (0, 304, 5, 23) ∷ (0, 306, 12, 20) ∷ (0, 307, 11, 0) ∷ (1, 306, 13, 20)
    ∷ (0, 307, 12, 22) ∷ (0, 304, 6, 23) ∷ (0, 306, 14, 20) ∷ []

pub makes : whole_fine_run image 2 processors ≡ record { steps = steps; events = events; is_lawful = true; is_complete = true; dump = without_priorities dump }
unfolding blank
makes = refl

-- before each step and after the last one the relation holds
pub is_related : related_steps image (record { cpus = 2; threads = 0 ∷ []; rows = 0 ∷ 1 ∷ []; domains = 0 ∷ [] }) processors choices ≡ 188
unfolding blank
is_related = refl
