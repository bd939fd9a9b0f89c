-- A semaphore is opened to all threads after another processor has taken the last permission on it: it is gone, and nothing is opened.
use Rattle.std.specs.Prelude.{◌≡◌, ℕ, true, false, List, [], ◌∷◌, Some, None, pos, codes, refl}
use Rattle.um_base.specs.declared.names.Errno.TheVariants as Errno
use Rattle.um_base.specs.declared.names.Kind.TheVariants as Kind
use Rattle.um_base.specs.declared.names.Mode.TheVariants as Mode
use Rattle.um_base.specs.declared.names.Mpu.TheVariants as Mpu
use Rattle.um_base.specs.declared.names.Policy.TheVariants as Policy
use Rattle.um_base.specs.declared.names.Reply.TheVariants as Reply
use Rattle.um_base.specs.declared.names.Term.TheVariants as Term
use Rattle.um_base.specs.declared.names.Want.TheVariants as Want
use Rattle.um_base.specs.declared.act.Act.TheVariants as Act
use Rattle.um_base.specs.declared.act.Given.TheVariants as Given
use Rattle.um_base.specs.declared.act.Leftover.TheVariants as Leftover
use Rattle.um_base.specs.declared.image.Setup.TheVariants as Setup
use Rattle.um_base.specs.declared.instr.Instr.TheVariants as Instr
use Rattle.um_base.specs.declared.act.Event.{Event}
use Rattle.um_base.specs.declared.image.Image.{Image}
use Rattle.um_base.specs.declared.image.Script.{Script}
use Rattle.um_worked_runs.specs.Fine.Left.{without_priorities}
use Rattle.um_worked_runs.specs.Fine.Brief.{Brief}
use Rattle.um_worked_runs.specs.Fine.Whole.{whole_fine_run}
use Rattle.um_worked_runs.specs.Fine.Related.{related_steps}
use Rattle.um_machine.specs.Run.{blank}
use Rattle.um_worked_runs.specs.Evaluate.{Choice, skips, begins, exits, recycles, goes}
use Rattle.um_worked_runs.specs.Dump.{Dump, unborn, started, ended, uninitialised, nothing}
use Rattle.um_worked_runs.specs.Words.{at, thread, row, range, by, on, choose}
use Rattle.um_worked_runs.specs.Whole.{whole_run}

abbrev pub script_0 : Script
script_0 =
    record {
      name = codes "m";
      lines = Instr.ObjectAlloc Kind.Sem 0
          ∷ Instr.AllGrant (Term.Reg 0) ∷ [];
    }

abbrev pub script_1 : Script
script_1 =
    record {
      name = codes "v";
      lines = Instr.Repeat 8
          ∷ Instr.Revoke (Term.Num 0x48000100) (Term.Num 0x40000000)
          ∷ Instr.End ∷ [];
    }

abbrev pub script_2 : Script
script_2 =
    record { name = codes "w"; lines = Instr.Set 0 (Term.Num 1) ∷ [] }

abbrev pub image : Image
image =
    record {
      mpu = Mpu.V7;
      regions = 8;
      policy = Policy.Abort;
      rodata = None;
      rodata_bytes = [];
      pools = record { name = codes "h"; size = 256 } ∷ [];
      partitions = [];
      domains = record { name = codes "d"; parts = Some [] } ∷ [];
      objects = record { name = codes "a"; kind = Kind.Thread; addr = at 0x40000000; public = false; setup = Setup.Thread (thread 0) }
          ∷ record { name = codes "sa"; kind = Kind.ThreadStack; addr = at 0x20080000; public = false; setup = Setup.ThreadStack (range 0x20080000 64) 64 }
          ∷ record { name = codes "b"; kind = Kind.Thread; addr = at 0x40000080; public = false; setup = Setup.Thread (thread 1) }
          ∷ record { name = codes "sb"; kind = Kind.ThreadStack; addr = at 0x20080040; public = false; setup = Setup.ThreadStack (range 0x20080040 64) 64 }
          ∷ record { name = codes "c"; kind = Kind.Thread; addr = at 0x40000100; public = false; setup = Setup.Thread (thread 2) }
          ∷ record { name = codes "sc"; kind = Kind.ThreadStack; addr = at 0x20080080; public = false; setup = Setup.ThreadStack (range 0x20080080 64) 64 } ∷ [];
      boots = record { thread = row 0; stack = row 1; script = 0; mode = Mode.Supervisor; priority = pos 0; domain = 0; pool = Some 0; grants = row 2 ∷ row 3 ∷ [] }
          ∷ record { thread = row 4; stack = row 5; script = 1; mode = Mode.Supervisor; priority = pos 0; domain = 0; pool = Some 0; grants = [] } ∷ [];
      scripts = script_0
          ∷ script_1
          ∷ script_2 ∷ [];
      futexes = [];
    }

-- which thread makes each step, and which one
abbrev pub choices : List Choice
choices =
    choose 2 0 begins ∷ on 2 ∷ on 2 ∷ on 2 ∷ choose 0 0 begins ∷ choose 2 0 begins ∷ choose 0 100 goes
    ∷ on 2 ∷ on 2 ∷ on 0 ∷ on 2 ∷ on 0 ∷ choose 0 0 begins ∷ on 0 ∷ choose 2 0 begins ∷ on 2 ∷ on 2 ∷ on 2
    ∷ on 0 ∷ on 2 ∷ on 0 ∷ choose 0 0 exits ∷ choose 2 100 recycles ∷ on 0 ∷ choose 2 0 begins
    ∷ choose 0 2 goes ∷ on 2 ∷ choose 0 3 goes ∷ on 2 ∷ on 2 ∷ choose 2 0 begins ∷ on 2 ∷ on 2 ∷ on 2
    ∷ choose 2 0 begins ∷ on 2 ∷ on 2 ∷ on 2 ∷ choose 2 0 begins ∷ on 2 ∷ on 2 ∷ on 2 ∷ choose 2 0 begins
    ∷ on 2 ∷ on 2 ∷ on 2 ∷ choose 2 0 exits ∷ choose 2 4 goes ∷ choose 2 0 skips ∷ on 2 ∷ choose 0 0 skips
    ∷ on 0 ∷ []

-- what the trace shows
abbrev pub events : List Event
events =
    by 2 (Act.Begin 1 2)
    ∷ by 2 (Act.Check (at 0x40000000) (Some Kind.Thread) Want.Any None)
    ∷ by 2 (Act.Check (at 0x48000100) None Want.Any (Some Errno.EBADF))
    ∷ by 2 (Act.Answered Reply.Void)
    ∷ by 0 (Act.Begin 0 1)
    ∷ by 2 (Act.Begin 1 2)
    ∷ by 0 (Act.Reserve Kind.Sem (Some (at 0x48000100)))
    ∷ by 2 (Act.Check (at 0x40000000) (Some Kind.Thread) Want.Any None)
    ∷ by 2 (Act.Check (at 0x48000100) None Want.Any (Some Errno.EBADF))
    ∷ by 0 (Act.Born (at 0x48000100))
    ∷ by 2 (Act.Answered Reply.Void)
    ∷ by 0 (Act.Answered (Reply.At (at 0x48000100)))
    ∷ by 0 (Act.Begin 0 2)
    ∷ by 0 (Act.Check (at 0x48000100) None Want.Any None)
    ∷ by 2 (Act.Begin 1 2)
    ∷ by 2 (Act.Check (at 0x40000000) (Some Kind.Thread) Want.Any None)
    ∷ by 2 (Act.Check (at 0x48000100) None Want.Any None)
    ∷ by 2 (Act.DropPair (thread 0) (at 0x48000100) Leftover.Gone)
    ∷ by 0 (Act.Publish (at 0x48000100) Given.Gone)
    ∷ by 2 (Act.Answered Reply.Void)
    ∷ by 0 (Act.Answered Reply.Void)
    ∷ by 0 Act.Exit
    ∷ by 2 (Act.Recycle (at 0x48000100))
    ∷ by 0 (Act.DropPair (thread 0) (at 0x40000000) Leftover.Kept)
    ∷ by 2 (Act.Begin 1 2)
    ∷ by 0 (Act.DropPair (thread 0) (at 0x40000080) Leftover.Kept)
    ∷ by 2 (Act.Check (at 0x40000000) (Some Kind.Thread) Want.Any None)
    ∷ by 0 (Act.DropPair (thread 0) (at 0x20080040) Leftover.Kept)
    ∷ by 2 (Act.Check (at 0x48000100) None Want.Any (Some Errno.EBADF))
    ∷ by 2 (Act.Answered Reply.Void)
    ∷ by 2 (Act.Begin 1 2)
    ∷ by 2 (Act.Check (at 0x40000000) (Some Kind.Thread) Want.Any None)
    ∷ by 2 (Act.Check (at 0x48000100) None Want.Any (Some Errno.EBADF))
    ∷ by 2 (Act.Answered Reply.Void)
    ∷ by 2 (Act.Begin 1 2)
    ∷ by 2 (Act.Check (at 0x40000000) (Some Kind.Thread) Want.Any None)
    ∷ by 2 (Act.Check (at 0x48000100) None Want.Any (Some Errno.EBADF))
    ∷ by 2 (Act.Answered Reply.Void)
    ∷ by 2 (Act.Begin 1 2)
    ∷ by 2 (Act.Check (at 0x40000000) (Some Kind.Thread) Want.Any None)
    ∷ by 2 (Act.Check (at 0x48000100) None Want.Any (Some Errno.EBADF))
    ∷ by 2 (Act.Answered Reply.Void)
    ∷ by 2 (Act.Begin 1 2)
    ∷ by 2 (Act.Check (at 0x40000000) (Some Kind.Thread) Want.Any None)
    ∷ by 2 (Act.Check (at 0x48000100) None Want.Any (Some Errno.EBADF))
    ∷ by 2 (Act.Answered Reply.Void)
    ∷ by 2 Act.Exit
    ∷ by 2 (Act.DropPair (thread 2) (at 0x40000100) Leftover.Kept)
    ∷ by 2 (Act.ClearInit (at 0x20080080))
    ∷ by 2 (Act.ClearInit (at 0x40000100))
    ∷ by 0 (Act.ClearInit (at 0x20080000))
    ∷ by 0 (Act.ClearInit (at 0x40000000)) ∷ []

abbrev pub dump : Dump
dump =
    record {
      threads = started 0 ended Mode.Supervisor (pos 0) 0
          ∷ unborn 1
          ∷ started 2 ended Mode.Supervisor (pos 0) 0 ∷ [];
      objects = record { row = 0; kind = Some Kind.Thread; stage = uninitialised; public = false; holders = []; content = nothing }
          ∷ record { row = 1; kind = Some Kind.ThreadStack; stage = uninitialised; public = false; holders = []; content = nothing }
          ∷ record { row = 2; kind = Some Kind.Thread; stage = uninitialised; public = false; holders = []; content = nothing }
          ∷ record { row = 3; kind = Some Kind.ThreadStack; stage = uninitialised; public = false; holders = []; content = nothing }
          ∷ record { row = 4; kind = Some Kind.Thread; stage = uninitialised; public = false; holders = []; content = nothing }
          ∷ record { row = 5; kind = Some Kind.ThreadStack; stage = uninitialised; public = false; holders = []; content = nothing } ∷ [];
      domains = Some [] ∷ [];
      pools = 256 ∷ [];
      memory = [];
    }

pub runs : whole_run image choices ≡ record { events = events; is_lawful = true; is_complete = true; dump = dump }
unfolding blank
runs = refl

-- which processor makes each step
abbrev pub processors : List ℕ
processors =
    0 ∷ 2 ∷ 2 ∷ 2 ∷ 2 ∷ 2 ∷ 0 ∷ 2 ∷ 2 ∷ 1 ∷ 1 ∷ 0 ∷ 1 ∷ 1 ∷ 0 ∷ 1 ∷ 0 ∷ 1 ∷ 0 ∷ 1 ∷ 0 ∷ 2 ∷ 0 ∷ 0 ∷ 2 ∷ 2
    ∷ 2 ∷ 2 ∷ 0 ∷ 2 ∷ 0 ∷ 0 ∷ 2 ∷ 0 ∷ 2 ∷ 0 ∷ 2 ∷ 2 ∷ 0 ∷ 2 ∷ 0 ∷ 2 ∷ 1 ∷ 0 ∷ 1 ∷ 0 ∷ 1 ∷ 0 ∷ 0 ∷ 1 ∷ 0 ∷ 0
    ∷ 0 ∷ 1 ∷ 1 ∷ 1 ∷ 0 ∷ 1 ∷ 0 ∷ 1 ∷ 0 ∷ 0 ∷ 1 ∷ 1 ∷ 0 ∷ 1 ∷ 0 ∷ 0 ∷ 0 ∷ 1 ∷ 1 ∷ 1 ∷ 1 ∷ 1 ∷ 1 ∷ 1 ∷ 0 ∷ 1
    ∷ 0 ∷ 0 ∷ 0 ∷ 1 ∷ 0 ∷ 2 ∷ 2 ∷ 0 ∷ 0 ∷ 0 ∷ 2 ∷ 0 ∷ 2 ∷ 2 ∷ 0 ∷ 2 ∷ 2 ∷ 2 ∷ 2 ∷ 2 ∷ 0 ∷ 2 ∷ 2 ∷ 2 ∷ 2 ∷ 0
    ∷ 2 ∷ 2 ∷ 0 ∷ 2 ∷ 2 ∷ 0 ∷ 2 ∷ 2 ∷ 2 ∷ 2 ∷ 2 ∷ 2 ∷ 2 ∷ 0 ∷ 0 ∷ 2 ∷ 2 ∷ 2 ∷ 2 ∷ 2 ∷ 0 ∷ 2 ∷ 2 ∷ 0 ∷ 0 ∷ 0
    ∷ 2 ∷ 0 ∷ 2 ∷ 2 ∷ 0 ∷ 2 ∷ 2 ∷ 0 ∷ 2 ∷ 2 ∷ 0 ∷ 2 ∷ 2 ∷ 0 ∷ 2 ∷ 2 ∷ 0 ∷ 2 ∷ 0 ∷ 2 ∷ 2 ∷ 2 ∷ 2 ∷ 2 ∷ 2 ∷ 2
    ∷ 2 ∷ 2 ∷ 2 ∷ 2 ∷ 2 ∷ 2 ∷ 0 ∷ 2 ∷ 0 ∷ 2 ∷ 2 ∷ 2 ∷ 2 ∷ 2 ∷ 2 ∷ 2 ∷ 2 ∷ 2 ∷ 2 ∷ 2 ∷ 2 ∷ 2 ∷ 2 ∷ 2 ∷ 0 ∷ 2
    ∷ 2 ∷ 0 ∷ 0 ∷ 2 ∷ 2 ∷ 2 ∷ 2 ∷ 2 ∷ 2 ∷ 0 ∷ 0 ∷ 2 ∷ 0 ∷ 2 ∷ 0 ∷ 2 ∷ 2 ∷ 0 ∷ 0 ∷ 0 ∷ 0 ∷ 2 ∷ 2 ∷ 2 ∷ 2 ∷ 2
    ∷ 2 ∷ 0 ∷ 2 ∷ 2 ∷ 2 ∷ 2 ∷ 2 ∷ 0 ∷ 0 ∷ 2 ∷ 2 ∷ 0 ∷ 2 ∷ 2 ∷ 0 ∷ 2 ∷ 0 ∷ 2 ∷ 2 ∷ 0 ∷ 2 ∷ 2 ∷ 2 ∷ 2 ∷ 0 ∷ 2
    ∷ 2 ∷ 0 ∷ 2 ∷ 2 ∷ 0 ∷ 2 ∷ 2 ∷ 2 ∷ 2 ∷ 2 ∷ 0 ∷ 2 ∷ 2 ∷ 2 ∷ 2 ∷ 2 ∷ 0 ∷ 2 ∷ 2 ∷ 2 ∷ 2 ∷ 2 ∷ 0 ∷ 2 ∷ 0 ∷ 0
    ∷ 2 ∷ 2 ∷ 2 ∷ 2 ∷ 2 ∷ 2 ∷ 0 ∷ 2 ∷ 2 ∷ 0 ∷ 2 ∷ 2 ∷ 2 ∷ 2 ∷ 0 ∷ 0 ∷ 2 ∷ 0 ∷ 2 ∷ 0 ∷ 2 ∷ 0 ∷ 2 ∷ 0 ∷ 2 ∷ 0
    ∷ 2 ∷ 0 ∷ 0 ∷ 2 ∷ 2 ∷ 0 ∷ 2 ∷ 0 ∷ 2 ∷ 0 ∷ 0 ∷ 0 ∷ 0 ∷ 0 ∷ 0 ∷ 0 ∷ 0 ∷ 0 ∷ 0 ∷ 0 ∷ 0 ∷ 0 ∷ 0 ∷ 0 ∷ 0 ∷ 0
    ∷ 0 ∷ 0 ∷ 0 ∷ 0 ∷ 0 ∷ 0 ∷ 0 ∷ 0 ∷ 0 ∷ 0 ∷ 0 ∷ 0 ∷ 0 ∷ 0 ∷ 0 ∷ 0 ∷ 0 ∷ 0 ∷ 0 ∷ 0 ∷ 0 ∷ 0 ∷ 0 ∷ 0 ∷ 0 ∷ 0
    ∷ 0 ∷ 0 ∷ 0 ∷ 0 ∷ 0 ∷ 0 ∷ []

-- the steps: processor, site, the step's number there, and which unseen step it is
abbrev pub steps : List Brief
steps =
    (0, 306, 1, 15) ∷ (2, 306, 2, 15) ∷ (2, 130, 1, 0) ∷ (2, 0, 1, 0) ∷ (2, 100, 1, 0) ∷ (2, 130, 2, 0)
    ∷ (0, 128, 1, 0) ∷ (2, 0, 2, 1) ∷ (2, 306, 3, 16) ∷ (1, 306, 4, 15) ∷ (1, 130, 3, 0) ∷ (0, 305, 1, 0)
    ∷ (1, 0, 3, 0) ∷ (1, 100, 2, 0) ∷ (0, 100, 3, 0) ∷ (1, 130, 4, 0) ∷ (0, 128, 2, 0) ∷ (1, 0, 4, 1)
    ∷ (0, 306, 5, 16) ∷ (1, 306, 6, 16) ∷ (0, 306, 7, 15) ∷ (2, 306, 8, 15) ∷ (0, 128, 3, 0) ∷ (0, 100, 4, 0)
    ∷ (2, 130, 5, 0) ∷ (2, 0, 5, 0) ∷ (2, 100, 5, 0) ∷ (2, 100, 6, 0) ∷ (0, 100, 7, 0) ∷ (2, 130, 6, 0)
    ∷ (0, 128, 4, 0) ∷ (0, 100, 8, 1) ∷ (2, 0, 6, 1) ∷ (0, 306, 9, 16) ∷ (2, 100, 9, 1) ∷ (0, 306, 10, 15)
    ∷ (2, 268, 1, 12) ∷ (2, 100, 10, 3) ∷ (0, 128, 5, 0) ∷ (2, 305, 2, 0) ∷ (0, 0, 7, 0) ∷ (2, 306, 11, 16)
    ∷ (1, 306, 12, 15) ∷ (0, 1, 1, 2) ∷ (1, 130, 7, 0) ∷ (0, 2, 1, 0) ∷ (1, 0, 8, 0) ∷ (0, 3, 1, 0)
    ∷ (0, 4, 1, 2) ∷ (1, 100, 11, 0) ∷ (0, 5, 1, 2) ∷ (0, 6, 1, 2) ∷ (0, 7, 1, 2) ∷ (1, 130, 8, 0)
    ∷ (1, 0, 9, 1) ∷ (1, 306, 13, 16) ∷ (0, 8, 1, 2) ∷ (1, 306, 14, 15) ∷ (0, 9, 1, 2) ∷ (1, 130, 9, 0)
    ∷ (0, 10, 1, 2) ∷ (0, 11, 1, 2) ∷ (1, 0, 10, 0) ∷ (1, 100, 12, 0) ∷ (0, 12, 1, 2) ∷ (1, 130, 10, 0)
    ∷ (0, 13, 1, 2) ∷ (0, 14, 1, 2) ∷ (0, 15, 1, 2) ∷ (1, 0, 11, 1) ∷ (1, 306, 15, 16) ∷ (1, 306, 16, 15)
    ∷ (1, 130, 11, 0) ∷ (1, 0, 12, 0) ∷ (1, 100, 13, 0) ∷ (1, 130, 12, 0) ∷ (0, 16, 1, 2) ∷ (1, 0, 13, 1)
    ∷ (0, 17, 1, 2) ∷ (0, 18, 1, 2) ∷ (0, 19, 1, 2) ∷ (1, 306, 17, 16) ∷ (0, 20, 1, 2) ∷ (2, 306, 18, 15)
    ∷ (2, 130, 13, 0) ∷ (0, 21, 1, 2) ∷ (0, 22, 1, 2) ∷ (0, 23, 1, 2) ∷ (2, 0, 14, 0) ∷ (0, 24, 1, 2)
    ∷ (2, 100, 14, 0) ∷ (2, 130, 14, 0) ∷ (0, 25, 1, 2) ∷ (2, 0, 15, 1) ∷ (2, 306, 19, 16) ∷ (2, 306, 20, 15)
    ∷ (2, 130, 15, 0) ∷ (2, 0, 16, 0) ∷ (0, 26, 1, 2) ∷ (2, 100, 15, 0) ∷ (2, 130, 16, 0) ∷ (2, 0, 17, 1)
    ∷ (2, 306, 21, 16) ∷ (0, 27, 1, 2) ∷ (2, 306, 22, 15) ∷ (2, 130, 17, 0) ∷ (0, 28, 1, 2) ∷ (2, 0, 18, 2)
    ∷ (2, 1, 2, 2) ∷ (0, 29, 1, 2) ∷ (2, 2, 2, 2) ∷ (2, 3, 2, 2) ∷ (2, 4, 2, 0) ∷ (2, 5, 2, 2) ∷ (2, 6, 2, 2)
    ∷ (2, 7, 2, 2) ∷ (2, 8, 2, 2) ∷ (0, 30, 1, 2) ∷ (0, 31, 1, 2) ∷ (2, 9, 2, 2) ∷ (2, 10, 2, 2)
    ∷ (2, 11, 2, 2) ∷ (2, 12, 2, 2) ∷ (2, 13, 2, 2) ∷ (0, 32, 1, 2) ∷ (2, 14, 2, 2) ∷ (2, 15, 2, 2)
    ∷ (0, 33, 1, 2) ∷ (0, 34, 1, 2) ∷ (0, 35, 1, 2) ∷ (2, 16, 2, 2) ∷ (0, 36, 1, 2) ∷ (2, 17, 2, 2)
    ∷ (2, 18, 2, 2) ∷ (0, 37, 1, 2) ∷ (2, 19, 2, 2) ∷ (2, 20, 2, 2) ∷ (0, 38, 1, 2) ∷ (2, 21, 2, 2)
    ∷ (2, 22, 2, 2) ∷ (0, 39, 1, 2) ∷ (2, 23, 2, 2) ∷ (2, 24, 2, 2) ∷ (0, 40, 1, 2) ∷ (2, 25, 2, 2)
    ∷ (2, 26, 2, 2) ∷ (0, 41, 1, 2) ∷ (2, 27, 2, 2) ∷ (0, 42, 1, 2) ∷ (2, 28, 2, 2) ∷ (2, 29, 2, 2)
    ∷ (2, 30, 2, 2) ∷ (2, 31, 2, 2) ∷ (2, 32, 2, 2) ∷ (2, 33, 2, 2) ∷ (2, 34, 2, 2) ∷ (2, 35, 2, 2)
    ∷ (2, 36, 2, 2) ∷ (2, 37, 2, 2) ∷ (2, 38, 2, 2) ∷ (2, 39, 2, 2) ∷ (2, 40, 2, 2) ∷ (0, 43, 1, 2)
    ∷ (2, 41, 2, 2) ∷ (0, 44, 1, 2) ∷ (2, 42, 2, 2) ∷ (2, 43, 2, 2) ∷ (2, 44, 2, 2) ∷ (2, 45, 1, 2)
    ∷ (2, 46, 1, 2) ∷ (2, 47, 1, 2) ∷ (2, 48, 1, 2) ∷ (2, 49, 1, 2) ∷ (2, 50, 1, 2) ∷ (2, 51, 1, 2)
    ∷ (2, 52, 1, 2) ∷ (2, 53, 1, 2) ∷ (2, 54, 1, 2) ∷ (2, 55, 1, 2) ∷ (2, 56, 1, 2) ∷ (0, 45, 2, 2)
    ∷ (2, 57, 1, 2) ∷ (2, 58, 1, 2) ∷ (0, 46, 2, 2) ∷ (0, 47, 2, 2) ∷ (2, 59, 1, 2) ∷ (2, 60, 1, 2)
    ∷ (2, 61, 1, 2) ∷ (2, 62, 1, 2) ∷ (2, 63, 1, 2) ∷ (2, 64, 1, 2) ∷ (0, 48, 2, 2) ∷ (0, 49, 2, 2)
    ∷ (2, 65, 1, 2) ∷ (0, 50, 2, 2) ∷ (2, 66, 1, 2) ∷ (0, 51, 2, 2) ∷ (2, 67, 1, 2) ∷ (2, 68, 1, 2)
    ∷ (0, 52, 2, 2) ∷ (0, 53, 2, 2) ∷ (0, 54, 2, 2) ∷ (0, 55, 2, 2) ∷ (2, 69, 1, 2) ∷ (2, 70, 1, 2)
    ∷ (2, 71, 1, 2) ∷ (2, 72, 1, 2) ∷ (2, 73, 1, 2) ∷ (2, 74, 1, 2) ∷ (0, 56, 2, 2) ∷ (2, 75, 1, 2)
    ∷ (2, 76, 1, 2) ∷ (2, 77, 1, 2) ∷ (2, 78, 1, 2) ∷ (2, 79, 1, 2) ∷ (0, 57, 2, 2) ∷ (0, 58, 2, 2)
    ∷ (2, 80, 1, 2) ∷ (2, 81, 1, 2) ∷ (0, 59, 2, 2) ∷ (2, 82, 1, 2) ∷ (2, 83, 1, 2) ∷ (0, 60, 2, 2)
    ∷ (2, 84, 1, 2) ∷ (0, 61, 2, 2) ∷ (2, 85, 1, 2) ∷ (2, 86, 1, 2) ∷ (0, 62, 2, 2) ∷ (2, 87, 1, 2)
    ∷ (2, 88, 1, 2) ∷ (2, 89, 1, 2) ∷ (2, 90, 1, 2) ∷ (0, 63, 2, 2) ∷ (2, 91, 1, 2) ∷ (2, 92, 1, 2)
    ∷ (0, 64, 2, 2) ∷ (2, 93, 1, 2) ∷ (2, 94, 1, 2) ∷ (0, 65, 2, 2) ∷ (2, 95, 1, 2) ∷ (2, 96, 1, 2)
    ∷ (2, 97, 1, 2) ∷ (2, 98, 1, 2) ∷ (2, 99, 1, 2) ∷ (0, 66, 2, 2) ∷ (2, 100, 16, 2) ∷ (2, 101, 1, 2)
    ∷ (2, 102, 1, 2) ∷ (2, 103, 1, 2) ∷ (2, 104, 1, 2) ∷ (0, 67, 2, 2) ∷ (2, 105, 1, 2) ∷ (2, 106, 1, 2)
    ∷ (2, 107, 1, 2) ∷ (2, 108, 1, 2) ∷ (2, 109, 1, 2) ∷ (0, 68, 2, 2) ∷ (2, 110, 1, 2) ∷ (0, 69, 2, 2)
    ∷ (0, 70, 2, 2) ∷ (2, 111, 1, 2) ∷ (2, 112, 1, 2) ∷ (2, 113, 1, 2) ∷ (2, 114, 1, 2) ∷ (2, 115, 1, 2)
    ∷ (2, 116, 1, 2) ∷ (0, 71, 2, 2) ∷ (2, 117, 1, 2) ∷ (2, 118, 1, 2) ∷ (0, 72, 2, 2) ∷ (2, 119, 1, 2)
    ∷ (2, 120, 1, 2) ∷ (2, 121, 1, 2) ∷ (2, 122, 1, 2) ∷ (0, 73, 2, 2) ∷ (0, 74, 2, 2) ∷ (2, 123, 1, 2)
    ∷ (0, 75, 2, 2) ∷ (2, 124, 1, 2) ∷ (0, 76, 2, 2) ∷ (2, 125, 1, 2) ∷ (0, 77, 2, 2) ∷ (2, 126, 1, 2)
    ∷ (0, 78, 2, 2) ∷ (2, 127, 1, 2) ∷ (0, 79, 2, 2) ∷ (2, 5, 3, 0) ∷ (0, 80, 2, 2) ∷ (0, 81, 2, 2)
    ∷ (2, 308, 1, 27) ∷ (2, 4, 3, 0) ∷ (0, 82, 2, 2) ∷ (2, 4, 4, 1) ∷ (0, 83, 2, 2) ∷ (2, 306, 23, 17)
    ∷ (0, 84, 2, 2) ∷ (0, 85, 2, 2) ∷ (0, 86, 2, 2) ∷ (0, 87, 2, 2) ∷ (0, 88, 2, 2) ∷ (0, 89, 2, 2)
    ∷ (0, 90, 2, 2) ∷ (0, 91, 2, 2) ∷ (0, 92, 2, 2) ∷ (0, 93, 2, 2) ∷ (0, 94, 2, 2) ∷ (0, 95, 2, 2)
    ∷ (0, 96, 2, 2) ∷ (0, 97, 2, 2) ∷ (0, 98, 2, 2) ∷ (0, 99, 2, 2) ∷ (0, 100, 17, 2) ∷ (0, 101, 2, 2)
    ∷ (0, 102, 2, 2) ∷ (0, 103, 2, 2) ∷ (0, 104, 2, 2) ∷ (0, 105, 2, 2) ∷ (0, 106, 2, 2) ∷ (0, 107, 2, 2)
    ∷ (0, 108, 2, 2) ∷ (0, 109, 2, 2) ∷ (0, 110, 2, 2) ∷ (0, 111, 2, 2) ∷ (0, 112, 2, 2) ∷ (0, 113, 2, 2)
    ∷ (0, 114, 2, 2) ∷ (0, 115, 2, 2) ∷ (0, 116, 2, 2) ∷ (0, 117, 2, 2) ∷ (0, 118, 2, 2) ∷ (0, 119, 2, 2)
    ∷ (0, 120, 2, 2) ∷ (0, 121, 2, 2) ∷ (0, 122, 2, 2) ∷ (0, 123, 2, 2) ∷ (0, 124, 2, 2) ∷ (0, 125, 2, 2)
    ∷ (0, 126, 2, 2) ∷ (0, 127, 2, 2) ∷ (0, 1, 3, 0) ∷ (0, 308, 2, 27) ∷ (0, 0, 19, 0) ∷ (0, 0, 20, 1)
    ∷ (0, 306, 24, 17) ∷ []

pub makes : whole_fine_run image 3 processors ≡ record { steps = steps; events = events; is_lawful = true; is_complete = true; dump = without_priorities dump }
unfolding blank
makes = refl

-- before each step and after the last one the relation holds
pub is_related : related_steps image (record { cpus = 3; threads = 0 ∷ 1 ∷ 2 ∷ []; rows = 0 ∷ 1 ∷ 2 ∷ 3 ∷ 4 ∷ 5 ∷ 100 ∷ []; domains = 0 ∷ [] }) processors choices ≡ 345
unfolding blank
is_related = refl
