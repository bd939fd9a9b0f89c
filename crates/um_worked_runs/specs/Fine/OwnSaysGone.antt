-- A thread object loses its last permission while a creation holds it: the creator gives nothing any more, and the object is cleaned after it.
use Rattle.std.specs.Prelude.{◌≡◌, ℕ, true, false, List, [], ◌∷◌, Some, None, pos, codes, refl}
use Rattle.um_base.specs.declared.names.Errno.TheVariants as Errno
use Rattle.um_base.specs.declared.names.Kind.TheVariants as Kind
use Rattle.um_base.specs.declared.names.Mode.TheVariants as Mode
use Rattle.um_base.specs.declared.names.Mpu.TheVariants as Mpu
use Rattle.um_base.specs.declared.names.Policy.TheVariants as Policy
use Rattle.um_base.specs.declared.names.Ref.TheVariants as Ref
use Rattle.um_base.specs.declared.names.Reply.TheVariants as Reply
use Rattle.um_base.specs.declared.names.Term.TheVariants as Term
use Rattle.um_base.specs.declared.names.Want.TheVariants as Want
use Rattle.um_base.specs.declared.act.Act.TheVariants as Act
use Rattle.um_base.specs.declared.act.Given.TheVariants as Given
use Rattle.um_base.specs.declared.act.Leftover.TheVariants as Leftover
use Rattle.um_base.specs.declared.act.SetSaid.TheVariants as SetSaid
use Rattle.um_base.specs.declared.image.Setup.TheVariants as Setup
use Rattle.um_base.specs.declared.instr.Instr.TheVariants as Instr
use Rattle.um_base.specs.declared.act.Event.{Event}
use Rattle.um_base.specs.declared.image.Image.{Image}
use Rattle.um_base.specs.declared.image.Script.{Script}
use Rattle.um_worked_runs.specs.Fine.Left.{without_priorities}
use Rattle.um_worked_runs.specs.Fine.Brief.{Brief}
use Rattle.um_worked_runs.specs.Fine.Whole.{whole_fine_run}
use Rattle.um_machine.specs.Run.{blank}
use Rattle.um_worked_runs.specs.Evaluate.{Choice, skips, begins, exits, recycles, goes}
use Rattle.um_worked_runs.specs.Dump.{Dump, unborn, started, ended, uninitialised, nothing}
use Rattle.um_worked_runs.specs.Words.{at, thread, row, range, by, on, choose}
use Rattle.um_worked_runs.specs.Whole.{whole_run}

abbrev pub script_0 : Script
script_0 =
    record {
      name = codes "m";
      lines = Instr.ObjectAlloc Kind.Thread 0
          ∷ Instr.Create (Term.Reg 0) (Term.Num 0x20080040) (Term.Num 64) (Ref.At 2) (pos 3) (record { user = true; inherit = true; essential = false }) ∷ [];
    }

abbrev pub script_1 : Script
script_1 =
    record {
      name = codes "v";
      lines = Instr.Repeat 8
          ∷ Instr.Revoke (Term.Num 0x48000000) (Term.Num 0x40000000)
          ∷ Instr.End ∷ [];
    }

abbrev pub script_2 : Script
script_2 =
    record { name = codes "w"; lines = Instr.Set 0 (Term.Num 1) ∷ [] }

abbrev pub image : Image
image =
    record {
      mpu = Mpu.V7;
      regions = 8;
      policy = Policy.Abort;
      rodata = None;
      rodata_bytes = [];
      pools = record { name = codes "h"; size = 256 } ∷ [];
      partitions = [];
      domains = record { name = codes "d"; parts = Some [] } ∷ [];
      objects = record { name = codes "a"; kind = Kind.Thread; addr = at 0x40000000; public = false; setup = Setup.Thread (thread 0) }
          ∷ record { name = codes "sa"; kind = Kind.ThreadStack; addr = at 0x20080000; public = false; setup = Setup.ThreadStack (range 0x20080000 64) 64 }
          ∷ record { name = codes "b"; kind = Kind.Thread; addr = at 0x40000080; public = false; setup = Setup.Thread (thread 1) }
          ∷ record { name = codes "sb"; kind = Kind.ThreadStack; addr = at 0x20080040; public = false; setup = Setup.ThreadStack (range 0x20080040 64) 64 }
          ∷ record { name = codes "c"; kind = Kind.Thread; addr = at 0x40000100; public = false; setup = Setup.Thread (thread 2) }
          ∷ record { name = codes "sc"; kind = Kind.ThreadStack; addr = at 0x20080080; public = false; setup = Setup.ThreadStack (range 0x20080080 64) 64 } ∷ [];
      boots = record { thread = row 0; stack = row 1; script = 0; mode = Mode.User; priority = pos 0; domain = 0; pool = Some 0; grants = row 2 ∷ row 3 ∷ [] }
          ∷ record { thread = row 4; stack = row 5; script = 1; mode = Mode.Supervisor; priority = pos 0; domain = 0; pool = Some 0; grants = [] } ∷ [];
      scripts = script_0
          ∷ script_1
          ∷ script_2 ∷ [];
      futexes = [];
    }

-- which thread makes each step, and which one
abbrev pub choices : List Choice
choices =
    choose 2 0 begins ∷ choose 0 0 begins ∷ choose 0 96 goes ∷ on 0 ∷ on 2 ∷ on 0 ∷ choose 0 0 begins ∷ on 0
    ∷ on 2 ∷ on 0 ∷ on 0 ∷ on 2 ∷ on 0 ∷ on 0 ∷ on 0 ∷ choose 0 2 goes ∷ choose 0 3 goes ∷ on 2
    ∷ choose 2 0 begins ∷ on 2 ∷ on 2 ∷ on 2 ∷ choose 2 0 begins ∷ on 2 ∷ on 2 ∷ on 2 ∷ choose 2 0 begins
    ∷ on 2 ∷ on 2 ∷ on 2 ∷ choose 2 0 begins ∷ on 2 ∷ on 2 ∷ on 2 ∷ choose 2 0 begins ∷ on 2 ∷ on 2 ∷ on 2
    ∷ choose 2 0 begins ∷ on 2 ∷ on 2 ∷ on 2 ∷ choose 2 0 begins ∷ on 2 ∷ on 2 ∷ on 2 ∷ choose 2 0 exits
    ∷ choose 2 4 goes ∷ choose 0 0 skips ∷ on 0 ∷ choose 28 0 begins ∷ choose 0 0 exits ∷ choose 28 0 exits
    ∷ on 0 ∷ choose 0 2 goes ∷ choose 0 3 goes ∷ choose 28 2 goes ∷ choose 28 3 goes ∷ choose 0 0 skips ∷ on 0
    ∷ choose 2 0 skips ∷ on 2 ∷ choose 28 0 skips ∷ on 28 ∷ choose 28 96 recycles ∷ []

-- what the trace shows
abbrev pub events : List Event
events =
    by 2 (Act.Begin 1 2)
    ∷ by 0 (Act.Begin 0 1)
    ∷ by 0 (Act.Reserve Kind.Thread (Some (at 0x48000000)))
    ∷ by 0 (Act.Born (at 0x48000000))
    ∷ by 2 (Act.Check (at 0x40000000) (Some Kind.Thread) Want.Any None)
    ∷ by 0 (Act.Answered (Reply.At (at 0x48000000)))
    ∷ by 0 (Act.Begin 0 2)
    ∷ by 0 (Act.Check (at 0x48000000) (Some Kind.Thread) Want.Uninit None)
    ∷ by 2 (Act.Check (at 0x48000000) None Want.Any None)
    ∷ by 0 (Act.Check (at 0x20080040) (Some Kind.ThreadStack) Want.Uninit None)
    ∷ by 0 (Act.SetInit (at 0x48000000) SetSaid.Done)
    ∷ by 2 (Act.DropPair (thread 0) (at 0x48000000) Leftover.Gone)
    ∷ by 0 (Act.SetInit (at 0x20080040) SetSaid.Done)
    ∷ by 0 (Act.Erase (row 3))
    ∷ by 0 (Act.Own (thread 28) Given.Gone)
    ∷ by 0 (Act.Inherit (thread 28) (at 0x40000080))
    ∷ by 0 (Act.Inherit (thread 28) (at 0x20080040))
    ∷ by 2 (Act.Answered Reply.Void)
    ∷ by 2 (Act.Begin 1 2)
    ∷ by 2 (Act.Check (at 0x40000000) (Some Kind.Thread) Want.Any None)
    ∷ by 2 (Act.Check (at 0x48000000) None Want.Any (Some Errno.EBADF))
    ∷ by 2 (Act.Answered Reply.Void)
    ∷ by 2 (Act.Begin 1 2)
    ∷ by 2 (Act.Check (at 0x40000000) (Some Kind.Thread) Want.Any None)
    ∷ by 2 (Act.Check (at 0x48000000) None Want.Any (Some Errno.EBADF))
    ∷ by 2 (Act.Answered Reply.Void)
    ∷ by 2 (Act.Begin 1 2)
    ∷ by 2 (Act.Check (at 0x40000000) (Some Kind.Thread) Want.Any None)
    ∷ by 2 (Act.Check (at 0x48000000) None Want.Any (Some Errno.EBADF))
    ∷ by 2 (Act.Answered Reply.Void)
    ∷ by 2 (Act.Begin 1 2)
    ∷ by 2 (Act.Check (at 0x40000000) (Some Kind.Thread) Want.Any None)
    ∷ by 2 (Act.Check (at 0x48000000) None Want.Any (Some Errno.EBADF))
    ∷ by 2 (Act.Answered Reply.Void)
    ∷ by 2 (Act.Begin 1 2)
    ∷ by 2 (Act.Check (at 0x40000000) (Some Kind.Thread) Want.Any None)
    ∷ by 2 (Act.Check (at 0x48000000) None Want.Any (Some Errno.EBADF))
    ∷ by 2 (Act.Answered Reply.Void)
    ∷ by 2 (Act.Begin 1 2)
    ∷ by 2 (Act.Check (at 0x40000000) (Some Kind.Thread) Want.Any None)
    ∷ by 2 (Act.Check (at 0x48000000) None Want.Any (Some Errno.EBADF))
    ∷ by 2 (Act.Answered Reply.Void)
    ∷ by 2 (Act.Begin 1 2)
    ∷ by 2 (Act.Check (at 0x40000000) (Some Kind.Thread) Want.Any None)
    ∷ by 2 (Act.Check (at 0x48000000) None Want.Any (Some Errno.EBADF))
    ∷ by 2 (Act.Answered Reply.Void)
    ∷ by 2 Act.Exit
    ∷ by 2 (Act.DropPair (thread 2) (at 0x40000100) Leftover.Kept)
    ∷ by 0 (Act.Start (thread 28))
    ∷ by 0 (Act.Answered (Reply.At (at 0x48000000)))
    ∷ by 28 (Act.Begin 2 1)
    ∷ by 0 Act.Exit
    ∷ by 28 Act.Exit
    ∷ by 0 (Act.DropPair (thread 0) (at 0x40000000) Leftover.Kept)
    ∷ by 0 (Act.DropPair (thread 0) (at 0x40000080) Leftover.Kept)
    ∷ by 0 (Act.DropPair (thread 0) (at 0x20080040) Leftover.Kept)
    ∷ by 28 (Act.DropPair (thread 28) (at 0x40000080) Leftover.Kept)
    ∷ by 28 (Act.DropPair (thread 28) (at 0x20080040) Leftover.Kept)
    ∷ by 0 (Act.ClearInit (at 0x20080000))
    ∷ by 0 (Act.ClearInit (at 0x40000000))
    ∷ by 2 (Act.ClearInit (at 0x20080080))
    ∷ by 2 (Act.ClearInit (at 0x40000100))
    ∷ by 28 (Act.ClearInit (at 0x20080040))
    ∷ by 28 (Act.ClearInit (at 0x48000000))
    ∷ by 28 (Act.Recycle (at 0x48000000)) ∷ []

abbrev pub dump : Dump
dump =
    record {
      threads = started 0 ended Mode.User (pos 0) 0
          ∷ unborn 1
          ∷ started 2 ended Mode.Supervisor (pos 0) 0 ∷ [];
      objects = record { row = 0; kind = Some Kind.Thread; stage = uninitialised; public = false; holders = []; content = nothing }
          ∷ record { row = 1; kind = Some Kind.ThreadStack; stage = uninitialised; public = false; holders = []; content = nothing }
          ∷ record { row = 2; kind = Some Kind.Thread; stage = uninitialised; public = false; holders = []; content = nothing }
          ∷ record { row = 3; kind = Some Kind.ThreadStack; stage = uninitialised; public = false; holders = []; content = nothing }
          ∷ record { row = 4; kind = Some Kind.Thread; stage = uninitialised; public = false; holders = []; content = nothing }
          ∷ record { row = 5; kind = Some Kind.ThreadStack; stage = uninitialised; public = false; holders = []; content = nothing } ∷ [];
      domains = Some [] ∷ [];
      pools = 256 ∷ [];
      memory = [];
    }

pub runs : whole_run image choices ≡ record { events = events; is_lawful = true; is_complete = true; dump = dump }
unfolding blank
runs = refl

-- which processor makes each step
abbrev pub processors : List ℕ
processors =
    0 ∷ 1 ∷ 1 ∷ 0 ∷ 0 ∷ 0 ∷ 1 ∷ 0 ∷ 0 ∷ 0 ∷ 0 ∷ 0 ∷ 1 ∷ 0 ∷ 0 ∷ 1 ∷ 0 ∷ 0 ∷ 0 ∷ 0 ∷ 0 ∷ 0 ∷ 0 ∷ 1 ∷ 1 ∷ 0
    ∷ 0 ∷ 0 ∷ 0 ∷ 0 ∷ 0 ∷ 0 ∷ 0 ∷ 1 ∷ 0 ∷ 0 ∷ 1 ∷ 1 ∷ 0 ∷ 0 ∷ 0 ∷ 0 ∷ 0 ∷ 0 ∷ 0 ∷ 1 ∷ 0 ∷ 0 ∷ 1 ∷ 0 ∷ 1 ∷ 0
    ∷ 0 ∷ 0 ∷ 0 ∷ 0 ∷ 0 ∷ 0 ∷ 0 ∷ 0 ∷ 0 ∷ 0 ∷ 1 ∷ 1 ∷ 1 ∷ 1 ∷ 0 ∷ 0 ∷ 0 ∷ 0 ∷ 1 ∷ 0 ∷ 0 ∷ 0 ∷ 0 ∷ 1 ∷ 0 ∷ 0
    ∷ 0 ∷ 0 ∷ 1 ∷ 0 ∷ 0 ∷ 0 ∷ 0 ∷ 1 ∷ 0 ∷ 0 ∷ 0 ∷ 0 ∷ 0 ∷ 0 ∷ 1 ∷ 0 ∷ 0 ∷ 1 ∷ 1 ∷ 0 ∷ 0 ∷ 1 ∷ 0 ∷ 1 ∷ 0 ∷ 0
    ∷ 0 ∷ 0 ∷ 0 ∷ 0 ∷ 0 ∷ 0 ∷ 1 ∷ 0 ∷ 0 ∷ 0 ∷ 1 ∷ 0 ∷ 0 ∷ 0 ∷ 1 ∷ 1 ∷ 3 ∷ 0 ∷ 3 ∷ 3 ∷ 3 ∷ 3 ∷ 0 ∷ 0 ∷ 3 ∷ 3
    ∷ 2 ∷ 0 ∷ 2 ∷ 2 ∷ 2 ∷ 0 ∷ 2 ∷ 2 ∷ 2 ∷ 0 ∷ 1 ∷ 1 ∷ 0 ∷ 1 ∷ 0 ∷ 1 ∷ 0 ∷ 1 ∷ 0 ∷ 0 ∷ 1 ∷ 1 ∷ 2 ∷ 0 ∷ 2 ∷ 0
    ∷ 2 ∷ 2 ∷ 0 ∷ 0 ∷ 0 ∷ 2 ∷ 2 ∷ 2 ∷ 1 ∷ 0 ∷ 1 ∷ 0 ∷ 0 ∷ 0 ∷ 1 ∷ 1 ∷ 0 ∷ 0 ∷ 0 ∷ 0 ∷ 0 ∷ 0 ∷ 1 ∷ 1 ∷ 0 ∷ 0
    ∷ 0 ∷ 1 ∷ 0 ∷ 0 ∷ 0 ∷ 0 ∷ 0 ∷ 0 ∷ 0 ∷ 0 ∷ 0 ∷ 1 ∷ 0 ∷ 0 ∷ 0 ∷ 0 ∷ 0 ∷ 0 ∷ 1 ∷ 0 ∷ 1 ∷ 1 ∷ 1 ∷ 1 ∷ 0 ∷ 0
    ∷ 1 ∷ 1 ∷ 0 ∷ 1 ∷ 1 ∷ 0 ∷ 0 ∷ 1 ∷ 0 ∷ 1 ∷ 0 ∷ 0 ∷ 1 ∷ 1 ∷ 0 ∷ 0 ∷ 0 ∷ 1 ∷ 2 ∷ 0 ∷ 0 ∷ 1 ∷ 0 ∷ 2 ∷ 1 ∷ 2
    ∷ 2 ∷ 1 ∷ 1 ∷ 0 ∷ 0 ∷ 1 ∷ 0 ∷ 2 ∷ 0 ∷ 0 ∷ 1 ∷ 2 ∷ 0 ∷ 1 ∷ 0 ∷ 1 ∷ 0 ∷ 1 ∷ 2 ∷ 0 ∷ 0 ∷ 1 ∷ 1 ∷ 0 ∷ 0 ∷ 0
    ∷ 1 ∷ 1 ∷ 0 ∷ 0 ∷ 0 ∷ 1 ∷ 2 ∷ 0 ∷ 0 ∷ 2 ∷ 0 ∷ 2 ∷ 1 ∷ 0 ∷ 0 ∷ 1 ∷ 1 ∷ 2 ∷ 2 ∷ 2 ∷ 0 ∷ 0 ∷ 2 ∷ 2 ∷ 2 ∷ 2
    ∷ 1 ∷ 0 ∷ 0 ∷ 0 ∷ 2 ∷ 0 ∷ 0 ∷ 0 ∷ 0 ∷ 2 ∷ 0 ∷ 2 ∷ 0 ∷ 1 ∷ 0 ∷ 0 ∷ 0 ∷ 2 ∷ 0 ∷ 0 ∷ 0 ∷ 0 ∷ 1 ∷ 2 ∷ 0 ∷ 0
    ∷ 0 ∷ 2 ∷ 1 ∷ 0 ∷ 0 ∷ 0 ∷ 1 ∷ 2 ∷ 0 ∷ 1 ∷ 1 ∷ 2 ∷ 1 ∷ 1 ∷ 0 ∷ 0 ∷ 2 ∷ 0 ∷ 0 ∷ 0 ∷ 0 ∷ 1 ∷ 2 ∷ 0 ∷ 1 ∷ 2
    ∷ 0 ∷ 2 ∷ 0 ∷ 0 ∷ 1 ∷ 1 ∷ 0 ∷ 1 ∷ 2 ∷ 1 ∷ 0 ∷ 0 ∷ 1 ∷ 0 ∷ 0 ∷ 2 ∷ 2 ∷ 2 ∷ 1 ∷ 2 ∷ 2 ∷ 0 ∷ 0 ∷ 0 ∷ 1 ∷ 0
    ∷ 0 ∷ 1 ∷ 2 ∷ 1 ∷ 0 ∷ 2 ∷ 1 ∷ 1 ∷ 0 ∷ 2 ∷ 1 ∷ 2 ∷ 0 ∷ 2 ∷ 2 ∷ 2 ∷ 2 ∷ 1 ∷ 0 ∷ 1 ∷ 0 ∷ 1 ∷ 0 ∷ 0 ∷ 2 ∷ 1
    ∷ 2 ∷ 1 ∷ 0 ∷ 0 ∷ 0 ∷ 2 ∷ 2 ∷ 0 ∷ 0 ∷ 2 ∷ 0 ∷ 0 ∷ 0 ∷ 0 ∷ 1 ∷ 0 ∷ 2 ∷ 2 ∷ 0 ∷ 1 ∷ 0 ∷ 0 ∷ 0 ∷ 1 ∷ 0 ∷ 1
    ∷ 0 ∷ 0 ∷ 2 ∷ 0 ∷ 1 ∷ 1 ∷ 1 ∷ 2 ∷ 2 ∷ 1 ∷ 0 ∷ 0 ∷ 0 ∷ 2 ∷ 2 ∷ 0 ∷ 2 ∷ 0 ∷ 0 ∷ 2 ∷ 2 ∷ 0 ∷ 1 ∷ 1 ∷ 0 ∷ 2
    ∷ 0 ∷ 0 ∷ 0 ∷ 2 ∷ 2 ∷ 1 ∷ 2 ∷ 1 ∷ 1 ∷ 0 ∷ 0 ∷ 0 ∷ 0 ∷ 0 ∷ 1 ∷ 0 ∷ 0 ∷ 0 ∷ 2 ∷ 1 ∷ 2 ∷ 0 ∷ 2 ∷ 0 ∷ 0 ∷ 1
    ∷ 2 ∷ 2 ∷ 2 ∷ 0 ∷ 1 ∷ 0 ∷ 0 ∷ 0 ∷ 1 ∷ 0 ∷ 0 ∷ 0 ∷ 2 ∷ 0 ∷ 0 ∷ 1 ∷ 2 ∷ 0 ∷ 0 ∷ 2 ∷ 1 ∷ 0 ∷ 2 ∷ 2 ∷ 0 ∷ 2
    ∷ 0 ∷ 0 ∷ 0 ∷ 0 ∷ 0 ∷ 0 ∷ 0 ∷ 0 ∷ 0 ∷ 0 ∷ 1 ∷ 1 ∷ 2 ∷ 1 ∷ 1 ∷ 1 ∷ 2 ∷ 1 ∷ 1 ∷ 2 ∷ 1 ∷ 2 ∷ 1 ∷ 1 ∷ 1 ∷ 1
    ∷ 1 ∷ 1 ∷ 1 ∷ 1 ∷ 2 ∷ 2 ∷ 1 ∷ 1 ∷ 1 ∷ 1 ∷ 1 ∷ 1 ∷ 1 ∷ 1 ∷ 1 ∷ 1 ∷ 2 ∷ 1 ∷ 2 ∷ 1 ∷ 1 ∷ 1 ∷ 2 ∷ 1 ∷ 1 ∷ 1
    ∷ 1 ∷ 1 ∷ 1 ∷ 1 ∷ 1 ∷ 1 ∷ 1 ∷ 1 ∷ 1 ∷ 1 ∷ 1 ∷ 1 ∷ 1 ∷ 1 ∷ 2 ∷ 2 ∷ 1 ∷ 2 ∷ 2 ∷ 2 ∷ 2 ∷ 2 ∷ 2 ∷ 2 ∷ 2 ∷ 2
    ∷ 2 ∷ 2 ∷ 2 ∷ 2 ∷ 2 ∷ 2 ∷ 2 ∷ 2 ∷ 2 ∷ 2 ∷ 2 ∷ 2 ∷ 2 ∷ 2 ∷ 2 ∷ 2 ∷ 2 ∷ 2 ∷ 2 ∷ 2 ∷ 2 ∷ 2 ∷ 2 ∷ 2 ∷ 2 ∷ 2
    ∷ 2 ∷ 2 ∷ 2 ∷ 2 ∷ 2 ∷ 2 ∷ 2 ∷ 2 ∷ 2 ∷ 2 ∷ 2 ∷ 2 ∷ 2 ∷ 2 ∷ 2 ∷ 2 ∷ 2 ∷ 2 ∷ 2 ∷ 2 ∷ 2 ∷ 2 ∷ 2 ∷ 2 ∷ 2 ∷ 2
    ∷ 2 ∷ 2 ∷ 2 ∷ 2 ∷ 2 ∷ 2 ∷ 2 ∷ 2 ∷ 2 ∷ 2 ∷ 2 ∷ 2 ∷ 2 ∷ 2 ∷ 2 ∷ 2 ∷ 2 ∷ 2 ∷ 2 ∷ 2 ∷ 2 ∷ 2 ∷ 2 ∷ 2 ∷ 2 ∷ 2
    ∷ 2 ∷ 2 ∷ 2 ∷ 2 ∷ 2 ∷ 2 ∷ 2 ∷ 2 ∷ 2 ∷ 2 ∷ 2 ∷ 2 ∷ 2 ∷ 2 ∷ 2 ∷ 2 ∷ 2 ∷ 2 ∷ 2 ∷ 2 ∷ 2 ∷ 2 ∷ 2 ∷ 2 ∷ 2 ∷ 2
    ∷ 2 ∷ 2 ∷ 2 ∷ 2 ∷ 2 ∷ 2 ∷ 2 ∷ 2 ∷ 2 ∷ 2 ∷ 2 ∷ 2 ∷ 2 ∷ 2 ∷ 2 ∷ 2 ∷ 2 ∷ 2 ∷ 2 ∷ 2 ∷ 2 ∷ 2 ∷ 2 ∷ 2 ∷ 2 ∷ 2
    ∷ 2 ∷ 2 ∷ 2 ∷ 2 ∷ 2 ∷ 2 ∷ 2 ∷ 2 ∷ 2 ∷ 2 ∷ 2 ∷ 2 ∷ 2 ∷ 2 ∷ 2 ∷ 2 ∷ 2 ∷ 2 ∷ 2 ∷ 2 ∷ 2 ∷ 2 ∷ 2 ∷ 2 ∷ 2 ∷ 2
    ∷ 2 ∷ 2 ∷ 2 ∷ 2 ∷ 2 ∷ 2 ∷ 2 ∷ 2 ∷ 2 ∷ 2 ∷ 2 ∷ 2 ∷ 2 ∷ 2 ∷ 2 ∷ 2 ∷ 2 ∷ 2 ∷ 2 ∷ []

-- the steps: processor, site, the step's number there, and which unseen step it is
abbrev pub steps : List Brief
steps =
    (0, 306, 1, 15) ∷ (1, 306, 2, 15) ∷ (1, 130, 1, 0) ∷ (0, 128, 1, 0) ∷ (0, 305, 1, 0) ∷ (0, 96, 1, 0)
    ∷ (1, 0, 1, 0) ∷ (0, 128, 2, 0) ∷ (0, 306, 3, 16) ∷ (0, 306, 4, 15) ∷ (0, 128, 3, 0) ∷ (0, 96, 2, 0)
    ∷ (1, 96, 3, 0) ∷ (0, 3, 1, 0) ∷ (0, 96, 4, 0) ∷ (1, 96, 5, 0) ∷ (0, 3, 2, 0) ∷ (0, 304, 1, 0)
    ∷ (0, 96, 6, 0) ∷ (0, 1, 1, 2) ∷ (0, 2, 1, 0) ∷ (0, 3, 3, 0) ∷ (0, 4, 1, 2) ∷ (1, 130, 2, 0)
    ∷ (1, 0, 2, 1) ∷ (0, 5, 1, 2) ∷ (0, 6, 1, 2) ∷ (0, 7, 1, 2) ∷ (0, 8, 1, 2) ∷ (0, 9, 1, 2) ∷ (0, 10, 1, 2)
    ∷ (0, 11, 1, 2) ∷ (0, 12, 1, 2) ∷ (1, 96, 7, 1) ∷ (0, 13, 1, 2) ∷ (0, 14, 1, 2) ∷ (1, 306, 5, 16)
    ∷ (1, 306, 6, 15) ∷ (0, 15, 1, 2) ∷ (0, 16, 1, 2) ∷ (0, 17, 1, 2) ∷ (0, 18, 1, 2) ∷ (0, 19, 1, 2)
    ∷ (0, 20, 1, 2) ∷ (0, 21, 1, 2) ∷ (1, 130, 3, 0) ∷ (0, 22, 1, 2) ∷ (0, 23, 1, 2) ∷ (1, 0, 3, 0)
    ∷ (0, 24, 1, 2) ∷ (1, 96, 8, 0) ∷ (0, 25, 1, 2) ∷ (0, 26, 1, 2) ∷ (0, 27, 1, 2) ∷ (0, 28, 1, 2)
    ∷ (0, 29, 1, 2) ∷ (0, 30, 1, 2) ∷ (0, 31, 1, 2) ∷ (0, 32, 1, 2) ∷ (0, 33, 1, 2) ∷ (0, 34, 1, 2)
    ∷ (0, 35, 1, 2) ∷ (1, 130, 4, 0) ∷ (1, 0, 4, 1) ∷ (1, 306, 7, 16) ∷ (1, 306, 8, 15) ∷ (0, 36, 1, 2)
    ∷ (0, 37, 1, 2) ∷ (0, 38, 1, 2) ∷ (0, 39, 1, 2) ∷ (1, 130, 5, 0) ∷ (0, 40, 1, 2) ∷ (0, 41, 1, 2)
    ∷ (0, 42, 1, 2) ∷ (0, 43, 1, 2) ∷ (1, 0, 5, 0) ∷ (0, 44, 1, 2) ∷ (0, 45, 1, 2) ∷ (0, 46, 1, 2)
    ∷ (0, 47, 1, 2) ∷ (1, 96, 9, 0) ∷ (0, 48, 1, 2) ∷ (0, 49, 1, 2) ∷ (0, 50, 1, 2) ∷ (0, 51, 1, 2)
    ∷ (1, 130, 6, 0) ∷ (0, 52, 1, 2) ∷ (0, 53, 1, 2) ∷ (0, 54, 1, 2) ∷ (0, 55, 1, 2) ∷ (0, 56, 1, 2)
    ∷ (0, 57, 1, 2) ∷ (1, 0, 6, 1) ∷ (0, 58, 1, 2) ∷ (0, 59, 1, 2) ∷ (1, 306, 9, 16) ∷ (1, 306, 10, 15)
    ∷ (0, 60, 1, 2) ∷ (0, 61, 1, 2) ∷ (1, 130, 7, 0) ∷ (0, 62, 1, 2) ∷ (1, 0, 7, 0) ∷ (0, 63, 1, 2)
    ∷ (0, 64, 1, 2) ∷ (0, 65, 1, 2) ∷ (0, 66, 1, 2) ∷ (0, 67, 1, 2) ∷ (0, 68, 1, 2) ∷ (0, 69, 1, 2)
    ∷ (0, 70, 1, 2) ∷ (1, 96, 10, 0) ∷ (0, 71, 1, 2) ∷ (0, 72, 1, 2) ∷ (0, 73, 1, 2) ∷ (1, 130, 8, 0)
    ∷ (0, 74, 1, 2) ∷ (0, 75, 1, 2) ∷ (0, 76, 1, 2) ∷ (1, 0, 8, 1) ∷ (1, 306, 11, 16) ∷ (3, 306, 12, 15)
    ∷ (0, 77, 1, 2) ∷ (3, 130, 9, 0) ∷ (3, 0, 9, 0) ∷ (3, 96, 11, 0) ∷ (3, 130, 10, 0) ∷ (0, 78, 1, 2)
    ∷ (0, 79, 1, 2) ∷ (3, 0, 10, 1) ∷ (3, 306, 13, 16) ∷ (2, 306, 14, 15) ∷ (0, 80, 1, 2) ∷ (2, 130, 11, 0)
    ∷ (2, 0, 11, 0) ∷ (2, 96, 12, 0) ∷ (0, 81, 1, 2) ∷ (2, 130, 12, 0) ∷ (2, 0, 12, 1) ∷ (2, 306, 15, 16)
    ∷ (0, 82, 1, 2) ∷ (1, 306, 16, 15) ∷ (1, 130, 13, 0) ∷ (0, 83, 1, 2) ∷ (1, 0, 13, 0) ∷ (0, 84, 1, 2)
    ∷ (1, 96, 13, 0) ∷ (0, 85, 1, 2) ∷ (1, 130, 14, 0) ∷ (0, 86, 1, 2) ∷ (0, 87, 1, 2) ∷ (1, 0, 14, 1)
    ∷ (1, 306, 17, 16) ∷ (2, 306, 18, 15) ∷ (0, 88, 1, 2) ∷ (2, 130, 15, 0) ∷ (0, 89, 1, 2) ∷ (2, 0, 15, 0)
    ∷ (2, 96, 14, 0) ∷ (0, 90, 1, 2) ∷ (0, 91, 1, 2) ∷ (0, 92, 1, 2) ∷ (2, 130, 16, 0) ∷ (2, 0, 16, 1)
    ∷ (2, 306, 19, 16) ∷ (1, 306, 20, 15) ∷ (0, 93, 1, 2) ∷ (1, 130, 17, 0) ∷ (0, 94, 1, 2) ∷ (0, 95, 1, 2)
    ∷ (0, 96, 15, 2) ∷ (1, 0, 17, 2) ∷ (1, 1, 2, 2) ∷ (0, 97, 1, 2) ∷ (0, 98, 1, 2) ∷ (0, 99, 1, 2)
    ∷ (0, 100, 1, 2) ∷ (0, 101, 1, 2) ∷ (0, 102, 1, 2) ∷ (1, 2, 2, 2) ∷ (1, 3, 4, 2) ∷ (0, 103, 1, 2)
    ∷ (0, 104, 1, 2) ∷ (0, 105, 1, 2) ∷ (1, 4, 2, 0) ∷ (0, 106, 1, 2) ∷ (0, 107, 1, 2) ∷ (0, 108, 1, 2)
    ∷ (0, 109, 1, 2) ∷ (0, 110, 1, 2) ∷ (0, 111, 1, 2) ∷ (0, 112, 1, 2) ∷ (0, 113, 1, 2) ∷ (0, 114, 1, 2)
    ∷ (1, 5, 2, 2) ∷ (0, 115, 1, 2) ∷ (0, 116, 1, 2) ∷ (0, 117, 1, 2) ∷ (0, 118, 1, 2) ∷ (0, 119, 1, 2)
    ∷ (0, 120, 1, 2) ∷ (1, 6, 2, 2) ∷ (0, 121, 1, 2) ∷ (1, 7, 2, 2) ∷ (1, 8, 2, 2) ∷ (1, 9, 2, 2)
    ∷ (1, 10, 2, 2) ∷ (0, 122, 1, 2) ∷ (0, 123, 1, 2) ∷ (1, 11, 2, 2) ∷ (1, 12, 2, 2) ∷ (0, 124, 1, 2)
    ∷ (1, 13, 2, 2) ∷ (1, 14, 2, 2) ∷ (0, 125, 1, 2) ∷ (0, 126, 1, 2) ∷ (1, 15, 2, 2) ∷ (0, 127, 1, 2)
    ∷ (1, 16, 2, 2) ∷ (0, 128, 4, 4) ∷ (0, 308, 1, 28) ∷ (1, 17, 2, 2) ∷ (1, 18, 2, 2) ∷ (0, 156, 1, 0)
    ∷ (0, 128, 5, 5) ∷ (0, 306, 21, 13) ∷ (1, 19, 2, 2) ∷ (2, 306, 22, 15) ∷ (0, 128, 6, 0) ∷ (0, 96, 16, 1)
    ∷ (1, 20, 2, 2) ∷ (0, 3, 5, 1) ∷ (2, 156, 2, 0) ∷ (1, 21, 2, 2) ∷ (2, 306, 23, 16) ∷ (2, 306, 24, 15)
    ∷ (1, 22, 2, 2) ∷ (1, 23, 2, 2) ∷ (0, 306, 25, 16) ∷ (0, 306, 26, 15) ∷ (1, 24, 2, 2) ∷ (0, 128, 7, 0)
    ∷ (2, 156, 3, 0) ∷ (0, 0, 18, 0) ∷ (0, 1, 3, 2) ∷ (1, 25, 2, 2) ∷ (2, 0, 19, 2) ∷ (0, 2, 3, 0)
    ∷ (1, 26, 2, 2) ∷ (0, 3, 6, 0) ∷ (1, 27, 2, 2) ∷ (0, 4, 3, 2) ∷ (1, 28, 2, 2) ∷ (2, 1, 4, 2)
    ∷ (0, 5, 3, 2) ∷ (0, 6, 3, 2) ∷ (1, 29, 2, 2) ∷ (1, 30, 2, 2) ∷ (0, 7, 3, 2) ∷ (0, 8, 3, 2) ∷ (0, 9, 3, 2)
    ∷ (1, 31, 2, 2) ∷ (1, 32, 2, 2) ∷ (0, 10, 3, 2) ∷ (0, 11, 3, 2) ∷ (0, 12, 3, 2) ∷ (1, 33, 2, 2)
    ∷ (2, 2, 4, 0) ∷ (0, 13, 3, 2) ∷ (0, 14, 3, 2) ∷ (2, 3, 7, 0) ∷ (0, 15, 3, 2) ∷ (2, 4, 4, 2)
    ∷ (1, 34, 2, 2) ∷ (0, 16, 3, 2) ∷ (0, 17, 3, 2) ∷ (1, 35, 2, 2) ∷ (1, 36, 2, 2) ∷ (2, 5, 4, 2)
    ∷ (2, 6, 4, 2) ∷ (2, 7, 4, 2) ∷ (0, 18, 3, 2) ∷ (0, 19, 3, 2) ∷ (2, 8, 4, 2) ∷ (2, 9, 4, 2)
    ∷ (2, 10, 4, 2) ∷ (2, 11, 4, 2) ∷ (1, 37, 2, 2) ∷ (0, 20, 3, 2) ∷ (0, 21, 3, 2) ∷ (0, 22, 3, 2)
    ∷ (2, 12, 4, 2) ∷ (0, 23, 3, 2) ∷ (0, 24, 3, 2) ∷ (0, 25, 3, 2) ∷ (0, 26, 3, 2) ∷ (2, 13, 4, 2)
    ∷ (0, 27, 3, 2) ∷ (2, 14, 4, 2) ∷ (0, 28, 3, 2) ∷ (1, 38, 2, 2) ∷ (0, 29, 3, 2) ∷ (0, 30, 3, 2)
    ∷ (0, 31, 3, 2) ∷ (2, 15, 4, 2) ∷ (0, 32, 3, 2) ∷ (0, 33, 3, 2) ∷ (0, 34, 3, 2) ∷ (0, 35, 3, 2)
    ∷ (1, 39, 2, 2) ∷ (2, 16, 4, 2) ∷ (0, 36, 3, 2) ∷ (0, 37, 3, 2) ∷ (0, 38, 3, 2) ∷ (2, 17, 4, 2)
    ∷ (1, 40, 2, 2) ∷ (0, 39, 3, 2) ∷ (0, 40, 3, 2) ∷ (0, 41, 2, 2) ∷ (1, 41, 3, 2) ∷ (2, 18, 4, 2)
    ∷ (0, 42, 2, 2) ∷ (1, 42, 3, 2) ∷ (1, 43, 2, 2) ∷ (2, 19, 4, 2) ∷ (1, 44, 2, 2) ∷ (1, 45, 2, 2)
    ∷ (0, 43, 3, 2) ∷ (0, 44, 3, 2) ∷ (2, 20, 4, 2) ∷ (0, 45, 3, 2) ∷ (0, 46, 2, 2) ∷ (0, 47, 2, 2)
    ∷ (0, 48, 2, 2) ∷ (1, 46, 3, 2) ∷ (2, 21, 4, 2) ∷ (0, 49, 2, 2) ∷ (1, 47, 3, 2) ∷ (2, 22, 4, 2)
    ∷ (0, 50, 2, 2) ∷ (2, 23, 4, 2) ∷ (0, 51, 2, 2) ∷ (0, 52, 2, 2) ∷ (1, 48, 3, 2) ∷ (1, 49, 3, 2)
    ∷ (0, 53, 2, 2) ∷ (1, 50, 3, 2) ∷ (2, 24, 4, 2) ∷ (1, 51, 3, 2) ∷ (0, 54, 2, 2) ∷ (0, 55, 2, 2)
    ∷ (1, 52, 3, 2) ∷ (0, 56, 2, 2) ∷ (0, 57, 2, 2) ∷ (2, 25, 4, 2) ∷ (2, 26, 4, 2) ∷ (2, 27, 4, 2)
    ∷ (1, 53, 3, 2) ∷ (2, 28, 4, 2) ∷ (2, 29, 4, 2) ∷ (0, 58, 2, 2) ∷ (0, 59, 2, 2) ∷ (0, 60, 2, 2)
    ∷ (1, 54, 3, 2) ∷ (0, 61, 2, 2) ∷ (0, 62, 2, 2) ∷ (1, 55, 3, 2) ∷ (2, 30, 4, 2) ∷ (1, 56, 3, 2)
    ∷ (0, 63, 2, 2) ∷ (2, 31, 4, 2) ∷ (1, 57, 3, 2) ∷ (1, 58, 3, 2) ∷ (0, 64, 2, 2) ∷ (2, 32, 4, 2)
    ∷ (1, 59, 3, 2) ∷ (2, 33, 4, 2) ∷ (0, 65, 2, 2) ∷ (2, 34, 4, 2) ∷ (2, 35, 4, 2) ∷ (2, 36, 4, 2)
    ∷ (2, 37, 4, 2) ∷ (1, 60, 3, 2) ∷ (0, 66, 2, 2) ∷ (1, 61, 3, 2) ∷ (0, 67, 2, 2) ∷ (1, 62, 3, 2)
    ∷ (0, 68, 2, 2) ∷ (0, 69, 2, 2) ∷ (2, 38, 4, 2) ∷ (1, 63, 3, 2) ∷ (2, 39, 4, 2) ∷ (1, 64, 3, 2)
    ∷ (0, 70, 2, 2) ∷ (0, 71, 2, 2) ∷ (0, 72, 2, 2) ∷ (2, 40, 4, 2) ∷ (2, 41, 4, 2) ∷ (0, 73, 2, 2)
    ∷ (0, 74, 2, 2) ∷ (2, 42, 4, 2) ∷ (0, 75, 2, 2) ∷ (0, 76, 2, 2) ∷ (0, 77, 2, 2) ∷ (0, 78, 2, 2)
    ∷ (1, 65, 3, 2) ∷ (0, 79, 2, 2) ∷ (2, 43, 4, 2) ∷ (2, 44, 4, 2) ∷ (0, 80, 2, 2) ∷ (1, 66, 3, 2)
    ∷ (0, 81, 2, 2) ∷ (0, 82, 2, 2) ∷ (0, 83, 2, 2) ∷ (1, 67, 3, 2) ∷ (0, 84, 2, 2) ∷ (1, 68, 3, 2)
    ∷ (0, 85, 2, 2) ∷ (0, 86, 2, 2) ∷ (2, 45, 4, 2) ∷ (0, 87, 2, 2) ∷ (1, 69, 3, 2) ∷ (1, 70, 3, 2)
    ∷ (1, 71, 3, 2) ∷ (2, 46, 4, 2) ∷ (2, 47, 4, 2) ∷ (1, 72, 3, 2) ∷ (0, 88, 2, 2) ∷ (0, 89, 2, 2)
    ∷ (0, 90, 2, 2) ∷ (2, 48, 4, 2) ∷ (2, 49, 4, 2) ∷ (0, 91, 2, 2) ∷ (2, 50, 4, 2) ∷ (0, 92, 2, 2)
    ∷ (0, 93, 2, 2) ∷ (2, 51, 4, 2) ∷ (2, 52, 4, 2) ∷ (0, 94, 2, 2) ∷ (1, 73, 3, 2) ∷ (1, 74, 3, 2)
    ∷ (0, 95, 2, 2) ∷ (2, 53, 4, 2) ∷ (0, 96, 17, 2) ∷ (0, 97, 2, 2) ∷ (0, 98, 2, 2) ∷ (2, 54, 4, 2)
    ∷ (2, 55, 4, 2) ∷ (1, 75, 3, 2) ∷ (2, 56, 4, 2) ∷ (1, 76, 3, 2) ∷ (1, 77, 3, 2) ∷ (0, 99, 2, 2)
    ∷ (0, 100, 2, 2) ∷ (0, 101, 2, 2) ∷ (0, 102, 2, 2) ∷ (0, 103, 2, 2) ∷ (1, 78, 3, 2) ∷ (0, 104, 2, 2)
    ∷ (0, 105, 2, 2) ∷ (0, 106, 2, 2) ∷ (2, 57, 4, 2) ∷ (1, 79, 3, 2) ∷ (2, 58, 4, 2) ∷ (0, 107, 2, 2)
    ∷ (2, 59, 4, 2) ∷ (0, 108, 2, 2) ∷ (0, 109, 2, 2) ∷ (1, 80, 3, 2) ∷ (2, 60, 4, 2) ∷ (2, 61, 4, 2)
    ∷ (2, 62, 4, 2) ∷ (0, 110, 2, 2) ∷ (1, 81, 3, 2) ∷ (0, 111, 2, 2) ∷ (0, 112, 2, 2) ∷ (0, 113, 2, 2)
    ∷ (1, 82, 3, 2) ∷ (0, 114, 2, 2) ∷ (0, 115, 2, 2) ∷ (0, 116, 2, 2) ∷ (2, 63, 4, 2) ∷ (0, 117, 2, 2)
    ∷ (0, 118, 2, 2) ∷ (1, 83, 3, 2) ∷ (2, 64, 4, 2) ∷ (0, 119, 2, 2) ∷ (0, 120, 2, 2) ∷ (2, 65, 4, 2)
    ∷ (1, 84, 3, 2) ∷ (0, 121, 2, 2) ∷ (2, 66, 4, 2) ∷ (2, 67, 4, 2) ∷ (0, 122, 2, 2) ∷ (2, 68, 4, 2)
    ∷ (0, 123, 2, 2) ∷ (0, 124, 2, 2) ∷ (0, 125, 2, 2) ∷ (0, 126, 2, 2) ∷ (0, 127, 2, 2) ∷ (0, 1, 5, 0)
    ∷ (0, 308, 2, 27) ∷ (0, 0, 20, 0) ∷ (0, 0, 21, 1) ∷ (0, 306, 27, 17) ∷ (1, 85, 3, 2) ∷ (1, 86, 3, 2)
    ∷ (2, 69, 4, 2) ∷ (1, 87, 3, 2) ∷ (1, 88, 3, 2) ∷ (1, 89, 3, 2) ∷ (2, 70, 4, 2) ∷ (1, 90, 3, 2)
    ∷ (1, 91, 3, 2) ∷ (2, 71, 4, 2) ∷ (1, 92, 3, 2) ∷ (2, 72, 4, 2) ∷ (1, 93, 3, 2) ∷ (1, 94, 3, 2)
    ∷ (1, 95, 3, 2) ∷ (1, 96, 18, 2) ∷ (1, 97, 3, 2) ∷ (1, 98, 3, 2) ∷ (1, 99, 3, 2) ∷ (1, 100, 3, 2)
    ∷ (2, 73, 4, 2) ∷ (2, 74, 4, 2) ∷ (1, 101, 3, 2) ∷ (1, 102, 3, 2) ∷ (1, 103, 3, 2) ∷ (1, 104, 3, 2)
    ∷ (1, 105, 3, 2) ∷ (1, 106, 3, 2) ∷ (1, 107, 3, 2) ∷ (1, 108, 3, 2) ∷ (1, 109, 3, 2) ∷ (1, 110, 3, 2)
    ∷ (2, 75, 4, 2) ∷ (1, 111, 3, 2) ∷ (2, 76, 4, 2) ∷ (1, 112, 3, 2) ∷ (1, 113, 3, 2) ∷ (1, 114, 3, 2)
    ∷ (2, 77, 4, 2) ∷ (1, 115, 3, 2) ∷ (1, 116, 3, 2) ∷ (1, 117, 3, 2) ∷ (1, 118, 3, 2) ∷ (1, 119, 3, 2)
    ∷ (1, 120, 3, 2) ∷ (1, 121, 3, 2) ∷ (1, 122, 3, 2) ∷ (1, 123, 3, 2) ∷ (1, 124, 3, 2) ∷ (1, 125, 3, 2)
    ∷ (1, 126, 3, 2) ∷ (1, 127, 3, 2) ∷ (1, 5, 5, 0) ∷ (1, 308, 3, 27) ∷ (1, 4, 5, 0) ∷ (1, 4, 6, 1)
    ∷ (2, 78, 4, 2) ∷ (2, 79, 4, 2) ∷ (1, 306, 28, 17) ∷ (2, 80, 4, 2) ∷ (2, 81, 4, 2) ∷ (2, 82, 4, 2)
    ∷ (2, 83, 4, 2) ∷ (2, 84, 4, 2) ∷ (2, 85, 4, 2) ∷ (2, 86, 4, 2) ∷ (2, 87, 4, 2) ∷ (2, 88, 4, 2)
    ∷ (2, 89, 4, 2) ∷ (2, 90, 4, 2) ∷ (2, 91, 4, 2) ∷ (2, 92, 4, 2) ∷ (2, 93, 4, 2) ∷ (2, 94, 4, 2)
    ∷ (2, 95, 4, 2) ∷ (2, 96, 19, 2) ∷ (2, 97, 4, 2) ∷ (2, 98, 4, 2) ∷ (2, 99, 4, 2) ∷ (2, 100, 4, 2)
    ∷ (2, 101, 4, 2) ∷ (2, 102, 4, 2) ∷ (2, 103, 4, 2) ∷ (2, 104, 4, 2) ∷ (2, 105, 4, 2) ∷ (2, 106, 4, 2)
    ∷ (2, 107, 4, 2) ∷ (2, 108, 4, 2) ∷ (2, 109, 4, 2) ∷ (2, 110, 4, 2) ∷ (2, 111, 4, 2) ∷ (2, 112, 4, 2)
    ∷ (2, 113, 4, 2) ∷ (2, 114, 4, 2) ∷ (2, 115, 4, 2) ∷ (2, 116, 4, 2) ∷ (2, 117, 4, 2) ∷ (2, 118, 4, 2)
    ∷ (2, 119, 4, 2) ∷ (2, 120, 4, 2) ∷ (2, 121, 4, 2) ∷ (2, 122, 4, 2) ∷ (2, 123, 4, 2) ∷ (2, 124, 4, 2)
    ∷ (2, 125, 4, 2) ∷ (2, 126, 4, 2) ∷ (2, 127, 4, 2) ∷ (2, 3, 8, 0) ∷ (2, 308, 4, 27) ∷ (2, 96, 20, 0)
    ∷ (2, 96, 21, 1) ∷ (2, 0, 22, 2) ∷ (2, 1, 6, 2) ∷ (2, 2, 5, 2) ∷ (2, 3, 9, 2) ∷ (2, 4, 7, 2)
    ∷ (2, 5, 6, 2) ∷ (2, 6, 5, 2) ∷ (2, 7, 5, 2) ∷ (2, 8, 5, 2) ∷ (2, 9, 5, 2) ∷ (2, 10, 5, 2) ∷ (2, 11, 5, 2)
    ∷ (2, 12, 5, 2) ∷ (2, 13, 5, 2) ∷ (2, 14, 5, 2) ∷ (2, 15, 5, 2) ∷ (2, 16, 5, 2) ∷ (2, 17, 5, 2)
    ∷ (2, 18, 5, 2) ∷ (2, 19, 5, 2) ∷ (2, 20, 5, 2) ∷ (2, 21, 5, 2) ∷ (2, 22, 5, 2) ∷ (2, 23, 5, 2)
    ∷ (2, 24, 5, 2) ∷ (2, 25, 5, 2) ∷ (2, 26, 5, 2) ∷ (2, 27, 5, 2) ∷ (2, 28, 5, 2) ∷ (2, 29, 5, 2)
    ∷ (2, 30, 5, 2) ∷ (2, 31, 5, 2) ∷ (2, 32, 5, 2) ∷ (2, 33, 5, 2) ∷ (2, 34, 5, 2) ∷ (2, 35, 5, 2)
    ∷ (2, 36, 5, 2) ∷ (2, 37, 5, 2) ∷ (2, 38, 5, 2) ∷ (2, 39, 5, 2) ∷ (2, 40, 5, 2) ∷ (2, 41, 5, 2)
    ∷ (2, 42, 5, 2) ∷ (2, 43, 5, 2) ∷ (2, 44, 5, 2) ∷ (2, 45, 5, 2) ∷ (2, 46, 5, 2) ∷ (2, 47, 5, 2)
    ∷ (2, 48, 5, 2) ∷ (2, 49, 5, 2) ∷ (2, 50, 5, 2) ∷ (2, 51, 5, 2) ∷ (2, 52, 5, 2) ∷ (2, 53, 5, 2)
    ∷ (2, 54, 5, 2) ∷ (2, 55, 5, 2) ∷ (2, 56, 5, 2) ∷ (2, 57, 5, 2) ∷ (2, 58, 5, 2) ∷ (2, 59, 5, 2)
    ∷ (2, 60, 5, 2) ∷ (2, 61, 5, 2) ∷ (2, 62, 5, 2) ∷ (2, 63, 5, 2) ∷ (2, 64, 5, 2) ∷ (2, 65, 5, 2)
    ∷ (2, 66, 5, 2) ∷ (2, 67, 5, 2) ∷ (2, 68, 5, 2) ∷ (2, 69, 5, 2) ∷ (2, 70, 5, 2) ∷ (2, 71, 5, 2)
    ∷ (2, 72, 5, 2) ∷ (2, 73, 5, 2) ∷ (2, 74, 5, 2) ∷ (2, 75, 5, 2) ∷ (2, 76, 5, 2) ∷ (2, 77, 5, 2)
    ∷ (2, 78, 5, 2) ∷ (2, 79, 5, 2) ∷ (2, 80, 5, 2) ∷ (2, 81, 5, 2) ∷ (2, 82, 5, 2) ∷ (2, 83, 5, 2)
    ∷ (2, 84, 5, 2) ∷ (2, 85, 5, 2) ∷ (2, 86, 5, 2) ∷ (2, 87, 5, 2) ∷ (2, 88, 5, 2) ∷ (2, 89, 5, 2)
    ∷ (2, 90, 5, 2) ∷ (2, 91, 5, 2) ∷ (2, 92, 5, 2) ∷ (2, 93, 5, 2) ∷ (2, 94, 5, 2) ∷ (2, 95, 5, 2)
    ∷ (2, 96, 22, 2) ∷ (2, 97, 5, 2) ∷ (2, 98, 5, 2) ∷ (2, 99, 5, 2) ∷ (2, 100, 5, 2) ∷ (2, 101, 5, 2)
    ∷ (2, 102, 5, 2) ∷ (2, 103, 5, 2) ∷ (2, 104, 5, 2) ∷ (2, 105, 5, 2) ∷ (2, 106, 5, 2) ∷ (2, 107, 5, 2)
    ∷ (2, 108, 5, 2) ∷ (2, 109, 5, 2) ∷ (2, 110, 5, 2) ∷ (2, 111, 5, 2) ∷ (2, 112, 5, 2) ∷ (2, 113, 5, 2)
    ∷ (2, 114, 5, 2) ∷ (2, 115, 5, 2) ∷ (2, 116, 5, 2) ∷ (2, 117, 5, 2) ∷ (2, 118, 5, 2) ∷ (2, 119, 5, 2)
    ∷ (2, 120, 5, 2) ∷ (2, 121, 5, 2) ∷ (2, 122, 5, 2) ∷ (2, 123, 5, 2) ∷ (2, 124, 5, 2) ∷ (2, 125, 5, 2)
    ∷ (2, 126, 5, 2) ∷ (2, 127, 5, 2) ∷ (2, 264, 1, 12) ∷ (2, 96, 23, 3) ∷ (2, 305, 2, 0) ∷ (2, 306, 29, 17)
    ∷ []

pub makes : whole_fine_run image 4 processors ≡ record { steps = steps; events = events; is_lawful = true; is_complete = true; dump = without_priorities dump }
unfolding blank
makes = refl
