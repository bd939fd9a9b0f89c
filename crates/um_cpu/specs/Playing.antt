-- A processor at a board, as one value, and what its turns make of it.
use Rattle.std.specs.Prelude.{◌≡◌, ℕ}
use Rattle.um_base.specs.declared.image.Image.{Image}
use Rattle.um_invariants.specs.Described.{IsDescribed}
use Rattle.um_refinement.specs.Room.{CanRun}
use Rattle.um_steps.specs.Given.{IsGiven}
use Rattle.um_processor.specs.Standing.{whole}
use Rattle.um_board.specs.Placed.{IsAt}
use Rattle.um_board.specs.Seated.{Unnoted}
use Rattle.um_cpu.specs.Cpus.{Advances, HadWork, HasAsked, HasTended, LetsStand, Plays, Rests, Stands}
use Rattle.um_cpu.specs.declared.cpu.Cpu.{Cpu}

-- it is as its steps so far have left it
abbrev pub IsPlaying : Image → Cpu → Type 0
IsPlaying image c = Stands image c.number (whole c.processor) c.place.seat c.place.log.items

-- it can go on: it is at its place at a board of a described image, and stands where its steps lead
pub record CanPlay (image : Image) (c : Cpu) : Type 0 where
  pub given : IsGiven image
  pub described : IsDescribed image
  pub can : CanRun image 8
  pub place : IsAt image c.place
  pub stands : IsPlaying image c

-- it goes on by one step at most
abbrev pub GoesOnTo : Image → Cpu → Cpu → Type 0
GoesOnTo image c d = Advances image c.number (whole c.processor) c.place.seat c.place.log.items (whole d.processor) d.place.seat d.place.log.items

-- it has asked once for its next step
abbrev pub AskedOnce : Image → Cpu → Cpu → Type 0
AskedOnce image c d = HasAsked image c.number (whole c.processor) (whole d.processor) c.place.seat c.place.log.items d.place.seat d.place.log.items

-- it has tended to time
abbrev pub Tended : Image → Cpu → Cpu → Type 0
Tended image c d = HasTended image c.number (whole c.processor) (whole d.processor) c.place.seat c.place.log.items d.place.seat d.place.log.items

-- it stands where it stood, though its seat has read words, and lets time stand
abbrev pub Waited : Image → Cpu → Cpu → ℕ → Type 0
Waited image c d word =
    (whole d.processor ≡ whole c.processor)
    × Unnoted c.place.seat c.place.log.items d.place.seat d.place.log.items
    × LetsStand image c.number (whole c.processor) c.place.seat d.place.seat word

-- it had something to do, and asked for it
abbrev pub Worked : Image → Cpu → Cpu → Type 0
Worked image c d = HadWork image c.number (whole c.processor) (whole d.processor) c.place.seat c.place.log.items d.place.seat d.place.log.items

-- it has no thread, and saw that none is ready by this word of the scheduler
abbrev pub Rested : Image → Cpu → Cpu → ℕ → Type 0
Rested image c d word = Rests image c.number (whole c.processor) (whole d.processor) c.place.seat c.place.log.items d.place.seat d.place.log.items word

-- it has played to its end
abbrev pub PlaysOut : Image → Cpu → Cpu → Type 0
PlaysOut image c d = Plays image c.number (whole c.processor) c.place.seat c.place.log.items (whole d.processor) d.place.seat d.place.log.items
