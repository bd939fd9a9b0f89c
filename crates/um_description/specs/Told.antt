-- What is told of an image whose weight and whose areas are known.
use Rattle.std.specs.Prelude.{ℕ, Bool, true, false, Option, Some, None, Result, Ok, Err}
use Rattle.um_base.specs.declared.image.Image.{Image}
use Rattle.um_base.specs.declared.limits.TheConstants.{AREA_SIZE}
use Rattle.um_description.specs.declared.flaw.Flaw.{Flaw}

-- the weight first, and then the bytes that the partitions, and the stacks, need where their area has fewer
abbrev pub told : Bool → Option ℕ → Option ℕ → Image → Result Image Flaw
told true partitions stacks image = Err Flaw.Weight
told false (Some need) stacks image = Err (Flaw.Layout false need AREA_SIZE)
told false None (Some need) image = Err (Flaw.Layout true need AREA_SIZE)
told false None None image = Ok image
