-- What the lines of the threads begin with.
use Rattle.std.specs.Prelude.{◌≡◌, ℕ, List, ◌++◌, length, codes, Some, slice_get}
use Rattle.std.specs.Global.{Vec}
use Rattle.um_base.specs.declared.image.Image.{Image}
use Rattle.um_base.specs.declared.limits.TheConstants.{THREADS}
use Rattle.um_trace.specs.Names.{thread_text}

-- What the lines of each thread begin with, by thread index: the thread, and a space.
pub record AreBeginnings (image : Image) (names : List (Vec ℕ)) : Type 0 where
  pub all : length names ≡ THREADS
  pub each : (t : ℕ) (name : Vec ℕ) → slice_get names t ≡ Some name → name.items ≡ thread_text image t ++ codes " "
