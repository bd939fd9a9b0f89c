-- The rows of the threads' own objects, and whether objects stand apart.
use Rattle.std.specs.Prelude.{◌≡◌, ℕ, ◌<◌, List, length, Some, slice_index}
use Rattle.um_base.specs.declared.image.Image.{Image}
use Rattle.um_base.specs.Places.{own_row, row_at, addr_of}

-- the rows of the own objects of the first threads stand at their thread indices
abbrev pub OwnRows : Image → List ℕ → ℕ → Type 0
OwnRows image rows n = (t : ℕ) → t < n → slice_index rows t ≡ own_row image t

-- each static object is the first at its address
abbrev pub AreApart : Image → Type 0
AreApart image = (x : ℕ) → x < length image.objects → row_at image (addr_of image x) ≡ Some x
