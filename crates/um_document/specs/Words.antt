-- The words that may stand at a key, and how variables are aligned.
use Rattle.std.specs.Prelude.{ℕ, List, [], ◌∷◌, find, Bool, is_some, Option, ℤ, pos}
use Rattle.std.specs.Ordering.{int_eq}
use Rattle.um_document.specs.declared.description.Alignment.{Alignment}
use Rattle.um_document.specs.declared.shape.Choice.{Choice}
use Rattle.um_vocabulary.specs.Words.{mpu_named, policy_named, given_attr_named, kind_named, mode_named}

-- the bytes of which an aligned variable's offset is a multiple
abbrev pub alignment_bytes : Alignment → ℕ
alignment_bytes Alignment.One = 1
alignment_bytes Alignment.Two = 2
alignment_bytes Alignment.Four = 4
alignment_bytes Alignment.Eight = 8
alignment_bytes Alignment.Sixteen = 16
alignment_bytes Alignment.ThirtyTwo = 32

abbrev pub alignments : List Alignment
alignments = Alignment.One ∷ Alignment.Two ∷ Alignment.Four ∷ Alignment.Eight ∷ Alignment.Sixteen ∷ Alignment.ThirtyTwo ∷ []

-- the alignment of this number
abbrev pub alignment_of : ℤ → Option Alignment
alignment_of z = find (λ a. int_eq z (pos (alignment_bytes a))) alignments

-- whether it is one of the words that may stand there
abbrev pub is_word : Choice → List ℕ → Bool
is_word Choice.Mpu s = is_some (mpu_named s)
is_word Choice.Policy s = is_some (policy_named s)
is_word Choice.Attr s = is_some (given_attr_named s)
is_word Choice.Kind s = is_some (kind_named s)
is_word Choice.Mode s = is_some (mode_named s)
