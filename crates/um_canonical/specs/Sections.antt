-- What is printed for the entries of the other sections.
use Rattle.std.specs.Prelude.{ℕ, ◌+◌, ◌/◌, ◌%◌, ℤ, pos, List, [], ◌∷◌, ◌++◌, nat_lt, if◌then◌else◌, Option, Some, None}
use Rattle.um_base.specs.declared.attr.Attr.{Attr}
use Rattle.um_base.specs.declared.names.Mode.{Mode}
use Rattle.um_document.specs.declared.shape.Key.{Key}
use Rattle.um_document.specs.Shape.{word}
use Rattle.um_vocabulary.specs.Words.{attr_word, mode_word}
use Rattle.um_canonical.specs.Printed.{Atom, Printed, Pairs}
use Rattle.um_canonical.specs.Objects.{number_pair, text_pair}

abbrev pub hex_digit : ℕ → ℕ
hex_digit n = if nat_lt n 10 then 48 + n else 87 + n

-- two digits a byte
abbrev pub encoded : List ℕ → List ℕ
encoded [] = []
encoded (b ∷ bs) = hex_digit (b / 16) ∷ hex_digit (b % 16) ∷ encoded bs

-- where there are any
abbrev pub bytes_pairs : Key → List ℕ → Pairs
bytes_pairs k [] = []
bytes_pairs k (b ∷ bs) = text_pair k (encoded (b ∷ bs)) ∷ []

abbrev pub texts_pair : Key → List (List ℕ) → List ℕ × Printed
texts_pair k ts = (word k, Printed.texts ts)

abbrev pub given_pairs : Option (List (List ℕ)) → Pairs
given_pairs None = []
given_pairs (Some ts) = texts_pair Key.Partitions ts ∷ []

abbrev pub pool_pairs : Option (List ℕ) → Pairs
pool_pairs None = []
pool_pairs (Some t) = text_pair Key.Pool t ∷ []

abbrev pub grant_pairs : List (List ℕ) → Pairs
grant_pairs [] = []
grant_pairs (t ∷ ts) = texts_pair Key.Grants (t ∷ ts) ∷ []

abbrev pub pool_by : List ℕ → ℤ → Pairs
pool_by name size = text_pair Key.Name name ∷ number_pair Key.Size size ∷ []

abbrev pub Atoms : Type 0
Atoms = List (List ℕ × Atom)

abbrev pub data_atoms : List ℕ → Atoms
data_atoms [] = []
data_atoms (b ∷ bs) = (word Key.Data, Atom.text (encoded (b ∷ bs))) ∷ []

-- a variable of so many bytes, aligned to 32
abbrev pub variable_atoms : List ℕ → ℤ → List ℕ → Atoms
variable_atoms variable size bytes =
    (word Key.Name, Atom.text variable) ∷ (word Key.Size, Atom.number size) ∷ (word Key.Align, Atom.number (pos 32)) ∷ data_atoms bytes

-- a partition of one variable
abbrev pub partition_by : List ℕ → Attr → List ℕ → ℤ → List ℕ → Pairs
partition_by name attr variable size bytes =
    text_pair Key.Name name ∷ text_pair Key.Attr (attr_word attr) ∷ (word Key.Vars, Printed.inline (variable_atoms variable size bytes)) ∷ []

abbrev pub domain_by : List ℕ → Option (List (List ℕ)) → Pairs
domain_by name parts = text_pair Key.Name name ∷ given_pairs parts

abbrev pub boot_by : List ℕ → List ℕ → List ℕ → ℤ → List ℕ → Mode → Option (List ℕ) → List (List ℕ) → Pairs
boot_by thread stack script priority domain mode pool grants =
    text_pair Key.Thread thread ∷ text_pair Key.Stack stack ∷ text_pair Key.Script script ∷ number_pair Key.Priority priority
    ∷ text_pair Key.Domain domain ∷ text_pair Key.Mode (mode_word mode) ∷ (pool_pairs pool ++ grant_pairs grants)

abbrev pub script_by : List ℕ → List (List ℕ) → Pairs
script_by name lines = text_pair Key.Name name ∷ texts_pair Key.Lines lines ∷ []

abbrev pub futex_by : List ℕ → List ℕ → ℤ → Pairs
futex_by name partition offset = text_pair Key.Name name ∷ text_pair Key.Partition partition ∷ number_pair Key.Offset offset ∷ []
