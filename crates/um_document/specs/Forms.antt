-- What a value is, and whether it is what its key asks for.
use Rattle.std.specs.Prelude.{ℕ, ◌-◌, ◌*◌, ◌+◌, ◌%◌, List, [], ◌∷◌, length, Bool, false, not, ◌&&◌, ◌||◌, ◌==◌, if◌then◌else◌, is_some, is_none, Option, Some, None}
use Rattle.std.specs.List.{list_all}
use Rattle.toml.specs.Data.{Data, as_str, as_integer, as_bool, as_array, as_table}
use Rattle.um_base.specs.Lawful.{is_within, is_name}
use Rattle.um_document.specs.declared.shape.Form.{Form}
use Rattle.um_document.specs.Words.{is_word, alignment_of}

-- there is a value, and it passes the test
abbrev pub is_some_and : {A : Type 0} → (A → Bool) → Option A → Bool
is_some_and p None = false
is_some_and p (Some x) = p x

abbrev pub is_hex_digit : ℕ → Bool
is_hex_digit b = is_within 48 57 b || is_within 97 102 b

-- an even number of lower-case hexadecimal digits
abbrev pub is_hexadecimal : List ℕ → Bool
is_hexadecimal s = (length s % 2 == 0) && list_all is_hex_digit s

-- the value has this form
abbrev pub has_form : Form → Data → Bool
has_form Form.Number d = is_some (as_integer d)
has_form Form.Truth d = is_some (as_bool d)
has_form Form.Name d = is_some (as_str d)
has_form (Form.Word choice) d = is_some (as_str d)
has_form Form.Text d = is_some (as_str d)
has_form Form.Digits d = is_some_and is_hexadecimal (as_str d)
has_form Form.Texts d = is_some (as_array d)
has_form Form.Tables d = is_some (as_array d)
has_form Form.Variables d = is_some (as_array d)
has_form Form.Alignment d = is_some (as_integer d)
has_form Form.Table d = is_some (as_table d)

-- the value is a text that is no lawful name, or none of the words that may stand there, or a number that is no alignment's
abbrev pub is_bad_name : Form → Data → Bool
is_bad_name Form.Name d = is_some_and (λ s. not (is_name s)) (as_str d)
is_bad_name (Form.Word choice) d = is_some_and (λ s. not (is_word choice s)) (as_str d)
is_bad_name Form.Alignment d = is_some_and (λ z. is_none (alignment_of z)) (as_integer d)
is_bad_name _ d = false

abbrev pub digit_value : ℕ → ℕ
digit_value b = if is_within 48 57 b then b - 48 else (if is_within 97 102 b then b - 87 else 0)

-- the bytes that pairs of digits spell
abbrev pub decoded : List ℕ → List ℕ
decoded [] = []
decoded (a ∷ []) = []
decoded (a ∷ b ∷ digits) = (16 * digit_value a + digit_value b) ∷ decoded digits
