-- Printed lines are read back as expressions.
use Rattle.std.proofs.Common.{◌≡◌, ℕ, ◌-◌, ◌<◌, true, false, ◌==◌, List, [], ◌∷◌, ◌++◌, map, length, codes, Option, Some, None, option_and_then, refl, sym, ap, ◌∙◌, arith, append_assoc, length-append}
use Rattle.std.proofs.lemmas.Bool.Decides.{nat_tests}
use Rattle.toml_parser.specs.Lexical.{first, skip_blank, skip_ws}
use Rattle.toml_parser.proofs.LexicalLemmas.{skip_ws_none, skip_from-nil}
use Rattle.toml_writer.specs.Text.{key_text}
use Rattle.toml_writer.proofs.Strings.{is_key_start-key_text}
use Rattle.toml.specs.Data.{Data}
use Rattle.toml.specs.Tables.{Document, Expression, define, key_value, array_table}
use Rattle.toml.specs.Parse.{val, expression, ends_line, line, lines}
use Rattle.toml.proofs.Turns.{keyval_ok, lines_end, lines_more, lines_refused}
use Rattle.toml.proofs.Blanks.{starts_value, skip_start, skip_newline, skip_within}
use Rattle.toml.proofs.ReadLines.{run, Turn, line_turn}
use Rattle.toml.proofs.ReadValues.{key_equals-pair}
use Rattle.um_canonical.specs.Printed.{Line, value_text, value_data, line_text, lines_text}
use Rattle.um_canonical.proofs.Toml.Strings.{key_text-bare}
use Rattle.um_canonical.proofs.Toml.Values.{is_bare_key, IsPlainValue, value_read}

-- what a line says
abbrev pub said : Line → Expression
said (Line.pair k v) = (([], k), key_value (value_data v))
said (Line.header k) = (([], k), array_table)

abbrev pub IsPlainLine : Line → Type 0
IsPlainLine (Line.pair k v) = (is_bare_key k ≡ true) × IsPlainValue v
IsPlainLine (Line.header k) = is_bare_key k ≡ true

abbrev pub ArePlainLines : List Line → Type 0
ArePlainLines [] = Unit {0}
ArePlainLines (l ∷ ls) = IsPlainLine l × ArePlainLines ls

ends_at_newline : (rest : List ℕ) → ends_line (skip_ws (10 ∷ rest)) ≡ true
ends_at_newline rest = rw (skip_ws_none (10 ∷ rest) refl) (grind (arith, nat_tests))

pair_read : (k this rest : List ℕ) (d : Data) → starts_value (first (this ++ 10 ∷ rest)) ≡ true → val 80 (this ++ 10 ∷ rest) ≡ Some (d, 10 ∷ rest)
    → line (key_text k ++ (codes " = " ++ (this ++ 10 ∷ rest))) ≡ Some ((([], k), key_value d), 10 ∷ rest)
unfolding line expression
pair_read k this rest d start read =
    let value_at = this ++ 10 ∷ rest in
    let s = key_text k ++ (codes " = " ++ value_at) in
    let pair = keyval_ok (val 80) s value_at (10 ∷ rest) ([], k) d (key_equals-pair k value_at start) read in
    let key_first = is_key_start-key_text k (codes " = " ++ value_at) in
    let other : (first s == 91) ≡ false = grind (arith, nat_tests) in
    rw (other, pair, ends_at_newline rest)

pub turn : (l : Line) (rest : List ℕ) → IsPlainLine l → Turn (said l).0 (said l).1 (line_text l ++ rest) rest
turn (Line.pair k v) rest h =
    let front = value_read v rest h.1 in
    let starts = front.starts in
    let value_at = value_text v ++ 10 ∷ rest in
    let s = key_text k ++ (codes " = " ++ value_at) in
    let bare = key_text-bare k h.0 in
    let same : line_text (Line.pair k v) ++ rest ≡ s = rw bare (simp append_assoc refl) in
    let key_first = is_key_start-key_text k (codes " = " ++ value_at) in
    let start : starts_value (first s) ≡ true = grind (arith, nat_tests) in
    let key_size = length-append (key_text k) (codes " = " ++ value_at) in
    let value_size = length-append (value_text v) (10 ∷ rest) in
    (s, rw same (skip_start s start), pair_read k (value_text v) rest (value_data v) starts front.read, omega (arith, key_size), omega (arith, key_size, value_size), rw same (grind (arith, nat_tests)))
turn (Line.header k) rest h =
    let bare = key_text-bare k h in
    line_turn false false ([], k) array_table (line_text (Line.header k)) rest (rw bare refl) (omega arith)

read_step : (m : ℕ) (doc : Document) (x : List ℕ) (e : Expression) (after : List ℕ) (es : List Expression) (defined : Option Document) → defined ≡ define doc e → 0 < m → (length (skip_blank x) == 0) ≡ false
    → line (skip_blank x) ≡ Some (e, after) → ((next : Document) → lines (m - 1) next after ≡ option_and_then (λ n. run n es) (Some next)) → lines m doc x ≡ option_and_then (λ n. run n es) defined
read_step m doc x e after es None same some other read more = lines_refused m doc x e after some other read (sym same)
read_step m doc x e after es (Some next) same some other read more = lines_more m doc next x e after some other read (sym same) ∙ more next

pub read_lines : (ls : List Line) (x : List ℕ) (doc : Document) (m : ℕ) → ArePlainLines ls → skip_blank x ≡ skip_blank (lines_text ls) → length x < m → lines m doc x ≡ run doc (map said ls)
read_lines [] x doc m h skip room =
    lines_end m doc x (omega arith) (rw (skip, skip_from-nil true false) refl)
read_lines (l ∷ ls) x doc m h skip room =
    let rest = lines_text ls in
    let (s, at_start, read, some, shorter, not_bom) = turn l rest h.0 in
    let same : skip_blank x ≡ s = skip ∙ at_start in
    let other : (length (skip_blank x) == 0) ≡ false = rw same (grind (arith, nat_tests)) in
    let within = skip_within x in
    read_step m doc x (said l) (10 ∷ rest) (map said ls) (define doc (said l)) refl (omega arith) other (rw same read)
    (λ next. read_lines ls (10 ∷ rest) next (m - 1) h.1 (skip_newline rest) (omega (arith, ap length same)))
