-- Printed texts are ASCII, and so UTF-8.
use Rattle.std.proofs.Common.{◌≡◌, ℕ, Bool, true, false, nat_lt, List, [], ◌∷◌, ◌++◌, length, codes, IsUtf8, zero, suc, refl, ◌∙◌, arith}
use Rattle.std.proofs.lemmas.Bool.{and_parts}
use Rattle.std.proofs.lemmas.Bool.Decides.{nat_tests}
use Rattle.std.proofs.lemmas.List.Folds.{list_all-append}
use Rattle.std.proofs.lemmas.Str.{IsUtf8-from_ascii}
use Rattle.std.specs.Str.{IsAscii}
use Rattle.std.specs.Fmt.{signed_decimal}
use Rattle.std.specs.List.{list_all}
use Rattle.toml_parser.specs.Lexical.{is_bare, is_word}
use Rattle.toml_writer.proofs.Scalars.{IsWord-integer}
use Rattle.um_canonical.specs.Printed.{Atom, Printed, Line, quoted, atom_text, items_text, members_text, value_text, line_text, lines_text, before}
use Rattle.um_canonical.proofs.Toml.Strings.{is_plain_byte}
use Rattle.um_canonical.proofs.Toml.Values.{is_bare_key, is_plain, IsPlainAtom, ArePlain, ArePlainAtoms, IsPlainValue}
use Rattle.um_canonical.proofs.Toml.Lines.{IsPlainLine, ArePlainLines}

abbrev pub is_low : List ℕ → Bool
is_low s = list_all (λ c. nat_lt c 128) s

both_low : (s t : List ℕ) → is_low s ≡ true → is_low t ≡ true → is_low (s ++ t) ≡ true
both_low s t h k = list_all-append (λ c. nat_lt c 128) s t ∙ rw (h, k) refl

weaker : (p : ℕ → Bool) → ((c : ℕ) → p c ≡ true → nat_lt c 128 ≡ true) → (s : List ℕ) → list_all p s ≡ true → is_low s ≡ true
weaker p ok [] h = refl
weaker p ok (c ∷ cs) h =
    let both = and_parts (p c) (list_all p cs) h in
    rw (ok c both.0, weaker p ok cs both.1) refl

plain_low : (c : ℕ) → is_plain_byte c ≡ true → nat_lt c 128 ≡ true
plain_low c h = grind (arith, nat_tests)

word_low : (c : ℕ) → is_word c ≡ true → nat_lt c 128 ≡ true
word_low c h = grind (arith, nat_tests)

bare_low : (c : ℕ) → is_bare c ≡ true → nat_lt c 128 ≡ true
bare_low c h = grind (arith, nat_tests)

quoted_low : (s : List ℕ) → is_plain s ≡ true → is_low (quoted s) ≡ true
quoted_low s h = both_low s (34 ∷ []) (weaker is_plain_byte plain_low s h) refl

key_low : (k : List ℕ) → is_bare_key k ≡ true → is_low k ≡ true
key_low k h = weaker is_bare bare_low k (and_parts (nat_lt 0 (length k)) (list_all is_bare k) h).1

atom_low : (a : Atom) → IsPlainAtom a → is_low (atom_text a) ≡ true
atom_low (Atom.text s) h = quoted_low s h
atom_low (Atom.number z) h = weaker is_word word_low (signed_decimal z) (IsWord-integer z h).all
atom_low (Atom.truth true) h = refl
atom_low (Atom.truth false) h = refl

before_low : (is_first : Bool) → is_low (before is_first) ≡ true
before_low true = refl
before_low false = refl

items_low : (is_first : Bool) (ss : List (List ℕ)) → ArePlain ss → is_low (items_text is_first ss) ≡ true
items_low is_first [] h = refl
items_low is_first (s ∷ ss) h =
    both_low (before is_first) (quoted s ++ items_text false ss) (before_low is_first) (both_low (quoted s) (items_text false ss) (quoted_low s h.0) (items_low false ss h.1))

members_low : (is_first : Bool) (ps : List (List ℕ × Atom)) → ArePlainAtoms ps → is_low (members_text is_first ps) ≡ true
members_low is_first [] h = refl
members_low is_first (p ∷ ps) h =
    let rest = atom_text p.1 ++ members_text false ps in
    both_low (before is_first) (p.0 ++ (codes " = " ++ rest)) (before_low is_first)
    (both_low p.0 (codes " = " ++ rest) (key_low p.0 h.0)
    (both_low (codes " = ") rest refl (both_low (atom_text p.1) (members_text false ps) (atom_low p.1 h.1) (members_low false ps h.2))))

value_low : (v : Printed) → IsPlainValue v → is_low (value_text v) ≡ true
value_low (Printed.one a) h = atom_low a h
value_low (Printed.texts ss) h = items_low true ss h
value_low (Printed.inline ps) h = both_low (members_text true ps) (codes "]") (members_low true ps h.0) refl

line_low : (l : Line) → IsPlainLine l → is_low (line_text l) ≡ true
line_low (Line.pair k v) h =
    both_low k (codes " = " ++ (value_text v ++ codes "\n")) (key_low k h.0)
    (both_low (codes " = ") (value_text v ++ codes "\n") refl (both_low (value_text v) (codes "\n") (value_low v h.1) refl))
line_low (Line.header k) h = both_low k (codes "]]\n") (key_low k h) refl

lines_low : (ls : List Line) → ArePlainLines ls → is_low (lines_text ls) ≡ true
lines_low [] h = refl
lines_low (l ∷ ls) h = both_low (line_text l) (lines_text ls) (line_low l h.0) (lines_low ls h.1)

each_low : (s : List ℕ) → is_low s ≡ true → IsAscii s
each_low [] h i = omega arith
each_low (c ∷ cs) h zero = let both = and_parts (nat_lt c 128) (is_low cs) h in grind (arith, nat_tests, both.0)
each_low (c ∷ cs) h (suc i) = let both = and_parts (nat_lt c 128) (is_low cs) h in each_low cs both.1 i

pub lines_utf8 : (ls : List Line) → ArePlainLines ls → IsUtf8 (lines_text ls)
lines_utf8 ls h = IsUtf8-from_ascii (lines_text ls) (each_low (lines_text ls) (lines_low ls h))
