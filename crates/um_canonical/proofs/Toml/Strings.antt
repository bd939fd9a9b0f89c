-- Strings and keys that need no escapes are written as they stand.
use Rattle.std.proofs.Common.{◌≡◌, ℕ, Bool, true, false, not, ◌&&◌, ◌==◌, nat_le, nat_lt, List, [], ◌∷◌, length, refl, arith}
use Rattle.std.proofs.lemmas.Bool.{and_parts}
use Rattle.std.proofs.lemmas.Bool.Decides.{nat_tests}
use Rattle.std.specs.List.{list_all, list_any}
use Rattle.toml_parser.specs.Lexical.{is_bare}
use Rattle.toml_writer.specs.Text.{is_control, needs_escape, quotes_after, escaped, encoding_of, string_text, key_text}
use Rattle.um_canonical.specs.Printed.{quoted}

-- a byte that stands for itself between quotes
abbrev pub is_plain_byte : ℕ → Bool
is_plain_byte c = (nat_le 32 c && nat_le c 126) && (not (c == 34) && not (c == 92))

pub no_escape : (c : ℕ) → is_plain_byte c ≡ true → needs_escape false 0 c ≡ false
unfolding needs_escape
no_escape c h = grind (arith, nat_tests)

escaped-plain : (s : List ℕ) → list_all is_plain_byte s ≡ true → escaped false 0 s ≡ s
unfolding escaped quotes_after
escaped-plain [] h = refl
escaped-plain (c ∷ cs) h =
    let (here, more) = and_parts (is_plain_byte c) (list_all is_plain_byte cs) h in
    let none = no_escape c here in
    let other : (c == 34) ≡ false = grind (arith, nat_tests) in
    rw (none, other, escaped-plain cs more) refl

none_of : (p : ℕ → Bool) (s : List ℕ) → ((c : ℕ) → is_plain_byte c ≡ true → p c ≡ false) → list_all is_plain_byte s ≡ true → list_any p s ≡ false
none_of p [] ok h = refl
none_of p (c ∷ cs) ok h =
    let (here, more) = and_parts (is_plain_byte c) (list_all is_plain_byte cs) h in
    rw (ok c here, none_of p cs ok more) refl

no_control : (c : ℕ) → is_plain_byte c ≡ true → is_control c ≡ false
no_control c h = grind (arith, nat_tests)

not_this : (q : ℕ) → is_plain_byte q ≡ false → (c : ℕ) → is_plain_byte c ≡ true → (c == q) ≡ false
not_this q bad c h = grind (arith, nat_tests)

pub string_text-plain : (s : List ℕ) → list_all is_plain_byte s ≡ true → string_text s ≡ quoted s
unfolding string_text encoding_of
string_text-plain s h =
    let a = none_of is_control s no_control h in
    let b = none_of (λ x. x == 92) s (not_this 92 refl) h in
    let c = none_of (λ x. x == 34) s (not_this 34 refl) h in
    let d = none_of (λ x. x == 10) s (not_this 10 refl) h in
    rw (a, b, c, d, escaped-plain s h) refl

pub key_text-bare : (k : List ℕ) → (nat_lt 0 (length k) && list_all is_bare k) ≡ true → key_text k ≡ k
unfolding key_text
key_text-bare k h = rw h refl
