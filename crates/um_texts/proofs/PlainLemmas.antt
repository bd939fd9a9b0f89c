-- Text without a space, and text without a newline.
use Rattle.std.proofs.Common.{◌≡◌, ℕ, zero, suc, ◌+◌, ◌/◌, ◌%◌, Bool, true, false, ◌&&◌, not, if◌then◌else◌, List, [], ◌∷◌, ◌++◌, refl, arith, slice_get, drop, length}
use Rattle.std.specs.Prelude.{IfSome, ◌==◌, nat_lt, nat_le, codes, decimal, bytes_eq}
use Rattle.std.proofs.lemmas.Bool.{and_from, and_parts}
use Rattle.std.specs.Fmt.{digits, digits_onto, digit_glyph}
use Rattle.std.specs.List.{list_all, flat_map}
use Rattle.std.proofs.lemmas.Bool.Decides.{nat_tests}
use Rattle.std.proofs.lemmas.List.Folds.{list_all-append}
use Rattle.um_base.specs.Lawful.{is_name_byte, is_name, begins_with_letter}
use Rattle.um_trace.specs.Digits.{glyph_of, hex8, address, value, leading}

-- no byte of a text is a space or before it
abbrev pub solid : List ℕ → Bool
solid xs = list_all (λ b. nat_lt 32 b) xs

-- no byte is before the space
abbrev pub plain : List ℕ → Bool
plain xs = list_all (λ b. nat_lt 31 b) xs

-- what holds of each element of a list holds of the one at a place
pub all_get : {A : Type 0} (p : A → Bool) (xs : List A) (i : ℕ) → list_all p xs ≡ true → IfSome (slice_get xs i) (λ x. p x ≡ true)
all_get p [] zero h = tt
all_get p [] (suc i) h = tt
all_get p (x ∷ xs) zero h = (and_parts (p x) (list_all p xs) h).0
all_get p (x ∷ xs) (suc i) h = all_get p xs i (and_parts (p x) (list_all p xs) h).1

pub all_more : {A : Type 0} (p q : A → Bool) → ((x : A) → p x ≡ true → q x ≡ true) → (xs : List A) → list_all p xs ≡ true → list_all q xs ≡ true
all_more p q more [] h = refl
all_more p q more (x ∷ xs) h =
    and_from (q x) (list_all q xs) (more x (and_parts (p x) (list_all p xs) h).0) (all_more p q more xs (and_parts (p x) (list_all p xs) h).1)

pub solid_append : (xs ys : List ℕ) → solid xs ≡ true → solid ys ≡ true → solid (xs ++ ys) ≡ true
solid_append xs ys h k = rw list_all-append (and_from (solid xs) (solid ys) h k)

pub plain_append : (xs ys : List ℕ) → plain xs ≡ true → plain ys ≡ true → plain (xs ++ ys) ≡ true
plain_append xs ys h k = rw list_all-append (and_from (plain xs) (plain ys) h k)

over : (b : ℕ) → nat_lt 32 b ≡ true → nat_lt 31 b ≡ true
over b h = grind (arith, nat_tests)

pub plain_solid : (xs : List ℕ) → solid xs ≡ true → plain xs ≡ true
plain_solid xs h = all_more (λ b. nat_lt 32 b) (λ b. nat_lt 31 b) over xs h

-- no byte of a plain text is a newline
over_newline : (b : ℕ) → nat_lt 31 b ≡ true → nat_lt 10 b ≡ true
over_newline b h = grind (arith, nat_tests)

pub newline_less : (xs : List ℕ) → plain xs ≡ true → list_all (λ b. nat_lt 10 b) xs ≡ true
newline_less xs h = all_more (λ b. nat_lt 31 b) (λ b. nat_lt 10 b) over_newline xs h

pub plain_flat : {A : Type 0} (f : A → List ℕ) → ((x : A) → plain (f x) ≡ true) → (xs : List A) → plain (flat_map f xs) ≡ true
plain_flat f each [] = refl
plain_flat f each (x ∷ xs) = plain_append (f x) (flat_map f xs) (each x) (plain_flat f each xs)

-- Numbers.

glyph_solid : (d : ℕ) (below : Bool) → nat_lt 32 (if below then 48 + d else 87 + d) ≡ true
glyph_solid d true = grind (arith, nat_tests)
glyph_solid d false = grind (arith, nat_tests)

last_solid : (k n : ℕ) (acc : List ℕ) (done : Bool) → solid acc ≡ true
    → ((more : List ℕ) → solid more ≡ true → solid (digits_onto k 10 false (n / 10) more) ≡ true)
    → solid (if done then digit_glyph false (n % 10) ∷ acc else digits_onto k 10 false (n / 10) (digit_glyph false (n % 10) ∷ acc)) ≡ true
last_solid k n acc true h others = and_from (nat_lt 32 (digit_glyph false (n % 10))) (solid acc) (glyph_solid (n % 10) (nat_lt (n % 10) 10)) h
last_solid k n acc false h others =
    others (digit_glyph false (n % 10) ∷ acc) (and_from (nat_lt 32 (digit_glyph false (n % 10))) (solid acc) (glyph_solid (n % 10) (nat_lt (n % 10) 10)) h)

onto_solid : (k n : ℕ) (acc : List ℕ) → solid acc ≡ true → solid (digits_onto k 10 false n acc) ≡ true
onto_solid zero n acc h = h
onto_solid (suc k) n acc h = last_solid k n acc (n / 10 == 0) h (λ more g. onto_solid k (n / 10) more g)

pub decimal_solid : (n : ℕ) → solid (decimal n) ≡ true
unfolding digits
decimal_solid n = onto_solid 64 n [] refl

glyph : (d : ℕ) → nat_lt 32 (glyph_of d) ≡ true
glyph d = glyph_solid d (nat_lt d 10)

pub hex8_solid : (n : ℕ) → solid (hex8 n) ≡ true
unfolding hex8
hex8_solid n =
    rw (glyph (n / 0x1000_0000), glyph (n / 0x100_0000 % 16), glyph (n / 0x10_0000 % 16), glyph (n / 0x1_0000 % 16), glyph (n / 0x1000 % 16), glyph (n / 0x100 % 16), glyph (n / 0x10 % 16), glyph (n % 16)) refl

pub drop_solid : (k : ℕ) (xs : List ℕ) → solid xs ≡ true → solid (drop k xs) ≡ true
drop_solid zero xs h = h
drop_solid (suc k) [] h = refl
drop_solid (suc k) (x ∷ xs) h = drop_solid k xs (and_parts (nat_lt 32 x) (solid xs) h).1

pub address_solid : (a : ℕ) → solid (address a) ≡ true
unfolding address
address_solid a = solid_append (codes "0x") (hex8 a) refl (hex8_solid a)

pub value_solid : (n : ℕ) → solid (value n) ≡ true
unfolding value
value_solid n = solid_append (codes "0x") (drop (leading n) (hex8 n)) refl (drop_solid (leading n) (hex8 n) (hex8_solid n))

-- Names.

byte_solid : (b : ℕ) → is_name_byte b ≡ true → nat_lt 32 b ≡ true
byte_solid b h = grind (arith, nat_tests)

pub name_solid : (name : List ℕ) → is_name name ≡ true → solid name ≡ true
name_solid name h =
    let front = (and_parts (nat_le (length name) 24 && begins_with_letter name && list_all is_name_byte name) (not (bytes_eq name (codes "rodata"))) h).0 in
    let bytes = (and_parts (nat_le (length name) 24 && begins_with_letter name) (list_all is_name_byte name) front).1 in
    all_more is_name_byte (λ b. nat_lt 32 b) byte_solid name bytes
