-- Operands that are written are read back.
use Rattle.std.proofs.Common.{◌≡◌, ℕ, zero, suc, ◌+◌, ◌-◌, ◌^◌, ◌<◌, ◌≤◌, Bool, true, false, not, ◌&&◌, ◌==◌, nat_lt, nat_le, List, [], ◌∷◌, ◌++◌, length, take, drop, codes, bytes_eq, Some, None, Ok, IsTrue, decimal, refl, ap, ◌∙◌, arith}
use Rattle.std.specs.Prelude.{position, option_map}
use Rattle.std.specs.List.{prefix_len, list_all}
use Rattle.std.proofs.lemmas.Bool.Decides.{nat_tests}
use Rattle.std.proofs.lemmas.Fmt.{decimal_digit, decimal_nonempty}
use Rattle.std.proofs.lemmas.List.{take_at, length-append}
use Rattle.std.proofs.lemmas.Slice.Eq.{bytes_eq-Decides}
use Rattle.um_base.specs.Lawful.{is_name, is_name_byte, is_register, is_size, is_within, begins_with_letter}
use Rattle.um_base.specs.declared.names.Ref.{Ref}
use Rattle.um_script.specs.Numbers.{is_digit, times, ticks}
use Rattle.um_script.specs.Operands.{cut, register, size, named}
use Rattle.um_script.specs.Words.{is_word_byte}
use Rattle.um_script.specs.Canonical.{named_text}
use Rattle.um_script.specs.Writable.{is_named, is_word32}
use Rattle.um_script.proofs.DigitsAgain.{and_true, list_all-weaker, decimal-spells, digits_again, number_again}
use Rattle.um_script.proofs.WordAgain.{IsWord}
use Rattle.um_vocabulary.specs.Words.{is_place_name}

-- ---- words

pub digit_in_word : (b : ℕ) → IsTrue (is_digit false b) → IsTrue (is_word_byte b)
digit_in_word b h = grind (arith, nat_tests)

pub name_in_word : (b : ℕ) → IsTrue (is_name_byte b) → IsTrue (is_word_byte b)
name_in_word b h = grind (arith, nat_tests)

pub IsWord-decimal : (n : ℕ) → n < 2 ^ 64 → IsWord (decimal n)
IsWord-decimal n lt = record {
  bytes = list_all-weaker (is_digit false) is_word_byte digit_in_word (decimal n) (decimal-spells n lt).digits_all;
  some = decimal_nonempty n lt;
}

pub IsWord-more : (b : ℕ) (t : List ℕ) → IsTrue (is_word_byte b) → IsTrue (list_all is_word_byte t) → IsWord (b ∷ t)
IsWord-more b t one all = record { bytes = rw (one, all) refl; some = omega arith }

pub word32-le : (n : ℕ) → IsTrue (is_word32 n) → n ≤ 2 ^ 32 - 1
word32-le n h = grind (arith, nat_tests)

-- ---- cuts

all_pass : (q : ℕ → Bool) (t : List ℕ) → IsTrue (list_all q t) → prefix_len q t ≡ length t
all_pass q [] h = refl
all_pass q (b ∷ t) h =
    let both = and_true (q b) (list_all q t) h in
    rw (both.0, all_pass q t both.1) (omega arith)

pass_until : (q : ℕ → Bool) (t u : List ℕ) (mark : ℕ) → IsTrue (list_all q t) → q mark ≡ false → prefix_len q (t ++ (mark ∷ u)) ≡ length t
pass_until q [] u mark h stops = rw stops refl
pass_until q (b ∷ t) u mark h stops =
    let both = and_true (q b) (list_all q t) h in
    rw (both.0, pass_until q t u mark both.1 stops) (omega arith)

drop_behind : (t u : List ℕ) (mark : ℕ) → drop (length t + 1) (t ++ (mark ∷ u)) ≡ u
drop_behind [] u mark = refl
drop_behind (b ∷ t) u mark =
    let e : suc (length t) + 1 ≡ suc (length t + 1) = omega arith in
    ap (λ (k : ℕ). drop k (b ∷ (t ++ (mark ∷ u)))) e ∙ drop_behind t u mark

pub cut_none : (mark : ℕ) (t : List ℕ) → IsTrue (list_all (λ b. not (b == mark)) t) → cut mark t ≡ None
cut_none mark t h =
    let e = all_pass (λ b. not (b == mark)) t h in
    let no : nat_lt (length t) (length t) ≡ false = grind (arith, nat_tests) in
    let none : position (λ b. b == mark) t ≡ None = rw (e, no) refl in
    ap (option_map (λ k. (take k t, drop (k + 1) t))) none

pub cut_some : (mark : ℕ) (t u : List ℕ) → IsTrue (list_all (λ b. not (b == mark)) t) → cut mark (t ++ (mark ∷ u)) ≡ Some (t, u)
cut_some mark t u h =
    let no : not (mark == mark) ≡ false = grind (arith, nat_tests) in
    let e = pass_until (λ b. not (b == mark)) t u mark h no in
    let long = length-append t (mark ∷ u) in
    let yes : nat_lt (length t) (length (t ++ (mark ∷ u))) ≡ true = grind (arith, nat_tests) in
    let some : position (λ b. b == mark) (t ++ (mark ∷ u)) ≡ Some (length t) = rw (e, yes) refl in
    let parted : cut mark (t ++ (mark ∷ u)) ≡ Some (take (length t) (t ++ (mark ∷ u)), drop (length t + 1) (t ++ (mark ∷ u))) = ap (option_map (λ k. (take k (t ++ (mark ∷ u)), drop (k + 1) (t ++ (mark ∷ u))))) some in
    parted ∙ ap (λ (x : List ℕ × List ℕ). Some x) (rw (take_at t (mark ∷ u) (length t) refl, drop_behind t u mark) refl)

-- ---- numbers and registers

pub times_again : (n : ℕ) → IsTrue (is_within 1 1000 n) → times (decimal n) ≡ Ok n
times_again n h =
    let both = and_true (nat_le 1 n) (nat_le n 1000) h in
    let le : n ≤ 2 ^ 32 - 1 = grind (arith, nat_tests) in
    rw (number_again n le, both.0, both.1) refl

pub ticks_again : (n : ℕ) → IsTrue (is_within 1 1000000 n) → ticks (decimal n) ≡ Ok n
ticks_again n h =
    let both = and_true (nat_le 1 n) (nat_le n 1000000) h in
    let le : n ≤ 1000000 = grind (arith, nat_tests) in
    rw (digits_again 7 1000000 n (omega arith) (omega arith) (omega arith) le, both.0, both.1) refl

eight : (r : ℕ) → IsTrue (is_register r) → register (114 ∷ (48 + r) ∷ []) ≡ Ok r
eight zero h = refl
eight (suc zero) h = refl
eight (suc (suc zero)) h = refl
eight (suc (suc (suc zero))) h = refl
eight (suc (suc (suc (suc zero)))) h = refl
eight (suc (suc (suc (suc (suc zero))))) h = refl
eight (suc (suc (suc (suc (suc (suc zero)))))) h = refl
eight (suc (suc (suc (suc (suc (suc (suc zero))))))) h = refl
eight (suc (suc (suc (suc (suc (suc (suc (suc r)))))))) h = absurd (grind (arith, nat_tests))

pub register_again : (r : ℕ) → IsTrue (is_register r) → register (114 ∷ decimal r) ≡ Ok r
register_again r h =
    let lt : r < 10 = grind (arith, nat_tests) in
    rw (decimal_digit r lt) (eight r h)

three : (n : ℕ) → IsTrue (is_size n) → size ((48 + n) ∷ []) ≡ Ok n
three zero h = absurd cc
three (suc zero) h = refl
three (suc (suc zero)) h = refl
three (suc (suc (suc zero))) h = absurd cc
three (suc (suc (suc (suc zero)))) h = refl
three (suc (suc (suc (suc (suc n))))) h = absurd (grind (arith, nat_tests))

pub size_again : (n : ℕ) → IsTrue (is_size n) → size (decimal n) ≡ Ok n
size_again n h =
    let lt : n < 10 = grind (arith, nat_tests) in
    rw (decimal_digit n lt) (three n h)

-- ---- names

pub name_bytes : (t : List ℕ) → IsTrue (is_name t) → IsTrue (list_all is_name_byte t)
name_bytes t h =
    let a = and_true (nat_le (length t) 24 && begins_with_letter t && list_all is_name_byte t) (not (bytes_eq t (codes "rodata"))) h in
    (and_true (nat_le (length t) 24 && begins_with_letter t) (list_all is_name_byte t) a.0).1

name_some : (t : List ℕ) → IsTrue (is_name t) → 0 < length t
name_some [] h = absurd cc
name_some (b ∷ t) h = omega arith

pub IsWord-name : (t : List ℕ) → IsTrue (is_name t) → IsWord t
IsWord-name t h = record { bytes = list_all-weaker is_name_byte is_word_byte name_in_word t (name_bytes t h); some = name_some t h }

pub place_name_bytes : (t : List ℕ) → IsTrue (is_place_name t) → IsTrue (list_all is_name_byte t)
place_name_bytes t h =
    elim (is_name t) as (λ v. is_name t ≡ v → IsTrue (list_all is_name_byte t)) [
      | true ↦ λ is. name_bytes t is
      | false ↦ λ is.
          let rodata : bytes_eq t (codes "rodata") ≡ true = rw is at h in
          let e : t ≡ codes "rodata" = (bytes_eq-Decides t (codes "rodata")).0 rodata in
          rw e refl
    ] refl

pub no_plus_name : (b : ℕ) → IsTrue (is_name_byte b) → IsTrue (not (b == 43))
no_plus_name b h = grind (arith, nat_tests)

pub no_slash_name : (b : ℕ) → IsTrue (is_name_byte b) → IsTrue (not (b == 47))
no_slash_name b h = grind (arith, nat_tests)

pub no_bracket_digit : (b : ℕ) → IsTrue (is_digit false b) → IsTrue (not (b == 41))
no_bracket_digit b h = grind (arith, nat_tests)

pub no_slash_digit : (b : ℕ) → IsTrue (is_digit false b) → IsTrue (not (b == 47))
no_slash_digit b h = grind (arith, nat_tests)

pub named_again : (r : Ref) → IsTrue (is_named r) → named (named_text r) ≡ Ok r
named_again (Ref.Named name) h = rw h refl
named_again (Ref.At index) h = absurd cc

pub IsWord-named : (r : Ref) → IsTrue (is_named r) → IsWord (named_text r)
IsWord-named (Ref.Named name) h = IsWord-name name h
IsWord-named (Ref.At index) h = absurd cc
