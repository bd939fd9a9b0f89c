-- A word that is written behind a space is read back.
use Rattle.std.proofs.Common.{◌≡◌, ℕ, ◌+◌, ◌<◌, true, false, List, [], ◌∷◌, ◌++◌, length, take, drop, Result, Ok, IsTrue, refl, sym, ◌∙◌, arith}
use Rattle.std.specs.List.{prefix_len, list_all}
use Rattle.std.proofs.lemmas.List.{take_at, drop_at}
use Rattle.um_script.specs.declared.fault.LineKind.{LineKind}
use Rattle.um_script.specs.Operands.{one}
use Rattle.um_script.specs.Words.{word, words_from, is_space, is_word_byte}
use Rattle.um_script.proofs.DigitsAgain.{and_true}
use Rattle.um_script.proofs.WordLemmas.{one_word}

-- a text that is one word
pub record IsWord (t : List ℕ) : Type 0 where
  pub bytes : IsTrue (list_all is_word_byte t)
  pub some : 0 < length t

-- no word goes on here
abbrev pub IsFree : List ℕ → Type 0
IsFree rest = prefix_len is_word_byte rest ≡ 0

whole_word : (t rest : List ℕ) → IsTrue (list_all is_word_byte t) → IsFree rest → prefix_len is_word_byte (t ++ rest) ≡ length t
whole_word [] rest h free = free
whole_word (b ∷ t) rest h free =
    let both = and_true (is_word_byte b) (list_all is_word_byte t) h in
    rw (both.0, whole_word t rest both.1 free) (omega arith)

no_space_first : (t rest : List ℕ) → IsWord t → prefix_len is_space (t ++ rest) ≡ 0
no_space_first [] rest w = absurd (omega (arith, w.some))
no_space_first (b ∷ t) rest w =
    let both = and_true (is_word_byte b) (list_all is_word_byte t) w.bytes in
    elim (is_space b) as (λ s. is_space b ≡ s → prefix_len is_space (b ∷ (t ++ rest)) ≡ 0) [
      | true ↦ λ is. let h = rw is at both.0 in absurd cc
      | false ↦ λ is. rw is refl
    ] refl

pub word_again : (column : ℕ) (t rest : List ℕ) → IsWord t → IsFree rest → words_from false column (t ++ rest) ≡ word t column (words_from false (column + length t) rest)
word_again column t rest w free =
    let len = whole_word t rest w.bytes free in
    let some : prefix_len is_word_byte (t ++ rest) ≡ 0 → ⊥ = λ none. let e : length t ≡ 0 = sym len ∙ none in omega (arith, e, w.some) in
    let read = one_word column (t ++ rest) (no_space_first t rest w) some in
    let at : (k : ℕ) → k ≡ length t → word (take k (t ++ rest)) column (words_from false (column + k) (drop k (t ++ rest))) ≡ word t column (words_from false (column + length t) rest)
    = λ k e. rw (e, take_at t rest (length t) refl, drop_at t rest (length t) refl) refl in
    read ∙ at _ len

-- an operand of one word, behind a space
pub one_again : {A : Type 0} (read : List ℕ → Result A LineKind) (t rest : List ℕ) (x : A) (column : ℕ) → IsWord t → read t ≡ Ok x → IsFree rest
    → one read (words_from false column ((32 ∷ t) ++ rest)) ≡ Ok (x, words_from false (column + 1 + length t) rest)
unfolding one
one_again read t rest x column w is free =
    rw (word_again (column + 1) t rest w free, is) refl
