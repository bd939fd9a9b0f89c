-- The words behind spaces, and behind a word.
use Rattle.std.proofs.Common.{◌≡◌, ℕ, suc, ◌+◌, true, false, List, [], ◌∷◌, length, take, drop, refl, sym, ap, ◌∙◌, arith, add-zero}
use Rattle.std.specs.List.{prefix_len}
use Rattle.um_script.specs.Words.{Words, ends, word, words_from, is_space, is_word_byte}

-- the words behind this many bytes
abbrev behind : ℕ → List ℕ → ℕ → Words
behind column bs k = words_from false (column + k) (drop k bs)

behind-none : (column : ℕ) (bs : List ℕ) (k : ℕ) → k ≡ 0 → behind column bs k ≡ words_from false column bs
behind-none column bs k none = ap (behind column bs) none ∙ ap (λ (c : ℕ). words_from false c bs) (add-zero column)

behind-more : (column b : ℕ) (bs : List ℕ) (k n : ℕ) → n ≡ 1 + k → behind column (b ∷ bs) n ≡ behind (column + 1) bs k
behind-more column b bs k n more =
    let e : n ≡ suc k = omega arith in
    let c : column + suc k ≡ column + 1 + k = omega arith in
    ap (behind column (b ∷ bs)) e ∙ ap (λ (x : ℕ). words_from false x (drop k bs)) c

-- spaces before the words only move them
pub words_from-spaces : (column : ℕ) (bs : List ℕ) → words_from false column bs ≡ words_from false (column + prefix_len is_space bs) (drop (prefix_len is_space bs) bs)
words_from-spaces column [] = rw add-zero refl
words_from-spaces column (b ∷ bs) =
    elim (is_space b) as (λ t. is_space b ≡ t → words_from false column (b ∷ bs) ≡ behind column (b ∷ bs) (prefix_len is_space (b ∷ bs))) [
      | true ↦ λ is.
          let moved : words_from false column (b ∷ bs) ≡ words_from false (column + 1) bs = rw is refl in
          moved ∙ words_from-spaces (column + 1) bs ∙ sym (behind-more column b bs (prefix_len is_space bs) _ (rw is refl))
      | false ↦ λ is. sym (behind-none column (b ∷ bs) _ (rw is refl))
    ] refl

-- behind a word the words begin anew
pub words_from-inside : (column : ℕ) (bs : List ℕ) → words_from true column bs ≡ words_from false (column + prefix_len is_word_byte bs) (drop (prefix_len is_word_byte bs) bs)
words_from-inside column [] = rw add-zero refl
words_from-inside column (b ∷ bs) =
    elim (is_space b) as (λ t. is_space b ≡ t → words_from true column (b ∷ bs) ≡ behind column (b ∷ bs) (prefix_len is_word_byte (b ∷ bs))) [
      | true ↦ λ is.
          let same : words_from true column (b ∷ bs) ≡ words_from false column (b ∷ bs) = rw is refl in
          same ∙ sym (behind-none column (b ∷ bs) _ (rw is refl))
      | false ↦ λ is.
          let moved : words_from true column (b ∷ bs) ≡ words_from true (column + 1) bs = rw is refl in
          moved ∙ words_from-inside (column + 1) bs ∙ sym (behind-more column b bs (prefix_len is_word_byte bs) _ (rw is refl))
    ] refl

-- where neither a space nor a word stands, the line ends
pub no_word : (column : ℕ) (bs : List ℕ) → prefix_len is_space bs ≡ 0 → prefix_len is_word_byte bs ≡ 0 → words_from false column bs ≡ ends (column + length bs)
no_word column [] no_space none = rw add-zero refl
no_word column (b ∷ bs) no_space none =
    elim (is_space b) as (λ t. is_space b ≡ t → words_from false column (b ∷ bs) ≡ ends (column + length (b ∷ bs))) [
      | true ↦ λ is. let h = rw is at no_space in absurd (omega arith)
      | false ↦ λ is. let h = rw is at none in absurd (omega arith)
    ] refl

-- a word, and the words behind it
pub one_word : (column : ℕ) (bs : List ℕ) → prefix_len is_space bs ≡ 0 → (prefix_len is_word_byte bs ≡ 0 → ⊥)
    → words_from false column bs ≡ word (take (prefix_len is_word_byte bs) bs) column (words_from false (column + prefix_len is_word_byte bs) (drop (prefix_len is_word_byte bs) bs))
one_word column [] no_space some = absurd (some refl)
one_word column (b ∷ bs) no_space some =
    elim (is_space b) as (λ t. is_space b ≡ t → words_from false column (b ∷ bs) ≡ word (take (prefix_len is_word_byte (b ∷ bs)) (b ∷ bs)) column (behind column (b ∷ bs) (prefix_len is_word_byte (b ∷ bs)))) [
      | true ↦ λ is. let h = rw is at no_space in absurd (omega arith)
      | false ↦ λ is.
          let here : words_from false column (b ∷ bs) ≡ word (take (prefix_len is_word_byte (b ∷ bs)) (b ∷ bs)) column (words_from true (column + 1) bs) = rw is refl in
          here ∙ ap (word (take (prefix_len is_word_byte (b ∷ bs)) (b ∷ bs)) column) (words_from-inside (column + 1) bs ∙ sym (behind-more column b bs (prefix_len is_word_byte bs) _ (rw is refl)))
    ] refl

-- no space stands behind the leading spaces
pub no_more_spaces : (bs : List ℕ) → prefix_len is_space (drop (prefix_len is_space bs) bs) ≡ 0
no_more_spaces [] = refl
no_more_spaces (b ∷ bs) =
    elim (is_space b) as (λ t. is_space b ≡ t → prefix_len is_space (drop (prefix_len is_space (b ∷ bs)) (b ∷ bs)) ≡ 0) [
      | true ↦ λ is.
          let more : prefix_len is_space (b ∷ bs) ≡ 1 + prefix_len is_space bs = rw is refl in
          let e : prefix_len is_space (b ∷ bs) ≡ suc (prefix_len is_space bs) = omega (arith, more) in
          ap (λ (k : ℕ). prefix_len is_space (drop k (b ∷ bs))) e ∙ no_more_spaces bs
      | false ↦ λ is.
          let none : prefix_len is_space (b ∷ bs) ≡ 0 = rw is refl in
          ap (λ (k : ℕ). prefix_len is_space (drop k (b ∷ bs))) none ∙ none
    ] refl

-- the words of bytes, from behind their leading spaces on
pub from_place : (column place spaces : ℕ) (bs rest : List ℕ) → spaces ≡ prefix_len is_space bs → place ≡ column + spaces → rest ≡ drop spaces bs
    → (words_from false column bs ≡ words_from false place rest) × (prefix_len is_space rest ≡ 0)
from_place column place spaces bs rest counted moved left =
    let start : drop spaces bs ≡ drop (prefix_len is_space bs) bs = ap (λ (k : ℕ). drop k bs) counted in
    let at : place ≡ column + prefix_len is_space bs = moved ∙ ap (λ (k : ℕ). column + k) counted in
    rw (at, left, start) (words_from-spaces column bs, no_more_spaces bs)

-- as `next` finds the end, and a word
pub at_end : (place count : ℕ) (rest : List ℕ) → prefix_len is_space rest ≡ 0 → count ≡ prefix_len is_word_byte rest → count ≡ 0 → words_from false place rest ≡ ends (place + length rest)
at_end place count rest no_space counted none = no_word place rest no_space (sym counted ∙ none)

pub at_word : (place count place_behind : ℕ) (rest rest_behind : List ℕ) → prefix_len is_space rest ≡ 0 → count ≡ prefix_len is_word_byte rest → (count ≡ 0 → ⊥)
    → place_behind ≡ place + count → rest_behind ≡ drop count rest → words_from false place rest ≡ word (take count rest) place (words_from false place_behind rest_behind)
at_word place count place_behind rest rest_behind no_space counted some moved left =
    rw (moved, left, counted) (one_word place rest no_space (λ none. some (counted ∙ none)))
