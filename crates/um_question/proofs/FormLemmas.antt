-- The words of lines.
use Rattle.std.proofs.Common.{◌≡◌, ◌≢◌, ℕ, zero, suc, ◌+◌, ◌<◌, ◌≤◌, Bool, true, false, List, [], ◌∷◌, length, take, drop, refl, sym, ap, ◌∙◌, add-one, arith, get_or, if◌then◌else◌}
use Rattle.std.specs.Prelude.{◌==◌, not}
use Rattle.std.proofs.lemmas.Bool.Decides.{nat_tests}
use Rattle.um_question.specs.Forms.{IsFirstWord, are_words, fits, is_word, led, words}

-- a byte that is neither a space nor a newline
abbrev pub IsPlain : ℕ → Type 0
IsPlain b = (b ≢ 10) × (b ≢ 32)

words_led : (b : ℕ) (bytes : List ℕ) → IsPlain b → words (b ∷ bytes) ≡ led b (words bytes)
unfolding words
words_led b bytes (nl, sp) = let first : (b == 10) ≡ false = grind (arith, nat_tests) in let second : (b == 32) ≡ false = grind (arith, nat_tests) in rw (first, second) refl

-- the first word goes up to the first space or newline, at this place
pub word-ends : (line : List ℕ) (i : ℕ) (more : List (List ℕ)) → ((k : ℕ) → k < i → IsPlain (get_or line k 0)) → i ≤ length line → words (drop i line) ≡ [] ∷ more → words line ≡ take i line ∷ more
word-ends line zero more plain within here = here
word-ends [] (suc i) more plain within here = absurd (omega arith)
word-ends (b ∷ bytes) (suc i) more plain within here =
    let rest = word-ends bytes i more (λ k h. plain (suc k) (omega arith)) (omega arith) here in
    words_led b bytes (plain 0 (omega arith)) ∙ ap (led b) rest

space_is : (bytes : List ℕ) → words (32 ∷ bytes) ≡ [] ∷ words bytes
unfolding words
space_is bytes = refl

newline_is : (bytes : List ℕ) → words (10 ∷ bytes) ≡ [] ∷ []
unfolding words
newline_is bytes = refl

nothing_is : words [] ≡ [] ∷ []
unfolding words
nothing_is = refl

drop-at : (line : List ℕ) (i : ℕ) → i < length line → drop i line ≡ get_or line i 0 ∷ drop (suc i) line
drop-at [] i h = absurd (omega arith)
drop-at (b ∷ bytes) zero h = refl
drop-at (b ∷ bytes) (suc i) h = drop-at bytes i (omega arith)

drop-all : (line : List ℕ) → drop (length line) line ≡ []
drop-all [] = refl
drop-all (b ∷ bytes) = drop-all bytes

take-all : (line : List ℕ) → take (length line) line ≡ line
take-all [] = refl
take-all (b ∷ bytes) = ap (λ (l : List ℕ). b ∷ l) (take-all bytes)

pub at-space : (line word rest : List ℕ) (i : ℕ) → ((k : ℕ) → k < i → IsPlain (get_or line k 0)) → i < length line → get_or line i 0 ≡ 32 → word ≡ take i line → rest ≡ drop (i + 1) line → length rest < length line
    → IsFirstWord line word rest true
at-space line word rest i plain within here is behind less =
    record {
      first =
          word-ends line i (words rest) plain (omega (arith, within)) (ap words (drop-at line i within ∙ ap (λ (b : ℕ). b ∷ drop (suc i) line) here ∙ ap (λ (l : List ℕ). 32 ∷ l) (sym (behind ∙ ap (λ (n : ℕ). drop n line) (add-one i)))) ∙ space_is rest)
          ∙ ap (λ (w : List ℕ). w ∷ words rest) (sym is);
      shorter = λ _. less;
    }

pub at-newline : (line word rest : List ℕ) (i : ℕ) → ((k : ℕ) → k < i → IsPlain (get_or line k 0)) → i < length line → get_or line i 0 ≡ 10 → word ≡ take i line → IsFirstWord line word rest false
at-newline line word rest i plain within here is =
    record {
      first =
          word-ends line i [] plain (omega (arith, within)) (ap words (drop-at line i within ∙ ap (λ (b : ℕ). b ∷ drop (suc i) line) here) ∙ newline_is (drop (suc i) line))
          ∙ ap (λ (w : List ℕ). w ∷ []) (sym is);
      shorter = λ h. cc;
    }

pub at-end : (line rest : List ℕ) (i : ℕ) → ((k : ℕ) → k < i → IsPlain (get_or line k 0)) → length line ≤ i → IsFirstWord line line rest false
at-end line rest i plain past =
    record {
      first =
          word-ends line (length line) [] (λ k h. plain k (omega (arith, h, past))) (omega arith) (ap words (drop-all line) ∙ nothing_is)
          ∙ ap (λ (w : List ℕ). w ∷ []) (take-all line);
      shorter = λ h. cc;
    }

-- One word more.

pub fits-more : (form line word first forms rest : List ℕ) → IsFirstWord form first forms true → IsFirstWord line word rest true → is_word first word ≡ true → fits form line ≡ fits forms rest
fits-more form line word first forms rest f l is = rw (f.first, l.first, is) refl

pub fits-last : (form line word first forms rest : List ℕ) → IsFirstWord form first forms false → IsFirstWord line word rest false → is_word first word ≡ true → fits form line ≡ true
fits-last form line word first forms rest f l is = rw (f.first, l.first, is) refl

pub fits-not : (form line word first forms rest : List ℕ) (a b : Bool) → IsFirstWord form first forms a → IsFirstWord line word rest b → is_word first word ≡ false → fits form line ≡ false
fits-not form line word first forms rest a b f l is = rw (f.first, l.first, is) refl

pub some-words : (line : List ℕ) → words line ≡ [] → ⊥
unfolding words
some-words [] h = cc
some-words (b ∷ bytes) h = by (b == 10) (b == 32) h
  where
    led-some : (ws : List (List ℕ)) → led b ws ≡ [] → ⊥
    led-some [] e = cc
    led-some (w ∷ ws) e = cc

    by : (p q : Bool) → (if p then [] ∷ [] else if q then [] ∷ words bytes else led b (words bytes)) ≡ [] → ⊥
    by true q e = cc
    by false true e = cc
    by false false e = led-some (words bytes) e

unlike : (ws vs : List (List ℕ)) → (ws ≡ [] → ⊥) → are_words ws [] ≡ false
unlike [] vs some = absurd (some refl)
unlike (w ∷ ws) vs some = refl

alike : (vs : List (List ℕ)) → (vs ≡ [] → ⊥) → are_words [] vs ≡ false
alike [] some = absurd (some refl)
alike (v ∷ vs) some = refl

pub fits-longer : (form line word first forms rest : List ℕ) → IsFirstWord form first forms true → IsFirstWord line word rest false → is_word first word ≡ true → fits form line ≡ false
fits-longer form line word first forms rest f l is = rw (f.first, l.first, is) (unlike (words forms) [] (some-words forms))

pub fits-shorter : (form line word first forms rest : List ℕ) → IsFirstWord form first forms false → IsFirstWord line word rest true → is_word first word ≡ true → fits form line ≡ false
fits-shorter form line word first forms rest f l is = rw (f.first, l.first, is) (alike (words rest) (some-words rest))

-- where the line has no word more
pub fits-ends : (form line word first forms rest : List ℕ) (a b : Bool) → IsFirstWord form first forms a → IsFirstWord line word rest b → is_word first word ≡ true → b ≡ false → fits form line ≡ not a
fits-ends form line word first forms rest a true f l is e = cc
fits-ends form line word first forms rest true false f l is e = fits-longer form line word first forms rest f l is
fits-ends form line word first forms rest false false f l is e = fits-last form line word first forms rest f l is

-- where the form has none
pub fits-lacks : (form line word first forms rest : List ℕ) (a b : Bool) → IsFirstWord form first forms a → IsFirstWord line word rest b → is_word first word ≡ true → b ≡ true → a ≡ false → fits form line ≡ false
fits-lacks form line word first forms rest true b f l is e g = cc
fits-lacks form line word first forms rest false false f l is e g = cc
fits-lacks form line word first forms rest false true f l is e g = fits-shorter form line word first forms rest f l is

pub fits-goes : (form line word first forms rest : List ℕ) (a b : Bool) → IsFirstWord form first forms a → IsFirstWord line word rest b → is_word first word ≡ true → b ≡ true → a ≡ true → fits form line ≡ fits forms rest
fits-goes form line word first forms rest false b f l is e g = cc
fits-goes form line word first forms rest true false f l is e g = cc
fits-goes form line word first forms rest true true f l is e g = fits-more form line word first forms rest f l is
