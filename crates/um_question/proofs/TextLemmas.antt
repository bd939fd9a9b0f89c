-- Texts of more words than a question has.
use Rattle.std.proofs.Common.{◌≡◌, ℕ, Bool, true, false, List, [], ◌∷◌, None, refl}
use Rattle.um_base.specs.declared.image.Image.{Image}
use Rattle.um_question.specs.Forms.{IsFirstWord, words}
use Rattle.um_question.specs.Text.{in_words}
use Rattle.um_question.proofs.FormLemmas.{some-words}

four-words : (image : Image) (first second third : List ℕ) (more : List (List ℕ)) → (more ≡ [] → ⊥) → None ≡ in_words image (first ∷ second ∷ third ∷ more)
four-words image first second third [] some = absurd (some refl)
four-words image first second third (word ∷ more) some = refl

-- a text with a word behind the third is no question in words
pub too-many : (image : Image) (text first behind second behind2 third behind3 : List ℕ) (a b d : Bool) → IsFirstWord text first behind a → IsFirstWord behind second behind2 b → IsFirstWord behind2 third behind3 d → a ≡ true → b ≡ true → d ≡ true
    → None ≡ in_words image (words text)
too-many image text first behind second behind2 third behind3 false b d f s t p q r = cc
too-many image text first behind second behind2 third behind3 true false d f s t p q r = cc
too-many image text first behind second behind2 third behind3 true true false f s t p q r = cc
too-many image text first behind second behind2 third behind3 true true true f s t p q r =
    rw (f.first, s.first, t.first) (four-words image first second third (words behind3) (some-words behind3))
