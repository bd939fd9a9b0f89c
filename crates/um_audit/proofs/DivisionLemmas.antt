-- The parts of an input, found piece by piece.
use Rattle.std.proofs.Common.{◌≡◌, ℕ, ◌+◌, ◌-◌, true, false, List, [], ◌∷◌, ◌++◌, length, take, refl, sym, ap, ◌∙◌, arith, append_assoc, length-append, Some, None}
use Rattle.std.specs.Prelude.{flat_map}
use Rattle.std.proofs.lemmas.List.{append-nil}
use Rattle.um_audit.specs.Lines.{pieces}
use Rattle.um_audit.specs.Parts.{is_between, before_line, behind_line, description_part, trace_part, IsBehind}
use Rattle.um_audit.proofs.LineLemmas.{pieces-joined}
use Rattle.um_audit.proofs.AlikeLemmas.{pieces-none}

before_here : (p : List ℕ) (ps : List (List ℕ)) → is_between p ≡ true → before_line (p ∷ ps) ≡ []
unfolding before_line
before_here p ps e = rw e refl

before_on : (p : List ℕ) (ps : List (List ℕ)) → is_between p ≡ false → before_line (p ∷ ps) ≡ p ++ before_line ps
unfolding before_line
before_on p ps e = rw e refl

before_none : before_line [] ≡ []
unfolding before_line
before_none = refl

behind_here : (p : List ℕ) (ps : List (List ℕ)) → is_between p ≡ true → behind_line (p ∷ ps) ≡ Some (flat_map (λ q. q) ps)
unfolding behind_line
behind_here p ps e = rw e refl

behind_on : (p : List ℕ) (ps : List (List ℕ)) → is_between p ≡ false → behind_line (p ∷ ps) ≡ behind_line ps
unfolding behind_line
behind_on p ps e = rw e refl

behind_none : behind_line [] ≡ None
unfolding behind_line
behind_none = refl

-- a text that isn't empty is its first piece and what follows that
text_of : (rest behind p : List ℕ) → pieces rest ≡ p ∷ pieces behind → rest ≡ p ++ behind
text_of rest behind p cut =
    sym (pieces-joined rest) ∙ ap (flat_map (λ (q : List ℕ). q)) cut ∙ ap (λ (bytes : List ℕ). p ++ bytes) (pieces-joined behind)

pub behind-more : (input rest behind p : List ℕ) → IsBehind input rest → pieces rest ≡ p ∷ pieces behind → is_between p ≡ false → IsBehind input behind
behind-more input rest behind p is cut plain =
    record {
      front = is.front ++ p;
      whole = is.whole ∙ ap (λ (bytes : List ℕ). is.front ++ bytes) (text_of rest behind p cut) ∙ sym (append_assoc is.front p behind);
      before =
          is.before ∙ ap (λ (bytes : List ℕ). is.front ++ bytes) (ap before_line cut ∙ before_on p (pieces behind) plain)
          ∙ sym (append_assoc is.front p (description_part behind));
      behind = is.behind ∙ ap behind_line cut ∙ behind_on p (pieces behind) plain;
    }

take_front : (xs ys : List ℕ) → take (length xs) (xs ++ ys) ≡ xs
take_front [] ys = refl
take_front (x ∷ xs) ys = ap (λ (zs : List ℕ). x ∷ zs) (take_front xs ys)

front_length : (input front rest : List ℕ) → input ≡ front ++ rest → length input - length rest ≡ length front
front_length input front rest e =
    let all : length input ≡ length front + length rest = ap length e ∙ length-append front rest in omega (arith, all)

pub at-line : (input rest behind p : List ℕ) → IsBehind input rest → pieces rest ≡ p ∷ pieces behind → is_between p ≡ true
    → (take (length input - length rest) input ≡ description_part input) × (trace_part input ≡ Some behind)
at-line input rest behind p is cut there = (
  ap (λ (n : ℕ). take n input) (front_length input is.front rest is.whole) ∙ ap (take (length is.front)) is.whole ∙ take_front is.front rest
      ∙ sym (append-nil is.front) ∙ ap (λ (bytes : List ℕ). is.front ++ bytes) (sym (before_here p (pieces behind) there) ∙ ap before_line (sym cut)) ∙ sym is.before,
  is.behind ∙ ap behind_line cut ∙ behind_here p (pieces behind) there ∙ ap Some (pieces-joined behind),
)

pub at-end : (input rest : List ℕ) → IsBehind input rest → length rest ≡ 0 → (input ≡ description_part input) × (trace_part input ≡ None)
at-end input rest is none =
    let nothing : rest ≡ [] = empty rest none in (
      is.whole ∙ ap (λ (bytes : List ℕ). is.front ++ bytes) (nothing ∙ sym before_none ∙ ap before_line (sym (pieces-none rest none))) ∙ sym is.before,
      is.behind ∙ ap behind_line (pieces-none rest none) ∙ behind_none,
    )
  where
    empty : (xs : List ℕ) → length xs ≡ 0 → xs ≡ []
    empty [] e = refl
    empty (x ∷ xs) e = absurd (omega (arith, e))
