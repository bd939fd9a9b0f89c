-- A stack's values from the last on.
use Rattle.std.proofs.Common.{◌≡◌, List, [], ◌∷◌, ◌++◌, reverse}
use Rattle.std.proofs.lemmas.List.{reverse-append, reverse-reverse}

pub reverse-last : {A : Type 0} (xs : List A) (x : A) → reverse (xs ++ x ∷ []) ≡ x ∷ reverse xs
reverse-last xs x = reverse-append xs (x ∷ [])

pub reverse-twice : {A : Type 0} (xs : List A) → reverse (reverse xs) ≡ xs
reverse-twice xs = reverse-reverse xs

pub ruleset from_the_last = (reverse-last, reverse-twice)
