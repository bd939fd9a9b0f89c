-- Sublists and runs, when one more step is appended.
use Rattle.std.proofs.Common.{◌≡◌, List, [], ◌∷◌, ◌++◌, refl}
use Rattle.um_fine.specs.Runs.{Run, ends}
pub use Rattle.um_words.specs.Sublists.{sub-append, sub_yes, sub_no}

module _ {X S : Type 0} (lawful : S → X → Type 0) (next : S → X → S) where
  pub ends-append : (s : S) (xs ys : List X) → ends next s (xs ++ ys) ≡ ends next (ends next s xs) ys
  ends-append s [] ys = refl
  ends-append s (x ∷ xs) ys = ends-append (next s x) xs ys

  pub Run-append : (s : S) (xs ys : List X) → Run lawful next s xs → Run lawful next (ends next s xs) ys → Run lawful next s (xs ++ ys)
  Run-append s [] ys r q = q
  Run-append s (x ∷ xs) ys r q = (r.0, Run-append (next s x) xs ys r.1 q)

  pub Run-parts : (s : S) (xs ys : List X) → Run lawful next s (xs ++ ys) → Run lawful next s xs × Run lawful next (ends next s xs) ys
  Run-parts s [] ys r = (tt, r)
  Run-parts s (x ∷ xs) ys r = let q = Run-parts (next s x) xs ys r.1 in ((r.0, q.0), q.1)
