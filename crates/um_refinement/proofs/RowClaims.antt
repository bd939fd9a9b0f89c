-- The word of a row counts the claims that are taken of it, and those that end.
use Rattle.um_refinement.proofs.Words.{◌≡◌, ℕ, ◌+◌, Bool, true, false, Some, None, refl, arith, ◌&&◌, if◌then◌else◌, Act, Addr, RowWord, gone_stage, has, is_last, is_live, permitted, row_after_act}

-- the claims that an event takes of a row
abbrev pub won : RowWord → Act → ℕ
won w (Act.Check a kind want verdict) = elim verdict as (λ _. ℕ) [ None ↦ 1 | Some e ↦ 0 ]
won w (Act.Own who given) = 1
won w act = 0

pub given-claims : (w : RowWord) (who : ℕ) (b : Bool) → (if b then permitted w who true else w).claims ≡ w.claims
given-claims w who true = refl
given-claims w who false = refl

pub dropped-claims : (w : RowWord) (who : ℕ) (b : Bool) → (if b then record (permitted w who false) { stage = gone_stage w } else permitted w who false).claims ≡ w.claims
dropped-claims w who true = refl
dropped-claims w who false = refl

same-row : (w : RowWord) (n : ℕ) → n ≡ w.claims → n ≡ w.claims + 0
same-row w n h = omega arith

pub row-claims : (w : RowWord) (t : ℕ) (act : Act) → ((a : Addr) → act ≡ Act.Born a → ⊥) → (row_after_act w t act).claims ≡ w.claims + won w act
row-claims w t (Act.Check a kind want None) h = refl
row-claims w t (Act.Check a kind want (Some e)) h = omega arith
row-claims w t (Act.Grant who a given) h = same-row w _ (given-claims w who.0 (is_live w.stage))
row-claims w t (Act.Own who given) h = let k = given-claims w who.0 (is_live w.stage) in omega arith
row-claims w t (Act.DropPair who a left) h = same-row w _ (dropped-claims w who.0 (is_last w who.0 && has w who.0))
row-claims w t (Act.Born a) h = absurd (h a refl)
row-claims w t act h = same-row w _ refl
