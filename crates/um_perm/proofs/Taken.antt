-- What the body that steps a row's word makes of a call is the call's step, and what it says is the call's answer.
use Rattle.std.proofs.Common.{◌≡◌, ℕ, Bool, true, false, not, refl, ap}
use Rattle.std.specs.Prelude.{◌==◌, ◌&&◌, ◌||◌, if◌then◌else◌}
use Rattle.um_base.specs.declared.act.Act.{Act}
use Rattle.um_base.specs.declared.act.Leftover.{Leftover}
use Rattle.um_base.specs.declared.names.ThreadIx.{ThreadIx}
use Rattle.um_words.specs.declared.fine.More.{More}
use Rattle.um_words.specs.declared.row_word.RowWord.{RowWord}
use Rattle.um_words.specs.declared.row_word.Stage.{Stage}
use Rattle.um_words.specs.RowActs.{drop_said, quiet, row_act_at, row_answers}
use Rattle.um_words.specs.Rows.{gone_stage, has, is_cleaning, is_last, left_of, permitted, row_says}
use Rattle.um_words.specs.ShownActs.{shown as shown_with}
use Rattle.um_site.specs.Calls.{shown}
use Rattle.um_perm.specs.declared.answer.Answer.{Answer}
use Rattle.um_perm.specs.declared.answer.Passed.{Passed}
use Rattle.um_perm.specs.declared.calls.RowCall.{RowCall}
use Rattle.um_perm.specs.Pairs.{answer_by, answer_of, asked_of, dropped_by, passed_of, passes, row_act, visit}

module _ (by : ThreadIx) (w : RowWord) where
  pub told : (call : RowCall) → row_act_at w (asked_of by call) ≡ row_act by call w
  told (RowCall.Inherit child addr) = at (passes w by.0 child.0)
    where
      at : (b : Bool) → row_says w (if b then shown_with by (Act.Inherit child addr) More.Nothing else visit) ≡ (if b then shown by (Act.Inherit child addr) else visit)
      at true = refl
      at false = refl
  told (RowCall.Drop who true addr) = at (has w who.0)
    where
      at : (b : Bool) → shown by (Act.DropPair who addr (left_of w who.0)) ≡ (if b || true then shown by (Act.DropPair who addr (left_of w who.0)) else visit)
      at true = refl
      at false = refl
  told (RowCall.Drop who false addr) = at (has w who.0)
    where
      at : (b : Bool) → row_says w (if b then shown_with by (Act.DropPair who addr Leftover.NoPair) More.Nothing else visit)
          ≡ (if b || false then shown by (Act.DropPair who addr (left_of w who.0)) else visit)
      at true = refl
      at false = refl
  told call = refl

  -- what a drop says

  abbrev left_by : Bool → Bool → Leftover
  left_by there last = if not there then Leftover.NoPair else if last then Leftover.Gone else Leftover.Kept

  abbrev after : ℕ → Bool → RowWord
  after who gone = if gone then record (permitted w who false) { stage = gone_stage w } else permitted w who false

  at-once : (none : Bool) → is_cleaning (if none then Stage.Cleaning else Stage.Dying) ≡ none
  at-once true = refl
  at-once false = refl

  drops : (who : ℕ) (there last : Bool) → let said = drop_said (left_by there last) (after who (last && there)) in
      dropped_by said.left said.cleans ≡ dropped_by (left_by there last) (w.claims == 0)
  drops who true true = ap (dropped_by Leftover.Gone) (at-once (w.claims == 0))
  drops who true false = refl
  drops who false true = refl
  drops who false false = refl

  sweeps : (who : ℕ) (there last : Bool) → let said = (if there then drop_said (left_by there last) (after who (last && there)) else record quiet { visits = true }) in
      dropped_by said.left said.cleans ≡ dropped_by (left_by there last) (w.claims == 0)
  sweeps who true last = drops who true last
  sweeps who false last = refl

  pub answers : (call : RowCall) → answer_by call (row_answers w (asked_of by call)) ≡ answer_of by call w
  answers (RowCall.Inherit child addr) = at (passes w by.0 child.0)
    where
      at : (b : Bool) → Answer.Passed (if not b then Passed.Nothing else Passed.Pair) ≡ Answer.Passed (passed_of b)
      at true = refl
      at false = refl
  answers (RowCall.Drop who true addr) = ap Answer.Dropped (drops who.0 (has w who.0) (is_last w who.0))
  answers (RowCall.Drop who false addr) = ap Answer.Dropped (sweeps who.0 (has w who.0) (is_last w who.0))
  answers call = refl
