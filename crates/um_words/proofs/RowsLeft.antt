-- A step of a row keeps its number, and what it leaves of a word that was read fits its bits.
use Rattle.std.proofs.Common.{◌≡◌, ℕ, ◌<◌, ◌%◌, ◌&&◌, Bool, true, false, length, None, Some, refl, sym, ap, ◌∙◌, subst, arith, if◌then◌else◌}
use Rattle.um_base.specs.declared.act.Act.{Act}
use Rattle.um_words.specs.declared.fine.FineAct.{FineAct}
use Rattle.um_words.specs.declared.fine.Unseen.{Unseen}
use Rattle.um_words.specs.declared.row_word.RowWord.{RowWord}
use Rattle.um_words.specs.BitLists.{length-bits}
use Rattle.um_words.specs.Packed.{FitsRow, row_of}
use Rattle.um_words.specs.RowFacts.{row-fits}
use Rattle.um_words.specs.Rows.{RowMay, gone_stage, has, is_last, is_live, permitted, row_after, row_after_act}

module _ (w : RowWord) where
  given-number : (who : ℕ) (live : Bool) → (if live then permitted w who true else w).number ≡ w.number
  given-number who true = refl
  given-number who false = refl

  dropped-number : (who : ℕ) (gone : Bool) → (if gone then record (permitted w who false) { stage = gone_stage w } else permitted w who false).number ≡ w.number
  dropped-number who true = refl
  dropped-number who false = refl

  act-number : (t : ℕ) (act : Act) → (row_after_act w t act).number ≡ w.number
  act-number t (Act.Check a kind want None) = refl
  act-number t (Act.Check a kind want (Some e)) = refl
  act-number t (Act.Grant who a given) = given-number who.0 (is_live w.stage)
  act-number t (Act.Own who given) = given-number who.0 (is_live w.stage)
  act-number t (Act.DropPair who a left) = dropped-number who.0 (is_last w who.0 && has w who.0)
  act-number t act = refl

  pub row-number-kept : (act : FineAct) → (row_after w act).number ≡ w.number
  row-number-kept (FineAct.Shown event more) = act-number event.thread.0 event.act
  row-number-kept (FineAct.Unseen Unseen.EndCall) = refl
  row-number-kept (FineAct.Unseen Unseen.Vacate) = refl
  row-number-kept (FineAct.Unseen unseen) = refl

pub row-left-fits : (seen : ℕ) (r z : RowWord) (act : FineAct) → r ≡ row_of seen → RowMay r act z → FitsRow z
row-left-fits seen r z act is m =
    let long : length r.permissions ≡ 32 = ap (λ (q : RowWord). length q.permissions) is ∙ length-bits 32 (seen % 4294967296) in
    let claims : r.claims < 128 = subst (λ (q : RowWord). q.claims < 128) (sym is) (omega arith) in
    subst FitsRow (sym m.leaves) (row-fits r long claims m.room act m.takes)
