-- What each step of a row's word keeps.
use Rattle.std.proofs.Common.{◌≡◌, ℕ, ◌+◌, ◌<◌, ◌/◌, ◌%◌, Bool, true, false, not, length, Some, None, refl, ap, ◌∙◌, arith}
use Rattle.std.specs.Prelude.{◌&&◌, nat_lt, if◌then◌else◌, IsTrue}
use Rattle.std.proofs.lemmas.Bool.Decides.{nat_tests}
use Rattle.std.proofs.lemmas.List.{length-set}
use Rattle.um_base.specs.declared.act.Act.{Act}
use Rattle.um_words.specs.declared.fine.FineAct.{FineAct}
use Rattle.um_words.specs.declared.fine.Unseen.{Unseen}
use Rattle.um_words.specs.declared.row_word.RowWord.{RowWord}
use Rattle.um_words.specs.Bits.{bit, number_of}
use Rattle.um_words.specs.BitLists.{length-bits, number-small}
use Rattle.um_words.specs.Packed.{FitsRow, packed_row, row_of, stage_code}
use Rattle.um_words.specs.Inverse.{row-digits, bit-small, stage-small}
use Rattle.um_words.specs.Rows.{is_live, is_free, is_cleaning, has, permitted, vacated, is_last, gone_stage, given_to, claimed, dropped, row_takes_act, row_takes_unseen, row_takes, row_after_act, row_after_unseen, row_after, counted_row}
use Rattle.um_words.specs.Steps.{RowStep}

below : (a : ℕ) (b c : Bool) → IsTrue (nat_lt a 127 && b && c) → a < 127
below a b c h = grind (arith, nat_tests)

-- a row that was changed but for its number, and still fits its word
pub record Keeps (w z : RowWord) : Type 0 where
  pub long : length z.permissions ≡ 32
  pub claims : z.claims < 128
  pub number : z.number ≡ w.number

module _ (w : RowWord) (long : length w.permissions ≡ 32) (claims : w.claims < 128) where
  same : Keeps w w
  same = record { long = long; claims = claims; number = refl }

  permits : (who : ℕ) (there : Bool) → Keeps w (permitted w who there)
  permits who there = record { long = length-set w.permissions who there ∙ long; claims = claims; number = refl }

  gives : (who : ℕ) → Keeps w (given_to w who)
  gives who = elim (is_live w.stage) as (λ b. Keeps w (if b then permitted w who true else w)) [ true ↦ permits who true | false ↦ same ]

  claims-more : (who : ℕ) → w.claims < 127 → Keeps w (claimed (given_to w who))
  claims-more who h = elim (is_live w.stage) as (λ b. Keeps w (claimed (if b then permitted w who true else w))) [
    | true ↦ record { long = length-set w.permissions who true ∙ long; claims = omega arith; number = refl }
    | false ↦ record { long = long; claims = omega arith; number = refl }
  ]

  drops : (who : ℕ) → Keeps w (dropped w who)
  drops who = elim (is_last w who && has w who) as (λ b. Keeps w (if b then record (permitted w who false) { stage = gone_stage w } else permitted w who false)) [
    | true ↦ record { long = length-set w.permissions who false ∙ long; claims = claims; number = refl }
    | false ↦ permits who false
  ]

  keeps-act : (t : ℕ) (act : Act) → IsTrue (row_takes_act w t act) → Keeps w (row_after_act w t act)
  keeps-act t (Act.Check a kind want None) h = record { long = long; claims = grind (arith, nat_tests); number = refl }
  keeps-act t (Act.Check a kind want (Some e)) h = same
  keeps-act t (Act.Grant who a given) h = gives who.0
  keeps-act t (Act.Own who given) h = claims-more who.0 (below w.claims (not (is_free w.stage)) (not (is_cleaning w.stage)) h)
  keeps-act t (Act.Inherit who a) h = permits who.0 true
  keeps-act t (Act.DropPair who a left) h = drops who.0
  keeps-act t (Act.Publish a given) h = record { long = long; claims = claims; number = refl }
  keeps-act t (Act.SetInit a set) h = record { long = long; claims = claims; number = refl }
  keeps-act t (Act.ClearInit a) h = record { long = long; claims = claims; number = refl }
  keeps-act t (Act.Born a) h = record { long = length-set (vacated w).permissions t true; claims = omega arith; number = refl }
  keeps-act t act h = absurd (cc)

  keeps-unseen : (unseen : Unseen) → IsTrue (row_takes_unseen w unseen) → Keeps w (row_after_unseen w unseen)
  keeps-unseen Unseen.EndCall h = record { long = long; claims = omega arith; number = refl }
  keeps-unseen Unseen.Vacate h = record { long = refl; claims = omega arith; number = refl }
  keeps-unseen Unseen.Visit h = same
  keeps-unseen unseen h = absurd (cc)

  pub row-keeps : (act : FineAct) → IsTrue (row_takes w act) → Keeps w (row_after w act)
  row-keeps (FineAct.Shown event more) h = keeps-act event.thread.0 event.act h
  row-keeps (FineAct.Unseen unseen) h = keeps-unseen unseen h

pub row-fits : (w : RowWord) → length w.permissions ≡ 32 → w.claims < 128 → w.number < 1048575 → (act : FineAct) → IsTrue (row_takes w act) → FitsRow (counted_row (row_after w act))
row-fits w long claims room act h = let k = row-keeps w long claims act h in record { claims = k.claims; number = let n = k.number in omega arith }

-- the step number that a word has is the row's
pub row-number : (z : RowWord) → length z.permissions ≡ 32 → z.claims < 128 → packed_row z / 17592186044416 ≡ z.number
row-number z long claims =
    (row-digits (number_of z.permissions) (bit z.init) (bit z.public) (bit z.dynamic) (stage_code z.stage) z.claims z.number (packed_row z) (number-small z.permissions long) (bit-small z.init) (bit-small z.public) (bit-small z.dynamic) (stage-small z.stage) claims refl).6

pub row-counts : (w : ℕ) (act : FineAct) (next : ℕ) → RowStep w act next → next / 17592186044416 ≡ w / 17592186044416 + 1
row-counts w act next s =
    let r = row_of w in
    let k = row-keeps r (length-bits 32 (w % 4294967296)) (omega arith) act s.may.takes in
    let z = counted_row (row_after r act) in
    let n = row-number z k.long k.claims in
    let m = k.number in
    ap (λ x. x / 17592186044416) (s.is ∙ ap packed_row s.may.leaves) ∙ n ∙ ap (λ x. x + 1) m
