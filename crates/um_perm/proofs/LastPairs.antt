-- What a drop does to a row's stage.
use Rattle.std.proofs.Common.{◌≡◌, ℕ, ◌<◌, Bool, true, false, not, List, refl, sym, ap, ◌∙◌, subst, eq-eqb}
use Rattle.std.specs.Prelude.{◌==◌, ◌&&◌, ◌||◌, if◌then◌else◌}
use Rattle.um_base.specs.declared.act.Act.{Act}
use Rattle.um_base.specs.declared.act.Leftover.{Leftover}
use Rattle.um_base.specs.declared.image.Image.{Image}
use Rattle.um_base.specs.declared.names.Addr.{Addr}
use Rattle.um_base.specs.declared.names.ThreadIx.{ThreadIx}
use Rattle.um_words.specs.declared.fine.FineAct.{FineAct}
use Rattle.um_words.specs.declared.made.Made.{Made}
use Rattle.um_words.specs.declared.row_word.RowWord.{RowWord}
use Rattle.um_words.specs.declared.row_word.Stage.{Stage}
use Rattle.um_words.specs.Packed.{row_of}
use Rattle.um_words.specs.Rows.{is_live, is_cleaning, has, permitted, is_last, gone_stage, left_of, row_after}
use Rattle.um_site.specs.declared.view.View.{View}
use Rattle.um_site.specs.Tells.{made}
use Rattle.um_site.specs.Calls.{shown, Recorded}
use Rattle.um_site.specs.Lives.{stage, begins_cleaning, takes_last, Cleans}
use Rattle.um_site.proofs.Lives.{row-step, row-left, in-cleaning, to-clean}
use Rattle.um_perm.specs.declared.answer.Answer.{Answer}
use Rattle.um_perm.specs.declared.answer.Dropped.{Dropped}
use Rattle.um_perm.specs.declared.calls.RowCall.{RowCall}
use Rattle.um_perm.specs.Pairs.{visit, drop_act, row_act, dropped_of, answer_of, IfDropped, is_to_clean, Leaves, TellsCleaning}

abbrev left_by : Bool → Bool → Leftover
left_by there last = if not there then Leftover.NoPair else if last then Leftover.Gone else Leftover.Kept

is-standing : (s : Stage) → is_live s ≡ true → s ≡ Stage.Live
is-standing Stage.Live e = refl
is-standing Stage.Free e = absurd (cc)
is-standing Stage.Dying e = absurd (cc)
is-standing Stage.Cleaning e = absurd (cc)

middle : (a b c : Bool) → (a && b && c) ≡ true → b ≡ true
middle true true c e = refl
middle true false c e = absurd (cc)
middle false b c e = absurd (cc)

module _ (r : RowWord) (who : ℕ) where
  abbrev after : Bool → RowWord
  after gone = if gone then record (permitted r who false) { stage = gone_stage r } else permitted r who false

  leaves : (there last : Bool) → is_last r who ≡ last → Leaves (dropped_of (left_by there last) r.claims) r.stage (after (last && there)).stage
  leaves true true l = (is-standing r.stage (middle r.dynamic (is_live r.stage) _ l), refl)
  leaves true false l = refl
  leaves false true l = refl
  leaves false false l = refl

  acts : (by : ThreadIx) (addr : Addr) (is_shown there : Bool) → has r who ≡ there
      → Leaves (dropped_of (left_of r who) r.claims) r.stage (row_after r (if there || is_shown then shown by (Act.DropPair (record { 0 = who }) addr (left_of r who)) else visit)).stage
  acts by addr is_shown true h = leaves (has r who) (is_last r who) refl
  acts by addr true false h = leaves (has r who) (is_last r who) refl
  acts by addr false false h = subst (λ b. Leaves (dropped_of (left_by b (is_last r who)) r.claims) r.stage r.stage) (sym h) refl

  -- a drop that leaves the object to be cleaned took the last permission
  last : (by : ThreadIx) (addr : Addr) (is_shown there gone : Bool) → has r who ≡ there → is_last r who ≡ gone → is_to_clean (dropped_of (left_of r who) r.claims) ≡ true
      → takes_last (if there || is_shown then shown by (Act.DropPair (record { 0 = who }) addr (left_of r who)) else visit) ≡ true
  last by addr is_shown true true h l e = ap (λ z. takes_last (shown by (Act.DropPair (record { 0 = who }) addr z))) (λ i. left_by (h i) (l i))
  last by addr is_shown true false h l e = absurd (let q : is_to_clean (dropped_of (left_by true false) r.claims) ≡ true = subst (λ z. is_to_clean (dropped_of z r.claims) ≡ true) (λ i. left_by (h i) (l i)) e in cc)
  last by addr is_shown false gone h l e = absurd (let q : is_to_clean (dropped_of (left_by false gone) r.claims) ≡ true = subst (λ z. is_to_clean (dropped_of z r.claims) ≡ true) (λ i. left_by (h i) (l i)) e in cc)

never : (s : Stage) → begins_cleaning s s ≡ false
never Stage.Free = refl
never Stage.Live = refl
never Stage.Dying = refl
never Stage.Cleaning = refl

begins : (d : Dropped) (before after : Stage) → Leaves d before after → begins_cleaning before after ≡ is_to_clean d
begins Dropped.NoPair before after l = ap (begins_cleaning before) l ∙ never before
begins Dropped.Kept before after l = ap (begins_cleaning before) l ∙ never before
begins (Dropped.Gone true) before after l = λ i. begins_cleaning (l.0 i) (l.1 i)
begins (Dropped.Gone false) before after l = λ i. begins_cleaning (l.0 i) (l.1 i)

three : (a b c : Bool) → a ≡ true → b ≡ true → c ≡ true → (a && b && c) ≡ true
three a b c x y z = λ i. x i && y i && z i

module _ (goes : Image → List ℕ → List Made → Made → Type 0) (v w : View) (row seen : ℕ) (by who : ThreadIx) (is_shown : Bool) (addr : Addr) (here : row < 128)
    (told : Recorded goes v row seen (drop_act by who is_shown addr (row_of seen)) w) where
  abbrev dropped : Dropped
  dropped = dropped_of (left_of (row_of seen) who.0) (row_of seen).claims

  stages : Leaves dropped (stage seen) (stage told.1.0)
  stages = subst (Leaves dropped (stage seen)) (sym (ap (λ (r : RowWord). r.stage) (row-left seen (drop_act by who is_shown addr (row_of seen)) told.1.0 (row-step row seen (drop_act by who is_shown addr (row_of seen)) told.1.0 here told.1.1)))) (acts (row_of seen) who.0 by addr is_shown (has (row_of seen) who.0) refl)

  tells : TellsCleaning row seen (drop_act by who is_shown addr (row_of seen)) v dropped w
  tells = (told.1.0, told.1.4, stages, begins dropped (stage seen) (stage told.1.0) stages)

  cleans : is_to_clean dropped ≡ true → Cleans row w
  cleans e =
      let m : Made = made row (drop_act by who is_shown addr (row_of seen)) told.1.0 in
      subst (Cleans row) (sym told.1.4) (to-clean row v m (three (row == row) (takes_last m.act) (is_cleaning (stage told.1.0)) (eq-eqb row row refl)
      (last (row_of seen) who.0 by addr is_shown (has (row_of seen) who.0) (is_last (row_of seen) who.0) refl refl e)
      (in-cleaning (stage seen) (stage told.1.0) (begins dropped (stage seen) (stage told.1.0) stages ∙ e))))

module _ (goes : Image → List ℕ → List Made → Made → Type 0) (v w : View) (row seen : ℕ) (by : ThreadIx) (here : row < 128) where
  abbrev Cleaner : FineAct → Answer → Type 0
  Cleaner act answer = IfDropped answer (λ dropped. TellsCleaning row seen act v dropped w × (is_to_clean dropped ≡ true → Cleans row w))

  cleaner-of : (call : RowCall) → Recorded goes v row seen (row_act by call (row_of seen)) w → Cleaner (row_act by call (row_of seen)) (answer_of by call (row_of seen))
  cleaner-of (RowCall.Drop who is_shown addr) told = (tells goes v w row seen by who is_shown addr here told, cleans goes v w row seen by who is_shown addr here told)
  cleaner-of (RowCall.Grant who addr) told = tt
  cleaner-of (RowCall.Own who) told = tt
  cleaner-of (RowCall.Inherit child addr) told = tt
  cleaner-of (RowCall.Publish addr) told = tt
  cleaner-of (RowCall.SetInit strict addr) told = tt
  cleaner-of (RowCall.ClearInit addr) told = tt
  cleaner-of (RowCall.Born addr) told = tt
  cleaner-of RowCall.Vacate told = tt

  -- of each call whose step and whose answer are those of the word
  pub cleaner : (call : RowCall) (r : RowWord) (act : FineAct) (answer : Answer) → r ≡ row_of seen → act ≡ row_act by call r → answer ≡ answer_of by call r → Recorded goes v row seen act w
      → Cleaner (row_act by call (row_of seen)) answer
  cleaner call r act answer read acts answers told =
      subst (Cleaner (row_act by call (row_of seen))) (sym (answers ∙ ap (answer_of by call) read)) (cleaner-of call (subst (λ z. Recorded goes v row seen z w) (acts ∙ ap (row_act by call) read) told))
