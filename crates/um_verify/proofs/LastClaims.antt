-- What the end of a claim does to a row's stage.
use Rattle.std.proofs.Common.{◌≡◌, ℕ, ◌<◌, Bool, true, false, not, List, refl, sym, ap, ◌∙◌, subst, eq-eqb}
use Rattle.std.specs.Prelude.{◌==◌, ◌&&◌, if◌then◌else◌}
use Rattle.um_base.specs.declared.image.Image.{Image}
use Rattle.um_words.specs.declared.made.Made.{Made}
use Rattle.um_words.specs.declared.row_word.RowWord.{RowWord}
use Rattle.um_words.specs.declared.row_word.Stage.{Stage}
use Rattle.um_words.specs.Packed.{row_of}
use Rattle.um_words.specs.Rows.{is_dying, is_cleaning}
use Rattle.um_site.specs.declared.view.View.{View}
use Rattle.um_site.specs.Tells.{made}
use Rattle.um_site.specs.Calls.{Recorded}
use Rattle.um_site.specs.Lives.{stage, begins_cleaning, Cleans}
use Rattle.um_site.proofs.Lives.{row-step, row-left, in-cleaning, to-clean}
use Rattle.um_verify.specs.Checks.{end_act, cleans, TellsCleaning}

-- the end of a claim leaves the row in cleaning, where it wasn't before, exactly where it was the last claim of a dying row
pub came-to-cleaning : (s : Stage) (one : Bool) → (is_cleaning (if is_dying s && one then Stage.Cleaning else s) && not (is_cleaning s)) ≡ (is_dying s && one)
came-to-cleaning Stage.Free one = refl
came-to-cleaning Stage.Live one = refl
came-to-cleaning Stage.Dying true = refl
came-to-cleaning Stage.Dying false = refl
came-to-cleaning Stage.Cleaning one = refl

begins : (s : Stage) (one : Bool) → begins_cleaning s (if is_dying s && one then Stage.Cleaning else s) ≡ (is_dying s && one)
begins Stage.Free one = refl
begins Stage.Live one = refl
begins Stage.Dying true = refl
begins Stage.Dying false = refl
begins Stage.Cleaning one = refl

module _ (goes : Image → List ℕ → List Made → Made → Type 0) (v w : View) (row seen : ℕ) (here : row < 128) (told : Recorded goes v row seen end_act w) where
  left : stage told.1.0 ≡ (if cleans seen then Stage.Cleaning else stage seen)
  left = ap (λ (r : RowWord). r.stage) (row-left seen end_act told.1.0 (row-step row seen end_act told.1.0 here told.1.1))

  begun : begins_cleaning (stage seen) (stage told.1.0) ≡ cleans seen
  begun = ap (begins_cleaning (stage seen)) left ∙ begins (stage seen) ((row_of seen).claims == 1)

  pub tells : TellsCleaning row seen v (cleans seen) w
  tells = (told.1.0, told.1.4, left, begun)

  pub to-clean-it : cleans seen ≡ true → Cleans row w
  to-clean-it e =
      let m : Made = made row end_act told.1.0 in
      let c : is_cleaning (stage told.1.0) ≡ true = in-cleaning (stage seen) (stage told.1.0) (begun ∙ e) in
      subst (Cleans row) (sym told.1.4) (to-clean row v m (λ i. eq-eqb row row refl i && true && c i))
