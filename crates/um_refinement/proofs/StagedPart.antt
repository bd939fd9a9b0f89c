-- A dying row is claimed, and a free one isn't, after every lawful step.
use Rattle.um_refinement.proofs.Words.{◌≡◌, ℕ, ◌<◌, Bool, true, false, refl, sym, ap, ◌∙◌, subst, ROWS, State, RowWord, row_says, SiteState, same_site, site_answers, FineStep, Site, same-sound, Fine, row}
use Rattle.um_refinement.proofs.CleanersSteps.{row-else, row-here, row-takes-it}
use Rattle.um_refinement.proofs.Erased.{around}
use Rattle.um_refinement.proofs.Leaves.{Lawful}
use Rattle.um_refinement.proofs.RowSteps.{row-stands}
use Rattle.um_refinement.proofs.RowStages.{IsStaged, staged-after}

module _ (f : Fine) (m : State) (e : FineStep) (law : Lawful f m e) (x : ℕ) (few : x < ROWS) where
  open around f e use {later}

  row-says-it : same_site e.site (Site.row x) ≡ true → row_says (row f x) e.act ≡ e.act
  row-says-it on =
      subst (λ (z : SiteState). site_answers f.image z e.moved e.act ≡ e.act) (row-stands f m law.rel x)
      (subst (λ (i : Site). site_answers f.image (f.sites i) e.moved e.act ≡ e.act) (same-sound e.site (Site.row x) on) (ap (λ (s : FineStep). s.act) law.taken.filled_in))

  pub staged : IsStaged (row later x)
  staged = by (same_site e.site (Site.row x)) refl
    where
      was : IsStaged (row f x)
      was = record { dying = (law.rel.rows x few).claims.dying; free = (law.rel.rows x few).claims.free }

      by : (b : Bool) → same_site e.site (Site.row x) ≡ b → IsStaged (row later x)
      by true on =
          let word = row-here f m e law x few on e.act refl in
          let next = staged-after (row f x) e.act (row-takes-it f m e law x few on e.act refl) (row-says-it on) was in
          record {
            dying = λ d. subst (λ n. 0 < n) (sym (ap (λ (w : RowWord). w.claims) word)) (next.dying (sym (ap (λ (w : RowWord). w.stage) word) ∙ d));
            free = λ d. ap (λ (w : RowWord). w.claims) word ∙ next.free (sym (ap (λ (w : RowWord). w.stage) word) ∙ d);
          }
      by false off = subst IsStaged (sym (row-else f m e law x few off)) was
