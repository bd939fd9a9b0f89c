-- The history of a closed board whose processors have played, as one of a moment, with the steps of each.
use Rattle.std.proofs.Common.{◌≡◌, ℕ, zero, suc, ◌<◌, List, [], ◌∷◌, inl, inr, ⊎_elim, map, sym, ap, ◌∙◌, subst}
use Rattle.std.specs.Prelude.{Option}
use Rattle.um_base.specs.declared.image.Image.{Image}
use Rattle.um_words.specs.History.{Entry, IsHistory, by_seat, by_site}
use Rattle.um_words.specs.declared.made.Made.{Made}
use Rattle.um_fine.specs.FineRun.{cpu_of, same_cpu}
use Rattle.um_fine.specs.Processor.{idle}
use Rattle.um_fine.specs.Runs.{sublist}
use Rattle.um_fine.specs.Steps.{FineStep}
use Rattle.um_merge.specs.Logs.{Log}
use Rattle.um_site.specs.Cells.{ContentsAre}
use Rattle.um_site.specs.History.{Told}
use Rattle.um_site.specs.declared.view.View.{View}
use Rattle.um_board.specs.Contents.{Follows, Known, Opens}
use Rattle.um_board.specs.NextSteps.{NextGoes, seat_name}
use Rattle.um_board.specs.Noted.{made_of}
use Rattle.um_board.specs.ReadBack.{fine_at}
use Rattle.um_history.specs.Played.{HasList, IsHistoryOf, IsPlayed, StandsUnder}
use Rattle.um_history.proofs.Entries.{listed}
use Rattle.um_history.proofs.Granted.{own-steps-of}
use Rattle.um_history.proofs.Lists.{each-both}
use Rattle.um_history.proofs.Moments as Moments
use Rattle.um_history.proofs.Moments.{all}

pub told-under : (h : List Entry) (lists : List (List ℕ × List Made)) (n : List ℕ) (made : List Made) → Told h lists → StandsUnder lists n made → by_seat n h ≡ made
told-under h [] n made told stands = absurd stands
told-under h (e ∷ es) n made told (inl is) = ap (λ (k : List ℕ). by_seat k h) (sym is.0) ∙ told.0 ∙ is.1
told-under h (e ∷ es) n made told (inr in-rest) = told-under h es n made told.1 in-rest

module _ (image : Image) (cpus : ℕ) (v : View) (words : List ℕ) (slots : List (Option Known)) (logs : List Log) (steps : ℕ → List FineStep) (played : IsPlayed image cpus v words slots logs steps) where
  abbrev pub history : List Entry
  history = played.closed.history

  pub of-played : IsHistoryOf image cpus words history
  of-played =
      record {
        opening = v.opening;
        opens = played.opening;
        stands = subst (λ (i : Image). IsHistory (NextGoes i) v.opening words history) played.image_is played.closed.stands;
        owned = λ n. ⊎_elim inl (λ has. ⊎_elim (λ is. inr (0, played.some, sym is ∙ played.first)) (λ among. inr (played.names n among)) has) (played.closed.only n);
        contents = λ n far near. let (y, at, are) = played.closed.contents n (played.filled n far near) in (y, subst (λ (i : Image). ContentsAre Opens Follows i n (by_site n history) y) played.image_is are);
      }

  -- what stands under the name of a processor
  listed-under : (k : ℕ) (made : List Made) → HasList v k made → by_seat (seat_name k) history ≡ made
  listed-under zero made has = ap (λ (n : List ℕ). by_seat n history) (sym played.first) ∙ played.closed.knows.mine ∙ has
  listed-under (suc k) made has = told-under history v.joined (k ∷ []) made played.closed.knows.theirs has

  pub list-of : (k : ℕ) → k < cpus → by_seat (seat_name k) history ≡ map made_of (steps k)
  list-of k less = let (made, has, mine) = played.lists k less in listed-under k made has ∙ mine.made_is

  pub own-steps : (k : ℕ) → k < cpus → sublist same_cpu cpu_of k (all image cpus words history of-played) ≡ steps k
  own-steps k less =
      let mine = (played.lists k less).2 in
      Moments.own-steps image cpus words history of-played k
      ∙ (ap (map (fine_at k)) (list-of k less) ∙ listed k (steps k) (each-both (λ (s : FineStep). s.cpu ≡ k) _ (steps k) (own-steps-of image k idle (steps k) mine.run) mine.whole))
