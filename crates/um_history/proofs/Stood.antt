-- The fine run at the moment of a look, and the state of the site as the word that was read tells it.
use Rattle.std.proofs.Common.{◌≡◌, ℕ, ◌<◌, ◌≤◌, List, [], length, map, Some, sym, ap, ◌∙◌, subst}
use Rattle.std.specs.Prelude.{IsTrue, slice_index}
use Rattle.um_base.specs.Weight.{weight}
use Rattle.um_base.specs.declared.image.Image.{Image}
use Rattle.um_invariants.specs.Described.{IsDescribed}
use Rattle.um_words.specs.History.{Entry, bare, by_seat, by_site}
use Rattle.um_fine.specs.FineRun.{IsFineRun}
use Rattle.um_fine.specs.Sites.{is_site, site_number, word_of}
use Rattle.um_fine.specs.Steps.{FineStep, Site}
use Rattle.um_refinement.specs.Room.{CanRun}
use Rattle.um_site.specs.Cells.{AmongCells, ContentsAre}
use Rattle.um_site.specs.declared.seat.Seat.{Seat}
use Rattle.um_site.specs.declared.view.View.{View}
use Rattle.um_board.specs.Contents.{Follows, Known, Opens}
use Rattle.um_board.specs.NextSteps.{seat_name}
use Rattle.um_board.specs.Noted.{packed}
use Rattle.um_board.specs.Opening.{AreOpening}
use Rattle.um_board.specs.ReadBack.{fine_at}
use Rattle.um_board.specs.Saw.{SawAt}
use Rattle.um_history.specs.Fine.{Stood, left_at}
use Rattle.um_history.specs.Played.{IsHistoryOf, IsMoment}
use Rattle.um_history.proofs.AtMoment.{history, of-moment}
use Rattle.um_history.proofs.Fine.{is-fine-of}
use Rattle.um_history.proofs.Granted.{granted}
use Rattle.um_history.proofs.Moments.{all, last-at, own-steps, site-left, site-ran}
use Rattle.um_history.proofs.OpeningRuns.{OpensWell, SiteKnown}
use Rattle.um_history.proofs.Openings.{opens-well}

-- The seat is that of the processor k, at the board of the image, whose cells it knows as filled.
pub record IsSeatOf (image : Image) (k : ℕ) (s : Seat Known) : Type 0 where
  pub few : k < 8
  pub image_is : s.token.me.0.image ≡ image
  pub opens : AreOpening image s.token.me.0.opening
  pub named : s.token.me.0.name ≡ seat_name k
  pub filled : (j : ℕ) → 168 ≤ j → j < 309 → AmongCells s.token.me.0.filled j

module _ (image : Image) (described : IsDescribed image) (can : CanRun image 8) (longest : (run : List FineStep) → IsFineRun image 8 run → length run ≤ weight image)
    (k : ℕ) (s : Seat Known) (seat : IsSeatOf image k s) (i w : ℕ) (saw : SawAt s i w) where
  abbrev v : View
  v = saw.view

  abbrev moment : IsMoment image v i w
  moment =
      record {
        moment = saw.moment;
        of = saw.of.image ∙ seat.image_is;
        opens = subst (AreOpening image) (sym saw.of.opening) seat.opens;
        filled = λ j far near. subst (λ (l : List ℕ). AmongCells l j) (sym saw.of.filled) (seat.filled j far near);
      }

  abbrev pub words : List ℕ
  words = saw.moment.words

  abbrev pub entries : List Entry
  entries = history image v i w moment

  abbrev pub of : IsHistoryOf image 8 words entries
  of = of-moment image v i w moment

  well : OpensWell image
  well = opens-well image 8 described can

  abbrev pub g : List FineStep
  g = all image 8 words entries of

  run : IsFineRun image 8 g
  run = (is-fine-of image 8 words entries of can.few well (granted image 8 described can) (λ j. map (fine_at j) (by_seat (seat_name j) entries)) (λ j less. own-steps image 8 words entries of j)).run

  mine : by_seat (seat_name k) entries ≡ s.token.me.0.made
  mine =
      sym (ap (λ (n : List ℕ). by_seat n entries) (saw.of.name ∙ seat.named))
      ∙ (saw.moment.kept.know saw.moment.seat v saw.moment.there saw.moment.live).mine
      ∙ saw.of.made

  pub stood : Stood image k (map (fine_at k) s.token.me.0.made) g
  stood = record { run = run; few = longest g run; own_is = own-steps image 8 words entries of k ∙ ap (map (fine_at k)) mine }

  -- At the site that it looked at.

  module _ (site : Site) (there : IsTrue (is_site site)) (here : site_number site ≡ i) where
    pub word-stood : packed (word_of (left_at image g site)) ≡ bare (site_number site) w
    word-stood =
        (site-ran image 8 words entries of well site there).word
        ∙ ap (bare (site_number site)) (ap (slice_index words) here ∙ saw.moment.word)

    -- what is known of the state of a site, but for the last contents of a cell
    pub left-stood : (last : Known) × SiteKnown image last site (left_at image g site) []
    left-stood = let last = last-at image 8 words entries of well site there in (last.0, site-left image 8 words entries of well site there last.0 last.1)

    -- and of a cell of which it had the turn
    pub cell-stood : (c : Known) → ContentsAre Opens Follows v.image i (by_site i entries) (Some c) → SiteKnown image c site (left_at image g site) []
    cell-stood c contents =
        site-left image 8 words entries of well site there c
        (λ cell. subst (λ (q : Image × ℕ). ContentsAre Opens Follows q.0 q.1 (by_site q.1 entries) (Some c)) (λ j. (moment.of j, sym here j)) contents)
