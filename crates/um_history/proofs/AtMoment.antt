-- The history of a board at any moment: the contents of a cell follow from its steps even while its turn is out.
use Rattle.std.proofs.Common.{◌≡◌, ℕ, zero, suc, ◌+◌, ◌-◌, ◌%◌, ◌<◌, ◌≤◌, List, [], ◌∷◌, ◌⊎◌, inl, inr, Option, refl, sym, ap, subst, arith, get_or}
use mathlib.Core.Logic.{dite}
use native.Mathlib.Decide.{dec_lt, ℕ_discrete}
use Rattle.um_base.specs.declared.image.Image.{Image}
use Rattle.um_words.specs.History.{Entry, IsHistory, by_seat, by_site}
use Rattle.um_words.specs.declared.made.Made.{Made}
use Rattle.um_site.specs.Cells.{AmongCells, ContentsAre}
use Rattle.um_site.specs.declared.view.View.{View}
use Rattle.um_board.specs.Contents.{Follows, Known, Opens}
use Rattle.um_board.specs.NextSteps.{AreLocalRuns, NextGoes, seat_name}
use Rattle.um_board.proofs.NextRuns.{local-runs}
use Rattle.um_history.specs.Played.{IsHistoryOf, IsMoment}

-- a seat that the first one split off is that of the processor behind its number
split-off : (k j : ℕ) → k ∷ [] ≡ seat_name j → suc k ≡ j
split-off k zero is = absurd (cc)
split-off k (suc j) is = let same : k ≡ j = cc in ap suc same

longer : (k j : ℕ) (n : List ℕ) (i : ℕ) → k ∷ j ∷ n ≡ seat_name i → ⊥
longer k j n zero is = cc
longer k j n (suc i) is = cc

slot-of : (i : ℕ) → 168 ≤ i → 168 + (i - 168) ≡ i
slot-of i cell = omega arith

-- each list is of one of the first eight seats, or has nothing in it
owned-by : (image : Image) (h : List Entry) → AreLocalRuns image h → (n : List ℕ) → (by_seat n h ≡ []) ⊎ ((k : ℕ) × (k < 8) × (n ≡ seat_name k))
owned-by image h runs [] = inr (0, omega arith, refl)
owned-by image h runs (k ∷ []) = dite (dec_lt (suc k) 8)
    (λ less. inr (suc k, less, refl))
    (λ far. inl (runs.others (k ∷ []) (λ j less is. far (subst (λ (m : ℕ). m < 8) (sym (split-off k j is)) less))))
owned-by image h runs (k ∷ j ∷ n) = inl (runs.others (k ∷ j ∷ n) (λ i less is. longer k j n i is))

module _ (image : Image) (v : View) (i w : ℕ) (m : IsMoment image v i w) where
  abbrev pub history : List Entry
  history = m.moment.history

  abbrev words : List ℕ
  words = m.moment.words

  contents-at : (j : ℕ) → 168 ≤ j → j < 309 → (y : Option Known) × ContentsAre Opens Follows v.image j (by_site j history) y
  contents-at j far near =
      let c = m.moment.cells in
      let a = m.filled j far near in
      let f = c.filled m.moment.seat v m.moment.there m.moment.live j a in
      let in' = f.1 in
      let slot = f.2 in
      dite (ℕ_discrete (get_or words j 0 % 2) 0)
      (λ even.
      let b = c.home (j - 168) (omega arith) (omega arith) (subst (λ n. get_or words n 0 % 2 ≡ 0) (sym (slot-of j far)) even) in
      let now = b.2 m.moment.seat v m.moment.there m.moment.live (subst (AmongCells v.filled) (sym (slot-of j far)) a) in
      (b.0, subst (λ n. ContentsAre Opens Follows v.image n (by_site n history) b.0) (slot-of j far) now))
      (λ odd.
      let (id, x, t, at, lives, has, site) = c.held j far in' (omega arith) in
      let u = c.turns id x at lives t has in
      let k = c.known id m.moment.seat x v at m.moment.there lives m.moment.live t has (subst (AmongCells v.filled) (sym site) a) in
      (k.0, subst (λ n. ContentsAre Opens Follows v.image n (by_site n history) k.0) site (subst (λ (l : List Made). ContentsAre Opens Follows v.image t.site l k.0) (sym u.past) k.1)))

  stands : IsHistory (NextGoes image) v.opening words history
  stands = subst (λ (im : Image). IsHistory (NextGoes im) v.opening words history) m.of m.moment.kept.stands

  pub of-moment : IsHistoryOf image 8 words history
  of-moment =
      record {
        opening = v.opening;
        opens = m.opens;
        stands = stands;
        owned = owned-by image history (local-runs image v.opening words history stands);
        contents = λ j far near. subst (λ (im : Image). (y : Option Known) × ContentsAre Opens Follows im j (by_site j history) y) m.of (contents-at j far near);
      }
