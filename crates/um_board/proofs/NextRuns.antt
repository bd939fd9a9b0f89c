-- If each seat makes only the steps that its processor asks for, its list is a local run of that processor.
use Rattle.std.proofs.Common.{◌≡◌, ℕ, zero, suc, ◌<◌, List, [], ◌∷◌, ◌++◌, map, refl, sym, ap, ◌∙◌, subst}
use Rattle.um_base.specs.declared.image.Image.{Image}
use Rattle.um_words.specs.History.{Entry, IsHistory, by_seat}
use Rattle.um_words.specs.Sublists.{RunsBy}
use Rattle.um_words.specs.declared.made.Made.{Made}
use Rattle.um_fine.specs.Follows.{p_next}
use Rattle.um_fine.specs.Processor.{idle}
use Rattle.um_fine.specs.Runs.{Run, ends}
use Rattle.um_fine.specs.Sites.{site_number, site_numbered}
use Rattle.um_fine.specs.Steps.{FineStep, Site}
use Rattle.um_fine.proofs.Subs.{ends-append}
use Rattle.um_tables.specs.Asked.{AsksFor}
use Rattle.um_site.specs.declared.seat.Seat.{Seat}
use Rattle.um_merge.specs.declared.logged.Logged.{Logged}
use Rattle.um_board.specs.Contents.{Known}
use Rattle.um_board.specs.NextSteps.{AreLocalRuns, IsNext, NextGoes, seat_name, stands_at}
use Rattle.um_board.specs.Noted.{made_of, packed}
use Rattle.um_board.specs.ReadBack.{IsReadBack, fine_at, unpacked}
use Rattle.um_board.specs.Seated.{Unnoted}

-- the processor whose seat has this name
abbrev named-by : List ℕ → ℕ
named-by [] = 0
named-by (k ∷ rest) = suc k

named-back : (k : ℕ) → named-by (seat_name k) ≡ k
named-back zero = refl
named-back (suc k) = refl

map-push : (f : Made → FineStep) (l : List Made) (m : Made) → map f (l ++ m ∷ []) ≡ map f l ++ f m ∷ []
map-push f [] m = refl
map-push f (x ∷ xs) m = ap (λ l. f x ∷ l) (map-push f xs m)

module _ (image : Image) (k : ℕ) where
  stands-more : (done : List Made) (m : Made) → stands_at image k (done ++ m ∷ []) ≡ p_next image (stands_at image k done) (fine_at k m)
  stands-more done m =
      ap (ends (p_next image) idle) (map-push (fine_at k) done m) ∙ ends-append (λ p e. Unit {0}) (p_next image) idle (map (fine_at k) done) (fine_at k m ∷ [])

  asks-of : (done : List Made) (m : Made) → NextGoes image (seat_name k) done m → AsksFor k image (stands_at image k done) (fine_at k m)
  asks-of done m (j, less, named, asks) =
      let same : k ≡ j = sym (named-back k) ∙ (ap named-by named ∙ named-back j) in
      subst (λ (i : ℕ). AsksFor i image (stands_at image i done) (fine_at i m)) (sym same) asks

  runs-on : (done l : List Made) → RunsBy (NextGoes image (seat_name k)) done l → Run (AsksFor k image) (p_next image) (stands_at image k done) (map (fine_at k) l)
  runs-on done [] runs = tt
  runs-on done (m ∷ l) runs =
      (asks-of done m runs.0, subst (λ p. Run (AsksFor k image) (p_next image) p (map (fine_at k) l)) (stands-more done m) (runs-on (done ++ m ∷ []) l runs.1))

nobody : (image : Image) (n : List ℕ) (l : List Made) → ((k : ℕ) → k < 8 → ¬ (n ≡ seat_name k)) → RunsBy (NextGoes image n) [] l → l ≡ []
nobody image n [] none runs = refl
nobody image n (m ∷ l) none runs = absurd (none runs.0.0 runs.0.1 runs.0.2)

pub local-runs : (image : Image) (opening words : List ℕ) (h : List Entry) → IsHistory (NextGoes image) opening words h → AreLocalRuns image h
local-runs image opening words h stands =
    record {
      run = λ k few. runs-on image k [] (by_seat (seat_name k) h) (stands.seats (seat_name k));
      others = λ n none. nobody image n (by_seat n h) none (stands.seats n);
    }

-- A step that was read back is the one that stands in the list.
pub read-back : (k : ℕ) (e : FineStep) → e.cpu ≡ k → IsReadBack e → fine_at k (made_of e) ≡ e
read-back k e own back =
    let word : unpacked (site_numbered (site_number e.site)) (packed e.word) ≡ e.word = ap (λ (s : Site). unpacked s (packed e.word)) back.site ∙ back.word in
    λ i. record { cpu = sym own i; site = back.site i; act = e.act; word = word i; moved = e.moved }

-- the board's rule lets the processor make it
pub next-goes : (image : Image) (name : List ℕ) (made : List Made) (e : FineStep) → IsReadBack e → IsNext image name made e → NextGoes image name made (made_of e)
next-goes image name made e back next =
    let k = next.k in
    (k, next.few, next.named, subst (λ (s : FineStep). AsksFor k image (stands_at image k made) s) (sym (read-back k e next.asks.maker back)) next.asks)

-- a look changes nothing of that
pub next-then : (image : Image) (s t : Seat Known) (a b : List Logged) (e : FineStep) → Unnoted s a t b → IsNext image s.token.me.0.name s.token.me.0.made e
    → IsNext image t.token.me.0.name t.token.me.0.made e
next-then image s t a b e u next =
    subst (λ (v : List ℕ × List Made). IsNext image v.0 v.1 e) (λ i. ((sym u.keeps i).name, sym u.made i)) next
