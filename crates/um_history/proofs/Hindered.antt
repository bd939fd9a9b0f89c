-- Which causes for making no step a seat never meets.
use Rattle.std.proofs.Common.{◌≡◌, ◌⊎◌, ⊎_elim, ℕ, ◌+◌, ◌<◌, ◌≤◌, true, List, [], length, Some, None, refl, sym, ap, ◌∙◌, subst, arith}
use Rattle.std.specs.Prelude.{IsTrue}
use Rattle.std.proofs.lemmas.Bool.{false≢true, lt-ltb, ltb-true}
use Rattle.std.proofs.lemmas.List.{length-map}
use Rattle.um_base.specs.Weight.{weight}
use Rattle.um_base.specs.declared.image.Image.{Image}
use Rattle.um_invariants.specs.Described.{IsDescribed}
use Rattle.um_words.specs.History.{bare}
use Rattle.um_words.specs.Inverse.{domain-back, thread-back}
use Rattle.um_words.specs.Packed.{cell_of, domain_of, thread_of}
use Rattle.um_fine.specs.Cells.{Cell, cell_word}
use Rattle.um_fine.specs.Clock.{Clock}
use Rattle.um_fine.specs.FineRun.{IsFineRun, cpu_of, same_cpu}
use Rattle.um_fine.specs.Runs.{has_key}
use Rattle.um_fine.specs.Sites.{SiteState, is_site, site_number, site_numbered, word_of}
use Rattle.um_fine.specs.Steps.{FineStep, Site}
use Rattle.um_refinement.specs.After.{left_by}
use Rattle.um_refinement.specs.Fine.{clock, clock_state}
use Rattle.um_refinement.specs.Room.{CanRun, has_number}
use Rattle.um_core.proofs.Counts.{can-count}
use Rattle.um_merge.specs.declared.logged.Logged.{Logged}
use Rattle.um_site.specs.declared.seat.Seat.{Seat}
use Rattle.um_site.proofs.Bare.{bare-even, bare-low}
use Rattle.um_board.specs.Contents.{Known, known}
use Rattle.um_board.specs.Noted.{packed}
use Rattle.um_board.specs.ReadBack.{fine_at}
use Rattle.um_board.specs.Saw.{Hinders, OthersAt, SawAt}
use Rattle.um_history.specs.Fine.{left_at}
use Rattle.um_history.proofs.CellRuns.{CellKnown, cell-reads, is_cell}
use Rattle.um_history.proofs.Lists.{short-sub}
use Rattle.um_history.proofs.Numbers.{number-of-numbered, numbered-is}
use Rattle.um_history.proofs.OpeningRuns.{SiteKnown}
use Rattle.um_history.proofs.Stood.{IsSeatOf, cell-stood, g, left-stood, stood, word-stood}
use Rattle.um_history.proofs.WordRuns.{DomainKnown, ThreadKnown}

-- The words of a fine run can be read.

thread-read : (s : SiteState) (w : ℕ) → ThreadKnown s [] → packed (word_of s) ≡ w → thread_of w ≡ None → ⊥
thread-read (SiteState.thread a) w fits word none = let back : thread_of w ≡ Some a = ap thread_of (sym word) ∙ thread-back a fits in let e : None ≡ Some a = sym none ∙ back in absurd (cc)
thread-read (SiteState.row a) w known word none = known
thread-read (SiteState.domain a) w known word none = known
thread-read (SiteState.cell n a) w known word none = known

domain-read : (s : SiteState) (w : ℕ) → DomainKnown s [] → packed (word_of s) ≡ w → domain_of w ≡ None → ⊥
domain-read (SiteState.domain a) w fits word none = let back : domain_of w ≡ Some a = ap domain_of (sym word) ∙ domain-back a fits in let e : None ≡ Some a = sym none ∙ back in absurd (cc)
domain-read (SiteState.row a) w known word none = known
domain-read (SiteState.thread a) w known word none = known
domain-read (SiteState.cell n a) w known word none = known

-- A cell's word counts what its contents have, and can count one step more.

abbrev IsCounted : Cell → ℕ → Type 0
IsCounted c w = (n : ℕ) × (n < 268435455) × (cell_of w ≡ cell_word c n)

cell-counted : (image : Image) (last : Known) (i : Site) (s : SiteState) (w : ℕ) → CellKnown image last i s [] → has_number s ≡ true → packed (word_of s) ≡ w → IsCounted last.cell w
cell-counted image last i (SiteState.cell n c) w known counts word =
    let same : last.cell ≡ c = sym (ap (λ (x : Known). x.cell) known.1.follow) ∙ known.1.is in
    (n, ltb-true n 268435455 counts, ap cell_of (sym word) ∙ cell-reads i n c known.0 ∙ ap (λ (x : Cell). cell_word x n) (sym same))
cell-counted image last i (SiteState.row a) w known counts word = absurd known
cell-counted image last i (SiteState.thread a) w known counts word = absurd known
cell-counted image last i (SiteState.domain a) w known counts word = absurd known

pub cell-far : (i : Site) → IsTrue (is_site i) → 168 ≤ site_number i → IsTrue (is_cell i)
cell-far (Site.row x) there far = let less = ltb-true x 128 there in absurd (omega (arith, less, far))
cell-far (Site.thread t) there far = let less = ltb-true t 32 there in absurd (omega (arith, less, far))
cell-far (Site.domain d) there far = let less = ltb-true d 8 there in absurd (omega (arith, less, far))
cell-far (Site.object x) there far = refl
cell-far (Site.parts d) there far = refl
cell-far Site.memory there far = refl
cell-far Site.heap there far = refl
cell-far Site.scheduler there far = refl
cell-far Site.clock there far = refl
cell-far Site.joins there far = refl

pub as-cell : (image : Image) (last : Known) (i : Site) (s : SiteState) (ms : _) → IsTrue (is_cell i) → SiteKnown image last i s ms → CellKnown image last i s ms
as-cell image last (Site.row x) s ms cell known = absurd (cc)
as-cell image last (Site.thread t) s ms cell known = absurd (cc)
as-cell image last (Site.domain d) s ms cell known = absurd (cc)
as-cell image last (Site.object x) s ms cell known = known
as-cell image last (Site.parts d) s ms cell known = known
as-cell image last Site.memory s ms cell known = known
as-cell image last Site.heap s ms cell known = known
as-cell image last Site.scheduler s ms cell known = known
as-cell image last Site.clock s ms cell known = known
as-cell image last Site.joins s ms cell known = known

-- the clock that stands, where the cell has these contents
clock-stands : (image of : Image) (c : Clock) (s : SiteState) → CellKnown image (known of (Cell.clock c)) Site.clock s [] → (clock_state s ≡ c) × (of ≡ image)
clock-stands image of c (SiteState.cell n (Cell.clock d)) is =
    let same : Cell.clock c ≡ Cell.clock d = sym (ap (λ (x : Known). x.cell) is.1.follow) ∙ is.1.is in (cc, sym (ap (λ (x : Known). x.image) is.1.follow) ∙ is.1.of)
clock-stands image of c (SiteState.cell n (Cell.object o)) is = absurd (false≢true is.0.sort)
clock-stands image of c (SiteState.cell n (Cell.parts p)) is = absurd (false≢true is.0.sort)
clock-stands image of c (SiteState.cell n (Cell.memory m)) is = absurd (false≢true is.0.sort)
clock-stands image of c (SiteState.cell n (Cell.heap h)) is = absurd (false≢true is.0.sort)
clock-stands image of c (SiteState.cell n (Cell.scheduler z)) is = absurd (false≢true is.0.sort)
clock-stands image of c (SiteState.cell n (Cell.joins j)) is = absurd (false≢true is.0.sort)
clock-stands image of c (SiteState.row a) is = absurd is
clock-stands image of c (SiteState.thread a) is = absurd is
clock-stands image of c (SiteState.domain a) is = absurd is

module _ (image : Image) (described : IsDescribed image) (can : CanRun image 8) (longest : (run : List FineStep) → IsFineRun image 8 run → length run ≤ weight image)
    (few_marks : (run : List FineStep) → IsFineRun image 8 run → length (clock (left_by image 8 run)).marks ≤ weight image)
    (k : ℕ) (s : Seat Known) (seat : IsSeatOf image k s) where
  -- its log is no longer than the run that stood
  log-short : (i w : ℕ) (saw : SawAt s i w) (room : ℕ) (log : List Logged) → length log ≡ length s.token.me.0.made → weight image < room → room ≤ length log → ⊥
  log-short i w saw room log same most full =
      let st = stood image described can longest k s seat i w saw in
      let own = ap length st.own_is in
      let long = length-map s.token.me.0.made (fine_at k) in
      let short = short-sub (has_key same_cpu cpu_of k) (g image described can longest k s seat i w saw) in
      let few = st.few in
      absurd (omega (arith, own, long, short, few, same, most, full))

  -- what stood at a site when the seat got its word: a state of that site, with the word but for a turn
  stood-there : (i w : ℕ) (saw : SawAt s i w) (site : Site) → IsTrue (is_site site) → site_number site ≡ i
      → (z : SiteState) × ((last : Known) × SiteKnown image last site z []) × (packed (word_of z) ≡ bare (site_number site) w)
  stood-there i w saw site there here = (
    left_at image (g image described can longest k s seat i w saw) site,
    left-stood image described can longest k s seat i w saw site there here,
    word-stood image described can longest k s seat i w saw site there here,
  )

  inside : (i w : ℕ) → SawAt s i w → i < 309
  inside i w saw = let in' = saw.moment.inside in let long = saw.moment.kept.stands.wide in let opens = seat.opens.count in let is = ap length saw.of.opening in omega (arith, in', long, opens, is)

  pub hindered : (room : ℕ) (log : List Logged) (t : Seat Known) (i : ℕ) → length log ≡ length s.token.me.0.made → weight image < room → Hinders room log s t i → OthersAt s t i
  hindered room log t i same most (Hinders.others others) = others
  hindered room log t i same most (Hinders.full w saw full) = absurd (log-short i w saw room log same most full)
  hindered room log t i same most (Hinders.no_thread n w less is saw none) =
      let stood = stood-there i w saw (Site.thread n) (lt-ltb n 32 less) (sym is) in
      absurd (thread-read stood.0 w stood.1.1 (stood.2 ∙ bare-low (128 + n) w (omega (arith, less))) none)
  hindered room log t i same most (Hinders.no_domain n w less is saw none) =
      let stood = stood-there i w saw (Site.domain n) (lt-ltb n 8 less) (sym is) in
      absurd (domain-read stood.0 w stood.1.1 (stood.2 ∙ bare-low (160 + n) w (omega (arith, less))) none)
  hindered room log t i same most (Hinders.worn w c far saw counts) =
      let near : i < 309 = inside i w saw.saw in
      let site = site_numbered i in
      let there = numbered-is i near in
      let here = number-of-numbered i near in
      let st = stood image described can longest k s seat i w saw.saw in
      let known = as-cell image c site _ [] (cell-far site there (subst (λ (n : ℕ). 168 ≤ n) (sym here) far)) (cell-stood image described can longest k s seat i w saw.saw site there here c saw.contents) in
      let word = word-stood image described can longest k s seat i w saw.saw site there here in
      let light = described.lawful.light in
      let few = st.few in
      let number = (can-count image _ (omega (arith, few, light)) 8).numbers site in
      let counted = cell-counted image c site _ w known number (word ∙ bare-even (site_number site) w (λ h. saw.free)) in
      absurd (counts counted.0 counted.1 counted.2)
  hindered room log t i same most (Hinders.crowded w of c is saw full) =
      let run = g image described can longest k s seat i w saw.saw in
      let st = stood image described can longest k s seat i w saw.saw in
      let at = cell-stood image described can longest k s seat i w saw.saw Site.clock refl (sym is) (known of (Cell.clock c)) saw.contents in
      let there = clock-stands image of c (left_at image run Site.clock) at in
      let long : length (clock (left_by image 8 run)).marks ≡ length c.marks = ap (λ (d : Clock). length d.marks) there.0 in
      let marks = few_marks run st.run in
      let light = described.lawful.light in
      let most' : (weight image < length c.marks) ⊎ (268435455 ≤ length c.marks) = subst (λ (im : Image). (weight im < length c.marks) ⊎ (268435455 ≤ length c.marks)) there.1 full in
      ⊎_elim (λ more. absurd (omega (arith, marks, long, more))) (λ more. absurd (omega (arith, marks, long, light, more))) most'
