-- What comes of asking for the next step, by the fine run that stood when the seat looked.
use Rattle.std.proofs.Common.{◌≡◌, ◌≢◌, ◌⊎◌, inl, inr, ℕ, ◌<◌, List, [], ◌∷◌, ◌++◌, length, map, refl, sym, ap, ◌∙◌, subst, arith}
use Rattle.std.specs.Prelude.{IsTrue}
use Rattle.um_base.specs.Weight.{weight}
use Rattle.um_base.specs.declared.image.Image.{Image}
use Rattle.um_fine.specs.Asks.{next_site}
use Rattle.um_fine.specs.Follows.{p_next}
use Rattle.um_fine.specs.Processor.{Processor, idle}
use Rattle.um_fine.specs.Runs.{ends}
use Rattle.um_fine.specs.Sites.{is_site, site_number}
use Rattle.um_fine.specs.Steps.{FineStep, Site}
use Rattle.um_core.specs.PickedRun.{processor_after}
use Rattle.um_core.proofs.MomentsKnown.{site-there}
use Rattle.um_merge.specs.declared.logged.Logged.{Logged}
use Rattle.um_processor.specs.Processors.{IsStuck, TurnedAt, UnlessMade}
use Rattle.um_processor.specs.Wants.{Wants}
use Rattle.um_words.specs.declared.fine.FineAct.{FineAct}
use Rattle.um_processor.specs.declared.phase.Turn.{Turn}
use Rattle.um_site.specs.declared.seat.Seat.{Seat}
use Rattle.um_board.specs.Contents.{Known}
use Rattle.um_board.specs.NextSteps.{stands_at}
use Rattle.um_board.specs.Placed.{HasMadeNone, IsAt}
use Rattle.um_board.specs.ReadBack.{fine_at}
use Rattle.um_board.proofs.Keeping.{unnoted-then}
use Rattle.um_board.specs.Saw.{Hinders, OthersAt, SawAt, SawShut}
use Rattle.um_board.specs.Seated.{IsSeated, KeptPlace, Noted, Unnoted}
use Rattle.um_board.specs.declared.seated.Seated.{Seated}
use Rattle.um_history.specs.Fine.{Stood, WasRefused}
use Rattle.um_history.specs.Played.{SCHEDULER}
use Rattle.um_history.proofs.Hindered.{hindered}
use Rattle.um_history.proofs.NeverStuck.{never-stuck}
use Rattle.um_history.proofs.Refused.{refused}
use Rattle.um_history.proofs.Stood.{IsSeatOf, g, stood, word-stood}
use Rattle.um_cpu.specs.Cpus.{HasAsked, LetsStand, Rests, Stands}
use Rattle.um_cpu.specs.Playing.{IsPlaying}
use Rattle.um_cpu.specs.declared.cpu.Cpu.{Cpu}
use Rattle.um_cpu.proofs.Runs.{RunsKnown}
use Rattle.um_processor.specs.Standing.{whole}
use Rattle.um_words.specs.Packed.{cell_of}
use Rattle.um_site.specs.Tells.{NoOlder}
use Rattle.um_cell.specs.declared.cells.Cells.{Cells}
use Rattle.atomic_table.specs.Seated.{TableId}

-- a turn that came to something
pub not-stuck : (turn : Turn) → (turn ≡ Turn.Made) ⊎ ((turn ≡ Turn.Busy) ⊎ (turn ≡ Turn.Changed)) → turn ≢ Turn.Stuck
not-stuck turn (inl is) stuck = let e : Turn.Made ≡ Turn.Stuck = sym is ∙ stuck in absurd (cc)
not-stuck turn (inr (inl is)) stuck = let e : Turn.Busy ≡ Turn.Stuck = sym is ∙ stuck in absurd (cc)
not-stuck turn (inr (inr is)) stuck = let e : Turn.Changed ≡ Turn.Stuck = sym is ∙ stuck in absurd (cc)

-- its seat is that of the processor
pub seat-of : (image : Image) (board : TableId) (cells : Cells Known) (k : ℕ) (p : Processor) (s : Seat Known) (log : List Logged) → IsSeated image board cells s → Stands image k p s log → IsSeatOf image k s
seat-of image board cells k p s log seated stands =
    let first = seated.first in
    let count = seated.count in
    record {
      few = stands.few;
      image_is = seated.image_is;
      opens = stands.opening;
      named = stands.named;
      filled = λ j far near. seated.filled j (omega (arith, far, first), omega (arith, near, first, count));
    }

-- the same moment, if the seat only looked since
pub saw-behind : (s mid : Seat Known) (a b : List Logged) (i w : ℕ) → Unnoted s a mid b → SawAt s i w → SawAt mid i w
saw-behind s mid a b i w u saw =
    let k = u.keeps in
    let of = saw.of in
    record {
      view = saw.view;
      of = record {
        image = of.image ∙ sym (ap (λ (q : KeptPlace). q.image) k);
        opening = of.opening ∙ sym (ap (λ (q : KeptPlace). q.opening) k);
        name = of.name ∙ sym (ap (λ (q : KeptPlace). q.name) k);
        made = of.made ∙ sym u.made;
        children = of.children ∙ sym (ap (λ (q : KeptPlace). q.children) k);
        lists = of.lists ∙ sym (ap (λ (q : KeptPlace). q.lists) k);
        filled = of.filled ∙ sym (ap (λ (q : KeptPlace). q.filled) k);
      };
      moment = saw.moment;
    }

module _ (image : Image) (runs : RunsKnown image) (k : ℕ) (s : Seat Known) (seat : IsSeatOf image k s) (p : Processor) (there : p ≡ stands_at image k s.token.me.0.made) where
  after : (h : List FineStep) → Stood image k (map (fine_at k) s.token.me.0.made) h → processor_after image h k ≡ p
  after h st = ap (ends (p_next image) idle) st.own_is ∙ sym there

  next-there : (act : FineAct) (h : List FineStep) → Stood image k (map (fine_at k) s.token.me.0.made) h → IsTrue (is_site (next_site image p act))
  next-there act h st = subst (λ (q : Processor). IsTrue (is_site (next_site image q act))) (after h st) (site-there image 8 runs.described runs.can h st.run k seat.few act)

  -- a look that was made
  stood-shut : (t : Seat Known) (e : FineStep) → SawShut image s t e → (h : List FineStep) × Stood image k (map (fine_at k) s.token.me.0.made) h
  stood-shut t e (SawShut.word_refused z w low got saw reads refuses) = (g image runs.described runs.can runs.longest k s seat _ w saw, stood image runs.described runs.can runs.longest k s seat _ w saw)
  stood-shut t e (SawShut.cell_refused n w c far got saw says refuses) = (g image runs.described runs.can runs.longest k s seat _ w saw.saw, stood image runs.described runs.can runs.longest k s seat _ w saw.saw)
  stood-shut t e (SawShut.none_ready w is got saw none denied) = (g image runs.described runs.can runs.longest k s seat _ w saw, stood image runs.described runs.can runs.longest k s seat _ w saw)

  -- it has a step to ask for
  pub has-next : (i w : ℕ) → SawAt s i w → IsStuck image p → ⊥
  has-next i w saw stuck =
      let st = stood image runs.described runs.can runs.longest k s seat i w saw in
      never-stuck image 8 runs.described runs.can (g image runs.described runs.can runs.longest k s seat i w saw) st.run k seat.few (subst (IsStuck image) (sym (after _ st)) stuck)

  -- its site refused the step that it asked for
  pub refused-step : (t : Seat Known) (e : FineStep) → Wants k image p e → SawShut image s t e → WasRefused image k s t e
  refused-step t e wants shut =
      let st = stood-shut t e shut in
      let here : next_site image p e.act ≡ e.site = ap (λ (x : FineStep). x.site) wants.makes in
      refused image runs.described runs.can runs.longest k s seat runs.waits t e (subst (λ (i : Site). IsTrue (is_site i)) here (next-there e.act st.0 st.1))
      (λ h stood. subst (λ (r : Processor). Wants k image r e) (sym (after h stood)) wants) shut

  -- What came of a turn at the site of a step of this kind.
  module _ (q : Processor) (old : List Logged) (t : Seat Known) (new : List Logged) (room : ℕ) (same : length old ≡ length s.token.me.0.made) (most : weight image < room)
      (act : FineAct) (site : Site) (at : next_site image p act ≡ site) (took shut : FineStep → Type 0) (late : Site → Type 0) (none : Type 0)
      (noted : (e : FineStep) → took e → Noted s old e t new) (denied : (e : FineStep) → shut e → Unnoted s old t new × SawShut image s t e)
      (hinders : late site → Unnoted s old t new × Hinders room old s t (site_number site)) where
    pub asked-of : (turn : Turn) → UnlessMade turn (q ≡ p) → TurnedAt site turn k image p q took shut late none → turn ≢ Turn.Stuck → HasAsked image k p q s old t new
    asked-of Turn.Made kept turned on = HasAsked.made turned.0 (noted turned.0 turned.1) turned.2
    asked-of Turn.Busy kept turned on =
        let e = turned.0 in
        let why = denied e turned.1 in
        HasAsked.refused e why.0 kept turned.2 (refused-step t e turned.2 why.1)
    asked-of Turn.Changed kept turned on =
        let why = hinders turned in
        HasAsked.others act why.0 kept
        (subst (λ (i : Site). OthersAt s t (site_number i)) (sym at) (hindered image runs.described runs.can runs.longest runs.few_marks k s seat room old t (site_number site) same most why.1))
    asked-of Turn.Stuck kept turned on = absurd (on refl)

-- a processor without a thread that looked at the scheduler's word first, by which none is ready, and made no step
pub rested : (image : Image) → RunsKnown image → (c : Cpu) → IsAt image c.place → IsPlaying image c → (seen : Seated) (w : ℕ) → (whole c.processor).todo ≡ [] → HasMadeNone c.place seen
    → seen.seat.token.me.0.got ≡ (SCHEDULER, w) ∷ c.place.seat.token.me.0.got → NoOlder c.place.seat.token.me.0.got SCHEDULER w → SawAt c.place.seat SCHEDULER w → (cell_of w).ready ≡ 0
    → (q : Processor) (t : Seat Known) (new : List Logged) → q ≡ whole c.processor → Unnoted seen.seat seen.log.items t new
    → (0 < (cell_of w).owed → LetsStand image c.number (whole c.processor) seen.seat t w)
    → Rests image c.number (whole c.processor) q c.place.seat c.place.log.items t new w
rested image runs c at stands seen w idle looked got newest saw ready q t new same behind time =
    let p = whole c.processor in
    let s = c.place.seat in
    let log = c.place.log.items in
    let seat = seat-of image _ _ c.number p s log at.seated stands in
    let unnoted = unnoted-then s seen.seat t log seen.log.items new looked behind in
    record {
      idle = idle;
      same = same;
      keeps = unnoted.keeps;
      made = unnoted.made;
      log = unnoted.log;
      got = (behind.got.0, behind.got.1 ∙ ap (λ l. behind.got.0 ++ l) got);
      newest = newest;
      none = ready;
      run = g image runs.described runs.can runs.longest c.number s seat SCHEDULER w saw;
      stood = stood image runs.described runs.can runs.longest c.number s seat SCHEDULER w saw;
      left = word-stood image runs.described runs.can runs.longest c.number s seat SCHEDULER w saw Site.scheduler refl refl;
      time = λ owed. (seen.seat, subst (λ (l : List Logged). Unnoted s log seen.seat l) looked.log looked, time owed);
    }
