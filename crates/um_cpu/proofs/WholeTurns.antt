-- What comes of a turn of a processor at its place. It asks for its next step; or it has no thread, and asks at the clock for a mark that is due, or for
-- the next tick.
use Rattle.std.proofs.Common.{◌≡◌, ◌≢◌, ℕ, ◌<◌, Bool, true, List, [], ◌∷◌, length, map, refl, sym, ap, ◌∙◌, subst}
use Rattle.um_base.specs.Weight.{weight}
use Rattle.um_base.specs.declared.image.Image.{Image}
use Rattle.um_words.specs.Packed.{cell_of}
use Rattle.um_words.specs.declared.fine.FineAct.{FineAct}
use Rattle.um_words.specs.declared.fine.Unseen.{Unseen}
use Rattle.um_fine.specs.Answers.{is_due_act, is_tick}
use Rattle.um_fine.specs.Asks.{next_site, site_by}
use Rattle.um_fine.specs.Places.{Todos}
use Rattle.um_fine.specs.Processor.{Processor}
use Rattle.um_fine.specs.Steps.{FineStep, Site}
use Rattle.um_merge.specs.declared.logged.Logged.{Logged}
use Rattle.um_processor.specs.Idles.{is_turn}
use Rattle.um_processor.specs.Processors.{IsStuck, Turned, TurnedAt, UnlessMade, site_next}
use Rattle.um_processor.specs.Standing.{whole}
use Rattle.um_processor.specs.declared.phase.Turn.{Turn}
use Rattle.um_site.specs.declared.seat.Seat.{Seat}
use Rattle.um_board.specs.Contents.{Known}
use Rattle.um_board.specs.NextSteps.{stands_at}
use Rattle.um_board.specs.Placed.{IsAt}
use Rattle.um_board.specs.ReadBack.{fine_at}
use Rattle.um_board.specs.Saw.{SawAt}
use Rattle.um_board.specs.Seated.{KeepsPlace, Noted, Unnoted}
use Rattle.um_board.specs.declared.seated.Seated.{Seated}
use Rattle.um_board.proofs.Keeping.{unnoted-then}
use Rattle.um_history.specs.Fine.{WasRefused}
use Rattle.um_history.specs.Played.{SCHEDULER}
use Rattle.um_history.proofs.Stood.{IsSeatOf}
use Rattle.um_refinement.specs.After.{left_by}
use Rattle.um_refinement.specs.Choice.{IsChosen}
use Rattle.um_cpu.specs.Cpus.{Advances, HasAsked, HasTended, LetsStand, Stands}
use Rattle.um_cpu.specs.Playing.{IsPlaying}
use Rattle.um_cpu.specs.declared.cpu.Cpu.{Cpu}
use Rattle.um_cpu.proofs.Advances.{ChosenBehind, at-next, own, LateAt, ShutAt, alone-before, looked-first, looks-on, noted-all, stands-on, stands-there, turned-keeps, turned-on, unnoted-there}
use Rattle.um_cpu.proofs.Asks.{asked-of, has-next, refused-step, seat-of}
use Rattle.um_cpu.proofs.Choosing.{gives, listed-chosen, ticks, turn-chosen}
use Rattle.um_cpu.proofs.Runs.{RunsKnown}

-- what is chosen behind the steps of a seat is so if the seat only looked since
chosen-first : (image : Image) (k : ℕ) (s mid : Seat Known) (a b : List Logged) (e : FineStep) → Unnoted s a mid b → ChosenBehind image k s e → ChosenBehind image k mid e
chosen-first image k s mid a b e u chosen alone =
    subst (λ l. IsChosen (left_by image 1 (map (fine_at k) l)) e) (sym u.made) (chosen (alone-before s mid u.keeps alone))

-- It asks for its next step. If it has no thread, that takes one that is ready.
module _ (image : Image) (k : ℕ) (s t : Seated) (p q : Processor) where
  abbrev Made : FineStep → Type 0
  Made e = Noted s.seat s.log.items e t.seat t.log.items

  abbrev Refused : FineStep → Type 0
  Refused e = Unnoted s.seat s.log.items t.seat t.log.items × ShutAt image s t e

  abbrev Hindered : Site → Type 0
  Hindered site = Unnoted s.seat s.log.items t.seat t.log.items × LateAt s t site

  -- what comes of the turn of one without a thread
  abbrev pub Takes : Turn → Type 0
  Takes turn = TurnedAt Site.scheduler turn k image p q
      (λ e. (is_turn e.act ≡ true) × Made e)
      (λ e. (e.site ≡ Site.scheduler) × (is_turn e.act ≡ true) × Unnoted s.seat s.log.items t.seat t.log.items × ShutAt image s t e)
      Hindered
      (t ≡ s)

  pub turn-keeps : (turn : Turn) → Turned turn k image p q Made Refused Hindered (t ≡ s) → KeepsPlace s.seat t.seat
  turn-keeps turn turned =
      turned-keeps image k p q s.seat s.log.items t.seat t.log.items (site_next image p) Made Refused Hindered (t ≡ s) (λ e took. took) (λ e shut. shut.0) (λ late. late.0) (unnoted-there s t)
      turn (at-next image k turn p q Made Refused Hindered (t ≡ s) turned)

  pub turn-goes : (turn : Turn) → UnlessMade turn (q ≡ p) → Turned turn k image p q Made Refused Hindered (t ≡ s) → (p.todo ≡ [] → Takes turn) → Advances image k p s.seat s.log.items q t.seat t.log.items
  turn-goes turn same turned takes = by p.todo refl
    where
      by : (todo : Todos) → p.todo ≡ todo → Advances image k p s.seat s.log.items q t.seat t.log.items
      by [] at =
          turned-on image k p q s.seat s.log.items t.seat t.log.items Site.scheduler (λ e. (is_turn e.act ≡ true) × Made e) (λ e. (e.site ≡ Site.scheduler) × (is_turn e.act ≡ true) × Unnoted s.seat s.log.items t.seat t.log.items × ShutAt image s t e) Hindered (t ≡ s)
          (λ e took. took.1) (λ e shut. shut.2) (λ late. late.0) (unnoted-there s t)
          turn (λ e took goes alone. turn-chosen (left_by image 1 (own image k s.seat)) e took.0) same (takes at)
      by (x ∷ todo) at =
          let some : p.todo ≢ [] = λ none. let e : x ∷ todo ≡ [] = sym at ∙ none in cc in
          turned-on image k p q s.seat s.log.items t.seat t.log.items (site_next image p) Made Refused Hindered (t ≡ s)
          (λ e took. took) (λ e shut. shut.0) (λ late. late.0) (unnoted-there s t)
          turn (λ e took goes alone. listed-chosen (left_by image 1 (own image k s.seat)) k image p q e some goes) same (at-next image k turn p q Made Refused Hindered (t ≡ s) turned)

  module _ (runs : RunsKnown image) (seat : IsSeatOf image k s.seat) (there : p ≡ stands_at image k s.seat.token.me.0.made) (long : length s.log.items ≡ length s.seat.token.me.0.made) (most : weight image < s.log.room) where
    pub turn-asked : (turn : Turn) → UnlessMade turn (q ≡ p) → Turned turn k image p q Made Refused Hindered (t ≡ s) → turn ≢ Turn.Stuck → HasAsked image k p q s.seat s.log.items t.seat t.log.items
    turn-asked turn same turned on =
        asked-of image runs k s.seat seat p there q s.log.items t.seat t.log.items s.log.room long most (FineAct.Unseen Unseen.Done) (site_next image p) refl Made Refused Hindered (t ≡ s)
        (λ e took. took) (λ e shut. shut) (λ late. late) turn same (at-next image k turn p q Made Refused Hindered (t ≡ s) turned) on

-- It asks at the clock.
module _ (image : Image) (k : ℕ) (s t : Seated) (p q : Processor) (test : FineAct → Bool) where
  abbrev Took : FineStep → Type 0
  Took e = (test e.act ≡ true) × Noted s.seat s.log.items e t.seat t.log.items

  abbrev Shut : FineStep → Type 0
  Shut e = (e.site ≡ Site.clock) × (test e.act ≡ true) × Unnoted s.seat s.log.items t.seat t.log.items × ShutAt image s t e

  abbrev Late : Site → Type 0
  Late site = Unnoted s.seat s.log.items t.seat t.log.items × LateAt s t site

  -- what comes of the turn, for a step at the clock that passes the test
  abbrev pub Idled : Turn → Type 0
  Idled turn = TurnedAt Site.clock turn k image p q Took Shut Late (t ≡ s)

  pub idled-on : (turn : Turn) → ((e : FineStep) → test e.act ≡ true → ChosenBehind image k s.seat e) → UnlessMade turn (q ≡ p) → Idled turn → Advances image k p s.seat s.log.items q t.seat t.log.items
  idled-on turn chosen same turned =
      turned-on image k p q s.seat s.log.items t.seat t.log.items Site.clock Took Shut Late (t ≡ s) (λ e took. took.1) (λ e shut. shut.2) (λ late. late.0) (unnoted-there s t)
      turn (λ e took goes. chosen e took.0) same turned

  pub idled-keeps : (turn : Turn) → Idled turn → KeepsPlace s.seat t.seat
  idled-keeps turn turned =
      turned-keeps image k p q s.seat s.log.items t.seat t.log.items Site.clock Took Shut Late (t ≡ s) (λ e took. took.1) (λ e shut. shut.2) (λ late. late.0) (unnoted-there s t) turn turned

  module _ (runs : RunsKnown image) (seat : IsSeatOf image k s.seat) (there : p ≡ stands_at image k s.seat.token.me.0.made) (empty : p.todo ≡ []) (stuck : IsStuck image p → ⊥)
      (same : length s.log.items ≡ length s.seat.token.me.0.made) (most : weight image < s.log.room) where
    clock-next : next_site image p (FineAct.Unseen Unseen.Due) ≡ Site.clock
    clock-next = ap (λ (todo : Todos). site_by image p todo (FineAct.Unseen Unseen.Due)) empty

    never : (turn : Turn) → Idled turn → turn ≢ Turn.Stuck
    never Turn.Stuck turned = λ e. stuck turned.1
    never Turn.Made turned = λ e. absurd (cc)
    never Turn.Busy turned = λ e. absurd (cc)
    never Turn.Changed turned = λ e. absurd (cc)

    pub idled-asked : (turn : Turn) → UnlessMade turn (q ≡ p) → Idled turn → HasAsked image k p q s.seat s.log.items t.seat t.log.items
    idled-asked turn kept turned =
        asked-of image runs k s.seat seat p there q s.log.items t.seat t.log.items s.log.room same most (FineAct.Unseen Unseen.Due) Site.clock clock-next Took Shut Late (t ≡ s)
        (λ e took. took.1) (λ e shut. (shut.2, shut.3)) (λ late. late) turn kept turned (never turn turned)

-- A processor tends to time, whose seat looked at the scheduler's word, by which none is ready.
module _ (image : Image) (runs : RunsKnown image) (c : Cpu) (at : IsAt image c.place) (stands : IsPlaying image c) (empty : (whole c.processor).todo ≡ []) (w : ℕ) (saw : SawAt c.place.seat SCHEDULER w)
    (none : (cell_of w).ready ≡ 0) where
  seat : IsSeatOf image c.number c.place.seat
  seat = seat-of image _ _ c.number (whole c.processor) c.place.seat c.place.log.items at.seated stands

  there : whole c.processor ≡ stands_at image c.number c.place.seat.token.me.0.made
  there = stands-there image c.number (whole c.processor) c.place.seat c.place.log.items stands

  stuck : IsStuck image (whole c.processor) → ⊥
  stuck is = has-next image runs c.number c.place.seat seat (whole c.processor) there SCHEDULER w saw is

  same : length c.place.log.items ≡ length c.place.seat.token.me.0.made
  same = noted-all image c.number (whole c.processor) c.place.seat c.place.log.items stands

  -- it asks for a mark
  module _ (t : Seated) (q : Processor) (turn : Turn) (kept : UnlessMade turn (q ≡ whole c.processor)) (gave : Idled image c.number c.place t (whole c.processor) q is_due_act turn) where
    pub gave-goes : Advances image c.number (whole c.processor) c.place.seat c.place.log.items q t.seat t.log.items
    gave-goes = idled-on image c.number c.place t (whole c.processor) q is_due_act turn (λ e due. gives image runs c.number c.place.seat seat w saw none e due) kept gave

    pub gave-keeps : KeepsPlace c.place.seat t.seat
    gave-keeps = idled-keeps image c.number c.place t (whole c.processor) q is_due_act turn gave

    pub gave-asked : HasAsked image c.number (whole c.processor) q c.place.seat c.place.log.items t.seat t.log.items
    gave-asked = idled-asked image c.number c.place t (whole c.processor) q is_due_act runs seat there empty stuck same at.enough turn kept gave

  -- it was refused one
  module _ (mid : Seated) (r : Processor) (turn : Turn) (busy : turn ≡ Turn.Busy) (kept-r : UnlessMade turn (r ≡ whole c.processor)) (gave : Idled image c.number c.place mid (whole c.processor) r is_due_act turn) where
    abbrev refused : Idled image c.number c.place mid (whole c.processor) (whole c.processor) is_due_act Turn.Busy
    refused = subst (λ (x : Turn). Idled image c.number c.place mid (whole c.processor) r is_due_act x) busy gave

    pub is-same : r ≡ whole c.processor
    is-same = subst (λ (x : Turn). UnlessMade x (r ≡ whole c.processor)) busy kept-r

    pub looked : Unnoted c.place.seat c.place.log.items mid.seat mid.log.items
    looked = refused.1.2

    was-refused : WasRefused image c.number c.place.seat mid.seat refused.0
    was-refused = refused-step image runs c.number c.place.seat seat (whole c.processor) there mid.seat refused.0 refused.2 refused.1.3

    -- it stands as before
    pub behind : Stands image c.number r mid.seat mid.log.items
    behind = stands-on image c.number (whole c.processor) r c.place.seat c.place.log.items mid.seat mid.log.items stands looked.keeps
        (looks-on image c.number (whole c.processor) r c.place.seat c.place.log.items mid.seat mid.log.items looked is-same)

    -- and a thread runs: it lets time stand
    pub stands-running : 0 < (cell_of w).running → LetsStand image c.number (whole c.processor) c.place.seat mid.seat w
    stands-running some = LetsStand.runs refused.0 refused.1.1 refused.2 was-refused some

    -- or none runs, and it asks for the next tick
    module _ (still : (cell_of w).running ≡ 0) (placed : IsAt image mid) (t : Seated) (q : Processor) (next : Turn) (kept-q : UnlessMade next (q ≡ r)) (ticked-r : Idled image c.number mid t r q is_tick next) where
      kept : UnlessMade next (q ≡ whole c.processor)
      kept = subst (λ (x : Processor). UnlessMade next (q ≡ x)) is-same kept-q

      ticked : Idled image c.number mid t (whole c.processor) q is_tick next
      ticked = subst (λ (x : Processor). Idled image c.number mid t x q is_tick next) is-same ticked-r

      stands-mid : Stands image c.number (whole c.processor) mid.seat mid.log.items
      stands-mid = subst (λ (x : Processor). Stands image c.number x mid.seat mid.log.items) is-same behind

      seat-mid : IsSeatOf image c.number mid.seat
      seat-mid = seat-of image _ _ c.number (whole c.processor) mid.seat mid.log.items placed.seated stands-mid

      there-mid : whole c.processor ≡ stands_at image c.number mid.seat.token.me.0.made
      there-mid = stands-there image c.number (whole c.processor) mid.seat mid.log.items stands-mid

      from-mid : Advances image c.number (whole c.processor) mid.seat mid.log.items q t.seat t.log.items
      from-mid = idled-on image c.number mid t (whole c.processor) q is_tick next
          (λ e tick.
          chosen-first image c.number c.place.seat mid.seat c.place.log.items mid.log.items e looked
          (ticks image runs c.number c.place.seat seat w saw none still mid.seat refused.0 refused.1.0 refused.1.1 was-refused e tick))
          kept ticked

      pub ticked-goes : Advances image c.number (whole c.processor) c.place.seat c.place.log.items q t.seat t.log.items
      ticked-goes = looked-first image c.number (whole c.processor) q c.place.seat c.place.log.items mid.seat mid.log.items t.seat t.log.items looked from-mid

      pub ticked-keeps : KeepsPlace c.place.seat t.seat
      ticked-keeps = idled-keeps image c.number mid t (whole c.processor) q is_tick next ticked ∙ looked.keeps

      pub ticked-asked : HasTended image c.number (whole c.processor) q c.place.seat c.place.log.items t.seat t.log.items
      ticked-asked =
          let first = gave-asked mid r turn kept-r gave in
          let asked = idled-asked image c.number mid t (whole c.processor) q is_tick runs seat-mid there-mid
          empty stuck (noted-all image c.number (whole c.processor) mid.seat mid.log.items stands-mid) placed.enough next kept ticked in
          HasTended.ticked mid.seat
          (subst (λ (x : Processor). HasAsked image c.number (whole c.processor) x c.place.seat c.place.log.items mid.seat c.place.log.items) is-same
          (subst (λ (l : List Logged). HasAsked image c.number (whole c.processor) r c.place.seat c.place.log.items mid.seat l) looked.log first))
          (subst (λ (l : List Logged). HasAsked image c.number (whole c.processor) q mid.seat l t.seat t.log.items) looked.log asked)

      -- it was refused that too: it lets time stand
      module _ (shut : next ≡ Turn.Busy) where
        abbrev denied : Idled image c.number mid t (whole c.processor) (whole c.processor) is_tick Turn.Busy
        denied = subst (λ (x : Turn). Idled image c.number mid t (whole c.processor) q is_tick x) shut ticked

        pub waits-same : q ≡ whole c.processor
        waits-same = subst (λ (x : Turn). UnlessMade x (q ≡ whole c.processor)) shut kept

        pub waits-looked : Unnoted c.place.seat c.place.log.items t.seat t.log.items
        waits-looked = unnoted-then c.place.seat mid.seat t.seat c.place.log.items mid.log.items t.log.items looked denied.1.2

        pub stands-waiting : LetsStand image c.number (whole c.processor) c.place.seat t.seat w
        stands-waiting = LetsStand.waits mid.seat refused.0 refused.1.1 refused.2 was-refused still denied.0 denied.1.1 denied.2
            (refused-step image runs c.number mid.seat seat-mid (whole c.processor) there-mid t.seat denied.0 denied.2 denied.1.3)
