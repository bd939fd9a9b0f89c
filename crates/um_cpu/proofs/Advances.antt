-- How a processor goes on at its seat.
use Rattle.std.proofs.Common.{◌≡◌, ℕ, ◌<◌, List, [], ◌∷◌, ◌++◌, length, map, refl, sym, ap, ◌∙◌, subst, arith, append_assoc}
use Rattle.std.proofs.lemmas.List.{append-nil, length-map}
use Rattle.um_base.specs.declared.image.Image.{Image}
use Rattle.um_words.specs.declared.made.Made.{Made}
use Rattle.um_fine.specs.Follows.{p_next}
use Rattle.um_fine.specs.Processor.{Processor, idle}
use Rattle.um_fine.specs.Runs.{ends}
use Rattle.um_fine.specs.Sites.{site_number}
use Rattle.um_fine.specs.Steps.{FineStep, Site}
use Rattle.um_merge.specs.declared.logged.Logged.{Logged}
use Rattle.um_processor.specs.Processors.{Goes, MayNext, Turned, TurnedAt, UnlessMade, site_next}
use Rattle.um_processor.specs.Wants.{Wants}
use Rattle.um_refinement.specs.After.{left_by}
use Rattle.um_refinement.specs.Choice.{AreChosen, IsChosen}
use Rattle.um_tables.specs.Asked.{AsksFor}
use Rattle.um_core.proofs.OneStep.{wants-fit}
use Rattle.um_core.proofs.OneWhole.{chosen-more}
use Rattle.um_processor.specs.declared.phase.Turn.{Turn}
use Rattle.um_site.specs.declared.seat.Seat.{Seat}
use Rattle.um_board.specs.Contents.{Known}
use Rattle.um_board.specs.NextSteps.{IsNext, seat_name, stands_at}
use Rattle.um_board.specs.Noted.{logged_of, made_of}
use Rattle.um_board.specs.Opening.{AreOpening}
use Rattle.um_board.specs.ReadBack.{IsReadBack, fine_at}
use Rattle.um_board.specs.Saw.{Hinders, SawShut}
use Rattle.um_board.specs.Seated.{KeepsPlace, KeptPlace, Noted, Unnoted}
use Rattle.um_board.specs.declared.seated.Seated.{Seated}
use Rattle.um_board.proofs.Keeping.{unnoted-same}
use Rattle.um_board.proofs.Saws.{got-behind}
use Rattle.um_history.specs.Fine.{IsAlone}
use Rattle.um_history.specs.Played.{Played, SCHEDULER, SawQuiet}
use Rattle.um_history.proofs.Entries.{listed}
use Rattle.um_history.proofs.Granted.{own-steps-of}
use Rattle.um_history.proofs.Lists.{each-both}
use Rattle.um_history.proofs.Playing.{Playing, ends-on, plays-looked, plays-none, plays-on, saw-quiet}
use Rattle.um_cpu.specs.Cpus.{Advances, HasMade, NoneLeft, Plays, Reaches, Rests, Stands}

-- a step that it wants, it asks for
pub asks-for : (cpu : ℕ) (image : Image) (p : Processor) (e : FineStep) → Wants cpu image p e → AsksFor cpu image p e
asks-for cpu image p e wants = record { maker = wants.maker; makes = wants.makes; fit = wants-fit image p p.todo e wants.fit }

-- a seat that keeps its place was alone before, if it is alone
pub alone-before : (s t : Seat Known) → KeepsPlace s t → IsAlone t → IsAlone s
alone-before s t keeps alone =
    record {
      name = sym (ap (λ (p : KeptPlace). p.name) keeps) ∙ alone.name;
      children = sym (ap (λ (p : KeptPlace). p.children) keeps) ∙ alone.children;
      lists = sym (ap (λ (p : KeptPlace). p.lists) keeps) ∙ alone.lists;
    }

module _ (image : Image) (k : ℕ) where
  -- the steps that the processor of a seat has made, as the seat's list has them
  abbrev pub own : Seat Known → List FineStep
  own s = map (fine_at k) s.token.me.0.made

  -- if its seat is alone, a step that is made behind them is chosen
  abbrev pub ChosenBehind : Seat Known → FineStep → Type 0
  ChosenBehind s e = IsAlone s → IsChosen (left_by image 1 (own s)) e

  pub own-are : (s : Seat Known) (log : List Logged) (steps : List FineStep) → Played image k s.token.me.0.made log steps → own s ≡ steps
  own-are s log steps played =
      let whole = each-both (λ (e : FineStep). e.cpu ≡ k) IsReadBack steps (own-steps-of image k idle steps played.run) played.whole in
      ap (map (fine_at k)) played.made_is ∙ listed k steps whole

  -- the same in the words of a processor that plays
  plays : (p : Processor) (s : Seat Known) (log : List Logged) (steps : List FineStep) → HasMade image k p s log steps → Playing image k s.token.me.0.made s.token.me.0.got log steps
  plays p s log steps made = record { played = made.played; left = made.known }

  has-made : (p : Processor) (s : Seat Known) (log : List Logged) (steps : List FineStep) (made : List Made) (got : List (ℕ × ℕ)) (now : List Logged)
      → s.token.me.0.made ≡ made → s.token.me.0.got ≡ got → log ≡ now → Playing image k made got now steps → p ≡ ends (p_next image) idle steps → (IsAlone s → AreChosen image 1 steps)
      → HasMade image k p s log steps
  has-made p s log steps made got now is-made is-got is-log playing stands chosen =
      let it = subst (λ l. Playing image k s.token.me.0.made s.token.me.0.got l steps) (sym is-log)
      (subst (λ g. Playing image k s.token.me.0.made g now steps) (sym is-got) (subst (λ m. Playing image k m got now steps) (sym is-made) playing)) in
      record { played = it.played; stands = stands; known = it.left; chosen = chosen }

  -- before its first step
  pub has-none : (p : Processor) (s : Seat Known) (log : List Logged) → p ≡ idle → s.token.me.0.made ≡ [] → log ≡ [] → HasMade image k p s log []
  has-none p s log fresh none empty = has-made p s log [] [] s.token.me.0.got [] none refl empty (plays-none image k s.token.me.0.got) fresh (λ alone. tt)

  -- it makes a step
  pub made-on : (p q : Processor) (s : Seat Known) (old : List Logged) (t : Seat Known) (new : List Logged) (steps : List FineStep) (e : FineStep)
      → HasMade image k p s old steps → Noted s old e t new → Goes k image p e q → ChosenBehind s e → HasMade image k q t new (steps ++ e ∷ [])
  made-on p q s old t new steps e made noted goes chosen =
      has-made q t new (steps ++ e ∷ []) (s.token.me.0.made ++ made_of e ∷ []) (((made_of e).site, (made_of e).word) ∷ noted.got.0 ++ s.token.me.0.got) (old ++ logged_of e ∷ [])
      noted.made noted.got.1 noted.log
      (plays-on image k s.token.me.0.made s.token.me.0.got old steps (plays p s old steps made) e noted.got.0
      (subst (λ (x : Processor). AsksFor k image x e) made.stands (asks-for k image p e goes.asks)) noted.back)
      (goes.next ∙ (ap (λ (x : Processor). p_next image x e) made.stands ∙ sym (ends-on image steps e)))
      (λ alone.
      let before = alone-before s t noted.keeps alone in
      chosen-more image 1 [] steps e (made.chosen before) (subst (λ (l : List FineStep). IsChosen (left_by image 1 l) e) (own-are s old steps made.played) (chosen before)))

  -- it looks at most
  pub looked-on : (p q : Processor) (s : Seat Known) (old : List Logged) (t : Seat Known) (new : List Logged) (steps : List FineStep)
      → HasMade image k p s old steps → Unnoted s old t new → q ≡ p → HasMade image k q t new steps
  looked-on p q s old t new steps made unnoted same =
      has-made q t new steps s.token.me.0.made (unnoted.got.0 ++ s.token.me.0.got) old
      unnoted.made unnoted.got.1 unnoted.log
      (plays-looked image k s.token.me.0.made s.token.me.0.got old steps (plays p s old steps made) unnoted.got.0)
      (same ∙ made.stands)
      (λ alone. made.chosen (alone-before s t unnoted.keeps alone))

  pub looks-on : (p q : Processor) (s : Seat Known) (old : List Logged) (t : Seat Known) (new : List Logged) → Unnoted s old t new → q ≡ p → Advances image k p s old q t new
  looks-on p q s old t new unnoted same steps made =
      record { more = []; few = omega arith; made = subst (λ (l : List FineStep). HasMade image k q t new l) (sym (append-nil steps)) (looked-on p q s old t new steps made unnoted same) }

  -- it looks, and then goes on
  pub looked-first : (p q : Processor) (s : Seat Known) (old : List Logged) (t : Seat Known) (between : List Logged) (u : Seat Known) (new : List Logged)
      → Unnoted s old t between → Advances image k p t between q u new → Advances image k p s old q u new
  looked-first p q s old t between u new unnoted goes steps made = goes steps (looked-on p p s old t between steps made unnoted refl)

  -- What comes of a turn at a site, by what is known of a step that was made, of one that was refused, of what is late, and where there is none.
  module _ (p q : Processor) (s : Seat Known) (old : List Logged) (t : Seat Known) (new : List Logged) (site : Site) (took shut : FineStep → Type 0) (late : Site → Type 0) (none : Type 0)
      (noted : (e : FineStep) → took e → Noted s old e t new) (refused : (e : FineStep) → shut e → Unnoted s old t new) (hindered : late site → Unnoted s old t new) (unnoted : none → Unnoted s old t new) where
    pub turned-on : (turn : Turn) → ((e : FineStep) → took e → Goes k image p e q → ChosenBehind s e) → UnlessMade turn (q ≡ p) → TurnedAt site turn k image p q took shut late none → Advances image k p s old q t new
    turned-on Turn.Made chosen same turned =
        λ steps made. record { more = turned.0 ∷ []; few = omega arith; made = made-on p q s old t new steps turned.0 made (noted turned.0 turned.1) turned.2 (chosen turned.0 turned.1 turned.2) }
    turned-on Turn.Busy chosen same turned = looks-on p q s old t new (refused turned.0 turned.1) same
    turned-on Turn.Changed chosen same turned = looks-on p q s old t new (hindered turned) same
    turned-on Turn.Stuck chosen same turned = looks-on p q s old t new (unnoted turned.0) same

    -- a turn keeps the seat's place
    pub turned-keeps : (turn : Turn) → TurnedAt site turn k image p q took shut late none → KeepsPlace s t
    turned-keeps Turn.Made turned = (noted turned.0 turned.1).keeps
    turned-keeps Turn.Busy turned = (refused turned.0 turned.1).keeps
    turned-keeps Turn.Changed turned = (hindered turned).keeps
    turned-keeps Turn.Stuck turned = (unnoted turned.0).keeps

  -- a turn is at the site of the step that it asks for next
  pub at-next : (turn : Turn) (p q : Processor) (took shut : FineStep → Type 0) (late : Site → Type 0) (none : Type 0) → Turned turn k image p q took shut late none
      → TurnedAt (site_next image p) turn k image p q took shut late none
  at-next Turn.Made p q took shut late none turned = turned
  at-next Turn.Busy p q took shut late none turned = turned
  at-next Turn.Changed p q took shut late none turned = turned
  at-next Turn.Stuck p q took shut late none turned = turned

  -- a processor without a thread that sees nothing ready, running or owed
  pub rests-saw : (p q : Processor) (s : Seat Known) (old : List Logged) (t : Seat Known) (new : List Logged) (word : ℕ) (steps : List FineStep)
      → HasMade image k p s old steps → Rests image k p q s old t new word → NoneLeft word → SawQuiet t.token.me.0.got steps
  rests-saw p q s old t new word steps made rests none =
      let saw = saw-quiet image k s.token.me.0.made s.token.me.0.got old steps (plays p s old steps made) word rests.newest rests.none none.0 none.1 in
      let looked = rests.got.0 in
      subst (λ (got : List (ℕ × ℕ)). SawQuiet got steps) (sym rests.got.1)
      (record { word = saw.word; seen = got-behind looked ((SCHEDULER, word) ∷ s.token.me.0.got) SCHEDULER saw.word saw.seen; ready = saw.ready; running = saw.running; owed = saw.owed; newest = saw.newest })

  -- such a processor has made what it had made before
  pub rests-on : (p q : Processor) (s : Seat Known) (old : List Logged) (t : Seat Known) (new : List Logged) (word : ℕ) (steps : List FineStep)
      → HasMade image k p s old steps → Rests image k p q s old t new word → HasMade image k q t new steps
  rests-on p q s old t new word steps made rests =
      looked-on p q s old t new steps made
      (record {
        keeps = rests.keeps;
        made = rests.made;
        log = rests.log;
        got = (rests.got.0 ++ (SCHEDULER, word) ∷ [], rests.got.1 ∙ sym (append_assoc rests.got.0 ((SCHEDULER, word) ∷ []) s.token.me.0.got));
      })
      rests.same

  -- turns one after another
  pub reaches-itself : (p : Processor) (s : Seat Known) (old : List Logged) → Reaches image k p s old p s old
  reaches-itself p s old steps made = (steps, made)

  pub reaches-on : (p q x : Processor) (s : Seat Known) (old : List Logged) (t : Seat Known) (between : List Logged) (u : Seat Known) (new : List Logged)
      → Reaches image k p s old q t between → Advances image k q t between x u new → Reaches image k p s old x u new
  reaches-on p q x s old t between u new reaches goes steps made =
      let was = reaches steps made in
      let now = goes was.0 was.1 in
      (was.0 ++ now.more, now.made)

  pub plays-out : (p q x : Processor) (s : Seat Known) (old : List Logged) (t : Seat Known) (between : List Logged) (u : Seat Known) (new : List Logged) (word : ℕ)
      → Reaches image k p s old q t between → Rests image k q x t between u new word → NoneLeft word → Plays image k p s old x u new
  plays-out p q x s old t between u new word reaches rests none steps made =
      let was = reaches steps made in
      (was.0, rests-on q x t between u new word was.0 was.1 rests, rests-saw q x t between u new word was.0 was.1 rests none)

-- what told that a step is refused, and what hindered a step at a site, of a processor at its place that asked once
abbrev pub ShutAt : Image → Seated → Seated → FineStep → Type 0
ShutAt image s t e = SawShut image s.seat t.seat e

abbrev pub LateAt : Seated → Seated → Site → Type 0
LateAt s t site = Hinders s.log.room s.log.items s.seat t.seat (site_number site)

pub unnoted-there : (s t : Seated) → t ≡ s → Unnoted s.seat s.log.items t.seat t.log.items
unnoted-there s t same = subst (λ (x : Seated). Unnoted s.seat s.log.items x.seat x.log.items) (sym same) (unnoted-same s.seat s.log.items)

-- The processor of a seat that has made some steps asks for the next one, which the board's rule lets it make.

module _ (image : Image) (k : ℕ) where
  -- it stands where the steps of its list lead
  pub stands-there : (p : Processor) (s : Seat Known) (log : List Logged) → Stands image k p s log → p ≡ stands_at image k s.token.me.0.made
  stands-there p s log stands = stands.made.stands ∙ ap (ends (p_next image) idle) (sym (own-are image k s log stands.steps stands.made.played))

  pub stands-next : (p : Processor) (s : Seat Known) (log : List Logged) → Stands image k p s log → MayNext k image p (IsNext image s.token.me.0.name s.token.me.0.made)
  stands-next p s log stands e asks =
      record { k = k; few = stands.few; named = stands.named; asks = subst (λ (x : Processor). AsksFor k image x e) (stands-there p s log stands) (asks-for k image p e asks) }

  -- its log has a note for each step of its list
  pub noted-all : (p : Processor) (s : Seat Known) (log : List Logged) → Stands image k p s log → length log ≡ length s.token.me.0.made
  noted-all p s log stands =
      let played = stands.made.played in
      let steps = stands.steps in
      ap length played.log_is ∙ length-map steps logged_of ∙ sym (ap length played.made_is ∙ length-map steps made_of)

  pub stands-on : (p q : Processor) (s : Seat Known) (old : List Logged) (t : Seat Known) (new : List Logged) → Stands image k p s old → KeepsPlace s t → Advances image k p s old q t new
      → Stands image k q t new
  stands-on p q s old t new stands keeps goes =
      let on = goes stands.steps stands.made in
      record {
        few = stands.few;
        named = ap (λ (p : KeptPlace). p.name) keeps ∙ stands.named;
        opening = subst (λ (p : KeptPlace). AreOpening image p.opening) (sym keeps) stands.opening;
        steps = stands.steps ++ on.more;
        made = on.made;
      }

  pub stands-first : (p : Processor) (s : Seat Known) (log : List Logged) → k < 8 → s.token.me.0.name ≡ seat_name k → AreOpening image s.token.me.0.opening → p ≡ idle → s.token.me.0.made ≡ [] → log ≡ [] → Stands image k p s log
  stands-first p s log few named opening fresh none empty = record { few = few; named = named; opening = opening; steps = []; made = has-none image k p s log fresh none empty }
