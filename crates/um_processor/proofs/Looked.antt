-- Looks: for a thread that was aborted, and for one whose deadline has come; and the expiry of a timer.
use Rattle.std.proofs.Common.{◌≡◌, ℕ, Bool, true, false, List, [], not, refl, sym, subst, ap, ◌∙◌}
use Rattle.std.specs.Prelude.{◌==◌, if◌then◌else◌, Some}
use Rattle.um_base.specs.declared.act.Act.{Act}
use Rattle.um_base.specs.declared.ask.Told.{Told}
use Rattle.um_base.specs.declared.image.Image.{Image}
use Rattle.um_base.specs.declared.limits.TheConstants.{FUTEX_CELL}
use Rattle.um_base.specs.declared.names.Addr.{Addr}
use Rattle.um_base.specs.declared.names.ThreadIx.{ThreadIx}
use Rattle.um_machine.specs.Order.{to_row, to_thread}
use Rattle.um_machine.specs.Table.{replies_of}
use Rattle.um_machine.specs.Time.{has_run_out, told_late}
use Rattle.um_words.specs.declared.fine.FineAct.{FineAct}
use Rattle.um_words.specs.declared.fine.Mark.{Mark}
use Rattle.um_words.specs.declared.fine.More.{More}
use Rattle.um_fine.specs.Addresses.{address_of}
use Rattle.um_fine.specs.Answers.{act_in, is_void, woken_in}
use Rattle.um_fine.specs.Context.{Context}
use Rattle.um_fine.specs.Follows.{filled_up, told_all}
use Rattle.um_fine.specs.Joins.{join_finds}
use Rattle.um_fine.specs.Objects.{ObjectCell, object_finds, run_out}
use Rattle.um_fine.specs.Processor.{Processor, actor_or}
use Rattle.um_fine.specs.Seeking.{finds, looked_for}
use Rattle.um_fine.specs.Sites.{site_numbered}
use Rattle.um_fine.specs.Steps.{Exchange, FineStep, Site, Word}
use Rattle.um_tables.specs.Asked.{shown}
use Rattle.um_tables.specs.Looks.{KeptIn, look_act, look_sent, looked_in, site_in}
use Rattle.um_tables.specs.ObjectCells.{expired_made}
use Rattle.um_tables.specs.declared.look.Look.{Look}
use Rattle.um_tables.specs.declared.look.Waiting.{Waiting}
use Rattle.um_processor.specs.declared.phase.Phase.{Phase}
use Rattle.um_processor.specs.declared.running.Running.{Running}
use Rattle.um_processor.specs.Events.{with_woken}
use Rattle.um_processor.specs.Processors.{Goes, behind_errand, in_phase, with_todo}

-- a step that looks, at a site, and by whether it finds
abbrev pub seen : ℕ → Site → Word → Bool → FineAct → Exchange → FineStep
seen cpu site word found act moved = record { cpu = cpu; site = site; act = looked_for found act; word = word; moved = moved }

-- whether it finds is known from what it shows
said-found : (b : Bool) (t : ThreadIx) (act : Act) → not (is_void (looked_for b (shown t act More.Nothing))) ≡ b
said-found true t act = refl
said-found false t act = refl

module _ (image : Image) (cpu : ℕ) where
  -- a look in a cell is such a step
  pub record Seen (cell : Waiting) (n : ℕ) (kept : KeptIn cell) (look : Look) : Type 0 where
    pub found : Bool
    pub word : Word
    pub is : looked_in image cpu cell n kept look ≡ seen cpu (site_in cell) word found (look_act look) (look_sent look)

  pub looked-is : (cell : Waiting) (n : ℕ) (kept : KeptIn cell) (look : Look) → Seen cell n kept look
  looked-is (Waiting.Object x) n o (Look.Aborted t who before) =
      let look = Look.Aborted t who before in
      record { found = object_finds o (look_sent look); word = (looked_in image cpu (Waiting.Object x) n o look).word; is = refl }
  looked-is (Waiting.Object x) n o (Look.Late t who deadline site) =
      let look = Look.Late t who deadline site in
      record { found = object_finds o (look_sent look); word = (looked_in image cpu (Waiting.Object x) n o look).word; is = refl }
  looked-is Waiting.Memory n m (Look.Aborted t who before) =
      let look = Look.Aborted t who before in
      record { found = finds m.futexes m.noted (look_sent look); word = (looked_in image cpu Waiting.Memory n m look).word; is = refl }
  looked-is Waiting.Memory n m (Look.Late t who deadline site) =
      let look = Look.Late t who deadline site in
      record { found = finds m.futexes m.noted (look_sent look); word = (looked_in image cpu Waiting.Memory n m look).word; is = refl }
  looked-is Waiting.Joins n j (Look.Aborted t who before) =
      let look = Look.Aborted t who before in
      record { found = join_finds j (look_sent look); word = (looked_in image cpu Waiting.Joins n j look).word; is = refl }
  looked-is Waiting.Joins n j (Look.Late t who deadline site) =
      let look = Look.Late t who deadline site in
      record { found = join_finds j (look_sent look); word = (looked_in image cpu Waiting.Joins n j look).word; is = refl }

  module _ (r : Running) where
    abbrev own : Context
    own = r.context.value

    -- A look for a thread that was aborted.

    abbrev pub after_look : Bool → Processor
    after_look true = in_phase Phase.TellCut (record r { actor = Some own.thread })
    after_look false = with_todo r (filled_up image own (behind_errand r.after r))

    abbrev cuts : Look
    cuts = Look.Aborted (to_thread own.thread) (to_thread r.sought) r.before

    seen-goes : (word : Word) (b : Bool)
        → Goes cpu image (in_phase Phase.Look r) (seen cpu (site_numbered r.place) word b (look_act cuts) (look_sent cuts)) (after_look b)
    seen-goes word true = record { asks = record { maker = refl; makes = refl; fit = refl }; next = refl }
    seen-goes word false = record { asks = record { maker = refl; makes = refl; fit = refl }; next = refl }

    pub look-goes : (cell : Waiting) (n : ℕ) (kept : KeptIn cell) (t : ℕ) → site_in cell ≡ site_numbered r.place → t ≡ own.thread
        → let e = looked_in image cpu cell n kept (Look.Aborted (to_thread t) (to_thread r.sought) r.before) in
        (found : Bool) → found ≡ not (is_void e.act) → (z : Processor) → z ≡ after_look found → Goes cpu image (in_phase Phase.Look r) e z
    look-goes cell n kept t at thread found said z left =
        let made : ℕ → FineStep = λ k. looked_in image cpu cell n kept (Look.Aborted (to_thread k) (to_thread r.sought) r.before) in
        let s = looked-is cell n kept cuts in
        let same : made t ≡ seen cpu (site_numbered r.place) s.word s.found (look_act cuts) (look_sent cuts) =
        ap made thread ∙ (s.is ∙ ap (λ (x : Site). seen cpu x s.word s.found (look_act cuts) (look_sent cuts)) at) in
        let is : found ≡ s.found =
        said ∙ (ap (λ (e : FineStep). not (is_void e.act)) same ∙ said-found s.found (to_thread own.thread) (Act.Cut (to_thread r.sought))) in
        subst (λ (q : FineStep × Processor). Goes cpu image (in_phase Phase.Look r) q.0 q.1)
        (λ i. (sym same i, sym (left ∙ ap after_look is) i))
        (seen-goes s.word s.found)

    -- A look for a thread whose deadline has come, and what it is told.

    abbrev actor : ℕ
    actor = actor_or image r.actor

    abbrev pub paying : Bool → Running → Running
    paying true q = record q { actor = Some actor; phase = Phase.Paid }
    paying false q = record q { phase = Phase.Paid }

    abbrev pub woken_late : Bool → ThreadIx → ℕ → List (ThreadIx × Told)
    woken_late true who site = told_late who (if site == 304 then FUTEX_CELL else site)
    woken_late false who site = []

    abbrev late : ThreadIx → ℕ → Look
    late who site = Look.Late (to_thread actor) who r.deadline site

    -- with a mark in its hand
    abbrev in_hand : Mark → Processor
    in_hand mark = in_phase Phase.Handle (record r { mark = mark })

    late-goes : (who : ThreadIx) (site : ℕ) (word : Word) (b : Bool)
        → Goes cpu image (in_hand (Mark.Thread who site)) (seen cpu (site_numbered site) word b (look_act (late who site)) (look_sent (late who site)))
        (with_woken (woken_late b who site) (in_phase Phase.Paid (paying b r)))
    late-goes who site word true = record { asks = record { maker = refl; makes = refl; fit = refl }; next = refl }
    late-goes who site word false = record { asks = record { maker = refl; makes = refl; fit = refl }; next = refl }

    pub timed-goes : (who : ThreadIx) (site : ℕ) (cell : Waiting) (n : ℕ) (kept : KeptIn cell) (t : ℕ) → r.mark ≡ Mark.Thread who site
        → site_in cell ≡ site_numbered site → t ≡ actor
        → let e = looked_in image cpu cell n kept (Look.Late (to_thread t) who r.deadline site) in
        (found : Bool) → found ≡ not (is_void e.act) → (woken : List (ThreadIx × Told)) → woken ≡ woken_late found who site
        → (z : Processor) → z ≡ in_phase Phase.Paid (paying found r) → Goes cpu image (in_phase Phase.Handle r) e (with_woken woken z)
    timed-goes who site cell n kept t mark at thread found said woken told z left =
        let made : ℕ → FineStep = λ k. looked_in image cpu cell n kept (Look.Late (to_thread k) who r.deadline site) in
        let look = late who site in
        let s = looked-is cell n kept look in
        let same : made t ≡ seen cpu (site_numbered site) s.word s.found (look_act look) (look_sent look) =
        ap made thread ∙ (s.is ∙ ap (λ (x : Site). seen cpu x s.word s.found (look_act look) (look_sent look)) at) in
        let is : found ≡ s.found =
        said ∙ (ap (λ (e : FineStep). not (is_void e.act)) same ∙ said-found s.found (to_thread actor) (Act.TimedOut who)) in
        let behind : with_woken woken z ≡ with_woken (woken_late s.found who site) (in_phase Phase.Paid (paying s.found r)) =
        λ i. with_woken ((told ∙ ap (λ (b : Bool). woken_late b who site) is) i) ((left ∙ ap (λ (b : Bool). in_phase Phase.Paid (paying b r)) is) i) in
        subst (λ (q : Processor × FineStep × Processor). Goes cpu image q.0 q.1 q.2)
        (λ i. (in_hand (sym mark i), sym same i, sym behind i))
        (late-goes who site s.word s.found)

    -- The expiry of a timer.

    abbrev expired : ℕ → ObjectCell → FineAct
    expired x o = shown (to_thread actor) (Act.Expire (address_of image x) (replies_of (run_out o).2)) More.Nothing

    expiry-goes : (x : ℕ) (o : ObjectCell) (word : Word) (b : Bool)
        → let e = seen cpu (Site.object x) word b (expired x o) (Exchange.mark r.deadline (Mark.Timer (to_row x))) in
        Goes cpu image (in_hand (Mark.Timer (to_row x))) e (with_woken (told_all (woken_in (act_in e.act))) (in_phase Phase.Paid (paying b r)))
    expiry-goes x o word true = record { asks = record { maker = refl; makes = refl; fit = refl }; next = refl }
    expiry-goes x o word false = record { asks = record { maker = refl; makes = refl; fit = refl }; next = refl }

    pub expires-goes : (x : ℕ) (n : ℕ) (o : ObjectCell) (t : ℕ) (a : Addr) → r.mark ≡ Mark.Timer (to_row x) → t ≡ actor → a ≡ address_of image x
        → let e = expired_made image cpu x n o (to_thread t) a r.deadline in
        (found : Bool) → found ≡ not (is_void e.act) → (woken : List (ThreadIx × Told)) → woken ≡ told_all (woken_in (act_in e.act))
        → (z : Processor) → z ≡ in_phase Phase.Paid (paying found r) → Goes cpu image (in_phase Phase.Handle r) e (with_woken woken z)
    expires-goes x n o t a mark thread at found said woken told z left =
        let made : ℕ → Addr → FineStep = λ k b. expired_made image cpu x n o (to_thread k) b r.deadline in
        let there : FineStep = made actor (address_of image x) in
        let same : made t a ≡ there = λ i. made (thread i) (at i) in
        let b = has_run_out r.deadline o.contents in
        let is : found ≡ b =
        said ∙ (ap (λ (e : FineStep). not (is_void e.act)) same ∙ said-found b (to_thread actor) (Act.Expire (address_of image x) (replies_of (run_out o).2))) in
        let behind : with_woken woken z ≡ with_woken (told_all (woken_in (act_in there.act))) (in_phase Phase.Paid (paying b r)) =
        λ i. with_woken ((told ∙ ap (λ (e : FineStep). told_all (woken_in (act_in e.act))) same) i) ((left ∙ ap (λ (c : Bool). in_phase Phase.Paid (paying c r)) is) i) in
        subst (λ (q : Processor × FineStep × Processor). Goes cpu image q.0 q.1 q.2)
        (λ i. (in_hand (sym mark i), sym same i, sym behind i))
        (expiry-goes x o there.word b)
