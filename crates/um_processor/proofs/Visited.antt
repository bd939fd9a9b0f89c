-- The visits of rows before a thread's next step.
use Rattle.std.proofs.Common.{◌≡◌, ℕ, ◌+◌, Bool, true, false, [], ◌∷◌, drop, refl, sym, subst, ap, ◌∙◌, Some}
use Rattle.std.specs.Prelude.{◌&&◌, not, if◌then◌else◌}
use Rattle.um_base.specs.declared.act.Act.{Act}
use Rattle.um_base.specs.declared.act.Leftover.{Leftover}
use Rattle.um_base.specs.declared.image.Image.{Image}
use Rattle.um_base.specs.declared.names.ThreadIx.{ThreadIx}
use Rattle.um_base.specs.Places.{addr_of, own_row}
use Rattle.um_machine.specs.declared.pending.Pending.{Pending}
use Rattle.um_machine.specs.Order.{Steps, to_addr, to_thread}
use Rattle.um_words.specs.declared.fine.FineAct.{FineAct}
use Rattle.um_words.specs.declared.fine.More.{More}
use Rattle.um_words.specs.declared.fine.Unseen.{Unseen}
use Rattle.um_words.specs.declared.row_word.RowWord.{RowWord}
use Rattle.um_words.specs.Rows.{has, is_last}
use Rattle.um_fine.specs.Addresses.{address_of}
use Rattle.um_fine.specs.Answers.{is_visit}
use Rattle.um_fine.specs.Asks.{begins_cleaning, is_dropped}
use Rattle.um_fine.specs.Context.{Context}
use Rattle.um_fine.specs.Follows.{dropped_at, filled_up, row_number, with_actor, with_cleaned}
use Rattle.um_fine.specs.Places.{but, cleaning, drops, with_cleaning}
use Rattle.um_fine.specs.Processor.{Processor}
use Rattle.um_fine.specs.Sites.{SiteState, filled}
use Rattle.um_fine.specs.Steps.{Exchange, FineStep, Site}
use Rattle.um_processor.specs.declared.phase.Phase.{Phase}
use Rattle.um_words.specs.declared.row_act.RowAct.{RowAct}
use Rattle.um_processor.specs.declared.running.Running.{Running}
use Rattle.um_tables.specs.Asked.{asked, shown}
use Rattle.um_processor.specs.Wants.{Wants}
use Rattle.um_processor.specs.Phases.{passed_to}
use Rattle.um_processor.specs.Processors.{Goes, cleaned, in_phase, processor_of, ready_of, todo_behind, todo_in, visiting, with_todo}
use Rattle.um_tables.specs.RowActs.{row_made}
use Rattle.um_processor.proofs.Phased.{dropped, passed}

-- a permission that is there is dropped
pub there-dropped : (there last : Bool) → there ≡ true → is_dropped (if not there then Leftover.NoPair else if last then Leftover.Gone else Leftover.Kept) ≡ true
there-dropped true true h = refl
there-dropped true false h = refl
there-dropped false last h = absurd (cc)

acted : (image : Image) (x : ℕ) (p : Processor) (b : Bool) (act : FineAct) → cleaned image x b (with_actor image p act) ≡ with_actor image (cleaned image x b p) act
acted image x p true (FineAct.Shown event more) = refl
acted image x p true (FineAct.Unseen unseen) = refl
acted image x p false act = refl

pub cleaned-is : (image : Image) (x : ℕ) (e : FineStep) (p : Processor) (b : Bool) → row_number e.site ≡ x
    → cleaned image x b (with_actor image p e.act) ≡ with_actor image (with_cleaned image p e b) e.act
cleaned-is image x e p true h = acted image x p true e.act ∙ ap (λ (n : ℕ). with_actor image (record p { todo = with_cleaning (cleaning image n) p.todo }) e.act) (sym h)
cleaned-is image x e p false h = refl

-- a visit by which a permission was dropped
dropped-is : (image : Image) (c : Context) (x : ℕ) → dropped_at image c x false ≡ record c { pending = Pending.Drops (x + 1) ∷ drop 1 c.pending }
dropped-is image c x = by c.pending
  where
    by : (steps : Steps) → dropped_at image (record c { pending = steps }) x false ≡ record c { pending = Pending.Drops (x + 1) ∷ drop 1 steps }
    by [] = refl
    by (q ∷ rest) = refl

module _ (image : Image) (cpu : ℕ) (r : Running) (w : RowWord) where
  -- the step at the row that is visited
  abbrev made : FineAct → FineStep
  made act = filled image (SiteState.row w) (asked cpu (Site.row r.row) act Exchange.nothing)

  abbrev me : ℕ
  me = r.context.value.thread

  -- the processor at the visit, once it made an event there, or only looked
  abbrev pub acting : Bool → Running
  acting visits = record r { actor = if visits then r.actor else Some me }

  visited : let who = passed_to r.context.value.pending in
      Goes cpu image (in_phase Phase.Pass r)
      (row_made image cpu r.row w (RowAct.Pass (to_thread me) (to_thread who) (address_of image r.row)))
      (processor_of (visiting (but (own_row image me) (r.row + 1)) Phase.Pass (acting (not (has w me && not (has w who))))))
  visited = by (has w me && not (has w (passed_to r.context.value.pending))) refl
    where
      by : (b : Bool) → (has w me && not (has w (passed_to r.context.value.pending))) ≡ b → let who = passed_to r.context.value.pending in
          Goes cpu image (in_phase Phase.Pass r)
          (made (if b then shown (to_thread me) (Act.Inherit (to_thread who) (address_of image r.row)) More.Nothing else FineAct.Unseen Unseen.Visit))
          (processor_of (visiting (but (own_row image me) (r.row + 1)) Phase.Pass (acting (not b))))
      by true h = record { asks = record { maker = refl; makes = refl; fit = refl }; next = passed image (acting false) (but (own_row image me) (r.row + 1)) }
      by false h =
          record { asks = record { maker = refl; makes = refl; fit = ap (λ (v : Bool). not v) h }; next = passed image (acting true) (but (own_row image me) (r.row + 1)) }

  -- it looks where it has nothing to pass on
  looks : (who : ThreadIx) (t a : ℕ) → is_visit (row_made image cpu r.row w (RowAct.Pass (to_thread t) who (to_addr a))).act ≡ not (has w t && not (has w who.0))
  looks who t a = by (has w t && not (has w who.0))
    where
      by : (b : Bool) → is_visit (made (if b then shown (to_thread t) (Act.Inherit who (to_addr a)) More.Nothing else FineAct.Unseen Unseen.Visit)).act ≡ not b
      by true = refl
      by false = refl

  pub pass-goes : (t a own y : ℕ) (who : ThreadIx) (visits : Bool) (z : Running) → t ≡ me → who.0 ≡ passed_to r.context.value.pending → a ≡ addr_of image r.row
      → own ≡ own_row image t → y ≡ but own (r.row + 1)
      → visits ≡ is_visit (row_made image cpu r.row w (RowAct.Pass (to_thread t) who (to_addr a))).act → z ≡ visiting y Phase.Pass (acting visits)
      → Goes cpu image (in_phase Phase.Pass r) (row_made image cpu r.row w (RowAct.Pass (to_thread t) who (to_addr a))) (processor_of z)
  pass-goes t a own y who visits z et ew ea eo ey ev ez =
      let looked : visits ≡ not (has w me && not (has w (passed_to r.context.value.pending))) =
      ev ∙ looks who t a ∙ (λ i. not (has w (et i) && not (has w (ew i)))) in
      let next : z ≡ visiting (but (own_row image me) (r.row + 1)) Phase.Pass (acting (not (has w me && not (has w (passed_to r.context.value.pending))))) =
      ez ∙ ap (λ (n : ℕ). visiting n Phase.Pass (acting visits)) (ey ∙ ap (λ (n : ℕ). but n (r.row + 1)) (eo ∙ ap (own_row image) et))
      ∙ ap (λ (v : Bool). visiting (but (own_row image me) (r.row + 1)) Phase.Pass (acting v)) looked in
      subst (λ (q : ℕ × ℕ × ℕ × Running). Goes cpu image (in_phase Phase.Pass r) (row_made image cpu r.row w (RowAct.Pass (to_thread q.0) (to_thread q.1) (to_addr q.2))) (processor_of q.3))
      (λ i. (sym et i, sym ew i, sym ea i, sym next i))
      visited

  drop-may : Wants cpu image (in_phase Phase.Drop r) (row_made image cpu r.row w (RowAct.Sweep (to_thread me) (to_thread me) (address_of image r.row)))
  drop-may = by (has w me) refl
    where
      by : (b : Bool) → has w me ≡ b
          → Wants cpu image (in_phase Phase.Drop r)
          (made (if b then shown (to_thread me) (Act.DropPair (to_thread me) (address_of image r.row) Leftover.NoPair) More.Nothing else FineAct.Unseen Unseen.Visit))
      by true h = record { maker = refl; makes = refl; fit = there-dropped (has w me) (is_last w me) h }
      by false h = record { maker = refl; makes = refl; fit = ap (λ (v : Bool). not v) h }

  -- the processor after the visit, but for a row that came to cleaning
  abbrev behind_visit : Bool → Processor
  behind_visit visits =
      let c = dropped_at image r.context.value r.row visits in
      record (with_todo r []) { context = c; todo = filled_up image c (drops (r.row + 1) (todo_behind r)); actor = if visits then r.actor else Some me }

  -- the thread of the last event then
  drop-acts : (t a : ℕ) → t ≡ me → let e = row_made image cpu r.row w (RowAct.Sweep (to_thread t) (to_thread t) (to_addr a)) in
      behind_visit (is_visit e.act) ≡ with_actor image (record (behind_visit (is_visit e.act)) { actor = r.actor }) e.act
  drop-acts t a et = by (has w t)
    where
      by : (b : Bool) → let e = made (if b then shown (to_thread t) (Act.DropPair (to_thread t) (to_addr a) Leftover.NoPair) More.Nothing else FineAct.Unseen Unseen.Visit) in
          behind_visit (is_visit e.act) ≡ with_actor image (record (behind_visit (is_visit e.act)) { actor = r.actor }) e.act
      by true = ap (λ (k : ℕ). record (behind_visit false) { actor = Some k }) (sym et)
      by false = refl

  pub drop-goes : (t a : ℕ) (z : Processor) (cleans : Bool) → t ≡ me → a ≡ addr_of image r.row
      → let e = row_made image cpu r.row w (RowAct.Sweep (to_thread t) (to_thread t) (to_addr a)) in
      cleans ≡ begins_cleaning e → z ≡ behind_visit (is_visit e.act) → Goes cpu image (in_phase Phase.Drop r) e (cleaned image r.row cleans z)
  drop-goes t a z cleans et ea ec ez =
      let e = row_made image cpu r.row w (RowAct.Sweep (to_thread t) (to_thread t) (to_addr a)) in
      record {
        asks =
            subst (λ (q : ℕ × ℕ). Wants cpu image (in_phase Phase.Drop r) (row_made image cpu r.row w (RowAct.Sweep (to_thread q.0) (to_thread q.0) (to_addr q.1))))
            (λ i. (sym et i, sym ea i))
            drop-may;
        next =
            (λ i. cleaned image r.row (ec i) ((ez ∙ drop-acts t a et) i))
            ∙ cleaned-is image r.row e (record (behind_visit (is_visit e.act)) { actor = r.actor }) (begins_cleaning e) refl;
      }

  -- where nothing was dropped, and where something was
  pub looked-at : (visits : Bool) → visits ≡ true → processor_of (visiting (r.row + 1) Phase.Drop r) ≡ behind_visit visits
  looked-at visits h = dropped image r (r.row + 1) ∙ ap behind_visit (sym h)

pub taken-away : (image : Image) (cpu : ℕ) (r z : Running) (w : RowWord) (visits : Bool) → visits ≡ false
    → z.context.value ≡ record r.context.value { pending = Pending.Drops (r.row + 1) ∷ drop 1 r.context.value.pending }
    → record z { context = r.context } ≡ record r { actor = Some r.context.value.thread }
    → processor_of (visiting (r.row + 1) Phase.Drop z) ≡ behind_visit image cpu r w visits
taken-away image cpu r z w visits h ec er =
    let c = r.context.value in
    let gone : Context = record c { pending = Pending.Drops (r.row + 1) ∷ drop 1 c.pending } in
    let at : Running → Context → Processor = λ q k.
    let steps = drop 1 k.pending in record (with_todo q []) { context = k; todo = filled_up image k (drops (r.row + 1) (todo_in q.next steps (ready_of q))) } in
    let left : Context → Bool → Processor = λ k v.
    record (with_todo r []) { context = k; todo = filled_up image k (drops (r.row + 1) (todo_behind r)); actor = if v then r.actor else Some c.thread } in
    let acted : Running = record r { actor = Some c.thread } in
    let a : processor_of (visiting (r.row + 1) Phase.Drop z) ≡ at z z.context.value = dropped image z (r.row + 1) in
    let b : at z z.context.value ≡ at acted gone = λ i. at (er i) (ec i) in
    let d : behind_visit image cpu r w visits ≡ left gone false = ap (λ (v : Bool). left (dropped_at image c r.row v) v) h ∙ ap (λ (k : Context). left k false) (dropped-is image c r.row) in
    a ∙ (b ∙ sym d)
