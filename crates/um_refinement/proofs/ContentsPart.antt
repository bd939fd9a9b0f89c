-- The cell of each object keeps its contents, and is empty where it was cleared or no object stands, after every lawful step.
use Rattle.um_refinement.proofs.Words.{◌≡◌, inl, inr, ℕ, zero, suc, ◌<◌, Bool, true, false, List, [], ◌∷◌, Option, Some, refl, sym, ap, ◌∙◌, subst, arith, ◌==◌, ◌&&◌, not, slice_index_or, slice_set, unwrap_or, and_parts, eqb-false, eqb-true, false≢true, true≢false, get_or-set_other, get_or-set_same, Ask, ROWS, Addr, Kind, ThreadIx, own_row, Object, Status, Pending, Thread, Steps, to_thread, MayChoose, Offers, State, object_at, thread_at, vacant, call_is, status_is, IsStatic, is_dying, row_named, bytes_in, begins_cleaning, ObjectCell, work_on, Todo, Todos, same_site, FineStep, Site, Fine, object, one_if, row, cell_of, recyclers, wipers, is_standing, caller_in, ContentsAre, empty_cell}
use Rattle.um_machine.specs.declared.contents.Contents.TheVariants as Contents
use Rattle.um_machine.specs.Objects as Plain
use Rattle.um_machine.specs.Table as T
use Rattle.um_fine.specs.Asks.{moves_show}
use Rattle.um_refinement.proofs.CellSteps.{cell-else, cell-here, is_on_cell, none-wipes, off-cell, recycles-cleared, wipe-sum}
use Rattle.um_refinement.proofs.CleanersSteps.{no-gain, rec-sum}
use Rattle.um_refinement.proofs.ContentsKept.{beside-kept, cell-beside, clean-kept, work-objects}
use Rattle.um_refinement.proofs.Erased.{around}
use Rattle.um_refinement.proofs.HeldRows.{checked-claimed, claimed-whole}
use Rattle.um_refinement.proofs.LawfulSteps.{Suits}
use Rattle.um_refinement.proofs.Leaves.{Lawful, Leaves, beside as beside_it, cleans, drops, event, nothing, passes, recycles, resumes}
use Rattle.um_refinement.proofs.ObjectsKept.{NoStatuses, born-reserved, drop-free, paired-live, set-kept, status-kept}
use Rattle.um_refinement.proofs.Offered.{IsStep, Shows, moved-made, own-same, shows-runs, shown-offers, shown-on, site-is}
use Rattle.um_refinement.proofs.RowSteps.{named-row}
use Rattle.um_refinement.proofs.Says.{work-agrees}
use Rattle.um_refinement.proofs.SchedulerSteps.{made-at}
use Rattle.um_refinement.proofs.StepReads.{is-behind}
use Rattle.um_refinement.proofs.WordsKept.{IsShown}
use Rattle.um_refinement.proofs.Writes.{Makes, with_cleaner, reserved-objects}
use Rattle.um_refinement.proofs.ContentsLeft.{AreStripped, beside, idle, in-objects, quiet-part, strip, was, with-notes}
use Rattle.um_refinement.proofs.ContentsBeside.{on-beside}

-- A name is given to a thread object that stands at a static row, or that the call holds.
abbrev pub NamesHeld : State → Type 0
NamesHeld m = (t : ℕ) (who : ThreadIx) (rest : Steps) → Offers m t (Pending.Named who) rest → IsStatic m.image (thread_at m t).checked (own_row m.image who.0)

-- an object that stands or is gone isn't free, and one that lives isn't gone
standing-not : (s : Status) → is_standing s ≡ true → Plain.is_free s ≡ false
standing-not Status.Live h = refl
standing-not Status.Gone h = refl
standing-not Status.Free h = absurd (false≢true h)
standing-not Status.Reserved h = absurd (false≢true h)

live-not : (s : Status) → Plain.is_live s ≡ true → (Plain.is_free s ≡ false) × (Plain.is_gone s ≡ false)
live-not Status.Live h = (refl, refl)
live-not Status.Gone h = absurd (false≢true h)
live-not Status.Free h = absurd (false≢true h)
live-not Status.Reserved h = absurd (false≢true h)

module _ (f : Fine) (m : State) (e : FineStep) (law : Lawful f m e) (suits : Suits f m) (names : NamesHeld m) (x : ℕ) (few : x < ROWS) where
  open around f e use {later, processor as p}
  open is-behind f m e law use {last-shown}

  abbrev Result : State → Type 0
  Result s = AreStripped later s x

  abbrev Free : State → Bool
  Free s = Plain.is_free (object_at s x).status

  abbrev Cell : State → ObjectCell
  Cell s = cell_of [] (object_at s x)

  -- An event of an instruction.

  -- the cell of an object that a call holds has its contents, and the object stands
  held-here : (q : Pending) (rest : Steps) (todo : Todos) → Shows f m e.cpu e q rest todo → slice_index_or (thread_at m p.context.thread).checked x false ≡ true
      → (wipers f x ≡ recyclers f x) × (Free m ≡ false)
  held-here q rest todo h held = (
    claimed-whole f m law.rel x few (checked-claimed f m law.rel e.cpu x law.by.named few (shows-runs h) (shown-on h) held),
    standing-not (object_at m x).status (ap is_standing (sym (status_is m x)) ∙ law.sound.known.reached.standing p.context.thread x (ap (λ (c : _). slice_index_or c.checked x false) (call_is m p.context.thread) ∙ held)),
  )

  -- and that of a static one
  static-here : Plain.is_live (object_at m x).status ≡ true → (wipers f x ≡ recyclers f x) × (Free m ≡ false)
  static-here live =
      let no = live-not (object_at m x).status live in
      let none : recyclers f x ≡ 0 = (law.rel.rows x few).cleaners.cleaner ∙ ap (λ b. one_if (b && not (is_dying (row f x).stage))) no.1 in
      (none-wipes f m e law x few none ∙ sym none, no.0)

  -- a step that is made at the cell, of an object that stands
  at-cell : (s : State) (q : Pending) (rest : Steps) (todo : Todos) → p.todo ≡ Todo.show q rest ∷ todo → begins_cleaning e ≡ false → (wipers f x ≡ recyclers f x) × (Free m ≡ false)
      → strip (object later x) ≡ Cell s → Free s ≡ Free m → Result s
  at-cell s q rest todo at quiet stands cell free =
      let wipes = wipe-sum f m e law x few (Todo.show q rest) todo at (last-shown q rest todo at) in
      let recs = rec-sum f m e law x few (Todo.show q rest) todo at (last-shown q rest todo at) in
      let none = no-gain f m e law x few quiet in
      let whole = stands.0 in
      record {
        whole = λ h. cell;
        cleared = λ h. absurd (omega (arith, h, wipes, recs, none, whole));
        vacant = λ h. absurd (true≢false (sym h ∙ (free ∙ stands.1)));
      }

  module _ (q : Pending) (rest : Steps) (todo : Todos) (n : ℕ) (h : Shows f m e.cpu e q rest todo) (is : IsStep f m e.cpu e n q) where
    abbrev After : State
    After = T.after m p.context.thread n q rest

    moved-is : e.moved ≡ moves_show f.image p q rest e.moved
    moved-is = moved-made h

    off : is_on_cell q ≡ false → same_site e.site (Site.object x) ≡ false
    off free = ap (λ i. same_site i (Site.object x)) (site-is h) ∙ off-cell f.image p q x free

    leaves : is_on_cell q ≡ false → Cell After ≡ Cell m → (Free After ≡ true → Free m ≡ true) → Result After
    leaves apart contents free =
        beside f m e law x few After (Todo.show h.listed rest) todo h.at (last-shown h.listed rest todo h.at) refl refl (cell-else f m e law x few (off apart)) contents free

  free-same : (q : Pending) (rest : Steps) (t n : ℕ) → Makes NoStatuses q → Free (T.after m t n q rest) ≡ Free m
  free-same q rest t n makes = ap Plain.is_free (status-kept m x t n q rest makes)

  on-work : (a : Addr) (ask : Ask) (rest : Steps) (todo : Todos) (n : ℕ) → Shows f m e.cpu e (Pending.Work a ask) rest todo → IsStep f m e.cpu e n (Pending.Work a ask)
      → Result (T.after m p.context.thread n (Pending.Work a ask) rest)
  on-work a ask rest todo n h is = by (row_named f.image a == x) refl
    where
      q : Pending
      q = Pending.Work a ask

      y : ℕ
      y = T.row_of m a

      named : y ≡ row_named f.image a
      named = named-row f m law.rel a

      o : Object
      o = let w = T.work_of m p.context.thread a ask in record (object_at m y) { contents = w.contents; waiters = w.waiters; buffer = T.buffer_cost ask w.answer (object_at m y).buffer }

      objects : (T.after m p.context.thread n q rest).objects ≡ slice_set m.objects y o
      objects = work-objects m p.context.thread n a ask rest

      free : Free (T.after m p.context.thread n q rest) ≡ Free m
      free = free-same q rest p.context.thread n tt

      quiet : begins_cleaning e ≡ false
      quiet = ap (λ act. begins_cleaning (record e { act = act })) is.said

      site : same_site e.site (Site.object x) ≡ (row_named f.image a == x)
      site = ap (λ i. same_site i (Site.object x)) (site-is h)

      by : (b : Bool) → (row_named f.image a == x) ≡ b → Result (T.after m p.context.thread n q rest)
      by false k =
          beside f m e law x few (T.after m p.context.thread n q rest) (Todo.show h.listed rest) todo h.at (last-shown h.listed rest todo h.at) refl refl (cell-else f m e law x few (site ∙ k))
          (ap (λ (os : List Object). cell_of [] (slice_index_or os x vacant)) objects
          ∙ ap (cell_of []) (get_or-set_other m.objects y x o vacant (λ same. eqb-false (row_named f.image a) x k (sym (same ∙ named)))))
          (λ z. sym free ∙ z)
      by true k =
          let at : y ≡ x = named ∙ eqb-true (row_named f.image a) x k in
          let held = ap (λ r. slice_index_or (thread_at m p.context.thread).checked r false) (sym at) ∙ suits.works p.context.thread a ask rest (shown-offers h) in
          let stands = held-here q rest todo h held in
          let own = own-same h in
          let cell = (was f m e law x few).whole stands.0 in
          let moved = moved-is q rest todo n h is in
          let agrees = work-agrees m p.context.thread x a ask (object f x) p.context (sym at) (ap (λ (z : ObjectCell). z.contents) cell) (ap (λ (z : ObjectCell). z.waiters) cell)
          (ap (λ (z : Thread). z.priority) own) (ap (λ (z : Thread). z.buffer) own) (ap (λ (z : Thread). z.until) own) in
          let work : work_on (object f x) e.moved ≡ T.work_of m p.context.thread a ask =
          ap (λ z. work_on (object f x) z) moved ∙ agrees in
          let asked : (caller_in e.moved).ask ≡ ask = ap (λ z. (caller_in z).ask) moved in
          at-cell (T.after m p.context.thread n q rest) h.listed rest todo h.at quiet stands
          (ap strip (cell-here f m e law x few (site ∙ k) _ is.said)
          ∙ ((λ i. record { contents = (work i).contents; waiters = (work i).waiters; noted = []; buffer = T.buffer_cost (asked i) (work i).answer (cell i).buffer })
          ∙ (ap (λ r. cell_of [] (record (object_at m r) { contents = (T.work_of m p.context.thread a ask).contents; waiters = (T.work_of m p.context.thread a ask).waiters; buffer = T.buffer_cost ask (T.work_of m p.context.thread a ask).answer (object_at m r).buffer })) (sym at)
          ∙ sym (ap (λ (os : List Object). cell_of [] (slice_index_or os x vacant)) objects
          ∙ (ap (λ r. cell_of [] (slice_index_or (slice_set m.objects r o) x vacant)) at
          ∙ ap (cell_of []) (get_or-set_same m.objects x o vacant (in-objects f m e law x few few)))))))
          free

  on-name : (who : ThreadIx) (rest : Steps) (todo : Todos) (n : ℕ) → Shows f m e.cpu e (Pending.Named who) rest todo → IsStep f m e.cpu e n (Pending.Named who)
      → Result (T.after m p.context.thread n (Pending.Named who) rest)
  on-name who rest todo n h is = by (own_row f.image who.0 == x) refl
    where
      q : Pending
      q = Pending.Named who

      y : ℕ
      y = own_row m.image who.0

      same-row : y ≡ own_row f.image who.0
      same-row = ap (λ (i : _). own_row i who.0) law.rel.image

      o : Object
      o = record (object_at m y) { contents = Contents.Named (thread_at m p.context.thread).buffer }

      free : Free (T.after m p.context.thread n q rest) ≡ Free m
      free = free-same q rest p.context.thread n tt

      quiet : begins_cleaning e ≡ false
      quiet = ap (λ act. begins_cleaning (record e { act = act })) is.said

      site : same_site e.site (Site.object x) ≡ (own_row f.image who.0 == x)
      site = ap (λ i. same_site i (Site.object x)) (site-is h)

      by : (b : Bool) → (own_row f.image who.0 == x) ≡ b → Result (T.after m p.context.thread n q rest)
      by false k =
          beside f m e law x few (T.after m p.context.thread n q rest) (Todo.show h.listed rest) todo h.at (last-shown h.listed rest todo h.at) refl refl (cell-else f m e law x few (site ∙ k))
          (ap (cell_of []) (get_or-set_other m.objects y x o vacant (λ same. eqb-false (own_row f.image who.0) x k (sym (same ∙ same-row)))))
          (λ z. sym free ∙ z)
      by true k =
          let at : y ≡ x = same-row ∙ eqb-true (own_row f.image who.0) x k in
          let stands = stands-there at (subst (IsStatic m.image (thread_at m p.context.thread).checked) at (names p.context.thread who rest (shown-offers h))) in
          let cell = (was f m e law x few).whole stands.0 in
          let buffer : bytes_in e.moved ≡ (thread_at m p.context.thread).buffer = ap bytes_in (moved-is q rest todo n h is) ∙ ap (λ (z : Thread). z.buffer) (own-same h) in
          at-cell (T.after m p.context.thread n q rest) h.listed rest todo h.at quiet stands
          (ap strip (cell-here f m e law x few (site ∙ k) _ is.said)
          ∙ ((λ i. record (cell i) { contents = Contents.Named (buffer i) })
          ∙ (ap (λ r. cell_of [] (record (object_at m r) { contents = Contents.Named (thread_at m p.context.thread).buffer })) (sym at)
          ∙ sym (ap (λ r. cell_of [] (slice_index_or (slice_set m.objects r o) x vacant)) at ∙ ap (cell_of []) (get_or-set_same m.objects x o vacant (in-objects f m e law x few few))))))
          free
        where
          stands-there : y ≡ x → IsStatic m.image (thread_at m p.context.thread).checked x → (wipers f x ≡ recyclers f x) × (Free m ≡ false)
          stands-there at (inl l) = static-here (ap Plain.is_live (sym (status_is m x)) ∙ law.sound.known.reached.static x l)
          stands-there at (inr r) = held-here q rest todo h r.1

  -- an object is reserved where none stood, and the cell (was f m e law x few) empty
  on-reserve : (kind : Kind) (rest : Steps) (todo : Todos) (n : ℕ) → Shows f m e.cpu e (Pending.Reserve kind) rest todo → IsStep f m e.cpu e n (Pending.Reserve kind)
      → Result (T.after m p.context.thread n (Pending.Reserve kind) rest)
  on-reserve kind rest todo zero h is = leaves (Pending.Reserve kind) rest todo 0 h is refl refl (λ z. z)
  on-reserve kind rest todo (suc n) h is = by-choice is.chosen
    where
      q : Pending
      q = Pending.Reserve kind

      me : Thread
      me = thread_at m p.context.thread

      o : Object
      o = record vacant { kind = Some kind; status = Status.Reserved; cost = T.cost_of me.pool 64 }

      at-row : object_at (T.after m p.context.thread (suc n) q rest) x ≡ slice_index_or (slice_set m.objects (suc n) o) x vacant
      at-row = ap (λ (os : List Object). slice_index_or os x vacant) (reserved-objects m p.context.thread n kind rest)

      by : Plain.is_free (object_at m (suc n)).status ≡ true → (b : Bool) → (suc n == x) ≡ b → Result (T.after m p.context.thread (suc n) q rest)
      by free false k =
          let other = at-row ∙ get_or-set_other m.objects (suc n) x o vacant (λ same. eqb-false (suc n) x k (sym same)) in
          leaves q rest todo (suc n) h is refl (ap (cell_of []) other) (λ z. sym (ap (λ (w : Object). Plain.is_free w.status) other) ∙ z)
      by free true k =
          let at : suc n ≡ x = eqb-true (suc n) x k in
          let empty : strip (object f x) ≡ empty_cell [] = (was f m e law x few).vacant (ap (λ r. Plain.is_free (object_at m r).status) (sym at) ∙ free) in
          let now : cell_of [] (slice_index_or (slice_set m.objects (suc n) o) x vacant) ≡ empty_cell [] =
          ap (λ r. cell_of [] (slice_index_or (slice_set m.objects r o) x vacant)) at ∙ ap (cell_of []) (get_or-set_same m.objects x o vacant (in-objects f m e law x few few)) in
          let cell = cell-else f m e law x few (off q rest todo (suc n) h is refl) in
          record { whole = λ z. ap strip cell ∙ (empty ∙ sym (ap (cell_of []) at-row ∙ now)); cleared = λ z. ap strip cell ∙ empty; vacant = λ z. ap strip cell ∙ empty }

      by-choice : MayChoose m p.context.thread (suc n) (Pending.Reserve kind) → Result (T.after m p.context.thread (suc n) q rest)
      by-choice (inr none) = let no = none.0 in absurd (omega (arith, no))
      by-choice (inl pays) = by (and_parts _ (Plain.is_free (object_at m (suc n)).status) pays.1).1 (suc n == x) refl

  by-event : (q : Pending) (rest : Steps) (todo : Todos) (n : ℕ) → Shows f m e.cpu e q rest todo → IsShown q → IsStep f m e.cpu e n q → Result (T.after m p.context.thread n q rest)
  by-event (Pending.Work a ask) rest todo n h shown is = on-work a ask rest todo n h is
  by-event (Pending.Named who) rest todo n h shown is = on-name who rest todo n h is
  by-event (Pending.Reserve kind) rest todo n h shown is = on-reserve kind rest todo n h is
  by-event (Pending.DropPair who a) rest todo n h shown is =
      leaves (Pending.DropPair who a) rest todo n h is refl (beside-kept (cell_of []) (cell-beside []) m x p.context.thread n (Pending.DropPair who a) rest refl)
      (λ z. sym (drop-free m who.0 (T.row_of m a) x (paired-live m law.sound (T.row_of m a) who.0)) ∙ z)
  by-event (Pending.Born a) rest todo n h shown is =
      leaves (Pending.Born a) rest todo n h is refl (beside-kept (cell_of []) (cell-beside []) m x p.context.thread n (Pending.Born a) rest refl)
      (λ z. sym (set-kept (λ (w : Object). Plain.is_free w.status) m.objects (T.row_of m a) x (record (object_at m (T.row_of m a)) { status = Status.Live }) (sym reserved)) ∙ z)
    where
      reserved : Plain.is_free (object_at m (T.row_of m a)).status ≡ false
      reserved =
          let r = born-reserved m law.sound p.context.thread a rest (shown-offers h) in
          ap (λ (o : Option ℕ). Plain.is_free (object_at m (unwrap_or o 0)).status) r.1 ∙ ap Plain.is_free r.2
  by-event (Pending.Inherit who) rest todo n h shown is = absurd shown
  by-event (Pending.Drops from) rest todo n h shown is = absurd shown
  by-event (Pending.CleanPair who) rest todo n h shown is = absurd shown
  by-event Pending.Recycle rest todo n h shown is = absurd shown
  by-event (Pending.TimeOut who) rest todo n h shown is = absurd shown
  by-event Pending.Expire rest todo n h shown is = absurd shown
  by-event (Pending.Cut who) rest todo n h shown is = absurd shown
  by-event q rest todo n h shown is = leaves q rest todo n h is refl (beside-kept (cell_of []) (cell-beside []) m x p.context.thread n q rest refl) (λ z. sym (free-same q rest p.context.thread n tt) ∙ z)

  -- the object is recycled, and its cell (was f m e law x few) cleared
  recycle-case : (y : ℕ) (rest : Steps) (todo : Todos) → p.todo ≡ Todo.recycle y ∷ todo → Result (T.after m p.context.thread y Pending.Recycle rest)
  recycle-case y rest todo at = by (x == y) refl
    where
      cell : object later x ≡ object f x
      cell = cell-else f m e law x few (ap (λ i. same_site i (Site.object x)) (made-at f m e law (Todo.recycle y ∷ todo) at))

      by : (b : Bool) → (x == y) ≡ b → Result (T.after m p.context.thread y Pending.Recycle rest)
      by false k =
          let other = get_or-set_other m.objects y x vacant vacant (eqb-false x y k) in
          beside f m e law x few (T.after m p.context.thread y Pending.Recycle rest) (Todo.recycle y) todo at tt refl k cell (ap (cell_of []) other) (λ z. sym (ap (λ (w : Object). Plain.is_free w.status) other) ∙ z)
      by true k =
          let same-row = eqb-true x y k in
          let before = recycles-cleared f m e law x few todo (at ∙ ap (λ r. Todo.recycle r ∷ todo) (sym same-row)) in
          let one = before.0 in
          let none = before.1 in
          let empty : strip (object f x) ≡ empty_cell [] = (was f m e law x few).cleared (omega (arith, one, none)) in
          let now : Cell (T.after m p.context.thread y Pending.Recycle rest) ≡ empty_cell [] =
          ap (λ r. cell_of [] (slice_index_or (slice_set m.objects r vacant) x vacant)) (sym same-row) ∙ ap (cell_of []) (get_or-set_same m.objects x vacant vacant (in-objects f m e law x few few)) in
          record { whole = λ z. ap strip cell ∙ (empty ∙ sym now); cleared = λ z. ap strip cell ∙ empty; vacant = λ z. ap strip cell ∙ empty }

  stripped-part : (s : State) → Leaves f m e s → Result s
  stripped-part _ (nothing u said) = quiet-part f m e law x few u said p.todo refl
  stripped-part _ (event q rest todo n h shown is) = by-event q rest todo n h shown is
  stripped-part _ (resumes c told rest at moved said) =
      idle f m e law x few (T.after m c.thread 0 Pending.Resume rest) at (ap (λ a. begins_cleaning (record e { act = a })) said) (beside-kept (cell_of []) (cell-beside []) m x c.thread 0 Pending.Resume rest refl)
      (λ z. sym (free-same Pending.Resume rest c.thread 0 tt) ∙ z)
  stripped-part _ (passes who y rest todo h said) =
      beside f m e law x few (T.after m p.context.thread y (Pending.Inherit (to_thread who)) rest) (Todo.pass who y) todo h.at tt refl refl
      (cell-else f m e law x few (ap (λ i. same_site i (Site.object x)) (made-at f m e law (Todo.pass who y ∷ todo) h.at))) refl (λ z. z)
  stripped-part _ (drops from y rest todo h said) =
      beside f m e law x few (T.after m p.context.thread y (Pending.Drops from) rest) (Todo.drop y) todo h.at tt refl refl
      (cell-else f m e law x few (ap (λ i. same_site i (Site.object x)) (made-at f m e law (Todo.drop y ∷ todo) h.at))) (beside-kept (cell_of []) (cell-beside []) m x p.context.thread y (Pending.Drops from) rest refl)
      (λ z. sym (drop-free m p.context.thread y x (paired-live m law.sound y p.context.thread)) ∙ z)
  stripped-part _ (cleans who y rest todo h said) =
      let z = own_row m.image who in
      let o = record (object_at m z) { cleaner = Some (to_thread p.context.thread) } in
      let s = with_cleaner m p.context.thread z in
      beside f m e law x few (T.after m p.context.thread y (Pending.CleanPair (to_thread who)) rest) (Todo.clean_pair who y) todo h.at tt refl refl
      (cell-else f m e law x few (ap (λ i. same_site i (Site.object x)) (made-at f m e law (Todo.clean_pair who y ∷ todo) h.at)))
      (clean-kept (cell_of []) (cell-beside []) (λ o by. refl) m x p.context.thread y (to_thread who) rest)
      (λ k.
      sym (drop-free s who y x (λ b. ap Plain.is_live (set-kept (λ (w : Object). w.status) m.objects z y o refl) ∙ paired-live m law.sound y who b)
      ∙ ap Plain.is_free (set-kept (λ (w : Object). w.status) m.objects z x o refl)) ∙ k)
  stripped-part _ (recycles y rest todo at l said chosen) = recycle-case y rest todo at
  stripped-part _ (beside_it t y q how chosen started) = on-beside f m e law suits x few t y q how

  pub contents-part : (s : State) → Leaves f m e s → ContentsAre later s x
  contents-part s leaves = with-notes later s x (stripped-part s leaves)
