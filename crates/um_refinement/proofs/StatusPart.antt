-- The word of each row says what its object is, after every lawful step.
use Rattle.um_refinement.proofs.Words.{Told, Waiter, in_order, with_object, woken-by, ◌≡◌, ◌⊎◌, inl, inr, ℕ, zero, suc, ◌<◌, ◌≤◌, Bool, true, false, List, ◌∷◌, length, Option, Some, None, refl, sym, ap, ◌∙◌, subst, arith, eq-or-lt_of_le, ◌==◌, not, if◌then◌else◌, nat_le, slice_index_or, slice_set, unwrap_or, and_parts, eqb-false, eqb-true, leb-true, not-true, true≢false, get_or-set_other, get_or-set_same, length-set, Act, SetSaid, Image, ObjectDef, ROWS, STATIC_ROWS, Addr, Kind, ThreadIx, own_row, Object, Status, Pending, Steps, to_thread, MayChoose, State, object_at, thread_at, vacant, FineAct, More, RowWord, Stage, is_free, is_live, row_takes, address_of, row_named, act_in, leftover_in, set_in, begins_cleaning, by_me, row_number, Todo, Todos, kind_of, same_site, FineStep, Site, Fine, one_if, row, is_reserved, recyclers, status_of, vacaters, Given, dynamic_kind, no_slice, not_less, same_kind, after_set, counted_row, StatusIs, ◌||◌}
use Rattle.um_machine.specs.declared.contents.Contents.{Contents as Kept}
use Rattle.um_machine.specs.declared.contents.Contents.TheVariants as Contents
use Rattle.um_machine.specs.Objects as Plain
use Rattle.um_machine.specs.Services.{runs_out, without}
use Rattle.um_machine.specs.State.{waiters_in, with_waiters}
use Rattle.um_machine.specs.Table as T
use Rattle.um_machine.specs.Time.{told_late}
use Rattle.um_words.specs.declared.fine.Mark.{Mark}
use Rattle.um_fine.specs.Processor.{kind_in}
use Rattle.um_refinement.proofs.CellSteps.{recycles-cleared}
use Rattle.um_refinement.proofs.CleanersPart.{none-vacates}
use Rattle.um_refinement.proofs.CleanersSteps.{gain, no-gain, rec-sum, row-else, row-here, row-takes-it}
use Rattle.um_refinement.proofs.CleaningFacts.{takes_last, drop-object}
use Rattle.um_refinement.proofs.ContentsKept.{work-objects}
use Rattle.um_refinement.proofs.DomainReads.{eqb-swap}
use Rattle.um_refinement.proofs.Erased.{around}
use Rattle.um_refinement.proofs.Leaves.{Beside, Lawful, Leaves, acting, beside as beside_it, cleans, cuts, drops, event, expires, leaves as leaves_it, mine, nothing, passes, recycles, resumes, ticks, times_out}
use Rattle.um_refinement.proofs.ObjectsKept.{born-reserved, set-kept, waiters-kept}
use Rattle.um_refinement.proofs.Offered.{IsStep, Shows, shown-offers, site-is}
use Rattle.um_refinement.proofs.RowSteps.{named-row, settled, stands}
use Rattle.um_refinement.proofs.Says as Says
use Rattle.um_refinement.proofs.SchedulerSteps.{made-at}
use Rattle.um_refinement.proofs.StatusKept.{Marks, is_marking, marks-untouched, marks_of, traits-kept, traits_of}
use Rattle.um_refinement.proofs.StepReads.{is-behind}
use Rattle.um_refinement.proofs.VisitSteps.{visit-site}
use Rattle.um_refinement.proofs.WordsKept.{IsShown}
use Rattle.um_refinement.proofs.Writes.{with_dropped, with_cleaner, after_saying, reserved-objects}
use Rattle.um_refinement.proofs.StatusSteps.{unstood-free, free-is, status-free, Result, was, in-objects, Rises, counts, less, beside, writes, same-marks}
use Rattle.um_refinement.proofs.StatusUnseen.{idle, quiet-part, drop-case}

module _ (f : Fine) (m : State) (e : FineStep) (law : Lawful f m e) (x : ℕ) (few : x < ROWS) where
  open around f e use {later, processor as p}
  open is-behind f m e law use {last-shown}

  -- An event of an instruction.

  module _ (q : Pending) (rest : Steps) (todo : Todos) (n : ℕ) (h : Shows f m e.cpu e q rest todo) (is : IsStep f m e.cpu e n q) where
    abbrev After : State
    After = T.after m p.context.thread n q rest

    rises : Rises f m e law x few (gain f m e law x few (begins_cleaning e) (row_number e.site))
    rises = counts f m e law x few (Todo.show h.listed rest) todo h.at (last-shown h.listed rest todo h.at) refl refl

    -- one that leaves the marks of all rows
    leaves : is_marking q ≡ false → traits_of (object_at After x) ≡ traits_of (object_at m x) → Result f m e law x few After
    leaves free traits =
        beside f m e law x few After (Todo.show h.listed rest) todo h.at (last-shown h.listed rest todo h.at) refl refl
        (same-marks f m e law x few _ is.said (λ w. marks-untouched f.image p w p.context.thread q (act_in e.act) free)) traits

    -- one at another row
    apart : (y : ℕ) → e.site ≡ Site.row y → (y == x) ≡ false → traits_of (object_at After x) ≡ traits_of (object_at m x) → Result f m e law x few After
    apart y site k traits =
        beside f m e law x few After (Todo.show h.listed rest) todo h.at (last-shown h.listed rest todo h.at) refl refl (ap marks_of (row-else f m e law x few (ap (λ i. same_site i (Site.row x)) site ∙ k))) traits

  -- an object of another row is written
  other-row : (y : ℕ) (o : Object) → (y == x) ≡ false → traits_of (slice_index_or (slice_set m.objects y o) x vacant) ≡ traits_of (object_at m x)
  other-row y o k = ap traits_of (get_or-set_other m.objects y x o vacant (λ same. eqb-false y x k (sym same)))

  this-row : (y : ℕ) (o : Object) → y ≡ x → slice_index_or (slice_set m.objects y o) x vacant ≡ o
  this-row y o at = ap (λ r. slice_index_or (slice_set m.objects r o) x vacant) at ∙ get_or-set_same m.objects x o vacant (in-objects f m e law x few few)

  -- a row that isn't free has the kind of its object
  kind-there : is_free (row f x).stage ≡ false → (object_at m x).kind ≡ kind_of f.image x
  kind-there free = (was f m e law x few).kind (λ z. not-free-status (row f x).stage free (sym z ∙ (was f m e law x few).status (settled f m law.rel x few free)))
    where
      not-free-status : (st : Stage) → is_free st ≡ false → Status.Free ≡ status_of st (is_reserved (object_at m x).status) → ⊥
      not-free-status Stage.Free g z = true≢false g
      not-free-status Stage.Live g z = true≢false (ap Plain.is_free z)
      not-free-status Stage.Dying g z = true≢false (ap Plain.is_free z)
      not-free-status Stage.Cleaning g z = true≢false (ap Plain.is_free z)

  -- the row takes the event only where it isn't free
  used : (q : Pending) (rest : Steps) (todo : Todos) → Shows f m e.cpu e q rest todo → (act : FineAct) → e.act ≡ act → same_site e.site (Site.row x) ≡ true → row_takes (row f x) act ≡ not (is_free (row f x).stage) → is_free (row f x).stage ≡ false
  used q rest todo h act said on takes = not-true _ (sym takes ∙ row-takes-it f m e law x few on act said)

  -- an event at the row of an object that it names: at another row it leaves the marks
  at-named : (q : Pending) (a : Addr) (rest : Steps) (todo : Todos) (n : ℕ) → Shows f m e.cpu e q rest todo → IsStep f m e.cpu e n q → e.site ≡ Site.row (row_named f.image a)
      → ((T.row_of m a == x) ≡ false → traits_of (object_at (T.after m p.context.thread n q rest) x) ≡ traits_of (object_at m x))
      → (T.row_of m a ≡ x → same_site e.site (Site.row x) ≡ true → Result f m e law x few (T.after m p.context.thread n q rest)) → Result f m e law x few (T.after m p.context.thread n q rest)
  at-named q a rest todo n h is site others here = by (row_named f.image a == x) refl
    where
      by : (b : Bool) → (row_named f.image a == x) ≡ b → Result f m e law x few (T.after m p.context.thread n q rest)
      by false k = apart q rest todo n h is (row_named f.image a) site k (others (ap (λ r. r == x) (named-row f m law.rel a) ∙ k))
      by true k = here (named-row f m law.rel a ∙ eqb-true (row_named f.image a) x k) (ap (λ i. same_site i (Site.row x)) site ∙ k)

  -- a row that isn't free gets other marks, and its object what they say
  marked : (q : Pending) (rest : Steps) (todo : Todos) (n : ℕ) → Shows f m e.cpu e q rest todo → IsStep f m e.cpu e n q → is_free (row f x).stage ≡ false → (w : RowWord) (o : Object)
      → row later x ≡ counted_row w → object_at (T.after m p.context.thread n q rest) x ≡ o → w.stage ≡ (row f x).stage → o.status ≡ (object_at m x).status → o.kind ≡ (object_at m x).kind
      → w.init ≡ o.init → w.public ≡ o.public → Result f m e law x few (T.after m p.context.thread n q rest)
  marked q rest todo n h is free w o word object stage status kind init public =
      let even = settled f m law.rel x few free in
      let now = ap (λ (w : RowWord). w.stage) word ∙ stage in
      let kept = ap (λ (o : Object). o.status) object ∙ status in
      writes f m e law x few (T.after m p.context.thread n q rest) _ (rises q rest todo n h is) even (ap is_free now ∙ free)
      (kept ∙ ((was f m e law x few).status even ∙ sym (λ i. status_of (now i) (is_reserved (kept i)))))
      (ap (λ (w : RowWord). w.init) word ∙ (init ∙ sym (ap (λ (o : Object). o.init) object)))
      (ap (λ (w : RowWord). w.public) word ∙ (public ∙ sym (ap (λ (o : Object). o.public) object)))
      (ap (λ (o : Object). o.kind) object ∙ (kind ∙ kind-there free))

  on-publish : (a : Addr) (rest : Steps) (todo : Todos) (n : ℕ) → Shows f m e.cpu e (Pending.Publish a) rest todo → IsStep f m e.cpu e n (Pending.Publish a)
      → Result f m e law x few (T.after m p.context.thread n (Pending.Publish a) rest)
  on-publish a rest todo n h is = at-named (Pending.Publish a) a rest todo n h is (site-is h) (λ other. away other (Plain.is_gone (object_at m y).status)) here
    where
      y : ℕ
      y = T.row_of m a

      o : Object
      o = record (object_at m y) { public = true }

      After-by : Bool → State
      After-by b = after_saying m p.context.thread n (Pending.Publish a) (Act.Publish a (if b then Given.Gone else Given.Done)) rest

      away : (y == x) ≡ false → (b : Bool) → traits_of (object_at (After-by b) x) ≡ traits_of (object_at m x)
      away other true = refl
      away other false = other-row y o other

      here : y ≡ x → same_site e.site (Site.row x) ≡ true → Result f m e law x few (T.after m p.context.thread n (Pending.Publish a) rest)
      here at on = by-live (is_live (row f x).stage) refl
        where
          free : is_free (row f x).stage ≡ false
          free = used (Pending.Publish a) rest todo h _ is.said on refl

          gone : Plain.is_gone (object_at m y).status ≡ not (is_live (row f x).stage)
          gone = ap (λ r. Plain.is_gone (object_at m r).status) at ∙ Says.gone (stands f m law.rel x few free) (λ z. true≢false (sym (ap is_free z) ∙ free))

          word-by : (b : Bool) → is_live (row f x).stage ≡ b → row later x ≡ counted_row (record (row f x) { public = b || (row f x).public })
          word-by b z = row-here f m e law x few on _ is.said ∙ ap (λ c. counted_row (record (row f x) { public = c || (row f x).public })) z

          by-live : (b : Bool) → is_live (row f x).stage ≡ b → Result f m e law x few (T.after m p.context.thread n (Pending.Publish a) rest)
          by-live false z =
              beside f m e law x few (T.after m p.context.thread n (Pending.Publish a) rest) (Todo.show h.listed rest) todo h.at (last-shown h.listed rest todo h.at) refl refl (ap marks_of (word-by false z))
              (ap (λ b. traits_of (object_at (After-by b) x)) (gone ∙ ap not z))
          by-live true z =
              marked (Pending.Publish a) rest todo n h is free (record (row f x) { public = true }) (record (object_at m x) { public = true }) (word-by true z)
              (ap (λ b. object_at (After-by b) x) (gone ∙ ap not z) ∙ (this-row y o at ∙ ap (λ r. record (object_at m r) { public = true }) at))
              refl refl refl ((was f m e law x few).init (settled f m law.rel x few free)) refl

  on-set : (a : Addr) (strict : Bool) (undo : Option Addr) (rest : Steps) (todo : Todos) (n : ℕ) → Shows f m e.cpu e (Pending.SetInit a strict undo) rest todo
      → IsStep f m e.cpu e n (Pending.SetInit a strict undo) → Result f m e law x few (T.after m p.context.thread n (Pending.SetInit a strict undo) rest)
  on-set a strict undo rest todo n h is = at-named q a rest todo n h is (site-is h) (λ other. away other (T.set_said (object_at m y) strict)) here
    where
      y : ℕ
      y = T.row_of m a

      q : Pending
      q = Pending.SetInit a strict undo

      After-by : SetSaid → State
      After-by said = after_saying m p.context.thread n q (Act.SetInit a said) rest

      away : (y == x) ≡ false → (said : SetSaid) → traits_of (object_at (After-by said) x) ≡ traits_of (object_at m x)
      away other SetSaid.Done = other-row y (record (object_at m y) { init = true }) other
      away other SetSaid.Gone = refl
      away other (SetSaid.Fail error) = refl

      here : y ≡ x → same_site e.site (Site.row x) ≡ true → Result f m e law x few (T.after m p.context.thread n q rest)
      here at on = by-said (T.set_said (object_at m y) strict) refl
        where
          word-by : (said : SetSaid) → T.set_said (object_at m y) strict ≡ said → row later x ≡ counted_row (after_set (row f x) said)
          word-by said z = row-here f m e law x few on _ is.said ∙ ap (λ v. counted_row (after_set (row f x) v)) (ap set_in is.says ∙ z)

          same : (said : SetSaid) → T.set_said (object_at m y) strict ≡ said → marks_of (after_set (row f x) said) ≡ marks_of (row f x) → traits_of (object_at (After-by said) x) ≡ traits_of (object_at m x)
              → Result f m e law x few (T.after m p.context.thread n q rest)
          same said z marks traits =
              beside f m e law x few (T.after m p.context.thread n q rest) (Todo.show h.listed rest) todo h.at (last-shown h.listed rest todo h.at) refl refl (ap marks_of (word-by said z) ∙ marks)
              (ap (λ v. traits_of (object_at (After-by v) x)) z ∙ traits)

          by-said : (said : SetSaid) → T.set_said (object_at m y) strict ≡ said → Result f m e law x few (T.after m p.context.thread n q rest)
          by-said SetSaid.Gone z = same SetSaid.Gone z refl refl
          by-said (SetSaid.Fail error) z = same (SetSaid.Fail error) z refl refl
          by-said SetSaid.Done z =
              let free = used q rest todo h _ is.said on refl in
              marked q rest todo n h is free (after_set (row f x) SetSaid.Done) (record (object_at m x) { init = true }) (word-by SetSaid.Done z)
              (ap (λ v. object_at (After-by v) x) z ∙ (this-row y (record (object_at m y) { init = true }) at ∙ ap (λ r. record (object_at m r) { init = true }) at))
              refl refl refl refl ((was f m e law x few).public (settled f m law.rel x few free))

  on-clear : (a : Addr) (rest : Steps) (todo : Todos) (n : ℕ) → Shows f m e.cpu e (Pending.ClearInit a) rest todo → IsStep f m e.cpu e n (Pending.ClearInit a)
      → Result f m e law x few (T.after m p.context.thread n (Pending.ClearInit a) rest)
  on-clear a rest todo n h is = at-named (Pending.ClearInit a) a rest todo n h is (site-is h) (other-row (T.row_of m a) o) here
    where
      o : Object
      o = record (object_at m (T.row_of m a)) { init = false }

      here : T.row_of m a ≡ x → same_site e.site (Site.row x) ≡ true → Result f m e law x few (T.after m p.context.thread n (Pending.ClearInit a) rest)
      here at on =
          let free = used (Pending.ClearInit a) rest todo h _ is.said on refl in
          marked (Pending.ClearInit a) rest todo n h is free (record (row f x) { init = false }) (record (object_at m x) { init = false }) (row-here f m e law x few on _ is.said)
          (this-row (T.row_of m a) o at ∙ ap (λ r. record (object_at m r) { init = false }) at)
          refl refl refl refl ((was f m e law x few).public (settled f m law.rel x few free))

  -- an object stands where it (was f m e law x few) reserved
  on-birth : (a : Addr) (rest : Steps) (todo : Todos) (n : ℕ) → Shows f m e.cpu e (Pending.Born a) rest todo → IsStep f m e.cpu e n (Pending.Born a)
      → Result f m e law x few (T.after m p.context.thread n (Pending.Born a) rest)
  on-birth a rest todo n h is = at-named (Pending.Born a) a rest todo n h is (site-is h) (other-row y o) here
    where
      y : ℕ
      y = T.row_of m a

      o : Object
      o = record (object_at m y) { status = Status.Live }

      After : State
      After = T.after m p.context.thread n (Pending.Born a) rest

      reserved : (object_at m y).status ≡ Status.Reserved
      reserved =
          let r = born-reserved m law.sound p.context.thread a rest (shown-offers h) in ap (λ (w : Option ℕ). (object_at m (unwrap_or w 0)).status) r.1 ∙ r.2

      unvacated : (object_at m x).status ≡ Status.Reserved → (vacaters f x ≡ recyclers f x) ⊎ (vacaters f x < recyclers f x) → vacaters f x ≡ recyclers f x
      unvacated status (inl even) = even
      unvacated status (inr l) = absurd (true≢false (ap Plain.is_gone (sym ((was f m e law x few).vacated l).1 ∙ status)))

      here : y ≡ x → same_site e.site (Site.row x) ≡ true → Result f m e law x few After
      here at on =
          let status : (object_at m x).status ≡ Status.Reserved = ap (λ r. (object_at m r).status) (sym at) ∙ reserved in
          let bare = (was f m e law x few).bare (free-is (row f x).stage (row-takes-it f m e law x few on _ is.said)) in
          let even = unvacated status (eq-or-lt_of_le (law.rel.rows x few).cleaners.order) in
          let word = row-here f m e law x few on _ is.said in
          let object : object_at After x ≡ record (object_at m x) { status = Status.Live } = this-row y o at ∙ ap (λ r. record (object_at m r) { status = Status.Live }) at in
          let stage = ap (λ (w : RowWord). w.stage) word in
          writes f m e law x few After _ (rises (Pending.Born a) rest todo n h is) even (ap is_free stage)
          (ap (λ (o : Object). o.status) object ∙ sym (ap (λ st. status_of st (is_reserved (object_at After x).status)) stage))
          (ap (λ (w : RowWord). w.init) word ∙ (sym bare.0 ∙ ((was f m e law x few).init even ∙ sym (ap (λ (o : Object). o.init) object))))
          (ap (λ (w : RowWord). w.public) word ∙ (sym bare.1 ∙ ((was f m e law x few).public even ∙ sym (ap (λ (o : Object). o.public) object))))
          (ap (λ (o : Object). o.kind) object ∙ (was f m e law x few).kind (λ z. true≢false (ap Plain.is_free (sym z ∙ status))))

  -- an object is reserved at a free row
  on-reserve : (kind : Kind) (rest : Steps) (todo : Todos) (n : ℕ) → Shows f m e.cpu e (Pending.Reserve kind) rest todo → IsStep f m e.cpu e n (Pending.Reserve kind)
      → Result f m e law x few (T.after m p.context.thread n (Pending.Reserve kind) rest)
  on-reserve kind rest todo zero h is = leaves (Pending.Reserve kind) rest todo 0 h is refl refl
  on-reserve kind rest todo (suc n) h is = by-choice is.chosen
    where
      q : Pending
      q = Pending.Reserve kind

      o : Object
      o = record vacant { kind = Some kind; status = Status.Reserved; cost = T.cost_of (thread_at m p.context.thread).pool 64 }

      at-row : object_at (T.after m p.context.thread (suc n) q rest) x ≡ slice_index_or (slice_set m.objects (suc n) o) x vacant
      at-row = ap (λ (os : List Object). slice_index_or os x vacant) (reserved-objects m p.context.thread n kind rest)

      by : (STATIC_ROWS ≤ suc n) → dynamic_kind (suc n) ≡ kind → (object_at m (suc n)).status ≡ Status.Free → (b : Bool) → (suc n == x) ≡ b → Result f m e law x few (T.after m p.context.thread (suc n) q rest)
      by dynamic same free false k = leaves q rest todo (suc n) h is refl (ap traits_of at-row ∙ other-row (suc n) o k)
      by dynamic same free true k =
          let at : suc n ≡ x = eqb-true (suc n) x k in
          let status : (object_at m x).status ≡ Status.Free = ap (λ r. (object_at m r).status) (sym at) ∙ free in
          let even = unvacated status (eq-or-lt_of_le (law.rel.rows x few).cleaners.order) in
          let stage : (row f x).stage ≡ Stage.Free = free-is (row f x).stage (unstood-free (row f x).stage (object_at m x).status _ ((was f m e law x few).status even) (ap Plain.is_live status) (ap Plain.is_gone status)) in
          let marks = same-marks f m e law x few _ is.said (λ w. marks-untouched f.image p w p.context.thread q (act_in e.act) refl) in
          let now = ap (λ (k : Marks). k.stage) marks ∙ stage in
          let bare = (was f m e law x few).bare stage in
          let init = ap (λ (k : Marks). k.init) marks ∙ bare.0 in
          let public = ap (λ (k : Marks). k.public) marks ∙ bare.1 in
          let object : object_at (T.after m p.context.thread (suc n) q rest) x ≡ o = at-row ∙ this-row (suc n) o at in
          let more = rises q rest todo (suc n) h is in
          record {
            status = λ z. ap (λ (w : Object). w.status) object ∙ sym (λ i. status_of (now i) (is_reserved (object i).status));
            vacated = λ z. let l = less f m e law x few _ more z in absurd (omega (arith, l, even));
            init = λ z. init ∙ sym (ap (λ (w : Object). w.init) object);
            public = λ z. public ∙ sym (ap (λ (w : Object). w.public) object);
            bare = λ z. (init, public);
            kind = λ z. ap (λ (w : Object). w.kind) object ∙ (ap Some (sym same) ∙ (sym (kind-at (suc n) dynamic) ∙ ap (kind_of f.image) at));
          }
        where
          unvacated : (object_at m x).status ≡ Status.Free → (vacaters f x ≡ recyclers f x) ⊎ (vacaters f x < recyclers f x) → vacaters f x ≡ recyclers f x
          unvacated status (inl even) = even
          unvacated status (inr l) = absurd (true≢false (ap Plain.is_gone (sym ((was f m e law x few).vacated l).1 ∙ status)))

          kind-at : (r : ℕ) → STATIC_ROWS ≤ r → kind_of f.image r ≡ Some (dynamic_kind r)
          kind-at r dynamic =
              let small : length f.image.objects ≤ STATIC_ROWS = subst (λ (i : Image). length i.objects ≤ STATIC_ROWS) law.rel.image law.sound.known.reached.sited.few in
              ap (λ (z : Option ObjectDef). kind_in z r) (no_slice f.image.objects r (omega (arith, small, dynamic)))
              ∙ ap (λ b. if b then None else Some (dynamic_kind r)) (not_less r STATIC_ROWS dynamic)

      by-choice : MayChoose m p.context.thread (suc n) (Pending.Reserve kind) → Result f m e law x few (T.after m p.context.thread (suc n) q rest)
      by-choice (inr none) = let no = none.0 in absurd (omega (arith, no))
      by-choice (inl pays) =
          let all = and_parts _ (Plain.is_free (object_at m (suc n)).status) pays.1 in
          let kinds = and_parts _ (Plain.kind_number (dynamic_kind (suc n)) == Plain.kind_number kind) all.0 in
          let place = and_parts (nat_le STATIC_ROWS (suc n)) _ kinds.0 in
          by (leb-true STATIC_ROWS (suc n) place.0) (same_kind (dynamic_kind (suc n)) kind kinds.1) (status-free (object_at m (suc n)).status all.1) (suc n == x) refl

  by-event : (q : Pending) (rest : Steps) (todo : Todos) (n : ℕ) → Shows f m e.cpu e q rest todo → IsShown q → IsStep f m e.cpu e n q → Result f m e law x few (T.after m p.context.thread n q rest)
  by-event (Pending.DropPair who a) rest todo n h shown is =
      let z = T.row_of m a in
      let same = named-row f m law.rel a in
      let d = drop-object m who.0 z x in
      drop-case f m e law x few (T.after m p.context.thread n (Pending.DropPair who a) rest) who a (leftover_in (act_in e.act)) (row_named f.image a) p.context.thread More.Nothing
      (Todo.show h.listed rest) todo h.at (last-shown h.listed rest todo h.at) refl refl (site-is h) is.said
      (λ ne. ap traits_of (d.1 (λ k. ne (k ∙ same))))
      (λ k quiet. ap traits_of (d.0 (ap (λ y. takes_last (T.dropped m who.0 y)) (same ∙ k) ∙ quiet)))
      (λ k loud.
      let at = same ∙ k in
      ap (λ y. traits_of (object_at (with_dropped m who.0 z) y)) (sym at)
      ∙ (ap traits_of (d.2 (in-objects f m e law x few (subst (λ y. y < ROWS) (sym at) few)) (ap (λ y. takes_last (T.dropped m who.0 y)) at ∙ loud)) ∙ ap (λ y. record (traits_of (object_at m y)) { status = Status.Gone }) at))
  by-event (Pending.Publish a) rest todo n h shown is = on-publish a rest todo n h is
  by-event (Pending.SetInit a strict undo) rest todo n h shown is = on-set a strict undo rest todo n h is
  by-event (Pending.ClearInit a) rest todo n h shown is = on-clear a rest todo n h is
  by-event (Pending.Born a) rest todo n h shown is = on-birth a rest todo n h is
  by-event (Pending.Reserve kind) rest todo n h shown is = on-reserve kind rest todo n h is
  by-event (Pending.Work a ask) rest todo n h shown is =
      let w = T.work_of m p.context.thread a ask in
      let y = T.row_of m a in
      leaves (Pending.Work a ask) rest todo n h is refl
      (ap (λ (os : List Object). traits_of (slice_index_or os x vacant)) (work-objects m p.context.thread n a ask rest)
      ∙ set-kept traits_of m.objects y x (record (object_at m y) { contents = w.contents; waiters = w.waiters; buffer = T.buffer_cost ask w.answer (object_at m y).buffer }) refl)
  by-event (Pending.Named who) rest todo n h shown is =
      let y = own_row m.image who.0 in
      leaves (Pending.Named who) rest todo n h is refl
      (set-kept traits_of m.objects y x (record (object_at m y) { contents = Contents.Named (thread_at m p.context.thread).buffer }) refl)
  by-event (Pending.Inherit who) rest todo n h shown is = absurd shown
  by-event (Pending.Drops from) rest todo n h shown is = absurd shown
  by-event (Pending.CleanPair who) rest todo n h shown is = absurd shown
  by-event Pending.Recycle rest todo n h shown is = absurd shown
  by-event (Pending.TimeOut who) rest todo n h shown is = absurd shown
  by-event Pending.Expire rest todo n h shown is = absurd shown
  by-event (Pending.Cut who) rest todo n h shown is = absurd shown
  by-event q rest todo n h shown is = leaves q rest todo n h is refl (traits-kept m x p.context.thread n q rest tt)

  -- the object is recycled, once its row (was f m e law x few) vacated
  recycle-case : (y : ℕ) (rest : Steps) (todo : Todos) → p.todo ≡ Todo.recycle y ∷ todo → e.act ≡ by_me f.image p (Act.Recycle (address_of f.image y)) → Result f m e law x few (T.after m p.context.thread y Pending.Recycle rest)
  recycle-case y rest todo at said = by (x == y) refl
    where
      marks : marks_of (row later x) ≡ marks_of (row f x)
      marks = ap marks_of (row-else f m e law x few (ap (λ i. same_site i (Site.row x)) (made-at f m e law (Todo.recycle y ∷ todo) at)))

      by : (b : Bool) → (x == y) ≡ b → Result f m e law x few (T.after m p.context.thread y Pending.Recycle rest)
      by false k = beside f m e law x few (T.after m p.context.thread y Pending.Recycle rest) (Todo.recycle y) todo at tt refl k marks (other-row y vacant (eqb-swap y x ∙ k))
      by true k =
          let same = eqb-true x y k in
          let here = at ∙ ap (λ r. Todo.recycle r ∷ todo) (sym same) in
          let one = (recycles-cleared f m e law x few todo here).0 in
          let none = none-vacates f m e law x few todo here in
          let recs = rec-sum f m e law x few (Todo.recycle y) todo at tt in
          let mine = ap one_if k in
          let quiet = no-gain f m e law x few (ap (λ a. begins_cleaning (record e { act = a })) said) in
          let vacated = (was f m e law x few).vacated (omega (arith, one, none)) in
          let now = ap (λ (k : Marks). k.stage) marks ∙ vacated.0 in
          let bare = (was f m e law x few).bare vacated.0 in
          let init = ap (λ (k : Marks). k.init) marks ∙ bare.0 in
          let public = ap (λ (k : Marks). k.public) marks ∙ bare.1 in
          let object : object_at (T.after m p.context.thread y Pending.Recycle rest) x ≡ vacant = this-row y vacant (sym same) in
          record {
            status = λ z. ap (λ (w : Object). w.status) object ∙ sym (λ i. status_of (now i) (is_reserved (object i).status));
            vacated = λ z. absurd (omega (arith, z, recs, mine, quiet, one));
            init = λ z. init ∙ sym (ap (λ (w : Object). w.init) object);
            public = λ z. public ∙ sym (ap (λ (w : Object). w.public) object);
            bare = λ z. (init, public);
            kind = λ z. absurd (z (ap (λ (w : Object). w.status) object));
          }

  -- A step (beside f m e law x few) the instructions leaves the marks of all rows, and what they say of their objects.
  abbrev Same : State → Type 0
  Same s = traits_of (object_at s x) ≡ traits_of (object_at m x)

  abbrev out : ℕ → Kept × List Waiter × List (ThreadIx × Told)
  out y = runs_out (object_at m y).waiters (in_order (object_at m y).waiters)

  on-beside : (t y : ℕ) (q : Pending) → Beside f m e t y q → Result f m e law x few (T.after m t y q (thread_at m t).pending)
  on-beside _ _ _ (cuts who site rank y todo at place inside said) =
      beside f m e law x few _ (Todo.look who site rank) todo at tt refl refl (same-marks f m e law x few _ said (λ w. refl)) (waiters-kept traits_of (λ o ws. refl) m y x _)
  on-beside _ _ _ (times_out deadline site y who todo at place inside said) =
      beside f m e law x few _ (Todo.handle deadline (Mark.Thread who site)) todo at tt refl refl (same-marks f m e law x few _ said (λ w. refl))
      (woken-by Same (λ z u told k. k) (told_late who y) (with_waiters m y (without who.0 (waiters_in m y))) (waiters-kept traits_of (λ o ws. refl) m y x _))
  on-beside _ _ _ (expires deadline y todo at inside said) =
      beside f m e law x few _ (Todo.handle deadline (Mark.Timer y)) todo at tt refl refl (same-marks f m e law x few _ said (λ w. refl))
      (woken-by Same (λ z u told k. k) (out y.0).2 (with_object m y.0 (record (object_at m y.0) { contents = (out y.0).0; waiters = (out y.0).1 }))
      (set-kept traits_of m.objects y.0 x (record (object_at m y.0) { contents = (out y.0).0; waiters = (out y.0).1 }) refl))
  on-beside _ _ _ (ticks at said) =
      idle f m e law x few _ at (ap (λ a. begins_cleaning (record e { act = a })) said) (traits-kept m x (acting f m e) 0 Pending.Tick (thread_at m (acting f m e)).pending tt)
  on-beside _ _ _ (leaves_it todo at said) =
      beside f m e law x few _ Todo.leave todo at tt refl refl (same-marks f m e law x few _ said (λ w. refl)) (traits-kept m x (mine f m e) 0 Pending.Left (thread_at m (mine f m e)).pending tt)

  pub status-part : (s : State) → Leaves f m e s → StatusIs later s x
  status-part _ (nothing u said) = quiet-part f m e law x few u said p.todo refl
  status-part _ (event q rest todo n h shown is) = by-event q rest todo n h shown is
  status-part _ (resumes c told rest at moved said) =
      idle f m e law x few (T.after m c.thread 0 Pending.Resume rest) at (ap (λ a. begins_cleaning (record e { act = a })) said) (traits-kept m x c.thread 0 Pending.Resume rest tt)
  status-part _ (passes who y rest todo h said) =
      beside f m e law x few (T.after m p.context.thread y (Pending.Inherit (to_thread who)) rest) (Todo.pass who y) todo h.at tt refl refl (same-marks f m e law x few _ said (λ w. refl)) refl
  status-part _ (drops from y rest todo h said) =
      let d = drop-object m p.context.thread y x in
      drop-case f m e law x few (T.after m p.context.thread y (Pending.Drops from) rest) (to_thread p.context.thread) (address_of f.image y) (leftover_in (act_in e.act)) y p.context.thread More.Nothing
      (Todo.drop y) todo h.at tt refl refl (visit-site h) said (λ ne. ap traits_of (d.1 ne)) (λ k quiet. ap traits_of (d.0 (ap (λ z. takes_last (T.dropped m p.context.thread z)) k ∙ quiet)))
      (λ k loud.
      ap (λ z. traits_of (object_at (with_dropped m p.context.thread y) z)) (sym k)
      ∙ (ap traits_of (d.2 (in-objects f m e law x few h.few) (ap (λ z. takes_last (T.dropped m p.context.thread z)) k ∙ loud)) ∙ ap (λ z. record (traits_of (object_at m z)) { status = Status.Gone }) k))
  status-part _ (cleans who y rest todo h said) =
      let z = own_row m.image who in
      let o = record (object_at m z) { cleaner = Some (to_thread p.context.thread) } in
      let s = with_cleaner m p.context.thread z in
      let first : (r : ℕ) → traits_of (object_at s r) ≡ traits_of (object_at m r) = λ r. set-kept traits_of m.objects z r o refl in
      let d = drop-object s who y x in
      drop-case f m e law x few (T.after m p.context.thread y (Pending.CleanPair (to_thread who)) rest) (to_thread who) (address_of f.image y) (leftover_in (act_in e.act)) y p.context.thread More.Nothing
      (Todo.clean_pair who y) todo h.at tt refl refl (visit-site h) said
      (λ ne. ap traits_of (d.1 ne) ∙ first x) (λ k quiet. ap traits_of (d.0 (ap (λ i. takes_last (T.dropped m who i)) k ∙ quiet)) ∙ first x)
      (λ k loud.
      ap (λ i. traits_of (object_at (with_dropped s who y) i)) (sym k)
      ∙ (ap traits_of (d.2 (subst (λ i. y < i) (sym (length-set m.objects z o)) (in-objects f m e law x few h.few)) (ap (λ i. takes_last (T.dropped m who i)) k ∙ loud))
      ∙ ((λ i. record (first y i) { status = Status.Gone }) ∙ ap (λ i. record (traits_of (object_at m i)) { status = Status.Gone }) k)))
  status-part _ (recycles y rest todo at l said chosen) = recycle-case y rest todo at said
  status-part _ (beside_it t y q how chosen started) = on-beside t y q how
