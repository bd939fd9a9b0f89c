-- A processor's event on the word of a row, whose answer says whether the object stands, is that step of the machine, where the
-- relation holds: grants, the permission on a new thread's own object, publications, marks as initialised, and checks.
use Rattle.um_refinement.proofs.Words.{◌≡◌, ◌≢◌, ◌⊎◌, inl, inr, ℕ, ◌<◌, Bool, false, Option, Some, None, refl, sym, ap, ◌∙◌, subst, eq-or-lt_of_le, ◌&&◌, not, IsTrue, if◌then◌else◌, and_parts, false≢true, not-true, true≢false, Act, Image, ROWS, Addr, Errno, Kind, Mode, Want, Refusal, Thread, More, ThreadIx, own_row, row_at, Pending, Steps, to_thread, State, is_user, object_at, pair_at, thread_at, FineAct, RowWord, Stage, given_of, has, is_free, is_live, row_says, verdict_of, row_named, act_in, given_in, set_in, verdict_in, Exchange, FineStep, Site, SiteState, is_sort, site_after, site_answers, site_takes, Cell, Todos, kind_of, check_site, shows, Fine, row, row_state, thread_state, is_reserved, recyclers, vacaters, Rel, set_of, fits_kind}
use Rattle.um_machine.specs.Objects as Plain
use Rattle.um_machine.specs.Table as T
use Rattle.um_refinement.proofs.Offered.{IsStep, Shows, act-is, machine-step, own-same, says-at, site-is, takes-at}
use Rattle.um_refinement.proofs.Says.{Stands, given-agrees, set-agrees, verdict-agrees}

-- each site keeps its sort
pub sort-next : (image : Image) (i : Site) (s : SiteState) (act : FineAct) (moved : Exchange) → IsTrue (is_sort i s) → IsTrue (is_sort i (site_after image s act moved))
sort-next image (Site.row x) (SiteState.row w) act moved h = refl
sort-next image (Site.thread t) (SiteState.thread w) act moved h = refl
sort-next image (Site.domain d) (SiteState.domain w) act moved h = refl
sort-next image (Site.object x) (SiteState.cell n (Cell.object o)) act moved h = refl
sort-next image (Site.parts d) (SiteState.cell n (Cell.parts p)) act moved h = refl
sort-next image Site.memory (SiteState.cell n (Cell.memory m)) act moved h = refl
sort-next image Site.heap (SiteState.cell n (Cell.heap k)) act moved h = refl
sort-next image Site.scheduler (SiteState.cell n (Cell.scheduler s)) act moved h = refl
sort-next image Site.clock (SiteState.cell n (Cell.clock c)) act moved h = refl
sort-next image Site.joins (SiteState.cell n (Cell.joins j)) act moved h = refl
sort-next image i s act moved h = absurd (false≢true h)

pub row-sort : (x : ℕ) (s : SiteState) → IsTrue (is_sort (Site.row x) s) → s ≡ SiteState.row (row_state s)
row-sort x (SiteState.row w) h = refl
row-sort x s h = absurd (false≢true h)

pub thread-sort : (t : ℕ) (s : SiteState) → IsTrue (is_sort (Site.thread t) s) → s ≡ SiteState.thread (thread_state s)
thread-sort t (SiteState.thread w) h = refl
thread-sort t s h = absurd (false≢true h)

-- the verdict of a word and of the machine, by whether an object of the wanted kind stands
abbrev verdict_by : Bool → ℕ → Mode → RowWord → Want → Option Errno
verdict_by fits t mode w want =
    if not fits then Some Errno.EBADF
    else if is_user mode && not (has w t) && not w.public then Some Errno.EPERM
    else Plain.init_verdict want w.init

abbrev row_verdict_by : State → ℕ → ℕ → Bool → Want → Option Errno
row_verdict_by m t x fits want =
    if not fits then Some Errno.EBADF
    else if is_user (thread_at m t).mode && not (pair_at m t x) && not (object_at m x).public then Some Errno.EPERM
    else Plain.init_verdict want (object_at m x).init

module _ (f : Fine) (m : State) (rel : Rel f m) where
  pub row-stands : (x : ℕ) → f.sites (Site.row x) ≡ SiteState.row (row f x)
  row-stands x = row-sort x (f.sites (Site.row x)) (rel.sorts (Site.row x))

  -- a row that isn't free isn't between its `vacate` and its `recycle`
  pub settled : (x : ℕ) → x < ROWS → is_free (row f x).stage ≡ false → vacaters f x ≡ recyclers f x
  settled x few h = by (eq-or-lt_of_le (rel.rows x few).cleaners.order)
    where
      by : (vacaters f x ≡ recyclers f x) ⊎ (vacaters f x < recyclers f x) → vacaters f x ≡ recyclers f x
      by (inl e) = e
      by (inr less) = absurd (true≢false (sym (ap is_free ((rel.rows x few).status.vacated less).0) ∙ h))

  -- its word stands for the object
  pub stands-at : (x : ℕ) → x < ROWS → vacaters f x ≡ recyclers f x → Stands m x (is_reserved (object_at m x).status) (row f x)
  stands-at x few at =
      let r = rel.rows x few in
      record {
        pairs = r.pairs.pairs;
        status = r.status.status at;
        init = r.status.init at;
        public = r.status.public at;
        kind = λ free. r.status.kind free ∙ ap (λ (i : Image). kind_of i x) (sym rel.image);
      }

  pub stands : (x : ℕ) → x < ROWS → is_free (row f x).stage ≡ false → Stands m x (is_reserved (object_at m x).status) (row f x)
  stands x few h = stands-at x few (settled x few h)

  not-free : (x : ℕ) → is_free (row f x).stage ≡ false → (row f x).stage ≢ Stage.Free
  not-free x h e = true≢false (sym (ap is_free e) ∙ h)

  given-here : (x : ℕ) → x < ROWS → is_free (row f x).stage ≡ false → given_of (row f x) ≡ T.given m x
  given-here x few h = given-agrees (stands x few h) (not-free x h)

  set-here : (x : ℕ) (strict : Bool) → x < ROWS → is_free (row f x).stage ≡ false → set_of (row f x) strict ≡ T.set_said (object_at m x) strict
  set-here x strict few h = set-agrees strict (stands x few h) (not-free x h)

  -- a check says the verdict, also where the row is vacated and the object still gone
  verdict-here : (x t : ℕ) (mode : Mode) (kind : Option Kind) (want : Want) → x < ROWS → mode ≡ (thread_at m t).mode
      → verdict_of (row f x) t mode (Plain.has_kind kind (kind_of f.image x)) want ≡ Plain.row_verdict m t kind want x
  verdict-here x t mode kind want few e = by (eq-or-lt_of_le (rel.rows x few).cleaners.order)
    where
      by : (vacaters f x ≡ recyclers f x) ⊎ (vacaters f x < recyclers f x)
          → verdict_of (row f x) t mode (Plain.has_kind kind (kind_of f.image x)) want ≡ Plain.row_verdict m t kind want x
      by (inl at) =
          ap (λ (i : Image). verdict_of (row f x) t mode (Plain.has_kind kind (kind_of i x)) want) (sym rel.image)
          ∙ verdict-agrees t mode kind want (stands-at x few at) e
      by (inr less) =
          let v = (rel.rows x few).status.vacated less in
          ap (λ s. verdict_by (is_live s && Plain.has_kind kind (kind_of f.image x)) t mode (row f x) want) v.0
          ∙ sym (ap (λ s. row_verdict_by m t x (Plain.is_live s && Plain.has_kind kind (object_at m x).kind) want) v.1)

  pub named-row : (a : Addr) → T.row_of m a ≡ row_named f.image a
  named-row a = ap (λ (i : Image). row_named i a) rel.image

-- what the word of a row says of the act that is shown there, and that it takes it
module _ {f : Fine} {m : State} {k : ℕ} {e : FineStep} {q : Pending} {rest : Steps} {todo : Todos} (h : Shows f m k e q rest todo) where
  pub row-says : (x : ℕ) (act : FineAct) → e.site ≡ Site.row x → e.act ≡ act → row_says (row f x) act ≡ act
  row-says x act site said = subst (λ (s : SiteState). site_answers f.image s e.moved act ≡ act) (row-stands f m h.rel x) (says-at h (Site.row x) act site said)

  row-takes : (x : ℕ) (act : FineAct) → e.site ≡ Site.row x → e.act ≡ act → IsTrue (site_takes (SiteState.row (row f x)) act)
  row-takes x act site said = subst (λ (s : SiteState). IsTrue (site_takes s act)) (row-stands f m h.rel x) (takes-at h (Site.row x) act site said)

module _ {f : Fine} {m : State} {k : ℕ} {e : FineStep} {rest : Steps} {todo : Todos} where
  pub grant-step : (who : ThreadIx) (a : Addr) → row_named f.image a < ROWS → Shows f m k e (Pending.Grant who a) rest todo
      → IsStep f m k e 0 (Pending.Grant who a)
  grant-step who a few h =
      let x = row_named f.image a in
      let says = ap (λ act. given_in (act_in act)) (row-says h x (shows f.image (f.processors k) (Pending.Grant who a) e.act) (site-is h) (act-is h)) in
      let free = not-true _ (and_parts _ _ (row-takes h x _ (site-is h) (act-is h))).1 in
      machine-step h 0 (act-is h) tt
      (ap (Act.Grant who a) (sym says ∙ (given-here f m h.rel x few free ∙ ap (T.given m) (sym (named-row f m h.rel a)))))

  pub publish-step : (a : Addr) → row_named f.image a < ROWS → Shows f m k e (Pending.Publish a) rest todo
      → IsStep f m k e 0 (Pending.Publish a)
  publish-step a few h =
      let x = row_named f.image a in
      let says = ap (λ act. given_in (act_in act)) (row-says h x (shows f.image (f.processors k) (Pending.Publish a) e.act) (site-is h) (act-is h)) in
      let free = not-true _ (and_parts _ _ (row-takes h x _ (site-is h) (act-is h))).1 in
      machine-step h 0 (act-is h) tt
      (ap (Act.Publish a) (sym says ∙ (given-here f m h.rel x few free ∙ ap (T.given m) (sym (named-row f m h.rel a)))))

  pub own-step : (who : ThreadIx) → own_row f.image who.0 < ROWS → Shows f m k e (Pending.Own who) rest todo
      → IsStep f m k e 0 (Pending.Own who)
  own-step who few h =
      let x = own_row f.image who.0 in
      let says = ap (λ act. given_in (act_in act)) (row-says h x (shows f.image (f.processors k) (Pending.Own who) e.act) (site-is h) (act-is h)) in
      let takes = and_parts _ _ (and_parts _ _ (row-takes h x _ (site-is h) (act-is h))).1 in
      let free = not-true _ (and_parts _ _ takes.0).1 in
      machine-step h 0 (act-is h) tt
      (ap (Act.Own who) (sym says ∙ (given-here f m h.rel x few free ∙ ap (λ (i : Image). T.given m (own_row i who.0)) (sym h.rel.image))))

  pub set-step : (a : Addr) (strict : Bool) (undo : Option Addr) → row_named f.image a < ROWS → Shows f m k e (Pending.SetInit a strict undo) rest todo
      → IsStep f m k e 0 (Pending.SetInit a strict undo)
  set-step a strict undo few h =
      let x = row_named f.image a in
      let says = ap (λ act. set_in (act_in act)) (row-says h x (shows f.image (f.processors k) (Pending.SetInit a strict undo) e.act) (site-is h) (act-is h)) in
      let free = not-true _ (and_parts _ _ (row-takes h x _ (site-is h) (act-is h))).1 in
      machine-step h 0 (act-is h) tt
      (ap (Act.SetInit a) (sym says ∙ (set-here f m h.rel x strict few free ∙ ap (λ y. T.set_said (object_at m y) strict) (sym (named-row f m h.rel a)))))

  -- a check of an address where no row is says that on the word of its thread
  check-nowhere : (a : Addr) (kind : Option Kind) (want : Want) (refusal : Refusal) → row_at f.image a.0 ≡ None → Shows f m k e (Pending.Check a kind want refusal) rest todo
      → IsStep f m k e 0 (Pending.Check a kind want refusal)
  check-nowhere a kind want refusal nowhere h =
      let t = (f.processors k).context.thread in
      let act = shows f.image (f.processors k) (Pending.Check a kind want refusal) e.act in
      let site = site-is h ∙ ap (check_site f.image (f.processors k)) nowhere in
      let here = subst (λ (s : SiteState). site_answers f.image s e.moved act ≡ act) (thread-sort t (f.sites (Site.thread t)) (h.rel.sorts (Site.thread t))) (says-at h (Site.thread t) act site (act-is h)) in
      let says : Some Errno.EBADF ≡ verdict_in (act_in e.act) = ap (λ z. verdict_in (act_in z)) here in
      machine-step h 0 (act-is h) tt
      (ap (Act.Check a kind want) (sym says ∙ sym (ap (Plain.verdict_at m t kind want) (ap (λ (i : Image). row_at i a.0) h.rel.image ∙ nowhere))))

  check-row : (a : Addr) (kind : Option Kind) (want : Want) (refusal : Refusal) (x : ℕ) → row_at f.image a.0 ≡ Some x → x < ROWS
      → Shows f m k e (Pending.Check a kind want refusal) rest todo → IsStep f m k e 0 (Pending.Check a kind want refusal)
  check-row a kind want refusal x there few h =
      let c = (f.processors k).context in
      let act = shows f.image (f.processors k) (Pending.Check a kind want refusal) e.act in
      let by_row : Option ℕ → FineAct = λ o. FineAct.Shown (record { thread = to_thread c.thread; act = Act.Check a kind want (verdict_in (act_in e.act)) }) (More.By c.mode (fits_kind f.image (f.processors k) kind o)) in
      let site = site-is h ∙ ap (check_site f.image (f.processors k)) there in
      let says : verdict_of (row f x) c.thread c.mode (Plain.has_kind kind (kind_of f.image x)) want ≡ verdict_in (act_in e.act) =
      ap (λ z. verdict_in (act_in z)) (row-says h x (by_row (Some x)) site (act-is h ∙ ap by_row there)) in
      let mode : c.mode ≡ (thread_at m c.thread).mode = ap (λ (z : Thread). z.mode) (own-same h) in
      machine-step h 0 (act-is h) tt
      (ap (Act.Check a kind want) (sym says ∙ (verdict-here f m h.rel x c.thread c.mode kind want few mode
      ∙ sym (ap (Plain.verdict_at m c.thread kind want) (ap (λ (i : Image). row_at i a.0) h.rel.image ∙ there)))))

  pub check-step : (a : Addr) (kind : Option Kind) (want : Want) (refusal : Refusal) → ((x : ℕ) → row_at f.image a.0 ≡ Some x → x < ROWS)
      → Shows f m k e (Pending.Check a kind want refusal) rest todo → IsStep f m k e 0 (Pending.Check a kind want refusal)
  check-step a kind want refusal few h = by (row_at f.image a.0) refl
    where
      by : (o : Option ℕ) → row_at f.image a.0 ≡ o → IsStep f m k e 0 (Pending.Check a kind want refusal)
      by None at = check-nowhere a kind want refusal at h
      by (Some x) at = check-row a kind want refusal x at (few x at) h
