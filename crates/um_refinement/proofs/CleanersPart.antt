-- An object that is gone and that nobody holds has exactly one processor that cleans it, after every lawful step.
use Rattle.um_refinement.proofs.Words.{row_after, ◌≡◌, inl, inr, ℕ, zero, suc, ◌+◌, ◌<◌, ◌≤◌, Bool, true, false, [], ◌∷◌, Option, Some, None, refl, sym, ap, ◌∙◌, subst, arith, eq-eqb, List, ◌==◌, ◌&&◌, not, is_some, if◌then◌else◌, nat_lt, slice_index_or, slice_set, unwrap_or, and_parts, eqb-false, eqb-true, false≢true, true≢false, get_or-set_other, get_or-set_same, length-set, Act, Leftover, Image, ROWS, Errno, Kind, Mode, Want, Addr, ThreadIx, own_row, row_at, Object, Status, Pending, Refusal, Steps, to_thread, MayChoose, is_user, State, object_at, vacant, FineAct, More, Unseen, RowWord, Stage, after_verdict, verdict_of, has, is_cleaning, is_dying, is_free, is_live, row_after_act, address_of, row_named, verdict_in, act_in, is_visit, leftover_in, row_in, begins_cleaning, by_me, says_show, shows, site_at, Todo, Todos, Processor, same_site, FineStep, Site, same-sound, AreBlocks, CleanersAre, Fine, one_if, row, counted, is_recycle, is_vacate, recyclers, vacaters, allows, says_step, fits_kind, length}
use Rattle.um_machine.specs.Objects as Plain
use Rattle.um_machine.specs.Table as T
use Rattle.um_machine.specs.State.{thread_at}
use Rattle.um_words.specs.declared.fine.Mark.{Mark}
use Rattle.um_refinement.proofs.CellSteps.{takes-off, takes-quiet}
use Rattle.um_refinement.proofs.WaitingSites.{waiting-apart}
use Rattle.um_refinement.proofs.DomainReads.{IsPlaced}
use Rattle.um_refinement.proofs.ListGrowth.{ReadsLast}
use Rattle.um_refinement.proofs.Erased.{around}
use Rattle.um_refinement.proofs.Leaves.{Beside, Lawful, Leaves, beside, cuts, expires, leaves, ticks, times_out, cleans, drops, event, nothing, passes, recycles, resumes}
use Rattle.um_refinement.proofs.ListCounts.{cleans-none}
use Rattle.um_refinement.proofs.SchedulerSteps.{made-at, made-says}
use Rattle.um_refinement.proofs.DomainFacts.{two-parts, is_unseen}
use Rattle.um_refinement.proofs.FirstThreads.{one-most}
use Rattle.um_refinement.proofs.HeldRows.{total-zero}
use Rattle.um_refinement.proofs.MemorySteps.{part-total}
use Rattle.um_refinement.proofs.CleaningFacts.{drop-status, is_birth, takes_last}
use Rattle.um_refinement.proofs.CleanersSteps.{passed-by, drop-case, elsewhere, end-call, idle, leaves-word, no-gain, rec-same, rec-sum, recycled, row-else, row-here, row-takes-it, vac-same, vacate-row}
use Rattle.um_refinement.proofs.ObjectsKept.{NoStatuses, born-reserved, set-kept, status-kept}
use Rattle.um_refinement.proofs.Offered.{IsStep, Shows, shown-offers, site-is, either-act}
use Rattle.um_refinement.proofs.PairsKept.{row-untouched}
use Rattle.um_refinement.proofs.RowClaims.{row-claims, won}
use Rattle.um_refinement.proofs.RowSteps.{named-row, row-says}
use Rattle.um_refinement.proofs.StatusKept.{Marks, given-marks}
use Rattle.um_refinement.proofs.StepReads.{is-behind, is-placed}
use Rattle.um_refinement.proofs.VisitSteps.{visit-site}
use Rattle.um_refinement.proofs.WordsKept.{IsShown}
use Rattle.um_refinement.proofs.Writes.{Makes, with_dropped, with_cleaner, reserved-objects}
use Rattle.um_base.specs.declared.names.Access.TheVariants as Access

-- what an act answers of a drop, of a check, and of a birth

abbrev pub is_drop : Pending → Bool
is_drop (Pending.DropPair who a) = true
is_drop q = false

pub no-left : (image : Image) (p : Processor) (q : Pending) (act : Act) → is_drop q ≡ false → leftover_in (says_step image p q act) ≡ Leftover.NoPair
no-left image p (Pending.DropPair who a) act h = absurd (true≢false h)
no-left image p (Pending.Load to a n) act h = either-act leftover_in Leftover.NoPair (allows image p Access.Read a.0 n) _ _ refl refl
no-left image p (Pending.Store a n value) act h = either-act leftover_in Leftover.NoPair (allows image p Access.Write a.0 n) _ _ refl refl
no-left image p (Pending.Fetch a) act h = either-act leftover_in Leftover.NoPair (allows image p Access.Exec a.0 4) _ _ refl refl
no-left image p q act h = refl

abbrev pub is_born_act : Act → Bool
is_born_act (Act.Born a) = true
is_born_act act = false

no-birth : (image : Image) (p : Processor) (q : Pending) (act : Act) → is_birth q ≡ false → is_born_act (says_step image p q act) ≡ false
no-birth image p (Pending.Born a) act h = absurd (true≢false h)
no-birth image p (Pending.Load to a n) act h = either-act is_born_act false (allows image p Access.Read a.0 n) _ _ refl refl
no-birth image p (Pending.Store a n value) act h = either-act is_born_act false (allows image p Access.Write a.0 n) _ _ refl refl
no-birth image p (Pending.Fetch a) act h = either-act is_born_act false (allows image p Access.Exec a.0 4) _ _ refl refl
no-birth image p q act h = refl

-- the events that take claims
abbrev pub is_claiming : Pending → Bool
is_claiming (Pending.Check a kind want refusal) = true
is_claiming (Pending.Own who) = true
is_claiming q = false

no-claim : (image : Image) (p : Processor) (w : RowWord) (q : Pending) (act : Act) → is_claiming q ≡ false → won w (says_step image p q act) ≡ 0
no-claim image p w (Pending.Check a kind want refusal) act h = absurd (true≢false h)
no-claim image p w (Pending.Own who) act h = absurd (true≢false h)
no-claim image p w (Pending.Load to a n) act h = either-act (won w) 0 (allows image p Access.Read a.0 n) _ _ refl refl
no-claim image p w (Pending.Store a n value) act h = either-act (won w) 0 (allows image p Access.Write a.0 n) _ _ refl refl
no-claim image p w (Pending.Fetch a) act h = either-act (won w) 0 (allows image p Access.Exec a.0 4) _ _ refl refl
no-claim image p w q act h = refl

-- a verdict, by whether an object of the wanted kind stands
abbrev verdict_from : Bool → RowWord → ℕ → Mode → Want → Option Errno
verdict_from stands w t mode want =
    if not stands then Some Errno.EBADF
    else if is_user mode && not (has w t) && not w.public then Some Errno.EPERM
    else Plain.init_verdict want w.init

module _ (f : Fine) (m : State) (e : FineStep) (law : Lawful f m e) (x : ℕ) (few : x < ROWS) where
  open around f e use {later, processor as p}
  open is-behind f m e law use {last-shown}

  abbrev Gone : State → Bool
  Gone s = Plain.is_gone (object_at s x).status

  abbrev Result : State → Type 0
  Result s = CleanersAre later s x

  -- A step that no trace shows.

  pub unshown : {A : Type 0} {u : Unseen} {act : FineAct} → e.act ≡ FineAct.Unseen u → e.act ≡ act → is_unseen act ≡ false → A
  unshown said is h = absurd (true≢false (ap is_unseen (sym said ∙ is) ∙ h))

  look-at : (q : Todo) (todo : Todos) → p.todo ≡ q ∷ todo → ReadsLast e q todo → is_vacate x q ≡ false → is_recycle x q ≡ false → e.act ≡ FineAct.Unseen Unseen.Visit → Result m
  look-at q todo at last vac rec said =
      let word = leaves-word f m e law x few (FineAct.Unseen Unseen.Visit) said (λ w. refl) (λ w. refl) in
      passed-by f m e law x few m q todo at last vac rec (no-gain f m e law x few (ap (λ a. begins_cleaning (record e { act = a })) said)) word.0 (λ h k. word.1 ∙ k) refl

  pub visit-is : (u : Unseen) (act : Act) → e.act ≡ FineAct.Unseen u → e.act ≡ (if is_visit e.act then FineAct.Unseen Unseen.Visit else by_me f.image p act) → e.act ≡ FineAct.Unseen Unseen.Visit
  visit-is u act said is = by (is_visit e.act) refl
    where
      by : (b : Bool) → is_visit e.act ≡ b → e.act ≡ FineAct.Unseen Unseen.Visit
      by true q = is ∙ ap (λ b. if b then FineAct.Unseen Unseen.Visit else by_me f.image p act) q
      by false q = unshown said (is ∙ ap (λ b. if b then FineAct.Unseen Unseen.Visit else by_me f.image p act) q) refl

  quiet-part : (u : Unseen) → e.act ≡ FineAct.Unseen u → (todo : Todos) → p.todo ≡ todo → Result m
  quiet-part u said [] at =
      let word = row-else f m e law x few (takes-off f m e law x few at) in
      idle f m e law x few m at (takes-quiet f m e law x few at) (ap (λ (w : RowWord). w.stage) word) (ap (λ (w : RowWord). w.claims) word) refl
  quiet-part u said (Todo.show q rest ∷ todo) at =
      elsewhere f m e law x few m (Todo.show q rest) todo at (last-shown q rest todo at) refl refl
      (ap (λ i. same_site i (Site.row x)) (made-at f m e law (Todo.show q rest ∷ todo) at) ∙ off q (made-says f m e law (Todo.show q rest ∷ todo) at)) refl
    where
      off : (q : Pending) → e.act ≡ says_show f.image p q e.act → same_site (site_at f.image p (Todo.show q rest ∷ todo)) (Site.row x) ≡ false
      off Pending.Begin is = refl
      off Pending.Exit is = refl
      off q is = unshown said is refl
  quiet-part u said (Todo.end_call z ∷ todo) at = end-call f m e law x few z todo at
  quiet-part u said (Todo.vacate z ∷ todo) at = vacate-row f m e law x few z todo at
  quiet-part u said (Todo.recycle z ∷ todo) at = unshown said (made-says f m e law (Todo.recycle z ∷ todo) at) refl
  quiet-part u said (Todo.pass who z ∷ todo) at = look-at (Todo.pass who z) todo at tt refl refl (visit-is u _ said (made-says f m e law (Todo.pass who z ∷ todo) at))
  quiet-part u said (Todo.drop z ∷ todo) at = look-at (Todo.drop z) todo at tt refl refl (visit-is u _ said (made-says f m e law (Todo.drop z ∷ todo) at))
  quiet-part u said (Todo.clean_pair who z ∷ todo) at = look-at (Todo.clean_pair who z) todo at tt refl refl (visit-is u _ said (made-says f m e law (Todo.clean_pair who z ∷ todo) at))
  quiet-part u said (Todo.look who site before ∷ todo) at =
      elsewhere f m e law x few m (Todo.look who site before) todo at tt refl refl
      (ap (λ i. same_site i (Site.row x)) (made-at f m e law (Todo.look who site before ∷ todo) at)
      ∙ waiting-apart site (Site.row x) (is-placed f m e law (Todo.look who site before) todo at) (λ y. refl) refl refl) refl
  quiet-part u said (Todo.handle deadline mark ∷ todo) at =
      elsewhere f m e law x few m (Todo.handle deadline mark) todo at tt refl refl
      (ap (λ i. same_site i (Site.row x)) (made-at f m e law (Todo.handle deadline mark ∷ todo) at) ∙ handled mark (is-placed f m e law (Todo.handle deadline mark) todo at)) refl
    where
      handled : (mark : Mark) → IsPlaced (Todo.handle deadline mark) → same_site (site_at f.image p (Todo.handle deadline mark ∷ todo)) (Site.row x) ≡ false
      handled (Mark.Thread who site) place = waiting-apart site (Site.row x) place (λ y. refl) refl refl
      handled (Mark.Timer y) place = refl
  quiet-part u said (q ∷ todo) at = elsewhere f m e law x few m q todo at tt refl refl (ap (λ i. same_site i (Site.row x)) (made-at f m e law (q ∷ todo) at)) refl

  -- An event of an instruction.

  module _ (q : Pending) (rest : Steps) (todo : Todos) (n : ℕ) (h : Shows f m e.cpu e q rest todo) (is : IsStep f m e.cpu e n q) where
    last : ReadsLast e (Todo.show h.listed rest) todo
    last = last-shown h.listed rest todo h.at

    quiet : is_drop q ≡ false → begins_cleaning e ≡ false
    quiet drop =
        ap (λ a. begins_cleaning (record e { act = a })) is.said
        ∙ ap (λ l. elim l as (λ _. Bool) [ Leftover.Gone ↦ is_cleaning (row_in e.word).stage | _ ↦ false ]) (no-left f.image p q (act_in e.act) drop)

    keeps-stage : (row_after_act (row f x) p.context.thread (says_step f.image p q (act_in e.act))).stage ≡ (row f x).stage → (row later x).stage ≡ (row f x).stage
    keeps-stage same = by (same_site e.site (Site.row x)) refl
      where
        by : (b : Bool) → same_site e.site (Site.row x) ≡ b → (row later x).stage ≡ (row f x).stage
        by true on = ap (λ (w : RowWord). w.stage) (row-here f m e law x few on _ is.said) ∙ same
        by false off = ap (λ (w : RowWord). w.stage) (row-else f m e law x few off)

    pub keeps-claims : is_claiming q ≡ false → is_birth q ≡ false → (row later x).claims ≡ (row f x).claims
    keeps-claims free birth = by (same_site e.site (Site.row x)) refl
      where
        unborn : (a : Addr) → says_step f.image p q (act_in e.act) ≡ Act.Born a → ⊥
        unborn a same = false≢true (sym (no-birth f.image p q (act_in e.act) birth) ∙ ap is_born_act same)

        by : (b : Bool) → same_site e.site (Site.row x) ≡ b → (row later x).claims ≡ (row f x).claims
        by true on =
            let word = ap (λ (w : RowWord). w.claims) (row-here f m e law x few on _ is.said) in
            let all = row-claims (row f x) p.context.thread (says_step f.image p q (act_in e.act)) unborn in
            let none = no-claim f.image p (row f x) q (act_in e.act) free in
            omega (arith, word, all, none)
        by false off = ap (λ (w : RowWord). w.claims) (row-else f m e law x few off)

    -- one that leaves the stage of the row, and takes no claim
    leaves-stage : is_drop q ≡ false → is_claiming q ≡ false → is_birth q ≡ false → (row_after_act (row f x) p.context.thread (says_step f.image p q (act_in e.act))).stage ≡ (row f x).stage
        → Gone (T.after m p.context.thread n q rest) ≡ Gone m → Result (T.after m p.context.thread n q rest)
    leaves-stage drop free birth same gone =
        passed-by f m e law x few (T.after m p.context.thread n q rest) (Todo.show h.listed rest) todo h.at last refl refl (no-gain f m e law x few (quiet drop)) (keeps-stage same)
        (λ k none. keeps-claims free birth ∙ none) gone

    -- one that takes a claim, if the object isn't in cleaning
    takes-claim : is_drop q ≡ false → (row_after_act (row f x) p.context.thread (says_step f.image p q (act_in e.act))).stage ≡ (row f x).stage
        → ((row f x).stage ≡ Stage.Cleaning → (row later x).claims ≡ (row f x).claims) → Gone (T.after m p.context.thread n q rest) ≡ Gone m → Result (T.after m p.context.thread n q rest)
    takes-claim drop same claims gone =
        passed-by f m e law x few (T.after m p.context.thread n q rest) (Todo.show h.listed rest) todo h.at last refl refl (no-gain f m e law x few (quiet drop)) (keeps-stage same)
        (λ k none. claims k ∙ none) gone

  gone-same : (t n : ℕ) (q : Pending) (rest : Steps) → Makes NoStatuses q → Gone (T.after m t n q rest) ≡ Gone m
  gone-same t n q rest makes = ap Plain.is_gone (status-kept m x t n q rest makes)

  -- a check that is passed is of a live object
  check-claims : (a : Addr) (kind : Option Kind) (want : Want) (refusal : Refusal) (rest : Steps) (todo : Todos) (n : ℕ) → Shows f m e.cpu e (Pending.Check a kind want refusal) rest todo
      → IsStep f m e.cpu e n (Pending.Check a kind want refusal) → (row f x).stage ≡ Stage.Cleaning → (row later x).claims ≡ (row f x).claims
  check-claims a kind want refusal rest todo n h is cleaning = by (same_site e.site (Site.row x)) refl
    where
      q : Pending
      q = Pending.Check a kind want refusal

      refused : (w : RowWord) (v : Option Errno) → (v ≡ None → ⊥) → (after_verdict w v).claims ≡ w.claims
      refused w None ne = absurd (ne refl)
      refused w (Some error) ne = refl

      some-none : {z : Errno} → Some z ≡ None → ⊥
      some-none k = false≢true (sym (ap is_some k))

      by : (b : Bool) → same_site e.site (Site.row x) ≡ b → (row later x).claims ≡ (row f x).claims
      by false off = ap (λ (w : RowWord). w.claims) (row-else f m e law x few off)
      by true on =
          let said = row-says h x (shows f.image p (Pending.Check a kind want refusal) e.act) (same-sound e.site (Site.row x) on) is.said in
          let verdict : verdict_of (row f x) (to_thread p.context.thread).0 p.context.mode (fits_kind f.image p kind (row_at f.image a.0)) want ≡ verdict_in (act_in e.act) = ap (λ z. verdict_in (act_in z)) said in
          let dead : verdict_of (row f x) (to_thread p.context.thread).0 p.context.mode (fits_kind f.image p kind (row_at f.image a.0)) want ≡ Some Errno.EBADF =
          ap (λ s. verdict_from (is_live s && fits_kind f.image p kind (row_at f.image a.0)) (row f x) (to_thread p.context.thread).0 p.context.mode want) cleaning in
          ap (λ (w : RowWord). w.claims) (row-here f m e law x few on _ is.said)
          ∙ refused (row f x) (verdict_in (act_in e.act)) (λ k. some-none (sym dead ∙ (verdict ∙ k)))

  own-claims : (who : ThreadIx) (rest : Steps) (todo : Todos) (n : ℕ) → Shows f m e.cpu e (Pending.Own who) rest todo → IsStep f m e.cpu e n (Pending.Own who)
      → (row f x).stage ≡ Stage.Cleaning → (row later x).claims ≡ (row f x).claims
  own-claims who rest todo n h is cleaning = by (same_site e.site (Site.row x)) refl
    where
      by : (b : Bool) → same_site e.site (Site.row x) ≡ b → (row later x).claims ≡ (row f x).claims
      by false off = ap (λ (w : RowWord). w.claims) (row-else f m e law x few off)
      by true on =
          let takes = and_parts (nat_lt (row f x).claims 127 && not (is_free (row f x).stage)) (not (is_cleaning (row f x).stage)) (row-takes-it f m e law x few on _ is.said) in
          absurd (false≢true (sym (ap (λ s. not (is_cleaning s)) cleaning) ∙ takes.1))

  in-objects : {y : ℕ} → y < ROWS → y < length m.objects
  in-objects l = let long = law.sound.wide.objects in omega (arith, l, long)

  not-live : Stage.Live ≡ Stage.Cleaning → ⊥
  not-live h = false≢true (ap is_cleaning h)

  -- an object is born at a reserved row, which nobody cleans
  born-case : (a : Addr) (rest : Steps) (todo : Todos) (n : ℕ) → Shows f m e.cpu e (Pending.Born a) rest todo → IsStep f m e.cpu e n (Pending.Born a)
      → Result (T.after m p.context.thread n (Pending.Born a) rest)
  born-case a rest todo n h is = by (row_named f.image a == x) refl
    where
      last : ReadsLast e (Todo.show h.listed rest) todo
      last = last-shown h.listed rest todo h.at

      quiet : begins_cleaning e ≡ false
      quiet = ap (λ act. begins_cleaning (record e { act = act })) is.said

      reserved : (object_at m (T.row_of m a)).status ≡ Status.Reserved
      reserved =
          let r = born-reserved m law.sound p.context.thread a rest (shown-offers h) in
          ap (λ (o : Option ℕ). (object_at m (unwrap_or o 0)).status) r.1 ∙ r.2

      gone : Gone (T.after m p.context.thread n (Pending.Born a) rest) ≡ Gone m
      gone =
          set-kept (λ (z : Object). Plain.is_gone z.status) m.objects (T.row_of m a) x (record (object_at m (T.row_of m a)) { status = Status.Live }) (sym (ap Plain.is_gone reserved))

      by : (b : Bool) → (row_named f.image a == x) ≡ b → Result (T.after m p.context.thread n (Pending.Born a) rest)
      by false k =
          elsewhere f m e law x few (T.after m p.context.thread n (Pending.Born a) rest) (Todo.show h.listed rest) todo h.at last refl refl
          (ap (λ i. same_site i (Site.row x)) (site-is h) ∙ k) gone
      by true k =
          let on = ap (λ i. same_site i (Site.row x)) (site-is h) ∙ k in
          let word = row-here f m e law x few on _ is.said in
          let stage = ap (λ (w : RowWord). w.stage) word in
          let at = named-row f m law.rel a ∙ eqb-true (row_named f.image a) x k in
          let status : (object_at m x).status ≡ Status.Reserved = ap (λ y. (object_at m y).status) (sym at) ∙ reserved in
          let none = no-gain f m e law x few quiet in
          let vac = vac-same f m e law x few (Todo.show h.listed rest) todo h.at last refl none in
          let rec = rec-same f m e law x few (Todo.show h.listed rest) todo h.at last refl none in
          let before = (law.rel.rows x few).cleaners in
          record {
            unclaimed = λ c. absurd (not-live (sym stage ∙ c));
            cleaning = λ c. absurd (not-live (sym stage ∙ c));
            order = let o = before.order in omega (arith, vac, rec, o);
            cleaner = rec
                ∙ ((before.cleaner ∙ (λ i. one_if (Plain.is_gone (status i) && not (is_dying (row f x).stage))))
                ∙ sym (λ i. one_if ((gone ∙ ap Plain.is_gone status) i && not (is_dying (row later x).stage))));
          }

  by-event : (q : Pending) (rest : Steps) (todo : Todos) (n : ℕ) → Shows f m e.cpu e q rest todo → IsShown q → IsStep f m e.cpu e n q → Result (T.after m p.context.thread n q rest)
  by-event (Pending.DropPair who a) rest todo n h shown is =
      let z = T.row_of m a in
      let same = named-row f m law.rel a in
      let d = drop-status m who.0 z x in
      drop-case f m e law x few (T.after m p.context.thread n (Pending.DropPair who a) rest) who a (leftover_in (act_in e.act)) (row_named f.image a) p.context.thread More.Nothing
      (Todo.show h.listed rest) todo h.at (last-shown h.listed rest todo h.at) refl refl (site-is h) is.said
      (λ ne. ap Plain.is_gone (d.1 (λ k. ne (k ∙ same))))
      (λ k quiet. ap Plain.is_gone (d.0 (ap (λ y. takes_last (T.dropped m who.0 y)) (same ∙ k) ∙ quiet)))
      (λ k loud.
      let at = same ∙ k in
      ap (λ y. Plain.is_gone (object_at (with_dropped m who.0 z) y).status) (sym at)
      ∙ ap Plain.is_gone (d.2 (in-objects (subst (λ y. y < ROWS) (sym at) few)) (ap (λ y. takes_last (T.dropped m who.0 y)) at ∙ loud)))
  by-event (Pending.Born a) rest todo n h shown is = born-case a rest todo n h is
  by-event (Pending.Check a kind want refusal) rest todo n h shown is =
      let q = Pending.Check a kind want refusal in
      takes-claim q rest todo n h is refl (row-untouched f.image p (row f x) p.context.thread q (act_in e.act) shown tt).stage (check-claims a kind want refusal rest todo n h is)
      (gone-same p.context.thread n q rest tt)
  by-event (Pending.Own who) rest todo n h shown is =
      takes-claim (Pending.Own who) rest todo n h is refl (ap (λ (k : Marks). k.stage) (given-marks (row f x) who.0 (is_live (row f x).stage))) (own-claims who rest todo n h is) (gone-same p.context.thread n (Pending.Own who) rest tt)
  by-event (Pending.Grant who a) rest todo n h shown is =
      leaves-stage (Pending.Grant who a) rest todo n h is refl refl refl (ap (λ (k : Marks). k.stage) (given-marks (row f x) who.0 (is_live (row f x).stage))) (gone-same p.context.thread n (Pending.Grant who a) rest tt)
  by-event (Pending.Reserve kind) rest todo n h shown is =
      let q = Pending.Reserve kind in
      leaves-stage q rest todo n h is refl refl refl (row-untouched f.image p (row f x) p.context.thread q (act_in e.act) shown tt).stage (reserved-gone n is.chosen)
    where
      free-gone : (st : Status) → Plain.is_free st ≡ true → Plain.is_gone st ≡ false
      free-gone Status.Free k = refl
      free-gone Status.Live k = absurd (false≢true k)
      free-gone Status.Gone k = absurd (false≢true k)
      free-gone Status.Reserved k = refl

      no-zero : {n : ℕ} → suc n ≡ 0 → ⊥
      no-zero k = omega (arith, k)

      reserved-gone : (n : ℕ) → MayChoose m p.context.thread n (Pending.Reserve kind) → Gone (T.after m p.context.thread n (Pending.Reserve kind) rest) ≡ Gone m
      reserved-gone zero chosen = refl
      reserved-gone (suc n) (inr none) = absurd (no-zero none.0)
      reserved-gone (suc n) (inl pays) =
          ap (λ (os : List Object). Plain.is_gone (slice_index_or os x vacant).status) (reserved-objects m p.context.thread n kind rest)
          ∙ set-kept (λ (z : Object). Plain.is_gone z.status) m.objects (suc n) x _ (sym (free-gone (object_at m (suc n)).status (and_parts _ (Plain.is_free (object_at m (suc n)).status) pays.1).1))
  by-event (Pending.Inherit who) rest todo n h shown is = absurd shown
  by-event (Pending.Drops from) rest todo n h shown is = absurd shown
  by-event (Pending.CleanPair who) rest todo n h shown is = absurd shown
  by-event Pending.Recycle rest todo n h shown is = absurd shown
  by-event q rest todo n h shown is =
      leaves-stage q rest todo n h is refl refl refl (row-untouched f.image p (row f x) p.context.thread q (act_in e.act) shown tt).stage (gone-same p.context.thread n q rest tt)

  -- The object of the last step of a cleaning isn't vacated by anybody any more.
  pub none-vacates : (todo : Todos) → p.todo ≡ Todo.recycle x ∷ todo → vacaters f x ≡ 0
  none-vacates todo at = total-zero (λ k. counted (is_vacate x) (f.processors k).todo) f.cpus (λ k l. by k l (e.cpu == k) refl)
    where
      here : counted (is_recycle x) p.todo ≡ counted (is_recycle x) todo + 1
      here = ap (counted (is_recycle x)) at ∙ ap (λ b. if b then counted (is_recycle x) todo + 1 else counted (is_recycle x) todo) (eq-eqb x x refl)

      most : recyclers f x ≤ 1
      most = let c = (law.rel.rows x few).cleaners.cleaner in let o = one-most (Gone m && not (is_dying (row f x).stage)) in omega (arith, c, o)

      by : (k : ℕ) → k < f.cpus → (b : Bool) → (e.cpu == k) ≡ b → counted (is_vacate x) (f.processors k).todo ≡ 0
      by k l true q =
          let part = part-total (λ j. counted (is_recycle x) (f.processors j).todo) f.cpus e.cpu law.by.named in
          let mine = here in
          let all = most in
          ap (λ n. counted (is_vacate x) (f.processors n).todo) (sym (eqb-true e.cpu k q))
          ∙ (ap (counted (is_vacate x)) at
          ∙ (cleans-none f.image x todo (subst (AreBlocks f.image) at (law.rel.processors e.cpu law.by.named).blocks) (omega (arith, part, mine, all))).1)
      by k l false q =
          let both = two-parts (λ j. counted (is_recycle x) (f.processors j).todo) f.cpus e.cpu k law.by.named l (eqb-false e.cpu k q) in
          let mine = here in
          let all = most in
          (cleans-none f.image x (f.processors k).todo (law.rel.processors k l).blocks (omega (arith, both, mine, all))).1

  recycle-case : (y : ℕ) (rest : Steps) (todo : Todos) → p.todo ≡ Todo.recycle y ∷ todo → e.act ≡ by_me f.image p (Act.Recycle (address_of f.image y)) → Result (T.after m p.context.thread y Pending.Recycle rest)
  recycle-case y rest todo at said = by (x == y) refl
    where
      off : same_site e.site (Site.row x) ≡ false
      off = ap (λ i. same_site i (Site.row x)) (made-at f m e law (Todo.recycle y ∷ todo) at)

      none : begins_cleaning e ≡ false
      none = ap (λ a. begins_cleaning (record e { act = a })) said

      by : (b : Bool) → (x == y) ≡ b → Result (T.after m p.context.thread y Pending.Recycle rest)
      by false k =
          elsewhere f m e law x few (T.after m p.context.thread y Pending.Recycle rest) (Todo.recycle y) todo at tt refl k off
          (ap (λ (o : Object). Plain.is_gone o.status) (get_or-set_other m.objects y x vacant vacant (eqb-false x y k)))
      by true k =
          let same = eqb-true x y k in
          let sum = rec-sum f m e law x few (Todo.recycle y) todo at tt in
          let one = ap one_if k in
          let gain-none = no-gain f m e law x few none in
          recycled f m e law x few (T.after m p.context.thread y Pending.Recycle rest) (vac-same f m e law x few (Todo.recycle y) todo at tt refl gain-none) (omega (arith, sum, one, gain-none))
          (ap (λ (w : RowWord). w.stage) (row-else f m e law x few off)) (none-vacates todo (at ∙ ap (λ n. Todo.recycle n ∷ todo) (sym same)))
          (ap (λ n. Plain.is_gone (slice_index_or (slice_set m.objects n vacant) x vacant).status) (sym same)
          ∙ ap (λ (o : Object). Plain.is_gone o.status) (get_or-set_same m.objects x vacant vacant (in-objects few)))

  -- A step beside the instructions leaves the words of rows, and which objects are gone.
  module _ (t n : ℕ) (q : Pending) (act : FineAct) (said : e.act ≡ act) (quiet : begins_cleaning (record e { act = act }) ≡ false) (same : (w : RowWord) → row_after w act ≡ w) where
    abbrev left : State
    left = T.after m t n q (thread_at m t).pending

    none-begins : begins_cleaning e ≡ false
    none-begins = ap (λ a. begins_cleaning (record e { act = a })) said ∙ quiet

    word : ((row later x).stage ≡ (row f x).stage) × ((row later x).claims ≡ (row f x).claims)
    word = leaves-word f m e law x few act said (λ w. ap (λ (v : RowWord). v.stage) (same w)) (λ w. ap (λ (v : RowWord). v.claims) (same w))

    on-list : (z : Todo) (todo : Todos) → p.todo ≡ z ∷ todo → ReadsLast e z todo → is_vacate x z ≡ false → is_recycle x z ≡ false → Gone left ≡ Gone m → Result left
    on-list z todo at last vac rec gone = passed-by f m e law x few left z todo at last vac rec (no-gain f m e law x few none-begins) word.0 (λ k none. word.1 ∙ none) gone

  on-beside : (t n : ℕ) (q : Pending) → Beside f m e t n q → Result (T.after m t n q (thread_at m t).pending)
  on-beside t n _ (cuts who site before _ todo at place inside said) =
      let q = Pending.Cut (to_thread who) in on-list t n q _ said refl (λ w. refl) (Todo.look who site before) todo at tt refl refl (gone-same t n q (thread_at m t).pending tt)
  on-beside t n _ (times_out deadline site _ who todo at place inside said) =
      let q = Pending.TimeOut who in on-list t n q _ said refl (λ w. refl) (Todo.handle deadline (Mark.Thread who site)) todo at tt refl refl (gone-same t n q (thread_at m t).pending tt)
  on-beside t n _ (expires deadline z todo at inside said) =
      on-list t n Pending.Expire _ said refl (λ w. refl) (Todo.handle deadline (Mark.Timer z)) todo at tt refl refl (gone-same t n Pending.Expire (thread_at m t).pending tt)
  on-beside t n _ (ticks at said) =
      let w = word t n Pending.Tick _ said refl (λ w. refl) in
      idle f m e law x few (T.after m t n Pending.Tick (thread_at m t).pending) at (takes-quiet f m e law x few at) w.0 w.1 (gone-same t n Pending.Tick (thread_at m t).pending tt)
  on-beside t n _ (leaves todo at said) =
      on-list t n Pending.Left _ said refl (λ w. refl) Todo.leave todo at tt refl refl (gone-same t n Pending.Left (thread_at m t).pending tt)

  pub cleaners-part : (s : State) → Leaves f m e s → CleanersAre later s x
  cleaners-part _ (nothing u said) = quiet-part u said p.todo refl
  cleaners-part _ (event q rest todo n h shown is) = by-event q rest todo n h shown is
  cleaners-part _ (resumes c told rest at moved said) =
      let word = row-else f m e law x few (takes-off f m e law x few at) in
      idle f m e law x few (T.after m c.thread 0 Pending.Resume rest) at (ap (λ a. begins_cleaning (record e { act = a })) said) (ap (λ (w : RowWord). w.stage) word)
      (ap (λ (w : RowWord). w.claims) word) (gone-same c.thread 0 Pending.Resume rest tt)
  cleaners-part _ (passes who y rest todo h said) =
      let word = leaves-word f m e law x few _ said (λ w. refl) (λ w. refl) in
      passed-by f m e law x few (T.after m p.context.thread y (Pending.Inherit (to_thread who)) rest) (Todo.pass who y) todo h.at tt refl refl
      (no-gain f m e law x few (ap (λ a. begins_cleaning (record e { act = a })) said)) word.0 (λ k none. word.1 ∙ none) refl
  cleaners-part _ (drops from y rest todo h said) =
      let d = drop-status m p.context.thread y x in
      drop-case f m e law x few (T.after m p.context.thread y (Pending.Drops from) rest) (to_thread p.context.thread) (address_of f.image y) (leftover_in (act_in e.act)) y p.context.thread More.Nothing
      (Todo.drop y) todo h.at tt refl refl (visit-site h) said
      (λ ne. ap Plain.is_gone (d.1 ne)) (λ k quiet. ap Plain.is_gone (d.0 (ap (λ z. takes_last (T.dropped m p.context.thread z)) k ∙ quiet)))
      (λ k loud.
      ap (λ z. Plain.is_gone (object_at (with_dropped m p.context.thread y) z).status) (sym k)
      ∙ ap Plain.is_gone (d.2 (in-objects h.few) (ap (λ z. takes_last (T.dropped m p.context.thread z)) k ∙ loud)))
  cleaners-part _ (cleans who y rest todo h said) =
      let z = own_row m.image who in
      let o = record (object_at m z) { cleaner = Some (to_thread p.context.thread) } in
      let s = with_cleaner m p.context.thread z in
      let first = set-kept (λ (w : Object). Plain.is_gone w.status) m.objects z x o refl in
      let d = drop-status s who y x in
      drop-case f m e law x few (T.after m p.context.thread y (Pending.CleanPair (to_thread who)) rest) (to_thread who) (address_of f.image y) (leftover_in (act_in e.act)) y p.context.thread More.Nothing
      (Todo.clean_pair who y) todo h.at tt refl refl (visit-site h) said
      (λ ne. ap Plain.is_gone (d.1 ne) ∙ first) (λ k quiet. ap Plain.is_gone (d.0 (ap (λ i. takes_last (T.dropped m who i)) k ∙ quiet)) ∙ first)
      (λ k loud.
      ap (λ i. Plain.is_gone (object_at (with_dropped s who y) i).status) (sym k)
      ∙ ap Plain.is_gone (d.2 (subst (λ i. y < i) (sym (length-set m.objects z o)) (in-objects h.few)) (ap (λ i. takes_last (T.dropped m who i)) k ∙ loud)))
  cleaners-part _ (recycles y rest todo at l said chosen) = recycle-case y rest todo at said
  cleaners-part _ (beside t n q how chosen started) = on-beside t n q how
