-- What a step makes of the cleaning of an object: it stays as it is, begins, or comes to its end; where a claim ends, a row is vacated, or a
-- permission is dropped.
use Rattle.um_refinement.proofs.Words.{◌≡◌, ℕ, ◌+◌, ◌<◌, ◌≤◌, Bool, true, false, cond, [], ◌∷◌, refl, sym, ap, ◌∙◌, subst, arith, ◌==◌, ◌&&◌, not, if◌then◌else◌, nat_lt, and_parts, eqb-false, eqb-true, false≢true, ltb-true, Act, Leftover, ROWS, Addr, ThreadIx, Status, to_thread, State, object_at, FineAct, More, Unseen, RowWord, Stage, dropped, gone_stage, has, is_cleaning, is_dying, is_free, is_last, is_live, left_of, permitted, row_after, row_takes, act_in, leftover_in, row_in, begins_cleaning, row_number, Todo, Todos, SiteState, s_next, same_site, site_after, site_answers, site_takes, word_of, FineStep, Site, same-sound, CleanersAre, Fine, one_if, over_processors, row, row_state, counted, is_recycle, is_vacate, is_reserved, recyclers, status_of, vacaters, counted_row}
use Rattle.um_machine.specs.Objects as Plain
use Rattle.um_machine.specs.Table as T
use Rattle.um_refinement.proofs.ListGrowth.{ReadsLast}
use Rattle.um_refinement.proofs.DomainReads.{eqb-swap}
use Rattle.um_refinement.proofs.DropSteps.{left-here}
use Rattle.um_refinement.proofs.Erased.{around}
use Rattle.um_refinement.proofs.Leaves.{Lawful}
use Rattle.um_refinement.proofs.ListCounts.{IsOfEmptying, begun, count-cons, next-counts, recycles-of, takes-counts, vacates-of}
use Rattle.um_refinement.proofs.Reachable.{sound-held}
use Rattle.um_refinement.proofs.RowSteps.{row-stands, settled}
use Rattle.um_refinement.proofs.SchedulerSteps.{made-at, made-says, word-left}
use Rattle.um_refinement.proofs.StepReads.{is-behind}
use Rattle.um_refinement.proofs.Sums.{over-changed}
use Rattle.um_refinement.proofs.CleaningFacts.{begins-stage, cleaning-is, left-gone, loud-left, quiet-left, row-site, takes_last}

module _ (f : Fine) (m : State) (e : FineStep) (law : Lawful f m e) (x : ℕ) (few : x < ROWS) where
  open around f e use {later, processor as p, now}
  open is-behind f m e law use {frame}

  pub was : CleanersAre f m x
  was = (law.rel.rows x few).cleaners

  -- The word of the row.

  pub row-else : same_site e.site (Site.row x) ≡ false → row later x ≡ row f x
  row-else off = ap (λ b. row_state (cond b (s_next f.image (f.sites (Site.row x)) e) (f.sites (Site.row x)))) off

  pub row-here : same_site e.site (Site.row x) ≡ true → (act : FineAct) → e.act ≡ act → row later x ≡ counted_row (row_after (row f x) act)
  row-here on act said =
      ap (λ b. row_state (cond b (s_next f.image (f.sites (Site.row x)) e) (f.sites (Site.row x)))) on
      ∙ (ap (λ (z : SiteState). row_state (site_after f.image z e.act e.moved)) (row-stands f m law.rel x)
      ∙ ap (λ a. counted_row (row_after (row f x) a)) said)

  pub row-takes-it : same_site e.site (Site.row x) ≡ true → (act : FineAct) → e.act ≡ act → row_takes (row f x) act ≡ true
  row-takes-it on act said =
      (and_parts (nat_lt (row f x).number 1048575) (row_takes (row f x) act)
      (subst (λ (z : SiteState). site_takes z act ≡ true) (row-stands f m law.rel x)
      (subst (λ (z : Site × FineAct). site_takes (f.sites z.0) z.1 ≡ true) (λ j. (same-sound e.site (Site.row x) on j, said j)) law.taken.takes))).1

  -- the word that the step leaves is that of the row
  pub word-here : same_site e.site (Site.row x) ≡ true → row_in e.word ≡ row later x
  word-here on =
      ap row_in (word-left f m e law ∙ ap (λ i. word_of (s_next f.image (f.sites i) e)) (same-sound e.site (Site.row x) on))
      ∙ (ap (λ (z : SiteState). row_in (word_of (site_after f.image z e.act e.moved))) (row-stands f m law.rel x)
      ∙ sym (row-here on e.act refl))

  -- What the step adds to the cleanings on its processor's list.

  pub begins-at : begins_cleaning e ≡ true → e.site ≡ Site.row (row_number e.site)
  begins-at h =
      row-site f.image e.site (f.sites e.site) e.act e.moved (law.rel.sorts e.site)
      (subst (λ w. is_cleaning (row_in w).stage ≡ true) (word-left f m e law) (begins-stage e e.act h))

  abbrev pub gain : Bool → ℕ → ℕ
  gain true y = one_if (x == y)
  gain false y = 0

  pub vacates-gain : (b : Bool) → begun (is_vacate x) (vacates-of x) f.image e b ≡ gain b (row_number e.site)
  vacates-gain true = elim (x == row_number e.site) as (λ c. (if c then 0 + 1 else 0) ≡ one_if c) [ true ↦ refl | false ↦ refl ]
  vacates-gain false = refl

  pub recycles-gain : (b : Bool) → begun (is_recycle x) (recycles-of x) f.image e b ≡ gain b (row_number e.site)
  recycles-gain true = elim (x == row_number e.site) as (λ c. (if c then 0 + 1 else 0) ≡ one_if c) [ true ↦ refl | false ↦ refl ]
  recycles-gain false = refl

  module _ (q : Todo) (todo : Todos) (at : p.todo ≡ q ∷ todo) (last : ReadsLast e q todo) where
    test-sum : (test : Todo → Bool) (of : IsOfEmptying test) (g : ℕ) → begun test of f.image e (begins_cleaning e) ≡ g
        → over_processors later (λ z. counted test z.todo) + one_if (test q) ≡ over_processors f (λ z. counted test z.todo) + g
    test-sum test of g more =
        let all = over-changed f e (λ z. counted test z.todo) law.by.named in
        let before = ap (counted test) at ∙ count-cons test q todo in
        let after = next-counts test of f.image p e q todo at (frame q todo at) last in
        omega (arith, all, before, after, more)

    pub vac-sum : vacaters later x + one_if (is_vacate x q) ≡ vacaters f x + gain (begins_cleaning e) (row_number e.site)
    vac-sum = test-sum (is_vacate x) (vacates-of x) _ (vacates-gain (begins_cleaning e))

    pub rec-sum : recyclers later x + one_if (is_recycle x q) ≡ recyclers f x + gain (begins_cleaning e) (row_number e.site)
    rec-sum = test-sum (is_recycle x) (recycles-of x) _ (recycles-gain (begins_cleaning e))

    -- where the step is no end of a cleaning and begins none of this object
    pub vac-same : is_vacate x q ≡ false → gain (begins_cleaning e) (row_number e.site) ≡ 0 → vacaters later x ≡ vacaters f x
    vac-same apart none = let sum = vac-sum in let c = ap one_if apart in omega (arith, sum, c, none)

    pub rec-same : is_recycle x q ≡ false → gain (begins_cleaning e) (row_number e.site) ≡ 0 → recyclers later x ≡ recyclers f x
    rec-same apart none = let sum = rec-sum in let c = ap one_if apart in omega (arith, sum, c, none)

  -- a step elsewhere begins no cleaning of this object
  pub no-gain-else : same_site e.site (Site.row x) ≡ false → gain (begins_cleaning e) (row_number e.site) ≡ 0
  no-gain-else off = by (begins_cleaning e) refl
    where
      apart : e.site ≡ Site.row (row_number e.site) → (c : Bool) → (x == row_number e.site) ≡ c → one_if c ≡ 0
      apart at true q = absurd (false≢true (sym off ∙ (ap (λ i. same_site i (Site.row x)) at ∙ (eqb-swap (row_number e.site) x ∙ q))))
      apart at false q = refl

      by : (b : Bool) → begins_cleaning e ≡ b → gain b (row_number e.site) ≡ 0
      by true q = apart (begins-at q) (x == row_number e.site) refl
      by false q = refl

  pub no-gain : begins_cleaning e ≡ false → gain (begins_cleaning e) (row_number e.site) ≡ 0
  no-gain q = ap (λ b. gain b (row_number e.site)) q

  -- What is so then.

  abbrev pub Gone : State → Bool
  Gone s = Plain.is_gone (object_at s x).status

  pub unchanged : (s : State) → vacaters later x ≡ vacaters f x → recyclers later x ≡ recyclers f x → (row later x).stage ≡ (row f x).stage
      → ((row f x).stage ≡ Stage.Cleaning → (row f x).claims ≡ 0 → (row later x).claims ≡ 0) → Gone s ≡ Gone m → CleanersAre later s x
  unchanged s vac rec stage claims gone =
      record {
        unclaimed = λ h. let k = sym stage ∙ h in claims k (was.unclaimed k);
        cleaning = λ h. vac ∙ was.cleaning (sym stage ∙ h);
        order = let o = was.order in omega (arith, vac, rec, o);
        cleaner = rec ∙ (was.cleaner ∙ sym (λ i. one_if (gone i && not (is_dying (stage i)))));
      }

  pub cleaned-not : Stage.Free ≡ Stage.Cleaning → ⊥
  cleaned-not h = false≢true (ap is_cleaning h)

  -- the row is vacated
  pub vacated : (s : State) → vacaters later x + 1 ≡ vacaters f x → recyclers later x ≡ recyclers f x → (row later x).stage ≡ Stage.Free → (row f x).stage ≡ Stage.Cleaning → Gone s ≡ Gone m
      → CleanersAre later s x
  vacated s vac rec stage before gone =
      record {
        unclaimed = λ h. absurd (cleaned-not (sym stage ∙ h));
        cleaning = λ h. absurd (cleaned-not (sym stage ∙ h));
        order = let o = was.order in omega (arith, vac, rec, o);
        cleaner = rec
            ∙ (was.cleaner ∙ ((λ i. one_if (Gone m && not (is_dying (before i)))) ∙ sym (λ i. one_if (gone i && not (is_dying (stage i))))));
      }

  -- a cleaning begins
  pub begun-now : (s : State) → vacaters later x ≡ vacaters f x + 1 → recyclers later x ≡ recyclers f x + 1 → recyclers f x ≡ 0 → (row later x).stage ≡ Stage.Cleaning → (row later x).claims ≡ 0
      → Gone s ≡ true → CleanersAre later s x
  begun-now s vac rec none stage claims gone =
      record {
        unclaimed = λ h. claims;
        cleaning = λ h. let o = was.order in omega (arith, vac, none, o);
        order = let o = was.order in omega (arith, vac, rec, o);
        cleaner = (omega (arith, rec, none)) ∙ sym (λ i. one_if (gone i && not (is_dying (stage i))));
      }

  -- the object is gone, and still claimed
  pub dies : (s : State) → vacaters later x ≡ vacaters f x → recyclers later x ≡ recyclers f x → recyclers f x ≡ 0 → (row later x).stage ≡ Stage.Dying → Gone s ≡ true → CleanersAre later s x
  dies s vac rec none stage gone =
      record {
        unclaimed = λ h. absurd (dying-not (sym stage ∙ h));
        cleaning = λ h. absurd (dying-not (sym stage ∙ h));
        order = let o = was.order in omega (arith, vac, rec, o);
        cleaner = rec ∙ (none ∙ sym (λ i. one_if (gone i && not (is_dying (stage i)))));
      }
    where
      dying-not : Stage.Dying ≡ Stage.Cleaning → ⊥
      dying-not h = false≢true (ap is_cleaning h)

  -- the object is recycled, once its row was vacated
  pub recycled : (s : State) → vacaters later x ≡ vacaters f x → recyclers later x + 1 ≡ recyclers f x → (row later x).stage ≡ (row f x).stage → vacaters f x ≡ 0 → Gone s ≡ false → CleanersAre later s x
  recycled s vac rec stage none gone =
      record {
        unclaimed = λ h. let one = was.cleaning (sym stage ∙ h) in absurd (omega (arith, one, none));
        cleaning = λ h. let one = was.cleaning (sym stage ∙ h) in absurd (omega (arith, one, none));
        order = omega (arith, vac, none);
        cleaner = last (was.cleaner) ∙ sym (λ i. one_if (gone i && not (is_dying (row later x).stage)));
      }
    where
      at-most : (b : Bool) → one_if b ≤ 1
      at-most true = omega arith
      at-most false = omega arith

      last : recyclers f x ≡ one_if (Gone m && not (is_dying (row f x).stage)) → recyclers later x ≡ 0
      last h = let most = at-most (Gone m && not (is_dying (row f x).stage)) in omega (arith, rec, h, most)

  pub begins-here : same_site e.site (Site.row x) ≡ true → begins_cleaning e ≡ true → is_cleaning (row later x).stage ≡ true
  begins-here on h = ap (λ (w : RowWord). is_cleaning w.stage) (sym (word-here on)) ∙ begins-stage e e.act h

  -- A step that neither vacates nor recycles nor begins a cleaning, and leaves the stage of the row.
  pub passed-by : (s : State) (q : Todo) (todo : Todos) → p.todo ≡ q ∷ todo → ReadsLast e q todo → is_vacate x q ≡ false → is_recycle x q ≡ false → gain (begins_cleaning e) (row_number e.site) ≡ 0
      → (row later x).stage ≡ (row f x).stage → ((row f x).stage ≡ Stage.Cleaning → (row f x).claims ≡ 0 → (row later x).claims ≡ 0) → Gone s ≡ Gone m → CleanersAre later s x
  passed-by s q todo at last vac rec none stage claims gone = unchanged s (vac-same q todo at last vac none) (rec-same q todo at last rec none) stage claims gone

  -- the same of a step that isn't made at the row
  pub elsewhere : (s : State) (q : Todo) (todo : Todos) → p.todo ≡ q ∷ todo → ReadsLast e q todo → is_vacate x q ≡ false → is_recycle x q ≡ false → same_site e.site (Site.row x) ≡ false
      → Gone s ≡ Gone m → CleanersAre later s x
  elsewhere s q todo at last vac rec off gone =
      let word = row-else off in
      passed-by s q todo at last vac rec (no-gain-else off) (ap (λ (w : RowWord). w.stage) word) (λ h k. ap (λ (w : RowWord). w.claims) word ∙ k) gone

  -- or that leaves its word, but for the number
  pub leaves-word : (act : FineAct) → e.act ≡ act → ((w : RowWord) → (row_after w act).stage ≡ w.stage) → ((w : RowWord) → (row_after w act).claims ≡ w.claims)
      → ((row later x).stage ≡ (row f x).stage) × ((row later x).claims ≡ (row f x).claims)
  leaves-word act said stage claims = by (same_site e.site (Site.row x)) refl
    where
      by : (b : Bool) → same_site e.site (Site.row x) ≡ b → ((row later x).stage ≡ (row f x).stage) × ((row later x).claims ≡ (row f x).claims)
      by true on =
          let word = row-here on act said in (ap (λ (w : RowWord). w.stage) word ∙ stage (row f x), ap (λ (w : RowWord). w.claims) word ∙ claims (row f x))
      by false off = let word = row-else off in (ap (λ (w : RowWord). w.stage) word, ap (λ (w : RowWord). w.claims) word)

  pub idle : (s : State) → p.todo ≡ [] → begins_cleaning e ≡ false → (row later x).stage ≡ (row f x).stage → (row later x).claims ≡ (row f x).claims → Gone s ≡ Gone m → CleanersAre later s x
  idle s at quiet stage claims gone =
      unchanged s (same-count (is_vacate x) (takes-counts (is_vacate x) (vacates-of x) f.image p e at quiet)) (same-count (is_recycle x) (takes-counts (is_recycle x) (recycles-of x) f.image p e at quiet))
      stage (λ h k. claims ∙ k) gone
    where
      same-count : (test : Todo → Bool) → counted test now.todo ≡ 0 → over_processors later (λ z. counted test z.todo) ≡ over_processors f (λ z. counted test z.todo)
      same-count test none =
          let all = over-changed f e (λ z. counted test z.todo) law.by.named in
          let before = ap (counted test) at in
          omega (arith, all, before, none)

  -- A claim ends.
  pub end-call : (z : ℕ) (todo : Todos) → p.todo ≡ Todo.end_call z ∷ todo → CleanersAre later m x
  end-call z todo at = by (z == x) refl
    where
      said : e.act ≡ FineAct.Unseen Unseen.EndCall
      said = made-says f m e law (Todo.end_call z ∷ todo) at

      site : e.site ≡ Site.row z
      site = made-at f m e law (Todo.end_call z ∷ todo) at

      here : (z == x) ≡ true → CleanersAre later m x
      here k = stage-by (row f x).stage refl (is-one (row f x).claims refl)
        where
          on : same_site e.site (Site.row x) ≡ true
          on = ap (λ i. same_site i (Site.row x)) site ∙ k

          word : row later x ≡ counted_row (row_after (row f x) (FineAct.Unseen Unseen.EndCall))
          word = row-here on (FineAct.Unseen Unseen.EndCall) said

          some : 0 < (row f x).claims
          some = ltb-true 0 (row f x).claims (row-takes-it on (FineAct.Unseen Unseen.EndCall) said)

          is-one : (n : ℕ) → (row f x).claims ≡ n → (b : Bool) × (((row f x).claims == 1) ≡ b)
          is-one n q = ((row f x).claims == 1, refl)

          -- it isn't the last claim of a dying object
          stays : (row later x).stage ≡ (row f x).stage → is_cleaning (row f x).stage ≡ false → CleanersAre later m x
          stays stage not-clean =
              passed-by m (Todo.end_call z) todo at tt refl refl (quiet (begins_cleaning e) refl) stage
              (λ h none. let c = some in absurd (omega (arith, none, c))) refl
            where
              quiet : (b : Bool) → begins_cleaning e ≡ b → gain b (row_number e.site) ≡ 0
              quiet false q = refl
              quiet true q = absurd (false≢true (sym not-clean ∙ (ap is_cleaning (sym stage) ∙ begins-here on q)))

          stage-by : (st : Stage) → (row f x).stage ≡ st → (b : Bool) × (((row f x).claims == 1) ≡ b) → CleanersAre later m x
          stage-by Stage.Free q one = stays (ap (λ (w : RowWord). w.stage) word ∙ (ap (λ t. if is_dying t && ((row f x).claims == 1) then Stage.Cleaning else t) q ∙ sym q)) (ap is_cleaning q)
          stage-by Stage.Live q one = stays (ap (λ (w : RowWord). w.stage) word ∙ (ap (λ t. if is_dying t && ((row f x).claims == 1) then Stage.Cleaning else t) q ∙ sym q)) (ap is_cleaning q)
          stage-by Stage.Cleaning q one = let none = was.unclaimed q in let c = some in absurd (omega (arith, none, c))
          stage-by Stage.Dying q (false, one) =
              stays (ap (λ (w : RowWord). w.stage) word ∙ ((λ i. if is_dying (q i) && one i then Stage.Cleaning else q i) ∙ sym q)) (ap is_cleaning q)
          stage-by Stage.Dying q (true, one) =
              begun-now m vac rec none stage claims (ap Plain.is_gone status)
            where
              stage : (row later x).stage ≡ Stage.Cleaning
              stage = ap (λ (w : RowWord). w.stage) word ∙ (λ i. if is_dying (q i) && one i then Stage.Cleaning else q i)

              claims : (row later x).claims ≡ 0
              claims = let c = eqb-true (row f x).claims 1 one in let w = ap (λ (v : RowWord). v.claims) word in omega (arith, w, c)

              status : (object_at m x).status ≡ Status.Gone
              status = (law.rel.rows x few).status.status (settled f m law.rel x few (ap is_free q)) ∙ ap (λ t. status_of t (is_reserved (object_at m x).status)) q

              none : recyclers f x ≡ 0
              none = was.cleaner ∙ (λ i. one_if (Plain.is_gone (status i) && not (is_dying (q i))))

              begins-now : begins_cleaning e ≡ true
              begins-now =
                  ap (λ a. begins_cleaning (record e { act = a })) said ∙ (ap (λ (w : RowWord). is_cleaning w.stage) (word-here on) ∙ ap is_cleaning stage)

              gained : gain (begins_cleaning e) (row_number e.site) ≡ 1
              gained =
                  (λ i. gain (begins-now i) (row_number (site i))) ∙ ap one_if (eqb-swap x z ∙ k)

              vac : vacaters later x ≡ vacaters f x + 1
              vac = let sum = vac-sum (Todo.end_call z) todo at tt in let g = gained in omega (arith, sum, g)

              rec : recyclers later x ≡ recyclers f x + 1
              rec = let sum = rec-sum (Todo.end_call z) todo at tt in let g = gained in omega (arith, sum, g)

      by : (b : Bool) → (z == x) ≡ b → CleanersAre later m x
      by true k = here k
      by false k = elsewhere m (Todo.end_call z) todo at tt refl refl (ap (λ i. same_site i (Site.row x)) site ∙ k) refl

  -- A row is vacated.
  pub vacate-row : (z : ℕ) (todo : Todos) → p.todo ≡ Todo.vacate z ∷ todo → CleanersAre later m x
  vacate-row z todo at = by (z == x) refl (made-says f m e law (Todo.vacate z ∷ todo) at) (made-at f m e law (Todo.vacate z ∷ todo) at)
    where
      by : (b : Bool) → (z == x) ≡ b → e.act ≡ FineAct.Unseen Unseen.Vacate → e.site ≡ Site.row z → CleanersAre later m x
      by true k said site =
          let on = ap (λ i. same_site i (Site.row x)) site ∙ k in
          let word = row-here on (FineAct.Unseen Unseen.Vacate) said in
          let takes = and_parts (is_cleaning (row f x).stage) _ (row-takes-it on (FineAct.Unseen Unseen.Vacate) said) in
          let sum = vac-sum (Todo.vacate z) todo at tt in
          let one = ap one_if (eqb-swap x z ∙ k) in
          let none = no-gain (ap (λ a. begins_cleaning (record e { act = a })) said) in
          vacated m (omega (arith, sum, one, none)) (rec-same (Todo.vacate z) todo at tt refl none) (ap (λ (w : RowWord). w.stage) word) (cleaning-is (row f x).stage takes.0) refl
      by false k said site = elsewhere m (Todo.vacate z) todo at tt (eqb-swap x z ∙ k) refl (ap (λ i. same_site i (Site.row x)) site ∙ k) refl

  -- A permission is dropped.
  pub drop-case : (s : State) (who : ThreadIx) (addr : Addr) (left : Leftover) (y t : ℕ) (more : More) (q : Todo) (todo : Todos) → p.todo ≡ q ∷ todo → ReadsLast e q todo
      → is_vacate x q ≡ false → is_recycle x q ≡ false → e.site ≡ Site.row y
      → e.act ≡ FineAct.Shown (record { thread = to_thread t; act = Act.DropPair who addr left }) more
      → ((x ≡ y → ⊥) → Gone s ≡ Gone m) → (y ≡ x → takes_last (T.dropped m who.0 x) ≡ false → Gone s ≡ Gone m) → (y ≡ x → takes_last (T.dropped m who.0 x) ≡ true → Gone s ≡ true)
      → CleanersAre later s x
  drop-case s who addr left y t more q todo at last vac rec site said others kept dead = by (y == x) refl
    where
      here : (y == x) ≡ true → CleanersAre later s x
      here k = which (takes_last left) refl
        where
          same : y ≡ x
          same = eqb-true y x k

          on : same_site e.site (Site.row x) ≡ true
          on = ap (λ i. same_site i (Site.row x)) site ∙ k

          word : row later x ≡ counted_row (dropped (row f x) who.0)
          word = row-here on (FineAct.Shown (record { thread = to_thread t; act = Act.DropPair who addr left }) more) said

          left-is : left_of (row f x) who.0 ≡ left
          left-is =
              ap (λ a. leftover_in (act_in a))
              (subst (λ (z : SiteState). site_answers f.image z e.moved (FineAct.Shown (record { thread = to_thread t; act = Act.DropPair who addr left }) more) ≡ FineAct.Shown (record { thread = to_thread t; act = Act.DropPair who addr left }) more) (row-stands f m law.rel x)
              (subst (λ (z : Site × FineAct). site_answers f.image (f.sites z.0) e.moved z.1 ≡ z.1) (λ j. (same-sound e.site (Site.row x) on j, said j)) (ap (λ (z : FineStep). z.act) law.taken.filled_in)))

          machine : takes_last left ≡ takes_last (T.dropped m who.0 x)
          machine = ap takes_last (sym left-is ∙ left-here f m law.rel x who.0 few (sound-held m law.sound x who.0 few))

          cond-is : (is_last (row f x) who.0 && has (row f x) who.0) ≡ takes_last left
          cond-is = sym (left-gone (has (row f x) who.0) (is_last (row f x) who.0)) ∙ ap takes_last left-is

          word-by : (b : Bool) → takes_last left ≡ b
              → row later x ≡ counted_row (if b then record (permitted (row f x) who.0 false) { stage = gone_stage (row f x) } else permitted (row f x) who.0 false)
          word-by b h = word ∙ ap (λ c. counted_row (if c then record (permitted (row f x) who.0 false) { stage = gone_stage (row f x) } else permitted (row f x) who.0 false)) (cond-is ∙ h)

          begins-by : begins_cleaning e ≡ (elim left as (λ _. Bool) [ Leftover.Gone ↦ is_cleaning (row_in e.word).stage | _ ↦ false ])
          begins-by = ap (λ a. begins_cleaning (record e { act = a })) said

          which : (b : Bool) → takes_last left ≡ b → CleanersAre later s x
          which false h =
              let now-is = word-by false h in
              passed-by s q todo at last vac rec (no-gain (begins-by ∙ quiet-left left (is_cleaning (row_in e.word).stage) h)) (ap (λ (v : RowWord). v.stage) now-is)
              (λ c none. ap (λ (v : RowWord). v.claims) now-is ∙ none) (kept same (sym machine ∙ h))
          which true h = by-claims ((row f x).claims == 0) refl
            where
              now-is : row later x ≡ counted_row (record (permitted (row f x) who.0 false) { stage = gone_stage (row f x) })
              now-is = word-by true h

              live : is_live (row f x).stage ≡ true
              live = (and_parts ((row f x).dynamic) (is_live (row f x).stage) (and_parts ((row f x).dynamic && is_live (row f x).stage) _ (and_parts (is_last (row f x) who.0) (has (row f x) who.0) (cond-is ∙ h)).0).0).1

              live-is : (st : Stage) → is_live st ≡ true → st ≡ Stage.Live
              live-is Stage.Live g = refl
              live-is Stage.Free g = absurd (false≢true g)
              live-is Stage.Dying g = absurd (false≢true g)
              live-is Stage.Cleaning g = absurd (false≢true g)

              stage-was : (row f x).stage ≡ Stage.Live
              stage-was = live-is (row f x).stage live

              status : (object_at m x).status ≡ Status.Live
              status = (law.rel.rows x few).status.status (settled f m law.rel x few (ap is_free stage-was)) ∙ ap (λ z. status_of z (is_reserved (object_at m x).status)) stage-was

              none : recyclers f x ≡ 0
              none = was.cleaner ∙ (λ i. one_if (Plain.is_gone (status i) && not (is_dying (row f x).stage)))

              stage-now : (b : Bool) → ((row f x).claims == 0) ≡ b → (row later x).stage ≡ (if b then Stage.Cleaning else Stage.Dying)
              stage-now b c = ap (λ (v : RowWord). v.stage) now-is ∙ ap (λ d. if d then Stage.Cleaning else Stage.Dying) c

              begins-as : begins_cleaning e ≡ is_cleaning (row later x).stage
              begins-as = begins-by ∙ (loud-left left (is_cleaning (row_in e.word).stage) h ∙ ap (λ (v : RowWord). is_cleaning v.stage) (word-here on))

              by-claims : (b : Bool) → ((row f x).claims == 0) ≡ b → CleanersAre later s x
              by-claims true c =
                  let stage = stage-now true c in
                  let gained : gain (begins_cleaning e) (row_number e.site) ≡ 1 =
                  (λ i. gain ((begins-as ∙ ap is_cleaning stage) i) (row_number (site i))) ∙ ap one_if (eqb-swap x y ∙ k) in
                  let v = vac-sum q todo at last in
                  let r = rec-sum q todo at last in
                  let cv = ap one_if vac in
                  let cr = ap one_if rec in
                  begun-now s (omega (arith, v, cv, gained)) (omega (arith, r, cr, gained)) none stage
                  (ap (λ (z : RowWord). z.claims) now-is ∙ eqb-true (row f x).claims 0 c) (dead same (sym machine ∙ h))
              by-claims false c =
                  let stage = stage-now false c in
                  let quiet = no-gain (begins-as ∙ ap is_cleaning stage) in
                  dies s (vac-same q todo at last vac quiet) (rec-same q todo at last rec quiet) none stage (dead same (sym machine ∙ h))

      by : (b : Bool) → (y == x) ≡ b → CleanersAre later s x
      by true k = here k
      by false k = elsewhere s q todo at last vac rec (ap (λ i. same_site i (Site.row x)) site ∙ k) (others (λ h. eqb-false y x k (sym h)))
