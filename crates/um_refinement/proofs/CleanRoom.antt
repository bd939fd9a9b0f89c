-- A processor that begins to clean an object has fewer to clean than there are dynamic rows: those that it has are others, each once, and dynamic.
use Rattle.um_refinement.proofs.Words.{◌≡◌, ℕ, ◌+◌, ◌-◌, ◌<◌, ◌≤◌, Bool, true, false, [], ◌∷◌, Option, Some, None, refl, sym, ap, ◌∙◌, subst, arith, ◌==◌, ◌&&◌, if◌then◌else◌, nat_le, nat_lt, not, unwrap_or, list_all, and_parts, false≢true, leb-true, ltb-true, true≢false, Act, Leftover, ROWS, STATIC_ROWS, Addr, row_at, Image, Pending, ThreadIx, to_thread, State, object_at, FineAct, More, Unseen, RowWord, Stage, has, is_cleaning, is_dying, is_free, is_last, is_live, left_of, row_after, row_says, row_takes, address_of, row_named, act_in, is_visit, is_word_read, leftover_in, row_in, begins_cleaning, by_me, more_of, says, says_idle, says_show, says_step, site_at, Todo, Todos, cleanings, Processor, SiteMay, SiteState, site_after, site_answers, site_takes, word_of, Exchange, FineStep, Site, Fine, one_if, row, counted, is_recycle, names_row, is_reserved, recyclers, status_of, Rel, and-false, call_ended, made_by}
use Rattle.um_machine.specs.Objects as Plain
use Rattle.um_words.specs.declared.fine.Mark.{Mark}
use Rattle.um_fine.specs.Answers.{is_due_act, is_killed, is_shut_act, is_tick, is_void}
use Rattle.um_fine.specs.Asks.{begins, by_actor, marks_end, says_turn, site_by}
use Rattle.um_refinement.proofs.CleanersPart.{is_drop, no-left}
use Rattle.um_refinement.proofs.CleaningFacts.{begins-stage}
use Rattle.um_refinement.proofs.FirstThreads.{one-most}
use Rattle.um_refinement.proofs.MemorySteps.{part-total}
use Rattle.um_refinement.proofs.ObjectsKept.{found-below, gone-dynamic}
use Rattle.um_refinement.proofs.Reachable.{IsSound}
use Rattle.um_refinement.proofs.RowSteps.{row-stands, settled}
use Rattle.um_refinement.proofs.Totals.{recycles-total, total-gap}

-- an act that isn't the last drop begins no cleaning
quiet-act : (e : FineStep) (act : Act) (more : More) (thread : ThreadIx) → leftover_in act ≡ Leftover.NoPair → begins_cleaning (record e { act = FineAct.Shown (record { thread = thread; act = act }) more }) ≡ false
quiet-act e act more thread h = ap (λ l. elim l as (λ _. Bool) [ Leftover.Gone ↦ is_cleaning (row_in e.word).stage | _ ↦ false ]) h

-- the last drop is of a live object, at a dynamic row
last-drop : (w : RowWord) (who : ℕ) → left_of w who ≡ Leftover.Gone → (w.dynamic ≡ true) × (is_live w.stage ≡ true)
last-drop w who h = by (has w who) refl
  where
    gone : Leftover → Bool
    gone Leftover.Gone = true
    gone left = false

    by : (b : Bool) → has w who ≡ b → (w.dynamic ≡ true) × (is_live w.stage ≡ true)
    by false e = absurd (false≢true (sym (ap (λ b. gone (if not b then Leftover.NoPair else if is_last w who then Leftover.Gone else Leftover.Kept)) e) ∙ ap gone h))
    by true e = last (is_last w who) refl
      where
        last : (c : Bool) → is_last w who ≡ c → (w.dynamic ≡ true) × (is_live w.stage ≡ true)
        last true q = and_parts w.dynamic (is_live w.stage) (and_parts _ _ q).0
        last false q =
            absurd (false≢true (sym (λ i. gone (if not (e i) then Leftover.NoPair else if q i then Leftover.Gone else Leftover.Kept)) ∙ ap gone h))

module _ (f : Fine) (m : State) (rel : Rel f m) (sound : IsSound m) where
  pub recyclers-few : (x : ℕ) → x < ROWS → recyclers f x ≤ 1
  recyclers-few x few =
      let count = (rel.rows x few).cleaners.cleaner in
      let most = one-most (Plain.is_gone (object_at m x).status && not (is_dying (row f x).stage)) in
      omega (arith, count, most)

  pub recyclers-static : (x : ℕ) → x < STATIC_ROWS → recyclers f x ≡ 0
  recyclers-static x low = by (Plain.is_gone (object_at m x).status) refl
    where
      by : (b : Bool) → Plain.is_gone (object_at m x).status ≡ b → recyclers f x ≡ 0
      by true e = let high = gone-dynamic m sound x e in absurd (omega (arith, low, high))
      by false e = (rel.rows x (omega (arith, low))).cleaners.cleaner ∙ ap (λ b. one_if (b && not (is_dying (row f x).stage))) e

  -- a row that no processor cleans, of an object that may be gone
  abbrev Begins : ℕ → Type 0
  Begins x = (STATIC_ROWS ≤ x) × (recyclers f x ≡ 0)

  live-begins : (x : ℕ) → x < ROWS → (row f x).dynamic ≡ true → is_live (row f x).stage ≡ true → Begins x
  live-begins x few dynamic live = by (row f x).stage refl live
    where
      by : (s : Stage) → (row f x).stage ≡ s → is_live s ≡ true → Begins x
      by Stage.Live e h =
          let high = (and_parts (nat_le STATIC_ROWS x) _ (sym (rel.rows x few).pairs.dynamic ∙ dynamic)).0 in
          let at = settled f m rel x few (ap is_free e) in
          let status = (rel.rows x few).status.status at ∙ ap (λ z. status_of z (is_reserved (object_at m x).status)) e in
          (leb-true STATIC_ROWS x high, (rel.rows x few).cleaners.cleaner ∙ ap (λ z. one_if (Plain.is_gone z && not (is_dying (row f x).stage))) status)
      by s e h = absurd (false≢true h)

  dying-begins : (x : ℕ) → x < ROWS → (row f x).stage ≡ Stage.Dying → Begins x
  dying-begins x few e =
      let at = settled f m rel x few (ap is_free e) in
      let status = (rel.rows x few).status.status at ∙ ap (λ z. status_of z (is_reserved (object_at m x).status)) e in (
        gone-dynamic m sound x (ap Plain.is_gone status),
        (rel.rows x few).cleaners.cleaner ∙ (ap (λ z. one_if (Plain.is_gone (object_at m x).status && not (is_dying z))) e ∙ ap one_if (and-false (Plain.is_gone (object_at m x).status))),
      )

  -- a claim ends by which a row comes to cleaning
  ends-begins : (x : ℕ) → x < ROWS → 0 < (row f x).claims → is_cleaning (call_ended (row f x)).stage ≡ true → Begins x
  ends-begins x few some h = by (row f x).stage refl h
    where
      by : (s : Stage) → (row f x).stage ≡ s → is_cleaning (if is_dying s && ((row f x).claims == 1) then Stage.Cleaning else s) ≡ true → Begins x
      by Stage.Dying e h = dying-begins x few e
      by Stage.Cleaning e h = let none = (rel.rows x few).cleaners.unclaimed e in absurd (omega (arith, some, none))
      by Stage.Live e h = absurd (false≢true h)
      by Stage.Free e h = absurd (false≢true h)

  module _ (k : ℕ) (l : k < f.cpus) (e : FineStep) (makes : made_by f.image (f.processors k) e ≡ e) (taken : SiteMay f.image (f.sites e.site) e) (cleaning : begins_cleaning e ≡ true) where
    abbrev p : Processor
    p = f.processors k

    said : (todo : Todos) → p.todo ≡ todo → e.act ≡ says f.image p todo e.act e.moved
    said todo at = sym (ap (λ (s : FineStep). s.act) makes) ∙ ap (λ (z : Todos). says f.image p z e.act e.moved) at

    site : (q : Todo) (todo : Todos) → p.todo ≡ q ∷ todo → e.site ≡ site_at f.image p (q ∷ todo)
    site q todo at = sym (ap (λ (s : FineStep). s.site) makes) ∙ ap (λ (z : Todos). site_by f.image p z e.act) at

    quiet : (act : FineAct) → e.act ≡ act → begins_cleaning (record e { act = act }) ≡ false → ⊥
    quiet act is none = true≢false (sym cleaning ∙ (ap (λ a. begins_cleaning (record e { act = a })) is ∙ none))

    -- where the step is made
    abbrev At : Type 0
    At = (x : ℕ) × (x < ROWS) × (e.site ≡ Site.row x)

    named-at : (x : ℕ) (q : Todo) (todo : Todos) → p.todo ≡ q ∷ todo → names_row q ≡ nat_lt x ROWS → e.site ≡ Site.row x → At
    named-at x q todo at same there = (x, ltb-true x ROWS (sym same ∙ (and_parts _ _ (sym (ap (list_all names_row) at) ∙ (rel.processors k l).rows)).0), there)

    named-below : (a : Addr) → row_named f.image a < ROWS
    named-below a = by (row_at f.image a.0) refl
      where
        by : (o : Option ℕ) → row_at f.image a.0 ≡ o → unwrap_or o 0 < ROWS
        by None q = omega arith
        by (Some x) q = found-below m sound a.0 x (ap (λ (i : Image). row_at i a.0) rel.image ∙ q)

    -- whether it is one step or another, neither begins a cleaning
    either-quiet : (b : Bool) (one other : FineAct) → begins_cleaning (record e { act = one }) ≡ false → begins_cleaning (record e { act = other }) ≡ false
        → begins_cleaning (record e { act = if b then one else other }) ≡ false
    either-quiet true one other h k = h
    either-quiet false one other h k = k

    rest-quiet : (q : Pending) → is_drop q ≡ false → begins_cleaning (record e { act = begins f.image p q e.act }) ≡ false
    rest-quiet q h =
        either-quiet (is_word_read e.act) _ _ refl
        (either-quiet (is_killed e.act) _ _ refl (quiet-act e (says_step f.image p q (act_in e.act)) (more_of f.image p q) (to_thread p.context.thread) (no-left f.image p q (act_in e.act) h)))

    show-quiet : (q : Pending) → is_drop q ≡ false → begins_cleaning (record e { act = says_show f.image p q e.act }) ≡ false
    show-quiet Pending.Begin h = rest-quiet Pending.Begin refl
    show-quiet Pending.Exit h = rest-quiet Pending.Exit refl
    show-quiet q h = quiet-act e (says_step f.image p q (act_in e.act)) (more_of f.image p q) (to_thread p.context.thread) (no-left f.image p q (act_in e.act) h)

    pass-quiet : (who x : ℕ) (b : Bool) → begins_cleaning (record e { act = (if b then FineAct.Unseen Unseen.Visit else by_me f.image p (Act.Inherit (to_thread who) (address_of f.image x))) }) ≡ false
    pass-quiet who x true = refl
    pass-quiet who x false = refl

    turn-quiet : (moved : Exchange) → begins_cleaning (record e { act = says_turn f.image p moved }) ≡ false
    turn-quiet (Exchange.thread c None) = refl
    turn-quiet (Exchange.thread c (Some told)) = refl
    turn-quiet moved = refl

    idle-quiet : begins_cleaning (record e { act = says_idle f.image p e.act e.moved }) ≡ false
    idle-quiet = either-quiet (is_due_act e.act) _ _ refl (either-quiet (is_tick e.act) _ _ refl (turn-quiet e.moved))

    mark-quiet : (mark : Mark) → begins_cleaning (record e { act = by_actor f.image p (marks_end f.image p mark e.act) }) ≡ false
    mark-quiet (Mark.Thread who there) = refl
    mark-quiet (Mark.Timer x) = refl

    at-row : (todo : Todos) → p.todo ≡ todo → At
    at-row [] at = absurd (quiet _ (said [] at) idle-quiet)
    at-row (Todo.show q rest ∷ todo) at = by q at
      where
        by : (q : Pending) → p.todo ≡ Todo.show q rest ∷ todo → At
        by (Pending.DropPair who a) at = (row_named f.image a, named-below a, site _ _ at)
        by q at = absurd (quiet _ (said _ at) (show-quiet q refl))
    at-row (Todo.end_call x ∷ todo) at = named-at x (Todo.end_call x) todo at refl (site _ _ at)
    at-row (Todo.drop x ∷ todo) at = named-at x (Todo.drop x) todo at refl (site _ _ at)
    at-row (Todo.clean_pair who x ∷ todo) at = named-at x (Todo.clean_pair who x) todo at refl (site _ _ at)
    at-row (Todo.pass who x ∷ todo) at = absurd (quiet _ (said (Todo.pass who x ∷ todo) at) (pass-quiet who x (is_visit e.act)))
    at-row (Todo.look who site before ∷ todo) at = absurd (quiet _ (said (Todo.look who site before ∷ todo) at) (either-quiet (is_void e.act) _ _ refl refl))
    at-row (Todo.rouse who ∷ todo) at = absurd (quiet _ (said (Todo.rouse who ∷ todo) at) (either-quiet (is_void e.act) _ _ refl refl))
    at-row (Todo.leave ∷ todo) at = absurd (quiet _ (said (Todo.leave ∷ todo) at) (either-quiet (is_shut_act e.act) _ _ refl refl))
    at-row (Todo.handle deadline mark ∷ todo) at = absurd (quiet _ (said (Todo.handle deadline mark ∷ todo) at) (either-quiet (is_void e.act) _ _ refl (mark-quiet mark)))
    at-row (q ∷ todo) at = absurd (quiet _ (said (q ∷ todo) at) refl)

    module _ (x : ℕ) (few : x < ROWS) (there : e.site ≡ Site.row x) where
      here : f.sites e.site ≡ SiteState.row (row f x)
      here = ap f.sites there ∙ row-stands f m rel x

      takes : row_takes (row f x) e.act ≡ true
      takes = (and_parts _ _ (subst (λ (s : SiteState). site_takes s e.act ≡ true) here taken.takes)).1

      says-it : row_says (row f x) e.act ≡ e.act
      says-it = subst (λ (s : SiteState). site_answers f.image s e.moved e.act ≡ e.act) here (ap (λ (s : FineStep). s.act) taken.filled_in)

      word : row_in e.word ≡ record (row_after (row f x) e.act) { number = (row_after (row f x) e.act).number + 1 }
      word =
          let filled = taken.filled_in in
          ap row_in (sym (ap (λ (z : FineStep). z.word) filled))
          ∙ (ap (λ (z : FineAct × Exchange). row_in (word_of (site_after f.image (f.sites e.site) z.0 z.1))) (λ i. ((filled i).act, (filled i).moved))
          ∙ ap (λ (s : SiteState). row_in (word_of (site_after f.image s e.act e.moved))) here)

      by-act : (act : FineAct) → e.act ≡ act → Begins x
      by-act (FineAct.Unseen Unseen.EndCall) is =
          ends-begins x few (ltb-true 0 (row f x).claims (ap (row_takes (row f x)) (sym is) ∙ takes))
          (ap (λ a. is_cleaning (row_after (row f x) a).stage) (sym is) ∙ (ap (λ (w : RowWord). is_cleaning w.stage) (sym word) ∙ begins-stage e e.act cleaning))
      by-act (FineAct.Unseen u) is = absurd (quiet (FineAct.Unseen u) is refl)
      by-act (FineAct.Shown event more) is = shown event.act refl
        where
          shown : (act : Act) → event.act ≡ act → Begins x
          shown (Act.DropPair who a left) q = by left refl
            where
              whole : e.act ≡ FineAct.Shown (record { thread = event.thread; act = Act.DropPair who a left }) more
              whole = is ∙ (λ i. FineAct.Shown (record { thread = event.thread; act = q i }) more)

              answer : FineAct → Leftover
              answer (FineAct.Shown s m2) = leftover_in s.act
              answer (FineAct.Unseen u) = Leftover.NoPair

              left-is : left_of (row f x) who.0 ≡ left
              left-is = ap answer (ap (row_says (row f x)) (sym whole) ∙ (says-it ∙ whole))

              by : (z : Leftover) → left ≡ z → Begins x
              by Leftover.Gone h = let last = last-drop (row f x) who.0 (left-is ∙ h) in live-begins x few last.0 last.1
              by Leftover.Kept h = absurd (quiet _ (whole ∙ ap (λ z. FineAct.Shown (record { thread = event.thread; act = Act.DropPair who a z }) more) h) refl)
              by Leftover.NoPair h = absurd (quiet _ (whole ∙ ap (λ z. FineAct.Shown (record { thread = event.thread; act = Act.DropPair who a z }) more) h) refl)
          shown act q = absurd (quiet _ (is ∙ (λ i. FineAct.Shown (record { thread = event.thread; act = q i }) more)) refl)

    pub clean-room : cleanings p.todo < ROWS - STATIC_ROWS
    clean-room =
        let place = at-row p.todo refl in
        let begun = by-act place.0 place.1 place.2 e.act refl in
        let count = recycles-total p.todo (rel.processors k l).rows in
        let less = total-gap (λ x. counted (is_recycle x) p.todo) ROWS STATIC_ROWS place.0 begun.0 place.1 (λ x low. none x (recyclers-static x low))
        (λ x low. let part = part-total (λ j. counted (is_recycle x) (f.processors j).todo) f.cpus k l in let most = recyclers-few x low in omega (arith, part, most))
        (none place.0 begun.1) in
        omega (arith, count, less)
      where
        none : (x : ℕ) → recyclers f x ≡ 0 → counted (is_recycle x) p.todo ≡ 0
        none x h = let part = part-total (λ j. counted (is_recycle x) (f.processors j).todo) f.cpus k l in omega (arith, part, h)
