-- The word of each row counts all claims of it, after every lawful step.
use Rattle.um_refinement.proofs.Words.{not, runs, waits, ◌≡◌, inr, ℕ, ◌+◌, ◌<◌, Bool, true, false, List, [], ◌∷◌, Option, Some, None, refl, sym, ap, ◌∙◌, subst, arith, ℤ, ◌==◌, ◌&&◌, if◌then◌else◌, is_some, slice_index_or, unwrap_or, list_any, and_parts, eqb-true, false≢true, ltb-true, true≢false, Act, Image, ROWS, Addr, Errno, Kind, Mode, Row, ThreadIx, Want, IsLawful, own_row, row_at, Pending, Refusal, Thread, Steps, to_thread, Offers, goes, skips_drops, skips_inherit, State, thread_at, claims, Call, call_is, FineAct, Unseen, RowWord, after_verdict, dropped, has, is_cleaning, is_last, row_after, row_named, act_in, context_in, given_in, is_word_read, verdict_in, check_site, says_show, site_at, Todo, Todos, same_site, FineStep, Site, call_claims, Fine, one_if, over_processors, row, scheduler, AreFramed, counted, has_steps, is_done, is_end_call, Fits, is_over, occurs, ClaimsAre, tends, tends}
use Rattle.um_words.specs.declared.fine.Mark.{Mark}
use Rattle.um_fine.specs.Asks.{site_by}
use Rattle.um_fine.specs.Follows.{shown_step}
use Rattle.um_refinement.specs.Lists.{is_sleep, times}
use Rattle.um_machine.specs.Objects as Plain
use Rattle.um_machine.specs.Table as T
use Rattle.um_refinement.specs.Claims as C
use Rattle.um_refinement.proofs.CallsKnown.{starts-below, starts-claims, starts-known}
use Rattle.um_refinement.proofs.ChildrenKnown.{AllCreate, offered-stands}
use Rattle.um_refinement.proofs.ChildSteps.{Creates}
use Rattle.um_refinement.proofs.CleanersPart.{is_born_act, is_claiming, keeps-claims, visit-is}
use Rattle.um_refinement.proofs.CleanersSteps.{row-else, row-here, row-takes-it}
use Rattle.um_refinement.proofs.CleaningFacts.{is_birth}
use Rattle.um_refinement.proofs.ContextsPart.{flags-none, is_shown, read-only}
use Rattle.um_refinement.proofs.DomainReads.{eqb-swap}
use Rattle.um_refinement.proofs.Erased.{around}
use Rattle.um_refinement.proofs.LawfulSteps.{Suits}
use Rattle.um_refinement.proofs.Leaves.{Beside, Lawful, Leaves, beside, cuts, expires, leaves, ticks, times_out, cleans, drops, event, nothing, passes, recycles, resumes}
use Rattle.um_refinement.proofs.LifeClaims.{births, lives, sums-clear, sums-own, sums-start, sums-stay}
use Rattle.um_refinement.proofs.ListClaims.{come, come_to, gone, processor-claims}
use Rattle.um_refinement.proofs.ListGrips.{read-rests}
use Rattle.um_refinement.proofs.Offered.{own-unless, runs-first, IsStep, Shows, own-part, shown-offers, site-is}
use Rattle.um_refinement.proofs.ParkedClaims.{parked-cut, parked-owe, parked-paid, parked-added, parked-done, parked-else, parked-put, parked-taken, parked-wake, parked_claims}
use Rattle.um_refinement.proofs.StepReads.{is-placed}
use Rattle.um_refinement.proofs.WaitingSites.{waiting-apart}
use Rattle.um_refinement.proofs.CellSteps.{takes-off}
use Rattle.um_refinement.proofs.RowSteps.{named-row}
use Rattle.um_refinement.proofs.RowClaims.{dropped-claims, row-claims}
use Rattle.um_refinement.proofs.RunningPart.{is_scheduling}
use Rattle.um_refinement.proofs.SchedulerSteps.{made-at, made-says}
use Rattle.um_refinement.proofs.StagedPart.{staged}
use Rattle.um_refinement.proofs.StatusSteps.{free-is}
use Rattle.um_refinement.proofs.Sums.{over-changed}
use Rattle.um_refinement.proofs.WordsKept.{IsShown}

-- steps with which no claim moves from its processor
abbrev is_still : Todo → Bool
is_still (Todo.show q rest) = false
is_still (Todo.end_call x) = false
is_still Todo.park = false
is_still Todo.done = false
is_still Todo.sleep = false
is_still Todo.paid = false
is_still q = true

module _ (f : Fine) (m : State) (e : FineStep) (law : Lawful f m e) (x : ℕ) (few : x < ROWS) where
  open around f e use {later, processor as p}

  -- The word.

  abbrev Same : Type 0
  Same = (row later x).claims ≡ (row f x).claims

  word-else : same_site e.site (Site.row x) ≡ false → Same
  word-else off = ap (λ (w : RowWord). w.claims) (row-else f m e law x few off)

  word-at : (todo : Todos) → p.todo ≡ todo → same_site (site_by f.image p todo e.act) (Site.row x) ≡ false → Same
  word-at todo at off = word-else (ap (λ i. same_site i (Site.row x)) (made-at f m e law todo at) ∙ off)

  word-same : (act : FineAct) → e.act ≡ act → (row_after (row f x) act).claims ≡ (row f x).claims → Same
  word-same act said same = by (same_site e.site (Site.row x)) refl
    where
      by : (b : Bool) → same_site e.site (Site.row x) ≡ b → Same
      by true on = ap (λ (w : RowWord). w.claims) (row-here f m e law x few on act said) ∙ same
      by false off = word-else off

  -- The sums.

  abbrev calls : Fine → ℕ
  calls g = over_processors g (call_claims x)

  idle : p.todo ≡ [] → p.context.claims ≡ []
  idle at = (law.rel.processors e.cpu law.by.named).idle.idle (ap (λ (z : Todos). has_steps z && not (times z)) at)

  calls-changed : (todo : Todos) → p.todo ≡ todo → calls later + gone f.image x p e todo ≡ calls f + come_to f.image x p e todo
  calls-changed todo at =
      subst (λ (z : Todos). calls later + gone f.image x p e z ≡ calls f + come_to f.image x p e z) at
      (let all = over-changed f e (call_claims x) law.by.named in let mine = processor-claims f.image x p e idle in omega (arith, all, mine))

  -- The word, calls, parked threads, lives and births each lose a number and win one; where these balance, the word still counts all claims.
  settles : (s : State) (dw uw g c dp up dl ul db ub : ℕ) → (row later x).claims + dw ≡ (row f x).claims + uw → calls later + g ≡ calls f + c
      → parked_claims x (scheduler later) + dp ≡ parked_claims x (scheduler f) + up → lives f.image x s + dl ≡ lives f.image x m + ul → births f.image x s + db ≡ births f.image x m + ub
      → uw + g + dp + dl + db ≡ dw + c + up + ul + ub → (row later x).claims ≡ calls later + parked_claims x (scheduler later) + lives f.image x s + births f.image x s
  settles s dw uw g c dp up dl ul db ub w a r l b h =
      let was : (row f x).claims ≡ calls f + parked_claims x (scheduler f) + lives f.image x m + births f.image x m = (law.rel.rows x few).claims.claimed in
      omega (arith, was, w, a, r, l, b, h)

  same : (a b : ℕ) → a ≡ b → a + 0 ≡ b + 0
  same a b h = omega (arith, h)

  abbrev Counts : State → Type 0
  Counts s = (row later x).claims ≡ C.claims later s x

  abbrev LeavesLives : State → Type 0
  LeavesLives s = (lives f.image x s ≡ lives f.image x m) × (births f.image x s ≡ births f.image x m)

  -- nothing is claimed, nothing ends, and nothing moves
  still : (s : State) → Same → calls later ≡ calls f → parked_claims x (scheduler later) ≡ parked_claims x (scheduler f) → LeavesLives s → Counts s
  still s w a r l = settles s 0 0 0 0 0 0 0 0 0 0 (same _ _ w) (same _ _ a) (same _ _ r) (same _ _ l.0) (same _ _ l.1) refl

  calls-still : (q : Todo) (todo : Todos) → p.todo ≡ q ∷ todo → is_still q ≡ true → calls later ≡ calls f
  calls-still q todo at quiet = by q at quiet
    where
      from : (q : Todo) → p.todo ≡ q ∷ todo → gone f.image x p e (q ∷ todo) ≡ 0 → come_to f.image x p e (q ∷ todo) ≡ 0 → calls later ≡ calls f
      from q at g c = let sum = calls-changed (q ∷ todo) at in omega (arith, sum, g, c)

      by : (q : Todo) → p.todo ≡ q ∷ todo → is_still q ≡ true → calls later ≡ calls f
      by (Todo.show r rest) at h = absurd (false≢true h)
      by (Todo.end_call y) at h = absurd (false≢true h)
      by Todo.park at h = absurd (false≢true h)
      by Todo.done at h = absurd (false≢true h)
      by Todo.sleep at h = absurd (false≢true h)
      by Todo.paid at h = absurd (false≢true h)
      by q at h = from q at refl refl

  -- A thread is taken.
  takes : (s : State) → p.todo ≡ [] → LeavesLives s → Counts s
  takes s at l =
      settles s 0 0 0 (occurs x (context_in e.moved).claims) (occurs x (context_in e.moved).claims) 0 0 0 0 0 (same _ _ (word-else (takes-off f m e law x few at))) (calls-changed [] at)
      (let r = parked-taken f m e law x at in omega (arith, r)) (same _ _ l.0) (same _ _ l.1) (omega arith)

  frames : (q : Todo) (todo : Todos) → p.todo ≡ q ∷ todo → AreFramed f.image (q ∷ todo)
  frames q todo at = subst (AreFramed f.image) at (law.rel.processors e.cpu law.by.named).frames

  -- One is put back.
  parks : (todo : Todos) → p.todo ≡ Todo.park ∷ todo → Counts m
  parks todo at =
      let n = occurs x p.context.claims in
      let none : counted (is_end_call x) todo ≡ 0 = ap (counted (is_end_call x)) (frames Todo.park todo at).0 in
      let sum = calls-changed (Todo.park ∷ todo) at in
      settles m 0 0 n 0 0 n 0 0 0 0 (same _ _ (word-at (Todo.park ∷ todo) at refl)) (omega (arith, sum, none)) (let r = parked-put f m e law x todo at in omega (arith, r)) refl refl (omega arith)

  -- A claim ends.
  ends : (z : ℕ) (todo : Todos) → p.todo ≡ Todo.end_call z ∷ todo → Counts m
  ends z todo at = by (z == x) refl
    where
      by : (b : Bool) → (z == x) ≡ b → Counts m
      by false off =
          let sum = calls-changed (Todo.end_call z ∷ todo) at in
          let none : gone f.image x p e (Todo.end_call z ∷ todo) ≡ 0 = ap (λ b. if b then 1 else 0) (eqb-swap x z ∙ off) in
          still m (word-at (Todo.end_call z ∷ todo) at off) (omega (arith, sum, none)) (parked-else f m e law x (Todo.end_call z) todo at refl) (refl, refl)
      by true here =
          let on = ap (λ i. same_site i (Site.row x)) (made-at f m e law (Todo.end_call z ∷ todo) at) ∙ here in
          let act = FineAct.Unseen Unseen.EndCall in
          let said = made-says f m e law (Todo.end_call z ∷ todo) at in
          let word = ap (λ (w : RowWord). w.claims) (row-here f m e law x few on act said) in
          let some = ltb-true 0 (row f x).claims (row-takes-it f m e law x few on act said) in
          let sum = calls-changed (Todo.end_call z ∷ todo) at in
          let one : gone f.image x p e (Todo.end_call z ∷ todo) ≡ 1 = ap (λ b. if b then 1 else 0) (eqb-swap x z ∙ here) in
          settles m 1 0 1 0 0 0 0 0 0 0 (omega (arith, word, some)) (omega (arith, sum, one)) (same _ _ (parked-else f m e law x (Todo.end_call z) todo at refl)) refl refl refl

  -- A row is vacated, of which no claim was left.
  vacates : (z : ℕ) (todo : Todos) → p.todo ≡ Todo.vacate z ∷ todo → Same
  vacates z todo at = by (same_site e.site (Site.row x)) refl
    where
      act : FineAct
      act = FineAct.Unseen Unseen.Vacate

      said : e.act ≡ act
      said = made-says f m e law (Todo.vacate z ∷ todo) at

      by : (b : Bool) → same_site e.site (Site.row x) ≡ b → Same
      by false off = word-else off
      by true on =
          ap (λ (w : RowWord). w.claims) (row-here f m e law x few on act said)
          ∙ sym (eqb-true (row f x).claims 0 (and_parts (is_cleaning (row f x).stage) _ (row-takes-it f m e law x few on act said)).1)

  passed : (s : State) (q : Todo) (todo : Todos) → p.todo ≡ q ∷ todo → is_still q ≡ true → is_scheduling q ≡ false → Same → LeavesLives s → Counts s
  passed s q todo at quiet other w l = still s w (calls-still q todo at quiet) (parked-else f m e law x q todo at other) l

  look-at : (q : Todo) (todo : Todos) → p.todo ≡ q ∷ todo → is_still q ≡ true → is_scheduling q ≡ false → e.act ≡ FineAct.Unseen Unseen.Visit → Counts m
  look-at q todo at quiet other said = passed m q todo at quiet other (word-same (FineAct.Unseen Unseen.Visit) said refl) (refl, refl)

  -- The word of a thread is read, which is doomed.
  reads : (q : Pending) (rest : Steps) (todo : Todos) → p.todo ≡ Todo.show q rest ∷ todo → is_shown e.act ≡ false → Counts m
  reads q rest todo at quiet =
      still m (word-at (Todo.show q rest ∷ todo) at (off q said)) (omega (arith, sum, none, left)) (parked-else f m e law x (Todo.show q rest) todo at refl) (refl, refl)
    where
      said : e.act ≡ says_show f.image p q e.act
      said = made-says f m e law (Todo.show q rest ∷ todo) at

      read : is_word_read e.act ≡ true
      read = read-only f m e law q said quiet

      list : todo ≡ []
      list = (subst (Fits f.image p.context) at (law.rel.processors e.cpu law.by.named).list.fits).1 ∙ read-rests f.image p p.context q e.act said read

      sum : calls later + gone f.image x p e (Todo.show q rest ∷ todo) ≡ calls f + come_to f.image x p e (Todo.show q rest ∷ todo)
      sum = calls-changed (Todo.show q rest ∷ todo) at

      left : gone f.image x p e (Todo.show q rest ∷ todo) ≡ 0
      left = ap (λ b. if b then counted (is_end_call x) todo else 0) read ∙ ap (counted (is_end_call x)) list

      none : come_to f.image x p e (Todo.show q rest ∷ todo) ≡ 0
      none = ap (λ b. if b then 0 else come f.image x p.context (shown_step f.image q e.act) (act_in e.act)) read

      off : (q : Pending) → e.act ≡ says_show f.image p q e.act → same_site (site_at f.image p (Todo.show q rest ∷ todo)) (Site.row x) ≡ false
      off Pending.Begin is = refl
      off Pending.Exit is = refl
      off q is = absurd (false≢true (sym quiet ∙ ap is_shown is))

  module _ (suits : Suits f m) where
    -- One at rest, or whose turn is done, holds nothing.
    rests-hold : runs p ≡ true → (b : Bool) → is_over p.context ≡ b → p.context.pending ≡ [] → p.context.claims ≡ []
    rests-hold running true over rests = (law.rel.contexts.running e.cpu law.by.named running).over over
    rests-hold running false on rests =
        let of = (law.rel.contexts.running e.cpu law.by.named running).of on in
        flags-none p.context.claims of.below
        (λ y. ap (λ (flags : List Bool). slice_index_or flags y false) (sym of.claims)
        ∙ suits.rests p.context.thread y (inr (sym (ap (λ (z : Thread). z.pending) (own-unless of (ap waits rests))) ∙ rests)))

    dones : (todo : Todos) → p.todo ≡ Todo.done ∷ todo → Counts m
    dones todo at =
        let list : p.todo ≡ Todo.done ∷ [] = at ∙ ap (λ (z : Todos). Todo.done ∷ z) (frames Todo.done todo at).0 in
        let none : counted (is_end_call x) todo ≡ 0 = ap (counted (is_end_call x)) (frames Todo.done todo at).0 in
        let rests = (law.rel.contexts.done e.cpu law.by.named (ap (list_any is_done) list) (ap (list_any is_sleep) list)).0 in
        let holds : occurs x p.context.claims ≡ 0 = ap (occurs x) (rests-hold (runs-first law.rel law.by.named Todo.done todo at (λ hand. hand)) (is_over p.context) refl rests) in
        let sum = calls-changed (Todo.done ∷ todo) at in
        still m (word-at (Todo.done ∷ todo) at refl) (omega (arith, sum, none, holds)) (parked-done f m e law x todo at) (refl, refl)

    sleeps : (todo : Todos) → p.todo ≡ Todo.sleep ∷ todo → Counts m
    sleeps todo at =
        let rests = (subst (Fits f.image p.context) at (law.rel.processors e.cpu law.by.named).list.fits).0 in
        let holds : occurs x p.context.claims ≡ 0 = ap (occurs x) (rests-hold (runs-first law.rel law.by.named Todo.sleep todo at (λ hand. hand)) (is_over p.context) refl rests) in
        let sum = calls-changed (Todo.sleep ∷ todo) at in
        still m (word-at (Todo.sleep ∷ todo) at refl) (omega (arith, sum, holds)) (parked-else f m e law x Todo.sleep todo at refl) (refl, refl)

    paid-off : (todo : Todos) → p.todo ≡ Todo.paid ∷ todo → Counts m
    paid-off todo at =
        let none : counted (is_end_call x) todo ≡ 0 = ap (counted (is_end_call x)) (frames Todo.paid todo at).0 in
        let sum = calls-changed (Todo.paid ∷ todo) at in
        still m (word-at (Todo.paid ∷ todo) at refl) (omega (arith, sum, none)) (parked-paid f m e law x todo at) (refl, refl)

    looks-off : (who site before : ℕ) (todo : Todos) → p.todo ≡ Todo.look who site before ∷ todo → same_site (site_at f.image p (Todo.look who site before ∷ todo)) (Site.row x) ≡ false
    looks-off who site before todo at = waiting-apart site (Site.row x) (is-placed f m e law (Todo.look who site before) todo at) (λ y. refl) refl refl

    hand-off : (deadline : ℕ) (mark : Mark) (todo : Todos) → p.todo ≡ Todo.handle deadline mark ∷ todo → same_site (site_at f.image p (Todo.handle deadline mark ∷ todo)) (Site.row x) ≡ false
    hand-off deadline (Mark.Thread who site) todo at = waiting-apart site (Site.row x) (is-placed f m e law (Todo.handle deadline (Mark.Thread who site)) todo at) (λ y. refl) refl refl
    hand-off deadline (Mark.Timer y) todo at = refl

    quiet-part : (u : Unseen) → e.act ≡ FineAct.Unseen u → (todo : Todos) → p.todo ≡ todo → Counts m
    quiet-part u said [] at = takes m at (refl, refl)
    quiet-part u said (Todo.show q rest ∷ todo) at = reads q rest todo at (ap is_shown said)
    quiet-part u said (Todo.end_call z ∷ todo) at = ends z todo at
    quiet-part u said (Todo.park ∷ todo) at = parks todo at
    quiet-part u said (Todo.done ∷ todo) at = dones todo at
    quiet-part u said (Todo.sleep ∷ todo) at = sleeps todo at
    quiet-part u said (Todo.paid ∷ todo) at = paid-off todo at
    quiet-part u said (Todo.tell_cut who ∷ todo) at =
        still m (word-at (Todo.tell_cut who ∷ todo) at refl) (calls-still (Todo.tell_cut who) todo at refl) (parked-cut f m e law x who todo at) (refl, refl)
    quiet-part u said (Todo.owe ∷ todo) at = still m (word-at (Todo.owe ∷ todo) at refl) (calls-still Todo.owe todo at refl) (parked-owe f m e law x todo at) (refl, refl)
    quiet-part u said (Todo.look who site before ∷ todo) at = passed m (Todo.look who site before) todo at refl refl (word-at (Todo.look who site before ∷ todo) at (looks-off who site before todo at)) (refl, refl)
    quiet-part u said (Todo.handle deadline mark ∷ todo) at = passed m (Todo.handle deadline mark) todo at refl refl (word-at (Todo.handle deadline mark ∷ todo) at (hand-off deadline mark todo at)) (refl, refl)
    quiet-part u said (Todo.wake who told ∷ todo) at =
        still m (word-at (Todo.wake who told ∷ todo) at refl) (calls-still (Todo.wake who told) todo at refl) (parked-wake f m e law x who told todo at) (refl, refl)
    quiet-part u said (Todo.add d ∷ todo) at =
        still m (word-at (Todo.add d ∷ todo) at refl) (calls-still (Todo.add d) todo at refl) (parked-added f m e law x d todo at) (refl, refl)
    quiet-part u said (Todo.vacate z ∷ todo) at = passed m (Todo.vacate z) todo at refl refl (vacates z todo at) (refl, refl)
    quiet-part u said (Todo.recycle z ∷ todo) at = passed m (Todo.recycle z) todo at refl refl (word-at (Todo.recycle z ∷ todo) at refl) (refl, refl)
    quiet-part u said (Todo.pass who z ∷ todo) at = look-at (Todo.pass who z) todo at refl refl (visit-is f m e law x few u _ said (made-says f m e law (Todo.pass who z ∷ todo) at))
    quiet-part u said (Todo.drop z ∷ todo) at = look-at (Todo.drop z) todo at refl refl (visit-is f m e law x few u _ said (made-says f m e law (Todo.drop z ∷ todo) at))
    quiet-part u said (Todo.clean_pair who z ∷ todo) at = look-at (Todo.clean_pair who z) todo at refl refl (visit-is f m e law x few u _ said (made-says f m e law (Todo.clean_pair who z ∷ todo) at))
    quiet-part u said (q ∷ todo) at = passed m q todo at refl refl (word-at (q ∷ todo) at refl) (refl, refl)

    -- An event of an instruction.

    module _ (all : AllCreate m) (lawful : IsLawful m.image) where
      abbrev t : ℕ
      t = p.context.thread

      calls-shown : {q : Pending} {rest : Steps} {todo : Todos} → Shows f m e.cpu e q rest todo → calls later ≡ calls f + come f.image x p.context q (act_in e.act)
      calls-shown {q} {rest} {todo} h =
          let sum = calls-changed (Todo.show h.listed rest ∷ todo) h.at in
          let left : gone f.image x p e (Todo.show h.listed rest ∷ todo) ≡ 0 = ap (λ b. if b then counted (is_end_call x) todo else 0) h.shown in
          let more : come_to f.image x p e (Todo.show h.listed rest ∷ todo) ≡ come f.image x p.context q (act_in e.act) =
          ap (λ b. if b then 0 else come f.image x p.context (shown_step f.image h.listed e.act) (act_in e.act)) h.shown ∙ ap (λ r. come f.image x p.context r (act_in e.act)) h.made in
          omega (arith, sum, left, more)

      parked-shown : {q : Pending} {rest : Steps} {todo : Todos} → Shows f m e.cpu e q rest todo → parked_claims x (scheduler later) ≡ parked_claims x (scheduler f)
      parked-shown {q} {rest} {todo} h = parked-else f m e law x (Todo.show h.listed rest) todo h.at refl

      -- one that claims nothing
      plain : (q : Pending) (rest : Steps) (todo : Todos) (n : ℕ) → Shows f m e.cpu e q rest todo → IsStep f m e.cpu e n q → is_claiming q ≡ false → is_birth q ≡ false
          → come f.image x p.context q (act_in e.act) ≡ 0 → LeavesLives (T.after m t n q rest) → Counts (T.after m t n q rest)
      plain q rest todo n h is free birth none l =
          let sum = calls-shown h in
          still (T.after m t n q rest) (keeps-claims f m e law x few q rest todo n h is free birth) (omega (arith, sum, none)) (parked-shown h) l

      -- a check claims the row where it is passed
      checks : (a : Addr) (kind : Option Kind) (want : Want) (refusal : Refusal) (rest : Steps) (todo : Todos) (n : ℕ) → Shows f m e.cpu e (Pending.Check a kind want refusal) rest todo
          → IsStep f m e.cpu e n (Pending.Check a kind want refusal) → Counts (T.after m t n (Pending.Check a kind want refusal) rest)
      checks a kind want refusal rest todo n h is = by (row_at f.image a.0) refl (verdict_in (act_in e.act)) refl
        where
          q : Pending
          q = Pending.Check a kind want refusal

          l : LeavesLives (T.after m t n q rest)
          l = sums-stay f.image x m t n q rest tt

          site : (o : Option ℕ) → row_at f.image a.0 ≡ o → e.site ≡ check_site f.image p o
          site o there = site-is h ∙ ap (check_site f.image p) there

          refused : (v : Option Errno) → verdict_in (act_in e.act) ≡ v → (row_after (row f x) e.act).claims ≡ (after_verdict (row f x) v).claims
          refused v said = ap (λ act. (row_after (row f x) act).claims) is.said ∙ ap (λ v. (after_verdict (row f x) v).claims) said

          by : (o : Option ℕ) → row_at f.image a.0 ≡ o → (v : Option Errno) → verdict_in (act_in e.act) ≡ v → Counts (T.after m t n q rest)
          by o there (Some error) said =
              let sum = calls-shown h in
              let none : come f.image x p.context q (act_in e.act) ≡ 0 = ap (λ v. elim v as (λ _. ℕ) [ None ↦ occurs x (row_named f.image a ∷ []) | Some e ↦ 0 ]) said in
              still (T.after m t n q rest) (word-same e.act refl (refused (Some error) said)) (omega (arith, sum, none)) (parked-shown h) l
          by None there None said = absurd (true≢false (sym (ap is_none (sym says ∙ said))))
            where
              is_none : Option Errno → Bool
              is_none None = true
              is_none (Some error) = false

              says : verdict_in (act_in e.act) ≡ Some Errno.EBADF
              says = ap verdict_in is.says ∙ ap (Plain.verdict_at m t kind want) (ap (λ (i : Image). row_at i a.0) law.rel.image ∙ there)
          by (Some y) there None said = which (y == x) refl
            where
              come-is : come f.image x p.context q (act_in e.act) ≡ (if x == y then 0 + 1 else 0)
              come-is =
                  ap (λ v. elim v as (λ _. ℕ) [ None ↦ occurs x (row_named f.image a ∷ []) | Some e ↦ 0 ]) said
                  ∙ ap (λ (o : Option ℕ). if x == unwrap_or o 0 then 0 + 1 else 0) there

              sum : calls later ≡ calls f + come f.image x p.context q (act_in e.act)
              sum = calls-shown h

              which : (b : Bool) → (y == x) ≡ b → Counts (T.after m t n q rest)
              which false off =
                  let none : (if x == y then 0 + 1 else 0) ≡ 0 = ap (λ b. if b then 0 + 1 else 0) (eqb-swap x y ∙ off) in
                  still (T.after m t n q rest) (word-else (ap (λ i. same_site i (Site.row x)) (site (Some y) there) ∙ off)) (omega (arith, sum, come-is, none)) (parked-shown h) l
              which true here =
                  let one : (if x == y then 0 + 1 else 0) ≡ 1 = ap (λ b. if b then 0 + 1 else 0) (eqb-swap x y ∙ here) in
                  let word = ap (λ (w : RowWord). w.claims) (row-here f m e law x few (ap (λ i. same_site i (Site.row x)) (site (Some y) there) ∙ here) e.act refl) ∙ refused None said in
                  settles (T.after m t n q rest) 0 1 0 1 0 0 0 0 0 0 (omega (arith, word)) (omega (arith, sum, come-is, one)) (same _ _ (parked-shown h)) (same _ _ l.0) (same _ _ l.1) refl

      -- the permission on a new thread's own object, with the claim of a life that is about to begin
      owns : (who : ThreadIx) (rest : Steps) (todo : Todos) (n : ℕ) → Shows f m e.cpu e (Pending.Own who) rest todo → IsStep f m e.cpu e n (Pending.Own who)
          → Counts (T.after m t n (Pending.Own who) rest)
      owns who rest todo n h is =
          let sum = calls-shown h in
          let l = sums-own f.image x m t (own-part h).index law.sound.wide.threads n who rest (offered-stands m t n all (Pending.Own who) rest tt (shown-offers h)).0 in
          let begun = l.1 in
          settles (T.after m t n (Pending.Own who) rest) 0 (one_if (own_row f.image who.0 == x)) 0 0 0 0 0 0 0 (one_if (own_row f.image who.0 == x)) (by (own_row f.image who.0 == x) refl) (omega (arith, sum)) (same _ _ (parked-shown h))
          (same _ _ l.0) (omega (arith, begun)) (omega arith)
        where
          by : (b : Bool) → (own_row f.image who.0 == x) ≡ b → (row later x).claims + 0 ≡ (row f x).claims + one_if b
          by false off = same _ _ (word-else (ap (λ i. same_site i (Site.row x)) (site-is h) ∙ off))
          by true here =
              let word = ap (λ (w : RowWord). w.claims) (row-here f m e law x few (ap (λ i. same_site i (Site.row x)) (site-is h) ∙ here) _ is.said) in
              let one = row-claims (row f x) t (Act.Own who (given_in (act_in e.act))) (λ a k. false≢true (ap is_born_act k)) in
              omega (arith, word, one)

      -- a thread is started: that life begins
      starts : (who : ThreadIx) (script : ℕ) (stack : Row) (priority : ℤ) (mode : Mode) (rest : Steps) (todo : Todos) (n : ℕ)
          → Shows f m e.cpu e (Pending.Start who script stack priority mode) rest todo → IsStep f m e.cpu e n (Pending.Start who script stack priority mode)
          → Counts (T.after m t n (Pending.Start who script stack priority mode) rest)
      starts who script stack priority mode rest todo n h is =
          let q = Pending.Start who script stack priority mode in
          let offers = shown-offers h in
          let free = law.sound.known.claimed.free t who.0 (ap (λ (c : Call). claims m.image who.0 c.pending) (call_is m t) ∙ starts-claims m t who script stack priority mode rest offers) in
          let dead : (thread_at m who.0).keeps_own ≡ false = sym (ap (λ (c : Call). c.keeps) (call_is m who.0)) ∙ free in
          let rests = (starts-known m law.sound t who script stack priority mode rest offers).1 in
          let childless : (thread_at m who.0).child ≡ None = (subst (Creates (thread_at m who.0).child) rests (all who.0)).0 in
          let mine : (thread_at m t).child ≡ Some who = (offered-stands m t n all q rest tt offers).0 in
          let below = starts-below m law.sound lawful t who script stack priority mode rest offers in
          let l = sums-start f.image x m t (own-part h).index law.sound.wide.threads n who script stack priority mode rest below
          (λ at. true≢false (sym (ap is_some mine) ∙ ap is_some (ap (λ u. (thread_at m u).child) (sym at) ∙ childless))) dead childless mine in
          let one = one_if (own_row f.image who.0 == x) in
          let sum = calls-shown h in
          let begun = l.0 in
          let born = l.1 in
          settles (T.after m t n q rest) 0 0 0 0 0 0 0 one one 0 (same _ _ (word-else (ap (λ i. same_site i (Site.row x)) (site-is h)))) (omega (arith, sum)) (same _ _ (parked-shown h))
          (omega (arith, begun)) (omega (arith, born)) (omega arith)

      -- a mark is cleared: by the last one of a thread its life's claim is left to its processor, which ends it
      clears : (a : Addr) (rest : Steps) (todo : Todos) (n : ℕ) → Shows f m e.cpu e (Pending.ClearInit a) rest todo → IsStep f m e.cpu e n (Pending.ClearInit a)
          → Counts (T.after m t n (Pending.ClearInit a) rest)
      clears a rest todo n h is =
          let q = Pending.ClearInit a in
          let l = sums-clear f.image x m t (own-part h).index law.sound.wide.threads n a rest (kept (thread_at m t).keeps_own refl) in
          let ended = l.0 in
          let k = come f.image x p.context q (act_in e.act) in
          let sum = calls-shown h in
          let left = left-is in
          settles (T.after m t n q rest) 0 0 0 k 0 0 k 0 0 0 (same _ _ (keeps-claims f m e law x few q rest todo n h is refl refl)) (omega (arith, sum)) (same _ _ (parked-shown h))
          (omega (arith, ended, left)) (same _ _ l.1) (omega arith)
        where
          own : ℕ
          own = own_row f.image t

          kept : (b : Bool) → (thread_at m t).keeps_own ≡ b → b ≡ true
          kept true q = refl
          kept false q = absurd (pending (shown-offers h) (sym (ap (λ (c : Call). c.pending) (call_is m t)) ∙ law.sound.known.claimed.idle t (ap (λ (c : Call). c.keeps) (call_is m t) ∙ q)))
            where
              is_some_step : Steps → Bool
              is_some_step [] = false
              is_some_step (q ∷ rest) = true

              pending : {left : Steps} → Offers m t (Pending.ClearInit a) left → (thread_at m t).pending ≡ [] → ⊥
              pending (goes e) none = true≢false (ap is_some_step (sym e ∙ none))
              pending (skips_inherit e due) none = true≢false (ap is_some_step (sym e ∙ none))
              pending (skips_drops e due) none = true≢false (ap is_some_step (sym e ∙ none))
              pending (tends is started) none = false≢true is

          one : (c : Bool) → (if c then 0 + 1 else 0) ≡ one_if c
          one true = refl
          one false = refl

          mine : (b : Bool) → (if b then (if x == own then 0 + 1 else 0) else 0) ≡ (if b then one_if (own == x) else 0)
          mine true = one (x == own) ∙ ap one_if (eqb-swap x own)
          mine false = refl

          left-is : come f.image x p.context (Pending.ClearInit a) (act_in e.act) ≡ (if T.row_of m a == own_row m.image t then one_if (own_row f.image t == x) else 0)
          left-is = mine (row_named f.image a == own) ∙ sym (λ i. if named-row f m law.rel a i == own_row (law.rel.image i) t then one_if (own == x) else 0)

      -- an object is born at a row that had none
      bears : (a : Addr) (rest : Steps) (todo : Todos) (n : ℕ) → Shows f m e.cpu e (Pending.Born a) rest todo → IsStep f m e.cpu e n (Pending.Born a) → Counts (T.after m t n (Pending.Born a) rest)
      bears a rest todo n h is =
          let q = Pending.Born a in
          let sum = calls-shown h in
          still (T.after m t n q rest) (by (same_site e.site (Site.row x)) refl) (omega (arith, sum)) (parked-shown h) (sums-stay f.image x m t n q rest tt)
        where
          by : (b : Bool) → same_site e.site (Site.row x) ≡ b → Same
          by false off = word-else off
          by true on =
              ap (λ (w : RowWord). w.claims) (row-here f m e law x few on _ is.said)
              ∙ sym ((law.rel.rows x few).claims.free (free-is (row f x).stage (row-takes-it f m e law x few on _ is.said)))

      by-event : (q : Pending) (rest : Steps) (todo : Todos) (n : ℕ) → Shows f m e.cpu e q rest todo → IsShown q → IsStep f m e.cpu e n q → Counts (T.after m t n q rest)
      by-event (Pending.Check a kind want refusal) rest todo n h shown is = checks a kind want refusal rest todo n h is
      by-event (Pending.Own who) rest todo n h shown is = owns who rest todo n h is
      by-event (Pending.Start who script stack priority mode) rest todo n h shown is = starts who script stack priority mode rest todo n h is
      by-event (Pending.ClearInit a) rest todo n h shown is = clears a rest todo n h is
      by-event (Pending.Born a) rest todo n h shown is = bears a rest todo n h is
      by-event Pending.Exit rest todo n h shown is =
          plain Pending.Exit rest todo n h is refl refl refl (sums-stay f.image x m t n Pending.Exit rest (offered-stands m t n all Pending.Exit rest tt (shown-offers h)).0)
      by-event Pending.Killed rest todo n h shown is =
          plain Pending.Killed rest todo n h is refl refl refl (sums-stay f.image x m t n Pending.Killed rest (offered-stands m t n all Pending.Killed rest tt (shown-offers h)).0)
      by-event (Pending.Cut who) rest todo n h shown is = absurd shown
      by-event (Pending.TimeOut who) rest todo n h shown is = absurd shown
      by-event Pending.Expire rest todo n h shown is = absurd shown
      by-event Pending.Tick rest todo n h shown is = absurd shown
      by-event Pending.Left rest todo n h shown is = absurd shown
      by-event (Pending.Fatal reason cause) rest todo n h shown is =
          let q = Pending.Fatal reason cause in plain q rest todo n h is refl refl refl (sums-stay f.image x m t n q rest (offered-stands m t n all q rest tt (shown-offers h)).0)
      by-event (Pending.Inherit who) rest todo n h shown is = absurd shown
      by-event (Pending.Drops from) rest todo n h shown is = absurd shown
      by-event (Pending.CleanPair who) rest todo n h shown is = absurd shown
      by-event Pending.Recycle rest todo n h shown is = absurd shown
      by-event q rest todo n h shown is = plain q rest todo n h is refl refl refl (sums-stay f.image x m t n q rest tt)

      dropped-same : (who : ℕ) → (dropped (row f x) who).claims ≡ (row f x).claims
      dropped-same who = dropped-claims (row f x) who (is_last (row f x) who && has (row f x) who)

      on-beside : (u y : ℕ) (q : Pending) → Beside f m e u y q → Counts (T.after m u y q (thread_at m u).pending)
      on-beside u y _ (cuts who site before _ todo at place inside said) =
          let q = Pending.Cut (to_thread who) in passed (T.after m u y q (thread_at m u).pending) (Todo.look who site before) todo at refl refl (word-same _ said refl) (sums-stay f.image x m u y q (thread_at m u).pending tt)
      on-beside u y _ (times_out deadline site _ who todo at place inside said) =
          let q = Pending.TimeOut who in
          passed (T.after m u y q (thread_at m u).pending) (Todo.handle deadline (Mark.Thread who site)) todo at refl refl (word-same _ said refl) (sums-stay f.image x m u y q (thread_at m u).pending tt)
      on-beside u y _ (expires deadline z todo at inside said) =
          let q = Pending.Expire in
          passed (T.after m u y q (thread_at m u).pending) (Todo.handle deadline (Mark.Timer z)) todo at refl refl (word-same _ said refl) (sums-stay f.image x m u y q (thread_at m u).pending tt)
      on-beside u y _ (ticks at said) = takes (T.after m u y Pending.Tick (thread_at m u).pending) at (sums-stay f.image x m u y Pending.Tick (thread_at m u).pending tt)
      on-beside u y _ (leaves todo at said) =
          passed (T.after m u y Pending.Left (thread_at m u).pending) Todo.leave todo at refl refl (word-same _ said refl) (sums-stay f.image x m u y Pending.Left (thread_at m u).pending tt)

      counts : (s : State) → Leaves f m e s → Counts s
      counts _ (nothing u said) = quiet-part u said p.todo refl
      counts _ (event q rest todo n h shown is) = by-event q rest todo n h shown is
      counts _ (resumes c told rest at moved said) = takes (T.after m c.thread 0 Pending.Resume rest) at (sums-stay f.image x m c.thread 0 Pending.Resume rest tt)
      counts _ (passes who y rest todo h said) =
          let q = Pending.Inherit (to_thread who) in passed (T.after m t y q rest) (Todo.pass who y) todo h.at refl refl (word-same _ said refl) (sums-stay f.image x m t y q rest tt)
      counts _ (drops from y rest todo h said) =
          let q = Pending.Drops from in passed (T.after m t y q rest) (Todo.drop y) todo h.at refl refl (word-same _ said (dropped-same t)) (sums-stay f.image x m t y q rest tt)
      counts _ (cleans who y rest todo h said) =
          let q = Pending.CleanPair (to_thread who) in passed (T.after m t y q rest) (Todo.clean_pair who y) todo h.at refl refl (word-same _ said (dropped-same who)) (sums-stay f.image x m t y q rest tt)
      counts _ (recycles y rest todo at l said chosen) =
          passed (T.after m t y Pending.Recycle rest) (Todo.recycle y) todo at refl refl (word-at (Todo.recycle y ∷ todo) at refl) (sums-stay f.image x m t y Pending.Recycle rest tt)
      counts _ (beside u y q how chosen started) = on-beside u y q how

      pub claims-part : (s : State) → Leaves f m e s → ClaimsAre later s x
      claims-part s how = record { claimed = counts s how; dying = (staged f m e law x few).dying; free = (staged f m e law x few).free }
