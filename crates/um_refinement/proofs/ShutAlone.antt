-- Nobody joins an index that is shut, after every lawful step.
use Rattle.um_refinement.proofs.Words.{get_or-set_same, length, Reply, Pending, Steps, Todos, act_in, answer_in, to_thread, ◌≡◌, ℕ, ◌<◌, Bool, true, false, List, [], ◌∷◌, ◌++◌, refl, sym, ap, ◌∙◌, subst, arith, ◌==◌, ◌||◌, not, filter, if◌then◌else◌, list_any, get_or-set_other, eqb-false, eqb-true, same-sound, slice_index_or, slice_set, false≢true, true≢false, THREADS, Answer, Waiter, ThreadIx, FineAct, FineStep, Unseen, Exchange, Site, same_site, State, Fine, caller_in}
use Rattle.um_base.specs.declared.names.Timeout.{Timeout}
use Rattle.um_machine.specs.Joins as Plain
use Rattle.um_machine.specs.Services.{without}
use Rattle.um_fine.specs.Joins.{Joins, begins_waiting, is_joined, is_shut, join_after, join_answer, open_says}
use Rattle.um_refinement.specs.Fine.{joins}
use Rattle.um_refinement.proofs.Erased.{around}
use Rattle.um_refinement.proofs.JoinSteps.{join-says}
use Rattle.um_refinement.proofs.JoinsPart.{cell-untouched}
use Rattle.um_refinement.proofs.Leaves.{Beside, Lawful, Leaves, beside as beside_it, cleans, cuts, drops, event, expires, leaves as leaves_it, nothing, passes, recycles, resumes, ticks, times_out}
use Rattle.um_refinement.proofs.Offered.{IsStep, Shows, moved-made}
use Rattle.um_refinement.proofs.ParkedPart.{joins-else, joins-later}
use Rattle.um_refinement.proofs.WaitsNoted.{is_wait}
use Rattle.um_refinement.proofs.WordsKept.{IsShown}

-- whom nobody on a list means, nobody means who is left of it
none-left : (test keep : Waiter → Bool) (ws : List Waiter) → list_any test ws ≡ false → list_any test (filter keep ws) ≡ false
none-left test keep [] h = refl
none-left test keep (w ∷ ws) h = by (test w) refl (keep w) refl (none-left test keep ws)
  where
    by : (a : Bool) → test w ≡ a → (b : Bool) → keep w ≡ b → (list_any test ws ≡ false → list_any test (filter keep ws) ≡ false) → list_any test (if keep w then w ∷ filter keep ws else filter keep ws) ≡ false
    by true k b g more = absurd (true≢false (sym (ap (λ c. c || list_any test ws) k) ∙ h))
    by false k true g more = ap (λ c. list_any test (if c then w ∷ filter keep ws else filter keep ws)) g ∙ (ap (λ c. c || list_any test (filter keep ws)) k ∙ more (sym (ap (λ c. c || list_any test ws) k) ∙ h))
    by false k false g more = ap (λ c. list_any test (if c then w ∷ filter keep ws else filter keep ws)) g ∙ more (sym (ap (λ c. c || list_any test ws) k) ∙ h)

none-meant : (test : Waiter → Bool) (ws : List Waiter) → list_any test (filter (λ w. not (test w)) ws) ≡ false
none-meant test [] = refl
none-meant test (w ∷ ws) = by (test w) refl (none-meant test ws)
  where
    by : (a : Bool) → test w ≡ a → list_any test (filter (λ w. not (test w)) ws) ≡ false → list_any test (if not (test w) then w ∷ filter (λ w. not (test w)) ws else filter (λ w. not (test w)) ws) ≡ false
    by true k more = ap (λ c. list_any test (if not c then w ∷ filter (λ w. not (test w)) ws else filter (λ w. not (test w)) ws)) k ∙ more
    by false k more = ap (λ c. list_any test (if not c then w ∷ filter (λ w. not (test w)) ws else filter (λ w. not (test w)) ws)) k ∙ (ap (λ c. c || list_any test (filter (λ w. not (test w)) ws)) k ∙ more)

none-behind : (test : Waiter → Bool) (ws : List Waiter) (w : Waiter) → list_any test ws ≡ false → test w ≡ false → list_any test (ws ++ w ∷ []) ≡ false
none-behind test [] w h k = ap (λ c. c || false) k
none-behind test (v ∷ ws) w h k = by (test v) refl (none-behind test ws w)
  where
    by : (a : Bool) → test v ≡ a → (list_any test ws ≡ false → test w ≡ false → list_any test (ws ++ w ∷ []) ≡ false) → (test v || list_any test (ws ++ w ∷ [])) ≡ false
    by true g more = absurd (true≢false (sym (ap (λ c. c || list_any test ws) g) ∙ h))
    by false g more = ap (λ c. c || list_any test (ws ++ w ∷ [])) g ∙ more (sym (ap (λ c. c || list_any test ws) g) ∙ h) k

module _ (t : ℕ) (moved : Exchange) where
  -- nobody joins that index, if it is shut
  abbrev Alone : Joins → Type 0
  Alone j = is_shut j t ≡ true → is_joined j t ≡ false

  shuts : (j : Joins) (who : ℕ) → Alone j → Alone (record j { waiters = filter (λ w. not (Plain.joins who w)) j.waiters; shut = slice_set j.shut who true })
  shuts j who was shut = by (who == t) refl
    where
      by : (b : Bool) → (who == t) ≡ b → list_any (Plain.joins t) (filter (λ w. not (Plain.joins who w)) j.waiters) ≡ false
      by true k = subst (λ n. list_any (Plain.joins t) (filter (λ w. not (Plain.joins n w)) j.waiters) ≡ false) (sym (eqb-true who t k)) (none-meant (Plain.joins t) j.waiters)
      by false k = none-left (Plain.joins t) (λ w. not (Plain.joins who w)) j.waiters (was (sym (get_or-set_other j.shut who t true true (λ z. eqb-false who t k (sym z))) ∙ shut))

  unseen-alone : (j : Joins) (u : Unseen) → t < length j.shut → Alone j → is_shut (join_after j (FineAct.Unseen u) moved) t ≡ true → is_joined (join_after j (FineAct.Unseen u) moved) t ≡ false
  unseen-alone j (Unseen.Shut who) few was = shuts j who.0 was
  unseen-alone j (Unseen.Unshut who) few was = λ shut. by shut (who.0 == t) refl
    where
      by : slice_index_or (slice_set j.shut who.0 false) t true ≡ true → (b : Bool) → (who.0 == t) ≡ b → is_joined j t ≡ false
      by shut true k = absurd (true≢false (sym shut ∙ (ap (λ n. slice_index_or (slice_set j.shut n false) t true) (eqb-true who.0 t k) ∙ get_or-set_same j.shut t false true few)))
      by shut false k = was (sym (get_or-set_other j.shut who.0 t false true (λ z. eqb-false who.0 t k (sym z))) ∙ shut)
  unseen-alone j Unseen.Sleep few was = was
  unseen-alone j (Unseen.Rouse who) few was = was
  unseen-alone j u few was = was

  -- one who begins to join
  begins-alone : (j : Joins) (answer : Answer) → (answer ≡ Answer.Wait → is_shut j t ≡ true → Plain.joins t (caller_in moved) ≡ false) → Alone j
      → is_shut (begins_waiting j moved answer) t ≡ true → is_joined (begins_waiting j moved answer) t ≡ false
  begins-alone j Answer.Wait other was = λ shut.
      none-behind (Plain.joins t) (without (caller_in moved).thread.0 j.waiters) (caller_in moved) (none-left (Plain.joins t) (λ w. not (w.thread.0 == (caller_in moved).thread.0)) j.waiters (was shut)) (other refl shut)
  begins-alone j (Answer.Now reply) other was = was

  taken-alone : (j : Joins) (who : ℕ) → Alone j → is_shut j t ≡ true → list_any (Plain.joins t) (without who j.waiters) ≡ false
  taken-alone j who was shut = none-left (Plain.joins t) (λ w. not (w.thread.0 == who)) j.waiters (was shut)

module _ (f : Fine) (m : State) (e : FineStep) (law : Lawful f m e) (t : ℕ) (few : t < THREADS) where
  open around f e use {later, processor as p}

  was : Alone t e.moved (joins f)
  was = (law.rel.threads t few).shut.alone

  inside : t < length (joins f).shut
  inside = let long = law.rel.joins.shut in omega (arith, few, long)

  -- where it is so of what a step makes of the cell, it is so after it
  by-site : (act : FineAct) → e.act ≡ act → (e.site ≡ Site.joins → Alone t e.moved (join_after (joins f) act e.moved)) → Alone t e.moved (joins later)
  by-site act said here = by (same_site e.site Site.joins) refl
    where
      by : (b : Bool) → same_site e.site Site.joins ≡ b → Alone t e.moved (joins later)
      by true on = let at = same-sound e.site Site.joins on in subst (Alone t e.moved) (sym (joins-later f m e law at act said)) (here at)
      by false off = subst (Alone t e.moved) (sym (joins-else f m e law off)) was

  -- a join that is told to wait is of an index that isn't shut
  on-join : (who : ThreadIx) (timeout : Timeout) (rest : Steps) (todo : Todos) → Shows f m e.cpu e (Pending.Join who timeout) rest todo → answer_in (act_in e.act) ≡ Answer.Wait → is_shut (joins f) t ≡ true
      → Plain.joins t (caller_in e.moved) ≡ false
  on-join who timeout rest todo h waits shut = by (who.0 == t) refl
    where
      asks : Plain.joins t (caller_in e.moved) ≡ (who.0 == t)
      asks = ap (λ (mv : Exchange). Plain.joins t (caller_in mv)) (moved-made h)

      says : join_answer (joins f) p.context.thread who.0 timeout ≡ Answer.Wait
      says = join-says law.sound.wide.threads who timeout h ∙ waits

      by : (b : Bool) → (who.0 == t) ≡ b → Plain.joins t (caller_in e.moved) ≡ false
      by false k = asks ∙ k
      by true k =
          let shut-it : is_shut (joins f) who.0 ≡ true = ap (is_shut (joins f)) (eqb-true who.0 t k) ∙ shut in
          absurd (false≢true (ap is_wait (sym (ap (λ b. if b then Answer.Now (Reply.Num 0) else open_says (joins f) p.context.thread who.0 timeout) shut-it) ∙ says)))

  quiet : (act : FineAct) → e.act ≡ act → ((j : Joins) → join_after j act e.moved ≡ j) → Alone t e.moved (joins later)
  quiet act said same = by-site act said (λ at. subst (Alone t e.moved) (sym (same (joins f))) was)

  by-event : (q : Pending) (rest : Steps) (todo : Todos) (x : ℕ) → Shows f m e.cpu e q rest todo → IsShown q → IsStep f m e.cpu e x q → Alone t e.moved (joins later)
  by-event (Pending.Join who timeout) rest todo x h shown is = by-site _ is.said (λ at. begins-alone t e.moved (joins f) (answer_in (act_in e.act)) (λ waits. on-join who timeout rest todo h waits) was)
  by-event Pending.Left rest todo x h shown is = absurd shown
  by-event (Pending.TimeOut who) rest todo x h shown is = absurd shown
  by-event (Pending.Cut who) rest todo x h shown is = absurd shown
  by-event q rest todo x h shown is = quiet _ is.said (λ j. cell-untouched f.image p j e.moved q (act_in e.act) tt)

  on-beside : {u x : ℕ} {q : Pending} → Beside f m e u x q → Alone t e.moved (joins later)
  on-beside (cuts who site before x todo at place within said) = by-site _ said (λ at. taken-alone t e.moved (joins f) (to_thread who).0 was)
  on-beside (times_out deadline site x who todo at place within said) = by-site _ said (λ at. taken-alone t e.moved (joins f) who.0 was)
  on-beside (expires deadline x todo at within said) = quiet _ said (λ j. refl)
  on-beside (ticks at said) = quiet _ said (λ j. refl)
  on-beside (leaves_it todo at said) = by-site _ said (λ at. shuts t e.moved (joins f) p.context.thread was)

  pub shut-alone : (s : State) → Leaves f m e s → is_shut (joins later) t ≡ true → is_joined (joins later) t ≡ false
  shut-alone _ (nothing u said) = by-site (FineAct.Unseen u) said (λ at. unseen-alone t e.moved (joins f) u inside was)
  shut-alone _ (event q rest todo x h shown is) = by-event q rest todo x h shown is
  shut-alone _ (resumes c told rest idle moved said) = quiet _ said (λ j. refl)
  shut-alone _ (passes who x rest todo h said) = quiet _ said (λ j. refl)
  shut-alone _ (drops from x rest todo h said) = quiet _ said (λ j. refl)
  shut-alone _ (cleans who x rest todo h said) = quiet _ said (λ j. refl)
  shut-alone _ (recycles x rest todo at l said chosen) = quiet _ said (λ j. refl)
  shut-alone _ (beside_it u x q how chosen started) = on-beside how
