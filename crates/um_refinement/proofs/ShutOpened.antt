-- An index that isn't shut is of a thread that keeps its own object, or that a processor starts next, after every lawful step.
use Rattle.um_refinement.proofs.Words.{Mode, Row, ℤ, ◌≡◌, ◌⊎◌, inl, inr, ℕ, ◌<◌, Bool, true, false, cond, List, length, [], ◌∷◌, Some, None, refl, sym, ap, ◌∙◌, subst, arith, ◌==◌, if◌then◌else◌, and_from, eq-eqb, eqb-false, eqb-true, false≢true, true≢false, is_some, get_or-set_other, get_or-set_same, same-sound, slice_index_or, slice_set, THREADS, ThreadIx, Answer, Exchange, FineAct, FineStep, Unseen, Pending, Steps, State, own_row, thread_at, to_thread, row_named, act_in, answer_in, says, says_show, is_word_read, is_visit, Processor, p_next, same_site, Site, Context, Todo, Todos, Fine}
use Rattle.um_machine.specs.Table as T
use Rattle.um_fine.specs.Answers.{is_due_act, is_killed, is_shut_act, is_tick, is_void}
use Rattle.um_fine.specs.Asks.{begins, says_turn}
use Rattle.um_fine.specs.Follows.{shown_step}
use Rattle.um_fine.specs.Joins.{Joins, begins_waiting, is_shut, join_after}
use Rattle.um_refinement.specs.Fine.{joins}
use Rattle.um_refinement.specs.Frames.{starts_one}
use Rattle.um_refinement.specs.Stops.{IsOwned, keeps, starting, clears_own, starts}
use Rattle.um_refinement.proofs.Erased.{around}
use Rattle.um_refinement.proofs.JoinsPart.{cell-untouched}
use Rattle.um_refinement.proofs.Leaves.{Beside, Lawful, Leaves, beside as beside_it, cleans, cuts, drops, event, expires, leaves as leaves_it, mine, nothing, passes, recycles, resumes, ticks, times_out}
use Rattle.um_refinement.proofs.ListTails.{adds-pass, whole-read}
use Rattle.um_refinement.proofs.Offered.{IsStep, Shows, at-made, shows-runs}
use Rattle.um_refinement.proofs.OwnObjects.{Spares, keeps-after, starts-keeping}
use Rattle.um_refinement.proofs.ParkedPart.{joins-else, joins-later}
use Rattle.um_refinement.proofs.SchedulerSteps.{made-says}
use Rattle.um_refinement.proofs.ListStarts.{some-number, starts-reads}
use Rattle.um_refinement.proofs.StepReads.{is-behind, reads-last}
use Rattle.um_refinement.proofs.WordsKept.{IsShown}

abbrev is_unshut_act : FineAct → Bool
is_unshut_act (FineAct.Unseen (Unseen.Unshut who)) = true
is_unshut_act act = false

abbrev who_opened : FineAct → ℕ
who_opened (FineAct.Unseen (Unseen.Unshut who)) = who.0
who_opened act = 0

abbrev is_hidden : FineAct → Bool
is_hidden (FineAct.Unseen u) = true
is_hidden (FineAct.Shown said more) = false

abbrev is_unshut : Todo → Bool
is_unshut (Todo.unshut who) = true
is_unshut q = false

abbrev starts_first : Todos → Bool
starts_first (Todo.show (Pending.Start who script stack priority mode) rest ∷ todo) = true
starts_first todo = false

abbrev shown_first : Todos → Pending
shown_first (Todo.show q rest ∷ todo) = q
shown_first todo = Pending.Begin

either-plain : (b : Bool) (one other : FineAct) → is_unshut_act one ≡ false → is_unshut_act other ≡ false → is_unshut_act (if b then one else other) ≡ false
either-plain true one other h k = h
either-plain false one other h k = k

module _ (f : Fine) (m : State) (e : FineStep) (law : Lawful f m e) (t : ℕ) (few : t < THREADS) where
  open around f e use {later, processor as p, now}
  open is-behind f m e law use {frame}

  stays-act : (q : Todo) (todo : Todos) → p.todo ≡ q ∷ todo → is_unshut q ≡ false → is_unshut_act e.act ≡ false
  stays-act q todo at other = ap is_unshut_act (made-says f m e law (q ∷ todo) at) ∙ by q other
    where
      rests : (r : Pending) → is_unshut_act (begins f.image p r e.act) ≡ false
      rests r = either-plain (is_word_read e.act) _ _ refl (either-plain (is_killed e.act) _ _ refl refl)

      shown : (r : Pending) → is_unshut_act (says_show f.image p r e.act) ≡ false
      shown Pending.Begin = rests Pending.Begin
      shown Pending.Exit = rests Pending.Exit
      shown r = refl

      by : (q : Todo) → is_unshut q ≡ false → is_unshut_act (says f.image p (q ∷ todo) e.act e.moved) ≡ false
      by (Todo.unshut who) h = absurd (true≢false h)
      by Todo.leave h = either-plain (is_shut_act e.act) _ _ refl refl
      by (Todo.show r rest) h = shown r
      by (Todo.rouse who) h = either-plain (is_void e.act) _ _ refl refl
      by (Todo.look who site before) h = either-plain (is_void e.act) _ _ refl refl
      by (Todo.handle deadline mark) h = either-plain (is_void e.act) _ _ refl refl
      by (Todo.pass who x) h = either-plain (is_visit e.act) _ _ refl refl
      by (Todo.drop x) h = either-plain (is_visit e.act) _ _ refl refl
      by (Todo.clean_pair who x) h = either-plain (is_visit e.act) _ _ refl refl
      by q h = refl

  idle-stays : p.todo ≡ [] → is_unshut_act e.act ≡ false
  idle-stays at = ap is_unshut_act (made-says f m e law [] at) ∙ either-plain (is_due_act e.act) _ _ refl (either-plain (is_tick e.act) _ _ refl (turn e.moved))
    where
      turn : (moved : Exchange) → is_unshut_act (says_turn f.image p moved) ≡ false
      turn (Exchange.thread c None) = refl
      turn (Exchange.thread c (Some told)) = refl
      turn moved = refl

  -- Where the index isn't shut after a step, it wasn't, or the step opens it.

  Opening : Type 0
  Opening = (who : ℕ) × (todo : Todos) × (p.todo ≡ Todo.unshut who ∷ todo) × (who ≡ t)

  Where : Type 0
  Where = is_shut (joins later) t ≡ false → (is_shut (joins f) t ≡ false) ⊎ Opening

  by-site : (act : FineAct) → e.act ≡ act → (e.site ≡ Site.joins → is_shut (join_after (joins f) act e.moved) t ≡ false → (is_shut (joins f) t ≡ false) ⊎ Opening) → Where
  unfolding Where
  by-site act said here unshut = by (same_site e.site Site.joins) refl
    where
      by : (b : Bool) → same_site e.site Site.joins ≡ b → (is_shut (joins f) t ≡ false) ⊎ Opening
      by true on = let at = same-sound e.site Site.joins on in here at (sym (ap (λ (j : Joins). is_shut j t) (joins-later f m e law at act said)) ∙ unshut)
      by false off = inl (sym (ap (λ (j : Joins). is_shut j t) (joins-else f m e law off)) ∙ unshut)

  inside : t < length (joins f).shut
  inside = let long = law.rel.joins.shut in omega (arith, few, long)

  -- a step that shuts an index opens none
  shuts : (who : ℕ) → slice_index_or (slice_set (joins f).shut who true) t true ≡ false → is_shut (joins f) t ≡ false
  shuts who unshut = by (who == t) refl
    where
      by : (b : Bool) → (who == t) ≡ b → is_shut (joins f) t ≡ false
      by true k = absurd (true≢false (sym (ap (λ n. slice_index_or (slice_set (joins f).shut n true) t true) (eqb-true who t k) ∙ get_or-set_same (joins f).shut t true true inside) ∙ unshut))
      by false k = sym (get_or-set_other (joins f).shut who t true true (λ z. eqb-false who t k (sym z))) ∙ unshut

  same-shut : (act : FineAct) → e.act ≡ act → ((j : Joins) → (join_after j act e.moved).shut ≡ j.shut) → Where
  same-shut act said same = by-site act said (λ at unshut. inl (sym (ap (λ (l : List Bool). slice_index_or l t true) (same (joins f))) ∙ unshut))

  unseen-where : (u : Unseen) → e.act ≡ FineAct.Unseen u → Where
  unfolding Opening
  unseen-where (Unseen.Shut who) said = by-site (FineAct.Unseen (Unseen.Shut who)) said (λ at unshut. inl (shuts who.0 unshut))
  unseen-where (Unseen.Unshut who) said = by-site (FineAct.Unseen (Unseen.Unshut who)) said (λ at unshut. by p.todo refl (who.0 == t) refl unshut)
    where
      opens : (todo : Todos) → p.todo ≡ todo → who.0 ≡ t → (is_shut (joins f) t ≡ false) ⊎ Opening
      opens [] at same = absurd (true≢false (sym (ap is_unshut_act said) ∙ idle-stays at))
      opens (Todo.unshut w ∷ todo) at same = inr (w, todo, at, sym (ap who_opened (sym said ∙ made-says f m e law (Todo.unshut w ∷ todo) at)) ∙ same)
      opens (q ∷ todo) at same = absurd (true≢false (sym (ap is_unshut_act said) ∙ stays-act q todo at refl))

      by : (todo : Todos) → p.todo ≡ todo → (b : Bool) → (who.0 == t) ≡ b → slice_index_or (slice_set (joins f).shut who.0 false) t true ≡ false → (is_shut (joins f) t ≡ false) ⊎ Opening
      by todo at true k unshut = opens todo at (eqb-true who.0 t k)
      by todo at false k unshut = inl (sym (get_or-set_other (joins f).shut who.0 t false true (λ z. eqb-false who.0 t k (sym z))) ∙ unshut)
  unseen-where Unseen.Sleep said = same-shut (FineAct.Unseen Unseen.Sleep) said (λ j. refl)
  unseen-where (Unseen.Rouse who) said = same-shut (FineAct.Unseen (Unseen.Rouse who)) said (λ j. refl)
  unseen-where u said = same-shut (FineAct.Unseen u) said (λ j. refl)

  by-event : (q : Pending) (rest : Steps) (todo : Todos) (x : ℕ) → Shows f m e.cpu e q rest todo → IsShown q → IsStep f m e.cpu e x q → Where
  by-event (Pending.Join who timeout) rest todo x h shown is = same-shut _ is.said (λ j. begun j (answer_in (act_in e.act)))
    where
      begun : (j : Joins) (a : Answer) → (begins_waiting j e.moved a).shut ≡ j.shut
      begun j Answer.Wait = refl
      begun j (Answer.Now reply) = refl
  by-event Pending.Left rest todo x h shown is = absurd shown
  by-event (Pending.TimeOut who) rest todo x h shown is = absurd shown
  by-event (Pending.Cut who) rest todo x h shown is = absurd shown
  by-event q rest todo x h shown is = same-shut _ is.said (λ j. ap (λ (z : Joins). z.shut) (cell-untouched f.image p j e.moved q (act_in e.act) tt))

  on-beside : {u x : ℕ} {q : Pending} → Beside f m e u x q → Where
  on-beside (cuts who site before x todo at place within said) = same-shut _ said (λ j. refl)
  on-beside (times_out deadline site x who todo at place within said) = same-shut _ said (λ j. refl)
  on-beside (expires deadline x todo at within said) = same-shut _ said (λ j. refl)
  on-beside (ticks at said) = same-shut _ said (λ j. refl)
  on-beside (leaves_it todo at said) = by-site _ said (λ there unshut. inl (shuts p.context.thread unshut))

  unshut-where : (s : State) → Leaves f m e s → Where
  unshut-where _ (nothing u said) = unseen-where u said
  unshut-where _ (event q rest todo x h shown is) = by-event q rest todo x h shown is
  unshut-where _ (resumes c told rest idle moved said) = same-shut _ said (λ j. refl)
  unshut-where _ (passes who x rest todo h said) = same-shut _ said (λ j. refl)
  unshut-where _ (drops from x rest todo h said) = same-shut _ said (λ j. refl)
  unshut-where _ (cleans who x rest todo h said) = same-shut _ said (λ j. refl)
  unshut-where _ (recycles x rest todo at l said chosen) = same-shut _ said (λ j. refl)
  unshut-where _ (beside_it u x q how chosen started) = on-beside how

  -- A thread that keeps its own object keeps it: where it clears that one's mark its index is shut.

  spares : (q : Pending) (rest : Steps) (todo : Todos) (x : ℕ) → Shows f m e.cpu e q rest todo → is_shut (joins f) t ≡ false → Spares m (mine f m e) x t q
  spares (Pending.ClearInit a) rest todo x h unshut = λ same. by same (T.row_of m a == own_row m.image p.context.thread) refl
    where
      by : t ≡ p.context.thread → (b : Bool) → (T.row_of m a == own_row m.image p.context.thread) ≡ b → b ≡ false
      by same false other = refl
      by same true own =
          absurd (true≢false (sym ((law.rel.threads t few).shut.clears e.cpu law.by.named (and_from _ _ (shows-runs h) (eq-eqb p.context.thread t (sym same)))
          (ap (clears_own f p) (at-made h tt) ∙ ((λ i. row_named (sym law.rel.image i) a == own_row (sym law.rel.image i) p.context.thread) ∙ own))) ∙ unshut))
  spares q rest todo x h unshut = tt

  beside-spares : {u x : ℕ} {q : Pending} → Beside f m e u x q → Spares m u x t q
  beside-spares (cuts who site before x todo at place within said) = tt
  beside-spares (times_out deadline site x who todo at place within said) = tt
  beside-spares (expires deadline x todo at within said) = tt
  beside-spares (ticks at said) = tt
  beside-spares (leaves_it todo at said) = tt

  keeps-on : (s : State) → Leaves f m e s → is_shut (joins f) t ≡ false → (thread_at m t).keeps_own ≡ true → (thread_at s t).keeps_own ≡ true
  keeps-on _ (nothing u said) unshut was = was
  keeps-on _ (event q rest todo x h shown is) unshut was = keeps-after m (mine f m e) x t q rest was (spares q rest todo x h unshut)
  keeps-on _ (resumes c told rest idle moved said) unshut was = keeps-after m c.thread 0 t Pending.Resume rest was tt
  keeps-on _ (passes who x rest todo h said) unshut was = keeps-after m (mine f m e) x t (Pending.Inherit (to_thread who)) rest was tt
  keeps-on _ (drops from x rest todo h said) unshut was = keeps-after m (mine f m e) x t (Pending.Drops from) rest was tt
  keeps-on _ (cleans who x rest todo h said) unshut was = keeps-after m (mine f m e) x t (Pending.CleanPair (to_thread who)) rest was tt
  keeps-on _ (recycles x rest todo at l said chosen) unshut was = keeps-after m (mine f m e) x t Pending.Recycle rest was tt
  keeps-on _ (beside_it u x q how chosen started) unshut was = keeps-after m u x t q (thread_at m u).pending was (beside-spares how)

  -- And a thread that is started keeps its own object.

  module _ (who : ThreadIx) (script : ℕ) (stack : Row) (priority : ℤ) (mode : Mode) (behind : Steps) (list : Todos)
      (at : p.todo ≡ Todo.show (Pending.Start who script stack priority mode) behind ∷ list) (same : who.0 ≡ t) where
    says-it : e.act ≡ says_show f.image p (Pending.Start who script stack priority mode) e.act
    says-it = made-says f m e law (Todo.show (Pending.Start who script stack priority mode) behind ∷ list) at

    clash : {A : Type 0} (q : Todo) (todo : Todos) → p.todo ≡ q ∷ todo → starts_first (q ∷ todo) ≡ false → A
    clash q todo there other = absurd (true≢false (ap starts_first (sym at ∙ there) ∙ other))

    idle : {A : Type 0} → p.todo ≡ [] → A
    idle there = absurd (true≢false (ap starts_first (sym at ∙ there)))

    room : t < length m.threads
    room = let many = law.sound.wide.threads in omega (arith, few, many)

    -- the step that is made is that start
    is-start : (q : Pending) (rest : Steps) (todo : Todos) → Shows f m e.cpu e q rest todo → Pending.Start who script stack priority mode ≡ q
    is-start q rest todo h =
        let listed : Pending.Start who script stack priority mode ≡ h.listed = ap shown_first (sym at ∙ h.at) in
        let goes : is_killed e.act ≡ false = ap is_killed says-it in
        sym (ap (λ b. if b then Pending.Killed else Pending.Start who script stack priority mode) goes) ∙ (ap (λ r. shown_step f.image r e.act) listed ∙ h.made)

    by-beside : {u x : ℕ} {q : Pending} {A : Type 0} → Beside f m e u x q → A
    by-beside (cuts w site before x todo there place within said) = clash _ todo there refl
    by-beside (times_out deadline site x w todo there place within said) = clash _ todo there refl
    by-beside (expires deadline x todo there within said) = clash _ todo there refl
    by-beside (ticks there said) = idle there
    by-beside (leaves_it todo there said) = clash _ todo there refl

    started : (s : State) → Leaves f m e s → (thread_at s t).keeps_own ≡ true
    started _ (nothing u said) = absurd (true≢false (sym (ap is_hidden said) ∙ ap is_hidden says-it))
    started _ (event q rest todo x h shown is) =
        subst (λ r. (thread_at (T.after m (mine f m e) x r rest) t).keeps_own ≡ true) (is-start q rest todo h) (starts-keeping m (mine f m e) x t who script stack priority mode rest same room)
    started _ (resumes c told rest there moved said) = idle there
    started _ (passes w x rest todo h said) = clash _ todo h.at refl
    started _ (drops from x rest todo h said) = clash _ todo h.at refl
    started _ (cleans w x rest todo h said) = clash _ todo h.at refl
    started _ (recycles x rest todo there l said chosen) = clash _ todo there refl
    started _ (beside_it u x q how chosen began) = by-beside how

  -- The lists.

  abbrev kth : ℕ → Bool → Processor
  kth k b = cond b (p_next f.image (f.processors k) e) (f.processors k)

  other-stays : (k : ℕ) → (e.cpu == k) ≡ false → later.processors k ≡ f.processors k
  other-stays k off = ap (kth k) off

  this-now : (k : ℕ) → (e.cpu == k) ≡ true → later.processors k ≡ now
  this-now k on = ap (kth k) on ∙ ap (λ j. p_next f.image (f.processors j) e) (sym (eqb-true e.cpu k on))

  next : (q : Todo) (todo : Todos) → p.todo ≡ q ∷ todo → starts now.todo ≡ starts todo
  next q todo at =
      let reads = starts-reads f.image in
      whole-read f.image starts None reads (λ z. refl) (λ d z. refl) p e q todo at (adds-pass f.image starts None reads (λ c z. refl) q) (frame q todo at) (reads-last f m e law q todo at)

  module _ (s : State) (left : Leaves f m e s) where
    begun : starts now.todo ≡ Some t → IsOwned later s t
    begun h = starting e.cpu law.by.named (ap (λ (z : Processor). starts z.todo) (this-now e.cpu (eq-eqb e.cpu e.cpu refl)) ∙ h)

    starts-it : (who : ℕ) (q : Pending) (rest : Steps) (c : Context) (todo : Todos) → todo ≡ Todo.show q rest ∷ Todo.let_go ∷ Todo.add c ∷ [] → starts_one who q ≡ true → starts todo ≡ Some who
    starts-it who (Pending.Start v script stack priority mode) rest c todo at one = ap starts at ∙ ap Some (eqb-true v.0 who one)
    starts-it who q rest c todo at one = absurd (false≢true one)

    opened : Opening → IsOwned later s t
    unfolding Opening
    opened (who, todo, at, same) =
        let (q, rest, c, list, one) = frame (Todo.unshut who) todo at in begun (next (Todo.unshut who) todo at ∙ (starts-it who q rest c todo list one ∙ ap Some same))

    -- the processor that makes the step was to start it next
    mine-starts : (todo : Todos) → p.todo ≡ todo → starts todo ≡ Some t → IsOwned later s t
    mine-starts [] at h = absurd (false≢true (ap is_some h))
    mine-starts (Todo.unshut who ∷ todo) at h = absurd (false≢true (ap is_some h))
    mine-starts (Todo.show (Pending.Start who script stack priority mode) rest ∷ todo) at h = keeps (started who script stack priority mode rest todo at (some-number f.image h) s left)
    mine-starts (q ∷ todo) at h = begun (next q todo at ∙ h)

    stays : is_shut (joins f) t ≡ false → IsOwned f m t → IsOwned later s t
    stays unshut (keeps was) = keeps (keeps-on s left unshut was)
    stays unshut (starting k l h) = by (e.cpu == k) refl
      where
        by : (b : Bool) → (e.cpu == k) ≡ b → IsOwned later s t
        by true on = mine-starts p.todo refl (ap (λ j. starts (f.processors j).todo) (eqb-true e.cpu k on) ∙ h)
        by false off = starting k l (ap (λ (z : Processor). starts z.todo) (other-stays k off) ∙ h)

    pub shut-opened : (is_shut (joins f) t ≡ false → IsOwned f m t) → is_shut (joins later) t ≡ false → IsOwned later s t
    unfolding Where
    shut-opened was unshut = by (unshut-where s left unshut)
      where
        by : (is_shut (joins f) t ≡ false) ⊎ Opening → IsOwned later s t
        by (inl before) = stays before (was before)
        by (inr opening) = opened opening
