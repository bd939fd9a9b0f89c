-- What goes along one processor's steps beside the relation and the point's order: what is left of calls, that who waits stands somewhere, whom the point is to
-- cut, who made the last event, that no mark is behind now, that a word is read again only behind a wait, and what calls mark. It is so at the opening, and each
-- step keeps it.
use Rattle.std.specs.Prelude.{slice_index_or, is_some, ◌&&◌, if◌then◌else◌, ◌==◌, ◌||◌}
use Rattle.std.proofs.Common.{◌≡◌, inl, ℕ, ◌+◌, ◌<◌, arith, length, Bool, true, false, [], ◌∷◌, refl, sym, ap, ◌∙◌, subst, ne_eqb, zero, suc}
use Rattle.std.proofs.lemmas.Bool.{and_parts, false≢true}
use Rattle.um_base.specs.Places.{own_row}
use Rattle.um_base.specs.declared.act.Event.{Event}
use Rattle.um_base.specs.declared.ask.Ask.{Ask}
use Rattle.um_base.specs.declared.image.Image.{Image}
use Rattle.um_base.specs.declared.limits.TheConstants.{ROWS, FUTEX_CELL, JOIN_CELL}
use Rattle.um_base.specs.declared.names.Addr.{Addr}
use Rattle.um_machine.specs.Objects as Plain
use Rattle.um_machine.specs.Order.{Steps}
use Rattle.um_machine.specs.Run.{opening, Step, stands_in, Offers}
use Rattle.um_machine.specs.State.{State, object_at, thread_at, waiters_in, is_to_resume, is_waiting, nobody}
use Rattle.um_machine.specs.Table as T
use Rattle.um_machine.specs.declared.object.Status.{Status}
use Rattle.um_machine.specs.declared.pending.Pending.{Pending}
use Rattle.um_machine.specs.declared.thread.Thread.{Thread}
use Rattle.um_invariants.specs.InOrder.{Point, opening_point}
use Rattle.um_invariants.proofs.Cores.{call_is, status_is, Call}
use Rattle.um_invariants.proofs.Facts.{is_standing}
use Rattle.um_invariants.proofs.Guards.{IsSited}
use Rattle.um_words.specs.declared.fine.FineAct.{FineAct}
use Rattle.um_fine.specs.Processor.{Processor, idle}
use Rattle.um_fine.specs.Steps.{FineStep}
use Rattle.um_refinement.specs.Choice.{IsChosen}
use Rattle.um_refinement.specs.Fine.{Fine, clock}
use Rattle.um_refinement.specs.Lists.{has_steps}
use Rattle.um_refinement.specs.Relation.{Rel}
use Rattle.um_refinement.proofs.CallsProper.{AreProper}
use Rattle.um_refinement.proofs.Erased.{GoesBy, around}
use Rattle.um_refinement.proofs.First.{first}
use Rattle.um_refinement.proofs.FirstThreads.{new-thread, opening-is}
use Rattle.um_refinement.proofs.IdleComplete.{one-holds}
use Rattle.um_refinement.proofs.Leaves.{Lawful, Leaves}
use Rattle.um_refinement.proofs.Reachable.{IsSound}
use Rattle.um_refinement.proofs.WaitersFound.{WaitersWait}
use Rattle.um_refinement.proofs.WaitersKnown.{WaitersHold}
use Rattle.um_order.proofs.ArmingOrder.{AreSettled}
use Rattle.um_order.proofs.CallsKept.{AreCalls, AtMostOne, calls-after}
use Rattle.um_order.proofs.CutNow.{CutsNext, cuts-follow}
use Rattle.um_order.proofs.Follow.{FollowsBy}
use Rattle.um_order.proofs.InitsKept.{AllInits, inits-after}
use Rattle.um_order.proofs.JoinLeast.{ShutMid, mid-next, opening-inits, opening-shut}
use Rattle.um_order.proofs.LastMade.{IsLast, last-next}
use Rattle.um_order.proofs.MarksNow.{IsAhead, ahead-next}
use Rattle.um_order.proofs.OneAct.{IsCall, IsSettled}
use Rattle.um_order.proofs.OneWithin.{at-most-one}
use Rattle.um_order.proofs.ReadsWord.{ReadsWaiting, reads-next}
use Rattle.um_order.proofs.Settled.{idle-settled}
use Rattle.um_order.proofs.WaitersStand.{AllStand, NoneWait, stands-after}

pub record Keeps (f : Fine) (p : Processor) (at : Point) : Type 0 where
  pub calls : AreCalls at.state
  pub stand : AllStand at.state
  pub cuts : CutsNext at
  pub last : IsLast f.image p (clock f).marks at
  pub ahead : IsAhead (clock f) p.todo
  pub reads : ReadsWaiting p
  pub inits : AllInits f.image at.state
  pub shut : ShutMid f at.state

-- Nobody waits on an object that is free, or that nobody holds: whoever waits on one holds it.
pub none-waits : (m : State) → IsSound m → WaitersWait m → WaitersHold m → NoneWait m
none-waits m sound waits holds x u few stands = (free, held)
  where
    at-row : waiters_in m x ≡ (object_at m x).waiters
    at-row = λ i. if ne_eqb x JOIN_CELL (λ q. omega (arith, few, q)) i then m.joins else if ne_eqb x FUTEX_CELL (λ q. omega (arith, few, q)) i then m.futexes else (object_at m x).waiters

    there : stands_in u (waiters_in m x) ≡ true
    there = subst (λ ws. stands_in u ws ≡ true) (sym at-row) stands

    checked : slice_index_or (thread_at m u).checked x false ≡ true
    checked = holds x u few there

    free : Plain.is_free (object_at m x).status ≡ false
    free =
        stands_not (object_at m x).status
        (subst (λ s. is_standing s ≡ true) (status_is m x) (sound.known.reached.standing u x (ap (λ (c : Call). slice_index_or c.checked x false) (call_is m u) ∙ checked)))
      where
        stands_not : (s : Status) → is_standing s ≡ true → Plain.is_free s ≡ false
        stands_not Status.Free h = absurd (false≢true h)
        stands_not s h = refl

    inside : (xs : _) (v : ℕ) → is_waiting (slice_index_or xs v nobody) ≡ true → v < length xs
    inside [] v h = absurd (false≢true h)
    inside (y ∷ ys) v h = by v h (λ n k. inside ys n k)
      where
        by : (v : ℕ) → is_waiting (slice_index_or (y ∷ ys) v nobody) ≡ true → ((n : ℕ) → is_waiting (slice_index_or ys n nobody) ≡ true → n < length ys) → v < length (y ∷ ys)
        by zero k more = omega arith
        by (suc n) k more = let l = more n k in omega (arith, l)

    held : Plain.is_held m x ≡ true
    held =
        let few_threads = inside m.threads u (waits x u there) in
        let zeroth : 0 + u ≡ u = omega arith in
        one-holds m.image x 0 m.threads u few_threads
        (subst (λ n. Plain.thread_holds m.image x n (thread_at m u) ≡ true) (sym zeroth) (ap (λ b. b || ((thread_at m u).keeps_own && (own_row m.image u == x))) checked))

module _ (f : Fine) (at : Point) (e : FineStep) (law : Lawful f at.state e) (one : f.cpus ≡ 1) (proper : AreProper at.state.image at.state) (waits : WaitersWait at.state) (holds : WaitersHold at.state)
    (works : (t : ℕ) (a : Addr) (ask : Ask) (rest : Steps) → Offers at.state t (Pending.Work a ask) rest → slice_index_or (thread_at at.state t).checked (T.row_of at.state a) false ≡ true)
    (chosen : IsChosen f e) (was : Keeps f (f.processors e.cpu) at) where
  open around f e use {later, processor as p, now}

  abbrev m : State
  m = at.state

  settled-idle : p.todo ≡ [] → AreSettled (clock f).marks
  settled-idle list =
      let first : e.cpu ≡ 0 = (let l = law.by.named in omega (arith, l, one)) in idle-settled f m law.rel one (ap (λ k. (f.processors k).todo) (sym first) ∙ list)

  row-below : (t r : ℕ) → slice_index_or (thread_at m t).checked r false ≡ true → r < ROWS
  row-below t r h =
      let wide : length (thread_at m t).checked ≡ ROWS = ap (λ (c : Call). length c.checked) (sym (call_is m t)) ∙ law.sound.known.reached.wide t in
      let l = inside (thread_at m t).checked r h in omega (arith, l, wide)
    where
      inside : (xs : _) (r : ℕ) → slice_index_or xs r false ≡ true → r < length xs
      inside [] r h = absurd (false≢true h)
      inside (b ∷ bs) zero h = omega arith
      inside (b ∷ bs) (suc r) h = let l = inside bs r h in omega (arith, l)

  module _ (event : Event) (to : Point) (made : Step at.state event to.state) where
    most : AtMostOne m
    most = at-most-one f m law.rel one law.sound.wide.threads

    calls-next : AreCalls to.state
    calls-next =
        subst AreCalls (sym made.leaves)
        (calls-after m event.thread.0 made.row made.step made.rest made.offered made.chosen proper law.sound.wide.threads most was.calls)

    stand-next : AllStand to.state
    stand-next =
        subst AllStand (sym made.leaves)
        (stands-after m event.thread.0 made.row made.step made.rest made.offered made.chosen proper was.calls waits (none-waits m law.sound waits holds) law.sound.wide.objects
        (λ a ask same. row-below event.thread.0 (T.row_of m a) (works event.thread.0 a ask made.rest (subst (λ q. Offers m event.thread.0 q made.rest) same made.offered))) was.stand)

    inits-next : AllInits f.image to.state
    inits-next =
        subst (AllInits f.image) (sym made.leaves)
        (inits-after f.image (subst IsSited law.rel.image law.sound.known.reached.sited) m law.rel.image law.sound.known was.inits event.thread.0 made.row made.step made.rest made.offered)

  pub keeps-next : (s2 : State) (to : Point) → Leaves f m e s2 → GoesBy at.state e.act s2 → Rel later s2 → FollowsBy at e.act to → to.state ≡ s2 → Keeps later now to
  keeps-next s2 to left goes related follows same =
      record {
        calls = (by e.act (subst (GoesBy m e.act) (sym same) goes) follows).0;
        stand = (by e.act (subst (GoesBy m e.act) (sym same) goes) follows).1;
        cuts = (by e.act (subst (GoesBy m e.act) (sym same) goes) follows).2;
        last = last-next f at e law to was.last follows;
        ahead = ahead-next f m e law chosen settled-idle was.ahead;
        reads = reads-next f m e law was.reads;
        inits = inits-then e.act (subst (GoesBy m e.act) (sym same) goes);
        shut = subst (ShutMid later) (sym same) (mid-next f m e law proper (at-most-one f m law.rel one law.sound.wide.threads) was.calls was.inits was.shut s2 left goes related);
      }
    where
      inits-then : (act : FineAct) → GoesBy m act to.state → AllInits f.image to.state
      inits-then (FineAct.Shown event more) made = inits-next event to made
      inits-then (FineAct.Unseen u) stays = subst (AllInits f.image) (sym stays) was.inits

      by : (act : FineAct) → GoesBy m act to.state → FollowsBy at act to → AreCalls to.state × AllStand to.state × CutsNext to
      by (FineAct.Shown event more) made h = (calls-next event to made, stand-next event to made, cuts-follow at event to proper was.calls was.cuts made h)
      by (FineAct.Unseen u) stays h = subst (λ (z : Point). AreCalls z.state × AllStand z.state × CutsNext z) (sym h) (was.calls, was.stand, was.cuts)

-- At the opening.

pub opening-keeps : (image : Image) → Keeps (first image 1) idle (opening_point image)
opening-keeps image =
    record {
      calls = record {
        calls = λ v. subst IsCall (sym (new-thread image v).rests) tt;
        stopped = λ v stop. subst IsSettled (sym (new-thread image v).rests) tt;
        doomed = λ v from rest h. absurd (false≢true (sym (ap dooms_first (new-thread image v).rests) ∙ ap dooms_first h));
        all = λ u doomed. absurd (false≢true (sym (opening-is (λ (me : Thread). me.doomed ≡ false) refl (λ i boot. refl) image u) ∙ doomed));
      };
      stand = λ t waiting. absurd (false≢true (sym (ap is_to_resume (new-thread image t).rests) ∙ (and_parts (is_to_resume (thread_at (opening image) t).pending) _ waiting).0));
      cuts = record {
        waits = λ v aborted waiting. absurd (false≢true (sym (new-thread image v).aborted ∙ aborted));
        aborted = λ who some. absurd (false≢true (ap is_some some));
      };
      last = inl refl;
      ahead = record { marks = refl; hand = λ deadline mark rest none. absurd (false≢true (ap has_steps none)) };
      reads = λ awake. refl;
      inits = opening-inits image;
      shut = opening-shut image;
    }
  where
    dooms_first : Steps → Bool
    dooms_first (Pending.Dooms from ∷ rest) = true
    dooms_first steps = false
