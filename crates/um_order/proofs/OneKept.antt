-- What goes along the steps of one processor, and that each lawful step that is chosen keeps it.
use Rattle.std.specs.Prelude.{slice_index_or}
use Rattle.std.proofs.Common.{◌≡◌, ℕ, true, cond, length, refl, sym, ap, ◌∙◌, subst, arith, eq-eqb, Some, inl, inr, [], ◌∷◌, false}
use Rattle.um_base.specs.Lawful.{IsLawful}
use Rattle.um_base.specs.declared.ask.Ask.{Ask}
use Rattle.um_base.specs.declared.image.Image.{Image}
use Rattle.um_base.specs.declared.names.Addr.{Addr}
use Rattle.um_base.specs.declared.names.ThreadIx.{ThreadIx}
use Rattle.um_machine.specs.Order.{Steps, to_thread}
use Rattle.um_machine.specs.Run.{opening, Offers}
use Rattle.um_machine.specs.State.{State, thread_at}
use Rattle.um_machine.specs.Table as T
use Rattle.um_machine.specs.declared.pending.Pending.{Pending}
use Rattle.um_invariants.specs.Described.{IsDescribed}
use Rattle.um_invariants.specs.InOrder.{Point}
use Rattle.um_invariants.proofs.Cores.{core_of}
use Rattle.um_invariants.proofs.Guards.{IsSited}
use Rattle.um_invariants.proofs.ThreadWords.{AreKept}
use Rattle.um_invariants.proofs.Turns.{IsKnown}
use Rattle.um_words.specs.declared.fine.FineAct.{FineAct}
use Rattle.um_words.specs.declared.fine.More.{More}
use Rattle.um_fine.specs.FineRun.{ByOneOf, cpu_of, same_cpu, site_of}
use Rattle.um_fine.specs.Follows.{p_next}
use Rattle.um_fine.specs.Places.{Todo, Todos}
use Rattle.um_fine.specs.Processor.{Processor, actor_or}
use Rattle.um_fine.specs.Runs.{changed}
use Rattle.um_fine.specs.Sites.{SiteMay, SiteState, s_next, same_site}
use Rattle.um_fine.specs.Steps.{FineStep, Site}
use Rattle.um_refinement.specs.Choice.{IsChosen}
use Rattle.um_refinement.specs.Fine.{Fine, clock, joins, scheduler}
use Rattle.um_refinement.specs.Lists.{runs}
use Rattle.um_refinement.specs.Relation.{Rel}
use Rattle.um_refinement.proofs.ArmsKnown.{timed-known}
use Rattle.um_refinement.proofs.Bounds.{AreBounded}
use Rattle.um_refinement.proofs.BoundsKept.{bounds-kept}
use Rattle.um_refinement.proofs.CallsKnown.{calls-known, own-known}
use Rattle.um_refinement.proofs.CallsProper.{AreProper}
use Rattle.um_refinement.proofs.ChildrenKnown.{AllCreate, children-known}
use Rattle.um_refinement.proofs.DomainsKnown.{started-placed}
use Rattle.um_refinement.proofs.DuesPart.{dues-known}
use Rattle.um_refinement.proofs.Erased.{IsReachable, fine, reach-on, stepped, GoesBy}
use Rattle.um_refinement.proofs.FirstObjects.{opening-image}
use Rattle.um_refinement.proofs.KillsKnown.{aborted-known}
use Rattle.um_refinement.proofs.LawfulSteps.{Suits, lawful-next}
use Rattle.um_refinement.proofs.Leaves.{Lawful}
use Rattle.um_refinement.proofs.MemoryPart.{InDomains}
use Rattle.um_refinement.proofs.NamesKnown.{gives-known, moves-known, names-known}
use Rattle.um_refinement.proofs.Offered.{Shows, shown-offers}
use Rattle.um_refinement.proofs.Parts.{AreKnown, related}
use Rattle.um_refinement.proofs.QueuesKnown.{queues-known}
use Rattle.um_refinement.proofs.Reachable.{IsWide, reachable-sound, reachable-wide}
use Rattle.um_refinement.proofs.ReplyPart.{MovesIn}
use Rattle.um_refinement.proofs.SchedulerSteps.{made-says}
use Rattle.um_refinement.proofs.SuitsKnown.{kept-known, proper-known, rests-known, suits-known, tells-known, waits-known, works-known}
use Rattle.um_refinement.proofs.WaitersFound.{WaitersWait}
use Rattle.um_refinement.proofs.WaitersKnown.{holds-known, untils-known, WaitersHold}
use Rattle.um_order.proofs.BesideFull.{besides-full}
use Rattle.um_order.proofs.CallsKept.{AtMostOne}
use Rattle.um_order.proofs.Follow.{FollowsBy}
use Rattle.um_order.proofs.FullKept.{full-kept}
use Rattle.um_order.proofs.JoinLeast.{join-least}
use Rattle.um_order.proofs.KeptSteps.{Keeps, keeps-next, none-waits}
use Rattle.um_order.proofs.KnownStirs.{stir-goes, stir-who}
use Rattle.um_order.proofs.KnownWaits.{abort-waits, hand-waits, look-waits, word-calm}
use Rattle.um_order.proofs.LastMade.{IsLast}
use Rattle.um_order.proofs.OneStep.{by-leaves}
use Rattle.um_order.proofs.OneKnown.{Known}
use Rattle.um_order.proofs.OneWithin.{at-most-one}
use Rattle.um_order.proofs.Standing.{IsFull, Stands}
use Rattle.um_order.proofs.WaitersStand.{AllStand, stands-after}

-- what the induction along a fine run keeps of the processors, the sites and the point
pub record Holds (image : Image) (ps : ℕ → Processor) (ss : Site → SiteState) (at : Point) : Type 0 where
  pub rel : Rel (fine image 1 ps ss) at.state
  pub reach : IsReachable image 1 at.state
  pub bounds : AreBounded (fine image 1 ps ss)
  pub stands : Stands (ps 0) (scheduler (fine image 1 ps ss)) (joins (fine image 1 ps ss)) (clock (fine image 1 ps ss)).marks at
  pub full : runs (ps 0) ≡ true → IsFull at.state (ps 0).context.thread (ps 0).context.pending
  pub keeps : Keeps (fine image 1 ps ss) (ps 0) at

module _ (image : Image) (described : IsDescribed image) (known : IsKnown (core_of (opening image))) (ps : ℕ → Processor) (ss : Site → SiteState) (at : Point) (e : FineStep) (holds : Holds image ps ss at)
    (by : ByOneOf image 1 (ps (cpu_of e)) e) (taken : SiteMay image (ss (site_of e)) e) where
  abbrev f : Fine
  f = fine image 1 ps ss

  abbrev m : State
  m = at.state

  law : Lawful (fine image 1 ps ss) at.state e
  law = record { rel = holds.rel; sound = reachable-sound image 1 described.few m holds.reach known; by = by; taken = taken }

  orderly : AllCreate at.state
  orderly = children-known image 1 m holds.reach

  kept : AreKept at.state
  kept = kept-known image 1 described known m holds.reach

  lawful : IsLawful at.state.image
  lawful = subst IsLawful (sym holds.rel.image) described.lawful

  suits : Suits (fine image 1 ps ss) at.state
  suits = suits-known image 1 described known m holds.reach f holds.rel

  all : InDomains (fine image 1 ps ss) at.state
  all = λ t l started. started-placed image 1 described m holds.reach t started

  proper : AreProper at.state.image at.state
  proper = proper-known image 1 described known m holds.reach

  -- what is known of the step
  abbrev Knows : Type 0
  Knows = Known (fine image 1 ps ss) at e law refl orderly kept lawful suits all proper holds.bounds

  first : e.cpu ≡ 0
  first = let l = by.named in omega (arith, l)

  keeps-there : Keeps f (ps e.cpu) at
  keeps-there = subst (λ k. Keeps f (ps k) at) (sym first) holds.keeps

  waits-so : WaitersWait m
  waits-so = waits-known image 1 described known m holds.reach

  holds-so : WaitersHold m
  holds-so = holds-known image 1 described known m holds.reach

  works-so : (t : ℕ) (a : Addr) (ask : Ask) (rest : Steps) → Offers m t (Pending.Work a ask) rest → slice_index_or (thread_at m t).checked (T.row_of m a) false ≡ true
  works-so = works-known image 1 described known m holds.reach

  one-within : AtMostOne m
  one-within = at-most-one f m holds.rel refl law.sound.wide.threads

  stand-then : (who : ThreadIx) (rest : Steps) (todo : Todos) (x : ℕ) → Shows f m e.cpu e (Pending.Abort who) rest todo → AllStand (T.after m (ps e.cpu).context.thread x (Pending.Abort who) rest)
  stand-then who rest todo x h =
      stands-after m (ps e.cpu).context.thread x (Pending.Abort who) rest (shown-offers h) tt proper keeps-there.calls waits-so (none-waits m law.sound waits-so holds-so) law.sound.wide.objects
      (λ a ask same. absurd (abort-not a ask same)) keeps-there.stand
    where
      abort-not : (a : Addr) (ask : Ask) → Pending.Abort who ≡ Pending.Work a ask → ⊥
      abort-not a ask same = cc

  knows-so : IsChosen f e → (s2 : State) → GoesBy m e.act s2 → Rel (stepped image 1 ps ss e) s2 → Knows
  knows-so chosen s2 goes related =
      record {
        chosen = chosen;
        full = subst (λ k. runs (ps k) ≡ true → IsFull m (ps k).context.thread (ps k).context.pending) (sym first) holds.full;
        calm_word = λ was site todo list. word-calm f at e law refl waits-so holds-so keeps-there.stand keeps-there.cuts keeps-there.reads s2 related (stayed site todo list) was site todo list;
        look_void = look-waits f at e law refl waits-so holds-so keeps-there.stand keeps-there.cuts;
        stir_goes = stir-goes f m e law proper one-within keeps-there.calls;
        stir_who = stir-who f m e law proper one-within keeps-there.calls;
        abort_idle = λ who rest todo x h later_related none.
            abort-waits f m e who rest todo (T.after m (ps e.cpu).context.thread x (Pending.Abort who) rest) law h later_related (wide-then x who rest todo h).threads (wide-then x who rest todo h).objects (stand-then who rest todo x h) none;
        join_least = λ who timeout rest todo x h. join-least f m e law proper one-within keeps-there.calls keeps-there.inits keeps-there.shut described.lawful waits-so who timeout rest todo h x;
        last_time = λ some. time some keeps-there.last;
        hand_void = hand-waits f at e law refl waits-so holds-so keeps-there.stand keeps-there.cuts keeps-there.ahead;
      }
    where
      stayed : (site : ℕ) (todo : Todos) → (ps e.cpu).todo ≡ Todo.reread site ∷ todo → s2 ≡ m
      stayed site todo list = subst (λ a. GoesBy m a s2) (made-says f m e law (Todo.reread site ∷ todo) list) goes

      time : ((clock f).marks ≡ [] → ⊥) → IsLast image (ps e.cpu) (clock f).marks at → at.last ≡ Some (to_thread (actor_or image (ps e.cpu).actor))
      time some (inl none) = absurd (some none)
      time some (inr last) = last

      wide-then : (x : ℕ) (who : ThreadIx) (rest : Steps) (todo : Todos) → Shows f m e.cpu e (Pending.Abort who) rest todo → IsWide (T.after m (ps e.cpu).context.thread x (Pending.Abort who) rest)
      wide-then x who rest todo h =
          let t = (ps e.cpu).context.thread in
          let s3 = T.after m t x (Pending.Abort who) rest in
          reachable-wide image 1 described.few s3
          (reach-on image 1 m s3 (FineAct.Shown (record { thread = to_thread t; act = T.act_of m t x (Pending.Abort who) }) More.Nothing) holds.reach
          (record { step = Pending.Abort who; rest = rest; row = x; offered = shown-offers h; chosen = tt; says = refl; leaves = refl }))

  pub step-kept : IsChosen f e
      → (to : Point) × FollowsBy at e.act to × Holds image (changed same_cpu cpu_of (p_next image) ps e) (changed same_site site_of (s_next image) ss e) to
  step-kept chosen =
      let sited = subst IsSited (opening-image image) known.reached.sited in
      let rests = rests-known image 1 described known m holds.reach in
      let own = own-known image described.lawful sited in
      let next = lawful-next f m e law suits own all in
      let onwards = reach-on image 1 m next.state e.act holds.reach next.goes in
      let facts : AreKnown f m e law next.state = record {
        tells = tells-known image 1 described known next.state onwards;
        waits = waits-known image 1 described known next.state onwards;
        timed = timed-known image 1 m holds.reach;
        holding = holds-known image 1 described known m holds.reach;
        untils = untils-known image 1 described known next.state onwards;
        aborted = aborted-known image 1 described known next.state onwards;
      } in
      let related-then : Rel (stepped image 1 ps ss e) next.state =
      related f m e law own all suits lawful proper (dues-known image 1 described known m holds.reach) (names-known image 1 described known m holds.reach) (gives-known image 1 described known m holds.reach)
      (subst (λ (i : Image). MovesIn m (length i.domains)) holds.rel.image (moves-known image 1 described known m holds.reach)) (queues-known image 1 described known m holds.reach) next.state next.leaves next.has next.goes
      (rests-known image 1 described known next.state onwards) (dues-known image 1 described known next.state onwards) facts in
      let bounds = bounds-kept f m e law holds.bounds rests described.lawful sited suits all kept next.state next.leaves related-then (kept-known image 1 described known next.state onwards) in
      let tells2 = (suits-known image 1 described known next.state onwards (stepped image 1 ps ss e) related-then).tells in
      let full-there : runs (ps e.cpu) ≡ true → IsFull m (ps e.cpu).context.thread (ps e.cpu).context.pending = subst (λ k. runs (ps k) ≡ true → IsFull m (ps k).context.thread (ps k).context.pending) (sym first) holds.full in
      let stands-there : Stands (ps e.cpu) (scheduler f) (joins f) (clock f).marks at = subst (λ k. Stands (ps k) (scheduler f) (joins f) (clock f).marks at) (sym first) holds.stands in
      let got = by-leaves f at e law refl orderly kept lawful suits all proper holds.bounds (knows-so chosen next.state next.goes related-then) own rests next.state next.leaves next.has related-then tells2 bounds stands-there in
      let now : changed same_cpu cpu_of (p_next image) ps e 0 ≡ p_next image (ps e.cpu) e =
      sym (ap (changed same_cpu cpu_of (p_next image) ps e) first) ∙ ap (λ b. cond b (p_next image (ps e.cpu) e) (ps e.cpu)) (eq-eqb e.cpu e.cpu refl) in (
        got.point,
        got.follows,
        record {
          rel = subst (Rel (stepped image 1 ps ss e)) (sym got.state) related-then;
          reach = subst (IsReachable image 1) (sym got.state) onwards;
          bounds = bounds;
          stands = subst (λ (p : Processor). Stands p (scheduler (stepped image 1 ps ss e)) (joins (stepped image 1 ps ss e)) (clock (stepped image 1 ps ss e)).marks got.point) (sym now) got.stands;
          full = subst (λ (p : Processor). runs p ≡ true → IsFull got.point.state p.context.thread p.context.pending) (sym now)
              (λ on. subst (λ (s : State). IsFull s (p_next image (ps e.cpu) e).context.thread (p_next image (ps e.cpu) e).context.pending) (sym got.state)
              (full-kept f at e law refl kept orderly lawful (calls-known m law.sound rests) own (λ t x q how chosen on. besides-full f at e law full-there t x q how on) full-there next.state next.leaves next.has on));
          keeps = subst (λ (p : Processor). Keeps (stepped image 1 ps ss e) p got.point) (sym now)
              (keeps-next f at e law refl proper waits-so holds-so works-so chosen keeps-there next.state got.point next.leaves next.goes related-then got.follows got.state);
        },
      )
