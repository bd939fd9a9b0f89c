-- A cleaning step is made by the thread of the last event, and changes nothing of the point but its state.
use Rattle.std.proofs.Common.{◌≡◌, inl, ℕ, ◌<◌, true, false, ◌∷◌, ◌++◌, map, Some, refl, sym, ap, ◌∙◌, subst, arith, eq-eqb}
use Rattle.std.specs.Prelude.{not, if◌then◌else◌}
use Rattle.std.specs.List.{list_all, list_any}
use Rattle.std.proofs.lemmas.Bool.{and_parts, true≢false}
use Rattle.um_base.specs.declared.act.Act.{Act}
use Rattle.um_base.specs.declared.image.Image.{Image}
use Rattle.um_base.specs.declared.limits.TheConstants.{ROWS}
use Rattle.um_base.specs.Places.{own_row}
use Rattle.um_machine.specs.declared.pending.Pending.{Pending}
use Rattle.um_machine.specs.Order.{Steps, to_thread}
use Rattle.um_machine.specs.Run.{MayChoose, MayClean, tends}
use Rattle.um_machine.specs.Services.{is_empty}
use Rattle.um_machine.specs.State.{State, thread_at}
use Rattle.um_machine.specs.Table as T
use Rattle.um_invariants.specs.InOrder.{Point}
use Rattle.um_invariants.proofs.ThreadCleans.{pair-base}
use Rattle.um_invariants.proofs.ThreadWords.{AreKept}
use Rattle.um_words.specs.Rows.{has, is_last, left_of}
use Rattle.um_fine.specs.Clock.{Clock}
use Rattle.um_fine.specs.Context.{Context}
use Rattle.um_fine.specs.Addresses.{address_of}
use Rattle.um_fine.specs.Answers.{act_in, leftover_in, row_in}
use Rattle.um_fine.specs.Asks.{by_me, fits, is_dropped}
use Rattle.um_fine.specs.Follows.{goes_on_by}
use Rattle.um_fine.specs.Places.{Todo, Todos}
use Rattle.um_fine.specs.Scheduler.{waits}
use Rattle.um_fine.specs.Sites.{same_site}
use Rattle.um_fine.specs.Steps.{FineStep, Site}
use Rattle.um_refinement.specs.Cleaning.{AreBlocks, Cleans}
use Rattle.um_refinement.specs.Fine.{Fine, clock, row, scheduler}
use Rattle.um_refinement.specs.Frames.{Behind}
use Rattle.um_refinement.specs.Lists.{adders, cleaned_pairs, is_sleep}
use Rattle.um_refinement.specs.Offers.{Fits}
use Rattle.um_refinement.specs.Relation.{ProcessorIs}
use Rattle.um_refinement.proofs.CleanSteps.{Calls, OwnRows, blocks, cleans-may, cleans-own, object-at}
use Rattle.um_refinement.proofs.ClockSteps.{is_timing}
use Rattle.um_refinement.proofs.ContextsPart.{now-context}
use Rattle.um_refinement.proofs.DropSteps.{Held, dropped-has, left-here, left-there}
use Rattle.um_refinement.proofs.Erased.{around}
use Rattle.um_refinement.proofs.Leaves.{Lawful}
use Rattle.um_refinement.proofs.ListAdders.{is_rouse_step, next-adders}
use Rattle.um_refinement.proofs.ListDone.{says_done}
use Rattle.um_refinement.proofs.ListGrowth.{ReadsLast, is_end}
use Rattle.um_refinement.proofs.ListRuns.{goes-on}
use Rattle.um_refinement.proofs.ListWakes.{next-wakers, wakers, woken_by}
use Rattle.um_refinement.proofs.MarksPart.{clock-same}
use Rattle.um_refinement.proofs.Offered.{runs-first}
use Rattle.um_refinement.proofs.RunningPart.{is_scheduling, todo-elsewhere}
use Rattle.um_refinement.proofs.SchedulerSteps.{made-at, sched-else}
use Rattle.um_refinement.proofs.StepReads.{is-behind, is-placed, last-read, reads-last}
use Rattle.um_refinement.proofs.VisitSteps.{Visits, pair-is, visit-act, visit-part, visit-shows, visit-site}
use Rattle.um_order.proofs.ArmingOrder.{Plain}
use Rattle.um_order.proofs.Follow.{FollowsBy}
use Rattle.um_order.proofs.ListCalm.{is_plain, plain-calm, plain-cutters}
use Rattle.um_order.proofs.ListShapes.{next-ends, next-shows}
use Rattle.um_order.proofs.ParkedThreads.{come-alone, or-later}
use Rattle.um_order.proofs.Standing.{Begun, back, comers, cutters, inside_of, is_calm, is_show, woken_of}
use Rattle.um_refinement.proofs.AwayPart.{none-left}

-- where a processor drops a permission of a thread because that thread's object is gone, its own thread may clean the object
pub may-clean : (f : Fine) (m : State) (e : FineStep) (who x : ℕ) (todo : Todos) → Visits f m e.cpu e x (Todo.clean_pair who x) todo → Calls m → OwnRows f.image → Held m x who
    → MayClean m (f.processors e.cpu).context.thread (own_row m.image who)
may-clean f m e who x todo h calls own held =
    let object = object-at h calls own held in
    let may = cleans-may f m h.rel calls e.cpu (own_row f.image who) h.there (subst (λ n. n < ROWS) (sym object.0) object.1) (cleans-own h calls own held) in
    subst (MayClean m (f.processors e.cpu).context.thread) (ap (λ (i : Image). own_row i who) (sym h.rel.image)) may

module _ (f : Fine) (at : Point) (e : FineStep) (law : Lawful f at.state e) (kept : AreKept at.state) (was : Begun (f.processors e.cpu) (scheduler f) (clock f).marks at) where
  open around f e use {later, processor as p, now}

  abbrev m : State
  m = at.state

  abbrev t : ℕ
  t = p.context.thread

  -- what a cleaning step leads to: the same point with another state
  pub record Cleaned (s2 : State) : Type 0 where
    pub follows : FollowsBy at e.act (record at { state = s2 })
    pub begun : Begun now (scheduler later) (clock later).marks (record at { state = s2 })

  begun-after : (s2 : State) (q : Todo) (todo : Todos) → p.todo ≡ q ∷ todo → is_end q ≡ false → is_show q ≡ false → is_plain q ≡ true → is_sleep q ≡ false → is_rouse_step q ≡ false → is_scheduling q ≡ false → is_timing q ≡ false
      → (goes_on_by f.image p e (q ∷ todo)).context ≡ p.context → woken_by e q ++ wakers todo ≡ wakers (q ∷ todo) → cutters todo ≡ cutters (q ∷ todo) → adders todo ≡ adders (q ∷ todo)
      → (thread_at s2 t).told ≡ (thread_at m t).told → (thread_at s2 t).pending ≡ (thread_at m t).pending → Begun now (scheduler later) (clock later).marks (record at { state = s2 })
  begun-after s2 q todo list on none plain sleepless off away timing kept w c a told steps = (
    record {
      runs = (goes-on f.image p e q todo list on frame reads (subst (AreBlocks f.image) list proc.blocks)).0;
      calm = plain-calm f.image p e q todo list plain (and_parts (is_calm q) (list_all is_calm todo) (sym (ap (list_all is_calm) list) ∙ was.0.calm)).1;
      last = was.0.last ∙ ap (λ (c : Context). Some (to_thread c.thread)) (sym same);
      ready = was.0.ready ∙ λ i. (sym sched i).ready ++ (sym coming i ++ back (sym same i));
      inside = was.0.inside ∙ ap inside_of (sym same);
      shows = λ rests.
          let before : is_empty p.context.pending ≡ true = ap (λ (c : Context). is_empty c.pending) (sym same) ∙ rests in
          next-shows f.image p e q todo list (ap (λ (c : Context). c.pending) kept ∙ none-left p.context.pending before) frame
          (or-later (is_show q) (list_any is_show todo) (sym (ap (list_any is_show) list) ∙ was.0.shows before));
      ends = λ done.
          ap (λ (c : Context). c.ended) (same ∙ sym kept)
          ∙ next-ends f.image p e q todo list (subst (Fits f.image p.context) list proc.list.fits) (λ h. absurd (true≢false (sym h ∙ none))) sleepless (λ h. was.0.ends (ap says_done list ∙ h)) done;
      told = λ h. ap (λ (c : Context). (thread_at s2 c.thread).told) same ∙ (told ∙ was.0.told (ap (λ (c : Context). waits c.pending) (sym same) ∙ h));
      whole = λ h. ap (λ (c : Context). waits (thread_at s2 c.thread).pending) same ∙ (ap waits steps ∙ was.0.whole (ap (λ (c : Context). waits c.pending) (sym same) ∙ h));
      alone = come-alone now.todo p.todo (woken ∙ ap wakers (sym list)) (cut ∙ ap cutters (sym list)) (added ∙ ap adders (sym list)) was.0.alone;
      armings = subst (λ (c : Clock). Plain c.marks at.armings) (sym (clock-same f m e law q todo list timing)) was.0.armings;
    },
    was.1,
  )
    where
      same : now.context ≡ p.context
      same = now-context f m e law (q ∷ todo) list ∙ kept

      proc : ProcessorIs f m e.cpu
      proc = law.rel.processors e.cpu law.by.named

      frame : Behind f.image q todo
      frame = (is-behind f m e law).frame q todo list

      reads : ReadsLast e q todo
      reads = reads-last f m e law q todo list

      sched : scheduler later ≡ scheduler f
      sched = sched-else f m e law (ap (λ i. same_site i Site.scheduler) (made-at f m e law (q ∷ todo) list) ∙ todo-elsewhere f.image p q todo away (is-placed f m e law q todo list))

      woken : wakers now.todo ≡ wakers (q ∷ todo)
      woken = next-wakers f.image p e q todo list frame (last-read f m e law q todo list) ∙ w

      cut : cutters now.todo ≡ cutters (q ∷ todo)
      cut = plain-cutters f.image p e q todo list plain ∙ c

      added : adders now.todo ≡ adders (q ∷ todo)
      added = next-adders f.image p e q todo list off frame reads ∙ a

      coming : comers now.todo ≡ comers p.todo
      coming = (λ i. woken_of (woken i) ++ (cut i ++ map (λ (d : Context). d.thread) (added i))) ∙ sym (ap comers list)

  -- a permission of a thread whose object is gone is dropped: the one with the least row
  module _ (who x : ℕ) (rest : Steps) (todo : Todos) (h : Visits f m e.cpu e x (Todo.clean_pair who x) todo) (calls : Calls m) (own : OwnRows f.image) (held : Held m x who) where
    said : e.act ≡ by_me f.image p (Act.DropPair (to_thread who) (address_of f.image x) (leftover_in (act_in e.act)))
    said = visit-shows h (Act.DropPair (to_thread who) (address_of f.image x) (leftover_in (act_in e.act))) (visit-act h)

    left-is : left_of (row f x) who ≡ leftover_in (act_in e.act)
    left-is = left-there h who (visit-site h) said

    found : is_dropped (leftover_in (act_in e.act)) ≡ true
    found =
        sym (ap (λ b. if b then not (has (row_in e.word) who) else is_dropped (leftover_in (act_in e.act))) h.shown)
        ∙ (and_parts _ _ (subst (λ (l : Todos). fits f.image p l e ≡ true) h.at h.may.fit)).0

    there : has (row f x) who ≡ true
    there = dropped-has (has (row f x) who) (is_last (row f x) who) (ap is_dropped left-is ∙ found)

    none-below : (z : ℕ) → z < x → MayChoose m t z (Pending.CleanPair (to_thread who)) → ⊥
    none-below z less chosen =
        let here : cleaned_pairs who p.todo ≡ x = ap (cleaned_pairs who) h.at ∙ ap (λ b. if b then x else cleaned_pairs who todo) (eq-eqb who who refl) in
        let own-block = (blocks h calls own held).0 in
        let object = object-at h calls own held in
        let cleans : Cleans f e.cpu own-block.0 = subst (Cleans f e.cpu) object.0 (cleans-own h calls own held) in
        let gone = ((law.rel.processors e.cpu law.by.named).cleaning own-block.0 object.1).emptied who own-block.1 cleans z (omega (arith, less, here)) in
        true≢false (sym chosen.1 ∙ gone)

    pub pair-follows : Cleaned (T.after m t x (Pending.CleanPair (to_thread who)) rest)
    pair-follows =
        let s2 = T.after m t x (Pending.CleanPair (to_thread who)) rest in
        record {
          follows = subst (λ a. FollowsBy at a (record at { state = s2 })) (sym said)
              (inl (record {
                by = was.0.last;
                made =
                    record {
                      made =
                          record {
                            step = Pending.CleanPair (to_thread who);
                            rest = (thread_at m t).pending;
                            row = x;
                            offered = tends refl (visit-part h (λ hand. hand)).started;
                            chosen = (may-clean f m e who x todo h calls own held, sym (pair-is f m h.rel x who h.few) ∙ there);
                            says = λ i. Act.DropPair (to_thread who) (address_of (sym h.rel.image i) x) ((sym left-is ∙ left-here f m h.rel x who h.few held) i);
                            leaves = refl;
                          };
                      cleans = refl;
                      least = none-below;
                    };
                leaves = refl;
              }));
          begun = begun-after s2 (Todo.clean_pair who x) todo h.at refl refl refl refl refl refl refl refl refl refl refl
              ((pair-base m t x (to_thread who) rest kept).alike t).told ((pair-base m t x (to_thread who) rest kept).alike t).pending;
        }

  -- an object is recycled
  pub recycle-follows : (x : ℕ) (rest : Steps) (todo : Todos) → p.todo ≡ Todo.recycle x ∷ todo → e.act ≡ by_me f.image p (Act.Recycle (address_of f.image x)) → MayChoose m t x Pending.Recycle
      → Cleaned (T.after m t x Pending.Recycle rest)
  recycle-follows x rest todo list said chosen =
      let s2 = T.after m t x Pending.Recycle rest in
      record {
        follows = subst (λ a. FollowsBy at a (record at { state = s2 })) (sym said)
            (inl (record {
              by = was.0.last;
              made =
                  record {
                    made =
                        record {
                          step = Pending.Recycle;
                          rest = (thread_at m t).pending;
                          row = x;
                          offered = tends refl (law.rel.contexts.running e.cpu law.by.named (runs-first law.rel law.by.named (Todo.recycle x) todo list (λ hand. hand))).started;
                          chosen = chosen;
                          says = ap (λ (i : Image). Act.Recycle (address_of i x)) (sym law.rel.image);
                          leaves = refl;
                        };
                    cleans = refl;
                    least = tt;
                  };
              leaves = refl;
            }));
        begun = begun-after s2 (Todo.recycle x) todo list refl refl refl refl refl refl refl refl refl refl refl refl refl;
      }
