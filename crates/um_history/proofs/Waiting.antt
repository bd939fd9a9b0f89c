-- A processor whose site refuses the step that it asks for is held up: it has no thread, or it waits.
use Rattle.std.proofs.Common.{◌≡◌, ◌≢◌, ℕ, ◌<◌, ◌≤◌, Bool, true, false, [], ◌∷◌, List, length, refl, sym, ap, ◌∙◌, subst, arith}
use Rattle.std.proofs.lemmas.Bool.{false≢true}
use Rattle.um_base.specs.Weight.{weight}
use Rattle.um_base.specs.declared.image.Image.{Image}
use Rattle.um_base.specs.declared.names.ThreadIx.{ThreadIx}
use Rattle.um_machine.specs.declared.pending.Pending.{Pending}
use Rattle.um_machine.specs.Order.{to_thread}
use Rattle.um_invariants.specs.Described.{IsDescribed}
use Rattle.um_words.specs.declared.fine.FineAct.{FineAct}
use Rattle.um_words.specs.declared.fine.Unseen.{Unseen}
use Rattle.um_fine.specs.Asks.{made_by, says, says_show}
use Rattle.um_fine.specs.FineRun.{ByOneOf, IsFineRun}
use Rattle.um_fine.specs.Places.{Todo, Todos}
use Rattle.um_fine.specs.Processor.{Processor}
use Rattle.um_fine.specs.Steps.{Exchange, FineStep}
use Rattle.um_refinement.specs.After.{left_by}
use Rattle.um_refinement.specs.Room.{CanCount, IsHalted}
use Rattle.um_refinement.specs.Waits.{WaitsFor}
use Rattle.um_core.specs.PickedRun.{processor_after, site_after}
use Rattle.um_core.proofs.Counts.{can-count}
use Rattle.um_core.specs.Moments.{AreAlike}
use Rattle.um_core.specs.PickedRun.{MayFollow}
use Rattle.um_core.proofs.Chosen.{both-alike, listed-untimed}
use Rattle.um_core.proofs.Refusals.{busy-none, may}
use Rattle.um_processor.specs.Wants.{Wants}
use Rattle.um_tables.specs.Sited.{IsShut}
use Rattle.um_history.specs.Fine.{IsHeldUp}

-- what is known of each processor of a fine run that can't step
abbrev pub WaitsAll : Image → Type 0
WaitsAll image = (run : List FineStep) → IsFineRun image 8 run → CanCount (left_by image 8 run) → (k : ℕ) → IsHalted (left_by image 8 run) k → WaitsFor (left_by image 8 run) k

-- One who takes a thread has none.

abbrev is-next : FineAct → Bool
is-next (FineAct.Unseen (Unseen.Next t)) = true
is-next act = false

no-show : (image : Image) (p : Processor) (t : ThreadIx) (q : Pending) → is-next (says_show image p q (FineAct.Unseen (Unseen.Next t))) ≡ false
no-show image p t Pending.Begin = refl
no-show image p t Pending.Exit = refl
no-show image p t q = refl

no-next : (image : Image) (p : Processor) (t : ThreadIx) (moved : Exchange) (q : Todo) (todo : Todos) → is-next (says image p (q ∷ todo) (FineAct.Unseen (Unseen.Next t)) moved) ≡ false
no-next image p t moved (Todo.show q rest) todo = no-show image p t q
no-next image p t moved Todo.hold todo = refl
no-next image p t moved Todo.let_go todo = refl
no-next image p t moved (Todo.read_claim d) todo = refl
no-next image p t moved (Todo.read_done d) todo = refl
no-next image p t moved Todo.region_load todo = refl
no-next image p t moved (Todo.write_claim d) todo = refl
no-next image p t moved (Todo.edit d q) todo = refl
no-next image p t moved (Todo.size_look x) todo = refl
no-next image p t moved (Todo.end_call x) todo = refl
no-next image p t moved (Todo.wake who told) todo = refl
no-next image p t moved (Todo.add c) todo = refl
no-next image p t moved (Todo.pass who x) todo = refl
no-next image p t moved (Todo.drop x) todo = refl
no-next image p t moved (Todo.clean_pair who x) todo = refl
no-next image p t moved (Todo.wipe x) todo = refl
no-next image p t moved (Todo.vacate x) todo = refl
no-next image p t moved (Todo.recycle x) todo = refl
no-next image p t moved Todo.park todo = refl
no-next image p t moved Todo.done todo = refl
no-next image p t moved (Todo.note site) todo = refl
no-next image p t moved Todo.owe todo = refl
no-next image p t moved (Todo.settle deadline mark) todo = refl
no-next image p t moved (Todo.reread site) todo = refl
no-next image p t moved (Todo.look who site before) todo = refl
no-next image p t moved (Todo.tell_cut who) todo = refl
no-next image p t moved (Todo.rouse who) todo = refl
no-next image p t moved Todo.sleep todo = refl
no-next image p t moved Todo.reread_asleep todo = refl
no-next image p t moved (Todo.unshut who) todo = refl
no-next image p t moved Todo.leave todo = refl
no-next image p t moved (Todo.handle deadline mark) todo = refl
no-next image p t moved Todo.paid todo = refl

takes-none : (image : Image) (p : Processor) (t : ThreadIx) (act : FineAct) (moved : Exchange) (todo : Todos) → act ≡ FineAct.Unseen (Unseen.Next t) → says image p todo act moved ≡ act → todo ≡ []
takes-none image p t act moved [] is same = refl
takes-none image p t act moved (q ∷ todo) is same =
    let next : is-next (says image p (q ∷ todo) (FineAct.Unseen (Unseen.Next t)) moved) ≡ true =
    ap (λ (a : FineAct). is-next (says image p (q ∷ todo) a moved)) (sym is) ∙ (ap is-next same ∙ ap is-next is) in
    absurd (false≢true (sym (no-next image p t moved q todo) ∙ next))

module _ (image : Image) (described : IsDescribed image) (all : WaitsAll image) (run : List FineStep) (fine : IsFineRun image 8 run) (few : length run ≤ weight image)
    (k : ℕ) (less : k < 8) (e : FineStep) (asks : Wants k image (processor_after image run k) e) where
  counts : CanCount (left_by image 8 run)
  counts = let light = described.lawful.light in can-count image run (omega (arith, few, light)) 8

  -- all steps of one who has a list are of one kind
  alike : (q : Todo) (todo : Todos) → (processor_after image run k).todo ≡ q ∷ todo → (g : FineStep) → made_by image (processor_after image run k) g ≡ g → AreAlike e g
  alike q todo at g makes =
      let p = processor_after image run k in
      let some : p.todo ≢ [] = λ none. let e : q ∷ todo ≡ [] = sym at ∙ none in cc in
      let mine = listed-untimed image p some e asks.makes in
      let other = listed-untimed image p some g makes in
      both-alike e g false false mine.0 other.0 mine.1 other.1

  pub held-shut : IsShut image (site_after image run e.site) e → IsHeldUp (left_by image 8 run) k
  held-shut shut = by (processor_after image run k).todo refl
    where
      by : (todo : Todos) → (processor_after image run k).todo ≡ todo → IsHeldUp (left_by image 8 run) k
      by [] at = IsHeldUp.idle at
      by (q ∷ todo) at = IsHeldUp.waits
          (all run fine counts k
          (record {
            inside = less;
            stuck = λ g same by-it taken.
                let follows : MayFollow image 8 run g = record { makes = subst (λ (j : ℕ). ByOneOf image 8 (processor_after image run j) g) (sym same) by-it; takes = taken } in
                busy-none image 8 run k e asks.makes asks.fit shut.filled_in shut.seen shut.refuses g same (alike q todo at g (may image 8 run k g same follows).makes) follows;
          }))

  pub held-none : e.act ≡ FineAct.Unseen (Unseen.Next (to_thread 0)) → IsHeldUp (left_by image 8 run) k
  held-none next =
      let p = processor_after image run k in
      IsHeldUp.idle (takes-none image p (to_thread 0) e.act e.moved p.todo next (ap (λ (x : FineStep). x.act) asks.makes))
