-- The thread by which the processor makes the events of time made the last event, unless no deadline was armed yet.
use Rattle.std.specs.Prelude.{if◌then◌else◌}
use Rattle.std.proofs.Common.{◌≡◌, ◌⊎◌, inl, inr, ℕ, Bool, true, false, List, [], ◌∷◌, Option, Some, None, refl, sym, ap, ◌∙◌}
use Rattle.um_base.specs.declared.act.Event.{Event}
use Rattle.um_base.specs.declared.image.Image.{Image}
use Rattle.um_machine.specs.Order.{to_thread}
use Rattle.um_machine.specs.Services.{is_empty}
use Rattle.um_invariants.specs.InOrder.{Follows, Point}
use Rattle.um_words.specs.declared.fine.FineAct.{FineAct}
use Rattle.um_words.specs.declared.fine.Unseen.{Unseen}
use Rattle.um_fine.specs.Answers.{is_word_read, thread_in, domain_in, due_in, mark_in}
use Rattle.um_fine.specs.Asks.{begins_cleaning}
use Rattle.um_fine.specs.Clock.{Clock, Marked, clock_after, settle_first, give_first}
use Rattle.um_fine.specs.Follows.{after_claim, after_show, after_take, goes_on_by, p_next, refilled_by, with_cleaned, with_actor, shown_step}
use Rattle.um_fine.specs.Places.{Todo, Todos, turn, put_away}
use Rattle.um_fine.specs.Processor.{Processor, actor_or}
use Rattle.um_fine.specs.Sites.{same_site}
use Rattle.um_fine.specs.Steps.{Exchange, FineStep, Site}
use Rattle.um_fine.proofs.Keys.{same-sound}
use Rattle.um_refinement.specs.Fine.{Fine, clock}
use Rattle.um_refinement.proofs.ClockSteps.{clock-else, clock-later}
use Rattle.um_refinement.proofs.Erased.{around}
use Rattle.um_refinement.proofs.Leaves.{Lawful}
use Rattle.um_order.proofs.Follow.{FollowsBy}

-- no step on a list changes who made the last event
module _ (image : Image) (p : Processor) (e : FineStep) where
  take-actor : (moved : Exchange) → (after_take image p moved).actor ≡ p.actor
  take-actor (Exchange.thread c None) =
      elim (is_empty c.pending) as (λ b. (if b then record p { context = c; todo = turn image c } else refilled_by image (record p { context = c }) []).actor ≡ p.actor) [ true ↦ refl | false ↦ refl ]
  take-actor (Exchange.thread c (Some told)) = refl
  take-actor (Exchange.mark deadline mark) = refl
  take-actor moved = refl

  goes-actor : (todo : Todos) → (goes_on_by image p e todo).actor ≡ p.actor
  goes-actor [] = take-actor e.moved
  goes-actor (Todo.show q rest ∷ todo) =
      elim (is_word_read e.act) as (λ b. (if b then record p { todo = put_away (thread_in e.word).doomed } else after_show image p e (shown_step image q e.act) rest todo).actor ≡ p.actor) [ true ↦ refl | false ↦ refl ]
  goes-actor (Todo.read_claim None ∷ todo) = refl
  goes-actor (Todo.read_claim (Some d) ∷ todo) = elim (domain_in e.word).init as (λ b. (after_claim p d b 0 todo).actor ≡ p.actor) [ true ↦ refl | false ↦ refl ]
  goes-actor (q ∷ todo) = refl

  cleaned-actor : (p : Processor) (b : Bool) → (with_cleaned image p e b).actor ≡ p.actor
  cleaned-actor p true = refl
  cleaned-actor p false = refl

  next-actor : (p_next image p e).actor ≡ (with_actor image p e.act).actor
  next-actor = by e.act
    where
      kept : (with_cleaned image (goes_on_by image p e p.todo) e (begins_cleaning e)).actor ≡ p.actor
      kept = cleaned-actor (goes_on_by image p e p.todo) (begins_cleaning e) ∙ goes-actor p.todo

      by : (act : FineAct) → (with_actor image (with_cleaned image (goes_on_by image p e p.todo) e (begins_cleaning e)) act).actor ≡ (with_actor image p act).actor
      by (FineAct.Shown v more) = refl
      by (FineAct.Unseen u) = kept

-- each event is the last one of the point to which it leads
last-event : (at : Point) (event : Event) (to : Point) → Follows at event to → to.last ≡ Some event.thread
last-event at event to (inl is) = ap (λ (z : Point). z.last) is.leaves ∙ is.by
last-event at event to (inr (inl is)) = ap (λ (z : Point). z.last) is.leaves ∙ is.by
last-event at event to (inr (inr (inl is))) = is.last
last-event at event to (inr (inr (inr is))) = ap (λ (z : Point). z.last) is.leaves ∙ is.by

abbrev pub IsLast : Image → Processor → List Marked → Point → Type 0
IsLast image p ms at = (ms ≡ []) ⊎ (at.last ≡ Some (to_thread (actor_or image p.actor)))

module _ (f : Fine) (at : Point) (e : FineStep) (law : Lawful f at.state e) (to : Point) (was : IsLast f.image (f.processors e.cpu) (clock f).marks at) where
  open around f e use {later, processor as p, now}

  -- without an event none is armed
  none-armed : (u : Unseen) → e.act ≡ FineAct.Unseen u → (clock f).marks ≡ [] → (clock later).marks ≡ []
  none-armed u said none = by (same_site e.site Site.clock) refl
    where
      stays : (u : Unseen) → (clock_after (clock f) (FineAct.Unseen u) e.moved).marks ≡ []
      stays Unseen.Settle = ap (settle_first (due_in e.moved) (mark_in e.moved)) none
      stays Unseen.Due = ap (give_first (clock f).now) none
      stays u = none

      by : (b : Bool) → same_site e.site Site.clock ≡ b → (clock later).marks ≡ []
      by true h = ap (λ (c : Clock). c.marks) (clock-later f at.state e law (same-sound e.site Site.clock h) (FineAct.Unseen u) said) ∙ stays u
      by false h = ap (λ (c : Clock). c.marks) (clock-else f at.state e law h) ∙ none

  pub last-next : FollowsBy at e.act to → IsLast f.image now (clock later).marks to
  last-next follows = by e.act refl follows
    where
      by : (act : FineAct) → e.act ≡ act → FollowsBy at act to → IsLast f.image now (clock later).marks to
      by (FineAct.Shown event more) said h =
          inr (last-event at event to h ∙ ap (λ (o : Option ℕ). Some (to_thread (actor_or f.image o))) (sym (next-actor f.image p e ∙ ap (λ a. (with_actor f.image p a).actor) said)))
      by (FineAct.Unseen u) said h = which was
        where
          same : now.actor ≡ p.actor
          same = next-actor f.image p e ∙ ap (λ a. (with_actor f.image p a).actor) said

          which : ((clock f).marks ≡ []) ⊎ (at.last ≡ Some (to_thread (actor_or f.image p.actor))) → IsLast f.image now (clock later).marks to
          which (inl none) = inl (none-armed u said none)
          which (inr last) = inr (ap (λ (z : Point). z.last) h ∙ (last ∙ ap (λ (o : Option ℕ). Some (to_thread (actor_or f.image o))) (sym same)))
