-- No step of a core's processor may follow where its tables refuse one of that kind that it asks for, or where it has nothing that it could ask for.
use Rattle.std.proofs.Common.{◌≡◌, ℕ, ◌<◌, ◌≤◌, false, List, length, true, ap, arith, subst}
use Rattle.std.specs.Prelude.{IsTrue, nat_le}
use Rattle.um_base.specs.declared.act.Event.{Event}
use Rattle.um_base.specs.declared.image.Image.{Image}
use Rattle.um_invariants.specs.Described.{IsDescribed}
use Rattle.um_words.specs.declared.fine.FineAct.{FineAct}
use Rattle.um_words.specs.declared.fine.Unseen.{Unseen}
use Rattle.um_fine.specs.Asks.{made_by, next_site}
use Rattle.um_fine.specs.FineRun.{IsFineRun}
use Rattle.um_fine.specs.Places.{cleanings}
use Rattle.um_fine.specs.Processor.{Processor}
use Rattle.um_fine.specs.Sites.{SiteState, is_site}
use Rattle.um_fine.specs.Steps.{FineStep}
use Rattle.um_refinement.specs.Room.{CanRun}
use Rattle.um_processor.specs.declared.cleaning.TheConstants.{MOST}
use Rattle.um_processor.specs.Processors.{IsStuck, fits_next, full, has_thread, looks_well, no_event, no_look, no_room, no_site, no_thread, shows_event}
use Rattle.um_processor.specs.Wants.{wants_step}
use Rattle.um_tables.specs.Sited.{IsFull, IsShut, state_at}
use Rattle.um_core.specs.CoreSteps.{HasNone, IsRefused, processor_at}
use Rattle.um_core.specs.CoreSteps as C
use Rattle.um_core.specs.Cores.{Core, Stands}
use Rattle.um_core.specs.Moments.{AreAlike}
use Rattle.um_core.specs.PickedRun.{MayFollow, processor_after, site_after}
use Rattle.um_core.proofs.LogRoom.{full-none}
use Rattle.um_core.proofs.MomentsKnown.{site-there}
use Rattle.um_core.proofs.Refusals as R

module _ (image : Image) (cpus : ℕ) (described : IsDescribed image) (can : CanRun image cpus) (done : List FineStep) (core : Core) (stands : Stands image cpus done core)
    (k : ℕ) (l : k < cpus) where
  abbrev p : Processor
  p = processor_at core k

  pub is-p : p ≡ processor_after image done k
  is-p = stands.processors k l

  -- a step that it asks for is one that it asks for behind the run
  pub asked-made : (e : FineStep) → made_by image p e ≡ e → made_by image (processor_after image done k) e ≡ e
  asked-made e makes = subst (λ (q : Processor). made_by image q e ≡ e) is-p makes

  pub shut-none : (e : FineStep) → IsRefused image core k e → (g : FineStep) → g.cpu ≡ k → AreAlike e g → MayFollow image cpus done g → ⊥
  shut-none e refused g same alike follows =
      let here = subst (λ (s : SiteState). IsShut image s e) stood refused.shut in
      R.busy-none image cpus done k e made (subst (λ (q : Processor). IsTrue (wants_step image q q.todo e)) is-p refused.asks.fit) here.filled_in here.seen here.refuses g same alike follows
    where
      made : made_by image (processor_after image done k) e ≡ e
      made = asked-made e refused.asks.makes

      stood : state_at core.sites e.site ≡ site_after image done e.site
      stood = stands.at e.site (subst (λ i. IsTrue (is_site i)) (ap (λ (x : FineStep). x.site) made) (site-there image cpus described can done stands.run k l e.act))

  -- It has nothing to ask for.

  stuck-none : IsStuck image p → R.NoneFollows image cpus done k
  stuck-none (no_room none) = R.roomless-none image cpus done k (subst (λ (q : Processor). fits_next image q q.todo ≡ false) is-p none)
  stuck-none (no_event none) = R.eventless-none image cpus done k (subst (λ (q : Processor). shows_event q.todo ≡ false) is-p none)
  stuck-none (no_site none) =
      absurd
      (R.no-site image cpus described can done stands.run k l (FineAct.Unseen Unseen.Done)
      (subst (λ (q : Processor). is_site (next_site image q (FineAct.Unseen Unseen.Done)) ≡ false) is-p none))
  stuck-none (no_look none) = absurd (R.no-look image cpus described can done stands.run k l (subst (λ (q : Processor). looks_well q.todo ≡ false) is-p none))
  stuck-none (no_thread none) = absurd (R.no-thread image cpus described can done stands.run k l (subst (λ (q : Processor). has_thread q.todo ≡ false) is-p none))
  stuck-none (full many) =
      absurd (R.not-full image cpus described can done stands.run k l MOST (omega arith) (subst (λ (q : Processor). nat_le MOST (cleanings q.todo) ≡ true) is-p many))

  -- its tables have no room for an event, though for those of the longest fine run
  crowded : ((h : List FineStep) → IsFineRun image cpus h → length h ≤ core.sites.most) → IsFull core.sites → R.NoneFollows image cpus done k
  crowded longest many e same follows =
      full-none image cpus core.sites.most longest done stands.run (subst (λ (events : List Event). core.sites.most ≤ length events) stands.log many) e follows

  pub has-none : ((h : List FineStep) → IsFineRun image cpus h → length h ≤ core.sites.most) → HasNone image core k → R.NoneFollows image cpus done k
  has-none longest (C.stuck why) = stuck-none why
  has-none longest (C.full many) = crowded longest many
