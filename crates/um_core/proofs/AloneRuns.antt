-- A core of one processor goes on, one step after another. Its run is over when the processor halts, and it is then that of every pick.
use Rattle.std.proofs.Common.{◌≡◌, ℕ, ◌+◌, ◌≤◌, List, [], ◌∷◌, ◌++◌, length, Option, length-append, refl, ap, ◌∙◌, subst, arith}
use Rattle.um_base.specs.declared.image.Image.{Image}
use Rattle.um_base.specs.Weight.{weight}
use Rattle.um_invariants.specs.Described.{IsDescribed}
use Rattle.um_fine.specs.Steps.{FineStep}
use Rattle.um_tables.specs.Sited.{Sited, state_at}
use Rattle.um_tables.proofs.Noted.{made-most}
use Rattle.um_refinement.specs.Choice.{AreChosen}
use Rattle.um_refinement.specs.Room.{CanRun}
use Rattle.um_core.specs.CoreSteps.{GoesOn, IsCoreOf, Steps}
use Rattle.um_core.specs.Cores.{Core, Stands}
use Rattle.um_core.specs.Ended.{HasStopped}
use Rattle.um_core.specs.PickedRun.{NoneIsNext}
use Rattle.um_core.proofs.OneWhole.{chosen-more, picked-whole}
use Rattle.um_core.proofs.Refusals.{AreShort, nobody-steps}

-- the steps of the processor so far, which are this many
pub record AloneSoFar (image : Image) (count : ℕ) (core : Core) : Type 0 where
  pub done : List FineStep
  pub counted : length done ≡ count
  pub chosen : AreChosen image 1 done
  pub stands : Stands image 1 done core

pub alone-opens : (image : Image) (core : Core) → Stands image 1 [] core → AloneSoFar image 0 core
alone-opens image core stands = record { done = []; counted = refl; chosen = tt; stands = stands }

module _ (image : Image) (described : IsDescribed image) (can : CanRun image 1) (short : AreShort) (count : ℕ) (core : Core) (so : AloneSoFar image count core)
    (room : weight image ≤ core.sites.most) where
  pub alone-is : IsCoreOf image 1 so.done core
  alone-is = record { described = described; can = can; stands = so.stands; room = room }

  -- the processor halts: the run is over
  pub alone-over : NoneIsNext image 1 so.done 0 → (sites : Sited) → sites ≡ core.sites → (pick : Option ℕ) → HasStopped image 1 pick sites
  alone-over none sites same pick =
      let over = nobody-steps image 1 described can short so.done so.stands.run (λ k l. let first : 0 ≡ k = omega (arith, l) in subst (λ j. NoneIsNext image 1 so.done j) first none) in
      record {
        steps = so.done;
        picked = picked-whole image pick so.done so.stands.run so.chosen over;
        shows = ap (λ (s : Sited). s.log) same ∙ so.stands.log;
        at = λ i there. ap (λ (s : Sited). state_at s i) same ∙ so.stands.at i there;
      }

  -- one more step
  module _ (new : Core) (more : GoesOn image 1 so.done 0 new) where
    long : length (so.done ++ more.made ∷ []) ≡ length so.done + 1
    long = length-append so.done (more.made ∷ [])

    pub alone-short : count + 1 ≤ weight image
    alone-short = let most = short image 1 (so.done ++ more.made ∷ []) described can.few more.stands.run in let more-long = long in let counted = so.counted in omega (arith, most, more-long, counted)

    pub alone-goes : AloneSoFar image (count + 1) new
    alone-goes =
        record {
          done = so.done ++ more.made ∷ [];
          counted = long ∙ ap (λ n. n + 1) so.counted;
          chosen = chosen-more image 1 [] so.done more.made so.chosen more.next.chosen;
          stands = more.stands;
        }

  pub alone-room : (new : Core) → Steps image 0 core new → new.sites.most ≡ core.sites.most
  alone-room new step = made-most image core.sites step.made new.sites step.makes.taken
