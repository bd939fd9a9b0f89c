use Rattle.std.proofs.Common.{refl}
use Rattle.um_machine.specs.Run.{blank}
use Rattle.um_steps.specs.Given.{IsGiven}
use Rattle.um_boot.proofs.BootLemmas.{state-is}
use Rattle.um_boot.proofs.opening_state.OpeningState.blank.Goals as goal

pub invariant_of-result : goal.invariant_of-result
unfolding IsGiven
invariant_of-result c =
    (c.in_ok-threads.ensures.all, c.in_ok-pairs.ensures.all, c.in_ok-domains.ensures.few, c.in_ok-memory.ensures.all, c.in_ok-stacks.ensures.all, c.in_ok-pools.ensures.few, c.in_ok-rodata.ensures, c.requires)

pub returns : goal.returns
unfolding blank
returns c =
    state-is (blank c.args.image.now) refl c.in_ok-threads.ensures.items refl c.in_ok-pairs.ensures.items c.in_ok-domains.ensures.items c.in_ok-memory.ensures.items c.in_ok-stacks.ensures.items c.in_ok-pools.ensures.items refl refl refl refl
