use Rattle.std.proofs.Common.{subst, sym}
use Rattle.um_base.specs.declared.ask.Told.{Told}
use Rattle.um_base.specs.declared.names.ThreadIx.{ThreadIx}
use Rattle.um_base.specs.Short.{IsShort}
use Rattle.um_service.proofs.ToldLemmas.{short-at}
use Rattle.um_service.proofs.outcome.Woken.replies.Goals as goal

pub push-requires-clause-short : goal.push-requires-clause-short
push-requires-clause-short c =
    let one = c.index-woken-i.result in
    subst (λ (w : ThreadIx × Told). IsShort w.1.reply) (sym c.index-woken-i.is) (short-at c.as_slice-woken.result.now c.loop-i.i one c.as_slice-woken.ensures.short c.loop-i-test.true)
