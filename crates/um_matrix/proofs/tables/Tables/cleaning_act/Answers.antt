use Rattle.std.proofs.Common.{ℕ, rules}
use Rattle.um_base.specs.declared.names.ThreadIx.{ThreadIx}
use Rattle.um_machine.specs.declared.pending.Pending.TheVariants as Pending
use Rattle.um_machine.specs.Run.{MayChoose}
use Rattle.um_matrix.proofs.OfferLemmas.{below-next, clean-step}
use Rattle.um_matrix.proofs.tables.Tables.cleaning_act.Goals as goal

pub returns-in-Some-clause-some : goal.returns-in-Some-clause-some
returns-in-Some-clause-some c =
    clean-step c.args.self.now c.args.t c.loop-x.x c.in-Some.step c.says.result (search rules) c.in-Some.ensures.some.1 c.in-Some.ensures.some.0 c.says.ensures

pub loop-x-preserved : goal.loop-x-preserved
loop-x-preserved c = record {
  pairs = below-next (λ (x : ℕ). (who : ThreadIx) → MayChoose c.args.self.now c.args.t x (Pending.CleanPair who) → ⊥) c.loop-x.x c.loop-x.invariant.pairs c.in-None.ensures.pairs;
  objects = below-next (λ (x : ℕ). MayChoose c.args.self.now c.args.t x Pending.Recycle → ⊥) c.loop-x.x c.loop-x.invariant.objects c.in-None.ensures.objects;
}
