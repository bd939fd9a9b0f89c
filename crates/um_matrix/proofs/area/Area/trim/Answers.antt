use Rattle.std.proofs.Common.{sym, ◌∙◌, arith}
use Rattle.um_matrix.proofs.AreaLemmas.{zeros-before}
use Rattle.um_matrix.proofs.area.Area.trim.Goals as goal

pub loop-used-init : goal.loop-used-init
loop-used-init c = record { within = c.self.invariant.1; zeros = c.self.invariant.2 }

pub index-requires : goal.index-requires
index-requires c =
    let within = c.loop-used.invariant.within in
    let some = c.loop-used-test.true in
    let long = c.self.invariant.0 in omega (arith, within, some, long, c.self.inside.bytes.ok.0)

pub loop-used-preserved : goal.loop-used-preserved
loop-used-preserved c =
    let within = c.loop-used.invariant.within in
    record {
      within = omega (arith, within);
      zeros = zeros-before c.self.inside.bytes.items 524288 c.loop-used.used c.index.result.now c.loop-used-test.true within c.self.invariant.0 (sym c.index.ensures ∙ c.if-index-eq0.true) c.loop-used.invariant.zeros;
    }

pub invariant_of-self : goal.invariant_of-self
invariant_of-self c = (c.self.invariant.0, c.loop-used.invariant.within, c.loop-used.invariant.zeros)
