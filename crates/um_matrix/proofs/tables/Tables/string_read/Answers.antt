use Rattle.std.proofs.Common.{◌≡◌, ℕ, ◌+◌, ap, sym, ◌∙◌, arith, rules}
use Rattle.um_machine.specs.Memory.{string_from}
use Rattle.um_matrix.proofs.StringLemmas.{string_next, string_end}
use Rattle.um_matrix.proofs.tables.Tables.string_read.Goals as goal

pub loop-before-init : goal.loop-before-init
loop-before-init c =
    let start : c.args.a + 0 ≡ c.args.a = omega arith in ap (λ (a : ℕ). string_from c.args.self.now c.args.t a 32 0) start

pub loop-before-preserved : goal.loop-before-preserved
loop-before-preserved c =
    sym (string_next c.args.self.now c.args.t c.args.a c.loop-before.before c.loop-before-test.true (sym c.may_read.ensures ∙ c.if-not-may_read.false) (search rules)) ∙ c.loop-before.invariant

pub returns-clause-value : goal.returns-clause-value
returns-clause-value c = sym (string_end c.args.self.now c.args.t c.args.a c.loop-before.before (omega arith)) ∙ c.loop-before.invariant
