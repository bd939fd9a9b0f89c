use Rattle.std.proofs.Common.{sym, ap, ◌∙◌, bytes_eq}
use Rattle.um_description.proofs.NameLemmas.{named_start, named_here, named_step, named_end}
use Rattle.um_description.proofs.named.number_of.Goals as goal

pub loop-i-init : goal.loop-i-init
loop-i-init g c = λ f gives. named_start f c.args.entries.now c.args.text.now

pub returns-then-is_named-clause-value : goal.returns-then-is_named-clause-value
returns-then-is_named-clause-value g c = λ f gives.
    let is = ap (bytes_eq c.args.text.now) (sym (gives _ _ c.name_of.ensures)) ∙ sym c.is_named.ensures ∙ c.if-is_named.true in
    sym (c.loop-i.invariant f gives ∙ named_here f c.args.entries.now c.args.text.now c.loop-i.i c.index-entries-i.result c.loop-i-test.true c.index-entries-i.is is)

pub loop-i-preserved : goal.loop-i-preserved
loop-i-preserved g c = λ f gives.
    let is = ap (bytes_eq c.args.text.now) (sym (gives _ _ c.name_of.ensures)) ∙ sym c.is_named.ensures ∙ c.if-is_named.false in
    c.loop-i.invariant f gives ∙ named_step f c.args.entries.now c.args.text.now c.loop-i.i c.index-entries-i.result c.loop-i-test.true c.index-entries-i.is is

pub returns-clause-value : goal.returns-clause-value
returns-clause-value g c = λ f gives. sym (c.loop-i.invariant f gives ∙ named_end f c.args.entries.now c.args.text.now c.loop-i.i c.loop-i-test.false)
