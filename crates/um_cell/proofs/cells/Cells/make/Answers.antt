use Rattle.std.proofs.Common.{rules, ◌≡◌, ◌+◌, ◌∷◌, ◌++◌, [], length, sym, ap, ◌∙◌, subst, arith, length-append}
use mathlib.Core.Option.{some}
use lib.ListN.{get_elem?}
use Rattle.atomic_table.proofs.Lists.{at_last, at_longer}
use Rattle.um_site.specs.Cells.{NoSteps, NoneOfThem}
use Rattle.um_cell.proofs.cells.Cells.make.Goals as goal

pub fill-requires-clause-unstepped : goal.fill-requires-clause-unstepped
fill-requires-clause-unstepped g c =
    let v = c.loop-last.invariant.view in
    let left = c.loop-last.invariant.left in
    let items = ap (λ l. length l) left.1 in
    let parts = length-append c.loop-last.contents.items left.0 in
    let len = c.in-Some.ensures.len in
    let at = c.len.ensures in
    let none = c.requires.unstepped (c.args.first + c.len.result) (omega arith) (omega arith) in
    (subst (NoSteps (c.args.first + c.len.result)) (sym v.4) none.0, subst (NoneOfThem (c.args.first + c.len.result)) (sym v.5) none.1)

pub fill-requires-clause-opens : goal.fill-requires-clause-opens
fill-requires-clause-opens g c =
    let v = c.loop-last.invariant.view in
    let left = c.loop-last.invariant.left in
    let now = c.pop.new.self.items in
    let last = c.in-Some.last in
    let all : c.args.contents.items ≡ (now ++ last ∷ []) ++ left.0 = left.1 ∙ ap (λ l. l ++ left.0) c.in-Some.ensures.items in
    let at = c.len.ensures in
    let long : length now ≡ c.len.result = search rules in
    let here : get_elem? c.args.contents.items c.len.result ≡ some last =
    ap (λ l. get_elem? l c.len.result) all ∙ at_longer (now ++ last ∷ []) left.0 c.len.result last (at_last now last c.len.result long) in
    subst (λ im. g.T.Content.opens im (c.args.first + c.len.result) last) (sym v.0) (c.requires.opens c.len.result last here)
