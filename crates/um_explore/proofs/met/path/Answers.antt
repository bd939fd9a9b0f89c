use Rattle.std.proofs.Common.{◌≡◌, ◌∙◌, ◌-◌, ◌++◌, ◌∷◌, [], ap, append_assoc, arith, List, reverse, Some, slice_get, subst, sym}
use Rattle.std.proofs.lemmas.Option.{slice_get-get_or}
use Rattle.um_base.specs.declared.act.Event.{Event}
use Rattle.um_explore.specs.Met.{PathTo}
use Rattle.um_explore.proofs.MetLemmas.{path-more, path-opens, reverse-push}
use Rattle.um_explore.proofs.met.path.Goals as goal

pub loop-at-preserved : goal.loop-at-preserved
loop-at-preserved c =
    let links = c.args.links.now in
    let n = c.loop-at.at - 1 in
    let link = c.index-links-at.result in
    let within = c.loop-at.invariant.within in
    let some = c.loop-at-test.true in
    let at : slice_get links n ≡ Some link = slice_get-get_or links n link (omega (arith, within, some)) ∙ ap Some (sym c.index-links-at.is) in
    let up = c.requires.tree n link at in
    record {
      within = omega (arith, within, some, up);
      path = λ before path.
          subst (λ (es : List Event). PathTo links c.args.k es)
          (append_assoc before (link.event ∷ []) (reverse c.loop-at.events.items) ∙ ap (λ (es : List Event). before ++ es) (sym (reverse-push c.loop-at.events.items link.event) ∙ ap (λ (es : List Event). reverse es) (sym c.in_ok-push.ensures.items)))
          (c.loop-at.invariant.path (before ++ link.event ∷ []) (path-more links c.loop-at.at n link before (omega (arith, some)) at up path));
    }

pub returns : goal.returns
returns c = rw c.reverse.ensures.items (c.loop-at.invariant.path [] (path-opens c.args.links.now c.loop-at.at c.loop-at-test.false))
