-- Two objects have no address in common.
use Rattle.std.proofs.Common.{◌≡◌, ◌∙◌, ℕ, ◌+◌, ◌/◌, ◌%◌, ◌<◌, ◌==◌, length, get_or, position, Option, Some, ap, sym, subst, arith}
use Rattle.std.proofs.lemmas.Bool.Decides.{nat_tests}
use Rattle.std.proofs.lemmas.Grind.{common_steps}
use Rattle.um_base.specs.declared.image.ObjectDef.{ObjectDef}
use Rattle.um_base.specs.Places.{dynamic_row, or_else}
use Rattle.um_invariants.proofs.SitedImages.{static_position}
use Rattle.um_steps.specs.Given.{IsGiven}
use Rattle.um_matrix.proofs.places.row_at.Goals as goal

pub returns-in-Some-clause-value : goal.returns-in-Some-clause-value
unfolding IsGiven
returns-in-Some-clause-value c =
    let image = c.args.image.now in
    let object = c.in-Some.object.now in
    let x = (c.args.a + 3221225472) % 4294967296 / 64 in
    let inside : x < length image.objects = grind (arith, nat_tests, common_steps) in
    let at : get_or image.objects x object ≡ object = grind (arith, common_steps) in
    let addr : (get_or image.objects x object).addr.0 ≡ c.args.a = ap (λ (o : ObjectDef). o.addr.0) at ∙ c.if-object-a.true in
    let first : position (λ (o : ObjectDef). o.addr.0 == c.args.a) image.objects ≡ Some x =
    subst (λ (a : ℕ). position (λ (o : ObjectDef). o.addr.0 == a) image.objects ≡ Some x) addr (static_position image c.requires x object inside) in
    sym (ap (λ (row : Option ℕ). or_else row (dynamic_row c.args.a)) first)
