use Rattle.std.proofs.Common.{◌≡◌, ◌∙◌, Bool, Err, List, Ok, ap, arith, if◌then◌else◌, subst, sym, ℕ}
use Rattle.std.specs.Prelude.{insert}
use Rattle.std.proofs.lemmas.Bool.{lt-ltb}
use Rattle.std.proofs.lemmas.List.Sorted.{searched}
use Rattle.um_matrix.specs.Ahead.{AreAscending, with_deadline}
use Rattle.um_matrix.proofs.ClockLemmas.{placed-among, placed-between}
use Rattle.um_matrix.proofs.clock.put.Goals as goal

pub returns-in-Err-clause-items : goal.returns-in-Err-clause-items
returns-in-Err-clause-items c =
    let d = c.args.deadline in
    let ds = c.args.ahead.now.items in
    let place = c.in-Err.place in
    let looked = c.deref.result.now in
    let up = subst AreAscending (sym c.deref.ensures.value) c.requires.ascend in
    let at = searched looked d (Err place) c.in-Err.ensures.position up in
    let between = subst (λ (es : List ℕ). with_deadline d es ≡ insert es place d) c.deref.ensures.value (placed-between d looked place at.0 at.1 at.2) in
    let lies = lt-ltb c.args.now d (omega (arith, c.if-deadline-now.false)) in
    let inside = c.insert.ensures.succeeds (omega (arith, c.requires.room, c.args.ahead.now.ok.0)) in
    c.insert.ensures.items ∙ ap (λ (b : Bool). if b then insert ds place d else ds) inside ∙ sym between ∙ sym (ap (λ (b : Bool). if b then with_deadline d ds else ds) lies)

pub returns-in_default-clause-items : goal.returns-in_default-clause-items
returns-in_default-clause-items c =
    let d = c.args.deadline in
    let ds = c.args.ahead.now.items in
    let place = c.in_default.field-0 in
    let looked = c.deref.result.now in
    let up = subst AreAscending (sym c.deref.ensures.value) c.requires.ascend in
    let at = searched looked d (Ok place) c.in_default.ensures.position up in
    let among = subst (λ (es : List ℕ). with_deadline d es ≡ es) c.deref.ensures.value (placed-among d looked place up at.0 at.1) in
    let lies = lt-ltb c.args.now d (omega (arith, c.if-deadline-now.false)) in
    sym (ap (λ (b : Bool). if b then with_deadline d ds else ds) lies ∙ among)
