use Rattle.std.proofs.Common.{ap, subst, sym}
use Rattle.um_base.specs.declared.image.Image.{Image}
use Rattle.um_site.specs.declared.view.View.{View}
use Rattle.um_board.specs.NextSteps.{NextGoes}
use Rattle.um_board.specs.Noted.{made_of}
use Rattle.um_board.proofs.Keeping.{looked-at}
use Rattle.um_board.proofs.NextRuns.{next-goes}
use Rattle.um_board.proofs.seated.Seated.step.Goals as goal

pub step_to-requires-clause-goes : goal.step_to-requires-clause-goes
step_to-requires-clause-goes g c =
    let v = c.args.self.now.seat.token.me.0 in
    let e = g.D.Fine.step in
    subst (λ (i : Image). NextGoes i v.name v.made (made_of e)) (sym c.requires.image.seated.image_is) (next-goes c.args.here.now.image.now v.name v.made e c.requires.back c.requires.goes)

pub returns-in-Err-clause-changed : goal.returns-in-Err-clause-changed
returns-in-Err-clause-changed g c = λ no. let e = c.in-Err.ensures in looked-at _ _ _ _ _ (e.same.0, e.same.1, e.counts.0, e.counts.1, e.counts.2) e.told.1.2

pub returns-in-Err-clause-moved : goal.returns-in-Err-clause-moved
returns-in-Err-clause-moved g c = λ no. let e = c.in-Err.ensures in (_, e.told.0, ap (λ (v : View). v.got) e.told.1.2)
