use Rattle.std.proofs.Common.{◌≡◌, ℕ, subst}
use Rattle.um_base.specs.declared.image.Image.{Image}
use Rattle.um_fine.specs.Steps.{FineStep}
use Rattle.um_tables.specs.Answers.{CanAskCell}
use Rattle.um_tables.specs.Looks.{KeptIn, looked_in}
use Rattle.um_tables.specs.declared.look.Look.{Look}
use Rattle.um_tables.specs.declared.look.Waiting.{Waiting}
use Rattle.um_board.specs.NextSteps.{IsNext}
use Rattle.um_board.proofs.sites.SeatedSites.look.Goals as goal

-- what may be asked of a cell may be asked of the same one
asks-at : (image : Image) (cpu : ℕ) (may : FineStep → Type 0) (look : Look) (v w : Waiting) → v ≡ w → CanAskCell {K = KeptIn v} may (λ n kept. looked_in image cpu v n kept look)
    → CanAskCell {K = KeptIn w} may (λ n kept. looked_in image cpu w n kept look)
asks-at image cpu may look v w is = subst (λ (x : Waiting). CanAskCell {K = KeptIn x} may (λ n kept. looked_in image cpu x n kept look)) is

pub look_at_object-requires-clause-goes : goal.look_at_object-requires-clause-goes
look_at_object-requires-clause-goes c =
    let view = c.args.self.now.seat.token.me.0 in
    asks-at c.args.here.now.image.now c.args.here.now.cpu (λ (e : FineStep). IsNext c.args.here.now.image.now view.name view.made e) c.args.look.now _ _ c.in-Object.is c.requires.goes

pub look_at_memory-requires-clause-goes : goal.look_at_memory-requires-clause-goes
look_at_memory-requires-clause-goes c =
    let view = c.args.self.now.seat.token.me.0 in
    asks-at c.args.here.now.image.now c.args.here.now.cpu (λ (e : FineStep). IsNext c.args.here.now.image.now view.name view.made e) c.args.look.now _ _ c.in-Memory.is c.requires.goes

pub look_at_joins-requires-clause-goes : goal.look_at_joins-requires-clause-goes
look_at_joins-requires-clause-goes c =
    let view = c.args.self.now.seat.token.me.0 in
    asks-at c.args.here.now.image.now c.args.here.now.cpu (λ (e : FineStep). IsNext c.args.here.now.image.now view.name view.made e) c.args.look.now _ _ c.in-Joins.is c.requires.goes

pub returns-in-Object-clause-said : goal.returns-in-Object-clause-said
returns-in-Object-clause-said c = rw c.in-Object.is c.look_at_object.ensures.said

pub returns-in-Memory-clause-said : goal.returns-in-Memory-clause-said
returns-in-Memory-clause-said c = rw c.in-Memory.is c.look_at_memory.ensures.said

pub returns-in-Joins-clause-said : goal.returns-in-Joins-clause-said
returns-in-Joins-clause-said c = rw c.in-Joins.is c.look_at_joins.ensures.said
