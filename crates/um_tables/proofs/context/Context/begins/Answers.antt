use Rattle.std.proofs.Common.{◌≡◌, ℕ, Bool, List, Option, Some, ap, ◌∙◌}
use Rattle.um_base.specs.declared.image.Image.{Image}
use Rattle.um_base.specs.declared.instr.Instr.{Instr}
use Rattle.um_machine.specs.declared.thread.Thread.{Thread}
use Rattle.um_machine.specs.Order.{steps_of}
use Rattle.um_machine.specs.Table.{at_steps, with_begin}
use Rattle.um_fine.specs.Context.{Context}
use Rattle.um_fine.specs.Continues.{begun, goes_on}
use Rattle.um_tables.specs.Contexts.{IsOwn, own_part}
use Rattle.um_tables.proofs.context.Context.begins.Goals as goal

-- where the machine's thread has begun, so has the own part
own_begun : (image : Image) (t : ℕ) (ended : Bool) (me after : Thread) (claims : List ℕ) (noted : Option ℕ) (instr : Instr) → IsOwn me
    → after ≡ at_steps image (record me { registers = with_begin me.registers instr }) (steps_of image t me instr)
    → own_part t ended after claims noted ≡ begun image (own_part t ended me claims noted) (Some instr)
own_begun image t ended me after claims noted instr own e =
    ap (λ (a : Thread). own_part t ended a claims noted) e
    ∙ ap (λ (a : Thread). goes_on image (record (own_part t ended me claims noted) { registers = with_begin me.registers instr }) (steps_of image t a instr)) own

pub returns : goal.returns
returns c =
    let me = c.self.inside in
    let image = c.args.image.now in
    let instr = c.args.instr.now in
    own_begun image me.thread me.ended me.own c.begin.new.me me.claims.items me.noted instr c.self.invariant.1 c.begin.ensures
    ∙ ap (λ (a : Context). begun image a (Some instr)) c.self.view_is
