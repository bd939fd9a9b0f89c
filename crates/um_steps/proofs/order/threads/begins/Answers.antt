use Rattle.std.proofs.Common.{rules, w8}
use Rattle.std.specs.Int.RustNames.{FitsSigned}
use Rattle.std.proofs.lemmas.Int.{to_z-of_z}
use Rattle.um_steps.proofs.order.threads.begins.Goals as goal

pub returns-in-Create : goal.returns-in-Create
returns-in-Create c = λ t.
    let fits : FitsSigned w8 c.in-Create.priority = search rules in
    rw c.in-Create.is (simp to_z-of_z at (rw (c.value_of-thread.ensures, c.value_of-stack.ensures, c.value_of-size.ensures, c.number_of-script.ensures) at c.create.ensures))
