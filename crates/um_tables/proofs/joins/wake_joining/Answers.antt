use Rattle.std.proofs.Common.{◌∙◌, List, ap, rules, sym}
use Rattle.std.specs.List.{list_any}
use Rattle.um_base.specs.declared.ask.Waiter.{Waiter}
use Rattle.um_machine.specs.Joins.{joins}
use Rattle.um_tables.proofs.Told.{all_others}
use Rattle.um_tables.proofs.joins.wake_joining.Goals as goal

pub returns-then-not-is_joined-clause-left : goal.returns-then-not-is_joined-clause-left
returns-then-not-is_joined-clause-left c =
    sym (all_others (joins c.args.who.0) c.args.waiters.now
    (sym (ap (λ (ws : List Waiter). list_any (joins c.args.who.0) ws) c.as_slice.ensures.value) ∙ sym c.is_joined.ensures ∙ (search rules)))
