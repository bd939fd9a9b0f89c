use Rattle.std.proofs.Common.{sym, ap, ◌∙◌}
use Rattle.um_merge.specs.Logs.{Log, events_of}
use Rattle.um_merge.proofs.Told.{told-events}
use Rattle.um_merge.proofs.log.Log.into_events.Goals as goal

pub returns : goal.returns
returns c =
    let v = c.self.inside in
    sym (told-events v.steps.items v.events.items c.self.invariant.0) ∙ ap (λ (l : Log). events_of l.items) c.self.view_is
