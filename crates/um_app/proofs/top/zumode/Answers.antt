use Rattle.std.proofs.Common.{◌≡◌, ◌∙◌, ap, sym, Some, map}
use Rattle.std.specs.Prelude.{string_bytes}
use Rattle.um_command.specs.declared.command.Command.{Command}
use Rattle.um_command.specs.Words.{command_of}
use Rattle.um_app.proofs.CommandLemmas.{same-command}
use Rattle.um_app.proofs.top.zumode.Goals as goal

pub returns-in-Run-clause-complete : goal.returns-in-Run-clause-complete
returns-in-Run-clause-complete g c =
    let command = Command.Run c.in-Run.cpus in
    let is : command_of (map string_bytes c.args.words.now) ≡ Some command = sym c.read_command.ensures.command ∙ (c.in-Some.is ∙ ap Some c.in-Run.is) in
    λ other found reads. rw (same-command _ other command found is) c.threaded.ensures.complete

pub returns-in-Run-clause-refuses : goal.returns-in-Run-clause-refuses
returns-in-Run-clause-refuses g c =
    let command = Command.Run c.in-Run.cpus in
    let is : command_of (map string_bytes c.args.words.now) ≡ Some command = sym c.read_command.ensures.command ∙ (c.in-Some.is ∙ ap Some c.in-Run.is) in
    λ other found reads. rw (same-command _ other command found is) c.threaded.ensures.refuses

pub returns-in-Run-clause-within : goal.returns-in-Run-clause-within
returns-in-Run-clause-within g c =
    let command = Command.Run c.in-Run.cpus in
    let is : command_of (map string_bytes c.args.words.now) ≡ Some command = sym c.read_command.ensures.command ∙ (c.in-Some.is ∙ ap Some c.in-Run.is) in
    λ other found reads. rw (same-command _ other command found is) c.threaded.ensures.within
