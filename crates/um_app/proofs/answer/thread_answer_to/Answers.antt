use Rattle.std.proofs.Common.{[], refl}
use Rattle.um_command.specs.declared.command.Command.{Command}
use Rattle.um_app.specs.Inputs.{IsOf}
use Rattle.um_app.proofs.answer.thread_answer_to.Goals as goal

pub thread_text-requires-clause-may : goal.thread_text-requires-clause-may
thread_text-requires-clause-may g c κs within = record { lawful = c.in-Ok.ensures.lawful; some = c.requires.some; few = c.requires.few }

pub returns-in-Ok-thread_text-clause-output : goal.returns-in-Ok-thread_text-clause-output
returns-in-Ok-thread_text-clause-output g c =
    let is_of : IsOf (Command.Run c.args.cpus) c.args.input.now c.in-Ok.image [] = record { short = c.requires.short; described = c.in-Ok.ensures.ok; traced = refl } in
    record { image = c.in-Ok.image; trace = []; is_of = is_of; writes = (c.in-Ok-thread_text.made.closed, c.in-Ok-thread_text.ensures) }

pub returns-in-Ok-thread_text-clause-played : goal.returns-in-Ok-thread_text-clause-played
returns-in-Ok-thread_text-clause-played g c =
    let is_of : IsOf (Command.Run c.args.cpus) c.args.input.now c.in-Ok.image [] = record { short = c.requires.short; described = c.in-Ok.ensures.ok; traced = refl } in
    record { image = c.in-Ok.image; is_of = is_of; text = c.in-Ok-thread_text.ensures }

pub returns-clause-answered : goal.returns-clause-answered
returns-clause-answered g c =
    (c.not_read.ensures.answered (Command.Run c.args.cpus) c.args.input.now [] c.requires.short refl c.in-Err.ensures.refused, c.not_read.ensures.silent)
