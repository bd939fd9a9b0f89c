-- What a command writes, and which status stands for it.
use Rattle.std.proofs.Common.{◌≡◌, ℕ, List, true, refl, ap, ◌∙◌}
use Rattle.um_base.specs.declared.image.Image.{Image}
use Rattle.um_question.specs.declared.question.Question.{Question}
use Rattle.um_answers.specs.Messages.{is_answered}
use Rattle.um_answers.specs.Top.{Finds, IsOutput, TellsEnds, Writes}
use Rattle.um_answers.specs.declared.command.Command.{Command}
use Rattle.um_answers.specs.declared.status.Status.{Status}

finds-answered : (image : Image) (question : Question) (status : Status) (written : List ℕ) → Finds image question status written → is_answered status ≡ true
finds-answered image question Status.Done written finds = refl
finds-answered image question Status.Never written finds = refl
finds-answered image question Status.Unknown written finds = refl
finds-answered image question Status.Usage written finds = absurd finds
finds-answered image question Status.Refused written finds = absurd finds
finds-answered image question Status.ReadFault written finds = absurd finds
finds-answered image question Status.WriteFault written finds = absurd finds
finds-answered image question Status.NoMemory written finds = absurd finds
finds-answered image question Status.TooLong written finds = absurd finds

ends-answered : (image : Image) (status : Status) (written : List ℕ) → TellsEnds image status written → is_answered status ≡ true
ends-answered image Status.Done written tells = refl
ends-answered image Status.Unknown written tells = refl
ends-answered image Status.Never written tells = absurd tells
ends-answered image Status.Usage written tells = absurd tells
ends-answered image Status.Refused written tells = absurd tells
ends-answered image Status.ReadFault written tells = absurd tells
ends-answered image Status.WriteFault written tells = absurd tells
ends-answered image Status.NoMemory written tells = absurd tells
ends-answered image Status.TooLong written tells = absurd tells

writes-answered : (command : Command) (event : List ℕ) (image : Image) (trace : List ℕ) (status : Status) (written : List ℕ) → Writes command event image trace status written → is_answered status ≡ true
writes-answered (Command.Find states) event image trace status written writes = finds-answered image writes.0 status written writes.2
writes-answered (Command.Ends states) event image trace status written writes = ends-answered image status written writes
writes-answered Command.Next event image trace status written writes = ap is_answered writes.done

-- a status that stands for what a command writes is that of an answer
pub output-answered : (command : Command) (event input : List ℕ) (status : Status) (written : List ℕ) → IsOutput command event input status written → is_answered status ≡ true
output-answered command event input status written output = writes-answered command event output.image output.trace status written output.writes
