use Rattle.std.proofs.Common.{◌≡◌, ◌∙◌, List, ℕ, Option, Some, map, sym}
use Rattle.std.specs.Prelude.{string_bytes}
use Rattle.um_answers.specs.Words.{command_of}
use Rattle.um_answers.specs.declared.command.Command.{Command}
use Rattle.um_answers.proofs.top.explore.Goals as goal

-- words are one command
one_command : (words : List (List ℕ)) (a b : Command) → command_of words ≡ Some a → command_of words ≡ Some b → a ≡ b
one_command words a b one two = let both : Some a ≡ Some b = sym one ∙ two in cc

pub returns-in-Some-clause-complete : goal.returns-in-Some-clause-complete
returns-in-Some-clause-complete g c = λ other found.
    let is : command_of (map string_bytes c.args.words.now) ≡ Some c.in-Some.command = sym c.read_command.ensures.command ∙ c.in-Some.is in
    rw (one_command (map string_bytes c.args.words.now) other c.in-Some.command found is, sym c.event.ensures) c.described.ensures.complete

pub returns-in-Some-clause-within : goal.returns-in-Some-clause-within
returns-in-Some-clause-within g c = λ other found.
    let is : command_of (map string_bytes c.args.words.now) ≡ Some c.in-Some.command = sym c.read_command.ensures.command ∙ c.in-Some.is in
    rw (one_command (map string_bytes c.args.words.now) other c.in-Some.command found is) c.described.ensures.within

pub returns-in-Some-clause-refuses : goal.returns-in-Some-clause-refuses
returns-in-Some-clause-refuses g c = λ other found.
    let is : command_of (map string_bytes c.args.words.now) ≡ Some c.in-Some.command = sym c.read_command.ensures.command ∙ c.in-Some.is in
    rw (one_command (map string_bytes c.args.words.now) other c.in-Some.command found is, sym c.event.ensures) c.described.ensures.refuses
