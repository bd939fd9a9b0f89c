-- What a command that reads answers.
use Rattle.std.proofs.Common.{◌≡◌, ℕ, List, false, ap, Option, Some, None}
use Rattle.std.specs.Prelude.{IsTrue}
use Rattle.um_command.specs.declared.command.Command.{Command}
use Rattle.um_app.specs.Inputs.{is_reading}
use Rattle.um_app.specs.Top.{Answers, IsRead}

-- a command that reads doesn't generate, and is one
pub not-generated : (o : Option Command) (command : Command) (number : ℕ) → IsTrue (is_reading command) → o ≡ Some command → o ≡ Some (Command.Gen number) → ⊥
not-generated o command number reading is e = let same : command ≡ Command.Gen number = cc in let no : is_reading command ≡ false = ap is_reading same in cc

pub not-none : (o : Option Command) (command : Command) → o ≡ Some command → o ≡ None → ⊥
not-none o command is e = cc

pub answers-reading : (command : Command) (before now : Option (List ℕ)) (written : List ℕ) → IsTrue (is_reading command) → IsRead command before now written → Answers command before now written
answers-reading (Command.Sim options) before now written reading read = read
answers-reading (Command.Run cpus) before now written reading read = read
answers-reading (Command.Summary options) before now written reading read = read
answers-reading Command.Layout before now written reading read = read
answers-reading Command.Upgrade before now written reading read = read
answers-reading Command.Audit before now written reading read = read
answers-reading (Command.Gen number) before now written reading read = cc

-- words are one command
pub same-command : (o : Option Command) (one other : Command) → o ≡ Some one → o ≡ Some other → one ≡ other
same-command o one other is found = cc
