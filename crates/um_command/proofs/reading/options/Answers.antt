use Rattle.std.proofs.Common.{map, string_bytes, sym, subst}
use Rattle.std.specs.Prelude.{IfSome}
use Rattle.um_command.specs.Words.{IsFew}
use Rattle.um_command.proofs.OptionLemmas.{few_processors}
use Rattle.um_command.proofs.reading.options.Goals as goal

pub returns-clause-processors : goal.returns-clause-processors
returns-clause-processors c = subst (λ o. IfSome o IsFew) (sym c.options_behind.ensures) (few_processors (map string_bytes c.args.words.now))
