use Rattle.std.proofs.Common.{◌≡◌, ◌-◌}
use Rattle.um_script.specs.Operands.{more_options, no_options}
use Rattle.um_script.proofs.choices.some_options.Given as goal

abbrev pub invariant-loop : goal.invariant-loop
invariant-loop l = more_options (3 - l.counter) l.set l.rest ≡ more_options 3 no_options l.word
