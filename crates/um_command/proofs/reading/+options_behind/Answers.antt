use Rattle.std.proofs.Common.{rules, arith}
use Rattle.um_command.proofs.OptionLemmas.{reads_first, reads_alone}
use Rattle.um_command.proofs.reading.+options_behind.Goals as goal

pub returns-in_err-with_option-in-len2-up : goal.returns-in_err-with_option-in-len2-up
returns-in_err-with_option-in-len2-up t c =
    search (rules, reads_first c.args.given c.args.words.now c.name-item.result c.word-item.result c.in-len2-up.len_at_least c.name-item.is c.word-item.is)

pub returns-in_default : goal.returns-in_default
returns-in_default t c = reads_alone c.args.given c.args.words.now (omega (arith, c.in_default.len_at_least)) (omega (arith, c.in_default.len_below))

pub returns-in_ok-with_option-in-len2-up : goal.returns-in_ok-with_option-in-len2-up
returns-in_ok-with_option-in-len2-up t c =
    search (rules, reads_first c.args.given c.args.words.now c.name-item.result c.word-item.result c.in-len2-up.len_at_least c.name-item.is c.word-item.is)
