use Rattle.std.proofs.Common.{◌∙◌, sym, ap, refl, length, bytes_eq}
use Rattle.std.specs.Prelude.{find}
use Rattle.um_script.specs.Instructions.{spelling, mnemonics}
use Rattle.um_script.proofs.LengthLemmas.{found_by_length}
use Rattle.um_script.proofs.mnemonic.Mnemonic.of_word.Goals as goal

pub returns : goal.returns
returns c =
    let word = c.args.word.now in
    c.among.ensures
    ∙ sym (found_by_length word (length word) c.of_length.result.now refl)
    ∙ ap (find (λ m. bytes_eq word (spelling m))) c.of_length.ensures
    ∙ found_by_length word (length word) mnemonics refl
