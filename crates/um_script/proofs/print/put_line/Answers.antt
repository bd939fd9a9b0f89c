use Rattle.std.proofs.Common.{ℕ, List, [], ◌++◌, sym, ap, ◌∙◌, append_assoc}
use Rattle.std.proofs.lemmas.Result.{on_ok_weaker}
use Rattle.um_script.specs.Canonical.{mnemonic, with_operands, operands_of}
use Rattle.um_script.specs.Instructions.{spelling}
use Rattle.um_script.proofs.LineAgain.{with_operands-front}
use Rattle.um_script.proofs.print.put_line.Goals as goal

pub returns : goal.returns
returns c =
    let line = c.args.line.now in
    let before = c.args.text.now.items in
    let word = spelling (mnemonic line) in
    let operands = operands_of line in
    let first = c.in_ok-extend_from_slice.ensures.items ∙ ap (λ (t : List ℕ). before ++ t) (c.word.ensures ∙ ap spelling c.mnemonic.ensures) in
    let behind =
    with_operands-front (before ++ word) operands ∙ append_assoc before word (with_operands [] operands)
    ∙ ap (λ (t : List ℕ). before ++ t) (sym (with_operands-front word operands))
    in
    on_ok_weaker c.put_operands.result (λ text. text ∙ ap (λ (t : List ℕ). with_operands t operands) first ∙ behind) c.put_operands.ensures
