use Rattle.std.proofs.Common.{ℕ, List, ◌++◌, ap, ◌∙◌}
use Rattle.um_script.specs.Canonical.{canonical}
use Rattle.um_script.specs.Lines.{line_of}
use Rattle.um_script.proofs.LineAgain.{canonical_again}
use Rattle.um_script.proofs.print.print_line.Goals as goal

pub returns-clause-again : goal.returns-clause-again
returns-clause-again c =
    let line = c.args.line.now in
    let text = c.in_ok-put_line.ensures ∙ ap (λ (t : List ℕ). t ++ canonical line) c.new-text.ensures.items in
    ap line_of text ∙ canonical_again line c.requires
