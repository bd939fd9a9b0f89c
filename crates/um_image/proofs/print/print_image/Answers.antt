use Rattle.std.proofs.Common.{◌≡◌, List, ℕ, sym, ◌∙◌, subst}
use Rattle.um_canonical.specs.Text.{printed_text}
use Rattle.um_image.specs.Meaning.{Describes}
use Rattle.um_image.proofs.PrintLemmas.{printed_describes, printed_twice}
use Rattle.um_image.proofs.print.print_image.Goals as goal

pub returns-clause-law : goal.returns-clause-law
returns-clause-law c =
    let image = c.args.image.now in
    let same : c.put_image.new.text.items ≡ printed_text image = rw c.new-text.ensures.items at c.in_ok-put_image.ensures in
    λ source h. subst (λ (text : List ℕ). Describes text image) (sym same) (printed_describes source image h)

pub returns-clause-twice : goal.returns-clause-twice
returns-clause-twice c =
    let image = c.args.image.now in
    let same : c.put_image.new.text.items ≡ printed_text image = rw c.new-text.ensures.items at c.in_ok-put_image.ensures in
    λ source again h k. printed_twice source image again h (subst (λ (text : List ℕ). Describes text again) same k) ∙ sym same
