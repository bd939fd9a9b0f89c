use Rattle.std.proofs.Common.{◌++◌, Bool, ap, sym, ◌∙◌}
use Rattle.std.proofs.lemmas.List.{append-nil}
use Rattle.um_processor.specs.Cleanings.{block_if}
use Rattle.um_processor.proofs.cleaning.Cleaning.take_in_if.Goals as goal

pub returns-then-cleans : goal.returns-then-cleans
returns-then-cleans c = c.take_in.ensures ∙ ap (λ (b : Bool). c.args.self.now ++ block_if c.args.image.now c.args.row b) (sym c.if-cleans.true)

pub returns-else-cleans : goal.returns-else-cleans
returns-else-cleans c = sym (append-nil c.args.self.now) ∙ ap (λ (b : Bool). c.args.self.now ++ block_if c.args.image.now c.args.row b) (sym c.if-cleans.false)
