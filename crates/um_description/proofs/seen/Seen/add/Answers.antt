use Rattle.std.proofs.Common.{ap, ◌∙◌, ◌++◌}
use Rattle.um_description.proofs.SeenLemmas.{seen_again, seen_added}
use Rattle.um_description.proofs.seen.Seen.add.Goals as goal

pub returns-clause-again : goal.returns-clause-again
returns-clause-again c =
    seen_again c.extend_from_slice.new.self c.args.text.now c.self.inside.texts.keys c.args.self.now c.in_ok-is_new.is_new
    (c.in_ok-extend_from_slice.ensures.items ∙ ap (λ xs. xs ++ c.args.text.now) c.new-copy.ensures.items) c.self.view_is c.in_ok-is_new.ensures.added

pub returns-clause-added : goal.returns-clause-added
returns-clause-added c =
    seen_added c.extend_from_slice.new.self c.args.text.now c.self.inside.texts.keys c.insert.new.self.keys c.args.self.now
    (c.in_ok-extend_from_slice.ensures.items ∙ ap (λ xs. xs ++ c.args.text.now) c.new-copy.ensures.items) c.self.view_is c.in_ok-is_new.ensures.keys
