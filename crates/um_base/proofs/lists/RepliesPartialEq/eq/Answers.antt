-- Both tests hold exactly of the same replies.
use Rattle.std.proofs.lemmas.Bool.Decides.{same_from_decides}
use Rattle.std.specs.Cmp.Lexicographic.{pointwise_decides}
use Rattle.um_base.specs.Exact.{exact-decides}
use Rattle.um_base.specs.Equality.{exact-told}
use Rattle.um_base.proofs.lists.RepliesPartialEq.eq.Goals as goal

pub returns : goal.returns
returns c = same_from_decides _ _ c.same_replies.ensures (pointwise_decides (exact-decides exact-told) _ _)
