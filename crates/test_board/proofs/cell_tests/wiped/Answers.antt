use Rattle.std.proofs.Common.{ℕ, sym, subst}
use Rattle.um_words.specs.declared.fine.FineAct.{FineAct}
use Rattle.um_words.specs.declared.fine.Unseen.{Unseen}
use Rattle.um_words.specs.Steps.{WordMay}
use Rattle.test_board.proofs.Wiped.{wipes}
use Rattle.test_board.proofs.cell_tests.wiped.Goals as goal

pub returns : goal.returns
returns c = subst (λ (w : ℕ). WordMay 168 w (FineAct.Unseen Unseen.Wipe) 68719476736) (sym c.requires) wipes
