use Rattle.um_words.specs.Exchanges.{Exchange}
use Rattle.um_words.specs.declared.fine.FineAct.{FineAct}
use Rattle.um_words.specs.declared.fine.Unseen.{Unseen}
use Rattle.test_board.proofs.cell_tests.a_taken_cell_is_given_back_changed.Given as goal

abbrev pub ghosts-put : goal.ghosts-put
ghosts-put g a = record { made = record { site = a.held.cell; act = FineAct.Unseen Unseen.Wipe; word = a.next; moved = Exchange.nothing } }
