-- A cell without steps is cleared by its first one.
use Rattle.std.proofs.Common.{false, refl, arith}
use Rattle.um_words.specs.declared.fine.FineAct.{FineAct}
use Rattle.um_words.specs.declared.fine.Unseen.{Unseen}
use Rattle.um_words.specs.Steps.{WordMay}

pub wipes : WordMay 168 0 (FineAct.Unseen Unseen.Wipe) 68719476736
wipes = record { step = record { left = record { turn = false; ready = 0; running = 0; owed = 0; number = 1 }; may = record { free = refl; room = omega arith; takes = refl; leaves = refl }; is = refl } }
