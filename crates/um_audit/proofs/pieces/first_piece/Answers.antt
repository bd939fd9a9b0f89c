use Rattle.um_audit.proofs.LineLemmas.{piece-found, piece-last}
use Rattle.um_audit.proofs.pieces.first_piece.Goals as goal

pub returns-in-Some-clause-piece : goal.returns-in-Some-clause-piece
returns-in-Some-clause-piece c =
    let found = c.in-Some.ensures in
    let cut = piece-found c.args.text.now c.in-Some.i found.within found.found found.before in
    let front = c.split_at.ensures.front in
    let back = c.split_at.ensures.back in cc

pub returns-in-None-clause-piece : goal.returns-in-None-clause-piece
returns-in-None-clause-piece c = piece-last c.args.text.now c.requires c.in-None.ensures.none
