use Rattle.std.proofs.Common.{ℕ, ◌+◌, List, ◌∷◌, take, ap, sym, ◌∙◌}
use Rattle.um_audit.specs.Lines.{pieces}
use Rattle.um_audit.proofs.LineLemmas.{line-cut, line-none, piece-found, piece-last}
use Rattle.um_audit.proofs.pieces.first_line.Goals as goal

pub returns-in-Some-clause-line : goal.returns-in-Some-clause-line
returns-in-Some-clause-line c =
    let found = c.in-Some.ensures in
    record {
      piece = take (c.in-Some.i + 1) c.args.text.now;
      first = piece-found c.args.text.now c.in-Some.i found.within found.found found.before ∙ ap (λ (behind : List ℕ). take (c.in-Some.i + 1) c.args.text.now ∷ pieces behind) (sym c.split_at.ensures.back);
      is = line-cut c.args.text.now c.in-Some.i found.within found.found found.before;
    }

pub returns-in-None-clause-line : goal.returns-in-None-clause-line
returns-in-None-clause-line c =
    record {
      piece = c.args.text.now;
      first = piece-last c.args.text.now c.requires c.in-None.ensures.none;
      is = line-none c.args.text.now c.in-None.ensures.none;
    }
