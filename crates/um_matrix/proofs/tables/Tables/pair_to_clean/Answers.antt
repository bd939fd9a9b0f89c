use Rattle.std.proofs.Common.{◌≡◌, inl, inr, ap, ◌∙◌, arith, length, slice_index_or, [], List, Bool}
use Rattle.um_matrix.proofs.OfferLemmas.{le-or-lt, nobody-more}
use Rattle.um_matrix.proofs.tables.Tables.pair_to_clean.Goals as goal

pub returns-clause-none : goal.returns-clause-none
returns-clause-none c = λ who may.
    let holders : c.holders_of-who-end.result.now ≡ slice_index_or c.args.self.now.pairs c.args.x [] =
    c.holders_of-who-end.ensures.value ∙ ap (λ (pairs : List (List Bool)). slice_index_or pairs c.args.x []) c.pairs-pairs.ensures.value in
    elim (le-or-lt who.0 c.loop-who.who) [
      | inl within ↦ c.loop-who.invariant who.0 within may
      | inr past ↦ nobody-more c.args.self.now c.args.t c.args.x who (omega (arith, c.loop-who-test.false, ap (λ (flags : List Bool). length flags) holders)) may
    ]
