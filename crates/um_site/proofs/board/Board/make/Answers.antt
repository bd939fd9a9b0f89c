use Rattle.std.proofs.Common.{◌≡◌, ◌∷◌, [], sym, ap, ◌∙◌, subst, List, ℕ, ◌%◌, ◌<◌, ◌≤◌, None, length, get_or, map}
use Rattle.std.specs.Prelude.{replicate}
use mathlib.Core.Option.{some}
use Rattle.um_words.specs.Steps.{number}
use Rattle.um_site.proofs.Moves.{opens_rule}
use Rattle.um_site.specs.History.{opening_view}
use Rattle.um_site.specs.Cells.{Rule}
use Rattle.um_site.proofs.board.Board.make.Goals as goal

pub vacant-requires : goal.vacant-requires
vacant-requires g c = let image = c.of.result.value in let opening = c.of-2.result.value.items in let goes = g.L.Local.goes in
    let is = ap (λ v. v.items) (sym c.of-2.ensures) in
    let same : opening ≡ c.as_slice.result.now = ap (λ v. v.items) c.of-2.ensures ∙ sym c.as_slice.ensures.value in
    subst (λ (l : List ℕ). Rule g.T.Content.opens g.T.Content.follows (goes image) image opening l (map some (replicate c.args.slots None)) (opening_view image opening ∷ [])) same
    (opens_rule g.T.Content.opens g.T.Content.follows goes image opening c.args.slots
    (subst (λ (l : List ℕ). (i : ℕ) → i < length l → number i (get_or l i 0) ≡ 0) is c.requires.unstepped)
    (subst (λ (l : List ℕ). (i : ℕ) → 168 ≤ i → i < length l → get_or l i 0 % 2 ≡ 0) is c.requires.turns))
