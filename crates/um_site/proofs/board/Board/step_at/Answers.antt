use Rattle.std.proofs.Common.{ℕ, sym, subst}
use Rattle.um_words.specs.Steps.{WordMay}
use Rattle.um_site.proofs.Lawful.{in-place, lawful}
use Rattle.um_site.proofs.board.Board.step_at.Goals as goal

pub site_of-requires : goal.site_of-requires
site_of-requires g c = let a = c.args in in-place a.self.now.table.shared.table_id a.seat.now a.place a.seen c.requires.at

pub step_to-requires-clause-lawful : goal.step_to-requires-clause-lawful
step_to-requires-clause-lawful g c = let a = c.args in
    subst (λ (site : ℕ). WordMay site a.seen g.D.Step.made.act a.next) (sym c.site_of.ensures)
    (lawful a.place a.seen g.D.Step.made.act a.next (in-place a.self.now.table.shared.table_id a.seat.now a.place a.seen c.requires.at) c.requires.leaves)
