use Rattle.std.proofs.Common.{◌≡◌, ◌<◌, ◌+◌, ℕ, arith, [], ◌∷◌, ◌++◌, ap, sym, refl, ◌∙◌, subst}
use Rattle.um_base.specs.declared.image.Image.{Image}
use Rattle.um_words.specs.Packed.{packed_cell}
use Rattle.um_words.specs.declared.cell_word.CellWord.{CellWord}
use Rattle.um_fine.specs.Cells.{Cell, cell_word, quiet_word}
use Rattle.um_fine.specs.Sites.{SiteState}
use Rattle.um_merge.specs.declared.logged.Logged.{Logged}
use Rattle.um_tables.specs.Asked.{Takes}
use Rattle.um_board.specs.Contents.{Known, known}
use Rattle.um_board.specs.NextSteps.{NextGoes}
use Rattle.um_board.specs.Noted.{made_of}
use Rattle.um_board.proofs.CellSteps.{cell-lawful, cell-left, cell-reads-back, follows, owed-fits, put-number}
use Rattle.um_board.proofs.Keeping.{logged-is, put-turn}
use Rattle.um_board.proofs.NextRuns.{next-goes}
use Rattle.um_board.proofs.seated.Seated.leave_cell.Goals as goal

-- what contents count, the cell counts that they keep
counts-of : (c : Known) (image : Image) (kept cell : Cell) (ready running owed : ℕ) → c ≡ known image kept → kept ≡ cell → ((n : ℕ) → cell_word c.cell n ≡ quiet_word ready running owed n)
    → (n : ℕ) → cell_word cell n ≡ quiet_word ready running owed n
counts-of c image kept cell ready running owed is keeps counts n =
    ap (λ (x : Cell). cell_word x n) (sym (ap (λ (k : Known). k.cell) is ∙ keeps)) ∙ counts n

pub pack-next-requires : goal.pack-next-requires
pack-next-requires g c =
    let n = c.args.turn.number in
    let t = c.requires.turn in
    let counts = counts-of _ _ _ _ _ _ _ c.new-contents.ensures c.into_kept.ensures.cell c.counts-ready.ensures (n + 1) in
    let fits = owed-fits c.args.here.now.image.now c.args.turn.word n _ _ g.D.Fine.step t.says c.requires.takes in
    let room = t.room in
    record { owed = subst (λ (w : CellWord). w.owed < 524288) counts fits; number = omega (arith, room) }

pub put-number-requires-clause-step : goal.put-number-requires-clause-step
put-number-requires-clause-step g c =
    let n = c.args.turn.number in
    let e = g.D.Fine.step in
    let counts = counts-of _ _ _ _ _ _ _ c.new-contents.ensures c.into_kept.ensures.cell c.counts-ready.ensures (n + 1) in
    let left = cell-left c.args.here.now.image.now n c.pack-next.result _ _ _ e c.requires.takes counts c.pack-next.ensures.value in
    λ i. record { site = c.requires.site i; act = e.act; word = left i; moved = e.moved }

pub put-number-requires-clause-held : goal.put-number-requires-clause-held
put-number-requires-clause-held g c =
    let image = c.args.here.now.image.now in
    let n = c.args.turn.number in
    let before = g.K.Kind.cell c.args.turn.before.value in
    let of = c.new-contents.ensures in
    let takes = subst (λ (x : Cell). Takes image (SiteState.cell n before) g.D.Fine.step (SiteState.cell (n + 1) x)) (sym (ap (λ (k : Known). k.cell) of ∙ c.into_kept.ensures.cell)) c.requires.takes in
    (known image before, c.requires.turn.turn, follows image n (known image before) c.new-contents.result g.D.Fine.step refl (ap (λ (k : Known). k.image) of) takes)

pub put-number-requires-clause-lawful : goal.put-number-requires-clause-lawful
put-number-requires-clause-lawful g c =
    let t = c.requires.turn in
    let n = c.args.turn.number in
    let counts = counts-of _ _ _ _ _ _ _ c.new-contents.ensures c.into_kept.ensures.cell c.counts-ready.ensures (n + 1) in
    cell-lawful c.args.here.now.image.now c.args.site c.args.turn.word n _ _ g.D.Fine.step t.low t.kind t.says c.requires.takes _ (c.pack-next.ensures.value ∙ ap packed_cell (sym counts))

pub put-number-requires-clause-goes : goal.put-number-requires-clause-goes
put-number-requires-clause-goes g c =
    let t = c.requires.turn in
    let v = c.args.self.now.seat.token.me.0 in
    let n = c.args.turn.number in
    let e = g.D.Fine.step in
    let counts = counts-of _ _ _ _ _ _ _ c.new-contents.ensures c.into_kept.ensures.cell c.counts-ready.ensures (n + 1) in
    let back = cell-reads-back c.args.here.now.image.now c.args.site n _ _ _ _ e c.requires.takes counts c.requires.there t.low c.requires.site c.pack-next.ensures.value c.pack-next.ensures.back in
    subst (λ (i : Image). NextGoes i v.name v.made (made_of e)) (sym t.image_is) (next-goes c.args.here.now.image.now v.name v.made e back c.requires.goes)

pub returns-clause-made : goal.returns-clause-made
returns-clause-made g c =
    let t = c.requires.turn in
    let n = c.args.turn.number in
    let e = g.D.Fine.step in
    let next = c.pack-next.ensures in
    let told = c.put-number.ensures.told in
    let counts = counts-of _ _ _ _ _ _ _ c.new-contents.ensures c.into_kept.ensures.cell c.counts-ready.ensures (n + 1) in
    let numbered = put-number c.args.here.now.image.now c.args.site n _ _ e _ _ _ _ _ _ t.low t.kind c.requires.takes c.requires.site next.value next.back counts told.numbered in
    let back = cell-reads-back c.args.here.now.image.now c.args.site n _ _ _ _ e c.requires.takes counts c.requires.there t.low c.requires.site next.value next.back in
    put-turn _ _ e _ _ c.put-number.ensures.same told.now
    (c.note.ensures.noted ∙ ap (λ (l : Logged). c.args.self.now.log.items ++ l ∷ []) (logged-is e _ _ _ _ c.requires.cpu c.requires.site numbered c.requires.event))
    back
