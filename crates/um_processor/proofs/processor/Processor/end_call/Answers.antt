use Rattle.std.proofs.Common.{◌≡◌, ◌∷◌, ◌++◌, drop, get_or, refl, ap, sym, ◌∙◌}
use Rattle.std.specs.Prelude.{remove}
use Rattle.um_fine.specs.Places.{Todos}
use Rattle.um_words.specs.declared.row_act.RowSaid.{RowSaid}
use Rattle.um_processor.specs.Cleanings.{block_if}
use Rattle.um_processor.proofs.Wholes.{end-goes, first-removed}
use Rattle.um_processor.proofs.processor.Processor.end_call.Goals as goal

pub returns : goal.returns
returns g c =
    let h = c.in-Made.ensures.said in
    let image = c.args.here.now.image.now in
    let k = c.args.self.now in
    let x = get_or c.as_slice.result.now 0 0 in
    let first : k.ends.items ≡ x ∷ c.remove.new.self.items =
    first-removed k.ends.items 0 c.requires.ends ∙ (λ i. get_or (sym c.as_slice.ensures.value i) 0 0 ∷ sym c.remove.ensures.items i) in
    let new = c.take_in_if.ensures ∙ ap (λ (t : Todos). t ++ block_if image x c.in-Made.said.cleans) c.requires.cleans in
    let goes = end-goes image c.args.here.now.cpu k.running c.requires.runs k.cleans _ k.ends.items _ _ x h.0 _ c.requires.cleans first (ap (λ (s : RowSaid). s.cleans) h.2) new in
    record { turn = (c.in-Made.ensures.image, tt, (_, h.1, goes)) }

pub returns-in-Busy : goal.returns-in-Busy
returns-in-Busy g c =
    let h = c.in-Busy.ensures.said in
    let k = c.args.self.now in
    let x = get_or c.as_slice.result.now 0 0 in
    let first : k.ends.items ≡ x ∷ remove k.ends.items 0 = first-removed k.ends.items 0 c.requires.ends ∙ (λ i. get_or (sym c.as_slice.ensures.value i) 0 0 ∷ remove k.ends.items 0) in
    let goes = end-goes c.args.here.now.image.now c.args.here.now.cpu k.running c.requires.runs k.cleans _ k.ends.items _ (drop k.told k.outcome.woken) x h.0 _ c.requires.cleans first refl refl in
    record { turn = (c.in-Busy.ensures.image, refl, (_, (h.1, h.2), goes.asks)) }
