use Rattle.std.proofs.Common.{ℕ, ◌+◌, ◌∷◌, Some, ap, drop, sym, ◌∙◌}
use Rattle.um_machine.specs.declared.pending.Pending.{Pending}
use Rattle.um_processor.specs.declared.running.Running.{Running}
use Rattle.um_words.specs.declared.row_act.RowSaid.{RowSaid}
use Rattle.um_processor.specs.Processors.{processor_of}
use Rattle.um_processor.proofs.Runs.{runs-visiting}
use Rattle.um_processor.proofs.Visited.{drop-goes, looked-at, taken-away}
use Rattle.um_processor.proofs.running.Running.drop_permission.Goals as goal

pub returns-then-said : goal.returns-then-said
returns-then-said g c =
    let h = c.in-Made.ensures.said in
    let image = c.args.here.now.image.now in
    let r = c.args.self.now in
    let looked = ap processor_of c.visits.ensures ∙ looked-at image c.args.here.now.cpu r h.0 _ (ap (λ (s : RowSaid). s.visits) (sym h.2) ∙ c.if-said.true) in
    let goes = drop-goes image c.args.here.now.cpu r h.0 _ _ _ _ c.thread-me.ensures.value c.addr_of.ensures (ap (λ (s : RowSaid). s.cleans) h.2) looked in
    record { cleans = record { image = c.in-Made.ensures.image; cleans = tt; same = tt; runs = runs-visiting image _ r _ c.visits.ensures; turn = (_, h.1, goes) } }

pub returns : goal.returns
returns g c =
    let h = c.in-Made.ensures.said in
    let image = c.args.here.now.image.now in
    let r = c.args.self.now in
    let none = ap (λ (s : RowSaid). s.visits) (sym h.2) ∙ c.if-said.false in
    let taken = ap processor_of c.visits-2.ensures ∙ taken-away image c.args.here.now.cpu r _ h.0 _ none
    (c.drops_from.ensures.context ∙ ap (λ (q : Running). record q.context.value { pending = Pending.Drops (r.row + 1) ∷ drop 1 q.context.value.pending }) c.acts.ensures)
    ((λ i. record c.drops_from.new.self { context = (sym c.acts.ensures i).context }) ∙ c.drops_from.ensures.rest ∙ c.acts.ensures
    ∙ ap (λ (t : ℕ). record r { actor = Some t }) c.thread-me.ensures.value) in
    let goes = drop-goes image c.args.here.now.cpu r h.0 _ _ _ _ c.thread-me.ensures.value c.addr_of.ensures (ap (λ (s : RowSaid). s.cleans) h.2) taken in
    record { cleans = record { image = c.in-Made.ensures.image; cleans = tt; same = tt; runs = runs-visiting image _ c.drops_from.new.self _ c.visits-2.ensures; turn = (_, h.1, goes) } }
