use Rattle.toml.specs.View.{table_view}
use Rattle.um_document.proofs.FormLemmas.{of_text}
use Rattle.um_document.proofs.read.read_document.Goals as goal

pub returns-in-Ok : goal.returns-in-Ok
returns-in-Ok c =
    let h = c.in-Ok.ensures.ok in
    of_text c.read_table.result c.args.text.now (table_view c.in-Ok.table) (record { utf8 = h.0; parsed = h.1 }) c.read_table.ensures
