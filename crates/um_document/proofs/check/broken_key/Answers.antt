use Rattle.std.proofs.Common.{◌∙◌, sym, flat_map}
use Rattle.toml.specs.View.{table_view}
use Rattle.um_document.specs.Parts.{key_parts, field_parts, further_fields}
use Rattle.um_document.specs.Shape.{section_fields}
use Rattle.um_document.proofs.FirstLemmas.{before, behind}
use Rattle.um_document.proofs.check.broken_key.Goals as goal

pub returns-then-is_some : goal.returns-then-is_some
unfolding key_parts
returns-then-is_some c =
    let t = table_view c.args.table.now in
    let parts = field_parts c.args.section c.args.entry t in
    sym (before c.args.check (flat_map parts (section_fields c.args.section)) (flat_map parts (further_fields c.args.section t)) c.broken_fields-found.result
    (rw (← c.fields.ensures) c.broken_fields-found.ensures) (sym c.is_some.ensures ∙ c.if-is_some.true))

pub returns : goal.returns
unfolding key_parts
returns c =
    let t = table_view c.args.table.now in
    let parts = field_parts c.args.section c.args.entry t in
    rw (← c.further_fields.ensures) c.broken_fields.ensures
    ∙ sym (behind c.args.check (flat_map parts (section_fields c.args.section)) (flat_map parts (further_fields c.args.section t)) c.broken_fields-found.result
    (rw (← c.fields.ensures) c.broken_fields-found.ensures) (sym c.is_some.ensures ∙ c.if-is_some.false))
