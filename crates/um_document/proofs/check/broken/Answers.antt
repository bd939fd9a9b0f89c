use Rattle.std.proofs.Common.{◌≡◌, ◌∙◌, sym, subst, List, flat_map}
use Rattle.toml.specs.View.{table_view}
use Rattle.um_document.specs.declared.shape.Section.{Section}
use Rattle.um_document.specs.First.{first_place}
use Rattle.um_document.specs.Parts.{top_parts, section_parts, entry_sections}
use Rattle.um_document.proofs.FirstLemmas.{before, behind}
use Rattle.um_document.proofs.check.broken.Goals as goal

pub returns-then-is_some : goal.returns-then-is_some
returns-then-is_some c =
    let t = table_view c.args.table.now in
    sym (before c.args.check (top_parts t) (entry_sections t) c.broken_top-found.result c.broken_top-found.ensures (sym c.is_some.ensures ∙ c.if-is_some.true))

pub returns : goal.returns
unfolding entry_sections
returns c =
    let t = table_view c.args.table.now in
    subst (λ (ss : List Section). c.broken_sections.result ≡ first_place c.args.check (flat_map (section_parts t) ss)) c.sections.ensures c.broken_sections.ensures
    ∙ sym (behind c.args.check (top_parts t) (entry_sections t) c.broken_top-found.result c.broken_top-found.ensures (sym c.is_some.ensures ∙ c.if-is_some.false))
