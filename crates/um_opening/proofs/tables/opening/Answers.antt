use Rattle.std.proofs.Common.{◌≡◌, ◌∙◌, ap, subst, sym}
use Rattle.std.specs.Prelude.{IsTrue}
use Rattle.um_base.specs.declared.image.Image.{Image}
use Rattle.um_base.specs.Lawful.{IsLawful}
use Rattle.um_machine.specs.Memory.{rodata_of}
use Rattle.um_machine.specs.State.{State}
use Rattle.um_fine.specs.Opening.{s_start, site_state}
use Rattle.um_fine.specs.Sites.{is_site}
use Rattle.um_fine.specs.Steps.{Site}
use Rattle.um_tables.specs.Sited.{Sited, state_at}
use Rattle.um_opening.specs.Opened.{IsFresh}
use Rattle.um_opening.proofs.Fresh.{opening-fresh, opening-image}
use Rattle.um_opening.proofs.Lists.{ok-more}
use Rattle.um_opening.proofs.tables.opening.Goals as goal

pub tables_of-requires-clause-lawful : goal.tables_of-requires-clause-lawful
tables_of-requires-clause-lawful c =
    subst (λ (s : State). IsLawful s.image) (sym c.in_ok-state.ensures) (subst (λ (i : Image). IsLawful i) (sym (opening-image c.args.image.now)) c.requires.lawful)

pub tables_of-requires-clause-fresh : goal.tables_of-requires-clause-fresh
tables_of-requires-clause-fresh c = subst (λ (s : State). IsFresh s) (sym c.in_ok-state.ensures) (opening-fresh c.args.image.now c.requires.lawful)

pub returns-clause-sites : goal.returns-clause-sites
returns-clause-sites c =
    let state = c.in_ok-state.state in
    ok-more (λ (t : Sited). (i : Site) → IsTrue (is_site i) → state_at t i ≡ site_state state i) (λ (t : Sited). (i : Site) → IsTrue (is_site i) → state_at t i ≡ s_start c.args.image.now i)
    (λ t is i there. is i there ∙ ap (λ (s : State). site_state s i) c.in_ok-state.ensures) c.tables_of.result c.tables_of.ensures.sites

pub returns-clause-image : goal.returns-clause-image
returns-clause-image c =
    ok-more (λ (t : Sited). t.rodata ≡ rodata_of c.in_ok-state.state.image) (λ (t : Sited). t.rodata ≡ rodata_of c.args.image.now)
    (λ t is. is ∙ ap (λ (s : State). rodata_of s.image) c.in_ok-state.ensures ∙ ap rodata_of (opening-image c.args.image.now)) c.tables_of.result c.tables_of.ensures.rodata
