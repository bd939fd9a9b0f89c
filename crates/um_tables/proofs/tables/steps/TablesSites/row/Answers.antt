use Rattle.std.proofs.Common.{arith, ◌≡◌, ◌∙◌, ap, refl, slice_index_or}
use Rattle.std.proofs.lemmas.List.{get_or_read}
use Rattle.um_fine.proofs.Filled.{filled-twice}
use Rattle.um_fine.specs.Answers.{no_row}
use Rattle.um_fine.specs.Sites.{SiteState}
use Rattle.um_fine.specs.Steps.{Exchange, Site}
use Rattle.um_tables.specs.Asked.{asked, event_of}
use Rattle.um_words.specs.RowActs.{row_act, row_event}
use Rattle.um_tables.specs.RowActs.{row_made}
use Rattle.um_tables.specs.Sited.{logged}
use Rattle.um_tables.proofs.Noted.{row-event, row-seen}
use Rattle.um_tables.proofs.Tabled.{refused, taken}
use Rattle.um_tables.proofs.WordActs.{row-refuses, row-takes}
use Rattle.um_tables.proofs.tables.steps.TablesSites.row.Goals as goal

pub returns-clause-said : goal.returns-clause-said
returns-clause-said c =
    let w = c.index.result.now in
    let here : w ≡ slice_index_or c.self.inside.rows.items c.args.row.0 no_row = get_or_read c.self.inside.rows.items _ _ (omega arith) c.index.ensures no_row in
    let e = row_made c.args.here.now.image.now c.args.here.now.cpu c.args.row.0 w c.args.act.now in
    let t = row-takes c.args.here.now.image.now c.args.here.now.cpu c.args.row.0 w c.args.act.now _ _ c.in-Some.ensures in
    let log = c.self.inside.log.items in
    let event : c.event.result ≡ event_of e.act =
    c.event.ensures ∙ (ap (row_event c.args.act.now) t.1 ∙ row-event c.args.here.now.image.now c.args.here.now.cpu c.args.row.0 w c.args.act.now) in (
      w,
      taken c.args.here.now.image.now _ _ c.self.view_is e (SiteState.row w) (SiteState.row c.in-Some.made.0) (ap SiteState.row here) t.0
          _
          _
          (c.note.ensures.events ∙ ap (logged log) event)
          c.note.ensures.room,
      t.1,
    )

pub returns-in-None-clause-said : goal.returns-in-None-clause-said
returns-in-None-clause-said c =
    let w = c.index.result.now in
    let here : w ≡ slice_index_or c.self.inside.rows.items c.args.row.0 no_row = get_or_read c.self.inside.rows.items _ _ (omega arith) c.index.ensures no_row in
    let e = row_made c.args.here.now.image.now c.args.here.now.cpu c.args.row.0 w c.args.act.now in
    let r = row-refuses c.args.here.now.image.now c.args.here.now.cpu c.args.row.0 w c.args.act.now c.in-None.ensures in
    let fill = filled-twice c.args.here.now.image.now (SiteState.row w) (asked c.args.here.now.cpu (Site.row c.args.row.0) (row_act w c.args.act.now) Exchange.nothing) in
    let seen = row-seen c.args.here.now.image.now c.args.here.now.cpu c.args.row.0 w c.args.act.now in
    (w, refl, refused c.args.here.now.image.now _ _ c.self.view_is e (SiteState.row w) (ap SiteState.row here) r fill seen)
