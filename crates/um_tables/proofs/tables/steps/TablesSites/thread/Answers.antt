use Rattle.std.proofs.Common.{arith, ◌≡◌, ◌∙◌, ap, refl, slice_index_or}
use Rattle.std.proofs.lemmas.List.{get_or_read}
use Rattle.um_fine.proofs.Filled.{filled-twice}
use Rattle.um_fine.specs.Answers.{no_thread, thread_in}
use Rattle.um_fine.specs.Sites.{SiteState, word_of}
use Rattle.um_fine.specs.Steps.{Exchange, Site}
use Rattle.um_tables.specs.Asked.{asked, event_of}
use Rattle.um_tables.specs.Sited.{logged}
use Rattle.um_words.specs.ThreadActs.{thread_act, thread_event}
use Rattle.um_tables.specs.ThreadActs.{thread_made}
use Rattle.um_tables.proofs.Noted.{thread-event}
use Rattle.um_tables.proofs.Tabled.{refused, taken}
use Rattle.um_tables.proofs.WordActs.{thread-refuses, thread-takes}
use Rattle.um_tables.proofs.tables.steps.TablesSites.thread.Goals as goal

pub returns-clause-said : goal.returns-clause-said
returns-clause-said c =
    let w = c.index.result.now in
    let here : w ≡ slice_index_or c.self.inside.threads.items c.args.thread.0 no_thread = get_or_read c.self.inside.threads.items _ _ (omega arith) c.index.ensures no_thread in
    let e = thread_made c.args.here.now.image.now c.args.here.now.cpu c.args.thread.0 w c.args.act.now in
    let t = thread-takes c.args.here.now.image.now c.args.here.now.cpu c.args.thread.0 w c.args.act.now _ c.in-Some.ensures.made in
    let left : c.in-Some.next ≡ thread_in e.word = ap (λ (s : SiteState). thread_in (word_of s)) t.leaves in
    let log = c.self.inside.log.items in
    let event : c.event.result ≡ event_of e.act =
    c.event.ensures ∙ (ap (thread_event c.args.act.now) left ∙ thread-event c.args.here.now.image.now c.args.here.now.cpu c.args.thread.0 w c.args.act.now) in (
      w,
      taken c.args.here.now.image.now _ _ c.self.view_is e (SiteState.thread w) (SiteState.thread c.in-Some.next) (ap SiteState.thread here) t
          _
          _
          (c.note.ensures.events ∙ ap (logged log) event)
          c.note.ensures.room,
      left,
    )

pub returns-in-None-clause-said : goal.returns-in-None-clause-said
returns-in-None-clause-said c =
    let w = c.index.result.now in
    let here : w ≡ slice_index_or c.self.inside.threads.items c.args.thread.0 no_thread = get_or_read c.self.inside.threads.items _ _ (omega arith) c.index.ensures no_thread in
    let e = thread_made c.args.here.now.image.now c.args.here.now.cpu c.args.thread.0 w c.args.act.now in
    let r = thread-refuses c.args.here.now.image.now c.args.here.now.cpu c.args.thread.0 w c.args.act.now c.in-None.ensures.made in
    let fill = filled-twice c.args.here.now.image.now (SiteState.thread w) (asked c.args.here.now.cpu (Site.thread c.args.thread.0) (thread_act c.args.act.now) Exchange.nothing) in
    (w, refl, refused c.args.here.now.image.now _ _ c.self.view_is e (SiteState.thread w) (ap SiteState.thread here) r fill tt)
