use Rattle.std.proofs.Common.{◌≡◌, ◌+◌, ◌++◌, List, None, Some, ap, refl, subst, sym, ◌∙◌}
use Rattle.um_base.specs.declared.act.Event.{Event}
use Rattle.um_trace.specs.Dump.{threads_text}
use Rattle.um_explore.specs.Ends.{AreWays, failure_lines, way}
use Rattle.um_explore.specs.Failures.{Failures, failures}
use Rattle.um_explore.specs.declared.ways.Way.{Way}
use Rattle.um_explore.specs.declared.ways.Ways.{Ways}
use Rattle.um_explore.proofs.EndLemmas.{path-led, place-same, ways-known, ways-new}
use Rattle.um_explore.proofs.ways.Ways.add.Goals as goal
use Rattle.um_explore.proofs.ways.Ways.add.Goals.{in-Some, in-None+in_ok-push-in-None+in_ok-push-in-None-2}

pub returns-clause-ways : goal.returns-clause-ways
returns-clause-ways c =
    let image = c.args.image.now in
    let links = c.args.links.now in
    let k = c.args.k in
    let events = c.in_ok-events.events.items in
    let here = c.args.rooms.now.here in
    let is = c.requires.are.described in
    let led = path-led image links k events here c.in_ok-events.ensures c.requires.leads in
    let text = c.in_ok-text.text.items in
    let ways = c.args.self.now.ways.items in
    let more = c.match-place_of.self.ways.items in
    let notes = c.failures_of-notes.ensures ∙ ap (λ (es : List Event). failures es) c.deref.ensures.value in
    let told : text ≡ way image events here = c.in_ok-text.ensures.text ∙ ap (λ (ns : Failures). threads_text image here ++ failure_lines image 0 ns) notes in
    elim c.match-place_of.branch [
      | in-Some w ↦
          (let place = place-same c.deref-2.result.now ways c.deref-3.result.now text c.place_of.result (Some w.in-Some.i) c.deref-2.ensures.value c.deref-3.ensures.value w.in-Some.is c.place_of.ensures in
          let same : more ≡ ways = ap (λ (s : Ways). s.ways.items) w.self-is in
          subst (λ (ws : List Way). AreWays image links (k + 1) ws) (sym same) (ways-known image links k w.in-Some.i ways events here text is led told place c.requires.ways))
      | in-None+in_ok-push-in-None+in_ok-push-in-None-2 w ↦
          (let none = place-same c.deref-2.result.now ways c.deref-3.result.now text c.place_of.result None c.deref-2.ensures.value c.deref-3.ensures.value w.in-None.is c.place_of.ensures in
          let new : Way = record { text = c.in_ok-text.text; number = k } in
          let grown = ap (λ (s : Ways). s.ways.items) w.self-is ∙ w.in_ok-push-in-None.ensures.items in
          ways-new image links k ways more new events here is c.requires.met led c.requires.complete refl told none grown c.requires.ways)
    ]
