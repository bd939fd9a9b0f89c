use Rattle.std.proofs.Common.{◌+◌, ◌∙◌, ◌++◌, Bool, List, ap, length, refl, ℕ}
use Rattle.std.specs.List.{flat_map}
use Rattle.um_base.specs.declared.act.Event.{Event}
use Rattle.um_explore.specs.Ends.{Ending, heading, run_line, somebody_waits}
use Rattle.um_explore.proofs.EndLemmas.{in-parts}
use Rattle.um_explore.proofs.ending.add_ending.Goals as goal

pub returns-clause-text : goal.returns-clause-text
returns-clause-text c =
    let text = c.args.way.now.text.items in
    let events = c.in_ok-events.events.items in
    let ending : Ending = record { way = text; states = c.args.states; events = events } in
    let old = c.args.text.now.items in
    let one = c.extend_from_slice.new.self.items in
    let two = c.extend_from_slice-2.new.self.items in
    let lines = flat_map (run_line c.args.image.now) in
    let number = c.args.k + 1 in
    let waits = c.somebody_waits-waits.ensures ∙ ap somebody_waits c.as_slice.ensures.value in
    let head = c.in_ok-line.ensures ∙ ap (λ (es : List Event). heading number c.args.states (length es) c.somebody_waits-waits.result) c.as_slice-2.ensures.value
    ∙ ap (λ (b : Bool). heading number c.args.states (length events) b) waits in (
      ending,
      record { way = refl; path = c.in_ok-events.ensures },
      in-parts old (heading number c.args.states (length events) (somebody_waits text)) text (lines events) one two c.add_run.new.text.items
          (c.in_ok-extend_from_slice.ensures.items ∙ ap (λ (bytes : List ℕ). old ++ bytes) (c.as_bytes.ensures.value ∙ head))
          (c.in_ok-extend_from_slice-2.ensures.items ∙ ap (λ (bytes : List ℕ). one ++ bytes) c.as_slice-3.ensures.value)
          (c.in_ok-add_run.ensures.text ∙ ap (λ (es : List Event). two ++ lines es) c.as_slice-4.ensures.value),
    )
