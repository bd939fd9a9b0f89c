use Rattle.std.proofs.Common.{rules, ◌≡◌, ℕ, ◌+◌, List, [], ap, sym, ◌∙◌}
use Rattle.std.specs.Prelude.{is_some}
use Rattle.um_machine.specs.Order.{end_steps}
use Rattle.um_machine.specs.State.{instruction_at}
use Rattle.um_machine.specs.declared.thread.Place.{Place}
use Rattle.um_fine.specs.Context.{Context, as_thread}
use Rattle.um_fine.specs.Continues.{begun, ends_with}
use Rattle.um_fine.specs.Processor.{Processor}
use Rattle.um_processor.specs.declared.running.Running.{Running}
use Rattle.um_processor.specs.Events.{left_behind, with_ends}
use Rattle.um_processor.specs.Processors.{processor_of, refilled}
use Rattle.um_processor.proofs.Begun.{begin-begun, begin-killed, stays}
use Rattle.um_processor.proofs.Lifted.{goes-as}
use Rattle.um_processor.proofs.Runs.{runs-next}
use Rattle.um_processor.proofs.running.Running.begin.Goals as goal
use Rattle.um_processor.proofs.running.Running.begin.Goals.{then-word, else-word}

pub returns : goal.returns
returns g c =
    let h = c.in-Made.ensures.said in
    let image = c.args.here.now.image.now in
    let cpu = c.args.here.now.cpu in
    let r = c.args.self.now in
    let q = c.rests.new.self in
    let t = c.thread-thread.result.0 in
    let ended : Context → Context = λ own. ends_with image own (end_steps image own.thread (as_thread own)) in
    let lines : Context → Context = λ own. begun image own (instruction_at image own.place) in
    let place : c.place-place.result ≡ r.context.value.place = c.place-place.ensures ∙ ap (λ (own : Context). own.place) c.deref.ensures in
    let there = sym (ap (λ (p : Place). is_some (instruction_at image p)) place) ∙ c.in-Some.ensures.0 in
    let line = c.in-Some.ensures.1 ∙ ap (λ (p : Place). p.line + 1) place in
    let script = ap (λ (p : Place). p.script) place in
    let still = sym c.rests.ensures.rests ∙ c.if-rests.false in
    let same : q ≡ r = c.rests.ensures.left ∙ stays c.in-Made.said r still in
    let runs = runs-next image c.if-word.self.context.value c.expands.new.self (ap (λ (p : Processor). p.todo) c.expands.ensures) in
    elim c.if-word.branch [
      | then-word w ↦
          let free : w.deref_mut-then-word.result.now ≡ record q.context.value { claims = [] } = search rules in
          let claims : w.gives_claims.new.claims.items ≡ q.context.value.claims = search rules in
          let after : w.exits.new.self ≡ ended q.context.value = w.exits.ensures ∙ ap ended free in
          let left =
          c.expands.ensures
          ∙ ap (refilled image) w.self-is
          ∙ (λ i. left_behind image [] (after i) t q)
          ∙ ap (λ (k : Running). left_behind image [] (ended k.context.value) t k) same in
          let goes =
          begin-killed image cpu r h.0 t _ _ c.in-Made.said c.thread-thread.ensures.value script line there h.2 c.if-word.ends.items (processor_of c.expands.new.self) still w.if-word.true
          ((λ i. (w.ends-is i).items) ∙ (claims ∙ ap (λ (k : Running). k.context.value.claims) same))
          left in
          record { ends = record { image = c.in-Made.ensures.image; ends = tt; same = tt; runs = runs; turn = (_, h.1, goes) } }
      | else-word w ↦
          let after : w.begins_line.new.self ≡ lines q.context.value = search rules in
          let left =
          c.expands.ensures
          ∙ ap (refilled image) w.self-is
          ∙ (λ i. left_behind image [] (after i) t q)
          ∙ ap (λ (k : Running). left_behind image [] (lines k.context.value) t k) same in
          let goes = begin-begun image cpu r h.0 t _ _ c.in-Made.said c.thread-thread.ensures.value script line there h.2 (processor_of c.expands.new.self) still w.if-word.false left in
          let none = (λ i. (w.ends-is i).items) ∙ c.requires.none in
          let whole = goes-as cpu image _ _ _ _ (ap (λ (xs : List ℕ). with_ends xs (processor_of c.expands.new.self)) none) goes in
          record { ends = record { image = c.in-Made.ensures.image; ends = tt; same = tt; runs = runs; turn = (_, h.1, whole) } }
    ]
