use Rattle.std.proofs.Common.{arith, ◌+◌, ◌<◌, ◌^◌, [], ◌∷◌, ◌++◌, Some, sym, ap, ◌∙◌, rules}
use Rattle.um_base.specs.declared.act.Event.{Event}
use Rattle.um_merge.specs.Logs.{Log}
use Rattle.um_merge.specs.declared.logged.Logged.{Logged}
use Rattle.um_merge.proofs.Told.{in-steps, read-quiet, read-shown, whole}
use Rattle.um_merge.proofs.log.Log.copy.Goals as goal

pub index-step-requires : goal.index-step-requires
index-step-requires c =
    let v = c.from.inside in
    let below = in-steps v.steps.items v.events.items _ (ap (λ (l : Log). l.items) c.from.view_is) c.from.invariant.0 c.args.at c.args.shown c.requires.at c.requires.shown in
    omega (arith, below, v.steps.ok.0)

pub index-requires : goal.index-requires
index-requires c =
    let v = c.from.inside in
    let step = c.index-step.result.now in
    let read = read-shown v.steps.items v.events.items _ (ap (λ (l : Log). l.items) c.from.view_is) c.from.invariant.0 c.args.at c.args.shown c.requires.at c.requires.shown step step c.index-step.ensures c.if-step.true in
    omega (arith, read.0, v.events.ok.0)

pub overflow_add-result : goal.overflow_add-result
overflow_add-result c =
    let v = c.from.inside in
    let step = c.index-step.result.now in
    let read = read-shown v.steps.items v.events.items _ (ap (λ (l : Log). l.items) c.from.view_is) c.from.invariant.0 c.args.at c.args.shown c.requires.at c.requires.shown step step c.index-step.ensures c.if-step.true in
    let below : c.args.shown + 1 < 2 ^ 64 = omega (arith, read.0, v.events.ok.0, v.events.small) in
    search rules

pub returns-then-step-clause-copied : goal.returns-then-step-clause-copied
returns-then-step-clause-copied c =
    let v = c.from.inside in
    let step = c.index-step.result.now in
    let event = c.index.result.now in
    let read = read-shown v.steps.items v.events.items _ (ap (λ (l : Log). l.items) c.from.view_is) c.from.invariant.0 c.args.at c.args.shown c.requires.at c.requires.shown step step c.index-step.ensures c.if-step.true in
    c.note.ensures.noted ∙ ap (λ (x : Logged). c.args.self.now.items ++ x ∷ []) (ap (λ (e : Event). whole step (Some e)) c.index.ensures ∙ sym (read.1 event))

pub returns-then-step-clause-shown : goal.returns-then-step-clause-shown
returns-then-step-clause-shown c =
    let v = c.from.inside in
    let step = c.index-step.result.now in
    (read-shown v.steps.items v.events.items _ (ap (λ (l : Log). l.items) c.from.view_is) c.from.invariant.0 c.args.at c.args.shown c.requires.at c.requires.shown step step c.index-step.ensures c.if-step.true).2

pub returns-else-step-clause-copied : goal.returns-else-step-clause-copied
returns-else-step-clause-copied c =
    let v = c.from.inside in
    let step = c.index-step.result.now in
    let read = read-quiet v.steps.items v.events.items _ (ap (λ (l : Log). l.items) c.from.view_is) c.from.invariant.0 c.args.at c.args.shown c.requires.at c.requires.shown step step c.index-step.ensures c.if-step.false in
    c.note-else-step.ensures.noted ∙ ap (λ (x : Logged). c.args.self.now.items ++ x ∷ []) (sym read.0)

pub returns-else-step-clause-shown : goal.returns-else-step-clause-shown
returns-else-step-clause-shown c =
    let v = c.from.inside in
    let step = c.index-step.result.now in
    (read-quiet v.steps.items v.events.items _ (ap (λ (l : Log). l.items) c.from.view_is) c.from.invariant.0 c.args.at c.args.shown c.requires.at c.requires.shown step step c.index-step.ensures c.if-step.false).1
