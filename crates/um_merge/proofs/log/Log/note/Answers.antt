use Rattle.std.proofs.Common.{arith, ◌≡◌, List, [], ◌∷◌, ◌++◌, length, length-append, true, Option, Some, None, refl, sym, ap, ◌∙◌, subst}
use Rattle.um_base.specs.declared.act.Event.{Event}
use Rattle.um_merge.specs.Logs.{Log}
use Rattle.um_merge.specs.Told.{count, told}
use Rattle.um_merge.specs.declared.logged.Short.{Short}
use Rattle.um_merge.proofs.Told.{count-behind, count-few, told-length, told-quiet, told-shown}
use Rattle.um_merge.proofs.log.Log.note.Goals as goal

pub push_reserved-requires : goal.push_reserved-requires
push_reserved-requires c =
    let v = c.self.inside in
    let same = ap (λ (l : Log). length l.items) c.self.view_is in
    let room = ap (λ (l : Log). l.room) c.self.view_is in
    omega (arith, c.requires, v.steps.ok.0, same, room, told-length v.steps.items v.events.items)

pub push_reserved-requires-in-Some-2 : goal.push_reserved-requires-in-Some-2
push_reserved-requires-in-Some-2 c =
    let v = c.self.inside in
    let same = ap (λ (l : Log). length l.items) c.self.view_is in
    let room = ap (λ (l : Log). l.room) c.self.view_is in
    omega (arith, c.requires, v.steps.ok.0, same, room, told-length v.steps.items v.events.items)

pub push_reserved-requires-in-Some : goal.push_reserved-requires-in-Some
push_reserved-requires-in-Some c =
    let v = c.self.inside in
    let same = ap (λ (l : Log). length l.items) c.self.view_is in
    let room = ap (λ (l : Log). l.room) c.self.view_is in
    omega (arith, c.requires, v.events.ok.0, same, room, told-length v.steps.items v.events.items, count-few v.steps.items, c.self.invariant.0, c.self.invariant.1)

pub invariant_of-self : goal.invariant_of-self
invariant_of-self c =
    let v = c.self.inside in
    (ap count c.push_reserved.ensures.items ∙ (count-behind v.steps.items _ ∙ c.self.invariant.0), omega (arith, c.push_reserved.ensures.capacity, c.self.invariant.1))

pub invariant_of-self-in-Some : goal.invariant_of-self-in-Some
invariant_of-self-in-Some c =
    let v = c.self.inside in
    let counted = ap count c.push_reserved-in-Some-2.ensures.items ∙ count-behind v.steps.items _ in
    let longer = ap length c.push_reserved-in-Some.ensures.items ∙ length-append v.events.items _ in
    (omega (arith, counted, longer, c.self.invariant.0), omega (arith, c.push_reserved-in-Some.ensures.capacity, c.push_reserved-in-Some-2.ensures.capacity, c.self.invariant.1))

pub returns-in-None-clause-noted : goal.returns-in-None-clause-noted
returns-in-None-clause-noted c =
    let v = c.self.inside in
    subst (λ (event : Option Event). told c.push_reserved.new.self.items v.events.items ≡ c.args.self.now.items ++ record { cpu = c.args.cpu; site = c.args.site; number = c.args.number; event = event } ∷ [])
    (sym c.in-None.is)
    (ap (λ (l : List Short). told l v.events.items) c.push_reserved.ensures.items
    ∙ (told-quiet v.steps.items v.events.items _ refl ∙ ap (λ (l : Log). l.items ++ record { cpu = c.args.cpu; site = c.args.site; number = c.args.number; event = None } ∷ []) c.self.view_is))

pub returns-in-Some-clause-noted : goal.returns-in-Some-clause-noted
returns-in-Some-clause-noted c =
    let v = c.self.inside in
    let event = c.in-Some.event in
    subst (λ (event : Option Event). told c.push_reserved-in-Some-2.new.self.items c.push_reserved-in-Some.new.self.items ≡ c.args.self.now.items ++ record { cpu = c.args.cpu; site = c.args.site; number = c.args.number; event = event } ∷ [])
    (sym c.in-Some.is)
    (ap (λ (l : List Short). told l c.push_reserved-in-Some.new.self.items) c.push_reserved-in-Some-2.ensures.items
    ∙ (ap (λ (l : List Event). told (v.steps.items ++ record { cpu = c.args.cpu; shows = true; site = c.args.site; number = c.args.number } ∷ []) l) c.push_reserved-in-Some.ensures.items
    ∙ (told-shown v.steps.items v.events.items _ event refl c.self.invariant.0
    ∙ ap (λ (l : Log). l.items ++ record { cpu = c.args.cpu; site = c.args.site; number = c.args.number; event = Some event } ∷ []) c.self.view_is)))
