-- One more at the end of the front keeps the room behind it blank.
use Rattle.std.proofs.Common.{◌≡◌, ◌<◌, List, arith, ap, length, map, take, ◌∙◌, ◌++◌, ◌∷◌, []}
use Rattle.std.proofs.lemmas.List.{map-append}
use Rattle.um_base.specs.declared.limits.TheConstants.{THREADS}
use Rattle.um_base.specs.declared.lists.ShortReply.{ShortReply}
use Rattle.um_base.specs.declared.names.Reply.{Reply}
use Rattle.um_base.specs.declared.names.ThreadIx.{ThreadIx}
use Rattle.um_base.specs.Room.{IsRoom-push, front-push, length-front}
use Rattle.um_base.specs.Short.{told, length-told}
use Rattle.um_base.proofs.lists.Replies.push.Goals as goal

pub invariant_of-self : goal.invariant_of-self
invariant_of-self c =
    let front = take c.self.inside.len c.self.inside.items in
    let room : c.self.inside.len < THREADS = omega (arith, length-front c.self.invariant, length-told front, ap length c.self.view_is) in
    IsRoom-push _ c.self.invariant room

pub returns : goal.returns
returns c =
    let front = take c.self.inside.len c.self.inside.items in
    let room : c.self.inside.len < THREADS = omega (arith, length-front c.self.invariant, length-told front, ap length c.self.view_is) in
    let one = c.short_of.result in
    ap (map told) (front-push (c.args.thread, one) c.self.invariant room) ∙ map-append told front ((c.args.thread, one) ∷ [])
    ∙ ap (λ (r : Reply). map told front ++ (c.args.thread, r) ∷ []) c.short_of.ensures ∙ ap (λ (xs : List (ThreadIx × Reply)). xs ++ (c.args.thread, c.args.reply) ∷ []) c.self.view_is
