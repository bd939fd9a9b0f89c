use Rattle.std.proofs.Common.{◌≡◌, ◌++◌, ℕ, List, length, take, drop, ap, ◌∙◌, arith}
use Rattle.um_matrix.proofs.AreaLemmas.{front-taken, written-back, area-kept}
use Rattle.um_matrix.proofs.area.Area.set_to.Goals as goal

pub invariant_of-self : goal.invariant_of-self
invariant_of-self c =
    let a = c.self.inside in
    let b = c.other.inside in
    let n = c.max-n.result in
    let most = c.max-n.ensures in
    let is : c.take_front.new.own ≡ b.bytes.items =
    c.take_front.ensures ∙ ap (λ (l : List ℕ). take n l ++ drop n c.deref_mut.result.now) c.deref.ensures.value ∙ ap (λ (l : List ℕ). take n b.bytes.items ++ drop n l) c.deref_mut.ensures.value
    ∙ front-taken a.bytes.items b.bytes.items 524288 n a.used b.used c.self.invariant.2 c.other.invariant.2 (omega (arith, most)) (omega (arith, most)) in
    area-kept a.bytes.items c.take_front.new.own a.bytes.len 524288 b.used (omega (arith, a.bytes.ok.0)) c.self.invariant.0 (ap (λ (l : List ℕ). length l) is ∙ c.other.invariant.0) c.other.invariant.1
    (ap (drop b.used) is ∙ c.other.invariant.2)

pub returns-clause-taken : goal.returns-clause-taken
returns-clause-taken c =
    let a = c.self.inside in
    let b = c.other.inside in
    let n = c.max-n.result in
    let most = c.max-n.ensures in
    let is : c.take_front.new.own ≡ b.bytes.items =
    c.take_front.ensures ∙ ap (λ (l : List ℕ). take n l ++ drop n c.deref_mut.result.now) c.deref.ensures.value ∙ ap (λ (l : List ℕ). take n b.bytes.items ++ drop n l) c.deref_mut.ensures.value
    ∙ front-taken a.bytes.items b.bytes.items 524288 n a.used b.used c.self.invariant.2 c.other.invariant.2 (omega (arith, most)) (omega (arith, most)) in
    let long = ap (λ (l : List ℕ). length l) is in
    let one = c.self.invariant.0 in
    let two = c.other.invariant.0 in
    written-back a.bytes.items c.take_front.new.own a.bytes.len (omega (arith, a.bytes.ok.0)) (omega (arith, long, one, two)) ∙ is ∙ c.other.view_is
