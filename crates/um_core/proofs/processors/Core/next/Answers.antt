use Rattle.std.proofs.Common.{◌≡◌, inl, inr, ℕ, ◌+◌, ◌<◌, length, arith, ap, sym, subst, ◌∙◌}
use Rattle.std.proofs.lemmas.Bool.Decides.{leb_tells}
use Rattle.std.proofs.lemmas.List.{length-map}
use Rattle.um_base.specs.declared.image.Image.{Image}
use Rattle.um_processor.specs.Standing.{whole}
use Rattle.um_core.specs.CoreSteps.{Halts}
use Rattle.um_core.specs.Cores.{Core}
use Rattle.um_core.specs.PickedRun.{behind}
use Rattle.um_core.proofs.processors.Core.next.Goals as goal

-- one processor more halts
one-more : (image : Image) (core : Core) (first n : ℕ) → ((m : ℕ) → m < n → Halts image core (behind (length core.processors) first m)) → Halts image core (behind (length core.processors) first n)
    → (m : ℕ) → m < n + 1 → Halts image core (behind (length core.processors) first m)
one-more image core first n before here m less =
    elim (leb_tells n m) [
      | inl from ↦ let same : n ≡ m = omega (arith, from.1, less) in subst (λ (k : ℕ). Halts image core (behind (length core.processors) first k)) same here
      | inr below ↦ before m (omega (arith, below.1))
    ]

pub loop-n-preserved : goal.loop-n-preserved
loop-n-preserved c =
    let core = c.args.self.now in
    let all : length c.as_slice-cpus.result.now ≡ length core.processors =
    ap length c.as_slice-cpus.ensures.value ∙ (sym (length-map c.self.inside.processors.items whole) ∙ ap (λ (core : Core). length core.processors) c.self.view_is) in
    let halts = c.step.ensures.halts c.if-step.false in
    record {
      same = c.step.ensures.same c.if-step.false ∙ c.loop-n.invariant.same;
      halts = one-more c.args.image.now core c.args.first c.loop-n.n c.loop-n.invariant.halts
          (subst (λ (old : Core). Halts c.args.image.now old (behind (length core.processors) c.args.first c.loop-n.n)) c.loop-n.invariant.same
          (subst (λ (cpus : ℕ). Halts c.args.image.now c.loop-n.self (behind cpus c.args.first c.loop-n.n)) all halts));
    }

pub returns-clause-halts : goal.returns-clause-halts
returns-clause-halts c = λ _ n less.
    let all : length c.as_slice-cpus.result.now ≡ length c.args.self.now.processors =
    ap length c.as_slice-cpus.ensures.value ∙ (sym (length-map c.self.inside.processors.items whole) ∙ ap (λ (core : Core). length core.processors) c.self.view_is) in
    c.loop-n.invariant.halts n (omega (arith, all, less, c.loop-n-test.false))
