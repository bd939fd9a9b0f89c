-- A processor's event of a domain's edit is that step of the machine, where the relation holds: what it replies was worked out by the
-- edit of the domain's cell.
use Rattle.um_refinement.proofs.Words.{◌≡◌, ℕ, ◌<◌, true, List, length, Some, None, refl, sym, ap, ◌∙◌, eq-eqb, if◌then◌else◌, Act, Image, Range, Pending, reply_to, Steps, State, FineStep, Todos, edit_of, Fine, edited, edits_step, Attr}
use Rattle.um_base.specs.declared.names.PartRef.{PartRef}
use Rattle.um_machine.specs.Table as T
use Rattle.um_refinement.proofs.Offered.{IsStep, Shows, NotKilled, act-is, at-made, machine-step}

module _ {f : Fine} {m : State} {k : ℕ} {e : FineStep} {rest : Steps} {todo : Todos} where
  -- the reply of an edit that the processor has made
  replies : (d : ℕ) (q : Pending) → NotKilled q → d < length f.image.domains → edits_step d q ≡ true → Shows f m k e q rest todo
      → (f.processors k).reply ≡ reply_to (edit_of m.image q (T.domain_at m d))
  replies d q other few it h =
      let at : edited d (f.processors k).todo ≡ Some q = ap (edited d) (at-made h other) ∙ ap (λ b. if b then Some q else None) it in
      ((h.rel.domains d few).changed k q h.there at).1 ∙ ap (λ (i : Image). reply_to (edit_of i q (T.domain_at m d))) (sym h.rel.image)

  pub init-step : (d : ℕ) (parts : List PartRef) → d < length f.image.domains → Shows f m k e (Pending.DomInit d parts) rest todo
      → IsStep f m k e 0 (Pending.DomInit d parts)
  init-step d parts few h = machine-step h 0 (act-is h) tt (ap (Act.DomInit d) (replies d (Pending.DomInit d parts) tt few (eq-eqb d d refl) h))

  pub add-step : (d : ℕ) (range : Range) (attr : Attr) → d < length f.image.domains → Shows f m k e (Pending.DomAdd d range attr) rest todo
      → IsStep f m k e 0 (Pending.DomAdd d range attr)
  add-step d range attr few h =
      machine-step h 0 (act-is h) tt (ap (Act.DomAdd d range attr) (replies d (Pending.DomAdd d range attr) tt few (eq-eqb d d refl) h))

  pub remove-step : (d : ℕ) (range : Range) (attr : Attr) → d < length f.image.domains → Shows f m k e (Pending.DomRemove d range attr) rest todo
      → IsStep f m k e 0 (Pending.DomRemove d range attr)
  remove-step d range attr few h =
      machine-step h 0 (act-is h) tt (ap (Act.DomRemove d range attr) (replies d (Pending.DomRemove d range attr) tt few (eq-eqb d d refl) h))
