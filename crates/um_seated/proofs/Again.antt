-- What is left of a split after its join.
use Rattle.std.proofs.Common.{◌≡◌, ℕ, true, false, cond, List, [], ◌∷◌, ◌++◌, refl, sym, ap, ◌∙◌, append-nil}
use Rattle.um_site.specs.declared.view.View.{View}
use Rattle.um_site.specs.History.{splitter, newborn, child, without, joiner}
use Rattle.um_words.specs.Sublists.{same_name}
use Rattle.um_site.proofs.Sublists.{same_itself}

pub again : (v s o a b r : View) → s ≡ splitter v → o ≡ newborn v → a.name ≡ s.name → a.children ≡ s.children → b.name ≡ o.name → b.children ≡ o.children → r ≡ joiner a b → (r.name ≡ v.name) × (r.children ≡ v.children)
again v s o a b r left right name children name' children' is =
    let n = child v in let ks = v.children in (
      ap (λ (u : View). u.name) is ∙ (name ∙ ap (λ (u : View). u.name) left),
      ap (λ (u : View). u.children) is
          ∙ ((λ i. without ((name' ∙ ap (λ (u : View). u.name) right) i) ((children ∙ ap (λ (u : View). u.children) left) i) ++ (children' ∙ ap (λ (u : View). u.children) right) i)
          ∙ (append-nil (without n (n ∷ ks)) ∙ ap (λ b. cond b ks (n ∷ without n ks)) (same_itself n))),
    )
