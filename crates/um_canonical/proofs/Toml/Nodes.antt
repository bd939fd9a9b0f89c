-- Keys put into a table one after another.
use Rattle.std.proofs.Common.{◌≡◌, ℕ, Ordering, Less, Equal, Greater, nat_cmp, false, List, [], ◌∷◌, Some, None, refl, ap, ◌∙◌, subst, inl, inr, ◌⊎◌}
use Rattle.std.proofs.lemmas.Bool.{cases_Bool}
use Rattle.std.proofs.lemmas.Map.Lookups.{exact_bytes}
use Rattle.std.specs.Cmp.Lexicographic.{slice_cmp}
use Rattle.toml.specs.Data.{Data, member, same_key}
use Rattle.toml.specs.Tables.{Node, Nodes, no_nodes, node, value, get_node, insert, close, close_node, at_key, put, along_dots}
use Rattle.um_canonical.specs.Printed.{with_member, with_members}

cases_order : (o : Ordering) → (o ≡ Less) ⊎ ((o ≡ Equal) ⊎ (o ≡ Greater))
cases_order Less = inl refl
cases_order Equal = inr (inl refl)
cases_order Greater = inr (inr refl)

-- a table closes to its members
close-insert : (k : List ℕ) (x : Node) (ns : Nodes) → close (insert k x ns) ≡ with_member k (close_node x) (close ns)
close-insert k x no_nodes = refl
close-insert k x (node l y ns) =
    elim (cases_order (slice_cmp nat_cmp k l)) [
      | inl less ↦ rw less refl
      | inr other ↦ elim other [
        | inl tie ↦ rw tie refl
        | inr more ↦ rw more (ap (member l (close_node y)) (close-insert k x ns))
      ]
    ]

pub closes : (k : List ℕ) (x : Node) (ns : Nodes) → close (insert k x ns) ≡ with_member k (close_node x) (close ns)
closes k x ns = close-insert k x ns

-- another key keeps what it has
pub get_node-other : (k l : List ℕ) (x : Node) (ns : Nodes) → same_key k l ≡ false → get_node k (insert l x ns) ≡ get_node k ns
get_node-other k l x no_nodes other = rw other refl
get_node-other k l x (node m y ns) other =
    elim (cases_order (slice_cmp nat_cmp l m)) [
      | inl less ↦ rw (less, other) refl
      | inr behind ↦ elim behind [
        | inl tie ↦
            let same : l ≡ m = exact_bytes l m tie in
            let apart : same_key k m ≡ false = subst (λ (q : List ℕ). same_key k q ≡ false) same other in
            rw (tie, apart) refl
        | inr more ↦ elim (cases_Bool (same_key k m)) [
          | inl here ↦ rw (more, here) refl
          | inr not_here ↦ rw (more, not_here) (get_node-other k l x ns other)
        ]
      ]
    ]

-- the keys are new to a table, and to one another
abbrev pub AreNew : List (List ℕ × Data) → Nodes → Type 0
AreNew [] ns = Unit {0}
AreNew (p ∷ ps) ns = (get_node p.0 ns ≡ None) × AreNew ps (insert p.0 (value p.1) ns)

-- the table with these pairs
abbrev pub filled : List (List ℕ × Data) → Nodes → Nodes
filled [] ns = ns
filled (p ∷ ps) ns = filled ps (insert p.0 (value p.1) ns)

pub close-filled : (ps : List (List ℕ × Data)) (ns : Nodes) → close (filled ps ns) ≡ with_members ps (close ns)
close-filled [] ns = refl
close-filled (p ∷ ps) ns = close-filled ps (insert p.0 (value p.1) ns) ∙ rw (close-insert p.0 (value p.1) ns) refl

-- a new key is put in
pub put-new : (k : List ℕ) (d : Data) (ns : Nodes) → get_node k ns ≡ None → put ([], k) d ns ≡ Some (insert k (value d) ns)
unfolding along_dots at_key
put-new k d ns none = rw none refl
