-- Two descriptions with the same names know the same names in lines, but for places.
use Rattle.std.proofs.Common.{◌≡◌, ℕ, ◌+◌, List, [], ◌∷◌, ◌++◌, IsTrue, refl, sym, ◌∙◌}
use Rattle.std.proofs.lemmas.List.Folds.{list_all-append}
use Rattle.std.specs.List.{list_all}
use Rattle.um_base.specs.declared.names.PartRef.{PartRef}
use Rattle.um_base.specs.declared.names.Ref.{Ref}
use Rattle.um_document.specs.declared.description.Description.{Description}
use Rattle.um_document.proofs.EmptyLists.{and_true}
use Rattle.um_description.specs.declared.mentions.Wanted.{Wanted}
use Rattle.um_description.specs.Mentions.{Mention, in_ref, in_part, in_parts}
use Rattle.um_description.specs.Names.{pool_names, partition_names, domain_names, object_names, script_names}
use Rattle.um_description.proofs.LawfulLines.{knows}

pub record AreNamedAlike (e d : Description) : Type 0 where
  pub pools : pool_names e ≡ pool_names d
  pub partitions : partition_names e ≡ partition_names d
  pub domains : domain_names e ≡ domain_names d
  pub objects : object_names e ≡ object_names d
  pub scripts : script_names e ≡ script_names d
  pub rodata : e.rodata ≡ d.rodata

pub front : (d : Description) (xs ys : List Mention) → IsTrue (list_all (knows d) (xs ++ ys)) → IsTrue (list_all (knows d) xs)
front d xs ys h = (and_true (list_all (knows d) xs) (list_all (knows d) ys) (sym (list_all-append (knows d) xs ys) ∙ h)).0

pub back : (d : Description) (xs ys : List Mention) → IsTrue (list_all (knows d) (xs ++ ys)) → IsTrue (list_all (knows d) ys)
back d xs ys h = (and_true (list_all (knows d) xs) (list_all (knows d) ys) (sym (list_all-append (knows d) xs ys) ∙ h)).1

both_known : (d : Description) (xs ys : List Mention) → IsTrue (list_all (knows d) xs) → IsTrue (list_all (knows d) ys) → IsTrue (list_all (knows d) (xs ++ ys))
both_known d xs ys h k = list_all-append (knows d) xs ys ∙ rw (h, k) refl

pub domain_alike : (e d : Description) → AreNamedAlike e d → (at : ℕ) (r : Ref) → list_all (knows e) (in_ref Wanted.Domain at r) ≡ list_all (knows d) (in_ref Wanted.Domain at r)
domain_alike e d h at (Ref.Named name) = rw h.domains refl
domain_alike e d h at (Ref.At i) = refl

pub script_alike : (e d : Description) → AreNamedAlike e d → (at : ℕ) (r : Ref) → list_all (knows e) (in_ref Wanted.Script at r) ≡ list_all (knows d) (in_ref Wanted.Script at r)
script_alike e d h at (Ref.Named name) = rw h.scripts refl
script_alike e d h at (Ref.At i) = refl

part_alike : (e d : Description) → AreNamedAlike e d → (at : ℕ) (p : PartRef) → list_all (knows e) (in_part at p) ≡ list_all (knows d) (in_part at p)
part_alike e d h at (PartRef.Named name) = rw h.partitions refl
part_alike e d h at (PartRef.At i) = refl
part_alike e d h at (PartRef.Given range attr) = refl

parts_known : (e d : Description) → AreNamedAlike e d → (at : ℕ) (ps : List PartRef) → IsTrue (list_all (knows d) (in_parts at ps)) → IsTrue (list_all (knows e) (in_parts at ps))
parts_known e d h at [] known = refl
parts_known e d h at (p ∷ ps) known =
    both_known e (in_part at p) (in_parts (at + 1) ps) (part_alike e d h at p ∙ front d (in_part at p) (in_parts (at + 1) ps) known)
    (parts_known e d h (at + 1) ps (back d (in_part at p) (in_parts (at + 1) ps) known))

pub init_known : (e d : Description) → AreNamedAlike e d → (m : Ref) (ps : List PartRef) → IsTrue (list_all (knows d) (in_ref Wanted.Domain 1 m ++ in_parts 2 ps)) → IsTrue (list_all (knows e) (in_ref Wanted.Domain 1 m ++ in_parts 2 ps))
init_known e d h m ps known =
    both_known e (in_ref Wanted.Domain 1 m) (in_parts 2 ps) (domain_alike e d h 1 m ∙ front d (in_ref Wanted.Domain 1 m) (in_parts 2 ps) known)
    (parts_known e d h 2 ps (back d (in_ref Wanted.Domain 1 m) (in_parts 2 ps) known))

pub edit_known : (e d : Description) → AreNamedAlike e d → (m : Ref) (p : PartRef) → IsTrue (list_all (knows d) (in_ref Wanted.Domain 1 m ++ in_part 2 p)) → IsTrue (list_all (knows e) (in_ref Wanted.Domain 1 m ++ in_part 2 p))
edit_known e d h m p known =
    both_known e (in_ref Wanted.Domain 1 m) (in_part 2 p) (domain_alike e d h 1 m ∙ front d (in_ref Wanted.Domain 1 m) (in_part 2 p) known)
    (part_alike e d h 2 p ∙ back d (in_ref Wanted.Domain 1 m) (in_part 2 p) known)
