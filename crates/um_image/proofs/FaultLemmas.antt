-- No fault that is told of a text is want of memory.
use Rattle.std.proofs.Common.{◌≡◌, ℕ, Bool, true, false, List, [], ◌∷◌, ◌++◌, map, Some, IsTrue, if◌then◌else◌, refl, subst}
use Rattle.std.proofs.lemmas.Bool.{false≢true}
use Rattle.std.specs.List.{list_all}
use Rattle.toml.specs.Data.{Members}
use Rattle.um_document.specs.declared.check.Check.{Check}
use Rattle.um_document.specs.declared.fault.ImageFault.{ImageFault}
use Rattle.um_document.specs.declared.fault.ImageFault.TheVariants as fault
use Rattle.um_document.specs.Broken.{broken}
use Rattle.um_document.specs.Faults.{is_known_version, version_faults, fault_of, broken_parts, unknown_key_faults, form_faults}
use Rattle.um_document.specs.First.{first_of}
use Rattle.um_document.specs.Unknown.{unknown_keys}
use Rattle.um_document.proofs.EmptyLists.{and_true, both_true}
use Rattle.um_description.specs.declared.flaw.Flaw.{Flaw}
use Rattle.um_description.specs.Faults as flaws

abbrev is_told : ImageFault → Bool
is_told fault.Memory = false
is_told _ = true

all_in_both : (xs ys : List ImageFault) → IsTrue (list_all is_told xs) → IsTrue (list_all is_told ys) → IsTrue (list_all is_told (xs ++ ys))
all_in_both [] ys h k = k
all_in_both (x ∷ xs) ys h k =
    let both = and_true (is_told x) (list_all is_told xs) h in both_true (is_told x) (list_all is_told (xs ++ ys)) both.0 (all_in_both xs ys both.1 k)

all_mapped : (f : List ℕ → ImageFault) → ((spot : List ℕ) → IsTrue (is_told (f spot))) → (spots : List (List ℕ)) → IsTrue (list_all is_told (map f spots))
all_mapped f told [] = refl
all_mapped f told (spot ∷ spots) = both_true (is_told (f spot)) (list_all is_told (map f spots)) (told spot) (all_mapped f told spots)

version_told : (b : Bool) → IsTrue (list_all is_told (if b then [] else fault.Version ∷ []))
version_told true = refl
version_told false = refl

part_told : (check : Check) (spot : List ℕ) → IsTrue (is_told (fault_of check spot))
part_told Check.Missing spot = refl
part_told Check.WrongType spot = refl
part_told Check.BadName spot = refl

parts_told : (check : Check) (t : Members) → IsTrue (list_all is_told (broken_parts check t))
unfolding broken_parts
parts_told check t = all_mapped (fault_of check) (part_told check) (broken check t)

versions_told : (t : Members) → IsTrue (list_all is_told (version_faults t))
unfolding version_faults
versions_told t = version_told (is_known_version t)

keys_told : (t : Members) → IsTrue (list_all is_told (unknown_key_faults t))
unfolding unknown_key_faults
keys_told t = all_mapped fault.UnknownKey (λ spot. refl) (unknown_keys t)

form_told : (t : Members) → IsTrue (list_all is_told (form_faults t))
form_told t =
    let version = version_faults t in
    let missing = broken_parts Check.Missing t in
    let wrong = broken_parts Check.WrongType t in
    let unknown = unknown_key_faults t in
    let bad = broken_parts Check.BadName t in
    let first = all_in_both version missing (versions_told t) (parts_told Check.Missing t) in
    let second = all_in_both (version ++ missing) wrong first (parts_told Check.WrongType t) in
    let third = all_in_both (version ++ missing ++ wrong) unknown second (keys_told t) in
    all_in_both (version ++ missing ++ wrong ++ unknown) bad third (parts_told Check.BadName t)

first_told : (faults : List ImageFault) → IsTrue (list_all is_told faults) → ¬ (first_of faults ≡ Some fault.Memory)
first_told [] h first = cc
first_told (x ∷ xs) h first =
    let same : x ≡ fault.Memory = cc in
    false≢true (subst (λ (e : ImageFault). IsTrue (is_told e)) same ((and_true (is_told x) (list_all is_told xs) h).0))

-- the first fault of a document's form isn't want of memory
pub form_not_memory : (t : Members) → ¬ (first_of (form_faults t) ≡ Some fault.Memory)
form_not_memory t = first_told (form_faults t) (form_told t)

-- nor is what is told of a flaw
pub flaw_not_memory : (flaw : Flaw) → ¬ (fault.Memory ≡ flaws.fault_of flaw)
flaw_not_memory (Flaw.Duplicate place) h = cc
flaw_not_memory (Flaw.UnknownName place) h = cc
flaw_not_memory (Flaw.Limit what number place) h = cc
flaw_not_memory (Flaw.Line kind place column) h = cc
flaw_not_memory (Flaw.Block place) h = cc
flaw_not_memory (Flaw.LineName place column) h = cc
flaw_not_memory (Flaw.ScriptOrder place) h = cc
flaw_not_memory Flaw.Weight h = cc
flaw_not_memory (Flaw.Layout stacks need have) h = cc
