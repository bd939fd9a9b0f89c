-- A text is an image or exactly one fault.
use Rattle.std.proofs.Common.{◌≡◌, ℕ, Bool, true, false, List, [], ◌∷◌, Option, Some, None, Result, Ok, Err, refl, sym, subst, inl, inr}
use Rattle.std.specs.Str.{is_utf8}
use Rattle.std.proofs.lemmas.Str.{IsUtf8-from_is_utf8, is_utf8-from_IsUtf8}
use Rattle.toml.specs.Data.{Members}
use Rattle.toml.specs.Parse.{parse_document}
use Rattle.um_base.specs.declared.image.Image.{Image}
use Rattle.um_base.specs.Lawful.{IsLawful}
use Rattle.um_document.specs.declared.description.Description.{Description}
use Rattle.um_document.specs.declared.fault.ImageFault.{ImageFault}
use Rattle.um_document.specs.declared.fault.ImageFault.TheVariants as fault
use Rattle.um_document.specs.Faults.{form_faults, IsDocument, IsRefused, ReadsDocument}
use Rattle.um_document.specs.First.{first_of}
use Rattle.um_document.specs.Reading.{description_of}
use Rattle.um_description.specs.declared.flaw.Flaw.{Flaw}
use Rattle.um_description.specs.Faults.{fault_of}
use Rattle.um_description.specs.Flaws.{meaning}
use Rattle.um_description.proofs.LawfulImage.{lawful_reading}
use Rattle.um_image.specs.Meaning.{Describes, Refuses, IsRead}
use Rattle.um_image.proofs.FaultLemmas.{form_not_memory, flaw_not_memory}

-- ---- one table, and one description

one_table : (text : List ℕ) (t u : Members) → IsDocument text t → IsDocument text u → t ≡ u
one_table text t u a b = let p = a.parsed in let q = b.parsed in cc

one_description : (text : List ℕ) (d e : Description) → ReadsDocument (Ok d) text → ReadsDocument (Ok e) text → d ≡ e
one_description text d e (t, a, none, is) (u, b, other, be) = let same = one_table text t u a b in cc

-- a text that has a description has no fault of its form
sound_form : (text : List ℕ) (d : Description) (e : ImageFault) → ReadsDocument (Ok d) text → ¬ IsRefused e text
sound_form text d e (t, a, none, is) (inl refused) = refused.1 t a
sound_form text d e (t, a, none, is) (inr (u, b, first)) =
    let same = one_table text u t b a in
    let free : form_faults u ≡ [] = subst (λ (x : Members). form_faults x ≡ []) (sym same) none in
    let nothing : first_of [] ≡ Some e = subst (λ (fs : List ImageFault). first_of fs ≡ Some e) free first in
    cc

-- an image that a text describes is lawful
pub lawful_image : (text : List ℕ) (image : Image) → Describes text image → IsLawful image
lawful_image text image a = lawful_reading a.description image text a.read a.means

-- ---- at most one answer

pub one_image : (text : List ℕ) (image other : Image) → Describes text image → Describes text other → image ≡ other
one_image text image other a b =
    let same = one_description text a.description b.description a.read b.read in let p = a.means in let q = b.means in cc

pub never_both : (text : List ℕ) (image : Image) (e : ImageFault) → Describes text image → ¬ Refuses text e
never_both text image e a (inl refused) = sound_form text a.description e a.read refused
never_both text image e a (inr b) =
    let same = one_description text a.description b.description a.read b.read in let p = a.means in let q = b.means in cc

one_form_fault : (text : List ℕ) (e other : ImageFault) → IsRefused e text → IsRefused other text → e ≡ other
one_form_fault text e other (inl (a, none)) (inl (b, without)) = cc
one_form_fault text e other (inl (a, none)) (inr (u, b, first)) = absurd (none u b)
one_form_fault text e other (inr (t, a, first)) (inl (b, without)) = absurd (without t a)
one_form_fault text e other (inr (t, a, first)) (inr (u, b, begins)) = let same = one_table text t u a b in cc

pub one_fault : (text : List ℕ) (e other : ImageFault) → Refuses text e → Refuses text other → e ≡ other
one_fault text e other (inl a) (inl b) = one_form_fault text e other a b
one_fault text e other (inl a) (inr b) = absurd (sound_form text b.description e b.read a)
one_fault text e other (inr a) (inl b) = absurd (sound_form text a.description other a.read b)
one_fault text e other (inr a) (inr b) =
    let same = one_description text a.description b.description a.read b.read in
    let p = a.means in let q = b.means in let told = a.told in let also = b.told in cc

-- ---- want of memory is no answer about a text

form_never_memory : (text : List ℕ) (e : ImageFault) → IsRefused e text → ¬ (e ≡ fault.Memory)
form_never_memory text e (inl (is, none)) memory = cc
form_never_memory text e (inr (t, a, first)) memory = form_not_memory t (subst (λ (x : ImageFault). first_of (form_faults t) ≡ Some x) memory first)

pub never_memory : (text : List ℕ) (e : ImageFault) → Refuses text e → ¬ (e ≡ fault.Memory)
never_memory text e (inl a) memory = form_never_memory text e a memory
never_memory text e (inr a) memory = let told = a.told in flaw_not_memory a.flaw cc

-- ---- at least one answer

read_meaning : (text : List ℕ) (d : Description) (r : Result Image Flaw) → ReadsDocument (Ok d) text → meaning d ≡ r → IsRead text
read_meaning text d (Ok image) read means = inl (image, record { description = d; read = read; means = means })
read_meaning text d (Err flaw) read means =
    inr (fault_of flaw, inr (record { description = d; read = read; flaw = flaw; means = means; told = refl }))

read_table : (text : List ℕ) (t : Members) (faults : List ImageFault) → IsDocument text t → form_faults t ≡ faults → IsRead text
read_table text t [] is none = read_meaning text (description_of t) (meaning (description_of t)) (t, is, none, refl) refl
read_table text t (e ∷ rest) is some = inr (e, inl (inr (t, is, subst (λ (fs : List ImageFault). first_of fs ≡ Some e) (sym some) refl)))

no_document : (text : List ℕ) → ((t : Members) → ¬ IsDocument text t) → IsRead text
no_document text none = inr (fault.NotToml, inl (inl (refl, none)))

read_utf8 : (text : List ℕ) (parsed : Option Members) → is_utf8 text ≡ true → parse_document text ≡ parsed → IsRead text
read_utf8 text None utf8 parsed = no_document text (λ t is. let p = is.parsed in cc)
read_utf8 text (Some t) utf8 parsed = read_table text t (form_faults t) (record { utf8 = IsUtf8-from_is_utf8 text utf8; parsed = parsed }) refl

read_bytes : (text : List ℕ) (b : Bool) → is_utf8 text ≡ b → IsRead text
read_bytes text true is = read_utf8 text (parse_document text) is refl
read_bytes text false isnt = no_document text (λ t is. let utf8 = is_utf8-from_IsUtf8 text is.utf8 in cc)

pub read_text : (text : List ℕ) → IsRead text
read_text text = read_bytes text (is_utf8 text) refl
