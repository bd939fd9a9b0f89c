-- The names of a lawful image have no spaces, and what is shown by them.
use Rattle.std.proofs.Common.{◌≡◌, ℕ, ◌-◌, Bool, true, false, if◌then◌else◌, List, [], ◌++◌, refl, sym, ◌∙◌, Option, Some, None, slice_get}
use Rattle.std.specs.Prelude.{IfSome, ◌==◌, codes, decimal, map}
use Rattle.std.proofs.lemmas.Bool.{and_parts}
use Rattle.std.specs.List.{list_all}
use Rattle.std.proofs.lemmas.List.Folds.{list_all-append, list_all-map}
use Rattle.um_base.specs.declared.attr.Attr.{Attr}
use Rattle.um_base.specs.declared.image.DomainDef.{DomainDef}
use Rattle.um_base.specs.declared.image.Futex.{Futex}
use Rattle.um_base.specs.declared.image.Image.{Image}
use Rattle.um_base.specs.declared.image.ObjectDef.{ObjectDef}
use Rattle.um_base.specs.declared.image.Partition.{Partition}
use Rattle.um_base.specs.declared.image.Pool.{Pool}
use Rattle.um_base.specs.declared.image.Script.{Script}
use Rattle.um_base.specs.declared.limits.TheConstants.{STATIC_ROWS}
use Rattle.um_base.specs.declared.names.Errno.{Errno}
use Rattle.um_base.specs.declared.names.Range.{Range}
use Rattle.um_base.specs.declared.names.Reply.{Reply}
use Rattle.um_base.specs.Lawful.{is_name, IsLawful}
use Rattle.um_base.specs.Places.{own_row, row_at}
use Rattle.um_trace.specs.Digits.{address}
use Rattle.um_vocabulary.specs.Words.{errno_word, attr_word}
use Rattle.um_trace.specs.Names.{row_in, row_text, thread_text, object_in, object_text, domain_in, domain_text, script_in, script_text, part_text, reply_text}
use Rattle.um_texts.proofs.PlainLemmas.{solid, all_get, solid_append, decimal_solid, address_solid, name_solid}

-- the names that lines show
pub record AreNamed (image : Image) : Type 0 where
  pub domains : list_all (λ (d : DomainDef). is_name d.name) image.domains ≡ true
  pub objects : list_all (λ (o : ObjectDef). is_name o.name) image.objects ≡ true
  pub scripts : list_all (λ (s : Script). is_name s.name) image.scripts ≡ true

all_front : (xs ys : List (List ℕ)) → list_all is_name (xs ++ ys) ≡ true → list_all is_name xs ≡ true
all_front xs ys h = (and_parts (list_all is_name xs) (list_all is_name ys) (rw list_all-append at h)).0

all_back : (xs ys : List (List ℕ)) → list_all is_name (xs ++ ys) ≡ true → list_all is_name ys ≡ true
all_back xs ys h = (and_parts (list_all is_name xs) (list_all is_name ys) (rw list_all-append at h)).1

pub are_named : (image : Image) → IsLawful image → AreNamed image
are_named image lawful =
    let pools = map (λ (p : Pool). p.name) image.pools in
    let partitions = map (λ (p : Partition). p.name) image.partitions in
    let domains = map (λ (d : DomainDef). d.name) image.domains in
    let objects = map (λ (o : ObjectDef). o.name) image.objects in
    let scripts = map (λ (s : Script). s.name) image.scripts in
    let futexes = map (λ (f : Futex). f.name) image.futexes in
    let before_futexes = all_front (pools ++ partitions ++ domains ++ objects ++ scripts) futexes lawful.names in
    let before_scripts = all_front (pools ++ partitions ++ domains ++ objects) scripts before_futexes in
    let before_objects = all_front (pools ++ partitions ++ domains) objects before_scripts in
    record {
      domains = sym (list_all-map is_name (λ (d : DomainDef). d.name) image.domains) ∙ all_back (pools ++ partitions) domains before_objects;
      objects = sym (list_all-map is_name (λ (o : ObjectDef). o.name) image.objects) ∙ all_back (pools ++ partitions ++ domains) objects before_scripts;
      scripts = sym (list_all-map is_name (λ (s : Script). s.name) image.scripts) ∙ all_back (pools ++ partitions ++ domains ++ objects) scripts before_futexes;
    }

row_in_solid : (o : Option ObjectDef) (x : ℕ) → IfSome o (λ (d : ObjectDef). is_name d.name ≡ true) → solid (row_in o x) ≡ true
row_in_solid (Some o) x h = name_solid o.name h
row_in_solid None x h = solid_append (codes "#") (decimal (x - STATIC_ROWS)) refl (decimal_solid (x - STATIC_ROWS))

pub row_solid : (image : Image) → AreNamed image → (x : ℕ) → solid (row_text image x) ≡ true
unfolding row_text
row_solid image named x = row_in_solid (slice_get image.objects x) x (all_get (λ (o : ObjectDef). is_name o.name) image.objects x named.objects)

pub thread_solid : (image : Image) → AreNamed image → (t : ℕ) → solid (thread_text image t) ≡ true
unfolding thread_text
thread_solid image named t = row_solid image named (own_row image t)

object_in_solid : (image : Image) → AreNamed image → (a : ℕ) (o : Option ℕ) → solid (object_in image a o) ≡ true
object_in_solid image named a (Some x) = row_solid image named x
object_in_solid image named a None = address_solid a

pub object_solid : (image : Image) → AreNamed image → (a : ℕ) → solid (object_text image a) ≡ true
unfolding object_text
object_solid image named a = object_in_solid image named a (row_at image a)

-- what is named, where it is there
in_solid : {A : Type 0} (name : A → List ℕ) (text : Option A → List ℕ) → text None ≡ [] → ((x : A) → text (Some x) ≡ name x)
    → (o : Option A) → IfSome o (λ x. is_name (name x) ≡ true) → solid (text o) ≡ true
in_solid name text none some (Some x) h = rw (some x) (name_solid (name x) h)
in_solid name text none some None h = rw none refl

pub domain_solid : (image : Image) → AreNamed image → (d : ℕ) → solid (domain_text image d) ≡ true
unfolding domain_text
domain_solid image named d = in_solid (λ (x : DomainDef). x.name) domain_in refl (λ x. refl) (slice_get image.domains d) (all_get (λ (x : DomainDef). is_name x.name) image.domains d named.domains)

pub script_solid : (image : Image) → AreNamed image → (i : ℕ) → solid (script_text image i) ≡ true
unfolding script_text
script_solid image named i = in_solid (λ (x : Script). x.name) script_in refl (λ x. refl) (slice_get image.scripts i) (all_get (λ (x : Script). is_name x.name) image.scripts i named.scripts)

pub errno_solid : (e : Errno) → solid (errno_word e) ≡ true
errno_solid Errno.EPERM = refl
errno_solid e = refl

if_solid : (b : Bool) (xs ys : List ℕ) → solid xs ≡ true → solid ys ≡ true → solid (if b then xs else ys) ≡ true
if_solid true xs ys h k = h
if_solid false xs ys h k = k

attr_solid : (attr : Attr) → solid (attr_word attr) ≡ true
attr_solid attr =
    if_solid (attr.0 == 27) _ _ refl
    (if_solid (attr.0 == 11) _ _ refl
    (if_solid (attr.0 == 3) _ _ refl
    (if_solid (attr.0 == 9) _ _ refl (if_solid (attr.0 == 1) _ _ refl (if_solid (attr.0 == 45) _ _ refl (if_solid (attr.0 == 63) _ _ refl refl))))))

pub part_solid : (range : Range) (attr : Attr) → solid (part_text range attr) ≡ true
unfolding part_text
part_solid range attr =
    let start = address range.start.0 in
    let size = start ++ codes "/" ++ decimal range.size in
    solid_append (size ++ codes "/") (attr_word attr)
    (solid_append size (codes "/")
    (solid_append (start ++ codes "/") (decimal range.size) (solid_append start (codes "/") (address_solid range.start.0) refl) (decimal_solid range.size)) refl)
    (attr_solid attr)

pub reply_solid : (image : Image) → AreNamed image → (reply : Reply) → solid (reply_text image reply) ≡ true
unfolding reply_text
reply_solid image named Reply.Void = refl
reply_solid image named (Reply.Num n) = decimal_solid n
reply_solid image named (Reply.At a) = object_solid image named a.0
reply_solid image named Reply.Null = refl
reply_solid image named (Reply.Fail e) = errno_solid e
