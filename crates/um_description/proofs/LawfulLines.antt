-- A readable instruction whose names are known is lawful once they are resolved.
use Rattle.std.proofs.Common.{◌≡◌, ℕ, zero, suc, ◌+◌, ◌≤◌, Bool, true, false, not, ◌&&◌, ◌||◌, nat_lt, nat_le, List, [], ◌∷◌, ◌++◌, length, map, take, IsTrue, if◌then◌else◌, Option, Some, None, option_map, is_some, bytes_eq, filter, cond, refl, sym, ◌∙◌, arith}
use Rattle.std.specs.Prelude.{unwrap_or}
use Rattle.std.specs.List.{list_all}
use Rattle.std.proofs.lemmas.Bool.{false≢true, true≢false, or_parts}
use Rattle.std.proofs.lemmas.Bool.Decides.{nat_tests}
use Rattle.std.proofs.lemmas.List.Folds.{list_all-append}
use Rattle.um_base.specs.declared.image.Image.{Image}
use Rattle.um_base.specs.declared.instr.Instr.{Instr}
use Rattle.um_base.specs.declared.names.PartRef.{PartRef}
use Rattle.um_base.specs.declared.names.Range.{Range}
use Rattle.um_base.specs.declared.names.Ref.{Ref}
use Rattle.um_base.specs.declared.names.Term.{Term}
use Rattle.um_base.specs.declared.names.Timeout.{Timeout}
use Rattle.um_base.specs.Lawful.{is_within, is_register, is_operand, is_number_below, is_later, is_part, is_size, is_dynamic_kind, is_named_attr, is_wait, is_lawful_line}
use Rattle.um_document.specs.declared.description.Description.{Description}
use Rattle.um_document.specs.declared.description.ScriptEntry.{ScriptEntry}
use Rattle.um_script.specs.Writable as writable
use Rattle.um_script.specs.Writable.{is_word32, is_term, is_named, is_line}
use Rattle.um_description.specs.declared.mentions.Wanted.{Wanted}
use Rattle.um_description.specs.Lines.{script_in, is_misordered, name_in}
use Rattle.um_description.specs.Mentions as mention
use Rattle.um_description.specs.Mentions.{Mention, mentions, in_ref, in_part, in_parts, is_stranger, strangers}
use Rattle.um_description.specs.Names.{Text, is_among, named, partition_names, domain_names, script_names}
use Rattle.um_description.specs.Resolve.{number_named, term_of, ref_of, part_of, resolved, without_scripts, image_in}
use Rattle.um_description.proofs.LawfulDistinct.{is_known, number_below}
use Rattle.um_description.proofs.LawfulLists.{and_true, both_true}

-- ---- names

abbrev pub knows : Description → Mention → Bool
knows d m = mention.is_known d m.wanted m.name

known_by : (d : Description) (m : Mention) (ms : List Mention) (b : Bool) → knows d m ≡ b → map (λ (x : Mention). x.at) (cond (not b) (m ∷ filter (is_stranger d) ms) (filter (is_stranger d) ms)) ≡ []
    → (map (λ (x : Mention). x.at) (filter (is_stranger d) ms) ≡ [] → IsTrue (list_all (knows d) ms)) → IsTrue (knows d m && list_all (knows d) ms)
known_by d m ms true is h rest = both_true (knows d m) (list_all (knows d) ms) is (rest h)
known_by d m ms false is h rest = absurd cc

-- names without strangers are known
pub all_known : (d : Description) (ms : List Mention) → strangers d ms ≡ [] → IsTrue (list_all (knows d) ms)
unfolding strangers
all_known d [] h = refl
all_known d (m ∷ ms) h = known_by d m ms (knows d m) refl h (all_known d ms)

front_known : (d : Description) (xs ys : List Mention) → IsTrue (list_all (knows d) (xs ++ ys)) → IsTrue (list_all (knows d) xs)
front_known d xs ys h = (and_true (list_all (knows d) xs) (list_all (knows d) ys) (sym (list_all-append (knows d) xs ys) ∙ h)).0

back_known : (d : Description) (xs ys : List Mention) → IsTrue (list_all (knows d) (xs ++ ys)) → IsTrue (list_all (knows d) ys)
back_known d xs ys h = (and_true (list_all (knows d) xs) (list_all (knows d) ys) (sym (list_all-append (knows d) xs ys) ∙ h)).1

first_known : (a : Bool) → IsTrue (a && true) → IsTrue a
first_known a h = (and_true a true h).0

among_by : (here : Bool) (rest : Bool) (o : Option ℕ) → IsTrue (here || rest) → (IsTrue rest → IsTrue (is_some o)) → IsTrue (is_some (if here then Some 0 else option_map (λ i. i + 1) o))
among_by true rest o h later = refl
among_by false rest None h later = absurd (false≢true (later h))
among_by false rest (Some i) h later = refl

-- a text among names has a number
pub known_among : (names : List Text) (text : Text) → IsTrue (is_among text names) → IsTrue (is_known names text)
known_among [] text h = absurd (false≢true h)
known_among (name ∷ names) text h = among_by (bytes_eq text name) (is_among text names) (named names text) h (known_among names text)

number_passes : (names : List Text) (text : Text) (n : ℕ) → length names ≡ n → IsTrue (is_among text names) → IsTrue (nat_lt (number_named names text) n)
number_passes names text n same h = let lt = number_below names text (known_among names text h) in grind (arith, nat_tests, same, lt)

later_by : (k : ℕ) (o : Option ℕ) → IsTrue (is_some (option_map (λ i. i + 1) o)) → (IsTrue (is_some o) → k ≤ unwrap_or o 0) → suc k ≤ unwrap_or (option_map (λ i. i + 1) o) 0
later_by k None known later = absurd (false≢true known)
later_by k (Some i) known later = omega (arith, later refl)

later_here : (k : ℕ) (here : Bool) (o : Option ℕ) → here ≡ false → IsTrue (is_some (if here then Some 0 else option_map (λ i. i + 1) o)) → (IsTrue (is_some o) → k ≤ unwrap_or o 0)
    → suc k ≤ unwrap_or (if here then Some 0 else option_map (λ i. i + 1) o) 0
later_here k true o other known later = absurd (true≢false other)
later_here k false o other known later = later_by k o known later

abbrev script_name : ScriptEntry → Text
script_name s = s.name

-- a name that isn't among the first ones has a number behind them
later_number : (k : ℕ) (scripts : List ScriptEntry) (text : Text) → is_among text (map script_name (take k scripts)) ≡ false → IsTrue (is_known (map script_name scripts) text)
    → k ≤ number_named (map script_name scripts) text
later_number zero scripts text other known = omega arith
later_number (suc k) [] text other known = absurd (false≢true known)
later_number (suc k) (s ∷ scripts) text other known =
    let parts = or_parts (bytes_eq text s.name) (is_among text (map script_name (take k scripts))) other in
    later_here k (bytes_eq text s.name) (named (map script_name scripts) text) parts.0 known (later_number k scripts text parts.1)

-- ---- operands

term_lawful : (image : Image) (d : Description) (t : Term) → IsTrue (is_term t) → IsTrue (is_operand (term_of image d t))
term_lawful image d (Term.Num n) h = refl
term_lawful image d (Term.Reg r) h = h
term_lawful image d (Term.Place name offset) h = refl

ref_lawful : (d : Description) (wanted : Wanted) (at : ℕ) (names : List Text) (n : ℕ) (r : Ref) → length names ≡ n → ((text : Text) → IsTrue (mention.is_known d wanted text) → IsTrue (is_among text names))
    → IsTrue (is_named r) → IsTrue (list_all (knows d) (in_ref wanted at r)) → IsTrue (is_number_below n (ref_of names r))
ref_lawful d wanted at names n (Ref.Named name) same known given h = number_passes names name n same (known name (first_known (mention.is_known d wanted name) h))
ref_lawful d wanted at names n (Ref.At i) same known given h = absurd (false≢true given)

abbrev base : Description → List Range → List Range → Image
base d ps ss = without_scripts d ps ss

-- the image's lists are as long as the description's names
pub record AreAsMany (d : Description) (ps ss : List Range) : Type 0 where
  pub domains : length (domain_names d) ≡ length (image_in d ps ss).domains
  pub partitions : length (partition_names d) ≡ length (image_in d ps ss).partitions
  pub scripts : length (script_names d) ≡ length (image_in d ps ss).scripts

domain_lawful : (d : Description) (ps ss : List Range) (r : Ref) → AreAsMany d ps ss → IsTrue (is_named r) → IsTrue (list_all (knows d) (in_ref Wanted.Domain 1 r))
    → IsTrue (is_number_below (length (image_in d ps ss).domains) (ref_of (domain_names d) r))
domain_lawful d ps ss r many given h = ref_lawful d Wanted.Domain 1 (domain_names d) (length (image_in d ps ss).domains) r many.domains (λ text k. k) given h

part_lawful : (d : Description) (ps ss : List Range) (at : ℕ) (p : PartRef) → AreAsMany d ps ss → IsTrue (writable.is_part p) → IsTrue (list_all (knows d) (in_part at p))
    → IsTrue (is_part (image_in d ps ss) (part_of (partition_names d) p))
part_lawful d ps ss at (PartRef.Named name) many given h =
    number_passes (partition_names d) name (length (image_in d ps ss).partitions) many.partitions (first_known (is_among name (partition_names d)) h)
part_lawful d ps ss at (PartRef.At i) many given h = absurd (false≢true given)
part_lawful d ps ss at (PartRef.Given range attr) many given h = (and_true (is_word32 range.start.0 && is_word32 range.size) (is_named_attr attr) given).1

parts_lawful : (d : Description) (ps ss : List Range) (at : ℕ) (parts : List PartRef) → AreAsMany d ps ss → IsTrue (list_all writable.is_part parts) → IsTrue (list_all (knows d) (in_parts at parts))
    → IsTrue (list_all (is_part (image_in d ps ss)) (map (part_of (partition_names d)) parts))
parts_lawful d ps ss at [] many given h = refl
parts_lawful d ps ss at (p ∷ parts) many given h =
    let both = and_true (writable.is_part p) (list_all writable.is_part parts) given in
    both_true (is_part (image_in d ps ss) (part_of (partition_names d) p)) (list_all (is_part (image_in d ps ss)) (map (part_of (partition_names d)) parts))
    (part_lawful d ps ss at p many both.0 (front_known d (in_part at p) (in_parts (at + 1) parts) h))
    (parts_lawful d ps ss (at + 1) parts many both.1 (back_known d (in_part at p) (in_parts (at + 1) parts) h))

script_lawful : (d : Description) (ps ss : List Range) (i at : ℕ) (r : Ref) → AreAsMany d ps ss → IsTrue (is_named r) → IsTrue (list_all (knows d) (in_ref Wanted.Script at r)) → is_misordered d i (name_in r) ≡ false
    → IsTrue (is_later (image_in d ps ss) i (ref_of (script_names d) r))
script_lawful d ps ss i at (Ref.At c) many given h order = absurd (false≢true given)
script_lawful d ps ss i at (Ref.Named name) many given h order =
    let among = first_known (is_among name (script_names d)) h in
    let behind : i + 1 ≤ number_named (script_names d) name = later_number (i + 1) d.scripts name order (known_among (script_names d) name among) in
    let first : IsTrue (nat_lt i (number_named (script_names d) name)) = grind (arith, nat_tests, behind) in
    both_true (nat_lt i (number_named (script_names d) name)) (nat_lt (number_named (script_names d) name) (length (image_in d ps ss).scripts)) first
    (number_passes (script_names d) name (length (image_in d ps ss).scripts) many.scripts among)

-- ---- what is said of several operands

one : (image : Image) (d : Description) (a : Term) → IsTrue (is_term a && true) → IsTrue (is_operand (term_of image d a))
one image d a h = term_lawful image d a (first_known (is_term a) h)

two : (image : Image) (d : Description) (a b : Term) → IsTrue (is_term a && (is_term b && true)) → IsTrue (is_operand (term_of image d a) && is_operand (term_of image d b))
two image d a b h =
    let x = and_true (is_term a) (is_term b && true) h in
    both_true (is_operand (term_of image d a)) (is_operand (term_of image d b)) (term_lawful image d a x.0) (one image d b x.1)

three : (image : Image) (d : Description) (a b c : Term) → IsTrue (is_term a && (is_term b && (is_term c && true))) → IsTrue (is_operand (term_of image d a) && is_operand (term_of image d b) && is_operand (term_of image d c))
three image d a b c h =
    let x = and_true (is_term a) (is_term b && (is_term c && true)) h in
    let y = and_true (is_term b) (is_term c && true) x.1 in
    both_true (is_operand (term_of image d a) && is_operand (term_of image d b)) (is_operand (term_of image d c))
    (both_true (is_operand (term_of image d a)) (is_operand (term_of image d b)) (term_lawful image d a x.0) (term_lawful image d b y.0)) (one image d c y.1)

one_in_time : (image : Image) (d : Description) (a : Term) (w : Timeout) → IsTrue (is_term a && (is_wait w && true)) → IsTrue (is_operand (term_of image d a) && is_wait w)
one_in_time image d a w h =
    let x = and_true (is_term a) (is_wait w && true) h in both_true (is_operand (term_of image d a)) (is_wait w) (term_lawful image d a x.0) (first_known (is_wait w) x.1)

two_in_time : (image : Image) (d : Description) (a b : Term) (w : Timeout) → IsTrue (is_term a && (is_term b && (is_wait w && true))) → IsTrue (is_operand (term_of image d a) && is_operand (term_of image d b) && is_wait w)
two_in_time image d a b w h =
    let x = and_true (is_term a) (is_term b && (is_wait w && true)) h in
    let y = and_true (is_term b) (is_wait w && true) x.1 in
    both_true (is_operand (term_of image d a) && is_operand (term_of image d b)) (is_wait w)
    (both_true (is_operand (term_of image d a)) (is_operand (term_of image d b)) (term_lawful image d a x.0) (term_lawful image d b y.0)) (first_known (is_wait w) y.1)

three_in_time : (image : Image) (d : Description) (a b c : Term) (w : Timeout) → IsTrue (is_term a && (is_term b && (is_term c && (is_wait w && true))))
    → IsTrue (is_operand (term_of image d a) && is_operand (term_of image d b) && is_operand (term_of image d c) && is_wait w)
three_in_time image d a b c w h =
    let x = and_true (is_term a) (is_term b && (is_term c && (is_wait w && true))) h in
    let y = and_true (is_term b) (is_term c && (is_wait w && true)) x.1 in
    let z = and_true (is_term c) (is_wait w && true) y.1 in
    both_true (is_operand (term_of image d a) && is_operand (term_of image d b) && is_operand (term_of image d c)) (is_wait w)
    (both_true (is_operand (term_of image d a) && is_operand (term_of image d b)) (is_operand (term_of image d c))
    (both_true (is_operand (term_of image d a)) (is_operand (term_of image d b)) (term_lawful image d a x.0) (term_lawful image d b y.0)) (term_lawful image d c z.0)) (first_known (is_wait w) z.1)

register_and : (image : Image) (d : Description) (r : ℕ) (a : Term) → IsTrue (is_register r && (is_term a && true)) → IsTrue (is_register r && is_operand (term_of image d a))
register_and image d r a h =
    let x = and_true (is_register r) (is_term a && true) h in both_true (is_register r) (is_operand (term_of image d a)) x.0 (one image d a x.1)

and_register : (image : Image) (d : Description) (a : Term) (r : ℕ) → IsTrue (is_term a && (is_register r && true)) → IsTrue (is_operand (term_of image d a) && is_register r)
and_register image d a r h =
    let x = and_true (is_term a) (is_register r && true) h in both_true (is_operand (term_of image d a)) (is_register r) (term_lawful image d a x.0) (first_known (is_register r) x.1)

load : (image : Image) (d : Description) (r : ℕ) (a : Term) (n : ℕ) → IsTrue (is_register r && (is_term a && (is_size n && true))) → IsTrue (is_register r && is_operand (term_of image d a) && is_size n)
load image d r a n h =
    let x = and_true (is_register r) (is_term a && (is_size n && true)) h in
    let y = and_true (is_term a) (is_size n && true) x.1 in
    both_true (is_register r && is_operand (term_of image d a)) (is_size n) (both_true (is_register r) (is_operand (term_of image d a)) x.0 (term_lawful image d a y.0)) (first_known (is_size n) y.1)

store : (image : Image) (d : Description) (a : Term) (n : ℕ) (b : Term) → IsTrue (is_term a && (is_size n && (is_term b && true))) → IsTrue (is_operand (term_of image d a) && is_size n && is_operand (term_of image d b))
store image d a n b h =
    let x = and_true (is_term a) (is_size n && (is_term b && true)) h in
    let y = and_true (is_size n) (is_term b && true) x.1 in
    both_true (is_operand (term_of image d a) && is_size n) (is_operand (term_of image d b)) (both_true (is_operand (term_of image d a)) (is_size n) (term_lawful image d a x.0) y.0) (one image d b y.1)

-- ---- lines

create_lawful : (d : Description) (ps ss : List Range) (i : ℕ) (thread stack size : Term) (script : Ref) (rest : Bool) → AreAsMany d ps ss
    → IsTrue (is_term thread && (is_term stack && (is_term size && (is_named script && rest))))
    → IsTrue (list_all (knows d) (in_ref Wanted.Script 4 script)) → is_misordered d i (name_in script) ≡ false
    → IsTrue (is_operand (term_of (base d ps ss) d thread) && is_operand (term_of (base d ps ss) d stack) && is_operand (term_of (base d ps ss) d size) && is_later (image_in d ps ss) i (ref_of (script_names d) script))
create_lawful d ps ss i thread stack size script rest many h known order =
    let x = and_true (is_term thread) (is_term stack && (is_term size && (is_named script && rest))) h in
    let y = and_true (is_term stack) (is_term size && (is_named script && rest)) x.1 in
    let z = and_true (is_term size) (is_named script && rest) y.1 in
    let a = is_operand (term_of (base d ps ss) d thread) in
    let b = is_operand (term_of (base d ps ss) d stack) in
    let c = is_operand (term_of (base d ps ss) d size) in
    both_true (a && b && c) (is_later (image_in d ps ss) i (ref_of (script_names d) script))
    (both_true (a && b) c (both_true a b (term_lawful (base d ps ss) d thread x.0) (term_lawful (base d ps ss) d stack y.0)) (term_lawful (base d ps ss) d size z.0))
    (script_lawful d ps ss i 4 script many (and_true (is_named script) rest z.1).0 known order)

init_lawful : (d : Description) (ps ss : List Range) (m : Ref) (parts : List PartRef) → AreAsMany d ps ss → IsTrue (is_named m && (nat_le (length parts) 4 && list_all writable.is_part parts && true))
    → IsTrue (list_all (knows d) (in_ref Wanted.Domain 1 m ++ in_parts 2 parts))
    → IsTrue (is_number_below (length (image_in d ps ss).domains) (ref_of (domain_names d) m) && list_all (is_part (image_in d ps ss)) (map (part_of (partition_names d)) parts))
init_lawful d ps ss m parts many h known =
    let x = and_true (is_named m) (nat_le (length parts) 4 && list_all writable.is_part parts && true) h in
    both_true (is_number_below (length (image_in d ps ss).domains) (ref_of (domain_names d) m)) (list_all (is_part (image_in d ps ss)) (map (part_of (partition_names d)) parts))
    (domain_lawful d ps ss m many x.0 (front_known d (in_ref Wanted.Domain 1 m) (in_parts 2 parts) known))
    (parts_lawful d ps ss 2 parts many (and_true (nat_le (length parts) 4) (list_all writable.is_part parts) (first_known (nat_le (length parts) 4 && list_all writable.is_part parts) x.1)).1 (back_known d (in_ref Wanted.Domain 1 m) (in_parts 2 parts) known))

edit_lawful : (d : Description) (ps ss : List Range) (m : Ref) (p : PartRef) → AreAsMany d ps ss → IsTrue (is_named m && (writable.is_part p && true))
    → IsTrue (list_all (knows d) (in_ref Wanted.Domain 1 m ++ in_part 2 p))
    → IsTrue (is_number_below (length (image_in d ps ss).domains) (ref_of (domain_names d) m) && is_part (image_in d ps ss) (part_of (partition_names d) p))
edit_lawful d ps ss m p many h known =
    let x = and_true (is_named m) (writable.is_part p && true) h in
    both_true (is_number_below (length (image_in d ps ss).domains) (ref_of (domain_names d) m)) (is_part (image_in d ps ss) (part_of (partition_names d) p))
    (domain_lawful d ps ss m many x.0 (front_known d (in_ref Wanted.Domain 1 m) (in_part 2 p) known))
    (part_lawful d ps ss 2 p many (first_known (writable.is_part p) x.1) (back_known d (in_ref Wanted.Domain 1 m) (in_part 2 p) known))

move_lawful : (d : Description) (ps ss : List Range) (m : Ref) (thread : Term) → AreAsMany d ps ss → IsTrue (is_named m && (is_term thread && true))
    → IsTrue (list_all (knows d) (in_ref Wanted.Domain 1 m ++ mention.in_term 2 thread))
    → IsTrue (is_number_below (length (image_in d ps ss).domains) (ref_of (domain_names d) m) && is_operand (term_of (base d ps ss) d thread))
move_lawful d ps ss m thread many h known =
    let x = and_true (is_named m) (is_term thread && true) h in
    both_true (is_number_below (length (image_in d ps ss).domains) (ref_of (domain_names d) m)) (is_operand (term_of (base d ps ss) d thread))
    (domain_lawful d ps ss m many x.0 (front_known d (in_ref Wanted.Domain 1 m) (mention.in_term 2 thread) known)) (one (base d ps ss) d thread x.1)

alloc_lawful : (a b : Bool) → IsTrue (a && (b && true)) → IsTrue (a && b)
alloc_lawful a b h = let x = and_true a (b && true) h in both_true a b x.0 (first_known b x.1)

pub line_lawful : (d : Description) (ps ss : List Range) (i : ℕ) (line : Instr) → AreAsMany d ps ss → IsTrue (is_line line) → IsTrue (list_all (knows d) (mentions line)) → is_misordered d i (script_in line) ≡ false
    → IsTrue (is_lawful_line (image_in d ps ss) i (resolved (base d ps ss) d line))
line_lawful d ps ss i Instr.End many h known order = refl
line_lawful d ps ss i Instr.Oops many h known order = refl
line_lawful d ps ss i Instr.Panic many h known order = refl
line_lawful d ps ss i (Instr.Repeat times) many h known order = first_known (is_within 1 1000 times) h
line_lawful d ps ss i (Instr.Set to value) many h known order = register_and (base d ps ss) d to value h
line_lawful d ps ss i (Instr.Add to value) many h known order = register_and (base d ps ss) d to value h
line_lawful d ps ss i (Instr.Load to addr size) many h known order = load (base d ps ss) d to addr size h
line_lawful d ps ss i (Instr.Store addr size value) many h known order = store (base d ps ss) d addr size value h
line_lawful d ps ss i (Instr.Exec addr) many h known order = one (base d ps ss) d addr h
line_lawful d ps ss i (Instr.DomainInit m parts) many h known order = init_lawful d ps ss m parts many h known
line_lawful d ps ss i (Instr.DomainAdd m part) many h known order = edit_lawful d ps ss m part many h known
line_lawful d ps ss i (Instr.DomainRemove m part) many h known order = edit_lawful d ps ss m part many h known
line_lawful d ps ss i (Instr.DomainMove m thread) many h known order = move_lawful d ps ss m thread many h known
line_lawful d ps ss i (Instr.ObjectAlloc kind to) many h known order = alloc_lawful (is_dynamic_kind kind) (is_register to) h
line_lawful d ps ss i (Instr.Grant object thread) many h known order = two (base d ps ss) d object thread h
line_lawful d ps ss i (Instr.Revoke object thread) many h known order = two (base d ps ss) d object thread h
line_lawful d ps ss i (Instr.Release object) many h known order = one (base d ps ss) d object h
line_lawful d ps ss i (Instr.AllGrant object) many h known order = one (base d ps ss) d object h
line_lawful d ps ss i (Instr.SemGive object) many h known order = one (base d ps ss) d object h
line_lawful d ps ss i (Instr.SemReset object) many h known order = one (base d ps ss) d object h
line_lawful d ps ss i (Instr.MutexInit object) many h known order = one (base d ps ss) d object h
line_lawful d ps ss i (Instr.MutexUnlock object) many h known order = one (base d ps ss) d object h
line_lawful d ps ss i (Instr.MsgqPurge object) many h known order = one (base d ps ss) d object h
line_lawful d ps ss i (Instr.PipeReset object) many h known order = one (base d ps ss) d object h
line_lawful d ps ss i (Instr.PipeClose object) many h known order = one (base d ps ss) d object h
line_lawful d ps ss i (Instr.Create thread stack size script priority options) many h known order =
    create_lawful d ps ss i thread stack size script _ many h
    (back_known d (mention.in_term 1 thread ++ mention.in_term 2 stack ++ mention.in_term 3 size) (in_ref Wanted.Script 4 script) known) order
line_lawful d ps ss i (Instr.UserMode script) many h known order = script_lawful d ps ss i 1 script many (first_known (is_named script) h) known order
line_lawful d ps ss i (Instr.NameSet thread addr) many h known order = two (base d ps ss) d thread addr h
line_lawful d ps ss i (Instr.SemInit object count limit) many h known order = three (base d ps ss) d object count limit h
line_lawful d ps ss i (Instr.SemTake object timeout) many h known order = one_in_time (base d ps ss) d object timeout h
line_lawful d ps ss i (Instr.MutexLock object timeout) many h known order = one_in_time (base d ps ss) d object timeout h
line_lawful d ps ss i (Instr.SemCount object to) many h known order = and_register (base d ps ss) d object to h
line_lawful d ps ss i (Instr.MsgqUsed object to) many h known order = and_register (base d ps ss) d object to h
line_lawful d ps ss i (Instr.MsgqInit object size most) many h known order = three (base d ps ss) d object size most h
line_lawful d ps ss i (Instr.MsgqPut object addr timeout) many h known order = two_in_time (base d ps ss) d object addr timeout h
line_lawful d ps ss i (Instr.MsgqGet object addr timeout) many h known order = two_in_time (base d ps ss) d object addr timeout h
line_lawful d ps ss i (Instr.StackPop object addr timeout) many h known order = two_in_time (base d ps ss) d object addr timeout h
line_lawful d ps ss i (Instr.MsgqPeek object addr) many h known order = two (base d ps ss) d object addr h
line_lawful d ps ss i (Instr.StackInit object entries) many h known order = two (base d ps ss) d object entries h
line_lawful d ps ss i (Instr.StackPush object value) many h known order = two (base d ps ss) d object value h
line_lawful d ps ss i (Instr.PipeInit object size) many h known order = two (base d ps ss) d object size h
line_lawful d ps ss i (Instr.PipeWrite object addr n timeout) many h known order = three_in_time (base d ps ss) d object addr n timeout h
line_lawful d ps ss i (Instr.PipeRead object addr n timeout) many h known order = three_in_time (base d ps ss) d object addr n timeout h
line_lawful d ps ss i (Instr.TimerStart object ticks) many h known order = two (base d ps ss) d object ticks h
line_lawful d ps ss i (Instr.TimerStop object) many h known order = one (base d ps ss) d object h
line_lawful d ps ss i (Instr.TimerStatus object to) many h known order = and_register (base d ps ss) d object to h
line_lawful d ps ss i (Instr.TimerSync object to) many h known order = and_register (base d ps ss) d object to h
line_lawful d ps ss i (Instr.Abort thread) many h known order = one (base d ps ss) d thread h
line_lawful d ps ss i (Instr.Join thread timeout) many h known order = one_in_time (base d ps ss) d thread timeout h
line_lawful d ps ss i (Instr.Suspend thread) many h known order = one (base d ps ss) d thread h
line_lawful d ps ss i (Instr.Continue thread) many h known order = one (base d ps ss) d thread h
line_lawful d ps ss i (Instr.FutexWait addr value timeout) many h known order = two_in_time (base d ps ss) d addr value timeout h
line_lawful d ps ss i (Instr.FutexWake addr all) many h known order = one (base d ps ss) d addr h
