-- A line of an image, printed with its names, is read back as the same line.
use Rattle.std.proofs.Common.{◌≡◌, ℕ, suc, ◌+◌, ◌%◌, ◌^◌, ◌<◌, Bool, true, false, ◌&&◌, nat_le, if◌then◌else◌, List, [], ◌∷◌, ◌++◌, map, length, Option, Some, None, option_map, is_some, unwrap_or, bytes_eq, IsTrue, refl, sym, ap, ◌∙◌, arith, Ok, append-nil}
use Rattle.std.proofs.lemmas.Bool.{false≢true}
use Rattle.std.proofs.lemmas.Bool.Decides.{nat_tests}
use Rattle.std.specs.List.{list_all}
use Rattle.um_base.specs.declared.image.Image.{Image}
use Rattle.um_base.specs.declared.instr.Instr.{Instr}
use Rattle.um_base.specs.declared.names.PartRef.{PartRef}
use Rattle.um_base.specs.declared.names.Ref.{Ref}
use Rattle.um_base.specs.declared.names.Term.{Term}
use Rattle.um_base.specs.Lawful.{is_within, is_register, is_size, is_dynamic_kind, is_wait}
use Rattle.um_document.specs.declared.description.Description.{Description}
use Rattle.um_document.proofs.EmptyLists.{and_true}
use Rattle.um_script.specs.Canonical.{canonical}
use Rattle.um_script.specs.Lines.{line_of}
use Rattle.um_script.specs.Writable.{is_word32, is_term, is_named, is_part, is_priority, is_line}
use Rattle.um_script.proofs.LineAgain.{canonical_again}
use Rattle.um_description.specs.declared.mentions.Wanted.{Wanted}
use Rattle.um_description.specs.Lines.{bracket_of, script_in}
use Rattle.um_description.specs.Mentions as mention
use Rattle.um_description.specs.Mentions.{Mention, mentions, in_ref, in_part, in_parts, in_term}
use Rattle.um_description.specs.Names.{Text, is_among, named, partition_names, domain_names, script_names}
use Rattle.um_description.specs.Resolve.{number_named, addr_named, term_of, ref_of, part_of, resolved}
use Rattle.um_description.proofs.LawfulDistinct.{is_known}
use Rattle.um_description.proofs.LawfulLists.{same_text}
use Rattle.um_description.proofs.LawfulLines.{knows, known_among}
use Rattle.um_canonical.specs.Named.{name_at, named_ref, named_part, shown}
use Rattle.um_canonical.proofs.NamedAlike.{AreNamedAlike, front, back, domain_alike, script_alike, init_known, edit_known}

-- ---- names of numbers

later_name : (name text : Text) (names : List Text) (i j : ℕ) → suc i ≡ j → name_at names i ≡ text → name_at (name ∷ names) j ≡ text
later_name name text names i j is h = rw (sym is) h

name_by : (here : Bool) (name text : Text) (names : List Text) (o : Option ℕ) → bytes_eq text name ≡ here → IsTrue (is_some (if here then Some 0 else option_map (λ i. i + 1) o))
    → (IsTrue (is_some o) → name_at names (unwrap_or o 0) ≡ text) → name_at (name ∷ names) (unwrap_or (if here then Some 0 else option_map (λ i. i + 1) o) 0) ≡ text
name_by true name text names o is known later = sym (same_text text name is)
name_by false name text names None is known later = absurd (false≢true known)
name_by false name text names (Some i) is known later = later_name name text names i (i + 1) (omega arith) (later refl)

pub name_back : (names : List Text) (text : Text) → IsTrue (is_known names text) → name_at names (number_named names text) ≡ text
name_back [] text known = absurd (false≢true known)
name_back (name ∷ names) text known = name_by (bytes_eq text name) name text names (named names text) refl known (name_back names text)

ref_back : (d : Description) (wanted : Wanted) (at : ℕ) (names : List Text) (r : Ref) → ((text : Text) → IsTrue (mention.is_known d wanted text) → IsTrue (is_among text names)) → IsTrue (is_named r)
    → IsTrue (list_all (knows d) (in_ref wanted at r)) → named_ref names (ref_of names r) ≡ r
ref_back d wanted at names (Ref.At i) known given h = absurd (false≢true given)
ref_back d wanted at names (Ref.Named name) known given h =
    ap Ref.Named (name_back names name (known_among names name (known name (and_true (mention.is_known d wanted name) true h).0)))

part_back : (d : Description) (at : ℕ) (p : PartRef) → IsTrue (is_part p) → IsTrue (list_all (knows d) (in_part at p)) → named_part (partition_names d) (part_of (partition_names d) p) ≡ p
part_back d at (PartRef.At i) given h = absurd (false≢true given)
part_back d at (PartRef.Named name) given h =
    ap PartRef.Named (name_back (partition_names d) name (known_among (partition_names d) name (and_true (is_among name (partition_names d)) true h).0))
part_back d at (PartRef.Given range attr) given h = refl

parts_back : (d : Description) (at : ℕ) (parts : List PartRef) → IsTrue (list_all is_part parts) → IsTrue (list_all (knows d) (in_parts at parts))
    → map (named_part (partition_names d)) (map (part_of (partition_names d)) parts) ≡ parts
parts_back d at [] given h = refl
parts_back d at (p ∷ parts) given h =
    let both = and_true (is_part p) (list_all is_part parts) given in
    rw (part_back d at p both.0 (front d (in_part at p) (in_parts (at + 1) parts) h), parts_back d (at + 1) parts both.1 (back d (in_part at p) (in_parts (at + 1) parts) h)) refl

domain_back : (d : Description) (r : Ref) → IsTrue (is_named r) → IsTrue (list_all (knows d) (in_ref Wanted.Domain 1 r)) → named_ref (domain_names d) (ref_of (domain_names d) r) ≡ r
domain_back d r given h = ref_back d Wanted.Domain 1 (domain_names d) r (λ text k. k) given h

script_back : (d : Description) (at : ℕ) (r : Ref) → IsTrue (is_named r) → IsTrue (list_all (knows d) (in_ref Wanted.Script at r)) → named_ref (script_names d) (ref_of (script_names d) r) ≡ r
script_back d at r given h = ref_back d Wanted.Script at (script_names d) r (λ text k. k) given h

-- ---- places are numbers

wrapped : (n : ℕ) → IsTrue (is_word32 (n % 2 ^ 32))
wrapped n = let lt : n % 2 ^ 32 < 2 ^ 32 = omega arith in grind (arith, nat_tests, lt)

term_word : (image : Image) (d : Description) (t : Term) → IsTrue (is_term t) → IsTrue (is_term (term_of image d t))
term_word image d (Term.Num n) h = h
term_word image d (Term.Reg r) h = h
term_word image d (Term.Place name offset) h = wrapped (addr_named image d name + offset)

term_twice : (image : Image) (e d : Description) (t : Term) → term_of image e (term_of image d t) ≡ term_of image d t
term_twice image e d (Term.Num n) = refl
term_twice image e d (Term.Reg r) = refl
term_twice image e d (Term.Place name offset) = refl

-- ---- lines

silent : (image : Image) (d : Description) (t : Term) (at : ℕ) → in_term at (term_of image d t) ≡ []
silent image d (Term.Num n) at = refl
silent image d (Term.Reg r) at = refl
silent image d (Term.Place name offset) at = refl

abbrev pub shown_in : Description → Instr → Instr
shown_in d line = shown (partition_names d) (domain_names d) (script_names d) line

pub record IsShown (image : Image) (e d : Description) (line : Instr) : Type 0 where
  pub writable : IsTrue (is_line (shown_in d (resolved image d line)))
  pub again : resolved image e (shown_in d (resolved image d line)) ≡ resolved image d line
  pub bracket : bracket_of (Some (shown_in d (resolved image d line))) ≡ bracket_of (Some line)
  pub script : script_in (shown_in d (resolved image d line)) ≡ script_in line
  pub known : IsTrue (list_all (knows e) (mentions (shown_in d (resolved image d line))))

pub line_shown : (image : Image) (e d : Description) → AreNamedAlike e d → (line : Instr) → IsTrue (is_line line) → IsTrue (list_all (knows d) (mentions line)) → IsShown image e d line
line_shown image e d alike Instr.End h known = record { writable = refl; again = refl; bracket = refl; script = refl; known = refl }
line_shown image e d alike Instr.Oops h known = record { writable = refl; again = refl; bracket = refl; script = refl; known = refl }
line_shown image e d alike Instr.Panic h known = record { writable = refl; again = refl; bracket = refl; script = refl; known = refl }
line_shown image e d alike (Instr.Repeat times) h known =
    let p0 = and_true (is_within 1 1000 times) true h in
    record { writable = rw (p0.0) refl; again = refl; bracket = refl; script = refl; known = refl }
line_shown image e d alike (Instr.Set to value) h known =
    let p0 = and_true (is_register to) (is_term value && true) h in
    let p1 = and_true (is_term value) true p0.1 in
    record { writable = rw (p0.0, term_word image d value p1.0) refl; again = rw (term_twice image e d value) refl; bracket = refl; script = refl; known = rw (silent image d value 2) refl }
line_shown image e d alike (Instr.Add to value) h known =
    let p0 = and_true (is_register to) (is_term value && true) h in
    let p1 = and_true (is_term value) true p0.1 in
    record { writable = rw (p0.0, term_word image d value p1.0) refl; again = rw (term_twice image e d value) refl; bracket = refl; script = refl; known = rw (silent image d value 2) refl }
line_shown image e d alike (Instr.Load to addr size) h known =
    let p0 = and_true (is_register to) (is_term addr && (is_size size && true)) h in
    let p1 = and_true (is_term addr) (is_size size && true) p0.1 in
    let p2 = and_true (is_size size) true p1.1 in
    record { writable = rw (p0.0, term_word image d addr p1.0, p2.0) refl; again = rw (term_twice image e d addr) refl; bracket = refl; script = refl; known = rw (silent image d addr 2) refl }
line_shown image e d alike (Instr.Store addr size value) h known =
    let p0 = and_true (is_term addr) (is_size size && (is_term value && true)) h in
    let p1 = and_true (is_size size) (is_term value && true) p0.1 in
    let p2 = and_true (is_term value) true p1.1 in
    record { writable = rw (term_word image d addr p0.0, p1.0, term_word image d value p2.0) refl; again = rw (term_twice image e d addr, term_twice image e d value) refl; bracket = refl; script = refl; known = rw (silent image d addr 1, silent image d value 3) refl }
line_shown image e d alike (Instr.Exec addr) h known =
    let p0 = and_true (is_term addr) true h in
    record { writable = rw (term_word image d addr p0.0) refl; again = rw (term_twice image e d addr) refl; bracket = refl; script = refl; known = rw (silent image d addr 1) refl }
line_shown image e d alike (Instr.DomainInit domain parts) h known =
    let p0 = and_true (is_named domain) ((nat_le (length parts) 4 && list_all is_part parts) && true) h in
    let p1 = and_true ((nat_le (length parts) 4 && list_all is_part parts)) true p0.1 in
    let b0 = domain_back d domain p0.0 (front d (in_ref Wanted.Domain 1 domain) (in_parts 2 parts) known) in
    let q1 = and_true (nat_le (length parts) 4) (list_all is_part parts) p1.0 in
    let b1 = parts_back d 2 parts q1.1 (back d (in_ref Wanted.Domain 1 domain) (in_parts 2 parts) known) in
    record { writable = rw (b0, p0.0, b1, q1.0, q1.1) refl; again = rw (b0, b1, alike.domains, alike.partitions) refl; bracket = refl; script = refl; known = rw (b0, b1) (init_known e d alike domain parts known) }
line_shown image e d alike (Instr.DomainAdd domain part) h known =
    let p0 = and_true (is_named domain) (is_part part && true) h in
    let p1 = and_true (is_part part) true p0.1 in
    let b0 = domain_back d domain p0.0 (front d (in_ref Wanted.Domain 1 domain) (in_part 2 part) known) in
    let b1 = part_back d 2 part p1.0 (back d (in_ref Wanted.Domain 1 domain) (in_part 2 part) known) in
    record { writable = rw (b0, p0.0, b1, p1.0) refl; again = rw (b0, b1, alike.domains, alike.partitions) refl; bracket = refl; script = refl; known = rw (b0, b1) (edit_known e d alike domain part known) }
line_shown image e d alike (Instr.DomainRemove domain part) h known =
    let p0 = and_true (is_named domain) (is_part part && true) h in
    let p1 = and_true (is_part part) true p0.1 in
    let b0 = domain_back d domain p0.0 (front d (in_ref Wanted.Domain 1 domain) (in_part 2 part) known) in
    let b1 = part_back d 2 part p1.0 (back d (in_ref Wanted.Domain 1 domain) (in_part 2 part) known) in
    record { writable = rw (b0, p0.0, b1, p1.0) refl; again = rw (b0, b1, alike.domains, alike.partitions) refl; bracket = refl; script = refl; known = rw (b0, b1) (edit_known e d alike domain part known) }
line_shown image e d alike (Instr.DomainMove domain thread) h known =
    let p0 = and_true (is_named domain) (is_term thread && true) h in
    let p1 = and_true (is_term thread) true p0.1 in
    let b0 = domain_back d domain p0.0 (front d (in_ref Wanted.Domain 1 domain) (in_term 2 thread) known) in
    record { writable = rw (b0, p0.0, term_word image d thread p1.0) refl; again = rw (b0, term_twice image e d thread, alike.domains) refl; bracket = refl; script = refl; known = rw (b0, silent image d thread 2, append-nil) (domain_alike e d alike 1 domain ∙ front d (in_ref Wanted.Domain 1 domain) (in_term 2 thread) known) }
line_shown image e d alike (Instr.ObjectAlloc kind to) h known =
    let p0 = and_true (is_dynamic_kind kind) (is_register to && true) h in
    let p1 = and_true (is_register to) true p0.1 in
    record { writable = rw (p0.0, p1.0) refl; again = refl; bracket = refl; script = refl; known = refl }
line_shown image e d alike (Instr.Grant object thread) h known =
    let p0 = and_true (is_term object) (is_term thread && true) h in
    let p1 = and_true (is_term thread) true p0.1 in
    record { writable = rw (term_word image d object p0.0, term_word image d thread p1.0) refl; again = rw (term_twice image e d object, term_twice image e d thread) refl; bracket = refl; script = refl; known = rw (silent image d object 1, silent image d thread 2) refl }
line_shown image e d alike (Instr.Revoke object thread) h known =
    let p0 = and_true (is_term object) (is_term thread && true) h in
    let p1 = and_true (is_term thread) true p0.1 in
    record { writable = rw (term_word image d object p0.0, term_word image d thread p1.0) refl; again = rw (term_twice image e d object, term_twice image e d thread) refl; bracket = refl; script = refl; known = rw (silent image d object 1, silent image d thread 2) refl }
line_shown image e d alike (Instr.Release object) h known =
    let p0 = and_true (is_term object) true h in
    record { writable = rw (term_word image d object p0.0) refl; again = rw (term_twice image e d object) refl; bracket = refl; script = refl; known = rw (silent image d object 1) refl }
line_shown image e d alike (Instr.AllGrant object) h known =
    let p0 = and_true (is_term object) true h in
    record { writable = rw (term_word image d object p0.0) refl; again = rw (term_twice image e d object) refl; bracket = refl; script = refl; known = rw (silent image d object 1) refl }
line_shown image e d alike (Instr.Create thread stack size script priority options) h known =
    let p0 = and_true (is_term thread) (is_term stack && (is_term size && (is_named script && (is_priority priority && (true && true))))) h in
    let p1 = and_true (is_term stack) (is_term size && (is_named script && (is_priority priority && (true && true)))) p0.1 in
    let p2 = and_true (is_term size) (is_named script && (is_priority priority && (true && true))) p1.1 in
    let p3 = and_true (is_named script) (is_priority priority && (true && true)) p2.1 in
    let p4 = and_true (is_priority priority) (true && true) p3.1 in
    let p5 = and_true (true) true p4.1 in
    let b3 = script_back d 4 script p3.0 (back d (in_term 1 thread ++ in_term 2 stack ++ in_term 3 size) (in_ref Wanted.Script 4 script) known) in
    record { writable = rw (term_word image d thread p0.0, term_word image d stack p1.0, term_word image d size p2.0, b3, p3.0, p4.0) refl; again = rw (term_twice image e d thread, term_twice image e d stack, term_twice image e d size, b3, alike.scripts) refl; bracket = refl; script = rw b3 refl; known = rw (silent image d thread 1, silent image d stack 2, silent image d size 3, b3) (script_alike e d alike 4 script ∙ back d (in_term 1 thread ++ in_term 2 stack ++ in_term 3 size) (in_ref Wanted.Script 4 script) known) }
line_shown image e d alike (Instr.UserMode script) h known =
    let p0 = and_true (is_named script) true h in
    let b0 = script_back d 1 script p0.0 known in
    record { writable = rw (b0, p0.0) refl; again = rw (b0, alike.scripts) refl; bracket = refl; script = rw b0 refl; known = rw b0 (script_alike e d alike 1 script ∙ known) }
line_shown image e d alike (Instr.NameSet thread addr) h known =
    let p0 = and_true (is_term thread) (is_term addr && true) h in
    let p1 = and_true (is_term addr) true p0.1 in
    record { writable = rw (term_word image d thread p0.0, term_word image d addr p1.0) refl; again = rw (term_twice image e d thread, term_twice image e d addr) refl; bracket = refl; script = refl; known = rw (silent image d thread 1, silent image d addr 2) refl }
line_shown image e d alike (Instr.SemInit object count limit) h known =
    let p0 = and_true (is_term object) (is_term count && (is_term limit && true)) h in
    let p1 = and_true (is_term count) (is_term limit && true) p0.1 in
    let p2 = and_true (is_term limit) true p1.1 in
    record { writable = rw (term_word image d object p0.0, term_word image d count p1.0, term_word image d limit p2.0) refl; again = rw (term_twice image e d object, term_twice image e d count, term_twice image e d limit) refl; bracket = refl; script = refl; known = rw (silent image d object 1, silent image d count 2, silent image d limit 3) refl }
line_shown image e d alike (Instr.SemTake object timeout) h known =
    let p0 = and_true (is_term object) (is_wait timeout && true) h in
    let p1 = and_true (is_wait timeout) true p0.1 in
    record { writable = rw (term_word image d object p0.0, p1.0) refl; again = rw (term_twice image e d object) refl; bracket = refl; script = refl; known = rw (silent image d object 1) refl }
line_shown image e d alike (Instr.SemGive object) h known =
    let p0 = and_true (is_term object) true h in
    record { writable = rw (term_word image d object p0.0) refl; again = rw (term_twice image e d object) refl; bracket = refl; script = refl; known = rw (silent image d object 1) refl }
line_shown image e d alike (Instr.SemReset object) h known =
    let p0 = and_true (is_term object) true h in
    record { writable = rw (term_word image d object p0.0) refl; again = rw (term_twice image e d object) refl; bracket = refl; script = refl; known = rw (silent image d object 1) refl }
line_shown image e d alike (Instr.SemCount object to) h known =
    let p0 = and_true (is_term object) (is_register to && true) h in
    let p1 = and_true (is_register to) true p0.1 in
    record { writable = rw (term_word image d object p0.0, p1.0) refl; again = rw (term_twice image e d object) refl; bracket = refl; script = refl; known = rw (silent image d object 1) refl }
line_shown image e d alike (Instr.MutexInit object) h known =
    let p0 = and_true (is_term object) true h in
    record { writable = rw (term_word image d object p0.0) refl; again = rw (term_twice image e d object) refl; bracket = refl; script = refl; known = rw (silent image d object 1) refl }
line_shown image e d alike (Instr.MutexLock object timeout) h known =
    let p0 = and_true (is_term object) (is_wait timeout && true) h in
    let p1 = and_true (is_wait timeout) true p0.1 in
    record { writable = rw (term_word image d object p0.0, p1.0) refl; again = rw (term_twice image e d object) refl; bracket = refl; script = refl; known = rw (silent image d object 1) refl }
line_shown image e d alike (Instr.MutexUnlock object) h known =
    let p0 = and_true (is_term object) true h in
    record { writable = rw (term_word image d object p0.0) refl; again = rw (term_twice image e d object) refl; bracket = refl; script = refl; known = rw (silent image d object 1) refl }
line_shown image e d alike (Instr.MsgqInit object msg_size max_msgs) h known =
    let p0 = and_true (is_term object) (is_term msg_size && (is_term max_msgs && true)) h in
    let p1 = and_true (is_term msg_size) (is_term max_msgs && true) p0.1 in
    let p2 = and_true (is_term max_msgs) true p1.1 in
    record { writable = rw (term_word image d object p0.0, term_word image d msg_size p1.0, term_word image d max_msgs p2.0) refl; again = rw (term_twice image e d object, term_twice image e d msg_size, term_twice image e d max_msgs) refl; bracket = refl; script = refl; known = rw (silent image d object 1, silent image d msg_size 2, silent image d max_msgs 3) refl }
line_shown image e d alike (Instr.MsgqPut object addr timeout) h known =
    let p0 = and_true (is_term object) (is_term addr && (is_wait timeout && true)) h in
    let p1 = and_true (is_term addr) (is_wait timeout && true) p0.1 in
    let p2 = and_true (is_wait timeout) true p1.1 in
    record { writable = rw (term_word image d object p0.0, term_word image d addr p1.0, p2.0) refl; again = rw (term_twice image e d object, term_twice image e d addr) refl; bracket = refl; script = refl; known = rw (silent image d object 1, silent image d addr 2) refl }
line_shown image e d alike (Instr.MsgqGet object addr timeout) h known =
    let p0 = and_true (is_term object) (is_term addr && (is_wait timeout && true)) h in
    let p1 = and_true (is_term addr) (is_wait timeout && true) p0.1 in
    let p2 = and_true (is_wait timeout) true p1.1 in
    record { writable = rw (term_word image d object p0.0, term_word image d addr p1.0, p2.0) refl; again = rw (term_twice image e d object, term_twice image e d addr) refl; bracket = refl; script = refl; known = rw (silent image d object 1, silent image d addr 2) refl }
line_shown image e d alike (Instr.MsgqPeek object addr) h known =
    let p0 = and_true (is_term object) (is_term addr && true) h in
    let p1 = and_true (is_term addr) true p0.1 in
    record { writable = rw (term_word image d object p0.0, term_word image d addr p1.0) refl; again = rw (term_twice image e d object, term_twice image e d addr) refl; bracket = refl; script = refl; known = rw (silent image d object 1, silent image d addr 2) refl }
line_shown image e d alike (Instr.MsgqPurge object) h known =
    let p0 = and_true (is_term object) true h in
    record { writable = rw (term_word image d object p0.0) refl; again = rw (term_twice image e d object) refl; bracket = refl; script = refl; known = rw (silent image d object 1) refl }
line_shown image e d alike (Instr.MsgqUsed object to) h known =
    let p0 = and_true (is_term object) (is_register to && true) h in
    let p1 = and_true (is_register to) true p0.1 in
    record { writable = rw (term_word image d object p0.0, p1.0) refl; again = rw (term_twice image e d object) refl; bracket = refl; script = refl; known = rw (silent image d object 1) refl }
line_shown image e d alike (Instr.StackInit object entries) h known =
    let p0 = and_true (is_term object) (is_term entries && true) h in
    let p1 = and_true (is_term entries) true p0.1 in
    record { writable = rw (term_word image d object p0.0, term_word image d entries p1.0) refl; again = rw (term_twice image e d object, term_twice image e d entries) refl; bracket = refl; script = refl; known = rw (silent image d object 1, silent image d entries 2) refl }
line_shown image e d alike (Instr.StackPush object value) h known =
    let p0 = and_true (is_term object) (is_term value && true) h in
    let p1 = and_true (is_term value) true p0.1 in
    record { writable = rw (term_word image d object p0.0, term_word image d value p1.0) refl; again = rw (term_twice image e d object, term_twice image e d value) refl; bracket = refl; script = refl; known = rw (silent image d object 1, silent image d value 2) refl }
line_shown image e d alike (Instr.StackPop object addr timeout) h known =
    let p0 = and_true (is_term object) (is_term addr && (is_wait timeout && true)) h in
    let p1 = and_true (is_term addr) (is_wait timeout && true) p0.1 in
    let p2 = and_true (is_wait timeout) true p1.1 in
    record { writable = rw (term_word image d object p0.0, term_word image d addr p1.0, p2.0) refl; again = rw (term_twice image e d object, term_twice image e d addr) refl; bracket = refl; script = refl; known = rw (silent image d object 1, silent image d addr 2) refl }
line_shown image e d alike (Instr.PipeInit object size) h known =
    let p0 = and_true (is_term object) (is_term size && true) h in
    let p1 = and_true (is_term size) true p0.1 in
    record { writable = rw (term_word image d object p0.0, term_word image d size p1.0) refl; again = rw (term_twice image e d object, term_twice image e d size) refl; bracket = refl; script = refl; known = rw (silent image d object 1, silent image d size 2) refl }
line_shown image e d alike (Instr.PipeWrite object addr length timeout) h known =
    let p0 = and_true (is_term object) (is_term addr && (is_term length && (is_wait timeout && true))) h in
    let p1 = and_true (is_term addr) (is_term length && (is_wait timeout && true)) p0.1 in
    let p2 = and_true (is_term length) (is_wait timeout && true) p1.1 in
    let p3 = and_true (is_wait timeout) true p2.1 in
    record { writable = rw (term_word image d object p0.0, term_word image d addr p1.0, term_word image d length p2.0, p3.0) refl; again = rw (term_twice image e d object, term_twice image e d addr, term_twice image e d length) refl; bracket = refl; script = refl; known = rw (silent image d object 1, silent image d addr 2, silent image d length 3) refl }
line_shown image e d alike (Instr.PipeRead object addr length timeout) h known =
    let p0 = and_true (is_term object) (is_term addr && (is_term length && (is_wait timeout && true))) h in
    let p1 = and_true (is_term addr) (is_term length && (is_wait timeout && true)) p0.1 in
    let p2 = and_true (is_term length) (is_wait timeout && true) p1.1 in
    let p3 = and_true (is_wait timeout) true p2.1 in
    record { writable = rw (term_word image d object p0.0, term_word image d addr p1.0, term_word image d length p2.0, p3.0) refl; again = rw (term_twice image e d object, term_twice image e d addr, term_twice image e d length) refl; bracket = refl; script = refl; known = rw (silent image d object 1, silent image d addr 2, silent image d length 3) refl }
line_shown image e d alike (Instr.PipeReset object) h known =
    let p0 = and_true (is_term object) true h in
    record { writable = rw (term_word image d object p0.0) refl; again = rw (term_twice image e d object) refl; bracket = refl; script = refl; known = rw (silent image d object 1) refl }
line_shown image e d alike (Instr.PipeClose object) h known =
    let p0 = and_true (is_term object) true h in
    record { writable = rw (term_word image d object p0.0) refl; again = rw (term_twice image e d object) refl; bracket = refl; script = refl; known = rw (silent image d object 1) refl }
line_shown image e d alike (Instr.TimerStart object ticks) h known =
    let p0 = and_true (is_term object) (is_term ticks && true) h in
    let p1 = and_true (is_term ticks) true p0.1 in
    record { writable = rw (term_word image d object p0.0, term_word image d ticks p1.0) refl; again = rw (term_twice image e d object, term_twice image e d ticks) refl; bracket = refl; script = refl; known = rw (silent image d object 1, silent image d ticks 2) refl }
line_shown image e d alike (Instr.TimerStop object) h known =
    let p0 = and_true (is_term object) true h in
    record { writable = rw (term_word image d object p0.0) refl; again = rw (term_twice image e d object) refl; bracket = refl; script = refl; known = rw (silent image d object 1) refl }
line_shown image e d alike (Instr.TimerStatus object to) h known =
    let p0 = and_true (is_term object) (is_register to && true) h in
    let p1 = and_true (is_register to) true p0.1 in
    record { writable = rw (term_word image d object p0.0, p1.0) refl; again = rw (term_twice image e d object) refl; bracket = refl; script = refl; known = rw (silent image d object 1) refl }
line_shown image e d alike (Instr.TimerSync object to) h known =
    let p0 = and_true (is_term object) (is_register to && true) h in
    let p1 = and_true (is_register to) true p0.1 in
    record { writable = rw (term_word image d object p0.0, p1.0) refl; again = rw (term_twice image e d object) refl; bracket = refl; script = refl; known = rw (silent image d object 1) refl }
line_shown image e d alike (Instr.Abort thread) h known =
    let p0 = and_true (is_term thread) true h in
    record { writable = rw (term_word image d thread p0.0) refl; again = rw (term_twice image e d thread) refl; bracket = refl; script = refl; known = rw (silent image d thread 1) refl }
line_shown image e d alike (Instr.Join thread timeout) h known =
    let p0 = and_true (is_term thread) (is_wait timeout && true) h in
    let p1 = and_true (is_wait timeout) true p0.1 in
    record { writable = rw (term_word image d thread p0.0, p1.0) refl; again = rw (term_twice image e d thread) refl; bracket = refl; script = refl; known = rw (silent image d thread 1) refl }
line_shown image e d alike (Instr.Suspend thread) h known =
    let p0 = and_true (is_term thread) true h in
    record { writable = rw (term_word image d thread p0.0) refl; again = rw (term_twice image e d thread) refl; bracket = refl; script = refl; known = rw (silent image d thread 1) refl }
line_shown image e d alike (Instr.Continue thread) h known =
    let p0 = and_true (is_term thread) true h in
    record { writable = rw (term_word image d thread p0.0) refl; again = rw (term_twice image e d thread) refl; bracket = refl; script = refl; known = rw (silent image d thread 1) refl }
line_shown image e d alike (Instr.FutexWait addr value timeout) h known =
    let p0 = and_true (is_term addr) (is_term value && (is_wait timeout && true)) h in
    let p1 = and_true (is_term value) (is_wait timeout && true) p0.1 in
    let p2 = and_true (is_wait timeout) true p1.1 in
    record { writable = rw (term_word image d addr p0.0, term_word image d value p1.0, p2.0) refl; again = rw (term_twice image e d addr, term_twice image e d value) refl; bracket = refl; script = refl; known = rw (silent image d addr 1, silent image d value 2) refl }
line_shown image e d alike (Instr.FutexWake addr all) h known =
    let p0 = and_true (is_term addr) true h in
    record { writable = rw (term_word image d addr p0.0) refl; again = rw (term_twice image e d addr) refl; bracket = refl; script = refl; known = rw (silent image d addr 1) refl }

-- what is printed for a line is read as what was shown
pub line_again : (image : Image) (e d : Description) → AreNamedAlike e d → (line : Instr) → IsTrue (is_line line) → IsTrue (list_all (knows d) (mentions line))
    → line_of (canonical (shown_in d (resolved image d line))) ≡ Ok (shown_in d (resolved image d line))
line_again image e d alike line h known = canonical_again (shown_in d (resolved image d line)) (line_shown image e d alike line h known).writable
