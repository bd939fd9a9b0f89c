-- Terms, partitions and other operands that are written are read back.
use Rattle.std.proofs.Common.{◌≡◌, ℕ, zero, suc, ◌-◌, ◌^◌, ◌<◌, ◌≤◌, Bool, true, false, not, ◌&&◌, ◌==◌, nat_le, List, [], ◌∷◌, ◌++◌, Some, None, Result, Ok, IsTrue, decimal, ℤ, pos, negsuc, refl, ap, ◌∙◌, arith, append_assoc, length, lit<, codes}
use Rattle.std.specs.Prelude.{ok_or}
use Rattle.std.specs.Fmt.{signed_decimal}
use Rattle.std.specs.List.{list_all}
use Rattle.std.proofs.lemmas.Bool.Decides.{nat_tests}
use Rattle.std.proofs.lemmas.List.{append-nil, length-append}
use Rattle.std.proofs.lemmas.List.Folds.{list_all-append}
use Rattle.um_base.specs.Lawful.{is_name_byte, is_dynamic_kind, is_named_attr, is_wait}
use Rattle.um_base.specs.declared.attr.Attr.{Attr}
use Rattle.um_base.specs.declared.instr.Options.{Options}
use Rattle.um_base.specs.declared.names.Kind.{Kind}
use Rattle.um_base.specs.declared.names.PartRef.{PartRef}
use Rattle.um_base.specs.declared.names.Term.{Term}
use Rattle.um_base.specs.declared.names.Timeout.{Timeout}
use Rattle.um_script.specs.declared.fault.LineKind.{LineKind}
use Rattle.um_script.specs.Numbers.{is_digit, digits, priority, is_negative}
use Rattle.um_script.specs.Operands.{cut, place, place_cut, at_offset, term, part, part_cut, part_from_cut, given_part, rights, kind, ticks_cut, timeout_cut, timeout, how_many, how_many_word, options, more_options, begins_with}
use Rattle.um_script.specs.Words.{is_word_byte}
use Rattle.um_script.specs.Canonical.{term_text, offset_text, part_text, timeout_text, options_word, options_by}
use Rattle.um_script.specs.Writable.{is_term, is_part, is_priority, is_word32}
use Rattle.um_script.proofs.DigitsAgain.{and_true, list_all-weaker, decimal-spells, digits_again, number_again, is_number_again}
use Rattle.um_script.proofs.NameAgain.{name_in_word, IsWord-decimal, IsWord-more, IsWord-name, word32-le, cut_none, cut_some, ticks_again, register_again, name_bytes, place_name_bytes, no_plus_name, no_slash_name, no_bracket_digit, no_slash_digit}
use Rattle.um_script.proofs.WordAgain.{IsWord}
use Rattle.um_vocabulary.specs.Words.{is_place_name, attr_word, kind_word}
use Rattle.um_vocabulary.proofs.Again.{by_attr, attr_again}

-- ---- places

no_at : (ds : List ℕ) → IsTrue (list_all (is_digit false) ds) → begins_with 64 ds ≡ false
no_at [] h = refl
no_at (b ∷ ds) h = grind (arith, nat_tests)

no_r : (ds : List ℕ) → IsTrue (list_all (is_digit false) ds) → begins_with 114 ds ≡ false
no_r [] h = refl
no_r (b ∷ ds) h = grind (arith, nat_tests)

no_minus : (ds : List ℕ) → IsTrue (list_all (is_digit false) ds) → is_negative ds ≡ false
no_minus [] h = refl
no_minus (b ∷ ds) h = grind (arith, nat_tests)

no_plus : (name : List ℕ) → IsTrue (is_place_name name) → IsTrue (list_all (λ b. not (b == 43)) name)
no_plus name h = list_all-weaker is_name_byte (λ b. not (b == 43)) no_plus_name name (place_name_bytes name h)

offset_le : (offset : ℕ) → IsTrue (nat_le offset 65536) → offset ≤ 65536
offset_le offset h = grind (arith, nat_tests)

offset_text-some : (k : ℕ) → offset_text (suc k) ≡ 43 ∷ decimal (suc k)
offset_text-some k = let some : (suc k == 0) ≡ false = grind (arith, nat_tests) in rw some refl

place_again : (name : List ℕ) (offset : ℕ) → IsTrue (is_place_name name) → offset ≤ 65536 → place (name ++ offset_text offset) ≡ Ok (Term.Place name offset)
place_again name zero h le =
    let c : cut 43 (name ++ offset_text zero) ≡ None = ap (cut 43) (append-nil name) ∙ cut_none 43 name (no_plus name h) in
    let e : name ++ offset_text zero ≡ name = append-nil name in
    ap (place_cut (name ++ offset_text zero)) c ∙ ap (λ (t : List ℕ). at_offset t (Ok 0)) e ∙ rw h refl
place_again name (suc k) h le =
    let c : cut 43 (name ++ (43 ∷ decimal (suc k))) ≡ Some (name, decimal (suc k)) = cut_some 43 name (decimal (suc k)) (no_plus name h) in
    let n : digits false 10 65536 (decimal (suc k)) ≡ Ok (suc k) = digits_again 10 65536 (suc k) (omega arith) (omega arith) (omega arith) le in
    ap (λ (t : List ℕ). place (name ++ t)) (offset_text-some k) ∙ ap (place_cut (name ++ (43 ∷ decimal (suc k)))) c ∙ ap (at_offset name) n ∙ rw h refl

pub term_again : (t : Term) → IsTrue (is_term t) → term (term_text t) ≡ Ok t
term_again (Term.Num n) h =
    let le = word32-le n h in
    let ds = (decimal-spells n (omega arith)).digits_all in
    rw (no_at (decimal n) ds, no_r (decimal n) ds, number_again n le) refl
term_again (Term.Reg r) h = rw (register_again r h) refl
term_again (Term.Place name offset) h =
    let both = and_true (is_place_name name) (nat_le offset 65536) h in
    place_again name offset both.0 (offset_le offset both.1)

offset_in_word : (offset : ℕ) → offset ≤ 65536 → IsTrue (list_all is_word_byte (offset_text offset))
offset_in_word zero le = refl
offset_in_word (suc k) le = rw (offset_text-some k) (IsWord-decimal (suc k) (omega arith)).bytes

pub IsWord-term : (t : Term) → IsTrue (is_term t) → IsWord (term_text t)
IsWord-term (Term.Num n) h = let le = word32-le n h in IsWord-decimal n (omega arith)
IsWord-term (Term.Reg r) h =
    let lt : r < 2 ^ 64 = grind (arith, nat_tests) in
    IsWord-more 114 (decimal r) refl (IsWord-decimal r lt).bytes
IsWord-term (Term.Place name offset) h =
    let both = and_true (is_place_name name) (nat_le offset 65536) h in
    let name_fits = list_all-weaker is_name_byte is_word_byte name_in_word name (place_name_bytes name both.0) in
    IsWord-more 64 (name ++ offset_text offset) refl (list_all-append is_word_byte name (offset_text offset) ∙ rw (name_fits, offset_in_word offset (offset_le offset both.1)) refl)

-- ---- partitions

pub record ReadsRights (n : ℕ) : Type 0 where
  pub read : rights (attr_word (record { 0 = n })) ≡ Ok (record { 0 = n })
  pub word : IsWord (attr_word (record { 0 = n }))

pub rights_again : (n : ℕ) → IsTrue (is_named_attr (record { 0 = n })) → ReadsRights n
rights_again n h =
    record {
      read = ap (λ a. ok_or a LineKind.Operand) (attr_again (record { 0 = n }) h);
      word = record {
        bytes = by_attr (λ m. IsTrue (list_all is_word_byte (attr_word (record { 0 = m })))) refl refl refl refl refl refl refl n h;
        some = by_attr (λ m. 0 < length (attr_word (record { 0 = m }))) (lit< tt) (lit< tt) (lit< tt) (lit< tt) (lit< tt) (lit< tt) (lit< tt) n h;
      };
    }

given_text : (start size : ℕ) (attr : Attr) → part_text (PartRef.Given (record { start = record { 0 = start }; size = size }) attr) ≡ decimal start ++ (47 ∷ (decimal size ++ (47 ∷ attr_word attr)))
given_text start size attr = append_assoc (decimal start) (47 ∷ decimal size) (47 ∷ attr_word attr)

no_slash : (n : ℕ) → n ≤ 2 ^ 32 - 1 → IsTrue (list_all (λ b. not (b == 47)) (decimal n))
no_slash n le = list_all-weaker (is_digit false) (λ b. not (b == 47)) no_slash_digit (decimal n) (decimal-spells n (omega arith)).digits_all

given_again : (start size n : ℕ) → IsTrue (is_word32 start) → IsTrue (is_word32 size) → IsTrue (is_named_attr (record { 0 = n }))
    → part (part_text (PartRef.Given (record { start = record { 0 = start }; size = size }) (record { 0 = n }))) ≡ Ok (PartRef.Given (record { start = record { 0 = start }; size = size }) (record { 0 = n }))
given_again start size n hs hz ha =
    let attr : Attr = record { 0 = n } in
    let ls = word32-le start hs in
    let lz = word32-le size hz in
    let rest : List ℕ = decimal size ++ (47 ∷ attr_word attr) in
    let first : cut 47 (decimal start ++ (47 ∷ rest)) ≡ Some (decimal start, rest) = cut_some 47 (decimal start) rest (no_slash start ls) in
    let second : cut 47 rest ≡ Some (decimal size, attr_word attr) = cut_some 47 (decimal size) (attr_word attr) (no_slash size lz) in
    let read : given_part (decimal start) (decimal size) (attr_word attr) ≡ Ok (PartRef.Given (record { start = record { 0 = start }; size = size }) attr)
    = rw (is_number_again start ls, is_number_again size lz, (rights_again n ha).read, number_again start ls, number_again size lz) refl in
    ap part (given_text start size attr) ∙ ap (part_cut (decimal start ++ (47 ∷ rest))) first ∙ ap (part_from_cut (decimal start)) second ∙ read

pub part_again : (p : PartRef) → IsTrue (is_part p) → part (part_text p) ≡ Ok p
part_again (PartRef.Named name) h =
    let c : cut 47 name ≡ None = cut_none 47 name (list_all-weaker is_name_byte (λ b. not (b == 47)) no_slash_name name (name_bytes name h)) in
    ap (part_cut name) c ∙ rw h refl
part_again (PartRef.At index) h = absurd cc
part_again (PartRef.Given range attr) h =
    let a = and_true (is_word32 range.start.0 && is_word32 range.size) (is_named_attr attr) h in
    let b = and_true (is_word32 range.start.0) (is_word32 range.size) a.0 in
    given_again range.start.0 range.size attr.0 b.0 b.1 a.1

pub IsWord-part : (p : PartRef) → IsTrue (is_part p) → IsWord (part_text p)
IsWord-part (PartRef.Named name) h = IsWord-name name h
IsWord-part (PartRef.At index) h = absurd cc
IsWord-part (PartRef.Given range attr) h =
    let a = and_true (is_word32 range.start.0 && is_word32 range.size) (is_named_attr attr) h in
    let b = and_true (is_word32 range.start.0) (is_word32 range.size) a.0 in
    let ls = word32-le range.start.0 b.0 in
    let lz = word32-le range.size b.1 in
    let s = IsWord-decimal range.start.0 (omega arith) in
    let z = IsWord-decimal range.size (omega arith) in
    let t = (rights_again attr.0 a.1).word in
    let tail : IsTrue (list_all is_word_byte (decimal range.size ++ (47 ∷ attr_word attr))) = list_all-append is_word_byte (decimal range.size) (47 ∷ attr_word attr) ∙ rw (z.bytes, t.bytes) refl in
    let whole : IsTrue (list_all is_word_byte (decimal range.start.0 ++ (47 ∷ (decimal range.size ++ (47 ∷ attr_word attr))))) = list_all-append is_word_byte (decimal range.start.0) (47 ∷ (decimal range.size ++ (47 ∷ attr_word attr))) ∙ rw (s.bytes, tail) refl in
    record {
      bytes = ap (list_all is_word_byte) (given_text range.start.0 range.size attr) ∙ whole;
      some = omega (arith, s.some, length-append (decimal range.start.0 ++ (47 ∷ decimal range.size)) (47 ∷ attr_word attr), length-append (decimal range.start.0) (47 ∷ decimal range.size));
    }

-- ---- choices

pub record Again {A : Type 0} (read : List ℕ → Result A LineKind) (t : List ℕ) (x : A) : Type 0 where
  pub word : IsWord t
  pub reads : read t ≡ Ok x

pub kind_again : (k : Kind) → IsTrue (is_dynamic_kind k) → Again kind (kind_word k) k
kind_again Kind.Thread h = record { word = record { bytes = refl; some = lit< tt }; reads = refl }
kind_again Kind.ThreadStack h = absurd cc
kind_again Kind.Sem h = record { word = record { bytes = refl; some = lit< tt }; reads = refl }
kind_again Kind.Mutex h = record { word = record { bytes = refl; some = lit< tt }; reads = refl }
kind_again Kind.Msgq h = record { word = record { bytes = refl; some = lit< tt }; reads = refl }
kind_again Kind.Stack h = record { word = record { bytes = refl; some = lit< tt }; reads = refl }
kind_again Kind.Pipe h = record { word = record { bytes = refl; some = lit< tt }; reads = refl }
kind_again Kind.Timer h = absurd cc

no_bracket : (n : ℕ) → n < 2 ^ 64 → IsTrue (list_all (λ b. not (b == 41)) (decimal n))
no_bracket n lt = list_all-weaker (is_digit false) (λ b. not (b == 41)) no_bracket_digit (decimal n) (decimal-spells n lt).digits_all

pub timeout_again : (t : Timeout) → IsTrue (is_wait t) → Again timeout (timeout_text t) t
timeout_again Timeout.NoWait h = record { word = record { bytes = refl; some = lit< tt }; reads = refl }
timeout_again Timeout.Forever h = record { word = record { bytes = refl; some = lit< tt }; reads = refl }
timeout_again (Timeout.Ticks n) h =
    let lt : n < 2 ^ 64 = grind (arith, nat_tests) in
    let first : List ℕ = codes "K_TICKS" in
    let rest : List ℕ = decimal n ++ (41 ∷ []) in
    let outer : cut 40 (first ++ (40 ∷ rest)) ≡ Some (first, rest) = cut_some 40 first rest refl in
    let inner : cut 41 rest ≡ Some (decimal n, []) = cut_some 41 (decimal n) [] (no_bracket n lt) in
    let read : ticks_cut (Some (decimal n, [])) ≡ Ok (Timeout.Ticks n) = rw (ticks_again n h) refl in
    let fits : IsTrue (list_all is_word_byte rest) = list_all-append is_word_byte (decimal n) (41 ∷ []) ∙ rw ((IsWord-decimal n lt).bytes) refl in
    record {
      word = IsWord-more 75 (95 ∷ 84 ∷ 73 ∷ 67 ∷ 75 ∷ 83 ∷ 40 ∷ rest) refl fits;
      reads = ap (timeout_cut (first ++ (40 ∷ rest))) outer ∙ ap ticks_cut inner ∙ read;
    }

pub how_many_again : (all : Bool) → Again how_many (how_many_word all) all
how_many_again true = record { word = record { bytes = refl; some = lit< tt }; reads = refl }
how_many_again false = record { word = record { bytes = refl; some = lit< tt }; reads = refl }

pub priority_again : (p : ℤ) → IsTrue (is_priority p) → Again priority (signed_decimal p) p
priority_again (pos n) h =
    let lt : n < 128 = grind (arith, nat_tests) in
    let plain = no_minus (decimal n) (decimal-spells n (omega arith)).digits_all in
    record {
      word = IsWord-decimal n (omega arith);
      reads = rw (plain, digits_again 3 127 n (omega arith) (omega arith) (omega arith) (omega arith)) refl;
    }
priority_again (negsuc n) h =
    let lt : n < 128 = grind (arith, nat_tests) in
    record {
      word = IsWord-more 45 (decimal (suc n)) refl (IsWord-decimal (suc n) (omega arith)).bytes;
      reads = rw (digits_again 3 128 (suc n) (omega arith) (omega arith) (omega arith) (omega arith)) refl;
    }

options_of : (u i e : Bool) → Again options (options_by u i e) (record { user = u; inherit = i; essential = e })
unfolding more_options
options_of false false false = record { word = record { bytes = refl; some = lit< tt }; reads = refl }
options_of true false false = record { word = record { bytes = refl; some = lit< tt }; reads = refl }
options_of false true false = record { word = record { bytes = refl; some = lit< tt }; reads = refl }
options_of false false true = record { word = record { bytes = refl; some = lit< tt }; reads = refl }
options_of true true false = record { word = record { bytes = refl; some = lit< tt }; reads = refl }
options_of true false true = record { word = record { bytes = refl; some = lit< tt }; reads = refl }
options_of false true true = record { word = record { bytes = refl; some = lit< tt }; reads = refl }
options_of true true true = record { word = record { bytes = refl; some = lit< tt }; reads = refl }

pub options_again : (set : Options) → Again options (options_word set) set
options_again set = options_of set.user set.inherit set.essential
