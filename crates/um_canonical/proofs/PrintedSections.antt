-- Printed entries of the other sections are read back as they were, without a fault of their form.
use Rattle.std.proofs.Common.{◌≡◌, ℕ, ℤ, ◌+◌, ◌*◌, ◌/◌, ◌%◌, ◌<◌, Bool, true, nat_lt, List, [], ◌∷◌, ◌++◌, length, Option, Some, None, refl, ap, ◌∙◌, arith, append-nil}
use Rattle.std.proofs.lemmas.Bool.{and_parts}
use Rattle.std.proofs.lemmas.Bool.Decides.{nat_tests}
use Rattle.std.specs.List.{list_all}
use Rattle.um_base.specs.declared.attr.Attr.{Attr}
use Rattle.um_base.specs.declared.names.Mode.{Mode}
use Rattle.um_base.specs.Lawful.{is_name, is_given_attr}
use Rattle.um_document.specs.declared.check.Check.{Check}
use Rattle.um_document.specs.declared.shape.Key.{Key}
use Rattle.um_document.specs.declared.shape.Section.{Section}
use Rattle.um_document.specs.Forms.{is_hex_digit, is_hexadecimal, digit_value, decoded}
use Rattle.um_document.specs.Parts.{key_parts, variable_keys, item_parts}
use Rattle.um_document.specs.Reading.{texts_of, pool_of, partition_of, domain_of, boot_of, script_of, futex_of}
use Rattle.um_vocabulary.proofs.Again.{given_attr_again}
use Rattle.um_document.specs.Unknown.{own_strays, strays_below, strays_of_entry}
use Rattle.um_canonical.specs.Printed.{table_of, texts_items}
use Rattle.um_canonical.specs.Entries.{partition_entry}
use Rattle.um_canonical.specs.Sections.{hex_digit, encoded, pool_by, partition_by, domain_by, boot_by, script_by, futex_by}
use Rattle.um_canonical.proofs.PrintedObjects.{passes, AreSound, short_name}

-- ---- bytes

hex_one : (n : ℕ) → n < 16 → (digit_value (hex_digit n) ≡ n) × (is_hex_digit (hex_digit n) ≡ true)
hex_one n lt = (grind (arith, nat_tests), grind (arith, nat_tests))

abbrev pub is_byte : ℕ → Bool
is_byte b = nat_lt b 256

-- a byte is two digits, which read as it
record IsTwoDigits (b : ℕ) : Type 0 where
  high : (digit_value (hex_digit (b / 16)) ≡ b / 16) × (is_hex_digit (hex_digit (b / 16)) ≡ true)
  low : (digit_value (hex_digit (b % 16)) ≡ b % 16) × (is_hex_digit (hex_digit (b % 16)) ≡ true)

two_digits : (b : ℕ) → is_byte b ≡ true → IsTwoDigits b
two_digits b h =
    let lt : b < 256 = grind (arith, nat_tests, h) in
    record { high = hex_one (b / 16) (omega (arith, lt)); low = hex_one (b % 16) (omega arith) }

pub decoded_again : (bs : List ℕ) → list_all is_byte bs ≡ true → decoded (encoded bs) ≡ bs
decoded_again [] h = refl
decoded_again (b ∷ bs) h =
    let both = and_parts (is_byte b) (list_all is_byte bs) h in
    let digits = two_digits b both.0 in
    let whole : 16 * (b / 16) + b % 16 ≡ b = omega arith in
    rw (digits.high.0, digits.low.0, whole, decoded_again bs both.1) refl

pub digits_again : (bs : List ℕ) → list_all is_byte bs ≡ true → list_all is_hex_digit (encoded bs) ≡ true
digits_again [] h = refl
digits_again (b ∷ bs) h =
    let both = and_parts (is_byte b) (list_all is_byte bs) h in
    let digits = two_digits b both.0 in
    rw (digits.high.1, digits.low.1, digits_again bs both.1) refl

even : (bs : List ℕ) → length (encoded bs) % 2 ≡ 0
even [] = refl
even (b ∷ bs) = omega (arith, even bs)

pub hexadecimal_again : (bs : List ℕ) → list_all is_byte bs ≡ true → is_hexadecimal (encoded bs) ≡ true
hexadecimal_again bs h = rw (even bs, digits_again bs h) refl

-- ---- texts

pub texts_again : (ts : List (List ℕ)) → texts_of (texts_items ts) ≡ ts
texts_again [] = refl
texts_again (t ∷ ts) = ap (λ (xs : List (List ℕ)). t ∷ xs) (texts_again ts)

items_pass : (check : Check) (s : Section) (i : ℕ) (k : Key) (j : ℕ) (ts : List (List ℕ)) → passes check (item_parts s i k j (texts_items ts)) ≡ true
items_pass Check.Missing s i k j [] = refl
items_pass Check.WrongType s i k j [] = refl
items_pass Check.BadName s i k j [] = refl
items_pass Check.Missing s i k j (t ∷ ts) = items_pass Check.Missing s i k (j + 1) ts
items_pass Check.WrongType s i k j (t ∷ ts) = items_pass Check.WrongType s i k (j + 1) ts
items_pass Check.BadName s i k j (t ∷ ts) = items_pass Check.BadName s i k (j + 1) ts

tail_pass : (check : Check) (s : Section) (i : ℕ) (k : Key) (ts : List (List ℕ)) → passes check ((item_parts s i k 0 (texts_items ts) ++ []) ++ []) ≡ true
tail_pass check s i k ts =
    let xs = item_parts s i k 0 (texts_items ts) in
    ap (passes check) (append-nil (xs ++ []) ∙ append-nil xs) ∙ items_pass check s i k 0 ts

-- ---- pools

pub pool_again : (name : List ℕ) (size : ℤ) → is_name name ≡ true → pool_of (table_of (pool_by name size)) ≡ record { name = name; size = size }
pool_again name size h = rw (short_name name h) refl

pub pool_sound : (i : ℕ) (name : List ℕ) (size : ℤ) → is_name name ≡ true → AreSound Section.Pool i (key_parts Section.Pool i (table_of (pool_by name size)))
unfolding key_parts
pool_sound i name size h = record { missing = refl; wrong = refl; bad = rw h refl }

pub pool_known : (i : ℕ) (name : List ℕ) (size : ℤ) → strays_of_entry Section.Pool i (table_of (pool_by name size)) ≡ []
unfolding own_strays strays_below
pool_known i name size = refl

-- ---- partitions

pub partition_again : (name : List ℕ) (attr : Attr) (variable : List ℕ) (size : ℤ) (bytes : List ℕ) → is_name name ≡ true → is_given_attr attr ≡ true → is_name variable ≡ true → list_all is_byte bytes ≡ true
    → partition_of (table_of (partition_by name attr variable size bytes)) ≡ partition_entry (record { name = name; attr = attr; variable = variable; size = size; bytes = bytes })
partition_again name attr variable size [] h k l m = rw (short_name name h, given_attr_again attr k, short_name variable l) refl
partition_again name attr variable size (b ∷ bs) h k l m = rw (short_name name h, given_attr_again attr k, short_name variable l, decoded_again (b ∷ bs) m) refl

pub partition_sound : (i : ℕ) (name : List ℕ) (attr : Attr) (variable : List ℕ) (size : ℤ) (bytes : List ℕ) → is_name name ≡ true → is_given_attr attr ≡ true → is_name variable ≡ true → list_all is_byte bytes ≡ true
    → AreSound Section.PackedPartition i (key_parts Section.PackedPartition i (table_of (partition_by name attr variable size bytes)))
unfolding key_parts variable_keys
partition_sound i name attr variable size [] h k l m = record { missing = refl; wrong = refl; bad = rw (h, given_attr_again attr k, l) refl }
partition_sound i name attr variable size (b ∷ bs) h k l m = record { missing = refl; wrong = rw (hexadecimal_again (b ∷ bs) m) refl; bad = rw (h, given_attr_again attr k, l) refl }

pub partition_known : (i : ℕ) (name : List ℕ) (attr : Attr) (variable : List ℕ) (size : ℤ) (bytes : List ℕ) → strays_of_entry Section.PackedPartition i (table_of (partition_by name attr variable size bytes)) ≡ []
unfolding own_strays strays_below
partition_known i name attr variable size [] = refl
partition_known i name attr variable size (b ∷ bs) = refl

-- ---- domains

pub domain_again : (name : List ℕ) (parts : Option (List (List ℕ))) → is_name name ≡ true → domain_of (table_of (domain_by name parts)) ≡ record { name = name; partitions = parts }
domain_again name None h = rw (short_name name h) refl
domain_again name (Some ts) h = rw (short_name name h, texts_again ts) refl

pub domain_sound : (i : ℕ) (name : List ℕ) (parts : Option (List (List ℕ))) → is_name name ≡ true → AreSound Section.Domain i (key_parts Section.Domain i (table_of (domain_by name parts)))
unfolding key_parts
domain_sound i name None h = record { missing = refl; wrong = refl; bad = rw h refl }
domain_sound i name (Some ts) h =
    record {
      missing = tail_pass Check.Missing Section.Domain i Key.Partitions ts;
      wrong = tail_pass Check.WrongType Section.Domain i Key.Partitions ts;
      bad = rw h (tail_pass Check.BadName Section.Domain i Key.Partitions ts);
    }

pub domain_known : (i : ℕ) (name : List ℕ) (parts : Option (List (List ℕ))) → strays_of_entry Section.Domain i (table_of (domain_by name parts)) ≡ []
unfolding own_strays strays_below
domain_known i name None = refl
domain_known i name (Some ts) = refl

-- ---- scripts

pub script_again : (name : List ℕ) (lines : List (List ℕ)) → is_name name ≡ true → script_of (table_of (script_by name lines)) ≡ record { name = name; lines = lines }
script_again name lines h = rw (short_name name h, texts_again lines) refl

pub script_sound : (i : ℕ) (name : List ℕ) (lines : List (List ℕ)) → is_name name ≡ true → AreSound Section.Script i (key_parts Section.Script i (table_of (script_by name lines)))
unfolding key_parts
script_sound i name lines h =
    record {
      missing = tail_pass Check.Missing Section.Script i Key.Lines lines;
      wrong = tail_pass Check.WrongType Section.Script i Key.Lines lines;
      bad = rw h (tail_pass Check.BadName Section.Script i Key.Lines lines);
    }

pub script_known : (i : ℕ) (name : List ℕ) (lines : List (List ℕ)) → strays_of_entry Section.Script i (table_of (script_by name lines)) ≡ []
unfolding own_strays strays_below
script_known i name lines = refl

-- ---- boot entries

pub boot_again : (thread stack script : List ℕ) (priority : ℤ) (domain : List ℕ) (mode : Mode) (pool : Option (List ℕ)) (grants : List (List ℕ))
    → boot_of (table_of (boot_by thread stack script priority domain mode pool grants))
    ≡ record { thread = thread; stack = stack; script = script; priority = priority; domain = domain; mode = mode; pool = pool; grants = grants }
boot_again thread stack script priority domain Mode.User None [] = refl
boot_again thread stack script priority domain Mode.User (Some p) [] = refl
boot_again thread stack script priority domain Mode.User None (t ∷ ts) = rw (texts_again ts) refl
boot_again thread stack script priority domain Mode.User (Some p) (t ∷ ts) = rw (texts_again ts) refl
boot_again thread stack script priority domain Mode.Supervisor None [] = refl
boot_again thread stack script priority domain Mode.Supervisor (Some p) [] = refl
boot_again thread stack script priority domain Mode.Supervisor None (t ∷ ts) = rw (texts_again ts) refl
boot_again thread stack script priority domain Mode.Supervisor (Some p) (t ∷ ts) = rw (texts_again ts) refl

grants_pass : (check : Check) (i : ℕ) (ts : List (List ℕ)) → passes check ((item_parts Section.Boot i Key.Grants 0 (texts_items ts) ++ []) ++ []) ≡ true
grants_pass check i ts = tail_pass check Section.Boot i Key.Grants ts

pub boot_sound : (i : ℕ) (thread stack script : List ℕ) (priority : ℤ) (domain : List ℕ) (mode : Mode) (pool : Option (List ℕ)) (grants : List (List ℕ))
    → AreSound Section.Boot i (key_parts Section.Boot i (table_of (boot_by thread stack script priority domain mode pool grants)))
unfolding key_parts
boot_sound i thread stack script priority domain Mode.User None [] = record { missing = refl; wrong = refl; bad = refl }
boot_sound i thread stack script priority domain Mode.User (Some p) [] = record { missing = refl; wrong = refl; bad = refl }
boot_sound i thread stack script priority domain Mode.Supervisor None [] = record { missing = refl; wrong = refl; bad = refl }
boot_sound i thread stack script priority domain Mode.Supervisor (Some p) [] = record { missing = refl; wrong = refl; bad = refl }
boot_sound i thread stack script priority domain Mode.User None (t ∷ ts) = record { missing = grants_pass Check.Missing i (t ∷ ts); wrong = grants_pass Check.WrongType i (t ∷ ts); bad = grants_pass Check.BadName i (t ∷ ts) }
boot_sound i thread stack script priority domain Mode.User (Some p) (t ∷ ts) = record { missing = grants_pass Check.Missing i (t ∷ ts); wrong = grants_pass Check.WrongType i (t ∷ ts); bad = grants_pass Check.BadName i (t ∷ ts) }
boot_sound i thread stack script priority domain Mode.Supervisor None (t ∷ ts) = record { missing = grants_pass Check.Missing i (t ∷ ts); wrong = grants_pass Check.WrongType i (t ∷ ts); bad = grants_pass Check.BadName i (t ∷ ts) }
boot_sound i thread stack script priority domain Mode.Supervisor (Some p) (t ∷ ts) = record { missing = grants_pass Check.Missing i (t ∷ ts); wrong = grants_pass Check.WrongType i (t ∷ ts); bad = grants_pass Check.BadName i (t ∷ ts) }

pub boot_known : (i : ℕ) (thread stack script : List ℕ) (priority : ℤ) (domain : List ℕ) (mode : Mode) (pool : Option (List ℕ)) (grants : List (List ℕ))
    → strays_of_entry Section.Boot i (table_of (boot_by thread stack script priority domain mode pool grants)) ≡ []
unfolding own_strays strays_below
boot_known i thread stack script priority domain Mode.User None [] = refl
boot_known i thread stack script priority domain Mode.User None (t ∷ ts) = refl
boot_known i thread stack script priority domain Mode.User (Some p) [] = refl
boot_known i thread stack script priority domain Mode.User (Some p) (t ∷ ts) = refl
boot_known i thread stack script priority domain Mode.Supervisor None [] = refl
boot_known i thread stack script priority domain Mode.Supervisor None (t ∷ ts) = refl
boot_known i thread stack script priority domain Mode.Supervisor (Some p) [] = refl
boot_known i thread stack script priority domain Mode.Supervisor (Some p) (t ∷ ts) = refl

-- ---- futexes

pub futex_again : (name partition : List ℕ) (offset : ℤ) → is_name name ≡ true → futex_of (table_of (futex_by name partition offset)) ≡ record { name = name; partition = partition; offset = offset }
futex_again name partition offset h = rw (short_name name h) refl

pub futex_sound : (i : ℕ) (name partition : List ℕ) (offset : ℤ) → is_name name ≡ true → AreSound Section.Futex i (key_parts Section.Futex i (table_of (futex_by name partition offset)))
unfolding key_parts
futex_sound i name partition offset h = record { missing = refl; wrong = refl; bad = rw h refl }

pub futex_known : (i : ℕ) (name partition : List ℕ) (offset : ℤ) → strays_of_entry Section.Futex i (table_of (futex_by name partition offset)) ≡ []
unfolding own_strays strays_below
futex_known i name partition offset = refl
