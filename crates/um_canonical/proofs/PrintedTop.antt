-- What stands at the top of a printed document: its values, no fault of its form, and the entries of its sections.
use Rattle.std.proofs.Common.{◌≡◌, ℕ, ℤ, pos, Bool, true, false, not, ◌&&◌, if◌then◌else◌, List, [], ◌∷◌, ◌++◌, map, flat_map, filter, Option, Some, None, refl, ap, ◌∙◌}
use Rattle.std.proofs.lemmas.Bool.{and_parts}
use Rattle.std.proofs.lemmas.List.Folds.{list_all-append}
use Rattle.std.specs.List.{list_all}
use Rattle.std.specs.Ordering.{int_eq}
use Rattle.toml.specs.Data.{Data, Items, string, integer, as_integer, array, Members, no_members, member, same_key}
use Rattle.um_base.specs.declared.names.Mpu.{Mpu}
use Rattle.um_base.specs.declared.names.Policy.{Policy}
use Rattle.um_document.specs.declared.check.Check.{Check}
use Rattle.um_document.specs.declared.shape.Choice.{Choice}
use Rattle.um_document.specs.declared.shape.Form.{Form}
use Rattle.um_document.specs.declared.shape.Key.{Key}
use Rattle.um_document.specs.declared.shape.Section.{Section}
use Rattle.um_document.specs.Broken.{breaks, is_broken}
use Rattle.um_document.specs.Forms.{is_some_and}
use Rattle.um_document.specs.Parts.{◌>>=◌, Part, top_part, sections, partitions_by, value_at, items_in, entries_parts, section_parts, top_parts, entry_sections}
use Rattle.um_document.specs.Shape.{word, top_fields, sections_with, section_key, required, optional}
use Rattle.um_document.specs.Unknown.{is_key, keys_of, strays_at_top}
use Rattle.um_vocabulary.specs.Words.{mpu_word, policy_word}
use Rattle.um_canonical.specs.Printed as printed
use Rattle.um_canonical.specs.Printed.{Pairs, value_pairs, section_pairs, tables_of, with_members, document_table}
use Rattle.um_canonical.proofs.Toml.Lookups.{found, found-append, at_all, all_keys, keys_pass}
use Rattle.um_canonical.specs.Sections.{encoded}
use Rattle.um_canonical.specs.Text.{top_by, sections_by}
use Rattle.um_canonical.proofs.PrintedObjects.{passes}
use Rattle.um_canonical.proofs.PrintedSections.{is_byte, hexadecimal_again}

-- ---- values

abbrev pub or_given : Bool → List Pairs → Option Data → Option Data
or_given false es o = o
or_given true [] o = o
or_given true (e ∷ es) o = Some (array (tables_of (e ∷ es)))

abbrev section_at : List ℕ → List printed.Section → Option Data → Option Data
section_at k [] o = o
section_at k (s ∷ ss) o = section_at k ss (or_given (same_key k s.0) s.1 o)

given_by : (b : Bool) (e : Pairs) (es : List Pairs) (o : Option Data) → (if b then Some (array (tables_of (e ∷ es))) else o) ≡ or_given b (e ∷ es) o
given_by true e es o = refl
given_by false e es o = refl

none_by : (b : Bool) (o : Option Data) → o ≡ or_given b [] o
none_by true o = refl
none_by false o = refl

section_found : (k : List ℕ) (ss : List printed.Section) (o : Option Data) → found k (flat_map section_pairs ss) o ≡ section_at k ss o
section_found k [] o = refl
section_found k ((s, []) ∷ ss) o = section_found k ss o ∙ ap (section_at k ss) (none_by (same_key k s) o)
section_found k ((s, e ∷ es) ∷ ss) o =
    section_found k ss (if same_key k s then Some (array (tables_of (e ∷ es))) else o) ∙ ap (section_at k ss) (given_by (same_key k s) e es o)

value_found : (k : Key) (top : Pairs) (ss : List printed.Section) → value_at k (document_table top ss) ≡ section_at (word k) ss (found (word k) (value_pairs top) None)
value_found k top ss =
    at_all (word k) (value_pairs top ++ flat_map section_pairs ss) no_members
    ∙ found-append (word k) (value_pairs top) (flat_map section_pairs ss) None
    ∙ section_found (word k) ss (found (word k) (value_pairs top) None)

abbrev pub bytes_value : List ℕ → Option Data
bytes_value [] = None
bytes_value (b ∷ bs) = Some (string (encoded (b ∷ bs)))

abbrev pub given_value : List Pairs → Option Data
given_value es = or_given true es None

pub record AreValues (t : Members) (mpu : Mpu) (regions : ℤ) (policy : Policy) (rodata : List ℕ) (a b c e f g k : List Pairs) : Type 0 where
  pub version : value_at Key.Version t ≡ Some (integer (pos 2))
  pub mpu_is : value_at Key.Mpu t ≡ Some (string (mpu_word mpu))
  pub regions_are : value_at Key.Regions t ≡ Some (integer regions)
  pub policy_is : value_at Key.Oops t ≡ Some (string (policy_word policy))
  pub rodata_is : value_at Key.Rodata t ≡ bytes_value rodata
  pub pools_are : value_at Key.Pool t ≡ given_value a
  pub partitions_are : value_at Key.Partition t ≡ given_value b
  pub domains_are : value_at Key.Domain t ≡ given_value c
  pub objects_are : value_at Key.Object t ≡ given_value e
  pub boots_are : value_at Key.Boot t ≡ given_value f
  pub scripts_are : value_at Key.Script t ≡ given_value g
  pub futexes_are : value_at Key.Futex t ≡ given_value k

pub values_by : (mpu : Mpu) (regions : ℤ) (policy : Policy) (rodata : List ℕ) (a b c e f g k : List Pairs)
    → AreValues (document_table (top_by mpu regions policy rodata) (sections_by a b c e f g k)) mpu regions policy rodata a b c e f g k
values_by mpu regions policy [] a b c e f g k =
    let top = top_by mpu regions policy [] in
    let ss = sections_by a b c e f g k in
    record {
      version = value_found Key.Version top ss;
      mpu_is = value_found Key.Mpu top ss;
      regions_are = value_found Key.Regions top ss;
      policy_is = value_found Key.Oops top ss;
      rodata_is = value_found Key.Rodata top ss;
      pools_are = value_found Key.Pool top ss;
      partitions_are = value_found Key.Partition top ss;
      domains_are = value_found Key.Domain top ss;
      objects_are = value_found Key.Object top ss;
      boots_are = value_found Key.Boot top ss;
      scripts_are = value_found Key.Script top ss;
      futexes_are = value_found Key.Futex top ss;
    }
values_by mpu regions policy (x ∷ xs) a b c e f g k =
    let top = top_by mpu regions policy (x ∷ xs) in
    let ss = sections_by a b c e f g k in
    record {
      version = value_found Key.Version top ss;
      mpu_is = value_found Key.Mpu top ss;
      regions_are = value_found Key.Regions top ss;
      policy_is = value_found Key.Oops top ss;
      rodata_is = value_found Key.Rodata top ss;
      pools_are = value_found Key.Pool top ss;
      partitions_are = value_found Key.Partition top ss;
      domains_are = value_found Key.Domain top ss;
      objects_are = value_found Key.Object top ss;
      boots_are = value_found Key.Boot top ss;
      scripts_are = value_found Key.Script top ss;
      futexes_are = value_found Key.Futex top ss;
    }

pub items_given : (es : List Pairs) → items_in (given_value es) ≡ tables_of es
items_given [] = refl
items_given (e ∷ es) = refl

-- ---- no part is broken

tables_fine : (check : Check) (es : List Pairs) → not (breaks check Form.Tables false (given_value es)) ≡ true
tables_fine Check.Missing [] = refl
tables_fine Check.Missing (e ∷ es) = refl
tables_fine Check.WrongType [] = refl
tables_fine Check.WrongType (e ∷ es) = refl
tables_fine Check.BadName [] = refl
tables_fine Check.BadName (e ∷ es) = refl

bytes_fine : (check : Check) (rodata : List ℕ) → list_all is_byte rodata ≡ true → not (breaks check Form.Digits false (bytes_value rodata)) ≡ true
bytes_fine Check.Missing [] h = refl
bytes_fine Check.WrongType [] h = refl
bytes_fine Check.BadName [] h = refl
bytes_fine Check.Missing (x ∷ xs) h = refl
bytes_fine Check.WrongType (x ∷ xs) h = rw (hexadecimal_again (x ∷ xs) h) refl
bytes_fine Check.BadName (x ∷ xs) h = refl

number_fine : (check : Check) (z : ℤ) → not (breaks check Form.Number true (Some (integer z))) ≡ true
number_fine Check.Missing z = refl
number_fine Check.WrongType z = refl
number_fine Check.BadName z = refl

mpu_fine : (check : Check) (mpu : Mpu) → not (breaks check (Form.Word Choice.Mpu) true (Some (string (mpu_word mpu)))) ≡ true
mpu_fine Check.Missing Mpu.V7 = refl
mpu_fine Check.Missing Mpu.V8 = refl
mpu_fine Check.WrongType Mpu.V7 = refl
mpu_fine Check.WrongType Mpu.V8 = refl
mpu_fine Check.BadName Mpu.V7 = refl
mpu_fine Check.BadName Mpu.V8 = refl

policy_fine : (check : Check) (policy : Policy) → not (breaks check (Form.Word Choice.Policy) true (Some (string (policy_word policy)))) ≡ true
policy_fine Check.Missing Policy.Abort = refl
policy_fine Check.Missing Policy.Halt = refl
policy_fine Check.WrongType Policy.Abort = refl
policy_fine Check.WrongType Policy.Halt = refl
policy_fine Check.BadName Policy.Abort = refl
policy_fine Check.BadName Policy.Halt = refl

cons_pass : (check : Check) (p : Part) (ps : List Part) → not (is_broken check p) ≡ true → passes check ps ≡ true → passes check (p ∷ ps) ≡ true
cons_pass check p ps h k = rw (h, k) refl

both_pass : (check : Check) (ps qs : List Part) → passes check ps ≡ true → passes check qs ≡ true → passes check (ps ++ qs) ≡ true
both_pass check ps qs h k = list_all-append (λ (p : Part). not (is_broken check p)) ps qs ∙ rw (h, k) refl

pub top_pass : (check : Check) (t : Members) (mpu : Mpu) (regions : ℤ) (policy : Policy) (rodata : List ℕ) (a b c e f g k : List Pairs) → AreValues t mpu regions policy rodata a b c e f g k → list_all is_byte rodata ≡ true
    → passes check (top_parts t) ≡ true
unfolding top_parts
top_pass check t mpu regions policy rodata a b c e f g k v h =
    cons_pass check (top_part t (required Key.Version Form.Number)) (map (top_part t) (required Key.Mpu (Form.Word Choice.Mpu) ∷ required Key.Regions Form.Number ∷ required Key.Oops (Form.Word Choice.Policy) ∷ optional Key.Rodata Form.Digits ∷ optional Key.Pool Form.Tables ∷ optional Key.Partition Form.Tables ∷ optional Key.Domain Form.Tables ∷ optional Key.Object Form.Tables ∷ optional Key.Boot Form.Tables ∷ optional Key.Script Form.Tables ∷ optional Key.Futex Form.Tables ∷ [])) (ap (λ (o : Option Data). not (breaks check Form.Number true o)) v.version ∙ number_fine check (pos 2))
    (cons_pass check (top_part t (required Key.Mpu (Form.Word Choice.Mpu))) (map (top_part t) (required Key.Regions Form.Number ∷ required Key.Oops (Form.Word Choice.Policy) ∷ optional Key.Rodata Form.Digits ∷ optional Key.Pool Form.Tables ∷ optional Key.Partition Form.Tables ∷ optional Key.Domain Form.Tables ∷ optional Key.Object Form.Tables ∷ optional Key.Boot Form.Tables ∷ optional Key.Script Form.Tables ∷ optional Key.Futex Form.Tables ∷ [])) (ap (λ (o : Option Data). not (breaks check (Form.Word Choice.Mpu) true o)) v.mpu_is ∙ mpu_fine check mpu)
    (cons_pass check (top_part t (required Key.Regions Form.Number)) (map (top_part t) (required Key.Oops (Form.Word Choice.Policy) ∷ optional Key.Rodata Form.Digits ∷ optional Key.Pool Form.Tables ∷ optional Key.Partition Form.Tables ∷ optional Key.Domain Form.Tables ∷ optional Key.Object Form.Tables ∷ optional Key.Boot Form.Tables ∷ optional Key.Script Form.Tables ∷ optional Key.Futex Form.Tables ∷ [])) (ap (λ (o : Option Data). not (breaks check Form.Number true o)) v.regions_are ∙ number_fine check regions)
    (cons_pass check (top_part t (required Key.Oops (Form.Word Choice.Policy))) (map (top_part t) (optional Key.Rodata Form.Digits ∷ optional Key.Pool Form.Tables ∷ optional Key.Partition Form.Tables ∷ optional Key.Domain Form.Tables ∷ optional Key.Object Form.Tables ∷ optional Key.Boot Form.Tables ∷ optional Key.Script Form.Tables ∷ optional Key.Futex Form.Tables ∷ [])) (ap (λ (o : Option Data). not (breaks check (Form.Word Choice.Policy) true o)) v.policy_is ∙ policy_fine check policy)
    (cons_pass check (top_part t (optional Key.Rodata Form.Digits)) (map (top_part t) (optional Key.Pool Form.Tables ∷ optional Key.Partition Form.Tables ∷ optional Key.Domain Form.Tables ∷ optional Key.Object Form.Tables ∷ optional Key.Boot Form.Tables ∷ optional Key.Script Form.Tables ∷ optional Key.Futex Form.Tables ∷ [])) (ap (λ (o : Option Data). not (breaks check Form.Digits false o)) v.rodata_is ∙ bytes_fine check rodata h)
    (cons_pass check (top_part t (optional Key.Pool Form.Tables)) (map (top_part t) (optional Key.Partition Form.Tables ∷ optional Key.Domain Form.Tables ∷ optional Key.Object Form.Tables ∷ optional Key.Boot Form.Tables ∷ optional Key.Script Form.Tables ∷ optional Key.Futex Form.Tables ∷ [])) (ap (λ (o : Option Data). not (breaks check Form.Tables false o)) v.pools_are ∙ tables_fine check a)
    (cons_pass check (top_part t (optional Key.Partition Form.Tables)) (map (top_part t) (optional Key.Domain Form.Tables ∷ optional Key.Object Form.Tables ∷ optional Key.Boot Form.Tables ∷ optional Key.Script Form.Tables ∷ optional Key.Futex Form.Tables ∷ [])) (ap (λ (o : Option Data). not (breaks check Form.Tables false o)) v.partitions_are ∙ tables_fine check b)
    (cons_pass check (top_part t (optional Key.Domain Form.Tables)) (map (top_part t) (optional Key.Object Form.Tables ∷ optional Key.Boot Form.Tables ∷ optional Key.Script Form.Tables ∷ optional Key.Futex Form.Tables ∷ [])) (ap (λ (o : Option Data). not (breaks check Form.Tables false o)) v.domains_are ∙ tables_fine check c)
    (cons_pass check (top_part t (optional Key.Object Form.Tables)) (map (top_part t) (optional Key.Boot Form.Tables ∷ optional Key.Script Form.Tables ∷ optional Key.Futex Form.Tables ∷ [])) (ap (λ (o : Option Data). not (breaks check Form.Tables false o)) v.objects_are ∙ tables_fine check e)
    (cons_pass check (top_part t (optional Key.Boot Form.Tables)) (map (top_part t) (optional Key.Script Form.Tables ∷ optional Key.Futex Form.Tables ∷ [])) (ap (λ (o : Option Data). not (breaks check Form.Tables false o)) v.boots_are ∙ tables_fine check f)
    (cons_pass check (top_part t (optional Key.Script Form.Tables)) (map (top_part t) (optional Key.Futex Form.Tables ∷ [])) (ap (λ (o : Option Data). not (breaks check Form.Tables false o)) v.scripts_are ∙ tables_fine check g)
    (cons_pass check (top_part t (optional Key.Futex Form.Tables)) [] (ap (λ (o : Option Data). not (breaks check Form.Tables false o)) v.futexes_are ∙ tables_fine check k)
    refl)))))))))))

section_pass : (check : Check) (s : Section) (t : Members) (es : List Pairs) → items_in (value_at (section_key s) t) ≡ tables_of es → passes check (entries_parts s 0 (tables_of es)) ≡ true → passes check (section_parts t s) ≡ true
section_pass check s t es same h = ap (λ (ds : Items). passes check (entries_parts s 0 ds)) same ∙ h

-- a document of version 2 lists partitions by their variables
pub packed_sections : (t : Members) → value_at Key.Version t ≡ Some (integer (pos 2)) → sections t ≡ sections_with Section.PackedPartition
packed_sections t is = ap (λ (o : Option Data). sections_with (partitions_by (is_some_and (λ z. int_eq z (pos 2)) (o >>= as_integer)))) is

-- the sections pass, each by itself
pub entries_pass : (check : Check) (t : Members) (mpu : Mpu) (regions : ℤ) (policy : Policy) (rodata : List ℕ) (a b c e f g k : List Pairs) → AreValues t mpu regions policy rodata a b c e f g k
    → passes check (entries_parts Section.Pool 0 (tables_of a)) ≡ true → passes check (entries_parts Section.PackedPartition 0 (tables_of b)) ≡ true → passes check (entries_parts Section.Domain 0 (tables_of c)) ≡ true
    → passes check (entries_parts Section.Object 0 (tables_of e)) ≡ true → passes check (entries_parts Section.Boot 0 (tables_of f)) ≡ true → passes check (entries_parts Section.Script 0 (tables_of g)) ≡ true
    → passes check (entries_parts Section.Futex 0 (tables_of k)) ≡ true → passes check (entry_sections t) ≡ true
unfolding entry_sections
entries_pass check t mpu regions policy rodata a b c e f g k v p1 p2 p3 p4 p5 p6 p7 =
    let q1 = section_pass check Section.Pool t a (ap items_in v.pools_are ∙ items_given a) p1 in
    let q2 = section_pass check Section.PackedPartition t b (ap items_in v.partitions_are ∙ items_given b) p2 in
    let q3 = section_pass check Section.Domain t c (ap items_in v.domains_are ∙ items_given c) p3 in
    let q4 = section_pass check Section.Object t e (ap items_in v.objects_are ∙ items_given e) p4 in
    let q5 = section_pass check Section.Boot t f (ap items_in v.boots_are ∙ items_given f) p5 in
    let q6 = section_pass check Section.Script t g (ap items_in v.scripts_are ∙ items_given g) p6 in
    let q7 = section_pass check Section.Futex t k (ap items_in v.futexes_are ∙ items_given k) p7 in
    ap (λ (ss : List Section). passes check (flat_map (section_parts t) ss)) (packed_sections t v.version)
    ∙ both_pass check (section_parts t Section.Pool) (flat_map (section_parts t) (Section.PackedPartition ∷ Section.Domain ∷ Section.Object ∷ Section.Boot ∷ Section.Script ∷ Section.Futex ∷ [])) q1 (both_pass check (section_parts t Section.PackedPartition) (flat_map (section_parts t) (Section.Domain ∷ Section.Object ∷ Section.Boot ∷ Section.Script ∷ Section.Futex ∷ [])) q2 (both_pass check (section_parts t Section.Domain) (flat_map (section_parts t) (Section.Object ∷ Section.Boot ∷ Section.Script ∷ Section.Futex ∷ [])) q3 (both_pass check (section_parts t Section.Object) (flat_map (section_parts t) (Section.Boot ∷ Section.Script ∷ Section.Futex ∷ [])) q4 (both_pass check (section_parts t Section.Boot) (flat_map (section_parts t) (Section.Script ∷ Section.Futex ∷ [])) q5 (both_pass check (section_parts t Section.Script) (flat_map (section_parts t) (Section.Futex ∷ [])) q6 (both_pass check (section_parts t Section.Futex) [] q7 (refl)))))))

-- ---- no key is unknown

none_stray : (q : List ℕ → Bool) (t : Members) → all_keys q t ≡ true → filter (λ text. not (q text) && true) (keys_of t) ≡ []
none_stray q no_members h = refl
none_stray q (member k d ms) h =
    let both = and_parts (q k) (all_keys q ms) h in
    rw (both.0) (none_stray q ms both.1)

section_key_known : (q : List ℕ → Bool) (k : List ℕ) (es : List Pairs) → q k ≡ true → list_all (λ (p : List ℕ × Data). q p.0) (section_pairs (k, es)) ≡ true
section_key_known q k [] h = refl
section_key_known q k (e ∷ es) h = rw h refl

joined : (q : List ℕ → Bool) (xs ys : List (List ℕ × Data)) → list_all (λ (p : List ℕ × Data). q p.0) xs ≡ true → list_all (λ (p : List ℕ × Data). q p.0) ys ≡ true → list_all (λ (p : List ℕ × Data). q p.0) (xs ++ ys) ≡ true
joined q xs ys h k = list_all-append (λ (p : List ℕ × Data). q p.0) xs ys ∙ rw (h, k) refl

abbrev top_key : List ℕ → Bool
top_key text = is_key top_fields text

top_keys : (mpu : Mpu) (regions : ℤ) (policy : Policy) (rodata : List ℕ) → list_all (λ (p : List ℕ × Data). top_key p.0) (value_pairs (top_by mpu regions policy rodata)) ≡ true
top_keys mpu regions policy [] = refl
top_keys mpu regions policy (x ∷ xs) = refl

pub no_stray_at_top : (mpu : Mpu) (regions : ℤ) (policy : Policy) (rodata : List ℕ) (a b c e f g k : List Pairs)
    → strays_at_top (document_table (top_by mpu regions policy rodata) (sections_by a b c e f g k)) ≡ []
unfolding strays_at_top
no_stray_at_top mpu regions policy rodata a b c e f g k =
    let top = value_pairs (top_by mpu regions policy rodata) in
    let ss = flat_map section_pairs (sections_by a b c e f g k) in
    let all : list_all (λ (p : List ℕ × Data). top_key p.0) ss ≡ true =
    joined top_key (section_pairs (word Key.Pool, a)) (flat_map section_pairs ((word Key.Partition, b) ∷ (word Key.Domain, c) ∷ (word Key.Object, e) ∷ (word Key.Boot, f) ∷ (word Key.Script, g) ∷ (word Key.Futex, k) ∷ [])) (section_key_known top_key (word Key.Pool) a refl) (joined top_key (section_pairs (word Key.Partition, b)) (flat_map section_pairs ((word Key.Domain, c) ∷ (word Key.Object, e) ∷ (word Key.Boot, f) ∷ (word Key.Script, g) ∷ (word Key.Futex, k) ∷ [])) (section_key_known top_key (word Key.Partition) b refl) (joined top_key (section_pairs (word Key.Domain, c)) (flat_map section_pairs ((word Key.Object, e) ∷ (word Key.Boot, f) ∷ (word Key.Script, g) ∷ (word Key.Futex, k) ∷ [])) (section_key_known top_key (word Key.Domain) c refl) (joined top_key (section_pairs (word Key.Object, e)) (flat_map section_pairs ((word Key.Boot, f) ∷ (word Key.Script, g) ∷ (word Key.Futex, k) ∷ [])) (section_key_known top_key (word Key.Object) e refl) (joined top_key (section_pairs (word Key.Boot, f)) (flat_map section_pairs ((word Key.Script, g) ∷ (word Key.Futex, k) ∷ [])) (section_key_known top_key (word Key.Boot) f refl) (joined top_key (section_pairs (word Key.Script, g)) (flat_map section_pairs ((word Key.Futex, k) ∷ [])) (section_key_known top_key (word Key.Script) g refl) (joined top_key (section_pairs (word Key.Futex, k)) [] (section_key_known top_key (word Key.Futex) k refl) (refl))))))) in
    none_stray top_key (with_members (top ++ ss) no_members) (keys_pass top_key (top ++ ss) no_members (joined top_key top ss (top_keys mpu regions policy rodata) all) refl)
