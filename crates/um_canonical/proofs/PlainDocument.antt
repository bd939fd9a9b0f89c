-- The printed document has plain lines, and no key twice.
use Rattle.std.proofs.Common.{◌≡◌, ℕ, ℤ, ◌/◌, ◌%◌, ◌<◌, ◌^◌, suc, pos, negsuc, Bool, true, false, FitsSigned, List, [], ◌∷◌, ◌++◌, map, Option, Some, None, refl, arith}
use Rattle.std.proofs.lemmas.Bool.{and_parts}
use Rattle.std.proofs.lemmas.Bool.Decides.{nat_tests}
use Rattle.std.specs.Int.{w64}
use Rattle.std.proofs.lemmas.Int.{fits_signed_from_abs}
use Rattle.std.specs.List.{list_all}
use Rattle.um_base.specs.declared.attr.Attr.{Attr}
use Rattle.um_base.specs.declared.names.Mode.{Mode}
use Rattle.um_base.specs.declared.names.Mpu.{Mpu}
use Rattle.um_base.specs.declared.names.Policy.{Policy}
use Rattle.um_document.specs.declared.description.BootEntry.{BootEntry}
use Rattle.um_document.specs.declared.description.Description.{Description}
use Rattle.um_document.specs.declared.description.Details.{Details}
use Rattle.um_document.specs.declared.description.DomainEntry.{DomainEntry}
use Rattle.um_document.specs.declared.description.FutexEntry.{FutexEntry}
use Rattle.um_document.specs.declared.description.ObjectEntry.{ObjectEntry}
use Rattle.um_document.specs.declared.description.PoolEntry.{PoolEntry}
use Rattle.um_document.specs.declared.description.ScriptEntry.{ScriptEntry}
use Rattle.um_document.specs.declared.shape.Key.{Key}
use Rattle.um_document.specs.Shape.{word}
use Rattle.um_canonical.specs.Printed.{Line, Pairs, pair_lines, entry_lines, section_lines}
use Rattle.um_canonical.proofs.Toml.Lines.{ArePlainLines}
use Rattle.um_canonical.proofs.Toml.Runs.{AreApart, are_apart, keys, IsPlainDocument}
use Rattle.um_canonical.proofs.Toml.Strings.{is_plain_byte}
use Rattle.um_canonical.proofs.Toml.Values.{is_plain, is_bare_key, ArePlain}
use Rattle.um_canonical.specs.Entries.{Packed}
use Rattle.um_canonical.specs.Objects.{pairs_by}
use Rattle.um_canonical.specs.Sections.{hex_digit, encoded, bytes_pairs, pool_by, partition_by, domain_by, boot_by, script_by, futex_by}
use Rattle.um_canonical.proofs.PlainLines.{attr_plain}
use Rattle.um_canonical.proofs.PrintedSections.{is_byte}
use Rattle.um_canonical.specs.Text.{of_pool, of_partition, of_domain, of_object, of_boot, of_script, of_futex, top_by, sections_by, top_of, sections_of}

abbrev pub Fits : ℤ → Type 0
Fits z = FitsSigned w64 z

abbrev pub Plain : List ℕ → Type 0
Plain s = is_plain s ≡ true

hex_plain : (n : ℕ) → n < 16 → is_plain_byte (hex_digit n) ≡ true
hex_plain n lt = grind (arith, nat_tests)

pub encoded_plain : (bs : List ℕ) → list_all is_byte bs ≡ true → Plain (encoded bs)
encoded_plain [] h = refl
encoded_plain (b ∷ bs) h =
    let both = and_parts (is_byte b) (list_all is_byte bs) h in
    let lt : b < 256 = grind (arith, nat_tests, both.0) in
    rw (hex_plain (b / 16) (omega (arith, lt)), hex_plain (b % 16) (omega arith), encoded_plain bs both.1) refl

bytes_plain : (k : Key) (bs : List ℕ) → is_bare_key (word k) ≡ true → list_all is_byte bs ≡ true → ArePlainLines (pair_lines (bytes_pairs k bs))
bytes_plain k [] bare h = tt
bytes_plain k (b ∷ bs) bare h = ((bare, encoded_plain (b ∷ bs) h), tt)

both_lines : (xs ys : List Line) → ArePlainLines xs → ArePlainLines ys → ArePlainLines (xs ++ ys)
both_lines [] ys h k = k
both_lines (x ∷ xs) ys h k = (h.0, both_lines xs ys h.1 k)

-- ---- entries

pool_plain : (name : List ℕ) (size : ℤ) → Plain name → Fits size → ArePlainLines (pair_lines (pool_by name size))
pool_plain name size h k = ((refl, h), ((refl, k), tt))

pub pos_fits : (n : ℕ) → n < 2 ^ 63 → Fits (pos n)
pos_fits n lt = fits_signed_from_abs w64 (pos n) lt

partition_plain : (name : List ℕ) (attr : Attr) (variable : List ℕ) (size : ℤ) (bytes : List ℕ) → Plain name → Plain variable → Fits size → list_all is_byte bytes ≡ true
    → ArePlainLines (pair_lines (partition_by name attr variable size bytes))
partition_plain name attr variable size [] h k l m =
    ((refl, h), ((refl, attr_plain attr), ((refl, ((refl, k, (refl, l, (refl, pos_fits 32 (omega arith), tt))), (refl, (refl, (refl, tt))))), tt)))
partition_plain name attr variable size (b ∷ bs) h k l m =
    ((refl, h), ((refl, attr_plain attr), ((refl, ((refl, k, (refl, l, (refl, pos_fits 32 (omega arith), (refl, encoded_plain (b ∷ bs) m, tt)))), (refl, (refl, (refl, (refl, tt)))))), tt)))

abbrev pub GivenPlain : Option (List (List ℕ)) → Type 0
GivenPlain None = Unit {0}
GivenPlain (Some ts) = ArePlain ts

domain_plain : (name : List ℕ) (parts : Option (List (List ℕ))) → Plain name → GivenPlain parts → ArePlainLines (pair_lines (domain_by name parts))
domain_plain name None h k = ((refl, h), tt)
domain_plain name (Some ts) h k = ((refl, h), ((refl, k), tt))

script_plain : (name : List ℕ) (lines : List (List ℕ)) → Plain name → ArePlain lines → ArePlainLines (pair_lines (script_by name lines))
script_plain name lines h k = ((refl, h), ((refl, k), tt))

futex_plain : (name partition : List ℕ) (offset : ℤ) → Plain name → Plain partition → Fits offset → ArePlainLines (pair_lines (futex_by name partition offset))
futex_plain name partition offset h k l = ((refl, h), ((refl, k), ((refl, l), tt)))

abbrev pub DetailsFit : Details → Type 0
DetailsFit (Details.ThreadStack size) = Fits size
DetailsFit (Details.Sem (Some n)) = Fits n.count × Fits n.limit
DetailsFit (Details.Msgq (Some n)) = Fits n.msg_size × Fits n.max_msgs
DetailsFit (Details.Stack (Some n)) = Fits n
DetailsFit (Details.Pipe (Some n)) = Fits n
DetailsFit _ = Unit {0}

object_plain : (name : List ℕ) (public : Bool) (details : Details) → Plain name → DetailsFit details → ArePlainLines (pair_lines (pairs_by name public details))
object_plain name true Details.Thread h k = ((refl, h), ((refl, refl), ((refl, tt), tt)))
object_plain name false Details.Thread h k = ((refl, h), ((refl, refl), tt))
object_plain name true (Details.ThreadStack size) h k = ((refl, h), ((refl, refl), ((refl, tt), ((refl, k), tt))))
object_plain name false (Details.ThreadStack size) h k = ((refl, h), ((refl, refl), ((refl, k), tt)))
object_plain name true (Details.Sem None) h k = ((refl, h), ((refl, refl), ((refl, tt), tt)))
object_plain name false (Details.Sem None) h k = ((refl, h), ((refl, refl), tt))
object_plain name true (Details.Sem (Some n)) h k = ((refl, h), ((refl, refl), ((refl, tt), ((refl, k.0), ((refl, k.1), tt)))))
object_plain name false (Details.Sem (Some n)) h k = ((refl, h), ((refl, refl), ((refl, k.0), ((refl, k.1), tt))))
object_plain name true (Details.Mutex true) h k = ((refl, h), ((refl, refl), ((refl, tt), ((refl, tt), tt))))
object_plain name false (Details.Mutex true) h k = ((refl, h), ((refl, refl), ((refl, tt), tt)))
object_plain name true (Details.Mutex false) h k = ((refl, h), ((refl, refl), ((refl, tt), tt)))
object_plain name false (Details.Mutex false) h k = ((refl, h), ((refl, refl), tt))
object_plain name true (Details.Msgq None) h k = ((refl, h), ((refl, refl), ((refl, tt), tt)))
object_plain name false (Details.Msgq None) h k = ((refl, h), ((refl, refl), tt))
object_plain name true (Details.Msgq (Some n)) h k = ((refl, h), ((refl, refl), ((refl, tt), ((refl, k.0), ((refl, k.1), tt)))))
object_plain name false (Details.Msgq (Some n)) h k = ((refl, h), ((refl, refl), ((refl, k.0), ((refl, k.1), tt))))
object_plain name true (Details.Stack None) h k = ((refl, h), ((refl, refl), ((refl, tt), tt)))
object_plain name false (Details.Stack None) h k = ((refl, h), ((refl, refl), tt))
object_plain name true (Details.Stack (Some n)) h k = ((refl, h), ((refl, refl), ((refl, tt), ((refl, k), tt))))
object_plain name false (Details.Stack (Some n)) h k = ((refl, h), ((refl, refl), ((refl, k), tt)))
object_plain name true (Details.Pipe None) h k = ((refl, h), ((refl, refl), ((refl, tt), tt)))
object_plain name false (Details.Pipe None) h k = ((refl, h), ((refl, refl), tt))
object_plain name true (Details.Pipe (Some n)) h k = ((refl, h), ((refl, refl), ((refl, tt), ((refl, k), tt))))
object_plain name false (Details.Pipe (Some n)) h k = ((refl, h), ((refl, refl), ((refl, k), tt)))
object_plain name true Details.Timer h k = ((refl, h), ((refl, refl), ((refl, tt), tt)))
object_plain name false Details.Timer h k = ((refl, h), ((refl, refl), tt))

abbrev pub PoolPlain : Option (List ℕ) → Type 0
PoolPlain None = Unit {0}
PoolPlain (Some t) = Plain t

boot_plain : (thread stack script : List ℕ) (priority : ℤ) (domain : List ℕ) (mode : Mode) (pool : Option (List ℕ)) (grants : List (List ℕ)) → Plain thread → Plain stack → Plain script → Fits priority → Plain domain → PoolPlain pool → ArePlain grants
    → ArePlainLines (pair_lines (boot_by thread stack script priority domain mode pool grants))
boot_plain thread stack script priority domain Mode.User None [] h k l z n q r = ((refl, h), ((refl, k), ((refl, l), ((refl, z), ((refl, n), ((refl, refl), tt))))))
boot_plain thread stack script priority domain Mode.User None (x ∷ xs) h k l z n q r = ((refl, h), ((refl, k), ((refl, l), ((refl, z), ((refl, n), ((refl, refl), ((refl, r), tt)))))))
boot_plain thread stack script priority domain Mode.User (Some t) [] h k l z n q r = ((refl, h), ((refl, k), ((refl, l), ((refl, z), ((refl, n), ((refl, refl), ((refl, q), tt)))))))
boot_plain thread stack script priority domain Mode.User (Some t) (x ∷ xs) h k l z n q r = ((refl, h), ((refl, k), ((refl, l), ((refl, z), ((refl, n), ((refl, refl), ((refl, q), ((refl, r), tt))))))))
boot_plain thread stack script priority domain Mode.Supervisor None [] h k l z n q r = ((refl, h), ((refl, k), ((refl, l), ((refl, z), ((refl, n), ((refl, refl), tt))))))
boot_plain thread stack script priority domain Mode.Supervisor None (x ∷ xs) h k l z n q r = ((refl, h), ((refl, k), ((refl, l), ((refl, z), ((refl, n), ((refl, refl), ((refl, r), tt)))))))
boot_plain thread stack script priority domain Mode.Supervisor (Some t) [] h k l z n q r = ((refl, h), ((refl, k), ((refl, l), ((refl, z), ((refl, n), ((refl, refl), ((refl, q), tt)))))))
boot_plain thread stack script priority domain Mode.Supervisor (Some t) (x ∷ xs) h k l z n q r = ((refl, h), ((refl, k), ((refl, l), ((refl, z), ((refl, n), ((refl, refl), ((refl, q), ((refl, r), tt))))))))

-- ---- the same of all

abbrev pub Each : {A : Type 0} → (A → Type 0) → List A → Type 0
Each P [] = Unit {0}
Each P (x ∷ xs) = P x × Each P xs

abbrev pub PoolIsPlain : PoolEntry → Type 0
PoolIsPlain p = Plain p.name × Fits p.size

abbrev pub PartitionIsPlain : Packed → Type 0
PartitionIsPlain p = Plain p.name × Plain p.variable × Fits p.size × (list_all is_byte p.bytes ≡ true)

abbrev pub DomainIsPlain : DomainEntry → Type 0
DomainIsPlain m = Plain m.name × GivenPlain m.partitions

abbrev pub ObjectIsPlain : ObjectEntry → Type 0
ObjectIsPlain o = Plain o.name × DetailsFit o.details

pub record BootIsPlain (b : BootEntry) : Type 0 where
  pub thread : Plain b.thread
  pub stack : Plain b.stack
  pub script : Plain b.script
  pub priority : Fits b.priority
  pub domain : Plain b.domain
  pub pool : PoolPlain b.pool
  pub grants : ArePlain b.grants

abbrev pub ScriptIsPlain : ScriptEntry → Type 0
ScriptIsPlain s = Plain s.name × ArePlain s.lines

abbrev pub FutexIsPlain : FutexEntry → Type 0
FutexIsPlain f = Plain f.name × Plain f.partition × Fits f.offset

pub record IsPlainDescription (d : Description) (ps : List Packed) : Type 0 where
  pub regions : Fits d.regions
  pub rodata : list_all is_byte d.rodata ≡ true
  pub pools : Each PoolIsPlain d.pools
  pub partitions : Each PartitionIsPlain ps
  pub domains : Each DomainIsPlain d.domains
  pub objects : Each ObjectIsPlain d.objects
  pub boots : Each BootIsPlain d.boots
  pub scripts : Each ScriptIsPlain d.scripts
  pub futexes : Each FutexIsPlain d.futexes

entries_plain : {A : Type 0} (k : List ℕ) (g : A → Pairs) (P : A → Type 0) → is_bare_key k ≡ true → ((x : A) → P x → ArePlainLines (pair_lines (g x))) → (xs : List A) → Each P xs → ArePlainLines (section_lines (k, map g xs))
entries_plain k g P bare plain [] h = tt
entries_plain k g P bare plain (x ∷ xs) h =
    both_lines (entry_lines k (g x)) (section_lines (k, map g xs)) (bare, plain x h.0) (entries_plain k g P bare plain xs h.1)

pub negative_fits : (n : ℕ) → suc n < 2 ^ 63 → Fits (negsuc n)
negative_fits n lt = fits_signed_from_abs w64 (negsuc n) lt

two_fits : Fits (pos 2)
two_fits = pos_fits 2 (omega arith)

top_plain : (mpu : Mpu) (regions : ℤ) (policy : Policy) (rodata : List ℕ) → Fits regions → list_all is_byte rodata ≡ true → ArePlainLines (pair_lines (top_by mpu regions policy rodata))
top_plain Mpu.V7 regions Policy.Abort rodata h k = ((refl, two_fits), ((refl, refl), ((refl, h), ((refl, refl), bytes_plain Key.Rodata rodata refl k))))
top_plain Mpu.V7 regions Policy.Halt rodata h k = ((refl, two_fits), ((refl, refl), ((refl, h), ((refl, refl), bytes_plain Key.Rodata rodata refl k))))
top_plain Mpu.V8 regions Policy.Abort rodata h k = ((refl, two_fits), ((refl, refl), ((refl, h), ((refl, refl), bytes_plain Key.Rodata rodata refl k))))
top_plain Mpu.V8 regions Policy.Halt rodata h k = ((refl, two_fits), ((refl, refl), ((refl, h), ((refl, refl), bytes_plain Key.Rodata rodata refl k))))

apart_by : {A : Type 0} (g : A → Pairs) → ((x : A) → are_apart (keys (g x)) ≡ true) → (xs : List A) → AreApart (map g xs)
apart_by g apart [] = tt
apart_by g apart (x ∷ xs) = (apart x, apart_by g apart xs)

partition_apart : (name : List ℕ) (attr : Attr) (variable : List ℕ) (size : ℤ) (bytes : List ℕ) → are_apart (keys (partition_by name attr variable size bytes)) ≡ true
partition_apart name attr variable size bytes = refl

domain_apart : (name : List ℕ) (parts : Option (List (List ℕ))) → are_apart (keys (domain_by name parts)) ≡ true
domain_apart name None = refl
domain_apart name (Some ts) = refl

object_apart : (name : List ℕ) (public : Bool) (details : Details) → are_apart (keys (pairs_by name public details)) ≡ true
object_apart name true Details.Thread = refl
object_apart name false Details.Thread = refl
object_apart name true (Details.Sem None) = refl
object_apart name false (Details.Sem None) = refl
object_apart name true (Details.Mutex true) = refl
object_apart name false (Details.Mutex true) = refl
object_apart name true (Details.Msgq None) = refl
object_apart name false (Details.Msgq None) = refl
object_apart name true (Details.Stack None) = refl
object_apart name false (Details.Stack None) = refl
object_apart name true (Details.Pipe None) = refl
object_apart name false (Details.Pipe None) = refl
object_apart name true Details.Timer = refl
object_apart name false Details.Timer = refl
object_apart name _ _ = refl

boot_apart : (thread stack script : List ℕ) (priority : ℤ) (domain : List ℕ) (mode : Mode) (pool : Option (List ℕ)) (grants : List (List ℕ)) → are_apart (keys (boot_by thread stack script priority domain mode pool grants)) ≡ true
boot_apart thread stack script priority domain mode None [] = refl
boot_apart thread stack script priority domain mode None (t ∷ ts) = refl
boot_apart thread stack script priority domain mode (Some p) [] = refl
boot_apart thread stack script priority domain mode (Some p) (t ∷ ts) = refl

top_apart : (mpu : Mpu) (regions : ℤ) (policy : Policy) (rodata : List ℕ) (a b c e f g k : List Pairs) → are_apart (keys (top_by mpu regions policy rodata) ++ keys (sections_by a b c e f g k)) ≡ true
top_apart mpu regions policy [] a b c e f g k = refl
top_apart mpu regions policy (x ∷ xs) a b c e f g k = refl

pub document_plain : (d : Description) (ps : List Packed) → IsPlainDescription d ps → IsPlainDocument (top_of d) (sections_of d ps)
document_plain d ps h =
    let a = map of_pool d.pools in
    let b = map of_partition ps in
    let c = map of_domain d.domains in
    let e = map of_object d.objects in
    let f = map of_boot d.boots in
    let g = map of_script d.scripts in
    let k = map of_futex d.futexes in
    let one = entries_plain (word Key.Pool) of_pool PoolIsPlain refl (λ p k. pool_plain p.name p.size k.0 k.1) d.pools h.pools in
    let two = entries_plain (word Key.Partition) of_partition PartitionIsPlain refl (λ p k. partition_plain p.name p.attr p.variable p.size p.bytes k.0 k.1 k.2 k.3) ps h.partitions in
    let three = entries_plain (word Key.Domain) of_domain DomainIsPlain refl (λ m k. domain_plain m.name m.partitions k.0 k.1) d.domains h.domains in
    let four = entries_plain (word Key.Object) of_object ObjectIsPlain refl (λ o k. object_plain o.name o.public o.details k.0 k.1) d.objects h.objects in
    let five = entries_plain (word Key.Boot) of_boot BootIsPlain refl
    (λ x k. boot_plain x.thread x.stack x.script x.priority x.domain x.mode x.pool x.grants k.thread k.stack k.script k.priority k.domain k.pool k.grants) d.boots h.boots in
    let six = entries_plain (word Key.Script) of_script ScriptIsPlain refl (λ s k. script_plain s.name s.lines k.0 k.1) d.scripts h.scripts in
    let seven = entries_plain (word Key.Futex) of_futex FutexIsPlain refl (λ x l. futex_plain x.name x.partition x.offset l.0 l.1 l.2) d.futexes h.futexes in
    let l1 = section_lines (word Key.Pool, a) in
    let l2 = section_lines (word Key.Partition, b) in
    let l3 = section_lines (word Key.Domain, c) in
    let l4 = section_lines (word Key.Object, e) in
    let l5 = section_lines (word Key.Boot, f) in
    let l6 = section_lines (word Key.Script, g) in
    let l7 = section_lines (word Key.Futex, k) in
    record {
      lines_are = both_lines (pair_lines (top_of d)) (l1 ++ (l2 ++ (l3 ++ (l4 ++ (l5 ++ (l6 ++ (l7 ++ []))))))) (top_plain d.mpu d.regions d.policy d.rodata h.regions h.rodata)
          (both_lines l1 (l2 ++ (l3 ++ (l4 ++ (l5 ++ (l6 ++ (l7 ++ [])))))) one (both_lines l2 (l3 ++ (l4 ++ (l5 ++ (l6 ++ (l7 ++ []))))) two (both_lines l3 (l4 ++ (l5 ++ (l6 ++ (l7 ++ [])))) three
          (both_lines l4 (l5 ++ (l6 ++ (l7 ++ []))) four (both_lines l5 (l6 ++ (l7 ++ [])) five (both_lines l6 (l7 ++ []) six (both_lines l7 [] seven tt)))))));
      apart = top_apart d.mpu d.regions d.policy d.rodata a b c e f g k;
      entries = (
        apart_by of_pool (λ p. refl) d.pools,
        (
          apart_by of_partition (λ p. partition_apart p.name p.attr p.variable p.size p.bytes) ps,
          (
            apart_by of_domain (λ m. domain_apart m.name m.partitions) d.domains,
            (
              apart_by of_object (λ o. object_apart o.name o.public o.details) d.objects,
              (apart_by of_boot (λ x. boot_apart x.thread x.stack x.script x.priority x.domain x.mode x.pool x.grants) d.boots, (apart_by of_script (λ s. refl) d.scripts, (apart_by of_futex (λ f. refl) d.futexes, tt))),
            ),
          ),
        ),
      );
    }
