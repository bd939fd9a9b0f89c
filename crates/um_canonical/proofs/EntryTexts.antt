-- The text of an entry is that of its pieces, one behind the other.
use Rattle.std.proofs.Common.{◌≡◌, ℕ, List, [], ◌++◌, codes, decimal, pos, false, option_map, refl, sym, ap, ◌∙◌, append_assoc}
use Rattle.std.proofs.lemmas.Grind.{flat_map-append}
use Rattle.std.proofs.lemmas.List.{append-nil}
use Rattle.std.specs.List.{flat_map}
use Rattle.um_base.specs.declared.image.Boot.{Boot}
use Rattle.um_base.specs.declared.image.DomainDef.{DomainDef}
use Rattle.um_base.specs.declared.image.Futex.{Futex}
use Rattle.um_base.specs.declared.image.Image.{Image}
use Rattle.um_base.specs.declared.image.ObjectDef.{ObjectDef}
use Rattle.um_base.specs.declared.image.Partition.{Partition}
use Rattle.um_base.specs.declared.image.Script.{Script}
use Rattle.um_document.specs.declared.shape.Key.{Key}
use Rattle.um_document.specs.Shape.{word}
use Rattle.um_vocabulary.specs.Words.{attr_word, kind_word, mode_word}
use Rattle.um_canonical.specs.Printed.{Pairs, members_text}
use Rattle.um_canonical.specs.declared.names.NameTable.{NameTable}
use Rattle.um_canonical.specs.Entries.{Names, packed, names_at, row_names, details_by}
use Rattle.um_canonical.specs.Named.{name_at}
use Rattle.um_canonical.specs.Objects.{number_pair, text_pair, truth_pairs, details_pairs, kind_of_details}
use Rattle.um_canonical.specs.Pieces.{pair_text, pairs_text, header_text, top_text, pool_text, variable_text, partition_text, partitions_text, domain_text, object_text, boot_text, script_text, futex_text}
use Rattle.um_canonical.specs.Sections.{data_atoms, given_pairs, pool_pairs, grant_pairs, texts_pair}
use Rattle.um_canonical.specs.Tables.{shown_line, shown_lines, boot_by, script_by, text_by}

-- one piece more
pub behind : (t u v a b : List ℕ) → u ≡ t ++ a → v ≡ u ++ b → v ≡ t ++ (a ++ b)
behind t u v a b h k = k ∙ ap (λ (x : List ℕ). x ++ b) h ∙ append_assoc t a b

-- the last two lists of keys are one
both : (t v : List ℕ) (ps qs : Pairs) → v ≡ t ++ (pairs_text ps ++ pairs_text qs) → v ≡ t ++ pairs_text (ps ++ qs)
both t v ps qs h = h ∙ ap (λ (x : List ℕ). t ++ x) (sym (flat_map-append pair_text ps qs))

-- a last piece
last : (t v a : List ℕ) → v ≡ t ++ a → v ≡ t ++ (a ++ [])
last t v a h = h ∙ ap (λ (x : List ℕ). t ++ x) (sym (append-nil a))

pub domain_is : (t0 t1 t2 t3 : List ℕ) (partitions : Names) (m : DomainDef)
    → t1 ≡ t0 ++ header_text Key.Domain
    → t2 ≡ t1 ++ pair_text (text_pair Key.Name m.name)
    → t3 ≡ t2 ++ pairs_text (given_pairs (option_map (names_at partitions) m.parts))
    → t3 ≡ t0 ++ domain_text partitions m
unfolding domain_text
domain_is t0 t1 t2 t3 partitions m head name parts = behind t0 t1 t3 _ _ head (behind t1 t2 t3 _ _ name parts)

-- the list of one variable
variable_parts : (variable : List ℕ) (size : ℕ) (bytes : List ℕ)
    → (word Key.Vars ++ codes " = ") ++ (codes "[{name = \"" ++ (variable ++ (codes "\", size = " ++ (decimal size ++ (codes ", align = " ++ (decimal 32 ++ (members_text false (data_atoms bytes) ++ codes "]\n")))))))
    ≡ variable_text variable size bytes
unfolding variable_text
variable_parts variable size bytes = simp append_assoc refl

pub variable_is : (t0 t1 t2 t3 t4 t5 t6 t7 t8 t9 : List ℕ) (variable : List ℕ) (size : ℕ) (bytes : List ℕ)
    → t1 ≡ t0 ++ (word Key.Vars ++ codes " = ")
    → t2 ≡ t1 ++ codes "[{name = \""
    → t3 ≡ t2 ++ variable
    → t4 ≡ t3 ++ codes "\", size = "
    → t5 ≡ t4 ++ decimal size
    → t6 ≡ t5 ++ codes ", align = "
    → t7 ≡ t6 ++ decimal 32
    → t8 ≡ t7 ++ members_text false (data_atoms bytes)
    → t9 ≡ t8 ++ codes "]\n"
    → t9 ≡ t0 ++ variable_text variable size bytes
variable_is t0 t1 t2 t3 t4 t5 t6 t7 t8 t9 variable size bytes key front name comma number align most given back =
    let second = behind t5 t6 t9 _ _ align (behind t6 t7 t9 _ _ most (behind t7 t8 t9 _ _ given back)) in
    let whole = behind t0 t1 t9 _ _ key (behind t1 t2 t9 _ _ front (behind t2 t3 t9 _ _ name (behind t3 t4 t9 _ _ comma (behind t4 t5 t9 _ _ number second)))) in
    whole ∙ ap (λ (x : List ℕ). t0 ++ x) (variable_parts variable size bytes)

pub partition_is : (t0 t1 t2 t3 t4 : List ℕ) (variable : List ℕ) (p : Partition)
    → t1 ≡ t0 ++ header_text Key.Partition
    → t2 ≡ t1 ++ pair_text (text_pair Key.Name p.name)
    → t3 ≡ t2 ++ pair_text (text_pair Key.Attr (attr_word p.attr))
    → t4 ≡ t3 ++ variable_text variable p.range.size p.bytes
    → t4 ≡ t0 ++ partition_text (packed variable p)
unfolding partition_text variable_text
partition_is t0 t1 t2 t3 t4 variable p head name attr vars =
    behind t0 t1 t4 _ _ head (behind t1 t2 t4 _ _ name (behind t2 t3 t4 _ _ attr (last t3 t4 _ vars)))

pub object_is : (t0 t1 t2 t3 t4 t5 : List ℕ) (o : ObjectDef)
    → kind_of_details (details_by o.kind o.setup) ≡ o.kind
    → t1 ≡ t0 ++ header_text Key.Object
    → t2 ≡ t1 ++ pair_text (text_pair Key.Name o.name)
    → t3 ≡ t2 ++ pair_text (text_pair Key.Kind (kind_word o.kind))
    → t4 ≡ t3 ++ pairs_text (truth_pairs Key.Public o.public)
    → t5 ≡ t4 ++ pairs_text (details_pairs (details_by o.kind o.setup))
    → t5 ≡ t0 ++ object_text o
unfolding object_text
object_is t0 t1 t2 t3 t4 t5 o same head name kind truth details =
    let worded = kind ∙ ap (λ k. t2 ++ pair_text (text_pair Key.Kind (kind_word k))) (sym same) in
    let front = both t3 t5 (truth_pairs Key.Public o.public) (details_pairs (details_by o.kind o.setup)) (behind t3 t4 t5 _ _ truth details) in
    behind t0 t1 t5 _ _ head (behind t1 t2 t5 _ _ name (behind t2 t3 t5 _ _ worded front))

pub boot_is : (t0 t1 t2 t3 t4 t5 t6 t7 t8 t9 : List ℕ) (objects scripts domains pools : Names) (b : Boot)
    → t1 ≡ t0 ++ header_text Key.Boot
    → t2 ≡ t1 ++ pair_text (text_pair Key.Thread (name_at objects b.thread.0))
    → t3 ≡ t2 ++ pair_text (text_pair Key.Stack (name_at objects b.stack.0))
    → t4 ≡ t3 ++ pair_text (text_pair Key.Script (name_at scripts b.script))
    → t5 ≡ t4 ++ pair_text (number_pair Key.Priority b.priority)
    → t6 ≡ t5 ++ pair_text (text_pair Key.Domain (name_at domains b.domain))
    → t7 ≡ t6 ++ pair_text (text_pair Key.Mode (mode_word b.mode))
    → t8 ≡ t7 ++ pairs_text (pool_pairs (option_map (name_at pools) b.pool))
    → t9 ≡ t8 ++ pairs_text (grant_pairs (row_names objects b.grants))
    → t9 ≡ t0 ++ boot_text objects scripts domains pools b
unfolding boot_text
boot_is t0 t1 t2 t3 t4 t5 t6 t7 t8 t9 objects scripts domains pools b head thread stack script priority domain mode pool grants =
    let lists = both t7 t9 (pool_pairs (option_map (name_at pools) b.pool)) (grant_pairs (row_names objects b.grants)) (behind t7 t8 t9 _ _ pool grants) in
    let back = behind t4 t5 t9 _ _ priority (behind t5 t6 t9 _ _ domain (behind t6 t7 t9 _ _ mode lists)) in
    behind t0 t1 t9 _ _ head (behind t1 t2 t9 _ _ thread (behind t2 t3 t9 _ _ stack (behind t3 t4 t9 _ _ script back)))

pub script_is : (t0 t1 t2 t3 : List ℕ) (t : NameTable) (s : Script)
    → t1 ≡ t0 ++ header_text Key.Script
    → t2 ≡ t1 ++ pair_text (text_pair Key.Name s.name)
    → t3 ≡ t2 ++ pair_text (texts_pair Key.Lines (shown_lines t s.lines))
    → t3 ≡ t0 ++ script_by t s
unfolding script_text shown_line
script_is t0 t1 t2 t3 t s head name lines = behind t0 t1 t3 _ _ head (behind t1 t2 t3 _ _ name (last t2 t3 _ lines))

pub futex_is : (t0 t1 t2 t3 t4 : List ℕ) (partitions : Names) (f : Futex)
    → t1 ≡ t0 ++ header_text Key.Futex
    → t2 ≡ t1 ++ pair_text (text_pair Key.Name f.name)
    → t3 ≡ t2 ++ pair_text (text_pair Key.Partition (name_at partitions f.partition))
    → t4 ≡ t3 ++ pair_text (number_pair Key.Offset (pos f.offset))
    → t4 ≡ t0 ++ futex_text partitions f
unfolding futex_text
futex_is t0 t1 t2 t3 t4 partitions f head name partition offset =
    behind t0 t1 t4 _ _ head (behind t1 t2 t4 _ _ name (behind t2 t3 t4 _ _ partition (last t3 t4 _ offset)))

pub text_is : (t0 t1 t2 t3 t4 t5 t6 t7 t8 : List ℕ) (t : NameTable) (numbers : List ℕ) (image : Image)
    → t1 ≡ t0 ++ top_text image
    → t2 ≡ t1 ++ flat_map pool_text image.pools
    → t3 ≡ t2 ++ partitions_text numbers image.partitions
    → t4 ≡ t3 ++ flat_map (domain_text t.partitions.items) image.domains
    → t5 ≡ t4 ++ flat_map object_text image.objects
    → t6 ≡ t5 ++ flat_map (boot_by t) image.boots
    → t7 ≡ t6 ++ flat_map (script_by t) image.scripts
    → t8 ≡ t7 ++ flat_map (futex_text t.partitions.items) image.futexes
    → t8 ≡ t0 ++ text_by t numbers image
text_is t0 t1 t2 t3 t4 t5 t6 t7 t8 t numbers image top pools partitions domains objects boots scripts futexes =
    behind t0 t1 t8 _ _ top (behind t1 t2 t8 _ _ pools (behind t2 t3 t8 _ _ partitions
    (behind t3 t4 t8 _ _ domains (behind t4 t5 t8 _ _ objects (behind t5 t6 t8 _ _ boots (behind t6 t7 t8 _ _ scripts futexes))))))
