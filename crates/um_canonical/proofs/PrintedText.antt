-- The printed text is that of its entries, one behind the other.
use Rattle.std.proofs.Common.{◌≡◌, ℕ, List, [], ◌∷◌, ◌++◌, map, length, refl, sym, ap, ◌∙◌}
use Rattle.std.proofs.lemmas.Grind.{flat_map-append}
use Rattle.std.proofs.lemmas.List.{append-nil}
use Rattle.std.proofs.lemmas.List.Folds.{flat_map-map}
use Rattle.std.specs.List.{flat_map}
use Rattle.um_base.specs.declared.image.Image.{Image}
use Rattle.um_document.specs.declared.shape.Key.{Key}
use Rattle.um_document.specs.Shape.{word}
use Rattle.um_canonical.specs.Printed.{Pairs, Section, line_text, lines_text, pair_lines, entry_lines, section_lines}
use Rattle.um_canonical.specs.declared.names.NameTable.{NameTable}
use Rattle.um_canonical.specs.Entries.{pool_entry, domain_entry, object_entry, boot_entry, futex_entry}
use Rattle.um_canonical.specs.Fresh.{free_numbers}
use Rattle.um_canonical.specs.Pieces.{pair_text, pairs_text, header_text, entry_text, top_text, pool_text, partition_text, partitions_text, domain_text, object_text, boot_text, script_text, futex_text}
use Rattle.um_canonical.specs.Tables.{names_of, AreNamesOf, text_by}
use Rattle.um_canonical.specs.Text.{Text, names_by, pools_in, partitions_in, domains_in, objects_in, scripts_in, futexes_in, packed_in, described, script_entry, of_pool, of_partition, of_domain, of_object, of_boot, of_script, of_futex, top_of, sections_of, printed_text}

pairs_are : (ps : Pairs) → lines_text (pair_lines ps) ≡ pairs_text ps
pairs_are [] = refl
pairs_are (p ∷ ps) = ap (λ (t : List ℕ). pair_text p ++ t) (pairs_are ps)

entries_are : (section : Key) (es : List Pairs) → lines_text (section_lines (word section, es)) ≡ flat_map (entry_text section) es
entries_are section [] = refl
entries_are section (e ∷ es) =
    flat_map-append line_text (entry_lines (word section) e) (section_lines (word section, es))
    ∙ ap (λ (t : List ℕ). (header_text section ++ t) ++ lines_text (section_lines (word section, es))) (pairs_are e)
    ∙ ap (λ (t : List ℕ). entry_text section e ++ t) (entries_are section es)

-- a section whose entries come from things
section_is : {A : Type 0} (section : Key) (pairs : A → Pairs) (xs : List A) → lines_text (section_lines (word section, map pairs xs)) ≡ flat_map (λ x. entry_text section (pairs x)) xs
section_is section pairs xs = entries_are section (map pairs xs) ∙ flat_map-map (entry_text section) pairs xs

section_by : {A B : Type 0} (section : Key) (pairs : B → Pairs) (entry : A → B) (xs : List A)
    → lines_text (section_lines (word section, map pairs (map entry xs))) ≡ flat_map (λ x. entry_text section (pairs (entry x))) xs
section_by section pairs entry xs = section_is section pairs (map entry xs) ∙ flat_map-map (λ b. entry_text section (pairs b)) entry xs

-- the text of an image, section by section
abbrev pub sections_text : Image → List ℕ
sections_text image =
    flat_map pool_text image.pools
    ++ (flat_map partition_text (packed_in image)
    ++ (flat_map (domain_text (partitions_in image)) image.domains
    ++ (flat_map object_text image.objects
    ++ (flat_map (boot_text (objects_in image) (scripts_in image) (domains_in image) (pools_in image)) image.boots
    ++ (flat_map (script_text (partitions_in image) (domains_in image) (scripts_in image)) image.scripts
    ++ flat_map (futex_text (partitions_in image)) image.futexes)))))

-- one section more
split : (s : Section) (ss : List Section) (t u : List ℕ) → lines_text (section_lines s) ≡ t → lines_text (flat_map section_lines ss) ≡ u → lines_text (flat_map section_lines (s ∷ ss)) ≡ t ++ u
split s ss t u h k =
    flat_map-append line_text (section_lines s) (flat_map section_lines ss)
    ∙ ap (λ (x : List ℕ). x ++ lines_text (flat_map section_lines ss)) h
    ∙ ap (λ (x : List ℕ). t ++ x) k

alone : (s : Section) (t : List ℕ) → lines_text (section_lines s) ≡ t → lines_text (flat_map section_lines (s ∷ [])) ≡ t
alone s t h = ap lines_text (append-nil (section_lines s)) ∙ h

sections_are : (image : Image) → lines_text (flat_map section_lines (sections_of (described image) (packed_in image))) ≡ sections_text image
unfolding pool_text partition_text domain_text object_text boot_text script_text futex_text
sections_are image =
    let ps = partitions_in image in
    let ms = domains_in image in
    let ss = scripts_in image in
    let g : Section = (word Key.Futex, map of_futex (map (futex_entry ps) image.futexes)) in
    let f : Section = (word Key.Script, map of_script (map (script_entry ps ms ss) image.scripts)) in
    let e : Section = (word Key.Boot, map of_boot (map (boot_entry (objects_in image) ss ms (pools_in image)) image.boots)) in
    let d : Section = (word Key.Object, map of_object (map object_entry image.objects)) in
    let c : Section = (word Key.Domain, map of_domain (map (domain_entry ps) image.domains)) in
    let b : Section = (word Key.Partition, map of_partition (packed_in image)) in
    let a : Section = (word Key.Pool, map of_pool (map pool_entry image.pools)) in
    split a (b ∷ c ∷ d ∷ e ∷ f ∷ g ∷ []) _ _ (section_by Key.Pool of_pool pool_entry image.pools)
    (split b (c ∷ d ∷ e ∷ f ∷ g ∷ []) _ _ (section_is Key.Partition of_partition (packed_in image))
    (split c (d ∷ e ∷ f ∷ g ∷ []) _ _ (section_by Key.Domain of_domain (domain_entry ps) image.domains)
    (split d (e ∷ f ∷ g ∷ []) _ _ (section_by Key.Object of_object object_entry image.objects)
    (split e (f ∷ g ∷ []) _ _ (section_by Key.Boot of_boot (boot_entry (objects_in image) ss ms (pools_in image)) image.boots)
    (split f (g ∷ []) _ _ (section_by Key.Script of_script (script_entry ps ms ss) image.scripts)
    (alone g _ (section_by Key.Futex of_futex (futex_entry ps) image.futexes)))))))

pub printed_is : (image : Image) → printed_text image ≡ top_text image ++ sections_text image
unfolding top_text
printed_is image =
    let top = top_of (described image) in
    let sections = sections_of (described image) (packed_in image) in
    flat_map-append line_text (pair_lines top) (flat_map section_lines sections)
    ∙ ap (λ (x : List ℕ). x ++ lines_text (flat_map section_lines sections)) (pairs_are top)
    ∙ ap (λ (x : List ℕ). top_text image ++ x) (sections_are image)

-- the text with these names
abbrev with_names : (pools partitions domains objects scripts : List Text) → List ℕ → Image → Text
with_names pools partitions domains objects scripts numbers image =
    top_text image
    ++ (flat_map pool_text image.pools
    ++ (partitions_text numbers image.partitions
    ++ (flat_map (domain_text partitions) image.domains
    ++ (flat_map object_text image.objects
    ++ (flat_map (boot_text objects scripts domains pools) image.boots
    ++ (flat_map (script_text partitions domains scripts) image.scripts
    ++ flat_map (futex_text partitions) image.futexes))))))

with_own : (pools partitions domains objects scripts futexes : List Text) (numbers : List ℕ) (image : Image) → pools ≡ pools_in image → partitions ≡ partitions_in image → domains ≡ domains_in image → objects ≡ objects_in image
    → scripts ≡ scripts_in image → futexes ≡ futexes_in image → numbers ≡ free_numbers (names_by pools partitions domains objects scripts futexes) (length image.partitions)
    → with_names pools partitions domains objects scripts numbers image ≡ printed_text image
with_own pools partitions domains objects scripts futexes numbers image a b c e f g h = rw (h, a, b, c, e, f, g) (sym (printed_is image))

-- with the image's names and the free numbers
pub text_is : (t : NameTable) (numbers : List ℕ) (image : Image) → AreNamesOf t image → numbers ≡ free_numbers (names_of t) (length image.partitions) → text_by t numbers image ≡ printed_text image
text_is t numbers image are is =
    with_own t.pools.items t.partitions.items t.domains.items t.objects.items t.scripts.items t.futexes.items numbers image are.pools are.partitions are.domains are.objects are.scripts are.futexes is
