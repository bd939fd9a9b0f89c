-- The names of an image are those of its description: lawful and distinct.
use Rattle.std.proofs.Common.{◌≡◌, ℕ, ◌+◌, List, [], ◌∷◌, ◌++◌, length, map, drop, IsTrue, refl, ap, sym, ◌∙◌, subst, arith}
use Rattle.std.specs.List.{list_all}
use Rattle.std.proofs.lemmas.List.Folds.{list_all-append}
use Rattle.um_base.specs.declared.image.DomainDef.{DomainDef}
use Rattle.um_base.specs.declared.image.Futex.{Futex}
use Rattle.um_base.specs.declared.image.ObjectDef.{ObjectDef}
use Rattle.um_base.specs.declared.image.Partition.{Partition}
use Rattle.um_base.specs.declared.image.Pool.{Pool}
use Rattle.um_base.specs.declared.image.Script.{Script}
use Rattle.um_base.specs.declared.names.Range.{Range}
use Rattle.um_base.specs.Lawful.{is_name, names_of, are_distinct_names}
use Rattle.um_document.specs.declared.description.Description.{Description}
use Rattle.um_document.specs.declared.description.ObjectEntry.{ObjectEntry}
use Rattle.um_document.specs.declared.description.PartitionEntry.{PartitionEntry}
use Rattle.um_document.specs.declared.shape.Section.{Section}
use Rattle.um_description.specs.Duplicates.{added, duplicates, pool_places, partition_places, domain_places, object_places, boot_places, script_places, futex_places, before_partitions, before_domains, before_objects, before_scripts, before_futexes, spot_text}
use Rattle.um_document.specs.LawfulNames.{AreLawfulNames}
use Rattle.um_description.specs.Limits.{threads_after}
use Rattle.um_description.specs.Names.{Text, pool_names, partition_names, domain_names, object_names, script_names, futex_names}
use Rattle.um_description.specs.Resolve.{pool_of, domain_of, placed_partitions, first_range, ranges_taken, objects_from, script_of, futex_of, without_scripts, image_in}
use Rattle.um_description.proofs.LawfulDistinct.{are_new, new_names, new_partitions, new_domains, new_futexes, new_without_variables, new_beside_fewer, included_within, added_included, IsIncluded, new_append, added_append, distinct_names}
use Rattle.um_description.proofs.LawfulLists.{no_front, no_back, both_true, map_map}
use Rattle.um_description.proofs.LawfulObjects.{of_entry}

-- all names of a description, in its order
abbrev pub all_names : Description → List Text
all_names d = pool_names d ++ partition_names d ++ domain_names d ++ object_names d ++ script_names d ++ futex_names d

-- ---- the names of the parts

pub partition_names_again : (ranges : List Range) (ps : List PartitionEntry) → length ranges ≡ length ps
    → map (λ (p : Partition). p.name) (placed_partitions ranges ps) ≡ map (λ (p : PartitionEntry). p.name) ps
partition_names_again [] [] h = refl
partition_names_again [] (p ∷ ps) h = absurd (omega (arith, h))
partition_names_again (range ∷ ranges) [] h = absurd (omega (arith, h))
partition_names_again (range ∷ ranges) (p ∷ ps) h = ap (λ (ns : List Text). p.name ∷ ns) (partition_names_again ranges ps (omega (arith, h)))

pub object_names_again : (ranges : List Range) (x t : ℕ) (os : List ObjectEntry) → map (λ (o : ObjectDef). o.name) (objects_from ranges x t os) ≡ map (λ (o : ObjectEntry). o.name) os
object_names_again ranges x t [] = refl
object_names_again ranges x t (o ∷ os) =
    let rest = object_names_again (drop (ranges_taken o) ranges) (x + 1) (threads_after t o) os in
    rw ((of_entry (first_range ranges) x t o).name, rest) refl

pub names_again_in : (d : Description) (ps ss : List Range) → length ps ≡ length d.partitions → names_of (image_in d ps ss) ≡ all_names d
names_again_in d ps ss h =
    let pools : map (λ (p : Pool). p.name) (map pool_of d.pools) ≡ pool_names d = map_map pool_of (λ (p : Pool). p.name) d.pools in
    let partitions : map (λ (p : Partition). p.name) (placed_partitions ps d.partitions) ≡ partition_names d = partition_names_again ps d.partitions h in
    let domains : map (λ (m : DomainDef). m.name) (map (domain_of (partition_names d)) d.domains) ≡ domain_names d = map_map (domain_of (partition_names d)) (λ (m : DomainDef). m.name) d.domains in
    let objects : map (λ (o : ObjectDef). o.name) (objects_from ss 0 0 d.objects) ≡ object_names d = object_names_again ss 0 0 d.objects in
    let scripts : map (λ (s : Script). s.name) (map (script_of (without_scripts d ps ss) d) d.scripts) ≡ script_names d = map_map (script_of (without_scripts d ps ss) d) (λ (s : Script). s.name) d.scripts in
    let futexes : map (λ (f : Futex). f.name) (map (futex_of (partition_names d)) d.futexes) ≡ futex_names d = map_map (futex_of (partition_names d)) (λ (f : Futex). f.name) d.futexes in
    rw (pools, partitions, domains, objects, scripts, futexes) refl

-- ---- lawful

both_lists : (xs ys : List Text) → IsTrue (list_all is_name xs) → IsTrue (list_all is_name ys) → IsTrue (list_all is_name (xs ++ ys))
both_lists xs ys h k = list_all-append is_name xs ys ∙ both_true (list_all is_name xs) (list_all is_name ys) h k

pub names_lawful : (d : Description) → AreLawfulNames d → IsTrue (list_all is_name (all_names d))
names_lawful d h =
    both_lists (pool_names d ++ partition_names d ++ domain_names d ++ object_names d ++ script_names d) (futex_names d)
    (both_lists (pool_names d ++ partition_names d ++ domain_names d ++ object_names d) (script_names d)
    (both_lists (pool_names d ++ partition_names d ++ domain_names d) (object_names d)
    (both_lists (pool_names d ++ partition_names d) (domain_names d)
    (both_lists (pool_names d) (partition_names d) h.pools h.partitions) h.domains) h.objects) h.scripts) h.futexes

-- ---- distinct

-- what the texts that stood before leave to each section
pub record HasNoDuplicates (d : Description) : Type 0 where
  pub names : IsTrue (are_new [] (all_names d))
  pub domains : domain_places d ≡ []
  pub boots : boot_places d ≡ []
  pub spots : IsTrue (are_new [] (map spot_text d.futexes))

pub no_duplicates : (d : Description) → duplicates d ≡ [] → HasNoDuplicates d
no_duplicates d h =
    let p = before_partitions d in
    let q = before_domains d in
    let r = before_objects d in
    let t = before_scripts d in
    let u = before_futexes d in
    let q0 = added p (partition_names d) in
    let r0 = added q0 (domain_names d) in
    let t0 = added r0 (object_names d) in
    let u0 = added t0 (script_names d) in
    let q_in : IsIncluded q0 q = included_within p p d.partitions (λ w k. k) in
    let r_in : IsIncluded r0 r = added_included q0 q (domain_names d) q_in in
    let t_in : IsIncluded t0 t = added_included r0 r (object_names d) r_in in
    let u_in : IsIncluded u0 u = added_included t0 t (script_names d) t_in in
    let f5 = no_front (pool_places d ++ partition_places d ++ domain_places d ++ object_places d ++ boot_places d ++ script_places d) (futex_places d) h in
    let f4 = no_front (pool_places d ++ partition_places d ++ domain_places d ++ object_places d ++ boot_places d) (script_places d) f5 in
    let f3 = no_front (pool_places d ++ partition_places d ++ domain_places d ++ object_places d) (boot_places d) f4 in
    let f2 = no_front (pool_places d ++ partition_places d ++ domain_places d) (object_places d) f3 in
    let f1 = no_front (pool_places d ++ partition_places d) (domain_places d) f2 in
    let n1 : IsTrue (are_new [] (pool_names d)) = new_names [] Section.Pool 0 (pool_names d) (no_front (pool_places d) (partition_places d) f1) in
    let n2 : IsTrue (are_new [] (pool_names d ++ partition_names d)) =
    new_append [] (pool_names d) (partition_names d) n1 (new_without_variables p d.partitions (new_partitions p 0 d.partitions (no_back (pool_places d) (partition_places d) f1))) in
    let e2 : added [] (pool_names d ++ partition_names d) ≡ q0 = added_append [] (pool_names d) (partition_names d) in
    let n3 : IsTrue (are_new [] (pool_names d ++ partition_names d ++ domain_names d)) =
    new_append [] (pool_names d ++ partition_names d) (domain_names d) n2
    (subst (λ (b : List Text). IsTrue (are_new b (domain_names d))) (sym e2) (new_beside_fewer q0 q (domain_names d) q_in (new_domains q 0 d.domains (no_back (pool_places d ++ partition_places d) (domain_places d) f2)))) in
    let e3 : added [] (pool_names d ++ partition_names d ++ domain_names d) ≡ r0 =
    added_append [] (pool_names d ++ partition_names d) (domain_names d) ∙ ap (λ (b : List Text). added b (domain_names d)) e2 in
    let n4 : IsTrue (are_new [] (pool_names d ++ partition_names d ++ domain_names d ++ object_names d)) =
    new_append [] (pool_names d ++ partition_names d ++ domain_names d) (object_names d) n3
    (subst (λ (b : List Text). IsTrue (are_new b (object_names d))) (sym e3) (new_beside_fewer r0 r (object_names d) r_in (new_names r Section.Object 0 (object_names d) (no_back (pool_places d ++ partition_places d ++ domain_places d) (object_places d) f3)))) in
    let e4 : added [] (pool_names d ++ partition_names d ++ domain_names d ++ object_names d) ≡ t0 =
    added_append [] (pool_names d ++ partition_names d ++ domain_names d) (object_names d) ∙ ap (λ (b : List Text). added b (object_names d)) e3 in
    let n5 : IsTrue (are_new [] (pool_names d ++ partition_names d ++ domain_names d ++ object_names d ++ script_names d)) =
    new_append [] (pool_names d ++ partition_names d ++ domain_names d ++ object_names d) (script_names d) n4
    (subst (λ (b : List Text). IsTrue (are_new b (script_names d))) (sym e4) (new_beside_fewer t0 t (script_names d) t_in (new_names t Section.Script 0 (script_names d) (no_back (pool_places d ++ partition_places d ++ domain_places d ++ object_places d ++ boot_places d) (script_places d) f5)))) in
    let e5 : added [] (pool_names d ++ partition_names d ++ domain_names d ++ object_names d ++ script_names d) ≡ u0 =
    added_append [] (pool_names d ++ partition_names d ++ domain_names d ++ object_names d) (script_names d) ∙ ap (λ (b : List Text). added b (script_names d)) e4 in
    let futexes = new_futexes u [] 0 d.futexes (no_back (pool_places d ++ partition_places d ++ domain_places d ++ object_places d ++ boot_places d ++ script_places d) (futex_places d) h) in
    record {
      names = new_append [] (pool_names d ++ partition_names d ++ domain_names d ++ object_names d ++ script_names d) (futex_names d) n5
          (subst (λ (b : List Text). IsTrue (are_new b (futex_names d))) (sym e5) (new_beside_fewer u0 u (futex_names d) u_in futexes.0));
      domains = no_back (pool_places d ++ partition_places d) (domain_places d) f2;
      boots = no_back (pool_places d ++ partition_places d ++ domain_places d ++ object_places d) (boot_places d) f4;
      spots = futexes.1;
    }

pub names_distinct : (d : Description) → HasNoDuplicates d → IsTrue (are_distinct_names (all_names d))
names_distinct d h = distinct_names [] (all_names d) h.names
