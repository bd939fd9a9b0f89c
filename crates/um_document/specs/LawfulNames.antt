-- What the form of a document gives its description: lawful names, and attributes that may be given.
use Rattle.std.specs.Prelude.{Bool, map, IsTrue}
use Rattle.std.specs.List.{list_all}
use Rattle.um_base.specs.Lawful.{is_name, is_given_attr}
use Rattle.um_document.specs.declared.description.Description.{Description}
use Rattle.um_document.specs.declared.description.DomainEntry.{DomainEntry}
use Rattle.um_document.specs.declared.description.FutexEntry.{FutexEntry}
use Rattle.um_document.specs.declared.description.ObjectEntry.{ObjectEntry}
use Rattle.um_document.specs.declared.description.PartitionEntry.{PartitionEntry}
use Rattle.um_document.specs.declared.description.PoolEntry.{PoolEntry}
use Rattle.um_document.specs.declared.description.ScriptEntry.{ScriptEntry}

abbrev pub has_given_attr : PartitionEntry → Bool
has_given_attr p = is_given_attr p.attr

pub record AreLawfulNames (d : Description) : Type 0 where
  pub pools : IsTrue (list_all is_name (map (λ (p : PoolEntry). p.name) d.pools))
  pub partitions : IsTrue (list_all is_name (map (λ (p : PartitionEntry). p.name) d.partitions))
  pub domains : IsTrue (list_all is_name (map (λ (m : DomainEntry). m.name) d.domains))
  pub objects : IsTrue (list_all is_name (map (λ (o : ObjectEntry). o.name) d.objects))
  pub scripts : IsTrue (list_all is_name (map (λ (s : ScriptEntry). s.name) d.scripts))
  pub futexes : IsTrue (list_all is_name (map (λ (f : FutexEntry). f.name) d.futexes))
  pub attributes : IsTrue (list_all has_given_attr d.partitions)
