-- A description whose counts and numbers are in their ranges.
use Rattle.std.specs.Prelude.{ℕ, ◌≤◌, IsTrue, All, length}
use Rattle.um_base.specs.Lawful.{is_within}
use Rattle.um_base.specs.declared.limits.TheConstants.{POOLS, PARTITIONS, DOMAINS, STATIC_ROWS, BOOTS, SCRIPTS, FUTEXES, LINES, AREA_ENTRY}
use Rattle.um_document.specs.declared.description.Description.{Description}
use Rattle.um_document.specs.declared.description.DomainEntry.{DomainEntry}
use Rattle.um_document.specs.declared.description.ObjectEntry.{ObjectEntry}
use Rattle.um_document.specs.declared.description.PartitionEntry.{PartitionEntry}
use Rattle.um_document.specs.declared.description.ScriptEntry.{ScriptEntry}
use Rattle.um_description.specs.Names.{items}
use Rattle.um_description.specs.Packing.{asked_size, first_bytes}
use Rattle.um_description.specs.Resolve.{asked_stack}

-- a size that an area has room for
abbrev pub IsSize : ℕ → Type 0
IsSize n = IsTrue (is_within 1 65536 n)

pub record IsInLimits (d : Description) : Type 0 where
  pub rodata : length d.rodata ≤ AREA_ENTRY
  pub pools : length d.pools ≤ POOLS
  pub partitions : length d.partitions ≤ PARTITIONS
  pub sizes : All (λ (p : PartitionEntry). IsSize (asked_size p)) d.partitions
  pub bytes : All (λ (p : PartitionEntry). length (first_bytes p) ≤ AREA_ENTRY) d.partitions
  pub domains : length d.domains ≤ DOMAINS
  pub parts : All (λ (m : DomainEntry). length (items m.partitions) ≤ PARTITIONS) d.domains
  pub objects : length d.objects ≤ STATIC_ROWS
  pub stacks : All (λ (o : ObjectEntry). All IsSize (asked_stack o)) d.objects
  pub boots : length d.boots ≤ BOOTS
  pub scripts : length d.scripts ≤ SCRIPTS
  pub lines : All (λ (s : ScriptEntry). length s.lines ≤ LINES) d.scripts
  pub futexes : length d.futexes ≤ FUTEXES
