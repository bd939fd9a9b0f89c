-- Domains and the region tables of processors.
use Rattle.std.specs.Prelude.{◌≡◌, ℕ, ◌<◌, ◌≤◌, Bool, true, false, ◌==◌, ◌&&◌, ◌||◌, Some, None, is_some}
use Rattle.um_machine.specs.declared.pending.Pending.{Pending}
use Rattle.um_machine.specs.Domains.{reply_to, domain_after}
use Rattle.um_machine.specs.Memory.{partitions_of}
use Rattle.um_machine.specs.State.{State}
use Rattle.um_machine.specs.Table.{domain_at}
use Rattle.um_fine.specs.declared.table.Table.{Table}
use Rattle.um_fine.specs.Processor.{Processor, edit_of, key_of}
use Rattle.um_refinement.specs.Fine.{Fine, domain, one_if, over_processors, parts}
use Rattle.um_refinement.specs.Lists.{edited, edits, has_claimed, has_loaded, moves_to}

-- a processor has a claim to read a domain: its thread's own, or one that a thread moves to
abbrev pub reads : ℕ → Processor → Bool
reads d p = (has_claimed p && (p.domain == d)) || moves_to d p.reply p.todo

-- The word says whether the domain is initialised, and counts the claims. The cell has the partitions; between an edit of the cell and its
-- event, it has what the edit makes of them.
pub record DomainIs (f : Fine) (m : State) (d : ℕ) : Type 0 where
  pub init : (domain f d).init ≡ is_some (domain_at m d)
  pub settled : ((k : ℕ) → k < f.cpus → edited d (f.processors k).todo ≡ None) → parts f d ≡ domain_at m d
  pub changed : (k : ℕ) (q : Pending) → k < f.cpus → edited d (f.processors k).todo ≡ Some q
      → let made = edit_of f.image q (domain_at m d) in (parts f d ≡ domain_after (domain_at m d) made) × ((f.processors k).reply ≡ reply_to made)
  pub writers : one_if (domain f d).writer ≡ over_processors f (λ p. one_if (edits d p.todo))
  pub readers : (domain f d).readers ≡ over_processors f (λ p. one_if (reads d p))
  pub apart : (domain f d).writer ≡ true → (domain f d).readers ≡ 0

-- No table has a later version than the domain. A table of the domain's version has its partitions. A processor with a claim knows the
-- domain's version, and once it has loaded, it has a table for its thread, stack, mode, domain and version.
pub record TableIs (f : Fine) (m : State) (k : ℕ) : Type 0 where
  pub older : (table : Table) → (f.processors k).table ≡ Some table → table.key.version ≤ (domain f table.key.domain).version
  pub right : (table : Table) → (f.processors k).table ≡ Some table → table.key.version ≡ (domain f table.key.domain).version
      → (domain f table.key.domain).writer ≡ false → table.parts ≡ partitions_of m table.key.domain
  pub present : has_claimed (f.processors k) ≡ true → (f.processors k).version ≡ (domain f (f.processors k).domain).version
  pub loaded : has_loaded (f.processors k) ≡ true → (table : Table) × ((f.processors k).table ≡ Some table) × (table.key ≡ key_of (f.processors k))
