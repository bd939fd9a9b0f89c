-- Names beside a list of those that are known, and what a boot entry names besides its grants.
use Rattle.std.specs.Prelude.{ℕ, List, [], ◌++◌, is_some, Some, None}
use Rattle.um_document.specs.declared.description.BootEntry.{BootEntry}
use Rattle.um_document.specs.declared.description.Description.{Description}
use Rattle.um_document.specs.declared.place.Place.{Place}
use Rattle.um_document.specs.declared.shape.Key.{Key}
use Rattle.um_document.specs.declared.shape.Section.{Section}
use Rattle.um_description.specs.Names.{Text, is_among, named, pool_names}
use Rattle.um_description.specs.Unknown.{unless, unknown_required}

-- the j-th text of the list at a key of the i-th entry
unfoldable pub unknown_item : List Text → Section → ℕ → Key → ℕ → Text → List Place
unknown_item known section i key j text = unless (is_among text known) (Place.Item section i key j)

-- the pool of the i-th boot entry, where it has one
unfoldable pub unknown_pool : Description → ℕ → BootEntry → List Place
unknown_pool d i b = elim b.pool as (λ _. List Place) [ None ↦ [] | Some text ↦ unless (is_some (named (pool_names d) text)) (Place.Field Section.Boot i Key.Pool) ]

-- the keys of the i-th boot entry
unfoldable pub unknown_keys : Description → ℕ → BootEntry → List Place
unknown_keys d i b = unknown_required d i b ++ unknown_pool d i b
