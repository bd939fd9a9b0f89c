-- What a processor asks of a domain's cell: the steps as they are made at a cell with these partitions and this step number.
use Rattle.std.specs.Prelude.{ℕ, Option, None}
use Rattle.um_base.specs.declared.image.Image.{Image}
use Rattle.um_base.specs.Regions.{Partitions}
use Rattle.um_machine.specs.declared.pending.Pending.{Pending}
use Rattle.um_machine.specs.Domains.{domain_after}
use Rattle.um_words.specs.declared.fine.FineAct.{FineAct}
use Rattle.um_words.specs.declared.fine.Unseen.{Unseen}
use Rattle.um_fine.specs.Cells.{Cell}
use Rattle.um_fine.specs.Processor.{edit_of}
use Rattle.um_fine.specs.Steps.{Exchange, FineStep, Site}
use Rattle.um_tables.specs.Asked.{cell_made}

-- the partitions are read into a region table
abbrev pub loaded_made : Image → ℕ → ℕ → ℕ → Option Partitions → FineStep
loaded_made image cpu d n parts = cell_made image cpu (Site.parts d) n (Cell.parts parts) (FineAct.Unseen Unseen.RegionLoad) Exchange.nothing

-- the partitions become what a call makes of them
abbrev pub edited_made : Image → ℕ → ℕ → ℕ → Option Partitions → Pending → FineStep
edited_made image cpu d n parts call =
    cell_made image cpu (Site.parts d) n (Cell.parts parts) (FineAct.Unseen Unseen.Edit) (Exchange.edited None (domain_after parts (edit_of image call parts)))
