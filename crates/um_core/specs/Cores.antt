-- A core: all sites and the processors. Both are as a fine run has left them, and the log has the events that this run has shown.
use Rattle.std.specs.Prelude.{◌≡◌, ℕ, ◌<◌, ◌≤◌, List, [], length, replicate, slice_index_or, IsTrue}
use Rattle.um_base.specs.declared.image.Image.{Image}
use Rattle.um_machine.specs.Memory.{rodata_of}
use Rattle.um_fine.specs.Erasure.{shown}
use Rattle.um_fine.specs.FineRun.{IsFineRun}
use Rattle.um_fine.specs.Opening.{s_start}
use Rattle.um_fine.specs.Processor.{Processor, idle}
use Rattle.um_fine.specs.Sites.{is_site}
use Rattle.um_fine.specs.Steps.{FineStep, Site}
use Rattle.um_tables.specs.Sited.{IsSized, Sited, state_at}
use Rattle.um_core.specs.PickedRun.{processor_after, site_after}

pub record Core : Type 0 where
  pub sites : Sited
  pub processors : List Processor

-- A core at the opening of an image, with this many processors that have no thread, an empty log, and room in it for this many events.
pub record IsOpened (image : Image) (cpus most : ℕ) (core : Core) : Type 0 where
  pub sites : (i : Site) → IsTrue (is_site i) → state_at core.sites i ≡ s_start image i
  pub sized : IsSized core.sites
  pub rodata : core.sites.rodata ≡ rodata_of image
  pub log : core.sites.log ≡ []
  pub room : most ≤ core.sites.most
  pub processors : core.processors ≡ replicate cpus idle

pub record Stands (image : Image) (cpus : ℕ) (done : List FineStep) (core : Core) : Type 0 where
  pub run : IsFineRun image cpus done
  pub at : (i : Site) → IsTrue (is_site i) → state_at core.sites i ≡ site_after image done i
  pub processors : (k : ℕ) → k < cpus → slice_index_or core.processors k idle ≡ processor_after image done k
  pub count : length core.processors ≡ cpus
  pub sized : IsSized core.sites
  pub log : core.sites.log ≡ shown done
