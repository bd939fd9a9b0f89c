-- What fine steps leave of processors and sites.
use Rattle.std.specs.Prelude.{ℕ, List}
use Rattle.um_base.specs.declared.image.Image.{Image}
use Rattle.um_fine.specs.FineRun.{cpu_of, p_start, same_cpu, site_of}
use Rattle.um_fine.specs.Follows.{p_next}
use Rattle.um_fine.specs.Opening.{s_start}
use Rattle.um_fine.specs.Runs.{state_at}
use Rattle.um_fine.specs.Sites.{s_next, same_site}
use Rattle.um_fine.specs.Steps.{FineStep}
use Rattle.um_refinement.specs.Fine.{Fine}

abbrev pub left_by : Image → ℕ → List FineStep → Fine
left_by image cpus steps =
    record {
      image = image;
      cpus = cpus;
      processors = state_at same_cpu cpu_of (p_next image) p_start steps;
      sites = state_at same_site site_of (s_next image) (s_start image) steps;
    }
