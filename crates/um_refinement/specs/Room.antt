-- When no processor can step, for which images and processors that ends a run, and what words can count.
use Rattle.std.specs.Prelude.{◌≡◌, ℕ, ◌<◌, ◌≤◌, Bool, true, nat_lt, length}
use Rattle.um_base.specs.declared.image.Image.{Image}
use Rattle.um_base.specs.declared.limits.TheConstants.{DOMAINS}
use Rattle.um_fine.specs.FineRun.{ByOneOf}
use Rattle.um_fine.specs.Sites.{SiteMay, SiteState}
use Rattle.um_fine.specs.Steps.{FineStep, Site}
use Rattle.um_refinement.specs.Fine.{Fine, domain, scheduler}

-- No processor has a lawful step.
abbrev pub IsStuck : Fine → Type 0
IsStuck f = (e : FineStep) → ByOneOf f.image f.cpus (f.processors e.cpu) e → SiteMay f.image (f.sites e.site) e → ⊥

-- The processor k is one of this many, and none of its steps is lawful.
pub record IsHalted (f : Fine) (k : ℕ) : Type 0 where
  pub inside : k < f.cpus
  pub stuck : (e : FineStep) → e.cpu ≡ k → ByOneOf f.image f.cpus (f.processors k) e → SiteMay f.image (f.sites e.site) e → ⊥

-- An image with no more domains than there are words for, on one to eight processors.
pub record CanRun (image : Image) (cpus : ℕ) : Type 0 where
  pub domains : length image.domains ≤ DOMAINS
  pub some : 0 < cpus
  pub few : cpus ≤ 8

-- whether a site's word can count one more step
abbrev pub has_number : SiteState → Bool
has_number (SiteState.row w) = nat_lt w.number 1048575
has_number (SiteState.thread w) = nat_lt w.number 268435455
has_number (SiteState.domain w) = nat_lt w.number 268435455
has_number (SiteState.cell n c) = nat_lt n 268435455

-- Each site can count one more step, the word of each domain one more version, and that of the scheduler one more mark.
pub record CanCount (f : Fine) : Type 0 where
  pub numbers : (i : Site) → has_number (f.sites i) ≡ true
  pub versions : (d : ℕ) → d < length f.image.domains → (domain f d).version < 1048575
  pub owed : (scheduler f).owed < 524287
