-- What the command `audit` writes.
use Rattle.std.specs.Prelude.{◌≡◌, ◌↔◌, ℕ, List}
use Rattle.um_audit.specs.declared.verdict.Verdict.{Verdict}
use Rattle.um_audit.specs.Told.{verdict_text}
use Rattle.um_audit.specs.Verdict.{IsVerdict, IsTextOfRun}
use Rattle.um_base.specs.declared.image.Image.{Image}
use Rattle.um_invariants.specs.Described.{IsDescribed}

-- The bytes tell the verdict on a trace: yes exactly where the trace is the text of a complete run of the image.
pub record IsAudit (image : Image) (trace written : List ℕ) : Type 0 where
  pub verdict : Verdict
  pub is_verdict : IsVerdict image trace verdict
  pub exact : (verdict ≡ Verdict.Yes) ↔ IsTextOfRun image trace
  pub told : written ≡ verdict_text verdict
  pub lawful : IsDescribed image
