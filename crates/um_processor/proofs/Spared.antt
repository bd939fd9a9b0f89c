-- The room for bytes that a running processor has is no part of what it stands for.
use Rattle.std.proofs.Common.{◌≡◌, ℕ, List, refl, sym, ap, ◌∙◌}
use Rattle.um_base.specs.declared.image.Image.{Image}
use Rattle.um_processor.specs.declared.phase.Phase.{Phase}
use Rattle.um_processor.specs.declared.request.Onward.{Onward}
use Rattle.um_processor.specs.declared.running.Running.{Running}
use Rattle.um_processor.specs.Processors.{in_phase, processor_of}
use Rattle.um_processor.specs.Requests.{gone_on}

pub spare-unseen : (phase : Phase) (r : Running) (bytes : List ℕ) → in_phase phase (record r { spare = bytes }) ≡ in_phase phase r
spare-unseen Phase.Idle r bytes = refl
spare-unseen Phase.Pass r bytes = refl
spare-unseen Phase.Drop r bytes = refl
spare-unseen phase r bytes = refl

pub gone-unseen : (image : Image) (onward : Onward) (r : Running) (bytes : List ℕ) → gone_on image onward (record r { spare = bytes }) ≡ gone_on image onward r
gone-unseen image (Onward.To phase) r bytes = spare-unseen phase r bytes
gone-unseen image onward r bytes = refl

-- nor is the room for a thread that is roused, in a phase in which none is
pub room-unseen : (q r : Running) → q ≡ record r { room = q.room } → r.phase ≡ Phase.Add → processor_of q ≡ processor_of r
room-unseen q r e at = ap processor_of e ∙ ((λ i. in_phase (at i) (record r { room = q.room })) ∙ sym (λ i. in_phase (at i) r))
