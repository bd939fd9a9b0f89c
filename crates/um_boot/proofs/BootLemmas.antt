-- States by their parts, and what a lawful description sets up.
use Rattle.std.proofs.lemmas.Bool.{and_parts}
use Rattle.std.proofs.Common.{◌≡◌, ◌<◌, ℕ, zero, suc, List, [], ◌∷◌, Bool, Option, length, get_or, arith, refl}
use Rattle.std.specs.Prelude.{IsTrue, nat_le}
use Rattle.std.specs.List.{list_all}
use Rattle.um_base.specs.Lawful.{IsLawful, is_setup_of, is_within}
use Rattle.um_base.specs.declared.names.Kind.{Kind}
use Rattle.um_base.specs.declared.names.Mpu.{Mpu}
use Rattle.um_base.specs.declared.image.ObjectDef.{ObjectDef}
use Rattle.um_base.specs.declared.image.Setup.{Setup}
use Rattle.um_machine.specs.Limits.{is_in_limits}
use Rattle.um_base.specs.declared.image.Image.{Image}
use Rattle.um_base.specs.Regions.{Partitions}
use Rattle.um_base.specs.declared.ask.Waiter.{Waiter}
use Rattle.um_machine.specs.declared.object.Object.{Object}
use Rattle.um_machine.specs.declared.thread.Thread.{Thread}
use Rattle.um_machine.specs.State.{State}

-- a state by the equations of its tables
pub state-is : (s : State) {image : Image} {threads : List Thread} {objects : List Object} {pairs : List (List Bool)} {domains : List (Option Partitions)}
    {memory stacks pools : List ℕ} {now : ℕ} {armed : List ℕ} {joins futexes : List Waiter}
    → image ≡ s.image → threads ≡ s.threads → objects ≡ s.objects → pairs ≡ s.pairs → domains ≡ s.domains → memory ≡ s.memory → stacks ≡ s.stacks → pools ≡ s.pools → now ≡ s.now → armed ≡ s.armed
    → joins ≡ s.joins → futexes ≡ s.futexes
    → ◌≡◌ {A = State} (record { image = image; threads = threads; objects = objects; pairs = pairs; domains = domains; memory = memory; stacks = stacks; pools = pools; now = now; armed = armed; joins = joins; futexes = futexes }) s
state-is s i t o p d m k q n a w f =
    λ j. record { image = i j; threads = t j; objects = o j; pairs = p j; domains = d j; memory = m j; stacks = k j; pools = q j; now = n j; armed = a j; joins = w j; futexes = f j }

-- a setup of a kind keeps the limits
setup-limits : (mpu : Mpu) (kind : Kind) (setup : Setup) → IsTrue (is_setup_of mpu kind setup) → IsTrue (is_in_limits setup)
setup-limits mpu Kind.Msgq (Setup.Msgq size most) h = (and_parts (nat_le 1 most) (nat_le most 64) (and_parts (is_within 1 256 size) (is_within 1 64 most) h).1).1
setup-limits mpu Kind.Stack (Setup.Stack most) h = (and_parts (nat_le 1 most) (nat_le most 64) h).1
setup-limits mpu Kind.Pipe (Setup.Pipe size) h = (and_parts (nat_le 1 size) (nat_le size 256) h).1
setup-limits mpu kind (Setup.Thread index) h = refl
setup-limits mpu kind (Setup.ThreadStack range declared) h = refl
setup-limits mpu kind (Setup.Sem count limit) h = refl
setup-limits mpu kind Setup.Mutex h = refl
setup-limits mpu kind Setup.Timer h = refl
setup-limits mpu kind Setup.Bare h = refl
setup-limits mpu kind setup h = cc

all-in-limits : (mpu : Mpu) (objects : List ObjectDef) (x : ℕ) (d : ObjectDef) → x < length objects → IsTrue (list_all (λ (o : ObjectDef). is_setup_of mpu o.kind o.setup) objects)
    → IsTrue (is_in_limits (get_or objects x d).setup)
all-in-limits mpu [] x d h all = absurd (omega arith)
all-in-limits mpu (o ∷ os) zero d h all =
    setup-limits mpu o.kind o.setup (and_parts (is_setup_of mpu o.kind o.setup) (list_all (λ (o : ObjectDef). is_setup_of mpu o.kind o.setup) os) all).0
all-in-limits mpu (o ∷ os) (suc x) d h all =
    all-in-limits mpu os x d (omega arith) (and_parts (is_setup_of mpu o.kind o.setup) (list_all (λ (o : ObjectDef). is_setup_of mpu o.kind o.setup) os) all).1

-- the objects of a lawful image keep the limits
pub in_limits : (image : Image) (x : ℕ) (d : ObjectDef) → IsLawful image → x < length image.objects → IsTrue (is_in_limits (get_or image.objects x d).setup)
in_limits image x d lawful h = all-in-limits image.mpu image.objects x d h lawful.objects
