use Rattle.std.proofs.Common.{◌≡◌, ℕ, List, Result, Ok, Err, IfOk, Vec, Global}
use Rattle.um_base.specs.declared.image.Image.{Image}
use Rattle.um_base.specs.declared.out_of_memory.OutOfMemory.{OutOfMemory}
use Rattle.um_canonical.specs.Text.{printed_text}
use Rattle.um_image.specs.Meaning.{Describes}
use Rattle.um_app.specs.Upgraded.{IsUpgrade}
use Rattle.um_app.proofs.answer.upgraded.Goals as goal

-- a canonical text of an image that is described is what the command writes
is_upgrade : (image : Image) (source : List ℕ) → Describes source image → (r : Result (Vec ℕ Global) OutOfMemory) → IfOk r (λ text. text.items ≡ printed_text image)
    → IfOk r (λ text. (source : List ℕ) → Describes source image → Describes text.items image)
    → IfOk r (λ text. (source : List ℕ) (again : Image) → Describes source image → Describes text.items again → printed_text again ≡ text.items)
    → IfOk r (λ text. IsUpgrade image text.items)
is_upgrade image source described (Ok text) canonical law twice =
    record { canonical = canonical; describes = law source described; again = λ other d. twice source other described d }
is_upgrade image source described (Err e) canonical law twice = tt

pub returns : goal.returns
returns c =
    is_upgrade c.args.image.now c.requires.described.0 c.requires.described.1 c.print_image.result c.print_image.ensures.text c.print_image.ensures.law c.print_image.ensures.twice
