use Rattle.std.proofs.Common.{◌+◌, refl}
use Rattle.std.proofs.lemmas.List.{take_rest}
use Rattle.um_script.proofs.cut.cut.Goals as goal

pub returns : goal.returns
returns c = rw (take_rest c.args.bytes.now (c.in_ok-place.place + 1), ← c.in_ok-place.ensures.place) refl
