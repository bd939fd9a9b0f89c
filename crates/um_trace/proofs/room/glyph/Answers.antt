use Rattle.um_trace.proofs.DigitLemmas.{glyph_at}
use Rattle.um_trace.proofs.room.glyph.Goals as goal

pub returns : goal.returns
returns c = glyph_at c.args.d c.requires
