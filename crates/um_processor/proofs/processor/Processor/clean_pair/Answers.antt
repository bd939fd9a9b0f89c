use Rattle.std.proofs.Common.{Some, if◌then◌else◌, ◌≡◌, ℕ, ◌+◌, ◌≤◌, ◌++◌, drop, refl, ap, sym, ◌∙◌, nat_le}
use Rattle.std.proofs.lemmas.Bool.{le-leb}
use Rattle.um_fine.specs.Places.{Todos, clean_pairs, cleanings}
use Rattle.um_processor.specs.Cleanings.{all_clean, behind_first, block_if}
use Rattle.um_processor.specs.declared.cleaning.TheConstants.{MOST}
use Rattle.um_words.specs.declared.row_act.RowSaid.{RowSaid}
use Rattle.um_processor.specs.Processors.{IsStuck}
use Rattle.um_processor.proofs.Wholes.{cleanings-stood, pair-goes, pair-asks}
use Rattle.um_processor.proofs.processor.Processor.clean_pair.Goals as goal

pub returns : goal.returns
returns g c =
    let h = c.in-Made.ensures.said in
    let image = c.args.here.now.image.now in
    let k = c.args.self.now in
    let rest = drop 1 k.cleans in
    let pairs = clean_pairs c.args.who (c.args.row + 1) rest in
    let after : c.advance.new.self ≡ pairs = c.advance.ensures.rest ∙ ap behind_first c.requires.next.first in
    let new = c.take_in_if.ensures ∙ ap (λ (t : Todos). t ++ block_if image c.args.row c.in-Made.said.cleans) after in
    let goes =
    pair-goes image c.args.here.now.cpu k.running c.requires.next.runs k.cleans _ rest k.ends.items _ c.args.who c.args.row _ _ h.0 _ c.requires.next.first (ap all_clean (sym after) ∙ c.advance.ensures.clean) c.cleaner-thread.ensures c.addr_of.ensures
    (ap (λ (s : RowSaid). s.cleans) h.2)
    new
    c.acts_unless.new.self
    (c.acts_unless.ensures ∙ ap (λ (s : RowSaid). record k.running { actor = if s.visits then k.running.actor else Some c.cleaner-thread.result.0 }) h.2) in
    record { turn = (c.in-Made.ensures.image, tt, (_, h.1, goes)) }

pub returns-in-Busy : goal.returns-in-Busy
returns-in-Busy g c =
    let h = c.in-Busy.ensures.said in
    let k = c.args.self.now in
    let asks = pair-asks c.args.here.now.image.now c.args.here.now.cpu k.running c.requires.next.runs k.cleans _ k.ends.items _ c.args.who c.args.row _ _ h.0 c.requires.next.first c.cleaner-thread.ensures c.addr_of.ensures in
    record { turn = (c.in-Busy.ensures.image, refl, (_, (h.1, h.2), asks)) }

pub returns-then-len-ge-MOST : goal.returns-then-len-ge-MOST
returns-then-len-ge-MOST g c =
    let k = c.args.self.now in
    let many : MOST ≤ cleanings k.cleans = rw c.len.ensures at c.if-len-ge-MOST.true in
    record { turn = (c.requires.goes.0, refl, (refl, IsStuck.full (ap (λ (n : ℕ). nat_le MOST n) (cleanings-stood c.args.here.now.image.now c.args.here.now.cpu k.running c.requires.next.runs k.cleans k.ends.items _) ∙ le-leb MOST _ many))) }
