use Rattle.std.proofs.Common.{rules, refl, ◌≡◌, ◌∙◌, ap, sym, subst, Some, ℕ, List}
use Rattle.um_base.specs.declared.image.Image.{Image}
use Rattle.um_fine.specs.Cells.{Cell}
use Rattle.um_fine.specs.Steps.{Site}
use Rattle.um_fine.specs.Answers.{act_in}
use Rattle.um_fine.specs.Memory.{Bytes, memory_after}
use Rattle.um_tables.specs.MemoryActs.{memory_act, memory_answered, memory_event, memory_given, memory_made, memory_said, memory_sent, taken_after}
use Rattle.um_tables.specs.declared.memory_act.MemoryAct.{MemoryAct}
use Rattle.um_tables.specs.declared.memory_act.MemorySaid.{MemorySaid}
use Rattle.um_tables.proofs.ByteLemmas.{memory-takes}
use Rattle.um_tables.proofs.Noted.{memory-event}
use Rattle.um_board.specs.NextSteps.{IsNext}
use Rattle.um_board.specs.Placed.{HasMadeThere}
use Rattle.um_board.proofs.CellSteps.{cell-takes}
use Rattle.um_board.proofs.Keeping.{noted-then}
use Rattle.um_board.proofs.NextRuns.{next-then}
use Rattle.um_board.proofs.sites.SeatedSites.memory.Goals as goal

-- what the memory says, as of the bytes that were kept and those that were sent
said-of : (image : Image) (act : MemoryAct) (b d : Bytes) (p q : List ℕ) (said : MemorySaid) → b ≡ d → p ≡ q → said ≡ memory_said (memory_answered image b act p) → said ≡ memory_said (memory_answered image d act q)
said-of image act b d p q said was sent is = is ∙ (λ i. memory_said (memory_answered image (was i) act (sent i)))

pub leave_cell-requires-clause-takes : goal.leave_cell-requires-clause-takes
leave_cell-requires-clause-takes c =
    let d = c.in-Some.turn.before.value.value in
    let was : c.deref_mut.result.now ≡ d = search rules in
    let image = c.args.here.now.image.now in
    let act = c.args.act.now in
    let sent = c.of-sent.result.value in
    let same : c.args.buffer.now ≡ sent = sym c.of-sent.ensures in
    cell-takes image c.args.here.now.cpu Site.memory c.in-Some.turn.number (Cell.memory d) _ (memory_act act) (memory_sent act sent) c.in-Some.ensures.turn.1.turn.room (memory-takes image d (memory_sent act sent) act) (ap Cell.memory (c.make-said.ensures.leaves ∙ (λ i. memory_after image (was i) (act_in (memory_answered image (was i) act (same i))) (memory_given image (was i) act (same i)))))

pub leave_cell-requires-clause-event : goal.leave_cell-requires-clause-event
leave_cell-requires-clause-event c =
    let d = c.in-Some.turn.before.value.value in
    let act = c.args.act.now in
    let said = said-of c.args.here.now.image.now act c.deref_mut.result.now d _ _ _ (search rules) (sym c.of-sent.ensures) c.make-said.ensures.said in
    c.event-event.ensures ∙ (ap (λ (s : MemorySaid). Some (memory_event act s)) said ∙ memory-event c.args.here.now.image.now d (memory_sent act c.of-sent.result.value) act)

pub leave_cell-requires-clause-goes : goal.leave_cell-requires-clause-goes
leave_cell-requires-clause-goes c =
    let seat = c.args.self.now.seat in
    next-then _ _ _ _ _ _ c.in-Some.ensures.unnoted (subst (λ (p : List ℕ). IsNext c.args.here.now.image.now seat.token.me.0.name seat.token.me.0.made (memory_made c.args.here.now.image.now c.args.here.now.cpu c.in-Some.turn.number c.in-Some.turn.before.value.value c.args.act.now p)) (sym c.of-sent.ensures) (c.requires.goes c.in-Some.turn.number c.in-Some.turn.before.value.value))

pub returns-clause-said : goal.returns-clause-said
returns-clause-said c =
    let d = c.in-Some.turn.before.value.value in
    let was : c.deref_mut.result.now ≡ d = search rules in
    let answered = λ (b : Bytes). memory_answered c.args.here.now.image.now b c.args.act.now c.args.buffer.now in
    let given = λ (b : Bytes). memory_given c.args.here.now.image.now b c.args.act.now c.args.buffer.now in
    let made = noted-then _ _ _ _ _ _ _ c.in-Some.ensures.unnoted c.leave_cell.ensures.made in (
      c.in-Some.turn.number,
      d,
      subst (λ (p : List ℕ). HasMadeThere c.args.self.now (memory_made c.args.here.now.image.now c.args.here.now.cpu c.in-Some.turn.number d c.args.act.now p) c.leave_cell.new.self) c.of-sent.ensures made,
      record {
        said_is = said-of c.args.here.now.image.now c.args.act.now _ _ _ _ _ was refl c.make-said.ensures.said;
        taken = c.make-said.ensures.taken ∙ ap (λ (b : Bytes). taken_after (act_in (answered b)) (given b) c.args.buffer.now) was;
      },
    )

pub returns-in_default-clause-said : goal.returns-in_default-clause-said
returns-in_default-clause-said c = (c.turn.ensures.unnoted, c.in_default.ensures.turn.1, refl)
