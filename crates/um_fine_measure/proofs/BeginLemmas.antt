-- A line that begins pays for its steps.
use Rattle.std.proofs.Common.{◌≡◌, ◌≤◌, ◌+◌, true, length, refl, subst, arith, Option, Some, None}
use Rattle.std.specs.Prelude.{IsTrue, is_some}
use Rattle.std.proofs.lemmas.Bool.{false≢true}
use Rattle.um_base.specs.Lawful.{IsLawful}
use Rattle.um_base.specs.declared.image.Image.{Image}
use Rattle.um_base.specs.declared.instr.Instr.{Instr}
use Rattle.um_machine.specs.declared.pending.Pending.{Pending}
use Rattle.um_machine.specs.Order.{steps_of}
use Rattle.um_machine.specs.State.{instruction_at, next_place}
use Rattle.um_machine.specs.Table.{with_begin}
use Rattle.um_measure.specs.Measure.{lines_left}
use Rattle.um_measure.specs.Reached.{makes_steps}
use Rattle.um_fine.specs.Context.{Context, as_thread}
use Rattle.um_fine.specs.Continues.{begun}
use Rattle.um_fine_measure.specs.Measure.{ahead_cost, end_cost}
use Rattle.um_fine_measure.specs.Ready.{MayShow}
use Rattle.um_fine_measure.proofs.LeftLemmas.{behind_line, goes-cost, left_cost}
use Rattle.um_fine_measure.proofs.LineLemmas.{line-cost}
use Rattle.um_measure.proofs.NextLemmas.{next-line}
use Rattle.um_measure.proofs.ScriptLemmas.{lawful-line}

module _ (image : Image) (lawful : IsLawful image) (c : Context) where
  begin-line : MayShow image c Pending.Begin → (line : Option Instr) → instruction_at image c.place ≡ line → IsTrue (is_some line)
      → left_cost image (begun image c line) + 1 ≤ length c.claims + ahead_cost image c
  begin-line may None e some = absurd (false≢true some)
  begin-line may (Some line) e some =
      let goes = goes-cost image (record c { registers = with_begin c.registers line }) (steps_of image c.thread (as_thread c) line) in
      let makes : makes_steps (Some line) ≡ true = subst (λ (o : Option Instr). makes_steps o ≡ true) e may.2.makes in
      let cost = line-cost image lawful c.place.script c.thread (as_thread c) line (lawful-line image lawful c.place.script c.place.line line e) makes in
      let next = (next-line image lawful c.place may.2 line e).1 in
      let lives : behind_line image c ≡ end_cost + lines_left image (next_place image c.place) = rw may.0 refl in
      let before : ahead_cost image c ≡ end_cost + lines_left image c.place = rw (may.0, may.1) refl in
      omega (arith, goes, cost, next, lives, before)

  pub begin-falls : MayShow image c Pending.Begin → left_cost image (begun image c (instruction_at image c.place)) + 1 ≤ length c.claims + ahead_cost image c
  begin-falls may = begin-line may (instruction_at image c.place) refl may.3
