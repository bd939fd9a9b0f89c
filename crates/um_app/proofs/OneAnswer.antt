-- A command writes one text of an input, if it isn't `run` on several processors.
use Rattle.std.proofs.Common.{◌≡◌, ◌∙◌, ◌≤◌, ℕ, List, None, refl, sym, ap, subst, arith}
use Rattle.std.specs.Prelude.{IsTrue, Option, Some}
use Rattle.std.proofs.lemmas.Bool.{leb-true}
use Rattle.um_base.specs.declared.act.Event.{Event}
use Rattle.um_base.specs.declared.image.Image.{Image}
use Rattle.um_board.specs.Contents.{Known}
use Rattle.um_command.specs.declared.command.Command.{Command}
use Rattle.um_command.specs.declared.command.Options.{Options}
use Rattle.um_core.proofs.OneRun.{one-run as one-order}
use Rattle.um_core.specs.PickedRun.{IsPickedRun}
use Rattle.um_fine.specs.Erasure.{shown}
use Rattle.um_fine.specs.Steps.{FineStep}
use Rattle.um_image.proofs.TextLemmas.{one_image}
use Rattle.um_image.specs.Meaning.{Describes}
use Rattle.um_invariants.specs.Described.{IsDescribed}
use Rattle.um_machine.specs.Run.{IsRun, opening}
use Rattle.um_machine.specs.State.{State}
use Rattle.um_site.specs.declared.closed.Closed.{Closed}
use Rattle.um_trace.specs.Summary.{summary_text}
use Rattle.um_trace.specs.Text.{text}
use Rattle.um_app.proofs.Ends.{all_of_it}
use Rattle.um_audit.proofs.LawLemmas.{led-one, one-verdict}
use Rattle.um_audit.proofs.WholeLemmas.{led-run, lines}
use Rattle.um_texts.proofs.NameLemmas.{are_named}
use Rattle.um_audit.specs.Told.{verdict_text}
use Rattle.um_app.specs.Audited.{IsAudit}
use Rattle.um_app.specs.Inputs.{description_in, has_one_answer}
use Rattle.um_app.specs.Threaded.{IsThreadRun}
use Rattle.um_app.specs.Top.{Answers, IsOutput, IsRead, IsRunOf, Writes}

-- the events of a run lead to one state
one-end : (image : Image) → IsDescribed image → (events : List Event) (a b : State) → IsRun image events a → IsRun image events b → a ≡ b
one-end image is events a b run other =
    let named = are_named image is.lawful in
    led-one image is (lines image events) a b (led-run image named events (opening image) a run) (led-run image named events (opening image) b other)

-- events that the same steps show are one run, with one last state
same_steps : (image : Image) (run run2 : List Event) (last last2 : State) (steps steps2 : List FineStep) → IsDescribed image → IsRun image run last → IsRun image run2 last2
    → run ≡ shown steps → run2 ≡ shown steps2 → steps ≡ steps2 → (run ≡ run2) × (last ≡ last2)
same_steps image run run2 last last2 steps steps2 described is_run is_run2 shows shows2 one =
    let same : run ≡ run2 = shows ∙ (ap shown one ∙ sym shows2) in
    (same, one-end image described run last last2 is_run (subst (λ (events : List Event). IsRun image events last2) (sym same) is_run2))

-- the run of an image with these options, and its last state, are one
same_run : (image : Image) (options : Options) (run run2 : List Event) (last last2 : State) → IsRunOf image options run last → IsRunOf image options run2 last2 → (run ≡ run2) × (last ≡ last2)
same_run image options run run2 last last2 a b =
    same_steps image run run2 last last2 a.ordered.steps b.ordered.steps a.described a.is_run b.is_run a.ordered.shows b.ordered.shows
    (one-order image options.cpus options.pick a.ordered.steps b.ordered.steps a.ordered.picked b.ordered.picked)

-- and so are those of threads on one processor
same_thread_run : (image : Image) (cpus : ℕ) → cpus ≤ 1 → (closed closed2 : Closed Known) (run run2 : List Event) (last last2 : State) → IsThreadRun image cpus closed run last → IsThreadRun image cpus closed2 run2 last2
    → (run ≡ run2) × (last ≡ last2)
same_thread_run image cpus few closed closed2 run run2 last last2 a b =
    same_steps image run run2 last last2 a.steps b.steps a.described a.is_run b.is_run a.shows b.shows
    (one-order image cpus None a.steps b.steps (a.picked few None) (b.picked few None))

-- what is told of runs that are the same is the same
same_told : (told : List Event → State → List ℕ) (run run2 : List Event) (last last2 : State) → (run ≡ run2) × (last ≡ last2) → told run last ≡ told run2 last2
same_told told run run2 last last2 same = ap (λ (es : List Event). told es last) same.0 ∙ ap (told run2) same.1

one_audit : (image : Image) (trace written other : List ℕ) → IsAudit image trace written → IsAudit image trace other → written ≡ other
one_audit image trace written other a b = a.told ∙ ap verdict_text (one-verdict image a.lawful trace a.verdict b.verdict a.is_verdict b.is_verdict) ∙ sym b.told

one_writing : (command : Command) (image : Image) (trace written other : List ℕ) → IsTrue (has_one_answer command) → Writes command image trace written → Writes command image trace other → written ≡ other
one_writing (Command.Run cpus) image trace written other one a b =
    a.1.3
    ∙ same_told (text image) a.1.0 b.1.0 a.1.1 b.1.1 (same_thread_run image cpus (leb-true cpus 1 one) a.0 b.0 a.1.0 b.1.0 a.1.1 b.1.1 a.1.2 b.1.2)
    ∙ sym b.1.3
one_writing (Command.Sim options) image trace written other one a b =
    a.3 ∙ same_told (text image) a.0 b.0 a.1 b.1 (same_run image options a.0 b.0 a.1 b.1 a.2 b.2) ∙ sym b.3
one_writing (Command.Summary options) image trace written other one a b =
    a.3 ∙ same_told (summary_text image) a.0 b.0 a.1 b.1 (same_run image options a.0 b.0 a.1 b.1 a.2 b.2) ∙ sym b.3
one_writing Command.Layout image trace written other one a b = a ∙ sym b
one_writing (Command.Gen number) image trace written other one a b = a ∙ sym b
one_writing Command.Upgrade image trace written other one a b = a.canonical ∙ sym b.canonical
one_writing Command.Audit image trace written other one a b = one_audit image trace written other a b

one_output : (command : Command) (input written other : List ℕ) → IsTrue (has_one_answer command) → IsOutput command input written → IsOutput command input other → written ≡ other
one_output command input written other one a b =
    let image : b.image ≡ a.image = one_image (description_in command input) b.image a.image b.is_of.described a.is_of.described in
    let trace : b.trace ≡ a.trace = (let here = a.is_of.traced in let there = b.is_of.traced in cc) in
    one_writing command a.image a.trace written other one a.writes
    (subst (λ (t : List ℕ). Writes command a.image t other) trace (subst (λ (i : Image). Writes command i b.trace other) image b.writes))

one_reading : (command : Command) (source written other : List ℕ) (left left2 : Option (List ℕ)) → IsTrue (has_one_answer command) → IsRead command (Some source) left written → IsRead command (Some source) left2 other → written ≡ other
one_reading command source written other left left2 one a b =
    let first = all_of_it _ left source a.input refl a.read.taken a.read.at_end in
    let second = all_of_it _ left2 source b.input refl b.read.taken b.read.at_end in
    one_output command a.input written other one a.output (subst (λ (input : List ℕ). IsOutput command input other) (second ∙ sym first) b.output)

pub one_answer : (command : Command) (source written other : List ℕ) (left left2 : Option (List ℕ)) → IsTrue (has_one_answer command) → Answers command (Some source) left written → Answers command (Some source) left2 other → written ≡ other
one_answer (Command.Run cpus) source written other left left2 one a b = one_reading (Command.Run cpus) source written other left left2 one a b
one_answer (Command.Sim options) source written other left left2 one a b = one_reading (Command.Sim options) source written other left left2 one a b
one_answer (Command.Summary options) source written other left left2 one a b = one_reading (Command.Summary options) source written other left left2 one a b
one_answer Command.Layout source written other left left2 one a b = one_reading Command.Layout source written other left left2 one a b
one_answer Command.Upgrade source written other left left2 one a b = one_reading Command.Upgrade source written other left left2 one a b
one_answer Command.Audit source written other left left2 one a b = one_reading Command.Audit source written other left left2 one a b
one_answer (Command.Gen number) source written other left left2 one a b = a ∙ sym b

-- On one processor.

module _ (image : Image) where
  -- whatever the pick, there is one run
  same_pick : (options options2 : Options) (run run2 : List Event) (last last2 : State) → options.cpus ≡ 1 → options2.cpus ≡ 1 → IsRunOf image options run last → IsRunOf image options2 run2 last2
      → (run ≡ run2) × (last ≡ last2)
  same_pick options options2 run run2 last last2 one one2 a b =
      same_steps image run run2 last last2 a.ordered.steps b.ordered.steps a.described a.is_run b.is_run a.ordered.shows b.ordered.shows
      (one-order image 1 None a.ordered.steps b.ordered.steps (subst (λ (n : ℕ). IsPickedRun image n None a.ordered.steps) one (a.ordered.any (omega (arith, one)) None))
      (subst (λ (n : ℕ). IsPickedRun image n None b.ordered.steps) one2 (b.ordered.any (omega (arith, one2)) None)))

  -- and it is that of a thread
  same_thread : (options : Options) (closed : Closed Known) (run run2 : List Event) (last last2 : State) → options.cpus ≡ 1 → IsRunOf image options run last → IsThreadRun image 1 closed run2 last2
      → (run ≡ run2) × (last ≡ last2)
  same_thread options closed run run2 last last2 one a b =
      same_steps image run run2 last last2 a.ordered.steps b.steps a.described a.is_run b.is_run a.ordered.shows b.shows
      (one-order image 1 None a.ordered.steps b.steps (subst (λ (n : ℕ). IsPickedRun image n None a.ordered.steps) one (a.ordered.any (omega (arith, one)) None))
      (b.picked (omega arith) None))

-- two commands that read the same description, and write the same of an image
two_readings : (command command2 : Command) (source written other : List ℕ) (left left2 : Option (List ℕ)) → ((input : List ℕ) → description_in command input ≡ description_in command2 input)
    → ((image : Image) (trace trace2 : List ℕ) → Writes command image trace written → Writes command2 image trace2 other → written ≡ other)
    → IsRead command (Some source) left written → IsRead command2 (Some source) left2 other → written ≡ other
two_readings command command2 source written other left left2 same alike a b =
    let input : b.input ≡ a.input = all_of_it _ left2 source b.input refl b.read.taken b.read.at_end ∙ sym (all_of_it _ left source a.input refl a.read.taken a.read.at_end) in
    let described = subst (λ (d : List ℕ). Describes d b.output.image) (ap (description_in command2) input ∙ sym (same a.input)) b.output.is_of.described in
    let image : b.output.image ≡ a.output.image = one_image (description_in command a.input) b.output.image a.output.image described a.output.is_of.described in
    alike a.output.image a.output.trace b.output.trace a.output.writes (subst (λ (i : Image). Writes command2 i b.output.trace other) image b.output.writes)

pub one_pick : (options options2 : Options) (source written other : List ℕ) (left left2 : Option (List ℕ)) → options.cpus ≡ 1 → options2.cpus ≡ 1
    → Answers (Command.Sim options) (Some source) left written → Answers (Command.Sim options2) (Some source) left2 other → written ≡ other
one_pick options options2 source written other left left2 one one2 =
    two_readings (Command.Sim options) (Command.Sim options2) source written other left left2 (λ input. refl)
    (λ image trace trace2 a b. a.3 ∙ same_told (text image) a.0 b.0 a.1 b.1 (same_pick image options options2 a.0 b.0 a.1 b.1 one one2 a.2 b.2) ∙ sym b.3)

pub one_thread : (options : Options) (source written other : List ℕ) (left left2 : Option (List ℕ)) → options.cpus ≡ 1
    → Answers (Command.Sim options) (Some source) left written → Answers (Command.Run 1) (Some source) left2 other → written ≡ other
one_thread options source written other left left2 one =
    two_readings (Command.Sim options) (Command.Run 1) source written other left left2 (λ input. refl)
    (λ image trace trace2 a b. a.3 ∙ same_told (text image) a.0 b.1.0 a.1 b.1.1 (same_thread image options b.0 a.0 b.1.0 a.1 b.1.1 one a.2 b.1.2) ∙ sym b.1.3)
