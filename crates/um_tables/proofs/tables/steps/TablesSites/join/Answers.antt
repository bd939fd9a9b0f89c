use Rattle.std.proofs.Common.{arith, ◌∙◌, Some, ap, refl}
use Rattle.um_fine.specs.Cells.{Cell}
use Rattle.um_fine.specs.Steps.{Site}
use Rattle.um_tables.specs.Sited.{logged}
use Rattle.um_tables.proofs.Celled.{cell-ends, cell-taken}
use Rattle.um_base.specs.declared.act.Act.{Act}
use Rattle.um_base.specs.declared.act.Answer.{Answer}
use Rattle.um_base.specs.declared.act.Event.{Event}
use Rattle.um_base.specs.declared.ask.Ask.{Ask}
use Rattle.um_fine.specs.Joins.{begins_waiting}
use Rattle.um_tables.specs.Asked.{by_thread}
use Rattle.um_tables.specs.JoinActs.{join_act}
use Rattle.um_tables.specs.Seekers.{seeking}
use Rattle.um_tables.proofs.tables.steps.TablesSites.join.Goals as goal

pub returns-clause-said : goal.returns-clause-said
returns-clause-said c =
    let kept = c.self.inside.joins in
    let s = c.args.seeker.now in
    let e = c.join-answer.ensures in (
      c.self.inside.joins_steps,
      kept,
      cell-taken c.args.here.now.image.now _ _ c.self.view_is c.args.here.now.cpu Site.joins c.self.inside.joins_steps (Cell.joins kept) (Cell.joins c.join-answer.new.self) (join_act c.args.seeker.now c.args.who c.args.timeout) (seeking c.args.seeker.now (Ask.Join c.args.who)) refl (omega arith) refl
          (ap Cell.joins (e.left ∙ ap (λ (answer : Answer). begins_waiting kept (seeking s (Ask.Join c.args.who)) answer) e.answer))
          _
          _
          (c.note.ensures.events ∙ ap (logged c.self.inside.log.items) (ap (λ (event : Event). Some event) c.joined.ensures ∙ ap (λ (answer : Answer). Some (by_thread s.thread (Act.Join c.args.who answer))) e.answer))
          c.note.ensures.room,
      e.answer,
    )

pub returns-then-self-ge-LAST-clause-said : goal.returns-then-self-ge-LAST-clause-said
returns-then-self-ge-LAST-clause-said c = (
  c.self.inside.joins_steps,
  c.self.inside.joins,
  refl,
  cell-ends c.args.here.now.image.now _ _ c.self.view_is c.args.here.now.cpu Site.joins c.self.inside.joins_steps (Cell.joins c.self.inside.joins) (join_act c.args.seeker.now c.args.who c.args.timeout) (seeking c.args.seeker.now (Ask.Join c.args.who)) refl (search arith),
)
