use Rattle.std.proofs.Common.{◌≡◌, ℕ, ◌<◌, ◌≤◌, IsTrue, Some, length, slice_get, vec_capacity}
use Rattle.um_base.specs.declared.act.Event.{Event}
use Rattle.um_machine.specs.Run.{Step}
use Rattle.um_machine.specs.State.{State}
use Rattle.um_question.specs.Asked.{is_met}
use Rattle.um_trace.specs.declared.lines.TheConstants.{LINE_ROOM}
use Rattle.um_explore.specs.Met.{AreLayered, AreMet, AreRooms, Grows, IsLed, IsNear, LeadsOn}
use Rattle.um_explore.proofs.SearchLemmas.{IsSeen}
use Rattle.um_explore.proofs.search.expand.Given as goal

abbrev pub invariant-loop-event : goal.invariant-loop-event
invariant-loop-event l = record {
  room : LINE_ROOM ≤ vec_capacity l.room;
  more : vec_capacity l.fn.room ≤ vec_capacity l.room;
  are : AreMet l.asked.image.now l.met.links.items;
  rooms : AreRooms l.asked.image.now l.rooms;
  here : l.rooms.here ≡ l.initial.rooms.here;
  layered : AreLayered l.met.links.items;
  near : IsNear l.met.links.items l.k;
  few : length l.met.links.items ≤ l.asked.most;
  grows : Grows l.asked.image.now l.fn.met.links.items l.met.links.items;
  leads : (i : ℕ) → i < l.event-index → (event : Event) → slice_get l.steps i ≡ Some event → IsSeen l.asked.image.now (is_met l.asked.image.now l.asked.question.now) l.met.links.items l.k l.initial.rooms.here event;
}
