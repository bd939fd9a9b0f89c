-- A processor of a fine run that can't step waits for a thread that is ready, for one that is held, or for a domain that is claimed.
use Rattle.um_refinement.proofs.Words.{◌≡◌, ◌⊎◌, inl, inr, ℕ, ◌<◌, ◌≤◌, List, [], ◌∷◌, length, map, refl, ap, ◌∙◌, arith, Boot, Image, Pending, Steps, opening, State, core_of, is_opening, is_sited, IsKnown, IsDescribed, shown, IsFineRun, boot_index, Todo, Todos, Processor, SiteState, FineStep, Site, left_by, Fine, one_if, scheduler, runs, Rel, CanCount, CanRun, IsHalted}
use Rattle.um_refinement.specs.Waits.{WaitsFor}
use Rattle.um_refinement.proofs.BoundedRuns.{bounded-runs}
use Rattle.um_refinement.proofs.Bounds.{AreBounded, ReadyThreads}
use Rattle.um_refinement.proofs.CallsProper.{AreProper}
use Rattle.um_refinement.proofs.ChildrenKnown.{children-known}
use Rattle.um_refinement.proofs.DomainsKnown.{started-placed}
use Rattle.um_refinement.proofs.Erased.{IsReachable, fine}
use Rattle.um_refinement.proofs.ErasedRuns.{no-boots, no-steps, none-or-some}
use Rattle.um_refinement.proofs.FirstObjects.{opening-image}
use Rattle.um_refinement.proofs.FirstThreads.{one-most}
use Rattle.um_refinement.proofs.MemoryPart.{InDomains}
use Rattle.um_refinement.proofs.Reachable.{IsSound, reachable-sound}
use Rattle.um_refinement.proofs.RoomKnown.{events-stand, has-room}
use Rattle.um_refinement.proofs.Stuck.{HasRoom}
use Rattle.um_refinement.proofs.StuckComplete.{none-due, none-next, none-ready}
use Rattle.um_refinement.proofs.StuckEvents.{AreOrderly, EventsStand, IsHeldMove, guarded}
use Rattle.um_refinement.proofs.StuckLists.{Waits, only, read-waits, write-waits}
use Rattle.um_refinement.proofs.SuitsKnown.{kept-known, proper-known, tells-known}
use Rattle.um_refinement.proofs.Totals.{total-most}

held-move : (f : Fine) (k : ℕ) (q : Pending) (rest : Steps) (todo : Todos) → (f.processors k).todo ≡ Todo.show q rest ∷ todo → IsHeldMove f k q → WaitsFor f k
held-move f k (Pending.DomMove d who) rest todo at held = WaitsFor.held_thread d who rest todo at held.1
held-move f k q rest todo at held = absurd held

module _ (f : Fine) (m : State) (rel : Rel f m) (proper : AreProper m.image m) (all : InDomains f m) (sound : IsSound m) (room : HasRoom f) (events : EventsStand f) (orderly : AreOrderly m) (threads : ReadyThreads f)
    (few : f.cpus ≤ 8) (k : ℕ) (halted : IsHalted f k) where
  few-run : (scheduler f).running < 255
  few-run =
      let most = total-most (λ j. one_if (runs (f.processors j))) f.cpus (λ j l. one-most (runs (f.processors j))) in
      let same = rel.running.running in
      omega (arith, few, most, same)

  by-list : (todo : Todos) → (f.processors k).todo ≡ todo → Waits todo → WaitsFor f k
  by-list [] at w = WaitsFor.ready_thread at (none-ready f m rel room threads k halted at few-run) (none-due f m rel room threads k halted at) (none-next f m rel room threads k halted at)
  by-list (Todo.show q rest ∷ todo) at w = held-move f k q rest todo at (guarded f m rel proper all sound room events orderly k q rest todo halted at)
  by-list (Todo.read_claim which ∷ todo) at w = WaitsFor.writer which todo at (read-waits f m rel proper all sound room events orderly k which todo halted at).1
  by-list (Todo.write_claim d ∷ todo) at w = WaitsFor.readers d todo at (write-waits f m rel proper all sound room events orderly k d todo halted at).1
  by-list todo at w = absurd w

  waits : WaitsFor f k
  waits = by-list (f.processors k).todo refl (only f m rel proper all sound room events orderly k (f.processors k).todo halted refl)

waits-there : (image : Image) (cpus : ℕ) → IsDescribed image → IsKnown (core_of (opening image)) → CanRun image cpus → (ps : ℕ → Processor) (ss : Site → SiteState) (m : State)
    → let f = fine image cpus ps ss in Rel f m → IsReachable image cpus m → AreBounded f → CanCount f → (k : ℕ) → IsHalted f k → WaitsFor f k
waits-there image cpus described known can ps ss m rel reach bounds counts k halted =
    let f = fine image cpus ps ss in
    let proper = proper-known image cpus described known m reach in
    let sound = reachable-sound image cpus described.few m reach known in
    let room = has-room f m rel proper sound bounds (tells-known image cpus described known m reach) (children-known image cpus m reach) can counts in
    waits f m rel proper (λ t l started. started-placed image cpus described m reach t started) sound room (events-stand f m rel proper sound bounds) (λ t. ((kept-known image cpus described known m reach).orderly t).steps) bounds.ready can.few k halted

pub waits-for : (image : Image) (cpus : ℕ) → IsDescribed image → CanRun image cpus → (h : List FineStep) → IsFineRun image cpus h
    → CanCount (left_by image cpus h) → (k : ℕ) → IsHalted (left_by image cpus h) k → WaitsFor (left_by image cpus h) k
waits-for image cpus described can = by (none-or-some (length image.objects))
  where
    by : (length image.objects ≡ 0) ⊎ (0 < length image.objects) → (h : List FineStep) → IsFineRun image cpus h → CanCount (left_by image cpus h)
        → (k : ℕ) → IsHalted (left_by image cpus h) k → WaitsFor (left_by image cpus h) k
    by (inl none) [] run counts k halted =
        let boots = ap (λ (i : Image). i.boots) (opening-image image) ∙ no-boots image image.boots described.lawful.boots none in
        WaitsFor.ready_thread refl (ap (λ (bs : List Boot). map (boot_index (opening image)) bs) boots) refl refl
    by (inl none) (e ∷ h) run counts k halted = absurd (no-steps image cpus described none e h run)
    by (inr some) h run counts k halted =
        let known = (is_opening image (is_sited image described.lawful described.few some) described.lawful).known in
        let r = bounded-runs image cpus described known h run in
        waits-there image cpus described known can _ _ r.0 r.2 (shown h, r.1) r.3 counts k halted
