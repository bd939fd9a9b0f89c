-- The event of a load.
use Rattle.std.proofs.Common.{◌≡◌, ℕ, Bool, true, false, List, Some, refl, sym, subst, ap, ◌∙◌}
use Rattle.std.specs.Prelude.{nat_le, if◌then◌else◌}
use Rattle.um_base.specs.declared.act.Act.{Act}
use Rattle.um_base.specs.declared.image.Image.{Image}
use Rattle.um_base.specs.declared.names.Access.{Access}
use Rattle.um_base.specs.declared.names.Addr.{Addr}
use Rattle.um_base.specs.declared.names.ThreadIx.{ThreadIx}
use Rattle.um_machine.specs.declared.pending.Pending.{Pending}
use Rattle.um_machine.specs.Order.{to_thread}
use Rattle.um_words.specs.declared.fine.More.{More}
use Rattle.um_fine.specs.Answers.{act_in, value_in}
use Rattle.um_fine.specs.Asks.{allows}
use Rattle.um_fine.specs.Continues.{gone_part}
use Rattle.um_fine.specs.Memory.{Bytes}
use Rattle.um_fine.specs.Processor.{Processor}
use Rattle.um_fine.specs.Steps.{FineStep}
use Rattle.um_tables.specs.declared.memory_act.MemoryAct.{MemoryAct}
use Rattle.um_processor.specs.declared.phase.Phase.{Phase}
use Rattle.um_processor.specs.declared.running.Running.{Running}
use Rattle.um_processor.specs.Accesses.{loaded}
use Rattle.um_tables.specs.Asked.{shown}
use Rattle.um_processor.specs.Events.{about_to, behind_event, rest_of}
use Rattle.um_tables.specs.MemoryActs.{memory_made}
use Rattle.um_processor.specs.Processors.{Goes, in_phase}

module _ (image : Image) (cpu k : ℕ) (m : Bytes) (r : Running) (phase : Phase) (t to n : ℕ) (a : Addr) (buffer : List ℕ) where
  -- what is asked for, whether it is allowed or not
  abbrev pub load_or_fault : Bool → MemoryAct
  load_or_fault b = if b then MemoryAct.Load (to_thread t) a n else MemoryAct.Fault (to_thread t) Access.Read a n

  abbrev made : Bool → FineStep
  made b = memory_made image cpu k m (load_or_fault b) buffer

  -- the processor after it, with the number that was loaded
  abbrev pub behind : Bool → ℕ → Processor
  behind b value = behind_event image phase (gone_part image (rest_of r) (loaded b to value) r.context.value) r

  abbrev me : ThreadIx
  me = to_thread r.context.value.thread

  abbrev says : Bool → FineStep → Act
  says b e = if b then Act.Load a n (value_in (act_in e.act)) else Act.Fault Access.Read a n

  -- what it says is what the processor says
  makes-by : (b : Bool) (e : FineStep) → t ≡ r.context.value.thread → b ≡ allows image (in_phase Phase.Park r) Access.Read a.0 n
      → record e { act = shown me (says (allows image (in_phase Phase.Park r) Access.Read a.0 n) e) More.Nothing }
      ≡ record e { act = shown (to_thread t) (says b e) More.Nothing }
  makes-by b e et eb = λ i. record e { act = shown (to_thread (sym et i)) (says (sym eb i) e) More.Nothing }

  load-made : (b : Bool) → t ≡ r.context.value.thread → nat_le n 4 ≡ true → b ≡ allows image (in_phase Phase.Park r) Access.Read a.0 n
      → Goes cpu image (about_to phase (Pending.Load to a n) r) (made b) (behind b (value_in (act_in (made b).act)))
  load-made true et en eb =
      record { asks = record { maker = refl; makes = makes-by true (made true) et eb; fit = en }; next = ap (λ (k : ℕ). record (behind true (value_in (act_in (made true).act))) { actor = Some k }) (sym et) }
  load-made false et en eb =
      record { asks = record { maker = refl; makes = makes-by false (made false) et eb; fit = en }; next = ap (λ (k : ℕ). record (behind false (value_in (act_in (made false).act))) { actor = Some k }) (sym et) }

  pub load-goes : (b : Bool) (act : MemoryAct) (value : ℕ) (z : Processor) → t ≡ r.context.value.thread → nat_le n 4 ≡ true
      → b ≡ allows image (in_phase Phase.Park r) Access.Read a.0 n → act ≡ load_or_fault b
      → value ≡ value_in (act_in (memory_made image cpu k m act buffer).act) → z ≡ behind b value
      → Goes cpu image (about_to phase (Pending.Load to a n) r) (memory_made image cpu k m act buffer) z
  load-goes b act value z et en eb ea ev ez =
      let at = λ (x : MemoryAct). memory_made image cpu k m x buffer in
      subst (λ (x : MemoryAct). Goes cpu image (about_to phase (Pending.Load to a n) r) (at x) z) (sym ea)
      (record {
        asks = (load-made b et en eb).asks;
        next = ez ∙ (ap (behind b) (ev ∙ ap (λ (x : MemoryAct). value_in (act_in (at x).act)) ea) ∙ (load-made b et en eb).next);
      })
