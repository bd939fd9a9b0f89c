-- Events by which a row may come to cleaning.
use Rattle.std.proofs.Common.{◌≡◌, ℕ, Bool, Some, ap, refl, sym, subst, ◌∙◌}
use Rattle.um_base.specs.declared.image.Image.{Image}
use Rattle.um_base.specs.declared.names.Addr.{Addr}
use Rattle.um_base.specs.declared.names.ThreadIx.{ThreadIx}
use Rattle.um_machine.specs.declared.pending.Pending.{Pending}
use Rattle.um_machine.specs.Order.{to_thread}
use Rattle.um_words.specs.declared.row_word.RowWord.{RowWord}
use Rattle.um_fine.specs.Addresses.{row_named}
use Rattle.um_fine.specs.Asks.{begins_cleaning}
use Rattle.um_fine.specs.Continues.{goes_on}
use Rattle.um_fine.specs.Processor.{Processor}
use Rattle.um_processor.specs.declared.phase.Phase.{Phase}
use Rattle.um_words.specs.declared.row_act.RowAct.{RowAct}
use Rattle.um_processor.specs.declared.running.Running.{Running}
use Rattle.um_processor.specs.Events.{about_to, behind_event, rest_of}
use Rattle.um_processor.specs.Processors.{Goes, cleaned}
use Rattle.um_processor.specs.Wants.{Wants}
use Rattle.um_tables.specs.RowActs.{row_made}
use Rattle.um_processor.proofs.Visited.{cleaned-is}

module _ (image : Image) (cpu : ℕ) (r : Running) (phase : Phase) (who : ThreadIx) (a : Addr) (w : RowWord) where
  -- the processor after the event, but for a row that came to cleaning
  abbrev pub behind_drop : Processor
  behind_drop = behind_event image phase (goes_on image r.context.value (rest_of r)) r

  pub taken-goes : (t x : ℕ) (cleans : Bool) (z : Processor) → t ≡ r.context.value.thread → x ≡ row_named image a
      → let e = row_made image cpu x w (RowAct.DropPair (to_thread t) who a) in cleans ≡ begins_cleaning e → z ≡ behind_drop
      → Goes cpu image (about_to phase (Pending.DropPair who a) r) e (cleaned image (row_named image a) cleans z)
  taken-goes t x cleans z et ex ec ez =
      let e = row_made image cpu x w (RowAct.DropPair (to_thread t) who a) in
      record {
        asks =
            subst (λ (q : ℕ × ℕ). Wants cpu image (about_to phase (Pending.DropPair who a) r) (row_made image cpu q.0 w (RowAct.DropPair (to_thread q.1) who a)))
            (λ i. (sym ex i, sym et i))
            (record { maker = refl; makes = refl; fit = refl });
        next = (λ i. cleaned image (sym ex i) (ec i) ((ez ∙ ap (λ (k : ℕ). record behind_drop { actor = Some k }) (sym et)) i)) ∙ cleaned-is image x e (record behind_drop { actor = r.actor }) (begins_cleaning e) refl;
      }
