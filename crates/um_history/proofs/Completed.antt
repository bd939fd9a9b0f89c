-- Where each processor saw after its last step that no thread is ready or runs, and that no mark is owed, none can make another step: every fine run of
-- their steps is over, and what any list in the order of the logs shows is a complete run.
use Rattle.std.proofs.Common.{◌≡◌, ℕ, ◌<◌, ◌≤◌, eqb, List, length, map, sym, ap, ◌∙◌, subst, arith}
use Rattle.std.specs.Prelude.{Option}
use Rattle.um_base.specs.Weight.{weight}
use Rattle.um_base.specs.declared.image.Image.{Image}
use Rattle.um_invariants.specs.Described.{IsDescribed}
use Rattle.um_fine.specs.Erasure.{shown}
use Rattle.um_fine.specs.FineRun.{IsFineRun}
use Rattle.um_fine.specs.Runs.{sublist}
use Rattle.um_fine.specs.Steps.{FineStep}
use Rattle.um_merge.specs.Merged as Merged
use Rattle.um_merge.specs.Logs.{Log, events_of}
use Rattle.um_merge.specs.Merged.{HaveOrder, IsOrder}
use Rattle.um_merge.specs.declared.logged.Logged.{Logged}
use Rattle.um_site.specs.declared.view.View.{View}
use Rattle.um_refinement.specs.After.{left_by}
use Rattle.um_refinement.specs.Choice.{IsQuiet}
use Rattle.um_refinement.specs.Room.{CanCount, CanRun, IsStuck}
use Rattle.um_refinement.specs.Shows.{AreCompleteRun, AreRun}
use Rattle.um_core.proofs.Counts.{can-count}
use Rattle.um_board.specs.Contents.{Known}
use Rattle.um_board.specs.Noted.{logged_of}
use Rattle.um_history.specs.Fine.{IsFineOf}
use Rattle.um_history.specs.Left.{AreLeft}
use Rattle.um_history.specs.Played.{IsPlayed, SawQuiet}
use Rattle.um_history.proofs.Fine.{is-fine-of}
use Rattle.um_history.proofs.Left.{left-in-order}
use Rattle.um_history.proofs.Moments.{all}
use Rattle.um_history.proofs.Played.{history, of-played, own-steps}
use Rattle.um_history.proofs.Granted.{granted}
use Rattle.um_history.proofs.QuietEnd.{quiet-end}
use Rattle.um_history.proofs.OpeningRuns.{OpensWell}
use Rattle.um_history.proofs.Ordered.{fine-of-same, is-order, lifted, noted-long, shown-noted}

-- every fine run of the steps of processors that saw this is over
pub over : (image : Image) (cpus : ℕ) (v : View) (words : List ℕ) (slots : List (Option Known)) (logs : List Log) (steps : ℕ → List FineStep) → IsDescribed image → CanRun image cpus
    → ((run : List FineStep) → IsFineRun image cpus run → length run ≤ weight image)
    → ((run : List FineStep) → IsFineRun image cpus run → IsQuiet (left_by image cpus run) → IsStuck (left_by image cpus run))
    → IsPlayed image cpus v words slots logs steps → ((k : ℕ) → k < cpus → SawQuiet v.got (steps k)) → (g : List FineStep) → IsFineOf image cpus words steps g → IsStuck (left_by image cpus g)
over image cpus v words slots logs steps described can longest quiet played saw g of =
    let few = longest g of.run in
    let light = described.lawful.light in
    quiet g of.run (quiet-end image cpus v words slots logs steps described can played saw g (omega (arith, few, light)) of)

module _ (image : Image) (cpus : ℕ) (v : View) (words : List ℕ) (slots : List (Option Known)) (logs : List Log) (steps : ℕ → List FineStep) (described : IsDescribed image) (can : CanRun image cpus) (well : OpensWell image)
    (played : IsPlayed image cpus v words slots logs steps) (longest : (run : List FineStep) → IsFineRun image cpus run → length run ≤ weight image) where
  abbrev pub g : List FineStep
  g = all image cpus words (history image cpus v words slots logs steps played) (of-played image cpus v words slots logs steps played)

  pub fine : IsFineOf image cpus words steps g
  fine =
      is-fine-of image cpus words (history image cpus v words slots logs steps played) (of-played image cpus v words slots logs steps played) can.few well (granted image cpus described can) steps
      (own-steps image cpus v words slots logs steps played)

  ordered : IsOrder logs (map logged_of g)
  ordered = is-order image cpus words steps g fine logs played.logs_are (λ k less. (played.lists k less).2.log_is)

  pub have-order : HaveOrder logs (weight image)
  have-order = let few = longest g fine.run in (map logged_of g, ordered, omega (arith, few, noted-long g))

  -- what a list in the order of the logs is noted of
  noted-of : (list : List Logged) → ((order : List Logged) → IsOrder logs order → Merged.SameOrder list order)
      → (h : List FineStep) × (map logged_of h ≡ list) × IsFineOf image cpus words steps h × AreLeft image words slots h
  noted-of list same =
      let order = same (map logged_of g) ordered in
      let (h, is, alike, sited) = lifted g fine.sited list order in
      (h, is, fine-of-same image cpus words steps g h fine alike sited (λ n. ap (sublist eqb Merged.site_of n) is ∙ order.1 n), left-in-order image cpus v words slots logs steps well played h alike)

  -- and what it shows
  pub noted-run : ((run : List FineStep) → IsFineRun image cpus run → AreRun image (shown run)) → (list : List Logged) → ((order : List Logged) → IsOrder logs order → Merged.SameOrder list order)
      → (h : List FineStep) × (map logged_of h ≡ list) × IsFineOf image cpus words steps h × AreRun image (events_of list) × AreLeft image words slots h
  noted-run runs list same =
      let (h, is, of, left) = noted-of list same in
      (h, is, of, subst (AreRun image) (sym (shown-noted h) ∙ ap events_of is) (runs h of.run), left)

  pub complete : ((k : ℕ) → k < cpus → SawQuiet v.got (steps k))
      → ((run : List FineStep) → IsFineRun image cpus run → IsQuiet (left_by image cpus run) → IsStuck (left_by image cpus run))
      → ((run : List FineStep) → IsFineRun image cpus run → IsStuck (left_by image cpus run) → CanCount (left_by image cpus run) → AreCompleteRun image (shown run))
      → (list : List Logged) → ((order : List Logged) → IsOrder logs order → Merged.SameOrder list order) → AreCompleteRun image (events_of list)
  complete saw quiet completes list same =
      let (h, is, of, left) = noted-of list same in
      let few = longest h of.run in
      let light = described.lawful.light in
      let stuck = over image cpus v words slots logs steps described can longest quiet played saw h of in
      let end = completes h of.run stuck (can-count image h (omega (arith, few, light)) cpus) in
      subst (AreCompleteRun image) (sym (shown-noted h) ∙ ap events_of is) end
