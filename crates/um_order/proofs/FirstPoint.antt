-- At the opening the scheduler's ready list is that of the opening point.
use Rattle.std.proofs.Common.{◌≡◌, ℕ, ◌<◌, ◌≤◌, true, List, [], ◌∷◌, ◌++◌, map, Some, sym, ap, ◌∙◌, subst, arith, append-nil, append_assoc}
use Rattle.std.specs.Prelude.{if◌then◌else◌}
use Rattle.std.specs.List.{list_all}
use Rattle.std.proofs.lemmas.Bool.{and_parts, lt-ltb}
use Rattle.um_base.specs.declared.image.Boot.{Boot}
use Rattle.um_base.specs.declared.image.Image.{Image}
use Rattle.um_base.specs.declared.limits.TheConstants.{THREADS}
use Rattle.um_base.specs.Lawful.{is_lawful_boot}
use Rattle.um_base.specs.Places.{thread_of_row}
use Rattle.um_machine.specs.Run.{opening}
use Rattle.um_invariants.specs.Described.{IsDescribed}
use Rattle.um_invariants.specs.Lines.{joins}
use Rattle.um_invariants.specs.Ready.{boots_ready, joins_some}
use Rattle.um_invariants.proofs.ThreadStarts.{real-below}
use Rattle.um_fine.specs.Opening.{boot_index, s_start}
use Rattle.um_fine.specs.Steps.{Site}
use Rattle.um_refinement.specs.Fine.{scheduler_state}
use Rattle.um_refinement.specs.Threads.{occurs}
use Rattle.um_refinement.proofs.FirstLawful.{boot-is, opens-described}
use Rattle.um_refinement.proofs.FirstObjects.{opening-image}
use Rattle.um_refinement.proofs.FirstReady.{entry}
use Rattle.um_order.proofs.ReadyLines.{joins-new, occurs-append, occurs-first}
use Rattle.um_refinement.proofs.FirstThreads.{one-most}

module _ (image : Image) (described : IsDescribed image) where
  entry-below : (boot : Boot) → is_lawful_boot image boot ≡ true → entry image boot < THREADS
  entry-below boot h = real-below image described.lawful (entry image boot) (boot-is image described boot h).real

  entry-is : (boot : Boot) → is_lawful_boot image boot ≡ true → thread_of_row image boot.thread.0 ≡ Some (entry image boot)
  entry-is boot h = let b = boot-is image described boot h in subst (λ x. thread_of_row image x ≡ Some (entry image boot)) b.own b.real.1

  joins-entry : (line : List ℕ) (boot : Boot) → is_lawful_boot image boot ≡ true → joins_some line (thread_of_row image boot.thread.0) ≡ joins line (entry image boot)
  joins-entry line boot h =
      ap (joins_some line) (entry-is boot h)
      ∙ ap (λ b. if b then joins line (entry image boot) else line) (lt-ltb (entry image boot) THREADS (entry-below boot h))

  all-ready : (line : List ℕ) (boots : List Boot) → list_all (is_lawful_boot image) boots ≡ true → ((t : ℕ) → t < THREADS → occurs t (line ++ map (entry image) boots) ≤ 1)
      → boots_ready image line boots ≡ line ++ map (entry image) boots
  all-ready line [] h once = sym (append-nil line)
  all-ready line (boot ∷ boots) h once =
      let here = (and_parts _ _ h).0 in
      let t = entry image boot in
      let rest = map (entry image) boots in
      let most = once t (entry-below boot here) in
      let whole = occurs-append t line (t ∷ rest) in
      let first = occurs-first t rest in
      let new = joins-entry line boot here ∙ joins-new line t (omega (arith, most, whole, first)) in
      ap (λ l. boots_ready image l boots) new
      ∙ (all-ready (line ++ t ∷ []) boots (and_parts _ _ h).1 (λ u l. subst (λ z. occurs u z ≤ 1) (sym (append_assoc line (t ∷ []) rest)) (once u l))
      ∙ append_assoc line (t ∷ []) rest)

  entries : map (boot_index (opening image)) (opening image).image.boots ≡ map (entry image) image.boots
  entries = ap (λ (i : Image). map (entry i) i.boots) (opening-image image)

  pub ready-first : boots_ready image [] image.boots ≡ (scheduler_state (s_start image Site.scheduler)).ready
  ready-first =
      all-ready [] image.boots described.lawful.boots
      (λ t l. subst (λ z. occurs t z ≤ 1) entries
      (let ready = ((opens-described image described 1).threads t l).ready.ready in let most = one-most _ in subst (λ n. n ≤ 1) (sym ready) most))
      ∙ sym entries
