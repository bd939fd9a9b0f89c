-- What is kept of the threads holds of each state that a run of a described image reaches, whoever makes its steps.
use Rattle.std.proofs.Common.{◌≡◌, Bool, true, false, List, [], ◌∷◌, refl, sym, subst}
use Rattle.std.proofs.lemmas.Bool.{false≢true}
use Rattle.um_base.specs.declared.act.Event.{Event}
use Rattle.um_base.specs.declared.image.Image.{Image}
use Rattle.um_base.specs.Lawful.{IsLawful}
use Rattle.um_machine.specs.declared.pending.Pending.{Pending}
use Rattle.um_machine.specs.Order.{Steps}
use Rattle.um_machine.specs.Run.{MayChoose, Offers, Runs, Step, opening}
use Rattle.um_machine.specs.State.{State}
use Rattle.um_machine.specs.Table.{after}
use Rattle.um_invariants.specs.Described.{IsDescribed}
use Rattle.um_invariants.proofs.Cores.{core_of}
use Rattle.um_invariants.proofs.Reached.{image_move}
use Rattle.um_invariants.proofs.RunMoves.{known_step, step_move}
use Rattle.um_invariants.proofs.Turns.{IsKnown}
use Rattle.um_invariants.proofs.ThreadCleans.{pair-base, recycle-base, tick-base}
use Rattle.um_invariants.proofs.ThreadFrames.{base-kept}
use Rattle.um_invariants.proofs.ThreadOffers.{made, offered}
use Rattle.um_invariants.proofs.ThreadOpens.{opening-kept}
use Rattle.um_invariants.proofs.ThreadWords.{is_beside, AreKept}
use Rattle.um_invariants.proofs.ThreadWorks.{cut-kept, expire-kept, left-kept, timeout-kept}

step-kept : (s : State) (event : Event) (s2 : State) → AreKept s → IsKnown (core_of s) → IsLawful s.image → Step s event s2 → AreKept s2
step-kept s event s2 kept known lawful step = subst AreKept (sym step.leaves) (by step.step step.rest step.offered step.chosen (is_beside step.step) refl)
  where
    by : (p : Pending) (rest : Steps) → Offers s event.thread.0 p rest → MayChoose s event.thread.0 step.row p → (b : Bool) → is_beside p ≡ b → AreKept (after s event.thread.0 step.row p rest)
    by p rest offers chosen false e =
        (made s event.thread.0 step.row p rest kept known lawful e chosen (offered s event.thread.0 step.row kept p rest offers e chosen)).kept
    by (Pending.CleanPair who) rest offers chosen true e = base-kept s _ kept (pair-base s event.thread.0 step.row who rest kept)
    by Pending.Recycle rest offers chosen true e = base-kept s _ kept (recycle-base s event.thread.0 step.row rest kept)
    by Pending.Left rest offers chosen true e = left-kept s event.thread.0 step.row rest kept
    by Pending.Tick rest offers chosen true e = base-kept s _ kept (tick-base s event.thread.0 step.row rest kept)
    by (Pending.TimeOut who) rest offers chosen true e = timeout-kept s event.thread.0 step.row who rest kept chosen
    by Pending.Expire rest offers chosen true e = expire-kept s event.thread.0 step.row rest kept
    by (Pending.Cut who) rest offers chosen true e = cut-kept s event.thread.0 step.row who rest kept chosen
    by p rest offers chosen true e = absurd (false≢true e)

run-kept : (s : State) (events : List Event) (s2 : State) → AreKept s → IsKnown (core_of s) → IsLawful s.image → Runs s events s2 → AreKept s2
run-kept s [] s2 kept known lawful run = subst AreKept (sym run) kept
run-kept s (event ∷ events) s2 kept known lawful (mid, step, rest) =
    let same : mid.image ≡ s.image = image_move (core_of s) event.thread.0 event.act (core_of mid) (step_move s mid event known step) in
    run-kept mid events s2 (step-kept s event mid kept known lawful step) (known_step s mid event known step) (subst IsLawful (sym same) lawful) rest

pub reached-kept : (image : Image) → IsDescribed image → IsKnown (core_of (opening image)) → IsLawful (opening image).image → (events : List Event) (s : State)
    → Runs (opening image) events s → AreKept s
reached-kept image described known lawful events s run = run-kept (opening image) events s (opening-kept image) known lawful run
