-- What a call tells. Where the word forbids the step, nothing is recorded, and the word that stood there is told.
use Rattle.std.specs.Prelude.{◌≡◌, ℕ, Bool, true, false, List, Result, MatchResult}
use Rattle.um_base.specs.declared.image.Image.{Image}
use Rattle.um_words.specs.declared.fine.FineAct.{FineAct}
use Rattle.um_words.specs.declared.made.Made.{Made}
use Rattle.um_site.specs.declared.board.Changed.{Changed}
use Rattle.um_site.specs.declared.seat.Seat.{Seat}
use Rattle.um_site.specs.declared.view.View.{View}
use Rattle.um_site.specs.Calls.{Recorded, Missed, Stood}
use Rattle.um_thread.specs.declared.outcome.Outcome.{Outcome}

module _ {W : Type 0} (goes : Image → List ℕ → List Made → Made → Type 0) (v : View) (site seen : ℕ) (forbids : Bool) (act : FineAct) (says : W) where
  -- the act was recorded on what the word says, or the word that forbids it still stood there
  abbrev pub Became : Outcome W → View → Type 0
  Became (Outcome.Recorded before) w = (forbids ≡ false) × (before ≡ says) × Recorded goes v site seen act w
  Became (Outcome.Forbidden word) w = (forbids ≡ true) × (word ≡ seen) × Stood goes v site seen w

module _ {T W : Type 0} (goes : Image → List ℕ → List Made → Made → Type 0) (s : Seat T) (site seen : ℕ) (forbids : Bool) (act : FineAct) (says : W) where
  -- the answer is as the word that was handed in has it, or another word stood there
  abbrev pub Tells : Result (Outcome W) Changed → Seat T → Type 0
  Tells r t = MatchResult r (λ outcome. Became goes s.token.me.0 site seen forbids act says outcome t.token.me.0) (λ e. Missed goes s.token.me.0 site seen e.seen t.token.me.0)
