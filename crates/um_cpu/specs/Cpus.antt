-- What a processor on a board has made, and what its turns add to that.
use Rattle.std.specs.Prelude.{◌≡◌, ◌≢◌, ℕ, ◌<◌, ◌≤◌, ◌⊎◌, true, List, [], ◌∷◌, ◌++◌, length, map}
use Rattle.um_base.specs.declared.image.Image.{Image}
use Rattle.um_words.specs.History.{bare}
use Rattle.um_words.specs.Packed.{cell_of}
use Rattle.um_fine.specs.Answers.{is_due_act, is_tick}
use Rattle.um_fine.specs.Asks.{next_site}
use Rattle.um_fine.specs.Follows.{p_next}
use Rattle.um_fine.specs.Processor.{Processor, idle}
use Rattle.um_fine.specs.Runs.{ends}
use Rattle.um_fine.specs.Sites.{site_number, word_of}
use Rattle.um_fine.specs.Steps.{FineStep, Site}
use Rattle.um_merge.specs.declared.logged.Logged.{Logged}
use Rattle.um_words.specs.declared.fine.FineAct.{FineAct}
use Rattle.um_processor.specs.Processors.{Goes}
use Rattle.um_processor.specs.Wants.{Wants}
use Rattle.um_refinement.specs.Choice.{AreChosen}
use Rattle.um_site.specs.Tells.{NoOlder}
use Rattle.um_site.specs.declared.seat.Seat.{Seat}
use Rattle.um_board.specs.Contents.{Known}
use Rattle.um_board.specs.NextSteps.{seat_name}
use Rattle.um_board.specs.Noted.{packed}
use Rattle.um_board.specs.Opening.{AreOpening}
use Rattle.um_board.specs.ReadBack.{fine_at}
use Rattle.um_board.specs.Saw.{OthersAt, WasGot}
use Rattle.um_board.specs.Seated.{KeepsPlace, Noted, Unnoted}
use Rattle.um_history.specs.Fine.{IsAlone, Stood, WasRefused, left_at}
use Rattle.um_history.specs.Played.{Each, Played, SCHEDULER, SawQuiet}
use Rattle.um_cpu.specs.declared.turn.Turn.{Turn}

-- the word that the step left was got at its site
abbrev pub IsLeft : Seat Known → FineStep → Type 0
IsLeft seat e = WasGot seat.token.me.0.got (site_number e.site) (packed e.word)

-- The processor k has made these steps at its seat, and stands where they lead. If its seat is alone, each step was chosen.
pub record HasMade (image : Image) (k : ℕ) (p : Processor) (seat : Seat Known) (log : List Logged) (steps : List FineStep) : Type 0 where
  pub played : Played image k seat.token.me.0.made log steps
  pub stands : p ≡ ends (p_next image) idle steps
  pub known : Each (IsLeft seat) steps
  pub chosen : IsAlone seat → AreChosen image 1 steps

-- The processor k, which is one of eight, has made some steps at the seat of its name, on a board that opened as the image's does.
pub record Stands (image : Image) (k : ℕ) (p : Processor) (seat : Seat Known) (log : List Logged) : Type 0 where
  pub few : k < 8
  pub named : seat.token.me.0.name ≡ seat_name k
  pub opening : AreOpening image seat.token.me.0.opening
  pub steps : List FineStep
  pub made : HasMade image k p seat log steps

-- it has made one more step at most
pub record GoesOn (image : Image) (k : ℕ) (p : Processor) (seat : Seat Known) (log : List Logged) (steps : List FineStep) : Type 0 where
  pub more : List FineStep
  pub few : length more ≤ 1
  pub made : HasMade image k p seat log (steps ++ more)

-- whatever it has made before, it goes on from there
abbrev pub Advances : Image → ℕ → Processor → Seat Known → List Logged → Processor → Seat Known → List Logged → Type 0
Advances image k p s old q t new = (steps : List FineStep) → HasMade image k p s old steps → GoesOn image k q t new steps

-- whatever it has made before, it has made some steps now
abbrev pub Reaches : Image → ℕ → Processor → Seat Known → List Logged → Processor → Seat Known → List Logged → Type 0
Reaches image k p s old q t new = (steps : List FineStep) → HasMade image k p s old steps → (all : List FineStep) × HasMade image k q t new all

-- the same, and after the last one it saw that no thread is ready or runs, and that no mark is owed
abbrev pub Plays : Image → ℕ → Processor → Seat Known → List Logged → Processor → Seat Known → List Logged → Type 0
Plays image k p s old q t new = (steps : List FineStep) → HasMade image k p s old steps → (all : List FineStep) × HasMade image k q t new all × SawQuiet t.token.me.0.got all

-- by this word of the scheduler no thread runs, and nothing is owed
abbrev pub NoneLeft : ℕ → Type 0
NoneLeft word = ((cell_of word).running ≡ 0) × ((cell_of word).owed ≡ 0)

-- Why a processor without a thread doesn't let time go on: the clock refused it a mark; and by this word of the scheduler a thread runs, or the
-- clock refused it the next tick too.
pub data LetsStand (image : Image) (k : ℕ) (p : Processor) (s t : Seat Known) (word : ℕ) : Type 0 where
  runs : (e : FineStep) → is_due_act e.act ≡ true → Wants k image p e → WasRefused image k s t e → 0 < (cell_of word).running → LetsStand image k p s t word
  waits : (mid : Seat Known) (e : FineStep) → is_due_act e.act ≡ true → Wants k image p e → WasRefused image k s mid e → (cell_of word).running ≡ 0
      → (d : FineStep) → is_tick d.act ≡ true → Wants k image p d → WasRefused image k mid t d → LetsStand image k p s t word

-- The processor has no thread, and its seat read a word of the scheduler by which none is ready. It made no step, though where marks are owed
-- it asked the clock for one. When it looked there was one fine run with the steps that it had made, and that run had left the word.
pub record Rests (image : Image) (k : ℕ) (p q : Processor) (s : Seat Known) (old : List Logged) (t : Seat Known) (new : List Logged) (word : ℕ) : Type 0 where
  pub idle : p.todo ≡ []
  pub same : q ≡ p
  pub keeps : KeepsPlace s t
  pub made : t.token.me.0.made ≡ s.token.me.0.made
  pub log : new ≡ old
  pub got : (looked : List (ℕ × ℕ)) × (t.token.me.0.got ≡ looked ++ (SCHEDULER, word) ∷ s.token.me.0.got)
  pub newest : NoOlder s.token.me.0.got SCHEDULER word
  pub none : (cell_of word).ready ≡ 0
  pub run : List FineStep
  pub stood : Stood image k (map (fine_at k) s.token.me.0.made) run
  pub left : packed (word_of (left_at image run Site.scheduler)) ≡ bare SCHEDULER word
  pub time : 0 < (cell_of word).owed → (seen : Seat Known) × Unnoted s old seen old × LetsStand image k p seen t word

-- What came of asking once for the next step. The step was made; or its site refused it, in the state in which the fine run of some moment
-- of the call had left it; or others were at the site: another seat had its turn, or its word changed.
pub data HasAsked (image : Image) (k : ℕ) (p q : Processor) (s : Seat Known) (old : List Logged) (t : Seat Known) (new : List Logged) : Type 0 where
  made : (e : FineStep) → Noted s old e t new → Goes k image p e q → HasAsked image k p q s old t new
  refused : (e : FineStep) → Unnoted s old t new → q ≡ p → Wants k image p e → WasRefused image k s t e → HasAsked image k p q s old t new
  others : (act : FineAct) → Unnoted s old t new → q ≡ p → OthersAt s t (site_number (next_site image p act)) → HasAsked image k p q s old t new

-- The seat has looked at the scheduler's word, by which a thread is ready, and has done nothing else.
pub record SawReady (s t : Seat Known) : Type 0 where
  pub word : ℕ
  pub got : t.token.me.0.got ≡ (SCHEDULER, word) ∷ s.token.me.0.got
  pub newest : NoOlder s.token.me.0.got SCHEDULER word
  pub ready : 0 < (cell_of word).ready

-- The seat has looked at the scheduler's word, by which no thread is ready and marks are owed, and has done nothing else.
pub record SawOwed (s t : Seat Known) : Type 0 where
  pub word : ℕ
  pub got : t.token.me.0.got ≡ (SCHEDULER, word) ∷ s.token.me.0.got
  pub newest : NoOlder s.token.me.0.got SCHEDULER word
  pub none : (cell_of word).ready ≡ 0
  pub owed : 0 < (cell_of word).owed

-- What came of tending to time: of asking for a mark that is due, or, where the clock refused that, of asking for the next tick.
pub data HasTended (image : Image) (k : ℕ) (p q : Processor) (s : Seat Known) (old : List Logged) (t : Seat Known) (new : List Logged) : Type 0 where
  gave : HasAsked image k p q s old t new → HasTended image k p q s old t new
  ticked : (mid : Seat Known) → HasAsked image k p p s old mid old → HasAsked image k p q mid old t new → HasTended image k p q s old t new

-- The processor had a step to go on with, and asked for it; or its seat saw first that a thread is ready, and then it asked for one; or it saw
-- that none is ready and marks are owed, and tended to time.
abbrev pub HadWork : Image → ℕ → Processor → Processor → Seat Known → List Logged → Seat Known → List Logged → Type 0
HadWork image k p q s old t new =
    ((p.todo ≢ []) × HasAsked image k p q s old t new)
    ⊎ ((seen : Seat Known) × Unnoted s old seen old × SawReady s seen × HasAsked image k p q seen old t new)
    ⊎ ((seen : Seat Known) × Unnoted s old seen old × SawOwed s seen × HasTended image k p q seen old t new)

-- what a turn tells: that there was something to do, for which it asked, or that there was nothing by this word of the scheduler
abbrev pub Tells : Turn → Type 0 → (ℕ → Type 0) → Type 0
Tells Turn.Did worked rests = worked
Tells (Turn.Idle word) worked rests = rests word × ¬ NoneLeft word
Tells (Turn.Quiet word) worked rests = rests word × NoneLeft word
