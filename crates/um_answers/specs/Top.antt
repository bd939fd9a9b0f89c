-- What the top call writes, and with which status it ends.
use Rattle.std.specs.Prelude.{◌≡◌, ℕ, ◌⊎◌, List, Option}
use Rattle.std.specs.Io.KnownBytes.{Appends}
use Rattle.um_base.specs.declared.image.Image.{Image}
use Rattle.um_explore.specs.Ends.{AreEnds, Ending, endings_text}
use Rattle.um_explore.specs.Questions.{IsFound, IsNever, IsNextOf}
use Rattle.um_explore.specs.declared.next.Next.{Next}
use Rattle.um_io.specs.Bytes.{AppendsFront}
use Rattle.um_io.specs.Causes.{Rose}
use Rattle.um_question.specs.Asked.{is_met}
use Rattle.um_question.specs.Text.{IsAsked}
use Rattle.um_question.specs.declared.asking.Asking.{Asking}
use Rattle.um_question.specs.declared.question.Question.{Question}
use Rattle.um_answers.specs.Inputs.{IsOf, ReadsAll}
use Rattle.um_answers.specs.Told.{never_text, next_text, unknown_text}
use Rattle.um_answers.specs.declared.command.Command.{Command}
use Rattle.um_answers.specs.declared.status.Status.{Status}

-- What answers a question: the text of a complete run that comes to it, by as few events as any; that no run does; or that it isn't known.
abbrev pub Finds : Image → Question → Status → List ℕ → Type 0
Finds image question Status.Done written = IsFound image (is_met image question) written
Finds image question Status.Never written = IsNever image (is_met image question) × ((states : ℕ) × (written ≡ never_text states))
Finds image question Status.Unknown written = (states : ℕ) × (unseen : ℕ) × (written ≡ unknown_text states unseen)
Finds image question _ written = ⊥

-- What is told of the ways in which runs end: all of them, each with a run that leads there; or that they aren't known.
abbrev pub TellsEnds : Image → Status → List ℕ → Type 0
TellsEnds image Status.Done written = (endings : List Ending) × AreEnds image endings × (written ≡ endings_text image 0 endings)
TellsEnds image Status.Unknown written = (states : ℕ) × (unseen : ℕ) × (written ≡ unknown_text states unseen)
TellsEnds image _ written = ⊥

-- The bytes tell what can come next in a trace.
pub record TellsNext (image : Image) (trace : List ℕ) (status : Status) (written : List ℕ) : Type 0 where
  pub next : Next
  pub is_next : IsNextOf image trace next
  pub told : written ≡ next_text next
  pub done : status ≡ Status.Done

-- what is asked is a question of the image
abbrev pub Asks : Image → List ℕ → Question → Type 0
Asks image event question = IsAsked image event (Asking.Is question)

-- what is asked of an image is known in it: for `find`, whose word is a question
abbrev pub IsAskable : Command → List ℕ → Image → Type 0
IsAskable (Command.Find states) event image = (question : Question) × Asks image event question
IsAskable _ event image = Unit {0}

-- what a command writes of the image that it reads, and of the trace after it, and its status
abbrev pub Writes : Command → List ℕ → Image → List ℕ → Status → List ℕ → Type 0
Writes (Command.Find states) event image trace status written = (question : Question) × Asks image event question × Finds image question status written
Writes (Command.Ends states) event image trace status written = TellsEnds image status written
Writes Command.Next event image trace status written = TellsNext image trace status written

-- The input describes an image, for which the command writes these bytes and ends with this status.
pub record IsOutput (command : Command) (event input : List ℕ) (status : Status) (written : List ℕ) : Type 0 where
  pub image : Image
  pub trace : List ℕ
  pub is_of : IsOf command input image trace
  pub writes : Writes command event image trace status written

-- The source was read to its end, and for what it gave the command writes these bytes and ends with this status.
pub record Answers (command : Command) (event : List ℕ) (before now : Option (List ℕ)) (status : Status) (written : List ℕ) : Type 0 where
  pub input : List ℕ
  pub read : ReadsAll command before now input
  pub output : IsOutput command event input status written

-- A line was written whole, or a prefix of it if the sink failed.
abbrev pub Tells : Option (List ℕ) → Option (List ℕ) → ℕ → ℕ → List ℕ → Type 0
Tells before now faults_before faults_now line = Appends before now line ⊎ (Rose faults_before faults_now × AppendsFront before now line)
