-- Which questions can be asked of a state.
use Rattle.std.specs.Prelude.{◌<◌}
use Rattle.um_base.specs.declared.limits.TheConstants.{ROWS, THREADS}
use Rattle.um_question.specs.declared.asking.Asking.{Asking}
use Rattle.um_question.specs.declared.question.Question.{Question}

-- a question names threads and rows that there can be
abbrev pub IsSoundQuestion : Question → Type 0
IsSoundQuestion (Question.Form form) = Unit {0}
IsSoundQuestion (Question.Accesses thread access range) = thread.0 < THREADS
IsSoundQuestion (Question.Holds thread row) = (thread.0 < THREADS) × (row.0 < ROWS)
IsSoundQuestion (Question.Waits thread row) = (thread.0 < THREADS) × (row.0 < ROWS)
IsSoundQuestion (Question.Fails thread) = thread.0 < THREADS
IsSoundQuestion (Question.Gone row) = row.0 < ROWS
IsSoundQuestion Question.Nothing = Unit {0}

-- so does what a text asks
abbrev pub IsSoundAsking : Asking → Type 0
IsSoundAsking (Asking.Is question) = IsSoundQuestion question
IsSoundAsking (Asking.Unknown word) = Unit {0}
