-- What the top call's contracts need. AnswerLemmas: which statuses stand for an answer. InputLemmas: which inputs aren't refused. Ends: a
-- source that was read to its end.
mod AnswerLemmas
mod InputLemmas
mod Ends
