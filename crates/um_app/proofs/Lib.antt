-- What the top call's contracts need. CommandLemmas and InputLemmas: what a command answers, and which inputs aren't refused. Ends: a source
-- that was read to its end. RunsOf: a run is that of the image with its options.
-- OneProcessor: what is known of a threads' run on one processor. OneAnswer: the law that a command writes one text for an input.
mod CommandLemmas
mod Ends
mod InputLemmas
mod RunsOf
mod OneProcessor
mod OneAnswer
