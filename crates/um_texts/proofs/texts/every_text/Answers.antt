use Rattle.um_texts.proofs.RunLemmas.{texts_differ}
use Rattle.um_texts.proofs.texts.every_text.Goals as goal

pub returns : goal.returns
returns c = record { names = λ image lawful few events others last other run run2 same. texts_differ image lawful few events others last other run run2 same }
