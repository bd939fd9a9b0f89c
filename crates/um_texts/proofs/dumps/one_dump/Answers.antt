use Rattle.um_texts.proofs.DumpLemmas.{same_dump, same_summary, same_text}
use Rattle.um_texts.proofs.dumps.one_dump.Goals as goal

pub returns-clause-dumps : goal.returns-clause-dumps
returns-clause-dumps c = λ image s s2 agree. same_dump image s s2 agree

pub returns-clause-texts : goal.returns-clause-texts
returns-clause-texts c = λ image events s s2 agree. same_text image s s2 agree events

pub returns-clause-summaries : goal.returns-clause-summaries
returns-clause-summaries c = λ image events s s2 agree. same_summary image s s2 agree events
