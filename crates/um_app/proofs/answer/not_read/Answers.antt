use Rattle.um_app.proofs.answer.not_read.Goals as goal

pub returns-else-is_memory-clause-answered : goal.returns-else-is_memory-clause-answered
returns-else-is_memory-clause-answered c = λ command input trace short traced refuses. c.refused.ensures.answered command input trace short traced (refuses (c.is_memory.ensures.no c.if-is_memory.false))
