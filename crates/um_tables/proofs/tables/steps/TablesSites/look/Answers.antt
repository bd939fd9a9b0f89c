use Rattle.um_tables.proofs.tables.steps.TablesSites.look.Goals as goal

pub returns-in-Object-clause-said : goal.returns-in-Object-clause-said
returns-in-Object-clause-said c = rw c.in-Object.is c.look_at_object.ensures.said

pub returns-in-Memory-clause-said : goal.returns-in-Memory-clause-said
returns-in-Memory-clause-said c = rw c.in-Memory.is c.look_at_memory.ensures.said

pub returns-in-Joins-clause-said : goal.returns-in-Joins-clause-said
returns-in-Joins-clause-said c = rw c.in-Joins.is c.look_at_joins.ensures.said
