use Rattle.um_laws.proofs.AccessLemmas.{was_allowed, is_verdict}
use Rattle.um_laws.proofs.RecycleLemmas.{is_unheld, is_of_its_creator}
use Rattle.um_laws.proofs.ServiceLemmas.{is_in_order_of_service}
use Rattle.um_laws.proofs.TimeLemmas.{begins_none, ticks_between, watches}
use Rattle.um_laws.proofs.Theorems.{owned_event, marks_turn, lives_between, was_alive, holds_until}
use Rattle.um_laws.proofs.ObeyLemmas.{obeys}
use Rattle.um_laws.proofs.laws.every_run.Goals as goal

pub returns-clause-accesses : goal.returns-clause-accesses
returns-clause-accesses c = λ image before event s s2 run step. was_allowed s s2 event step

pub returns-clause-verdicts : goal.returns-clause-verdicts
returns-clause-verdicts c = λ image before event s s2 run step. is_verdict s s2 event step

pub returns-clause-recycles : goal.returns-clause-recycles
returns-clause-recycles c = λ image before event s s2 run step. is_unheld s s2 event step

pub returns-clause-origins : goal.returns-clause-origins
returns-clause-origins c = λ image before event s s2 given run step. owned_event image before event s s2 given run step

pub returns-clause-turns : goal.returns-clause-turns
returns-clause-turns c = λ image events s given run a. marks_turn image events s given run a

pub returns-clause-lives : goal.returns-clause-lives
returns-clause-lives c = λ image before middle birth rebirth a s s2 given run step e f none. lives_between image before middle birth rebirth a s s2 given run step e f none

pub returns-clause-ends : goal.returns-clause-ends
returns-clause-ends c = λ image before event a s s2 given run step e. was_alive image before event a s s2 given run step e

pub returns-clause-holds : goal.returns-clause-holds
returns-clause-holds c = λ image before middle check recycle a kind want s s2 given run step e calls. holds_until image before middle check recycle a kind want s s2 given run step e calls

pub returns-clause-deadlines : goal.returns-clause-deadlines
returns-clause-deadlines c = λ image before middle arm late d who s s2 given run step e f here same. ticks_between image before middle arm late d who s s2 given run step e f here same

pub returns-clause-aborts : goal.returns-clause-aborts
returns-clause-aborts c = λ image before middle abort begin who script line s s2 given run step e here free. begins_none image before middle abort begin who script line s s2 given run step e here free

pub returns-clause-watches : goal.returns-clause-watches
returns-clause-watches c = λ image before event s s2 run step. watches s s2 event step

pub returns-clause-obeys : goal.returns-clause-obeys
returns-clause-obeys c = λ image events s given run. obeys image events s given run

pub returns-clause-service : goal.returns-clause-service
returns-clause-service c = λ image before event s s2 run step. is_in_order_of_service s s2 event step

pub returns-clause-inheritances : goal.returns-clause-inheritances
returns-clause-inheritances c = λ image before event s s2 run step. is_of_its_creator s s2 event step
