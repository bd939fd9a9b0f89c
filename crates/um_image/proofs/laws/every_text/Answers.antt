use Rattle.um_image.proofs.TextLemmas.{one_image, one_fault, never_both, never_memory, read_text}
use Rattle.um_image.proofs.laws.every_text.Goals as goal

pub returns-clause-read : goal.returns-clause-read
returns-clause-read c = read_text

pub returns-clause-one_image : goal.returns-clause-one_image
returns-clause-one_image c = one_image

pub returns-clause-one_fault : goal.returns-clause-one_fault
returns-clause-one_fault c = one_fault

pub returns-clause-never_both : goal.returns-clause-never_both
returns-clause-never_both c = never_both

pub returns-clause-never_memory : goal.returns-clause-never_memory
returns-clause-never_memory c = never_memory
