-- Laws of the fine machine's definitions, for those who state something of its runs. Subs, FineRuns and Balance are about sublists, runs and
-- sums of any local machines. About this one: Keys, the names of sites; Words, its steps on words as the board has them; Filled and Made, what
-- each side fills in.
pub mod Subs
pub mod FineRuns
pub mod Balance
pub mod Keys
pub mod Words
pub mod Filled
pub mod Made
