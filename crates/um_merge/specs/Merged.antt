-- Lists of steps in the same order, and the orders that logs have.
use Rattle.std.specs.Prelude.{◌≡◌, ℕ, zero, suc, ◌+◌, ◌<◌, ◌≤◌, eqb, List, [], ◌∷◌, ◌++◌, length, drop, take, slice_index, slice_index_or}
use Rattle.um_fine.specs.Runs.{sublist, SameAt}
use Rattle.um_merge.specs.declared.logged.Logged.{Logged}
use Rattle.um_merge.specs.Logs.{Log, blank, events_of}

abbrev pub cpu_of : Logged → ℕ
cpu_of step = step.cpu

abbrev pub site_of : Logged → ℕ
site_of step = step.site

-- the same steps for each processor and for each site, in the same order
abbrev pub SameOrder : List Logged → List Logged → Type 0
SameOrder steps others = SameAt eqb cpu_of steps others × SameAt eqb site_of steps others

-- numbers from the next one on, without a gap
abbrev pub AreNumbered : ℕ → List Logged → Type 0
AreNumbered n [] = Unit {0}
AreNumbered n (step ∷ steps) = (step.number ≡ n + 1) × AreNumbered (n + 1) steps

-- the log of a processor, or nothing if there is no such processor
abbrev pub log_at : List Log → ℕ → List Logged
log_at [] cpu = []
log_at (log ∷ logs) zero = log.items
log_at (log ∷ logs) (suc cpu) = log_at logs cpu

-- each step is at a site
abbrev pub ArePlaced : List Logged → Type 0
ArePlaced log = (k : ℕ) → k < length log → (slice_index_or log k blank).site < 309

abbrev pub AreAtSites : List Log → Type 0
AreAtSites logs = (cpu : ℕ) → cpu < length logs → ArePlaced (log_at logs cpu)

-- A list of all steps of the logs, in which each site's steps are numbered from 1 without a gap.
pub record IsOrder (logs : List Log) (order : List Logged) : Type 0 where
  pub logged : (cpu : ℕ) → sublist eqb cpu_of cpu order ≡ log_at logs cpu
  pub numbered : (site : ℕ) → AreNumbered 0 (sublist eqb site_of site order)

-- there is such a list, of at most this many steps
abbrev pub HaveOrder : List Log → ℕ → Type 0
HaveOrder logs most = (order : List Logged) × IsOrder logs order × (length order ≤ most)

-- the step at a place of a log is there, and has the next number of its site
abbrev pub IsNextIn : List Logged → ℕ → List ℕ → Type 0
IsNextIn log place done =
    (place < length log) × ((slice_index_or log place blank).number ≡ slice_index done (slice_index_or log place blank).site + 1)

abbrev pub IsNext : List Log → List ℕ → List ℕ → ℕ → Type 0
IsNext logs places done cpu = IsNextIn (log_at logs cpu) (slice_index places cpu) done

-- What is written so far, the places in the logs, and how many steps of each site are written: every order can still be reached.
pub record IsMerging (logs : List Log) (written : List Logged) (places done : List ℕ) : Type 0 where
  pub left : (order : List Logged) → IsOrder logs order
      → (rest : List Logged) × SameOrder (written ++ rest) order × (length (written ++ rest) ≡ length order)
  pub placed : (cpu : ℕ) → cpu < length logs → sublist eqb cpu_of cpu written ++ drop (slice_index places cpu) (log_at logs cpu) ≡ log_at logs cpu
  pub counted : (site : ℕ) → site < 309 → length (sublist eqb site_of site written) ≡ slice_index done site
  pub eight : length places ≡ 8
  pub all_sites : length done ≡ 309

-- how many events each log shows before the place in it
abbrev pub AreShown : List Log → List ℕ → List ℕ → Type 0
AreShown logs places shown = (cpu : ℕ) → cpu < length logs → slice_index shown cpu ≡ length (events_of (take (slice_index places cpu) (log_at logs cpu)))
