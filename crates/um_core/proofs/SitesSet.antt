-- Setting a site of the tables to a state of its sort: that state stands there then, and every other site is as before.
use Rattle.std.proofs.Common.{◌≡◌, ℕ, ◌<◌, false, List, [], ◌++◌, length, refl, sym, ap, ◌∙◌, append-nil, arith}
use Rattle.std.specs.Prelude.{◌==◌, IsTrue, nat_lt}
use Rattle.std.proofs.lemmas.Bool.{eqb-false, false≢true, ltb-true, true≢false}
use Rattle.std.proofs.lemmas.List.{get_or-set_other, get_or-set_same, length-set}
use Rattle.um_base.specs.declared.act.Event.{Event}
use Rattle.um_base.specs.declared.limits.TheConstants.{DOMAINS, ROWS, THREADS}
use Rattle.um_words.specs.declared.fine.FineAct.{FineAct}
use Rattle.um_fine.specs.Answers.{no_domain, no_row, no_thread}
use Rattle.um_fine.specs.Cells.{Cell}
use Rattle.um_fine.specs.Sites.{SiteState, is_site, is_sort, same_site}
use Rattle.um_fine.specs.Erasure.{shown_by}
use Rattle.um_fine.specs.Steps.{FineStep, Site}
use Rattle.um_tables.specs.Asked.{event_of}
use Rattle.um_tables.specs.ObjectCells.{cleared}
use Rattle.um_tables.specs.Sited.{IsSized, Sited, domain_cell_state, logged, no_domain_cell, noted, object_state, state_at, with_state}

module _ (s : Sited) where
  inside : (x n m : ℕ) → m ≡ n → IsTrue (nat_lt x n) → x < m
  inside x n m same h = let below = ltb-true x n h in omega (arith, same, below)

  pub set-here : IsSized s → (i : Site) (z : SiteState) → IsTrue (is_site i) → IsTrue (is_sort i z) → state_at (with_state s i z) i ≡ z
  set-here sized (Site.row x) (SiteState.row w) there sort = ap SiteState.row (get_or-set_same s.rows x w no_row (inside x ROWS (length s.rows) sized.rows there))
  set-here sized (Site.thread t) (SiteState.thread w) there sort = ap SiteState.thread (get_or-set_same s.threads t w no_thread (inside t THREADS (length s.threads) sized.threads there))
  set-here sized (Site.domain d) (SiteState.domain w) there sort = ap SiteState.domain (get_or-set_same s.domains d w no_domain (inside d DOMAINS (length s.domains) sized.domains there))
  set-here sized (Site.parts d) (SiteState.cell n (Cell.parts parts)) there sort =
      ap domain_cell_state (get_or-set_same s.domain_cells d (record { parts = parts; steps = n }) no_domain_cell (inside d DOMAINS (length s.domain_cells) sized.domain_cells there))
  set-here sized (Site.object x) (SiteState.cell n (Cell.object o)) there sort =
      ap object_state
      (get_or-set_same s.objects x (record { contents = o.contents; waiters = o.waiters; noted = o.noted; buffer = o.buffer; steps = n }) (cleared 0) (inside x ROWS (length s.objects) sized.objects there))
  set-here sized Site.memory (SiteState.cell n (Cell.memory m)) there sort = refl
  set-here sized Site.heap (SiteState.cell n (Cell.heap h)) there sort = refl
  set-here sized Site.scheduler (SiteState.cell n (Cell.scheduler t)) there sort = refl
  set-here sized Site.clock (SiteState.cell n (Cell.clock c)) there sort = refl
  set-here sized Site.joins (SiteState.cell n (Cell.joins j)) there sort = refl
  set-here sized i z there sort = absurd (false≢true sort)

  other : (x y : ℕ) → (x == y) ≡ false → y ≡ x → ⊥
  other x y h e = eqb-false x y h (sym e)

  pub set-else : (i : Site) (z : SiteState) (j : Site) → IsTrue (is_sort i z) → same_site i j ≡ false → state_at (with_state s i z) j ≡ state_at s j
  set-else (Site.row x) (SiteState.row w) (Site.row y) sort apart = ap SiteState.row (get_or-set_other s.rows x y w no_row (other x y apart))
  set-else (Site.row x) (SiteState.row w) j sort apart = refl
  set-else (Site.thread t) (SiteState.thread w) (Site.thread u) sort apart = ap SiteState.thread (get_or-set_other s.threads t u w no_thread (other t u apart))
  set-else (Site.thread t) (SiteState.thread w) j sort apart = refl
  set-else (Site.domain d) (SiteState.domain w) (Site.domain e) sort apart = ap SiteState.domain (get_or-set_other s.domains d e w no_domain (other d e apart))
  set-else (Site.domain d) (SiteState.domain w) j sort apart = refl
  set-else (Site.parts d) (SiteState.cell n (Cell.parts parts)) (Site.parts e) sort apart =
      ap domain_cell_state (get_or-set_other s.domain_cells d e (record { parts = parts; steps = n }) no_domain_cell (other d e apart))
  set-else (Site.parts d) (SiteState.cell n (Cell.parts parts)) j sort apart = refl
  set-else (Site.object x) (SiteState.cell n (Cell.object o)) (Site.object y) sort apart =
      ap object_state (get_or-set_other s.objects x y (record { contents = o.contents; waiters = o.waiters; noted = o.noted; buffer = o.buffer; steps = n }) (cleared 0) (other x y apart))
  set-else (Site.object x) (SiteState.cell n (Cell.object o)) j sort apart = refl
  set-else Site.memory (SiteState.cell n (Cell.memory m)) Site.memory sort apart = absurd (true≢false apart)
  set-else Site.memory (SiteState.cell n (Cell.memory m)) j sort apart = refl
  set-else Site.heap (SiteState.cell n (Cell.heap h)) Site.heap sort apart = absurd (true≢false apart)
  set-else Site.heap (SiteState.cell n (Cell.heap h)) j sort apart = refl
  set-else Site.scheduler (SiteState.cell n (Cell.scheduler t)) Site.scheduler sort apart = absurd (true≢false apart)
  set-else Site.scheduler (SiteState.cell n (Cell.scheduler t)) j sort apart = refl
  set-else Site.clock (SiteState.cell n (Cell.clock c)) Site.clock sort apart = absurd (true≢false apart)
  set-else Site.clock (SiteState.cell n (Cell.clock c)) j sort apart = refl
  set-else Site.joins (SiteState.cell n (Cell.joins js)) Site.joins sort apart = absurd (true≢false apart)
  set-else Site.joins (SiteState.cell n (Cell.joins js)) j sort apart = refl
  set-else i z j sort apart = absurd (false≢true sort)

  -- the lists are as long as before
  pub set-sized : (i : Site) (z : SiteState) → IsTrue (is_sort i z) → IsSized s → IsSized (with_state s i z)
  set-sized (Site.row x) (SiteState.row w) sort h = record { rows = length-set s.rows x w ∙ h.rows; threads = h.threads; domains = h.domains; domain_cells = h.domain_cells; objects = h.objects }
  set-sized (Site.thread t) (SiteState.thread w) sort h = record { rows = h.rows; threads = length-set s.threads t w ∙ h.threads; domains = h.domains; domain_cells = h.domain_cells; objects = h.objects }
  set-sized (Site.domain d) (SiteState.domain w) sort h = record { rows = h.rows; threads = h.threads; domains = length-set s.domains d w ∙ h.domains; domain_cells = h.domain_cells; objects = h.objects }
  set-sized (Site.parts d) (SiteState.cell n (Cell.parts parts)) sort h =
      record { rows = h.rows; threads = h.threads; domains = h.domains; domain_cells = length-set s.domain_cells d (record { parts = parts; steps = n }) ∙ h.domain_cells; objects = h.objects }
  set-sized (Site.object x) (SiteState.cell n (Cell.object o)) sort h =
      record { rows = h.rows; threads = h.threads; domains = h.domains; domain_cells = h.domain_cells; objects = length-set s.objects x (record { contents = o.contents; waiters = o.waiters; noted = o.noted; buffer = o.buffer; steps = n }) ∙ h.objects }
  set-sized Site.memory (SiteState.cell n (Cell.memory m)) sort h = record { rows = h.rows; threads = h.threads; domains = h.domains; domain_cells = h.domain_cells; objects = h.objects }
  set-sized Site.heap (SiteState.cell n (Cell.heap k)) sort h = record { rows = h.rows; threads = h.threads; domains = h.domains; domain_cells = h.domain_cells; objects = h.objects }
  set-sized Site.scheduler (SiteState.cell n (Cell.scheduler t)) sort h = record { rows = h.rows; threads = h.threads; domains = h.domains; domain_cells = h.domain_cells; objects = h.objects }
  set-sized Site.clock (SiteState.cell n (Cell.clock c)) sort h = record { rows = h.rows; threads = h.threads; domains = h.domains; domain_cells = h.domain_cells; objects = h.objects }
  set-sized Site.joins (SiteState.cell n (Cell.joins j)) sort h = record { rows = h.rows; threads = h.threads; domains = h.domains; domain_cells = h.domain_cells; objects = h.objects }
  set-sized i z sort h = absurd (false≢true sort)

-- An event is put into the log: nothing else changes.

pub noted-at : (s : Sited) (e : FineStep) (i : Site) → state_at (noted s e) i ≡ state_at s i
noted-at s e (Site.row x) = refl
noted-at s e (Site.thread t) = refl
noted-at s e (Site.domain d) = refl
noted-at s e (Site.parts d) = refl
noted-at s e (Site.object x) = refl
noted-at s e Site.memory = refl
noted-at s e Site.heap = refl
noted-at s e Site.scheduler = refl
noted-at s e Site.clock = refl
noted-at s e Site.joins = refl

pub noted-sized : (s : Sited) (e : FineStep) → IsSized s → IsSized (noted s e)
noted-sized s e h = record { rows = h.rows; threads = h.threads; domains = h.domains; domain_cells = h.domain_cells; objects = h.objects }

pub logged-more : (log : List Event) (act : FineAct) → logged log (event_of act) ≡ log ++ shown_by act []
logged-more log (FineAct.Shown event more) = refl
logged-more log (FineAct.Unseen unseen) = sym (append-nil log)
