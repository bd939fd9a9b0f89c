-- A lawful step of a row, of a thread or of a domain is one of its site.
use Rattle.std.proofs.Common.{◌≡◌, ℕ, ◌<◌, Bool, true, false, sym, ap, arith, subst}
use Rattle.std.specs.Prelude.{nat_lt, if◌then◌else◌}
use Rattle.std.proofs.lemmas.Bool.Decides.{nat_tests}
use Rattle.um_words.specs.declared.fine.FineAct.{FineAct}
use Rattle.um_words.specs.declared.kind.WordKind.{WordKind}
use Rattle.um_words.specs.Steps.{cell_kind_at, kind_at, StepIn, WordMay}
use Rattle.atomic_table.specs.Seated.{TableId}
use Rattle.um_site.specs.declared.place.Place.{Place}
use Rattle.um_site.specs.declared.seat.Seat.{Seat}
use Rattle.um_site.specs.Calls.{thread_site, domain_site, site_of, IsPlace, AtPlace, LeavesAt}

-- the kind of a site by the three tests
abbrev kind_by : ℕ → Bool → Bool → Bool → WordKind
kind_by site row thread domain = if row then WordKind.Row else if thread then WordKind.Thread else if domain then WordKind.Domain else WordKind.Cell (cell_kind_at site)

pub at-row : (row : ℕ) → row < 128 → kind_at row ≡ WordKind.Row
at-row row h = let e : nat_lt row 128 ≡ true = grind (arith, nat_tests) in ap (λ b. kind_by row b (nat_lt row 160) (nat_lt row 168)) e

at-thread : (who : ℕ) → who < 32 → kind_at (thread_site who) ≡ WordKind.Thread
at-thread who h = let s = thread_site who in let a : nat_lt s 128 ≡ false = grind (arith, nat_tests) in let b : nat_lt s 160 ≡ true = grind (arith, nat_tests) in
    (λ i. kind_by s (a i) (b i) (nat_lt s 168))

at-domain : (domain : ℕ) → domain < 8 → kind_at (domain_site domain) ≡ WordKind.Domain
at-domain domain h = let s = domain_site domain in let a : nat_lt s 128 ≡ false = grind (arith, nat_tests) in let b : nat_lt s 160 ≡ false = grind (arith, nat_tests) in let d : nat_lt s 168 ≡ true = grind (arith, nat_tests) in
    (λ i. kind_by s (a i) (b i) (d i))

module _ {T : Type 0} (board : TableId) (seat : Seat T) where
  pub in-place : (place : Place) (seen : ℕ) → AtPlace board seat place seen → IsPlace place
  in-place (Place.Row row) seen at = at.1
  in-place (Place.Thread who) seen at = at.1
  in-place (Place.Domain domain) seen at = at.1

of-kind : (site seen : ℕ) (act : FineAct) (next : ℕ) (k : WordKind) → kind_at site ≡ k → StepIn k seen act next → WordMay site seen act next
of-kind site seen act next k at step = record { step = subst (λ k. StepIn k seen act next) (sym at) step }

-- a lawful step of the word at a place is one of its site
pub lawful : (place : Place) (seen : ℕ) (act : FineAct) (next : ℕ) → IsPlace place → LeavesAt place seen act next → WordMay (site_of place) seen act next
lawful (Place.Row row) seen act next here leaves = of-kind row.0 seen act next WordKind.Row (at-row row.0 here) leaves
lawful (Place.Thread who) seen act next here leaves = of-kind (thread_site who.0) seen act next WordKind.Thread (at-thread who.0 here) leaves
lawful (Place.Domain domain) seen act next here leaves = of-kind (domain_site domain) seen act next WordKind.Domain (at-domain domain here) leaves
