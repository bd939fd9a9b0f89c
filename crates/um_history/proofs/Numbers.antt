-- The sites by number: which there are, how their names compare, and what kinds of words they have.
use Rattle.std.proofs.Common.{◌≡◌, ℕ, ◌<◌, Bool, true, false, eqb, refl, sym, ap, ◌∙◌, subst, arith, eq-eqb}
use Rattle.std.specs.Prelude.{IsTrue}
use Rattle.std.proofs.lemmas.Bool.{eqb-true}
use Rattle.std.proofs.lemmas.Bool.Decides.{nat_tests}
use Rattle.um_words.specs.declared.kind.CellKind.{CellKind}
use Rattle.um_words.specs.declared.kind.WordKind.{WordKind}
use Rattle.um_words.specs.Steps.{kind_at}
use Rattle.um_fine.specs.Sites.{is_site, same_site, site_number, site_numbered}
use Rattle.um_fine.specs.Steps.{Site}
use Rattle.um_fine.proofs.Keys.{number-back, number-bound, same-itself, same-sound}

-- whether two tests agree
pub tests-same : (a b : Bool) → (a ≡ true → b ≡ true) → (b ≡ true → a ≡ true) → a ≡ b
tests-same true true f g = refl
tests-same true false f g = sym (f refl)
tests-same false true f g = g refl
tests-same false false f g = refl

pub not-true : (a : Bool) → (a ≡ true → ⊥) → a ≡ false
not-true true f = absurd (f refl)
not-true false f = refl

-- the sites of numbers below 309

pub numbered-is : (n : ℕ) → n < 309 → IsTrue (is_site (site_numbered n))
numbered-is n h = grind (arith, nat_tests)

pub number-of-numbered : (n : ℕ) → n < 309 → site_number (site_numbered n) ≡ n
number-of-numbered n h = grind (arith, nat_tests)

-- sites that exist compare as their numbers do
pub sites-compare : (i : Site) (n : ℕ) → IsTrue (is_site i) → n < 309 → same_site (site_numbered n) i ≡ eqb n (site_number i)
sites-compare i n there h =
    tests-same (same_site (site_numbered n) i) (eqb n (site_number i))
    (λ e. eq-eqb n (site_number i) (sym (number-of-numbered n h) ∙ ap site_number (same-sound (site_numbered n) i e)))
    (λ e. let is : n ≡ site_number i = eqb-true n (site_number i) e in
    let same : site_numbered n ≡ i = ap site_numbered is ∙ number-back i there in
    subst (λ (j : Site). same_site j i ≡ true) (sym same) (same-itself i))

pub names-compare : (j i : Site) → IsTrue (is_site j) → IsTrue (is_site i) → same_site j i ≡ eqb (site_number j) (site_number i)
names-compare j i here there = ap (λ (k : Site). same_site k i) (sym (number-back j here)) ∙ sites-compare i (site_number j) there (number-bound j here)

-- a site that there isn't has no number's name
pub no-site : (i : Site) (n : ℕ) → is_site i ≡ false → n < 309 → same_site (site_numbered n) i ≡ false
no-site i n none h = not-true (same_site (site_numbered n) i) (λ e. let there : is_site i ≡ true = subst (λ (j : Site). is_site j ≡ true) (same-sound (site_numbered n) i e) (numbered-is n h) in cc)

pub no-name : (i j : Site) → is_site i ≡ false → IsTrue (is_site j) → same_site j i ≡ false
no-name i j none here = ap (λ (k : Site). same_site k i) (sym (number-back j here)) ∙ no-site i (site_number j) none (number-bound j here)

-- The kinds of words.

-- the kind of a site's word
abbrev pub kind_of_site : Site → WordKind
kind_of_site (Site.row x) = WordKind.Row
kind_of_site (Site.thread t) = WordKind.Thread
kind_of_site (Site.domain d) = WordKind.Domain
kind_of_site (Site.object x) = WordKind.Cell CellKind.Object
kind_of_site (Site.parts d) = WordKind.Cell CellKind.Domain
kind_of_site Site.memory = WordKind.Cell CellKind.Memory
kind_of_site Site.heap = WordKind.Cell CellKind.Heap
kind_of_site Site.scheduler = WordKind.Cell CellKind.Scheduler
kind_of_site Site.clock = WordKind.Cell CellKind.Clock
kind_of_site Site.joins = WordKind.Cell CellKind.Join

pub kinds-are : (i : Site) → IsTrue (is_site i) → kind_at (site_number i) ≡ kind_of_site i
kinds-are (Site.row x) h = grind (arith, nat_tests)
kinds-are (Site.thread t) h = grind (arith, nat_tests)
kinds-are (Site.domain d) h = grind (arith, nat_tests)
kinds-are (Site.object x) h = grind (arith, nat_tests)
kinds-are (Site.parts d) h = grind (arith, nat_tests)
kinds-are Site.memory h = refl
kinds-are Site.heap h = refl
kinds-are Site.scheduler h = refl
kinds-are Site.clock h = refl
kinds-are Site.joins h = refl
