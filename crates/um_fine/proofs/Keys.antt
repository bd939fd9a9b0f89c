-- A site is known by its sort and its number there, and by its number among all sites.
use Rattle.std.specs.Prelude.{◌≡◌, ℕ, ◌<◌, true, IsTrue, refl}
use Rattle.std.proofs.Common.{arith, eq-eqb, ap, sym, ◌∙◌, zero, suc}
use Rattle.std.proofs.lemmas.Bool.{and_parts, and_from, eqb-true, ltb-true}
use Rattle.um_fine.specs.Steps.{Site}
use Rattle.um_fine.specs.Sites.{is_site, same_site, site_code, site_number, site_numbered}

-- the site of a code
from : ℕ × ℕ → Site
from (zero, i) = Site.row i
from (suc zero, i) = Site.thread i
from (suc (suc zero), i) = Site.domain i
from (suc (suc (suc zero)), i) = Site.object i
from (suc (suc (suc (suc zero))), i) = Site.parts i
from (suc (suc (suc (suc (suc zero)))), i) = Site.memory
from (suc (suc (suc (suc (suc (suc zero))))), i) = Site.heap
from (suc (suc (suc (suc (suc (suc (suc zero)))))), i) = Site.scheduler
from (suc (suc (suc (suc (suc (suc (suc (suc zero))))))), i) = Site.clock
from (suc (suc (suc (suc (suc (suc (suc (suc (suc n)))))))), i) = Site.joins

back : (a : Site) → from (site_code a) ≡ a
unfolding from
back (Site.row x) = refl
back (Site.thread t) = refl
back (Site.domain d) = refl
back (Site.object x) = refl
back (Site.parts d) = refl
back Site.memory = refl
back Site.heap = refl
back Site.scheduler = refl
back Site.clock = refl
back Site.joins = refl

pub same-sound : (a b : Site) → same_site a b ≡ true → a ≡ b
same-sound a b h =
    let parts = and_parts _ _ h in
    let sorts = eqb-true _ _ parts.0 in
    let indices = eqb-true _ _ parts.1 in
    sym (back a) ∙ (ap from (λ i. (sorts i, indices i)) ∙ back b)

pub same-itself : (a : Site) → same_site a a ≡ true
same-itself a = and_from _ _ (eq-eqb (site_code a).0 (site_code a).0 refl) (eq-eqb (site_code a).1 (site_code a).1 refl)

pub number-back : (i : Site) → IsTrue (is_site i) → site_numbered (site_number i) ≡ i
number-back (Site.row x) h = grind arith
number-back (Site.thread t) h = grind arith
number-back (Site.domain d) h = grind arith
number-back (Site.object x) h = grind arith
number-back (Site.parts d) h = grind arith
number-back Site.memory h = refl
number-back Site.heap h = refl
number-back Site.scheduler h = refl
number-back Site.clock h = refl
number-back Site.joins h = refl

-- sites with one number are the same
pub number-sound : (i j : Site) → IsTrue (is_site i) → IsTrue (is_site j) → site_number i ≡ site_number j → i ≡ j
number-sound i j h k e = sym (number-back i h) ∙ (ap site_numbered e ∙ number-back j k)

pub number-bound : (i : Site) → IsTrue (is_site i) → site_number i < 309
number-bound (Site.row x) h = omega (arith, ltb-true x 128 h)
number-bound (Site.thread t) h = omega (arith, ltb-true t 32 h)
number-bound (Site.domain d) h = omega (arith, ltb-true d 8 h)
number-bound (Site.object x) h = omega (arith, ltb-true x 128 h)
number-bound (Site.parts d) h = omega (arith, ltb-true d 8 h)
number-bound Site.memory h = omega arith
number-bound Site.heap h = omega arith
number-bound Site.scheduler h = omega arith
number-bound Site.clock h = omega arith
number-bound Site.joins h = omega arith
