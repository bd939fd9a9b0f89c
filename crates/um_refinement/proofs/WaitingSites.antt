-- The site of a cell in which threads wait is an object's, that of memory, or that of the joins.
use Rattle.um_refinement.proofs.Words.{◌≡◌, ℕ, ◌-◌, Bool, true, false, ◌==◌, if◌then◌else◌, nat_lt, refl, sym, subst, arith, nat_tests, Site, same_site}
use Rattle.um_fine.specs.Sites.{site_numbered}
use Rattle.um_refinement.specs.Stops.{is_waiting_site}

module _ (site : ℕ) where
  -- by the tests of its number
  abbrev by_tests : (a b c d e f g h i : Bool) → Site
  by_tests a b c d e f g h i =
      if a then Site.row site else if b then Site.thread (site - 128) else if c then Site.domain (site - 160) else if d then Site.object (site - 168)
      else if e then Site.parts (site - 296) else if f then Site.memory else if g then Site.heap else if h then Site.scheduler else if i then Site.clock else Site.joins

  waits-there : is_waiting_site site ≡ true → (d f : Bool) → nat_lt site 296 ≡ d → (site == 304) ≡ f → (P : Site → Type 0) → ((x : ℕ) → P (Site.object x)) → P Site.memory → P Site.joins → P (site_numbered site)
  waits-there w true f at same P object memory joins =
      let a : nat_lt site 128 ≡ false = grind (arith, nat_tests) in
      let b : nat_lt site 160 ≡ false = grind (arith, nat_tests) in
      let c : nat_lt site 168 ≡ false = grind (arith, nat_tests) in
      subst P (sym (λ i. by_tests (a i) (b i) (c i) (at i) (nat_lt site 304) (site == 304) (site == 305) (site == 306) (site == 307))) (object (site - 168))
  waits-there w false true at same P object memory joins =
      let a : nat_lt site 128 ≡ false = grind (arith, nat_tests) in
      let b : nat_lt site 160 ≡ false = grind (arith, nat_tests) in
      let c : nat_lt site 168 ≡ false = grind (arith, nat_tests) in
      let e : nat_lt site 304 ≡ false = grind (arith, nat_tests) in
      subst P (sym (λ i. by_tests (a i) (b i) (c i) (at i) (e i) (same i) (site == 305) (site == 306) (site == 307))) memory
  waits-there w false false at same P object memory joins =
      let a : nat_lt site 128 ≡ false = grind (arith, nat_tests) in
      let b : nat_lt site 160 ≡ false = grind (arith, nat_tests) in
      let c : nat_lt site 168 ≡ false = grind (arith, nat_tests) in
      let e : nat_lt site 304 ≡ false = grind (arith, nat_tests) in
      let g : (site == 305) ≡ false = grind (arith, nat_tests) in
      let h : (site == 306) ≡ false = grind (arith, nat_tests) in
      let j : (site == 307) ≡ false = grind (arith, nat_tests) in
      subst P (sym (λ i. by_tests (a i) (b i) (c i) (at i) (e i) (same i) (g i) (h i) (j i))) joins

  pub waiting-place : is_waiting_site site ≡ true → (P : Site → Type 0) → ((x : ℕ) → P (Site.object x)) → P Site.memory → P Site.joins → P (site_numbered site)
  waiting-place w = waits-there w (nat_lt site 296) (site == 304) refl refl

-- so a look, or a mark in a hand, is at none of the other sites
pub waiting-apart : (site : ℕ) (there : Site) → is_waiting_site site ≡ true → ((x : ℕ) → same_site (Site.object x) there ≡ false) → same_site Site.memory there ≡ false → same_site Site.joins there ≡ false
    → same_site (site_numbered site) there ≡ false
waiting-apart site there w object memory joins = waiting-place site w (λ s. same_site s there ≡ false) object memory joins
