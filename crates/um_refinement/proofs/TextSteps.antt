-- A processor's copy of a text is that step of the machine, where the relation holds: as many bytes are read as its table allows one by
-- one, up to a zero.
use Rattle.um_refinement.proofs.Words.{◌≡◌, ℕ, zero, suc, ◌+◌, ◌-◌, ◌<◌, ◌≤◌, Bool, true, false, List, [], ◌∷◌, length, refl, sym, ap, ◌∙◌, subst, arith, eq-eqb, ne_eqb, ◌==◌, if◌then◌else◌, false≢true, Act, Found, Image, Addr, Pending, allowed, bytes_at, string_bytes, Steps, State, act_in, bytes_in, Exchange, FineStep, Site, Bytes, read, SiteState, site_answers, Todos, Processor, allows, shows, Fine, bytes, slice_index, string_from, found_in, limit_in, text_bytes, text_found, readable}
use Rattle.um_base.specs.declared.names.Access.TheVariants as Access
use Rattle.um_refinement.proofs.MemorySteps.{allows-it, memory-sort}
use Rattle.um_refinement.specs.Frames.{nothing}
use Rattle.um_refinement.proofs.Offered.{IsStep, Shows, act-is, behind-is, machine-step, moved-made, says-at, site-is}
use Rattle.um_refinement.proofs.Says.{read-agrees}

plus-one : (n : ℕ) → n + 1 ≡ suc n
plus-one n = omega arith

module _ (image : Image) (p : Processor) (b : Bytes) (m : State) (t : ℕ)
    (may : (a : ℕ) → allows image p Access.Read a 1 ≡ allowed m t Access.Read a 1) (same : (a : ℕ) → read image b a 1 ≡ bytes_at m a 1) where
  -- as the site finds it, and as the machine does, after so many bytes
  found_by : Bool → ℕ → Found → Found
  found_by zero? before more = if zero? then Found.Length before else more

  text-is : (limit a before : ℕ) → before + limit ≡ 32 → text_found image b a (readable image p a limit) before ≡ string_from m t a limit before
  unfolding found_by
  text-is zero a before e = ap (λ c. if c then Found.TooLong else Found.Unreadable) (eq-eqb before 32 (omega (arith, e)))
  text-is (suc limit) a before e = by (allows image p Access.Read a 1) refl (text-is limit (a + 1) (before + 1) (omega (arith, e)))
    where
      by : (c : Bool) → allows image p Access.Read a 1 ≡ c
          → text_found image b (a + 1) (readable image p (a + 1) limit) (before + 1) ≡ string_from m t (a + 1) limit (before + 1)
          → text_found image b a (if allows image p Access.Read a 1 then readable image p (a + 1) limit + 1 else 0) before ≡ string_from m t a (suc limit) before
      by true h rest =
          ap (λ c. text_found image b a (if c then readable image p (a + 1) limit + 1 else 0) before) h
          ∙ (ap (λ n. text_found image b a n before) (plus-one (readable image p (a + 1) limit))
          ∙ (λ i. found_by (slice_index (same a i) 0 == 0) before (rest i))
          ∙ sym (ap (λ c. if c then found_by (slice_index (bytes_at m a 1) 0 == 0) before (string_from m t (a + 1) limit (before + 1)) else Found.Unreadable) (sym (may a) ∙ h)))
      by false h rest =
          ap (λ c. text_found image b a (if c then readable image p (a + 1) limit + 1 else 0) before) h
          ∙ (ap (λ c. if c then Found.TooLong else Found.Unreadable) (ne_eqb before 32 (λ q. absurd (omega (arith, q, e))))
          ∙ sym (ap (λ c. if c then found_by (slice_index (bytes_at m a 1) 0 == 0) before (string_from m t (a + 1) limit (before + 1)) else Found.Unreadable) (sym (may a) ∙ h)))

  -- the bytes of a text that is found are the machine's
  is_length : Found → Bool
  is_length (Found.Length n) = true
  is_length found = false

  length_in : Found → ℕ
  length_in (Found.Length n) = n
  length_in found = 0

  pub text-bytes : (limit a before n : ℕ) → string_from m t a limit before ≡ Found.Length n
      → (before ≤ n) × (text_bytes image b a (readable image p a limit) ≡ string_bytes m a (n - before))
  unfolding is_length length_in
  text-bytes zero a before n e = absurd (false≢true (ap is_length e))
  text-bytes (suc limit) a before n e = by (allows image p Access.Read a 1) refl (text-bytes limit (a + 1) (before + 1) n)
    where
      by : (c : Bool) → allows image p Access.Read a 1 ≡ c
          → (string_from m t (a + 1) limit (before + 1) ≡ Found.Length n
          → (before + 1 ≤ n) × (text_bytes image b (a + 1) (readable image p (a + 1) limit) ≡ string_bytes m (a + 1) (n - (before + 1))))
          → (before ≤ n) × (text_bytes image b a (if allows image p Access.Read a 1 then readable image p (a + 1) limit + 1 else 0) ≡ string_bytes m a (n - before))
      by true h more = found (slice_index (bytes_at m a 1) 0 == 0) refl
        where
          reads : string_from m t a (suc limit) before
              ≡ (if slice_index (bytes_at m a 1) 0 == 0 then Found.Length before else string_from m t (a + 1) limit (before + 1))
          reads =
              ap (λ d. if d then (if slice_index (bytes_at m a 1) 0 == 0 then Found.Length before else string_from m t (a + 1) limit (before + 1)) else Found.Unreadable)
              (sym (may a) ∙ h)

          text : text_bytes image b a (if allows image p Access.Read a 1 then readable image p (a + 1) limit + 1 else 0)
              ≡ (if slice_index (bytes_at m a 1) 0 == 0 then [] else slice_index (bytes_at m a 1) 0 ∷ text_bytes image b (a + 1) (readable image p (a + 1) limit))
          text =
              ap (λ d. text_bytes image b a (if d then readable image p (a + 1) limit + 1 else 0)) h
              ∙ (ap (text_bytes image b a) (plus-one (readable image p (a + 1) limit))
              ∙ ap (λ (bs : List ℕ). if slice_index bs 0 == 0 then [] else slice_index bs 0 ∷ text_bytes image b (a + 1) (readable image p (a + 1) limit)) (same a))

          found : (d : Bool) → (slice_index (bytes_at m a 1) 0 == 0) ≡ d
              → (before ≤ n) × (text_bytes image b a (if allows image p Access.Read a 1 then readable image p (a + 1) limit + 1 else 0) ≡ string_bytes m a (n - before))
          found true q =
              let at : before ≡ n =
              ap length_in (sym (ap (λ d. if d then Found.Length before else string_from m t (a + 1) limit (before + 1)) q) ∙ (sym reads ∙ e)) in
              let none : 0 ≡ n - before = omega (arith, at) in (
                omega (arith, at),
                text
                    ∙ (ap (λ d. if d then [] else slice_index (bytes_at m a 1) 0 ∷ text_bytes image b (a + 1) (readable image p (a + 1) limit)) q
                    ∙ ap (string_bytes m a) none),
              )
          found false q =
              let rest = more (sym (ap (λ d. if d then Found.Length before else string_from m t (a + 1) limit (before + 1)) q) ∙ (sym reads ∙ e)) in
              let low = rest.0 in
              let many : suc (n - (before + 1)) ≡ n - before = omega (arith, low) in (
                omega (arith, low),
                text
                    ∙ (ap (λ d. if d then [] else slice_index (bytes_at m a 1) 0 ∷ text_bytes image b (a + 1) (readable image p (a + 1) limit)) q
                    ∙ (ap (λ (bs : List ℕ). slice_index (bytes_at m a 1) 0 ∷ bs) rest.1 ∙ ap (string_bytes m a) many)),
              )
      by false h more =
          absurd (false≢true (ap is_length (sym (ap (λ d. if d then (if slice_index (bytes_at m a 1) 0 == 0 then Found.Length before else string_from m t (a + 1) limit (before + 1)) else Found.Unreadable) (sym (may a) ∙ h)) ∙ e)))

pub copy-str-step : {f : Fine} {m : State} {k : ℕ} {e : FineStep} {rest : Steps} {todo : Todos} → (f.processors k).domain < length f.image.domains → (a : Addr)
    → Shows f m k e (Pending.CopyStr a) rest todo → IsStep f m k e 0 (Pending.CopyStr a)
copy-str-step {f} {m} {k} {e} few a h =
    let p = f.processors k in
    let act = shows f.image p (Pending.CopyStr a) e.act in
    let memory = memory-sort (f.sites Site.memory) (h.rel.sorts Site.memory) in
    let here = subst (λ (s : SiteState). site_answers f.image s e.moved act ≡ act) memory.1 (says-at h Site.memory act (site-is h) (act-is h)) in
    let moved : e.moved ≡ Exchange.text (readable f.image p a.0 32) (bytes_in e.moved) =
    moved-made h in
    let found : text_found f.image (bytes f) a.0 (limit_in e.moved) 0 ≡ found_in (act_in e.act) = ap (λ z. found_in (act_in z)) here in
    machine-step h 0 (act-is h) tt
    (ap (Act.CopyStr a)
    (sym found
    ∙ (ap (λ n. text_found f.image (bytes f) a.0 n 0) (ap limit_in moved)
    ∙ text-is f.image p (bytes f) m p.context.thread (λ x. allows-it h tt nothing (behind-is h) few Access.Read x 1)
    (λ x. ap (λ (i : Image). read i (bytes f) x 1) (sym h.rel.image) ∙ read-agrees m (bytes f) x 1 h.rel.memory.memory h.rel.memory.stacks) 32 a.0 0 refl)))
