-- Sums over all local states, when one of them changes.
use Rattle.std.proofs.Common.{◌≡◌, ℕ, ◌+◌, Bool, true, false, cond, List, [], ◌∷◌, ◌++◌, ◌⊎◌, inl, inr, ⊎_elim, sym, refl, ap, ◌∙◌, subst, arith, ◌≤◌, length, length-append}
use Rattle.um_fine.specs.Runs.{state_at, RunsAt, changed}
use Rattle.um_fine.proofs.FineRuns.{by_last, runs_pop, state_push}

module _ {K : Type 0} where
  abbrev pub In : K → List K → Type 0
  In k [] = ⊥
  In k (j ∷ js) = (j ≡ k) ⊎ In k js

  abbrev pub AllDifferent : List K → Type 0
  AllDifferent [] = Unit {0}
  AllDifferent (j ∷ js) = (In j js → ⊥) × AllDifferent js

  abbrev pub total : {S : Type 0} → (S → ℕ) → (K → S) → List K → ℕ
  total f at [] = 0
  total f at (k ∷ ks) = f (at k) + total f at ks

module _ {E K S : Type 0} (same : K → K → Bool) (itself : (k : K) → same k k ≡ true) (sound : (j k : K) → same j k ≡ true → j ≡ k) (key : E → K) (next : S → E → S) (f : S → ℕ) where
  differs : (j k : K) → (j ≡ k → ⊥) → same j k ≡ false
  differs j k ne = elim (same j k) as (λ b. (same j k ≡ b) → b ≡ false) [ true ↦ λ q. absurd (ne (sound j k q)) | false ↦ λ q. refl ] refl

  total_else : (at : K → S) (e : E) (ks : List K) → (In (key e) ks → ⊥) → total f (changed same key next at e) ks ≡ total f at ks
  total_else at e [] out = refl
  total_else at e (k ∷ ks) out = let d = differs (key e) k (λ q. out (inl (sym q))) in let t = total_else at e ks (λ i. out (inr i)) in
      let h : f (changed same key next at e k) ≡ f (at k) = ap (λ b. f (cond b (next (at k) e) (at k))) d in omega arith

  -- one of the states changes, and the sum with it
  pub total_changed : (at : K → S) (e : E) (ks : List K) → AllDifferent ks → In (key e) ks → total f (changed same key next at e) ks + f (at (key e)) ≡ total f at ks + f (next (at (key e)) e)
  total_changed at e [] d i = absurd i
  total_changed at e (k ∷ ks) d i = ⊎_elim
      (λ q. let t = total_else at e ks (λ n. d.0 (subst (λ (z : K). In z ks) (sym q) n)) in
      let h : f (changed same key next at e k) ≡ f (next (at (key e)) e) = ap (λ z. f (changed same key next at e z)) q ∙ ap (λ b. f (cond b (next (at (key e)) e) (at (key e)))) (itself (key e)) in
      let was : f (at k) ≡ f (at (key e)) = ap (λ z. f (at z)) q in omega arith)
      (λ n. let t = total_changed at e ks d.1 n in let off = differs (key e) k (λ q. d.0 (subst (λ (z : K). In z ks) q n)) in
      let h : f (changed same key next at e k) ≡ f (at k) = ap (λ b. f (cond b (next (at k) e) (at k))) off in omega arith)
      i

pub total_part : {K S : Type 0} (f : S → ℕ) (at : K → S) (ks : List K) (k : K) → In k ks → f (at k) ≤ total f at ks
total_part f at [] k i = absurd i
total_part f at (j ∷ js) k i = ⊎_elim (λ q. let h : f (at j) ≡ f (at k) = ap (λ z. f (at z)) q in omega arith) (λ n. let t = total_part f at js k n in omega arith) i

-- Two runs of the same steps: by the processors, of which all are known, and by the sites.
module _ {E C I P S : Type 0}
    (same_c : C → C → Bool) (itself_c : (k : C) → same_c k k ≡ true) (sound_c : (j k : C) → same_c j k ≡ true → j ≡ k)
    (same_i : I → I → Bool) (itself_i : (k : I) → same_i k k ≡ true) (sound_i : (j k : I) → same_i j k ≡ true → j ≡ k)
    (cpu : E → C) (site : E → I)
    (p_may : P → E → Type 0) (p_next : P → E → P) (p_start : C → P)
    (s_may : S → E → Type 0) (s_next : S → E → S) (s_start : I → S)
    (all : List C) (different : AllDifferent all) (known : (p : P) (e : E) → p_may p e → In (cpu e) all) where
  -- What processors hold of a site adds up to what the site counts, if each step keeps the balance.
  module _
      (holds : I → P → ℕ) (counts : S → ℕ) (i : I)
      (opening : total (holds i) p_start all ≡ counts (s_start i))
      (here : (p : P) (s : S) (e : E) → p_may p e → s_may s e → site e ≡ i → holds i (p_next p e) + counts s ≡ holds i p + counts (s_next s e))
      (else' : (p : P) (e : E) → p_may p e → same_i (site e) i ≡ false → holds i (p_next p e) ≡ holds i p) where
    pub balance : (h : List E) → RunsAt same_c cpu p_may p_next p_start h → RunsAt same_i site s_may s_next s_start h
        → total (holds i) (state_at same_c cpu p_next p_start h) all ≡ counts (state_at same_i site s_next s_start h i)
    balance = by_last (λ h. RunsAt same_c cpu p_may p_next p_start h → RunsAt same_i site s_may s_next s_start h → total (holds i) (state_at same_c cpu p_next p_start h) all ≡ counts (state_at same_i site s_next s_start h i))
        (λ r q. opening)
        (λ h e before r q. let a = runs_pop same_c itself_c sound_c cpu p_may p_next p_start h e r in let b = runs_pop same_i itself_i sound_i site s_may s_next s_start h e q in let was = before a.0 b.0 in
        let ps = state_at same_c cpu p_next p_start h in let ss = state_at same_i site s_next s_start h in
        let p : P = ps (cpu e) in
        let sums = total_changed same_c itself_c sound_c cpu p_next (holds i) ps e all different (known p e a.1) in
        let now : total (holds i) (state_at same_c cpu p_next p_start (h ++ e ∷ [])) all ≡ total (holds i) (changed same_c cpu p_next ps e) all = ap (λ (z : C → P). total (holds i) z all) (λ j k. state_push same_c itself_c sound_c cpu p_may p_next p_start h e k j) in
        let site_now : counts (state_at same_i site s_next s_start (h ++ e ∷ []) i) ≡ counts (changed same_i site s_next ss e i) = ap counts (state_push same_i itself_i sound_i site s_may s_next s_start h e i) in
        elim (same_i (site e) i) as (λ v. (same_i (site e) i ≡ v) → total (holds i) (state_at same_c cpu p_next p_start (h ++ e ∷ [])) all ≡ counts (state_at same_i site s_next s_start (h ++ e ∷ []) i)) [
          | true ↦ λ on. let at : site e ≡ i = sound_i (site e) i on in
              let it : counts (changed same_i site s_next ss e i) ≡ counts (s_next (ss i) e) = ap (λ v. counts (cond v (s_next (ss i) e) (ss i))) on in
              let law = here p (ss i) e a.1 (subst (λ (z : I). s_may (ss z) e) at b.1) at in omega arith
          | false ↦ λ off. let it : counts (changed same_i site s_next ss e i) ≡ counts (ss i) = ap (λ v. counts (cond v (s_next (ss i) e) (ss i))) off in
              let law = else' p e a.1 off in omega arith
        ] refl)

  -- Where each step costs one of what its processor and its site have left, a fine run is no longer than what they had at the start.
  module _
      (sites : List I) (apart : AllDifferent sites) (there : (s : S) (e : E) → s_may s e → In (site e) sites)
      (f : P → ℕ) (g : S → ℕ)
      (costs : (p : P) (s : S) (e : E) → p_may p e → s_may s e → f (p_next p e) + g (s_next s e) + 1 ≤ f p + g s) where
    pub bounded : (h : List E) → RunsAt same_c cpu p_may p_next p_start h → RunsAt same_i site s_may s_next s_start h
        → total f (state_at same_c cpu p_next p_start h) all + total g (state_at same_i site s_next s_start h) sites + length h ≤ total f p_start all + total g s_start sites
    bounded = by_last (λ h. RunsAt same_c cpu p_may p_next p_start h → RunsAt same_i site s_may s_next s_start h → total f (state_at same_c cpu p_next p_start h) all + total g (state_at same_i site s_next s_start h) sites + length h ≤ total f p_start all + total g s_start sites)
        (λ r q. omega arith)
        (λ h e before r q. let a = runs_pop same_c itself_c sound_c cpu p_may p_next p_start h e r in let b = runs_pop same_i itself_i sound_i site s_may s_next s_start h e q in let was = before a.0 b.0 in
        let ps = state_at same_c cpu p_next p_start h in let ss = state_at same_i site s_next s_start h in
        let ps_now : total f (state_at same_c cpu p_next p_start (h ++ e ∷ [])) all ≡ total f (changed same_c cpu p_next ps e) all = ap (λ (z : C → P). total f z all) (λ j k. state_push same_c itself_c sound_c cpu p_may p_next p_start h e k j) in
        let ss_now : total g (state_at same_i site s_next s_start (h ++ e ∷ [])) sites ≡ total g (changed same_i site s_next ss e) sites = ap (λ (z : I → S). total g z sites) (λ j k. state_push same_i itself_i sound_i site s_may s_next s_start h e k j) in
        let x = total_changed same_c itself_c sound_c cpu p_next f ps e all different (known (ps (cpu e)) e a.1) in
        let y = total_changed same_i itself_i sound_i site s_next g ss e sites apart (there (ss (site e)) e b.1) in
        let law = costs (ps (cpu e)) (ss (site e)) e a.1 b.1 in let n = length-append h (e ∷ []) in omega arith)
