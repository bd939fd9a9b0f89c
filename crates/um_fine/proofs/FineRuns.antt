-- A fine run is a fact about its sublists, so each list in the same order is one too; and a fine run can be taken apart from its end.
use Rattle.std.proofs.Common.{◌≡◌, Bool, true, false, cond, List, [], ◌∷◌, ◌++◌, ◌⊎◌, inl, inr, ⊎_elim, sym, refl, ap, ◌∙◌, subst, append_assoc, append-nil, map}
use Rattle.um_fine.specs.Runs.{Run, ends, RunsBy, sub}
use Rattle.um_fine.specs.Runs.{has_key, sublist, state_at, RunsAt, SameAt, changed}
use Rattle.um_fine.proofs.Subs.{sub_yes, sub_no, ends-append, Run-append, Run-parts}

-- induction from a list's end
module _ {X : Type 0} (Q : List X → Type 0) (none : Q []) (more : (xs : List X) (x : X) → Q xs → Q (xs ++ x ∷ [])) where
  from_end : (xs ys : List X) → Q xs → Q (xs ++ ys)
  from_end xs [] q = subst Q (sym (append-nil xs)) q
  from_end xs (y ∷ ys) q = subst Q (append_assoc xs (y ∷ []) ys) (from_end (xs ++ y ∷ []) ys (more xs y q))

  pub by_last : (xs : List X) → Q xs
  by_last xs = from_end [] xs none

bool_cases : (b : Bool) → (b ≡ true) ⊎ (b ≡ false)
bool_cases true = inl refl
bool_cases false = inr refl

module _ {E K : Type 0} (same : K → K → Bool) (itself : (k : K) → same k k ≡ true) (sound : (j k : K) → same j k ≡ true → j ≡ k) (key : E → K)
    {S : Type 0} (may : S → E → Type 0) (next : S → E → S) (start : K → S) where
  pub sublist_here : (h : List E) (e : E) → sublist same key (key e) (h ++ e ∷ []) ≡ sublist same key (key e) h ++ e ∷ []
  sublist_here h e = sub_yes (has_key same key (key e)) h e (itself (key e))

  pub sublist_else : (h : List E) (e : E) (k : K) → same (key e) k ≡ false → sublist same key k (h ++ e ∷ []) ≡ sublist same key k h
  sublist_else h e k ne = sub_no (has_key same key k) h e ne

  state_here : (h : List E) (e : E) → state_at same key next start (h ++ e ∷ []) (key e) ≡ changed same key next (state_at same key next start h) e (key e)
  state_here h e = ap (ends next (start (key e))) (sublist_here h e) ∙ (ends-append may next (start (key e)) (sublist same key (key e) h) (e ∷ [])
      ∙ sym (ap (λ b. cond b (next (state_at same key next start h (key e)) e) (state_at same key next start h (key e))) (itself (key e))))

  pub state_push : (h : List E) (e : E) (k : K) → state_at same key next start (h ++ e ∷ []) k ≡ changed same key next (state_at same key next start h) e k
  state_push h e k = ⊎_elim
      (λ q. subst (λ (j : K). state_at same key next start (h ++ e ∷ []) j ≡ changed same key next (state_at same key next start h) e j) (sound (key e) k q) (state_here h e))
      (λ ne. ap (ends next (start k)) (sublist_else h e k ne) ∙ sym (ap (λ b. cond b (next (state_at same key next start h k) e) (state_at same key next start h k)) ne))
      (bool_cases (same (key e) k))

  pub runs_push : (h : List E) (e : E) → RunsAt same key may next start h → may (state_at same key next start h (key e)) e → RunsAt same key may next start (h ++ e ∷ [])
  runs_push h e r m k = ⊎_elim
      (λ q. subst (λ (j : K). Run may next (start j) (sublist same key j (h ++ e ∷ []))) (sound (key e) k q) (subst (Run may next (start (key e))) (sym (sublist_here h e)) (Run-append may next (start (key e)) (sublist same key (key e) h) (e ∷ []) (r (key e)) (m, tt))))
      (λ ne. subst (Run may next (start k)) (sym (sublist_else h e k ne)) (r k))
      (bool_cases (same (key e) k))

  pub runs_pop : (h : List E) (e : E) → RunsAt same key may next start (h ++ e ∷ []) → RunsAt same key may next start h × may (state_at same key next start h (key e)) e
  runs_pop h e r = let last = Run-parts may next (start (key e)) (sublist same key (key e) h) (e ∷ []) (subst (Run may next (start (key e))) (sublist_here h e) (r (key e))) in (
    (λ k. ⊎_elim
        (λ q. subst (λ (j : K). Run may next (start j) (sublist same key j h)) (sound (key e) k q) last.0)
        (λ ne. subst (Run may next (start k)) (sublist_else h e k ne) (r k))
        (bool_cases (same (key e) k))),
    last.1.0,
  )

  pub runs_same : (h g : List E) → SameAt same key h g → RunsAt same key may next start h → RunsAt same key may next start g
  runs_same h g s r k = subst (Run may next (start k)) (s k) (r k)

  pub state_same : (h g : List E) → SameAt same key h g → (k : K) → state_at same key next start h k ≡ state_at same key next start g k
  state_same h g s k = ap (ends next (start k)) (s k)

-- a step that may follow its list is lawful in the state that the list leaves
module _ {X S : Type 0} (goes : List X → X → Type 0) (may : S → X → Type 0) (next : S → X → S) (start : S) (means : (l : List X) (x : X) → goes l x → may (ends next start l) x) where
  pub run_of_goes : (done xs : List X) → RunsBy goes done xs → Run may next (ends next start done) xs
  run_of_goes done [] r = tt
  run_of_goes done (x ∷ xs) r = (means done x r.0, subst (λ (s : S). Run may next s xs) (ends-append may next start done (x ∷ [])) (run_of_goes (done ++ x ∷ []) xs r.1))

-- a run of the images of steps
module _ {X Y S : Type 0} (f : X → Y) (may : S → Y → Type 0) (next : S → Y → S) where
  pub run_of_images : (s : S) (xs : List X) → Run may next s (map f xs) → Run (λ t x. may t (f x)) (λ t x. next t (f x)) s xs
  run_of_images s [] r = tt
  run_of_images s (x ∷ xs) r = (r.0, run_of_images (next s (f x)) xs r.1)

-- the machine below goes along the list
module _ {E M : Type 0} (Goes : M → E → M → Type 0) (m_start : M) where
  pub data Along : List E → M → Type 0 where
    nothing : Along [] m_start
    then : {h : List E} {e : E} {m m' : M} → Along h m → Goes m e m' → Along (h ++ e ∷ []) m'

-- A relation of all local states with the state of a plain machine is kept along each fine run.
module _ {E C I P S M : Type 0}
    (same_c : C → C → Bool) (itself_c : (k : C) → same_c k k ≡ true) (sound_c : (j k : C) → same_c j k ≡ true → j ≡ k)
    (same_i : I → I → Bool) (itself_i : (k : I) → same_i k k ≡ true) (sound_i : (j k : I) → same_i j k ≡ true → j ≡ k)
    (cpu : E → C) (site : E → I)
    (p_may : P → E → Type 0) (p_next : P → E → P) (p_start : C → P)
    (s_may : S → E → Type 0) (s_next : S → E → S) (s_start : I → S)
    (Goes : M → E → M → Type 0) (m_start : M)
    (Rel : (C → P) → (I → S) → M → Type 0)
    (opening : Rel p_start s_start m_start)
    (keeps : (ps : C → P) (ss : I → S) (m : M) (e : E) → Rel ps ss m → p_may (ps (cpu e)) e → s_may (ss (site e)) e
    → (m' : M) × Goes m e m' × Rel (changed same_c cpu p_next ps e) (changed same_i site s_next ss e) m') where
  pub along : (h : List E) → RunsAt same_c cpu p_may p_next p_start h → RunsAt same_i site s_may s_next s_start h
      → (m : M) × Along Goes m_start h m × Rel (state_at same_c cpu p_next p_start h) (state_at same_i site s_next s_start h) m
  along = by_last (λ h. RunsAt same_c cpu p_may p_next p_start h → RunsAt same_i site s_may s_next s_start h → (m : M) × Along Goes m_start h m × Rel (state_at same_c cpu p_next p_start h) (state_at same_i site s_next s_start h) m)
      (λ r q. (m_start, nothing, opening))
      (λ h e before r q. let a = runs_pop same_c itself_c sound_c cpu p_may p_next p_start h e r in let b = runs_pop same_i itself_i sound_i site s_may s_next s_start h e q in let was = before a.0 b.0 in
      let now = keeps (state_at same_c cpu p_next p_start h) (state_at same_i site s_next s_start h) was.0 e was.2 a.1 b.1 in (
        now.0,
        then was.1 now.1,
        subst (λ (z : (C → P) × (I → S)). Rel z.0 z.1 now.0) (λ i. ((λ k. sym (state_push same_c itself_c sound_c cpu p_may p_next p_start h e k) i), λ k. sym (state_push same_i itself_i sound_i site s_may s_next s_start h e k) i)) now.2,
      ))

module _ {X S : Type 0} (next : S → X → S) where
  pub run_means : (may may' : S → X → Type 0) → ((s : S) (x : X) → may s x → may' s x) → (s : S) (xs : List X) → Run may next s xs → Run may' next s xs
  run_means may may' w s [] r = tt
  run_means may may' w s (x ∷ xs) r = (w s x r.0, run_means may may' w (next s x) xs r.1)

  -- each step of a sublist passes the test
  pub run_tested : (p : X → Bool) (may : S → X → Type 0) (s : S) (xs : List X) → Run may next s (sub p xs) → Run (λ t x. may t x × (p x ≡ true)) next s (sub p xs)
  run_tested p may s [] r = tt
  run_tested p may s (x ∷ xs) r = elim (p x) as (λ b. (p x ≡ b) → Run may next s (cond b (x ∷ sub p xs) (sub p xs)) → Run (λ t y. may t y × (p y ≡ true)) next s (cond b (x ∷ sub p xs) (sub p xs))) [
    | true ↦ λ e q. ((q.0, e), run_tested p may (next s x) xs q.1)
    | false ↦ λ e q. run_tested p may s xs q
  ] refl r

module _ {X Y S : Type 0} (f : X → Y) (next : S → Y → S) where
  pub ends_of_images : (s : S) (xs : List X) → ends next s (map f xs) ≡ ends (λ t x. next t (f x)) s xs
  ends_of_images s [] = refl
  ends_of_images s (x ∷ xs) = ends_of_images (next s (f x)) xs
