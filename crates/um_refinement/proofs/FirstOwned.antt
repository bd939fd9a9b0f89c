-- At the opening of every image that a description can give a thread whose own object is initialised keeps it: a boot entry starts it.
use Rattle.um_refinement.proofs.Words.{◌≡◌, ◌⊎◌, inl, inr, ℕ, zero, suc, eq-eqb, ◌+◌, ◌<◌, ◌≤◌, Bool, true, false, List, [], ◌∷◌, length, Option, Some, None, refl, sym, ap, ◌∙◌, arith, ◌==◌, ◌||◌, if◌then◌else◌, is_some, nat_lt, lt-ltb, slice_get, slice_index_or, unwrap_or, list_all, list_any, and_parts, eqb-true, false≢true, true≢false, Boot, Image, ObjectDef, Setup, THREADS, STATIC_ROWS, STATIC_THREADS, ◌-◌, is_lawful_boot, index_or, own_row, setup_at, setup_thread, thread_of_row, Object, objects_from, opening, object_at, thread_at, vacant, IsDescribed, is_sited, Call, call_is, occurs, map, IsBoot}
use Rattle.um_machine.specs.Run.{boots_row, is_set_up}
use Rattle.um_machine.specs.State.{is_living}
use Rattle.um_invariants.proofs.Opening.{is_opening}
use Rattle.um_refinement.specs.Stops.{HasOwn}
use Rattle.um_refinement.proofs.CallsKnown.{setup-inside}
use Rattle.um_refinement.proofs.FirstObjects.{Stood, opening-objects, stood-or-none}
use Rattle.um_refinement.proofs.FirstReady.{entry, living-first, one-more, positive}

not-set-up : (setup : Setup) (n : ℕ) → setup_thread setup ≡ Some n → is_set_up setup ≡ false
not-set-up (Setup.Thread index) n h = refl
not-set-up setup n h = absurd (false≢true (ap is_some h))

none-it : {A : Type 0} {o : Option ℕ} {t : ℕ} → o ≡ None → o ≡ Some t → A
none-it none h = absurd (false≢true (ap is_some (sym none ∙ h)))

or-second : (a b : Bool) → a ≡ false → (a || b) ≡ true → b ≡ true
or-second true b e h = absurd (true≢false e)
or-second false b e h = h

module _ (image : Image) (described : IsDescribed image) (boot-is : (boot : Boot) → is_lawful_boot image boot ≡ true → IsBoot image boot) (t : ℕ) (few : t < THREADS) (own : HasOwn image t) where
  -- an entry that has this row has it as its thread's
  boots-it : (boots : List Boot) → list_all (is_lawful_boot image) boots ≡ true → list_any (boots_row (own_row image t)) boots ≡ true → positive (occurs t (map (entry image) boots)) ≡ true
  boots-it [] h named = absurd (false≢true named)
  boots-it (boot ∷ boots) h named = by (t == entry image boot) refl (λ l. boots-it boots (and_parts _ _ h).1 l)
    where
      here : boot.thread.0 ≡ own_row image t → entry image boot ≡ t
      here same = ap (λ y. index_or (thread_of_row image y)) same ∙ ap index_or own

      later : (t == entry image boot) ≡ false → (a b : Bool) → (boot.thread.0 == own_row image t) ≡ a → (boot.stack.0 == own_row image t) ≡ b → list_any (boots_row (own_row image t)) boots ≡ true
      later other true b k l = absurd (true≢false (sym (eq-eqb t (entry image boot) (sym (here (eqb-true boot.thread.0 (own_row image t) k)))) ∙ other))
      later other false true k l =
          none-it (ap (thread_of_row image) (sym (eqb-true boot.stack.0 (own_row image t) l)) ∙ (boot-is boot (and_parts _ _ h).0).stack.1) own
      later other false false k l = sym (λ i. (k i || l i) || list_any (boots_row (own_row image t)) boots) ∙ named

      by : (b : Bool) → (t == entry image boot) ≡ b → (list_any (boots_row (own_row image t)) boots ≡ true → positive (occurs t (map (entry image) boots)) ≡ true)
          → positive (if t == entry image boot then occurs t (map (entry image) boots) + 1 else occurs t (map (entry image) boots)) ≡ true
      by true q more = ap (λ c. positive (if c then occurs t (map (entry image) boots) + 1 else occurs t (map (entry image) boots))) q ∙ one-more (occurs t (map (entry image) boots))
      by false q more =
          ap (λ c. positive (if c then occurs t (map (entry image) boots) + 1 else occurs t (map (entry image) boots))) q
          ∙ more (later q (boot.thread.0 == own_row image t) (boot.stack.0 == own_row image t) refl refl)

  -- a thread that lives keeps its own object
  lives-keeps : 0 < length image.objects → is_living (thread_at (opening image) t).life ≡ true → (thread_at (opening image) t).keeps_own ≡ true
  lives-keeps some lives =
      let known = (is_opening image (is_sited image described.lawful described.few some) described.lawful).known in
      sym (ap (λ (c : Call). c.keeps) (call_is (opening image) t)) ∙ known.claimed.living t (ap (λ (c : Call). c.living) (call_is (opening image) t) ∙ lives)

  stood : (o : ObjectDef) → slice_get image.objects (own_row image t) ≡ Some o → (is_set_up o.setup || list_any (boots_row (own_row image t)) image.boots) ≡ true
      → setup_thread (setup_at image (own_row image t)) ≡ Some t → (thread_at (opening image) t).keeps_own ≡ true
  stood o at init setup =
      let (other, there, thread, inside) = setup-inside image.objects (own_row image t) t setup in
      let same : o ≡ other = ap (λ (z : Option ObjectDef). unwrap_or z o) (sym at ∙ there) in
      let unset = not-set-up o.setup t (ap (λ (z : ObjectDef). setup_thread z.setup) same ∙ thread) in
      let named = or-second (is_set_up o.setup) (list_any (boots_row (own_row image t)) image.boots) unset init in
      lives-keeps (omega (arith, inside)) (living-first image 1 t few ∙ boots-it image.boots described.lawful.boots named)

  get-inside : (os : List ObjectDef) (y : ℕ) (o : ObjectDef) → slice_get os y ≡ Some o → y < length os
  get-inside [] y o h = absurd (false≢true (ap is_some h))
  get-inside (z ∷ os) zero o h = omega arith
  get-inside (z ∷ os) (suc y) o h = let l = get-inside os y o h in omega (arith, l)

  pub owned-first : (object_at (opening image) (own_row image t)).init ≡ true → (thread_at (opening image) t).keeps_own ≡ true
  owned-first init = by (stood-or-none image.boots 0 image.objects (own_row image t))
    where
      here : (slice_index_or (objects_from image.boots 0 image.objects) (own_row image t) vacant).init ≡ true
      here = sym (ap (λ (os : List Object). (slice_index_or os (own_row image t) vacant).init) (opening-objects image)) ∙ init

      by : Stood image.boots 0 image.objects (own_row image t) ⊎ ((slice_index_or (objects_from image.boots 0 image.objects) (own_row image t) vacant ≡ vacant) × (length image.objects ≤ own_row image t))
          → (thread_at (opening image) t).keeps_own ≡ true
      by (inr r) = absurd (true≢false (sym here ∙ ap (λ (o : Object). o.init) r.0))
      by (inl r) =
          let at : 0 + own_row image t ≡ own_row image t = omega arith in
          let inside = get-inside image.objects (own_row image t) r.0 r.1 in
          let fit = described.few in
          let low = lt-ltb (own_row image t) STATIC_ROWS (omega (arith, inside, fit)) in
          stood r.0 r.1 (sym (ap (λ n. is_set_up r.0.setup || list_any (boots_row n) image.boots) at) ∙ (sym (ap (λ (o : Object). o.init) r.2) ∙ here))
          (sym (ap (λ b. if b then setup_thread (setup_at image (own_row image t)) else if nat_lt (STATIC_THREADS + (own_row image t - STATIC_ROWS)) THREADS then Some (STATIC_THREADS + (own_row image t - STATIC_ROWS)) else None) low) ∙ own)
