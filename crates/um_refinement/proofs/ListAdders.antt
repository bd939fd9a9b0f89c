-- The own parts of threads that steps on a processor's list add stay the same, but for the one that is added, and the one of a thread that is
-- started.
use Rattle.um_refinement.proofs.Words.{◌≡◌, ◌⊎◌, inl, inr, ℕ, Bool, true, false, ◌++◌, List, ◌∷◌, refl, sym, subst, [], true≢false, Image, Pending, Steps, Context, p_next, Todo, Todos, fine_steps, Processor, FineStep, Behind, Adds, adders}
use Rattle.um_fine.specs.Follows.{filled_up}
use Rattle.um_refinement.specs.Frames.{IsActOver, access_alone, access_settled, act_alone, act_settled}
use Rattle.um_refinement.proofs.ListGrowth.{ReadsLast, forms-kept}
use Rattle.um_refinement.proofs.ListTails.{filled-read, AddsPass, Reads, is_passed, takes-read, whole-read}

abbrev Among : Context → List Context → Type 0
Among c [] = ⊥
Among c (d ∷ ds) = (c ≡ d) ⊎ Among c ds

adds-among : (c : Context) (todo : Todos) → Adds c todo → Among c (adders todo)
adds-among c [] h = h
adds-among c (Todo.show q rest ∷ todo) h = h
adds-among c (Todo.add d ∷ todo) (inl e) = inl e
adds-among c (Todo.add d ∷ todo) (inr h) = inr (adds-among c todo h)
adds-among c (q ∷ todo) h = adds-among c todo h

among-adds : (c : Context) (todo : Todos) → Among c (adders todo) → Adds c todo
among-adds c [] h = h
among-adds c (Todo.show q rest ∷ todo) h = h
among-adds c (Todo.add d ∷ todo) (inl e) = inl e
among-adds c (Todo.add d ∷ todo) (inr h) = inr (among-adds c todo h)
among-adds c (q ∷ todo) h = among-adds c todo h

adders-passed : (q : Todo) (todo : Todos) → is_passed q ≡ true → adders (q ∷ todo) ≡ adders todo
adders-passed (Todo.show q rest) todo h = absurd (true≢false (sym h))
adders-passed (Todo.add d) todo h = absurd (true≢false (sym h))
adders-passed q todo h = refl

pub adders-none : (image : Image) (c : Context) (q : Pending) (rest : Steps) → adders (fine_steps image c q rest) ≡ []
adders-none image = forms-kept image (λ todo. adders todo ≡ [])
    (record {
      note = λ site todo h. h;
      act = λ q rest. refl;
      settles = λ q rest deadline mark. refl;
      access = λ q rest. refl;
      access_settles = λ q rest deadline mark. refl;
      look = λ x todo h. h;
      owe = λ q rest. refl;
      leave = λ a rest. refl;
      edit = λ d q rest. refl;
      move = λ d who rest. refl;
      start = λ who q rest c. refl;
    })

adders-waited : (site : ℕ) (todo : Todos) → IsActOver todo → adders (todo ++ Todo.reread site ∷ []) ≡ adders todo
adders-waited site _ act_alone = refl
adders-waited site _ act_settled = refl
adders-waited site _ access_alone = refl
adders-waited site _ access_settled = refl

adders-reads : (image : Image) → Reads image adders []
adders-reads image = record { empty = refl; passed = adders-passed; expanded = adders-none image; begins = refl; exits = refl; waited = adders-waited }

-- a step but the look for one who sleeps
abbrev pub is_rouse_step : Todo → Bool
is_rouse_step (Todo.rouse who) = true
is_rouse_step q = false

module _ (image : Image) where
  passes : (q : Todo) → is_rouse_step q ≡ false → AddsPass image adders [] (adders-reads image) q
  passes (Todo.rouse who) off = absurd (true≢false off)
  passes q off = tt

  pub next-adders : (p : Processor) (e : FineStep) (q : Todo) (todo : Todos) → p.todo ≡ q ∷ todo → is_rouse_step q ≡ false → Behind image q todo → ReadsLast e q todo
      → adders (p_next image p e).todo ≡ adders todo
  next-adders p e q todo at off h last = whole-read image adders [] (adders-reads image) (λ z. refl) (λ d z. refl) p e q todo at (passes q off) h last

  pub takes-adders : (p : Processor) (e : FineStep) → p.todo ≡ [] → adders (p_next image p e).todo ≡ []
  takes-adders p e at = takes-read image adders [] (adders-reads image) p e at

  -- so what is added then was to be added before
  pub next-adds : (p : Processor) (e : FineStep) (q : Todo) (todo : Todos) (c : Context) → p.todo ≡ q ∷ todo → is_rouse_step q ≡ false → Behind image q todo → ReadsLast e q todo
      → Adds c (p_next image p e).todo → Adds c todo
  next-adds p e q todo c at off h last adds = among-adds c todo (subst (Among c) (next-adders p e q todo at off h last) (adds-among c (p_next image p e).todo adds))

  pub takes-none : (p : Processor) (e : FineStep) (c : Context) → p.todo ≡ [] → Adds c (p_next image p e).todo → ⊥
  takes-none p e c at adds = subst (Among c) (takes-adders p e at) (adds-among c (p_next image p e).todo adds)

  -- and where a list is filled up
  pub filled-adders : (d : Context) (todo : Todos) → adders (filled_up image d todo) ≡ adders todo
  filled-adders d todo = filled-read image adders [] (adders-reads image) d todo

  pub filled-adds : (d : Context) (todo : Todos) (c : Context) → Adds c (filled_up image d todo) → Adds c todo
  filled-adds d todo c adds = among-adds c todo (subst (Among c) (filled-adders d todo) (adds-among c (filled_up image d todo) adds))
