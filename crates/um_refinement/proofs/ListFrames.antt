-- Each step leaves a list on which behind each step that no trace shows stands what it is for.
use Rattle.um_refinement.proofs.Words.{inl, inr, eq-eqb, ◌≡◌, ℕ, ◌+◌, Bool, true, false, [], ◌∷◌, ◌++◌, Option, Some, None, refl, subst, ◌<◌, false≢true, true≢false, is_some, if◌then◌else◌, ◌==◌, nat_lt, own_row, row_named, Addr, Image, ROWS, thread_of_row, Amount, Pending, Steps, State, is_visit, thread_in, context_in, behind_step, Context, FineStep, newborn, Todo, Todos, cleaning_of, end_of_turn, fine_steps, next_steps, is_cleaning_todo, Processor, dropped_at, goes_on_by, p_next, row_number, with_cleaned, begins_cleaning, cpu_of, same_cpu, cond, eqb-true, Fine, AreFramed, Behind, OnMemory, names_row, Rel, on_memory, sized, queue_in, queue_of}
use Rattle.um_fine.specs.Answers.{is_void}
use Rattle.um_fine.specs.Follows.{shown_step}
use Rattle.um_fine.specs.Places.{acting, armed_for, clearing, noted_cell, noting, put_away, settling}
use Rattle.um_fine.specs.Runs.{changed}
use Rattle.um_refinement.specs.Frames.{IsAccess, IsActOver, IsNoted, IsStart, IsWaitOver, access_alone, access_over, access_settled, accesses, act_alone, act_settled, acts, arming, both, nothing, rereads, settled}
use Rattle.um_refinement.specs.Lists.{is_arm}
use Rattle.um_refinement.proofs.ListGrowth.{EndsWell, acted-kept, behind-kept, claim-kept, cleaning-kept, drop-kept, either, goes-kept, is_errand, looks-kept, next-kept, none≢some, pass-kept, show-kept, take-kept, turn-kept, visits_row}

module _ (image : Image) where
  abbrev Are : Todos → Type 0
  Are todo = AreFramed image todo

  -- an access, behind which stands what is left of its act
  over-framed : (todo : Todos) → IsWaitOver todo → Are todo
  over-framed _ nothing = tt
  over-framed _ settled = (inl refl, tt)
  over-framed _ (rereads {site}) = (refl, tt)
  over-framed _ (both {deadline} {mark} {site}) = (inr (site, refl), (refl, tt))

  long-framed : (q : Pending) (rest : Steps) (over : Todos) → OnMemory q → IsWaitOver over → ((site : ℕ) → noted_cell image (q ∷ []) ≡ Some site → IsActOver (access_over over))
      → Are (Todo.hold ∷ Todo.read_claim None ∷ Todo.region_load ∷ Todo.show q rest ∷ access_over over)
  long-framed q rest over on wait act =
      let access : IsAccess (Todo.show q rest ∷ access_over over) = (q, rest, over, refl, on, wait) in
      (inl (Todo.show q rest ∷ access_over over, refl, access), ((Todo.show q rest ∷ access_over over, refl, access), (access, (act, ((over, refl, wait), (inl wait, over-framed over wait))))))

  access-framed : (q : Pending) (rest : Steps) → OnMemory q → Are (on_memory q rest)
  access-framed q rest on = long-framed q rest [] on nothing (λ site at. access_alone)

  -- an act, behind which its mark is settled
  settling-over : (c : Context) (until : Option ℕ) (q : Pending) → IsWaitOver (settling image c until q)
  settling-over c None q = nothing
  settling-over c (Some deadline) q = settled

  settling-act : (c : Context) (until : Option ℕ) (q : Pending) → IsActOver (settling image c until q)
  settling-act c None q = act_alone
  settling-act c (Some deadline) q = act_settled

  settling-access : (c : Context) (until : Option ℕ) (q : Pending) → IsActOver (access_over (settling image c until q))
  settling-access c None q = access_alone
  settling-access c (Some deadline) q = access_settled

  noting-framed : (c : Context) (site : Option ℕ) (todo : Todos) → ((there : ℕ) → site ≡ Some there → IsNoted image there todo) → Are todo → Are (noting image c site todo)
  noting-framed c None todo for h = h
  noting-framed c (Some site) todo for h = elim (is_some c.noted) as (λ b. Are (if b then todo else Todo.note site ∷ todo)) [ true ↦ h | false ↦ (for site refl, h) ]

  act-framed : (c : Context) (q : Pending) (rest : Steps) → Are (acting image c q (Todo.show q rest ∷ []))
  act-framed c q rest =
      let over = settling image c (armed_for image c q) q in
      noting-framed c (noted_cell image (q ∷ [])) (Todo.show q rest ∷ over) (λ there at. acts at) ((λ site at. settling-act c (armed_for image c q) q), over-framed over (settling-over c (armed_for image c q) q))

  arm-framed : (q : Pending) (rest : Steps) → is_arm q ≡ true → noted_cell image (q ∷ []) ≡ None → Are (Todo.owe ∷ Todo.show q rest ∷ [])
  arm-framed q rest arms none = ((q, rest, refl, arms), ((λ site at. act_alone), tt))

  clear-framed : (own : Bool) (a : Addr) (rest : Steps) → Are (clearing image own (Pending.ClearInit a) rest)
  clear-framed true a rest = ((a, rest, refl), ((λ site at. act_alone), tt))
  clear-framed false a rest = ((λ site at. act_alone), tt)

  sized-framed : (amount : Amount) (q : Pending) (rest : Steps) → queue_in q ≡ queue_of amount → OnMemory q → Are (sized image amount (on_memory q rest))
  sized-framed (Amount.Bytes n) q rest same on = access-framed q rest on
  sized-framed (Amount.MessageOf a) q rest same on = ((q, rest, a, refl, same, refl), access-framed q rest on)

  fine-framed : (c : Context) (q : Pending) (rest : Steps) → Are (fine_steps image c q rest)
  fine-framed c (Pending.Load to a n) rest = access-framed (Pending.Load to a n) rest tt
  fine-framed c (Pending.Store a n value) rest = access-framed (Pending.Store a n value) rest tt
  fine-framed c (Pending.Fetch a) rest = access-framed (Pending.Fetch a) rest tt
  fine-framed c (Pending.Probe a amount) rest = sized-framed amount (Pending.Probe a amount) rest refl tt
  fine-framed c (Pending.CopyIn a amount) rest = sized-framed amount (Pending.CopyIn a amount) rest refl tt
  fine-framed c (Pending.CopyOut a) rest = access-framed (Pending.CopyOut a) rest tt
  fine-framed c (Pending.CopyStr a) rest = access-framed (Pending.CopyStr a) rest tt
  fine-framed c (Pending.DomInit d parts) rest = ((Pending.DomInit d parts, rest, refl, eq-eqb d d refl), ((rest, refl, eq-eqb d d refl), ((λ site at. act_alone), tt)))
  fine-framed c (Pending.DomAdd d range attr) rest = ((Pending.DomAdd d range attr, rest, refl, eq-eqb d d refl), ((rest, refl, eq-eqb d d refl), ((λ site at. act_alone), tt)))
  fine-framed c (Pending.DomRemove d range attr) rest = ((Pending.DomRemove d range attr, rest, refl, eq-eqb d d refl), ((rest, refl, eq-eqb d d refl), ((λ site at. act_alone), tt)))
  fine-framed c (Pending.DomMove d who) rest = ((who, rest, refl), ((λ site at. act_alone), tt))
  fine-framed c (Pending.Start who script stack priority mode) rest =
      let q = Pending.Start who script stack priority mode in
      let start : IsStart who.0 (Todo.show q rest ∷ Todo.let_go ∷ Todo.add (newborn image c q) ∷ []) = (q, rest, newborn image c q, refl, eq-eqb who.0 who.0 refl) in
      (inr (who.0, Todo.show q rest ∷ Todo.let_go ∷ Todo.add (newborn image c q) ∷ [], refl, start), (start, ((λ site at. absurd (none≢some site at)), (inr (newborn image c q, refl), (refl, tt)))))
  fine-framed c (Pending.Work a ask) rest = act-framed c (Pending.Work a ask) rest
  fine-framed c (Pending.Join who timeout) rest = act-framed c (Pending.Join who timeout) rest
  fine-framed c (Pending.FutexWait a value timeout) rest =
      let q = Pending.FutexWait a value timeout in
      let over = settling image c (armed_for image c q) q in
      noting-framed c (noted_cell image (q ∷ [])) (on_memory q rest ++ over) (λ there at. accesses at)
      (long-framed q rest over tt (settling-over c (armed_for image c q) q) (λ site at. settling-access c (armed_for image c q) q))
  fine-framed c (Pending.FutexWake a all) rest = access-framed (Pending.FutexWake a all) rest tt
  fine-framed c (Pending.Arm ticks) rest = noting-framed c (noted_cell image rest) (Todo.owe ∷ Todo.show (Pending.Arm ticks) rest ∷ []) (λ there at. arming refl at) (arm-framed (Pending.Arm ticks) rest refl refl)
  fine-framed c (Pending.ArmTimer ticks) rest = arm-framed (Pending.ArmTimer ticks) rest refl refl
  fine-framed c (Pending.ClearInit a) rest = clear-framed (row_named image a == own_row image c.thread) a rest
  fine-framed c q rest = ((λ site at. act_alone), tt)

  away-framed : (doomed : Bool) → Are (put_away doomed)
  away-framed true = (refl, tt)
  away-framed false = (refl, (refl, (refl, tt)))

  errand-framed : (q : Todo) (todo : Todos) → is_errand q ≡ true → Are todo → Are (q ∷ todo)
  errand-framed (Todo.wake who told) todo on h = (tt, h)
  errand-framed (Todo.look who site before) todo on h = (tt, h)
  errand-framed (Todo.tell_cut who) todo on h = (tt, h)
  errand-framed (Todo.rouse who) todo on h = (tt, h)
  errand-framed q todo on h = absurd (false≢true on)

  -- behind what is left of an act its word is read once more
  waited-framed : (site : ℕ) (todo : Todos) → IsActOver todo → Are todo → Are (todo ++ Todo.reread site ∷ [])
  waited-framed site _ act_alone h = over-framed (Todo.reread site ∷ []) rereads
  waited-framed site _ (act_settled {deadline} {mark}) h = over-framed (Todo.settle deadline mark ∷ Todo.reread site ∷ []) both
  waited-framed site _ access_alone h = ((Todo.reread site ∷ [], refl, rereads), (inl rereads, over-framed (Todo.reread site ∷ []) rereads))
  waited-framed site _ (access_settled {deadline} {mark}) h =
      let over = Todo.settle deadline mark ∷ Todo.reread site ∷ [] in ((over, refl, both), (inl both, over-framed over both))

  end-framed : (b : Bool) → Are (end_of_turn image b)
  end-framed true = (refl, tt)
  end-framed false = (refl, tt)

  -- visits, wakes and ends of claims stand in front; a cleaning stands behind those that have begun
  put : (q : Todo) (todo : Todos) → visits_row q ≡ true → names_row q ≡ true → Are todo → Are (q ∷ todo)
  put (Todo.pass who x) todo visit few h = (tt, h)
  put (Todo.drop x) todo visit few h = (tt, h)
  put q todo visit few h = absurd (false≢true visit)

  abbrev All : Context → Type 0
  All c = Unit {0}

  expands : (c : Context) → All c → Are [] → Are (next_steps image c c.pending)
  expands c of h = next-kept image Are put fine-framed end-framed c c.pending

  first-framed : (x : ℕ) (o : Option ℕ) (todo : Todos) → thread_of_row image x ≡ o → Are todo → Are (cleaning_of x o ++ todo)
  first-framed x None todo at h = (tt, (tt, (tt, h)))
  first-framed x (Some who) todo at h = (tt, (tt, (tt, (tt, h))))

  later-framed : (q : Todo) (old new : Todos) → is_cleaning_todo q ≡ true → (Are old → Are new) → Are (q ∷ old) → Are (q ∷ new)
  later-framed (Todo.clean_pair who x) old new c more h = (tt, more h.1)
  later-framed (Todo.wipe x) old new c more h = (tt, more h.1)
  later-framed (Todo.vacate x) old new c more h = (tt, more h.1)
  later-framed (Todo.recycle x) old new c more h = (tt, more h.1)
  later-framed q old new c more h = absurd (false≢true c)

  -- A step.

  -- who is roused holds nothing
  abbrev pub RousesBare : Processor → FineStep → Type 0
  RousesBare p e = (who : ℕ) (todo : Todos) → p.todo ≡ Todo.rouse who ∷ todo → is_void e.act ≡ false → (context_in e.moved).claims ≡ []

  abbrev pub is_rouse_step : Todo → Bool
  is_rouse_step (Todo.rouse who) = true
  is_rouse_step q = false

  goes-framed : (p : Processor) (e : FineStep) (todo : Todos) → p.todo ≡ todo → RousesBare p e → Are p.todo → Are todo → Are (goes_on_by image p e todo).todo
  goes-framed p e [] at bare was h =
      take-kept image Are All expands p (turn-kept image Are ((λ site at. act_alone), tt) ((λ site at. act_alone), tt)) (λ deadline mark. (refl, (refl, tt))) e.moved tt tt was
  goes-framed p e (Todo.show q rest ∷ todo) at bare was h =
      show-kept image Are All expands p e q rest todo Are tt waited-framed h.0
      (λ z k. let made = shown_step image q e.act in looks-kept image Are errand-framed (λ x y g. (tt, g)) p.context made e (behind_step image p.context made e.moved z)
      (behind-kept image Are errand-framed (λ x y g. (tt, g)) p.context made e.moved z k))
      (λ read. away-framed (thread_in e.word).doomed) h.1
  goes-framed p e (Todo.read_claim d ∷ todo) at bare was h = claim-kept image Are (λ z k. k.1) p e d todo (λ x same. (subst (λ (o : Option ℕ). Behind image (Todo.read_claim o) todo) same h.0, h.1)) h.1
  goes-framed p e (Todo.pass who x ∷ todo) at bare was h = pass-kept image Are All expands p who x todo (λ y few k. (tt, k)) tt h.1
  goes-framed p e (Todo.drop x ∷ todo) at bare was h = drop-kept image Are All expands p (dropped_at image p.context x (is_visit e.act)) x todo (λ y few k. (tt, k)) tt h.1
  goes-framed p e (Todo.clean_pair who x ∷ todo) at bare was h = either image Are (nat_lt (x + 1) ROWS) (Todo.clean_pair who (x + 1)) todo (λ few k. (tt, k)) h.1
  goes-framed p e (Todo.rouse who ∷ todo) at bare was h = goes-kept image Are All expands p errand-framed e (Todo.rouse who) todo refl tt (λ found z k. (bare who todo at found, k)) h.1
  goes-framed p e (q ∷ todo) at bare was h = goes-kept image Are All expands p errand-framed e q todo refl tt (ends-else q refl) h.1
    where
      ends-else : (q : Todo) → is_rouse_step q ≡ false → EndsWell Are e q
      ends-else (Todo.show q rest) off = λ read. away-framed (thread_in e.word).doomed
      ends-else Todo.park off = tt
      ends-else Todo.done off = tt
      ends-else Todo.paid off = tt
      ends-else (Todo.rouse who) off = absurd (true≢false off)
      ends-else q off = tt

  with-cleaned-framed : (p : Processor) (e : FineStep) (b : Bool) → Are p.todo → Are (with_cleaned image p e b).todo
  with-cleaned-framed p e false h = h
  with-cleaned-framed p e true h = cleaning-kept image (λ old new. Are old → Are new) (row_number e.site) (first-framed (row_number e.site)) later-framed p.todo h

  -- whatever a processor's step is, it leaves such a list
  pub frames-next : (p : Processor) (e : FineStep) → RousesBare p e → AreFramed image p.todo → AreFramed image (p_next image p e).todo
  frames-next p e bare was =
      acted-kept image Are (with_cleaned image (goes_on_by image p e p.todo) e (begins_cleaning e)) e.act
      (with-cleaned-framed (goes_on_by image p e p.todo) e (begins_cleaning e) (goes-framed p e p.todo refl bare was was))

pub frames-kept : (f : Fine) (m : State) → Rel f m → (e : FineStep) → RousesBare f.image (f.processors e.cpu) e → (k : ℕ) → k < f.cpus
    → AreFramed f.image (changed same_cpu cpu_of (p_next f.image) f.processors e k).todo
frames-kept f m rel e bare k l = by (e.cpu == k) refl
  where
    by : (b : Bool) → (e.cpu == k) ≡ b → AreFramed f.image (cond b (p_next f.image (f.processors k) e) (f.processors k)).todo
    by true q = frames-next f.image (f.processors k) e (subst (λ (j : ℕ). RousesBare f.image (f.processors j) e) (eqb-true e.cpu k q) bare) (rel.processors k l).frames
    by false q = (rel.processors k l).frames
