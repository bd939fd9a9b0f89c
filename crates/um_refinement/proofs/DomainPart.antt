-- The words and cells of domains are those of the machine after every lawful step, where an edit counts from its event.
use Rattle.um_refinement.proofs.Words.{Act, ◌≡◌, ◌⊎◌, inl, inr, ℕ, ◌<◌, ◌≤◌, Bool, true, false, cond, List, [], ◌∷◌, length, Option, Some, None, refl, sym, ap, ◌∙◌, subst, arith, eq-eqb, ◌==◌, ◌||◌, IsTrue, if◌then◌else◌, is_some, slice_index_or, slice_set, unwrap_or, eqb-false, eqb-true, false≢true, true≢false, get_or-set_other, get_or-set_same, Event, Image, Partitions, Pending, reply_to, Steps, to_thread, State, DomWord, FineAct, More, Unseen, act_in, domain_in, is_visit, is_word_read, allows, moves, says_show, says_step, Cell, Context, after_claim, goes_on_by, p_next, unless_loaded, Todo, Todos, Processor, edit_of, is_of, key_of, SiteState, is_sort, s_next, same_site, site_after, site_moves, Exchange, FineStep, Site, same-itself, same-sound, Fine, domain, domain_state, one_if, parts, parts_state, total, Behind, OnMemory, access_over, edited, edits, edits_step, Fits, behind_shown, or-false, before_in, parts_after, parts_moves, DomainIs}
use Rattle.um_base.specs.declared.names.Access.TheVariants as Access
use Rattle.um_machine.specs.Domains.{domain_after}
use Rattle.um_machine.specs.Table as T
use Rattle.um_words.specs.Domains as Words
use Rattle.um_machine.specs.State.{thread_at}
use Rattle.um_words.specs.declared.fine.Mark.{Mark}
use Rattle.um_fine.specs.Answers.{is_due_act, is_killed, is_shut_act, is_tick, is_void, now_in}
use Rattle.um_fine.specs.Asks.{begins, by_actor, says_turn}
use Rattle.um_fine.specs.Places.{armed_for, settling}
use Rattle.um_refinement.proofs.DomainCounts.{domain-counts}
use Rattle.um_refinement.proofs.DomainWords.{word-else, word-here}
use Rattle.um_refinement.proofs.DomainReads.{edited-reads, edits-one, eqb-swap, is_told, memory-edits-none, next-reply}
use Rattle.um_refinement.proofs.Erased.{around}
use Rattle.um_refinement.proofs.Leaves.{Beside, Lawful, Leaves, beside, cuts, expires, leaves, ticks, times_out, cleans, drops, event, nothing, passes, recycles, resumes}
use Rattle.um_refinement.proofs.ListGrips.{read-rests}
use Rattle.um_refinement.proofs.ListGrowth.{ReadsLast, is_read_claim}
use Rattle.um_refinement.proofs.ListTails.{adds-pass, quiet-next, tail-read, takes-read}
use Rattle.um_refinement.proofs.MemorySteps.{part-total}
use Rattle.um_refinement.proofs.Offered.{IsStopping, at-made, by-made, IsStep, Shows, site-is, either-act}
use Rattle.um_refinement.proofs.SchedulerSteps.{made-at, made-says}
use Rattle.um_refinement.proofs.StepReads.{is-behind}
use Rattle.um_refinement.proofs.WordsKept.{IsShown}
use Rattle.um_refinement.proofs.Writes.{Makes}
use Rattle.um_refinement.proofs.DomainFacts.{init-else, NoDomains, adds-some, domains-same, edited-edits, inits-some, is_edit, is_init, is_init_act, is_neither, is_unseen, removes-some, two-parts, visits-no-edit}
use Rattle.um_refinement.proofs.FirstThreads.{one-most}

-- Cell and word of a domain stand for the machine's, where an edit counts from its event.
record StandsFor (g : Fine) (s : State) (d : ℕ) : Type 0 where
  init : (domain g d).init ≡ is_some (T.domain_at s d)
  settled : ((k : ℕ) → k < g.cpus → edited d (g.processors k).todo ≡ None) → parts g d ≡ T.domain_at s d
  changed : (k : ℕ) (q : Pending) → k < g.cpus → edited d (g.processors k).todo ≡ Some q
      → let made = edit_of g.image q (T.domain_at s d) in (parts g d ≡ domain_after (T.domain_at s d) made) × ((g.processors k).reply ≡ reply_to made)

module _ (f : Fine) (m : State) (e : FineStep) (law : Lawful f m e) (d : ℕ) (few : d < length f.image.domains) where
  open around f e use {later, processor as p, now}
  open is-behind f m e law use {frame}

  was : DomainIs f m d
  was = law.rel.domains d few

  -- what a processor other than the one of the step is
  other-is : (k : ℕ) → (e.cpu == k) ≡ false → later.processors k ≡ f.processors k
  other-is k q = ap (λ b. cond b (p_next f.image (f.processors k) e) (f.processors k)) q

  mine-is : (k : ℕ) → (e.cpu == k) ≡ true → later.processors k ≡ now
  mine-is k q =
      ap (λ b. cond b (p_next f.image (f.processors k) e) (f.processors k)) q ∙ ap (λ n. p_next f.image (f.processors n) e) (sym (eqb-true e.cpu k q))

  none-some : {A B : Type 0} {q : A} → None ≡ Some q → B
  none-some h = absurd (false≢true (ap is_some h))

  -- nothing of the domain changes
  unchanged : (s : State) → T.domain_at s d ≡ T.domain_at m d → (domain later d).init ≡ (domain f d).init → parts later d ≡ parts f d
      → edited d now.todo ≡ edited d p.todo → (now.reply ≡ p.reply) ⊎ (edited d now.todo ≡ None) → StandsFor later s d
  unchanged s same init cell list reply =
      record {
        init = init ∙ (was.init ∙ ap is_some (sym same));
        settled = λ h. cell ∙ (was.settled (λ k l. sym (edited-k k) ∙ h k l) ∙ sym same);
        changed = λ k q l at.
            let r = was.changed k q l (sym (edited-k k) ∙ at) in
            subst (λ (before : Option Partitions). (parts later d ≡ domain_after before (edit_of f.image q before)) × ((later.processors k).reply ≡ reply_to (edit_of f.image q before))) (sym same)
            (cell ∙ r.0, reply-k k q at ∙ r.1);
      }
    where
      edited-k : (k : ℕ) → edited d (later.processors k).todo ≡ edited d (f.processors k).todo
      edited-k k = by (e.cpu == k) refl
        where
          by : (b : Bool) → (e.cpu == k) ≡ b → edited d (later.processors k).todo ≡ edited d (f.processors k).todo
          by true q = ap (λ (z : Processor). edited d z.todo) (mine-is k q) ∙ (list ∙ ap (λ n. edited d (f.processors n).todo) (eqb-true e.cpu k q))
          by false q = ap (λ (z : Processor). edited d z.todo) (other-is k q)

      reply-k : (k : ℕ) (q : Pending) → edited d (later.processors k).todo ≡ Some q → (later.processors k).reply ≡ (f.processors k).reply
      reply-k k q at = by (e.cpu == k) refl reply
        where
          by : (b : Bool) → (e.cpu == k) ≡ b → (now.reply ≡ p.reply) ⊎ (edited d now.todo ≡ None) → (later.processors k).reply ≡ (f.processors k).reply
          by false r h = ap (λ (z : Processor). z.reply) (other-is k r)
          by true r (inl h) = ap (λ (z : Processor). z.reply) (mine-is k r) ∙ (h ∙ ap (λ n. (f.processors n).reply) (eqb-true e.cpu k r))
          by true r (inr h) = none-some (sym h ∙ (sym (ap (λ (z : Processor). edited d z.todo) (mine-is k r)) ∙ at))

  -- The word and the cell.

  domain-is : (s : SiteState) → IsTrue (is_sort (Site.domain d) s) → s ≡ SiteState.domain (domain_state s)
  domain-is (SiteState.domain w) h = refl
  domain-is s h = absurd (false≢true h)

  cell-is : (s : SiteState) → IsTrue (is_sort (Site.parts d) s) → (n : ℕ) × (s ≡ SiteState.cell n (Cell.parts (parts_state s)))
  cell-is (SiteState.cell n (Cell.parts ps)) h = (n, refl)
  cell-is s h = absurd (false≢true h)

  cell-here : e.site ≡ Site.parts d → (act : FineAct) → e.act ≡ act → parts later d ≡ parts_after (parts f d) act e.moved
  cell-here site act said =
      ap (λ b. parts_state (cond b (s_next f.image (f.sites (Site.parts d)) e) (f.sites (Site.parts d)))) (ap (λ i. same_site i (Site.parts d)) site ∙ same-itself (Site.parts d))
      ∙ (ap (λ (s : SiteState). parts_state (site_after f.image s e.act e.moved)) (cell-is (f.sites (Site.parts d)) (law.rel.sorts (Site.parts d))).1
      ∙ ap (λ a. parts_after (parts f d) a e.moved) said)

  -- a cell changes by an edit alone
  edit-else : (act : FineAct) (moved : Exchange) → is_edit act ≡ false → parts_after (parts f d) act moved ≡ parts f d
  edit-else (FineAct.Unseen Unseen.Edit) moved h = absurd (true≢false h)
  edit-else act moved h = refl

  cell-same : is_edit e.act ≡ false → parts later d ≡ parts f d
  cell-same quiet = by (same_site e.site (Site.parts d)) refl
    where
      by : (b : Bool) → same_site e.site (Site.parts d) ≡ b → parts later d ≡ parts f d
      by true q = cell-here (same-sound e.site (Site.parts d) q) e.act refl ∙ edit-else e.act e.moved quiet
      by false q = ap (λ b. parts_state (cond b (s_next f.image (f.sites (Site.parts d)) e) (f.sites (Site.parts d)))) q

  word-left : domain_state (s_next f.image (f.sites (Site.domain d)) e) ≡ Words.counted_domain (Words.domain_after (domain f d) e.act)
  word-left = ap (λ (s : SiteState). domain_state (site_after f.image s e.act e.moved)) (domain-is (f.sites (Site.domain d)) (law.rel.sorts (Site.domain d)))

  init-same : is_init e.act ≡ false → (domain later d).init ≡ (domain f d).init
  init-same quiet =
      elim (same_site e.site (Site.domain d)) as (λ b. (domain_state (cond b (s_next f.image (f.sites (Site.domain d)) e) (f.sites (Site.domain d)))).init ≡ (domain f d).init) [
        | true ↦ ap (λ (w : DomWord). w.init) word-left ∙ init-else (domain f d) e.act quiet
        | false ↦ refl
      ]

  edited-after : (q : Todo) (todo : Todos) → p.todo ≡ q ∷ todo → is_read_claim q ≡ false → ReadsLast e q todo → edited d now.todo ≡ edited d todo
  edited-after q todo at other last = tail-read f.image (edited d) None (edited-reads f.image d) p e q todo at other (adds-pass f.image (edited d) None (edited-reads f.image d) (λ c z. refl) q) (frame q todo at) last

  -- the number of processors that edit the domain
  edits-of : (g : ℕ → Processor) (k n : ℕ) → k < f.cpus → total (λ j. one_if (edits d (g j).todo)) f.cpus ≡ n → one_if (edits d (g k).todo) ≤ n
  edits-of g k n l all = let part = part-total (λ j. one_if (edits d (g j).todo)) f.cpus k l in omega (arith, part, all)

  -- An edit of the cell: it is the only one.

  edit-here : (q : Pending) (todo : Todos) → p.todo ≡ Todo.edit d q ∷ todo → StandsFor later m d
  edit-here q todo at =
      record {
        init = init-same (ap is_init said) ∙ was.init;
        settled = λ h. none-some (sym (h e.cpu law.by.named) ∙ (ap (λ (z : Processor). edited d z.todo) (mine-is e.cpu (eq-eqb e.cpu e.cpu refl)) ∙ made));
        changed = λ k r l is. by k r l is (e.cpu == k) refl;
      }
    where
      said : e.act ≡ FineAct.Unseen Unseen.Edit
      said = made-says f m e law (Todo.edit d q ∷ todo) at

      site : e.site ≡ Site.parts d
      site = made-at f m e law (Todo.edit d q ∷ todo) at

      h : Behind f.image (Todo.edit d q) todo
      h = frame (Todo.edit d q) todo at

      made : edited d now.todo ≡ Some q
      made = edited-after (Todo.edit d q) todo at refl tt ∙ (ap (edited d) h.1 ∙ ap (λ b. if b then Some q else None) h.2)

      -- nobody has edited it before
      alone : (k : ℕ) → k < f.cpus → (e.cpu ≡ k → ⊥) → edits d (f.processors k).todo ≡ false
      alone k l ne =
          let both = two-parts (λ j. one_if (edits d (f.processors j).todo)) f.cpus e.cpu k law.by.named l ne in
          let mine = ap one_if (ap (edits d) at ∙ eq-eqb d d refl) in
          let all = was.writers in
          let most = one-most (domain f d).writer in
          no-one (edits d (f.processors k).todo) (omega (arith, both, mine, all, most))
        where
          no-one : (b : Bool) → one_if b ≡ 0 → b ≡ false
          no-one true z = absurd (omega (arith, z))
          no-one false z = refl

      before : parts f d ≡ T.domain_at m d
      before = was.settled (λ k l. by k l (e.cpu == k) refl)
        where
          by-other : (k : ℕ) → k < f.cpus → (e.cpu ≡ k → ⊥) → (o : Option Pending) → edited d (f.processors k).todo ≡ o → o ≡ None
          by-other k l ne None z = refl
          by-other k l ne (Some r) z = absurd (false≢true (sym (alone k l ne) ∙ edited-edits d r (f.processors k).todo z))

          by : (k : ℕ) → k < f.cpus → (b : Bool) → (e.cpu == k) ≡ b → edited d (f.processors k).todo ≡ None
          by k l true z = ap (λ n. edited d (f.processors n).todo) (sym (eqb-true e.cpu k z)) ∙ ap (edited d) at
          by k l false z = by-other k l (eqb-false e.cpu k z) (edited d (f.processors k).todo) refl

      moved-is : e.moved ≡ Exchange.edited (before_in e.moved) (domain_after (before_in e.moved) (edit_of f.image q (before_in e.moved)))
      moved-is = sym (ap (λ (s : FineStep). s.moved) law.by.may.makes) ∙ ap (λ (z : Todos). moves f.image p z e.act e.moved) at

      given : parts f d ≡ before_in e.moved
      given =
          ap before_in (sym (ap (parts_moves (parts f d) (FineAct.Unseen Unseen.Edit)) moved-is)
          ∙ subst (λ (s : SiteState). site_moves f.image s (FineAct.Unseen Unseen.Edit) e.moved ≡ e.moved) (cell-is (f.sites (Site.parts d)) (law.rel.sorts (Site.parts d))).1
          (subst (λ (z : Site × FineAct). site_moves f.image (f.sites z.0) z.1 e.moved ≡ e.moved) (λ j. (site j, said j)) (ap (λ (s : FineStep). s.moved) law.taken.filled_in)))

      here : before_in e.moved ≡ T.domain_at m d
      here = sym given ∙ before

      cell : parts later d ≡ domain_after (T.domain_at m d) (edit_of f.image q (T.domain_at m d))
      cell =
          cell-here site (FineAct.Unseen Unseen.Edit) said
          ∙ (ap (parts_after (parts f d) (FineAct.Unseen Unseen.Edit)) moved-is ∙ ap (λ b. domain_after b (edit_of f.image q b)) here)

      reply : now.reply ≡ reply_to (edit_of f.image q (T.domain_at m d))
      reply =
          ap (λ (z : Processor). z.reply) (quiet-next f.image p e (Todo.edit d q ∷ todo) Unseen.Edit at said refl)
          ∙ ap (λ b. reply_to (edit_of f.image q b)) here

      some-same : {a b : Pending} → Some a ≡ Some b → a ≡ b
      some-same {a} z = ap (λ (o : Option Pending). unwrap_or o a) z

      by : (k : ℕ) (r : Pending) → k < f.cpus → edited d (later.processors k).todo ≡ Some r → (b : Bool) → (e.cpu == k) ≡ b
          → (parts later d ≡ domain_after (T.domain_at m d) (edit_of f.image r (T.domain_at m d))) × ((later.processors k).reply ≡ reply_to (edit_of f.image r (T.domain_at m d)))
      by k r l is true z =
          let same = some-same (sym made ∙ (sym (ap (λ (y : Processor). edited d y.todo) (mine-is k z)) ∙ is)) in
          subst (λ s. (parts later d ≡ domain_after (T.domain_at m d) (edit_of f.image s (T.domain_at m d))) × ((later.processors k).reply ≡ reply_to (edit_of f.image s (T.domain_at m d)))) same
          (cell, ap (λ (y : Processor). y.reply) (mine-is k z) ∙ reply)
      by k r l is false z =
          absurd (false≢true (sym (alone k l (eqb-false e.cpu k z)) ∙ edited-edits d r (f.processors k).todo (sym (ap (λ (y : Processor). edited d y.todo) (other-is k z)) ∙ is)))

  -- Its event.

  edit-event : (q : Pending) (rest : Steps) (todo : Todos) (s : State) → p.todo ≡ Todo.show q rest ∷ todo → edits_step d q ≡ true
      → T.domain_at s d ≡ domain_after (T.domain_at m d) (edit_of m.image q (T.domain_at m d)) → is_edit e.act ≡ false → (domain later d).writer ≡ false
      → (p.reply ≡ reply_to (edit_of f.image q (T.domain_at m d)) → (domain later d).init ≡ is_some (domain_after (T.domain_at m d) (edit_of f.image q (T.domain_at m d))))
      → StandsFor later s d
  edit-event q rest todo s at is after quiet off init =
      record {
        init = init r.1 ∙ ap is_some (sym after-is);
        settled = λ h. cell-same quiet ∙ (r.0 ∙ sym after-is);
        changed = λ k w l there.
            let counts = domain-counts f m e law d few in
            let none = edits-of later.processors k 0 l (sym counts.writers ∙ ap one_if off) in
            let some = ap one_if (edited-edits d w (later.processors k).todo there) in
            absurd (omega (arith, none, some));
      }
    where
      r : (parts f d ≡ domain_after (T.domain_at m d) (edit_of f.image q (T.domain_at m d))) × (p.reply ≡ reply_to (edit_of f.image q (T.domain_at m d)))
      r = was.changed e.cpu q law.by.named (ap (edited d) at ∙ ap (λ b. if b then Some q else None) is)

      after-is : T.domain_at s d ≡ domain_after (T.domain_at m d) (edit_of f.image q (T.domain_at m d))
      after-is = after ∙ ap (λ (i : Image). domain_after (T.domain_at m d) (edit_of i q (T.domain_at m d))) law.rel.image

  -- Any other step.

  none-here : (q : Todo) (todo : Todos) → is_neither q ≡ true → edited d (q ∷ todo) ≡ edited d todo
  none-here (Todo.show q rest) todo h = absurd (false≢true h)
  none-here (Todo.write_claim u) todo h = absurd (false≢true h)
  none-here (Todo.edit u q) todo h = absurd (false≢true h)
  none-here (Todo.read_claim u) todo h = absurd (false≢true h)
  none-here q todo h = refl

  neither-claim : (q : Todo) → is_neither q ≡ true → (is_read_claim q ≡ false) × (is_told q ≡ false)
  neither-claim (Todo.read_claim u) h = absurd (false≢true h)
  neither-claim (Todo.edit u q) h = absurd (false≢true h)
  neither-claim q h = (refl, refl)

  neither-last : (q : Todo) (todo : Todos) → is_neither q ≡ true → ReadsLast e q todo
  neither-last (Todo.show q rest) todo h = absurd (false≢true h)
  neither-last q todo h = tt

  -- neither an event of an instruction nor a step of an edit, nor a claim to read
  neither : (q : Todo) (todo : Todos) (s : State) → p.todo ≡ q ∷ todo → is_neither q ≡ true → s.domains ≡ m.domains → is_init e.act ≡ false → is_edit e.act ≡ false → StandsFor later s d
  neither q todo s at plain same no-init no-edit =
      let c = neither-claim q plain in
      unchanged s (ap (λ (all : List (Option Partitions)). slice_index_or all d None) same) (init-same no-init) (cell-same no-edit)
      (edited-after q todo at c.0 (neither-last q todo plain) ∙ (sym (none-here q todo plain) ∙ sym (ap (edited d) at)))
      (inl (next-reply f.image p e q todo at c.1))

  idle-stands : (s : State) → p.todo ≡ [] → s.domains ≡ m.domains → is_init e.act ≡ false → is_edit e.act ≡ false → StandsFor later s d
  idle-stands s at same no-init no-edit =
      let none = takes-read f.image (edited d) None (edited-reads f.image d) p e at in
      unchanged s (ap (λ (all : List (Option Partitions)). slice_index_or all d None) same) (init-same no-init) (cell-same no-edit) (none ∙ sym (ap (edited d) at)) (inr none)

  shown-last : (q : Pending) (rest : Steps) (todo : Todos) → p.todo ≡ Todo.show q rest ∷ todo → (todo ≡ behind_shown f.image p.context q) × ReadsLast e (Todo.show q rest) todo
  shown-last q rest todo at =
      let behind = (subst (Fits f.image p.context) at (law.rel.processors e.cpu law.by.named).list.fits).1 in
      (behind, λ read. behind ∙ read-rests f.image p p.context q e.act (made-says f m e law (Todo.show q rest ∷ todo) at) read)

  edited-settling : (c : Context) (o : Option ℕ) (q : Pending) → edited d (settling f.image c o q) ≡ None
  edited-settling c None q = refl
  edited-settling c (Some deadline) q = refl

  edited-behind : (c : Context) (q : Pending) → edited d (behind_shown f.image c q) ≡ None
  edited-behind c (Pending.Work a ask) = edited-settling c (armed_for f.image c (Pending.Work a ask)) (Pending.Work a ask)
  edited-behind c (Pending.Join who timeout) = edited-settling c (armed_for f.image c (Pending.Join who timeout)) (Pending.Join who timeout)
  edited-behind c (Pending.FutexWait a value timeout) = edited-settling c (armed_for f.image c (Pending.FutexWait a value timeout)) (Pending.FutexWait a value timeout)
  edited-behind c q = refl

  -- an event of an instruction that edits another domain, or none
  aside : (q : Pending) (rest : Steps) (todo : Todos) (s : State) → p.todo ≡ Todo.show q rest ∷ todo → edits_step d q ≡ false → T.domain_at s d ≡ T.domain_at m d
      → (domain later d).init ≡ (domain f d).init → is_edit e.act ≡ false → StandsFor later s d
  aside q rest todo s at none same init no-edit =
      let l = shown-last q rest todo at in
      let empty = edited-after (Todo.show q rest) todo at refl l.1 ∙ (ap (edited d) l.0 ∙ edited-behind p.context q) in
      unchanged s same init (cell-same no-edit) (empty ∙ sym (ap (edited d) at ∙ ap (λ b. if b then Some q else None) none)) (inr empty)

  -- A step that no trace shows.

  quiet-claim : (u : Option ℕ) (todo : Todos) → p.todo ≡ Todo.read_claim u ∷ todo → StandsFor later m d
  quiet-claim u todo at =
      unchanged m refl (init-same (ap is_init said)) (cell-same (ap is_edit said)) (none u todo at (frame (Todo.read_claim u) todo at) ∙ sym (before u todo at (frame (Todo.read_claim u) todo at)))
      (inr (none u todo at (frame (Todo.read_claim u) todo at)))
    where
      said : e.act ≡ FineAct.Unseen Unseen.ReadClaim
      said = made-says f m e law (Todo.read_claim u ∷ todo) at

      exact : (u : Option ℕ) (todo : Todos) → p.todo ≡ Todo.read_claim u ∷ todo → now ≡ goes_on_by f.image p e (Todo.read_claim u ∷ todo)
      exact u todo at = quiet-next f.image p e (Todo.read_claim u ∷ todo) Unseen.ReadClaim at (made-says f m e law (Todo.read_claim u ∷ todo) at) refl

      memory-none : (q : Pending) → OnMemory q → (if edits_step d q then Some q else None) ≡ None
      memory-none q on = ap (λ b. if b then Some q else None) (memory-edits-none d q on)

      unless : (b : Bool) (q : Pending) (rest : Steps) (over : Todos) → edited d (unless_loaded b (Todo.region_load ∷ Todo.show q rest ∷ access_over over)) ≡ (if edits_step d q then Some q else None)
      unless true q rest over = refl
      unless false q rest over = refl

      claim : (w : ℕ) (init : Bool) (todo : Todos) → edited d (after_claim p w init 0 todo).todo ≡ edited d todo
      claim w true todo = refl
      claim w false todo = refl

      none : (u : Option ℕ) (todo : Todos) → p.todo ≡ Todo.read_claim u ∷ todo → Behind f.image (Todo.read_claim u) todo → edited d now.todo ≡ None
      none None todo at h =
          ap (λ (z : Processor). edited d z.todo) (exact None todo at)
          ∙ (ap (λ (z : Todos). edited d (unless_loaded (is_of (key_of (record p { version = (domain_in e.word).version })) p.table) z)) (h.1 ∙ ap (λ (z : Todos). Todo.region_load ∷ z) h.2.3)
          ∙ (unless (is_of (key_of (record p { version = (domain_in e.word).version })) p.table) h.2.0 h.2.1 h.2.2 ∙ memory-none h.2.0 h.2.4))
      none (Some w) todo at h =
          ap (λ (z : Processor). edited d z.todo) (exact (Some w) todo at) ∙ (claim w (domain_in e.word).init todo ∙ ap (edited d) h.2)

      before : (u : Option ℕ) (todo : Todos) → p.todo ≡ Todo.read_claim u ∷ todo → Behind f.image (Todo.read_claim u) todo → edited d p.todo ≡ None
      before None todo at h = ap (edited d) (at ∙ ap (λ (z : Todos). Todo.read_claim None ∷ z) (h.1 ∙ ap (λ (z : Todos). Todo.region_load ∷ z) h.2.3)) ∙ memory-none h.2.0 h.2.4
      before (Some w) todo at h = ap (edited d) (at ∙ ap (λ (z : Todos). Todo.read_claim (Some w) ∷ z) h.2)

  write-claimed : (u : ℕ) (todo : Todos) → p.todo ≡ Todo.write_claim u ∷ todo → StandsFor later m d
  write-claimed u todo at =
      let said = made-says f m e law (Todo.write_claim u ∷ todo) at in
      let h = frame (Todo.write_claim u) todo at in
      let none = edited-after (Todo.write_claim u) todo at refl tt ∙ ap (edited d) h.2 in
      unchanged m refl (init-same (ap is_init said)) (cell-same (ap is_edit said)) (none ∙ sym (ap (edited d) at)) (inr none)

  edit-there : (u : ℕ) (q : Pending) (todo : Todos) → p.todo ≡ Todo.edit u q ∷ todo → StandsFor later m d
  edit-there u q todo at = by (u == d) refl
    where
      h : Behind f.image (Todo.edit u q) todo
      h = frame (Todo.edit u q) todo at

      by : (b : Bool) → (u == d) ≡ b → StandsFor later m d
      by true same = edit-here q todo (at ∙ ap (λ n. Todo.edit n q ∷ todo) (eqb-true u d same))
      by false other =
          let said = made-says f m e law (Todo.edit u q ∷ todo) at in
          let site = made-at f m e law (Todo.edit u q ∷ todo) at in
          let none = edited-after (Todo.edit u q) todo at refl tt
          ∙ (ap (edited d) h.1 ∙ ap (λ b. if b then Some q else None) (edits-one d u q h.2 ∙ (eqb-swap d u ∙ other))) in
          unchanged m refl (init-same (ap is_init said))
          (ap (λ b. parts_state (cond b (s_next f.image (f.sites (Site.parts d)) e) (f.sites (Site.parts d)))) (ap (λ i. same_site i (Site.parts d)) site ∙ other))
          (none ∙ sym (ap (edited d) at)) (inr none)

  quiet-part : (u : Unseen) → e.act ≡ FineAct.Unseen u → (todo : Todos) → p.todo ≡ todo → StandsFor later m d
  quiet-part u said [] at = idle-stands m at refl (ap is_init said) (ap is_edit (made-says f m e law [] at) ∙ no-edit (is_due_act e.act) (is_tick e.act))
    where
      turn : (moved : Exchange) → is_edit (says_turn f.image p moved) ≡ false
      turn (Exchange.thread c None) = refl
      turn (Exchange.thread c (Some told)) = refl
      turn moved = refl

      no-edit : (due tick : Bool) → is_edit (if due then FineAct.Unseen Unseen.Due else if tick then by_actor f.image p (Act.Tick (now_in (act_in e.act))) else says_turn f.image p e.moved) ≡ false
      no-edit true tick = refl
      no-edit false true = refl
      no-edit false false = turn e.moved
  quiet-part u said (Todo.show q rest ∷ todo) at =
      aside q rest todo m at (no-edit q (sym said ∙ made-says f m e law (Todo.show q rest ∷ todo) at)) refl (init-same (ap is_init said))
      (ap is_edit (made-says f m e law (Todo.show q rest ∷ todo) at) ∙ shows-no-edit q)
    where
      unshown : {A : Type 0} {x : Event} {y : More} → FineAct.Unseen u ≡ FineAct.Shown x y → A
      unshown h = absurd (true≢false (ap is_unseen h))

      no-edit : (q : Pending) → FineAct.Unseen u ≡ says_show f.image p q e.act → edits_step d q ≡ false
      no-edit (Pending.DomInit v parts) h = unshown h
      no-edit (Pending.DomAdd v range attr) h = unshown h
      no-edit (Pending.DomRemove v range attr) h = unshown h
      no-edit q h = refl

      begins-no : (q : Pending) → is_edit (begins f.image p q e.act) ≡ false
      begins-no q = visits-no-edit (is_word_read e.act) _ _ refl (visits-no-edit (is_killed e.act) _ _ refl refl)

      shows-no-edit : (q : Pending) → is_edit (says_show f.image p q e.act) ≡ false
      shows-no-edit Pending.Begin = begins-no Pending.Begin
      shows-no-edit Pending.Exit = begins-no Pending.Exit
      shows-no-edit q = refl
  quiet-part u said (Todo.read_claim v ∷ todo) at = quiet-claim v todo at
  quiet-part u said (Todo.write_claim v ∷ todo) at = write-claimed v todo at
  quiet-part u said (Todo.edit v q ∷ todo) at = edit-there v q todo at
  quiet-part u said (Todo.pass who x ∷ todo) at = neither (Todo.pass who x) todo m at refl refl (ap is_init said) (ap is_edit (made-says f m e law (Todo.pass who x ∷ todo) at) ∙ visits-no-edit (is_visit e.act) _ _ refl refl)
  quiet-part u said (Todo.drop x ∷ todo) at = neither (Todo.drop x) todo m at refl refl (ap is_init said) (ap is_edit (made-says f m e law (Todo.drop x ∷ todo) at) ∙ visits-no-edit (is_visit e.act) _ _ refl refl)
  quiet-part u said (Todo.clean_pair who x ∷ todo) at =
      neither (Todo.clean_pair who x) todo m at refl refl (ap is_init said) (ap is_edit (made-says f m e law (Todo.clean_pair who x ∷ todo) at) ∙ visits-no-edit (is_visit e.act) _ _ refl refl)
  quiet-part u said (Todo.look who site before ∷ todo) at =
      neither (Todo.look who site before) todo m at refl refl (ap is_init said) (ap is_edit (made-says f m e law (Todo.look who site before ∷ todo) at) ∙ visits-no-edit (is_void e.act) _ _ refl refl)
  quiet-part u said (Todo.rouse who ∷ todo) at = neither (Todo.rouse who) todo m at refl refl (ap is_init said) (ap is_edit (made-says f m e law (Todo.rouse who ∷ todo) at) ∙ visits-no-edit (is_void e.act) _ _ refl refl)
  quiet-part u said (Todo.leave ∷ todo) at = neither Todo.leave todo m at refl refl (ap is_init said) (ap is_edit (made-says f m e law (Todo.leave ∷ todo) at) ∙ visits-no-edit (is_shut_act e.act) _ _ refl refl)
  quiet-part u said (Todo.handle deadline mark ∷ todo) at =
      neither (Todo.handle deadline mark) todo m at refl refl (ap is_init said) (ap is_edit (made-says f m e law (Todo.handle deadline mark ∷ todo) at) ∙ visits-no-edit (is_void e.act) _ _ refl refl)
  quiet-part u said (q ∷ todo) at = neither q todo m at refl refl (ap is_init said) (ap is_edit (made-says f m e law (q ∷ todo) at))

  -- An event.

  in-domains : d < length m.domains
  in-domains =
      let wide = law.sound.wide.domains in
      let same = ap (λ (i : Image). length i.domains) law.rel.image in
      omega (arith, few, wide, same)

  edits-event : (u : ℕ) (q : Pending) (rest : Steps) (todo : Todos) (s : State) → p.todo ≡ Todo.show q rest ∷ todo → edits_step u q ≡ true → e.site ≡ Site.domain u
      → s.domains ≡ slice_set m.domains u (domain_after (T.domain_at m u) (edit_of m.image q (T.domain_at m u))) → is_edit e.act ≡ false
      → ((w : DomWord) → (Words.domain_after w e.act).writer ≡ false)
      → (p.reply ≡ reply_to (edit_of f.image q (T.domain_at m d)) → (Words.domain_after (domain f d) e.act).init ≡ is_some (domain_after (T.domain_at m d) (edit_of f.image q (T.domain_at m d))))
      → StandsFor later s d
  edits-event u q rest todo s at is site makes quiet off init = by (u == d) refl
    where
      by : (b : Bool) → (u == d) ≡ b → StandsFor later s d
      by false other =
          aside q rest todo s at (edits-one d u q is ∙ (eqb-swap d u ∙ other))
          (ap (λ (all : List (Option Partitions)). slice_index_or all d None) makes ∙ get_or-set_other m.domains u d _ None (λ h. eqb-false u d other (sym h)))
          (ap (λ (w : DomWord). w.init) (word-else f m e law d (ap (λ i. same_site i (Site.domain d)) site ∙ other))) quiet
      by true same =
          let k = eqb-true u d same in
          let word = word-here f m e law d e.act refl (site ∙ ap Site.domain k) in
          edit-event q rest todo s at (subst (λ n. edits_step n q ≡ true) k is)
          (ap (λ (all : List (Option Partitions)). slice_index_or all d None) (makes ∙ ap (λ n. slice_set m.domains n (domain_after (T.domain_at m n) (edit_of m.image q (T.domain_at m n)))) k)
          ∙ get_or-set_same m.domains d _ None in-domains)
          quiet (ap (λ (w : DomWord). w.writer) word ∙ off (domain f d)) (λ r. ap (λ (w : DomWord). w.init) word ∙ init r)

  stands-beside : (q : Pending) (rest : Steps) (todo : Todos) (x : ℕ) → Shows f m e.cpu e q rest todo → IsStep f m e.cpu e x q → edits_step d q ≡ false → Makes NoDomains q
      → is_init_act (says_step f.image p q (act_in e.act)) ≡ false → StandsFor later (T.after m p.context.thread x q rest) d
  stands-beside q rest todo x h is none makes no-init =
      aside h.listed rest todo (T.after m p.context.thread x q rest) h.at (by-made h (λ z. edits_step d z ≡ false → edits_step d h.listed ≡ false) (λ killed k. k) (λ killed stopping k. stopped h.listed stopping) none)
      (ap (λ (all : List (Option Partitions)). slice_index_or all d None) (domains-same m p.context.thread x q rest makes))
      (init-same (ap is_init is.said ∙ no-init)) (ap is_edit is.said)
    where
      stopped : (z : Pending) → IsStopping z → edits_step d z ≡ false
      stopped Pending.Begin s = refl
      stopped Pending.Exit s = refl
      stopped Pending.Killed s = refl
      stopped z s = absurd s

  by-event : (q : Pending) (rest : Steps) (todo : Todos) (x : ℕ) → Shows f m e.cpu e q rest todo → IsShown q → IsStep f m e.cpu e x q → StandsFor later (T.after m p.context.thread x q rest) d
  by-event (Pending.DomInit u parts) rest todo x h shown is =
      edits-event u (Pending.DomInit u parts) rest todo _ (at-made h tt) (eq-eqb u u refl) (site-is h) refl (ap is_edit is.said) (λ w. ap (λ a. (Words.domain_after w a).writer) is.said)
      (λ r.
      ap (λ a. (Words.domain_after (domain f d) a).init) is.said
      ∙ ((λ i. was.init i || Words.is_zero (r i)) ∙ sym (inits-some (T.domain_at m d) (edit_of f.image (Pending.DomInit u parts) (T.domain_at m d)))))
  by-event (Pending.DomAdd u range attr) rest todo x h shown is =
      edits-event u (Pending.DomAdd u range attr) rest todo _ (at-made h tt) (eq-eqb u u refl) (site-is h) refl (ap is_edit is.said) (λ w. ap (λ a. (Words.domain_after w a).writer) is.said)
      (λ r.
      ap (λ a. (Words.domain_after (domain f d) a).init) is.said
      ∙ (or-false (domain f d).init ∙ (was.init ∙ sym (adds-some f.image u range attr (T.domain_at m d)))))
  by-event (Pending.DomRemove u range attr) rest todo x h shown is =
      edits-event u (Pending.DomRemove u range attr) rest todo _ (at-made h tt) (eq-eqb u u refl) (site-is h) refl (ap is_edit is.said) (λ w. ap (λ a. (Words.domain_after w a).writer) is.said)
      (λ r.
      ap (λ a. (Words.domain_after (domain f d) a).init) is.said
      ∙ (or-false (domain f d).init ∙ (was.init ∙ sym (removes-some f.image u range attr (T.domain_at m d)))))
  by-event (Pending.Load to a n) rest todo x h shown is = stands-beside (Pending.Load to a n) rest todo x h is refl tt (either-act is_init_act false (allows f.image p Access.Read a.0 n) _ _ refl refl)
  by-event (Pending.Store a n value) rest todo x h shown is = stands-beside (Pending.Store a n value) rest todo x h is refl tt (either-act is_init_act false (allows f.image p Access.Write a.0 n) _ _ refl refl)
  by-event (Pending.Fetch a) rest todo x h shown is = stands-beside (Pending.Fetch a) rest todo x h is refl tt (either-act is_init_act false (allows f.image p Access.Exec a.0 4) _ _ refl refl)
  by-event q rest todo x h shown is = stands-beside q rest todo x h is refl tt refl

  on-beside : (t x : ℕ) (q : Pending) → Beside f m e t x q → StandsFor later (T.after m t x q (thread_at m t).pending) d
  on-beside t x _ (cuts who site before _ todo at place inside said) =
      let q = Pending.Cut (to_thread who) in neither (Todo.look who site before) todo _ at refl (domains-same m t x q (thread_at m t).pending tt) (ap is_init said) (ap is_edit said)
  on-beside t x _ (times_out deadline site _ who todo at place inside said) =
      neither (Todo.handle deadline (Mark.Thread who site)) todo _ at refl (domains-same m t x (Pending.TimeOut who) (thread_at m t).pending tt) (ap is_init said) (ap is_edit said)
  on-beside t x _ (expires deadline z todo at inside said) =
      neither (Todo.handle deadline (Mark.Timer z)) todo _ at refl (domains-same m t x Pending.Expire (thread_at m t).pending tt) (ap is_init said) (ap is_edit said)
  on-beside t x _ (ticks at said) = idle-stands _ at (domains-same m t x Pending.Tick (thread_at m t).pending tt) (ap is_init said) (ap is_edit said)
  on-beside t x _ (leaves todo at said) = neither Todo.leave todo _ at refl (domains-same m t x Pending.Left (thread_at m t).pending tt) (ap is_init said) (ap is_edit said)

  stands-part : (s : State) → Leaves f m e s → StandsFor later s d
  stands-part _ (nothing u said) = quiet-part u said p.todo refl
  stands-part _ (event q rest todo x h shown is) = by-event q rest todo x h shown is
  stands-part _ (resumes c told rest idle moved said) =
      idle-stands (T.after m c.thread 0 Pending.Resume rest) idle (domains-same m c.thread 0 Pending.Resume rest tt) (ap is_init said) (ap is_edit said)
  stands-part _ (passes who x rest todo h said) =
      neither (Todo.pass who x) todo (T.after m p.context.thread x (Pending.Inherit (to_thread who)) rest) h.at refl refl (ap is_init said) (ap is_edit said)
  stands-part _ (drops from x rest todo h said) =
      neither (Todo.drop x) todo (T.after m p.context.thread x (Pending.Drops from) rest) h.at refl
      (domains-same m p.context.thread x (Pending.Drops from) rest tt) (ap is_init said) (ap is_edit said)
  stands-part _ (cleans who x rest todo h said) =
      neither (Todo.clean_pair who x) todo (T.after m p.context.thread x (Pending.CleanPair (to_thread who)) rest) h.at refl
      (domains-same m p.context.thread x (Pending.CleanPair (to_thread who)) rest tt) (ap is_init said) (ap is_edit said)
  stands-part _ (recycles x rest todo at l said chosen) =
      neither (Todo.recycle x) todo (T.after m p.context.thread x Pending.Recycle rest) at refl
      (domains-same m p.context.thread x Pending.Recycle rest tt) (ap is_init said) (ap is_edit said)
  stands-part _ (beside t x q how chosen started) = on-beside t x q how

  pub domain-part : (s : State) → Leaves f m e s → DomainIs later s d
  domain-part s how =
      let counts = domain-counts f m e law d few in
      let stands = stands-part s how in
      record { init = stands.init; settled = stands.settled; changed = stands.changed; writers = counts.writers; readers = counts.readers; apart = counts.apart }
