-- The word of a domain after a lawful step: it stays, or is what the step leaves there; and a step leaves version, writer and the machine's
-- domain, or is the event of an edit.
use Rattle.um_refinement.proofs.Words.{thread_at, ◌≡◌, ◌⊎◌, inl, inr, ℕ, ◌+◌, Bool, true, false, cond, List, Option, None, refl, sym, ap, ◌∙◌, subst, ◌==◌, IsTrue, nat_lt, slice_index_or, slice_set, and_parts, eqb-false, eqb-true, false≢true, true≢false, get_or-set_other, Act, Partitions, Pending, Steps, to_thread, State, DomWord, FineAct, Unseen, act_in, allows, says_step, Todos, SiteState, is_sort, s_next, same_site, site_after, site_takes, FineStep, Site, same-itself, Fine, domain, domain_state, counted_domain, domain_after, domain_after_act, domain_takes}
use Rattle.um_base.specs.declared.names.Access.TheVariants as Access
use Rattle.um_machine.specs.Table as T
use Rattle.um_refinement.proofs.DomainFacts.{NoDomains, domains-same}
use Rattle.um_refinement.proofs.Erased.{around}
use Rattle.um_refinement.proofs.Leaves.{Beside, Lawful, Leaves, acting, beside, cleans, cuts, drops, event, expires, leaves, mine, nothing, passes, recycles, resumes, ticks, times_out}
use Rattle.um_refinement.proofs.Offered.{IsStep, Shows, site-is, either-act}
use Rattle.um_refinement.proofs.WordsKept.{IsShown}
use Rattle.um_refinement.proofs.Writes.{Makes}

-- the events of edits
abbrev pub is_dom_act : Act → Bool
is_dom_act (Act.DomInit d reply) = true
is_dom_act (Act.DomAdd d range attr reply) = true
is_dom_act (Act.DomRemove d range attr reply) = true
is_dom_act act = false

abbrev pub is_dom : FineAct → Bool
is_dom (FineAct.Shown said more) = is_dom_act said.act
is_dom (FineAct.Unseen u) = false

act-stays : (w : DomWord) (act : FineAct) → is_dom act ≡ false → ((domain_after w act).version ≡ w.version) × ((domain_after w act).writer ≡ false → w.writer ≡ false)
act-stays w (FineAct.Shown said more) h = by said.act h
  where
    by : (act : Act) → is_dom_act act ≡ false → ((domain_after_act w act).version ≡ w.version) × ((domain_after_act w act).writer ≡ false → w.writer ≡ false)
    by (Act.DomInit d reply) h = absurd (true≢false h)
    by (Act.DomAdd d range attr reply) h = absurd (true≢false h)
    by (Act.DomRemove d range attr reply) h = absurd (true≢false h)
    by (Act.DomMove d who reply) h = (refl, λ k. k)
    by act h = (refl, λ k. k)
act-stays w (FineAct.Unseen Unseen.ReadClaim) h = (refl, λ k. k)
act-stays w (FineAct.Unseen Unseen.ReadDone) h = (refl, λ k. k)
act-stays w (FineAct.Unseen Unseen.WriteClaim) h = (refl, λ k. absurd (true≢false k))
act-stays w (FineAct.Unseen u) h = (refl, λ k. k)

module _ (f : Fine) (m : State) (e : FineStep) (law : Lawful f m e) (d : ℕ) where
  open around f e use {later}

  pub is-domain : f.sites (Site.domain d) ≡ SiteState.domain (domain f d)
  is-domain = by (f.sites (Site.domain d)) (law.rel.sorts (Site.domain d))
    where
      by : (s : SiteState) → IsTrue (is_sort (Site.domain d) s) → s ≡ SiteState.domain (domain_state s)
      by (SiteState.domain w) h = refl
      by s h = absurd (false≢true h)

  pub word-else : same_site e.site (Site.domain d) ≡ false → domain later d ≡ domain f d
  word-else off = ap (λ b. domain_state (cond b (s_next f.image (f.sites (Site.domain d)) e) (f.sites (Site.domain d)))) off

  on-site : same_site e.site (Site.domain d) ≡ true → (act : FineAct) → e.act ≡ act → domain later d ≡ counted_domain (domain_after (domain f d) act)
  on-site on act said =
      ap (λ b. domain_state (cond b (s_next f.image (f.sites (Site.domain d)) e) (f.sites (Site.domain d)))) on
      ∙ (ap (λ (s : SiteState). domain_state (site_after f.image s e.act e.moved)) is-domain
      ∙ ap (λ a. counted_domain (domain_after (domain f d) a)) said)

  pub word-here : (act : FineAct) → e.act ≡ act → e.site ≡ Site.domain d → domain later d ≡ counted_domain (domain_after (domain f d) act)
  word-here act said site = on-site (ap (λ i. same_site i (Site.domain d)) site ∙ same-itself (Site.domain d)) act said

  pub word-takes : (act : FineAct) → e.act ≡ act → e.site ≡ Site.domain d → domain_takes (domain f d) act ≡ true
  word-takes act said site =
      (and_parts (nat_lt (domain f d).number 268435455) (domain_takes (domain f d) act)
      (subst (λ (s : SiteState). site_takes s act ≡ true) is-domain
      (subst (λ (z : Site × FineAct). site_takes (f.sites z.0) z.1 ≡ true) (λ j. (site j, said j)) law.taken.takes))).1

  -- a step stays with the version, and takes no writer away
  abbrev pub Stays : State → Type 0
  Stays s = ((domain later d).version ≡ (domain f d).version) × ((domain later d).writer ≡ false → (domain f d).writer ≡ false) × (T.domain_at s d ≡ T.domain_at m d)

  -- or it is the event of the one that writes
  abbrev pub IsEdited : Type 0
  IsEdited = ((domain later d).version ≡ (domain f d).version + 1) × ((domain f d).writer ≡ true)

  stays : (s : State) → is_dom e.act ≡ false → s.domains ≡ m.domains → Stays s
  stays s quiet same = by (same_site e.site (Site.domain d)) refl
    where
      below : T.domain_at s d ≡ T.domain_at m d
      below = ap (λ (all : List (Option Partitions)). slice_index_or all d None) same

      by : (b : Bool) → same_site e.site (Site.domain d) ≡ b → Stays s
      by true q =
          let word = on-site q e.act refl in
          let kept = act-stays (domain f d) e.act quiet in
          (ap (λ (w : DomWord). w.version) word ∙ kept.0, λ h. kept.1 (sym (ap (λ (w : DomWord). w.writer) word) ∙ h), below)
      by false q =
          let word = word-else q in (ap (λ (w : DomWord). w.version) word, λ h. sym (ap (λ (w : DomWord). w.writer) word) ∙ h, below)

  edits : (u : ℕ) (act : FineAct) (s : State) (ps : Option Partitions) → e.site ≡ Site.domain u → e.act ≡ act → s.domains ≡ slice_set m.domains u ps
      → ((w : DomWord) → (domain_after w act).version ≡ w.version + 1) → ((w : DomWord) → domain_takes w act ≡ true → w.writer ≡ true) → Stays s ⊎ IsEdited
  edits u act s ps site said same version takes = by (u == d) refl
    where
      by : (b : Bool) → (u == d) ≡ b → Stays s ⊎ IsEdited
      by true q =
          let here = site ∙ ap Site.domain (eqb-true u d q) in
          inr (ap (λ (w : DomWord). w.version) (word-here act said here) ∙ version (domain f d), takes (domain f d) (word-takes act said here))
      by false q =
          let word = word-else (ap (λ i. same_site i (Site.domain d)) site ∙ q) in
          inl (
            ap (λ (w : DomWord). w.version) word,
            λ h. sym (ap (λ (w : DomWord). w.writer) word) ∙ h,
            ap (λ (all : List (Option Partitions)). slice_index_or all d None) same ∙ get_or-set_other m.domains u d ps None (λ h. eqb-false u d q (sym h)),
          )

  keeps : (q : Pending) (rest : Steps) (todo : Todos) (x : ℕ) → IsStep f m e.cpu e x q → Makes NoDomains q → is_dom_act (says_step f.image (f.processors e.cpu) q (act_in e.act)) ≡ false
      → Stays (T.after m (mine f m e) x q rest) ⊎ IsEdited
  keeps q rest todo x is makes quiet = inl (stays (T.after m (mine f m e) x q rest) (ap is_dom is.said ∙ quiet) (domains-same m (mine f m e) x q rest makes))

  by-event : (q : Pending) (rest : Steps) (todo : Todos) (x : ℕ) → Shows f m e.cpu e q rest todo → IsShown q → IsStep f m e.cpu e x q → Stays (T.after m (mine f m e) x q rest) ⊎ IsEdited
  by-event (Pending.DomInit u parts) rest todo x h shown is = edits u _ (T.after m (mine f m e) x (Pending.DomInit u parts) rest) _ (site-is h) is.said refl (λ w. refl) (λ w k. (and_parts w.writer _ k).0)
  by-event (Pending.DomAdd u range attr) rest todo x h shown is = edits u _ (T.after m (mine f m e) x (Pending.DomAdd u range attr) rest) _ (site-is h) is.said refl (λ w. refl) (λ w k. (and_parts w.writer _ k).0)
  by-event (Pending.DomRemove u range attr) rest todo x h shown is = edits u _ (T.after m (mine f m e) x (Pending.DomRemove u range attr) rest) _ (site-is h) is.said refl (λ w. refl) (λ w k. (and_parts w.writer _ k).0)
  by-event (Pending.Load to a n) rest todo x h shown is = keeps (Pending.Load to a n) rest todo x is tt (either-act is_dom_act false (allows f.image (f.processors e.cpu) Access.Read a.0 n) _ _ refl refl)
  by-event (Pending.Store a n value) rest todo x h shown is = keeps (Pending.Store a n value) rest todo x is tt (either-act is_dom_act false (allows f.image (f.processors e.cpu) Access.Write a.0 n) _ _ refl refl)
  by-event (Pending.Fetch a) rest todo x h shown is = keeps (Pending.Fetch a) rest todo x is tt (either-act is_dom_act false (allows f.image (f.processors e.cpu) Access.Exec a.0 4) _ _ refl refl)
  by-event q rest todo x h shown is = keeps q rest todo x is tt refl

  on-beside : (t x : ℕ) (q : Pending) → Beside f m e t x q → Stays (T.after m t x q (thread_at m t).pending) ⊎ IsEdited
  on-beside _ _ _ (cuts who site before x todo at place inside said) = inl (stays (T.after m (mine f m e) x (Pending.Cut (to_thread who)) (thread_at m (mine f m e)).pending) (ap is_dom said) (domains-same m (mine f m e) x (Pending.Cut (to_thread who)) (thread_at m (mine f m e)).pending tt))
  on-beside _ _ _ (times_out deadline site x who todo at place inside said) = inl (stays (T.after m (acting f m e) x (Pending.TimeOut who) (thread_at m (acting f m e)).pending) (ap is_dom said) (domains-same m (acting f m e) x (Pending.TimeOut who) (thread_at m (acting f m e)).pending tt))
  on-beside _ _ _ (expires deadline x todo at inside said) = inl (stays (T.after m (acting f m e) x.0 Pending.Expire (thread_at m (acting f m e)).pending) (ap is_dom said) (domains-same m (acting f m e) x.0 Pending.Expire (thread_at m (acting f m e)).pending tt))
  on-beside _ _ _ (ticks at said) = inl (stays (T.after m (acting f m e) 0 Pending.Tick (thread_at m (acting f m e)).pending) (ap is_dom said) (domains-same m (acting f m e) 0 Pending.Tick (thread_at m (acting f m e)).pending tt))
  on-beside _ _ _ (leaves todo at said) = inl (stays (T.after m (mine f m e) 0 Pending.Left (thread_at m (mine f m e)).pending) (ap is_dom said) (domains-same m (mine f m e) 0 Pending.Left (thread_at m (mine f m e)).pending tt))

  pub stays-or-edited : (s : State) → Leaves f m e s → Stays s ⊎ IsEdited
  stays-or-edited _ (nothing u said) = inl (stays m (ap is_dom said) refl)
  stays-or-edited _ (event q rest todo x h shown is) = by-event q rest todo x h shown is
  stays-or-edited _ (resumes c told rest idle moved said) = inl (stays (T.after m c.thread 0 Pending.Resume rest) (ap is_dom said) (domains-same m c.thread 0 Pending.Resume rest tt))
  stays-or-edited _ (passes who x rest todo h said) = inl (stays (T.after m (mine f m e) x (Pending.Inherit (to_thread who)) rest) (ap is_dom said) refl)
  stays-or-edited _ (drops from x rest todo h said) =
      inl (stays (T.after m (mine f m e) x (Pending.Drops from) rest) (ap is_dom said) (domains-same m (mine f m e) x (Pending.Drops from) rest tt))
  stays-or-edited _ (cleans who x rest todo h said) =
      inl (stays (T.after m (mine f m e) x (Pending.CleanPair (to_thread who)) rest) (ap is_dom said) (domains-same m (mine f m e) x (Pending.CleanPair (to_thread who)) rest tt))
  stays-or-edited _ (recycles x rest todo at l said chosen) = inl (stays (T.after m (mine f m e) x Pending.Recycle rest) (ap is_dom said) (domains-same m (mine f m e) x Pending.Recycle rest tt))
  stays-or-edited _ (beside t x q how chosen started) = on-beside t x q how
