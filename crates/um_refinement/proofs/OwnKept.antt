-- A processor's event of a pending step leaves the own part of its thread as the machine leaves it, where the relation holds: what goes with
-- the step is what the machine reads and works out.
use Rattle.um_refinement.proofs.Words.{◌≡◌, ℕ, ◌-◌, ◌<◌, true, false, [], length, refl, sym, ap, ◌∙◌, subst, arith, ℤ, slice_index_or, take, ltb-true, true≢false, Act, Found, Ask, Image, ROWS, Addr, Mode, Row, ThreadIx, Amount, Pending, Thread, allowed, bytes_at, string_bytes, Steps, Offers, goes, skips_drops, skips_inherit, is_empty, State, thread_at, FineAct, More, row_named, act_in, bytes_in, outcome_in, shows, Context, as_thread, continues, read, ObjectCell, outcome_of, work_on, Todo, Todos, SiteState, site_moves, Exchange, FineStep, Site, Fine, bytes, object, row, own_part, PIECE, string_read, limit_in, amount, caller, me, readable, text_bytes, tends, false≢true}
use Rattle.um_base.specs.declared.names.Access.TheVariants as Access
use Rattle.um_machine.specs.Table as T
use Rattle.um_fine.specs.Asks.{moves_show, note_number}
use Rattle.um_refinement.specs.Frames.{nothing}
use Rattle.um_refinement.proofs.CallsKnown.{starts-known}
use Rattle.um_refinement.proofs.Erased.{around}
use Rattle.um_refinement.proofs.HeldRows.{checked-claimed, claimed-whole}
use Rattle.um_refinement.proofs.LawfulSteps.{Suits}
use Rattle.um_refinement.proofs.Leaves.{Lawful}
use Rattle.um_refinement.proofs.MemoryPart.{InDomains, held-domain}
use Rattle.um_refinement.proofs.MemorySteps.{allows-it, memory-sort}
use Rattle.um_refinement.proofs.Offered.{runs-first, IsStep, Shows, act-is, behind-is, moved-made, own-part, own-same, shown-offers, shown-on, site-is}
use Rattle.um_refinement.proofs.Own.{Carries, own-after}
use Rattle.um_refinement.proofs.RowSteps.{named-row}
use Rattle.um_refinement.proofs.RowsPart.{named-below}
use Rattle.um_refinement.proofs.Says.{read-agrees, work-agrees}
use Rattle.um_refinement.proofs.TextSteps.{text-bytes}
use Rattle.um_refinement.proofs.WordsKept.{IsShown}
use Rattle.um_refinement.proofs.WorkSteps.{object-sort}

-- only visits go on by a row
any-row : (image : Image) (c : Context) (x : ℕ) (q : Pending) (rest : Steps) (act : Act) (moved : Exchange) → IsShown q
    → continues image c 0 q rest act moved ≡ continues image c x q rest act moved
any-row image c x (Pending.Inherit who) rest act moved h = absurd h
any-row image c x (Pending.Drops from) rest act moved h = absurd h
any-row image c x q rest act moved h = refl

-- its act is the machine's
pub acts : {f : Fine} {m : State} {k : ℕ} {e : FineStep} {q : Pending} {x : ℕ} → IsStep f m k e x q → act_in e.act ≡ T.act_of m (f.processors k).context.thread x q
acts is = ap act_in is.said ∙ is.says

module _ {f : Fine} {m : State} {k : ℕ} {e : FineStep} {rest : Steps} {todo : Todos} where
  -- what the site of the step gives
  moves-at : {q : Pending} → Shows f m k e q rest todo → (i : Site) (act : FineAct) → e.site ≡ i → e.act ≡ act → site_moves f.image (f.sites i) act e.moved ≡ e.moved
  moves-at h i act site said =
      subst (λ (z : Site × FineAct). site_moves f.image (f.sites z.0) z.1 e.moved ≡ e.moved) (λ j. (site j, said j)) (ap (λ (s : FineStep). s.moved) h.taken.filled_in)

  asked : {q : Pending} → (h : Shows f m k e q rest todo) → e.moved ≡ moves_show f.image (f.processors k) q rest e.moved
  asked h = moved-made h

  reads-memory : {q : Pending} → Shows f m k e q rest todo → (a n : ℕ) → read f.image (bytes f) a n ≡ bytes_at m a n
  reads-memory h a n = ap (λ (i : Image). read i (bytes f) a n) (sym h.rel.image) ∙ read-agrees m (bytes f) a n h.rel.memory.memory h.rel.memory.stacks

  copy-in-carries : (x : ℕ) (a : Addr) (amount : Amount) → Shows f m k e (Pending.CopyIn a amount) rest todo → IsStep f m k e x (Pending.CopyIn a amount)
      → allowed m (f.processors k).context.thread Access.Read a.0 (T.amount_of m amount) ≡ true
      → bytes_in e.moved ≡ take PIECE (bytes_at m a.0 (T.amount_of m amount))
  copy-in-carries x a amount h is good =
      let n = T.amount_of m amount in
      let act : FineAct = FineAct.Shown (record { thread = me f.image (f.processors k); act = Act.CopyIn a n true }) More.Nothing in
      let said : e.act ≡ act =
      is.said ∙ ap (λ z. FineAct.Shown (record { thread = me f.image (f.processors k); act = z }) More.Nothing) (is.says ∙ ap (Act.CopyIn a n) good) in
      let memory = memory-sort (f.sites Site.memory) (h.rel.sorts Site.memory) in
      let here = subst (λ (s : SiteState). site_moves f.image s act e.moved ≡ e.moved) memory.1 (moves-at h Site.memory act (site-is h) said) in
      sym (ap bytes_in here) ∙ ap (take PIECE) (reads-memory h a.0 n)

  copy-str-carries : (few : (f.processors k).domain < length f.image.domains) → (a : Addr) → (h : Shows f m k e (Pending.CopyStr a) rest todo)
      → (n : ℕ) → string_read m (f.processors k).context.thread a.0 32 ≡ Found.Length n → bytes_in e.moved ≡ string_bytes m a.0 n
  copy-str-carries few a h n found =
      let p = f.processors k in
      let act = shows f.image p (Pending.CopyStr a) e.act in
      let memory = memory-sort (f.sites Site.memory) (h.rel.sorts Site.memory) in
      let here = subst (λ (s : SiteState). site_moves f.image s act e.moved ≡ e.moved) memory.1 (moves-at h Site.memory act (site-is h) (act-is h)) in
      let limit : limit_in e.moved ≡ readable f.image p a.0 32 = ap limit_in (asked h) in
      let text = text-bytes f.image p (bytes f) m p.context.thread (λ x. allows-it h tt nothing (behind-is h) few Access.Read x 1) (λ x. reads-memory h x 1) 32 a.0 0 n found in
      let all : n - 0 ≡ n = omega arith in
      sym (ap bytes_in here) ∙ (ap (text_bytes f.image (bytes f) a.0) limit ∙ (text.1 ∙ ap (string_bytes m a.0) all))

  work-carries : (a : Addr) (ask : Ask) → row_named f.image a < ROWS
      → (h : Shows f m k e (Pending.Work a ask) rest todo) → 0 < (row f (row_named f.image a)).claims
      → outcome_in e.moved ≡ outcome_of (T.work_of m (f.processors k).context.thread a ask)
  work-carries a ask few h claimed =
      let p = f.processors k in
      let x = row_named f.image a in
      let act = shows f.image p (Pending.Work a ask) e.act in
      let cell = object-sort x (f.sites (Site.object x)) (h.rel.sorts (Site.object x)) in
      let here = subst (λ (s : SiteState). site_moves f.image s act e.moved ≡ e.moved) cell.1 (moves-at h (Site.object x) act (site-is h) (act-is h)) in
      let moved : e.moved ≡ Exchange.asked (caller f.image p ask) (note_number f.image p) (outcome_in e.moved) = asked h in
      let whole = claimed-whole f m h.rel x few claimed in
      let contents = (h.rel.rows x few).contents in
      let own = own-same h in
      let same = work-agrees m p.context.thread x a ask (object f x) p.context (sym (named-row f m h.rel a)) (ap (λ (z : ObjectCell). z.contents) (contents.whole whole)) (ap (λ (z : ObjectCell). z.waiters) (contents.whole whole))
      (ap (λ (z : Thread). z.priority) own) (ap (λ (z : Thread). z.buffer) own) (ap (λ (z : Thread). z.until) own) in
      sym (ap outcome_in here) ∙ ap outcome_of (ap (λ z. work_on (object f x) z) moved ∙ same)

offers-some : (m : State) (t : ℕ) (who : ThreadIx) (script : ℕ) (stack : Row) (priority : ℤ) (mode : Mode) (rest : Steps)
    → Offers m t (Pending.Start who script stack priority mode) rest → (thread_at m t).pending ≡ [] → ⊥
offers-some m t who script stack priority mode rest (goes e) none = true≢false (ap is_empty (sym none ∙ e))
offers-some m t who script stack priority mode rest (skips_inherit e due) none = true≢false (ap is_empty (sym none ∙ e))
offers-some m t who script stack priority mode rest (skips_drops e due) none = true≢false (ap is_empty (sym none ∙ e))
offers-some m t who script stack priority mode _ (tends is started) none = false≢true is

module _ (f : Fine) (m : State) (e : FineStep) (law : Lawful f m e) (suits : Suits f m) (all : InDomains f m) (rest : Steps) (todo : Todos) where
  open around f e use {processor as p}

  abbrev t : ℕ
  t = p.context.thread

  -- nobody starts itself
  pub starts-another : (who : ThreadIx) (script : ℕ) (stack : Row) (priority : ℤ) (mode : Mode) → Shows f m e.cpu e (Pending.Start who script stack priority mode) rest todo → who.0 ≡ t → ⊥
  starts-another who script stack priority mode h same =
      let offers = shown-offers h in
      offers-some m t who script stack priority mode rest offers
      (ap (λ n. (thread_at m n).pending) (sym same) ∙ (starts-known m law.sound t who script stack priority mode rest offers).1)

  module _ (x : ℕ) where
    pub carries : (q : Pending) (h : Shows f m e.cpu e q rest todo) (room : t < length m.threads) → IsShown q → IsStep f m e.cpu e x q
        → Carries m t p.context (own-same h) refl room q e.moved
    carries (Pending.CopyIn a amount) h room shown is = copy-in-carries x a amount h is
    carries (Pending.CopyStr a) h room shown is = copy-str-carries (held-domain all h tt refl) a h
    carries (Pending.Work a ask) h room shown is =
        let few = ltb-true (row_named f.image a) ROWS (named-below f m e law a) in
        let held = ap (λ y. slice_index_or (thread_at m t).checked y false) (sym (named-row f m law.rel a)) ∙ suits.works t a ask rest (shown-offers h) in
        work-carries a ask few h (checked-claimed f m law.rel e.cpu (row_named f.image a) law.by.named few (runs-first law.rel law.by.named (Todo.show h.listed rest) todo h.at (λ hand. hand)) (shown-on h) held)
    carries (Pending.Start who script stack priority mode) h room shown is = starts-another who script stack priority mode h
    carries (Pending.Cut who) h room shown is = absurd shown
    carries Pending.Resume h room shown is = absurd shown
    carries (Pending.CleanPair who) h room shown is = absurd shown
    carries Pending.Recycle h room shown is = absurd shown
    carries q h room shown is = tt

    -- the own part after the event
    pub own-kept : (q : Pending) → Shows f m e.cpu e q rest todo → IsShown q → IsStep f m e.cpu e x q
        → as_thread (continues f.image p.context 0 q rest (act_in e.act) e.moved) ≡ own_part (thread_at (T.after m t x q rest) t)
    own-kept q h shown is =
        let index = (own-part h).index in
        let many = law.sound.wide.threads in
        let room : t < length m.threads = omega (arith, index, many) in
        ap as_thread (any-row f.image p.context x q rest (act_in e.act) e.moved shown)
        ∙ ((λ i. as_thread (continues (sym law.rel.image i) p.context x q rest (acts is i) e.moved))
        ∙ own-after m t p.context (own-same h) refl room x q rest e.moved (carries q h room shown is))
