-- What a processor was told of a domain to which its thread moves is what the machine's move answers, after every lawful step.
use Rattle.um_refinement.proofs.Words.{runs, ◌≡◌, ◌⊎◌, inl, inr, ℕ, ◌<◌, Bool, true, false, cond, [], ◌∷◌, length, Option, Some, None, refl, sym, ap, ◌∙◌, subst, arith, eq-eqb, ◌==◌, ◌&&◌, ◌||◌, is_some, unwrap_or, eqb-true, false≢true, true≢false, Act, Image, Reply, ThreadIx, Partitions, Pending, Thread, Steps, State, thread_at, FineAct, Unseen, DomWord, domain_in, Context, after_claim, p_next, unless_loaded, Todo, Todos, Processor, fails, is_of, key_of, SiteState, s_next, same_site, site_after, word_of, FineStep, Site, same-sound, reads, Fine, domain, one_if, AreFramed, Behind, OnMemory, edits_step, has_claimed, moves_to, moving, Fits, IsOffered, domain_at, move_reply, domain_moved}
use Rattle.um_words.specs.Domains as Words
use Rattle.um_refinement.specs.Offers as O
use Rattle.um_refinement.proofs.DomainPart.{domain-part}
use Rattle.um_refinement.proofs.DomainReads.{is_told, next-reply}
use Rattle.um_refinement.proofs.DomainWords.{IsEdited, Stays, is-domain, stays-or-edited, word-else, word-here}
use Rattle.um_refinement.proofs.Erased.{around}
use Rattle.um_refinement.proofs.Leaves.{Lawful, Leaves}
use Rattle.um_refinement.proofs.ListGrowth.{ReadsLast, is_read_claim}
use Rattle.um_refinement.proofs.HandReads.{moving-runs, offered-noted}
use Rattle.um_refinement.proofs.ListLooks.{known-behind, moving-reads}
use Rattle.um_refinement.proofs.ListTails.{adds-pass, quiet-next, tail-read, takes-read}
use Rattle.um_refinement.proofs.MemorySteps.{part-total}
use Rattle.um_refinement.proofs.Offered.{own-unless, runs-first}
use Rattle.um_refinement.proofs.SchedulerSteps.{made-at, made-says, word-left}
use Rattle.um_refinement.proofs.StepReads.{is-behind}
use Rattle.um_refinement.proofs.StepsLeft.{offered-awake, offered-on}

-- A thread moves to domains of the image alone.
pub record MovesIn (m : State) (n : ℕ) : Type 0 where
  pub next : (t d : ℕ) (who : ThreadIx) (rest : Steps) → (thread_at m t).pending ≡ Pending.DomMove d who ∷ rest → d < n
  pub passed : (t d : ℕ) (u who : ThreadIx) (rest : Steps) → (thread_at m t).pending ≡ Pending.Inherit u ∷ Pending.DomMove d who ∷ rest → d < n
  pub dropped : (t d from : ℕ) (who : ThreadIx) (rest : Steps) → (thread_at m t).pending ≡ Pending.Drops from ∷ Pending.DomMove d who ∷ rest → d < n

-- What is read of a list.

memory-moving : (q : Pending) → OnMemory q → domain_moved q ≡ None
memory-moving (Pending.DomMove d who) on = absurd on
memory-moving q on = refl

edit-moving : (d : ℕ) (q : Pending) → edits_step d q ≡ true → domain_moved q ≡ None
edit-moving d (Pending.DomMove e who) h = absurd (false≢true h)
edit-moving d q h = refl

pub none-some : {A B : Type 0} {a : A} → None ≡ Some a → B
none-some h = absurd (false≢true (ap is_some h))

some-is : {a b : ℕ} → Some a ≡ Some b → a ≡ b
some-is {a} {b} h = ap (λ o. unwrap_or o a) h

-- a move that fails is claimed until its event
moving-claims : (d : ℕ) (reply : Reply) (todo : Todos) → moving todo ≡ Some d → fails reply ≡ true → moves_to d reply todo ≡ true
moving-claims d reply [] h k = none-some h
moving-claims d reply (Todo.read_claim (Some e) ∷ todo) h k = none-some h
moving-claims d reply (Todo.read_done (Some e) ∷ todo) h k = eq-eqb d e (sym (some-is h))
moving-claims d reply (Todo.show (Pending.DomMove e who) rest ∷ todo) h k = λ i. k i && eq-eqb d e (sym (some-is h)) i
moving-claims d reply (Todo.show q rest ∷ todo) h k = none-some h
moving-claims d reply (q ∷ todo) h k = moving-claims d reply todo h k

or-right : (a b : Bool) → b ≡ true → (a || b) ≡ true
or-right true b h = refl
or-right false b h = h

-- the thread is offered the move
moving-offered : (image : Image) (c : Context) (d : ℕ) (todo : Todos) → Fits image c todo → AreFramed image todo → moving todo ≡ Some d → (who : ThreadIx) × (rest : Steps) × IsOffered image c (Pending.DomMove d who) rest
moving-offered image c d [] h f k = none-some k
moving-offered image c d (Todo.show (Pending.DomMove e who) rest ∷ todo) h f k = (who, rest, subst (λ n. IsOffered image c (Pending.DomMove n who) rest) (some-is k) h.0)
moving-offered image c d (Todo.show q rest ∷ todo) h f k = none-some k
moving-offered image c d (Todo.pass who x ∷ todo) h f k = none-some (sym (ap moving h.0.behind ∙ (moving-reads image).expanded c h.0.step h.0.rest) ∙ k)
moving-offered image c d (Todo.drop x ∷ todo) h f k = none-some (sym (ap moving h.behind ∙ (moving-reads image).expanded c h.step h.rest) ∙ k)
moving-offered image c d (Todo.park ∷ todo) h f k = none-some (sym (ap moving h.2) ∙ k)
moving-offered image c d (Todo.sleep ∷ todo) h f k = none-some (sym (ap moving h.2) ∙ k)
moving-offered image c d (Todo.note site ∷ todo) h f k =
    let o = moving-offered image (record c { noted = Some 0 }) d todo (h 0) f.1 k in (o.0, o.1, offered-noted image c 0 (Pending.DomMove d o.0) o.1 o.2)
moving-offered image c d (Todo.leave ∷ todo) h f k = moving-offered image c d todo h.1 f.1 k
moving-offered image c d (Todo.add e ∷ todo) h f k = moving-offered image c d todo h.1 f.1 k
moving-offered image c d (Todo.read_claim (Some e) ∷ todo) h f k = none-some k
moving-offered image c d (Todo.read_done (Some e) ∷ todo) h f k =
    let at = f.0.2 in
    (f.0.0, f.0.1, subst (λ n. IsOffered image c (Pending.DomMove n f.0.0) f.0.1) (some-is k) (subst (Fits image c) at h).0)
moving-offered image c d (q ∷ todo) h f k = moving-offered image c d todo h f.1 k

reply-some : (a b : Option Partitions) → is_some a ≡ is_some b → move_reply a ≡ move_reply b
reply-some None None h = refl
reply-some (Some ps) (Some qs) h = refl
reply-some None (Some qs) h = absurd (false≢true h)
reply-some (Some ps) None h = absurd (true≢false h)

fails-none : (a : Option Partitions) → fails (move_reply a) ≡ false → is_some a ≡ true
fails-none None h = absurd (true≢false h)
fails-none (Some ps) h = refl

-- the word of a domain that is initialised stays so
init-stays : (w : DomWord) (act : FineAct) → w.init ≡ true → (Words.domain_after w act).init ≡ true
init-stays w (FineAct.Shown event more) h = by event.act
  where
    by : (act : Act) → (Words.domain_after_act w act).init ≡ true
    by (Act.DomInit d reply) = ap (λ b. b || Words.is_zero reply) h
    by (Act.DomAdd d range attr reply) = ap (λ b. b || false) h
    by (Act.DomRemove d range attr reply) = ap (λ b. b || false) h
    by (Act.DomMove d who reply) = h
    by act = h
init-stays w (FineAct.Unseen Unseen.ReadClaim) h = h
init-stays w (FineAct.Unseen Unseen.ReadDone) h = h
init-stays w (FineAct.Unseen Unseen.WriteClaim) h = h
init-stays w (FineAct.Unseen u) h = h

module _ (f : Fine) (m : State) (e : FineStep) (law : Lawful f m e) (moves : MovesIn m (length f.image.domains)) where
  open around f e use {later, processor as p, now}
  open is-behind f m e law use {frame, last-shown}

  -- a domain to which a thread is offered to move is one of the image
  offered-in : (k d : ℕ) → k < f.cpus → runs (f.processors k) ≡ true → (who : ThreadIx) (rest : Steps) → IsOffered f.image (f.processors k).context (Pending.DomMove d who) rest → d < length f.image.domains
  offered-in k d l running who rest offered = by offered
    where
      same : (f.processors k).context.pending ≡ (thread_at m (f.processors k).context.thread).pending
      same =
          ap (λ (z : Thread). z.pending)
          (own-unless ((law.rel.contexts.running k l running).of (offered-on f.image (f.processors k).context (Pending.DomMove d who) rest offered))
          (offered-awake f.image (f.processors k).context (Pending.DomMove d who) rest offered refl))

      by : IsOffered f.image (f.processors k).context (Pending.DomMove d who) rest → d < length f.image.domains
      by (O.goes h) = moves.next (f.processors k).context.thread d who rest (sym same ∙ h)
      by (O.passed {who = u} h) = moves.passed (f.processors k).context.thread d u who rest (sym same ∙ h)
      by (O.dropped {from} h) = moves.dropped (f.processors k).context.thread d from who rest (sym same ∙ h)

  in-image : (k d : ℕ) → k < f.cpus → moving (f.processors k).todo ≡ Some d → d < length f.image.domains
  in-image k d l there =
      let o = moving-offered f.image (f.processors k).context d (f.processors k).todo (law.rel.processors k l).list.fits (law.rel.processors k l).frames there in
      offered-in k d l (moving-runs law.rel l d there) o.0 o.1 o.2

  -- a move's reply stays right: where it fails its domain is claimed, and where it doesn't the domain stays initialised
  stays-right : (s : State) → Leaves f m e s → (k d : ℕ) → k < f.cpus → moving (f.processors k).todo ≡ Some d → (f.processors k).reply ≡ move_reply (domain_at s d)
  stays-right s leaves k d l there = old ∙ reply-some (domain_at m d) (domain_at s d) (by (stays-or-edited f m e law d s leaves))
    where
      few : d < length f.image.domains
      few = in-image k d l there

      old : (f.processors k).reply ≡ move_reply (domain_at m d)
      old = (law.rel.processors k l).looks.reply d there

      init-m : (domain f d).init ≡ is_some (domain_at m d)
      init-m = (law.rel.domains d few).init

      init-s : (domain later d).init ≡ is_some (domain_at s d)
      init-s = (domain-part f m e law d few s leaves).init

      word-init : (domain f d).init ≡ true → (domain later d).init ≡ true
      word-init h = site-by (same_site e.site (Site.domain d)) refl
        where
          site-by : (b : Bool) → same_site e.site (Site.domain d) ≡ b → (domain later d).init ≡ true
          site-by true on = ap (λ (w : DomWord). w.init) (word-here f m e law d e.act refl (same-sound e.site (Site.domain d) on)) ∙ init-stays (domain f d) e.act h
          site-by false off = ap (λ (w : DomWord). w.init) (word-else f m e law d off) ∙ h

      by-fails : (domain f d).writer ≡ true → (b : Bool) → fails (f.processors k).reply ≡ b → is_some (domain_at m d) ≡ is_some (domain_at s d)
      by-fails writes false sound =
          let some = fails-none (domain_at m d) (sym (ap fails old) ∙ sound) in some ∙ sym (sym init-s ∙ word-init (init-m ∙ some))
      by-fails writes true failed =
          let claimed : reads d (f.processors k) ≡ true = or-right (has_claimed (f.processors k) && ((f.processors k).domain == d)) _ (moving-claims d (f.processors k).reply (f.processors k).todo there failed) in
          let one = ap one_if claimed in
          let all = (law.rel.domains d few).readers in
          let none = (law.rel.domains d few).apart writes in
          let part = part-total (λ j. one_if (reads d (f.processors j))) f.cpus k l in
          absurd (omega (arith, one, all, none, part))

      by : Stays f m e law d s ⊎ IsEdited f m e law d → is_some (domain_at m d) ≡ is_some (domain_at s d)
      by (inl same) = sym (ap is_some same.2)
      by (inr edited) = by-fails edited.1 (fails (f.processors k).reply) refl

  -- The processor that makes the step.

  reply-mine : (s : State) → Leaves f m e s → (d : ℕ) → moving now.todo ≡ Some d → now.reply ≡ move_reply (domain_at s d)
  reply-mine s leaves d there = by p.todo refl
    where
      -- what stands behind the step is read then
      behind : (q : Todo) (todo : Todos) → p.todo ≡ q ∷ todo → is_read_claim q ≡ false → ReadsLast e q todo → moving todo ≡ Some d
      behind q todo at free last = sym (tail-read f.image moving None (moving-reads f.image) p e q todo at free (adds-pass f.image moving None (moving-reads f.image) (λ c todo. refl) q) (frame q todo at) last) ∙ there

      lacks : (q : Todo) (todo : Todos) → p.todo ≡ q ∷ todo → is_read_claim q ≡ false → ReadsLast e q todo → moving todo ≡ None → now.reply ≡ move_reply (domain_at s d)
      lacks q todo at free last none = none-some (sym none ∙ behind q todo at free last)

      goes-on : (q : Todo) (todo : Todos) → p.todo ≡ q ∷ todo → is_read_claim q ≡ false → is_told q ≡ false → ReadsLast e q todo → moving (q ∷ todo) ≡ Some d → now.reply ≡ move_reply (domain_at s d)
      goes-on q todo at free told last was = next-reply f.image p e q todo at told ∙ stays-right s leaves e.cpu d law.by.named (ap moving at ∙ was)

      own-claim : (todo : Todos) → p.todo ≡ Todo.read_claim None ∷ todo → now.reply ≡ move_reply (domain_at s d)
      own-claim todo at =
          let h = frame (Todo.read_claim None) todo at in
          let next = quiet-next f.image p e (Todo.read_claim None ∷ todo) Unseen.ReadClaim at (made-says f m e law (Todo.read_claim None ∷ todo) at) refl in
          none-some
          (sym
          (ap (λ (z : Processor). moving z.todo) next
          ∙ (unless (is_of (key_of (record p { version = (domain_in e.word).version })) p.table) todo ∙ (ap moving h.1 ∙ (ap moving h.2.3 ∙ memory-moving h.2.0 h.2.4))))
          ∙ there)
        where
          unless : (b : Bool) (left : Todos) → moving (unless_loaded b left) ≡ moving left
          unless true (Todo.region_load ∷ left) = refl
          unless b left = refl

      claim : (u : ℕ) (todo : Todos) → p.todo ≡ Todo.read_claim (Some u) ∷ todo → now.reply ≡ move_reply (domain_at s d)
      claim u todo at = which (domain_in e.word).init refl
        where
          h : Behind f.image (Todo.read_claim (Some u)) todo
          h = frame (Todo.read_claim (Some u)) todo at

          site : e.site ≡ Site.domain u
          site = made-at f m e law (Todo.read_claim (Some u) ∷ todo) at

          next : now ≡ after_claim p u (domain_in e.word).init 0 todo
          next = quiet-next f.image p e (Todo.read_claim (Some u) ∷ todo) Unseen.ReadClaim at (made-says f m e law (Todo.read_claim (Some u) ∷ todo) at) refl

          few : u < length f.image.domains
          few = offered-in e.cpu u law.by.named (runs-first law.rel law.by.named (Todo.read_claim (Some u)) todo at (λ hand. hand)) h.0 h.1 (subst (Fits f.image p.context) h.2 (subst (Fits f.image p.context) at (law.rel.processors e.cpu law.by.named).list.fits)).0

          left : (domain_in e.word).init ≡ is_some (domain_at s u)
          left =
              ap (λ w. (domain_in w).init) (word-left f m e law ∙ ap (λ i. word_of (s_next f.image (f.sites i) e)) site)
              ∙ (ap (λ (z : SiteState). (domain_in (word_of (site_after f.image z e.act e.moved))).init) (is-domain f m e law u)
              ∙ (sym (ap (λ (w : DomWord). w.init) (word-here f m e law u e.act refl site)) ∙ (domain-part f m e law u few s leaves).init))

          which : (b : Bool) → (domain_in e.word).init ≡ b → now.reply ≡ move_reply (domain_at s d)
          which true q =
              let is = next ∙ ap (λ b. after_claim p u b 0 todo) q in
              let same : u ≡ d = some-is (sym (ap (λ (z : Processor). moving z.todo) is) ∙ there) in
              ap (λ (z : Processor). z.reply) is ∙ (reply-some (Some []) (domain_at s u) (sym q ∙ left) ∙ ap (λ n. move_reply (domain_at s n)) same)
          which false q =
              let is = next ∙ ap (λ b. after_claim p u b 0 todo) q in
              let same : u ≡ d = some-is (sym (ap (λ (z : Processor). moving z.todo) is ∙ ap moving h.2) ∙ there) in
              ap (λ (z : Processor). z.reply) is ∙ (reply-some None (domain_at s u) (sym q ∙ left) ∙ ap (λ n. move_reply (domain_at s n)) same)

      by : (todo : Todos) → p.todo ≡ todo → now.reply ≡ move_reply (domain_at s d)
      by [] at = none-some (sym (takes-read f.image moving None (moving-reads f.image) p e at) ∙ there)
      by (Todo.show q rest ∷ todo) at =
          lacks (Todo.show q rest) todo at refl (last-shown q rest todo at)
          (ap moving (subst (Fits f.image p.context) at (law.rel.processors e.cpu law.by.named).list.fits).1 ∙ (known-behind f.image p.context q).0)
      by (Todo.read_claim None ∷ todo) at = own-claim todo at
      by (Todo.read_claim (Some u) ∷ todo) at = claim u todo at
      by (Todo.edit u q ∷ todo) at =
          let h = frame (Todo.edit u q) todo at in lacks (Todo.edit u q) todo at refl tt (ap moving h.1 ∙ edit-moving u q h.2)
      by (Todo.read_done (Some u) ∷ todo) at =
          let h = frame (Todo.read_done (Some u)) todo at in
          goes-on (Todo.read_done (Some u)) todo at refl refl tt (sym (ap moving h.2) ∙ behind (Todo.read_done (Some u)) todo at refl tt)
      by (Todo.read_done None ∷ todo) at = goes-on (Todo.read_done None) todo at refl refl tt (behind (Todo.read_done None) todo at refl tt)
      by (q ∷ todo) at = goes-on q todo at refl refl tt (behind q todo at refl tt)

  pub reply-part : (s : State) → Leaves f m e s → (k d : ℕ) → k < f.cpus → moving (later.processors k).todo ≡ Some d → (later.processors k).reply ≡ move_reply (domain_at s d)
  reply-part s leaves k d l = by (e.cpu == k) refl
    where
      kth : Bool → Processor
      kth b = cond b (p_next f.image (f.processors k) e) (f.processors k)

      Right : Processor → Type 0
      Right z = moving z.todo ≡ Some d → z.reply ≡ move_reply (domain_at s d)

      by : (b : Bool) → (e.cpu == k) ≡ b → Right (kth (e.cpu == k))
      by true q = subst Right (sym (ap kth q ∙ ap (λ (z : Processor). p_next f.image z e) (sym (ap f.processors (eqb-true e.cpu k q))))) (reply-mine s leaves d)
      by false q = subst Right (sym (ap kth q)) (stays-right s leaves k d l)
