-- The word of a domain counts the claims of processors to read it, and who edits it, after every lawful step.
use Rattle.um_refinement.proofs.Words.{◌≡◌, inl, inr, ℕ, ◌+◌, ◌-◌, ◌<◌, Bool, true, false, [], ◌∷◌, Option, Some, None, refl, sym, ap, ◌∙◌, subst, arith, eq-eqb, ◌==◌, ◌&&◌, ◌||◌, not, if◌then◌else◌, nat_lt, list_any, and_parts, eqb-true, false≢true, ltb-true, not-true, true≢false, row_at, Errno, Reply, Pending, Steps, State, DomWord, FineAct, Unseen, domain_in, begins_cleaning, check_site, says, site_of_step, after_claim, goes_on_by, unless_loaded, Todo, Todos, Processor, fails, is_of, key_of, same_site, FineStep, Site, reads, Fine, domain, one_if, over_processors, Behind, OnMemory, access_over, edits, edits_step, is_hold, moves_step, moves_to, Fits, behind_shown, or-false, counted_domain, domain_after, domain_takes, is_move_done, length}
use Rattle.um_fine.specs.Answers.{is_due_act, is_tick}
use Rattle.um_refinement.specs.Frames.{IsWaitOver, both, nothing, rereads, settled}
use Rattle.um_refinement.proofs.Erased.{around, later}
use Rattle.um_refinement.proofs.Leaves.{Lawful}
use Rattle.um_refinement.proofs.ListGrips.{read-rests}
use Rattle.um_refinement.proofs.ListGrowth.{ReadsLast, is_read_claim}
use Rattle.um_refinement.proofs.ListTails.{adds-pass, quiet-next, tail-read, takes-read}
use Rattle.um_refinement.proofs.SchedulerSteps.{made-at, made-says}
use Rattle.um_refinement.proofs.StepReads.{is-behind, is-placed}
use Rattle.um_refinement.proofs.TableReads.{over-unclaimed}
use Rattle.um_refinement.proofs.Sums.{over-changed, over-same}
use Rattle.um_refinement.proofs.DomainWords.{word-else, word-here, word-takes}
use Rattle.um_refinement.proofs.DomainReads.{claimed, claimed-reads, over-claimed, edits-behind, edits-no-move, edits-one, edits-reads, either-claimed, either-edits, either-moves, eqb-swap, is_plain, is_told, memory-moves-none, moves-behind, moves-reads, next-domain, next-reply, plain-claim, plain-last, plain-list, plain-site}

abbrev is_end_call_act : Unseen → Bool
is_end_call_act Unseen.EndCall = true
is_end_call_act u = false

-- The word of a domain counts who edits it, and who reads it.
pub record CountsAre (g : Fine) (d : ℕ) : Type 0 where
  pub writers : one_if (domain g d).writer ≡ over_processors g (λ z. one_if (edits d z.todo))
  pub readers : (domain g d).readers ≡ over_processors g (λ z. one_if (reads d z))
  pub apart : (domain g d).writer ≡ true → (domain g d).readers ≡ 0

module _ (f : Fine) (m : State) (e : FineStep) (law : Lawful f m e) (d : ℕ) (few : d < length f.image.domains) where
  open around f e use {processor as p, now}
  open is-behind f m e law use {frame}

  abbrev reading : Processor → Bool
  reading z = (claimed z.todo && (z.domain == d)) || moves_to d z.reply z.todo

  edit-counts : (n k : ℕ) → one_if (edits d p.todo) ≡ n → one_if (edits d now.todo) ≡ k
      → over_processors (later f e) (λ z. one_if (edits d z.todo)) + n ≡ over_processors f (λ z. one_if (edits d z.todo)) + k
  edit-counts n k before after = let all = over-changed f e (λ z. one_if (edits d z.todo)) law.by.named in omega (arith, all, before, after)

  read-counts : (n k : ℕ) → one_if (reads d p) ≡ n → one_if (reads d now) ≡ k
      → over_processors (later f e) (λ z. one_if (reads d z)) + n ≡ over_processors f (λ z. one_if (reads d z)) + k
  read-counts n k before after = let all = over-changed f e (λ z. one_if (reads d z)) law.by.named in omega (arith, all, before, after)

  edits-still : edits d now.todo ≡ edits d p.todo → over_processors (later f e) (λ z. one_if (edits d z.todo)) ≡ over_processors f (λ z. one_if (edits d z.todo))
  edits-still same = over-same f e (λ z. one_if (edits d z.todo)) law.by.named (ap one_if same)

  reads-still : reads d now ≡ reads d p → over_processors (later f e) (λ z. one_if (reads d z)) ≡ over_processors f (λ z. one_if (reads d z))
  reads-still same = over-same f e (λ z. one_if (reads d z)) law.by.named (ap one_if same)

  was-writers : one_if (domain f d).writer ≡ over_processors f (λ z. one_if (edits d z.todo))
  was-writers = (law.rel.domains d few).writers

  was-readers : (domain f d).readers ≡ over_processors f (λ z. one_if (reads d z))
  was-readers = (law.rel.domains d few).readers

  -- nothing is claimed and nothing ends
  still : domain (later f e) d ≡ domain f d → edits d now.todo ≡ edits d p.todo → reads d now ≡ reads d p → CountsAre (later f e) d
  still word e-same r-same =
      record {
        writers = ap (λ (w : DomWord). one_if w.writer) word ∙ (was-writers ∙ sym (edits-still e-same));
        readers = ap (λ (w : DomWord). w.readers) word ∙ (was-readers ∙ sym (reads-still r-same));
        apart = λ h. ap (λ (w : DomWord). w.readers) word ∙ (law.rel.domains d few).apart (sym (ap (λ (w : DomWord). w.writer) word) ∙ h);
      }

  -- a step on the word of another domain
  elsewhere : (u : ℕ) → e.site ≡ Site.domain u → (u == d) ≡ false → domain (later f e) d ≡ domain f d
  elsewhere u site off = word-else f m e law d (ap (λ i. same_site i (Site.domain d)) site ∙ off)

  -- a claim to read
  reader-more : (u : ℕ) → e.site ≡ Site.domain u → e.act ≡ FineAct.Unseen Unseen.ReadClaim → edits d now.todo ≡ edits d p.todo → reads d p ≡ false → reads d now ≡ (u == d) → CountsAre (later f e) d
  reader-more u site said e-same before after = by (u == d) refl
    where
      by : (b : Bool) → (u == d) ≡ b → CountsAre (later f e) d
      by false q = still (elsewhere u site q) e-same (after ∙ (q ∙ sym before))
      by true q =
          let here = site ∙ ap Site.domain (eqb-true u d q) in
          let word = word-here f m e law d (FineAct.Unseen Unseen.ReadClaim) said here in
          let takes = and_parts (not (domain f d).writer) _ (word-takes f m e law d (FineAct.Unseen Unseen.ReadClaim) said here) in
          let sums = read-counts 0 1 (ap one_if before) (ap one_if (after ∙ q)) in
          let first = was-readers in
          let number : (domain (later f e) d).readers ≡ (domain f d).readers + 1 = ap (λ (w : DomWord). w.readers) word in
          record {
            writers = ap (λ (w : DomWord). one_if w.writer) word ∙ (was-writers ∙ sym (edits-still e-same));
            readers = omega (arith, sums, first, number);
            apart = λ h. absurd (false≢true (sym (not-true _ takes.0) ∙ (sym (ap (λ (w : DomWord). w.writer) word) ∙ h)));
          }

  -- the end of one
  reader-less : (u : ℕ) (act : FineAct) → e.site ≡ Site.domain u → e.act ≡ act → ((w : DomWord) → domain_after w act ≡ record w { readers = w.readers - 1 })
      → ((w : DomWord) → domain_takes w act ≡ true → 0 < w.readers) → edits d now.todo ≡ edits d p.todo → reads d p ≡ (u == d) → reads d now ≡ false → CountsAre (later f e) d
  reader-less u act site said leaves takes e-same before after = by (u == d) refl
    where
      by : (b : Bool) → (u == d) ≡ b → CountsAre (later f e) d
      by false q = still (elsewhere u site q) e-same (after ∙ (sym q ∙ sym before))
      by true q =
          let here = site ∙ ap Site.domain (eqb-true u d q) in
          let word = word-here f m e law d act said here ∙ ap counted_domain (leaves (domain f d)) in
          let some = takes (domain f d) (word-takes f m e law d act said here) in
          let sums = read-counts 1 0 (ap one_if (before ∙ q)) (ap one_if after) in
          let first = was-readers in
          let number : (domain (later f e) d).readers ≡ (domain f d).readers - 1 = ap (λ (w : DomWord). w.readers) word in
          record {
            writers = ap (λ (w : DomWord). one_if w.writer) word ∙ (was-writers ∙ sym (edits-still e-same));
            readers = omega (arith, sums, first, number, some);
            apart = λ h. let none = (law.rel.domains d few).apart (sym (ap (λ (w : DomWord). w.writer) word) ∙ h) in absurd (omega (arith, none, some));
          }

  -- the claim to write
  writer-on : (u : ℕ) → e.site ≡ Site.domain u → e.act ≡ FineAct.Unseen Unseen.WriteClaim → edits d p.todo ≡ false → edits d now.todo ≡ (u == d) → reads d now ≡ reads d p → CountsAre (later f e) d
  writer-on u site said before after r-same = by (u == d) refl
    where
      by : (b : Bool) → (u == d) ≡ b → CountsAre (later f e) d
      by false q = still (elsewhere u site q) (after ∙ (q ∙ sym before)) r-same
      by true q =
          let here = site ∙ ap Site.domain (eqb-true u d q) in
          let word = word-here f m e law d (FineAct.Unseen Unseen.WriteClaim) said here in
          let takes = and_parts (not (domain f d).writer) _ (word-takes f m e law d (FineAct.Unseen Unseen.WriteClaim) said here) in
          let sums = edit-counts 0 1 (ap one_if before) (ap one_if (after ∙ q)) in
          let first = sym (ap one_if (not-true _ takes.0)) ∙ was-writers in
          let on : one_if (domain (later f e) d).writer ≡ 1 = ap (λ (w : DomWord). one_if w.writer) word in
          record {
            writers = omega (arith, sums, first, on);
            readers = ap (λ (w : DomWord). w.readers) word ∙ (was-readers ∙ sym (reads-still r-same));
            apart = λ h. ap (λ (w : DomWord). w.readers) word ∙ eqb-true (domain f d).readers 0 takes.1;
          }

  -- its end, by the event of the edit
  writer-off : (u : ℕ) (act : FineAct) → e.site ≡ Site.domain u → e.act ≡ act → ((w : DomWord) → (domain_after w act).writer ≡ false)
      → ((w : DomWord) → (domain_after w act).readers ≡ w.readers) → ((w : DomWord) → domain_takes w act ≡ true → w.writer ≡ true)
      → edits d p.todo ≡ (u == d) → edits d now.todo ≡ false → reads d now ≡ reads d p → CountsAre (later f e) d
  writer-off u act site said off keeps takes before after r-same = by (u == d) refl
    where
      by : (b : Bool) → (u == d) ≡ b → CountsAre (later f e) d
      by false q = still (elsewhere u site q) (after ∙ (sym q ∙ sym before)) r-same
      by true q =
          let here = site ∙ ap Site.domain (eqb-true u d q) in
          let word = word-here f m e law d act said here in
          let on = takes (domain f d) (word-takes f m e law d act said here) in
          let sums = edit-counts 1 0 (ap one_if (before ∙ q)) (ap one_if after) in
          let first = sym (ap one_if on) ∙ was-writers in
          let none : (domain (later f e) d).writer ≡ false = ap (λ (w : DomWord). w.writer) word ∙ off (domain f d) in
          let count = ap one_if none in
          record {
            writers = omega (arith, sums, first, count);
            readers = ap (λ (w : DomWord). w.readers) word ∙ (keeps (domain f d) ∙ (was-readers ∙ sym (reads-still r-same)));
            apart = λ h. absurd (false≢true (sym none ∙ h));
          }

  -- What is read of the processor that makes the step.

  read-as : (z : Processor) (c mv : Bool) → claimed z.todo ≡ c → moves_to d z.reply z.todo ≡ mv → reads d z ≡ ((c && (z.domain == d)) || mv)
  read-as z c mv g h = λ i. (g i && (z.domain == d)) || h i

  said : (todo : Todos) → p.todo ≡ todo → e.act ≡ says f.image p todo e.act e.moved
  said todo at = made-says f m e law todo at

  -- where it makes any step but a claim to read, its list is read as what stands behind that step
  edits-after : (q : Todo) (todo : Todos) → p.todo ≡ q ∷ todo → is_read_claim q ≡ false → ReadsLast e q todo → edits d now.todo ≡ edits d todo
  edits-after q todo at other last = tail-read f.image (edits d) false (edits-reads f.image d) p e q todo at other (adds-pass f.image (edits d) false (edits-reads f.image d) (λ c z. refl) q) (frame q todo at) last

  claimed-after : (q : Todo) (todo : Todos) → p.todo ≡ q ∷ todo → is_read_claim q ≡ false → ReadsLast e q todo → claimed now.todo ≡ claimed todo
  claimed-after q todo at other last = tail-read f.image claimed false (claimed-reads f.image) p e q todo at other (adds-pass f.image claimed false (claimed-reads f.image) (λ c z. refl) q) (frame q todo at) last

  moves-after : (q : Todo) (todo : Todos) → p.todo ≡ q ∷ todo → is_read_claim q ≡ false → is_told q ≡ false → ReadsLast e q todo → moves_to d now.reply now.todo ≡ moves_to d p.reply todo
  moves-after q todo at other quiet last =
      ap (λ r. moves_to d r now.todo) (next-reply f.image p e q todo at quiet)
      ∙ tail-read f.image (moves_to d p.reply) false (moves-reads f.image d p.reply) p e q todo at other
      (adds-pass f.image (moves_to d p.reply) false (moves-reads f.image d p.reply) (λ c z. refl) q) (frame q todo at) last

  plain-told : (q : Todo) → is_plain q ≡ true → is_told q ≡ false
  plain-told (Todo.read_claim (Some u)) h = absurd (false≢true h)
  plain-told (Todo.edit u q) h = absurd (false≢true h)
  plain-told q h = refl

  plain-hold : (q : Todo) → is_plain q ≡ true → is_hold q ≡ false
  plain-hold Todo.hold h = absurd (false≢true h)
  plain-hold q h = refl

  -- a step that has nothing to do with domains
  plain-step : (q : Todo) (todo : Todos) → p.todo ≡ q ∷ todo → is_plain q ≡ true → CountsAre (later f e) d
  plain-step q todo at plain =
      let list = plain-list d p.reply q todo plain in
      let other = plain-claim q plain in
      let last = plain-last e q todo plain in
      still (word-else f m e law d (ap (λ i. same_site i (Site.domain d)) (made-at f m e law (q ∷ todo) at) ∙ plain-site f.image p d q todo plain (is-placed f m e law q todo at)))
      (edits-after q todo at other last ∙ (sym list.0 ∙ sym (ap (edits d) at)))
      (λ i.
      ((claimed-after q todo at other last ∙ (sym list.1 ∙ sym (ap claimed at))) i && (next-domain f.image p e q todo at (plain-hold q plain) i == d))
      || (moves-after q todo at other (plain-told q plain) last ∙ (sym list.2 ∙ sym (ap (moves_to d p.reply) at))) i)

  idle-step : p.todo ≡ [] → CountsAre (later f e) d
  idle-step at =
      still (word-else f m e law d (ap (λ i. same_site i (Site.domain d)) (made-at f m e law [] at) ∙ apart (is_due_act e.act || is_tick e.act)))
      (takes-read f.image (edits d) false (edits-reads f.image d) p e at ∙ sym (ap (edits d) at))
      (read-as now false false (takes-read f.image claimed false (claimed-reads f.image) p e at) (takes-read f.image (moves_to d now.reply) false (moves-reads f.image d now.reply) p e at)
      ∙ sym (read-as p false false (ap claimed at) (ap (moves_to d p.reply) at)))
    where
      apart : (b : Bool) → same_site (if b then Site.clock else Site.scheduler) (Site.domain d) ≡ false
      apart true = refl
      apart false = refl

  hold-step : (todo : Todos) → p.todo ≡ Todo.hold ∷ todo → CountsAre (later f e) d
  hold-step todo at =
      still (word-else f m e law d (ap (λ i. same_site i (Site.domain d)) (made-at f m e law (Todo.hold ∷ todo) at)))
      (edits-after Todo.hold todo at refl tt ∙ sym (ap (edits d) at))
      (read-as now false (moves_to d p.reply todo) (claimed-after Todo.hold todo at refl tt ∙ free (frame Todo.hold todo at)) (moves-after Todo.hold todo at refl refl tt)
      ∙ sym (read-as p false (moves_to d p.reply todo) (ap claimed at ∙ free (frame Todo.hold todo at)) (ap (moves_to d p.reply) at)))
    where
      free : Behind f.image Todo.hold todo → claimed todo ≡ false
      free (inl h) = ap claimed (h.1 ∙ ap (λ (z : Todos). Todo.read_claim None ∷ Todo.region_load ∷ z) h.2.3)
      free (inr h) = ap claimed (h.2 ∙ ap (λ (z : Todos). Todo.unshut h.0 ∷ z) h.3.3)

  -- an event
  module _ (q : Pending) (rest : Steps) (todo : Todos) (at : p.todo ≡ Todo.show q rest ∷ todo) where
    behind : todo ≡ behind_shown f.image p.context q
    behind = (subst (Fits f.image p.context) at (law.rel.processors e.cpu law.by.named).list.fits).1

    last : ReadsLast e (Todo.show q rest) todo
    last read = behind ∙ read-rests f.image p p.context q e.act (said (Todo.show q rest ∷ todo) at) read

    no-edit : edits d now.todo ≡ false
    no-edit = edits-after (Todo.show q rest) todo at refl last ∙ (ap (edits d) behind ∙ edits-behind f.image d p.context q)

    no-move : moves_to d now.reply now.todo ≡ false
    no-move = moves-after (Todo.show q rest) todo at refl refl last ∙ (ap (moves_to d p.reply) behind ∙ moves-behind f.image d p.reply p.context q)

    same-claim : claimed now.todo ≡ claimed p.todo
    same-claim = claimed-after (Todo.show q rest) todo at refl last ∙ sym (ap claimed at)

    -- no claim of a move ends by it
    reads-same : moves_step d p.reply q ≡ false → reads d now ≡ reads d p
    reads-same none =
        λ i. (same-claim i && (next-domain f.image p e (Todo.show q rest) todo at refl i == d)) || (no-move ∙ sym (ap (moves_to d p.reply) at ∙ none)) i

    beside : edits_step d q ≡ false → moves_step d p.reply q ≡ false → same_site (site_of_step f.image p q) (Site.domain d) ≡ false → CountsAre (later f e) d
    beside none still-there off =
        still (word-else f m e law d (ap (λ i. same_site i (Site.domain d)) (made-at f m e law (Todo.show q rest ∷ todo) at) ∙ off))
        (no-edit ∙ sym (ap (edits d) at ∙ none)) (reads-same still-there)

    edit-ends : (u : ℕ) (act : FineAct) → e.site ≡ Site.domain u → e.act ≡ act → ((w : DomWord) → (domain_after w act).writer ≡ false) → ((w : DomWord) → (domain_after w act).readers ≡ w.readers)
        → ((w : DomWord) → domain_takes w act ≡ true → w.writer ≡ true) → edits_step u q ≡ true → CountsAre (later f e) d
    edit-ends u act site said off keeps takes is =
        writer-off u act site said off keeps takes (ap (edits d) at ∙ (edits-one d u q is ∙ eqb-swap d u)) no-edit (reads-same (edits-no-move d u p.reply q is))

  show-step : (q : Pending) (rest : Steps) (todo : Todos) → p.todo ≡ Todo.show q rest ∷ todo → CountsAre (later f e) d
  show-step (Pending.DomInit u parts) rest todo at =
      edit-ends (Pending.DomInit u parts) rest todo at u _ (made-at f m e law (Todo.show (Pending.DomInit u parts) rest ∷ todo) at) (said (Todo.show (Pending.DomInit u parts) rest ∷ todo) at)
      (λ w. refl) (λ w. refl) (λ w h. (and_parts w.writer _ h).0) (eq-eqb u u refl)
  show-step (Pending.DomAdd u range attr) rest todo at =
      edit-ends (Pending.DomAdd u range attr) rest todo at u _ (made-at f m e law (Todo.show (Pending.DomAdd u range attr) rest ∷ todo) at) (said (Todo.show (Pending.DomAdd u range attr) rest ∷ todo) at)
      (λ w. refl) (λ w. refl) (λ w h. (and_parts w.writer _ h).0) (eq-eqb u u refl)
  show-step (Pending.DomRemove u range attr) rest todo at =
      edit-ends (Pending.DomRemove u range attr) rest todo at u _ (made-at f m e law (Todo.show (Pending.DomRemove u range attr) rest ∷ todo) at) (said (Todo.show (Pending.DomRemove u range attr) rest ∷ todo) at)
      (λ w. refl) (λ w. refl) (λ w h. (and_parts w.writer _ h).0) (eq-eqb u u refl)
  show-step (Pending.DomMove u who) rest todo at = by (fails p.reply) refl
    where
      q : Pending
      q = Pending.DomMove u who

      list : todo ≡ []
      list = behind (Pending.DomMove u who) rest todo at

      site : e.site ≡ (if fails p.reply then Site.domain u else Site.thread who.0)
      site = made-at f m e law (Todo.show (Pending.DomMove u who) rest ∷ todo) at

      free : claimed p.todo ≡ false
      free = ap claimed at ∙ ap (λ (z : Todos). claimed (Todo.show (Pending.DomMove u who) rest ∷ z)) list

      by : (b : Bool) → fails p.reply ≡ b → CountsAre (later f e) d
      by true r =
          reader-less u _ (site ∙ ap (λ c. if c then Site.domain u else Site.thread who.0) r) (said (Todo.show (Pending.DomMove u who) rest ∷ todo) at) (λ w. refl)
          (λ w h. ltb-true 0 w.readers (and_parts (nat_lt 0 w.readers) _ h).0)
          (no-edit (Pending.DomMove u who) rest todo at ∙ sym (ap (edits d) at))
          (read-as p false (d == u) free (ap (moves_to d p.reply) at ∙ ap (λ c. c && (d == u)) r) ∙ eqb-swap d u)
          (read-as now false false (same-claim (Pending.DomMove u who) rest todo at ∙ free) (no-move (Pending.DomMove u who) rest todo at))
      by false r =
          still (word-else f m e law d (ap (λ i. same_site i (Site.domain d)) (site ∙ ap (λ c. if c then Site.domain u else Site.thread who.0) r)))
          (no-edit (Pending.DomMove u who) rest todo at ∙ sym (ap (edits d) at)) (reads-same (Pending.DomMove u who) rest todo at (ap (λ c. c && (d == u)) r))
  show-step (Pending.Check a kind want refusal) rest todo at = beside (Pending.Check a kind want refusal) rest todo at refl refl (by (row_at f.image a.0))
    where
      by : (o : Option ℕ) → same_site (check_site f.image p o) (Site.domain d) ≡ false
      by None = refl
      by (Some x) = refl
  show-step q rest todo at = beside q rest todo at refl refl refl

  -- claims and their ends

  quietly : (todo : Todos) (u : Unseen) → p.todo ≡ todo → e.act ≡ FineAct.Unseen u → is_end_call_act u ≡ false → now ≡ goes_on_by f.image p e todo
  quietly todo u at is quiet = quiet-next f.image p e todo u at is (none u quiet)
    where
      none : (u : Unseen) → is_end_call_act u ≡ false → begins_cleaning (record e { act = FineAct.Unseen u }) ≡ false
      none Unseen.EndCall h = absurd (true≢false h)
      none u h = refl

  -- its table is of the version that it claimed
  abbrev b : Bool
  b = is_of (key_of (record p { version = (domain_in e.word).version })) p.table

  own-claim : (todo : Todos) → p.todo ≡ Todo.read_claim None ∷ todo → CountsAre (later f e) d
  own-claim todo at =
      reader-more p.domain (made-at f m e law (Todo.read_claim None ∷ todo) at) is
      (ap (λ (z : Processor). edits d z.todo) exact ∙ (ap (λ (z : Todos). edits d (unless_loaded b z)) there ∙ (either-edits d b q rest over ∙ sym (ap (edits d) (at ∙ list)))))
      (read-as p false false (ap claimed (at ∙ list)) (ap (moves_to d p.reply) (at ∙ list) ∙ memory-moves-none d p.reply q on))
      (read-as now true false (ap (λ (z : Processor). claimed z.todo) exact ∙ (ap (λ (z : Todos). claimed (unless_loaded b z)) there ∙ either-claimed b q rest over h.2.5))
      (ap (λ (z : Processor). moves_to d z.reply z.todo) exact
      ∙ (ap (λ (z : Todos). moves_to d p.reply (unless_loaded b z)) there ∙ (either-moves d p.reply b q rest over ∙ memory-moves-none d p.reply q on)))
      ∙ (or-false (now.domain == d) ∙ ap (λ n. n == d) (next-domain f.image p e (Todo.read_claim None) todo at refl)))
    where
      h : Behind f.image (Todo.read_claim None) todo
      h = frame (Todo.read_claim None) todo at

      q : Pending
      q = h.2.0

      rest : Steps
      rest = h.2.1

      over : Todos
      over = h.2.2

      on : OnMemory q
      on = h.2.4

      is : e.act ≡ FineAct.Unseen Unseen.ReadClaim
      is = said (Todo.read_claim None ∷ todo) at

      exact : now ≡ goes_on_by f.image p e (Todo.read_claim None ∷ todo)
      exact = quietly (Todo.read_claim None ∷ todo) Unseen.ReadClaim at is refl

      there : todo ≡ Todo.region_load ∷ Todo.show q rest ∷ access_over over
      there = h.1 ∙ ap (λ (z : Todos). Todo.region_load ∷ z) h.2.3

      list : Todo.read_claim None ∷ todo ≡ Todo.read_claim None ∷ Todo.region_load ∷ Todo.show q rest ∷ access_over over
      list = ap (λ (z : Todos). Todo.read_claim None ∷ z) there

  over-moves : (reply : Reply) (over : Todos) → IsWaitOver over → moves_to d reply over ≡ false
  over-moves reply _ nothing = refl
  over-moves reply _ settled = refl
  over-moves reply _ rereads = refl
  over-moves reply _ both = refl

  own-done : (todo : Todos) → p.todo ≡ Todo.read_done None ∷ todo → CountsAre (later f e) d
  own-done todo at =
      reader-less p.domain (FineAct.Unseen Unseen.ReadDone) (made-at f m e law (Todo.read_done None ∷ todo) at) (said (Todo.read_done None ∷ todo) at) (λ w. refl) (λ w h. ltb-true 0 w.readers h)
      (edits-after (Todo.read_done None) todo at refl tt ∙ sym (ap (edits d) at))
      (read-as p true false (ap claimed (at ∙ list) ∙ ap not (over-claimed h.0 h.2)) (ap (moves_to d p.reply) (at ∙ list) ∙ over-moves p.reply h.0 h.2) ∙ or-false (p.domain == d))
      (read-as now false false (claimed-after (Todo.read_done None) todo at refl tt ∙ (ap claimed h.1 ∙ over-unclaimed h.0 h.2))
      (moves-after (Todo.read_done None) todo at refl refl tt ∙ (ap (moves_to d p.reply) h.1 ∙ over-moves p.reply h.0 h.2)))
    where
      h : Behind f.image (Todo.read_done None) todo
      h = frame (Todo.read_done None) todo at

      list : Todo.read_done None ∷ todo ≡ Todo.read_done None ∷ Todo.let_go ∷ h.0
      list = ap (λ (z : Todos). Todo.read_done None ∷ z) h.1

  move-claim : (u : ℕ) (todo : Todos) → p.todo ≡ Todo.read_claim (Some u) ∷ todo → CountsAre (later f e) d
  move-claim u todo at =
      reader-more u (made-at f m e law (Todo.read_claim (Some u) ∷ todo) at) is
      (ap (λ (z : Processor). edits d z.todo) exact ∙ (edits-claim (domain_in e.word).init ∙ sym (ap (edits d) at)))
      (read-as p false false (ap claimed (at ∙ ap (λ (z : Todos). Todo.read_claim (Some u) ∷ z) h.2)) (ap (moves_to d p.reply) at))
      (read-as now false (d == u) (ap (λ (z : Processor). claimed z.todo) exact ∙ claimed-claim (domain_in e.word).init)
      (ap (λ (z : Processor). moves_to d z.reply z.todo) exact ∙ moves-claim (domain_in e.word).init)
      ∙ eqb-swap d u)
    where
      h : Behind f.image (Todo.read_claim (Some u)) todo
      h = frame (Todo.read_claim (Some u)) todo at

      is : e.act ≡ FineAct.Unseen Unseen.ReadClaim
      is = said (Todo.read_claim (Some u) ∷ todo) at

      exact : now ≡ goes_on_by f.image p e (Todo.read_claim (Some u) ∷ todo)
      exact = quietly (Todo.read_claim (Some u) ∷ todo) Unseen.ReadClaim at is refl

      edits-claim : (init : Bool) → edits d (after_claim p u init 0 todo).todo ≡ edits d todo
      edits-claim true = refl
      edits-claim false = refl

      claimed-claim : (init : Bool) → claimed (after_claim p u init 0 todo).todo ≡ false
      claimed-claim true = ap (λ (z : Todos). claimed (Todo.read_done (Some u) ∷ z)) h.2
      claimed-claim false = ap claimed h.2

      moves-claim : (init : Bool) → moves_to d (after_claim p u init 0 todo).reply (after_claim p u init 0 todo).todo ≡ (d == u)
      moves-claim true = refl
      moves-claim false = ap (moves_to d (Reply.Fail Errno.EINVAL)) h.2

  move-done : (u : ℕ) (todo : Todos) → p.todo ≡ Todo.read_done (Some u) ∷ todo → CountsAre (later f e) d
  move-done u todo at =
      reader-less u (FineAct.Unseen Unseen.ReadDone) (made-at f m e law (Todo.read_done (Some u) ∷ todo) at) (said (Todo.read_done (Some u) ∷ todo) at) (λ w. refl) (λ w k. ltb-true 0 w.readers k)
      (edits-after (Todo.read_done (Some u)) todo at refl tt ∙ sym (ap (edits d) at))
      (read-as p false (d == u) (ap claimed (at ∙ ap (λ (z : Todos). Todo.read_done (Some u) ∷ z) h.2)) (ap (moves_to d p.reply) at) ∙ eqb-swap d u)
      (read-as now false false (claimed-after (Todo.read_done (Some u)) todo at refl tt ∙ ap claimed h.2)
      (moves-after (Todo.read_done (Some u)) todo at refl refl tt ∙ (ap (moves_to d p.reply) h.2 ∙ ap (λ c. c && (d == u)) fine)))
    where
      h : Behind f.image (Todo.read_done (Some u)) todo
      h = frame (Todo.read_done (Some u)) todo at

      fine : fails p.reply ≡ false
      fine = (law.rel.processors e.cpu law.by.named).domain.moves (ap (list_any is_move_done) at)

  write-claim : (u : ℕ) (todo : Todos) → p.todo ≡ Todo.write_claim u ∷ todo → CountsAre (later f e) d
  write-claim u todo at =
      writer-on u (made-at f m e law (Todo.write_claim u ∷ todo) at) (said (Todo.write_claim u ∷ todo) at) (ap (edits d) at)
      (edits-after (Todo.write_claim u) todo at refl tt ∙ (ap (edits d) h.2 ∙ eqb-swap d u))
      (read-as now false false (claimed-after (Todo.write_claim u) todo at refl tt ∙ ap claimed h.2)
      (moves-after (Todo.write_claim u) todo at refl refl tt ∙ (ap (moves_to d p.reply) h.2 ∙ edits-no-move d u p.reply h.0 h.3))
      ∙ sym (read-as p false false (ap claimed list) (ap (moves_to d p.reply) list ∙ edits-no-move d u p.reply h.0 h.3)))
    where
      h : Behind f.image (Todo.write_claim u) todo
      h = frame (Todo.write_claim u) todo at

      list : p.todo ≡ Todo.write_claim u ∷ Todo.edit u h.0 ∷ Todo.show h.0 h.1 ∷ []
      list = at ∙ ap (λ (z : Todos). Todo.write_claim u ∷ z) h.2

  edit-step : (u : ℕ) (q : Pending) (todo : Todos) → p.todo ≡ Todo.edit u q ∷ todo → CountsAre (later f e) d
  edit-step u q todo at =
      still (word-else f m e law d (ap (λ i. same_site i (Site.domain d)) (made-at f m e law (Todo.edit u q ∷ todo) at)))
      (edits-after (Todo.edit u q) todo at refl tt ∙ (ap (edits d) h.1 ∙ (edits-one d u q h.2 ∙ sym (ap (edits d) at))))
      (read-as now false false (claimed-after (Todo.edit u q) todo at refl tt ∙ ap claimed h.1)
      (tail-read f.image (moves_to d now.reply) false (moves-reads f.image d now.reply) p e (Todo.edit u q) todo at refl tt (frame (Todo.edit u q) todo at) tt
      ∙ (ap (moves_to d now.reply) h.1 ∙ edits-no-move d u now.reply q h.2))
      ∙ sym (read-as p false false (ap claimed list) (ap (moves_to d p.reply) list ∙ edits-no-move d u p.reply q h.2)))
    where
      h : Behind f.image (Todo.edit u q) todo
      h = frame (Todo.edit u q) todo at

      list : p.todo ≡ Todo.edit u q ∷ Todo.show q h.0 ∷ []
      list = at ∙ ap (λ (z : Todos). Todo.edit u q ∷ z) h.1

  by-todo : (todo : Todos) → p.todo ≡ todo → CountsAre (later f e) d
  by-todo [] at = idle-step at
  by-todo (Todo.show q rest ∷ todo) at = show-step q rest todo at
  by-todo (Todo.hold ∷ todo) at = hold-step todo at
  by-todo (Todo.read_claim None ∷ todo) at = own-claim todo at
  by-todo (Todo.read_claim (Some u) ∷ todo) at = move-claim u todo at
  by-todo (Todo.read_done None ∷ todo) at = own-done todo at
  by-todo (Todo.read_done (Some u) ∷ todo) at = move-done u todo at
  by-todo (Todo.write_claim u ∷ todo) at = write-claim u todo at
  by-todo (Todo.edit u q ∷ todo) at = edit-step u q todo at
  by-todo (q ∷ todo) at = plain-step q todo at refl

  pub domain-counts : CountsAre (later f e) d
  domain-counts = by-todo p.todo refl
