-- Every lawful step keeps the relation: its parts together, and in the states that a run of a described image reaches all that they ask for.
use Rattle.um_refinement.proofs.Words.{Fits, thread_at, sym, subst, ◌≡◌, ℕ, length, refl, ◌∙◌, Image, IsLawful, Pending, Steps, to_thread, opening, State, core_of, IsSited, IsKnown, IsDescribed, ByOneOf, cpu_of, site_of, Processor, SiteMay, SiteState, FineStep, Site, Fine, Rel, wrote, effects_of, next_of, ContextsAre, image-wrote, shared-went}
use Rattle.um_machine.specs.Table as T
use Rattle.um_refinement.proofs.AwayPart.{away-part}
use Rattle.um_refinement.proofs.CallsKnown.{RestsHoldNothing, own-known}
use Rattle.um_refinement.proofs.CallsProper.{AreProper}
use Rattle.um_refinement.proofs.ChargedPart.{charged-part, order-part}
use Rattle.um_refinement.proofs.ClaimsPart.{claims-part}
use Rattle.um_refinement.proofs.CleanSteps.{OwnRows}
use Rattle.um_refinement.proofs.CleanerPart.{begun-part, cleaner-part}
use Rattle.um_refinement.proofs.CleanersPart.{cleaners-part}
use Rattle.um_refinement.proofs.ContentsPart.{NamesHeld, contents-part}
use Rattle.um_refinement.proofs.ContextsPart.{running-field}
use Rattle.um_refinement.proofs.AddedPart.{added-field}
use Rattle.um_refinement.proofs.ArmsKnown.{AreTimed, timed-known}
use Rattle.um_refinement.proofs.ClockPart.{clock-part}
use Rattle.um_refinement.proofs.CutComesPart.{cut-comes-part}
use Rattle.um_refinement.proofs.CutPart.{AreAborted, cut-part}
use Rattle.um_refinement.proofs.ExpiryPart.{expiry-part}
use Rattle.um_refinement.proofs.JoinsPart.{joins-part}
use Rattle.um_refinement.proofs.LookPart.{look-part}
use Rattle.um_refinement.proofs.LooksPart.{looks-part}
use Rattle.um_refinement.proofs.MarksPart.{marks-part}
use Rattle.um_refinement.proofs.Offered.{begins-nothing}
use Rattle.um_refinement.proofs.OwedPart.{owed-part}
use Rattle.um_refinement.proofs.ParkedPart.{asleep-field, parked-field}
use Rattle.um_refinement.proofs.ResumeSteps.{TellsWaiters}
use Rattle.um_refinement.proofs.SleepPart.{sleep-part}
use Rattle.um_refinement.proofs.StepsLeft.{first-rests}
use Rattle.um_refinement.proofs.TimeoutPart.{timeout-part}
use Rattle.um_refinement.proofs.TimerPart.{timer-part}
use Rattle.um_refinement.proofs.UnarmedPart.{unarmed-part}
use Rattle.um_refinement.proofs.WaitersFound.{WaitersWait}
use Rattle.um_refinement.proofs.WaitsKept.{waits-noted}
use Rattle.um_refinement.proofs.WaitersKnown.{UntilsAre, WaitersHold, holds-known, untils-known}
use Rattle.um_refinement.proofs.NoteCells.{note-cell}
use Rattle.um_refinement.proofs.NoteNumbers.{note-number}
use Rattle.um_refinement.proofs.NotesBegun.{notes-begun}
use Rattle.um_refinement.proofs.NotesCall.{begun-noted, note-call}
use Rattle.um_refinement.proofs.NotesHeld.{notes-held}
use Rattle.um_refinement.proofs.NotesKept.{notes-part}
use Rattle.um_refinement.proofs.NotesThere.{note-there}
use Rattle.um_refinement.proofs.ShutAlone.{shut-alone}
use Rattle.um_refinement.proofs.ShutBegins.{begins-part}
use Rattle.um_refinement.proofs.ShutClears.{clears-part}
use Rattle.um_refinement.proofs.ShutDead.{shut-dead}
use Rattle.um_refinement.proofs.ShutOpened.{shut-opened}
use Rattle.um_refinement.proofs.DomainPart.{domain-part}
use Rattle.um_refinement.proofs.DomainsKnown.{started-placed}
use Rattle.um_refinement.proofs.DonePart.{done-part}
use Rattle.um_refinement.proofs.DuesPart.{DuesKnown, dues-known, dues-part}
use Rattle.um_refinement.proofs.EmptiedPart.{GivesHeld, emptied-part}
use Rattle.um_refinement.proofs.Erased.{Goes, IsReachable, Keeps, around, fine, reach-on, stepped}
use Rattle.um_refinement.proofs.FirstObjects.{opening-image}
use Rattle.um_refinement.proofs.HeapPart.{heap-part}
use Rattle.um_refinement.proofs.HeldDomainPart.{held-domain-part}
use Rattle.um_refinement.proofs.HeldPart.{held-part}
use Rattle.um_refinement.proofs.IdlePart.{idle-part}
use Rattle.um_refinement.proofs.Kept.{RestsFirst, lists-kept, rouses-bare, sorts-kept}
use Rattle.um_refinement.proofs.KillsKnown.{aborted-known}
use Rattle.um_refinement.proofs.LawfulSteps.{Suits, abort-below, begins, lawful-next}
use Rattle.um_refinement.proofs.Leaves.{HasStep, Lawful, Leaves, beside, cleans, drops, event, mine, nothing, passes, recycles, resumes}
use Rattle.um_refinement.proofs.ListBlocks.{blocks-kept}
use Rattle.um_refinement.proofs.ListFrames.{frames-kept}
use Rattle.um_refinement.proofs.MemoryPart.{InDomains, memory-part}
use Rattle.um_refinement.proofs.NamesKnown.{gives-known, moves-known, names-known}
use Rattle.um_refinement.proofs.OncePart.{once-part}
use Rattle.um_refinement.proofs.PairsPart.{pairs-part}
use Rattle.um_refinement.proofs.QueuesKnown.{AreQueues, queues-known}
use Rattle.um_refinement.proofs.Reachable.{reachable-sound}
use Rattle.um_refinement.proofs.ReadyPart.{ready-part}
use Rattle.um_refinement.proofs.ReplyPart.{MovesIn, reply-part}
use Rattle.um_refinement.proofs.RowsPart.{rows-part}
use Rattle.um_refinement.proofs.RunningPart.{running-part}
use Rattle.um_refinement.proofs.SchedulerPart.{scheduler-part}
use Rattle.um_refinement.proofs.SizesPart.{sizes-part}
use Rattle.um_refinement.proofs.StatusPart.{status-part}
use Rattle.um_refinement.proofs.SuitsKnown.{proper-known, rests-known, suits-known, tells-known, waits-known}
use Rattle.um_refinement.proofs.TablePart.{table-part}
use Rattle.um_refinement.proofs.ToldPart.{told-part}
use Rattle.um_refinement.proofs.WordsPart.{words-part}

-- No step changes the image.

image-same : (m : State) (t x : ℕ) (q : Pending) (rest : Steps) → (T.after m t x q rest).image ≡ m.image
image-same m t x q rest =
    let ws = effects_of m t x q in
    shared-went (λ (s : State). s.image) (λ s threads. refl) rest (wrote ws m) t (next_of m t x q) ∙ image-wrote ws m

module _ (f : Fine) (m : State) (e : FineStep) (law : Lawful f m e) where
  open around f e use {later}

  image-part : (s : State) → Leaves f m e s → s.image ≡ f.image
  image-part _ (nothing u said) = law.rel.image
  image-part _ (event q rest todo x h shown is) = image-same m (mine f m e) x q rest ∙ law.rel.image
  image-part _ (resumes c told rest idle moved said) = image-same m c.thread 0 Pending.Resume rest ∙ law.rel.image
  image-part _ (passes who x rest todo h said) = image-same m (mine f m e) x (Pending.Inherit (to_thread who)) rest ∙ law.rel.image
  image-part _ (drops from x rest todo h said) = image-same m (mine f m e) x (Pending.Drops from) rest ∙ law.rel.image
  image-part _ (cleans who x rest todo h said) = image-same m (mine f m e) x (Pending.CleanPair (to_thread who)) rest ∙ law.rel.image
  image-part _ (recycles x rest todo at l said chosen) = image-same m (mine f m e) x Pending.Recycle rest ∙ law.rel.image
  image-part _ (beside t x q how chosen started) = image-same m t x q (thread_at m t).pending ∙ law.rel.image

  contexts-part : InDomains f m → Suits f m → IsLawful m.image → AreProper m.image m → (s : State) (how : Leaves f m e s) → HasStep f m e s how → RestsHoldNothing s → ContextsAre later s
  contexts-part all suits lawful proper s how has rests =
      record {
        running = running-field f m e law suits all s how has rests;
        parked = parked-field f m e law s how;
        asleep = asleep-field f m e law suits.rests s how;
        added = added-field f m e law lawful suits all s how;
        once = once-part f m e law s how;
        done = done-part f m e law proper s how;
      }

  -- what a thread at rest begins stands on no list but for one at rest
  begins-first : OwnRows f.image → InDomains f m → Suits f m → RestsFirst (f.processors e.cpu)
  begins-first own all suits q rest todo at first =
      let offered = (subst (Fits f.image (f.processors e.cpu).context) at (law.rel.processors e.cpu law.by.named).list.fits).0 in
      (first-rests f.image (f.processors e.cpu).context q rest offered first (begins-nothing law.rel law.by.named (begins f m e law suits own all) q rest todo at)).0

  -- what is known of the machine's state before the step and after it, beside what the lawful steps ask for
  pub record AreKnown (s : State) : Type 0 where
    pub tells : TellsWaiters s
    pub waits : WaitersWait s
    pub timed : AreTimed m
    pub holding : WaitersHold m
    pub untils : UntilsAre s
    pub aborted : AreAborted s

  -- the relation holds after the step
  pub related : OwnRows f.image → InDomains f m → Suits f m → IsLawful m.image → AreProper m.image m → DuesKnown m → NamesHeld m → GivesHeld m → MovesIn m (length f.image.domains) → AreQueues m
      → (s : State) (how : Leaves f m e s) → HasStep f m e s how → Goes m e s → RestsHoldNothing s → DuesKnown s → AreKnown s → Rel later s
  related own all suits lawful proper before names gives moves queues s how has goes rests after known =
      record {
        image = image-part s how;
        sorts = sorts-kept f.image f.sites e law.rel.sorts;
        contexts = contexts-part all suits lawful proper s how has rests;
        running = running-part f m e law;
        scheduler = scheduler-part f m e law;
        threads = λ t l.
            let told = told-part f m e law suits all before.kept t l s how in
            record {
              word = words-part f m e law t l s how;
              away = away-part f m e law suits all s how has t l;
              told = told;
              held = held-part f m e law t l;
              ready = ready-part f m e law suits.tells t l;
              note =
                  let noted = begun-noted f m e law t l in
                  record {
                    there = note-there f m e law s how t l;
                    number = note-number f m e law s how t l;
                    cell = note-cell f m e law t l;
                    waits = waits-noted f m e law suits.waits t l s how (λ x inside. noted x);
                    kept = notes-held f m e law suits.waits t l s how (λ x c inside new lies. notes-begun f m e law suits.waits t l s how x c new (noted x new) (law.rel.notes.places x inside) lies);
                    call = note-call f m e law t l suits all known.timed s how has;
                  };
              cut = cut-part f m e law s how t l known.tells known.aborted told;
              cut_comes = cut-comes-part f m e law known.holding suits.waits t l s how;
              looks = looks-part f m e law s how t l;
              sleep = sleep-part f m e law s how t l;
              shut = record { dead = shut-dead f m e law proper t l s how; alone = shut-alone f m e law t l s how; owned = λ own. shut-opened f m e law t l s how ((law.rel.threads t l).shut.owned own); clears = clears-part f m e law proper t l s how; begins = begins-part f m e law proper t l s how };
              timeout = timeout-part f m e law known.holding suits.waits t l s how goes known.waits known.untils;
            };
        rows = λ x l.
            record {
              pairs = pairs-part f m e law x l s how;
              status = status-part f m e law x l s how;
              contents = contents-part f m e law suits names x l s how;
              claims = claims-part f m e law x l suits before.creates lawful s how;
              cleaners = cleaners-part f m e law x l s how;
              cleaner = cleaner-part f m e law x l own s how;
              expiry = expiry-part f m e law x l s how;
            };
        domains = λ d l. domain-part f m e law d l s how;
        processors = λ k l.
            record {
              list = lists-kept f m law.rel e law.by.may law.taken (begins-first own all suits) k l;
              idle = idle-part f m e law k l;
              timer = timer-part f m e law s how k l;
              unarmed = unarmed-part f m e law suits.tells known.timed s how k l;
              look = look-part f m e law (abort-below f m e law suits own all (f.processors e.cpu).context.thread) s how k l;
              domain = held-domain-part f m e law s how k l;
              dues = dues-part f m e law before lawful s how has (image-part s how) after (contexts-part all suits lawful proper s how has rests).running k l;
              table = table-part f m e law all s how k l;
              looks = record { size = sizes-part f m e law queues s how k l; reply = λ d. reply-part f m e law moves s how k d l };
              blocks = blocks-kept f m law.rel e k l;
              frames = frames-kept f m law.rel e (rouses-bare f m law.rel (f.processors e.cpu) e law.by.may law.taken) k l;
              rows = rows-part f m e law k l;
              cleaning = λ x few.
                  record {
                    begun = begun-part f m e law x few own s how k l;
                    emptied = λ who thread. emptied-part f m e law gives own x few who thread s how k l;
                    order = order-part f m e law x few k l;
                    charged = charged-part f m e law x few suits s how k l;
                  };
            };
        memory = memory-part f m e law all s how;
        heap = heap-part f m e law s how;
        joins = joins-part f m e law s how;
        notes = notes-part f m e law s how;
        clock = clock-part f m e law s how;
        owed = owed-part f m e law;
        marks = marks-part f m e law suits.tells known.timed s how;
      }

-- What a lawful step leaves of the machine's state, and that the relation holds then.
pub record IsKept (f : Fine) (m : State) (e : FineStep) : Type 0 where
  pub state : State
  pub leaves : Leaves f m e state
  pub goes : Goes m e state
  pub related : Rel (stepped f.image f.cpus f.processors f.sites e) state

pub kept-step : (image : Image) (cpus : ℕ) → IsDescribed image → IsKnown (core_of (opening image)) → (ps : ℕ → Processor) (ss : Site → SiteState) (m : State) (e : FineStep)
    → let f = fine image cpus ps ss in Rel f m → IsReachable image cpus m → ByOneOf image cpus (ps (cpu_of e)) e → SiteMay image (ss (site_of e)) e → IsKept f m e
kept-step image cpus described known ps ss m e rel reach by taken =
    let f = fine image cpus ps ss in
    let law : Lawful f m e = record { rel = rel; sound = reachable-sound image cpus described.few m reach known; by = by; taken = taken } in
    let suits = suits-known image cpus described known m reach f rel in
    let own = own-known image described.lawful (subst IsSited (opening-image image) known.reached.sited) in
    let all : InDomains f m = λ t l started. started-placed image cpus described m reach t started in
    let next = lawful-next f m e law suits own all in
    let lawful = subst IsLawful (sym rel.image) described.lawful in
    let proper = proper-known image cpus described known m reach in
    let onwards = reach-on image cpus m next.state e.act reach next.goes in
    let rests = rests-known image cpus described known next.state onwards in
    let before = dues-known image cpus described known m reach in
    let after = dues-known image cpus described known next.state onwards in
    let moves = subst (λ (i : Image). MovesIn m (length i.domains)) rel.image (moves-known image cpus described known m reach) in
    let queues = queues-known image cpus described known m reach in
    let facts : AreKnown f m e law next.state = record {
      tells = tells-known image cpus described known next.state onwards;
      waits = waits-known image cpus described known next.state onwards;
      timed = timed-known image cpus m reach;
      holding = holds-known image cpus described known m reach;
      untils = untils-known image cpus described known next.state onwards;
      aborted = aborted-known image cpus described known next.state onwards;
    } in
    record {
      state = next.state;
      leaves = next.leaves;
      goes = next.goes;
      related = related f m e law own all suits lawful proper before (names-known image cpus described known m reach) (gives-known image cpus described known m reach) moves queues next.state next.leaves next.has next.goes rests after facts;
    }

-- Every lawful step keeps the relation with a state that a run of a described image reaches.
pub keeps-all : (image : Image) (cpus : ℕ) → IsDescribed image → IsKnown (core_of (opening image)) → Keeps image cpus
keeps-all image cpus described known ps ss m e rel reach by taken =
    let kept = kept-step image cpus described known ps ss m e rel reach by taken in (kept.state, kept.goes, kept.related)
