-- Requests: the steps of whose result a processor needs to know only that they were made.
use Rattle.std.specs.Prelude.{◌≡◌, ◌++◌, ℕ, Bool, true, false, IsTrue, []}
use Rattle.um_base.specs.declared.image.Image.{Image}
use Rattle.um_words.specs.declared.row_word.RowWord.{RowWord}
use Rattle.um_words.specs.declared.thread_word.ThreadWord.{ThreadWord}
use Rattle.um_words.specs.declared.dom_word.DomWord.{DomWord}
use Rattle.um_fine.specs.Answers.{thread_in}
use Rattle.um_fine.specs.Heap.{Heap}
use Rattle.um_fine.specs.Memory.{Bytes}
use Rattle.um_fine.specs.Processor.{Processor}
use Rattle.um_fine.specs.Scheduler.{Scheduler}
use Rattle.um_fine.specs.Sites.{is_site}
use Rattle.um_fine.specs.Steps.{FineStep, Site}
use Rattle.um_machine.specs.Goes.{Change, Next, Way, copied, no_access}
use Rattle.um_tables.specs.declared.here.Here.{Here}
use Rattle.um_processor.specs.declared.phase.Phase.{Phase}
use Rattle.um_processor.specs.declared.phase.Turn.{Turn}
use Rattle.um_processor.specs.declared.request.Onward.{Onward}
use Rattle.um_processor.specs.declared.request.Request.{Request}
use Rattle.um_processor.specs.declared.running.Running.{Running}
use Rattle.um_tables.specs.declared.sites.Sites.{Ghosts as SitesOf}
use Rattle.um_words.specs.declared.thread_act.ThreadAct.{ThreadAct}
use Rattle.um_tables.specs.DomainActs.{domain_made}
use Rattle.um_processor.specs.Events.{gone_by}
use Rattle.um_tables.specs.HeapActs.{heap_made}
use Rattle.um_tables.specs.MemoryActs.{has_room, memory_made}
use Rattle.um_fine.specs.Follows.{filled_up}
use Rattle.um_processor.specs.Processors.{Goes, in_phase, processor_of, ready_of, refilled, rereading_of, settling_of, site_next, with_todo}
use Rattle.um_tables.specs.RowActs.{row_made}
use Rattle.um_tables.specs.SchedulerActs.{done_made}
use Rattle.um_tables.specs.ThreadActs.{thread_made}

abbrev pub site_of : Request → Site
site_of (Request.Row x act) = Site.row x.0
site_of (Request.Thread t act) = Site.thread t.0
site_of (Request.Domain d act) = Site.domain d
site_of (Request.Heap act charge) = Site.heap
site_of (Request.Memory act) = Site.memory
site_of Request.Done = Site.scheduler

-- an access has no more bytes than a step may have
abbrev pub is_short : Request → Bool
is_short (Request.Memory act) = has_room act
is_short request = true

module _ (cpu : ℕ) (image : Image) where
  -- this holds of each step that the request may become, whatever the site's state is
  abbrev pub Each : Request → (FineStep → Type 0) → Type 0
  Each (Request.Row x act) holds = (w : RowWord) → holds (row_made image cpu x.0 w act)
  Each (Request.Thread t act) holds = (w : ThreadWord) → holds (thread_made image cpu t.0 w act)
  Each (Request.Domain d act) holds = (w : DomWord) → holds (domain_made image cpu d w act)
  Each (Request.Heap act charge) holds = (n : ℕ) (h : Heap) → holds (heap_made image cpu n h act charge)
  Each (Request.Memory act) holds = (n : ℕ) (m : Bytes) → holds (memory_made image cpu n m act [])
  Each Request.Done holds = (n : ℕ) (s : Scheduler) → holds (done_made image cpu n s)

  -- and this holds of one of them
  abbrev pub One : Request → (FineStep → Type 0) → Type 0
  One (Request.Row x act) holds = (w : RowWord) × holds (row_made image cpu x.0 w act)
  One (Request.Thread t act) holds = (w : ThreadWord) × holds (thread_made image cpu t.0 w act)
  One (Request.Domain d act) holds = (w : DomWord) × holds (domain_made image cpu d w act)
  One (Request.Heap act charge) holds = (n : ℕ) × (h : Heap) × holds (heap_made image cpu n h act charge)
  One (Request.Memory act) holds = (n : ℕ) × (m : Bytes) × holds (memory_made image cpu n m act [])
  One Request.Done holds = (n : ℕ) × (s : Scheduler) × holds (done_made image cpu n s)

  -- the request is what this processor asks for next, and leaves the processor so
  pub record Leads (p : Processor) (request : Request) (z : Processor) : Type 0 where
    pub few : IsTrue (is_short request)
    pub site : site_next image p ≡ site_of request
    pub goes : Each request (λ e. Goes cpu image p e z)

  -- its next step holds its thread, and so tells the thread's domain
  pub record Holds (r : Running) (next : Phase) : Type 0 where
    pub site : site_next image (processor_of r) ≡ Site.thread r.context.value.thread
    pub goes : (w : ThreadWord) → let e = thread_made image cpu r.context.value.thread w ThreadAct.Hold in Goes cpu image (processor_of r) e (processor_of (record r { domain = (thread_in e.word).domain; phase = next }))

  -- what comes of it, given what the sites say in each case: the step was made; it was refused; none was made since others are at the site;
  -- none was asked for
  abbrev pub Requested : Turn → Request → (FineStep → Type 0) → (FineStep → Type 0) → (Site → Type 0) → Type 0 → Type 0
  Requested Turn.Made request took shut late none = One request took
  Requested Turn.Busy request took shut late none = One request shut
  Requested Turn.Changed request took shut late none = late (site_of request)
  Requested Turn.Stuck request took shut late none = none × (is_site (site_of request) ≡ false)

-- the same at sites
abbrev pub RequestedAt : {S : Type 0} → SitesOf S → Turn → Here → Request → S → S → Type 0
RequestedAt sites turn here request s t =
    Requested here.cpu here.image.now turn request
    (λ e. sites.Took here.image.now s e t)
    (λ e. sites.Kept s t × sites.Shut here.image.now s e t)
    (λ site. sites.Kept s t × sites.Contended here.image.now s site t)
    (t ≡ s)

-- the processor after it
abbrev pub gone_on : Image → Onward → Running → Processor
gone_on image Onward.GoesOn r = gone_by image (Next.on Change.nothing Way.rest) r
gone_on image Onward.Faults r = gone_by image (Next.on Change.nothing no_access) r
gone_on image Onward.CopyFails r = gone_by image (Next.on Change.nothing (copied r.context.value.mode false)) r
gone_on image Onward.Replies r = gone_by image (Next.on (Change.says r.reply) Way.rest) r
gone_on image (Onward.EntersUser script) r = gone_by image (Next.enters script) r
gone_on image (Onward.Dooms from) r = gone_by image (Next.dooms from) r
gone_on image Onward.Expands r = refilled image r
gone_on image Onward.EndsAct r = with_todo r (filled_up image r.context.value (settling_of (ready_of r) ++ rereading_of (ready_of r)))
gone_on image (Onward.To phase) r = in_phase phase r
