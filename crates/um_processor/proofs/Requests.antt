-- What comes of a request to a site, for the processor that it leads on.
use Rattle.std.proofs.Common.{◌≡◌, ℕ, ap, subst, sym, ◌∙◌}
use Rattle.um_base.specs.declared.image.Image.{Image}
use Rattle.um_words.specs.declared.thread_word.ThreadWord.{ThreadWord}
use Rattle.um_fine.specs.Answers.{thread_in}
use Rattle.um_fine.specs.Processor.{Processor}
use Rattle.um_fine.specs.Sites.{is_site}
use Rattle.um_fine.specs.Steps.{FineStep, Site}
use Rattle.um_tables.specs.declared.here.Here.{Here}
use Rattle.um_processor.specs.declared.phase.Phase.{Phase}
use Rattle.um_processor.specs.declared.phase.Turn.{Turn}
use Rattle.um_processor.specs.declared.request.Request.{Request}
use Rattle.um_processor.specs.declared.running.Running.{Running}
use Rattle.um_tables.specs.declared.sites.Sites.{Ghosts as SitesOf}
use Rattle.um_words.specs.declared.thread_act.ThreadAct.{ThreadAct}
use Rattle.um_processor.specs.Processors.{Goes, IsStuck, MayNext, OnMade, Turned, processor_of}
use Rattle.um_processor.specs.Requests.{Each, Holds, Leads, One, Requested, RequestedAt}
use Rattle.um_tables.specs.ThreadActs.{thread_made}
use Rattle.um_processor.specs.Turns.{TurnsAt}
use Rattle.um_processor.proofs.Lifted.{goes-as, turned-as}

module _ (cpu : ℕ) (image : Image) where
  one-of : (request : Request) (holds said : FineStep → Type 0) → Each cpu image request holds → One cpu image request said → (e : FineStep) × said e × holds e
  one-of (Request.Row x act) holds said each one = (_, one.1, each one.0)
  one-of (Request.Thread t act) holds said each one = (_, one.1, each one.0)
  one-of (Request.Domain d act) holds said each one = (_, one.1, each one.0)
  one-of (Request.Heap act charge) holds said each one = (_, one.2, each one.0 one.1)
  one-of (Request.Memory act) holds said each one = (_, one.2, each one.0 one.1)
  one-of Request.Done holds said each one = (_, one.2, each one.0 one.1)

  module _ (p z : Processor) where
    -- it may be made where each step that the processor asks for may
    pub may-each : (request : Request) (may : FineStep → Type 0) → Leads cpu image p request z → MayNext cpu image p may → Each cpu image request may
    may-each (Request.Row x act) may l goes = λ w. goes _ (l.goes w).asks
    may-each (Request.Thread t act) may l goes = λ w. goes _ (l.goes w).asks
    may-each (Request.Domain d act) may l goes = λ w. goes _ (l.goes w).asks
    may-each (Request.Heap act charge) may l goes = λ n h. goes _ (l.goes n h).asks
    may-each (Request.Memory act) may l goes = λ n m. goes _ (l.goes n m).asks
    may-each Request.Done may l goes = λ n s. goes _ (l.goes n s).asks

    requested : (turn : Turn) (request : Request) (took shut : FineStep → Type 0) (late : Site → Type 0) (none : Type 0) → Leads cpu image p request z
        → Requested cpu image turn request took shut late none → Turned turn cpu image p z took shut late none
    requested Turn.Made request took shut late none l h = one-of request (λ e. Goes cpu image p e z) took l.goes h
    requested Turn.Busy request took shut late none l h =
        let made = one-of request (λ e. Goes cpu image p e z) shut l.goes h in
        (made.0, made.1, made.2.asks)
    requested Turn.Changed request took shut late none l h = subst late (sym l.site) h
    requested Turn.Stuck request took shut late none l h = (h.0, IsStuck.no_site (ap is_site l.site ∙ h.1))

pub led : {S : Type 0} (sites : SitesOf S) (turn : Turn) (here : Here) (s t : S) (p z y : Processor) (request : Request)
    → Leads here.cpu here.image.now p request z → RequestedAt sites turn here request s t → OnMade turn (y ≡ z)
    → TurnsAt sites turn here.cpu here.image.now s t p y
led sites turn here s t p z y request l h at =
    turned-as turn here.cpu here.image.now _ _ _ _ p z y at (requested here.cpu here.image.now p z turn request _ _ _ _ l h)

-- a thread that is held, and the domain that is known then
pub held : (cpu : ℕ) (image : Image) (r : Running) (next : Phase) → Holds cpu image r next → (t : ℕ) → t ≡ r.context.value.thread → (w word : ThreadWord)
    → word ≡ thread_in (thread_made image cpu t w ThreadAct.Hold).word
    → Goes cpu image (processor_of r) (thread_made image cpu t w ThreadAct.Hold) (processor_of (record r { domain = word.domain; phase = next }))
held cpu image r next holds t at w word said =
    let made : ℕ → FineStep = λ x. thread_made image cpu x w ThreadAct.Hold in
    let left : ℕ → Processor = λ x. processor_of (record r { domain = (thread_in (made x).word).domain; phase = next }) in
    goes-as cpu image (processor_of r) (left t) _ (made t) (ap (λ (v : ThreadWord). processor_of (record r { domain = v.domain; phase = next })) said)
    (subst (λ (x : ℕ). Goes cpu image (processor_of r) (made x) (left x)) (sym at) (holds.goes w))
