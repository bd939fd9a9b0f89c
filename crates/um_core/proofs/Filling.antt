-- What a site says and gives of an event that a processor shows depends on the processor and on the site alone, and not on what stood in
-- the step before.
use Rattle.std.proofs.Common.{◌≡◌, ℕ, true, false, Option, Some, None, refl}
use Rattle.std.specs.Prelude.{if◌then◌else◌, IsTrue}
use Rattle.std.proofs.lemmas.Bool.{false≢true}
use Rattle.um_base.specs.Places.{row_at}
use Rattle.um_base.specs.Regions.{Partitions}
use Rattle.um_base.specs.declared.act.Act.{Act}
use Rattle.um_base.specs.declared.image.Image.{Image}
use Rattle.um_base.specs.declared.names.Access.TheVariants as Access
use Rattle.um_machine.specs.declared.pending.Pending.{Pending}
use Rattle.um_machine.specs.Order.{Steps}
use Rattle.um_words.specs.declared.fine.FineAct.{FineAct}
use Rattle.um_words.specs.declared.row_word.RowWord.{RowWord}
use Rattle.um_words.specs.declared.thread_word.ThreadWord.{ThreadWord}
use Rattle.um_words.specs.declared.dom_word.DomWord.{DomWord}
use Rattle.um_fine.specs.Steps.{Exchange, Site}
use Rattle.um_fine.specs.Answers.{act_in, bytes_in, value_in}
use Rattle.um_fine.specs.Objects.{ObjectCell}
use Rattle.um_fine.specs.Memory.{Bytes, memory_moves, memory_says}
use Rattle.um_fine.specs.Clock.{Clock}
use Rattle.um_fine.specs.Heap.{Heap}
use Rattle.um_fine.specs.Joins.{Joins}
use Rattle.um_fine.specs.Scheduler.{Scheduler}
use Rattle.um_fine.specs.Cells.{Cell}
use Rattle.um_fine.specs.Sites.{SiteState, is_sort, site_answers, site_moves}
use Rattle.um_fine.specs.Processor.{Processor}
use Rattle.um_fine.specs.Asks.{allows, amount, check_site, me, more_of, moves_show, shows, site_of_step}

module _ (image : Image) (p : Processor) where
  -- a state of this sort stands where the step is made
  abbrev pub Sits : Pending → SiteState → Type 0
  Sits q s = IsTrue (is_sort (site_of_step image p q) s)

  -- a check is made at a row or a thread's word, and a move at a domain's or a thread's word
  no-check : (s : SiteState) → ((x : ℕ) → IsTrue (is_sort (Site.row x) s) → ⊥) → (IsTrue (is_sort (Site.thread p.context.thread) s) → ⊥) → (x : Option ℕ) → IsTrue (is_sort (check_site image p x) s) → ⊥
  no-check s f g None h = g h
  no-check s f g (Some x) h = f x h

  abbrev pub gave : SiteState → Pending → Steps → FineAct → Exchange → Exchange
  gave s q rest e moved = site_moves image s (shows image p q e) (moves_show image p q rest moved)

  abbrev pub said : SiteState → Pending → Steps → FineAct → Exchange → FineAct
  said s q rest e moved = site_answers image s (gave s q rest e moved) (shows image p q e)

  -- two steps that are filled in alike
  abbrev pub Alike : SiteState → Pending → Type 0
  Alike s q = (rest : Steps) (e g : FineAct) (m n : Exchange) → (gave s q rest e m ≡ gave s q rest g n) × (said s q rest e m ≡ said s q rest g n)

  at-row : (w : RowWord) (q : Pending) → Sits q (SiteState.row w) → Alike (SiteState.row w) q
  at-row w (Pending.Check a kind want refusal) h rest e g m n = (refl, refl)
  at-row w (Pending.Grant who a) h rest e g m n = (refl, refl)
  at-row w (Pending.Own who) h rest e g m n = (refl, refl)
  at-row w (Pending.DropPair who a) h rest e g m n = (refl, refl)
  at-row w (Pending.Publish a) h rest e g m n = (refl, refl)
  at-row w (Pending.SetInit a strict undo) h rest e g m n = (refl, refl)
  at-row w (Pending.ClearInit a) h rest e g m n = (refl, refl)
  at-row w (Pending.Born a) h rest e g m n = (refl, refl)
  at-row w (Pending.DomMove d who) h rest e g m n = (refl, refl)
  at-row w q h rest e g m n = absurd (false≢true h)

  at-thread : (w : ThreadWord) (q : Pending) → Sits q (SiteState.thread w) → Alike (SiteState.thread w) q
  at-thread w Pending.Begin h rest e g m n = (refl, refl)
  at-thread w Pending.Exit h rest e g m n = (refl, refl)
  at-thread w (Pending.Check a kind want refusal) h rest e g m n = (refl, refl)
  at-thread w (Pending.Answer reply to) h rest e g m n = (refl, refl)
  at-thread w (Pending.DomMove d who) h rest e g m n = (refl, refl)
  at-thread w (Pending.Start who script stack priority mode) h rest e g m n = (refl, refl)
  at-thread w (Pending.EnterUser script) h rest e g m n = (refl, refl)
  at-thread w (Pending.Fatal reason cause) h rest e g m n = (refl, refl)
  at-thread w (Pending.Dooms from) h rest e g m n = (refl, refl)
  at-thread w (Pending.Abort who) h rest e g m n = (refl, refl)
  at-thread w (Pending.Suspend who) h rest e g m n = (refl, refl)
  at-thread w (Pending.Continue who) h rest e g m n = (refl, refl)
  at-thread w Pending.Killed h rest e g m n = (refl, refl)
  at-thread w q h rest e g m n = absurd (false≢true h)

  at-domain : (w : DomWord) (q : Pending) → Sits q (SiteState.domain w) → Alike (SiteState.domain w) q
  at-domain w (Pending.Check a kind want refusal) h rest e g m n = absurd (no-check (SiteState.domain w) (λ x i. false≢true i) (λ i. false≢true i) (row_at image a.0) h)
  at-domain w (Pending.DomInit d parts) h rest e g m n = (refl, refl)
  at-domain w (Pending.DomAdd d range attr) h rest e g m n = (refl, refl)
  at-domain w (Pending.DomRemove d range attr) h rest e g m n = (refl, refl)
  at-domain w (Pending.DomMove d who) h rest e g m n = (refl, refl)
  at-domain w q h rest e g m n = absurd (false≢true h)

  at-object : (k : ℕ) (o : ObjectCell) (q : Pending) → Sits q (SiteState.cell k (Cell.object o)) → Alike (SiteState.cell k (Cell.object o)) q
  at-object k o (Pending.Check a kind want refusal) h rest e g m n = absurd (no-check (SiteState.cell k (Cell.object o)) (λ x i. false≢true i) (λ i. false≢true i) (row_at image a.0) h)
  at-object k o (Pending.Work a ask) h rest e g m n = (refl, refl)
  at-object k o (Pending.Named who) h rest e g m n = (refl, refl)
  at-object k o (Pending.DomMove d who) h rest e g m n = (refl, refl)
  at-object k o q h rest e g m n = absurd (false≢true h)

  at-parts : (k : ℕ) (d : Option Partitions) (q : Pending) → Sits q (SiteState.cell k (Cell.parts d)) → Alike (SiteState.cell k (Cell.parts d)) q
  at-parts k d (Pending.Check a kind want refusal) h rest e g m n = absurd (no-check (SiteState.cell k (Cell.parts d)) (λ x i. false≢true i) (λ i. false≢true i) (row_at image a.0) h)
  at-parts k d (Pending.DomMove dom who) h rest e g m n = (refl, refl)
  at-parts k d q h rest e g m n = absurd (false≢true h)

  at-memory : (k : ℕ) (bs : Bytes) (q : Pending) → Sits q (SiteState.cell k (Cell.memory bs)) → Alike (SiteState.cell k (Cell.memory bs)) q
  at-memory k bs (Pending.Check a kind want refusal) h rest e g m n = absurd (no-check (SiteState.cell k (Cell.memory bs)) (λ x i. false≢true i) (λ i. false≢true i) (row_at image a.0) h)
  at-memory k bs (Pending.Load to a size) h rest e g m n =
      elim (allows image p Access.Read a.0 size) as (λ b.
      let f = λ (z : FineAct). if b then Act.Load a size (value_in (act_in z)) else Act.Fault Access.Read a size in
      let as-act = λ (x : Act). FineAct.Shown (record { thread = me image p; act = x }) (more_of image p (Pending.Load to a size)) in
      (memory_moves image bs (f e) Exchange.nothing ≡ memory_moves image bs (f g) Exchange.nothing)
      × (memory_says image bs (memory_moves image bs (f e) Exchange.nothing) (as-act (f e)) ≡ memory_says image bs (memory_moves image bs (f g) Exchange.nothing) (as-act (f g)))) [ true ↦ (refl, refl) | false ↦ (refl, refl) ]
  at-memory k bs (Pending.CopyIn a m') h rest e g m n =
      let size = amount image p m' in
      elim (allows image p Access.Read a.0 size) as (λ b.
      let f = λ (z : Exchange). memory_moves image bs (Act.CopyIn a size b) (if b then Exchange.bytes (bytes_in z) else Exchange.nothing) in
      let as-act = λ (x : Act). FineAct.Shown (record { thread = me image p; act = x }) (more_of image p (Pending.CopyIn a m')) in
      (f m ≡ f n) × (as-act (Act.CopyIn a size b) ≡ as-act (Act.CopyIn a size b))) [ true ↦ (refl, refl) | false ↦ (refl, refl) ]
  at-memory k bs (Pending.Store a size value) h rest e g m n = (refl, refl)
  at-memory k bs (Pending.Fetch a) h rest e g m n = (refl, refl)
  at-memory k bs (Pending.Probe a size) h rest e g m n = (refl, refl)
  at-memory k bs (Pending.CopyOut a) h rest e g m n = (refl, refl)
  at-memory k bs (Pending.CopyStr a) h rest e g m n = (refl, refl)
  at-memory k bs (Pending.Erase stack) h rest e g m n = (refl, refl)
  at-memory k bs Pending.Resume h rest e g m n = (refl, refl)
  at-memory k bs (Pending.Inherit who) h rest e g m n = (refl, refl)
  at-memory k bs (Pending.Drops from) h rest e g m n = (refl, refl)
  at-memory k bs (Pending.CleanPair who) h rest e g m n = (refl, refl)
  at-memory k bs Pending.Recycle h rest e g m n = (refl, refl)
  at-memory k bs (Pending.FutexWait a value timeout) h rest e g m n = (refl, refl)
  at-memory k bs (Pending.FutexWake a all) h rest e g m n = (refl, refl)
  at-memory k bs Pending.Left h rest e g m n = (refl, refl)
  at-memory k bs Pending.Tick h rest e g m n = (refl, refl)
  at-memory k bs (Pending.TimeOut who) h rest e g m n = (refl, refl)
  at-memory k bs Pending.Expire h rest e g m n = (refl, refl)
  at-memory k bs (Pending.Cut who) h rest e g m n = (refl, refl)
  at-memory k bs (Pending.DomMove d who) h rest e g m n = (refl, refl)
  at-memory k bs q h rest e g m n = absurd (false≢true h)

  at-heap : (k : ℕ) (o : Heap) (q : Pending) → Sits q (SiteState.cell k (Cell.heap o)) → Alike (SiteState.cell k (Cell.heap o)) q
  at-heap k o (Pending.Check a kind want refusal) h rest e g m n = absurd (no-check (SiteState.cell k (Cell.heap o)) (λ x i. false≢true i) (λ i. false≢true i) (row_at image a.0) h)
  at-heap k o (Pending.Reserve kind) h rest e g m n = (refl, refl)
  at-heap k o (Pending.Buffer size) h rest e g m n = (refl, refl)
  at-heap k o (Pending.Unbuffer size) h rest e g m n = (refl, refl)
  at-heap k o (Pending.DomMove d who) h rest e g m n = (refl, refl)
  at-heap k o q h rest e g m n = absurd (false≢true h)

  at-scheduler : (k : ℕ) (t : Scheduler) (q : Pending) → Sits q (SiteState.cell k (Cell.scheduler t)) → Alike (SiteState.cell k (Cell.scheduler t)) q
  at-scheduler k t (Pending.Check a kind want refusal) h rest e g m n = absurd (no-check (SiteState.cell k (Cell.scheduler t)) (λ x i. false≢true i) (λ i. false≢true i) (row_at image a.0) h)
  at-scheduler k t (Pending.DomMove d who) h rest e g m n = (refl, refl)
  at-scheduler k t q h rest e g m n = absurd (false≢true h)

  at-clock : (k : ℕ) (c : Clock) (q : Pending) → Sits q (SiteState.cell k (Cell.clock c)) → Alike (SiteState.cell k (Cell.clock c)) q
  at-clock k c (Pending.Check a kind want refusal) h rest e g m n = absurd (no-check (SiteState.cell k (Cell.clock c)) (λ x i. false≢true i) (λ i. false≢true i) (row_at image a.0) h)
  at-clock k c (Pending.Arm ticks) h rest e g m n = (refl, refl)
  at-clock k c (Pending.ArmTimer ticks) h rest e g m n = (refl, refl)
  at-clock k c (Pending.DomMove d who) h rest e g m n = (refl, refl)
  at-clock k c q h rest e g m n = absurd (false≢true h)

  at-joins : (k : ℕ) (j : Joins) (q : Pending) → Sits q (SiteState.cell k (Cell.joins j)) → Alike (SiteState.cell k (Cell.joins j)) q
  at-joins k j (Pending.Check a kind want refusal) h rest e g m n = absurd (no-check (SiteState.cell k (Cell.joins j)) (λ x i. false≢true i) (λ i. false≢true i) (row_at image a.0) h)
  at-joins k j (Pending.Join who timeout) h rest e g m n = (refl, refl)
  at-joins k j (Pending.DomMove d who) h rest e g m n = (refl, refl)
  at-joins k j q h rest e g m n = absurd (false≢true h)

  -- an event is filled in alike, whatever stood in it
  pub filled-alike : (s : SiteState) (q : Pending) → Sits q s → Alike s q
  filled-alike (SiteState.row w) q h = at-row w q h
  filled-alike (SiteState.thread w) q h = at-thread w q h
  filled-alike (SiteState.domain w) q h = at-domain w q h
  filled-alike (SiteState.cell k (Cell.object o)) q h = at-object k o q h
  filled-alike (SiteState.cell k (Cell.parts d)) q h = at-parts k d q h
  filled-alike (SiteState.cell k (Cell.memory bs)) q h = at-memory k bs q h
  filled-alike (SiteState.cell k (Cell.heap o)) q h = at-heap k o q h
  filled-alike (SiteState.cell k (Cell.scheduler t)) q h = at-scheduler k t q h
  filled-alike (SiteState.cell k (Cell.clock c)) q h = at-clock k c q h
  filled-alike (SiteState.cell k (Cell.joins j)) q h = at-joins k j q h
