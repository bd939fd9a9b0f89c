use Rattle.std.proofs.Common.{◌≡◌, ℕ, ◌*◌, Bool, refl, sym, ◌∙◌, arith}
use Rattle.um_base.specs.declared.limits.TheConstants.{THREADS}
use Rattle.std.proofs.lemmas.List.{append-nil}
use Rattle.um_machine.specs.State.{pair_at}
use Rattle.um_trace.specs.Names.{thread_text}
use Rattle.um_trace.specs.declared.dump.objects.TheConstants.{HOLDERS_ROOM}
use Rattle.um_trace.specs.Dump.{holders_text, holders_below}
use Rattle.um_trace.proofs.LineLemmas.{numbers_none}
use Rattle.um_trace.proofs.ListLemmas.{puts_choice, is_none_choice, puts_listed, puts_dash}
use Rattle.um_trace.proofs.dump.objects.put_holders.Goals as goal

pub loop-thread-init : goal.loop-thread-init
loop-thread-init g c = record {
  text = rw numbers_none (record { items = sym (append-nil c.args.room.now.items); len = omega arith; capacity = omega arith });
  first = rw numbers_none refl;
}

pub loop-thread-preserved : goal.loop-thread-preserved
loop-thread-preserved g c =
    let holds : ℕ → Bool = λ t. pair_at (g.D.Dumped.state c.args.last.now) t c.args.row in
    let before = c.loop-thread.invariant in
    let step = c.put_holder-first.ensures in
    record {
      text =
          puts_choice (thread_text c.args.image.now) holds c.loop-thread.thread c.loop-thread.first (25 * c.loop-thread.thread) 25 _ _ _ _ before.text before.first
          (rw c.has_pair.ensures at step.text) (omega arith);
      first = rw (step.none, c.has_pair.ensures) (is_none_choice holds c.loop-thread.thread c.loop-thread.first before.first);
    }

pub returns-else-first : goal.returns-else-first
unfolding holders_text
returns-else-first g c =
    let all : c.loop-thread.thread ≡ THREADS = omega arith in
    let before = c.loop-thread.invariant in
    puts_listed (thread_text c.args.image.now) (holders_below (g.D.Dumped.state c.args.last.now) c.args.row THREADS) (25 * THREADS) HOLDERS_ROOM _ _ (rw all at before.text)
    (sym (rw all at before.first) ∙ c.if-first.false) (omega arith)

pub returns-then-first : goal.returns-then-first
unfolding holders_text
returns-then-first g c =
    let all : c.loop-thread.thread ≡ THREADS = omega arith in
    let before = c.loop-thread.invariant in
    puts_dash (thread_text c.args.image.now) (holders_below (g.D.Dumped.state c.args.last.now) c.args.row THREADS) (25 * THREADS) 1 HOLDERS_ROOM _ _ _ (rw all at before.text)
    (sym (rw all at before.first) ∙ c.if-first.true) c.put_text.ensures (omega arith)
