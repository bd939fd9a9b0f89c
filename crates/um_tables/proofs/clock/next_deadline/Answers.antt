use Rattle.std.proofs.Common.{◌≡◌, ◌<◌, ◌+◌, ◌-◌, ◌∙◌, ℕ, List, ap, arith, drop, get_or, length, sym}
use Rattle.std.specs.Prelude.{filter}
use Rattle.std.proofs.lemmas.List.{drop_all}
use Rattle.um_fine.specs.Clock.{Marked, deadlines}
use Rattle.um_machine.specs.Time.{next_deadline}
use Rattle.um_tables.specs.Timed.{not_given}
use Rattle.um_tables.proofs.ListedMarks.{at-inside, at-read, listed-at, listed-long, next-ungiven}
use Rattle.um_tables.proofs.Timing.{nearer}
use Rattle.um_tables.proofs.clock.next_deadline.Goals as goal

pub loop-k-init : goal.loop-k-init
loop-k-init c =
    let few = listed-long not_given c.args.marks.now c.args.ungiven.now c.requires.listed in record {
      within = omega arith;
      next = ap (λ (ms : List Marked). next_deadline c.args.now (deadlines ms))
          (sym (drop_all (length c.args.ungiven.now) (filter not_given c.args.marks.now) (omega (arith, few))));
    }

pub bounds-marks-i : goal.bounds-marks-i
bounds-marks-i c =
    let ms = c.args.marks.now in
    let ks = c.args.ungiven.now in
    let k = c.loop-k.k - 1 in
    let inside : k < length ks = omega (arith, c.loop-k-test.true, c.loop-k.invariant.within) in
    let long = listed-long not_given ms ks c.requires.listed in
    at-inside not_given ms k (get_or ks k 0) (omega (arith, inside, long)) (listed-at not_given ms ks k 0 c.requires.listed inside)

pub loop-k-preserved : goal.loop-k-preserved
loop-k-preserved c =
    let ms = c.args.marks.now in
    let ks = c.args.ungiven.now in
    let k = c.loop-k.k - 1 in
    let m = c.index-marks-i.result in
    let inside : k < length ks = omega (arith, c.loop-k-test.true, c.loop-k.invariant.within) in
    let long = listed-long not_given ms ks c.requires.listed in
    let within : k < length (filter not_given ms) = omega (arith, inside, long) in
    let read = c.index-marks-i.is ∙ sym (at-read not_given ms k (get_or ks k 0) m within (listed-at not_given ms ks k 0 c.requires.listed inside)) in
    let more : c.loop-k.k ≡ k + 1 = omega (arith, c.loop-k-test.true) in record {
      within = omega (arith, inside);
      next =
          c.nearer-next.ensures
          ∙ nearer c.args.now (filter not_given ms) k c.deadline.result m c.loop-k.next within read c.deadline.ensures
          (c.loop-k.invariant.next ∙ ap (λ (n : ℕ). next_deadline c.args.now (deadlines (drop n (filter not_given ms)))) more);
    }

pub returns : goal.returns
returns c =
    let last : c.loop-k.k ≡ 0 = omega (arith, c.loop-k-test.false) in
    c.loop-k.invariant.next ∙ ap (λ (n : ℕ). next_deadline c.args.now (deadlines (drop n (filter not_given c.args.marks.now)))) last
    ∙ next-ungiven c.args.now c.args.marks.now c.requires.come
