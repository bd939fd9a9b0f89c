use Rattle.std.proofs.Common.{◌≡◌, ◌<◌, ◌∙◌, ℕ, List, true, Some, ap, arith, length, slice_set, sym}
use Rattle.std.specs.Prelude.{filter}
use Rattle.um_fine.specs.Clock.{Marked, first_due, give_first, is_due}
use Rattle.um_tables.specs.Timed.{given_of, not_given, places}
use Rattle.um_tables.proofs.ListedMarks.{at-inside, at-none, at-read, at-removed, given-due, listed-at, listed-long, none-outside, place_of}
use Rattle.um_tables.proofs.Timing.{given-at, given-none, given-same, none-more, none-whole, same-at}
use Rattle.um_tables.proofs.clock.give_first.Goals as goal

pub bounds-marks-i : goal.bounds-marks-i
bounds-marks-i c =
    let ms = c.loop-k.marks in
    let ks = c.loop-k.ungiven.items in
    let k = c.loop-k.k in
    let i = c.index.result.now in
    let long_at_first = ap (λ (all : List ℕ). length all) c.loop-k.invariant.listed in
    let inside : k < length ks = omega (arith, c.loop-k-test.true, c.loop-k.auto.k-end, c.len-k-end.ensures, c.args.ungiven.now.ok.0, long_at_first) in
    let listed = c.loop-k.invariant.listed ∙ c.requires.listed ∙ ap (places not_given 0) (sym c.loop-k.invariant.same) in
    let long = listed-long not_given ms ks listed in
    let within : k < length (filter not_given ms) = omega (arith, inside, long) in
    let at : i ≡ place_of not_given ms k = c.index.ensures ∙ listed-at not_given ms ks k i listed inside in
    at-inside not_given ms k i within at

pub bounds-marks-i-then-is_due : goal.bounds-marks-i-then-is_due
bounds-marks-i-then-is_due c =
    let ms = c.loop-k.marks in
    let ks = c.loop-k.ungiven.items in
    let k = c.loop-k.k in
    let i = c.index.result.now in
    let long_at_first = ap (λ (all : List ℕ). length all) c.loop-k.invariant.listed in
    let inside : k < length ks = omega (arith, c.loop-k-test.true, c.loop-k.auto.k-end, c.len-k-end.ensures, c.args.ungiven.now.ok.0, long_at_first) in
    let listed = c.loop-k.invariant.listed ∙ c.requires.listed ∙ ap (places not_given 0) (sym c.loop-k.invariant.same) in
    let long = listed-long not_given ms ks listed in
    let within : k < length (filter not_given ms) = omega (arith, inside, long) in
    let at : i ≡ place_of not_given ms k = c.index.ensures ∙ listed-at not_given ms ks k i listed inside in
    at-inside not_given ms k i within at

pub bounds-marks-i-then-is_due-2 : goal.bounds-marks-i-then-is_due-2
bounds-marks-i-then-is_due-2 c =
    let ms = c.loop-k.marks in
    let ks = c.loop-k.ungiven.items in
    let k = c.loop-k.k in
    let i = c.index.result.now in
    let long_at_first = ap (λ (all : List ℕ). length all) c.loop-k.invariant.listed in
    let inside : k < length ks = omega (arith, c.loop-k-test.true, c.loop-k.auto.k-end, c.len-k-end.ensures, c.args.ungiven.now.ok.0, long_at_first) in
    let listed = c.loop-k.invariant.listed ∙ c.requires.listed ∙ ap (places not_given 0) (sym c.loop-k.invariant.same) in
    let long = listed-long not_given ms ks listed in
    let within : k < length (filter not_given ms) = omega (arith, inside, long) in
    let at : i ≡ place_of not_given ms k = c.index.ensures ∙ listed-at not_given ms ks k i listed inside in
    at-inside not_given ms k i within at

pub bounds-marks-i-then-is_due-3 : goal.bounds-marks-i-then-is_due-3
bounds-marks-i-then-is_due-3 c =
    let ms = c.loop-k.marks in
    let ks = c.loop-k.ungiven.items in
    let k = c.loop-k.k in
    let i = c.index.result.now in
    let long_at_first = ap (λ (all : List ℕ). length all) c.loop-k.invariant.listed in
    let inside : k < length ks = omega (arith, c.loop-k-test.true, c.loop-k.auto.k-end, c.len-k-end.ensures, c.args.ungiven.now.ok.0, long_at_first) in
    let listed = c.loop-k.invariant.listed ∙ c.requires.listed ∙ ap (places not_given 0) (sym c.loop-k.invariant.same) in
    let long = listed-long not_given ms ks listed in
    let within : k < length (filter not_given ms) = omega (arith, inside, long) in
    let at : i ≡ place_of not_given ms k = c.index.ensures ∙ listed-at not_given ms ks k i listed inside in
    at-inside not_given ms k i within at

pub returns-then-is_due-clause-given : goal.returns-then-is_due-clause-given
returns-then-is_due-clause-given c =
    let ms = c.loop-k.marks in
    let ks = c.loop-k.ungiven.items in
    let k = c.loop-k.k in
    let i = c.index.result.now in
    let long_at_first = ap (λ (all : List ℕ). length all) c.loop-k.invariant.listed in
    let inside : k < length ks = omega (arith, c.loop-k-test.true, c.loop-k.auto.k-end, c.len-k-end.ensures, c.args.ungiven.now.ok.0, long_at_first) in
    let listed = c.loop-k.invariant.listed ∙ c.requires.listed ∙ ap (places not_given 0) (sym c.loop-k.invariant.same) in
    let long = listed-long not_given ms ks listed in
    let within : k < length (filter not_given ms) = omega (arith, inside, long) in
    let at : i ≡ place_of not_given ms k = c.index.ensures ∙ listed-at not_given ms ks k i listed inside in
    let m = c.index-marks-i.result in
    let there = at-inside not_given ms k i within at in
    let none = at-none not_given (is_due c.args.now) (given-due c.args.now) ms k i at c.loop-k.invariant.none in
    let found = given-at c.args.now ms i m there none (sym c.is_due.ensures ∙ c.if-is_due.true) in
    let here = same-at ms i m there c.index-marks-i.is in
    let deadline = c.deadline.ensures ∙ ap (λ (n : Marked). n.deadline) (here _) in
    let mark = c.mark.ensures ∙ ap (λ (n : Marked). n.mark) (here _) in
    (λ j. Some (deadline j, mark j)) ∙ ap (λ (n : Marked). Some (n.deadline, n.mark)) (sym (here m))
    ∙ ap given_of (sym found.1 ∙ ap (first_due c.args.now) c.loop-k.invariant.same)

pub returns-then-is_due-clause-left : goal.returns-then-is_due-clause-left
returns-then-is_due-clause-left c =
    let ms = c.loop-k.marks in
    let ks = c.loop-k.ungiven.items in
    let k = c.loop-k.k in
    let i = c.index.result.now in
    let long_at_first = ap (λ (all : List ℕ). length all) c.loop-k.invariant.listed in
    let inside : k < length ks = omega (arith, c.loop-k-test.true, c.loop-k.auto.k-end, c.len-k-end.ensures, c.args.ungiven.now.ok.0, long_at_first) in
    let listed = c.loop-k.invariant.listed ∙ c.requires.listed ∙ ap (places not_given 0) (sym c.loop-k.invariant.same) in
    let long = listed-long not_given ms ks listed in
    let within : k < length (filter not_given ms) = omega (arith, inside, long) in
    let at : i ≡ place_of not_given ms k = c.index.ensures ∙ listed-at not_given ms ks k i listed inside in
    let m = c.index-marks-i.result in
    let there = at-inside not_given ms k i within at in
    let none = at-none not_given (is_due c.args.now) (given-due c.args.now) ms k i at c.loop-k.invariant.none in
    let found = given-at c.args.now ms i m there none (sym c.is_due.ensures ∙ c.if-is_due.true) in
    let here = same-at ms i m there c.index-marks-i.is in
    ap (slice_set ms i) (c.give.ensures ∙ ap (λ (n : Marked). record n { given = true }) (here _ ∙ sym (here m)))
    ∙ sym found.0 ∙ ap (give_first c.args.now) c.loop-k.invariant.same

pub returns-then-is_due-clause-listed : goal.returns-then-is_due-clause-listed
returns-then-is_due-clause-listed c =
    let ms = c.loop-k.marks in
    let ks = c.loop-k.ungiven.items in
    let k = c.loop-k.k in
    let i = c.index.result.now in
    let long_at_first = ap (λ (all : List ℕ). length all) c.loop-k.invariant.listed in
    let inside : k < length ks = omega (arith, c.loop-k-test.true, c.loop-k.auto.k-end, c.len-k-end.ensures, c.args.ungiven.now.ok.0, long_at_first) in
    let listed = c.loop-k.invariant.listed ∙ c.requires.listed ∙ ap (places not_given 0) (sym c.loop-k.invariant.same) in
    let long = listed-long not_given ms ks listed in
    let within : k < length (filter not_given ms) = omega (arith, inside, long) in
    let at : i ≡ place_of not_given ms k = c.index.ensures ∙ listed-at not_given ms ks k i listed inside in
    c.remove.ensures.items ∙ at-removed not_given c.give.new.self (ap not_given c.give.ensures) ms ks k i listed within at

pub loop-k-preserved : goal.loop-k-preserved
loop-k-preserved c =
    let ms = c.loop-k.marks in
    let ks = c.loop-k.ungiven.items in
    let k = c.loop-k.k in
    let i = c.index.result.now in
    let long_at_first = ap (λ (all : List ℕ). length all) c.loop-k.invariant.listed in
    let inside : k < length ks = omega (arith, c.loop-k-test.true, c.loop-k.auto.k-end, c.len-k-end.ensures, c.args.ungiven.now.ok.0, long_at_first) in
    let listed = c.loop-k.invariant.listed ∙ c.requires.listed ∙ ap (places not_given 0) (sym c.loop-k.invariant.same) in
    let long = listed-long not_given ms ks listed in
    let within : k < length (filter not_given ms) = omega (arith, inside, long) in
    let at : i ≡ place_of not_given ms k = c.index.ensures ∙ listed-at not_given ms ks k i listed inside in
    let m = c.index-marks-i.result in
    let read = at-read not_given ms k i m within at in record {
      none = none-more (is_due c.args.now) (filter not_given ms) k m within c.loop-k.invariant.none (ap (is_due c.args.now) read ∙ sym c.is_due.ensures ∙ c.if-is_due.false);
      same = c.loop-k.invariant.same;
      listed = c.loop-k.invariant.listed;
      room = c.loop-k.invariant.room;
    }

pub returns-clause-given : goal.returns-clause-given
returns-clause-given c =
    let ms = c.loop-k.marks in
    let listed = c.loop-k.invariant.listed ∙ c.requires.listed ∙ ap (places not_given 0) (sym c.loop-k.invariant.same) in
    let long = listed-long not_given ms c.loop-k.ungiven.items listed in
    let long_at_first = ap (λ (all : List ℕ). length all) c.loop-k.invariant.listed in
    let all = none-whole (is_due c.args.now) (filter not_given ms) c.loop-k.k (omega (arith, c.loop-k-test.false, c.loop-k.auto.k-end, c.len-k-end.ensures, c.args.ungiven.now.ok.0, long_at_first, long)) c.loop-k.invariant.none in
    let none = none-outside not_given (is_due c.args.now) (given-due c.args.now) ms all in
    ap given_of (sym (given-none c.args.now ms none) ∙ ap (first_due c.args.now) c.loop-k.invariant.same)

pub returns-clause-left : goal.returns-clause-left
returns-clause-left c =
    let ms = c.loop-k.marks in
    let listed = c.loop-k.invariant.listed ∙ c.requires.listed ∙ ap (places not_given 0) (sym c.loop-k.invariant.same) in
    let long = listed-long not_given ms c.loop-k.ungiven.items listed in
    let long_at_first = ap (λ (all : List ℕ). length all) c.loop-k.invariant.listed in
    let all = none-whole (is_due c.args.now) (filter not_given ms) c.loop-k.k (omega (arith, c.loop-k-test.false, c.loop-k.auto.k-end, c.len-k-end.ensures, c.args.ungiven.now.ok.0, long_at_first, long)) c.loop-k.invariant.none in
    let none = none-outside not_given (is_due c.args.now) (given-due c.args.now) ms all in
    sym (given-same c.args.now ms none) ∙ ap (give_first c.args.now) c.loop-k.invariant.same
