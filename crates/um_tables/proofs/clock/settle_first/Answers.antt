use Rattle.std.proofs.Common.{◌≡◌, ◌<◌, ◌∙◌, ℕ, List, true, ap, arith, length, slice_set, sym}
use Rattle.std.specs.Prelude.{filter}
use Rattle.um_fine.specs.Clock.{Marked, is_unsettled, settle_first}
use Rattle.um_tables.specs.Timed.{not_settled, places}
use Rattle.um_tables.proofs.ListedMarks.{at-inside, at-none, at-read, at-removed, settled-same, listed-at, listed-long, none-outside, place_of}
use Rattle.um_tables.proofs.Timing.{none-more, none-whole, same-at, settled-at, settled-none}
use Rattle.um_tables.proofs.clock.settle_first.Goals as goal

pub bounds-marks-i : goal.bounds-marks-i
bounds-marks-i c =
    let ms = c.loop-k.marks in
    let ks = c.loop-k.unsettled.items in
    let k = c.loop-k.k in
    let i = c.index.result.now in
    let long_at_first = ap (λ (all : List ℕ). length all) c.loop-k.invariant.listed in
    let inside : k < length ks = omega (arith, c.loop-k-test.true, c.loop-k.auto.k-end, c.len-k-end.ensures, c.args.unsettled.now.ok.0, long_at_first) in
    let listed = c.loop-k.invariant.listed ∙ c.requires.listed ∙ ap (places not_settled 0) (sym c.loop-k.invariant.same) in
    let long = listed-long not_settled ms ks listed in
    let within : k < length (filter not_settled ms) = omega (arith, inside, long) in
    let at : i ≡ place_of not_settled ms k = c.index.ensures ∙ listed-at not_settled ms ks k i listed inside in
    at-inside not_settled ms k i within at

pub bounds-marks-i-then-is_unsettled : goal.bounds-marks-i-then-is_unsettled
bounds-marks-i-then-is_unsettled c =
    let ms = c.loop-k.marks in
    let ks = c.loop-k.unsettled.items in
    let k = c.loop-k.k in
    let i = c.index.result.now in
    let long_at_first = ap (λ (all : List ℕ). length all) c.loop-k.invariant.listed in
    let inside : k < length ks = omega (arith, c.loop-k-test.true, c.loop-k.auto.k-end, c.len-k-end.ensures, c.args.unsettled.now.ok.0, long_at_first) in
    let listed = c.loop-k.invariant.listed ∙ c.requires.listed ∙ ap (places not_settled 0) (sym c.loop-k.invariant.same) in
    let long = listed-long not_settled ms ks listed in
    let within : k < length (filter not_settled ms) = omega (arith, inside, long) in
    let at : i ≡ place_of not_settled ms k = c.index.ensures ∙ listed-at not_settled ms ks k i listed inside in
    at-inside not_settled ms k i within at

pub returns-then-is_unsettled-clause-left : goal.returns-then-is_unsettled-clause-left
returns-then-is_unsettled-clause-left c =
    let ms = c.loop-k.marks in
    let ks = c.loop-k.unsettled.items in
    let k = c.loop-k.k in
    let i = c.index.result.now in
    let long_at_first = ap (λ (all : List ℕ). length all) c.loop-k.invariant.listed in
    let inside : k < length ks = omega (arith, c.loop-k-test.true, c.loop-k.auto.k-end, c.len-k-end.ensures, c.args.unsettled.now.ok.0, long_at_first) in
    let listed = c.loop-k.invariant.listed ∙ c.requires.listed ∙ ap (places not_settled 0) (sym c.loop-k.invariant.same) in
    let long = listed-long not_settled ms ks listed in
    let within : k < length (filter not_settled ms) = omega (arith, inside, long) in
    let at : i ≡ place_of not_settled ms k = c.index.ensures ∙ listed-at not_settled ms ks k i listed inside in
    let m = c.index-marks-i.result in
    let there = at-inside not_settled ms k i within at in
    let none = at-none not_settled (is_unsettled c.args.deadline c.args.mark) (settled-same c.args.deadline c.args.mark) ms k i at c.loop-k.invariant.none in
    let found = settled-at c.args.deadline c.args.mark ms i m there none (sym c.is_unsettled.ensures ∙ c.if-is_unsettled.true) in
    let here = same-at ms i m there c.index-marks-i.is in
    ap (slice_set ms i) (c.settle.ensures ∙ ap (λ (n : Marked). record n { settled = true }) (here _ ∙ sym (here m)))
    ∙ sym found ∙ ap (settle_first c.args.deadline c.args.mark) c.loop-k.invariant.same

pub returns-then-is_unsettled-clause-listed : goal.returns-then-is_unsettled-clause-listed
returns-then-is_unsettled-clause-listed c =
    let ms = c.loop-k.marks in
    let ks = c.loop-k.unsettled.items in
    let k = c.loop-k.k in
    let i = c.index.result.now in
    let long_at_first = ap (λ (all : List ℕ). length all) c.loop-k.invariant.listed in
    let inside : k < length ks = omega (arith, c.loop-k-test.true, c.loop-k.auto.k-end, c.len-k-end.ensures, c.args.unsettled.now.ok.0, long_at_first) in
    let listed = c.loop-k.invariant.listed ∙ c.requires.listed ∙ ap (places not_settled 0) (sym c.loop-k.invariant.same) in
    let long = listed-long not_settled ms ks listed in
    let within : k < length (filter not_settled ms) = omega (arith, inside, long) in
    let at : i ≡ place_of not_settled ms k = c.index.ensures ∙ listed-at not_settled ms ks k i listed inside in
    c.remove.ensures.items ∙ at-removed not_settled c.settle.new.self (ap not_settled c.settle.ensures) ms ks k i listed within at

pub loop-k-preserved : goal.loop-k-preserved
loop-k-preserved c =
    let ms = c.loop-k.marks in
    let ks = c.loop-k.unsettled.items in
    let k = c.loop-k.k in
    let i = c.index.result.now in
    let long_at_first = ap (λ (all : List ℕ). length all) c.loop-k.invariant.listed in
    let inside : k < length ks = omega (arith, c.loop-k-test.true, c.loop-k.auto.k-end, c.len-k-end.ensures, c.args.unsettled.now.ok.0, long_at_first) in
    let listed = c.loop-k.invariant.listed ∙ c.requires.listed ∙ ap (places not_settled 0) (sym c.loop-k.invariant.same) in
    let long = listed-long not_settled ms ks listed in
    let within : k < length (filter not_settled ms) = omega (arith, inside, long) in
    let at : i ≡ place_of not_settled ms k = c.index.ensures ∙ listed-at not_settled ms ks k i listed inside in
    let m = c.index-marks-i.result in
    let read = at-read not_settled ms k i m within at in record {
      none =
          none-more (is_unsettled c.args.deadline c.args.mark) (filter not_settled ms) k m within c.loop-k.invariant.none
          (ap (is_unsettled c.args.deadline c.args.mark) read ∙ sym c.is_unsettled.ensures ∙ c.if-is_unsettled.false);
      same = c.loop-k.invariant.same;
      listed = c.loop-k.invariant.listed;
      room = c.loop-k.invariant.room;
    }

pub returns-clause-left : goal.returns-clause-left
returns-clause-left c =
    let ms = c.loop-k.marks in
    let listed = c.loop-k.invariant.listed ∙ c.requires.listed ∙ ap (places not_settled 0) (sym c.loop-k.invariant.same) in
    let long = listed-long not_settled ms c.loop-k.unsettled.items listed in
    let long_at_first = ap (λ (all : List ℕ). length all) c.loop-k.invariant.listed in
    let all = none-whole (is_unsettled c.args.deadline c.args.mark) (filter not_settled ms) c.loop-k.k (omega (arith, c.loop-k-test.false, c.loop-k.auto.k-end, c.len-k-end.ensures, c.args.unsettled.now.ok.0, long_at_first, long)) c.loop-k.invariant.none in
    let none = none-outside not_settled (is_unsettled c.args.deadline c.args.mark) (settled-same c.args.deadline c.args.mark) ms all in
    sym (settled-none c.args.deadline c.args.mark ms none) ∙ ap (settle_first c.args.deadline c.args.mark) c.loop-k.invariant.same
