use Rattle.std.proofs.Common.{◌≡◌, ◌+◌, ◌==◌, ◌++◌, ◌∙◌, ℕ, Bool, true, false, List, ap, append_assoc, arith, if◌then◌else◌, length-append, rules, sym}
use Rattle.std.proofs.lemmas.List.{append-nil}
use Rattle.um_base.specs.declared.act.Found.{Found}
use Rattle.um_fine.specs.Memory.{byte_at}
use Rattle.um_tables.proofs.TextLemmas.{bytes-next, bytes-zero, found-end, found-next}
use Rattle.um_tables.proofs.bytes.Bytes.copy_text.Goals as goal

pub loop-before-preserved : goal.loop-before-preserved
loop-before-preserved c =
    let m = c.args.self.now in
    let image = c.args.image.now in
    let other : (byte_at image m (c.args.a + c.loop-before.before) == 0) ≡ false = ap (λ (b : ℕ). b == 0) (sym c.byte_behind-byte.ensures) ∙ search rules in
    record {
      found = sym (found-next image m c.args.a c.loop-before.before c.args.readable c.loop-before-test.true other) ∙ c.loop-before.invariant.found;
      whole =
          rw (c.push.ensures, c.byte_behind-byte.ensures)
          (append_assoc c.loop-before.text _ _
          ∙ ap (λ (rest : List ℕ). c.loop-before.text ++ rest) (sym (bytes-next image m c.args.a c.loop-before.before c.args.readable c.loop-before-test.true other))
          ∙ c.loop-before.invariant.whole);
      kept = c.loop-before.invariant.kept;
      count = rw c.push.ensures (omega (arith, length-append {A = ℕ}, c.loop-before.invariant.count));
    }

pub returns-then-byte-eq0-clause-taken : goal.returns-then-byte-eq0-clause-taken
returns-then-byte-eq0-clause-taken c =
    let m = c.args.self.now in
    let image = c.args.image.now in
    let ends : (byte_at image m (c.args.a + c.loop-before.before) == 0) ≡ true = ap (λ (b : ℕ). b == 0) (sym c.byte_behind-byte.ensures) ∙ search rules in
    sym (append-nil c.loop-before.text)
    ∙ ap (λ (rest : List ℕ). c.loop-before.text ++ rest) (sym (bytes-zero image m c.args.a c.loop-before.before c.args.readable c.loop-before-test.true ends))
    ∙ c.loop-before.invariant.whole

pub returns-then-readable-eq-MOST_TEXT-clause-found : goal.returns-then-readable-eq-MOST_TEXT-clause-found
returns-then-readable-eq-MOST_TEXT-clause-found c =
    let whole : c.loop-before.before ≡ 32 = omega arith in
    sym
    (sym c.loop-before.invariant.found ∙ found-end c.args.image.now c.args.self.now c.args.a c.loop-before.before c.args.readable (omega arith)
    ∙ ap (λ (n : ℕ). if n == 32 then Found.TooLong else Found.Unreadable) whole)

pub returns-else-readable-eq-MOST_TEXT-clause-found : goal.returns-else-readable-eq-MOST_TEXT-clause-found
returns-else-readable-eq-MOST_TEXT-clause-found c =
    let all : c.loop-before.before ≡ c.args.readable = omega arith in
    let few : (c.args.readable == 32) ≡ false = search rules in
    sym
    (sym c.loop-before.invariant.found ∙ found-end c.args.image.now c.args.self.now c.args.a c.loop-before.before c.args.readable (omega arith)
    ∙ ap (λ (n : ℕ). if n == 32 then Found.TooLong else Found.Unreadable) all ∙ ap (λ (b : Bool). if b then Found.TooLong else Found.Unreadable) few)
