use Rattle.std.proofs.Common.{ℕ, List, ◌++◌, ap, ◌∙◌}
use Rattle.std.proofs.lemmas.Result.{on_ok_weaker}
use Rattle.um_canonical.proofs.PrintedText.{text_is}
use Rattle.um_canonical.proofs.text.put_image.Goals as goal

pub returns : goal.returns
returns c =
    let before = c.args.text.now.items in
    let are = rw (c.deref.ensures.value, c.in_ok-taken.ensures, c.len.ensures.value) at c.in_ok-numbers.ensures in
    let same = text_is c.in_ok-names.names c.in_ok-numbers.numbers.items c.args.image.now c.in_ok-names.ensures are in
    on_ok_weaker c.put_all.result (λ h. h ∙ ap (λ (x : List ℕ). before ++ x) same) (rw c.deref-2.ensures.value at c.put_all.ensures)
