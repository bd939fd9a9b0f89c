use Rattle.std.proofs.Common.{◌≡◌, map}
use Rattle.um_description.specs.Names.{Text, named}
use Rattle.um_description.proofs.NameLemmas.{named_from}
use Rattle.um_description.proofs.named.number_of.Given as goal

abbrev pub invariant-loop-i : goal.invariant-loop-i
invariant-loop-i g l =
    (f : g.row.T.Denot → Text) → ((entry : _) (name : _) → goal.F-post g l.name_of entry name → name ≡ f entry.now) → named (map f l.entries) l.text ≡ named_from f l.entries l.text l.i
