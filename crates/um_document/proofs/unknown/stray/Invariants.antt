use Rattle.std.proofs.Common.{◌≡◌}
use Rattle.toml.specs.View.{members_view}
use Rattle.um_document.specs.First.{first_of}
use Rattle.um_document.specs.Unknown.{strays}
use Rattle.um_document.proofs.unknown.stray.Given as goal

abbrev pub invariant-keys : goal.invariant-keys
invariant-keys l = record {
  can : (goal.iterator-keys).can_next l.key-iterator;
  finite : (goal.iterator-keys).is_finite l.key-iterator;
  rest : first_of (strays l.fields l.further (members_view l.key-iterator)) ≡ first_of (strays l.fields l.further (members_view l.table.entries));
}
