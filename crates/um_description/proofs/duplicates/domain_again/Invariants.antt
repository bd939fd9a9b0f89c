use Rattle.std.proofs.Common.{◌≡◌, map, drop}
use Rattle.um_document.specs.First.{first_of}
use Rattle.um_description.specs.Duplicates.{SameTexts, domains_again, added}
use Rattle.um_description.proofs.AgainLemmas.{domain_name}
use Rattle.um_description.proofs.duplicates.domain_again.Given as goal

abbrev pub invariant-loop-domain : goal.invariant-loop-domain
invariant-loop-domain l = record {
  rest : first_of (domains_again l.seen l.index (drop l.domain-index l.domains)) ≡ first_of (domains_again l.fn.seen 0 l.domains);
  all : SameTexts (added l.seen (map domain_name (drop l.domain-index l.domains))) (added l.fn.seen (map domain_name l.domains));
  index : l.index ≡ l.domain-index;
}
