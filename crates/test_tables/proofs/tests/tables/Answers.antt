use Rattle.std.proofs.Common.{arith, ◌≡◌, ◌++◌, ℕ, List, [], ap, sym, subst, replicate, take, ◌∙◌}
use Rattle.std.specs.List.{All}
use Rattle.std.proofs.lemmas.List.Elements.{All-replicate}
use Rattle.um_words.specs.declared.thread_word.ThreadWord.{ThreadWord}
use Rattle.um_tables.specs.Sited.{in_domains}
use Rattle.test_tables.proofs.tests.tables.Goals as goal

-- words of one domain, put after none
all-alike : (ws before : List ThreadWord) (n : ℕ) (w : ThreadWord) → ws ≡ take 32 before ++ replicate n w → before ≡ [] → w.domain ≡ 0 → All in_domains ws
all-alike ws before n w items none first =
    subst (λ (all : List ThreadWord). All in_domains all) (sym (items ∙ ap (λ (b : List ThreadWord). take 32 b ++ replicate n w) none))
    (All-replicate in_domains n w (omega (arith, first)))

pub new-requires-6-clause-named : goal.new-requires-6-clause-named
new-requires-6-clause-named c =
    all-alike c.resize-2.new.self.items c.new-threads.result.items _ c.living.result c.in_ok-resize-2.ensures.items c.new-threads.ensures.items c.living.ensures
