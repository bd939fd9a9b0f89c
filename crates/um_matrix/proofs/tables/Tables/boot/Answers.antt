use Rattle.std.proofs.Common.{◌∙◌, ℕ, List, ap, sym}
use Rattle.um_base.specs.declared.image.Image.{Image}
use Rattle.um_machine.specs.Memory.{rodata_of}
use Rattle.um_machine.specs.Run.{objects_from}
use Rattle.um_steps.specs.Given.{IsGiven}
use Rattle.um_boot.proofs.BootLemmas.{state-is}
use Rattle.um_matrix.proofs.tables.Tables.boot.Goals as goal

pub boot-requires-2 : goal.boot-requires-2
unfolding IsGiven
boot-requires-2 c = c.into_parts-parts.ensures.given

pub invariant_of-result : goal.invariant_of-result
invariant_of-result c =
    let parts = c.into_parts-parts.ensures in
    (parts.all_threads, c.in_ok-objects.ensures.all, parts.all_pairs, parts.few_domains, c.new-2.ensures.all, c.new-3.ensures.all, parts.few_pools, parts.rodata ∙ sym (ap rodata_of parts.image), c.in_ok-outcome.ensures, parts.given)

pub returns : goal.returns
returns c =
    let parts = c.into_parts-parts.ensures in
    state-is _ parts.image parts.threads (c.in_ok-objects.ensures.items ∙ ap (λ (i : Image). objects_from i.boots 0 i.objects) parts.image ∙ sym parts.objects) parts.pairs parts.domains (c.new-2.ensures.value ∙ parts.memory) (c.new-3.ensures.value ∙ parts.stacks) parts.pools (ap (λ (k : ℕ × List ℕ). k.0) c.in_ok-clock.ensures ∙ sym parts.now) (ap (λ (k : ℕ × List ℕ). k.1) c.in_ok-clock.ensures ∙ sym parts.armed) (c.new-4.ensures ∙ sym parts.joins) (c.new-5.ensures ∙ sym parts.futexes)
    ∙ c.in_ok-boot.ensures
