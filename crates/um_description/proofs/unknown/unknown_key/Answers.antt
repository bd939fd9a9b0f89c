use Rattle.std.proofs.Common.{rules, ◌∙◌, ap, is_some}
use Rattle.um_document.specs.declared.description.ScriptEntry.{ScriptEntry}
use Rattle.um_description.proofs.KnownLemmas.{key_found}
use Rattle.um_description.proofs.unknown.unknown_key.Goals as goal

pub returns : goal.returns
returns c =
    key_found c.args.d.now c.args.index c.args.boot.now c.names_thread-thread.result c.names_thread_stack-stack.result c.is_some-script.result c.names_initialised-domain.result
    (rw (← c.as_slice-objects.ensures, ← c.as_slice.ensures) c.names_thread-thread.ensures)
    (rw (← c.as_slice-objects.ensures, ← c.as_slice-2.ensures) c.names_thread_stack-stack.ensures)
    (c.is_some-script.ensures ∙ ap is_some (rw (← c.as_slice-3.ensures, ← c.as_slice-4.ensures) (c.number_of.ensures.value (λ (s : ScriptEntry). s.name) (λ entry name is. search rules))))
    (rw (← c.as_slice-5.ensures, ← c.as_slice-6.ensures) c.names_initialised-domain.ensures)
    c.unless.ensures c.unless-2.ensures c.unless-3.ensures c.unless-4.ensures c.unknown_pool.ensures c.or.ensures c.or-2.ensures c.or-3.ensures c.or-4.ensures
