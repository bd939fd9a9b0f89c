-- The woken so far, and those who are still to be woken.
use Rattle.std.proofs.Common.{◌≡◌, ◌∙◌, List, [], ◌∷◌, ◌++◌, map, sym, append_assoc, append-nil}
use Rattle.um_base.specs.declared.ask.Told.{Told}
use Rattle.um_base.specs.declared.ask.Waiter.{Waiter}
use Rattle.um_base.specs.declared.names.Errno.{Errno}
use Rattle.um_base.specs.declared.names.Reply.TheVariants as Reply
use Rattle.um_base.specs.declared.names.ThreadIx.{ThreadIx}
use Rattle.um_machine.specs.Services.{told}

-- what waiters are told who have an error
abbrev pub failed : Errno → List Waiter → List (ThreadIx × Told)
failed e ws = map (λ (w : Waiter). told w (Reply.Fail e) []) ws

pub one_woken : (e : Errno) (woken whole : List (ThreadIx × Told)) (before after : List Waiter) (w : Waiter) → before ≡ w ∷ after → woken ++ failed e before ≡ whole → (woken ++ told w (Reply.Fail e) [] ∷ []) ++ failed e after ≡ whole
one_woken e woken whole before after w split h = append_assoc woken (told w (Reply.Fail e) [] ∷ []) (failed e after) ∙ (rw split at h)

pub all_woken : (e : Errno) (woken whole : List (ThreadIx × Told)) (before : List Waiter) → before ≡ [] → woken ++ failed e before ≡ whole → woken ≡ whole
all_woken e woken whole before none h = sym (append-nil woken) ∙ (rw none at h)
