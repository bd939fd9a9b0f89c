-- Readers and writers of a pipe, one after another.
use Rattle.std.proofs.Common.{◌≡◌, ◌∙◌, ℕ, ◌-◌, ◌<◌, true, false, not, cond, List, [], ◌∷◌, ◌++◌, length, take, drop, refl, sym, ap, arith, append_assoc, append-nil}
use Rattle.std.specs.Prelude.{◌==◌, nat_le, ◌||◌}
use Rattle.std.specs.List.{list_any}
use Rattle.std.proofs.lemmas.Bool.Decides.{nat_tests}
use Rattle.um_base.specs.declared.ask.Told.{Told}
use Rattle.um_base.specs.declared.ask.Waiter.{Waiter}
use Rattle.um_base.specs.declared.names.Reply.TheVariants as Reply
use Rattle.um_base.specs.declared.names.ThreadIx.{ThreadIx}
use Rattle.um_machine.specs.Contents.{Pipe}
use Rattle.um_service.specs.declared.pipe.Side.{Side}
use Rattle.um_service.specs.Sides.{side_served, is_idle, bytes_after, told_first}
use Rattle.um_machine.specs.Services.{told, without, still_waiting, read_length, readers_served, writers_served, is_empty}

-- of those who are served some were: these are woken, and with the others it comes to the whole
pub record SoFar (whole rest : List ℕ × List (ThreadIx × Told)) (woken : List (ThreadIx × Told)) : Type 0 where
  pub bytes : rest.0 ≡ whole.0
  pub told_are : woken ++ rest.1 ≡ whole.1

pub SoFar-start : (whole : List ℕ × List (ThreadIx × Told)) → SoFar whole whole []
SoFar-start whole = record { bytes = refl; told_are = refl }

-- nobody is left
pub SoFar-done : (whole rest : List ℕ × List (ThreadIx × Told)) (woken : List (ThreadIx × Told)) (bytes : List ℕ) → rest ≡ (bytes, []) → SoFar whole rest woken → (bytes ≡ whole.0) × (woken ≡ whole.1)
SoFar-done whole rest woken bytes e h =
    (sym (ap (λ (p : List ℕ × List (ThreadIx × Told)). p.0) e) ∙ h.bytes, sym (append-nil woken) ∙ ap (λ (p : List ℕ × List (ThreadIx × Told)). woken ++ p.1) (sym e) ∙ h.told_are)

-- one more is woken
pub SoFar-more : (whole before after : List ℕ × List (ThreadIx × Told)) (woken : List (ThreadIx × Told)) (one : ThreadIx × Told) → before.0 ≡ after.0 → before.1 ≡ one ∷ after.1 → SoFar whole before woken → SoFar whole after (woken ++ one ∷ [])
SoFar-more whole before after woken one same more h = record {
  bytes = sym same ∙ h.bytes;
  told_are = append_assoc woken (one ∷ []) after.1 ∙ ap (λ (ps : List (ThreadIx × Told)). woken ++ ps) (sym more) ∙ h.told_are;
}

pub readers-no_byte : (ws : List Waiter) (bytes : List ℕ) → length bytes ≡ 0 → readers_served ws bytes ≡ (bytes, [])
readers-no_byte [] [] e = refl
readers-no_byte (w ∷ ws) [] e = refl
readers-no_byte ws (b ∷ bytes) e = absurd (omega arith)

-- one reader is served
pub reader-served : (whole : List ℕ × List (ThreadIx × Told)) (before after : List Waiter) (w : Waiter) (bytes : List ℕ) (woken : List (ThreadIx × Told)) → before ≡ w ∷ after → 0 < length bytes
    → SoFar whole (readers_served before bytes) woken → SoFar whole (readers_served after (drop (read_length w.ask) bytes)) (woken ++ told w (Reply.Num (length (take (read_length w.ask) bytes))) (take (read_length w.ask) bytes) ∷ [])
reader-served whole before after w [] woken e some h = absurd (omega arith)
reader-served whole before after w (b ∷ bytes) woken e some h =
    SoFar-more whole (readers_served (w ∷ after) (b ∷ bytes)) (readers_served after (drop (read_length w.ask) (b ∷ bytes))) woken
    (told w (Reply.Num (length (take (read_length w.ask) (b ∷ bytes)))) (take (read_length w.ask) (b ∷ bytes))) refl refl (rw e at h)

pub writers-no_room : (size : ℕ) (ws : List Waiter) (bytes : List ℕ) → nat_le size (length bytes) ≡ true → writers_served size ws bytes ≡ (bytes, [])
writers-no_room size [] bytes e = refl
writers-no_room size (w ∷ ws) bytes e = rw e refl

-- one writer is served
pub writer-served : (whole : List ℕ × List (ThreadIx × Told)) (size : ℕ) (before after : List Waiter) (w : Waiter) (bytes : List ℕ) (woken : List (ThreadIx × Told)) → before ≡ w ∷ after → nat_le size (length bytes) ≡ false
    → SoFar whole (writers_served size before bytes) woken
    → SoFar whole (writers_served size after (bytes ++ take (size - length bytes) w.bytes)) (woken ++ told w (Reply.Num (length (take (size - length bytes) w.bytes))) [] ∷ [])
writer-served whole size before after w bytes woken e room h =
    let put = take (size - length bytes) w.bytes in
    SoFar-more whole (writers_served size (w ∷ after) bytes) (writers_served size after (bytes ++ put)) woken (told w (Reply.Num (length put)) []) (rw room refl) (rw room refl) (rw e at h)

-- nobody is served, or one of a side is
pub side-idle : (side : Side) (size : ℕ) (ws : List Waiter) (bytes : List ℕ) → is_idle side size bytes ≡ true → side_served side size ws bytes ≡ (bytes, [])
side-idle Side.Readers size ws bytes e = readers-no_byte ws bytes (grind (arith, nat_tests))
side-idle Side.Writers size ws bytes e = writers-no_room size ws bytes e

pub side-more : (side : Side) (whole : List ℕ × List (ThreadIx × Told)) (size : ℕ) (before after : List Waiter) (w : Waiter) (bytes : List ℕ) (woken : List (ThreadIx × Told)) → before ≡ w ∷ after → is_idle side size bytes ≡ false
    → SoFar whole (side_served side size before bytes) woken → SoFar whole (side_served side size after (bytes_after side size w bytes)) (woken ++ told_first side size w bytes ∷ [])
side-more Side.Readers whole size before after w bytes woken e busy h = reader-served whole before after w bytes woken e (grind (arith, nat_tests)) h
side-more Side.Writers whole size before after w bytes woken e busy h = writer-served whole size before after w bytes woken e busy h

-- all wait where none is woken
pub still_waiting-none : (ws : List Waiter) → still_waiting [] ws ≡ ws
still_waiting-none [] = refl
still_waiting-none (w ∷ ws) = ap (λ (vs : List Waiter). w ∷ vs) (still_waiting-none ws)

any-more : (woken : List (ThreadIx × Told)) (one : ThreadIx × Told) (t : ℕ) → list_any (λ (p : ThreadIx × Told). p.0.0 == t) (woken ++ one ∷ []) ≡ (list_any (λ (p : ThreadIx × Told). p.0.0 == t) woken || (t == one.0.0))
any-more [] one t = grind (arith, nat_tests)
any-more (p ∷ ps) one t =
    let rest = any-more ps one t in
    elim (p.0.0 == t) as (λ b. (b || list_any (λ (q : ThreadIx × Told). q.0.0 == t) (ps ++ one ∷ [])) ≡ ((b || list_any (λ (q : ThreadIx × Told). q.0.0 == t) ps) || (t == one.0.0))) [ true ↦ refl | false ↦ rest ]

-- one more woken waits no longer
pub still_waiting-more : (woken : List (ThreadIx × Told)) (one : ThreadIx × Told) (ws : List Waiter) → still_waiting (woken ++ one ∷ []) ws ≡ without one.0.0 (still_waiting woken ws)
still_waiting-more woken one [] = refl
still_waiting-more woken one (w ∷ ws) =
    let rest = still_waiting-more woken one ws in
    rw (any-more woken one w.thread.0)
    (elim (list_any (λ (p : ThreadIx × Told). p.0.0 == w.thread.0) woken) as (λ b. cond (not (b || (w.thread.0 == one.0.0))) (w ∷ still_waiting (woken ++ one ∷ []) ws) (still_waiting (woken ++ one ∷ []) ws) ≡ without one.0.0 (cond (not b) (w ∷ still_waiting woken ws) (still_waiting woken ws))) [
      | true ↦ rest
      | false ↦ ap (λ (vs : List Waiter). cond (not (w.thread.0 == one.0.0)) (w ∷ vs) vs) rest
    ])

pub empty-length : {A : Type 0} (xs : List A) → is_empty xs ≡ (length xs == 0)
empty-length [] = refl
empty-length (x ∷ xs) = grind (arith, nat_tests)

-- a pipe that differs in its bytes from another, with other bytes
pub other_bytes : (p q : Pipe) (bytes : List ℕ) → p ≡ record q { bytes = p.bytes } → ◌≡◌ {A = Pipe} (record p { bytes = bytes }) (record q { bytes = bytes })
other_bytes p q bytes h = ap (λ (r : Pipe). record r { bytes = bytes }) h

pub same_bytes : (p q : Pipe) (bytes : List ℕ) → p ≡ record q { bytes = p.bytes } → p.bytes ≡ bytes → p ≡ record q { bytes = bytes }
same_bytes p q bytes h e = h ∙ ap (λ (bs : List ℕ). record q { bytes = bs }) e

-- a waiter that is woken waits no longer
pub left_out : (woken woken2 : List (ThreadIx × Told)) (one : ThreadIx × Told) (all before after : List Waiter) → after ≡ without one.0.0 before → before ≡ still_waiting woken all → woken2 ≡ woken ++ one ∷ [] → after ≡ still_waiting woken2 all
left_out woken woken2 one all before after out waits more = out ∙ ap (without one.0.0) waits ∙ sym (still_waiting-more woken one all) ∙ ap (λ (ps : List (ThreadIx × Told)). still_waiting ps all) (sym more)
