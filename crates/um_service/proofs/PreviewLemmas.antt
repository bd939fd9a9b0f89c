-- What the woken are told, without the bytes that they take.
use Rattle.std.proofs.Common.{◌≡◌, ◌∙◌, ℕ, ◌+◌, ◌-◌, ◌<◌, Bool, true, false, List, [], ◌∷◌, ◌++◌, length, map, filter, min, take, drop, get_or, refl, sym, ap, arith, append_assoc, length-append, length-drop}
use Rattle.std.specs.Prelude.{◌==◌, nat_le}
use Rattle.std.proofs.lemmas.Bool.Decides.{nat_tests}
use Rattle.std.proofs.lemmas.List.{drop_more, length-take}
use Rattle.um_base.specs.declared.act.Answer.TheVariants as Answers
use Rattle.um_base.specs.declared.ask.Waiter.{Waiter}
use Rattle.um_base.specs.declared.names.Errno.{Errno}
use Rattle.um_base.specs.declared.names.Reply.{Reply}
use Rattle.um_base.specs.declared.names.Reply.TheVariants as Replies
use Rattle.um_base.specs.declared.names.ThreadIx.{ThreadIx}
use Rattle.um_base.specs.declared.names.Timeout.{Timeout}
use Rattle.um_machine.specs.declared.served.Served.{Served}
use Rattle.um_machine.specs.declared.served.Served.TheVariants as Kinds
use Rattle.um_machine.specs.Services.{in_order, all_told, is_empty, is_reader, is_writer, read_length, readers_served, writers_served, pipe_write, pipe_read}
use Rattle.um_machine.specs.Table.{replies_of}
use Rattle.um_service.specs.declared.order.Queued.{Queued}
use Rattle.um_service.specs.Preview.{said, queued, queue_of, shares}
use Rattle.um_service.proofs.WakingLemmas.{failed}

-- those in a queue are told an error
abbrev pub fails : Errno → List Queued → List (ThreadIx × Reply)
fails e queue = map (λ (q : Queued). (q.thread, Replies.Fail e)) queue

replies-failed : (which : Served) (e : Errno) (ws : List Waiter) → replies_of (failed e ws) ≡ fails e (map (queued which) ws)
replies-failed which e [] = refl
replies-failed which e (w ∷ ws) = ap (λ (rs : List (ThreadIx × Reply)). (w.thread, Replies.Fail e) ∷ rs) (replies-failed which e ws)

pub replies-all_told : (which : Served) (e : Errno) (ws : List Waiter) → replies_of (all_told e ws) ≡ fails e (map (queued which) (in_order ws))
replies-all_told which e ws = replies-failed which e (in_order ws)

-- of nothing nobody has a part
pub shares-none : (queue : List Queued) → shares queue 0 ≡ []
shares-none [] = refl
shares-none (q ∷ queue) = refl

-- one more has its part
pub shares-more : (queue : List Queued) (i left : ℕ) (one : Queued) (woken whole : List (ThreadIx × Reply)) → i < length queue → one ≡ get_or queue i one → (left == 0) ≡ false
    → woken ++ shares (drop i queue) left ≡ whole
    → (woken ++ (one.thread, Replies.Num (min one.amount left)) ∷ []) ++ shares (drop (i + 1) queue) (left - min one.amount left) ≡ whole
shares-more queue i left one woken whole inside at some h =
    let split : drop i queue ≡ one ∷ drop (i + 1) queue = rw (drop_more queue i one inside, ← at) refl in
    let part : shares (one ∷ drop (i + 1) queue) left ≡ (one.thread, Replies.Num (min one.amount left)) ∷ shares (drop (i + 1) queue) (left - min one.amount left) = rw some refl in
    append_assoc woken ((one.thread, Replies.Num (min one.amount left)) ∷ []) (shares (drop (i + 1) queue) (left - min one.amount left))
    ∙ ap (λ (rs : List (ThreadIx × Reply)). woken ++ rs) (sym part ∙ ap (λ (qs : List Queued). shares qs left) (sym split)) ∙ h

-- a part of some, and what is left for the others
one_shares : (q : Queued) (queue : List Queued) (n part left : ℕ) (rest : List (ThreadIx × Reply)) → (n == 0) ≡ false → part ≡ min q.amount n → left ≡ n - min q.amount n → rest ≡ shares queue left
    → (q.thread, Replies.Num part) ∷ rest ≡ shares (q ∷ queue) n
one_shares q queue n part left rest some is others h =
    rw (some, is) (ap (λ (rs : List (ThreadIx × Reply)). (q.thread, Replies.Num (min q.amount n)) ∷ rs) (h ∙ ap (shares queue) others))

-- readers share the bytes that are there
pub readers-share : (ws : List Waiter) (bytes : List ℕ) → replies_of (readers_served ws bytes).1 ≡ shares (map (queued Kinds.Readers) ws) (length bytes)
readers-share [] bytes = refl
readers-share (w ∷ ws) [] = refl
readers-share (w ∷ ws) (b ∷ bytes) =
    let n = read_length w.ask in
    let some : (length (b ∷ bytes) == 0) ≡ false = grind (arith, nat_tests) in
    one_shares (queued Kinds.Readers w) (map (queued Kinds.Readers) ws) (length (b ∷ bytes)) (length (take n (b ∷ bytes))) (length (drop n (b ∷ bytes)))
    (replies_of (readers_served ws (drop n (b ∷ bytes))).1) some (length-take n (b ∷ bytes)) (omega (arith, length-drop n (b ∷ bytes))) (readers-share ws (drop n (b ∷ bytes)))

-- writers share the room that is there
pub writers-share : (size : ℕ) (ws : List Waiter) (bytes : List ℕ) → replies_of (writers_served size ws bytes).1 ≡ shares (map (queued Kinds.Writers) ws) (size - length bytes)
writers-share size [] bytes = refl
writers-share size (w ∷ ws) bytes =
    let room = size - length bytes in
    let put = take room w.bytes in
    let rest = writers-share size ws (bytes ++ put) in
    elim (nat_le size (length bytes)) as (λ b. nat_le size (length bytes) ≡ b → replies_of (writers_served size (w ∷ ws) bytes).1 ≡ shares (map (queued Kinds.Writers) (w ∷ ws)) room) [
      | true ↦ λ e. (let none : room ≡ 0 = grind (arith, nat_tests) in rw (e, none) refl)
      | false ↦ λ e. (
          let some : (room == 0) ≡ false = grind (arith, nat_tests) in
          let taken = length-take room w.bytes in
          rw e
          (one_shares (queued Kinds.Writers w) (map (queued Kinds.Writers) ws) room (length put) (size - length (bytes ++ put)) (replies_of (writers_served size ws (bytes ++ put)).1) some
          (omega arith) (omega (arith, length-append bytes put)) rest)
          )
    ] refl

-- a write that puts bytes
pub write-says : (size : ℕ) (bytes : List ℕ) (closed : Bool) (ws : List Waiter) (who : Waiter) (n : ℕ) (given : List ℕ) (timeout : Timeout) (put : ℕ) (woken : List (ThreadIx × Reply))
    → (n == 0) ≡ false → closed ≡ false → nat_le size (length bytes) ≡ false → put ≡ length (take (size - length bytes) given)
    → woken ≡ shares (queue_of Kinds.Readers ws) (length (bytes ++ take (size - length bytes) given))
    → said (pipe_write size bytes closed ws who n given timeout) ≡ record { answer = Answers.Now (Replies.Num put); woken = woken }
write-says size bytes closed ws who n given timeout put woken some open_yet room is told =
    let share = readers-share (in_order (filter is_reader ws)) (bytes ++ take (size - length bytes) given) in
    rw (some, open_yet, room, is, told, share) refl

-- a read that takes bytes
pub read-says : (size : ℕ) (bytes : List ℕ) (closed : Bool) (ws : List Waiter) (who : Waiter) (n : ℕ) (timeout : Timeout) (taken : ℕ) (woken : List (ThreadIx × Reply))
    → (n == 0) ≡ false → is_empty bytes ≡ false → taken ≡ length (take n bytes)
    → woken ≡ shares (queue_of Kinds.Writers ws) (size - length (drop n bytes))
    → said (pipe_read size bytes closed ws who n timeout) ≡ record { answer = Answers.Now (Replies.Num taken); woken = woken }
read-says size bytes closed ws who n timeout taken woken some there is told =
    let share = writers-share size (in_order (filter is_writer ws)) (drop n bytes) in
    rw (some, there, is, told, share) refl
