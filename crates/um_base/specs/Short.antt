-- What woken threads are told: an error, or a number up to 256. It is kept in two bytes.
use Rattle.std.specs.Prelude.{◌≡◌, ℕ, zero, suc, ◌-◌, ◌≤◌, List, [], ◌∷◌, ◌++◌, length, map, replicate, take}
use Rattle.std.proofs.Common.{refl, ap, ◌∙◌}
use Rattle.um_base.specs.declared.lists.ShortReply.{ShortReply}
use Rattle.um_base.specs.declared.names.Reply.{Reply}
use Rattle.um_base.specs.declared.names.ThreadIx.{ThreadIx}
use Rattle.um_base.specs.Room.{IsRoom, filled, filled-front, length-front}

abbrev pub IsShort : Reply → Type 0
IsShort (Reply.Num n) = n ≤ 256
IsShort (Reply.Fail e) = Unit {0}
IsShort Reply.Void = ⊥
IsShort (Reply.At a) = ⊥
IsShort Reply.Null = ⊥

-- the reply that is kept so
abbrev pub reply_of : ShortReply → Reply
reply_of ShortReply.Zero = Reply.Num 0
reply_of (ShortReply.OneMore n) = Reply.Num (suc n)
reply_of (ShortReply.Fail e) = Reply.Fail e

-- how a short reply is kept
abbrev pub short_of : Reply → ShortReply
short_of (Reply.Num (suc n)) = ShortReply.OneMore n
short_of (Reply.Fail e) = ShortReply.Fail e
short_of _ = ShortReply.Zero

abbrev pub told : ThreadIx × ShortReply → ThreadIx × Reply
told kept = (kept.0, reply_of kept.1)

abbrev pub kept : ThreadIx × Reply → ThreadIx × ShortReply
kept told = (told.0, short_of told.1)

-- What is kept is known by what is told.

short-reply : (r : ShortReply) → short_of (reply_of r) ≡ r
short-reply ShortReply.Zero = refl
short-reply (ShortReply.OneMore n) = refl
short-reply (ShortReply.Fail e) = refl

kept-told : (xs : List (ThreadIx × ShortReply)) → map kept (map told xs) ≡ xs
kept-told [] = refl
kept-told (x ∷ xs) = ap (λ (r : ShortReply). (x.0, r) ∷ map kept (map told xs)) (short-reply x.1) ∙ ap (λ (rest : List (ThreadIx × ShortReply)). x ∷ rest) (kept-told xs)

pub length-told : (xs : List (ThreadIx × ShortReply)) → length (map told xs) ≡ length xs
length-told [] = refl
length-told (x ∷ xs) = ap (λ n. suc n) (length-told xs)

pub told-front : {room : ℕ} {blank : ThreadIx × ShortReply} {items : List (ThreadIx × ShortReply)} {len : ℕ} → IsRoom room blank items len
    → ◌≡◌ {A = List (ThreadIx × ShortReply) × ℕ} (filled room blank (map kept (map told (take len items))), length (map told (take len items))) (items, len)
told-front {room = room} {blank = blank} {items = items} {len = len} r = cc (ap (filled room blank) (kept-told (take len items)) ∙ filled-front r, length-told (take len items) ∙ length-front r)
