-- The text of an act has no newline.
use Rattle.std.proofs.Common.{◌≡◌, ℕ, Bool, true, false, List, ◌++◌, refl, Option, Some, None}
use Rattle.std.specs.Prelude.{codes, decimal}
use Rattle.std.specs.List.{flat_map}
use Rattle.um_base.specs.declared.act.Act.{Act}
use Rattle.um_base.specs.declared.act.Answer.{Answer}
use Rattle.um_base.specs.declared.act.Cause.{Cause}
use Rattle.um_base.specs.declared.act.Found.{Found}
use Rattle.um_base.specs.declared.act.Given.{Given}
use Rattle.um_base.specs.declared.act.Leftover.{Leftover}
use Rattle.um_base.specs.declared.act.SetSaid.{SetSaid}
use Rattle.um_base.specs.declared.image.Image.{Image}
use Rattle.um_base.specs.declared.names.Access.{Access}
use Rattle.um_base.specs.declared.names.Addr.{Addr}
use Rattle.um_base.specs.declared.names.Errno.{Errno}
use Rattle.um_base.specs.declared.names.Kind.{Kind}
use Rattle.um_base.specs.declared.names.Reply.{Reply}
use Rattle.um_base.specs.declared.names.ThreadIx.{ThreadIx}
use Rattle.um_base.specs.declared.names.Want.{Want}
use Rattle.um_trace.specs.Digits.{address, value}
use Rattle.um_trace.specs.Words.{verdict_word, any_kind_word, reach_word, pool_word, given_word, done_word, leftover_word, set_word, cause_word}
use Rattle.um_vocabulary.specs.Words.{kind_word, want_word, access_word}
use Rattle.um_trace.specs.Names.{row_text, thread_text, object_text, domain_text, script_text, part_text, reply_text}
use Rattle.um_trace.specs.Acts.{range_text, found_text, answer_text, wake_text, reserved_text, stop_act_text, time_act_text, thread_act_text, domain_act_text, pair_act_text, heap_act_text, object_act_text, wake_act_text, act_text}
use Rattle.um_texts.proofs.PlainLemmas.{solid, plain, plain_append, plain_solid, plain_flat, decimal_solid, address_solid, value_solid}
use Rattle.um_texts.proofs.NameLemmas.{AreNamed, row_solid, thread_solid, object_solid, domain_solid, script_solid, errno_solid, part_solid, reply_solid}

kind_solid : (kind : Kind) → solid (kind_word kind) ≡ true
kind_solid Kind.Thread = refl
kind_solid kind = refl

-- a word of what may be there
option_solid : {A : Type 0} (word : Option A → List ℕ) → solid (word None) ≡ true → ((x : A) → solid (word (Some x)) ≡ true) → (o : Option A) → solid (word o) ≡ true
option_solid word none some None = none
option_solid word none some (Some x) = some x

verdict_solid : (verdict : Option Errno) → solid (verdict_word verdict) ≡ true
unfolding verdict_word
verdict_solid = option_solid verdict_word refl errno_solid

any_kind_solid : (kind : Option Kind) → solid (any_kind_word kind) ≡ true
unfolding any_kind_word
any_kind_solid = option_solid any_kind_word refl kind_solid

want_solid : (want : Want) → solid (want_word want) ≡ true
want_solid Want.Init = refl
want_solid want = refl

access_solid : (access : Access) → solid (access_word access) ≡ true
access_solid Access.Read = refl
access_solid access = refl

reach_solid : (fits : Bool) → solid (reach_word fits) ≡ true
unfolding reach_word
reach_solid true = refl
reach_solid false = refl

pool_solid : (fits : Bool) → solid (pool_word fits) ≡ true
unfolding pool_word
pool_solid true = refl
pool_solid false = refl

given_solid : (given : Given) → solid (given_word given) ≡ true
unfolding given_word
given_solid Given.Done = refl
given_solid Given.Gone = refl

done_solid : (done : Bool) → solid (done_word done) ≡ true
unfolding done_word
done_solid true = refl
done_solid false = refl

leftover_solid : (left : Leftover) → solid (leftover_word left) ≡ true
unfolding leftover_word
leftover_solid Leftover.Kept = refl
leftover_solid Leftover.Gone = refl
leftover_solid Leftover.NoPair = refl

set_solid : (said : SetSaid) → solid (set_word said) ≡ true
unfolding set_word
set_solid SetSaid.Done = refl
set_solid SetSaid.Gone = refl
set_solid (SetSaid.Fail e) = errno_solid e

cause_solid : (cause : Cause) → solid (cause_word cause) ≡ true
unfolding cause_word
cause_solid (Cause.Refused e) = errno_solid e
cause_solid cause = refl

found_solid : (found : Found) → solid (found_text found) ≡ true
unfolding found_text
found_solid (Found.Length n) = decimal_solid n
found_solid Found.Unreadable = refl
found_solid Found.TooLong = refl

answer_solid : (image : Image) → AreNamed image → (answer : Answer) → solid (answer_text image answer) ≡ true
unfolding answer_text
answer_solid image named (Answer.Now reply) = reply_solid image named reply
answer_solid image named Answer.Wait = refl

reserved_solid : (image : Image) → AreNamed image → (addr : Option Addr) → solid (reserved_text image addr) ≡ true
unfolding reserved_text
reserved_solid image named (Some a) = object_solid image named a.0
reserved_solid image named None = refl

-- a word, and a part without a space
start : (w xs : List ℕ) → plain w ≡ true → solid xs ≡ true → plain (w ++ xs) ≡ true
start w xs h k = plain_append w xs h (plain_solid xs k)

-- one more such part
more : (front xs : List ℕ) → plain front ≡ true → solid xs ≡ true → plain (front ++ codes " " ++ xs) ≡ true
more front xs h k = plain_append (front ++ codes " ") xs (plain_append front (codes " ") h refl) (plain_solid xs k)

range_plain : (a n : ℕ) → plain (range_text a n) ≡ true
unfolding range_text
range_plain a n = more (address a) (decimal n) (plain_solid (address a) (address_solid a)) (decimal_solid n)

wake_plain : (image : Image) → AreNamed image → (woken : ThreadIx × Reply) → plain (wake_text image woken) ≡ true
unfolding wake_text
wake_plain image named woken =
    more (codes " wake " ++ thread_text image woken.0.0) (reply_text image woken.1)
    (start (codes " wake ") (thread_text image woken.0.0) refl (thread_solid image named woken.0.0)) (reply_solid image named woken.1)

-- a word and a part, two parts, and three
two : (w xs ys : List ℕ) → plain w ≡ true → solid xs ≡ true → solid ys ≡ true → plain (w ++ xs ++ codes " " ++ ys) ≡ true
two w xs ys g h k = more (w ++ xs) ys (start w xs g h) k

three : (w xs ys zs : List ℕ) → plain w ≡ true → solid xs ≡ true → solid ys ≡ true → solid zs ≡ true → plain (w ++ xs ++ codes " " ++ ys ++ codes " " ++ zs) ≡ true
three w xs ys zs g h k l = more (w ++ xs ++ codes " " ++ ys) zs (two w xs ys g h k) l

four : (w xs ys zs us : List ℕ) → plain w ≡ true → solid xs ≡ true → solid ys ≡ true → solid zs ≡ true → solid us ≡ true
    → plain (w ++ xs ++ codes " " ++ ys ++ codes " " ++ zs ++ codes " " ++ us) ≡ true
four w xs ys zs us g h k l m = more (w ++ xs ++ codes " " ++ ys ++ codes " " ++ zs) us (three w xs ys zs g h k l) m

ranged : (w : List ℕ) (a n : ℕ) (xs : List ℕ) → plain w ≡ true → solid xs ≡ true → plain (w ++ range_text a n ++ codes " " ++ xs) ≡ true
ranged w a n xs g h = more (w ++ range_text a n) xs (plain_append w (range_text a n) g (range_plain a n)) h

-- a part, and those whom it wakes
waking : (image : Image) → AreNamed image → (front : List ℕ) (woken : List (ThreadIx × Reply)) → plain front ≡ true → plain (front ++ flat_map (wake_text image) woken) ≡ true
waking image named front woken h = plain_append front (flat_map (wake_text image) woken) h (plain_flat (wake_text image) (wake_plain image named) woken)

-- what is done to a thread
done_plain : (image : Image) → AreNamed image → (w : List ℕ) (who : ThreadIx) (done : Bool) → plain w ≡ true → plain (w ++ thread_text image who.0 ++ codes " " ++ done_word done) ≡ true
done_plain image named w who done h = two w (thread_text image who.0) (done_word done) h (thread_solid image named who.0) (done_solid done)

pub act_plain : (image : Image) → AreNamed image → (act : Act) → plain (act_text image act) ≡ true
unfolding act_text wake_act_text object_act_text heap_act_text pair_act_text domain_act_text thread_act_text time_act_text stop_act_text
act_plain image named (Act.Begin script line) = two (codes "begin ") (script_text image script) (decimal line) refl (script_solid image named script) (decimal_solid line)
act_plain image named (Act.Check addr kind want verdict) =
    four (codes "check ") (object_text image addr.0) (any_kind_word kind) (want_word want) (verdict_word verdict) refl (object_solid image named addr.0) (any_kind_solid kind) (want_solid want)
    (verdict_solid verdict)
act_plain image named (Act.Load addr size number) = ranged (codes "load ") addr.0 size (value number) refl (value_solid number)
act_plain image named (Act.Store addr size number) = ranged (codes "store ") addr.0 size (value number) refl (value_solid number)
act_plain image named (Act.Fetch addr) = start (codes "exec ") (address addr.0) refl (address_solid addr.0)
act_plain image named (Act.Fault access addr size) =
    plain_append (codes "fault " ++ access_word access ++ codes " ") (range_text addr.0 size)
    (plain_append (codes "fault " ++ access_word access) (codes " ") (start (codes "fault ") (access_word access) refl (access_solid access)) refl)
    (range_plain addr.0 size)
act_plain image named (Act.Probe addr size fits) = ranged (codes "probe ") addr.0 size (reach_word fits) refl (reach_solid fits)
act_plain image named (Act.CopyIn addr size fits) = ranged (codes "copyin ") addr.0 size (reach_word fits) refl (reach_solid fits)
act_plain image named (Act.CopyOut addr size fits) = ranged (codes "copyout ") addr.0 size (reach_word fits) refl (reach_solid fits)
act_plain image named (Act.CopyStr addr found) = two (codes "copystr ") (address addr.0) (found_text found) refl (address_solid addr.0) (found_solid found)
act_plain image named (Act.Erase stack) = start (codes "erase ") (row_text image stack.0) refl (row_solid image named stack.0)
act_plain image named (Act.Work addr answer woken) =
    waking image named (codes "act " ++ object_text image addr.0 ++ codes " " ++ answer_text image answer) woken
    (two (codes "act ") (object_text image addr.0) (answer_text image answer) refl (object_solid image named addr.0) (answer_solid image named answer))
act_plain image named Act.Resume = refl
act_plain image named (Act.Answered reply) = start (codes "reply ") (reply_text image reply) refl (reply_solid image named reply)
act_plain image named (Act.Grant who addr given) =
    three (codes "grant ") (thread_text image who.0) (object_text image addr.0) (given_word given) refl (thread_solid image named who.0) (object_solid image named addr.0) (given_solid given)
act_plain image named (Act.Own who given) = two (codes "own ") (thread_text image who.0) (given_word given) refl (thread_solid image named who.0) (given_solid given)
act_plain image named (Act.Inherit who addr) = two (codes "inherit ") (thread_text image who.0) (object_text image addr.0) refl (thread_solid image named who.0) (object_solid image named addr.0)
act_plain image named (Act.DropPair who addr left) =
    three (codes "drop ") (thread_text image who.0) (object_text image addr.0) (leftover_word left) refl (thread_solid image named who.0) (object_solid image named addr.0)
    (leftover_solid left)
act_plain image named (Act.Publish addr given) = two (codes "public ") (object_text image addr.0) (given_word given) refl (object_solid image named addr.0) (given_solid given)
act_plain image named (Act.SetInit addr said) = two (codes "setinit ") (object_text image addr.0) (set_word said) refl (object_solid image named addr.0) (set_solid said)
act_plain image named (Act.ClearInit addr) = start (codes "uninit ") (object_text image addr.0) refl (object_solid image named addr.0)
act_plain image named (Act.Named who) = start (codes "name ") (thread_text image who.0) refl (thread_solid image named who.0)
act_plain image named (Act.Reserve kind addr) = two (codes "reserve ") (kind_word kind) (reserved_text image addr) refl (kind_solid kind) (reserved_solid image named addr)
act_plain image named (Act.Born addr) = start (codes "born ") (object_text image addr.0) refl (object_solid image named addr.0)
act_plain image named (Act.Buffer size fits) = two (codes "buffer ") (decimal size) (pool_word fits) refl (decimal_solid size) (pool_solid fits)
act_plain image named (Act.Unbuffer size) = start (codes "unbuffer ") (decimal size) refl (decimal_solid size)
act_plain image named (Act.DomInit domain reply) = two (codes "domain init ") (domain_text image domain) (reply_text image reply) refl (domain_solid image named domain) (reply_solid image named reply)
act_plain image named (Act.DomAdd domain range attr reply) =
    three (codes "domain add ") (domain_text image domain) (part_text range attr) (reply_text image reply) refl (domain_solid image named domain) (part_solid range attr)
    (reply_solid image named reply)
act_plain image named (Act.DomRemove domain range attr reply) =
    three (codes "domain remove ") (domain_text image domain) (part_text range attr) (reply_text image reply) refl (domain_solid image named domain) (part_solid range attr)
    (reply_solid image named reply)
act_plain image named (Act.DomMove domain who reply) =
    three (codes "domain move ") (domain_text image domain) (thread_text image who.0) (reply_text image reply) refl (domain_solid image named domain) (thread_solid image named who.0)
    (reply_solid image named reply)
act_plain image named (Act.Start who) = start (codes "start ") (thread_text image who.0) refl (thread_solid image named who.0)
act_plain image named Act.EnterUser = refl
act_plain image named (Act.Fatal reason cause) = two (codes "fatal ") (decimal reason) (cause_word cause) refl (decimal_solid reason) (cause_solid cause)
act_plain image named (Act.Doom who) = start (codes "doom ") (decimal who.0) refl (decimal_solid who.0)
act_plain image named Act.Exit = refl
act_plain image named (Act.Arm deadline) = start (codes "arm ") (decimal deadline) refl (decimal_solid deadline)
act_plain image named (Act.Tick now) = start (codes "tick ") (decimal now) refl (decimal_solid now)
act_plain image named (Act.TimedOut who) = start (codes "timeout ") (thread_text image who.0) refl (thread_solid image named who.0)
act_plain image named (Act.Expire addr woken) =
    waking image named (codes "expire " ++ object_text image addr.0) woken (start (codes "expire ") (object_text image addr.0) refl (object_solid image named addr.0))
act_plain image named (Act.Abort who done) = done_plain image named (codes "abort ") who done refl
act_plain image named (Act.Suspend who done) = done_plain image named (codes "suspend ") who done refl
act_plain image named (Act.Continue who done) = done_plain image named (codes "continue ") who done refl
act_plain image named (Act.Cut who) = start (codes "cut ") (thread_text image who.0) refl (thread_solid image named who.0)
act_plain image named Act.Killed = refl
act_plain image named (Act.Join who answer) = two (codes "join ") (thread_text image who.0) (answer_text image answer) refl (thread_solid image named who.0) (answer_solid image named answer)
act_plain image named (Act.Left who woken) =
    waking image named (codes "left " ++ thread_text image who.0) woken (start (codes "left ") (thread_text image who.0) refl (thread_solid image named who.0))
act_plain image named (Act.FutexWait addr number answer) =
    three (codes "futex wait ") (address addr.0) (value number) (answer_text image answer) refl (address_solid addr.0) (value_solid number) (answer_solid image named answer)
act_plain image named (Act.FutexWake addr answer woken) =
    waking image named (codes "futex wake " ++ address addr.0 ++ codes " " ++ answer_text image answer) woken
    (two (codes "futex wake ") (address addr.0) (answer_text image answer) refl (address_solid addr.0) (answer_solid image named answer))
act_plain image named (Act.Recycle addr) = start (codes "recycle ") (object_text image addr.0) refl (object_solid image named addr.0)
