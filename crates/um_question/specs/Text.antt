-- What the text of a question asks.
use Rattle.std.specs.Prelude.{◌≡◌, ℕ, Bool, ◌||◌, if◌then◌else◌, List, [], ◌∷◌, ◌++◌, bytes_eq, codes, is_some, Option, Some, None}
use Rattle.std.specs.List.{list_any}
use Rattle.um_base.specs.declared.image.Image.{Image}
use Rattle.um_base.specs.declared.names.Access.{Access}
use Rattle.um_base.specs.declared.names.Range.{Range}
use Rattle.um_question.specs.Forms.{words}
use Rattle.um_question.specs.Names.{place_named, row_named, thread_named}
use Rattle.um_question.specs.declared.asking.Asking.{Asking}
use Rattle.um_question.specs.declared.question.Question.{Question}

-- Questions in words.

abbrev pub unknown : ℕ → Asking
unknown n = Asking.Unknown n

-- THREAD reads PLACE, and the like
abbrev pub asks_access : Option ℕ → Access → Option Range → Asking
asks_access None access place = unknown 1
asks_access (Some t) access None = unknown 3
asks_access (Some t) access (Some range) = Asking.Is (Question.Accesses (record { 0 = t }) access range)

-- THREAD holds OBJECT
abbrev pub asks_holds : Option ℕ → Option ℕ → Asking
asks_holds None object = unknown 1
asks_holds (Some t) None = unknown 3
asks_holds (Some t) (Some x) = Asking.Is (Question.Holds (record { 0 = t }) (record { 0 = x }))

-- THREAD waits OBJECT
abbrev pub asks_waits : Option ℕ → Option ℕ → Asking
asks_waits None object = unknown 1
asks_waits (Some t) None = unknown 3
asks_waits (Some t) (Some x) = Asking.Is (Question.Waits (record { 0 = t }) (record { 0 = x }))

-- THREAD fails
abbrev pub asks_fails : Option ℕ → Asking
asks_fails None = unknown 1
asks_fails (Some t) = Asking.Is (Question.Fails (record { 0 = t }))

-- OBJECT gone
abbrev pub asks_gone : Option ℕ → Asking
asks_gone None = unknown 1
asks_gone (Some x) = Asking.Is (Question.Gone (record { 0 = x }))

-- the questions of two words, by the second; none where it isn't theirs
abbrev pub of_two_words : Image → List ℕ → List ℕ → Option Asking
of_two_words image first second =
    if bytes_eq second (codes "fails") then Some (asks_fails (thread_named image first))
    else if bytes_eq second (codes "gone") then Some (asks_gone (row_named image first))
    else None

-- those of three words
abbrev pub of_three_words : Image → List ℕ → List ℕ → List ℕ → Option Asking
of_three_words image first second third =
    if bytes_eq second (codes "reads") then Some (asks_access (thread_named image first) Access.Read (place_named image third))
    else if bytes_eq second (codes "writes") then Some (asks_access (thread_named image first) Access.Write (place_named image third))
    else if bytes_eq second (codes "executes") then Some (asks_access (thread_named image first) Access.Exec (place_named image third))
    else if bytes_eq second (codes "holds") then Some (asks_holds (thread_named image first) (row_named image third))
    else if bytes_eq second (codes "waits") then Some (asks_waits (thread_named image first) (row_named image third))
    else None

abbrev pub in_words : Image → List (List ℕ) → Option Asking
in_words image (first ∷ second ∷ []) = of_two_words image first second
in_words image (first ∷ second ∷ third ∷ []) = of_three_words image first second third
in_words image _ = None

-- Forms. Any other text is one.

-- the words that stand second in trace lines
abbrev pub event_words : List (List ℕ)
event_words =
    words
    (codes "begin check load store exec fault probe copyin copyout copystr erase act " ++ codes "arm tick timeout expire futex abort suspend continue cut killed join left "
    ++ codes "resume reply grant own inherit drop public setinit uninit name reserve born " ++ codes "buffer unbuffer recycle domain start user fatal doom exit")

abbrev pub is_star : List ℕ → Bool
is_star word = bytes_eq word (codes "*")

abbrev pub is_acting : Image → List ℕ → Bool
is_acting image word = is_star word || is_some (thread_named image word)

abbrev pub is_act : List ℕ → Bool
is_act word = is_star word || list_any (bytes_eq word) event_words

-- which of the first two words of a form, counted from 1, no trace line can have there
abbrev pub second_fault : List (List ℕ) → Option ℕ
second_fault [] = None
second_fault (second ∷ more) = if is_act second then None else Some 2

abbrev pub form_fault : Image → List (List ℕ) → Option ℕ
form_fault image [] = Some 1
form_fault image (first ∷ more) = if is_acting image first then second_fault more else Some 1

-- The answer.

abbrev pub AsksForm : List ℕ → Option ℕ → Asking → Type 0
AsksForm text (Some word) asking = asking ≡ unknown word
AsksForm text None (Asking.Is (Question.Form form)) = form.items ≡ text
AsksForm text None _ = ⊥

-- this is asked by the words of a text
abbrev pub AsksWords : Image → List ℕ → Option Asking → Asking → Type 0
AsksWords image text (Some asked) asking = asking ≡ asked
AsksWords image text None asking = AsksForm text (form_fault image (words text)) asking

-- this is asked by a text
abbrev pub IsAsked : Image → List ℕ → Asking → Type 0
IsAsked image text asking = AsksWords image text (in_words image (words text)) asking
