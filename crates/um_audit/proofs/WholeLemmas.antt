-- The texts of runs, in lines.
use Rattle.std.proofs.Common.{◌≡◌, ◌≢◌, ℕ, Bool, true, false, List, [], ◌∷◌, ◌++◌, refl, sym, ap, ◌∙◌, subst, append_assoc, arith}
use Rattle.std.specs.Prelude.{codes, nat_lt, bytes_eq}
use Rattle.std.proofs.lemmas.Bool.{and_from, and_parts}
use Rattle.std.specs.List.{list_all, flat_map}
use Rattle.std.proofs.lemmas.Bool.Decides.{nat_tests}
use Rattle.std.proofs.lemmas.Slice.Eq.{bytes_eq-Decides}
use Rattle.um_base.specs.declared.act.Event.{Event}
use Rattle.um_base.specs.declared.image.Image.{Image}
use Rattle.um_base.specs.Lawful.{IsLawful}
use Rattle.um_machine.specs.State.{State}
use Rattle.um_machine.specs.Run.{Runs, opening}
use Rattle.um_trace.specs.Acts.{event_line}
use Rattle.um_trace.specs.Dump.{dump}
use Rattle.um_trace.specs.Text.{text}
use Rattle.um_texts.proofs.PlainLemmas.{newline_less}
use Rattle.um_texts.proofs.NameLemmas.{AreNamed, are_named}
use Rattle.um_texts.proofs.TextLemmas.{line, line_plain, first_line, dump_line, no_dump}
use Rattle.um_audit.specs.declared.verdict.Verdict.{Verdict}
use Rattle.um_audit.specs.Lines.{pieces, line_of, is_dump, before_dump, from_dump}
use Rattle.um_audit.specs.Steps.{IsLine, AreStepLines}
use Rattle.um_audit.specs.Verdict.{IsVerdict, IsTextOfRun, event_pieces, dump_pieces}
use Rattle.um_audit.proofs.LineLemmas.{no_newline, pieces-ended, line-ended, pieces-joined, pieces-end}
use Rattle.um_audit.proofs.PartLemmas.{before-more, before-dump, from-more, from-dump, parts-whole, all_ended, all_joined, ended-joined}

greater : (b : ℕ) → nat_lt 10 b ≡ true → no_newline b ≡ true
greater b h = grind (arith, nat_tests)

newline_free : (xs : List ℕ) → list_all (λ b. nat_lt 10 b) xs ≡ true → list_all no_newline xs ≡ true
newline_free [] h = refl
newline_free (b ∷ xs) h =
    and_from _ _ (greater b (and_parts (nat_lt 10 b) (list_all (λ d. nat_lt 10 d) xs) h).0) (newline_free xs (and_parts (nat_lt 10 b) (list_all (λ d. nat_lt 10 d) xs) h).1)

-- an event's line, with its newline
abbrev pub ended : Image → Event → List ℕ
ended image e = line image e ++ 10 ∷ []

line_free : (image : Image) → AreNamed image → (e : Event) → list_all no_newline (line image e) ≡ true
line_free image named e = newline_free (line image e) (newline_less (line image e) (line_plain image named e))

pub event-ended : (image : Image) (e : Event) → event_line image e ≡ ended image e
unfolding event_line
event-ended image e = refl

pub line-known : (image : Image) → AreNamed image → (e : Event) → line_of (ended image e) ≡ line image e
line-known image named e = line-ended (line image e) [] (line_free image named e)

-- no event's line is `dump`
event_is : (image : Image) → AreNamed image → (e : Event) → is_dump (ended image e) ≡ false
event_is image named e = by (bytes_eq (line_of (ended image e)) (codes "dump")) refl
  where
    by : (b : Bool) → bytes_eq (line_of (ended image e)) (codes "dump") ≡ b → b ≡ false
    by true h = absurd (no_dump image e (sym (line-known image named e) ∙ (bytes_eq-Decides (line_of (ended image e)) (codes "dump")).0 h))
    by false h = refl

dump_is : is_dump (codes "dump" ++ 10 ∷ []) ≡ true
dump_is = ap (λ (l : List ℕ). bytes_eq l (codes "dump")) (line-ended (codes "dump") [] refl)

pub pieces-event : (image : Image) → AreNamed image → (e : Event) (es : List Event) (s : State) → pieces (text image (e ∷ es) s) ≡ ended image e ∷ pieces (text image es s)
pieces-event image named e es s = ap pieces (first_line image e es s) ∙ pieces-ended (line image e) (text image es s) (line_free image named e)

text_end : (image : Image) (s : State) → text image [] s ≡ dump image s
unfolding text
text_end image s = refl

pub pieces-dump : (image : Image) (s : State) → (more : List (List ℕ)) × (pieces (text image [] s) ≡ (codes "dump" ++ 10 ∷ []) ∷ more)
pieces-dump image s =
    let cut = dump_line image s in (pieces cut.0, ap pieces cut.1 ∙ pieces-ended (codes "dump") cut.0 refl)

-- the lines of a run's text
abbrev pub lines : Image → List Event → List (List ℕ)
lines image [] = []
lines image (e ∷ es) = ended image e ∷ lines image es

pub before-run : (image : Image) → AreNamed image → (es : List Event) (s : State) → before_dump (pieces (text image es s)) ≡ lines image es
before-run image named [] s = let cut = pieces-dump image s in ap before_dump cut.1 ∙ before-dump (codes "dump" ++ 10 ∷ []) cut.0 dump_is
before-run image named (e ∷ es) s =
    ap before_dump (pieces-event image named e es s) ∙ before-more (ended image e) (pieces (text image es s)) (event_is image named e)
    ∙ ap (λ (ps : List (List ℕ)). ended image e ∷ ps) (before-run image named es s)

pub from-run : (image : Image) → AreNamed image → (es : List Event) (s : State) → from_dump (pieces (text image es s)) ≡ pieces (dump image s)
from-run image named [] s =
    let cut = pieces-dump image s in
    ap from_dump cut.1 ∙ from-dump (codes "dump" ++ 10 ∷ []) cut.0 dump_is ∙ sym cut.1 ∙ ap pieces (text_end image s)
from-run image named (e ∷ es) s =
    ap from_dump (pieces-event image named e es s) ∙ from-more (ended image e) (pieces (text image es s)) (event_is image named e) ∙ from-run image named es s

is_line : (image : Image) → AreNamed image → (e : Event) → IsLine image (line_of (ended image e)) e
is_line image named e = event-ended image e ∙ ap (λ (l : List ℕ). l ++ 10 ∷ []) (sym (line-known image named e))

pub led-run : (image : Image) → AreNamed image → (es : List Event) (s s2 : State) → Runs s es s2 → AreStepLines image s (lines image es) s2
led-run image named [] s s2 run = run
led-run image named (e ∷ es) s s2 (mid, step, rest) = (mid, (e, is_line image named e, step), led-run image named es mid s2 rest)

-- the text of a complete run
pub yes-of-run : (image : Image) → IsLawful image → (bytes : List ℕ) → IsTextOfRun image bytes → IsVerdict image bytes Verdict.Yes
yes-of-run image lawful bytes (events, last, run, complete, same) =
    let named = are_named image lawful in (
      last,
      subst (λ (ps : List (List ℕ)). AreStepLines image (opening image) ps last) (sym (before-run image named events last) ∙ ap event_pieces (sym same)) (led-run image named events (opening image) last run),
      complete,
      ap dump_pieces same ∙ from-run image named events last,
    )

-- the run of such a text
pub run-of-lines : (image : Image) (ps : List (List ℕ)) (s s2 : State) → AreStepLines image s ps s2 → (events : List Event) × Runs s events s2 × (flat_map (event_line image) events ≡ all_ended ps)
run-of-lines image [] s s2 led = ([], led, refl)
run-of-lines image (p ∷ ps) s s2 (mid, (e, is, step), led) =
    let more = run-of-lines image ps mid s2 led in
    (e ∷ more.0, (mid, step, more.1), ap (λ (xs : List ℕ). xs ++ flat_map (event_line image) more.0) is ∙ ap (λ (xs : List ℕ). (line_of p ++ 10 ∷ []) ++ xs) more.2)

joined_append : (xs ys : List (List ℕ)) → all_joined (xs ++ ys) ≡ all_joined xs ++ all_joined ys
joined_append [] ys = refl
joined_append (x ∷ xs) ys = ap (λ (zs : List ℕ). x ++ zs) (joined_append xs ys) ∙ sym (append_assoc x (all_joined xs) (all_joined ys))

pub dump-some : (image : Image) (s : State) → pieces (dump image s) ≢ []
dump-some image s none =
    let cut = pieces-dump image s in
    let bad : (codes "dump" ++ 10 ∷ []) ∷ cut.0 ≡ [] = sym cut.1 ∙ ap pieces (text_end image s) ∙ none in cc

whole_text : (image : Image) (events : List Event) (s : State) → text image events s ≡ flat_map (event_line image) events ++ dump image s
unfolding text
whole_text image events s = refl

pub run-of-yes : (image : Image) (bytes : List ℕ) → IsVerdict image bytes Verdict.Yes → IsTextOfRun image bytes
run-of-yes image bytes (s, led, complete, same) =
    let ps = pieces bytes in
    let run = run-of-lines image (before_dump ps) (opening image) s led in
    let some : from_dump ps ≢ [] = λ none. dump-some image s (sym same ∙ none) in
    let front : flat_map (event_line image) run.0 ≡ all_joined (before_dump ps) = run.2 ∙ ended-joined ps (pieces-end bytes) some in
    let back : all_joined (from_dump ps) ≡ dump image s = ap all_joined same ∙ pieces-joined (dump image s) in
    let whole : bytes ≡ all_joined (before_dump ps) ++ all_joined (from_dump ps) =
    sym (pieces-joined bytes) ∙ ap all_joined (sym (parts-whole ps)) ∙ joined_append (before_dump ps) (from_dump ps) in (
      run.0,
      s,
      run.1,
      complete,
      whole ∙ ap (λ (xs : List ℕ). xs ++ all_joined (from_dump ps)) (sym front) ∙ ap (λ (ys : List ℕ). flat_map (event_line image) run.0 ++ ys) back ∙ sym (whole_text image run.0 s),
    )
