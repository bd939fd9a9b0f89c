-- Equal texts have equal lines: of each event the thread and the act.
use Rattle.std.proofs.Common.{◌≡◌, ℕ, true, List, [], ◌∷◌, ◌++◌, refl, sym, ◌∙◌, append_assoc}
use Rattle.std.specs.Prelude.{codes, length}
use Rattle.std.proofs.lemmas.Bool.{and_parts}
use Rattle.std.specs.List.{flat_map}
use Rattle.std.proofs.lemmas.List.Folds.{list_all-append}
use Rattle.um_base.specs.declared.act.Event.{Event}
use Rattle.um_base.specs.declared.image.Image.{Image}
use Rattle.um_base.specs.declared.limits.TheConstants.{ROWS, PARTITION_AREA, STACK_AREA}
use Rattle.um_machine.specs.State.{State}
use Rattle.um_trace.specs.Names.{thread_text}
use Rattle.um_trace.specs.Acts.{act_text, event_line}
use Rattle.um_trace.specs.Dump.{dump, numbers, thread_line_of, object_line_of, domain_line, pool_line, area_lines}
use Rattle.um_trace.specs.Text.{text}
use Rattle.um_texts.proofs.PlainLemmas.{solid, plain, plain_append, plain_solid, newline_less}
use Rattle.um_texts.proofs.NameLemmas.{AreNamed, thread_solid}
use Rattle.um_texts.proofs.ActLemmas.{act_plain}
use Rattle.um_texts.proofs.SplitLemmas.{split}

-- each event of one list has the thread and the act that the other's shows
unfoldable pub SameLines : Image → List Event → List Event → Type 0
SameLines image [] [] = Unit {0}
SameLines image [] (f ∷ fs) = ⊥
SameLines image (e ∷ es) [] = ⊥
SameLines image (e ∷ es) (f ∷ fs) =
    (thread_text image e.thread.0 ≡ thread_text image f.thread.0) × (act_text image e.act ≡ act_text image f.act) × SameLines image es fs

-- a line without its end
abbrev pub line : Image → Event → List ℕ
line image e = thread_text image e.thread.0 ++ codes " " ++ act_text image e.act

pub line_plain : (image : Image) → AreNamed image → (e : Event) → plain (line image e) ≡ true
line_plain image named e =
    plain_append (thread_text image e.thread.0 ++ codes " ") (act_text image e.act)
    (plain_append (thread_text image e.thread.0) (codes " ") (plain_solid (thread_text image e.thread.0) (thread_solid image named e.thread.0)) refl)
    (act_plain image named e.act)

pub first_line : (image : Image) (e : Event) (es : List Event) (s : State) → text image (e ∷ es) s ≡ line image e ++ 10 ∷ text image es s
unfolding text event_line
first_line image e es s =
    append_assoc (line image e ++ codes "\n") (flat_map (event_line image) es) (dump image s) ∙ append_assoc (line image e) (codes "\n") (flat_map (event_line image) es ++ dump image s)

-- what follows the first line of a dump
pub dump_line : (image : Image) (s : State) → (rest : List ℕ) × (text image [] s ≡ codes "dump" ++ 10 ∷ rest)
unfolding text dump
dump_line image s = (
  flat_map (thread_line_of image s) (numbers ROWS) ++ flat_map (object_line_of image s) (numbers ROWS) ++ flat_map (domain_line image s) (numbers (length image.domains))
      ++ flat_map (pool_line image s) (numbers (length image.pools)) ++ area_lines PARTITION_AREA s.memory ++ area_lines STACK_AREA s.stacks,
  refl,
)

-- a line has a space, and `dump` has none
pub no_dump : (image : Image) (e : Event) → line image e ≡ codes "dump" → ⊥
no_dump image e h =
    let front = thread_text image e.thread.0 in
    let behind = act_text image e.act in
    let all : solid (line image e) ≡ true = rw h refl in
    let first : solid (front ++ codes " ") ≡ true = (and_parts (solid (front ++ codes " ")) (solid behind) (rw list_all-append at all)).0 in
    let space : solid (codes " ") ≡ true = (and_parts (solid front) (solid (codes " ")) (rw list_all-append at first)).1 in cc

no_end : (image : Image) → AreNamed image → (e : Event) (es : List Event) (s last : State) → text image (e ∷ es) s ≡ text image [] last → ⊥
no_end image named e es s last h =
    let end = dump_line image last in
    let both : line image e ++ 10 ∷ text image es s ≡ codes "dump" ++ 10 ∷ end.0 = sym (first_line image e es s) ∙ h ∙ end.1 in
    no_dump image e (split 10 (line image e) (codes "dump") (text image es s) end.0 (newline_less (line image e) (line_plain image named e)) refl both).0

-- the parts of equal lines
pub same_line : (image : Image) → AreNamed image → (e f : Event) → line image e ≡ line image f → (thread_text image e.thread.0 ≡ thread_text image f.thread.0) × (act_text image e.act ≡ act_text image f.act)
same_line image named e f h =
    let a = thread_text image e.thread.0 in
    let b = thread_text image f.thread.0 in
    let spaced : a ++ 32 ∷ act_text image e.act ≡ b ++ 32 ∷ act_text image f.act =
    sym (append_assoc a (codes " ") (act_text image e.act)) ∙ h ∙ append_assoc b (codes " ") (act_text image f.act) in
    split 32 a b (act_text image e.act) (act_text image f.act) (thread_solid image named e.thread.0) (thread_solid image named f.thread.0) spaced

pub same_lines : (image : Image) → AreNamed image → (es fs : List Event) (s last : State) → text image es s ≡ text image fs last → SameLines image es fs
unfolding SameLines
same_lines image named [] [] s last h = tt
same_lines image named [] (f ∷ fs) s last h = no_end image named f fs last s (sym h)
same_lines image named (e ∷ es) [] s last h = no_end image named e es s last h
same_lines image named (e ∷ es) (f ∷ fs) s last h =
    let both : line image e ++ 10 ∷ text image es s ≡ line image f ++ 10 ∷ text image fs last = sym (first_line image e es s) ∙ h ∙ first_line image f fs last in
    let parts =
    split 10 (line image e) (line image f) (text image es s) (text image fs last) (newline_less (line image e) (line_plain image named e))
    (newline_less (line image f) (line_plain image named f)) both in
    let here = same_line image named e f parts.0 in (here.0, here.1, same_lines image named es fs s last parts.1)
