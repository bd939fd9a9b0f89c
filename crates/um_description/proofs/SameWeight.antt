-- The weight of a description's image is the same in whatever ranges its partitions and stacks stand.
use Rattle.std.proofs.Common.{◌≡◌, ℕ, ◌+◌, ◌*◌, refl, ap, ◌∙◌, List, [], ◌∷◌, ◌++◌, map, Option, Some, None, option_map}
use Rattle.std.specs.List.{flat_map}
use Rattle.um_base.specs.declared.image.Image.{Image}
use Rattle.um_base.specs.declared.instr.Instr.{Instr}
use Rattle.um_base.specs.declared.names.Range.{Range}
use Rattle.um_base.specs.Weight.{line_cost, turns_after, lines_cost, weights_from, boots_weight, weight}
use Rattle.um_document.specs.declared.description.Description.{Description}
use Rattle.um_document.specs.declared.description.ScriptEntry.{ScriptEntry}
use Rattle.um_description.specs.Lines.{instruction}
use Rattle.um_description.specs.Names.{Text}
use Rattle.um_description.specs.Resolve.{resolved, option_list, read_line, script_of, boot_of, without_scripts, image_in}

-- what a line costs, and how often the next ones are made, is the same
costs_same : (a b : Image) (d : Description) (later : List ℕ) (i turns : ℕ) (instr : Instr)
    → (line_cost later i (resolved a d instr) ≡ line_cost later i (resolved b d instr)) × (turns_after turns (resolved a d instr) ≡ turns_after turns (resolved b d instr))
costs_same a b d later i turns (Instr.Set to value) = (refl, refl)
costs_same a b d later i turns (Instr.Add to value) = (refl, refl)
costs_same a b d later i turns (Instr.Load to addr size) = (refl, refl)
costs_same a b d later i turns (Instr.Store addr size value) = (refl, refl)
costs_same a b d later i turns (Instr.Exec addr) = (refl, refl)
costs_same a b d later i turns (Instr.DomainInit m parts) = (refl, refl)
costs_same a b d later i turns (Instr.DomainAdd m part) = (refl, refl)
costs_same a b d later i turns (Instr.DomainRemove m part) = (refl, refl)
costs_same a b d later i turns (Instr.DomainMove m thread) = (refl, refl)
costs_same a b d later i turns (Instr.ObjectAlloc kind to) = (refl, refl)
costs_same a b d later i turns (Instr.Grant object thread) = (refl, refl)
costs_same a b d later i turns (Instr.Revoke object thread) = (refl, refl)
costs_same a b d later i turns (Instr.Release object) = (refl, refl)
costs_same a b d later i turns (Instr.AllGrant object) = (refl, refl)
costs_same a b d later i turns (Instr.SemGive object) = (refl, refl)
costs_same a b d later i turns (Instr.SemReset object) = (refl, refl)
costs_same a b d later i turns (Instr.MutexInit object) = (refl, refl)
costs_same a b d later i turns (Instr.MutexUnlock object) = (refl, refl)
costs_same a b d later i turns (Instr.MsgqPurge object) = (refl, refl)
costs_same a b d later i turns (Instr.PipeReset object) = (refl, refl)
costs_same a b d later i turns (Instr.PipeClose object) = (refl, refl)
costs_same a b d later i turns (Instr.Create thread stack size script priority options) = (refl, refl)
costs_same a b d later i turns (Instr.UserMode script) = (refl, refl)
costs_same a b d later i turns (Instr.NameSet thread addr) = (refl, refl)
costs_same a b d later i turns (Instr.SemInit object count limit) = (refl, refl)
costs_same a b d later i turns (Instr.SemTake object timeout) = (refl, refl)
costs_same a b d later i turns (Instr.MutexLock object timeout) = (refl, refl)
costs_same a b d later i turns (Instr.SemCount object to) = (refl, refl)
costs_same a b d later i turns (Instr.MsgqUsed object to) = (refl, refl)
costs_same a b d later i turns (Instr.MsgqInit object size most) = (refl, refl)
costs_same a b d later i turns (Instr.MsgqPut object addr timeout) = (refl, refl)
costs_same a b d later i turns (Instr.MsgqGet object addr timeout) = (refl, refl)
costs_same a b d later i turns (Instr.StackPop object addr timeout) = (refl, refl)
costs_same a b d later i turns (Instr.MsgqPeek object addr) = (refl, refl)
costs_same a b d later i turns (Instr.StackInit object entries) = (refl, refl)
costs_same a b d later i turns (Instr.StackPush object value) = (refl, refl)
costs_same a b d later i turns (Instr.PipeInit object size) = (refl, refl)
costs_same a b d later i turns (Instr.PipeWrite object addr n timeout) = (refl, refl)
costs_same a b d later i turns (Instr.PipeRead object addr n timeout) = (refl, refl)
costs_same a b d later i turns (Instr.TimerStart object ticks) = (refl, refl)
costs_same a b d later i turns (Instr.TimerStop object) = (refl, refl)
costs_same a b d later i turns (Instr.TimerStatus object to) = (refl, refl)
costs_same a b d later i turns (Instr.TimerSync object to) = (refl, refl)
costs_same a b d later i turns (Instr.Abort thread) = (refl, refl)
costs_same a b d later i turns (Instr.Join thread timeout) = (refl, refl)
costs_same a b d later i turns (Instr.Suspend thread) = (refl, refl)
costs_same a b d later i turns (Instr.Continue thread) = (refl, refl)
costs_same a b d later i turns (Instr.FutexWait addr value timeout) = (refl, refl)
costs_same a b d later i turns (Instr.FutexWake addr all) = (refl, refl)
costs_same a b d later i turns Instr.End = (refl, refl)
costs_same a b d later i turns Instr.Oops = (refl, refl)
costs_same a b d later i turns Instr.Panic = (refl, refl)
costs_same a b d later i turns (Instr.Repeat times) = (refl, refl)

-- lines, the first of which is read already
lines_by : (a b : Image) (d : Description) (later : List ℕ) (i turns : ℕ) (read : Option Instr) (texts : List Text)
    → ((t : ℕ) → lines_cost later i t (flat_map (read_line a d) texts) ≡ lines_cost later i t (flat_map (read_line b d) texts))
    → lines_cost later i turns (option_list (option_map (resolved a d) read) ++ flat_map (read_line a d) texts)
    ≡ lines_cost later i turns (option_list (option_map (resolved b d) read) ++ flat_map (read_line b d) texts)
lines_by a b d later i turns None texts rest = rest turns
lines_by a b d later i turns (Some instr) texts rest =
    ap (λ (cost : ℕ). turns * cost + lines_cost later i (turns_after turns (resolved a d instr)) (flat_map (read_line a d) texts)) (costs_same a b d later i turns instr).0
    ∙ ap (λ (n : ℕ). turns * line_cost later i (resolved b d instr) + n)
    (rest (turns_after turns (resolved a d instr)) ∙ ap (λ (t : ℕ). lines_cost later i t (flat_map (read_line b d) texts)) (costs_same a b d later i turns instr).1)

lines_same : (a b : Image) (d : Description) (later : List ℕ) (i turns : ℕ) (texts : List Text)
    → lines_cost later i turns (flat_map (read_line a d) texts) ≡ lines_cost later i turns (flat_map (read_line b d) texts)
lines_same a b d later i turns [] = refl
lines_same a b d later i turns (text ∷ texts) =
    lines_by a b d later i turns (instruction text) texts (λ t. lines_same a b d later i t texts)

scripts_same : (a b : Image) (d : Description) (i : ℕ) (entries : List ScriptEntry)
    → weights_from i (map (script_of a d) entries) ≡ weights_from i (map (script_of b d) entries)
scripts_same a b d i [] = refl
scripts_same a b d i (entry ∷ entries) =
    let later = scripts_same a b d (i + 1) entries in
    ap (λ (ws : List ℕ). (240 + lines_cost ws i 1 (flat_map (read_line a d) entry.lines)) ∷ ws) later
    ∙ ap (λ (n : ℕ). (240 + n) ∷ weights_from (i + 1) (map (script_of b d) entries))
    (lines_same a b d (weights_from (i + 1) (map (script_of b d) entries)) i 1 entry.lines)

pub weight_same : (d : Description) (p q r s : List Range) → weight (image_in d p q) ≡ weight (image_in d r s)
weight_same d p q r s =
    ap (λ (ws : List ℕ). boots_weight ws (map (boot_of d) d.boots)) (scripts_same (without_scripts d p q) (without_scripts d r s) d 0 d.scripts)
