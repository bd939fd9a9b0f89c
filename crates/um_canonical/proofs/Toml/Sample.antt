-- A small text, for all plain names and all numbers, and one of the rows.
use Rattle.std.proofs.Common.{◌≡◌, ℕ, pos, true, List, [], ◌∷◌, ◌++◌, codes, decimal, FitsSigned, Some, refl, append_assoc, subst}
use Rattle.std.specs.Int.{w64}
use Rattle.std.specs.Fmt.{digits}
use Rattle.toml.specs.Data.{string, integer, array, table, no_items, item, Members, no_members, member}
use Rattle.toml.specs.Parse.{parse_document}
use Rattle.um_canonical.specs.Printed.{Atom, Printed, Pairs, Section, document_text}
use Rattle.um_canonical.proofs.Toml.Values.{is_plain}
use Rattle.um_canonical.proofs.Toml.Runs.{IsPlainDocument, document_again}

abbrev top : ℕ → Pairs
top a = (codes "a", Printed.one (Atom.number (pos a))) ∷ []

abbrev entry : List ℕ → List ℕ → ℕ → Pairs
entry x v size =
    (codes "name", Printed.one (Atom.text x))
    ∷ (codes "vars", Printed.inline ((codes "name", Atom.text v) ∷ (codes "size", Atom.number (pos size)) ∷ []))
    ∷ []

abbrev sample_text : ℕ → List ℕ → List ℕ → ℕ → List ℕ
sample_text a x v size =
    codes "a = " ++ (decimal a ++ (codes "\n[[p]]\nname = \"" ++ (x ++ (codes "\"\nvars = [{name = \"" ++ (v ++ (codes "\", size = " ++ (decimal size ++ codes "}]\n")))))))

abbrev sample_table : ℕ → List ℕ → List ℕ → ℕ → Members
sample_table a x v size =
    let var = table (member (codes "name") (string v) (member (codes "size") (integer (pos size)) no_members)) in
    let p = table (member (codes "name") (string x) (member (codes "vars") (array (item var no_items)) no_members)) in
    member (codes "a") (integer (pos a)) (member (codes "p") (array (item p no_items)) no_members)

same_text : (a : ℕ) (x v : List ℕ) (size : ℕ) → document_text (top a) ((codes "p", entry x v size ∷ []) ∷ []) ≡ sample_text a x v size
same_text a x v size = simp append_assoc refl

pub sample : (a : ℕ) (x v : List ℕ) (size : ℕ) → FitsSigned w64 (pos a) → FitsSigned w64 (pos size) → is_plain x ≡ true → is_plain v ≡ true
    → parse_document (sample_text a x v size) ≡ Some (sample_table a x v size)
sample a x v size small also plain good =
    let h : IsPlainDocument (top a) ((codes "p", entry x v size ∷ []) ∷ []) = record {
      lines_are = ((refl, small), (refl, ((refl, plain), ((refl, ((refl, good, (refl, also, tt)), (refl, (refl, tt)))), tt))));
      apart = refl;
      entries = ((refl, tt), tt);
    } in
    subst (λ (t : List ℕ). parse_document t ≡ Some (sample_table a x v size)) (same_text a x v size)
    (document_again (top a) ((codes "p", entry x v size ∷ []) ∷ []) h)

-- the row `upgrade`
abbrev text_pair : List ℕ → List ℕ → List ℕ × Printed
text_pair k s = (k, Printed.one (Atom.text s))

abbrev row_top : Pairs
row_top = (codes "version", Printed.one (Atom.number (pos 2))) ∷ text_pair (codes "mpu") (codes "pmsav7") ∷ (codes "regions", Printed.one (Atom.number (pos 8))) ∷ text_pair (codes "oops") (codes "abort") ∷ []

abbrev row_sections : List Section
row_sections =
    (codes "pool", [])
    ∷ (
      codes "partition",
      (text_pair (codes "name") (codes "p") ∷ text_pair (codes "attr") (codes "P_RW_U_RW")
          ∷ (codes "vars", Printed.inline ((codes "name", Atom.text (codes "v0")) ∷ (codes "size", Atom.number (pos 32)) ∷ (codes "align", Atom.number (pos 32)) ∷ [])) ∷ []) ∷ [],
    )
    ∷ (codes "domain", (text_pair (codes "name") (codes "d") ∷ (codes "partitions", Printed.texts (codes "p" ∷ [])) ∷ []) ∷ [])
    ∷ (codes "script", (text_pair (codes "name") (codes "m") ∷ (codes "lines", Printed.texts (codes "store 536870943 1 171" ∷ codes "load r0 536870944 1" ∷ [])) ∷ []) ∷ [])
    ∷ []

pub row_text : document_text row_top row_sections ≡ codes "version = 2\nmpu = \"pmsav7\"\nregions = 8\noops = \"abort\"\n[[partition]]\nname = \"p\"\nattr = \"P_RW_U_RW\"\nvars = [{name = \"v0\", size = 32, align = 32}]\n[[domain]]\nname = \"d\"\npartitions = [\"p\"]\n[[script]]\nname = \"m\"\nlines = [\"store 536870943 1 171\", \"load r0 536870944 1\"]\n"
unfolding digits
row_text = refl
