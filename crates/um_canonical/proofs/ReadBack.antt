-- What is printed for the image of a text that was read is read back.
use Rattle.std.proofs.Common.{◌≡◌, ℕ, true, List, [], Ok}
use Rattle.std.specs.List.{list_all}
use Rattle.um_document.specs.declared.description.Description.{Description}
use Rattle.um_document.specs.declared.shape.Key.{Key}
use Rattle.um_document.specs.Faults.{ReadsDocument}
use Rattle.um_document.specs.Parts.{items_in, value_at}
use Rattle.um_document.specs.Reading.{text_at}
use Rattle.um_document.proofs.LawfulForm.{read_lawful}
use Rattle.um_description.specs.Flaws.{flaws}
use Rattle.um_description.specs.Resolve.{image_of}
use Rattle.um_canonical.specs.Text.{described, printed_text}
use Rattle.um_canonical.proofs.PrintedReading.{decoded_bytes, has_bytes, entries_bytes, printed_reads}
use Rattle.um_canonical.proofs.PrintedSections.{is_byte}

pub read_back : (source : List ℕ) (d : Description) → ReadsDocument (Ok d) source → flaws d ≡ [] → ReadsDocument (Ok (described (image_of d))) (printed_text (image_of d))
read_back source d read none =
    let words = read_lawful d source read in
    let (t, is, nothing, same) = read in
    let rodata : list_all is_byte d.rodata ≡ true = rw same (decoded_bytes (text_at Key.Rodata t)) in
    let bytes : list_all has_bytes d.partitions ≡ true = rw same (entries_bytes (items_in (value_at Key.Partition t))) in
    printed_reads d words rodata bytes none
