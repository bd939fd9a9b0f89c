-- What is printed with the names of a table.
use Rattle.std.specs.Prelude.{◌≡◌, ℕ, List, ◌++◌, map}
use Rattle.std.specs.List.{flat_map}
use Rattle.um_base.specs.declared.image.Boot.{Boot}
use Rattle.um_base.specs.declared.image.Image.{Image}
use Rattle.um_base.specs.declared.image.Script.{Script}
use Rattle.um_base.specs.declared.instr.Instr.{Instr}
use Rattle.um_script.specs.Canonical.{canonical}
use Rattle.um_canonical.specs.declared.names.NameTable.{NameTable}
use Rattle.um_canonical.specs.Named.{shown}
use Rattle.um_canonical.specs.Pieces.{top_text, pool_text, partitions_text, domain_text, object_text, boot_text, script_text, futex_text}
use Rattle.um_canonical.specs.Text.{Text, names_by, pools_in, partitions_in, domains_in, objects_in, scripts_in, futexes_in}

-- all names in one list
abbrev pub names_of : NameTable → List Text
names_of t = names_by t.pools.items t.partitions.items t.domains.items t.objects.items t.scripts.items t.futexes.items

-- the names in it are those of an image
pub record AreNamesOf (t : NameTable) (image : Image) : Type 0 where
  pub pools : t.pools.items ≡ pools_in image
  pub partitions : t.partitions.items ≡ partitions_in image
  pub domains : t.domains.items ≡ domains_in image
  pub objects : t.objects.items ≡ objects_in image
  pub scripts : t.scripts.items ≡ scripts_in image
  pub futexes : t.futexes.items ≡ futexes_in image

-- the canonical line of an instruction
unfoldable pub shown_line : NameTable → Instr → Text
shown_line t line = canonical (shown t.partitions.items t.domains.items t.scripts.items line)

abbrev pub shown_lines : NameTable → List Instr → List Text
shown_lines t lines = map (shown_line t) lines

abbrev pub boot_by : NameTable → Boot → Text
boot_by t b = boot_text t.objects.items t.scripts.items t.domains.items t.pools.items b

abbrev pub script_by : NameTable → Script → Text
script_by t s = script_text t.partitions.items t.domains.items t.scripts.items s

-- the text of an image, whose variables have these numbers
abbrev pub text_by : NameTable → List ℕ → Image → Text
text_by t numbers image =
    top_text image
    ++ (flat_map pool_text image.pools
    ++ (partitions_text numbers image.partitions
    ++ (flat_map (domain_text t.partitions.items) image.domains
    ++ (flat_map object_text image.objects
    ++ (flat_map (boot_by t) image.boots
    ++ (flat_map (script_by t) image.scripts
    ++ flat_map (futex_text t.partitions.items) image.futexes))))))
