-- Which parts of a document are broken.
use Rattle.std.specs.Prelude.{List, ℕ, map, filter, Bool, not, ◌&&◌, is_none, Option}
use Rattle.toml.specs.Data.{Data, Members}
use Rattle.um_document.specs.declared.check.Check.{Check}
use Rattle.um_document.specs.declared.shape.Form.{Form}
use Rattle.um_document.specs.Forms.{is_some_and, has_form, is_bad_name}
use Rattle.um_document.specs.Parts.{Part, parts}
use Rattle.um_document.specs.Places.{place_text}

-- what has to be there is absent; what is there hasn't its form; a text says none of what may stand there
abbrev pub breaks : Check → Form → Bool → Option Data → Bool
breaks Check.Missing form needed value = needed && is_none value
breaks Check.WrongType form needed value = is_some_and (λ d. not (has_form form d)) value
breaks Check.BadName form needed value = is_some_and (is_bad_name form) value

abbrev pub is_broken : Check → Part → Bool
is_broken check p = breaks check p.form p.needed p.value

-- the places that a check finds broken
abbrev pub broken : Check → Members → List (List ℕ)
broken check t = map (λ (p : Part). place_text p.place) (filter (is_broken check) (parts t))
