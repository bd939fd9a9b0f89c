-- The first flaw, kind after kind.
use Rattle.std.proofs.Common.{◌≡◌, List, [], ◌∷◌, ◌++◌, map, Option, Some, None, Result, Ok, Err, append_assoc, refl, sym, ap, ◌∙◌}
use Rattle.std.specs.Prelude.{option_map, IfOk}
use Rattle.um_base.specs.declared.image.Image.{Image}
use Rattle.um_document.specs.declared.description.Description.{Description}
use Rattle.um_document.specs.declared.place.Place.{Place}
use Rattle.um_document.specs.First.{first_of}
use Rattle.um_description.specs.declared.flaw.Flaw.{Flaw}
use Rattle.um_description.specs.Duplicates.{duplicates}
use Rattle.um_description.specs.Flaws.{image_flaws, flaws, meaning_by, meaning}
use Rattle.um_description.specs.InLimits.{IsInLimits}
use Rattle.um_description.specs.Kinds.{entry_flaws, line_flaws}
use Rattle.um_description.specs.Limits.{limits}
use Rattle.um_description.specs.Lines.{unread_lines, blocks_of, unknown_in_script, misordered_script}
use Rattle.um_description.specs.Names.{each}
use Rattle.um_description.specs.Unknown.{unknown_names}
use Rattle.um_description.proofs.WithoutLimits.{in_limits, none_both}

-- what the first list has, or else the second
here : {A : Type 0} (xs ys : List A) {x : A} → Some x ≡ first_of xs → Some x ≡ first_of (xs ++ ys)
here [] ys h = cc
here (y ∷ xs) ys h = h

past : {A : Type 0} (xs ys : List A) {r : Option A} → None ≡ first_of xs → r ≡ first_of ys → r ≡ first_of (xs ++ ys)
past [] ys gone h = h
past (y ∷ xs) ys gone h = cc

mapped : (f : Place → Flaw) (xs : List Place) {x : Place} → Some x ≡ first_of xs → Some (f x) ≡ first_of (map f xs)
mapped f [] h = cc
mapped f (y ∷ xs) h = ap (option_map f) h

unmapped : (f : Place → Flaw) (xs : List Place) → None ≡ first_of xs → None ≡ first_of (map f xs)
unmapped f [] h = refl
unmapped f (y ∷ xs) h = cc

nothing : {A : Type 0} (xs : List A) → None ≡ first_of xs → xs ≡ []
nothing [] h = refl
nothing (x ∷ xs) h = cc

module _ (d : Description) where
  pub duplicate_first : {p : Place} → Some p ≡ first_of (duplicates d) → Some (Flaw.Duplicate p) ≡ first_of (entry_flaws d)
  unfolding entry_flaws
  duplicate_first h = here _ _ (here _ _ (mapped Flaw.Duplicate (duplicates d) h))

  pub unknown_first : {p : Place} → None ≡ first_of (duplicates d) → Some p ≡ first_of (unknown_names d) → Some (Flaw.UnknownName p) ≡ first_of (entry_flaws d)
  unfolding entry_flaws
  unknown_first a h = here _ _ (past _ _ (unmapped Flaw.Duplicate (duplicates d) a) (mapped Flaw.UnknownName (unknown_names d) h))

  pub limit_first : {r : Option Flaw} → None ≡ first_of (duplicates d) → None ≡ first_of (unknown_names d) → r ≡ first_of (limits d) → r ≡ first_of (entry_flaws d)
  unfolding entry_flaws
  limit_first a b h = past _ _ (past _ _ (unmapped Flaw.Duplicate (duplicates d) a) (unmapped Flaw.UnknownName (unknown_names d) b)) h

  pub unread_first : {f : Flaw} → Some f ≡ first_of (each unread_lines 0 d.scripts) → Some f ≡ first_of (line_flaws d)
  unfolding line_flaws
  unread_first h = here _ _ (here _ _ (here _ _ h))

  pub block_first : {p : Place} → None ≡ first_of (each unread_lines 0 d.scripts) → Some p ≡ first_of (each blocks_of 0 d.scripts) → Some (Flaw.Block p) ≡ first_of (line_flaws d)
  unfolding line_flaws
  block_first a h = here _ _ (here _ _ (past _ _ a (mapped Flaw.Block (each blocks_of 0 d.scripts) h)))

  pub stranger_first : {f : Flaw} → None ≡ first_of (each unread_lines 0 d.scripts) → None ≡ first_of (each blocks_of 0 d.scripts)
      → Some f ≡ first_of (each (unknown_in_script d) 0 d.scripts) → Some f ≡ first_of (line_flaws d)
  unfolding line_flaws
  stranger_first a b h = here _ _ (past _ _ (past _ _ a (unmapped Flaw.Block (each blocks_of 0 d.scripts) b)) h)

  pub misordered_first : {p : Place} → None ≡ first_of (each unread_lines 0 d.scripts) → None ≡ first_of (each blocks_of 0 d.scripts)
      → None ≡ first_of (each (unknown_in_script d) 0 d.scripts) → Some p ≡ first_of (each (misordered_script d) 0 d.scripts) → Some (Flaw.ScriptOrder p) ≡ first_of (line_flaws d)
  unfolding line_flaws
  misordered_first a b s h =
      past _ _ (past _ _ (past _ _ a (unmapped Flaw.Block (each blocks_of 0 d.scripts) b)) s) (mapped Flaw.ScriptOrder (each (misordered_script d) 0 d.scripts) h)

  pub no_line_first : None ≡ first_of (each unread_lines 0 d.scripts) → None ≡ first_of (each blocks_of 0 d.scripts)
      → None ≡ first_of (each (unknown_in_script d) 0 d.scripts) → None ≡ first_of (each (misordered_script d) 0 d.scripts) → None ≡ first_of (line_flaws d)
  unfolding line_flaws
  no_line_first a b s h =
      past _ _ (past _ _ (past _ _ a (unmapped Flaw.Block (each blocks_of 0 d.scripts) b)) s) (unmapped Flaw.ScriptOrder (each (misordered_script d) 0 d.scripts) h)

  -- a description without flaws of its entries is in its limits
  pub entries_in_limits : None ≡ first_of (entry_flaws d) → IsInLimits d
  unfolding entry_flaws
  entries_in_limits h = in_limits d (none_both _ (limits d) (nothing _ h)).1

  -- and none of its limits is passed
  pub limits_none : None ≡ first_of (entry_flaws d) → limits d ≡ []
  unfolding entry_flaws
  limits_none h = (none_both _ (limits d) (nothing _ h)).1

  kinds_are : flaws d ≡ entry_flaws d ++ (line_flaws d ++ image_flaws d)
  unfolding entry_flaws line_flaws
  kinds_are = simp append_assoc

  told_first : (xs : List Flaw) {f : Flaw} → Some f ≡ first_of xs → Err f ≡ meaning_by d xs
  told_first [] h = cc
  told_first (x ∷ xs) h = cc

  pub entry_means : {f : Flaw} → Some f ≡ first_of (entry_flaws d) → Err f ≡ meaning d
  entry_means {f} h = told_first (entry_flaws d ++ (line_flaws d ++ image_flaws d)) (here _ _ h) ∙ ap (meaning_by d) (sym kinds_are)

  pub line_means : {f : Flaw} → None ≡ first_of (entry_flaws d) → Some f ≡ first_of (line_flaws d) → Err f ≡ meaning d
  line_means {f} a h = told_first (entry_flaws d ++ (line_flaws d ++ image_flaws d)) (past _ _ a (here _ _ h)) ∙ ap (meaning_by d) (sym kinds_are)

  image_means : (r : Result Image Flaw) → None ≡ first_of (entry_flaws d) → None ≡ first_of (line_flaws d) → r ≡ meaning_by d (image_flaws d) → r ≡ meaning d
  image_means r a b h =
      h ∙ ap (meaning_by d) (ap (λ xs. xs ++ image_flaws d) (sym (nothing (line_flaws d) b)) ∙ ap (λ xs. xs ++ (line_flaws d ++ image_flaws d)) (sym (nothing (entry_flaws d) a)) ∙ sym kinds_are)

  pub image_told : {E : Type 0} (r : Result (Result Image Flaw) E) → None ≡ first_of (entry_flaws d) → None ≡ first_of (line_flaws d)
      → IfOk r (λ x. x ≡ meaning_by d (image_flaws d)) → IfOk r (λ x. x ≡ meaning d)
  image_told (Ok x) a b h = image_means x a b h
  image_told (Err e) a b h = h
