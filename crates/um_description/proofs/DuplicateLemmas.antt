-- The first text of a whole description that stood before.
use Rattle.std.proofs.Common.{◌≡◌, List, [], ◌∷◌, ◌++◌, Option, Some, None, refl, ap, ◌∙◌}
use Rattle.std.specs.Option.{option_or}
use Rattle.um_document.specs.declared.description.Description.{Description}
use Rattle.um_document.specs.declared.place.Place.{Place}
use Rattle.um_document.specs.declared.shape.Section.{Section}
use Rattle.um_document.specs.First.{first_of}
use Rattle.um_description.specs.Duplicates.{SameTexts, names_again, partitions_again, domains_again, boots_again, futexes_again, added, duplicates, pool_places, partition_places, domain_places, object_places, boot_places, script_places, futex_places, before_partitions, before_domains, before_objects, before_scripts, before_futexes}
use Rattle.um_description.specs.Names.{Text, is_among, names_within, pool_names, domain_names, object_names, script_names}
use Rattle.um_description.proofs.AgainLemmas.{same_names, same_partitions, same_domains, same_futexes, same_added}

or_then : (xs ys : List Place) (a b : Option Place) → a ≡ first_of xs → (a ≡ None → b ≡ first_of ys) → option_or a b ≡ first_of (xs ++ ys)
or_then [] ys a b is next = ap (λ o. option_or o b) is ∙ next is
or_then (x ∷ xs) ys a b is next = ap (λ o. option_or o b) is

none_left : (a b : Option Place) → option_or a b ≡ None → a ≡ None
none_left None b h = refl
none_left (Some x) b h = h

none_right : (a b : Option Place) → option_or a b ≡ None → b ≡ None
none_right None b h = h
none_right (Some x) b h = cc

-- names behind others that were all new
after : (s before names : List Text) (a : Option Place) (t : List Text) → SameTexts s before → SameTexts t (added s names) → SameTexts t (added before names)
after s before names a t same put q = put q ∙ same_added s before same names q

pub duplicates_found : (d : Description) (s0 s1 s2 s3 s4 s5 : List Text) (a b c e f g k : Option Place) → s0 ≡ []
    → a ≡ first_of (names_again s0 Section.Pool 0 (pool_names d)) → (a ≡ None → SameTexts s1 (added s0 (pool_names d)))
    → b ≡ first_of (partitions_again s1 0 d.partitions) → (b ≡ None → SameTexts s2 (added s1 (names_within d.partitions)))
    → c ≡ first_of (domains_again s2 0 d.domains) → (c ≡ None → SameTexts s3 (added s2 (domain_names d)))
    → e ≡ first_of (names_again s3 Section.Object 0 (object_names d)) → (e ≡ None → SameTexts s4 (added s3 (object_names d)))
    → f ≡ first_of (boots_again [] [] 0 d.boots)
    → g ≡ first_of (names_again s4 Section.Script 0 (script_names d)) → (g ≡ None → SameTexts s5 (added s4 (script_names d)))
    → k ≡ first_of (futexes_again s5 [] 0 d.futexes)
    → option_or (option_or (option_or (option_or (option_or (option_or a b) c) e) f) g) k ≡ first_of (duplicates d)
duplicates_found d s0 s1 s2 s3 s4 s5 a b c e f g k none a_is ka b_is kb c_is kc e_is ke f_is g_is kg k_is =
    let p = before_partitions d in
    let q = before_domains d in
    let r = before_objects d in
    let t = before_scripts d in
    let u = before_futexes d in
    let ab = option_or a b in
    let abc = option_or ab c in
    let abce = option_or abc e in
    let abcef = option_or abce f in
    let abcefg = option_or abcef g in
    let k1 : a ≡ None → SameTexts s1 p = λ n w. ka n w ∙ ap (λ s. is_among w (added s (pool_names d))) none in
    let k2 : ab ≡ None → SameTexts s2 q = λ n. after s1 p (names_within d.partitions) b s2 (k1 (none_left a b n)) (kb (none_right a b n)) in
    let k3 : abc ≡ None → SameTexts s3 r = λ n. after s2 q (domain_names d) c s3 (k2 (none_left ab c n)) (kc (none_right ab c n)) in
    let k4 : abce ≡ None → SameTexts s4 t = λ n. after s3 r (object_names d) e s4 (k3 (none_left abc e n)) (ke (none_right abc e n)) in
    let k5 : abcefg ≡ None → SameTexts s5 u = λ n. after s4 t (script_names d) g s5 (k4 (none_left abce f (none_left abcef g n))) (kg (none_right abcef g n)) in
    let h0 : a ≡ first_of (pool_places d) = a_is ∙ ap (λ s. first_of (names_again s Section.Pool 0 (pool_names d))) none in
    let h1 : ab ≡ first_of (pool_places d ++ partition_places d) = or_then (pool_places d) (partition_places d) a b h0 (λ n. b_is ∙ ap first_of (same_partitions s1 p (k1 n) 0 d.partitions)) in
    let h2 : abc ≡ first_of (pool_places d ++ partition_places d ++ domain_places d) = or_then (pool_places d ++ partition_places d) (domain_places d) ab c h1 (λ n. c_is ∙ ap first_of (same_domains s2 q (k2 n) 0 d.domains)) in
    let h3 : abce ≡ first_of (pool_places d ++ partition_places d ++ domain_places d ++ object_places d) =
    or_then (pool_places d ++ partition_places d ++ domain_places d) (object_places d) abc e h2 (λ n. e_is ∙ ap first_of (same_names s3 r (k3 n) Section.Object 0 (object_names d))) in
    let h4 : abcef ≡ first_of (pool_places d ++ partition_places d ++ domain_places d ++ object_places d ++ boot_places d) = or_then (pool_places d ++ partition_places d ++ domain_places d ++ object_places d) (boot_places d) abce f h3 (λ n. f_is) in
    let h5 : abcefg ≡ first_of (pool_places d ++ partition_places d ++ domain_places d ++ object_places d ++ boot_places d ++ script_places d) =
    or_then (pool_places d ++ partition_places d ++ domain_places d ++ object_places d ++ boot_places d) (script_places d) abcef g h4
    (λ n. g_is ∙ ap first_of (same_names s4 t (k4 (none_left abce f n)) Section.Script 0 (script_names d))) in
    or_then (pool_places d ++ partition_places d ++ domain_places d ++ object_places d ++ boot_places d ++ script_places d) (futex_places d) abcefg k h5
    (λ n. k_is ∙ ap first_of (same_futexes s5 u [] [] (k5 n) (λ q. refl) 0 d.futexes))
