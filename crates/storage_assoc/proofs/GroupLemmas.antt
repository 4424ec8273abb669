-- Members of groups, and how far elements stand from the first.
use Rattle.std.proofs.Common.{◌≡◌, ◌<◌, ◌*◌, ℕ, ℤ, pos, ◌+ℤ◌, ◌-ℤ◌, ◌*ℤ◌, unsigned_abs, List, [], ◌∷◌, ◌++◌, length, map, Option, None, Some, sym, ◌∙◌, ap, refl, arith, append_assoc}
use Rattle.std.proofs.lemmas.List.{append-nil, map-append}
use Rattle.std.proofs.lemmas.Grind.{flat_map-append}
use Rattle.std.proofs.lemmas.List.Elements.{All-contains, All-weaker, Contains-push, Contains-append_left, All-contains_itself}
use Rattle.std.specs.List.{All, Contains, flat_map}
use Rattle.f66_tree.specs.declared.expression.Expr.{Expr}
use Rattle.f66_tree.specs.declared.expression.Expr as e
use Rattle.f66_tree.specs.declared.declaration.Par.{Par}
use Rattle.f66_tree.specs.declared.declaration.Par.TheVariants as p
use Rattle.f66_tree.specs.Views.{chained, formula_of, par_of}
use Rattle.f66_tree.specs.Syntax as forms
use Rattle.f66_tree.specs.Syntax.{Text, Formula}
use Rattle.f66_tree.specs.Units.{Context}
use Rattle.f66_program.specs.Association.{Row, Tie, Member, member_of, shift, shift_of, tie_members, group_ties}
use Rattle.offset_classes.specs.declared.link.Link.{Link}
use Rattle.storage_assoc.specs.declared.equivalences.RowPlace.{RowPlace}
use Rattle.storage_assoc.specs.Indexing.{link_by}
use Rattle.storage_assoc.specs.Lists.{row_by}
use Rattle.storage_assoc.specs.Groups.{dims_by, lone_of, link_places, links_to_first, place_by, places_by, one_or_none, IsMemberTabled, IsMemberOf, GroupLinked, GroupsLinked}

pub not_alone : (es rest : List Expr) (a : Expr) (z : ℤ) → es ≡ a ∷ rest → a ≡ e.Int z → 0 < length rest → None ≡ lone_of (chained (map formula_of es))
not_alone es [] a z s i l = absurd (omega (arith, l))
not_alone es (b ∷ rest) a z s i l = rw (s, i) refl

pub shift_more : (m : ℕ) (ns ns' : List Par) (n : Par) (size : ℤ) (es es' : List Expr) (a : Expr) (z : ℤ) → ns ≡ n ∷ ns' → n ≡ p.Number size → es ≡ a ∷ es' → a ≡ e.Int z →
    shift m (map par_of ns) (chained (map formula_of es)) ≡ ((z -ℤ pos 1) *ℤ pos m) +ℤ shift (m * unsigned_abs size) (map par_of ns') (chained (map formula_of es'))
shift_more m ns ns' n size es es' a z s i t j = rw (s, i, t, j) refl

-- The links of a group are those of its members' places.

map_links : (u : ℕ) (index : Row → ℕ) (m : Member) (ms : List Member) → map (link_by index) (map (tie_members u m) ms) ≡ map (link_places (place_by u index m)) (map (place_by u index) ms)
map_links u index m [] = refl
map_links u index m (k ∷ ms) = ap (λ ls. link_places (place_by u index m) (place_by u index k) ∷ ls) (map_links u index m ms)

pub links_of_group : (u : ℕ) (index : Row → ℕ) (ms : List Member) → map (link_by index) (group_ties u ms) ≡ links_to_first (map (place_by u index) ms)
links_of_group u index [] = refl
links_of_group u index (m ∷ ms) = map_links u index m ms

pub places_of_members : (u : ℕ) (c : Context) (index : Row → ℕ) (es : List Formula) → map (place_by u index) (flat_map (member_of c) es) ≡ places_by u c index es
places_of_members u c index [] = refl
places_of_members u c index (a ∷ es) = map-append (place_by u index) (member_of c a) (flat_map (member_of c) es) ∙ ap (λ ps. map (place_by u index) (member_of c a) ++ ps) (places_of_members u c index es)

-- the first of the places
abbrev pub head_of : List RowPlace → Option RowPlace
head_of [] = None
head_of (p ∷ ps) = Some p

-- whatever unit the tables are of, the first place, and the links of the others to it
abbrev pub HasFirst : (Text → Option ℕ) → (Text → Option (List forms.Par)) → List Formula → Option RowPlace → List Link → List Link → Type 0
HasFirst find dims es first old new =
    (u : ℕ) (c : Context) (index : Row → ℕ) → All (IsMemberTabled u c index find dims) es →
    (first ≡ head_of (places_by u c index es)) × (new ≡ old ++ links_to_first (places_by u c index es))

module _ (find : Text → Option ℕ) (dims : Text → Option (List forms.Par)) where
  pub none_yet : (old : List Link) → HasFirst find dims [] None old old
  none_yet old u c index all = (refl, sym (append-nil old))

  pub group_done : (es : List Formula) (first : Option RowPlace) (old new : List Link) → HasFirst find dims es first old new → GroupLinked find dims es old new
  group_done es first old new h u c index all =
      (h u c index all).1 ∙ ap (λ ls. old ++ ls) (sym (links_of_group u index (flat_map (member_of c) es) ∙ ap links_to_first (places_of_members u c index es)))

  places_more : (u : ℕ) (c : Context) (index : Row → ℕ) (es : List Formula) (a : Formula) (o : Option RowPlace) → map (place_by u index) (member_of c a) ≡ one_or_none o →
      places_by u c index (es ++ a ∷ []) ≡ places_by u c index es ++ one_or_none o
  places_more u c index es a o is = flat_map-append (λ e. map (place_by u index) (member_of c e)) es (a ∷ []) ∙ ap (λ ps. places_by u c index es ++ ps) (append-nil _ ∙ is)

  earlier : (u : ℕ) (c : Context) (index : Row → ℕ) (es : List Formula) (a : Formula) → All (IsMemberTabled u c index find dims) (es ++ a ∷ []) → All (IsMemberTabled u c index find dims) es
  earlier u c index es a all =
      let P = IsMemberTabled u c index find dims in
      All-weaker (Contains es) P (λ x k. All-contains P (es ++ a ∷ []) x all (Contains-append_left es (a ∷ []) x k)) es (All-contains_itself es)

  latest : (u : ℕ) (c : Context) (index : Row → ℕ) (es : List Formula) (a : Formula) → All (IsMemberTabled u c index find dims) (es ++ a ∷ []) → IsMemberTabled u c index find dims a
  latest u c index es a all = All-contains (IsMemberTabled u c index find dims) (es ++ a ∷ []) a all (Contains-push es a)

  -- one that is no member
  pub no_more : (es : List Formula) (a : Formula) (first : Option RowPlace) (old new : List Link) → HasFirst find dims es first old new → IsMemberOf find dims a None →
      HasFirst find dims (es ++ a ∷ []) first old new
  no_more es a first old new h m u c index all =
      let w = h u c index (earlier u c index es a all) in
      let e = places_more u c index es a None (m u c index (latest u c index es a all)) ∙ append-nil (places_by u c index es) in
      (w.0 ∙ ap head_of (sym e), w.1 ∙ ap (λ ps. old ++ links_to_first ps) (sym e))

  head_none : (ps : List RowPlace) (q : RowPlace) → None ≡ head_of ps → ((Some q ≡ head_of (ps ++ q ∷ [])) × (links_to_first ps ≡ links_to_first (ps ++ q ∷ [])))
  head_none [] q e = (refl, refl)
  head_none (p ∷ ps) q e = absurd (cc)

  head_some : (ps : List RowPlace) (p q : RowPlace) → Some p ≡ head_of ps → ((Some p ≡ head_of (ps ++ q ∷ [])) × (links_to_first (ps ++ q ∷ []) ≡ links_to_first ps ++ link_places p q ∷ []))
  head_some [] p q e = absurd (cc)
  head_some (r ∷ ps) p q e =
      let same : p ≡ r = cc in
      (e, map-append (link_places r) ps (q ∷ []) ∙ ap (λ x. map (link_places r) ps ++ link_places x q ∷ []) (sym same))

  -- the first member
  pub first_one : (es : List Formula) (a : Formula) (q : RowPlace) (old new : List Link) → HasFirst find dims es None old new → IsMemberOf find dims a (Some q) →
      HasFirst find dims (es ++ a ∷ []) (Some q) old new
  first_one es a q old new h m u c index all =
      let w = h u c index (earlier u c index es a all) in
      let e = places_more u c index es a (Some q) (m u c index (latest u c index es a all)) in
      let k = head_none (places_by u c index es) q w.0 in
      (k.0 ∙ ap head_of (sym e), w.1 ∙ ap (λ ls. old ++ ls) (k.1 ∙ ap links_to_first (sym e)))

  -- another member
  pub one_more : (es : List Formula) (a : Formula) (p q : RowPlace) (old now new : List Link) → HasFirst find dims es (Some p) old now → IsMemberOf find dims a (Some q) →
      new ≡ now ++ link_places p q ∷ [] → HasFirst find dims (es ++ a ∷ []) (Some p) old new
  one_more es a p q old now new h m is u c index all =
      let w = h u c index (earlier u c index es a all) in
      let e = places_more u c index es a (Some q) (m u c index (latest u c index es a all)) in
      let k = head_some (places_by u c index es) p q w.0 in (
        k.0 ∙ ap head_of (sym e),
        is ∙ ap (λ ls. ls ++ link_places p q ∷ []) w.1 ∙ append_assoc old (links_to_first (places_by u c index es)) _ ∙ ap (λ ls. old ++ ls) (sym k.1 ∙ ap links_to_first (sym e)),
      )

  pub no_groups : (old : List Link) → GroupsLinked find dims [] old old
  no_groups old u c index all = sym (append-nil old)

  pub groups_more : (groups : List (List Formula)) (es : List Formula) (old now new : List Link) → GroupsLinked find dims groups old now → GroupLinked find dims es now new →
      GroupsLinked find dims (groups ++ es ∷ []) old new
  groups_more groups es old now new h k u c index all =
      let P = All (IsMemberTabled u c index find dims) in
      let before : All P groups = All-weaker (Contains groups) P (λ x w. All-contains P (groups ++ es ∷ []) x all (Contains-append_left groups (es ∷ []) x w)) groups (All-contains_itself groups) in
      let here = All-contains P (groups ++ es ∷ []) es all (Contains-push groups es) in
      let ties : List Formula → List Tie = λ es. group_ties u (flat_map (member_of c) es) in
      let split = flat_map-append ties groups (es ∷ []) ∙ ap (λ ts. flat_map ties groups ++ ts) (append-nil (ties es)) in
      k u c index here
      ∙ ap (λ ls. ls ++ map (link_by index) (ties es)) (h u c index before)
      ∙ append_assoc old (map (link_by index) (flat_map ties groups)) _
      ∙ ap (λ ls. old ++ ls) (sym (ap (map (link_by index)) split ∙ map-append (link_by index) (flat_map ties groups) (ties es)))

pub element_more : (find : Text → Option ℕ) (dims : Text → Option (List forms.Par)) (a : Formula) (x : Text) (es : forms.Formulas) (row : ℕ) (at kept : ℤ) → a ≡ forms.Item x es →
    row ≡ row_by find x → at ≡ shift_of (dims_by dims x) es → kept ≡ at → IsMemberOf find dims a (Some (record { row = row; at = kept }))
element_more find dims a x es row at kept is r z k u c index tabled =
    let t = rw is at tabled in
    rw (is, t.0, t.1, r, k, z) refl
