-- The links that the groups of EQUIVALENCE give.
use Rattle.std.specs.Prelude.{◌≡◌, ℕ, ℤ, ◌-ℤ◌, List, [], ◌∷◌, ◌++◌, map, Option, Some, None, unwrap_or, ⊤}
use Rattle.std.specs.List.{All, flat_map}
use Rattle.f66_tree.specs.Syntax.{Text, Formula, Int, Ref, Item, Formulas, NoFormula, AndFormula, Par}
use Rattle.f66_tree.specs.Units.{Context, sizes_of}
use Rattle.f66_program.specs.Association.{Row, Own, Member, member_of, group_ties}
use Rattle.offset_classes.specs.declared.link.Link.{Link}
use Rattle.storage_assoc.specs.declared.equivalences.RowPlace.{RowPlace}
use Rattle.storage_assoc.specs.Indexing.{link_by}
use Rattle.storage_assoc.specs.Lists.{row_by}

-- the dimensions of a name, by a table
abbrev pub dims_by : (Text → Option (List Par)) → Text → List Par
dims_by dims x = unwrap_or (dims x) []

-- a constant that is the only subscript
abbrev pub lone_of : Formulas → Option ℤ
lone_of (AndFormula (Int z) NoFormula) = Some z
lone_of _ = None

-- the place of the one is the place of the other
abbrev pub link_places : RowPlace → RowPlace → Link
link_places p q = record { from = p.row; to = q.row; by = q.at -ℤ p.at }

-- the others are linked to the first
abbrev pub links_to_first : List RowPlace → List Link
links_to_first [] = []
links_to_first (p ∷ ps) = map (link_places p) ps

-- the tables have the row of a member, and of an element its dimensions
abbrev pub IsMemberTabled : ℕ → Context → (Row → ℕ) → (Text → Option ℕ) → (Text → Option (List Par)) → Formula → Type 0
IsMemberTabled u c index find dims (Ref x) = index (Own u x) ≡ row_by find x
IsMemberTabled u c index find dims (Item x es) = (index (Own u x) ≡ row_by find x) × (sizes_of x c.notes ≡ dims_by dims x)
IsMemberTabled u c index find dims _ = ⊤

abbrev pub place_by : ℕ → (Row → ℕ) → Member → RowPlace
place_by u index m = record { row = index (Own u m.name); at = m.at }

-- the places of the members of a group
abbrev pub places_by : ℕ → Context → (Row → ℕ) → List Formula → List RowPlace
places_by u c index es = flat_map (λ e. map (place_by u index) (member_of c e)) es

abbrev pub one_or_none : Option RowPlace → List RowPlace
one_or_none None = []
one_or_none (Some p) = p ∷ []

-- whatever unit the tables are of, this is the place of the member, or it is none
abbrev pub IsMemberOf : (Text → Option ℕ) → (Text → Option (List Par)) → Formula → Option RowPlace → Type 0
IsMemberOf find dims e o =
    (u : ℕ) (c : Context) (index : Row → ℕ) → IsMemberTabled u c index find dims e → map (place_by u index) (member_of c e) ≡ one_or_none o

-- whatever unit the tables are of, the links are the ties of the group
abbrev pub GroupLinked : (Text → Option ℕ) → (Text → Option (List Par)) → List Formula → List Link → List Link → Type 0
GroupLinked find dims es old new =
    (u : ℕ) (c : Context) (index : Row → ℕ) → All (IsMemberTabled u c index find dims) es →
    new ≡ old ++ map (link_by index) (group_ties u (flat_map (member_of c) es))

-- the same of all groups
abbrev pub GroupsLinked : (Text → Option ℕ) → (Text → Option (List Par)) → List (List Formula) → List Link → List Link → Type 0
GroupsLinked find dims groups old new =
    (u : ℕ) (c : Context) (index : Row → ℕ) → All (All (IsMemberTabled u c index find dims)) groups →
    new ≡ old ++ map (link_by index) (flat_map (λ es. group_ties u (flat_map (member_of c) es)) groups)
