-- Which places are one storage unit (X3.9-1966, sections 7.2.1.2 to 7.2.1.4 and 10.2.1).
use Rattle.std.specs.Prelude.{◌≡◌, ◌≢◌, ◌<◌, ◌↔◌, ℕ, suc, ◌+◌, ◌*◌, ℤ, pos, ◌+ℤ◌, ◌-ℤ◌, ◌*ℤ◌, ◌<ℤ◌, neg_ℤ, unsigned_abs, Bool, true, false, List, [], ◌∷◌, ◌++◌, length, take, map, Option, Some, None, if◌then◌else◌}
use Rattle.std.specs.List.{Contains, slice_get, flat_map}
use Rattle.std.specs.Str.{bytes_eq}
use Rattle.f66_tree.specs.Syntax.{Text, Formula, Int, Ref, Item, Formulas, NoFormula, AndFormula, Par, Constant, Declared, Area, Act, Common, Equivalence, Line, Routine}
use Rattle.f66_tree.specs.Units.{Context, sizes_of, places_of}
use Rattle.f66_program.specs.Mentions.{context_of, has_places}

-- a row of places: a name of the unit with a number, or a common block
pub data Row : Type 0 where
  Own : ℕ → Text → Row
  Block : Option Text → Row

-- the place o of one row is the place o + by of another, for each o
pub record Tie : Type 0 where
  pub from : Row
  pub to : Row
  pub by : ℤ

-- The place o of a is the place o + d of b, for each o: the least relation that holds of the ties, and is reflexive, symmetric and
-- transitive.
pub data IsSame (ties : List Tie) : Row → Row → ℤ → Type 0 where
  by_tie : (t : Tie) → Contains ties t → IsSame ties t.from t.to t.by
  itself : (a : Row) → IsSame ties a a (pos 0)
  back : {a b : Row} {d : ℤ} → IsSame ties a b d → IsSame ties b a (neg_ℤ d)
  onward : {a b c : Row} {d e : ℤ} → IsSame ties a b d → IsSame ties b c e → IsSame ties a c (d +ℤ e)

abbrev pub size_in : Context → Text → ℕ
size_in c x = places_of (sizes_of x c.notes)

-- COMMON: each name of a list takes the places behind those that its block has so far

abbrev pub Filled : Type 0
Filled = Option Text → ℕ

abbrev pub same_block : Option Text → Option Text → Bool
same_block None None = true
same_block (Some x) (Some y) = bytes_eq x y
same_block _ _ = false

abbrev pub filled : Option Text → ℕ → Filled → Filled
filled b n f q = if same_block q b then n else f q

abbrev pub not_filled : Filled
not_filled q = 0

abbrev pub list_ties : ℕ → Context → Option Text → ℕ → List Declared → List Tie
list_ties u c b at [] = []
list_ties u c b at (d ∷ ds) = record { from = Own u d.name; to = Block b; by = pos at } ∷ list_ties u c b (at + size_in c d.name) ds

abbrev pub list_end : Context → ℕ → List Declared → ℕ
list_end c at [] = at
list_end c at (d ∷ ds) = list_end c (at + size_in c d.name) ds

abbrev pub area_ties : ℕ → Context → Filled → List Area → List Tie
area_ties u c f [] = []
area_ties u c f (a ∷ areas) = list_ties u c a.name (f a.name) a.list ++ area_ties u c (filled a.name (list_end c (f a.name) a.list) f) areas

abbrev pub areas_filled : Context → Filled → List Area → Filled
areas_filled c f [] = f
areas_filled c f (a ∷ areas) = areas_filled c (filled a.name (list_end c (f a.name) a.list) f) areas

-- EQUIVALENCE: the members of a group are one place. One subscript alone counts the places from 1 on.

abbrev pub shift : ℕ → List Par → Formulas → ℤ
shift m (Constant n ∷ ns) (AndFormula (Int z) es) = ((z -ℤ pos 1) *ℤ pos m) +ℤ shift (m * unsigned_abs n) ns es
shift m _ _ = pos 0

abbrev pub shift_of : List Par → Formulas → ℤ
shift_of ns (AndFormula (Int z) NoFormula) = z -ℤ pos 1
shift_of ns es = shift 1 ns es

-- a member of a group: a name, and which of its places
pub record Member : Type 0 where
  pub name : Text
  pub at : ℤ

abbrev pub member_of : Context → Formula → List Member
member_of c (Ref x) = record { name = x; at = pos 0 } ∷ []
member_of c (Item x es) = record { name = x; at = shift_of (sizes_of x c.notes) es } ∷ []
member_of c _ = []

abbrev pub tie_members : ℕ → Member → Member → Tie
tie_members u m k = record { from = Own u m.name; to = Own u k.name; by = k.at -ℤ m.at }

-- the others of a group are tied to its first member
abbrev pub group_ties : ℕ → List Member → List Tie
group_ties u [] = []
group_ties u (m ∷ ms) = map (tie_members u m) ms

abbrev pub act_ties : ℕ → Context → Filled → Act → List Tie
act_ties u c f (Common areas) = area_ties u c f areas
act_ties u c f (Equivalence groups) = flat_map (λ es. group_ties u (flat_map (member_of c) es)) groups
act_ties u c f _ = []

abbrev pub act_filled : Context → Filled → Act → Filled
act_filled c f (Common areas) = areas_filled c f areas
act_filled c f _ = f

-- the ties that the statements of a unit give, in reading order
abbrev pub line_ties : ℕ → Context → Filled → List Line → List Tie
line_ties u c f [] = []
line_ties u c f (s ∷ lines) = act_ties u c f s.act ++ line_ties u c (act_filled c f s.act) lines

-- the first so many statements of a unit, where what they name means what the whole unit says
abbrev pub ties_up_to : ℕ → Routine → ℕ → List Tie
ties_up_to u r n = line_ties u (context_of r) not_filled (take n r.lines)

abbrev pub unit_ties : ℕ → Routine → List Tie
unit_ties u r = line_ties u (context_of r) not_filled r.lines

-- between units a block is the same as the one of the same name
abbrev pub ties_from : ℕ → List Routine → List Tie
ties_from u [] = []
ties_from u (r ∷ rs) = unit_ties u r ++ ties_from (suc u) rs

abbrev pub ties_of : List Routine → List Tie
ties_of rs = ties_from 0 rs

-- One row has two places that are one; two blocks are tied; or the first place of a name comes before the beginning of a block.
pub data AreBad (ties : List Tie) : Type 0 where
  twice : {a : Row} {d : ℤ} → d ≢ pos 0 → IsSame ties a a d → AreBad ties
  joined : {a b : Option Text} {d : ℤ} → a ≢ b → IsSame ties (Block a) (Block b) d → AreBad ties
  before : {a : Row} {b : Option Text} {d : ℤ} → d <ℤ pos 0 → IsSame ties a (Block b) d → AreBad ties

-- the association of a unit is bad
abbrev pub IsBadUnit : Routine → Type 0
IsBadUnit r = AreBad (unit_ties 0 r)

-- the first statement up to which it is bad
pub record IsFirstBad (r : Routine) (i : ℕ) : Type 0 where
  pub inside : i < length r.lines
  pub bad : AreBad (ties_up_to 0 r (suc i))
  pub earlier : ¬ AreBad (ties_up_to 0 r i)

-- a place that is really there: the unit with the number u has the name, and the name has more places than o
pub record IsReal (rs : List Routine) (u : ℕ) (x : Text) (o : ℕ) : Type 0 where
  pub unit : Routine
  pub here : slice_get rs u ≡ Some unit
  pub named : has_places unit x ≡ true
  pub inside : o < size_in (context_of unit) x

-- Numbers of storage units: the real places have them, two have the same exactly where they are the same, and the numbers are those
-- below total, of which none is left out. So total counts the storage units.
pub record IsNumbering (rs : List Routine) (number : ℕ → Text → ℕ → Option ℕ) (total : ℕ) : Type 0 where
  pub real : (u : ℕ) (x : Text) (o n : ℕ) → number u x o ≡ Some n → IsReal rs u x o
  pub below : (u : ℕ) (x : Text) (o : ℕ) → IsReal rs u x o → (n : ℕ) × (number u x o ≡ Some n) × (n < total)
  pub onto : (n : ℕ) → n < total → (u : ℕ) × (x : Text) × (o : ℕ) × (number u x o ≡ Some n)
  pub same : (u : ℕ) (x : Text) (o v : ℕ) (y : Text) (p : ℕ) → IsReal rs u x o → IsReal rs v y p →
      (number u x o ≡ number v y p) ↔ IsSame (ties_of rs) (Own u x) (Own v y) (pos p -ℤ pos o)

-- there are so many storage units
abbrev pub HasUnits : List Routine → ℕ → Type 0
HasUnits rs total = (number : ℕ → Text → ℕ → Option ℕ) × IsNumbering rs number total
