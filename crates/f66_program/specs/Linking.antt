-- Whole programs: what must hold of their units together, in which order it is asked, and what a run of them has to go by
-- (X3.9-1966, sections 7.2.1.3, 8.3, 8.4, 9.1 and 10.1).
use Rattle.std.specs.Prelude.{◌≡◌, ◌≢◌, ◌<◌, ◌⊎◌, ◌↔◌, ℕ, zero, suc, ℤ, pos, ◌+ℤ◌, ◌-ℤ◌, ◌<ℤ◌, Bool, true, false, List, [], ◌∷◌, length, take, Option, Some, None, option_map}
use Rattle.std.specs.List.{Contains, slice_get, list_any}
use Rattle.std.specs.Str.{bytes_eq}
use Rattle.ground.specs.declared.place.Place.{Place}
use Rattle.ground.specs.declared.fault.Fault.{Fault}
use Rattle.ground.specs.declared.fault.FaultKind.{FaultKind}
use Rattle.ground.specs.declared.fault.FaultKind.TheVariants.{DuplicateUnit, MainCount, MissingUnit, TypeClash, WrongCount, Recursion, CommonMismatch, InitialTwice, Limit}
use Rattle.f66_tree.specs.Syntax.{Text, Act, Common, Line, Routine}
use Rattle.f66_tree.specs.Units.{Context, is_main, Linkage}
use Rattle.f66_tree.specs.Evaluation.{intrinsics}
use Rattle.f66_program.specs.Mentions.{context_of}
use Rattle.f66_program.specs.Association.{Own, Block, IsSame, same_block, unit_ties, ties_of, IsReal, HasUnits}
use Rattle.f66_program.specs.Calls.{Call, calls_in, is_called, unit_named, clashes, miscounts, Reaches}
use Rattle.f66_program.specs.Initial.{FillsTwice, IsInitial}

-- units, and the place of the end of their text
pub record Program : Type 0 where
  pub units : List Routine
  pub finish : Place

-- A part of a program: of the unit with this number its header, with the part 0, or a statement, from 1 on. Behind the last unit
-- is the end of the text.
pub record Part : Type 0 where
  pub unit : ℕ
  pub part : ℕ

abbrev pub at_part : ℕ → ℕ → Part
at_part u i = record { unit = u; part = i }

-- earlier in reading order
abbrev pub IsEarlier : Part → Part → Type 0
IsEarlier p q = (p.unit < q.unit) ⊎ ((p.unit ≡ q.unit) × (p.part < q.part))

-- the first statement of a unit, or its header where it has none
abbrev pub first_of : Routine → ℕ
first_of r = elim r.lines [ [] ↦ 0 | s ∷ rest ↦ 1 ]

-- the place of a part
abbrev pub place_of_part : Routine → ℕ → Option Place
place_of_part r zero = Some r.place
place_of_part r (suc i) = option_map (λ s. s.place) (slice_get r.lines i)

abbrev pub place_in : Program → Part → Option Place
place_in p q = elim (slice_get p.units q.unit) [ Some r ↦ place_of_part r q.part | None ↦ Some p.finish ]

-- a statement of a unit
pub record IsLine (p : Program) (q : Part) : Type 0 where
  pub unit : Routine
  pub index : ℕ
  pub line : Line
  pub here : slice_get p.units q.unit ≡ Some unit
  pub number : q.part ≡ suc index
  pub stands : slice_get unit.lines index ≡ Some line

-- a header of a unit
pub record IsHeader (p : Program) (q : Part) : Type 0 where
  pub unit : Routine
  pub here : slice_get p.units q.unit ≡ Some unit
  pub number : q.part ≡ 0

-- one of the intrinsic functions
abbrev pub is_intrinsic : Text → Bool
is_intrinsic x = list_any (λ e. bytes_eq e.0 x) intrinsics

-- a COMMON statement names the block
abbrev pub names_block : Option Text → Act → Bool
names_block b (Common areas) = list_any (λ a. same_block b a.name) areas
names_block b _ = false

abbrev pub unit_names_block : Option Text → Routine → Bool
unit_names_block b r = list_any (λ s. names_block b s.act) r.lines

-- how many places a block has in a unit: as far as the last real place that is one of it
pub record IsBlockSize (r : Routine) (b : Option Text) (n : ℕ) : Type 0 where
  pub within : (x : Text) (o : ℕ) (d : ℤ) → IsReal (r ∷ []) 0 x o → IsSame (unit_ties 0 r) (Own 0 x) (Block b) d → (pos o +ℤ d) <ℤ pos n
  pub reached : (n ≡ 0) ⊎ ((x : Text) × (o : ℕ) × (d : ℤ) × IsReal (r ∷ []) 0 x o × IsSame (unit_ties 0 r) (Own 0 x) (Block b) d × (pos o +ℤ d +ℤ pos 1 ≡ pos n))

-- The rules, one for each fault: the part q of the program p breaks it.

-- a unit has the name of an earlier one or of an intrinsic function, or a COMMON names a block that has the name of a unit
pub data RepeatsName (p : Program) (q : Part) : Type 0 where
  of_unit : (h : IsHeader p q) (name : Text) → is_called name h.unit.header ≡ true → (v : ℕ) → v < q.unit → unit_named name p.units ≡ Some v → RepeatsName p q
  of_intrinsic : (h : IsHeader p q) (name : Text) → is_called name h.unit.header ≡ true → is_intrinsic name ≡ true → RepeatsName p q
  of_block : (l : IsLine p q) (name : Text) (v : ℕ) → names_block (Some name) l.line.act ≡ true → unit_named name p.units ≡ Some v → RepeatsName p q

-- a main unit that is not the first, or the end of a text without one
pub data MiscountsMain (p : Program) (q : Part) : Type 0 where
  second : (u v : ℕ) (r s : Routine) → slice_get p.units u ≡ Some r → slice_get p.units v ≡ Some s → u < v → is_main r.header ≡ true → is_main s.header ≡ true →
      q ≡ at_part v (first_of s) → MiscountsMain p q
  none : ((r : Routine) → Contains p.units r → is_main r.header ≡ false) → q ≡ at_part (length p.units) 0 → MiscountsMain p q

-- a statement with a call, of which something holds
pub record HasCall (p : Program) (q : Part) (Holds : Context → Call → Type 0) : Type 0 where
  pub at : IsLine p q
  pub call : Call
  pub called : Contains (calls_in (context_of at.unit) at.line.act) call
  pub holds : Holds (context_of at.unit) call

-- a call leads to a unit of which something holds
pub record LeadsTo (p : Program) (k : Call) (Holds : ℕ → Routine → Type 0) : Type 0 where
  pub number : ℕ
  pub unit : Routine
  pub to : unit_named k.name p.units ≡ Some number
  pub here : slice_get p.units number ≡ Some unit
  pub holds : Holds number unit

-- in an earlier unit, the first that names it, the block has another size
pub record Mismatches (p : Program) (q : Part) : Type 0 where
  pub at : IsLine p q
  pub block : Text
  pub named : names_block (Some block) at.line.act ≡ true
  pub other : ℕ
  pub first : Routine
  pub here : slice_get p.units other ≡ Some first
  pub order : other < q.unit
  pub names : unit_names_block (Some block) first ≡ true
  pub none : (v : ℕ) (r : Routine) → v < other → slice_get p.units v ≡ Some r → unit_names_block (Some block) r ≡ false
  pub size : ℕ
  pub first_size : ℕ
  pub is_size : IsBlockSize at.unit (Some block) size
  pub is_first_size : IsBlockSize first (Some block) first_size
  pub differ : size ≢ first_size

-- the units up to this one have too many storage units
pub record IsTooLarge (p : Program) (q : Part) : Type 0 where
  pub unit : Routine
  pub here : slice_get p.units q.unit ≡ Some unit
  pub number : q.part ≡ first_of unit
  pub total : ℕ
  pub has : HasUnits (take (suc q.unit) p.units) total
  pub large : 2000000 < total

abbrev pub Breaks : FaultKind → Program → Part → Type 0
Breaks DuplicateUnit p q = RepeatsName p q
Breaks MainCount p q = MiscountsMain p q
Breaks MissingUnit p q = HasCall p q (λ c k. unit_named k.name p.units ≡ None)
Breaks TypeClash p q = HasCall p q (λ c k. LeadsTo p k (λ v r. clashes c k r ≡ true))
Breaks WrongCount p q = HasCall p q (λ c k. LeadsTo p k (λ v r. miscounts k r ≡ true))
Breaks Recursion p q = HasCall p q (λ c k. LeadsTo p k (λ v r. (v ≡ q.unit) ⊎ Reaches p.units v q.unit))
Breaks CommonMismatch p q = Mismatches p q
Breaks InitialTwice p q = (i : ℕ) × (q.part ≡ suc i) × FillsTwice p.units q.unit i
Breaks Limit p q = IsTooLarge p q
Breaks _ p q = ⊥

-- the order in which the rules are asked
abbrev pub rank : FaultKind → ℕ
rank DuplicateUnit = 0
rank MainCount = 1
rank MissingUnit = 2
rank TypeClash = 3
rank WrongCount = 4
rank Recursion = 5
rank CommonMismatch = 6
rank InitialTwice = 7
rank _ = 8

-- no part breaks a rule
pub record IsWhole (p : Program) : Type 0 where
  pub clean : (k : FaultKind) (q : Part) → ¬ Breaks k p q

abbrev pub limit_number : FaultKind → ℕ
limit_number Limit = 8
limit_number _ = 0

-- f is the first fault: of the first rule that is broken anywhere, at the first part that breaks it
pub record IsFirstFault (p : Program) (f : Fault) : Type 0 where
  pub part : Part
  pub broken : Breaks f.kind p part
  pub rules : (k : FaultKind) (q : Part) → rank k < rank f.kind → ¬ Breaks k p q
  pub parts : (q : Part) → IsEarlier q part → ¬ Breaks f.kind p q
  pub place : place_in p part ≡ Some f.place
  pub limit : f.number ≡ limit_number f.kind

-- What a run of the units of a program goes by. Any numbers will do that are equal exactly where places are one.
pub record IsLinkage (rs : List Routine) (l : Linkage) : Type 0 where
  pub contexts : (u : ℕ) (r : Routine) → slice_get rs u ≡ Some r → l.context u ≡ context_of r
  pub finds : (x : Text) → l.find x ≡ unit_named x rs
  pub main : (r : Routine) × (slice_get rs l.main ≡ Some r) × (is_main r.header ≡ true)
  pub deep : l.deep ≡ length rs
  pub numbers : (u : ℕ) (x : Text) (o v : ℕ) (y : Text) (p : ℕ) → IsReal rs u x o → IsReal rs v y p →
      (l.number u x o ≡ l.number v y p) ↔ IsSame (ties_of rs) (Own u x) (Own v y) (pos p -ℤ pos o)
  pub initial : IsInitial rs l.number l.first
