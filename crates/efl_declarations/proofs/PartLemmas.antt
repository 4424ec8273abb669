-- The parts of a declaration and of its groups: those of groups give no values and meet no variable, and their first fault is that of
-- the groups.
use Rattle.std.proofs.Common.{◌≡◌, List, [], ◌∷◌, ◌++◌, Option, Some, None, option_map, unwrap_or, refl, ap, ◌∙◌}
use Rattle.std.specs.List.{slice_get}
use Rattle.std.specs.Option.{option_or}
use Rattle.ground.specs.declared.fault.Fault.{Fault}
use Rattle.ground.specs.declared.place.Place.{Place}
use Rattle.efl_tree.specs.Syntax.{Text, EflVar, EflType, Integer, Logical, Real, Complex, Named, Shape, EflGroups, NoGroup, AndGroup, EflDeclKind, Implicit, Initial, Variables, Area, Structure, EflProcedure}
use Rattle.efl_scope.specs.Scopes.{data_type, behind}
use Rattle.efl_scope.specs.Parts.{Form, Declares, Groups, Around, Part, part, among, names_of, shapes_in, groups_in, members_in, area_groups, groups_by, header_type_groups}
use Rattle.efl_scope.specs.Marks.{variables_by}
use Rattle.efl_scope.specs.Uses.{uses_in}
use Rattle.efl_scope.proofs.WalkLemmas.{option_or_assoc}
use Rattle.efl_types.specs.TypeRules.{faults_by, presets_of}
use Rattle.efl_types.specs.TypeRules as rules
use Rattle.efl_reading.specs.Alone.{fault_alone, first_alone, GiveNone}
use Rattle.efl_reading.specs.Counting.{MeetNone}
use Rattle.efl_declarations.specs.GroupFaults.{fault_if, sizes_fault, type_fault, groups_fault, inner_fault, outer_fault, declaration_fault}

-- ---- parts that give no values, and list and use no variable ----

abbrev IsQuiet : Form → Type 0
IsQuiet f = (presets_of f ≡ []) × (variables_by f ≡ []) × (uses_in f ≡ [])

abbrev AreQuiet : List Part → Type 0
AreQuiet [] = Unit {0}
AreQuiet (v ∷ vs) = IsQuiet v.form × AreQuiet vs

quiet_more : (vs ws : List Part) → AreQuiet vs → AreQuiet ws → AreQuiet (vs ++ ws)
quiet_more [] ws one two = two
quiet_more (v ∷ vs) ws one two = (one.0, quiet_more vs ws one.1 two)

quiet_give_none : (vs : List Part) → AreQuiet vs → GiveNone vs
quiet_give_none [] quiet = tt
quiet_give_none (v ∷ vs) quiet = (quiet.0.0, quiet_give_none vs quiet.1)

quiet_meet_none : (vs : List Part) → AreQuiet vs → MeetNone vs
quiet_meet_none [] quiet = tt
quiet_meet_none (v ∷ vs) quiet = (quiet.0.1, quiet.0.2, quiet_meet_none vs quiet.1)

mutual
  groups_quiet : (a : Around) (t : EflType) → AreQuiet (groups_in a t)
  groups_quiet a Integer = tt
  groups_quiet a Logical = tt
  groups_quiet a (Real b) = tt
  groups_quiet a (Complex b) = tt
  groups_quiet a (Named x) = tt
  groups_quiet a (Shape o gs) = members_quiet a [] gs

  members_quiet : (a : Around) (before : List Text) (gs : EflGroups) → AreQuiet (members_in a before gs)
  members_quiet a before NoGroup = tt
  members_quiet a before (AndGroup t vs p gs) =
      let b = among (behind a.blocks t) a in
      let names = before ++ names_of vs in
      ((refl, refl, refl), quiet_more (groups_in a t) (members_in b names gs) (groups_quiet a t) (members_quiet b names gs))

area_quiet : (a : Around) (before : List Text) (gs : EflGroups) → AreQuiet (area_groups a before gs)
area_quiet a before NoGroup = tt
area_quiet a before (AndGroup t vs p gs) =
    let b = among (behind a.blocks t) a in
    let names = before ++ shapes_in t ++ names_of vs in
    ((refl, refl, refl), quiet_more (groups_in a t) (area_groups b names gs) (groups_quiet a t) (area_quiet b names gs))

by_quiet : (a : Around) (before : List Text) (k : EflDeclKind) → AreQuiet (groups_by a before k)
by_quiet a before (Implicit rs t) = groups_quiet a t
by_quiet a before (Initial ps) = tt
by_quiet a before (Variables q t vs) = groups_quiet a t
by_quiet a before (Area q gs) = area_quiet a (a.formals ++ before) gs
by_quiet a before (Structure x gs) = members_quiet a [] gs

pub by_gives_none : (a : Around) (before : List Text) (k : EflDeclKind) → GiveNone (groups_by a before k)
by_gives_none a before k = quiet_give_none (groups_by a before k) (by_quiet a before k)

pub by_meets_none : (a : Around) (before : List Text) (k : EflDeclKind) → MeetNone (groups_by a before k)
by_meets_none a before k = quiet_meet_none (groups_by a before k) (by_quiet a before k)

-- the groups of a header's type
pub header_meets_none : (a : Around) (o : Option EflType) → MeetNone (header_type_groups a o)
header_meets_none a None = tt
header_meets_none a (Some t) = quiet_meet_none (groups_in (among [] a) t) (groups_quiet (among [] a) t)

-- ---- their first fault ----

pub alone-append : (us : List EflProcedure) (vs ws : List Part) → first_alone us (vs ++ ws) ≡ option_or (first_alone us vs) (first_alone us ws)
alone-append us [] ws = refl
alone-append us (v ∷ vs) ws = ap (option_or (fault_alone us v)) (alone-append us vs ws) ∙ option_or_assoc (fault_alone us v) (first_alone us vs) (first_alone us ws)

module _ (us : List EflProcedure) (u : EflProcedure) where
  by_unit : (a : Around) (p : Place) (f : Form) → slice_get us a.unit ≡ Some u →
      fault_alone us (part a p f) ≡ fault_if p (faults_by u (rules.names_of us u (part a p f)) a f)
  by_unit a p f is = ap (λ o. fault_if p (unwrap_or (option_map (λ w. faults_by w (rules.names_of us w (part a p f)) a f) o) [])) is

  group_first : (a : Around) (before : List Text) (t : EflType) (vs : List EflVar) (p : Place) (ps qs : List Part) (inner rest : Option Fault) → slice_get us a.unit ≡ Some u →
      first_alone us ps ≡ inner → first_alone us qs ≡ rest →
      first_alone us (part a p (Groups before t vs) ∷ (ps ++ qs)) ≡ option_or (sizes_fault p [] (data_type a.blocks t) vs) (option_or inner rest)
  group_first a before t vs p ps qs inner rest is one two =
      ap (λ o. option_or o (first_alone us (ps ++ qs))) (by_unit a p (Groups before t vs) is)
      ∙ ap (option_or (sizes_fault p [] (data_type a.blocks t) vs)) (alone-append us ps qs ∙ ap (λ o. option_or o (first_alone us qs)) one ∙ ap (option_or inner) two)

  mutual
    pub groups_first : (a : Around) (t : EflType) → slice_get us a.unit ≡ Some u → first_alone us (groups_in a t) ≡ type_fault a.blocks t
    groups_first a Integer is = refl
    groups_first a Logical is = refl
    groups_first a (Real b) is = refl
    groups_first a (Complex b) is = refl
    groups_first a (Named x) is = refl
    groups_first a (Shape o gs) is = members_first a [] gs is

    pub members_first : (a : Around) (before : List Text) (gs : EflGroups) → slice_get us a.unit ≡ Some u → first_alone us (members_in a before gs) ≡ groups_fault a.blocks gs
    members_first a before NoGroup is = refl
    members_first a before (AndGroup t vs p gs) is =
        group_first a before t vs p (groups_in a t) (members_in (among (behind a.blocks t) a) (before ++ names_of vs) gs) (type_fault a.blocks t) (groups_fault (behind a.blocks t) gs) is
        (groups_first a t is) (members_first (among (behind a.blocks t) a) (before ++ names_of vs) gs is)

  pub area_first : (a : Around) (before : List Text) (gs : EflGroups) → slice_get us a.unit ≡ Some u → first_alone us (area_groups a before gs) ≡ groups_fault a.blocks gs
  area_first a before NoGroup is = refl
  area_first a before (AndGroup t vs p gs) is =
      let b = among (behind a.blocks t) a in
      let names = before ++ shapes_in t ++ names_of vs in
      group_first a (before ++ shapes_in t) t vs p (groups_in a t) (area_groups b names gs) (type_fault a.blocks t) (groups_fault (behind a.blocks t) gs) is (groups_first a t is) (area_first b names gs is)

  pub by_first : (a : Around) (before : List Text) (k : EflDeclKind) → slice_get us a.unit ≡ Some u → first_alone us (groups_by a before k) ≡ inner_fault a.blocks k
  by_first a before (Implicit rs t) is = groups_first a t is
  by_first a before (Initial ps) is = refl
  by_first a before (Variables q t vs) is = groups_first a t is
  by_first a before (Area q gs) is = area_first a (a.formals ++ before) gs is
  by_first a before (Structure x gs) is = members_first a [] gs is

  -- the declaration itself, where it gives no values
  own_first : (a : Around) (p : Place) (before : List Text) (k : EflDeclKind) → slice_get us a.unit ≡ Some u → presets_of (Declares before k) ≡ [] →
      fault_alone us (part a p (Declares before k)) ≡ outer_fault p a.formals a.blocks k
  own_first a p before (Implicit rs t) is none = by_unit a p (Declares before (Implicit rs t)) is
  own_first a p before (Initial ps) is none = by_unit a p (Declares before (Initial ps)) is ∙ ap (λ xs. fault_if p (rules.declaration_faults u (rules.names_of us u (part a p (Declares before (Initial ps)))) a (Initial xs))) none
  own_first a p before (Variables q t vs) is none = by_unit a p (Declares before (Variables q t vs)) is
  own_first a p before (Area q gs) is none = by_unit a p (Declares before (Area q gs)) is
  own_first a p before (Structure x gs) is none = by_unit a p (Declares before (Structure x gs)) is

  pub declaration_first : (a : Around) (p : Place) (before : List Text) (k : EflDeclKind) → slice_get us a.unit ≡ Some u → presets_of (Declares before k) ≡ [] →
      first_alone us (part a p (Declares before k) ∷ groups_by a before k) ≡ declaration_fault p a.formals a.blocks k
  declaration_first a p before k is none =
      ap (λ o. option_or o (first_alone us (groups_by a before k))) (own_first a p before k is none) ∙ ap (option_or (outer_fault p a.formals a.blocks k)) (by_first a before k is)
