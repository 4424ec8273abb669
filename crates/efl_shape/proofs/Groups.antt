-- What holds of each group holds of all parts behind a header's type and behind a declaration.
use Rattle.std.proofs.Common.{List, [], ◌++◌, Option, None, Some}
use Rattle.ground.specs.declared.place.Place.{Place}
use Rattle.efl_tree.specs.Syntax as efl
use Rattle.efl_tree.specs.Syntax.{Text, EflVar, EflType, Shape, EflGroups, NoGroup, AndGroup, EflDeclKind, Implicit, Initial, Variables, Area, Structure}
use Rattle.efl_scope.specs.Scopes.{behind}
use Rattle.efl_scope.specs.Parts.{Groups, Around, Part, part, among, names_of, shapes_in, groups_in, members_in, area_groups, groups_by, header_type_groups}
use Rattle.efl_typed.proofs.Each.{Each}
use Rattle.efl_lowered.proofs.TypedChecks.{each_on}

module _ (Q : Part → Type 0) (grouped : (a : Around) (p : Place) (before : List Text) (t : EflType) (vs : List EflVar) → Q (part a p (Groups before t vs))) where
  mutual
    groups_each : (a : Around) (t : EflType) → Each Q (groups_in a t)
    groups_each a efl.Integer = tt
    groups_each a efl.Logical = tt
    groups_each a (efl.Real long) = tt
    groups_each a (efl.Complex long) = tt
    groups_each a (efl.Named x) = tt
    groups_each a (Shape o gs) = members_each a [] gs

    members_each : (a : Around) (before : List Text) (gs : EflGroups) → Each Q (members_in a before gs)
    members_each a before NoGroup = tt
    members_each a before (AndGroup t vs p gs) =
        let next = among (behind a.blocks t) a in
        (grouped a p before t vs, each_on Q (groups_in a t) (members_in next (before ++ names_of vs) gs) (groups_each a t) (members_each next (before ++ names_of vs) gs))

  area_each : (a : Around) (before : List Text) (gs : EflGroups) → Each Q (area_groups a before gs)
  area_each a before NoGroup = tt
  area_each a before (AndGroup t vs p gs) =
      let next = among (behind a.blocks t) a in
      let names = before ++ shapes_in t ++ names_of vs in
      (grouped a p (before ++ shapes_in t) t vs, each_on Q (groups_in a t) (area_groups next names gs) (groups_each a t) (area_each next names gs))

  pub declared_each : (a : Around) (before : List Text) (k : EflDeclKind) → Each Q (groups_by a before k)
  declared_each a before (Implicit rs t) = groups_each a t
  declared_each a before (Initial ps) = tt
  declared_each a before (Variables q t vs) = groups_each a t
  declared_each a before (Area q gs) = area_each a (a.formals ++ before) gs
  declared_each a before (Structure x gs) = members_each a [] gs

  pub header_each : (a : Around) (o : Option EflType) → Each Q (header_type_groups a o)
  header_each a None = tt
  header_each a (Some t) = groups_each (among [] a) t
