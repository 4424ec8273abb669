-- A program without a fault of types whose forms are built is one over scalars.
use Rattle.std.proofs.Common.{◌≡◌, ℕ, ◌+◌, ℤ, Bool, true, false, true≢false, List, [], ◌∷◌, ◌++◌, map, Option, None, Some, refl, sym, ap, ◌∙◌, subst}
use Rattle.std.specs.Prelude.{⊤, not, ◌||◌, nat_lt, length, filter_map, flat_map, option_map, unwrap_or, if◌then◌else◌}
use Rattle.std.specs.List.{list_any, slice_get}
use Rattle.std.proofs.lemmas.Bool.{and_parts}
use Rattle.ground.specs.declared.place.Place.{Place}
use Rattle.ground.specs.declared.value.Kind.TheVariants as kinds
use Rattle.efl_tree.specs.declared.statement.LoopKind.TheVariants as loops
use Rattle.efl_tree.specs.Syntax.{Text, EflVar, EflType, EflDeclKind, Implicit, Initial, Variables, Area, Structure, EflDecl, EflStmt, Statement, EflKind, Empty, Block, Act, If, IfElse, While, For, Repeat, RepeatUntil, Do, Switch, Break, Next, Return, Goto, Write, Read, EflStmts, NoStmt, AndStmt, EflCases, NoCase, AndCase, EflProcedure, EflProgram}
use Rattle.efl_scope.specs.Scopes.{meaning, variable_if, implied_of, own_variables, undeclared, behind_declaration, behind_all, outer}
use Rattle.efl_scope.specs.Parts.{Form, Header, Declares, Groups, States, Until, Chooses, Around, Part, part, among, into, in_loop, in_list, opening, opened, names_of, names_by, groups_by, declarations_in, parts_of, parts_within, parts_in, clauses_in, header_type_groups, around_unit, parts_by, program_parts}
use Rattle.efl_scope.specs.ScopeRules.{area_declared}
use Rattle.efl_scope.specs.Uses.{Use, Named, Applied, Laid, uses_of, uses_in}
use Rattle.efl_scope.specs.Marks.{Located, same_located, implied_at, met_by, located_at, distinct, program_variables}
use Rattle.efl_types.specs.declared.rule.TypeRule.TheVariants.{TypeClash, WrongCount}
use Rattle.efl_types.specs.Expressions.{when}
use Rattle.efl_types.specs.Declarations.{formal_faults, is_shape}
use Rattle.efl_types.specs.TypeRules as type_faults
use Rattle.efl_types.specs.TypeRules.{names_of as names_at, part_faults, presets_of}
use Rattle.efl_typed.proofs.Each.{Each, each_left, each_right}
use Rattle.efl_lowered.specs.Facts.{IsOverScalars}
use Rattle.efl_lowered.proofs.TypedRules.{none_of_three}
use Rattle.efl_lowered.proofs.TypedStatements.{part_typed}
use Rattle.efl_lowered.proofs.TypedChecks.{at_each, each_fact, each_both, each_on, no_faults}
use Rattle.efl_lowered.proofs.TypedVariables.{own_parts, every_part}
use Rattle.efl_built.specs.Unbuilt.{unbuilt_in, first_unbuilt, are_built}
use Rattle.efl_built.proofs.BuiltLemmas.{built_parts}
use Rattle.efl_shape.proofs.Groups.{declared_each, header_each}
use Rattle.efl_shape.proofs.Uses.{IsFine, value_fine, statement_fine}
use Rattle.efl_shape.proofs.Variables.{IsPlain, AreBuilt, implied_single, ArePlain, next_plain, behind_plain, entering_plain, outer_plain, listed_plain, met_plain}

-- ---- lists ----

each_joined : {X Y : Type 0} (P : Y → Type 0) (f : X → List Y) (xs : List X) → Each (λ x. Each P (f x)) xs → Each P (flat_map f xs)
each_joined P f [] h = tt
each_joined P f (x ∷ xs) h = each_on P (f x) (flat_map f xs) h.0 (each_joined P f xs h.1)

each_mapped : {X Y : Type 0} (P : Y → Type 0) (f : X → Y) (xs : List X) → Each (λ x. P (f x)) xs → Each P (map f xs)
each_mapped P f [] h = tt
each_mapped P f (x ∷ xs) h = (h.0, each_mapped P f xs h.1)

distinct_each : (Q : Located → Type 0) (before xs : List Located) → Each Q xs → Each Q (distinct before xs)
distinct_each Q before [] h = tt
distinct_each Q before (x ∷ xs) h = by (list_any (same_located x) before) (distinct_each Q before xs h.1) (distinct_each Q (x ∷ before) xs h.1)
  where
    by : (b : Bool) → Each Q (distinct before xs) → Each Q (distinct (x ∷ before) xs) → Each Q (if b then (distinct before xs) else (x ∷ distinct (x ∷ before) xs))
    by true f g = f
    by false f g = (h.0, g)

-- ---- what is asked of each part, and what is shown ----

abbrev IsBuilt : Part → Type 0
IsBuilt v = unbuilt_in v.form ≡ false

each_built : (vs : List Part) → are_built vs ≡ true → Each IsBuilt vs
each_built [] h = tt
each_built (v ∷ vs) h = let g = and_parts (not (unbuilt_in v.form)) (are_built vs) h in (by (unbuilt_in v.form) g.0, each_built vs g.1)
  where
    by : (b : Bool) → not b ≡ true → b ≡ false
    by false k = refl
    by true k = absurd (true≢false (sym k))

abbrev IsOwn : Located → Type 0
IsOwn x = IsPlain x.variable

-- nothing is laid over a place
abbrev IsBare : Use → Type 0
IsBare (Laid x) = ⊥
IsBare (Named x) = ⊤
IsBare (Applied x) = ⊤

declared_built : (a : Around) (before : List Text) (ds : List EflDecl) → Each IsBuilt (declarations_in a before ds) → AreBuilt ds
declared_built a before [] h = tt
declared_built a before (d ∷ ds) h =
    let next = among (behind_declaration a.blocks d.kind) a in
    (h.0, declared_built next (before ++ names_by d.kind) ds (each_right IsBuilt (groups_by a before d.kind) (declarations_in next (before ++ names_by d.kind) ds) h.1))

module _ (us : List EflProcedure) where
  -- its forms are built, and it breaks no rule of types
  abbrev IsGiven : Part → Type 0
  IsGiven v = IsBuilt v × (part_faults us v ≡ [])

  -- its variables are plain, and nothing is laid over a place
  abbrev IsGood : Part → Type 0
  IsGood v = Each IsOwn (located_at us v) × Each IsBare (uses_in v.form)

  built : (vs : List Part) → Each IsGiven vs → Each IsBuilt vs
  built vs h = each_fact IsGiven IsBuilt vs (λ v g. g.0) h

  grouped : (a : Around) (p : Place) (before : List Text) (t : EflType) (vs : List EflVar) → IsGood (part a p (Groups before t vs))
  grouped a p before t vs = (tt, tt)

  module _ (n : ℕ) (u : EflProcedure) (here : slice_get us n ≡ Some u) (ready : AreBuilt u.declarations) where
    -- ---- a part by itself ----

    bare : (v : Part) (ws : List Use) → Each (IsFine (names_at us u v)) ws → Each IsBare ws
    bare v ws h = each_fact (IsFine (names_at us u v)) IsBare ws one h
      where
        one : (w : Use) → IsFine (names_at us u v) w → IsBare w
        one (Named x) g = tt
        one (Applied x) g = tt
        one (Laid x) g = g

    located : (a : Around) (p : Place) (f : Form) (xs : List Text) (ws : List Use) → a.unit ≡ n → ArePlain a.blocks → Each (IsFine (names_at us u (part a p f))) ws →
        Each IsOwn (map (λ x. record { unit = a.unit; variable = x }) (filter_map (λ x. variable_if (meaning a.blocks x)) xs ++ filter_map (met_by (implied_at us a.unit) a.blocks) ws))
    located a p f xs ws same plain h =
        let rules : implied_of u ≡ implied_at us a.unit = sym (ap (implied_at us) same ∙ ap (λ o. unwrap_or (option_map implied_of o) []) here) in
        let vs = filter_map (λ x. variable_if (meaning a.blocks x)) xs in
        let met = subst (λ r. Each IsPlain (filter_map (met_by r a.blocks) ws)) rules (met_plain (names_at us u (part a p f)) (implied_single u ready) ws h) in
        let more = filter_map (met_by (implied_at us a.unit) a.blocks) ws in
        each_mapped IsOwn (λ x. record { unit = a.unit; variable = x }) (vs ++ more) (each_on IsPlain vs more (listed_plain a.blocks plain xs) met)

    header_good : (a : Around) (p : Place) (o : Option EflType) (fs : List Text) → a.unit ≡ n → ArePlain a.blocks → IsGood (part a p (Header o fs))
    header_good a p o fs same plain = (located a p (Header o fs) fs [] same plain tt, tt)

    declaration_good : (a : Around) (p : Place) (before : List Text) (k : EflDeclKind) → a.unit ≡ n → ArePlain a.blocks → IsBuilt (part a p (Declares before k)) → IsGood (part a p (Declares before k))
    declaration_good a p before (Implicit rs t) same plain h = (tt, tt)
    declaration_good a p before (Initial ps) same plain h = absurd (true≢false h)
    declaration_good a p before (Variables None t vs) same plain h = (located a p (Declares before (Variables None t vs)) (names_of vs) [] same plain tt, tt)
    declaration_good a p before (Variables (Some q) t vs) same plain h = absurd (true≢false h)
    declaration_good a p before (Area q gs) same plain h = absurd (true≢false h)
    declaration_good a p before (Structure x gs) same plain h = absurd (true≢false h)

    stated_good : (a : Around) (p : Place) (ls : List Text) (k : EflKind) → a.unit ≡ n → ArePlain a.blocks → IsGiven (part a p (States ls k)) → IsGood (part a p (States ls k))
    stated_good a p ls k same plain h =
        let v = part a p (States ls k) in
        let ws = statement_fine (names_at us u v) k h.0 (part_typed us [] n u here v same h.1) in
        (located a p (States ls k) [] (uses_in (States ls k)) same plain ws, bare v (uses_in (States ls k)) ws)

    until_good : (a : Around) (p : Place) (e : _) → a.unit ≡ n → ArePlain a.blocks → IsGiven (part a p (Until e)) → IsGood (part a p (Until e))
    until_good a p e same plain h =
        let v = part a p (Until e) in
        let ws = value_fine (names_at us u v) kinds.Logical e h.0 (part_typed us [] n u here v same h.1) in
        (located a p (Until e) [] (uses_of e) same plain ws, bare v (uses_of e) ws)

    -- ---- declarations ----

    declarations_good : (a : Around) → a.unit ≡ n → ArePlain a.blocks → (before : List Text) (ds : List EflDecl) → Each IsBuilt (declarations_in a before ds) → Each IsGood (declarations_in a before ds)
    declarations_good a same plain before [] h = tt
    declarations_good a same plain before (d ∷ ds) h =
        let next = among (behind_declaration a.blocks d.kind) a in
        let rest = declarations_in next (before ++ names_by d.kind) ds in (
          declaration_good a d.place before d.kind same plain h.0,
          each_on IsGood (groups_by a before d.kind) rest (declared_each IsGood grouped a before d.kind)
              (declarations_good next same (next_plain a.blocks d h.0 plain) (before ++ names_by d.kind) ds (each_right IsBuilt (groups_by a before d.kind) rest h.1)),
        )

    -- ---- statements ----

    mutual
      stmt_good : (a : Around) → a.unit ≡ n → ArePlain a.blocks → (s : EflStmt) → Each IsGiven (parts_of a s) → Each IsGood (parts_of a s)
      stmt_good a same plain (Statement ls p k) h = (stated_good a p ls k same plain h.0, kind_good a same plain k h.1)

      kind_good : (a : Around) → a.unit ≡ n → ArePlain a.blocks → (k : EflKind) → Each IsGiven (parts_within a k) → Each IsGood (parts_within a k)
      kind_good a same plain Empty h = tt
      kind_good a same plain (Block ds ss) h =
          let outside = opening ds a in
          let inner = in_list ss (opened ds a) in
          let declared = declarations_in outside [] ds in
          let first = built declared (each_left IsGiven declared (parts_in 0 inner ss) h) in
          let all = declared_built outside [] ds first in
          let entered = entering_plain a.position ds a.blocks all plain in
          each_on IsGood declared (parts_in 0 inner ss) (declarations_good outside same entered [] ds first)
          (stmts_good 0 inner same (behind_plain outside.blocks ds all entered) ss (each_right IsGiven declared (parts_in 0 inner ss) h))
      kind_good a same plain (Act e) h = tt
      kind_good a same plain (If e s) h = stmt_good a same plain s h
      kind_good a same plain (IfElse e s t) h =
          each_on IsGood (parts_of (into 0 a) s) (parts_of (into 1 a) t)
          (stmt_good (into 0 a) same plain s (each_left IsGiven (parts_of (into 0 a) s) (parts_of (into 1 a) t) h))
          (stmt_good (into 1 a) same plain t (each_right IsGiven (parts_of (into 0 a) s) (parts_of (into 1 a) t) h))
      kind_good a same plain (While e s) h = stmt_good (in_loop loops.While a) same plain s h
      kind_good a same plain (For b e d s) h = stmt_good (in_loop loops.For a) same plain s h
      kind_good a same plain (Repeat s) h = stmt_good (in_loop loops.Repeat a) same plain s h
      kind_good a same plain (RepeatUntil s e q) h =
          let inner = in_loop loops.Repeat a in
          each_on IsGood (parts_of inner s) (part a q (Until e) ∷ []) (stmt_good inner same plain s (each_left IsGiven (parts_of inner s) (part a q (Until e) ∷ []) h))
          (until_good a q e same plain (each_right IsGiven (parts_of inner s) (part a q (Until e) ∷ []) h).0, tt)
      kind_good a same plain (Do x b e d s) h = stmt_good (in_loop loops.Do a) same plain s h
      kind_good a same plain (Switch e cs) h = clauses_good 0 (in_loop loops.Switch a) same plain [] false cs h
      kind_good a same plain (Break i o) h = tt
      kind_good a same plain (Next i o) h = tt
      kind_good a same plain (Return e) h = tt
      kind_good a same plain (Goto l) h = tt
      kind_good a same plain (Write e is') h = tt
      kind_good a same plain (Read e is') h = tt

      stmts_good : (j : ℕ) (a : Around) → a.unit ≡ n → ArePlain a.blocks → (ss : EflStmts) → Each IsGiven (parts_in j a ss) → Each IsGood (parts_in j a ss)
      stmts_good j a same plain NoStmt h = tt
      stmts_good j a same plain (AndStmt s ss) h =
          each_on IsGood (parts_of (into j a) s) (parts_in (j + 1) a ss)
          (stmt_good (into j a) same plain s (each_left IsGiven (parts_of (into j a) s) (parts_in (j + 1) a ss) h))
          (stmts_good (j + 1) a same plain ss (each_right IsGiven (parts_of (into j a) s) (parts_in (j + 1) a ss) h))

      clauses_good : (j : ℕ) (a : Around) → a.unit ≡ n → ArePlain a.blocks → (zs : List ℤ) (seen : Bool) (cs : EflCases) → Each IsGiven (clauses_in j a zs seen cs) → Each IsGood (clauses_in j a zs seen cs)
      clauses_good j a same plain zs seen NoCase h = tt
      clauses_good j a same plain zs seen (AndCase es fallback ss p cs) h =
          let inner = in_list ss (into j a) in
          let rest = clauses_in (j + 1) a (zs ++ es) (seen || fallback) cs in (
            (tt, tt),
            each_on IsGood (parts_in 0 inner ss) rest (stmts_good 0 inner same plain ss (each_left IsGiven (parts_in 0 inner ss) rest h.1))
                (clauses_good (j + 1) a same plain (zs ++ es) (seen || fallback) cs (each_right IsGiven (parts_in 0 inner ss) rest h.1)),
          )

  -- ---- procedures ----

  unit_good : (n : ℕ) (u : EflProcedure) → slice_get us n ≡ Some u → Each IsGiven (parts_by n u) → Each IsGood (parts_by n u)
  unit_good n u here h =
      let a = around_unit n u in
      let head = part a u.place (Header u.result u.formals) in
      let groups = header_type_groups a u.result in
      let declared = declarations_in a [] u.declarations in
      let inner = among (behind_all (outer u) u.declarations) a in
      let body = parts_in 0 inner u.body in
      let before = built declared (each_right IsGiven groups declared (each_left IsGiven (groups ++ declared) body h.1)) in
      let all = declared_built a [] u.declarations before in
      let fs = none_of_three (flat_map formal_faults (undeclared (implied_of u) (own_variables u) u.formals)) (when (is_shape u.result) TypeClash) (when (nat_lt 32 (length u.formals)) WrongCount) (part_typed us [] n u here head refl h.0.1) in
      let plain = outer_plain u all fs.0 in (
        header_good n u here all a u.place u.result u.formals refl plain,
        each_on IsGood (groups ++ declared) body (each_on IsGood groups declared (header_each IsGood grouped a u.result) (declarations_good n u here all a refl plain [] u.declarations before))
            (stmts_good n u here all 0 inner refl (behind_plain (outer u) u.declarations all plain) u.body (each_right IsGiven (groups ++ declared) body h.1)),
      )

-- ---- the program ----

no_presets : (f : Form) → unbuilt_in f ≡ false → presets_of f ≡ []
no_presets (Header o xs) h = refl
no_presets (Declares before (Implicit rs t)) h = refl
no_presets (Declares before (Initial ps)) h = absurd (true≢false h)
no_presets (Declares before (Variables q t vs)) h = refl
no_presets (Declares before (Area q gs)) h = refl
no_presets (Declares before (Structure x gs)) h = refl
no_presets (Groups before t vs) h = refl
no_presets (States ls k) h = refl
no_presets (Until e) h = refl
no_presets (Chooses zs fallback before seen) h = refl

no_areas : (f : Form) → unbuilt_in f ≡ false → area_declared f ≡ None
no_areas (Header o xs) h = refl
no_areas (Declares before (Implicit rs t)) h = refl
no_areas (Declares before (Initial ps)) h = refl
no_areas (Declares before (Variables None t vs)) h = refl
no_areas (Declares before (Variables (Some q) t vs)) h = absurd (true≢false h)
no_areas (Declares before (Area q gs)) h = absurd (true≢false h)
no_areas (Declares before (Structure x gs)) h = refl
no_areas (Groups before t vs) h = refl
no_areas (States ls k) h = refl
no_areas (Until e) h = refl
no_areas (Chooses zs fallback before seen) h = refl

pub over_scalars : (p : EflProgram) → type_faults.first_fault p ≡ None → first_unbuilt p ≡ None → IsOverScalars p
over_scalars p types_hold none =
    let us = p.procedures in
    let vs = program_parts p in
    let made = each_built vs (built_parts p none) in
    let given = each_both IsBuilt (λ v. part_faults us v ≡ []) vs made (no_faults p types_hold) in
    let good : Each (IsGood us) vs = every_part (IsGood us) us (λ n u e. unit_good us n u e (own_parts (IsGiven us) us n u e given)) in
    let listed : Each IsOwn (program_variables p) =
    distinct_each IsOwn [] (flat_map (located_at us) vs) (each_joined IsOwn (located_at us) vs (each_fact (IsGood us) (λ v. Each IsOwn (located_at us v)) vs (λ v g. g.0) good)) in
    record {
      scalar = λ i x e. (at_each IsOwn (program_variables p) listed i x e).1;
      no_area = λ i x e. (at_each IsOwn (program_variables p) listed i x e).0;
      no_initial = λ i v e. no_presets v.form (at_each IsBuilt vs made i v e);
      no_common = λ i v e. no_areas v.form (at_each IsBuilt vs made i v e);
      no_overlay = λ i j v x e g. at_each IsBare (uses_in v.form) (at_each (IsGood us) vs good i v e).1 j (Laid x) g;
    }
