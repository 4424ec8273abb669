-- The calls that a walk finds are those of a program's parts.
use Rattle.std.proofs.Common.{◌≡◌, ◌<◌, ◌+◌, ℕ, zero, suc, ℤ, Bool, true, false, ◌||◌, List, [], ◌∷◌, ◌++◌, length, Option, Some, None, map, refl, sym, ap, ◌∙◌, arith}
use Rattle.std.specs.Prelude.{unwrap_or, option_map, filter_map, flat_map, cond, if◌then◌else◌, ⊤}
use Rattle.std.specs.List.{slice_get, cons_option}
use Rattle.std.proofs.lemmas.List.{append-nil, append_assoc}
use Rattle.std.proofs.lemmas.Option.{slice_get_within}
use Rattle.std.specs.Str.{bytes_eq}
use Rattle.rule_table.specs.Words.{is_some_and, first_place}
use Rattle.ground.specs.declared.place.Place.{Place}
use Rattle.call_cycles.specs.declared.edge.Edge.{Edge}
use Rattle.call_cycles.specs.Cycles.{AreWithin, edge_at}
use Rattle.efl_tree.specs.declared.statement.LoopKind.TheVariants as loops
use Rattle.efl_tree.specs.Syntax.{Text, EflType, Integer, Logical, Real, Complex, Shape, EflGroups, NoGroup, AndGroup, EflDeclKind, Implicit, Initial, Variables, Area, Structure, EflDecl, EflStmt, Statement, EflKind, Empty, Block, Act, If, IfElse, While, For, Repeat, RepeatUntil, Do, Switch, Break, Next, Return, Goto, Write, Read, EflStmts, NoStmt, AndStmt, EflCases, NoCase, AndCase, EflProcedure, EflProgram}
use Rattle.efl_tree.specs.Syntax as efl
use Rattle.efl_scope.specs.DataTypes.{DataType, Scalar, Structured, Array, NoType}
use Rattle.efl_scope.specs.Scopes.{Blocks, Meaning, IsVariable, IsStructure, meaning, behind, behind_declaration, outer}
use Rattle.efl_scope.specs.Scopes as scopes
use Rattle.efl_scope.specs.Parts.{Form, Header, Declares, Groups, States, Until, Chooses, Around, Part, part, among, into, in_loop, in_list, opening, opened, names_of, names_by, shapes_in, groups_in, members_in, area_groups, groups_by, declarations_in, parts_of, parts_within, parts_in, clauses_in, header_type_groups, around_unit, parts_by, parts_from, program_parts}
use Rattle.efl_scope.specs.Uses.{Use, Named, Applied, Laid, uses_of, uses_declared, uses_in}
use Rattle.efl_types.specs.Signatures.{Names, applied_by, applied_as}
use Rattle.efl_types.specs.Types.{calls}
use Rattle.efl_types.specs.TypeRules as rules
use Rattle.efl_types.specs.Whole.{number_of, called_by, CallAt, calls_in, program_calls, edges_of}
use Rattle.efl_whole.specs.Roles.{Roles, behind_kind, behind_all, listed}
use Rattle.efl_whole.specs.Calls.{Calls, no_calls, Site, calling, called_as, using, using_all, entering, declaration_calls, declarations_calls, statement_calls, within_calls, statements_calls, clauses_calls, outside, procedure_calls, procedures_calls}
use Rattle.efl_whole.proofs.Meanings.{kind_role, role_of, roles_by, Heads, heads_roles, kind_heads, all_heads, entering_heads, outer_roles, outer_heads}

-- ---- calls one behind the other ----

abbrev pub add_call : CallAt → Calls → Calls
add_call c cs = record { edges = cs.edges ++ c.edge ∷ []; places = cs.places ++ c.place ∷ [] }

abbrev pub telling : List CallAt → Calls → Calls
telling [] cs = cs
telling (c ∷ rest) cs = telling rest (add_call c cs)

telling-append : (xs ys : List CallAt) (cs : Calls) → telling (xs ++ ys) cs ≡ telling ys (telling xs cs)
telling-append [] ys cs = refl
telling-append (c ∷ xs) ys cs = telling-append xs ys (add_call c cs)

pub told_edges : (xs : List CallAt) (cs : Calls) → (telling xs cs).edges ≡ cs.edges ++ map (λ c. c.edge) xs
told_edges [] cs = sym (append-nil cs.edges)
told_edges (c ∷ xs) cs = told_edges xs (add_call c cs) ∙ append_assoc cs.edges (c.edge ∷ []) (map (λ d. d.edge) xs)

pub told_places : (xs : List CallAt) (cs : Calls) → (telling xs cs).places ≡ cs.places ++ map (λ c. c.place) xs
told_places [] cs = sym (append-nil cs.places)
told_places (c ∷ xs) cs = told_places xs (add_call c cs) ∙ append_assoc cs.places (c.place ∷ []) (map (λ d. d.place) xs)

-- a call of a procedure from one with this number, at a place
abbrev call_at : ℕ → Place → ℕ → CallAt
call_at n p to = record { edge = record { from = n; to = to }; place = p }

-- ---- procedures by their numbers ----

-- an edge between so many procedures
abbrev IsEdgeIn : ℕ → Edge → Type 0
IsEdgeIn n e = (e.from < n) × (e.to < n)

abbrev pub AreIn : ℕ → List CallAt → Type 0
AreIn n [] = ⊤
AreIn n (c ∷ cs) = IsEdgeIn n c.edge × AreIn n cs

in_both : (n : ℕ) (cs ds : List CallAt) → AreIn n cs → AreIn n ds → AreIn n (cs ++ ds)
in_both n [] ds first second = second
in_both n (c ∷ cs) ds first second = (first.0, in_both n cs ds first.1 second)

module _ (us : List EflProcedure) where
  abbrev pub site : Around → Site
  site a = record { numbers = number_of us; unit = a.unit; roles = roles_by a.blocks }

  abbrev pub told : List Part → Calls → Calls
  told [] cs = cs
  told (v ∷ vs) cs = told vs (telling (calls_in us v) cs)

  told-append : (vs ws : List Part) (cs : Calls) → told (vs ++ ws) cs ≡ told ws (told vs cs)
  told-append [] ws cs = refl
  told-append (v ∷ vs) ws cs = told-append vs ws (telling (calls_in us v) cs)

  pub all_told : (vs : List Part) (cs : Calls) → told vs cs ≡ telling (flat_map (calls_in us) vs) cs
  all_told [] cs = refl
  all_told (v ∷ vs) cs = all_told vs (telling (calls_in us v) cs) ∙ sym (telling-append (calls_in us v) (flat_map (calls_in us) vs) cs)

  -- ---- the uses of a part ----

  called_is : (o : Option ℕ) (m : Option Meaning) → (if calls (applied_by m) then o else None) ≡ called_as o (option_map role_of m)
  called_is o None = refl
  called_is o (Some (IsStructure ms)) = refl
  called_is o (Some (IsVariable v)) = by v.kind
    where
      by : (t : DataType) → (if calls (applied_as t) then o else None) ≡ called_as o (Some (kind_role t))
      by (Scalar k) = refl
      by (Structured ms) = refl
      by (Array bs t) = refl
      by NoType = refl

  abbrev at_site : ℕ → Names → Site
  at_site n names = record { numbers = number_of us; unit = n; roles = roles_by names.blocks }

  use_called : (n : ℕ) (names : Names) (p : Place) (u : Use) (cs : Calls) → calling (at_site n names) p (called_by us names u) cs ≡ using (at_site n names) p u cs
  use_called n names p (Named x) cs = refl
  use_called n names p (Applied x) cs = ap (λ o. calling (at_site n names) p o cs) (called_is (number_of us x) (meaning names.blocks x))
  use_called n names p (Laid x) cs = refl

  uses_told : (n : ℕ) (names : Names) (p : Place) (xs : List Use) (cs : Calls) →
      telling (map (call_at n p) (filter_map (called_by us names) xs)) cs ≡ using_all (at_site n names) p xs cs
  uses_told n names p [] cs = refl
  uses_told n names p (u ∷ xs) cs =
      by (called_by us names u) (filter_map (called_by us names) xs)
      ∙ uses_told n names p xs (calling (at_site n names) p (called_by us names u) cs)
      ∙ ap (using_all (at_site n names) p xs) (use_called n names p u cs)
    where
      by : (o : Option ℕ) (rest : List ℕ) → telling (map (call_at n p) (cons_option o rest)) cs ≡ telling (map (call_at n p) rest) (calling (at_site n names) p o cs)
      by None rest = refl
      by (Some to) rest = refl

  module _ (u : EflProcedure) where
    pub part_told : (a : Around) (p : Place) (f : Form) (cs : Calls) → slice_get us a.unit ≡ Some u → telling (calls_in us (part a p f)) cs ≡ using_all (site a) p (uses_in f) cs
    part_told a p f cs here =
        ap (λ o. telling (map (call_at a.unit p) (unwrap_or (option_map (λ w. filter_map (called_by us (rules.names_of us w (part a p f))) (uses_in f)) o) [])) cs) here
        ∙ uses_told a.unit (rules.names_of us u (part a p f)) p (uses_in f) cs

    -- ---- groups call nothing ----

    mutual
      groups_silent : (t : EflType) (a : Around) (cs : Calls) → slice_get us a.unit ≡ Some u → told (groups_in a t) cs ≡ cs
      groups_silent Integer a cs here = refl
      groups_silent Logical a cs here = refl
      groups_silent (Real long) a cs here = refl
      groups_silent (Complex long) a cs here = refl
      groups_silent (efl.EflType.Named x) a cs here = refl
      groups_silent (Shape o gs) a cs here = members_silent gs a [] cs here

      members_silent : (gs : EflGroups) (a : Around) (before : List Text) (cs : Calls) → slice_get us a.unit ≡ Some u → told (members_in a before gs) cs ≡ cs
      members_silent NoGroup a before cs here = refl
      members_silent (AndGroup t vs p gs) a before cs here =
          let rest = members_in (among (behind a.blocks t) a) (before ++ names_of vs) gs in
          ap (told (groups_in a t ++ rest)) (part_told a p (Groups before t vs) cs here) ∙ told-append (groups_in a t) rest cs ∙ ap (told rest) (groups_silent t a cs here)
          ∙ members_silent gs (among (behind a.blocks t) a) (before ++ names_of vs) cs here

    area_silent : (gs : EflGroups) (a : Around) (before : List Text) (cs : Calls) → slice_get us a.unit ≡ Some u → told (area_groups a before gs) cs ≡ cs
    area_silent NoGroup a before cs here = refl
    area_silent (AndGroup t vs p gs) a before cs here =
        let rest = area_groups (among (behind a.blocks t) a) (before ++ shapes_in t ++ names_of vs) gs in
        ap (told (groups_in a t ++ rest)) (part_told a p (Groups (before ++ shapes_in t) t vs) cs here) ∙ told-append (groups_in a t) rest cs ∙ ap (told rest) (groups_silent t a cs here)
        ∙ area_silent gs (among (behind a.blocks t) a) (before ++ shapes_in t ++ names_of vs) cs here

    kind_silent : (k : EflDeclKind) (a : Around) (before : List Text) (cs : Calls) → slice_get us a.unit ≡ Some u → told (groups_by a before k) cs ≡ cs
    kind_silent (Implicit rs t) a before cs here = groups_silent t a cs here
    kind_silent (Initial ps) a before cs here = refl
    kind_silent (Variables q t vs) a before cs here = groups_silent t a cs here
    kind_silent (Area q gs) a before cs here = area_silent gs a (a.formals ++ before) cs here
    kind_silent (Structure x gs) a before cs here = members_silent gs a [] cs here

    -- ---- declarations ----

    declarations_told : (ds : List EflDecl) (a : Around) (bs : Blocks) (f : Roles) (before : List Text) (cs : Calls) → Heads a.blocks bs f → slice_get us a.unit ≡ Some u →
        declarations_calls (site (among bs a)) ds f cs ≡ told (declarations_in a before ds) cs
    declarations_told [] a bs f before cs h here = refl
    declarations_told (d ∷ ds) a bs f before cs h here =
        let cs1 = telling (calls_in us (part a d.place (Declares before d.kind))) cs in
        let rest = declarations_in (among (behind_declaration a.blocks d.kind) a) (before ++ names_by d.kind) ds in
        let one : declaration_calls (entering f (site (among bs a))) d cs ≡ cs1 =
        ap (λ r. using_all (record { numbers = number_of us; unit = a.unit; roles = r }) d.place (uses_declared d.kind) cs) (sym (heads_roles a.blocks bs f h))
        ∙ sym (part_told a d.place (Declares before d.kind) cs here) in
        ap (declarations_calls (site (among bs a)) ds (behind_kind d.kind f)) one
        ∙ declarations_told ds (among (behind_declaration a.blocks d.kind) a) bs (behind_kind d.kind f) (before ++ names_by d.kind) cs1 (kind_heads d.kind a.blocks bs f h) here
        ∙ sym (told-append (groups_by a before d.kind) rest cs1 ∙ ap (told rest) (kind_silent d.kind a before cs1 here))

    -- ---- statements ----

    mutual
      statement_told : (s : EflStmt) (a : Around) (cs : Calls) → slice_get us a.unit ≡ Some u → statement_calls (site a) s cs ≡ told (parts_of a s) cs
      statement_told (Statement ls p k) a cs here =
          ap (within_calls (site a) k) (sym (part_told a p (States ls k) cs here)) ∙ within_told k a (telling (calls_in us (part a p (States ls k))) cs) here

      within_told : (k : EflKind) (a : Around) (cs : Calls) → slice_get us a.unit ≡ Some u → within_calls (site a) k cs ≡ told (parts_within a k) cs
      within_told Empty a cs here = refl
      within_told (Block ds ss) a cs here =
          let own = (listed (roles_by a.blocks) ds).variables in
          let first = scopes.entering a.position ds a.blocks in
          let h = entering_heads a.position ds a.blocks in
          let inside_it = in_list ss (opened ds a) in
          let cs1 = told (declarations_in (opening ds a) [] ds) cs in
          ap (λ r. statements_calls (record { numbers = number_of us; unit = a.unit; roles = r }) ss (declarations_calls (site a) ds own cs))
          (sym (heads_roles (scopes.behind_all first ds) a.blocks (behind_all ds own) (all_heads ds first a.blocks own h)))
          ∙ ap (statements_calls (site inside_it) ss) (declarations_told ds (opening ds a) a.blocks own [] cs h here)
          ∙ statements_told ss 0 inside_it cs1 here
          ∙ sym (told-append (declarations_in (opening ds a) [] ds) (parts_in 0 inside_it ss) cs)
      within_told (Act e) a cs here = refl
      within_told (If e s) a cs here = statement_told s a cs here
      within_told (IfElse e s t) a cs here =
          ap (statement_calls (site a) t) (statement_told s (into 0 a) cs here)
          ∙ statement_told t (into 1 a) (told (parts_of (into 0 a) s) cs) here
          ∙ sym (told-append (parts_of (into 0 a) s) (parts_of (into 1 a) t) cs)
      within_told (While e s) a cs here = statement_told s (in_loop loops.While a) cs here
      within_told (For b e c s) a cs here = statement_told s (in_loop loops.For a) cs here
      within_told (Repeat s) a cs here = statement_told s (in_loop loops.Repeat a) cs here
      within_told (RepeatUntil s e p) a cs here =
          let cs1 = told (parts_of (in_loop loops.Repeat a) s) cs in
          ap (using_all (site a) p (uses_of e)) (statement_told s (in_loop loops.Repeat a) cs here)
          ∙ sym (part_told a p (Until e) cs1 here)
          ∙ sym (told-append (parts_of (in_loop loops.Repeat a) s) (part a p (Until e) ∷ []) cs)
      within_told (Do x b c d s) a cs here = statement_told s (in_loop loops.Do a) cs here
      within_told (Switch e clauses) a cs here = clauses_told clauses 0 (in_loop loops.Switch a) [] false cs here
      within_told (Break n o) a cs here = refl
      within_told (Next n o) a cs here = refl
      within_told (Return e) a cs here = refl
      within_told (Goto l) a cs here = refl
      within_told (Write e is') a cs here = refl
      within_told (Read e is') a cs here = refl

      statements_told : (ss : EflStmts) (n : ℕ) (a : Around) (cs : Calls) → slice_get us a.unit ≡ Some u → statements_calls (site a) ss cs ≡ told (parts_in n a ss) cs
      statements_told NoStmt n a cs here = refl
      statements_told (AndStmt s ss) n a cs here =
          ap (statements_calls (site a) ss) (statement_told s (into n a) cs here)
          ∙ statements_told ss (n + 1) a (told (parts_of (into n a) s) cs) here
          ∙ sym (told-append (parts_of (into n a) s) (parts_in (n + 1) a ss) cs)

      clauses_told : (clauses : EflCases) (n : ℕ) (a : Around) (zs : List ℤ) (seen : Bool) (cs : Calls) → slice_get us a.unit ≡ Some u →
          clauses_calls (site a) clauses cs ≡ told (clauses_in n a zs seen clauses) cs
      clauses_told NoCase n a zs seen cs here = refl
      clauses_told (AndCase es fallback ss p clauses) n a zs seen cs here =
          let here_parts = parts_in 0 (in_list ss (into n a)) ss in
          let rest = clauses_in (n + 1) a (zs ++ es) (seen || fallback) clauses in
          ap (clauses_calls (site a) clauses) (statements_told ss 0 (in_list ss (into n a)) cs here)
          ∙ clauses_told clauses (n + 1) a (zs ++ es) (seen || fallback) (told here_parts cs) here
          ∙ sym (ap (told (here_parts ++ rest)) (part_told a p (Chooses es fallback zs seen) cs here) ∙ told-append here_parts rest cs)

    -- ---- procedures ----

    header_silent : (o : Option EflType) (a : Around) (cs : Calls) → slice_get us a.unit ≡ Some u → told (header_type_groups a o) cs ≡ cs
    header_silent None a cs here = refl
    header_silent (Some t) a cs here = groups_silent t (among [] a) cs here

    procedure_told : (n : ℕ) (cs : Calls) → slice_get us n ≡ Some u → procedure_calls (number_of us) n u cs ≡ told (parts_by n u) cs
    procedure_told n cs here =
        let a = around_unit n u in
        let own = outer_roles u in
        let groups = header_type_groups a u.result in
        let declared = declarations_in a [] u.declarations in
        let body = among (scopes.behind_all (outer u) u.declarations) a in
        let stated = parts_in 0 body u.body in
        let cs1 = told declared cs in
        ap (λ r. statements_calls (record { numbers = number_of us; unit = n; roles = r }) u.body (declarations_calls (outside (number_of us) n) u.declarations own cs))
        (sym (heads_roles (scopes.behind_all (outer u) u.declarations) [] (behind_all u.declarations own) (all_heads u.declarations (outer u) [] own (outer_heads u))))
        ∙ ap (statements_calls (site body) u.body) (declarations_told u.declarations a [] own [] cs (outer_heads u) here)
        ∙ statements_told u.body 0 body cs1 here
        ∙ sym (ap (told (groups ++ declared ++ stated)) (part_told a u.place (Header u.result u.formals) cs here)
        ∙ told-append (groups ++ declared) stated cs ∙ ap (told stated) (told-append groups declared cs ∙ ap (told declared) (header_silent u.result a cs here)))

  pub procedures_told : (rest : List EflProcedure) (n : ℕ) (cs : Calls) → ((i : ℕ) → slice_get us (n + i) ≡ slice_get rest i) →
      procedures_calls (number_of us) n rest cs ≡ told (parts_from n rest) cs
  procedures_told [] n cs at = refl
  procedures_told (u ∷ rest) n cs at =
      let here : slice_get us n ≡ Some u = (let e : n ≡ n + 0 = omega arith in ap (slice_get us) e ∙ at 0) in
      let next : (i : ℕ) → slice_get us (n + 1 + i) ≡ slice_get rest i = λ i. (let e : n + 1 + i ≡ n + suc i = omega arith in ap (slice_get us) e ∙ at (suc i)) in
      ap (procedures_calls (number_of us) (n + 1) rest) (procedure_told u n cs here)
      ∙ procedures_told rest (n + 1) (told (parts_by n u) cs) next
      ∙ sym (told-append (parts_by n u) (parts_from (n + 1) rest) cs)

  placed_within : {X : Type 0} (test : X → Bool) (xs : List X) (k : ℕ) → first_place test xs ≡ Some k → k < length xs
  placed_within test [] k e = absurd (cc)
  placed_within test (x ∷ xs) k e = by (test x) (first_place test xs) (placed_within test xs) e
    where
      by : (b : Bool) (o : Option ℕ) → ((m : ℕ) → o ≡ Some m → m < length xs) → cond b (Some 0) (option_map (λ n. n + 1) o) ≡ Some k → k < suc (length xs)
      by true o more is = (let zero_is : 0 ≡ k = ap (λ v. unwrap_or v 0) is in omega (arith, zero_is))
      by false None more is = absurd (cc)
      by false (Some m) more is = (let next : m + 1 ≡ k = ap (λ v. unwrap_or v 0) is in let lt = more m refl in omega (arith, next, lt))

  called_within : (names : Names) (x : Use) (k : ℕ) → called_by us names x ≡ Some k → k < length us
  called_within names (Named x) k e = absurd (cc)
  called_within names (Laid x) k e = absurd (cc)
  called_within names (Applied x) k e = by (calls (applied_by (meaning names.blocks x))) e
    where
      by : (b : Bool) → (if b then number_of us x else None) ≡ Some k → k < length us
      by true is = placed_within (λ u. is_some_and (bytes_eq x) u.name) us k is
      by false is = absurd (cc)

  uses_within : (n : ℕ) (p : Place) (names : Names) (xs : List Use) → n < length us → AreIn (length us) (map (call_at n p) (filter_map (called_by us names) xs))
  uses_within n p names [] lt = tt
  uses_within n p names (x ∷ xs) lt = by (called_by us names x) (called_within names x) (filter_map (called_by us names) xs) (uses_within n p names xs lt)
    where
      by : (o : Option ℕ) → ((k : ℕ) → o ≡ Some k → k < length us) → (rest : List ℕ) → AreIn (length us) (map (call_at n p) rest) → AreIn (length us) (map (call_at n p) (cons_option o rest))
      by None within rest all = all
      by (Some k) within rest all = ((lt, within k refl), all)

  part_within : (v : Part) → AreIn (length us) (calls_in us v)
  part_within v = by (slice_get us v.around.unit) refl
    where
      by : (o : Option EflProcedure) → slice_get us v.around.unit ≡ o →
          AreIn (length us) (map (call_at v.around.unit v.place) (unwrap_or (option_map (λ w. filter_map (called_by us (rules.names_of us w v)) (uses_in v.form)) o) []))
      by None is = tt
      by (Some w) is = uses_within v.around.unit v.place (rules.names_of us w v) (uses_in v.form) (slice_get_within us v.around.unit w is)

  pub all_within : (vs : List Part) → AreIn (length us) (flat_map (calls_in us) vs)
  all_within [] = tt
  all_within (v ∷ vs) = in_both (length us) (calls_in us v) (flat_map (calls_in us) vs) (part_within v) (all_within vs)

edge_in : (n : ℕ) (cs : List CallAt) (j : ℕ) → j < length (map (λ c. c.edge) cs) → AreIn n cs → IsEdgeIn n (edge_at (map (λ c. c.edge) cs) j)
edge_in n [] j lt all = absurd (omega (arith, lt))
edge_in n (c ∷ cs) zero lt all = all.0
edge_in n (c ∷ cs) (suc j) lt all = edge_in n cs j (omega (arith, lt)) all.1

module _ (p : EflProgram) where
  pub edges_within : AreWithin (length p.procedures) (edges_of p)
  edges_within j lt = edge_in (length p.procedures) (program_calls p) j lt (all_within p.procedures (program_parts p))

  pub program_told : procedures_calls (number_of p.procedures) 0 p.procedures no_calls ≡ telling (program_calls p) no_calls
  program_told =
      procedures_told p.procedures p.procedures 0 no_calls (λ i. (let e : 0 + i ≡ i = omega arith in ap (slice_get p.procedures) e))
      ∙ all_told p.procedures (program_parts p) no_calls

  pub found_edges : (cs : Calls) → cs ≡ procedures_calls (number_of p.procedures) 0 p.procedures no_calls → cs.edges ≡ edges_of p
  found_edges cs is = ap (λ c. c.edges) (is ∙ program_told) ∙ told_edges (program_calls p) no_calls

  pub found_places : (cs : Calls) → cs ≡ procedures_calls (number_of p.procedures) 0 p.procedures no_calls → cs.places ≡ map (λ c. c.place) (program_calls p)
  found_places cs is = ap (λ c. c.places) (is ∙ program_told) ∙ told_places (program_calls p) no_calls
