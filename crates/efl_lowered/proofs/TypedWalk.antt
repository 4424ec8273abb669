-- The blocks around each part of a procedure: what a name means there is one variable for each block and name, and is among the program's.
use Rattle.std.proofs.Common.{◌≡◌, ℕ, zero, suc, ◌+◌, Bool, false, List, [], ◌∷◌, ◌++◌, Option, None, Some, refl, sym, ap, ◌∙◌, subst, inl, inr, arith}
use Rattle.std.specs.Prelude.{⊤, ℤ, ◌||◌}
use Rattle.std.specs.Option.{option_or}
use Rattle.std.proofs.lemmas.List.{append-nil}
use Rattle.std.proofs.lemmas.Option.{none-some}
use Rattle.rule_table.specs.Words.{find_map}
use Rattle.efl_tree.specs.declared.statement.LoopKind.TheVariants as loops
use Rattle.efl_tree.specs.Syntax as efl
use Rattle.efl_tree.specs.Syntax.{Text, EflType, Shape, EflGroups, NoGroup, AndGroup, EflDeclKind, Implicit, Initial, Variables, Area, Structure, EflDecl, EflStmt, Statement, EflKind, Empty, Block, Act, If, IfElse, While, For, Repeat, RepeatUntil, Do, Switch, Break, Next, Return, Goto, Write, Read, EflStmts, NoStmt, AndStmt, EflCases, NoCase, AndCase, EflProcedure}
use Rattle.efl_scope.specs.DataTypes.{NoMember}
use Rattle.efl_scope.specs.Scopes.{Variable, Blocks, Meaning, IsVariable, IsStructure, variable_of, meaning, behind, behind_declaration, behind_all, declared_in, naming, entering, outer, own_variables, undeclared, implied_of}
use Rattle.efl_scope.specs.Parts.{Form, Header, Declares, Groups, States, Until, Chooses, Around, Part, part, among, into, in_loop, in_list, names_of, shapes_in, names_by, groups_in, members_in, area_groups, groups_by, declarations_in, opening, opened, parts_of, parts_within, parts_in, clauses_in, header_type_groups, around_unit, parts_by}
use Rattle.efl_scope.specs.Marks.{Located, meant_by}
use Rattle.efl_typed.specs.Typing.{body_around}
use Rattle.efl_typed.proofs.Each.{Each, each_left, each_right}
use Rattle.efl_lowered.proofs.TypedChecks.{each_fact, each_on}
use Rattle.efl_lowered.proofs.TypedBlocks.{Grown, grows_declaration, grows_all, variable_before, found_is, HasHome, NoArea, homes, undeclared_homes, Lists, declared_listed, formal_listed, undeclared_named}

-- ---- where blocks stand ----

-- the variables of a block within a statement, by the way to it from there
abbrev mutual
  pub block_at : Around → EflStmt → List ℕ → List Variable
  block_at a (Statement ls p k) r = block_within a k r

  pub block_within : Around → EflKind → List ℕ → List Variable
  block_within a (Block ds ss) [] = declared_in a.position (naming ds ∷ a.blocks) ds
  block_within a (Block ds ss) (i ∷ r) = block_in 0 (in_list ss (opened ds a)) ss i r
  block_within a (If e s) r = block_at a s r
  block_within a (IfElse e s t) [] = []
  block_within a (IfElse e s t) (zero ∷ r) = block_at (into 0 a) s r
  block_within a (IfElse e s t) (suc i ∷ r) = block_at (into 1 a) t r
  block_within a (While e s) r = block_at (in_loop loops.While a) s r
  block_within a (For b e d s) r = block_at (in_loop loops.For a) s r
  block_within a (Repeat s) r = block_at (in_loop loops.Repeat a) s r
  block_within a (RepeatUntil s e q) r = block_at (in_loop loops.Repeat a) s r
  block_within a (Do x b e d s) r = block_at (in_loop loops.Do a) s r
  block_within a (Switch e cs) [] = []
  block_within a (Switch e cs) (i ∷ r) = block_of 0 (in_loop loops.Switch a) cs i r
  block_within a _ r = []

  pub block_in : ℕ → Around → EflStmts → ℕ → List ℕ → List Variable
  block_in j a NoStmt i r = []
  block_in j a (AndStmt s ss) zero r = block_at (into j a) s r
  block_in j a (AndStmt s ss) (suc i) r = block_in (j + 1) a ss i r

  pub block_of : ℕ → Around → EflCases → ℕ → List ℕ → List Variable
  block_of j a NoCase i r = []
  block_of j a (AndCase es fallback ss p cs) zero [] = []
  block_of j a (AndCase es fallback ss p cs) zero (i ∷ r) = block_in 0 (in_list ss (into j a)) ss i r
  block_of j a (AndCase es fallback ss p cs) (suc i) r = block_of (j + 1) a cs i r

-- a way that is given from the inside, before one from there on
abbrev pub up : List ℕ → List ℕ → List ℕ
up [] r = r
up (i ∷ p) r = up p (i ∷ r)

module _ (us : List EflProcedure) (n : ℕ) (u : EflProcedure) (P : Located → Type 0) where
  abbrev pub outer_variables : List Variable
  outer_variables = own_variables u ++ undeclared (implied_of u) (own_variables u) u.formals

  -- the variables of a block of the procedure
  abbrev pub root : List ℕ → List Variable
  root [] = outer_variables
  root (i ∷ r) = block_in 0 (body_around n u) u.body i r

  -- ---- what names mean ----

  -- a variable is the first of its name in its block, or an undeclared one
  abbrev pub IsCanonical : Variable → Type 0
  IsCanonical v = v ≡ meant_by (implied_of u) v.name (find_map (variable_of v.name) (root (up v.home [])))

  abbrev pub CanonicalBy : Text → Option Meaning → Type 0
  CanonicalBy y None = find_map (variable_of y) outer_variables ≡ None
  CanonicalBy y (Some (IsVariable v)) = IsCanonical v
  CanonicalBy y (Some (IsStructure ms)) = ⊤

  abbrev pub AreCanonical : Blocks → Type 0
  AreCanonical bs = (y : Text) → CanonicalBy y (meaning bs y)

  abbrev pub ArePresent : Blocks → Type 0
  ArePresent bs = (y : Text) (v : Variable) → meaning bs y ≡ Some (IsVariable v) → P (record { unit = n; variable = v })

  canonical_grown : (y : Text) (a b : Option Meaning) → Grown a b → CanonicalBy y a → CanonicalBy y b
  canonical_grown y a b (inl e) h = subst (CanonicalBy y) (sym e) h
  canonical_grown y a b (inr (ms, e)) h = subst (CanonicalBy y) (sym e) tt

  -- of a block whose variables are these, behind other blocks
  block_canonical : (home : List ℕ) (vs : List Variable) (y : Text) → root (up home []) ≡ vs → Each (HasHome home) vs → (rest : Option Meaning) → CanonicalBy y rest → (o : Option Meaning) → find_map (variable_of y) vs ≡ o →
      CanonicalBy y (option_or o rest)
  block_canonical home vs y at h rest k None e = k
  block_canonical home vs y at h rest k (Some m) e =
      let w = found_is (HasHome home) y vs m h e in
      subst (λ x. CanonicalBy y (Some x)) (sym w.1)
      (sym (ap (meant_by (implied_of u) w.0.name) (ap (λ q. find_map (variable_of w.0.name) (root (up q []))) w.3 ∙ ap (find_map (variable_of w.0.name)) at ∙ ap (λ z. find_map (variable_of z) vs) (sym w.2) ∙ e ∙ ap Some w.1)))

  -- ---- what is known of a part ----

  abbrev pub FactsBy : Around → Form → Type 0
  FactsBy a (Header o fs) = AreCanonical a.blocks
  FactsBy a (Declares before k) = AreCanonical a.blocks
  FactsBy a (Groups before t vs) = ⊤
  FactsBy a (States ls k) = AreCanonical a.blocks × ArePresent a.blocks
  FactsBy a (Until e) = AreCanonical a.blocks × ArePresent a.blocks
  FactsBy a (Chooses zs fallback before seen) = ⊤

  abbrev pub Facts : Part → Type 0
  Facts v = (v.around.unit ≡ n) × FactsBy v.around v.form

  -- it declares no area, and what it lists is known
  abbrev pub IsGiven : Part → Type 0
  IsGiven v = NoArea v × Lists us P v

  free : (vs : List Part) → Each IsGiven vs → Each NoArea vs
  free vs h = each_fact IsGiven NoArea vs (λ v g. g.0) h

  lists : (vs : List Part) → Each IsGiven vs → Each (Lists us P) vs
  lists vs h = each_fact IsGiven (Lists us P) vs (λ v g. g.1) h

  -- ---- declarations ----

  mutual
    groups_facts : (a : Around) → a.unit ≡ n → (t : EflType) → Each Facts (groups_in a t)
    groups_facts a same efl.Integer = tt
    groups_facts a same efl.Logical = tt
    groups_facts a same (efl.Real long) = tt
    groups_facts a same (efl.Complex long) = tt
    groups_facts a same (efl.Named x) = tt
    groups_facts a same (Shape o gs) = members_facts a same [] gs

    members_facts : (a : Around) → a.unit ≡ n → (before : List Text) (gs : EflGroups) → Each Facts (members_in a before gs)
    members_facts a same before NoGroup = tt
    members_facts a same before (AndGroup t vs p gs) =
        ((same, tt), each_on Facts (groups_in a t) (members_in (among (behind a.blocks t) a) (before ++ names_of vs) gs) (groups_facts a same t) (members_facts (among (behind a.blocks t) a) same (before ++ names_of vs) gs))

  area_facts : (a : Around) → a.unit ≡ n → (before : List Text) (gs : EflGroups) → Each Facts (area_groups a before gs)
  area_facts a same before NoGroup = tt
  area_facts a same before (AndGroup t vs p gs) =
      ((same, tt), each_on Facts (groups_in a t) (area_groups (among (behind a.blocks t) a) (before ++ shapes_in t ++ names_of vs) gs) (groups_facts a same t) (area_facts (among (behind a.blocks t) a) same (before ++ shapes_in t ++ names_of vs) gs))

  declared_facts : (a : Around) → a.unit ≡ n → (before : List Text) (k : EflDeclKind) → Each Facts (groups_by a before k)
  declared_facts a same before (Implicit rs t) = groups_facts a same t
  declared_facts a same before (Initial ps) = tt
  declared_facts a same before (Variables q t vs) = groups_facts a same t
  declared_facts a same before (Area q gs) = area_facts a same (a.formals ++ before) gs
  declared_facts a same before (Structure x gs) = members_facts a same [] gs

  declarations_facts : (a : Around) → a.unit ≡ n → AreCanonical a.blocks → (before : List Text) (ds : List EflDecl) → Each Facts (declarations_in a before ds)
  declarations_facts a same can before [] = tt
  declarations_facts a same can before (d ∷ ds) =
      let next = among (behind_declaration a.blocks d.kind) a in (
        (same, can),
        each_on Facts (groups_by a before d.kind) (declarations_in next (before ++ names_by d.kind) ds) (declared_facts a same before d.kind)
            (declarations_facts next same (λ y. canonical_grown y (meaning a.blocks y) (meaning next.blocks y) (grows_declaration a.blocks d.kind y) (can y)) (before ++ names_by d.kind) ds),
      )

  -- ---- blocks ----

  entering_canonical : (a : Around) (ds : List EflDecl) → root (up a.position []) ≡ declared_in a.position (naming ds ∷ a.blocks) ds → Each NoArea (declarations_in (opening ds a) [] ds) → AreCanonical a.blocks →
      AreCanonical (entering a.position ds a.blocks)
  entering_canonical a ds at h can y =
      let vs = declared_in a.position (naming ds ∷ a.blocks) ds in
      block_canonical a.position vs y at (homes a.position (naming ds ∷ a.blocks) (opening ds a) [] ds h) (meaning a.blocks y) (can y) (find_map (variable_of y) vs) refl

  opened_canonical : (bs : Blocks) (ds : List EflDecl) → AreCanonical bs → AreCanonical (behind_all bs ds)
  opened_canonical bs ds can y = canonical_grown y (meaning bs y) (meaning (behind_all bs ds) y) (grows_all bs ds y) (can y)

  opened_present : (a : Around) → a.unit ≡ n → (ds : List EflDecl) → Each IsGiven (declarations_in (opening ds a) [] ds) → ArePresent a.blocks → ArePresent (opened ds a).blocks
  opened_present a same ds h pre y v last =
      by_found (find_map (variable_of y) (declared_in a.position (naming ds ∷ a.blocks) ds)) refl
      (variable_before (meaning (entering a.position ds a.blocks) y) (meaning (opened ds a).blocks y) v (grows_all (entering a.position ds a.blocks) ds y) last)
    where
      by_found : (o : Option Meaning) → find_map (variable_of y) (declared_in a.position (naming ds ∷ a.blocks) ds) ≡ o → option_or o (meaning a.blocks y) ≡ Some (IsVariable v) → P (record { unit = n; variable = v })
      by_found None e g = pre y v g
      by_found (Some m) e g =
          let ws = declared_in a.position (naming ds ∷ a.blocks) ds in
          elim (declared_listed us P a.position (naming ds ∷ a.blocks) (opening ds a) [] ds (free (declarations_in (opening ds a) [] ds) h) (lists (declarations_in (opening ds a) [] ds) h) y v last [] m (ap (find_map (variable_of y)) (append-nil ws) ∙ e)) [
            | inl w ↦ subst (λ k. P (record { unit = k; variable = v })) same w
            | inr w ↦ absurd (none-some m w)
          ]

  -- ---- statements ----

  abbrev Leads : Around → (List ℕ → List Variable) → Type 0
  Leads a below = (r : List ℕ) → root (up a.position r) ≡ below r

  -- from the statement, or the clause, with this number on
  abbrev LeadsOn : ℕ → Around → (ℕ → List ℕ → List Variable) → Type 0
  LeadsOn j a below = (i : ℕ) (r : List ℕ) → root (up a.position ((j + i) ∷ r)) ≡ below i r

  head_leads : (j : ℕ) (a : Around) (below : ℕ → List ℕ → List Variable) → LeadsOn j a below → (r : List ℕ) → root (up a.position (j ∷ r)) ≡ below 0 r
  head_leads j a below h r = let e : j ≡ j + 0 = omega arith in ap (λ m. root (up a.position (m ∷ r))) e ∙ h 0 r

  tail_leads : (j : ℕ) (a : Around) (below : ℕ → List ℕ → List Variable) → LeadsOn j a below → LeadsOn (j + 1) a (λ i. below (suc i))
  tail_leads j a below h i r = let e : j + 1 + i ≡ j + suc i = omega arith in ap (λ m. root (up a.position (m ∷ r))) e ∙ h (suc i) r

  first_leads : (a : Around) (below : ℕ → List ℕ → List Variable) → ((i : ℕ) (r : List ℕ) → root (up a.position (i ∷ r)) ≡ below i r) → LeadsOn 0 a below
  first_leads a below h i r = let e : 0 + i ≡ i = omega arith in ap (λ m. root (up a.position (m ∷ r))) e ∙ h i r

  mutual
    stmt_facts : (a : Around) → a.unit ≡ n → (s : EflStmt) → Leads a (block_at a s) → AreCanonical a.blocks → ArePresent a.blocks → Each IsGiven (parts_of a s) → Each Facts (parts_of a s)
    stmt_facts a same (Statement ls p k) way can pre h = ((same, (can, pre)), kind_facts a same k way can pre h.1)

    kind_facts : (a : Around) → a.unit ≡ n → (k : EflKind) → Leads a (block_within a k) → AreCanonical a.blocks → ArePresent a.blocks → Each IsGiven (parts_within a k) → Each Facts (parts_within a k)
    kind_facts a same Empty way can pre h = tt
    kind_facts a same (Block ds ss) way can pre h =
        let inner = in_list ss (opened ds a) in
        let declared = declarations_in (opening ds a) [] ds in
        let first = each_left IsGiven declared (parts_in 0 inner ss) h in
        let entered = entering_canonical a ds (way []) (free declared first) can in
        each_on Facts declared (parts_in 0 inner ss) (declarations_facts (opening ds a) same entered [] ds)
        (stmts_facts 0 inner same ss (first_leads inner (block_in 0 inner ss) (λ i r. way (i ∷ r))) (opened_canonical (entering a.position ds a.blocks) ds entered) (opened_present a same ds first pre)
        (each_right IsGiven declared (parts_in 0 inner ss) h))
    kind_facts a same (Act e) way can pre h = tt
    kind_facts a same (If e s) way can pre h = stmt_facts a same s way can pre h
    kind_facts a same (IfElse e s t) way can pre h =
        each_on Facts (parts_of (into 0 a) s) (parts_of (into 1 a) t)
        (stmt_facts (into 0 a) same s (λ r. way (0 ∷ r)) can pre (each_left IsGiven (parts_of (into 0 a) s) (parts_of (into 1 a) t) h))
        (stmt_facts (into 1 a) same t (λ r. way (1 ∷ r)) can pre (each_right IsGiven (parts_of (into 0 a) s) (parts_of (into 1 a) t) h))
    kind_facts a same (While e s) way can pre h = stmt_facts (in_loop loops.While a) same s way can pre h
    kind_facts a same (For b e d s) way can pre h = stmt_facts (in_loop loops.For a) same s way can pre h
    kind_facts a same (Repeat s) way can pre h = stmt_facts (in_loop loops.Repeat a) same s way can pre h
    kind_facts a same (RepeatUntil s e q) way can pre h =
        let inner = in_loop loops.Repeat a in
        each_on Facts (parts_of inner s) (part a q (Until e) ∷ []) (stmt_facts inner same s way can pre (each_left IsGiven (parts_of inner s) (part a q (Until e) ∷ []) h)) ((same, (can, pre)), tt)
    kind_facts a same (Do x b e d s) way can pre h = stmt_facts (in_loop loops.Do a) same s way can pre h
    kind_facts a same (Switch e cs) way can pre h =
        let inner = in_loop loops.Switch a in clauses_facts 0 inner same [] false cs (first_leads inner (block_of 0 inner cs) (λ i r. way (i ∷ r))) can pre h
    kind_facts a same (Break i o) way can pre h = tt
    kind_facts a same (Next i o) way can pre h = tt
    kind_facts a same (Return e) way can pre h = tt
    kind_facts a same (Goto l) way can pre h = tt
    kind_facts a same (Write e is') way can pre h = tt
    kind_facts a same (Read e is') way can pre h = tt

    stmts_facts : (j : ℕ) (a : Around) → a.unit ≡ n → (ss : EflStmts) → LeadsOn j a (block_in j a ss) → AreCanonical a.blocks → ArePresent a.blocks → Each IsGiven (parts_in j a ss) → Each Facts (parts_in j a ss)
    stmts_facts j a same NoStmt way can pre h = tt
    stmts_facts j a same (AndStmt s ss) way can pre h =
        each_on Facts (parts_of (into j a) s) (parts_in (j + 1) a ss)
        (stmt_facts (into j a) same s (head_leads j a (block_in j a (AndStmt s ss)) way) can pre (each_left IsGiven (parts_of (into j a) s) (parts_in (j + 1) a ss) h))
        (stmts_facts (j + 1) a same ss (tail_leads j a (block_in j a (AndStmt s ss)) way) can pre (each_right IsGiven (parts_of (into j a) s) (parts_in (j + 1) a ss) h))

    clauses_facts : (j : ℕ) (a : Around) → a.unit ≡ n → (zs : List ℤ) (seen : Bool) (cs : EflCases) → LeadsOn j a (block_of j a cs) → AreCanonical a.blocks → ArePresent a.blocks → Each IsGiven (clauses_in j a zs seen cs) →
        Each Facts (clauses_in j a zs seen cs)
    clauses_facts j a same zs seen NoCase way can pre h = tt
    clauses_facts j a same zs seen (AndCase es fallback ss p cs) way can pre h =
        let inner = in_list ss (into j a) in let rest = clauses_in (j + 1) a (zs ++ es) (seen || fallback) cs in
        let below = block_of j a (AndCase es fallback ss p cs) in (
          (same, tt),
          each_on Facts (parts_in 0 inner ss) rest
              (stmts_facts 0 inner same ss (first_leads inner (block_in 0 inner ss) (λ i r. head_leads j a below way (i ∷ r))) can pre (each_left IsGiven (parts_in 0 inner ss) rest h.1))
              (clauses_facts (j + 1) a same (zs ++ es) (seen || fallback) cs (tail_leads j a below way) can pre (each_right IsGiven (parts_in 0 inner ss) rest h.1)),
        )

  -- ---- the procedure ----

  outer_canonical : Each NoArea (declarations_in (around_unit n u) [] u.declarations) → AreCanonical (outer u)
  outer_canonical h y =
      let declared = homes [] (naming u.declarations ∷ []) (around_unit n u) [] u.declarations h in
      by_found (each_on (HasHome []) (own_variables u) (undeclared (implied_of u) (own_variables u) u.formals) declared (undeclared_homes (implied_of u) (own_variables u) u.formals)) (find_map (variable_of y) outer_variables) refl
    where
      by_found : Each (HasHome []) outer_variables → (o : Option Meaning) → find_map (variable_of y) outer_variables ≡ o → CanonicalBy y (option_or o None)
      by_found k None e = e
      by_found k (Some m) e = block_canonical [] outer_variables y refl k (Some (IsStructure NoMember)) tt (Some m) e

  body_present : Each IsGiven (declarations_in (around_unit n u) [] u.declarations) → Lists us P (part (around_unit n u) u.place (Header u.result u.formals)) → ArePresent (behind_all (outer u) u.declarations)
  body_present h head y v last =
      let entry = variable_before (meaning (outer u) y) (meaning (behind_all (outer u) u.declarations) y) v (grows_all (outer u) u.declarations y) last in
      by_found (find_map (variable_of y) outer_variables) refl entry entry
    where
      by_found : (o : Option Meaning) → find_map (variable_of y) outer_variables ≡ o → option_or o None ≡ Some (IsVariable v) → meaning (outer u) y ≡ Some (IsVariable v) → P (record { unit = n; variable = v })
      by_found None e g here = absurd (none-some (IsVariable v) g)
      by_found (Some m) e g here =
          let declared = declarations_in (around_unit n u) [] u.declarations in
          let others = undeclared (implied_of u) (own_variables u) u.formals in
          elim (declared_listed us P [] (naming u.declarations ∷ []) (around_unit n u) [] u.declarations (free declared h) (lists declared h) y v last others m e) [
            | inl w ↦ w
            | inr w ↦ formal_listed us P n (around_unit n u) u.place u.result u.formals head y v here (undeclared_named us P (implied_of u) (own_variables u) u.formals y m w)
          ]

  header_facts : (o : Option EflType) → Each Facts (header_type_groups (around_unit n u) o)
  header_facts None = tt
  header_facts (Some t) = groups_facts (among [] (around_unit n u)) refl t

  -- each part of a procedure without areas, whose listed variables are known
  pub procedure_facts : Each IsGiven (parts_by n u) → Each Facts (parts_by n u)
  procedure_facts h =
      let a = around_unit n u in
      let inner = body_around n u in
      let groups = header_type_groups a u.result in
      let declared = declarations_in a [] u.declarations in
      let body = parts_in 0 inner u.body in
      let given = each_right IsGiven groups declared (each_left IsGiven (groups ++ declared) body h.1) in
      let can = outer_canonical (free declared given) in (
        (refl, can),
        each_on Facts (groups ++ declared) body (each_on Facts groups declared (header_facts u.result) (declarations_facts a refl can [] u.declarations))
            (stmts_facts 0 inner refl u.body (first_leads inner (block_in 0 inner u.body) (λ i r. refl)) (opened_canonical (outer u) u.declarations can) (body_present given h.0.1) (each_right IsGiven (groups ++ declared) body h.1)),
      )
