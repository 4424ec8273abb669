-- The bodies of procedures, one behind the other.
use Rattle.std.proofs.Common.{◌≡◌, ◌⊎◌, inl, inr, ℕ, zero, suc, ◌+◌, true, List, [], ◌∷◌, ◌++◌, Some, Vec, Global, length, unwrap_or, refl, sym, ap, subst, ◌∙◌, arith, length-append}
use Rattle.std.specs.Borrow.{Bor}
use Rattle.std.specs.List.{slice_get}
use Rattle.std.proofs.lemmas.Option.{none-some}
use Rattle.efl_tree.specs.Syntax.{EflProcedure, EflProgram}
use Rattle.efl_scope.specs.Scopes.{naming, behind_all, outer, implied_of}
use Rattle.efl_scope.specs.Parts.{Header, part, among, declarations_in, parts_in, header_type_groups, around_unit, parts_by, parts_from, program_parts}
use Rattle.efl_scope.specs.Marks.{program_variables}
use Rattle.efl_typed.specs.Typing.{context_of}
use Rattle.efl_typed.specs.Typing as typing
use Rattle.efl_typed_tree.specs.declared.statement.TypedStmt.{TypedStmt}
use Rattle.efl_built.specs.Unbuilt.{are_built}
use Rattle.efl_variables.specs.declared.variables.Variables.{Variables}
use Rattle.efl_variables.specs.Numbered.{AreVariables}
use Rattle.efl_bindings.specs.declared.scopes.Table.{Table}
use Rattle.efl_bindings.specs.declared.scopes.Scopes.{Scopes}
use Rattle.efl_bindings.specs.declared.scopes.Scopes.TheVariants.{Outside, Inside}
use Rattle.efl_bindings.specs.declared.letters.Letters.{Letters}
use Rattle.efl_bindings.specs.declared.procedures.Procedures.{Procedures}
use Rattle.efl_bindings.specs.declared.sites.Site.{Site}
use Rattle.efl_bindings.specs.Bindings.{AreLetters, AreProcedures}
use Rattle.efl_bindings.specs.Declarations.{IsOuter}
use Rattle.efl_bindings.proofs.SiteLemmas.{IsOutermost, outer_site}
use Rattle.efl_typing.specs.Statements.{AreStatements}
use Rattle.efl_typing.specs.Bodies.{AreBodies, IsBody, IsMade, AreEach, IsAlone}
use Rattle.efl_typing.proofs.BuiltLemmas.{before_built, behind_built, rest_built, declarations_built}

-- ---- one body ----

pub alone_outermost : (n : ℕ) (t : Table) (table : Bor Table) (around : Bor Scopes) (procedures : Procedures) (letters : Letters) (variables : Variables) (scopes : Scopes) (s : Site) →
    IsAlone n procedures letters variables scopes s → scopes ≡ Inside table around → table.now ≡ t → around.now ≡ Outside → IsOutermost n t s
alone_outermost n t table around procedures letters variables scopes s at opened table_is around_is = record {
  unit = at.unit;
  place = at.place;
  table = table;
  around = around;
  scopes = at.scopes_are ∙ opened;
  table_is = table_is;
  around_is = around_is;
}

pub body_made : (n : ℕ) (u : EflProcedure) (t : Table) (procedures : Procedures) (letters : Letters) (variables : Variables) (scopes : Scopes) (s : Site) (ts : List TypedStmt) →
    IsAlone n procedures letters variables scopes s → IsOutermost n t s → AreStatements u.body s ts → IsMade n u procedures letters variables t ts
body_made n u t procedures letters variables scopes s ts at outermost typed = record {
  is = λ implied opens. record {
    is = λ p built known all.
        let a = around_unit n u in
        let shapes = header_type_groups a u.result in
        let declared = declarations_in a [] u.declarations in
        let stated = parts_in 0 (among (behind_all (outer u) u.declarations) a) u.body in
        let whole = rest_built (part a u.place (Header u.result u.formals)) (shapes ++ declared ++ stated) built in
        let quiet = declarations_built a [] u.declarations (behind_built shapes declared (before_built (shapes ++ declared) stated whole)) in
        let here = outer_site p n u t s quiet (subst (AreVariables (program_variables p)) (sym at.variables_are) all) (subst (AreProcedures p.procedures) (sym at.procedures_are) known)
        (subst (AreLetters (implied_of u)) (sym at.letters_are) (implied (naming u.declarations ∷ []) quiet))
        (subst (λ v. IsOuter n u s.letters.now v t) (sym at.variables_are) (subst (λ l. IsOuter n u l variables t) (sym at.letters_are) opens)) outermost in
        typed.are (context_of p n u) here (behind_built (shapes ++ declared) stated whole);
  };
}

-- ---- all bodies ----

-- a list with one item more
split : {X : Type 0} (xs : List X) (x y : X) (m : ℕ) → slice_get (xs ++ x ∷ []) m ≡ Some y → (slice_get xs m ≡ Some y) ⊎ ((m ≡ length xs) × (x ≡ y))
split [] x y zero h = inr (refl, ap (λ o. unwrap_or o x) h)
split [] x y (suc m) h = inl h
split (z ∷ xs) x y zero h = inl h
split (z ∷ xs) x y (suc m) h = by (split xs x y m h)
  where
    by : (slice_get xs m ≡ Some y) ⊎ ((m ≡ length xs) × (x ≡ y)) → (slice_get xs m ≡ Some y) ⊎ ((suc m ≡ length (z ∷ xs)) × (x ≡ y))
    by (inl e) = inl e
    by (inr (e, f)) = inr (omega (arith, e), f)

-- the bodies so far
pub record BodiesSo (us : List EflProcedure) (procedures : Procedures) (variables : Variables) (n : ℕ) (made : List (Vec TypedStmt Global)) : Type 0 where
  pub many : length made ≡ n
  pub each : (m : ℕ) (b : Vec TypedStmt Global) → slice_get made m ≡ Some b → (u : EflProcedure) × (slice_get us m ≡ Some u) × IsBody m u procedures variables b.items

pub bodies_begun : (us : List EflProcedure) (procedures : Procedures) (variables : Variables) → BodiesSo us procedures variables 0 []
bodies_begun us procedures variables = record { many = refl; each = λ m b is. absurd (none-some _ is) }

pub body_passed : (us : List EflProcedure) (procedures : Procedures) (variables : Variables) (n : ℕ) (u : EflProcedure) (made : List (Vec TypedStmt Global)) (body : Vec TypedStmt Global) →
    BodiesSo us procedures variables n made → slice_get us n ≡ Some u → IsBody n u procedures variables body.items → BodiesSo us procedures variables (n + 1) (made ++ body ∷ [])
body_passed us procedures variables n u made body before at is = record {
  many = length-append made (body ∷ []) ∙ ap (λ k. k + 1) before.many;
  each = λ m b there. by m b (split made body b m there);
}
  where
    by : (m : ℕ) (b : Vec TypedStmt Global) → (slice_get made m ≡ Some b) ⊎ ((m ≡ length made) × (body ≡ b)) → (v : EflProcedure) × (slice_get us m ≡ Some v) × IsBody m v procedures variables b.items
    by m b (inl e) = before.each m b e
    by m b (inr (e, f)) =
        let same = sym before.many ∙ sym e in
        (u, ap (slice_get us) (sym same) ∙ at, subst (λ k. IsBody k u procedures variables b.items) same (subst (λ x. IsBody n u procedures variables x.items) f is))

pub bodies_ended : (us : List EflProcedure) (procedures : Procedures) (variables : Variables) (n : ℕ) (made : List (Vec TypedStmt Global)) → BodiesSo us procedures variables n made → n ≡ length us →
    AreEach us procedures variables made
bodies_ended us procedures variables n made so all = record { many = so.many ∙ all; each = so.each }

-- the parts of a procedure are among those of its program
procedure_built : (n m : ℕ) (u : EflProcedure) (us : List EflProcedure) → slice_get us m ≡ Some u → are_built (parts_from n us) ≡ true → are_built (parts_by (n + m) u) ≡ true
procedure_built n m u [] is built = absurd (none-some _ is)
procedure_built n zero u (v ∷ us) is built =
    let same : n + 0 ≡ n = omega arith in
    subst (λ k. are_built (parts_by k u) ≡ true) (sym same) (subst (λ w. are_built (parts_by n w) ≡ true) (ap (λ o. unwrap_or o v) is) (before_built (parts_by n v) (parts_from (n + 1) us) built))
procedure_built n (suc m) u (v ∷ us) is built =
    let same : (n + 1) + m ≡ n + suc m = omega arith in
    subst (λ k. are_built (parts_by k u) ≡ true) same (procedure_built (n + 1) m u us is (behind_built (parts_by n v) (parts_from (n + 1) us) built))

pub bodies_made : (p : EflProgram) (procedures : Procedures) (variables : Variables) (bodies : List (Vec TypedStmt Global)) → AreEach p.procedures procedures variables bodies →
    AreProcedures p.procedures procedures → are_built (program_parts p) ≡ true → AreVariables (program_variables p) variables → AreBodies p bodies
bodies_made p procedures variables bodies all known built vars = record {
  many = all.many;
  each = λ n b is.
      let x = all.each n b is in
      let same : 0 + n ≡ n = omega arith in
      x.2.is p (subst (λ k. are_built (parts_by k x.0) ≡ true) same (procedure_built 0 n x.0 p.procedures x.1 built)) known vars ∙ sym (ap (typing.body_if p n) x.1);
}
