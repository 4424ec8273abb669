-- Sites of the parts of statements and blocks.
use Rattle.std.proofs.Common.{◌≡◌, ℕ, true, List, [], ◌∷◌, ◌++◌, Option, Some, None, refl, sym, ap, subst, ◌∙◌}
use Rattle.std.specs.Borrow.{Bor}
use Rattle.std.specs.Option.{option_or}
use Rattle.rule_table.specs.Words.{find_map}
use Rattle.efl_tree.specs.declared.statement.LoopKind.{LoopKind}
use Rattle.efl_tree.specs.Syntax.{Text, EflStmts, EflDecl, EflProcedure, EflProgram}
use Rattle.efl_scope.specs.Scopes.{Variable, Blocks, Meaning, meaning, variable_of, declared_in, naming, block_with, entering, outer, own_variables, undeclared, implied_of}
use Rattle.efl_scope.specs.Parts.{in_loop, in_list}
use Rattle.efl_scope.specs.Marks.{Located, program_variables}
use Rattle.efl_scoped.specs.Seen.{table_of}
use Rattle.efl_typed.specs.Typing.{Context, within, context_of}
use Rattle.efl_typed_tree.specs.declared.expression.Scalar.{Scalar}
use Rattle.efl_variables.specs.Keys.{list_number}
use Rattle.efl_variables.specs.Numbered.{AreVariables}
use Rattle.efl_bindings.specs.declared.scopes.Table.{Table}
use Rattle.efl_bindings.specs.declared.scopes.Scopes.{Scopes}
use Rattle.efl_bindings.specs.declared.scopes.Scopes.TheVariants.{Outside, Inside}
use Rattle.efl_bindings.specs.declared.homes.Home.{Home}
use Rattle.efl_bindings.specs.declared.sites.Site.{Site}
use Rattle.efl_bindings.specs.Bindings.{IsMeant, scalar_in, scalar_for, AreScalars, AreLetters, AreProcedures}
use Rattle.efl_bindings.specs.Sites.{IsSite, OpensTo, are_built}
use Rattle.efl_bindings.specs.Declarations.{AreDeclared, IsOuter}
use Rattle.efl_bindings.proofs.BuiltLemmas.{all_quiet}

-- the names of what is around
pub around_scalars : (c : Context) (s : Site) → IsSite c s → (x : Text) → IsMeant c.variables c.around.unit (meaning c.around.blocks x) (scalar_for s.scopes.now x)
around_scalars c s is x = subst (λ bs. IsMeant c.variables c.around.unit (meaning bs x) (scalar_for s.scopes.now x)) is.blocks (is.scalars x)

pub in_loop_site : (k : LoopKind) (c : Context) (s : Site) → IsSite c s → IsSite (within c (in_loop k c.around)) s
in_loop_site k c s is = record {
  unit = is.unit;
  blocks = refl;
  place = is.place;
  variables = is.variables;
  scalars = around_scalars c s is;
  letters = is.letters;
  procedures = is.procedures;
}

pub in_list_site : (ss : EflStmts) (c : Context) (s : Site) → IsSite c s → IsSite (within c (in_list ss c.around)) s
in_list_site ss c s is = record {
  unit = is.unit;
  blocks = refl;
  place = is.place;
  variables = is.variables;
  scalars = around_scalars c s is;
  letters = is.letters;
  procedures = is.procedures;
}

-- ---- blocks ----

meant_or : (xs : List Located) (n : ℕ) (m p : Option Meaning) (o q : Option Scalar) → IsMeant xs n m o → IsMeant xs n p q → IsMeant xs n (option_or m p) (option_or o q)
meant_or xs n None p None q is later = later
meant_or xs n (Some m) p (Some s) q is later = is
meant_or xs n None p (Some s) q is later = absurd is
meant_or xs n (Some m) p None q is later = absurd is

inside_is : (t : Bor Table) (o : Bor Scopes) (x : Text) → scalar_for (Inside t o) x ≡ option_or (scalar_in t.now x) (scalar_for o.now x)
inside_is t o x = refl

-- an inner block goes before those around
inner_scalars : (xs : List Located) (n : ℕ) (vs : List Variable) (bs : Blocks) (t : Bor Table) (o : Bor Scopes) → AreScalars xs n vs t.now →
    ((x : Text) → IsMeant xs n (meaning bs x) (scalar_for o.now x)) → (x : Text) → IsMeant xs n (meaning (block_with vs ∷ bs) x) (scalar_for (Inside t o) x)
inner_scalars xs n vs bs t o own around x =
    subst (IsMeant xs n (meaning (block_with vs ∷ bs) x)) (sym (inside_is t o x))
    (meant_or xs n (find_map (variable_of x) vs) (meaning bs x) (scalar_in t.now x) (scalar_for o.now x) (own x) (around x))

pub opened_to : (ds : List EflDecl) (s : Site) (h : Home) (t : Table) → h.unit ≡ s.unit → h.place ≡ s.place → h.variables.now ≡ s.variables.now → AreDeclared h ds t → OpensTo ds s t
opened_to ds s h t same_unit same_place same_variables declared c inner is built inside = record {
  unit = inside.unit ∙ is.unit;
  blocks = refl;
  place = ap (λ v. list_number (table_of v.numbers) c.around.position) inside.variables ∙ is.place ∙ sym inside.place;
  variables = subst (AreVariables c.variables) (sym inside.variables) is.variables;
  scalars = λ x.
      subst (λ bs. IsMeant c.variables c.around.unit (meaning bs x) (scalar_for inner.scopes.now x)) (sym (all_quiet (entering c.around.position ds c.around.blocks) ds built))
      (subst (λ o. IsMeant c.variables c.around.unit (meaning (entering c.around.position ds c.around.blocks) x) (scalar_for o x)) (sym inside.scopes)
      (inner_scalars c.variables c.around.unit own c.around.blocks inside.table inside.around owned around x));
  letters = subst (AreLetters c.names.implied) (sym inside.letters) is.letters;
  procedures = subst (AreProcedures c.procedures) (sym inside.procedures) is.procedures;
}
  where
    own : List Variable
    own = declared_in c.around.position (naming ds ∷ c.around.blocks) ds

    numbered : list_number (table_of h.variables.now.numbers) c.around.position ≡ h.place
    numbered = ap (λ v. list_number (table_of v.numbers) c.around.position) same_variables ∙ is.place ∙ sym same_place

    owned : AreScalars c.variables c.around.unit own inside.table.now
    owned =
        subst (AreScalars c.variables c.around.unit own) (sym inside.table_is)
        (subst (λ n. AreScalars c.variables n own t) (same_unit ∙ is.unit)
        (declared c.variables c.around.position (naming ds ∷ c.around.blocks) (record { variables = subst (AreVariables c.variables) (sym same_variables) is.variables; numbered = numbered }) built))

    around : (x : Text) → IsMeant c.variables c.around.unit (meaning c.around.blocks x) (scalar_for inside.around.now x)
    around x = subst (λ o. IsMeant c.variables c.around.unit (meaning c.around.blocks x) (scalar_for o x)) (sym inside.around_is) (around_scalars c s is x)

-- ---- procedures ----

-- the site of the body of a procedure: the first place, the outer block, and none around
pub record IsOutermost (n : ℕ) (t : Table) (s : Site) : Type 0 where
  pub unit : s.unit ≡ n
  pub place : s.place ≡ Some 0
  pub table : Bor Table
  pub around : Bor Scopes
  pub scopes : s.scopes.now ≡ Inside table around
  pub table_is : table.now ≡ t
  pub around_is : around.now ≡ Outside

pub outer_site : (p : EflProgram) (n : ℕ) (u : EflProcedure) (t : Table) (s : Site) → are_built u.declarations ≡ true → AreVariables (program_variables p) s.variables.now →
    AreProcedures p.procedures s.procedures.now → AreLetters (implied_of u) s.letters.now → IsOuter n u s.letters.now s.variables.now t → IsOutermost n t s → IsSite (context_of p n u) s
outer_site p n u t s built variables procedures letters opens at = record {
  unit = at.unit;
  blocks = refl;
  place = sym at.place;
  variables = variables;
  scalars = λ x.
      subst (λ bs. IsMeant xs n (meaning bs x) (scalar_for s.scopes.now x)) (sym (all_quiet (outer u) u.declarations built))
      (subst (λ o. IsMeant xs n (meaning (outer u) x) (scalar_for o x)) (sym at.scopes) (inner_scalars xs n own [] at.table at.around owned around x));
  letters = letters;
  procedures = procedures;
}
  where
    xs : List Located
    xs = program_variables p

    own : List Variable
    own = own_variables u ++ undeclared (implied_of u) (own_variables u) u.formals

    owned : AreScalars xs n own at.table.now
    owned = subst (AreScalars xs n own) (sym at.table_is) (opens xs variables built letters)

    around : (x : Text) → IsMeant xs n None (scalar_for at.around.now x)
    around x = subst (λ o. IsMeant xs n None (scalar_for o x)) (sym at.around_is) tt
