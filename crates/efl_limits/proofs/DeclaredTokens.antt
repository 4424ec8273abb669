-- The names that a declaration lists and uses are no more than half of its tokens.
use Rattle.std.proofs.Common.{◌≤◌, ◌+◌, ◌*◌, arith, List, [], length, length-append}
use Rattle.std.proofs.lemmas.List.{length-map}
use Rattle.std.specs.Prelude.{flat_map}
use Rattle.efl_tree.specs.Syntax.{Text, EflVar, EflGroups, EflPreset, EflDecl, EflDeclKind}
use Rattle.efl_scope.specs.Parts.{Declares, names_of}
use Rattle.efl_scope.specs.Marks.{variables_listed, variables_by}
use Rattle.efl_scope.specs.Uses.{uses_at, uses_declared}
use Rattle.rat_grammar.specs.Tokens.{Tokens, Listed}
use Rattle.efl_grammar.specs.Declarations.{Bound, Var, Vars, Groups, Preset, Declaration, OuterDeclaration, Decl}
use Rattle.efl_grammar.specs.Declarations as d
use Rattle.efl_limits.proofs.Tokens.{one, word, name, lines, stop, any_stop, shape_stop, listed}
use Rattle.efl_limits.proofs.DeclarationTokens.{var, type_taken, shape_type, shape, const, many, common_name, implicit}
use Rattle.efl_limits.proofs.UseTokens.{Even, Odd, place}

vars : {a b : Tokens} {vs : List EflVar} → Vars a b vs → Odd vs a b
vars (Listed.last q) = omega (arith, var q)
vars (Listed.comma q o rest) = omega (arith, var q, one o, vars rest)

groups : {a b : Tokens} {gs : EflGroups} → Groups a b gs → Even (variables_listed gs) a b
groups d.no_group = omega arith
groups (d.group {vs = vs} {gs = gs} l t q st rest) =
    omega (arith, lines l, type_taken t, vars q, stop st, groups rest, length-append (names_of vs) (variables_listed gs), length-map vs (λ v. v.name))

preset : {a b : Tokens} {x : EflPreset} → Preset a b x → Even (uses_at x.place) a b
preset (Preset.one q o k) = omega (arith, place q, one o, const k)
preset (Preset.several q o i ms k) = omega (arith, place q, one o, one i, listed (λ a b x. many) ms, one k)

presets : {a b : Tokens} {ps : List EflPreset} → Listed Preset a b ps → Even (flat_map (λ p. uses_at p.place) ps) a b
presets (Listed.last {x = x} q) = omega (arith, preset q, length-append (uses_at x.place) [])
presets (Listed.comma {x = x} {xs = xs} q o rest) = omega (arith, preset q, one o, presets rest, length-append (uses_at x.place) (flat_map (λ p. uses_at p.place) xs))

abbrev pub OfDeclared : EflDeclKind → Tokens → Tokens → Type 0
OfDeclared k a b = (before : List Text) → 2 * (length (variables_by (Declares before k)) + length (uses_declared k)) + length b ≤ length a

declaration : {a b : Tokens} {k : EflDeclKind} → Declaration a b k → OfDeclared k a b
declaration (Declaration.variables {vs = vs} t q st) = λ before. omega (arith, type_taken t, vars q, stop st, length-map vs (λ v. v.name))
declaration (Declaration.initial w q st) = λ before. omega (arith, word w, presets q, stop st)
declaration (Declaration.structure w y q st) = λ before. omega (arith, word w, name y, shape q, shape_stop st)

outer_declaration : {a b : Tokens} {k : EflDeclKind} → OuterDeclaration a b k → OfDeclared k a b
outer_declaration (OuterDeclaration.declaration q) = declaration q
outer_declaration (OuterDeclaration.implicit rs t st) = λ before. omega (arith, implicit rs, type_taken t, stop st)
outer_declaration (OuterDeclaration.implicit_shape rs t st) = λ before. omega (arith, implicit rs, shape_type t, shape_stop st)
outer_declaration (OuterDeclaration.common {vs = vs} x t q st) = λ before. omega (arith, common_name x, type_taken t, vars q, stop st, length-map vs (λ v. v.name))
outer_declaration (OuterDeclaration.common_list x o gs l k st) = λ before. omega (arith, common_name x, one o, groups gs, lines l, one k, any_stop st)

pub inner : (a b : Tokens) (x : EflDecl) → Decl Declaration a b x → OfDeclared x.kind a b
inner a b x (Decl.decl l q) = λ before. omega (arith, lines l, declaration q before)

pub outer : (a b : Tokens) (x : EflDecl) → Decl OuterDeclaration a b x → OfDeclared x.kind a b
outer a b x (Decl.decl l q) = λ before. omega (arith, lines l, outer_declaration q before)
