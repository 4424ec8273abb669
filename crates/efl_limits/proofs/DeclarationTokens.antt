-- Types and declarations take no tokens off those that stand behind them.
use Rattle.std.proofs.Common.{ℕ, arith, List}
use Rattle.efl_tree.specs.Syntax.{Text, EflPlace, EflType, EflGroups, EflDecl, EflDeclKind, EflVar, EflPreset}
use Rattle.efl_tree.specs.declared.declaration.EflBound.{EflBound}
use Rattle.efl_tree.specs.declared.declaration.EflConst.{EflConst}
use Rattle.rat_grammar.specs.Tokens.{Tokens}
use Rattle.efl_grammar.specs.Expressions.{Place}
use Rattle.efl_grammar.specs.Declarations.{Bound, Var, BaseType, NamedType, AType, ShapeType, Shape, Groups, Const, Many, Preset, Range, Declaration, CommonName, ImplicitRanges, OuterDeclaration, Decl}
use Rattle.efl_grammar.specs.Declarations as d
use Rattle.efl_typed.specs.Typing.{Context}
use Rattle.efl_limits.proofs.ExpressionTokens.{place}
use Rattle.efl_limits.proofs.Tokens.{Before, one, word, name, lines, stop, any_stop, shape_stop, listed, natural, whole}

pub bound : {a b : Tokens} {x : EflBound} → Bound a b x → Before 0 a b
bound (Bound.whole q) = omega (arith, whole q)
bound (Bound.star o) = omega (arith, one o)
bound (d.wholes q o r) = omega (arith, whole q, one o, whole r)
bound (d.whole_star q o r) = omega (arith, whole q, one o, one r)

pub var : {a b : Tokens} {x : EflVar} → Var a b x → Before 1 a b
var (Var.name y) = name y
var (d.bounded y o bs k) = omega (arith, name y, one o, listed (λ a b x. bound) bs, one k)

one_var : {a b : Tokens} {x : EflVar} → Var a b x → Before 0 a b
one_var q = omega (arith, var q)

base : {a b : Tokens} {t : EflType} → BaseType a b t → Before 1 a b
base (BaseType.integer w) = word w
base (BaseType.logical w) = omega (arith, word w)
base (BaseType.real w) = omega (arith, word w)
base (BaseType.complex w) = omega (arith, word w)
base (d.long_real w v) = omega (arith, word w, word v)
base (d.long_complex w v) = omega (arith, word w, word v)

named : {a b : Tokens} {t : EflType} → NamedType a b t → Before 1 a b
named (NamedType.name y) = omega (arith, name y)
named (NamedType.struct w y) = omega (arith, word w, name y)

mutual
  pub type_taken : {a b : Tokens} {t : EflType} → AType a b t → Before 1 a b
  type_taken (AType.base q) = base q
  type_taken (AType.named q) = named q
  type_taken (d.shaped q) = shape_type q

  pub shape_type : {a b : Tokens} {t : EflType} → ShapeType a b t → Before 1 a b
  shape_type (d.nameless w q) = omega (arith, word w, shape q)
  shape_type (d.structured w y q) = omega (arith, word w, name y, shape q)

  pub shape : {a b : Tokens} {gs : EflGroups} → Shape a b gs → Before 0 a b
  shape (Shape.shape o gs l k) = omega (arith, one o, groups gs, lines l, one k)

  pub groups : {a b : Tokens} {gs : EflGroups} → Groups a b gs → Before 0 a b
  groups d.no_group = omega arith
  groups (d.group l t vs st rest) = omega (arith, lines l, type_taken t, listed (λ a b x. one_var) vs, stop st, groups rest)

pub const : {a b : Tokens} {x : EflConst} → Const a b x → Before 0 a b
const (Const.whole q) = omega (arith, whole q)
const (Const.truth w) = omega (arith, word w)
const (Const.falsehood w) = omega (arith, word w)

pub many : {a b : Tokens} {x : ℕ × EflConst} → Many a b x → Before 0 a b
many (Many.once q) = const q
many (Many.repeated n o q) = omega (arith, natural n, one o, const q)

pub common_name : {a b : Tokens} {x : Text} → CommonName a b x → Before 0 a b
common_name (CommonName.common w o y k) = omega (arith, word w, one o, name y, one k)

range : {a b : Tokens} {x : ℕ × ℕ} → Range a b x → Before 0 a b
range (Range.one y) = omega (arith, name y)
range (Range.both y o z) = omega (arith, name y, one o, name z)

pub implicit : {a b : Tokens} {rs : List (ℕ × ℕ)} → ImplicitRanges a b rs → Before 0 a b
implicit (ImplicitRanges.implicit w o rs k) = omega (arith, word w, one o, listed (λ a b x. range) rs, one k)

-- in whatever context
module _ (c : Context) where
  place_taken : {a b : Tokens} {x : EflPlace} → Place a b x → Before 0 a b
  place_taken q = omega (arith, place c q)

  preset : {a b : Tokens} {x : EflPreset} → Preset a b x → Before 0 a b
  preset (Preset.one q o k) = omega (arith, place_taken q, one o, const k)
  preset (Preset.several q o i ms k) = omega (arith, place_taken q, one o, one i, listed (λ a b x. many) ms, one k)

  declaration : {a b : Tokens} {x : EflDeclKind} → Declaration a b x → Before 0 a b
  declaration (Declaration.variables t vs st) = omega (arith, type_taken t, listed (λ a b x. one_var) vs, stop st)
  declaration (Declaration.initial w ps st) = omega (arith, word w, listed (λ a b x. preset) ps, stop st)
  declaration (Declaration.structure w y q st) = omega (arith, word w, name y, shape q, shape_stop st)

  outer_declaration : {a b : Tokens} {x : EflDeclKind} → OuterDeclaration a b x → Before 0 a b
  outer_declaration (OuterDeclaration.declaration q) = declaration q
  outer_declaration (OuterDeclaration.implicit rs t st) = omega (arith, implicit rs, type_taken t, stop st)
  outer_declaration (OuterDeclaration.implicit_shape rs t st) = omega (arith, implicit rs, shape_type t, shape_stop st)
  outer_declaration (OuterDeclaration.common x t vs st) = omega (arith, common_name x, type_taken t, listed (λ a b x. one_var) vs, stop st)
  outer_declaration (OuterDeclaration.common_list x o gs l k st) = omega (arith, common_name x, one o, groups gs, lines l, one k, any_stop st)

  pub inner : (a b : Tokens) (x : EflDecl) → Decl Declaration a b x → Before 0 a b
  inner a b x (Decl.decl l q) = omega (arith, lines l, declaration q)

  pub outer : (a b : Tokens) (x : EflDecl) → Decl OuterDeclaration a b x → Before 0 a b
  outer a b x (Decl.decl l q) = omega (arith, lines l, outer_declaration q)
