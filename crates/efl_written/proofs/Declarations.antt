-- The names of variables that a declaration of written tokens lists are capitals and digits, and so are those of the variables that its
-- initial values use.
use Rattle.std.proofs.Common.{ℕ, List}
use Rattle.efl_tree.specs.declared.declaration.EflBound.{EflBound}
use Rattle.efl_tree.specs.declared.declaration.EflConst.{EflConst}
use Rattle.efl_tree.specs.Syntax.{Text, EflVar, EflType, EflGroups, EflPreset, EflDeclKind}
use Rattle.efl_scope.specs.Parts.{Declares, names_of}
use Rattle.efl_scope.specs.Marks.{variables_listed, variables_by}
use Rattle.efl_scope.specs.Uses.{uses_at, uses_declared}
use Rattle.rat_grammar.specs.Tokens.{Tokens}
use Rattle.efl_grammar.specs.Declarations.{Bound, Var, Vars, BaseType, NamedType, AType, ShapeType, Shape, Groups, Const, Many, Preset, Range, Declaration, CommonName, ImplicitRanges, OuterDeclaration, Decl}
use Rattle.efl_grammar.specs.Declarations as d
use Rattle.efl_typed.proofs.Each.{Each}
use Rattle.efl_lowered.proofs.TypedChecks.{each_on}
use Rattle.efl_lowered.proofs.TypedVariables.{each_joined, each_mapped}
use Rattle.efl_written.proofs.Tokens.{AreWritten, Capitals, past, past_word, past_lines, past_stop, past_any_stop, past_shape_stop, past_natural, past_whole, name, Gives, Nothing, listed}
use Rattle.efl_written.proofs.Expressions.{Met, place}

-- ---- variables ----

past_bound : {a b : Tokens} {x : EflBound} → Bound a b x → AreWritten a → AreWritten b
past_bound (Bound.whole q) h = past_whole q h
past_bound (d.star o) h = past o h
past_bound (d.wholes q o r) h = past_whole r (past o (past_whole q h))
past_bound (d.whole_star q o r) h = past r (past o (past_whole q h))

var : {a b : Tokens} {v : EflVar} → Var a b v → AreWritten a → Capitals v.name × AreWritten b
var (Var.name y) h = name y h
var (d.bounded y o bs c) h =
    let n = name y h in
    let l = listed Nothing (λ a b x q k. (tt, past_bound q k)) bs (past o n.1) in
    (n.0, past c l.1)

vars : {a b : Tokens} {vs : List EflVar} → Vars a b vs → AreWritten a → Each Capitals (names_of vs) × AreWritten b
vars {vs = vs} q h =
    let l = listed (λ v. Capitals v.name) (λ a b x. var) q h in
    (each_mapped Capitals (λ v. v.name) vs l.0, l.1)

-- ---- types ----

past_base : {a b : Tokens} {t : EflType} → BaseType a b t → AreWritten a → AreWritten b
past_base (d.integer w) h = past_word w h
past_base (d.logical w) h = past_word w h
past_base (d.real w) h = past_word w h
past_base (d.complex w) h = past_word w h
past_base (d.long_real w v) h = past_word v (past_word w h)
past_base (d.long_complex w v) h = past_word v (past_word w h)

past_named : {a b : Tokens} {t : EflType} → NamedType a b t → AreWritten a → AreWritten b
past_named (NamedType.name y) h = (name y h).1
past_named (d.struct w y) h = (name y (past_word w h)).1

mutual
  pub past_type : {a b : Tokens} {t : EflType} → AType a b t → AreWritten a → AreWritten b
  past_type (d.base q) h = past_base q h
  past_type (d.named q) h = past_named q h
  past_type (d.shaped q) h = past_shaped q h

  past_shaped : {a b : Tokens} {t : EflType} → ShapeType a b t → AreWritten a → AreWritten b
  past_shaped (d.nameless w q) h = past_shape q (past_word w h)
  past_shaped (d.structured w y q) h = past_shape q (name y (past_word w h)).1

  past_shape : {a b : Tokens} {gs : EflGroups} → Shape a b gs → AreWritten a → AreWritten b
  past_shape (d.shape o q l c) h = past c (past_lines l (groups q (past o h)).1)

  groups : {a b : Tokens} {gs : EflGroups} → Groups a b gs → AreWritten a → Each Capitals (variables_listed gs) × AreWritten b
  groups d.no_group h = (tt, h)
  groups (d.group l t vs s rest) h =
      let v = vars vs (past_type t (past_lines l h)) in
      let r = groups rest (past_stop s v.1) in
      (each_on Capitals _ _ v.0 r.0, r.1)

-- ---- initial values ----

past_const : {a b : Tokens} {k : EflConst} → Const a b k → AreWritten a → AreWritten b
past_const (Const.whole q) h = past_whole q h
past_const (d.truth w) h = past_word w h
past_const (d.falsehood w) h = past_word w h

past_many : {a b : Tokens} {m : ℕ × EflConst} → Many a b m → AreWritten a → AreWritten b
past_many (d.once q) h = past_const q h
past_many (d.repeated n o q) h = past_const q (past o (past_natural n h))

preset : {a b : Tokens} {p : EflPreset} → Preset a b p → AreWritten a → Each Met (uses_at p.place) × AreWritten b
preset (Preset.one q o k) h = let l = place q h in (l.0.1, past_const k (past o l.1))
preset (d.several q o p ms c) h =
    let l = place q h in
    let m = listed Nothing (λ a b x q k. (tt, past_many q k)) ms (past p (past o l.1)) in
    (l.0.1, past c m.1)

-- ---- declarations ----

-- before whatever names
abbrev pub OfDeclared : EflDeclKind → Type 0
OfDeclared k = (before : List Text) → Each Capitals (variables_by (Declares before k)) × Each Met (uses_declared k)

declaration : {a b : Tokens} {k : EflDeclKind} → Declaration a b k → AreWritten a → OfDeclared k × AreWritten b
declaration (d.variables t vs s) h = let v = vars vs (past_type t h) in ((λ before. (v.0, tt)), past_stop s v.1)
declaration (d.initial {ps = ps} w q s) h =
    let l = listed (λ p. Each Met (uses_at p.place)) (λ a b x. preset) q (past_word w h) in
    ((λ before. (tt, each_joined Met (λ p. uses_at p.place) ps l.0)), past_stop s l.1)
declaration (d.structure w y q s) h = ((λ before. (tt, tt)), past_shape_stop s (past_shape q (name y (past_word w h)).1))

past_common : {a b : Tokens} {x : Text} → CommonName a b x → AreWritten a → AreWritten b
past_common (CommonName.common w o y c) h = past c (name y (past o (past_word w h))).1

past_range : {a b : Tokens} {r : ℕ × ℕ} → Range a b r → AreWritten a → AreWritten b
past_range (Range.one y) h = (name y h).1
past_range (d.both y o z) h = (name z (past o (name y h).1)).1

past_ranges : {a b : Tokens} {rs : List (ℕ × ℕ)} → ImplicitRanges a b rs → AreWritten a → AreWritten b
past_ranges (ImplicitRanges.implicit w o rs c) h = past c (listed Nothing (λ a b x q k. (tt, past_range q k)) rs (past o (past_word w h))).1

outer_declaration : {a b : Tokens} {k : EflDeclKind} → OuterDeclaration a b k → AreWritten a → OfDeclared k × AreWritten b
outer_declaration (d.declaration q) h = declaration q h
outer_declaration (OuterDeclaration.implicit rs t s) h = ((λ before. (tt, tt)), past_stop s (past_type t (past_ranges rs h)))
outer_declaration (d.implicit_shape rs t s) h = ((λ before. (tt, tt)), past_shape_stop s (past_shaped t (past_ranges rs h)))
outer_declaration (OuterDeclaration.common q t vs s) h = let v = vars vs (past_type t (past_common q h)) in ((λ before. (v.0, tt)), past_stop s v.1)
outer_declaration (d.common_list q o gs l c s) h =
    let g = groups gs (past o (past_common q h)) in
    ((λ before. (g.0, tt)), past_any_stop s (past c (past_lines l g.1)))

placed : {Kind : Tokens → Tokens → EflDeclKind → Type 0} → Gives Kind OfDeclared → Gives (Decl Kind) (λ x. OfDeclared x.kind)
placed f a b x (d.decl l q) h = f _ _ _ q (past_lines l h)

-- of a block, and of a procedure
pub inner : Gives (Decl Declaration) (λ x. OfDeclared x.kind)
inner = placed (λ a b x. declaration)

pub outer : Gives (Decl OuterDeclaration) (λ x. OfDeclared x.kind)
outer = placed (λ a b x. outer_declaration)
