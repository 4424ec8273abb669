-- What the productions of expressions, acts, types and declarations make of their parts.
use Rattle.std.specs.Prelude.{◌++◌, true, false, None, Some, List, [], ◌∷◌}
use Rattle.efl_tree.specs.declared.declaration.EflConst.TheVariants as constants
use Rattle.efl_tree.specs.Syntax.{Int, Truth, Group, Not, NoExpr, AndExpr, Path, NoStep, Member, Overlay, Named, Shape, NoGroup, Initial, Variables}
use Rattle.efl_parse_table.specs.declared.table.Production.{Production}
use Rattle.efl_parse_table.specs.declared.table.Production.TheVariants as productions
use Rattle.efl_parse_values.specs.Kinds.{Called, Reached, Stored}
use Rattle.efl_parse_values.specs.Values.{Val, last_of, at, nothing, expr, exprs, joins, rest, path, steps, located, integer, upper, range, ranges, typed, bound, bounds, var, vars, group, groups, outline, constant, datum, data_list, preset_values, preset, presets, declared, declaration}
use Rattle.efl_parse_values.specs.Parts.{nowhere, place_in, name_in, letter_in, letter_part, integer_in, sign_in, is_true, operator_of, as_expr, as_exprs, as_joins, bare, as_rest, as_path, as_steps, range_in, as_ranges, upper_part, type_in, bound_in, as_bounds, var_in, as_vars, with_group, as_groups, groups_part, outline_groups, constant_in, constant_part, datum_in, as_data, is_listed, preset_in, as_presets, decl_in}
use Rattle.efl_parse_expressions.specs.Phrases.{joined, joint, with_steps, with_arguments, completed, signed_expr, stepped}
use Rattle.efl_parse_expressions.specs.Declared.{signed, plain_type, type_named, outlined, bounded, letters, counted}

-- Parts are counted from the last one, from 0. Each table leaves the productions that it does not list to the one above it,
-- and the first of them gives what the last part does.

-- declarations
unfoldable pub build_declarations : Production → List Val → Val
build_declarations productions.BaseDeclaration vs = declaration (place_in (at 2 vs)) (Variables None (type_in (at 2 vs)) (as_vars (at 1 vs)))
build_declarations productions.StructDeclaration vs = declaration (place_in (at 1 vs)) (decl_in (at 0 vs))
build_declarations productions.InitialDeclaration vs = declaration (place_in (at 3 vs)) (Initial (preset_in (at 2 vs) ∷ as_presets (at 1 vs)))
build_declarations productions.ShapeVariables vs = declared (Variables None (Shape None (as_groups (at 2 vs))) (as_vars (at 1 vs)))
build_declarations productions.StructNamed vs = declared (outlined (name_in (at 1 vs)) (outline_groups (at 0 vs)) (as_vars (at 0 vs)))
build_declarations productions.StructVariables vs = outline None (as_vars (at 1 vs))
build_declarations productions.StructShape vs = outline (Some (as_groups (at 1 vs))) (as_vars (at 0 vs))
build_declarations productions.ShapeAndVariables vs = at 1 vs
build_declarations productions.ShapeAlone vs = vars []
build_declarations productions.CommonList vs = at 2 vs
build_declarations productions.Range vs = range (letters (letter_in (at 1 vs)) (letter_part (at 0 vs)))
build_declarations productions.NoEnd vs = nothing
build_declarations productions.MoreRange vs = ranges (range_in (at 1 vs) ∷ as_ranges (at 0 vs))
build_declarations productions.NoMoreRange vs = ranges []
build_declarations productions.Preset vs = preset (record { place = as_path (at 2 vs); values = as_data (at 0 vs); listed = is_listed (at 0 vs) })
build_declarations productions.OneValue vs = preset_values false ((1, constant_in (at 0 vs)) ∷ [])
build_declarations productions.ListedValues vs = preset_values true (datum_in (at 2 vs) ∷ as_data (at 1 vs))
build_declarations productions.MorePreset vs = presets (preset_in (at 1 vs) ∷ as_presets (at 0 vs))
build_declarations productions.NoMorePreset vs = presets []
build_declarations productions.NumberMany vs = datum (counted (at 1 vs) (constant_part (at 0 vs))).0 (counted (at 1 vs) (constant_part (at 0 vs))).1
build_declarations productions.OtherMany vs = datum 1 (constant_in (at 0 vs))
build_declarations productions.MoreMany vs = data_list (datum_in (at 1 vs) ∷ as_data (at 0 vs))
build_declarations productions.NoMoreMany vs = data_list []
build_declarations productions.Once vs = nothing
build_declarations productions.NumberConstant vs = constant (constants.Int (integer_in (at 0 vs)))
build_declarations productions.SignedConstant vs = constant (constants.Int (signed (at 1 vs) (integer_in (at 0 vs))))
build_declarations productions.TruthConstant vs = constant (constants.Truth (is_true (at 0 vs)))
build_declarations _ vs = last_of vs

-- types and variables
unfoldable pub build_types : Production → List Val → Val
build_types productions.ImplicitBase vs = at 1 vs
build_types productions.ImplicitName vs = typed (place_in (at 1 vs)) (Named (name_in (at 1 vs)))
build_types productions.ImplicitStruct vs = typed (place_in (at 1 vs)) (type_in (at 0 vs))
build_types productions.ImplicitShape vs = typed nowhere (Shape None (as_groups (at 1 vs)))
build_types productions.ImplicitStructName vs = typed (place_in (at 1 vs)) (type_named (name_in (at 1 vs)) (groups_part (at 0 vs)))
build_types productions.ImplicitNamedShape vs = at 1 vs
build_types productions.ImplicitBare vs = nothing
build_types productions.NamedType vs = typed (place_in (at 0 vs)) (Named (name_in (at 0 vs)))
build_types productions.StructType vs = typed (place_in (at 1 vs)) (type_in (at 0 vs))
build_types productions.NamelessShape vs = typed nowhere (Shape None (as_groups (at 0 vs)))
build_types productions.StructTypeName vs = typed (place_in (at 1 vs)) (type_named (name_in (at 1 vs)) (groups_part (at 0 vs)))
build_types productions.NoShape vs = nothing
build_types productions.PlainType vs = typed (place_in (at 0 vs)) (plain_type (at 0 vs) false)
build_types productions.FloatingType vs = typed (place_in (at 0 vs)) (plain_type (at 0 vs) false)
build_types productions.LongType vs = typed (place_in (at 1 vs)) (plain_type (at 0 vs) true)
build_types productions.Shape vs = at 1 vs
build_types productions.MoreGroups vs = groups (with_group (at 1 vs) (as_groups (at 0 vs)))
build_types productions.NoGroup vs = groups NoGroup
build_types productions.Group vs = group (type_in (at 2 vs)) (as_vars (at 1 vs)) (place_in (at 2 vs))
build_types productions.Variables vs = vars (var_in (at 1 vs) ∷ as_vars (at 0 vs))
build_types productions.MoreVariable vs = vars (var_in (at 1 vs) ∷ as_vars (at 0 vs))
build_types productions.NoMoreVariable vs = vars []
build_types productions.Variable vs = var (record { name = name_in (at 1 vs); bounds = as_bounds (at 0 vs) })
build_types productions.SomeBounds vs = bounds (bound_in (at 2 vs) ∷ as_bounds (at 1 vs))
build_types productions.NoBounds vs = bounds []
build_types productions.MoreBound vs = bounds (bound_in (at 1 vs) ∷ as_bounds (at 0 vs))
build_types productions.NoMoreBound vs = bounds []
build_types productions.StarBound vs = bound (record { low = None; high = None })
build_types productions.WholeBound vs = bound (bounded (integer_in (at 1 vs)) (upper_part (at 0 vs)))
build_types productions.NoUpper vs = nothing
build_types productions.WholeUpper vs = upper (Some (integer_in (at 0 vs)))
build_types productions.StarUpper vs = upper None
build_types productions.SignedIntegral vs = integer (signed (at 1 vs) (integer_in (at 0 vs)))
build_types productions.PlainIntegral vs = integer (integer_in (at 0 vs))
build_types p vs = build_declarations p vs

-- acts, and operands that begin with a name
unfoldable pub build_acts : Production → List Val → Val
build_acts productions.ExprPlace vs = rest (with_steps (as_steps (at 1 vs)) (as_rest (at 0 vs)))
build_acts productions.ExprEmpty vs = rest (bare (Called (as_joins (at 1 vs) ++ as_joins (at 0 vs))))
build_acts productions.ExprFull vs = rest (with_arguments (as_exprs (at 3 vs)) (with_steps (as_steps (at 1 vs)) (as_rest (at 0 vs))))
build_acts productions.ExprJoined vs = rest (bare (Reached (as_joins (at 1 vs) ++ as_joins (at 0 vs))))
build_acts productions.PrimePlace vs = rest (with_steps (as_steps (at 0 vs)) (bare (Reached [])))
build_acts productions.PrimeEmpty vs = rest (bare (Called []))
build_acts productions.PrimeFull vs = rest (with_arguments (as_exprs (at 2 vs)) (with_steps (as_steps (at 0 vs)) (bare (Reached []))))
build_acts productions.DeedPlace vs = rest (with_steps (as_steps (at 1 vs)) (as_rest (at 0 vs)))
build_acts productions.DeedEmpty vs = rest (bare (Called []))
build_acts productions.DeedFull vs = rest (with_arguments (as_exprs (at 2 vs)) (as_rest (at 0 vs)))
build_acts productions.DeedStored vs = rest (with_steps (as_steps (at 1 vs)) (as_rest (at 0 vs)))
build_acts productions.DeedCalled vs = rest (bare (Called []))
build_acts productions.StepDeed vs = located (place_in (at 1 vs)) (stepped (at 1 vs) (as_path (at 0 vs)))
build_acts productions.PlainStoring vs = rest (bare (Stored None (as_expr (at 0 vs))))
build_acts productions.OperatorStoring vs = rest (bare (Stored (Some (operator_of (sign_in (at 1 vs)))) (as_expr (at 0 vs))))
build_acts productions.NamedPart vs = expr (completed (name_in (at 1 vs)) (as_rest (at 0 vs)))
build_acts productions.NoPart vs = nothing
build_acts productions.NoWhole vs = nothing
build_acts productions.NoStep vs = nothing
build_acts productions.Condition vs = at 1 vs
build_acts productions.ActRest vs = at 1 vs
build_acts p vs = build_types p vs

-- expressions and places
unfoldable pub build_expressions : Production → List Val → Val
build_expressions productions.NamedExpr vs = expr (completed (name_in (at 1 vs)) (as_rest (at 0 vs)))
build_expressions productions.AtomExpr vs = expr (joined (joined (as_expr (at 2 vs)) (as_joins (at 1 vs))) (as_joins (at 0 vs)))
build_expressions productions.PrefixedExpr vs = expr (joined (as_expr (at 1 vs)) (as_joins (at 0 vs)))
build_expressions productions.NegatedExpr vs = expr (joined (joined (as_expr (at 2 vs)) (as_joins (at 1 vs))) (as_joins (at 0 vs)))
build_expressions productions.AfterFactor vs = joins (as_joins (at 4 vs) ++ as_joins (at 3 vs) ++ as_joins (at 2 vs) ++ as_joins (at 1 vs) ++ as_joins (at 0 vs))
build_expressions productions.OrMore vs = joins (joint (at 3 vs) (joined (as_expr (at 2 vs)) (as_joins (at 1 vs))) ∷ as_joins (at 0 vs))
build_expressions productions.OrDone vs = joins []
build_expressions productions.AndMore vs = joins (joint (at 2 vs) (as_expr (at 1 vs)) ∷ as_joins (at 0 vs))
build_expressions productions.AndDone vs = joins []
build_expressions productions.Affirmed vs = expr (joined (joined (joined (as_expr (at 3 vs)) (as_joins (at 2 vs))) (as_joins (at 1 vs))) (as_joins (at 0 vs)))
build_expressions productions.Negated vs = expr (Not (as_expr (at 0 vs)))
build_expressions productions.Compared vs = joins (joint (at 3 vs) (joined (joined (as_expr (at 2 vs)) (as_joins (at 1 vs))) (as_joins (at 0 vs))) ∷ [])
build_expressions productions.NotCompared vs = joins []
build_expressions productions.SumMore vs = joins (joint (at 3 vs) (joined (as_expr (at 2 vs)) (as_joins (at 1 vs))) ∷ as_joins (at 0 vs))
build_expressions productions.SumDone vs = joins []
build_expressions productions.TimesMore vs = joins (joint (at 3 vs) (joined (as_expr (at 2 vs)) (as_joins (at 1 vs))) ∷ as_joins (at 0 vs))
build_expressions productions.OverMore vs = joins (joint (at 3 vs) (joined (as_expr (at 2 vs)) (as_joins (at 1 vs))) ∷ as_joins (at 0 vs))
build_expressions productions.TermDone vs = joins []
build_expressions productions.Raised vs = joins (joint (at 2 vs) (joined (as_expr (at 1 vs)) (as_joins (at 0 vs))) ∷ [])
build_expressions productions.NotRaised vs = joins []
build_expressions productions.PrimeUnary vs = expr (joined (as_expr (at 1 vs)) (as_joins (at 0 vs)))
build_expressions productions.Signed vs = expr (signed_expr (at 1 vs) (as_expr (at 0 vs)))
build_expressions productions.Stepped vs = expr (stepped (at 1 vs) (as_path (at 0 vs)))
build_expressions productions.NamedPrime vs = expr (completed (name_in (at 1 vs)) (as_rest (at 0 vs)))
build_expressions productions.NumberAtom vs = expr (Int (integer_in (at 0 vs)))
build_expressions productions.TruthAtom vs = expr (Truth (is_true (at 0 vs)))
build_expressions productions.GroupAtom vs = expr (Group (as_expr (at 1 vs)))
build_expressions productions.Arguments vs = exprs (AndExpr (as_expr (at 1 vs)) (as_exprs (at 0 vs)))
build_expressions productions.MoreExpr vs = exprs (AndExpr (as_expr (at 1 vs)) (as_exprs (at 0 vs)))
build_expressions productions.NoMoreExpr vs = exprs NoExpr
build_expressions productions.Place vs = path (Path (name_in (at 2 vs)) (as_exprs (at 1 vs)) (as_steps (at 0 vs)))
build_expressions productions.SomeSubscripts vs = at 1 vs
build_expressions productions.NoSubscripts vs = exprs NoExpr
build_expressions productions.MemberStep vs = steps (Member (name_in (at 2 vs)) (as_exprs (at 1 vs)) (as_steps (at 0 vs)))
build_expressions productions.OverlayStep vs = steps (Overlay (name_in (at 1 vs)) (as_steps (at 0 vs)))
build_expressions productions.NoSteps vs = steps NoStep
build_expressions p vs = build_acts p vs
