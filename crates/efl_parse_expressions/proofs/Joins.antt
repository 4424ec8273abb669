-- Operators with operands, one list behind another.
use Rattle.std.proofs.Common.{◌≡◌, ◌++◌, List, map, reverse, ap, ◌∙◌}
use Rattle.std.proofs.lemmas.List.{reverse-append, map-append}
use Rattle.efl_tree.specs.declared.expression.EflOperator.{EflOperator}
use Rattle.efl_tree.specs.declared.expression.EflExpr.{EflExpr}
use Rattle.efl_parse_values.specs.Values.{join_of, joins_of}

pub joins_behind : (xs ys zs : List (EflOperator × EflExpr)) → zs ≡ ys ++ xs → joins_of zs ≡ joins_of xs ++ joins_of ys
joins_behind xs ys zs e = ap joins_of e ∙ ap (map join_of) (reverse-append ys xs) ∙ map-append join_of (reverse xs) (reverse ys)
