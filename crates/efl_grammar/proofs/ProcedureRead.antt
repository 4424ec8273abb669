-- A procedure that the table gives is one of the published grammar, of the same tokens.
use Rattle.std.proofs.Common.{◌≡◌, sym, subst}
use Rattle.grammar.specs.declared.language.Symbol.TheVariants.{Nonterminal}
use Rattle.efl_tree.specs.Syntax.{EflProcedure}
use Rattle.efl_parse_table.specs.declared.table.Nonterminal.TheVariants as n
use Rattle.efl_parse_values.specs.Values.{procedure}
use Rattle.rat_grammar.specs.Tokens.{Tokens}
use Rattle.rat_grammar.proofs.Derivations.{Reads}
use Rattle.efl_grammar.specs.Programs.{Procedure}
use Rattle.efl_grammar.specs.Laws.{Found}
use Rattle.efl_grammar.proofs.Readings.{reading}
use Rattle.efl_grammar.proofs.AllSteps.{part_read}

same_procedure : (x y : EflProcedure) → procedure x ≡ procedure y → x ≡ y
same_procedure x y e = cc

pub procedure_read : (a b : Tokens) (x : EflProcedure) → Found (Nonterminal n.ProcedureText) a b (procedure x) → Procedure a b x
procedure_read a b x c =
    let r : Reads (reading n.ProcedureText) a b (procedure x) = part_read c in subst (λ y. Procedure a b y) (sym (same_procedure x r.0 r.1)) r.2
