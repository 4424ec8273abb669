-- The laws, by what each production reads and by what is found for each part.
use Rattle.std.proofs.Common.{◌≡◌, List, [], sym, subst}
use Rattle.ground.specs.declared.token.Token.{Token}
use Rattle.f66_tree.specs.Syntax.{Formula}
use Rattle.grammar.specs.declared.language.Symbol.TheVariants.{Nonterminal}
use Rattle.grammar.specs.Grammar.{IsProgram}
use Rattle.rat_tree.specs.Syntax.{RatProgram}
use Rattle.rat_parse_table.specs.declared.table.Nonterminal.TheVariants as n
use Rattle.rat_parse_values.specs.Values.{Val, formula, program}
use Rattle.rat_parse.specs.Ratfor.{grammar}
use Rattle.rat_parse.proofs.OneTreeLemmas.{each_has_one}
use Rattle.rat_grammar.specs.Tokens.{Tokens}
use Rattle.rat_grammar.specs.Expressions.{Expr}
use Rattle.rat_grammar.specs.Programs as u
use Rattle.rat_grammar.specs.Laws.{Found, ExpressionsArePublished, ProgramsArePublished}
use Rattle.rat_grammar.proofs.Readings.{reading}
use Rattle.rat_grammar.proofs.Derivations.{Reads}
use Rattle.rat_grammar.proofs.Related.{HasSame, program_read}
use Rattle.rat_grammar.proofs.Steps.{FoundPart}
use Rattle.rat_grammar.proofs.AllSteps.{part_read, text_read}
use Rattle.rat_grammar.proofs.ExpressionsFound.{found_expr, or_done}
use Rattle.rat_grammar.proofs.UnitsFound.{found_program}

same_formula : (f g : Formula) → formula f ≡ formula g → f ≡ g
same_formula f g e = cc

expression_read : (a b : Tokens) (f : Formula) → Found (Nonterminal n.Expr) a b (formula f) → Expr a b f
expression_read a b f c = let r : Reads (reading n.Expr) a b (formula f) = part_read c in subst (λ g. Expr a b g) (sym (same_formula f r.0 r.1)) r.2

as_published : {a b : Tokens} {v : Val} → FoundPart n.Expr a b v → Found (Nonterminal n.Expr) a b v
as_published c = record { tree = c.tree; derives = c.derives; gives = c.gives }

pub expressions : ExpressionsArePublished
expressions = record { read = expression_read; found = λ a b f h c. as_published (found_expr c (or_done h)) }

same_program : (r s : RatProgram) → program r ≡ program s → r ≡ s
same_program r s e = cc

as_program : (ts : Tokens) (r : RatProgram) → (reading n.Program).Says ts [] r → u.Program ts r
as_program ts r q = subst (λ v. u.Program ts (record { routines = r.routines; finish = v })) (sym q.5) (u.program q.2 q.3 q.4)

tree_of : (ts : List Token) (c : Val) → IsProgram grammar ts c → (r : RatProgram) × (program r ≡ c) × u.Program ts r
tree_of ts c h = let r : Reads (reading n.Program) ts [] c = text_read h in (r.0, sym r.1, as_program ts r.0 r.2)

pub same : HasSame u.Program grammar (λ r. program r)
same = record { tree = tree_of; found = λ ts r q. found_program q; one = same_program }

pub programs : ProgramsArePublished
programs = record { read = program_read same; found = same.found; one = λ ts r s q k. (each_has_one ts).tree r s (found_program q) (found_program k) }
