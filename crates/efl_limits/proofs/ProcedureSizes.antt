-- The body of a procedure whose text passes no limit is no larger than 20,000, in whatever context.
use Rattle.std.proofs.Common.{◌≡◌, ◌≤◌, ℕ, ◌+◌, arith, List, [], ◌∷◌, length, Option, None, refl, sym, subst}
use Rattle.ground.specs.declared.token.Token.{Token}
use Rattle.grammar.specs.declared.language.Symbol.TheVariants.{Nonterminal}
use Rattle.grammar.specs.declared.language.Event.TheVariants.{Open}
use Rattle.grammar.specs.Grammar.{Trees, node, Offers, DerivesAll, values_of}
use Rattle.grammar.specs.Limits.{history_all, first_passing, IsAccepted}
use Rattle.efl_tree.specs.Syntax.{Text, EflType, EflProcedure, EflProgram}
use Rattle.efl_parse_table.specs.declared.table.Nonterminal.{Nonterminal as ANonterminal}
use Rattle.efl_parse_table.specs.declared.table.Nonterminal.TheVariants as nonterminals
use Rattle.efl_parse_table.specs.declared.table.Production.{Production}
use Rattle.efl_parse_table.specs.declared.table.Production.TheVariants as productions
use Rattle.efl_parse_table.specs.Table.{symbols}
use Rattle.efl_parse_table.specs.Limits.{meter}
use Rattle.efl_parse_values.specs.Values.{procedure, program}
use Rattle.efl_parse_values.specs.Parts.{as_procedure}
use Rattle.efl_parse.specs.Build.{build}
use Rattle.efl_parse.specs.Efl.{grammar}
use Rattle.rat_grammar.specs.Tokens.{Tokens}
use Rattle.efl_grammar.specs.Tokens.{Name}
use Rattle.efl_grammar.specs.Programs.{Formals, Header, Procedure}
use Rattle.efl_grammar.specs.Programs as p
use Rattle.efl_grammar.specs.Declarations.{AType}
use Rattle.efl_grammar.specs.Laws.{Found}
use Rattle.efl_grammar.proofs.ProcedureRead.{procedure_read}
use Rattle.efl_typed.specs.Typing.{Context, context_in, stmts_from}
use Rattle.efl_types.specs.Signatures.{result_of}
use Rattle.rat_room.proofs.TreeWeights.{trees_take, Each, offered_by}
use Rattle.efl_limits.specs.Sizes.{stmts_size}
use Rattle.efl_limits.proofs.Tokens.{Before, one, word, name, lines, stop, each_listed, perhaps, several}
use Rattle.efl_limits.proofs.DeclarationTokens.{type_taken, outer}
use Rattle.efl_limits.proofs.StatementTokens.{statements}
use Rattle.efl_limits.proofs.ProcedureTokens.{procedure_few}
use Rattle.efl_limits.proofs.ProcedureTexts.{Past, procedures_good}

-- ---- the tokens of a procedure ----

pub dummy : {a b : Tokens} {x : Text} → Name a b x → Before 1 a b
dummy q = name q

formals : {a b : Tokens} {xs : List Text} → Formals a b xs → Before (length xs) a b
formals Formals.none = omega arith
formals (Formals.empty o k) = omega (arith, one o, one k)
formals (Formals.some o xs k) = omega (arith, one o, each_listed (λ a b x. dummy) xs, one k)

pub of_type : {a b : Tokens} {t : EflType} → AType a b t → Before 0 a b
of_type q = omega (arith, type_taken q)

pub header : {a b : Tokens} {t : Option EflType} {x : Option Text} {xs : List Text} → Header a b t x xs → Before (1 + length xs) a b
header (p.named t w x fs) = omega (arith, perhaps (λ a b x. of_type) t, word w, name x, formals fs)
header (p.main w) = omega (arith, word w)

pub procedure_size : {a b : Tokens} {u : EflProcedure} → Procedure a b u → (n : ℕ) (c : Context) → Before (2 + (length u.formals + stmts_size (stmts_from n c u.body))) a b
procedure_size (p.procedure l h st ds ss m w last) n c =
    omega (arith, lines l, header h, stop st, several (outer c) ds, statements n c ss, lines m, word w, stop last)

-- no names mean anything here
nowhere : Context
nowhere = context_in [] [] (record { blocks = []; implied = []; units = []; result = result_of None }) (record { unit = 0; position = []; blocks = []; formals = []; loops = []; labels = [] })

pub two_tokens : {a b : Tokens} {u : EflProcedure} → Procedure a b u → Before 2 a b
two_tokens q = omega (arith, procedure_size q 0 nowhere)

-- ---- procedures ----

abbrev pub IsFew : EflProcedure → Type 0
IsFew u = (n : ℕ) (c : Context) → stmts_size (stmts_from n c u.body) ≤ 20000

found : (cs : Trees Token Production) (ts rest : List Token) → DerivesAll grammar cs (symbols productions.OneProcedure) ts rest → Offers grammar nonterminals.ProcedureText productions.OneProcedure ts →
    Found (Nonterminal nonterminals.ProcedureText) ts rest (procedure (as_procedure (build productions.OneProcedure (values_of grammar cs []))))
unfolding build
found cs ts rest h o = record { tree = node productions.OneProcedure cs; derives = (nonterminals.ProcedureText, refl, o, h); gives = refl }

few_text : (cs : Trees Token Production) (ts rest : List Token) (past : Past) → DerivesAll grammar cs (symbols productions.OneProcedure) ts rest →
    first_passing meter (history_all grammar cs (Open productions.OneProcedure ∷ past)) ≡ None → (n : ANonterminal) → Offers grammar n productions.OneProcedure ts →
    IsFew (as_procedure (build productions.OneProcedure (values_of grammar cs [])))
few_text cs ts rest past h quiet n offers =
    let same = offered_by grammar n productions.OneProcedure ts offers in
    let here : Offers grammar nonterminals.ProcedureText productions.OneProcedure ts = subst (λ m. Offers grammar m productions.OneProcedure ts) (sym same) offers in
    let read = procedure_read ts rest _ (found cs ts rest h here) in
    λ i c. omega (arith, procedure_size read i c, trees_take grammar cs (symbols productions.OneProcedure) ts rest h, procedure_few cs ts rest past h quiet)

-- those of an accepted text
pub procedures_few : (ts : List Token) (tree : EflProgram) → IsAccepted grammar meter ts (program tree) → Each IsFew tree.procedures
procedures_few ts tree accepted = procedures_good IsFew few_text ts tree accepted
