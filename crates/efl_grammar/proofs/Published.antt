-- The laws, by what each production reads and by what is found for each part.
use Rattle.std.proofs.Common.{◌≡◌, ◌∙◌, List, [], sym, subst}
use Rattle.ground.specs.declared.place.Place.{Place}
use Rattle.ground.specs.declared.token.Token.{Token}
use Rattle.grammar.specs.declared.language.Symbol.TheVariants.{Nonterminal}
use Rattle.grammar.specs.Grammar.{IsProgram}
use Rattle.efl_tree.specs.Syntax.{EflExpr, EflType, EflVar, EflPreset, EflProgram}
use Rattle.efl_parse_table.specs.declared.table.Nonterminal.{Nonterminal as ANonterminal}
use Rattle.efl_parse_table.specs.declared.table.Nonterminal.TheVariants as n
use Rattle.efl_parse_values.specs.Values.{Val, expr, typed, vars, preset, program}
use Rattle.efl_parse.specs.Efl.{grammar}
use Rattle.efl_parse.proofs.OneTreeLemmas.{each_has_one}
use Rattle.rat_grammar.specs.Tokens.{Tokens, place_at}
use Rattle.rat_grammar.proofs.Derivations.{Reads}
use Rattle.rat_grammar.proofs.Related.{HasSame, program_read}
use Rattle.efl_grammar.specs.Expressions.{Expr}
use Rattle.efl_grammar.specs.Declarations as d
use Rattle.efl_grammar.specs.Programs as u
use Rattle.efl_grammar.specs.Laws.{Found, ExpressionsArePublished, DeclaredPartsArePublished, ProgramsArePublished}
use Rattle.efl_grammar.proofs.Readings.{reading}
use Rattle.efl_grammar.proofs.Steps.{FoundPart}
use Rattle.efl_grammar.proofs.AllSteps.{part_read, text_read}
use Rattle.efl_grammar.proofs.ExpressionsFound.{found_expr}
use Rattle.efl_grammar.proofs.DeclarationsFound.{found_type, found_vars, found_preset}
use Rattle.efl_grammar.proofs.ProgramsFound.{found_program}

as_published : {m : ANonterminal} {a b : Tokens} {v : Val} → FoundPart m a b v → Found (Nonterminal m) a b v
as_published c = record { tree = c.tree; derives = c.derives; gives = c.gives }

same_expr : (f g : EflExpr) → expr f ≡ expr g → f ≡ g
same_expr f g e = cc

expression_read : (a b : Tokens) (f : EflExpr) → Found (Nonterminal n.Expr) a b (expr f) → Expr a b f
expression_read a b f c = let r : Reads (reading n.Expr) a b (expr f) = part_read c in subst (λ g. Expr a b g) (sym (same_expr f r.0 r.1)) r.2

pub expressions : ExpressionsArePublished
expressions = record { read = expression_read; found = λ a b f h c. as_published (found_expr c h) }

same_type : (q r : Place) (x y : EflType) → typed q x ≡ typed r y → (q ≡ r) × (x ≡ y)
same_type q r x y e = (cc, cc)

same_vars : (x y : List EflVar) → vars x ≡ vars y → x ≡ y
same_vars x y e = cc

same_preset : (x y : EflPreset) → preset x ≡ preset y → x ≡ y
same_preset x y e = cc

type_read : (a b : Tokens) (q : Place) (x : EflType) → Found (Nonterminal n.Type) a b (typed q x) → (q ≡ place_at a) × d.AType a b x
type_read a b q x c =
    let r : Reads (reading n.Type) a b (typed q x) = part_read c in
    let e : _ = same_type q r.0.0 x r.0.1 r.1 in
    (e.0 ∙ r.2.0, subst (λ y. d.AType a b y) (sym e.1) r.2.1)

vars_read : (a b : Tokens) (x : List EflVar) → Found (Nonterminal n.Variables) a b (vars x) → d.Vars a b x
vars_read a b x c = let r : Reads (reading n.Variables) a b (vars x) = part_read c in subst (λ y. d.Vars a b y) (sym (same_vars x r.0 r.1)) r.2

preset_read : (a b : Tokens) (x : EflPreset) → Found (Nonterminal n.Preset) a b (preset x) → d.Preset a b x
preset_read a b x c = let r : Reads (reading n.Preset) a b (preset x) = part_read c in subst (λ y. d.Preset a b y) (sym (same_preset x r.0 r.1)) r.2

pub declared_parts : DeclaredPartsArePublished
declared_parts = record {
  type_read = type_read;
  type_found = λ a b x s q. as_published (found_type q s);
  vars_read = vars_read;
  vars_found = λ a b x s q. as_published (found_vars q s);
  preset_read = preset_read;
  preset_found = λ a b x s q. as_published (found_preset a b x q s);
}

same_program : (r s : EflProgram) → program r ≡ program s → r ≡ s
same_program r s e = cc

as_program : (ts : Tokens) (r : EflProgram) → (reading n.Program).Says ts [] r → u.Program ts r
as_program ts r q = subst (λ v. u.Program ts (record { procedures = r.procedures; finish = v })) (sym q.5) (u.program q.2 q.3 q.4)

tree_of : (ts : List Token) (c : Val) → IsProgram grammar ts c → (r : EflProgram) × (program r ≡ c) × u.Program ts r
tree_of ts c h = let r : Reads (reading n.Program) ts [] c = text_read h in (r.0, sym r.1, as_program ts r.0 r.2)

pub same : HasSame u.Program grammar (λ r. program r)
same = record { tree = tree_of; found = λ ts r q. found_program q; one = same_program }

pub programs : ProgramsArePublished
programs = record { read = program_read same; found = same.found; one = λ ts r s q k. (each_has_one ts).tree r s (found_program q) (found_program k) }
