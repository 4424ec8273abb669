-- The tree of a program of written tokens is written.
use Rattle.std.proofs.Common.{ℕ, ◌+◌, List, [], ◌∷◌, ◌++◌, Option, subst}
use Rattle.std.specs.Prelude.{flat_map}
use Rattle.ground.specs.declared.place.Place.{Place}
use Rattle.efl_tree.specs.Syntax.{Text, EflType, EflProcedure, EflProgram}
use Rattle.efl_scope.specs.Scopes.{behind_all, outer}
use Rattle.efl_scope.specs.Parts.{Form, Around, part, among, declarations_in, header_type_groups, around_unit, parts_in, parts_by, parts_from, program_parts}
use Rattle.efl_scope.specs.Marks.{located_at, program_variables}
use Rattle.rat_grammar.specs.Tokens.{Tokens, Several}
use Rattle.efl_grammar.specs.Programs.{Formals, Header, Procedure, Program}
use Rattle.efl_grammar.specs.Programs as p
use Rattle.efl_typed.proofs.Each.{Each, OfAny}
use Rattle.efl_lowered.proofs.TypedChecks.{at_each, each_fact, each_on}
use Rattle.efl_lowered.proofs.TypedVariables.{each_joined}
use Rattle.efl_shape.proofs.Groups.{header_each}
use Rattle.efl_plain.specs.Tree.{numbers_in, constants_in, texts_in, IsWrittenTree}
use Rattle.efl_plain.proofs.WrittenExpressions.{Constant}
use Rattle.efl_plain.proofs.WrittenActs.{Printed}
use Rattle.efl_plain.proofs.WrittenStatements.{Case}
use Rattle.efl_written.proofs.Tokens.{AreWritten, Capitals, past, past_word, past_lines, past_stop, name, Nothing, listed, perhaps, several}
use Rattle.efl_written.proofs.Declarations as declarations
use Rattle.efl_written.proofs.Declarations.{OfDeclared, past_type}
use Rattle.efl_written.proofs.Statements.{Good, grouped, declared, statements}
use Rattle.efl_written.proofs.Variables.{IsNamed, located, once}

-- ---- headers ----

formals : {a b : Tokens} {xs : List Text} → Formals a b xs → AreWritten a → Each Capitals xs × AreWritten b
formals Formals.none h = (tt, h)
formals (Formals.empty o c) h = (tt, past c (past o h))
formals (Formals.some o xs c) h = let l = listed Capitals (λ a b x. name) xs (past o h) in (l.0, past c l.1)

header : {a b : Tokens} {t : Option EflType} {x : Option Text} {xs : List Text} → Header a b t x xs → AreWritten a → (OfAny Capitals x × Each Capitals xs) × AreWritten b
header (p.named t w x fs) h =
    let l = perhaps Nothing (λ a b x q k. (tt, past_type q k)) t h in
    let n = name x (past_word w l.1) in
    let f = formals fs n.1 in
    ((n.0, f.0), f.1)
header (p.main w) h = ((tt, tt), past_word w h)

headed : (r : Around) (q : Place) (t : Option EflType) (xs : List Text) → Each Capitals xs → Good (part r q (Form.Header t xs))
headed r q t xs h = (record { numbers = tt; constants = tt; texts = tt }, (h, tt))

-- ---- procedures ----

abbrev HasName : EflProcedure → Type 0
HasName u = OfAny Capitals u.name

procedures : {a b : Tokens} {us : List EflProcedure} (n : ℕ) → Several Procedure a b us → AreWritten a → Each Good (parts_from n us) × Each HasName us
procedures n Several.none h = (tt, tt)
procedures {us = u ∷ us} n (Several.more (p.procedure l q stop ds ss m w last) rest) h =
    let r = around_unit n u in
    let groups = header_type_groups r u.result in
    let own = declarations_in r [] u.declarations in
    let inside = among (behind_all (outer u) u.declarations) r in
    let f = header q (past_lines l h) in
    let d = several (λ x. OfDeclared x.kind) declarations.outer ds (past_stop stop f.1) in
    let s = statements 0 inside ss d.1 in
    let more = procedures (n + 1) rest (past_stop last (past_word w (past_lines m s.1))) in
    let head = headed r u.place u.result u.formals f.0.1 in
    let body = each_on Good (groups ++ own) (parts_in 0 inside u.body) (each_on Good groups own (header_each Good grouped r u.result) (declared r [] u.declarations d.0)) s.0 in
    (each_on Good (parts_by n u) (parts_from (n + 1) us) (head, body) more.0, (f.0.0, more.1))

-- ---- the program ----

pub written : (a : Tokens) (x : EflProgram) → AreWritten a → Program a x → IsWrittenTree x
written a x h (p.program us l last) =
    let all = procedures 0 us h in
    let vs = program_parts x in
    let there = flat_map (located_at x.procedures) vs in
    let met = each_joined IsNamed (located_at x.procedures) vs (each_fact Good (λ v. Each IsNamed (located_at x.procedures v)) vs (λ v g. located x.procedures v g.1.0 g.1.1) all.0) in
    record {
      numbers = λ i j v z e f. at_each Constant (numbers_in v.form) (at_each Good vs all.0 i v e).0.numbers j z f;
      constants = λ i j v z e f. at_each Case (constants_in v.form) (at_each Good vs all.0 i v e).0.constants j z f;
      texts = λ i j v t e f. at_each Printed (texts_in v.form) (at_each Good vs all.0 i v e).0.texts j t f;
      variables = λ i v e. at_each IsNamed (program_variables x) (once [] there met) i v e;
      procedures = λ i u q e f. subst (OfAny Capitals) f (at_each HasName x.procedures all.1 i u e);
    }
