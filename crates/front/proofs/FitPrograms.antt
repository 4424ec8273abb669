-- In a tree of the published grammar of EFL lists of common stand in outer blocks alone.
use Rattle.std.proofs.Common.{ℕ, List, ◌∷◌}
use Rattle.efl_tree.specs.Syntax.{EflDecl, EflDeclKind, EflStmt, EflStmts, EflKind, EflCases, EflProcedure, EflProgram}
use Rattle.rat_grammar.specs.Tokens.{Tokens, Several}
use Rattle.efl_grammar.specs.Declarations.{Decl, Declaration}
use Rattle.efl_grammar.specs.Declarations as d
use Rattle.efl_grammar.specs.Statements.{Statement, Statements, Body, Clauses}
use Rattle.efl_grammar.specs.Statements as s
use Rattle.efl_grammar.specs.Programs.{Procedure, Program}
use Rattle.efl_grammar.specs.Programs as p
use Rattle.efl_blocks.specs.HomeViews.{IsOutside, AreOutside}
use Rattle.efl_checks.specs.Walks.{IsFit, KindFits, AllFit, CasesFit, ProceduresFit}

inner_fits : {a b : Tokens} {k : EflDeclKind} (n : ℕ) (h : List ℕ) → Declaration a b k → IsOutside (n ∷ h) k
inner_fits n h (d.variables t vs stop) = tt
inner_fits n h (d.initial w ps stop) = tt
inner_fits n h (d.structure w x gs stop) = tt

declarations_fit : {a b : Tokens} {ds : List EflDecl} (n : ℕ) (h : List ℕ) → Several (Decl Declaration) a b ds → AreOutside (n ∷ h) ds
declarations_fit n h Several.none = tt
declarations_fit n h (Several.more (d.decl l k) rest) = (inner_fits n h k, declarations_fit n h rest)

mutual
  statement_fits : {a b : Tokens} {x : EflStmt} → Statement a b x → IsFit x
  statement_fits (s.statement l k) = body_fits k

  statements_fit : {a b : Tokens} {xs : EflStmts} → Statements a b xs → AllFit xs
  statements_fit s.no_statement = tt
  statements_fit (s.listed l ls k rest) = (body_fits k, statements_fit rest)

  body_fits : {a b : Tokens} {k : EflKind} → Body a b k → KindFits k
  body_fits (s.empty h) = tt
  body_fits (s.block begin ds ss l close) = (λ n h. declarations_fit n h ds, statements_fit ss)
  body_fits (s.act f stop) = tt
  body_fits (s.if_ w c x none) = statement_fits x
  body_fits (s.if_else w c x l v y) = (statement_fits x, statement_fits y)
  body_fits (s.while w c x) = statement_fits x
  body_fits (s.for w begin x y z u v close body) = statement_fits body
  body_fits (s.repeat w x none) = statement_fits x
  body_fits (s.repeat_until w x l v c stop) = statement_fits x
  body_fits (s.do_ w x is e comma f by body) = statement_fits body
  body_fits (s.switch w c l begin cs m close) = clauses_fit cs
  body_fits (s.break_ w n stop) = tt
  body_fits (s.next w n stop) = tt
  body_fits (s.return_ w e stop) = tt
  body_fits (s.goto w x stop) = tt
  body_fits (s.write w begin e is' close stop) = tt
  body_fits (s.read w begin e is' close stop) = tt

  clauses_fit : {a b : Tokens} {cs : EflCases} → Clauses a b cs → CasesFit cs
  clauses_fit s.no_clause = tt
  clauses_fit (s.case l w zs colon ss rest) = (statements_fit ss, clauses_fit rest)
  clauses_fit (s.default l w colon ss rest) = (statements_fit ss, clauses_fit rest)

procedures_fit : {a b : Tokens} {us : List EflProcedure} → Several Procedure a b us → ProceduresFit us
procedures_fit Several.none = tt
procedures_fit (Several.more (p.procedure l h stop ds ss m w last) rest) = (statements_fit ss, procedures_fit rest)

pub program_fits : {a : Tokens} {x : EflProgram} → Program a x → ProceduresFit x.procedures
program_fits (p.program us l last) = procedures_fit us
