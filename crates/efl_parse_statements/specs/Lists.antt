-- What lists give, and statements that begin with a name.
use Rattle.std.specs.Prelude.{None, Some, List, [], ◌∷◌}
use Rattle.ground.specs.declared.place.Place.{Place}
use Rattle.efl_tree.specs.Syntax.{Text, Named, NoGroup, Variables, Area, EflDeclKind, EflStmt, Statement, Act, EflStmts, AndStmt}
use Rattle.efl_parse_values.specs.Kinds.{Rest, Opening, Declares, Begins, Labels}
use Rattle.efl_parse_values.specs.Kinds as part
use Rattle.efl_parse_values.specs.Values.{Val, stmt, lists, opening}
use Rattle.efl_parse_values.specs.Values as val
use Rattle.efl_parse_values.specs.Parts.{place_in, name_in, as_rest, as_groups}
use Rattle.efl_parse_expressions.specs.Phrases.{completed}

-- a declaration of a common area: a group of variables, or several
abbrev pub shared : Text → Val → EflDeclKind
shared x (val.type_part (part.group t vs p)) = Variables (Some x) t vs
shared x v = Area x (as_groups v)

abbrev pub with_label : Text → EflStmt → EflStmt
with_label x (Statement ls p k) = Statement (x ∷ ls) p k

-- the act that a name begins
abbrev pub acted : Place → Text → Rest → EflStmt
acted p x r = Statement [] p (Act (completed x r))

-- a statement that begins with a name: what follows is a statement with this label, or an act
abbrev pub begun : Place → Text → Val → Val
begun p x (val.statement (part.stmt s)) = stmt (with_label x s)
begun p x w = stmt (acted p x (as_rest w))

abbrev pub begins : Val → EflStmts → Opening
begins (val.statement (part.stmt s)) ss = Labels s ss
begins v ss = Begins (as_rest v) ss

-- lists that begin with a name
abbrev pub opened_by : Place → Text → Opening → Val
opened_by p x (Declares vs ds ss) = lists (record { kind = Variables None (Named x) vs; place = p } ∷ ds) ss
opened_by p x (Begins r ss) = lists [] (AndStmt (acted p x r) ss)
opened_by p x (Labels s ss) = lists [] (AndStmt (with_label x s) ss)

abbrev pub opened : Place → Text → Val → Val
opened p x (val.statement (part.opening o)) = opened_by p x o
opened p x w = w
