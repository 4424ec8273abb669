-- What a nonterminal of the table gives, and what the published grammar says of it.
use Rattle.std.proofs.Common.{◌≡◌, Bool, ℕ, ℤ, List, Option, None, Some, [], ◌⊎◌, inl, inr}
use Rattle.std.specs.Prelude.{codes}
use Rattle.ground.specs.declared.place.Place.{Place}
use Rattle.ground.specs.declared.token.Token.{Token}
use Rattle.ground.specs.declared.token.TokenKind.TheVariants as kinds
use Rattle.ground.specs.declared.token.Sign.TheVariants as signs
use Rattle.efl_tree.specs.declared.expression.EflOperator.{EflOperator}
use Rattle.efl_tree.specs.declared.declaration.EflBound.{EflBound}
use Rattle.efl_tree.specs.declared.declaration.EflConst.{EflConst}
use Rattle.efl_tree.specs.Syntax.{Text, EflExpr, EflExprs, AndExpr, EflPlace, Path, EflSteps, EflVar, EflType, EflGroups, EflPreset, EflDeclKind, Implicit, EflDecl, EflStmt, EflStmts, EflKind, EflCases, EflProcedure, EflProgram}
use Rattle.efl_parse_table.specs.declared.table.Terminal.TheVariants as t
use Rattle.efl_parse_table.specs.declared.table.Nonterminal.{Nonterminal}
use Rattle.efl_parse_table.specs.declared.table.Nonterminal.TheVariants as n
use Rattle.efl_parse_values.specs.Kinds as part
use Rattle.efl_parse_values.specs.Values.{Val, tok}
use Rattle.efl_parse_values.specs.Values as val
use Rattle.efl_parse_values.specs.Parts.{name_in, bare, upper_part, groups_part, constant_part, letter_part, expr_part, count_or_one}
use Rattle.efl_parse_expressions.specs.Phrases.{joined, completed, ended, with_arguments}
use Rattle.efl_parse_expressions.specs.Declared.{bounded, type_named, outlined, counted, letters}
use Rattle.efl_parse_statements.specs.Lists.{shared}
use Rattle.rat_grammar.specs.Tokens.{Tokens, Sign, Word, Stop, place_at, Lines, TextEnd, Several, Perhaps}
use Rattle.rat_grammar.proofs.Parts.{Reading, Part, open_reading, Tail, Placed, Lined, WordIfAny}
use Rattle.rat_grammar.proofs.Standing.{Either}
use Rattle.efl_grammar.specs.Tokens.{Name, Letter, Whole, StopIfAny, ShapeStop}
use Rattle.efl_grammar.specs.Expressions as e
use Rattle.efl_grammar.specs.Declarations as d
use Rattle.efl_grammar.proofs.Taken.{Taken, IsOneLetter}
use Rattle.efl_tree.specs.declared.statement.LoopKind.{LoopKind}
use Rattle.efl_tree.specs.declared.statement.EflEdit.{EflEdit}
use Rattle.efl_tree.specs.Syntax as efl
use Rattle.efl_parse_statements.specs.Statements.{loop_of, loop_named}
use Rattle.efl_grammar.specs.Statements as s
use Rattle.efl_grammar.specs.Programs as u

-- more operands behind one
abbrev pub Joins : Part EflExpr → Part EflExpr → Part part.Joins
Joins First Whole a b js = (s : Tokens) (x : EflExpr) → First s a x → Whole s b (joined x js)

-- what makes this of a name that stands before it, or of a name and a parenthesis
abbrev pub Behind : Part EflExpr → Part part.Rest
Behind Whole a b r = (g : Tokens) (x : Text) → Name g a x → Whole g b (completed x r)

abbrev pub Within : Part EflExpr → Part part.Rest
Within Whole a b r = (g h : Tokens) (x : Text) → Name g h x → Sign signs.Open h a → Whole g b (completed x r)

abbrev pub expr_reading : Part EflExpr → Reading Val
expr_reading Says = record { Of = EflExpr; view = λ y. val.expr y; Says = Says }

abbrev pub joins_reading : Part EflExpr → Part EflExpr → Reading Val
joins_reading First Whole = record { Of = part.Joins; view = λ y. val.joins y; Says = Joins First Whole }

abbrev pub rest_reading : Part part.Rest → Reading Val
rest_reading Says = record { Of = part.Rest; view = λ y. val.rest y; Says = Says }

abbrev pub token_reading : Part Token → Reading Val
token_reading Says = record { Of = Token; view = λ y. tok y; Says = Says }

abbrev pub type_reading : Part (Place × EflType) → Reading Val
type_reading Says = record { Of = Place × EflType; view = λ y. val.typed y.0 y.1; Says = Says }

-- variables of a type, with the stop behind them and their place
abbrev pub Grouped : Part (EflType × List EflVar × Place)
Grouped a b y = (m k : Tokens) × d.AType a m y.0 × d.Vars m k y.1 × Stop k b × (y.2 ≡ place_at a)

-- what makes this act of a name and subscripts that stand before it
abbrev pub BehindSubs : Part part.Rest
BehindSubs a b r = (g h : Tokens) (x : Text) (es : EflExprs) → Name g h x → e.Subs h a es → e.Act g b (completed x (with_arguments es r))

-- { name ":" } body
pub data Item : Tokens → Tokens → EflStmt → Type 0 where
  item : {a b c : Tokens} {xs : List Text} {k : EflKind} → s.Labels a b xs → s.Body b c k → Item a c (efl.Statement xs (place_at b) k)

-- what stands behind a name: its colon and what it labels, or the rest of an act
abbrev pub NamedRest : Type 0
NamedRest = EflStmt ⊎ part.Rest

abbrev pub view_named : NamedRest → Val
view_named (inl x) = val.stmt x
view_named (inr r) = val.rest r

abbrev pub SaysNamed : Part NamedRest
SaysNamed a b (inl x) = (m : Tokens) × Sign signs.Colon a m × Lined Item m b x
SaysNamed a b (inr r) = (m : Tokens) × Behind e.Act a m r × Stop m b

-- declarations, statements and lines
abbrev pub Listing : Part EflDeclKind → Part (List EflDecl × EflStmts)
Listing Kind a b y = (m k : Tokens) × Several (d.Decl Kind) a m y.0 × s.Statements m k y.1 × Lines k b

abbrev pub Opened : Part EflDeclKind → Part part.Opening
Opened Kind a b (part.Declares vs ds ss) = (m k : Tokens) × d.Vars a m vs × Stop m k × Listing Kind k b (ds, ss)
Opened Kind a b (part.Begins r ss) = (m k : Tokens) × Behind e.Act a m r × Stop m k × Lined s.Statements k b ss
Opened Kind a b (part.Labels x ss) = (m k : Tokens) × Sign signs.Colon a m × Lined Item m k x × Lined s.Statements k b ss

abbrev pub listing_reading : Part EflDeclKind → Reading Val
listing_reading Kind = record { Of = List EflDecl × EflStmts; view = λ y. val.lists y.0 y.1; Says = Listing Kind }

abbrev pub opened_reading : Part EflDeclKind → Reading Val
opened_reading Kind = record { Of = part.Opening; view = λ y. val.opening y; Says = Opened Kind }

abbrev pub perhaps : {A : Type 0} → (A → Val) → Option A → Val
perhaps view None = val.nothing
perhaps view (Some x) = view x

abbrev pub Else : Part (Option EflStmt)
Else = WordIfAny (codes "ELSE") (λ m k b y. Lined s.Statement k b y)

abbrev pub Until : Part (Option (Place × EflExpr))
Until = WordIfAny (codes "UNTIL") (λ m k b y. (j : Tokens) × e.Condition k j y.1 × Stop j b × (y.0 ≡ place_at m))

-- the place, type, name and formals of a header
abbrev pub AHeader : Type 0
AHeader = Place × Option EflType × Option Text × List Text

abbrev pub reading : Nonterminal → Reading Val
reading n.Whole = expr_reading e.Expr
reading n.Spot = record { Of = EflPlace; view = λ y. val.path y; Says = e.Place }
reading n.Expr = expr_reading e.Expr
reading n.ExprRest = rest_reading (Behind e.Expr)
reading n.ExprInner = rest_reading (Within e.Expr)
reading n.ExprTail = record {
  Of = part.Tail;
  view = λ y. val.rest (bare y);
  Says = λ a b y. (g : Tokens) (x : Text) (es : EflExprs) (ss : EflSteps) → e.Place g a (Path x es ss) → e.Expr g b (ended x es ss y);
}
reading n.Storing = record {
  Of = Option EflOperator × EflExpr;
  view = λ y. val.rest (bare (part.Stored y.0 y.1));
  Says = λ a b y. (m : Tokens) × e.Assign a m y.0 × e.Expr m b y.1;
}
reading n.AfterFactor = joins_reading e.Unary e.Disj
reading n.OrTail = joins_reading e.Disj e.Disj
reading n.AndTail = joins_reading e.Conj e.Conj
reading n.Negation = expr_reading e.Neg
reading n.Negated = expr_reading e.Neg
reading n.RelationTail = joins_reading e.Sum e.Rel
reading n.SumTail = joins_reading e.Sum e.Sum
reading n.TermTail = joins_reading e.Term e.Term
reading n.PowerTail = joins_reading e.Operand e.Power
reading n.Unary = expr_reading e.Unary
reading n.Prefixed = expr_reading e.Unary
reading n.Prime = expr_reading e.Operand
reading n.Atom = expr_reading e.Operand
reading n.PrimeRest = rest_reading (Behind e.Operand)
reading n.PrimeInner = rest_reading (Within e.Operand)
reading n.Arguments = record { Of = EflExprs; view = λ y. val.exprs y; Says = e.Exprs }
reading n.ExprMore = record {
  Of = EflExprs;
  view = λ y. val.exprs y;
  Says = λ a b y. (g : Tokens) (x : EflExpr) → e.Expr g a x → e.Exprs g b (AndExpr x y);
}
reading n.Place = record { Of = EflPlace; view = λ y. val.path y; Says = e.Place }
reading n.Subscripts = record { Of = EflExprs; view = λ y. val.exprs y; Says = e.AnySubs }
reading n.Steps = record { Of = EflSteps; view = λ y. val.steps y; Says = e.Steps }
reading n.Adding = token_reading (Either (kinds.Sign signs.Plus) (kinds.Sign signs.Minus))
reading n.AnyName = token_reading (λ a b y. (y.place ≡ place_at a) × Name a b (name_in (tok y)))
reading n.AnyLetter = token_reading (λ a b y. (y.place ≡ place_at a) × IsOneLetter a b y)
reading n.Integral = record { Of = ℤ; view = λ y. val.integer y; Says = Whole }
reading n.Ending = open_reading (λ a b y. Stop a b)
reading n.LooseEnding = open_reading (λ a b y. StopIfAny a b)
reading n.ShapeEnding = open_reading (λ a b y. ShapeStop a b)
reading n.Bound = record { Of = EflBound; view = λ y. val.bound y; Says = d.Bound }
reading n.UpperPart = open_reading (λ a b y. (g : Tokens) (z : ℤ) → Whole g a z → d.Bound g b (bounded z (upper_part y)))
reading n.Upper = record {
  Of = Option ℤ;
  view = λ y. val.upper y;
  Says = λ a b y. (g k : Tokens) (z : ℤ) → Whole g k z → Sign signs.Colon k a → d.Bound g b (bounded z (Some y));
}
reading n.BoundMore = record { Of = List EflBound; view = λ y. val.bounds y; Says = Tail d.Bound }
reading n.Bounds = record {
  Of = List EflBound;
  view = λ y. val.bounds y;
  Says = λ a b y. (g : Tokens) (x : Text) → Name g a x → d.Var g b (record { name = x; bounds = y });
}
reading n.Variable = record { Of = EflVar; view = λ y. val.var y; Says = d.Var }
reading n.VariableMore = record { Of = List EflVar; view = λ y. val.vars y; Says = Tail d.Var }
reading n.Variables = record { Of = List EflVar; view = λ y. val.vars y; Says = d.Vars }
reading n.Group = record { Of = EflType × List EflVar × Place; view = λ y. val.group y.0 y.1 y.2; Says = Grouped }
reading n.Groups = record { Of = EflGroups; view = λ y. val.groups y; Says = Lined d.Groups }
reading n.Shape = record { Of = EflGroups; view = λ y. val.groups y; Says = d.Shape }
reading n.Type = type_reading (Placed d.AType)
reading n.BaseType = type_reading (Placed d.BaseType)
reading n.TypeRest = type_reading (λ a b y. (g : Tokens) → Word (codes "STRUCT") g a → d.AType g b y.1)
reading n.ShapePart = open_reading (λ a b y. (g h : Tokens) (x : Text) → Word (codes "STRUCT") g h → Name h a x → d.AType g b (type_named x (groups_part y)))
reading n.Constant = record { Of = EflConst; view = λ y. val.constant y; Says = d.Const }
reading n.Unnumbered = record { Of = EflConst; view = λ y. val.constant y; Says = d.Const }
reading n.Many = record { Of = ℕ × EflConst; view = λ y. val.datum y.0 y.1; Says = d.Many }
reading n.ManyMore = record { Of = List (ℕ × EflConst); view = λ y. val.data_list y; Says = Tail d.Many }
reading n.Repetition = open_reading (λ a b y. (g : Tokens) (z : Token) → Taken t.Number g a z → d.Many g b (counted (tok z) (constant_part y)))
reading n.PresetValue = record {
  Of = Bool × List (ℕ × EflConst);
  view = λ y. val.preset_values y.0 y.1;
  Says = λ a b y. (g m : Tokens) (s : EflPlace) → e.Place g m s → Sign signs.Assign m a → d.Preset g b (record { place = s; values = y.1; listed = y.0 });
}
reading n.Preset = record { Of = EflPreset; view = λ y. val.preset y; Says = d.Preset }
reading n.PresetMore = record { Of = List EflPreset; view = λ y. val.presets y; Says = Tail d.Preset }
reading n.Range = record { Of = ℕ × ℕ; view = λ y. val.range y; Says = d.Range }
reading n.RangeEnd = open_reading (λ a b y. (g : Tokens) (x : ℕ) → Letter g a x → d.Range g b (letters x (letter_part y)))
reading n.RangeMore = record { Of = List (ℕ × ℕ); view = λ y. val.ranges y; Says = Tail d.Range }
reading n.AfterShape = record {
  Of = List EflVar;
  view = λ y. val.vars y;
  Says = λ a b y. (g h k : Tokens) (x : Text) (gs : EflGroups) → Word (codes "STRUCT") g h → Name h k x → d.Shape k a gs → d.Declaration g b (outlined x (Some gs) y);
}
reading n.StructTail = record {
  Of = Option EflGroups × List EflVar;
  view = λ y. val.outline y.0 y.1;
  Says = λ a b y. (g h : Tokens) (x : Text) → Word (codes "STRUCT") g h → Name h a x → d.Declaration g b (outlined x y.0 y.1);
}
reading n.StructRest = record { Of = EflDeclKind; view = λ y. val.declared y; Says = λ a b y. (g : Tokens) → Word (codes "STRUCT") g a → d.Declaration g b y }
reading n.Declaration = record { Of = Place × EflDeclKind; view = λ y. val.declaration y.0 y.1; Says = Placed d.Declaration }
reading n.CommonRest = open_reading (λ a b y. (g : Tokens) (x : Text) → d.CommonName g a x → d.OuterDeclaration g b (shared x y))
reading n.ImplicitType = type_reading (λ a b y. (g : Tokens) (rs : List (ℕ × ℕ)) → d.ImplicitRanges g a rs → d.OuterDeclaration g b (Implicit rs y.1))
reading n.ImplicitRest = type_reading
    (λ a b y. (g h : Tokens) (rs : List (ℕ × ℕ)) → d.ImplicitRanges g h rs → Word (codes "STRUCT") h a → d.OuterDeclaration g b (Implicit rs y.1))
reading n.ImplicitTail = open_reading
    (λ a b y. (g h k : Tokens) (rs : List (ℕ × ℕ)) (x : Text) → d.ImplicitRanges g h rs → Word (codes "STRUCT") h k → Name k a x →
    d.OuterDeclaration g b (Implicit rs (type_named x (groups_part y))))
reading n.Program = record {
  Of = EflProgram;
  view = λ y. val.program y;
  Says = λ a b y. (m k : Tokens) × Several u.Procedure a m y.procedures × Lines m k × TextEnd k b × (y.finish ≡ place_at k);
}
reading n.Procedures = record { Of = List EflProcedure; view = λ y. val.procedures y; Says = Lined (Several u.Procedure) }
reading n.ProcedureText = record { Of = EflProcedure; view = λ y. val.procedure y; Says = u.Procedure }
reading n.Header = record {
  Of = AHeader;
  view = λ y. val.header y.0 y.1 y.2 y.3;
  Says = λ a b y. (y.0 ≡ place_at a) × u.Header a b y.1 y.2 y.3;
}
reading n.Heading = record {
  Of = Option Text × List Text;
  view = λ y. val.heading y.0 y.1;
  Says = λ a b y. (g : Tokens) → Word (codes "PROCEDURE") g a → u.Header g b None y.0 y.1;
}
reading n.Formals = record { Of = List Text; view = λ y. val.names y; Says = u.Formals }
reading n.FormalNames = record {
  Of = List Text;
  view = λ y. val.names y;
  Says = λ a b y. (g h : Tokens) → Sign signs.Open g a → Sign signs.Close b h → u.Formals g h y;
}
reading n.FormalMore = record { Of = List Text; view = λ y. val.names y; Says = Tail Name }
reading n.OuterList = listing_reading d.OuterDeclaration
reading n.OuterRest = opened_reading d.OuterDeclaration
reading n.InnerList = listing_reading d.Declaration
reading n.InnerRest = opened_reading d.Declaration
reading n.Statements = record { Of = EflStmts; view = λ y. val.stmts y; Says = Lined s.Statements }
reading n.Listed = record { Of = EflStmt; view = λ y. val.stmt y; Says = Lined Item }
reading n.NamedRest = record { Of = NamedRest; view = view_named; Says = SaysNamed }
reading n.Statement = record { Of = EflStmt; view = λ y. val.stmt y; Says = Lined s.Statement }
reading n.Unnamed = record { Of = Place × EflKind; view = λ y. val.stmt (efl.Statement [] y.0 y.1); Says = Placed (Lined s.Body) }
reading n.Condition = expr_reading e.Condition
reading n.ElsePart = record { Of = Option EflStmt; view = perhaps (λ y. val.stmt y); Says = Else }
reading n.UntilPart = record { Of = Option (Place × EflExpr); view = perhaps (λ y. val.located y.0 y.1); Says = Until }
reading n.Part = open_reading (λ a b y. Perhaps e.Act a b (expr_part y))
reading n.Separator = open_reading (λ a b y. s.Sep a b)
reading n.AnyWhole = open_reading (λ a b y. Perhaps e.Expr a b (expr_part y))
reading n.StepPart = open_reading (λ a b y. Perhaps (s.Comma e.Expr) a b (expr_part y))
reading n.Lines = open_reading (λ a b y. Lines a b)
reading n.Clauses = record { Of = EflCases; view = λ y. val.clauses y; Says = Lined s.Clauses }
reading n.Clause = record {
  Of = EflCases → EflCases;
  view = λ y. val.clause y;
  Says = Lined (λ a b y. (c : Tokens) (cs : EflCases) → s.Clauses b c cs → s.Clauses a c (y cs));
}
reading n.IntegralMore = record { Of = List ℤ; view = λ y. val.integers y; Says = Tail Whole }
reading n.Leaving = record { Of = ℕ × Option LoopKind; view = λ y. val.leaving y.0 y.1; Says = λ a b y. s.Leaving a b y.0 y.1 }
reading n.KindPart = open_reading (λ a b y. Perhaps s.Kind a b (loop_of y))
reading n.CountPart = open_reading (λ a b y. (g : Tokens) (k : LoopKind) → s.Kind g a k → s.Leaving g b (count_or_one y) (Some k))
reading n.Kind = token_reading (λ a b y. s.Kind a b (loop_named (tok y)))
reading n.Outcome = open_reading (λ a b y. Perhaps e.Condition a b (expr_part y))
reading n.WriteItems = record { Of = List efl.WriteItem; view = λ y. val.write_items y; Says = Several (s.Comma s.WriteItem) }
reading n.WriteItem = record { Of = efl.WriteItem; view = λ y. val.write_item y; Says = s.WriteItem }
reading n.ReadItems = record { Of = List efl.ReadItem; view = λ y. val.read_items y; Says = Several (s.Comma s.ReadItem) }
reading n.ReadItem = record { Of = efl.ReadItem; view = λ y. val.read_item y; Says = s.ReadItem }
reading n.Edit = record { Of = EflEdit; view = λ y. val.edit y; Says = s.Edit }
reading n.DeedRest = rest_reading (Behind e.Act)
reading n.DeedInner = rest_reading (Within e.Act)
reading n.DeedTail = rest_reading BehindSubs
reading n.StepDeed = record { Of = Place × EflExpr; view = λ y. val.located y.0 y.1; Says = Placed e.Step }
