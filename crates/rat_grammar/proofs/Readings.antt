-- What a nonterminal of the table gives, and what the published grammar says of it.
use Rattle.std.proofs.Common.{◌≡◌, ℕ, List, [], ◌∷◌, Option, None, Some, ◌⊎◌, inl, inr}
use Rattle.std.specs.Prelude.{codes}
use Rattle.ground.specs.declared.place.Place.{Place}
use Rattle.ground.specs.declared.token.Token.{Token}
use Rattle.ground.specs.declared.token.Sign.TheVariants as signs
use Rattle.f66_tree.specs.declared.expression.Operator.{Operator}
use Rattle.f66_tree.specs.Fields as fields
use Rattle.f66_tree.specs.Syntax as f66
use Rattle.f66_tree.specs.Syntax.{Text, Formula, Header, FuncUnit, Act, Stop as AStop, Invoke}
use Rattle.f66_tree.specs.Views.{chained, listed}
use Rattle.rat_tree.specs.Syntax as tree
use Rattle.rat_tree.specs.Syntax.{Command, Commands, RatRoutine, RatProgram}
use Rattle.rat_parse_table.specs.declared.table.Nonterminal.{Nonterminal}
use Rattle.rat_parse_table.specs.declared.table.Nonterminal.TheVariants as n
use Rattle.rat_parse_values.specs.Values.{Val}
use Rattle.rat_parse_values.specs.Values as val
use Rattle.rat_parse_values.specs.Kinds as part
use Rattle.rat_parse_values.specs.Parts.{name_in, integer_in, place_in, type_word, as_formula, act_part, formula_part, count_or_one, octal_if_any, step_or_one, name_if_any}
use Rattle.rat_parse_values.specs.Phrases.{joined, applied, applied_if, counted_field}
use Rattle.rat_grammar.specs.Tokens.{Perhaps, Tokens, TextEnd, Sign, Word, Name, Number, place_at, Listed, Several, Lines, Stop}
use Rattle.rat_grammar.specs.Expressions as e
use Rattle.rat_grammar.specs.Formats as f
use Rattle.rat_grammar.specs.Declarations as d
use Rattle.rat_grammar.specs.Plain as p
use Rattle.rat_grammar.specs.Statements as s
use Rattle.rat_grammar.specs.Programs as u
use Rattle.rat_grammar.proofs.Parts.{Reading, Part, open_reading, Tail, Placed, Lined, WordIfAny}

-- more operands behind one
abbrev pub Joins : Part Formula → Part Formula → Part (List (Operator × Formula))
Joins First Whole a b js = (s : Tokens) (x : Formula) → First s a x → Whole s b (joined x js)

abbrev pub Arguments : Part (List Formula)
Arguments a b fs = (m k : Tokens) × Sign signs.Open a m × e.Exprs m k (chained fs) × Sign signs.Close k b

-- the rest of an implied DO, with its entries
pub record LoopTail (a b : Tokens) (es : List f66.Entry) (x : Text) (r : part.Range) : Type 0 where
  pub behind : Tokens
  pub named : Tokens
  pub equal : Tokens
  pub begun : Tokens
  pub ended : Tokens
  pub entries : d.SomeEntries a behind (listed es)
  pub comma : Sign signs.Comma behind named
  pub name : Name named equal x
  pub assign : Sign signs.Assign equal begun
  pub range : d.Range begun ended r.first r.last r.step
  pub close : Sign signs.Close ended b

abbrev pub RestStart : Type 0
RestStart = part.Range ⊎ (Option (List Formula) × part.LoopRest)

abbrev pub view_start : RestStart → Val
view_start (inl r) = val.range r
view_start (inr y) = val.pending y.0 y.1

abbrev pub SaysStart : Part RestStart
SaysStart a b (inl r) = (m k : Tokens) × Sign signs.Assign a m × d.Range m k r.first r.last r.step × Sign signs.Close k b
SaysStart a b (inr y) = (s : Tokens) (x : Text) → Name s a x → LoopTail s b (f66.One (applied_if x y.0) ∷ y.1.list) y.1.variable y.1.range

abbrev pub perhaps : {A : Type 0} → (A → Val) → Option A → Val
perhaps view None = val.nothing
perhaps view (Some x) = view x

abbrev pub Else : Part (Option (Place × Command))
Else = WordIfAny (codes "ELSE") (λ m k b y. Lined s.Statement k b y.1)

abbrev pub Until : Part (Option (Place × Formula))
Until = WordIfAny (codes "UNTIL") (λ m k b y. (j : Tokens) × e.Condition k j y.1 × Stop j b × (y.0 ≡ place_at m))

abbrev pub Typed : Type 0
Typed = (Place × Text × List Text) ⊎ List f66.Declared

abbrev pub view_typed : Typed → Val
view_typed (inl y) = val.heading y.0 (FuncUnit None y.1 y.2)
view_typed (inr ds) = val.declareds ds

abbrev pub SaysTyped : Part Typed
SaysTyped a b (inl y) = (m k : Tokens) × Word (codes "FUNCTION") a m × Name m k y.1 × u.Formals k b y.2
SaysTyped a b (inr ds) = Listed d.Declared a b ds

abbrev pub Repeated : Part (Option Formula)
Repeated a b None = a ≡ b
Repeated a b (Some x) = (m : Tokens) × Sign signs.Star a m × d.Value m b x

abbrev pub Formals : Part (List Text)
Formals a b xs = ((a ≡ b) × (xs ≡ [])) ⊎ u.Formals a b xs

abbrev pub formula_reading : Part Formula → Reading Val
formula_reading Says = record { Of = Formula; view = λ y. val.formula y; Says = Says }

abbrev pub joins_reading : Part Formula → Part Formula → Reading Val
joins_reading First Whole = record { Of = List (Operator × Formula); view = λ y. val.joins y; Says = Joins First Whole }

abbrev pub fields_reading : Part fields.Fields → Reading Val
fields_reading Says = record { Of = fields.Fields; view = λ y. val.fields y; Says = Says }

abbrev pub formulas_reading : Part (List Formula) → Reading Val
formulas_reading Says = record { Of = List Formula; view = λ y. val.formulas y; Says = Says }

abbrev pub command_reading : Part (Place × Command) → Reading Val
command_reading Says = record { Of = Place × Command; view = λ y. val.command y.0 y.1; Says = Says }

abbrev pub deed_reading : Part (Place × Act) → Reading Val
deed_reading Says = record { Of = Place × Act; view = λ y. val.deed y.0 y.1; Says = Says }

abbrev pub reading : Nonterminal → Reading Val
reading n.Program = record {
  Of = RatProgram;
  view = λ y. val.program y;
  Says = λ a b y. (m k : Tokens) × Several u.Unit a m y.routines × Lines m k × TextEnd k b × (y.finish ≡ place_at k);
}
reading n.Units = record { Of = List RatRoutine; view = λ y. val.routines y; Says = Lined (Several u.Unit) }
reading n.Unit = record { Of = RatRoutine; view = λ y. val.routine y; Says = u.Unit }
reading n.UnitText = record { Of = RatRoutine; view = λ y. val.routine y; Says = u.Unit }
reading n.Header = record { Of = Place × Header; view = λ y. val.heading y.0 y.1; Says = Placed u.AHeader }
reading n.TypedStart = record { Of = Typed; view = view_typed; Says = SaysTyped }
reading n.TypeWord = record { Of = Token; view = λ y. val.tok y; Says = λ a b y. (y.place ≡ place_at a) × d.TypeName a b (type_word (val.tok y)) }
reading n.Formals = record { Of = List Text; view = λ y. val.names y; Says = Formals }
reading n.FormalList = record { Of = List Text; view = λ y. val.names y; Says = u.Formals }
reading n.FormalMore = record { Of = List Text; view = λ y. val.names y; Says = Tail Name }
reading n.Body = record {
  Of = Commands;
  view = λ y. val.commands y;
  Says = λ a b y. (m k j : Tokens) × s.Statements a m y × Lines m k × Word (codes "END") k j × Stop j b;
}
reading n.Ending = open_reading (λ a b y. Stop a b)
reading n.Statement = command_reading (λ a b y. Lined s.Statement a b y.1)
reading n.Statements = record { Of = Commands; view = λ y. val.commands y; Says = Lined s.Statements }
reading n.Item = command_reading (λ a b y. Lined s.Statement a b y.1)
reading n.Bare = command_reading (Placed (Lined s.Body))
reading n.Untyped = command_reading (Placed (Lined s.Body))
reading n.Condition = formula_reading e.Condition
reading n.ElsePart = record { Of = Option (Place × Command); view = perhaps (λ y. val.command y.0 y.1); Says = Else }
reading n.UntilPart = record { Of = Option (Place × Formula); view = perhaps (λ y. val.located y.0 y.1); Says = Until }
reading n.Part = open_reading (λ a b y. Perhaps p.Simple a b (act_part y))
reading n.Test = open_reading (λ a b y. Perhaps e.Expr a b (formula_part y))
reading n.Count = open_reading (λ a b y. s.Times a b (count_or_one y))
reading n.Outcome = open_reading (λ a b y. Perhaps e.Condition a b (formula_part y))
reading n.Lines = open_reading (λ a b y. Lines a b)
reading n.Clauses = record { Of = tree.Clauses; view = λ y. val.clauses y; Says = Lined s.Clauses }
reading n.Clause = record {
  Of = tree.Clauses → tree.Clauses;
  view = λ y. val.clause y;
  Says = Lined (λ a b y. (c : Tokens) (cs : tree.Clauses) → s.Clauses b c cs → s.Clauses a c (y cs));
}
reading n.Plain = deed_reading (Placed p.Plain)
reading n.Simple = deed_reading (Placed p.Simple)
reading n.GoWords = open_reading (λ a b y. (place_in y ≡ place_at a) × p.GoTo a b)
reading n.Target = deed_reading (λ a b y. (g : Tokens) → p.GoTo g a → p.Plain g b y.1)
reading n.NumberMore = record { Of = List ℕ; view = λ y. val.numbers y; Says = Tail d.Natural }
reading n.StopNumber = open_reading (λ a b y. (g : Tokens) → Word (codes "STOP") g a → p.Plain g b (AStop (octal_if_any y)))
reading n.Actuals = formulas_reading (λ a b y. (g h : Tokens) (x : Text) → Word (codes "CALL") g h → Name h a x → p.Simple g b (Invoke x (chained y)))
reading n.Actual = formula_reading p.Actual
reading n.ActualMore = formulas_reading (Tail p.Actual)
reading n.Par = record { Of = f66.Par; view = λ y. val.par y; Says = d.Parameter }
reading n.Range = record { Of = part.Range; view = λ y. val.range y; Says = λ a b y. d.Range a b y.first y.last y.step }
reading n.StepPart = open_reading
    (λ a b y. (g h k : Tokens) (v w : f66.Par) → d.Parameter g h v → Sign signs.Comma h k → d.Parameter k a w → d.Range g b v w (step_or_one y))
reading n.Entries = record { Of = List f66.Entry; view = λ y. val.entries y; Says = λ a b y. d.AnyEntries a b (listed y) }
reading n.Entry = record { Of = f66.Entry; view = λ y. val.entry y; Says = d.Entry }
reading n.EntryMore = record {
  Of = List f66.Entry;
  view = λ y. val.entries y;
  Says = λ a b y. (g : Tokens) (x : f66.Entry) → d.Entry g a x → d.SomeEntries g b (listed (x ∷ y));
}
reading n.Loop = record { Of = f66.Entry; view = λ y. val.entry y; Says = d.Entry }
reading n.LoopRest = record {
  Of = part.LoopRest;
  view = λ y. val.rest y;
  Says = λ a b y. (g h : Tokens) (x : f66.Entry) → d.Entry g h x → Sign signs.Comma h a → LoopTail g b (x ∷ y.list) y.variable y.range;
}
reading n.NameRest = record { Of = RestStart; view = view_start; Says = SaysStart }
reading n.Element = formulas_reading Arguments
reading n.DeclaredList = record { Of = List f66.Declared; view = λ y. val.declareds y; Says = Listed d.Declared }
reading n.DeclaredMore = record { Of = List f66.Declared; view = λ y. val.declareds y; Says = Tail d.Declared }
reading n.Declared = record { Of = f66.Declared; view = λ y. val.declared y; Says = d.Declared }
reading n.Sizes = record {
  Of = List f66.Par;
  view = λ y. val.pars y;
  Says = λ a b y. (g : Tokens) (x : Text) → Name g a x → d.Declared g b (record { name = x; sizes = y });
}
reading n.ParMore = record { Of = List f66.Par; view = λ y. val.pars y; Says = Tail d.Parameter }
reading n.FirstArea = record {
  Of = f66.Area;
  view = λ y. val.area y;
  Says = λ a b y. (c : Tokens) (xs : List f66.Area) → Several d.Area b c xs → d.Areas a c (y ∷ xs);
}
reading n.Area = record { Of = f66.Area; view = λ y. val.area y; Says = d.Area }
reading n.AreaName = open_reading
    (λ a b y. (g h k : Tokens) (ds : List f66.Declared) → Sign signs.Slash g a → Sign signs.Slash b h → Listed d.Declared h k ds →
    d.Area g k (record { name = name_if_any y; list = ds }))
reading n.AreaMore = record { Of = List f66.Area; view = λ y. val.areas y; Says = Several d.Area }
reading n.Alias = formulas_reading d.Alias
reading n.AliasMore = record { Of = List (List Formula); view = λ y. val.groups y; Says = Tail d.Alias }
reading n.RefMore = formulas_reading (Tail e.Ref)
reading n.Preset = record { Of = f66.PresetPart; view = λ y. val.preset y; Says = d.Preset }
reading n.PresetMore = record { Of = List f66.PresetPart; view = λ y. val.presets y; Says = Tail d.Preset }
reading n.Datum = record { Of = ℕ × Formula; view = λ y. val.datum y.0 y.1; Says = d.Datum }
reading n.DatumMore = record { Of = List (ℕ × Formula); view = λ y. val.data_values y; Says = Tail d.Datum }
reading n.Repetition = record { Of = Option Formula; view = perhaps (λ y. val.formula y); Says = Repeated }
reading n.Constant = formula_reading d.Value
reading n.Unnumbered = formula_reading d.Value
reading n.Fields = fields_reading f.Fields
reading n.AfterEdit = fields_reading (λ a b y. (g : Tokens) (x : fields.Fields → fields.Fields) → f.Field g a x → f.SomeFields g b (x y))
reading n.NextField = fields_reading f.SomeFields
reading n.AfterSlash = fields_reading (λ a b y. (g : Tokens) → Sign signs.Slash g a → f.SomeFields g b (fields.Single 1 fields.Slash y))
reading n.Edit = record { Of = fields.Fields → fields.Fields; view = λ y. val.field y; Says = f.Field }
reading n.Counted = open_reading (λ a b y. (g : Tokens) (k : ℕ) → f.Count g a k → f.Field g b (counted_field k y))
reading n.Expr = formula_reading e.Expr
reading n.OrTail = joins_reading e.Expr e.Expr
reading n.Conjunction = formula_reading e.Conj
reading n.AndTail = joins_reading e.Conj e.Conj
reading n.Negation = formula_reading e.Neg
reading n.Relational = formula_reading e.Rel
reading n.RelationTail = joins_reading e.Sum e.Rel
reading n.Sum = formula_reading e.Sum
reading n.FirstTerm = formula_reading e.Sum
reading n.SumTail = joins_reading e.Sum e.Sum
reading n.Term = formula_reading e.Term
reading n.TermTail = joins_reading e.Term e.Term
reading n.Factor = formula_reading e.Factor
reading n.PowerTail = joins_reading e.Prime e.Factor
reading n.Prime = open_reading (λ a b y. e.Prime a b (as_formula y))
reading n.Ref = record { Of = Place × Formula; view = λ y. val.located y.0 y.1; Says = Placed e.Ref }
reading n.Arguments = record {
  Of = Option (List Formula);
  view = perhaps (λ y. val.formulas y);
  Says = λ a b y. (g : Tokens) (x : Text) → Name g a x → e.Ref g b (applied x (perhaps (λ fs. val.formulas fs) y));
}
reading n.Subscripts = formulas_reading Arguments
reading n.ExprMore = formulas_reading (λ a b y. (g : Tokens) (x : Formula) → e.Expr g a x → e.Exprs g b (chained (x ∷ y)))
reading n.AnyName = record { Of = Token; view = λ y. val.tok y; Says = λ a b y. (y.place ≡ place_at a) × Name a b (name_in (val.tok y)) }
reading n.AnyNumber = record { Of = Token; view = λ y. val.tok y; Says = λ a b y. (y.place ≡ place_at a) × Number a b (integer_in (val.tok y)) }
