-- What the parts of a unit say of names, as statements of FORTRAN: a condition says what that of a logical IF does, a value
-- what that of an arithmetic IF does, the words of a `do` what a DO does, and a value that a function returns what its
-- assignment to the function's name does.
use Rattle.std.specs.Prelude.{List, [], ◌∷◌, ◌++◌, Option, Some, None}
use Rattle.std.specs.List.{flat_map}
use Rattle.f66_tree.specs.Syntax.{Formula, Ref, Formulas, NoFormula, AndFormula, Header, FuncUnit, Act, Assign, Sign, When, Loop, Continue}
use Rattle.f66_tree.specs.Units.{Context}
use Rattle.f66_names.specs.Declaring.{context_by}
use Rattle.rat_check.specs.Parts.{Form, Bare, RepeatHead, Statement, Condition, Selector, CaseList, ForHead, DoHead, LoopExit, ReturnHead, Part}

abbrev pub condition_act : Formula → Act
condition_act e = When e Continue

abbrev pub value_act : Formula → Act
value_act e = Sign e 0 0 0

abbrev pub condition_if_any : Option Formula → List Act
condition_if_any None = []
condition_if_any (Some e) = condition_act e ∷ []

abbrev pub said_if_any : Option Act → List Act
said_if_any None = []
said_if_any (Some a) = a ∷ []

abbrev pub value_acts : Formulas → List Act
value_acts NoFormula = []
value_acts (AndFormula e es) = value_act e ∷ value_acts es

-- outside a function it says what a value does
abbrev pub returned_act : Header → Formula → Act
returned_act (FuncUnit t x ds) e = Assign (Ref x) e
returned_act h e = value_act e

abbrev pub returned_if_any : Header → Option Formula → List Act
returned_if_any h None = []
returned_if_any h (Some e) = returned_act h e ∷ []

abbrev pub said_by : Header → Form → List Act
said_by h Bare = []
said_by h RepeatHead = []
said_by h (Statement a) = a ∷ []
said_by h (Condition e) = condition_act e ∷ []
said_by h (Selector e) = value_act e ∷ []
said_by h (CaseList es second) = value_acts es
said_by h (ForHead a e b) = said_if_any a ++ (condition_if_any e ++ said_if_any b)
said_by h (DoHead x a b c) = Loop 0 x a b c ∷ []
said_by h (LoopExit n) = []
said_by h (ReturnHead e) = returned_if_any h e

abbrev pub said_in : Header → List Part → List Act
said_in h vs = flat_map (λ v. said_by h v.form) vs

-- what names mean in a unit with this header of these parts
abbrev pub context_of_parts : Header → List Part → Context
context_of_parts h vs = context_by h (said_in h vs)
