-- What holds of all that the parts of a unit say holds of all that its commands say.
use Rattle.std.proofs.Common.{◌≡◌, ℕ, suc, Bool, true, false, true≢false, List, [], ◌∷◌, ◌++◌, Option, Some, None, refl}
use Rattle.std.specs.Prelude.{◌||◌}
use Rattle.f66_tree.specs.Syntax.{Header, MainUnit, SubUnit, FuncUnit, DataUnit, Text, Formula, Ref, Formulas, NoFormula, AndFormula, Act, Assign}
use Rattle.f66_tree.specs.Units.{name_of}
use Rattle.f66_tree.specs.Uses.{NamesOfAll, NamesOfAct}
use Rattle.rat_tree.specs.Syntax.{Command, Empty, Block, If, IfElse, While, For, Repeat, RepeatUntil, Do, Switch, Break, Next, Return, Plain, Labelled, Commands, NoCommand, AndCommand, Clauses, NoClause, AndClause}
use Rattle.rat_tree.specs.Uses.{NamesIfAny, ActIfAny, NamesOfCommand, NamesOfCommands, NamesOfClauses}
use Rattle.f66_tree.specs.Syntax as act
use Rattle.rat_check.specs.Parts.{Form, Statement as TheForm, Condition, ReturnHead, Labels, Part, part, with_labels, parts_of, parts_in, clause_parts}
use Rattle.rat_check.specs.Said.{value_acts, said_if_any, condition_if_any, returned_if_any}
use Rattle.rat_check.specs.Rules.{returns_wrong, UnitRules}
use Rattle.rat_lower.proofs.Accepted.NoFault.{AllParts, split, unmarked, Fine, AllFine, AllOf, SaysSo, of_split}
use Rattle.rat_lower.proofs.Soundness.Kept.{GoodConditionIfAny, GoodActIfAny, GoodReturn, GoodValues, SaysGood, AllSayGood, ClausesSayGood}

-- a statement that returns
abbrev is_return : Form → Bool
is_return (ReturnHead e) = true
is_return _ = false

module _ (Good : Act → Type 0) (u : UnitRules) where
  abbrev header : Header
  header = u.context.header

  -- a part that returns does such a thing
  abbrev pub MayReturn : Part → Type 0
  MayReturn v = is_return v.form ≡ true → Good act.Return

  pub any_return : Good act.Return → (vs : List Part) → AllParts MayReturn vs
  any_return g [] = tt
  any_return g (v ∷ vs) = ((λ e. g), any_return g vs)

  -- a part of Ratfor that says such things
  abbrev IsGood : Part → Type 0
  IsGood v = Fine u v × SaysSo header Good v × MayReturn v

  pub both_good : (vs : List Part) → AllFine u vs → AllParts (SaysSo header Good) vs → AllParts MayReturn vs → AllParts IsGood vs
  both_good [] h k r = tt
  both_good (v ∷ vs) h k r = ((h.0, k.0, r.0), both_good vs h.1 k.1 r.1)

  act_good : (o : Option Act) → AllOf Good (said_if_any o) → GoodActIfAny Good o
  act_good None h = tt
  act_good (Some a) h = h.0

  condition_good : (o : Option Formula) → AllOf Good (condition_if_any o) → GoodConditionIfAny Good o
  condition_good None h = tt
  condition_good (Some e) h = h.0

  values_good : (es : Formulas) → AllOf Good (value_acts es) → GoodValues Good es
  values_good NoFormula h = tt
  values_good (AndFormula e es) h = (h.0, values_good es h.1)

  -- a function's name takes the value that it returns
  return_good : (h : Header) (e : Option Formula) → returns_wrong h (ReturnHead e) ≡ false → AllOf Good (returned_if_any h e) → Good act.Return → GoodReturn Good (name_of h) e
  return_good h None right says returns = returns
  return_good MainUnit (Some e) right says returns = absurd (true≢false right)
  return_good (SubUnit x ds) (Some e) right says returns = absurd (true≢false right)
  return_good (FuncUnit t x ds) (Some e) right says returns = (says.0, returns)
  return_good DataUnit (Some e) right says returns = absurd (true≢false right)

  abbrev own : Text
  own = name_of header

  mutual
    pub good : (c : Command) (k : ℕ) (r : Labels) (l : Option ℕ) → AllParts IsGood (parts_of k r l c) → SaysGood Good own c
    good (Empty p) k r l h = tt
    good (Block p ss) k r l h = all_good ss k (with_labels ss r) h.1
    good (If p e c) k r l h = (h.0.1.0, good c k r None h.1)
    good (IfElse p e c d) k r l h =
        let both = split IsGood (parts_of k r None c) (parts_of k r None d) h.1 in
        (h.0.1.0, good c k r None both.0, good d k r None both.1)
    good (While p e c) k r l h = (h.0.1.0, good c (suc k) r None h.1)
    good (For p first e step c) k r l h =
        let a = of_split Good (said_if_any first) (condition_if_any e ++ said_if_any step) h.0.1 in
        let b = of_split Good (condition_if_any e) (said_if_any step) a.1 in
        (act_good first a.0, condition_good e b.0, act_good step b.1, good c (suc k) r None h.1)
    good (Repeat p c) k r l h = good c (suc k) r None h.1
    good (RepeatUntil p c e q) k r l h =
        let both = split IsGood (parts_of (suc k) r None c) (part k r None q (Condition e) ∷ []) h.1 in
        (good c (suc k) r None both.0, both.1.0.1.0)
    good (Do p x i j m c) k r l h = (h.0.1.0, good c (suc k) r None h.1)
    good (Switch p e cs) k r l h = (h.0.1.0, clauses_good cs k r false h.1)
    good (Break p n) k r l h = tt
    good (Next p n) k r l h = tt
    good (Return p e) k r l h = return_good header e h.0.0.returned h.0.1 (h.0.2 refl)
    good (Plain m p a) k r l h = (unmarked IsGood k r l p (part k r m p (TheForm a) ∷ []) h).0.1.0
    good (Labelled m p c) k r l h = good c k r (Some m) (unmarked IsGood k r l p (parts_of k r (Some m) c) h)

    pub all_good : (ss : Commands) (k : ℕ) (r : Labels) → AllParts IsGood (parts_in k r ss) → AllSayGood Good own ss
    all_good NoCommand k r h = tt
    all_good (AndCommand c ss) k r h =
        let both = split IsGood (parts_of k r None c) (parts_in k r ss) h in
        (good c k r None both.0, all_good ss k r both.1)

    clauses_good : (cs : Clauses) (k : ℕ) (r : Labels) (seen : Bool) → AllParts IsGood (clause_parts k r seen cs) → ClausesSayGood Good own cs
    clauses_good NoClause k r seen h = tt
    clauses_good (AndClause es fallback ss p cs) k r seen h =
        let both = split IsGood (parts_in k (with_labels ss r) ss) (clause_parts k r (seen || fallback) cs) h.1 in
        (values_good es h.0.1, all_good ss k (with_labels ss r) both.0, clauses_good cs k r (seen || fallback) both.1)

-- ---- names ----

module _ (K : Text → Type 0) (own : Text) where
  step_named : (o : Option Act) → GoodActIfAny (NamesOfAct K) o → ActIfAny K o
  step_named None h = tt
  step_named (Some a) h = h

  test_named : (o : Option Formula) → GoodConditionIfAny (NamesOfAct K) o → NamesIfAny K o
  test_named None h = tt
  test_named (Some e) h = h.0

  return_named : (o : Option Formula) → GoodReturn (NamesOfAct K) own o → NamesIfAny K o
  return_named None h = tt
  return_named (Some e) h = h.0.1

  values_named : (es : Formulas) → GoodValues (NamesOfAct K) es → NamesOfAll K es
  values_named NoFormula h = tt
  values_named (AndFormula e es) h = (h.0, values_named es h.1)

  mutual
    named : (c : Command) → SaysGood (NamesOfAct K) own c → NamesOfCommand K c
    named (Empty p) h = tt
    named (Block p ss) h = all_named ss h
    named (If p e c) h = (h.0.0, named c h.1)
    named (IfElse p e c d) h = (h.0.0, named c h.1, named d h.2)
    named (While p e c) h = (h.0.0, named c h.1)
    named (For p first e step c) h = (step_named first h.0, test_named e h.1, step_named step h.2, named c h.3)
    named (Repeat p c) h = named c h
    named (RepeatUntil p c e q) h = (named c h.0, h.1.0)
    named (Do p x i j m c) h = (h.0.0, h.0.1, h.0.2, h.0.3, named c h.1)
    named (Switch p e cs) h = (h.0, clauses_named cs h.1)
    named (Break p n) h = tt
    named (Next p n) h = tt
    named (Return p e) h = return_named e h
    named (Plain m p a) h = h
    named (Labelled m p c) h = named c h

    pub all_named : (ss : Commands) → AllSayGood (NamesOfAct K) own ss → NamesOfCommands K ss
    all_named NoCommand h = tt
    all_named (AndCommand c ss) h = (named c h.0, all_named ss h.1)

    clauses_named : (cs : Clauses) → ClausesSayGood (NamesOfAct K) own cs → NamesOfClauses K cs
    clauses_named NoClause h = tt
    clauses_named (AndClause es fallback ss p cs) h = (values_named es h.0, all_named ss h.1, clauses_named cs h.2)
