-- What holds of the names in the code of a unit holds of those in the unit itself.
use Rattle.std.proofs.Common.{ℕ, ◌+◌, Bool, true, false, List, [], Option, Some, None}
use Rattle.std.specs.Prelude.{⊤}
use Rattle.ground.specs.declared.place.Place.{Place}
use Rattle.f66_tree.specs.Syntax.{Text, Formula, Formulas, NoFormula, AndFormula, Act, Line}
use Rattle.f66_tree.specs.Uses.{Using, NamesOfAllBy, NamesOfLinesBy}
use Rattle.rat_tree.specs.Syntax.{Command, Empty, Block, If, IfElse, While, For, Repeat, RepeatUntil, Do, Switch, Break, Next, Return, Plain, Labelled, Commands, NoCommand, AndCommand, Clauses, NoClause, AndClause}
use Rattle.rat_tree.specs.Uses.{NamesIfAnyBy, ActIfAnyBy, NamesOfCommandBy, NamesOfCommandsBy, NamesOfClausesBy}
use Rattle.rat_lower.specs.Code.{Rings, with_test, with_act, each_test, tests, bodies, code_of, all_code, declared_if}

module _ (U : Using) (made : ℕ → ℕ) (spare own : Text) where
  abbrev Lines : List Line → Type 0
  Lines = NamesOfLinesBy U

  test_names : (p : Place) (o : Option Formula) (l : ℕ) (next : List Line) → Lines (with_test p o l next) → NamesIfAnyBy U o × Lines next
  test_names p None l next h = (tt, h)
  test_names p (Some e) l next h = (h.0.0, h.1)

  step_names : (p : Place) (o : Option Act) (next : List Line) → Lines (with_act p o next) → ActIfAnyBy U o × Lines next
  step_names p None next h = (tt, h)
  step_names p (Some a) next h = (h.0, h.1)

  each_names : (p : Place) (es : Formulas) (l : ℕ) (next : List Line) → Lines (each_test spare p es l next) → NamesOfAllBy U es × Lines next
  each_names p NoFormula l next h = (tt, h)
  each_names p (AndFormula e es) l next h = let k = each_names p es l next h.1 in ((h.0.0.1, k.0), k.1)

  -- the case expressions of all clauses
  abbrev CaseNames : Clauses → Type 0
  CaseNames NoClause = ⊤
  CaseNames (AndClause es fallback ss p cs) = NamesOfAllBy U es × CaseNames cs

  tests_names : (cs : Clauses) (m : ℕ) (next : List Line) → Lines (tests made spare own cs m next) → CaseNames cs × Lines next
  tests_names NoClause m next h = (tt, h)
  tests_names (AndClause es fallback ss p cs) m next h =
      let a = each_names p es (made m) _ h in
      let c = tests_names cs _ next a.1 in
      ((a.0, c.0), c.1)

  mutual
    code_names : (s : Command) (n : ℕ) (ls : Rings) (next : List Line) → Lines (code_of made spare own s n ls next) → NamesOfCommandBy U s × Lines next
    code_names (Empty p) n ls next h = (tt, h)
    code_names (Block p ss) n ls next h = all_names ss n ls next h
    code_names (If p e s) n ls next h = let k = code_names s (n + 1) ls _ h.1 in ((h.0.0, k.0), k.1.1)
    code_names (IfElse p e s t) n ls next h =
        let k = code_names s (n + 2) ls _ h.1 in
        let j = code_names t _ ls _ k.1.1.1 in
        ((h.0.0, k.0, j.0), j.1.1)
    code_names (While p e s) n ls next h = let k = code_names s (n + 3) _ _ h.1.1 in ((h.1.0.0, k.0), k.1.1.1.1)
    code_names (For p first e step s) n ls next h =
        let a = step_names p first _ h in
        let t = test_names p e _ _ a.1.1 in
        let k = code_names s (n + 3) _ _ t.1 in
        let c = step_names p step _ k.1.1 in
        ((a.0, t.0, c.0, k.0), c.1.1.1)
    code_names (Repeat p s) n ls next h = let k = code_names s (n + 3) _ _ h.1 in (k.0, k.1.1.1.1)
    code_names (RepeatUntil p s e q) n ls next h = let k = code_names s (n + 3) _ _ h.1 in ((k.0, k.1.1.0.0), k.1.1.1.1)
    code_names (Do p x a b c s) n ls next h = let k = code_names s (n + 2) _ _ h.1 in ((h.0.0, h.0.1, h.0.2, h.0.3, k.0), k.1.1.1)
    code_names (Switch p e cs) n ls next h =
        let t = tests_names cs (n + 1) _ h.1 in
        let k = bodies_names cs t.0 (n + 1) (made n) ls _ t.1.1 in
        ((h.0.1, k.0), k.1.1)
    code_names (Break p k) n ls next h = (tt, h.1)
    code_names (Next p k) n ls next h = (tt, h.1)
    code_names (Return p None) n ls next h = (tt, h.1)
    code_names (Return p (Some e)) n ls next h = (h.0.1, h.1.1)
    code_names (Plain l p a) n ls next h = (h.0, h.1)
    code_names (Labelled l p s) n ls next h = code_names s n ls next h.1

    pub all_names : (ss : Commands) (n : ℕ) (ls : Rings) (next : List Line) → Lines (all_code made spare own ss n ls next) → NamesOfCommandsBy U ss × Lines next
    all_names NoCommand n ls next h = (tt, h)
    all_names (AndCommand s ss) n ls next h =
        let k = code_names s n ls _ h in
        let j = all_names ss _ ls next k.1 in
        ((k.0, j.0), j.1)

    bodies_names : (cs : Clauses) → CaseNames cs → (m out : ℕ) (ls : Rings) (next : List Line) → Lines (bodies made spare own cs m out ls next) → NamesOfClausesBy U cs × Lines next
    bodies_names NoClause t m out ls next h = (tt, h)
    bodies_names (AndClause es fallback ss p cs) t m out ls next h =
        let k = all_names ss (m + 1) ls _ h.1 in
        let j = bodies_names cs t.1 _ out ls next k.1.1 in
        ((t.0, k.0, j.0), j.1)

  -- with a declaration before them, which uses no name
  pub unit_names : (v : Bool) (first : Place) (ss : Commands) (next : List Line) → Lines (declared_if v first spare (all_code made spare own ss 0 [] next)) → NamesOfCommandsBy U ss
  unit_names true first ss next h = (all_names ss 0 [] next h.1).0
  unit_names false first ss next h = (all_names ss 0 [] next h).0
