-- What holds of the expressions of commands, and of their plain statements, tells what holds of the statements that they become.
use Rattle.std.proofs.Common.{ℕ, ◌+◌, Bool, true, false, List, [], ◌∷◌, Option, Some, None}
use Rattle.std.specs.List.{AllByRecursion}
use Rattle.ground.specs.declared.place.Place.{Place}
use Rattle.f66_tree.specs.declared.declaration.TypeWord.TheVariants.{Integer}
use Rattle.f66_tree.specs.Syntax.{Text, Header, Formula, Ref, Group, Not, Formulas, NoFormula, AndFormula, Par, Act, Assign, Goto, When, Loop, Continue, Stop, Return, Typed, Line}
use Rattle.f66_tree.specs.Units.{is_main, name_of}
use Rattle.rat_tree.specs.Syntax.{Command, Empty, Block, If, IfElse, While, For, Repeat, RepeatUntil, Do, Switch, Break, Next, Plain, Labelled, Commands, NoCommand, AndCommand, Clauses, NoClause, AndClause}
use Rattle.rat_tree.specs.Syntax as ratfor_tree
use Rattle.rat_lower.specs.Code.{Rings, jump, unless, here, with_test, with_act, with_return, labels, all_labels, case_test, each_test, tests, default_label, code_of, all_code, bodies, have_switch, ends_itself, end_unless, declared_if, unit_code}

abbrev pub IfAny : {A : Type 0} → (A → Type 0) → Option A → Type 0
IfAny P None = Unit {0}
IfAny P (Some x) = P x

-- of expressions, and of plain statements
module _ (Fine : Formula → Type 0) (Good : Act → Type 0) where
  abbrev pub AllFine : Formulas → Type 0
  AllFine NoFormula = Unit {0}
  AllFine (AndFormula e es) = Fine e × AllFine es

  abbrev mutual
    pub Holds : Command → Type 0
    Holds (Empty p) = Unit {0}
    Holds (Block p ss) = HoldIn ss
    Holds (If p e c) = Fine e × Holds c
    Holds (IfElse p e c d) = Fine e × Holds c × Holds d
    Holds (While p e c) = Fine e × Holds c
    Holds (For p a e b c) = IfAny Good a × IfAny Fine e × IfAny Good b × Holds c
    Holds (Repeat p c) = Holds c
    Holds (RepeatUntil p c e q) = Holds c × Fine e
    Holds (Do p x a b d c) = Holds c
    Holds (Switch p e cs) = Fine e × HoldAmong cs
    Holds (Break p n) = Unit {0}
    Holds (Next p n) = Unit {0}
    Holds (ratfor_tree.Return p e) = IfAny Fine e
    Holds (Plain l p a) = Good a
    Holds (Labelled l p c) = Holds c

    pub HoldIn : Commands → Type 0
    HoldIn NoCommand = Unit {0}
    HoldIn (AndCommand c ss) = Holds c × HoldIn ss

    pub HoldAmong : Clauses → Type 0
    HoldAmong NoClause = Unit {0}
    HoldAmong (AndClause es fallback ss p cs) = AllFine es × HoldIn ss × HoldAmong cs

  -- the statements that are made for commands are good, where their expressions are fine
  pub record AreGood : Type 0 where
    pub jumps : (l : ℕ) → Good (Goto l)
    pub continues : Good Continue
    pub stops : Good (Stop None)
    pub returns : Good Return
    pub loops : (l : ℕ) (x : Text) (a b c : Par) → Good (Loop l x a b c)
    pub declares : (x : Text) → Good (Typed Integer (record { name = x; sizes = [] } ∷ []))
    pub stores : (x : Text) (e : Formula) → Fine e → Good (Assign (Ref x) e)
    pub leaves : (e : Formula) (l : ℕ) → Fine e → Good (When (Not (Group e)) (Goto l))
    pub tests : (x : Text) (e : Formula) (l : ℕ) → Fine e → Good (When (case_test x e) (Goto l))

module _ (Fine : Formula → Type 0) (Good : Act → Type 0) (good : AreGood Fine Good) where
  abbrev AllGood : List Line → Type 0
  AllGood = AllByRecursion (λ (line : Line). Good line.act)

  act_good : (p : Place) (a : Option Act) (next : List Line) → IfAny Good a → AllGood next → AllGood (with_act p a next)
  act_good p None next h all = all
  act_good p (Some a) next h all = (h, all)

  test_good : (p : Place) (e : Option Formula) (l : ℕ) (next : List Line) → IfAny Fine e → AllGood next → AllGood (with_test p e l next)
  test_good p None l next h all = all
  test_good p (Some e) l next h all = (good.leaves e l h, all)

  return_good : (own : Text) (p : Place) (e : Option Formula) (next : List Line) → IfAny Fine e → AllGood next → AllGood (with_return own p e next)
  return_good own p None next h all = (good.returns, all)
  return_good own p (Some e) next h all = (good.stores own e h, (good.returns, all))

  cases_good : (spare : Text) (p : Place) (es : Formulas) (l : ℕ) (next : List Line) → AllFine Fine Good es → AllGood next → AllGood (each_test spare p es l next)
  cases_good spare p NoFormula l next h all = all
  cases_good spare p (AndFormula e es) l next h all = (good.tests spare e l h.0, cases_good spare p es l next h.1 all)

  module _ (made : ℕ → ℕ) (spare own : Text) where
    tests_good : (cs : Clauses) (m : ℕ) (next : List Line) → HoldAmong Fine Good cs → AllGood next → AllGood (tests made spare own cs m next)
    tests_good NoClause m next h all = all
    tests_good (AndClause es fallback ss p cs) m next h all = cases_good spare p es (made m) (tests made spare own cs (m + 1 + all_labels ss) next) h.0 (tests_good cs (m + 1 + all_labels ss) next h.2 all)

    mutual
      code_good : (c : Command) (n : ℕ) (ls : Rings) (next : List Line) → Holds Fine Good c → AllGood next → AllGood (code_of made spare own c n ls next)
      code_good (Empty p) n ls next h all = all
      code_good (Block p ss) n ls next h all = all_good ss n ls next h all
      code_good (If p e c) n ls next h all = (good.leaves e (made n) h.0, code_good c (n + 1) ls (here (made n) p ∷ next) h.1 (good.continues, all))
      code_good (IfElse p e c d) n ls next h all =
          let other : List Line = code_of made spare own d (n + 2 + labels c) ls (here (made (n + 1)) p ∷ next) in
          let rest = code_good d (n + 2 + labels c) ls (here (made (n + 1)) p ∷ next) h.2 (good.continues, all) in
          (good.leaves e (made n) h.0, code_good c (n + 2) ls (jump p (made (n + 1)) ∷ here (made n) p ∷ other) h.1 (good.jumps (made (n + 1)), (good.continues, rest)))
      code_good (While p e c) n ls next h all =
          let ring : Rings = (made (n + 2), made (n + 1)) ∷ ls in
          let turn = code_good c (n + 3) ring (here (made (n + 1)) p ∷ jump p (made n) ∷ here (made (n + 2)) p ∷ next) h.1 (good.continues, (good.jumps (made n), (good.continues, all))) in
          (good.continues, (good.leaves e (made (n + 2)) h.0, turn))
      code_good (For p a e b c) n ls next h all =
          let ring : Rings = (made (n + 2), made (n + 1)) ∷ ls in
          let turn : List Line = jump p (made n) ∷ here (made (n + 2)) p ∷ next in
          let body : List Line = code_of made spare own c (n + 3) ring (here (made (n + 1)) p ∷ with_act p b turn) in
          let step = act_good p b turn h.2 (good.jumps (made n), (good.continues, all)) in
          let inside = code_good c (n + 3) ring (here (made (n + 1)) p ∷ with_act p b turn) h.3 (good.continues, step) in
          act_good p a (here (made n) p ∷ with_test p e (made (n + 2)) body) h.0 (good.continues, test_good p e (made (n + 2)) body h.1 inside)
      code_good (Repeat p c) n ls next h all =
          let ring : Rings = (made (n + 2), made (n + 1)) ∷ ls in
          (good.continues, code_good c (n + 3) ring (here (made (n + 1)) p ∷ jump p (made n) ∷ here (made (n + 2)) p ∷ next) h (good.continues, (good.jumps (made n), (good.continues, all))))
      code_good (RepeatUntil p c e q) n ls next h all =
          let ring : Rings = (made (n + 2), made (n + 1)) ∷ ls in
          (good.continues, code_good c (n + 3) ring (here (made (n + 1)) p ∷ unless q e (made n) ∷ here (made (n + 2)) p ∷ next) h.0 (good.continues, (good.leaves e (made n) h.1, (good.continues, all))))
      code_good (Do p x a b d c) n ls next h all =
          (good.loops (made n) x a b d, code_good c (n + 2) ((made (n + 1), made n) ∷ ls) (here (made n) p ∷ here (made (n + 1)) p ∷ next) h (good.continues, (good.continues, all)))
      code_good (Switch p e cs) n ls next h all =
          let out : ℕ = default_label made spare own cs (n + 1) (made n) in
          let after : List Line = here (made n) p ∷ next in
          let rest : List Line = jump p out ∷ bodies made spare own cs (n + 1) (made n) ls after in
          (good.stores spare e h.0, tests_good cs (n + 1) rest h.1 (good.jumps out, bodies_good cs (n + 1) (made n) ls after h.1 (good.continues, all)))
      code_good (Break p k) n ls next h all = (good.jumps _, all)
      code_good (Next p k) n ls next h all = (good.jumps _, all)
      code_good (ratfor_tree.Return p e) n ls next h all = return_good own p e next h all
      code_good (Plain l p a) n ls next h all = (h, all)
      code_good (Labelled l p c) n ls next h all = (good.continues, code_good c n ls next h all)

      all_good : (ss : Commands) (n : ℕ) (ls : Rings) (next : List Line) → HoldIn Fine Good ss → AllGood next → AllGood (all_code made spare own ss n ls next)
      all_good NoCommand n ls next h all = all
      all_good (AndCommand c ss) n ls next h all = code_good c n ls (all_code made spare own ss (n + labels c) ls next) h.0 (all_good ss (n + labels c) ls next h.1 all)

      bodies_good : (cs : Clauses) (m out : ℕ) (ls : Rings) (next : List Line) → HoldAmong Fine Good cs → AllGood next → AllGood (bodies made spare own cs m out ls next)
      bodies_good NoClause m out ls next h all = all
      bodies_good (AndClause es fallback ss p cs) m out ls next h all =
          let rest : List Line = bodies made spare own cs (m + 1 + all_labels ss) out ls next in
          (good.continues, all_good ss (m + 1) ls (jump p out ∷ rest) h.1 (good.jumps out, bodies_good cs (m + 1 + all_labels ss) out ls next h.2 all))

  -- ---- units ----

  declared_good : (b : Bool) (p : Place) (spare : Text) (code : List Line) → AllGood code → AllGood (declared_if b p spare code)
  declared_good true p spare code all = (good.declares spare, all)
  declared_good false p spare code all = all

  end_good : (main ends : Bool) (p : Place) → AllGood (end_unless main ends p)
  end_good true true p = tt
  end_good true false p = (good.stops, tt)
  end_good false true p = tt
  end_good false false p = (good.returns, tt)

  pub unit_good : (made : ℕ → ℕ) (spare : Text) (h : Header) (first last : Place) (ss : Commands) → HoldIn Fine Good ss → AllGood (unit_code made spare h first last ss)
  unit_good made spare h first last ss hold =
      let ends : Bool = ends_itself h (all_code made spare (name_of h) ss 0 [] []) in
      let ending : List Line = end_unless (is_main h) ends last in
      declared_good (have_switch ss) first spare (all_code made spare (name_of h) ss 0 [] ending) (all_good made spare (name_of h) ss 0 [] ending hold (end_good (is_main h) ends last))
