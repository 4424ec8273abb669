-- What the statements weigh that commands become, where neither a label in a statement nor a name that it stores in changes its weight.
use Rattle.std.proofs.Common.{◌≡◌, ◌≤◌, ℕ, ◌+◌, ◌*◌, arith, Bool, true, false, List, [], ◌∷◌, Option, Some, None}
use Rattle.std.specs.Prelude.{max}
use Rattle.ground.specs.declared.place.Place.{Place}
use Rattle.f66_tree.specs.declared.declaration.TypeWord.TheVariants.{Integer}
use Rattle.f66_tree.specs.Syntax.{Text, Header, Formula, Ref, Group, Not, Formulas, NoFormula, AndFormula, Par, Act, Assign, Goto, When, Loop, Continue, Stop, Return, Typed, Line}
use Rattle.f66_tree.specs.Units.{is_main, name_of}
use Rattle.rat_tree.specs.Syntax.{Command, Empty, Block, If, IfElse, While, For, Repeat, RepeatUntil, Do, Switch, Break, Next, Plain, Labelled, Commands, NoCommand, AndCommand, Clauses, NoClause, AndClause}
use Rattle.rat_tree.specs.Syntax as ratfor_tree
use Rattle.rat_lower.specs.Code.{Rings, label_behind, label_again, jump, unless, here, with_test, with_act, with_return, labels, all_labels, case_test, each_test, tests, default_label, code_of, all_code, bodies, have_switch, ends_itself, end_unless, declared_if, unit_code}
use Rattle.rat_tree.specs.Meaning.{pred_of}
use Rattle.rat_room.proofs.Weights.{total, if_any}

-- by what the command says, with 0 for each label and no letter for each name
module _ (weigh : Act → ℕ) where
  -- the test that goes past what it guards
  abbrev pub guard_weight : Formula → ℕ
  guard_weight e = weigh (When (Not (Group e)) (Goto 0))

  abbrev pub return_weight : Option Formula → ℕ
  return_weight None = weigh Return
  return_weight (Some e) = weigh (Assign (Ref []) e) + weigh Return

  abbrev pub cases_weight : Formulas → ℕ
  cases_weight NoFormula = 0
  cases_weight (AndFormula e es) = weigh (When (case_test [] e) (Goto 0)) + cases_weight es

  abbrev mutual
    pub command_weight : Command → ℕ
    command_weight (Empty p) = 0
    command_weight (Block p ss) = commands_weight ss
    command_weight (If p e c) = guard_weight e + weigh Continue + command_weight c
    command_weight (IfElse p e c d) = guard_weight e + weigh (Goto 0) + 2 * weigh Continue + command_weight c + command_weight d
    command_weight (While p e c) = guard_weight e + weigh (Goto 0) + 3 * weigh Continue + command_weight c
    command_weight (For p a e b c) = if_any weigh a + if_any guard_weight e + if_any weigh b + weigh (Goto 0) + 3 * weigh Continue + command_weight c
    command_weight (Repeat p c) = weigh (Goto 0) + 3 * weigh Continue + command_weight c
    command_weight (RepeatUntil p c e q) = guard_weight e + 3 * weigh Continue + command_weight c
    command_weight (Do p x a b d c) = weigh (Loop 0 x a b d) + 2 * weigh Continue + command_weight c
    command_weight (Switch p e cs) = weigh (Assign (Ref []) e) + weigh (Goto 0) + weigh Continue + clauses_weight cs
    command_weight (Break p n) = weigh (Goto 0)
    command_weight (Next p n) = weigh (Goto 0)
    command_weight (ratfor_tree.Return p e) = return_weight e
    command_weight (Plain l p a) = weigh a
    command_weight (Labelled l p c) = weigh Continue + command_weight c

    pub commands_weight : Commands → ℕ
    commands_weight NoCommand = 0
    commands_weight (AndCommand c ss) = command_weight c + commands_weight ss

    -- of the tests of clauses, and of their statements
    pub clauses_weight : Clauses → ℕ
    clauses_weight NoClause = 0
    clauses_weight (AndClause es fallback ss p cs) = weigh (Goto 0) + weigh Continue + cases_weight es + commands_weight ss + clauses_weight cs

  -- the tests alone, and the statements alone
  abbrev tests_among : Clauses → ℕ
  tests_among NoClause = 0
  tests_among (AndClause es fallback ss p cs) = cases_weight es + tests_among cs

  abbrev bodies_among : Clauses → ℕ
  bodies_among NoClause = 0
  bodies_among (AndClause es fallback ss p cs) = weigh (Goto 0) + weigh Continue + commands_weight ss + bodies_among cs

  both_among : (cs : Clauses) → tests_among cs + bodies_among cs ≡ clauses_weight cs
  both_among NoClause = omega arith
  both_among (AndClause es fallback ss p cs) = omega (arith, both_among cs)

  -- other labels and names change nothing
  pub record IsSteady : Type 0 where
    pub jumps : (l : ℕ) → weigh (Goto l) ≡ weigh (Goto 0)
    pub guards : (e : Formula) (l : ℕ) → weigh (When (Not (Group e)) (Goto l)) ≡ weigh (When (Not (Group e)) (Goto 0))
    pub tests : (x : Text) (e : Formula) (l : ℕ) → weigh (When (case_test x e) (Goto l)) ≡ weigh (When (case_test [] e) (Goto 0))
    pub stores : (x : Text) (e : Formula) → weigh (Assign (Ref x) e) ≡ weigh (Assign (Ref []) e)
    pub loops : (l : ℕ) (x : Text) (a b c : Par) → weigh (Loop l x a b c) ≡ weigh (Loop 0 x a b c)

module _ (weigh : Act → ℕ) (steady : IsSteady weigh) where
  abbrev weights : List Line → ℕ
  weights lines = total (λ (line : Line). weigh line.act) lines

  act_weighs : (p : Place) (a : Option Act) (next : List Line) → weights (with_act p a next) ≡ if_any weigh a + weights next
  act_weighs p None next = omega arith
  act_weighs p (Some a) next = omega arith

  guard_weighs : (p : Place) (e : Option Formula) (l : ℕ) (next : List Line) → weights (with_test p e l next) ≡ if_any (guard_weight weigh) e + weights next
  guard_weighs p None l next = omega arith
  guard_weighs p (Some e) l next = omega (arith, steady.guards e l)

  return_weighs : (own : Text) (p : Place) (e : Option Formula) (next : List Line) → weights (with_return own p e next) ≡ return_weight weigh e + weights next
  return_weighs own p None next = omega arith
  return_weighs own p (Some e) next = omega (arith, steady.stores own e)

  cases_weigh : (spare : Text) (p : Place) (es : Formulas) (l : ℕ) (next : List Line) → weights (each_test spare p es l next) ≡ cases_weight weigh es + weights next
  cases_weigh spare p NoFormula l next = omega arith
  cases_weigh spare p (AndFormula e es) l next = omega (arith, steady.tests spare e l, cases_weigh spare p es l next)

  module _ (made : ℕ → ℕ) (spare own : Text) where
    tests_weigh : (cs : Clauses) (m : ℕ) (next : List Line) → weights (tests made spare own cs m next) ≡ tests_among weigh cs + weights next
    tests_weigh NoClause m next = omega arith
    tests_weigh (AndClause es fallback ss p cs) m next =
        omega (arith, cases_weigh spare p es (made m) (tests made spare own cs (m + 1 + all_labels ss) next), tests_weigh cs (m + 1 + all_labels ss) next)

    mutual
      code_weighs : (c : Command) (n : ℕ) (ls : Rings) (next : List Line) → weights (code_of made spare own c n ls next) ≡ command_weight weigh c + weights next
      code_weighs (Empty p) n ls next = omega arith
      code_weighs (Block p ss) n ls next = all_weigh ss n ls next
      code_weighs (If p e c) n ls next = omega (arith, steady.guards e (made n), code_weighs c (n + 1) ls (here (made n) p ∷ next))
      code_weighs (IfElse p e c d) n ls next =
          let rest : List Line = code_of made spare own d (n + 2 + labels c) ls (here (made (n + 1)) p ∷ next) in
          omega (
            arith,
            steady.guards e (made n),
            steady.jumps (made (n + 1)),
            code_weighs c (n + 2) ls (jump p (made (n + 1)) ∷ here (made n) p ∷ rest),
            code_weighs d (n + 2 + labels c) ls (here (made (n + 1)) p ∷ next),
          )
      code_weighs (While p e c) n ls next =
          let ring : Rings = (made (n + 2), made (n + 1)) ∷ ls in
          omega (arith, steady.guards e (made (n + 2)), steady.jumps (made n), code_weighs c (n + 3) ring (here (made (n + 1)) p ∷ jump p (made n) ∷ here (made (n + 2)) p ∷ next))
      code_weighs (For p a e b c) n ls next =
          let ring : Rings = (made (n + 2), made (n + 1)) ∷ ls in
          let turn : List Line = jump p (made n) ∷ here (made (n + 2)) p ∷ next in
          let body : List Line = code_of made spare own c (n + 3) ring (here (made (n + 1)) p ∷ with_act p b turn) in
          omega (
            arith,
            steady.jumps (made n),
            act_weighs p a (here (made n) p ∷ with_test p e (made (n + 2)) body),
            guard_weighs p e (made (n + 2)) body,
            code_weighs c (n + 3) ring (here (made (n + 1)) p ∷ with_act p b turn),
            act_weighs p b turn,
          )
      code_weighs (Repeat p c) n ls next =
          let ring : Rings = (made (n + 2), made (n + 1)) ∷ ls in
          omega (arith, steady.jumps (made n), code_weighs c (n + 3) ring (here (made (n + 1)) p ∷ jump p (made n) ∷ here (made (n + 2)) p ∷ next))
      code_weighs (RepeatUntil p c e q) n ls next =
          let ring : Rings = (made (n + 2), made (n + 1)) ∷ ls in
          omega (arith, steady.guards e (made n), code_weighs c (n + 3) ring (here (made (n + 1)) p ∷ unless q e (made n) ∷ here (made (n + 2)) p ∷ next))
      code_weighs (Do p x a b d c) n ls next =
          omega (arith, steady.loops (made n) x a b d, code_weighs c (n + 2) ((made (n + 1), made n) ∷ ls) (here (made n) p ∷ here (made (n + 1)) p ∷ next))
      code_weighs (Switch p e cs) n ls next =
          let out : ℕ = default_label made spare own cs (n + 1) (made n) in
          let after : List Line = here (made n) p ∷ next in
          let rest : List Line = jump p out ∷ bodies made spare own cs (n + 1) (made n) ls after in
          omega (arith, steady.stores spare e, steady.jumps out, tests_weigh cs (n + 1) rest, bodies_weigh cs (n + 1) (made n) ls after, both_among weigh cs)
      code_weighs (Break p k) n ls next = omega (arith, steady.jumps (label_behind ls (pred_of k)))
      code_weighs (Next p k) n ls next = omega (arith, steady.jumps (label_again ls (pred_of k)))
      code_weighs (ratfor_tree.Return p e) n ls next = return_weighs own p e next
      code_weighs (Plain l p a) n ls next = omega arith
      code_weighs (Labelled l p c) n ls next = omega (arith, code_weighs c n ls next)

      all_weigh : (ss : Commands) (n : ℕ) (ls : Rings) (next : List Line) → weights (all_code made spare own ss n ls next) ≡ commands_weight weigh ss + weights next
      all_weigh NoCommand n ls next = omega arith
      all_weigh (AndCommand c ss) n ls next = omega (arith, code_weighs c n ls (all_code made spare own ss (n + labels c) ls next), all_weigh ss (n + labels c) ls next)

      bodies_weigh : (cs : Clauses) (m out : ℕ) (ls : Rings) (next : List Line) → weights (bodies made spare own cs m out ls next) ≡ bodies_among weigh cs + weights next
      bodies_weigh NoClause m out ls next = omega arith
      bodies_weigh (AndClause es fallback ss p cs) m out ls next =
          let rest : List Line = bodies made spare own cs (m + 1 + all_labels ss) out ls next in
          omega (arith, steady.jumps out, all_weigh ss (m + 1) ls (jump p out ∷ rest), bodies_weigh cs (m + 1 + all_labels ss) out ls next)

  -- ---- units ----

  abbrev declared_weight : Text → ℕ
  declared_weight spare = weigh (Typed Integer (record { name = spare; sizes = [] } ∷ []))

  declared_weighs : (b : Bool) (p : Place) (spare : Text) (code : List Line) → weights (declared_if b p spare code) ≤ declared_weight spare + weights code
  declared_weighs true p spare code = omega arith
  declared_weighs false p spare code = omega arith

  end_weighs : (main ends : Bool) (p : Place) → weights (end_unless main ends p) ≤ max (weigh (Stop None)) (weigh Return)
  end_weighs true true p = omega arith
  end_weighs true false p = omega arith
  end_weighs false true p = omega arith
  end_weighs false false p = omega arith

  -- the declaration of the spare name and the last statement come to what its commands become
  pub unit_weighs : (made : ℕ → ℕ) (spare : Text) (h : Header) (first last : Place) (ss : Commands) →
      weights (unit_code made spare h first last ss) ≤ commands_weight weigh ss + (declared_weight spare + max (weigh (Stop None)) (weigh Return))
  unit_weighs made spare h first last ss =
      let ends : Bool = ends_itself h (all_code made spare (name_of h) ss 0 [] []) in
      let ending : List Line = end_unless (is_main h) ends last in
      omega (arith, declared_weighs (have_switch ss) first spare (all_code made spare (name_of h) ss 0 [] ending), all_weigh made spare (name_of h) ss 0 [] ending, end_weighs (is_main h) ends last)
