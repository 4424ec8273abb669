-- What holds of all that a command says in FORTRAN holds of all that its statements say, for what jumps, tests and stores keep.
use Rattle.std.proofs.Common.{◌≡◌, ℕ, ◌+◌, Bool, true, false, List, [], ◌∷◌, Option, Some, None, refl}
use Rattle.std.specs.Prelude.{⊤}
use Rattle.std.proofs.lemmas.Bool.{or_left, or_right}
use Rattle.ground.specs.declared.place.Place.{Place}
use Rattle.f66_tree.specs.Syntax.{Text, Formula, Ref, Group, Not, Formulas, NoFormula, AndFormula, Par, Act, Assign, Goto, Sign, When, Loop, Continue, Stop, Line}
use Rattle.f66_tree.specs.Syntax as act
use Rattle.rat_tree.specs.Syntax.{Command, Empty, Block, If, IfElse, While, For, Repeat, RepeatUntil, Do, Switch, Break, Next, Return, Plain, Labelled, Commands, NoCommand, AndCommand, Clauses, NoClause, AndClause}
use Rattle.rat_lower.specs.Code.{case_test, each_test, tests, default_label, bodies, Rings, jump, unless, here, with_test, with_act, labels, all_labels, code_of, all_code, has_switch, have_switch, end_unless}

-- each of these statements says such a thing
abbrev pub AllSay : (Act → Type 0) → List Line → Type 0
AllSay Good [] = ⊤
AllSay Good (s ∷ rest) = Good s.act × AllSay Good rest

-- a condition says what a logical IF over CONTINUE does, a value what an arithmetic IF does, and the words of a `do` what a DO
-- does
module _ (Good : Act → Type 0) where
  abbrev pub GoodCondition : Formula → Type 0
  GoodCondition e = Good (When e Continue)

  abbrev pub GoodValue : Formula → Type 0
  GoodValue e = Good (Sign e 0 0 0)

  abbrev pub GoodConditionIfAny : Option Formula → Type 0
  GoodConditionIfAny None = ⊤
  GoodConditionIfAny (Some e) = GoodCondition e

  abbrev pub GoodActIfAny : Option Act → Type 0
  GoodActIfAny None = ⊤
  GoodActIfAny (Some a) = Good a

  abbrev pub GoodValues : Formulas → Type 0
  GoodValues NoFormula = ⊤
  GoodValues (AndFormula e es) = GoodValue e × GoodValues es

  module _ (own : Text) where
    abbrev pub GoodReturn : Option Formula → Type 0
    GoodReturn None = Good act.Return
    GoodReturn (Some e) = Good (Assign (Ref own) e) × Good act.Return

    -- all that a command says is so, where a value that is returned is put into the unit's own name
    abbrev mutual
      pub SaysGood : Command → Type 0
      SaysGood (Empty p) = ⊤
      SaysGood (Block p ss) = AllSayGood ss
      SaysGood (If p e s) = GoodCondition e × SaysGood s
      SaysGood (IfElse p e s t) = GoodCondition e × SaysGood s × SaysGood t
      SaysGood (While p e s) = GoodCondition e × SaysGood s
      SaysGood (For p first e step s) = GoodActIfAny first × GoodConditionIfAny e × GoodActIfAny step × SaysGood s
      SaysGood (Repeat p s) = SaysGood s
      SaysGood (RepeatUntil p s e q) = SaysGood s × GoodCondition e
      SaysGood (Do p x a b c s) = Good (Loop 0 x a b c) × SaysGood s
      SaysGood (Switch p e cs) = GoodValue e × ClausesSayGood cs
      SaysGood (Break p n) = ⊤
      SaysGood (Next p n) = ⊤
      SaysGood (Return p e) = GoodReturn e
      SaysGood (Plain l p a) = Good a
      SaysGood (Labelled l p s) = SaysGood s

      pub AllSayGood : Commands → Type 0
      AllSayGood NoCommand = ⊤
      AllSayGood (AndCommand s ss) = SaysGood s × AllSayGood ss

      pub ClausesSayGood : Clauses → Type 0
      ClausesSayGood NoClause = ⊤
      ClausesSayGood (AndClause es fallback ss p cs) = GoodValues es × AllSayGood ss × ClausesSayGood cs

-- what the lowering makes of these is so again
pub record Keeps (Good : Act → Type 0) : Type 0 where
  pub passes : Good Continue
  pub goes : (l : ℕ) → Good (Goto l)
  pub stops : Good (Stop None)
  pub denied : (e : Formula) (l : ℕ) → Good (When e Continue) → Good (When (Not (Group e)) (Goto l))
  pub counts : (l : ℕ) (x : Text) (a b c : Par) → Good (Loop 0 x a b c) → Good (Loop l x a b c)

-- and what it makes of the values of switches
pub record KeepsValues (Good : Act → Type 0) (spare : Text) : Type 0 where
  pub compared : (e : Formula) (l : ℕ) → Good (Sign e 0 0 0) → Good (When (case_test spare e) (Goto l))
  pub stored : (e : Formula) → Good (Sign e 0 0 0) → Good (Assign (Ref spare) e)

module _ (Good : Act → Type 0) (made : ℕ → ℕ) (spare own : Text) (keeps : Keeps Good) where
  abbrev All : List Line → Type 0
  All = AllSay Good

  good_test : (p : Place) (o : Option Formula) (l : ℕ) (next : List Line) → GoodConditionIfAny Good o → All next → All (with_test p o l next)
  good_test p None l next h k = k
  good_test p (Some e) l next h k = (keeps.denied e l h, k)

  good_act : (p : Place) (o : Option Act) (next : List Line) → GoodActIfAny Good o → All next → All (with_act p o next)
  good_act p None next h k = k
  good_act p (Some a) next h k = (h, k)

  good_each : KeepsValues Good spare → (p : Place) (es : Formulas) (l : ℕ) (next : List Line) → GoodValues Good es → All next → All (each_test spare p es l next)
  good_each v p NoFormula l next h k = k
  good_each v p (AndFormula e es) l next h k = (v.compared e l h.0, good_each v p es l next h.1 k)

  good_tests : KeepsValues Good spare → (cs : Clauses) (m : ℕ) (next : List Line) → ClausesSayGood Good own cs → All next → All (tests made spare own cs m next)
  good_tests v NoClause m next h k = k
  good_tests v (AndClause es fallback ss p cs) m next h k =
      good_each v p es (made m) (tests made spare own cs (m + 1 + all_labels ss) next) h.0 (good_tests v cs (m + 1 + all_labels ss) next h.2 k)

  mutual
    pub good_code : (s : Command) (n : ℕ) (ls : Rings) (next : List Line) → (has_switch s ≡ true → KeepsValues Good spare) → SaysGood Good own s → All next → All (code_of made spare own s n ls next)
    good_code (Empty p) n ls next may h k = k
    good_code (Block p ss) n ls next may h k = good_all ss n ls next may h k
    good_code (If p e s) n ls next may h k = (keeps.denied e (made n) h.0, good_code s (n + 1) ls (here (made n) p ∷ next) may h.1 (keeps.passes, k))
    good_code (IfElse p e s t) n ls next may h k =
        let last : List Line = here (made (n + 1)) p ∷ next in
        let second : List Line = code_of made spare own t (n + 2 + labels s) ls last in
        let k_second : All second = good_code t (n + 2 + labels s) ls last (λ e1. may (or_right (has_switch s) (has_switch t) e1)) h.2 (keeps.passes, k) in
        (keeps.denied e (made n) h.0, good_code s (n + 2) ls (jump p (made (n + 1)) ∷ here (made n) p ∷ second) (λ e1. may (or_left (has_switch s) (has_switch t) e1)) h.1 (keeps.goes (made (n + 1)), (keeps.passes, k_second)))
    good_code (While p e s) n ls next may h k =
        let mid : List Line = here (made (n + 1)) p ∷ jump p (made n) ∷ here (made (n + 2)) p ∷ next in
        (keeps.passes, (keeps.denied e (made (n + 2)) h.0, good_code s (n + 3) ((made (n + 2), made (n + 1)) ∷ ls) mid may h.1 (keeps.passes, (keeps.goes (made n), (keeps.passes, k)))))
    good_code (For p first e step s) n ls next may h k =
        let out : List Line = jump p (made n) ∷ here (made (n + 2)) p ∷ next in
        let mid : List Line = here (made (n + 1)) p ∷ with_act p step out in
        let inner : List Line = code_of made spare own s (n + 3) ((made (n + 2), made (n + 1)) ∷ ls) mid in
        let k_mid : All mid = (keeps.passes, good_act p step out h.2 (keeps.goes (made n), (keeps.passes, k))) in
        good_act p first (here (made n) p ∷ with_test p e (made (n + 2)) inner) h.0
        (keeps.passes, good_test p e (made (n + 2)) inner h.1 (good_code s (n + 3) ((made (n + 2), made (n + 1)) ∷ ls) mid may h.3 k_mid))
    good_code (Repeat p s) n ls next may h k =
        let mid : List Line = here (made (n + 1)) p ∷ jump p (made n) ∷ here (made (n + 2)) p ∷ next in
        (keeps.passes, good_code s (n + 3) ((made (n + 2), made (n + 1)) ∷ ls) mid may h (keeps.passes, (keeps.goes (made n), (keeps.passes, k))))
    good_code (RepeatUntil p s e q) n ls next may h k =
        let mid : List Line = here (made (n + 1)) p ∷ unless q e (made n) ∷ here (made (n + 2)) p ∷ next in
        (keeps.passes, good_code s (n + 3) ((made (n + 2), made (n + 1)) ∷ ls) mid may h.0 (keeps.passes, (keeps.denied e (made n) h.1, (keeps.passes, k))))
    good_code (Do p x a b c s) n ls next may h k =
        let mid : List Line = here (made n) p ∷ here (made (n + 1)) p ∷ next in
        (keeps.counts (made n) x a b c h.0, good_code s (n + 2) ((made (n + 1), made n) ∷ ls) mid may h.1 (keeps.passes, (keeps.passes, k)))
    good_code (Switch p e cs) n ls next may h k =
        let last : List Line = here (made n) p ∷ next in
        let all : List Line = bodies made spare own cs (n + 1) (made n) ls last in
        let k_all : All all = good_bodies cs (n + 1) (made n) ls last (may refl) h.1 (keeps.passes, k) in
        ((may refl).stored e h.0, good_tests (may refl) cs (n + 1) (jump p (default_label made spare own cs (n + 1) (made n)) ∷ all) h.1 (keeps.goes _, k_all))
    good_code (Break p m) n ls next may h k = (keeps.goes _, k)
    good_code (Next p m) n ls next may h k = (keeps.goes _, k)
    good_code (Return p None) n ls next may h k = (h, k)
    good_code (Return p (Some e)) n ls next may h k = (h.0, (h.1, k))
    good_code (Plain l p a) n ls next may h k = (h, k)
    good_code (Labelled l p s) n ls next may h k = (keeps.passes, good_code s n ls next may h k)

    pub good_all : (ss : Commands) (n : ℕ) (ls : Rings) (next : List Line) → (have_switch ss ≡ true → KeepsValues Good spare) → AllSayGood Good own ss → All next → All (all_code made spare own ss n ls next)
    good_all NoCommand n ls next may h k = k
    good_all (AndCommand s ss) n ls next may h k = good_code s n ls (all_code made spare own ss (n + labels s) ls next) (λ e. may (or_left (has_switch s) (have_switch ss) e)) h.0
        (good_all ss (n + labels s) ls next (λ e. may (or_right (has_switch s) (have_switch ss) e)) h.1 k)

    good_bodies : (cs : Clauses) (m out : ℕ) (ls : Rings) (next : List Line) → KeepsValues Good spare → ClausesSayGood Good own cs → All next → All (bodies made spare own cs m out ls next)
    good_bodies NoClause m out ls next v h k = k
    good_bodies (AndClause es fallback ss p cs) m out ls next v h k =
        let rest : List Line = bodies made spare own cs (m + 1 + all_labels ss) out ls next in
        (keeps.passes, good_all ss (m + 1) ls (jump p out ∷ rest) (λ e. v) h.1 (keeps.goes out, good_bodies cs (m + 1 + all_labels ss) out ls next v h.2 k))

  good_end : (main v : Bool) (p : Place) → (main ≡ false → Good act.Return) → All (end_unless main v p)
  good_end true true p returns = tt
  good_end true false p returns = (keeps.stops, tt)
  good_end false true p returns = tt
  good_end false false p returns = (returns refl, tt)

  -- the statements of a whole unit, without a declaration before them
  pub good_unit : (ss : Commands) (main v : Bool) (p : Place) → (main ≡ false → Good act.Return) → (have_switch ss ≡ true → KeepsValues Good spare) → AllSayGood Good own ss → All (all_code made spare own ss 0 [] (end_unless main v p))
  good_unit ss main v p returns may h = good_all ss 0 [] (end_unless main v p) may h (good_end main v p returns)
