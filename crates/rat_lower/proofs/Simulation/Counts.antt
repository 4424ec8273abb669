-- How often a label stands in the code of a command, as the end of a DO and otherwise.
use Rattle.std.proofs.Common.{◌≡◌, ℕ, ◌+◌, List, [], ◌∷◌, Option, Some, None, Bool, true, false, refl, arith}
use Rattle.std.specs.Prelude.{nat_eq}
use Rattle.ground.specs.declared.place.Place.{Place}
use Rattle.f66_tree.specs.Syntax.{Text, Formula, Formulas, NoFormula, AndFormula, Act, Assign, Goto, Computed, Sign, When, Loop, Invoke, Continue, Stop, Return, Read, Write, Format, Typed, Dimension, Common, Equivalence, Preset, Line}
use Rattle.f66_tree.specs.Execution.{has_label}
use Rattle.rat_tree.specs.Syntax.{Command, Empty, Block, If, IfElse, While, For, Repeat, RepeatUntil, Do, Switch, Break, Next, Plain, Labelled, Commands, NoCommand, AndCommand, Clauses, NoClause, AndClause}
use Rattle.rat_lower.specs.Checked.{bit, IsBuilt, AreBuilt, ClausesBuilt, IsPlain, IsPlainIfAny}
use Rattle.rat_lower.specs.Code.{each_test, tests, default_label, bodies, Rings, jump, unless, here, with_test, with_act, labels, all_labels, code_of, all_code}
use Rattle.rat_tree.specs.Syntax as ratfor_tree

pub same_number : (n : ℕ) → nat_eq n n ≡ true
same_number n = grind arith

-- how often a label stands in the code of a command at n: as the end of a DO, and otherwise
module _ (made : ℕ → ℕ) where
  abbrev mutual
    pub heads : ℕ → Command → ℕ → ℕ
    heads l (Empty p) n = 0
    heads l (Block p ss) n = all_heads l ss n
    heads l (If p e s) n = bit (nat_eq (made n) l) + heads l s (n + 1)
    heads l (IfElse p e s t) n = bit (nat_eq (made n) l) + bit (nat_eq (made (n + 1)) l) + heads l s (n + 2) + heads l t (n + 2 + labels s)
    heads l (While p e s) n = bit (nat_eq (made n) l) + bit (nat_eq (made (n + 1)) l) + bit (nat_eq (made (n + 2)) l) + heads l s (n + 3)
    heads l (For p first e step s) n = bit (nat_eq (made n) l) + bit (nat_eq (made (n + 1)) l) + bit (nat_eq (made (n + 2)) l) + heads l s (n + 3)
    heads l (Repeat p s) n = bit (nat_eq (made n) l) + bit (nat_eq (made (n + 1)) l) + bit (nat_eq (made (n + 2)) l) + heads l s (n + 3)
    heads l (RepeatUntil p s e q) n = bit (nat_eq (made n) l) + bit (nat_eq (made (n + 1)) l) + bit (nat_eq (made (n + 2)) l) + heads l s (n + 3)
    heads l (Do p x a b c s) n = bit (nat_eq (made (n + 1)) l) + heads l s (n + 2)
    heads l (Switch p e cs) n = bit (nat_eq (made n) l) + clause_heads l cs (n + 1)
    heads l (Break p k) n = 0
    heads l (Next p k) n = 0
    heads l (ratfor_tree.Return p e) n = 0
    heads l (Plain m p a) n = bit (has_label l m)
    heads l (Labelled m p s) n = bit (nat_eq m l) + heads l s n

    pub all_heads : ℕ → Commands → ℕ → ℕ
    all_heads l NoCommand n = 0
    all_heads l (AndCommand s ss) n = heads l s n + all_heads l ss (n + labels s)

    pub clause_heads : ℕ → Clauses → ℕ → ℕ
    clause_heads l NoClause m = 0
    clause_heads l (AndClause es fallback ss p cs) m = bit (nat_eq (made m) l) + all_heads l ss (m + 1) + clause_heads l cs (m + 1 + all_labels ss)

  abbrev mutual
    pub dos : ℕ → Command → ℕ → ℕ
    dos l (Empty p) n = 0
    dos l (Block p ss) n = all_dos l ss n
    dos l (If p e s) n = dos l s (n + 1)
    dos l (IfElse p e s t) n = dos l s (n + 2) + dos l t (n + 2 + labels s)
    dos l (While p e s) n = dos l s (n + 3)
    dos l (For p first e step s) n = dos l s (n + 3)
    dos l (Repeat p s) n = dos l s (n + 3)
    dos l (RepeatUntil p s e q) n = dos l s (n + 3)
    dos l (Do p x a b c s) n = bit (nat_eq (made n) l) + dos l s (n + 2)
    dos l (Switch p e cs) n = clause_dos l cs (n + 1)
    dos l (Break p k) n = 0
    dos l (Next p k) n = 0
    dos l (ratfor_tree.Return p e) n = 0
    dos l (Plain m p a) n = 0
    dos l (Labelled m p s) n = dos l s n

    pub all_dos : ℕ → Commands → ℕ → ℕ
    all_dos l NoCommand n = 0
    all_dos l (AndCommand s ss) n = dos l s n + all_dos l ss (n + labels s)

    pub clause_dos : ℕ → Clauses → ℕ → ℕ
    clause_dos l NoClause m = 0
    clause_dos l (AndClause es fallback ss p cs) m = all_dos l ss (m + 1) + clause_dos l cs (m + 1 + all_labels ss)

-- how often a label stands in a list of statements, and how many DOs name it
abbrev pub occurs : ℕ → List Line → ℕ
occurs l [] = 0
occurs l (s ∷ rest) = bit (has_label l s.label) + occurs l rest

abbrev pub names : ℕ → Act → Bool
names l (Loop m x a b c) = nat_eq m l
names l _ = false

abbrev pub ends : ℕ → List Line → ℕ
ends l [] = 0
ends l (s ∷ rest) = bit (names l s.act) + ends l rest

pub plain_names : (l : ℕ) (a : Act) → IsPlain a → bit (names l a) ≡ 0
plain_names l (Assign y e) is = refl
plain_names l (Goto m) is = refl
plain_names l (Computed ms y) is = refl
plain_names l (Sign e i1 i2 i3) is = refl
plain_names l (When e a) is = absurd is
plain_names l (Loop m y i1 i2 i3) is = absurd is
plain_names l (Invoke y es) is = refl
plain_names l Continue is = refl
plain_names l (Stop i) is = refl
plain_names l Return is = refl
plain_names l (Read i m es) is = refl
plain_names l (Write i m es) is = refl
plain_names l (Format fs) is = refl
plain_names l (Typed t es) is = refl
plain_names l (Dimension es) is = refl
plain_names l (Common es) is = refl
plain_names l (Equivalence es) is = refl
plain_names l (Preset es) is = refl

pub occurs-test : (l : ℕ) (p : Place) (o : Option Formula) (m : ℕ) (next : List Line) → occurs l (with_test p o m next) ≡ occurs l next
occurs-test l p None m next = refl
occurs-test l p (Some e) m next = omega arith

pub occurs-act : (l : ℕ) (p : Place) (o : Option Act) (next : List Line) → occurs l (with_act p o next) ≡ occurs l next
occurs-act l p None next = refl
occurs-act l p (Some e) next = omega arith

pub ends-test : (l : ℕ) (p : Place) (o : Option Formula) (m : ℕ) (next : List Line) → ends l (with_test p o m next) ≡ ends l next
ends-test l p None m next = refl
ends-test l p (Some e) m next = omega arith

pub ends-act : (l : ℕ) (p : Place) (o : Option Act) (next : List Line) → IsPlainIfAny o → ends l (with_act p o next) ≡ ends l next
ends-act l p None next is = refl
ends-act l p (Some a) next is = omega (arith, plain_names l a is)

pub occurs-each : (l : ℕ) (x : Text) (p : Place) (es : Formulas) (q : ℕ) (next : List Line) → occurs l (each_test x p es q next) ≡ occurs l next
occurs-each l x p NoFormula q next = refl
occurs-each l x p (AndFormula e es) q next = omega (arith, occurs-each l x p es q next)

pub ends-each : (l : ℕ) (x : Text) (p : Place) (es : Formulas) (q : ℕ) (next : List Line) → ends l (each_test x p es q next) ≡ ends l next
ends-each l x p NoFormula q next = refl
ends-each l x p (AndFormula e es) q next = omega (arith, ends-each l x p es q next)

module _ (made : ℕ → ℕ) (spare own : Text) where
  pub occurs-tests : (l : ℕ) (cs : Clauses) (m : ℕ) (next : List Line) → occurs l (tests made spare own cs m next) ≡ occurs l next
  occurs-tests l NoClause m next = refl
  occurs-tests l (AndClause es d ss p cs) m next = omega (arith, occurs-each l spare p es (made m) (tests made spare own cs (m + 1 + all_labels ss) next), occurs-tests l cs (m + 1 + all_labels ss) next)

  pub ends-tests : (l : ℕ) (cs : Clauses) (m : ℕ) (next : List Line) → ends l (tests made spare own cs m next) ≡ ends l next
  ends-tests l NoClause m next = refl
  ends-tests l (AndClause es d ss p cs) m next = omega (arith, ends-each l spare p es (made m) (tests made spare own cs (m + 1 + all_labels ss) next), ends-tests l cs (m + 1 + all_labels ss) next)

  mutual
    pub occurs-code : (l : ℕ) (s : Command) (n : ℕ) (ls : Rings) (next : List Line) → IsBuilt s → occurs l (code_of made spare own s n ls next) ≡ heads made l s n + dos made l s n + occurs l next
    occurs-code l (Empty p) n ls next is = omega arith
    occurs-code l (Block p ss) n ls next is = occurs-all l ss n ls next is
    occurs-code l (If p e s) n ls next is = omega (arith, occurs-code l s (n + 1) ls (here (made n) p ∷ next) is)
    occurs-code l (IfElse p e s t) n ls next is =
        omega (arith, occurs-code l s (n + 2) ls (jump p (made (n + 1)) ∷ here (made n) p ∷ code_of made spare own t (n + 2 + labels s) ls (here (made (n + 1)) p ∷ next)) is.0, occurs-code l t (n + 2 + labels s) ls (here (made (n + 1)) p ∷ next) is.1)
    occurs-code l (While p e s) n ls next is =
        omega (arith, occurs-code l s (n + 3) ((made (n + 2), made (n + 1)) ∷ ls) (here (made (n + 1)) p ∷ jump p (made n) ∷ here (made (n + 2)) p ∷ next) is)
    occurs-code l (For p first e step s) n ls next is =
        let out = jump p (made n) ∷ here (made (n + 2)) p ∷ next in
        let mid = here (made (n + 1)) p ∷ with_act p step out in
        let inner = code_of made spare own s (n + 3) ((made (n + 2), made (n + 1)) ∷ ls) mid in
        omega (arith, occurs-act l p first (here (made n) p ∷ with_test p e (made (n + 2)) inner), occurs-test l p e (made (n + 2)) inner, occurs-code l s (n + 3) ((made (n + 2), made (n + 1)) ∷ ls) mid is.2, occurs-act l p step out)
    occurs-code l (Repeat p s) n ls next is =
        omega (arith, occurs-code l s (n + 3) ((made (n + 2), made (n + 1)) ∷ ls) (here (made (n + 1)) p ∷ jump p (made n) ∷ here (made (n + 2)) p ∷ next) is)
    occurs-code l (RepeatUntil p s e q) n ls next is =
        omega (arith, occurs-code l s (n + 3) ((made (n + 2), made (n + 1)) ∷ ls) (here (made (n + 1)) p ∷ unless q e (made n) ∷ here (made (n + 2)) p ∷ next) is)
    occurs-code l (Do p x a b c s) n ls next is =
        omega (arith, occurs-code l s (n + 2) ((made (n + 1), made n) ∷ ls) (here (made n) p ∷ here (made (n + 1)) p ∷ next) is)
    occurs-code l (Switch p e cs) n ls next is =
        let last = here (made n) p ∷ next in
        let all = bodies made spare own cs (n + 1) (made n) ls last in
        omega (arith, occurs-tests l cs (n + 1) (jump p (default_label made spare own cs (n + 1) (made n)) ∷ all), occurs-bodies l cs (n + 1) (made n) ls last is)
    occurs-code l (Break p k) n ls next is = omega arith
    occurs-code l (Next p k) n ls next is = omega arith
    occurs-code l (ratfor_tree.Return p None) n ls next is = omega arith
    occurs-code l (ratfor_tree.Return p (Some e)) n ls next is = omega arith
    occurs-code l (Plain m p a) n ls next is = omega arith
    occurs-code l (Labelled m p s) n ls next is = omega (arith, occurs-code l s n ls next is)

    pub occurs-all : (l : ℕ) (ss : Commands) (n : ℕ) (ls : Rings) (next : List Line) → AreBuilt ss → occurs l (all_code made spare own ss n ls next) ≡ all_heads made l ss n + all_dos made l ss n + occurs l next
    occurs-all l NoCommand n ls next is = omega arith
    occurs-all l (AndCommand s ss) n ls next is =
        omega (arith, occurs-code l s n ls (all_code made spare own ss (n + labels s) ls next) is.0, occurs-all l ss (n + labels s) ls next is.1)

    pub occurs-bodies : (l : ℕ) (cs : Clauses) (m out : ℕ) (ls : Rings) (next : List Line) → ClausesBuilt cs → occurs l (bodies made spare own cs m out ls next) ≡ clause_heads made l cs m + clause_dos made l cs m + occurs l next
    occurs-bodies l NoClause m out ls next is = omega arith
    occurs-bodies l (AndClause es d ss p cs) m out ls next is =
        omega (arith, occurs-all l ss (m + 1) ls (jump p out ∷ bodies made spare own cs (m + 1 + all_labels ss) out ls next) is.0, occurs-bodies l cs (m + 1 + all_labels ss) out ls next is.1)

  mutual
    pub ends-code : (l : ℕ) (s : Command) (n : ℕ) (ls : Rings) (next : List Line) → IsBuilt s → ends l (code_of made spare own s n ls next) ≡ dos made l s n + ends l next
    ends-code l (Empty p) n ls next is = omega arith
    ends-code l (Block p ss) n ls next is = ends-all l ss n ls next is
    ends-code l (If p e s) n ls next is = omega (arith, ends-code l s (n + 1) ls (here (made n) p ∷ next) is)
    ends-code l (IfElse p e s t) n ls next is =
        omega (arith, ends-code l s (n + 2) ls (jump p (made (n + 1)) ∷ here (made n) p ∷ code_of made spare own t (n + 2 + labels s) ls (here (made (n + 1)) p ∷ next)) is.0, ends-code l t (n + 2 + labels s) ls (here (made (n + 1)) p ∷ next) is.1)
    ends-code l (While p e s) n ls next is =
        omega (arith, ends-code l s (n + 3) ((made (n + 2), made (n + 1)) ∷ ls) (here (made (n + 1)) p ∷ jump p (made n) ∷ here (made (n + 2)) p ∷ next) is)
    ends-code l (For p first e step s) n ls next is =
        let out = jump p (made n) ∷ here (made (n + 2)) p ∷ next in
        let mid = here (made (n + 1)) p ∷ with_act p step out in
        let inner = code_of made spare own s (n + 3) ((made (n + 2), made (n + 1)) ∷ ls) mid in
        omega (arith, ends-act l p first (here (made n) p ∷ with_test p e (made (n + 2)) inner) is.0, ends-test l p e (made (n + 2)) inner, ends-code l s (n + 3) ((made (n + 2), made (n + 1)) ∷ ls) mid is.2, ends-act l p step out is.1)
    ends-code l (Repeat p s) n ls next is =
        omega (arith, ends-code l s (n + 3) ((made (n + 2), made (n + 1)) ∷ ls) (here (made (n + 1)) p ∷ jump p (made n) ∷ here (made (n + 2)) p ∷ next) is)
    ends-code l (RepeatUntil p s e q) n ls next is =
        omega (arith, ends-code l s (n + 3) ((made (n + 2), made (n + 1)) ∷ ls) (here (made (n + 1)) p ∷ unless q e (made n) ∷ here (made (n + 2)) p ∷ next) is)
    ends-code l (Do p x a b c s) n ls next is =
        omega (arith, ends-code l s (n + 2) ((made (n + 1), made n) ∷ ls) (here (made n) p ∷ here (made (n + 1)) p ∷ next) is)
    ends-code l (Switch p e cs) n ls next is =
        let last = here (made n) p ∷ next in
        let all = bodies made spare own cs (n + 1) (made n) ls last in
        omega (arith, ends-tests l cs (n + 1) (jump p (default_label made spare own cs (n + 1) (made n)) ∷ all), ends-bodies l cs (n + 1) (made n) ls last is)
    ends-code l (Break p k) n ls next is = omega arith
    ends-code l (Next p k) n ls next is = omega arith
    ends-code l (ratfor_tree.Return p None) n ls next is = omega arith
    ends-code l (ratfor_tree.Return p (Some e)) n ls next is = omega arith
    ends-code l (Plain m p a) n ls next is = omega (arith, plain_names l a is)
    ends-code l (Labelled m p s) n ls next is = omega (arith, ends-code l s n ls next is)

    pub ends-all : (l : ℕ) (ss : Commands) (n : ℕ) (ls : Rings) (next : List Line) → AreBuilt ss → ends l (all_code made spare own ss n ls next) ≡ all_dos made l ss n + ends l next
    ends-all l NoCommand n ls next is = omega arith
    ends-all l (AndCommand s ss) n ls next is =
        omega (arith, ends-code l s n ls (all_code made spare own ss (n + labels s) ls next) is.0, ends-all l ss (n + labels s) ls next is.1)

    pub ends-bodies : (l : ℕ) (cs : Clauses) (m out : ℕ) (ls : Rings) (next : List Line) → ClausesBuilt cs → ends l (bodies made spare own cs m out ls next) ≡ clause_dos made l cs m + ends l next
    ends-bodies l NoClause m out ls next is = omega arith
    ends-bodies l (AndClause es d ss p cs) m out ls next is =
        omega (arith, ends-all l ss (m + 1) ls (jump p out ∷ bodies made spare own cs (m + 1 + all_labels ss) out ls next) is.0, ends-bodies l cs (m + 1 + all_labels ss) out ls next is.1)
