-- What holds of the routes of an intrinsic function's value, where it holds of those that come next and of each statement.
use Rattle.std.proofs.Common.{ℕ, suc, zero}
use Rattle.std.specs.Prelude.{⊤}
use Rattle.ground.specs.declared.place.Place.{Place}
use Rattle.f66_tree.specs.Syntax as f66
use Rattle.f66_tree.specs.Syntax.{Text, Formula, Formulas, NoFormula, AndFormula}
use Rattle.routes.specs.Routes.{Routes, AndRoute}
use Rattle.efl_routes.specs.Expressions.{sets, first, further, gathered}

-- D holds of each formula
abbrev pub EachFormula : (Formula → Type 0) → Formulas → Type 0
EachFormula D NoFormula = ⊤
EachFormula D (AndFormula e es) = D e × EachFormula D es

pub first_each : (D : Formula → Type 0) (m : ℕ) (es : Formulas) → EachFormula D es → EachFormula D (first m es)
first_each D zero NoFormula h = tt
first_each D (suc m) NoFormula h = tt
first_each D zero (AndFormula e es) h = tt
first_each D (suc m) (AndFormula e es) h = (h.0, first_each D m es h.1)

module _ (Q : Routes → Type 0) (D : Formula → Type 0) (p : Place) (x : Text) (t : Formula) where
  pub further_hold : ((e : Formula) (es : Formulas) (rest : Routes) → D e → EachFormula D es → Q rest → Q (AndRoute (sets p t (f66.Item x (AndFormula t (AndFormula e es)))) rest)) → (m : ℕ) (es : Formulas) (rest : Routes) → EachFormula D es → Q rest → Q (further p x t m es rest)
  further_hold step zero NoFormula rest h q = q
  further_hold step (suc m) NoFormula rest h q = q
  further_hold step (suc m) (AndFormula e es) rest h q = further_hold step m es rest h.1 q
  further_hold step zero (AndFormula e es) rest h q = step e (first 58 es) _ h.0 (first_each D 58 es h.1) (further_hold step 58 es rest h.1 q)

  pub gathered_hold : ((es : Formulas) (rest : Routes) → EachFormula D es → Q rest → Q (AndRoute (sets p t (f66.Item x es)) rest)) → D t → (es : Formulas) (rest : Routes) → EachFormula D es → Q rest → Q (gathered p x t es rest)
  gathered_hold step own es rest h q = step (first 60 es) _ (first_each D 60 es h) (further_hold (λ e es1 r d ds k. step (AndFormula t (AndFormula e es1)) r (own, (d, ds)) k) 60 es rest h q)
