-- The first fault of a text is told by the tables alone: it is the same whatever productions make of their parts.
use Rattle.std.proofs.Common.{◌≡◌, ◌∙◌, inl, inr, suc, ◌++◌, List, [], ◌∷◌, refl, sym, ap}
use Rattle.std.specs.Prelude.{take, Err}
use Rattle.ground.specs.declared.token.Token.{Token}
use Rattle.ground.specs.declared.fault.Fault.{Fault}
use Rattle.ground.specs.declared.fault.Refusal.{Refusal}
use Rattle.ground.specs.declared.fault.Refusal.TheVariants as refusals
use Rattle.grammar.specs.declared.language.Symbol.{Symbol}
use Rattle.grammar.specs.declared.language.Event.{Event}
use Rattle.grammar.specs.declared.language.Event.TheVariants.{Open, Close}
use Rattle.grammar.specs.Grammar.{Grammar, Tree, Trees, leaf, node, none, some, Derives, DerivesAll, Parse, Begins}
use Rattle.grammar.specs.Limits.{history, history_all, history_of, first_passing, Passing, IsWithin, Passes}
use Rattle.grammar.specs.Answers.{IsFirstFault, Answers}
use Rattle.rat_parse_table.specs.declared.table.Terminal.{Terminal}
use Rattle.rat_parse_table.specs.declared.table.Nonterminal.{Nonterminal}
use Rattle.rat_parse_table.specs.declared.table.Production.{Production}
use Rattle.rat_parse_table.specs.declared.table.Production.TheVariants as productions
use Rattle.rat_parse_table.specs.Limits.{meter}
use Rattle.rat_parse_table.specs.Ratfor.{grammar_with}
use Rattle.rat_parse_values.specs.Values.{tok}
use Rattle.rat_parse.specs.Build.{build}
use Rattle.rat_parse.specs.Ratfor.{grammar as ratfor, shape, whole}

-- ---- one derivation for both ----

module _ {V W : Type 0} (value : Token → V) (make : Production → List V → V) (other_value : Token → W) (other_make : Production → List W → W) where
  abbrev g : Grammar Token Terminal Nonterminal Production V
  g = grammar_with value make

  abbrev h : Grammar Token Terminal Nonterminal Production W
  h = grammar_with other_value other_make

  mutual
    derives : (c : Tree Token Production) → (x : Symbol Terminal Nonterminal) → (ts rest : List Token) → Derives g c x ts rest → Derives h c x ts rest
    derives (leaf t) x ts rest d = d
    derives (node p cs) x ts rest d = (d.0, d.1, d.2, derives_all cs (g.symbols p) ts rest d.3)

    derives_all : (cs : Trees Token Production) → (xs : List (Symbol Terminal Nonterminal)) → (ts rest : List Token) → DerivesAll g cs xs ts rest → DerivesAll h cs xs ts rest
    derives_all none xs ts rest d = d
    derives_all (some c cs) xs ts rest d = (d.0, d.1, d.2, d.3, derives c d.0 ts d.2 d.4, derives_all cs d.1 d.2 rest d.5)

  mutual
    history_same : (c : Tree Token Production) → (past : List (Event Terminal Production)) → history h c past ≡ history g c past
    history_same (leaf t) past = refl
    history_same (node p cs) past = ap (λ es. Close p ∷ es) (histories_same cs (Open p ∷ past))

    histories_same : (cs : Trees Token Production) → (past : List (Event Terminal Production)) → history_all h cs past ≡ history_all g cs past
    histories_same none past = refl
    histories_same (some c cs) past = histories_same cs (history h c past) ∙ ap (λ es. history_all g cs es) (history_same c past)

  pub moved : (ts : List Token) → Parse g ts → Parse h ts
  moved ts parse = record { trees = parse.trees; derives = derives_all parse.trees (g.symbols g.start) ts [] parse.derives }

  pub passing_same : (ts : List Token) (parse : Parse g ts) → first_passing meter (history_of h (moved ts parse)) ≡ first_passing meter (history_of g parse)
  unfolding moved
  passing_same ts parse = ap (λ es. first_passing meter (Close productions.Whole ∷ es)) (histories_same parse.trees (Open productions.Whole ∷ []))

-- ---- faults ----

abbrev to_ratfor : (ts : List Token) → Parse shape ts → Parse ratfor ts
to_ratfor = moved {V = Unit {0}} (λ t. tt) (λ p us. tt) (λ t. tok t) build

abbrev to_shape : (ts : List Token) → Parse ratfor ts → Parse shape ts
to_shape = moved {W = Unit {0}} (λ t. tok t) build (λ t. tt) (λ p us. tt)

same_passing : (ts : List Token) (parse : Parse ratfor ts) → first_passing meter (history_of shape (to_shape ts parse)) ≡ first_passing meter (history_of ratfor parse)
same_passing = passing_same {W = Unit {0}} (λ t. tok t) build (λ t. tt) (λ p us. tt)

begins : (ts : List Token) → Begins shape ts → Begins ratfor ts
begins ts (more, parse) = (more, to_ratfor (ts ++ more) parse)

begins_too : (ts : List Token) → Begins ratfor ts → Begins shape ts
begins_too ts (more, parse) = (more, to_shape (ts ++ more) parse)

within : (ts : List Token) (i : _) → IsWithin shape meter ts i → IsWithin ratfor meter ts i
within ts i early = λ more parse at e. early more (to_shape (ts ++ more) parse) at (same_passing (ts ++ more) parse ∙ e)

passes : (ts : List Token) (at : Passing) → Passes shape meter ts at → Passes ratfor meter ts at
passes ts at there = λ more parse. sym (same_passing (ts ++ more) parse) ∙ there more (to_shape (ts ++ more) parse)

fault_told : (ts : List Token) (fault : Fault) → IsFirstFault shape meter ts fault → IsFirstFault ratfor meter ts fault
fault_told ts fault (i, t, here, inl k) = (i, t, here, inl (k.0, (begins (take i ts) k.1.0, (λ b. k.1.1 (begins_too (take (suc i) ts) b)), within (take i ts) i k.1.2)))
fault_told ts fault (i, t, here, inr k) = (i, t, here, inr (k.0, (begins (take (suc i) ts) k.1.0, passes (take (suc i) ts) _ k.1.1)))

pub refusal_told : (ts : List Token) (refusal : Refusal) → Answers shape meter (λ u. u) ts (Err refusal) → Answers ratfor meter whole ts (Err refusal)
refusal_told ts (refusals.Fault fault) told = fault_told ts fault told
refusal_told ts refusals.Memory told = told
