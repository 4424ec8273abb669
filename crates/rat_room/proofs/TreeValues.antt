-- What the values of the trees of an accepted text give, in any language: what each production keeps holds of all of them, and they
-- have no more units than were opened.
use Rattle.std.proofs.Common.{◌≡◌, ◌≤◌, ℕ, ◌+◌, arith, Bool, List, [], ◌∷◌, None, refl, sym, subst}
use Rattle.ground.specs.declared.token.Token.{Token}
use Rattle.grammar.specs.declared.language.Symbol.{Symbol}
use Rattle.grammar.specs.declared.language.Symbol.TheVariants.{Terminal, Nonterminal}
use Rattle.grammar.specs.declared.language.Event.{Event}
use Rattle.grammar.specs.declared.language.Event.TheVariants.{Open}
use Rattle.grammar.specs.Grammar.{Grammar, Tree, Trees, leaf, node, none, some, Parse, IsProgram, Offers, Derives, DerivesAll, value_of, values_of}
use Rattle.grammar.specs.Limits.{Meter, history, history_all, first_passing, IsAccepted}
use Rattle.grammar.specs.Stack.{piled}
use Rattle.rat_room.proofs.TreeWeights.{offered_by}
use Rattle.rat_room.proofs.MeteredUnits.{CountsUnits, one_if, units, all_units, all_quiet_before, few_units}

-- the last of some values, and those before it
abbrev last_of : {V : Type 0} → V → List V → V
last_of nothing [] = nothing
last_of nothing (v ∷ vs) = v

abbrev others : {V : Type 0} → List V → List V
others [] = []
others (v ∷ vs) = vs

-- ---- what each production keeps ----

module _ {T N V : Type 0} (nothing : V) (Good : N → V → Type 0) where
  abbrev pub GoodAt : Symbol T N → V → Type 0
  GoodAt (Terminal t) v = Unit {0}
  GoodAt (Nonterminal n) v = Good n v

  -- the values of symbols are good, the last first
  abbrev pub AllGood : List (Symbol T N) → List V → Type 0
  AllGood [] vs = Unit {0}
  AllGood (x ∷ xs) vs = GoodAt x (last_of nothing vs) × AllGood xs (others vs)

module _ {T N P V M : Type 0} (g : Grammar Token T N P V) (meter : Meter T P M) (nothing : V) (Good : N → V → Type 0)
    (keeps : (p : P) (cs : Trees Token P) (ts rest : List Token) (past : List (Event T P)) (n : N) → Offers g n p ts → DerivesAll g cs (g.symbols p) ts rest →
    first_passing meter (history_all g cs (Open p ∷ past)) ≡ None → AllGood nothing Good (piled (λ x. x) (g.symbols p) []) (values_of g cs []) →
    Good (g.nonterminal_of p) (g.build p (values_of g cs []))) where
  mutual
    good_tree : (c : Tree Token P) (x : Symbol T N) (ts rest : List Token) (past : List (Event T P)) → Derives g c x ts rest → first_passing meter (history g c past) ≡ None →
        GoodAt nothing Good x (value_of g c)
    good_tree (leaf t) x ts rest past h quiet = subst (λ y. GoodAt nothing Good y (value_of g (leaf t))) (sym h.0) tt
    good_tree (node p cs) x ts rest past h quiet =
        subst (λ y. GoodAt nothing Good y (value_of g (node p cs))) (sym h.1)
        (subst (λ n. Good n (value_of g (node p cs))) (offered_by g h.0 p ts h.2)
        (keeps p cs ts rest past h.0 h.2 h.3 quiet (good_trees cs (g.symbols p) ts rest (Open p ∷ past) [] [] h.3 quiet tt)))

    good_trees : (cs : Trees Token P) (xs : List (Symbol T N)) (ts rest : List Token) (past : List (Event T P)) (seen : List (Symbol T N)) (earlier : List V) → DerivesAll g cs xs ts rest →
        first_passing meter (history_all g cs past) ≡ None → AllGood nothing Good seen earlier → AllGood nothing Good (piled (λ x. x) xs seen) (values_of g cs earlier)
    good_trees none xs ts rest past seen earlier h quiet parts = subst (λ ys. AllGood nothing Good (piled (λ x. x) ys seen) earlier) (sym h.0) parts
    good_trees (some c cs) xs ts rest past seen earlier h quiet parts =
        let here = good_tree c h.0 ts h.2 past h.4 (all_quiet_before g meter cs (history g c past) quiet) in
        subst (λ ys. AllGood nothing Good (piled (λ x. x) ys seen) (values_of g cs (value_of g c ∷ earlier))) (sym h.3)
        (good_trees cs h.1 h.2 rest (history g c past) (h.0 ∷ seen) (value_of g c ∷ earlier) h.5 quiet (here, parts))

  pub accepted_good : ((vs : List V) → AllGood nothing Good (piled (λ x. x) (g.symbols g.start) []) vs → Good (g.nonterminal_of g.start) (g.build g.start vs)) →
      (ts : List Token) (v : V) → IsAccepted g meter ts v → Good (g.nonterminal_of g.start) v
  accepted_good whole ts v accepted =
      let found : IsProgram g ts v = (accepted.value v).1 refl in
      let parse : Parse g ts = found.0 in
      subst (λ w. Good (g.nonterminal_of g.start) w) found.1
      (whole (values_of g parse.trees []) (good_trees parse.trees (g.symbols g.start) ts [] (Open g.start ∷ []) [] [] parse.derives (accepted.within parse) tt))

-- ---- the units that values have ----

module _ {T N V : Type 0} (nothing : V) (size : N → V → ℕ) where
  abbrev size_at : Symbol T N → V → ℕ
  size_at (Terminal t) v = 0
  size_at (Nonterminal n) v = size n v

  -- those of the values of symbols, the last first
  abbrev pub all_size : List (Symbol T N) → List V → ℕ
  all_size [] vs = 0
  all_size (x ∷ xs) vs = size_at x (last_of nothing vs) + all_size xs (others vs)

module _ {T N P V M : Type 0} {g : Grammar Token T N P V} {meter : Meter T P M} {is_unit : P → Bool} (laws : CountsUnits g meter is_unit) (nothing : V) (size : N → V → ℕ)
    (made : (p : P) (vs : List V) → size (g.nonterminal_of p) (g.build p vs) ≤ one_if (is_unit p) + all_size nothing size (piled (λ x. x) (g.symbols p) []) vs) where
  mutual
    tree_size : (c : Tree Token P) (x : Symbol T N) (ts rest : List Token) → Derives g c x ts rest → size_at nothing size x (value_of g c) ≤ units is_unit c
    tree_size (leaf t) x ts rest h = subst (λ y. size_at nothing size y (value_of g (leaf t)) ≤ 0) (sym h.0) (omega arith)
    tree_size (node p cs) x ts rest h =
        subst (λ y. size_at nothing size y (value_of g (node p cs)) ≤ one_if (is_unit p) + all_units is_unit cs) (sym h.1)
        (subst (λ n. size n (value_of g (node p cs)) ≤ one_if (is_unit p) + all_units is_unit cs) (offered_by g h.0 p ts h.2)
        (omega (arith, made p (values_of g cs []), trees_size cs (g.symbols p) ts rest [] [] h.3)))

    trees_size : (cs : Trees Token P) (xs : List (Symbol T N)) (ts rest : List Token) (seen : List (Symbol T N)) (earlier : List V) → DerivesAll g cs xs ts rest →
        all_size nothing size (piled (λ x. x) xs seen) (values_of g cs earlier) ≤ all_size nothing size seen earlier + all_units is_unit cs
    trees_size none xs ts rest seen earlier h = subst (λ ys. all_size nothing size (piled (λ x. x) ys seen) earlier ≤ all_size nothing size seen earlier + 0) (sym h.0) (omega arith)
    trees_size (some c cs) xs ts rest seen earlier h =
        subst (λ ys. all_size nothing size (piled (λ x. x) ys seen) (values_of g cs (value_of g c ∷ earlier)) ≤ all_size nothing size seen earlier + (units is_unit c + all_units is_unit cs)) (sym h.3)
        (omega (arith, tree_size c h.0 ts h.2 h.4, trees_size cs h.1 h.2 rest (h.0 ∷ seen) (value_of g c ∷ earlier) h.5))

  pub accepted_few : (n : N) (t : T) → g.symbols g.start ≡ Nonterminal n ∷ Terminal t ∷ [] → (ts : List Token) (v : V) → IsAccepted g meter ts v →
      size (g.nonterminal_of g.start) v ≤ one_if (is_unit g.start) + 500
  accepted_few n t ends ts v accepted =
      let found : IsProgram g ts v = (accepted.value v).1 refl in
      let parse : Parse g ts = found.0 in
      let few = few_units laws n t parse.trees ts [] (Open g.start ∷ []) (subst (λ xs. DerivesAll g parse.trees xs ts []) ends parse.derives) (accepted.within parse) in
      subst (λ w. size (g.nonterminal_of g.start) w ≤ one_if (is_unit g.start) + 500) found.1
      (omega (arith, made g.start (values_of g parse.trees []), trees_size parse.trees (g.symbols g.start) ts [] [] [] parse.derives, few))
