-- A tree weighs at most so much for each of its tokens, where each production's parts and its own terminals pay for what it makes.
use Rattle.std.proofs.Common.{◌≡◌, ◌≤◌, ℕ, ◌+◌, arith, List, [], ◌∷◌, length, refl, sym, ap, subst}
use Rattle.ground.specs.declared.token.Token.{Token}
use Rattle.grammar.specs.declared.language.Symbol.{Symbol}
use Rattle.grammar.specs.declared.language.Symbol.TheVariants.{Terminal, Nonterminal}
use Rattle.grammar.specs.Grammar.{Grammar, Tree, Trees, leaf, node, none, some, Offers, Derives, DerivesAll, value_of, values_of}
use Rattle.rat_room.proofs.Weights.{total}

-- the tokens of a tree
abbrev mutual
  pub tokens : {P : Type 0} → Tree Token P → ℕ
  tokens (leaf t) = 1
  tokens (node p cs) = tokens_all cs

  pub tokens_all : {P : Type 0} → Trees Token P → ℕ
  tokens_all none = 0
  tokens_all (some c cs) = tokens c + tokens_all cs

-- a tree takes its tokens off the front
module _ {T N P V : Type 0} (g : Grammar Token T N P V) where
  mutual
    tree_takes : (c : Tree Token P) (x : Symbol T N) (ts rest : List Token) → Derives g c x ts rest → length ts ≡ tokens c + length rest
    tree_takes (leaf t) x ts rest h = (let e = ap (λ us. length us) h.1 in omega (arith, e))
    tree_takes (node p cs) x ts rest h = trees_take cs (g.symbols p) ts rest h.3

    pub trees_take : (cs : Trees Token P) (xs : List (Symbol T N)) (ts rest : List Token) → DerivesAll g cs xs ts rest → length ts ≡ tokens_all cs + length rest
    trees_take none xs ts rest h = (let e = ap (λ us. length us) h.1 in omega (arith, e))
    trees_take (some c cs) xs ts rest h = omega (arith, tree_takes c h.0 ts h.2 h.4, trees_take cs h.1 h.2 rest h.5)

-- so much for each of them
abbrev mutual
  pub paid : {P : Type 0} → ℕ → Tree Token P → ℕ
  paid rate (leaf t) = rate
  paid rate (node p cs) = paid_all rate cs

  pub paid_all : {P : Type 0} → ℕ → Trees Token P → ℕ
  paid_all rate none = 0
  paid_all rate (some c cs) = paid rate c + paid_all rate cs

mutual
  one_free : {P : Type 0} (c : Tree Token P) → paid 0 c ≡ 0
  one_free (leaf t) = refl
  one_free (node p cs) = all_free cs

  pub all_free : {P : Type 0} (cs : Trees Token P) → paid_all 0 cs ≡ 0
  all_free none = refl
  all_free (some c cs) = omega (arith, one_free c, all_free cs)

-- a rate that is higher by one
mutual
  one_more : {P : Type 0} (rate : ℕ) (c : Tree Token P) → paid (rate + 1) c ≡ paid rate c + tokens c
  one_more rate (leaf t) = refl
  one_more rate (node p cs) = all_more rate cs

  pub all_more : {P : Type 0} (rate : ℕ) (cs : Trees Token P) → paid_all (rate + 1) cs ≡ paid_all rate cs + tokens_all cs
  all_more rate none = refl
  all_more rate (some c cs) = omega (arith, one_more rate c, all_more rate cs)

abbrev pub Each : {A : Type 0} → (A → Type 0) → List A → Type 0
Each Q [] = Unit {0}
Each Q (x ∷ xs) = Q x × Each Q xs

-- the nonterminal of a production that is offered
pub offered_by : {T N P V : Type 0} (g : Grammar Token T N P V) (n : N) (p : P) (ts : List Token) → Offers g n p ts → g.nonterminal_of p ≡ n
offered_by g n p [] h = absurd h
offered_by g n p (t ∷ ts) h = h.0

-- what holds of each token, and of what each production makes of parts of which it holds, holds of each tree
module _ {T N P V : Type 0} (g : Grammar Token T N P V) (Q : V → Type 0) (token : (t : Token) → Q (g.value t)) (keeps : (p : P) (vs : List V) → Each Q vs → Q (g.build p vs)) where
  mutual
    tree_holds : (c : Tree Token P) → Q (value_of g c)
    tree_holds (leaf t) = token t
    tree_holds (node p cs) = keeps p (values_of g cs []) (trees_hold cs [] tt)

    pub trees_hold : (cs : Trees Token P) (earlier : List V) → Each Q earlier → Each Q (values_of g cs earlier)
    trees_hold none earlier e = e
    trees_hold (some c cs) earlier e = trees_hold cs (value_of g c ∷ earlier) (tree_holds c, e)

module _ {T N P V : Type 0} (g : Grammar Token T N P V) (weight : V → ℕ) (credit : Symbol T N → ℕ) (Q : V → Type 0) where
  -- A production makes no more of its parts than they weigh with what its symbols pay, and leaves what its nonterminal pays.
  pub record Pays (p : P) (vs : List V) : Type 0 where
    pub weighs : weight (g.build p vs) + credit (Nonterminal (g.nonterminal_of p)) ≤ total weight vs + total credit (g.symbols p)
    pub keeps : Q (g.build p vs)

module _ {T N P V : Type 0} (g : Grammar Token T N P V) (rate : ℕ) (weight : V → ℕ) (credit : Symbol T N → ℕ) (Q : V → Type 0) where
  pub record Balance (c : Tree Token P) (x : Symbol T N) : Type 0 where
    pub weighs : weight (value_of g c) + credit x ≤ paid rate c
    pub keeps : Q (value_of g c)

  pub record BalanceAll (cs : Trees Token P) (earlier : List V) (xs : List (Symbol T N)) : Type 0 where
    pub weighs : total weight (values_of g cs earlier) + total credit xs ≤ paid_all rate cs + total weight earlier
    pub keeps : Each Q (values_of g cs earlier)

module _ {T N P V : Type 0} (g : Grammar Token T N P V) (rate : ℕ) (weight : V → ℕ) (credit : Symbol T N → ℕ) (Q : V → Type 0)
    (token : (t : Token) → (weight (g.value t) + credit (Terminal (g.terminal_of t)) ≤ rate) × Q (g.value t))
    (pays : (p : P) (vs : List V) → Each Q vs → Pays g weight credit Q p vs) where
  pub node_balance : (p : P) (cs : Trees Token P) → BalanceAll g rate weight credit Q cs [] (g.symbols p) → Balance g rate weight credit Q (node p cs) (Nonterminal (g.nonterminal_of p))
  node_balance p cs all =
      let made = pays p (values_of g cs []) all.keeps in
      record { weighs = omega (arith, made.weighs, all.weighs); keeps = made.keeps }

  more_balance : (c : Tree Token P) (cs : Trees Token P) (earlier : List V) (x : Symbol T N) (xs : List (Symbol T N)) →
      Balance g rate weight credit Q c x → BalanceAll g rate weight credit Q cs (value_of g c ∷ earlier) xs → BalanceAll g rate weight credit Q (some c cs) earlier (x ∷ xs)
  more_balance c cs earlier x xs here all = record { weighs = omega (arith, here.weighs, all.weighs); keeps = all.keeps }

  mutual
    pub balance : (c : Tree Token P) (x : Symbol T N) (ts rest : List Token) → Derives g c x ts rest → Balance g rate weight credit Q c x
    balance (leaf t) x ts rest h =
        subst (λ y. Balance g rate weight credit Q (leaf t) y) (sym h.0) (record { weighs = (token t).0; keeps = (token t).1 })
    balance (node p cs) x ts rest h =
        subst (λ y. Balance g rate weight credit Q (node p cs) y) (sym h.1)
        (subst (λ n. Balance g rate weight credit Q (node p cs) (Nonterminal n)) (offered_by g h.0 p ts h.2)
        (node_balance p cs (balance_all cs [] (g.symbols p) ts rest h.3 tt)))

    pub balance_all : (cs : Trees Token P) (earlier : List V) (xs : List (Symbol T N)) (ts rest : List Token) → DerivesAll g cs xs ts rest → Each Q earlier →
        BalanceAll g rate weight credit Q cs earlier xs
    balance_all none earlier xs ts rest h kept =
        subst (λ ys. BalanceAll g rate weight credit Q none earlier ys) (sym h.0) (record { weighs = omega arith; keeps = kept })
    balance_all (some c cs) earlier xs ts rest h kept =
        let here = balance c h.0 ts h.2 h.4 in
        subst (λ ys. BalanceAll g rate weight credit Q (some c cs) earlier ys) (sym h.3)
        (more_balance c cs earlier h.0 h.1 here (balance_all cs (value_of g c ∷ earlier) h.1 h.2 rest h.5 (here.keeps, kept)))
