-- A text has at most one derivation, and so one value, for every language.
use Rattle.std.proofs.Common.{◌≡◌, List, [], ◌∷◌, Option, Some, refl, sym, ◌∙◌, ap, subst}
use Rattle.grammar.specs.declared.language.Symbol.{Symbol}
use Rattle.grammar.specs.Grammar.{Grammar, Tree, Trees, leaf, node, none, some, values_of, Parse, IsProgram}
use Rattle.grammar.specs.Lookahead.{Predicts, Goes, GoesAll}
use Rattle.grammar.specs.Certificate.{Certificate, IsSound}
use Rattle.grammar.proofs.LookaheadLemmas.{sets_of, ll1}
use Rattle.grammar.proofs.DerivationLemmas.{guided_trees}

module _ {Token T N P V : Type 0} (g : Grammar Token T N P V) (predict : N → T → Option P) where
  same_production : (n m : N) → (p q : P) → (ts : List Token) → n ≡ m → Predicts g predict n p ts → Predicts g predict m q ts → p ≡ q
  same_production n m p q [] e h k = absurd h
  same_production n m p q (t ∷ ts) e h k =
      let f : predict n (g.terminal_of t) ≡ Some q = subst (λ i. predict i (g.terminal_of t) ≡ Some q) (sym e) k in cc

  mutual
    one : (c d : Tree Token P) → (x : Symbol T N) → (ts r s : List Token) → Goes g predict c x ts r → Goes g predict d x ts s → (c ≡ d) × (r ≡ s)
    one (leaf t) (leaf u) x ts r s h k =
        let a = h.1 in
        let b = k.1 in
        let same : t ≡ u = cc in
        (ap leaf same, cc)
    one (leaf t) (node q js) x ts r s h k = absurd (let a = h.0 in let b = k.1 in cc)
    one (node p cs) (leaf u) x ts r s h k = absurd (let a = h.1 in let b = k.0 in cc)
    one (node p cs) (node q js) x ts r s h k =
        let a = h.1 in
        let b = k.1 in
        let nonterminals : h.0 ≡ k.0 = cc in
        let production : p ≡ q = same_production h.0 k.0 p q ts nonterminals h.2 k.2 in
        let inner = one_all cs js (g.symbols p) ts r s h.3 (subst (λ i. GoesAll g predict js (g.symbols i) ts s) (sym production) k.3) in
        (ap (λ i. node i cs) production ∙ ap (node q) inner.0, inner.1)

    one_all : (cs js : Trees Token P) → (xs : List (Symbol T N)) → (ts r s : List Token) → GoesAll g predict cs xs ts r → GoesAll g predict js xs ts s → (cs ≡ js) × (r ≡ s)
    one_all none none xs ts r s h k = (refl, sym h.1 ∙ k.1)
    one_all none (some d js) xs ts r s h k = absurd (let a = h.0 in let b = k.3 in cc)
    one_all (some c cs) none xs ts r s h k = absurd (let a = h.3 in let b = k.0 in cc)
    one_all (some c cs) (some d js) xs ts r s h k =
        let a = h.3 in
        let b = k.3 in
        let first_symbol : k.0 ≡ h.0 = cc in
        let others : k.1 ≡ h.1 = cc in
        let first = one c d h.0 ts h.2 k.2 h.4 (subst (λ i. Goes g predict d i ts k.2) first_symbol k.4) in
        let next = one_all cs js h.1 h.2 r s h.5 (subst (λ m. GoesAll g predict js h.1 m s) (sym first.1) (subst (λ ys. GoesAll g predict js ys k.2 s) others k.5)) in
        (ap (λ i. some i cs) first.0 ∙ ap (some d) next.0, next.1)

module _ {Token T N P V : Type 0} (g : Grammar Token T N P V) (c : Certificate Token T N P) (sound : IsSound g c) where
  pub one_derivation : (ts : List Token) → (a b : Parse g ts) → a.trees ≡ b.trees
  one_derivation ts a b =
      let x = guided_trees g c.predict (sets_of c) (ll1 g c sound) ts a in
      let y = guided_trees g c.predict (sets_of c) (ll1 g c sound) ts b in
      (one_all g c.predict a.trees b.trees (g.symbols g.start) ts [] [] x y).0

  pub one_value : (ts : List Token) → (a b : V) → IsProgram g ts a → IsProgram g ts b → a ≡ b
  one_value ts a b h k = sym h.1 ∙ (ap (λ cs. g.build g.start (values_of g cs [])) (one_derivation ts h.0 k.0) ∙ k.1)
