-- The end of the text stands at the end of a program alone, so a text that ends with it is a program or has a fault.
use Rattle.std.proofs.Common.{◌≡◌, true, List, [], ◌∷◌, ◌++◌, refl, sym, ◌∙◌, ap, subst, append_assoc, append-nil}
use Rattle.std.specs.Prelude.{◌&&◌, not}
use Rattle.grammar.specs.declared.language.Symbol.{Symbol}
use Rattle.grammar.specs.declared.language.Symbol.TheVariants.{Terminal}
use Rattle.grammar.specs.Grammar.{Grammar, Tree, Trees, leaf, node, none, some, Derives, DerivesAll, Parse, Begins, EndsWith}
use Rattle.grammar.specs.Certificate.{Certificate, is_inner, all_inner, is_end, ends_once, IsSound}
use Rattle.grammar.proofs.BoolLemmas.{and_left, and_right, apply, never_both, no_true}
use Rattle.grammar.proofs.LookaheadLemmas.{sets_of, ll1}
use Rattle.grammar.proofs.DerivationLemmas.{offers_nonterminal}

module _ {Token T N P V : Type 0} (g : Grammar Token T N P V) (c : Certificate Token T N P) (sound : IsSound g c) where
  abbrev NoEnd : List Token → Type 0
  NoEnd [] = Unit {0}
  NoEnd (t ∷ ts) = (g.terminal_of t ≡ c.end → ⊥) × NoEnd ts

  no_end-append : (ts us : List Token) → NoEnd ts → NoEnd us → NoEnd (ts ++ us)
  no_end-append [] us h k = k
  no_end-append (t ∷ ts) us h k = (h.0, no_end-append ts us h.1 k)

  not_end : (k : T) → not (c.same_terminal c.end k) ≡ true → k ≡ c.end → ⊥
  not_end k h e = never_both (c.same_terminal c.end k) (subst (λ j. c.same_terminal c.end j ≡ true) (sym e) (sound.same_terminal.own c.end)) h

  -- tokens without the end, and then the rest
  record Front (ts rest : List Token) : Type 0 where
    pub front : List Token
    pub none_ends : NoEnd front
    pub is : ts ≡ front ++ rest

  front_then : (ts middle rest : List Token) → Front ts middle → Front middle rest → Front ts rest
  front_then ts middle rest a b = record {
    front = a.front ++ b.front;
    none_ends = no_end-append a.front b.front a.none_ends b.none_ends;
    is = a.is ∙ (ap (λ us. a.front ++ us) b.is ∙ sym (append_assoc a.front b.front rest));
  }

  mutual
    front_of : (t : Tree Token P) → (x : Symbol T N) → (ts rest : List Token) → Derives g t x ts rest → is_inner c x ≡ true → Front ts rest
    front_of (leaf t) x ts rest h k =
        let good : is_inner c (Terminal (g.terminal_of t)) ≡ true = subst (λ y. is_inner c y ≡ true) h.0 k in
        record { front = t ∷ []; none_ends = (not_end (g.terminal_of t) good, tt); is = h.1 }
    front_of (node p cs) x ts rest h k =
        let good : c.inner (g.nonterminal_of p) ≡ true =
        subst (λ n. c.inner n ≡ true) (sym (offers_nonterminal g c.predict (sets_of c) (ll1 g c sound) h.0 p ts h.2)) (subst (λ y. is_inner c y ≡ true) h.1 k) in
        front_all cs (g.symbols p) ts rest h.3 (apply (c.inner (g.nonterminal_of p)) (all_inner c (g.symbols p)) (sound.inner p) good)

    front_all : (cs : Trees Token P) → (xs : List (Symbol T N)) → (ts rest : List Token) → DerivesAll g cs xs ts rest → all_inner c xs ≡ true → Front ts rest
    front_all none xs ts rest h k = record { front = []; none_ends = tt; is = h.1 }
    front_all (some t cs) xs ts rest h k =
        let good : all_inner c (h.0 ∷ h.1) ≡ true = subst (λ ys. all_inner c ys ≡ true) h.3 k in
        front_then ts h.2 rest (front_of t h.0 ts h.2 h.4 (and_left (is_inner c h.0) (all_inner c h.1) good))
        (front_all cs h.1 h.2 rest h.5 (and_right (is_inner c h.0) (all_inner c h.1) good))

  -- a program is tokens without the end, and the end
  record Whole (ts : List Token) : Type 0 where
    pub front : List Token
    pub last : Token
    pub none_ends : NoEnd front
    pub is : ts ≡ front ++ last ∷ []

  last_of : (t : Tree Token P) → (x : Symbol T N) → (ts : List Token) → Derives g t x ts [] → is_end c x ≡ true → Whole ts
  last_of (leaf t) x ts h k = record { front = []; last = t; none_ends = tt; is = h.1 }
  last_of (node p cs) x ts h k = absurd (no_true (subst (λ y. is_end c y ≡ true) h.1 k))

  no_trees : (cs : Trees Token P) → (xs : List (Symbol T N)) → (ts : List Token) → xs ≡ [] → DerivesAll g cs xs ts [] → ts ≡ []
  no_trees none xs ts e h = h.1
  no_trees (some t cs) xs ts e h = absurd (let f = h.3 in cc)

  by_rest : (t : Tree Token P) → (cs : Trees Token P) → (x : Symbol T N) → (xs ys : List (Symbol T N)) → (ts middle : List Token) → xs ≡ ys → Derives g t x ts middle →
      DerivesAll g cs xs middle [] → ends_once c (x ∷ xs) ≡ true → (ends_once c xs ≡ true → Whole middle) → Whole ts
  by_rest t cs x xs [] ts middle e first others good again =
      last_of t x ts (subst (λ us. Derives g t x ts us) (no_trees cs xs middle e others) first) (subst (λ zs. ends_once c (x ∷ zs) ≡ true) e good)
  by_rest t cs x xs (y ∷ ys) ts middle e first others good again =
      let both : is_inner c x && ends_once c (y ∷ ys) ≡ true = subst (λ zs. ends_once c (x ∷ zs) ≡ true) e good in
      let start = front_of t x ts middle first (and_left (is_inner c x) (ends_once c (y ∷ ys)) both) in
      let rest = again (subst (λ zs. ends_once c zs ≡ true) (sym e) (and_right (is_inner c x) (ends_once c (y ∷ ys)) both)) in
      record {
        front = start.front ++ rest.front;
        last = rest.last;
        none_ends = no_end-append start.front rest.front start.none_ends rest.none_ends;
        is = start.is ∙ (ap (λ us. start.front ++ us) rest.is ∙ sym (append_assoc start.front rest.front (rest.last ∷ [])));
      }

  -- the last of the symbols is the end
  whole_of : (cs : Trees Token P) → (xs : List (Symbol T N)) → (ts : List Token) → DerivesAll g cs xs ts [] → ends_once c xs ≡ true → Whole ts
  whole_of none xs ts h k = absurd (no_true (subst (λ ys. ends_once c ys ≡ true) h.0 k))
  whole_of (some t cs) xs ts h k =
      by_rest t cs h.0 h.1 h.1 ts h.2 refl h.4 h.5 (subst (λ ys. ends_once c ys ≡ true) h.3 k) (λ e. whole_of cs h.1 h.2 h.5 e)

  no_more : (ts : List Token) → (t : Token) → (us : List Token) → (ts ++ t ∷ []) ++ us ≡ [] → ⊥
  no_more [] t us e = cc
  no_more (s ∷ ts) t us e = cc

  cut : (front : List Token) → (last : Token) → (more body : List Token) → (end : Token) → NoEnd body → g.terminal_of last ≡ c.end →
      (front ++ last ∷ []) ++ more ≡ body ++ end ∷ [] → more ≡ []
  cut [] last more [] end n k e = cc
  cut [] last more (b ∷ body) end n k e = let same : last ≡ b = cc in absurd (n.0 (subst (λ t. g.terminal_of t ≡ c.end) same k))
  cut (f ∷ front) last more [] end n k e = let tail : (front ++ last ∷ []) ++ more ≡ [] = cc in absurd (no_more front last more tail)
  cut (f ∷ front) last more (b ∷ body) end n k e =
      let tail : (front ++ last ∷ []) ++ more ≡ body ++ end ∷ [] = cc in cut front last more body end n.1 k tail

  -- What ends with the end and begins a program is one.
  pub ended : (ts : List Token) → EndsWith g c.end ts → Begins g ts → Parse g ts
  ended ts e b =
      let w = whole_of b.1.trees (g.symbols g.start) (ts ++ b.0) b.1.derives sound.ends in
      let none_left : b.0 ≡ [] = cut e.0 e.1 b.0 w.front w.last w.none_ends e.3 (ap (λ us. us ++ b.0) (sym e.2) ∙ w.is) in
      subst (λ us. Parse g us) (ap (λ us. ts ++ us) none_left ∙ append-nil ts) b.1
