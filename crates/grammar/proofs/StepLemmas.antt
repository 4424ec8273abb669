-- What each step of the machine does to what may follow. Each is an inversion of what the innermost production derives.
use Rattle.std.proofs.Common.{◌≡◌, ℕ, zero, suc, length, drop, Some, None, List, [], ◌∷◌, Option, refl, sym, ◌∙◌, ap, subst}
use Rattle.grammar.specs.declared.language.Symbol.{Symbol}
use Rattle.grammar.specs.declared.language.Symbol.TheVariants.{Terminal, Nonterminal}
use Rattle.grammar.specs.declared.language.Event.{Event}
use Rattle.grammar.specs.declared.language.Event.TheVariants.{Open, Take, Close}
use Rattle.grammar.specs.Grammar.{Grammar, Trees, leaf, node, none, some, values_of}
use Rattle.grammar.specs.Limits.{history_all}
use Rattle.grammar.specs.Lookahead.{GoesAll}
use Rattle.grammar.specs.Descent.{Item, opened, with_value, left, whole, Receives, Continues, Same}

-- the list behind the first of what is left
pub drop_next : {A : Type 0} → (n : ℕ) → (xs : List A) → (x : A) → (ys : List A) → drop n xs ≡ x ∷ ys → drop (suc n) xs ≡ ys
drop_next zero [] x ys e = cc
drop_next zero (y ∷ xs) x ys e = cc
drop_next (suc n) [] x ys e = cc
drop_next (suc n) (y ∷ xs) x ys e = drop_next n xs x ys e

module _ {Token T N P V : Type 0} (g : Grammar Token T N P V) (predict : N → T → Option P) where
  -- no symbols: no trees
  pub record ByNone (cs : Trees Token P) (ts rest : List Token) : Type 0 where
    pub trees : cs ≡ none
    pub tokens : ts ≡ rest

  all_none : (cs : Trees Token P) → (xs : List (Symbol T N)) → (ts rest : List Token) → xs ≡ [] → GoesAll g predict cs xs ts rest → ByNone cs ts rest
  all_none none xs ts rest e h = record { trees = refl; tokens = h.1 }
  all_none (some c cs) xs ts rest e h = absurd (let f = h.3 in cc)

  -- a terminal first: the next token
  record ByTerminal (cs : Trees Token P) (k : T) (ys : List (Symbol T N)) (t : Token) (more rest : List Token) : Type 0 where
    pub others : (Trees Token P)
    pub trees : cs ≡ some (leaf t) others
    pub terminal : k ≡ g.terminal_of t
    pub is : GoesAll g predict others ys more rest

  all_terminal : (cs : Trees Token P) → (xs : List (Symbol T N)) → (k : T) → (ys : List (Symbol T N)) → (t : Token) → (more rest : List Token) →
      xs ≡ Terminal k ∷ ys → GoesAll g predict cs xs (t ∷ more) rest → ByTerminal cs k ys t more rest
  all_terminal none xs k ys t more rest e h = absurd (let f = h.0 in cc)
  all_terminal (some (leaf u) cs) xs k ys t more rest e h =
      let e1 = h.3 in
      let e2 = h.4.0 in
      let e3 = h.4.1 in
      let same : u ≡ t = cc in
      let tail : h.1 ≡ ys = cc in
      let after : h.2 ≡ more = cc in
      record {
        others = cs;
        trees = ap (λ v. some (leaf v) cs) same;
        terminal = cc;
        is = subst (λ m. GoesAll g predict cs ys m rest) after (subst (λ s. GoesAll g predict cs s h.2 rest) tail h.5);
      }
  all_terminal (some (node p js) cs) xs k ys t more rest e h = absurd (let e1 = h.3 in let e2 = h.4.1 in cc)

  -- a nonterminal first: its production is the predicted one
  record ByNonterminal (cs : Trees Token P) (n : N) (ys : List (Symbol T N)) (t : Token) (more rest : List Token) : Type 0 where
    pub production : P
    pub inner : (Trees Token P)
    pub others : (Trees Token P)
    pub middle : List Token
    pub trees : cs ≡ some (node production inner) others
    pub predicted : predict n (g.terminal_of t) ≡ Some production
    pub is : GoesAll g predict inner (g.symbols production) (t ∷ more) middle
    pub after : GoesAll g predict others ys middle rest

  all_nonterminal : (cs : Trees Token P) → (xs : List (Symbol T N)) → (n : N) → (ys : List (Symbol T N)) → (t : Token) → (more rest : List Token) →
      xs ≡ Nonterminal n ∷ ys → GoesAll g predict cs xs (t ∷ more) rest → ByNonterminal cs n ys t more rest
  all_nonterminal none xs n ys t more rest e h = absurd (let f = h.0 in cc)
  all_nonterminal (some (leaf u) cs) xs n ys t more rest e h = absurd (let e1 = h.3 in let e2 = h.4.0 in cc)
  all_nonterminal (some (node p js) cs) xs n ys t more rest e h =
      let e1 = h.3 in
      let e2 = h.4.1 in
      let same : h.4.0 ≡ n = cc in
      let tail : h.1 ≡ ys = cc in
      record {
        production = p;
        inner = js;
        others = cs;
        middle = h.2;
        trees = refl;
        predicted = subst (λ m. predict m (g.terminal_of t) ≡ Some p) same h.4.2;
        is = h.4.3;
        after = subst (λ s. GoesAll g predict cs s h.2 rest) tail h.5;
      }

  -- No tokens left: no trees.
  pub all_end : (cs : Trees Token P) → (xs : List (Symbol T N)) → (rest : List Token) → GoesAll g predict cs xs [] rest → ByNone cs [] rest
  all_end none xs rest h = record { trees = refl; tokens = h.1 }
  all_end (some (leaf u) cs) xs rest h = absurd (let f = h.4.1 in cc)
  all_end (some (node p js) cs) xs rest h = absurd h.4.2

  -- A production that is whole is a value of the one around it.
  pub closes : (f h : Item P V) → (fs : List (Item P V)) → (past : List (Event T P)) → (ts : List Token) → left g f ≡ [] →
      Same g predict (f ∷ h ∷ fs) past (with_value h (whole g f) ∷ fs) (Close f.production ∷ past) ts ts
  closes f h fs past ts e = record {
    to = λ c all d. let by = all_none d.0 _ ts d.1 e d.2 in
        subst (λ r. Receives g predict (h ∷ fs) (whole g f) (Close f.production ∷ past) r c all) (sym by.tokens)
        (subst (λ js. Receives g predict (h ∷ fs) (g.build f.production (values_of g js f.values)) (Close f.production ∷ history_all g js past) d.1 c all) by.trees d.3);
    from = λ c all d. (none, ts, (e, refl), d);
  }

  -- A terminal takes a token that has it.
  pub shifts : (f : Item P V) → (fs : List (Item P V)) → (past : List (Event T P)) → (k : T) → (ys : List (Symbol T N)) → (t : Token) →
      left g f ≡ Terminal k ∷ ys → g.terminal_of t ≡ k → (more : List Token) →
      Same g predict (f ∷ fs) past (with_value f (g.value t) ∷ fs) (Take (g.terminal_of t) ∷ past) (t ∷ more) more
  shifts f fs past k ys t e same more =
      let next = drop_next (length f.values) (g.symbols f.production) (Terminal k) ys e in
      record {
        to = λ c all d. let by = all_terminal d.0 _ k ys t more d.1 e d.2 in (
          by.others,
          d.1,
          subst (λ s. GoesAll g predict by.others s more d.1) (sym next) by.is,
          subst (λ js. Receives g predict fs (g.build f.production (values_of g js f.values)) (Close f.production ∷ history_all g js past) d.1 c all) by.trees d.3,
        );
        from = λ c all d. (
          some (leaf t) d.0,
          d.1,
          (Terminal k, ys, more, e, (ap Terminal (sym same), refl), subst (λ s. GoesAll g predict d.0 s more d.1) next d.2),
          d.3,
        );
      }

  -- It takes no other.
  pub refuses_terminal : (f : Item P V) → (fs : List (Item P V)) → (k : T) → (ys : List (Symbol T N)) → (t : Token) →
      left g f ≡ Terminal k ∷ ys → (g.terminal_of t ≡ k → ⊥) → (past : List (Event T P)) → (more : List Token) → (c : V) → (all : List (Event T P)) →
      Continues g predict (f ∷ fs) past (t ∷ more) c all → ⊥
  refuses_terminal f fs k ys t e other past more c all d = let by = all_terminal d.0 _ k ys t more d.1 e d.2 in other (sym by.terminal)

  -- A nonterminal goes on by its production at the token.
  pub opens : (f : Item P V) → (fs : List (Item P V)) → (past : List (Event T P)) → (n : N) → (ys : List (Symbol T N)) → (t : Token) → (p : P) →
      left g f ≡ Nonterminal n ∷ ys → predict n (g.terminal_of t) ≡ Some p → (more : List Token) →
      Same g predict (f ∷ fs) past (opened p ∷ f ∷ fs) (Open p ∷ past) (t ∷ more) (t ∷ more)
  opens f fs past n ys t p e predicted more =
      let next = drop_next (length f.values) (g.symbols f.production) (Nonterminal n) ys e in
      record {
        to = λ c all d. let by = all_nonterminal d.0 _ n ys t more d.1 e d.2 in
            let first = by.predicted in
            let same : by.production ≡ p = cc in (
              by.inner,
              by.middle,
              subst (λ q. GoesAll g predict by.inner (g.symbols q) (t ∷ more) by.middle) same by.is,
              (
                by.others,
                d.1,
                subst (λ s. GoesAll g predict by.others s by.middle d.1) (sym next) by.after,
                subst (λ q. Receives g predict fs (g.build f.production (values_of g (some (node q by.inner) by.others) f.values))
                    (Close f.production ∷ history_all g (some (node q by.inner) by.others) past) d.1 c all) same
                    (subst (λ js. Receives g predict fs (g.build f.production (values_of g js f.values)) (Close f.production ∷ history_all g js past) d.1 c all) by.trees d.3),
              ),
            );
        from = λ c all d. (
          some (node p d.0) d.3.0,
          d.3.1,
          (Nonterminal n, ys, d.1, e, (n, refl, predicted, d.2), subst (λ s. GoesAll g predict d.3.0 s d.1 d.3.1) next d.3.2),
          d.3.3,
        );
      }

  -- Where it has none, no tokens go on.
  pub refuses_nonterminal : (f : Item P V) → (fs : List (Item P V)) → (n : N) → (ys : List (Symbol T N)) → (t : Token) →
      left g f ≡ Nonterminal n ∷ ys → predict n (g.terminal_of t) ≡ None → (past : List (Event T P)) → (more : List Token) → (c : V) → (all : List (Event T P)) →
      Continues g predict (f ∷ fs) past (t ∷ more) c all → ⊥
  refuses_nonterminal f fs n ys t e predicted past more c all d =
      let by = all_nonterminal d.0 _ n ys t more d.1 e d.2 in
      let first = by.predicted in
      absurd (cc)

  -- A whole text takes no further token.
  pub refuses_whole : (f : Item P V) → (t : Token) → left g f ≡ [] → (past : List (Event T P)) → (more : List Token) → (c : V) → (all : List (Event T P)) →
      Continues g predict (f ∷ []) past (t ∷ more) c all → ⊥
  refuses_whole f t e past more c all d =
      let by = all_none d.0 _ (t ∷ more) d.1 e d.2 in
      let first = by.tokens in
      let last = d.3.2 in
      absurd (cc)

  -- A whole text is its value.
  pub finishes : (f : Item P V) → (past : List (Event T P)) → (c : V) → (all : List (Event T P)) → left g f ≡ [] → Continues g predict (f ∷ []) past [] c all →
      whole g f ≡ c
  finishes f past c all e d =
      let by = all_none d.0 _ [] d.1 e d.2 in
      ap (λ js. g.build f.production (values_of g js f.values)) (sym by.trees) ∙ d.3.0

  pub finishes_back : (f : Item P V) → (past : List (Event T P)) → left g f ≡ [] →
      Continues g predict (f ∷ []) past [] (whole g f) (Close f.production ∷ past)
  finishes_back f past e = (none, [], (e, refl), (refl, refl, refl))

  -- What waits for a symbol is not finished by nothing.
  pub unfinished : (f : Item P V) → (fs : List (Item P V)) → (past : List (Event T P)) → (x : Symbol T N) → (ys : List (Symbol T N)) → (c : V) → (all : List (Event T P)) →
      left g f ≡ x ∷ ys → Continues g predict (f ∷ fs) past [] c all → ⊥
  unfinished f fs past x ys c all e d =
      let by = all_end d.0 (left g f) d.1 d.2 in
      let empty : GoesAll g predict none (left g f) [] d.1 = subst (λ js. GoesAll g predict js (left g f) [] d.1) by.trees d.2 in
      absurd (let f = empty.0 in cc)
