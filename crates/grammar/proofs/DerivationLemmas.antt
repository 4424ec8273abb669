-- The grammar and its parse table derive the same: what a production begins with is in FIRST, what follows it in FOLLOW.
use Rattle.std.proofs.Common.{◌≡◌, Bool, true, List, [], ◌∷◌, Option, Some, refl, sym, ◌∙◌, subst, ◌⊎◌, inl, inr}
use Rattle.std.specs.Prelude.{◌&&◌, ◌||◌}
use Rattle.grammar.specs.declared.language.Symbol.{Symbol}
use Rattle.grammar.specs.declared.language.Symbol.TheVariants.{Terminal, Nonterminal}
use Rattle.grammar.specs.declared.language.Event.{Event}
use Rattle.grammar.specs.Grammar.{Grammar, Tree, Trees, leaf, node, none, some, Offers, Derives, DerivesAll, Parse, result_of}
use Rattle.grammar.specs.Limits.{history_of}
use Rattle.grammar.specs.Lookahead.{implies, Sets, first_of, nullable_of, first_list, nullable_list, ends_in_terminal, suits, Offered, IsLl1, Predicts, Goes, GoesAll, IsGuided}
use Rattle.grammar.proofs.BoolLemmas.{or_left, or_right, and_both, and_left, and_right, apply, no_true}

-- The table's derivations are the grammar's.
module _ {Token T N P V : Type 0} (g : Grammar Token T N P V) (predict : N → T → Option P) (offered : (n : N) → (k : T) → Offered g predict n (predict n k) k) where
  pub offers : (n : N) → (p : P) → (ts : List Token) → Predicts g predict n p ts → Offers g n p ts
  offers n p [] h = absurd h
  offers n p (t ∷ ts) h = subst (λ o. Offered g predict n o (g.terminal_of t)) h (offered n (g.terminal_of t))

  mutual
    freed : (c : Tree Token P) → (x : Symbol T N) → (ts rest : List Token) → Goes g predict c x ts rest → Derives g c x ts rest
    freed (leaf t) x ts rest h = h
    freed (node p cs) x ts rest h = (h.0, h.1, offers h.0 p ts h.2, freed_all cs (g.symbols p) ts rest h.3)

    freed_all : (cs : Trees Token P) → (xs : List (Symbol T N)) → (ts rest : List Token) → GoesAll g predict cs xs ts rest → DerivesAll g cs xs ts rest
    freed_all none xs ts rest h = h
    freed_all (some c cs) xs ts rest h = (h.0, h.1, h.2, h.3, freed c h.0 ts h.2 h.4, freed_all cs h.1 h.2 rest h.5)

  pub parse_of : (ts : List Token) → (v : V) → (all : List (Event T P)) → IsGuided g predict ts v all →
      (parse : Parse g ts) × (result_of g parse ≡ v) × (history_of g parse ≡ all)
  parse_of ts v all h = (record { trees = h.0; derives = freed_all h.0 (g.symbols g.start) ts [] h.1 }, h.2, h.3)

-- The grammar's derivations are the table's.
module _ {Token T N P V : Type 0} (g : Grammar Token T N P V) (predict : N → T → Option P) (sets : Sets T N) (ll : IsLl1 g predict sets) where
  abbrev Starts : (T → Bool) → List Token → Type 0
  Starts f [] = ⊥
  Starts f (t ∷ ts) = f (g.terminal_of t) ≡ true

  -- nothing may stand before these tokens; where there are none, this holds besides
  abbrev Vacant : (T → Bool) → Type 0 → List Token → Type 0
  Vacant e none_left [] = none_left
  Vacant e none_left (t ∷ ts) = e (g.terminal_of t) ≡ true

  -- these tokens begin so, or there are none before the rest
  abbrev Begun : (T → Bool) → (T → Bool) → Type 0 → List Token → List Token → Type 0
  Begun f e none_left ts rest = Starts f ts ⊎ (Vacant e none_left ts × (ts ≡ rest))

  widen : (f h : T → Bool) → (ts : List Token) → ((k : T) → f k ≡ true → h k ≡ true) → Starts f ts → Starts h ts
  widen f h [] w s = s
  widen f h (t ∷ ts) w s = w (g.terminal_of t) s

  skipped : (x : Symbol T N) → (ys : List (Symbol T N)) → (ts : List Token) → Vacant (nullable_of sets x) ⊥ ts → Starts (first_list sets ys) ts → Starts (first_list sets (x ∷ ys)) ts
  skipped x ys [] v s = absurd v
  skipped x ys (t ∷ ts) v s =
      or_right (first_of sets x (g.terminal_of t)) (nullable_of sets x (g.terminal_of t) && first_list sets ys (g.terminal_of t))
      (and_both (nullable_of sets x (g.terminal_of t)) (first_list sets ys (g.terminal_of t)) v s)

  vacant_more : (x : Symbol T N) → (ys : List (Symbol T N)) → (ts : List Token) → Vacant (nullable_of sets x) ⊥ ts → Vacant (nullable_list sets ys) (ys ≡ []) ts →
      Vacant (nullable_list sets (x ∷ ys)) (x ∷ ys ≡ []) ts
  vacant_more x ys [] v w = absurd v
  vacant_more x ys (t ∷ ts) v w = and_both (nullable_of sets x (g.terminal_of t)) (nullable_list sets ys (g.terminal_of t)) v w

  begun_more : (x : Symbol T N) → (ys : List (Symbol T N)) → (ts middle rest : List Token) →
      Begun (first_of sets x) (nullable_of sets x) ⊥ ts middle → Begun (first_list sets ys) (nullable_list sets ys) (ys ≡ []) middle rest →
      Begun (first_list sets (x ∷ ys)) (nullable_list sets (x ∷ ys)) (x ∷ ys ≡ []) ts rest
  begun_more x ys ts middle rest (inl s) b =
      inl (widen (first_of sets x) (first_list sets (x ∷ ys)) ts (λ k h. or_left (first_of sets x k) (nullable_of sets x k && first_list sets ys k) h) s)
  begun_more x ys ts middle rest (inr e) (inl s) = inl (skipped x ys ts e.0 (subst (λ us. Starts (first_list sets ys) us) (sym e.1) s))
  begun_more x ys ts middle rest (inr e) (inr d) = inr (vacant_more x ys ts e.0 (subst (λ us. Vacant (nullable_list sets ys) (ys ≡ []) us) (sym e.1) d.0), e.1 ∙ d.1)

  vacant_production : (p : P) → (n : N) → (ts : List Token) → Offers g n p ts → Vacant (nullable_list sets (g.symbols p)) (g.symbols p ≡ []) ts → Vacant (sets.nullable n) ⊥ ts
  vacant_production p n [] o v = o
  vacant_production p n (t ∷ ts) o v = subst (λ m. sets.nullable m (g.terminal_of t) ≡ true) o.0 (ll.nullable_closed p (g.terminal_of t) v o.1)

  begun_production : (p : P) → (n : N) → (ts rest : List Token) → g.nonterminal_of p ≡ n → Offers g n p ts →
      Begun (first_list sets (g.symbols p)) (nullable_list sets (g.symbols p)) (g.symbols p ≡ []) ts rest → Begun (sets.first n) (sets.nullable n) ⊥ ts rest
  begun_production p n ts rest e o (inl s) =
      inl (widen (first_list sets (g.symbols p)) (sets.first n) ts (λ k h. subst (λ m. sets.first m k ≡ true) e (ll.first_closed p k h)) s)
  begun_production p n ts rest e o (inr d) = inr (vacant_production p n ts o d.0, d.1)

  empty_list : (ts : List Token) → (xs : List (Symbol T N)) → xs ≡ [] → Vacant (nullable_list sets xs) (xs ≡ []) ts
  empty_list [] xs e = e
  empty_list (t ∷ ts) xs e = subst (λ ys. nullable_list sets ys (g.terminal_of t) ≡ true) (sym e) refl

  pub offers_nonterminal : (n : N) → (p : P) → (ts : List Token) → Offers g n p ts → g.nonterminal_of p ≡ n
  offers_nonterminal n p [] h = absurd h
  offers_nonterminal n p (t ∷ ts) h = h.0

  mutual
    begun : (c : Tree Token P) → (x : Symbol T N) → (ts rest : List Token) → Derives g c x ts rest → Begun (first_of sets x) (nullable_of sets x) ⊥ ts rest
    begun (leaf t) x ts rest h =
        subst (λ y. Begun (first_of sets y) (nullable_of sets y) ⊥ ts rest) (sym h.0)
        (subst (λ us. Begun (first_of sets (Terminal (g.terminal_of t))) (nullable_of sets (Terminal (g.terminal_of t))) ⊥ us rest) (sym h.1) (inl (ll.own (g.terminal_of t))))
    begun (node p cs) x ts rest h =
        subst (λ y. Begun (first_of sets y) (nullable_of sets y) ⊥ ts rest) (sym h.1)
        (begun_production p h.0 ts rest (offers_nonterminal h.0 p ts h.2) h.2 (begun_all cs (g.symbols p) ts rest h.3))

    begun_all : (cs : Trees Token P) → (xs : List (Symbol T N)) → (ts rest : List Token) → DerivesAll g cs xs ts rest → Begun (first_list sets xs) (nullable_list sets xs) (xs ≡ []) ts rest
    begun_all none xs ts rest h = inr (empty_list ts xs h.0, h.1)
    begun_all (some c cs) xs ts rest h =
        subst (λ zs. Begun (first_list sets zs) (nullable_list sets zs) (zs ≡ []) ts rest) (sym h.3)
        (begun_more h.0 h.1 ts h.2 rest (begun c h.0 ts h.2 h.4) (begun_all cs h.1 h.2 rest h.5))

  abbrev Ready : N → List Token → Type 0
  Ready n rest = Starts (sets.follow n) rest

  abbrev ReadyFor : Symbol T N → List Token → Type 0
  ReadyFor (Terminal k) rest = Unit {0}
  ReadyFor (Nonterminal n) rest = Ready n rest

  -- what is behind a symbol begins by what may follow it
  ready_first : (q : N) → (ys : List (Symbol T N)) → (m : N) → (middle : List Token) → Starts (first_list sets ys) middle →
      ((k : T) → suits sets m (Nonterminal q ∷ ys) k ≡ true) → Ready q middle
  ready_first q ys m middle b s =
      widen (first_list sets ys) (sets.follow q) middle
      (λ k h. apply (first_list sets ys k || (nullable_list sets ys k && sets.follow m k)) (sets.follow q k)
      (and_left (implies (first_list sets ys k || (nullable_list sets ys k && sets.follow m k)) (sets.follow q k)) (suits sets m ys k) (s k))
      (or_left (first_list sets ys k) (nullable_list sets ys k && sets.follow m k) h))
      b

  ready_behind : (q : N) → (ys : List (Symbol T N)) → (m : N) → (ts : List Token) → Vacant (nullable_list sets ys) (ys ≡ []) ts → Ready m ts →
      ((k : T) → suits sets m (Nonterminal q ∷ ys) k ≡ true) → Ready q ts
  ready_behind q ys m [] v r s = absurd r
  ready_behind q ys m (t ∷ ts) v r s =
      apply (first_list sets ys (g.terminal_of t) || (nullable_list sets ys (g.terminal_of t) && sets.follow m (g.terminal_of t))) (sets.follow q (g.terminal_of t))
      (and_left (implies (first_list sets ys (g.terminal_of t) || (nullable_list sets ys (g.terminal_of t) && sets.follow m (g.terminal_of t))) (sets.follow q (g.terminal_of t)))
      (suits sets m ys (g.terminal_of t)) (s (g.terminal_of t)))
      (or_right (first_list sets ys (g.terminal_of t)) (nullable_list sets ys (g.terminal_of t) && sets.follow m (g.terminal_of t))
      (and_both (nullable_list sets ys (g.terminal_of t)) (sets.follow m (g.terminal_of t)) v r))

  ready_for : (x : Symbol T N) → (ys : List (Symbol T N)) → (m : N) → (middle rest : List Token) →
      Begun (first_list sets ys) (nullable_list sets ys) (ys ≡ []) middle rest → Ready m rest → ((k : T) → suits sets m (x ∷ ys) k ≡ true) → ReadyFor x middle
  ready_for (Terminal k) ys m middle rest b r s = tt
  ready_for (Nonterminal q) ys m middle rest (inl b) r s = ready_first q ys m middle b s
  ready_for (Nonterminal q) ys m middle rest (inr b) r s = ready_behind q ys m middle b.0 (subst (λ us. Ready m us) (sym b.1) r) s

  suits_next : (m : N) → (x : Symbol T N) → (ys : List (Symbol T N)) → (k : T) → suits sets m (x ∷ ys) k ≡ true → suits sets m ys k ≡ true
  suits_next m (Terminal j) ys k h = h
  suits_next m (Nonterminal q) ys k h =
      and_right (implies (first_list sets ys k || (nullable_list sets ys k && sets.follow m k)) (sets.follow q k)) (suits sets m ys k) h

  predicts : (n : N) → (p : P) → (ts rest : List Token) → Offers g n p ts →
      Begun (first_list sets (g.symbols p)) (nullable_list sets (g.symbols p)) (g.symbols p ≡ []) ts rest → Ready n rest → Predicts g predict n p ts
  predicts n p [] rest h b r = absurd h
  predicts n p (t ∷ ts) rest h (inl b) r = subst (λ m. predict m (g.terminal_of t) ≡ Some p) h.0 (ll.predicts_first p (g.terminal_of t) b)
  predicts n p (t ∷ ts) rest h (inr b) r =
      subst (λ m. predict m (g.terminal_of t) ≡ Some p) h.0
      (ll.predicts_empty p (g.terminal_of t) b.0
      (subst (λ m. sets.follow m (g.terminal_of t) ≡ true) (sym h.0) (subst (λ us. Starts (sets.follow n) us) (sym b.1) r)) h.1)

  mutual
    guided : (c : Tree Token P) → (x : Symbol T N) → (ts rest : List Token) → Derives g c x ts rest → ReadyFor x rest → Goes g predict c x ts rest
    guided (leaf t) x ts rest h r = h
    guided (node p cs) x ts rest h r =
        let ready : Ready h.0 rest = subst (λ y. ReadyFor y rest) h.1 r in
        let owned = offers_nonterminal h.0 p ts h.2 in (
          h.0,
          h.1,
          predicts h.0 p ts rest h.2 (begun_all cs (g.symbols p) ts rest h.3) ready,
          guided_all cs (g.nonterminal_of p) (g.symbols p) ts rest h.3 (subst (λ m. Ready m rest) (sym owned) ready) (ll.suited p),
        )

    guided_all : (cs : Trees Token P) → (m : N) → (xs : List (Symbol T N)) → (ts rest : List Token) → DerivesAll g cs xs ts rest → Ready m rest →
        ((k : T) → suits sets m xs k ≡ true) → GoesAll g predict cs xs ts rest
    guided_all none m xs ts rest h r s = h
    guided_all (some c cs) m xs ts rest h r s =
        let suit : (k : T) → suits sets m (h.0 ∷ h.1) k ≡ true = λ k. subst (λ zs. suits sets m zs k ≡ true) h.3 (s k) in (
          h.0,
          h.1,
          h.2,
          h.3,
          guided c h.0 ts h.2 h.4 (ready_for h.0 h.1 m h.2 rest (begun_all cs h.1 h.2 rest h.5) r suit),
          guided_all cs m h.1 h.2 rest h.5 r (λ k. suits_next m h.0 h.1 k (suit k)),
        )

  -- The same of the whole text, behind which nothing stands.
  last_empty : (q : N) → (ys : List (Symbol T N)) → (ts : List Token) → ts ≡ [] → Vacant (nullable_list sets ys) (ys ≡ []) ts → ends_in_terminal (Nonterminal q ∷ ys) ≡ true → ⊥
  last_empty q ys [] e v a = no_true (subst (λ zs. ends_in_terminal (Nonterminal q ∷ zs) ≡ true) v a)
  last_empty q ys (t ∷ ts) e v a = cc

  ready_last : (x : Symbol T N) → (ys : List (Symbol T N)) → (m : N) → (middle : List Token) →
      Begun (first_list sets ys) (nullable_list sets ys) (ys ≡ []) middle [] → ends_in_terminal (x ∷ ys) ≡ true → ((k : T) → suits sets m (x ∷ ys) k ≡ true) → ReadyFor x middle
  ready_last (Terminal k) ys m middle b a u = tt
  ready_last (Nonterminal q) ys m middle (inl b) a u = ready_first q ys m middle b u
  ready_last (Nonterminal q) ys m middle (inr b) a u = absurd (last_empty q ys middle b.1 b.0 a)

  ends_next : (x : Symbol T N) → (ys : List (Symbol T N)) → ends_in_terminal (x ∷ ys) ≡ true → ends_in_terminal ys ≡ true
  ends_next x [] a = refl
  ends_next x (y ∷ ys) a = a

  guided_last : (cs : Trees Token P) → (m : N) → (xs : List (Symbol T N)) → (ts : List Token) → DerivesAll g cs xs ts [] → ends_in_terminal xs ≡ true →
      ((k : T) → suits sets m xs k ≡ true) → GoesAll g predict cs xs ts []
  guided_last none m xs ts h a u = h
  guided_last (some c cs) m xs ts h a u =
      let suit : (k : T) → suits sets m (h.0 ∷ h.1) k ≡ true = λ k. subst (λ zs. suits sets m zs k ≡ true) h.3 (u k) in
      let last : ends_in_terminal (h.0 ∷ h.1) ≡ true = subst (λ zs. ends_in_terminal zs ≡ true) h.3 a in (
        h.0,
        h.1,
        h.2,
        h.3,
        guided c h.0 ts h.2 h.4 (ready_last h.0 h.1 m h.2 (begun_all cs h.1 h.2 [] h.5) last suit),
        guided_last cs m h.1 h.2 h.5 (ends_next h.0 h.1 last) (λ k. suits_next m h.0 h.1 k (suit k)),
      )

  pub guided_trees : (ts : List Token) → (parse : Parse g ts) → GoesAll g predict parse.trees (g.symbols g.start) ts []
  guided_trees ts parse = guided_last parse.trees (g.nonterminal_of g.start) (g.symbols g.start) ts parse.derives ll.start_ends (ll.suited g.start)

  pub guided_parse : (ts : List Token) → (parse : Parse g ts) → IsGuided g predict ts (result_of g parse) (history_of g parse)
  guided_parse ts parse = (parse.trees, guided_trees ts parse, refl, refl)
