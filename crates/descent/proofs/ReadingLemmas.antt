-- What tokens and productions read.
use Rattle.std.proofs.Common.{◌≡◌, ◌||◌, Bool, true, false, List, [], ◌∷◌, length, Some, None, refl, sym, ◌∙◌, ap, subst}
use Rattle.ground.specs.declared.token.Token.{Token}
use Rattle.grammar.specs.declared.language.Symbol.{Symbol}
use Rattle.grammar.specs.declared.language.Symbol.TheVariants.{Terminal, Nonterminal}
use Rattle.grammar.specs.declared.language.Event.TheVariants.{Open, Take, Close}
use Rattle.grammar.specs.Grammar.{Grammar}
use Rattle.grammar.specs.Limits.{Meter}
use Rattle.grammar.specs.Certificate.{Certificate, IsSound, Nullable, Never, Before, Always, may_be_empty, member, first_symbols, nullable_symbols, through, covers, empties}
use Rattle.grammar.specs.Descent.{Item, left, behind, with_value, opened}
use Rattle.grammar.proofs.BoolLemmas.{or_left, or_right, and_left}
use Rattle.grammar.proofs.LookaheadLemmas.{member-append_left, subset_member, predicted as found_predicted}
use Rattle.grammar.proofs.StepLemmas.{drop_next}
use Rattle.descent.specs.declared.reader.Reader.{Reader}
use Rattle.descent.specs.Passages.{Ran}
use Rattle.descent.specs.Reading.{with_meters, Sees, Begins, Passage, Reads, Parts, done, next}
use Rattle.descent.proofs.PassageLemmas.{ran_here, ran_on, ran_token, produced}

abbrev first_of : {A : Type 0} → A → List A → A
first_of x [] = x
first_of x (y ∷ ys) = y

abbrev pub is_never : {T : Type 0} → Nullable T → Bool
is_never Never = true
is_never (Before ks) = false
is_never Always = false

abbrev filling : {P V : Type 0} → P → List V → Item P V
filling p vs = record { production = p; values = vs }

module _ {T N P V M : Type 0} (g : Grammar Token T N P V) (c : Certificate Token T N P) (meter : Meter T P M) where
  -- A token that is the next symbol, before another.
  pub reads_token : (k : T) (r s : Reader T M) (token after : Token) (others : List Token) → r.seen ≡ k → r.rest.now ≡ token ∷ s.rest.now → s.rest.now ≡ after ∷ others
      → s.seen ≡ g.terminal_of after → s.meters ≡ meter.next (Take k) r.meters → meter.passed s.meters ≡ None → Reads g c meter (Terminal k) r (g.value token) s
  reads_token k r s token after others at is behind_it sees counted none = record {
    begins = at;
    passage = λ old.
        let same : old.token ≡ token = ap (λ ts. first_of old.token ts) (sym old.is ∙ is) in
        let seen : k ≡ g.terminal_of token = sym at ∙ (old.seen ∙ ap g.terminal_of same) in
        let counts : s.meters ≡ meter.next (Take (g.terminal_of token)) r.meters = counted ∙ ap (λ j. meter.next (Take j) r.meters) seen in
        record {
          sees = record { token = after; others = others; is = behind_it; seen = sees };
          ran = λ f fs awaits.
              subst (λ ts. Ran g c.predict meter (f ∷ fs) r.meters ts (with_value f (g.value token) ∷ fs) s.meters s.rest.now) (sym is)
              (subst (λ m. Ran g c.predict meter (f ∷ fs) r.meters (token ∷ s.rest.now) (with_value f (g.value token) ∷ fs) m s.rest.now) (sym counts)
              (ran_token g c.predict meter f fs r.meters token s.rest.now (awaits ∙ ap (λ j. Terminal j ∷ behind g f) seen) (ap meter.passed (sym counts) ∙ none)));
        };
  }

  -- A production's symbols have been read from some point on.
  record Filled (p : P) (r : Reader T M) (vs ws : List V) (s : Reader T M) : Type 0 where
    pub sees : Sees g s
    pub full : left g (filling p ws) ≡ []
    pub ran : (fs : List (Item P V)) → Ran g c.predict meter (filling p vs ∷ fs) r.meters r.rest.now (filling p ws ∷ fs) s.meters s.rest.now

  filled : (p : P) (xs : List (Symbol T N)) (r s : Reader T M) (vs ws : List V) → left g (filling p vs) ≡ xs → Parts g c meter xs r vs ws s → Sees g r
      → Filled p r vs ws s
  filled p [] r s vs ws e done sees = record { sees = sees; full = e; ran = λ fs. ran_here g c.predict meter (filling p vs ∷ fs) r.meters r.rest.now }
  filled p (x ∷ xs) r u vs ws e (next {s = s} {v = v} a b) sees =
      let one = a.passage sees in
      let left_over : left g (filling p (v ∷ vs)) ≡ xs = drop_next (length vs) (g.symbols p) x xs e in
      let rest = filled p xs s u (v ∷ vs) ws left_over b one.sees in
      record {
        sees = rest.sees;
        full = rest.full;
        ran = λ fs. ran_on g c.predict meter (filling p vs ∷ fs) (filling p (v ∷ vs) ∷ fs) (filling p ws ∷ fs) r.meters s.meters u.meters r.rest.now s.rest.now u.rest.now
            (one.ran (filling p vs) fs (e ∙ ap (λ ys. x ∷ ys) (sym left_over))) (rest.ran fs);
      }

  -- The table's production reads what its symbols read.
  passes : (i : N) (p : P) (r s : Reader T M) (ws : List V) → c.predict i r.seen ≡ Some p
      → Parts g c meter (g.symbols p) (with_meters r (meter.next (Open p) r.meters)) [] ws s → Sees g r
      → Passage g c meter (Nonterminal i) r (g.build p ws) (with_meters s (meter.next (Close p) s.meters))
  passes i p r s ws predicted parts sees =
      let inner = filled p (g.symbols p) (with_meters r (meter.next (Open p) r.meters)) s [] ws refl parts
      (record { token = sees.token; others = sees.others; is = sees.is; seen = sees.seen }) in
      record {
        sees = record { token = inner.sees.token; others = inner.sees.others; is = inner.sees.is; seen = inner.sees.seen };
        ran = λ f fs awaits.
            subst (λ ts. Ran g c.predict meter (f ∷ fs) r.meters ts (with_value f (g.build p ws) ∷ fs) (meter.next (Close p) s.meters) s.rest.now) (sym sees.is)
            (produced g c.predict meter i p sees.token sees.others s.rest.now r.meters s.meters (filling p ws) (ap (c.predict i) (sym sees.seen) ∙ predicted) refl inner.full
            (λ gs. subst (λ ts. Ran g c.predict meter (opened p ∷ gs) (meter.next (Open p) r.meters) ts (filling p ws ∷ gs) s.meters s.rest.now) sees.is (inner.ran gs))
            f fs awaits);
      }

  -- a symbol that is never empty
  abbrev pub is_filled : Symbol T N → Bool
  is_filled (Terminal k) = true
  is_filled (Nonterminal n) = is_never (c.nullable n)

module _ {T N P V M : Type 0} (g : Grammar Token T N P V) (c : Certificate Token T N P) (meter : Meter T P M) (sound : IsSound g c) where
  never_empty : (v : Nullable T) (b : Bool) → is_never v ≡ true → may_be_empty v || b ≡ true → b ≡ true
  never_empty Never b e h = h
  never_empty (Before ks) b e h = cc
  never_empty Always b e h = cc

  -- What begins a symbol that is never empty is one of its first terminals, and so predicts the production.
  begins_production : (x : Symbol T N) (xs : List (Symbol T N)) (k : T) → is_filled g c meter x ≡ true → Begins g c meter x k → member c k (first_symbols c (x ∷ xs)) ≡ true
  begins_production (Terminal j) xs k e h = or_left (c.same_terminal j k) false (subst (λ i. c.same_terminal j i ≡ true) (sym h) (sound.same_terminal.own j))
  begins_production (Nonterminal i) xs k e h =
      member-append_left c k (c.first i) (through c (c.nullable i) (first_symbols c xs)) (never_empty (c.nullable i) (member c k (c.first i)) e h)

  first_begins : (r s : Reader T M) (x : Symbol T N) (xs : List (Symbol T N)) (vs ws : List V) → Parts g c meter (x ∷ xs) r vs ws s → Begins g c meter x r.seen
  first_begins r s x xs vs ws (next a b) = a.begins

  emptied : (p : P) → g.symbols p ≡ [] → may_be_empty (c.nullable (g.nonterminal_of p)) ≡ true
  emptied p of = and_left (may_be_empty (c.nullable (g.nonterminal_of p))) (empties g c p (c.nullable (g.nonterminal_of p)) c.terminals)
      (subst (λ ys. covers g c p (nullable_symbols c ys) (c.nullable (g.nonterminal_of p)) ≡ true) of (sound.nullable p))

  -- Its symbols one after another are the production, where the first is never empty.
  pub production : (p : P) (r r' s s' : Reader T M) (x : Symbol T N) (xs : List (Symbol T N)) (ws : List V) → g.symbols p ≡ x ∷ xs → is_filled g c meter x ≡ true
      → r' ≡ with_meters r (meter.next (Open p) r.meters) → s' ≡ with_meters s (meter.next (Close p) s.meters)
      → Parts g c meter (x ∷ xs) r' [] ws s → Reads g c meter (Nonterminal (g.nonterminal_of p)) r (g.build p ws) s'
  production p r r' s s' x xs ws of filled_first opens closes parts =
      let from = subst (λ q. Parts g c meter (x ∷ xs) q [] ws s) opens parts in
      let first = first_begins (with_meters r (meter.next (Open p) r.meters)) s x xs [] ws from in
      let inside = subst (λ ys. member c r.seen (first_symbols c ys) ≡ true) (sym of) (begins_production x xs r.seen filled_first first) in
      let predicted = found_predicted g c sound (g.nonterminal_of p) p (first_symbols c (g.symbols p)) r.seen (sound.predicts_first p) inside in
      subst (λ q. Reads g c meter (Nonterminal (g.nonterminal_of p)) r (g.build p ws) q) (sym closes) (record {
        begins = or_right (may_be_empty (c.nullable (g.nonterminal_of p))) (member c r.seen (c.first (g.nonterminal_of p)))
            (subset_member g c sound (first_symbols c (g.symbols p)) (c.first (g.nonterminal_of p)) r.seen (sound.first p) inside);
        passage = passes g c meter (g.nonterminal_of p) p r s ws predicted (subst (λ ys. Parts g c meter ys (with_meters r (meter.next (Open p) r.meters)) [] ws s) (sym of) from);
      })

  -- A production without symbols reads nothing.
  pub nothing : (p : P) (r : Reader T M) → g.symbols p ≡ [] → c.predict (g.nonterminal_of p) r.seen ≡ Some p
      → Reads g c meter (Nonterminal (g.nonterminal_of p)) r (g.build p []) (with_meters r (meter.next (Close p) (meter.next (Open p) r.meters)))
  nothing p r of predicted = record {
    begins = or_left (may_be_empty (c.nullable (g.nonterminal_of p))) (member c r.seen (c.first (g.nonterminal_of p))) (emptied p of);
    passage = passes g c meter (g.nonterminal_of p) p r (with_meters r (meter.next (Open p) r.meters)) [] predicted
        (subst (λ ys. Parts g c meter ys (with_meters r (meter.next (Open p) r.meters)) [] [] (with_meters r (meter.next (Open p) r.meters))) (sym of) done);
  }
