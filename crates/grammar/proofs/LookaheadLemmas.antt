-- The certificate's tests say that the parse table is that of the grammar: from the lists to what holds of each terminal.
use Rattle.std.proofs.Common.{◌≡◌, ◌++◌, Bool, true, false, List, [], ◌∷◌, Option, Some, None, refl, sym, ap, subst, inl, inr}
use Rattle.std.specs.Prelude.{◌&&◌, ◌||◌}
use Rattle.grammar.specs.declared.language.Symbol.{Symbol}
use Rattle.grammar.specs.declared.language.Symbol.TheVariants.{Terminal, Nonterminal}
use Rattle.grammar.specs.Grammar.{Grammar}
use Rattle.grammar.specs.Lookahead.{implies, Sets, first_list, nullable_list, ends_in_terminal, suits, Offered, IsLl1}
use Rattle.grammar.specs.Certificate.{Certificate, Nullable, Never, Before, Always, may_be_empty, both, when, member, subset, allowed_by, nullable_symbols, through, first_symbols, is_some_production, predicts, follows, is_inner, ends_once, is_offered, all_offered, predicts_allowed, empties, covers, IsSound}
use Rattle.grammar.proofs.BoolLemmas.{or_left, or_right, or_cases, and_both, and_left, and_right, apply, implied, no_true}

module _ {Token T N P : Type 0} (c : Certificate Token T N P) where
  -- the sets as tests
  abbrev pub sets_of : Sets T N
  sets_of = record {
    same = c.same_terminal;
    first = λ n k. member c k (c.first n);
    follow = λ n k. member c k (c.follow n);
    nullable = λ n k. allowed_by c (c.nullable n) k;
  }

  pub member-append_left : (k : T) → (xs ys : List T) → member c k xs ≡ true → member c k (xs ++ ys) ≡ true
  member-append_left k [] ys h = absurd (no_true h)
  member-append_left k (x ∷ xs) ys h = elim (or_cases (c.same_terminal x k) (member c k xs) h) [
    | inl e ↦ or_left (c.same_terminal x k) (member c k (xs ++ ys)) e
    | inr e ↦ or_right (c.same_terminal x k) (member c k (xs ++ ys)) (member-append_left k xs ys e)
  ]

  pub member-append_right : (k : T) → (xs ys : List T) → member c k ys ≡ true → member c k (xs ++ ys) ≡ true
  member-append_right k [] ys h = h
  member-append_right k (x ∷ xs) ys h = or_right (c.same_terminal x k) (member c k (xs ++ ys)) (member-append_right k xs ys h)

  member_when : (k j : T) → (b : Bool) → (js : List T) → c.same_terminal j k ≡ true → b ≡ true → member c k (when b j js) ≡ true
  member_when k j true js e h = or_left (c.same_terminal j k) (member c k js) e
  member_when k j false js e h = absurd (no_true h)

  member_behind : (k j : T) → (b : Bool) → (js : List T) → member c k js ≡ true → member c k (when b j js) ≡ true
  member_behind k j true js h = or_right (c.same_terminal j k) (member c k js) h
  member_behind k j false js h = h

  in_both : (a b : Nullable T) → (k : T) → allowed_by c a k ≡ true → allowed_by c b k ≡ true → allowed_by c (both a b) k ≡ true
  in_both Never b k h f = h
  in_both (Before ks) Never k h f = f
  in_both (Before ks) (Before js) k h f = h
  in_both (Before ks) Always k h f = h
  in_both Always b k h f = f

  in_nullable : (xs : List (Symbol T N)) → (k : T) → nullable_list sets_of xs k ≡ true → allowed_by c (nullable_symbols c xs) k ≡ true
  in_nullable [] k h = refl
  in_nullable (Terminal j ∷ xs) k h = absurd (no_true h)
  in_nullable (Nonterminal n ∷ xs) k h =
      in_both (c.nullable n) (nullable_symbols c xs) k (and_left (allowed_by c (c.nullable n) k) (nullable_list sets_of xs k) h)
      (in_nullable xs k (and_right (allowed_by c (c.nullable n) k) (nullable_list sets_of xs k) h))

module _ {Token T N P V : Type 0} (g : Grammar Token T N P V) (c : Certificate Token T N P) (sound : IsSound g c) where
  pub subset_member : (xs ys : List T) → (k : T) → subset c xs ys ≡ true → member c k xs ≡ true → member c k ys ≡ true
  subset_member [] ys k s h = absurd (no_true h)
  subset_member (x ∷ xs) ys k s h = elim (or_cases (c.same_terminal x k) (member c k xs) h) [
    | inl e ↦ subst (λ j. member c j ys ≡ true) (sound.same_terminal.is x k e) (and_left (member c x ys) (subset c xs ys) s)
    | inr e ↦ subset_member xs ys k (and_right (member c x ys) (subset c xs ys) s) e
  ]

  pub is_predicted : (o : Option P) → (p : P) → is_some_production c o p ≡ true → o ≡ Some p
  is_predicted None p h = absurd (no_true h)
  is_predicted (Some q) p h = ap Some (sound.same_production.is q p h)

  pub predicted : (n : N) → (p : P) → (ks : List T) → (k : T) → predicts c n p ks ≡ true → member c k ks ≡ true → c.predict n k ≡ Some p
  predicted n p [] k s h = absurd (no_true h)
  predicted n p (j ∷ js) k s h = elim (or_cases (c.same_terminal j k) (member c k js) h) [
    | inl e ↦ subst (λ i. c.predict n i ≡ Some p) (sound.same_terminal.is j k e)
        (is_predicted (c.predict n j) p (and_left (is_some_production c (c.predict n j) p) (predicts c n p js) s))
    | inr e ↦ predicted n p js k (and_right (is_some_production c (c.predict n j) p) (predicts c n p js) s) e
  ]

  predicted_allowed : (n : N) → (p : P) → (ks : List T) → (k : T) → predicts_allowed g c n p ks ≡ true → member c k ks ≡ true → g.allows p k ≡ true →
      c.predict n k ≡ Some p
  predicted_allowed n p [] k s h a = absurd (no_true h)
  predicted_allowed n p (j ∷ js) k s h a = elim (or_cases (c.same_terminal j k) (member c k js) h) [
    | inl e ↦ let same = sound.same_terminal.is j k e in
        subst (λ i. c.predict n i ≡ Some p) same (is_predicted (c.predict n j) p
        (apply (g.allows p j) (is_some_production c (c.predict n j) p)
        (and_left (implies (g.allows p j) (is_some_production c (c.predict n j) p)) (predicts_allowed g c n p js) s)
        (subst (λ i. g.allows p i ≡ true) (sym same) a)))
    | inr e ↦ predicted_allowed n p js k (and_right (implies (g.allows p j) (is_some_production c (c.predict n j) p)) (predicts_allowed g c n p js) s) e a
  ]

  in_through_before : (js ks : List T) → (k : T) → member c k js ≡ true → member c k ks ≡ true → member c k (through c (Before js) ks) ≡ true
  in_through_before js [] k h m = absurd (no_true m)
  in_through_before js (i ∷ ks) k h m = elim (or_cases (c.same_terminal i k) (member c k ks) m) [
    | inl e ↦ member_when c k i (member c i js) (through c (Before js) ks) e (subst (λ j. member c j js ≡ true) (sym (sound.same_terminal.is i k e)) h)
    | inr e ↦ member_behind c k i (member c i js) (through c (Before js) ks) (in_through_before js ks k h e)
  ]

  in_through : (v : Nullable T) → (ks : List T) → (k : T) → allowed_by c v k ≡ true → member c k ks ≡ true → member c k (through c v ks) ≡ true
  in_through Never ks k h m = absurd (no_true h)
  in_through (Before js) ks k h m = in_through_before js ks k h m
  in_through Always ks k h m = m

  in_first : (xs : List (Symbol T N)) → (k : T) → first_list (sets_of c) xs k ≡ true → member c k (first_symbols c xs) ≡ true
  in_first [] k h = absurd (no_true h)
  in_first (Terminal j ∷ xs) k h = h
  in_first (Nonterminal n ∷ xs) k h = elim (or_cases (member c k (c.first n)) (allowed_by c (c.nullable n) k && first_list (sets_of c) xs k) h) [
    | inl e ↦ member-append_left c k (c.first n) (through c (c.nullable n) (first_symbols c xs)) e
    | inr e ↦ member-append_right c k (c.first n) (through c (c.nullable n) (first_symbols c xs))
        (in_through (c.nullable n) (first_symbols c xs) k (and_left (allowed_by c (c.nullable n) k) (first_list (sets_of c) xs k) e)
        (in_first xs k (and_right (allowed_by c (c.nullable n) k) (first_list (sets_of c) xs k) e)))
  ]

  emptied : (p : P) → (v : Nullable T) → (ks : List T) → (k : T) → empties g c p v ks ≡ true → member c k ks ≡ true → g.allows p k ≡ true → allowed_by c v k ≡ true
  emptied p v [] k s m a = absurd (no_true m)
  emptied p v (j ∷ js) k s m a = elim (or_cases (c.same_terminal j k) (member c k js) m) [
    | inl e ↦ let same = sound.same_terminal.is j k e in
        subst (λ i. allowed_by c v i ≡ true) same
        (apply (g.allows p j) (allowed_by c v j) (and_left (implies (g.allows p j) (allowed_by c v j)) (empties g c p v js) s) (subst (λ i. g.allows p i ≡ true) (sym same) a))
    | inr e ↦ emptied p v js k (and_right (implies (g.allows p j) (allowed_by c v j)) (empties g c p v js) s) e a
  ]

  covered : (p : P) → (v w : Nullable T) → (k : T) → covers g c p v w ≡ true → allowed_by c v k ≡ true → g.allows p k ≡ true → allowed_by c w k ≡ true
  covered p Never w k s h a = absurd (no_true h)
  covered p (Before ks) w k s h a = emptied p w ks k (and_right (may_be_empty w) (empties g c p w ks) s) h a
  covered p Always w k s h a = emptied p w c.terminals k (and_right (may_be_empty w) (empties g c p w c.terminals) s) (sound.terminals k) a

  is_offered_fact : (n : N) → (k : T) → (o : Option P) → is_offered g c n k o ≡ true → Offered g c.predict n o k
  is_offered_fact n k None h = tt
  is_offered_fact n k (Some p) h = (
    sound.same_nonterminal.is (g.nonterminal_of p) n (and_left (c.same_nonterminal (g.nonterminal_of p) n) (g.allows p k) h),
    and_right (c.same_nonterminal (g.nonterminal_of p) n) (g.allows p k) h,
  )

  offered_in : (n : N) → (ks : List T) → (k : T) → all_offered g c n ks ≡ true → member c k ks ≡ true → Offered g c.predict n (c.predict n k) k
  offered_in n [] k s h = absurd (no_true h)
  offered_in n (j ∷ js) k s h = elim (or_cases (c.same_terminal j k) (member c k js) h) [
    | inl e ↦ subst (λ i. Offered g c.predict n (c.predict n i) i) (sound.same_terminal.is j k e)
        (is_offered_fact n j (c.predict n j) (and_left (is_offered g c n j (c.predict n j)) (all_offered g c n js) s))
    | inr e ↦ offered_in n js k (and_right (is_offered g c n j (c.predict n j)) (all_offered g c n js) s) e
  ]

  suited : (n : N) → (xs : List (Symbol T N)) → (k : T) → follows c n xs ≡ true → suits (sets_of c) n xs k ≡ true
  suited n [] k h = refl
  suited n (Terminal j ∷ xs) k h = suited n xs k h
  suited n (Nonterminal m ∷ xs) k h =
      let firsts = subset c (first_symbols c xs) (c.follow m) in
      let lasts = subset c (through c (nullable_symbols c xs) (c.follow n)) (c.follow m) in
      let front = and_left (firsts && lasts) (follows c n xs) h in
      let all = first_list (sets_of c) xs k || (nullable_list (sets_of c) xs k && member c k (c.follow n)) in
      and_both (implies all (member c k (c.follow m))) (suits (sets_of c) n xs k)
      (implied all (member c k (c.follow m))
      (λ e. elim (or_cases (first_list (sets_of c) xs k) (nullable_list (sets_of c) xs k && member c k (c.follow n)) e) [
        | inl f ↦ subset_member (first_symbols c xs) (c.follow m) k (and_left firsts lasts front) (in_first xs k f)
        | inr f ↦ subset_member (through c (nullable_symbols c xs) (c.follow n)) (c.follow m) k (and_right firsts lasts front)
            (in_through (nullable_symbols c xs) (c.follow n) k
            (in_nullable c xs k (and_left (nullable_list (sets_of c) xs k) (member c k (c.follow n)) f))
            (and_right (nullable_list (sets_of c) xs k) (member c k (c.follow n)) f))
      ]))
      (suited n xs k (and_right (firsts && lasts) (follows c n xs) h))

  terminal_ends : (xs : List (Symbol T N)) → ends_once c xs ≡ true → ends_in_terminal xs ≡ true
  terminal_ends [] h = refl
  terminal_ends (Terminal k ∷ []) h = refl
  terminal_ends (Nonterminal n ∷ []) h = h
  terminal_ends (x ∷ y ∷ xs) h = terminal_ends (y ∷ xs) (and_right (is_inner c x) (ends_once c (y ∷ xs)) h)

  pub ll1 : IsLl1 g c.predict (sets_of c)
  ll1 = record {
    own = sound.same_terminal.own;
    first_closed = λ p k h. subset_member (first_symbols c (g.symbols p)) (c.first (g.nonterminal_of p)) k (sound.first p) (in_first (g.symbols p) k h);
    nullable_closed = λ p k h a. covered p (nullable_symbols c (g.symbols p)) (c.nullable (g.nonterminal_of p)) k (sound.nullable p) (in_nullable c (g.symbols p) k h) a;
    predicts_first = λ p k h. predicted (g.nonterminal_of p) p (first_symbols c (g.symbols p)) k (sound.predicts_first p) (in_first (g.symbols p) k h);
    predicts_empty = λ p k h f a. predicted_allowed (g.nonterminal_of p) p (through c (nullable_symbols c (g.symbols p)) (c.follow (g.nonterminal_of p))) k
        (sound.predicts_empty p) (in_through (nullable_symbols c (g.symbols p)) (c.follow (g.nonterminal_of p)) k (in_nullable c (g.symbols p) k h) f) a;
    suited = λ p k. suited (g.nonterminal_of p) (g.symbols p) k (sound.follow p);
    start_ends = terminal_ends (g.symbols g.start) sound.ends;
    offered = λ n k. offered_in n c.terminals k (sound.offers n) (sound.terminals k);
  }

  -- A predicted production is one of its nonterminal.
  pub predicted_nonterminal : (n : N) → (k : T) → (p : P) → c.predict n k ≡ Some p → g.nonterminal_of p ≡ n
  predicted_nonterminal n k p h =
      let here : Offered g c.predict n (Some p) k = subst (λ o. Offered g c.predict n o k) h (offered_in n c.terminals k (sound.offers n) (sound.terminals k)) in
      here.0

  -- Terminals that the test tells apart are two.
  pub other_terminal : (j k : T) → (b : Bool) → b ≡ c.same_terminal j k → b ≡ false → j ≡ k → ⊥
  other_terminal j k b is h e =
      let own : c.same_terminal j j ≡ true = sound.same_terminal.own j in
      let there : c.same_terminal j k ≡ true = subst (λ i. c.same_terminal j i ≡ true) e own in
      cc
