-- Every stack can be closed: a short text for each nonterminal, and behind it a short text of what stands there.
use Rattle.std.proofs.Common.{◌≡◌, ◌<◌, ℕ, zero, suc, Bool, true, false, List, [], ◌∷◌, ◌++◌, length, drop, Some, refl, sym, ◌∙◌, ap, subst, append_assoc, arith}
use Rattle.std.specs.Prelude.{nat_lt}
use Rattle.std.proofs.lemmas.Grind.{common_steps}
use Rattle.grammar.specs.declared.language.Symbol.{Symbol}
use Rattle.grammar.specs.declared.language.Symbol.TheVariants.{Terminal, Nonterminal}
use Rattle.grammar.specs.declared.language.Event.{Event}
use Rattle.grammar.specs.declared.language.Event.TheVariants.{Close}
use Rattle.grammar.specs.Grammar.{Grammar, Tree, Trees, leaf, node, none, some, values_of}
use Rattle.grammar.specs.Limits.{history_all}
use Rattle.grammar.specs.Lookahead.{Predicts, Goes, GoesAll}
use Rattle.grammar.specs.Certificate.{Certificate, member, subset, closings, same_list, is_below, begins_by, closes_before, can_close, IsSound}
use Rattle.grammar.specs.Descent.{Item, left, behind, Linked, Receives, Continues}
use Rattle.grammar.proofs.BoolLemmas.{and_left, and_right, no_true}
use Rattle.grammar.proofs.LookaheadLemmas.{sets_of, subset_member, is_predicted, predicted, ll1}
use Rattle.grammar.proofs.DerivationLemmas.{offers, offers_nonterminal}

module _ {Token T N P V : Type 0} (g : Grammar Token T N P V) (c : Certificate Token T N P) (sound : IsSound g c) where
  -- tokens of these terminals
  abbrev examples : List T → List Token
  examples [] = []
  examples (k ∷ ks) = c.example k ∷ examples ks

  examples-append : (js ks : List T) → examples (js ++ ks) ≡ examples js ++ examples ks
  examples-append [] ks = refl
  examples-append (j ∷ js) ks = ap (λ ts. c.example j ∷ ts) (examples-append js ks)

  -- These tokens begin with one before which the nonterminal can be closed.
  abbrev Ends : N → List Token → Type 0
  Ends n [] = ⊥
  Ends n (t ∷ ts) = member c (g.terminal_of t) (c.before n) ≡ true

  -- So do the closings that stand behind each nonterminal of a list, and then these tokens.
  abbrev Fits : List (Symbol T N) → List Token → Type 0
  Fits [] more = Unit {0}
  Fits (Terminal k ∷ xs) more = Fits xs more
  Fits (Nonterminal m ∷ xs) more = Ends m (examples (closings c xs) ++ more) × Fits xs more

  ends_before : (last : N → Bool) → (m : N) → (ks : List T) → (more : List Token) → ((i : N) → last i ≡ true → Ends i more) →
      closes_before c last m ks ≡ true → Ends m (examples ks ++ more)
  ends_before last m [] more f h = f m h
  ends_before last m (k ∷ ks) more f h = subst (λ j. member c j (c.before m) ≡ true) (sym (sound.example k)) h

  fits_of : (last : N → Bool) → (xs : List (Symbol T N)) → (more : List Token) → ((i : N) → last i ≡ true → Ends i more) → can_close c last xs ≡ true → Fits xs more
  fits_of last [] more f h = tt
  fits_of last (Terminal k ∷ xs) more f h = fits_of last xs more f h
  fits_of last (Nonterminal m ∷ xs) more f h = (
    ends_before last m (closings c xs) more f (and_left (closes_before c last m (closings c xs)) (can_close c last xs) h),
    fits_of last xs more f (and_right (closes_before c last m (closings c xs)) (can_close c last xs) h),
  )

  ends_wider : (n m : N) → (more : List Token) → Ends n more → subset c (c.before n) (c.before m) ≡ true → Ends m more
  ends_wider n m [] e h = absurd e
  ends_wider n m (t ∷ more) e h = subset_member g c sound (c.before n) (c.before m) (g.terminal_of t) h e

  fits_production : (p : P) → (more : List Token) → Ends (g.nonterminal_of p) more → Fits (g.symbols p) more
  fits_production p more e =
      fits_of (λ m. subset c (c.before (g.nonterminal_of p)) (c.before m)) (g.symbols p) more (λ m h. ends_wider (g.nonterminal_of p) m more e h) (sound.fits p)

  fits_start : Fits (g.symbols g.start) []
  fits_start = fits_of (λ m. false) (g.symbols g.start) [] (λ m h. absurd (no_true h)) sound.start_fits

  record Closed (n : N) (more : List Token) : Type 0 where
    pub tree : Tree Token P
    pub is : Goes g c.predict tree (Nonterminal n) (examples (c.closing n) ++ more) more

  record Closes (xs : List (Symbol T N)) (more : List Token) : Type 0 where
    pub trees : Trees Token P
    pub is : GoesAll g c.predict trees xs (examples (closings c xs) ++ more) more

  abbrev CanClose : N → Type 0
  CanClose n = (more : List Token) → Ends n more → Closed n more

  abbrev CanCloseAll : List (Symbol T N) → Type 0
  CanCloseAll [] = Unit {0}
  CanCloseAll (Terminal k ∷ xs) = CanCloseAll xs
  CanCloseAll (Nonterminal n ∷ xs) = CanClose n × CanCloseAll xs

  closes_all : (xs : List (Symbol T N)) → (more : List Token) → CanCloseAll xs → Fits xs more → Closes xs more
  closes_all [] more can h = record { trees = none; is = (refl, refl) }
  closes_all (Terminal k ∷ xs) more can h =
      let others = closes_all xs more can h in
      record {
        trees = some (leaf (c.example k)) others.trees;
        is = (Terminal k, xs, examples (closings c xs) ++ more, refl, (ap Terminal (sym (sound.example k)), refl), others.is);
      }
  closes_all (Nonterminal n ∷ xs) more can h =
      let others = closes_all xs more can.1 h.1 in
      let first = can.0 (examples (closings c xs) ++ more) h.0 in
      record {
        trees = some first.tree others.trees;
        is = (
          Nonterminal n,
          xs,
          examples (closings c xs) ++ more,
          refl,
          subst (λ ts. Goes g c.predict first.tree (Nonterminal n) ts (examples (closings c xs) ++ more))
              (sym (append_assoc (examples (c.closing n)) (examples (closings c xs)) more)
              ∙ ap (λ ts. ts ++ more) (sym (examples-append (c.closing n) (closings c xs))))
              first.is,
          others.is,
        );
      }

  -- a nonterminal is closed by its production
  same_lists : (js ks : List T) → same_list c js ks ≡ true → js ≡ ks
  same_lists [] [] h = refl
  same_lists [] (k ∷ ks) h = absurd (no_true h)
  same_lists (j ∷ js) [] h = absurd (no_true h)
  same_lists (j ∷ js) (k ∷ ks) h =
      let first = sound.same_terminal.is j k (and_left (c.same_terminal j k) (same_list c js ks) h) in
      ap (λ i. i ∷ js) first ∙ ap (λ is. k ∷ is) (same_lists js ks (and_right (c.same_terminal j k) (same_list c js ks) h))

  begins_so : (n : N) → (p : P) → (ks : List T) → (more : List Token) → begins_by c n p ks ≡ true → Ends n more → Predicts g c.predict n p (examples ks ++ more)
  begins_so n p [] [] h e = absurd e
  begins_so n p [] (t ∷ more) h e = predicted g c sound n p (c.before n) (g.terminal_of t) h e
  begins_so n p (k ∷ ks) more h e = subst (λ j. c.predict n j ≡ Some p) (sym (sound.example k)) (is_predicted g c sound (c.predict n k) p h)

  closed_by : (n : N) → CanCloseAll (g.symbols (c.shortest n)) → CanClose n
  closed_by n can more e =
      let p = c.shortest n in
      let text : c.closing n ≡ closings c (g.symbols p) = same_lists (c.closing n) (closings c (g.symbols p)) (sound.closing n) in
      let first = begins_so n p (c.closing n) more (sound.begins n) e in
      let owned : g.nonterminal_of p ≡ n =
      offers_nonterminal g c.predict (sets_of c) (ll1 g c sound) n p (examples (c.closing n) ++ more)
      (offers g c.predict (ll1 g c sound).offered n p (examples (c.closing n) ++ more) first) in
      let inner = closes_all (g.symbols p) more can (fits_production p more (subst (λ m. Ends m more) (sym owned) e)) in
      record {
        tree = node p inner.trees;
        is = (n, refl, first, subst (λ ks. GoesAll g c.predict inner.trees (g.symbols p) (examples ks ++ more) more) (sym text) inner.is);
      }

  below_trans : (a b h : ℕ) → nat_lt a b ≡ true → b < suc h → a < h
  below_trans a b h e l = let less : a < b = grind (arith, common_steps) in omega arith

  can_below : (h b : ℕ) → b < suc h → ((n : N) → c.height n < h → CanClose n) → (xs : List (Symbol T N)) → is_below c b xs ≡ true → CanCloseAll xs
  can_below h b l can [] e = tt
  can_below h b l can (Terminal k ∷ xs) e = can_below h b l can xs e
  can_below h b l can (Nonterminal n ∷ xs) e = (
    can n (below_trans (c.height n) b h (and_left (nat_lt (c.height n) b) (is_below c b xs) e) l),
    can_below h b l can xs (and_right (nat_lt (c.height n) b) (is_below c b xs) e),
  )

  can_within : (h : ℕ) → (n : N) → c.height n < h → CanClose n
  can_within zero n l = absurd (omega arith)
  can_within (suc h) n l = closed_by n (can_below h (c.height n) l (can_within h) (g.symbols (c.shortest n)) (sound.height n))

  can_all : (xs : List (Symbol T N)) → CanCloseAll xs
  can_all [] = tt
  can_all (Terminal k ∷ xs) = can_all xs
  can_all (Nonterminal n ∷ xs) = (can_within (suc (c.height n)) n (omega arith), can_all xs)

  fits_drop : (m : ℕ) → (xs : List (Symbol T N)) → (more : List Token) → Fits xs more → Fits (drop m xs) more
  fits_drop zero xs more h = h
  fits_drop (suc m) [] more h = h
  fits_drop (suc m) (Terminal k ∷ xs) more h = fits_drop m xs more h
  fits_drop (suc m) (Nonterminal n ∷ xs) more h = fits_drop m xs more h.1

  record Around (p : P) (fs : List (Item P V)) : Type 0 where
    pub more : List Token
    pub fits : Fits (g.symbols p) more
    pub value : V → V
    pub all : List (Event T P) → List (Event T P)
    pub is : (v : V) → (past : List (Event T P)) → Receives g c.predict fs v past more (value v) (all past)

  around : (f : Item P V) → (fs : List (Item P V)) → Linked g (f ∷ fs) → Around f.production fs
  around f [] h = record {
    more = [];
    fits = subst (λ p. Fits (g.symbols p) []) (sym h) fits_start;
    value = λ v. v;
    all = λ past. past;
    is = λ v past. (refl, refl, refl);
  }
  around f (h ∷ fs) l =
      let out = around h fs l.1 in
      let here : Fits (left g h) out.more = fits_drop (length h.values) (g.symbols h.production) out.more out.fits in
      let next : Fits (Nonterminal (g.nonterminal_of f.production) ∷ behind g h) out.more = subst (λ xs. Fits xs out.more) l.0 here in
      let others = closes_all (behind g h) out.more (can_all (behind g h)) next.1 in
      record {
        more = examples (closings c (behind g h)) ++ out.more;
        fits = fits_production f.production (examples (closings c (behind g h)) ++ out.more) next.0;
        value = λ v. out.value (g.build h.production (values_of g others.trees (v ∷ h.values)));
        all = λ past. out.all (Close h.production ∷ history_all g others.trees past);
        is = λ v past. (others.trees, out.more, others.is, out.is (g.build h.production (values_of g others.trees (v ∷ h.values))) (Close h.production ∷ history_all g others.trees past));
      }

  pub record Closable (fs : List (Item P V)) (past : List (Event T P)) : Type 0 where
    pub more : List Token
    pub value : V
    pub all : List (Event T P)
    pub is : Continues g c.predict fs past more value all

  pub closable : (fs : List (Item P V)) → (past : List (Event T P)) → Linked g fs → Closable fs past
  closable [] past l = absurd l
  closable (f ∷ fs) past l =
      let out = around f fs l in
      let others = closes_all (left g f) out.more (can_all (left g f)) (fits_drop (length f.values) (g.symbols f.production) out.more out.fits) in
      record {
        more = examples (closings c (left g f)) ++ out.more;
        value = out.value (g.build f.production (values_of g others.trees f.values));
        all = out.all (Close f.production ∷ history_all g others.trees past);
        is = (others.trees, out.more, others.is, out.is (g.build f.production (values_of g others.trees f.values)) (Close f.production ∷ history_all g others.trees past));
      }
