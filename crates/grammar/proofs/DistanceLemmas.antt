-- Each step before a token comes closer to taking or refusing it.
use Rattle.std.proofs.Common.{◌≡◌, ℕ, suc, ◌+◌, ◌<◌, List, [], ◌∷◌, Bool, true, false, ap, sym, subst, ◌∙◌, arith, refl}
use Rattle.std.specs.Prelude.{◌&&◌}
use Rattle.std.proofs.lemmas.Grind.{common_steps}
use Rattle.grammar.specs.declared.language.Symbol.{Symbol}
use Rattle.grammar.specs.declared.language.Symbol.TheVariants.{Terminal, Nonterminal}
use Rattle.grammar.specs.Grammar.{Grammar}
use Rattle.grammar.specs.Certificate.{Certificate, Nullable, Never, Before, Always, may_be_empty, both, only, nullable_symbols, opening_cost, empties, covers, IsSound}
use Rattle.grammar.specs.Descent.{Item, opened, with_value, left, behind, Linked}
use Rattle.grammar.proofs.BoolLemmas.{no_true, and_left}
use Rattle.grammar.specs.Stack.{distance_along, outer_distance, distance}

both_empty : {T : Type 0} → (a b : Nullable T) → may_be_empty (both a b) ≡ may_be_empty a && may_be_empty b
both_empty Never b = refl
both_empty (Before ks) Never = refl
both_empty (Before ks) (Before js) = refl
both_empty (Before ks) Always = refl
both_empty Always b = refl

module _ {Token T N P V : Type 0} (g : Grammar Token T N P V) where
  pub linked_with : (f : Item P V) → (v : V) → (fs : List (Item P V)) → Linked g (f ∷ fs) → Linked g (with_value f v ∷ fs)
  linked_with f v [] h = h
  linked_with f v (h ∷ fs) l = l

module _ {Token T N P V : Type 0} (g : Grammar Token T N P V) (c : Certificate Token T N P) where
  pub distance_at : (gs gs' fs fs' : List (Item P V)) → gs ≡ gs' → fs ≡ fs' → distance g c gs' < distance g c fs' → distance g c gs < distance g c fs
  distance_at gs gs' fs fs' d e h = subst (λ hs. distance g c hs < distance g c fs) (sym d) (subst (λ hs. distance g c gs' < distance g c hs) (sym e) h)

  pub distance_close : (f h : Item P V) → (fs : List (Item P V)) → (v : V) → left g f ≡ [] →
      distance g c (with_value h v ∷ fs) < distance g c (f ∷ h ∷ fs)
  distance_close f h fs v e =
      let here : distance g c (f ∷ h ∷ fs) ≡ suc (outer_distance g c (h ∷ fs)) = ap (λ xs. distance_along g c xs (outer_distance g c (h ∷ fs))) e in
      omega (arith, here)

  -- what an opened production costs, whatever stands around it
  nullable_case : (b : Bool) → (n : N) → (xs : List (Symbol T N)) → (outer : ℕ) → may_be_empty (c.nullable n) ≡ b → may_be_empty (nullable_symbols c (Nonterminal n ∷ xs)) ≡ true →
      (may_be_empty (nullable_symbols c xs) ≡ true → distance_along g c xs outer ≡ opening_cost c xs + suc outer) →
      distance_along g c (Nonterminal n ∷ xs) outer ≡ opening_cost c (Nonterminal n ∷ xs) + suc outer
  nullable_case true n xs outer e h ih =
      let rest = ih (subst (λ b. b && may_be_empty (nullable_symbols c xs) ≡ true) e (sym (both_empty (c.nullable n) (nullable_symbols c xs)) ∙ h)) in
      let one : only (may_be_empty (c.nullable n)) (distance_along g c xs outer) ≡ distance_along g c xs outer = ap (λ b. only b (distance_along g c xs outer)) e in
      let two : only (may_be_empty (c.nullable n)) (opening_cost c xs) ≡ opening_cost c xs = ap (λ b. only b (opening_cost c xs)) e in
      omega (arith, rest, one, two)
  nullable_case false n xs outer e h ih = absurd (no_true (subst (λ b. b && may_be_empty (nullable_symbols c xs) ≡ true) e (sym (both_empty (c.nullable n) (nullable_symbols c xs)) ∙ h)))

  along_nullable : (xs : List (Symbol T N)) → (outer : ℕ) → may_be_empty (nullable_symbols c xs) ≡ true → distance_along g c xs outer ≡ opening_cost c xs + suc outer
  along_nullable [] outer h = omega arith
  along_nullable (Terminal k ∷ xs) outer h = absurd (no_true h)
  along_nullable (Nonterminal n ∷ xs) outer h = nullable_case (may_be_empty (c.nullable n)) n xs outer refl h (along_nullable xs outer)

  other_case : (b : Bool) → (n : N) → (xs : List (Symbol T N)) → (outer : ℕ) → may_be_empty (c.nullable n) ≡ b → may_be_empty (nullable_symbols c (Nonterminal n ∷ xs)) ≡ false →
      (may_be_empty (nullable_symbols c xs) ≡ false → distance_along g c xs outer ≡ opening_cost c xs) →
      distance_along g c (Nonterminal n ∷ xs) outer ≡ opening_cost c (Nonterminal n ∷ xs)
  other_case true n xs outer e h ih =
      ap (λ d. c.cost n + only (may_be_empty (c.nullable n)) d) (ih (subst (λ b. b && may_be_empty (nullable_symbols c xs) ≡ false) e (sym (both_empty (c.nullable n) (nullable_symbols c xs)) ∙ h)))
  other_case false n xs outer e h ih =
      let one : only (may_be_empty (c.nullable n)) (distance_along g c xs outer) ≡ 0 = ap (λ b. only b (distance_along g c xs outer)) e in
      let two : only (may_be_empty (c.nullable n)) (opening_cost c xs) ≡ 0 = ap (λ b. only b (opening_cost c xs)) e in
      omega (arith, one, two)

  along_other : (xs : List (Symbol T N)) → (outer : ℕ) → may_be_empty (nullable_symbols c xs) ≡ false → distance_along g c xs outer ≡ opening_cost c xs
  along_other [] outer h = absurd (no_true (sym h))
  along_other (Terminal k ∷ xs) outer h = refl
  along_other (Nonterminal n ∷ xs) outer h = other_case (may_be_empty (c.nullable n)) n xs outer refl h (along_other xs outer)

  covers_empty : (p : P) → (v w : Nullable T) → covers g c p v w ≡ true → may_be_empty v ≡ true → may_be_empty w ≡ true
  covers_empty p Never w s e = absurd (no_true e)
  covers_empty p (Before ks) w s e = and_left (may_be_empty w) (empties g c p w ks) s
  covers_empty p Always w s e = and_left (may_be_empty w) (empties g c p w c.terminals) s

  opened_along : (b : Bool) → (p : P) → (outer : ℕ) → may_be_empty (nullable_symbols c (g.symbols p)) ≡ b → (b ≡ true → may_be_empty (c.nullable (g.nonterminal_of p)) ≡ true) →
      suc (opening_cost c (g.symbols p)) < c.cost (g.nonterminal_of p) →
      distance_along g c (g.symbols p) outer < c.cost (g.nonterminal_of p) + only (may_be_empty (c.nullable (g.nonterminal_of p))) outer
  opened_along true p outer e h less =
      let one : only (may_be_empty (c.nullable (g.nonterminal_of p))) outer ≡ outer = ap (λ b. only b outer) (h refl) in
      omega (arith, along_nullable (g.symbols p) outer e, one)
  opened_along false p outer e h less = omega (arith, along_other (g.symbols p) outer e)

  pub distance_open : IsSound g c → (f : Item P V) → (fs : List (Item P V)) → (n : N) → (p : P) → left g f ≡ Nonterminal n ∷ behind g f → g.nonterminal_of p ≡ n →
      distance g c (opened p ∷ f ∷ fs) < distance g c (f ∷ fs)
  distance_open sound f fs n p e owned =
      let less : suc (opening_cost c (g.symbols p)) < c.cost (g.nonterminal_of p) = grind (arith, common_steps, sound.cost p) in
      let here : distance g c (f ∷ fs) ≡ c.cost n + only (may_be_empty (c.nullable n)) (outer_distance g c (f ∷ fs)) = ap (λ xs. distance_along g c xs (outer_distance g c fs)) e in
      let step = opened_along (may_be_empty (nullable_symbols c (g.symbols p))) p (outer_distance g c (f ∷ fs)) refl
      (covers_empty p (nullable_symbols c (g.symbols p)) (c.nullable (g.nonterminal_of p)) (sound.nullable p)) less in
      subst (λ d. distance g c (opened p ∷ f ∷ fs) < d) (sym here)
      (subst (λ m. distance g c (opened p ∷ f ∷ fs) < c.cost m + only (may_be_empty (c.nullable m)) (outer_distance g c (f ∷ fs))) owned step)
