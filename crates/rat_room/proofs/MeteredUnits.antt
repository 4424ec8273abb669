-- Each unit of a text that passes no limit has at most 20,000 tokens, and there are at most 500 units, in any language whose meter
-- counts units where they open, and the tokens of one until it closes. What is a unit here is a procedure in EFL.
--
-- The count of a unit's tokens goes on from the tokens before the unit, and falls when a unit closes alone. So inside a unit each tree
-- adds its own tokens to the count, and the last token that the unit takes is counted before it closes. The limit on units is asked
-- for at the end of the text, which is the last token.
use Rattle.std.proofs.Common.{◌≡◌, ◌≤◌, ℕ, ◌+◌, arith, Bool, true, false, List, [], ◌∷◌, Option, Some, None, refl, sym, ap, subst, ◌∙◌}
use Rattle.std.proofs.lemmas.Bool.Decides.{nat_tests}
use Rattle.std.specs.Prelude.{◌-◌, ◌&&◌, ◌||◌, min, nat_lt, if◌then◌else◌}
use Rattle.ground.specs.declared.token.Token.{Token}
use Rattle.grammar.specs.declared.language.Symbol.{Symbol}
use Rattle.grammar.specs.declared.language.Symbol.TheVariants.{Terminal, Nonterminal}
use Rattle.grammar.specs.declared.language.Event.{Event}
use Rattle.grammar.specs.declared.language.Event.TheVariants.{Open, Take, Close}
use Rattle.grammar.specs.Grammar.{Grammar, Tree, Trees, leaf, node, none, some, Derives, DerivesAll}
use Rattle.grammar.specs.Limits.{Meter, Passing, history, history_all, taken, passing_at, earlier_of, reading, first_passing, more}
use Rattle.grammar.specs.Lookahead.{implies}
use Rattle.grammar.proofs.BoolLemmas.{or_left, or_right, and_left, and_right, apply}
use Rattle.rat_room.proofs.TreeWeights.{tokens, tokens_all, offered_by}

-- ---- what is counted ----

pub record Metered : Type 0 where
  pub units : ℕ
  pub within : Bool
  pub tokens : ℕ

abbrev begun : Metered → Metered
begun m = record m { units = more m.units; within = true }

abbrev ended : Metered → Metered
ended m = record m { within = false; tokens = 0 }

-- what is counted after an event, where some productions are those of units
abbrev pub after : {T P : Type 0} → (P → Bool) → Event T P → Metered → Metered
after is_unit (Open p) m = if is_unit p then begun m else m
after is_unit (Take t) m = record m { tokens = more m.tokens }
after is_unit (Close p) m = if is_unit p then ended m else m

pub record IsWithin (m : Metered) : Type 0 where
  pub units : m.units ≤ 500
  pub tokens : m.within ≡ true → m.tokens ≤ 20000

-- both limits are asked for behind one and before others
pub within_limits : (first : Bool) (m : Metered) (others : Option ℕ) →
    (if first then Some 3 else (if nat_lt 500 m.units then Some 5 else (if m.within && nat_lt 20000 m.tokens then Some 6 else others))) ≡ None → IsWithin m
within_limits true m others h = absurd cc
within_limits false m others h = record { units = grind (arith, nat_tests, h); tokens = λ w. grind (arith, nat_tests, h, w) }

abbrev is_inside : {T N : Type 0} → (N → Bool) → Symbol T N → Bool
is_inside inner (Terminal t) = true
is_inside inner (Nonterminal n) = inner n

abbrev pub all_inside : {T N : Type 0} → (N → Bool) → List (Symbol T N) → Bool
all_inside inner [] = true
all_inside inner (x ∷ xs) = is_inside inner x && all_inside inner xs

module _ {T N P V M : Type 0} (g : Grammar Token T N P V) (meter : Meter T P M) (is_unit : P → Bool) where
  -- The meter counts units and the tokens of each, and asks for both limits. The nonterminals inside a unit become no unit.
  pub record CountsUnits : Type 0 where
    pub view : M → Metered
    pub next : (e : Event T P) (m : M) → view (meter.next e m) ≡ after is_unit e (view m)
    pub limits : (m : M) → meter.passed m ≡ None → IsWithin (view m)
    pub inner : N → Bool
    pub outside : (p : P) → is_unit p && inner (g.nonterminal_of p) ≡ false
    pub inside : (p : P) → implies (is_unit p || inner (g.nonterminal_of p)) (all_inside inner (g.symbols p)) ≡ true

-- ---- no limit is passed ----

earlier_none : (a b : Option Passing) → earlier_of a b ≡ None → a ≡ None
earlier_none None b h = refl
earlier_none (Some x) b h = h

later_none : (a : Option Passing) (i : ℕ) (o : Option ℕ) → earlier_of a (passing_at i o) ≡ None → o ≡ None
later_none None i None h = refl
later_none None i (Some k) h = cc
later_none (Some x) i o h = cc

-- nor where a token is taken
pub none_passed_at : {T P M : Type 0} (meter : Meter T P M) (t : T) (past : List (Event T P)) → first_passing meter (Take t ∷ past) ≡ None → meter.passed (reading meter (Take t ∷ past)) ≡ None
none_passed_at meter t past h = later_none (first_passing meter past) (taken past) (meter.passed (reading meter (Take t ∷ past))) h

module _ {T N P V M : Type 0} (g : Grammar Token T N P V) (meter : Meter T P M) where
  mutual
    quiet_before : (c : Tree Token P) (past : List (Event T P)) → first_passing meter (history g c past) ≡ None → first_passing meter past ≡ None
    quiet_before (leaf t) past h =
        earlier_none (first_passing meter past) (passing_at (taken past) (meter.passed (reading meter (Take (g.terminal_of t) ∷ past)))) h
    quiet_before (node p cs) past h = all_quiet_before cs (Open p ∷ past) h

    pub all_quiet_before : (cs : Trees Token P) (past : List (Event T P)) → first_passing meter (history_all g cs past) ≡ None → first_passing meter past ≡ None
    all_quiet_before none past h = h
    all_quiet_before (some c cs) past h = quiet_before c past (all_quiet_before cs (history g c past) h)

-- ---- units that are opened ----

abbrev pub one_if : Bool → ℕ
one_if true = 1
one_if false = 0

module _ {P : Type 0} (is_unit : P → Bool) where
  abbrev mutual
    pub units : Tree Token P → ℕ
    units (leaf t) = 0
    units (node p cs) = one_if (is_unit p) + all_units cs

    pub all_units : Trees Token P → ℕ
    all_units none = 0
    all_units (some c cs) = units c + all_units cs

-- a count stays at the greatest number of a machine
abbrev capped : ℕ → ℕ
capped n = min n 18446744073709551615

begun_units : (b : Bool) (m : Metered) → capped (one_if b + m.units) ≤ (if b then begun m else m).units
begun_units true m = omega arith
begun_units false m = omega arith

ended_units : (b : Bool) (m : Metered) → (if b then ended m else m).units ≡ m.units
ended_units true m = refl
ended_units false m = refl

begun_within : (b : Bool) (m : Metered) → b ≡ true → (if b then begun m else m).within ≡ true
begun_within true m e = refl
begun_within false m e = cc

no_unit : (a b : Bool) → a && b ≡ false → b ≡ true → a ≡ false
no_unit true b h e = sym e ∙ h
no_unit false b h e = refl

module _ {T N P V M : Type 0} {g : Grammar Token T N P V} {meter : Meter T P M} {is_unit : P → Bool} (laws : CountsUnits g meter is_unit) where
  abbrev counts : List (Event T P) → Metered
  counts past = laws.view (reading meter past)

  opens : (p : P) (past : List (Event T P)) → counts (Open p ∷ past) ≡ (if is_unit p then begun (counts past) else counts past)
  opens p past = laws.next (Open p) (reading meter past)

  takes : (t : T) (past : List (Event T P)) → counts (Take t ∷ past) ≡ record (counts past) { tokens = more (counts past).tokens }
  takes t past = laws.next (Take t) (reading meter past)

  closes : (p : P) (past : List (Event T P)) → counts (Close p ∷ past) ≡ (if is_unit p then ended (counts past) else counts past)
  closes p past = laws.next (Close p) (reading meter past)

  limits_at : (t : T) (past : List (Event T P)) → first_passing meter (Take t ∷ past) ≡ None → IsWithin (counts (Take t ∷ past))
  limits_at t past quiet = laws.limits (reading meter (Take t ∷ past)) (none_passed_at meter t past quiet)

  -- ---- the tokens of a unit ----

  -- inside a unit, so many tokens are added to the count, or more, and are no more than the limit leaves
  record Adds (past now : List (Event T P)) (n : ℕ) : Type 0 where
    added : capped (n + (counts past).tokens) ≤ (counts now).tokens
    same : (counts now).within ≡ (counts past).within
    few : (counts past).within ≡ true → first_passing meter now ≡ None → n ≤ 20000 - (counts past).tokens

  adds_token : (t : T) (past : List (Event T P)) → Adds past (Take t ∷ past) 1
  adds_token t past =
      let taken = ap (λ m. m.tokens) (takes t past) in
      let same = ap (λ m. m.within) (takes t past) in
      record { added = omega (arith, taken); same = same; few = λ w quiet. omega (arith, taken, (limits_at t past quiet).tokens (same ∙ w)) }

  adds_both : (past middle now : List (Event T P)) (n k : ℕ) → (first_passing meter now ≡ None → first_passing meter middle ≡ None) → Adds past middle n → Adds middle now k → Adds past now (n + k)
  adds_both past middle now n k before h g = record {
    added = omega (arith, h.added, g.added);
    same = g.same ∙ h.same;
    few = λ w quiet. omega (arith, h.added, h.few w (before quiet), g.few (h.same ∙ w) quiet);
  }

  adds_inside : (p : P) (past end : List (Event T P)) (n : ℕ) → is_unit p ≡ false → Adds (Open p ∷ past) end n → Adds past (Close p ∷ end) n
  adds_inside p past end n plain h =
      let begins : counts (Open p ∷ past) ≡ counts past = opens p past ∙ ap (λ b. if b then begun (counts past) else counts past) plain in
      let ends : counts (Close p ∷ end) ≡ counts end = closes p end ∙ ap (λ b. if b then ended (counts end) else counts end) plain in
      let tokens = ap (λ m. m.tokens) begins in
      let same = ap (λ m. m.within) begins in
      record { added = omega (arith, h.added, tokens, ap (λ m. m.tokens) ends); same = ap (λ m. m.within) ends ∙ h.same ∙ same; few = λ w quiet. omega (arith, tokens, h.few (same ∙ w) quiet) }

  mutual
    tree_adds : (c : Tree Token P) (x : Symbol T N) (ts rest : List Token) (past : List (Event T P)) → Derives g c x ts rest → is_inside laws.inner x ≡ true → Adds past (history g c past) (tokens c)
    tree_adds (leaf t) x ts rest past h i = adds_token (g.terminal_of t) past
    tree_adds (node p cs) x ts rest past h i =
        let n = g.nonterminal_of p in
        let inner : laws.inner n ≡ true = subst (λ m. laws.inner m ≡ true) (sym (offered_by g h.0 p ts h.2)) (subst (λ y. is_inside laws.inner y ≡ true) h.1 i) in
        adds_inside p past (history_all g cs (Open p ∷ past)) (tokens_all cs) (no_unit (is_unit p) (laws.inner n) (laws.outside p) inner)
        (trees_add cs (g.symbols p) ts rest (Open p ∷ past) h.3 (apply (is_unit p || laws.inner n) (all_inside laws.inner (g.symbols p)) (laws.inside p) (or_right (is_unit p) (laws.inner n) inner)))

    trees_add : (cs : Trees Token P) (xs : List (Symbol T N)) (ts rest : List Token) (past : List (Event T P)) → DerivesAll g cs xs ts rest → all_inside laws.inner xs ≡ true →
        Adds past (history_all g cs past) (tokens_all cs)
    trees_add none xs ts rest past h i = record { added = omega arith; same = refl; few = λ w quiet. omega arith }
    trees_add (some c cs) xs ts rest past h i =
        let here = is_inside laws.inner h.0 in
        let others = all_inside laws.inner h.1 in
        let inside : here && others ≡ true = subst (λ ys. all_inside laws.inner ys ≡ true) h.3 i in
        let middle = history g c past in
        adds_both past middle (history_all g cs middle) (tokens c) (tokens_all cs) (all_quiet_before g meter cs middle) (tree_adds c h.0 ts h.2 past h.4 (and_left here others inside))
        (trees_add cs h.1 h.2 rest middle h.5 (and_right here others inside))

  -- what a unit opens and takes
  pub few_tokens : (p : P) → is_unit p ≡ true → (cs : Trees Token P) (ts rest : List Token) (past : List (Event T P)) → DerivesAll g cs (g.symbols p) ts rest →
      first_passing meter (history_all g cs (Open p ∷ past)) ≡ None → tokens_all cs ≤ 20000
  few_tokens p unit cs ts rest past h quiet =
      let n = g.nonterminal_of p in
      let inside = apply (is_unit p || laws.inner n) (all_inside laws.inner (g.symbols p)) (laws.inside p) (or_left (is_unit p) (laws.inner n) unit) in
      let within : (counts (Open p ∷ past)).within ≡ true = ap (λ m. m.within) (opens p past) ∙ begun_within (is_unit p) (counts past) unit in
      omega (arith, (trees_add cs (g.symbols p) ts rest (Open p ∷ past) h inside).few within quiet)

  -- ---- the units of a text ----

  mutual
    tree_counts : (c : Tree Token P) (past : List (Event T P)) → capped (units is_unit c + (counts past).units) ≤ (counts (history g c past)).units
    tree_counts (leaf t) past = omega (arith, ap (λ m. m.units) (takes (g.terminal_of t) past))
    tree_counts (node p cs) past =
        let end = history_all g cs (Open p ∷ past) in
        let begins = ap (λ m. m.units) (opens p past) in
        let ends = ap (λ m. m.units) (closes p end) in
        omega (arith, begins, begun_units (is_unit p) (counts past), trees_count cs (Open p ∷ past), ends, ended_units (is_unit p) (counts end))

    trees_count : (cs : Trees Token P) (past : List (Event T P)) → capped (all_units is_unit cs + (counts past).units) ≤ (counts (history_all g cs past)).units
    trees_count none past = omega arith
    trees_count (some c cs) past = omega (arith, tree_counts c past, trees_count cs (history g c past))

  -- at the end of the text all its units were counted
  pub few_units : (n : N) (t : T) (cs : Trees Token P) (ts rest : List Token) (past : List (Event T P)) → DerivesAll g cs (Nonterminal n ∷ Terminal t ∷ []) ts rest →
      first_passing meter (history_all g cs past) ≡ None → all_units is_unit cs ≤ 500
  few_units n t none ts rest past h quiet = absurd (let e = h.0 in cc)
  few_units n t (some c none) ts rest past h quiet = absurd (let e = h.3 in let f = h.5.0 in cc)
  few_units n t (some c (some (leaf u) none)) ts rest past h quiet =
      let before = history g c past in
      omega (arith, tree_counts c past, ap (λ m. m.units) (takes (g.terminal_of u) before), (limits_at (g.terminal_of u) before quiet).units)
  few_units n t (some c (some (leaf u) (some d cs))) ts rest past h quiet = absurd (let e = h.3 in let f = h.5.3 in let g = h.5.5.3 in cc)
  few_units n t (some c (some (node p ds) cs)) ts rest past h quiet = absurd (let e = h.3 in let f = h.5.3 in let g = h.5.4.1 in cc)
