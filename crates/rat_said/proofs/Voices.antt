-- What a statement mentions is told by the names that it uses: use by use they are the same variables.
use Rattle.std.proofs.Common.{◌≡◌, ◌⊎◌, inl, inr, Bool, true, false, true≢false, List, [], ◌∷◌, ◌++◌, length, map, Option, None, Some, refl, sym, ap, ◌∙◌, subst, arith}
use Rattle.std.specs.Prelude.{◌==◌, ◌&&◌, ◌||◌, if◌then◌else◌}
use Rattle.std.specs.List.{list_all, list_any}
use Rattle.std.specs.Str.{bytes_eq}
use Rattle.std.proofs.lemmas.Bool.{eq-eqb, ne_eqb}
use Rattle.std.proofs.lemmas.List.{map-append}
use Rattle.std.proofs.lemmas.Slice.Eq.{bytes_eq-Decides}
use Rattle.f66_tree.specs.Syntax.{Text, Formula, Int, Truth, Letter, Ref, Item, Group, Plus, Minus, Not, Pair, Formulas, NoFormula, AndFormula, Par, Constant, Named, Entry, One, Many, Entries, NoEntry, AndEntry, Act, Assign, Computed, Sign, When, Loop, Invoke, Continue, Read, Write, Typed, Dimension, Common, Equivalence, Preset}
use Rattle.f66_tree.specs.Units.{Context}
use Rattle.f66_tree.specs.Evaluation.{Intrinsic, Sort, AnArray, AnIntrinsic, AFunction, known, intrinsics, array_or, sort_of}
use Rattle.f66_program.specs.Mentions.{Mention, AVariable, ACall, AKnown, applied, mentions_of, mentions_of_all, mentions_of_par, mentions_of_counting, mentions_of_entry, mentions_of_entries, mentions_in}
use Rattle.f66_names.specs.Uses.{Usage, uses_of, uses_of_all, uses_of_target, uses_of_par, uses_of_counting, uses_of_entry, uses_of_entries, uses_in}
use Rattle.spared_units.proofs.Among.{Among}
use Rattle.spared_units.proofs.SameSizes.{halves}
use Rattle.rat_said.specs.Brief.{if_array, variable_used, is_name, holds_if_any, is_idle, is_told_by_uses}

-- the variable that a mention is of
abbrev pub variable_of : Mention → Option Text
variable_of (AVariable x) = Some x
variable_of (ACall b x es) = None
variable_of (AKnown x) = None

-- ---- arrays ----

not_known : (x : Text) (known_ones : List (Text × Intrinsic)) → if_array x (known known_ones x) ≡ None
not_known x [] = refl
not_known x (k ∷ ks) = by_answer (bytes_eq k.0 x) (not_known x ks)
  where
    by_answer : (v : Bool) → if_array x (known ks x) ≡ None → if_array x (if v then AnIntrinsic k.1 else known ks x) ≡ None
    by_answer true e = refl
    by_answer false e = e

-- what has no dimensions is no array, and what has some is one
module _ {P : Type 0} (f : P → Par) (x : Text) (ns : List Par) where
  pub no_array : (ps : List P) → map f ps ≡ ns → (length ps == 0) ≡ true → if_array x (array_or ns x) ≡ None
  no_array [] e h = subst (λ ms. if_array x (array_or ms x) ≡ None) e (not_known x intrinsics)
  no_array (p ∷ ps) e h = absurd (true≢false (sym h ∙ ne_eqb (length (p ∷ ps)) 0 (λ k. absurd (omega (arith, k)))))

  pub an_array : (ps : List P) → map f ps ≡ ns → (length ps == 0) ≡ false → if_array x (array_or ns x) ≡ Some x
  an_array [] e h = absurd (true≢false (sym (eq-eqb 0 0 refl) ∙ h))
  an_array (p ∷ ps) e h = subst (λ ms. if_array x (array_or ms x) ≡ Some x) e refl

-- ---- statement by statement ----

module _ (c : Context) where
  abbrev Same : List Mention → List Usage → Type 0
  Same ms us = map variable_of ms ≡ map (variable_used c) us

  both : (ms ns : List Mention) (us ws : List Usage) → Same ms us → Same ns ws → Same (ms ++ ns) (us ++ ws)
  both ms ns us ws e f = map-append variable_of ms ns ∙ halves _ _ _ _ e f ∙ sym (map-append (variable_used c) us ws)

  applied_same : (x : Text) (es : Formulas) (s : Sort) → variable_of (applied x es s) ≡ if_array x s
  applied_same x es (AnArray ns) = refl
  applied_same x es (AnIntrinsic g) = refl
  applied_same x es AFunction = refl

  mutual
    formula : (e : Formula) → Same (mentions_of c e) (uses_of e)
    formula (Int z) = refl
    formula (Truth b) = refl
    formula (Letter k) = refl
    formula (Ref x) = refl
    formula (Item x es) = ap (λ o. o ∷ map variable_of (mentions_of_all c es)) (applied_same x es (sort_of c x)) ∙ ap (λ os. if_array x (sort_of c x) ∷ os) (formulas es)
    formula (Group a) = formula a
    formula (Plus a) = formula a
    formula (Minus a) = formula a
    formula (Not a) = formula a
    formula (Pair op a b) = both (mentions_of c a) (mentions_of c b) (uses_of a) (uses_of b) (formula a) (formula b)

    formulas : (es : Formulas) → Same (mentions_of_all c es) (uses_of_all es)
    formulas NoFormula = refl
    formulas (AndFormula e es) = both (mentions_of c e) (mentions_of_all c es) (uses_of e) (uses_of_all es) (formula e) (formulas es)

  target : (e : Formula) → Same (mentions_of c e) (uses_of_target e)
  target (Int z) = refl
  target (Truth b) = refl
  target (Letter k) = refl
  target (Ref x) = refl
  target (Item x es) = formula (Item x es)
  target (Group a) = formula a
  target (Plus a) = formula a
  target (Minus a) = formula a
  target (Not a) = formula a
  target (Pair op a b) = formula (Pair op a b)

  par : (p : Par) → Same (mentions_of_par p) (uses_of_par p)
  par (Constant z) = refl
  par (Named x) = refl

  counting : (x : Text) (a b d : Par) → Same (mentions_of_counting x a b d) (uses_of_counting x a b d)
  counting x a b d =
      ap (λ os. Some x ∷ os)
      (both (mentions_of_par a) (mentions_of_par b ++ mentions_of_par d) (uses_of_par a) (uses_of_par b ++ uses_of_par d) (par a)
      (both (mentions_of_par b) (mentions_of_par d) (uses_of_par b) (uses_of_par d) (par b) (par d)))

  mutual
    entry : (e : Entry) → Same (mentions_of_entry c e) (uses_of_entry e)
    entry (One e) = target e
    entry (Many es x a b d) = both (mentions_of_entries c es) (mentions_of_counting x a b d) (uses_of_entries es) (uses_of_counting x a b d) (entries es) (counting x a b d)

    entries : (es : Entries) → Same (mentions_of_entries c es) (uses_of_entries es)
    entries NoEntry = refl
    entries (AndEntry e es) = both (mentions_of_entry c e) (mentions_of_entries c es) (uses_of_entry e) (uses_of_entries es) (entry e) (entries es)

  idle : (a : Act) → is_idle a ≡ true → Same (mentions_in c a) (uses_in a)
  idle Continue h = refl
  idle _ h = absurd (true≢false (sym h))

  pub same_variables : (a : Act) → is_told_by_uses a ≡ true → Same (mentions_in c a) (uses_in a)
  same_variables (Assign x e) h = both (mentions_of c x) (mentions_of c e) (uses_of_target x) (uses_of e) (target x) (formula e)
  same_variables (Computed ls x) h = refl
  same_variables (Sign e l m k) h = formula e
  same_variables (When e a) h = both (mentions_of c e) (mentions_in c a) (uses_of e) (uses_in a) (formula e) (idle a h)
  same_variables (Loop l x a b d) h = counting x a b d
  same_variables (Read u l es) h = both (mentions_of_par u) (mentions_of_entries c es) (uses_of_par u) (uses_of_entries es) (par u) (entries es)
  same_variables (Write u l es) h = both (mentions_of_par u) (mentions_of_entries c es) (uses_of_par u) (uses_of_entries es) (par u) (entries es)
  same_variables (Invoke x es) h = absurd (true≢false (sym h))
  same_variables (Typed t ds) h = absurd (true≢false (sym h))
  same_variables (Dimension ds) h = absurd (true≢false (sym h))
  same_variables (Common areas) h = absurd (true≢false (sym h))
  same_variables (Equivalence groups) h = absurd (true≢false (sym h))
  same_variables (Preset parts) h = absurd (true≢false (sym h))
  same_variables _ h = refl

-- ---- what follows for variables that were seen ----

pub any_mapped : {X Y : Type 0} (test : Y → Bool) (f : X → Y) (xs : List X) → list_any test (map f xs) ≡ list_any (λ x. test (f x)) xs
any_mapped test f [] = refl
any_mapped test f (x ∷ xs) = ap (λ b. test (f x) || b) (any_mapped test f xs)

both_hold : (a b : Bool) → (a && b) ≡ true → (a ≡ true) × (b ≡ true)
both_hold true b e = (refl, e)
both_hold false b e = absurd (true≢false (sym e))

module _ (c : Context) (seen : Text → Bool) where
  seen_mention : (m : Mention) → holds_if_any seen (variable_of m) ≡ true → (x : Text) × (m ≡ AVariable x) × (seen x ≡ true)
  seen_mention (AVariable x) h = (x, refl, h)
  seen_mention (ACall b x es) h = absurd (true≢false (sym h))
  seen_mention (AKnown x) h = absurd (true≢false (sym h))

  -- where each use is of a variable that was seen, each mention is
  pub all_seen : (ms : List Mention) (us : List Usage) → map variable_of ms ≡ map (variable_used c) us → list_all (λ u. holds_if_any seen (variable_used c u)) us ≡ true →
      (m : Mention) → Among ms m → (x : Text) × (m ≡ AVariable x) × (seen x ≡ true)
  all_seen [] us e h m k = absurd k
  all_seen (n ∷ ms) [] e h m k = absurd (cc)
  all_seen (n ∷ ms) (u ∷ us) e h m (inl same) =
      let first : variable_of n ≡ variable_used c u = cc in
      let s = seen_mention n (ap (holds_if_any seen) first ∙ (both_hold (holds_if_any seen (variable_used c u)) _ h).0) in
      (s.0, sym same ∙ s.1, s.2)
  all_seen (n ∷ ms) (u ∷ us) e h m (inr k) =
      let rest : map variable_of ms ≡ map (variable_used c) us = cc in
      all_seen ms us rest (both_hold (holds_if_any seen (variable_used c u)) _ h).1 m k

pub either : (a b : Bool) → (a || b) ≡ true → (a ≡ true) ⊎ (b ≡ true)
either true b e = inl refl
either false b e = inr e

named : (m : Mention) (x : Text) → is_name (variable_of m) x ≡ true → m ≡ AVariable x
named (AVariable y) x h = ap AVariable (sym ((bytes_eq-Decides x y).0 h))
named (ACall b y es) x h = absurd (true≢false (sym h))
named (AKnown y) x h = absurd (true≢false (sym h))

-- a variable that is used is mentioned
pub used_mentioned : (c : Context) (ms : List Mention) (us : List Usage) (x : Text) → map variable_of ms ≡ map (variable_used c) us → list_any (λ u. is_name (variable_used c u) x) us ≡ true → Among ms (AVariable x)
used_mentioned c ms [] x e h = absurd (true≢false (sym h))
used_mentioned c [] (u ∷ us) x e h = absurd (cc)
used_mentioned c (n ∷ ms) (u ∷ us) x e h =
    let first : variable_of n ≡ variable_used c u = cc in
    let rest : map variable_of ms ≡ map (variable_used c) us = cc in
    elim (either (is_name (variable_used c u) x) _ h) [
      | inl here ↦ inl (named n x (ap (λ o. is_name o x) first ∙ here))
      | inr there ↦ inr (used_mentioned c ms us x rest there)
    ]
