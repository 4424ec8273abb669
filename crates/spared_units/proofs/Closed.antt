-- Where a statement mentions a call, it mentions all that the actuals do.
use Rattle.std.proofs.Common.{inl, inr, Bool, true, false, List, [], ◌∷◌, ◌++◌, map, sym, ap, subst}
use Rattle.std.specs.Prelude.{⊤}
use Rattle.std.specs.List.{flat_map}
use Rattle.f66_tree.specs.Syntax.{Text, Formula, Int, Truth, Letter, Ref, Item, Group, Plus, Minus, Not, Pair, Formulas, NoFormula, AndFormula, Par, Constant, Named, Declared, Entry, One, Many, Entries, NoEntry, AndEntry, Act, Assign, Computed, Sign, When, Loop, Invoke, Read, Write, Typed, Dimension, Common, Equivalence, Preset, Line}
use Rattle.f66_tree.specs.Units.{Context}
use Rattle.f66_tree.specs.Evaluation.{Sort, AnArray, AnIntrinsic, AFunction, sort_of}
use Rattle.f66_program.specs.Mentions.{Mention, AVariable, ACall, AKnown, applied, mentions_of, mentions_of_all, mentions_of_par, mentions_of_counting, mentions_of_entry, mentions_of_entries, mentions_of_sizes, mentions_in}
use Rattle.spared_units.specs.Spared.{mentions_of_lines}
use Rattle.spared_units.proofs.Among.{Among, split, before, behind}

abbrev IsCall : Mention → Type 0
IsCall (AVariable x) = ⊥
IsCall (ACall b x es) = ⊤
IsCall (AKnown x) = ⊥

abbrev actuals_of : Mention → Formulas
actuals_of (AVariable x) = NoFormula
actuals_of (ACall b x es) = es
actuals_of (AKnown x) = NoFormula

module _ (c : Context) where
  abbrev pub IsClosed : List Mention → Type 0
  IsClosed ms = (b : Bool) (x : Text) (es : Formulas) → Among ms (ACall b x es) → (m : Mention) → Among (mentions_of_all c es) m → Among ms m

  nothing : IsClosed []
  nothing b x es h m k = absurd h

  joined : (xs ys : List Mention) → IsClosed xs → IsClosed ys → IsClosed (xs ++ ys)
  joined xs ys f g b x es h m k = elim (split xs ys (ACall b x es) h) [ inl a ↦ before xs ys m (f b x es a m k) | inr a ↦ behind xs ys m (g b x es a m k) ]

  -- before others stands what is no call, or a call with the mentions of its actuals
  plain : (n : Mention) (ms : List Mention) → (IsCall n → ⊥) → IsClosed ms → IsClosed (n ∷ ms)
  plain n ms none f b x es (inl e) m k = absurd (none (subst IsCall (sym e) tt))
  plain n ms none f b x es (inr h) m k = inr (f b x es h m k)

  called : (v : Bool) (y : Text) (fs : Formulas) → IsClosed (mentions_of_all c fs) → IsClosed (ACall v y fs ∷ mentions_of_all c fs)
  called v y fs f b x es (inl e) m k = inr (subst (λ gs. Among (mentions_of_all c gs) m) (sym (ap actuals_of e)) k)
  called v y fs f b x es (inr h) m k = inr (f b x es h m k)

  either_applied : (y : Text) (fs : Formulas) (s : Sort) → IsClosed (mentions_of_all c fs) → IsClosed (applied y fs s ∷ mentions_of_all c fs)
  either_applied y fs (AnArray ns) f = plain (AVariable y) (mentions_of_all c fs) (λ h. h) f
  either_applied y fs (AnIntrinsic g) f = plain (AKnown y) (mentions_of_all c fs) (λ h. h) f
  either_applied y fs AFunction f = called false y fs f

  each : {X : Type 0} (f : X → List Mention) → ((x : X) → IsClosed (f x)) → (xs : List X) → IsClosed (flat_map f xs)
  each f h [] = nothing
  each f h (x ∷ xs) = joined (f x) (flat_map f xs) (h x) (each f h xs)

  mutual
    formula : (e : Formula) → IsClosed (mentions_of c e)
    formula (Int z) = nothing
    formula (Truth b) = nothing
    formula (Letter l) = nothing
    formula (Ref x) = plain (AVariable x) [] (λ h. h) nothing
    formula (Item x es) = either_applied x es (sort_of c x) (formulas es)
    formula (Group a) = formula a
    formula (Plus a) = formula a
    formula (Minus a) = formula a
    formula (Not a) = formula a
    formula (Pair op a b) = joined (mentions_of c a) (mentions_of c b) (formula a) (formula b)

    formulas : (es : Formulas) → IsClosed (mentions_of_all c es)
    formulas NoFormula = nothing
    formulas (AndFormula e es) = joined (mentions_of c e) (mentions_of_all c es) (formula e) (formulas es)

  par : (a : Par) → IsClosed (mentions_of_par a)
  par (Constant z) = nothing
  par (Named x) = plain (AVariable x) [] (λ h. h) nothing

  counting : (x : Text) (i j k : Par) → IsClosed (mentions_of_counting x i j k)
  counting x i j k = plain (AVariable x) _ (λ h. h) (joined (mentions_of_par i) _ (par i) (joined (mentions_of_par j) (mentions_of_par k) (par j) (par k)))

  mutual
    entry : (e : Entry) → IsClosed (mentions_of_entry c e)
    entry (One e) = formula e
    entry (Many es x i j k) = joined (mentions_of_entries c es) (mentions_of_counting x i j k) (entries es) (counting x i j k)

    entries : (es : Entries) → IsClosed (mentions_of_entries c es)
    entries NoEntry = nothing
    entries (AndEntry e es) = joined (mentions_of_entry c e) (mentions_of_entries c es) (entry e) (entries es)

  sizes : (ds : List Declared) → IsClosed (mentions_of_sizes ds)
  sizes ds = each (λ d. flat_map mentions_of_par d.sizes) (λ d. each mentions_of_par par d.sizes) ds

  variables : (ds : List Declared) → IsClosed (map (λ d. AVariable d.name) ds)
  variables [] = nothing
  variables (d ∷ ds) = plain (AVariable d.name) (map (λ d. AVariable d.name) ds) (λ h. h) (variables ds)

  act : (a : Act) → IsClosed (mentions_in c a)
  act (Assign x e) = joined (mentions_of c x) (mentions_of c e) (formula x) (formula e)
  act (Computed ls x) = plain (AVariable x) [] (λ h. h) nothing
  act (Sign e l m k) = formula e
  act (When e a) = joined (mentions_of c e) (mentions_in c a) (formula e) (act a)
  act (Loop l x i j k) = counting x i j k
  act (Invoke x es) = called true x es (formulas es)
  act (Read u l es) = joined (mentions_of_par u) (mentions_of_entries c es) (par u) (entries es)
  act (Write u l es) = joined (mentions_of_par u) (mentions_of_entries c es) (par u) (entries es)
  act (Typed t ds) = sizes ds
  act (Dimension ds) = sizes ds
  act (Common areas) = each (λ a. map (λ d. AVariable d.name) a.list ++ mentions_of_sizes a.list) (λ a. joined (map (λ d. AVariable d.name) a.list) (mentions_of_sizes a.list) (variables a.list) (sizes a.list)) areas
  act (Equivalence groups) = each (λ es. flat_map (mentions_of c) es) (λ es. each (mentions_of c) formula es) groups
  act (Preset parts) = each (λ p. flat_map (mentions_of c) p.places) (λ p. each (mentions_of c) formula p.places) parts
  act _ = nothing

  pub lines_closed : (lines : List Line) → IsClosed (mentions_of_lines c lines)
  lines_closed lines = each (λ s. mentions_in c s.act) (λ s. act s.act) lines
