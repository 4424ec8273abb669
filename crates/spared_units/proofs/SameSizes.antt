-- Where names have the same dimensions in two units, statements mention the same there, and tie and fill the same places.
use Rattle.std.proofs.Common.{◌≡◌, ℕ, ◌+◌, List, [], ◌∷◌, ◌++◌, Option, refl, ap, ◌∙◌}
use Rattle.std.specs.Prelude.{unsigned_abs}
use Rattle.std.specs.List.{flat_map}
use Rattle.ground.specs.Content.{Content}
use Rattle.f66_tree.specs.Syntax.{Text, Formula, Int, Truth, Letter, Ref, Item, Group, Plus, Minus, Not, Pair, Formulas, NoFormula, AndFormula, Par, Declared, Area, Entry, One, Many, Entries, NoEntry, AndEntry, PresetPart, Act, Assign, Sign, When, Invoke, Read, Write, Common, Equivalence}
use Rattle.f66_tree.specs.Syntax as f66
use Rattle.f66_tree.specs.Units.{Context, sizes_of, places_of}
use Rattle.f66_tree.specs.Evaluation.{array_or, sort_of}
use Rattle.f66_program.specs.Mentions.{applied, mentions_of, mentions_of_all, mentions_of_par, mentions_of_counting, mentions_of_entry, mentions_of_entries, mentions_in}
use Rattle.f66_program.specs.Association.{Filled, filled, size_in, list_ties, list_end, area_ties, areas_filled, member_of, shift, shift_of, group_ties, act_ties, act_filled}
use Rattle.f66_program.specs.Initial.{values_of, paired, act_presets}

-- the same of each element, and of each half
pub each_same : {X Y : Type 0} (f g : X → List Y) → ((x : X) → f x ≡ g x) → (xs : List X) → flat_map f xs ≡ flat_map g xs
each_same f g h [] = refl
each_same f g h (x ∷ xs) = ap (λ ys. ys ++ flat_map f xs) (h x) ∙ ap (λ ys. g x ++ ys) (each_same f g h xs)

pub halves : {X : Type 0} (a b c d : List X) → a ≡ b → c ≡ d → a ++ c ≡ b ++ d
halves a b c d e f = ap (λ xs. xs ++ c) e ∙ ap (λ xs. b ++ xs) f

pub one_more : {X : Type 0} (x : X) (xs ys : List X) → xs ≡ ys → x ∷ xs ≡ x ∷ ys
one_more x xs ys e = ap (λ zs. x ∷ zs) e

module _ (c d : Context) (same : (x : Text) → sizes_of x c.notes ≡ sizes_of x d.notes) where
  pub sorts : (x : Text) → sort_of c x ≡ sort_of d x
  sorts x = ap (λ ns. array_or ns x) (same x)

  -- ---- mentions ----

  mutual
    mentioned : (e : Formula) → mentions_of c e ≡ mentions_of d e
    mentioned (Int z) = refl
    mentioned (Truth b) = refl
    mentioned (Letter k) = refl
    mentioned (Ref x) = refl
    mentioned (Item x es) = ap (λ s. applied x es s ∷ mentions_of_all c es) (sorts x) ∙ ap (λ ms. applied x es (sort_of d x) ∷ ms) (mentioned_all es)
    mentioned (Group a) = mentioned a
    mentioned (Plus a) = mentioned a
    mentioned (Minus a) = mentioned a
    mentioned (Not a) = mentioned a
    mentioned (Pair op a b) = halves _ _ _ _ (mentioned a) (mentioned b)

    mentioned_all : (es : Formulas) → mentions_of_all c es ≡ mentions_of_all d es
    mentioned_all NoFormula = refl
    mentioned_all (AndFormula e es) = halves _ _ _ _ (mentioned e) (mentioned_all es)

  mutual
    entry_mentioned : (e : Entry) → mentions_of_entry c e ≡ mentions_of_entry d e
    entry_mentioned (One e) = mentioned e
    entry_mentioned (Many es x i j k) = ap (λ ms. ms ++ mentions_of_counting x i j k) (entries_mentioned es)

    entries_mentioned : (es : Entries) → mentions_of_entries c es ≡ mentions_of_entries d es
    entries_mentioned NoEntry = refl
    entries_mentioned (AndEntry e es) = halves _ _ _ _ (entry_mentioned e) (entries_mentioned es)

  pub act_mentioned : (a : Act) → mentions_in c a ≡ mentions_in d a
  act_mentioned (Assign x e) = halves _ _ _ _ (mentioned x) (mentioned e)
  act_mentioned (Sign e l m k) = mentioned e
  act_mentioned (When e a) = halves _ _ _ _ (mentioned e) (act_mentioned a)
  act_mentioned (Invoke x es) = one_more _ _ _ (mentioned_all es)
  act_mentioned (Read u l es) = ap (λ ms. mentions_of_par u ++ ms) (entries_mentioned es)
  act_mentioned (Write u l es) = ap (λ ms. mentions_of_par u ++ ms) (entries_mentioned es)
  act_mentioned (Equivalence groups) = each_same _ _ (λ es. each_same _ _ mentioned es) groups
  act_mentioned (f66.Preset parts) = each_same _ _ (λ p. each_same _ _ mentioned p.places) parts
  act_mentioned _ = refl

  -- ---- association ----

  sizes : (x : Text) → size_in c x ≡ size_in d x
  sizes x = ap places_of (same x)

  list_tied : (u : ℕ) (b : Option Text) (at : ℕ) (ds : List Declared) → list_ties u c b at ds ≡ list_ties u d b at ds
  list_tied u b at [] = refl
  list_tied u b at (e ∷ ds) = one_more _ _ _ (ap (λ n. list_ties u c b (at + n) ds) (sizes e.name) ∙ list_tied u b (at + size_in d e.name) ds)

  list_ended : (at : ℕ) (ds : List Declared) → list_end c at ds ≡ list_end d at ds
  list_ended at [] = refl
  list_ended at (e ∷ ds) = ap (λ n. list_end c (at + n) ds) (sizes e.name) ∙ list_ended (at + size_in d e.name) ds

  areas_tied : (u : ℕ) (f : Filled) (areas : List Area) → area_ties u c f areas ≡ area_ties u d f areas
  areas_tied u f [] = refl
  areas_tied u f (a ∷ areas) =
      halves _ _ _ _ (list_tied u a.name (f a.name) a.list)
      (ap (λ n. area_ties u c (filled a.name n f) areas) (list_ended (f a.name) a.list) ∙ areas_tied u (filled a.name (list_end d (f a.name) a.list) f) areas)

  areas_end : (f : Filled) (areas : List Area) → areas_filled c f areas ≡ areas_filled d f areas
  areas_end f [] = refl
  areas_end f (a ∷ areas) = ap (λ n. areas_filled c (filled a.name n f) areas) (list_ended (f a.name) a.list) ∙ areas_end (filled a.name (list_end d (f a.name) a.list) f) areas

  member : (e : Formula) → member_of c e ≡ member_of d e
  member (Item x es) = ap (λ ns. record { name = x; at = shift_of ns es } ∷ []) (same x)
  member _ = refl

  pub act_tied : (u : ℕ) (f : Filled) (a : Act) → act_ties u c f a ≡ act_ties u d f a
  act_tied u f (Common areas) = areas_tied u f areas
  act_tied u f (Equivalence groups) = each_same _ _ (λ es. ap (group_ties u) (each_same _ _ member es)) groups
  act_tied u f _ = refl

  pub act_ended : (f : Filled) (a : Act) → act_filled c f a ≡ act_filled d f a
  act_ended f (Common areas) = areas_end f areas
  act_ended f _ = refl

  -- ---- DATA ----

  paired_same : (u i : ℕ) (es : List Formula) (vs : List Content) → paired u i c es vs ≡ paired u i d es vs
  paired_same u i [] vs = refl
  paired_same u i (e ∷ es) [] = by_form e
    where
      by_form : (e : Formula) → paired u i c (e ∷ es) [] ≡ paired u i d (e ∷ es) []
      by_form (Ref x) = refl
      by_form (Item x ns) = refl
      by_form _ = refl
  paired_same u i (Ref x ∷ es) (v ∷ vs) = one_more _ _ _ (paired_same u i es vs)
  paired_same u i (Item x ns ∷ es) (v ∷ vs) =
      ap (λ ks. record { unit = u; part = i; name = x; at = unsigned_abs (shift 1 ks ns); value = v } ∷ paired u i c es vs) (same x)
      ∙ one_more _ _ _ (paired_same u i es vs)
  paired_same u i (_ ∷ es) (v ∷ vs) = refl

  pub act_preset : (u i : ℕ) (a : Act) → act_presets u i c a ≡ act_presets u i d a
  act_preset u i (f66.Preset parts) = each_same _ _ (λ p. paired_same u i p.places (values_of p.values)) parts
  act_preset u i _ = refl
