-- A name that no statement declares, uses, calls or lists: what each statement names is another one.
use Rattle.std.proofs.Common.{◌≡◌, ◌≢◌, false, true≢false, List, [], ◌∷◌, ◌++◌, Option, Some, None, sym, ◌∙◌}
use Rattle.std.specs.Prelude.{map, ⊤}
use Rattle.std.specs.Str.{bytes_eq}
use Rattle.std.specs.List.{list_any, flat_map}
use Rattle.std.proofs.lemmas.Bool.{or_parts}
use Rattle.std.proofs.lemmas.List.Folds.{list_any-append}
use Rattle.std.proofs.lemmas.Slice.Eq.{bytes_eq-Decides}
use Rattle.f66_tree.specs.Syntax.{Text, Formula, Int, Truth, Letter, Ref, Item, Group, Plus, Minus, Not, Pair, Formulas, NoFormula, AndFormula, Par, Constant, Named, Declared, Area, PresetPart, Entry, One, Many, Entries, NoEntry, AndEntry, Act, Assign, Computed, Sign, When, Loop, Invoke, Read, Write, Typed, Dimension, Common, Equivalence, Preset}
use Rattle.f66_tree.specs.Uses.{Names, NamesOfAll, NameOfPar, NamesOfPars, NamesOfEntry, NamesOfEntries, NamesOfAct}
use Rattle.f66_names.specs.Declaring.{declared_in}
use Rattle.f66_names.specs.Uses.{Usage, uses_of, uses_of_all, uses_of_target, uses_of_par, uses_of_counting, uses_of_entry, uses_of_entries, uses_of_sizes, uses_in}
use Rattle.unit_rules.specs.Called.{called_in, passed_in}
use Rattle.unit_rules.specs.Listed.{common_in, equated_in, preset_in, uses_of_listed}
use Rattle.rat_lower.specs.Checked.{NamesOfSizes, NamesOfAreas, NamesOfNote}
use Rattle.rat_lower.specs.Emitted.{names_used, further_names, named_in}
use Rattle.rat_lower.proofs.Accepted.NoFault.{AllOf}

-- ---- names of uses ----

-- all uses are so
abbrev pub AllUses : (Usage → Type 0) → List Usage → Type 0
AllUses P [] = ⊤
AllUses P (u ∷ us) = P u × AllUses P us

module _ (P : Usage → Type 0) where
  pub uses_join : (us vs : List Usage) → AllUses P us → AllUses P vs → AllUses P (us ++ vs)
  uses_join [] vs h k = k
  uses_join (u ∷ us) vs h k = (h.0, uses_join us vs h.1 k)

  pub uses_split : (us vs : List Usage) → AllUses P (us ++ vs) → AllUses P us × AllUses P vs
  uses_split [] vs h = (tt, h)
  uses_split (u ∷ us) vs h = let k = uses_split us vs h.1 in ((h.0, k.0), k.1)

abbrev pub AllUsed : (Text → Type 0) → List Usage → Type 0
AllUsed K us = AllUses (λ u. K u.name) us

abbrev pub AllDeclared : (Text → Type 0) → List Declared → Type 0
AllDeclared K [] = ⊤
AllDeclared K (d ∷ ds) = K d.name × AllDeclared K ds

module _ (K : Text → Type 0) where
  pub used_split : (us vs : List Usage) → AllUsed K (us ++ vs) → AllUsed K us × AllUsed K vs
  used_split us vs h = uses_split (λ u. K u.name) us vs h

  mutual
    names : (f : Formula) → AllUsed K (uses_of f) → Names K f
    names (Int z) h = tt
    names (Truth b) h = tt
    names (Letter c) h = tt
    names (Ref x) h = h.0
    names (Item x es) h = (h.0, names_all es h.1)
    names (Group a) h = names a h
    names (Plus a) h = names a h
    names (Minus a) h = names a h
    names (Not a) h = names a h
    names (Pair op a b) h = let k = used_split (uses_of a) (uses_of b) h in (names a k.0, names b k.1)

    names_all : (es : Formulas) → AllUsed K (uses_of_all es) → NamesOfAll K es
    names_all NoFormula h = tt
    names_all (AndFormula f es) h = let k = used_split (uses_of f) (uses_of_all es) h in (names f k.0, names_all es k.1)

  target : (f : Formula) → AllUsed K (uses_of_target f) → Names K f
  target (Int z) h = tt
  target (Truth b) h = tt
  target (Letter c) h = tt
  target (Ref x) h = h.0
  target (Item x es) h = (h.0, names_all es h.1)
  target (Group a) h = names a h
  target (Plus a) h = names a h
  target (Minus a) h = names a h
  target (Not a) h = names a h
  target (Pair op a b) h = names (Pair op a b) h

  par : (a : Par) → AllUsed K (uses_of_par a) → NameOfPar K a
  par (Constant z) h = tt
  par (Named x) h = h.0

  -- the variable and the parameters of a DO
  counted : (x : Text) (i j m : Par) → AllUsed K (uses_of_counting x i j m) → K x × NameOfPar K i × NameOfPar K j × NameOfPar K m
  counted x i j m h =
      let k = used_split (uses_of_par i) (uses_of_par j ++ uses_of_par m) h.1 in
      let q = used_split (uses_of_par j) (uses_of_par m) k.1 in
      (h.0, par i k.0, par j q.0, par m q.1)

  mutual
    entry : (e : Entry) → AllUsed K (uses_of_entry e) → NamesOfEntry K e
    entry (One f) h = target f h
    entry (Many es x i j m) h =
        let k = used_split (uses_of_entries es) (uses_of_counting x i j m) h in
        let q = counted x i j m k.1 in
        (entries es k.0, q.0, q.1, q.2, q.3)

    entries : (es : Entries) → AllUsed K (uses_of_entries es) → NamesOfEntries K es
    entries NoEntry h = tt
    entries (AndEntry e es) h = let k = used_split (uses_of_entry e) (uses_of_entries es) h in (entry e k.0, entries es k.1)

  listed : (u : Par) (es : Entries) → AllUsed K (uses_of_par u ++ uses_of_entries es) → NameOfPar K u × NamesOfEntries K es
  listed u es h = let k = used_split (uses_of_par u) (uses_of_entries es) h in (par u k.0, entries es k.1)

  -- the name that a CALL gives
  abbrev pub IfCalled : Option Text → Type 0
  IfCalled None = ⊤
  IfCalled (Some x) = K x

  pub act_names : (a : Act) → AllUsed K (uses_in a) → IfCalled (called_in a) → AllUsed K (uses_of_all (passed_in a)) → NamesOfAct K a
  act_names (Assign x e) h c m = let k = used_split (uses_of_target x) (uses_of e) h in (target x k.0, names e k.1)
  act_names (Computed ls x) h c m = h.0
  act_names (Sign e l n o) h c m = names e h
  act_names (When e a) h c m = let k = used_split (uses_of e) (uses_in a) h in (names e k.0, act_names a k.1 c m)
  act_names (Loop l x i j n) h c m = counted x i j n h
  act_names (Invoke x es) h c m = (c, names_all es m)
  act_names (Read u l es) h c m = listed u es h
  act_names (Write u l es) h c m = listed u es h
  act_names _ h c m = tt

  pars : (ns : List Par) → AllUsed K (flat_map uses_of_par ns) → NamesOfPars K ns
  pars [] h = tt
  pars (n ∷ ns) h = let k = used_split (uses_of_par n) (flat_map uses_of_par ns) h in (par n k.0, pars ns k.1)

  sizes : (ds : List Declared) → AllUsed K (uses_of_sizes ds) → NamesOfSizes K ds
  sizes [] h = tt
  sizes (d ∷ ds) h = let k = used_split (flat_map uses_of_par d.sizes) (uses_of_sizes ds) h in (pars d.sizes k.0, sizes ds k.1)

  listed_split : (ds es : List Declared) → AllUsed K (flat_map uses_of_listed (ds ++ es)) → AllUsed K (flat_map uses_of_listed ds) × AllUsed K (flat_map uses_of_listed es)
  listed_split [] es h = (tt, h)
  listed_split (d ∷ ds) es h =
      let k = used_split (uses_of_listed d) (flat_map uses_of_listed (ds ++ es)) h in
      let m = listed_split ds es k.1 in
      (uses_join (λ u. K u.name) (uses_of_listed d) (flat_map uses_of_listed ds) k.0 m.0, m.1)

  listed_sizes : (ds : List Declared) → AllUsed K (flat_map uses_of_listed ds) → NamesOfSizes K ds
  listed_sizes [] h = tt
  listed_sizes (d ∷ ds) h = let k = used_split (uses_of_listed d) (flat_map uses_of_listed ds) h in (pars d.sizes k.0.1, listed_sizes ds k.1)

  area_sizes : (areas : List Area) → AllUsed K (flat_map uses_of_listed (flat_map (λ a. a.list) areas)) → NamesOfAreas K areas
  area_sizes [] h = tt
  area_sizes (a ∷ areas) h = let k = listed_split a.list (flat_map (λ b. b.list) areas) h in (listed_sizes a.list k.0, area_sizes areas k.1)

  pub note_names : (a : Act) → AllUsed K (uses_in a) → AllUsed K (flat_map uses_of_listed (common_in a)) → NamesOfNote K a
  note_names (Typed t ds) h m = sizes ds h
  note_names (Dimension ds) h m = sizes ds h
  note_names (Common areas) h m = area_sizes areas m
  note_names _ h m = tt

-- all names are so that a statement declares, uses, calls and lists
pub record AllNamed (K : Text → Type 0) (a : Act) : Type 0 where
  pub declared : AllDeclared K (declared_in a)
  pub used : AllUsed K (uses_in a)
  pub called : IfCalled K (called_in a)
  pub passed : AllUsed K (uses_of_all (passed_in a))
  pub common : AllUsed K (flat_map uses_of_listed (common_in a))
  pub equated : AllUsed K (flat_map uses_of_target (equated_in a))
  pub preset : AllUsed K (flat_map uses_of_target (preset_in a))

-- ---- a name that is not there ----

module _ (q : Text) where
  -- no statement declares or uses it
  abbrev pub Lacking : Act → Type 0
  Lacking a = list_any (bytes_eq q) (named_in a) ≡ false

  pub other : (x : Text) → bytes_eq q x ≡ false → x ≢ q
  other x e same = true≢false (sym ((bytes_eq-Decides q x).1 (sym same)) ∙ e)

  all_other : (us : List Usage) → list_any (bytes_eq q) (map (λ u. u.name) us) ≡ false → AllUsed (λ x. x ≢ q) us
  all_other [] e = tt
  all_other (u ∷ us) e = let k = or_parts (bytes_eq q u.name) (list_any (bytes_eq q) (map (λ v. v.name) us)) e in (other u.name k.0, all_other us k.1)

  declared_other : (ds : List Declared) → list_any (bytes_eq q) (map (λ d. d.name) ds) ≡ false → AllDeclared (λ x. x ≢ q) ds
  declared_other [] e = tt
  declared_other (d ∷ ds) e = let k = or_parts (bytes_eq q d.name) (list_any (bytes_eq q) (map (λ f. f.name) ds)) e in (other d.name k.0, declared_other ds k.1)

  none_of_both : (xs ys : List Text) → list_any (bytes_eq q) (xs ++ ys) ≡ false → (list_any (bytes_eq q) xs ≡ false) × (list_any (bytes_eq q) ys ≡ false)
  none_of_both xs ys e = or_parts (list_any (bytes_eq q) xs) (list_any (bytes_eq q) ys) (sym (list_any-append (bytes_eq q) xs ys) ∙ e)

  abbrev Others : List Usage → Type 0
  Others us = AllUsed (λ x. x ≢ q) us

  -- of lists of which each gives uses, one after another
  lists_other : {A : Type 0} (f : A → List Usage) (xs : List A) → list_any (bytes_eq q) (flat_map (λ x. names_used (f x)) xs) ≡ false → Others (flat_map f xs)
  lists_other f [] e = tt
  lists_other f (x ∷ xs) e =
      let k = none_of_both (names_used (f x)) (flat_map (λ y. names_used (f y)) xs) e in
      uses_join (λ u. u.name ≢ q) (f x) (flat_map f xs) (all_other (f x) k.0) (lists_other f xs k.1)

  flat_join : {A : Type 0} (f : A → List Usage) (xs ys : List A) → Others (flat_map f xs) → Others (flat_map f ys) → Others (flat_map f (xs ++ ys))
  flat_join f [] ys h k = k
  flat_join f (x ∷ xs) ys h k =
      let p = uses_split (λ u. u.name ≢ q) (f x) (flat_map f xs) h in
      uses_join (λ u. u.name ≢ q) (f x) (flat_map f (xs ++ ys)) p.0 (flat_join f xs ys p.1 k)

  -- of lists of such lists
  groups_other : {A B : Type 0} (f : A → List Usage) (g : B → List A) (bs : List B) → list_any (bytes_eq q) (flat_map (λ b. flat_map (λ x. names_used (f x)) (g b)) bs) ≡ false → Others (flat_map f (flat_map g bs))
  groups_other f g [] e = tt
  groups_other f g (b ∷ bs) e =
      let k = none_of_both (flat_map (λ x. names_used (f x)) (g b)) (flat_map (λ c. flat_map (λ x. names_used (f x)) (g c)) bs) e in
      flat_join f (g b) (flat_map g bs) (lists_other f (g b) k.0) (groups_other f g bs k.1)

  abbrev None_further : Act → Type 0
  None_further a = list_any (bytes_eq q) (further_names a) ≡ false

  called_other : (a : Act) → None_further a → IfCalled (λ x. x ≢ q) (called_in a)
  called_other (Invoke x es) e = other x (or_parts (bytes_eq q x) _ e).0
  called_other (When f a) e = called_other a e
  called_other _ e = tt

  passed_other : (a : Act) → None_further a → Others (uses_of_all (passed_in a))
  passed_other (Invoke x es) e = all_other (uses_of_all es) (or_parts (bytes_eq q x) _ e).1
  passed_other (When f a) e = passed_other a e
  passed_other _ e = tt

  common_other : (a : Act) → None_further a → Others (flat_map uses_of_listed (common_in a))
  common_other (Common areas) e = groups_other uses_of_listed (λ (a : Area). a.list) areas e
  common_other _ e = tt

  equated_other : (a : Act) → None_further a → Others (flat_map uses_of_target (equated_in a))
  equated_other (Equivalence groups) e = groups_other uses_of_target (λ (g : List Formula). g) groups e
  equated_other _ e = tt

  preset_other : (a : Act) → None_further a → Others (flat_map uses_of_target (preset_in a))
  preset_other (Preset parts) e = groups_other uses_of_target (λ (p : PresetPart). p.places) parts e
  preset_other _ e = tt

  -- what it declares, uses, calls and lists are other names
  pub lacking_parts : (a : Act) → Lacking a → AllNamed (λ x. x ≢ q) a
  lacking_parts a e =
      let h = none_of_both (map (λ (d : Declared). d.name) (declared_in a)) (names_used (uses_in a) ++ further_names a) e in
      let k = none_of_both (names_used (uses_in a)) (further_names a) h.1 in
      record {
        declared = declared_other (declared_in a) h.0;
        used = all_other (uses_in a) k.0;
        called = called_other a k.1;
        passed = passed_other a k.1;
        common = common_other a k.1;
        equated = equated_other a k.1;
        preset = preset_other a k.1;
      }

  pub all_lacking : (acts : List Act) → list_any (bytes_eq q) (flat_map named_in acts) ≡ false → AllOf Lacking acts
  all_lacking [] e = tt
  all_lacking (a ∷ acts) e =
      let k = or_parts (list_any (bytes_eq q) (named_in a)) (list_any (bytes_eq q) (flat_map named_in acts)) (sym (list_any-append (bytes_eq q) (named_in a) (flat_map named_in acts)) ∙ e) in
      (k.0, all_lacking acts k.1)

-- what lacks a name names others
pub other_names : (q : Text) (a : Act) → Lacking q a → NamesOfAct (λ x. x ≢ q) a
other_names q a h = let k = lacking_parts q a h in act_names (λ x. x ≢ q) a k.used k.called k.passed

pub other_note_names : (q : Text) (a : Act) → Lacking q a → NamesOfNote (λ x. x ≢ q) a
other_note_names q a h = let k = lacking_parts q a h in note_names (λ x. x ≢ q) a k.used k.common
