-- A unit has no more labels and names than its weight: those of its parts, and the labels that are made.
use Rattle.std.proofs.Common.{◌≡◌, ◌≤◌, ℕ, suc, ◌+◌, arith, Bool, true, false, List, [], ◌∷◌, ◌++◌, length, length-append, map, Option, Some, None, refl}
use Rattle.std.proofs.lemmas.List.{length-map}
use Rattle.std.specs.List.{flat_map}
use Rattle.std.specs.Prelude.{◌||◌, if◌then◌else◌}
use Rattle.ground.specs.declared.place.Place.{Place}
use Rattle.f66_tree.specs.Syntax.{Header, MainUnit, SubUnit, FuncUnit, DataUnit, Text, Formula, Ref, Item, Group, Plus, Minus, Not, Pair, Formulas, NoFormula, AndFormula, Par, Constant, Named, Declared, Area, PresetPart, Entry, One, Many, Entries, NoEntry, AndEntry, Act, Assign, Computed, Sign, When, Loop, Invoke, Read, Write, Typed, Dimension, Common, Equivalence, Preset}
use Rattle.f66_names.specs.Uses.{Usage, uses_of, uses_of_all, uses_of_target, uses_of_par, uses_of_counting, uses_of_entry, uses_of_entries, uses_of_sizes, uses_in}
use Rattle.f66_names.specs.Declaring.{declared_in}
use Rattle.unit_rules.specs.Listed.{uses_of_listed}
use Rattle.rat_tree.specs.Syntax.{Command, Empty, Block, If, IfElse, While, For, Repeat, RepeatUntil, Do, Switch, Break, Next, Return, Plain, Labelled, Commands, NoCommand, AndCommand, Clauses, NoClause, AndClause}
use Rattle.rat_check.specs.Parts.{Form, Statement, Condition, Selector, CaseList, ForHead, DoHead, ReturnHead, Labels, Part, part, with_mark, with_labels, no_label, parts_of, parts_in, clause_parts, unit_parts}
use Rattle.rat_check.specs.Said.{said_by, said_in, returned_act, said_if_any, condition_if_any, value_acts}
use Rattle.rat_check.specs.Survey.{is_among, adding_if, own_labels}
use Rattle.rat_lower.specs.Code.{labels, all_labels, clause_labels}
use Rattle.rat_lower.specs.Emitted.{names_used, further_names, named_in, names_of}
use Rattle.rat_lower.specs.Lowered.{label_count}
use Rattle.rat_room.proofs.Weights.{total, if_any, one, of_formula, of_formulas, of_par, of_counting, of_entry, of_entries, of_declared, of_area, of_preset, of_act, of_command, of_commands, of_clauses}

-- ---- lists ----

-- how long what is made of each is
abbrev lengths : {A B : Type 0} → (A → List B) → List A → ℕ
lengths f xs = total (λ x. length (f x)) xs

length_flat_map : {A B : Type 0} (f : A → List B) (xs : List A) → length (flat_map f xs) ≡ lengths f xs
length_flat_map f [] = refl
length_flat_map f (x ∷ xs) = omega (arith, length-append (f x) (flat_map f xs), length_flat_map f xs)

total_append : {A : Type 0} (f : A → ℕ) (xs ys : List A) → total f (xs ++ ys) ≡ total f xs + total f ys
total_append f [] ys = omega arith
total_append f (x ∷ xs) ys = omega (arith, total_append f xs ys)

total_more : {A : Type 0} (f g : A → ℕ) (xs : List A) → ((x : A) → f x ≤ g x) → total f xs ≤ total g xs
total_more f g [] h = omega arith
total_more f g (x ∷ xs) h = omega (arith, total_more f g xs h, h x)

-- ---- names in a statement ----

mutual
  formula_uses : (e : Formula) → length (uses_of e) ≡ of_formula e
  formula_uses (Ref x) = refl
  formula_uses (Item x es) = omega (arith, formulas_use es)
  formula_uses (Group a) = formula_uses a
  formula_uses (Plus a) = formula_uses a
  formula_uses (Minus a) = formula_uses a
  formula_uses (Not a) = formula_uses a
  formula_uses (Pair op a b) = omega (arith, length-append (uses_of a) (uses_of b), formula_uses a, formula_uses b)
  formula_uses _ = refl

  formulas_use : (es : Formulas) → length (uses_of_all es) ≡ of_formulas es
  formulas_use NoFormula = refl
  formulas_use (AndFormula e es) = omega (arith, length-append (uses_of e) (uses_of_all es), formula_uses e, formulas_use es)

target_uses : (e : Formula) → length (uses_of_target e) ≡ of_formula e
target_uses (Item x es) = omega (arith, formulas_use es)
target_uses (Ref x) = refl
target_uses (Group a) = formula_uses a
target_uses (Plus a) = formula_uses a
target_uses (Minus a) = formula_uses a
target_uses (Not a) = formula_uses a
target_uses (Pair op a b) = formula_uses (Pair op a b)
target_uses _ = refl

par_uses : (p : Par) → length (uses_of_par p) ≡ of_par p
par_uses (Constant z) = refl
par_uses (Named x) = refl

counting_uses : (x : Text) (a b c : Par) → length (uses_of_counting x a b c) ≡ of_counting a b c
counting_uses x a b c =
    omega (arith, length-append (uses_of_par a) (uses_of_par b ++ uses_of_par c), length-append (uses_of_par b) (uses_of_par c), par_uses a, par_uses b, par_uses c)

mutual
  entry_uses : (e : Entry) → length (uses_of_entry e) ≡ of_entry e
  entry_uses (One e) = target_uses e
  entry_uses (Many es x a b c) = omega (arith, length-append (uses_of_entries es) (uses_of_counting x a b c), entries_use es, counting_uses x a b c)

  entries_use : (es : Entries) → length (uses_of_entries es) ≡ of_entries es
  entries_use NoEntry = refl
  entries_use (AndEntry e es) = omega (arith, length-append (uses_of_entry e) (uses_of_entries es), entry_uses e, entries_use es)

pars_use : (ps : List Par) → length (flat_map uses_of_par ps) ≡ total of_par ps
pars_use [] = refl
pars_use (p ∷ ps) = omega (arith, length-append (uses_of_par p) (flat_map uses_of_par ps), par_uses p, pars_use ps)

-- names that are listed, and those in their dimensions
declareds_use : (ds : List Declared) → length ds + length (uses_of_sizes ds) ≡ total of_declared ds
declareds_use [] = refl
declareds_use (d ∷ ds) = omega (arith, length-append (flat_map uses_of_par d.sizes) (uses_of_sizes ds), pars_use d.sizes, declareds_use ds)

-- names that are listed in common blocks
listed_length : (d : Declared) → length (names_used (uses_of_listed d)) ≤ of_declared d
listed_length d = omega (arith, length-map (flat_map uses_of_par d.sizes) (λ (u : Usage). u.name), pars_use d.sizes)

area_length : (a : Area) → length (flat_map (λ d. names_used (uses_of_listed d)) a.list) ≤ of_area a
area_length a = omega (arith, length_flat_map (λ (d : Declared). names_used (uses_of_listed d)) a.list, total_more (λ d. length (names_used (uses_of_listed d))) of_declared a.list listed_length)

-- places
place_length : (e : Formula) → length (names_used (uses_of_target e)) ≤ of_formula e
place_length e = omega (arith, length-map (uses_of_target e) (λ (u : Usage). u.name), target_uses e)

places_length : (es : List Formula) → length (flat_map (λ e. names_used (uses_of_target e)) es) ≤ total of_formula es
places_length es = omega (arith, length_flat_map (λ (e : Formula). names_used (uses_of_target e)) es, total_more (λ e. length (names_used (uses_of_target e))) of_formula es place_length)

preset_length : (p : PresetPart) → length (flat_map (λ e. names_used (uses_of_target e)) p.places) ≤ of_preset p
preset_length p = places_length p.places

act_uses : (a : Act) → length (declared_in a) + length (uses_in a) + length (further_names a) ≤ of_act a
act_uses (Invoke x es) = omega (arith, length-map (uses_of_all es) (λ (u : Usage). u.name), formulas_use es)
act_uses (Common areas) =
    omega (arith, length_flat_map (λ (a : Area). flat_map (λ d. names_used (uses_of_listed d)) a.list) areas, total_more (λ (a : Area). length (flat_map (λ d. names_used (uses_of_listed d)) a.list)) of_area areas area_length)
act_uses (Equivalence groups) =
    omega (arith, length_flat_map (λ (g : List Formula). flat_map (λ e. names_used (uses_of_target e)) g) groups, total_more (λ (g : List Formula). length (flat_map (λ e. names_used (uses_of_target e)) g)) (total of_formula) groups places_length)
act_uses (Preset parts) =
    omega (arith, length_flat_map (λ (p : PresetPart). flat_map (λ e. names_used (uses_of_target e)) p.places) parts, total_more (λ (p : PresetPart). length (flat_map (λ e. names_used (uses_of_target e)) p.places)) of_preset parts preset_length)
act_uses (Assign x e) = omega (arith, length-append (uses_of_target x) (uses_of e), target_uses x, formula_uses e)
act_uses (Computed ls x) = omega arith
act_uses (Sign e l m k) = omega (arith, formula_uses e)
act_uses (When e a) = omega (arith, length-append (uses_of e) (uses_in a), formula_uses e, act_uses a)
act_uses (Loop l x a b c) = omega (arith, counting_uses x a b c)
act_uses (Read u l es) = omega (arith, length-append (uses_of_par u) (uses_of_entries es), par_uses u, entries_use es)
act_uses (Write u l es) = omega (arith, length-append (uses_of_par u) (uses_of_entries es), par_uses u, entries_use es)
act_uses (Typed t ds) = omega (arith, declareds_use ds)
act_uses (Dimension ds) = omega (arith, declareds_use ds)
act_uses _ = omega arith

act_names : (a : Act) → length (named_in a) ≤ of_act a
act_names a =
    omega (
      arith,
      length-append (map (λ d. d.name) (declared_in a)) (names_used (uses_in a) ++ further_names a),
      length-append (names_used (uses_in a)) (further_names a),
      length-map (declared_in a) (λ (d : Declared). d.name),
      length-map (uses_in a) (λ (u : Usage). u.name),
      act_uses a,
    )

-- ---- names in a part ----

abbrev of_form : Form → ℕ
of_form (Statement a) = of_act a
of_form (Condition e) = of_formula e
of_form (Selector e) = of_formula e
of_form (CaseList es second) = of_formulas es
of_form (ForHead a e b) = if_any of_act a + (if_any of_formula e + if_any of_act b)
of_form (DoHead x a b c) = of_counting a b c
of_form (ReturnHead e) = 1 + if_any of_formula e
of_form _ = 0

values_weigh : (es : Formulas) → total of_act (value_acts es) ≡ of_formulas es
values_weigh NoFormula = refl
values_weigh (AndFormula e es) = omega (arith, values_weigh es)

act_if_any_weighs : (a : Option Act) → total of_act (said_if_any a) ≡ if_any of_act a
act_if_any_weighs None = refl
act_if_any_weighs (Some a) = omega arith

condition_if_any_weighs : (e : Option Formula) → total of_act (condition_if_any e) ≡ if_any of_formula e
condition_if_any_weighs None = refl
condition_if_any_weighs (Some e) = omega arith

returned_weighs : (h : Header) (e : Formula) → of_act (returned_act h e) ≤ 1 + of_formula e
returned_weighs MainUnit e = omega arith
returned_weighs (SubUnit x ds) e = omega arith
returned_weighs (FuncUnit t x ds) e = omega arith
returned_weighs DataUnit e = omega arith

form_weighs : (h : Header) (f : Form) → total of_act (said_by h f) ≤ of_form f
form_weighs h (Statement a) = omega arith
form_weighs h (Condition e) = omega arith
form_weighs h (Selector e) = omega arith
form_weighs h (CaseList es second) = omega (arith, values_weigh es)
form_weighs h (ForHead a e b) =
    omega (arith, total_append of_act (said_if_any a) (condition_if_any e ++ said_if_any b), total_append of_act (condition_if_any e) (said_if_any b), act_if_any_weighs a, condition_if_any_weighs e, act_if_any_weighs b)
form_weighs h (DoHead x a b c) = omega arith
form_weighs h (ReturnHead None) = omega arith
form_weighs h (ReturnHead (Some e)) = omega (arith, returned_weighs h e)
form_weighs h _ = omega arith

said_weighs : (h : Header) (vs : List Part) → total of_act (said_in h vs) ≤ total (λ v. of_form v.form) vs
said_weighs h [] = omega arith
said_weighs h (v ∷ vs) = omega (arith, total_append of_act (said_by h v.form) (said_in h vs), form_weighs h v.form, said_weighs h vs)

-- ---- labels of parts ----

adding_length : (b : Bool) (l : ℕ) (ls : List ℕ) → length (if b then ls else (ls ++ l ∷ [])) ≤ 1 + length ls
adding_length true l ls = omega arith
adding_length false l ls = omega (arith, length-append ls (l ∷ []))

adding_if_length : (l : Option ℕ) (ls : List ℕ) → length (adding_if l ls) ≤ if_any one l + length ls
adding_if_length None ls = omega arith
adding_if_length (Some l) ls = adding_length (is_among ls l) l ls

own_labels_length : (vs : List Part) (ls : List ℕ) → length (own_labels vs ls) ≤ total (λ v. if_any one v.label) vs + length ls
own_labels_length [] ls = omega arith
own_labels_length (v ∷ vs) ls = omega (arith, own_labels_length vs (adding_if v.label ls), adding_if_length v.label ls)

-- ---- parts of a unit ----

abbrev of_part : Part → ℕ
of_part v = if_any one v.label + of_form v.form

both_weigh : (vs : List Part) → total (λ v. if_any one v.label) vs + total (λ v. of_form v.form) vs ≡ total of_part vs
both_weigh [] = refl
both_weigh (v ∷ vs) = omega (arith, both_weigh vs)

mark_weighs : (k : ℕ) (r : Labels) (l : Option ℕ) (p : Place) (vs : List Part) → total of_part (with_mark k r l p vs) ≡ if_any one l + total of_part vs
mark_weighs k r None p vs = omega arith
mark_weighs k r (Some l) p vs = omega arith

mutual
  command_weighs : (k : ℕ) (r : Labels) (l : Option ℕ) (c : Command) → total of_part (parts_of k r l c) + labels c ≤ if_any one l + of_command c
  command_weighs k r l (Empty p) = omega arith
  command_weighs k r l (Block p ss) = omega (arith, commands_weigh k (with_labels ss r) ss)
  command_weighs k r l (If p e c) = omega (arith, command_weighs k r None c)
  command_weighs k r l (IfElse p e c d) = omega (arith, total_append of_part (parts_of k r None c) (parts_of k r None d), command_weighs k r None c, command_weighs k r None d)
  command_weighs k r l (While p e c) = omega (arith, command_weighs (suc k) r None c)
  command_weighs k r l (For p a e b c) = omega (arith, command_weighs (suc k) r None c)
  command_weighs k r l (Repeat p c) = omega (arith, command_weighs (suc k) r None c)
  command_weighs k r l (RepeatUntil p c e q) = omega (arith, total_append of_part (parts_of (suc k) r None c) (part k r None q (Condition e) ∷ []), command_weighs (suc k) r None c)
  command_weighs k r l (Do p x a b d c) = omega (arith, command_weighs (suc k) r None c)
  command_weighs k r l (Switch p e cs) = omega (arith, clauses_weigh k r false cs)
  command_weighs k r l (Break p n) = omega arith
  command_weighs k r l (Next p n) = omega arith
  command_weighs k r l (Return p e) = omega arith
  command_weighs k r l (Plain m p a) = omega (arith, mark_weighs k r l p (part k r m p (Statement a) ∷ []))
  command_weighs k r l (Labelled m p c) = omega (arith, mark_weighs k r l p (parts_of k r (Some m) c), command_weighs k r (Some m) c)

  commands_weigh : (k : ℕ) (r : Labels) (ss : Commands) → total of_part (parts_in k r ss) + all_labels ss ≤ of_commands ss
  commands_weigh k r NoCommand = omega arith
  commands_weigh k r (AndCommand c ss) = omega (arith, total_append of_part (parts_of k r None c) (parts_in k r ss), command_weighs k r None c, commands_weigh k r ss)

  clauses_weigh : (k : ℕ) (r : Labels) (seen : Bool) (cs : Clauses) → total of_part (clause_parts k r seen cs) + clause_labels cs ≤ of_clauses cs
  clauses_weigh k r seen NoClause = omega arith
  clauses_weigh k r seen (AndClause es fallback ss p cs) =
      omega (arith, total_append of_part (parts_in k (with_labels ss r) ss) (clause_parts k r (seen || fallback) cs), commands_weigh k (with_labels ss r) ss, clauses_weigh k r (seen || fallback) cs)

-- ---- units ----

pub unit_weighs : (h : Header) (ss : Commands) → label_count ss + length (names_of h ss) ≤ of_commands ss
unit_weighs h ss =
    let vs : List Part = unit_parts ss in
    omega (arith, own_labels_length vs [], length_flat_map named_in (said_in h vs), total_more (λ a. length (named_in a)) of_act (said_in h vs) act_names, said_weighs h vs, both_weigh vs, commands_weigh 0 (with_labels ss no_label) ss)
