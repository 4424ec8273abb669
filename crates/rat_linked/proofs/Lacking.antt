-- A name that is none of a unit's names is none in the statements that say what the unit says.
use Rattle.std.proofs.Common.{◌≡◌, ◌≢◌, inl, inr, Bool, true, false, true≢false, List, [], ◌∷◌, ◌++◌, map, Option, None, Some, refl, sym, ◌∙◌, subst}
use Rattle.std.specs.Prelude.{◌||◌, ⊤}
use Rattle.std.specs.List.{flat_map, list_any}
use Rattle.std.specs.Str.{bytes_eq}
use Rattle.std.proofs.lemmas.Bool.{or_parts}
use Rattle.std.proofs.lemmas.List.Concat.{flat_map-append}
use Rattle.std.proofs.lemmas.List.Folds.{list_any-append}
use Rattle.f66_tree.specs.Syntax.{Text, Formula, Int, Truth, Letter, Ref, Item, Group, Plus, Minus, Not, Pair, Formulas, NoFormula, AndFormula, Par, Constant, Named, Declared, Area, Entry, One, Many, Entries, NoEntry, AndEntry, Header, MainUnit, SubUnit, FuncUnit, DataUnit, Act, Assign, Computed, Sign, When, Loop, Invoke, Continue, Read, Write, Typed, Dimension, Common, Equivalence, Preset, Line}
use Rattle.f66_tree.specs.Units.{Context, name_of}
use Rattle.f66_tree.specs.Evaluation.{sort_of}
use Rattle.f66_names.specs.Uses.{Usage, uses_of, uses_of_all, uses_of_target, uses_of_par, uses_of_counting, uses_of_entry, uses_of_entries, uses_of_sizes, uses_in}
use Rattle.f66_program.specs.Mentions.{Mention, AVariable, ACall, applied, mentions_of, mentions_of_all, mentions_of_par, mentions_of_counting, mentions_of_entry, mentions_of_entries, mentions_of_sizes, mentions_in, is_dummy, declares}
use Rattle.unit_rules.specs.Listed.{uses_of_listed}
use Rattle.rat_tree.specs.Syntax.{RatRoutine}
use Rattle.rat_check.specs.Parts.{Form, Bare, RepeatHead, Statement, Condition, Selector, CaseList, ForHead, DoHead, LoopExit, ReturnHead, Part, unit_parts}
use Rattle.rat_check.specs.Said.{said_by, said_in}
use Rattle.rat_check.specs.Rules.{is_plain, is_ratfor, nothing_before, UnitRules}
use Rattle.rat_check.specs.FirstFault.{unit_whole, unit_fault}
use Rattle.rat_check.proofs.CleanLemmas.{passed}
use Rattle.rat_lower.specs.Emitted.{names_of, header_names, unit_names}
use Rattle.rat_lower.proofs.Accepted.NoFault.{AllParts, AllFine, all_fine, AllOf, SaysSo, of_weaker, of_both, said_so, values_so, prepared_so}
use Rattle.rat_lower.proofs.Accepted.ActNames.{AllUsed, AllDeclared, AllNamed, used_split, lacking_parts, all_lacking}
use Rattle.rat_said.specs.Said.{or_continue, said_line, part_lines, said_lines, said_routine}
use Rattle.spared_units.specs.Spared.{mentions_of_lines, mention_name, Lacks}
use Rattle.spared_units.proofs.Among.{Among, among, split, of_some, passing}
use Rattle.spared_units.proofs.CallKinds.{applied_name, not_same}

-- ---- a statement mentions what it uses and lists ----

-- the statement of a logical IF says nothing of names
abbrev Fit : Act → Type 0
Fit (When e a) = a ≡ Continue
Fit _ = ⊤

module _ (K : Text → Type 0) (c : Context) where
  abbrev Heard : List Mention → Type 0
  Heard ms = (m : Mention) → Among ms m → K (mention_name m)

  nothing : Heard []
  nothing m k = absurd k

  one : (n : Mention) (ms : List Mention) → K (mention_name n) → Heard ms → Heard (n ∷ ms)
  one n ms k g m (inl e) = subst (λ q. K (mention_name q)) e k
  one n ms k g m (inr i) = g m i

  join : (xs ys : List Mention) → Heard xs → Heard ys → Heard (xs ++ ys)
  join xs ys f g m k = elim (split xs ys m k) [ inl a ↦ f m a | inr b ↦ g m b ]

  each : {X : Type 0} (f : X → List Usage) (g : X → List Mention) → ((x : X) → AllUsed K (f x) → Heard (g x)) → (xs : List X) → AllUsed K (flat_map f xs) → Heard (flat_map g xs)
  each f g h [] k = nothing
  each f g h (x ∷ xs) k = let q = used_split K (f x) (flat_map f xs) k in join (g x) (flat_map g xs) (h x q.0) (each f g h xs q.1)

  parts : {X : Type 0} (f : X → List Usage) (xs ys : List X) → AllUsed K (flat_map f (xs ++ ys)) → AllUsed K (flat_map f xs) × AllUsed K (flat_map f ys)
  parts f xs ys h = used_split K (flat_map f xs) (flat_map f ys) (subst (AllUsed K) (flat_map-append f xs ys) h)

  mutual
    formula : (e : Formula) → AllUsed K (uses_of e) → Heard (mentions_of c e)
    formula (Int z) h = nothing
    formula (Truth b) h = nothing
    formula (Letter k) h = nothing
    formula (Ref x) h = one (AVariable x) [] h.0 nothing
    formula (Item x es) h = one (applied x es (sort_of c x)) (mentions_of_all c es) (subst K (sym (applied_name x es (sort_of c x))) h.0) (all es h.1)
    formula (Group a) h = formula a h
    formula (Plus a) h = formula a h
    formula (Minus a) h = formula a h
    formula (Not a) h = formula a h
    formula (Pair op a b) h = let k = used_split K (uses_of a) (uses_of b) h in join (mentions_of c a) (mentions_of c b) (formula a k.0) (formula b k.1)

    all : (es : Formulas) → AllUsed K (uses_of_all es) → Heard (mentions_of_all c es)
    all NoFormula h = nothing
    all (AndFormula e es) h = let k = used_split K (uses_of e) (uses_of_all es) h in join (mentions_of c e) (mentions_of_all c es) (formula e k.0) (all es k.1)

  target : (e : Formula) → AllUsed K (uses_of_target e) → Heard (mentions_of c e)
  target (Int z) h = nothing
  target (Truth b) h = nothing
  target (Letter k) h = nothing
  target (Ref x) h = formula (Ref x) h
  target (Item x es) h = one (applied x es (sort_of c x)) (mentions_of_all c es) (subst K (sym (applied_name x es (sort_of c x))) h.0) (all es h.1)
  target (Group a) h = formula a h
  target (Plus a) h = formula a h
  target (Minus a) h = formula a h
  target (Not a) h = formula a h
  target (Pair op a b) h = formula (Pair op a b) h

  par : (a : Par) → AllUsed K (uses_of_par a) → Heard (mentions_of_par a)
  par (Constant z) h = nothing
  par (Named x) h = one (AVariable x) [] h.0 nothing

  counting : (x : Text) (i j d : Par) → AllUsed K (uses_of_counting x i j d) → Heard (mentions_of_counting x i j d)
  counting x i j d h =
      let k = used_split K (uses_of_par i) (uses_of_par j ++ uses_of_par d) h.1 in
      let q = used_split K (uses_of_par j) (uses_of_par d) k.1 in
      one (AVariable x) _ h.0 (join (mentions_of_par i) (mentions_of_par j ++ mentions_of_par d) (par i k.0) (join (mentions_of_par j) (mentions_of_par d) (par j q.0) (par d q.1)))

  mutual
    entry : (e : Entry) → AllUsed K (uses_of_entry e) → Heard (mentions_of_entry c e)
    entry (One e) h = target e h
    entry (Many es x i j d) h = let k = used_split K (uses_of_entries es) (uses_of_counting x i j d) h in join (mentions_of_entries c es) (mentions_of_counting x i j d) (entries es k.0) (counting x i j d k.1)

    entries : (es : Entries) → AllUsed K (uses_of_entries es) → Heard (mentions_of_entries c es)
    entries NoEntry h = nothing
    entries (AndEntry e es) h = let k = used_split K (uses_of_entry e) (uses_of_entries es) h in join (mentions_of_entry c e) (mentions_of_entries c es) (entry e k.0) (entries es k.1)

  listed : (u : Par) (es : Entries) → AllUsed K (uses_of_par u ++ uses_of_entries es) → Heard (mentions_of_par u ++ mentions_of_entries c es)
  listed u es h = let k = used_split K (uses_of_par u) (uses_of_entries es) h in join (mentions_of_par u) (mentions_of_entries c es) (par u k.0) (entries es k.1)

  pars : (ns : List Par) → AllUsed K (flat_map uses_of_par ns) → Heard (flat_map mentions_of_par ns)
  pars ns h = each uses_of_par mentions_of_par par ns h

  sizes : (ds : List Declared) → AllUsed K (uses_of_sizes ds) → Heard (mentions_of_sizes ds)
  sizes ds h = each (λ d. flat_map uses_of_par d.sizes) (λ d. flat_map mentions_of_par d.sizes) (λ d k. pars d.sizes k) ds h

  shared : (ds : List Declared) → AllUsed K (flat_map uses_of_listed ds) → Heard (map (λ d. AVariable d.name) ds)
  shared [] h = nothing
  shared (d ∷ ds) h = let k = used_split K (uses_of_listed d) (flat_map uses_of_listed ds) h in one (AVariable d.name) (map (λ d. AVariable d.name) ds) k.0.0 (shared ds k.1)

  shared_sizes : (ds : List Declared) → AllUsed K (flat_map uses_of_listed ds) → Heard (mentions_of_sizes ds)
  shared_sizes ds h = each uses_of_listed (λ d. flat_map mentions_of_par d.sizes) (λ d k. pars d.sizes k.1) ds h

  abbrev of_area : Area → List Mention
  of_area a = map (λ d. AVariable d.name) a.list ++ mentions_of_sizes a.list

  areas : (all : List Area) → AllUsed K (flat_map uses_of_listed (flat_map (λ a. a.list) all)) → Heard (flat_map of_area all)
  areas [] h = nothing
  areas (a ∷ all) h =
      let k = parts uses_of_listed a.list (flat_map (λ b. b.list) all) h in
      join (of_area a) (flat_map of_area all) (join (map (λ d. AVariable d.name) a.list) (mentions_of_sizes a.list) (shared a.list k.0) (shared_sizes a.list k.0)) (areas all k.1)

  grouped : {Y : Type 0} (g : Y → List Formula) (ys : List Y) → AllUsed K (flat_map uses_of_target (flat_map g ys)) → Heard (flat_map (λ y. flat_map (mentions_of c) (g y)) ys)
  grouped g [] h = nothing
  grouped g (y ∷ ys) h =
      let k = parts uses_of_target (g y) (flat_map g ys) h in
      join (flat_map (mentions_of c) (g y)) (flat_map (λ y. flat_map (mentions_of c) (g y)) ys) (each uses_of_target (mentions_of c) target (g y) k.0) (grouped g ys k.1)

  act : (a : Act) → Fit a → AllNamed K a → Heard (mentions_in c a)
  act (Assign x e) f n = let k = used_split K (uses_of_target x) (uses_of e) n.used in join (mentions_of c x) (mentions_of c e) (target x k.0) (formula e k.1)
  act (Computed ls x) f n = one (AVariable x) [] n.used.0 nothing
  act (Sign e l m k) f n = formula e n.used
  act (When e a) f n = let k = used_split K (uses_of e) (uses_in a) n.used in join (mentions_of c e) (mentions_in c a) (formula e k.0) (subst (λ b. Heard (mentions_in c b)) (sym f) nothing)
  act (Loop l x i j d) f n = counting x i j d n.used
  act (Invoke x es) f n = one (ACall true x es) (mentions_of_all c es) n.called (all es n.passed)
  act (Read u l es) f n = listed u es n.used
  act (Write u l es) f n = listed u es n.used
  act (Typed t ds) f n = sizes ds n.used
  act (Dimension ds) f n = sizes ds n.used
  act (Common all) f n = areas all n.common
  act (Equivalence groups) f n = grouped (λ g. g) groups n.equated
  act (Preset ps) f n = grouped (λ p. p.places) ps n.preset
  act _ f n = nothing

-- ---- what parts say ----

plain_fit : (a : Act) → is_plain a ≡ true → Fit a
plain_fit (When e a) r = absurd (true≢false (sym r))
plain_fit _ r = tt

returned_fit : (h : Header) (o : Option Formula) → AllOf Fit (said_by h (ReturnHead o))
returned_fit h None = tt
returned_fit MainUnit (Some e) = (tt, tt)
returned_fit (SubUnit x ds) (Some e) = (tt, tt)
returned_fit (FuncUnit t x ds) (Some e) = (tt, tt)
returned_fit DataUnit (Some e) = (tt, tt)

said_fit : (h : Header) (form : Form) → is_ratfor form ≡ true → AllOf Fit (said_by h form)
said_fit h Bare r = tt
said_fit h RepeatHead r = tt
said_fit h (Statement a) r = (plain_fit a r, tt)
said_fit h (Condition e) r = (refl, tt)
said_fit h (Selector e) r = (tt, tt)
said_fit h (CaseList es second) r = values_so Fit (λ e. tt) es
said_fit h (ForHead a e b) r = prepared_so Fit (λ x e. tt) (λ x es. tt) (λ e. refl) a e b r
said_fit h (DoHead x a b c) r = (tt, tt)
said_fit h (LoopExit n) r = tt
said_fit h (ReturnHead o) r = returned_fit h o

module _ (h : Header) (P : Act → Type 0) (continued : P Continue) where
  or_continued : (acts : List Act) → AllOf P acts → AllOf P (or_continue acts)
  or_continued [] k = (continued, tt)
  or_continued (a ∷ more) k = k

  in_part : (v : Part) (acts : List Act) (s : Line) → AllOf P acts → Among (map (said_line v) acts) s → P s.act
  in_part v [] s p k = absurd k
  in_part v (a ∷ acts) s p (inl e) = subst (λ (t : Line). P t.act) e p.0
  in_part v (a ∷ acts) s p (inr k) = in_part v acts s p.1 k

  one_part : (vs : List Part) (v : Part) → AllParts (SaysSo h P) vs → Among vs v → SaysSo h P v
  one_part [] v p k = absurd k
  one_part (w ∷ vs) v p (inl e) = subst (SaysSo h P) e p.0
  one_part (w ∷ vs) v p (inr k) = one_part vs v p.1 k

  -- what holds of all that the parts say, and of CONTINUE, holds of their lines
  each_line : (vs : List Part) → AllParts (SaysSo h P) vs → (s : Line) → Among (said_lines h vs) s → P s.act
  each_line vs p s i = let v = of_some (part_lines h) vs s i in in_part v.0 (or_continue (said_by h v.0.form)) s (or_continued (said_by h v.0.form) (one_part vs v.0 p v.1)) v.2

-- ---- a name that is not there ----

module _ (q : Text) where
  undeclared : (ds : List Declared) → AllDeclared (λ x. x ≢ q) ds → list_any (λ d. bytes_eq q d.name) ds ≡ false
  undeclared [] h = refl
  undeclared (d ∷ ds) h = neither (bytes_eq q d.name) (list_any (λ d. bytes_eq q d.name) ds) (not_same q d.name (λ e. h.0 (sym e))) (undeclared ds h.1)
    where
      neither : (a b : Bool) → a ≡ false → b ≡ false → (a || b) ≡ false
      neither true b e f = absurd (true≢false e)
      neither false b e f = f

  act_undeclared : (a : Act) → AllNamed (λ x. x ≢ q) a → declares q a ≡ false
  act_undeclared (Typed t ds) n = undeclared ds n.declared
  act_undeclared (Dimension ds) n = undeclared ds n.declared
  act_undeclared _ n = refl

  -- a statement declares and mentions other names
  abbrev IsOther : Act → Type 0
  IsOther a = (declares q a ≡ false) × ((c : Context) (m : Mention) → Among (mentions_in c a) m → mention_name m ≢ q)

  all_other : (h : Header) (u : UnitRules) (vs : List Part) → AllFine u vs → AllParts (SaysSo h (AllNamed (λ x. x ≢ q))) vs → AllParts (SaysSo h IsOther) vs
  all_other h u [] f n = tt
  all_other h u (v ∷ vs) f n = (
    of_weaker IsOther (λ a. Fit a × AllNamed (λ x. x ≢ q) a) (said_by h v.form) (λ a k. (act_undeclared a k.1, λ c. act (λ x. x ≢ q) c a k.0 k.1)) (of_both Fit (AllNamed (λ x. x ≢ q)) (said_by h v.form) (said_fit h v.form f.0.ratfor) n.0),
    all_other h u vs f.1 n.1,
  )

  no_dummy : (h : Header) → list_any (bytes_eq q) (header_names h) ≡ false → is_dummy q h ≡ false
  no_dummy MainUnit e = refl
  no_dummy (SubUnit x ds) e = (or_parts (bytes_eq q x) (list_any (bytes_eq q) ds) e).1
  no_dummy (FuncUnit t x ds) e = (or_parts (bytes_eq q x) (list_any (bytes_eq q) ds) e).1
  no_dummy DataUnit e = refl

  module _ (u : RatRoutine) (none : unit_fault u ≡ None) (own : name_of u.header ≢ q) (unnamed : list_any (bytes_eq q) (unit_names u) ≡ false) where
    abbrev vs : List Part
    vs = unit_parts u.body

    apart : (list_any (bytes_eq q) (header_names u.header) ≡ false) × (list_any (bytes_eq q) (names_of u.header u.body) ≡ false)
    apart = or_parts _ _ (sym (list_any-append (bytes_eq q) (header_names u.header) (names_of u.header u.body)) ∙ unnamed)

    other_lines : (s : Line) → Among (said_lines u.header vs) s → IsOther s.act
    other_lines =
        each_line u.header IsOther (refl, λ c m k. absurd k) vs
        (all_other u.header (unit_whole u.header vs) vs (all_fine (unit_whole u.header vs) nothing_before vs (passed u.header u.place vs none).keep)
        (said_so u.header (AllNamed (λ x. x ≢ q)) vs (of_weaker (AllNamed (λ x. x ≢ q)) _ (said_in u.header vs) (lacking_parts q) (all_lacking q (said_in u.header vs) apart.1))))

    none_declared : (b : Bool) → list_any (λ (s : Line). declares q s.act) (said_lines u.header vs) ≡ b → b ≡ false
    none_declared true e = let s = passing (λ (s : Line). declares q s.act) (said_lines u.header vs) e in absurd (true≢false (sym s.2 ∙ (other_lines s.0 s.1).0))
    none_declared false e = refl

    pub lacks_name : Lacks (said_routine u) q
    lacks_name = record {
      own = own;
      dummies = no_dummy u.header apart.0;
      declared = none_declared (list_any (λ (s : Line). declares q s.act) (said_lines u.header vs)) refl;
      mentioned = λ c m k. let s = of_some (λ s. mentions_in c s.act) (said_lines u.header vs) m (among (mentions_of_lines c (said_lines u.header vs)) m k) in (other_lines s.0 s.1).1 c m s.2;
    }
