-- The unit that a unit without a fault becomes is sound: what its source says breaks no rule of names in it.
use Rattle.std.proofs.Common.{◌≡◌, ◌≢◌, ℕ, zero, suc, ◌+◌, ◌<◌, Bool, true, false, true≢false, List, [], ◌∷◌, ◌++◌, length, Option, Some, None, refl, sym, ap, ◌∙◌, subst, arith}
use Rattle.std.specs.Prelude.{not, ◌&&◌, ◌||◌, map, if◌then◌else◌}
use Rattle.std.specs.List.{slice_get, list_any}
use Rattle.std.specs.Option.{option_or}
use Rattle.std.specs.Str.{bytes_eq}
use Rattle.std.proofs.lemmas.Bool.{or_from, or_parts}
use Rattle.std.proofs.lemmas.Slice.Eq.{bytes_eq-Decides}
use Rattle.ground.specs.declared.place.Place.{Place}
use Rattle.rule_table.specs.Words.{find_map, is_some_and}
use Rattle.rule_table.specs.declared.rule.Rule.{Rule}
use Rattle.rule_table.specs.declared.rule.Rule.TheVariants.{Syntax, NameTooLong, OutOfProfileType, DuplicateName}
use Rattle.f66_tree.specs.declared.declaration.TypeWord.{TypeWord}
use Rattle.f66_tree.specs.declared.declaration.TypeWord.TheVariants.{Integer, Other}
use Rattle.f66_tree.specs.Syntax.{Text, Formula, Par, Header, MainUnit, SubUnit, FuncUnit, DataUnit, Act, Typed, Common, Line, Routine}
use Rattle.f66_tree.specs.Units.{is_main, name_of, is_note, Note, Context, notes_of, sizes_of, type_in, by_letter, by_header, kind_by, kind_of}
use Rattle.f66_tree.specs.Evaluation.{AnIntrinsic, Intrinsic, known, intrinsics, array_or}
use Rattle.name_alloc.specs.Numbers.{next_number}
use Rattle.name_alloc.specs.MadeNames.{made_name, unused, keeping_all}
use Rattle.name_alloc.proofs.KeptNames.{kept_letter}
use Rattle.f66_names.specs.Shapes.{is_name}
use Rattle.f66_names.specs.Sorts.{form_by, given_by, type_of, is_other, is_foreign, is_real_by_letter, is_array_form, is_array_name}
use Rattle.f66_names.specs.Declaring.{noted, context_by, declared_in, type_given}
use Rattle.f66_names.specs.NameRules.{redeclares}
use Rattle.f66_flow.specs.FlowRules.{breaks_flow, header_breaks_flow}
use Rattle.f66_flow.specs.declared.scope.Scope.TheVariants.{Whole}
use Rattle.unit_rules.specs.Heads.{header_values, gives_other, declares_own, breaks_header}
use Rattle.unit_rules.specs.Roles.{role_in, mixes_roles}
use Rattle.unit_rules.specs.Storage.{block_in, lists_again}
use Rattle.unit_rules.specs.UnitRules.{breaks_rule}
use Rattle.f66_soundness.specs.SoundUnits.{acts_in_unit}
use Rattle.f66_check.specs.UnitChecks.{breaks_statement, breaks_unit}
use Rattle.f66_check.specs.Answers.{IsSoundUnit}
use Rattle.rat_tree.specs.Syntax.{Commands, RatRoutine}
use Rattle.rat_check.specs.Parts.{Form, Bare, RepeatHead, Statement, Condition, Selector, CaseList, ForHead, DoHead, LoopExit, ReturnHead, Part, unit_parts}
use Rattle.rat_check.specs.Said.{said_by, said_in, returned_act}
use Rattle.rat_check.specs.Rules.{is_ratfor, nothing_before, UnitRules}
use Rattle.rat_check.specs.FirstFault.{unit_whole}
use Rattle.rat_check.proofs.CleanLemmas.{Passed}
use Rattle.rat_check.proofs.SaidLemmas.{AllRight, said_right}
use Rattle.rat_lower.specs.Code.{have_switch, all_code, ends_itself, end_unless, declared_if, unit_code}
use Rattle.rat_lower.specs.Emitted.{unit_names, spare_name}
use Rattle.rat_lower.proofs.Soundness.FlowRules.{KeepsFlow}
use Rattle.rat_lower.proofs.Accepted.NoFault.{AllFine, AllOf, of_weaker, values_so, prepared_so}
use Rattle.rat_lower.proofs.Accepted.ActNames.{AllDeclared, AllNamed}
use Rattle.rat_lower.proofs.Accepted.PartNotes.{form_note, part_notes, unit_notes}
use Rattle.rat_lower.proofs.Simulation.Notes.{notes_ended}
use Rattle.rat_lower.proofs.Soundness.Kept.{AllSay, KeepsValues, good_unit}
use Rattle.rat_lower.proofs.Soundness.Roles.{IsUnmixed, unmixed_keeps, unmixed_values, source_unmixed, unit_unmixed, none_in}
use Rattle.rat_lower.proofs.Soundness.Redeclared.{Anew, anew_of, anew_at, repeated, declarations, declarations_anew, anew_declarations, of_declarations, declaration, anew_behind, never_itself}
use Rattle.rat_lower.proofs.Soundness.SpareNames.{made_is_name, IsApart, untyped, none_sized, unsaid}
use Rattle.rat_lower.proofs.Soundness.Lines.{IsCleanAct, clean_alone, clean_at, clean_alike, IsScalar, return_clean, clean_keeps, clean_values, declaration_clean}
use Rattle.rat_lower.proofs.Checks.{fine, says, header_apart, named}

-- ---- the statements that are not executed ----

abbrev stripped : List Note → List Note
stripped notes = map (λ n. record { label = None; act = n.act }) notes

noted_lines : (code : List Line) → noted (acts_in_unit code) ≡ stripped (notes_of code)
noted_lines [] = refl
noted_lines (s ∷ rest) = by (is_note s.act) (noted_lines rest)
  where
    by : (v : Bool) → noted (acts_in_unit rest) ≡ stripped (notes_of rest) →
        (if v then (record { label = None; act = s.act } ∷ noted (acts_in_unit rest)) else noted (acts_in_unit rest)) ≡ stripped (if v then (record { label = s.label; act = s.act } ∷ notes_of rest) else notes_of rest)
    by true h = ap (λ ns. record { label = None; act = s.act } ∷ ns) h
    by false h = h

abbrev Runs : Act → Type 0
Runs a = is_note a ≡ false

noted_past : (xs more : List Act) → AllOf Runs xs → noted (xs ++ more) ≡ noted more
noted_past [] more h = refl
noted_past (x ∷ xs) more h = ap (λ b. if b then (record { label = None; act = x } ∷ noted (xs ++ more)) else noted (xs ++ more)) h.0 ∙ noted_past xs more h.1

noted_act : (v : Bool) (l : Option ℕ) (a : Act) (more : List Act) (rest : List Note) → noted more ≡ stripped rest →
    (if v then (record { label = None; act = a } ∷ noted more) else noted more) ≡ stripped (if v then (record { label = l; act = a } ∷ rest) else rest)
noted_act true l a more rest e = ap (λ ns. record { label = None; act = a } ∷ ns) e
noted_act false l a more rest e = e

-- what is returned is none
noted_return : (h : Header) (f : Formula) (more : List Act) → noted (returned_act h f ∷ more) ≡ noted more
noted_return MainUnit f more = refl
noted_return (SubUnit x ds) f more = refl
noted_return (FuncUnit t x ds) f more = refl
noted_return DataUnit f more = refl

noted_form : (h : Header) (l : Option ℕ) (form : Form) (more : List Act) (rest : List Note) → is_ratfor form ≡ true → noted more ≡ stripped rest → noted (said_by h form ++ more) ≡ stripped (form_note l form rest)
noted_form h l Bare more rest is e = e
noted_form h l RepeatHead more rest is e = e
noted_form h l (Statement a) more rest is e = noted_act (is_note a) l a more rest e
noted_form h l (Condition f) more rest is e = e
noted_form h l (Selector f) more rest is e = e
noted_form h l (CaseList es second) more rest is e = noted_past (said_by h (CaseList es second)) more (values_so Runs (λ f. refl) es) ∙ e
noted_form h l (ForHead a f b) more rest is e = noted_past (said_by h (ForHead a f b)) more (prepared_so Runs (λ x g. refl) (λ x es. refl) (λ g. refl) a f b is) ∙ e
noted_form h l (DoHead x a b c) more rest is e = e
noted_form h l (LoopExit n) more rest is e = e
noted_form h l (ReturnHead None) more rest is e = e
noted_form h l (ReturnHead (Some f)) more rest is e = noted_return h f more ∙ e

noted_said : (u : UnitRules) (vs : List Part) → AllFine u vs → noted (said_in u.context.header vs) ≡ stripped (part_notes vs [])
noted_said u [] h = refl
noted_said u (v ∷ vs) h = noted_form u.context.header v.label v.form (said_in u.context.header vs) (part_notes vs []) h.0.ratfor (noted_said u vs h.1)

no_array : (es : List (Text × Intrinsic)) (q : Text) → is_array_form (form_by (known es q)) ≡ false
no_array [] q = refl
no_array (e ∷ es) q = by (bytes_eq e.0 q) (no_array es q)
  where
    by : (v : Bool) → is_array_form (form_by (known es q)) ≡ false → is_array_form (form_by (if v then AnIntrinsic e.1 else known es q)) ≡ false
    by true h = refl
    by false h = h

-- ---- lists of statements ----

acts_so : (Good : Act → Type 0) (lines : List Line) → AllSay Good lines → AllOf Good (acts_in_unit lines)
acts_so Good [] h = tt
acts_so Good (s ∷ rest) h = (h.0, acts_so Good rest h.1)

of_at : (Good : Act → Type 0) (acts : List Act) (i : ℕ) (a : Act) → AllOf Good acts → slice_get acts i ≡ Some a → Good a
of_at Good [] i a h e = absurd (cc)
of_at Good (x ∷ rest) zero a h e = let same : x ≡ a = cc in subst Good same h.0
of_at Good (x ∷ rest) (suc i) a h e = of_at Good rest i a h.1 e

get_act : (code : List Line) (i : ℕ) (s : Line) → slice_get code i ≡ Some s → slice_get (acts_in_unit code) i ≡ Some s.act
get_act [] i s e = absurd (cc)
get_act (x ∷ rest) zero s e = let same : x ≡ s = cc in ap (λ (y : Line). Some y.act) same
get_act (x ∷ rest) (suc i) s e = get_act rest i s e

-- what statements give that are not executed, their declarations give
find_declared : {V : Type 0} (f : Act → Option V) → ((a : Act) → is_note a ≡ false → f a ≡ None) → (acts : List Act) → find_map f acts ≡ find_map f (declarations acts)
find_declared f none [] = refl
find_declared f none (a ∷ rest) = by (is_note a) refl (find_declared f none rest)
  where
    by : (v : Bool) → is_note a ≡ v → find_map f rest ≡ find_map f (declarations rest) →
        option_or (f a) (find_map f rest) ≡ find_map f (map (λ (n : Note). n.act) (if v then (record { label = None; act = a } ∷ noted rest) else noted rest))
    by true e h = ap (option_or (f a)) h
    by false e h = ap (λ o. option_or o (find_map f rest)) (none a e) ∙ h

no_block : (x : Text) (a : Act) → is_note a ≡ false → block_in x a ≡ None
no_block x (Common areas) e = absurd (true≢false e)
no_block x _ e = refl

no_type : (x : Text) (a : Act) → is_note a ≡ false → type_given x a ≡ None
no_type x (Typed t ds) e = absurd (true≢false e)
no_type x _ e = refl

-- ---- what the source says ----

clean_said : (c : Context) (said : List Act) (n : ℕ) (acts : List Act) → AllRight c said n acts → AllOf (IsCleanAct c said) acts
clean_said c said n [] h = tt
clean_said c said n (a ∷ rest) h = (clean_alone c said n a h.0, clean_said c said (n + 1) rest h.1)

unmixed_said : (c : Context) (said : List Act) (n : ℕ) (acts : List Act) → AllRight c said n acts → AllOf (λ a. mixes_roles c said a ≡ false) acts
unmixed_said c said n [] h = tt
unmixed_said c said n (a ∷ rest) h =
    let own = declares_own c.header a || mixes_roles c said a in
    let once = or_parts (redeclares said n a) (lists_again c said n a || own) (h.0 DuplicateName) in
    let listed = or_parts (lists_again c said n a) own once.1 in
    ((or_parts (declares_own c.header a) (mixes_roles c said a) listed.1).1, unmixed_said c said (n + 1) rest h.1)

-- ---- the unit ----

module _ (unit : RatRoutine) (accepted : Passed unit.header (unit_parts unit.body)) (few : length (unit_names unit) < 99999) (made : ℕ → ℕ) (last : Place) where
  abbrev h : Header
  h = unit.header

  abbrev ss : Commands
  ss = unit.body

  abbrev q : Text
  q = spare_name unit

  abbrev vs : List Part
  vs = unit_parts ss

  abbrev rules : UnitRules
  rules = unit_whole h vs

  abbrev said : List Act
  said = said_in h vs

  abbrev m : List Note
  m = noted said

  abbrev c : Context
  c = context_by h said

  abbrev own : Text
  own = name_of h

  abbrev added : Bool
  added = ends_itself h (all_code made q own ss 0 [] [])

  abbrev code1 : List Line
  code1 = all_code made q own ss 0 [] (end_unless (is_main h) added last)

  abbrev lines_by : Bool → List Line
  lines_by v = declared_if v unit.place q code1

  abbrev acts_by : Bool → List Act
  acts_by v = acts_in_unit (lines_by v)

  abbrev n : Bool → List Note
  n v = noted (acts_by v)

  abbrev d : Bool → Context
  d v = context_by h (acts_by v)

  others : AllOf (AllNamed (λ x. x ≢ q)) said
  others = named unit accepted few

  head_apart : IsApart q h
  head_apart = header_apart unit accepted few

  right : AllRight c said 0 said
  right = said_right rules nothing_before vs accepted.keep

  -- ---- names mean the same ----

  same_notes : noted (acts_in_unit code1) ≡ m
  same_notes =
      noted_lines code1 ∙ ap stripped (notes_ended made q own ss (is_main h) added last ∙ unit_notes rules ss (fine h ss accepted)) ∙ sym (noted_said rules vs (fine h ss accepted))

  either_way : (w : Bool) (rest : List Par) → (if w then rest else rest) ≡ rest
  either_way true rest = refl
  either_way false rest = refl

  pub same_sizes : (v : Bool) (x : Text) → sizes_of x (n v) ≡ sizes_of x m
  same_sizes true x = either_way (bytes_eq x q) (sizes_of x (noted (acts_in_unit code1))) ∙ ap (sizes_of x) same_notes
  same_sizes false x = ap (sizes_of x) same_notes

  -- with whatever type where none is declared
  typed_alike : (v : Bool) (unsaid : TypeWord) (x : Text) → x ≢ q → type_in x (n v) unsaid ≡ type_in x m unsaid
  typed_alike true unsaid x other = ap (λ b. if b || false then Integer else type_in x (noted (acts_in_unit code1)) unsaid) (never_itself x q other) ∙ ap (λ ns. type_in x ns unsaid) same_notes
  typed_alike false unsaid x other = ap (λ ns. type_in x ns unsaid) same_notes

  itself : bytes_eq q q ≡ true
  itself = (bytes_eq-Decides q q).1 refl

  typed_integer : (unsaid : TypeWord) → type_in q (n true) unsaid ≡ Integer
  typed_integer unsaid = ap (λ b. if b || false then Integer else type_in q (noted (acts_in_unit code1)) unsaid) itself

  -- it begins with a Z
  real : by_letter q ≡ Other
  real = ap (λ l. by_letter (made_name l (next_number (keeping_all (unit_names unit) unused).numbers))) (kept_letter (unit_names unit) unused)

  untyped_spare : (w : TypeWord) → type_in q m w ≡ w
  untyped_spare w = untyped q said w others

  either : {A : Type 0} (x : Text) → (x ≡ q → A) → (x ≢ q → A) → A
  either {A = A} x there else_where = by (bytes_eq x q) refl
    where
      by : (v : Bool) → bytes_eq x q ≡ v → A
      by true e = there ((bytes_eq-Decides x q).0 e)
      by false e = else_where (λ same. true≢false (sym ((bytes_eq-Decides x q).1 same) ∙ e))

  spare_kind : (v : Bool) → kind_of (d v) q ≡ kind_of c q
  spare_kind true = ap kind_by (typed_integer (by_header q h)) ∙ sym (ap kind_by (untyped_spare (by_header q h) ∙ head_apart.letter ∙ real))
  spare_kind false = ap (λ ns. kind_by (type_in q ns (by_header q h))) same_notes

  same_kinds : (v : Bool) (x : Text) → kind_of (d v) x ≡ kind_of c x
  same_kinds v x = either x (λ same. subst (λ y. kind_of (d v) y ≡ kind_of c y) (sym same) (spare_kind v)) (λ other. ap kind_by (typed_alike v (by_header x h) x other))

  spare_foreign : (v : Bool) → is_foreign (d v) q ≡ is_foreign c q
  spare_foreign true = ap is_other (typed_integer (given_by q h)) ∙ sym (ap is_other (untyped_spare (given_by q h) ∙ head_apart.given))
  spare_foreign false = ap (λ ns. is_other (type_in q ns (given_by q h))) same_notes

  same_foreign : (v : Bool) (x : Text) → is_foreign (d v) x ≡ is_foreign c x
  same_foreign v x = either x (λ same. subst (λ y. is_foreign (d v) y ≡ is_foreign c y) (sym same) (spare_foreign v)) (λ other. ap is_other (typed_alike v (given_by x h) x other))

  spare_letters : (v : Bool) → is_real_by_letter c q ≡ false → is_real_by_letter (d v) q ≡ false
  spare_letters true e = ap (λ t. is_other t && not (is_foreign (d true) q)) (typed_integer (by_header q h))
  spare_letters false e = ap (λ ns. is_real_by_letter (record { header = h; notes = ns }) q) same_notes ∙ e

  same_letters : (v : Bool) (x : Text) → is_real_by_letter c x ≡ false → is_real_by_letter (d v) x ≡ false
  same_letters v x =
      either x (λ same. subst (λ y. is_real_by_letter c y ≡ false → is_real_by_letter (d v) y ≡ false) (sym same) (spare_letters v))
      (λ other e. ap (λ t. is_other t && not (is_foreign (d v) x)) (typed_alike v (by_header x h) x other) ∙ ap (λ b. is_other (type_of c x) && not b) (same_foreign v x) ∙ e)

  same_declarations : declarations (acts_in_unit code1) ≡ declarations said
  same_declarations = ap (map (λ (n : Note). n.act)) same_notes

  same_found : {V : Type 0} (f : Act → Option V) → ((a : Act) → is_note a ≡ false → f a ≡ None) → find_map f (acts_in_unit code1) ≡ find_map f said
  same_found f none = find_declared f none (acts_in_unit code1) ∙ ap (find_map f) same_declarations ∙ sym (find_declared f none said)

  same_blocks : (v : Bool) (x : Text) → find_map (block_in x) (acts_by v) ≡ find_map (block_in x) said
  same_blocks true x = same_found (block_in x) (no_block x)
  same_blocks false x = same_found (block_in x) (no_block x)

  same_given : (v : Bool) (x : Text) → x ≢ q → find_map (type_given x) (acts_by v) ≡ find_map (type_given x) said
  same_given true x other = ap (λ b. option_or (if b || false then Some Integer else None) (find_map (type_given x) (acts_in_unit code1))) (never_itself x q other) ∙ same_found (type_given x) (no_type x)
  same_given false x other = same_found (type_given x) (no_type x)

  -- ---- the spare name is an integer variable ----

  plain : (v : Bool) → is_array_name (d v) q ≡ false
  plain v = ap (λ ns. is_array_form (form_by (array_or ns q))) (same_sizes v q ∙ none_sized q said others) ∙ no_array intrinsics q

  scalar : IsScalar (d true) q
  scalar = record {
    named = ap (λ l. is_name (made_name l (next_number (keeping_all (unit_names unit) unused).numbers))) (kept_letter (unit_names unit) unused) ∙ made_is_name (next_number (keeping_all (unit_names unit) unused).numbers);
    short = refl;
    typed = ap (λ t. is_other t && not (is_foreign (d true) q)) (typed_integer (by_header q h));
    own = ap is_other (typed_integer (given_by q h));
    kind = ap kind_by (typed_integer (by_header q h));
    plain = plain true;
    unsettled = head_apart.unsettled;
  }

  values : (v : Bool) → have_switch ss ≡ v → have_switch ss ≡ true → KeepsValues (IsCleanAct (d v) (acts_by v)) q
  values true is e = clean_values (d true) (acts_by true) q scalar
  values false is e = absurd (true≢false (sym e ∙ is))

  -- ---- each statement breaks no rule ----

  clean_code1 : (v : Bool) → have_switch ss ≡ v → AllSay (IsCleanAct (d v) (acts_by v)) code1
  clean_code1 v is =
      good_unit (IsCleanAct (d v) (acts_by v)) made q own (clean_keeps (d v) (acts_by v)) ss (is_main h) added last (λ e. return_clean (d v) (acts_by v)) (values v is)
      (says h ss accepted (IsCleanAct (d v) (acts_by v)) (return_clean (d v) (acts_by v))
      (of_weaker (IsCleanAct (d v) (acts_by v)) (IsCleanAct c said) said (clean_alike h m (n v) said (acts_by v) (same_sizes v) (same_blocks v) (same_kinds v) (same_foreign v) (same_letters v)) (clean_said c said 0 said right)))

  clean_lines : (v : Bool) → have_switch ss ≡ v → AllSay (IsCleanAct (d v) (acts_by v)) (lines_by v)
  clean_lines true is = (declaration_clean (d true) (acts_by true) q scalar, clean_code1 true is)
  clean_lines false is = clean_code1 false is

  abbrev Unmixed : Bool → Act → Type 0
  Unmixed v = IsUnmixed h m (n v) (same_sizes v) said (acts_by v) q

  none_said : find_map (role_in c q) said ≡ None
  none_said = unsaid q c said others

  unmixed_code1 : (v : Bool) → AllSay (Unmixed v) code1
  unmixed_code1 v =
      good_unit (Unmixed v) made q own (unmixed_keeps h m (n v) (same_sizes v) said (acts_by v) q) ss (is_main h) added last (λ e. refl) (λ e. unmixed_values h m (n v) (same_sizes v) said (acts_by v) q)
      (says h ss accepted (Unmixed v) refl (of_weaker (Unmixed v) (λ a. mixes_roles c said a ≡ false) said (source_unmixed h m (n v) (same_sizes v) said (acts_by v) q head_apart.unheld none_said) (unmixed_said c said 0 said right)))

  unmixed_lines : (v : Bool) → AllSay (Unmixed v) (lines_by v)
  unmixed_lines true = (refl, unmixed_code1 true)
  unmixed_lines false = unmixed_code1 false

  unmixed_acts : (v : Bool) → AllOf (Unmixed v) (acts_by v)
  unmixed_acts v = acts_so (Unmixed v) (lines_by v) (unmixed_lines v)

  -- ---- nothing is declared again ----

  declared_others : AllOf (λ a. AllDeclared (λ x. x ≢ q) (declared_in a)) said
  declared_others = of_weaker (λ a. AllDeclared (λ x. x ≢ q) (declared_in a)) (AllNamed (λ x. x ≢ q)) said (λ a k. k.declared) others

  anew_said : Anew [] said
  anew_said = anew_of c [] said right

  all_anew : (v : Bool) → Anew [] (acts_by v)
  all_anew true =
      anew_declarations [] (acts_by true)
      (refl, subst (λ acts. Anew (declaration q ∷ []) acts) (sym same_declarations) (anew_behind q [] (declarations said) (of_declarations (λ a. AllDeclared (λ x. x ≢ q) (declared_in a)) said declared_others) (declarations_anew [] said anew_said)))
  all_anew false = anew_declarations [] (acts_by false) (subst (λ acts. Anew [] acts) (sym same_declarations) (declarations_anew [] said anew_said))

  lines_anew : (v : Bool) (i : ℕ) (a : Act) → slice_get (acts_by v) i ≡ Some a → repeated (acts_by v) i a ≡ false
  lines_anew v i a e =
      let there : 0 + i ≡ i = omega arith in
      subst (λ k. repeated (acts_by v) k a ≡ false) there (anew_at [] (acts_by v) i a (all_anew v) e)

  act_clean : (v : Bool) → have_switch ss ≡ v → (i : ℕ) (a : Act) → slice_get (acts_by v) i ≡ Some a → (k : Rule) → breaks_rule (d v) (acts_by v) i a k ≡ false
  act_clean v is i a e =
      clean_at (d v) (acts_by v) i a (of_at (IsCleanAct (d v) (acts_by v)) (acts_by v) i a (acts_so (IsCleanAct (d v) (acts_by v)) (lines_by v) (clean_lines v is)) e) (lines_anew v i a e)
      (unit_unmixed h m (n v) (same_sizes v) said (acts_by v) q head_apart.unheld (unmixed_acts v) (same_given v) a (of_at (Unmixed v) (acts_by v) i a (unmixed_acts v) e)
      (λ x unused. of_at (λ b. role_in c x b ≡ None) (acts_by v) i a (none_in (role_in c x) (acts_by v) unused) e))

  -- ---- the header ----

  values_none : (v : Bool) (xs : List Text) → list_any (is_real_by_letter c) xs ≡ false → list_any (is_real_by_letter (d v)) xs ≡ false
  values_none v [] e = refl
  values_none v (x ∷ xs) e = let k = or_parts (is_real_by_letter c x) _ e in or_from (is_real_by_letter (d v) x) _ (same_letters v x k.0) (values_none v xs k.1)

  header_clean : (v : Bool) (k : Rule) → breaks_header (d v) k ≡ false
  header_clean v Syntax = accepted.headed Syntax
  header_clean v NameTooLong = accepted.headed NameTooLong
  header_clean v OutOfProfileType = let k = or_parts (gives_other h) _ (accepted.headed OutOfProfileType) in or_from (gives_other h) _ k.0 (values_none v (header_values h) k.1)
  header_clean v DuplicateName = accepted.headed DuplicateName
  header_clean v _ = refl

  -- ---- the whole ----

  abbrev unit_by : Bool → Place → Routine
  unit_by v place = record { header = h; lines = lines_by v; place = place }

  line_clean : (v : Bool) → have_switch ss ≡ v → (i : ℕ) (o : Option Line) → slice_get (lines_by v) i ≡ o → (k : Rule) → is_some_and (λ s. breaks_flow Whole h (lines_by v) i s k) o ≡ false →
      is_some_and (λ s. breaks_statement Whole (d v) (acts_by v) (lines_by v) i s k) o ≡ false
  line_clean v is i None e k flow = refl
  line_clean v is i (Some s) e k flow = or_from (breaks_flow Whole h (lines_by v) i s k) _ flow (act_clean v is i s.act (get_act (lines_by v) i s e) k)

  sound_by : (v : Bool) → have_switch ss ≡ v → (place : Place) → KeepsFlow h (lines_by v) → IsSoundUnit (unit_by v place)
  sound_by v is place flow = record { clean = part }
    where
      part : (j : ℕ) (k : Rule) → breaks_unit Whole (unit_by v place) j k ≡ false
      part zero k = or_from (header_breaks_flow Whole h (lines_by v) k) _ (flow.header k) (header_clean v k)
      part (suc i) k = line_clean v is i (slice_get (lines_by v) i) refl k (flow.statements i k)

  pub unit_is_sound : (place : Place) → KeepsFlow h (unit_code made q h unit.place last ss) → IsSoundUnit (record { header = h; lines = unit_code made q h unit.place last ss; place = place })
  unit_is_sound place flow = sound_by (have_switch ss) refl place flow
