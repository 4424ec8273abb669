-- The names of the unit of a procedure are known in it: each is of one class alone, variables and functions have their types, and intrinsic
-- functions are themselves.
use Rattle.std.proofs.Common.{◌≡◌, ℕ, ◌+◌, Bool, true, false, true≢false, List, [], ◌∷◌, ◌++◌, map, Option, None, Some, refl, sym, ap, ◌∙◌, subst, arith, if◌then◌else◌, ◌||◌, ◌&&◌, not}
use Rattle.std.specs.Prelude.{nat_eq, nat_le, is_none, is_some}
use Rattle.std.specs.List.{slice_get}
use Rattle.std.specs.Str.{bytes_eq}
use Rattle.std.proofs.lemmas.Bool.{and_parts, and_from, eq-eqb, le-leb}
use Rattle.std.proofs.lemmas.List.Folds.{list_any-append}
use Rattle.rule_table.specs.Words.{is_some_and}
use Rattle.ground.specs.declared.value.Kind.{Kind}
use Rattle.ground.specs.declared.value.Kind.TheVariants.{Integer, Logical}
use Rattle.f66_tree.specs.declared.declaration.TypeWord.{TypeWord}
use Rattle.f66_tree.specs.declared.declaration.TypeWord.TheVariants as words
use Rattle.f66_tree.specs.Syntax.{Text, Header}
use Rattle.f66_tree.specs.Units.{Context, sizes_of, by_letter, type_in, by_header, kind_by, kind_of}
use Rattle.f66_tree.specs.Evaluation.{Intrinsic, Iabs, Mod, Isign, Idim, Max0, Min0, AnIntrinsic, AFunction, known, intrinsics, array_or, sort_of}
use Rattle.f66_names.specs.declared.name_form.NameForm.TheVariants as forms
use Rattle.f66_names.specs.Sorts.{form_by, name_form, type_of, is_other, is_foreign, is_real_by_letter}
use Rattle.f66_names.proofs.ContextLemmas.{type_in-unlabelled, sizes_of-unlabelled}
use Rattle.f66_check.specs.CheckRules.{context_of}
use Rattle.unit_rules.specs.Roles.{role_held}
use Rattle.plain_units.specs.Plain.{name_of}
use Rattle.plain_units.specs.Known.{IsTyped, IsVariable, IsCalled, IsKnown, AreKnown}
use Rattle.efl_tree.specs.Syntax.{EflProcedure, EflProgram}
use Rattle.efl_scope.specs.Marks.{Located, program_variables}
use Rattle.efl_types.specs.Signatures.{result_of}
use Rattle.efl_typed.proofs.Each.{Each}
use Rattle.efl_routes.specs.Expressions.{intrinsic_name}
use Rattle.efl_lowered.specs.Naming.{Naming}
use Rattle.efl_lowered.specs.Lowering.{word_of, stands_in, variables_in, gives, calls, functions_in, temps_of, header_of, dummies, lines_of, unit_of}
use Rattle.efl_lowered.specs.Facts.{is_unit, is_named, gives_kind, has_value, is_function, has_scalar, has_variable, AreReady}
use Rattle.efl_lowered.specs.Names.{Name, OfVariable, OfTemporary, OfProcedure, OfIntrinsic, text_of, has_name, AreNames}
use Rattle.efl_lowered.proofs.Lists.{or_left, or_right, neither, and_some, not_among, not_among_range}
use Rattle.efl_lowered.proofs.UnitLemmas.{has_typed, unit_type, unit_sizes, unit_plain}
use Rattle.efl_lowered.proofs.Apart.{is_typed, is_kind, same_kind, typed_in, unlike, unit_kind, same_procedure, variable_no_procedure, variable_no_intrinsic, temporary_no_procedure, temporary_no_intrinsic, procedure_no_intrinsic}
use Rattle.efl_lowered.proofs.Seats.{dummy_free}
use Rattle.efl_plain.specs.Names.{IsVariableName, Home, Temporary, Own, IsFunctionName, IsProcedureName, AreShort}
use Rattle.efl_plain.proofs.Held.{unheld, held_variable, held_own, own_type, other_type}

-- ---- words and intrinsic functions ----

kind_word : (k : Kind) → kind_by (word_of k) ≡ k
kind_word Integer = refl
kind_word Logical = refl

word_inside : (k : Kind) → is_other (word_of k) ≡ false
word_inside Integer = refl
word_inside Logical = refl

-- a word of the profile that type statements give
given_inside : (a b : Bool) (w : TypeWord) → (a || b) ≡ true → is_other (if a then words.Integer else (if b then words.Logical else w)) ≡ false
given_inside true b w h = refl
given_inside false true w h = refl
given_inside false false w h = absurd (true≢false (sym h))

not_given : (a b : Bool) (w : TypeWord) → a ≡ false → b ≡ false → (if a then words.Integer else (if b then words.Logical else w)) ≡ w
not_given a b w h k = ap (λ c. if c then words.Integer else (if b then words.Logical else w)) h ∙ ap (λ c. if c then words.Logical else w) k

not_known : (es : List (Text × Intrinsic)) (x : Text) → Each (λ e. bytes_eq e.0 x ≡ false) es → known es x ≡ AFunction
not_known [] x h = refl
not_known (e ∷ es) x h = ap (λ b. if b then (AnIntrinsic e.1) else (known es x)) h.0 ∙ not_known es x h.1

same_name : (g : Intrinsic) → intrinsic_name g ≡ name_of g
same_name Iabs = refl
same_name Mod = refl
same_name Isign = refl
same_name Idim = refl
same_name Max0 = refl
same_name Min0 = refl

known_name : (g : Intrinsic) → known intrinsics (intrinsic_name g) ≡ AnIntrinsic g
known_name Iabs = refl
known_name Mod = refl
known_name Isign = refl
known_name Idim = refl
known_name Max0 = refl
known_name Min0 = refl

letter_of_name : (g : Intrinsic) → by_letter (intrinsic_name g) ≡ words.Integer
letter_of_name Iabs = refl
letter_of_name Mod = refl
letter_of_name Isign = refl
letter_of_name Idim = refl
letter_of_name Max0 = refl
letter_of_name Min0 = refl

some_named : {X : Type 0} (o : Option X) → is_none o ≡ false → is_some o ≡ true
some_named None h = absurd (true≢false h)
some_named (Some x) h = refl

none_named : {X : Type 0} (o : Option X) → is_some o ≡ true → is_none o ≡ false
none_named None h = absurd (true≢false (sym h))
none_named (Some x) h = refl

module _ (p : EflProgram) (names : Naming) (n : ℕ) where
  variable_named : (v : ℕ) (k : Kind) → has_scalar p n v k ≡ true → has_variable p n v ≡ true
  variable_named v Integer h = or_left _ _ h
  variable_named v Logical h = or_right _ _ h

  value_given : (m : ℕ) (k : Kind) → gives_kind p m k ≡ true → has_value p m ≡ true
  value_given m Integer h = or_left _ _ h
  value_given m Logical h = or_right _ _ h

  called_named : (m : ℕ) → calls p n m ≡ true → has_name p names n (OfProcedure m) ≡ true
  called_named m h = or_right (is_named p n && nat_eq m n) (calls p n m) h

  own_named : is_named p n ≡ true → has_name p names n (OfProcedure n) ≡ true
  own_named h = or_left (is_named p n && nat_eq n n) (calls p n n) (and_from (is_named p n) (nat_eq n n) h (eq-eqb n n refl))

  function_named : is_function p n ≡ true → is_named p n ≡ true
  function_named h = (and_parts (is_named p n) (has_value p n) h).0

  module _ (u : EflProcedure) (e : slice_get p.procedures n ≡ Some u) (are : AreNames p names) (ready : AreReady p names) (short : AreShort p names) where
    abbrev c : Context
    c = context_of (unit_of names p n u)

    abbrev head : Header
    head = header_of names (program_variables p) n u

    abbrev passed : List Text
    passed = dummies names (program_variables p) n u

    here : is_unit p n ≡ true
    here = ap is_some e

    -- ---- what the statements say ----

    type_is : (q : Text) (last : TypeWord) → type_in q c.notes last ≡ (if (has_typed p names n Integer q) then words.Integer else (if (has_typed p names n Logical q) then words.Logical else last))
    type_is q last = sym (type_in-unlabelled q (lines_of names p n u) last) ∙ unit_type p names n u (unit_plain p names ready n here) q last

    sizes_are : (q : Text) → sizes_of q c.notes ≡ []
    sizes_are q = sym (sizes_of-unlabelled q (lines_of names p n u)) ∙ unit_sizes p names n u (unit_plain p names ready n here) q

    kind_is : (k : Kind) (a : Name) → has_name p names n a ≡ true → is_typed p names n k a ≡ true → kind_of c (text_of names a) ≡ k
    kind_is k a h t = ap kind_by (sym (type_in-unlabelled (text_of names a) (lines_of names p n u) (by_header (text_of names a) head))) ∙ unit_kind p names are ready n u e k a h t

    -- what is in no type statement of a type
    unlisted : (k : Kind) (a : Name) → has_name p names n a ≡ true → (is_typed p names n k a ≡ true → ⊥) → has_typed p names n k (text_of names a) ≡ false
    unlisted k a h never =
        list_any-append (bytes_eq q) (map names.home (variables_in (program_variables p) n k) ++ temps_of names n k) (map names.callee (functions_in p n k))
        ∙ neither _ _
        (list_any-append (bytes_eq q) (map names.home (variables_in (program_variables p) n k)) (temps_of names n k)
        ∙ neither _ _ (not_among names.home (λ x. stands_in n k x.1) q 0 (program_variables p) (λ i x g t. not_it (OfVariable (0 + i)) (variable_named (0 + i) k (scalar i x g t)) (scalar i x g t)))
        (not_among_range (names.temp k) q 0 (names.room n + 1) (λ i lt. let le = le-leb i (names.room n) (omega (lt, arith)) in not_it (OfTemporary k i) le (and_from _ _ (same_kind k) le))))
        (not_among names.callee (λ x. gives k x.1 && calls p n x.0) q 0 p.procedures (λ i w g t. let r = and_parts (gives k w) (calls p n (0 + i)) t in not_it (OfProcedure (0 + i)) (called_named (0 + i) r.1) (and_from (gives_kind p (0 + i) k) (calls p n (0 + i)) (value i w g r.0) r.1)))
      where
        q : Text
        q = text_of names a

        not_it : (b : Name) → has_name p names n b ≡ true → is_typed p names n k b ≡ true → bytes_eq (text_of names a) (text_of names b) ≡ false
        not_it b g t = unlike p names are n here a b h g (λ s. never (ap (is_typed p names n k) s ∙ t))

        scalar : (i : ℕ) (x : Located) → slice_get (program_variables p) i ≡ Some x → stands_in n k x ≡ true → has_scalar p n (0 + i) k ≡ true
        scalar i x g t = let z : 0 + i ≡ i = omega arith in ap (λ m. has_scalar p n m k) z ∙ and_some (stands_in n k) (slice_get (program_variables p) i) x g t

        value : (i : ℕ) (w : EflProcedure) → slice_get p.procedures i ≡ Some w → gives k w ≡ true → gives_kind p (0 + i) k ≡ true
        value i w g t = let z : 0 + i ≡ i = omega arith in ap (λ m. gives_kind p m k) z ∙ and_some (gives k) (slice_get p.procedures i) w g t

    untyped : (a : Name) → has_name p names n a ≡ true → ((k : Kind) → is_typed p names n k a ≡ true → ⊥) → (last : TypeWord) → type_in (text_of names a) c.notes last ≡ last
    untyped a h never last = type_is (text_of names a) last ∙ not_given _ _ last (unlisted Integer a h (never Integer)) (unlisted Logical a h (never Logical))

    inside : (q : Text) → is_other (type_of c q) ≡ false → is_real_by_letter c q ≡ false
    inside q h = ap (λ b. b && not (is_foreign c q)) h

    typed_inside : (k : Kind) (a : Name) → is_typed p names n k a ≡ true → is_other (type_of c (text_of names a)) ≡ false
    typed_inside k a t = ap is_other (type_is (text_of names a) (by_header (text_of names a) head)) ∙ given_inside (has_typed p names n Integer (text_of names a)) (has_typed p names n Logical (text_of names a)) (by_header (text_of names a) head) (listed k (typed_in p names n k a t))
      where
        listed : (j : Kind) → has_typed p names n j (text_of names a) ≡ true → (has_typed p names n Integer (text_of names a) || has_typed p names n Logical (text_of names a)) ≡ true
        listed Integer g = or_left _ _ g
        listed Logical g = or_right _ _ g

    form_is : (a : Name) → has_name p names n a ≡ true → ((g : Intrinsic) → a ≡ OfIntrinsic g → ⊥) → name_form c (text_of names a) ≡ forms.Plain
    form_is a h other =
        ap (λ ns. form_by (array_or ns (text_of names a))) (sizes_are (text_of names a))
        ∙ ap form_by (not_known intrinsics (text_of names a) (unlike_it Iabs, (unlike_it Mod, (unlike_it Isign, (unlike_it Idim, (unlike_it Max0, (unlike_it Min0, tt)))))))
      where
        unlike_it : (g : Intrinsic) → bytes_eq (intrinsic_name g) (text_of names a) ≡ false
        unlike_it g = unlike p names are n here (OfIntrinsic g) a refl h (λ s. other g (sym s))

    typed : (k : Kind) (a : Name) → has_name p names n a ≡ true → is_typed p names n k a ≡ true → ((g : Intrinsic) → a ≡ OfIntrinsic g → ⊥) → IsTyped c (text_of names a) k
    typed k a h t other = record { text = short.short n a here h; form = form_is a h other; kind = kind_is k a h t; declared = inside (text_of names a) (typed_inside k a t) }

    -- a function's own name stands for its value
    own_typed : (k : Kind) → is_function p n ≡ true → gives_kind p n k ≡ true → IsTyped c (names.callee n) k
    own_typed k f g =
        record {
          text = short.short n (OfProcedure n) here has;
          form = form_is (OfProcedure n) has (procedure_no_intrinsic n);
          kind = ap kind_by word ∙ kind_word k;
          declared = inside (names.callee n) (ap is_other word ∙ word_inside k);
        }
      where
        has : has_name p names n (OfProcedure n) ≡ true
        has = own_named (function_named f)

        word : type_of c (names.callee n) ≡ word_of k
        word =
            untyped (OfProcedure n) has (λ j t. true≢false (sym (and_parts (gives_kind p n j) (calls p n n) t).1 ∙ short.other n)) (by_header (names.callee n) head)
            ∙ own_type names n (is_none u.name) (result_of u.result) passed k (none_named u.name (sym (ap (is_some_and (λ w. is_some w.name)) e) ∙ function_named f)) (sym (ap (is_some_and (gives k)) e) ∙ g)

    -- ---- what the header says ----

    not_own : (a : Name) → has_name p names n a ≡ true → (a ≡ OfProcedure n → ⊥) → is_none u.name ≡ false → bytes_eq (text_of names a) (names.callee n) ≡ false
    not_own a h other f = unlike p names are n here a (OfProcedure n) h (own_named (ap (is_some_and (λ w. is_some w.name)) e ∙ some_named u.name f)) other

    no_class : (a : Name) → has_name p names n a ≡ true → (a ≡ OfProcedure n → ⊥) → ((v : ℕ) → a ≡ OfVariable v → ⊥) → (a ≡ OfTemporary Integer (names.room n) → ⊥) → role_held head (text_of names a) ≡ None
    no_class a h own formal spare = unheld names n (text_of names a) (is_none u.name) (result_of u.result) passed (not_own a h own) (dummy_free p names are ready n u e a h (λ i v g. formal v) spare)

    a_variable : (a : Name) → has_name p names n a ≡ true → (a ≡ OfProcedure n → ⊥) → IsVariable (role_held head (text_of names a))
    a_variable a h own = held_variable names n (text_of names a) (is_none u.name) (result_of u.result) passed (not_own a h own)

    -- ---- each name ----

    not_itself : (m : ℕ) → calls p n m ≡ true → OfProcedure m ≡ OfProcedure n → ⊥
    not_itself m h s = true≢false (sym h ∙ ap (calls p n) (same_procedure m n s) ∙ short.other n)

    called_class : (m : ℕ) → calls p n m ≡ true → role_held head (names.callee m) ≡ None
    called_class m h = no_class (OfProcedure m) (called_named m h) (not_itself m h) (λ v s. variable_no_procedure v m (sym s)) (λ s. temporary_no_procedure Integer (names.room n) m (sym s))

    abbrev IsKnownVariable : Kind → Text → Type 0
    IsKnownVariable k x = IsTyped c x k × IsVariable (role_held head x)

    variable_known : (x : Text) (k : Kind) → IsVariableName p names n x k → IsKnownVariable k x
    variable_known x k (Home v s is) = let h = variable_named v k s in subst (IsKnownVariable k) (sym is) (typed k (OfVariable v) h s (variable_no_intrinsic v), a_variable (OfVariable v) h (variable_no_procedure v n))
    variable_known x k (Temporary i le is) =
        let h = le-leb i (names.room n) le in
        subst (IsKnownVariable k) (sym is) (typed k (OfTemporary k i) h (and_from (is_kind k k) (nat_le i (names.room n)) (same_kind k) h) (temporary_no_intrinsic k i), a_variable (OfTemporary k i) h (temporary_no_procedure k i n))
    variable_known x k (Own f g is) = subst (IsKnownVariable k) (sym is) (own_typed k f g, held_own names n (is_none u.name) (result_of u.result) passed k (sym (ap (is_some_and (gives k)) e) ∙ g))

    function_known : (x : Text) (k : Kind) → IsFunctionName p names n x k → IsTyped c x k × (role_held head x ≡ None)
    function_known x k f =
        let m = f.number in
        subst (λ y. IsTyped c y k × (role_held head y ≡ None)) (sym f.is)
        (typed k (OfProcedure m) (called_named m f.called) (and_from (gives_kind p m k) (calls p n m) f.gives f.called) (procedure_no_intrinsic m), called_class m f.called)

    procedure_known : (x : Text) → IsProcedureName p names n x → IsCalled c x
    procedure_known x s =
        let m = s.number in
        let h = called_named m s.called in
        subst (IsCalled c) (sym s.is) (record { text = short.short n (OfProcedure m) here h; form = form_is (OfProcedure m) h (procedure_no_intrinsic m); held = called_class m s.called })

    abbrev IsItself : Intrinsic → Text → Type 0
    IsItself g x = (sort_of c x ≡ AnIntrinsic g) × (kind_of c x ≡ Integer) × (is_real_by_letter c x ≡ false) × (role_held head x ≡ None)

    itself : (g : Intrinsic) → IsItself g (intrinsic_name g)
    itself g = (
      ap (λ ns. array_or ns (intrinsic_name g)) (sizes_are (intrinsic_name g)) ∙ known_name g,
      ap kind_by word,
      inside (intrinsic_name g) (ap is_other word),
      no_class (OfIntrinsic g) refl (λ s. procedure_no_intrinsic n g (sym s)) (λ v s. variable_no_intrinsic v g (sym s)) (λ s. temporary_no_intrinsic Integer (names.room n) g (sym s)),
    )
      where
        word : type_of c (intrinsic_name g) ≡ words.Integer
        word =
            untyped (OfIntrinsic g) refl (λ j t. true≢false (sym t)) (by_header (intrinsic_name g) head)
            ∙ other_type names n (intrinsic_name g) (is_none u.name) (result_of u.result) passed (not_own (OfIntrinsic g) refl (λ s. procedure_no_intrinsic n g (sym s)))
            ∙ letter_of_name g

    intrinsic_known : (g : Intrinsic) → IsKnown c g
    intrinsic_known g = let w = subst (IsItself g) (same_name g) (itself g) in record { sort = w.0; kind = w.1; declared = w.2; held = w.3 }

    -- ---- names apart ----

    not_called : (x : Text) (k : Kind) (m : ℕ) → IsVariableName p names n x k → calls p n m ≡ true → bytes_eq x (names.callee m) ≡ false
    not_called x k m v h = by_name v
      where
        apart : (a : Name) → x ≡ text_of names a → has_name p names n a ≡ true → (a ≡ OfProcedure m → ⊥) → bytes_eq x (names.callee m) ≡ false
        apart a is g other = ap (λ y. bytes_eq y (names.callee m)) is ∙ unlike p names are n here a (OfProcedure m) g (called_named m h) other

        by_name : IsVariableName p names n x k → bytes_eq x (names.callee m) ≡ false
        by_name (Home w s is) = apart (OfVariable w) is (variable_named w k s) (variable_no_procedure w m)
        by_name (Temporary i le is) = apart (OfTemporary k i) is (le-leb i (names.room n) le) (temporary_no_procedure k i m)
        by_name (Own f g is) = apart (OfProcedure n) is (own_named (function_named f)) (λ s. not_itself m h (sym s))

    value_apart : (x y : Text) (k : Kind) → IsFunctionName p names n x k → IsProcedureName p names n y → bytes_eq x y ≡ false
    value_apart x y k f s =
        let i = f.number in
        let j = s.number in
        ap (λ z. bytes_eq z y) f.is ∙ ap (bytes_eq (names.callee i)) s.is
        ∙ unlike p names are n here (OfProcedure i) (OfProcedure j) (called_named i f.called) (called_named j s.called) (λ same. true≢false (sym (value_given i k f.gives) ∙ ap (has_value p) (same_procedure i j same) ∙ s.gives))

    pub known_names : AreKnown (IsVariableName p names n) (IsFunctionName p names n) (IsProcedureName p names n) (context_of (unit_of names p n u))
    known_names = record {
      variables = variable_known;
      functions = function_known;
      called = procedure_known;
      intrinsics = intrinsic_known;
      no_function = λ x y k j v f. ap (bytes_eq x) f.is ∙ not_called x k f.number v f.called;
      no_variable = λ x y k v s. ap (bytes_eq x) s.is ∙ not_called x k s.number v s.called;
      no_value = value_apart;
    }
