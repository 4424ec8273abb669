-- The names of a unit are apart, and those in its type statements have the types that these say.
use Rattle.std.proofs.Common.{◌≡◌, ℕ, ◌+◌, Bool, true, false, true≢false, ◌++◌, map, Option, None, Some, refl, sym, ap, ◌∙◌, arith, if◌then◌else◌, ◌||◌, ◌&&◌}
use Rattle.std.specs.Prelude.{nat_eq, nat_le, is_some}
use Rattle.std.specs.List.{list_any, slice_get}
use Rattle.std.specs.Str.{bytes_eq}
use Rattle.std.proofs.lemmas.Bool.{and_parts, and_from, leb-true, le-leb}
use Rattle.std.proofs.lemmas.List.Folds.{list_any-append}
use Rattle.rule_table.specs.Words.{is_some_and}
use Rattle.ground.specs.declared.value.Kind.{Kind}
use Rattle.ground.specs.declared.value.Kind.TheVariants.{Integer, Logical}
use Rattle.f66_tree.specs.declared.declaration.TypeWord.TheVariants as words
use Rattle.f66_tree.specs.Syntax.{Text}
use Rattle.f66_tree.specs.Units.{kind_of, kind_by, by_header}
use Rattle.f66_tree.specs.Evaluation.{Intrinsic}
use Rattle.f66_program.specs.Mentions.{context_of}
use Rattle.efl_tree.specs.Syntax.{EflProcedure, EflProgram}
use Rattle.efl_scope.specs.DataTypes as types
use Rattle.efl_scope.specs.Marks.{Located, program_variables}
use Rattle.efl_types.specs.Signatures.{Result, Nothing, Gives, Unknown, result_of}
use Rattle.efl_lowered.specs.Naming.{Naming}
use Rattle.efl_lowered.specs.Lowering.{is_scalar, stands_in, variables_in, is_result, gives, calls, functions_in, temps_of, header_of, unit_of}
use Rattle.efl_lowered.specs.Facts.{is_unit, is_named, gives_kind, has_scalar, has_variable, AreReady}
use Rattle.efl_lowered.specs.Names.{Name, OfVariable, OfTemporary, OfProcedure, OfIntrinsic, text_of, has_name, AreNames}
use Rattle.efl_lowered.proofs.Lists.{false_from, or_left, or_right, neither, text_is, some_and, and_some, among, not_among, among_range, not_among_range}
use Rattle.efl_lowered.proofs.UnitLemmas.{has_typed, unit_type, unit_plain}

-- ---- what a name is of ----

abbrev tag : Name → ℕ
tag (OfVariable v) = 0
tag (OfTemporary k i) = 1
tag (OfProcedure m) = 2
tag (OfIntrinsic g) = 3

abbrev number_in : Name → ℕ
number_in (OfVariable v) = v
number_in (OfTemporary k i) = i
number_in (OfProcedure m) = m
number_in (OfIntrinsic g) = 0

abbrev kind_in : Name → Kind
kind_in (OfTemporary k i) = k
kind_in a = Integer

pub same_variable : (v w : ℕ) → OfVariable v ≡ OfVariable w → v ≡ w
same_variable v w e = ap number_in e

pub same_temporary : (k j : Kind) (m n : ℕ) → OfTemporary k m ≡ OfTemporary j n → (k ≡ j) × (m ≡ n)
same_temporary k j m n e = (ap kind_in e, ap number_in e)

pub same_procedure : (m n : ℕ) → OfProcedure m ≡ OfProcedure n → m ≡ n
same_procedure m n e = ap number_in e

pub variable_no_temporary : (v : ℕ) (k : Kind) (i : ℕ) → OfVariable v ≡ OfTemporary k i → ⊥
variable_no_temporary v k i e = let f : 0 ≡ 1 = ap tag e in omega (f, arith)

pub variable_no_procedure : (v m : ℕ) → OfVariable v ≡ OfProcedure m → ⊥
variable_no_procedure v m e = let f : 0 ≡ 2 = ap tag e in omega (f, arith)

pub variable_no_intrinsic : (v : ℕ) (g : Intrinsic) → OfVariable v ≡ OfIntrinsic g → ⊥
variable_no_intrinsic v g e = let f : 0 ≡ 3 = ap tag e in omega (f, arith)

pub temporary_no_procedure : (k : Kind) (i m : ℕ) → OfTemporary k i ≡ OfProcedure m → ⊥
temporary_no_procedure k i m e = let f : 1 ≡ 2 = ap tag e in omega (f, arith)

pub temporary_no_intrinsic : (k : Kind) (i : ℕ) (g : Intrinsic) → OfTemporary k i ≡ OfIntrinsic g → ⊥
temporary_no_intrinsic k i g e = let f : 1 ≡ 3 = ap tag e in omega (f, arith)

pub procedure_no_intrinsic : (m : ℕ) (g : Intrinsic) → OfProcedure m ≡ OfIntrinsic g → ⊥
procedure_no_intrinsic m g e = let f : 2 ≡ 3 = ap tag e in omega (f, arith)

-- ---- one type each ----

scalar_once : (t : types.DataType) → is_scalar Integer t ≡ true → is_scalar Logical t ≡ true → ⊥
scalar_once (types.Scalar Integer) h k = true≢false (sym k)
scalar_once (types.Scalar Logical) h k = true≢false (sym h)
scalar_once (types.Structured ms) h k = true≢false (sym h)
scalar_once (types.Array bs t) h k = true≢false (sym h)
scalar_once types.NoType h k = true≢false (sym h)

result_once : (r : Result) → is_result Integer r ≡ true → is_result Logical r ≡ true → ⊥
result_once (Gives Integer) h k = true≢false (sym k)
result_once (Gives Logical) h k = true≢false (sym h)
result_once Nothing h k = true≢false (sym h)
result_once Unknown h k = true≢false (sym h)

both_of : {X : Type 0} (f g : X → Bool) (o : Option X) → ((x : X) → f x ≡ true → g x ≡ true → ⊥) → is_some_and f o ≡ true → is_some_and g o ≡ true → ⊥
both_of f g None ne h k = true≢false (sym h)
both_of f g (Some x) ne h k = ne x h k

abbrev pub is_kind : Kind → Kind → Bool
is_kind Integer Integer = true
is_kind Logical Logical = true
is_kind k j = false

pub same_kind : (k : Kind) → is_kind k k ≡ true
same_kind Integer = refl
same_kind Logical = refl

module _ (p : EflProgram) (names : Naming) where
  -- a name is in the type statements of this type
  abbrev pub is_typed : ℕ → Kind → Name → Bool
  is_typed n k (OfVariable v) = has_scalar p n v k
  is_typed n k (OfTemporary j i) = is_kind j k && nat_le i (names.room n)
  is_typed n k (OfProcedure m) = gives_kind p m k && calls p n m
  is_typed n k (OfIntrinsic g) = false

  typed_once : (n : ℕ) (a : Name) → is_typed n Integer a ≡ true → is_typed n Logical a ≡ true → ⊥
  typed_once n (OfVariable v) h k = both_of (stands_in n Integer) (stands_in n Logical) (slice_get (program_variables p) v) (λ x f g. scalar_once x.variable.kind (and_parts _ _ f).1 (and_parts _ _ g).1) h k
  typed_once n (OfTemporary Integer i) h k = true≢false (sym k)
  typed_once n (OfTemporary Logical i) h k = true≢false (sym h)
  typed_once n (OfProcedure m) h k = both_of (gives Integer) (gives Logical) (slice_get p.procedures m) (λ u. result_once (result_of u.result)) (and_parts _ _ h).0 (and_parts _ _ k).0
  typed_once n (OfIntrinsic g) h k = true≢false (sym h)

  abbrev parts : ℕ → Kind → (Text → Bool) → Bool
  parts n k f = (list_any f (map names.home (variables_in (program_variables p) n k)) || list_any f (temps_of names n k)) || list_any f (map names.callee (functions_in p n k))

  in_parts : (n : ℕ) (k : Kind) (q : Text) → has_typed p names n k q ≡ parts n k (bytes_eq q)
  in_parts n k q =
      list_any-append (bytes_eq q) (map names.home (variables_in (program_variables p) n k) ++ temps_of names n k) (map names.callee (functions_in p n k))
      ∙ ap (λ b. b || list_any (bytes_eq q) (map names.callee (functions_in p n k))) (list_any-append (bytes_eq q) (map names.home (variables_in (program_variables p) n k)) (temps_of names n k))

  pub typed_in : (n : ℕ) (k : Kind) (a : Name) → is_typed n k a ≡ true → has_typed p names n k (text_of names a) ≡ true
  typed_in n k (OfVariable v) h =
      let w = some_and (stands_in n k) (slice_get (program_variables p) v) h in
      let e : 0 + v ≡ v = omega arith in
      let is : list_any (bytes_eq (names.home (0 + v))) (map names.home (variables_in (program_variables p) n k)) ≡ true = among names.home (λ x. stands_in n k x.1) 0 (program_variables p) v w.0 w.1 w.2 in
      in_parts n k (names.home v) ∙ or_left _ _ (or_left _ _ (ap (λ m. list_any (bytes_eq (names.home m)) (map names.home (variables_in (program_variables p) n k))) (sym e) ∙ is))
  typed_in n k (OfTemporary j i) h =
      let g = and_parts _ _ h in
      in_parts n k (names.temp j i) ∙ or_left _ _ (or_right _ _ (ap (λ d. list_any (bytes_eq (names.temp d i)) (temps_of names n k)) (kinds j k g.0) ∙ among_range (names.temp k) 0 (names.room n + 1) i (omega arith) (let le = leb-true i (names.room n) g.1 in omega (le, arith))))
    where
      kinds : (d f : Kind) → is_kind d f ≡ true → d ≡ f
      kinds Integer Integer e = refl
      kinds Logical Logical e = refl
      kinds Integer Logical e = absurd (true≢false (sym e))
      kinds Logical Integer e = absurd (true≢false (sym e))
  typed_in n k (OfProcedure m) h =
      let g = and_parts _ _ h in
      let w = some_and (gives k) (slice_get p.procedures m) g.0 in
      let e : 0 + m ≡ m = omega arith in
      let ok : (gives k w.0 && calls p n (0 + m)) ≡ true = and_from _ _ w.2 (ap (calls p n) e ∙ g.1) in
      let is : list_any (bytes_eq (names.callee (0 + m))) (map names.callee (functions_in p n k)) ≡ true = among names.callee (λ x. gives k x.1 && calls p n x.0) 0 p.procedures m w.0 w.1 ok in
      in_parts n k (names.callee m) ∙ or_right _ _ (ap (λ i. list_any (bytes_eq (names.callee i)) (map names.callee (functions_in p n k))) (sym e) ∙ is)
  typed_in n k (OfIntrinsic g) h = absurd (true≢false (sym h))

  module _ (are : AreNames p names) where
    pub unlike : (n : ℕ) → is_unit p n ≡ true → (a b : Name) → has_name p names n a ≡ true → has_name p names n b ≡ true → (a ≡ b → ⊥) → bytes_eq (text_of names a) (text_of names b) ≡ false
    unlike n is a b h k ne = false_from (bytes_eq (text_of names a) (text_of names b)) (λ e. ne (are.apart n a b is h k (text_is (text_of names a) (text_of names b) e)))

    variable_named : (n v : ℕ) (k : Kind) → has_scalar p n v k ≡ true → has_variable p n v ≡ true
    variable_named n v Integer h = or_left _ _ h
    variable_named n v Logical h = or_right _ _ h

    typed_not : (n : ℕ) → is_unit p n ≡ true → (k : Kind) (a : Name) → has_name p names n a ≡ true → (is_typed n k a ≡ true → ⊥) → has_typed p names n k (text_of names a) ≡ false
    typed_not n is k a h never =
        in_parts n k q
        ∙ neither _ _
        (neither _ _ (not_among names.home (λ x. stands_in n k x.1) q 0 (program_variables p) (λ i x e t. not_it (OfVariable (0 + i)) (variable_named n (0 + i) k (scalar i x e t)) (scalar i x e t)))
        (not_among_range (names.temp k) q 0 (names.room n + 1) (λ i lt. let le = le-leb i (names.room n) (omega (lt, arith)) in not_it (OfTemporary k i) le (and_from _ _ (same_kind k) le))))
        (not_among names.callee (λ x. gives k x.1 && calls p n x.0) q 0 p.procedures (λ i u e t. let g = and_parts (gives k u) (calls p n (0 + i)) t in not_it (OfProcedure (0 + i)) (or_right (is_named p n && nat_eq (0 + i) n) (calls p n (0 + i)) g.1) (and_from (gives_kind p (0 + i) k) (calls p n (0 + i)) (value i u e g.0) g.1)))
      where
        q : Text
        q = text_of names a

        not_it : (b : Name) → has_name p names n b ≡ true → is_typed n k b ≡ true → bytes_eq (text_of names a) (text_of names b) ≡ false
        not_it b g t = unlike n is a b h g (λ e. never (ap (is_typed n k) e ∙ t))

        scalar : (i : ℕ) (x : Located) → slice_get (program_variables p) i ≡ Some x → stands_in n k x ≡ true → has_scalar p n (0 + i) k ≡ true
        scalar i x e t = let z : 0 + i ≡ i = omega arith in ap (λ m. has_scalar p n m k) z ∙ and_some (stands_in n k) (slice_get (program_variables p) i) x e t

        value : (i : ℕ) (u : EflProcedure) → slice_get p.procedures i ≡ Some u → gives k u ≡ true → gives_kind p (0 + i) k ≡ true
        value i u e t = let z : 0 + i ≡ i = omega arith in ap (λ m. gives_kind p m k) z ∙ and_some (gives k) (slice_get p.procedures i) u e t

    -- the type of a name
    pub unit_kind : AreReady p names → (n : ℕ) (u : EflProcedure) → slice_get p.procedures n ≡ Some u → (k : Kind) (a : Name) → has_name p names n a ≡ true → is_typed n k a ≡ true → kind_of (context_of (unit_of names p n u)) (text_of names a) ≡ k
    unit_kind ready n u e k a h t =
        ap kind_by (unit_type p names n u (unit_plain p names ready n (ap is_some e)) (text_of names a) (by_header (text_of names a) (header_of names (program_variables p) n u))) ∙ by_kind k t
      where
        is : is_unit p n ≡ true
        is = ap is_some e

        by_kind : (j : Kind) → is_typed n j a ≡ true →
            kind_by (if (has_typed p names n Integer (text_of names a)) then words.Integer else (if (has_typed p names n Logical (text_of names a)) then words.Logical else (by_header (text_of names a) (header_of names (program_variables p) n u)))) ≡ j
        by_kind Integer g = ap (λ b. kind_by (if b then words.Integer else (if (has_typed p names n Logical (text_of names a)) then words.Logical else (by_header (text_of names a) (header_of names (program_variables p) n u))))) (typed_in n Integer a g)
        by_kind Logical g =
            ap (λ b. kind_by (if b then words.Integer else (if (has_typed p names n Logical (text_of names a)) then words.Logical else (by_header (text_of names a) (header_of names (program_variables p) n u))))) (typed_not n is Integer a h (λ i. typed_once n a i g))
            ∙ ap (λ b. kind_by (if b then words.Logical else (by_header (text_of names a) (header_of names (program_variables p) n u)))) (typed_in n Logical a g)
