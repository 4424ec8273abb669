-- What a name before parentheses calls, in a program whose headers have no fault: a procedure of this name, or an intrinsic function.
use Rattle.std.proofs.Common.{◌≡◌, ℕ, suc, ◌+◌, Bool, true, false, true≢false, cond, List, [], ◌∷◌, length, Option, None, Some, refl, sym, ap, ◌∙◌, subst, arith}
use Rattle.std.specs.Prelude.{⊤, not, ◌&&◌, ◌||◌, nat_eq, find, option_map, unwrap_or, is_some}
use Rattle.std.specs.List.{list_any, slice_get, cons_option}
use Rattle.std.specs.Str.{bytes_eq}
use Rattle.std.proofs.lemmas.Bool.{eq-eqb}
use Rattle.std.proofs.lemmas.List.{length-map}
use Rattle.rule_table.specs.Words.{is_some_and}
use Rattle.ground.specs.declared.value.Kind.{Kind}
use Rattle.ground.specs.declared.value.Kind.TheVariants.{Integer, Logical}
use Rattle.call_cycles.specs.declared.edge.Edge.{Edge}
use Rattle.efl_tree.specs.Syntax as efl
use Rattle.efl_tree.specs.Syntax.{Text, EflType, EflProcedure, EflProgram}
use Rattle.efl_scope.specs.Parts.{Part, program_parts}
use Rattle.efl_scope.specs.ScopeRules.{is_out, no_name}
use Rattle.efl_scope.specs.Marks.{program_variables}
use Rattle.efl_types.specs.Signatures.{Arity, Result, Nothing, Gives, Unknown, result_of, Signature, formal_types, signed, signature_if, signatures, known, known_if, callee_by, callee}
use Rattle.efl_types.specs.Whole.{CallAt, number_of, called_in, calls_in, program_calls, edges_of}
use Rattle.efl_types.specs.Declarations.{is_shape}
use Rattle.efl_typed.specs.Typing.{Context, called, value_kind, given_kind}
use Rattle.efl_typed.specs.Linking.{formals_in}
use Rattle.efl_typed.proofs.Each.{Each, OfAny, each_map, each_flat}
use Rattle.efl_lowered.specs.Lowering.{is_result, gives, calls}
use Rattle.efl_lowered.specs.Facts.{has_scalar, is_named, gives_kind, has_value, formals, uses_function, uses_procedure}
use Rattle.efl_lowered.proofs.Lists.{or_left, or_right, and_some}
use Rattle.efl_lowered.proofs.TypedExpressions.{FitsResult, FitsCallee}
use Rattle.efl_lowered.proofs.TypedChecks.{each_fact}

-- ---- the first procedure of a name ----

-- a signature is that of the procedure with this number
abbrev Matches : List EflProcedure → Option Signature → Option ℕ → Type 0
Matches us None None = ⊤
Matches us None (Some m) = ⊥
Matches us (Some s) None = ⊥
Matches us (Some s) (Some m) = (u : EflProcedure) × (y : Text) × (slice_get us m ≡ Some u) × (u.name ≡ Some y) × (s ≡ signed u y)

one_before : (w : EflProcedure) (us : List EflProcedure) (o : Option Signature) (m : Option ℕ) → Matches us o m → Matches (w ∷ us) o (option_map (λ n. n + 1) m)
one_before w us None None h = tt
one_before w us None (Some m) h = absurd h
one_before w us (Some s) None h = absurd h
one_before w us (Some s) (Some m) h = let e : m + 1 ≡ suc m = omega arith in (h.0, h.1, ap (slice_get (w ∷ us)) e ∙ h.2, h.3, h.4)

abbrev sought : Text → List Signature → Option Signature
sought x ss = find (λ s. bytes_eq x s.name) ss

matched : (x : Text) (us : List EflProcedure) → Matches us (sought x (signatures us)) (number_of us x)
matched x [] = tt
matched x (w ∷ us) = by_name w.name refl (matched x us)
  where
    by_test : (y : Text) (b : Bool) → w.name ≡ Some y → Matches us (sought x (signatures us)) (number_of us x) →
        Matches (w ∷ us) (cond b (Some (signed w y)) (sought x (signatures us))) (cond b (Some 0) (option_map (λ n. n + 1) (number_of us x)))
    by_test y true e h = (w, y, refl, e, refl)
    by_test y false e h = one_before w us (sought x (signatures us)) (number_of us x) h

    by_name : (o : Option Text) → w.name ≡ o → Matches us (sought x (signatures us)) (number_of us x) →
        Matches (w ∷ us) (sought x (cons_option (signature_if w o) (signatures us))) (cond (is_some_and (bytes_eq x) o) (Some 0) (option_map (λ n. n + 1) (number_of us x)))
    by_name None e h = one_before w us (sought x (signatures us)) (number_of us x) h
    by_name (Some y) e h = by_test y (bytes_eq x y) e h

-- ---- results ----

-- a header without a fault gives nothing, or a scalar
pub known_result : (o : Option EflType) → is_some_and (is_out no_name) o ≡ false → is_shape o ≡ false → result_of o ≡ Unknown → ⊥
known_result None h g e = true≢false (ap is_nothing e)
  where
    is_nothing : Result → Bool
    is_nothing Nothing = true
    is_nothing _ = false
known_result (Some efl.Integer) h g e = true≢false (ap is_scalar e)
  where
    is_scalar : Result → Bool
    is_scalar (Gives k) = true
    is_scalar _ = false
known_result (Some efl.Logical) h g e = true≢false (ap is_scalar e)
  where
    is_scalar : Result → Bool
    is_scalar (Gives k) = true
    is_scalar _ = false
known_result (Some (efl.Real long)) h g e = true≢false h
known_result (Some (efl.Complex long)) h g e = true≢false h
known_result (Some (efl.Named x)) h g e = true≢false h
known_result (Some (efl.Shape o gs)) h g e = true≢false g

pub own_result : (k : Kind) → is_result k (Gives k) ≡ true
own_result Integer = refl
own_result Logical = refl

pub and_true : (a b : Bool) → a ≡ true → b ≡ true → (a && b) ≡ true
and_true true b h k = k
and_true false b h k = absurd (true≢false (sym h))

-- ---- calls ----

-- each element is among all
pub among_all : {X : Type 0} (test : X → X → Bool) → ((x : X) → test x x ≡ true) → (xs : List X) → Each (λ x. list_any (λ y. test y x) xs ≡ true) xs
among_all test h [] = tt
among_all test h (x ∷ xs) =
    (or_left (test x x) (list_any (λ y. test y x) xs) (h x), each_fact (λ z. list_any (λ y. test y z) xs ≡ true) (λ z. list_any (λ y. test y z) (x ∷ xs) ≡ true) xs (λ z k. or_right (test x z) _ k) (among_all test h xs))

abbrev same_edge : Edge → Edge → Bool
same_edge f e = nat_eq f.from e.from && nat_eq f.to e.to

edge_itself : (e : Edge) → same_edge e e ≡ true
edge_itself e = and_true (nat_eq e.from e.from) (nat_eq e.to e.to) (eq-eqb e.from e.from refl) (eq-eqb e.to e.to refl)

module _ (p : EflProgram) where
  -- what a part calls its procedure calls
  abbrev pub CallsKnown : Part → Type 0
  CallsKnown v = Each (λ m. calls p v.around.unit m ≡ true) (called_in p.procedures v)

  pub calls_known : Each CallsKnown (program_parts p)
  calls_known =
      let P = λ (c : CallAt). calls p c.edge.from c.edge.to ≡ true in
      each_fact (λ v. Each P (calls_in p.procedures v)) CallsKnown (program_parts p)
      (λ v h. each_map P (λ to. record { edge = record { from = v.around.unit; to = to }; place = v.place }) (called_in p.procedures v) h)
      (each_flat P (calls_in p.procedures) (program_parts p) (each_map (λ e. calls p e.from e.to ≡ true) (λ c. c.edge) (program_calls p) (among_all same_edge edge_itself (edges_of p))))

  module _ (results : (n : ℕ) (u : EflProcedure) → slice_get p.procedures n ≡ Some u → result_of u.result ≡ Unknown → ⊥) (n : ℕ) (c : Context) (here : c.procedures ≡ p.procedures) (all : c.names.units ≡ signatures p.procedures) where
    abbrev pub M : ℕ → Kind → Type 0
    M v k = has_scalar p n v k ≡ true

    abbrev pub F : ℕ → Kind → ℕ → Type 0
    F m k j = uses_function p n m k j ≡ true

    abbrev pub C : ℕ → ℕ → Type 0
    C m j = uses_procedure p n m j ≡ true

    -- one that is called, by its result
    module _ (m : ℕ) (u : EflProcedure) (y : Text) (there : slice_get p.procedures m ≡ Some u) (named : u.name ≡ Some y) (called_there : calls p n m ≡ true) where
      is_its_name : is_named p m ≡ true
      is_its_name = and_some (λ w. is_some w.name) (slice_get p.procedures m) u there (ap is_some named)

      as_many : nat_eq (length (formal_types u)) (length (formals p m)) ≡ true
      as_many =
          let xs = program_variables p in
          let same : formals p m ≡ formals_in xs m u = ap (λ o. unwrap_or (option_map (formals_in xs m) o) []) there in
          eq-eqb (length (formal_types u)) (length (formals p m)) (length-map u.formals _ ∙ sym (length-map u.formals _) ∙ sym (ap length same))

      fits_result : (r : Result) → result_of u.result ≡ r → FitsResult M F C c m (length (formal_types u)) r
      fits_result Nothing e =
          let none : has_value p m ≡ false = ap (λ o. is_some_and (gives Integer) o || is_some_and (gives Logical) o) there ∙ ap (λ r. is_result Integer r || is_result Logical r) e in
          and_true (calls p n m) _ called_there (and_true (is_named p m) _ is_its_name (and_true (not (has_value p m)) _ (ap not none) as_many))
      fits_result (Gives k) e =
          let given : gives_kind p m k ≡ true = and_some (gives k) (slice_get p.procedures m) u there (ap (is_result k) e ∙ own_result k) in (
            ap (λ us. value_kind us m) here ∙ ap (λ o. unwrap_or (option_map (λ w. given_kind (result_of w.result)) o) Integer) there ∙ ap given_kind e,
            and_true (calls p n m) _ called_there (and_true (is_named p m) _ is_its_name (and_true (gives_kind p m k) _ given as_many)),
          )
      fits_result Unknown e = absurd (results m u there e)

    abbrev FitsFound : Text → Option Signature → Option ℕ → Type 0
    FitsFound x o m = FitsCallee M F C c (callee_by x o) m

    unknown_fits : (a : Option Arity) → FitsCallee M F C c (known_if a) None
    unknown_fits None = tt
    unknown_fits (Some a) = tt

    found_fits : (x : Text) (o : Option Signature) (m : Option ℕ) → Matches p.procedures o m → OfAny (λ k. calls p n k ≡ true) m → FitsFound x o m
    found_fits x None None h g = unknown_fits (known x)
    found_fits x None (Some m) h g = absurd h
    found_fits x (Some s) None h g = absurd h
    found_fits x (Some s) (Some m) h g = subst (λ q. FitsFound x (Some q) (Some m)) (sym h.4) (fits_result m h.0 h.1 h.2 h.3 g (result_of h.0.result) refl)

    -- a name before parentheses that is a call
    pub callee_fits : (x : Text) → called c x ≡ number_of p.procedures x → OfAny (λ k. calls p n k ≡ true) (called c x) → FitsCallee M F C c (callee c.names x) (called c x)
    callee_fits x e g =
        subst (λ ss. FitsFound x (sought x ss) (called c x)) (sym all)
        (subst (λ m. FitsFound x (sought x (signatures p.procedures)) m) (sym e) (found_fits x (sought x (signatures p.procedures)) (number_of p.procedures x) (matched x p.procedures) (subst (OfAny (λ k. calls p n k ≡ true)) e g)))
