-- Each call of a unit leads to the unit of a procedure that its own one calls, and agrees with it.
use Rattle.std.proofs.Common.{◌≡◌, ℕ, zero, suc, ◌+◌, ◌≤◌, true, false, List, [], ◌∷◌, map, Some, refl, sym, ap, subst, arith}
use Rattle.std.specs.Prelude.{is_some}
use Rattle.std.specs.List.{Contains, slice_get}
use Rattle.std.proofs.lemmas.List.Elements.{All-contains}
use Rattle.ground.specs.declared.value.Kind.{Kind}
use Rattle.f66_tree.specs.Syntax.{Text, Formulas, Line, Routine}
use Rattle.f66_tree.specs.Units.{Context}
use Rattle.f66_tree.specs.Evaluation.{Intrinsic, Iabs, Mod, Isign, Idim, Max0, Min0, known, intrinsics, sort_of}
use Rattle.f66_program.specs.Mentions.{context_of, mentions_of_sizes, mentions_in, applied}
use Rattle.f66_program.specs.Calls.{Call, call_in, calls_in, clashes, miscounts}
use Rattle.efl_tree.specs.Syntax.{EflProcedure, EflProgram}
use Rattle.efl_program.specs.Typed.{Exprs}
use Rattle.routed_units.specs.Routed.{AllActs}
use Rattle.efl_typed.specs.Typing.{bodies_of}
use Rattle.efl_typed.proofs.Each.{Each}
use Rattle.efl_routes.specs.Expressions.{intrinsic_name, made_for, count, or_one, actuals, AllScalars}
use Rattle.efl_lowered.specs.Naming.{Naming}
use Rattle.efl_lowered.specs.Lowering.{declared_scalar, calls, routes_of, lines_of, unit_of, units_of}
use Rattle.efl_lowered.specs.Facts.{is_named, is_function, formals, uses_function, uses_procedure, has_scalar, AreReady}
use Rattle.efl_lowered.specs.Names.{AreNames}
use Rattle.efl_lowered.proofs.Lists.{some_and}
use Rattle.efl_lowered.proofs.TypedVariables.{each_joined}
use Rattle.efl_lowered.proofs.UnitLemmas.{at_unit}
use Rattle.efl_plain.specs.Matched.{AreOfTypes, AreMatched}
use Rattle.efl_plain.proofs.Called.{IsFine, AreFine, ActCalls, all_fine}
use Rattle.efl_plain.proofs.Said.{Say, lines_say}
use Rattle.efl_plain.proofs.Alike.{function_use, procedure_use, sorts, function_agrees, procedure_agrees}

each_contained : {X : Type 0} (P : X → Type 0) (xs : List X) (x : X) → Each P xs → Contains xs x → P x
each_contained P [] x h (i, lt, e) = absurd (omega (lt, arith))
each_contained P (y ∷ xs) x h (zero, lt, e) = subst P e h.0
each_contained P (y ∷ xs) x h (suc i, lt, e) = each_contained P xs x h.1 (i, omega (lt, arith), e)

module _ (Fine : Call → Type 0) (c : Context) where
  sizes_fine : (xs : List Text) → AreFine Fine c (mentions_of_sizes (map declared_scalar xs))
  sizes_fine [] = tt
  sizes_fine (x ∷ xs) = sizes_fine xs

  intrinsic_fine : (g : Intrinsic) (es : Formulas) → IsFine Fine c (applied (intrinsic_name g) es (known intrinsics (intrinsic_name g)))
  intrinsic_fine Iabs es = tt
  intrinsic_fine Mod es = tt
  intrinsic_fine Isign es = tt
  intrinsic_fine Idim es = tt
  intrinsic_fine Max0 es = tt
  intrinsic_fine Min0 es = tt

module _ (p : EflProgram) (names : Naming) where
  -- a call in the unit of a procedure, and the procedure that it leads to
  pub record IsLed (n : ℕ) (c : Context) (k : Call) : Type 0 where
    pub number : ℕ
    pub unit : EflProcedure
    pub there : slice_get p.procedures number ≡ Some unit
    pub called : calls p n number ≡ true
    pub named : is_named p number ≡ true
    pub is : k.name ≡ names.callee number
    pub alike : clashes c k (unit_of names p number unit) ≡ false
    pub many : miscounts k (unit_of names p number unit) ≡ false

  module _ (apart : AreNames p names) (ready : AreReady p names) (matched : AreMatched p) (other : (m : ℕ) → calls p m m ≡ false) where
    the_named : (m : ℕ) → is_named p m ≡ true → (w : EflProcedure) × (slice_get p.procedures m ≡ Some w)
    the_named m h = let s = some_and (λ v. is_some v.name) (slice_get p.procedures m) h in (s.0, s.1)

    module _ (n : ℕ) (u : EflProcedure) (here : slice_get p.procedures n ≡ Some u) where
      abbrev c : Context
      c = context_of (unit_of names p n u)

      abbrev Has : ℕ → Kind → Type 0
      Has v k = has_scalar p n v k ≡ true

      abbrev Uses : ℕ → Kind → ℕ → Type 0
      Uses v k d = uses_function p n v k d ≡ true

      abbrev Invokes : ℕ → ℕ → Type 0
      Invokes v d = uses_procedure p n v d ≡ true

      abbrev Matches : ℕ → Exprs → Type 0
      Matches m es = AreOfTypes p m es (formals p m)

      abbrev given : Exprs → ℕ → Formulas
      given es i = actuals names.home names.temp names.callee es i

      function_led : (m : ℕ) (k : Kind) (es : Exprs) (i : ℕ) → Uses m k (count es) → AllScalars Has Uses es → i + made_for es ≤ names.room n → Matches m es → IsLed n c (record { by_call = false; name = names.callee m; actuals = or_one (given es i) })
      function_led m k es i used h le t =
          let f = function_use p n m k (count es) used in
          let w = the_named m f.0.named in
          let a = function_agrees p names apart ready n u here m w.0 w.1 es i f.0 h le t k f.1 (other m) in
          record { number = m; unit = w.0; there = w.1; called = f.0.called; named = f.0.named; is = refl; alike = a.0; many = a.1 }

      procedure_led : (m : ℕ) (es : Exprs) (i : ℕ) → Invokes m (count es) → AllScalars Has Uses es → i + made_for es ≤ names.room n → Matches m es → IsLed n c (record { by_call = true; name = names.callee m; actuals = given es i })
      procedure_led m es i used h le t =
          let f = procedure_use p n m (count es) used in
          let w = the_named m f.0.named in
          let a = procedure_agrees p names apart ready n u here m w.0 w.1 es i f.0 h le t f.1 in
          record { number = m; unit = w.0; there = w.1; called = f.0.called; named = f.0.named; is = refl; alike = a.0; many = a.1 }

      abbrev Led : Call → Type 0
      Led k = IsLed n c k

      known_led : (g : Intrinsic) (es : Formulas) → IsFine Led c (applied (intrinsic_name g) es (sort_of c (intrinsic_name g)))
      known_led g es = subst (λ s. IsFine Led c (applied (intrinsic_name g) es s)) (sym (sorts p names apart ready n u here (intrinsic_name g))) (intrinsic_fine Led c g es)

      routes_led : AllActs (ActCalls Led c) (routes_of names p n)
      routes_led =
          all_fine Led c names.home names.temp names.callee (names.label n) (names.callee n) Has Uses Invokes (names.room n) (is_function p n ≡ true) Matches function_led procedure_led known_led (bodies_of p n) [] 0 (ready.bodies n (ap is_some here))
          (matched n (ap is_some here))

      lines_led : Say (ActCalls Led c) (lines_of names p n u)
      lines_led = lines_say (ActCalls Led c) (λ t xs le. sizes_fine Led c xs) (λ l. tt) tt tt tt p names n u routes_led

      call_led : (line : Line) → Contains (lines_of names p n u) line → (k : Call) → Contains (calls_in c line.act) k → IsLed n c k
      call_led line at k has =
          each_contained Led (calls_in c line.act) k
          (each_joined Led call_in (mentions_in c line.act) (All-contains (λ s. ActCalls Led c s.act) (lines_of names p n u) line lines_led at)) has

    pub unit_led : (n : ℕ) (r : Routine) → slice_get (units_of names p) n ≡ Some r → (line : Line) → Contains r.lines line → (k : Call) → Contains (calls_in (context_of r) line.act) k → IsLed n (context_of r) k
    unit_led n r e =
        let w = at_unit p names n r e in
        subst (λ s. (line : Line) → Contains s.lines line → (k : Call) → Contains (calls_in (context_of s) line.act) k → IsLed n (context_of s) k) w.2 (call_led n w.0 w.1)
