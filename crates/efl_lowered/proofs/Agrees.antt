-- The units of a program over scalars are those of its routes, so a run of them shows what the program means.
use Rattle.std.proofs.Common.{◌≡◌, ℕ, ◌*◌, ◌+◌, true, List, [], ◌∷◌, ◌++◌, length, Option, None, Some, refl, sym, ap, ◌∙◌, subst}
use Rattle.std.specs.Prelude.{is_none, is_some}
use Rattle.std.specs.List.{slice_get}
use Rattle.ground.specs.declared.place.Place.{Place}
use Rattle.ground.specs.declared.value.Kind.TheVariants.{Integer, Logical}
use Rattle.f66_tree.specs.Syntax.{Text, Line}
use Rattle.f66_tree.specs.World.{Record, Shown, IsPrefix}
use Rattle.f66_tree.specs.Units.{is_main, Linkage}
use Rattle.f66_tree.specs.Execution.{nowhere, f66}
use Rattle.f66_tree.specs.Agreement.{Same, Agrees}
use Rattle.f66_program.specs.Mentions.{context_of}
use Rattle.f66_program.specs.Linking.{IsLinkage}
use Rattle.efl_tree.specs.Syntax.{EflProcedure, EflProgram}
use Rattle.efl_typed.specs.Typing.{body_if}
use Rattle.efl_typed.specs.Linking.{efl_meaning}
use Rattle.efl_typed.specs.Laws.{IsAccepted}
use Rattle.routes.specs.Routes.{Routes}
use Rattle.routes.specs.Units.{ending, Units}
use Rattle.routes.specs.PlacedUnit.{AreDeclarations, IsPlacedUnit}
use Rattle.routes.specs.PlacedUnit as placed_units
use Rattle.routes.proofs.Placing.{ending_unlabelled, placed_unit, idle_unit}
use Rattle.routes.proofs.EnteredUnits.{entered_alone}
use Rattle.efl_routes.specs.Statements.{all_route}
use Rattle.efl_lowered.specs.Naming.{Naming}
use Rattle.efl_lowered.specs.Lowering.{typed_names, typed_of, word_of, routes_of, lines_of, unit_of}
use Rattle.efl_lowered.specs.Facts.{is_unit, IsOverScalars, AreReady}
use Rattle.efl_lowered.specs.Names.{AreNames}
use Rattle.efl_lowered.specs.Laws.{AreCodes}
use Rattle.efl_lowered.proofs.Declared.{typed_declared}
use Rattle.efl_lowered.proofs.UnitLemmas.{Rs, unit_at, at_unit, main_header, unit_plain, leads_there}
use Rattle.efl_lowered.proofs.Bases.{context_is}
use Rattle.efl_lowered.proofs.Lowered.{program_agrees}

declared_on : (a b : List Line) → AreDeclarations a → AreDeclarations b → AreDeclarations (a ++ b)
declared_on [] b h k = k
declared_on (s ∷ a) b h k = (h.0, h.1, declared_on a b h.2 k)

-- runs that are the same agree alike
same_runs : (s t t1 : ℕ → Shown) → ((n : ℕ) → t n ≡ t1 n) → Agrees s t1 → Agrees s t
same_runs s t t1 e h = record {
  ended = λ n f is. subst (λ x. Same (s n) x) (sym (e n)) (h.ended n f (ap (λ x. x.end) (sym (e n)) ∙ is));
  going = λ n is. subst (λ x. IsPrefix x.records (s n).records) (sym (e n)) (h.going n (ap (λ x. x.end) (sym (e n)) ∙ is));
  ended_too = λ b f is n le. subst (λ x. Same (s b) x) (sym (e n)) (h.ended_too b f is n le);
  going_too = λ b is. subst (λ x. IsPrefix (s b).records x.records) (sym (e (32 * ((s b).work + 1)))) (h.going_too b is);
}

module _ (p : EflProgram) (ranks : List ℕ) (accepted : IsAccepted p ranks) (over : IsOverScalars p) (names : Naming) (are : AreNames p names) (labels : (n : ℕ) (q m : Text) → is_unit p n ≡ true → names.label n q ≡ names.label n m → q ≡ m) (ready : AreReady p names) (l : Linkage) (linked : IsLinkage (Rs p names) l) where
  -- the lines under each number: where there is no unit, an end alone
  abbrev lines_by : ℕ → Option EflProcedure → List Line
  lines_by n (Some u) = lines_of names p n u
  lines_by n None = ending (is_main (l.context n).header) nowhere

  abbrev last_by : Option EflProcedure → Place
  last_by (Some u) = u.finish
  last_by None = nowhere

  abbrev others : ℕ → List Line
  others n = lines_by n (slice_get p.procedures n)

  abbrev IsPlaced : ℕ → Routes → Option EflProcedure → Type 0
  IsPlaced n rs o = IsPlacedUnit (names.made n) rs (ending (is_main (l.context n).header) (last_by o)) (l.context n).notes (lines_by n o)

  unit_placed : (n : ℕ) (u : EflProcedure) → slice_get p.procedures n ≡ Some u → IsPlaced n (routes_of names p n) (Some u)
  unit_placed n u e =
      let is : is_unit p n ≡ true = ap is_some e in
      let before = typed_of names p n Integer u.place ++ typed_of names p n Logical u.place in
      let declared : AreDeclarations before = declared_on (typed_of names p n Integer u.place) (typed_of names p n Logical u.place) (typed_declared u.place (word_of Integer) (length (typed_names names p n Integer)) (typed_names names p n Integer)) (typed_declared u.place (word_of Logical) (length (typed_names names p n Logical)) (typed_names names p n Logical)) in
      subst (λ c. IsPlacedUnit (names.made n) (routes_of names p n) (ending (is_main c.header) u.finish) c.notes (lines_of names p n u)) (sym (context_is p names over are ready l linked n u e))
      (subst (λ b. IsPlacedUnit (names.made n) (routes_of names p n) (ending b u.finish) (context_of (unit_of names p n u)).notes (lines_of names p n u)) (sym (main_header p names n u))
      (placed_unit (names.made n) (routes_of names p n) before (ending (is_none u.name) u.finish) (are.numbered n is) (unit_plain p names ready n is) declared (ending_unlabelled (is_none u.name) u.finish)))

  all_placed : (n : ℕ) → IsPlaced n (routes_of names p n) (slice_get p.procedures n)
  all_placed n = by_unit (slice_get p.procedures n) refl
    where
      by_unit : (o : Option EflProcedure) → slice_get p.procedures n ≡ o → IsPlaced n (routes_of names p n) o
      by_unit (Some u) e = unit_placed n u e
      by_unit None e =
          subst (λ o. IsPlaced n (all_route names.home names.temp names.callee (names.label n) (names.callee n) (body_if p n o) [] 0) None) (sym e)
          (idle_unit (names.made n) (ending (is_main (l.context n).header) nowhere) (l.context n).notes (ending_unlabelled (is_main (l.context n).header) nowhere))

  abbrev units : Units
  units = placed_units.units_of l others (routes_of names p) names.made (λ n. last_by (slice_get p.procedures n)) all_placed

  -- ---- runs ----

  module _ (codes : ℕ → List Line) (coded : AreCodes (Rs p names) codes) where
    code_is : (n : ℕ) (u : EflProcedure) → slice_get p.procedures n ≡ Some u → codes n ≡ others n
    code_is n u e = coded n (unit_of names p n u) (unit_at p names n u e) ∙ ap (lines_by n) (sym e)

    main_code : codes l.main ≡ others l.main
    main_code = let r = linked.main in let w = at_unit p names l.main r.0 r.1 in code_is l.main w.0 w.1

    found_code : (x : Text) (n : ℕ) → l.find x ≡ Some n → codes n ≡ others n
    found_code x n e =
        let r = leads_there x (Rs p names) n (sym (linked.finds x) ∙ e) in
        let w = at_unit p names n r.0 r.1 in
        code_is n w.0 w.1

    pub units_agree : (input : List Record) → Agrees (λ b. efl_meaning p b input) (λ n. f66 l codes input n)
    units_agree input =
        same_runs (λ b. efl_meaning p b input) (λ n. f66 l codes input n) (λ n. f66 l others input n) (λ n. entered_alone l codes others found_code main_code input n)
        (program_agrees p ranks accepted over names are labels ready l linked units refl refl input)
