-- The units of an accepted program of EFL over scalars are sound, where their labels are few.
use Rattle.std.proofs.Common.{◌≡◌, ℕ, ◌<◌, ◌≤◌, true, List, ◌++◌, None, Some, ap, subst, arith}
use Rattle.std.specs.Prelude.{is_none, is_some}
use Rattle.std.specs.List.{All, slice_get}
use Rattle.ground.specs.declared.value.Kind.{Kind}
use Rattle.ground.specs.declared.value.Kind.TheVariants.{Integer, Logical}
use Rattle.f66_tree.specs.Syntax.{Text}
use Rattle.f66_check.specs.Answers.{IsSoundUnit}
use Rattle.plain_units.specs.Plain.{IsPlain}
use Rattle.plain_units.specs.Units.{IsPlainUnit}
use Rattle.plain_units.proofs.Sound.{plain_is_sound}
use Rattle.routes.specs.Routes.{Routes}
use Rattle.routes.specs.Code as code
use Rattle.routes.specs.Numbered.{all_given}
use Rattle.routed_units.specs.Routed.{AllActs}
use Rattle.routed_units.proofs.Labels.{IsLabel}
use Rattle.routed_units.proofs.Units.{plain_unit}
use Rattle.efl_tree.specs.Syntax.{EflProcedure, EflProgram}
use Rattle.efl_scope.specs.Marks.{program_variables}
use Rattle.efl_types.specs.TypeRules as types
use Rattle.efl_types.specs.Whole.{TellsWhole}
use Rattle.efl_typed.specs.Laws.{IsAccepted, AcceptedIsScoped}
use Rattle.efl_lowered.specs.Naming.{Naming}
use Rattle.efl_lowered.specs.Lowering.{header_of, typed_of, routes_of, unit_of, units_of}
use Rattle.efl_lowered.specs.Facts.{is_unit, IsOverScalars, AreReady}
use Rattle.efl_lowered.specs.Names.{AreNames}
use Rattle.efl_lowered.specs.Grammatical.{IsGrammatical}
use Rattle.efl_lowered.specs.Laws.{AcceptedIsReady}
use Rattle.efl_lowered.proofs.TypedChecks.{each_at}
use Rattle.efl_lowered.proofs.UnitLemmas.{at_unit}
use Rattle.efl_naming.specs.Choice.{naming_of, is_small}
use Rattle.efl_naming.specs.Laws.{NamesAreApart, NamingHasRoom}
use Rattle.efl_plain.specs.Names.{IsVariableName, IsFunctionName, IsProcedureName, AreShort}
use Rattle.efl_plain.specs.Tree.{IsWrittenTree}
use Rattle.efl_plain.specs.Few.{HasFewLabels}
use Rattle.efl_plain.proofs.Distinct.{each_all}
use Rattle.efl_plain.proofs.Heads as heads
use Rattle.efl_plain.proofs.Known.{known_names}
use Rattle.efl_plain.proofs.PlainActs.{plain_acts}
use Rattle.efl_plain.proofs.WrittenBodies.{bodies_written}
use Rattle.efl_plain.proofs.Leading.{routes_lead}
use Rattle.efl_plain.proofs.Chosen.{chosen_within}
use Rattle.efl_plain.proofs.Short.{short}

-- ---- units ----

module _ (ready : AcceptedIsReady) (scoped : AcceptedIsScoped) (room : NamingHasRoom) (apart : NamesAreApart) (p : EflProgram) (ranks : List ℕ) (accepted : IsAccepted p ranks) (no_type : types.first_fault p ≡ None) (whole : TellsWhole p None)
    (over : IsOverScalars p) (shaped : IsGrammatical p) (tree : IsWrittenTree p) (small : is_small p ≡ true) (few : HasFewLabels p) where
  abbrev N : Naming
  N = naming_of p

  all_apart : AreNames p N
  all_apart = apart p accepted.scopes whole shaped small

  all_ready : AreReady p N
  all_ready = ready p accepted.scopes no_type whole over shaped N (room p)

  all_short : AreShort p N
  all_short = short p accepted.scopes whole tree

  module _ (n : ℕ) (u : EflProcedure) (here : slice_get p.procedures n ≡ Some u) where
    abbrev pub V : Text → Kind → Type 0
    V = IsVariableName p N n

    abbrev pub F : Text → Kind → Type 0
    F = IsFunctionName p N n

    abbrev pub S : Text → Type 0
    S = IsProcedureName p N n

    abbrev rs : Routes
    rs = routes_of N p n

    is : is_unit p n ≡ true
    is = ap is_some here

    acts_plain : AllActs (IsPlain V F S) rs
    acts_plain = plain_acts p N all_ready n is (bodies_written p accepted.scopes no_type whole over shaped tree n is)

    -- ---- labels ----

    own_label : (l : ℕ) → 1 ≤ all_given l rs → IsLabel l
    own_label l h = let w = chosen_within p n l h in let most = few n is in let le = w.1 in (w.0, omega (le, most, arith))

    new_label : (i : ℕ) → i < code.all_labels rs → IsLabel (N.made n i)
    new_label i lt = let most = few n is in (omega arith, omega (lt, most, arith))

    pub unit_plain : IsPlainUnit V F S (unit_of N p n u)
    unit_plain =
        plain_unit V F S (N.made n) rs (header_of N (program_variables p) n u) (typed_of N p n Integer u.place ++ typed_of N p n Logical u.place) (is_none u.name) u.finish u.place
        (heads.header p N all_apart all_ready all_short n u here) (heads.typing p N all_apart all_ready all_short n u here u.place) (heads.once p N all_apart all_ready all_short n u here u.place)
        acts_plain (known_names p N n u here all_apart all_ready all_short) (all_apart.numbered n is) (routes_lead scoped p ranks accepted N n) own_label new_label

    unit_sound : IsSoundUnit (unit_of N p n u)
    unit_sound = plain_is_sound V F S (unit_of N p n u) unit_plain

  pub units_are_sound : All IsSoundUnit (units_of (naming_of p) p)
  units_are_sound = each_all IsSoundUnit (units_of N p) (each_at IsSoundUnit (units_of N p) (λ n r e. let w = at_unit p N n r e in subst IsSoundUnit w.2 (unit_sound n w.0 w.1)))
