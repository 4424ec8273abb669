-- What comes of a tree of EFL, from what comes of it behind some of its checks.
use Rattle.std.proofs.Common.{◌≡◌, ℕ, true≢false, List, [], map, Option, None, Some, inr, refl, sym, ap, ◌∙◌, subst, MatchOption}
use Rattle.std.proofs.lemmas.Option.{none-some}
use Rattle.std.specs.Prelude.{Result, Ok, Err, option_map}
use Rattle.std.specs.List.{slice_get}
use Rattle.std.specs.Option.{option_or}
use Rattle.rule_table.specs.First.{IsClean, first_part, part_breaks}
use Rattle.ground.specs.Faults.{fault_at}
use Rattle.ground.specs.declared.fault.FaultKind.TheVariants.{Unbuilt}
use Rattle.ground.specs.declared.place.Place.{Place}
use Rattle.ground.specs.declared.fault.Refusal.{Refusal}
use Rattle.ground.specs.declared.fault.Refusal.TheVariants as refusals
use Rattle.f66_tree.specs.declared.unit.Unit.{Unit as AUnit}
use Rattle.f66_tree.specs.Syntax.{Line, Routine}
use Rattle.f66_tree.specs.Views.{routine_of}
use Rattle.f66_tree.specs.Execution.{f66}
use Rattle.linked_soundness.specs.Laws.{AreCodes}
use Rattle.efl_tree.specs.Syntax.{EflProgram}
use Rattle.efl_scope.specs.declared.rule.ScopeRule.{ScopeRule}
use Rattle.efl_scope.specs.Parts.{Part, program_parts}
use Rattle.efl_scope.specs.ScopeRules.{scope_rules}
use Rattle.efl_scope.specs.FirstFault.{with_earlier, breaks_with, fault_of, IsFirstFault}
use Rattle.efl_scope.specs.FirstFault as scopes
use Rattle.efl_scope.proofs.RuleLemmas.{first_fault-first}
use Rattle.efl_scoped.specs.Answers.{IsScoped}
use Rattle.efl_types.specs.Storage.{storage_fault}
use Rattle.efl_types.specs.TypeRules as types
use Rattle.efl_types.specs.Whole.{TellsWhole}
use Rattle.efl_checks.specs.Answers.{typed_fault}
use Rattle.efl_whole.specs.Names.{IsRightRefusal}
use Rattle.efl_built.specs.Unbuilt.{first_unbuilt}
use Rattle.legal_decks.specs.Laws.{LegalHasLinkage, LegalIsSound, LegalIsWell, LegalIsWhole}
use Rattle.efl_lower.specs.Lowered.{made_of}
use Rattle.efl_lower.specs.Laws.{IsOfText, IsAccepted, Serves}
use Rattle.front.specs.declared.made.Made.{Made}
use Rattle.front.specs.Checked.{Faulty, Means}
use Rattle.front.specs.Efl.{meaning_of, IsBuilt, IsTyped, IsJudged}
use Rattle.front.specs.Programs.{IsProgramOf}
use Rattle.front.specs.Translated.{Refused, Finds}

-- ---- behind the checks ----

scopes_clear : (p : EflProgram) → IsScoped p → scopes.first_fault p ≡ None
scopes_clear p scoped = each (first_part (breaks_with p.procedures) scope_rules (with_earlier [] (program_parts p))) (first_fault-first p)
  where
    each : (o : Option ((List Part × Part) × ScopeRule)) → MatchOption o (IsClean (part_breaks (breaks_with p.procedures) (with_earlier [] (program_parts p))))
        (λ b. (i : ℕ) × (slice_get (with_earlier [] (program_parts p)) i ≡ Some b.0) × IsFirstFault p i b.1) → option_map fault_of o ≡ None
    each None found = refl
    each (Some b) found = absurd (true≢false (sym found.2.broken ∙ scoped.clean found.0 b.1))

earlier_none : {V : Type 0} (a b : Option V) → option_or a b ≡ None → a ≡ None
earlier_none None b h = refl
earlier_none (Some v) b h = absurd (none-some v (sym h))

pub all_accepted : (tree : EflProgram) → IsOfText tree → IsScoped tree → typed_fault tree ≡ None → TellsWhole tree None → first_unbuilt tree ≡ None → IsAccepted tree
all_accepted tree text scoped typed whole built = record {
  text = text;
  scopes = scopes_clear tree scoped;
  types = earlier_none (types.first_fault tree) (storage_fault tree) typed;
  whole = whole;
  built = built;
}

pub whole_refused : (tree : EflProgram) (r : Refusal) → IsRightRefusal tree r → Refused (IsTyped tree None) r
whole_refused tree (refusals.Fault f) h = (Some f, h, refl)
whole_refused tree refusals.Memory h = tt

pub scoped_found : (tree : EflProgram) (r : Result Made Refusal) → IsScoped tree → Finds (IsTyped tree (typed_fault tree)) r → Finds (IsJudged tree) r
scoped_found tree (Ok made) scoped h = (h.0, inr (scoped, h.1), h.2)
scoped_found tree (Err (refusals.Fault f)) scoped h = inr (scoped, h)
scoped_found tree (Err refusals.Memory) scoped h = tt

pub built_found : (tree : EflProgram) (r : Result Made Refusal) → TellsWhole tree None → first_unbuilt tree ≡ None → Finds (λ c. c ≡ Means (meaning_of tree)) r → Finds (IsTyped tree None) r
built_found tree (Ok made) whole built h = (h.0, (None, whole, subst (λ o. IsBuilt tree o (Means h.0)) (sym built) h.1), h.2)
built_found tree (Err (refusals.Fault f)) whole built h = (None, whole, subst (λ o. IsBuilt tree o (Faulty f)) (sym built) h)
built_found tree (Err refusals.Memory) whole built h = tt

pub unbuilt_told : (tree : EflProgram) (place : Place) → TellsWhole tree None → first_unbuilt tree ≡ Some place → IsTyped tree None (Faulty (fault_at place Unbuilt))
unbuilt_told tree place whole unbuilt = (None, whole, subst (λ o. IsBuilt tree o (Faulty (fault_at place Unbuilt))) (sym unbuilt) refl)

-- ---- the units ----

abbrev lines_if_any : Option Routine → List Line
lines_if_any None = []
lines_if_any (Some r) = r.lines

-- the units of a tree are a program of what it means
module _ (linkage : LegalHasLinkage) (sound : LegalIsSound) (well : LegalIsWell) (whole : LegalIsWhole) where
  served_program : (tree : EflProgram) → Serves tree → IsProgramOf (meaning_of tree) (made_of tree)
  served_program tree serves =
      let made = made_of tree in
      let l = linkage made serves.legal in
      let codes : ℕ → List Line = λ u. lines_if_any (slice_get made.units u) in
      let coded : AreCodes made.units codes = λ u r e. ap lines_if_any e in
      let d = serves.same l.0 l.1 codes coded in
      record {
        sound = sound made serves.legal;
        run = f66 l.0 codes;
        linked = record { well = well made serves.legal; whole = whole made serves.legal; linkage = l.0; links = l.1; codes = codes; of = coded; is = refl };
        agrees = d.agrees;
        found = d.found;
        printable = serves.legal.printable;
        passes = serves.legal.deck;
      }

  pub served_found : (tree : EflProgram) (units : List AUnit) → Serves tree → map routine_of units ≡ (made_of tree).units →
      IsProgramOf (meaning_of tree) (record { units = map routine_of units; finish = tree.finish })
  served_found tree units serves are =
      subst (λ us. IsProgramOf (meaning_of tree) (record { units = us; finish = tree.finish })) (sym are) (served_program tree serves)
