-- What no fault, or the first one, says of a program.
use Rattle.std.proofs.Common.{◌≡◌, ℕ, zero, suc, List, [], ◌∷◌, ◌++◌, Option, Some, None, sym, ap, ◌∙◌, MatchOption}
use Rattle.std.specs.List.{slice_get}
use Rattle.std.specs.Option.{option_map}
use Rattle.ground.specs.declared.fault.Fault.{Fault}
use Rattle.ground.specs.Faults.{fault_at}
use Rattle.rule_table.specs.First.{IsClean, first_part, part_breaks}
use Rattle.efl_tree.specs.Syntax.{EflProgram}
use Rattle.efl_scope.specs.declared.rule.ScopeRule.{ScopeRule}
use Rattle.efl_scope.specs.Parts.{Part, program_parts}
use Rattle.efl_scope.specs.ScopeRules.{scope_rules, kind_of}
use Rattle.efl_scope.specs.FirstFault.{with_earlier, breaks_with, first_fault, fault_of, IsFirstFault}
use Rattle.efl_scope.proofs.RuleLemmas.{first_fault-first}
use Rattle.efl_scoped.specs.Answers.{IsScoped, IsFirst}

part_at : (earlier vs : List Part) (i : ℕ) (t : List Part × Part) → slice_get (with_earlier earlier vs) i ≡ Some t → slice_get vs i ≡ Some t.1
part_at earlier [] i t is = absurd cc
part_at earlier (v ∷ vs) zero t is = ap (option_map (λ p. p.1)) is
part_at earlier (v ∷ vs) (suc i) t is = part_at (earlier ++ v ∷ []) vs i t is

module _ (p : EflProgram) where
  abbrev Found : Option ((List Part × Part) × ScopeRule) → Type 0
  Found o = MatchOption o (IsClean (part_breaks (breaks_with p.procedures) (with_earlier [] (program_parts p))))
      (λ r. (i : ℕ) × (slice_get (with_earlier [] (program_parts p)) i ≡ Some r.0) × IsFirstFault p i r.1)

  pub no_fault : None ≡ first_fault p → IsScoped p
  no_fault none = record { clean = each (first_part (breaks_with p.procedures) scope_rules (with_earlier [] (program_parts p))) (first_fault-first p) none }
    where
      each : (o : Option ((List Part × Part) × ScopeRule)) → Found o → None ≡ option_map fault_of o → IsClean (part_breaks (breaks_with p.procedures) (with_earlier [] (program_parts p)))
      each None found is = found
      each (Some r) found is = absurd cc

  pub a_fault : (f : Fault) → Some f ≡ first_fault p → IsFirst p f
  a_fault f some = each (first_part (breaks_with p.procedures) scope_rules (with_earlier [] (program_parts p))) (first_fault-first p) some
    where
      each : (o : Option ((List Part × Part) × ScopeRule)) → Found o → Some f ≡ option_map fault_of o → IsFirst p f
      each None found is = absurd cc
      each (Some r) found is =
          let f_is : f ≡ fault_of r = cc in
          record {
            part = found.0;
            rule = r.1;
            first = found.2;
            fault = f_is ∙ ap (λ q. fault_at q (kind_of r.1)) (sym (ap (λ g. g.place) f_is));
            place = ap (option_map (λ v. v.place)) (part_at [] (program_parts p) found.0 r.0 found.1) ∙ ap (λ q. Some q) (sym (ap (λ g. g.place) f_is));
          }
