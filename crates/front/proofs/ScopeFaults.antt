-- The scopes of an EFL program have at most one first fault, and none where no part breaks a rule.
use Rattle.std.proofs.Common.{◌≡◌, true≢false, [], Option, Some, slice_get, arith, refl, sym, ◌∙◌, ap}
use Rattle.std.specs.Prelude.{ℕ, option_map}
use Rattle.ground.specs.declared.fault.Fault.{Fault}
use Rattle.ground.specs.declared.place.Place.{Place}
use Rattle.ground.specs.Faults.{fault_at}
use Rattle.rule_table.specs.First.{part_breaks}
use Rattle.rule_table.proofs.FirstLemmas.{first_unique}
use Rattle.efl_tree.specs.Syntax.{EflProgram}
use Rattle.efl_scope.specs.declared.rule.ScopeRule.{ScopeRule}
use Rattle.efl_scope.specs.declared.rule.ScopeRule.TheVariants as rules
use Rattle.efl_scope.specs.Parts.{program_parts}
use Rattle.efl_scope.specs.ScopeRules.{kind_of, rule_number}
use Rattle.efl_scope.specs.FirstFault.{with_earlier, breaks_with}
use Rattle.efl_scoped.specs.Answers.{IsScoped, IsFirst}

some_same : {A : Type 0} {a b : A} → Some a ≡ Some b → a ≡ b
some_same e = cc

-- rules are told apart by their numbers
one_kind : (r s : ScopeRule) → rule_number r ≡ rule_number s → kind_of r ≡ kind_of s
one_kind rules.OutOfProfileType rules.OutOfProfileType e = refl
one_kind rules.DuplicateName rules.DuplicateName e = refl
one_kind rules.BadLabel rules.BadLabel e = refl
one_kind rules.BadBreak rules.BadBreak e = refl
one_kind rules.CommonMismatch rules.CommonMismatch e = refl
one_kind _ _ e = absurd (omega (arith, e))

pub one_first : (p : EflProgram) (f g : Fault) → IsFirst p f → IsFirst p g → f ≡ g
one_first p f g h k =
    let one = first_unique rule_number (part_breaks (breaks_with p.procedures) (with_earlier [] (program_parts p))) h.part k.part h.rule k.rule h.first k.first in
    let place_at : ℕ → Option Place = λ i. option_map (λ v. v.place) (slice_get (program_parts p) i) in
    let places : f.place ≡ g.place = some_same (sym h.place ∙ (ap place_at one.0 ∙ k.place)) in
    h.fault ∙ (ap (λ q. fault_at q (kind_of h.rule)) places ∙ (ap (fault_at g.place) (one_kind h.rule k.rule one.1) ∙ sym k.fault))

pub scoped_has_none : (p : EflProgram) (f : Fault) → IsScoped p → IsFirst p f → ⊥
scoped_has_none p f clean h = true≢false (sym h.first.broken ∙ clean.clean h.part h.rule)
