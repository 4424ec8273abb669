-- The first rule of several lists.
use Rattle.std.proofs.Common.{◌≡◌, ◌≤◌, ◌+◌, zero, suc, drop, true, refl, if◌then◌else◌, List, [], ◌++◌, Option, is_none, nat_lt, nat_eq, sum_by, Bool, false, not, ◌&&◌, ◌||◌, ℕ, sym, ap, ◌∙◌, arith}
use Rattle.std.specs.List.{list_any}
use Rattle.rule_table.specs.Words.{is_some_and}
use Rattle.ground.specs.declared.value.Kind.{Kind}
use Rattle.efl_tree.specs.Syntax.{EflPreset, EflProcedure}
use Rattle.efl_tree.specs.declared.declaration.EflBound.{EflBound}
use Rattle.efl_scope.specs.DataTypes.{DataType, Scalar, Structured, Array, NoType, places, is_large}
use Rattle.efl_scope.specs.Scopes.{meaning}
use Rattle.efl_types.specs.declared.rule.TypeRule.{TypeRule}
use Rattle.efl_types.specs.declared.rule.TypeRule.TheVariants.{TypeClash, WrongCount, BadConstant, NotAssignable}
use Rattle.efl_types.specs.Signatures.{Names, variable_type}
use Rattle.efl_types.specs.Types.{target_type, is_single}
use Rattle.efl_types.specs.Expressions.{when, place_faults, store_faults}
use Rattle.efl_types.specs.Presets.{first_name, may_begin, offset, kinds_of, kinds_if_small, kinds_from, misfit, is_open_array, overflows, preset_faults}
use Rattle.efl_scoped.specs.Numbers.{Table}
use Rattle.efl_scoped.specs.declared.summaries.Summary.{Summary}
use Rattle.efl_scoped.specs.Told.{Tells}
use Rattle.efl_expressions.specs.declared.types.Structure.{Structure}
use Rattle.efl_expressions.specs.declared.types.Element.{Element}
use Rattle.efl_expressions.specs.declared.types.Element.TheVariants as elements
use Rattle.efl_expressions.specs.TypeViews.{Is}
use Rattle.efl_expressions.specs.FirstRule.{or_lower, first_rule}
use Rattle.efl_expressions.proofs.RuleLemmas.{first_of_both}
use Rattle.efl_initial_values.specs.Filling.{Values}
use Rattle.efl_initial_values.proofs.KindLemmas.{misfit_nothing}

pub lower_more : (rs ss : List TypeRule) (a b r : Option TypeRule) → first_rule rs ≡ a → b ≡ first_rule ss → r ≡ or_lower a b → first_rule (rs ++ ss) ≡ r
lower_more rs ss a b r one two is = first_of_both rs ss ∙ ap (λ x. or_lower x (first_rule ss)) one ∙ ap (or_lower a) (sym two) ∙ sym is

not_large : (p : ℕ) → nat_lt 32767 p ≡ false → p ≤ 32767
not_large p is = grind (arith, is)

pub small_exact : (f : Table) (t : DataType) (s : Summary) → Tells f t s → is_large t ≡ false → s.places ≡ places t
small_exact f t s tells small = let few = not_large (places t) small in let told = tells.places in omega (arith, few, told)

pub small_few : (f : Table) (t : DataType) (s : Summary) → Tells f t s → is_large t ≡ false → s.places ≤ 32767
small_few f t s tells small = let few = not_large (places t) small in let told = tells.places in omega (arith, few, told)

-- ---- what is too large ----

pub or_left : (a b : Bool) → (a || b) ≡ false → a ≡ false
or_left false b is = refl
or_left true b is = absurd (let d : true ≡ false = is in cc)

-- the bounds of a type in memory have a `*` where it is an array with one
pub open_is : (f : Table) (ss : List Structure) (t : DataType) (cs : List EflBound) (e : Element) → Is f ss t cs e → list_any (λ b. is_none b.high) cs ≡ is_open_array t
open_is f ss (Array bs t) cs e it = ap (list_any (λ b. is_none b.high)) it.0
open_is f ss (Scalar k) cs e it = ap (list_any (λ b. is_none b.high)) it.0
open_is f ss (Structured ms) cs (elements.Structured i) it = ap (list_any (λ b. is_none b.high)) it.0
open_is f ss (Structured ms) cs elements.NoType it = absurd it
open_is f ss (Structured ms) cs (elements.Scalar k) it = absurd it
open_is f ss NoType cs e it = ap (list_any (λ b. is_none b.high)) it.0

pub large_fits : (t : DataType) (n : ℕ) (o : Option ℕ) → (is_large t || is_open_array t) ≡ true → false ≡ overflows t n o
large_fits t n o large = sym (ap (λ b. not b && is_some_and (λ i. nat_lt (places t) (i + n)) o) large)

pub small_overflows : (t : DataType) (n : ℕ) (o : Option ℕ) → (is_large t || is_open_array t) ≡ false → is_some_and (λ i. nat_lt (places t) (i + n)) o ≡ overflows t n o
small_overflows t n o small = sym (ap (λ b. not b && is_some_and (λ i. nat_lt (places t) (i + n)) o) small)

pub large_matches : (t : DataType) (i : ℕ) (cs : Values) → is_large t ≡ true → false ≡ misfit (drop i (kinds_if_small t)) cs
large_matches t i cs large = sym (ap (λ b. misfit (drop i (if b then [] else kinds_of t)) cs) large ∙ ap (λ ks. misfit ks cs) (nothing i) ∙ misfit_nothing cs)
  where
    nothing : (i : ℕ) → drop {A = Kind} i [] ≡ []
    nothing zero = refl
    nothing (suc i) = refl

pub small_matches : (t : DataType) (i : ℕ) (cs : Values) → is_large t ≡ false → misfit (drop i (kinds_of t)) cs ≡ misfit (drop i (kinds_if_small t)) cs
small_matches t i cs small = sym (ap (λ b. misfit (drop i (if b then [] else kinds_of t)) cs) small)

-- ---- all rules ----

-- the rules of a preset, by what is known of its values and of whether it may be
abbrev pub rules_told : Names → EflPreset → Values → Bool → List TypeRule
rules_told n p cs may = let t = variable_type n (first_name p.place) in let o = offset t p.place in
    place_faults n p.place ++ store_faults n p.place ++ when (not p.listed && not (is_single (target_type n p.place))) TypeClash
    ++ when (overflows t (sum_by (λ c. c.0) cs) o) WrongCount
    ++ when (list_any (λ c. nat_eq c.0 0) cs || misfit (kinds_from o t (target_type n p.place)) cs) BadConstant
    ++ when (is_none o || not may) NotAssignable

pub rule_of_preset : (u : EflProcedure) (n : Names) (is_outer : Bool) (p : EflPreset) (cs : Values) → cs ≡ p.values → (may : Bool) → may_begin u is_outer (meaning n.blocks (first_name p.place)) ≡ may → (r : Option TypeRule) →
    r ≡ first_rule (rules_told n p cs may) → r ≡ first_rule (preset_faults u n is_outer p)
rule_of_preset u n is_outer p cs at may is r same = same ∙ ap (λ xs. first_rule (rules_told n p xs may)) at ∙ sym (ap (λ m. first_rule (rules_told n p p.values m)) is)
