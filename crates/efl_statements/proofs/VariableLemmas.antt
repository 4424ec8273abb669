-- Variables of one type, one by one.
use Rattle.std.proofs.Common.{◌≡◌, List, [], ◌∷◌, Option, None, refl, sym, ap, ◌∙◌}
use Rattle.efl_tree.specs.Syntax.{Text, EflVar}
use Rattle.efl_scope.specs.DataTypes.{DataType}
use Rattle.efl_scope.specs.ScopeRules.{holds}
use Rattle.efl_types.specs.declared.rule.TypeRule.{TypeRule}
use Rattle.efl_types.specs.Declarations.{size_faults}
use Rattle.efl_scoped.specs.declared.summaries.Summary.{Summary}
use Rattle.efl_scoped.specs.Numbers.{Table, Grows}
use Rattle.efl_scoped.specs.Told.{Tells}
use Rattle.efl_scoped.proofs.WordLemmas.{grows_same, grows_on}
use Rattle.efl_scoped.proofs.MemberLemmas.{tells_later}
use Rattle.efl_expressions.specs.FirstRule.{or_lower, first_rule}
use Rattle.efl_places.proofs.RuleLemmas.{passed, ended}
use Rattle.efl_statements.proofs.WidthLemmas.{all_rule, all_next}

-- what a variable breaks
abbrev pub own_sizes : List Text → DataType → EflVar → List TypeRule
own_sizes formals t v = size_faults (holds formals v.name) t v

-- those before have been seen
pub record SizesLeft (formals : List Text) (f : Table) (s : Summary) (vs : List EflVar) (g : Table) (rule : Option TypeRule) (rest : List EflVar) : Type 0 where
  pub grows : Grows f g
  pub left : (t : DataType) → Tells f t s → or_lower rule (all_rule (own_sizes formals t) rest) ≡ all_rule (own_sizes formals t) vs

pub sizes_begun : (formals : List Text) (f : Table) (s : Summary) (vs : List EflVar) → SizesLeft formals f s vs f None vs
sizes_begun formals f s vs = record { grows = grows_same f; left = λ t told. refl }

pub size_passed : (formals : List Text) (f g h : Table) (s : Summary) (vs : List EflVar) (before own now : Option TypeRule) (v : EflVar) (rest : List EflVar) →
    SizesLeft formals f s vs g before (v ∷ rest) → Grows g h → ((t : DataType) → Tells g t s → own ≡ first_rule (own_sizes formals t v)) → now ≡ or_lower before own →
    SizesLeft formals f s vs h now rest
size_passed formals f g h s vs before own now v rest left more first is = record {
  grows = grows_on f g h left.grows more;
  left = λ t told.
      let its = own_sizes formals t in
      passed before now own (all_rule its (v ∷ rest)) (all_rule its rest) (all_rule its vs)
      (all_next its v rest ∙ ap (λ o. or_lower o (all_rule its rest)) (sym (first t (tells_later f g t s left.grows told)))) is (left.left t told);
}

pub sizes_ended : (formals : List Text) (f g : Table) (s : Summary) (vs : List EflVar) (rule : Option TypeRule) → SizesLeft formals f s vs g rule [] →
    (t : DataType) → Tells f t s → rule ≡ all_rule (own_sizes formals t) vs
sizes_ended formals f g s vs rule left t told = ended rule (all_rule (own_sizes formals t) []) (all_rule (own_sizes formals t) vs) refl (left.left t told)
