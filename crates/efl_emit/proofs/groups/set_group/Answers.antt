-- The statement of one group.
use Rattle.std.proofs.Common.{refl, subst}
use Rattle.std.proofs.lemmas.Result.{IfOk-weaker}
use Rattle.ground.specs.declared.value.Kind.TheVariants.{Integer}
use Rattle.efl_emit.specs.Names.{emission_of}
use Rattle.efl_emit.specs.Parts.{IsSet}
use Rattle.efl_emit.proofs.Operands.{item_is}
use Rattle.efl_emit.proofs.groups.set_group.Goals as goal

pub returns : goal.returns
returns c =
    IfOk-weaker c.set_temporary.result _ _ (λ r h. subst (λ v. IsSet c.args.place Integer c.args.number v r (emission_of c.args.out.now) (emission_of c.set_temporary.new.out)) (item_is c.in_ok-applied.ensures c.in_ok-name.ensures refl) h) c.set_temporary.ensures
