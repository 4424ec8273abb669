-- Behind the faults of the whole program.
use Rattle.std.proofs.Common.{◌≡◌, None, sym, ◌∙◌, subst, rules}
use Rattle.std.specs.Prelude.{Err}
use Rattle.efl_tree.specs.Views.{program_of}
use Rattle.front.specs.Checked.{Faulty}
use Rattle.front.specs.Efl.{IsTyped}
use Rattle.front.specs.Translated.{Finds}
use Rattle.front.proofs.EflPrograms.{whole_refused, built_found, unbuilt_told, all_accepted}
use Rattle.front.proofs.efl.made_of_typed.Goals as goal

pub returns-in_err-whole : goal.returns-in_err-whole
returns-in_err-whole c =
    let tree = program_of c.args.program.now in
    let gone : c.from_residual.result ≡ Err c.in_err-whole.field-0.0 = search rules in
    subst (Finds (IsTyped tree None)) (sym gone) (whole_refused tree c.in_err-whole.field-0.0 c.in_err-whole.ensures.refused)

pub returns-in-Some : goal.returns-in-Some
returns-in-Some c =
    let tree = program_of c.args.program.now in
    subst (λ f. IsTyped tree None (Faulty f)) (sym c.new.ensures) (unbuilt_told tree c.in-Some.place c.in_ok-whole.ensures.accepted (sym c.first_unbuilt.ensures ∙ c.in-Some.is))

pub made_of_built-requires-clause-accepted : goal.made_of_built-requires-clause-accepted
made_of_built-requires-clause-accepted c = all_accepted (program_of c.args.program.now) c.requires.text c.requires.scoped c.requires.typed c.in_ok-whole.ensures.accepted (sym c.first_unbuilt.ensures ∙ c.in-None.is)

pub returns-in-None : goal.returns-in-None
returns-in-None c = built_found (program_of c.args.program.now) c.made_of_built.result c.in_ok-whole.ensures.accepted (sym c.first_unbuilt.ensures ∙ c.in-None.is) c.made_of_built.ensures
