-- Where it has a name.
use Rattle.std.proofs.Common.{◌≡◌, Some, None, subst, if◌then◌else◌}
use Rattle.std.specs.Option.{option_or}
use Rattle.std.specs.Str.{bytes_eq}
use Rattle.std.proofs.lemmas.Result.{on_ok_weaker}
use Rattle.efl_tree.specs.Syntax.{Text}
use Rattle.efl_tree.specs.Views.{procedure_of}
use Rattle.efl_names.specs.NameViews.{unit_in}
use Rattle.efl_blocks.proofs.ProcedureLemmas.{unit_comes, no_unit}
use Rattle.efl_blocks.proofs.procedures.add_unit.Goals as goal

pub returns-in-None : goal.returns-in-None
returns-in-None c = no_unit (procedure_of c.args.procedure.now) c.args.outer.now c.args.units.now c.in-None.is

pub returns-in_ok-made-in-Some : goal.returns-in_ok-made-in-Some
returns-in_ok-made-in-Some c =
    let old = c.args.units.now in
    let new = c.add.new.self in
    let s = c.in_ok-made-in-Some.made in
    on_ok_weaker c.add.result
    (λ comes. unit_comes (procedure_of c.args.procedure.now) c.args.outer.now old new c.in-Some.name s c.in-Some.is c.in_ok-made-in-Some.ensures
    (subst (λ x. (q : Text) → unit_in new q ≡ option_or (unit_in old q) (if bytes_eq q x then Some s else None)) c.as_bytes.ensures comes))
    c.add.ensures
