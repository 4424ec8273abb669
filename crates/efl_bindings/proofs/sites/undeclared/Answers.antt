-- A variable of the outermost block, of its letter's type.
use Rattle.std.proofs.Common.{refl, sym, ap, ◌∙◌}
use Rattle.efl_scope.specs.Marks.{by_letter_of, number_of}
use Rattle.efl_program.specs.Typed as program
use Rattle.efl_bindings.proofs.sites.undeclared.Goals as goal

pub returns : goal.returns
returns c = λ at is.
    let v = by_letter_of at.names.implied c.args.name.now in
    record {
      number = c.number.ensures at.variables v (record { variables = is.variables; numbered = refl }) refl ∙ ap (λ n. number_of at.variables n v) is.unit;
      kind = is.letters c.args.name.now ∙ ap program.Scalar (sym c.kind.ensures);
    }
