-- The groups are those of the variables and functions of the program.
use Rattle.std.proofs.Common.{rules, ◌≡◌, [], ◌∙◌, sym, ap, map, replicate, length}
use Rattle.std.specs.Prelude.{vec_len}
use Rattle.std.proofs.lemmas.List.{length-map}
use Rattle.efl_tree.specs.Views.{procedure_of, program_of}
use Rattle.efl_scoped.specs.Seen.{table_of}
use Rattle.efl_units.specs.Groups.{groups_of, put_all, owned_in, called_in}
use Rattle.efl_units.proofs.TypedLemmas.{variables_are, functions_are}
use Rattle.efl_units.proofs.kinds.of_kind.Goals as goal

pub returns : goal.returns
returns c = λ are.
    let p = program_of c.args.program.now in
    let k = c.args.kind in
    let whole : vec_len c.args.program.now.procedures ≡ length c.args.program.now.procedures.items = search rules in
    let many : c.len-count.result ≡ length p.procedures = c.len-count.ensures ∙ whole ∙ sym (length-map c.args.program.now.procedures.items procedure_of) in
    let gs = groups_of c.args.callers.now in
    let functions = c.in_ok-functions.ensures ∙ ap (λ us. put_all (called_in k gs 0 (map procedure_of us)) (replicate c.len-count.result [])) c.deref.ensures.value ∙ ap (λ n. put_all (called_in k gs 0 p.procedures) (replicate n [])) many in
    let list = c.args.variables.now.list.items in
    let variables = c.in_ok-variables.ensures ∙ ap (λ vs. put_all (owned_in k 0 vs) (replicate c.len-count.result [])) c.deref-2.ensures.value ∙ ap (λ n. put_all (owned_in k 0 list) (replicate n [])) many in
    record { variables = variables_are p k (table_of c.args.variables.now.numbers) list _ are.listed variables; functions = functions_are p k gs _ c.requires functions }
