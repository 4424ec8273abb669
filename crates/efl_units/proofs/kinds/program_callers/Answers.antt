-- The callers are those of the calls of the program, in as many groups as it has procedures.
use Rattle.std.proofs.Common.{[], ◌∙◌, sym, ap, map, replicate, length}
use Rattle.std.specs.Prelude.{vec_len}
use Rattle.std.proofs.Common.{rules, ◌≡◌}
use Rattle.std.proofs.lemmas.List.{length-map}
use Rattle.std.proofs.lemmas.Result.{IfOk-weaker}
use Rattle.efl_tree.specs.Views.{procedure_of, program_of}
use Rattle.efl_types.specs.Whole.{edges_of}
use Rattle.efl_units.specs.Groups.{put_all}
use Rattle.efl_units.proofs.kinds.program_callers.Goals as goal

pub returns : goal.returns
returns c =
    let p = program_of c.args.program.now in
    let whole : vec_len c.args.program.now.procedures ≡ length c.args.program.now.procedures.items = search rules in
    let many : c.len.result ≡ length p.procedures = c.len.ensures ∙ whole ∙ sym (length-map c.args.program.now.procedures.items procedure_of) in
    let calls = c.deref.ensures.value ∙ c.in_ok-edges.ensures in
    IfOk-weaker c.callers.result _ _ (λ r h. h ∙ ap (λ es. put_all (map (λ e. (e.to, e.from)) es) (replicate c.len.result [])) calls ∙ ap (λ n. put_all (map (λ e. (e.to, e.from)) (edges_of p)) (replicate n [])) many) c.callers.ensures
