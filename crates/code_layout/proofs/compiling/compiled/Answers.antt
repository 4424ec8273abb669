-- The layout is one by ranks, and its code is valid.
use Rattle.std.proofs.lemmas.Result.{IfOk-weaker}
use Rattle.call_ranks.proofs.RankLemmas.{whole_ranks}
use Rattle.linker.specs.CallViews.{units_in}
use Rattle.stack_code.specs.declared.valid.Code.{Code}
use Rattle.stack_code.specs.Bounds.{IsVerified}
use Rattle.code_layout.specs.Compiled.{IsCompiled}
use Rattle.code_layout.specs.Tabled.{layout_in}
use Rattle.code_layout.proofs.CompileLemmas.{main_inside, is_valid, is_compiled}
use Rattle.code_layout.proofs.compiling.compiled.Goals as goal

pub placed-requires-clause-ranked : goal.placed-requires-clause-ranked
placed-requires-clause-ranked c =
    let is = c.requires.sound in
    whole_ranks (record { units = units_in c.args.tables.now.linked.now.calls; finish = is.finish }) is.whole

pub placed-requires-clause-main : goal.placed-requires-clause-main
placed-requires-clause-main c = main_inside c.args.tables.now.linked.now c.requires.sound

pub checked-requires : goal.checked-requires
checked-requires c =
    let l = c.args.tables.now.linked.now in
    let at = c.in_ok-spread.ensures in
    is_valid l c.requires.sound at.rank at.falls (layout_in c.args.tables.now c.in_ok-spread.spread) c.in_ok-made.made c.in_ok-made.size at.laid c.in_ok-made.ensures

pub returns : goal.returns
returns c =
    let l = c.args.tables.now.linked.now in
    let at = c.in_ok-spread.ensures in
    let y = layout_in c.args.tables.now c.in_ok-spread.spread in
    IfOk-weaker c.checked.result
    (λ (code : Code). IsVerified c.in_ok-made.made.ops.items c.in_ok-made.made.plans.items c.in_ok-made.size code.ops.items code.plans.items code.units code.stack code.dummies code.depth)
    (λ (code : Code). IsCompiled l code)
    (λ code verified. is_compiled l c.requires.sound at.rank at.falls y c.in_ok-made.made c.in_ok-made.size at.laid c.in_ok-made.ensures code verified)
    c.checked.ensures
