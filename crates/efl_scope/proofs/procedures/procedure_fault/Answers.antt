-- The header, its type, the declarations and the body, one behind the other.
use Rattle.std.proofs.Common.{ap, ◌∙◌}
use Rattle.efl_tree.specs.Views.{procedure_of, decls_of, stmts_of}
use Rattle.efl_scope.specs.declared.blocks.Blocks.TheBlock.{Outside}
use Rattle.efl_scope.specs.ScopeRules.{no_name}
use Rattle.efl_scope.specs.Sights.{either, nothing_declared, declaring_all, Walk, starting, noting, declarations_seen, opening_seen, reaching, statements_seen}
use Rattle.efl_scope.specs.AreaViews.{agreeing_of}
use Rattle.efl_scope.specs.NameViews.{declared_of}
use Rattle.efl_scope.specs.WalkViews.{walk_of, sight_of}
use Rattle.efl_scope.proofs.TreeLemmas.{around_body, procedure_passed}
use Rattle.efl_scope.proofs.procedures.procedure_fault.Goals as goal

pub returns : goal.returns
returns c =
    let agreeing = agreeing_of c.args.agreeing.now in
    let place = c.args.procedure.now.place in
    let f = declared_of c.declare_formals.new.declared in
    let out = either f.names no_name in
    let w2 = walk_of c.see_header_type.new.walk in
    let s = sight_of c.in_ok-kinds.kinds Outside c.see_block_declarations.new.walk in
    ap (λ (w : Walk). w.fault)
    (procedure_passed agreeing (procedure_of c.args.procedure.now) f (walk_of c.note.new.self) w2 (walk_of c.see_list_of.new.walk) s
    (c.in_ok-declare_formals.ensures ∙ ap (declaring_all no_name c.deref.result.now) c.new-formals.ensures ∙ ap (λ fs. declaring_all no_name fs nothing_declared) c.deref.ensures.value)
    (c.note.ensures ∙ ap (noting place c.header_rule.result) c.new-walk.ensures ∙ ap (λ r. noting place r starting) c.header_rule.ensures)
    c.in_ok-see_header_type.ensures
    (c.in_ok-kinds.ensures ∙ ap (λ ns. (declarations_seen agreeing out (decls_of c.deref-2.result.now) (opening_seen ns w2)).sight) (c.new.ensures no_name)
    ∙ ap (λ ds. (declarations_seen agreeing out (decls_of ds) (opening_seen no_name w2)).sight) c.deref-2.ensures.value)
    (c.in_ok-see_list_of.ensures ∙ ap (λ ss. statements_seen agreeing (reaching (stmts_of ss) (around_body s.known)) (stmts_of ss) s.walk) c.deref-3.ensures.value))
