-- The lines are those of the unit, one after another.
use Rattle.std.proofs.Common.{List, [], ◌∙◌, ◌++◌, ap}
use Rattle.routes.specs.Code.{all_code}
use Rattle.routes.specs.Units.{ending}
use Rattle.f66_tree.specs.Syntax.{Line}
use Rattle.f66_tree.specs.Views.{lines_of as lines_seen}
use Rattle.efl_routes.specs.Statements.{all_route}
use Rattle.efl_tree.specs.Views.{procedure_of}
use Rattle.efl_typed_tree.specs.Views.{stmts_of}
use Rattle.efl_emit.specs.Names.{callee_of, home_of, label_of, made_of, temp_of}
use Rattle.efl_units.specs.NamesSeen.{naming_in}
use Rattle.efl_units.proofs.UnitLemmas.{lines_made, none_is}
use Rattle.efl_units.proofs.lines.unit_lines.Goals as goal

pub returns : goal.returns
returns c = λ p typed inside body own.
    let s = c.args.naming.now in
    let n = c.args.number in
    let before = lines_seen c.put_typed-2.new.lines.items in
    let integers = c.in_ok-put_typed.ensures p typed.integers inside in
    let logicals = c.in_ok-put_typed-2.ensures p typed.logicals inside in
    let code = λ (next : List Line).
    c.in_ok-put_body.ensures next
    ∙ ap (λ o. before ++ all_code (made_of s) (all_route (home_of s) temp_of (callee_of s) (label_of s) o (stmts_of c.args.body.now) [] 0) 0 [] next) own
    ∙ ap (λ ss. before ++ all_code (made_of s) (all_route (home_of s) temp_of (callee_of s) (label_of s) (callee_of s n) ss [] 0) 0 [] next) body in
    let last = c.in_ok-put_ending.ensures ∙ ap (λ b. lines_seen c.put_body.new.lines.items ++ ending b c.args.procedure.now.finish) (none_is c.args.procedure.now.name c.is_none.result c.is_none.ensures) in
    lines_made (naming_in s c.args.room) p n (procedure_of c.args.procedure.now) _ _ before _ _ (ap lines_seen c.new-lines.ensures.items) integers logicals code last
