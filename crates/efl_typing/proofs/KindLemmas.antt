-- What statements are, kind by kind.
use Rattle.std.proofs.Common.{◌≡◌, ℕ, true, false, ◌||◌, List, [], ◌∷◌, Option, Some, None, Vec, Global, map, option_map, refl, ap, ◌∙◌}
use Rattle.std.specs.Borrow.{Bor}
use Rattle.std.specs.List.{list_any}
use Rattle.std.specs.declared.boxed.Box.{Box}
use Rattle.ground.specs.declared.place.Place.{Place}
use Rattle.efl_tree.specs.declared.statement.LoopKind.{LoopKind}
use Rattle.efl_tree.specs.declared.statement.LoopKind.TheVariants as loops
use Rattle.efl_tree.specs.Syntax.{Text, EflExpr, EflDecl, EflStmt, EflKind, EflStmts, EflCases}
use Rattle.efl_tree.specs.Syntax as efl
use Rattle.efl_scope.specs.Parts.{Until, part, into, in_loop, in_list, opening, opened, declarations_in, parts_of, parts_in}
use Rattle.efl_program.specs.Typed as program
use Rattle.efl_typed.specs.Typing.{Context, within}
use Rattle.efl_typed.specs.Typing as typing
use Rattle.efl_typed_tree.specs.declared.expression.TypedExpr.{TypedExpr}
use Rattle.efl_typed_tree.specs.declared.statement.TypedAction.{TypedAction}
use Rattle.efl_typed_tree.specs.declared.statement.TypedRange.{TypedRange}
use Rattle.efl_typed_tree.specs.declared.statement.TypedReadItem.{TypedReadItem}
use Rattle.efl_typed_tree.specs.declared.statement.TypedWriteItem.{TypedWriteItem}
use Rattle.efl_typed_tree.specs.declared.statement.TypedStmt.{TypedStmt}
use Rattle.efl_typed_tree.specs.declared.statement.TypedClause.{TypedClause}
use Rattle.efl_typed_tree.specs.declared.statement.TypedKind.TheVariants as kinds
use Rattle.efl_typed_tree.specs.Views as views
use Rattle.efl_typed_tree.proofs.Rows.{block_kind, switch_kind}
use Rattle.efl_built.specs.Unbuilt.{unbuilt_expr, unbuilt_if_any, unbuilt_written, unbuilt_read, are_built}
use Rattle.efl_bindings.specs.declared.scopes.Table.{Table}
use Rattle.efl_bindings.specs.declared.scopes.Scopes.{Scopes}
use Rattle.efl_bindings.specs.declared.scopes.Scopes.TheVariants.{Inside}
use Rattle.efl_bindings.specs.declared.sites.Site.{Site}
use Rattle.efl_bindings.specs.Sites.{IsSite, IsInside}
use Rattle.efl_bindings.specs.Typed.{IsTyped, IsTypedIfAny, IsActionIfAny}
use Rattle.efl_bindings.proofs.SiteLemmas.{in_loop_site, in_list_site}
use Rattle.efl_typing.specs.Statements.{IsStatement, IsStatementIn, IsKind, IsEither, IsBlock, AreStatements, AreClauses, IsRange}
use Rattle.efl_typing.proofs.BuiltLemmas.{or_left, or_right, before_built, behind_built, first_built, declarations_built}

-- the statement in a loop
body_made : (k : LoopKind) (s : EflStmt) (at : Site) (t : TypedStmt) → IsStatement s at t → (c : Context) → IsSite c at → are_built (parts_of (in_loop k c.around) s) ≡ true →
    views.stmt_of t ≡ typing.stmt_of (within c (in_loop k c.around)) s
body_made k s at t typed c here built = typed.is (within c (in_loop k c.around)) (in_loop_site k c at here) built

-- ---- choices ----

pub if_made : (e : EflExpr) (s : EflStmt) (at : Site) (x : TypedExpr) (b : Box TypedStmt Global) → IsTyped at e x → IsStatement s at b.value → IsKind (efl.If e s) at (kinds.If x b None)
if_made e s at x b test body = record {
  is = λ c p here plain built. ap (λ y. program.If p y (views.stmt_of b.value)) (test c here plain) ∙ ap (program.If p (typing.expr_of c e)) (body.is c here built);
}

pub either_made : (e : EflExpr) (other : EflStmt) (at : Site) (x : TypedExpr) (b d : Box TypedStmt Global) → IsTyped at e x → IsStatementIn 1 other at d.value →
    IsEither e other at b.value (kinds.If x b (Some d))
either_made e other at x b d test behind = record {
  is = λ s first. record {
    is = λ c p here plain built.
        let own = first.is c here (before_built (parts_of (into 0 c.around) s) (parts_of (into 1 c.around) other) built) in
        let others = behind.is c here (behind_built (parts_of (into 0 c.around) s) (parts_of (into 1 c.around) other) built) in
        ap (λ y. program.IfElse p y (views.stmt_of b.value) (views.stmt_of d.value)) (test c here plain)
        ∙ ap (λ y. program.IfElse p (typing.expr_of c e) y (views.stmt_of d.value)) own ∙ ap (program.IfElse p (typing.expr_of c e) (typing.stmt_of (within c (into 0 c.around)) s)) others;
  };
}

pub switch_made : (e : EflExpr) (cs : EflCases) (at : Site) (x : TypedExpr) (list : Vec TypedClause Global) → IsTyped at e x → AreClauses cs at list.items → IsKind (efl.Switch e cs) at (kinds.Switch x list)
switch_made e cs at x list test typed = record {
  is = λ c p here plain built.
      let inside = within c (in_loop loops.Switch c.around) in
      switch_kind p x list ∙ ap (λ y. program.Switch p y (views.clauses_of list.items)) (test c here plain)
      ∙ ap (program.Switch p (typing.expr_of c e)) (typed.are inside [] false (in_loop_site loops.Switch c at here) built);
}

-- ---- input and output ----

pub write_made : (o : Option EflExpr) (all : List efl.WriteItem) (at : Site) (x : Option TypedExpr) (items : Vec TypedWriteItem Global) → IsTypedIfAny at o x →
    ((c : Context) → IsSite c at → list_any unbuilt_written all ≡ false → views.write_items_of items.items ≡ map (typing.written c) all) → IsKind (efl.Write o all) at (kinds.Write x items)
write_made o all at x items unit typed = record {
  is = λ c p here plain built.
      ap (λ y. program.Write p y (views.write_items_of items.items)) (unit c here (or_left (unbuilt_if_any o) (list_any unbuilt_written all) plain))
      ∙ ap (program.Write p (option_map (typing.expr_of c) o)) (typed c here (or_right (unbuilt_if_any o) (list_any unbuilt_written all) plain));
}

pub read_made : (o : Option EflExpr) (all : List efl.ReadItem) (at : Site) (x : Option TypedExpr) (items : Vec TypedReadItem Global) → IsTypedIfAny at o x →
    ((c : Context) → IsSite c at → list_any unbuilt_read all ≡ false → views.read_items_of items.items ≡ map (typing.taken c) all) → IsKind (efl.Read o all) at (kinds.Read x items)
read_made o all at x items unit typed = record {
  is = λ c p here plain built.
      ap (λ y. program.Read p y (views.read_items_of items.items)) (unit c here (or_left (unbuilt_if_any o) (list_any unbuilt_read all) plain))
      ∙ ap (program.Read p (option_map (typing.expr_of c) o)) (typed c here (or_right (unbuilt_if_any o) (list_any unbuilt_read all) plain));
}

-- ---- loops ----

pub while_made : (e : EflExpr) (s : EflStmt) (at : Site) (x : TypedExpr) (b : Box TypedStmt Global) → IsTyped at e x → IsStatement s at b.value → IsKind (efl.While e s) at (kinds.While x b)
while_made e s at x b test body = record {
  is = λ c p here plain built.
      ap (λ y. program.While p y (views.stmt_of b.value)) (test c here plain) ∙ ap (program.While p (typing.expr_of c e)) (body_made loops.While s at b.value body c here built);
}

pub for_made : (a e d : Option EflExpr) (s : EflStmt) (at : Site) (x : Option TypedAction) (y : Option TypedExpr) (z : Option TypedAction) (b : Box TypedStmt Global) →
    IsActionIfAny at a x → IsTypedIfAny at e y → IsActionIfAny at d z → IsStatement s at b.value → IsKind (efl.For a e d s) at (kinds.For x y z b)
for_made a e d s at x y z b first test step body = record {
  is = λ c p here plain built.
      let others = or_right (unbuilt_if_any a) (unbuilt_if_any e || unbuilt_if_any d) plain in
      let first_is = first c here (or_left (unbuilt_if_any a) (unbuilt_if_any e || unbuilt_if_any d) plain) in
      let test_is = test c here (or_left (unbuilt_if_any e) (unbuilt_if_any d) others) in
      let step_is = step c here (or_right (unbuilt_if_any e) (unbuilt_if_any d) others) in
      ap (λ u. program.For p u (option_map views.expr_of y) (option_map views.action_of z) (views.stmt_of b.value)) first_is
      ∙ ap (λ u. program.For p (option_map (typing.action_of c) a) u (option_map views.action_of z) (views.stmt_of b.value)) test_is
      ∙ ap (λ u. program.For p (option_map (typing.action_of c) a) (option_map (typing.expr_of c) e) u (views.stmt_of b.value)) step_is
      ∙ ap (program.For p (option_map (typing.action_of c) a) (option_map (typing.expr_of c) e) (option_map (typing.action_of c) d)) (body_made loops.For s at b.value body c here built);
}

pub repeat_made : (s : EflStmt) (at : Site) (b : Box TypedStmt Global) → IsStatement s at b.value → IsKind (efl.Repeat s) at (kinds.Repeat b None)
repeat_made s at b body = record { is = λ c p here plain built. ap (program.Repeat p) (body_made loops.Repeat s at b.value body c here built) }

pub until_made : (s : EflStmt) (e : EflExpr) (q : Place) (at : Site) (b : Box TypedStmt Global) (x : TypedExpr) → IsStatement s at b.value → IsTyped at e x →
    IsKind (efl.RepeatUntil s e q) at (kinds.Repeat b (Some (x, q)))
until_made s e q at b x body test = record {
  is = λ c p here plain built.
      let inside = parts_of (in_loop loops.Repeat c.around) s in
      let own = body_made loops.Repeat s at b.value body c here (before_built inside (part c.around q (Until e) ∷ []) built) in
      let free = first_built (part c.around q (Until e)) [] (behind_built inside (part c.around q (Until e) ∷ []) built) in
      ap (λ u. program.RepeatUntil p u (views.expr_of x) q) own ∙ ap (λ u. program.RepeatUntil p (typing.stmt_of (within c (in_loop loops.Repeat c.around)) s) u q) (test c here free);
}

pub do_made : (x : Text) (a b : EflExpr) (d : Option EflExpr) (s : EflStmt) (at : Site) (v : ℕ) (r : TypedRange) (t : Box TypedStmt Global) → ((c : Context) → IsSite c at → v ≡ typing.numbered c x) →
    IsRange a b d at r → IsStatement s at t.value → IsKind (efl.Do x a b d s) at (kinds.Do v r t)
do_made x a b d s at v r t named range body = record {
  is = λ c p here plain built.
      let others = or_right (unbuilt_expr a) (unbuilt_expr b || unbuilt_if_any d) plain in
      let first_is = range.first_is c here (or_left (unbuilt_expr a) (unbuilt_expr b || unbuilt_if_any d) plain) in
      let last_is = range.last_is c here (or_left (unbuilt_expr b) (unbuilt_if_any d) others) in
      let step_is = range.step_is c here (or_right (unbuilt_expr b) (unbuilt_if_any d) others) in
      ap (λ n. program.Do p n (views.expr_of r.first) (views.expr_of r.last) (option_map views.expr_of r.step) (views.stmt_of t.value)) (named c here)
      ∙ ap (λ u. program.Do p (typing.numbered c x) u (views.expr_of r.last) (option_map views.expr_of r.step) (views.stmt_of t.value)) first_is
      ∙ ap (λ u. program.Do p (typing.numbered c x) (typing.expr_of c a) u (option_map views.expr_of r.step) (views.stmt_of t.value)) last_is
      ∙ ap (λ u. program.Do p (typing.numbered c x) (typing.expr_of c a) (typing.expr_of c b) u (views.stmt_of t.value)) step_is
      ∙ ap (program.Do p (typing.numbered c x) (typing.expr_of c a) (typing.expr_of c b) (option_map (typing.expr_of c) d)) (body_made loops.Do s at t.value body c here built);
}

-- ---- a block ----

pub inside_made : (t : Table) (outside inner : Site) (table : Bor Table) (scopes : Bor Scopes) → inner ≡ record outside { scopes = scopes } → scopes.now ≡ Inside table outside.scopes → table.now ≡ t →
    IsInside t outside inner
inside_made t outside inner table scopes same opened is = record {
  unit = ap (λ s. s.unit) same;
  place = ap (λ s. s.place) same;
  procedures = ap (λ s. s.procedures.now) same;
  letters = ap (λ s. s.letters.now) same;
  variables = ap (λ s. s.variables.now) same;
  table = table;
  around = outside.scopes;
  scopes = ap (λ s. s.scopes.now) same ∙ opened;
  table_is = is;
  around_is = refl;
}

pub block_made : (ss : EflStmts) (at inner : Site) (table : Table) (list : Vec TypedStmt Global) → IsInside table at inner → AreStatements ss inner list.items → IsBlock ss table at (kinds.Block list)
block_made ss at inner table list inside typed = record {
  is = λ ds opens. record {
    is = λ c p here plain built.
        let declared = declarations_in (opening ds c.around) [] ds in
        let stated = parts_in 0 (in_list ss (opened ds c.around)) ss in
        let block = within c (opened ds c.around) in
        let there = opens c inner here (declarations_built (opening ds c.around) [] ds (before_built declared stated built)) inside in
        block_kind p list ∙ ap (program.Block p) (typed.are (within block (in_list ss block.around)) (in_list_site ss block inner there) (behind_built declared stated built));
  };
}
