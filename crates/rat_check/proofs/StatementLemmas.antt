-- The parts of the statements in memory that hold others.
use Rattle.std.proofs.Common.{◌≡◌, ℕ, suc, Option, None, Some, List, ◌∷◌, ◌++◌, Vec, Box, Global, Result, OnOk, false, ap, ◌∙◌, sym}
use Rattle.std.proofs.lemmas.List.{append-nil}
use Rattle.std.proofs.lemmas.Result.{on_ok_weaker}
use Rattle.ground.specs.declared.place.Place.{Place}
use Rattle.f66_tree.specs.declared.expression.Expr.{Expr}
use Rattle.f66_tree.specs.Views.{formula_of}
use Rattle.rat_tree.specs.declared.program.RatStmt.{RatStmt}
use Rattle.rat_tree.specs.declared.program.RatCase.{RatCase}
use Rattle.rat_tree.specs.declared.program.RatKind.TheVariants.{Block, If, Repeat, Switch}
use Rattle.rat_tree.specs.Syntax.{IfElse, RepeatUntil}
use Rattle.rat_tree.specs.Views.{command, command_of, commands, clauses}
use Rattle.rat_tree.proofs.Rows.{block_commands, switch_clauses}
use Rattle.rat_check.specs.Parts.{Labels, Part, part, parts_of, parts_in, clause_parts, with_labels, Bare, RepeatHead, Condition, Selector}
use Rattle.rat_check.specs.FormViews.{other_parts, until_parts}
use Rattle.rat_check.specs.Survey.{is_among, Survey, noting_all}
use Rattle.rat_check.proofs.PartLemmas.{parts-labelled, behind}
use Rattle.rat_tree.specs.Syntax as ratfor_tree

pub block_parts : (k : ℕ) (r : Labels) (s : RatStmt) (list : Vec RatStmt Global) (items : List RatStmt) → s.kind ≡ Block list → items ≡ list.items →
    part k r s.label s.place Bare ∷ parts_in k (with_labels (commands items) r) (commands items) ≡ parts_of k r None (command s)
block_parts k r s list items is at =
    ap (λ xs. part k r s.label s.place Bare ∷ parts_in k (with_labels (commands xs) r) (commands xs)) at
    ∙ sym (ap (λ kind. parts_of k r None (command_of s.label s.place kind)) is ∙ ap (parts_of k r None) (block_commands s.label s.place list)
    ∙ parts-labelled k r s.label s.place (ratfor_tree.Block s.place (commands list.items)))

pub switch_parts : (k : ℕ) (r : Labels) (s : RatStmt) (e : Expr) (list : Vec RatCase Global) (items : List RatCase) → s.kind ≡ Switch e list → items ≡ list.items →
    part k r s.label s.place (Selector (formula_of e)) ∷ clause_parts k r false (clauses items) ≡ parts_of k r None (command s)
switch_parts k r s e list items is at =
    ap (λ xs. part k r s.label s.place (Selector (formula_of e)) ∷ clause_parts k r false (clauses xs)) at
    ∙ sym (ap (λ kind. parts_of k r None (command_of s.label s.place kind)) is ∙ ap (parts_of k r None) (switch_clauses s.label s.place e list)
    ∙ parts-labelled k r s.label s.place (ratfor_tree.Switch s.place (formula_of e) (clauses list.items)))

pub if_parts : (k : ℕ) (r : Labels) (s : RatStmt) (e : Expr) (body : Box RatStmt Global) (other : Option (Box RatStmt Global)) → s.kind ≡ If e body other →
    part k r s.label s.place (Condition (formula_of e)) ∷ (parts_of k r None (command body.value) ++ other_parts k r other) ≡ parts_of k r None (command s)
if_parts k r s e body other is = by other ∙ sym (ap (λ kind. parts_of k r None (command_of s.label s.place kind)) is)
  where
    by : (o : Option (Box RatStmt Global)) → part k r s.label s.place (Condition (formula_of e)) ∷ (parts_of k r None (command body.value) ++ other_parts k r o) ≡ parts_of k r None (command_of s.label s.place (If e body o))
    by None = ap (λ vs. part k r s.label s.place (Condition (formula_of e)) ∷ vs) (append-nil _) ∙ sym (parts-labelled k r s.label s.place (ratfor_tree.If s.place (formula_of e) (command body.value)))
    by (Some other) = sym (parts-labelled k r s.label s.place (IfElse s.place (formula_of e) (command body.value) (command other.value)))

pub repeat_parts : (k : ℕ) (r : Labels) (s : RatStmt) (body : Box RatStmt Global) (u : Option (Expr × Place)) → s.kind ≡ Repeat body u →
    part k r s.label s.place RepeatHead ∷ (parts_of (suc k) r None (command body.value) ++ until_parts k r u) ≡ parts_of k r None (command s)
repeat_parts k r s body u is = by u ∙ sym (ap (λ kind. parts_of k r None (command_of s.label s.place kind)) is)
  where
    by : (o : Option (Expr × Place)) → part k r s.label s.place RepeatHead ∷ (parts_of (suc k) r None (command body.value) ++ until_parts k r o) ≡ parts_of k r None (command_of s.label s.place (Repeat body o))
    by None = ap (λ vs. part k r s.label s.place RepeatHead ∷ vs) (append-nil _) ∙ sym (parts-labelled k r s.label s.place (ratfor_tree.Repeat s.place (command body.value)))
    by (Some v) = sym (parts-labelled k r s.label s.place (RepeatUntil s.place (command body.value) (formula_of v.0) v.1))

-- what comes behind a first part, where a call says what it notes
pub then_noted : {A E : Type 0} (result : Result A E) (s s1 s2 : Survey) (vs all : List Part) (f : Labels → List Part) → s1 ≡ noting_all vs s → vs ++ f (is_among s.reach) ≡ all →
    OnOk result (s2 ≡ noting_all (f (is_among s1.reach)) s1) → OnOk result (s2 ≡ noting_all all s)
then_noted result s s1 s2 vs all f first whole second =
    on_ok_weaker result (λ e. behind s s1 s2 vs f first e ∙ ap (λ xs. noting_all xs s) whole) second
