-- Blocks and switches in memory, and the statements that they become.
use Rattle.std.proofs.Common.{◌≡◌, ℕ, ◌+◌, List, ◌∷◌, ◌++◌, refl, sym, ap, ◌∙◌, subst, arith, Option, Some, None, Bool, true, false, if◌then◌else◌}
use Rattle.std.proofs.Common.{Vec, Global, Result, Ok, Err, OnOk}
use Rattle.ground.specs.declared.place.Place.{Place}
use Rattle.ground.specs.declared.fault.Memory.{Memory}
use Rattle.f66_tree.specs.declared.expression.Expr.{Expr}
use Rattle.f66_tree.specs.Syntax.{Formulas, Line}
use Rattle.f66_tree.specs.Views.{formula_of, formulas_of}
use Rattle.rat_tree.specs.declared.program.RatStmt.{RatStmt}
use Rattle.rat_tree.specs.declared.program.RatCase.{RatCase, out-RatCase, roll-out-RatCase}
use Rattle.rat_tree.specs.declared.program.RatKind.TheVariants.{Block, Switch}
use Rattle.rat_tree.specs.Syntax.{Command, Commands, Clauses, AndClause}
use Rattle.rat_tree.specs.Views.{labelled, command_of, command, commands, clause_then, clauses}
use Rattle.rat_tree.proofs.Rows.{block_commands, switch_clauses, case_clause}
use Rattle.rat_lower.specs.Around.{behind_label, behind_mark}
use Rattle.rat_lower.specs.Code.{Rings, here, jump, labels, all_labels, clause_labels, code_of, all_code, each_test, tests, bodies, default_label, has_switch, have_switch}
use Rattle.rat_lower.specs.Emitted.{Making, labels_past, Adds, Emitted, AllEmitted, first_default}
use Rattle.rat_lower.proofs.Emitting.Blocks.{label_or}
use Rattle.rat_lower.proofs.Emitting.Sizes.{size_of, size_of_all, size_of_clauses, labelled_size}
use Rattle.rat_tree.specs.Syntax as ratfor_tree

labelled_labels : (l : Option ℕ) (p : Place) (s : Command) → labels (labelled l p s) ≡ labels s
labelled_labels None p s = refl
labelled_labels (Some l) p s = refl

marked : (l : Option ℕ) (p : Place) (s : Command) (ls : Rings) (before after : Making) (old mid new : List Line) → Adds old mid (behind_label l p) → Emitted s ls before after mid new → Emitted (labelled l p s) ls before after old new
marked None p s ls before after old mid new a e = record {
  taken = e.taken;
  spare = e.spare;
  own = e.own;
  made = e.made;
  added = record { by = λ rest. e.added.by rest ∙ a.by (code_of (labels_past before.taken) before.spare before.own s before.made ls rest) };
}
marked (Some l) p s ls before after old mid new a e = record {
  taken = e.taken;
  spare = e.spare;
  own = e.own;
  made = e.made;
  added = record { by = λ rest. e.added.by rest ∙ a.by (code_of (labels_past before.taken) before.spare before.own s before.made ls rest) };
}

-- ---- blocks ----

block_command : (s : RatStmt) (v : Vec RatStmt Global) (list : List RatStmt) → s.kind ≡ Block v → list ≡ v.items → command s ≡ labelled s.label s.place (ratfor_tree.Block s.place (commands list))
block_command s v list is value =
    ap (command_of s.label s.place) is ∙ block_commands s.label s.place v ∙ ap (λ l. labelled s.label s.place (ratfor_tree.Block s.place (commands l))) (sym value)

pub block_labels : (s : RatStmt) (v : Vec RatStmt Global) (list : List RatStmt) → s.kind ≡ Block v → list ≡ v.items → labels (command s) ≡ all_labels (commands list)
block_labels s v list is value = ap labels (block_command s v list is value) ∙ labelled_labels s.label s.place (ratfor_tree.Block s.place (commands list))

pub block_size : (s : RatStmt) (v : Vec RatStmt Global) (list : List RatStmt) → s.kind ≡ Block v → list ≡ v.items → size_of (command s) ≡ size_of_all (commands list) + 1
block_size s v list is value = ap size_of (block_command s v list is value) ∙ labelled_size s.label s.place (ratfor_tree.Block s.place (commands list))

pub from_block : (s : RatStmt) (v : Vec RatStmt Global) (list : List RatStmt) (r : Result (Unit {0}) Memory) (ls : Rings) (before after : Making) (old mid new : List Line) → s.kind ≡ Block v → list ≡ v.items → Adds old mid (behind_mark s.label s.place s.kind) → OnOk r (AllEmitted (commands list) ls before after mid new) → OnOk r (Emitted (command s) ls before after old new)
from_block s v list (Ok _) ls before after old mid new is value mark h =
    subst
    (λ x. Emitted x ls before after old new)
    (sym (block_command s v list is value))
    (marked s.label s.place (ratfor_tree.Block s.place (commands list)) ls before after old mid new (subst (λ k. Adds old mid (behind_mark s.label s.place k)) is mark) (record { taken = h.taken; spare = h.spare; own = h.own; made = h.made; added = h.added }))
from_block s v list (Err e) ls before after old mid new is value mark h = tt

labelled_has : (l : Option ℕ) (p : Place) (s : Command) → has_switch (labelled l p s) ≡ has_switch s
labelled_has None p s = refl
labelled_has (Some l) p s = refl

pub block_has : (s : RatStmt) (v : Vec RatStmt Global) (list : List RatStmt) → s.kind ≡ Block v → list ≡ v.items → has_switch (command s) ≡ have_switch (commands list)
block_has s v list is value = ap has_switch (block_command s v list is value) ∙ labelled_has s.label s.place (ratfor_tree.Block s.place (commands list))

-- ---- switches ----

switch_command : (s : RatStmt) (e : Expr) (v : Vec RatCase Global) (list : List RatCase) → s.kind ≡ Switch e v → list ≡ v.items → command s ≡ labelled s.label s.place (ratfor_tree.Switch s.place (formula_of e) (clauses list))
switch_command s e v list is value =
    ap (command_of s.label s.place) is ∙ switch_clauses s.label s.place e v ∙ ap (λ l. labelled s.label s.place (ratfor_tree.Switch s.place (formula_of e) (clauses l))) (sym value)

pub switch_labels : (s : RatStmt) (e : Expr) (v : Vec RatCase Global) (list : List RatCase) → s.kind ≡ Switch e v → list ≡ v.items → labels (command s) ≡ clause_labels (clauses list) + 1
switch_labels s e v list is value = ap labels (switch_command s e v list is value) ∙ labelled_labels s.label s.place (ratfor_tree.Switch s.place (formula_of e) (clauses list))

pub switch_size : (s : RatStmt) (e : Expr) (v : Vec RatCase Global) (list : List RatCase) → s.kind ≡ Switch e v → list ≡ v.items → size_of (command s) ≡ size_of_clauses (clauses list) + 2
switch_size s e v list is value = ap size_of (switch_command s e v list is value) ∙ labelled_size s.label s.place (ratfor_tree.Switch s.place (formula_of e) (clauses list))

pub from_switch : (s : RatStmt) (e : Expr) (v : Vec RatCase Global) (list : List RatCase) (r : Result (Unit {0}) Memory) (ls : Rings) (before after : Making) (old mid new : List Line) → s.kind ≡ Switch e v → list ≡ v.items → Adds old mid (behind_mark s.label s.place s.kind) → OnOk r (Emitted (ratfor_tree.Switch s.place (formula_of e) (clauses list)) ls before after mid new) → OnOk r (Emitted (command s) ls before after old new)
from_switch s e v list (Ok _) ls before after old mid new is value mark h =
    subst
    (λ x. Emitted x ls before after old new)
    (sym (switch_command s e v list is value))
    (marked s.label s.place (ratfor_tree.Switch s.place (formula_of e) (clauses list)) ls before after old mid new (subst (λ k. Adds old mid (behind_mark s.label s.place k)) is mark) h)
from_switch s e v list (Err x) ls before after old mid new is value mark h = tt

-- ---- clauses ----

pub clause_is : (c : RatCase) (rest : Clauses) → clause_then c rest ≡ AndClause (formulas_of (out-RatCase c).tests.items) (out-RatCase c).fallback (commands (out-RatCase c).body.items) (out-RatCase c).place rest
clause_is c rest =
    let o = out-RatCase c in
    sym (ap (λ x. clause_then x rest) (roll-out-RatCase c)) ∙ case_clause o.tests o.fallback o.body o.place rest

-- some clauses are done, and those left would make all
pub record ClausesSoFar (all left : Clauses) (out : ℕ) (ls : Rings) (default : Option ℕ) (before now : Making) (old new inner outer : List Line) : Type 0 where
  pub taken : now.taken ≡ before.taken
  pub spare : now.spare ≡ before.spare
  pub own : now.own ≡ before.own
  pub made : now.made + clause_labels left ≡ before.made + clause_labels all
  pub tested : (rest : List Line) → new ++ tests (labels_past before.taken) before.spare before.own left now.made rest ≡ old ++ tests (labels_past before.taken) before.spare before.own all before.made rest
  pub added : (rest : List Line) → outer ++ bodies (labels_past before.taken) before.spare before.own left now.made out ls rest ≡ inner ++ bodies (labels_past before.taken) before.spare before.own all before.made out ls rest
  pub goes : label_or default (default_label (labels_past before.taken) before.spare before.own left now.made out) ≡ default_label (labels_past before.taken) before.spare before.own all before.made out

goes_more : (default : Option ℕ) (fallback : Bool) (l m d a : ℕ) → l ≡ m → label_or default (if fallback then m else d) ≡ a → label_or (first_default default fallback l) d ≡ a
goes_more None true l m d a e h = e ∙ h
goes_more None false l m d a e h = h
goes_more (Some k) fallback l m d a e h = h

pub clauses_more : (all left : Clauses) (es : Formulas) (fallback : Bool) (ss : Commands) (p : Place) (out : ℕ) (ls : Rings) (default : Option ℕ) (before now fresh after : Making) (label : ℕ) (old new newer inner o1 o2 o3 o4 : List Line) →
    ClausesSoFar all (AndClause es fallback ss p left) out ls default before now old new inner o1 →
    label ≡ labels_past now.taken now.made →
    fresh.made ≡ now.made + 1 →
    fresh.taken ≡ now.taken →
    fresh.spare ≡ now.spare →
    fresh.own ≡ now.own →
    Adds new newer (each_test fresh.spare p es label) →
    Adds o1 o2 (λ rest. here label p ∷ rest) →
    AllEmitted ss ls fresh after o2 o3 →
    Adds o3 o4 (λ rest. jump p out ∷ rest) →
    ClausesSoFar all left out ls (first_default default fallback label) before after old newer inner o4
clauses_more all left es fallback ss p out ls default before now fresh after label old new newer inner o1 o2 o3 o4 h is made taken spare own test head body tail =
    let M = labels_past before.taken in
    let count : after.made ≡ now.made + 1 + all_labels ss = omega (arith, body.made, made) in
    let is_label : label ≡ M now.made = is ∙ ap (λ t. labels_past t now.made) h.taken in
    record {
      taken = body.taken ∙ taken ∙ h.taken;
      spare = body.spare ∙ spare ∙ h.spare;
      own = body.own ∙ own ∙ h.own;
      made = omega (arith, h.made, count);
      tested = λ rest.
          test.by (tests M before.spare before.own left after.made rest)
          ∙ ap (λ x. new ++ each_test x p es label (tests M before.spare before.own left after.made rest)) (spare ∙ h.spare)
          ∙ ap (λ l. new ++ each_test before.spare p es l (tests M before.spare before.own left after.made rest)) is_label
          ∙ ap (λ n. new ++ each_test before.spare p es (M now.made) (tests M before.spare before.own left n rest)) count
          ∙ h.tested rest;
      added = λ rest.
          tail.by (bodies M before.spare before.own left after.made out ls rest)
          ∙ body.added.by (jump p out ∷ bodies M before.spare before.own left after.made out ls rest)
          ∙ head.by (all_code (labels_past fresh.taken) fresh.spare fresh.own ss fresh.made ls (jump p out ∷ bodies M before.spare before.own left after.made out ls rest))
          ∙ ap (λ l. o1 ++ (here l p ∷ all_code (labels_past fresh.taken) fresh.spare fresh.own ss fresh.made ls (jump p out ∷ bodies M before.spare before.own left after.made out ls rest))) is_label
          ∙ ap (λ t. o1 ++ (here (M now.made) p ∷ all_code (labels_past t) fresh.spare fresh.own ss fresh.made ls (jump p out ∷ bodies M before.spare before.own left after.made out ls rest))) (taken ∙ h.taken)
          ∙ ap (λ x. o1 ++ (here (M now.made) p ∷ all_code M x fresh.own ss fresh.made ls (jump p out ∷ bodies M before.spare before.own left after.made out ls rest))) (spare ∙ h.spare)
          ∙ ap (λ x. o1 ++ (here (M now.made) p ∷ all_code M before.spare x ss fresh.made ls (jump p out ∷ bodies M before.spare before.own left after.made out ls rest))) (own ∙ h.own)
          ∙ ap (λ n. o1 ++ (here (M now.made) p ∷ all_code M before.spare before.own ss n ls (jump p out ∷ bodies M before.spare before.own left after.made out ls rest))) made
          ∙ ap (λ n. o1 ++ (here (M now.made) p ∷ all_code M before.spare before.own ss (now.made + 1) ls (jump p out ∷ bodies M before.spare before.own left n out ls rest))) count
          ∙ h.added rest;
      goes =
          goes_more default fallback label (M now.made) (default_label M before.spare before.own left after.made out) _ is_label
          (ap (λ n. label_or default (if fallback then M now.made else default_label M before.spare before.own left n out)) count ∙ h.goes);
    }
