-- The walk over a list of statements and over a list of clauses.
use Rattle.std.proofs.Common.{◌≡◌, ℕ, suc, ◌+◌, ◌<◌, List, ◌++◌, length, drop, get_or, None, Bool, ◌&&◌, ◌||◌, ap, ◌∙◌, sym, arith}
use Rattle.std.proofs.Math.Seq.{drop-cons}
use Rattle.f66_tree.specs.Views.{formulas_of}
use Rattle.rat_tree.specs.declared.program.RatStmt.{RatStmt}
use Rattle.rat_tree.specs.declared.program.RatCase.{RatCase, out-RatCase, roll-out-RatCase}
use Rattle.rat_tree.specs.Syntax.{AndCommand, Clauses, AndClause}
use Rattle.rat_tree.specs.Views.{command, commands, clause_then, clauses}
use Rattle.rat_tree.proofs.Rows.{case_clause}
use Rattle.rat_check.specs.Parts.{Part, parts_of, parts_in, clause_parts}
use Rattle.rat_check.specs.FormViews.{case_parts}
use Rattle.rat_check.specs.Survey.{is_among, Survey, noting_all}
use Rattle.rat_check.proofs.PartLemmas.{noting-append, noting-reach}

-- after one more of some parts, those left stand for the same
passed : (s0 s1 s2 all : Survey) (vs rest : List Part) → s1.reach ≡ s0.reach → noting_all (vs ++ rest) s1 ≡ all → s2 ≡ noting_all vs s1 → (s2.reach ≡ s0.reach) × (noting_all rest s2 ≡ all)
passed s0 s1 s2 all vs rest reach noted next =
    (ap (λ s. s.reach) next ∙ noting-reach vs s1 ∙ reach, ap (noting_all rest) next ∙ sym (noting-append vs rest s1) ∙ noted)

next_command : (list : List RatStmt) (i : ℕ) (x : RatStmt) → i < length list → x ≡ get_or list i x → commands (drop i list) ≡ AndCommand (command x) (commands (drop (i + 1) list))
next_command list i x lt is =
    let e : suc i ≡ i + 1 = omega arith in
    ap commands (drop-cons list i x lt) ∙ ap (λ y. AndCommand (command y) (commands (drop (suc i) list))) (sym is) ∙ ap (λ m. AndCommand (command x) (commands (drop m list))) e

pub statement_passed : (list : List RatStmt) (i : ℕ) (x : RatStmt) (k : ℕ) (s0 s1 s2 all : Survey) → i < length list → x ≡ get_or list i x → s1.reach ≡ s0.reach →
    noting_all (parts_in k (is_among s0.reach) (commands (drop i list))) s1 ≡ all → s2 ≡ noting_all (parts_of k (is_among s1.reach) None (command x)) s1 →
    (s2.reach ≡ s0.reach) × (noting_all (parts_in k (is_among s0.reach) (commands (drop (i + 1) list))) s2 ≡ all)
statement_passed list i x k s0 s1 s2 all lt is reach noted next =
    passed s0 s1 s2 all (parts_of k (is_among s0.reach) None (command x)) (parts_in k (is_among s0.reach) (commands (drop (i + 1) list))) reach
    (ap (λ ss. noting_all (parts_in k (is_among s0.reach) ss) s1) (sym (next_command list i x lt is)) ∙ noted)
    (next ∙ ap (λ r. noting_all (parts_of k (is_among r) None (command x)) s1) reach)

clause_is : (c : RatCase) (rest : Clauses) → clause_then c rest ≡ AndClause (formulas_of (out-RatCase c).tests.items) (out-RatCase c).fallback (commands (out-RatCase c).body.items) (out-RatCase c).place rest
clause_is c rest =
    let o = out-RatCase c in
    sym (ap (λ x. clause_then x rest) (roll-out-RatCase c)) ∙ case_clause o.tests o.fallback o.body o.place rest

next_clause : (list : List RatCase) (i : ℕ) (c : RatCase) → i < length list → c ≡ get_or list i c →
    clauses (drop i list) ≡ AndClause (formulas_of (out-RatCase c).tests.items) (out-RatCase c).fallback (commands (out-RatCase c).body.items) (out-RatCase c).place (clauses (drop (i + 1) list))
next_clause list i c lt is =
    let e : suc i ≡ i + 1 = omega arith in
    ap clauses (drop-cons list i c lt) ∙ ap (λ x. clause_then x (clauses (drop (suc i) list))) (sym is) ∙ ap (λ m. clause_then c (clauses (drop m list))) e ∙ clause_is c (clauses (drop (i + 1) list))

pub clause_passed : (list : List RatCase) (i : ℕ) (c : RatCase) (k : ℕ) (seen : Bool) (s0 s1 s2 all : Survey) → i < length list → c ≡ get_or list i c → s1.reach ≡ s0.reach →
    noting_all (clause_parts k (is_among s0.reach) seen (clauses (drop i list))) s1 ≡ all → s2 ≡ noting_all (case_parts k (is_among s1.reach) (seen && (out-RatCase c).fallback) c) s1 →
    (s2.reach ≡ s0.reach) × (noting_all (clause_parts k (is_among s0.reach) (seen || (out-RatCase c).fallback) (clauses (drop (i + 1) list))) s2 ≡ all)
clause_passed list i c k seen s0 s1 s2 all lt is reach noted next =
    let second = seen && (out-RatCase c).fallback in
    passed s0 s1 s2 all (case_parts k (is_among s0.reach) second c) (clause_parts k (is_among s0.reach) (seen || (out-RatCase c).fallback) (clauses (drop (i + 1) list))) reach
    (ap (λ cs. noting_all (clause_parts k (is_among s0.reach) seen cs) s1) (sym (next_clause list i c lt is)) ∙ noted)
    (next ∙ ap (λ r. noting_all (case_parts k (is_among r) second c) s1) reach)
