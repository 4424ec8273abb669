-- All temporaries of a program are no more than its tokens, so a program of few tokens needs little storage.
use Rattle.std.proofs.Common.{◌≡◌, ◌≤◌, ℕ, suc, ◌+◌, ◌*◌, arith, List, ◌∷◌, length, Some, refl, ap, subst}
use Rattle.std.proofs.lemmas.List.Sums.{sum_by-cons}
use Rattle.std.specs.List.{slice_get, sum_by, range_with_len}
use Rattle.efl_tree.specs.Syntax.{EflProcedure, EflProgram}
use Rattle.efl_typed.specs.Typing.{Context, stmts_from, context_of, body_if, bodies_of}
use Rattle.rat_grammar.specs.Tokens.{Tokens, Several}
use Rattle.efl_grammar.specs.Programs.{Procedure, Program}
use Rattle.efl_grammar.specs.Programs as p
use Rattle.efl_plain.specs.Small.{unit_storage}
use Rattle.efl_limits.specs.Sizes.{stmts_size}
use Rattle.efl_limits.specs.Laws.{GrammarHasLittleStorage}
use Rattle.efl_limits.proofs.Needs.{stmts_few}
use Rattle.efl_limits.proofs.ProcedureSizes.{procedure_size}
use Rattle.efl_limits.proofs.Storage.{variables_few, edges_few}
use Rattle.efl_limits.proofs.Small.{program_counts}

-- so much of each procedure, where its body is as large as it is in some context
abbrev Stores : (ℕ → ℕ) → (ℕ → EflProcedure → Context) → ℕ → EflProcedure → Type 0
Stores f at n u = f n ≤ 2 * stmts_size (stmts_from 0 (at n u) u.body) + 3

all_stored : (f : ℕ → ℕ) (at : ℕ → EflProcedure → Context) {a b : Tokens} {us : List EflProcedure} (i : ℕ) → Several Procedure a b us →
    ((n : ℕ) (u : EflProcedure) → slice_get us n ≡ Some u → Stores f at (i + n) u) → sum_by f (range_with_len i (length us)) + 2 * length b ≤ 2 * length a
all_stored f at i Several.none h = omega arith
all_stored f at {us = u ∷ us} i (Several.more q rest) h =
    let none : i + 0 ≡ i = omega arith in
    let here : Stores f at i u = subst (λ n. Stores f at n u) none (h 0 u refl) in
    let there = all_stored f at (i + 1) rest (λ n v e. let on : i + suc n ≡ i + 1 + n = omega arith in subst (λ m. Stores f at m v) on (h (suc n) v e)) in
    omega (arith, sum_by-cons f i (range_with_len (i + 1) (length us)), here, there, procedure_size q 0 (at i u))

unit_stores : (tree : EflProgram) (n : ℕ) (u : EflProcedure) → slice_get tree.procedures n ≡ Some u → Stores (unit_storage tree) (context_of tree) n u
unit_stores tree n u e =
    let same : bodies_of tree n ≡ stmts_from 0 (context_of tree n u) u.body = ap (λ o. body_if tree n o) e in
    subst (λ ss. unit_storage tree n ≤ 2 * stmts_size ss + 3) same (omega (arith, stmts_few (bodies_of tree n) 0))

unit_stored : (tree : EflProgram) (n : ℕ) (u : EflProcedure) → slice_get tree.procedures n ≡ Some u → Stores (unit_storage tree) (context_of tree) (0 + n) u
unit_stored tree n u e = (let none : n ≡ 0 + n = omega arith in subst (λ m. Stores (unit_storage tree) (context_of tree) m u) none (unit_stores tree n u e))

stored : (ts : Tokens) (tree : EflProgram) → Program ts tree → sum_by (unit_storage tree) (range_with_len 0 (length tree.procedures)) ≤ 2 * length ts
stored ts tree (p.program us l last) = (let all = all_stored (unit_storage tree) (context_of tree) 0 us (unit_stored tree) in omega (arith, all))

pub grammar_has_little_storage : GrammarHasLittleStorage
grammar_has_little_storage ts tree few is = omega (arith, few, program_counts ts tree is, variables_few tree, edges_few tree, stored ts tree is)
