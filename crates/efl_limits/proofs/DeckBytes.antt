-- The deck of a program of few tokens is short.
use Rattle.std.proofs.Common.{◌≡◌, ◌≤◌, ℕ, suc, ◌+◌, ◌*◌, arith, List, ◌∷◌, length, map, Some, refl, ap, subst}
use Rattle.std.proofs.lemmas.List.Sums.{sum_by-cons}
use Rattle.std.specs.List.{enumerate_from, slice_get, sum_by, range_with_len}
use Rattle.f66_tree.specs.Syntax.{Routine}
use Rattle.efl_tree.specs.Syntax.{EflProcedure, EflProgram}
use Rattle.efl_typed.specs.Typing.{Context, stmts_from, context_of, body_if, bodies_of}
use Rattle.rat_grammar.specs.Tokens.{Tokens, Several}
use Rattle.efl_grammar.specs.Programs.{Procedure, Program}
use Rattle.efl_grammar.specs.Programs as p
use Rattle.plain_decks.specs.Bytes.{unit_bytes, most_bytes}
use Rattle.efl_lowered.specs.Lowering.{unit_of, units_of}
use Rattle.efl_naming.specs.Choice.{naming_of}
use Rattle.efl_limits.specs.Sizes.{stmts_size}
use Rattle.efl_limits.specs.Laws.{GrammarIsShort}
use Rattle.efl_limits.proofs.NameCounts.{names_at, names_counted}
use Rattle.efl_limits.proofs.ProcedureSizes.{procedure_size}
use Rattle.efl_limits.proofs.Small.{program_counts}
use Rattle.efl_limits.proofs.Storage.{variables_few, edges_few}
use Rattle.efl_limits.proofs.UnitBytes.{unit_few}

-- so many bytes at most, where the body is as large as it is in some context and some names are declared
abbrev IsShort : (ℕ → EflProcedure → Routine) → (ℕ → ℕ) → (ℕ → EflProcedure → Context) → ℕ → EflProcedure → Type 0
IsShort unit names at n u = unit_bytes (unit n u) ≤ 297 + (15 * length u.formals + (16 * names n + 539 * stmts_size (stmts_from 0 (at n u) u.body)))

all_short : (unit : ℕ → EflProcedure → Routine) (names : ℕ → ℕ) (at : ℕ → EflProcedure → Context) {a b : Tokens} {us : List EflProcedure} (i : ℕ) → Several Procedure a b us →
    ((n : ℕ) (u : EflProcedure) → slice_get us n ≡ Some u → IsShort unit names at (i + n) u) →
    most_bytes (map (λ x. unit x.0 x.1) (enumerate_from i us)) + 539 * length b ≤ 539 * length a + 16 * sum_by names (range_with_len i (length us))
all_short unit names at i Several.none h = omega arith
all_short unit names at {us = u ∷ us} i (Several.more q rest) h =
    let none : i + 0 ≡ i = omega arith in
    let here : IsShort unit names at i u = subst (λ n. IsShort unit names at n u) none (h 0 u refl) in
    let there = all_short unit names at (i + 1) rest (λ n v e. let on : i + suc n ≡ i + 1 + n = omega arith in subst (λ m. IsShort unit names at m v) on (h (suc n) v e)) in
    omega (arith, sum_by-cons names i (range_with_len (i + 1) (length us)), here, there, procedure_size q 0 (at i u))

module _ (tree : EflProgram) where
  unit_short : (n : ℕ) (u : EflProcedure) → slice_get tree.procedures n ≡ Some u → IsShort (unit_of (naming_of tree) tree) (names_at tree) (context_of tree) n u
  unit_short n u e =
      let same : bodies_of tree n ≡ stmts_from 0 (context_of tree n u) u.body = ap (λ o. body_if tree n o) e in
      subst (λ ss. unit_bytes (unit_of (naming_of tree) tree n u) ≤ 297 + (15 * length u.formals + (16 * names_at tree n + 539 * stmts_size ss))) same (unit_few (naming_of tree) tree n u (omega arith))

  from_first : (n : ℕ) (u : EflProcedure) → slice_get tree.procedures n ≡ Some u → IsShort (unit_of (naming_of tree) tree) (names_at tree) (context_of tree) (0 + n) u
  from_first n u e = (let none : n ≡ 0 + n = omega arith in subst (λ m. IsShort (unit_of (naming_of tree) tree) (names_at tree) (context_of tree) m u) none (unit_short n u e))

deck_short : (ts : Tokens) (tree : EflProgram) → Program ts tree → most_bytes (units_of (naming_of tree) tree) ≤ 539 * length ts + 16 * sum_by (names_at tree) (range_with_len 0 (length tree.procedures))
deck_short ts tree (p.program us l last) = (let all = all_short (unit_of (naming_of tree) tree) (names_at tree) (context_of tree) 0 us (from_first tree) in omega (arith, all))

pub grammar_is_short : GrammarIsShort
grammar_is_short ts tree few is = omega (arith, few, deck_short ts tree is, names_counted tree, variables_few tree, edges_few tree, program_counts ts tree is)
