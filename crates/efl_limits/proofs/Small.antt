-- An accepted program of few tokens has few variables, procedures and temporaries.
use Rattle.std.proofs.Common.{◌≡◌, ◌≤◌, ℕ, ◌+◌, ◌*◌, arith, Bool, true, false, List, [], ◌∷◌, length, refl}
use Rattle.std.proofs.lemmas.Bool.Decides.{nat_tests}
use Rattle.std.specs.Prelude.{◌&&◌, nat_le, nat_lt}
use Rattle.std.specs.List.{list_all, range_with_len}
use Rattle.efl_tree.specs.Syntax.{EflProcedure, EflProgram}
use Rattle.efl_scope.specs.Parts.{program_parts}
use Rattle.efl_scope.specs.Marks.{program_variables}
use Rattle.efl_typed.specs.Typing.{bodies_of}
use Rattle.efl_lowered.specs.Needs.{all_need}
use Rattle.rat_grammar.specs.Tokens.{Tokens, Several}
use Rattle.efl_grammar.specs.Programs.{Procedure, Program}
use Rattle.efl_grammar.specs.Programs as p
use Rattle.efl_limits.specs.Laws.{ParsedIsSmall}
use Rattle.efl_limits.proofs.PartTokens.{counted, procedures}
use Rattle.efl_limits.proofs.Tokens.{one, lines}
use Rattle.efl_limits.proofs.Storage.{variables_few}
use Rattle.efl_limits.proofs.ProcedureSizes.{two_tokens}
use Rattle.efl_limits.proofs.Bodies.{body_small}
use Rattle.efl_limits.proofs.Needs.{stmts_few}

-- the names of a program are no more than half of its tokens
pub program_counts : (ts : Tokens) (tree : EflProgram) → Program ts tree → 2 * counted (program_parts tree) + length tree.procedures ≤ length ts
program_counts ts tree (p.program us l last) = omega (arith, procedures 0 us, lines l, one last)

-- each procedure has its word and its end
two_each : {a b : Tokens} {us : List EflProcedure} → Several Procedure a b us → 2 * length us + length b ≤ length a
two_each Several.none = omega arith
two_each (Several.more q rest) = omega (arith, two_tokens q, two_each rest)

procedures_at_most : (ts : Tokens) (tree : EflProgram) → Program ts tree → length ts ≤ 200000 → length tree.procedures ≤ 100000
procedures_at_most ts tree (p.program us l last) few = omega (arith, few, two_each us, lines l)

all_pass : (f : ℕ → Bool) → ((n : ℕ) → f n ≡ true) → (ns : List ℕ) → list_all f ns ≡ true
all_pass f h [] = refl
all_pass f h (n ∷ ns) = and_true (f n) (list_all f ns) (h n) (all_pass f h ns)
  where
    and_true : (a b : Bool) → a ≡ true → b ≡ true → (a && b) ≡ true
    and_true true b h g = g
    and_true false b h g = cc

at_most : (n k : ℕ) → n ≤ k → nat_le n k ≡ true
at_most n k h = grind (arith, nat_tests)

below : (n : ℕ) → n ≤ 20000 → nat_lt n 50000 ≡ true
below n h = grind (arith, nat_tests)

three : (a b c : Bool) → a ≡ true → b ≡ true → c ≡ true → (a && (b && c)) ≡ true
three a b c f g h = cc

pub parsed_is_small : ParsedIsSmall
parsed_is_small ts tree few is accepted =
    let counts = program_counts ts tree is in
    let needs : (n : ℕ) → all_need (bodies_of tree n) 0 ≤ 20000 = λ n. omega (arith, body_small ts tree accepted n, stmts_few (bodies_of tree n) 0) in
    three _ _ _ (at_most (length (program_variables tree)) 100000 (omega (arith, counts, variables_few tree, few)))
    (at_most (length tree.procedures) 100000 (procedures_at_most ts tree is few))
    (all_pass (λ n. nat_lt (all_need (bodies_of tree n) 0) 50000) (λ n. below (all_need (bodies_of tree n) 0) (needs n)) (range_with_len 0 (length tree.procedures)))
