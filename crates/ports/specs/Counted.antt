-- How often an object in memory was asked.
use Rattle.std.specs.Prelude.{◌≡◌, ℕ, ◌+◌, ◌<◌, ◌^◌, List, [], ◌++◌, length}
use Rattle.std.proofs.Common.{sym, ◌∙◌, ap, subst, add-zero, add_assoc, le-add_right, lt_of_le_of_lt, length-append}

-- once for each name, as long as the count stays below 2^64
abbrev pub CountsOn : ℕ → List (List ℕ) → ℕ → Type 0
CountsOn before names now = before + length names < 2 ^ 64 → now ≡ before + length names

pub counts_nothing : (n : ℕ) → CountsOn n [] n
counts_nothing n small = sym (add-zero n)

pub counts_in_a_row : (a b c : ℕ) (xs ys : List (List ℕ)) → CountsOn a xs b → CountsOn b ys c → CountsOn a (xs ++ ys) c
counts_in_a_row a b c xs ys first second small =
    let both : a + length (xs ++ ys) ≡ a + length xs + length ys = ap (λ n. a + n) (length-append xs ys) ∙ sym (add_assoc a (length xs) (length ys)) in
    let all : a + length xs + length ys < 2 ^ 64 = subst (λ n. n < 2 ^ 64) both small in
    let then : b ≡ a + length xs = first (lt_of_le_of_lt (le-add_right (a + length xs) (length ys)) all) in
    let last : c ≡ b + length ys = second (subst (λ n. n + length ys < 2 ^ 64) (sym then) all) in
    last ∙ ap (λ n. n + length ys) then ∙ sym both
