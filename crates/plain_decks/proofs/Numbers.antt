-- How many characters numbers, names and appended texts have.
use Rattle.std.proofs.Common.{◌≡◌, ◌≤◌, ◌+◌, ℕ, ℤ, pos, negsuc, true, false, true≢false, List, ◌++◌, length, length-append, sym, arith}
use Rattle.std.specs.Prelude.{decimal, unsigned_abs, nat_le}
use Rattle.std.proofs.lemmas.Bool.{and_parts}
use Rattle.std.proofs.lemmas.Bool.Decides.{nat_tests}
use Rattle.std.proofs.lemmas.Fmt.{length-decimal-le}
use Rattle.f66_tree.specs.Built.{is_constant}
use Rattle.f66_tree.specs.Syntax.{Text}
use Rattle.f66_names.specs.NameRules.{is_long}

pub name_length : (x : Text) (t : List ℕ) → is_long x ≡ false → length (x ++ t) ≤ 6 + length t
name_length x t h = let short : length x ≤ 6 = grind (arith, nat_tests) in omega (arith, length-append x t, short)

pub decimal_length : (n : ℕ) (t : List ℕ) → n ≤ 2147483647 → length (decimal n ++ t) ≤ 10 + length t
decimal_length n t h = omega (arith, length-append (decimal n) t, length-decimal-le 10 n (omega arith) (omega (arith, h)) (omega (arith, h)))

pub label_length : (l : ℕ) (t : List ℕ) → l ≤ 99999 → length (decimal l ++ t) ≤ 5 + length t
label_length l t h = omega (arith, length-append (decimal l) t, length-decimal-le 5 l (omega arith) (omega (arith, h)) (omega (arith, h)))

pub constant_length : (z : ℤ) (t : List ℕ) → is_constant z ≡ true → length (decimal (unsigned_abs z) ++ t) ≤ 10 + length t
constant_length (pos n) t h =
    let both = and_parts (nat_le 0 n) (nat_le n 2147483647) h in
    let low : nat_le n 2147483647 ≡ true = both.1 in
    let most : n ≤ 2147483647 = grind (arith, nat_tests) in
    decimal_length n t most
constant_length (negsuc n) t h = absurd (true≢false (sym h))
