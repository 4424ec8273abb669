-- A run ends: an instruction leads on, or back to where a statement begins, and then fewer statements may begin.
use Rattle.std.proofs.Common.{◌≡◌, ℕ, zero, suc, ◌+◌, ◌-◌, ◌*◌, ◌<◌, ◌≤◌, Bool, true, false, List, [], ◌∷◌, length, refl, sym, ap, ◌∙◌, subst, arith, slice_get, inl, inr, Option, Some, None}
use Rattle.std.specs.Prelude.{◌⊎◌, nat_lt}
use Rattle.std.proofs.lemmas.Bool.{true≢false, ltb-true, and_parts, or_cases}
use Rattle.std.proofs.lemmas.Option.{none-some, same_Some}
use Rattle.stack_code.specs.Instructions as i
use Rattle.stack_code.specs.Instructions.{Instruction}
use Rattle.stack_code.specs.ValidCode.{IsIn, ways, is_begin, is_counted, is_target, are_targets, is_in_range}
use Rattle.runner.specs.Work.{is_leap}

abbrev pub weight : Bool → ℕ → ℕ
weight true k = 0
weight false k = k

-- what is left of a run at pc where so many statements may begin, and so many callers wait
abbrev pub far : List Instruction → ℕ → ℕ → ℕ → ℕ
far code pc left level = left * (4 * suc (length code)) + level * suc (length code) + weight (is_counted (slice_get code pc)) (2 * suc (length code)) + (length code - pc)

weight_most : (b : Bool) (k : ℕ) → weight b k ≤ k
weight_most true k = omega arith
weight_most false k = omega arith

weight_by : (code : List Instruction) (pc : ℕ) (b : Bool) → is_counted (slice_get code pc) ≡ b → weight (is_counted (slice_get code pc)) (2 * suc (length code)) ≡ weight b (2 * suc (length code))
weight_by code pc b e = ap (λ x. weight x (2 * suc (length code))) e

on_numbers : (x n pc pc1 a b : ℕ) → pc < pc1 → pc < n → a ≤ b → x + a + (n - pc1) < x + b + (n - pc)
on_numbers x n pc pc1 a b h1 h2 h3 = omega arith

pub nearer_on : (code : List Instruction) (pc pc1 left level : ℕ) → pc < pc1 → pc < length code → is_counted (slice_get code pc) ≡ false → far code pc1 left level < far code pc left level
nearer_on code pc pc1 left level h1 h2 e =
    let a = weight_by code pc false e in
    let m = weight_most (is_counted (slice_get code pc1)) (2 * suc (length code)) in
    on_numbers (left * (4 * suc (length code)) + level * suc (length code)) (length code) pc pc1 _ _ h1 h2 (omega (arith, a, m))

back_numbers : (x n pc to a b : ℕ) → a ≡ 0 → b ≡ 2 * suc n → x + a + (n - to) < x + b + (n - pc)
back_numbers x n pc to a b h1 h2 = omega arith

nearer_back : (code : List Instruction) (pc to left level : ℕ) → is_counted (slice_get code to) ≡ true → is_counted (slice_get code pc) ≡ false → far code to left level < far code pc left level
nearer_back code pc to left level e1 e2 =
    back_numbers (left * (4 * suc (length code)) + level * suc (length code)) (length code) pc to _ _ (weight_by code to true e1) (weight_by code pc false e2)

begun_numbers : (x y z n pc pc1 a b : ℕ) → x ≡ 4 * suc n + y → a ≤ 2 * suc n → (y + z) + a + (n - pc1) < (x + z) + b + (n - pc)
begun_numbers x y z n pc pc1 a b h1 h2 = omega arith

times_suc : (m k : ℕ) → suc m * k ≡ k + m * k
times_suc m k = omega arith

pub nearer_begun : (code : List Instruction) (pc pc1 left level : ℕ) → (left ≡ 0 → ⊥) → far code pc1 (left - 1) level < far code pc left level
nearer_begun code pc pc1 zero level some = absurd (some refl)
nearer_begun code pc pc1 (suc m) level some =
    let e : suc m - 1 ≡ m = omega arith in
    let h : far code pc1 m level < far code pc (suc m) level = begun_numbers (suc m * (4 * suc (length code))) (m * (4 * suc (length code))) (level * suc (length code)) (length code) pc pc1 _ _ (times_suc m (4 * suc (length code))) (weight_most (is_counted (slice_get code pc1)) (2 * suc (length code))) in
    subst (λ n. far code pc1 n level < far code pc (suc m) level) (sym e) h

call_numbers : (x y z n pc to a b : ℕ) → y ≡ suc n + z → a ≡ 0 → b ≡ 2 * suc n → (x + y) + a + (n - to) < (x + z) + b + (n - pc)
call_numbers x y z n pc to a b h1 h2 h3 = omega arith

pub nearer_call : (code : List Instruction) (pc to left level : ℕ) → is_counted (slice_get code to) ≡ true → is_counted (slice_get code pc) ≡ false → far code to left (level + 1) < far code pc left level
nearer_call code pc to left level e1 e2 =
    let e : suc level ≡ level + 1 = omega arith in
    subst (λ n. far code to left n < far code pc left level) e (call_numbers (left * (4 * suc (length code))) (suc level * suc (length code)) (level * suc (length code)) (length code) pc to _ _ (times_suc level (suc (length code))) (weight_by code to true e1) (weight_by code pc false e2))

return_numbers : (x y z n pc to a b : ℕ) → y ≡ suc n + z → a ≤ 2 * suc n → b ≡ 2 * suc n → (x + z) + a + (n - to) < (x + y) + b + (n - pc)
return_numbers x y z n pc to a b h1 h2 h3 = omega arith

pub nearer_return : (code : List Instruction) (pc to left level : ℕ) → 1 ≤ level → is_counted (slice_get code pc) ≡ false → far code to left (level - 1) < far code pc left level
nearer_return code pc to left zero some e2 = absurd (omega arith)
nearer_return code pc to left (suc level) some e2 =
    let e : level ≡ suc level - 1 = omega arith in
    subst (λ n. far code to left n < far code pc left (suc level)) e (return_numbers (left * (4 * suc (length code))) (suc level * suc (length code)) (level * suc (length code)) (length code) pc to _ _ (times_suc level (suc (length code))) (weight_most (is_counted (slice_get code to)) (2 * suc (length code))) (weight_by code pc false e2))

-- ---- where an instruction may go on ----

-- later, or where a statement or a turn begins
abbrev pub IsAhead : List Instruction → ℕ → ℕ → Type 0
IsAhead code pc to = (pc < to) ⊎ (is_counted (slice_get code to) ≡ true)

target_ahead : (code : List Instruction) (pc to : ℕ) → is_target code pc to ≡ true → IsAhead code pc to
target_ahead code pc to h = by (or_cases (nat_lt pc to) (is_counted (slice_get code to)) (and_parts (nat_lt to (length code)) _ h).1)
  where
    by : (nat_lt pc to ≡ true) ⊎ (is_counted (slice_get code to) ≡ true) → IsAhead code pc to
    by (inl lt) = inl (ltb-true pc to lt)
    by (inr counted) = inr counted

next_ahead : (code : List Instruction) (pc to : ℕ) → pc + 1 ≡ to → IsAhead code pc to
next_ahead code pc to e = inl (omega arith)

one_ahead : (code : List Instruction) (pc a to : ℕ) (ns : List ℕ) → IsAhead code pc a → ((n : ℕ) → slice_get ns n ≡ Some to → IsAhead code pc to) → (n : ℕ) → slice_get (a ∷ ns) n ≡ Some to → IsAhead code pc to
one_ahead code pc a to ns h rest zero e = subst (IsAhead code pc) (same_Some _ _ e) h
one_ahead code pc a to ns h rest (suc n) e = rest n e

none_ahead : (code : List Instruction) (pc to n : ℕ) → slice_get [] n ≡ Some to → IsAhead code pc to
none_ahead code pc to n e = absurd (none-some to e)

table_ahead : (code : List Instruction) (pc to : ℕ) (ts : List ℕ) → are_targets code pc ts ≡ true → (n : ℕ) → slice_get ts n ≡ Some to → IsAhead code pc to
table_ahead code pc to [] h n e = absurd (none-some to e)
table_ahead code pc to (t ∷ ts) h zero e = subst (IsAhead code pc) (same_Some _ _ e) (target_ahead code pc t (and_parts (is_target code pc t) _ h).0)
table_ahead code pc to (t ∷ ts) h (suc n) e = table_ahead code pc to ts (and_parts (is_target code pc t) _ h).1 n e

leap_ahead : (code : List Instruction) (plans units pc : ℕ) (j : Instruction) (to : ℕ) → is_leap j ≡ true → is_in_range code plans units pc j ≡ true → IsIn to (ways j pc) → IsAhead code pc to
leap_ahead code plans units pc (i.Jump a) to l r w = one_ahead code pc a to [] (target_ahead code pc a r) (none_ahead code pc to) w.index w.is
leap_ahead code plans units pc (i.JumpFalse a) to l r w = one_ahead code pc (pc + 1) to (a ∷ []) (next_ahead code pc (pc + 1) refl) (one_ahead code pc a to [] (target_ahead code pc a r) (none_ahead code pc to)) w.index w.is
leap_ahead code plans units pc (i.JumpSign a b c) to l r w =
    let h = and_parts (is_target code pc a) _ r in
    let k = and_parts (is_target code pc b) _ h.1 in
    one_ahead code pc a to (b ∷ c ∷ []) (target_ahead code pc a h.0) (one_ahead code pc b to (c ∷ []) (target_ahead code pc b k.0) (one_ahead code pc c to [] (target_ahead code pc c k.1) (none_ahead code pc to))) w.index w.is
leap_ahead code plans units pc (i.JumpTable ts) to l r w = table_ahead code pc to ts r w.index w.is
leap_ahead code plans units pc (i.Begin p) to l r w = absurd (true≢false (sym l))
leap_ahead code plans units pc i.Step to l r w = absurd (true≢false (sym l))
leap_ahead code plans units pc (i.Push v) to l r w = absurd (true≢false (sym l))
leap_ahead code plans units pc (i.PushSpot first size) to l r w = absurd (true≢false (sym l))
leap_ahead code plans units pc (i.Dummy n) to l r w = absurd (true≢false (sym l))
leap_ahead code plans units pc (i.Element n) to l r w = absurd (true≢false (sym l))
leap_ahead code plans units pc (i.Load k) to l r w = absurd (true≢false (sym l))
leap_ahead code plans units pc i.Store to l r w = absurd (true≢false (sym l))
leap_ahead code plans units pc i.Forget to l r w = absurd (true≢false (sym l))
leap_ahead code plans units pc (i.Lend q) to l r w = absurd (true≢false (sym l))
leap_ahead code plans units pc (i.Both op) to l r w = absurd (true≢false (sym l))
leap_ahead code plans units pc (i.Compare op) to l r w = absurd (true≢false (sym l))
leap_ahead code plans units pc i.Minus to l r w = absurd (true≢false (sym l))
leap_ahead code plans units pc i.Not to l r w = absurd (true≢false (sym l))
leap_ahead code plans units pc (i.Known g n) to l r w = absurd (true≢false (sym l))
leap_ahead code plans units pc (i.LoopStart limit step) to l r w = absurd (true≢false (sym l))
leap_ahead code plans units pc (i.LoopTurn limit step t) to l r w = absurd (true≢false (sym l))
leap_ahead code plans units pc (i.Call t n) to l r w = absurd (true≢false (sym l))
leap_ahead code plans units pc i.Return to l r w = absurd (true≢false (sym l))
leap_ahead code plans units pc (i.Start way n) to l r w = absurd (true≢false (sym l))
leap_ahead code plans units pc (i.Item way k) to l r w = absurd (true≢false (sym l))
leap_ahead code plans units pc (i.Row way k n) to l r w = absurd (true≢false (sym l))
leap_ahead code plans units pc i.Finish to l r w = absurd (true≢false (sym l))
leap_ahead code plans units pc (i.Halt n) to l r w = absurd (true≢false (sym l))

nearer_ahead : (code : List Instruction) (pc to left level : ℕ) → pc < length code → is_counted (slice_get code pc) ≡ false → IsAhead code pc to → far code to left level < far code pc left level
nearer_ahead code pc to left level h here (inl lt) = nearer_on code pc to left level lt h here
nearer_ahead code pc to left level h here (inr counted) = nearer_back code pc to left level counted here

-- a branch leads nearer to the end
pub nearer_leap : (code : List Instruction) (plans units pc : ℕ) (j : Instruction) (to left level : ℕ) → slice_get code pc ≡ Some j → is_leap j ≡ true → is_counted (Some j) ≡ false → is_in_range code plans units pc j ≡ true → pc < length code → IsIn to (ways j pc) → far code to left level < far code pc left level
nearer_leap code plans units pc j to left level stands l e r h w = nearer_ahead code pc to left level h (ap is_counted stands ∙ e) (leap_ahead code plans units pc j to l r w)

-- and so does the end of a turn of a DO
pub nearer_turn : (code : List Instruction) (plans units pc limit step a to left level : ℕ) → slice_get code pc ≡ Some (i.LoopTurn limit step a) → is_in_range code plans units pc (i.LoopTurn limit step a) ≡ true → pc < length code → IsIn to (ways (i.LoopTurn limit step a) pc) → far code to left level < far code pc left level
nearer_turn code plans units pc limit step a to left level stands r h w =
    let t = (and_parts (nat_lt step units) _ (and_parts (nat_lt limit units) _ r).1).1 in
    nearer_ahead code pc to left level h (ap is_counted stands) (one_ahead code pc (pc + 1) to (a ∷ []) (next_ahead code pc (pc + 1) refl) (one_ahead code pc a to [] (target_ahead code pc a t) (none_ahead code pc to)) w.index w.is)

-- an entry is where a statement begins
pub begin_counted : (o : Option Instruction) → is_begin o ≡ true → is_counted o ≡ true
begin_counted None h = absurd (true≢false (sym h))
begin_counted (Some (i.Begin p)) h = refl
begin_counted (Some i.Step) h = absurd (true≢false (sym h))
begin_counted (Some (i.Push v)) h = absurd (true≢false (sym h))
begin_counted (Some (i.PushSpot first size)) h = absurd (true≢false (sym h))
begin_counted (Some (i.Dummy n)) h = absurd (true≢false (sym h))
begin_counted (Some (i.Element n)) h = absurd (true≢false (sym h))
begin_counted (Some (i.Load k)) h = absurd (true≢false (sym h))
begin_counted (Some i.Store) h = absurd (true≢false (sym h))
begin_counted (Some i.Forget) h = absurd (true≢false (sym h))
begin_counted (Some (i.Lend q)) h = absurd (true≢false (sym h))
begin_counted (Some (i.Both op)) h = absurd (true≢false (sym h))
begin_counted (Some (i.Compare op)) h = absurd (true≢false (sym h))
begin_counted (Some i.Minus) h = absurd (true≢false (sym h))
begin_counted (Some i.Not) h = absurd (true≢false (sym h))
begin_counted (Some (i.Known g n)) h = absurd (true≢false (sym h))
begin_counted (Some (i.Jump to)) h = absurd (true≢false (sym h))
begin_counted (Some (i.JumpFalse to)) h = absurd (true≢false (sym h))
begin_counted (Some (i.JumpSign a b c)) h = absurd (true≢false (sym h))
begin_counted (Some (i.JumpTable ts)) h = absurd (true≢false (sym h))
begin_counted (Some (i.LoopStart limit step)) h = absurd (true≢false (sym h))
begin_counted (Some (i.LoopTurn limit step to)) h = absurd (true≢false (sym h))
begin_counted (Some (i.Call to n)) h = absurd (true≢false (sym h))
begin_counted (Some i.Return) h = absurd (true≢false (sym h))
begin_counted (Some (i.Start way n)) h = absurd (true≢false (sym h))
begin_counted (Some (i.Item way k)) h = absurd (true≢false (sym h))
begin_counted (Some (i.Row way k n)) h = absurd (true≢false (sym h))
begin_counted (Some i.Finish) h = absurd (true≢false (sym h))
begin_counted (Some (i.Halt n)) h = absurd (true≢false (sym h))
