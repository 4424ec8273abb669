-- What a unit without a fault says of names breaks no rule.
use Rattle.std.proofs.Common.{◌≡◌, ◌+◌, ℕ, suc, false, List, [], ◌∷◌, ◌++◌, length, subst, arith}
use Rattle.std.specs.Prelude.{⊤}
use Rattle.std.proofs.lemmas.Bool.{or_parts}
use Rattle.rule_table.specs.declared.rule.Rule.{Rule}
use Rattle.f66_tree.specs.Syntax.{Act}
use Rattle.f66_tree.specs.Units.{Context}
use Rattle.unit_rules.specs.UnitRules.{breaks_rule}
use Rattle.rat_check.specs.Parts.{Part}
use Rattle.rat_check.specs.Said.{said_by, said_in}
use Rattle.rat_check.specs.Rules.{Before, behind, UnitRules, break_names}
use Rattle.rat_check.proofs.CleanLemmas.{AllKeep}

-- none of these, the first of which is the n-th of the unit, breaks a rule
abbrev pub AllRight : Context → List Act → ℕ → List Act → Type 0
AllRight c said n [] = ⊤
AllRight c said n (a ∷ rest) = ((k : Rule) → breaks_rule c said n a k ≡ false) × AllRight c said (n + 1) rest

none_broken : (c : Context) (said : List Act) (n : ℕ) (acts : List Act) → ((k : Rule) → break_names c said n acts k ≡ false) → AllRight c said n acts
none_broken c said n [] h = tt
none_broken c said n (a ∷ rest) h =
    (λ k. (or_parts (breaks_rule c said n a k) _ (h k)).0, none_broken c said (n + 1) rest (λ k. (or_parts (breaks_rule c said n a k) _ (h k)).1))

both_right : (c : Context) (said : List Act) (n : ℕ) (xs ys : List Act) → AllRight c said n xs → AllRight c said (n + length xs) ys → AllRight c said n (xs ++ ys)
both_right c said n [] ys h more = let e : n + 0 ≡ n = omega arith in subst (λ m. AllRight c said m ys) e more
both_right c said n (x ∷ xs) ys h more =
    let e : n + suc (length xs) ≡ n + 1 + length xs = omega arith in
    (h.0, both_right c said (n + 1) xs ys h.1 (subst (λ m. AllRight c said m ys) e more))

pub said_right : (u : UnitRules) (b : Before) (vs : List Part) → AllKeep u b vs → AllRight u.context u.said b.said (said_in u.context.header vs)
said_right u b [] h = tt
said_right u b (v ∷ vs) h =
    let acts = said_by u.context.header v.form in
    both_right u.context u.said b.said acts (said_in u.context.header vs) (none_broken u.context u.said b.said acts h.0.named) (said_right u (behind u.context.header b v) vs h.1)
