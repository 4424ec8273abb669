-- Where no part of a program breaks a rule of scopes, each label stands once in its procedure.
use Rattle.std.proofs.Common.{◌≡◌, ℕ, ◌+◌, ◌≤◌, Bool, true, false, List, [], ◌∷◌, ◌++◌, None, refl, ap, ◌∙◌, arith, if◌then◌else◌, ◌||◌}
use Rattle.std.specs.Prelude.{nat_eq, filter, flat_map}
use Rattle.std.specs.Str.{bytes_eq}
use Rattle.std.proofs.lemmas.Bool.{eqb-true}
use Rattle.f66_tree.specs.Syntax.{Text}
use Rattle.efl_tree.specs.Syntax.{EflProgram}
use Rattle.efl_scope.specs.Parts.{Part, program_parts}
use Rattle.efl_scope.specs.ScopeRules.{holds, again, labels_of, labels_before, misses_label, scope_rules}
use Rattle.efl_scope.specs.FirstFault.{with_earlier, breaks_with, fault_of, first_fault}
use Rattle.rule_table.specs.First.{first_part}
use Rattle.routes.specs.Numbered.{bit}
use Rattle.efl_typed.proofs.Each.{Each}
use Rattle.efl_typed.proofs.FoundLemmas.{neither}
use Rattle.efl_typed.proofs.Accepted.{none_mapped}
use Rattle.efl_lowered.proofs.Lists.{text_is}
use Rattle.efl_lowered.proofs.TypedChecks.{each_fact, Breaks, clean}
use Rattle.efl_naming.proofs.Counts.{total, total_joined, in_part, in_parts, parts_joined}

-- one for a text, and nothing for all others
abbrev pub for_text : Text → Text → ℕ
for_text x y = bit (bytes_eq x y)

bit_small : (b : Bool) → bit b ≤ 1
bit_small true = omega arith
bit_small false = omega arith

-- in a list that repeats neither its own texts nor those before
again_once : (x : Text) (before xs : List Text) → again before xs ≡ false → bit (holds before x) + total (for_text x) xs ≤ 1
again_once x before [] h = let small = bit_small (holds before x) in omega (small, arith)
again_once x before (y ∷ xs) h =
    let s = neither (holds before y) (again (y ∷ before) xs) h in by_first (bytes_eq x y) refl s.0 (again_once x (y ∷ before) xs s.1)
  where
    by_first : (b : Bool) → bytes_eq x y ≡ b → holds before y ≡ false → bit (b || holds before x) + total (for_text x) xs ≤ 1 → bit (holds before x) + (bit b + total (for_text x) xs) ≤ 1
    by_first true e none later =
        let out : bit (holds before x) ≡ 0 = ap (λ z. bit (holds before z)) (text_is x y e) ∙ ap bit none in omega (out, later, arith)
    by_first false e none later = omega (later, arith)

-- what stands once is held once
held : (x : Text) (xs : List Text) → total (for_text x) xs ≤ 1 → total (for_text x) xs ≤ bit (holds xs x)
held x [] h = omega arith
held x (y ∷ xs) h = by_first (bytes_eq x y) h (held x xs)
  where
    by_first : (b : Bool) → bit b + total (for_text x) xs ≤ 1 → (total (for_text x) xs ≤ 1 → total (for_text x) xs ≤ bit (holds xs x)) → bit b + total (for_text x) xs ≤ bit (b || holds xs x)
    by_first true g later = g
    by_first false g later = let i = later (omega (g, arith)) in omega (i, arith)

module _ (x : Text) (n : ℕ) where
  -- the labels before a part are those of the parts before it
  before_counted : (vs : List Part) → total (for_text x) (labels_before n vs) ≡ in_parts (for_text x) n vs
  before_counted [] = refl
  before_counted (v ∷ vs) = by_unit (nat_eq n v.around.unit) (before_counted vs)
    where
      rest : List Part
      rest = filter (λ v. nat_eq n v.around.unit) vs

      by_unit : (b : Bool) → total (for_text x) (flat_map (λ v. labels_of v.form) rest) ≡ in_parts (for_text x) n vs →
          total (for_text x) (flat_map (λ v. labels_of v.form) (if b then (v ∷ rest) else rest)) ≡ (if b then total (for_text x) (labels_of v.form) else 0) + in_parts (for_text x) n vs
      by_unit true h = total_joined (for_text x) (labels_of v.form) (flat_map (λ v. labels_of v.form) rest) ∙ ap (λ k. total (for_text x) (labels_of v.form) + k) h
      by_unit false h = omega (h, arith)

  abbrev IsGood : List Part × Part → Type 0
  IsGood t = again (labels_before t.1.around.unit t.0) (labels_of t.1.form) ≡ false

  one_more : (earlier : List Part) (v : Part) → IsGood (earlier, v) → in_parts (for_text x) n earlier ≤ 1 → in_parts (for_text x) n earlier + in_part (for_text x) n v ≤ 1
  one_more earlier v h g = by_unit (nat_eq n v.around.unit) refl
    where
      by_unit : (b : Bool) → nat_eq n v.around.unit ≡ b → in_parts (for_text x) n earlier + (if b then total (for_text x) (labels_of v.form) else 0) ≤ 1
      by_unit true e =
          let unlike : again (labels_before n earlier) (labels_of v.form) ≡ false = ap (λ m. again (labels_before m earlier) (labels_of v.form)) (eqb-true n v.around.unit e) ∙ h in
          let own_ones = again_once x (labels_before n earlier) (labels_of v.form) unlike in
          let same = before_counted earlier in
          let others = held x (labels_before n earlier) (omega (same, g, arith)) in
          omega (own_ones, same, others, arith)
      by_unit false e = omega (g, arith)

  each_once : (earlier vs : List Part) → Each IsGood (with_earlier earlier vs) → in_parts (for_text x) n earlier ≤ 1 → in_parts (for_text x) n earlier + in_parts (for_text x) n vs ≤ 1
  each_once earlier [] h g = omega (g, arith)
  each_once earlier (v ∷ vs) h g =
      let more = one_more earlier v h.0 g in
      let joined = parts_joined (for_text x) n earlier (v ∷ []) in
      let later = each_once (earlier ++ v ∷ []) vs h.1 (omega (more, joined, arith)) in
      omega (more, joined, later, arith)

  -- so many statements of a procedure have a label
  pub label_once : (p : EflProgram) → first_fault p ≡ None → in_parts (for_text x) n (program_parts p) ≤ 1
  label_once p h =
      let us = p.procedures in
      let all = clean (breaks_with us) scope_rules (with_earlier [] (program_parts p)) (none_mapped fault_of (first_part (breaks_with us) scope_rules (with_earlier [] (program_parts p))) h) in
      let good = each_fact (Breaks (breaks_with us) scope_rules) IsGood (with_earlier [] (program_parts p)) (λ t b. (neither (again (labels_before t.1.around.unit t.0) (labels_of t.1.form)) (misses_label t.1.around.labels t.1.form) b.1.1.0).0) all in
      let one = each_once [] (program_parts p) good (omega arith) in omega (one, arith)
