-- The places that DATA fills stand in reading order, each in a statement of its unit.
use Rattle.std.proofs.Common.{◌≡◌, ◌<◌, ◌≤◌, ◌+◌, ◌⊎◌, inl, inr, ◌∙◌, ◌∷◌, ◌++◌, [], ℕ, zero, suc, List, Some, refl, sym, ap, subst, arith}
use Rattle.std.specs.Prelude.{⊤}
use Rattle.std.specs.List.{All, flat_map, slice_get}
use Rattle.std.proofs.lemmas.Bool.{cases_lt}
use Rattle.std.proofs.lemmas.List.Elements.{All-nil, All-cons, All-append, All-contains, All-weaker}
use Rattle.ground.specs.Content.{Content}
use Rattle.f66_tree.specs.Syntax.{Formula, Ref, Item, PresetPart, Act, Line, Routine}
use Rattle.f66_tree.specs.Syntax as f66
use Rattle.f66_tree.specs.Units.{Context}
use Rattle.f66_program.specs.Mentions.{context_of}
use Rattle.f66_program.specs.Initial.{Preset, paired, part_presets, values_of, act_presets, line_presets, presets_from, presets_of}
use Rattle.linker.proofs.PartLemmas.{contains_got}
use Rattle.storage_rules.specs.Presets.{IsStanding}

abbrev pub IsNotBefore : Preset → Preset → Type 0
IsNotBefore p q = (p.unit < q.unit) ⊎ ((p.unit ≡ q.unit) × (p.part ≤ q.part))

abbrev IsOrdered : List Preset → Type 0
IsOrdered [] = ⊤
IsOrdered (p ∷ ps) = All (IsNotBefore p) ps × IsOrdered ps

abbrev IsAt : ℕ → ℕ → Preset → Type 0
IsAt u i p = (p.unit ≡ u) × (p.part ≡ i)

paired_at : (u i : ℕ) (c : Context) (es : List Formula) (vs : List Content) → All (IsAt u i) (paired u i c es vs)
paired_at u i c (Ref x ∷ es) (v ∷ vs) = All-cons (IsAt u i) _ (paired u i c es vs) (refl, refl) (paired_at u i c es vs)
paired_at u i c (Item x ns ∷ es) (v ∷ vs) = All-cons (IsAt u i) _ (paired u i c es vs) (refl, refl) (paired_at u i c es vs)
paired_at u i c _ _ = All-nil (IsAt u i)

parts_at : (u i : ℕ) (c : Context) (parts : List PresetPart) → All (IsAt u i) (flat_map (part_presets u i c) parts)
parts_at u i c [] = All-nil (IsAt u i)
parts_at u i c (p ∷ parts) = All-append (IsAt u i) (part_presets u i c p) (flat_map (part_presets u i c) parts) (paired_at u i c p.places (values_of p.values)) (parts_at u i c parts)

act_at : (u i : ℕ) (c : Context) (a : Act) → All (IsAt u i) (act_presets u i c a)
act_at u i c (f66.Preset parts) = parts_at u i c parts
act_at u i c _ = All-nil (IsAt u i)

tail : {X : Type 0} (P : X → Type 0) (x : X) (xs : List X) → All P (x ∷ xs) → All P xs
tail P x xs a i d lt = a (suc i) d (omega (arith, lt))

at_ordered : (u i : ℕ) (ps : List Preset) → All (IsAt u i) ps → IsOrdered ps
at_ordered u i [] a = tt
at_ordered u i (p ∷ ps) a =
    let h = a 0 p (omega arith) in
    let rest = tail (IsAt u i) p ps a in
    (All-weaker (IsAt u i) (IsNotBefore p) (λ q b. inr (h.0 ∙ sym b.0, (let e = h.1 in let f = b.1 in omega (arith, e, f)))) ps rest, at_ordered u i ps rest)

ordered_append : (xs ys : List Preset) → IsOrdered xs → IsOrdered ys → All (λ x. All (IsNotBefore x) ys) xs → IsOrdered (xs ++ ys)
ordered_append [] ys ox oy a = oy
ordered_append (x ∷ xs) ys ox oy a = (All-append (IsNotBefore x) xs ys ox.0 (a 0 x (omega arith)), ordered_append xs ys ox.1 oy (tail (λ x. All (IsNotBefore x) ys) x xs a))

abbrev IsBehind : ℕ → ℕ → Preset → Type 0
IsBehind u i p = (p.unit ≡ u) × (i ≤ p.part)

lines_behind : (u i : ℕ) (c : Context) (lines : List Line) → All (IsBehind u i) (line_presets u i c lines)
lines_behind u i c [] = All-nil (IsBehind u i)
lines_behind u i c (l ∷ lines) =
    All-append (IsBehind u i) (act_presets u i c l.act) (line_presets u (suc i) c lines)
    (All-weaker (IsAt u i) (IsBehind u i) (λ p b. (b.0, (let e = b.1 in omega (arith, e)))) (act_presets u i c l.act) (act_at u i c l.act))
    (All-weaker (IsBehind u (suc i)) (IsBehind u i) (λ p b. (b.0, (let le = b.1 in omega (arith, le)))) (line_presets u (suc i) c lines) (lines_behind u (suc i) c lines))

lines_ordered : (u i : ℕ) (c : Context) (lines : List Line) → IsOrdered (line_presets u i c lines)
lines_ordered u i c [] = tt
lines_ordered u i c (l ∷ lines) =
    ordered_append (act_presets u i c l.act) (line_presets u (suc i) c lines) (at_ordered u i (act_presets u i c l.act) (act_at u i c l.act)) (lines_ordered u (suc i) c lines)
    (All-weaker (IsAt u i) (λ x. All (IsNotBefore x) (line_presets u (suc i) c lines))
    (λ x h. All-weaker (IsBehind u (suc i)) (IsNotBefore x) (λ p b. inr (h.0 ∙ sym b.0, (let e = h.1 in let le = b.1 in omega (arith, e, le)))) (line_presets u (suc i) c lines) (lines_behind u (suc i) c lines))
    (act_presets u i c l.act) (act_at u i c l.act))

units_behind : (u : ℕ) (rs : List Routine) → All (λ p. u ≤ p.unit) (presets_from u rs)
units_behind u [] = All-nil (λ (p : Preset). u ≤ p.unit)
units_behind u (r ∷ rs) =
    All-append (λ p. u ≤ p.unit) (line_presets u 0 (context_of r) r.lines) (presets_from (suc u) rs)
    (All-weaker (IsBehind u 0) (λ p. u ≤ p.unit) (λ p b. (let e = b.0 in omega (arith, e))) (line_presets u 0 (context_of r) r.lines) (lines_behind u 0 (context_of r) r.lines))
    (All-weaker (λ p. suc u ≤ p.unit) (λ p. u ≤ p.unit) (λ p le. omega (arith, le)) (presets_from (suc u) rs) (units_behind (suc u) rs))

units_ordered : (u : ℕ) (rs : List Routine) → IsOrdered (presets_from u rs)
units_ordered u [] = tt
units_ordered u (r ∷ rs) =
    ordered_append (line_presets u 0 (context_of r) r.lines) (presets_from (suc u) rs) (lines_ordered u 0 (context_of r) r.lines) (units_ordered (suc u) rs)
    (All-weaker (IsBehind u 0) (λ x. All (IsNotBefore x) (presets_from (suc u) rs))
    (λ x b. All-weaker (λ p. suc u ≤ p.unit) (IsNotBefore x) (λ p le. inl (let e = b.0 in omega (arith, e, le))) (presets_from (suc u) rs) (units_behind (suc u) rs))
    (line_presets u 0 (context_of r) r.lines) (lines_behind u 0 (context_of r) r.lines))

ordered_at : (ps : List Preset) → IsOrdered ps → (k s : ℕ) (a b : Preset) → k < s → slice_get ps k ≡ Some a → slice_get ps s ≡ Some b → IsNotBefore a b
ordered_at [] o k s a b lt e f = absurd (cc)
ordered_at (p ∷ ps) o zero zero a b lt e f = absurd (omega (arith, lt))
ordered_at (p ∷ ps) o zero (suc s) a b lt e f =
    let same : p ≡ a = (let g : Some p ≡ Some a = e in cc) in
    subst (λ x. IsNotBefore x b) same (All-contains (IsNotBefore p) ps b o.0 (contains_got ps s b f))
ordered_at (p ∷ ps) o (suc k) zero a b lt e f = absurd (omega (arith, lt))
ordered_at (p ∷ ps) o (suc k) (suc s) a b lt e f = ordered_at ps o.1 k s a b (omega (arith, lt)) e f

-- a place does not stand before another one that comes behind it
pub in_order : (rs : List Routine) (k s : ℕ) (a b : Preset) → k ≤ s → slice_get (presets_of rs) k ≡ Some a → slice_get (presets_of rs) s ≡ Some b → IsNotBefore a b
in_order rs k s a b le e f = elim (cases_lt k s) [
  | inl lt ↦ ordered_at (presets_of rs) (units_ordered 0 rs) k s a b lt e f
  | inr ge ↦
      let at : k ≡ s = omega (arith, le, ge) in
      let same : a ≡ b = (let g : Some a ≡ Some b = sym e ∙ ap (slice_get (presets_of rs)) at ∙ f in cc) in
      subst (IsNotBefore a) same (inr (refl, omega arith))
]

-- statements

abbrev IsInLines : ℕ → ℕ → List Line → Preset → Type 0
IsInLines u i lines p = (p.unit ≡ u) × ((j : ℕ) × (l : Line) × (p.part ≡ i + j) × (slice_get lines j ≡ Some l))

lines_stand : (u i : ℕ) (c : Context) (lines : List Line) → All (IsInLines u i lines) (line_presets u i c lines)
lines_stand u i c [] = All-nil (IsInLines u i [])
lines_stand u i c (l ∷ lines) =
    All-append (IsInLines u i (l ∷ lines)) (act_presets u i c l.act) (line_presets u (suc i) c lines)
    (All-weaker (IsAt u i) (IsInLines u i (l ∷ lines)) (λ p b. (b.0, (0, l, (let e = b.1 in omega (arith, e)), refl))) (act_presets u i c l.act) (act_at u i c l.act))
    (All-weaker (IsInLines u (suc i) lines) (IsInLines u i (l ∷ lines)) (λ p b. (let w = b.1 in (b.0, (suc w.0, w.1, (let e = w.2 in omega (arith, e)), w.3)))) (line_presets u (suc i) c lines) (lines_stand u (suc i) c lines))

abbrev IsInUnits : ℕ → List Routine → Preset → Type 0
IsInUnits u rs p = (j : ℕ) × (r : Routine) × (l : Line) × (p.unit ≡ u + j) × (slice_get rs j ≡ Some r) × (slice_get r.lines p.part ≡ Some l)

units_stand : (u : ℕ) (rs : List Routine) → All (IsInUnits u rs) (presets_from u rs)
units_stand u [] = All-nil (IsInUnits u [])
units_stand u (r ∷ rs) =
    All-append (IsInUnits u (r ∷ rs)) (line_presets u 0 (context_of r) r.lines) (presets_from (suc u) rs)
    (All-weaker (IsInLines u 0 r.lines) (IsInUnits u (r ∷ rs))
    (λ p b. (let w = b.1 in let e : w.0 ≡ p.part = (let n = w.2 in omega (arith, n)) in (0, r, w.1, (let n = b.0 in omega (arith, n)), refl, subst (λ j. slice_get r.lines j ≡ Some w.1) e w.3)))
    (line_presets u 0 (context_of r) r.lines) (lines_stand u 0 (context_of r) r.lines))
    (All-weaker (IsInUnits (suc u) rs) (IsInUnits u (r ∷ rs)) (λ p w. (suc w.0, w.1, w.2, (let n = w.3 in omega (arith, n)), w.4, w.5)) (presets_from (suc u) rs) (units_stand (suc u) rs))

pub stands : (rs : List Routine) (k : ℕ) (p : Preset) → slice_get (presets_of rs) k ≡ Some p → IsStanding rs p.unit p.part
stands rs k p e =
    let w = All-contains (IsInUnits 0 rs) (presets_of rs) p (units_stand 0 rs) (contains_got (presets_of rs) k p e) in
    let n : w.0 ≡ p.unit = (let m = w.3 in omega (arith, m)) in
    record { unit = w.1; line = w.2; here = subst (λ u. slice_get rs u ≡ Some w.1) n w.4; stands = w.5 }
