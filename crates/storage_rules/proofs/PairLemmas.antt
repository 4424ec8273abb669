-- Places with their values, one by one, and values as often as their counts say.
use Rattle.std.proofs.Common.{◌≡◌, ◌-◌, ◌∙◌, ◌∷◌, ◌++◌, [], ℕ, zero, suc, min, unsigned_abs, List, length, take, replicate, refl, sym, ap, append_assoc, arith}
use Rattle.std.proofs.lemmas.List.{append-nil}
use Rattle.ground.specs.Content.{Content}
use Rattle.f66_tree.specs.Syntax.{Text, Formula, Ref, Item}
use Rattle.f66_tree.specs.Units.{Context, sizes_of}
use Rattle.f66_program.specs.Association.{shift}
use Rattle.f66_program.specs.Initial.{Preset, paired, content_of, values_of}

module _ (u i : ℕ) (c : Context) where
  abbrev preset_by : Text → ℕ → Content → Preset
  preset_by x o v = record { unit = u; part = i; name = x; at = o; value = v }

  -- values that no place is left for count for nothing
  pub paired_take : (es : List Formula) (vs : List Content) → paired u i c es (take (length es) vs) ≡ paired u i c es vs
  paired_take [] vs = refl
  paired_take (e ∷ es) [] = refl
  paired_take (Ref x ∷ es) (v ∷ vs) = ap (λ ps. preset_by x 0 v ∷ ps) (paired_take es vs)
  paired_take (Item x ns ∷ es) (v ∷ vs) = ap (λ ps. preset_by x (unsigned_abs (shift 1 (sizes_of x c.notes) ns)) v ∷ ps) (paired_take es vs)
  paired_take (_ ∷ es) (v ∷ vs) = refl

take_times : (most count : ℕ) (c : Content) → take most (replicate count c) ≡ replicate (min most count) c
take_times zero count c = (let z : 0 ≡ min 0 count = omega arith in ap (λ n. replicate n c) z)
take_times (suc most) zero c = (let z : 0 ≡ min (suc most) 0 = omega arith in ap (λ n. replicate n c) z)
take_times (suc most) (suc count) c =
    let z : suc (min most count) ≡ min (suc most) (suc count) = omega arith in ap (λ cs. c ∷ cs) (take_times most count c) ∙ ap (λ n. replicate n c) z

pub take_more_times : (most : ℕ) (xs : List Content) (count : ℕ) (c : Content) → take most (xs ++ replicate count c) ≡ take most xs ++ replicate (min (most - length (take most xs)) count) c
take_more_times zero xs count c = (let z : 0 ≡ min (0 - 0) count = omega arith in ap (λ n. replicate n c) z)
take_more_times (suc most) [] count c = (let z : suc most ≡ suc most - 0 = omega arith in take_times (suc most) count c ∙ ap (λ n. replicate (min n count) c) z)
take_more_times (suc most) (x ∷ xs) count c =
    let z : most - length (take most xs) ≡ suc most - suc (length (take most xs)) = omega arith in
    ap (λ cs. x ∷ cs) (take_more_times most xs count c ∙ ap (λ n. take most xs ++ replicate (min n count) c) z)

pub values_of-push : (vs : List (ℕ × Formula)) (v : ℕ × Formula) → values_of (vs ++ v ∷ []) ≡ values_of vs ++ replicate v.0 (content_of v.1)
values_of-push [] v = append-nil (replicate v.0 (content_of v.1))
values_of-push (w ∷ vs) v = ap (λ cs. replicate w.0 (content_of w.1) ++ cs) (values_of-push vs v) ∙ sym (append_assoc (replicate w.0 (content_of w.1)) (values_of vs) (replicate v.0 (content_of v.1)))
