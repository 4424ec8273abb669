-- One statement more gives its places.
use Rattle.std.proofs.Common.{◌≡◌, ◌<◌, ◌+◌, ◌∙◌, ◌∷◌, ◌++◌, [], ℕ, zero, suc, List, length, map, drop, get_or, sym, ap, append_assoc, arith}
use Rattle.f66_tree.specs.Syntax.{Line}
use Rattle.f66_tree.specs.Units.{Context}
use Rattle.f66_program.specs.Initial.{Preset, act_presets, line_presets}

dropped : {X Y : Type 0} (f : X → Y) (xs : List X) (i : ℕ) (x : X) → i < length xs → x ≡ get_or xs i x → map f (drop i xs) ≡ f x ∷ map f (drop (i + 1) xs)
dropped f [] i x lt is = absurd (omega (arith, lt))
dropped f (y ∷ xs) zero x lt is = ap (λ z. f z ∷ map f xs) (sym is)
dropped f (y ∷ xs) (suc i) x lt is =
    let e : suc (i + 1) ≡ suc i + 1 = omega arith in
    dropped f xs i x (omega (arith, lt)) is ∙ ap (λ n. f x ∷ map f (drop n (y ∷ xs))) e

pub line_step : {X : Type 0} (f : X → Line) (u : ℕ) (c : Context) (xs : List X) (i : ℕ) (x : X) (old new all : List Preset) → i < length xs → x ≡ get_or xs i x →
    new ≡ old ++ act_presets u i c (f x).act → old ++ line_presets u i c (map f (drop i xs)) ≡ all → new ++ line_presets u (i + 1) c (map f (drop (i + 1) xs)) ≡ all
line_step f u c xs i x old new all lt is added inv =
    let rest = map f (drop (i + 1) xs) in
    let e : i + 1 ≡ suc i = omega arith in
    ap (λ ps. ps ++ line_presets u (i + 1) c rest) added
    ∙ append_assoc old (act_presets u i c (f x).act) (line_presets u (i + 1) c rest)
    ∙ ap (λ n. old ++ (act_presets u i c (f x).act ++ line_presets u n c rest)) e
    ∙ ap (λ ls. old ++ line_presets u i c ls) (sym (dropped f xs i x lt is))
    ∙ inv
