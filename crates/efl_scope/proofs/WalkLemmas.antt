-- A walk that asks parts one behind the other: the first fault of two lists of parts is that of the first, else that of the second.
use Rattle.std.proofs.Common.{◌≡◌, List, [], ◌∷◌, ◌++◌, find, Option, Some, None, option_map, refl, sym, ap, ◌∙◌}
use Rattle.std.specs.Option.{option_or}
use Rattle.std.proofs.lemmas.List.{append_assoc}
use Rattle.rule_table.specs.Words.{find_map}
use Rattle.rule_table.specs.First.{first_part}
use Rattle.efl_tree.specs.Syntax.{EflProcedure}
use Rattle.efl_scope.specs.Parts.{Part}
use Rattle.efl_scope.specs.ScopeRules.{scope_rules}
use Rattle.efl_scope.specs.FirstFault.{with_earlier, breaks_with, fault_of, first_in}

pub option_or_assoc : {V : Type 0} (a b c : Option V) → option_or a (option_or b c) ≡ option_or (option_or a b) c
option_or_assoc None b c = refl
option_or_assoc (Some v) b c = refl

find_map-append : {X V : Type 0} (f : X → Option V) (xs ys : List X) → find_map f (xs ++ ys) ≡ option_or (find_map f xs) (find_map f ys)
find_map-append f [] ys = refl
find_map-append f (x ∷ xs) ys = ap (option_or (f x)) (find_map-append f xs ys) ∙ option_or_assoc (f x) (find_map f xs) (find_map f ys)

with_earlier-append : (earlier vs ws : List Part) → with_earlier earlier (vs ++ ws) ≡ with_earlier earlier vs ++ with_earlier (earlier ++ vs) ws
with_earlier-append earlier [] ws = ap (λ e. with_earlier e ws) (sym (nothing earlier))
  where
    nothing : (xs : List Part) → xs ++ [] ≡ xs
    nothing [] = refl
    nothing (x ∷ xs) = ap (λ ys. x ∷ ys) (nothing xs)
with_earlier-append earlier (v ∷ vs) ws =
    ap (λ ts. (earlier, v) ∷ ts) (with_earlier-append (earlier ++ v ∷ []) vs ws ∙ ap (λ e. with_earlier (earlier ++ v ∷ []) vs ++ with_earlier e ws) (append_assoc earlier (v ∷ []) vs))

pub mapped : {V W : Type 0} (f : V → W) (a b : Option V) → option_map f (option_or a b) ≡ option_or (option_map f a) (option_map f b)
mapped f None b = refl
mapped f (Some v) b = refl

pub first_in-append : (us : List EflProcedure) (earlier vs ws : List Part) → first_in us earlier (vs ++ ws) ≡ option_or (first_in us earlier vs) (first_in us (earlier ++ vs) ws)
first_in-append us earlier vs ws =
    ap (λ ts. option_map fault_of (first_part (breaks_with us) scope_rules ts)) (with_earlier-append earlier vs ws)
    ∙ ap (option_map fault_of) (find_map-append (λ t. option_map (λ k. (t, k)) (find (breaks_with us t) scope_rules)) (with_earlier earlier vs) (with_earlier (earlier ++ vs) ws))
    ∙ mapped fault_of (first_part (breaks_with us) scope_rules (with_earlier earlier vs)) (first_part (breaks_with us) scope_rules (with_earlier (earlier ++ vs) ws))
