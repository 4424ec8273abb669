-- What a walk has seen after a list of parts, and the labels of the parts.
use Rattle.std.proofs.Common.{◌≡◌, ℕ, List, [], ◌∷◌, ◌++◌, refl, ap, ◌∙◌, sym}
use Rattle.std.proofs.lemmas.List.{append-nil, append_assoc}
use Rattle.rat_tree.specs.Syntax.{Commands}
use Rattle.rat_check.specs.Parts.{no_label, Part, with_labels, parts_in, unit_parts}
use Rattle.rat_check.specs.FirstFault.{with_own}
use Rattle.rat_check.specs.Survey.{is_among, adding_if, own_labels, Survey, starting, noting, noting_all}
use Rattle.rat_check.proofs.PartLemmas.{among_adding_if}

noted_parts : (vs : List Part) (s : Survey) → (noting_all vs s).parts ≡ s.parts ++ vs
noted_parts [] s = sym (append-nil s.parts)
noted_parts (v ∷ vs) s = noted_parts vs (noting s v) ∙ append_assoc s.parts (v ∷ []) vs

-- a walk over a whole unit sees its parts
pub all_parts : (ss : Commands) (s0 s1 : Survey) → s0 ≡ starting → s1 ≡ noting_all (parts_in 0 (with_labels ss (is_among s0.reach)) ss) s0 → s1.parts ≡ unit_parts ss
all_parts ss s0 s1 first last =
    ap (λ s. s.parts) last ∙ ap (λ s. (noting_all (parts_in 0 (with_labels ss (is_among s.reach)) ss) s).parts) first ∙ noted_parts (unit_parts ss) starting

among_own : (vs : List Part) (ls : List ℕ) → is_among (own_labels vs ls) ≡ with_own vs (is_among ls)
among_own [] ls = refl
among_own (v ∷ vs) ls = among_own vs (adding_if v.label ls) ∙ ap (with_own vs) (among_adding_if v.label ls)

-- the list of the labels and the set of them have the same members
pub own_among : (vs : List Part) → is_among (own_labels vs []) ≡ with_own vs no_label
own_among vs = among_own vs []
