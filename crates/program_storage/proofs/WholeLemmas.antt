-- The numbers of the rows of a unit: first those of its blocks, then those of its names.
use Rattle.std.proofs.Common.{◌≡◌, ◌+◌, ℕ, suc, List, [], ◌∷◌, length, map, slice_index, Option, ◌∙◌, ap, subst, arith}
use Rattle.std.proofs.lemmas.List.{get_or-map, length-map}
use Rattle.f66_tree.specs.Syntax.{Text}
use Rattle.storage_assoc.specs.Lists.{row_by}
use Rattle.program_storage.specs.Whole.{AreCountedOn, AreWhole}

pub are_whole : (blocks : Text → Option ℕ) (labels : List Text) (base names : ℕ) (old whole : List ℕ) → old ≡ 0 ∷ map (row_by blocks) labels → AreCountedOn old base names whole →
    AreWhole blocks labels base names whole
are_whole blocks labels base names old whole e c =
    let long : length old ≡ suc (length labels) = ap length e ∙ ap suc (length-map labels (row_by blocks)) in
    let many = c.many in
    record {
      many = omega (arith, many, long);
      blank = c.kept 0 (omega (arith, long)) ∙ ap (λ ns. slice_index ns 0) e;
      label = λ k lt. c.kept (suc k) (omega (arith, long, lt)) ∙ ap (λ ns. slice_index ns (suc k)) e ∙ get_or-map (row_by blocks) labels k [] 0 lt;
      name = λ k lt. subst (λ n. slice_index whole (n + k) ≡ base + k) long (c.added k lt);
    }
