-- The names of the source are kept, so that the spare name is none of them.
use Rattle.std.proofs.Common.{◌≡◌, List, [], ◌∷◌, ◌++◌, length, ap, ◌∙◌, refl}
use Rattle.std.proofs.lemmas.Grind.{common_steps}
use Rattle.f66_tree.specs.Syntax.{Text}
use Rattle.name_alloc.specs.Numbers.{starting}
use Rattle.name_alloc.specs.MadeNames.{Used, keeping, unused, keeping_all}
use Rattle.name_alloc.proofs.KeptNames.{none_yet, kept_names, kept_none_made, kept_labels}

pub keeping_append : (xs ys : List Text) (s : Used) → keeping_all (xs ++ ys) s ≡ keeping_all ys (keeping_all xs s)
keeping_append [] ys s = refl
keeping_append (x ∷ xs) ys s = keeping_append xs ys (keeping s x)

pub ruleset name_steps = (common_steps, keeping_append)

module _ (xs : List Text) (s : Used) (is : s ≡ keeping_all xs unused) where
  pub all_kept : length s.kept ≡ length xs
  all_kept = ap (λ (u : Used). length u.kept) is ∙ ap length (kept_names xs unused)

  pub none_made : s.numbers.made ≡ []
  none_made = ap (λ (u : Used). u.numbers.made) is ∙ kept_none_made xs unused none_yet

  pub no_labels : s.labels ≡ starting 23000
  no_labels = ap (λ (u : Used). u.labels) is ∙ kept_labels xs unused
