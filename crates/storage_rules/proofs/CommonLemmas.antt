-- A unit without a COMMON names no block.
use Rattle.std.proofs.Common.{◌≡◌, ◌||◌, false, List, [], ◌∷◌, Some, refl, ap, ◌∙◌}
use Rattle.std.specs.List.{list_any}
use Rattle.std.proofs.lemmas.Bool.{or_parts}
use Rattle.f66_tree.specs.declared.statement.Stmt.{Stmt}
use Rattle.f66_tree.specs.Syntax.{Text, Act, Common}
use Rattle.f66_tree.specs.Views.{act_of, lines_of}
use Rattle.f66_program.specs.Linking.{names_block}
use Rattle.storage_rules.specs.Blocks.{is_common}

act_names_none : (q : Text) (a : Act) → is_common a ≡ false → names_block (Some q) a ≡ false
act_names_none q (Common areas) e = absurd (cc)
act_names_none q a e = refl

pub names_none : (q : Text) (all : List Stmt) → list_any (λ s. is_common (act_of s.kind)) all ≡ false → list_any (λ s. names_block (Some q) s.act) (lines_of all) ≡ false
names_none q [] e = refl
names_none q (s ∷ all) e =
    let w = or_parts (is_common (act_of s.kind)) (list_any (λ s. is_common (act_of s.kind)) all) e in
    ap (λ b. b || list_any (λ s. names_block (Some q) s.act) (lines_of all)) (act_names_none q (act_of s.kind) w.0) ∙ names_none q all w.1
