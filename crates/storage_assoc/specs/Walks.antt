-- The links that the statements of a unit give, in reading order.
use Rattle.std.specs.Prelude.{◌≡◌, ◌<◌, ◌≤◌, ℕ, suc, List, [], ◌∷◌, ◌++◌, length, map, take, slice_index, Option, ⊤}
use Rattle.std.specs.List.{All}
use Rattle.f66_tree.specs.Syntax.{Text, Act, Common, Equivalence, Line, Par}
use Rattle.f66_tree.specs.Units.{Context}
use Rattle.f66_program.specs.Association.{Row, Filled, not_filled, act_ties, act_filled, line_ties}
use Rattle.offset_classes.specs.declared.link.Link.{Link}
use Rattle.storage_assoc.specs.Indexing.{link_by}
use Rattle.storage_assoc.specs.Lists.{IsAreaTabled, AreFilled}
use Rattle.storage_assoc.specs.Groups.{IsMemberTabled}

-- the tables have what a statement names in COMMON or EQUIVALENCE
abbrev pub IsActTabled : ℕ → Context → List Row → (Row → ℕ) → (Text → Option ℕ) → (Text → Option ℕ) → (Text → Option (List Par)) → List ℕ → Act → Type 0
IsActTabled u c rows index find blocks dims sizes (Common areas) = All (IsAreaTabled u c rows index find blocks sizes) areas
IsActTabled u c rows index find blocks dims sizes (Equivalence groups) = All (All (IsMemberTabled u c index find dims)) groups
IsActTabled u c rows index find blocks dims sizes _ = ⊤

-- whatever unit the tables are of, the links are the ties of the statement
abbrev pub ActLinked : (Text → Option ℕ) → (Text → Option ℕ) → (Text → Option (List Par)) → List ℕ → Act → List ℕ → List ℕ → List Link → List Link → Type 0
ActLinked find blocks dims sizes a fills fills' old new =
    (u : ℕ) (c : Context) (rows : List Row) (index : Row → ℕ) (f : Filled) → IsActTabled u c rows index find blocks dims sizes a → AreFilled rows index fills f →
    (new ≡ old ++ map (link_by index) (act_ties u c f a)) × AreFilled rows index fills' (act_filled c f a)

abbrev pub lines_filled : Context → Filled → List Line → Filled
lines_filled c f [] = f
lines_filled c f (s ∷ lines) = lines_filled c (act_filled c f s.act) lines

-- The links are the ties of the statements, and so they are up to each statement, where there are so many as are counted there.
pub record IsWalked (u : ℕ) (c : Context) (rows : List Row) (index : Row → ℕ) (lines : List Line) (fills : List ℕ) (links : List Link) (counts : List ℕ) : Type 0 where
  pub links_are : links ≡ map (link_by index) (line_ties u c not_filled lines)
  pub up_to : (i : ℕ) → i < length lines → take (slice_index counts i) links ≡ map (link_by index) (line_ties u c not_filled (take (suc i) lines))
  pub filled : AreFilled rows index fills (lines_filled c not_filled lines)
  pub many : length counts ≡ length lines
  pub within : All (λ n. n ≤ length links) counts
  pub rising : (i j : ℕ) → i ≤ j → j < length counts → slice_index counts i ≤ slice_index counts j

-- whatever unit the tables are of
abbrev pub LinesLinked : (Text → Option ℕ) → (Text → Option ℕ) → (Text → Option (List Par)) → List ℕ → List Line → List ℕ → List Link → List ℕ → Type 0
LinesLinked find blocks dims sizes lines fills links counts =
    (u : ℕ) (c : Context) (rows : List Row) (index : Row → ℕ) → All (λ s. IsActTabled u c rows index find blocks dims sizes s.act) lines → IsWalked u c rows index lines fills links counts
