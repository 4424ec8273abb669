-- What a walk over a unit's parts has seen so far.
use Rattle.std.specs.Prelude.{ℕ, nat_eq, List, [], ◌∷◌, ◌++◌, Option, Some, None, fold, if◌then◌else◌}
use Rattle.std.specs.List.{list_any}
use Rattle.rat_tree.specs.Syntax.{Commands, NoCommand, AndCommand}
use Rattle.rat_check.specs.Parts.{Labels, target_of, Part}

-- a set of labels by the list of its members
abbrev pub is_among : List ℕ → Labels
is_among ls l = list_any (nat_eq l) ls

abbrev pub adding : ℕ → List ℕ → List ℕ
adding l ls = if is_among ls l then ls else (ls ++ l ∷ [])

abbrev pub adding_if : Option ℕ → List ℕ → List ℕ
adding_if None ls = ls
adding_if (Some l) ls = adding l ls

-- the labels of the parts are added, each once
abbrev pub own_labels : List Part → List ℕ → List ℕ
own_labels [] ls = ls
own_labels (v ∷ vs) ls = own_labels vs (adding_if v.label ls)

-- the labels that stand directly in a list are added
abbrev pub adding_all : Commands → List ℕ → List ℕ
adding_all NoCommand ls = ls
adding_all (AndCommand c ss) ls = adding_all ss (adding_if (target_of c) ls)

-- what a walk has seen: the labels that stand directly in the lists around, and the parts so far
pub record Survey : Type 0 where
  pub reach : List ℕ
  pub parts : List Part

abbrev pub starting : Survey
starting = record { reach = []; parts = [] }

abbrev pub noting : Survey → Part → Survey
noting s v = record { reach = s.reach; parts = s.parts ++ v ∷ [] }

abbrev pub noting_all : List Part → Survey → Survey
noting_all vs s = fold noting s vs

-- the lists around a list of statements are entered, and left
abbrev pub reaching : List ℕ → Survey → Survey
reaching r s = record { reach = r; parts = s.parts }
