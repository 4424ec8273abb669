-- Numbers of nodes that fall along each edge.
use Rattle.std.specs.Prelude.{◌≡◌, ◌<◌, ◌≤◌, ◌+◌, ℕ, Bool, List, length, slice_index_or, slice_set, MatchBool}
use Rattle.call_cycles.specs.declared.edge.Edge.{Edge}
use Rattle.call_cycles.specs.Cycles.{edge_at}

-- so many nodes have numbers below their count that fall along each edge
pub record CanFall (nodes : ℕ) (edges : List Edge) : Type 0 where
  pub rank : ℕ → ℕ
  pub falls : (j : ℕ) → j < length edges → rank (edge_at edges j).to < rank (edge_at edges j).from
  pub small : (u : ℕ) → u < nodes → rank u < nodes

-- they have such numbers which are nowhere less than these
pub record CanRise (edges : List Edge) (ranks : List ℕ) : Type 0 where
  pub can : CanFall (length ranks) edges
  pub under : (u : ℕ) → slice_index_or ranks u 0 ≤ can.rank u

-- the beginning of an edge is lifted above its end, or is above it
abbrev pub IsLifted : Edge → List ℕ → List ℕ → Bool → Type 0
IsLifted e old new lifted =
    MatchBool lifted ((slice_index_or old e.from 0 ≤ slice_index_or old e.to 0) × (new ≡ slice_set old e.from (slice_index_or old e.to 0 + 1)))
    ((slice_index_or old e.to 0 < slice_index_or old e.from 0) × (new ≡ old))
