-- Numbers in memory that lay out a linked program by ranks.
use Rattle.std.specs.Prelude.{◌≡◌, ℕ, ◌+◌, slice_index_or}
use Rattle.whole_program.specs.declared.linked.Linked.{Linked}
use Rattle.whole_program.specs.Linkage.{linkage_of}
use Rattle.code_gen.specs.Layout.{Layout}
use Rattle.code_gen.specs.Statements.{unit_size}
use Rattle.code_gen.specs.LayingOut.{before, beneath, layout, most_room, need, spread}
use Rattle.code_emit.specs.Plans.{plan_at}
use Rattle.code_layout.specs.declared.spread.Spread.{Spread}
use Rattle.code_layout.specs.Tabled.{lines_in, order_in}
use Rattle.code_layout.specs.Ranked.{bound_of, initial_of}

-- what each unit keeps by its rank, before the entries are known
abbrev pub spread_of : Linked → (ℕ → ℕ) → Layout
spread_of l rank = spread (linkage_of l) (lines_in l) (plan_at (lines_in l) (order_in l)) (initial_of l) (bound_of l) rank (order_in l)

-- the layout of a linked program by ranks
abbrev pub layout_of : Linked → (ℕ → ℕ) → Layout
layout_of l rank = layout (linkage_of l) (lines_in l) (plan_at (lines_in l) (order_in l)) (initial_of l) (bound_of l) rank (order_in l)

abbrev pub kept_below : Linked → (ℕ → ℕ) → ℕ → ℕ
kept_below l rank u = bound_of l + beneath rank (need (linkage_of l) (lines_in l)) (order_in l) (rank u)

-- the numbers of what units keep are those of that layout
pub record AreKept (l : Linked) (rank : ℕ → ℕ) (m : Spread) : Type 0 where
  pub spares : (u : ℕ) → slice_index_or m.spares.items u m.bound ≡ kept_below l rank u
  pub loops : (u : ℕ) → slice_index_or m.loops.items u m.bound ≡ kept_below l rank u + most_room ((linkage_of l).context u) (lines_in l u)

-- all numbers are
pub record IsSpread (l : Linked) (rank : ℕ → ℕ) (m : Spread) : Type 0 where
  pub kept : AreKept l rank m
  pub starts : (u : ℕ) → slice_index_or m.starts.items u m.end ≡ before (unit_size (spread_of l rank)) (order_in l) u
