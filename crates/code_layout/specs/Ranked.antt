-- The layout of a linked program by ranks is as the law of its code asks.
use Rattle.std.specs.Prelude.{◌<◌, ℕ, max, List, [], ◌∷◌, length}
use Rattle.std.specs.List.{All}
use Rattle.ground.specs.Content.{Content}
use Rattle.ground.specs.declared.place.Place.{Place}
use Rattle.f66_check.specs.Answers.{IsSoundUnit}
use Rattle.f66_program.specs.Calls.{Leads}
use Rattle.f66_program.specs.Initial.{Preset, presets_of}
use Rattle.f66_program.specs.Linking.{IsWhole}
use Rattle.linker.specs.CallViews.{units_in}
use Rattle.whole_program.specs.declared.linked.Linked.{Linked}
use Rattle.whole_program.specs.Linked.{IsLinked}
use Rattle.whole_program.specs.Linkage.{linkage_of}
use Rattle.code_gen.specs.Linked.{IsRanked}
use Rattle.code_emit.specs.Plans.{all_formats, plan_at}
use Rattle.code_layout.specs.Order.{others_of}
use Rattle.code_layout.specs.Tabled.{lines_in, order_in}

-- the numbers of places with their values
abbrev pub contents_in : List ℕ → List Preset → List (ℕ × Content)
contents_in (n ∷ ns) (p ∷ ps) = (n, p.value) ∷ contents_in ns ps
contents_in _ _ = []

-- the initial values of the storage units of a linked program
abbrev pub initial_of : Linked → List (ℕ × Content)
initial_of l = contents_in l.numbers.items (presets_of (units_in l.calls))

-- Above the storage units of all names. A name that stands nowhere has the number 0, so there is at least one.
abbrev pub bound_of : Linked → ℕ
bound_of l = max 1 l.storage.total

-- whatever ranks fall along each call
abbrev pub LinkedIsRanked : Type 0
LinkedIsRanked =
    (l : Linked) (finish : Place) (rank : ℕ → ℕ) → IsWhole (record { units = units_in l.calls; finish = finish }) → IsLinked (units_in l.calls) l → All IsSoundUnit (units_in l.calls) →
    ((u v : ℕ) → Leads (units_in l.calls) u v → rank v < rank u) →
    IsRanked (units_in l.calls) (linkage_of l) (lines_in l) (plan_at (lines_in l) (order_in l)) (initial_of l) (bound_of l) rank (others_of l.main (length (units_in l.calls))) (all_formats (lines_in l) (order_in l))
