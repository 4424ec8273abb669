-- The layout of the tables is that by ranks, where each number is its.
use Rattle.std.proofs.Common.{◌≡◌, ℕ, List, [], map, slice_index_or, ap, ◌∙◌}
use Rattle.std.proofs.Math.Path.{fun_ext}
use Rattle.ground.specs.Content.{Content}
use Rattle.whole_program.specs.declared.linked.Linked.{Linked}
use Rattle.whole_program.specs.Linkage.{linkage_of}
use Rattle.code_gen.specs.Layout.{Layout}
use Rattle.code_emit.specs.Names.{preset_in}
use Rattle.code_emit.specs.Plans.{plan_at}
use Rattle.code_layout.specs.declared.program_tables.ProgramTables.{ProgramTables}
use Rattle.code_layout.specs.declared.spread.Spread.{Spread}
use Rattle.code_layout.specs.Tabled.{layout_in, lines_in, order_in}
use Rattle.code_layout.specs.Ranked.{initial_of}
use Rattle.code_layout.specs.Spreading.{AreKept, IsSpread, layout_of, spread_of}

-- a layout of a linked program with these numbers
abbrev laid_by : Linked → (ℕ → ℕ) → (ℕ → ℕ) → (ℕ → ℕ) → List (ℕ × Content) → Layout
laid_by l entry spare loops initial = record {
  linked = linkage_of l;
  lines = lines_in l;
  entry = entry;
  plan = plan_at (lines_in l) (order_in l);
  spare = spare;
  loops = loops;
  presets = initial;
}

same_numbers : (l : Linked) (e f s r o p : ℕ → ℕ) (a b : List (ℕ × Content)) → ((u : ℕ) → e u ≡ f u) → ((u : ℕ) → s u ≡ r u) → ((u : ℕ) → o u ≡ p u) → a ≡ b → laid_by l e s o a ≡ laid_by l f r p b
same_numbers l e f s r o p a b entries spares loops presets =
    ap (λ g. laid_by l g s o a) (fun_ext entries)
    ∙ ap (λ g. laid_by l f g o a) (fun_ext spares)
    ∙ ap (λ g. laid_by l f r g a) (fun_ext loops)
    ∙ ap (laid_by l f r p) presets

module _ (t : ProgramTables) (m : Spread) (rank : ℕ → ℕ) (presets : map preset_in t.presets.items ≡ initial_of t.linked.now) where
  abbrev z : Layout
  z = layout_in t m

  pub laid_out : IsSpread t.linked.now rank m → layout_in t m ≡ layout_of t.linked.now rank
  laid_out is =
      let y : Layout = layout_of t.linked.now rank in
      same_numbers t.linked.now z.entry y.entry z.spare y.spare z.loops y.loops z.presets y.presets is.starts is.kept.spares is.kept.loops presets

  -- before units have entries
  pub unplaced_layout : AreKept t.linked.now rank m → m.starts.items ≡ [] → m.end ≡ 0 → layout_in t m ≡ spread_of t.linked.now rank
  unplaced_layout kept none zero_end =
      let y : Layout = spread_of t.linked.now rank in
      same_numbers t.linked.now z.entry y.entry z.spare y.spare z.loops y.loops z.presets y.presets (λ u. ap (λ xs. slice_index_or xs u m.end) none ∙ zero_end) kept.spares kept.loops presets
