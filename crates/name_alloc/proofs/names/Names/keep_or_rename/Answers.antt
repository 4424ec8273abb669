-- Why `Names::keep_or_rename` keeps its clauses.
use Rattle.std.proofs.Common.{ap, sym, ◌∙◌}
use Rattle.name_alloc.specs.MadeNames.{is_free}
use Rattle.name_alloc.proofs.Made.{free_unused}
use Rattle.name_alloc.proofs.names.Names.keep_or_rename.Goals as goal

pub keep-requires : goal.keep-requires
keep-requires c = free_unused c.args.self.now c.args.name.now (sym (ap (is_free c.args.self.now) c.as_bytes.ensures) ∙ sym c.can_keep.ensures ∙ c.if-can_keep.true)
