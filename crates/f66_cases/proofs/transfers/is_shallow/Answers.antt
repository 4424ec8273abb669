-- The depth of a format is that of its fields.
use Rattle.std.proofs.Common.{◌≤◌, sym, subst}
use Rattle.format_io.proofs.Trees.{list_depth_is}
use Rattle.f66_cases.proofs.transfers.is_shallow.Goals as goal

pub loop-field-init : goal.loop-field-init
loop-field-init c = subst (λ v. v ≤ 2) (sym (list_depth_is c.args.fields.now.items))
