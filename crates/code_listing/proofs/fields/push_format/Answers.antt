-- The code of a plan is that of its fields.
use Rattle.std.proofs.Common.{map}
use Rattle.format_io.specs.Places.{plan_code}
use Rattle.code_listing.proofs.FlatTexts.{whole_format}
use Rattle.code_listing.proofs.fields.push_format.Goals as goal

pub returns : goal.returns
returns c =
    whole_format c.push.result c.args.plan.now (map plan_code c.code.result.now) c.args.out.now.items c.push_all.new.out.items c.push_codes.new.out.items c.push.new.out.items
    c.code.ensures c.in_ok-push_all.ensures c.in_ok-push_codes.ensures c.push.ensures
