-- The parts before break no rule, and those left are told of as all are.
use Rattle.std.proofs.Common.{◌≡◌, ◌+◌, [], length, drop}
use Rattle.f66_names.specs.DeclarationViews.{context_in, acts_in}
use Rattle.rat_check.specs.Said.{said_in}
use Rattle.rat_check.specs.Rules.{nothing_before}
use Rattle.rat_check.specs.FirstFault.{first_broken}
use Rattle.rat_check.specs.PartViews.{parts_seen, before_of, whole_by}
use Rattle.rat_check.specs.Survey.{own_labels}
use Rattle.rat_check.proofs.unit_check.check_parts.Given as goal

abbrev pub invariant-loop-part : goal.invariant-loop-part
invariant-loop-part l = record {
  fault :
      first_broken (whole_by l.names l.formats) (before_of l.before) (parts_seen (drop l.part-index l.parts))
      ≡ first_broken (whole_by l.names l.formats) nothing_before (parts_seen l.parts);
  labels : own_labels (parts_seen (drop l.part-index l.parts)) l.before.labels ≡ own_labels (parts_seen l.parts) [];
  said : l.before.said + length (said_in (context_in l.names.declarations).header (parts_seen (drop l.part-index l.parts))) ≡ length (acts_in l.names.declarations);
}
