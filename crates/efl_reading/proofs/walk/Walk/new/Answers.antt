-- Nothing is known behind no parts.
use Rattle.std.proofs.Common.{map}
use Rattle.std.proofs.lemmas.List.{length-map}
use Rattle.efl_tree.specs.Views.{procedure_of}
use Rattle.efl_reading.proofs.walk.Walk.new.Goals as goal

pub returns : goal.returns
returns c =
    let us = map procedure_of c.args.procedures.now in
    record {
      tells = c.new-2.ensures us;
      counts = c.in_ok-storage.ensures us (length-map c.args.procedures.now procedure_of);
      firsts = c.in_ok-firsts.ensures;
    }
