-- A fault stays, and else the part tells its own.
use Rattle.std.proofs.Common.{◌∷◌, [], refl, sym}
use Rattle.efl_reading.proofs.ReadingLemmas.{behind_done, part_noted}
use Rattle.efl_reading.proofs.progress.Progress.note.Goals as goal

pub returns-then-is_done : goal.returns-then-is_done
returns-then-is_done c = λ us vs v known at plain is. behind_done us vs (v ∷ []) c.args.self.now (sym c.if-is_done.ensures) known

pub returns : goal.returns
returns c = λ us vs v known at plain is.
    part_noted us vs v c.args.place c.args.rule c.args.self.now (record c.args.self.now { fault = c.fault_by-self.result }) (sym c.if-is_done.ensures) c.fault_by-self.ensures refl refl refl known at plain is
