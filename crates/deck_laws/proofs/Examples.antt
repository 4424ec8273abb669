-- A deck that fits: a main that stores one and stops, and a subroutine that returns.
use Rattle.std.proofs.Common.{pos, [], ◌∷◌, Some, None, refl, arith, codes}
use Rattle.std.specs.Fmt.{digits}
use Rattle.f66_tree.specs.Syntax.{Int, Ref, MainUnit, SubUnit, Assign, Stop, Return, Routine}
use Rattle.card_reader.specs.Reading.{at}
use Rattle.deck.specs.ReadableStatements.{assignment, stop, return, branch}
use Rattle.deck_laws.specs.Fitting.{FitsDeck}

abbrev first : Routine
first = record {
  header = MainUnit;
  lines = record { label = Some 10; place = at 0; act = Assign (Ref (codes "K")) (Int (pos 1)) } ∷ record { label = None; place = at 0; act = Stop None } ∷ [];
  place = at 0;
}

abbrev second : Routine
second = record { header = SubUnit (codes "S") (codes "A" ∷ []); lines = record { label = None; place = at 0; act = Return } ∷ []; place = at 0 }

fits : FitsDeck (first ∷ second ∷ [])
unfolding digits
fits = record {
  each = (
    record {
      header = tt;
      lines = (
        record {
          readable = record { act = branch (Assign (Ref (codes "K")) (Int (pos 1))) (assignment (Ref (codes "K")) (Int (pos 1)) refl (record { stands = refl; readable = refl }) (record { stands = refl; readable = refl })); label = refl };
          names = refl;
          shallow = omega arith;
        },
        (record { readable = record { act = branch (Stop None) stop; label = refl }; names = refl; shallow = omega arith }, tt),
      );
    },
    (record { header = ((refl, omega arith), ((refl, omega arith), tt)); lines = (record { readable = record { act = branch Return return; label = refl }; names = refl; shallow = omega arith }, tt) }, tt),
  );
  printable = ((record { label = omega arith; text = refl }, (record { label = omega arith; text = refl }, tt)), ((record { label = omega arith; text = refl }, tt), tt));
  texts = refl;
  some = omega arith;
  few = omega arith;
  statements = omega arith;
  bytes = omega arith;
}
