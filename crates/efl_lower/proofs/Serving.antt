-- The units of an accepted program of EFL do what it means.
use Rattle.std.proofs.Common.{◌≡◌, ℕ, true, List}
use Rattle.f66_tree.specs.Syntax.{Line}
use Rattle.f66_tree.specs.Units.{Linkage}
use Rattle.f66_program.specs.Linking.{IsLinkage}
use Rattle.linked_soundness.specs.Laws.{AreCodes}
use Rattle.efl_tree.specs.Syntax.{EflProgram}
use Rattle.efl_typed.specs.Laws.{AcceptedNeverLost}
use Rattle.efl_lowered.specs.Facts.{IsOverScalars, AreReady}
use Rattle.efl_lowered.specs.Grammatical.{IsGrammatical}
use Rattle.efl_lowered.specs.Laws.{ScalarUnitsAgree, AcceptedIsReady}
use Rattle.efl_naming.specs.Choice.{naming_of, is_small}
use Rattle.efl_naming.specs.Laws.{NamesAreApart, NamingHasRoom}
use Rattle.efl_shape.specs.Laws.{BuiltIsOverScalars}
use Rattle.efl_lower.specs.Laws.{IsAccepted, DoTheSame}
use Rattle.efl_lower.specs.Lowered.{made_of}
use Rattle.efl_lower.proofs.Ranked.{ranked}

pub does_the_same : BuiltIsOverScalars → AcceptedIsReady → NamingHasRoom → NamesAreApart → ScalarUnitsAgree → AcceptedNeverLost → (p : EflProgram) → IsAccepted p → IsGrammatical p → is_small p ≡ true →
    (l : Linkage) → IsLinkage (made_of p).units l → (codes : ℕ → List Line) → AreCodes (made_of p).units codes → DoTheSame p l codes
does_the_same scalars ready room apart agree never p accepted shaped small l links codes are =
    let r = ranked p accepted.scopes accepted.whole in
    let over : IsOverScalars p = scalars p accepted.scopes accepted.types accepted.built in
    let able : AreReady p (naming_of p) = ready p accepted.scopes accepted.types accepted.whole over shaped (naming_of p) (room p) in
    record {
      agrees = agree p r.0 r.1 over (naming_of p) (apart p accepted.scopes accepted.whole shaped small) able l links codes are;
      found = λ input b. never p r.0 r.1 b input;
    }
