-- The first unit up to which a text has too many storage units.
use Rattle.std.proofs.Common.{◌≡◌, ℕ, Some}
use Rattle.std.specs.List.{slice_get}
use Rattle.ground.specs.declared.fault.Fault.{Fault}
use Rattle.ground.specs.declared.fault.FaultKind.TheVariants.{Limit}
use Rattle.f66_tree.specs.Syntax.{Routine}
use Rattle.f66_program.specs.Linking.{Program, first_of, place_of_part}
use Rattle.program_storage.specs.Limits.{IsFirstLarge}
use Rattle.rat_link.specs.Linking.{IsTextLimit, most_of_text}

pub text_limit : (p : Program) (u : ℕ) (r : Routine) → slice_get p.units u ≡ Some r → IsFirstLarge most_of_text p.units u → (f : Fault) → f.kind ≡ Limit → f.number ≡ 8 →
    place_of_part r (first_of r) ≡ Some f.place → IsTextLimit p f
text_limit p u r here l f kind number place = record { kind = kind; number = number; unit = u; routine = r; first = l; here = here; place = place }
