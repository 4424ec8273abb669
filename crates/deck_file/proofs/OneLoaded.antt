-- A deck has a fault or has none, and one that has none is accepted.
use Rattle.std.proofs.Common.{◌≡◌, ℕ, List, [], ◌∷◌, Option, Some, None, Ok, Err, refl, sym, subst}
use Rattle.std.specs.List.{All}
use Rattle.std.proofs.lemmas.List.Elements.{All-nil, All-cons}
use Rattle.ground.specs.declared.place.Place.{Place}
use Rattle.ground.specs.declared.fault.Fault.{Fault}
use Rattle.ground.specs.declared.fault.FaultKind.TheVariants.{IncludeMissing}
use Rattle.ground.specs.Faults.{fault_at}
use Rattle.f66_tree.specs.Syntax.{Routine}
use Rattle.f66_check.specs.Answers.{IsSoundUnit}
use Rattle.f66_program.specs.Association.{IsBadUnit}
use Rattle.f66_program.specs.Linking.{Program}
use Rattle.deck_reader.specs.Answers.{deck_units}
use Rattle.deck_reader.specs.Units.{Units}
use Rattle.deck_link.specs.Ending.{end_of}
use Rattle.deck_link.specs.Linking.{AreClean, IsAccepted}
use Rattle.deck_link.proofs.OneFault.{accepted_has_none}
use Rattle.deck_file.specs.Loaded.{Loaded, whole_file, IsJudged, IsRead, IsLoaded}

judged_refused : (p : Program) (a b : Loaded) (f : Fault) → IsJudged p a → a ≡ Err f → IsJudged p b → (g : Fault) × (b ≡ Err g)
judged_refused p a (Err g) f x e y = (g, refl)
judged_refused p a (Ok made) f x e y = absurd (accepted_has_none p f y.0 (subst (IsJudged p) e x))

read_refused : (units : Units) (finish : Place) (a b : Loaded) (f : Fault) → IsRead units finish a → a ≡ Err f → IsRead units finish b → (g : Fault) × (b ≡ Err g)
read_refused (Err h) finish a b f x e y = (h, y)
read_refused (Ok units) finish a b f x e y = judged_refused (record { units = units; finish = finish }) a b f x e y

pub both_refused : (bytes : Option (List ℕ)) (a b : Loaded) (f : Fault) → IsLoaded bytes a → a ≡ Err f → IsLoaded bytes b → (g : Fault) × (b ≡ Err g)
both_refused None a b f x e y = (_, y)
both_refused (Some text) a b f x e y = read_refused (deck_units text) (end_of text) a b f x e y

-- a deck that is loaded is accepted
read_accepted : (units : Units) (finish : Place) (p : Program) → IsRead units finish (Ok p) → IsAccepted p
read_accepted (Err f) finish p h = absurd (let e : Ok p ≡ Err f = h in cc)
read_accepted (Ok units) finish p h = subst IsAccepted (sym h.1) h.0

pub loaded_accepted : (bytes : Option (List ℕ)) (p : Program) → IsLoaded bytes (Ok p) → IsAccepted p
loaded_accepted None p h = absurd (let e : Ok p ≡ Err (fault_at whole_file IncludeMissing) = h in cc)
loaded_accepted (Some text) p h = read_accepted (deck_units text) (end_of text) p h

pub all_sound : (rs : List Routine) → AreClean rs → All IsSoundUnit rs
all_sound [] h = All-nil IsSoundUnit
all_sound (r ∷ rs) h = All-cons IsSoundUnit r rs h.0.sound (all_sound rs h.1)

pub all_well : (rs : List Routine) → AreClean rs → All (λ r. ¬ IsBadUnit r) rs
all_well [] h = All-nil (λ r. ¬ IsBadUnit r)
all_well (r ∷ rs) h = All-cons (λ r. ¬ IsBadUnit r) r rs h.0.fit.well (all_well rs h.1)
