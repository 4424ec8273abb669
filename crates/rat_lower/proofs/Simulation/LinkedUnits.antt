-- A unit of Ratfor in a linked program, and the unit of FORTRAN that it became: what names mean in the two differs in the
-- declaration of the spare name alone, which a unit with a switch has. In a unit beside names mean the same on both sides.
use Rattle.std.proofs.Common.{◌≡◌, ◌≢◌, ℕ, Bool, true, false, List, [], ◌∷◌, Option, Some, None, refl, sym, ap, ◌∙◌, subst}
use Rattle.std.specs.Prelude.{if◌then◌else◌, ◌||◌, ⊤}
use Rattle.std.specs.Str.{bytes_eq}
use Rattle.std.proofs.lemmas.Slice.Eq.{bytes_eq-Decides}
use Rattle.ground.specs.declared.place.Place.{Place}
use Rattle.ground.specs.declared.value.Kind.TheVariants.{Integer}
use Rattle.f66_tree.specs.declared.declaration.TypeWord.{TypeWord}
use Rattle.f66_tree.specs.declared.declaration.TypeWord.TheVariants as words
use Rattle.f66_tree.specs.Syntax.{Text, Line}
use Rattle.f66_tree.specs.Units.{Note, Context, notes_of, is_main, dummies_of, name_of, position, sizes_of, type_in, by_header, kind_by, kind_of, format_of}
use Rattle.f66_tree.specs.Uses.{NamesOfPars, however}
use Rattle.f66_tree.proofs.AnyNames.{any_pars}
use Rattle.rat_tree.specs.Syntax.{Commands}
use Rattle.rat_tree.specs.Uses.{NamesOfCommandsBy}
use Rattle.rat_tree.proofs.AnyCommands.{any_commands}
use Rattle.rat_lower.specs.Code.{have_switch, all_code, ends_itself, declared_if, unit_code}
use Rattle.rat_lower.specs.Notes.{notes_of_unit}
use Rattle.rat_lower.specs.Checked.{NamesOfNotes, IsChecked}
use Rattle.rat_lower.proofs.Simulation.Notes.{notes_ended}
use Rattle.rat_lower.proofs.Simulation.SpareNotes.{in_notes, spare_note}

-- the spare name of a unit, which has one where a switch stands in it
abbrev pub spare_of : Bool → Text → Option Text
spare_of true y = Some y
spare_of false y = None

-- another name than the spare one
abbrev pub IsOther : Option Text → Text → Type 0
IsOther None x = ⊤
IsOther (Some y) x = x ≢ y

-- INTEGER spare, before the other declarations
abbrev pub with_note : Option Text → List Note → List Note
with_note None notes = notes
with_note (Some y) notes = spare_note y ∷ notes

-- The unit of FORTRAN with the statements `code` is what the checked unit of Ratfor with the body ss becomes; c1 is what names mean
-- in that of FORTRAN, and c2 in that of Ratfor.
pub record Becomes (c1 c2 : Context) (spare : Option Text) (ss : Commands) (code : List Line) : Type 0 where
  pub made : ℕ → ℕ
  pub name : Text
  pub first : Place
  pub last : Place
  pub checked : IsChecked made name c2.header ss
  pub is_code : code ≡ unit_code made name c2.header first last ss
  pub is_spare : spare ≡ spare_of (have_switch ss) name
  pub header : c1.header ≡ c2.header
  pub notes1 : c1.notes ≡ notes_of code
  pub notes2 : c2.notes ≡ notes_of_unit ss

-- ---- declarations ----

not_same : (x y : Text) → x ≢ y → bytes_eq x y ≡ false
not_same x y other = by_answer (bytes_eq x y) (bytes_eq-Decides x y).0
  where
    by_answer : (v : Bool) → (v ≡ true → x ≡ y) → v ≡ false
    by_answer true h = absurd (other (h refl))
    by_answer false h = refl

same_sizes : (o : Option Text) (x : Text) (notes : List Note) → sizes_of x (with_note o notes) ≡ sizes_of x notes
same_sizes None x notes = refl
same_sizes (Some y) x notes = by_name (bytes_eq x y)
  where
    by_name : (v : Bool) → (if v then sizes_of x notes else sizes_of x notes) ≡ sizes_of x notes
    by_name true = refl
    by_name false = refl

same_types : (o : Option Text) (x : Text) (notes : List Note) (t : TypeWord) → IsOther o x → type_in x (with_note o notes) t ≡ type_in x notes t
same_types None x notes t other = refl
same_types (Some y) x notes t other = ap (λ v. if v || false then words.Integer else type_in x notes t) (not_same x y other)

same_formats : (o : Option Text) (m : ℕ) (notes : List Note) → format_of m (with_note o notes) ≡ format_of m notes
same_formats None m notes = refl
same_formats (Some y) m notes = refl

spare_type : (y : Text) (notes : List Note) (t : TypeWord) → type_in y (with_note (Some y) notes) t ≡ words.Integer
spare_type y notes t = ap (λ v. if v || false then words.Integer else type_in y notes t) ((bytes_eq-Decides y y).1 refl)

module _ (c1 c2 : Context) (spare : Option Text) (ss : Commands) (code : List Line) (h : Becomes c1 c2 spare ss code) where
  declared : (v : Bool) (lines : List Line) → notes_of (declared_if v h.first h.name lines) ≡ with_note (spare_of v h.name) (notes_of lines)
  declared true lines = refl
  declared false lines = refl

  noted : c1.notes ≡ with_note spare c2.notes
  noted =
      h.notes1 ∙ ap notes_of h.is_code ∙ declared (have_switch ss) _
      ∙ ap (with_note (spare_of (have_switch ss) h.name)) (notes_ended h.made h.name (name_of c2.header) ss (is_main c2.header) (ends_itself c2.header (all_code h.made h.name (name_of c2.header) ss 0 [] [])) h.last)
      ∙ ap (λ o. with_note o (notes_of_unit ss)) (sym h.is_spare) ∙ ap (with_note spare) (sym h.notes2)

  -- other names mean the same
  becomes_sizes : (x : Text) → sizes_of x c1.notes ≡ sizes_of x c2.notes
  becomes_sizes x = ap (sizes_of x) noted ∙ same_sizes spare x c2.notes

  becomes_kinds : (x : Text) → IsOther spare x → kind_of c1 x ≡ kind_of c2 x
  becomes_kinds x other =
      ap (λ n. kind_by (type_in x n (by_header x c1.header))) noted ∙ ap kind_by (same_types spare x c2.notes (by_header x c1.header) other)
      ∙ ap (λ (q : _). kind_by (type_in x c2.notes (by_header x q))) h.header

  becomes_formats : (m : ℕ) → format_of m c1.notes ≡ format_of m c2.notes
  becomes_formats m = ap (format_of m) noted ∙ same_formats spare m c2.notes

  -- the spare name is an integer variable
  pub spare_integer : have_switch ss ≡ true → kind_of c1 h.name ≡ Integer
  spare_integer there =
      ap (λ n. kind_by (type_in h.name n (by_header h.name c1.header))) (noted ∙ ap (λ o. with_note o c2.notes) (h.is_spare ∙ ap (λ v. spare_of v h.name) there))
      ∙ ap kind_by (spare_type h.name c2.notes (by_header h.name c1.header))

  pub spare_own : have_switch ss ≡ true → position h.name (dummies_of c1.header) ≡ None
  spare_own there = ap (λ (q : _). position h.name (dummies_of q)) h.header ∙ (h.checked.spared there).dummies

  -- what the unit names is no spare name
  by_switch : (P : Option Text → Type 0) → P None → (have_switch ss ≡ true → P (Some h.name)) → P spare
  by_switch P none some = subst P (sym h.is_spare) (go (have_switch ss) some)
    where
      go : (v : Bool) → (v ≡ true → P (Some h.name)) → P (spare_of v h.name)
      go true k = k refl
      go false k = none

  pub own_other : IsOther spare (name_of c2.header)
  own_other = by_switch (λ o. IsOther o (name_of c2.header)) tt (λ there. (h.checked.spared there).own)

  pub statements_other : NamesOfCommandsBy (however (IsOther spare)) ss
  statements_other = by_switch (λ o. NamesOfCommandsBy (however (IsOther o)) ss) (any_commands ss) (λ there. (h.checked.spared there).statements)

  dimensions_other : (x : Text) → NamesOfPars (IsOther spare) (sizes_of x c2.notes)
  dimensions_other x = by_switch (λ o. NamesOfPars (IsOther o) (sizes_of x c2.notes)) (any_pars (sizes_of x c2.notes)) (λ there. in_notes (λ q. q ≢ h.name) x c2.notes (subst (NamesOfNotes (λ q. q ≢ h.name)) (sym h.notes2) (h.checked.spared there).dimensions))

-- Names but the spare one mean the same in both contexts; the unit's own name and those in dimensions are no spare name.
pub record Alike (c1 c2 : Context) (spare : Option Text) : Type 0 where
  pub header : c1.header ≡ c2.header
  pub sizes : (x : Text) → sizes_of x c1.notes ≡ sizes_of x c2.notes
  pub kinds : (x : Text) → IsOther spare x → kind_of c1 x ≡ kind_of c2 x
  pub formats : (m : ℕ) → format_of m c1.notes ≡ format_of m c2.notes
  pub own : IsOther spare (name_of c2.header)
  pub dimensions : (x : Text) → NamesOfPars (IsOther spare) (sizes_of x c2.notes)

pub becomes_alike : (c1 c2 : Context) (spare : Option Text) (ss : Commands) (code : List Line) → Becomes c1 c2 spare ss code → Alike c1 c2 spare
becomes_alike c1 c2 spare ss code h = record {
  header = h.header;
  sizes = becomes_sizes c1 c2 spare ss code h;
  kinds = becomes_kinds c1 c2 spare ss code h;
  formats = becomes_formats c1 c2 spare ss code h;
  own = own_other c1 c2 spare ss code h;
  dimensions = dimensions_other c1 c2 spare ss code h;
}

pub same_alike : (c1 c2 : Context) (spare : Option Text) → c1 ≡ c2 → spare ≡ None → Alike c1 c2 spare
same_alike c1 c2 spare same none = subst (λ o. Alike c1 c2 o) (sym none) (subst (λ c. Alike c1 c None) same itself)
  where
    itself : Alike c1 c1 None
    itself = record { header = refl; sizes = λ x. refl; kinds = λ x other. refl; formats = λ m. refl; own = tt; dimensions = λ x. any_pars (sizes_of x c1.notes) }
