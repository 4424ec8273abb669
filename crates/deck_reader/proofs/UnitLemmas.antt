-- Lines and units that were read, before what is still to come.
use Rattle.std.proofs.Common.{◌≡◌, List, [], ◌∷◌, ◌++◌, Option, Some, None, Result, Ok, Err, refl, sym, ap, ◌∙◌, subst, append_assoc, append-nil, arith}
use Rattle.std.specs.Prelude.{IfOk, IfErr, IfSome, MatchOption}
use Rattle.ground.specs.declared.place.Place.{Place}
use Rattle.ground.specs.declared.fault.Fault.{Fault}
use Rattle.ground.specs.declared.fault.Refusal.{Refusal}
use Rattle.ground.specs.declared.fault.Refusal.TheVariants.{Fault as AFault, Memory}
use Rattle.card_reader.specs.declared.reader.Line.{Line as ALine}
use Rattle.card_reader.specs.Reading.{CardLine}
use Rattle.card_reader.specs.Told.{card_line_of, card_lines_of}
use Rattle.f66_tree.specs.declared.unit.Header.{Header as AHeader}
use Rattle.f66_tree.specs.Views.{header_of}
use Rattle.stmt_reader.specs.Acts.{header_if}
use Rattle.f66_tree.specs.Syntax.{Header, MainUnit, Line, Routine}
use Rattle.deck_reader.specs.Units.{Units, ended, with_line, with_header, placed, units_of, rest_of}
use Rattle.deck_reader.specs.Steps.{EndsBefore, IsLineRefusal, IsUnitBefore, Opens, lines_before, units_before}

pub refused_before : (lines : List Line) (f : Fault) → lines_before lines (Err f) ≡ Err f
refused_before [] f = refl
refused_before (line ∷ lines) f = ap (with_line line) (refused_before lines f)

pub none_before : (lines : List Line) → lines_before lines (Ok []) ≡ Ok []
none_before [] = refl
none_before (line ∷ lines) = ap (with_line line) (none_before lines)

pub one_more : (lines : List Line) (line : Line) (units : Units) → lines_before (lines ++ line ∷ []) units ≡ lines_before lines (with_line line units)
one_more [] line units = refl
one_more (first ∷ lines) line units = ap (with_line first) (one_more lines line units)

abbrev with_lines : List Line → Routine → Routine
with_lines lines unit = record { header = unit.header; lines = lines ++ unit.lines; place = unit.place }

all_before : (lines : List Line) (unit : Routine) (units : List Routine) → lines_before lines (Ok (unit ∷ units)) ≡ Ok (with_lines lines unit ∷ units)
all_before [] unit units = refl
all_before (line ∷ lines) unit units = ap (with_line line) (all_before lines unit units)

abbrev unit_of : Header → Place → List Line → Routine
unit_of header place lines = record { header = header; lines = lines; place = place }

-- a unit without a header, and one with it
pub main_read : (lines : List Line) (first last : Place) (units : Units) → placed first (lines_before lines (ended last units)) ≡ units_before (unit_of MainUnit first lines ∷ []) units
main_read lines first last (Ok units) = ap (placed first) (all_before lines (unit_of MainUnit last []) units) ∙ ap (λ v. Ok (unit_of MainUnit first v ∷ units)) (append-nil lines)
main_read lines first last (Err f) = ap (placed first) (refused_before lines f)

pub header_read : (header : Header) (lines : List Line) (first last : Place) (units : Units) → placed first (with_header header (lines_before lines (ended last units))) ≡ units_before (unit_of header first lines ∷ []) units
header_read header lines first last (Ok units) =
    ap (λ v. placed first (with_header header v)) (all_before lines (unit_of MainUnit last []) units) ∙ ap (λ v. Ok (unit_of header first v ∷ units)) (append-nil lines)
header_read header lines first last (Err f) = ap (λ v. placed first (with_header header v)) (refused_before lines f)

pub one_unit_more : (units : List Routine) (unit : Routine) (others : Units) → units_before units (units_before (unit ∷ []) others) ≡ units_before (units ++ unit ∷ []) others
one_unit_more units unit (Ok others) = ap (λ (v : List Routine). Ok v) (sym (append_assoc units (unit ∷ []) others))
one_unit_more units unit (Err f) = refl

-- ---- a unit of a deck's lines ----

same_unit : (unit : Routine) (header : Header) (place : Place) → unit.header ≡ header → unit.place ≡ place → unit_of header place unit.lines ≡ unit
same_unit unit header place h p = ap (λ v. unit_of v place unit.lines) (sym h) ∙ ap (λ v. unit_of unit.header v unit.lines) (sym p)

pub main_unit : (lines : List CardLine) (unit : Routine) (others : List CardLine) (first : Place) → units_of lines ≡ placed first (rest_of lines) → EndsBefore lines unit.lines others → unit.header ≡ MainUnit → unit.place ≡ first → IsUnitBefore lines unit others
main_unit lines unit others first opens ends h p = record {
  shorter = ends.shorter;
  is = opens ∙ ap (placed first) ends.is ∙ main_read unit.lines first ends.place (units_of others) ∙ ap (λ v. units_before (v ∷ []) (units_of others)) (same_unit unit MainUnit first h p);
}

pub headed_unit : (line : CardLine) (lines : List CardLine) (header : Header) (unit : Routine) (others : List CardLine) → Opens line (Some header) lines → EndsBefore lines unit.lines others → unit.header ≡ header → unit.place ≡ line.place → IsUnitBefore (line ∷ lines) unit others
headed_unit line lines header unit others opens ends h p = record {
  shorter = let shorter = ends.shorter in omega (arith, shorter);
  is = opens ∙ ap (λ v. placed line.place (with_header header v)) ends.is ∙ header_read header unit.lines line.place ends.place (units_of others) ∙ ap (λ v. units_before (v ∷ []) (units_of others)) (same_unit unit header line.place h p);
}

-- the first line of a unit is no header, or is one
pub begins_plain : (lines others : List ALine) (first : ALine) (header : Option AHeader) → lines ≡ first ∷ others → ((rest : List CardLine) → Opens (card_line_of first) (header_if header) rest) → header ≡ None
    → units_of (card_lines_of lines) ≡ placed first.place (rest_of (card_lines_of lines))
begins_plain lines others first header splits opens none =
    subst (λ ls. units_of (card_lines_of ls) ≡ placed first.place (rest_of (card_lines_of ls))) (sym splits)
    (subst (λ h. Opens (card_line_of first) (header_if h) (card_lines_of others)) none (opens (card_lines_of others)))

pub begins_headed : (others : List ALine) (first : ALine) (header : Option AHeader) (said : AHeader) → ((rest : List CardLine) → Opens (card_line_of first) (header_if header) rest) → header ≡ Some said → Opens (card_line_of first) (Some (header_of said)) (card_lines_of others)
begins_headed others first header said opens is = subst (λ h. Opens (card_line_of first) (header_if h) (card_lines_of others)) is (opens (card_lines_of others))

-- a fault goes through whatever keeps faults
pub refused_through : (keeps : Units → Units) → ((f : Fault) → keeps (Err f) ≡ Err f) → (all units : Units) → all ≡ keeps units → (r : Refusal) → IsLineRefusal units r → IsLineRefusal all r
refused_through keeps still all units e Memory is = tt
refused_through keeps still all units e (AFault f) is = e ∙ ap keeps is ∙ still f

-- ---- answers ----

pub of_some : {X E : Type 0} (r : Result (Option X) E) (None1 None2 : Type 0) (P Q S T : X → Type 0) → (None1 → None2) → ((x : X) → P x → Q x → S x → T x)
    → IfOk r (λ o. MatchOption o None1 P) → IfOk r (λ o. IfSome o Q) → IfOk r (λ o. IfSome o S) → IfOk r (λ o. MatchOption o None2 T)
of_some (Err e) None1 None2 P Q S T none some p q s = tt
of_some (Ok None) None1 None2 P Q S T none some p q s = none p
of_some (Ok (Some x)) None1 None2 P Q S T none some p q s = some x p q s

pub of_refusal : {X : Type 0} (r : Result X Refusal) (P Q : Refusal → Type 0) → ((e : Refusal) → P e → Q e) → IfErr r P → IfErr r Q
of_refusal (Ok x) P Q f p = tt
of_refusal (Err e) P Q f p = f e p
