-- Procedures that come, and what names mean in their parts.
use Rattle.std.proofs.Common.{◌≡◌, Bool, true, false, cond, List, [], ◌∷◌, ◌++◌, Option, Some, None, refl, sym, ap, subst, ◌∙◌, append_assoc, if◌then◌else◌}
use Rattle.std.specs.List.{cons_option}
use Rattle.std.specs.Option.{option_or}
use Rattle.std.specs.Str.{bytes_eq}
use Rattle.std.proofs.lemmas.List.{append-nil}
use Rattle.std.proofs.lemmas.List.Folds.{find-append}
use Rattle.efl_tree.specs.Syntax.{Text, EflProcedure}
use Rattle.efl_scope.specs.DataTypes.{DataType, NoType}
use Rattle.efl_scope.specs.Scopes.{Meaning, IsVariable, IsStructure, meaning, variable_if, implied_of, outer}
use Rattle.efl_scope.specs.Scopes as scopes
use Rattle.efl_types.specs.Signatures.{type_if, type_by, signature_if, signatures}
use Rattle.efl_types.specs.Signatures as seen
use Rattle.efl_scoped.specs.Seen.{table_of}
use Rattle.efl_expressions.specs.declared.types.DataType as types
use Rattle.efl_expressions.specs.declared.names.Block.{Block}
use Rattle.efl_expressions.specs.declared.names.Blocks.TheBlock.{Outside}
use Rattle.efl_names.specs.declared.units.Signature.{Signature}
use Rattle.efl_names.specs.declared.units.Units.{Units}
use Rattle.efl_names.specs.NameViews.{IsSignatureIfAny, first_unit, unit_in}
use Rattle.efl_blocks.specs.declared.types.Types.{Types}
use Rattle.efl_blocks.specs.declared.outer.Outer.{Outer}
use Rattle.efl_blocks.specs.declared.procedures.Procedures.{Procedures}
use Rattle.efl_blocks.specs.Within.{IsIn, Later, Within}
use Rattle.efl_blocks.specs.OuterViews.{IsOuter, OpensOuter}
use Rattle.efl_blocks.specs.ProcedureViews.{AreAllTypes, types_in, TakesFormals, Signs, AreAllUnits, AddsUnit, AreOuters, OpensProcedures}
use Rattle.efl_blocks.proofs.LaterLemmas.{later_same, later_on, type_later, within_later}
use Rattle.efl_blocks.proofs.OuterLemmas.{rules_later}

-- ---- formals ----

pub formal_type : (o : Option Meaning) → type_if (variable_if o) ≡ type_by NoType o
formal_type None = refl
formal_type (Some (IsVariable v)) = refl
formal_type (Some (IsStructure ms)) = refl

more_types : (y : Types) (ts : List DataType) (ds : List types.DataType) (t : DataType) (d : types.DataType) → AreAllTypes y ts ds → IsIn y t d → AreAllTypes y (ts ++ t ∷ []) (ds ++ d ∷ [])
more_types y [] [] t d are made = (made, tt)
more_types y (u ∷ ts) (e ∷ ds) t d are made = (are.0, more_types y ts ds t d are.1 made)
more_types y [] (e ∷ ds) t d are made = absurd are
more_types y (u ∷ ts) [] t d are made = absurd are

types_later : (y z : Types) (ts : List DataType) (ds : List types.DataType) → Later y z → AreAllTypes y ts ds → AreAllTypes z ts ds
types_later y z [] [] more are = tt
types_later y z (t ∷ ts) (d ∷ ds) more are = (type_later y z more t d are.0, types_later y z ts ds more are.1)
types_later y z [] (d ∷ ds) more are = absurd are
types_later y z (t ∷ ts) [] more are = absurd are

pub record TypesLeft (block : Block) (xs rest : List Text) (now : List types.DataType) : Type 0 where
  pub left : (y : Types) (bs : scopes.Blocks) → Within y bs block Outside → (ts : List DataType) × AreAllTypes y ts now × (ts ++ types_in bs rest ≡ types_in bs xs)

pub types_begun : (block : Block) (xs : List Text) → TypesLeft block xs xs []
types_begun block xs = record { left = λ y bs is. ([], tt, refl) }

pub type_passed : (block : Block) (xs : List Text) (x : Text) (rest : List Text) (now : List types.DataType) (d : types.DataType) → TypesLeft block xs (x ∷ rest) now →
    ((y : Types) (bs : scopes.Blocks) → Within y bs block Outside → IsIn y (type_by NoType (meaning bs x)) d) → TypesLeft block xs rest (now ++ d ∷ [])
type_passed block xs x rest now d before made = record {
  left = λ y bs is.
      let at = before.left y bs is in
      let t = type_if (variable_if (meaning bs x)) in (
        at.0 ++ t ∷ [],
        more_types y at.0 now t d at.1 (subst (λ u. IsIn y u d) (sym (formal_type (meaning bs x))) (made y bs is)),
        append_assoc at.0 (t ∷ []) (types_in bs rest) ∙ at.2,
      );
}

pub types_ended : (block : Block) (xs : List Text) (all : List types.DataType) → TypesLeft block xs [] all → TakesFormals block xs all
types_ended block xs all done y bs is = let at = done.left y bs is in subst (λ ts. AreAllTypes y ts all) (sym (append-nil at.0) ∙ at.2) at.1

-- ---- signatures ----

abbrev IsSigned : Types → Option seen.Signature → Option Signature → Type 0
IsSigned y o p = IsSignatureIfAny (table_of y.numbers) y.structures.list.items o p

signed_later : (y z : Types) (o : Option seen.Signature) (p : Option Signature) → Later y z → IsSigned y o p → IsSigned z o p
signed_later y z None None more is = tt
signed_later y z (Some s) (Some t) more is = (types_later y z s.formals t.formals.items more is.0, is.1)
signed_later y z None (Some t) more is = absurd is
signed_later y z (Some s) None more is = absurd is

units_later : (y z : Types) (ss : List seen.Signature) (units : Units) → Later y z → AreAllUnits y ss units → AreAllUnits z ss units
units_later y z ss units more are x = signed_later y z (first_unit ss x) (unit_in units x) more (are x)

one_signed : (y : Types) (o : Option seen.Signature) (p : Option Signature) (b : Bool) (s : seen.Signature) (t : Signature) → IsSigned y o p → IsSigned y (Some s) (Some t) →
    IsSigned y (option_or o (cond b (Some s) None)) (option_or p (if b then Some t else None))
one_signed y None None true s t is made = made
one_signed y None None false s t is made = tt
one_signed y (Some r) (Some q) b s t is made = is
one_signed y None (Some q) b s t is made = absurd is
one_signed y (Some r) None b s t is made = absurd is

-- a procedure with a name
pub unit_comes : (u : EflProcedure) (o : Outer) (old new : Units) (x : Text) (s : Signature) → u.name ≡ Some x → Signs u o s →
    ((q : Text) → unit_in new q ≡ option_or (unit_in old q) (if bytes_eq q x then Some s else None)) → AddsUnit u o old new
unit_comes u o old new x s named signs comes y ss is are =
    subst (λ n. AreAllUnits y (ss ++ cons_option (signature_if u n) []) new) (sym named) (λ q.
    subst (λ p. IsSigned y p (unit_in new q)) (sym (find-append (λ r. bytes_eq q r.name) ss (seen.signed u x ∷ [])))
    (subst (IsSigned y (option_or (first_unit ss q) (cond (bytes_eq q x) (Some (seen.signed u x)) None))) (sym (comes q))
    (one_signed y (first_unit ss q) (unit_in old q) (bytes_eq q x) (seen.signed u x) s (are q) (signs y is))))

pub no_unit : (u : EflProcedure) (o : Outer) (units : Units) → u.name ≡ None → AddsUnit u o units units
no_unit u o units named y ss is are =
    subst (λ n. AreAllUnits y (ss ++ cons_option (signature_if u n) []) units) (sym named) (subst (λ rs. AreAllUnits y rs units) (sym (append-nil ss)) are)

-- ---- outer blocks ----

outer_later : (y z : Types) (u : EflProcedure) (o : Outer) → Later y z → IsOuter y u o → IsOuter z u o
outer_later y z u o more is = record { block = within_later y z more (outer u) o.block Outside is.block; letters = rules_later y z (implied_of u) o.letters more is.letters }

outers_later : (y z : Types) (us : List EflProcedure) (os : List Outer) → Later y z → AreOuters y us os → AreOuters z us os
outers_later y z [] [] more are = tt
outers_later y z (u ∷ us) (o ∷ os) more are = (outer_later y z u o more are.0, outers_later y z us os more are.1)
outers_later y z [] (o ∷ os) more are = absurd are
outers_later y z (u ∷ us) [] more are = absurd are

more_outers : (y : Types) (us : List EflProcedure) (os : List Outer) (u : EflProcedure) (o : Outer) → AreOuters y us os → IsOuter y u o → AreOuters y (us ++ u ∷ []) (os ++ o ∷ [])
more_outers y [] [] u o are is = (is, tt)
more_outers y (v ∷ us) (p ∷ os) u o are is = (are.0, more_outers y us os u o are.1 is)
more_outers y [] (p ∷ os) u o are is = absurd are
more_outers y (v ∷ us) [] u o are is = absurd are

-- ---- all procedures ----

pub record ProceduresLeft (y : Types) (us : List EflProcedure) (z : Types) (rest : List EflProcedure) (now : List Outer) (units : Units) : Type 0 where
  pub later : Later y z
  pub outers : (vs : List EflProcedure) × AreOuters z vs now × (vs ++ rest ≡ us)
  pub signed : (ss : List seen.Signature) × AreAllUnits z ss units × (ss ++ signatures rest ≡ signatures us)

pub procedures_begun : (y : Types) (us : List EflProcedure) (units : Units) → AreAllUnits y [] units → ProceduresLeft y us y us [] units
procedures_begun y us units none = record { later = later_same y; outers = ([], tt, refl); signed = ([], none, refl) }

parted : (o : Option seen.Signature) (ss rs : List seen.Signature) → (ss ++ cons_option o []) ++ rs ≡ ss ++ cons_option o rs
parted None ss rs = ap (λ us. us ++ rs) (append-nil ss)
parted (Some s) ss rs = append_assoc ss (s ∷ []) rs

pub procedure_passed : (y z w : Types) (us : List EflProcedure) (u : EflProcedure) (rest : List EflProcedure) (now : List Outer) (o : Outer) (old new : Units) →
    ProceduresLeft y us z (u ∷ rest) now old → OpensOuter z u w o → AddsUnit u o old new → ProceduresLeft y us w rest (now ++ o ∷ []) new
procedure_passed y z w us u rest now o old new before opened added = record {
  later = later_on y z w before.later opened.later;
  outers = (
    before.outers.0 ++ u ∷ [],
    more_outers w before.outers.0 now u o (outers_later z w before.outers.0 now opened.later before.outers.1) opened.opens,
    append_assoc before.outers.0 (u ∷ []) rest ∙ before.outers.2,
  );
  signed = (
    before.signed.0 ++ cons_option (signature_if u u.name) [],
    added w before.signed.0 opened.opens (units_later z w before.signed.0 old opened.later before.signed.1),
    parted (signature_if u u.name) before.signed.0 (signatures rest) ∙ before.signed.2,
  );
}

pub procedures_ended : (y z : Types) (us : List EflProcedure) (p : Procedures) → ProceduresLeft y us z [] p.outers.items p.units → OpensProcedures y us z p
procedures_ended y z us p all = record {
  later = all.later;
  outers = subst (λ vs. AreOuters z vs p.outers.items) (sym (append-nil all.outers.0) ∙ all.outers.2) all.outers.1;
  units = subst (λ ss. AreAllUnits z ss p.units) (sym (append-nil all.signed.0) ∙ all.signed.2) all.signed.1;
}
