-- A unit by its parts.
use Rattle.std.proofs.Common.{◌≡◌, ℕ, Bool, true, false, true≢false, List, [], ◌++◌, Option, None, Some, append_assoc, refl, sym, ap, ◌∙◌}
use Rattle.std.specs.Prelude.{is_none, is_some, not}
use Rattle.std.proofs.lemmas.List.{map-append}
use Rattle.ground.specs.declared.value.Kind.TheVariants.{Integer, Logical}
use Rattle.f66_tree.specs.Syntax.{Line}
use Rattle.f66_tree.specs.declared.statement.Stmt.{Stmt}
use Rattle.f66_tree.specs.declared.unit.Unit.{Unit}
use Rattle.f66_tree.specs.Views.{header_of as header_seen, line_of, lines_of as lines_seen, routine_of}
use Rattle.routes.specs.Code.{all_code}
use Rattle.routes.specs.Units.{ending}
use Rattle.efl_tree.specs.Syntax.{EflProcedure, EflProgram}
use Rattle.efl_scope.specs.Marks.{program_variables}
use Rattle.efl_lowered.specs.Naming.{Naming}
use Rattle.efl_lowered.specs.Lowering.{header_of, lines_of, routes_of, typed_of, unit_of}

pub unit_made : (names : Naming) (p : EflProgram) (n : ℕ) (u : EflProcedure) (r : Unit) → header_seen r.header ≡ header_of names (program_variables p) n u → lines_seen r.statements.items ≡ lines_of names p n u → r.place ≡ u.place →
    routine_of r ≡ unit_of names p n u
unit_made names p n u r header lines place i = record { header = header i; lines = lines i; place = place i }

pub lines_made : (names : Naming) (p : EflProgram) (n : ℕ) (u : EflProcedure) (a b c d e : List Line) → a ≡ [] → b ≡ a ++ typed_of names p n Integer u.place → c ≡ b ++ typed_of names p n Logical u.place →
    ((next : List Line) → d ++ next ≡ c ++ all_code (names.made n) (routes_of names p n) 0 [] next) → e ≡ d ++ ending (is_none u.name) u.finish → e ≡ lines_of names p n u
lines_made names p n u a b c d e none integers logicals code last =
    let end = ending (is_none u.name) u.finish in
    last ∙ code end ∙ ap (λ ls. ls ++ all_code (names.made n) (routes_of names p n) 0 [] end) (logicals ∙ ap (λ ls. ls ++ typed_of names p n Logical u.place) (integers ∙ ap (λ ls. ls ++ typed_of names p n Integer u.place) none))

-- the lines of two lists
pub lines_both : (a b c : List Stmt) (d next : List Line) → c ≡ a ++ b → d ≡ lines_seen b ++ next → lines_seen c ++ next ≡ lines_seen a ++ d
lines_both a b c d next is same = ap (λ l. lines_seen l ++ next) is ∙ ap (λ l. l ++ next) (map-append line_of a b) ∙ append_assoc (lines_seen a) (lines_seen b) next ∙ ap (λ l. lines_seen a ++ l) (sym same)

-- none is there, or one is
pub none_is : {A : Type 0} (o : Option A) (b : Bool) → is_some o ≡ not b → b ≡ is_none o
none_is None true e = refl
none_is None false e = absurd (true≢false (sym e))
none_is (Some x) true e = absurd (true≢false e)
none_is (Some x) false e = refl
