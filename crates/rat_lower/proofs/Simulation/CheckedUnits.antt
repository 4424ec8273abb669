-- The code of a checked unit is its code: the spare name is declared where a switch uses it.
use Rattle.std.proofs.Common.{◌≡◌, ℕ, Bool, true, false, List, [], refl, sym, ap, ◌∙◌, subst, arith}
use Rattle.ground.specs.declared.place.Place.{Place}
use Rattle.f66_tree.specs.Syntax.{Text, Line}
use Rattle.f66_tree.specs.Units.{is_main}
use Rattle.f66_tree.specs.Execution.{runnable}
use Rattle.rat_tree.specs.Syntax.{Commands}
use Rattle.rat_tree.specs.Uses.{NamesOfCommandsBy}
use Rattle.rat_lower.specs.Code.{have_switch, all_code, end_unless, declared_if}
use Rattle.rat_lower.specs.Checked.{IsChecked}
use Rattle.rat_lower.proofs.Simulation.Spared.{Lowering, own_name, code, Own}
use Rattle.rat_lower.proofs.Simulation.Counts.{occurs, ends}
use Rattle.rat_lower.proofs.Simulation.Labels.{Within, within_self, within_cons}
use Rattle.rat_lower.proofs.Simulation.Distinct.{distinct}
use Rattle.rat_lower.proofs.Simulation.Parts.{HoldsValue}
use Rattle.rat_lower.proofs.Simulation.Whole.{IsCode}

module _ (g : Lowering) (made : ℕ → ℕ) (spare : Text) (added : Bool) (first last : Place) (ss : Commands) (checked : IsChecked made spare (g.source.context g.unit).header ss) where
  -- its statements, without a declaration before them
  abbrev pub Statements : List Line
  Statements = all_code made spare (own_name g) ss 0 [] (end_unless (is_main (g.source.context g.unit).header) added last)

  within_declared : (v : Bool) → Within Statements (declared_if v first spare Statements)
  within_declared true = within_cons _ (within_self Statements)
  within_declared false = within_self Statements

  runs_declared : (v : Bool) → runnable (declared_if v first spare Statements) ≡ runnable Statements
  runs_declared true = refl
  runs_declared false = refl

  occurs_declared : (v : Bool) (l : ℕ) → occurs l (declared_if v first spare Statements) ≡ occurs l Statements
  occurs_declared true l = omega arith
  occurs_declared false l = refl

  ends_declared : (v : Bool) (l : ℕ) → ends l (declared_if v first spare Statements) ≡ ends l Statements
  ends_declared true l = omega arith
  ends_declared false l = refl

  pub checked_code : (v : Bool) → code g ≡ declared_if v first spare Statements → g.K g.unit (own_name g) → NamesOfCommandsBy (Own g) ss → (have_switch ss ≡ true → HoldsValue g spare) → IsCode g ss
  checked_code v is known used may = record {
    made = made;
    spare = spare;
    added = added;
    place = last;
    built = checked.built;
    known = known;
    used = used;
    may = may;
    once = λ l. distinct made checked.rises ss checked.unused checked.once l;
    within = subst (Within Statements) (sym is) (within_declared v);
    runs = ap runnable is ∙ runs_declared v;
    occur = λ l. ap (occurs l) is ∙ occurs_declared v l;
    end = λ l. ap (ends l) is ∙ ends_declared v l;
  }
