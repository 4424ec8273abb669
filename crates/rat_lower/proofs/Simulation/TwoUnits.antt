-- A program of two units, whose main calls the other, a function that uses its own name as a variable and returns a value: what
-- is asked of a program can be met.
use Rattle.std.proofs.Common.{◌≡◌, ℕ, zero, suc, ◌+◌, ◌<◌, Bool, true, false, true≢false, List, [], ◌∷◌, Option, Some, None, refl, sym, subst, arith}
use Rattle.std.specs.Prelude.{codes, if◌then◌else◌, ⊤}
use Rattle.std.specs.Str.{bytes_eq}
use Rattle.f66_tree.specs.Syntax.{Text, Header, MainUnit, FuncUnit, Assign, Ref, Item, NoFormula, AndFormula, Line}
use Rattle.f66_tree.specs.World.{Record, fresh}
use Rattle.f66_tree.specs.Units.{Linkage}
use Rattle.f66_tree.specs.Execution.{nowhere, f66}
use Rattle.f66_tree.specs.Agreement.{Agrees}
use Rattle.f66_tree.specs.OneUnit.{list_number}
use Rattle.f66_tree.proofs.Related.{same_names}
use Rattle.f66_tree.proofs.AnyNames.{Any, AnySpot, any_scope}
use Rattle.rat_tree.specs.Syntax.{Commands, NoCommand, AndCommand, Return, Plain}
use Rattle.rat_tree.specs.Meaning.{Ours, ratfor}
use Rattle.rat_tree.specs.Uses.{NamesOfCommandsBy}
use Rattle.rat_lower.specs.Code.{unit_code}
use Rattle.rat_lower.specs.Checked.{IsChecked}
use Rattle.rat_lower.proofs.Simulation.Spared.{Own}
use Rattle.rat_lower.proofs.Simulation.Whole.{IsCode}
use Rattle.rat_lower.proofs.Simulation.CheckedUnits.{checked_code}
use Rattle.rat_lower.proofs.Simulation.Programs.{Program, entered, IsLowered, program_agrees}

abbrev header_at : ℕ → Header
header_at zero = MainUnit
header_at (suc u) = FuncUnit None (codes "NF") (codes "J" ∷ [])

-- each place of each name of each unit is a storage unit of its own
abbrev two : Linkage
two = record {
  context = λ u. record { header = header_at u; notes = [] };
  find = λ x. if bytes_eq x (codes "NF") then Some 1 else None;
  main = 0;
  deep = 2;
  number = λ u x o. list_number (u ∷ o ∷ x);
  first = fresh [];
}

-- i = nf(i), and nf = j; return (nf)
abbrev body_at : ℕ → Commands
body_at zero = AndCommand (Plain None nowhere (Assign (Ref (codes "I")) (Item (codes "NF") (AndFormula (Ref (codes "I")) NoFormula)))) NoCommand
body_at (suc u) = AndCommand (Plain None nowhere (Assign (Ref (codes "NF")) (Ref (codes "J")))) (AndCommand (Return nowhere (Some (Ref (codes "NF")))) NoCommand)

abbrev made : ℕ → ℕ
made i = 23000 + i

abbrev code_at : ℕ → List Line
code_at u = unit_code made [] (header_at u) nowhere nowhere (body_at u)

abbrev rank_at : ℕ → ℕ
rank_at zero = 1
rank_at (suc u) = 0

abbrev program : Program
program = record {
  target = two;
  source = two;
  codes = code_at;
  bodies = λ u. Ours (body_at u);
  spare = λ q. false;
  level = λ q. 0;
  rank = rank_at;
  K = λ u. Any;
  Fair = AnySpot;
  scope = any_scope two;
  same = same_names (λ u. Any) AnySpot two;
  numbers = λ u x o fair. refl;
  apart = λ u x o fair. refl;
}

checked : (u : ℕ) → IsChecked made [] (header_at u) (body_at u)
checked zero = record { built = (tt, tt); fits = (tt, tt); lands = (tt, tt); once = λ l. omega arith; rises = λ i j lt. omega arith; unused = λ i. refl; spared = λ there. absurd (true≢false (sym there)) }
checked (suc u) = record { built = (tt, (tt, tt)); fits = (tt, (tt, tt)); lands = (tt, (tt, tt)); once = λ l. omega arith; rises = λ i j lt. omega arith; unused = λ i. refl; spared = λ there. absurd (true≢false (sym there)) }

-- whatever a name leads to is the function
leads_below : (x : Text) (v : ℕ) → two.find x ≡ Some v → rank_at v < 1
leads_below x v e = by_name (bytes_eq x (codes "NF")) e
  where
    RankOf : Option ℕ → Type 0
    RankOf None = ⊤
    RankOf (Some w) = rank_at w < 1

    by_name : (b : Bool) → (if b then Some 1 else None) ≡ Some v → rank_at v < 1
    by_name true h = subst RankOf h (omega arith)
    by_name false h = absurd (subst IsNone h tt)
      where
        IsNone : Option ℕ → Type 0
        IsNone None = ⊤
        IsNone (Some w) = ⊥

used : (u : ℕ) → NamesOfCommandsBy (Own (entered program u [] tt)) (body_at u)
used zero = ((tt, ((tt, λ is v e. leads_below (codes "NF") v e), (tt, tt))), tt)
used (suc u) = ((tt, tt), (tt, tt))

unit_is_code : (u : ℕ) → IsCode (entered program u [] tt) (body_at u)
unit_is_code zero = checked_code (entered program 0 [] tt) made [] false nowhere nowhere (body_at 0) (checked 0) false refl tt (used 0) (λ there. absurd (true≢false (sym there)))
unit_is_code (suc u) = checked_code (entered program (suc u) [] tt) made [] true nowhere nowhere (body_at (suc u)) (checked (suc u)) false refl tt (used (suc u)) (λ there. absurd (true≢false (sym there)))

lowered : IsLowered program
lowered = record {
  units = λ u le. (unit_is_code u, (checked u).fits, (checked u).lands);
  main = refl;
  first = λ q e. refl;
  deep = omega arith;
}

pub two_units_agree : (input : List Record) → Agrees (λ b. ratfor two (λ u. Ours (body_at u)) b input) (f66 two code_at input)
two_units_agree input = program_agrees program lowered input
