-- A linked program of Ratfor, with units of FORTRAN beside its own, and that of the units that these became: they are a program,
-- so both agree.
use Rattle.std.proofs.Common.{◌≡◌, ◌≢◌, ℕ, zero, suc, ◌<◌, Bool, true, false, true≢false, List, [], Option, Some, None, refl, sym, ap, ◌∙◌, subst, arith, eqb-true}
use Rattle.std.specs.Prelude.{nat_eq, if◌then◌else◌, ◌||◌, ⊤}
use Rattle.std.proofs.lemmas.Bool.{eq-eqb, eqb-false}
use Rattle.f66_tree.specs.Syntax.{Text, Line}
use Rattle.f66_tree.specs.World.{Record, Lost}
use Rattle.f66_tree.specs.Units.{Context, name_of, Spot, Held, Lent, Linkage}
use Rattle.f66_tree.specs.Uses.{Using, however, NamesOfLinesBy}
use Rattle.f66_tree.specs.Evaluation.{AFunction, array_or, sort_of}
use Rattle.f66_tree.specs.Execution.{f66}
use Rattle.f66_tree.specs.Agreement.{Agrees}
use Rattle.f66_tree.proofs.Posts.{IsScope}
use Rattle.f66_tree.proofs.Related.{SameNames}
use Rattle.rat_tree.specs.Meaning.{Body, Ours, Theirs, ratfor}
use Rattle.rat_tree.specs.Uses.{NamesOfCommandsBy}
use Rattle.rat_lower.specs.Code.{have_switch, all_code, ends_itself}
use Rattle.rat_lower.proofs.Simulation.Spared.{Own}
use Rattle.rat_lower.proofs.Simulation.Parts.{HoldsValue}
use Rattle.rat_lower.proofs.Simulation.Wider.{commands_too, lines_too}
use Rattle.rat_lower.proofs.Simulation.CheckedUnits.{checked_code}
use Rattle.rat_lower.proofs.Simulation.Programs.{Program, entered, IsUnit, IsLowered, program_agrees}
use Rattle.rat_lower.proofs.Simulation.Programs as programs
use Rattle.rat_lower.proofs.Simulation.NamesBack.{unit_names}
use Rattle.rat_lower.proofs.Simulation.LinkedUnits.{spare_of, IsOther, Becomes, spare_integer, spare_own, own_other, statements_other, Alike, becomes_alike, same_alike}

-- the calls in the statements of a unit lead to units of lesser rank
abbrev pub Below : Linkage → (ℕ → ℕ) → ℕ → Using
Below l rank u =
    let IsBelow : Text → Type 0 = λ x. (v : ℕ) → l.find x ≡ Some v → rank v < rank u in
    record { alone = λ x. ⊤; listed = λ x. sort_of (l.context u) x ≡ AFunction → IsBelow x; called = IsBelow }

-- a unit of the program's own and what it became, and a unit beside, which is the same on both sides
abbrev pub IsUnitOf : Context → Context → Option Text → Body → List Line → Type 0
IsUnitOf c1 c2 spare (Ours ss) code = Becomes c1 c2 spare ss code
IsUnitOf c1 c2 spare (Theirs lines) code = (code ≡ lines) × (spare ≡ None) × (c1 ≡ c2)

-- What is given of a linked program: both linkages, the statements of each unit on both sides, its spare name if it has one, and
-- its rank. Both linkages give the same numbers but to the places of spare names, whose number in the target no other place has.
pub record Linked : Type 1 where
  pub target : Linkage
  pub source : Linkage
  pub codes : ℕ → List Line
  pub bodies : ℕ → Body
  pub spares : ℕ → Option Text
  pub rank : ℕ → ℕ
  pub many : ℕ
  pub units : (u : ℕ) → IsUnitOf (target.context u) (source.context u) (spares u) (bodies u) (codes u)
  pub find : (x : Text) → target.find x ≡ source.find x
  pub named : (x : Text) (v : ℕ) → source.find x ≡ Some v → name_of (source.context v).header ≡ x
  pub main : target.main ≡ source.main
  pub first : (q : ℕ) → target.first q ≡ source.first q
  pub numbers : (u : ℕ) (x : Text) (o : ℕ) → IsOther (spares u) x → target.number u x o ≡ source.number u x o
  pub apart : (u : ℕ) (y : Text) → spares u ≡ Some y → (v : ℕ) (x : Text) (o : ℕ) → target.number v x o ≡ target.number u y 0 → (v ≡ u) × (x ≡ y)
  pub within : (u : ℕ) (y : Text) → spares u ≡ Some y → u < many
  pub below : (u : ℕ) → NamesOfLinesBy (Below target rank u) (codes u)
  pub deep : rank source.main < source.deep

module _ (p : Linked) where
  -- ---- the storage units of spare names ----

  -- whether a number is that of the spare name of the unit u
  abbrev holds : Option Text → ℕ → ℕ → Bool
  holds None u q = false
  holds (Some y) u q = nat_eq q (p.target.number u y 0)

  abbrev is_spare : ℕ → ℕ → Bool
  is_spare zero q = false
  is_spare (suc n) q = holds (p.spares n) n q || is_spare n q

  -- the rank of the unit whose spare name it is
  abbrev level : ℕ → ℕ → ℕ
  level zero q = 0
  level (suc n) q = if holds (p.spares n) n q then p.rank n else level n q

  -- the name of a number's unit
  found : (u : ℕ) (v : ℕ) (x : Text) (o : ℕ) (s : Option Text) → p.spares u ≡ s → holds s u (p.target.number v x o) ≡ true → (v ≡ u) × (s ≡ Some x)
  found u v x o None e is = absurd (true≢false (sym is))
  found u v x o (Some y) e is = let h = p.apart u y e v x o (eq_of is) in (h.0, ap (λ z. Some z) (sym h.1))
    where
      eq_of : nat_eq (p.target.number v x o) (p.target.number u y 0) ≡ true → p.target.number v x o ≡ p.target.number u y 0
      eq_of e1 = eqb-true (p.target.number v x o) (p.target.number u y 0) e1

  not_spare : (n v : ℕ) (x : Text) (o : ℕ) → IsOther (p.spares v) x → is_spare n (p.target.number v x o) ≡ false
  not_spare zero v x o other = refl
  not_spare (suc n) v x o other = by_unit (holds (p.spares n) n (p.target.number v x o)) refl (not_spare n v x o other)
    where
      by_unit : (b : Bool) → holds (p.spares n) n (p.target.number v x o) ≡ b → is_spare n (p.target.number v x o) ≡ false → (b || is_spare n (p.target.number v x o)) ≡ false
      by_unit true e later =
          let h = found n v x o (p.spares n) refl e in
          absurd (subst (λ s. IsOther s x) (ap p.spares h.0 ∙ h.1) other refl)
      by_unit false e later = later

  own_number : (u : ℕ) (y : Text) → p.spares u ≡ Some y → holds (p.spares u) u (p.target.number u y 0) ≡ true
  own_number u y e = ap (λ s. holds s u (p.target.number u y 0)) e ∙ eq-eqb (p.target.number u y 0) (p.target.number u y 0) refl

  marked : (n u : ℕ) (y : Text) → p.spares u ≡ Some y → u < n → (is_spare n (p.target.number u y 0) ≡ true) × (level n (p.target.number u y 0) ≡ p.rank u)
  marked zero u y e lt = absurd (omega arith)
  marked (suc n) u y e lt = by_unit (holds (p.spares n) n (p.target.number u y 0)) refl (λ less. marked n u y e less)
    where
      by_unit : (b : Bool) → holds (p.spares n) n (p.target.number u y 0) ≡ b → (u < n → (is_spare n (p.target.number u y 0) ≡ true) × (level n (p.target.number u y 0) ≡ p.rank u)) → ((b || is_spare n (p.target.number u y 0)) ≡ true) × ((if b then p.rank n else level n (p.target.number u y 0)) ≡ p.rank u)
      by_unit true h later = (refl, ap p.rank (sym (found n u y 0 (p.spares n) refl h).0))
      by_unit false h later = later (less (nat_eq u n) refl)
        where
          less : (b : Bool) → nat_eq u n ≡ b → u < n
          less true same = absurd (true≢false (sym (ap (λ k. holds (p.spares k) k (p.target.number u y 0)) (sym (eqb-true u n same)) ∙ own_number u y e) ∙ h))
          less false other = omega (arith, eqb-false u n other)

  -- ---- the program ----

  abbrev K : ℕ → Text → Type 0
  K u = IsOther (p.spares u)

  abbrev Fair : Spot → Type 0
  Fair (Held u x o) = K u x
  Fair (Lent c) = ⊤

  alike : (u : ℕ) → Alike (p.target.context u) (p.source.context u) (p.spares u)
  alike u = by_body (p.bodies u) (p.units u)
    where
      by_body : (o : Body) → IsUnitOf (p.target.context u) (p.source.context u) (p.spares u) o (p.codes u) → Alike (p.target.context u) (p.source.context u) (p.spares u)
      by_body (Ours ss) h = becomes_alike _ _ _ ss _ h
      by_body (Theirs lines) h = same_alike _ _ _ h.2 h.1

  scope : IsScope K Fair p.source
  scope = record {
    own = λ u x used. used;
    further = λ u x o n fair. fair;
    lent = λ c. tt;
    callee = λ u x v used e. subst (K v) (p.named x v e) (alike v).own;
    dimensions = λ u x used. (alike u).dimensions x;
  }

  same : SameNames K Fair p.target p.source
  same = record {
    find = λ u x used. p.find x;
    header = λ u. (alike u).header;
    sizes = λ u x used. (alike u).sizes x;
    kinds = λ u x used. (alike u).kinds x used;
    formats = λ u m. (alike u).formats m;
    extents = λ u x o fair. (alike u).sizes x;
  }

  abbrev program : Program
  program = record {
    target = p.target;
    source = p.source;
    codes = p.codes;
    bodies = p.bodies;
    spare = is_spare p.many;
    level = level p.many;
    rank = p.rank;
    K = K;
    Fair = Fair;
    scope = scope;
    same = same;
    numbers = p.numbers;
    apart = λ u x o fair. ap (is_spare p.many) (sym (p.numbers u x o fair)) ∙ not_spare p.many u x o fair;
  }

  -- what holds of calls in the target holds in the source
  below_too : (u : ℕ) → NamesOfLinesBy (Below p.source p.rank u) (p.codes u)
  below_too u =
      lines_too (Below p.target p.rank u) (Below p.target p.rank u) (Below p.source p.rank u) (λ x _ _. tt) (λ x low _ is v e. low (ap (λ ns. array_or ns x) ((alike u).sizes x) ∙ is) v (p.find x ∙ e))
      (λ x low _ v e. low v (p.find x ∙ e)) (p.codes u) (p.below u) (p.below u)

  is_unit : (u : ℕ) (o : Body) → IsUnitOf (p.target.context u) (p.source.context u) (p.spares u) o (p.codes u) → IsUnit program u o
  is_unit u (Ours ss) h = (checked_code (entered program u [] tt) h.made h.name (ends_itself (p.source.context u).header (all_code h.made h.name own ss 0 [] [])) h.first h.last ss h.checked (have_switch ss) h.is_code (own_other _ _ _ ss _ h) used holds_value, h.checked.fits, h.checked.lands)
    where
      own : Text
      own = name_of (p.source.context u).header

      low : NamesOfCommandsBy (Below p.source p.rank u) ss
      low = unit_names (Below p.source p.rank u) h.made h.name own (have_switch ss) h.first ss _ (subst (NamesOfLinesBy (Below p.source p.rank u)) h.is_code (below_too u))

      used : NamesOfCommandsBy (Own (entered program u [] tt)) ss
      used = commands_too (however (K u)) (Below p.source p.rank u) (Own (entered program u [] tt)) (λ x known _. known) (λ x known low. (known, low)) (λ x known low. (known, low)) ss (statements_other _ _ _ ss _ h) low

      holds_value : have_switch ss ≡ true → HoldsValue (entered program u [] tt) h.name
      holds_value there =
          let is : p.spares u ≡ Some h.name = h.is_spare ∙ ap (λ v. spare_of v h.name) there in
          let m = marked p.many u h.name is (p.within u h.name is) in
          record { own = spare_own _ _ _ ss _ h there; kind = spare_integer _ _ _ ss _ h there; marked = m.0; ranked = m.1 }
  is_unit u (Theirs lines) h =
      let any : (x : Text) → K u x = λ x. subst (λ o. IsOther o x) (sym h.1) tt in
      let low = subst (NamesOfLinesBy (Below p.source p.rank u)) h.0 (below_too u) in
      (h.0, lines_too (Below p.source p.rank u) (Below p.source p.rank u) (Own (entered program u [] tt)) (λ x _ _. any x) (λ x low _. (any x, low)) (λ x low _. (any x, low)) lines low low)

  lowered : IsLowered program
  lowered = record { units = λ u le. is_unit u (p.bodies u) (p.units u); main = p.main; first = λ q e. p.first q; deep = p.deep }

  -- the units do what their source means, which is never lost
  pub linked_agrees : (input : List Record) → Agrees (λ b. ratfor p.source p.bodies b input) (f66 p.target p.codes input)
  linked_agrees input = program_agrees program lowered input

  pub linked_found : (input : List Record) (b : ℕ) → (ratfor p.source p.bodies b input).end ≢ Lost
  linked_found input b = programs.found program lowered input b
