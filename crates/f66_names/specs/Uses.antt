-- The names that a statement uses, and how each stands there (X3.9-1966, sections 5.1.3, 6 and 7.1).
use Rattle.std.specs.Prelude.{ℕ, ◌+◌, List, [], ◌∷◌, ◌++◌}
use Rattle.std.specs.List.{flat_map}
use Rattle.f66_tree.specs.Syntax.{Text, Formula, Ref, Item, Group, Plus, Minus, Not, Pair, Formulas, NoFormula, AndFormula, Par, Constant, Named, Declared, Entry, One, Many, Entries, NoEntry, AndEntry, Act, Assign, Computed, Sign, When, Loop, Read, Write, Typed, Dimension}
use Rattle.f66_names.specs.declared.name_form.Manner.{Manner}
use Rattle.f66_names.specs.declared.name_form.Manner.TheVariants.{Alone, With, Stored}

pub record Usage : Type 0 where
  pub name : Text
  pub manner : Manner

abbrev pub usage : Text → Manner → Usage
usage x m = record { name = x; manner = m }

abbrev pub many : Formulas → ℕ
many NoFormula = 0
many (AndFormula e es) = many es + 1

abbrev mutual
  pub uses_of : Formula → List Usage
  uses_of (Ref x) = usage x Alone ∷ []
  uses_of (Item x es) = usage x (With (many es)) ∷ uses_of_all es
  uses_of (Group a) = uses_of a
  uses_of (Plus a) = uses_of a
  uses_of (Minus a) = uses_of a
  uses_of (Not a) = uses_of a
  uses_of (Pair op a b) = uses_of a ++ uses_of b
  uses_of _ = []

  pub uses_of_all : Formulas → List Usage
  uses_of_all NoFormula = []
  uses_of_all (AndFormula e es) = uses_of e ++ uses_of_all es

-- of a place with parentheses, which is stored into or read from, the name itself is no function
abbrev pub uses_of_target : Formula → List Usage
uses_of_target (Item x es) = usage x (Stored (many es)) ∷ uses_of_all es
uses_of_target e = uses_of e

abbrev pub uses_of_par : Par → List Usage
uses_of_par (Constant z) = []
uses_of_par (Named x) = usage x Alone ∷ []

-- the variable and the parameters of a DO
abbrev pub uses_of_counting : Text → Par → Par → Par → List Usage
uses_of_counting x a b c = usage x Alone ∷ (uses_of_par a ++ (uses_of_par b ++ uses_of_par c))

-- an item is a place, as a target is
abbrev mutual
  pub uses_of_entry : Entry → List Usage
  uses_of_entry (One e) = uses_of_target e
  uses_of_entry (Many es x a b c) = uses_of_entries es ++ uses_of_counting x a b c

  pub uses_of_entries : Entries → List Usage
  uses_of_entries NoEntry = []
  uses_of_entries (AndEntry e es) = uses_of_entry e ++ uses_of_entries es

-- the names in dimensions
abbrev pub uses_of_sizes : List Declared → List Usage
uses_of_sizes ds = flat_map (λ d. flat_map uses_of_par d.sizes) ds

abbrev pub uses_in : Act → List Usage
uses_in (Assign x e) = uses_of_target x ++ uses_of e
uses_in (Computed ls x) = usage x Alone ∷ []
uses_in (Sign e l m k) = uses_of e
uses_in (When e a) = uses_of e ++ uses_in a
uses_in (Loop l x a b c) = uses_of_counting x a b c
uses_in (Read u l es) = uses_of_par u ++ uses_of_entries es
uses_in (Write u l es) = uses_of_par u ++ uses_of_entries es
uses_in (Typed t ds) = uses_of_sizes ds
uses_in (Dimension ds) = uses_of_sizes ds
uses_in _ = []
