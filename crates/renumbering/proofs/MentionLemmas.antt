-- The names of a statement are among what it mentions: so each of them stands for something, where each mention does.
use Rattle.std.proofs.Common.{true, false, List, ◌++◌}
use Rattle.std.specs.Prelude.{⊤}
use Rattle.std.specs.List.{AllByRecursion}
use Rattle.f66_tree.specs.Syntax.{Text, Formula, Int, Truth, Letter, Ref, Item, Group, Plus, Minus, Not, Pair, Formulas, NoFormula, AndFormula, Par, Constant, Named, Entry, One, Many, Entries, NoEntry, AndEntry, Act, Assign, Computed, Sign, When, Loop, Invoke, Read, Write, Routine}
use Rattle.f66_tree.specs.Units.{Context}
use Rattle.f66_tree.specs.Uses.{Using, NamesBy, NamesOfAllBy, NameOfPar, NamesOfEntryBy, NamesOfEntriesBy, NamesOfActBy}
use Rattle.f66_tree.specs.Evaluation.{Sort, AnArray, AnIntrinsic, AFunction, sort_of}
use Rattle.f66_program.specs.Mentions.{Mention, AVariable, ACall, AKnown, context_of, applied, mentions_of, mentions_of_all, mentions_of_par, mentions_of_counting, mentions_of_entry, mentions_of_entries, mentions_in}
use Rattle.linked_soundness.proofs.PartLemmas.{all_parts}
use Rattle.renumbering.specs.Bodies.{HasPlaces, CallsFunction, ListedBy}

-- a variable has places, and a reference calls a function
abbrev pub IsFine : List Routine → Routine → Mention → Type 0
IsFine rs r (AVariable x) = HasPlaces r x
IsFine rs r (ACall true x es) = ⊤
IsFine rs r (ACall false x es) = CallsFunction rs x
IsFine rs r (AKnown x) = ⊤

module _ (rs : List Routine) (r : Routine) (U : Using) (alone : (x : Text) → HasPlaces r x → U.alone x) (listed : (x : Text) → ListedBy rs r x (sort_of (context_of r) x) → U.listed x) (called : (x : Text) → U.called x) where
  abbrev c : Context
  c = context_of r

  abbrev AllFine : List Mention → Type 0
  AllFine ms = AllByRecursion (IsFine rs r) ms

  parts : (ms ns : List Mention) → AllFine (ms ++ ns) → AllFine ms × AllFine ns
  parts ms ns h = all_parts (IsFine rs r) ms ns h

  applied_fine : (x : Text) (es : Formulas) (o : Sort) → IsFine rs r (applied x es o) → ListedBy rs r x o
  applied_fine x es (AnArray ns) h = h
  applied_fine x es (AnIntrinsic g) h = tt
  applied_fine x es AFunction h = h

  mutual
    pub names_of : (e : Formula) → AllFine (mentions_of c e) → NamesBy U e
    names_of (Int z) h = tt
    names_of (Truth b) h = tt
    names_of (Letter k) h = tt
    names_of (Ref x) h = alone x h.0
    names_of (Item x es) h = (listed x (applied_fine x es (sort_of c x) h.0), names_of_all es h.1)
    names_of (Group a) h = names_of a h
    names_of (Plus a) h = names_of a h
    names_of (Minus a) h = names_of a h
    names_of (Not a) h = names_of a h
    names_of (Pair op a b) h = let p = parts (mentions_of c a) (mentions_of c b) h in (names_of a p.0, names_of b p.1)

    pub names_of_all : (es : Formulas) → AllFine (mentions_of_all c es) → NamesOfAllBy U es
    names_of_all NoFormula h = tt
    names_of_all (AndFormula e es) h = let p = parts (mentions_of c e) (mentions_of_all c es) h in (names_of e p.0, names_of_all es p.1)

  pub name_of_par : (n : Par) → AllFine (mentions_of_par n) → NameOfPar U.alone n
  name_of_par (Constant z) h = tt
  name_of_par (Named x) h = alone x h.0

  -- the variable and the parameters of a DO
  pub counting : (x : Text) (p q r : Par) → AllFine (mentions_of_counting x p q r) → U.alone x × NameOfPar U.alone p × NameOfPar U.alone q × NameOfPar U.alone r
  counting x p q r h =
      let first = parts (mentions_of_par p) (mentions_of_par q ++ mentions_of_par r) h.1 in
      let second = parts (mentions_of_par q) (mentions_of_par r) first.1 in
      (alone x h.0, name_of_par p first.0, name_of_par q second.0, name_of_par r second.1)

  mutual
    names_of_entry : (e : Entry) → AllFine (mentions_of_entry c e) → NamesOfEntryBy U e
    names_of_entry (One e) h = names_of e h
    names_of_entry (Many es x p q r) h =
        let both = parts (mentions_of_entries c es) (mentions_of_counting x p q r) h in
        let k = counting x p q r both.1 in
        (names_of_entries es both.0, k.0, k.1, k.2, k.3)

    pub names_of_entries : (es : Entries) → AllFine (mentions_of_entries c es) → NamesOfEntriesBy U es
    names_of_entries NoEntry h = tt
    names_of_entries (AndEntry e es) h = let p = parts (mentions_of_entry c e) (mentions_of_entries c es) h in (names_of_entry e p.0, names_of_entries es p.1)

  record_names : (u : Par) (es : Entries) → AllFine (mentions_of_par u ++ mentions_of_entries c es) → NameOfPar U.alone u × NamesOfEntriesBy U es
  record_names u es h = let p = parts (mentions_of_par u) (mentions_of_entries c es) h in (name_of_par u p.0, names_of_entries es p.1)

  pub names_of_act : (a : Act) → AllFine (mentions_in c a) → NamesOfActBy U a
  names_of_act (Assign x e) h = let p = parts (mentions_of c x) (mentions_of c e) h in (names_of x p.0, names_of e p.1)
  names_of_act (Computed ls x) h = alone x h.0
  names_of_act (Sign e l m k) h = names_of e h
  names_of_act (When e a) h = let p = parts (mentions_of c e) (mentions_in c a) h in (names_of e p.0, names_of_act a p.1)
  names_of_act (Loop l x p q r) h = counting x p q r h
  names_of_act (Invoke x es) h = (called x, names_of_all es h.1)
  names_of_act (Read n l es) h = record_names n es h
  names_of_act (Write n l es) h = record_names n es h
  names_of_act _ h = tt
