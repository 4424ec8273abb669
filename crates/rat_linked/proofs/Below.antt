-- Where each call leads to a unit of lesser rank, the names in the statements of a unit do, as the simulation of linked programs asks.
use Rattle.std.proofs.Common.{◌≡◌, ◌<◌, inl, inr, ℕ, Bool, true, false, List, [], ◌∷◌, ◌++◌, Some, refl, sym, ap, ◌∙◌, subst}
use Rattle.std.specs.Prelude.{⊤}
use Rattle.std.specs.List.{slice_get}
use Rattle.f66_tree.specs.Syntax.{Text, Formula, Int, Truth, Letter, Ref, Item, Group, Plus, Minus, Not, Pair, Formulas, NoFormula, AndFormula, Par, Constant, Named, Entry, One, Many, Entries, NoEntry, AndEntry, Act, Assign, Computed, Sign, When, Loop, Invoke, Read, Write, Line, Routine}
use Rattle.f66_tree.specs.Units.{Context, Linkage}
use Rattle.f66_tree.specs.Uses.{Using, NamesBy, NamesOfAllBy, NameOfPar, NamesOfEntryBy, NamesOfEntriesBy, NamesOfActBy, NamesOfLinesBy}
use Rattle.f66_tree.specs.Evaluation.{AFunction, sort_of}
use Rattle.f66_program.specs.Mentions.{Mention, ACall, context_of, applied, mentions_of, mentions_of_all, mentions_of_par, mentions_of_counting, mentions_of_entry, mentions_of_entries, mentions_in}
use Rattle.f66_program.specs.Calls.{call_in, calls_in, Leads}
use Rattle.f66_program.specs.Linking.{IsLinkage}
use Rattle.rat_lower.proofs.Simulation.Linked.{Below}
use Rattle.spared_units.proofs.Among.{Among, contained, before, behind, in_all}

module _ (c : Context) (IsBelow : Text → Type 0) where
  abbrev U : Using
  U = record { alone = λ x. ⊤; listed = λ x. sort_of c x ≡ AFunction → IsBelow x; called = IsBelow }

  -- each call of these leads so
  abbrev Calls : List Mention → Type 0
  Calls ms = (b : Bool) (x : Text) (es : Formulas) → Among ms (ACall b x es) → IsBelow x

  first : (xs ys : List Mention) → Calls (xs ++ ys) → Calls xs
  first xs ys h b x es k = h b x es (before xs ys (ACall b x es) k)

  rest : (xs ys : List Mention) → Calls (xs ++ ys) → Calls ys
  rest xs ys h b x es k = h b x es (behind xs ys (ACall b x es) k)

  mutual
    names : (e : Formula) → Calls (mentions_of c e) → NamesBy U e
    names (Int z) h = tt
    names (Truth b) h = tt
    names (Letter k) h = tt
    names (Ref x) h = tt
    names (Item x es) h = ((λ e. h false x es (inl (ap (applied x es) e))), names_all es (λ b y fs k. h b y fs (inr k)))
    names (Group a) h = names a h
    names (Plus a) h = names a h
    names (Minus a) h = names a h
    names (Not a) h = names a h
    names (Pair op a b) h = (names a (first (mentions_of c a) (mentions_of c b) h), names b (rest (mentions_of c a) (mentions_of c b) h))

    names_all : (es : Formulas) → Calls (mentions_of_all c es) → NamesOfAllBy U es
    names_all NoFormula h = tt
    names_all (AndFormula e es) h = (names e (first (mentions_of c e) (mentions_of_all c es) h), names_all es (rest (mentions_of c e) (mentions_of_all c es) h))

  par : (a : Par) → NameOfPar (λ x. ⊤) a
  par (Constant z) = tt
  par (Named x) = tt

  mutual
    entry : (e : Entry) → Calls (mentions_of_entry c e) → NamesOfEntryBy U e
    entry (One e) h = names e h
    entry (Many es x i j k) h = (entries es (first (mentions_of_entries c es) (mentions_of_counting x i j k) h), tt, par i, par j, par k)

    entries : (es : Entries) → Calls (mentions_of_entries c es) → NamesOfEntriesBy U es
    entries NoEntry h = tt
    entries (AndEntry e es) h = (entry e (first (mentions_of_entry c e) (mentions_of_entries c es) h), entries es (rest (mentions_of_entry c e) (mentions_of_entries c es) h))

  act : (a : Act) → Calls (mentions_in c a) → NamesOfActBy U a
  act (Assign x e) h = (names x (first (mentions_of c x) (mentions_of c e) h), names e (rest (mentions_of c x) (mentions_of c e) h))
  act (Computed ls x) h = tt
  act (Sign e l m k) h = names e h
  act (When e a) h = (names e (first (mentions_of c e) (mentions_in c a) h), act a (rest (mentions_of c e) (mentions_in c a) h))
  act (Loop l x i j k) h = (tt, par i, par j, par k)
  act (Invoke x es) h = (h true x es (inl refl), names_all es (λ b y fs k. h b y fs (inr k)))
  act (Read u l es) h = (par u, entries es (rest (mentions_of_par u) (mentions_of_entries c es) h))
  act (Write u l es) h = (par u, entries es (rest (mentions_of_par u) (mentions_of_entries c es) h))
  act _ h = tt

  lines : (code : List Line) → ((s : Line) → Among code s → Calls (mentions_in c s.act)) → NamesOfLinesBy U code
  lines [] h = tt
  lines (s ∷ code) h = (act s.act (h s (inl refl)), lines code (λ t k. h t (inr k)))

-- the unit that a name calls is of lesser rank
abbrev IsLess : Linkage → (ℕ → ℕ) → ℕ → Text → Type 0
IsLess l rank u x = (v : ℕ) → l.find x ≡ Some v → rank v < rank u

-- the calls of a unit of a linked program lead to units of lesser rank
pub calls_fall : (rs : List Routine) (l : Linkage) → IsLinkage rs l → (rank : ℕ → ℕ) → ((u v : ℕ) → Leads rs u v → rank v < rank u) → (u : ℕ) (r : Routine) → slice_get rs u ≡ Some r → NamesOfLinesBy (Below l rank u) r.lines
calls_fall rs l is rank falls u r here =
    subst (λ c. NamesOfLinesBy (record { alone = λ x. ⊤; listed = λ x. sort_of c x ≡ AFunction → IsLess l rank u x; called = IsLess l rank u }) r.lines) (sym (is.contexts u r here))
    (lines (context_of r) (IsLess l rank u) r.lines (λ s at b x es k v e.
    falls u v
    (record {
      unit = r;
      line = s;
      call = record { by_call = b; name = x; actuals = es };
      here = here;
      stands = contained r.lines s at;
      called = contained (calls_in (context_of r) s.act) (record { by_call = b; name = x; actuals = es }) (in_all call_in (mentions_in (context_of r) s.act) (ACall b x es) (record { by_call = b; name = x; actuals = es }) k (inl refl));
      to = sym (is.finds x) ∙ e;
    })))
