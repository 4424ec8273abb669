-- The table derives each statement of FORTRAN of the published grammar.
use Rattle.std.proofs.Common.{◌≡◌, ◌∙◌, ℕ, if◌then◌else◌, List, [], ◌∷◌, refl, ap}
use Rattle.std.specs.Prelude.{codes}
use Rattle.ground.specs.declared.place.Place.{Place}
use Rattle.ground.specs.declared.token.Token.{Token}
use Rattle.ground.specs.declared.token.TokenKind.TheVariants as kinds
use Rattle.ground.specs.declared.token.Sign.TheVariants as signs
use Rattle.f66_tree.specs.declared.declaration.TypeWord.{TypeWord}
use Rattle.f66_tree.specs.Syntax as f66
use Rattle.f66_tree.specs.Syntax.{Text, Formula, Par, Entries, Act}
use Rattle.f66_tree.specs.Views.{chained, listed}
use Rattle.rat_parse_table.specs.declared.table.Terminal.TheVariants as t
use Rattle.rat_parse_table.specs.declared.table.Nonterminal.TheVariants as n
use Rattle.rat_parse_table.specs.declared.table.Production.TheVariants as p
use Rattle.rat_parse_values.specs.Values.{tok, formula, formulas, declareds, deed, numbers}
use Rattle.rat_parse_values.specs.Parts.{name_in, number_in}
use Rattle.rat_grammar.specs.Tokens.{Tokens, token, one, capitals, word, name, place_at, Listed}
use Rattle.rat_grammar.specs.Declarations as d
use Rattle.rat_grammar.specs.Plain as pl
use Rattle.rat_grammar.specs.Laws.{IsSome}
use Rattle.rat_grammar.proofs.Derivations.{given}
use Rattle.rat_grammar.proofs.Steps.{FoundPart, FoundAs, make, found_token, found_empty}
use Rattle.rat_grammar.proofs.ReservedWords.{is_other}
use Rattle.rat_grammar.proofs.ExpressionsFound.{found_name, found_number, found_ref, found_expr, or_done}
use Rattle.rat_grammar.proofs.ListsFound.{FoundList, found_list}
use Rattle.rat_grammar.proofs.WordsFound.{the_word, FoundName, a_name, FoundNatural, a_natural, found_numbers}
use Rattle.rat_grammar.proofs.DeclarationsFound.{FoundType, found_type, found_par, found_declareds, FoundAreas, found_common, found_aliases, found_presets}
use Rattle.rat_grammar.proofs.FormatsFound.{found_fields}
use Rattle.rat_grammar.proofs.EntriesFound.{FoundEntries, found_entries}

-- ---- assignments and calls ----

found_actual : {a b : Tokens} {x : Formula} → pl.Actual a b x → IsSome b → FoundPart n.Actual a b (formula x)
found_actual (pl.expr q) s = make p.ExprActual tt _ _ _ (found_expr q (or_done s))
found_actual (pl.letter (d.OneLetter.letter one)) s = make p.LetterActual tt _ _ _ (found_token t.Letter _ _ refl)

no_more_actual : {a : Tokens} → IsSome a → FoundPart n.ActualMore a a (formulas [])
no_more_actual s = found_empty p.NoMoreActual refl (λ k. refl) s

more_actual : {a b c : Tokens} {q : Place} {x : Formula} {xs : List Formula} → FoundPart n.Actual a b (formula x) → FoundPart n.ActualMore b c (formulas xs) →
    FoundPart n.ActualMore (token (kinds.Sign signs.Comma) q ∷ a) c (formulas (x ∷ xs))
more_actual c k = make p.MoreActual tt _ _ _ (found_token t.Comma _ _ refl) _ _ c _ _ k

found_actuals : {a b : Tokens} {xs : List Formula} → Listed pl.Actual a b xs → IsSome b → FoundList (FoundAs n.Actual (λ y. formula y)) (FoundAs n.ActualMore (λ y. formulas y)) a b xs
found_actuals = found_list (λ a b x c s. found_actual c s) (λ a b c q x xs y k. more_actual y k) (λ a s. no_more_actual s)

pub found_simple : {a b : Tokens} {x : Act} → pl.Simple a b x → IsSome b → FoundPart n.Simple a b (deed (place_at a) x)
found_simple (pl.assignment r one f) s = make p.Assignment tt _ _ _ (found_ref r tt) _ _ (found_token t.Assign _ _ refl) _ _ (found_expr f (or_done s))
found_simple (pl.call (word h) (name g)) s =
    make p.Invocation tt _ _ _ (the_word (codes "CALL") t.Call refl h) _ _ (found_name _ _ _ g) _ _ (found_empty p.NoActuals refl (λ k. refl) s)
found_simple (pl.call_with (word {p = q} h) (name {w = w} g) one fs one) s =
    let r : FoundList _ _ _ _ _ = found_actuals fs tt in
    given (ap (λ z. deed q (f66.Invoke (capitals w) (chained z))) r.is)
    (make p.Invocation tt _ _ _ (the_word (codes "CALL") t.Call refl h) _ _ (found_name _ _ _ g) _ _
    (make p.SomeActuals tt _ _ _ (found_token t.Open _ _ refl) _ _ r.found _ _ r.more _ _ (found_token t.Close _ _ refl)))

-- ---- go to ----

record FoundGo (a b : Tokens) : Type 0 where
  token : Token
  found : FoundPart n.GoWords a b (tok token)
  place : token.place ≡ place_at a

found_go : {a b : Tokens} → pl.GoTo a b → FoundGo a b
found_go (pl.one_word (word h)) = record { token = _; found = make p.GotoWord tt _ _ _ (the_word (codes "GOTO") t.Goto refl h); place = refl }
found_go (pl.two_words (word h) (word g)) = record {
  token = _;
  found = make p.GoToWords tt _ _ _ (the_word (codes "GO") t.Go refl h) _ _ (the_word (codes "TO") t.To refl g);
  place = refl;
}

-- to a label, or to one of several
went : {a m b : Tokens} {k : ℕ} → FoundGo a m → FoundNatural m b k → FoundPart n.Plain a b (deed (place_at a) (f66.Goto k))
went {a} g c = given (ap (λ z. deed z (f66.Goto (number_in (tok c.token)))) g.place ∙ ap (λ z. deed (place_at a) (f66.Goto z)) c.is)
    (make p.GoPlain tt _ _ _ g.found _ _ (make p.OneTarget tt _ _ _ c.found))

chose : {a m i b : Tokens} {q q1 q2 : Place} {ks : List ℕ} {x : Text} → FoundGo a (token (kinds.Sign signs.Open) q ∷ m) →
    FoundList FoundNatural (FoundAs n.NumberMore (λ y. numbers y)) m (token (kinds.Sign signs.Close) q1 ∷ token (kinds.Sign signs.Comma) q2 ∷ i) ks → FoundName i b x →
    FoundPart n.Plain a b (deed (place_at a) (f66.Computed ks x))
chose {a} {ks = ks} g c x =
    given (ap (λ z. deed z (f66.Computed (number_in (tok c.found.token) ∷ c.others) (name_in (tok x.token)))) g.place
    ∙ ap (λ z. deed (place_at a) (f66.Computed (z ∷ c.others) (name_in (tok x.token)))) c.found.is
    ∙ ap (λ z. deed (place_at a) (f66.Computed z (name_in (tok x.token)))) c.is
    ∙ ap (λ z. deed (place_at a) (f66.Computed ks z)) x.is)
    (make p.GoPlain tt _ _ _ g.found _ _
    (make p.ComputedTarget tt _ _ _ (found_token t.Open _ _ refl) _ _ c.found.found _ _ c.more _ _ (found_token t.Close _ _ refl) _ _ (found_token t.Comma _ _ refl) _ _ x.found))

-- ---- all of them ----

-- a specification of types stands elsewhere in the table
pub data FoundPlain (a b : Tokens) (x : Act) : Type 0 where
  plain : FoundPart n.Plain a b (deed (place_at a) x) → FoundPlain a b x
  typed : {m : Tokens} {w : TypeWord} {ds : List f66.Declared} → FoundType a m w → FoundPart n.DeclaredList m b (declareds ds) → f66.Typed w ds ≡ x → FoundPlain a b x

pub found_plain : {a b : Tokens} {x : Act} → pl.Plain a b x → IsSome b → FoundPlain a b x
found_plain (pl.simple q) s = plain (make p.SimplePlain tt _ _ _ (found_simple q s))
found_plain (pl.goto g c) s = plain (went (found_go g) (a_natural c))
found_plain (pl.computed g one c one one x) s = plain (chose (found_go g) (found_numbers c tt) (a_name x))
found_plain (pl.continue (word h)) s = plain (make p.ContinuePlain tt _ _ _ (the_word (codes "CONTINUE") t.Continue refl h))
found_plain (pl.stop (word h)) s = plain (make p.StopPlain tt _ _ _ (the_word (codes "STOP") t.Stop refl h) _ _ (found_empty p.BareStop refl (λ k. refl) s))
found_plain (pl.stop_with (word h) (pl.octal one g)) s =
    plain (make p.StopPlain tt _ _ _ (the_word (codes "STOP") t.Stop refl h) _ _
    (make p.OctalStop tt _ _ _ (found_token t.Octal _ _ (ap (λ b. if b then t.Octal else t.Number) g))))
found_plain (pl.read {u = u} {n = k} (word {w = w} {p = q} h) one c one (d.natural one) one es) s =
    let r : FoundEntries _ _ _ = found_entries es s in
    plain (given (ap (λ z. deed q (if z then f66.Read u k (listed r.list) else f66.Write u k (listed r.list))) (is_other (codes "READ") (codes "READ") w h)
    ∙ ap (λ z. deed q (f66.Read u k z)) r.is)
    (make p.TransferPlain tt _ _ _ (the_word (codes "READ") t.Transfer refl h) _ _ (found_token t.Open _ _ refl) _ _ (found_par c) _ _ (found_token t.Comma _ _ refl) _ _
    (found_number _ _ _) _ _ (found_token t.Close _ _ refl) _ _ r.found))
found_plain (pl.write {u = u} {n = k} (word {w = w} {p = q} h) one c one (d.natural one) one es) s =
    let r : FoundEntries _ _ _ = found_entries es s in
    plain (given (ap (λ z. deed q (if z then f66.Read u k (listed r.list) else f66.Write u k (listed r.list))) (is_other (codes "READ") (codes "WRITE") w h)
    ∙ ap (λ z. deed q (f66.Write u k z)) r.is)
    (make p.TransferPlain tt _ _ _ (the_word (codes "WRITE") t.Transfer refl h) _ _ (found_token t.Open _ _ refl) _ _ (found_par c) _ _ (found_token t.Comma _ _ refl) _ _
    (found_number _ _ _) _ _ (found_token t.Close _ _ refl) _ _ r.found))
found_plain (pl.format (word h) one fs one) s =
    plain (make p.FormatPlain tt _ _ _ (the_word (codes "FORMAT") t.Format refl h) _ _ (found_token t.Open _ _ refl) _ _ (found_fields fs tt) _ _ (found_token t.Close _ _ refl))
found_plain (pl.typed w ds) s = let r : FoundPart n.DeclaredList _ _ _ = found_declareds ds s in typed (found_type w) r refl
found_plain (pl.dimension (word h) ds) s = plain (make p.DimensionPlain tt _ _ _ (the_word (codes "DIMENSION") t.Dimension refl h) _ _ (found_declareds ds s))
found_plain (pl.common (word {p = q} h) xs) s =
    let r : FoundAreas _ _ _ = found_common xs s in
    plain (given (ap (λ z. deed q (f66.Common z)) r.is) (make p.CommonPlain tt _ _ _ (the_word (codes "COMMON") t.Common refl h) _ _ r.found _ _ r.more))
found_plain (pl.equivalence (word {p = q} h) gs) s =
    let r : FoundList _ _ _ _ _ = found_aliases gs s in
    plain (given (ap (λ z. deed q (f66.Equivalence z)) r.is) (make p.EquivalencePlain tt _ _ _ (the_word (codes "EQUIVALENCE") t.Equivalence refl h) _ _ r.found _ _ r.more))
found_plain (pl.data_ (word {p = q} h) ps) s =
    let r : FoundList _ _ _ _ _ = found_presets ps s in
    plain (given (ap (λ z. deed q (f66.Preset z)) r.is) (make p.DataPlain tt _ _ _ (the_word (codes "DATA") t.Data refl h) _ _ r.found _ _ r.more))
