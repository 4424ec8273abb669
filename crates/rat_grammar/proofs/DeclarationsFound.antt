-- The table derives each specification, list of DATA and list of READ or WRITE of the published grammar.
use Rattle.std.proofs.Common.{◌≡◌, ◌∙◌, ℕ, ℤ, List, [], ◌∷◌, refl, ap}
use Rattle.std.specs.Prelude.{codes}
use Rattle.ground.specs.declared.place.Place.{Place}
use Rattle.ground.specs.declared.token.Token.{Token}
use Rattle.ground.specs.declared.token.TokenKind.TheVariants as kinds
use Rattle.ground.specs.declared.token.Sign.TheVariants as signs
use Rattle.f66_tree.specs.declared.declaration.TypeWord.{TypeWord}
use Rattle.f66_tree.specs.Syntax as f66
use Rattle.f66_tree.specs.Syntax.{Text, Formula, Par}
use Rattle.rat_parse_table.specs.declared.table.Terminal.TheVariants as t
use Rattle.rat_parse_table.specs.declared.table.Nonterminal.TheVariants as n
use Rattle.rat_parse_table.specs.declared.table.Production.TheVariants as p
use Rattle.rat_parse_values.specs.Values.{tok, formula, formulas, located, par, pars, range, declared, declareds, area, areas, groups, preset, presets, datum, data_values}
use Rattle.rat_parse_values.specs.Parts.{type_word}
use Rattle.rat_grammar.specs.Tokens.{Tokens, token, one, capitals, word, name, Number, place_at, Listed, Several}
use Rattle.rat_grammar.specs.Expressions.{Ref}
use Rattle.rat_grammar.specs.Declarations as d
use Rattle.rat_grammar.specs.Laws.{IsSome}
use Rattle.rat_grammar.proofs.Derivations.{is_some, given}
use Rattle.rat_grammar.proofs.Steps.{FoundPart, FoundAs, make, found_token, found_empty}
use Rattle.rat_grammar.proofs.Taken.{type_is}
use Rattle.rat_grammar.proofs.ExpressionsFound.{found_name, found_number, found_ref}
use Rattle.rat_grammar.proofs.ListsFound.{FoundList, found_list}
use Rattle.rat_grammar.proofs.WordsFound.{the_word}

-- ---- types ----

pub record FoundType (a b : Tokens) (w : TypeWord) : Type 0 where
  pub token : Token
  pub found : FoundPart n.TypeWord a b (tok token)
  pub is : type_word (tok token) ≡ w
  pub place : token.place ≡ place_at a

pub found_type : {a b : Tokens} {w : TypeWord} → d.TypeName a b w → FoundType a b w
found_type (d.integer (word {w = w} h)) = record {
  token = _;
  found = make p.OneWord tt _ _ _ (the_word (codes "INTEGER") t.Type refl h);
  is = type_is w (codes "INTEGER") h;
  place = refl;
}
found_type (d.logical (word {w = w} h)) = record {
  token = _;
  found = make p.OneWord tt _ _ _ (the_word (codes "LOGICAL") t.Type refl h);
  is = type_is w (codes "LOGICAL") h;
  place = refl;
}
found_type (d.real (word {w = w} h)) = record {
  token = _;
  found = make p.OneWord tt _ _ _ (the_word (codes "REAL") t.Type refl h);
  is = type_is w (codes "REAL") h;
  place = refl;
}
found_type (d.complex (word {w = w} h)) = record {
  token = _;
  found = make p.OneWord tt _ _ _ (the_word (codes "COMPLEX") t.Type refl h);
  is = type_is w (codes "COMPLEX") h;
  place = refl;
}
found_type (d.double (word {w = w} h) (word k)) = record {
  token = _;
  found = make p.TwoWords tt _ _ _ (the_word (codes "DOUBLE") t.Double refl h) _ _ (the_word (codes "PRECISION") t.Precision refl k);
  is = type_is w (codes "DOUBLE") h;
  place = refl;
}

-- ---- parameters ----

pub found_par : {a b : Tokens} {u : Par} → d.Parameter a b u → FoundPart n.Par a b (par u)
found_par (d.number one) = make p.NumberPar tt _ _ _ (found_number _ _ _)
found_par (d.name (name h)) = make p.NamePar tt _ _ _ (found_name _ _ _ h)

pub found_range : {a b : Tokens} {u v w : Par} → d.Range a b u v w → IsSome b → FoundPart n.Range a b (range (record { first = u; last = v; step = w }))
found_range (d.short x one y) s =
    make p.Range tt _ _ _ (found_par x) _ _ (found_token t.Comma _ _ refl) _ _ (found_par y) _ _ (found_empty p.NoStep refl (λ k. refl) s)
found_range (d.whole x one y one z) s =
    make p.Range tt _ _ _ (found_par x) _ _ (found_token t.Comma _ _ refl) _ _ (found_par y) _ _
    (make p.SomeStep tt _ _ _ (found_token t.Comma _ _ refl) _ _ (found_par z))

-- ---- declared names ----

no_more_par : {a : Tokens} → IsSome a → FoundPart n.ParMore a a (pars [])
no_more_par s = found_empty p.NoMorePar refl (λ k. refl) s

more_par : {a b c : Tokens} {q : Place} {x : Par} {xs : List Par} → FoundPart n.Par a b (par x) → FoundPart n.ParMore b c (pars xs) →
    FoundPart n.ParMore (token (kinds.Sign signs.Comma) q ∷ a) c (pars (x ∷ xs))
more_par c k = make p.MorePar tt _ _ _ (found_token t.Comma _ _ refl) _ _ c _ _ k

found_pars : {a b : Tokens} {xs : List Par} → Listed d.Parameter a b xs → IsSome b → FoundList (FoundAs n.Par (λ y. par y)) (FoundAs n.ParMore (λ y. pars y)) a b xs
found_pars = found_list (λ a b x c s. found_par c) (λ a b c q x xs y k. more_par y k) (λ a s. no_more_par s)

pub found_declared : {a b : Tokens} {x : f66.Declared} → d.Declared a b x → IsSome b → FoundPart n.Declared a b (declared x)
found_declared (d.Declared.name (name h)) s = make p.Declared tt _ _ _ (found_name _ _ _ h) _ _ (found_empty p.NoSizes refl (λ k. refl) s)
found_declared (d.sized (name {w = w} h) one us one) s =
    let r : FoundList _ _ _ _ _ = found_pars us tt in
    given (ap (λ z. declared (record { name = capitals w; sizes = z })) r.is)
    (make p.Declared tt _ _ _ (found_name _ _ _ h) _ _
    (make p.SomeSizes tt _ _ _ (found_token t.Open _ _ refl) _ _ r.found _ _ r.more _ _ (found_token t.Close _ _ refl)))

no_more_declared : {a : Tokens} → IsSome a → FoundPart n.DeclaredMore a a (declareds [])
no_more_declared s = found_empty p.NoMoreDeclared refl (λ k. refl) s

more_declared : {a b c : Tokens} {q : Place} {x : f66.Declared} {xs : List f66.Declared} → FoundPart n.Declared a b (declared x) → FoundPart n.DeclaredMore b c (declareds xs) →
    FoundPart n.DeclaredMore (token (kinds.Sign signs.Comma) q ∷ a) c (declareds (x ∷ xs))
more_declared c k = make p.MoreDeclared tt _ _ _ (found_token t.Comma _ _ refl) _ _ c _ _ k

pub found_declareds : {a b : Tokens} {xs : List f66.Declared} → Listed d.Declared a b xs → IsSome b → FoundPart n.DeclaredList a b (declareds xs)
found_declareds q s =
    let r : FoundList (FoundAs n.Declared (λ y. declared y)) (FoundAs n.DeclaredMore (λ y. declareds y)) _ _ _ =
    found_list (λ a b x c s. found_declared c s) (λ a b c q x xs y k. more_declared y k) (λ a s. no_more_declared s) q s in
    given (ap (λ z. declareds z) r.is) (make p.DeclaredList tt _ _ _ r.found _ _ r.more)

-- ---- common blocks ----

found_area : {a b : Tokens} {x : f66.Area} → d.Area a b x → IsSome b → FoundPart n.Area a b (area x)
found_area (d.named one (name h) one ds) s =
    make p.Area tt _ _ _ (found_token t.Slash _ _ refl) _ _ (make p.SomeArea tt _ _ _ (found_name _ _ _ h)) _ _ (found_token t.Slash _ _ refl) _ _ (found_declareds ds s)
found_area (d.Area.blank one one ds) s =
    make p.Area tt _ _ _ (found_token t.Slash _ _ refl) _ _ (found_empty p.NoArea refl (λ k. refl) tt) _ _ (found_token t.Slash _ _ refl) _ _ (found_declareds ds s)

found_areas : {a b : Tokens} {xs : List f66.Area} → Several d.Area a b xs → IsSome b → FoundPart n.AreaMore a b (areas xs)
found_areas Several.none s = found_empty p.NoMoreArea refl (λ k. refl) s
found_areas (Several.more x xs) s = let r : FoundPart n.AreaMore _ _ _ = found_areas xs s in make p.MoreArea tt _ _ _ (found_area x (is_some r)) _ _ r

-- what stands behind COMMON
pub record FoundAreas (a b : Tokens) (xs : List f66.Area) : Type 0 where
  pub first : f66.Area
  pub others : List f66.Area
  pub behind : Tokens
  pub is : first ∷ others ≡ xs
  pub found : FoundPart n.FirstArea a behind (area first)
  pub more : FoundPart n.AreaMore behind b (areas others)

pub found_common : {a b : Tokens} {xs : List f66.Area} → d.Areas a b xs → IsSome b → FoundAreas a b xs
found_common (d.Areas.blank ds xs) s =
    let r : FoundPart n.AreaMore _ _ _ = found_areas xs s in
    record { first = _; others = _; behind = _; is = refl; found = make p.BlankFirst tt _ _ _ (found_declareds ds (is_some r)); more = r }
found_common (d.areas x xs) s =
    let r : FoundPart n.AreaMore _ _ _ = found_areas xs s in
    record { first = _; others = _; behind = _; is = refl; found = make p.NamedFirst tt _ _ _ (found_area x (is_some r)); more = r }

-- ---- lists of references ----

no_more_ref : {a : Tokens} → IsSome a → FoundPart n.RefMore a a (formulas [])
no_more_ref s = found_empty p.NoMoreRef refl (λ k. refl) s

more_ref : {a b c : Tokens} {q : Place} {x : Formula} {xs : List Formula} → FoundPart n.Ref a b (located (place_at a) x) → FoundPart n.RefMore b c (formulas xs) →
    FoundPart n.RefMore (token (kinds.Sign signs.Comma) q ∷ a) c (formulas (x ∷ xs))
more_ref c k = make p.MoreRef tt _ _ _ (found_token t.Comma _ _ refl) _ _ c _ _ k

found_refs : {a b : Tokens} {xs : List Formula} → Listed Ref a b xs → IsSome b → FoundList (λ a b x. FoundPart n.Ref a b (located (place_at a) x)) (FoundAs n.RefMore (λ y. formulas y)) a b xs
found_refs = found_list (λ a b x c s. found_ref c s) (λ a b c q x xs y k. more_ref y k) (λ a s. no_more_ref s)

found_alias : {a b : Tokens} {xs : List Formula} → d.Alias a b xs → IsSome b → FoundPart n.Alias a b (formulas xs)
found_alias (d.alias {f = f} one x one xs one) s =
    let r : FoundList _ _ _ _ _ = found_refs xs tt in
    given (ap (λ z. formulas (f ∷ z)) r.is)
    (make p.Alias tt _ _ _ (found_token t.Open _ _ refl) _ _ (found_ref x tt) _ _ (found_token t.Comma _ _ refl) _ _ r.found _ _ r.more _ _ (found_token t.Close _ _ refl))

no_more_alias : {a : Tokens} → IsSome a → FoundPart n.AliasMore a a (groups [])
no_more_alias s = found_empty p.NoMoreAlias refl (λ k. refl) s

more_alias : {a b c : Tokens} {q : Place} {x : List Formula} {xs : List (List Formula)} → FoundPart n.Alias a b (formulas x) → FoundPart n.AliasMore b c (groups xs) →
    FoundPart n.AliasMore (token (kinds.Sign signs.Comma) q ∷ a) c (groups (x ∷ xs))
more_alias c k = make p.MoreAlias tt _ _ _ (found_token t.Comma _ _ refl) _ _ c _ _ k

pub found_aliases : {a b : Tokens} {xs : List (List Formula)} → Listed d.Alias a b xs → IsSome b →
    FoundList (FoundAs n.Alias (λ y. formulas y)) (FoundAs n.AliasMore (λ y. groups y)) a b xs
found_aliases = found_list (λ a b x c s. found_alias c s) (λ a b c q x xs y k. more_alias y k) (λ a s. no_more_alias s)

-- ---- DATA ----

-- a constant that is a number, or another one
pub data FoundValue (a b : Tokens) (x : Formula) : Type 0 where
  number : {z : ℤ} → Number a b z → f66.Int z ≡ x → FoundValue a b x
  other : FoundPart n.Unnumbered a b (formula x) → FoundValue a b x

a_value : {a b : Tokens} {x : Formula} → d.Value a b x → FoundValue a b x
a_value (d.Value.number c) = FoundValue.number c refl
a_value (d.plus one one) = other (make p.SignedNumber tt _ _ _ (found_token t.Adding _ _ refl) _ _ (found_number _ _ _))
a_value (d.minus one one) = other (make p.SignedNumber tt _ _ _ (found_token t.Adding _ _ refl) _ _ (found_number _ _ _))
a_value (d.truth one) = other (make p.TruthConstant tt _ _ _ (found_token t.Truth _ _ refl))
a_value (d.falsehood one) = other (make p.TruthConstant tt _ _ _ (found_token t.Truth _ _ refl))
a_value (d.Value.letter (d.OneLetter.letter one)) = other (make p.LetterConstant tt _ _ _ (found_token t.Letter _ _ refl))

found_constant : {a b : Tokens} {x : Formula} → FoundValue a b x → FoundPart n.Constant a b (formula x)
found_constant (FoundValue.number one e) = given (ap (λ z. formula z) e) (make p.NumberConstant tt _ _ _ (found_number _ _ _))
found_constant (other q) = make p.OtherConstant tt _ _ _ q

once : {a b : Tokens} {x : Formula} → FoundValue a b x → IsSome b → FoundPart n.Datum a b (datum 1 x)
once (FoundValue.number one e) s = given (ap (λ z. datum 1 z) e) (make p.NumberDatum tt _ _ _ (found_number _ _ _) _ _ (found_empty p.Once refl (λ k. refl) s))
once (other q) s = make p.OtherDatum tt _ _ _ q

found_datum : {a b : Tokens} {x : ℕ × Formula} → d.Datum a b x → IsSome b → FoundPart n.Datum a b (datum x.0 x.1)
found_datum (d.once q) s = once (a_value q) s
found_datum (d.repeated (d.natural one) one q) s =
    make p.NumberDatum tt _ _ _ (found_number _ _ _) _ _ (make p.Repeated tt _ _ _ (found_token t.Star _ _ refl) _ _ (found_constant (a_value q)))

no_more_datum : {a : Tokens} → IsSome a → FoundPart n.DatumMore a a (data_values [])
no_more_datum s = found_empty p.NoMoreDatum refl (λ k. refl) s

more_datum : {a b c : Tokens} {q : Place} {x : ℕ × Formula} {xs : List (ℕ × Formula)} → FoundPart n.Datum a b (datum x.0 x.1) → FoundPart n.DatumMore b c (data_values xs) →
    FoundPart n.DatumMore (token (kinds.Sign signs.Comma) q ∷ a) c (data_values (x ∷ xs))
more_datum c k = make p.MoreDatum tt _ _ _ (found_token t.Comma _ _ refl) _ _ c _ _ k

found_preset : {a b : Tokens} {x : f66.PresetPart} → d.Preset a b x → IsSome b → FoundPart n.Preset a b (preset x)
found_preset (d.preset {fs = ys} xs one ds one) s =
    let r : FoundList _ _ _ _ _ = found_refs xs tt in
    let q : FoundList (FoundAs n.Datum (λ y. datum y.0 y.1)) (FoundAs n.DatumMore (λ y. data_values y)) _ _ _ =
    found_list (λ a b x c s. found_datum c s) (λ a b c q x xs y k. more_datum y k) (λ a s. no_more_datum s) ds tt in
    given (ap (λ z. preset (record { places = z; values = q.first ∷ q.others })) r.is ∙ ap (λ z. preset (record { places = ys; values = z })) q.is)
    (make p.Preset tt _ _ _ r.found _ _ r.more _ _ (found_token t.Slash _ _ refl) _ _ q.found _ _ q.more _ _ (found_token t.Slash _ _ refl))

no_more_preset : {a : Tokens} → IsSome a → FoundPart n.PresetMore a a (presets [])
no_more_preset s = found_empty p.NoMorePreset refl (λ k. refl) s

more_preset : {a b c : Tokens} {q : Place} {x : f66.PresetPart} {xs : List f66.PresetPart} → FoundPart n.Preset a b (preset x) → FoundPart n.PresetMore b c (presets xs) →
    FoundPart n.PresetMore (token (kinds.Sign signs.Comma) q ∷ a) c (presets (x ∷ xs))
more_preset c k = make p.MorePreset tt _ _ _ (found_token t.Comma _ _ refl) _ _ c _ _ k

pub found_presets : {a b : Tokens} {xs : List f66.PresetPart} → Listed d.Preset a b xs → IsSome b → FoundList (FoundAs n.Preset (λ y. preset y)) (FoundAs n.PresetMore (λ y. presets y)) a b xs
found_presets = found_list (λ a b x c s. found_preset c s) (λ a b c q x xs y k. more_preset y k) (λ a s. no_more_preset s)
