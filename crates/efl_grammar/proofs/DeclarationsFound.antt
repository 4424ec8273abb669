-- The table derives each type, each list of variables and each preset of the published grammar.
use Rattle.std.proofs.Common.{◌≡◌, Bool, true, false, ℕ, ℤ, List, [], ◌∷◌, refl, sym, ap}
use Rattle.std.specs.Prelude.{codes}
use Rattle.ground.specs.declared.place.Place.{Place}
use Rattle.ground.specs.declared.token.TokenKind.TheVariants as kinds
use Rattle.ground.specs.declared.token.Sign.TheVariants as signs
use Rattle.efl_tree.specs.declared.declaration.EflBound.{EflBound}
use Rattle.efl_tree.specs.declared.declaration.EflConst.{EflConst}
use Rattle.efl_tree.specs.declared.declaration.EflConst.TheVariants as constants
use Rattle.efl_tree.specs.Syntax.{Text, EflVar, EflType, EflGroups, EflPreset}
use Rattle.efl_parse_table.specs.declared.table.Terminal.TheVariants as t
use Rattle.efl_parse_table.specs.declared.table.Nonterminal.TheVariants as n
use Rattle.efl_parse_table.specs.declared.table.Production.TheVariants as p
use Rattle.efl_parse_table.specs.Words.{is_spelled}
use Rattle.efl_parse_values.specs.Values.{Val, tok}
use Rattle.efl_parse_values.specs.Values as val
use Rattle.efl_parse_expressions.specs.Declared.{opposite}
use Rattle.rat_grammar.specs.Tokens.{Tokens, token, one, capitals, word, Lines, Stop, place_at, Listed}
use Rattle.rat_grammar.specs.Laws.{IsSome}
use Rattle.efl_grammar.specs.Tokens.{name, Whole, natural}
use Rattle.efl_grammar.specs.Declarations as d
use Rattle.rat_grammar.proofs.LineLemmas.{stop_is_some}
use Rattle.rat_grammar.proofs.Derivations.{is_some, given}
use Rattle.efl_grammar.proofs.Steps.{FoundToken, FoundPart, FoundAs, built, make, make_empty, found_token, found_empty}
use Rattle.efl_grammar.proofs.ExpressionsRead.{truth_is}
use Rattle.efl_grammar.proofs.ExpressionsFound.{found_name, the_word, found_place, place_part}
use Rattle.efl_grammar.proofs.DeclarationsRead.{type_is}
use Rattle.rat_grammar.proofs.ListsFound.{FoundList, found_list}

-- ---- stops ----

pub record FoundStop (a b : Tokens) : Type 0 where
  pub value : Val
  pub found : FoundPart n.Ending a b value

pub found_stop : {a b : Tokens} → Stop a b → FoundStop a b
found_stop (Stop.line one) = record { value = _; found = make p.EndingLine tt _ _ _ (found_token t.LineEnd _ _ refl) }
found_stop (Stop.semicolon one) = record { value = _; found = make p.EndingSign tt _ _ _ (found_token t.Semicolon _ _ refl) }
found_stop (Stop.brace one) = record { value = _; found = make_empty p.NoEnding refl _ refl }
found_stop (Stop.end one) = record { value = _; found = make_empty p.NoEnding refl _ refl }

-- ---- bounds and variables ----

pub found_integral : {a b : Tokens} {z : ℤ} → Whole a b z → FoundPart n.Integral a b (val.integer z)
unfolding built
found_integral (Whole.number one) = make p.PlainIntegral tt _ _ _ (found_token t.Number _ _ refl)
found_integral (Whole.plus one one) = make p.SignedIntegral tt _ _ _ (make p.PlusSign tt _ _ _ (found_token t.Plus _ _ refl)) _ _ (found_token t.Number _ _ refl)
found_integral (Whole.minus one one) = make p.SignedIntegral tt _ _ _ (make p.MinusSign tt _ _ _ (found_token t.Minus _ _ refl)) _ _ (found_token t.Number _ _ refl)

found_bound : (a b : Tokens) (x : EflBound) → d.Bound a b x → IsSome b → FoundPart n.Bound a b (val.bound x)
unfolding built
found_bound a b x (d.Bound.whole q) s = make p.WholeBound tt _ _ _ (found_integral q) _ _ (found_empty p.NoUpper refl (λ k. refl) s)
found_bound a b x (d.star one) s = make p.StarBound tt _ _ _ (found_token t.Star _ _ refl)
found_bound a b x (d.wholes q one r) s =
    make p.WholeBound tt _ _ _ (found_integral q) _ _ (make p.SomeUpper tt _ _ _ (found_token t.Colon _ _ refl) _ _ (make p.WholeUpper tt _ _ _ (found_integral r)))
found_bound a b x (d.whole_star q one one) s =
    make p.WholeBound tt _ _ _ (found_integral q) _ _
    (make p.SomeUpper tt _ _ _ (found_token t.Colon _ _ refl) _ _ (make p.StarUpper tt _ _ _ (found_token t.Star _ _ refl)))

more_bound : (a b c : Tokens) (q : Place) (x : EflBound) (xs : List EflBound) → FoundPart n.Bound a b (val.bound x) → FoundPart n.BoundMore b c (val.bounds xs) →
    FoundPart n.BoundMore (token (kinds.Sign signs.Comma) q ∷ a) c (val.bounds (x ∷ xs))
unfolding built
more_bound a b c q x xs y k = make p.MoreBound tt _ _ _ (found_token t.Comma _ _ refl) _ _ y _ _ k

no_more_bound : (a : Tokens) → IsSome a → FoundPart n.BoundMore a a (val.bounds [])
unfolding built
no_more_bound a s = found_empty p.NoMoreBound refl (λ k. refl) s

found_bounds : {a b : Tokens} {xs : List EflBound} → Listed d.Bound a b xs → IsSome b → FoundList (FoundAs n.Bound (λ y. val.bound y)) (FoundAs n.BoundMore (λ y. val.bounds y)) a b xs
found_bounds = found_list found_bound more_bound no_more_bound

found_var : (a b : Tokens) (x : EflVar) → d.Var a b x → IsSome b → FoundPart n.Variable a b (val.var x)
unfolding built
found_var a b x (d.Var.name (name h)) s = make p.Variable tt _ _ _ (found_name _ _ _ h) _ _ (found_empty p.NoBounds refl (λ k. refl) s)
found_var a b x (d.bounded (name {w = w} h) one bs one) s =
    let all : FoundList _ _ _ _ _ = found_bounds bs tt in
    given (ap (λ z. val.var (record { name = capitals w; bounds = z })) all.is)
    (make p.Variable tt _ _ _ (found_name _ _ _ h) _ _
    (make p.SomeBounds tt _ _ _ (found_token t.Open _ _ refl) _ _ all.found _ _ all.more _ _ (found_token t.Close _ _ refl)))

more_var : (a b c : Tokens) (q : Place) (x : EflVar) (xs : List EflVar) → FoundPart n.Variable a b (val.var x) → FoundPart n.VariableMore b c (val.vars xs) →
    FoundPart n.VariableMore (token (kinds.Sign signs.Comma) q ∷ a) c (val.vars (x ∷ xs))
unfolding built
more_var a b c q x xs y k = make p.MoreVariable tt _ _ _ (found_token t.Comma _ _ refl) _ _ y _ _ k

no_more_var : (a : Tokens) → IsSome a → FoundPart n.VariableMore a a (val.vars [])
unfolding built
no_more_var a s = found_empty p.NoMoreVariable refl (λ k. refl) s

pub found_vars : {a b : Tokens} {xs : List EflVar} → d.Vars a b xs → IsSome b → FoundPart n.Variables a b (val.vars xs)
unfolding built
found_vars vs s =
    let all : FoundList _ _ _ _ _ = found_list found_var more_var no_more_var vs s in
    given (ap (λ z. val.vars z) all.is) (make p.Variables tt _ _ _ all.found _ _ all.more)

-- ---- types ----

pub found_base : {a b : Tokens} {k : EflType} → d.BaseType a b k → FoundPart n.BaseType a b (val.typed (place_at a) k)
unfolding built
found_base (d.integer (word {w = w} {p = q} h)) = given (ap (λ z. val.typed q z) (type_is w (codes "INTEGER") q false h)) (make p.PlainType tt _ _ _ (the_word (codes "INTEGER") t.Plain refl h))
found_base (d.logical (word {w = w} {p = q} h)) = given (ap (λ z. val.typed q z) (type_is w (codes "LOGICAL") q false h)) (make p.PlainType tt _ _ _ (the_word (codes "LOGICAL") t.Plain refl h))
found_base (d.real (word {w = w} {p = q} h)) = given (ap (λ z. val.typed q z) (type_is w (codes "REAL") q false h)) (make p.FloatingType tt _ _ _ (the_word (codes "REAL") t.Floating refl h))
found_base (d.complex (word {w = w} {p = q} h)) = given (ap (λ z. val.typed q z) (type_is w (codes "COMPLEX") q false h)) (make p.FloatingType tt _ _ _ (the_word (codes "COMPLEX") t.Floating refl h))
found_base (d.long_real (word {p = r} g) (word {w = w} {p = q} h)) =
    given (ap (λ z. val.typed r z) (type_is w (codes "REAL") q true h)) (make p.LongType tt _ _ _ (the_word (codes "LONG") t.Long refl g) _ _ (the_word (codes "REAL") t.Floating refl h))
found_base (d.long_complex (word {p = r} g) (word {w = w} {p = q} h)) =
    given (ap (λ z. val.typed r z) (type_is w (codes "COMPLEX") q true h)) (make p.LongType tt _ _ _ (the_word (codes "LONG") t.Long refl g) _ _ (the_word (codes "COMPLEX") t.Floating refl h))

group_lines : {a b c : Tokens} {v : Val} → Lines a b → FoundPart n.Groups b c v → FoundPart n.Groups a c v
unfolding built
group_lines Lines.none q = q
group_lines (Lines.line one l) q = make p.GroupLine tt _ _ _ (found_token t.LineEnd _ _ refl) _ _ (group_lines l q)

mutual
  unfolding built

  pub found_type : {a b : Tokens} {k : EflType} → d.AType a b k → IsSome b → FoundPart n.Type a b (val.typed (place_at a) k)
  found_type (d.base c) s = make p.BasicType tt _ _ _ (found_base c)
  found_type (d.AType.named (d.NamedType.name (name h))) s = make p.NamedType tt _ _ _ (found_name _ _ _ h)
  found_type (d.AType.named (d.NamedType.struct (word h) (name k))) s =
      make p.StructType tt _ _ _ (the_word (codes "STRUCT") t.Struct refl h) _ _
      (make p.StructTypeName tt _ _ _ (found_name _ _ _ k) _ _ (found_empty p.NoShape refl (λ z. refl) s))
  found_type (d.shaped (d.nameless (word h) g)) s =
      make p.StructType tt _ _ _ (the_word (codes "STRUCT") t.Struct refl h) _ _ (make p.NamelessShape tt _ _ _ (found_shape g))
  found_type (d.shaped (d.structured (word h) (name k) g)) s =
      make p.StructType tt _ _ _ (the_word (codes "STRUCT") t.Struct refl h) _ _
      (make p.StructTypeName tt _ _ _ (found_name _ _ _ k) _ _ (make p.SomeShape tt _ _ _ (found_shape g)))

  pub found_shape : {a b : Tokens} {gs : EflGroups} → d.Shape a b gs → FoundPart n.Shape a b (val.groups gs)
  found_shape (d.shape one gs l one) = make p.Shape tt _ _ _ (found_token t.OpenBrace _ _ refl) _ _ (found_groups gs l tt) _ _ (found_token t.CloseBrace _ _ refl)

  pub found_groups : {a b c : Tokens} {gs : EflGroups} → d.Groups a b gs → Lines b c → IsSome c → FoundPart n.Groups a c (val.groups gs)
  found_groups d.no_group l s = group_lines l (found_empty p.NoGroup refl (λ k. refl) s)
  found_groups (d.group j k vs st gs) l s =
      let names : _ = found_vars vs (stop_is_some st) in
      let z : FoundStop _ _ = found_stop st in
      group_lines j (make p.MoreGroups tt _ _ _ (make p.Group tt _ _ _ (found_type k (is_some names)) _ _ names _ _ z.found) _ _ (found_groups gs l s))

-- ---- presets ----

plus_number : {a : Tokens} {q r : Place} {z : ℤ} →
    FoundPart n.Unnumbered (token (kinds.Sign signs.Plus) q ∷ token (kinds.Number z) r ∷ a) a (val.constant (constants.Int z))
unfolding built
plus_number = make p.SignedConstant tt _ _ _ (make p.PlusSign tt _ _ _ (found_token t.Plus _ _ refl)) _ _ (found_token t.Number _ _ refl)

minus_number : {a : Tokens} {q r : Place} {z : ℤ} →
    FoundPart n.Unnumbered (token (kinds.Sign signs.Minus) q ∷ token (kinds.Number z) r ∷ a) a (val.constant (constants.Int (opposite z)))
unfolding built
minus_number = make p.SignedConstant tt _ _ _ (make p.MinusSign tt _ _ _ (found_token t.Minus _ _ refl)) _ _ (found_token t.Number _ _ refl)

truth_constant : {a : Tokens} {w : Text} {q : Place} (v : Bool) → FoundToken t.Truth (token (kinds.Word w) q ∷ a) a (tok (token (kinds.Word w) q)) → is_spelled (codes "TRUE") w ≡ v →
    FoundPart n.Unnumbered (token (kinds.Word w) q ∷ a) a (val.constant (constants.Truth v))
unfolding built
truth_constant v c h = given (ap (λ z. val.constant (constants.Truth z)) h) (make p.TruthConstant tt _ _ _ c)

found_const : {a b : Tokens} {k : EflConst} → d.Const a b k → FoundPart n.Constant a b (val.constant k)
unfolding built
found_const (d.Const.whole (Whole.number one)) = make p.NumberConstant tt _ _ _ (found_token t.Number _ _ refl)
found_const (d.Const.whole (Whole.plus one one)) = make p.OtherConstant tt _ _ _ plus_number
found_const (d.Const.whole (Whole.minus one one)) = make p.OtherConstant tt _ _ _ minus_number
found_const (d.Const.truth (word {w = w} h)) = make p.OtherConstant tt _ _ _ (truth_constant true (the_word (codes "TRUE") t.Truth refl h) (sym (truth_is w (codes "TRUE") h)))
found_const (d.Const.falsehood (word {w = w} h)) = make p.OtherConstant tt _ _ _ (truth_constant false (the_word (codes "FALSE") t.Truth refl h) (sym (truth_is w (codes "FALSE") h)))

found_many : (a b : Tokens) (x : ℕ × EflConst) → d.Many a b x → IsSome b → FoundPart n.Many a b (val.datum x.0 x.1)
unfolding built
found_many a b x (d.once (d.Const.whole (Whole.number one))) s = make p.NumberMany tt _ _ _ (found_token t.Number _ _ refl) _ _ (found_empty p.Once refl (λ k. refl) s)
found_many a b x (d.once (d.Const.whole (Whole.plus one one))) s = make p.OtherMany tt _ _ _ plus_number
found_many a b x (d.once (d.Const.whole (Whole.minus one one))) s = make p.OtherMany tt _ _ _ minus_number
found_many a b x (d.once (d.Const.truth (word {w = w} h))) s =
    make p.OtherMany tt _ _ _ (truth_constant true (the_word (codes "TRUE") t.Truth refl h) (sym (truth_is w (codes "TRUE") h)))
found_many a b x (d.once (d.Const.falsehood (word {w = w} h))) s =
    make p.OtherMany tt _ _ _ (truth_constant false (the_word (codes "FALSE") t.Truth refl h) (sym (truth_is w (codes "FALSE") h)))
found_many a b x (d.repeated (natural one) one c) s =
    make p.NumberMany tt _ _ _ (found_token t.Number _ _ refl) _ _ (make p.Repeated tt _ _ _ (found_token t.Dollar _ _ refl) _ _ (found_const c))

more_many : (a b c : Tokens) (q : Place) (x : ℕ × EflConst) (xs : List (ℕ × EflConst)) → FoundPart n.Many a b (val.datum x.0 x.1) → FoundPart n.ManyMore b c (val.data_list xs) →
    FoundPart n.ManyMore (token (kinds.Sign signs.Comma) q ∷ a) c (val.data_list (x ∷ xs))
unfolding built
more_many a b c q x xs y k = make p.MoreMany tt _ _ _ (found_token t.Comma _ _ refl) _ _ y _ _ k

no_more_many : (a : Tokens) → IsSome a → FoundPart n.ManyMore a a (val.data_list [])
unfolding built
no_more_many a s = found_empty p.NoMoreMany refl (λ k. refl) s

pub found_preset : (a b : Tokens) (x : EflPreset) → d.Preset a b x → IsSome b → FoundPart n.Preset a b (val.preset x)
unfolding built
found_preset a b x (d.Preset.one q one c) s =
    make p.Preset tt _ _ _ (make p.WholePlace tt _ _ _ (place_part (found_place q tt))) _ _ (found_token t.Assign _ _ refl) _ _ (make p.OneValue tt _ _ _ (found_const c))
found_preset a b x (d.Preset.several {s = u} q one one ms one) s =
    let all : FoundList _ _ _ _ _ = found_list found_many more_many no_more_many ms tt in
    given (ap (λ z. val.preset (record { place = u; values = z; listed = true })) all.is)
    (make p.Preset tt _ _ _ (make p.WholePlace tt _ _ _ (place_part (found_place q tt))) _ _ (found_token t.Assign _ _ refl) _ _
    (make p.ListedValues tt _ _ _ (found_token t.Open _ _ refl) _ _ all.found _ _ all.more _ _ (found_token t.Close _ _ refl)))
