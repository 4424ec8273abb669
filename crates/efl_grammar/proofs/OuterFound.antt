-- The table derives each declaration of the published grammar, before what stands behind it in its list.
use Rattle.std.proofs.Common.{◌≡◌, ◌∙◌, Bool, true, false, ℕ, List, [], ◌∷◌, None, Some, refl, sym, ap}
use Rattle.std.specs.Prelude.{codes}
use Rattle.ground.specs.declared.place.Place.{Place}
use Rattle.ground.specs.declared.token.Token.{Token}
use Rattle.ground.specs.declared.token.TokenKind.{TokenKind}
use Rattle.ground.specs.declared.token.TokenKind.TheVariants as kinds
use Rattle.ground.specs.declared.token.Sign.TheVariants as signs
use Rattle.efl_tree.specs.Syntax as efl
use Rattle.efl_tree.specs.Syntax.{Text, EflVar, EflType, EflGroups, EflPreset, EflDecl, EflDeclKind, Variables, Initial, Implicit, EflStmts}
use Rattle.efl_parse_table.specs.declared.table.Terminal.{Terminal}
use Rattle.efl_parse_table.specs.declared.table.Terminal.TheVariants as t
use Rattle.efl_parse_table.specs.declared.table.Nonterminal.{Nonterminal}
use Rattle.efl_parse_table.specs.declared.table.Nonterminal.TheVariants as n
use Rattle.efl_parse_table.specs.declared.table.Production.TheVariants as p
use Rattle.efl_parse_table.specs.Table.{allows}
use Rattle.efl_parse_table.specs.Words.{reserved, terminal_in, seen}
use Rattle.efl_parse_values.specs.Values.{Val, tok}
use Rattle.efl_parse_values.specs.Values as val
use Rattle.efl_parse_values.specs.Parts.{letter_in, first_letter, name_in}
use Rattle.efl_parse_expressions.specs.Declared.{outlined}
use Rattle.efl_parse_statements.specs.Lists.{shared}
use Rattle.rat_grammar.specs.Tokens.{Tokens, token, one, capitals, word, Stop, place_at, Listed}
use Rattle.rat_grammar.specs.Laws.{IsSome}
use Rattle.rat_grammar.proofs.LineLemmas.{stop_is_some}
use Rattle.rat_grammar.proofs.Standing.{known, sole}
use Rattle.rat_grammar.proofs.ReservedWords.{untrue}
use Rattle.efl_grammar.specs.Tokens.{Name, name, StopIfAny, ShapeStop}
use Rattle.efl_grammar.specs.Declarations as d
use Rattle.efl_grammar.proofs.TokenLemmas.{Is, seen_is}
use Rattle.efl_grammar.proofs.Taken as taken
use Rattle.rat_grammar.proofs.Derivations.{is_some, given}
use Rattle.efl_grammar.proofs.Steps.{FoundPart, Allowed, built, make, make_at, make_empty, found_token, found_empty}
use Rattle.efl_grammar.proofs.ExpressionsFound.{found_letter, found_name, the_word}
use Rattle.efl_grammar.proofs.DeclarationsFound.{FoundStop, found_stop, found_vars, found_base, found_type, found_shape, found_groups, found_preset}
use Rattle.rat_grammar.proofs.ListsFound.{FoundList, found_list}

-- ---- ranges of letters ----

record FoundLetter (a b : Tokens) (x : ℕ) : Type 0 where
  token : Token
  found : FoundPart n.AnyLetter a b (tok token)
  is : letter_in (tok token) ≡ x

abbrev pub is_one : Text → Bool
is_one [] = false
is_one (c ∷ []) = true
is_one (c ∷ d ∷ ds) = false

by_letters : (w : Text) (q : Place) (ts : Tokens) (x : ℕ) → terminal_in reserved w ≡ None → capitals w ≡ x ∷ [] → FoundLetter (token (kinds.Word w) q ∷ ts) ts x
by_letters [] q ts x h e = absurd (untrue (ap is_one e))
by_letters (c ∷ []) q ts x h e = record { token = _; found = found_letter c q ts h; is = ap first_letter e }
by_letters (c ∷ d ∷ ds) q ts x h e = absurd (untrue (ap is_one e))

letter_of : {a b : Tokens} {y : Text} (x : ℕ) → Name a b y → y ≡ x ∷ [] → FoundLetter a b x
letter_of x (name {w = w} {p = q} {ts = ts} h) e = by_letters w q ts x h e

found_range : (a b : Tokens) (x : ℕ × ℕ) → d.Range a b x → IsSome b → FoundPart n.Range a b (val.range x)
unfolding built
found_range a b x (d.Range.one {x = y} q) s =
    let c : FoundLetter _ _ _ = letter_of y q refl in
    given (ap (λ z. val.range (z, z)) c.is) (make p.Range tt _ _ _ c.found _ _ (found_empty p.NoEnd refl (λ k. refl) s))
found_range a b x (d.Range.both {x = y} {y = z} q one r) s =
    let c : FoundLetter _ _ _ = letter_of y q refl in
    let k : FoundLetter _ _ _ = letter_of z r refl in
    given (ap (λ v. val.range (v, letter_in (tok k.token))) c.is ∙ ap (λ v. val.range (y, v)) k.is)
    (make p.Range tt _ _ _ c.found _ _ (make p.SomeEnd tt _ _ _ (found_token t.Minus _ _ refl) _ _ k.found))

more_range : (a b c : Tokens) (q : Place) (x : ℕ × ℕ) (xs : List (ℕ × ℕ)) → FoundPart n.Range a b (val.range x) → FoundPart n.RangeMore b c (val.ranges xs) →
    FoundPart n.RangeMore (token (kinds.Sign signs.Comma) q ∷ a) c (val.ranges (x ∷ xs))
unfolding built
more_range a b c q x xs y k = make p.MoreRange tt _ _ _ (found_token t.Comma _ _ refl) _ _ y _ _ k

no_more_range : (a : Tokens) → IsSome a → FoundPart n.RangeMore a a (val.ranges [])
unfolding built
no_more_range a s = found_empty p.NoMoreRange refl (λ k. refl) s

more_preset : (a b c : Tokens) (q : Place) (x : EflPreset) (xs : List EflPreset) → FoundPart n.Preset a b (val.preset x) → FoundPart n.PresetMore b c (val.presets xs) →
    FoundPart n.PresetMore (token (kinds.Sign signs.Comma) q ∷ a) c (val.presets (x ∷ xs))
unfolding built
more_preset a b c q x xs y k = make p.MorePreset tt _ _ _ (found_token t.Comma _ _ refl) _ _ y _ _ k

no_more_preset : (a : Tokens) → IsSome a → FoundPart n.PresetMore a a (val.presets [])
unfolding built
no_more_preset a s = found_empty p.NoMorePreset refl (λ k. refl) s

-- ---- stops that may be missing ----

no_loose_by : (k : Terminal) (y : Token) (ts : Tokens) → Is k y.kind → ((b : Tokens) → Stop (y ∷ ts) b → ⊥) → allows p.NoLooseEnding k ≡ true
no_loose_by t.LineEnd y ts q h = absurd (h ts (Stop.line (sole (known q))))
no_loose_by t.Semicolon y ts q h = absurd (h ts (Stop.semicolon (sole (known q))))
no_loose_by t.CloseBrace y ts q h = absurd (h (y ∷ ts) (Stop.brace (sole (known {ts = ts} q))))
no_loose_by t.TextEnd y ts q h = absurd (h (y ∷ ts) (Stop.end (sole (known {ts = ts} q))))
no_loose_by _ y ts q h = refl

allowed_no_loose : (a : Tokens) → IsSome a → ((b : Tokens) → Stop a b → ⊥) → Allowed p.NoLooseEnding a
allowed_no_loose [] s h = s
allowed_no_loose (y ∷ ts) s h = no_loose_by (seen y) y ts (seen_is y) h

record FoundLoose (m : Nonterminal) (a b : Tokens) : Type 0 where
  value : Val
  found : FoundPart m a b value

found_loose : {a b : Tokens} → StopIfAny a b → IsSome b → FoundLoose n.LooseEnding a b
found_loose (StopIfAny.stop st) s = let z : FoundStop _ _ = found_stop st in record { value = _; found = make p.SomeEnding tt _ _ _ z.found }
found_loose {a} (StopIfAny.none h) s = record { value = _; found = make_empty p.NoLooseEnding refl a (allowed_no_loose a s h) }

abbrev NoName : Tokens → Type 0
NoName a = (c : Tokens) (x : Text) → Name a c x → ⊥

no_name_by : (k : Terminal) (y : Token) (ts : Tokens) → Is k y.kind → NoName (y ∷ ts) → (allows p.ShapeEnding k ≡ true) × (allows p.ShapeAlone k ≡ true)
no_name_by t.Name y ts q h = absurd (h ts (name_in (tok y)) (taken.long_name (known q)))
no_name_by t.Letter y ts q h = absurd (h ts (name_in (tok y)) (taken.plain_letter (known q)).name)
no_name_by t.WidthLetter y ts q h = absurd (h ts (name_in (tok y)) (taken.width_letter (known q)).name)
no_name_by t.CharLetter y ts q h = absurd (h ts (name_in (tok y)) (taken.char_letter (known q)).name)
no_name_by t.SkipLetter y ts q h = absurd (h ts (name_in (tok y)) (taken.skip_letter (known q)).name)
no_name_by _ y ts q h = (refl, refl)

allowed_shape : (a : Tokens) → IsSome a → NoName a → Allowed p.ShapeEnding a × Allowed p.ShapeAlone a
allowed_shape [] s h = (s, s)
allowed_shape (y ∷ ts) s h = no_name_by (seen y) y ts (seen_is y) h

found_shape_stop : {a b : Tokens} → ShapeStop a b → IsSome b → FoundLoose n.ShapeEnding a b
found_shape_stop {a} (ShapeStop.shape_stop h st) s =
    let z : FoundLoose _ _ _ = found_loose st s in
    record { value = _; found = make_at p.ShapeEnding a (allowed_shape a (is_some z.found) h).0 _ _ z.found }

shape_alone : {a b : Tokens} → ShapeStop a b → IsSome b → FoundPart n.AfterShape a b (val.vars [])
unfolding built
shape_alone {a} (ShapeStop.shape_stop h st) s =
    let z : FoundLoose _ _ _ = found_shape_stop (ShapeStop.shape_stop h st) s in make_at p.ShapeAlone a (allowed_shape a (is_some z.found) h).1 _ _ z.found

-- ---- declarations of a block ----

pub data FoundDecl : Tokens → Tokens → EflDeclKind → Type 0 where
  declared : {a b : Tokens} {k : EflDeclKind} → FoundPart n.Declaration a b (val.declaration (place_at a) k) → FoundDecl a b k
  named : {a i b : Tokens} {w : Text} {q : Place} {vs : List EflVar} → terminal_in reserved w ≡ None → FoundPart n.Variables a i (val.vars vs) → FoundStop i b →
      FoundDecl (token (kinds.Word w) q ∷ a) b (Variables None (efl.Named (capitals w)) vs)

outlined_some : {a b : Tokens} {x : Text} {gs : EflGroups} {vs : List EflVar} → d.Vars a b vs → outlined x (Some gs) vs ≡ Variables None (efl.Shape (Some x) gs) vs
outlined_some (Listed.last v) = refl
outlined_some (Listed.comma v c vs) = refl

found_declaration : {a b : Tokens} {k : EflDeclKind} → d.Declaration a b k → IsSome b → FoundDecl a b k
unfolding built
found_declaration (d.variables (d.base c) vs st) s =
    let z : FoundStop _ _ = found_stop st in declared (make p.BaseDeclaration tt _ _ _ (found_base c) _ _ (found_vars vs (stop_is_some st)) _ _ z.found)
found_declaration (d.variables (d.AType.named (d.NamedType.name (name h))) vs st) s = named h (found_vars vs (stop_is_some st)) (found_stop st)
found_declaration (d.variables (d.AType.named (d.NamedType.struct (word h) (name k))) vs st) s =
    let z : FoundStop _ _ = found_stop st in
    declared (make p.StructDeclaration tt _ _ _ (the_word (codes "STRUCT") t.Struct refl h) _ _ (make p.StructNamed tt _ _ _ (found_name _ _ _ k) _ _
    (make p.StructVariables tt _ _ _ (found_vars vs (stop_is_some st)) _ _ z.found)))
found_declaration (d.variables (d.shaped (d.nameless (word h) g)) vs st) s =
    let z : FoundStop _ _ = found_stop st in
    declared (make p.StructDeclaration tt _ _ _ (the_word (codes "STRUCT") t.Struct refl h) _ _
    (make p.ShapeVariables tt _ _ _ (found_shape g) _ _ (found_vars vs (stop_is_some st)) _ _ z.found))
found_declaration (d.variables (d.shaped (d.structured (word {p = q} h) (name k) g)) vs st) s =
    let z : FoundStop _ _ = found_stop st in
    declared (given (ap (λ v. val.declaration q v) (outlined_some vs))
    (make p.StructDeclaration tt _ _ _ (the_word (codes "STRUCT") t.Struct refl h) _ _ (make p.StructNamed tt _ _ _ (found_name _ _ _ k) _ _
    (make p.StructShape tt _ _ _ (found_shape g) _ _ (make p.ShapeAndVariables tt _ _ _ (found_vars vs (stop_is_some st)) _ _ z.found)))))
found_declaration (d.initial (word {p = q} h) ps st) s =
    let z : FoundStop _ _ = found_stop st in
    let all : FoundList _ _ _ _ _ = found_list found_preset more_preset no_more_preset ps (stop_is_some st) in
    declared (given (ap (λ v. val.declaration q (Initial v)) all.is)
    (make p.InitialDeclaration tt _ _ _ (the_word (codes "INITIAL") t.Initial refl h) _ _ all.found _ _ all.more _ _ z.found))
found_declaration (d.structure (word h) (name k) g st) s =
    declared (make p.StructDeclaration tt _ _ _ (the_word (codes "STRUCT") t.Struct refl h) _ _ (make p.StructNamed tt _ _ _ (found_name _ _ _ k) _ _
    (make p.StructShape tt _ _ _ (found_shape g) _ _ (shape_alone st s))))

-- a declaration before what stands behind it in its list
abbrev pub FoundIn : Nonterminal → Tokens → Tokens → EflDeclKind → Type 0
FoundIn m a b k =
    (c : Tokens) (ds : List EflDecl) (ss : EflStmts) → FoundPart m b c (val.lists ds ss) → FoundPart m a c (val.lists (record { kind = k; place = place_at a } ∷ ds) ss)

in_block : {a b : Tokens} {k : EflDeclKind} → FoundDecl a b k → FoundIn n.InnerList a b k
unfolding built
in_block (declared q) c ds ss r = make p.InnerDeclaration tt _ _ _ q _ _ r
in_block (named h vs st) c ds ss r = make p.InnerNamed tt _ _ _ (found_name _ _ _ h) _ _ (make p.InnerVariables tt _ _ _ vs _ _ st.found _ _ r)

in_procedure : {a b : Tokens} {k : EflDeclKind} → FoundDecl a b k → FoundIn n.OuterList a b k
unfolding built
in_procedure (declared q) c ds ss r = make p.OuterDeclaration tt _ _ _ q _ _ r
in_procedure (named h vs st) c ds ss r = make p.OuterNamed tt _ _ _ (found_name _ _ _ h) _ _ (make p.OuterVariables tt _ _ _ vs _ _ st.found _ _ r)

pub found_inner : {a b : Tokens} {k : EflDeclKind} → d.Declaration a b k → IsSome b → FoundIn n.InnerList a b k
found_inner q s = in_block (found_declaration q s)

-- ---- common and implicit ----

a_common : {a b : Tokens} {x : Text} {k : EflDeclKind} (v : Val) → d.CommonName a b x → shared x v ≡ k → {c : Tokens} → FoundPart n.CommonRest b c v → FoundIn n.OuterList a c k
unfolding built
a_common v (d.CommonName.common (word {p = q} h) one (name k) one) e rest c ds ss r =
    given (ap (λ z. val.lists (record { kind = z; place = q } ∷ ds) ss) e)
    (make p.OuterCommon tt _ _ _ (the_word (codes "COMMON") t.Common refl h) _ _ (found_token t.Open _ _ refl) _ _ (found_name _ _ _ k) _ _ (found_token t.Close _ _ refl) _ _ rest _ _ r)

an_implicit : {a b c : Tokens} {rs : List (ℕ × ℕ)} {q : Place} {k : EflType} → d.ImplicitRanges a b rs → FoundPart n.ImplicitType b c (val.typed q k) → FoundIn n.OuterList a c (Implicit rs k)
unfolding built
an_implicit {k = k} (d.ImplicitRanges.implicit (word {p = q} h) one rs one) rest c ds ss r =
    let all : FoundList _ _ _ _ _ = found_list found_range more_range no_more_range rs tt in
    given (ap (λ z. val.lists (record { kind = Implicit z k; place = q } ∷ ds) ss) all.is)
    (make p.OuterImplicit tt _ _ _ (the_word (codes "IMPLICIT") t.Implicit refl h) _ _ (found_token t.Open _ _ refl) _ _ all.found _ _ all.more _ _ (found_token t.Close _ _ refl) _ _ rest _ _ r)

abbrev is_word : TokenKind → Bool
is_word (kinds.Word x) = true
is_word _ = false

begins_with_word : {y : Token} {ts c : Tokens} {x : Text} → Name (y ∷ ts) c x → is_word y.kind ≡ true
begins_with_word (name h) = refl

pub line_no_name : {k : TokenKind} {q : Place} {ts c : Tokens} {x : Text} → is_word k ≡ false → Name (token k q ∷ ts) c x → ⊥
line_no_name h q = untrue (sym h ∙ begins_with_word q)

stop_is_no_name : {a b : Tokens} → Stop a b → (c : Tokens) (x : Text) → Name a c x → ⊥
stop_is_no_name (Stop.line one) c x q = line_no_name refl q
stop_is_no_name (Stop.semicolon one) c x q = line_no_name refl q
stop_is_no_name (Stop.brace one) c x q = line_no_name refl q
stop_is_no_name (Stop.end one) c x q = line_no_name refl q

implicit_shape : {a b c : Tokens} {k : EflType} → d.ShapeType a b k → ShapeStop b c → IsSome c → FoundPart n.ImplicitType a c (val.typed (place_at a) k)
unfolding built
implicit_shape (d.nameless (word h) g) st s =
    let z : FoundLoose _ _ _ = found_shape_stop st s in
    make p.ImplicitStruct tt _ _ _ (the_word (codes "STRUCT") t.Struct refl h) _ _ (make p.ImplicitShape tt _ _ _ (found_shape g) _ _ z.found)
implicit_shape (d.structured (word h) (name k) g) st s =
    let z : FoundLoose _ _ _ = found_shape_stop st s in
    make p.ImplicitStruct tt _ _ _ (the_word (codes "STRUCT") t.Struct refl h) _ _
    (make p.ImplicitStructName tt _ _ _ (found_name _ _ _ k) _ _ (make p.ImplicitNamedShape tt _ _ _ (found_shape g) _ _ z.found))

implicit_type : {a b c : Tokens} {k : EflType} → d.AType a b k → Stop b c → IsSome c → FoundPart n.ImplicitType a c (val.typed (place_at a) k)
unfolding built
implicit_type (d.base c) st s = let z : FoundStop _ _ = found_stop st in make p.ImplicitBase tt _ _ _ (found_base c) _ _ z.found
implicit_type (d.AType.named (d.NamedType.name (name h))) st s = let z : FoundStop _ _ = found_stop st in make p.ImplicitName tt _ _ _ (found_name _ _ _ h) _ _ z.found
implicit_type (d.AType.named (d.NamedType.struct (word h) (name k))) st s =
    let z : FoundStop _ _ = found_stop st in
    make p.ImplicitStruct tt _ _ _ (the_word (codes "STRUCT") t.Struct refl h) _ _
    (make p.ImplicitStructName tt _ _ _ (found_name _ _ _ k) _ _ (make p.ImplicitBare tt _ _ _ z.found))
implicit_type (d.shaped c) st s = implicit_shape c (ShapeStop.shape_stop (stop_is_no_name st) (StopIfAny.stop st)) s

pub found_outer : {a b : Tokens} {k : EflDeclKind} → d.OuterDeclaration a b k → IsSome b → FoundIn n.OuterList a b k
unfolding built
found_outer (d.declaration q) s = in_procedure (found_declaration q s)
found_outer (d.OuterDeclaration.implicit rs c st) s = an_implicit rs (implicit_type c st s)
found_outer (d.implicit_shape rs c st) s = an_implicit rs (implicit_shape c st s)
found_outer (d.OuterDeclaration.common c k vs st) s =
    let names : _ = found_vars vs (stop_is_some st) in
    let z : FoundStop _ _ = found_stop st in
    a_common _ c refl (make p.CommonGroup tt _ _ _ (make p.Group tt _ _ _ (found_type k (is_some names)) _ _ names _ _ z.found))
found_outer (d.common_list c one gs l one st) s =
    let z : FoundLoose _ _ _ = found_loose st s in
    a_common _ c refl (make p.CommonList tt _ _ _ (found_token t.OpenBrace _ _ refl) _ _ (found_groups gs l tt) _ _ (found_token t.CloseBrace _ _ refl) _ _ z.found)
