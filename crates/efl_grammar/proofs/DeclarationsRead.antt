-- What the table reads as a type or a declaration is one of the published grammar.
use Rattle.std.proofs.Common.{◌≡◌, ◌∙◌, Bool, true, false, ℤ, List, [], ◌∷◌, None, Some, refl, sym, subst, ap, if◌then◌else◌}
use Rattle.std.specs.Prelude.{codes}
use Rattle.ground.specs.declared.place.Place.{Place}
use Rattle.ground.specs.declared.token.Token.{Token}
use Rattle.ground.specs.declared.token.TokenKind.TheVariants as kinds
use Rattle.ground.specs.declared.token.Sign.TheVariants as signs
use Rattle.efl_tree.specs.declared.declaration.EflConst.TheVariants as constants
use Rattle.efl_tree.specs.Syntax as efl
use Rattle.efl_tree.specs.Syntax.{Text, EflType, Integer, Logical, Real, Complex, Named, EflGroups, NoGroup, AndGroup, EflVar, EflDeclKind, Variables, Structure, Initial}
use Rattle.efl_parse_table.specs.declared.table.Terminal.{Terminal}
use Rattle.efl_parse_table.specs.declared.table.Terminal.TheVariants as t
use Rattle.efl_parse_table.specs.declared.table.Production.{Production}
use Rattle.efl_parse_table.specs.declared.table.Production.TheVariants as p
use Rattle.efl_parse_table.specs.Table.{allows}
use Rattle.efl_parse_table.specs.Words.{is_spelled, is_letter, name_terminal, word_seen, seen}
use Rattle.efl_parse_values.specs.Values.{Val, tok, nothing}
use Rattle.efl_parse_values.specs.Values as val
use Rattle.efl_parse_values.specs.Parts.{nowhere, name_in, letter_in, integer_in, is_true, upper_part, groups_part, constant_part, letter_part}
use Rattle.efl_parse_expressions.specs.Declared.{signed, plain_type, bounded, letters, type_named, outlined, counted}
use Rattle.rat_grammar.specs.Tokens.{Tokens, token, one, Number, Word, word, capitals, Listed, Lines, Stop, place_at}
use Rattle.rat_grammar.proofs.LineLemmas.{joined_lines}
use Rattle.rat_grammar.proofs.Parts.{Lined}
use Rattle.rat_grammar.proofs.Standing.{known, place_of, exact, sole, Either, first, second, word_of, spelled, Choice, this, that, choice}
use Rattle.rat_grammar.proofs.ReservedWords.{untrue, same, is_other}
use Rattle.efl_grammar.specs.Tokens.{Name, name, Natural, Whole, StopIfAny, ShapeStop}
use Rattle.efl_grammar.specs.Declarations as d
use Rattle.efl_grammar.proofs.TokenLemmas.{Is, seen_is, letter_by}
use Rattle.efl_grammar.proofs.Taken as taken
use Rattle.efl_grammar.proofs.Steps.{Step, Allowed, built}
use Rattle.efl_grammar.proofs.ExpressionsRead.{truth_is}

signed_whole : {a m b : Tokens} {y : Token} {z : ℤ} → Either (kinds.Sign signs.Plus) (kinds.Sign signs.Minus) a m y → Number m b z → Whole a b (signed (tok y) z)
signed_whole (first exact) c = Whole.plus one c
signed_whole (second exact) c = Whole.minus one c

a_truth : {a b : Tokens} {y : Token} → Choice (codes "TRUE") (codes "FALSE") a b y → d.Const a b (constants.Truth (is_true (tok y)))
a_truth (this (spelled {w = w} {p = q} {ts = ts} h)) =
    subst (λ v. d.Const (token (kinds.Word w) q ∷ ts) ts (constants.Truth v)) (truth_is w (codes "TRUE") h) (d.Const.truth (word h))
a_truth (that (spelled {w = w} {p = q} {ts = ts} h)) =
    subst (λ v. d.Const (token (kinds.Word w) q ∷ ts) ts (constants.Truth v)) (truth_is w (codes "FALSE") h) (d.Const.falsehood (word h))

-- ---- the types that words are ----

abbrev pub type_by : Bool → Bool → Bool → Bool → EflType
type_by long r x l = if r then Real long else (if x then Complex long else (if l then Logical else Integer))

pub type_is : (w x : Text) (q : Place) (long : Bool) → capitals w ≡ x →
    plain_type (tok (token (kinds.Word w) q)) long ≡ type_by long (same (codes "REAL") x) (same (codes "COMPLEX") x) (same (codes "LOGICAL") x)
type_is w x q long h =
    ap (λ r. type_by long r (is_spelled (codes "COMPLEX") w) (is_spelled (codes "LOGICAL") w)) (is_other (codes "REAL") x w h)
    ∙ ap (λ r. type_by long (same (codes "REAL") x) r (is_spelled (codes "LOGICAL") w)) (is_other (codes "COMPLEX") x w h)
    ∙ ap (λ r. type_by long (same (codes "REAL") x) (same (codes "COMPLEX") x) r) (is_other (codes "LOGICAL") x w h)

a_plain : {a b : Tokens} {y : Token} → Choice (codes "INTEGER") (codes "LOGICAL") a b y → d.BaseType a b (plain_type (tok y) false)
a_plain (this (spelled {w = w} {p = q} {ts = ts} h)) =
    subst (λ k. d.BaseType (token (kinds.Word w) q ∷ ts) ts k) (sym (type_is w (codes "INTEGER") q false h)) (d.integer (word h))
a_plain (that (spelled {w = w} {p = q} {ts = ts} h)) =
    subst (λ k. d.BaseType (token (kinds.Word w) q ∷ ts) ts k) (sym (type_is w (codes "LOGICAL") q false h)) (d.logical (word h))

a_floating : {a b : Tokens} {y : Token} → Choice (codes "REAL") (codes "COMPLEX") a b y → d.BaseType a b (plain_type (tok y) false)
a_floating (this (spelled {w = w} {p = q} {ts = ts} h)) =
    subst (λ k. d.BaseType (token (kinds.Word w) q ∷ ts) ts k) (sym (type_is w (codes "REAL") q false h)) (d.real (word h))
a_floating (that (spelled {w = w} {p = q} {ts = ts} h)) =
    subst (λ k. d.BaseType (token (kinds.Word w) q ∷ ts) ts k) (sym (type_is w (codes "COMPLEX") q false h)) (d.complex (word h))

a_long : {g a b : Tokens} {y : Token} → Word (codes "LONG") g a → Choice (codes "REAL") (codes "COMPLEX") a b y → d.BaseType g b (plain_type (tok y) true)
a_long {g} l (this (spelled {w = w} {p = q} {ts = ts} h)) = subst (λ k. d.BaseType g ts k) (sym (type_is w (codes "REAL") q true h)) (d.long_real l (word h))
a_long {g} l (that (spelled {w = w} {p = q} {ts = ts} h)) = subst (λ k. d.BaseType g ts k) (sym (type_is w (codes "COMPLEX") q true h)) (d.long_complex l (word h))

-- ---- lines before groups ----

lines_before_groups : {a m b : Tokens} {gs : EflGroups} → Lines a m → Lined d.Groups m b gs → Lined d.Groups a b gs
lines_before_groups {a} l q = before q.1 l q.2
  where
    before : {a m k b : Tokens} {gs : EflGroups} → d.Groups m k gs → Lines a m → Lines k b → Lined d.Groups a b gs
    before {a} d.no_group l r = (a, d.no_group, joined_lines l r)
    before {k = k} (d.group j w vs st gs) l r = (k, d.group (joined_lines l j) w vs st gs, r)

joined_groups : {a m k i b : Tokens} {w : EflType} {vs : List EflVar} {q : Place} {gs : EflGroups} → d.AType a m w → d.Vars m k vs → Stop k i → q ≡ place_at a → Lined d.Groups i b gs →
    Lined d.Groups a b (AndGroup w vs q gs)
joined_groups {a} {w = w} {vs = vs} {gs = gs} c v st h r = (r.0, subst (λ z. d.Groups a r.0 (AndGroup w vs z gs)) (sym h) (d.group Lines.none c v st r.1), r.2)

-- ---- where a stop may be missing ----

no_stop : (a : Tokens) → Allowed p.NoLooseEnding a → (b : Tokens) → Stop a b → ⊥
no_stop a h b (Stop.line one) = untrue h
no_stop a h b (Stop.semicolon one) = untrue h
no_stop a h b (Stop.brace one) = untrue h
no_stop a h b (Stop.end one) = untrue h

letter_seen : (P : Terminal → Type 0) → P t.Letter → P t.WidthLetter → P t.CharLetter → P t.SkipLetter → (i l x y : Bool) → P (letter_by i l x y)
letter_seen P k w c s true l x y = w
letter_seen P k w c s false true x y = w
letter_seen P k w c s false false true y = c
letter_seen P k w c s false false false true = s
letter_seen P k w c s false false false false = k

name_seen : (P : Terminal → Type 0) → P t.Name → P t.Letter → P t.WidthLetter → P t.CharLetter → P t.SkipLetter → (w : Text) → P (name_terminal w)
name_seen P n k w c s [] = n
name_seen P n k w c s (z ∷ []) = letter_seen P k w c s (is_letter 73 z) (is_letter 76 z) (is_letter 67 z) (is_letter 88 z)
name_seen P n k w c s (z ∷ v ∷ vs) = n

-- a production that stands before no name
no_name : (o : Production) → allows o t.Name ≡ false → allows o t.Letter ≡ false → allows o t.WidthLetter ≡ false → allows o t.CharLetter ≡ false → allows o t.SkipLetter ≡ false →
    (a : Tokens) → Allowed o a → (c : Tokens) (x : Text) → Name a c x → ⊥
no_name o n k w c s a h d x (name {w = v} g) =
    untrue (sym (name_seen (λ z. allows o z ≡ false) n k w c s v) ∙ sym (ap (λ z. allows o (word_seen z v)) g) ∙ h)

shaped_variables : {g h k a b c : Tokens} {x : Text} {gs : EflGroups} {vs : List EflVar} → Word (codes "STRUCT") g h → Name h k x → d.Shape k a gs → d.Vars a b vs → Stop b c →
    d.Declaration g c (outlined x (Some gs) vs)
shaped_variables w q r (Listed.last v) st = d.variables (d.shaped (d.structured w q r)) (Listed.last v) st
shaped_variables w q r (Listed.comma v s vs) st = d.variables (d.shaped (d.structured w q r)) (Listed.comma v s vs) st

-- only a closing brace or the end of the text stands behind a stop that is left out
ending_at : (k : Terminal) {y : Token} {ts : Tokens} → Is k y.kind → allows p.NoEnding k ≡ true → Stop (y ∷ ts) (y ∷ ts)
ending_at t.CloseBrace q h = Stop.brace (sole (known q))
ending_at t.TextEnd q h = Stop.end (sole (known q))
ending_at _ q h = absurd (untrue h)

stop_here : (a : Tokens) → Allowed p.NoEnding a → Stop a a
stop_here [] h = absurd h
stop_here (y ∷ ts) h = ending_at (seen y) (seen_is y) h

pub signed_integral : Step p.SignedIntegral
unfolding built
signed_integral a h = λ y m r z b c. (signed (tok y) (integer_in (tok z)), refl, signed_whole r (taken.number c))

pub plain_integral : Step p.PlainIntegral
unfolding built
plain_integral a h = λ y b r. (integer_in (tok y), refl, Whole.number (taken.number r))

pub ending_line : Step p.EndingLine
unfolding built
ending_line a h = λ y b r. (tok y, refl, Stop.line (sole r))

pub ending_sign : Step p.EndingSign
unfolding built
ending_sign a h = λ y b r. (tok y, refl, Stop.semicolon (sole r))

pub no_ending : Step p.NoEnding
unfolding built
no_ending a h = (nothing, refl, stop_here a h)

pub some_ending : Step p.SomeEnding
unfolding built
some_ending a h = λ v b st. (v, refl, StopIfAny.stop st)

pub no_loose_ending : Step p.NoLooseEnding
unfolding built
no_loose_ending a h = (nothing, refl, StopIfAny.none (no_stop a h))

pub shape_ending : Step p.ShapeEnding
unfolding built
shape_ending a h = λ v b st. (v, refl, ShapeStop.shape_stop (no_name p.ShapeEnding refl refl refl refl refl a h) st)

pub star_bound : Step p.StarBound
unfolding built
star_bound a h = λ y b r. (record { low = None; high = None }, refl, d.star (sole r))

pub whole_bound : Step p.WholeBound
unfolding built
whole_bound a h = λ z m c v b t. (bounded z (upper_part v), refl, t a z c)

pub some_upper : Step p.SomeUpper
unfolding built
some_upper a h = λ y m r o b t. (val.upper o, refl, λ g z q. t g a z q (sole r))

pub no_upper : Step p.NoUpper
unfolding built
no_upper a h = (nothing, refl, λ g z q. d.Bound.whole q)

pub whole_upper : Step p.WholeUpper
unfolding built
whole_upper a h = λ z b c. (Some z, refl, λ g k y q s. d.wholes q s c)

pub star_upper : Step p.StarUpper
unfolding built
star_upper a h = λ y b r. (None, refl, λ g k z q s. d.whole_star q s (sole r))

pub more_bound : Step p.MoreBound
unfolding built
more_bound a h = λ y m r x k c xs b t. (x ∷ xs, refl, λ g z q. Listed.comma q (sole r) (t m x c))

pub no_more_bound : Step p.NoMoreBound
unfolding built
no_more_bound a h = ([], refl, λ g z q. Listed.last q)

pub some_bounds : Step p.SomeBounds
unfolding built
some_bounds a h = λ y m r x k c xs j t z b s. (x ∷ xs, refl, λ g w q. d.bounded q (sole r) (t m x c) (sole s))

pub no_bounds : Step p.NoBounds
unfolding built
no_bounds a h = ([], refl, λ g x q. d.Var.name q)

pub variable : Step p.Variable
unfolding built
variable a h = λ y m r xs b t. (record { name = name_in (tok y); bounds = xs }, refl, t a (name_in (tok y)) r.1)

pub more_variable : Step p.MoreVariable
unfolding built
more_variable a h = λ y m r x k c xs b t. (x ∷ xs, refl, λ g z q. Listed.comma q (sole r) (t m x c))

pub no_more_variable : Step p.NoMoreVariable
unfolding built
no_more_variable a h = ([], refl, λ g z q. Listed.last q)

pub variables : Step p.Variables
unfolding built
variables a h = λ x m c xs b t. (x ∷ xs, refl, t a x c)

pub group : Step p.Group
unfolding built
group a h = λ y m q vs k c v b st. ((y.1, vs, y.0), refl, (m, k, q.1, c, st, q.0))

pub group_line : Step p.GroupLine
unfolding built
group_line a h = λ y m r gs b q. (gs, refl, lines_before_groups (Lines.line (sole r) Lines.none) q)

pub more_groups : Step p.MoreGroups
unfolding built
more_groups a h = λ y m q gs b r. (AndGroup y.0 y.1 y.2 gs, refl, joined_groups q.2 q.3 q.4 q.5 r)

pub no_group : Step p.NoGroup
unfolding built
no_group a h = (NoGroup, refl, (a, d.no_group, Lines.none))

pub shape : Step p.Shape
unfolding built
shape a h = λ y m r gs k q z b s. (gs, refl, d.shape (sole r) q.1 q.2 (sole s))

pub basic_type : Step p.BasicType
unfolding built
basic_type a h = λ y b q. (y, refl, (q.0, d.base q.1))

pub named_type : Step p.NamedType
unfolding built
named_type a h = λ y b q. ((y.place, Named (name_in (tok y))), refl, (q.0, d.AType.named (d.NamedType.name q.1)))

pub struct_type : Step p.StructType
unfolding built
struct_type a h = λ y m r z b t. ((y.place, z.1), refl, (place_of r, t a (word_of r)))

pub nameless_shape : Step p.NamelessShape
unfolding built
nameless_shape a h = λ gs b c. ((nowhere, efl.Shape None gs), refl, λ g w. d.shaped (d.nameless w c))

pub struct_type_name : Step p.StructTypeName
unfolding built
struct_type_name a h = λ y m q v b t. ((y.place, type_named (name_in (tok y)) (groups_part v)), refl, λ g w. t g a (name_in (tok y)) w q.1)

pub some_shape : Step p.SomeShape
unfolding built
some_shape a h = λ gs b c. (val.groups gs, refl, λ g h x w q. d.shaped (d.structured w q c))

pub no_shape : Step p.NoShape
unfolding built
no_shape a h = (nothing, refl, λ g h x w q. d.AType.named (d.NamedType.struct w q))

pub plain_type_word : Step p.PlainType
unfolding built
plain_type_word a h = λ y b r. ((y.place, plain_type (tok y) false), refl, (place_of r, a_plain (choice r)))

pub floating_type_word : Step p.FloatingType
unfolding built
floating_type_word a h = λ y b r. ((y.place, plain_type (tok y) false), refl, (place_of r, a_floating (choice r)))

pub long_type : Step p.LongType
unfolding built
long_type a h = λ y m r z b s. ((y.place, plain_type (tok z) true), refl, (place_of r, a_long (word_of r) (choice s)))

pub number_constant : Step p.NumberConstant
unfolding built
number_constant a h = λ y b r. (constants.Int (integer_in (tok y)), refl, d.Const.whole (Whole.number (taken.number r)))

pub other_constant : Step p.OtherConstant
unfolding built
other_constant a h = λ c b q. (c, refl, q)

pub signed_constant : Step p.SignedConstant
unfolding built
signed_constant a h = λ y m r z b c. (constants.Int (signed (tok y) (integer_in (tok z))), refl, d.Const.whole (signed_whole r (taken.number c)))

pub truth_constant : Step p.TruthConstant
unfolding built
truth_constant a h = λ y b r. (constants.Truth (is_true (tok y)), refl, a_truth (choice r))

pub number_many : Step p.NumberMany
unfolding built
number_many a h = λ y m r v b t. (counted (tok y) (constant_part v), refl, t a y r)

pub other_many : Step p.OtherMany
unfolding built
other_many a h = λ c b q. ((1, c), refl, d.once q)

pub repeated : Step p.Repeated
unfolding built
repeated a h = λ y m r c b q. (val.constant c, refl, λ g z k. d.repeated (Natural.natural (taken.number k)) (sole r) q)

pub once : Step p.Once
unfolding built
once a h = (nothing, refl, λ g z k. d.once (d.Const.whole (Whole.number (taken.number k))))

pub more_many : Step p.MoreMany
unfolding built
more_many a h = λ y m r x k c xs b t. (x ∷ xs, refl, λ g z q. Listed.comma q (sole r) (t m x c))

pub no_more_many : Step p.NoMoreMany
unfolding built
no_more_many a h = ([], refl, λ g z q. Listed.last q)

pub one_value : Step p.OneValue
unfolding built
one_value a h = λ c b q. ((false, (1, c) ∷ []), refl, λ g m s k w. d.Preset.one k w q)

pub listed_values : Step p.ListedValues
unfolding built
listed_values a h = λ y m r x k c xs j t z b s. ((true, x ∷ xs), refl, λ g i v q w. d.Preset.several q w (sole r) (t m x c) (sole s))

pub preset : Step p.Preset
unfolding built
preset a h = λ s m c y k r v b t. (record { place = s; values = v.1; listed = v.0 }, refl, t a m s c (sole r))

pub more_preset : Step p.MorePreset
unfolding built
more_preset a h = λ y m r x k c xs b t. (x ∷ xs, refl, λ g z q. Listed.comma q (sole r) (t m x c))

pub no_more_preset : Step p.NoMorePreset
unfolding built
no_more_preset a h = ([], refl, λ g z q. Listed.last q)

pub range : Step p.Range
unfolding built
range a h = λ y m q v b t. (letters (letter_in (tok y)) (letter_part v), refl, t a (letter_in (tok y)) q.1.letter)

pub some_end : Step p.SomeEnd
unfolding built
some_end a h = λ y m r z b q. (tok z, refl, λ g x k. d.Range.both k (sole r) q.1.letter)

pub no_end : Step p.NoEnd
unfolding built
no_end a h = (nothing, refl, λ g x k. d.Range.one k)

pub more_range : Step p.MoreRange
unfolding built
more_range a h = λ y m r x k c xs b t. (x ∷ xs, refl, λ g z q. Listed.comma q (sole r) (t m x c))

pub no_more_range : Step p.NoMoreRange
unfolding built
no_more_range a h = ([], refl, λ g z q. Listed.last q)

pub base_declaration : Step p.BaseDeclaration
unfolding built
base_declaration a h = λ y m q vs k c v b st. ((y.0, Variables None y.1 vs), refl, (q.0, d.variables (d.base q.1) c st))

pub struct_declaration : Step p.StructDeclaration
unfolding built
struct_declaration a h = λ y m r k b t. ((y.place, k), refl, (place_of r, t a (word_of r)))

pub initial_declaration : Step p.InitialDeclaration
unfolding built
initial_declaration a h = λ y m r x k c xs j t v b st. ((y.place, Initial (x ∷ xs)), refl, (place_of r, d.initial (word_of r) (t m x c) st))

pub shape_variables : Step p.ShapeVariables
unfolding built
shape_variables a h = λ gs m c vs k q v b st. (Variables None (efl.Shape None gs) vs, refl, λ g w. d.variables (d.shaped (d.nameless w c)) q st)

pub struct_named : Step p.StructNamed
unfolding built
struct_named a h = λ y m q o b t. (outlined (name_in (tok y)) o.0 o.1, refl, λ g w. t g a (name_in (tok y)) w q.1)

pub struct_variables : Step p.StructVariables
unfolding built
struct_variables a h = λ vs m c v b st. ((None, vs), refl, λ g h x w q. d.variables (d.AType.named (d.NamedType.struct w q)) c st)

pub struct_shape : Step p.StructShape
unfolding built
struct_shape a h = λ gs m c vs b t. ((Some gs, vs), refl, λ g h x w q. t g h a x gs w q c)

pub shape_and_variables : Step p.ShapeAndVariables
unfolding built
shape_and_variables a h = λ vs m c v b st. (vs, refl, λ g h k x gs w q r. shaped_variables w q r c st)

pub shape_alone : Step p.ShapeAlone
unfolding built
shape_alone a h = λ v b st. ([], refl, λ g h k x gs w q r. d.structure w q r st)

pub common_group : Step p.CommonGroup
unfolding built
common_group a h = λ y b q. (val.group y.0 y.1 y.2, refl, λ g x c. d.OuterDeclaration.common c q.2 q.3 q.4)

pub common_list : Step p.CommonList
unfolding built
common_list a h = λ y m r gs k q z j s v b st. (val.groups gs, refl, λ g x c. d.common_list c (sole r) q.1 q.2 (sole s) st)

pub implicit_base : Step p.ImplicitBase
unfolding built
implicit_base a h = λ y m q v b st. (y, refl, λ g rs c. d.OuterDeclaration.implicit c (d.base q.1) st)

pub implicit_name : Step p.ImplicitName
unfolding built
implicit_name a h = λ y m q v b st. ((y.place, Named (name_in (tok y))), refl, λ g rs c. d.OuterDeclaration.implicit c (d.AType.named (d.NamedType.name q.1)) st)

pub implicit_struct : Step p.ImplicitStruct
unfolding built
implicit_struct a h = λ y m r z b t. ((y.place, z.1), refl, λ g rs c. t g a rs c (word_of r))

pub implicit_shape : Step p.ImplicitShape
unfolding built
implicit_shape a h = λ gs m c v b st. ((nowhere, efl.Shape None gs), refl, λ g h rs q w. d.implicit_shape q (d.nameless w c) st)

pub implicit_struct_name : Step p.ImplicitStructName
unfolding built
implicit_struct_name a h = λ y m q v b t. ((y.place, type_named (name_in (tok y)) (groups_part v)), refl, λ g h rs c w. t g h a rs (name_in (tok y)) c w q.1)

pub implicit_named_shape : Step p.ImplicitNamedShape
unfolding built
implicit_named_shape a h = λ gs m c v b st. (val.groups gs, refl, λ g h k rs x q w z. d.implicit_shape q (d.structured w z c) st)

pub implicit_bare : Step p.ImplicitBare
unfolding built
implicit_bare a h = λ v b st. (nothing, refl, λ g h k rs x q w z. d.OuterDeclaration.implicit q (d.AType.named (d.NamedType.struct w z)) st)
