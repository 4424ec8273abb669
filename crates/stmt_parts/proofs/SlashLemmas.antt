-- What stands between slashes.
use Rattle.std.proofs.Common.{◌≡◌, ℕ, ◌+◌, ◌-◌, ◌<◌, ◌≤◌, Bool, true, false, take, drop, get_or, List, [], ◌∷◌, Option, Some, None, length, refl, sym, ap, ◌∙◌, arith}
use Rattle.std.proofs.lemmas.Bool.{false≢true}
use Rattle.std.proofs.lemmas.List.{take_all}
use Rattle.f66_tree.specs.Syntax.{Area, PresetPart}
use Rattle.f66_tree.specs.declared.expression.Operator.TheVariants.{Add, Sub, Mul, Div, Power, Lt, Le, Eq, Ne, Ge, Gt, And, Or}
use Rattle.stmt_reader.specs.declared.token.Token.{Token}
use Rattle.stmt_reader.specs.declared.token.Token.TheVariants as t
use Rattle.stmt_reader.specs.Cutting.{Halves, cut, is_comma}
use Rattle.stmt_reader.specs.Declarations.{area_of, areas_of, commons_in, preset_of, presets_in}
use Rattle.stmt_reader.specs.Splitting.{Pieces, is_slash, split, with_first}
use Rattle.stmt_reader.proofs.ListReads.{split_cut, from_cut}
use Rattle.stmt_parts.specs.Lists.{all_pieces, onto, presets_by, with_last}
use Rattle.stmt_parts.proofs.ListLemmas.{from_place, onto_last, onto_more, then_onto}

-- no slash, and the first slash
pub one_piece : (tokens : List Token) → None ≡ cut is_slash 0 tokens → split is_slash 0 tokens ≡ (tokens, [])
one_piece tokens is = split_cut is_slash tokens 0 ∙ ap (from_cut is_slash tokens) (sym is)

pub first_piece : (tokens : List Token) (h : Halves) → Some h ≡ cut is_slash 0 tokens → split is_slash 0 tokens ≡ (h.0, all_pieces (split is_slash 0 h.1))
first_piece tokens h is = split_cut is_slash tokens 0 ∙ ap (from_cut is_slash tokens) (sym is)

pub first_from : (tokens : List Token) (at : ℕ) → Some (take at tokens, drop (at + 1) tokens) ≡ cut is_slash 0 tokens → split is_slash 0 tokens ≡ (take at tokens, all_pieces (split is_slash 0 (take (length tokens - (at + 1)) (drop (at + 1) tokens))))
first_from tokens at is = first_piece tokens (take at tokens, drop (at + 1) tokens) is ∙ ap (λ (rest : List Token). (take at tokens, all_pieces (split is_slash 0 rest))) (sym (from_place (at + 1) tokens))

-- ---- COMMON ----

pub blank_first : (list : List Token) → 0 < length list → with_last [] (area_of [] list) ≡ commons_in (list, [])
blank_first [] some = absurd (omega arith)
blank_first (token ∷ list) some = onto_blank (area_of [] (token ∷ list))
  where
    onto_blank : (a : Option Area) → with_last [] a ≡ with_first a (Some [])
    onto_blank None = refl
    onto_blank (Some a) = refl

pub blank_more : (list : List Token) (name : List Token) (more : List (List Token)) → 0 < length list → then_onto (with_last [] (area_of [] list)) (areas_of (name ∷ more)) ≡ commons_in (list, name ∷ more)
blank_more [] name more some = absurd (omega arith)
blank_more (token ∷ list) name more some = onto_more [] (area_of [] (token ∷ list)) (areas_of (name ∷ more)) ∙ start (with_first (area_of [] (token ∷ list)) (areas_of (name ∷ more)))
  where
    start : (rest : Option (List Area)) → onto [] rest ≡ rest
    start None = refl
    start (Some all) = refl

pub blocks_alone : (list : List Token) (name : List Token) (more : List (List Token)) → length list ≡ 0 → areas_of (name ∷ more) ≡ commons_in (list, name ∷ more)
blocks_alone [] name more none = refl
blocks_alone (token ∷ list) name more none = absurd (omega (arith, none))

-- ---- DATA ----

-- nothing stands behind the last slash
pub data_last : (before : List PresetPart) (places values behind : List Token) → length behind ≡ 0 → with_last before (preset_of places values) ≡ onto before (presets_in places (values ∷ all_pieces (split is_slash 0 behind)))
data_last before places values [] none = onto_last before (preset_of places values)
data_last before places values (token ∷ behind) none = absurd (omega (arith, none))

-- nothing but a comma may stand there
data_wrong : (places values behind : List Token) (token : Token) → (token ≡ t.Comma → ⊥) → None ≡ presets_in places (values ∷ all_pieces (split is_slash 0 (token ∷ behind)))
data_wrong places values behind t.Comma other = absurd (other refl)
data_wrong places values behind (t.Word x) other = refl
data_wrong places values behind (t.Number n) other = refl
data_wrong places values behind (t.Chars x) other = refl
data_wrong places values behind (t.Truth b) other = refl
data_wrong places values behind t.Not other = refl
data_wrong places values behind (t.Joint Add) other = refl
data_wrong places values behind (t.Joint Sub) other = refl
data_wrong places values behind (t.Joint Mul) other = refl
data_wrong places values behind (t.Joint Div) other = refl
data_wrong places values behind (t.Joint Power) other = refl
data_wrong places values behind (t.Joint Lt) other = refl
data_wrong places values behind (t.Joint Le) other = refl
data_wrong places values behind (t.Joint Eq) other = refl
data_wrong places values behind (t.Joint Ne) other = refl
data_wrong places values behind (t.Joint Ge) other = refl
data_wrong places values behind (t.Joint Gt) other = refl
data_wrong places values behind (t.Joint And) other = refl
data_wrong places values behind (t.Joint Or) other = refl
data_wrong places values behind t.Open other = refl
data_wrong places values behind t.Close other = refl
data_wrong places values behind t.Equals other = refl
data_wrong places values behind t.Strange other = refl

-- another part stands behind a comma
pub data_more : (before : List PresetPart) (places values behind : List Token) (token : Token) → token ≡ get_or behind 0 token → 1 ≤ length behind → is_comma token ≡ true
    → then_onto (with_last before (preset_of places values)) (presets_by (split is_slash 0 (take (length behind - 1) (drop 1 behind)))) ≡ onto before (presets_in places (values ∷ all_pieces (split is_slash 0 behind)))
data_more before places values [] token is some comma = absurd (omega (arith, some))
data_more before places values (t.Comma ∷ xs) token is some comma =
    let all : take (length (t.Comma ∷ xs) - 1) xs ≡ xs = take_all (length (t.Comma ∷ xs) - 1) xs (omega arith) in
    ap (λ (ys : List Token). then_onto (with_last before (preset_of places values)) (presets_by (split is_slash 0 ys))) all ∙ onto_more before (preset_of places values) (presets_by (split is_slash 0 xs))
data_more before places values ((t.Word y) ∷ xs) token is some comma = absurd (false≢true (ap is_comma (sym is) ∙ comma))
data_more before places values ((t.Number n) ∷ xs) token is some comma = absurd (false≢true (ap is_comma (sym is) ∙ comma))
data_more before places values ((t.Chars y) ∷ xs) token is some comma = absurd (false≢true (ap is_comma (sym is) ∙ comma))
data_more before places values ((t.Truth b) ∷ xs) token is some comma = absurd (false≢true (ap is_comma (sym is) ∙ comma))
data_more before places values (t.Not ∷ xs) token is some comma = absurd (false≢true (ap is_comma (sym is) ∙ comma))
data_more before places values ((t.Joint Add) ∷ xs) token is some comma = absurd (false≢true (ap is_comma (sym is) ∙ comma))
data_more before places values ((t.Joint Sub) ∷ xs) token is some comma = absurd (false≢true (ap is_comma (sym is) ∙ comma))
data_more before places values ((t.Joint Mul) ∷ xs) token is some comma = absurd (false≢true (ap is_comma (sym is) ∙ comma))
data_more before places values ((t.Joint Div) ∷ xs) token is some comma = absurd (false≢true (ap is_comma (sym is) ∙ comma))
data_more before places values ((t.Joint Power) ∷ xs) token is some comma = absurd (false≢true (ap is_comma (sym is) ∙ comma))
data_more before places values ((t.Joint Lt) ∷ xs) token is some comma = absurd (false≢true (ap is_comma (sym is) ∙ comma))
data_more before places values ((t.Joint Le) ∷ xs) token is some comma = absurd (false≢true (ap is_comma (sym is) ∙ comma))
data_more before places values ((t.Joint Eq) ∷ xs) token is some comma = absurd (false≢true (ap is_comma (sym is) ∙ comma))
data_more before places values ((t.Joint Ne) ∷ xs) token is some comma = absurd (false≢true (ap is_comma (sym is) ∙ comma))
data_more before places values ((t.Joint Ge) ∷ xs) token is some comma = absurd (false≢true (ap is_comma (sym is) ∙ comma))
data_more before places values ((t.Joint Gt) ∷ xs) token is some comma = absurd (false≢true (ap is_comma (sym is) ∙ comma))
data_more before places values ((t.Joint And) ∷ xs) token is some comma = absurd (false≢true (ap is_comma (sym is) ∙ comma))
data_more before places values ((t.Joint Or) ∷ xs) token is some comma = absurd (false≢true (ap is_comma (sym is) ∙ comma))
data_more before places values (t.Open ∷ xs) token is some comma = absurd (false≢true (ap is_comma (sym is) ∙ comma))
data_more before places values (t.Close ∷ xs) token is some comma = absurd (false≢true (ap is_comma (sym is) ∙ comma))
data_more before places values (t.Equals ∷ xs) token is some comma = absurd (false≢true (ap is_comma (sym is) ∙ comma))
data_more before places values (t.Strange ∷ xs) token is some comma = absurd (false≢true (ap is_comma (sym is) ∙ comma))

not_comma : (token : Token) → is_comma token ≡ false → token ≡ t.Comma → ⊥
not_comma token other is = absurd (false≢true (sym other ∙ ap is_comma is))

pub data_other : (before : List PresetPart) (places values behind : List Token) (token : Token) → token ≡ get_or behind 0 token → 1 ≤ length behind → is_comma token ≡ false → None ≡ onto before (presets_in places (values ∷ all_pieces (split is_slash 0 behind)))
data_other before places values [] token is some other = absurd (omega (arith, some))
data_other before places values (x ∷ xs) token is some other = ap (onto before) (data_wrong places values xs x (not_comma x (ap is_comma (sym is) ∙ other)))
