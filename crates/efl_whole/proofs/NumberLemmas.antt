-- What comes into tables: a structure among roles, a procedure's number, a range of letters.
use Rattle.std.proofs.Common.{◌≡◌, ◌<◌, ◌+◌, ◌∙◌, ◌∷◌, ◌++◌, [], ℕ, Bool, true, false, cond, List, length, map, take, get_or, Option, None, Some, refl, sym, ap, arith}
use Rattle.std.specs.Prelude.{if◌then◌else◌}
use Rattle.std.specs.Option.{option_or}
use Rattle.std.specs.Str.{bytes_eq}
use Rattle.std.proofs.lemmas.List.{length-map, map-append, take_more, length-take-le}
use Rattle.rule_table.specs.Words.{is_some_and}
use Rattle.rule_table.proofs.WordLemmas.{first_place-push}
use Rattle.efl_tree.specs.declared.procedure.EflProcedure as memory
use Rattle.efl_tree.specs.Syntax.{Text, EflProcedure}
use Rattle.efl_tree.specs.Views.{procedure_of}
use Rattle.efl_scope.proofs.TableLemmas.{IsNoted, bytes_eq-turned}
use Rattle.efl_types.specs.Whole.{number_of}
use Rattle.efl_whole.specs.declared.roles.Role.{Role}
use Rattle.efl_whole.specs.declared.roles.Role.TheVariants.{Structure, Single}
use Rattle.efl_whole.specs.declared.listing.LetterRange.{LetterRange}
use Rattle.efl_whole.specs.Roles.{Roles, with_structure, with_letter}
use Rattle.efl_whole.specs.RoleViews.{is_within, letter_from}

-- ---- roles ----

pub structure_noted : (f g : Roles) (x : Text) → IsNoted f g x Structure → g ≡ with_structure x f
structure_noted f g x is i y = each i
  where
    by : (b : Bool) (o : Option Role) → cond b (Some Structure) o ≡ (if b then Some Structure else o)
    by true o = refl
    by false o = refl

    each : g y ≡ (if bytes_eq y x then Some Structure else f y)
    each = is y ∙ by (bytes_eq x y) (f y) ∙ ap (λ b. if b then Some Structure else f y) (bytes_eq-turned x y)

-- ---- letters ----

letter_from-append : (xs ys : List LetterRange) (r : Role) (c : ℕ) → letter_from (xs ++ ys) r c ≡ letter_from ys (letter_from xs r c) c
letter_from-append [] ys r c = refl
letter_from-append (x ∷ xs) ys r c = letter_from-append xs ys (if is_within x c then x.role else r) c

pub range_pushed : (xs : List LetterRange) (x : LetterRange) → (λ c. letter_from (xs ++ x ∷ []) Single c) ≡ with_letter x.role (x.first, x.last) (λ c. letter_from xs Single c)
range_pushed xs x i c = letter_from-append xs (x ∷ []) Single c i

-- ---- numbers ----

pub numbered_push : (x : Text) (us : List EflProcedure) (u : EflProcedure) → number_of (us ++ u ∷ []) x ≡ option_or (number_of us x) (if is_some_and (bytes_eq x) u.name then Some (length us) else None)
numbered_push x us u = first_place-push (λ v. is_some_and (bytes_eq x) v.name) us u ∙ ap (option_or (number_of us x)) (by (is_some_and (bytes_eq x) u.name))
  where
    by : (b : Bool) → cond b (Some (length us)) None ≡ (if b then Some (length us) else None)
    by true = refl
    by false = refl

pub numbered_more : (x : Text) (us : List memory.EflProcedure) (i : ℕ) (u : memory.EflProcedure) → i < length us → u ≡ get_or us i u →
    number_of (map procedure_of (take (i + 1) us)) x
    ≡ option_or (number_of (map procedure_of (take i us)) x) (if is_some_and (bytes_eq x) (procedure_of u).name then Some i else None)
numbered_more x us i u lt is =
    let before = map procedure_of (take i us) in
    ap (λ vs. number_of (map procedure_of vs) x) (take_more us i u lt ∙ ap (λ v. take i us ++ v ∷ []) (sym is))
    ∙ ap (λ vs. number_of vs x) (map-append procedure_of (take i us) (u ∷ [])) ∙ numbered_push x before (procedure_of u)
    ∙ ap (λ n. option_or (number_of before x) (if is_some_and (bytes_eq x) (procedure_of u).name then Some n else None)) (length-map (take i us) procedure_of ∙ length-take-le i us (omega (arith, lt)))
