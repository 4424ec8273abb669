-- The first procedures of areas, as declarations and procedures come.
use Rattle.std.proofs.Common.{◌≡◌, ◌<◌, ℕ, ◌+◌, Bool, true, false, ◌||◌, List, [], ◌∷◌, ◌++◌, map, take, length, Option, Some, None, cond, refl, sym, ap, ◌∙◌, arith}
use Rattle.std.proofs.lemmas.Grind.{common_steps}
use Rattle.std.specs.List.{list_any}
use Rattle.std.specs.Map.{update}
use Rattle.std.specs.Option.{option_or, option_map}
use Rattle.std.specs.Str.{bytes_eq}
use Rattle.std.proofs.lemmas.Slice.Eq.{bytes_eq-Decides}
use Rattle.rule_table.specs.Words.{first_place}
use Rattle.efl_tree.specs.declared.procedure.EflProcedure as memory
use Rattle.efl_tree.specs.Syntax.{Text, EflDecl, EflProcedure}
use Rattle.efl_tree.specs.Views.{procedure_of}
use Rattle.efl_scope.specs.ScopeRules.{is_of, has_area}
use Rattle.efl_scope.proofs.TableLemmas.{bytes_eq-turned}
use Rattle.efl_storage.specs.declared.firsts.Firsts.{Firsts}
use Rattle.efl_storage.specs.Firsts.{first_in, first_if, AreFirsts}

pub first_passed : (o : Option ℕ) (n : ℕ) (a b : Bool) → option_or (option_or o (first_if a n)) (first_if b n) ≡ option_or o (first_if (a || b) n)
first_passed (Some m) n a b = refl
first_passed None n true b = refl
first_passed None n false b = refl

-- a procedure that has these declarations comes
abbrev pub Notes : Firsts → ℕ → List EflDecl → Firsts → Type 0
Notes old n ds new = (q : Text) → first_in new q ≡ option_or (first_in old q) (first_if (list_any (λ d. is_of q d.kind) ds) n)

place_more : {X : Type 0} (test : X → Bool) (xs : List X) (x : X) → first_place test (xs ++ x ∷ []) ≡ option_or (first_place test xs) (first_if (test x) (length xs))
place_more test [] x = each (test x)
  where
    each : (b : Bool) → cond b (Some 0) (option_map (λ n. n + 1) None) ≡ first_if b 0
    each true = refl
    each false = refl
place_more test (y ∷ ys) x = each (test y) (first_place test ys) (test x) (place_more test ys x)
  where
    each : (b : Bool) (o : Option ℕ) (c : Bool) → first_place test (ys ++ x ∷ []) ≡ option_or o (first_if c (length ys)) →
        cond b (Some 0) (option_map (λ n. n + 1) (first_place test (ys ++ x ∷ []))) ≡ option_or (cond b (Some 0) (option_map (λ n. n + 1) o)) (first_if c (length (y ∷ ys)))
    each true o c rest = refl
    each false (Some m) c rest = ap (option_map (λ n. n + 1)) rest
    each false None true rest = ap (option_map (λ n. n + 1)) rest ∙ ap (λ m. Some m) (let e : length ys + 1 ≡ length (y ∷ ys) = grind arith in e)
    each false None false rest = ap (option_map (λ n. n + 1)) rest

pub firsts_more : (us : List EflProcedure) (u : EflProcedure) (n : ℕ) (old new : Firsts) → AreFirsts us old → length us ≡ n → Notes old n u.declarations new → AreFirsts (us ++ u ∷ []) new
firsts_more us u n old new are long notes q =
    notes q ∙ ap (λ o. option_or o (first_if (has_area q u) n)) (are q) ∙ ap (λ m. option_or (first_place (has_area q) us) (first_if (has_area q u) m)) (sym long) ∙ sym (place_more (has_area q) us u)

pub taken_length : (list : List memory.EflProcedure) (i : ℕ) → i < length list → length (map procedure_of (take i list)) ≡ i
taken_length list i lt = grind (arith, common_steps)

-- an area comes that had no procedure
pub area_comes : (old new : Text → Option ℕ) (a : Text) (n : ℕ) → None ≡ old a → ((q : Text) → new q ≡ update bytes_eq old a (Some n) q) → (q : Text) → new q ≡ option_or (old q) (first_if (bytes_eq q a) n)
area_comes old new a n none is q = is q ∙ each (bytes_eq a q) (old q) absent ∙ ap (λ b. option_or (old q) (first_if b n)) (bytes_eq-turned a q)
  where
    absent : bytes_eq a q ≡ true → old q ≡ None
    absent same = ap old ((bytes_eq-Decides q a).0 (sym (bytes_eq-turned a q) ∙ same)) ∙ sym none

    or_none : (o : Option ℕ) → option_or o None ≡ o
    or_none None = refl
    or_none (Some x) = refl

    each : (b : Bool) (o : Option ℕ) → (b ≡ true → o ≡ None) → cond b (Some n) o ≡ option_or o (first_if b n)
    each true o missing = sym (ap (λ p. option_or p (Some n)) (missing refl))
    each false o missing = sym (or_none o)
