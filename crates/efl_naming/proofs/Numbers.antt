-- The labels of a procedure have numbers of their own, which are none of those that are made.
use Rattle.std.proofs.Common.{◌≡◌, ℕ, zero, suc, ◌+◌, ◌-◌, ◌≤◌, ◌<◌, Bool, true, false, List, [], ◌∷◌, ◌++◌, length, Option, None, Some, refl, sym, ap, ◌∙◌, arith, if◌then◌else◌}
use Rattle.std.specs.Prelude.{nat_eq, option_map, unwrap_or}
use Rattle.std.specs.List.{list_any, slice_get}
use Rattle.std.specs.Str.{bytes_eq}
use Rattle.std.proofs.lemmas.Bool.{eqb-true}
use Rattle.std.proofs.lemmas.Option.{none-some, same_Some}
use Rattle.rule_table.specs.Words.{first_place}
use Rattle.f66_tree.specs.Syntax.{Text}
use Rattle.efl_tree.specs.Syntax.{EflProcedure, EflProgram}
use Rattle.efl_scope.specs.Parts.{Part, around_unit, header_type_groups, declarations_in, parts_in, program_parts}
use Rattle.efl_scope.specs.FirstFault.{first_fault}
use Rattle.efl_typed.specs.Typing.{body_if, body_around, context_of, bodies_of}
use Rattle.efl_typed.proofs.Each.{Each, each_right}
use Rattle.routes.specs.Numbered.{IsNumbered, bit, all_given}
use Rattle.efl_routes.specs.Statements.{all_route}
use Rattle.efl_lowered.specs.Lowering.{routes_of}
use Rattle.efl_lowered.specs.Labels.{all_labels}
use Rattle.efl_lowered.specs.Grammatical.{IsGrammatical, default_constants}
use Rattle.efl_lowered.proofs.Lists.{same_text, text_is}
use Rattle.efl_lowered.proofs.Labels.{each_in, same_all}
use Rattle.efl_lowered.proofs.TypedChecks.{each_at}
use Rattle.efl_lowered.proofs.TypedVariables.{own_parts, placed}
use Rattle.efl_naming.specs.Choice.{naming_of}
use Rattle.efl_naming.proofs.Counts.{in_parts, parts_joined, one_within, nothing_weighs}
use Rattle.efl_naming.proofs.Given.{stmts_given}
use Rattle.efl_naming.proofs.Once.{for_text, label_once}

-- ---- places in a list ----

-- a text's place and one more, and another number for a text that has none
abbrev number_or : ℕ → List Text → Text → ℕ
number_or d ls x = unwrap_or (option_map (λ i. i + 1) (first_place (bytes_eq x) ls)) d

-- one that passes is at this place
abbrev pub IsAt : {X : Type 0} → (X → Bool) → List X → ℕ → Type 0
IsAt {X} test xs i = (x : X) × (slice_get xs i ≡ Some x) × (test x ≡ true)

-- the first that passes is there
pub first_there : {X : Type 0} (test : X → Bool) (xs : List X) (i : ℕ) → first_place test xs ≡ Some i → IsAt test xs i
first_there test [] i e = absurd (none-some i e)
first_there test (y ∷ xs) i e = by_first (test y) refl (λ j f. first_there test xs j f) e
  where
    by_later : (o : Option ℕ) → first_place test xs ≡ o → ((j : ℕ) → first_place test xs ≡ Some j → IsAt test xs j) → option_map (λ k. k + 1) o ≡ Some i → IsAt test (y ∷ xs) i
    by_later None f later g = absurd (none-some i g)
    by_later (Some j) f later g =
        let w = later j f in
        let next : suc j ≡ i = let s = same_Some (j + 1) i g in omega (s, arith) in
        (w.0, ap (slice_get (y ∷ xs)) (sym next) ∙ w.1, w.2)

    by_first : (b : Bool) → test y ≡ b → ((j : ℕ) → first_place test xs ≡ Some j → IsAt test xs j) → (if b then Some 0 else option_map (λ k. k + 1) (first_place test xs)) ≡ Some i → IsAt test (y ∷ xs) i
    by_first true t later g = (y, ap (slice_get (y ∷ xs)) (sym (same_Some 0 i g)), t)
    by_first false t later g = by_later (first_place test xs) refl later g

-- what stands at a place is before the list's end
pub place_below : {X : Type 0} (xs : List X) (i : ℕ) (x : X) → slice_get xs i ≡ Some x → i < length xs
place_below [] i x e = absurd (none-some x e)
place_below (y ∷ xs) zero x e = omega arith
place_below (y ∷ xs) (suc i) x e = let lt = place_below xs i x e in omega (lt, arith)

-- a number that is not the other one is of a text of the list
number_means : (d : ℕ) (ls : List Text) (x : Text) (l : ℕ) → number_or d ls x ≡ l → (d ≡ l → ⊥) → (j : ℕ) × (j + 1 ≡ l) × (slice_get ls j ≡ Some x)
number_means d ls x l e ne = by_place (first_place (bytes_eq x) ls) refl e
  where
    by_place : (o : Option ℕ) → first_place (bytes_eq x) ls ≡ o → unwrap_or (option_map (λ i. i + 1) o) d ≡ l → (j : ℕ) × (j + 1 ≡ l) × (slice_get ls j ≡ Some x)
    by_place None f g = absurd (ne g)
    by_place (Some j) f g = let w = first_there (bytes_eq x) ls j f in (j, g, w.1 ∙ ap Some (sym (text_is x w.0 w.2)))

number_listed : (d c : ℕ) (ls : List Text) (x : Text) → list_any (bytes_eq x) ls ≡ true → number_or d ls x ≡ number_or c ls x
number_listed d c ls x h = let w = placed (bytes_eq x) ls h in ap (λ o. unwrap_or (option_map (λ i. i + 1) o) d) w.2 ∙ sym (ap (λ o. unwrap_or (option_map (λ i. i + 1) o) c) w.2)

pub numbers_apart : (ls : List Text) (x y : Text) → list_any (bytes_eq x) ls ≡ true → list_any (bytes_eq y) ls ≡ true → number_or 0 ls x ≡ number_or 0 ls y → x ≡ y
numbers_apart ls x y h k e =
    let a = placed (bytes_eq x) ls h in
    let b = placed (bytes_eq y) ls k in
    let same : a.0 + 1 ≡ b.0 + 1 = sym (ap (λ o. unwrap_or (option_map (λ i. i + 1) o) 0) a.2) ∙ e ∙ ap (λ o. unwrap_or (option_map (λ i. i + 1) o) 0) b.2 in
    let place : a.0 ≡ b.0 = omega (same, arith) in
    text_is x a.1 a.4 ∙ same_Some a.1 b.1 (sym a.3 ∙ ap (slice_get ls) place ∙ b.3) ∙ sym (text_is y b.1 b.4)

-- ---- the labels of a procedure ----

module _ (p : EflProgram) (scopes : first_fault p ≡ None) (shaped : IsGrammatical p) (n : ℕ) (u : EflProcedure) (here : slice_get p.procedures n ≡ Some u) where
  abbrev ls : List Text
  ls = all_labels (bodies_of p n)

  -- so often a label stands, where all that are not in the text have another number
  abbrev often : ℕ → ℕ → ℕ
  often d l = all_given l (all_route (naming_of p).home (naming_of p).temp (naming_of p).callee (number_or d ls) ((naming_of p).callee n) (bodies_of p n) [] 0)

  often_same : (d l : ℕ) → often 0 l ≡ often d l
  often_same d l =
      ap (all_given l) (same_all (naming_of p).home (naming_of p).temp (naming_of p).callee ((naming_of p).callee n) (number_or 0 ls) (number_or d ls) (bodies_of p n) [] 0 (each_in (λ x. number_or 0 ls x ≡ number_or d ls x) ls (λ x h. number_listed 0 d ls x h)))

  body_within : (w : Text → ℕ) → in_parts w n (parts_in 0 (body_around n u) u.body) ≤ in_parts w n (program_parts p)
  body_within w =
      let a = around_unit n u in
      let front = header_type_groups a u.result ++ declarations_in a [] u.declarations in
      let both = parts_joined w n front (parts_in 0 (body_around n u) u.body) in
      let one = one_within w n n p.procedures u here in
      omega (both, one, arith)

  body_single : Each (λ v. default_constants v.form ≡ []) (parts_in 0 (body_around n u) u.body)
  body_single =
      let P = λ (v : Part). default_constants v.form ≡ [] in
      let own_ones = own_parts P p.procedures n u here (each_at P (program_parts p) shaped.defaults) in
      each_right P (header_type_groups (around_unit n u) u.result ++ declarations_in (around_unit n u) [] u.declarations) (parts_in 0 (body_around n u) u.body) own_ones.1

  weighed : (d l : ℕ) (w : Text → ℕ) → ((x : Text) → bit (nat_eq (number_or d ls x) l) ≤ w x) → often d l ≤ in_parts w n (program_parts p)
  weighed d l w h =
      let N = naming_of p in
      let f = number_or d ls in
      let own_ones = stmts_given N.home N.temp N.callee l f (N.callee n) w h n 0 (context_of p n u) refl u.body body_single [] 0 in
      let same : often d l ≡ all_given l (all_route N.home N.temp N.callee f (N.callee n) (body_if p n (Some u)) [] 0) = ap (λ o. all_given l (all_route N.home N.temp N.callee f (N.callee n) (body_if p n o) [] 0)) here in
      let all = body_within w in
      omega (own_ones, same, all, arith)

  once : (l : ℕ) → often 0 l ≤ 1
  once l =
      let x = unwrap_or (slice_get ls (l - 1)) [] in
      let few = weighed (l + 1) l (for_text x) (λ y. by_number y (nat_eq (number_or (l + 1) ls y) l) refl) in
      let one = label_once x n p scopes in
      let same = often_same (l + 1) l in
      omega (few, one, same, arith)
    where
      by_number : (y : Text) (b : Bool) → nat_eq (number_or (l + 1) ls y) l ≡ b → bit b ≤ for_text (unwrap_or (slice_get ls (l - 1)) []) y
      by_number y false e = omega arith
      by_number y true e =
          let w = number_means (l + 1) ls y l (eqb-true (number_or (l + 1) ls y) l e) (λ g. omega (g, arith)) in
          let place : l - 1 ≡ w.0 = let g = w.1 in omega (g, arith) in
          let text : unwrap_or (slice_get ls (l - 1)) [] ≡ y = ap (λ i. unwrap_or (slice_get ls i) []) place ∙ ap (λ o. unwrap_or o []) w.2 in
          let is : for_text (unwrap_or (slice_get ls (l - 1)) []) y ≡ 1 = ap (λ z. for_text z y) text ∙ ap bit (same_text y) in omega (is, arith)

  unused : (i : ℕ) → often 0 ((naming_of p).made n i) ≡ 0
  unused i =
      let l = length ls + 1 + i in
      let few = weighed (l + 1) l (λ x. 0) (λ y. by_number y (nat_eq (number_or (l + 1) ls y) l) refl) in
      let none = nothing_weighs n (program_parts p) in
      let same = often_same (l + 1) l in
      omega (few, none, same, arith)
    where
      by_number : (y : Text) (b : Bool) → nat_eq (number_or (length ls + 1 + i + 1) ls y) (length ls + 1 + i) ≡ b → bit b ≤ 0
      by_number y false e = omega arith
      by_number y true e =
          let w = number_means (length ls + 1 + i + 1) ls y (length ls + 1 + i) (eqb-true _ _ e) (λ g. omega (g, arith)) in
          let lt = place_below ls w.0 y w.2 in let g = w.1 in absurd (omega (lt, g, arith))

  pub numbered : IsNumbered ((naming_of p).made n) (routes_of (naming_of p) p n)
  numbered = record { rises = λ i j lt. omega (lt, arith); once = once; unused = unused }
