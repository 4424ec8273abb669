-- The names that one statement more declares.
use Rattle.std.proofs.Common.{◌≡◌, ◌<◌, ◌+◌, ◌||◌, ◌&&◌, ◌∙◌, ◌∷◌, ◌++◌, [], ℕ, Bool, true, false, List, length, map, take, get_or, ap, sym, refl}
use Rattle.std.proofs.lemmas.List.{map-append, take_more}
use Rattle.std.specs.List.{list_any}
use Rattle.std.specs.Str.{bytes_eq}
use Rattle.rule_table.proofs.WordLemmas.{list_any-push}
use Rattle.f66_tree.specs.declared.declaration.Declared.{Declared}
use Rattle.f66_tree.specs.declared.statement.Stmt.{Stmt}
use Rattle.f66_tree.specs.Syntax.{Text, Act, Typed, Dimension}
use Rattle.f66_tree.specs.Views.{act_of, declared_of, line_of}
use Rattle.f66_program.specs.Mentions.{declares}
use Rattle.storage_assoc.specs.Placing.{declared_in}

declares_in : (q : Text) (a : Act) → declares q a ≡ list_any (λ d. bytes_eq q d.name) (declared_in a)
declares_in q (Typed t ds) = refl
declares_in q (Dimension ds) = refl
declares_in q _ = refl

or_more : (old nd u a b : Bool) → ((old || (nd && (u && a))) || (nd && (u && b))) ≡ (old || (nd && (u && (a || b))))
or_more true nd u a b = refl
or_more false true true a b = refl
or_more false true false a b = refl
or_more false false u a b = refl

any_more : {X Y : Type 0} (test : Y → Bool) (f : X → Y) (xs : List X) (i : ℕ) (x : X) → i < length xs → x ≡ get_or xs i x →
    list_any test (map f (take (i + 1) xs)) ≡ (list_any test (map f (take i xs)) || test (f x))
any_more test f xs i x below is =
    ap (λ ys. list_any test (map f ys)) (take_more xs i x below ∙ ap (λ y. take i xs ++ y ∷ []) (sym is))
    ∙ ap (list_any test) (map-append f (take i xs) (x ∷ [])) ∙ list_any-push test (map f (take i xs)) (f x)

pub declared_more : (q : Text) (new mid old nd u : Bool) (all : List Stmt) (i : ℕ) (s : Stmt) (ds : List Declared) → i < length all → s ≡ get_or all i s →
    map declared_of ds ≡ declared_in (act_of s.kind) → new ≡ (mid || (nd && (u && list_any (λ d. bytes_eq q d.name) (map declared_of ds)))) →
    mid ≡ (old || (nd && (u && list_any (λ s. declares q s.act) (map line_of (take i all))))) →
    new ≡ (old || (nd && (u && list_any (λ s. declares q s.act) (map line_of (take (i + 1) all)))))
declared_more q new mid old nd u all i s ds below is list last before =
    let a = list_any (λ s. declares q s.act) (map line_of (take i all)) in
    last ∙ ap (λ m. m || (nd && (u && list_any (λ d. bytes_eq q d.name) (map declared_of ds)))) before
    ∙ ap (λ b. (old || (nd && (u && a))) || (nd && (u && b))) (ap (list_any (λ d. bytes_eq q d.name)) list ∙ sym (declares_in q (act_of s.kind)))
    ∙ or_more old nd u a (declares q (act_of s.kind))
    ∙ ap (λ b. old || (nd && (u && b))) (sym (any_more (λ s. declares q s.act) line_of all i s below is))
