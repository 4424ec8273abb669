-- What productions of Ratfor read.
use Rattle.std.proofs.Common.{◌≡◌, Bool, true, false, List, [], ◌∷◌, Some, refl, sym, ◌∙◌, ap, subst, ◌++◌, append-nil, append_assoc, map}
use Rattle.std.proofs.lemmas.List.{map-append}
use Rattle.std.specs.Prelude.{if◌then◌else◌}
use Rattle.grammar.specs.declared.language.Symbol.{Symbol}
use Rattle.grammar.specs.declared.language.Symbol.TheVariants.{Terminal as terminal_symbol, Nonterminal as nonterminal_symbol}
use Rattle.ground.specs.declared.token.Token.{Token}
use Rattle.f66_tree.specs.declared.expression.Operator.{Operator}
use Rattle.f66_tree.specs.Syntax.{Formula, Pair}
use Rattle.rat_parse_table.specs.declared.table.Terminal.{Terminal}
use Rattle.rat_parse_table.specs.declared.table.Nonterminal.{Nonterminal}
use Rattle.rat_parse_table.specs.declared.table.Production.{Production}
use Rattle.rat_parse_table.specs.Limits.{meter}
use Rattle.rat_parse_table.specs.ParseTable.{predict_at}
use Rattle.rat_parse_table.specs.Ratfor.{certificate}
use Rattle.rat_parse_table.specs.RatforSound.{sound}
use Rattle.rat_parse_values.specs.Values.{Val, tok, formula, joins}
use Rattle.rat_parse_values.specs.Parts.{as_joins, kind_sign, operator_of}
use Rattle.rat_parse_values.specs.Phrases.{joined}
use Rattle.rat_parse.specs.Build.{build}
use Rattle.rat_parse.specs.Ratfor.{grammar}
use Rattle.descent.proofs.ReadingLemmas as descent
use Rattle.descent.specs.Reading.{done, next}
use Rattle.rat_descent.specs.Reading.{Reader, Reads, Parts, Joins, Lengthens, opened, closed}

-- A production's symbols one after another; it counts where it opens and closes.
pub production : (p : Production) {r r' s s' : Reader} {x : Symbol Terminal Nonterminal} {xs : List (Symbol Terminal Nonterminal)} {ws : List Val}
    → grammar.symbols p ≡ x ∷ xs → descent.is_filled grammar certificate meter x ≡ true → r' ≡ opened p r → s' ≡ closed p s → Parts (x ∷ xs) r' [] ws s
    → Reads (nonterminal_symbol (grammar.nonterminal_of p)) r (build p ws) s'
production p {r = r} {r' = r'} {s = s} {s' = s'} {x = x} {xs = xs} {ws = ws} of filled opens closes parts =
    descent.production grammar certificate meter (sound (λ t. tok t) build) p r r' s s' x xs ws of filled opens closes parts

-- A production without symbols, which counts nothing.
pub nothing : (p : Production) {r : Reader} → grammar.symbols p ≡ [] → closed p (opened p r) ≡ r → predict_at (grammar.nonterminal_of p) r.seen ≡ Some p
    → Reads (nonterminal_symbol (grammar.nonterminal_of p)) r (build p []) r
nothing p {r = r} of same predicted =
    subst (λ q. Reads (nonterminal_symbol (grammar.nonterminal_of p)) r (build p []) q) same
    (descent.nothing grammar certificate meter (sound (λ t. tok t) build) p r of predicted)

-- Where a test fails, the other is chosen.
pub otherwise : {A : Type 0} (b : Bool) (x y : A) → b ≡ false → (if b then x else y) ≡ y
otherwise b x y e = ap (λ t. if t then x else y) e

-- The same value, said otherwise.
pub as_value : {x : Symbol Terminal Nonterminal} {r s : Reader} {v w : Val} → v ≡ w → Reads x r v s → Reads x r w s
as_value {x = x} {r = r} {s = s} e reads = subst (λ u. Reads x r u s) e reads

-- No more operators.
pub joins_nothing : (p : Production) {r : Reader} {f : Formula} → grammar.symbols p ≡ [] → closed p (opened p r) ≡ r → build p [] ≡ joins []
    → predict_at (grammar.nonterminal_of p) r.seen ≡ Some p → Joins (grammar.nonterminal_of p) r f f r
joins_nothing p {f = f} of same built predicted =
    record { value = build p []; reads = nothing p of same predicted; is = ap (λ v. joined f (as_joins v)) built }

-- One operator with its operand, and more.
pub joins_more : (p : Production) (k : Terminal) (n : Nonterminal) {r s u w : Reader} {t : Token} {o : Operator} {f g h j : Formula}
    → grammar.symbols p ≡ terminal_symbol k ∷ nonterminal_symbol n ∷ nonterminal_symbol (grammar.nonterminal_of p) ∷ []
    → ((q : Reader) → q ≡ opened p q) → ((q : Reader) → q ≡ closed p q)
    → ((v : Val) → build p (v ∷ formula g ∷ tok t ∷ []) ≡ joins ((operator_of (kind_sign t.kind), g) ∷ as_joins v))
    → Reads (terminal_symbol k) r (tok t) s → Reads (nonterminal_symbol n) s (formula g) u → o ≡ operator_of (kind_sign t.kind) → j ≡ Pair o f g
    → Joins (grammar.nonterminal_of p) u j h w → Joins (grammar.nonterminal_of p) r f h w
joins_more p k n {r = r} {w = w} {t = t} {f = f} {g = g} of opens closes built token right operator is more = record {
  value = build p (more.value ∷ formula g ∷ tok t ∷ []);
  reads = production p of refl (opens r) (closes w) (next token (next right (next more.reads done)));
  is = ap (λ v. joined f (as_joins v)) (built more.value) ∙ (ap (λ e. joined e (as_joins more.value)) (sym (is ∙ ap (λ q. Pair q f g) operator)) ∙ more.is);
}

-- No more items.
pub lengthens_nothing : {A : Type 0} (p : Production) (items : Val → List A) {r : Reader} {all : List A} → grammar.symbols p ≡ [] → closed p (opened p r) ≡ r → items (build p []) ≡ []
    → predict_at (grammar.nonterminal_of p) r.seen ≡ Some p → Lengthens (grammar.nonterminal_of p) items r all all r
lengthens_nothing p items {all = all} of same built predicted =
    record { value = build p []; reads = nothing p of same predicted; is = ap (λ xs. all ++ xs) built ∙ append-nil all }

-- An item behind the others, and more.
pub lengthens_more : {A : Type 0} {i : Nonterminal} (items : Val → List A) (xs : List A) {r u : Reader} {ys all : List A} {v w : Val} {x : A}
    → Reads (nonterminal_symbol i) r w u → items w ≡ x ∷ items v → ys ≡ xs ++ x ∷ [] → ys ++ items v ≡ all → Lengthens i items r xs all u
lengthens_more items xs {v = v} {w = w} {x = x} reads built behind is = record {
  value = w;
  reads = reads;
  is = ap (λ zs. xs ++ zs) built ∙ (sym (append_assoc xs (x ∷ []) (items v)) ∙ (ap (λ zs. zs ++ items v) (sym behind) ∙ is));
}

-- A view of a list with one more item behind.
pub viewed_more : {A B : Type 0} (view : B → A) (list : List B) (item : B) {longer : List B} → longer ≡ list ++ item ∷ [] → map view longer ≡ map view list ++ view item ∷ []
viewed_more view list item e = ap (map view) e ∙ map-append view list (item ∷ [])
