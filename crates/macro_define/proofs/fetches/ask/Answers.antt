-- The library is asked for each name but the empty one.
use Rattle.std.proofs.Common.{◌≡◌, subst, rules, ◌==◌, false, true, length, ◌∷◌, List, ℕ, []}
use Rattle.std.specs.Prelude.{IfSome}
use Rattle.ports.specs.Held.{fetched}
use Rattle.macro_define.proofs.ThroughLemmas.{through-empty, through-failed, through-fetch, through-no_name}
use Rattle.macro_define.proofs.fetches.ask.Goals as goal

pub returns-then-is_empty-clause-text : goal.returns-then-is_empty-clause-text
returns-then-is_empty-clause-text g c =
    let empty : (length c.args.name.now == 0) ≡ true = search rules in
    through-empty (g.L.Library.files c.args.library.now) (λ names. g.L.Library.fetches c.args.library.now names c.args.library.now) c.args.name.now (g.met.L.Library.nothing c.args.library.now) empty

pub returns-in-Ok-fetch-clause-text : goal.returns-in-Ok-fetch-clause-text
returns-in-Ok-fetch-clause-text g c =
    let text = c.in-Ok.ensures.cases in
    let name = c.args.name.now in
    let got = c.in-Ok-fetch.got in
    let files = g.L.Library.files c.args.library.now in
    let F : List (List ℕ) → Type 0 = λ names. g.L.Library.fetches c.args.library.now names c.fetch.new.self in
    let long : (length name == 0) ≡ false = search rules in
    let told : IfSome files (λ held. fetched got ≡ held name) = subst (λ n. IfSome files (λ held. fetched got ≡ held n)) text.0 c.in-Ok-fetch.ensures.bytes in
    let one : F (name ∷ []) = subst (λ n. F (n ∷ [])) text.0 c.fetch.ensures.fetched in
    through-fetch files F name got one text.1 long told

pub returns-in-Err-Failed-clause-text : goal.returns-in-Err-Failed-clause-text
returns-in-Err-Failed-clause-text g c = through-failed (g.L.Library.files c.args.library.now) (λ names. g.L.Library.fetches c.args.library.now names c.fetch.new.self) _ c.in-Ok.name.now c.fetch.ensures.fetched (λ a b. Prim.tt)

pub returns-in-Err-Memory-clause-text : goal.returns-in-Err-Memory-clause-text
returns-in-Err-Memory-clause-text g c = through-failed (g.L.Library.files c.args.library.now) (λ names. g.L.Library.fetches c.args.library.now names c.fetch.new.self) _ c.in-Ok.name.now c.fetch.ensures.fetched (λ a b. Prim.tt)

pub returns-in-Err-clause-text : goal.returns-in-Err-clause-text
returns-in-Err-clause-text g c = through-no_name (g.L.Library.files c.args.library.now) (λ names. g.L.Library.fetches c.args.library.now names c.args.library.now) c.args.name.now (g.met.L.Library.nothing c.args.library.now) c.in-Err.ensures.cases.0
