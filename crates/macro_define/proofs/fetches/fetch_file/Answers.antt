-- Why `fetch_file` keeps its clauses.
use Rattle.std.proofs.Common.{subst, Ok, Err, None, Some, ℕ, List}
use Rattle.std.specs.Prelude.{Option, Vec}
use Rattle.std.specs.declared.alloc.Global.{Global}
use Rattle.macro_define.specs.Answers.{Through}
use Rattle.macro_define.specs.Expansion.{fetched_file}
use Rattle.macro_define.specs.Gathered.{Asks, Fetches, world}
use Rattle.macro_define.proofs.ThroughLemmas.{through-map, fetched-counted, fetched-missing}
use Rattle.macro_define.proofs.fetches.fetch_file.Goals as goal

pub returns-in-None-clause-text : goal.returns-in-None-clause-text
returns-in-None-clause-text g c =
    let name = c.args.name.now in
    let old = c.args.gathering.now in
    let files = g.L.Library.files c.args.library.now in
    let F : List (List ℕ) → Type 0 = λ names. g.L.Library.fetches c.args.library.now names c.ask.new.library in
    let told : Through files F (λ before after. Asks name (Ok None) before after) =
    subst (λ (o : Option (Vec ℕ Global)). Through files F (λ before after. Asks name (Ok o) before after)) c.in-None.is c.in_ok-text.ensures.text in
    through-map files F (λ before after. Asks name (Ok None) before after)
    (λ before after. Fetches (fetched_file c.args.place c.args.too_deep c.args.too_long c.args.includer.now name (world old before)) (Err c.fault_in.result) (world old after))
    told
    (fetched-missing c.args.includer.now c.args.place c.args.too_deep c.args.too_long name old old c.new.result c.fault_in.result c.fault_in.ensures c.new.ensures)

pub returns-in-Some-clause-text : goal.returns-in-Some-clause-text
returns-in-Some-clause-text g c =
    let name = c.args.name.now in
    let files = g.L.Library.files c.args.library.now in
    let F : List (List ℕ) → Type 0 = λ names. g.L.Library.fetches c.args.library.now names c.ask.new.library in
    let told : Through files F (λ before after. Asks name (Ok (Some c.in-Some.text)) before after) =
    subst (λ (o : Option (Vec ℕ Global)). Through files F (λ before after. Asks name (Ok o) before after)) c.in-Some.is c.in_ok-text.ensures.text in
    through-map files F (λ before after. Asks name (Ok (Some c.in-Some.text)) before after)
    (λ before after. Fetches (fetched_file c.args.place c.args.too_deep c.args.too_long c.args.includer.now name (world c.args.gathering.now before)) c.count_file.result (world c.count_file.new.gathering after))
    told
    (fetched-counted c.args.includer.now c.args.place c.args.too_deep c.args.too_long name (world c.args.gathering.now) (world c.count_file.new.gathering) c.count_file.result c.in-Some.text c.count_file.ensures.text)
