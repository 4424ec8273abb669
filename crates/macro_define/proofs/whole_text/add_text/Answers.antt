-- A text that fails to come in, one too long, and one whose tokens are added.
use Rattle.std.proofs.Common.{ℕ, List, subst, Ok, Err, false, true}
use Rattle.macro_define.specs.Expansion.{fetched_file, file_made, include_made, text_made}
use Rattle.macro_define.specs.Gathered.{Fetches, Gathers, world}
use Rattle.macro_define.proofs.ThroughLemmas.{through-map, through-same, through-then}
use Rattle.macro_define.proofs.WholeLemmas.{text-failed, text-goes}
use Rattle.macro_define.proofs.whole_text.add_text.Goals as goal

pub returns-in_err-text-clause-made : goal.returns-in_err-text-clause-made
returns-in_err-text-clause-made g c =
    let d = c.args.dialect in
    let name = c.args.name.now in
    let old = c.args.gathering.now in
    let mid = c.fetch_file.new.gathering in
    let e = c.in_err-text.field-0.0 in
    let r = c.from_residual.result in
    through-map (g.L.Library.files c.args.library.now) (λ names. g.L.Library.fetches c.args.library.now names c.fetch_file.new.library)
    (λ before after. Fetches (fetched_file (record { file = 0; line = 0 }) false false name name (world old before)) (Err e) (world mid after))
    (λ before after. Gathers (text_made d c.args.depth name (world old before)) r (Ok (world mid after)) after)
    c.in_err-text.ensures.text
    (λ a b h. text-failed d c.args.depth name (world old a) (world mid b) (Ok (world mid b)) e r h c.from_residual.ensures)

pub returns-clause-made : goal.returns-clause-made
returns-clause-made g c =
    let d = c.args.dialect in
    let depth = c.args.depth in
    let name = c.args.name.now in
    let old = c.args.gathering.now in
    let mid = c.fetch_file.new.gathering in
    let new = c.add_file.new.gathering in
    let text = c.in_ok-text.text in
    let r = c.add_file.result in
    let files = g.L.Library.files c.args.library.now in
    through-then files (λ names. g.L.Library.fetches c.args.library.now names c.fetch_file.new.library)
    (λ names. g.L.Library.fetches c.fetch_file.new.library names c.add_file.new.library)
    (λ names. g.L.Library.fetches c.args.library.now names c.add_file.new.library)
    (λ before after. Fetches (fetched_file (record { file = 0; line = 0 }) false false name name (world old before)) (Ok text) (world mid after))
    (λ before after. Gathers (file_made d (include_made d depth name) true name c.deref.result.now (world mid before)) r (Ok (world new after)) after)
    (λ before after. Gathers (text_made d depth name (world old before)) r (Ok (world new after)) after)
    (g.met.L.Library.in_a_row c.args.library.now c.fetch_file.new.library c.add_file.new.library)
    c.in_ok-text.ensures.text
    (through-same files (g.L.Library.files c.fetch_file.new.library) (λ names. g.L.Library.fetches c.fetch_file.new.library names c.add_file.new.library) (λ before after. Gathers (file_made d (include_made d depth name) true name c.deref.result.now (world mid before)) r (Ok (world new after)) after) c.in_ok-text.ensures.same c.add_file.ensures.made)
    (λ a b x h k. text-goes d depth name (world old a) (world mid b) text.items r (Ok (world new x)) x h
    (subst (λ (bs : List ℕ). Gathers (file_made d (include_made d depth name) true name bs (world mid b)) r (Ok (world new x)) x) c.deref.ensures.value k))
