-- Why `add_include`, `add_part` and `add_file` keep their clauses.
use Rattle.std.proofs.Common.{◌≡◌, ◌==◌, ◌-◌, ◌≤◌, ℕ, List, [], ◌∷◌, length, refl, sym, ◌∙◌, ap, subst, arith, Ok, Err, rules, nat_lt, false, true}
use Rattle.std.specs.Prelude.{MatchOption, Option, Result}
use Rattle.ground.specs.declared.token.Token.{Token}
use Rattle.macro_define.specs.declared.defines.FirstWord.{FirstWord}
use Rattle.free_scan.specs.Lexemes.{Reading}
use Rattle.macro_define.specs.Expansion.{Left, Stop, GatherState, end_of, fetched_file, file_made, from_tokens, include_made, part}
use Rattle.macro_define.specs.Gathered.{Fetches, Gathers, world}
use Rattle.macro_define.proofs.ThroughLemmas.{through-map, through-none, through-same, through-then}
use Rattle.macro_define.proofs.FileLemmas.{file-begins, gathers-failed, gathers-memory, include-failed, include-goes, include-none, include-part, plain-part, tokens-end, tokens-step, tokens-stop}
use Rattle.macro_define.proofs.PlainLemmas.{pass, shorter}
use Rattle.macro_define.proofs.files.+files.Goals as goal

pub add_include-returns-in_err-text-clause-made : goal.add_include-returns-in_err-text-clause-made
add_include-returns-in_err-text-clause-made g t c =
    let d = c.args.dialect in
    let depth = c.args.depth in
    let name = c.args.name.now in
    let old = c.args.gathering.now in
    let mid = c.fetch_file.new.gathering in
    let e = c.in_err-text.field-0.0 in
    let r = c.from_residual.result in
    through-map (g.L.Library.files c.args.library.now) (λ names. g.L.Library.fetches c.args.library.now names c.fetch_file.new.library)
    (λ before after. Fetches (fetched_file c.args.place (depth == 0) (nat_lt 255 (length name)) c.args.includer.now name (world old before)) (Err e) (world mid after))
    (λ before after. Gathers (include_made d depth c.args.includer.now c.args.place name (world old before)) r (Ok (world mid after)) after)
    c.in_err-text.ensures.text
    (λ a b h. include-failed d depth c.args.includer.now c.args.place name (world old a) (world mid b) (Ok (world mid b)) e r h c.from_residual.ensures)

pub add_include-returns-clause-made : goal.add_include-returns-clause-made
add_include-returns-clause-made g t c =
    let d = c.args.dialect in
    let depth = c.args.depth in
    let name = c.args.name.now in
    let old = c.args.gathering.now in
    let mid = c.fetch_file.new.gathering in
    let new = c.add_file.new.gathering in
    let text = c.in_ok-text.text in
    let r = c.add_file.result in
    let files = g.L.Library.files c.args.library.now in
    through-then files (λ names. g.L.Library.fetches c.args.library.now names c.fetch_file.new.library)
    (λ names. g.L.Library.fetches c.fetch_file.new.library names c.add_file.new.library)
    (λ names. g.L.Library.fetches c.args.library.now names c.add_file.new.library)
    (λ before after. Fetches (fetched_file c.args.place (depth == 0) (nat_lt 255 (length name)) c.args.includer.now name (world old before)) (Ok text) (world mid after))
    (λ before after. Gathers (file_made d (include_made d (depth - 1) name) false name c.deref.result.now (world mid before)) r (Ok (world new after)) after)
    (λ before after. Gathers (include_made d depth c.args.includer.now c.args.place name (world old before)) r (Ok (world new after)) after)
    (g.met.L.Library.in_a_row c.args.library.now c.fetch_file.new.library c.add_file.new.library)
    c.in_ok-text.ensures.text
    (through-same files (g.L.Library.files c.fetch_file.new.library) (λ names. g.L.Library.fetches c.fetch_file.new.library names c.add_file.new.library) (λ before after. Gathers (file_made d (include_made d (depth - 1) name) false name c.deref.result.now (world mid before)) r (Ok (world new after)) after) c.in_ok-text.ensures.same c.add_file.ensures.made)
    (λ a b x h k. include-goes d depth c.args.includer.now c.args.place name (world old a) (world mid b) text.items r (Ok (world new x)) x c.in_ok-text.ensures.shallow h
    (subst (λ (bs : List ℕ). Gathers (file_made d (include_made d (depth - 1) name) false name bs (world mid b)) r (Ok (world new x)) x) c.deref.ensures.value k))

pub add_part-returns-in-Define-clause-made : goal.add_part-returns-in-Define-clause-made
add_part-returns-in-Define-clause-made g t c =
    let d = c.args.dialect in
    let name = c.args.name.now in
    let old = c.args.gathering.now in
    let new = c.add_define.new.gathering in
    let ts = c.args.tokens.now.tokens in
    let rest = c.add_define.new.tokens.tokens in
    let r = c.add_define.result in
    let include = include_made d c.args.depth name in
    through-none (g.L.Library.files c.args.library.now) (λ names. g.L.Library.fetches c.args.library.now names c.args.library.now)
    (λ before after. Gathers (part include d c.args.outermost name c.args.first c.args.token ts (world old before)) r (Ok (rest, world new after)) after)
    (g.met.L.Library.nothing c.args.library.now)
    (λ a. subst (λ (f : FirstWord). Gathers (part include d c.args.outermost name f c.args.token ts (world old a)) r (Ok (rest, world new a)) a) (sym c.in-Define.is) (c.add_define.ensures.made a))

pub add_part-returns-in-Some-clause-made : goal.add_part-returns-in-Some-clause-made
add_part-returns-in-Some-clause-made g t c =
    let d = c.args.dialect in
    let name = c.args.name.now in
    let old = c.args.gathering.now in
    let new = c.add_include.new.gathering in
    let ts = c.args.tokens.now.tokens in
    let rest = c.next_name.new.tokens.tokens in
    let r = c.add_include.result in
    let include = include_made d c.args.depth name in
    through-map (g.L.Library.files c.args.library.now) (λ names. g.L.Library.fetches c.args.library.now names c.add_include.new.library)
    (λ before after. Gathers (include c.in-Some.place c.as_bytes.result.now (world old before)) r (Ok (world new after)) after)
    (λ before after. Gathers (part include d c.args.outermost name c.args.first c.args.token ts (world old before)) r (Ok (rest, world new after)) after)
    c.add_include.ensures.made
    (λ a b h. include-part include d c.args.outermost name c.args.first c.args.token ts rest c.in-Some.place c.in-Some.file c.as_bytes.result.now (world old a) (world new b) b r
    c.in-Include.is (sym c.in-Some.is ∙ c.in_ok-place-in-Include.ensures.name) c.in_ok-place-in-Include.ensures.rest c.as_bytes.ensures h)

pub add_part-returns-in-Include-clause-made : goal.add_part-returns-in-Include-clause-made
add_part-returns-in-Include-clause-made g t c =
    let d = c.args.dialect in
    let name = c.args.name.now in
    let old = c.args.gathering.now in
    let ts = c.args.tokens.now.tokens in
    let rest = c.next_name.new.tokens.tokens in
    let include = include_made d c.args.depth name in
    through-none (g.L.Library.files c.args.library.now) (λ names. g.L.Library.fetches c.args.library.now names c.args.library.now)
    (λ before after. part include d c.args.outermost name c.args.first c.args.token ts (world old before) ≡ Ok (rest, world old after))
    (g.met.L.Library.nothing c.args.library.now)
    (λ a. include-none include d c.args.outermost name c.args.first c.args.token ts rest (world old a) c.in-Include.is (sym c.in-None.is ∙ c.in_ok-place-in-Include.ensures.name) c.in_ok-place-in-Include.ensures.rest)

pub add_part-returns-clause-made : goal.add_part-returns-clause-made
add_part-returns-clause-made g t c =
    let d = c.args.dialect in
    let name = c.args.name.now in
    let old = c.args.gathering.now in
    let new = c.add_plain.new.gathering in
    let ts = c.args.tokens.now.tokens in
    let r = c.add_plain.result in
    let include = include_made d c.args.depth name in
    through-none (g.L.Library.files c.args.library.now) (λ names. g.L.Library.fetches c.args.library.now names c.args.library.now)
    (λ before after. Gathers (part include d c.args.outermost name c.args.first c.args.token ts (world old before)) r (Ok (ts, world new after)) after)
    (g.met.L.Library.nothing c.args.library.now)
    (λ a. plain-part include d c.args.outermost name c.args.first c.args.token ts (world old a) (world new a) a r c.in-Other.is (c.add_plain.ensures.made a))

pub add_part-returns-in_err-place-in-Include-clause-made : goal.add_part-returns-in_err-place-in-Include-clause-made
add_part-returns-in_err-place-in-Include-clause-made g t c =
    let d = c.args.dialect in
    let name = c.args.name.now in
    let old = c.args.gathering.now in
    let rest = c.next_name.new.tokens.tokens in
    let all : GatherState → Result Left Stop = λ w. part (include_made d c.args.depth name) d c.args.outermost name c.args.first c.args.token c.args.tokens.now.tokens w in
    through-none (g.L.Library.files c.args.library.now) (λ names. g.L.Library.fetches c.args.library.now names c.args.library.now)
    (λ before after. Gathers (all (world old before)) c.from_residual.result (Ok (rest, world old after)) after)
    (g.met.L.Library.nothing c.args.library.now)
    (λ a. gathers-memory (all (world old a)) (Ok (rest, world old a)) a c.from_residual.result c.from_residual.ensures)

pub add_file-returns-in_err-fault-clause-made : goal.add_file-returns-in_err-fault-clause-made
add_file-returns-in_err-fault-clause-made g t c =
    let d = c.args.dialect in
    let name = c.args.name.now in
    let old = c.args.gathering.now in
    let new = c.loop-line.gathering in
    let include = include_made d c.args.depth name in
    let inv = c.loop-line.invariant in
    let r = c.from_residual-in_err-fault.result in
    let whole : GatherState → Result GatherState Stop = λ w. file_made d include c.args.outermost name c.args.text.now w in
    through-map (g.L.Library.files c.args.library.now) (λ names. g.L.Library.fetches c.args.library.now names c.loop-line.library)
    (λ before after. whole (world old before) ≡ from_tokens include d c.args.outermost name inv.0 c.loop-line.begins c.loop-line.tokens.tokens c.loop-line.tokens.fault (world new after))
    (λ before after. Gathers (whole (world old before)) r (Ok (world new after)) after)
    inv.1.1
    (λ a b h. gathers-memory (whole (world old a)) (Ok (world new b)) b r c.from_residual-in_err-fault.ensures)

pub add_file-loop-line-init : goal.add_file-loop-line-init
add_file-loop-line-init g t c =
    let d = c.args.dialect in
    let name = c.args.name.now in
    let text = c.args.text.now in
    let old = c.args.gathering.now in
    let new = c.pass_plain_lines.new.gathering in
    let before = c.new-tokens.result.tokens in
    let fault = c.new-tokens.result.fault in
    let after = c.pass_plain_lines.new.tokens in
    let begins = c.in_ok-begins.begins in
    let passed = c.in_ok-begins.ensures.passed in
    let include = include_made d c.args.depth name in
    let n = length before - length passed.tokens.passed in (
      n,
      (
        shorter before passed.tokens.passed after.tokens passed.tokens.same,
        through-none (g.L.Library.files c.args.library.now) (λ names. g.L.Library.fetches c.args.library.now names c.args.library.now)
            (λ w v. file_made d include c.args.outermost name text (world old w) ≡ from_tokens include d c.args.outermost name n begins after.tokens after.fault (world new v))
            (g.met.L.Library.nothing c.args.library.now)
            (λ a. file-begins include d c.args.outermost name text (world old a) c.file_number-number.result before fault c.file_number-number.ensures (ap (λ (r : Reading). r.tokens) c.new-tokens.ensures) (ap (λ (r : Reading). r.fault) c.new-tokens.ensures)
            ∙ pass include d c.args.outermost name (length before) true begins before after.tokens fault (world old a) (world new a) passed.tokens (passed.same a) (omega arith)
            ∙ ap (λ f. from_tokens include d c.args.outermost name n begins after.tokens f (world new a)) (sym c.in_ok-begins.ensures.fault)),
        subst (λ r. r ≤ 4194304) (sym c.pass_plain_lines.ensures.room) c.requires.room,
        refl,
        g.met.L.Library.stays c.args.library.now,
        refl,
        c.in_ok-begins.ensures.none,
      ),
    )

pub add_file-loop-line-preserved : goal.add_file-loop-line-preserved
add_file-loop-line-preserved g t c =
    let d = c.args.dialect in
    let name = c.args.name.now in
    let old = c.args.gathering.now in
    let mid = c.loop-line.gathering in
    let part_made = c.add_part.new.gathering in
    let new = c.pass_plain_lines-in-Some.new.gathering in
    let fault = c.loop-line.tokens.fault in
    let include = include_made d c.args.depth name in
    let outermost = c.args.outermost in
    let inv = c.loop-line.invariant in
    let all = c.loop-line.tokens.tokens in
    let ts = c.next.new.self.tokens in
    let rest = c.add_part.new.tokens.tokens in
    let left = c.pass_plain_lines-in-Some.new.tokens in
    let begins = c.loop-line.begins in
    let ended = c.ends_line-ended.result in
    let later = c.in_ok-begins-2.begins in
    let passed = c.in_ok-begins-2.ensures.passed in
    let n = inv.0 - 1 - length passed.tokens.passed in
    let first = c.first_word-first.result in
    let token = c.in-Some.token in
    let split : all ≡ token ∷ ts = subst (λ (o : Option Token). MatchOption o ((all ≡ []) × (ts ≡ [])) (λ t. all ≡ t ∷ ts)) c.in-Some.is c.in_ok-token.ensures.token in
    let fits : length (token ∷ ts) ≤ inv.0 = subst (λ (l : List Token). length l ≤ inv.0) split inv.1.0 in
    let fewer : length rest ≤ length ts = c.in_ok-add_part.ensures.fewer in
    let fits_rest : length rest ≤ inv.0 - 1 = omega (arith, fits, fewer) in
    let less : length left.tokens ≤ length rest - length passed.tokens.passed = shorter rest passed.tokens.passed left.tokens passed.tokens.same in
    let kept : left.fault ≡ fault = c.in_ok-begins-2.ensures.fault ∙ c.in_ok-add_part.ensures.fault ∙ c.in_ok-token.ensures.fault in
    let whole : GatherState → Result GatherState Stop = λ w. file_made d include outermost name c.args.text.now w in
    let files = g.L.Library.files c.args.library.now in (
      n,
      (
        omega (arith, fits_rest, less),
        through-then files (λ names. g.L.Library.fetches c.args.library.now names c.loop-line.library)
            (λ names. g.L.Library.fetches c.loop-line.library names c.add_part.new.library)
            (λ names. g.L.Library.fetches c.args.library.now names c.add_part.new.library)
            (λ before after. whole (world old before) ≡ from_tokens include d outermost name inv.0 begins all fault (world mid after))
            (λ before after. part include d outermost name first token ts (world mid before) ≡ Ok (rest, world part_made after))
            (λ before after. whole (world old before) ≡ from_tokens include d outermost name n later left.tokens left.fault (world new after))
            (g.met.L.Library.in_a_row c.args.library.now c.loop-line.library c.add_part.new.library)
            inv.1.1
            (through-same files (g.L.Library.files c.loop-line.library) (λ names. g.L.Library.fetches c.loop-line.library names c.add_part.new.library)
            (λ before after. part include d outermost name first token ts (world mid before) ≡ Ok (rest, world part_made after)) inv.1.3 c.in_ok-add_part.ensures.made)
            (λ a b x h k. tokens-step include d outermost name inv.0 begins ended first token all ts rest fault (whole (world old a)) (world mid b) (world part_made x)
            h split inv.1.0 c.first_word-first.ensures c.ends_line-ended.ensures k
            ∙ pass include d outermost name (inv.0 - 1) ended later rest left.tokens fault (world part_made x) (world new x) passed.tokens (passed.same x) fits_rest
            ∙ ap (λ f. from_tokens include d outermost name n later left.tokens f (world new x)) (sym kept)),
        subst (λ r. r ≤ 4194304) (sym c.pass_plain_lines-in-Some.ensures.room) c.in_ok-add_part.ensures.room,
        c.add_part.ensures.same ∙ inv.1.3,
        g.met.L.Library.goes_on c.args.library.now c.loop-line.library c.add_part.new.library inv.1.4 c.add_part.ensures.becomes,
        c.in_ok-add_part.ensures.cause ∙ inv.1.5,
        c.in_ok-begins-2.ensures.none,
      ),
    )

pub add_file-returns-in_err-begins-clause-made : goal.add_file-returns-in_err-begins-clause-made
add_file-returns-in_err-begins-clause-made g t c =
    let d = c.args.dialect in
    let old = c.args.gathering.now in
    let new = c.pass_plain_lines.new.gathering in
    let r = c.from_residual.result in
    let whole : GatherState → Result GatherState Stop = λ w. file_made d (include_made d c.args.depth c.args.name.now) c.args.outermost c.args.name.now c.args.text.now w in
    through-none (g.L.Library.files c.args.library.now) (λ names. g.L.Library.fetches c.args.library.now names c.args.library.now)
    (λ before after. Gathers (whole (world old before)) r (Ok (world new after)) after)
    (g.met.L.Library.nothing c.args.library.now)
    (λ a. gathers-memory (whole (world old a)) (Ok (world new a)) a r c.from_residual.ensures)

pub add_file-returns-in_err-token-clause-made : goal.add_file-returns-in_err-token-clause-made
add_file-returns-in_err-token-clause-made g t c =
    let d = c.args.dialect in
    let name = c.args.name.now in
    let old = c.args.gathering.now in
    let new = c.loop-line.gathering in
    let include = include_made d c.args.depth name in
    let inv = c.loop-line.invariant in
    let r = c.from_residual-in_err-token.result in
    let whole : GatherState → Result GatherState Stop = λ w. file_made d include c.args.outermost name c.args.text.now w in
    through-map (g.L.Library.files c.args.library.now) (λ names. g.L.Library.fetches c.args.library.now names c.loop-line.library)
    (λ before after. whole (world old before) ≡ from_tokens include d c.args.outermost name inv.0 c.loop-line.begins c.loop-line.tokens.tokens c.loop-line.tokens.fault (world new after))
    (λ before after. Gathers (whole (world old before)) r (Ok (world new after)) after)
    inv.1.1
    (λ a b h. gathers-memory (whole (world old a)) (Ok (world new b)) b r c.from_residual-in_err-token.ensures)

pub add_file-returns-in_err-begins-2-clause-made : goal.add_file-returns-in_err-begins-2-clause-made
add_file-returns-in_err-begins-2-clause-made g t c =
    let d = c.args.dialect in
    let name = c.args.name.now in
    let old = c.args.gathering.now in
    let mid = c.loop-line.gathering in
    let part_made = c.add_part.new.gathering in
    let new = c.pass_plain_lines-in-Some.new.gathering in
    let include = include_made d c.args.depth name in
    let outermost = c.args.outermost in
    let inv = c.loop-line.invariant in
    let ts = c.next.new.self.tokens in
    let rest = c.add_part.new.tokens.tokens in
    let r = c.from_residual-in_err-begins-2.result in
    let whole : GatherState → Result GatherState Stop = λ w. file_made d include outermost name c.args.text.now w in
    let files = g.L.Library.files c.args.library.now in
    through-then files (λ names. g.L.Library.fetches c.args.library.now names c.loop-line.library)
    (λ names. g.L.Library.fetches c.loop-line.library names c.add_part.new.library)
    (λ names. g.L.Library.fetches c.args.library.now names c.add_part.new.library)
    (λ before after. whole (world old before) ≡ from_tokens include d outermost name inv.0 c.loop-line.begins c.loop-line.tokens.tokens c.loop-line.tokens.fault (world mid after))
    (λ before after. part include d outermost name c.first_word-first.result c.in-Some.token ts (world mid before) ≡ Ok (rest, world part_made after))
    (λ before after. Gathers (whole (world old before)) r (Ok (world new after)) after)
    (g.met.L.Library.in_a_row c.args.library.now c.loop-line.library c.add_part.new.library)
    inv.1.1
    (through-same files (g.L.Library.files c.loop-line.library) (λ names. g.L.Library.fetches c.loop-line.library names c.add_part.new.library)
    (λ before after. part include d outermost name c.first_word-first.result c.in-Some.token ts (world mid before) ≡ Ok (rest, world part_made after)) inv.1.3 c.in_ok-add_part.ensures.made)
    (λ a b x h k. gathers-memory (whole (world old a)) (Ok (world new x)) x r c.from_residual-in_err-begins-2.ensures)

pub add_file-returns-in_err-add_part-clause-made :
    goal.add_file-returns-in_err-add_part-clause-made
add_file-returns-in_err-add_part-clause-made g t c =
    let d = c.args.dialect in
    let name = c.args.name.now in
    let old = c.args.gathering.now in
    let mid = c.loop-line.gathering in
    let new = c.add_part.new.gathering in
    let fault = c.loop-line.tokens.fault in
    let include = include_made d c.args.depth name in
    let outermost = c.args.outermost in
    let inv = c.loop-line.invariant in
    let all = c.loop-line.tokens.tokens in
    let ts = c.next.new.self.tokens in
    let rest = c.add_part.new.tokens.tokens in
    let begins = c.loop-line.begins in
    let first = c.first_word-first.result in
    let token = c.in-Some.token in
    let split : all ≡ token ∷ ts = subst (λ (o : Option Token). MatchOption o ((all ≡ []) × (ts ≡ [])) (λ t. all ≡ t ∷ ts)) c.in-Some.is c.in_ok-token.ensures.token in
    let e = c.in_err-add_part.field-0.0 in
    let r = c.from_residual-in_err-add_part.result in
    let whole : GatherState → Result GatherState Stop = λ w. file_made d include outermost name c.args.text.now w in
    let files = g.L.Library.files c.args.library.now in
    through-then files (λ names. g.L.Library.fetches c.args.library.now names c.loop-line.library)
    (λ names. g.L.Library.fetches c.loop-line.library names c.add_part.new.library)
    (λ names. g.L.Library.fetches c.args.library.now names c.add_part.new.library)
    (λ before after. whole (world old before) ≡ from_tokens include d outermost name inv.0 begins all fault (world mid after))
    (λ before after. Gathers {B = Unit {0}} (part include d outermost name first token ts (world mid before)) (Err e) (Ok (rest, world new after)) after)
    (λ before after. Gathers (whole (world old before)) r (Ok (world new after)) after)
    (g.met.L.Library.in_a_row c.args.library.now c.loop-line.library c.add_part.new.library)
    inv.1.1
    (through-same files (g.L.Library.files c.loop-line.library) (λ names. g.L.Library.fetches c.loop-line.library names c.add_part.new.library)
    (λ before after. Gathers {B = Unit {0}} (part include d outermost name first token ts (world mid before)) (Err e) (Ok (rest, world new after)) after) inv.1.3 c.in_err-add_part.ensures.made)
    (λ a b x h k. gathers-failed (part include d outermost name first token ts (world mid b)) (Ok (rest, world new x)) (whole (world old a)) (Ok (world new x)) x e r k
    (λ stop told. tokens-stop include d outermost name inv.0 begins first token all ts fault (whole (world old a)) (world mid b) stop h split inv.1.0 c.first_word-first.ensures told)
    c.from_residual-in_err-add_part.ensures)

pub add_file-returns-clause-made : goal.add_file-returns-clause-made
add_file-returns-clause-made g t c =
    let d = c.args.dialect in
    let name = c.args.name.now in
    let old = c.args.gathering.now in
    let new = c.loop-line.gathering in
    let fault = c.loop-line.tokens.fault in
    let include = include_made d c.args.depth name in
    let inv = c.loop-line.invariant in
    let none : c.loop-line.tokens.tokens ≡ [] = search rules in
    let gone : c.next.new.self.tokens ≡ [] = search rules in
    let last : c.in_ok-fault.fault ≡ fault = c.in_ok-fault.ensures gone ∙ c.in_ok-token.ensures.fault in
    let r = c.end_file.result in
    let whole : GatherState → Result GatherState Stop = λ w. file_made d include c.args.outermost name c.args.text.now w in
    through-map (g.L.Library.files c.args.library.now) (λ names. g.L.Library.fetches c.args.library.now names c.loop-line.library)
    (λ before after. whole (world old before) ≡ from_tokens include d c.args.outermost name inv.0 c.loop-line.begins c.loop-line.tokens.tokens fault (world new after))
    (λ before after. Gathers (whole (world old before)) r (Ok (world new after)) after)
    inv.1.1
    (λ a b h. subst (λ (x : Result GatherState Stop). Gathers x r (Ok (world new b)) b)
    (sym (h ∙ ap (λ (ts : List Token). from_tokens include d c.args.outermost name inv.0 c.loop-line.begins ts fault (world new b)) none
    ∙ tokens-end include d c.args.outermost name inv.0 c.loop-line.begins fault (world new b)
    ∙ ap (λ f. end_of name f (world new b)) (sym last)))
    (c.end_file.ensures.made (world new b)))

pub add_file-returns-in_err-add_part-clause-becomes : goal.add_file-returns-in_err-add_part-clause-becomes
add_file-returns-in_err-add_part-clause-becomes g t c =
    g.met.L.Library.goes_on c.args.library.now c.loop-line.library c.add_part.new.library c.loop-line.invariant.1.4 c.add_part.ensures.becomes
