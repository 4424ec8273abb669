-- The text of one value more is put behind the text so far.
use Rattle.std.proofs.Common.{◌≡◌, ◌+◌, [], ◌∷◌, ◌++◌, ap, ◌∙◌, sym, take, add-one, append_assoc}
use Rattle.std.proofs.Math.Seq.{take-suc}
use Rattle.grammar.specs.Stack.{piled}
use Rattle.grammar.proofs.ListLemmas.{piled-append}
use Rattle.grammar_example.specs.Outline.{text_of, joined}
use Rattle.grammar_example.proofs.outline.append_all.Goals as goal

pub loop-value-preserved : goal.loop-value-preserved
loop-value-preserved c =
    let i = c.loop-value.value-index in
    let texts = c.args.values.now in
    let value = c.value-item.result in
    let old = c.args.text.now.items in
    let before = joined (piled text_of (take i texts) []) in
    let longer : take (i + 1) texts ≡ take i texts ++ value ∷ [] =
    ap (λ n. take n texts) (add-one i) ∙ (take-suc texts i value c.loop-value-test.true ∙ ap (λ x. take i texts ++ x ∷ []) (sym c.value-item.is)) in
    let after : joined (piled text_of (take (i + 1) texts) []) ≡ before ++ value =
    ap (λ ts. joined (piled text_of ts [])) longer ∙ ap joined (piled-append text_of (take i texts) value []) in
    c.in_ok-extend_from_slice.ensures.items ∙ (ap (λ ts. ts ++ c.as_bytes.result.now) c.loop-value.invariant
    ∙ (ap (λ v. (old ++ before) ++ v) c.as_bytes.ensures ∙ (append_assoc old before value ∙ ap (λ ts. old ++ ts) (sym after))))
