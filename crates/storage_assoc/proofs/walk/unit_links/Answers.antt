-- One statement more gives its links.
use Rattle.std.proofs.Common.{◌≡◌, ◌∙◌, ◌++◌, ℕ, List, Option, ap, length, map, take, drop, option_map, arith, rules, sym}
use Rattle.std.proofs.lemmas.Grind.{common_steps}
use Rattle.std.specs.HashMap.{get_by}
use Rattle.std.specs.Str.{bytes_eq}
use Rattle.f66_tree.specs.Syntax as forms
use Rattle.f66_tree.specs.Views.{line_of, par_of}
use Rattle.storage_assoc.proofs.WalkLemmas.{no_lines, lines_more, whole_written}
use Rattle.storage_assoc.proofs.ListLemmas.{taken_more}
use Rattle.storage_assoc.proofs.walk.unit_links.Goals as goal

pub statement_links-requires-clause-blocks : goal.statement_links-requires-clause-blocks
statement_links-requires-clause-blocks c = λ b. rw (c.deref_mut.ensures.value, c.loop-statement.invariant.many) (c.requires.blocks b)

pub loop-statement-init : goal.loop-statement-init
loop-statement-init c =
    let find : List ℕ → Option ℕ = λ q. get_by (λ k. bytes_eq q k.now) c.args.rows.now in
    let blocks : List ℕ → Option ℕ = λ q. get_by (λ k. bytes_eq q k.now) c.args.blocks.now in
    let dims : List ℕ → Option (List forms.Par) = λ q. option_map (λ ps. map par_of ps.now) (get_by (λ k. bytes_eq q k.now) c.args.dims.now) in
    record {
      many = c.in_ok-fills.ensures.0;
      linked = rw (c.new-links.ensures.items, c.new-counts.ensures.items) (no_lines find blocks dims c.args.sizes.now c.in_ok-fills.fills.items c.in_ok-fills.ensures.1);
    }

pub loop-statement-preserved : goal.loop-statement-preserved
loop-statement-preserved c =
    let find : List ℕ → Option ℕ = λ q. get_by (λ k. bytes_eq q k.now) c.args.rows.now in
    let blocks : List ℕ → Option ℕ = λ q. get_by (λ k. bytes_eq q k.now) c.args.blocks.now in
    let dims : List ℕ → Option (List forms.Par) = λ q. option_map (λ ps. map par_of ps.now) (get_by (λ k. bytes_eq q k.now) c.args.dims.now) in
    let statements = c.args.statements.now in
    let i = c.loop-statement.statement-index in
    let e = taken_more line_of statements i c.statement-item.result c.loop-statement-test.true c.statement-item.is in
    let same : length c.statement_links.new.fills ≡ length c.loop-statement.fills.items = c.statement_links.ensures.kept ∙ ap length c.deref_mut.ensures.value in
    let full : length c.loop-statement.fills.items ≡ c.loop-statement.fills.len = search rules in
    let all : take c.loop-statement.fills.len (c.statement_links.new.fills ++ drop (length c.statement_links.new.fills) c.loop-statement.fills.items) ≡ c.statement_links.new.fills =
    whole_written c.statement_links.new.fills c.loop-statement.fills.items c.loop-statement.fills.len (sym full) (same ∙ full) in
    let long : c.statement_links.new.links.len ≡ length c.statement_links.new.links.items = search rules in
    rw all (record {
      many = same ∙ c.loop-statement.invariant.many;
      linked = rw (e, c.in_ok-push.ensures.items, c.len.ensures, long) (lines_more find blocks dims c.args.sizes.now (map line_of (take i statements)) (line_of c.statement-item.result) c.loop-statement.fills.items
          c.statement_links.new.fills c.loop-statement.links.items c.statement_links.new.links.items c.loop-statement.counts.items c.loop-statement.invariant.linked (rw c.deref_mut.ensures.value at c.in_ok-statement_links.ensures.linked));
    })

pub returns : goal.returns
returns c =
    let statements = c.args.statements.now in
    let end : take c.loop-statement.statement-index statements ≡ statements = grind (arith, common_steps) in
    (c.loop-statement.fills.items, rw end at c.loop-statement.invariant.linked)
