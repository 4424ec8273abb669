-- The last member, and one before others.
use Rattle.std.proofs.Common.{◌≡◌, ◌+◌, ◌-◌, length, List, Option, Some, None, map, take, drop, sym, ap, subst, ◌∙◌}
use Rattle.std.specs.Prelude.{IfOk}
use Rattle.std.specs.Option.{option_map}
use Rattle.stmt_reader.specs.Cutting.{is_comma}
use Rattle.stmt_reader.specs.Splitting.{list_of}
use Rattle.stmt_parts.specs.Lists.{list_if, onto}
use Rattle.stmt_parts.proofs.ListLemmas.{ends_with, goes_from}
use Rattle.stmt_parts.proofs.lists.+add_members.Goals as goal

pub returns-in-None-2 : goal.returns-in-None-2
returns-in-None-2 g t c =
    ends_with g.M.Member.member_of is_comma (map g.M.Member.plain c.args.before.items) c.args.tokens.now None c.in-None.ensures.halves (ap (option_map g.M.Member.plain) (sym c.in-None-2.is) ∙ c.in_ok-read-in-None.ensures)

pub returns-in_ok-with_member-in-Some-2 : goal.returns-in_ok-with_member-in-Some-2
returns-in_ok-with_member-in-Some-2 g t c =
    ap Some c.in_ok-with_member-in-Some-2.ensures
    ∙ ends_with g.M.Member.member_of is_comma (map g.M.Member.plain c.args.before.items) c.args.tokens.now (Some (g.M.Member.plain c.in-Some-2.member)) c.in-None.ensures.halves (ap (option_map g.M.Member.plain) (sym c.in-Some-2.is) ∙ c.in_ok-read-in-None.ensures)

pub returns-in-None-3 : goal.returns-in-None-3
returns-in-None-3 g t c =
    let tokens = c.args.tokens.now in
    let at = c.in-Some.at in
    goes_from g.M.Member.member_of is_comma (map g.M.Member.plain c.args.before.items) tokens at None c.in-Some.ensures.halves (ap (option_map g.M.Member.plain) (sym c.in-None-3.is) ∙ c.in_ok-read-in-Some.ensures)

pub returns-in_ok-list-in-Some-3 : goal.returns-in_ok-list-in-Some-3
returns-in_ok-list-in-Some-3 g t c =
    let tokens = c.args.tokens.now in
    let at = c.in-Some.at in
    let rest = list_of g.M.Member.member_of is_comma (take (length tokens - (at + 1)) (drop (at + 1) tokens)) in
    let step = goes_from g.M.Member.member_of is_comma (map g.M.Member.plain c.args.before.items) tokens at (Some (g.M.Member.plain c.in-Some-3.member)) c.in-Some.ensures.halves (ap (option_map g.M.Member.plain) (sym c.in-Some-3.is) ∙ c.in_ok-read-in-Some.ensures) in
    subst (λ (x : Option (List g.M.Member.Plain)). IfOk c.add_members.result (λ r. list_if g.M.Member.plain r ≡ x))
    (ap (λ (b : List g.M.Member.Plain). onto b rest) c.in_ok-list-in-Some-3.ensures ∙ step) c.add_members.ensures
