-- What is told of the parts one after another.
use Rattle.std.proofs.Common.{◌≡◌, ℕ, suc, ◌+◌, ◌<◌, Option, Some, None, List, ◌∷◌, length, length-append, drop, get_or, ap, sym, ◌∙◌, arith}
use Rattle.std.proofs.Math.Seq.{drop-cons}
use Rattle.rule_table.specs.declared.rule.Rule.{Rule}
use Rattle.ground.specs.declared.fault.Fault.{Fault}
use Rattle.ground.specs.declared.place.Place.{Place}
use Rattle.rule_table.specs.FaultRules.{fault_of, first_rule, lesser}
use Rattle.rule_table.proofs.LesserLemmas.{first_either, lesser-assoc}
use Rattle.f66_tree.specs.Syntax.{Header, Act}
use Rattle.f66_tree.specs.Units.{Context}
use Rattle.f66_names.specs.declared.declarations.Declarations.{Declarations}
use Rattle.f66_names.specs.declared.saying.Saying.{Saying}
use Rattle.f66_names.specs.ActViews.{act_said, acts_of}
use Rattle.f66_names.specs.Declaring.{context_by}
use Rattle.f66_names.specs.DeclarationViews.{context_in, acts_in}
use Rattle.unit_rules.specs.declared.unit_names.UnitNames.{UnitNames}
use Rattle.unit_rules.specs.UnitRules.{breaks_rule}
use Rattle.rat_check.specs.declared.parts.Part as memory
use Rattle.rat_check.specs.Parts.{Labels, no_label, Part}
use Rattle.rat_check.specs.Said.{said_by, said_in}
use Rattle.rat_check.specs.Rules.{breaks_unit_header, Before, nothing_before, behind, UnitRules, break_names, broken_rule}
use Rattle.rat_check.specs.FirstFault.{or_else, fault_if, format_label, with_formats, first_broken, unit_whole, fault_of_parts}
use Rattle.rat_check.specs.FormViews.{form_of}
use Rattle.rat_check.specs.PartViews.{part_of, parts_seen, whole_by}
use Rattle.rat_check.specs.Survey.{is_among, adding_if}
use Rattle.rat_check.proofs.PartLemmas.{among_adding_if}

pub next_part : (parts : List memory.Part) (i : ℕ) (p : memory.Part) → i < length parts → p ≡ get_or parts i p → parts_seen (drop i parts) ≡ part_of p ∷ parts_seen (drop (i + 1) parts)
next_part parts i p lt is =
    let e : suc i ≡ i + 1 = omega arith in
    ap parts_seen (drop-cons parts i p lt) ∙ ap (λ q. part_of q ∷ parts_seen (drop (suc i) parts)) (sym is) ∙ ap (λ m. part_of p ∷ parts_seen (drop m parts)) e

-- how much the part at i says, and those behind it
pub said_on : (x : Header) (parts : List memory.Part) (i : ℕ) (p : memory.Part) (n total : ℕ) → i < length parts → p ≡ get_or parts i p → n + length (said_in x (parts_seen (drop i parts))) ≡ total →
    n + length (said_by x (form_of p.form)) + length (said_in x (parts_seen (drop (i + 1) parts))) ≡ total
said_on x parts i p n total lt is h =
    let both = ap (λ vs. length (said_in x vs)) (next_part parts i p lt is) ∙ length-append (said_by x (form_of p.form)) (said_in x (parts_seen (drop (i + 1) parts))) in
    omega (arith, both, h)

-- the labels of formats so far, with that of one more part
pub format_passed : (v : Part) (rest : List Part) (fs gs : List ℕ) → gs ≡ adding_if (format_label v.label v.form) fs → with_formats rest (is_among gs) ≡ with_formats (v ∷ rest) (is_among fs)
format_passed v rest fs gs next = ap (λ ls. with_formats rest (is_among ls)) next ∙ ap (with_formats rest) (among_adding_if (format_label v.label v.form) fs)

-- a part that breaks no rule, and one that breaks one
pub rule_passed : (u : UnitRules) (b c : Before) (v : Part) (rest : List Part) → None ≡ broken_rule u b v → c ≡ behind u.context.header b v → first_broken u c rest ≡ first_broken u b (v ∷ rest)
rule_passed u b c v rest fine next = ap (λ d. first_broken u d rest) next ∙ ap (λ o. or_else (fault_if v.place o) (first_broken u (behind u.context.header b v) rest)) fine

pub rule_broken : (u : UnitRules) (b : Before) (v : Part) (rest : List Part) (r : Rule) (f : Fault) → Some r ≡ broken_rule u b v → f ≡ fault_of v.place r → first_broken u b (v ∷ rest) ≡ Some f
rule_broken u b v rest r f told is = ap (λ o. or_else (fault_if v.place o) (first_broken u (behind u.context.header b v) rest)) (sym told) ∙ ap Some (sym is)

-- one saying more, whose rule is taken together with those before
rules_passed : (c : Context) (said : List Act) (n : ℕ) (a : Act) (more : List Act) (broken rule : Option Rule) → rule ≡ first_rule (breaks_rule c said n a) →
    lesser (lesser broken rule) (first_rule (break_names c said (n + 1) more)) ≡ lesser broken (first_rule (break_names c said n (a ∷ more)))
rules_passed c said n a more broken rule is =
    lesser-assoc broken rule (first_rule (break_names c said (n + 1) more))
    ∙ ap (λ r. lesser broken (lesser r (first_rule (break_names c said (n + 1) more)))) is
    ∙ ap (lesser broken) (sym (first_either (breaks_rule c said n a) (break_names c said (n + 1) more)))

next_saying : (sayings : List Saying) (i : ℕ) (s : Saying) → i < length sayings → s ≡ get_or sayings i s → acts_of (drop i sayings) ≡ act_said s ∷ acts_of (drop (i + 1) sayings)
next_saying sayings i s lt is =
    let e : suc i ≡ i + 1 = omega arith in
    ap acts_of (drop-cons sayings i s lt) ∙ ap (λ t. act_said t ∷ acts_of (drop (suc i) sayings)) (sym is) ∙ ap (λ m. act_said s ∷ acts_of (drop m sayings)) e

pub rules_on : (c : Context) (said : List Act) (n : ℕ) (sayings : List Saying) (i : ℕ) (s : Saying) (broken rule : Option Rule) → i < length sayings → s ≡ get_or sayings i s →
    rule ≡ first_rule (breaks_rule c said (n + i) (act_said s)) →
    lesser (lesser broken rule) (first_rule (break_names c said (n + (i + 1)) (acts_of (drop (i + 1) sayings)))) ≡ lesser broken (first_rule (break_names c said (n + i) (acts_of (drop i sayings))))
rules_on c said n sayings i s broken rule lt is told =
    let e : n + (i + 1) ≡ n + i + 1 = omega arith in
    let rest = acts_of (drop (i + 1) sayings) in
    ap (λ m. lesser (lesser broken rule) (first_rule (break_names c said m rest))) e
    ∙ rules_passed c said (n + i) (act_said s) rest broken rule told
    ∙ ap (λ more. lesser broken (first_rule (break_names c said (n + i) more))) (sym (next_saying sayings i s lt is))

abbrev whole : Header → List Act → Labels → UnitRules
whole h more formats = record { context = context_by h more; said = more; formats = formats }

-- what the tables know of a unit is what the rules ask
pub whole_told : (vs : List Part) (names : UnitNames) (formats : List ℕ) → said_in (context_in names.declarations).header vs ≡ acts_in names.declarations →
    is_among formats ≡ with_formats vs no_label → whole_by names formats ≡ unit_whole (context_in names.declarations).header vs
whole_told vs names formats said has =
    let h = (context_in names.declarations).header in
    ap (λ more. whole h more (is_among formats)) (sym said) ∙ ap (whole h (said_in h vs)) has

-- what the header tells
module _ (p : Place) (vs : List Part) (d : Declarations) (said : said_in (context_in d).header vs ≡ acts_in d) where
  abbrev h : Header
  h = (context_in d).header

  abbrev behind_header : Option Rule → Option Fault
  behind_header o = or_else (fault_if p o) (first_broken (unit_whole h vs) nothing_before vs)

  header_same : (o : Option Rule) → o ≡ first_rule (breaks_unit_header (context_in d)) → behind_header o ≡ fault_of_parts h p vs
  header_same o told = ap behind_header (told ∙ ap (λ more. first_rule (breaks_unit_header (context_by h more))) (sym said))

  pub header_broken : (r : Rule) (f : Fault) → Some r ≡ first_rule (breaks_unit_header (context_in d)) → f ≡ fault_of p r → fault_of_parts h p vs ≡ Some f
  header_broken r f told is = sym (header_same (Some r) told) ∙ ap Some (sym is)

  pub header_passed : None ≡ first_rule (breaks_unit_header (context_in d)) → first_broken (unit_whole h vs) nothing_before vs ≡ fault_of_parts h p vs
  header_passed told = header_same None told
