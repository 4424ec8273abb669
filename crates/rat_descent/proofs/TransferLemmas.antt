-- The entries of an implied DO, one behind the others.
use Rattle.std.proofs.Common.{◌≡◌, List, [], ◌∷◌, ◌++◌, map, ap, subst, sym, ◌∙◌, append_assoc}
use Rattle.grammar.specs.declared.language.Symbol.{Symbol}
use Rattle.f66_tree.specs.Syntax as f66
use Rattle.f66_tree.specs.Syntax.{Many}
use Rattle.f66_tree.specs.Views.{entry_of, listed}
use Rattle.f66_tree.specs.declared.statement.Entry.{Entry}
use Rattle.rat_parse_table.specs.declared.table.Terminal.{Terminal}
use Rattle.rat_parse_table.specs.declared.table.Nonterminal.{Nonterminal}
use Rattle.rat_parse_values.specs.Kinds.{LoopRest}
use Rattle.rat_parse_values.specs.Values.{Val, entry}
use Rattle.rat_descent.specs.Reading.{Reader, Reads}
use Rattle.rat_descent.proofs.Productions.{viewed_more}

pub read_at : {x : Symbol Terminal Nonterminal} {r q s : Reader} {v : Val} → q ≡ r → Reads x q v s → Reads x r v s
read_at {x = x} {s = s} {v = v} same reads = subst (λ u. Reads x u v s) same reads

-- the rest of a loop behind one more entry
abbrev pub behind : f66.Entry → LoopRest → LoopRest
behind a v = record { list = a ∷ v.list; variable = v.variable; range = v.range }

pub longer : (xs : List Entry) (x : Entry) (v : LoopRest) {ys : List Entry} → ys ≡ xs ++ x ∷ []
    → entry (Many (listed (map entry_of xs ++ entry_of x ∷ v.list)) v.variable v.range.first v.range.last v.range.step)
    ≡ entry (Many (listed (map entry_of ys ++ v.list)) v.variable v.range.first v.range.last v.range.step)
longer xs x v e =
    ap (λ all. entry (Many (listed all) v.variable v.range.first v.range.last v.range.step))
    (sym (append_assoc (map entry_of xs) (entry_of x ∷ []) v.list) ∙ ap (λ zs. zs ++ v.list) (sym (viewed_more entry_of xs x e)))
