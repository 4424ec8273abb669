-- The bytes of the statements that routes become, at most. Each label that is made counts for 169, so that a bound of the bytes is one
-- of the labels too.
use Rattle.std.proofs.Common.{◌≡◌, ◌≤◌, ◌+◌, ◌*◌, ℕ, arith, List, ◌∷◌}
use Rattle.f66_tree.specs.declared.editing.Way.{Way}
use Rattle.f66_tree.specs.declared.editing.Way.TheVariants.{Reading, Writing}
use Rattle.f66_tree.specs.Syntax.{Par, Entries, Line}
use Rattle.plain_decks.specs.Bytes.{act_bytes, lines_bytes}
use Rattle.plain_decks.specs.Few.{entries_of}
use Rattle.routes.specs.Routes.{Route, Plain, BreakIf, Break, Ring, Cycle, Block, InTurn, Labelled, Transfer, Routes, NoRoute, AndRoute}
use Rattle.routes.specs.Code.{Behind, jump, here, labels, all_labels, transfer, code_of, all_code}

abbrev mutual
  pub route_bytes : Route → ℕ
  route_bytes (Plain p a) = act_bytes a
  route_bytes (BreakIf p e k) = 60
  route_bytes (Break p k) = 60
  route_bytes (Ring p rs) = all_bytes rs + 169
  route_bytes (Cycle p top rest) = all_bytes top + (all_bytes rest + 338)
  route_bytes (Block rs) = all_bytes rs
  route_bytes (InTurn rs) = all_bytes rs
  route_bytes (Labelled l p r) = 60 + route_bytes r
  route_bytes (Transfer p way u fs es) = 1514 + 15 * entries_of es

  pub all_bytes : Routes → ℕ
  all_bytes NoRoute = 0
  all_bytes (AndRoute r rs) = route_bytes r + all_bytes rs

mutual
  one_label : (r : Route) → 169 * labels r ≤ route_bytes r
  one_label (Plain p a) = omega arith
  one_label (BreakIf p e k) = omega arith
  one_label (Break p k) = omega arith
  one_label (Ring p rs) = omega (arith, label_bytes rs)
  one_label (Cycle p top rest) = omega (arith, label_bytes top, label_bytes rest)
  one_label (Block rs) = label_bytes rs
  one_label (InTurn rs) = label_bytes rs
  one_label (Labelled l p r) = omega (arith, one_label r)
  one_label (Transfer p way u fs es) = omega arith

  pub label_bytes : (rs : Routes) → 169 * all_labels rs ≤ all_bytes rs
  label_bytes NoRoute = omega arith
  label_bytes (AndRoute r rs) = omega (arith, one_label r, label_bytes rs)

transfer_bytes : (way : Way) (u : Par) (l : ℕ) (es : Entries) → act_bytes (transfer way u l es) ≡ 60 + 15 * entries_of es
transfer_bytes Reading u l es = omega arith
transfer_bytes Writing u l es = omega arith

module _ (made : ℕ → ℕ) where
  mutual
    route_code : (r : Route) (n : ℕ) (ls : Behind) (next : List Line) → lines_bytes (code_of made r n ls next) ≤ route_bytes r + lines_bytes next
    route_code (Plain p a) n ls next = omega arith
    route_code (BreakIf p e k) n ls next = omega arith
    route_code (Break p k) n ls next = omega arith
    route_code (Ring p rs) n ls next = (let last : List Line = here (made n) p ∷ next in omega (arith, code_bytes rs (n + 1) (made n ∷ ls) last))
    route_code (Cycle p top rest) n ls next =
        let last : List Line = jump p (made n) ∷ here (made (n + 1)) p ∷ next in
        let behind : List Line = all_code made rest (n + 2 + all_labels top) (made (n + 1) ∷ ls) last in
        omega (arith, code_bytes top (n + 2) (made (n + 1) ∷ ls) behind, code_bytes rest (n + 2 + all_labels top) (made (n + 1) ∷ ls) last)
    route_code (Block rs) n ls next = code_bytes rs n ls next
    route_code (InTurn rs) n ls next = code_bytes rs n ls next
    route_code (Labelled l p r) n ls next = omega (arith, route_code r n ls next)
    route_code (Transfer p way u fs es) n ls next = omega (arith, transfer_bytes way u (made n) es)

    pub code_bytes : (rs : Routes) (n : ℕ) (ls : Behind) (next : List Line) → lines_bytes (all_code made rs n ls next) ≤ all_bytes rs + lines_bytes next
    code_bytes NoRoute n ls next = omega arith
    code_bytes (AndRoute r rs) n ls next = omega (arith, route_code r n ls (all_code made rs (n + labels r) ls next), code_bytes rs (n + labels r) ls next)
