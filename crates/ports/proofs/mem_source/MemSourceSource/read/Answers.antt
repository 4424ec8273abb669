-- What was read and what is left make up what was there; and a piece that is not empty gives some byte.
use Rattle.std.proofs.Common.{◌≡◌, ℕ, ◌+◌, ◌-◌, ◌<◌, ◌≤◌, length, take, drop, get_or, sym, ap, ◌∙◌, ◌++◌, List, arith, rules, Vec, vec_len, length-drop}
use Rattle.std.proofs.lemmas.List.{take_all}
use Rattle.std.specs.declared.alloc.Global.{Global}
use Rattle.ports.specs.Left.{left_in}
use Rattle.ports.specs.SourceContent.{SourceContent}
use Rattle.ports.proofs.Pieces.{read_part}
use Rattle.ports.proofs.mem_source.MemSourceSource.read.Goals as goal

pub returns-else-self-count-clause-bytes : goal.returns-else-self-count-clause-bytes
returns-else-self-count-clause-bytes c =
    let s = c.self.inside in
    let p : Vec ℕ Global = c.index-piece.result.now in
    let n : ℕ = c.copy_front-count.result in
    let lt : s.at < length s.pieces.items = search rules in
    let lt_len : s.at < vec_len s.pieces = search rules in
    let here : p ≡ get_or s.pieces.items s.at p = search rules in
    let inside : s.offset < length p.items = c.self.invariant.inside p lt_len here in
    let slice : c.deref-2.result.now ≡ p.items = search rules in
    let d : List ℕ = c.deref-2.result.now in
    let all : take (length d - s.offset) (drop s.offset d) ≡ drop s.offset d = take_all (length d - s.offset) (drop s.offset d) (omega (arith, length-drop s.offset d)) in
    let bytes : take n c.copy_front-count.new.into ≡ take n (drop s.offset p.items) = c.copy_front-count.ensures.bytes ∙ ap (λ (l : List ℕ). take n l) (all ∙ ap (λ (l : List ℕ). drop s.offset l) slice) in
    let fits : s.offset + n ≤ length p.items = search rules in
    let some : 0 < length c.copy_front-count.new.into → 0 < length (drop s.offset p.items) → 0 < n = search rules in (
      ap (λ (content : SourceContent). content.left) (sym c.self.view_is) ∙ read_part s.pieces.items s.at s.offset n p lt here fits ∙ ap (λ (l : List ℕ). l ++ left_in s.pieces.items s.at (s.offset + n)) (sym bytes),
      λ none room. let more : 0 < length (drop s.offset p.items) = omega (arith, length-drop s.offset p.items, inside) in absurd (omega (arith, some room more)),
    )
