-- There are the blocks alone.
use Rattle.std.proofs.Common.{◌≡◌, ◌+◌, ◌∙◌, ℕ, suc, List, [], ap, length, replicate, subst, sym, arith, None}
use Rattle.std.proofs.lemmas.List.{length-map}
use Rattle.program_storage.specs.Parts.{find_in}
use Rattle.program_storage.specs.Rows.{AreRowsOf, AreLinked}
use Rattle.storage_assoc.specs.Listings.{names_in, number_of_name}
use Rattle.program_storage.proofs.StartLemmas.{block_rows, start_rows, start_links}
use Rattle.program_storage.proofs.gathering.block_rows.Goals as goal

pub returns-clause-part : goal.returns-clause-part
returns-clause-part c =
    let listing = c.args.labels.now in
    let labels = names_in listing in
    let blocks = number_of_name listing in
    let units = c.new.result.items in
    let sizes = c.in_ok-sizes.sizes.items in
    let find = find_in units in
    let none : (u : ℕ) (x : List ℕ) → find u x ≡ None = λ u x. ap (λ us. find_in us u x) c.new.ensures.items in
    let many : suc (length labels) ≡ suc (length listing.names.items) = ap suc (length-map listing.names.items (λ n. n.now)) in
    let count : c.len-2.result + 1 ≡ suc (length labels) = grind (arith, many) in
    let sizes_are : sizes ≡ replicate (suc (length labels)) 0 = c.in_ok-sizes.ensures ∙ ap (λ n. replicate n 0) count in
    let rows = block_rows labels blocks c.requires find none in
    record {
      rows = rows;
      many = ap length c.new.ensures.items;
      table = subst (λ n. AreRowsOf [] find blocks sizes n rows) many (subst (λ ss. AreRowsOf [] find blocks ss (suc (length labels)) rows) (sym sizes_are) (start_rows labels blocks c.requires find none));
      linked = subst (λ ls. AreLinked [] find blocks ls rows) (sym c.new-2.ensures.items) (start_links labels blocks c.requires find none);
    }
