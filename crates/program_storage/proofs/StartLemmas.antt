-- Before the first unit there are the blocks alone.
use Rattle.std.proofs.Common.{◌≡◌, ◌<◌, ◌^◌, ℕ, zero, suc, List, [], ◌∷◌, length, map, replicate, slice_index, Option, None, Some, unwrap_or, sym, ◌∙◌, ap, refl, arith}
use Rattle.std.proofs.lemmas.List.{get_or-map, get_or-replicate, length-map, length-replicate}
use Rattle.std.proofs.lemmas.List.Elements.{All-replicate}
use Rattle.f66_tree.specs.Syntax.{Text}
use Rattle.f66_program.specs.Association.{Row, Block}
use Rattle.storage_assoc.specs.Indexing.{no_row, row_at}
use Rattle.storage_assoc.specs.Listings.{AreNumberedFrom, name_at}
use Rattle.storage_assoc.specs.Lists.{block_by}
use Rattle.program_storage.specs.Rows.{index_in, IsBelow, AreRowsOf, AreLinked}

module _ (labels : List Text) (blocks : Text → Option ℕ) (l : AreNumberedFrom 1 labels blocks) (find : ℕ → Text → Option ℕ) (none : (u : ℕ) (x : Text) → find u x ≡ None) where
  abbrev pub block_rows : List Row
  block_rows = Block None ∷ map (λ x. Block (Some x)) labels

  many_blocks : length block_rows ≡ suc (length labels)
  many_blocks = ap suc (length-map labels (λ x. Block (Some x)))

  block_row : (k : ℕ) → k < length labels → row_at block_rows (suc k) ≡ Block (Some (name_at labels k))
  block_row k lt = get_or-map (λ x. Block (Some x)) labels k [] no_row lt

  numbered : (i : ℕ) → i < suc (length labels) → index_in find blocks (row_at block_rows i) ≡ i
  numbered zero lt = refl
  numbered (suc k) lt =
      let k_in : k < length labels = omega (arith, lt) in
      ap (index_in find blocks) (block_row k k_in) ∙ ap (λ o. unwrap_or o 0) (l.has k k_in) ∙ omega arith

  block_of : (i : ℕ) → i < suc (length labels) → (b : Option Text) × (row_at block_rows i ≡ Block b)
  block_of zero lt = (None, refl)
  block_of (suc k) lt = (Some (name_at labels k), block_row k (omega (arith, lt)))

  below : (i : ℕ) → i < suc (length labels) → IsBelow 0 (row_at block_rows i)
  below i lt = (let b = block_of i lt in rw b.1 tt)

  block_inside : (x : Text) (o : Option ℕ) → blocks x ≡ o → unwrap_or o 0 < suc (length labels)
  block_inside x None e = omega arith
  block_inside x (Some i) e = (let o = l.only x i e in let lt = o.1 in let at = o.2 in omega (arith, lt, at))

  blocks_inside : (b : Option Text) → block_by blocks b < suc (length labels)
  blocks_inside None = omega arith
  blocks_inside (Some x) = block_inside x (blocks x) refl

  no_size : (i : ℕ) → i < suc (length labels) → slice_index (replicate (suc (length labels)) 0) i ≡ 0
  no_size i lt = get_or-replicate (suc (length labels)) i 0 0 lt

  pub start_rows : AreRowsOf [] find blocks (replicate (suc (length labels)) 0) (suc (length labels)) block_rows
  start_rows = record {
    numbered = λ i lt. numbered i (rw many_blocks at lt);
    below = λ i lt. below i (rw many_blocks at lt);
    few = rw many_blocks (omega arith);
    first = block_of;
    blocks_inside = blocks_inside;
    blank = refl;
    labelled = λ q i e. (let o = l.only q i e in let at : i ≡ suc o.0 = (let n = o.2 in omega (arith, n)) in rw at (block_row o.0 o.1 ∙ ap (λ x. Block (Some x)) o.3));
    small = All-replicate (λ n. n < 2 ^ 16) (suc (length labels)) 0 (omega arith);
    sized = record {
      many = length-replicate (suc (length labels)) 0 ∙ sym many_blocks;
      finds = λ u x i e. absurd (let n = none u x in cc);
      real = λ u x o k. absurd (let e : None ≡ Some k.unit = k.here in cc);
      only = λ i o lt o_in. absurd (let z = no_size i (rw many_blocks at lt) in omega (arith, z, o_in));
    };
    spot = λ u x i e. absurd (let n = none u x in cc);
    all = λ u r x e p. absurd (cc);
  }

  pub start_links : AreLinked [] find blocks [] block_rows
  start_links = record {
    links_are = refl;
    from_in = λ t c. absurd (let lt = c.1 in omega (arith, lt));
    to_in = λ t c. absurd (let lt = c.1 in omega (arith, lt));
  }
