-- A main with no statements is ready, and has a list: blank common alone.
use Rattle.std.proofs.Common.{◌≡◌, ◌<◌, ◌^◌, ℕ, zero, suc, [], ◌∷◌, slice_index, Option, None, Some, refl, arith}
use Rattle.std.proofs.lemmas.List.Elements.{All-nil, All-cons}
use Rattle.ground.specs.declared.place.Place.{Place}
use Rattle.f66_tree.specs.Syntax.{Text, MainUnit, Routine}
use Rattle.f66_program.specs.Association.{Block}
use Rattle.storage_assoc.specs.Indexing.{row_at}
use Rattle.storage_assoc.specs.Lists.{block_by}
use Rattle.storage_assoc.specs.Naming.{IsReady, AreListed}

module _ (place : Place) where
  abbrev empty : Routine
  empty = record { header = MainUnit; lines = []; place = place }

  ready : IsReady empty
  ready = record {
    tied = All-nil _;
    small = λ x p. absurd (cc);
  }

  abbrev nothing : {X : Type 0} → Text → Option X
  nothing x = None

  inside : (b : Option Text) → block_by nothing b < 1
  inside None = omega arith
  inside (Some x) = omega arith

  block : (i : ℕ) → i < 1 → (b : Option Text) × (row_at (Block None ∷ []) i ≡ Block b) × (block_by nothing b ≡ i) × (slice_index (0 ∷ []) i ≡ 0)
  block zero l = (None, refl, refl, refl)
  block (suc i) l = absurd (omega (arith, l))

  listed : AreListed empty nothing nothing nothing (0 ∷ []) 1 (Block None ∷ [])
  listed = record {
    many = refl;
    some = omega arith;
    few = omega arith;
    bounded = omega arith;
    small = All-cons (λ n. n < 2 ^ 16) 0 [] (omega arith) (All-nil (λ n. n < 2 ^ 16));
    blocks_inside = inside;
    block = block;
    all_blocks = All-nil _;
    name = λ i ge l. absurd (omega (arith, ge, l));
    row = λ x i e. absurd (cc);
    size = λ x i e. absurd (cc);
    shape = λ x p. absurd (cc);
    names = λ x p. absurd (cc);
  }
